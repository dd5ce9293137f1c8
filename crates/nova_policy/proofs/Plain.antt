-- The form is one of arguments and options alone.
use Rattle.std.proofs.Common.{refl}
use Rattle.clap.proofs.OnLiterals.{clap_on_literals}
use Rattle.nova_command.specs.Parsing.{IsPlainForm}
use Rattle.nova_policy.specs.Form.{form}

pub plain : IsPlainForm form
unfolding clap_on_literals
plain = record { simple = refl; free = refl }
