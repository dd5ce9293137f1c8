-- A side is at work until the first lapse that is of it.
use Rattle.std.proofs.Common.{ℕ, List, refl}
use Rattle.std.specs.Prelude.{Bool, false}
use Rattle.nova_model.specs.State.{KernelState}
use Rattle.nova_flowing.specs.Deriving.{first_made}
use Rattle.nova_flowing.specs.Working.{IsWorkEnd, IsWorkTold, first_lapse, may_revoke, work_by}
use Rattle.nova_flowing.specs.declared.lapse.Lapse.{Lapse}
use Rattle.nova_flowing.proofs.Deriving.{told_by}

pub work_ends : (S : ℕ → Bool) (k : KernelState) (n : ℕ) (turns : List ℕ) (lapses : List Lapse) → ((revokes : Bool) → IsWorkTold revokes S k n turns (first_lapse revokes S lapses)) →
    IsWorkEnd S k n turns (work_by k.delegations.list S lapses)
work_ends S k n turns lapses told = record {
  derives = told_by k S (first_made k.delegations.list S) refl;
  works = told (may_revoke (first_made k.delegations.list S));
  calm = told false;
}
