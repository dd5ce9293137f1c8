-- What is found while a deed is decided.
use Rattle.std.proofs.Common.{◌≡◌, ℕ}
use Rattle.std.specs.Prelude.{Some, Err}
use Rattle.rv_model.specs.Registers.{reg}
use Rattle.nova_calls.specs.declared.numbers.TheConstants.{REVOKE}
use Rattle.nova_model.specs.Deliveries.{delivery}
use Rattle.nova_model.specs.State.{KernelState, context, transfer}
use Rattle.nova_model.specs.Translations.{translated}
use Rattle.nova_model.specs.declared.context.State.TheVariants.{Calling}
use Rattle.nova_model.specs.declared.deed.Deed.{Deed}
use Rattle.nova_model.specs.declared.deed.Deed.TheVariants as deeds
use Rattle.nova_model.specs.declared.transfer.Delivery.{Delivery}
use Rattle.nova_model.specs.declared.transfer.ItemEnd.{ItemEnd}
use Rattle.nova_model.specs.declared.transfer.ItemEnd.TheVariants.{Given, Skipped, Translated}
use Rattle.law_forest.proofs.Walk.{job_in}
use Rattle.law_integrity.specs.Rightful.{IsRightful, MovesPast}

-- how an item ended
abbrev pub Ended : KernelState → ℕ → ItemEnd → Type 0
Ended k ec (Given children) = children ≡ (transfer k ec).children
Ended k ec (Skipped skip) = (v : Delivery) × (delivery k ec (context k ec).state ≡ Some v) × (job_in v ≡ Err skip)
Ended k ec (Translated word) =
    (v : Delivery) × (delivery k ec (context k ec).state ≡ Some v) × (word ≡ translated k.delegations.list v.range_word v.translations v.giver v.receiver)

-- what is found while a deed is decided; what it may make is known already
abbrev pub Found : KernelState → ℕ → Deed → Type 0
Found k ec (deeds.Makes call target made) = Unit {0}
Found k ec (deeds.Opens target domain) = Unit {0}
Found k ec (deeds.Gives child cursor) = MovesPast k ec cursor
Found k ec (deeds.Skips reason place cursor) = MovesPast k ec cursor
Found k ec (deeds.Finishes item end words follows) = Ended k ec end
Found k ec (deeds.Revokes range own) = reg (context k ec).regs 17 ≡ REVOKE
Found k ec deeds.Returns = Unit {0}
Found k ec (deeds.Aborts handler came) = (context k ec).state ≡ Calling handler
Found k ec d = IsRightful k ec d
