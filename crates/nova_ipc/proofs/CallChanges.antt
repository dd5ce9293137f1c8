-- What becomes of a context whose call ended, and of the table with the last item of a reply.
use Rattle.std.proofs.Common.{◌≡◌, ℕ, refl, arith, IsSome}
use Rattle.std.specs.Prelude.{◌≢◌, Option, Some, None}
use Rattle.nova_utcb.specs.Files.{IsFile}
use Rattle.nova_range.specs.Statuses.{status_code}
use Rattle.nova_range.specs.declared.status.Status.{Status}
use Rattle.nova_range.specs.declared.status.Status.TheVariants.{Success, Aborted}
use Rattle.nova_model.specs.State.{Contexts, KernelState, ec_in, ec_of}
use Rattle.nova_model.specs.Deeds.{answered, answered_registers, parked, performed}
use Rattle.nova_model.specs.declared.context.EcState.{EcState}
use Rattle.nova_model.specs.declared.context.Mark.TheVariants.{Call}
use Rattle.nova_model.specs.declared.deed.Deed.TheVariants.{Finishes}
use Rattle.nova_model.specs.declared.transfer.ItemEnd.{ItemEnd}
use Rattle.nova_model.specs.declared.transfer.ItemWords.{ItemWords}
use Rattle.nova_model.specs.declared.transfer.Sequel.TheVariants.{Replied}
use Rattle.nova_ec.proofs.Handlers.{both_second, one_register, other_register, put_itself}
use Rattle.nova_ipc.specs.CallEffects.{completed_among, aborted_among}
use Rattle.nova_ipc.specs.Serving.{Returns}

returns_with : (x : EcState) (status : Status) → IsFile x.regs → Returns x (answered x status None) (status_code status)
returns_with x status is = record {
  same = record { id = refl; cpu = refl; recall = refl };
  caller = refl;
  state = refl;
  pc = refl;
  status = one_register x.regs (status_code status) (omega (arith, is.size));
  registers = λ i other. other_register x.regs (answered_registers x.regs status None).pc (status_code status) i other;
}

pub reply_caller : (cs : Contexts) (h e : ℕ) → IsSome (ec_in cs e) → h ≢ e → IsFile (ec_of cs e).regs →
    (y : EcState) × (ec_in (completed_among cs h e) e ≡ Some y) × Returns (ec_of cs e) y 0
reply_caller cs h e is two file = (
  answered (ec_of cs e) Success None,
  both_second cs h e (parked (ec_of cs h)) (λ x. answered x Success None) is two,
  returns_with (ec_of cs e) Success file,
)

pub abort_caller : (cs : Contexts) (e : ℕ) → IsSome (ec_in cs e) → IsFile (ec_of cs e).regs →
    (y : EcState) × (ec_in (aborted_among cs e) e ≡ Some y) × Returns (ec_of cs e) y 2
abort_caller cs e is file =
    (answered (ec_of cs e) Aborted None, put_itself cs e (answered (ec_of cs e) Aborted None) is, returns_with (ec_of cs e) Aborted file)

pub reply_finishes : (k : KernelState) (ec item caller : ℕ) (end : ItemEnd) (words : Option ItemWords) →
    (performed k ec (Finishes item end words (Replied caller Call))).contexts ≡ completed_among k.contexts ec caller
reply_finishes k ec item caller end None = refl
reply_finishes k ec item caller end (Some w) = refl
