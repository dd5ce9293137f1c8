-- The message of an exit, what a reply writes back, and the table with the last item of one.
use Rattle.std.proofs.Common.{◌≡◌, ◌<◌, ℕ, zero, suc, List, [], ◌∷◌, get_or, slice_set, ap, ◌∙◌, refl, arith, IsSome}
use Rattle.std.specs.Prelude.{◌≢◌, Option, Some, None}
use Rattle.std.proofs.lemmas.Bool.Decides.{nat_tests}
use Rattle.rv_model.specs.Registers.{Registers}
use Rattle.nova_range.specs.declared.mtd.Mtd.{Mtd}
use Rattle.nova_utcb.specs.Files.{IsFile}
use Rattle.nova_utcb.specs.Messages.{exited, register_back, written_back}
use Rattle.nova_utcb.proofs.Ruled.{length_ruled, get_ruled, get_kept}
use Rattle.nova_model.specs.State.{Contexts, KernelState, context, ec_in, ec_of, message}
use Rattle.nova_model.specs.Deeds.{parked, performed, resumed, told}
use Rattle.nova_model.specs.declared.context.EcState.{EcState}
use Rattle.nova_model.specs.declared.context.Mark.TheVariants.{Exit}
use Rattle.nova_model.specs.declared.context.State.{State}
use Rattle.nova_model.specs.declared.context.State.TheVariants.{Calling}
use Rattle.nova_model.specs.declared.deed.Deed.TheVariants.{Finishes, Sends}
use Rattle.nova_model.specs.declared.transfer.ItemEnd.{ItemEnd}
use Rattle.nova_model.specs.declared.transfer.ItemWords.{ItemWords}
use Rattle.nova_model.specs.declared.transfer.Sequel.TheVariants.{Replied}
use Rattle.nova_ec.specs.Tables.{turned_to}
use Rattle.nova_ec.proofs.Handlers.{both_second}
use Rattle.nova_ipc.specs.ExitEffects.{written_back_among}
use Rattle.nova_ipc.specs.Reaching.{AreBack, GoesOn}

-- registers stay where a context is about to do another thing, whether it is there or not
turned_registers : (cs : Contexts) (e : ℕ) (state : State) → (ec_of (turned_to cs e state) e).regs ≡ (ec_of cs e).regs
turned_registers [] e state = refl
turned_registers (c ∷ cs) zero state = refl
turned_registers (c ∷ cs) (suc e) state = turned_registers cs e state

pub sent_message : (k : KernelState) (ec handler ip identifier reason q0 q1 : ℕ) (mtd : Mtd) →
    (performed k ec (Sends handler ip identifier mtd reason q0 q1)).messages
    ≡ slice_set k.messages handler (Some (exited mtd q0 q1 (context k ec).regs (message k handler)))
sent_message k ec handler ip identifier reason q0 q1 mtd =
    ap (λ (r : Registers). slice_set k.messages handler (Some (exited mtd q0 q1 r (message k handler)))) (turned_registers k.contexts ec (Calling handler))

-- What a reply writes back
back_is : (m : List ℕ) (r : Registers) (i : ℕ) → IsFile r → i < 32 → get_or (written_back m r).x i 0 ≡ register_back m i (get_or r.x i 0)
unfolding written_back
back_is m r i is within = get_ruled (register_back m) r.x i 0 (omega (arith, is.size, within))

are_back : (m : List ℕ) (r : Registers) → IsFile r → AreBack r (written_back m r) m
unfolding written_back
are_back m r is = record {
  pc = refl;
  low = λ i a b. let e = back_is m r i is (omega (arith, b)) in grind (arith, nat_tests, e);
  high = λ i a b. let e = back_is m r i is (omega (arith, b)) in grind (arith, nat_tests, e);
  file = record {
    size = length_ruled (register_back m) r.x ∙ is.size;
    zero = get_kept (register_back m) r.x 0 (λ w. refl) ∙ is.zero;
  };
}

goes_on : (x : EcState) (m : List ℕ) → IsFile x.regs → GoesOn x (resumed x Exit m) m
goes_on x m is = record {
  same = record { id = refl; cpu = refl; recall = refl };
  caller = refl;
  state = refl;
  registers = are_back m x.regs is;
}

pub reply_caller : (cs : Contexts) (h e : ℕ) (m : List ℕ) → IsSome (ec_in cs e) → h ≢ e → IsFile (ec_of cs e).regs →
    (y : EcState) × (ec_in (written_back_among cs h e m) e ≡ Some y) × GoesOn (ec_of cs e) y m
reply_caller cs h e m is two file = (
  resumed (ec_of cs e) Exit m,
  both_second cs h e (parked (ec_of cs h)) (λ x. resumed x Exit m) is two,
  goes_on (ec_of cs e) m file,
)

-- the last item of a reply
pub reply_finishes : (k : KernelState) (ec item caller : ℕ) (end : ItemEnd) (words : Option ItemWords) →
    (performed k ec (Finishes item end words (Replied caller Exit))).contexts ≡ written_back_among k.contexts ec caller (message (told k item words) ec)
reply_finishes k ec item caller end None = refl
reply_finishes k ec item caller end (Some w) = refl
