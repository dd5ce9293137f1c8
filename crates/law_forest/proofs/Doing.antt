-- The state after a deed is that after its effect.
use Rattle.std.proofs.Common.{◌≡◌, ℕ, zero, suc, List, [], ◌∷◌, refl, ap, sym}
use Rattle.std.specs.Prelude.{true, false, slice_get, slice_set, Option, Some, None, option_map}
use Rattle.rv_model.specs.Registers.{Registers}
use Rattle.rv_model.specs.Step.{Once, Raised, Went, Store}
use Rattle.nova_range.specs.declared.status.Status.TheVariants.{Success}
use Rattle.nova_utcb.specs.Messages.{exited}
use Rattle.nova_model.specs.AddressSpaces.{words_at, stored_among}
use Rattle.nova_model.specs.Deeds.{address_space, answered, done, instruction, recalled, stepped, with_context}
use Rattle.nova_model.specs.Inputs.{store_of}
use Rattle.nova_model.specs.State.{with_ec, KernelState, context, context_in, ec_in, entry, message}
use Rattle.nova_model.specs.declared.context.EcState.{EcState}
use Rattle.nova_model.specs.declared.context.Mark.TheVariants as mark
use Rattle.nova_model.specs.declared.context.State.{State}
use Rattle.nova_model.specs.declared.context.State.TheVariants.{Calling}
use Rattle.nova_model.specs.declared.deed.Deed.{Deed}
use Rattle.nova_model.specs.declared.deed.Deed.TheVariants.{Rests, Steps, Aborts, Sends, Recalls, Finishes, Replies, Ups, Blocks}
use Rattle.nova_model.specs.declared.transfer.Sequel.TheVariants as sequel
use Rattle.law_forest.specs.Effects.{Answers, Moves, applied, edit_at, effect, recalls_by, steps_by, store_words, words_stored}

-- what holds of the entry of a number, where another or the same is set
pub set_at : {T : Type 0} (Q : Option T → Type 0) (xs : List (Option T)) (e f : ℕ) (x : T) → Q (entry (slice_get xs f)) → (f ≡ e → Q (Some x)) →
    Q (entry (slice_get (slice_set xs e (Some x)) f))
set_at Q [] e f x old new = old
set_at Q (o ∷ xs) zero zero x old new = new refl
set_at Q (o ∷ xs) zero (suc f) x old new = old
set_at Q (o ∷ xs) (suc e) zero x old new = old
set_at Q (o ∷ xs) (suc e) (suc f) x old new = set_at Q xs e f x old (λ same. new (ap suc same))

-- an exit leaves the registers of the context that raised it
regs_stay : (k : KernelState) (ec : ℕ) (s : State) → (context (with_context k ec (record (context k ec) { state = s })) ec).regs ≡ (context k ec).regs
regs_stay k ec s = set_at (λ (o : Option EcState). (context_in o).regs ≡ (context k ec).regs) k.contexts ec ec (record (context k ec) { state = s }) refl (λ same. refl)

-- an instruction: the state after an instruction that went on, by what its store reaches of its words
abbrev went : KernelState → ℕ → Registers → Option Store → Option (ℕ × List ℕ) → KernelState
went k ec regs store words = applied k (record (effect k ec Rests) {
  edits = (ec, Moves regs) ∷ [];
  words = words;
  store = option_map (λ s. (address_space k ec, s)) store;
})

stepped_is : (k : KernelState) (ec : ℕ) (o : Once) → stepped k ec o ≡ applied k (record (effect k ec Rests) {
  edits = steps_by ec o;
  words = store_words (address_space k ec) ec (store_of o);
  store = option_map (λ s. (address_space k ec, s)) (store_of o);
})
stepped_is k ec (Raised reason q0 q1) = refl
stepped_is k ec (Went regs None) = refl
stepped_is k ec (Went regs (Some s)) = by_words (words_at (address_space k ec) s.address)
  where
    by_words : (o : Option (List ℕ)) →
        record (went k ec regs (Some s) None) { messages = stored_among k.messages ec s o } ≡ went k ec regs (Some s) (words_stored ec s o)
    by_words None = refl
    by_words (Some m) = refl

-- a recall
recalled_is : (k : KernelState) (ec whose : ℕ) (o : Option EcState) → ec_in (edit_at k.contexts ec (Answers Success None)) whose ≡ o →
    recalled (with_context k ec (answered (context k ec) Success None)) whose o
    ≡ applied k (record (effect k ec Rests) { edits = (ec, Answers Success None) ∷ recalls_by whose o })
recalled_is k ec whose None is = refl
recalled_is k ec whose (Some x) is =
    ap (λ (y : EcState). record k { contexts = with_ec (edit_at k.contexts ec (Answers Success None)) whose (record y { recall = true }) }) (sym (ap context_in is))

pub done_is : (k : KernelState) (ec : ℕ) (d : Deed) → done k ec d ≡ applied k (effect k ec d)
done_is k ec Steps = stepped_is k ec (instruction k ec)
done_is k ec (Finishes item end None sequel.Item) = refl
done_is k ec (Finishes item end (Some w) sequel.Item) = refl
done_is k ec (Finishes item end None sequel.Opened) = refl
done_is k ec (Finishes item end (Some w) sequel.Opened) = refl
done_is k ec (Finishes item end None sequel.Taken) = refl
done_is k ec (Finishes item end (Some w) sequel.Taken) = refl
done_is k ec (Finishes item end None (sequel.Replied caller mark)) = refl
done_is k ec (Finishes item end (Some w) (sequel.Replied caller mark)) = refl
done_is k ec (Replies caller mark.Call true) = refl
done_is k ec (Replies caller mark.Call false) = refl
done_is k ec (Replies caller mark.Exit true) = refl
done_is k ec (Replies caller mark.Exit false) = refl
done_is k ec (Aborts handler mark.Call) = refl
done_is k ec (Ups sm None) = refl
done_is k ec (Ups sm (Some w)) = refl
done_is k ec (Blocks sm None) = refl
done_is k ec (Blocks sm (Some d)) = refl
done_is k ec (Recalls whose) = recalled_is k ec whose (ec_in (edit_at k.contexts ec (Answers Success None)) whose) refl
done_is k ec (Sends handler ip identifier mtd reason q0 q1) =
    ap (λ (r : Registers). applied k (record (effect k ec (Sends handler ip identifier mtd reason q0 q1)) { words = Some (handler, exited mtd q0 q1 r (message k handler)) }))
    (regs_stay k ec (Calling handler))
done_is k ec other = refl
