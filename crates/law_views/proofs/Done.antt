-- What is done is told.
use Rattle.std.proofs.Common.{◌≡◌, ℕ, zero, suc, ◌<◌, ◌≢◌, ◌%◌, List, [], ◌∷◌, length, ap, sym, ◌∙◌, subst, refl, arith}
use Rattle.std.specs.Prelude.{Bool, true, false, ◌==◌, IfSome, Option, Some, None, is_some, option_and_then, slice_get, if◌then◌else◌}
use Rattle.std.proofs.lemmas.Bool.{eq-eqb}
use Rattle.rv_model.specs.Step.{Once, Raised, Went, environment_call}
use Rattle.law_forest.proofs.Actors.{of_input}
use Rattle.nova_guest.specs.Admitted.{acts}
use Rattle.nova_guest.specs.declared.input.Input.{Input}
use Rattle.nova_guest.specs.declared.input.Input.TheVariants as input_as
use Rattle.law_isolation.specs.Sound.{IsSound, IsVirtual}
use Rattle.law_isolation.proofs.Admits.{view_state}
use Rattle.law_isolation.proofs.Outputs.{IsOwn, guest_no_thread}
use Rattle.law_isolation.proofs.OwnTurns.{not_thread, own_deed, own_is}
use Rattle.law_isolation.proofs.Premises.{IsGuest, guest as guest_there}
use Rattle.law_isolation.proofs.Turns.{other_is}
use Rattle.nova_model.specs.Choice.{next_to_act}
use Rattle.nova_model.specs.Deeds.{deed, deed_in, instruction, ready, signalled, stepping}
use Rattle.nova_model.specs.Guests.{input}
use Rattle.nova_model.specs.Inputs.{contents_of, foreign_at, foreign_by, given_of, in_ram, only_if, others_input, own_input, reply_groups, reply_of, reply_words, store_of}
use Rattle.nova_model.specs.State.{KernelState, context, is_thread, message, pd_of}
use Rattle.nova_model.specs.Views.{guest_state, view}
use Rattle.nova_model.specs.declared.context.Mark.TheVariants as mark
use Rattle.nova_model.specs.declared.context.State.{State}
use Rattle.nova_model.specs.declared.context.State.TheVariants.{Fresh, Ready}
use Rattle.nova_model.specs.declared.deed.Deed.{Deed}
use Rattle.nova_model.specs.declared.deed.Deed.TheVariants.{Steps, Raises, Dies, Sends, Recalls, Gives, Removes, Finishes, Replies, Aborts}
use Rattle.nova_model.specs.declared.transfer.Sequel.TheVariants.{Replied}
use Rattle.law_origins.specs.Giving.{Acts}
use Rattle.nova_range.specs.declared.rights.Rights.{Rights}
use Rattle.law_views.specs.Said.{AfterItems, AtOnce, Completes, Delegates, IsOwnDeed, IsOwnTurn, IsToldReply, Stores, TakesAway}
use Rattle.law_origins.proofs.Actors.{input_is}
use Rattle.law_views.proofs.Said.{of_memory, tells, view_covers}

-- NO CONTEXT ACTS

pub nobody_told : (k : KernelState) (cpu g : ℕ) → next_to_act k cpu ≡ None → input k cpu g ≡ None
nobody_told k cpu g none = of_input (λ o. o ≡ None) k cpu g refl (λ c chosen. absurd (let both : None ≡ Some c = sym none ∙ chosen in cc))

-- ITS OWN

own_input_is : (k : KernelState) (cpu g : ℕ) → Acts k cpu g → input k cpu g ≡ own_input (deed k g)
own_input_is k cpu g is = input_is k cpu g g is ∙ own_is k g (deed k g)

own_deed_told : (i : Input) (d : Deed) → IsOwnDeed i d → own_input d ≡ Some i
own_deed_told input_as.Own Steps own = refl
own_deed_told input_as.Own (Raises reason q0 q1) own = refl
own_deed_told input_as.Sent (Sends handler ip identifier mtd reason q0 q1) own = refl
own_deed_told input_as.Died (Dies reason q0) own = refl
own_deed_told input_as.Died (Aborts handler came) own = refl
own_deed_told i d own = absurd own

pub itself_told : (k : KernelState) (cpu g : ℕ) (i : Input) → Acts k cpu g → IsOwnTurn k g g i → input k cpu g ≡ Some i
itself_told k cpu g i is turn = own_input_is k cpu g is ∙ own_deed_told i (deed k g) turn.does

said_own : (k : KernelState) (g : ℕ) (d : Deed) → deed k g ≡ d → IfSome (own_input d) (IsOwnTurn k g g)
said_own k g Steps is = record { itself = refl; does = subst (IsOwnDeed input_as.Own) (sym is) tt }
said_own k g (Raises reason q0 q1) is = record { itself = refl; does = subst (IsOwnDeed input_as.Own) (sym is) tt }
said_own k g (Sends handler ip identifier mtd reason q0 q1) is = record { itself = refl; does = subst (IsOwnDeed input_as.Sent) (sym is) tt }
said_own k g (Dies reason q0) is = record { itself = refl; does = subst (IsOwnDeed input_as.Died) (sym is) tt }
said_own k g (Aborts handler came) is = record { itself = refl; does = subst (IsOwnDeed input_as.Died) (sym is) tt }
said_own k g other is = tt

pub only_own : (k : KernelState) (cpu g : ℕ) → Acts k cpu g → IfSome (input k cpu g) (IsOwnTurn k g g)
only_own k cpu g is = subst (λ (o : Option Input). IfSome o (IsOwnTurn k g g)) (sym (own_input_is k cpu g is)) (said_own k g (deed k g) refl)

ready_own : (k : KernelState) (g : ℕ) → IsGuest k g → (t : Bool) → own_input (ready k g t) ≡ Some input_as.Own
ready_own k g is true = refl
ready_own k g is false = by_once (instruction k g)
  where
    by_once : (o : Once) → own_input (stepping k g o) ≡ Some input_as.Own
    by_once (Raised reason q0 q1) =
        subst (λ (t : Bool). own_input (signalled k g reason q0 q1 t) ≡ Some input_as.Own) (sym (not_thread (reason == environment_call) (is_thread k g) (guest_no_thread k g is))) refl
    by_once (Went regs store) = refl

acts_own : (k : KernelState) (g : ℕ) → IsGuest k g → (s : State) → acts (guest_state s) ≡ true → own_input (deed_in k g s) ≡ Some input_as.Own
acts_own k g is Fresh h = refl
acts_own k g is Ready h = ready_own k g is (context k g).recall
acts_own k g is other h = absurd (cc)

deed_own : (k : KernelState) (g : ℕ) → IsGuest k g → acts (guest_state (context k g).state) ≡ true → own_input (deed k g) ≡ Some input_as.Own
unfolding deed
deed_own k g is h = acts_own k g is (context k g).state h

pub own_told : (k : KernelState) (cpu g : ℕ) → IsSound k → IsVirtual k g → Acts k cpu g → acts (view k g).state ≡ true → input k cpu g ≡ Some input_as.Own
own_told k cpu g sound virtual is h = own_input_is k cpu g is ∙ deed_own k g (guest_there k g sound virtual) (ap acts (sym (view_state k g)) ∙ h)

-- ANOTHER'S

-- a context that does what no virtual CPU does is another
another : (k : KernelState) (ec g : ℕ) (d : Deed) → IsSound k → IsVirtual k g → deed k ec ≡ d → (IsOwn d → ⊥) → ec ≢ g
another k ec g d sound virtual is not_own same = not_own (subst IsOwn (ap (deed k) (sym same) ∙ is) (own_deed k g (guest_there k g sound virtual)))

others_is : (k : KernelState) (cpu ec g : ℕ) (d : Deed) → Acts k cpu ec → ec ≢ g → deed k ec ≡ d → input k cpu g ≡ others_input k ec g d
others_is k cpu ec g d acts ne is = input_is k cpu ec g acts ∙ (other_is k ec g (deed k ec) ne ∙ ap (others_input k ec g) is)

pub asked_told : (k : KernelState) (cpu ec g : ℕ) → IsSound k → IsVirtual k g → Acts k cpu ec → deed k ec ≡ Recalls g → input k cpu g ≡ Some input_as.Recall
asked_told k cpu ec g sound virtual acts is =
    others_is k cpu ec g (Recalls g) acts (another k ec g (Recalls g) sound virtual is (λ own. own)) is
    ∙ ap (λ (t : Bool). only_if t input_as.Recall) (eq-eqb g g refl)

-- a store
there_is : {T : Type 0} (xs : List T) (n : ℕ) → n < length xs → is_some (slice_get xs n) ≡ true
there_is [] n h = absurd (omega (arith, h))
there_is (x ∷ xs) zero h = refl
there_is (x ∷ xs) (suc n) h = there_is xs n (omega (arith, h))

pub stored_told : (k : KernelState) (cpu ec g frame offset width value : ℕ) → IsSound k → Acts k cpu ec → Stores k ec g frame offset width value →
    input k cpu g ≡ Some (input_as.Foreign frame offset width value)
stored_told k cpu ec g frame offset width value sound acts is =
    others_is k cpu ec g Steps acts is.another is.steps
    ∙ (ap (λ (o : Once). option_and_then (foreign_by k ec (pd_of k g)) (store_of o)) is.executes
    ∙ (ap (λ (o : Option ℕ). option_and_then (foreign_at k (pd_of k g) is.store) (option_and_then (in_ram k) o)) is.leads
    ∙ (ap (λ (t : Bool). option_and_then (foreign_at k (pd_of k g) is.store) (if t then Some frame else None)) (there_is k.memory.ram frame is.ram)
    ∙ (ap (λ (t : Bool). if t then Some (input_as.Foreign frame (is.store.address % 4096) is.store.width is.store.value) else None)
    (sym (view_covers k g frame sound) ∙ is.covered)
    ∙ sym (λ i. Some (input_as.Foreign frame (is.from i) (is.size i) (is.stored i)))))))

-- a reply
pub replied_told : (k : KernelState) (cpu ec g : ℕ) → IsSound k → IsVirtual k g → Acts k cpu ec → Completes k ec g → IsToldReply (input k cpu g) (message k ec)
replied_told k cpu ec g sound virtual acts completes = record {
  mtd = reply_groups (message k ec);
  words = reply_words (message k ec);
  reply = by_course completes ∙ ap (λ (t : Bool). only_if t (reply_of (message k ec))) (eq-eqb g g refl);
  tells = tells (message k ec) (sound.whole.messages ec);
}
  where
    by_course : Completes k ec g → input k cpu g ≡ only_if (g == g) (reply_of (message k ec))
    by_course (AtOnce is) =
        let d : Deed = Replies g mark.Exit false in
        others_is k cpu ec g d acts (another k ec g d sound virtual is (λ own. own)) is
    by_course (AfterItems item end words is) =
        let d : Deed = Finishes item end words (Replied g mark.Exit) in
        others_is k cpu ec g d acts (another k ec g d sound virtual is (λ own. own)) is

-- a derivation
pub given_told : (k : KernelState) (cpu ec g base order : ℕ) (rights : Rights) (frame : ℕ) (contents : List ℕ) → IsSound k → IsVirtual k g → Acts k cpu ec →
    Delegates k ec g base order rights frame contents → input k cpu g ≡ Some (input_as.Given base order rights frame contents)
given_told k cpu ec g base order rights frame contents sound virtual acts is =
    others_is k cpu ec g (Gives is.child is.cursor) acts (another k ec g (Gives is.child is.cursor) sound virtual is.gives (λ own. own)) is.gives
    ∙ (ap (λ (t : Bool). only_if t (given_of k is.child)) (of_memory is.child (pd_of k g) is.kind is.domain)
    ∙ ((λ i. Some (input_as.Given (is.from i) (is.size i) (is.may i) (is.leads i) (contents_of k.memory.ram (is.leads i) (is.size i))))
    ∙ ap (λ (bytes : List ℕ). Some (input_as.Given base order rights frame bytes)) (sym is.bytes)))

pub taken_told : (k : KernelState) (cpu ec g base order : ℕ) → IsSound k → IsVirtual k g → Acts k cpu ec → TakesAway k ec g base order →
    input k cpu g ≡ Some (input_as.Taken base order)
taken_told k cpu ec g base order sound virtual acts is =
    others_is k cpu ec g (Removes is.leaf) acts (another k ec g (Removes is.leaf) sound virtual is.removes (λ own. own)) is.removes
    ∙ (ap (λ (t : Bool). only_if t (input_as.Taken is.leaf.base is.leaf.order)) (of_memory is.leaf (pd_of k g) is.kind is.domain)
    ∙ (λ i. Some (input_as.Taken (is.from i) (is.size i))))
