-- The states of execution contexts after a deed: its own is that which the deed says, and another stays in its state, or waited and goes on.
use Rattle.std.proofs.Common.{◌≡◌, ℕ, refl, ap, ◌∙◌, sym, subst, inl, inr}
use Rattle.std.specs.Prelude.{◌≢◌, ◌⊎◌, Bool, true, false, if◌then◌else◌, Option, Some, None, is_some}
use Rattle.nova_range.specs.declared.status.Status.TheVariants.{Success}
use Rattle.nova_model.specs.Calls.{is_parked}
use Rattle.nova_model.specs.Deeds.{answered, actor_after, parked, resumed}
use Rattle.nova_model.specs.State.{Contexts, KernelState, context, context_in, ec_in, ec_of, is_local_thread, with_ec}
use Rattle.nova_model.specs.declared.context.EcState.{EcState}
use Rattle.nova_model.specs.declared.context.State.{State}
use Rattle.nova_model.specs.declared.context.State.TheVariants.{Ready, Parked, Calling, Granting, Blocked}
use Rattle.nova_model.specs.declared.deed.Deed.{Deed}
use Rattle.law_forest.specs.Effects.{all_edited, edits_by}
use Rattle.law_forest.proofs.Doing.{set_at}
use Rattle.law_turns.specs.Links.{state_at}
use Rattle.law_turns.proofs.Blocking.{woken_blocked}
use Rattle.law_turns.proofs.Courses.{Courses, IsTo, deed_course}
use Rattle.law_turns.proofs.TablesFit.{TablesFit, woken_apart}
use Rattle.law_turns.proofs.Referring.{Asks}
use Rattle.law_turns.proofs.Serving.{IsActor, awaited, reached_apart, resumed_is}
use Rattle.law_turns.proofs.Setting.{entry_itself, entry_other}

-- ITS OWN

itself : (k : KernelState) (ec : ℕ) (d : Deed) (y : EcState) → IsActor k.contexts ec → IsTo k ec d y.state → IsTo k ec d (ec_of (with_ec k.contexts ec y) ec).state
itself k ec d y actor to = to ∙ sym (ap (λ (o : Option EcState). (context_in o).state) (entry_itself k.contexts ec y (ap is_some actor.there)))

apart : (k : KernelState) (ec : ℕ) (d : Deed) (cs : Contexts) (w : ℕ) (y : EcState) → ec ≢ w → IsTo k ec d (ec_of cs ec).state → IsTo k ec d (ec_of (with_ec cs w y) ec).state
apart k ec d cs w y other to = to ∙ sym (ap (λ (o : Option EcState). (context_in o).state) (entry_other cs w ec y other))

own_courses : (k : KernelState) (ec : ℕ) (d : Deed) → IsActor k.contexts ec → TablesFit k → Courses k ec d (λ cs all. IsTo k ec d (ec_of cs ec).state)
own_courses k ec d actor fits = record {
  rests = λ to. to;
  steps = λ regs is. itself k ec d (record (context k ec) { regs = regs }) actor (ap (λ (e : Deed). (actor_after (context k ec) e).state) is);
  stays = λ cs all w x y is self same to. set_at (λ o. IsTo k ec d (context_in o).state) cs w ec y to
      (λ one. to ∙ ap (λ (n : ℕ). (ec_of cs n).state) one ∙ ap (λ (o : Option EcState). (context_in o).state) is ∙ sym same);
  goes = λ y self to may. itself k ec d y actor to;
  sends = λ handler its ip identifier items to of reached.
      apart k ec d (with_ec k.contexts ec (record (context k ec) { state = Calling handler })) handler _ (reached_apart k.contexts ec handler actor reached)
      (itself k ec d (record (context k ec) { state = Calling handler }) actor to);
  replies = λ caller its m to keeps.
      apart k ec d (with_ec k.contexts ec (parked (context k ec))) caller _ (λ same. (awaited (is_local_thread k) k.contexts ec caller its actor keeps fits.served).apart (sym same))
      (itself k ec d (parked (context k ec)) actor to);
  ups = λ sm to is. itself k ec d (answered (context k ec) Success None) actor to;
  wakes = λ sm w to is.
      apart k ec d (with_ec k.contexts ec (answered (context k ec) Success None)) w _ (λ same. woken_apart k ec sm w actor (woken_blocked k sm w is fits.blocked) (sym same))
      (itself k ec d (answered (context k ec) Success None) actor to);
  downs = λ sm to is. itself k ec d (answered (context k ec) Success None) actor to;
  blocks = λ sm to is answer. itself k ec d (record (context k ec) { state = Blocked sm }) actor to;
}

pub own_state : (k : KernelState) (ec : ℕ) (d : Deed) → IsActor k.contexts ec → Asks k ec d → TablesFit k →
    (ec_of (all_edited k.contexts (edits_by k ec d)) ec).state ≡ (actor_after (context k ec) d).state
own_state k ec d actor asks fits = sym (deed_course k ec (λ cs all. IsTo k ec d (ec_of cs ec).state) d actor asks (own_courses k ec d actor fits))

-- ANOTHER

-- a context that is parked, waits for a reply, or waits at a semaphore; and a context that goes on then
abbrev pub is_waiting : State → Bool
is_waiting Parked = true
is_waiting (Calling h) = true
is_waiting (Blocked sm) = true
is_waiting other = false

abbrev pub has_begun : State → Bool
has_begun Ready = true
has_begun (Granting None) = true
has_begun other = false

abbrev pub Moves : State → State → Type 0
Moves s t = (t ≡ s) ⊎ ((is_waiting s ≡ true) × (has_begun t ≡ true))

abbrev OthersMove : KernelState → ℕ → Contexts → Type 0
OthersMove k ec cs = (e : ℕ) → e ≢ ec → Moves (context k e).state (ec_of cs e).state

moves_set : (k : KernelState) (ec : ℕ) (cs : Contexts) (w : ℕ) (y : EcState) → (w ≢ ec → Moves (context k w).state y.state) → OthersMove k ec cs → OthersMove k ec (with_ec cs w y)
moves_set k ec cs w y now h e other =
    set_at (λ o. Moves (context k e).state (context_in o).state) cs w e y (h e other)
    (λ same. subst (λ (n : ℕ). Moves (context k n).state y.state) (sym same) (now (λ own. other (same ∙ own))))

own_moves : (k : KernelState) (ec : ℕ) (y : EcState) → OthersMove k ec (with_ec k.contexts ec y)
own_moves k ec y = moves_set k ec k.contexts ec y (λ other. absurd (other refl)) (λ e other. inl refl)

begins_on : (items : Bool) → has_begun (if items then Granting None else Ready) ≡ true
begins_on true = refl
begins_on false = refl

waiting_in : (o : Option EcState) (s : State) → state_at o ≡ Some s → is_waiting s ≡ true → is_waiting (context_in o).state ≡ true
waiting_in None s is waits = absurd cc
waiting_in (Some x) s is waits = let same : x.state ≡ s = cc in ap is_waiting same ∙ waits

parked_waits : (o : Option EcState) → is_parked (state_at o) ≡ true → is_waiting (context_in o).state ≡ true
parked_waits None is = absurd cc
parked_waits (Some x) is = by_state x.state is
  where
    by_state : (s : State) → is_parked (Some s) ≡ true → is_waiting s ≡ true
    by_state Parked parks = refl
    by_state other parks = absurd cc

moves_courses : (k : KernelState) (ec : ℕ) (d : Deed) → IsActor k.contexts ec → TablesFit k → Courses k ec d (λ cs all. OthersMove k ec cs)
moves_courses k ec d actor fits = record {
  rests = λ to e other. inl refl;
  steps = λ regs is. own_moves k ec (record (context k ec) { regs = regs });
  stays = λ cs all w x y is self same h. moves_set k ec cs w y
      (λ other. subst (Moves (context k w).state) (ap (λ (o : Option EcState). (context_in o).state) is ∙ sym same) (h w other)) h;
  goes = λ y self to may. own_moves k ec y;
  sends = λ handler its ip identifier items to of reached.
      moves_set k ec (with_ec k.contexts ec (record (context k ec) { state = Calling handler })) handler _
      (λ other. inr (parked_waits (ec_in k.contexts handler) reached.parked, begins_on items)) (own_moves k ec (record (context k ec) { state = Calling handler }));
  replies = λ caller its m to keeps.
      let one = with_ec k.contexts ec (parked (context k ec)) in
      moves_set k ec one caller (resumed (ec_of one caller) its m)
      (λ other. inr (ap is_waiting (awaited (is_local_thread k) k.contexts ec caller its actor keeps fits.served).waits, ap has_begun (resumed_is (ec_of one caller) its m).ready))
      (own_moves k ec (parked (context k ec)));
  ups = λ sm to is. own_moves k ec (answered (context k ec) Success None);
  wakes = λ sm w to is.
      moves_set k ec (with_ec k.contexts ec (answered (context k ec) Success None)) w _
      (λ other. inr (waiting_in (ec_in k.contexts w) (Blocked sm) (woken_blocked k sm w is fits.blocked) refl, refl)) (own_moves k ec (answered (context k ec) Success None));
  downs = λ sm to is. own_moves k ec (answered (context k ec) Success None);
  blocks = λ sm to is answer. own_moves k ec (record (context k ec) { state = Blocked sm });
}

pub others_move : (k : KernelState) (ec : ℕ) (d : Deed) → IsActor k.contexts ec → Asks k ec d → TablesFit k → (e : ℕ) → e ≢ ec →
    Moves (context k e).state (ec_of (all_edited k.contexts (edits_by k ec d)) e).state
others_move k ec d actor asks fits = deed_course k ec (λ cs all. OthersMove k ec cs) d actor asks (moves_courses k ec d actor fits)
