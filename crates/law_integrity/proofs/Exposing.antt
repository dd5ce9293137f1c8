-- The turn of a context whose exit is raised, with other registers: what is not its own differs by the handler's message words alone.
use Rattle.std.proofs.Common.{◌≡◌, ℕ, List, refl, sym, ap, ap₂, ◌∙◌, subst}
use Rattle.std.specs.Prelude.{Bool, slice_get, slice_set, option_map, Option, Some, None, Ok}
use Rattle.std.proofs.lemmas.Option.{same_Some}
use mathlib.Core.Path.{fun_ext}
use Rattle.rv_model.specs.Registers.{Registers}
use Rattle.nova_model.specs.Calls.{exit_admitted}
use Rattle.nova_model.specs.Choice.{Candidate, next_to_act, unless_due}
use Rattle.nova_model.specs.Deeds.{deed, deed_in}
use Rattle.nova_model.specs.Exits.{exit_at, exit_portal, exit_to, exits, raised_exit}
use Rattle.nova_model.specs.Inputs.{input_of, is_stirred}
use Rattle.nova_model.specs.Portals.{handler_of}
use Rattle.nova_model.specs.Runs.{after}
use Rattle.nova_model.specs.State.{Contexts, KernelState, context, entry}
use Rattle.nova_model.specs.Times.{due_on}
use Rattle.nova_model.specs.declared.admit.ExitAdmit.{ExitAdmit}
use Rattle.nova_model.specs.declared.admit.ExitAdmit.TheVariants as exit
use Rattle.nova_model.specs.declared.context.State.{State}
use Rattle.nova_model.specs.declared.context.State.TheVariants.{Exiting, Sending}
use Rattle.nova_model.specs.declared.deed.Deed.{Deed}
use Rattle.law_forest.specs.Effects.{Effect, effect, put, words_by}
use Rattle.law_forest.specs.Turns.{Turning, acting, turned}
use Rattle.law_forest.proofs.Turning.{chosen_turn}
use Rattle.law_origins.specs.Giving.{Acts}
use Rattle.law_integrity.specs.Disclosure.{DifferByExit, DifferInRegisters, registers_set, with_registers}
use Rattle.law_integrity.proofs.Instructing.{set_again, set_kept}
use Rattle.law_integrity.proofs.Masking.{Words, choice_same, masked}
use Rattle.law_integrity.proofs.Telling.{after_set}
use Rattle.law_integrity.proofs.Untold.{exits_same}

-- the deed, by what comes of the exit at its portal
raised_deed : (k : KernelState) (g reason q0 q1 : ℕ) → raised_exit (context k g).state ≡ Some (reason, q0, q1) → deed k g ≡ exits k g reason q0 q1
unfolding deed
raised_deed k g reason q0 q1 raised = by_state (context k g).state raised
  where
    by_state : (s : State) → raised_exit s ≡ Some (reason, q0, q1) → deed_in k g s ≡ exits k g reason q0 q1
    by_state (Exiting r a b) is = ap (λ (p : ℕ × ℕ × ℕ). exits k g p.0 p.1 p.2) (same_Some (r, a, b) (reason, q0, q1) is)
    by_state (Sending r a b handler) is = ap (λ (p : ℕ × ℕ × ℕ). exits k g p.0 p.1 p.2) (same_Some (r, a, b) (reason, q0, q1) is)
    by_state other is = absurd (cc)

-- its effect: message words alone look at registers
effect_but : (k : KernelState) (g : ℕ) (r : Registers) (pt reason q0 q1 : ℕ) (a : ExitAdmit) → let d = exit_to k pt reason q0 q1 a in
    effect (with_registers k g r) g d ≡ record (effect k g d) { words = words_by (with_registers k g r) g d }
effect_but k g r pt reason q0 q1 exit.Dies = refl
effect_but k g r pt reason q0 q1 exit.Waits = refl
effect_but k g r pt reason q0 q1 exit.Sends = refl

stirs_but : (k : KernelState) (g : ℕ) (r : Registers) (pt reason q0 q1 : ℕ) (a : ExitAdmit) (n : ℕ) → let d = exit_to k pt reason q0 q1 a in
    is_stirred (with_registers k g r) g d n ≡ is_stirred k g d n
unfolding input_of
stirs_but k g r pt reason q0 q1 exit.Dies n = refl
stirs_but k g r pt reason q0 q1 exit.Waits n = refl
stirs_but k g r pt reason q0 q1 exit.Sends n = refl

-- and they are the handler's
words_but : (k : KernelState) (g : ℕ) (r : Registers) (pt reason q0 q1 : ℕ) (a : ExitAdmit) → let d = exit_to k pt reason q0 q1 a in
    let later = put k.messages (words_by (with_registers k g r) g d) in
    later ≡ slice_set (put k.messages (words_by k g d)) (handler_of k pt) (entry (slice_get later (handler_of k pt)))
words_but k g r pt reason q0 q1 exit.Dies = sym (set_kept k.messages (handler_of k pt))
words_but k g r pt reason q0 q1 exit.Waits = sym (set_kept k.messages (handler_of k pt))
words_but k g r pt reason q0 q1 exit.Sends =
    let later = put k.messages (words_by (with_registers k g r) g (exit_to k pt reason q0 q1 exit.Sends)) in
    sym (set_kept later (handler_of k pt))
    ∙ set_again k.messages (handler_of k pt) _ (entry (slice_get later (handler_of k pt)))
    ∙ sym (set_again k.messages (handler_of k pt) _ (entry (slice_get later (handler_of k pt))))

-- THE TURN

abbrev turning_of : KernelState → ℕ → ℕ → Deed → Turning
turning_of k g sc d = record { effect = effect k g d; stirs = is_stirred k g d; charge = Some sc }

-- of effects that make nothing, and differ in words
but_words : (k : KernelState) (cpu g h sc : ℕ) (r : Registers) (e : Effect) (stirs : ℕ → Bool) (old ws : Option (ℕ × List ℕ)) →
    put k.messages ws ≡ slice_set (put k.messages old) h (entry (slice_get (put k.messages ws) h)) →
    DifferByExit (turned k cpu (record { effect = record e { made = None; words = old }; stirs = stirs; charge = Some sc }))
    (turned (with_registers k g r) cpu (record { effect = record e { made = None; words = ws }; stirs = stirs; charge = Some sc })) g h
but_words k cpu g h sc r e stirs old ws same =
    let set = after_set k.contexts g r e.edits None in
    let first = turned k cpu (record { effect = record e { made = None; words = old }; stirs = stirs; charge = Some sc }) in record {
      registers = set.registers;
      words = entry (slice_get (put k.messages ws) h);
      rest = ap₂ (λ (cs : Contexts) (ms : Words). record first { contexts = cs; messages = ms }) set.same same;
    }

turned_at : (k : KernelState) (cpu g sc : ℕ) (r : Registers) (pt reason q0 q1 : ℕ) (a : ExitAdmit) → let d = exit_to k pt reason q0 q1 a in
    DifferByExit (turned k cpu (turning_of k g sc d)) (turned (with_registers k g r) cpu (turning_of (with_registers k g r) g sc d)) g (handler_of k pt)
turned_at k cpu g sc r pt reason q0 q1 a =
    subst (λ (s : KernelState). DifferByExit (turned k cpu (turning_of k g sc (its a))) s g (handler_of k pt))
    (sym (ap₂ (λ (e : Effect) (is : ℕ → Bool). turned other cpu (record { effect = e; stirs = is; charge = Some sc })) (effect_but k g r pt reason q0 q1 a) (fun_ext (stirs_but k g r pt reason q0 q1 a))))
    (by_admit a)
  where
    other : KernelState
    other = with_registers k g r

    its : ExitAdmit → Deed
    its a = exit_to k pt reason q0 q1 a

    by_admit : (a : ExitAdmit) → DifferByExit (turned k cpu (turning_of k g sc (its a)))
        (turned other cpu (record { effect = record (effect k g (its a)) { words = words_by other g (its a) }; stirs = is_stirred k g (its a); charge = Some sc })) g (handler_of k pt)
    by_admit exit.Dies =
        but_words k cpu g (handler_of k pt) sc r (effect k g (its exit.Dies)) (is_stirred k g (its exit.Dies)) (words_by k g (its exit.Dies)) (words_by other g (its exit.Dies))
        (words_but k g r pt reason q0 q1 exit.Dies)
    by_admit exit.Waits =
        but_words k cpu g (handler_of k pt) sc r (effect k g (its exit.Waits)) (is_stirred k g (its exit.Waits)) (words_by k g (its exit.Waits)) (words_by other g (its exit.Waits))
        (words_but k g r pt reason q0 q1 exit.Waits)
    by_admit exit.Sends =
        but_words k cpu g (handler_of k pt) sc r (effect k g (its exit.Sends)) (is_stirred k g (its exit.Sends)) (words_by k g (its exit.Sends)) (words_by other g (its exit.Sends))
        (words_but k g r pt reason q0 q1 exit.Sends)

set_exit : (k : KernelState) (cpu g : ℕ) (r : Registers) (reason q0 q1 pt : ℕ) → Acts k cpu g → raised_exit (context k g).state ≡ Some (reason, q0, q1) → exit_portal k g reason ≡ Ok pt →
    DifferByExit (after k cpu) (after (with_registers k g r) cpu) g (handler_of k pt)
unfolding next_to_act
set_exit k cpu g r reason q0 q1 pt acts_ raised portal = by_next (next_to_act k cpu) refl acts_
  where
    cs : Contexts
    cs = registers_set k.contexts g r

    other : KernelState
    other = with_registers k g r

    d : Deed
    d = exit_to k pt reason q0 q1 (exit_admitted k.contexts g (handler_of k pt))

    its : deed k g ≡ d
    its = raised_deed k g reason q0 q1 raised ∙ ap (exit_at k g reason q0 q1) portal

    also : deed other g ≡ d
    also =
        raised_deed other g reason q0 q1 (ap raised_exit ((masked k.contexts g r).own_states g) ∙ raised)
        ∙ exits_same k cs k.messages (masked k.contexts g r) g reason q0 q1
        ∙ ap (exit_at k g reason q0 q1) portal

    next : next_to_act other cpu ≡ next_to_act k cpu
    next = ap (unless_due (due_on k.times cpu)) (choice_same k cs k.messages (masked k.contexts g r) cpu)

    acts_as : (s : KernelState) (c : Candidate) → c.actor ≡ g → deed s g ≡ d → acting s c ≡ turning_of s g c.sc d
    acts_as s c same is =
        ap (λ (n : ℕ). record { effect = effect s n (deed s n); stirs = is_stirred s n (deed s n); charge = Some c.sc }) same
        ∙ ap (turning_of s g c.sc) is

    by_next : (o : Option Candidate) → next_to_act k cpu ≡ o → option_map (λ (c : Candidate). c.actor) o ≡ Some g → DifferByExit (after k cpu) (after other cpu) g (handler_of k pt)
    by_next None is none = absurd (cc)
    by_next (Some c) is chosen =
        let same : c.actor ≡ g = same_Some c.actor g chosen in
        subst (λ (s : KernelState). DifferByExit s (after other cpu) g (handler_of k pt)) (sym (chosen_turn k cpu c is ∙ ap (turned k cpu) (acts_as k c same its)))
        (subst (λ (s : KernelState). DifferByExit (turned k cpu (turning_of k g c.sc d)) s g (handler_of k pt))
        (sym (chosen_turn other cpu c (next ∙ is) ∙ ap (turned other cpu) (acts_as other c same also)))
        (turned_at k cpu g c.sc r pt reason q0 q1 (exit_admitted k.contexts g (handler_of k pt))))

pub exit_differs : (k l : KernelState) (cpu g reason q0 q1 pt : ℕ) → DifferInRegisters k l g → Acts k cpu g → raised_exit (context k g).state ≡ Some (reason, q0, q1) →
    exit_portal k g reason ≡ Ok pt → DifferByExit (after k cpu) (after l cpu) g (handler_of k pt)
exit_differs k l cpu g reason q0 q1 pt differ acts_ raised portal =
    subst (λ (s : KernelState). DifferByExit (after k cpu) (after s cpu) g (handler_of k pt)) (sym differ.rest)
    (set_exit k cpu g differ.registers reason q0 q1 pt acts_ raised portal)
