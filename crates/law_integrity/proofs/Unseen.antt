-- A turn is the same over several things at once that the context that acts doesn't see.
use Rattle.std.proofs.Common.{◌≡◌, ℕ, List, [], ◌∷◌, ◌++◌, refl, sym, ap, ◌∙◌, subst}
use Rattle.std.specs.Prelude.{Contains, option_map, slice_get}
use Rattle.nova_objects.specs.declared.object.Object.{Object}
use Rattle.nova_model.specs.Boot.{Scenario, boot}
use Rattle.nova_model.specs.Choice.{Candidate, next_to_act, unless_due}
use Rattle.nova_model.specs.Delegations.{Delegations}
use Rattle.nova_model.specs.Runs.{after, run}
use Rattle.nova_model.specs.State.{KernelState, context, pd_in, pd_of}
use Rattle.nova_model.specs.Times.{due_on}
use Rattle.nova_model.specs.Turn.{Step, turn}
use Rattle.law_isolation.specs.Sound.{IsSound}
use Rattle.law_isolation.proofs.Runs.{reached_sound}
use Rattle.law_origins.specs.Giving.{Acts}
use Rattle.law_origins.proofs.Lists.{run_append}
use Rattle.law_forest.proofs.Turning.{event_at as event_in}
use Rattle.law_integrity.specs.Confined.{AreSeparate, IsMember, Pair, ShareNothing, Side, grown}
use Rattle.law_integrity.specs.Disclosure.{AreSecretsOf, AreUnseen, Differ, DiffersIn, GivesItems, InFrame, InRegisters, InWords, IsSecretOf, AreWordsUnread, IsUnseen, IsUntold, ItsOwn, ReadsWords, Secret, TakesItems, registers_set, words_set}
use Rattle.law_integrity.specs.Rights.{PageLeadsTo}
use Rattle.law_integrity.specs.Secrecy.{IsHidden, with_bytes}
use Rattle.law_integrity.proofs.Blind.{unread_in}
use Rattle.law_integrity.proofs.Confined.{reach_along, separate_along, set_hidden}
use Rattle.law_integrity.proofs.Confining.{acts_one, any_reached, both_member, reached_none}
use Rattle.law_integrity.proofs.Deeds as memory
use Rattle.law_integrity.proofs.Leaving.{flipped}
use Rattle.law_integrity.proofs.Masking.{choice_same, masked, same_table}
use Rattle.law_integrity.proofs.Secrets as bytes
use Rattle.law_integrity.proofs.Telling as registers
use Rattle.law_integrity.proofs.Unread as words

-- WHAT STAYS THE SAME OVER ONE OF THEM

record AreSeenSame (k m : KernelState) : Type 0 where
  states : (e : ℕ) → (context m e).state ≡ (context k e).state
  callers : (e : ℕ) → (context m e).caller ≡ (context k e).caller
  delegations : m.delegations ≡ k.delegations
  objects : m.objects ≡ k.objects

seen_same : (s : Secret) (k m : KernelState) → DiffersIn s k m → AreSeenSame k m
seen_same (InRegisters n) k m differ =
    let a = masked k.contexts n differ.registers in
    subst (AreSeenSame k) (sym differ.rest) (record { states = a.own_states; callers = a.callers; delegations = refl; objects = refl })
seen_same (InWords n) k m differ = subst (AreSeenSame k) (sym differ.rest) (record { states = λ e. refl; callers = λ e. refl; delegations = refl; objects = refl })
seen_same (InFrame frame) k m differ = subst (AreSeenSame k) (sym differ.1) (record { states = λ e. refl; callers = λ e. refl; delegations = refl; objects = refl })

next_same : (s : Secret) (k m : KernelState) (cpu : ℕ) → DiffersIn s k m → next_to_act m cpu ≡ next_to_act k cpu
unfolding next_to_act
next_same (InRegisters n) k m cpu differ =
    subst (λ (x : KernelState). next_to_act x cpu ≡ next_to_act k cpu) (sym differ.rest)
    (ap (unless_due (due_on k.times cpu)) (choice_same k (registers_set k.contexts n differ.registers) k.messages (masked k.contexts n differ.registers) cpu))
next_same (InWords n) k m cpu differ =
    subst (λ (x : KernelState). next_to_act x cpu ≡ next_to_act k cpu) (sym differ.rest)
    (ap (unless_due (due_on k.times cpu)) (choice_same k k.contexts (words_set k.messages n differ.words) (same_table k.contexts) cpu))
next_same (InFrame frame) k m cpu differ =
    subst (λ (x : KernelState). next_to_act x cpu ≡ next_to_act k cpu) (sym differ.1)
    (ap (unless_due (due_on k.times cpu)) (memory.choice_same k (with_bytes k frame differ.0).memory cpu))

acts_over : (s : Secret) (k m : KernelState) (cpu ec : ℕ) → DiffersIn s k m → Acts k cpu ec → Acts m cpu ec
acts_over s k m cpu ec differ acts_ = ap (option_map (λ (c : Candidate). c.actor)) (next_same s k m cpu differ) ∙ acts_

reads_over : (k m : KernelState) (ec n : ℕ) → AreSeenSame k m → ReadsWords m ec n → ReadsWords k ec n
reads_over k m ec n same (ItsOwn is) = ItsOwn is
reads_over k m ec n same (TakesItems is came serves) = TakesItems (sym (same.states ec) ∙ is) came (sym (same.callers ec) ∙ serves)
reads_over k m ec n same (GivesItems is came serves) = GivesItems (sym (same.states ec) ∙ is) came (sym (same.callers ec) ∙ serves)

leads_over : (k m : KernelState) (ec page right frame : ℕ) → AreSeenSame k m → PageLeadsTo m (pd_of m ec) page right frame → PageLeadsTo k (pd_of k ec) page right frame
leads_over k m ec page right frame same h = record {
  derivation = h.derivation;
  there = subst (λ (d : Delegations). Contains d.list h.derivation) same.delegations h.there;
  holder = h.holder ∙ ap (λ (os : List Object). pd_in (slice_get os ec)) same.objects;
  kind = h.kind;
  place = h.place;
  leads = h.leads;
  allowed = h.allowed;
}

unseen_over : (k m : KernelState) (ec : ℕ) → AreSeenSame k m → (t : Secret) → IsUnseen k ec t → IsUnseen m ec t
unseen_over k m ec same (InRegisters n) h = h
unseen_over k m ec same (InWords n) h = λ reads. h (reads_over k m ec n same reads)
unseen_over k m ec same (InFrame frame) h = record {
  unread = λ page leads. h.unread page (leads_over k m ec page _ frame same leads);
  unwritten = λ page leads. h.unwritten page (leads_over k m ec page _ frame same leads);
  unexecuted = λ page leads. h.unexecuted page (leads_over k m ec page _ frame same leads);
}

all_over : (k m : KernelState) (ec : ℕ) → AreSeenSame k m → (secrets : List Secret) → AreUnseen k ec secrets → AreUnseen m ec secrets
all_over k m ec same [] h = tt
all_over k m ec same (t ∷ secrets) h = (unseen_over k m ec same t h.0, all_over k m ec same secrets h.1)

-- A TURN

after_one : (s : Secret) (k m : KernelState) (cpu ec : ℕ) → Acts k cpu ec → IsUnseen k ec s → DiffersIn s k m → DiffersIn s (after k cpu) (after m cpu) × (event_in m cpu ≡ event_in k cpu)
after_one (InRegisters n) k m cpu ec acts_ unseen differ =
    let untold : IsUntold k m cpu n = λ also. absurd (unseen (acts_one k cpu ec n acts_ also)) in
    (registers.turn_differ k m cpu n differ untold, registers.event_same k m cpu n differ untold)
after_one (InWords n) k m cpu ec acts_ unseen differ =
    let unread : AreWordsUnread k cpu n = λ other also reads. unseen (subst (λ (e : ℕ). ReadsWords k e n) (acts_one k cpu other ec also acts_) reads) in
    (words.turn_differ k m cpu n differ unread, words.event_same k m cpu n differ unread)
after_one (InFrame frame) k m cpu ec acts_ unseen differ = (
  (differ.0, ap (λ (x : KernelState). after x cpu) differ.1 ∙ bytes.turn_same k cpu frame differ.0 hidden),
  ap (λ (x : KernelState). event_in x cpu) differ.1 ∙ bytes.event_same k cpu frame differ.0 hidden,
)
  where
    hidden : (other : ℕ) → Acts k cpu other → IsHidden k (pd_of k other) frame
    hidden other also = subst (λ (e : ℕ). IsHidden k (pd_of k e) frame) (acts_one k cpu ec other acts_ also) unseen

pub turn_unseen : (secrets : List Secret) (k l : KernelState) (cpu ec : ℕ) → Acts k cpu ec → AreUnseen k ec secrets → Differ secrets k l → Differ secrets (after k cpu) (after l cpu)
turn_unseen [] k l cpu ec acts_ unseen differ = ap (λ (x : KernelState). after x cpu) differ
turn_unseen (s ∷ secrets) k l cpu ec acts_ unseen differ =
    let m = differ.0 in (
      after m cpu,
      (after_one s k m cpu ec acts_ unseen.0 differ.1).0,
      turn_unseen secrets m l cpu ec (acts_over s k m cpu ec differ.1 acts_) (all_over k m ec (seen_same s k m differ.1) secrets unseen.1) differ.2,
    )

pub event_unseen : (secrets : List Secret) (k l : KernelState) (cpu ec : ℕ) → Acts k cpu ec → AreUnseen k ec secrets → Differ secrets k l →
    option_map (λ (s : Step). s.event) (turn l cpu) ≡ option_map (λ (s : Step). s.event) (turn k cpu)
event_unseen [] k l cpu ec acts_ unseen differ = ap (λ (x : KernelState). event_in x cpu) differ
event_unseen (s ∷ secrets) k l cpu ec acts_ unseen differ =
    let m = differ.0 in
    event_unseen secrets m l cpu ec (acts_over s k m cpu ec differ.1 acts_) (all_over k m ec (seen_same s k m differ.1) secrets unseen.1) differ.2
    ∙ (after_one s k m cpu ec acts_ unseen.0 differ.1).1

-- OF TWO GUESTS WITH THEIR MONITORS

pub sides_unseen : (s : Scenario) (before turns : List ℕ) (guest monitor other_guest other_monitor cpu ec : ℕ) (secrets : List Secret) →
    ShareNothing (run (boot s) before) guest monitor other_guest other_monitor → Acts (run (run (boot s) before) turns) cpu ec →
    IsMember (run (run (boot s) before) turns) (Side (run (boot s) before) guest monitor turns) ec →
    AreSecretsOf (run (run (boot s) before) turns) (Side (run (boot s) before) other_guest other_monitor turns) secrets → AreUnseen (run (run (boot s) before) turns) ec secrets
sides_unseen s before turns guest monitor other_guest other_monitor cpu ec secrets share acts_ m theirs = all secrets theirs
  where
    k : KernelState
    k = run (run (boot s) before) turns

    S : ℕ → Type 0
    S = Pair (pd_of (run (boot s) before) guest) (pd_of (run (boot s) before) monitor)

    T : ℕ → Type 0
    T = Pair (pd_of (run (boot s) before) other_guest) (pd_of (run (boot s) before) other_monitor)

    apart : AreSeparate (run (boot s) before) S T
    apart = share.apart.separate

    sound : IsSound k
    sound = subst IsSound (run_append (boot s) before turns) (reached_sound s (before ++ turns))

    neither : (n : ℕ) → IsMember k (grown (run (boot s) before) T turns) n → IsMember k (grown (run (boot s) before) S turns) n → ⊥
    neither n theirs mine = both_member k (grown (run (boot s) before) S turns) (grown (run (boot s) before) T turns) n (separate_along s before turns S T apart).disjoint mine theirs

    one : (t : Secret) → IsSecretOf k (grown (run (boot s) before) T turns) t → IsUnseen k ec t
    one (InRegisters n) is = λ same. neither n is (subst (IsMember k (grown (run (boot s) before) S turns)) same m)
    one (InWords n) is = unread_in k (grown (run (boot s) before) S turns) cpu ec n sound (separate_along s before turns S T apart).first acts_ m (neither n is) ec acts_
    one (InFrame frame) is =
        set_hidden s before turns S T cpu ec frame apart acts_ m
        (λ right mine. share.memory frame (any_reached mine) (any_reached (reach_along s before turns T S 0 frame (flipped (run (boot s) before) S T apart) (reached_none is)))) ec acts_

    all : (secrets : List Secret) → AreSecretsOf k (grown (run (boot s) before) T turns) secrets → AreUnseen k ec secrets
    all [] is = tt
    all (t ∷ secrets) is = (one t is.0, all secrets is.1)
