-- The chosen scheduling context stays chosen, where registers, memory and counts alone change, and each budget keeps its stamp.
use Rattle.std.proofs.Common.{◌≡◌, ℕ, ◌+◌, List, [], ◌∷◌, inl, inr, ap, ap₂, sym, ◌∙◌, subst, refl}
use Rattle.std.specs.Prelude.{Bool, ◌==◌, ◌&&◌, slice_get, slice_set, Option, Some, None, option_map, if◌then◌else◌}
use Rattle.std.proofs.lemmas.Bool.{cases_eq}
use Rattle.std.proofs.lemmas.Option.{same_Some}
use Rattle.nova_ec.proofs.Untouched.{as_far, same_acts, turns_stay}
use Rattle.nova_ec.specs.Ways.{TurnsStay}
use Rattle.nova_objects.specs.declared.object.Object.{Object}
use Rattle.nova_objects.specs.declared.object.Object.TheVariants.{Sc}
use Rattle.nova_model.specs.Choice.{Candidate, actor, candidate_of, candidate_with, candidates_from, choice, foremost, in_front}
use Rattle.nova_model.specs.Edges.{AreEdges, state_in}
use Rattle.nova_model.specs.State.{Contexts, KernelState, budget_at, entry}
use Rattle.nova_model.specs.declared.budget.Budget.{Budget}
use Rattle.nova_model.specs.declared.context.EcState.{EcState}
use Rattle.law_turns.proofs.Setting.{entry_itself, entry_other}

-- objects stay, turns go where they went, and stamps stay
pub record IsSameChoice (k new : KernelState) : Type 0 where
  pub objects : new.objects ≡ k.objects
  pub turns : (ec : ℕ) → TurnsStay k.contexts new.contexts ec
  pub stamps : (sc : ℕ) → option_map (λ (b : Budget). b.stamp) (budget_at new sc) ≡ option_map (λ (b : Budget). b.stamp) (budget_at k sc)

with_same : (sc who priority : ℕ) (a b : Option Budget) → option_map (λ (b : Budget). b.stamp) a ≡ option_map (λ (b : Budget). b.stamp) b →
    candidate_with sc who priority a ≡ candidate_with sc who priority b
with_same sc who priority None None h = refl
with_same sc who priority None (Some b) h = absurd (cc)
with_same sc who priority (Some a) None h = absurd (cc)
with_same sc who priority (Some a) (Some b) h = ap (λ (s : ℕ). Some (record { sc = sc; actor = who; priority = priority; stamp = s })) (same_Some a.stamp b.stamp h)

candidate_same : (k new : KernelState) (cpu sc : ℕ) (o : Object) → IsSameChoice k new → candidate_of new cpu sc o ≡ candidate_of k cpu sc o
candidate_same k new cpu sc (Sc ec its priority quantum) same =
    ap₂ (λ (t : Bool) (o : Option Candidate). if (its == cpu) && t then o else None) (same_acts k.contexts new.contexts ec (same.turns ec))
    (ap (λ (who : ℕ). candidate_with sc who priority (budget_at new sc)) (same.turns ec).0
    ∙ with_same sc (actor k ec) priority (budget_at new sc) (budget_at k sc) (same.stamps sc))
candidate_same k new cpu sc other same = refl

candidates_same : (k new : KernelState) (cpu sc : ℕ) (os : List Object) → IsSameChoice k new → candidates_from new cpu sc os ≡ candidates_from k cpu sc os
candidates_same k new cpu sc [] same = refl
candidates_same k new cpu sc (o ∷ os) same =
    ap₂ (λ (c : Option Candidate) (cs : List Candidate). in_front c cs) (candidate_same k new cpu sc o same) (candidates_same k new cpu (sc + 1) os same)

pub choice_same : (k new : KernelState) (cpu : ℕ) → IsSameChoice k new → choice new cpu ≡ choice k cpu
unfolding choice
choice_same k new cpu same =
    ap foremost (ap (λ (os : List Object). candidates_from new cpu 0 os) same.objects ∙ candidates_same k new cpu 0 k.objects same)

-- a context whose state stays moves no turns
states_stay : (cs : Contexts) (g : ℕ) (x y : EcState) → entry (slice_get cs g) ≡ Some x → y.state ≡ x.state → (e : ℕ) → state_in (slice_set cs g (Some y)) e ≡ state_in cs e
states_stay cs g x y there same e = elim (cases_eq e g) [
  | inl here ↦ subst (λ (n : ℕ). state_in (slice_set cs g (Some y)) n ≡ state_in cs n) (sym here)
      (ap (option_map (λ (z : EcState). z.state)) (entry_itself cs g y (rw there refl)) ∙ (ap Some same ∙ sym (ap (option_map (λ (z : EcState). z.state)) there)))
  | inr ne ↦ ap (option_map (λ (z : EcState). z.state)) (entry_other cs g e y ne)
]

pub turns_go_on : (cs : Contexts) (g : ℕ) (x y : EcState) → AreEdges cs → entry (slice_get cs g) ≡ Some x → y.state ≡ x.state → (e : ℕ) → TurnsStay cs (slice_set cs g (Some y)) e
turns_go_on cs g x y sound there same e =
    turns_stay cs (slice_set cs g (Some y)) (λ (n : ℕ). Unit {0}) e sound
    (record { states = λ n all. states_stay cs g x y there same n; closed = λ n h all leads. tt }) tt (as_far cs g e y)

pub stamps_stay : (bs : List (Option Budget)) (sc : ℕ) (a b : Budget) → entry (slice_get bs sc) ≡ Some a → b.stamp ≡ a.stamp → (n : ℕ) →
    option_map (λ (b : Budget). b.stamp) (entry (slice_get (slice_set bs sc (Some b)) n)) ≡ option_map (λ (b : Budget). b.stamp) (entry (slice_get bs n))
stamps_stay bs sc a b there same n = elim (cases_eq n sc) [
  | inl here ↦ subst (λ (m : ℕ). option_map (λ (b : Budget). b.stamp) (entry (slice_get (slice_set bs sc (Some b)) m)) ≡ option_map (λ (b : Budget). b.stamp) (entry (slice_get bs m))) (sym here)
      (ap (option_map (λ (b : Budget). b.stamp)) (entry_itself bs sc b (rw there refl)) ∙ (ap Some same ∙ sym (ap (option_map (λ (b : Budget). b.stamp)) there)))
  | inr ne ↦ ap (option_map (λ (b : Budget). b.stamp)) (entry_other bs sc n b ne)
]
