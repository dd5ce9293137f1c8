-- Lists of turns from their ends.
use Rattle.std.proofs.Common.{◌≡◌, ℕ, List, [], ◌∷◌, ◌++◌, ap, sym, ◌∙◌, subst, refl}
use Rattle.std.specs.Prelude.{Bool, true, false, ◌||◌, Option, Some, None}
use Rattle.std.specs.List.{list_any}
use Rattle.std.proofs.lemmas.List.{append-nil, append_assoc}
use Rattle.nova_guest.specs.declared.input.Input.{Input}
use Rattle.nova_model.specs.Choice.{in_front}
use Rattle.nova_model.specs.Guests.{input, inputs}
use Rattle.nova_model.specs.Runs.{after, run}
use Rattle.nova_model.specs.State.{KernelState}
use Rattle.law_origins.specs.Sending.{is_sent}

pub run_append : (k : KernelState) (a b : List ℕ) → run k (a ++ b) ≡ run (run k a) b
run_append k [] b = refl
run_append k (cpu ∷ a) b = run_append (after k cpu) a b

turns_from : (P : List ℕ → Type 0) → ((turns : List ℕ) (cpu : ℕ) → P turns → P (turns ++ cpu ∷ [])) → (before rest : List ℕ) → P before → P (before ++ rest)
turns_from P step before [] p = subst P (sym (append-nil before)) p
turns_from P step before (cpu ∷ rest) p = subst P (append_assoc before (cpu ∷ []) rest) (turns_from P step (before ++ cpu ∷ []) rest (step before cpu p))

-- what holds of no turns, and of one more, holds of all
pub by_turns : (P : List ℕ → Type 0) → P [] → ((turns : List ℕ) (cpu : ℕ) → P turns → P (turns ++ cpu ∷ [])) → (turns : List ℕ) → P turns
by_turns P base step turns = turns_from P step [] turns base

-- one turn more
pub one_more : (turns before later : List ℕ) (c cpu : ℕ) → turns ≡ before ++ c ∷ later → turns ++ cpu ∷ [] ≡ before ++ c ∷ (later ++ cpu ∷ [])
one_more turns before later c cpu whole = ap (λ (l : List ℕ). l ++ cpu ∷ []) whole ∙ append_assoc before (c ∷ later) (cpu ∷ [])

-- that is no Sent
abbrev pub sent_in : Option Input → Bool
sent_in (Some i) = is_sent i
sent_in None = false

none_of : (a b : Bool) → (a || b) ≡ false → (a ≡ false) × (b ≡ false)
none_of true b h = absurd (cc)
none_of false b h = (refl, h)

both_none : (a b : Bool) → a ≡ false → b ≡ false → (a || b) ≡ false
both_none true b h g = absurd (cc)
both_none false b h g = g

pub sent_front : (o : Option Input) (is : List Input) → list_any is_sent (in_front o is) ≡ (sent_in o || list_any is_sent is)
sent_front None is = refl
sent_front (Some i) is = by_test (is_sent i) refl
  where
    by_test : (t : Bool) → is_sent i ≡ t → list_any is_sent (i ∷ is) ≡ (t || list_any is_sent is)
    by_test true h = rw h refl
    by_test false h = rw h refl

pub sent_more : (k : KernelState) (turns : List ℕ) (cpu g : ℕ) → list_any is_sent (inputs k turns g) ≡ false → sent_in (input (run k turns) cpu g) ≡ false →
    list_any is_sent (inputs k (turns ++ cpu ∷ []) g) ≡ false
sent_more k [] cpu g none h = sent_front (input k cpu g) [] ∙ both_none (sent_in (input k cpu g)) false h refl
sent_more k (c ∷ turns) cpu g none h =
    let parts = none_of (sent_in (input k c g)) (list_any is_sent (inputs (after k c) turns g)) (sym (sent_front (input k c g) (inputs (after k c) turns g)) ∙ none) in
    sent_front (input k c g) (inputs (after k c) (turns ++ cpu ∷ []) g)
    ∙ both_none (sent_in (input k c g)) (list_any is_sent (inputs (after k c) (turns ++ cpu ∷ []) g)) parts.0 (sent_more (after k c) turns cpu g parts.1 h)
