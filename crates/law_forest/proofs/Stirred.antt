-- What counting the stirs of a deed leaves: all but the stir counts of virtual CPUs; and these too where the deed is no input from outside.
use Rattle.std.proofs.Common.{◌≡◌, ℕ, zero, suc, ◌+◌, List, [], ◌∷◌, ap, ap₂, ◌∙◌, refl, arith}
use Rattle.std.specs.Prelude.{◌==◌, Bool, true, false, if◌then◌else◌, Option, Some, None, is_some, map, option_map, option_and_then, slice_get}
use Rattle.nova_range.specs.declared.status.Status.{Status}
use Rattle.nova_model.specs.Deeds.{deed, done}
use Rattle.nova_model.specs.Inputs.{input_of, is_outside, is_stirred, only_if, others_input, own_input, stirred, stirred_count, stirred_from}
use Rattle.nova_model.specs.State.{KernelState, entry}
use Rattle.nova_model.specs.declared.deed.Deed.{Deed}
use Rattle.nova_model.specs.declared.deed.Deed.TheVariants.{Refuses}

-- the state when the context that acts has done its deed, with what it stirs counted
abbrev pub acted : KernelState → ℕ → KernelState
acted k ec = stirred k ec (deed k ec) (done k ec (deed k ec))

-- the count of a context that is not stirred stays
pub count_stays : (k : KernelState) (ec : ℕ) (d : Deed) (g : ℕ) → is_stirred k ec d g ≡ false → (o : Option ℕ) → option_map (stirred_count k ec d g) o ≡ o
count_stays k ec d g calm None = refl
count_stays k ec d g calm (Some count) = rw calm refl

pub none_stirred : (k : KernelState) (ec : ℕ) (d : Deed) → ((g : ℕ) → is_stirred k ec d g ≡ false) → (n : ℕ) (counts : List (Option ℕ)) →
    stirred_from k ec d n counts ≡ counts
none_stirred k ec d calm n [] = refl
none_stirred k ec d calm n (count ∷ counts) =
    ap₂ (λ (c : Option ℕ) (cs : List (Option ℕ)). c ∷ cs) (count_stays k ec d n (calm n) count) (none_stirred k ec d calm (n + 1) counts)

-- a deed that is no input leaves the state as it was done
abbrev with_guests : KernelState → List (Option ℕ) → KernelState
with_guests s counts = record s { stirs = record s.stirs { guests = counts } }

pub stirred_calm : (k : KernelState) (ec : ℕ) (d : Deed) (s : KernelState) → ((g : ℕ) → is_stirred k ec d g ≡ false) → stirred k ec d s ≡ s
stirred_calm k ec d s calm = ap (with_guests s) (none_stirred k ec d calm 0 s.stirs.guests)

-- a deed that is no input for the context that does it, nor for another, is none; a refused call is such
pub calm_by : (k : KernelState) (ec : ℕ) (d : Deed) → own_input d ≡ None → ((g : ℕ) → others_input k ec g d ≡ None) → (g : ℕ) → is_stirred k ec d g ≡ false
unfolding input_of
calm_by k ec d own others g = by_test (ec == g)
  where
    by_test : (t : Bool) → is_some (option_and_then (λ i. only_if (is_outside i) i) (if t then own_input d else others_input k ec g d)) ≡ false
    by_test true = rw own refl
    by_test false = rw (others g) refl

pub refusal_stirred : (k : KernelState) (ec call : ℕ) (status : Status) (s : KernelState) → stirred k ec (Refuses call status) s ≡ s
refusal_stirred k ec call status s = stirred_calm k ec (Refuses call status) s (calm_by k ec (Refuses call status) refl (λ g. refl))

-- EACH COUNT

counts_there : (k : KernelState) (ec : ℕ) (d : Deed) (g : ℕ) (o : Option ℕ) → is_some (option_map (stirred_count k ec d g) o) ≡ is_some o
counts_there k ec d g None = refl
counts_there k ec d g (Some count) = refl

-- there are counts where there were some
pub stirred_there : (k : KernelState) (ec : ℕ) (d : Deed) (n : ℕ) (counts : List (Option ℕ)) → map is_some (stirred_from k ec d n counts) ≡ map is_some counts
stirred_there k ec d n [] = refl
stirred_there k ec d n (count ∷ counts) =
    ap₂ (λ (c : Bool) (cs : List Bool). c ∷ cs) (counts_there k ec d n count) (stirred_there k ec d (n + 1) counts)

-- that of a number, of those from `n` on
pub stirred_at : (k : KernelState) (ec : ℕ) (d : Deed) (n : ℕ) (counts : List (Option ℕ)) (i : ℕ) →
    entry (slice_get (stirred_from k ec d n counts) i) ≡ option_map (stirred_count k ec d (n + i)) (entry (slice_get counts i))
stirred_at k ec d n [] i = refl
stirred_at k ec d n (count ∷ counts) zero = ap (λ (m : ℕ). option_map (stirred_count k ec d m) count) (omega arith)
stirred_at k ec d n (count ∷ counts) (suc i) =
    stirred_at k ec d (n + 1) counts i ∙ ap (λ (m : ℕ). option_map (stirred_count k ec d m) (entry (slice_get counts i))) (omega arith)
