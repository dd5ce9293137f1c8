-- How a bench ends, from each of its states on.
use Rattle.std.proofs.Common.{◌≡◌, ℕ, ◌+◌, List, [], ◌∷◌, length, refl, ap, sym, ◌∙◌, subst, arith}
use Rattle.std.specs.Prelude.{Bool, true, false, filter, cond, Option, IsSome, option_map}
use Rattle.nova_model.specs.Choice.{in_front, is_quiet}
use Rattle.nova_model.specs.Runs.{IsFreeOfIdle, after, run, trace}
use Rattle.nova_model.specs.State.{KernelState}
use Rattle.nova_model.specs.Turn.{Step, event_by, state_after}
use Rattle.nova_model.specs.declared.deed.Deed.{Deed}
use Rattle.nova_model.specs.declared.event.Event.{Event}
use Rattle.nova_report.specs.Summary.{count, is_gone, is_made}
use Rattle.law_texts.proofs.BenchTurn.{IsTaken}

-- the turns of this order, none of them idle, leave the kernel quiet; `m` derivations were made as children, `g` removed, and `c` are there
pub record Ends (order : List ℕ) (k : KernelState) (m g c : ℕ) : Type 0 where
  pub free : IsFreeOfIdle k order
  pub quiet : is_quiet (run k order) ≡ true
  pub turns : (run k order).turns ≡ k.turns + length order
  pub made : count is_made (trace k order) ≡ m
  pub gone : count is_gone (trace k order) ≡ g
  pub caps : length (run k order).delegations.list ≡ c

-- of a turn more: how many events of a test it has
abbrev pub one_if : (Event → Bool) → Deed → ℕ
one_if p d = length (filter p (event_by 0 2 1 d ∷ []))

first_counted : (p : Event → Bool) (e : Event) (es : List Event) → count p (e ∷ es) ≡ length (filter p (e ∷ [])) + count p es
first_counted p e es = by_case (p e) (filter p es)
  where
    by_case : (b : Bool) (n : List Event) → length (cond b (e ∷ n) n) ≡ length (cond b (e ∷ []) []) + length n
    by_case true n = omega arith
    by_case false n = omega arith

pub turn_ends : (k new : KernelState) (d : Deed) (order : List ℕ) (m g c m' g' : ℕ) → IsTaken k d new → new.turns ≡ k.turns + 1 → one_if is_made d + m ≡ m' → one_if is_gone d + g ≡ g' →
    Ends order new m g c → Ends (0 ∷ order) k m' g' c
turn_ends k new d order m g c m' g' is counts made gone ends = record {
  free = (subst IsSome (sym is.turn) refl, subst (λ (s : KernelState). IsFreeOfIdle s order) (sym comes_to) ends.free);
  quiet = ap (λ (s : KernelState). is_quiet (run s order)) comes_to ∙ ends.quiet;
  turns = ap (λ (s : KernelState). (run s order).turns) comes_to ∙ (let t = ends.turns in omega (arith, t, counts));
  made = ap (count is_made) one_more ∙ (first_counted is_made (event_by 0 2 1 d) (trace new order) ∙ (ap (λ (n : ℕ). one_if is_made d + n) ends.made ∙ made));
  gone = ap (count is_gone) one_more ∙ (first_counted is_gone (event_by 0 2 1 d) (trace new order) ∙ (ap (λ (n : ℕ). one_if is_gone d + n) ends.gone ∙ gone));
  caps = ap (λ (s : KernelState). length (run s order).delegations.list) comes_to ∙ ends.caps;
}
  where
    comes_to : after k 0 ≡ new
    comes_to = ap (state_after k) is.turn

    one_more : trace k (0 ∷ order) ≡ event_by 0 2 1 d ∷ trace new order
    one_more = ap (λ (o : Option Step). in_front (option_map (λ (s : Step). s.event) o) (trace (state_after k o) order)) is.turn
