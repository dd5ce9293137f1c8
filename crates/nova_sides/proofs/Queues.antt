-- Where none waits at a semaphore, no execution context is blocked there.
use Rattle.std.proofs.Common.{◌≡◌, ℕ, List, [], ◌∷◌, ◌++◌, flat_map, length, refl, ap, ◌∙◌}
use Rattle.std.specs.Prelude.{◌+◌, if◌then◌else◌, Bool, true, false, option_map, option_to_list, Option, Some, None}
use Rattle.std.specs.List.{enumerate_from}
use Rattle.nova_objects.specs.declared.object.Object.{Object}
use Rattle.nova_objects.specs.declared.object.Object.TheVariants.{Pd, Ec, Sc, Pt, Sm}
use Rattle.nova_model.specs.Edges.{state_in}
use Rattle.nova_model.specs.Semaphores.{has, semaphore}
use Rattle.nova_model.specs.State.{KernelState, context_at}
use Rattle.nova_model.specs.declared.context.EcState.{EcState}
use Rattle.nova_model.specs.declared.context.State.{State}
use Rattle.nova_model.specs.declared.context.State.TheVariants.{Blocked}
use Rattle.nova_model.specs.declared.delegation.Derivation.{Derivation}
use Rattle.law_turns.specs.Waiting.{AreBlocked}
use Rattle.nova_ties.specs.declared.tie.Tie.{Tie}
use Rattle.nova_ties.specs.declared.tie.Cause.TheVariants as cause
use Rattle.law_sides.specs.Tied.{is_blocked_at, waits_at, waits_in, weak}
use Rattle.law_sides.proofs.Words.{at_sm}

nobody_has : (list : List ℕ) (n : ℕ) → length list ≡ 0 → has list n ≡ true → false ≡ true
nobody_has [] n is found = found
nobody_has (m ∷ list) n is found = absurd (cc)

module _ (k : KernelState) (d : Derivation) (blocked : AreBlocked k.contexts k.semaphores) (none : length (semaphore k.semaphores d.target).waiting ≡ 0) where
  abbrev tie : ℕ × Object → List Tie
  tie e = option_to_list (waits_in k d e)

  one : (n : ℕ) (o : Object) → tie (n, o) ≡ []
  one n Pd = refl
  one n (Pt handler mtd ip) = refl
  one n (Sc e cpu priority quantum) = refl
  one n Sm = refl
  one n (Ec pd cpu kind event) = by_context (context_at k n) refl
    where
      by_context : (c : Option EcState) → context_at k n ≡ c → option_to_list (waits_at d n pd c) ≡ []
      by_context None at = refl
      by_context (Some x) at = by_test (is_blocked_at d.target x) refl
        where
          by_test : (t : Bool) → is_blocked_at d.target x ≡ t → option_to_list (waits_at d n pd (Some x)) ≡ []
          by_test false is = ap (λ (b : Bool). option_to_list (if b then Some (weak d.pd pd (cause.Waits d.id n)) else None)) is
          by_test true is = absurd (
              let there : state_in k.contexts n ≡ Some (Blocked d.target) = ap (λ (o : Option EcState). option_map (λ (y : EcState). y.state) o) at ∙ ap (λ (s : State). Some s) (at_sm d.target x.state is) in
              let no : false ≡ true = nobody_has (semaphore k.semaphores d.target).waiting n none (blocked.waiting d.target n there) in
              cc
              )

  all : (list : List Object) (n : ℕ) → flat_map tie (enumerate_from n list) ≡ []
  all [] n = refl
  all (o ∷ list) n = ap (λ (l : List Tie). l ++ flat_map tie (enumerate_from (n + 1) list)) (one n o) ∙ all list (n + 1)

pub nobody_waits : (k : KernelState) (d : Derivation) → AreBlocked k.contexts k.semaphores → length (semaphore k.semaphores d.target).waiting ≡ 0 →
    flat_map (λ (e : ℕ × Object). option_to_list (waits_in k d e)) (enumerate_from 0 k.objects) ≡ []
nobody_waits k d blocked none = all k d blocked none k.objects 0
