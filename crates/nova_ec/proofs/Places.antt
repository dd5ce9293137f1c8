-- An execution context is changed in its place: what holds of the whole table stays.
use Rattle.std.proofs.Common.{◌≡◌, ◌+◌, ◌≤◌, ℕ, List, length, arith, ap, sym, ◌∙◌, subst, refl, IsSome}
use Rattle.std.specs.Prelude.{Bool, true, false, Option, Some, None, slice_index_or, slice_set}
use Rattle.std.proofs.lemmas.List.{length-set}
use Rattle.nova_model.specs.Deeds.{serving}
use Rattle.nova_model.specs.Edges.{edge_of, AreCallers, AreEdges}
use Rattle.nova_model.specs.State.{Contexts, ec_in, ec_of, with_ec}
use Rattle.nova_model.specs.declared.context.EcState.{EcState}
use Rattle.nova_model.specs.declared.context.Mark.{Mark}
use Rattle.nova_ec.specs.Tables.{AreNumbered, EcTable, MayBecome, with_items}
use Rattle.nova_ec.specs.Waiting.{AreKnown, changed, with_waiter, without_waiter}
use Rattle.nova_ec.specs.declared.waiters.Waiters.{Waiters}
use Rattle.nova_ec.proofs.Callers.{callers_put}
use Rattle.nova_ec.proofs.Tables.{ec_of-there, ec_read, edges_put, numbered_put}
use Rattle.nova_ec.proofs.Waiting.{known_kept, known_put, length-changed}

-- the table with the contexts that may wait for each, in vectors with room (the types A and B)
abbrev pub AreSound : Type 0 → Type 0 → Contexts → List Waiters → Type 0
AreSound A B cs all = AreEdges cs × A × AreNumbered cs × AreCallers cs × B × (length all ≡ length cs) × AreKnown cs all

-- one keeps its state
pub sound_kept : {A B : Type 0} (cs : Contexts) (all : List Waiters) (e : ℕ) (y : EcState) (may : MayBecome cs e y) → y.state ≡ may.0.state → AreSound A B cs all →
    AreSound A B (slice_set cs e (Some y)) all
sound_kept cs all e y may state (edges, a, numbers, callers, b, long, known) = (
  edges_put cs e y edges may,
  a,
  numbered_put cs e y numbers may,
  callers_put cs e y callers may,
  b,
  long ∙ sym (length-set cs e (Some y)),
  known_kept cs all e may.0 y known may.1 state,
)

-- a context that leaves the handler that it waited for, and waits for that which its new state names; the vector of waiters keeps its length and
-- capacity
pub sound_put : {A : Type 0} {len capacity len' capacity' : ℕ} (spare : ℕ) (cs : Contexts) (all rest : List Waiters) (e : ℕ) (y z : EcState) (left next : Option ℕ) → y ≡ z →
    MayBecome cs e z → edge_of z.state ≡ next → rest ≡ changed (with_waiter e) next (changed (without_waiter e) left all) → len' ≡ len → capacity' ≡ capacity →
    AreSound A (len + spare ≤ capacity) cs all → AreSound A (len' + spare ≤ capacity') (slice_set cs e (Some y)) rest
sound_put {A} {len} {capacity} {len'} {capacity'} spare cs all rest e y z left next same may edge is same_len same_capacity (edges, a, numbers, callers, room, long, known) =
    let without = changed (without_waiter e) left all in
    let joined : rest ≡ changed (with_waiter e) (edge_of z.state) without = is ∙ ap (λ (o : Option ℕ). changed (with_waiter e) o without) (sym edge) in
    subst (λ (x : EcState). AreSound A (len' + spare ≤ capacity') (slice_set cs e (Some x)) rest) (sym same) (
      edges_put cs e z edges may,
      a,
      numbered_put cs e z numbers may,
      callers_put cs e z callers may,
      omega (arith, room, same_len, same_capacity),
      ap (λ (xs : List Waiters). length xs) is ∙ length-changed (with_waiter e) next without ∙ length-changed (without_waiter e) left all ∙ long ∙ sym (length-set cs e (Some z)),
      subst (λ (xs : List Waiters). AreKnown (slice_set cs e (Some z)) xs) (sym joined) (known_put cs all e z left known may),
    )

-- a context that begins to serve waits for none
pub serving_waits : (x : EcState) (c : ℕ) (mark : Mark) (ip identifier : ℕ) (items : Bool) → edge_of (serving x c mark ip identifier items).state ≡ None
serving_waits x c mark ip identifier true = refl
serving_waits x c mark ip identifier false = refl

-- the entry that was read is that of its number
pub read_there : (t u : EcTable) (e : ℕ) (o : Option EcState) (x : EcState) → t ≡ u → IsSome (ec_in u.items e) → o ≡ slice_index_or t.items e o → o ≡ Some x → ec_in t.items e ≡ Some x
read_there t u e o x same there read is = ec_read t.items e o x (subst (λ (v : EcTable). IsSome (ec_in v.items e)) (sym same) there) read is

-- what it became is a function of what it was
pub set_there : (t u : EcTable) (e : ℕ) (x y : EcState) (f : EcState → EcState) → t ≡ u → ec_in t.items e ≡ Some x → y ≡ f x →
    with_items t (with_ec t.items e y) ≡ with_items u (with_ec u.items e (f (ec_of u.items e)))
set_there t u e x y f same there is =
    ap (λ (z : EcState). with_items t (with_ec t.items e z)) (is ∙ ap f (sym (ec_of-there t.items e x there)))
    ∙ ap (λ (v : EcTable). with_items v (with_ec v.items e (f (ec_of v.items e)))) same
