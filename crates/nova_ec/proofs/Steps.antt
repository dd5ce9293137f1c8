-- One instruction of an execution context, in its place in the table.
use Rattle.std.proofs.Common.{◌≡◌, ℕ, zero, suc, List, [], ◌∷◌, refl, ap, sym, ◌∙◌, IsSome}
use Rattle.std.specs.Prelude.{Option, Some, None, slice_get, slice_set}
use Rattle.std.proofs.lemmas.List.{set-get_or}
use Rattle.std.proofs.lemmas.Option.{get_or_from_slice_get}
use Rattle.rv_core.specs.declared.outcome.Outcome.{Outcome}
use Rattle.rv_model.specs.Registers.{Registers}
use Rattle.rv_model.specs.Step.{Once, Raised, Went, Store}
use Rattle.nova_model.specs.State.{Contexts, entry, ec_in, ec_of, with_ec}
use Rattle.nova_model.specs.declared.context.EcState.{EcState}
use Rattle.nova_ec.specs.Tables.{EcTable, StepsIn, Steps, with_items}
use Rattle.nova_ec.proofs.Tables.{ec_in-set_same, ec_of-there}

-- an instruction leaves the number, the processor, what the execution context is about to do, and its caller
pub record IsSteady (x x' : EcState) : Type 0 where
  pub id : x'.id ≡ x.id
  pub cpu : x'.cpu ≡ x.cpu
  pub state : x'.state ≡ x.state
  pub caller : x'.caller ≡ x.caller

pub steady : {S : Type 0} (stored : Store → S → S) (o : Once) (x x' : EcState) (s s' : S) (outcome : Outcome) → StepsIn stored o x s outcome x' s' → IsSteady x x'
steady stored (Raised reason q0 q1) x x' s s' outcome h = record { id = ap (λ (y : EcState). y.id) h.1; cpu = ap (λ (y : EcState). y.cpu) h.1; state = ap (λ (y : EcState). y.state) h.1; caller = ap (λ (y : EcState). y.caller) h.1 }
steady stored (Went regs None) x x' s s' outcome h = record { id = ap (λ (y : EcState). y.id) h.1; cpu = ap (λ (y : EcState). y.cpu) h.1; state = ap (λ (y : EcState). y.state) h.1; caller = ap (λ (y : EcState). y.caller) h.1 }
steady stored (Went regs (Some store)) x x' s s' outcome h = record { id = ap (λ (y : EcState). y.id) h.1; cpu = ap (λ (y : EcState). y.cpu) h.1; state = ap (λ (y : EcState). y.state) h.1; caller = ap (λ (y : EcState). y.caller) h.1 }

-- a table with an entry put where it is stays the same
set-same : {T : Type 0} → (xs : List T) (i : ℕ) (x : T) → slice_get xs i ≡ Some x → slice_set xs i x ≡ xs
set-same xs i x h = sym (ap (slice_set xs i) (get_or_from_slice_get xs i x x h)) ∙ set-get_or xs i x

entry-there : (o : Option (Option EcState)) (x : EcState) → entry o ≡ Some x → o ≡ Some (Some x)
entry-there None x h = absurd cc
entry-there (Some y) x h = ap Some h

pub with_ec-same : (cs : Contexts) (ec : ℕ) (x : EcState) → ec_in cs ec ≡ Some x → with_ec cs ec x ≡ cs
with_ec-same cs ec x there = set-same cs ec (Some x) (entry-there (slice_get cs ec) x there)

with_regs : (t : EcTable) (ec : ℕ) (x : EcState) (r : Registers) → ec_in t.items ec ≡ Some x →
    with_items t (with_ec t.items ec (record x { regs = r })) ≡ with_items t (with_ec t.items ec (record (ec_of t.items ec) { regs = r }))
with_regs t ec x r there = ap (λ (y : EcState). with_items t (with_ec t.items ec (record y { regs = r }))) (sym (ec_of-there t.items ec x there))

pub steps_there : {S : Type 0} (stored : Store → S → S) (o : Once) (t : EcTable) (ec : ℕ) (x x' : EcState) (s s' : S) (outcome : Outcome) → ec_in t.items ec ≡ Some x →
    StepsIn stored o x s outcome x' s' → Steps stored o t ec s outcome (with_items t (with_ec t.items ec x')) s'
steps_there stored (Raised reason q0 q1) t ec x x' s s' outcome there h =
    (h.0, ap (λ (y : EcState). with_items t (with_ec t.items ec y)) h.1 ∙ ap (with_items t) (with_ec-same t.items ec x there), h.2)
steps_there stored (Went regs None) t ec x x' s s' outcome there h =
    (h.0, ap (λ (y : EcState). with_items t (with_ec t.items ec y)) h.1 ∙ with_regs t ec x regs there, h.2)
steps_there stored (Went regs (Some store)) t ec x x' s s' outcome there h =
    (h.0, ap (λ (y : EcState). with_items t (with_ec t.items ec y)) h.1 ∙ with_regs t ec x regs there, h.2)

-- an execution context that stays what it is
pub rests : (t : EcTable) (ec : ℕ) → IsSome (ec_in t.items ec) → t ≡ with_items t (with_ec t.items ec (ec_of t.items ec))
rests t ec there = by_place (ec_in t.items ec) refl there
  where
    by_place : (o : Option EcState) → ec_in t.items ec ≡ o → IsSome o → t ≡ with_items t (with_ec t.items ec (ec_of t.items ec))
    by_place None is some = absurd cc
    by_place (Some x) is some =
        sym (ap (λ (y : EcState). with_items t (with_ec t.items ec y)) (ec_of-there t.items ec x is) ∙ ap (with_items t) (with_ec-same t.items ec x is))

-- of two changes of one execution context the second builds on the first
set_set : {T : Type 0} → (xs : List T) (i : ℕ) (x y : T) → slice_set (slice_set xs i x) i y ≡ slice_set xs i y
set_set [] i x y = refl
set_set (z ∷ xs) zero x y = refl
set_set (z ∷ xs) (suc i) x y = ap (λ (ys : List _). z ∷ ys) (set_set xs i x y)

pub set_twice : (t : EcTable) (ec : ℕ) (y : EcState) (f : EcState → EcState) → IsSome (ec_in t.items ec) →
    with_items (with_items t (with_ec t.items ec y)) (with_ec (with_ec t.items ec y) ec (f (ec_of (with_ec t.items ec y) ec))) ≡ with_items t (with_ec t.items ec (f y))
set_twice t ec y f there = by_place (ec_in t.items ec) refl there
  where
    by_place : (o : Option EcState) → ec_in t.items ec ≡ o → IsSome o →
        with_items (with_items t (with_ec t.items ec y)) (with_ec (with_ec t.items ec y) ec (f (ec_of (with_ec t.items ec y) ec))) ≡ with_items t (with_ec t.items ec (f y))
    by_place None is some = absurd cc
    by_place (Some x) is some =
        ap (λ (z : EcState). with_items t (with_ec (with_ec t.items ec y) ec (f z))) (ec_of-there (with_ec t.items ec y) ec y (ec_in-set_same t.items ec x y is))
        ∙ ap (with_items t) (set_set t.items ec (Some y) (Some (f y)))
