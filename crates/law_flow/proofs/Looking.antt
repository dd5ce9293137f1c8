-- What is looked up in tables that are known, and in a state in which none waits.
use Rattle.std.proofs.Common.{◌≡◌, ◌≢◌, ◌≤◌, ◌<◌, ◌+◌, ◌-◌, ◌^◌, ◌⊎◌, ℕ, zero, suc, List, [], ◌∷◌, refl, sym, ap, subst, inl, inr, arith}
use Rattle.std.specs.Prelude.{◌==◌, ◌&&◌, ◌||◌, Bool, true, false, map, nat_le, nat_lt, slice_get, Option, Some, None, option_map, option_and_then}
use Rattle.std.specs.List.{find}
use Rattle.std.proofs.lemmas.Bool.{and_parts, eqb-true}
use Rattle.std.proofs.lemmas.Bool.Decides.{nat_tests}
use Rattle.std.proofs.lemmas.Option.{same_Some}
use Rattle.nova_guest.specs.declared.page.Page.{Page}
use Rattle.nova_range.specs.Ranges.{end_of}
use Rattle.nova_range.specs.declared.range.Kind.TheVariants.{Mem}
use Rattle.nova_model.specs.Delegations.{covers, has_place, is_same_kind, page_in, range_of, reach}
use Rattle.nova_model.specs.Edges.{edge_of}
use Rattle.nova_model.specs.State.{Contexts, context_in, ec_in, entry}
use Rattle.nova_model.specs.declared.context.EcState.{EcState}
use Rattle.nova_model.specs.declared.context.State.{State}
use Rattle.nova_model.specs.declared.context.State.TheVariants.{Blocked, Dead, Fresh, Parked, Ready}
use Rattle.nova_model.specs.declared.delegation.Derivation.{Derivation}
use Rattle.law_forest.specs.Within.{LeadsTo}
use Rattle.law_forest.proofs.Members.{IsIn, found_in}
use Rattle.law_forest.proofs.Transfers.{kinds_equal}
use Rattle.law_integrity.proofs.Meeting.{IsCalm}
use Rattle.law_flow.specs.Examples.{first_objects}

-- NUMBERS

pub no : {A : Type 0} → ◌≡◌ {A = Bool} false true → A
no h = absurd (cc)

pub split : (n a : ℕ) (rest : Bool) → ((n == a) || rest) ≡ true → (n ≡ a) ⊎ (rest ≡ true)
split n a rest h = by_test (n == a) refl h
  where
    by_test : (t : Bool) → (n == a) ≡ t → (t || rest) ≡ true → (n ≡ a) ⊎ (rest ≡ true)
    by_test true is g = inl (eqb-true n a is)
    by_test false is g = inr g

pub either : (n a b : ℕ) → ((n == a) || (n == b)) ≡ true → (n ≡ a) ⊎ (n ≡ b)
either n a b h = elim (split n a (n == b) h) [
  | inl is ↦ inl is
  | inr is ↦ inr (eqb-true n b is)
]

pub own_object : (Q : ℕ → Type 0) → Q 5 → Q 7 → Q 11 → Q 13 → (n : ℕ) → first_objects n ≡ true → Q n
own_object Q five seven eleven last n h = elim (split n 5 ((n == 7) || ((n == 11) || (n == 13))) h) [
  | inl is ↦ subst Q (sym is) five
  | inr g ↦ elim (split n 7 ((n == 11) || (n == 13)) g) [
    | inl is ↦ subst Q (sym is) seven
    | inr f ↦ elim (either n 11 13 f) [
      | inl is ↦ subst Q (sym is) eleven
      | inr is ↦ subst Q (sym is) last
    ]
  ]
]

-- what holds of each entry at its number
abbrev pub AllAt : {T : Type 0} → (ℕ → T → Type 0) → List T → Type 0
AllAt Q [] = Unit {0}
AllAt Q (x ∷ xs) = Q 0 x × AllAt (λ n. Q (suc n)) xs

pub at_all : {T : Type 0} (Q : ℕ → T → Type 0) (xs : List T) → AllAt Q xs → (n : ℕ) (x : T) → slice_get xs n ≡ Some x → Q n x
at_all Q [] all n x is = absurd (cc)
at_all Q (y ∷ ys) all zero x is = subst (Q 0) (same_Some y x is) all.0
at_all Q (y ∷ ys) all (suc n) x is = at_all (λ m. Q (suc m)) ys all.1 n x is

-- and of nothing
pub entry_at : {T : Type 0} (Q : ℕ → Option T → Type 0) (xs : List (Option T)) → ((n : ℕ) → Q n None) → AllAt Q xs → (n : ℕ) → Q n (entry (slice_get xs n))
entry_at Q [] none all n = none n
entry_at Q (x ∷ xs) none all zero = all.0
entry_at Q (x ∷ xs) none all (suc n) = entry_at (λ m. Q (suc m)) xs (λ m. none (suc m)) all.1 n

-- of each execution context
pub looked_up : {T : Type 0} (f : Option EcState → Option T) → f None ≡ None → (cs : Contexts) (n : ℕ) → f (ec_in cs n) ≡ entry (slice_get (map f cs) n)
looked_up f none [] n = none
looked_up f none (c ∷ cs) zero = refl
looked_up f none (c ∷ cs) (suc n) = looked_up f none cs n

-- PAGES

within : (target page base size frame : ℕ) → target + (page - base) ≡ frame → base ≤ page → page < base + size → (target ≤ frame) × (frame < target + size)
within target page base size frame is low high = (omega (arith, is), omega (arith, is, low, high))

-- the derivation by which a page leads to a frame
pub record Led (list : List Derivation) (pd frame : ℕ) : Type 0 where
  pub derivation : Derivation
  pub there : IsIn list derivation
  pub its : derivation.pd ≡ pd
  pub kind : derivation.kind ≡ Mem
  pub leads : LeadsTo derivation frame

pub led : (list : List Derivation) (pd page : ℕ) (to : Page) → reach list pd page ≡ Some to → Led list pd to.frame
led list pd page to is = by_found (find (covers Mem pd page) list) refl is
  where
    by_found : (o : Option Derivation) → find (covers Mem pd page) list ≡ o → option_map (page_in page) o ≡ Some to → Led list pd to.frame
    by_found None at h = absurd (cc)
    by_found (Some d) at h =
        let its = found_in (covers Mem pd page) list d at in
        let parts = and_parts (is_same_kind Mem d.kind) (d.pd == pd && has_place (range_of d) page) its.1 in
        let rest = and_parts (d.pd == pd) (has_place (range_of d) page) parts.1 in
        let places = and_parts (nat_le d.base page) (nat_lt page (end_of (range_of d))) rest.1 in
        let low : d.base ≤ page = grind (arith, nat_tests, places.0) in
        let high : page < d.base + 2 ^ d.order = grind (arith, nat_tests, places.1) in
        let frame : d.target + (page - d.base) ≡ to.frame = ap (λ (p : Page). p.frame) (same_Some (page_in page d) to h) in
        let bounds = within d.target page d.base (2 ^ d.order) to.frame frame low high in
        record { derivation = d; there = its.0; its = eqb-true d.pd pd rest.0; kind = sym (kinds_equal Mem d.kind parts.0); leads = record { first = bounds.0; last = bounds.1 } }

-- A CONTEXT THAT WAITS FOR NONE

pub calm_edge : (o : Option State) (handler : ℕ) → IsCalm o → option_and_then edge_of o ≡ Some handler → ⊥
calm_edge None handler c e = cc
calm_edge (Some Dead) handler c e = cc
calm_edge (Some Fresh) handler c e = cc
calm_edge (Some Parked) handler c e = cc
calm_edge (Some Ready) handler c e = cc
calm_edge (Some other) handler c e = absurd c

pub calm_wait : (o : Option State) (sm : ℕ) → IsCalm o → o ≡ Some (Blocked sm) → ⊥
calm_wait o sm c is = subst IsCalm is c

pub calm_context : (o : Option EcState) (s : State) → IsCalm (option_map (λ (x : EcState). x.state) o) → s ≢ Dead → (IsCalm (Some s) → ⊥) → (context_in o).state ≡ s → ⊥
calm_context None s c alive never is = alive (sym is)
calm_context (Some x) s c alive never is = never (subst (λ (t : State). IsCalm (Some t)) is c)
