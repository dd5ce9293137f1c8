-- What something of a side's comes of, where ranges come and go.
use Rattle.std.proofs.Common.{arith, ◌≡◌, ℕ, suc, ◌==◌, ◌<◌, List, [], ◌∷◌, ◌++◌, refl, sym, ap, ap₂, ◌∙◌, subst}
use Rattle.std.specs.Prelude.{Bool, true, false, is_some, option_map, option_and_then, Option, Some, None, if◌then◌else◌}
use Rattle.std.specs.List.{find}
use Rattle.std.proofs.lemmas.Bool.{ne_eqb}
use Rattle.nova_range.specs.declared.range.Kind.{Kind}
use Rattle.nova_model.specs.Delegations.{Delegations, covers, parent_of, with_id}
use Rattle.nova_model.specs.Forest.{IsChildless, IsForest}
use Rattle.nova_model.specs.Lines.{line, line_by}
use Rattle.nova_model.specs.State.{KernelState}
use Rattle.nova_model.specs.declared.delegation.Derivation.{Derivation}
use Rattle.law_forest.specs.Changes.{Change}
use Rattle.law_forest.proofs.Lines.{line_enough, member_found}
use Rattle.law_forest.proofs.Members.{IsIn, found_in}
use Rattle.law_forest.proofs.Scopes.{KeepsParents, find_more, more_keeps, next_childless}
use Rattle.law_flow.specs.Flow.{Held, held_by, origin_of}
use Rattle.law_flow.proofs.Parts.{IsPart}
use Rattle.law_flow.proofs.Seeing.{some_held}
use Rattle.law_flow.proofs.Sets.{line_kept, parents_kept}

-- OF WHAT STAYS

-- what is there, and keeps its parents, comes of the same
pub origin_kept : (list other : List Derivation) → KeepsParents list other → (from : ℕ) (d : Derivation) → IsIn list d → origin_of other from (Some d) ≡ origin_of list from (Some d)
origin_kept list other keeps from d there = ap (λ (l : List Derivation). option_map held_by (find (λ (a : Derivation). a.pd == from) l)) (line_kept list other keeps (suc d.id) d there)

pub origins_left : (f g : Delegations) → IsForest f → Change f g → (kind : Kind) (pd place from : ℕ) → find (covers kind pd place) g.list ≡ find (covers kind pd place) f.list →
    origin_of g.list from (find (covers kind pd place) g.list) ≡ origin_of f.list from (find (covers kind pd place) f.list)
origins_left f g forest change kind pd place from same = ap (origin_of g.list from) same ∙ by_found (find (covers kind pd place) f.list) refl
  where
    by_found : (o : Option Derivation) → find (covers kind pd place) f.list ≡ o → origin_of g.list from o ≡ origin_of f.list from o
    by_found None is = refl
    by_found (Some d) is = origin_kept f.list g.list (parents_kept f g forest change) from d (found_in (covers kind pd place) f.list d is).0

-- OF A CHILD THAT JOINS

child_keeps : (k : KernelState) (S : ℕ → Type 0) (child : Derivation) → IsForest k.delegations → IsPart k S child → KeepsParents k.delegations.list (k.delegations.list ++ child ∷ [])
child_keeps k S child forest part = more_keeps k.delegations.list child (subst (IsChildless k.delegations.list) (sym part.fits.id) (next_childless k.delegations forest))

child_line : (k : KernelState) (S : ℕ → Type 0) (child : Derivation) → IsForest k.delegations → (part : IsPart k S child) → line (k.delegations.list ++ child ∷ []) child ≡ child ∷ line k.delegations.list part.source
child_line k S child forest part =
    let q : Derivation = part.source in
    let list : List Derivation = k.delegations.list in
    let older : q.id < child.id = part.within.older in
    let up : parent_of (list ++ child ∷ []) child ≡ Some q =
    ap (option_and_then (with_id (list ++ child ∷ []))) part.parent
    ∙ find_more (λ (a : Derivation). a.id == q.id) list child (ne_eqb child.id q.id (λ e. omega (arith, older, e)))
    ∙ member_found list q forest.rising part.there in
    ap (λ (l : List Derivation). child ∷ l)
    (ap (line_by child.id (list ++ child ∷ [])) up ∙ line_kept list (list ++ child ∷ []) (child_keeps k S child forest part) child.id q part.there
    ∙ line_enough k.delegations forest child.id (suc q.id) q part.there older (omega arith))

abbrev pub either : Bool → Held → Option Held → Option Held
either true h o = Some h
either false h o = o

child_origin : (k : KernelState) (S : ℕ → Type 0) (child : Derivation) → IsForest k.delegations → (part : IsPart k S child) (from : ℕ) →
    origin_of (k.delegations.list ++ child ∷ []) from (Some child) ≡ either (child.pd == from) (held_by child) (origin_of k.delegations.list from (Some part.source))
child_origin k S child forest part from =
    ap (λ (l : List Derivation). option_map held_by (find (λ (a : Derivation). a.pd == from) l)) (child_line k S child forest part) ∙ by_test (child.pd == from)
  where
    by_test : (t : Bool) → option_map held_by (if t then Some child else find (λ (a : Derivation). a.pd == from) (line k.delegations.list part.source)) ≡
        either t (held_by child) (origin_of k.delegations.list from (Some part.source))
    by_test true = refl
    by_test false = refl

-- one that was found, or the child if it covers
abbrev pub or_else : Option Derivation → Bool → Derivation → Option Derivation
or_else (Some d) t x = Some d
or_else None true x = Some x
or_else None false x = None

abbrev pub origin_or : Bool → Bool → Option Held → Option Held → Option Held
origin_or true t old new = old
origin_or false true old new = new
origin_or false false old new = None

pub origin_joined : (list : List Derivation) (x : Derivation) → KeepsParents list (list ++ x ∷ []) → (from : ℕ) (t : Bool) (o : Option Derivation) → ((d : Derivation) → o ≡ Some d → IsIn list d) →
    origin_of (list ++ x ∷ []) from (or_else o t x) ≡ origin_or (is_some o) t (origin_of list from o) (origin_of (list ++ x ∷ []) from (Some x))
origin_joined list x keeps from t (Some d) there = origin_kept list (list ++ x ∷ []) keeps from d (there d refl)
origin_joined list x keeps from true None there = refl
origin_joined list x keeps from false None there = refl

-- alike in two states
pub origins_joined : (k l : KernelState) (S : ℕ → Type 0) (child twin : Derivation) → IsForest k.delegations → IsForest l.delegations → (part : IsPart k S child) (also : IsPart l S twin) (kind : Kind) (pd place from : ℕ) →
    ◌≡◌ {A = Option Held} (option_map held_by (find (covers kind pd place) l.delegations.list)) (option_map held_by (find (covers kind pd place) k.delegations.list)) →
    origin_of l.delegations.list from (find (covers kind pd place) l.delegations.list) ≡ origin_of k.delegations.list from (find (covers kind pd place) k.delegations.list) →
    covers kind pd place twin ≡ covers kind pd place child → twin.pd ≡ child.pd → held_by twin ≡ held_by child →
    origin_of l.delegations.list from (Some also.source) ≡ origin_of k.delegations.list from (Some part.source) →
    origin_of (l.delegations.list ++ twin ∷ []) from (or_else (find (covers kind pd place) l.delegations.list) (covers kind pd place twin) twin) ≡
    origin_of (k.delegations.list ++ child ∷ []) from (or_else (find (covers kind pd place) k.delegations.list) (covers kind pd place child) child)
origins_joined k l S child twin first second part also kind pd place from held origins covering domain same sources =
    origin_joined l.delegations.list twin (child_keeps l S twin second also) from (covers kind pd place twin) (find (covers kind pd place) l.delegations.list) (λ d is. (found_in (covers kind pd place) l.delegations.list d is).0)
    ∙ ap (λ (t : Bool). origin_or t (covers kind pd place twin) (origin_of l.delegations.list from (find (covers kind pd place) l.delegations.list)) (origin_of (l.delegations.list ++ twin ∷ []) from (Some twin)))
    (some_held (find (covers kind pd place) l.delegations.list) (find (covers kind pd place) k.delegations.list) held)
    ∙ ap₂ (λ (t : Bool) (o : Option Held). origin_or (is_some (find (covers kind pd place) k.delegations.list)) t o (origin_of (l.delegations.list ++ twin ∷ []) from (Some twin))) covering origins
    ∙ ap (origin_or (is_some (find (covers kind pd place) k.delegations.list)) (covers kind pd place child) (origin_of k.delegations.list from (find (covers kind pd place) k.delegations.list)))
    (child_origin l S twin second also from
    ∙ ap₂ (λ (n : ℕ) (h : Held). either (n == from) h (origin_of l.delegations.list from (Some also.source))) domain same
    ∙ ap (either (child.pd == from) (held_by child)) sources ∙ sym (child_origin k S child first part from))
    ∙ sym (origin_joined k.delegations.list child (child_keeps k S child first part) from (covers kind pd place child) (find (covers kind pd place) k.delegations.list) (λ d is. (found_in (covers kind pd place) k.delegations.list d is).0))
