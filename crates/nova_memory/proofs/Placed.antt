-- Pages lead to frames: those of a derivation that is found, and those of a derivation that joins. What was found is found again.
use Rattle.std.proofs.Common.{◌≡◌, ℕ, ◌+◌, ◌-◌, ◌<◌, ◌≤◌, List, [], ◌∷◌, ◌++◌, refl, ap, ap₂, sym, ◌∙◌, subst, arith}
use Rattle.std.specs.Prelude.{Bool, true, false, ◌==◌, not, if◌then◌else◌, Option, Some, None, IfSome, IsSome}
use Rattle.std.specs.List.{AllByRecursion, find}
use Rattle.nova_range.specs.declared.range.Kind.{Kind}
use Rattle.nova_range.specs.declared.range.Kind.TheVariants.{Mem}
use Rattle.nova_range.specs.declared.range.Range.{Range}
use Rattle.nova_delegate.specs.Parts.{IsReady}
use Rattle.nova_model.specs.Delegations.{Delegations, added, covers, derived, has_place, is_memory, range_of, without}
use Rattle.nova_model.specs.Forest.{HasParentIn, IsForest}
use Rattle.law_forest.proofs.Members.{IsIn, all_at, all_from, all_more, filtered_in, found_in, in_from_contains}
use Rattle.nova_nodes.specs.NodesStates.{IsPlaced, IsSound}
use Rattle.nova_nodes.proofs.Found.{find_only}
use Rattle.nova_nodes.proofs.Indexed.{in_space, meeting}
use Rattle.nova_model.specs.declared.delegation.Derivation.{Derivation}
use Rattle.nova_memory.specs.Reach.{IsFound, LeadsToFrames, LeadToFrames}

-- what is found is one of all, and passes the test
pub found_holds : (P : Derivation → Type 0) (p : Derivation → Bool) (ds : List Derivation) → AllByRecursion P ds → IfSome (find p ds) (λ d. (p d ≡ true) × P d)
found_holds P p [] all = tt
found_holds P p (d ∷ ds) all = by_test (p d) refl (found_holds P p ds all.1)
  where
    by_test : (t : Bool) → p d ≡ t → IfSome (find p ds) (λ e. (p e ≡ true) × P e) → IfSome (if t then Some d else find p ds) (λ e. (p e ≡ true) × P e)
    by_test true is rest = (is, all.0)
    by_test false is rest = rest

-- a page that a derivation covers leads to a frame
page_leads : (frames pd page : ℕ) (d : Derivation) → covers Mem pd page d ≡ true → LeadsToFrames frames d →
    (d.base ≤ page) × (d.target + (page - d.base) < frames)
page_leads frames pd page d h leads = let t = leads in (grind arith, grind arith)

pub page_found : (frames pd page : ℕ) (list : List Derivation) (o : Option Derivation) → o ≡ find (covers Mem pd page) list → LeadToFrames frames list →
    IfSome o (λ d. (d.base ≤ page) × (d.target + (page - d.base) < frames))
page_found frames pd page list o is lead = rw is (by_found (find (covers Mem pd page) list) (found_holds (LeadsToFrames frames) (covers Mem pd page) list lead.each))
  where
    by_found : (f : Option Derivation) → IfSome f (λ d. (covers Mem pd page d ≡ true) × LeadsToFrames frames d) →
        IfSome f (λ d. (d.base ≤ page) × (d.target + (page - d.base) < frames))
    by_found None h = tt
    by_found (Some d) h = page_leads frames pd page d h.0 h.1

-- a child leads to frames of its parent's
child_leads : (frames : ℕ) (f : Delegations) (x : Derivation) → IsReady f x → LeadToFrames frames f.list → LeadsToFrames frames x
child_leads frames f x ready lead = by_parent x.parent ready.parent ready.fits.parent
  where
    by_parent : (o : Option ℕ) → IsSome o → HasParentIn f.list x o → LeadsToFrames frames x
    by_parent None there has = let no : IsSome {T = ℕ} None = there in absurd (cc)
    by_parent (Some id) there has = λ memory.
        let leads = all_at (LeadsToFrames frames) f.list has.0 lead.each (in_from_contains f.list has.0 has.1) (ap is_memory (sym has.3.kind) ∙ memory) in
        let last = has.3.last in omega (arith, leads, last)

pub joined_leads : (frames : ℕ) (f new : Delegations) (x : Derivation) → IsReady f x → new ≡ added f x → LeadToFrames frames f.list → LeadToFrames frames new.list
joined_leads frames f new x ready is lead =
    subst (λ (g : Delegations). LeadToFrames frames g.list) (sym is)
    (record { few = lead.few; each = all_more (LeadsToFrames frames) f.list x lead.each (child_leads frames f x ready lead) })

-- a child is the derivation that is made of its parts
pub as_derived : (f : Delegations) (x : Derivation) (parent : ℕ) (range : Range) → x.id ≡ f.next → x.parent ≡ Some parent → range ≡ range_of x →
    derived f.next (Some parent) x.pd range x.rights x.target ≡ x
as_derived f x parent range id is places =
    ap (λ (r : Range). derived f.next (Some parent) x.pd r x.rights x.target) places
    ∙ ap₂ (λ (n : ℕ) (o : Option ℕ). derived n o x.pd (range_of x) x.rights x.target) (sym id) (sym is)

-- in a sound forest a derivation is found at each place that it covers
one_alone : (kind : Kind) (f : Delegations) (d e : Derivation) (pd place : ℕ) → IsForest f → IsIn f.list e → IsIn f.list d → covers kind pd place e ≡ true →
    covers kind pd place d ≡ true → e ≡ d
one_alone kind f d e pd place forest i j k h =
    let other = in_space pd kind (has_place (range_of e) place) e k in
    let it = in_space pd kind (has_place (range_of d) place) d h in
    meeting f e d place forest i j (other.domain ∙ sym it.domain) (other.space ∙ sym it.space) other.passes it.passes

found_always : (kind : Kind) (f : Delegations) (pd place : ℕ) (d : Derivation) → IsSound f → find (covers kind pd place) f.list ≡ Some d → IsPlaced d → IsFound kind f.list d
found_always kind f pd place d sound found placed = record {
  order = placed.range.order;
  placed = placed;
  always = λ other at covered.
      let there = (found_in (covers kind pd place) f.list d found).0 in
      find_only (covers kind other at) f.list d there covered (λ e i k. one_alone kind f d e other at sound.forest i there k covered);
}

-- what was found last is looked at first
pub last_found : (list : List Derivation) (last : Option Derivation) (d : Derivation) (pd page : ℕ) → last ≡ Some d → IfSome last (IsFound Mem list) →
    covers Mem pd page d ≡ true → find (covers Mem pd page) list ≡ Some d
last_found list last d pd page is found covered = (subst (λ (o : Option Derivation). IfSome o (IsFound Mem list)) is found).always pd page covered

pub at_found : (kind : Kind) (f : Delegations) (pd place : ℕ) (o : Option Derivation) → IsSound f → o ≡ find (covers kind pd place) f.list → IfSome o IsPlaced →
    IfSome o (IsFound kind f.list)
at_found kind f pd place None sound is placed = tt
at_found kind f pd place (Some d) sound is placed = found_always kind f pd place d sound (sym is) placed

-- and also after another joined
find_more : {T : Type 0} (p : T → Bool) (xs : List T) (y x : T) → find p xs ≡ Some x → find p (xs ++ y ∷ []) ≡ Some x
find_more p [] y x h = absurd (cc)
find_more p (z ∷ zs) y x h = by_test (p z) h (λ g. find_more p zs y x g)
  where
    by_test : (t : Bool) → (if t then Some z else find p zs) ≡ Some x → (find p zs ≡ Some x → find p (zs ++ y ∷ []) ≡ Some x) →
        (if t then Some z else find p (zs ++ y ∷ [])) ≡ Some x
    by_test true g rest = g
    by_test false g rest = rest g

-- what is found at a place is found there still
abbrev pub AreFoundStill : List Derivation → List Derivation → Type 0
AreFoundStill old new = (kind : Kind) (pd place : ℕ) (d : Derivation) → find (covers kind pd place) old ≡ Some d → find (covers kind pd place) new ≡ Some d

pub more_still : (list : List Derivation) (x : Derivation) → AreFoundStill list (list ++ x ∷ [])
more_still list x kind pd place d is = find_more (covers kind pd place) list x d is

pub found_still : (kind : Kind) (old new : List Derivation) (o : Option Derivation) → AreFoundStill old new → IfSome o (IsFound kind old) → IfSome o (IsFound kind new)
found_still kind old new None still found = tt
found_still kind old new (Some d) still found = record {
  order = found.order;
  placed = found.placed;
  always = λ pd place covered. still kind pd place d (found.always pd place covered);
}

-- a page that is found leads to a frame
pub page_leads_by : (frames pd page : ℕ) (list : List Derivation) (d : Derivation) → find (covers Mem pd page) list ≡ Some d → LeadToFrames frames list →
    (d.base ≤ page) × (d.target + (page - d.base) < frames)
page_leads_by frames pd page list d found lead = page_found frames pd page list (Some d) (sym found) lead

-- and after a leaf went
pub without_leads : (frames : ℕ) (f new : Delegations) (id : ℕ) → new ≡ without f id → LeadToFrames frames f.list → LeadToFrames frames new.list
without_leads frames f new id is lead =
    subst (λ (g : Delegations). LeadToFrames frames g.list) (sym is) (record {
      few = lead.few;
      each = all_from (LeadsToFrames frames) (without f id).list
          (λ x i. all_at (LeadsToFrames frames) f.list x lead.each (filtered_in (λ (b : Derivation). not (b.id == id)) f.list x i).0);
    })
