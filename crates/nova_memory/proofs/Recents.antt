-- What is remembered of pages that were looked up is what a search finds.
use Rattle.std.proofs.Common.{inl, inr, ◌≡◌, ◌⊎◌, ℕ, zero, suc, ◌+◌, ◌-◌, ◌<◌, ◌≤◌, List, [], ◌∷◌, replicate, refl, ap, sym, ◌∙◌, subst, arith}
use Rattle.std.proofs.lemmas.Option.{same_Some}
use Rattle.std.specs.Prelude.{◌≢◌, Bool, true, false, ◌==◌, ◌&&◌, ◌/◌, ◌^◌, if◌then◌else◌, is_some, length, Option, Some, None, IfSome, option_and_then, option_map, slice_get, slice_set}
use Rattle.std.specs.List.{find}
use Rattle.nova_guest.specs.Frames.{frame_with}
use Rattle.nova_range.specs.Rights.{allows, execute_right, read_right, write_right}
use Rattle.nova_range.specs.declared.range.Kind.TheVariants.{Mem, Obj}
use Rattle.nova_model.specs.AddressSpaces.{frame_for, own_page}
use Rattle.nova_model.specs.Delegations.{covers, page_in, reach}
use Rattle.nova_model.specs.declared.delegation.Derivation.{Derivation}
use Rattle.nova_memory.specs.Reach.{IsFound, LeadToFrames, ReachState, own_of, reached}
use Rattle.nova_memory.specs.Recents.{AreRecent, AreRecentPages, IsRecent, LeadsOn}
use Rattle.nova_memory.specs.declared.recent.Pages.{Pages}
use Rattle.nova_memory.specs.declared.recent.Recent.{Recent}
use Rattle.nova_memory.specs.declared.recent.Recents.{Recents}
use Rattle.nova_memory.proofs.Placed.{AreFoundStill, found_still, page_found}

-- a page that isn't a thread's own
passes : (own : Option (List ℕ)) (page : ℕ) → page ≢ own_page → (is_some own && (page == own_page)) ≡ false
passes None page other = refl
passes (Some words) page other = grind (arith, other)

there_by : (frames right page frame : ℕ) (o : Option Derivation) → IfSome o (λ d. (d.base ≤ page) × (d.target + (page - d.base) < frames)) →
    option_and_then (frame_with right) (option_map (page_in page) o) ≡ Some frame → frame < frames
there_by frames right page frame None leads is = absurd (cc)
there_by frames right page frame (Some d) leads is = by_right (allows d.rights right) is
  where
    by_right : (t : Bool) → (if t then Some (d.target + (page - d.base)) else None) ≡ Some frame → frame < frames
    by_right true is = let same : d.target + (page - d.base) ≡ frame = cc in let less = leads.1 in omega (arith, same, less)
    by_right false is = absurd (cc)

-- the page that was the last
module _ (s : ReachState) (right address : ℕ) (r : Recent) (low : address < 2 ^ 32) (page : r.page ≡ address / 4096) (is : IsRecent s.nodes.delegations.list s.pd right r) where
  pub hit : frame_for (reached s) right address ≡ Some r.frame
  hit =
      let on = is (omega (arith, low, page)) in
      let other : address / 4096 ≢ own_page = λ same. on.own (page ∙ same) in
      ap (λ (t : Bool). option_and_then (frame_with right) (if t then None else reach s.nodes.delegations.list s.pd (address / 4096))) (passes (own_of s) (address / 4096) other)
      ∙ (ap (λ (p : ℕ). option_and_then (frame_with right) (reach s.nodes.delegations.list s.pd p)) (sym page) ∙ on.frame)

  pub hit_there : LeadToFrames (length s.memory.ram + s.consoles) s.nodes.delegations.list → r.frame < length s.memory.ram + s.consoles
  hit_there leads =
      let on = is (omega (arith, low, page)) in
      there_by (length s.memory.ram + s.consoles) right r.page r.frame (find (covers Mem s.pd r.page) s.nodes.delegations.list)
      (page_found (length s.memory.ram + s.consoles) s.pd r.page s.nodes.delegations.list (find (covers Mem s.pd r.page) s.nodes.delegations.list) refl leads) on.frame

-- what a search found may be remembered
pub learned : (s : ReachState) (right address frame : ℕ) → frame_for (reached s) right address ≡ Some frame → address / 4096 ≢ own_page →
    IsRecent s.nodes.delegations.list s.pd right (record { page = address / 4096; frame = frame })
learned s right address frame is other = λ low. record {
  own = other;
  frame = sym (ap (λ (t : Bool). option_and_then (frame_with right) (if t then None else reach s.nodes.delegations.list s.pd (address / 4096))) (passes (own_of s) (address / 4096) other)) ∙ is;
}

-- and a capability that was found may be at hand
pub at_hand : (list : List Derivation) (r : Recents) (capability : Option Derivation) → AreRecent list r → IfSome capability (IsFound Obj list) →
    AreRecent list (record r { capability = capability })
at_hand list r capability are found = record { fetched = are.fetched; loaded = are.loaded; stored = are.stored; capability = found }

-- PAGES BY PLACE

each_is : (n : ℕ) (v : Recent) (i : ℕ) (x : Recent) → slice_get (replicate n v) i ≡ Some x → v ≡ x
each_is zero v i x at = absurd (cc)
each_is (suc n) v zero x at = same_Some v x at
each_is (suc n) v (suc i) x at = each_is n v i x at

set_or : (xs : List Recent) (n : ℕ) (v : Recent) (i : ℕ) (x : Recent) → slice_get (slice_set xs n v) i ≡ Some x → (v ≡ x) ⊎ (slice_get xs i ≡ Some x)
set_or [] n v i x h = absurd (cc)
set_or (y ∷ xs) zero v zero x h = inl (same_Some v x h)
set_or (y ∷ xs) zero v (suc i) x h = inr h
set_or (y ∷ xs) (suc n) v zero x h = inr h
set_or (y ∷ xs) (suc n) v (suc i) x h = set_or xs n v i x h

pub none_recent : (list : List Derivation) (pd right n : ℕ) (v : Recent) → v.page ≡ 1048576 → AreRecentPages list pd right (record { places = replicate n v })
none_recent list pd right n v beyond i x at low = absurd (let e = ap (λ (y : Recent). y.page) (each_is n v i x at) in omega (arith, e, beyond, low))

pub one_recent : (list : List Derivation) (pd right n : ℕ) (old : Pages) (v : Recent) → AreRecentPages list pd right old → IsRecent list pd right v →
    AreRecentPages list pd right (record old { places = slice_set old.places n v })
one_recent list pd right n old v are is i x at = elim (set_or old.places n v i x at) [
  | inl new ↦ subst (IsRecent list pd right) new is
  | inr was ↦ are i x was
]

-- WHAT IS FOUND STILL

pub leads_still : (old new : List Derivation) (pd right : ℕ) (r : Recent) → AreFoundStill old new → LeadsOn old pd right r → LeadsOn new pd right r
leads_still old new pd right r still on = record { own = on.own; frame = by_found (find (covers Mem pd r.page) old) refl on.frame }
  where
    by_found : (o : Option Derivation) → find (covers Mem pd r.page) old ≡ o → option_and_then (frame_with right) (option_map (page_in r.page) o) ≡ Some r.frame →
        option_and_then (frame_with right) (reach new pd r.page) ≡ Some r.frame
    by_found None is h = absurd (cc)
    by_found (Some d) is h = ap (λ (o : Option Derivation). option_and_then (frame_with right) (option_map (page_in r.page) o)) (still Mem pd r.page d is) ∙ h

pub recents_still : (old new : List Derivation) (r : Recents) → AreFoundStill old new → AreRecent old r → AreRecent new r
recents_still old new r still are = record {
  fetched = λ low. leads_still old new r.pd execute_right r.fetched still (are.fetched low);
  loaded = λ i x at low. leads_still old new r.pd read_right x still (are.loaded i x at low);
  stored = λ i x at low. leads_still old new r.pd write_right x still (are.stored i x at low);
  capability = found_still Obj old new r.capability still are.capability;
}
