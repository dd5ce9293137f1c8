-- Steps on copies, one after another.
use Rattle.std.proofs.Common.{◌≡◌, ℕ, zero, suc, ◌+◌, ◌%◌, List, [], ◌∷◌, length, ap, ap₂, sym, ◌∙◌, subst, refl, arith}
use Rattle.std.specs.Prelude.{Bool, true, false, ◌==◌, filter, replicate, Option, Some, None, IsSome, is_some, option_map, option_and_then, if◌then◌else◌}
use Rattle.std.specs.List.{AllByRecursion}
use Rattle.std.proofs.lemmas.Option.{same_Some}
use Rattle.byteorder.specs.Endian.{little_bytes}
use Rattle.rv_model.specs.Registers.{Registers}
use Rattle.rv_model.specs.Step.{Store, Once, Raised, Went, one}
use Rattle.nova_range.specs.Rights.{write_right}
use Rattle.law_forest.proofs.Members.{all_weaker}
use Rattle.nova_guest.specs.Alone.{Told, told, acted, ran, applied, stepped, stored_at, written, out_before, outputs, guest_space}
use Rattle.nova_guest.specs.Cells.{cell_at}
use Rattle.nova_guest.specs.Frames.{frame_from, replaced}
use Rattle.nova_guest.specs.Maps.{page_in}
use Rattle.nova_guest.specs.declared.cell.Cell.{Cell}
use Rattle.nova_guest.specs.declared.guest.Guest.{Guest}
use Rattle.nova_guest.specs.declared.guest.GuestState.TheVariants.{Ready}
use Rattle.nova_guest.specs.declared.input.Input.TheVariants.{Own}
use Rattle.nova_guest.specs.declared.page.Page.{Page as Place}
use Rattle.nova_model.specs.Choice.{in_front}
use Rattle.nova_model.specs.Inputs.{store_of}
use Rattle.law_leases.specs.Advances.{frame_stored_to, frames_stored, next_frame, own_after, with_cell}
use Rattle.law_leases.specs.Leases.{IsOfGuest, LeaseState, copied_space, copy_at, lease_by, lease_put, lease_step, lease_steps, lease_stored, lease_written, overlay, put_back, stored_in_page, stored_in_pages, tallied, tally}
use Rattle.law_leases.specs.declared.steps.Page.{Page}
use Rattle.law_leases.proofs.Refined.{Follows, one_follows}
use Rattle.law_leases.proofs.Leased.{cell_overlaid, copy_stored, frame_known, part_over, some_is, stored_overlaid}

-- STORES COUNTED

tally_again : (f o w v : ℕ) (gs : List ℕ) (p : Page) → tally gs (stored_in_page f o w v p) ≡ tally (f ∷ gs) p
tally_again f o w v gs p = by_test (p.frame == f)
  where
    by_test : (t : Bool) → tally gs (if t then record p { bytes = replaced p.bytes o (little_bytes w v); stores = p.stores + 1 } else p)
        ≡ (p.frame, p.stores + length (if t then f ∷ filter (λ x. p.frame == x) gs else filter (λ x. p.frame == x) gs))
    by_test true = ap (λ (n : ℕ). (p.frame, n)) (let m : ℕ = length (filter (λ x. p.frame == x) gs) in omega arith)
    by_test false = refl

tallied_again : (pages : List Page) (f o w v : ℕ) (gs : List ℕ) → tallied gs (stored_in_pages pages f o w v) ≡ tallied (f ∷ gs) pages
tallied_again [] f o w v gs = refl
tallied_again (p ∷ pages) f o w v gs = ap₂ (λ (x : ℕ × ℕ) (xs : List (ℕ × ℕ)). x ∷ xs) (tally_again f o w v gs p) (tallied_again pages f o w v gs)

-- copies stay copies
still_copied : (pages : List Page) (f o w v g : ℕ) → IsSome (copy_at (stored_in_pages pages f o w v) g) → IsSome (copy_at pages g)
still_copied pages f o w v g there = sym (by_test (g == f) (copy_at pages g)) ∙ (ap is_some (sym (copy_stored pages f o w v g)) ∙ there)
  where
    by_test : (t : Bool) (x : Option (List ℕ)) → is_some (if t then option_map (λ (d : List ℕ). replaced d o (little_bytes w v)) x else x) ≡ is_some x
    by_test true None = refl
    by_test true (Some d) = refl
    by_test false x = refl

-- ONE STEP

-- the guest goes on as the lease does, puts out nothing, and stores to this frame, which is copied, or to none
pub record IsStep (v : Guest) (l m : LeaseState) : Type 0 where
  pub frame : Option ℕ
  pub goes : applied (put_back v l) Own ≡ told (put_back v m) None
  pub next : next_frame (put_back v l) ≡ frame
  pub copied : (n : ℕ) → frame ≡ Some n → IsSome (copy_at l.pages n)
  pub still : (n : ℕ) → IsSome (copy_at m.pages n) → IsSome (copy_at l.pages n)
  pub counts : (gs : List ℕ) → tallied gs m.pages ≡ tallied (in_front frame gs) l.pages

-- what its instruction comes to
guest_goes : (v : Guest) (l : LeaseState) (o : Once) → v.state ≡ Ready → v.recall ≡ false → one l.regs (guest_space v.maps (overlay l.pages v.cells)) ≡ o →
    applied (put_back v l) Own ≡ stepped (put_back v l) o
unfolding applied
guest_goes v l o at_ready free is = ap (acted (put_back v l)) at_ready ∙ (ap (ran (put_back v l)) free ∙ ap (stepped (put_back v l)) is)

written_step : (known : ℕ → Option Place) (v : Guest) (l : LeaseState) (regs : Registers) (s : Store) (f : ℕ) (b : List ℕ) → IsOfGuest known l.pages v →
    copy_at l.pages f ≡ Some b → frame_from (page_in v.maps) write_right s.address ≡ Some f → applied (put_back v l) Own ≡ stepped (put_back v l) (Went regs (Some s)) →
    next_frame (put_back v l) ≡ frame_stored_to (put_back v l) s →
    IsStep v l (record { regs = regs; pages = stored_in_pages l.pages f (s.address % 4096) s.width s.value })
written_step known v l regs s f b are copy leads goes next =
    let cell : cell_at (overlay l.pages v.cells) f ≡ Some b = cell_overlaid known v l.pages f b are copy in
    let w : Guest = record (put_back v l) { regs = regs } in
    record {
      frame = Some f;
      goes = goes ∙ (ap (stored_at w s) leads ∙ (ap (written w f (s.address % 4096) s.width s.value) cell
          ∙ ap (λ (cells : List Cell). told (record v { regs = regs; cells = cells }) None) (stored_overlaid l.pages v.cells f (s.address % 4096) s.width s.value b copy)));
      next = next ∙ (ap (option_and_then (with_cell (overlay l.pages v.cells))) leads ∙ ap (λ (c : Option (List ℕ)). if is_some c then Some f else None) cell);
      copied = λ n same. subst (λ (m : ℕ). IsSome (copy_at l.pages m)) (same_Some f n same) (some_is (copy_at l.pages f) b copy);
      still = λ n there. still_copied l.pages f (s.address % 4096) s.width s.value n there;
      counts = λ gs. tallied_again l.pages f (s.address % 4096) s.width s.value gs;
    }

stored_step : (known : ℕ → Option Place) (v : Guest) (l m : LeaseState) (regs : Registers) (store : Option Store) → IsOfGuest known l.pages v →
    lease_stored known regs l.pages store ≡ Some m → applied (put_back v l) Own ≡ stepped (put_back v l) (Went regs store) →
    next_frame (put_back v l) ≡ option_and_then (frame_stored_to (put_back v l)) store → IsStep v l m
stored_step known v l m regs None are h goes next =
    subst (IsStep v l) (same_Some (record { regs = regs; pages = l.pages }) m h)
    (record { frame = None; goes = goes; next = next; copied = λ n same. absurd (cc); still = λ n there. there; counts = λ gs. refl })
stored_step known v l m regs (Some s) are h goes next = by_frame (frame_from known write_right s.address) refl h
  where
    by_copy : (f : ℕ) → frame_from known write_right s.address ≡ Some f → (c : Option (List ℕ)) → copy_at l.pages f ≡ c → lease_written regs l.pages s f c ≡ Some m → IsStep v l m
    by_copy f at None copy g = absurd (cc)
    by_copy f at (Some b) copy g =
        subst (IsStep v l) (same_Some (record { regs = regs; pages = stored_in_pages l.pages f (s.address % 4096) s.width s.value }) m g)
        (written_step known v l regs s f b are copy (frame_known known v l.pages write_right s.address f are at) goes next)

    by_frame : (o : Option ℕ) → frame_from known write_right s.address ≡ o → lease_put regs l.pages s o ≡ Some m → IsStep v l m
    by_frame None at g = absurd (cc)
    by_frame (Some f) at g = by_copy f at (copy_at l.pages f) refl g

pub step_leased : (known : ℕ → Option Place) (v : Guest) (l m : LeaseState) → v.state ≡ Ready → v.recall ≡ false → IsOfGuest known l.pages v → lease_step known l ≡ Some m → IsStep v l m
step_leased known v l m at_ready free are h =
    by_once (one l.regs (copied_space known l.pages)) (one_follows l.regs (copied_space known l.pages) (guest_space v.maps (overlay l.pages v.cells)) (part_over known v l.pages are)) h
  where
    by_once : (o : Once) → Follows o (one l.regs (guest_space v.maps (overlay l.pages v.cells))) → lease_by known l.pages o ≡ Some m → IsStep v l m
    by_once (Raised reason q0 q1) follows g = absurd (cc)
    by_once (Went regs store) follows g =
        stored_step known v l m regs store are g (guest_goes v l (Went regs store) at_ready free follows)
        (ap (λ (o : Once). option_and_then (frame_stored_to (put_back v l)) (store_of o)) follows)

-- SEVERAL STEPS

pub record AreSteps (n : ℕ) (v : Guest) (l m : LeaseState) : Type 0 where
  pub goes : own_after n (put_back v l) ≡ put_back v m
  pub quiet : outputs (put_back v l) (replicate n Own) ≡ []
  pub copied : AllByRecursion (λ (f : ℕ). IsSome (copy_at l.pages f)) (frames_stored n (put_back v l))
  pub counts : tallied [] m.pages ≡ tallied (frames_stored n (put_back v l)) l.pages

all_front : (P : ℕ → Type 0) (o : Option ℕ) (fs : List ℕ) → ((n : ℕ) → o ≡ Some n → P n) → AllByRecursion P fs → AllByRecursion P (in_front o fs)
all_front P None fs first rest = rest
all_front P (Some f) fs first rest = (first f refl, rest)

next_steps : (n : ℕ) (v : Guest) (l k m : LeaseState) → IsStep v l k → AreSteps n v k m → AreSteps (suc n) v l m
next_steps n v l k m step rest =
    let frames : frames_stored (suc n) (put_back v l) ≡ in_front step.frame (frames_stored n (put_back v k)) =
    ap₂ (λ (f : Option ℕ) (t : Told). in_front f (frames_stored n t.guest)) step.next step.goes in
    record {
      goes = ap (λ (t : Told). own_after n t.guest) step.goes ∙ rest.goes;
      quiet = ap (λ (t : Told). out_before t.out (outputs t.guest (replicate n Own))) step.goes ∙ rest.quiet;
      copied = subst (λ (fs : List ℕ). AllByRecursion (λ (f : ℕ). IsSome (copy_at l.pages f)) fs) (sym frames)
          (all_front (λ (f : ℕ). IsSome (copy_at l.pages f)) step.frame (frames_stored n (put_back v k)) step.copied
          (all_weaker (λ (f : ℕ). IsSome (copy_at k.pages f)) (λ (f : ℕ). IsSome (copy_at l.pages f)) (frames_stored n (put_back v k)) step.still rest.copied));
      counts = rest.counts ∙ (step.counts (frames_stored n (put_back v k)) ∙ ap (λ (fs : List ℕ). tallied fs l.pages) (sym frames));
    }

pub steps_leased : (known : ℕ → Option Place) (n : ℕ) (v : Guest) (l m : LeaseState) → v.state ≡ Ready → v.recall ≡ false → IsOfGuest known l.pages v →
    lease_steps known n l ≡ Some m → AreSteps n v l m
steps_leased known zero v l m at_ready free are h =
    subst (AreSteps 0 v l) (same_Some l m h) (record { goes = refl; quiet = refl; copied = tt; counts = refl })
steps_leased known (suc n) v l m at_ready free are h =
    by_step (lease_step known l) refl h (λ k are h. steps_leased known n v k m at_ready free are h)
  where
    by_step : (s : Option LeaseState) → lease_step known l ≡ s → option_and_then (lease_steps known n) s ≡ Some m →
        ((k : LeaseState) → IsOfGuest known k.pages v → lease_steps known n k ≡ Some m → AreSteps n v k m) → AreSteps (suc n) v l m
    by_step None is g rest = absurd (cc)
    by_step (Some k) is g rest =
        let step : IsStep v l k = step_leased known v l k at_ready free are is in
        next_steps n v l k m step (rest k (record { places = are.places; copies = λ f there. are.copies f (step.still f there) }) g)
