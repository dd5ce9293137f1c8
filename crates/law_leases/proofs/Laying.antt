-- RAM after stores to frames that maps cover: the cells laid over what it was.
use Rattle.std.proofs.Common.{◌≡◌, ℕ, suc, ◌+◌, ◌%◌, List, [], ◌∷◌, length, ap, ap₂, sym, ◌∙◌, subst, refl, arith}
use Rattle.std.specs.Prelude.{Bool, true, false, slice_get, Option, Some, None, if◌then◌else◌}
use Rattle.std.proofs.lemmas.Bool.{true≢false}
use Rattle.std.proofs.lemmas.List.{length-set}
use Rattle.std.proofs.lemmas.Option.{same_Some}
use Rattle.byteorder.specs.Endian.{little_bytes}
use Rattle.rv_model.specs.Step.{Store}
use Rattle.nova_guest.specs.Cells.{cell_at}
use Rattle.nova_guest.specs.Frames.{frame_from, replaced}
use Rattle.nova_guest.specs.Maps.{is_covered, page_in}
use Rattle.nova_guest.specs.declared.cell.Cell.{Cell}
use Rattle.nova_guest.specs.declared.map.Map.{Map}
use Rattle.nova_range.specs.Rights.{write_right}
use Rattle.nova_model.specs.AddressSpaces.{stored_at}
use Rattle.nova_model.specs.Memory.{Memory, written_in}
use Rattle.nova_model.specs.State.{KernelState, pd_of}
use Rattle.nova_model.specs.Views.{cells_of}
use Rattle.law_isolation.proofs.Premises.{HasPremises}
use Rattle.law_isolation.proofs.Seen.{get_set_other, maps_at}
use Rattle.law_isolation.proofs.Spaces.{cell_of, frame_covered, frame_same}
use Rattle.law_leases.specs.Advances.{laid_over, over}
use Rattle.law_leases.proofs.Stepping.{ram_after}

-- only frames that maps cover have changed
pub record IsRamOf (maps : List Map) (old new : List (List ℕ)) : Type 0 where
  pub long : length new ≡ length old
  pub others : (f : ℕ) → is_covered maps f ≡ false → slice_get new f ≡ slice_get old f

pub ram_itself : (maps : List Map) (ram : List (List ℕ)) → IsRamOf maps ram ram
ram_itself maps ram = record { long = refl; others = λ f h. refl }

pub ram_through : (maps : List Map) (a b c : List (List ℕ)) → IsRamOf maps a b → IsRamOf maps b c → IsRamOf maps a c
ram_through maps a b c p q = record { long = q.long ∙ p.long; others = λ f h. q.others f h ∙ p.others f h }

-- a store of a guest that has these maps
put_ram : (maps : List Map) (m : Memory) (f o w v : ℕ) (b : Option (List ℕ)) → is_covered maps f ≡ true → IsRamOf maps m.ram (written_in m b f o w v).ram
put_ram maps m f o w v None covered = ram_itself maps m.ram
put_ram maps m f o w v (Some b) covered = record {
  long = length-set m.ram f (replaced b o (little_bytes w v));
  others = λ g not_. get_set_other m.ram f g (replaced b o (little_bytes w v)) (λ e. true≢false (sym covered ∙ (ap (is_covered maps) e ∙ not_)));
}

stored_ram : (maps : List Map) (m : Memory) (s : Store) (o : Option ℕ) → ((f : ℕ) → o ≡ Some f → is_covered maps f ≡ true) → IsRamOf maps m.ram (stored_at m s o).ram
stored_ram maps m s None covered = ram_itself maps m.ram
stored_ram maps m s (Some f) covered = put_ram maps m f (s.address % 4096) s.width s.value (slice_get m.ram f) (covered f refl)

pub plain_ram : (k : KernelState) (g : ℕ) (store : Option Store) → HasPremises k → IsRamOf (maps_at k g) k.memory.ram (ram_after k g store)
plain_ram k g None sound = ram_itself (maps_at k g) k.memory.ram
plain_ram k g (Some s) sound =
    subst (λ (o : Option ℕ). IsRamOf (maps_at k g) k.memory.ram (stored_at k.memory s o).ram) (sym (frame_same k.delegations.list (pd_of k g) write_right s.address sound.forest.apart))
    (stored_ram (maps_at k g) k.memory s (frame_from (page_in (maps_at k g)) write_right s.address) (λ f h. frame_covered write_right s.address f (maps_at k g) h))

-- such RAM is the old one with its cells laid over it
laid_from : (maps : List Map) (cells : List Cell) (n : ℕ) (old new : List (List ℕ)) → length new ≡ length old →
    ((i : ℕ) → cell_at cells (n + i) ≡ (if is_covered maps (n + i) then slice_get new i else None)) →
    ((i : ℕ) → is_covered maps (n + i) ≡ false → slice_get new i ≡ slice_get old i) → new ≡ laid_over n cells old
laid_from maps cells n [] [] h held same = refl
laid_from maps cells n [] (b ∷ new) h held same = absurd (grind arith)
laid_from maps cells n (b ∷ old) [] h held same = absurd (grind arith)
laid_from maps cells n (b ∷ old) (c ∷ new) h held same = ap₂ (λ (d : List ℕ) (ds : List (List ℕ)). d ∷ ds) head
    (laid_from maps cells (n + 1) old new (grind arith)
    (λ i. let e : n + suc i ≡ (n + 1) + i = omega arith in subst (λ (f : ℕ). cell_at cells f ≡ (if is_covered maps f then slice_get new i else None)) e (held (suc i)))
    (λ i not_. let e : n + suc i ≡ (n + 1) + i = omega arith in same (suc i) (subst (λ (f : ℕ). is_covered maps f ≡ false) (sym e) not_)))
  where
    zero_ : n + 0 ≡ n
    zero_ = omega arith

    here : cell_at cells n ≡ (if is_covered maps n then Some c else None)
    here = subst (λ (f : ℕ). cell_at cells f ≡ (if is_covered maps f then Some c else None)) zero_ (held 0)

    by_test : (t : Bool) → is_covered maps n ≡ t → cell_at cells n ≡ (if t then Some c else None) → c ≡ over (cell_at cells n) b
    by_test true is g = rw g refl
    by_test false is g = rw g (same_Some c b (same 0 (subst (λ (f : ℕ). is_covered maps f ≡ false) (sym zero_) is)))

    head : c ≡ over (cell_at cells n) b
    head = by_test (is_covered maps n) refl here

pub ram_is_laid : (maps : List Map) (old new : List (List ℕ)) → IsRamOf maps old new → new ≡ laid_over 0 (cells_of maps new) old
ram_is_laid maps old new is = laid_from maps (cells_of maps new) 0 old new is.long
    (λ i. let e : 0 + i ≡ i = omega arith in cell_of maps new (0 + i) ∙ ap (λ (f : ℕ). if is_covered maps (0 + i) then slice_get new f else None) e)
    (λ i not_. let e : 0 + i ≡ i = omega arith in is.others i (subst (λ (f : ℕ). is_covered maps f ≡ false) e not_))
