-- Copies keep their size.
use Rattle.std.proofs.Common.{◌≡◌, ℕ, ◌+◌, length}
use Rattle.std.specs.Prelude.{Bool, true, false, ◌==◌, if◌then◌else◌}
use Rattle.byteorder.specs.Endian.{little_bytes}
use Rattle.nova_guest.specs.Conditions.{IsStore}
use Rattle.nova_guest.specs.Frames.{replaced}
use Rattle.nova_guest.proofs.Kept.{store_whole}
use Rattle.law_leases.specs.Leases.{cell_of, stored_in_page}
use Rattle.law_leases.specs.declared.steps.Page.{Page}

pub page_whole : (frame offset width value : ℕ) (p : Page) → IsStore offset width → length p.bytes ≡ 4096 → length (stored_in_page frame offset width value p).bytes ≡ 4096
page_whole frame offset width value p place whole = by_test (p.frame == frame) (store_whole frame offset width value (cell_of p) place whole)
  where
    by_test : (t : Bool) → length (if t then record (cell_of p) { contents = replaced p.bytes offset (little_bytes width value) } else cell_of p).contents ≡ 4096 →
        length (if t then record p { bytes = replaced p.bytes offset (little_bytes width value); stores = p.stores + 1 } else p).bytes ≡ 4096
    by_test true h = h
    by_test false h = h
