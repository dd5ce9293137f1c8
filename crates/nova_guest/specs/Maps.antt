-- Maps: what pages lead to.
use Rattle.std.specs.Prelude.{ℕ, ◌+◌, ◌-◌, ◌^◌, ◌==◌, ◌&&◌, Bool, nat_lt, nat_le, List, Option, option_map}
use Rattle.std.specs.List.{find, list_any}
use Rattle.nova_guest.specs.declared.map.Map.{Map}
use Rattle.nova_guest.specs.declared.page.Page.{Page}

abbrev pub base_of : Map → ℕ
base_of m = m.base

-- the map covers a page; it leads to a frame; it shares a page with those of a base and an order; it has just these
abbrev pub covers : ℕ → Map → Bool
covers page m = nat_le m.base page && nat_lt page (m.base + 2 ^ m.order)

abbrev pub leads_to : ℕ → Map → Bool
leads_to frame m = nat_le m.frame frame && nat_lt frame (m.frame + 2 ^ m.order)

abbrev pub overlaps : ℕ → ℕ → Map → Bool
overlaps base order m = nat_lt m.base (base + 2 ^ order) && nat_lt base (m.base + 2 ^ m.order)

abbrev pub is_map : ℕ → ℕ → Map → Bool
is_map base order m = (m.base == base) && (m.order == order)

-- some map leads to the frame
abbrev pub is_covered : List Map → ℕ → Bool
is_covered maps frame = list_any (leads_to frame) maps

-- what a page leads to
abbrev pub page_of : ℕ → Map → Page
page_of page m = record { frame = m.frame + (page - m.base); rights = m.rights }

abbrev pub page_in : List Map → ℕ → Option Page
page_in maps page = option_map (page_of page) (find (covers page) maps)
