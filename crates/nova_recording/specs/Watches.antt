-- Which accesses are to bytes that are watched.
use Rattle.std.specs.Prelude.{ℕ, ◌+◌, ◌%◌, ◌==◌, ◌&&◌, Bool, false, nat_le, nat_lt, if◌then◌else◌, List, Option, Some, None, is_some}
use Rattle.std.specs.List.{list_any}
use Rattle.nova_recording.specs.declared.preview.Access.{Access}
use Rattle.nova_recording.specs.declared.wants.Watch.{Watch}

-- bytes of a frame from an offset on share one with those that are watched
abbrev pub overlaps : ℕ → ℕ → Watch → Bool
overlaps offset width watch = nat_le offset watch.last && nat_lt watch.first (offset + width)

abbrev pub is_on : Access → Watch → Option ℕ → Bool
is_on a watch (Some frame) = (frame == watch.frame) && overlaps (a.address % 4096) a.width watch
is_on a watch None = false

-- a load or a store as is looked for, to such bytes
abbrev pub is_seen : Access → Watch → Bool
is_seen a watch = (if is_some a.stored then watch.stores else watch.loads) && is_on a watch a.frame

abbrev pub is_seen_in : Option Access → Watch → Bool
is_seen_in (Some a) watch = is_seen a watch
is_seen_in None watch = false

abbrev pub is_seen_by : List Watch → Option Access → Bool
is_seen_by watches (Some a) = list_any (is_seen a) watches
is_seen_by watches None = false
