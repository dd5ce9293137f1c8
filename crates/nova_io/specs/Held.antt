-- The files of a depot in memory, by name. Of files with one name the first counts.
use Rattle.std.specs.Prelude.{List, map, string_bytes}
use Rattle.std.specs.FinMap.{from_entries}
use Rattle.nova_io.specs.Files.{Files}
use Rattle.nova_io.specs.Memory.{Rooms}
use Rattle.nova_io.specs.declared.held.Held.{Held}
use Rattle.nova_io.specs.declared.held.MemFile.{MemFile}

-- the bytes of files that are handed in
abbrev pub files_given : List MemFile → Files
files_given files = from_entries (map (λ f. (string_bytes f.name, f.bytes.items)) files)

-- the room of files that are handed in
abbrev pub rooms_given : List MemFile → Rooms
rooms_given files = from_entries (map (λ f. (string_bytes f.name, f.room)) files)

-- the bytes of files that are held
abbrev pub files_held : List Held → Files
files_held files = from_entries (map (λ f. (string_bytes f.name, f.store.bytes)) files)

-- the room that is left to files that are held
abbrev pub rooms_held : List Held → Rooms
rooms_held files = from_entries (map (λ f. (string_bytes f.name, f.store.room)) files)
