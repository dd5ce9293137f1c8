-- What is told of the depot and of the sink that a call is handed, how a file comes, and how bytes go out.
use Rattle.std.specs.Prelude.{◌≡◌, ℕ, ◌+◌, ◌<◌, ◌≤◌, List, length, take, Option, Some, IfSome}
use Rattle.std.specs.FinMap.{get}
use Rattle.std.specs.Io.KnownBytes.{append_known}
use Rattle.nova_io.specs.Faults.{Rose}
use Rattle.nova_io.specs.Fetched.{Gave, FetchFailed, Came, CameWhole}
use Rattle.nova_io.specs.Files.{Files, bytes_of, with_appended}
use Rattle.nova_io.specs.Taken.{Took, TakeFailed, TookFor, TakeFailedFor, WentWhole, WentInPart}

-- of a depot: its files; what a fetch gave, that a fetch failed, and how many fetches of each name failed; and the same of appends
pub record Depots (D : Type 0) : Type 1 where
  pub files : D → Option Files
  pub gave : Gave D
  pub fetch_failed : FetchFailed D
  pub fetch_faults : D → List ℕ → ℕ
  pub took : TookFor D
  pub append_failed : TakeFailedFor D
  pub append_faults : D → List ℕ → ℕ

abbrev pub depots : {D : Type 0} → (D → Option Files) → Gave D → FetchFailed D → (D → List ℕ → ℕ) → TookFor D → TakeFailedFor D → (D → List ℕ → ℕ) → Depots D
depots files gave fetch_failed fetch_faults took append_failed append_faults = record {
  files = files;
  gave = gave;
  fetch_failed = fetch_failed;
  fetch_faults = fetch_faults;
  took = took;
  append_failed = append_failed;
  append_faults = append_faults;
}

-- of a sink: the bytes that it took; how much a write took, that a write failed, and how many failed
pub record Sinks (O : Type 0) : Type 1 where
  pub written : O → Option (List ℕ)
  pub took : Took O
  pub write_failed : TakeFailed O
  pub faults : O → ℕ

abbrev pub sinks : {O : Type 0} → (O → Option (List ℕ)) → Took O → TakeFailed O → (O → ℕ) → Sinks O
sinks written took write_failed faults = record { written = written; took = took; write_failed = write_failed; faults = faults }

-- fetches of a name failed: their count rose
abbrev pub HasFailed : {D : Type 0} → Depots D → List ℕ → D → D → Type 0
HasFailed d name old new = Rose (d.fetch_faults old name) (d.fetch_faults new name)

-- appends to a name failed: their count rose
abbrev pub HasFailedToAppend : {D : Type 0} → Depots D → List ℕ → D → D → Type 0
HasFailedToAppend d name old new = Rose (d.append_faults old name) (d.append_faults new name)

-- a file came: `bytes`, at most `most`, came whole by the fetches of its name, and where the depot tells its files they are those of the name
pub record FileCame {D : Type 0} (d : Depots D) (most : ℕ) (name : List ℕ) (old : D) (bytes : List ℕ) (new : D) : Type 0 where
  pub whole : CameWhole d.gave name old bytes new
  pub fits : length bytes ≤ most
  pub held : IfSome (d.files old) (λ files. get files name ≡ Some bytes)
  pub same : d.files new ≡ d.files old

-- of a file more than `most` bytes came, and where the depot tells its files the name has more
pub record TooManyCame {D : Type 0} (d : Depots D) (most : ℕ) (name : List ℕ) (old new : D) : Type 0 where
  pub bytes : List ℕ
  pub came : Came d.gave name old bytes new
  pub number : length bytes ≡ most + 1
  pub held : IfSome (d.files old) (λ files. most < length (bytes_of files name))

-- bytes went whole to a name by the appends to it, and where the depot tells its files they stand there after those that it had
pub record WereAppended {D : Type 0} (d : Depots D) (name bytes : List ℕ) (old new : D) : Type 0 where
  pub whole : WentWhole (λ depot. d.took depot name) bytes old new
  pub held : d.files new ≡ with_appended (d.files old) name bytes

-- an append of bytes failed before they had gone whole: a part of them went, from the first on
pub record WereCut {D : Type 0} (d : Depots D) (name bytes : List ℕ) (old new : D) : Type 0 where
  pub part : WentInPart (λ depot. d.took depot name) (λ depot. d.append_failed depot name) bytes old new
  pub count : ℕ
  pub within : count < length bytes
  pub held : d.files new ≡ with_appended (d.files old) name (take count bytes)

-- a text is out whole, after what was written before; its writes are all that was done to the sink
pub record IsOut {O : Type 0} (o : Sinks O) (text : List ℕ) (before after : O) : Type 0 where
  pub went : WentWhole o.took text before after
  pub written : o.written after ≡ append_known (o.written before) text

-- or a write failed, which was the last, and a part of the text is written, from its first byte on
pub record IsPartOut {O : Type 0} (o : Sinks O) (text : List ℕ) (before after : O) : Type 0 where
  pub went : WentInPart o.took o.write_failed text before after
  pub count : ℕ
  pub within : count < length text
  pub written : o.written after ≡ append_known (o.written before) (take count text)
  pub failed : Rose (o.faults before) (o.faults after)
