-- What depots and sinks in memory hold.
use Rattle.std.specs.Prelude.{ℕ, zero, suc, ◌-◌, Bool, if◌then◌else◌, List, unwrap_or, refl}
use Rattle.std.specs.Ordering.{nat_cmp}
use Rattle.std.specs.Cmp.Lexicographic.{slice_cmp}
use Rattle.std.specs.Coded.{Coded, code_by, coded×, coded_ℕ, coded_list}
use Rattle.std.specs.FinMap.{FinMap, get, insert, code}
use Rattle.nova_io.specs.Faults.{raised}
use Rattle.nova_io.specs.Files.{Files}

-- how many calls of a kind there were, how many of them were faults, and the numbers of those that are to fail
pub record CallCounts : Type 0 where
  pub made : ℕ
  pub faults : ℕ
  pub failing : List ℕ

-- counts are stored as a tuple
abbrev pub counts_code : Coded CallCounts
counts_code =
    code_by ((ℕ × ℕ) × List ℕ) (coded× (coded× coded_ℕ coded_ℕ) (coded_list coded_ℕ))
    (λ c. ((c.made, c.faults), c.failing)) (λ p. record { made = p.0.0; faults = p.0.1; failing = p.1 }) (λ _. refl)

-- after one more call, which was a fault or wasn't
abbrev pub after_call : CallCounts → Bool → CallCounts
after_call calls fault = record calls { made = raised calls.made; faults = if fault then raised calls.faults else calls.faults }

-- bytes, and how many more there is room for
pub record Stored : Type 0 where
  pub bytes : List ℕ
  pub room : ℕ

-- what a sink in memory holds: its bytes, the room that is left, its calls, and the most bytes that one of them takes
pub record SinkState : Type 0 where
  pub bytes : List ℕ
  pub room : ℕ
  pub writes : CallCounts
  pub most : ℕ

-- the room that is left, by name
abbrev pub Rooms : Type 0
Rooms = FinMap (slice_cmp nat_cmp) ℕ

-- the room of a name, and none where there is no such file
abbrev pub room_of : Rooms → List ℕ → ℕ
room_of rooms name = unwrap_or (get rooms name) 0

-- the rooms after as many bytes as the number says went into the room of `name`
abbrev pub lowered : Rooms → List ℕ → ℕ → Rooms
lowered rooms name zero = rooms
lowered rooms name (suc n) = insert rooms name (room_of rooms name - suc n)

-- what a depot in memory holds: its files' bytes and the room that is left to them, its calls of each kind, and the most
-- bytes that one of them takes or gives
pub record DepotState : Type 0 where
  pub files : Files
  pub rooms : Rooms
  pub fetches : CallCounts
  pub appends : CallCounts
  pub most : ℕ

-- a depot's state is stored as a tuple
abbrev pub depot_code : Coded DepotState
depot_code =
    code_by ((Files × Rooms) × ((CallCounts × CallCounts) × ℕ))
    (coded× (coded× (code (coded_list coded_ℕ) (coded_list coded_ℕ)) (code (coded_list coded_ℕ) coded_ℕ)) (coded× (coded× counts_code counts_code) coded_ℕ))
    (λ d. ((d.files, d.rooms), ((d.fetches, d.appends), d.most)))
    (λ p. record { files = p.0.0; rooms = p.0.1; fetches = p.1.0.0; appends = p.1.0.1; most = p.1.1 }) (λ _. refl)
