-- The best of those that may run.
use Rattle.std.specs.Prelude.{◌≡◌, ◌≢◌, ◌<◌, ◌≤◌, ◌⊎◌, List}
use Rattle.std.specs.List.{Contains}
use Rattle.nova_model.specs.Choice.{Candidate}

-- one of them, and none has a greater priority, or the same and a lesser stamp
pub record IsBest (cs : List Candidate) (c : Candidate) : Type 0 where
  pub there : Contains cs c
  pub greatest : (d : Candidate) → Contains cs d → (d.priority < c.priority) ⊎ ((d.priority ≡ c.priority) × (c.stamp ≤ d.stamp))

-- and it is the only one of these: each other has a lesser priority, or the same and a greater stamp
pub record IsOnlyBest (cs : List Candidate) (c : Candidate) : Type 0 where
  pub there : Contains cs c
  pub before : (d : Candidate) → Contains cs d → d ≢ c → (d.priority < c.priority) ⊎ ((d.priority ≡ c.priority) × (c.stamp < d.stamp))
