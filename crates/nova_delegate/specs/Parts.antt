-- What a part of a transfer needs and answers.
use Rattle.std.specs.Prelude.{◌==◌, ◌&&◌, Bool, nat_lt, nat_le, List, filter, Option, IsSome, Result}
use Rattle.std.specs.List.{list_any}
use Rattle.nova_model.specs.Delegations.{Delegations, is_same_kind, range_of, base_of, least_by}
use Rattle.nova_model.specs.Revokes.{Revocation, busy}
use Rattle.nova_model.specs.Transfers.{Part, source_of, dest_of, next_part}
use Rattle.nova_model.specs.declared.delegation.Derivation.{Derivation}
use Rattle.nova_model.specs.Forest.{IsFitting}
use Rattle.nova_model.specs.declared.transfer.Job.{Job}
use Rattle.nova_model.specs.declared.transfer.Reason.{Reason}
use Rattle.nova_nodes.specs.NodesStates.{IsPlaced}
use Rattle.nova_range.specs.Ranges.{end_of}
pub use Rattle.law_forest.specs.Items.{AreRanges as IsUnderWay}

-- ahead of the cursor: the giver's, of the item's kind, at or after the cursor, with some place at or after the source's first
abbrev pub is_ahead : Job → Derivation → Bool
is_ahead j d = is_same_kind j.kind d.kind && (d.pd == j.giver && (nat_le j.cursor d.base && nat_lt j.source (end_of (range_of d))))

abbrev pub first_ahead : List Derivation → Job → Option Derivation
first_ahead list j = least_by base_of (filter (is_ahead j) list)

-- a new derivation is busy for one of those that tell which revoke each is
abbrev pub busy_by : {G : Type 0} → (G → Revocation) → List G → List Derivation → Derivation → Bool
busy_by revoke guards list x = list_any (λ g. busy (revoke g) list x) guards

-- the next part, while these revokes run
abbrev pub next_under : {G : Type 0} → (G → Revocation) → List G → Delegations → Job → Option Part
next_under revoke guards f j = next_part (busy_by revoke guards f.list) f j

-- the derivation of a part, and its child or the reason to skip it
abbrev pub pair_of : Part → Derivation × Result Derivation Reason
pair_of p = (p.source, p.child)

-- a child that can be added: it fits, lies in the space, and has a parent
pub record IsReady (f : Delegations) (x : Derivation) : Type 0 where
  pub fits : IsFitting f x
  pub placed : IsPlaced x
  pub parent : IsSome x.parent
