-- Lines that tell of each side whether the premises hold, and until when it is at work.
use Rattle.std.specs.Prelude.{ℕ, ◌==◌, ◌&&◌, Bool, true, not, if◌then◌else◌, List, [], ◌++◌, codes, decimal, flat_map, nat_lt, Option, Some, None}
use Rattle.std.specs.List.{enumerate_from, position, range_with_len}
use Rattle.nova_model.specs.State.{KernelState}
use Rattle.nova_report.specs.Words.{line_feed}
use Rattle.nova_naming.specs.Labels.{side_text}
use Rattle.nova_naming.specs.Statements.{Stated}
use Rattle.nova_ties.specs.Ties.{has_label, is_place}
use Rattle.nova_flowing.specs.Premises.{verdict_by}
use Rattle.nova_flowing.specs.Tables.{home_by, others_by, own_by, part_by}
use Rattle.nova_flowing.specs.Working.{work_by}
use Rattle.nova_flowing.specs.declared.deciding.Verdict.{Verdict}
use Rattle.nova_flowing.specs.declared.deciding.Verdict.TheVariants.{Own, Waits, Fails}
use Rattle.nova_flowing.specs.declared.lapse.Lapse.{Lapse}
use Rattle.nova_flowing.specs.declared.lapse.Work.{Work}
use Rattle.nova_flowing.specs.declared.lapse.LapseKind.{LapseKind}
use Rattle.nova_flowing.specs.declared.lapse.LapseKind.TheVariants.{Creates, Gives, Revokes}
use Rattle.nova_flowing.specs.declared.leak.Leak.{Leak}
use Rattle.nova_flowing.specs.declared.leak.Field.{Field}
use Rattle.nova_flowing.specs.declared.leak.Field.TheVariants as field
use Rattle.nova_flowing.specs.declared.leak.Place.{Place}
use Rattle.nova_flowing.specs.declared.leak.Place.TheVariants.{Capability, Object, Context, Source}

-- the field of the law's conditions
abbrev pub field_word : Field → List ℕ
field_word field.There = codes "IsClosed.there"
field_word field.Disjoint = codes "AreSeparate.disjoint"
field_word field.Capabilities = codes "IsClosed.capabilities"
field_word field.Waiters = codes "IsClosed.edges"
field_word field.Firsts = codes "IsClosed.firsts"
field_word field.Rest = codes "AreSeparate.rest"
field_word field.Objects = codes "AreSetsApart.objects"
field_word field.Waits = codes "AreSetsApart.first"
field_word field.Queues = codes "AreSetsApart.queues"
field_word field.Holds = codes "IsSide.holds"
field_word field.Handlers = codes "IsSide.handlers"
field_word field.Edges = codes "IsSide.edges"
field_word field.Callers = codes "IsSide.callers"
field_word field.Queued = codes "IsSide.queues"
field_word field.Blocked = codes "IsSide.blocked"
field_word field.Members = codes "IsSide.members"
field_word field.Owned = codes "IsGuarded.owned"
field_word field.Semaphores = codes "IsGuarded.semaphores"
field_word field.Lines = codes "IsGuarded.lines"
field_word field.Memory = codes "IsGuarded.memory"
field_word field.Contexts = codes "HasHome.contexts"
field_word field.Schedules = codes "HasHome.schedules"
field_word field.Rings = codes "HasHome.rings"
field_word field.Others = codes "IsDivided.others"
field_word field.Creates = codes "IsDivided.creates"
field_word field.Derives = codes "DerivesWithin"

-- what it fails of
abbrev pub place_text : Place → List ℕ
place_text (Capability cap target) = codes " cap " ++ (decimal cap ++ (codes " target " ++ (decimal target ++ line_feed)))
place_text (Object object) = codes " object " ++ (decimal object ++ line_feed)
place_text (Context ec cpu) = codes " ec " ++ (decimal ec ++ (codes " processor " ++ (decimal cpu ++ line_feed)))
place_text (Source source cpu sm) = codes " source " ++ (decimal source ++ (codes " processor " ++ (decimal cpu ++ (codes " sm " ++ (decimal sm ++ line_feed)))))

-- the processors of a side
abbrev pub home_text : (ℕ → Bool) → ℕ → List ℕ
home_text C cpu = if C cpu then codes " " ++ decimal cpu else []

abbrev pub homes_text : (ℕ → Bool) → ℕ → List ℕ
homes_text C cpus = flat_map (home_text C) (range_with_len 0 cpus)

-- why it may not revoke
abbrev pub leak_text : Option Leak → List ℕ
leak_text None = line_feed
leak_text (Some leak) = codes " " ++ (field_word leak.field ++ place_text leak.place)

-- the turn from which on it revokes within: the first in which it isn't at work without revokes, if it is at work then
abbrev pub is_before : ℕ → Option Lapse → Bool
is_before turn None = true
is_before turn (Some l) = nat_lt turn l.turn

abbrev pub revokes_from : Option Lapse → Option Lapse → Option ℕ
revokes_from lapse None = None
revokes_from lapse (Some calm) = if is_before calm.turn lapse then Some calm.turn else None

abbrev pub within_text : Option ℕ → List ℕ
within_text None = line_feed
within_text (Some turn) = codes ", revokes within from turn " ++ (decimal turn ++ line_feed)

-- until when it is at work
abbrev pub doing_text : Option Leak → Option ℕ → LapseKind → List ℕ
doing_text leak from Creates = codes " creates" ++ within_text from
doing_text leak from Gives = codes " gives" ++ within_text from
doing_text leak from Revokes = codes " revokes" ++ leak_text leak

abbrev pub end_text : Option Leak → Option ℕ → Option Lapse → List ℕ
end_text leak from None = codes " at work to the end" ++ within_text from
end_text leak from (Some l) = codes " at work until turn " ++ (decimal l.turn ++ (codes ": ec " ++ (decimal l.ec ++ doing_text leak from l.kind)))

abbrev pub work_text : Work → List ℕ
work_text w = end_text w.leak (revokes_from w.lapse w.calm) w.lapse

abbrev pub verdict_text : (ℕ → Bool) → ℕ → Work → Verdict → List ℕ
verdict_text C cpus work Own = codes " own" ++ (homes_text C cpus ++ work_text work)
verdict_text C cpus work (Waits ec) = codes " waits ec " ++ (decimal ec ++ line_feed)
verdict_text C cpus work (Fails premise leak) = codes " " ++ (field_word leak.field ++ place_text leak.place)

-- each side in a line, by the least number of its domains
abbrev pub begins_side : List ℕ → ℕ → ℕ → Bool
begins_side labels n label = not (label == 0) && is_place n (position (has_label label) labels)

abbrev pub verdict_at : KernelState → List ℕ → ℕ → Verdict
verdict_at k labels label = verdict_by k (own_by labels label) (others_by labels label) (part_by k labels label) (home_by k labels label)

abbrev pub flow_text : List Stated → KernelState → List Lapse → List ℕ → ℕ → List ℕ
flow_text policy k lapses labels label =
    codes "flow " ++ (side_text policy label ++ verdict_text (home_by k labels label) k.cpus (work_by k.delegations.list (own_by labels label) lapses) (verdict_at k labels label))

abbrev pub flow_line : List Stated → KernelState → List Lapse → List ℕ → ℕ × ℕ → List ℕ
flow_line policy k lapses labels (n, label) = if begins_side labels n label then flow_text policy k lapses labels label else []

abbrev pub flow_lines : List Stated → KernelState → List Lapse → List ℕ → List ℕ
flow_lines policy k lapses labels = flat_map (flow_line policy k lapses labels) (enumerate_from 0 labels)
