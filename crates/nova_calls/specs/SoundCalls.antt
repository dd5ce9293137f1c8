-- What holds of each call that was read.
use Rattle.std.specs.Prelude.{◌≡◌, ◌<◌, ◌≤◌, ℕ, ◌-◌, ◌%◌, ◌^◌}
use Rattle.nova_range.specs.Ranges.{IsRange}
use Rattle.nova_range.specs.Mtds.{IsMtd}
use Rattle.nova_range.specs.RangeWords.{HasWord}
use Rattle.nova_calls.specs.declared.call.Call.{Call}
use Rattle.nova_calls.specs.declared.call.Call.TheVariants as call

abbrev pub IsSelector : ℕ → Type 0
IsSelector n = n < 2 ^ 20

-- arguments are as the table of hypercalls has them
abbrev pub IsSoundCall : Call → Type 0
IsSoundCall (call.Call portal flag) = IsSelector portal
IsSoundCall call.Reply = Unit {0}
IsSoundCall (call.CreatePd target pd first) = IsSelector target × IsSelector pd × HasWord first
IsSoundCall (call.CreateEc target pd cpu kind sp event) = IsSelector target × IsSelector pd × (cpu < 2 ^ 8) × (event ≤ 2 ^ 20 - 9)
IsSoundCall (call.CreateSc target pd ec quantum priority) =
    IsSelector target × IsSelector pd × IsSelector ec × (1 ≤ quantum) × (quantum < 2 ^ 24)
IsSoundCall (call.CreatePt target pd ec mtd ip) = IsSelector target × IsSelector pd × IsSelector ec × IsMtd mtd × (ip % 4 ≡ 0)
IsSoundCall (call.CreateSm target pd count) = IsSelector target × IsSelector pd
IsSoundCall (call.Revoke range own) = IsRange range
IsSoundCall (call.Lookup range) = IsRange range
IsSoundCall (call.EcCtrl ec) = IsSelector ec
IsSoundCall (call.ScCtrl sc) = IsSelector sc
IsSoundCall (call.PtCtrl pt identifier) = IsSelector pt
IsSoundCall (call.SmCtrl sm action) = IsSelector sm
