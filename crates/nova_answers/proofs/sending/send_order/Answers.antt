use Rattle.std.proofs.Common.{◌≡◌, ℕ, ◌<◌, List, length, take, Result, Ok, Err, OnOk, OnErr, sym, subst}
use Rattle.nova_command.specs.declared.command.Command.{Command}
use Rattle.nova_command.specs.declared.command.Command.TheVariants.{Run}
use Rattle.nova_io.specs.Files.{with_appended}
use Rattle.nova_io.specs.Taken.{WentWhole, WentInPart}
use Rattle.nova_io.specs.declared.faults.Failed.{Failed}
use Rattle.nova_answers.specs.Main.{IsOrderOut, IsOrderCut}
use Rattle.nova_io.specs.Outside.{Depots, depots, WereAppended, WereCut}
use Rattle.nova_answers.proofs.sending.send_order.Goals as goal

whole_of : {D : Type 0} (d : Depots D) (command : Command) (scenario name n bytes : List ℕ) (limit : ℕ) (old new : D) (r : Result (Unit {0}) Failed) →
    command ≡ Run scenario name limit → n ≡ name → OnOk r (WentWhole (λ depot. d.took depot n) bytes old new) →
    OnOk r (d.files new ≡ with_appended (d.files old) n bytes) → OnOk r (IsOrderOut d command bytes old new)
whole_of d command scenario name n bytes limit old new (Ok x) is same went held =
    subst (λ (c : Command). IsOrderOut d c bytes old new) (sym is)
    (subst (λ (m : List ℕ). WereAppended d m bytes old new) same (record { whole = went; held = held }))
whole_of d command scenario name n bytes limit old new (Err e) is same went held = tt

part_of : {D : Type 0} (d : Depots D) (command : Command) (scenario name n bytes : List ℕ) (limit : ℕ) (old new : D) (r : Result (Unit {0}) Failed) →
    command ≡ Run scenario name limit → n ≡ name →
    OnErr r (WentInPart (λ depot. d.took depot n) (λ depot. d.append_failed depot n) bytes old new) →
    OnErr r ((count : ℕ) × (count < length bytes) × (d.files new ≡ with_appended (d.files old) n (take count bytes))) → OnErr r (IsOrderCut d command bytes old new)
part_of d command scenario name n bytes limit old new (Ok x) is same went held = tt
part_of d command scenario name n bytes limit old new (Err e) is same went held =
    subst (λ (c : Command). IsOrderCut d c bytes old new) (sym is)
    (subst (λ (m : List ℕ). WereCut d m bytes old new) same (record { part = went; count = held.0; within = held.1; held = held.2 }))

pub returns-in-Run-clause-whole : goal.returns-in-Run-clause-whole
returns-in-Run-clause-whole g c =
    whole_of (depots g.D.Depot.files g.D.Depot.gave g.D.Depot.fetch_failed g.D.Depot.fetch_faults g.D.Depot.took g.D.Depot.append_failed g.D.Depot.append_faults) c.args.command.now _ c.in-Run.name c.as_str.result.now c.args.order.now _ c.args.depot.now c.append_all.new.depot c.append_all.result
    c.in-Run.is c.as_str.ensures c.append_all.ensures.went c.append_all.ensures.whole

pub returns-in-Run-clause-part : goal.returns-in-Run-clause-part
returns-in-Run-clause-part g c =
    part_of (depots g.D.Depot.files g.D.Depot.gave g.D.Depot.fetch_failed g.D.Depot.fetch_faults g.D.Depot.took g.D.Depot.append_failed g.D.Depot.append_faults) c.args.command.now _ c.in-Run.name c.as_str.result.now c.args.order.now _ c.args.depot.now c.append_all.new.depot c.append_all.result
    c.in-Run.is c.as_str.ensures c.append_all.ensures.part_went c.append_all.ensures.part
