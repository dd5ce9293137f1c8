use Rattle.std.proofs.Common.{rules, arith, ◌≡◌, ◌∙◌, ◌+◌, List, length, ap, sym, subst}
use Rattle.std.specs.Prelude.{true, Option, slice_set, Some, IsSome, IfSome}
use Rattle.nova_model.specs.Turn.{is_spent, budget_after}
use Rattle.nova_sched.specs.Queues.{Schedule, QueuesState, queued_at, charged_schedule}
use Rattle.nova_sched.specs.Lists.{entry_in}
use Rattle.nova_sched.specs.declared.queued.Queued.{Queued}
use Rattle.nova_sched.proofs.Tables.{entry_at, queues_set}
use Rattle.nova_sched.specs.Precedence.{AreStamped}
use Rattle.nova_sched.specs.Ready.{IsReady, items_at}
use Rattle.nova_sched.specs.declared.queued.Runnable.{Runnable}
use Rattle.nova_sched.proofs.Readiness.{cpu_there}
use Rattle.nova_sched.proofs.Readies.{ready_changed, ready_elsewhere, ready_renewed, room_again}
use Rattle.nova_sched.proofs.Stamps.{stamps_are_given_once}
use Rattle.nova_sched.proofs.Changes.{charged_is}
use Rattle.nova_sched.proofs.queues.Queues.charge_last.Goals as goal

pub renew-requires-clause-cpu : goal.renew-requires-clause-cpu
renew-requires-clause-cpu c =
    let there : IsSome (entry_in c.self.inside.entries.items c.args.sc) = search rules in
    let is : entry_in c.self.inside.entries.items c.args.sc ≡ Some c.in-Some.payer = entry_at c.self.inside.entries.items c.args.sc c.index_mut.result.now there c.index_mut.ensures.value ∙ c.in-Some.is in
    let are = c.self.invariant.1.1 in
    let low = cpu_there c.self.inside.queues.items c.self.inside.entries.items c.args.sc c.in-Some.payer c.self.invariant.0 is in
    let cpus = are.cpus in
    omega arith

pub renew-requires-clause-room : goal.renew-requires-clause-room
renew-requires-clause-room c = λ on.
    let there : IsSome (entry_in c.self.inside.entries.items c.args.sc) = search rules in
    let is : entry_in c.self.inside.entries.items c.args.sc ≡ Some c.in-Some.payer = entry_at c.self.inside.entries.items c.args.sc c.index_mut.result.now there c.index_mut.ensures.value ∙ c.in-Some.is in
    let s : Schedule = record { entries = c.self.inside.entries.items; next_stamp = c.self.inside.next_stamp; cpus = length c.self.inside.queues.items } in
    room_again c.self.inside.queues.items c.self.inside.readies.items s c.args.sc c.in-Some.payer c.self.invariant.0 c.self.invariant.1.1 is on

pub invariant_of-self : goal.invariant_of-self
invariant_of-self c =
    let there : IsSome (entry_in c.self.inside.entries.items c.args.sc) = search rules in
    let is : entry_in c.self.inside.entries.items c.args.sc ≡ Some c.in-Some.payer = entry_at c.self.inside.entries.items c.args.sc c.index_mut.result.now there c.index_mut.ensures.value ∙ c.in-Some.is in
    let s : Schedule = record { entries = c.self.inside.entries.items; next_stamp = c.self.inside.next_stamp; cpus = length c.self.inside.queues.items } in
    let x = c.in-Some.payer in
    let y = c.pay.new.entry in
    let are = c.self.invariant.1.1 in
    let at = ap (λ (e : Queued). e.cpu) c.pay.ensures in
    let runs = ap (λ (e : Queued). e.is_runnable) c.pay.ensures in
    let last : IfSome (entry_in c.self.inside.entries.items c.args.sc) (λ (e : Queued). is_spent e.budget ≡ true) =
    subst (λ (q : QueuesState). IfSome (queued_at q.all c.args.sc) (λ (e : Queued). is_spent e.budget ≡ true)) (sym c.self.view_is) c.requires.last in
    let spent : is_spent c.in-Some.payer.budget ≡ true = subst (λ (o : Option Queued). IfSome o (λ (e : Queued). is_spent e.budget ≡ true)) is last in
    let t : Schedule = record { entries = slice_set c.self.inside.entries.items c.args.sc (Some y); next_stamp = c.self.inside.next_stamp + 1; cpus = length c.self.inside.queues.items } in
    let stamp : y.budget.stamp ≡ s.next_stamp = ap (λ (e : Queued). e.budget.stamp) c.pay.ensures ∙ ap (λ u. (budget_after u x.quantum c.self.inside.next_stamp x.budget).stamp) spent in
    let stamped = subst AreStamped (sym (charged_is s c.args.sc x y true is c.pay.ensures spent)) (stamps_are_given_once.charge s c.args.sc are.stamped) in
    let here = subst (λ (rs : List Runnable). IsReady x.cpu t.entries rs) (sym c.renew.ensures.here)
    (ready_renewed s (items_at c.self.inside.readies.items x.cpu) c.args.sc x y are.stamped (are.ready x.cpu) is at runs stamp) in (
      queues_set c.self.inside.queues.items c.self.inside.entries.items c.args.sc x y c.self.invariant.0 is at,
      (
        c.self.invariant.1.0,
        ready_changed c.self.inside.queues.items c.self.inside.readies.items c.renew.new.readies.items s t x.cpu are c.renew.ensures.cpus c.renew.ensures.others c.renew.ensures.rooms here
            (λ other off rs ready. ready_elsewhere c.self.inside.entries.items rs c.args.sc other x y is at off ready) stamped,
      ),
    )

pub returns-clause-charged : goal.returns-clause-charged
returns-clause-charged c =
    let there : IsSome (entry_in c.self.inside.entries.items c.args.sc) = search rules in
    let is : entry_in c.self.inside.entries.items c.args.sc ≡ Some c.in-Some.payer = entry_at c.self.inside.entries.items c.args.sc c.index_mut.result.now there c.index_mut.ensures.value ∙ c.in-Some.is in
    let last : IfSome (entry_in c.self.inside.entries.items c.args.sc) (λ (e : Queued). is_spent e.budget ≡ true) =
    subst (λ (q : QueuesState). IfSome (queued_at q.all c.args.sc) (λ (e : Queued). is_spent e.budget ≡ true)) (sym c.self.view_is) c.requires.last in
    let spent : is_spent c.in-Some.payer.budget ≡ true = subst (λ (o : Option Queued). IfSome o (λ (e : Queued). is_spent e.budget ≡ true)) is last in
    subst (λ (q : QueuesState). ◌≡◌ {A = Schedule} (record { entries = slice_set c.self.inside.entries.items c.args.sc (Some c.pay.new.entry); next_stamp = c.self.inside.next_stamp + 1; cpus = length c.self.inside.queues.items }) (charged_schedule q.all c.args.sc)) c.self.view_is
    (charged_is (record { entries = c.self.inside.entries.items; next_stamp = c.self.inside.next_stamp; cpus = length c.self.inside.queues.items }) c.args.sc c.in-Some.payer c.pay.new.entry true is c.pay.ensures spent)
