use Rattle.std.proofs.Common.{refl, sym, ap, subst, ◌∙◌, arith}
use Rattle.nova_lock.specs.Seats.{AreSeats}
use Rattle.nova_model.specs.State.{KernelState}
use Rattle.nova_shared.specs.Ran.{Ran}
use Rattle.nova_shared.proofs.Seats.{others_follow}
use Rattle.nova_shared.proofs.Shares.{shared_begun}
use Rattle.nova_shared.proofs.shared.Shared.new.Goals as goal

pub new-requires : goal.new-requires
new-requires c = shared_begun c.args.kernel.state c.args.limit c.in-Ok-begin.run' c.in-Ok-begin.ensures.finished c.in-Ok-begin.ensures.ready c.in-Ok-begin.ensures.room

pub wrapped-requires-clause-others : goal.wrapped-requires-clause-others
wrapped-requires-clause-others c = others_follow c.in-Ok-new.lock c.in-Ok-new.seats.items c.in-Ok-new.ensures.seats

-- as many seats were made as there are processors, for which there is room
pub wrapped-requires-clause-first : goal.wrapped-requires-clause-first
wrapped-requires-clause-first c = λ d.
    let all = c.in-Ok-new.ensures.seats in
    let made = ((all.each 0 d all.some).first refl).0 in
    let seats = c.in-Ok-new.ensures.lock.1 in
    let room = c.in-Ok.ensures.capacity in
    omega (arith, made, seats, room)

pub returns-in-Ok-new-clause-seats : goal.returns-in-Ok-new-clause-seats
returns-in-Ok-new-clause-seats c = record {
  all = subst (λ items. AreSeats c.in-Ok-new.lock items) (sym c.wrapped.ensures) c.in-Ok-new.ensures.seats;
  cpus = c.in-Ok-new.ensures.lock.1 ∙ c.cpus-cpus.ensures ∙ sym (
      ap (λ (r : Ran). r.opening.kernel.state.cpus) (c.in-Ok-new.ensures.lock.0 ∙ c.new.ensures)
      ∙ ap (λ (k : KernelState). k.cpus) c.in-Ok-begin.ensures.finished.opening
      );
}
