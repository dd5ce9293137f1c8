use Rattle.std.proofs.Common.{◌≡◌, sym, subst, arith}
use Rattle.nova_model.specs.State.{KernelState, pd_of}
use Rattle.nova_deeds.specs.Acts.{TakesFree}
use Rattle.nova_turn.specs.Parts.{state_of}
use Rattle.nova_deeds.proofs.Steps.{act-does, takes-free}
use Rattle.nova_turn.proofs.Ongoing.{IsDecided, begins_within, done_runs}
use Rattle.nova_turn.proofs.parts.Parts.carry_out.Goals as goal

pub perform-requires-clause-free : goal.perform-requires-clause-free
perform-requires-clause-free c =
    let k : KernelState = state_of c.args.self.now in
    let same : state_of c.make_room.new.self ≡ k = c.make_room.ensures.shown in
    subst (λ (s : KernelState). TakesFree s (pd_of s c.args.ec) c.args.deed) (sym same) (takes-free k c.args.ec c.args.deed c.requires.own)

pub perform-requires-clause-places : goal.perform-requires-clause-places
perform-requires-clause-places c =
    let p = c.args.self.now in
    let k : KernelState = state_of p in
    let law = c.running_revokes_are_their_runners.ensures in
    let decided : IsDecided k c.args.ec c.args.deed = record {
      there = c.requires.there;
      is = c.requires.own;
      all = law.all k c.args.ec c.requires.ready.tables.counted.kept c.requires.acts;
      begins = law.begins k c.args.ec;
    } in
    let more = c.make_room.ensures.places in
    begins_within k c.args.ec c.args.deed p.revokes c.make_room.new.self.revokes decided c.requires.ready.tables.running
    c.make_room.ensures.revokes (omega (arith, more))

pub returns-clause-done : goal.returns-clause-done
returns-clause-done c =
    let k : KernelState = state_of c.args.self.now in
    let same : state_of c.make_room.new.self ≡ k = c.make_room.ensures.shown in
    act-does k (state_of c.make_room.new.self) (state_of c.perform.new.self) c.args.ec c.args.deed same c.perform.ensures.done

pub returns-clause-running : goal.returns-clause-running
returns-clause-running c =
    let p = c.args.self.now in
    let k : KernelState = state_of p in
    let law = c.running_revokes_are_their_runners.ensures in
    let decided : IsDecided k c.args.ec c.args.deed = record {
      there = c.requires.there;
      is = c.requires.own;
      all = law.all k c.args.ec c.requires.ready.tables.counted.kept c.requires.acts;
      begins = law.begins k c.args.ec;
    } in
    let same : state_of c.make_room.new.self ≡ k = c.make_room.ensures.shown in
    let more = c.make_room.ensures.places in
    done_runs p c.make_room.new.self c.perform.new.self c.args.ec _ c.args.deed decided c.requires.ready.tables.running c.requires.fits.0
    c.requires.ready.tables.counted.tables same c.make_room.ensures.revokes (omega (arith, more))
    c.in_ok-make_room.ensures.room
    (act-does k (state_of c.make_room.new.self) (state_of c.perform.new.self) c.args.ec c.args.deed same c.perform.ensures.done)
    c.perform.ensures.revokes c.perform.ensures.places
