use Rattle.nova_guest.proofs.Kept.{taken_kept}
use Rattle.nova_alone.proofs.applying.take.Goals as goal

pub returns-then-has-clause-kept : goal.returns-then-has-clause-kept
returns-then-has-clause-kept c = taken_kept c.args.guest.now _ _ c.remove.new.self c.keep.new.self c.requires c.remove.ensures c.keep.ensures
