-- The mask of `count` ones leaves the remainder by 2 to the power of `count`.
use Rattle.std.proofs.Common.{◌<◌, ◌/◌, ◌^◌, refl, rules}
use Rattle.std.proofs.lemmas.Nat.{one_shl, and_mask}
use Rattle.rv_core.proofs.decoder.field_of.Goals as goal

pub returns : goal.returns
returns c =
    let h : c.args.count < 32 = search rules in
    rw (one_shl c.args.count 32 h, and_mask (c.args.word / 2 ^ c.args.low) c.args.count) refl
