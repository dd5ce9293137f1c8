use Rattle.std.proofs.Common.{ℕ, List, Option, Some, arith}
use Rattle.nova_utcb.specs.Messages.{copied}
use Rattle.nova_model.specs.State.{message_in}
use Rattle.nova_messages.proofs.Parted.{to_front}
use Rattle.nova_messages.proofs.messages.copy_down.Goals as goal

pub returns : goal.returns
returns c =
    let parts = c.split_at_mut-front.ensures in
    to_front (λ (f t : Option (List ℕ)). Some (copied (message_in f) (message_in t))) c.args.items.now _ _ c.args.from c.args.to c.index-back-0.result c.index-front-to.result
    c.copy_message.new.to parts.value parts.front_len c.requires.order (let n = parts.back_len in let t = c.requires.there in omega arith) c.index-back-0.is c.index-front-to.is c.copy_message.ensures
