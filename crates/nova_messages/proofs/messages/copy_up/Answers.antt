use Rattle.std.proofs.Common.{ℕ, List, Option, Some, arith}
use Rattle.nova_utcb.specs.Messages.{copied}
use Rattle.nova_model.specs.State.{message_in}
use Rattle.nova_messages.proofs.Parted.{to_back}
use Rattle.nova_messages.proofs.messages.copy_up.Goals as goal

pub returns : goal.returns
returns c =
    let parts = c.split_at_mut-front.ensures in
    to_back (λ (f t : Option (List ℕ)). Some (copied (message_in f) (message_in t))) c.args.items.now _ _ c.args.from c.args.to c.index-front-from.result c.index-back-0.result
    c.copy_message.new.to parts.value parts.front_len c.requires.order (let n = parts.back_len in let t = c.requires.there in omega arith) c.index-front-from.is c.index-back-0.is c.copy_message.ensures
