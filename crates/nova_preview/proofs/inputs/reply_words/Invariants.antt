use Rattle.std.proofs.Common.{◌≡◌, ◌<◌, length, take}
use Rattle.nova_model.specs.Inputs.{reply_words}
use Rattle.nova_utcb.specs.Messages.{IsMessage}
use Rattle.nova_preview.proofs.inputs.reply_words.Given as goal

-- the words up to now
abbrev pub invariant-loop-i : goal.invariant-loop-i
invariant-loop-i l = record {
  many : length l.words ≡ 33;
  told : take l.i l.words ≡ take l.i (reply_words l.message);
  message : 0 < l.i → IsMessage l.message;
}
