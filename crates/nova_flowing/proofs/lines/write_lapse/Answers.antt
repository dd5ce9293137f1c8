use Rattle.std.proofs.Common.{◌≡◌, ◌++◌, codes, string_bytes}
use Rattle.std.specs.Prelude.{decimal}
use Rattle.std.proofs.lemmas.Result.{on_ok_weaker}
use Rattle.nova_flowing.specs.Lines.{doing_text}
use Rattle.nova_flowing.proofs.Telling.{lapse_whole}
use Rattle.nova_flowing.proofs.lines.write_lapse.Goals as goal

pub returns : goal.returns
returns c =
    let wrote : string_bytes c.write.new.self ≡ string_bytes c.args.out.now ++ (codes " at work until turn " ++ (decimal c.args.lapse.turn ++ (codes ": ec " ++ decimal c.args.lapse.ec))) = c.in_ok-write.ensures.bytes in
    on_ok_weaker c.write_doing.result
    (λ more. lapse_whole (codes " at work until turn ") (decimal c.args.lapse.turn) (codes ": ec ") (decimal c.args.lapse.ec) (doing_text c.args.leak c.args.from c.args.lapse.kind) _ _ _ wrote more) c.write_doing.ensures
