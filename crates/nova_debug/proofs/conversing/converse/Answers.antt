use Rattle.std.proofs.Common.{rules, ◌≡◌, ◌∙◌, ℕ, List, Some, ap, subst}
use Rattle.std.specs.Prelude.{vec_items}
use Rattle.std.specs.Io.Iter.{split_byte, split_known_bytes}
use Rattle.nova_debug.proofs.Conversed.{answered, begun, ended, none_read, piece_read}
use Rattle.nova_debug.specs.Conversations.{HasWritten}
use Rattle.nova_debug.proofs.conversing.converse.Goals as goal

pub loop-line-init : goal.loop-line-init
loop-line-init g c =
    let made = c.into_iter-line-iterator.ensures.into_iter_gives in
    let bytes : split_known_bytes g.R.Read.remaining c.into_iter-line-iterator.result ≡ g.R.Read.remaining c.args.input =
    ap (λ s. split_known_bytes g.R.Read.remaining s) made ∙ c.split-line-items.ensures.bytes in
    (tt, tt, ap (λ s. split_byte s) made ∙ c.split-line-items.ensures.byte, begun c.args.session.now _ _ _ bytes)

pub loop-line-preserved : goal.loop-line-preserved
loop-line-preserved g c =
    let left = split_known_bytes g.R.Read.remaining c.loop-line.line-iterator in
    let later = split_known_bytes g.R.Read.remaining c.next.new.self in
    let line = vec_items c.in_ok-line.line in
    let out = g.W.Write.contents c.loop-line.out in
    let more_out = g.W.Write.contents c.answer.new.out in
    let ten = c.loop-line.invariant.2 in
    let piece = piece_read vec_items (split_byte c.loop-line.line-iterator) left later c.next.result c.in_ok-line.line ten (c.in-Some.is ∙ ap Some c.in_ok-line.was)
    c.next.ensures.steps.2 in
    let same : c.deref.result.now ≡ line = search rules in
    let wrote = subst (λ (l : List ℕ). HasWritten c.loop-line.session l c.answer.new.session out more_out) same c.in_ok-answer.ensures in (
      tt,
      tt,
      c.next.ensures.steps.1 ∙ ten,
      answered c.args.session.now c.loop-line.session c.answer.new.session (g.R.Read.remaining c.args.input) left later
          (g.W.Write.contents c.args.out.now) out more_out (g.W.Write.contents c.flush.new.self) line piece.0 piece.1 wrote c.in_ok-flush.ensures.bytes c.loop-line.invariant.3,
    )

pub returns : goal.returns
returns g c =
    let left = split_known_bytes g.R.Read.remaining c.loop-line.line-iterator in
    let later = split_known_bytes g.R.Read.remaining c.next.new.self in
    ended c.args.session.now c.loop-line.session (g.R.Read.remaining c.args.input) left (g.W.Write.contents c.args.out.now) (g.W.Write.contents c.loop-line.out)
    (none_read vec_items (split_byte c.loop-line.line-iterator) left later c.next.result c.in-None.is c.next.ensures.steps.2) c.loop-line.invariant.3
