use Rattle.std.proofs.Common.{rules, ◌≡◌, ◌<◌, ◌/◌, ◌%◌, length, ap, sym, ◌∙◌, subst}
use Rattle.std.specs.Prelude.{IfSome, None, Option, Some, option_and_then, slice_get}
use Rattle.nova_guest.specs.Frames.{frame_from, read_in}
use Rattle.law_leases.specs.Leases.{copy_at}
use Rattle.law_leases.specs.declared.steps.Page.{Page}
use Rattle.nova_range.specs.Rights.{execute_right}
use Rattle.nova_burst.specs.Copies.{CopiesState, IsCopyFor, known_in}
use Rattle.nova_burst.proofs.Places.{none_read, read_there, within}
use Rattle.nova_burst.proofs.copies.CopiesBus.fetch.Goals as goal

pub load_from-requires-clause-there : goal.load_from-requires-clause-there
load_from-requires-clause-there c =
    let s = c.args.self.now in
    let its : IsCopyFor (known_in s.known) s.pages execute_right (c.args.addr / 4096) c.in_ok-copy.copy = search rules in
    subst (λ (x : CopiesState). c.in_ok-copy.copy < length x.pages) (sym c.copy_to_fetch.ensures.same) (within s.pages c.in_ok-copy.copy its.its its.at)

pub returns-in_err-copy-clause-gives : goal.returns-in_err-copy-clause-gives
returns-in_err-copy-clause-gives c =
    let s = c.args.self.now in
    let none : option_and_then (copy_at s.pages) (frame_from (known_in s.known) execute_right c.args.addr) ≡ None = search rules in
    let nothing : c.from_residual.result ≡ None = search rules in
    nothing ∙ sym (none_read (known_in s.known) s.pages execute_right c.args.addr (c.args.addr % 4096) 4 none)

pub returns-clause-gives : goal.returns-clause-gives
returns-clause-gives c =
    let s = c.args.self.now in
    let its : IsCopyFor (known_in s.known) s.pages execute_right (c.args.addr / 4096) c.in_ok-copy.copy = search rules in
    let found : IfSome (slice_get s.pages c.in_ok-copy.copy) (λ p. c.load_from.result ≡ read_in (Some p.bytes) (c.args.addr % 4096) 4) =
    subst (λ (x : CopiesState). IfSome (slice_get x.pages c.in_ok-copy.copy) (λ p. c.load_from.result ≡ read_in (Some p.bytes) (c.args.addr % 4096) 4)) c.copy_to_fetch.ensures.same c.load_from.ensures.number in
    let number : c.load_from.result ≡ read_in (Some its.its.bytes) (c.args.addr % 4096) 4 =
    subst (λ (o : Option Page). IfSome o (λ p. c.load_from.result ≡ read_in (Some p.bytes) (c.args.addr % 4096) 4)) its.at found in
    ap Some number ∙ sym (read_there (known_in s.known) s.pages execute_right c.args.addr (c.args.addr % 4096) 4 c.in_ok-copy.copy c.copy_to_fetch.ensures.once its)
