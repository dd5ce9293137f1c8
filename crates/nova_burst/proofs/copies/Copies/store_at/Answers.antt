use Rattle.std.proofs.Common.{rules, ◌≡◌, ◌/◌, ap, sym, ◌∙◌, subst}
use Rattle.std.specs.Prelude.{IfSome, Option, Some, slice_get}
use Rattle.law_leases.specs.declared.steps.Page.{Page}
use Rattle.nova_range.specs.Rights.{write_right}
use Rattle.nova_burst.specs.Copies.{CopiesState, IsCopyFor, known_in}
use Rattle.nova_burst.proofs.Places.{taken_there}
use Rattle.nova_burst.proofs.copies.Copies.store_at.Goals as goal

pub returns-clause-gives : goal.returns-clause-gives
returns-clause-gives c =
    let s = c.args.self.now in
    let its : IsCopyFor (known_in s.known) s.pages write_right (c.args.addr / 4096) c.in_ok-copy.copy = search rules in
    sym (taken_there (known_in s.known) s.pages write_right c.args.addr c.in_ok-copy.copy c.copy_to_store.ensures.once its)

pub returns-clause-frame : goal.returns-clause-frame
returns-clause-frame c =
    let s = c.args.self.now in
    let its : IsCopyFor (known_in s.known) s.pages write_right (c.args.addr / 4096) c.in_ok-copy.copy = search rules in
    let found : IfSome (slice_get s.pages c.in_ok-copy.copy) (λ p. c.frame_of-frame.result ≡ p.frame) =
    subst (λ (x : CopiesState). IfSome (slice_get x.pages c.in_ok-copy.copy) (λ p. c.frame_of-frame.result ≡ p.frame)) c.copy_to_store.ensures.same c.frame_of-frame.ensures in
    let is : c.frame_of-frame.result ≡ its.its.frame = subst (λ (o : Option Page). IfSome o (λ p. c.frame_of-frame.result ≡ p.frame)) its.at found in
    its.leads ∙ ap Some (sym is)
