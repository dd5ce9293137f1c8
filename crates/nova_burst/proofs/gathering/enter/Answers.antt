use Rattle.std.proofs.Common.{rules, ◌≡◌, ◌<◌, ◌≤◌, length, sym, subst}
use Rattle.std.specs.Prelude.{false, IsSome, is_some}
use Rattle.law_leases.specs.Leases.{copy_at}
use Rattle.law_leases.proofs.Leasing.{none_copied}
use Rattle.nova_burst.specs.Copies.{CopiesState}
use Rattle.nova_burst.specs.Gathered.{HaveGrownBy}
use Rattle.nova_burst.proofs.Grown.{copied_entered, entered, full_before}
use Rattle.nova_burst.proofs.gathering.enter.Goals as goal

pub returns-then-has : goal.returns-then-has
returns-then-has c =
    let k = c.args.kernel.now.state in
    let old = c.args.copies.now in
    let copied : IsSome (copy_at old.pages c.args.known.frame) = search rules in
    subst (λ (s : CopiesState). HaveGrownBy k c.args.pd c.args.most c.args.known.page old s) (sym c.in_ok-know.ensures)
    (entered k c.args.pd c.args.most old c.args.known c.requires.leads c.requires.new copied)

pub returns-then-is_full : goal.returns-then-is_full
returns-then-is_full c =
    let full : c.args.most ≤ length c.args.copies.now.pages = search rules in
    full_before c.args.kernel.now.state c.args.pd c.args.most c.args.known.page c.args.copies.now full

pub returns : goal.returns
returns c =
    let k = c.args.kernel.now.state in
    let old = c.args.copies.now in
    let none : is_some (copy_at old.pages c.args.known.frame) ≡ false = search rules in
    let few : length old.pages < c.args.most = search rules in
    subst (λ (s : CopiesState). HaveGrownBy k c.args.pd c.args.most c.args.known.page old s) (sym c.in_ok-know-2.ensures)
    (copied_entered k c.args.pd c.args.most old c.copy_frame.new.copies c.args.known c.requires.leads c.requires.new (none_copied (copy_at old.pages c.args.known.frame) none) few c.in_ok-copy_frame.ensures)

pub copy_frame-requires-clause-free : goal.copy_frame-requires-clause-free
copy_frame-requires-clause-free c =
    let none : is_some (copy_at c.args.copies.now.pages c.args.known.frame) ≡ false = search rules in none_copied (copy_at c.args.copies.now.pages c.args.known.frame) none
