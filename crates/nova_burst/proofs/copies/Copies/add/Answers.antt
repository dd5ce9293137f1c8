use Rattle.std.proofs.Common.{rules, ◌≡◌, ℕ, None, List, length, sym, subst}
use Rattle.std.specs.List.{All}
use Rattle.law_leases.specs.Leases.{copy_at}
use Rattle.law_leases.specs.Paging.{AreOnce}
use Rattle.law_leases.specs.declared.steps.Page.{Page}
use Rattle.nova_burst.specs.Copies.{IsRecent, known_in}
use Rattle.nova_burst.proofs.Lists.{once_more}
use Rattle.nova_burst.proofs.Places.{page_later, whole_more}
use Rattle.nova_burst.proofs.copies.Copies.add.Goals as goal

pub invariant_of-self-2 : goal.invariant_of-self-2
invariant_of-self-2 c =
    let known = known_in c.self.inside.known.items in
    let pages = c.self.inside.pages.items in
    let later : (right page copy : ℕ) → IsRecent known pages right page copy → IsRecent known c.push.new.self.items right page copy =
    λ right page copy is. subst (λ (ps : List Page). IsRecent known ps right page copy) (sym c.in_ok-push.ensures.items) (page_later known pages c.args.page right page copy is) in
    let was = c.self.invariant in
    let whole : All (λ (p : Page). length p.bytes ≡ 4096) c.push.new.self.items =
    subst (λ (ps : List Page). All (λ (p : Page). length p.bytes ≡ 4096) ps) (sym c.in_ok-push.ensures.items) (whole_more pages c.args.page was.0 c.requires.whole) in
    let none : copy_at pages c.args.page.frame ≡ None = search rules in
    (whole, (subst AreOnce (sym c.in_ok-push.ensures.items) (once_more pages c.args.page was.1.0 none), (later _ _ _ was.1.1.0, (later _ _ _ was.1.1.1.0, later _ _ _ was.1.1.1.1))))
