use Rattle.std.proofs.Common.{ℕ, List, sym, subst}
use Rattle.nova_burst.specs.Copies.{IsRecent, known_in}
use Rattle.nova_burst.specs.declared.copies.Known.{Known}
use Rattle.nova_burst.proofs.Places.{known_later}
use Rattle.nova_burst.proofs.copies.Copies.know.Goals as goal

pub invariant_of-self-2 : goal.invariant_of-self-2
invariant_of-self-2 c =
    let list = c.self.inside.known.items in
    let pages = c.self.inside.pages.items in
    let later : (right page copy : ℕ) → IsRecent (known_in list) pages right page copy → IsRecent (known_in c.push.new.self.items) pages right page copy =
    λ right page copy is. subst (λ (ks : List Known). IsRecent (known_in ks) pages right page copy) (sym c.in_ok-push.ensures.items) (known_later list pages c.args.known right page copy is) in
    let was = c.self.invariant in
    (was.0, (was.1.0, (later _ _ _ was.1.1.0, (later _ _ _ was.1.1.1.0, later _ _ _ was.1.1.1.1))))
