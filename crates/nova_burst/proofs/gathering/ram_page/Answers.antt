use Rattle.std.proofs.Common.{rules, ◌≡◌, ◌≤◌, ◌<◌, length, ap, sym, ◌∙◌, arith, refl}
use Rattle.std.specs.Prelude.{None, Some}
use Rattle.std.proofs.lemmas.Option.{same_Some}
use Rattle.nova_guest.specs.declared.page.Page.{Page as Place}
use Rattle.nova_model.specs.Delegations.{reach}
use Rattle.nova_burst.proofs.Grown.{no_place, place_is}
use Rattle.nova_burst.proofs.gathering.ram_page.Goals as goal

pub returns-in_err-found-clause-none : goal.returns-in_err-found-clause-none
returns-in_err-found-clause-none c =
    let k = c.args.kernel.now.state in
    let none : reach k.delegations.list c.args.pd c.args.page ≡ None = no_place (reach k.delegations.list c.args.pd c.args.page) (search rules) in
    λ _ p leads. absurd (let both : None ≡ Some p = sym none ∙ leads in cc)

pub returns-then-is_console-clause-none : goal.returns-then-is_console-clause-none
returns-then-is_console-clause-none c =
    let k = c.args.kernel.now.state in
    let is : reach k.delegations.list c.args.pd c.args.page ≡ Some (record { frame = c.in_ok-found.found.0; rights = c.in_ok-found.found.1 }) =
    place_is (reach k.delegations.list c.args.pd c.args.page) c.in_ok-found.found.0 c.in_ok-found.found.1 (search rules) in
    let beyond : length k.memory.ram ≤ c.in_ok-found.found.0 = search rules in
    λ _ p leads. let same = ap (λ (x : Place). x.frame) (same_Some (record { frame = c.in_ok-found.found.0; rights = c.in_ok-found.found.1 }) p (sym is ∙ leads)) in omega arith

pub returns-clause-some : goal.returns-clause-some
returns-clause-some c =
    let k = c.args.kernel.now.state in
    let ram : c.in_ok-found.found.0 < length k.memory.ram = search rules in
    record { its = refl; leads = place_is (reach k.delegations.list c.args.pd c.args.page) c.in_ok-found.found.0 c.in_ok-found.found.1 (search rules); ram = ram }
