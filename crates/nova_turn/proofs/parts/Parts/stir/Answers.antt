use Rattle.std.proofs.Common.{rules, arith, ◌≡◌, ◌≤◌, ◌∙◌, ap, ℕ, List, length}
use Rattle.std.proofs.lemmas.Bool.Decides.{nat_tests}
use Rattle.std.specs.Prelude.{◌==◌, Bool, true, Option}
use Rattle.nova_model.specs.State.{KernelState}
use Rattle.nova_turn.specs.Parts.{state_of}
use Rattle.nova_deeds.specs.StirCounts.{numbers_from}
use Rattle.nova_deeds.specs.Stirs.{is_stirring}
use Rattle.nova_deeds.proofs.StirTables.{but_all, but_none}
use Rattle.nova_turn.proofs.parts.Parts.stir.Goals as goal

pub returns-else-not-is_empty-clause-shown : goal.returns-else-not-is_empty-clause-shown
returns-else-not-is_empty-clause-shown c =
    let p = c.args.self.now in
    let k : KernelState = state_of p in
    let stirs : ℕ → Bool = is_stirring k p.reach.written c.args.ec c.args.deed.now in
    let none : (length (numbers_from 0 p.guests.counts) == 0) ≡ true = search rules in
    let few : length (numbers_from 0 p.guests.counts) ≤ 0 = grind (arith, nat_tests, none) in
    ap (λ (counts : List (Option ℕ)). record k { stirs = record k.stirs { guests = counts } }) (but_all stirs p.guests.counts ∙ but_none stirs p.guests.counts 0 few)
