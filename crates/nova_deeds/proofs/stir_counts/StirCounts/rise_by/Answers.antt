use Rattle.std.proofs.Common.{rules, arith, ◌≡◌, ◌+◌, ℕ, List, ap, ap₂, sym, ◌∙◌}
use Rattle.std.specs.Prelude.{Option, None, Some, slice_get, slice_set}
use Rattle.std.proofs.lemmas.Grind.{common_steps}
use Rattle.nova_model.specs.State.{entry}
use Rattle.nova_deeds.specs.StirCounts.{StirTable}
use Rattle.nova_deeds.specs.StirCounts.{risen_by_in}
use Rattle.nova_deeds.proofs.StirTables.{numbers_set}
use Rattle.nova_deeds.proofs.StirTables.{within}
use Rattle.nova_deeds.proofs.stir_counts.StirCounts.rise_by.Goals as goal

abbrev with_spare : List (Option ℕ) → ℕ → StirTable
with_spare counts n = record { counts = counts; spare = n }

pub returns-in_default : goal.returns-in_default
returns-in_default c =
    let none : c.get.result ≡ None = search rules in
    ap (λ (o : Option ℕ). record c.args.self.now { counts = risen_by_in c.args.ec c.args.n c.args.self.now.counts o }) (sym (sym c.get.ensures ∙ none))

pub index_mut-requires : goal.index_mut-requires
index_mut-requires c =
    let counts : c.args.self.now.counts ≡ c.self.inside.counts.items = search rules in
    let there = sym (ap (λ (cs : List (Option ℕ)). entry (slice_get cs c.args.ec)) counts) ∙ sym c.get.ensures ∙ c.in-Some.is in
    let h = within c.self.inside.counts.items c.args.ec c.in-Some.count there in
    grind (arith, common_steps, h)

pub invariant_of-self : goal.invariant_of-self
invariant_of-self c =
    let counts : c.args.self.now.counts ≡ c.self.inside.counts.items = search rules in
    let there = sym (ap (λ (cs : List (Option ℕ)). entry (slice_get cs c.args.ec)) counts) ∙ sym c.get.ensures ∙ c.in-Some.is in
    (c.self.invariant.0 ∙ sym (numbers_set 0 c.args.ec (c.in-Some.count + c.args.n) c.in-Some.count c.self.inside.counts.items there), c.self.invariant.1)

pub returns : goal.returns
returns c =
    let counts : c.args.self.now.counts ≡ c.self.inside.counts.items = search rules in
    let there = sym c.get.ensures ∙ c.in-Some.is in
    let spare : c.args.self.now.spare ≡ c.self.inside.spare = search rules in
    ap₂ with_spare
    (ap (λ (cs : List (Option ℕ)). slice_set cs c.args.ec (Some (c.in-Some.count + c.args.n))) (sym counts) ∙ ap (risen_by_in c.args.ec c.args.n c.args.self.now.counts) (sym there)) (sym spare)
