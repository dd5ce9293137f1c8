use Rattle.std.proofs.Common.{rules, arith, ◌≡◌, ◌≤◌, min, refl, subst}
use Rattle.nova_burst.specs.Lending.{LeaseView, StemsFrom, left_in}
use Rattle.nova_burst.proofs.Stemming.{must_stop, stems_on}
use Rattle.nova_burst.proofs.lent.Lease.run.Goals as goal

pub returns-clause-stems : goal.returns-clause-stems
returns-clause-stems c =
    let l : LeaseView = record {
      run = record { cpu = c.self.inside.cpu; guest = c.self.inside.guest; kept = c.self.inside.kept; left = c.self.inside.left; steps = c.self.inside.steps };
      known = c.self.inside.known.items;
    } in
    let m : LeaseView = record { run = record l.run { steps = c.run_on.new.steps }; known = c.run_on.new.known.items } in
    let is : c.args.self.now ≡ l = search rules in
    let within : c.run_on.new.steps.count ≤ c.self.inside.left = search rules in
    λ k s. stems_on l m c.run_on.result k (record { cpu = refl; guest = refl; kept = refl; left = refl; known = c.run_on.ensures.known }) c.run_on.ensures.count within c.run_on.ensures.ran
    (subst (λ (x : LeaseView). StemsFrom x k) is s)

pub returns-clause-fewer : goal.returns-clause-fewer
returns-clause-fewer c =
    let l : LeaseView = record {
      run = record { cpu = c.self.inside.cpu; guest = c.self.inside.guest; kept = c.self.inside.kept; left = c.self.inside.left; steps = c.self.inside.steps };
      known = c.self.inside.known.items;
    } in
    let m : LeaseView = record { run = record l.run { steps = c.run_on.new.steps }; known = c.run_on.new.known.items } in
    let is : c.args.self.now ≡ l = search rules in
    let within : c.run_on.new.steps.count ≤ c.self.inside.left = search rules in
    let most : min c.args.most (left_in c.args.self.now) ≡ c.min.result = search rules in
    λ less k s. must_stop m k
    (stems_on l m c.run_on.result k (record { cpu = refl; guest = refl; kept = refl; left = refl; known = c.run_on.ensures.known }) c.run_on.ensures.count within c.run_on.ensures.ran
    (subst (λ (x : LeaseView). StemsFrom x k) is s))
    (c.run_on.ensures.fewer (omega (arith, less, most)))
