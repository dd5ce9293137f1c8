use Rattle.std.proofs.Common.{rules, ◌≡◌, ◌≤◌, ◌/◌, ◌++◌, ◌∷◌, [], List, length, sym, subst, inr}
use Rattle.nova_recording.specs.Copies.{size_of, sizes_of}
use Rattle.nova_recording.specs.declared.copies.Kept.{Kept}
use Rattle.nova_recording.proofs.Copied.{more_no_larger, within_most}
use Rattle.nova_recording.proofs.copies.Copies.add.Goals as goal

pub invariant_of-self : goal.invariant_of-self
invariant_of-self c =
    let items : c.push.new.self.items ≡ c.self.inside.kept.items ++ c.args.kept ∷ [] = c.in_ok-push.ensures.items in
    let few : length c.push.new.self.items ≤ c.self.inside.most / c.self.inside.each = search rules in
    let size : size_of c.args.kept.kernel.state ≤ c.self.inside.each = search rules in
    (c.self.invariant.0, (few, more_no_larger c.self.inside.each c.self.inside.kept.items c.push.new.self.items c.args.kept (inr items) size c.self.invariant.1.1))

pub returns-in_err-push-clause-within : goal.returns-in_err-push-clause-within
returns-in_err-push-clause-within c =
    let items : c.push.new.self.items ≡ c.self.inside.kept.items = c.in_err-push.ensures.items in
    subst (λ (kept : List Kept). sizes_of kept ≤ c.self.inside.most) (sym items)
    (within_most c.self.inside.each c.self.inside.most c.self.inside.kept.items c.self.invariant.0 c.self.invariant.1.0 c.self.invariant.1.1)

pub returns-in_ok-push-clause-within : goal.returns-in_ok-push-clause-within
returns-in_ok-push-clause-within c =
    let items : c.push.new.self.items ≡ c.self.inside.kept.items ++ c.args.kept ∷ [] = c.in_ok-push.ensures.items in
    let few : length c.push.new.self.items ≤ c.self.inside.most / c.self.inside.each = search rules in
    let size : size_of c.args.kept.kernel.state ≤ c.self.inside.each = search rules in
    within_most c.self.inside.each c.self.inside.most c.push.new.self.items c.self.invariant.0 few
    (more_no_larger c.self.inside.each c.self.inside.kept.items c.push.new.self.items c.args.kept (inr items) size c.self.invariant.1.1)

pub returns-else-len-self-clause-within : goal.returns-else-len-self-clause-within
returns-else-len-self-clause-within c =
    within_most c.self.inside.each c.self.inside.most c.self.inside.kept.items c.self.invariant.0 c.self.invariant.1.0 c.self.invariant.1.1
