use Rattle.std.proofs.Common.{rules, ◌≡◌, ◌∙◌, List, Bool, ap, ap₂}
use Rattle.std.specs.Option.{option_or}
use Rattle.nova_model.specs.declared.delegation.Derivation.{Derivation}
use Rattle.nova_flowing.specs.Leaks.{when}
use Rattle.nova_flowing.specs.Premises.{others_of, own_of}
use Rattle.nova_flowing.specs.Tests.{is_derived, is_in, is_written}
use Rattle.nova_flowing.specs.declared.leak.Field.TheVariants as field
use Rattle.nova_flowing.proofs.leaks.guarded_by.Goals as goal

pub returns : goal.returns
returns c =
    let list = c.args.kernel.now.state.delegations.list in
    let first : c.deref.result.now ≡ c.args.v.now.own.items = search rules in
    let second : c.deref-2.result.now ≡ c.args.v.now.others.items = search rules in
    let third : c.deref-3.result.now ≡ c.args.v.now.own.items = search rules in
    let fourth : c.deref-4.result.now ≡ c.args.v.now.others.items = search rules in
    let derived : c.is_derived-derived.result ≡ is_derived list (own_of c.args.v.now) (others_of c.args.v.now) c.args.d =
    c.is_derived-derived.ensures ∙ ap (λ (l : List Derivation). is_derived l (is_in c.deref.result.now) (is_in c.deref-2.result.now) c.args.d) c.requires.list
    ∙ ap₂ (λ (x y : List Bool). is_derived list (is_in x) (is_in y) c.args.d) first second in
    let written : c.is_written-written.result ≡ is_written list (own_of c.args.v.now) (others_of c.args.v.now) c.args.d =
    c.is_written-written.ensures ∙ ap (λ (l : List Derivation). is_written l (is_in c.deref-3.result.now) (is_in c.deref-4.result.now) c.args.d) c.requires.list
    ∙ ap₂ (λ (x y : List Bool). is_written list (is_in x) (is_in y) c.args.d) third fourth in
    c.or.ensures ∙ ap₂ option_or (c.when.ensures ∙ ap₂ (λ t l. when t field.Lines l) derived c.at_cap.ensures) (c.when-2.ensures ∙ ap₂ (λ t l. when t field.Memory l) written c.at_cap-2.ensures)
