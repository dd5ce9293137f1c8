use Rattle.std.proofs.Common.{sym, subst}
use Rattle.law_renaming.specs.Verdicts.{IsVerdict}
use Rattle.nova_twin.proofs.Admitted.{admitted, known}
use Rattle.nova_twin.proofs.Answering.{ok_so, side_ends, side_holds}
use Rattle.nova_twin.proofs.comparing.compare.Goals as goal

pub passed-requires-clause-first : goal.passed-requires-clause-first
passed-requires-clause-first c = admitted c.args.a.now _ (known c.virtual_cpus_are_guests_alone_from_their_birth.ensures c.args.a.now c.requires.first)

pub passed-requires-clause-second : goal.passed-requires-clause-second
passed-requires-clause-second c = admitted c.args.b.now _ (known c.virtual_cpus_are_guests_alone_from_their_birth.ensures c.args.b.now c.requires.second)

pub returns-clause-renaming : goal.returns-clause-renaming
returns-clause-renaming c =
    let lives = c.virtual_cpus_are_guests_alone_from_their_birth.ensures in
    let pass = c.one_pass_compares.ensures in
    let forced = c.renamings_are_forced.ensures in
    ok_so _ _ c.passed.result
    (λ v is s t. side_holds c.args.a.now c.args.b.now _ _ (known lives c.args.a.now s) (known lives c.args.b.now t)
    forced.enough forced.found c.forced_pairs_take_ram_to_ram.ensures c.stores_of_others_name_no_pair.ensures pass.pairs v
    (subst (IsVerdict c.args.a.now.start c.args.b.now.start c.args.a.now.inputs.items c.args.b.now.inputs.items) (sym is) (pass.holds c.args.a.now.start c.args.b.now.start c.args.a.now.inputs.items c.args.b.now.inputs.items)) is)
    c.passed.ensures

pub returns-clause-ends : goal.returns-clause-ends
returns-clause-ends c =
    let lives = c.virtual_cpus_are_guests_alone_from_their_birth.ensures in
    let pass = c.one_pass_compares.ensures in
    let ends = c.renamed_inputs_end_renamed.ensures in
    ok_so _ _ c.passed.result
    (λ v is. side_ends c.args.a.now c.args.b.now _ _ (known lives c.args.a.now c.requires.first) (known lives c.args.b.now c.requires.second)
    c.inputs_of_turns_fit.ensures ends.guests ends.outs v
    (subst (IsVerdict c.args.a.now.start c.args.b.now.start c.args.a.now.inputs.items c.args.b.now.inputs.items) (sym is) (pass.holds c.args.a.now.start c.args.b.now.start c.args.a.now.inputs.items c.args.b.now.inputs.items)))
    c.passed.ensures
