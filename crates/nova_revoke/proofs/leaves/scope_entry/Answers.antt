use Rattle.std.proofs.Common.{rules, ◌≡◌, arith, true, false}
use Rattle.std.specs.Prelude.{Some, None}
use Rattle.nova_range.specs.Ranges.{end_of}
use Rattle.nova_model.specs.Delegations.{range_of, first_from}
use Rattle.nova_model.specs.Revokes.{is_entry}
use Rattle.law_forest.proofs.Members.{contains_from_in}
use Rattle.nova_revoke.proofs.Entries.{next_facts, passed, found, ended, goes_on}
use Rattle.nova_revoke.proofs.leaves.scope_entry.Goals as goal

pub is_entry-requires-clause-there : goal.is_entry-requires-clause-there
is_entry-requires-clause-there g c =
    let f = c.args.nodes.now.delegations in
    let first : first_from f.list c.args.revoke.now.range.kind c.args.revoke.now.pd c.loop-d.place ≡ Some c.in-Some.d = search rules in
    let next = next_facts c.args.revoke.now f c.next_held.ensures.sound.forest c.loop-d.place c.in-Some.d c.loop-d.invariant.before first in
    contains_from_in f.list c.in-Some.d next.there

pub is_entry-requires-clause-pd : goal.is_entry-requires-clause-pd
is_entry-requires-clause-pd g c =
    let f = c.args.nodes.now.delegations in
    let first : first_from f.list c.args.revoke.now.range.kind c.args.revoke.now.pd c.loop-d.place ≡ Some c.in-Some.d = search rules in
    let next = next_facts c.args.revoke.now f c.next_held.ensures.sound.forest c.loop-d.place c.in-Some.d c.loop-d.invariant.before first in
    next.pd

pub returns-then-is_entry-clause-found : goal.returns-then-is_entry-clause-found
returns-then-is_entry-clause-found g c =
    let f = c.args.nodes.now.delegations in
    let first : first_from f.list c.args.revoke.now.range.kind c.args.revoke.now.pd c.loop-d.place ≡ Some c.in-Some.d = search rules in
    let next = next_facts c.args.revoke.now f c.next_held.ensures.sound.forest c.loop-d.place c.in-Some.d c.loop-d.invariant.before first in
    let here : is_entry c.args.revoke.now f.list c.in-Some.d ≡ true = search rules in
    found c.args.revoke.now f c.next_held.ensures.sound.forest c.loop-d.place c.in-Some.d next here

pub loop-d-smaller : goal.loop-d-smaller
loop-d-smaller g c =
    let f = c.args.nodes.now.delegations in
    let first : first_from f.list c.args.revoke.now.range.kind c.args.revoke.now.pd c.loop-d.place ≡ Some c.in-Some.d = search rules in
    let next = next_facts c.args.revoke.now f c.next_held.ensures.sound.forest c.loop-d.place c.in-Some.d c.loop-d.invariant.before first in
    let end : c.end-place.result ≡ end_of (range_of c.in-Some.d) = search rules in
    let most = goes_on c.args.revoke.now f c.loop-d.place c.in-Some.d next c.in-Some.ensures.placed.range in
    let holds = next.holds in
    omega arith

pub loop-d-preserved : goal.loop-d-preserved
loop-d-preserved g c =
    let f = c.args.nodes.now.delegations in
    let first : first_from f.list c.args.revoke.now.range.kind c.args.revoke.now.pd c.loop-d.place ≡ Some c.in-Some.d = search rules in
    let next = next_facts c.args.revoke.now f c.next_held.ensures.sound.forest c.loop-d.place c.in-Some.d c.loop-d.invariant.before first in
    let end : c.end-place.result ≡ end_of (range_of c.in-Some.d) = search rules in
    let most = goes_on c.args.revoke.now f c.loop-d.place c.in-Some.d next c.in-Some.ensures.placed.range in
    let other : is_entry c.args.revoke.now f.list c.in-Some.d ≡ false = search rules in
    let past = passed c.args.revoke.now f c.next_held.ensures.sound.forest c.loop-d.place c.in-Some.d c.loop-d.invariant.before next other in
    record { before = λ a i h. rw end (past a i h); place = rw end most }

pub returns-clause-found : goal.returns-clause-found
returns-clause-found g c =
    let f = c.args.nodes.now.delegations in
    let none : first_from f.list c.args.revoke.now.range.kind c.args.revoke.now.pd c.loop-d.place ≡ None = search rules in
    ended c.args.revoke.now f c.next_held.ensures.sound.forest c.loop-d.place c.loop-d.invariant.before none
