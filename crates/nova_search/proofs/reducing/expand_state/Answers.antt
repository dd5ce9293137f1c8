use Rattle.std.proofs.Common.{rules, ◌≡◌, ◌<◌, List, length, subst, sym}
use Rattle.nova_model.specs.State.{KernelState}
use Rattle.nova_search.specs.declared.found.Found.{Found}
use Rattle.nova_search.specs.Searches.{AreLinked, AreOfTurnsBefore, state_at}
use Rattle.nova_search.proofs.Alone.{gone_on, gone_still}
use Rattle.nova_search.proofs.reducing.expand_state.Goals as goal

pub expand_by_one-requires-clause-linked : goal.expand_by_one-requires-clause-linked
expand_by_one-requires-clause-linked g c = c.requires.going.from.linked

pub expand_by_one-requires-clause-own : goal.expand_by_one-requires-clause-own
expand_by_one-requires-clause-own g c = c.requires.going.turns

pub expand_by_one-requires-clause-first : goal.expand_by_one-requires-clause-first
expand_by_one-requires-clause-first g c = c.requires.going.from.first

pub returns-then-branch-clause-going : goal.returns-then-branch-clause-going
returns-then-branch-clause-going g c =
    gone_on g.N.Notes.Touch g.N.Notes.touched (g.N.Notes.noted c.args.notes.now) (g.N.Notes.lone c.args.notes.now) (g.N.Notes.noted c.expand_by_one.new.notes)
    (g.N.Notes.lone c.expand_by_one.new.notes) c.args.merging (c.in_ok-expand_by_one.ensures.stay (search rules)) c.args.opening.now c.args.found.now.items
    c.expand_by_one.new.found.items c.args.place c.args.vertex.now c.requires.going c.requires.place c.requires.here (c.in_ok-expand_by_one.ensures.taken (search rules))

pub expand_by_all-requires-clause-place : goal.expand_by_all-requires-clause-place
expand_by_all-requires-clause-place g c =
    subst (λ (l : List Found). c.args.place < length l) (sym (c.in_ok-expand_by_one.ensures.left (search rules)).0) c.requires.place

pub expand_by_all-requires-clause-here : goal.expand_by_all-requires-clause-here
expand_by_all-requires-clause-here g c =
    subst (λ (l : List Found). (d : KernelState) → state_at l c.args.place d ≡ c.args.vertex.now) (sym (c.in_ok-expand_by_one.ensures.left (search rules)).0) c.requires.here

pub expand_by_all-requires-clause-linked : goal.expand_by_all-requires-clause-linked
expand_by_all-requires-clause-linked g c =
    subst (λ (l : List Found). AreLinked l) (sym (c.in_ok-expand_by_one.ensures.left (search rules)).0) c.requires.going.from.linked

pub expand_by_all-requires-clause-own : goal.expand_by_all-requires-clause-own
expand_by_all-requires-clause-own g c =
    subst (λ (l : List Found). AreOfTurnsBefore l c.args.place 0) (sym (c.in_ok-expand_by_one.ensures.left (search rules)).0) c.requires.going.turns

pub expand_by_all-requires-clause-first : goal.expand_by_all-requires-clause-first
expand_by_all-requires-clause-first g c =
    subst (λ (l : List Found). (d : KernelState) → state_at l 0 d ≡ c.args.opening.now) (sym (c.in_ok-expand_by_one.ensures.left (search rules)).0) c.requires.going.from.first

pub returns-clause-going : goal.returns-clause-going
returns-clause-going g c =
    let left = c.in_ok-expand_by_one.ensures.left (search rules) in
    let there = subst (λ (l : List Found). c.args.place < length l) (sym {A = List Found} left.0) c.requires.place in
    let here = subst (λ (l : List Found). (d : KernelState) → state_at l c.args.place d ≡ c.args.vertex.now) (sym {A = List Found} left.0) c.requires.here in
    gone_on g.N.Notes.Touch g.N.Notes.touched (g.N.Notes.noted c.expand_by_one.new.notes) (g.N.Notes.lone c.expand_by_one.new.notes) (g.N.Notes.noted c.expand_by_all.new.notes)
    (g.N.Notes.lone c.expand_by_all.new.notes) c.args.merging c.in_ok-expand_by_all.ensures.stay c.args.opening.now c.expand_by_one.new.found.items c.expand_by_all.new.found.items
    c.args.place c.args.vertex.now
    (gone_still g.N.Notes.Touch g.N.Notes.touched g.N.Notes.noted g.N.Notes.lone c.args.merging c.args.opening.now c.args.found.now.items c.expand_by_one.new.found.items c.args.place
    c.args.notes.now c.expand_by_one.new.notes left c.requires.going)
    there here c.in_ok-expand_by_all.ensures.taken
