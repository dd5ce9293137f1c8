-- What happens in that run: the reply begins, a page comes with its bytes, and the reply ends; and the premises.
use Rattle.std.proofs.Common.{◌≡◌, ℕ, List, [], ◌∷◌, refl, sym, ap, ◌∙◌}
use Rattle.std.specs.Prelude.{◌&&◌, Bool, true, false, drop, option_and_then, option_map, replicate, take, Option, Some, None}
use Rattle.std.proofs.lemmas.Option.{same_Some}
use Rattle.nova_range.specs.declared.range.Kind.TheVariants.{Mem}
use Rattle.rv_model.specs.Codes.{instr_of}
use Rattle.rv_model.specs.Step.{one}
use Rattle.nova_calls.specs.Hypercalls.{call_of}
use Rattle.nova_model.specs.Choice.{Candidate, choice, in_front, next_to_act}
use Rattle.nova_model.specs.Deeds.{deed}
use Rattle.nova_model.specs.Delegations.{Delegations}
use Rattle.nova_model.specs.Inputs.{input_of}
use Rattle.nova_model.specs.Runs.{after, run}
use Rattle.nova_model.specs.State.{KernelState, no_words}
use Rattle.nova_model.specs.Times.{next_entry}
use Rattle.nova_model.specs.Turn.{charged, turn}
use Rattle.nova_model.specs.declared.deed.Deed.{Deed}
use Rattle.nova_model.specs.declared.deed.Deed.TheVariants.{Gives}
use Rattle.nova_model.specs.declared.delegation.Derivation.{Derivation}
use Rattle.nova_model.specs.declared.context.State.TheVariants.{Exiting, Fresh}
use Rattle.nova_utcb.specs.Messages.{copied, exited}
use Rattle.law_isolation.proofs.Runs.{reached_sound}
use Rattle.law_origins.specs.Giving.{Acts}
use Rattle.law_integrity.specs.Confined.{Of}
use Rattle.law_flow.specs.Flow.{AreAtWorkTimeless, AreRevokingWithin, IsSide, own_turn, fixed}
use Rattle.law_flow.proofs.Deriving.{revoking_itself, within_by}
use Rattle.law_service.specs.Examples.{given_page, paged_tenants, tenant_domain, tenant_objects}
use Rattle.law_service.specs.Service.{AreAdmitted, Begin, ByComputing, ByGift, Enters, Entry, Gift, Happening, IsAdmitted, Own, Part, Return, bytes_of, computes, course, entry_by, entry_in, gift_of, happening_of, if_concerns, if_enters, if_foreign, if_of, is_foreign, is_other, returned}
use Rattle.law_service.proofs.Computing.{quiet_leaves}
use Rattle.law_service.proofs.Deriving.{acted_leaves}
use Rattle.law_service.proofs.Meeting.{none_own, none_within, none_works, own_works, range_there, ranges_there, side_by, walled_by, within_as, works_as}
use Rattle.law_service.proofs.Paging.{acts_10, acts_2, acts_3, acts_4, acts_5, acts_6, acts_7, acts_8, acts_9, at_0, at_1, at_10, at_11, at_12, at_13, at_2, at_3, at_4, at_5, at_6, at_7, at_8, at_9, callers_are, computes_10, computes_2, computes_3, computes_4, computes_5, computes_6, computes_7, computes_8, computes_9, exit_state, fresh_state, no_thread, objects_are, own_0, own_1, own_10, own_11, own_12, own_13, own_2, own_3, own_4, own_5, own_6, own_7, own_8, own_9, ranges_2, ranges_are, semaphores_are, states_are, still_no_thread}

-- THE TURN IN WHICH A PAGE IS GIVEN

abbrev pub begins : Entry
begins = record { gift = Some (Begin 4 10 None); actor = Some 4; payer = None }

-- the page comes with its bytes
abbrev pub gives_with : List (List ℕ) → Entry
gives_with bytes = record { gift = Some (Part 8 given_page bytes); actor = Some 4; payer = None }

abbrev pub ends : Entry
ends = record { gift = Some (Return 4 10 no_words); actor = Some 4; payer = None }

-- page 1, at 0, made of the server's own
abbrev pub child_given : Derivation
child_given = range_there 18 8 Mem 0 0 3 1 (Some 5)

abbrev pair_of : Candidate → ℕ × ℕ
pair_of c = (c.actor, c.sc)

-- it is the turn of handler 4, which 12 pays, and it gives the tenant this page
record GivesPage (k : KernelState) : Type 0 where
  acts : option_map pair_of (next_to_act k 0) ≡ Some (4, 12)
  does : deed k 4 ≡ Gives child_given 2
  foreign : (is_other tenant_domain k 4 && is_foreign tenant_domain k.delegations.list child_given) ≡ true

abbrev built : Option Gift → (actor sc : ℕ) → Option Entry
built g actor sc =
    if_enters (record { gift = option_and_then (if_concerns tenant_domain tenant_objects) g; actor = if_of tenant_objects actor; payer = if_of tenant_objects sc })
    (option_and_then (if_concerns tenant_domain tenant_objects) g) (if_of tenant_objects sc)

paged : (k : KernelState) → GivesPage k → entry_in tenant_domain tenant_objects k 0 ≡ Some (gives_with (take 1 (drop 1 k.memory.ram)))
paged k its = by_next (next_to_act k 0) its.acts
  where
    by_next : (o : Option Candidate) → option_map pair_of o ≡ Some (4, 12) → option_and_then (entry_by tenant_domain tenant_objects k) o ≡ Some (gives_with (take 1 (drop 1 k.memory.ram)))
    by_next None h = absurd (cc)
    by_next (Some c) h =
        let both : pair_of c ≡ (4, 12) = same_Some {A = ℕ × ℕ} (pair_of c) (4, 12) h in
        ap (λ (q : ℕ × ℕ). built (gift_of tenant_domain k q.0 (deed k q.0)) q.0 q.1) both
        ∙ ap (λ (d : Deed). built (gift_of tenant_domain k 4 d) 4 12) its.does
        ∙ ap (λ (t : Bool). built (if_foreign t (Part 8 given_page (bytes_of k.memory.ram given_page))) 4 12) its.foreign

acts_12 : option_map pair_of (next_to_act at_12 0) ≡ Some (4, 12)
unfolding one instr_of call_of choice deed input_of next_entry next_to_act charged turn copied exited returned
acts_12 = refl

does_12 : deed at_12 4 ≡ Gives child_given 2
unfolding one instr_of call_of choice deed input_of next_entry next_to_act charged turn copied exited returned
does_12 = refl

foreign_12 : (is_other tenant_domain at_12 4 && is_foreign tenant_domain at_12.delegations.list child_given) ≡ true
unfolding one instr_of call_of choice deed input_of next_entry next_to_act charged turn copied exited returned
foreign_12 = refl

bytes_at : (k : KernelState) → run k (replicate 12 0) ≡ after (after (after (after (after (after (after (after (after (after (after (after k 0) 0) 0) 0) 0) 0) 0) 0) 0) 0) 0) 0
bytes_at k = refl

abbrev pub gives : Entry
gives = gives_with (take 1 (drop 1 (run at_0 (replicate 12 0)).memory.ram))

-- WHAT HAPPENS

enters_2 : entry_in tenant_domain tenant_objects at_2 0 ≡ None
unfolding one instr_of call_of choice deed input_of next_entry next_to_act charged turn copied exited returned
enters_2 = refl

enters_3 : entry_in tenant_domain tenant_objects at_3 0 ≡ None
unfolding one instr_of call_of choice deed input_of next_entry next_to_act charged turn copied exited returned
enters_3 = refl

enters_4 : entry_in tenant_domain tenant_objects at_4 0 ≡ None
unfolding one instr_of call_of choice deed input_of next_entry next_to_act charged turn copied exited returned
enters_4 = refl

enters_5 : entry_in tenant_domain tenant_objects at_5 0 ≡ None
unfolding one instr_of call_of choice deed input_of next_entry next_to_act charged turn copied exited returned
enters_5 = refl

enters_6 : entry_in tenant_domain tenant_objects at_6 0 ≡ None
unfolding one instr_of call_of choice deed input_of next_entry next_to_act charged turn copied exited returned
enters_6 = refl

enters_7 : entry_in tenant_domain tenant_objects at_7 0 ≡ None
unfolding one instr_of call_of choice deed input_of next_entry next_to_act charged turn copied exited returned
enters_7 = refl

enters_8 : entry_in tenant_domain tenant_objects at_8 0 ≡ None
unfolding one instr_of call_of choice deed input_of next_entry next_to_act charged turn copied exited returned
enters_8 = refl

enters_9 : entry_in tenant_domain tenant_objects at_9 0 ≡ None
unfolding one instr_of call_of choice deed input_of next_entry next_to_act charged turn copied exited returned
enters_9 = refl

enters_10 : entry_in tenant_domain tenant_objects at_10 0 ≡ None
unfolding one instr_of call_of choice deed input_of next_entry next_to_act charged turn copied exited returned
enters_10 = refl

enters_11 : entry_in tenant_domain tenant_objects at_11 0 ≡ Some begins
unfolding one instr_of call_of choice deed input_of next_entry next_to_act charged turn copied exited returned
enters_11 = refl

enters_12 : entry_in tenant_domain tenant_objects at_12 0 ≡ Some gives
enters_12 =
    paged at_12 (record { acts = acts_12; does = does_12; foreign = foreign_12 })
    ∙ ap (λ (k : KernelState). Some (gives_with (take 1 (drop 1 k.memory.ram)))) (sym (bytes_at at_0))

enters_13 : entry_in tenant_domain tenant_objects at_13 0 ≡ Some ends
unfolding one instr_of call_of choice deed input_of next_entry next_to_act charged turn copied exited returned
enters_13 = refl

own_so : (k : KernelState) (ts : List ℕ) (rest : List Happening) → own_turn tenant_domain k 0 ≡ Some (10, 12) → course tenant_domain tenant_objects (after k 0) ts ≡ rest →
    course tenant_domain tenant_objects k (0 ∷ ts) ≡ Own 10 12 ∷ rest
own_so k ts rest own later = ap (λ (o : Option (ℕ × ℕ)). in_front (happening_of o (entry_in tenant_domain tenant_objects k 0)) (course tenant_domain tenant_objects (after k 0) ts)) own ∙ ap (λ (l : List Happening). Own 10 12 ∷ l) later

others_so : (k : KernelState) (ts : List ℕ) (rest : List Happening) (e : Option Entry) → own_turn tenant_domain k 0 ≡ None → entry_in tenant_domain tenant_objects k 0 ≡ e →
    course tenant_domain tenant_objects (after k 0) ts ≡ rest → course tenant_domain tenant_objects k (0 ∷ ts) ≡ in_front (happening_of None e) rest
others_so k ts rest e own enters later =
    ap (λ (o : Option (ℕ × ℕ)). in_front (happening_of o (entry_in tenant_domain tenant_objects k 0)) (course tenant_domain tenant_objects (after k 0) ts)) own
    ∙ ap (λ (o : Option Entry). in_front (happening_of None o) (course tenant_domain tenant_objects (after k 0) ts)) enters
    ∙ ap (in_front (happening_of None e)) later

abbrev left_13 : List Happening
left_13 = Enters ends ∷ []

abbrev left_12 : List Happening
left_12 = Enters gives ∷ left_13

abbrev left_2 : List Happening
left_2 = Enters begins ∷ left_12

course_13 : course tenant_domain tenant_objects at_13 (replicate 1 0) ≡ left_13
course_13 = others_so at_13 [] [] (Some ends) own_13 enters_13 refl

course_12 : course tenant_domain tenant_objects at_12 (replicate 2 0) ≡ left_12
course_12 = others_so at_12 (replicate 1 0) left_13 (Some gives) own_12 enters_12 course_13

course_11 : course tenant_domain tenant_objects at_11 (replicate 3 0) ≡ left_2
course_11 = others_so at_11 (replicate 2 0) left_12 (Some begins) own_11 enters_11 course_12

course_10 : course tenant_domain tenant_objects at_10 (replicate 4 0) ≡ left_2
course_10 = others_so at_10 (replicate 3 0) left_2 None own_10 enters_10 course_11

course_9 : course tenant_domain tenant_objects at_9 (replicate 5 0) ≡ left_2
course_9 = others_so at_9 (replicate 4 0) left_2 None own_9 enters_9 course_10

course_8 : course tenant_domain tenant_objects at_8 (replicate 6 0) ≡ left_2
course_8 = others_so at_8 (replicate 5 0) left_2 None own_8 enters_8 course_9

course_7 : course tenant_domain tenant_objects at_7 (replicate 7 0) ≡ left_2
course_7 = others_so at_7 (replicate 6 0) left_2 None own_7 enters_7 course_8

course_6 : course tenant_domain tenant_objects at_6 (replicate 8 0) ≡ left_2
course_6 = others_so at_6 (replicate 7 0) left_2 None own_6 enters_6 course_7

course_5 : course tenant_domain tenant_objects at_5 (replicate 9 0) ≡ left_2
course_5 = others_so at_5 (replicate 8 0) left_2 None own_5 enters_5 course_6

course_4 : course tenant_domain tenant_objects at_4 (replicate 10 0) ≡ left_2
course_4 = others_so at_4 (replicate 9 0) left_2 None own_4 enters_4 course_5

course_3 : course tenant_domain tenant_objects at_3 (replicate 11 0) ≡ left_2
course_3 = others_so at_3 (replicate 10 0) left_2 None own_3 enters_3 course_4

course_2 : course tenant_domain tenant_objects at_2 (replicate 12 0) ≡ left_2
course_2 = others_so at_2 (replicate 11 0) left_2 None own_2 enters_2 course_3

pub courses : course tenant_domain tenant_objects at_0 (replicate 14 0) ≡ Own 10 12 ∷ Own 10 12 ∷ Enters begins ∷ Enters gives ∷ Enters ends ∷ []
courses = own_so at_0 (replicate 13 0) (Own 10 12 ∷ left_2) own_0 (own_so at_1 (replicate 12 0) left_2 own_1 course_2)

-- RANGES STAY

ranges_after : (k : KernelState) → Acts k 0 4 → computes (deed k 4) ≡ true → k.delegations.list ≡ ranges_there → (after k 0).delegations.list ≡ ranges_there
ranges_after k acts_ quiet ranges = ap (λ (f : Delegations). f.list) (acted_leaves k 0 4 acts_ (quiet_leaves k 4 (deed k 4) quiet)) ∙ ranges

ranges_3 : at_3.delegations.list ≡ ranges_there
ranges_3 = ranges_after at_2 acts_2 computes_2 ranges_2

ranges_4 : at_4.delegations.list ≡ ranges_there
ranges_4 = ranges_after at_3 acts_3 computes_3 ranges_3

ranges_5 : at_5.delegations.list ≡ ranges_there
ranges_5 = ranges_after at_4 acts_4 computes_4 ranges_4

ranges_6 : at_6.delegations.list ≡ ranges_there
ranges_6 = ranges_after at_5 acts_5 computes_5 ranges_5

ranges_7 : at_7.delegations.list ≡ ranges_there
ranges_7 = ranges_after at_6 acts_6 computes_6 ranges_6

ranges_8 : at_8.delegations.list ≡ ranges_there
ranges_8 = ranges_after at_7 acts_7 computes_7 ranges_7

ranges_9 : at_9.delegations.list ≡ ranges_there
ranges_9 = ranges_after at_8 acts_8 computes_8 ranges_8

ranges_10 : at_10.delegations.list ≡ ranges_there
ranges_10 = ranges_after at_9 acts_9 computes_9 ranges_9

-- THE PREMISES

pub side : IsSide at_0 (Of tenant_domain) (Of tenant_objects)
side = side_by at_0 (record { objects = objects_are; ranges = ranges_are; states = states_are; callers = callers_are; semaphores = semaphores_are })

pub revoking : AreRevokingWithin at_0 at_0 (Of tenant_domain)
revoking = revoking_itself at_0 (Of tenant_domain) (reached_sound paged_tenants (replicate 59 0)) (within_by at_0 tenant_domain ranges_there ranges_are refl)

pub works : AreAtWorkTimeless (fixed false) tenant_domain at_0 (replicate 14 0)
works = (
  own_works at_0 own_0 (works_as at_0 Fresh fresh_state refl refl (λ handler is. cc) no_thread),
  (own_works at_1 own_1 (works_as at_1 (Exiting 0 0 0) exit_state refl refl (λ handler is. cc) still_no_thread), (none_works at_2 0 own_2, (none_works at_3 0 own_3, (none_works at_4 0 own_4, (none_works at_5 0 own_5, (none_works at_6 0 own_6, (none_works at_7 0 own_7, (none_works at_8 0 own_8, (none_works at_9 0 own_9, (none_works at_10 0 own_10, (none_works at_11 0 own_11, (none_works at_12 0 own_12, (none_works at_13 0 own_13, tt))))))))))))),
)

by_computing : (k : KernelState) → Acts k 0 4 → computes (deed k 4) ≡ true → k.delegations.list ≡ ranges_there → IsAdmitted k tenant_domain tenant_objects 0
by_computing k acts_ quiet ranges = ByComputing 4 acts_ quiet (walled_by k 4 ranges)

pub admitted : AreAdmitted tenant_domain tenant_objects at_0 (replicate 14 0)
admitted = (
  λ none. none_own at_0 own_0 none,
  within_as at_0 Fresh fresh_state refl own_0,
  (
    λ none. none_own at_1 own_1 none,
    within_as at_1 (Exiting 0 0 0) exit_state refl own_1,
    (λ none. by_computing at_2 acts_2 computes_2 ranges_2, none_within at_2 0 own_2, (λ none. by_computing at_3 acts_3 computes_3 ranges_3, none_within at_3 0 own_3, (λ none. by_computing at_4 acts_4 computes_4 ranges_4, none_within at_4 0 own_4, (λ none. by_computing at_5 acts_5 computes_5 ranges_5, none_within at_5 0 own_5, (λ none. by_computing at_6 acts_6 computes_6 ranges_6, none_within at_6 0 own_6, (λ none. by_computing at_7 acts_7 computes_7 ranges_7, none_within at_7 0 own_7, (λ none. by_computing at_8 acts_8 computes_8 ranges_8, none_within at_8 0 own_8, (λ none. by_computing at_9 acts_9 computes_9 ranges_9, none_within at_9 0 own_9, (λ none. by_computing at_10 acts_10 computes_10 ranges_10, none_within at_10 0 own_10, (λ none. ByGift begins enters_11 refl, none_within at_11 0 own_11, (λ none. ByGift gives enters_12 refl, none_within at_12 0 own_12, (λ none. ByGift ends enters_13 refl, none_within at_13 0 own_13, tt)))))))))))),
  ),
)
