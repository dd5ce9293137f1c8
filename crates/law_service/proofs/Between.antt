-- The same, with a turn of the other tenant's between the first one's exit and the server's answer: a stranger.
use Rattle.std.proofs.Common.{◌≡◌, ℕ, List, [], ◌∷◌, refl, sym, ap, ◌∙◌, subst, inl, inr}
use Rattle.std.specs.Prelude.{Contains, None, Option, Some, false, slice_get, true, ◌==◌}
use Rattle.std.specs.List.{AllByRecursion}
use Rattle.std.proofs.lemmas.Option.{same_Some}
use Rattle.rv_model.specs.Codes.{instr_of}
use Rattle.rv_model.specs.Step.{one}
use Rattle.nova_calls.specs.Hypercalls.{call_of}
use Rattle.nova_objects.specs.declared.object.Object.{Object}
use Rattle.nova_range.specs.declared.range.Kind.TheVariants.{Obj}
use Rattle.nova_model.specs.Choice.{choice, choose, next_to_act}
use Rattle.nova_model.specs.Deeds.{deed}
use Rattle.nova_model.specs.Inputs.{input_of}
use Rattle.nova_model.specs.Lines.{line}
use Rattle.nova_model.specs.Runs.{after}
use Rattle.nova_model.specs.State.{KernelState, context, pd_of}
use Rattle.nova_model.specs.Times.{next_entry}
use Rattle.nova_model.specs.Turn.{charged, turn}
use Rattle.nova_model.specs.declared.context.Mark.{Mark}
use Rattle.nova_model.specs.declared.context.State.TheVariants.{Fresh, Granting}
use Rattle.nova_model.specs.declared.delegation.Derivation.{Derivation}
use Rattle.nova_utcb.specs.Messages.{copied, exited}
use Rattle.law_forest.proofs.Members.{IsIn, all_at, in_from_contains}
use Rattle.law_origins.specs.Giving.{Acts}
use Rattle.law_integrity.specs.Confined.{Of}
use Rattle.law_flow.specs.Flow.{AreAtWorkTimeless, own_turn, fixed}
use Rattle.law_flow.proofs.Looking.{no}
use Rattle.law_service.specs.Examples.{tenant_domain, tenant_objects}
use Rattle.law_service.specs.Service.{AreAdmitted, ByComputing, ByGift, ByStranger, Enters, IsStrange, IsStranger, Own, computes, course, entry_in, returned}
use Rattle.law_service.proofs.Meeting.{first, first_within, first_works, none_own, none_within, none_works, objects_there, own_first, own_second, own_works, range_there, ranges_there, reply, second, second_within, second_works, third, walled_by}

abbrev beyond : KernelState
beyond = after third 1

abbrev later : KernelState
later = after beyond 0

own_none : own_turn tenant_domain third 1 ≡ None
unfolding one instr_of call_of choice deed input_of next_entry next_to_act charged turn
own_none = refl

acts_other : Acts third 1 11
unfolding one instr_of call_of choice deed input_of next_entry next_to_act charged turn
acts_other = refl

ranges_beyond : beyond.delegations.list ≡ ranges_there
unfolding one instr_of call_of choice deed input_of next_entry charged turn
ranges_beyond = refl

own_beyond : own_turn tenant_domain beyond 0 ≡ None
unfolding one instr_of call_of choice deed input_of next_entry next_to_act charged turn
own_beyond = refl

acts_beyond : Acts beyond 0 4
unfolding one instr_of call_of choice deed input_of next_entry next_to_act charged turn
acts_beyond = refl

steps_beyond : computes (deed beyond 4) ≡ true
unfolding one instr_of call_of choice deed input_of next_entry charged turn
steps_beyond = refl

own_later : own_turn tenant_domain later 0 ≡ None
unfolding one instr_of call_of choice deed input_of next_entry next_to_act charged turn
own_later = refl

enters_later : entry_in tenant_domain tenant_objects later 0 ≡ Some reply
unfolding one instr_of call_of choice deed input_of next_entry next_to_act charged turn copied exited returned
enters_later = refl

pub courses_between : course tenant_domain tenant_objects first (0 ∷ 0 ∷ 1 ∷ 0 ∷ 0 ∷ []) ≡ Own 10 12 ∷ Own 10 12 ∷ Enters reply ∷ []
unfolding one instr_of call_of choice deed input_of next_entry next_to_act charged turn copied exited returned
courses_between = refl

-- THE OTHER TENANT

other_domain : pd_of third 11 ≡ 9
unfolding one instr_of call_of choice deed input_of next_entry charged turn
other_domain = refl

other_objects : third.objects ≡ objects_there
unfolding one instr_of call_of choice deed input_of next_entry charged turn
other_objects = refl

other_ranges : third.delegations.list ≡ ranges_there
unfolding one instr_of call_of choice deed input_of next_entry charged turn
other_ranges = refl

other_caller : (context third 11).caller ≡ None
unfolding one instr_of call_of choice deed input_of next_entry charged turn
other_caller = refl

other_state : (context third 11).state ≡ Fresh
unfolding one instr_of call_of choice deed input_of next_entry charged turn
other_state = refl

other_payer : choose third 1 ≡ Some 13
unfolding one instr_of call_of choice deed input_of next_entry charged turn
other_payer = refl

-- what it holds is strange to the part, and none of its is above what the side holds
abbrev Strange : Derivation → Type 0
Strange d = d.pd ≡ 9 → IsStrange (Of tenant_domain) (Of tenant_objects) d.target (slice_get objects_there d.target)

away : {A : Type 0} (n : ℕ) → n ≡ 9 → (n == 9) ≡ false → A
away n h none = no (sym none ∙ ap (λ (m : ℕ). m == 9) h)

all_strange : AllByRecursion Strange ranges_there
all_strange = (λ h. away 0 h refl, (λ h. away 0 h refl, (λ h. away 0 h refl, (λ h. away 0 h refl, (λ h. away 0 h refl, (λ h. away 3 h refl, (λ h. away 0 h refl, (λ h. away 0 h refl, (λ h. away 0 h refl, (λ h. away 0 h refl, (λ h. away 0 h refl, (λ h. away 8 h refl, (λ h. away 0 h refl, (λ h. (λ p. no p, λ p. no p), (λ h. away 0 h refl, (λ h. away 0 h refl, (λ h. away 0 h refl, (λ h. away 0 h refl, tt))))))))))))))))))

abbrev Below : Derivation → Type 0
Below d = tenant_domain d.pd ≡ true → (a : Derivation) → Contains (line ranges_there d) a → a.pd ≡ 9 → ⊥

above : (a : Derivation) → Contains (range_there 11 8 Obj 64 0 4 6 (Some 8) ∷ range_there 8 0 Obj 64 0 7 6 None ∷ []) a → a.pd ≡ 9 → ⊥
above a c nine = by_place (in_from_contains (range_there 11 8 Obj 64 0 4 6 (Some 8) ∷ range_there 8 0 Obj 64 0 7 6 None ∷ []) a c)
  where
    by_place : IsIn (range_there 11 8 Obj 64 0 4 6 (Some 8) ∷ range_there 8 0 Obj 64 0 7 6 None ∷ []) a → ⊥
    by_place (inl is) = away 8 (ap (λ (x : Derivation). x.pd) is ∙ nine) refl
    by_place (inr (inl is)) = away 0 (ap (λ (x : Derivation). x.pd) is ∙ nine) refl
    by_place (inr (inr never)) = absurd never

all_below : AllByRecursion Below ranges_there
all_below = (λ h. no h, (λ h. no h, (λ h. no h, (λ h. no h, (λ h. no h, (λ h. no h, (λ h. no h, (λ h. no h, (λ h. no h, (λ h. no h, (λ h. no h, (λ h a c nine. above a c nine, (λ h. no h, (λ h. no h, (λ h. no h, (λ h. no h, (λ h. no h, (λ h. no h, tt))))))))))))))))))

listed : (d : Derivation) → Contains third.delegations.list d → IsIn ranges_there d
listed d there = in_from_contains ranges_there d (subst (λ (l : List Derivation). Contains l d) other_ranges there)

stranger : IsStranger third (Of tenant_domain) (Of tenant_objects) 1 11
stranger = record {
  itself = λ p. no p;
  domain = λ s. no (sym (ap tenant_domain other_domain) ∙ s);
  holds = λ d there its kind.
      subst (λ (os : List Object). IsStrange (Of tenant_domain) (Of tenant_objects) d.target (slice_get os d.target)) (sym other_objects)
      (all_at Strange ranges_there d all_strange (listed d there) (its ∙ other_domain));
  serves = λ caller mark is. absurd (let both : ◌≡◌ {A = Option (ℕ × Mark)} None (Some (caller, mark)) = sym other_caller ∙ is in cc);
  firsts = λ domain is s. absurd (let both : Fresh ≡ Granting (Some domain) = sym other_state ∙ is in cc);
  lines = λ revokes d a there s c held.
      all_at Below ranges_there d all_below (listed d there) s a (subst (λ (l : List Derivation). Contains (line l d) a) other_ranges c) (held ∙ other_domain);
  memory = walled_by third 11 other_ranges;
  payer = λ sc is p. no (subst (λ (n : ℕ). tenant_objects n ≡ true) (sym (same_Some 13 sc (sym other_payer ∙ is))) p);
}

pub admitted_between : AreAdmitted tenant_domain tenant_objects first (0 ∷ 0 ∷ 1 ∷ 0 ∷ 0 ∷ [])
admitted_between = (
  λ none. none_own first own_first none,
  first_within,
  (
    λ none. none_own second own_second none,
    second_within,
    (
      λ none. ByStranger 11 acts_other stranger,
      none_within third 1 own_none,
      (λ none. ByComputing 4 acts_beyond steps_beyond (walled_by beyond 4 ranges_beyond), none_within beyond 0 own_beyond, (λ none. ByGift reply enters_later refl, none_within later 0 own_later, tt)),
    ),
  ),
)

pub works_between : AreAtWorkTimeless (fixed false) tenant_domain first (0 ∷ 0 ∷ 1 ∷ 0 ∷ 0 ∷ [])
works_between = (
  own_works first own_first first_works,
  (own_works second own_second second_works, (none_works third 1 own_none, (none_works beyond 0 own_beyond, (none_works later 0 own_later, tt)))),
)
