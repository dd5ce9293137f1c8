-- The run of `served.nova`: after turn 127 it is within the policy.
use Rattle.std.proofs.Common.{◌≡◌, ◌≢◌, ℕ, List, [], ◌∷◌, refl, sym, ap, ◌∙◌, subst, inl, inr}
use Rattle.std.specs.Prelude.{Contains, replicate, slice_get, Option, Some, None}
use Rattle.std.specs.List.{AllByRecursion}
use Rattle.rv_model.specs.Codes.{instr_of}
use Rattle.rv_model.specs.Step.{one}
use Rattle.nova_calls.specs.Hypercalls.{call_of}
use Rattle.nova_objects.specs.declared.object.EcKind.TheVariants.{Global, Local, Vcpu}
use Rattle.nova_objects.specs.declared.object.Object.{Object}
use Rattle.nova_objects.specs.declared.object.Object.TheVariants.{Pd, Ec, Sc, Pt, Sm}
use Rattle.nova_range.specs.declared.range.Kind.TheVariants.{Mem, Obj}
use Rattle.nova_model.specs.Boot.{boot}
use Rattle.nova_model.specs.Choice.{choice, next_to_act}
use Rattle.nova_model.specs.Deeds.{deed}
use Rattle.nova_model.specs.Inputs.{input_of}
use Rattle.nova_model.specs.Runs.{run}
use Rattle.nova_model.specs.State.{KernelState}
use Rattle.nova_model.specs.Times.{next_entry}
use Rattle.nova_model.specs.Turn.{charged, turn}
use Rattle.nova_model.specs.declared.context.State.{State}
use Rattle.nova_model.specs.declared.context.State.TheVariants.{Dead, Fresh, Parked}
use Rattle.nova_model.specs.declared.delegation.Derivation.{Derivation}
use Rattle.law_forest.proofs.Members.{all_at, in_from_contains}
use Rattle.law_origins.specs.Giving.{Acts}
use Rattle.law_integrity.specs.Confined.{IsMember, IsOwned}
use Rattle.law_integrity.specs.Examples.{served, sides_served}
use Rattle.law_integrity.specs.Trusted.{IsWithinPolicy, MayHold, OrTrusted, unshared}
use Rattle.law_integrity.proofs.Meeting.{AreCalm, Shows, all_calm, no_edge, no_first, no_taking, no_wait}

-- objects, derivations and states after turn 127
abbrev objects : List Object
objects =
    Pd ∷ Ec 0 0 Global 16 ∷ Sc 1 0 2 10 ∷ Ec 0 0 Local 0 ∷ Pd ∷ Ec 4 0 Local 0 ∷ Pt 5 0 8192 ∷ Pt 3 6 1024 ∷ Pd ∷ Ec 8 0 Vcpu 64 ∷ Sc 9 0 1 5 ∷ Pd ∷ Ec 11 0 Local 0 ∷ Pt 12 0 16384 ∷ Pt 3 6 1024 ∷ Pd ∷ Ec 15 0 Vcpu 80 ∷ Sc 16 0 1 5 ∷ []

abbrev list : List Derivation
list =
    record { id = 0; pd = 0; kind = Mem; base = 0; order = 3; rights = record { 0 = 7 }; target = 0; parent = None } ∷
    record { id = 1; pd = 0; kind = Mem; base = 8; order = 0; rights = record { 0 = 3 }; target = 8; parent = None } ∷
    record { id = 2; pd = 0; kind = Obj; base = 0; order = 0; rights = record { 0 = 1 }; target = 0; parent = None } ∷
    record { id = 3; pd = 0; kind = Obj; base = 1; order = 0; rights = record { 0 = 7 }; target = 1; parent = None } ∷
    record { id = 4; pd = 0; kind = Obj; base = 2; order = 0; rights = record { 0 = 1 }; target = 2; parent = None } ∷
    record { id = 5; pd = 0; kind = Obj; base = 32; order = 0; rights = record { 0 = 7 }; target = 3; parent = None } ∷
    record { id = 6; pd = 0; kind = Obj; base = 40; order = 0; rights = record { 0 = 1 }; target = 4; parent = None } ∷
    record { id = 7; pd = 4; kind = Mem; base = 2; order = 1; rights = record { 0 = 7 }; target = 2; parent = Some 0 } ∷
    record { id = 8; pd = 0; kind = Obj; base = 41; order = 0; rights = record { 0 = 7 }; target = 5; parent = None } ∷
    record { id = 9; pd = 0; kind = Obj; base = 64; order = 0; rights = record { 0 = 7 }; target = 6; parent = None } ∷
    record { id = 10; pd = 0; kind = Obj; base = 70; order = 0; rights = record { 0 = 7 }; target = 7; parent = None } ∷
    record { id = 11; pd = 0; kind = Obj; base = 42; order = 0; rights = record { 0 = 1 }; target = 8; parent = None } ∷
    record { id = 12; pd = 8; kind = Obj; base = 64; order = 0; rights = record { 0 = 4 }; target = 6; parent = Some 9 } ∷
    record { id = 13; pd = 8; kind = Obj; base = 70; order = 0; rights = record { 0 = 4 }; target = 7; parent = Some 10 } ∷
    record { id = 14; pd = 0; kind = Obj; base = 43; order = 0; rights = record { 0 = 7 }; target = 9; parent = None } ∷
    record { id = 15; pd = 0; kind = Obj; base = 44; order = 0; rights = record { 0 = 1 }; target = 10; parent = None } ∷
    record { id = 16; pd = 0; kind = Obj; base = 50; order = 0; rights = record { 0 = 1 }; target = 11; parent = None } ∷
    record { id = 17; pd = 11; kind = Mem; base = 4; order = 1; rights = record { 0 = 7 }; target = 4; parent = Some 0 } ∷
    record { id = 18; pd = 0; kind = Obj; base = 51; order = 0; rights = record { 0 = 7 }; target = 12; parent = None } ∷
    record { id = 19; pd = 0; kind = Obj; base = 80; order = 0; rights = record { 0 = 7 }; target = 13; parent = None } ∷
    record { id = 20; pd = 0; kind = Obj; base = 86; order = 0; rights = record { 0 = 7 }; target = 14; parent = None } ∷
    record { id = 21; pd = 0; kind = Obj; base = 52; order = 0; rights = record { 0 = 1 }; target = 15; parent = None } ∷
    record { id = 22; pd = 15; kind = Obj; base = 80; order = 0; rights = record { 0 = 4 }; target = 13; parent = Some 19 } ∷
    record { id = 23; pd = 15; kind = Obj; base = 86; order = 0; rights = record { 0 = 4 }; target = 14; parent = Some 20 } ∷
    record { id = 24; pd = 0; kind = Obj; base = 53; order = 0; rights = record { 0 = 7 }; target = 16; parent = None } ∷
    record { id = 25; pd = 0; kind = Obj; base = 54; order = 0; rights = record { 0 = 1 }; target = 17; parent = None } ∷ []

abbrev states : List (Option State)
states = None ∷ Some Dead ∷ None ∷ Some Parked ∷ None ∷ Some Parked ∷ None ∷ None ∷ None ∷ Some Fresh ∷ None ∷ None ∷ Some Parked ∷ None ∷ None ∷ None ∷ Some Fresh ∷ None ∷ []

shown : Shows (run (boot served) (replicate 127 0)) objects list states
unfolding one instr_of call_of choice deed input_of next_entry charged turn
shown = record { objects_are = refl; list_is = refl; states_are = refl }

pub guest_acts : Acts (run (boot served) (replicate 127 0)) 0 9
unfolding one instr_of call_of choice deed input_of next_entry next_to_act charged turn
guest_acts = refl

-- a derivation is of what is trusted, or memory, or a capability to a portal, of a handler in a domain of the holder's side or in the root's
data IsHeld (d : Derivation) : Type 0 where
  ByTrusted : sides_served d.pd ≡ 0 → IsHeld d
  AsMemory : d.kind ≡ Mem → IsHeld d
  AsPortal : (portal handler mtd ip domain : ℕ) → d.target ≡ portal → slice_get objects portal ≡ Some (Pt handler mtd ip) → slice_get objects handler ≡ Some (Ec domain 0 Local 0) →
      d.kind ≡ Obj → OrTrusted sides_served (sides_served d.pd) domain → IsHeld d

all_held : AllByRecursion IsHeld list
all_held = (ByTrusted refl, (ByTrusted refl, (ByTrusted refl, (ByTrusted refl, (ByTrusted refl, (ByTrusted refl, (ByTrusted refl, (AsMemory refl, (ByTrusted refl, (ByTrusted refl, (ByTrusted refl, (ByTrusted refl, (AsPortal 6 5 0 8192 4 refl refl refl refl (inl refl), (AsPortal 7 3 6 1024 0 refl refl refl refl (inr refl), (ByTrusted refl, (ByTrusted refl, (ByTrusted refl, (AsMemory refl, (ByTrusted refl, (ByTrusted refl, (ByTrusted refl, (ByTrusted refl, (AsPortal 13 12 0 16384 11 refl refl refl refl (inl refl), (AsPortal 14 3 6 1024 0 refl refl refl refl (inr refl), (ByTrusted refl, (ByTrusted refl, tt))))))))))))))))))))))))))

module _ (k : KernelState) (shows : Shows k objects list states) where
  calm : AreCalm k
  calm = all_calm k states shows.states_are (tt, (tt, (tt, (tt, (tt, (tt, (tt, (tt, (tt, (tt, (tt, (tt, (tt, (tt, (tt, (tt, (tt, (tt, tt))))))))))))))))))

  there : (n : ℕ) → slice_get k.objects n ≡ slice_get objects n
  there n = ap (λ (os : List Object). slice_get os n) shows.objects_are

  may_hold : (side portal handler mtd ip domain : ℕ) → slice_get objects portal ≡ Some (Pt handler mtd ip) → slice_get objects handler ≡ Some (Ec domain 0 Local 0) → OrTrusted sides_served side domain →
      MayHold unshared k sides_served side portal
  may_hold side portal handler mtd ip domain object its of_side = record {
    leads = subst (IsOwned k (OrTrusted sides_served side) portal) (sym (there portal ∙ object)) member;
    alone = λ sm lone d has kind same. absurd (let both : Some (Pt handler mtd ip) ≡ Some Sm = sym (there portal ∙ object) ∙ sm in cc);
    waits = λ lone n blocked. no_wait k n portal calm blocked;
  }
    where
      member : IsMember k (OrTrusted sides_served side) handler
      member = record { domain = domain; cpu = 0; kind = Local; event = 0; object = there handler ∙ its; of = of_side }

  by_holder : (d : Derivation) → d.kind ≡ Obj → sides_served d.pd ≢ 0 → IsHeld d → MayHold unshared k sides_served (sides_served d.pd) d.target
  by_holder d kind some (ByTrusted none) = absurd (some none)
  by_holder d kind some (AsMemory mem) = absurd (let both : Mem ≡ Obj = sym mem ∙ kind in cc)
  by_holder d kind some (AsPortal portal handler mtd ip domain target object its obj of_side) =
      subst (MayHold unshared k sides_served (sides_served d.pd)) (sym target) (may_hold (sides_served d.pd) portal handler mtd ip domain object its of_side)

  held_as : (d : Derivation) → Contains k.delegations.list d → IsHeld d
  held_as d has = all_at IsHeld list d all_held (in_from_contains list d (subst (λ (l : List Derivation). Contains l d) shows.list_is has))

  meets_policy : IsWithinPolicy unshared k sides_served
  meets_policy = record {
    capabilities = λ d has kind some. by_holder d kind some (held_as d has);
    edges = λ waiter handler is some. no_edge k calm waiter handler is;
    takes = λ handler caller mark is keeps some. no_taking k handler calm is;
    firsts = λ ec new is some. no_first k ec new calm is;
    queues = λ n m sm lone first second some. no_wait k n sm calm first;
  }

pub within_policy : IsWithinPolicy unshared (run (boot served) (replicate 127 0)) sides_served
within_policy = meets_policy (run (boot served) (replicate 127 0)) shown
