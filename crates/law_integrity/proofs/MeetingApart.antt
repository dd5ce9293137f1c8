-- The run of `apart.nova`: after turn 165 the two sides share nothing.
use Rattle.std.proofs.Common.{◌≡◌, ◌≤◌, ◌<◌, ◌+◌, ◌*◌, ◌⊎◌, ℕ, List, [], ◌∷◌, refl, sym, ap, ◌∙◌, subst, inl, inr, arith}
use Rattle.std.specs.Prelude.{Contains, replicate, slice_get, Option, Some, None, option_map}
use Rattle.std.specs.List.{AllByRecursion}
use Rattle.rv_model.specs.Codes.{instr_of}
use Rattle.rv_model.specs.Step.{one}
use Rattle.nova_calls.specs.Hypercalls.{call_of}
use Rattle.nova_objects.specs.declared.object.EcKind.TheVariants.{Global, Local, Vcpu}
use Rattle.nova_objects.specs.declared.object.Object.{Object}
use Rattle.nova_objects.specs.declared.object.Object.TheVariants.{Pd, Ec, Sc, Pt}
use Rattle.nova_range.specs.declared.range.Kind.TheVariants.{Mem, Obj}
use Rattle.nova_utcb.specs.Messages.{copied}
use Rattle.nova_model.specs.Boot.{boot}
use Rattle.nova_model.specs.Choice.{choice, next_to_act}
use Rattle.nova_model.specs.Deeds.{deed}
use Rattle.nova_model.specs.Edges.{state_in}
use Rattle.nova_model.specs.Inputs.{input_of}
use Rattle.nova_model.specs.Runs.{run}
use Rattle.nova_model.specs.State.{KernelState, entry, pd_in, pd_of}
use Rattle.nova_model.specs.Times.{next_entry}
use Rattle.nova_model.specs.Turn.{charged, turn}
use Rattle.nova_model.specs.declared.context.EcState.{EcState}
use Rattle.nova_model.specs.declared.context.State.{State}
use Rattle.nova_model.specs.declared.context.State.TheVariants.{Dead, Fresh, Parked}
use Rattle.nova_model.specs.declared.delegation.Derivation.{Derivation}
use Rattle.law_forest.specs.Within.{LeadsTo}
use Rattle.law_forest.proofs.Members.{all_at, in_from_contains}
use Rattle.law_origins.specs.Giving.{Acts}
use Rattle.law_integrity.specs.Confined.{HoldsAny, IsClosed, IsIdle, IsMember, IsOwned, Pair, ReachAny, ShareNothing}
use Rattle.law_integrity.specs.Examples.{apart}
use Rattle.law_integrity.proofs.Meeting.{AllAt, AreCalm, Shows, all_calm, entry_at, no_edge, no_first, no_wait, state_is}

-- objects, derivations and states after turn 165
abbrev objects : List Object
objects =
    Pd ∷ Ec 0 0 Global 16 ∷ Sc 1 0 2 10 ∷ Ec 0 0 Local 0 ∷ Pt 3 0 1024 ∷ Pd ∷ Ec 5 0 Local 0 ∷ Pt 6 0 131072 ∷ Pt 6 6 131200 ∷ Pd ∷ Ec 9 0 Vcpu 64 ∷ Sc 10 0 1 5 ∷ Pd ∷ Ec 12 1 Local 0 ∷ Pt 13 0 147456 ∷ Pt 13 6 147584 ∷ Pd
    ∷ Ec 16 1 Vcpu 80 ∷ Sc 17 1 1 5 ∷ []

abbrev list : List Derivation
list =
    record { id = 0; pd = 0; kind = Mem; base = 0; order = 3; rights = record { 0 = 7 }; target = 0; parent = None } ∷
    record { id = 1; pd = 0; kind = Mem; base = 8; order = 0; rights = record { 0 = 3 }; target = 8; parent = None } ∷
    record { id = 2; pd = 0; kind = Mem; base = 9; order = 0; rights = record { 0 = 3 }; target = 9; parent = None } ∷
    record { id = 3; pd = 0; kind = Obj; base = 0; order = 0; rights = record { 0 = 1 }; target = 0; parent = None } ∷
    record { id = 4; pd = 0; kind = Obj; base = 1; order = 0; rights = record { 0 = 7 }; target = 1; parent = None } ∷
    record { id = 5; pd = 0; kind = Obj; base = 2; order = 0; rights = record { 0 = 1 }; target = 2; parent = None } ∷
    record { id = 6; pd = 0; kind = Obj; base = 32; order = 0; rights = record { 0 = 7 }; target = 3; parent = None } ∷
    record { id = 7; pd = 0; kind = Obj; base = 33; order = 0; rights = record { 0 = 7 }; target = 4; parent = None } ∷
    record { id = 8; pd = 0; kind = Mem; base = 32; order = 1; rights = record { 0 = 7 }; target = 2; parent = Some 0 } ∷
    record { id = 9; pd = 0; kind = Mem; base = 34; order = 0; rights = record { 0 = 3 }; target = 8; parent = Some 1 } ∷
    record { id = 10; pd = 0; kind = Mem; base = 36; order = 1; rights = record { 0 = 7 }; target = 4; parent = Some 0 } ∷
    record { id = 11; pd = 0; kind = Mem; base = 38; order = 0; rights = record { 0 = 3 }; target = 9; parent = Some 2 } ∷
    record { id = 12; pd = 0; kind = Obj; base = 40; order = 0; rights = record { 0 = 1 }; target = 5; parent = None } ∷
    record { id = 13; pd = 5; kind = Mem; base = 32; order = 1; rights = record { 0 = 7 }; target = 2; parent = Some 8 } ∷
    record { id = 14; pd = 5; kind = Mem; base = 34; order = 0; rights = record { 0 = 3 }; target = 8; parent = Some 9 } ∷
    record { id = 15; pd = 0; kind = Obj; base = 41; order = 0; rights = record { 0 = 7 }; target = 6; parent = None } ∷
    record { id = 16; pd = 0; kind = Obj; base = 64; order = 0; rights = record { 0 = 7 }; target = 7; parent = None } ∷
    record { id = 17; pd = 0; kind = Obj; base = 70; order = 0; rights = record { 0 = 7 }; target = 8; parent = None } ∷
    record { id = 18; pd = 0; kind = Obj; base = 42; order = 0; rights = record { 0 = 1 }; target = 9; parent = None } ∷
    record { id = 19; pd = 9; kind = Obj; base = 64; order = 0; rights = record { 0 = 4 }; target = 7; parent = Some 16 } ∷
    record { id = 20; pd = 9; kind = Obj; base = 70; order = 0; rights = record { 0 = 4 }; target = 8; parent = Some 17 } ∷
    record { id = 21; pd = 0; kind = Obj; base = 43; order = 0; rights = record { 0 = 7 }; target = 10; parent = None } ∷
    record { id = 22; pd = 0; kind = Obj; base = 44; order = 0; rights = record { 0 = 1 }; target = 11; parent = None } ∷
    record { id = 23; pd = 0; kind = Obj; base = 50; order = 0; rights = record { 0 = 1 }; target = 12; parent = None } ∷
    record { id = 24; pd = 12; kind = Mem; base = 36; order = 1; rights = record { 0 = 7 }; target = 4; parent = Some 10 } ∷
    record { id = 25; pd = 12; kind = Mem; base = 38; order = 0; rights = record { 0 = 3 }; target = 9; parent = Some 11 } ∷
    record { id = 26; pd = 0; kind = Obj; base = 51; order = 0; rights = record { 0 = 7 }; target = 13; parent = None } ∷
    record { id = 27; pd = 0; kind = Obj; base = 80; order = 0; rights = record { 0 = 7 }; target = 14; parent = None } ∷
    record { id = 28; pd = 0; kind = Obj; base = 86; order = 0; rights = record { 0 = 7 }; target = 15; parent = None } ∷
    record { id = 29; pd = 0; kind = Obj; base = 52; order = 0; rights = record { 0 = 1 }; target = 16; parent = None } ∷
    record { id = 30; pd = 16; kind = Obj; base = 80; order = 0; rights = record { 0 = 4 }; target = 14; parent = Some 27 } ∷
    record { id = 31; pd = 16; kind = Obj; base = 86; order = 0; rights = record { 0 = 4 }; target = 15; parent = Some 28 } ∷
    record { id = 32; pd = 0; kind = Obj; base = 53; order = 0; rights = record { 0 = 7 }; target = 17; parent = None } ∷
    record { id = 33; pd = 0; kind = Obj; base = 54; order = 0; rights = record { 0 = 1 }; target = 18; parent = None } ∷ []

abbrev states : List (Option State)
states = None ∷ Some Dead ∷ None ∷ Some Parked ∷ None ∷ None ∷ Some Parked ∷ None ∷ None ∷ None ∷ Some Fresh ∷ None ∷ None ∷ Some Parked ∷ None ∷ None ∷ None ∷ Some Fresh ∷ None ∷ []

shown : Shows (run (boot apart) (replicate 165 0)) objects list states
unfolding one instr_of call_of choice copied deed input_of next_entry charged turn
shown = record { objects_are = refl; list_is = refl; states_are = refl }

pub first_acts : Acts (run (boot apart) (replicate 165 0)) 0 10
unfolding one instr_of call_of choice copied deed input_of next_entry next_to_act charged turn
first_acts = refl

pub second_acts : Acts (run (boot apart) (replicate 165 0)) 1 17
unfolding one instr_of call_of choice copied deed input_of next_entry next_to_act charged turn
second_acts = refl

-- THE SIDES, 0 AND 1

-- two pages and a console, and two portals
abbrev IsFrameOf : ℕ → ℕ → Type 0
IsFrameOf side frame = ((2 + 2 * side ≤ frame) × (frame < 4 + 2 * side)) ⊎ (frame ≡ 8 + side)

abbrev IsPortalOf : ℕ → ℕ → Type 0
IsPortalOf side portal = (portal ≡ 7 + 7 * side) ⊎ (portal ≡ 8 + 7 * side)

-- whose a derivation is: the root's, a monitor's memory, or a guest's portal
data IsHeld (d : Derivation) : Type 0 where
  ByRoot : d.pd ≡ 0 → IsHeld d
  AsMemory : (side : ℕ) → side < 2 → d.pd ≡ 5 + 7 * side → d.kind ≡ Mem → ((frame : ℕ) → LeadsTo d frame → IsFrameOf side frame) → IsHeld d
  AsPortal : (side : ℕ) → side < 2 → d.pd ≡ 9 + 7 * side → d.kind ≡ Obj → IsPortalOf side d.target → IsHeld d

all_held : AllByRecursion IsHeld list
all_held = (ByRoot refl, (ByRoot refl, (ByRoot refl, (ByRoot refl, (ByRoot refl, (ByRoot refl, (ByRoot refl, (ByRoot refl, (ByRoot refl, (ByRoot refl, (ByRoot refl, (ByRoot refl, (ByRoot refl, (AsMemory 0 (omega arith) refl refl (λ frame leads. inl (leads.first, leads.last)), (AsMemory 0 (omega arith) refl refl (λ frame leads. let low : 8 ≤ frame = leads.first in let high : frame < 9 = leads.last in inr (omega (arith, low, high))), (ByRoot refl, (ByRoot refl, (ByRoot refl, (ByRoot refl, (AsPortal 0 (omega arith) refl refl (inl refl), (AsPortal 0 (omega arith) refl refl (inr refl), (ByRoot refl, (ByRoot refl, (ByRoot refl, (AsMemory 1 (omega arith) refl refl (λ frame leads. inl (leads.first, leads.last)), (AsMemory 1 (omega arith) refl refl (λ frame leads. let low : 9 ≤ frame = leads.first in let high : frame < 10 = leads.last in inr (omega (arith, low, high))), (ByRoot refl, (ByRoot refl, (ByRoot refl, (ByRoot refl, (AsPortal 1 (omega arith) refl refl (inl refl), (AsPortal 1 (omega arith) refl refl (inr refl), (ByRoot refl, (ByRoot refl, tt))))))))))))))))))))))))))))))))))

-- each context is parked, dead or a guest
abbrev IsPlaced : ℕ → Option State → Type 0
IsPlaced n None = Unit {0}
IsPlaced n (Some Dead) = Unit {0}
IsPlaced n (Some Parked) = Unit {0}
IsPlaced n (Some Fresh) = (n ≡ 10) ⊎ (n ≡ 17)
IsPlaced n other = ⊥

all_placed : AllAt IsPlaced states
all_placed = (tt, (tt, (tt, (tt, (tt, (tt, (tt, (tt, (tt, (tt, (inl refl, (tt, (tt, (tt, (tt, (tt, (tt, (inr refl, (tt, tt)))))))))))))))))))

-- a guest's domain and its monitor's
abbrev Own : KernelState → ℕ → ℕ → Type 0
Own k side = Pair (pd_of k (10 + 7 * side)) (pd_of k (6 + 7 * side))

record IsSide (k : KernelState) (side : ℕ) : Type 0 where
  low : side < 2
  guest : pd_of k (10 + 7 * side) ≡ 9 + 7 * side
  monitor : pd_of k (6 + 7 * side) ≡ 5 + 7 * side
  guest_there : slice_get k.objects (9 + 7 * side) ≡ Some Pd
  monitor_there : slice_get k.objects (5 + 7 * side) ≡ Some Pd
  portals : (portal : ℕ) → IsPortalOf side portal → IsOwned k (Own k side) portal (slice_get k.objects portal)
  cpu : IsMember k (Own k side) (10 + 7 * side)

its_domain : (k : KernelState) (side n : ℕ) → IsSide k side → Own k side n → (n ≡ 9 + 7 * side) ⊎ (n ≡ 5 + 7 * side)
its_domain k side n s (inl same) = inl (same ∙ s.guest)
its_domain k side n s (inr same) = inr (same ∙ s.monitor)

module _ (k : KernelState) (shows : Shows k objects list states) where
  held_as : (d : Derivation) → Contains k.delegations.list d → IsHeld d
  held_as d has = all_at IsHeld list d all_held (in_from_contains list d (subst (λ (l : List Derivation). Contains l d) shows.list_is has))

  calm : AreCalm k
  calm = all_calm k states shows.states_are (tt, (tt, (tt, (tt, (tt, (tt, (tt, (tt, (tt, (tt, (tt, (tt, (tt, (tt, (tt, (tt, (tt, (tt, (tt, tt)))))))))))))))))))

  placed : (n : ℕ) → IsPlaced n (state_in k.contexts n)
  placed n =
      subst (IsPlaced n) (sym (state_is k.contexts n ∙ ap (λ (l : List (Option State)). entry (slice_get l n)) shows.states_are)) (entry_at IsPlaced states (λ m. tt) all_placed n)

  there : (n : ℕ) → slice_get k.objects n ≡ slice_get objects n
  there n = ap (λ (os : List Object). slice_get os n) shows.objects_are

  -- a portal of a handler of the side is its own
  own_portal : (side portal at handler mtd ip : ℕ) → portal ≡ at → slice_get k.objects at ≡ Some (Pt handler mtd ip) → IsMember k (Own k side) handler →
      IsOwned k (Own k side) portal (slice_get k.objects portal)
  own_portal side portal at handler mtd ip is object m =
      subst (λ (n : ℕ). IsOwned k (Own k side) n (slice_get k.objects n)) (sym is) (subst (IsOwned k (Own k side) at) (sym object) m)

  first_side : IsSide k 0
  first_side = record {
    low = omega arith;
    guest = guest_is;
    monitor = monitor_is;
    guest_there = there 9;
    monitor_there = there 5;
    portals = λ portal its. elim its [
      | inl is ↦ own_portal 0 portal 7 6 0 131072 is (there 7) handler
      | inr is ↦ own_portal 0 portal 8 6 6 131200 is (there 8) handler
    ];
    cpu = record { domain = 9; cpu = 0; kind = Vcpu; event = 64; object = there 10; of = inl (sym guest_is) };
  }
    where
      guest_is : pd_of k 10 ≡ 9
      guest_is = ap pd_in (there 10)

      monitor_is : pd_of k 6 ≡ 5
      monitor_is = ap pd_in (there 6)

      handler : IsMember k (Own k 0) 6
      handler = record { domain = 5; cpu = 0; kind = Local; event = 0; object = there 6; of = inr (sym monitor_is) }

  second_side : IsSide k 1
  second_side = record {
    low = omega arith;
    guest = guest_is;
    monitor = monitor_is;
    guest_there = there 16;
    monitor_there = there 12;
    portals = λ portal its. elim its [
      | inl is ↦ own_portal 1 portal 14 13 0 147456 is (there 14) handler
      | inr is ↦ own_portal 1 portal 15 13 6 147584 is (there 15) handler
    ];
    cpu = record { domain = 16; cpu = 1; kind = Vcpu; event = 80; object = there 17; of = inl (sym guest_is) };
  }
    where
      guest_is : pd_of k 17 ≡ 16
      guest_is = ap pd_in (there 17)

      monitor_is : pd_of k 13 ≡ 12
      monitor_is = ap pd_in (there 13)

      handler : IsMember k (Own k 1) 13
      handler = record { domain = 12; cpu = 1; kind = Local; event = 0; object = there 13; of = inr (sym monitor_is) }

  -- a capability of a side is that to one of its portals, and a frame one of its monitor's
  leads_to : (side : ℕ) (d : Derivation) → IsSide k side → Own k side d.pd → d.kind ≡ Obj → IsHeld d → IsPortalOf side d.target
  leads_to side d s own kind (ByRoot none) = absurd (elim (its_domain k side d.pd s own) [
    | inl is ↦ omega (arith, is, none)
    | inr is ↦ omega (arith, is, none)
  ])
  leads_to side d s own kind (AsMemory other low its mem frames) = absurd (let both : Mem ≡ Obj = sym mem ∙ kind in cc)
  leads_to side d s own kind (AsPortal other low its obj target) = elim (its_domain k side d.pd s own) [
    | inl is ↦ (let same : other ≡ side = omega (arith, is, its) in subst (λ (n : ℕ). IsPortalOf n d.target) same target)
    | inr is ↦ (let few = s.low in absurd (omega (arith, is, its, low, few)))
  ]

  frame_of : (side frame : ℕ) (d : Derivation) → IsSide k side → Own k side d.pd → d.kind ≡ Mem → LeadsTo d frame → IsHeld d → IsFrameOf side frame
  frame_of side frame d s own kind leads (ByRoot none) = absurd (elim (its_domain k side d.pd s own) [
    | inl is ↦ omega (arith, is, none)
    | inr is ↦ omega (arith, is, none)
  ])
  frame_of side frame d s own kind leads (AsPortal other low its obj target) = absurd (let both : Mem ≡ Obj = sym kind ∙ obj in cc)
  frame_of side frame d s own kind leads (AsMemory other low its mem frames) = elim (its_domain k side d.pd s own) [
    | inl is ↦ (let few = s.low in absurd (omega (arith, is, its, low, few)))
    | inr is ↦ (let same : other ≡ side = omega (arith, is, its) in subst (λ (n : ℕ). IsFrameOf n frame) same (frames frame leads))
  ]

  side_closed : (side : ℕ) → IsSide k side → IsClosed k (Own k side)
  side_closed side s = record {
    there = λ n own. domain_there n (its_domain k side n s own);
    capabilities = λ d has own kind. s.portals d.target (leads_to side d s own kind (held_as d has));
    edges = λ waiter handler waits m. no_edge k calm waiter handler waits;
    firsts = λ n new gives m. no_first k n new calm gives;
  }
    where
      domain_there : (n : ℕ) → (n ≡ 9 + 7 * side) ⊎ (n ≡ 5 + 7 * side) → slice_get k.objects n ≡ Some Pd
      domain_there n (inl is) = ap (slice_get k.objects) is ∙ s.guest_there
      domain_there n (inr is) = ap (slice_get k.objects) is ∙ s.monitor_there

  holds_own : (side object : ℕ) → IsSide k side → HoldsAny k (Own k side) object → IsPortalOf side object
  holds_own side object s h = subst (IsPortalOf side) h.leads (leads_to side h.capability s h.of h.kind (held_as h.capability h.there))

  reaches_own : (side frame : ℕ) → IsSide k side → ReachAny k (Own k side) frame → IsFrameOf side frame
  reaches_own side frame s r = frame_of side frame r.derivation s r.of r.kind r.leads (held_as r.derivation r.there)

  apart_domains : (n : ℕ) → (n ≡ 9) ⊎ (n ≡ 5) → (n ≡ 16) ⊎ (n ≡ 12) → ⊥
  apart_domains n (inl a) (inl b) = omega (arith, a, b)
  apart_domains n (inl a) (inr b) = omega (arith, a, b)
  apart_domains n (inr a) (inl b) = omega (arith, a, b)
  apart_domains n (inr a) (inr b) = omega (arith, a, b)

  apart_portals : (n : ℕ) → IsPortalOf 0 n → IsPortalOf 1 n → ⊥
  apart_portals n (inl a) (inl b) = omega (arith, a, b)
  apart_portals n (inl a) (inr b) = omega (arith, a, b)
  apart_portals n (inr a) (inl b) = omega (arith, a, b)
  apart_portals n (inr a) (inr b) = omega (arith, a, b)

  apart_frames : (n : ℕ) → IsFrameOf 0 n → IsFrameOf 1 n → ⊥
  apart_frames n (inl a) (inl b) = let high = a.1 in let low = b.0 in omega (arith, high, low)
  apart_frames n (inl a) (inr b) = let high = a.1 in omega (arith, high, b)
  apart_frames n (inr a) (inl b) = let high = b.1 in omega (arith, a, high)
  apart_frames n (inr a) (inr b) = omega (arith, a, b)

  -- a context that isn't a guest is idle
  by_place : (n : ℕ) (s : State) → IsPlaced n (Some s) → IsIdle k (Own k 0) (Own k 1) n s ⊎ (IsMember k (Own k 0) n ⊎ IsMember k (Own k 1) n)
  by_place n Dead o = inl tt
  by_place n Parked o = inl tt
  by_place n Fresh (inl is) = inr (inl (subst (IsMember k (Own k 0)) (sym is) first_side.cpu))
  by_place n Fresh (inr is) = inr (inr (subst (IsMember k (Own k 1)) (sym is) second_side.cpu))
  by_place n other o = absurd o

  share_nothing : ShareNothing k 10 6 17 13
  share_nothing = record {
    apart = record {
      separate = record {
        first = side_closed 0 first_side;
        second = side_closed 1 second_side;
        disjoint = λ n mine theirs. apart_domains n (its_domain k 0 n first_side mine) (its_domain k 1 n second_side theirs);
        rest = λ ec x is. by_place ec x.state (subst (IsPlaced ec) (ap (option_map (λ (y : EcState). y.state)) is) (placed ec));
      };
      objects = λ object mine theirs. apart_portals object (holds_own 0 object first_side mine) (holds_own 1 object second_side theirs);
      first = λ n sm blocked m holds. no_wait k n sm calm blocked;
      second = λ n sm blocked m holds. no_wait k n sm calm blocked;
      queues = λ n m sm first second mine theirs. no_wait k n sm calm first;
    };
    memory = λ frame mine theirs. apart_frames frame (reaches_own 0 frame first_side mine) (reaches_own 1 frame second_side theirs);
  }

pub nothing_shared : ShareNothing (run (boot apart) (replicate 165 0)) 10 6 17 13
nothing_shared = share_nothing (run (boot apart) (replicate 165 0)) shown
