-- A run that meets the premises: what of its state these look at is computed, and then each part is looked up.
use Rattle.std.proofs.Common.{◌≡◌, ◌≢◌, ◌≤◌, ◌<◌, ◌+◌, ◌⊎◌, ℕ, List, [], ◌∷◌, refl, sym, ap, ◌∙◌, subst, inl, inr, arith}
use Rattle.std.specs.Prelude.{Bool, true, false, Contains, IsSome, map, replicate, slice_get, Option, Some, None, option_map}
use Rattle.std.specs.List.{AllByRecursion}
use Rattle.std.proofs.lemmas.Option.{same_Some}
use Rattle.rv_model.specs.Codes.{instr_of}
use Rattle.rv_model.specs.Step.{one}
use Rattle.nova_calls.specs.Hypercalls.{call_of}
use Rattle.nova_objects.specs.declared.object.EcKind.{EcKind}
use Rattle.nova_objects.specs.declared.object.EcKind.TheVariants.{Global, Local, Vcpu}
use Rattle.nova_objects.specs.declared.object.Object.{Object}
use Rattle.nova_objects.specs.declared.object.Object.TheVariants.{Pd, Ec, Sc, Pt, Sm}
use Rattle.nova_range.specs.declared.range.Kind.TheVariants.{Mem, Obj}
use Rattle.nova_model.specs.Boot.{boot}
use Rattle.nova_model.specs.Choice.{choice, next_to_act}
use Rattle.nova_model.specs.Deeds.{deed}
use Rattle.nova_model.specs.Edges.{caller_in, edge, state_in}
use Rattle.nova_model.specs.Inputs.{input_of}
use Rattle.nova_model.specs.Lines.{line}
use Rattle.nova_model.specs.Runs.{run}
use Rattle.nova_model.specs.Semaphores.{has, semaphore_in, waits}
use Rattle.nova_model.specs.State.{KernelState, Semaphore, context, context_at, entry, pd_in}
use Rattle.nova_model.specs.Times.{next_entry}
use Rattle.nova_model.specs.Turn.{charged, turn}
use Rattle.nova_model.specs.declared.context.EcState.{EcState}
use Rattle.nova_model.specs.declared.context.Mark.{Mark}
use Rattle.nova_model.specs.declared.context.State.{State}
use Rattle.nova_model.specs.declared.context.State.TheVariants.{Blocked, Dead, Fresh, Granting, Parked}
use Rattle.nova_model.specs.declared.delegation.Derivation.{Derivation}
use Rattle.nova_model.specs.declared.times.AlarmState.{AlarmState}
use Rattle.nova_model.specs.declared.times.Deadline.{Deadline}
use Rattle.law_forest.specs.Within.{LeadsTo}
use Rattle.law_forest.proofs.Members.{IsIn, all_at, in_from_contains}
use Rattle.law_integrity.specs.Confined.{AreSetsApart, IsClosed, IsIdle, IsMember, IsOwned, Of}
use Rattle.law_integrity.proofs.Meeting.{IsCalm}
use Rattle.law_turns.specs.Links.{caller_at as caller_of, state_at as state_of}
use Rattle.law_flow.specs.Examples.{first_domains, first_objects, first_processors, other_domains, two_homes}
use Rattle.law_flow.specs.Flow.{IsPartitioned, IsTimeless, own_turn}
use Rattle.law_flow.specs.Processors.{IsDivided}
use Rattle.law_flow.proofs.Looking.{AllAt, at_all, calm_context, calm_edge, calm_wait, either, entry_at, led, looked_up, no, own_object}

-- WHAT THE PREMISES LOOK AT

abbrev objects_there : List Object
objects_there =
    Pd ∷ Ec 0 0 Global 16 ∷ Sc 1 0 1 100 ∷ Pd ∷ Pd ∷ Ec 3 0 Local 0 ∷ Ec 4 1 Local 0 ∷ Pt 5 0 4096 ∷ Pt 6 0 4096 ∷ Pd ∷ Pd ∷ Ec 9 0 Vcpu 64 ∷ Ec 10 1 Vcpu 65 ∷ Sc 11 0 0 1 ∷ Sc 12 1 0 1 ∷ []

abbrev of_root : Derivation
of_root = record { id = 0; pd = 0; kind = Mem; base = 0; order = 2; rights = record { 0 = 7 }; target = 0; parent = None }

abbrev first_page : Derivation
first_page = record { id = 5; pd = 3; kind = Mem; base = 1; order = 0; rights = record { 0 = 7 }; target = 1; parent = Some 0 }

abbrev to_portal : Derivation
to_portal = record { id = 10; pd = 0; kind = Obj; base = 64; order = 0; rights = record { 0 = 7 }; target = 7; parent = None }

abbrev first_portal : Derivation
first_portal = record { id = 13; pd = 9; kind = Obj; base = 64; order = 0; rights = record { 0 = 4 }; target = 7; parent = Some 10 }

abbrev pub ranges_there : List Derivation
ranges_there =
    of_root ∷
    record { id = 1; pd = 0; kind = Obj; base = 0; order = 0; rights = record { 0 = 1 }; target = 0; parent = None } ∷
    record { id = 2; pd = 0; kind = Obj; base = 1; order = 0; rights = record { 0 = 7 }; target = 1; parent = None } ∷
    record { id = 3; pd = 0; kind = Obj; base = 2; order = 0; rights = record { 0 = 1 }; target = 2; parent = None } ∷
    record { id = 4; pd = 0; kind = Obj; base = 32; order = 0; rights = record { 0 = 1 }; target = 3; parent = None } ∷
    first_page ∷
    record { id = 6; pd = 0; kind = Obj; base = 33; order = 0; rights = record { 0 = 1 }; target = 4; parent = None } ∷
    record { id = 7; pd = 4; kind = Mem; base = 2; order = 0; rights = record { 0 = 7 }; target = 2; parent = Some 0 } ∷
    record { id = 8; pd = 0; kind = Obj; base = 34; order = 0; rights = record { 0 = 7 }; target = 5; parent = None } ∷
    record { id = 9; pd = 0; kind = Obj; base = 35; order = 0; rights = record { 0 = 7 }; target = 6; parent = None } ∷
    to_portal ∷
    record { id = 11; pd = 0; kind = Obj; base = 65; order = 0; rights = record { 0 = 7 }; target = 8; parent = None } ∷
    record { id = 12; pd = 0; kind = Obj; base = 36; order = 0; rights = record { 0 = 1 }; target = 9; parent = None } ∷
    first_portal ∷
    record { id = 14; pd = 0; kind = Obj; base = 37; order = 0; rights = record { 0 = 1 }; target = 10; parent = None } ∷
    record { id = 15; pd = 10; kind = Obj; base = 65; order = 0; rights = record { 0 = 4 }; target = 8; parent = Some 11 } ∷
    record { id = 16; pd = 0; kind = Obj; base = 38; order = 0; rights = record { 0 = 7 }; target = 11; parent = None } ∷
    record { id = 17; pd = 0; kind = Obj; base = 39; order = 0; rights = record { 0 = 7 }; target = 12; parent = None } ∷
    record { id = 18; pd = 0; kind = Obj; base = 40; order = 0; rights = record { 0 = 1 }; target = 13; parent = None } ∷
    record { id = 19; pd = 0; kind = Obj; base = 41; order = 0; rights = record { 0 = 1 }; target = 14; parent = None } ∷ []

abbrev states_there : List (Option State)
states_there = None ∷ Some Dead ∷ None ∷ None ∷ None ∷ Some Parked ∷ Some Parked ∷ None ∷ None ∷ None ∷ None ∷ Some Fresh ∷ Some Fresh ∷ None ∷ None ∷ []

abbrev nothing : {T : Type 0} → List (Option T)
nothing = None ∷ None ∷ None ∷ None ∷ None ∷ None ∷ None ∷ None ∷ None ∷ None ∷ None ∷ None ∷ None ∷ None ∷ None ∷ []

record Shows (k : KernelState) : Type 0 where
  objects_are : k.objects ≡ objects_there
  ranges_are : k.delegations.list ≡ ranges_there
  states_are : map state_of k.contexts ≡ states_there
  callers_are : map caller_of k.contexts ≡ nothing {T = ℕ × Mark}
  semaphores_are : k.semaphores ≡ nothing {T = Semaphore}
  deadlines_are : k.times.deadlines ≡ nothing {T = Deadline}
  alarms_are : k.times.alarms ≡ []

shown : Shows (run (boot two_homes) (replicate 66 0))
unfolding one instr_of call_of choice deed input_of next_entry charged turn
shown = record { objects_are = refl; ranges_are = refl; states_are = refl; callers_are = refl; semaphores_are = refl; deadlines_are = refl; alarms_are = refl }

-- a virtual CPU of the first side's
pub has_guest : slice_get (run (boot two_homes) (replicate 66 0)).objects 11 ≡ Some (Ec 9 0 Vcpu 64)
has_guest = ap (λ (os : List Object). slice_get os 11) shown.objects_are

pub has_turn_next : own_turn first_domains (run (boot two_homes) (replicate 66 0)) 0 ≡ Some (11, 13)
unfolding one instr_of call_of choice deed input_of next_entry next_to_act charged turn
has_turn_next = refl

-- ALL OF THEM

-- whose a derivation is: the root's; a page of a monitor's; or the portal of a guest's. There are sides 0 and 1.
data IsHeld (d : Derivation) : Type 0 where
  ByRoot : d.pd ≡ 0 → IsHeld d
  AsPage : (side : ℕ) → side < 2 → d.pd ≡ 3 + side → d.kind ≡ Mem → ((frame : ℕ) → LeadsTo d frame → frame ≡ 1 + side) → IsHeld d
  AsPortal : (side : ℕ) → side < 2 → d.pd ≡ 9 + side → d.kind ≡ Obj → d.target ≡ 7 + side → IsHeld d

all_held : AllByRecursion IsHeld ranges_there
all_held = (ByRoot refl, (ByRoot refl, (ByRoot refl, (ByRoot refl, (ByRoot refl, (AsPage 0 (omega arith) refl refl (λ frame leads. let low : 1 ≤ frame = leads.first in let high : frame < 2 = leads.last in omega (arith, low, high)), (ByRoot refl, (AsPage 1 (omega arith) refl refl (λ frame leads. let low : 2 ≤ frame = leads.first in let high : frame < 3 = leads.last in omega (arith, low, high)), (ByRoot refl, (ByRoot refl, (ByRoot refl, (ByRoot refl, (ByRoot refl, (AsPortal 0 (omega arith) refl refl refl, (ByRoot refl, (AsPortal 1 (omega arith) refl refl refl, (ByRoot refl, (ByRoot refl, (ByRoot refl, (ByRoot refl, tt))))))))))))))))))))

-- what the first side holds comes of the root alone
abbrev ComesOfRoot : Derivation → Type 0
ComesOfRoot d = first_domains d.pd ≡ true → (a : Derivation) → Contains (line ranges_there d) a → other_domains a.pd ≡ true → ⊥

above : (d e a : Derivation) → other_domains d.pd ≡ false → other_domains e.pd ≡ false → Contains (d ∷ e ∷ []) a → other_domains a.pd ≡ true → ⊥
above d e a first second c t = by_place (in_from_contains (d ∷ e ∷ []) a c)
  where
    both : (t : Bool) → t ≡ false → t ≡ true → ⊥
    both true none some = cc
    both false none some = cc

    by_place : IsIn (d ∷ e ∷ []) a → ⊥
    by_place (inl is) = both (other_domains a.pd) (sym (ap (λ (x : Derivation). other_domains x.pd) is) ∙ first) t
    by_place (inr (inl is)) = both (other_domains a.pd) (sym (ap (λ (x : Derivation). other_domains x.pd) is) ∙ second) t
    by_place (inr (inr never)) = absurd never

all_come : AllByRecursion ComesOfRoot ranges_there
all_come = (λ h. no h, (λ h. no h, (λ h. no h, (λ h. no h, (λ h. no h, (λ h a c t. above first_page of_root a refl refl c t, (λ h. no h, (λ h. no h, (λ h. no h, (λ h. no h, (λ h. no h, (λ h. no h, (λ h. no h, (λ h a c t. above first_portal to_portal a refl refl c t, (λ h. no h, (λ h. no h, (λ h. no h, (λ h. no h, (λ h. no h, (λ h. no h, tt))))))))))))))))))))

-- execution contexts of the first side are its objects, on processor 0; those of the other aren't there; and of the scheduling contexts 13 is bound to one of the first side's
abbrev Fits : ℕ → Object → Type 0
Fits n (Ec pd cpu kind event) = (first_domains pd ≡ true → (first_objects n ≡ true) × (first_processors cpu ≡ true)) × (other_domains pd ≡ true → first_processors cpu ≡ true → ⊥)
Fits n (Sc donor cpu priority quantum) = (donor ≡ 1) ⊎ ((donor ≡ 12) ⊎ (first_objects n ≡ true))
Fits n (Pt handler mtd ip) = first_objects n ≡ true → first_objects handler ≡ true
Fits n other = Unit {0}

all_fit : AllAt Fits objects_there
all_fit = (tt, ((λ h. no h, λ h. no h), (inl refl, (tt, (tt, ((λ h. (refl, refl), λ h. no h), ((λ h. no h, λ h c. no c), (λ h. refl, (λ h. no h, (tt, (tt, ((λ h. (refl, refl), λ h. no h), ((λ h. no h, λ h c. no c), (inr (inr refl), (inr (inl refl), tt)))))))))))))))

-- each context is parked, dead or a guest
abbrev IsPlaced : ℕ → Option State → Type 0
IsPlaced n None = Unit {0}
IsPlaced n (Some Dead) = Unit {0}
IsPlaced n (Some Parked) = Unit {0}
IsPlaced n (Some Fresh) = (n ≡ 11) ⊎ (n ≡ 12)
IsPlaced n other = ⊥

all_placed : AllAt IsPlaced states_there
all_placed = (tt, (tt, (tt, (tt, (tt, (tt, (tt, (tt, (tt, (tt, (tt, (inl refl, (inr refl, (tt, (tt, tt)))))))))))))))

abbrev IsNone : {T : Type 0} → ℕ → Option T → Type 0
IsNone {T} n o = ◌≡◌ {A = Option T} o None

none_at : {T : Type 0} (n : ℕ) → entry (slice_get (nothing {T = T}) n) ≡ None
none_at {T} n = entry_at (IsNone {T = T}) (nothing {T = T}) (λ m. refl) (refl, (refl, (refl, (refl, (refl, (refl, (refl, (refl, (refl, (refl, (refl, (refl, (refl, (refl, (refl, tt))))))))))))))) n

placed_calm : (n : ℕ) (o : Option State) → IsPlaced n o → IsCalm o
placed_calm n None p = tt
placed_calm n (Some Dead) p = tt
placed_calm n (Some Fresh) p = tt
placed_calm n (Some Parked) p = tt
placed_calm n (Some other) p = absurd p

-- THE STATE

module _ (k : KernelState) (shows : Shows k) where
  obj : (n : ℕ) → slice_get k.objects n ≡ slice_get objects_there n
  obj n = ap (λ (os : List Object). slice_get os n) shows.objects_are

  fits : (n : ℕ) (o : Object) → slice_get k.objects n ≡ Some o → Fits n o
  fits n o is = at_all Fits objects_there all_fit n o (sym (obj n) ∙ is)

  listed : (d : Derivation) → Contains k.delegations.list d → IsIn ranges_there d
  listed d has = in_from_contains ranges_there d (subst (λ (l : List Derivation). Contains l d) shows.ranges_are has)

  held : (d : Derivation) → IsIn ranges_there d → IsHeld d
  held d i = all_at IsHeld ranges_there d all_held i

  placed : (n : ℕ) → IsPlaced n (state_in k.contexts n)
  placed n =
      subst (IsPlaced n) (sym (looked_up state_of refl k.contexts n ∙ ap (λ (l : List (Option State)). entry (slice_get l n)) shows.states_are))
      (entry_at IsPlaced states_there (λ m. tt) all_placed n)

  calm : (n : ℕ) → IsCalm (state_in k.contexts n)
  calm n = placed_calm n (state_in k.contexts n) (placed n)

  no_edge : {A : Type 0} (waiter handler : ℕ) → edge k.contexts waiter ≡ Some handler → A
  no_edge waiter handler is = absurd (calm_edge (state_in k.contexts waiter) handler (calm waiter) is)

  no_wait : {A : Type 0} (n sm : ℕ) → (context k n).state ≡ Blocked sm → A
  no_wait n sm is = absurd (calm_context (context_at k n) (Blocked sm) (calm n) (λ same. cc) (λ c. c) is)

  no_first : {A : Type 0} (n new : ℕ) → (context k n).state ≡ Granting (Some new) → A
  no_first n new is = absurd (calm_context (context_at k n) (Granting (Some new)) (calm n) (λ same. cc) (λ c. c) is)

  no_caller : {A : Type 0} (n caller : ℕ) (mark : Mark) → caller_in k.contexts n ≡ Some (caller, mark) → A
  no_caller n caller mark is =
      let none : caller_in k.contexts n ≡ None =
      looked_up caller_of refl k.contexts n ∙ ap (λ (l : List (Option (ℕ × Mark))). entry (slice_get l n)) shows.callers_are ∙ none_at n in
      absurd (let both : ◌≡◌ {A = Option (ℕ × Mark)} None (Some (caller, mark)) = sym none ∙ is in cc)

  member : (S : ℕ → Type 0) (n pd cpu : ℕ) (kind : EcKind) (event : ℕ) → slice_get k.objects n ≡ Some (Ec pd cpu kind event) → S pd → IsMember k S n
  member S n pd cpu kind event is s = record { domain = pd; cpu = cpu; kind = kind; event = event; object = is; of = s }

  -- of side 0 or 1
  leads_to : (side pd : ℕ) (d : Derivation) → side < 2 → (pd ≡ 3 + side) ⊎ (pd ≡ 9 + side) → d.pd ≡ pd → d.kind ≡ Obj → IsHeld d → d.target ≡ 7 + side
  leads_to side pd d few own its kind (ByRoot none) = absurd (elim own [
    | inl is ↦ omega (arith, is, its, none)
    | inr is ↦ omega (arith, is, its, none)
  ])
  leads_to side pd d few own its kind (AsPage other low at mem page) = absurd (let both : Mem ≡ Obj = sym mem ∙ kind in cc)
  leads_to side pd d few own its kind (AsPortal other low at obj_ target) = elim own [
    | inl is ↦ absurd (omega (arith, is, its, at, low, few))
    | inr is ↦ omega (arith, is, its, at, target)
  ]

  page_of : (side pd frame : ℕ) (d : Derivation) → side < 2 → (pd ≡ 3 + side) ⊎ (pd ≡ 9 + side) → d.pd ≡ pd → d.kind ≡ Mem → LeadsTo d frame → IsHeld d → frame ≡ 1 + side
  page_of side pd frame d few own its kind leads (ByRoot none) = absurd (elim own [
    | inl is ↦ omega (arith, is, its, none)
    | inr is ↦ omega (arith, is, its, none)
  ])
  page_of side pd frame d few own its kind leads (AsPortal other low at obj_ target) = absurd (let both : Mem ≡ Obj = sym kind ∙ obj_ in cc)
  page_of side pd frame d few own its kind leads (AsPage other low at mem page) = elim own [
    | inl is ↦ (let one = page frame leads in omega (arith, is, its, at, one))
    | inr is ↦ absurd (omega (arith, is, its, at, low, few))
  ]

  first_own : (pd : ℕ) → first_domains pd ≡ true → (pd ≡ 3 + 0) ⊎ (pd ≡ 9 + 0)
  first_own pd s = either pd 3 9 s

  second_own : (pd : ℕ) → other_domains pd ≡ true → (pd ≡ 3 + 1) ⊎ (pd ≡ 9 + 1)
  second_own pd s = either pd 4 10 s

  holds_first : (d : Derivation) → Contains k.delegations.list d → first_domains d.pd ≡ true → d.kind ≡ Obj → d.target ≡ 7
  holds_first d has s kind = leads_to 0 d.pd d (omega arith) (first_own d.pd s) refl kind (held d (listed d has))

  holds_second : (d : Derivation) → Contains k.delegations.list d → other_domains d.pd ≡ true → d.kind ≡ Obj → d.target ≡ 8
  holds_second d has s kind = leads_to 1 d.pd d (omega arith) (second_own d.pd s) refl kind (held d (listed d has))

  closed_first : IsClosed k (Of first_domains)
  closed_first = record {
    there = λ n s. elim (either n 3 9 s) [
      | inl is ↦ ap (slice_get k.objects) is ∙ obj 3
      | inr is ↦ ap (slice_get k.objects) is ∙ obj 9
    ];
    capabilities = λ d has s kind. subst (λ (n : ℕ). IsOwned k (Of first_domains) n (slice_get k.objects n)) (sym (holds_first d has s kind))
        (subst (IsOwned k (Of first_domains) 7) (sym (obj 7)) (member (Of first_domains) 5 3 0 Local 0 (obj 5) refl));
    edges = λ waiter handler waits_ m. no_edge waiter handler waits_;
    firsts = λ n new gives m. no_first n new gives;
  }

  closed_second : IsClosed k (Of other_domains)
  closed_second = record {
    there = λ n s. elim (either n 4 10 s) [
      | inl is ↦ ap (slice_get k.objects) is ∙ obj 4
      | inr is ↦ ap (slice_get k.objects) is ∙ obj 10
    ];
    capabilities = λ d has s kind. subst (λ (n : ℕ). IsOwned k (Of other_domains) n (slice_get k.objects n)) (sym (holds_second d has s kind))
        (subst (IsOwned k (Of other_domains) 8) (sym (obj 8)) (member (Of other_domains) 6 4 1 Local 0 (obj 6) refl));
    edges = λ waiter handler waits_ m. no_edge waiter handler waits_;
    firsts = λ n new gives m. no_first n new gives;
  }

  by_place : (n : ℕ) (s : State) → IsPlaced n (Some s) → IsIdle k (Of first_domains) (Of other_domains) n s ⊎ (IsMember k (Of first_domains) n ⊎ IsMember k (Of other_domains) n)
  by_place n Dead o = inl tt
  by_place n Parked o = inl tt
  by_place n Fresh (inl is) = inr (inl (subst (IsMember k (Of first_domains)) (sym is) (member (Of first_domains) 11 9 0 Vcpu 64 (obj 11) refl)))
  by_place n Fresh (inr is) = inr (inr (subst (IsMember k (Of other_domains)) (sym is) (member (Of other_domains) 12 10 1 Vcpu 65 (obj 12) refl)))
  by_place n other o = absurd o

  apart : AreSetsApart k (Of first_domains) (Of other_domains)
  apart = record {
    separate = record {
      first = closed_first;
      second = closed_second;
      disjoint = λ n s t. elim (either n 3 9 s) [
        | inl is ↦ elim (either n 4 10 t) [
          | inl also ↦ omega (arith, is, also)
          | inr also ↦ omega (arith, is, also)
        ]
        | inr is ↦ elim (either n 4 10 t) [
          | inl also ↦ omega (arith, is, also)
          | inr also ↦ omega (arith, is, also)
        ]
      ];
      rest = λ ec x is. by_place ec x.state (subst (IsPlaced ec) (ap (option_map (λ (y : EcState). y.state)) is) (placed ec));
    };
    objects = λ object mine theirs.
        let a = holds_first mine.capability mine.there mine.of mine.kind in
        let b = holds_second theirs.capability theirs.there theirs.of theirs.kind in
        let c = mine.leads in let d = theirs.leads in omega (arith, a, b, c, d);
    first = λ n sm blocked m holds. no_wait n sm blocked;
    second = λ n sm blocked m holds. no_wait n sm blocked;
    queues = λ n m sm first second mine theirs. no_wait n sm first;
  }

  no_alarm : {A : Type 0} (n : ℕ) (a : AlarmState) → slice_get k.times.alarms n ≡ Some a → A
  no_alarm n a at =
      absurd (let none : slice_get k.times.alarms n ≡ None = ap (λ (l : List AlarmState). slice_get l n) shows.alarms_are in
      let both : ◌≡◌ {A = Option AlarmState} None (Some a) = sym none ∙ at in cc)

  not_first : {A : Type 0} (donor n : ℕ) → donor ≡ n → first_domains (pd_in (slice_get objects_there n)) ≡ false → IsMember k (Of first_domains) donor → A
  not_first donor n is none m =
      let domain : m.domain ≡ pd_in (slice_get objects_there n) = sym (ap pd_in m.object) ∙ ap pd_in (obj donor) ∙ ap (λ (e : ℕ). pd_in (slice_get objects_there e)) is in
      no (sym (ap first_domains domain ∙ none) ∙ m.of)

  no_sm : (n : ℕ) (o : Object) → slice_get objects_there n ≡ Some o → o ≢ Sm → slice_get k.objects n ≡ Some Sm → ⊥
  no_sm n o is other h = other (same_Some o Sm (sym is ∙ sym (obj n) ∙ h))

  partitioned : IsPartitioned k (Of first_domains) (Of other_domains) (Of first_objects)
  partitioned = record {
    apart = apart;
    side = record {
      holds = λ d has s kind. subst (λ (n : ℕ). first_objects n ≡ true) (sym (holds_first d has s kind)) refl;
      handlers = λ n handler mtd ip p is. fits n (Pt handler mtd ip) is p;
      edges = λ n handler p is. no_edge n handler is;
      callers = λ n caller mark p is. no_caller n caller mark is;
      queues = λ sm n p is. absurd (let none : waits k.semaphores sm n ≡ false =
          ap (λ (l : List (Option Semaphore)). waits l sm n) shows.semaphores_are ∙ unwaited sm n in let both : ◌≡◌ {A = Bool} false true = sym none ∙ is in cc);
      blocked = λ n sm p is. absurd (calm_wait (state_in k.contexts n) sm (calm n) is);
      members = λ n pd cpu kind event is s. ((fits n (Ec pd cpu kind event) is).0 s).0;
    };
    guarded = record {
      there = own_object (λ n. IsSome (slice_get k.objects n)) (subst IsSome (sym (obj 5)) refl) (subst IsSome (sym (obj 7)) refl) (subst IsSome (sym (obj 11)) refl) (subst IsSome (sym (obj 13)) refl);
      owned = own_object (λ n. IsOwned k (Of first_domains) n (slice_get k.objects n)) (subst (IsOwned k (Of first_domains) 5) (sym (obj 5)) refl)
          (subst (IsOwned k (Of first_domains) 7) (sym (obj 7)) (member (Of first_domains) 5 3 0 Local 0 (obj 5) refl))
          (subst (IsOwned k (Of first_domains) 11) (sym (obj 11)) refl)
          (subst (IsOwned k (Of first_domains) 13) (sym (obj 13)) (member (Of first_domains) 11 9 0 Vcpu 64 (obj 11) refl));
      semaphores = λ n p is h. own_object (λ n. slice_get k.objects n ≡ Some Sm → ⊥) (no_sm 5 (Ec 3 0 Local 0) refl (λ e. cc)) (no_sm 7 (Pt 5 0 4096) refl (λ e. cc))
          (no_sm 11 (Ec 9 0 Vcpu 64) refl (λ e. cc)) (no_sm 13 (Sc 11 0 0 1) refl (λ e. cc)) n p is;
      lines = λ d a has s c t.
          all_at ComesOfRoot ranges_there d all_come (listed d has) s a (subst (λ (l : List Derivation). Contains (line l d) a) shows.ranges_are c) t;
      memory = λ pd page to s leads r.
          let l = led k.delegations.list pd page to leads in
          let here : IsIn ranges_there l.derivation = subst (λ (ds : List Derivation). IsIn ds l.derivation) shows.ranges_are l.there in
          let mine = page_of 0 pd to.frame l.derivation (omega arith) (first_own pd s) l.its l.kind l.leads (held l.derivation here) in
          let theirs = page_of 1 r.derivation.pd to.frame r.derivation (omega arith) (second_own r.derivation.pd r.of) refl r.kind r.leads (held r.derivation (listed r.derivation r.there)) in
          omega (arith, mine, theirs);
    };
  }
    where
      unwaited : (sm n : ℕ) → waits (nothing {T = Semaphore}) sm n ≡ false
      unwaited sm n = ap (λ (o : Option Semaphore). has (semaphore_in o).waiting n) (none_at sm)

  timeless : IsTimeless k (Of first_objects)
  timeless = record {
    alarms = λ n a at p. no_alarm n a at;
    deadlines = λ n p. ap (λ (l : List (Option Deadline)). entry (slice_get l n)) shows.deadlines_are ∙ none_at n;
  }

  divided : IsDivided k (Of first_domains) (Of other_domains) (Of first_objects) (Of first_processors)
  divided = record {
    has = record {
      contexts = λ n pd cpu kind event is s. ((fits n (Ec pd cpu kind event) is).0 s).1;
      schedules = λ n donor cpu priority quantum is m. elim (fits n (Sc donor cpu priority quantum) is) [
        | inl one ↦ not_first donor 1 one refl m
        | inr rest ↦ elim rest [
          | inl twelve ↦ not_first donor 12 twelve refl m
          | inr its ↦ its
        ]
      ];
      rings = λ n a at p. no_alarm n a at;
    };
    others = λ n pd cpu kind event is t c. (fits n (Ec pd cpu kind event) is).1 t c;
    creates = λ pd t may.
        let target = holds_second may.capability may.there (subst (Of other_domains) (sym may.held) t) may.kind in
        let both : Some (Pt 6 0 4096) ≡ Some Pd = sym (obj 8) ∙ ap (slice_get k.objects) (sym target) ∙ may.leads in cc;
  }

pub meets_partitioned : IsPartitioned (run (boot two_homes) (replicate 66 0)) (Of first_domains) (Of other_domains) (Of first_objects)
meets_partitioned = partitioned (run (boot two_homes) (replicate 66 0)) shown

pub meets_timeless : IsTimeless (run (boot two_homes) (replicate 66 0)) (Of first_objects)
meets_timeless = timeless (run (boot two_homes) (replicate 66 0)) shown

pub meets_divided : IsDivided (run (boot two_homes) (replicate 66 0)) (Of first_domains) (Of other_domains) (Of first_objects) (Of first_processors)
meets_divided = divided (run (boot two_homes) (replicate 66 0)) shown

pub ranges_shown : (run (boot two_homes) (replicate 66 0)).delegations.list ≡ ranges_there
ranges_shown = shown.ranges_are
