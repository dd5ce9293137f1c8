-- A run that comes to a side that creates alone: what the premises look at is computed, and then each part is looked up.
use Rattle.std.proofs.Common.{arith, ◌≡◌, ◌⊎◌, ◌≤◌, ◌<◌, ℕ, zero, suc, ◌==◌, List, [], ◌∷◌, length, refl, sym, ap, ◌∙◌, subst, inl, inr}
use Rattle.std.specs.Prelude.{Bool, true, false, ◌||◌, Contains, IsSome, map, nat_le, nat_lt, replicate, slice_get, Option, Some, None, option_map}
use Rattle.std.specs.List.{AllByRecursion}
use Rattle.std.proofs.lemmas.Bool.{eqb-true}
use Rattle.std.proofs.lemmas.Bool.Decides.{nat_tests}
use Rattle.rv_model.specs.Codes.{instr_of}
use Rattle.rv_model.specs.Step.{one}
use Rattle.nova_calls.specs.Hypercalls.{call_of}
use Rattle.nova_objects.specs.declared.object.EcKind.TheVariants.{Global}
use Rattle.nova_objects.specs.declared.object.Object.{Object}
use Rattle.nova_objects.specs.declared.object.Object.TheVariants.{Pd, Ec, Sc, Pt, Sm}
use Rattle.nova_range.specs.declared.range.Kind.TheVariants.{Mem, Obj}
use Rattle.nova_utcb.specs.Messages.{exited}
use Rattle.nova_model.specs.Boot.{boot}
use Rattle.nova_model.specs.Choice.{choice, next_to_act}
use Rattle.nova_model.specs.Deeds.{deed}
use Rattle.nova_model.specs.Edges.{caller_in, edge, state_in}
use Rattle.nova_model.specs.Inputs.{input_of}
use Rattle.nova_model.specs.Lines.{line}
use Rattle.nova_model.specs.Runs.{run}
use Rattle.nova_model.specs.Semaphores.{has, semaphore_in, waits}
use Rattle.nova_model.specs.State.{KernelState, Semaphore, context, context_at, entry}
use Rattle.nova_model.specs.Times.{next_entry}
use Rattle.nova_model.specs.Turn.{charged, turn}
use Rattle.nova_model.specs.declared.context.EcState.{EcState}
use Rattle.nova_model.specs.declared.context.Mark.{Mark}
use Rattle.nova_model.specs.declared.context.State.{State}
use Rattle.nova_model.specs.declared.context.State.TheVariants.{Blocked, Fresh, Granting, Ready}
use Rattle.nova_model.specs.declared.deed.Deed.TheVariants.{Gives, Opens}
use Rattle.nova_model.specs.declared.delegation.Derivation.{Derivation}
use Rattle.nova_model.specs.declared.times.AlarmState.{AlarmState}
use Rattle.nova_model.specs.declared.times.Deadline.{Deadline}
use Rattle.law_forest.proofs.Members.{IsIn, all_at, contains_from_in, in_from_contains}
use Rattle.law_turns.specs.Links.{caller_at as caller_of, state_at as state_of}
use Rattle.law_integrity.specs.Confined.{AreSetsApart, IsClosed, IsIdle, IsMember, IsOwned, Of}
use Rattle.law_integrity.proofs.Meeting.{IsCalm}
use Rattle.law_isolation.proofs.Runs.{reached_sound}
use Rattle.law_flow.specs.Examples.{first_page, first_processors, lone_maker, made_domains, maker_domains, maker_objects, maker_turns}
use Rattle.law_flow.specs.Flow.{AreAtWorkTimeless, AreCreatingAlone, AreRevokingWithin, IsCreatingAlone, IsPartitioned, IsTimeless, OthersMakeNothing, domains, existing}
use Rattle.law_flow.specs.Processors.{IsDivided, StayOn}
use Rattle.law_flow.proofs.Apart.{free}
use Rattle.law_flow.proofs.Deriving.{revoking_itself, within_by}
use Rattle.law_flow.proofs.Existing.{domain_at, existing_below, in_domains, in_existing, is_below, of_domains, of_existing}
use Rattle.law_flow.proofs.Looking.{AllAt, at_all, calm_context, calm_edge, calm_wait, entry_at, looked_up, no}
use Rattle.law_flow.proofs.Sets.{line_in}
use Rattle.law_flow.proofs.Working.{all_stay_on, are_unmade, are_work, stay_so, unmade_so, works_so}

-- WHAT THE PREMISES LOOK AT

abbrev objects_there : List Object
objects_there = Pd ∷ Ec 0 0 Global 16 ∷ Sc 1 0 1 100 ∷ Pd ∷ Ec 3 1 Global 0 ∷ Sc 4 1 1 1 ∷ []

abbrev ranges_there : List Derivation
ranges_there =
    record { id = 0; pd = 0; kind = Mem; base = 0; order = 1; rights = record { 0 = 7 }; target = 0; parent = None } ∷
    record { id = 1; pd = 0; kind = Obj; base = 0; order = 0; rights = record { 0 = 1 }; target = 0; parent = None } ∷
    record { id = 2; pd = 0; kind = Obj; base = 1; order = 0; rights = record { 0 = 7 }; target = 1; parent = None } ∷
    record { id = 3; pd = 0; kind = Obj; base = 2; order = 0; rights = record { 0 = 1 }; target = 2; parent = None } ∷ []

abbrev states_there : List (Option State)
states_there = None ∷ Some Ready ∷ None ∷ None ∷ Some Fresh ∷ None ∷ []

abbrev nothing : {T : Type 0} → List (Option T)
nothing = None ∷ None ∷ None ∷ None ∷ None ∷ None ∷ []

record Shows (k : KernelState) : Type 0 where
  objects_are : k.objects ≡ objects_there
  ranges_are : k.delegations.list ≡ ranges_there
  states_are : map state_of k.contexts ≡ states_there
  callers_are : map caller_of k.contexts ≡ nothing {T = ℕ × Mark}
  semaphores_are : k.semaphores ≡ nothing {T = Semaphore}
  deadlines_are : k.times.deadlines ≡ nothing {T = Deadline}
  alarms_are : k.times.alarms ≡ []

shown : Shows (run (boot lone_maker) (replicate 22 0))
unfolding one instr_of call_of choice deed input_of next_entry charged turn exited
shown = record { objects_are = refl; ranges_are = refl; states_are = refl; callers_are = refl; semaphores_are = refl; deadlines_are = refl; alarms_are = refl }

-- ALL OF THEM

none_at : {T : Type 0} (n : ℕ) → entry (slice_get (nothing {T = T}) n) ≡ None
none_at {T} n = entry_at (λ (m : ℕ) (o : Option T). ◌≡◌ {A = Option T} o None) (nothing {T = T}) (λ m. refl) (refl, (refl, (refl, (refl, (refl, (refl, tt)))))) n

-- who is there: the root's and the other's
abbrev IsPlaced : ℕ → Option State → Type 0
IsPlaced n None = Unit {0}
IsPlaced n (Some Ready) = n ≡ 1
IsPlaced n (Some Fresh) = n ≡ 4
IsPlaced n other = ⊥

placed_calm : (n : ℕ) (o : Option State) → IsPlaced n o → IsCalm o
placed_calm n None p = tt
placed_calm n (Some Ready) p = tt
placed_calm n (Some Fresh) p = tt
placed_calm n (Some other) p = absurd p

-- whatever is held the root holds, of its own objects
abbrev IsRoots : Derivation → Type 0
IsRoots d = (d.pd ≡ 0) × (d.kind ≡ Obj → (d.target ≡ 0) ⊎ ((d.target ≡ 1) ⊎ (d.target ≡ 2)))

all_roots : AllByRecursion IsRoots ranges_there
all_roots = ((refl, λ h. absurd (cc)), ((refl, λ h. inl refl), ((refl, λ h. inr (inl refl)), ((refl, λ h. inr (inr refl)), tt))))

abbrev Fits : ℕ → Object → Type 0
Fits n Pd = maker_domains n ≡ true → n ≡ 0
Fits n (Ec pd cpu kind event) = (maker_domains pd ≡ true → (n ≡ 1) × (first_processors cpu ≡ true)) × (made_domains pd ≡ true → first_processors cpu ≡ true → ⊥)
Fits n (Sc donor cpu priority quantum) = (n ≡ 2) ⊎ (donor ≡ 4)
Fits n (Pt handler mtd ip) = ⊥
Fits n Sm = ⊥

all_fit : AllAt Fits objects_there
all_fit = (λ h. refl, ((λ h. (refl, refl), λ h. no h), (inl refl, (λ h. no h, ((λ h. no h, λ h c. no c), (inr refl, tt))))))

-- NUMBERS THAT ARE LEFT

past_true : (n : ℕ) → 6 ≤ n → nat_le 6 n ≡ true
past_true n h = grind (arith, nat_tests, h)

or_true : (t u : Bool) → u ≡ true → (t || u) ≡ true
or_true true u h = refl
or_true false u h = h

-- an object whose number is below the length is there
reached_at : {T : Type 0} (xs : List T) (n : ℕ) → n < length xs → (x : T) × (slice_get xs n ≡ Some x)
reached_at [] n below = absurd (omega (arith, below))
reached_at (x ∷ xs) zero below = (x, refl)
reached_at (x ∷ xs) (suc n) below = reached_at xs n (omega (arith, below))

-- THE STATE

module _ (k : KernelState) (shows : Shows k) where
  obj : (n : ℕ) → slice_get k.objects n ≡ slice_get objects_there n
  obj n = ap (λ (os : List Object). slice_get os n) shows.objects_are

  size : length k.objects ≡ 6
  size = ap (λ (os : List Object). length os) shows.objects_are

  fits : (n : ℕ) (o : Object) → slice_get k.objects n ≡ Some o → Fits n o
  fits n o is = at_all Fits objects_there all_fit n o (sym (obj n) ∙ is)

  listed : (d : Derivation) → Contains k.delegations.list d → IsIn ranges_there d
  listed d has_ = in_from_contains ranges_there d (subst (λ (l : List Derivation). Contains l d) shows.ranges_are has_)

  roots : (d : Derivation) → Contains k.delegations.list d → IsRoots d
  roots d has_ = all_at IsRoots ranges_there d all_roots (listed d has_)

  -- the other holds nothing
  none_held : {A : Type 0} (d : Derivation) → Contains k.delegations.list d → made_domains d.pd ≡ true → A
  none_held d has_ t = no (sym (ap made_domains (roots d has_).0) ∙ t)

  placed : (n : ℕ) → IsPlaced n (state_in k.contexts n)
  placed n =
      subst (IsPlaced n) (sym (looked_up state_of refl k.contexts n ∙ ap (λ (l : List (Option State)). entry (slice_get l n)) shows.states_are))
      (entry_at IsPlaced states_there (λ m. tt) (tt, (refl, (tt, (tt, (refl, (tt, tt)))))) n)

  calm : (n : ℕ) → IsCalm (state_in k.contexts n)
  calm n = placed_calm n (state_in k.contexts n) (placed n)

  no_edge : {A : Type 0} (waiter handler : ℕ) → edge k.contexts waiter ≡ Some handler → A
  no_edge waiter handler is = absurd (calm_edge (state_in k.contexts waiter) handler (calm waiter) is)

  no_wait : {A : Type 0} (n sm : ℕ) → (context k n).state ≡ Blocked sm → A
  no_wait n sm is = absurd (calm_context (context_at k n) (Blocked sm) (calm n) (λ same. cc) (λ c. c) is)

  no_first : {A : Type 0} (n first : ℕ) → (context k n).state ≡ Granting (Some first) → A
  no_first n first is = absurd (calm_context (context_at k n) (Granting (Some first)) (calm n) (λ same. cc) (λ c. c) is)

  no_caller : {A : Type 0} (n caller : ℕ) (mark : Mark) → caller_in k.contexts n ≡ Some (caller, mark) → A
  no_caller n caller mark is =
      let none : caller_in k.contexts n ≡ None =
      looked_up caller_of refl k.contexts n ∙ ap (λ (l : List (Option (ℕ × Mark))). entry (slice_get l n)) shows.callers_are ∙ none_at n in
      absurd (let both : ◌≡◌ {A = Option (ℕ × Mark)} None (Some (caller, mark)) = sym none ∙ is in cc)

  no_alarm : {A : Type 0} (n : ℕ) (a : AlarmState) → slice_get k.times.alarms n ≡ Some a → A
  no_alarm n a at =
      absurd (let none : slice_get k.times.alarms n ≡ None = ap (λ (l : List AlarmState). slice_get l n) shows.alarms_are in
      let both : ◌≡◌ {A = Option AlarmState} None (Some a) = sym none ∙ at in cc)

  unwaited : {A : Type 0} (sm n : ℕ) → waits k.semaphores sm n ≡ true → A
  unwaited sm n is =
      let none : waits k.semaphores sm n ≡ false =
      ap (λ (l : List (Option Semaphore)). waits l sm n) shows.semaphores_are ∙ ap (λ (o : Option Semaphore). has (semaphore_in o).waiting n) (none_at sm) in
      no (sym none ∙ is)

  -- the root's domain is all of the side that is there, and three objects
  root_is : domains k maker_domains 0 ≡ true
  root_is = in_domains k maker_domains 0 refl (obj 0)

  is_root : (n : ℕ) → domains k maker_domains n ≡ true → n ≡ 0
  is_root n s = fits n Pd (domain_at k maker_domains n s) (of_domains k maker_domains n s)

  there_is : (n : ℕ) → maker_objects n ≡ true → n < 6 → existing k maker_objects n ≡ true
  there_is n p below = in_existing k maker_objects n p (let long = size in omega (arith, below, long))

  each : (Q : ℕ → Type 0) → Q 0 → Q 1 → Q 2 → (n : ℕ) → existing k maker_objects n ≡ true → Q n
  each Q zeroth first second n p =
      let o = reached_at k.objects n (is_below n (length k.objects) (existing_below k maker_objects n p)) in
      at_all (λ (m : ℕ) (x : Object). maker_objects m ≡ true → Q m) objects_there
      (λ h. zeroth, (λ h. first, (λ h. second, (λ h. no h, (λ h. no h, (λ h. no h, tt)))))) n o.0 (sym (obj n) ∙ o.1) (of_existing k maker_objects n p)

  root_member : IsMember k (Of (domains k maker_domains)) 1
  root_member = record { domain = 0; cpu = 0; kind = Global; event = 16; object = obj 1; of = root_is }

  owned : (n : ℕ) → existing k maker_objects n ≡ true → IsOwned k (Of (domains k maker_domains)) n (slice_get k.objects n)
  owned = each (λ n. IsOwned k (Of (domains k maker_domains)) n (slice_get k.objects n)) (subst (IsOwned k (Of (domains k maker_domains)) 0) (sym (obj 0)) root_is)
      (subst (IsOwned k (Of (domains k maker_domains)) 1) (sym (obj 1)) root_is) (subst (IsOwned k (Of (domains k maker_domains)) 2) (sym (obj 2)) root_member)

  held_there : (d : Derivation) → Contains k.delegations.list d → d.kind ≡ Obj → existing k maker_objects d.target ≡ true
  held_there d has_ kind = elim ((roots d has_).1 kind) [
    | inl is ↦ subst (λ (n : ℕ). existing k maker_objects n ≡ true) (sym is) (there_is 0 refl (omega arith))
    | inr rest ↦ elim rest [
      | inl is ↦ subst (λ (n : ℕ). existing k maker_objects n ≡ true) (sym is) (there_is 1 refl (omega arith))
      | inr is ↦ subst (λ (n : ℕ). existing k maker_objects n ≡ true) (sym is) (there_is 2 refl (omega arith))
    ]
  ]

  closed_first : IsClosed k (Of (domains k maker_domains))
  closed_first = record {
    there = λ n s. domain_at k maker_domains n s;
    capabilities = λ d has_ s kind. owned d.target (held_there d has_ kind);
    edges = λ waiter handler waits_ m. no_edge waiter handler waits_;
    firsts = λ n first gives m. no_first n first gives;
  }

  closed_second : IsClosed k (Of made_domains)
  closed_second = record {
    there = λ n t. ap (slice_get k.objects) (eqb-true n 3 t) ∙ obj 3;
    capabilities = λ d has_ t kind. none_held d has_ t;
    edges = λ waiter handler waits_ m. no_edge waiter handler waits_;
    firsts = λ n first gives m. no_first n first gives;
  }

  by_place : (n : ℕ) (s : State) → IsPlaced n (Some s) → IsIdle k (Of (domains k maker_domains)) (Of made_domains) n s ⊎ (IsMember k (Of (domains k maker_domains)) n ⊎ IsMember k (Of made_domains) n)
  by_place n Ready is = inr (inl (subst (IsMember k (Of (domains k maker_domains))) (sym is) root_member))
  by_place n Fresh is = inr (inr (subst (IsMember k (Of made_domains)) (sym is) (record { domain = 3; cpu = 1; kind = Global; event = 0; object = obj 4; of = refl })))
  by_place n other o = absurd o

  apart : AreSetsApart k (Of (domains k maker_domains)) (Of made_domains)
  apart = record {
    separate = record {
      first = closed_first;
      second = closed_second;
      disjoint = λ n s t. no (sym (ap made_domains (is_root n s)) ∙ t);
      rest = λ ec x is. by_place ec x.state (subst (IsPlaced ec) (ap (option_map (λ (y : EcState). y.state)) is) (placed ec));
    };
    objects = λ object mine theirs. none_held theirs.capability theirs.there theirs.of;
    first = λ n sm blocked m holds. no_wait n sm blocked;
    second = λ n sm blocked m holds. no_wait n sm blocked;
    queues = λ n m sm first second mine theirs. no_wait n sm first;
  }

  partitioned : IsPartitioned k (Of (domains k maker_domains)) (Of made_domains) (Of (existing k maker_objects))
  partitioned = record {
    apart = apart;
    side = record {
      holds = λ d has_ s kind. held_there d has_ kind;
      handlers = λ n handler mtd ip p is. absurd (fits n (Pt handler mtd ip) is);
      edges = λ n handler p is. no_edge n handler is;
      callers = λ n caller mark p is. no_caller n caller mark is;
      queues = λ sm n p is. unwaited sm n is;
      blocked = λ n sm p is. absurd (calm_wait (state_in k.contexts n) sm (calm n) is);
      members = λ n pd cpu kind event is s.
          let one = ((fits n (Ec pd cpu kind event) is).0 (of_domains k maker_domains pd s)).0 in subst (λ (m : ℕ). existing k maker_objects m ≡ true) (sym one) (there_is 1 refl (omega arith));
    };
    guarded = record {
      there = each (λ n. IsSome (slice_get k.objects n)) (subst IsSome (sym (obj 0)) refl) (subst IsSome (sym (obj 1)) refl) (subst IsSome (sym (obj 2)) refl);
      owned = owned;
      semaphores = λ n p is h. absurd (fits n Sm is);
      lines = λ d a has_ s c t.
          let i = in_from_contains (line k.delegations.list d) a c in
          none_held a (contains_from_in k.delegations.list a (line_in k.delegations.list (suc d.id) d a (in_from_contains k.delegations.list d has_) i)) t;
      memory = λ pd page to s leads r. none_held r.derivation r.there r.of;
    };
  }

  timeless : IsTimeless k (Of maker_objects)
  timeless = record {
    alarms = λ n a at p. no_alarm n a at;
    deadlines = λ n p. ap (λ (l : List (Option Deadline)). entry (slice_get l n)) shows.deadlines_are ∙ none_at n;
  }

  -- who schedules the other isn't the side's
  scheduled : (n donor cpu priority quantum : ℕ) → slice_get k.objects n ≡ Some (Sc donor cpu priority quantum) → (donor ≡ 4 → ⊥) → maker_objects n ≡ true
  scheduled n donor cpu priority quantum is away = elim (fits n (Sc donor cpu priority quantum) is) [
    | inl two ↦ ap maker_objects two
    | inr four ↦ absurd (away four)
  ]

  alone : IsCreatingAlone k (Of maker_domains) (Of maker_objects)
  alone = record {
    objects = λ n from. or_true (nat_lt n 3) (nat_le 6 n) (past_true n (let long = size in omega (arith, from, long)));
    domains = λ n from. or_true (n == 0) (nat_le 6 n) (past_true n (let long = size in omega (arith, from, long)));
    members = λ n pd cpu kind event is s. ap maker_objects ((fits n (Ec pd cpu kind event) is).0 s).0;
    schedules = λ n donor cpu priority quantum is p. scheduled n donor cpu priority quantum is (λ four. no (sym (ap maker_objects four) ∙ p));
  }

  divided : IsDivided k (Of maker_domains) (Of made_domains) (Of maker_objects) (Of first_processors)
  divided = record {
    has = record {
      contexts = λ n pd cpu kind event is s. ((fits n (Ec pd cpu kind event) is).0 s).1;
      schedules = λ n donor cpu priority quantum is m.
          scheduled n donor cpu priority quantum is (λ four.
          let one = ((fits donor (Ec m.domain m.cpu m.kind m.event) m.object).0 m.of).0 in omega (arith, four, one));
      rings = λ n a at p. no_alarm n a at;
    };
    others = λ n pd cpu kind event is t c. (fits n (Ec pd cpu kind event) is).1 t c;
    creates = λ pd t may. none_held may.capability may.there (ap made_domains may.held ∙ t);
  }

-- THE RUN

pub founds_partitioned : IsPartitioned (run (boot lone_maker) (replicate 22 0)) (Of (domains (run (boot lone_maker) (replicate 22 0)) maker_domains)) (Of made_domains) (Of (existing (run (boot lone_maker) (replicate 22 0)) maker_objects))
founds_partitioned = partitioned (run (boot lone_maker) (replicate 22 0)) shown

pub founds_timeless : IsTimeless (run (boot lone_maker) (replicate 22 0)) (Of maker_objects)
founds_timeless = timeless (run (boot lone_maker) (replicate 22 0)) shown

pub founds_alone : AreCreatingAlone (run (boot lone_maker) (replicate 22 0)) (run (boot lone_maker) (replicate 22 0)) (Of maker_domains) (Of maker_objects)
founds_alone =
    let it = alone (run (boot lone_maker) (replicate 22 0)) shown in record { first = it; second = it; objects = refl; cpus = refl }

pub founds_divided : IsDivided (run (boot lone_maker) (replicate 22 0)) (Of maker_domains) (Of made_domains) (Of maker_objects) (Of first_processors)
founds_divided = divided (run (boot lone_maker) (replicate 22 0)) shown

pub founds_revoking : AreRevokingWithin (run (boot lone_maker) (replicate 22 0)) (run (boot lone_maker) (replicate 22 0)) (Of maker_domains)
founds_revoking =
    revoking_itself (run (boot lone_maker) (replicate 22 0)) (Of maker_domains) (reached_sound lone_maker (replicate 22 0))
    (within_by (run (boot lone_maker) (replicate 22 0)) maker_domains ranges_there shown.ranges_are refl)

all_unmade : are_unmade maker_domains (run (boot lone_maker) (replicate 22 0)) maker_turns ≡ true
unfolding one instr_of call_of choice deed input_of next_entry next_to_act charged turn exited
all_unmade = refl

pub founds_nothing : OthersMakeNothing maker_domains (run (boot lone_maker) (replicate 22 0)) maker_turns
founds_nothing = unmade_so maker_domains (run (boot lone_maker) (replicate 22 0)) maker_turns all_unmade

all_on : all_stay_on maker_domains first_processors (run (boot lone_maker) (replicate 22 0)) maker_turns ≡ true
unfolding one instr_of call_of choice deed input_of next_entry next_to_act charged turn exited
all_on = refl

pub founds_on : StayOn maker_domains first_processors (run (boot lone_maker) (replicate 22 0)) maker_turns
founds_on = stay_so maker_domains first_processors (run (boot lone_maker) (replicate 22 0)) maker_turns all_on

all_work : are_work true maker_domains (run (boot lone_maker) (replicate 22 0)) maker_turns ≡ true
unfolding one instr_of call_of choice deed input_of next_entry next_to_act charged turn exited
all_work = refl

pub founds_works : AreAtWorkTimeless (free true) maker_domains (run (boot lone_maker) (replicate 22 0)) maker_turns
founds_works = works_so true maker_domains (run (boot lone_maker) (replicate 22 0)) maker_turns all_work

pub founds : deed (run (boot lone_maker) (replicate 26 0)) 1 ≡ Opens 32 6
unfolding one instr_of call_of choice deed input_of next_entry charged turn exited
founds = refl

pub founds_gives : deed (run (boot lone_maker) (replicate 27 0)) 1 ≡ Gives first_page 2
unfolding one instr_of call_of choice deed input_of next_entry charged turn exited
founds_gives = refl

-- both make, and the other's turn between them is none of the side's
pub founds_both : length (run (run (boot lone_maker) (replicate 22 0)) maker_turns).objects ≡ 8
unfolding one instr_of call_of choice deed input_of next_entry charged turn exited
founds_both = refl
