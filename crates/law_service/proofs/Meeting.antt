-- A run with a server that meets the premises: what they look at in its states is computed.
use Rattle.std.proofs.Common.{◌≡◌, ℕ, List, [], ◌∷◌, refl, sym, ap, ◌∙◌, subst}
use Rattle.std.specs.Prelude.{Bool, true, false, Contains, map, replicate, slice_get, Option, Some, None}
use Rattle.std.specs.List.{AllByRecursion}
use Rattle.std.proofs.lemmas.Option.{same_Some}
use Rattle.rv_model.specs.Codes.{instr_of}
use Rattle.rv_model.specs.Step.{one}
use Rattle.nova_calls.specs.Hypercalls.{call_of}
use Rattle.nova_objects.specs.declared.object.EcKind.TheVariants.{Global, Local, Vcpu}
use Rattle.nova_objects.specs.declared.object.Object.{Object}
use Rattle.nova_objects.specs.declared.object.Object.TheVariants.{Pd, Ec, Sc, Pt}
use Rattle.nova_range.specs.declared.range.Kind.{Kind}
use Rattle.nova_range.specs.declared.range.Kind.TheVariants.{Mem, Obj}
use Rattle.nova_model.specs.Boot.{boot}
use Rattle.nova_model.specs.Choice.{choice, next_to_act}
use Rattle.nova_model.specs.Deeds.{deed}
use Rattle.nova_model.specs.Edges.{caller_in, is_giving, state_in}
use Rattle.nova_model.specs.Inputs.{input_of}
use Rattle.nova_model.specs.Runs.{after, run}
use Rattle.nova_model.specs.Semaphores.{has, semaphore_in, waits}
use Rattle.nova_model.specs.State.{KernelState, Semaphore, context, entry, is_thread, is_thread_in, no_words}
use Rattle.nova_model.specs.Times.{next_entry}
use Rattle.nova_model.specs.Turn.{charged, turn}
use Rattle.nova_model.specs.declared.context.Mark.{Mark}
use Rattle.nova_model.specs.declared.context.State.{State}
use Rattle.nova_model.specs.declared.context.State.TheVariants.{Dead, Exiting, Fresh, Helping, Parked}
use Rattle.nova_model.specs.declared.delegation.Derivation.{Derivation}
use Rattle.nova_utcb.specs.Messages.{copied, exited}
use Rattle.law_forest.proofs.Members.{IsIn, all_at, in_from_contains}
use Rattle.law_isolation.proofs.Runs.{reached_sound}
use Rattle.law_origins.specs.Giving.{Acts}
use Rattle.law_integrity.specs.Confined.{Of}
use Rattle.law_integrity.specs.Rights.{Again, AtCall, IsAsking}
use Rattle.law_turns.specs.Revoking.{is_revoking}
use Rattle.law_flow.specs.Flow.{AreAtWorkTimeless, AreRevokingWithin, GivesWithin, IsAtWork, IsSide, RevokesNothing, own_turn, fixed}
use Rattle.law_flow.proofs.Deriving.{revoking_itself, within_by}
use Rattle.law_integrity.proofs.Meeting.{IsCalm}
use Rattle.law_flow.proofs.Looking.{AllAt, at_all, calm_edge, calm_wait, entry_at, led, looked_up, no}
use Rattle.law_turns.specs.Links.{caller_at as caller_of, state_at as state_of}
use Rattle.law_service.specs.Examples.{served_tenants, tenant_domain, tenant_objects}
use Rattle.law_service.specs.Service.{AreAdmitted, ByComputing, ByGift, Enters, Entry, IsWalled, Own, Return, computes, course, entry_in, returned}

-- WHAT THE STATES ARE

abbrev pub first : KernelState
first = run (boot served_tenants) (replicate 59 0)

abbrev pub second : KernelState
second = after first 0

abbrev pub third : KernelState
third = after second 0

abbrev pub fourth : KernelState
fourth = after third 0

abbrev pub objects_there : List Object
objects_there = Pd ∷ Ec 0 0 Global 16 ∷ Sc 1 0 1 100 ∷ Pd ∷ Ec 3 0 Local 0 ∷ Ec 3 1 Local 0 ∷ Pt 4 0 4096 ∷ Pt 5 0 4096 ∷ Pd ∷ Pd ∷ Ec 8 0 Vcpu 64 ∷ Ec 9 1 Vcpu 65 ∷ Sc 10 0 0 1 ∷ Sc 11 1 0 1 ∷ []

abbrev pub range_there : ℕ → ℕ → Kind → ℕ → ℕ → ℕ → ℕ → Option ℕ → Derivation
range_there id pd kind base order rights target parent = record { id = id; pd = pd; kind = kind; base = base; order = order; rights = record { 0 = rights }; target = target; parent = parent }

abbrev pub ranges_there : List Derivation
ranges_there =
    range_there 0 0 Mem 0 2 7 0 None ∷ range_there 1 0 Obj 0 0 1 0 None ∷ range_there 2 0 Obj 1 0 7 1 None ∷ range_there 3 0 Obj 2 0 1 2 None ∷ range_there 4 0 Obj 32 0 1 3 None
    ∷ range_there 5 3 Mem 1 0 7 1 (Some 0) ∷ range_there 6 0 Obj 34 0 7 4 None ∷ range_there 7 0 Obj 35 0 7 5 None ∷ range_there 8 0 Obj 64 0 7 6 None ∷ range_there 9 0 Obj 65 0 7 7 None
    ∷ range_there 10 0 Obj 36 0 1 8 None ∷ range_there 11 8 Obj 64 0 4 6 (Some 8) ∷ range_there 12 0 Obj 37 0 1 9 None ∷ range_there 13 9 Obj 65 0 4 7 (Some 9) ∷ range_there 14 0 Obj 38 0 7 10 None
    ∷ range_there 15 0 Obj 39 0 7 11 None ∷ range_there 16 0 Obj 40 0 1 12 None ∷ range_there 17 0 Obj 41 0 1 13 None ∷ []

abbrev pub states_there : List (Option State)
states_there = None ∷ Some Dead ∷ None ∷ None ∷ Some Parked ∷ Some Parked ∷ None ∷ None ∷ None ∷ None ∷ Some Fresh ∷ Some Fresh ∷ None ∷ None ∷ []

abbrev pub nothing : {T : Type 0} → List (Option T)
nothing = None ∷ None ∷ None ∷ None ∷ None ∷ None ∷ None ∷ None ∷ None ∷ None ∷ None ∷ None ∷ None ∷ None ∷ []

objects_are : first.objects ≡ objects_there
unfolding one instr_of call_of choice deed input_of next_entry charged turn
objects_are = refl

ranges_are : first.delegations.list ≡ ranges_there
unfolding one instr_of call_of choice deed input_of next_entry charged turn
ranges_are = refl

states_are : map state_of first.contexts ≡ states_there
unfolding one instr_of call_of choice deed input_of next_entry charged turn
states_are = refl

callers_are : map caller_of first.contexts ≡ nothing {T = ℕ × Mark}
unfolding one instr_of call_of choice deed input_of next_entry charged turn
callers_are = refl

semaphores_are : first.semaphores ≡ nothing {T = Semaphore}
unfolding one instr_of call_of choice deed input_of next_entry charged turn
semaphores_are = refl

later_ranges_are : third.delegations.list ≡ ranges_there
unfolding one instr_of call_of choice deed input_of next_entry charged turn
later_ranges_are = refl

pub own_first : own_turn tenant_domain first 0 ≡ Some (10, 12)
unfolding one instr_of call_of choice deed input_of next_entry next_to_act charged turn
own_first = refl

pub own_second : own_turn tenant_domain second 0 ≡ Some (10, 12)
unfolding one instr_of call_of choice deed input_of next_entry next_to_act charged turn
own_second = refl

own_third : own_turn tenant_domain third 0 ≡ None
unfolding one instr_of call_of choice deed input_of next_entry next_to_act charged turn
own_third = refl

own_fourth : own_turn tenant_domain fourth 0 ≡ None
unfolding one instr_of call_of choice deed input_of next_entry next_to_act charged turn
own_fourth = refl

fresh_state : (context first 10).state ≡ Fresh
unfolding one instr_of call_of choice deed input_of next_entry charged turn
fresh_state = refl

exit_state : (context second 10).state ≡ Exiting 0 0 0
unfolding one instr_of call_of choice deed input_of next_entry charged turn
exit_state = refl

no_thread : is_thread first 10 ≡ false
no_thread = ap (λ (l : List Object). is_thread_in (slice_get l 10)) objects_are

still_no_thread : is_thread second 10 ≡ false
unfolding one instr_of call_of choice deed input_of next_entry charged turn
still_no_thread = refl

third_acts : Acts third 0 4
unfolding one instr_of call_of choice deed input_of next_entry next_to_act charged turn
third_acts = refl

third_steps : computes (deed third 4) ≡ true
unfolding one instr_of call_of choice deed input_of next_entry charged turn
third_steps = refl

-- the reply names no group, so that nothing is written back
abbrev pub reply : Entry
reply = record { gift = Some (Return 4 10 no_words); actor = Some 4; payer = None }

fourth_enters : entry_in tenant_domain tenant_objects fourth 0 ≡ Some reply
unfolding one instr_of call_of choice deed input_of next_entry next_to_act charged turn copied exited returned
fourth_enters = refl

pub courses : course tenant_domain tenant_objects first (replicate 4 0) ≡ Own 10 12 ∷ Own 10 12 ∷ Enters reply ∷ []
unfolding one instr_of call_of choice deed input_of next_entry next_to_act charged turn copied exited returned
courses = refl

-- THE SIDE

-- the tenant's domain holds its portal alone
abbrev IsHeld : Derivation → Type 0
IsHeld d = tenant_domain d.pd ≡ true → (d.kind ≡ Obj) × (tenant_objects d.target ≡ true)

all_held : AllByRecursion IsHeld ranges_there
all_held = (λ h. no h, (λ h. no h, (λ h. no h, (λ h. no h, (λ h. no h, (λ h. no h, (λ h. no h, (λ h. no h, (λ h. no h, (λ h. no h, (λ h. no h, (λ h. (refl, refl), (λ h. no h, (λ h. no h, (λ h. no h, (λ h. no h, (λ h. no h, (λ h. no h, tt))))))))))))))))))

abbrev Fits : ℕ → Object → Type 0
Fits n (Ec pd cpu kind event) = tenant_domain pd ≡ true → tenant_objects n ≡ true
Fits n (Pt handler mtd ip) = tenant_objects n ≡ true → tenant_objects handler ≡ true
Fits n other = Unit {0}

all_fit : AllAt Fits objects_there
all_fit = (tt, (λ h. no h, (tt, (tt, (λ h. no h, (λ h. no h, (λ h. refl, (λ h. no h, (tt, (tt, (λ h. refl, (λ h. no h, (tt, (tt, tt))))))))))))))

all_calm : AllAt (λ (n : ℕ) (o : Option State). IsCalm o) states_there
all_calm = (tt, (tt, (tt, (tt, (tt, (tt, (tt, (tt, (tt, (tt, (tt, (tt, (tt, (tt, tt))))))))))))))

none_at : {T : Type 0} (n : ℕ) → entry (slice_get (nothing {T = T}) n) ≡ None
none_at {T} n = entry_at (λ (m : ℕ) (o : Option T). ◌≡◌ {A = Option T} o None) (nothing {T = T}) (λ m. refl) (refl, (refl, (refl, (refl, (refl, (refl, (refl, (refl, (refl, (refl, (refl, (refl, (refl, (refl, tt)))))))))))))) n

-- a state with these tables
pub record HasTables (k : KernelState) : Type 0 where
  pub objects : k.objects ≡ objects_there
  pub ranges : k.delegations.list ≡ ranges_there
  pub states : map state_of k.contexts ≡ states_there
  pub callers : map caller_of k.contexts ≡ nothing {T = ℕ × Mark}
  pub semaphores : k.semaphores ≡ nothing {T = Semaphore}

calm : (k : KernelState) → HasTables k → (n : ℕ) → IsCalm (state_in k.contexts n)
calm k t n =
    subst IsCalm (sym (looked_up state_of refl k.contexts n ∙ ap (λ (l : List (Option State)). entry (slice_get l n)) t.states))
    (entry_at (λ (m : ℕ) (o : Option State). IsCalm o) states_there (λ m. tt) all_calm n)

fits : (k : KernelState) → HasTables k → (n : ℕ) (o : Object) → slice_get k.objects n ≡ Some o → Fits n o
fits k t n o is = at_all Fits objects_there all_fit n o (sym (ap (λ (l : List Object). slice_get l n) t.objects) ∙ is)

held : (k : KernelState) → HasTables k → (d : Derivation) → Contains k.delegations.list d → IsHeld d
held k t d there = all_at IsHeld ranges_there d all_held (in_from_contains ranges_there d (subst (λ (l : List Derivation). Contains l d) t.ranges there))

pub side_by : (k : KernelState) → HasTables k → IsSide k (Of tenant_domain) (Of tenant_objects)
side_by k t = record {
  holds = λ d there s kind. (held k t d there s).1;
  handlers = λ n handler mtd ip p is. fits k t n (Pt handler mtd ip) is p;
  edges = λ n handler p is. absurd (calm_edge (state_in k.contexts n) handler (calm k t n) is);
  callers = λ n caller mark p is.
      absurd (let none : caller_in k.contexts n ≡ None = looked_up caller_of refl k.contexts n ∙ ap (λ (l : List (Option (ℕ × Mark))). entry (slice_get l n)) t.callers ∙ none_at n in
      let both : ◌≡◌ {A = Option (ℕ × Mark)} None (Some (caller, mark)) = sym none ∙ is in cc);
  queues = λ sm n p is.
      absurd (let none : waits k.semaphores sm n ≡ false = ap (λ (l : List (Option Semaphore)). waits l sm n) t.semaphores ∙ ap (λ (o : Option Semaphore). has (semaphore_in o).waiting n) (none_at sm) in
      let both : ◌≡◌ {A = Bool} false true = sym none ∙ is in cc);
  blocked = λ n sm p is. absurd (calm_wait (state_in k.contexts n) sm (calm k t n) is);
  members = λ n pd cpu kind event is s. fits k t n (Ec pd cpu kind event) is s;
}

pub side : IsSide first (Of tenant_domain) (Of tenant_objects)
side = side_by first (record { objects = objects_are; ranges = ranges_are; states = states_are; callers = callers_are; semaphores = semaphores_are })

-- nothing that others hold is made of what the tenant holds
pub revoking : AreRevokingWithin first first (Of tenant_domain)
revoking = revoking_itself first (Of tenant_domain) (reached_sound served_tenants (replicate 59 0)) (within_by first tenant_domain ranges_there ranges_are refl)

-- AT WORK

pub works_as : (k : KernelState) (s : State) → (context k 10).state ≡ s → is_giving s ≡ false → is_revoking s ≡ false → ((handler : ℕ) → s ≡ Helping handler → ⊥) → is_thread k 10 ≡ false →
    IsAtWork ⊥ (RevokesNothing k (Of tenant_domain)) (false ≡ true) (false ≡ true) k 10
works_as k s is calm unrevoking never none = record {
  calls = λ asks. absurd (by_asks asks);
  gives = λ h. absurd (let both : false ≡ true = sym (ap is_giving is ∙ calm) ∙ h in cc);
  revokes = λ h. sym (ap is_revoking is ∙ unrevoking) ∙ h;
}
  where
    by_asks : IsAsking k 10 → ⊥
    by_asks (Again handler at) = never handler (sym is ∙ at)
    by_asks (AtCall c) = let both : false ≡ true = sym none ∙ c.thread in cc

pub first_works : IsAtWork ⊥ (RevokesNothing first (Of tenant_domain)) (false ≡ true) (false ≡ true) first 10
first_works = works_as first Fresh fresh_state refl refl (λ handler is. cc) no_thread

pub second_works : IsAtWork ⊥ (RevokesNothing second (Of tenant_domain)) (false ≡ true) (false ≡ true) second 10
second_works = works_as second (Exiting 0 0 0) exit_state refl refl (λ handler is. cc) still_no_thread

pub own_works : (k : KernelState) → own_turn tenant_domain k 0 ≡ Some (10, 12) → IsAtWork ⊥ (RevokesNothing k (Of tenant_domain)) (false ≡ true) (false ≡ true) k 10 → (ec sc : ℕ) → own_turn tenant_domain k 0 ≡ Some (ec, sc) → IsAtWork ⊥ (RevokesNothing k (Of tenant_domain)) (false ≡ true) (false ≡ true) k ec
own_works k own works ec sc is =
    let same : ◌≡◌ {A = ℕ × ℕ} (10, 12) (ec, sc) = same_Some {A = ℕ × ℕ} (10, 12) (ec, sc) (sym own ∙ is) in
    subst (IsAtWork ⊥ (RevokesNothing k (Of tenant_domain)) (false ≡ true) (false ≡ true) k) (ap (λ (p : ℕ × ℕ). p.0) same) works

pub none_works : (k : KernelState) (cpu : ℕ) → own_turn tenant_domain k cpu ≡ None → (ec sc : ℕ) → own_turn tenant_domain k cpu ≡ Some (ec, sc) → IsAtWork ⊥ (RevokesNothing k (Of tenant_domain)) (false ≡ true) (false ≡ true) k ec
none_works k cpu none ec sc is = absurd (let both : ◌≡◌ {A = Option (ℕ × ℕ)} None (Some (ec, sc)) = sym none ∙ is in cc)

pub works : AreAtWorkTimeless (fixed false) tenant_domain first (replicate 4 0)
works = (own_works first own_first first_works, (own_works second own_second second_works, (none_works third 0 own_third, (none_works fourth 0 own_fourth, tt))))

-- ADMITTED

pub walled_by : (k : KernelState) (ec : ℕ) → k.delegations.list ≡ ranges_there → IsWalled k (Of tenant_domain) ec
walled_by k ec same pd page to store s leads reaches =
    let l = led k.delegations.list pd page to leads in
    let at : IsIn ranges_there l.derivation = subst (λ (ds : List Derivation). IsIn ds l.derivation) same l.there in
    let object : l.derivation.kind ≡ Obj = (all_at IsHeld ranges_there l.derivation all_held at (subst (λ (n : ℕ). tenant_domain n ≡ true) (sym l.its) s)).0 in
    let both : Mem ≡ Obj = sym l.kind ∙ object in
    cc

pub none_own : {A : Type 0} (k : KernelState) → own_turn tenant_domain k 0 ≡ Some (10, 12) → own_turn tenant_domain k 0 ≡ None → A
none_own k own none = absurd (let both : ◌≡◌ {A = Option (ℕ × ℕ)} None (Some (10, 12)) = sym none ∙ own in cc)

pub within_as : (k : KernelState) (s : State) → (context k 10).state ≡ s → is_giving s ≡ false → own_turn tenant_domain k 0 ≡ Some (10, 12) → GivesWithin tenant_domain k 0
within_as k s is calm own ec sc at h =
    let same : ◌≡◌ {A = ℕ × ℕ} (10, 12) (ec, sc) = same_Some {A = ℕ × ℕ} (10, 12) (ec, sc) (sym own ∙ at) in
    let both : false ≡ true = sym (ap is_giving is ∙ calm) ∙ ap (λ (p : ℕ × ℕ). is_giving (context k p.0).state) same ∙ h in
    absurd (cc)

pub first_within : GivesWithin tenant_domain first 0
first_within = within_as first Fresh fresh_state refl own_first

pub second_within : GivesWithin tenant_domain second 0
second_within = within_as second (Exiting 0 0 0) exit_state refl own_second

pub none_within : (k : KernelState) (cpu : ℕ) → own_turn tenant_domain k cpu ≡ None → GivesWithin tenant_domain k cpu
none_within k cpu none ec sc is = absurd (let both : ◌≡◌ {A = Option (ℕ × ℕ)} None (Some (ec, sc)) = sym none ∙ is in cc)

pub admitted : AreAdmitted tenant_domain tenant_objects first (replicate 4 0)
admitted = (
  λ none. none_own first own_first none,
  first_within,
  (
    λ none. none_own second own_second none,
    second_within,
    (λ none. ByComputing 4 third_acts third_steps (walled_by third 4 later_ranges_are), none_within third 0 own_third, (λ none. ByGift reply fourth_enters refl, none_within fourth 0 own_fourth, tt)),
  ),
)
