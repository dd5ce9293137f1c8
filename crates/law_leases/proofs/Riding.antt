-- n instructions of the context that acts on a processor, each of which goes on, and then n turns charged, are n turns of that processor.
use Rattle.std.proofs.Common.{◌≡◌, ℕ, zero, suc, ◌+◌, ◌-◌, ◌^◌, ◌<◌, ◌≤◌, ◌++◌, List, [], ◌∷◌, length, replicate, ap, ap₂, sym, ◌∙◌, subst, refl, arith}
use Rattle.std.specs.Prelude.{Bool, true, false, ◌==◌, ◌&&◌, if◌then◌else◌, is_some, nat_lt, nat_le, slice_get, slice_set, slice_index, Option, Some, None, IfSome, IsSome, option_and_then, option_map}
use Rattle.nova_guest.specs.declared.input.Input.{Input}
use Rattle.std.proofs.lemmas.List.{set-set}
use Rattle.std.proofs.lemmas.Option.{same_Some}
use Rattle.rv_model.specs.Registers.{Registers}
use Rattle.rv_model.specs.Step.{Once, Raised, Went, Store}
use Rattle.nova_model.specs.Choice.{Candidate, choice, in_front, next_to_act}
use Rattle.nova_model.specs.Times.{Entry, Times, clock, due_on, next_entry}
use Rattle.law_forest.proofs.Turning.{acts_next}
use Rattle.law_turns.specs.Moments.{IsEarly}
use Rattle.law_turns.proofs.Moments.{early_calm, early_fewer, next_clocks}
use Rattle.nova_model.specs.Deeds.{deed, deed_in, done, instruction, ready, stepped, stepping}
use Rattle.nova_model.specs.Inputs.{input_of, is_outside, only_if, others_input, own_input, stirred, stirred_count, stirred_from}
use Rattle.nova_model.specs.Memory.{Memory}
use Rattle.nova_model.specs.Runs.{after, run, trace}
use Rattle.nova_ec.specs.Ways.{TurnsStay}
use Rattle.nova_model.specs.State.{entry, Contexts, KernelState, budget_at, context, context_at, context_in, ec_in, ec_of, with_ec}
use Rattle.nova_model.specs.Turn.{Step, charged, chosen_by, event_of, quantum_in, state_after, taken, turn, turn_by}
use Rattle.nova_model.specs.declared.budget.Budget.{Budget}
use Rattle.nova_model.specs.declared.context.EcState.{EcState}
use Rattle.nova_model.specs.declared.context.State.TheVariants.{Ready}
use Rattle.nova_model.specs.declared.deed.Deed.{Deed}
use Rattle.nova_model.specs.declared.deed.Deed.TheVariants.{Steps}
use Rattle.nova_model.specs.declared.event.Event.{Event}
use Rattle.law_turns.proofs.Setting.{entry_itself, index_itself}
use Rattle.law_leases.specs.Advances.{budget_used, is_used, step_of}
use Rattle.law_leases.specs.Paging.{charged_at_once, charged_times}
use Rattle.law_leases.specs.Rides.{IsRideable, ride, rides, rides_by}
use Rattle.law_leases.proofs.Advanced.{set_there}
use Rattle.law_leases.proofs.Choosing.{choice_same, stamps_stay, turns_go_on}
use Rattle.law_leases.proofs.Paid.{charged_all}

-- WHAT INSTRUCTIONS LEAVE

-- registers, memory, message words and the counts of virtual CPUs alone change
pub record IsRidden (k m : KernelState) (g : ℕ) : Type 0 where
  pub regs : Registers
  pub contexts : m.contexts ≡ with_ec k.contexts g (record (context k g) { regs = regs })
  pub rest : m ≡ record k { contexts = m.contexts; memory = m.memory; messages = m.messages; stirs = record k.stirs { guests = m.stirs.guests } }

some_context : (o : Option EcState) → IsSome o → o ≡ Some (context_in o)
some_context (Some x) h = refl
some_context None h = absurd (cc)

none_ridden : (k : KernelState) (g : ℕ) → IsSome (context_at k g) → IsRidden k k g
none_ridden k g there = record {
  regs = (context k g).regs;
  contexts = sym (set_there k.contexts g (context k g) (some_context (context_at k g) there));
  rest = refl;
}

ridden_context : (k m : KernelState) (g : ℕ) → IsSome (context_at k g) → (is : IsRidden k m g) → context m g ≡ record (context k g) { regs = is.regs }
ridden_context k m g there is =
    ap (λ (cs : Contexts). ec_of cs g) is.contexts ∙ ap context_in (entry_itself k.contexts g (record (context k g) { regs = is.regs }) there)

one_ridden : (k m : KernelState) (g : ℕ) → IsSome (context_at k g) → IsRidden k m g → (regs : Registers) (store : Option Store) → IsRidden k (stirred m g Steps (stepped m g (Went regs store))) g
one_ridden k m g there is regs store =
    let next : KernelState = stirred m g Steps (stepped m g (Went regs store)) in record {
      regs = regs;
      contexts = ap₂ (λ (cs : Contexts) (x : EcState). with_ec cs g (record x { regs = regs })) is.contexts (ridden_context k m g there is)
          ∙ set-set k.contexts g (Some (record (context k g) { regs = is.regs })) (Some (record (context k g) { regs = regs }));
      rest = ap (λ (s : KernelState). record s { contexts = next.contexts; memory = next.memory; messages = next.messages; stirs = record s.stirs { guests = next.stirs.guests } }) is.rest;
    }

-- THE CHOICE STAYS

-- with fewer turns charged than are left
stamp_still : (n q stamp : ℕ) (b : Budget) → n < b.left → (budget_used (is_used n b) n q stamp b).stamp ≡ b.stamp
stamp_still n q stamp b more = ap (λ (t : Bool). (budget_used t n q stamp b).stamp) (unused n b.left more) where
  unused : (n left : ℕ) → n < left → (nat_lt 0 n && nat_le left n) ≡ false
  unused n left more = grind arith

pub charged_choice : (k m : KernelState) (cpu n : ℕ) (c : Candidate) (b : Budget) → IsRideable k cpu c b → IsRidden k m c.actor → n < b.left → choice (charged_at_once m cpu c.sc b n) cpu ≡ Some c
charged_choice k m cpu n c b may is more =
    choice_same k (charged_at_once m cpu c.sc b n) cpu (record {
      objects = ap (λ (s : KernelState). s.objects) is.rest;
      turns = λ ec. subst (λ (cs : Contexts). TurnsStay k.contexts cs ec) (sym is.contexts)
          (turns_go_on k.contexts c.actor (context k c.actor) (record (context k c.actor) { regs = is.regs }) may.edges (some_context (context_at k c.actor) may.there) refl ec);
      stamps = λ sc. ap (λ (bs : List (Option Budget)). option_map (λ (b : Budget). b.stamp) (entry (slice_get (slice_set bs c.sc (Some used)) sc))) (ap (λ (s : KernelState). s.budgets) is.rest)
          ∙ stamps_stay k.budgets c.sc b used may.budget (stamp_still n (quantum_in (slice_get m.objects c.sc)) m.next_stamp b more) sc;
    }) ∙ may.chosen
  where
    used : Budget
    used = budget_used (is_used n b) n (quantum_in (slice_get m.objects c.sc)) m.next_stamp b

-- AND NOTHING COMES DUE

early_later : (t : Times) (cpu n : ℕ) → cpu < length t.clocks → IsEarly t cpu (suc n) → IsEarly (record t { clocks = slice_set t.clocks cpu (slice_index t.clocks cpu + n) }) cpu 1
early_later t cpu n there early =
    subst (λ (o : Option Entry). IfSome (option_map (λ moment. moment - slice_index (slice_set t.clocks cpu (slice_index t.clocks cpu + n)) cpu) (option_map (λ (e : Entry). e.moment) o)) (λ left. 1 ≤ left))
    (sym (next_clocks t (slice_set t.clocks cpu (slice_index t.clocks cpu + n)) cpu)) (by_next (next_entry t cpu) early)
  where
    by_next : (o : Option Entry) → IfSome (option_map (λ moment. moment - clock t cpu) (option_map (λ (e : Entry). e.moment) o)) (λ left. suc n ≤ left) →
        IfSome (option_map (λ moment. moment - slice_index (slice_set t.clocks cpu (slice_index t.clocks cpu + n)) cpu) (option_map (λ (e : Entry). e.moment) o)) (λ left. 1 ≤ left)
    by_next None far = tt
    by_next (Some e) far = let now = index_itself t.clocks cpu (slice_index t.clocks cpu + n) there in omega (arith, now, far)

pub charged_calm : (k m : KernelState) (cpu n : ℕ) (c : Candidate) (b : Budget) → IsRideable k cpu c b → IsRidden k m c.actor → IsEarly k.times cpu (suc n) → due_on (charged_at_once m cpu c.sc b n).times cpu ≡ None
charged_calm k m cpu n c b may is early =
    subst (λ (t : Times). due_on (record t { clocks = slice_set t.clocks cpu (slice_index t.clocks cpu + n) }) cpu ≡ None) (sym (ap (λ (s : KernelState). s.times) is.rest))
    (early_calm (record k.times { clocks = slice_set k.times.clocks cpu (slice_index k.times.clocks cpu + n) }) cpu 0 (early_later k.times cpu n may.clock early))

-- A TURN

-- what an instruction is for others doesn't depend on what turns charge
same_input : (p : KernelState) (cpu sc n : ℕ) (b : Budget) (g i : ℕ) → input_of (charged_at_once p cpu sc b n) g i Steps ≡ input_of p g i Steps
unfolding input_of
same_input p cpu sc n b g i = refl

same_count : (p : KernelState) (cpu sc n : ℕ) (b : Budget) (g i : ℕ) (o : Option ℕ) → option_map (stirred_count (charged_at_once p cpu sc b n) g Steps i) o ≡ option_map (stirred_count p g Steps i) o
same_count p cpu sc n b g i None = refl
same_count p cpu sc n b g i (Some count) =
    ap (λ (o : Option Input). Some (if is_some (option_and_then (λ (x : Input). only_if (is_outside x) x) o) then count + 1 else count)) (same_input p cpu sc n b g i)

same_stirs : (p : KernelState) (cpu sc n : ℕ) (b : Budget) (g i : ℕ) (gs : List (Option ℕ)) → stirred_from (charged_at_once p cpu sc b n) g Steps i gs ≡ stirred_from p g Steps i gs
same_stirs p cpu sc n b g i [] = refl
same_stirs p cpu sc n b g i (o ∷ gs) = ap₂ (λ (x : Option ℕ) (xs : List (Option ℕ)). x ∷ xs) (same_count p cpu sc n b g i o) (same_stirs p cpu sc n b g (i + 1) gs)

pub record IsTaken (q : KernelState) (cpu : ℕ) (c : Candidate) (new : KernelState) : Type 0 where
  pub turn : turn q cpu ≡ Some (record { kernel = new; event = step_of cpu c })

deed_steps : (q : KernelState) (g : ℕ) (regs : Registers) (store : Option Store) → (context q g).state ≡ Ready → (context q g).recall ≡ false → instruction q g ≡ Went regs store → deed q g ≡ Steps
unfolding deed
deed_steps q g regs store is_ready free went = ap (deed_in q g) is_ready ∙ (ap (ready q g) free ∙ ap (stepping q g) went)

-- of an instruction that goes on
plain_turn : (q : KernelState) (cpu : ℕ) (c : Candidate) (regs : Registers) (store : Option Store) → choice q cpu ≡ Some c → due_on q.times cpu ≡ None → (context q c.actor).state ≡ Ready → (context q c.actor).recall ≡ false →
    instruction q c.actor ≡ Went regs store → IsTaken q cpu c (charged (stirred q c.actor Steps (stepped q c.actor (Went regs store))) cpu c.sc)
unfolding turn
plain_turn q cpu c regs store chosen calm is_ready free went = record {
  turn = ap (turn_by q cpu) calm ∙ ap (chosen_by q cpu) chosen
      ∙ (ap (λ (d : Deed). Some (taken q cpu c d)) (deed_steps q c.actor regs store is_ready free went)
      ∙ ap (λ (o : Once). Some (record { kernel = charged (stirred q c.actor Steps (stepped q c.actor o)) cpu c.sc; event = step_of cpu c })) went);
}

-- SEVERAL TURNS

run_more : (n : ℕ) (k : KernelState) (cpu : ℕ) → run k (replicate (suc n) cpu) ≡ after (run k (replicate n cpu)) cpu
run_more zero k cpu = refl
run_more (suc n) k cpu = run_more n (after k cpu) cpu

pub in_front_append : (o : Option Event) (xs ys : List Event) → in_front o (xs ++ ys) ≡ in_front o xs ++ ys
in_front_append None xs ys = refl
in_front_append (Some e) xs ys = refl

trace_more : (n : ℕ) (k : KernelState) (cpu : ℕ) → trace k (replicate (suc n) cpu) ≡ trace k (replicate n cpu) ++ in_front (option_map (λ (s : Step). s.event) (turn (run k (replicate n cpu)) cpu)) []
trace_more zero k cpu = refl
trace_more (suc n) k cpu =
    ap (in_front (option_map (λ (s : Step). s.event) (turn k cpu))) (trace_more n (after k cpu) cpu)
    ∙ in_front_append (option_map (λ (s : Step). s.event) (turn k cpu)) (trace (after k cpu) (replicate n cpu)) (in_front (option_map (λ (s : Step). s.event) (turn (run (after k cpu) (replicate n cpu)) cpu)) [])

replicate_push : (n : ℕ) (x : Event) → replicate n x ++ x ∷ [] ≡ replicate (suc n) x
replicate_push zero x = refl
replicate_push (suc n) x = ap (λ (xs : List Event). x ∷ xs) (replicate_push n x)

pub record IsRode (n : ℕ) (k m : KernelState) (cpu : ℕ) (c : Candidate) : Type 0 where
  pub ridden : IsRidden k m c.actor
  pub state : run k (replicate n cpu) ≡ charged_times n m cpu c.sc
  pub events : trace k (replicate n cpu) ≡ replicate n (step_of cpu c)

one_rode : (n : ℕ) (k p : KernelState) (cpu : ℕ) (c : Candidate) (b : Budget) (regs : Registers) (store : Option Store) → IsRideable k cpu c b → n < b.left → IsEarly k.times cpu (suc n) → IsRode n k p cpu c →
    instruction p c.actor ≡ Went regs store → IsRode (suc n) k (stirred p c.actor Steps (stepped p c.actor (Went regs store))) cpu c
one_rode n k p cpu c b regs store may more early was went =
    let q : KernelState = charged_at_once p cpu c.sc b n in
    let next : KernelState = stirred p c.actor Steps (stepped p c.actor (Went regs store)) in
    let budget : budget_at p c.sc ≡ Some b = ap (λ (s : KernelState). budget_at s c.sc) was.ridden.rest ∙ may.budget in
    let within : cpu < length p.stirs.processors = subst (λ (s : KernelState). cpu < length s.stirs.processors) (sym was.ridden.rest) may.processor in
    let clocked : cpu < length p.times.clocks = subst (λ (s : KernelState). cpu < length s.times.clocks) (sym was.ridden.rest) may.clock in
    let same = ridden_context k p c.actor may.there was.ridden in
    let at : charged_times n p cpu c.sc ≡ q = charged_all n p cpu c.sc b (omega (arith, more)) budget within clocked in
    let took : IsTaken q cpu c (charged (stirred q c.actor Steps (stepped q c.actor (Went regs store))) cpu c.sc) = plain_turn q cpu c regs store (charged_choice k p cpu n c b may was.ridden more) (charged_calm k p cpu n c b may was.ridden early) (ap (λ (x : EcState). x.state) same ∙ may.ready)
    (ap (λ (x : EcState). x.recall) same ∙ may.recall) went in
    let found : run k (replicate n cpu) ≡ q = was.state ∙ at in
    let charges : charged (stirred q c.actor Steps (stepped q c.actor (Went regs store))) cpu c.sc ≡ charged_times (suc n) next cpu c.sc =
    ap (λ (gs : List (Option ℕ)). charged (record (stepped q c.actor (Went regs store)) { stirs = record q.stirs { guests = gs } }) cpu c.sc) (same_stirs p cpu c.sc n b c.actor 0 p.stirs.guests)
    ∙ ap (λ (s : KernelState). charged s cpu c.sc) (sym (charged_all n next cpu c.sc b (omega (arith, more)) budget within clocked)) in record {
      ridden = one_ridden k p c.actor may.there was.ridden regs store;
      state = run_more n k cpu ∙ (ap (λ (s : KernelState). after s cpu) found ∙ (ap (state_after q) took.turn ∙ charges));
      events = trace_more n k cpu
          ∙ (ap₂ (λ (es : List Event) (s : KernelState). es ++ in_front (option_map (λ (s : Step). s.event) (turn s cpu)) []) was.events found
          ∙ (ap (λ (o : Option Step). replicate n (step_of cpu c) ++ in_front (option_map (λ (s : Step). s.event) o) []) took.turn
          ∙ replicate_push n (step_of cpu c)));
    }

none_rode : (k : KernelState) (cpu : ℕ) (c : Candidate) (b : Budget) → IsRideable k cpu c b → IsRode 0 k k cpu c
none_rode k cpu c b may = record { ridden = none_ridden k c.actor may.there; state = refl; events = refl }

by_once : (n : ℕ) (k p m : KernelState) (cpu : ℕ) (c : Candidate) (b : Budget) → IsRideable k cpu c b → n < b.left → IsEarly k.times cpu (suc n) → IsRode n k p cpu c → (o : Once) → instruction p c.actor ≡ o →
    rides_by p c.actor o ≡ Some m → IsRode (suc n) k m cpu c
by_once n k p m cpu c b may more early was (Raised reason q0 q1) went rode = absurd (cc)
by_once n k p m cpu c b may more early was (Went regs store) went rode =
    subst (λ (s : KernelState). IsRode (suc n) k s cpu c) (same_Some (stirred p c.actor Steps (stepped p c.actor (Went regs store))) m rode) (one_rode n k p cpu c b regs store may more early was went)

by_before : (n : ℕ) (k m : KernelState) (cpu : ℕ) (c : Candidate) (b : Budget) → IsRideable k cpu c b → n < b.left → IsEarly k.times cpu (suc n) → (o : Option KernelState) →
    ((p : KernelState) → o ≡ Some p → IsRode n k p cpu c) → option_and_then (ride c.actor) o ≡ Some m → IsRode (suc n) k m cpu c
by_before n k m cpu c b may more early None before rode = absurd (cc)
by_before n k m cpu c b may more early (Some p) before rode = by_once n k p m cpu c b may more early (before p refl) (instruction p c.actor) refl rode

early_less : (t : Times) (cpu n : ℕ) → IsEarly t cpu (suc n) → IsEarly t cpu n
early_less t cpu n early = early_fewer t cpu n (suc n) (omega arith) early

pub rode : (n : ℕ) (k m : KernelState) (cpu : ℕ) (c : Candidate) (b : Budget) → IsRideable k cpu c b → n ≤ b.left → IsEarly k.times cpu n → rides n k c.actor ≡ Some m → IsRode n k m cpu c
rode zero k m cpu c b may most early goes = subst (λ (s : KernelState). IsRode 0 k s cpu c) (same_Some k m goes) (none_rode k cpu c b may)
rode (suc n) k m cpu c b may most early goes =
    by_before n k m cpu c b may (omega (arith, most)) early (rides n k c.actor) (λ p is. rode n k p cpu c b may (omega (arith, most)) (early_less k.times cpu n early) is) goes

-- INSTRUCTIONS ALONE

ridden_once : (k p m : KernelState) (g : ℕ) → IsSome (context_at k g) → IsRidden k p g → (o : Once) → rides_by p g o ≡ Some m → IsRidden k m g
ridden_once k p m g there was (Raised reason q0 q1) goes = absurd (cc)
ridden_once k p m g there was (Went regs store) goes = subst (λ (s : KernelState). IsRidden k s g) (same_Some (stirred p g Steps (stepped p g (Went regs store))) m goes) (one_ridden k p g there was regs store)

ridden_more : (k m : KernelState) (g : ℕ) → IsSome (context_at k g) → (o : Option KernelState) → ((p : KernelState) → o ≡ Some p → IsRidden k p g) → option_and_then (ride g) o ≡ Some m → IsRidden k m g
ridden_more k m g there None before goes = absurd (cc)
ridden_more k m g there (Some p) before goes = ridden_once k p m g there (before p refl) (instruction p g) goes

pub ridden : (n : ℕ) (k m : KernelState) (g : ℕ) → IsSome (context_at k g) → rides n k g ≡ Some m → IsRidden k m g
ridden zero k m g there goes = subst (λ (s : KernelState). IsRidden k s g) (same_Some k m goes) (none_ridden k g there)
ridden (suc n) k m g there goes = ridden_more k m g there (rides n k g) (λ p is. ridden n k p g there is) goes

pub still_there : (k m : KernelState) (g : ℕ) → IsSome (context_at k g) → IsRidden k m g → IsSome (context_at m g)
still_there k m g there is =
    subst (λ (cs : Contexts). IsSome (ec_in cs g)) (sym is.contexts) (rw (entry_itself k.contexts g (record (context k g) { regs = is.regs }) there) refl)

-- WHAT SUCH TURNS KEEP

-- the state before the next of them
record IsNext (n : ℕ) (k : KernelState) (cpu : ℕ) (c : Candidate) : Type 0 where
  before : KernelState
  found : run k (replicate n cpu) ≡ before
  chosen : next_to_act before cpu ≡ Some c
  does : deed before c.actor ≡ Steps
  turns : before.turns ≡ k.turns + n

next_turn : (n : ℕ) (k p : KernelState) (cpu : ℕ) (c : Candidate) (b : Budget) (regs : Registers) (store : Option Store) → IsRideable k cpu c b → n < b.left → IsEarly k.times cpu (suc n) → IsRode n k p cpu c →
    instruction p c.actor ≡ Went regs store → IsNext n k cpu c
next_turn n k p cpu c b regs store may more early was went =
    let q : KernelState = charged_at_once p cpu c.sc b n in
    let budget : budget_at p c.sc ≡ Some b = ap (λ (s : KernelState). budget_at s c.sc) was.ridden.rest ∙ may.budget in
    let within : cpu < length p.stirs.processors = subst (λ (s : KernelState). cpu < length s.stirs.processors) (sym was.ridden.rest) may.processor in
    let clocked : cpu < length p.times.clocks = subst (λ (s : KernelState). cpu < length s.times.clocks) (sym was.ridden.rest) may.clock in
    let same = ridden_context k p c.actor may.there was.ridden in record {
      before = q;
      found = was.state ∙ charged_all n p cpu c.sc b (omega (arith, more)) budget within clocked;
      chosen = acts_next q cpu c (charged_choice k p cpu n c b may was.ridden more) (charged_calm k p cpu n c b may was.ridden early);
      does = deed_steps q c.actor regs store (ap (λ (x : EcState). x.state) same ∙ may.ready) (ap (λ (x : EcState). x.recall) same ∙ may.recall) went;
      turns = ap (λ (s : KernelState). s.turns + n) was.ridden.rest;
    }

next_once : (n : ℕ) (k p m : KernelState) (cpu : ℕ) (c : Candidate) (b : Budget) → IsRideable k cpu c b → n < b.left → IsEarly k.times cpu (suc n) → IsRode n k p cpu c → (o : Once) → instruction p c.actor ≡ o →
    rides_by p c.actor o ≡ Some m → IsNext n k cpu c
next_once n k p m cpu c b may more early was (Raised reason q0 q1) went goes = absurd (cc)
next_once n k p m cpu c b may more early was (Went regs store) went goes = next_turn n k p cpu c b regs store may more early was went

-- whatever each turn of a plain step keeps
pub kept_along : (P : KernelState → Type 0) (cpu : ℕ) (c : Candidate) → ((q : KernelState) → next_to_act q cpu ≡ Some c → deed q c.actor ≡ Steps → q.turns < 2 ^ 31 → P q → P (after q cpu)) →
    (n : ℕ) (k m : KernelState) (b : Budget) → IsRideable k cpu c b → n ≤ b.left → IsEarly k.times cpu n → k.turns + n ≤ 2 ^ 31 → rides n k c.actor ≡ Some m → P k → P (run k (replicate n cpu))
kept_along P cpu c keeps zero k m b may most early few goes holds = holds
kept_along P cpu c keeps (suc n) k m b may most early few goes holds =
    by_last (rides n k c.actor) refl goes (λ p is. kept_along P cpu c keeps n k p b may (omega (arith, most)) (early_less k.times cpu n early) (omega (arith, few)) is holds) where
      by_last : (o : Option KernelState) → rides n k c.actor ≡ o → option_and_then (ride c.actor) o ≡ Some m → ((p : KernelState) → rides n k c.actor ≡ Some p → P (run k (replicate n cpu))) →
          P (run k (replicate (suc n) cpu))
      by_last None is last so_far = absurd (cc)
      by_last (Some p) is last so_far =
          let next = next_once n k p m cpu c b may (omega (arith, most)) early (rode n k p cpu c b may (omega (arith, most)) (early_less k.times cpu n early) is) (instruction p c.actor) refl last in
          let before : P next.before = subst P next.found (so_far p is) in
          let turns = next.turns in
          subst P (sym (run_more n k cpu ∙ ap (λ (s : KernelState). after s cpu) next.found)) (keeps next.before next.chosen next.does (omega (arith, turns, few)) before)
