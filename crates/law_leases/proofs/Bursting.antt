-- n inputs of its own of a virtual CPU that acts, none of which puts anything out, are n turns of its processor.
use Rattle.law_turns.proofs.Moments.{early_calm, early_next}
use Rattle.law_turns.specs.Moments.{IsEarly}
use Rattle.law_forest.proofs.Turning.{acts_next}
use Rattle.std.proofs.Common.{◌≡◌, ℕ, zero, suc, ◌+◌, ◌<◌, ◌≤◌, ◌++◌, List, [], ap, ap₂, sym, ◌∙◌, subst, refl, arith}
use Rattle.std.specs.Prelude.{Bool, replicate, slice_index, Option, Some, None, IsSome, if◌then◌else◌}
use Rattle.std.proofs.lemmas.Bool.{eq-eqb}
use Rattle.std.proofs.lemmas.List.{length-set}
use Rattle.rv_model.specs.Registers.{Registers}
use Rattle.nova_guest.specs.Alone.{applied, out_before, outputs}
use Rattle.nova_guest.specs.declared.cell.Cell.{Cell}
use Rattle.nova_guest.specs.declared.guest.Guest.{Guest}
use Rattle.nova_guest.specs.declared.input.Input.{Input}
use Rattle.nova_guest.specs.declared.input.Input.TheVariants.{Own}
use Rattle.nova_guest.specs.declared.input.Out.{Out}
use Rattle.nova_guest.specs.declared.map.Map.{Map}
use Rattle.nova_model.specs.Choice.{Candidate, choice, in_front, next_to_act}
use Rattle.nova_model.specs.Deeds.{deed}
use Rattle.nova_model.specs.Guests.{input, input_by}
use Rattle.nova_model.specs.Inputs.{input_of, others_input, own_input}
use Rattle.nova_model.specs.Runs.{after, run}
use Rattle.nova_model.specs.State.{KernelState, budget_at, context, context_at, context_in}
use Rattle.nova_model.specs.Views.{cells_of, view}
use Rattle.nova_model.specs.declared.budget.Budget.{Budget}
use Rattle.nova_model.specs.declared.context.EcState.{EcState}
use Rattle.nova_model.specs.declared.deed.Deed.TheVariants.{Steps}
use Rattle.law_turns.proofs.Setting.{entry_itself}
use Rattle.law_isolation.specs.Law.{answered}
use Rattle.law_isolation.specs.Sound.{IsSound, IsVirtual}
use Rattle.law_isolation.proofs.Premises.{IsGuest, guest, premises}
use Rattle.law_isolation.proofs.Runs.{turn_is_one, turn_sound, turn_virtual}
use Rattle.law_isolation.proofs.Seen.{maps_at, view_is, view_registers as regs_seen}
use Rattle.law_leases.specs.Advances.{IsLeasable, advanced, advanced_by, frames_stored, laid_over, next_frame, own_after}
use Rattle.law_leases.proofs.Advanced.{advanced_again, advanced_none, midway, one_goes_on, paid_one}
use Rattle.law_leases.proofs.Choosing.{choice_same, stamps_stay, turns_go_on}
use Rattle.law_leases.proofs.Laying.{IsRamOf, plain_ram, ram_is_laid, ram_itself, ram_through}
use Rattle.law_leases.proofs.Stepping.{IsPlain, plain, plain_turn, ram_after}

-- ONE TURN

comes_own : (k : KernelState) (cpu : ℕ) (c : Candidate) → next_to_act k cpu ≡ Some c → deed k c.actor ≡ Steps → input k cpu c.actor ≡ Some Own
unfolding input input_of
comes_own k cpu c chosen does =
    ap (input_by k c.actor) chosen
    ∙ (ap (λ (t : Bool). if t then own_input (deed k c.actor) else others_input k c.actor c.actor (deed k c.actor)) (eq-eqb c.actor c.actor refl) ∙ ap own_input does)

pub record IsStepped (k : KernelState) (cpu : ℕ) (c : Candidate) (b : Budget) (new : KernelState) : Type 0 where
  pub regs : Registers
  pub ram : List (List ℕ)
  pub is : new ≡ advanced_by k cpu c b 1 regs ram (in_front (next_frame (view k c.actor)) [])
  pub seen : view new c.actor ≡ (applied (view k c.actor) Own).guest
  pub covers : IsRamOf (maps_at k c.actor) k.memory.ram ram

-- where nothing is due the chosen context acts
pub acts_now : (k : KernelState) (cpu n : ℕ) (c : Candidate) (b : Budget) → IsLeasable k cpu c b → IsEarly k.times cpu (suc n) → next_to_act k cpu ≡ Some c
acts_now k cpu n c b may early = acts_next k cpu c may.chosen (early_calm k.times cpu n early)

pub one_step : (k : KernelState) (cpu : ℕ) (c : Candidate) (b : Budget) → IsSound k → IsLeasable k cpu c b → next_to_act k cpu ≡ Some c → (applied (view k c.actor) Own).out ≡ None → IsStepped k cpu c b (after k cpu)
one_step k cpu c b sound may acts out =
    let its : IsGuest k c.actor = guest k c.actor sound may.guest in
    let p : IsPlain k c.actor = plain k c.actor (premises k sound) its may.ready may.recall out in
    record {
      regs = p.regs;
      ram = ram_after k c.actor p.store;
      is = plain_turn k cpu c b (premises k sound) its acts may.budget p;
      seen = (turn_is_one k cpu c.actor sound may.guest).guest ∙ ap (λ (i : Option Input). (answered (view k c.actor) i).guest) (comes_own k cpu c acts p.does);
      covers = plain_ram k c.actor p.store (premises k sound);
    }

regs_of : (k : KernelState) (cpu : ℕ) (c : Candidate) (b : Budget) (n : ℕ) (regs : Registers) (ram : List (List ℕ)) (fs : List ℕ) → IsSome (context_at k c.actor) →
    (view (advanced_by k cpu c b n regs ram fs) c.actor).regs ≡ regs
regs_of k cpu c b n regs ram fs there =
    regs_seen (advanced_by k cpu c b n regs ram fs) c.actor
    ∙ ap (λ (o : Option EcState). (context_in o).regs) (entry_itself k.contexts c.actor (record (context k c.actor) { regs = regs }) there)

-- THE CHOICE STAYS

some_of : (o : Option EcState) → IsSome o → o ≡ Some (context_in o)
some_of (Some x) h = refl
some_of None h = absurd (cc)

midway_context : (k : KernelState) (cpu : ℕ) (c : Candidate) (b : Budget) (regs : Registers) (ram : List (List ℕ)) (fs : List ℕ) → IsSome (context_at k c.actor) →
    context (midway k cpu c b regs ram fs) c.actor ≡ record (context k c.actor) { regs = regs }
midway_context k cpu c b regs ram fs there = ap context_in (entry_itself k.contexts c.actor (record (context k c.actor) { regs = regs }) there)

-- no context's state changes and no stamp, so that the chosen scheduling context stays chosen
pub choice_stays : (k : KernelState) (cpu : ℕ) (c : Candidate) (b : Budget) (regs : Registers) (ram : List (List ℕ)) (fs : List ℕ) → IsSound k → IsLeasable k cpu c b →
    choice (midway k cpu c b regs ram fs) cpu ≡ Some c
choice_stays k cpu c b regs ram fs sound may =
    choice_same k (midway k cpu c b regs ram fs) cpu (record {
      objects = refl;
      turns = λ ec. turns_go_on k.contexts c.actor (context k c.actor) (record (context k c.actor) { regs = regs }) sound.kept.edges
          (some_of (context_at k c.actor) (guest k c.actor sound may.guest).there) refl ec;
      stamps = λ sc. stamps_stay k.budgets c.sc b (paid_one b) may.budget refl sc;
    }) ∙ may.chosen

budget_there : (o : Option Budget) (b : Budget) → o ≡ Some b → IsSome o
budget_there o b h = rw h refl

midway_leasable : (k : KernelState) (cpu : ℕ) (c : Candidate) (b : Budget) (regs : Registers) (ram : List (List ℕ)) (fs : List ℕ) → IsSound k → IsLeasable k cpu c b →
    IsVirtual (midway k cpu c b regs ram fs) c.actor → IsLeasable (midway k cpu c b regs ram fs) cpu c (paid_one b)
midway_leasable k cpu c b regs ram fs sound may virtual =
    let same = midway_context k cpu c b regs ram fs (guest k c.actor sound may.guest).there in
    record {
      chosen = choice_stays k cpu c b regs ram fs sound may;
      guest = virtual;
      ready = ap (λ (x : EcState). x.state) same ∙ may.ready;
      recall = ap (λ (x : EcState). x.recall) same ∙ may.recall;
      budget = entry_itself k.budgets c.sc (paid_one b) (budget_there (budget_at k c.sc) b may.budget);
      processor = subst (λ (n : ℕ). cpu < n) (sym (length-set k.stirs.processors cpu (slice_index k.stirs.processors cpu + 1))) may.processor;
      clock = subst (λ (n : ℕ). cpu < n) (sym (length-set k.times.clocks cpu (slice_index k.times.clocks cpu + 1))) may.clock;
    }

-- SEVERAL TURNS

pub record IsAdvanced (n : ℕ) (k : KernelState) (cpu : ℕ) (c : Candidate) (b : Budget) (new : KernelState) : Type 0 where
  pub is : new ≡ advanced_by k cpu c b n (view new c.actor).regs new.memory.ram (frames_stored n (view k c.actor))
  pub seen : view new c.actor ≡ own_after n (view k c.actor)
  pub covers : IsRamOf (maps_at k c.actor) k.memory.ram new.memory.ram

no_turns : (k : KernelState) (cpu : ℕ) (c : Candidate) (b : Budget) → IsSound k → IsLeasable k cpu c b → IsAdvanced 0 k cpu c b k
no_turns k cpu c b sound may = record {
  is = advanced_none k cpu c b (guest k c.actor sound may.guest).there may.budget ∙ ap (λ (r : Registers). advanced_by k cpu c b 0 r k.memory.ram []) (sym (regs_seen k c.actor));
  seen = refl;
  covers = ram_itself (maps_at k c.actor) k.memory.ram;
}

one_turn : (k new : KernelState) (cpu : ℕ) (c : Candidate) (b : Budget) → IsSome (context_at k c.actor) → IsStepped k cpu c b new → IsAdvanced 1 k cpu c b new
one_turn k new cpu c b there step = record {
  is = step.is ∙ ap₂ (λ (r : Registers) (ram : List (List ℕ)). advanced_by k cpu c b 1 r ram (in_front (next_frame (view k c.actor)) []))
      (sym (regs_of k cpu c b 1 step.regs step.ram (in_front (next_frame (view k c.actor)) []) there) ∙ sym (ap (λ (s : KernelState). (view s c.actor).regs) step.is))
      (sym (ap (λ (s : KernelState). s.memory.ram) step.is));
  seen = step.seen;
  covers = subst (IsRamOf (maps_at k c.actor) k.memory.ram) (sym (ap (λ (s : KernelState). s.memory.ram) step.is)) step.covers;
}

in_front_of : (f : Option ℕ) (fs : List ℕ) → in_front f [] ++ fs ≡ in_front f fs
in_front_of None fs = refl
in_front_of (Some f) fs = refl

more_turns : (k mid new : KernelState) (cpu n : ℕ) (c : Candidate) (b : Budget) → IsSound k → IsLeasable k cpu c b → 1 < b.left → 0 < n → IsStepped k cpu c b mid →
    IsAdvanced n mid cpu c (paid_one b) new → IsAdvanced (suc n) k cpu c b new
more_turns k mid new cpu n c b sound may more some step rest = record {
  is = rest.is ∙ (ap₂ (λ (s : KernelState) (gs : List ℕ). advanced_by s cpu c (paid_one b) n (view new c.actor).regs new.memory.ram gs) goes (ap (frames_stored n) step.seen)
      ∙ (advanced_again k cpu c b n step.regs (view new c.actor).regs step.ram new.memory.ram fs gs may.processor may.clock (guest k c.actor sound may.guest).there more some
      ∙ ap (advanced_by k cpu c b (suc n) (view new c.actor).regs new.memory.ram) (in_front_of (next_frame (view k c.actor)) gs)));
  seen = rest.seen ∙ ap (own_after n) step.seen;
  covers = ram_through (maps_at k c.actor) k.memory.ram step.ram new.memory.ram step.covers
      (subst (λ (s : KernelState). IsRamOf (maps_at s c.actor) s.memory.ram new.memory.ram) step.is rest.covers);
}
  where
    fs : List ℕ
    fs = in_front (next_frame (view k c.actor)) []

    gs : List ℕ
    gs = frames_stored n (applied (view k c.actor) Own).guest

    goes : mid ≡ midway k cpu c b step.regs step.ram (in_front (next_frame (view k c.actor)) [])
    goes = step.is ∙ one_goes_on k cpu c b step.regs step.ram (in_front (next_frame (view k c.actor)) []) more

-- what is put out by none of them
none_out : (o : Option Out) (outs : List Out) → out_before o outs ≡ [] → o ≡ None
none_out None outs h = refl
none_out (Some x) outs h = absurd (cc)

rest_out : (o : Option Out) (outs : List Out) → out_before o outs ≡ [] → outs ≡ []
rest_out None outs h = h
rest_out (Some x) outs h = absurd (cc)

-- on to the next turn
pub goes_on : (k : KernelState) (cpu : ℕ) (c : Candidate) (b : Budget) → 1 < b.left → (step : IsStepped k cpu c b (after k cpu)) →
    after k cpu ≡ midway k cpu c b step.regs step.ram (in_front (next_frame (view k c.actor)) [])
goes_on k cpu c b more step = step.is ∙ one_goes_on k cpu c b step.regs step.ram (in_front (next_frame (view k c.actor)) []) more

pub next_leasable : (k : KernelState) (cpu : ℕ) (c : Candidate) (b : Budget) → IsSound k → IsLeasable k cpu c b → 1 < b.left → IsStepped k cpu c b (after k cpu) →
    IsLeasable (after k cpu) cpu c (paid_one b)
next_leasable k cpu c b sound may more step =
    let goes = goes_on k cpu c b more step in
    subst (λ (s : KernelState). IsLeasable s cpu c (paid_one b)) (sym goes)
    (midway_leasable k cpu c b step.regs step.ram (in_front (next_frame (view k c.actor)) []) sound may (subst (λ (s : KernelState). IsVirtual s c.actor) goes (turn_virtual k cpu c.actor may.guest)))

pub next_quiet : (n : ℕ) (k : KernelState) (cpu : ℕ) (c : Candidate) (b : Budget) → IsStepped k cpu c b (after k cpu) → outputs (view k c.actor) (replicate (suc n) Own) ≡ [] →
    outputs (view (after k cpu) c.actor) (replicate n Own) ≡ []
next_quiet n k cpu c b step quiet = ap (λ (v : Guest). outputs v (replicate n Own)) step.seen ∙ rest_out (applied (view k c.actor) Own).out _ quiet

pub first_quiet : (n : ℕ) (v : Guest) → outputs v (replicate (suc n) Own) ≡ [] → (applied v Own).out ≡ None
first_quiet n v quiet = none_out (applied v Own).out (outputs (applied v Own).guest (replicate n Own)) quiet

-- and a turn less is left until something is due
pub next_early : (n : ℕ) (k : KernelState) (cpu : ℕ) (c : Candidate) (b : Budget) → IsLeasable k cpu c b → 1 < b.left → IsStepped k cpu c b (after k cpu) →
    IsEarly k.times cpu (suc n) → IsEarly (after k cpu).times cpu n
next_early n k cpu c b may more step early =
    subst (λ (s : KernelState). IsEarly s.times cpu n) (sym (goes_on k cpu c b more step)) (early_next k.times cpu n may.clock early)

pub advances : (n : ℕ) (k : KernelState) (cpu : ℕ) (c : Candidate) (b : Budget) → IsSound k → IsLeasable k cpu c b → n ≤ b.left → IsEarly k.times cpu n →
    outputs (view k c.actor) (replicate n Own) ≡ [] → IsAdvanced n k cpu c b (run k (replicate n cpu))
advances zero k cpu c b sound may left early quiet = no_turns k cpu c b sound may
advances (suc zero) k cpu c b sound may left early quiet =
    one_turn k (after k cpu) cpu c b (guest k c.actor sound may.guest).there (one_step k cpu c b sound may (acts_now k cpu 0 c b may early) (first_quiet 0 (view k c.actor) quiet))
advances (suc (suc n)) k cpu c b sound may left early quiet =
    let step : IsStepped k cpu c b (after k cpu) = one_step k cpu c b sound may (acts_now k cpu (suc n) c b may early) (first_quiet (suc n) (view k c.actor) quiet) in
    more_turns k (after k cpu) (run k (replicate (suc (suc n)) cpu)) cpu (suc n) c b sound may (omega arith) (omega arith) step
    (advances (suc n) (after k cpu) cpu c (paid_one b) (turn_sound k cpu sound) (next_leasable k cpu c b sound may (omega arith) step) (omega arith)
    (next_early (suc n) k cpu c b may (omega arith) step early) (next_quiet (suc n) k cpu c b step quiet))

-- THE LAW

pub burst : (n : ℕ) (k : KernelState) (cpu : ℕ) (c : Candidate) (b : Budget) → IsSound k → IsLeasable k cpu c b → n ≤ b.left → IsEarly k.times cpu n →
    outputs (view k c.actor) (replicate n Own) ≡ [] → run k (replicate n cpu) ≡ advanced k cpu c b n
burst n k cpu c b sound may left early quiet =
    let all : IsAdvanced n k cpu c b (run k (replicate n cpu)) = advances n k cpu c b sound may left early quiet in
    all.is ∙ ap₂ (λ (r : Registers) (ram : List (List ℕ)). advanced_by k cpu c b n r ram (frames_stored n (view k c.actor)))
    (ap (λ (v : Guest). v.regs) all.seen)
    (ram_is_laid (maps_at k c.actor) k.memory.ram new.memory.ram all.covers ∙ ap (λ (cells : List Cell). laid_over 0 cells k.memory.ram) (cells_seen all))
  where
    new : KernelState
    new = run k (replicate n cpu)

    maps_stay : IsAdvanced n k cpu c b (run k (replicate n cpu)) → maps_at (run k (replicate n cpu)) c.actor ≡ maps_at k c.actor
    maps_stay all = ap (λ (s : KernelState). maps_at s c.actor) all.is

    cells_seen : IsAdvanced n k cpu c b (run k (replicate n cpu)) → cells_of (maps_at k c.actor) (run k (replicate n cpu)).memory.ram ≡ (own_after n (view k c.actor)).cells
    cells_seen all =
        ap (λ (maps : List Map). cells_of maps new.memory.ram) (sym (maps_stay all))
        ∙ (sym (ap (λ (v : Guest). v.cells) (view_is new c.actor)) ∙ ap (λ (v : Guest). v.cells) all.seen)
