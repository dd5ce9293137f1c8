-- Along turns that stir neither a virtual CPU nor its processor, its view and the processor's budgets stay.
use Rattle.nova_model.specs.declared.event.Event.{Event}
use Rattle.law_leases.proofs.Nearing.{turn_early}
use Rattle.law_forest.proofs.Turning.{acts_chosen, event_at}
use Rattle.std.proofs.Common.{◌≡◌, ◌≢◌, ◌<◌, ℕ, ◌+◌, List, [], ◌∷◌, length, inl, inr, ap, sym, ◌∙◌, subst, refl, arith}
use Rattle.std.specs.Prelude.{Bool, true, false, slice_get, slice_index, Option, Some, None, IsSome, is_some, option_map, slice_set}
use Rattle.std.proofs.lemmas.Bool.{cases_eq}
use Rattle.std.proofs.lemmas.List.{length-set}
use Rattle.std.proofs.lemmas.Option.{same_Some}
use Rattle.nova_guest.specs.declared.input.Input.{Input}
use Rattle.nova_objects.specs.declared.object.Object.{Object}
use Rattle.nova_objects.specs.declared.object.Object.TheVariants.{Ec, Sc}
use Rattle.nova_objects.specs.declared.object.EcKind.TheVariants.{Vcpu}
use Rattle.nova_model.specs.Capabilities.{is_vcpu}
use Rattle.nova_model.specs.Choice.{Candidate}
use Rattle.nova_model.specs.Edges.{cpu_in}
use Rattle.nova_model.specs.Guests.{input}
use Rattle.nova_model.specs.Runs.{after, run}
use Rattle.nova_model.specs.State.{KernelState, entry, budget_at}
use Rattle.nova_model.specs.Views.{view}
use Rattle.nova_model.specs.declared.budget.Budget.{Budget}
use Rattle.law_turns.specs.Stirs.{stirs_of}
use Rattle.law_turns.specs.Tables.{HasTables, cpu_of}
use Rattle.law_turns.proofs.Paying.{Comes, Idles, IsTurn, Passes, Takes, comes, still_budget, still_object}
use Rattle.law_turns.proofs.Setting.{entry_other, index_itself}
use Rattle.law_turns.proofs.Stirring.{counts_outside}
use Rattle.law_turns.proofs.Tags.{get_map}
use Rattle.law_isolation.specs.Law.{answered}
use Rattle.law_isolation.specs.Sound.{IsSound, IsVirtual}
use Rattle.law_isolation.proofs.Runs.{turn_is_one, turn_sound}
use Rattle.law_leases.specs.Counts.{IsAsBefore, IsOn, IsPayer, IsUnstirred}
use Rattle.law_leases.proofs.Homes.{chosen_home, home}
use Rattle.law_leases.proofs.Unstirred.{apart_no, is_outside, is_own, processor_rises, processors_rise, run_rises, turn_rises, nobody_no}

-- WHAT IS THERE STAYS

turn_object : (k new : KernelState) (cpu n : ℕ) (o : Object) (event : Option Event) → Comes k new cpu event → slice_get k.objects n ≡ Some o → slice_get new.objects n ≡ Some o
turn_object k new cpu n o event (Idles idle is its) at = ap (λ (s : KernelState). slice_get s.objects n) is ∙ at
turn_object k new cpu n o event (Passes p is none its) at = ap (λ (s : KernelState). slice_get s.objects n) is ∙ at
turn_object k new cpu n o event (Takes c chosen t its) at = ap (λ (os : List Object). slice_get os n) t.objects ∙ still_object k t.between c.actor n o t.adds at

turn_processors : (k new : KernelState) (cpu : ℕ) (event : Option Event) → Comes k new cpu event → length new.stirs.processors ≡ length k.stirs.processors
turn_processors k new cpu event (Idles idle is its) = ap (λ (s : KernelState). length s.stirs.processors) is
turn_processors k new cpu event (Passes p is none its) =
    ap (λ (s : KernelState). length s.stirs.processors) is ∙ length-set k.stirs.processors cpu (slice_index k.stirs.processors cpu + 1)
turn_processors k new cpu event (Takes c chosen t its) = ap length t.processors ∙ length-set k.stirs.processors cpu (slice_index k.stirs.processors cpu + 1)

turn_clocks : (k new : KernelState) (cpu : ℕ) (event : Option Event) → Comes k new cpu event → length new.times.clocks ≡ length k.times.clocks
turn_clocks k new cpu event (Idles idle is its) = ap (λ (s : KernelState). length s.times.clocks) is
turn_clocks k new cpu event (Passes p is none its) = ap (λ (s : KernelState). length s.times.clocks) is ∙ length-set k.times.clocks cpu (slice_index k.times.clocks cpu + 1)
turn_clocks k new cpu event (Takes c chosen t its) = ap length t.clocks ∙ length-set k.times.clocks cpu (slice_index k.times.clocks cpu + 1)

pub run_clocks : (turns : List ℕ) (k : KernelState) → length (run k turns).times.clocks ≡ length k.times.clocks
run_clocks [] k = refl
run_clocks (p ∷ turns) k = run_clocks turns (after k p) ∙ turn_clocks k (after k p) p (event_at k p) (comes k p)

pub on_virtual : (k : KernelState) (g cpu : ℕ) → IsOn k g cpu → IsVirtual k g
on_virtual k g cpu on = ap (option_map is_vcpu) on.object

pub turn_on : (k : KernelState) (p g cpu : ℕ) → IsOn k g cpu → IsOn (after k p) g cpu
turn_on k p g cpu on = record {
  pd = on.pd;
  event = on.event;
  object = turn_object k (after k p) p g (Ec on.pd cpu Vcpu on.event) (event_at k p) (comes k p) on.object;
  processor = subst (λ (n : ℕ). cpu < n) (sym (turn_processors k (after k p) p (event_at k p) (comes k p))) on.processor;
}

-- its count is there
counted_by : (c : Option (Option ℕ)) (o : Option Object) → option_map is_some c ≡ option_map is_vcpu o → option_map is_vcpu o ≡ Some true → IsSome (entry c)
counted_by (Some (Some n)) o same is = refl
counted_by (Some None) o same is = let e : Some false ≡ Some true = same ∙ is in absurd (cc)
counted_by None o same is = let e : None ≡ Some true = same ∙ is in absurd (cc)

some_number : (o : Option ℕ) → IsSome o → (n : ℕ) × (o ≡ Some n)
some_number (Some n) h = (n, refl)
some_number None h = absurd (cc)

pub counted : (k : KernelState) (g : ℕ) → HasTables k → IsVirtual k g → (n : ℕ) × (stirs_of k g ≡ Some n)
counted k g tables is = some_number (stirs_of k g) (counted_by (slice_get k.stirs.guests g) (slice_get k.objects g)
    (sym (get_map is_some k.stirs.guests g) ∙ (ap (λ (bs : List Bool). slice_get bs g) tables.guests ∙ get_map is_vcpu k.objects g)) is)

-- ONE TURN

pub as_itself : (k : KernelState) (g cpu : ℕ) → IsAsBefore k k g cpu
as_itself k g cpu = record { view = refl; payers = λ sc ec priority quantum b is. is; early = λ n is. is }

pub as_through : (k l m : KernelState) (g cpu : ℕ) → IsAsBefore k l g cpu → IsAsBefore l m g cpu → IsAsBefore k m g cpu
as_through k l m g cpu p q = record {
  view = q.view ∙ p.view;
  payers = λ sc ec priority quantum b is. q.payers sc ec priority quantum b (p.payers sc ec priority quantum b is);
  early = λ n is. q.early n (p.early n is);
}

-- a turn of another processor that is no input from outside
view_stays : (k : KernelState) (p g : ℕ) → IsSound k → IsVirtual k g → is_own (input k p g) ≡ false → stirs_of (after k p) g ≡ stirs_of k g →
    view (after k p) g ≡ view k g
view_stays k p g sound is other same = by_input (input k p g) refl other
  where
    its : (n : ℕ) × (stirs_of k g ≡ Some n)
    its = counted k g sound.kept.tables is

    by_input : (o : Option Input) → input k p g ≡ o → is_own o ≡ false → view (after k p) g ≡ view k g
    by_input None comes other = (turn_is_one k p g sound is).guest ∙ ap (λ (i : Option Input). (answered (view k g) i).guest) comes
    by_input (Some i) comes other =
        let risen : its.0 + 1 ≡ its.0 = same_Some (its.0 + 1) its.0 (sym (counts_outside k p g its.0 i its.1 comes (is_outside i other)) ∙ (same ∙ its.1)) in
        absurd (omega arith)

payer_apart : (k : KernelState) (p cpu sc other ec its priority rank quantum whole : ℕ) → p ≢ cpu → slice_get k.objects other ≡ Some (Sc its p rank whole) →
    slice_get k.objects sc ≡ Some (Sc ec cpu priority quantum) → sc ≢ other
payer_apart k p cpu sc other ec its priority rank quantum whole ne at here same =
    let both : Sc its p rank whole ≡ Sc ec cpu priority quantum = same_Some _ _ (sym at ∙ (ap (slice_get k.objects) (sym same) ∙ here)) in
    ne (same_Some p cpu (ap processor both))
  where
    processor : Object → Option ℕ
    processor (Sc ec cpu priority quantum) = Some cpu
    processor other = None

payers_stay : (k : KernelState) (p cpu : ℕ) (c : Candidate) → p ≢ cpu → IsTurn k (after k p) p c → (sc ec priority quantum : ℕ) (b : Budget) →
    IsPayer k cpu sc ec priority quantum b → IsPayer (after k p) cpu sc ec priority quantum b
payers_stay k p cpu c ne t sc ec priority quantum b is =
    let apart = payer_apart k p cpu sc c.sc ec t.its.ec priority t.its.priority quantum t.its.quantum ne t.its.object is.object in
    record {
      object = ap (λ (os : List Object). slice_get os sc) t.objects ∙ still_object k t.between c.actor sc (Sc ec cpu priority quantum) t.adds is.object;
      budget = ap (λ (bs : List (Option Budget)). entry (slice_get bs sc)) t.budgets
          ∙ (entry_other t.between.budgets c.sc sc _ apart ∙ still_budget k t.between c.actor sc b t.adds is.budget);
    }

turn_leaves : (k : KernelState) (p g cpu : ℕ) → IsSound k → IsOn k g cpu → IsUnstirred k (after k p) g cpu → IsAsBefore k (after k p) g cpu
turn_leaves k p g cpu sound on still = by_turn (comes k p)
  where
    -- its own turn raises its count
    no_own : slice_index (after k p).stirs.processors p ≡ slice_index k.stirs.processors p + 1 → p ≡ cpu → ⊥
    no_own risen same =
        let kept : slice_index (after k p).stirs.processors p ≡ slice_index k.stirs.processors p =
        subst (λ (n : ℕ). slice_index (after k p).stirs.processors n ≡ slice_index k.stirs.processors n) (sym same) still.processor in
        absurd (omega arith)

    index_now : p ≡ cpu → slice_index (slice_set k.stirs.processors p (slice_index k.stirs.processors p + 1)) p ≡ slice_index k.stirs.processors p + 1
    index_now same = index_itself k.stirs.processors p (slice_index k.stirs.processors p + 1) (subst (λ (n : ℕ). n < length k.stirs.processors) (sym same) on.processor)

    by_turn : Comes k (after k p) p (event_at k p) → IsAsBefore k (after k p) g cpu
    by_turn (Idles idle is its) = subst (λ (s : KernelState). IsAsBefore k s g cpu) (sym is) (as_itself k g cpu)
    by_turn (Passes q is none its) = elim (cases_eq p cpu) [
      | inl same ↦ absurd (no_own (ap (λ (s : KernelState). slice_index s.stirs.processors p) is ∙ index_now same) same)
      | inr ne ↦ record {
        view = view_stays k p g sound (on_virtual k g cpu on) (nobody_no k p g none) still.guest;
        payers = λ sc ec priority quantum b at. record {
          object = ap (λ (s : KernelState). slice_get s.objects sc) is ∙ at.object;
          budget = ap (λ (s : KernelState). budget_at s sc) is ∙ at.budget;
        };
        early = λ n early. turn_early k p cpu n sound ne early;
      }
    ]
    by_turn (Takes c chosen t its) = elim (cases_eq p cpu) [
      | inl same ↦ absurd (no_own (ap (λ (l : List ℕ). slice_index l p) t.processors ∙ index_now same) same)
      | inr ne ↦
          let other : c.actor ≢ g = λ e. ne (same_Some p cpu (sym (chosen_home k p c sound (acts_chosen k p c chosen).0)
          ∙ (ap (cpu_in k.contexts) e ∙ home k g cpu sound.kept.tables (ap cpu_of on.object)))) in
          record {
            view = view_stays k p g sound (on_virtual k g cpu on) (apart_no k p g c chosen other) still.guest;
            payers = payers_stay k p cpu c ne t;
            early = λ n early. turn_early k p cpu n sound ne early;
          }
    ]

-- A LIST OF TURNS

-- what is equal at the end was equal after each turn
first_still : (k : KernelState) (p g cpu : ℕ) (turns : List ℕ) → IsSound k → IsOn k g cpu → IsUnstirred k (run (after k p) turns) g cpu → IsUnstirred k (after k p) g cpu
first_still k p g cpu turns sound on still =
    let its = counted k g sound.kept.tables (on_virtual k g cpu on) in
    let one = turn_rises k p g its.0 its.1 in
    let all = run_rises (after k p) turns g one.count one.is in
    let end : all.count ≡ its.0 = same_Some all.count its.0 (sym all.is ∙ (still.guest ∙ its.1)) in
    let a = one.most in let b = all.most in
    let same : one.count ≡ its.0 = omega arith in
    let c = processor_rises k p cpu in let d = processors_rise (after k p) turns cpu in let e = still.processor in
    record { guest = one.is ∙ (ap Some same ∙ sym its.1); processor = omega arith }

rest_still : (k mid new : KernelState) (g cpu : ℕ) → IsUnstirred k mid g cpu → IsUnstirred k new g cpu → IsUnstirred mid new g cpu
rest_still k mid new g cpu one all = record { guest = all.guest ∙ sym one.guest; processor = all.processor ∙ sym one.processor }

pub unstirred : (turns : List ℕ) (k : KernelState) (g cpu : ℕ) → IsSound k → IsOn k g cpu → IsUnstirred k (run k turns) g cpu → IsAsBefore k (run k turns) g cpu
unstirred [] k g cpu sound on still = as_itself k g cpu
unstirred (p ∷ turns) k g cpu sound on still =
    let one : IsUnstirred k (after k p) g cpu = first_still k p g cpu turns sound on still in
    as_through k (after k p) (run (after k p) turns) g cpu (turn_leaves k p g cpu sound on one)
    (unstirred turns (after k p) g cpu (turn_sound k p sound) (turn_on k p g cpu on) (rest_still k (after k p) (run (after k p) turns) g cpu one still))

pub run_on : (turns : List ℕ) (k : KernelState) (g cpu : ℕ) → IsOn k g cpu → IsOn (run k turns) g cpu
run_on [] k g cpu on = on
run_on (p ∷ turns) k g cpu on = run_on turns (after k p) g cpu (turn_on k p g cpu on)
