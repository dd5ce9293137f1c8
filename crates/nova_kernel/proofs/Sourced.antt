-- What a source more leaves of what always holds.
use Rattle.std.proofs.Common.{◌≡◌, ℕ, ◌≤◌, ◌<◌, ◌^◌, List, [], ◌∷◌, refl, sym, ap, ◌∙◌, subst, arith}
use Rattle.std.specs.Prelude.{false, length, find, is_some, Option, None}
use Rattle.std.specs.List.{AllByRecursion, cons_option, filter_map, range_with_len}
use Rattle.std.proofs.lemmas.List.{length-append}
use Rattle.nova_range.specs.declared.range.Kind.TheVariants.{Obj}
use Rattle.nova_model.specs.Capabilities.{is_held}
use Rattle.nova_model.specs.Delegations.{covers}
use Rattle.nova_model.specs.Running.{Running, revoke_of, running, running_of}
use Rattle.nova_model.specs.Sources.{Source, with_source}
use Rattle.nova_model.specs.State.{KernelState, pd_of}
use Rattle.nova_model.specs.declared.budget.Budget.{Budget}
use Rattle.nova_model.specs.declared.delegation.Derivation.{Derivation}
use Rattle.nova_model.specs.declared.new_object.NewObject.TheVariants as new
use Rattle.nova_model.specs.declared.transfer.Transfer.{Transfer}
use Rattle.nova_objects.specs.declared.object.Object.TheVariants.{Sm}
use Rattle.law_forest.proofs.Boots.{IsRooted, boot_rooted, source_rooted}
use Rattle.law_turns.specs.Keeping.{IsKept}
use Rattle.law_turns.proofs.Setting.{more_at}
use Rattle.nova_choice.proofs.Joins.{queued_joined}
use Rattle.nova_choice.specs.Schedules.{AreQueued}
use Rattle.nova_deeds.proofs.Bounds.{length-more}
use Rattle.nova_deeds.specs.Counted.{IsAtItem, IsCounted, IsGivenWithin, IsPaidWithin}
use Rattle.nova_deeds.specs.Stirs.{IsStirredWithin}
use Rattle.nova_sched.specs.Queues.{Schedule}
use Rattle.nova_turn.specs.Revoking.{AreRunning}
use Rattle.nova_turn.specs.Runners.{RevokesState}
use Rattle.law_leases.specs.Commits.{IsReached}
use Rattle.nova_model.specs.Boot.{Scenario, boot}
use Rattle.nova_model.specs.Runs.{run}
use Rattle.nova_model.specs.declared.context.EcState.{EcState}
use Rattle.nova_times.specs.Kept.{IsAlarm}
use Rattle.nova_kernel.specs.Begun.{AreCalm, IsAtBoot, IsBegun}
use Rattle.nova_kernel.proofs.Begun.{source_begun}

-- the root holds no selector from the number of objects on
rooted : (k : KernelState) → IsAtBoot k → IsRooted k
rooted k b = subst IsRooted (sym b.is) (boot_rooted b.scenario)

unheld : (n : ℕ) (list : List Derivation) → AllByRecursion (λ a. (m : ℕ) → n ≤ m → covers Obj 0 m a ≡ false) list → is_some (find (covers Obj 0 n) list) ≡ false
unheld n [] free = refl
unheld n (a ∷ list) free = let first : covers Obj 0 n a ≡ false = free.0 n (omega arith) in rw first (unheld n list free.1)

pub source_free : (k : KernelState) → IsAtBoot k → is_held k 0 (length k.objects) ≡ false
source_free k b = unheld (length k.objects) k.delegations.list (rooted k b).free

pub source_counted : (k : KernelState) (s : Source) → k.turns ≡ 0 → length k.objects < 2 ^ 20 → IsAtBoot k → IsKept (with_source k s) → IsCounted k → IsCounted (with_source k s)
source_counted k s none few b kept h =
    let objects = length-append k.objects (Sm ∷ []) in
    let t = h.tables in record {
      charged = record {
        turns = h.charged.turns;
        processors = h.charged.processors;
        stamps = h.charged.stamps;
        ticks = λ sc. more_at (λ (o : Option Budget). IsPaidWithin k.turns o) k.budgets None sc (h.charged.ticks sc) (λ old. old);
        stirs = h.charged.stirs;
        guests = λ g. more_at (λ (o : Option ℕ). IsStirredWithin k.turns o) k.stirs.guests None g (h.charged.guests g) (λ old. old);
      };
      numbered = record {
        objects = omega (arith, few, objects);
        derivations = let next = b.derivations in omega (arith, few, next);
      };
      tables = record {
        contexts = length-more k.contexts k.objects _ _ t.contexts;
        messages = length-more k.messages k.objects _ _ t.messages;
        transfers = length-more k.transfers k.objects _ _ t.transfers;
        budgets = length-more k.budgets k.objects _ _ t.budgets;
        identifiers = length-more k.identifiers k.objects _ _ t.identifiers;
        semaphores = length-more k.semaphores k.objects _ _ t.semaphores;
        guests = length-more k.stirs.guests k.objects _ _ t.guests;
        deadlines = length-more k.times.deadlines k.objects _ _ t.deadlines;
      };
      children = λ ec. more_at (λ (o : Option Transfer). IsGivenWithin k.turns o) k.transfers None ec (h.children ec) (λ old. old);
      items = λ ec. more_at IsAtItem k.transfers None ec (h.items ec) (λ old. old);
      forest = (source_rooted k s (rooted k b)).forest;
      kept = kept;
    }

pub source_queued : (k : KernelState) (s : Source) (q : Schedule) → IsCounted k → AreQueued k q → AreQueued (with_source k s) q
source_queued k s q counted queued =
    let made = queued_joined None k q 0 (length k.objects) (new.Sm 0) counted.kept.edges counted.tables.contexts counted.tables.budgets tt tt queued in record {
      cpus = made.cpus;
      numbers = made.numbers;
      stamp = made.stamp;
      entries = made.entries;
      homes = made.homes;
      owners = made.owners;
    }

-- no revoke runs
none_runs : (f : ℕ → Option Running) (es : List ℕ) → ((e : ℕ) → f e ≡ None) → filter_map f es ≡ []
none_runs f [] none = refl
none_runs f (e ∷ es) none = ap (λ (o : Option Running). cons_option o (filter_map f es)) (none e) ∙ none_runs f es none

calm_runs : (k : KernelState) → AreCalm k → running k ≡ []
calm_runs k calm = none_runs (λ e. running_of e (revoke_of k e)) (range_with_len 0 (length k.contexts)) (λ e. ap (running_of e) (calm (pd_of k e) e))

pub source_running : (k new : KernelState) (r after : RevokesState) → AreCalm k → AreCalm new → AreRunning k r → after.list ≡ r.list → length new.contexts ≤ after.places → AreRunning new after
source_running k new r after calm still are same places = record {
  list = same ∙ are.list ∙ calm_runs k calm ∙ sym (calm_runs new still);
  places = places;
}

-- ALL OF IT

-- nothing changed
pub same_running : (k new : KernelState) (r after : RevokesState) → AreRunning k r → new ≡ k → after.list ≡ r.list → r.places ≤ after.places → AreRunning new after
same_running k new r after are same list more =
    let room = are.places in
    subst (λ (s : KernelState). AreRunning s after) (sym same) (record { list = list ∙ are.list; places = omega (arith, room, more) })

-- a source was made
pub record IsSourced (k new : KernelState) (s : Source) (q after : Schedule) (r rest : RevokesState) : Type 0 where
  pub none : k.turns ≡ 0
  pub few : length k.objects < 2 ^ 20
  pub alarm : IsAlarm (record { cpu = s.cpu; sm = length k.objects; first = s.first; period = s.period; count = s.count })
  pub counted : IsCounted k
  pub queued : AreQueued k q
  pub running : AreRunning k r
  pub begun : IsBegun k
  pub reached : (b : Scenario) → IsReached (boot b)
  pub kept : (b : Scenario) (turns : List ℕ) → IsKept (run (boot b) turns)
  pub added : new ≡ with_source k s
  pub queues : after ≡ q
  pub list : rest.list ≡ r.list
  pub place : length k.objects < rest.places

pub source_holds : (k new : KernelState) (s : Source) (q after : Schedule) (r rest : RevokesState) → IsSourced k new s q after r rest →
    IsCounted new × (AreQueued new after × (AreRunning new rest × (IsReached new × IsBegun new)))
source_holds k new s q after r rest h =
    let begun : IsBegun (with_source k s) = source_begun k s h.none h.alarm h.begun in
    let before : IsAtBoot k = h.begun.boot h.none in
    let now : IsAtBoot (with_source k s) = begun.boot h.none in
    let more : List (Option EcState) = None ∷ [] in
    let many = length-append k.contexts more in
    let tables = h.counted.tables.contexts in
    let place = h.place in (
      subst IsCounted (sym h.added) (source_counted k s h.none h.few before (subst IsKept (sym now.is) (h.kept now.scenario [])) h.counted),
      (
        subst (λ (x : KernelState). AreQueued x after) (sym h.added) (subst (AreQueued (with_source k s)) (sym h.queues) (source_queued k s q h.counted h.queued)),
        (
          subst (λ (x : KernelState). AreRunning x rest) (sym h.added)
              (source_running k (with_source k s) r rest before.calm now.calm h.running h.list (omega (arith, many, tables, place))),
          (
            subst IsReached (sym h.added) (subst IsReached (sym now.is) (h.reached now.scenario)),
            subst IsBegun (sym h.added) begun,
          ),
        ),
      ),
    )
