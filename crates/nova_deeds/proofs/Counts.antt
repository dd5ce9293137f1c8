-- What is counted stays bounded by the turns that were taken.
use Rattle.std.proofs.Common.{◌≡◌, ℕ, zero, suc, ◌+◌, ◌*◌, ◌^◌, ◌<◌, ◌≤◌, List, [], ◌∷◌, refl, sym, ◌∙◌, subst, arith}
use Rattle.std.specs.Prelude.{Bool, true, false, IfSome, ◌-◌, Option, Some, None, slice_get, slice_index, slice_set}
use Rattle.std.proofs.lemmas.List.{length-set}
use Rattle.nova_model.specs.Forest.{IsForest}
use Rattle.nova_model.specs.State.{KernelState, budget_at, transfer_at, entry}
use Rattle.nova_model.specs.Turn.{charged, is_spent, budget_after, stamp_after, quantum_in, counted, paid_by}
use Rattle.nova_model.specs.declared.budget.Budget.{Budget}
use Rattle.law_turns.specs.Keeping.{IsKept}
use Rattle.nova_deeds.proofs.Bounds.{inputs-risen, length-risen}
use Rattle.nova_deeds.specs.Stirs.{IsStirredWithin, risen_in}
use Rattle.nova_deeds.specs.Counted.{AreTables, IsAtItem, IsCharged, IsToBeCharged, IsToBeStirred, IsCounted, IsGivenWithin, IsNumbered, IsPaidWithin, KeepsCounts}

pub IsCharged-kept : (old new : KernelState) → KeepsCounts old new → IsCharged old → IsToBeStirred new
IsCharged-kept old new kept charged = record {
  turns = rw kept.turns charged.turns;
  processors = rw (kept.processors, kept.cpus) charged.processors;
  stamps = let more = kept.next_stamp in let few = charged.stamps in let t = kept.turns in omega (arith, more, few, t);
  ticks = λ sc. rw kept.turns (kept.ticks sc old.turns (charged.ticks sc));
  stirs = λ cpu. rw (kept.processors, kept.turns) (charged.stirs cpu);
  guests = λ g. rw kept.turns (kept.guests g old.turns (charged.guests g));
}

-- stir counts have room for one more
few-inputs : (turns : ℕ) (o : Option ℕ) → turns < 2 ^ 31 → IsStirredWithin turns o → IfSome o (λ n. n < 2 ^ 64 - 1)
few-inputs turns (Some n) few h = omega arith
few-inputs turns None few h = tt

pub stirs-fit : (k : KernelState) → IsToBeStirred k → k.turns < 2 ^ 31 → (g : ℕ) → IfSome (entry (slice_get k.stirs.guests g)) (λ n. n < 2 ^ 64 - 1)
stirs-fit k c few g = few-inputs k.turns (entry (slice_get k.stirs.guests g)) few (c.guests g)

-- stir counts that rise
pub IsCharged-risen : (k : KernelState) (rises : ℕ → Bool) → IsToBeStirred k → IsToBeCharged (risen_in k rises)
IsCharged-risen k rises c = record {
  turns = c.turns;
  processors = c.processors;
  stamps = c.stamps;
  ticks = c.ticks;
  stirs = c.stirs;
  guests = λ g. inputs-risen k.turns 0 g rises k.stirs.guests (c.guests g);
}

IsNumbered-risen : (k : KernelState) (turns : ℕ) (rises : ℕ → Bool) → IsNumbered turns k → IsNumbered turns (risen_in k rises)
IsNumbered-risen k turns rises n = record { objects = n.objects; derivations = n.derivations }

AreTables-risen : (k : KernelState) (rises : ℕ → Bool) → AreTables k → AreTables (risen_in k rises)
AreTables-risen k rises t = record {
  contexts = t.contexts;
  messages = t.messages;
  transfers = t.transfers;
  budgets = t.budgets;
  identifiers = t.identifiers;
  semaphores = t.semaphores;
  guests = length-risen 0 rises k.stirs.guests ∙ t.guests;
  deadlines = t.deadlines;
}

pub IsNumbered-kept : (old new : KernelState) → KeepsCounts old new → IsNumbered old.turns old → IsNumbered (new.turns + 1) new
IsNumbered-kept old new kept numbered = record {
  objects = let h = kept.objects in let t = kept.turns in let n = numbered.objects in omega arith;
  derivations = let h = kept.derivations in let t = kept.turns in let n = numbered.derivations in omega arith;
}

pub children-kept : (old new : KernelState) → KeepsCounts old new → ((ec : ℕ) → IsGivenWithin old.turns (transfer_at old ec)) → (ec : ℕ) →
    IsGivenWithin (new.turns + 1) (transfer_at new ec)
children-kept old new kept children ec = rw kept.turns (kept.transfers ec old.turns (children ec))

-- a charge

ticks-after : (turns quantum stamp : ℕ) (spent : Bool) (b : Budget) → b.ticks ≤ turns → IsPaidWithin (turns + 1) (Some (budget_after spent quantum stamp b))
ticks-after turns quantum stamp true b h = omega arith
ticks-after turns quantum stamp false b h = omega arith

IsPaidWithin-more : (turns : ℕ) (o : Option Budget) → IsPaidWithin turns o → IsPaidWithin (turns + 1) o
IsPaidWithin-more turns (Some b) h = omega arith
IsPaidWithin-more turns None h = omega arith

IsPaidWithin-set : (turns : ℕ) (xs : List (Option Budget)) (i n : ℕ) (b : Budget) → IsPaidWithin (turns + 1) (Some b) → IsPaidWithin turns (entry (slice_get xs n)) →
    IsPaidWithin (turns + 1) (entry (slice_get (slice_set xs i (Some b)) n))
IsPaidWithin-set turns [] i n b new old = omega arith
IsPaidWithin-set turns (x ∷ xs) zero zero b new old = new
IsPaidWithin-set turns (x ∷ xs) zero (suc n) b new old = IsPaidWithin-more turns (entry (slice_get xs n)) old
IsPaidWithin-set turns (x ∷ xs) (suc i) zero b new old = IsPaidWithin-more turns x old
IsPaidWithin-set turns (x ∷ xs) (suc i) (suc n) b new old = IsPaidWithin-set turns xs i n b new old

stamp-after : (spent : Bool) (stamp turns : ℕ) → stamp ≤ 2 * turns + 2 → stamp_after spent stamp ≤ 2 * (turns + 1) + 1
stamp-after true stamp turns h = omega arith
stamp-after false stamp turns h = omega arith

index-set : (turns : ℕ) (xs : List ℕ) (i n v : ℕ) → v ≤ turns + 1 → slice_index xs n ≤ turns → slice_index (slice_set xs i v) n ≤ turns + 1
index-set turns [] i n v new old = omega arith
index-set turns (x ∷ xs) zero zero v new old = new
index-set turns (x ∷ xs) zero (suc n) v new old = omega arith
index-set turns (x ∷ xs) (suc i) zero v new old = omega arith
index-set turns (x ∷ xs) (suc i) (suc n) v new old = index-set turns xs i n v new old

pub IsCharged-paid : (k : KernelState) (cpu sc quantum : ℕ) (o : Option Budget) → budget_at k sc ≡ o → k.turns < 2 ^ 31 → IsToBeCharged k →
    IsCharged (counted (paid_by k sc quantum o) cpu)
IsCharged-paid k cpu sc quantum None at few c = record {
  turns = omega arith;
  processors = length-set k.stirs.processors cpu (slice_index k.stirs.processors cpu + 1) ∙ c.processors;
  stamps = let h = c.stamps in omega arith;
  ticks = λ n. IsPaidWithin-more k.turns (budget_at k n) (c.ticks n);
  stirs = λ n. index-set k.turns k.stirs.processors cpu n (slice_index k.stirs.processors cpu + 1) (let h = c.stirs cpu in omega arith) (c.stirs n);
  guests = c.guests;
}
IsCharged-paid k cpu sc quantum (Some b) at few c = record {
  turns = omega arith;
  processors = length-set k.stirs.processors cpu (slice_index k.stirs.processors cpu + 1) ∙ c.processors;
  stamps = stamp-after (is_spent b) k.next_stamp k.turns c.stamps;
  ticks = λ n. IsPaidWithin-set k.turns k.budgets sc n (budget_after (is_spent b) quantum k.next_stamp b)
      (ticks-after k.turns quantum k.next_stamp (is_spent b) b (subst (λ (e : Option Budget). IsPaidWithin k.turns e) at (c.ticks sc))) (c.ticks n);
  stirs = λ n. index-set k.turns k.stirs.processors cpu n (slice_index k.stirs.processors cpu + 1) (let h = c.stirs cpu in omega arith) (c.stirs n);
  guests = c.guests;
}

pub IsNumbered-paid : (k : KernelState) (cpu sc quantum : ℕ) (o : Option Budget) → IsNumbered (k.turns + 1) k → IsNumbered (k.turns + 1) (counted (paid_by k sc quantum o) cpu)
IsNumbered-paid k cpu sc quantum None n = record { objects = n.objects; derivations = n.derivations }
IsNumbered-paid k cpu sc quantum (Some b) n = record { objects = n.objects; derivations = n.derivations }

pub AreTables-paid : (k : KernelState) (cpu sc quantum : ℕ) (o : Option Budget) → AreTables k → AreTables (counted (paid_by k sc quantum o) cpu)
AreTables-paid k cpu sc quantum None t = record { contexts = t.contexts; messages = t.messages; transfers = t.transfers; budgets = t.budgets; identifiers = t.identifiers; semaphores = t.semaphores; guests = t.guests; deadlines = t.deadlines }
AreTables-paid k cpu sc quantum (Some b) t =
    record { contexts = t.contexts; messages = t.messages; transfers = t.transfers; budgets = length-set k.budgets sc _ ∙ t.budgets; identifiers = t.identifiers; semaphores = t.semaphores; guests = t.guests; deadlines = t.deadlines }

turns-paid : (k : KernelState) (cpu sc quantum : ℕ) (o : Option Budget) → (counted (paid_by k sc quantum o) cpu).turns ≡ k.turns + 1
turns-paid k cpu sc quantum None = refl
turns-paid k cpu sc quantum (Some b) = refl

delegations-paid : (k : KernelState) (cpu sc quantum : ℕ) (o : Option Budget) → (counted (paid_by k sc quantum o) cpu).delegations ≡ k.delegations
delegations-paid k cpu sc quantum None = refl
delegations-paid k cpu sc quantum (Some b) = refl

-- a charge makes no derivation
pub delegations-charged : (k : KernelState) (cpu sc : ℕ) → (charged k cpu sc).delegations ≡ k.delegations
unfolding charged
delegations-charged k cpu sc = delegations-paid k cpu sc (quantum_in (slice_get k.objects sc)) (budget_at k sc)

pub children-paid : (k : KernelState) (cpu sc quantum turns : ℕ) (o : Option Budget) → ((ec : ℕ) → IsGivenWithin turns (transfer_at k ec)) → (ec : ℕ) →
    IsGivenWithin turns (transfer_at (counted (paid_by k sc quantum o) cpu) ec)
children-paid k cpu sc quantum turns None h = h
children-paid k cpu sc quantum turns (Some b) h = h

pub items-paid : (k : KernelState) (cpu sc quantum : ℕ) (o : Option Budget) → ((ec : ℕ) → IsAtItem (transfer_at k ec)) → (ec : ℕ) →
    IsAtItem (transfer_at (counted (paid_by k sc quantum o) cpu) ec)
items-paid k cpu sc quantum None h = h
items-paid k cpu sc quantum (Some b) h = h

-- an act, what it stirs and its charge keep the bounds
pub IsCounted-charged : (old mid : KernelState) (rises : ℕ → Bool) (cpu sc : ℕ) → KeepsCounts old mid → IsForest mid.delegations → old.turns < 2 ^ 31 →
    IsKept (charged (risen_in mid rises) cpu sc) → IsCounted old → IsCounted (charged (risen_in mid rises) cpu sc)
unfolding charged
IsCounted-charged old mid rises cpu sc kept forest few keeps c =
    let k = risen_in mid rises in
    let o = budget_at k sc in
    let quantum = quantum_in (slice_get k.objects sc) in
    record {
      charged = IsCharged-paid k cpu sc quantum o refl (let h = kept.turns in omega arith) (IsCharged-risen mid rises (IsCharged-kept old mid kept c.charged));
      numbered = subst (λ (n : ℕ). IsNumbered n (counted (paid_by k sc quantum o) cpu)) (sym (turns-paid k cpu sc quantum o))
          (IsNumbered-paid k cpu sc quantum o (IsNumbered-risen mid (mid.turns + 1) rises (IsNumbered-kept old mid kept c.numbered)));
      tables = AreTables-paid k cpu sc quantum o (AreTables-risen mid rises (kept.tables c.tables));
      children = subst (λ (n : ℕ). (ec : ℕ) → IsGivenWithin n (transfer_at (counted (paid_by k sc quantum o) cpu) ec)) (sym (turns-paid k cpu sc quantum o))
          (children-paid k cpu sc quantum (k.turns + 1) o (children-kept old mid kept c.children));
      items = items-paid k cpu sc quantum o (λ ec. kept.items ec (c.items ec));
      forest = subst IsForest (sym (delegations-paid k cpu sc quantum o)) forest;
      kept = keeps;
    }
