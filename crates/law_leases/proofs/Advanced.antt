-- n plain turns of a virtual CPU are one change of the kernel's state.
use Rattle.std.proofs.Common.{◌≡◌, ℕ, zero, suc, ◌+◌, ◌-◌, ◌<◌, ◌++◌, List, [], ◌∷◌, length, ap, ap₂, sym, ◌∙◌, refl, arith}
use Rattle.std.specs.Prelude.{Bool, true, false, ◌==◌, ◌&&◌, nat_lt, nat_le, filter, slice_get, slice_set, slice_index, Option, Some, None, IsSome, option_map, if◌then◌else◌}
use Rattle.std.proofs.lemmas.List.{set-get_or, set-set, get_or-set_same}
use Rattle.rv_model.specs.Registers.{Registers}
use Rattle.nova_model.specs.Choice.{Candidate}
use Rattle.nova_model.specs.Inputs.{is_covered_for}
use Rattle.nova_model.specs.State.{KernelState, budget_at, context, context_at, context_in, entry, pd_of, with_ec}
use Rattle.nova_model.specs.Turn.{quantum_in, stamp_after}
use Rattle.nova_model.specs.declared.budget.Budget.{Budget}
use Rattle.nova_model.specs.declared.context.EcState.{EcState}
use Rattle.law_turns.proofs.Setting.{entry_itself}
use Rattle.law_leases.specs.Advances.{advanced_by, budget_used, changed_by, is_used, raised_count, raised_from, seen_of}

-- CHANGES ONE AFTER ANOTHER

added_to_none : (n : ℕ) → n ≡ 0 + n
added_to_none n = omega arith

filtered_more : (p : ℕ → Bool) (xs ys : List ℕ) → length (filter p (xs ++ ys)) ≡ length (filter p xs) + length (filter p ys)
filtered_more p [] ys = let n : ℕ = length (filter p ys) in added_to_none n
filtered_more p (x ∷ xs) ys = by_test (p x) (filtered_more p xs ys)
  where
    by_test : (t : Bool) → length (filter p (xs ++ ys)) ≡ length (filter p xs) + length (filter p ys) → length (if t then x ∷ filter p (xs ++ ys) else filter p (xs ++ ys)) ≡ length (if t then x ∷ filter p xs else filter p xs) + length (filter p ys)
    by_test true e = omega arith
    by_test false e = e

counted_again : (k : KernelState) (g n count : ℕ) (fs gs : List ℕ) → raised_count k g gs n (raised_count k g fs n count) ≡ raised_count k g (fs ++ gs) n count
counted_again k g n count fs gs = by_test (g == n)
  where
    by_test : (t : Bool) → (if t then (if t then count else count + seen_of k (pd_of k n) fs) else (if t then count else count + seen_of k (pd_of k n) fs) + seen_of k (pd_of k n) gs)
        ≡ (if t then count else count + seen_of k (pd_of k n) (fs ++ gs))
    by_test true = refl
    by_test false = let e = filtered_more (is_covered_for k (pd_of k n)) fs gs in omega arith

entry_again : (k : KernelState) (g n : ℕ) (count : Option ℕ) (fs gs : List ℕ) →
    option_map (raised_count k g gs n) (option_map (raised_count k g fs n) count) ≡ option_map (raised_count k g (fs ++ gs) n) count
entry_again k g n None fs gs = refl
entry_again k g n (Some count) fs gs = ap Some (counted_again k g n count fs gs)

raised_again : (k : KernelState) (g n : ℕ) (counts : List (Option ℕ)) (fs gs : List ℕ) → raised_from k g gs n (raised_from k g fs n counts) ≡ raised_from k g (fs ++ gs) n counts
raised_again k g n [] fs gs = refl
raised_again k g n (count ∷ counts) fs gs = ap₂ (λ (o : Option ℕ) (os : List (Option ℕ)). o ∷ os) (entry_again k g n count fs gs) (raised_again k g (n + 1) counts fs gs)

none_counted : (k : KernelState) (g n count : ℕ) → count ≡ raised_count k g [] n count
none_counted k g n count = by_test (g == n)
  where
    by_test : (t : Bool) → count ≡ (if t then count else count + 0)
    by_test true = refl
    by_test false = omega arith

entry_none : (k : KernelState) (g n : ℕ) (count : Option ℕ) → count ≡ option_map (raised_count k g [] n) count
entry_none k g n None = refl
entry_none k g n (Some count) = ap Some (none_counted k g n count)

raised_none : (k : KernelState) (g n : ℕ) (counts : List (Option ℕ)) → counts ≡ raised_from k g [] n counts
raised_none k g n [] = refl
raised_none k g n (count ∷ counts) = ap₂ (λ (o : Option ℕ) (os : List (Option ℕ)). o ∷ os) (entry_none k g n count) (raised_none k g (n + 1) counts)

-- one and n turns are n + 1
changed_again : (k : KernelState) (cpu sc g n : ℕ) (r s : Registers) (ram new : List (List ℕ)) (b d : Budget) (stamp last : ℕ) (gs hs : List (Option ℕ)) →
    cpu < length k.stirs.processors → cpu < length k.times.clocks → IsSome (context_at k g) →
    changed_by (changed_by k cpu sc g 1 r ram b stamp gs) cpu sc g n s new d last hs ≡ changed_by k cpu sc g (suc n) s new d last hs
changed_again k cpu sc g n r s ram new b d stamp last gs hs within clocked there = λ i. record k {
  contexts = contexts i;
  memory = record k.memory { ram = new };
  budgets = set-set k.budgets sc (Some b) (Some d) i;
  next_stamp = last;
  turns = turns i;
  stirs = record { guests = hs; processors = processors i };
  times = record k.times { clocks = clocks i };
}
  where
    itself : context (changed_by k cpu sc g 1 r ram b stamp gs) g ≡ record (context k g) { regs = r }
    itself = ap context_in (entry_itself k.contexts g (record (context k g) { regs = r }) there)

    contexts : with_ec (with_ec k.contexts g (record (context k g) { regs = r })) g (record (context (changed_by k cpu sc g 1 r ram b stamp gs) g) { regs = s })
        ≡ with_ec k.contexts g (record (context k g) { regs = s })
    contexts = ap (λ (x : EcState). with_ec (with_ec k.contexts g (record (context k g) { regs = r })) g (record x { regs = s })) itself
        ∙ set-set k.contexts g (Some (record (context k g) { regs = r })) (Some (record (context k g) { regs = s }))

    turns : k.turns + 1 + n ≡ k.turns + suc n
    turns = omega arith

    found : slice_index (slice_set k.stirs.processors cpu (slice_index k.stirs.processors cpu + 1)) cpu ≡ slice_index k.stirs.processors cpu + 1
    found = get_or-set_same k.stirs.processors cpu (slice_index k.stirs.processors cpu + 1) 0 within

    processors : slice_set (slice_set k.stirs.processors cpu (slice_index k.stirs.processors cpu + 1)) cpu
        (slice_index (slice_set k.stirs.processors cpu (slice_index k.stirs.processors cpu + 1)) cpu + n) ≡ slice_set k.stirs.processors cpu (slice_index k.stirs.processors cpu + suc n)
    processors = set-set k.stirs.processors cpu (slice_index k.stirs.processors cpu + 1) (slice_index (slice_set k.stirs.processors cpu (slice_index k.stirs.processors cpu + 1)) cpu + n)
        ∙ ap (slice_set k.stirs.processors cpu) (let e = found in omega arith)

    shown : slice_index (slice_set k.times.clocks cpu (slice_index k.times.clocks cpu + 1)) cpu ≡ slice_index k.times.clocks cpu + 1
    shown = get_or-set_same k.times.clocks cpu (slice_index k.times.clocks cpu + 1) 0 clocked

    clocks : slice_set (slice_set k.times.clocks cpu (slice_index k.times.clocks cpu + 1)) cpu
        (slice_index (slice_set k.times.clocks cpu (slice_index k.times.clocks cpu + 1)) cpu + n) ≡ slice_set k.times.clocks cpu (slice_index k.times.clocks cpu + suc n)
    clocks = set-set k.times.clocks cpu (slice_index k.times.clocks cpu + 1) (slice_index (slice_set k.times.clocks cpu (slice_index k.times.clocks cpu + 1)) cpu + n)
        ∙ ap (slice_set k.times.clocks cpu) (let e = shown in omega arith)

-- what is paid
abbrev pub paid_one : Budget → Budget
paid_one b = record { left = b.left - 1; stamp = b.stamp; ticks = b.ticks + 1 }

budget_again : (n q stamp : ℕ) (b : Budget) (t : Bool) → budget_used t n q stamp (paid_one b) ≡ budget_used t (suc n) q stamp b
budget_again n q stamp b true = ap (λ (t : ℕ). record { left = q; stamp = stamp; ticks = t }) (omega arith)
budget_again n q stamp b false = ap₂ (λ (l t : ℕ). record { left = l; stamp = b.stamp; ticks = t }) (omega arith) (omega arith)

used_again : (n left : ℕ) → 1 < left → 0 < n → (nat_lt 0 n && nat_le (left - 1) n) ≡ (nat_lt 0 (suc n) && nat_le left (suc n))
used_again n left more some = grind arith

unused_one : (left : ℕ) → 1 < left → (nat_lt 0 1 && nat_le left 1) ≡ false
unused_one left more = grind arith

pub one_goes_on : (k : KernelState) (cpu : ℕ) (c : Candidate) (b : Budget) (regs : Registers) (ram : List (List ℕ)) (fs : List ℕ) → 1 < b.left →
    advanced_by k cpu c b 1 regs ram fs ≡ changed_by k cpu c.sc c.actor 1 regs ram (paid_one b) k.next_stamp (raised_from k c.actor fs 0 k.stirs.guests)
one_goes_on k cpu c b regs ram fs more =
    ap (λ (t : Bool). changed_by k cpu c.sc c.actor 1 regs ram (budget_used t 1 (quantum_in (slice_get k.objects c.sc)) k.next_stamp b) (stamp_after t k.next_stamp)
    (raised_from k c.actor fs 0 k.stirs.guests)) (unused_one b.left more)

-- a state after one turn, with more turns to go
abbrev pub midway : KernelState → ℕ → Candidate → Budget → Registers → List (List ℕ) → List ℕ → KernelState
midway k cpu c b regs ram fs = changed_by k cpu c.sc c.actor 1 regs ram (paid_one b) k.next_stamp (raised_from k c.actor fs 0 k.stirs.guests)

pub advanced_again : (k : KernelState) (cpu : ℕ) (c : Candidate) (b : Budget) (n : ℕ) (r s : Registers) (ram new : List (List ℕ)) (fs gs : List ℕ) →
    cpu < length k.stirs.processors → cpu < length k.times.clocks → IsSome (context_at k c.actor) → 1 < b.left → 0 < n →
    advanced_by (midway k cpu c b r ram fs) cpu c (paid_one b) n s new gs ≡ advanced_by k cpu c b (suc n) s new (fs ++ gs)
advanced_again k cpu c b n r s ram new fs gs within clocked there more some =
    changed_again k cpu c.sc c.actor n r s ram new (paid_one b) _ k.next_stamp _ (raised_from k c.actor fs 0 k.stirs.guests) _ within clocked there
    ∙ (λ i. changed_by k cpu c.sc c.actor (suc n) s new
    ((ap (λ (t : Bool). budget_used t n (quantum_in (slice_get k.objects c.sc)) k.next_stamp (paid_one b)) (used_again n b.left more some) ∙ budget_again n (quantum_in (slice_get k.objects c.sc)) k.next_stamp b (is_used (suc n) b)) i)
    (ap (λ (t : Bool). stamp_after t k.next_stamp) (used_again n b.left more some) i)
    (raised_again k c.actor 0 k.stirs.guests fs gs i))

-- no turn
pub set_there : {T : Type 0} (xs : List (Option T)) (i : ℕ) (x : T) → entry (slice_get xs i) ≡ Some x → slice_set xs i (Some x) ≡ xs
set_there [] i x h = refl
set_there (y ∷ xs) zero x h = ap (λ (z : Option _). z ∷ xs) (sym h)
set_there (y ∷ xs) (suc i) x h = ap (λ (zs : List (Option _)). y ∷ zs) (set_there xs i x h)

some_context : (o : Option EcState) → IsSome o → o ≡ Some (context_in o)
some_context (Some x) h = refl
some_context None h = absurd (cc)

pub advanced_none : (k : KernelState) (cpu : ℕ) (c : Candidate) (b : Budget) → IsSome (context_at k c.actor) → budget_at k c.sc ≡ Some b →
    k ≡ advanced_by k cpu c b 0 (context k c.actor).regs k.memory.ram []
advanced_none k cpu c b there budget = λ i. record k {
  contexts = sym (set_there k.contexts c.actor (context k c.actor) (some_context (context_at k c.actor) there)) i;
  budgets = sym (ap (λ (d : Budget). slice_set k.budgets c.sc (Some d)) unpaid ∙ set_there k.budgets c.sc b budget) i;
  turns = turns i;
  stirs = record { guests = raised_none k c.actor 0 k.stirs.guests i; processors = sym processors i };
  times = record k.times { clocks = sym clocks i };
}
  where
    unpaid : budget_used false 0 (quantum_in (slice_get k.objects c.sc)) k.next_stamp b ≡ b
    unpaid = ap₂ (λ (n t : ℕ). record { left = n; stamp = b.stamp; ticks = t }) (omega arith) (omega arith)

    turns : k.turns ≡ k.turns + 0
    turns = omega arith

    processors : slice_set k.stirs.processors cpu (slice_index k.stirs.processors cpu + 0) ≡ k.stirs.processors
    processors = let e : slice_index k.stirs.processors cpu + 0 ≡ slice_index k.stirs.processors cpu = omega arith in
        ap (slice_set k.stirs.processors cpu) e ∙ set-get_or k.stirs.processors cpu 0

    clocks : slice_set k.times.clocks cpu (slice_index k.times.clocks cpu + 0) ≡ k.times.clocks
    clocks = let e : slice_index k.times.clocks cpu + 0 ≡ slice_index k.times.clocks cpu = omega arith in
        ap (slice_set k.times.clocks cpu) e ∙ set-get_or k.times.clocks cpu 0
