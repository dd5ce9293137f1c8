-- Equal stir counts of a virtual CPU and its processor mean an equal view, and equal budgets of the processor.
use Rattle.law_forest.proofs.Turning.{event_at}
use Rattle.std.proofs.Common.{◌≡◌, ◌≢◌, ◌≤◌, ℕ, zero, suc, ◌+◌, ◌%◌, List, [], ◌∷◌, ap, sym, ◌∙◌, subst, refl, arith}
use Rattle.std.specs.Prelude.{Bool, true, false, ◌==◌, slice_set, slice_index, Option, Some, None, option_and_then, if◌then◌else◌}
use Rattle.std.proofs.lemmas.Bool.{ne_eqb, true≢false}
use Rattle.rv_model.specs.Step.{Store}
use Rattle.nova_guest.specs.declared.input.Input.{Input}
use Rattle.nova_guest.specs.declared.input.Input.TheVariants.{Own, Reply, Recall, Given, Taken, Foreign, Sent, Died}
use Rattle.nova_model.specs.Choice.{Candidate, next_to_act}
use Rattle.nova_model.specs.Deeds.{deed, instruction}
use Rattle.nova_model.specs.Guests.{input, input_by}
use Rattle.nova_model.specs.Inputs.{foreign_at, foreign_by, frame_of_store, given_of, input_of, is_covered_for, only_if, others_input, own_input, reply_of, store_of}
use Rattle.nova_model.specs.Runs.{after, run}
use Rattle.nova_model.specs.State.{KernelState, message, pd_of}
use Rattle.nova_model.specs.Views.{is_memory_of}
use Rattle.nova_model.specs.declared.context.Mark.TheVariants as mark
use Rattle.nova_model.specs.declared.deed.Deed.{Deed}
use Rattle.nova_model.specs.declared.deed.Deed.TheVariants.{Steps, Recalls, Gives, Removes, Finishes, Replies}
use Rattle.nova_model.specs.declared.transfer.Sequel.TheVariants as sequel
use Rattle.law_turns.specs.Stirs.{stirs_of}
use Rattle.law_turns.proofs.Paying.{Comes, Idles, Takes, comes, Passes}
use Rattle.law_turns.proofs.Stirring.{counts_nothing, counts_outside, counts_own}

-- A TURN OF ANOTHER IS NO INPUT OF ITS OWN

abbrev pub is_own : Option Input → Bool
is_own (Some Own) = true
is_own other = false

if_no : (t : Bool) (i : Input) → is_own (Some i) ≡ false → is_own (only_if t i) ≡ false
if_no true i h = h
if_no false i h = refl

store_no : (k : KernelState) (ec pd : ℕ) (o : Option Store) → is_own (option_and_then (foreign_by k ec pd) o) ≡ false
store_no k ec pd None = refl
store_no k ec pd (Some s) = by_frame (frame_of_store k ec s)
  where
    by_test : (f : ℕ) (t : Bool) → is_own (if t then Some (Foreign f (s.address % 4096) s.width s.value) else None) ≡ false
    by_test f true = refl
    by_test f false = refl

    by_frame : (f : Option ℕ) → is_own (option_and_then (foreign_at k pd s) f) ≡ false
    by_frame None = refl
    by_frame (Some f) = by_test f (is_covered_for k pd f)

others_no : (k : KernelState) (ec g : ℕ) (d : Deed) → is_own (others_input k ec g d) ≡ false
others_no k ec g Steps = store_no k ec (pd_of k g) (store_of (instruction k ec))
others_no k ec g (Recalls whose) = if_no (whose == g) Recall refl
others_no k ec g (Replies caller mark.Exit false) = if_no (caller == g) (reply_of (message k ec)) refl
others_no k ec g (Replies caller mark.Exit true) = refl
others_no k ec g (Replies caller mark.Call items) = refl
others_no k ec g (Finishes item end words (sequel.Replied caller mark.Exit)) = if_no (caller == g) (reply_of (message k ec)) refl
others_no k ec g (Finishes item end words (sequel.Replied caller mark.Call)) = refl
others_no k ec g (Finishes item end words sequel.Item) = refl
others_no k ec g (Finishes item end words sequel.Opened) = refl
others_no k ec g (Finishes item end words sequel.Taken) = refl
others_no k ec g (Gives child cursor) = if_no (is_memory_of (pd_of k g) child) (given_of k child) refl
others_no k ec g (Removes leaf) = if_no (is_memory_of (pd_of k g) leaf) (Taken leaf.base leaf.order) refl
others_no k ec g other = refl

pub apart_no : (k : KernelState) (cpu g : ℕ) (c : Candidate) → next_to_act k cpu ≡ Some c → c.actor ≢ g → is_own (input k cpu g) ≡ false
unfolding input input_of
apart_no k cpu g c chosen ne =
    ap (λ (o : Option Candidate). is_own (input_by k g o)) chosen
    ∙ (ap (λ (t : Bool). is_own (if t then own_input (deed k c.actor) else others_input k c.actor g (deed k c.actor))) (ne_eqb c.actor g ne) ∙ others_no k c.actor g (deed k c.actor))

-- and neither is a turn in which none acts
pub nobody_no : (k : KernelState) (cpu g : ℕ) → next_to_act k cpu ≡ None → is_own (input k cpu g) ≡ false
unfolding input
nobody_no k cpu g none = ap (λ (o : Option Candidate). is_own (input_by k g o)) none

-- COUNTS RISE

pub record HasRisen (o : Option ℕ) (n : ℕ) : Type 0 where
  pub count : ℕ
  pub is : o ≡ Some count
  pub most : n ≤ count

pub is_outside : (i : Input) → is_own (Some i) ≡ false → i ≢ Own
is_outside i other e = true≢false (sym (ap (λ (j : Input). is_own (Some j)) e) ∙ other)

own_is : (i : Input) → is_own (Some i) ≡ true → i ≡ Own
own_is Own h = refl
own_is (Reply mtd words) h = absurd (cc)
own_is Recall h = absurd (cc)
own_is (Given base order rights frame contents) h = absurd (cc)
own_is (Taken base order) h = absurd (cc)
own_is (Foreign frame offset width value) h = absurd (cc)
own_is Sent h = absurd (cc)
own_is Died h = absurd (cc)

pub turn_rises : (k : KernelState) (cpu g n : ℕ) → stirs_of k g ≡ Some n → HasRisen (stirs_of (after k cpu) g) n
turn_rises k cpu g n is = by_input (input k cpu g) refl
  where
    by_own : (i : Input) → input k cpu g ≡ Some i → (t : Bool) → is_own (Some i) ≡ t → HasRisen (stirs_of (after k cpu) g) n
    by_own i comes true own = record { count = n; is = counts_own k cpu g n is (comes ∙ ap Some (own_is i own)); most = omega arith }
    by_own i comes false own = record { count = n + 1; is = counts_outside k cpu g n i is comes (is_outside i own); most = omega arith }

    by_input : (o : Option Input) → input k cpu g ≡ o → HasRisen (stirs_of (after k cpu) g) n
    by_input None comes = record { count = n; is = counts_nothing k cpu g n is comes; most = omega arith }
    by_input (Some i) comes = by_own i comes (is_own (Some i)) refl

pub run_rises : (k : KernelState) (turns : List ℕ) (g n : ℕ) → stirs_of k g ≡ Some n → HasRisen (stirs_of (run k turns) g) n
run_rises k [] g n is = record { count = n; is = is; most = omega arith }
run_rises k (cpu ∷ turns) g n is =
    let one = turn_rises k cpu g n is in
    let all = run_rises (after k cpu) turns g one.count one.is in
    let a = one.most in let b = all.most in
    record { count = all.count; is = all.is; most = omega arith }

-- those of processors
index_rises : (xs : List ℕ) (i j : ℕ) → slice_index xs j ≤ slice_index (slice_set xs i (slice_index xs i + 1)) j
index_rises [] i j = omega arith
index_rises (x ∷ xs) zero zero = omega arith
index_rises (x ∷ xs) zero (suc j) = omega arith
index_rises (x ∷ xs) (suc i) zero = omega arith
index_rises (x ∷ xs) (suc i) (suc j) = index_rises xs i j

pub processor_rises : (k : KernelState) (cpu p : ℕ) → slice_index k.stirs.processors p ≤ slice_index (after k cpu).stirs.processors p
processor_rises k cpu p = by_turn (after k cpu) (comes k cpu)
  where
    by_turn : (new : KernelState) → Comes k new cpu (event_at k cpu) → slice_index k.stirs.processors p ≤ slice_index new.stirs.processors p
    by_turn new (Idles idle is event) = let e : slice_index new.stirs.processors p ≡ slice_index k.stirs.processors p = ap (λ (s : KernelState). slice_index s.stirs.processors p) is in omega arith
    by_turn new (Passes q is none event) =
        subst (λ (s : KernelState). slice_index k.stirs.processors p ≤ slice_index s.stirs.processors p) (sym is) (index_rises k.stirs.processors cpu p)
    by_turn new (Takes c chosen t event) = subst (λ (l : List ℕ). slice_index k.stirs.processors p ≤ slice_index l p) (sym t.processors) (index_rises k.stirs.processors cpu p)

pub processors_rise : (k : KernelState) (turns : List ℕ) (p : ℕ) → slice_index k.stirs.processors p ≤ slice_index (run k turns).stirs.processors p
processors_rise k [] p = omega arith
processors_rise k (cpu ∷ turns) p = let a = processor_rises k cpu p in let b = processors_rise (after k cpu) turns p in omega arith
