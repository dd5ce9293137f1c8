-- Tables fit the objects: as lists, entry by entry, and after an effect that goes to what is there.
use Rattle.std.proofs.Common.{◌≡◌, ℕ, zero, suc, ◌+◌, List, [], ◌∷◌, ◌++◌, length, refl, ap, ap₂, arith, ◌∙◌, sym}
use Rattle.std.specs.Prelude.{Bool, if◌then◌else◌, true, false, map, slice_get, Option, Some, None, IfSome, is_some, option_map}
use Rattle.std.specs.List.{AllByRecursion}
use Rattle.std.proofs.lemmas.List.{length-map}
use Rattle.nova_objects.specs.declared.object.Object.{Object}
use Rattle.nova_objects.specs.declared.object.Object.TheVariants.{Pd, Ec, Sc, Pt, Sm}
use Rattle.nova_model.specs.Capabilities.{is_ec, is_pt}
use Rattle.nova_model.specs.Memory.{Memory}
use Rattle.nova_model.specs.Semaphores.{Semaphores, changed_by, semaphore_at}
use Rattle.nova_model.specs.State.{Contexts, KernelState, Semaphore, context_at, context_in, ec_in, ec_of, entry, is_thread, is_thread_in, with_ec}
use Rattle.nova_model.specs.Turn.{budget_after, is_spent, quantum_in}
use Rattle.nova_model.specs.declared.budget.Budget.{Budget}
use Rattle.nova_model.specs.declared.context.EcState.{EcState}
use Rattle.nova_model.specs.declared.context.Mark.TheVariants as mark
use Rattle.law_turns.specs.Tables.{HasTables, IsOf, has_words, tag, tag_of}
use Rattle.law_turns.proofs.Tags.{get_map, get_tags, map_set, tags_length}
use Rattle.nova_model.specs.Creation.{budget_of, context_of, count_of, identifier_of, idle_semaphore, object_of, stir_count_of, transfer_of, words_of}
use Rattle.nova_model.specs.Capabilities.{is_sc, is_sm, is_vcpu}
use Rattle.nova_model.specs.declared.new_object.NewObject.{NewObject}
use Rattle.law_forest.specs.Effects.{Edit, Edits, Effect, Resumes, all_edited, applied, edit_at, edited, deadlines_with, joined, no_deadline, put, semaphores_with}
use Rattle.law_turns.proofs.Setting.{joined_length, set_length}
use Rattle.nova_model.specs.declared.times.Deadline.{Deadline}
use Rattle.law_forest.specs.Turns.{Turning, budgets_charged, budgets_paid, settled, stirred_counts}
use Rattle.law_turns.specs.Tables.{Refers, tags_from}
use Rattle.law_turns.proofs.Tags.{all_refer, budget_new, guest_new, identifier_new, map_more, maps_more, semaphore_new, tag_new, tags_more, transfer_new, words_new}

tagged : (o : Option (Option EcState)) (object : Option Object) (n : ℕ) → option_map tag o ≡ option_map (tag_of n) object → is_some (entry o) ≡ true → option_map is_ec object ≡ Some true
tagged None object n h there = absurd (cc)
tagged (Some None) object n h there = absurd (cc)
tagged (Some (Some x)) None n h there = absurd (cc)
tagged (Some (Some x)) (Some Pd) n h there = absurd (cc)
tagged (Some (Some x)) (Some (Ec pd cpu kind event)) n h there = refl
tagged (Some (Some x)) (Some (Sc ec cpu priority quantum)) n h there = absurd (cc)
tagged (Some (Some x)) (Some (Pt ec mtd ip)) n h there = absurd (cc)
tagged (Some (Some x)) (Some Sm) n h there = absurd (cc)

pub tags_at : (k : KernelState) (ec : ℕ) → HasTables k → option_map tag (slice_get k.contexts ec) ≡ option_map (tag_of (0 + ec)) (slice_get k.objects ec)
tags_at k ec h = sym (get_map tag k.contexts ec) ∙ ap (λ (l : List (Option (ℕ × ℕ))). slice_get l ec) h.contexts ∙ get_tags 0 k.objects ec

pub context_is : (k : KernelState) (ec : ℕ) → is_some (context_at k ec) ≡ true → HasTables k → IsOf k.objects is_ec ec
context_is k ec there h = tagged (slice_get k.contexts ec) (slice_get k.objects ec) (0 + ec) (tags_at k ec h) there

there_by : {T : Type 0} (o : Option (Option T)) (v : T) → option_map is_some o ≡ Some true → IfSome o (λ e. is_some (Some v) ≡ is_some e)
there_by None v h = tt
there_by (Some None) v h = absurd (cc)
there_by (Some (Some x)) v h = refl

pub transfer_there : (k : KernelState) (ec : ℕ) → is_some (context_at k ec) ≡ true → HasTables k → option_map is_some (slice_get k.transfers ec) ≡ Some true
transfer_there k ec there h =
    sym (get_map is_some k.transfers ec) ∙ ap (λ (l : List Bool). slice_get l ec) h.transfers ∙ get_map is_ec k.objects ec ∙ context_is k ec there h

pub kinds_at : {T : Type 0} (is : Object → Bool) (xs : List (Option T)) (os : List Object) (n : ℕ) → map is_some xs ≡ map is os →
    option_map is_some (slice_get xs n) ≡ option_map is (slice_get os n)
kinds_at is xs os n h = sym (get_map is_some xs n) ∙ ap (λ (l : List Bool). slice_get l n) h ∙ get_map is os n

pub all_get : {A : Type 0} (P : A → Type 0) (xs : List A) (n : ℕ) → AllByRecursion P xs → IfSome (slice_get xs n) P
all_get P [] n h = tt
all_get P (x ∷ xs) zero h = h.0
all_get P (x ∷ xs) (suc n) h = all_get P xs n h.1

thread_has_words : (o : Option Object) → is_thread_in o ≡ true → option_map has_words o ≡ Some true
thread_has_words None thread = absurd (cc)
thread_has_words (Some Pd) thread = absurd (cc)
thread_has_words (Some (Ec pd cpu kind event)) thread = ap Some thread
thread_has_words (Some (Sc ec cpu priority quantum)) thread = absurd (cc)
thread_has_words (Some (Pt ec mtd ip)) thread = absurd (cc)
thread_has_words (Some Sm) thread = absurd (cc)

pub words_there : (k : KernelState) (ec : ℕ) → is_thread k ec ≡ true → HasTables k → option_map is_some (slice_get k.messages ec) ≡ Some true
words_there k ec thread h = kinds_at has_words k.messages k.objects ec h.messages ∙ thread_has_words (slice_get k.objects ec) thread

pub owner_thread : (test : Bool) (m : List ℕ) (page : Bool) (words : List ℕ) → (if page then (if test then Some m else None) else None) ≡ Some words → test ≡ true
owner_thread true m page words is = refl
owner_thread false m true words is = absurd (cc)
owner_thread false m false words is = absurd (cc)

pub set_there : (cs : Contexts) (e : ℕ) (y : EcState) (n : ℕ) → is_some (ec_in cs n) ≡ true → is_some (ec_in (with_ec cs e y) n) ≡ true
set_there [] e y n there = there
set_there (c ∷ cs) zero y zero there = refl
set_there (c ∷ cs) zero y (suc n) there = there
set_there (c ∷ cs) (suc e) y zero there = there
set_there (c ∷ cs) (suc e) y (suc n) there = set_there cs e y n there

entry_semaphore : (o : Option (Option Semaphore)) (s new : Semaphore) → entry o ≡ Some s → IfSome o (λ e. is_some (Some new) ≡ is_some e)
entry_semaphore None s new h = tt
entry_semaphore (Some e) s new h = sym (ap is_some h)

entry_budget : (o : Option (Option Budget)) (b new : Budget) → entry o ≡ Some b → IfSome o (λ e. is_some (Some new) ≡ is_some e)
entry_budget None b new h = tt
entry_budget (Some e) b new h = sym (ap is_some h)

pub contexts_length : (k : KernelState) → HasTables k → length k.contexts ≡ length k.objects
contexts_length k h = sym (length-map k.contexts tag) ∙ ap length h.contexts ∙ tags_length 0 k.objects

-- WHERE AN EFFECT GOES

abbrev pub AreThere : Contexts → Edits → Type 0
AreThere cs [] = Unit {0}
AreThere cs ((n, e) ∷ es) = (is_some (ec_in cs n) ≡ true) × AreThere (edit_at cs n e) es

pub record IsPlaced (k : KernelState) (e : Effect) : Type 0 where
  pub made : IfSome e.made (λ m. Refers k.objects (object_of m))
  pub edits : AreThere k.contexts e.edits
  pub words : IfSome e.words (λ w. is_thread k w.0 ≡ true)
  pub transfer : IfSome e.transfer (λ t. is_some (context_at k t.0) ≡ true)
  pub identifier : IfSome e.identifier (λ p. IsOf k.objects is_pt p.0)

-- TABLES AFTER AN EFFECT

edited_tag : (x : EcState) (e : Edit) → tag (Some (edited x e)) ≡ tag (Some x)
edited_tag x (Resumes mark.Call m) = refl
edited_tag x other = refl

edited_entry : (o : Option (Option EcState)) (e : Edit) → is_some (entry o) ≡ true → IfSome o (λ x. tag (Some (edited (context_in (entry o)) e)) ≡ tag x)
edited_entry None e there = tt
edited_entry (Some None) e there = absurd cc
edited_entry (Some (Some x)) e there = edited_tag x e

pub edited_tags : (cs : Contexts) (es : Edits) → AreThere cs es → map tag (all_edited cs es) ≡ map tag cs
edited_tags cs [] there = refl
edited_tags cs ((n, e) ∷ es) there =
    edited_tags (edit_at cs n e) es there.1 ∙ map_set tag cs n (Some (edited (ec_of cs n) e)) (edited_entry (slice_get cs n) e there.0)

put_kinds : {T : Type 0} (xs : List (Option T)) (p : Option (ℕ × T)) → IfSome p (λ q. option_map is_some (slice_get xs q.0) ≡ Some true) →
    map is_some (put xs p) ≡ map is_some xs
put_kinds xs None there = refl
put_kinds xs (Some (n, v)) there = map_set is_some xs n (Some v) (there_by (slice_get xs n) v there)

semaphore_kinds : (all : Semaphores) (p : Option (ℕ × (Semaphore → Semaphore))) → map is_some (semaphores_with all p) ≡ map is_some all
semaphore_kinds all None = refl
semaphore_kinds all (Some (sm, change)) = by_entry (semaphore_at all sm) refl
  where
    by_entry : (o : Option Semaphore) → semaphore_at all sm ≡ o → map is_some (changed_by change all sm o) ≡ map is_some all
    by_entry None is = refl
    by_entry (Some s) is = map_set is_some all sm (Some (change s)) (entry_semaphore (slice_get all sm) s (change s) is)

joined_kinds : {T : Type 0} (is : Object → Bool) (xs : List (Option T)) (os : List Object) (born : NewObject → Option T) (made : Option NewObject) →
    ((m : NewObject) → is_some (born m) ≡ is (object_of m)) → map is_some xs ≡ map is os →
    map is_some (joined xs (option_map born made)) ≡ map is (joined os (option_map object_of made))
joined_kinds is xs os born None new h = h
joined_kinds is xs os born (Some m) new h = maps_more is xs os (born m) (object_of m) h (new m)

joined_tags : (cs : Contexts) (os : List Object) (made : Option NewObject) → map tag cs ≡ tags_from 0 os →
    map tag (joined cs (option_map (context_of (length os)) made)) ≡ tags_from 0 (joined os (option_map object_of made))
joined_tags cs os None h = h
joined_tags cs os (Some m) h =
    let e : length os ≡ 0 + length os = omega arith in
    map_more tag cs (context_of (length os) m)
    ∙ ap (λ (l : List (Option (ℕ × ℕ))). l ++ tag (context_of (length os) m) ∷ []) h
    ∙ ap (λ (t : Option (ℕ × ℕ)). tags_from 0 os ++ t ∷ []) (tag_new (length os) m ∙ ap (λ (i : ℕ). tag_of i (object_of m)) e)
    ∙ sym (tags_more 0 os (object_of m))

joined_refer : (os : List Object) (made : Option NewObject) → IfSome made (λ m. Refers os (object_of m)) → AllByRecursion (Refers os) os →
    let all = joined os (option_map object_of made) in AllByRecursion (Refers all) all
joined_refer os None refers h = h
joined_refer os (Some m) refers h = all_refer os (object_of m) os h refers

words_at_thread : (k : KernelState) (p : Option (ℕ × List ℕ)) → IfSome p (λ w. is_thread k w.0 ≡ true) → HasTables k →
    IfSome p (λ w. option_map is_some (slice_get k.messages w.0) ≡ Some true)
words_at_thread k None thread h = tt
words_at_thread k (Some w) thread h = words_there k w.0 thread h

joined_many : (ds : List (Option Deadline)) (os : List Object) (born : NewObject → Option Deadline) (made : Option NewObject) → length ds ≡ length os →
    length (joined ds (option_map born made)) ≡ length (joined os (option_map object_of made))
joined_many ds os born None same = same
joined_many ds os born (Some m) same = joined_length ds (born m) ∙ ap (λ (n : ℕ). n + 1) same ∙ sym (joined_length os (object_of m))

deadlines_length : (ds : List (Option Deadline)) (p : Option (ℕ × Option Deadline)) → length (deadlines_with ds p) ≡ length ds
deadlines_length ds None = refl
deadlines_length ds (Some (ec, d)) = set_length ds ec d

pub applied_tables : (k : KernelState) (e : Effect) → IsPlaced k e → HasTables k → HasTables (applied k e)
applied_tables k e is h = record {
  contexts = joined_tags (all_edited k.contexts e.edits) k.objects e.made (edited_tags k.contexts e.edits is.edits ∙ h.contexts);
  messages = joined_kinds has_words (put k.messages e.words) k.objects (λ m. words_of (object_of m)) e.made (λ m. words_new (object_of m))
      (put_kinds k.messages e.words (words_at_thread k e.words is.words h) ∙ h.messages);
  transfers = joined_kinds is_ec (put k.transfers e.transfer) k.objects (λ m. transfer_of (object_of m)) e.made (λ m. transfer_new (object_of m))
      (put_kinds k.transfers e.transfer (by_transfer e.transfer is.transfer) ∙ h.transfers);
  budgets = joined_kinds is_sc k.budgets k.objects (budget_of k.next_stamp) e.made (budget_new k.next_stamp) h.budgets;
  identifiers = joined_kinds is_pt (put k.identifiers e.identifier) k.objects identifier_of e.made identifier_new
      (put_kinds k.identifiers e.identifier (by_identifier e.identifier is.identifier) ∙ h.identifiers);
  semaphores = joined_kinds is_sm (semaphores_with k.semaphores e.semaphore) k.objects (λ m. option_map idle_semaphore (count_of m)) e.made semaphore_new
      (semaphore_kinds k.semaphores e.semaphore ∙ h.semaphores);
  guests = joined_kinds is_vcpu k.stirs.guests k.objects (λ m. stir_count_of (object_of m)) e.made (λ m. guest_new (object_of m)) h.guests;
  refer = joined_refer k.objects e.made is.made h.refer;
  deadlines = joined_many (deadlines_with k.times.deadlines e.deadline) k.objects no_deadline e.made (deadlines_length k.times.deadlines e.deadline ∙ h.deadlines);
  clocks = h.clocks;
}
  where
    by_transfer : {T : Type 0} (p : Option (ℕ × T)) → IfSome p (λ t. is_some (context_at k t.0) ≡ true) → IfSome p (λ t. option_map is_some (slice_get k.transfers t.0) ≡ Some true)
    by_transfer None there = tt
    by_transfer (Some t) there = transfer_there k t.0 there h

    by_identifier : (p : Option (ℕ × ℕ)) → IfSome p (λ q. IsOf k.objects is_pt q.0) → IfSome p (λ q. option_map is_some (slice_get k.identifiers q.0) ≡ Some true)
    by_identifier None is = tt
    by_identifier (Some q) is = kinds_at is_pt k.identifiers k.objects q.0 h.identifiers ∙ is

-- what is stirred, charged and counted
count_there : (is : Bool) (o : Option ℕ) → is_some (option_map (λ n. if is then n + 1 else n) o) ≡ is_some o
count_there is None = refl
count_there is (Some n) = refl

stirred_kinds : (is : ℕ → Bool) (g : ℕ) (counts : List (Option ℕ)) → map is_some (stirred_counts is g counts) ≡ map is_some counts
stirred_kinds is g [] = refl
stirred_kinds is g (count ∷ counts) = ap₂ (λ (c : Bool) (cs : List Bool). c ∷ cs) (count_there (is g) count) (stirred_kinds is (g + 1) counts)

charged_kinds : (os : List Object) (bs : List (Option Budget)) (stamp : ℕ) (charge : Option ℕ) → map is_some (budgets_charged os bs stamp charge) ≡ map is_some bs
charged_kinds os bs stamp None = refl
charged_kinds os bs stamp (Some sc) = by_budget (entry (slice_get bs sc)) refl
  where
    by_budget : (o : Option Budget) → entry (slice_get bs sc) ≡ o → map is_some (budgets_paid bs sc (quantum_in (slice_get os sc)) stamp o) ≡ map is_some bs
    by_budget None is = refl
    by_budget (Some b) is = map_set is_some bs sc (Some (budget_after (is_spent b) (quantum_in (slice_get os sc)) stamp b)) (entry_budget (slice_get bs sc) b (budget_after (is_spent b) (quantum_in (slice_get os sc)) stamp b) is)

pub settled_tables : (s : KernelState) (cpu : ℕ) (t : Turning) → HasTables s → HasTables (settled s cpu t)
settled_tables s cpu t h = record {
  contexts = h.contexts;
  messages = h.messages;
  transfers = h.transfers;
  budgets = charged_kinds s.objects s.budgets s.next_stamp t.charge ∙ h.budgets;
  identifiers = h.identifiers;
  semaphores = h.semaphores;
  guests = stirred_kinds t.stirs 0 s.stirs.guests ∙ h.guests;
  refer = h.refer;
  deadlines = h.deadlines;
  clocks = set_length s.times.clocks cpu _ ∙ h.clocks;
}

pub with_memory : (k : KernelState) (m : Memory) → HasTables k → HasTables (record k { memory = m })
with_memory k m h = record {
  contexts = h.contexts;
  messages = h.messages;
  transfers = h.transfers;
  budgets = h.budgets;
  identifiers = h.identifiers;
  semaphores = h.semaphores;
  guests = h.guests;
  refer = h.refer;
  deadlines = h.deadlines;
  clocks = h.clocks;
}
