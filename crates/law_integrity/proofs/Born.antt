-- What is asked for by right is made, and is then what was asked for.
use Rattle.std.proofs.Common.{◌≡◌, ◌<◌, ◌≤◌, ℕ, ◌-◌, ◌%◌, ◌^◌, List, [], ◌∷◌, ◌++◌, length, refl, sym, ap, ◌∙◌, subst, arith}
use Rattle.std.specs.Prelude.{Bool, true, false, nat_lt, nat_le, ◌==◌, is_some, option_map, slice_get, Option, Some, None, Result, Ok, Err}
use Rattle.std.proofs.lemmas.Bool.Decides.{nat_tests}
use Rattle.rv_model.specs.Registers.{Registers, reg}
use Rattle.rv_model.specs.Step.{environment_call}
use Rattle.nova_calls.specs.Hypercalls.{call_of, create_ec_row, create_pd_row, create_pt_row, create_sm_row, read_row, rows}
use Rattle.nova_calls.specs.declared.call.Call.{Call}
use Rattle.nova_calls.specs.declared.call.Call.TheVariants as asks
use Rattle.nova_calls.specs.declared.numbers.TheConstants.{CREATE_EC, CREATE_PD, CREATE_PT, CREATE_SM}
use Rattle.nova_objects.specs.declared.object.EcKind.{EcKind}
use Rattle.nova_objects.specs.declared.object.EcKind.TheVariants.{Local, Global, Vcpu}
use Rattle.nova_objects.specs.declared.object.Object.{Object}
use Rattle.nova_objects.specs.declared.object.Object.TheVariants.{Pd}
use Rattle.nova_range.specs.declared.status.Status.{Status}
use Rattle.nova_range.specs.declared.status.Status.TheVariants.{BadCap, Busy}
use Rattle.nova_model.specs.Capabilities.{bind_portal_right, create_right, is_held, is_local, is_pd, is_pt, is_sm, named}
use Rattle.nova_model.specs.Choice.{Candidate}
use Rattle.nova_model.specs.Creation.{context_of, count_of, identifier_of, idle_semaphore, new_context, object_of}
use Rattle.nova_model.specs.Deeds.{deed, deed_in, ready, signalled, stepping}
use Rattle.nova_model.specs.Forest.{IsForest}
use Rattle.nova_model.specs.Hypercalls.{and_then, hypercall, makes, unless, unless_busy}
use Rattle.nova_model.specs.Revokes.{Revocation}
use Rattle.nova_model.specs.Running.{is_revoked}
use Rattle.nova_model.specs.Runs.{after}
use Rattle.nova_model.specs.Semaphores.{semaphore_at}
use Rattle.nova_model.specs.State.{KernelState, context, context_at, entry, pd_of}
use Rattle.nova_model.specs.declared.context.State.TheVariants.{Fresh, Parked}
use Rattle.nova_model.specs.declared.deed.Deed.TheVariants as deeds
use Rattle.nova_model.specs.declared.delegation.Derivation.{Derivation}
use Rattle.nova_model.specs.declared.new_object.NewObject.{NewObject}
use Rattle.nova_model.specs.declared.new_object.NewObject.TheVariants as new
use Rattle.law_forest.specs.Effects.{all_edited, edits_by, identifier_by, joined, made_by, put, semaphore_by, semaphores_with}
use Rattle.law_forest.specs.Turns.{acting, turned}
use Rattle.law_forest.proofs.Actors.{who_acts}
use Rattle.law_forest.proofs.Turning.{chosen_turn}
use Rattle.law_turns.specs.Asked.{IsCalling, IsHeldAt, IsRevokedAt}
use Rattle.law_turns.specs.Tables.{HasTables}
use Rattle.law_turns.proofs.Asking.{asked_is, asked_is_made}
use Rattle.law_turns.proofs.Courses.{edited_length}
use Rattle.law_turns.proofs.Holding.{from_free, from_idle, named_is}
use Rattle.law_turns.proofs.Setting.{get_last}
use Rattle.law_turns.proofs.TablesKept.{contexts_length}
use Rattle.law_origins.specs.Giving.{Acts}
use Rattle.law_integrity.specs.Births.{Asks, AsksOpening, AsksContext, AsksFor, AsksPortal, IsAs, MayMakeAt, call_for}
use Rattle.law_integrity.proofs.Entries.{change_length, put_length, same_length}
use Rattle.law_integrity.proofs.Tables.{born_context}

-- WHAT IS ASKED FOR IS MADE

makes_is : (k : KernelState) (domain call target pd owner : ℕ) (its : ℕ → Result NewObject Status) (made : NewObject) → named k domain is_pd create_right pd ≡ Ok owner →
    is_held k domain target ≡ false → its owner ≡ Ok made → is_revoked k domain target ≡ false → makes k domain call target pd its ≡ Ok (deeds.Makes call target made)
makes_is k domain call target pd owner its made creator free is idle =
    by_parts (named k domain is_pd create_right pd) (is_held k domain target) creator free
  where
    by_new : (o : Result NewObject Status) (t : Bool) → o ≡ Ok made → t ≡ false → and_then o (λ m. unless t Busy (Ok (deeds.Makes call target m))) ≡ Ok (deeds.Makes call target made)
    by_new (Err status) t e none = absurd (cc)
    by_new (Ok m) true e none = absurd (cc)
    by_new (Ok m) false e none = let same : m ≡ made = cc in ap (λ (x : NewObject). Ok (deeds.Makes call target x)) same

    by_parts : (c : Result ℕ Status) (t : Bool) → c ≡ Ok owner → t ≡ false →
        and_then (and_then c (λ o. unless t BadCap (Ok o))) (λ o. and_then (its o) (λ m. unless_busy k domain target (deeds.Makes call target m))) ≡ Ok (deeds.Makes call target made)
    by_parts (Err status) t e none = absurd (cc)
    by_parts c true e none = absurd (cc)
    by_parts (Ok o) false e none =
        let same : o ≡ owner = cc in by_new (its o) (is_revoked k domain target) (ap its same ∙ is) idle

-- what the maker's rules ask
creator_is : (k : KernelState) (domain : ℕ) (r : Registers) (target owner : ℕ) → IsForest k.delegations → MayMakeAt k domain r target owner → named k domain is_pd create_right (reg r 11) ≡ Ok owner
creator_is k domain r target owner forest m = named_is k domain is_pd create_right (reg r 11) owner Pd forest m.creator m.opened refl

target_free : (k : KernelState) (domain : ℕ) (r : Registers) (target owner : ℕ) → MayMakeAt k domain r target owner → is_held k domain (reg r 10) ≡ false
target_free k domain r target owner m = from_free k domain (reg r 10) (subst (λ (s : ℕ). (d : Derivation) → IsHeldAt k domain s d → ⊥) m.place m.free)

target_idle : (k : KernelState) (domain : ℕ) (r : Registers) (target owner : ℕ) → MayMakeAt k domain r target owner → is_revoked k domain (reg r 10) ≡ false
target_idle k domain r target owner m = from_idle k domain (reg r 10) (subst (λ (s : ℕ). (x : Revocation) → IsRevokedAt k domain s x → ⊥) m.place m.idle)

-- reading
below_is : (a n : ℕ) → a < n → nat_lt a n ≡ true
below_is a n h = grind (arith, nat_tests)

most_is : (a n : ℕ) → a ≤ n → nat_le a n ≡ true
most_is a n h = grind (arith, nat_tests)

selectors : (k : KernelState) (domain : ℕ) (r : Registers) (target owner : ℕ) → MayMakeAt k domain r target owner → (nat_lt (reg r 10) (2 ^ 20) ≡ true) × (nat_lt (reg r 11) (2 ^ 20) ≡ true)
selectors k domain r target owner m =
    (below_is (reg r 10) (2 ^ 20) (subst (λ (s : ℕ). s < 2 ^ 20) m.place m.below), below_is (reg r 11) (2 ^ 20) m.creator.below)

read_pd : (r : Registers) (c : Call) → reg r 17 ≡ CREATE_PD → create_pd_row r ≡ Some c → call_of r ≡ Ok c
unfolding call_of
read_pd r c number is = ap (λ (n : ℕ). read_row (slice_get (rows r) n)) number ∙ ap (λ (o : Option Call). read_row (Some o)) is

read_ec : (r : Registers) (c : Call) → reg r 17 ≡ CREATE_EC → create_ec_row r ≡ Some c → call_of r ≡ Ok c
unfolding call_of
read_ec r c number is = ap (λ (n : ℕ). read_row (slice_get (rows r) n)) number ∙ ap (λ (o : Option Call). read_row (Some o)) is

read_pt : (r : Registers) (c : Call) → reg r 17 ≡ CREATE_PT → create_pt_row r ≡ Some c → call_of r ≡ Ok c
unfolding call_of
read_pt r c number is = ap (λ (n : ℕ). read_row (slice_get (rows r) n)) number ∙ ap (λ (o : Option Call). read_row (Some o)) is

read_sm : (r : Registers) (c : Call) → reg r 17 ≡ CREATE_SM → create_sm_row r ≡ Some c → call_of r ≡ Ok c
unfolding call_of
read_sm r c number is = ap (λ (n : ℕ). read_row (slice_get (rows r) n)) number ∙ ap (λ (o : Option Call). read_row (Some o)) is

-- each kind; with the registers in place of what they say
at_target : (k : KernelState) (caller domain : ℕ) (r : Registers) (target owner : ℕ) (made : NewObject) → MayMakeAt k domain r target owner →
    hypercall k caller domain r ≡ deeds.Makes (call_for made) (reg r 10) made → hypercall k caller domain r ≡ deeds.Makes (call_for made) target made
at_target k caller domain r target owner made m is = is ∙ ap (λ (t : ℕ). deeds.Makes (call_for made) t made) (sym m.place)

pd_made : (k : KernelState) (caller domain : ℕ) (r : Registers) (target owner : ℕ) → IsForest k.delegations → MayMakeAt k domain r target owner → AsksFor k domain r target owner new.Pd →
    hypercall k caller domain r ≡ deeds.Makes CREATE_PD (reg r 10) new.Pd
pd_made k caller domain r target owner forest m a =
    let s = selectors k domain r target owner m in
    asked_is k caller domain r (asks.CreatePd (reg r 10) (reg r 11) None) (deeds.Makes CREATE_PD (reg r 10) new.Pd) (read_pd r _ a.0 (rw (s.0, s.1, a.1) refl))
    (by_parts (named k domain is_pd create_right (reg r 11)) (is_held k domain (reg r 10)) (is_revoked k domain (reg r 10)) (creator_is k domain r target owner forest m)
    (target_free k domain r target owner m) (target_idle k domain r target owner m))
  where
    by_parts : (c : Result ℕ Status) (t v : Bool) → c ≡ Ok owner → t ≡ false → v ≡ false →
        and_then (and_then c (λ o. unless t BadCap (Ok o))) (λ o. unless v Busy (Ok (deeds.Makes CREATE_PD (reg r 10) new.Pd))) ≡ Ok (deeds.Makes CREATE_PD (reg r 10) new.Pd)
    by_parts (Err status) t v e free idle = absurd (cc)
    by_parts c true v e free idle = absurd (cc)
    by_parts (Ok o) false true e free idle = absurd (cc)
    by_parts (Ok o) false false e free idle = refl

pub opening_made : (k : KernelState) (caller domain : ℕ) (r : Registers) (target : ℕ) → IsForest k.delegations → AsksOpening k domain r target →
    hypercall k caller domain r ≡ deeds.Opens target (length k.objects)
opening_made k caller domain r target forest a =
    let m = a.1 in
    let s = selectors k domain r target a.0 m in
    asked_is k caller domain r (asks.CreatePd (reg r 10) (reg r 11) (Some a.3.0)) (deeds.Opens (reg r 10) (length k.objects)) (read_pd r _ a.2 (rw (s.0, s.1, a.3.1) refl))
    (by_parts (named k domain is_pd create_right (reg r 11)) (is_held k domain (reg r 10)) (is_revoked k domain (reg r 10)) (creator_is k domain r target a.0 forest m)
    (target_free k domain r target a.0 m) (target_idle k domain r target a.0 m))
    ∙ ap (λ (t : ℕ). deeds.Opens t (length k.objects)) (sym m.place)
  where
    by_parts : (c : Result ℕ Status) (t v : Bool) → c ≡ Ok a.0 → t ≡ false → v ≡ false →
        and_then (and_then c (λ o. unless t BadCap (Ok o))) (λ o. unless v Busy (Ok (deeds.Opens (reg r 10) (length k.objects)))) ≡ Ok (deeds.Opens (reg r 10) (length k.objects))
    by_parts (Err status) t v e free idle = absurd (cc)
    by_parts c true v e free idle = absurd (cc)
    by_parts (Ok o) false true e free idle = absurd (cc)
    by_parts (Ok o) false false e free idle = refl

ec_made : (k : KernelState) (caller domain : ℕ) (r : Registers) (target owner pd cpu : ℕ) (kind : EcKind) (sp event : ℕ) → IsForest k.delegations → MayMakeAt k domain r target owner →
    AsksContext k r owner pd cpu kind sp event → hypercall k caller domain r ≡ deeds.Makes CREATE_EC (reg r 10) (new.Ec pd cpu kind sp event)
ec_made k caller domain r target owner pd cpu kind sp event forest m a =
    let s = selectors k domain r target owner m in
    let fits : nat_le (reg r 14) (2 ^ 20 - 9) ≡ true = most_is (reg r 14) (2 ^ 20 - 9) (subst (λ (e : ℕ). e ≤ 2 ^ 20 - 9) a.base a.most) in
    let there : nat_lt (reg r 12 % 2 ^ 8) k.cpus ≡ true = below_is (reg r 12 % 2 ^ 8) k.cpus (subst (λ (c : ℕ). c < k.cpus) a.processor a.there) in
    asked_is k caller domain r (asks.CreateEc (reg r 10) (reg r 11) (reg r 12 % 2 ^ 8) kind (reg r 13) (reg r 14)) (deeds.Makes CREATE_EC (reg r 10) (new.Ec owner (reg r 12 % 2 ^ 8) kind (reg r 13) (reg r 14)))
    (read_ec r _ a.call (rw (s.0, s.1, fits, a.kind_is) refl))
    (makes_is k domain CREATE_EC (reg r 10) (reg r 11) owner _ (new.Ec owner (reg r 12 % 2 ^ 8) kind (reg r 13) (reg r 14)) (creator_is k domain r target owner forest m)
    (target_free k domain r target owner m) (rw there refl) (target_idle k domain r target owner m))
    ∙ ap (λ (p : ℕ). deeds.Makes CREATE_EC (reg r 10) (new.Ec p (reg r 12 % 2 ^ 8) kind (reg r 13) (reg r 14))) (sym a.domain)
    ∙ ap (λ (c : ℕ). deeds.Makes CREATE_EC (reg r 10) (new.Ec pd c kind (reg r 13) (reg r 14))) (sym a.processor)
    ∙ ap (λ (x : ℕ). deeds.Makes CREATE_EC (reg r 10) (new.Ec pd cpu kind x (reg r 14))) (sym a.stack)
    ∙ ap (λ (x : ℕ). deeds.Makes CREATE_EC (reg r 10) (new.Ec pd cpu kind sp x)) (sym a.base)

local_there : (o : Option Object) → option_map is_local o ≡ Some true → (x : Object) × (o ≡ Some x) × (is_local x ≡ true)
local_there (Some x) h = (x, refl, let same : is_local x ≡ true = cc in same)
local_there None h = absurd (cc)

pt_made : (k : KernelState) (caller domain : ℕ) (r : Registers) (target owner ec mtd ip : ℕ) → IsForest k.delegations → MayMakeAt k domain r target owner →
    AsksPortal k domain r ec mtd ip → hypercall k caller domain r ≡ deeds.Makes CREATE_PT (reg r 10) (new.Pt ec mtd ip)
pt_made k caller domain r target owner ec mtd ip forest m a =
    let s = selectors k domain r target owner m in
    let at : nat_lt (reg r 12) (2 ^ 20) ≡ true = below_is (reg r 12) (2 ^ 20) a.binder.below in
    let groups : nat_le (reg r 13) 15 ≡ true = most_is (reg r 13) 15 (subst (λ (x : ℕ). x ≤ 15) a.descriptor a.groups) in
    let aligned : reg r 14 % 4 ≡ 0 = subst (λ (x : ℕ). x % 4 ≡ 0) a.begins a.aligned in
    let even : (reg r 14 % 4 == 0) ≡ true = grind arith in
    let handler = local_there (slice_get k.objects ec) a.handler in
    let names : named k domain is_local bind_portal_right (reg r 12) ≡ Ok ec = named_is k domain is_local bind_portal_right (reg r 12) ec handler.0 forest a.binder handler.1 handler.2 in
    asked_is k caller domain r (asks.CreatePt (reg r 10) (reg r 11) (reg r 12) (record { 0 = reg r 13 }) (reg r 14)) (deeds.Makes CREATE_PT (reg r 10) (new.Pt ec (reg r 13) (reg r 14)))
    (read_pt r _ a.call (rw (s.0, s.1, at, groups, even) refl))
    (makes_is k domain CREATE_PT (reg r 10) (reg r 11) owner _ (new.Pt ec (reg r 13) (reg r 14)) (creator_is k domain r target owner forest m)
    (target_free k domain r target owner m) (ap (λ (o : Result ℕ Status). and_then o (λ handler. Ok (new.Pt handler (reg r 13) (reg r 14)))) names) (target_idle k domain r target owner m))
    ∙ ap (λ (x : ℕ). deeds.Makes CREATE_PT (reg r 10) (new.Pt ec x (reg r 14))) (sym a.descriptor)
    ∙ ap (λ (x : ℕ). deeds.Makes CREATE_PT (reg r 10) (new.Pt ec mtd x)) (sym a.begins)

sm_made : (k : KernelState) (caller domain : ℕ) (r : Registers) (target owner count : ℕ) → IsForest k.delegations → MayMakeAt k domain r target owner → AsksFor k domain r target owner (new.Sm count) →
    hypercall k caller domain r ≡ deeds.Makes CREATE_SM (reg r 10) (new.Sm count)
sm_made k caller domain r target owner count forest m a =
    let s = selectors k domain r target owner m in
    asked_is k caller domain r (asks.CreateSm (reg r 10) (reg r 11) (reg r 12)) (deeds.Makes CREATE_SM (reg r 10) (new.Sm (reg r 12))) (read_sm r _ a.0 (rw (s.0, s.1) refl))
    (makes_is k domain CREATE_SM (reg r 10) (reg r 11) owner (λ o. Ok (new.Sm (reg r 12))) (new.Sm (reg r 12)) (creator_is k domain r target owner forest m)
    (target_free k domain r target owner m) refl (target_idle k domain r target owner m))
    ∙ ap (λ (x : ℕ). deeds.Makes CREATE_SM (reg r 10) (new.Sm x)) (sym a.1)

pub asked_made : (k : KernelState) (caller domain : ℕ) (r : Registers) (target : ℕ) (made : NewObject) → IsForest k.delegations → Asks k domain r target made →
    hypercall k caller domain r ≡ deeds.Makes (call_for made) target made
asked_made k caller domain r target new.Pd forest a = at_target k caller domain r target a.0 new.Pd a.1 (pd_made k caller domain r target a.0 forest a.1 a.2)
asked_made k caller domain r target (new.Ec pd cpu kind sp event) forest a =
    at_target k caller domain r target a.0 (new.Ec pd cpu kind sp event) a.1 (ec_made k caller domain r target a.0 pd cpu kind sp event forest a.1 a.2)
asked_made k caller domain r target (new.Sc ec cpu priority quantum) forest a = asked_is_made k caller domain r target ec cpu priority quantum forest a.2
asked_made k caller domain r target (new.Pt ec mtd ip) forest a = at_target k caller domain r target a.0 (new.Pt ec mtd ip) a.1 (pt_made k caller domain r target a.0 ec mtd ip forest a.1 a.2)
asked_made k caller domain r target (new.Sm count) forest a = at_target k caller domain r target a.0 (new.Sm count) a.1 (sm_made k caller domain r target a.0 count forest a.1 a.2)

pub calling_made : (k : KernelState) (caller target : ℕ) (made : NewObject) → IsForest k.delegations → IsCalling k caller → Asks k (pd_of k caller) (context k caller).regs target made →
    deed k caller ≡ deeds.Makes (call_for made) target made
unfolding deed
calling_made k caller target made forest calling a =
    ap (deed_in k caller) calling.state
    ∙ ap (ready k caller) calling.recall
    ∙ ap (stepping k caller) calling.raises
    ∙ ap (signalled k caller environment_call calling.q0 calling.q1) calling.thread
    ∙ asked_made k caller (pd_of k caller) (context k caller).regs target made forest a

-- WHAT IS MADE IS WHAT WAS ASKED FOR

entry_last : {T : Type 0} (xs : List (Option T)) (b : Option T) (n : ℕ) → n ≡ length xs → entry (slice_get (xs ++ b ∷ []) n) ≡ b
entry_last xs b n same = ap (λ (m : ℕ). entry (slice_get (xs ++ b ∷ []) m)) same ∙ ap (λ (o : Option (Option _)). entry o) (get_last xs b)

born_kind : (n cpu : ℕ) (kind : EcKind) (sp : ℕ) → (kind ≡ Local → (new_context n cpu kind sp).state ≡ Parked) × ((kind ≡ Local → ⊥) → (new_context n cpu kind sp).state ≡ Fresh)
born_kind n cpu Local sp = (λ is. refl, λ other. absurd (other refl))
born_kind n cpu Global sp = (λ is. absurd (cc), λ other. refl)
born_kind n cpu Vcpu sp = (λ is. absurd (cc), λ other. refl)

-- a state with the object as the last
record IsJoined (k s : KernelState) (made : NewObject) : Type 0 where
  objects : s.objects ≡ k.objects ++ object_of made ∷ []
  context : context_at s (length k.objects) ≡ context_of (length k.objects) made
  identifier : entry (slice_get s.identifiers (length k.objects)) ≡ identifier_of made
  semaphore : semaphore_at s.semaphores (length k.objects) ≡ option_map idle_semaphore (count_of made)

joined_as : (k s : KernelState) (made : NewObject) → IsJoined k s made → IsAs s (length k.objects) made
joined_as k s made j = by_made made refl
  where
    object : slice_get s.objects (length k.objects) ≡ Some (object_of made)
    object = ap (λ (os : List Object). slice_get os (length k.objects)) j.objects ∙ get_last k.objects (object_of made)

    by_made : (m : NewObject) → made ≡ m → IsAs s (length k.objects) m
    by_made new.Pd is = object ∙ ap (λ (m : NewObject). Some (object_of m)) is
    by_made (new.Ec pd cpu kind sp event) is =
        let kinds = born_kind (length k.objects) cpu kind sp in record {
          object = object ∙ ap (λ (m : NewObject). Some (object_of m)) is;
          state = new_context (length k.objects) cpu kind sp;
          there = j.context ∙ ap (context_of (length k.objects)) is;
          born = born_context (length k.objects) (length k.objects) (new.Ec pd cpu kind sp event) refl;
          processor = refl;
          stack = refl;
          parked = kinds.0;
          fresh = kinds.1;
        }
    by_made (new.Sc ec cpu priority quantum) is = object ∙ ap (λ (m : NewObject). Some (object_of m)) is
    by_made (new.Pt ec mtd ip) is = (object ∙ ap (λ (m : NewObject). Some (object_of m)) is, j.identifier ∙ ap identifier_of is)
    by_made (new.Sm count) is = (object ∙ ap (λ (m : NewObject). Some (object_of m)) is, j.semaphore ∙ ap (λ (m : NewObject). option_map idle_semaphore (count_of m)) is)

turned_joined : (k : KernelState) (cpu : ℕ) (c : Candidate) (call target : ℕ) (made : NewObject) → HasTables k → deed k c.actor ≡ deeds.Makes call target made →
    IsJoined k (turned k cpu (acting k c)) made
turned_joined k cpu c call target made tables is =
    let by = ap made_by is in record {
      objects = ap (λ (o : Option NewObject). joined k.objects (option_map object_of o)) by;
      context = ap (λ (o : Option NewObject). entry (slice_get (joined (all_edited k.contexts (edits_by k c.actor (deed k c.actor))) (option_map (context_of (length k.objects)) o)) (length k.objects))) by
          ∙ entry_last (all_edited k.contexts (edits_by k c.actor (deed k c.actor))) (context_of (length k.objects) made) (length k.objects)
          (sym (edited_length k.contexts (edits_by k c.actor (deed k c.actor)) ∙ contexts_length k tables));
      identifier = ap (λ (o : Option NewObject). entry (slice_get (joined (put k.identifiers (identifier_by (deed k c.actor))) (option_map identifier_of o)) (length k.objects))) by
          ∙ entry_last (put k.identifiers (identifier_by (deed k c.actor))) (identifier_of made) (length k.objects)
          (sym (put_length k.identifiers (identifier_by (deed k c.actor)) ∙ same_length is_some is_pt k.identifiers k.objects tables.identifiers));
      semaphore = ap (λ (o : Option NewObject). entry (slice_get (joined (semaphores_with k.semaphores (semaphore_by c.actor (deed k c.actor))) (option_map (λ m. option_map idle_semaphore (count_of m)) o))
          (length k.objects))) by
          ∙ entry_last (semaphores_with k.semaphores (semaphore_by c.actor (deed k c.actor))) (option_map idle_semaphore (count_of made)) (length k.objects)
          (sym (change_length k.semaphores (semaphore_by c.actor (deed k c.actor)) ∙ same_length is_some is_sm k.semaphores k.objects tables.semaphores));
    }

pub born_as : (k : KernelState) (cpu ec call target : ℕ) (made : NewObject) → HasTables k → Acts k cpu ec → deed k ec ≡ deeds.Makes call target made → IsAs (after k cpu) (length k.objects) made
born_as k cpu ec call target made tables acts =
    who_acts (λ n. deed k n ≡ deeds.Makes call target made → IsAs (after k cpu) (length k.objects) made) k cpu ec acts
    (λ c chosen is. subst (λ (s : KernelState). IsAs s (length k.objects) made) (sym (chosen_turn k cpu c chosen))
    (joined_as k (turned k cpu (acting k c)) made (turned_joined k cpu c call target made tables is)))
