-- What is left of an item is given next, and an item ends where nothing is left.
use Rattle.std.proofs.Common.{◌≡◌, ℕ, List, [], ◌∷◌, ap, ◌∙◌, subst, inl, inr, refl, arith}
use Rattle.std.specs.Prelude.{◌↔◌, ◌==◌, ◌&&◌, Bool, true, false, nat_le, filter, Contains, Option, Some, None, length, option_map, Result, Ok, Err, if◌then◌else◌}
use Rattle.std.specs.List.{cons_option, filter_map, range_with_len}
use Rattle.std.proofs.lemmas.Bool.{and_from, and_parts, eqb-true, eq-eqb}
use Rattle.std.proofs.lemmas.Bool.Decides.{nat_tests}
use Rattle.nova_model.specs.Edges.{is_giving}
use Rattle.nova_range.specs.Ranges.{SharesPlace, overlaps}
use Rattle.nova_range.proofs.Meetings as meetings
use Rattle.nova_model.specs.Deeds.{deed, deed_in}
use Rattle.nova_model.specs.Delegations.{base_of, is_held_in, is_same_kind, meets, range_of}
use Rattle.nova_model.specs.Deliveries.{answered_by, delegated, delivered, delivers, delivery, flag, part_deed, parted}
use Rattle.nova_model.specs.Revokes.{Revocation, busy}
use Rattle.nova_model.specs.Running.{Running, is_busy, revoke_of, running, running_of}
use Rattle.nova_model.specs.State.{KernelState, context, pd_of, transfer}
use Rattle.nova_model.specs.Transfers.{child_of, is_left, judged, next_source, part_of, source_of}
use Rattle.nova_model.specs.Translations.{translated}
use Rattle.nova_model.specs.Hypercalls.{row}
use Rattle.nova_model.specs.declared.context.State.{State}
use Rattle.nova_model.specs.declared.context.State.TheVariants.{Granting, Replying}
use Rattle.nova_model.specs.declared.deed.Deed.{Deed}
use Rattle.nova_model.specs.declared.deed.Deed.TheVariants.{Finishes, Gives, Skips}
use Rattle.nova_model.specs.declared.delegation.Derivation.{Derivation}
use Rattle.nova_model.specs.declared.transfer.Delivery.{Delivery}
use Rattle.nova_model.specs.declared.transfer.ItemEnd.TheVariants.{Given}
use Rattle.nova_model.specs.declared.transfer.ItemWords.{ItemWords}
use Rattle.nova_model.specs.declared.transfer.Job.{Job}
use Rattle.nova_model.specs.declared.transfer.Reason.{Reason}
use Rattle.nova_model.specs.declared.transfer.Reason.TheVariants as reason
use Rattle.nova_model.specs.declared.transfer.Sequel.{Sequel}
use Rattle.nova_model.specs.declared.transfer.Skip.{Skip}
use Rattle.law_forest.proofs.Extremes.{any_in, before_facts, least, none_before, none_passes}
use Rattle.law_forest.proofs.Members.{IsIn, contains_from_in, filtered_in, in_filtered, in_from_contains}
use Rattle.law_forest.proofs.Transfers.{judged_facts}
use Rattle.law_forest.proofs.Walk.{IsGiving, IsSkipping, deed_holds, job_in, own_holds}
use Rattle.law_forest.specs.Items.{job_at_cursor}
use Rattle.law_forest.proofs.Plain.{kind_itself, same_kind}
use Rattle.law_turns.specs.Left.{HasGivenAll, HasReason, IsFirstLeft, IsGivenOf, IsLeft, IsSkippedFor, NothingIsLeft}
use Rattle.law_turns.proofs.Rows.{IsWhole, done_weaker, is_part, row_whole}

-- THE TEST

left_from : (j : Job) (d : Derivation) → is_left j d ≡ true → IsLeft j d
left_from j d h =
    let a = and_parts (is_same_kind j.kind d.kind) (d.pd == j.giver && (nat_le j.cursor d.base && overlaps (range_of d) (source_of j))) h in
    let b = and_parts (d.pd == j.giver) (nat_le j.cursor d.base && overlaps (range_of d) (source_of j)) a.1 in
    let c = and_parts (nat_le j.cursor d.base) (overlaps (range_of d) (source_of j)) b.1 in
    record {
      giver = eqb-true d.pd j.giver b.0;
      kind = same_kind j.kind d.kind a.0;
      ahead = grind (arith, nat_tests, c.0);
      shares = (meetings.shared (range_of d) (source_of j)).0 c.1;
    }

left_to : (j : Job) (d : Derivation) → IsLeft j d → is_left j d ≡ true
left_to j d h =
    let ahead = h.ahead in
    and_from (is_same_kind j.kind d.kind) (d.pd == j.giver && (nat_le j.cursor d.base && overlaps (range_of d) (source_of j))) (ap (is_same_kind j.kind) h.kind ∙ kind_itself j.kind)
    (and_from (d.pd == j.giver) (nat_le j.cursor d.base && overlaps (range_of d) (source_of j)) (eq-eqb d.pd j.giver h.giver)
    (and_from (nat_le j.cursor d.base) (overlaps (range_of d) (source_of j)) (grind (arith, nat_tests)) ((meetings.shared (range_of d) (source_of j)).1 h.shares)))

-- THE NEXT ONE

pub first_left : (list : List Derivation) (j : Job) (d : Derivation) → next_source list j ≡ Some d → IsFirstLeft list j d
first_left list j d is =
    let first = before_facts (λ a b. nat_le (base_of a) (base_of b)) (filter (is_left j) list) d is in
    let its = filtered_in (is_left j) list d first.there in
    record {
      there = contains_from_in list d its.0;
      left = left_from j d its.1;
      least = λ other there left.
          let before = first.before other (in_filtered (is_left j) list other (in_from_contains list other there) (left_to j other left)) in
          grind (arith, nat_tests, before);
    }

none_left : (list : List Derivation) (j : Job) → next_source list j ≡ None → NothingIsLeft list j
none_left list j none = λ d there left.
    let empty = none_before (λ a b. nat_le (base_of a) (base_of b)) (least base_of) (filter (is_left j) list) none in
    let off = none_passes (is_left j) list empty d (in_from_contains list d there) in
    let on = left_to j d left in
    cc

left_none : (list : List Derivation) (j : Job) → NothingIsLeft list j → next_source list j ≡ None
left_none list j nothing = by_next (next_source list j) refl
  where
    by_next : (o : Option Derivation) → next_source list j ≡ o → next_source list j ≡ None
    by_next None is = is
    by_next (Some d) is = let first = first_left list j d is in absurd (nothing d first.there first.left)

pub nothing_left : (list : List Derivation) (j : Job) → (next_source list j ≡ None) ↔ NothingIsLeft list j
nothing_left list j = (none_left list j, left_none list j)

-- WHERE AN ITEM ENDS

abbrev Ends : KernelState → ℕ → Deed → Type 0
Ends k ec (Finishes number (Given children) words follows) = HasGivenAll k ec
Ends k ec other = Unit {0}

whole_ends : (k : KernelState) (ec : ℕ) (d : Deed) → is_part d ≡ false → Ends k ec d
whole_ends k ec (Finishes number (Given children) words follows) whole = absurd (cc)
whole_ends k ec other whole = tt

parted_ends : (k : KernelState) (ec : ℕ) (j : Job) (d : Derivation) (r : Result Derivation Reason) → Ends k ec (parted j d r)
parted_ends k ec j d (Ok x) = tt
parted_ends k ec j d (Err why) = tt

delegated_ends : (k : KernelState) (ec : ℕ) (v : Delivery) → delivery k ec (context k ec).state ≡ Some v → Ends k ec (delegated k v (transfer k ec) (job_in v))
delegated_ends k ec v present = by_job (job_in v) refl
  where
    by_source : (j : Job) → job_in v ≡ Ok j → (o : Option Derivation) → next_source k.delegations.list (job_at_cursor k ec j) ≡ o →
        Ends k ec (part_deed v (transfer k ec) (job_at_cursor k ec j) (option_map (part_of (is_busy k) k.delegations (job_at_cursor k ec j)) o))
    by_source j reads None next = record {
      job = job_at_cursor k ec j;
      is_with = record { item = v; present = present; job = j; reads = reads; on = refl };
      nothing = none_left k.delegations.list (job_at_cursor k ec j) next;
    }
    by_source j reads (Some d) next =
        parted_ends k ec (job_at_cursor k ec j) d (judged (is_busy k) k.delegations.list (child_of (job_at_cursor k ec j) k.delegations.next d))

    by_job : (r : Result Job Skip) → job_in v ≡ r → Ends k ec (delegated k v (transfer k ec) r)
    by_job (Err skip) reads = tt
    by_job (Ok j) reads = by_source j reads (next_source k.delegations.list (job_at_cursor k ec j)) refl

delivered_ends : (k : KernelState) (ec : ℕ) (v : Delivery) → delivery k ec (context k ec).state ≡ Some v → Ends k ec (delivered k v (transfer k ec))
delivered_ends k ec v present = by_flag (flag v == 1)
  where
    by_flag : (t : Bool) → Ends k ec (if t then delegated k v (transfer k ec) (job_in v)
        else answered_by v (transfer k ec) (translated k.delegations.list v.range_word v.translations v.giver v.receiver))
    by_flag true = delegated_ends k ec v present
    by_flag false = tt

delivers_ends : (k : KernelState) (ec : ℕ) (o : Option Delivery) → delivery k ec (context k ec).state ≡ o → Ends k ec (delivers k (transfer k ec) o)
delivers_ends k ec None present = tt
delivers_ends k ec (Some v) present = delivered_ends k ec v present

giving_ends : (k : KernelState) (ec : ℕ) → is_giving (context k ec).state ≡ true → Ends k ec (deed k ec)
unfolding deed
giving_ends k ec giving = by_state (context k ec).state refl giving
  where
    by_state : (s : State) → (context k ec).state ≡ s → is_giving s ≡ true → Ends k ec (deed_in k ec s)
    by_state (Granting new) is some = delivers_ends k ec (delivery k ec (Granting new)) (ap (delivery k ec) is)
    by_state Replying is some = delivers_ends k ec (delivery k ec Replying) (ap (delivery k ec) is)
    by_state other is some = absurd (cc)

deed_ends : (k : KernelState) (ec : ℕ) → Ends k ec (deed k ec)
deed_ends k ec = by_test (is_giving (context k ec).state) refl
  where
    by_test : (t : Bool) → is_giving (context k ec).state ≡ t → Ends k ec (deed k ec)
    by_test true is = giving_ends k ec is
    by_test false is =
        own_holds (Ends k ec) k ec is tt
        (record {
          steps = tt;
          raises = λ why q0 q1. tt;
          dies = λ why q0. tt;
          refuses = λ number status. tt;
          waits = λ pt why q0 q1 is. tt;
          sends = λ pt why q0 q1 is. tt;
          aborts = λ handler is. tt;
          removes = λ range own leaf is next. tt;
          returns = λ range own is next. tt;
          rows = λ asks c read. done_weaker IsWhole (Ends k ec) (row k ec (pd_of k ec) c) (whole_ends k ec) (row_whole k ec (pd_of k ec) c);
        })

pub item_ends : (k : KernelState) (ec number children : ℕ) (words : Option ItemWords) (follows : Sequel) → deed k ec ≡ Finishes number (Given children) words follows → HasGivenAll k ec
item_ends k ec number children words follows is = subst (Ends k ec) is (deed_ends k ec)

-- WHAT IS GIVEN AND WHAT IS SKIPPED

held_by : (list : List Derivation) (x : Derivation) → is_held_in list x.pd (range_of x) ≡ true →
    (d : Derivation) × Contains list d × (d.pd ≡ x.pd) × (d.kind ≡ x.kind) × SharesPlace (range_of d) (range_of x)
held_by list x held =
    let some = any_in (meets x.pd (range_of x)) list held in
    let d = some.0 in
    let a = and_parts (is_same_kind x.kind d.kind) (d.pd == x.pd && overlaps (range_of d) (range_of x)) some.2 in
    let b = and_parts (d.pd == x.pd) (overlaps (range_of d) (range_of x)) a.1 in
    (d, contains_from_in list d some.1, eqb-true d.pd x.pd b.0, same_kind x.kind d.kind a.0, (meetings.shared (range_of d) (range_of x)).0 b.1)

pub picked_from : (h : ℕ → Option Running) (xs : List ℕ) (w : Running) → IsIn (filter_map h xs) w → (e : ℕ) × (h e ≡ Some w)
picked_from h [] w i = absurd i
picked_from h (x ∷ xs) w i = by_first (λ j. picked_from h xs w j) (h x) refl i
  where
    by_first : (IsIn (filter_map h xs) w → (e : ℕ) × (h e ≡ Some w)) → (o : Option Running) → h x ≡ o → IsIn (cons_option o (filter_map h xs)) w →
        (e : ℕ) × (h e ≡ Some w)
    by_first rest None is j = rest j
    by_first rest (Some y) is (inl same) = (x, is ∙ ap (λ (v : Running). Some v) same)
    by_first rest (Some y) is (inr j) = rest j

pub runs_it : (e : ℕ) (o : Option Revocation) (w : Running) → running_of e o ≡ Some w → o ≡ Some w.revoke
runs_it e None w h = absurd (cc)
runs_it e (Some r) w h = ap (option_map (λ (v : Running). v.revoke)) h

busy_for : (k : KernelState) (x : Derivation) → is_busy k x ≡ true → (runner : ℕ) × (r : Revocation) × (revoke_of k runner ≡ Some r) × (busy r k.delegations.list x ≡ true)
busy_for k x is =
    let some = any_in (λ (w : Running). busy w.revoke k.delegations.list x) (running k) is in
    let its = picked_from (λ e. running_of e (revoke_of k e)) (range_with_len 0 (length k.contexts)) some.0 some.1 in
    (its.0, some.0.revoke, runs_it its.0 (revoke_of k its.0) some.0 its.1, some.2)

judged_reason : (k : KernelState) (x : Derivation) (why : Reason) → judged (is_busy k) k.delegations.list x ≡ Err why → HasReason k x why
judged_reason k x why h = by_tests (x.rights.0 == 0) refl (is_held_in k.delegations.list x.pd (range_of x)) refl (is_busy k x) refl h
  where
    to_why : (its : Reason) → HasReason k x its → its ≡ why → HasReason k x why
    to_why its has same = subst (HasReason k x) same has

    by_tests : (n : Bool) → (x.rights.0 == 0) ≡ n → (t : Bool) → is_held_in k.delegations.list x.pd (range_of x) ≡ t → (b : Bool) → is_busy k x ≡ b →
        (if n then Err reason.Rights else if t then Err reason.Taken else if b then Err reason.Busy else Ok x) ≡ Err why → HasReason k x why
    by_tests true ns t ts b bs g = to_why reason.Rights (eqb-true x.rights.0 0 ns) (cc)
    by_tests false ns true ts b bs g = to_why reason.Taken (held_by k.delegations.list x ts) (cc)
    by_tests false ns false ts true bs g = to_why reason.Busy (busy_for k x bs) (cc)
    by_tests false ns false ts false bs g = absurd (cc)

given_of : (k : KernelState) (ec : ℕ) (d x : Derivation) → IsGiving k ec d x → IsGivenOf k ec x
given_of k ec d x g = record {
  job = job_at_cursor k ec g.job;
  is_with = record { item = g.item; present = g.of_item.present; job = g.job; reads = g.reads; on = refl };
  source = d;
  first = first_left k.delegations.list (job_at_cursor k ec g.job) d g.next;
  parent = ap (λ (y : Derivation). y.parent) (judged_facts (is_busy k) k.delegations.list (child_of (job_at_cursor k ec g.job) k.delegations.next d) x g.good).same;
}

skipped_for : (k : KernelState) (ec : ℕ) (d : Derivation) (why : Reason) → IsSkipping k ec d why → IsSkippedFor k ec why
skipped_for k ec d why g = record {
  job = job_at_cursor k ec g.job;
  is_with = record { item = g.item; present = g.of_item.present; job = g.job; reads = g.reads; on = refl };
  source = d;
  first = first_left k.delegations.list (job_at_cursor k ec g.job) d g.next;
  because = judged_reason k (child_of (job_at_cursor k ec g.job) k.delegations.next d) why g.bad;
}

abbrev Parts : KernelState → ℕ → Deed → Type 0
Parts k ec (Gives x cursor) = IsGivenOf k ec x
Parts k ec (Skips why place cursor) = IsSkippedFor k ec why
Parts k ec other = Unit {0}

whole_parts : (k : KernelState) (ec : ℕ) (d : Deed) → is_part d ≡ false → Parts k ec d
whole_parts k ec (Gives x cursor) whole = absurd (cc)
whole_parts k ec (Skips why place cursor) whole = absurd (cc)
whole_parts k ec other whole = tt

deed_parts : (k : KernelState) (ec : ℕ) → Parts k ec (deed k ec)
deed_parts k ec =
    deed_holds (Parts k ec) k ec tt
    (record {
      steps = tt;
      raises = λ why q0 q1. tt;
      dies = λ why q0. tt;
      refuses = λ number status. tt;
      waits = λ pt why q0 q1 is. tt;
      sends = λ pt why q0 q1 is. tt;
      aborts = λ handler is. tt;
      removes = λ range own leaf is next. tt;
      returns = λ range own is next. tt;
      rows = λ asks c read. done_weaker IsWhole (Parts k ec) (row k ec (pd_of k ec) c) (whole_parts k ec) (row_whole k ec (pd_of k ec) c);
    })
    (record { gives = given_of k ec; skips = λ d why place is. skipped_for k ec d why is; finishes = λ v end answer present is. tt })

pub part_given : (k : KernelState) (ec cursor : ℕ) (child : Derivation) → deed k ec ≡ Gives child cursor → IsGivenOf k ec child
part_given k ec cursor child is = subst (Parts k ec) is (deed_parts k ec)

pub part_skipped : (k : KernelState) (ec place cursor : ℕ) (why : Reason) → deed k ec ≡ Skips why place cursor → IsSkippedFor k ec why
part_skipped k ec place cursor why is = subst (Parts k ec) is (deed_parts k ec)
