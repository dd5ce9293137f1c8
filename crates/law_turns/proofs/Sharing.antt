-- A child that is given is what the range of its item and a derivation of the giver's share.
use Rattle.std.proofs.Common.{◌≡◌, ℕ, ◌+◌, ◌-◌, ◌<◌, ◌≤◌, ◌%◌, ◌^◌, List, ap, ◌∙◌, sym, subst, inl, inr, refl, arith}
use Rattle.std.specs.Prelude.{◌⊎◌, ◌==◌, ◌&&◌, Bool, true, false, max, min, bit_and, Option, Some, None, Ok, Err, if◌then◌else◌}
use Rattle.std.proofs.lemmas.Bool.{cases_lt, eqb-true, eq-eqb}
use Rattle.std.proofs.lemmas.Nat.{and_assoc, and_comm}
use Rattle.nova_range.specs.Clamps.{clamp_of}
use Rattle.nova_range.specs.RangeWords.{meaning_of}
use Rattle.nova_range.specs.declared.range.Range.{Range}
use Rattle.nova_range.specs.declared.rights.Rights.{Rights}
use Rattle.nova_model.specs.Boot.{Scenario, boot}
use Rattle.nova_model.specs.Deeds.{deed}
use Rattle.nova_model.specs.Deliveries.{delivery}
use Rattle.nova_model.specs.Running.{is_busy}
use Rattle.nova_model.specs.Delegations.{is_same_kind}
use Rattle.nova_range.specs.Rights.{allows}
use Rattle.nova_model.specs.Forest.{IsAligned, IsForest}
use Rattle.nova_model.specs.Hypercalls.{row}
use Rattle.nova_model.specs.Runs.{run}
use Rattle.nova_model.specs.State.{KernelState, context, pd_of}
use Rattle.nova_model.specs.Transfers.{child_of, common_rights, hotspot_in, job_at, job_between, next_source, read_as}
use Rattle.nova_model.specs.declared.deed.Deed.{Deed}
use Rattle.nova_model.specs.declared.deed.Deed.TheVariants.{Gives}
use Rattle.nova_model.specs.declared.delegation.Derivation.{Derivation}
use Rattle.nova_model.specs.declared.transfer.Delivery.{Delivery}
use Rattle.nova_model.specs.declared.transfer.Job.{Job}
use Rattle.nova_model.specs.declared.transfer.Skip.TheVariants.{Window}
use Rattle.law_forest.proofs.Jobs.{job_ranges}
use Rattle.law_forest.proofs.Changes.{boot_run_forest}
use Rattle.law_forest.proofs.Members.{all_at, contains_from_in}
use Rattle.law_forest.proofs.Multiples.{nested}
use Rattle.law_forest.proofs.Transfers.{child_rights, judged_facts, left_facts, next_facts}
use Rattle.law_forest.proofs.Walk.{IsGiving, deed_holds, job_in}
use Rattle.law_forest.specs.Items.{job_at_cursor}
use Rattle.law_turns.specs.Giving.{IsShared}
use Rattle.law_turns.proofs.Rows.{IsWhole, done_weaker, is_part, row_whole}

-- RIGHTS

both_or_not : (p q s : Bool) → (p ≡ true → (q ≡ true) × (s ≡ true)) → (q ≡ true → s ≡ true → p ≡ true) → p ≡ (q && s)
both_or_not true q s down up = let both = down refl in rw (both.0, both.1) refl
both_or_not false true true down up = up refl refl
both_or_not false true false down up = refl
both_or_not false false s down up = refl

shared_rights : (a b : Rights) (right : ℕ) → allows (common_rights a b) right ≡ (allows a right && allows b right)
shared_rights a b right =
    both_or_not (allows (common_rights a b) right) (allows a right) (allows b right)
    (λ h. (child_rights a b right h, child_rights b a right (ap (λ (n : ℕ). bit_and n right == right) (and_comm b.0 a.0) ∙ h)))
    (λ first second.
    eq-eqb (bit_and (bit_and a.0 b.0) right) right
    (and_assoc right a.0 b.0 ∙ ap (bit_and a.0) (eqb-true (bit_and b.0 right) right second) ∙ eqb-true (bit_and a.0 right) right first))

-- PLACES

-- of two aligned ranges that overlap, one at a of order low and one at b of order high: what both have
record AreCommon (a low b high : ℕ) : Type 0 where
  starts : max a b ≤ b + (max a b - b)
  in_first : b + (max a b - b) + 2 ^ min low high ≤ a + 2 ^ low
  in_second : b + (max a b - b) + 2 ^ min low high ≤ b + 2 ^ high
  all : (place : ℕ) → max a b ≤ place → place < a + 2 ^ low → place < b + 2 ^ high → place < b + (max a b - b) + 2 ^ min low high

common_places : (a low b high : ℕ) → a % 2 ^ low ≡ 0 → b % 2 ^ high ≡ 0 → a < b + 2 ^ high → b < a + 2 ^ low → AreCommon a low b high
common_places a low b high ha hb first second = by_order (cases_lt high low)
  where
    by_order : (high < low) ⊎ (low ≤ high) → AreCommon a low b high
    by_order (inl h) =
        let order : min low high ≡ high = omega arith in
        let in_a = nested b high a low (omega arith) hb ha second first in
        let begins : max a b ≡ b = omega (arith, in_a.0) in
        let none : b + (b - b) ≡ b = omega arith in
        record {
          starts = rw (begins, none) (omega arith);
          in_first = rw (order, begins, none) in_a.1;
          in_second = rw (order, begins, none) (omega arith);
          all = λ place from below_a below_b. rw (order, begins, none) below_b;
        }
    by_order (inr h) =
        let order : min low high ≡ low = omega arith in
        let in_b = nested a low b high h ha hb first second in
        let begins : max a b ≡ a = omega (arith, in_b.0) in
        let here : b + (a - b) ≡ a = omega (arith, in_b.0) in
        record {
          starts = rw (begins, here) (omega arith);
          in_first = rw (order, begins, here) (omega arith);
          in_second = rw (order, begins, here) in_b.1;
          all = λ place from below_a below_b. rw (order, begins, here) below_a;
        }

-- ITEMS

-- a delegation that reads as this job: its range and its window, and the clamp of both
record IsRead (v : Delivery) (j : Job) : Type 0 where
  range : Range
  range_rights : Rights
  window : Range
  window_rights : Rights
  reads : read_as (meaning_of v.range_word) ≡ Some (range, range_rights)
  takes : read_as (meaning_of v.delegations) ≡ Some (window, window_rights)
  job : j ≡ job_at range range_rights (clamp_of range window (hotspot_in v.second_word)) v.giver v.receiver

job_reads : (v : Delivery) (j : Job) → job_in v ≡ Ok j → IsRead v j
job_reads v j is = by_words (read_as (meaning_of v.range_word)) refl (read_as (meaning_of v.delegations)) refl is
  where
    by_kind : (r w : Range × Rights) → read_as (meaning_of v.range_word) ≡ Some r → read_as (meaning_of v.delegations) ≡ Some w → (t : Bool) →
        (if t then Ok (job_at r.0 r.1 (clamp_of r.0 w.0 (hotspot_in v.second_word)) v.giver v.receiver) else Err Window) ≡ Ok j → IsRead v j
    by_kind r w reads takes true e = record {
      range = r.0;
      range_rights = r.1;
      window = w.0;
      window_rights = w.1;
      reads = reads;
      takes = takes;
      job = let same : job_at r.0 r.1 (clamp_of r.0 w.0 (hotspot_in v.second_word)) v.giver v.receiver ≡ j = cc in sym same;
    }
    by_kind r w reads takes false e = absurd (cc)

    by_words : (o : Option (Range × Rights)) → read_as (meaning_of v.range_word) ≡ o → (p : Option (Range × Rights)) → read_as (meaning_of v.delegations) ≡ p →
        job_between o p (hotspot_in v.second_word) v.giver v.receiver ≡ Ok j → IsRead v j
    by_words None reads p takes e = absurd (cc)
    by_words (Some r) reads None takes e = absurd (cc)
    by_words (Some r) reads (Some w) takes e = by_kind r w reads takes (is_same_kind r.0.kind w.0.kind) e

-- CHILDREN

-- the child of the derivation that is next
child_shared : (k : KernelState) (ec : ℕ) (v : Delivery) (j : Job) (d : Derivation) → delivery k ec (context k ec).state ≡ Some v → job_in v ≡ Ok j → IsForest k.delegations →
    next_source k.delegations.list (job_at_cursor k ec j) ≡ Some d → IsShared k ec (child_of (job_at_cursor k ec j) k.delegations.next d)
child_shared k ec v j d present is forest next_is =
    let read = job_reads v j is in
    let of_job = read.job in
    let next = next_facts k.delegations.list (job_at_cursor k ec j) d next_is in
    let left = left_facts (job_at_cursor k ec j) d next.left in
    let aligned = all_at IsAligned k.delegations.list d forest.aligned next.there in
    let ranges = job_ranges v.range_word v.second_word v.delegations v.giver v.receiver j is in
    let common = common_places d.base d.order j.source j.order aligned.base ranges.source.aligned left.first left.second in
    let starts = common.starts in
    let in_first = common.in_first in
    let in_second = common.in_second in
    record {
      item = v;
      present = present;
      range = read.range;
      range_rights = read.range_rights;
      reads = read.reads;
      window = read.window;
      window_rights = read.window_rights;
      takes = read.takes;
      clamped = record { source = j.source; dest = j.dest; order = j.order };
      clamps = ap (λ (x : Job). record { source = x.source; dest = x.dest; order = x.order }) of_job;
      source = d;
      there = contains_from_in k.delegations.list d next.there;
      held = left.giver ∙ ap (λ (x : Job). x.giver) of_job;
      receiver = ap (λ (x : Job). x.receiver) of_job;
      parent = refl;
      kind = ap (λ (x : Job). x.kind) of_job;
      same_kind = left.kind ∙ ap (λ (x : Job). x.kind) of_job;
      in_window = λ place has.
          let from = has.from_base in
          let before = has.before_end in
          record { from_base = omega (arith, from, starts); before_end = omega (arith, before, in_second) };
      in_source = λ place has.
          let from = has.from_base in
          let before = has.before_end in
          record { from_base = omega (arith, from, starts); before_end = omega (arith, from, before, in_first) };
      whole = λ place of_range of_source.
          let from_range = of_range.from_base in
          let from_source = of_source.from_base in
          let both : max d.base j.source ≤ place = omega (arith, from_range, from_source) in
          let before = common.all place both of_source.before_end of_range.before_end in
          record { from_base = omega (arith, from_range, from_source); before_end = omega (arith, from_range, before) };
      leads = omega arith;
      common = ap (λ (x : Job). bit_and d.rights.0 x.rights.0) of_job;
      rights = λ right. shared_rights d.rights j.rights right ∙ ap (λ (x : Job). allows d.rights right && allows x.rights right) of_job;
    }

giving_shared : (k : KernelState) (ec : ℕ) (d x : Derivation) → IsGiving k ec d x → IsForest k.delegations → IsShared k ec x
giving_shared k ec d x g forest =
    let child = judged_facts (is_busy k) k.delegations.list (child_of (job_at_cursor k ec g.job) k.delegations.next d) x g.good in
    subst (IsShared k ec) (sym child.same) (child_shared k ec g.item g.job d g.of_item.present g.reads forest g.next)

-- of each deed
abbrev Shares : KernelState → ℕ → Deed → Type 0
Shares k ec (Gives x cursor) = IsForest k.delegations → IsShared k ec x
Shares k ec other = Unit {0}

whole_shares : (k : KernelState) (ec : ℕ) (d : Deed) → is_part d ≡ false → Shares k ec d
whole_shares k ec (Gives x cursor) whole = absurd (cc)
whole_shares k ec other whole = tt

deed_shares : (k : KernelState) (ec : ℕ) → Shares k ec (deed k ec)
deed_shares k ec =
    deed_holds (Shares k ec) k ec tt
    (record {
      steps = tt;
      raises = λ reason q0 q1. tt;
      dies = λ reason q0. tt;
      refuses = λ number status. tt;
      waits = λ pt reason q0 q1 is. tt;
      sends = λ pt reason q0 q1 is. tt;
      aborts = λ handler is. tt;
      removes = λ range own leaf is next. tt;
      returns = λ range own is next. tt;
      rows = λ asks c read. done_weaker IsWhole (Shares k ec) (row k ec (pd_of k ec) c) (whole_shares k ec) (row_whole k ec (pd_of k ec) c);
    })
    (record { gives = giving_shared k ec; skips = λ d reason place is. tt; finishes = λ v end answer present is. tt })

pub children_shared : (s : Scenario) (turns : List ℕ) (ec cursor : ℕ) (child : Derivation) → deed (run (boot s) turns) ec ≡ Gives child cursor → IsShared (run (boot s) turns) ec child
children_shared s turns ec cursor child is =
    let k = run (boot s) turns in subst (Shares k ec) is (deed_shares k ec) (boot_run_forest s turns)
