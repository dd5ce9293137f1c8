-- A part of an item takes some of the places that are left.
use Rattle.std.proofs.Common.{◌≡◌, ℕ, ◌<◌, ◌≤◌, ◌+◌, ◌-◌, ◌^◌, List, refl, sym, ap, ap₂, ◌∙◌, subst, arith}
use Rattle.std.specs.Prelude.{Bool, true, false, ◌%◌, ◌==◌, max, if◌then◌else◌, Option, Some, None, Ok, Err}
use Rattle.std.proofs.lemmas.Nat.{pow_pos}
use Rattle.rv_model.specs.Registers.{reg}
use Rattle.nova_range.specs.Clamps.{clamp_of}
use Rattle.nova_range.specs.RangeWords.{meaning_of}
use Rattle.nova_range.specs.Ranges.{IsRange, end_of}
use Rattle.nova_range.specs.declared.range.Range.{Range}
use Rattle.nova_range.specs.declared.rights.Rights.{Rights}
use Rattle.nova_range.proofs.Parts.{is_clamped}
use Rattle.nova_utcb.specs.Messages.{counted_items, item_at}
use Rattle.nova_model.specs.Deeds.{deed}
use Rattle.nova_model.specs.Delegations.{is_same_kind, range_of}
use Rattle.nova_model.specs.Deliveries.{delivery, given_to, taken_from}
use Rattle.nova_model.specs.Hypercalls.{row}
use Rattle.nova_model.specs.State.{KernelState, context, message, pd_of, transfer}
use Rattle.nova_model.specs.Transfers.{hotspot_in, job_at, job_between, job_of, next_source, read_as}
use Rattle.nova_model.specs.declared.context.Mark.{Mark}
use Rattle.nova_model.specs.declared.context.State.{State}
use Rattle.nova_model.specs.declared.context.State.TheVariants.{Granting, Replying}
use Rattle.nova_model.specs.declared.deed.Deed.{Deed}
use Rattle.nova_model.specs.declared.deed.Deed.TheVariants.{Gives, Skips}
use Rattle.nova_model.specs.declared.delegation.Derivation.{Derivation}
use Rattle.nova_model.specs.declared.transfer.Delivery.{Delivery}
use Rattle.nova_model.specs.declared.transfer.Job.{Job}
use Rattle.nova_model.specs.declared.transfer.Skip.TheVariants.{Window}
use Rattle.law_forest.proofs.Transfers.{left_facts, next_facts}
use Rattle.law_forest.proofs.Walk.{IsDelegating, deed_holds, job_in}
use Rattle.law_turns.specs.Giving.{source, source_in}
use Rattle.law_turns.proofs.Rows.{IsWhole, done_weaker, row_whole}
use Rattle.law_forest.proofs.Jobs.{read_range}
use Rattle.law_forest.specs.Items.{job_at_cursor}
use Rattle.law_response.specs.Items.{item_turns, later_turns, places_left, turns_from, turns_of_items}

-- THE WORDS OF THE PRESENT ITEM

abbrev pub words_of : KernelState → ℕ → Option ℕ → ℕ → ℕ × ℕ
words_of k ec None item = (reg (context k ec).regs 12, 1)
words_of k ec (Some thread) item = item_at (message k thread) item

abbrev pub later_of : KernelState → Option ℕ → ℕ → ℕ
later_of k None item = 0
later_of k (Some thread) item = later_turns (message k thread) (item + 1) (counted_items (message k thread) - (item + 1))

pub from_is : (k : KernelState) (ec : ℕ) (o : Option ℕ) (item cursor : ℕ) → turns_from k ec o item cursor ≡ item_turns (words_of k ec o item) cursor + later_of k o item
from_is k ec None item cursor = omega arith
from_is k ec (Some thread) item cursor = refl

words_shown : (k : KernelState) (ec : ℕ) (v : Delivery) → delivery k ec (context k ec).state ≡ Some v →
    words_of k ec (source k ec) (transfer k ec).item ≡ (v.range_word, v.second_word)
words_shown k ec v present = by_state (context k ec).state (context k ec).caller refl present
  where
    by_state : (s : State) (c : Option (ℕ × Mark)) → (context k ec).caller ≡ c → delivery k ec s ≡ Some v → words_of k ec (source_in ec s c) (transfer k ec).item ≡ (v.range_word, v.second_word)
    by_state (Granting (Some domain)) c has is = ap₂ (λ (a b : ℕ). (a, b)) (let same : reg (context k ec).regs 12 ≡ v.range_word = cc in same) (let same : 1 ≡ v.second_word = cc in same)
    by_state (Granting None) None has is = absurd (let none = sym (ap (taken_from k ec (transfer k ec).item) has) ∙ is in cc)
    by_state (Granting None) (Some (caller, mark)) has is =
        let at = sym (ap (taken_from k ec (transfer k ec).item) has) ∙ is in
        ap₂ (λ (a b : ℕ). (a, b)) (let same : (item_at (message k caller) (transfer k ec).item).0 ≡ v.range_word = cc in same)
        (let same : (item_at (message k caller) (transfer k ec).item).1 ≡ v.second_word = cc in same)
    by_state Replying None has is = absurd (let none = sym (ap (given_to k ec (transfer k ec).item) has) ∙ is in cc)
    by_state Replying (Some (caller, mark)) has is =
        let at = sym (ap (given_to k ec (transfer k ec).item) has) ∙ is in
        ap₂ (λ (a b : ℕ). (a, b)) (let same : (item_at (message k ec) (transfer k ec).item).0 ≡ v.range_word = cc in same)
        (let same : (item_at (message k ec) (transfer k ec).item).1 ≡ v.second_word = cc in same)
    by_state other c has is = absurd (cc)

-- A PART TAKES SOME OF THE PLACES THAT ARE LEFT

-- what is given of a range that was read
record IsOfRange (word : ℕ) (j : Job) : Type 0 where
  range : Range
  rights : Rights
  reads : read_as (meaning_of word) ≡ Some (range, rights)
  begins : range.base ≤ j.source
  ends : j.source + 2 ^ j.order ≤ end_of range

clamped_of : (word : ℕ) (s w : Range × Rights) (hotspot giver receiver : ℕ) → read_as (meaning_of word) ≡ Some s → IsRange s.0 → IsRange w.0 →
    IsOfRange word (job_at s.0 s.1 (clamp_of s.0 w.0 hotspot) giver receiver)
clamped_of word s w hotspot giver receiver reads of_sent of_window =
    let c = clamp_of s.0 w.0 hotspot in
    let part = (is_clamped s.0 w.0 hotspot of_sent of_window).source in
    let some = pow_pos c.order in
    let first = part.within c.source (record { from_base = omega arith; before_end = omega (arith, some) }) in
    let last = part.within (c.source + 2 ^ c.order - 1) (record { from_base = omega (arith, some); before_end = omega (arith, some) }) in
    record {
      range = s.0;
      rights = s.1;
      reads = reads;
      begins = first.from_base;
      ends = (let before = last.before_end in omega (arith, before, some));
    }

of_range : (word second window giver receiver : ℕ) (j : Job) → job_of word second window giver receiver ≡ Ok j → IsOfRange word j
of_range word second window giver receiver j is = by_read (read_as (meaning_of word)) (read_as (meaning_of window)) refl refl is
  where
    by_kind : (s w : Range × Rights) → read_as (meaning_of word) ≡ Some s → read_as (meaning_of window) ≡ Some w → (t : Bool) →
        (if t then Ok (job_at s.0 s.1 (clamp_of s.0 w.0 (hotspot_in second)) giver receiver) else Err Window) ≡ Ok j → IsOfRange word j
    by_kind s w reads takes true e =
        let same : job_at s.0 s.1 (clamp_of s.0 w.0 (hotspot_in second)) giver receiver ≡ j = cc in
        subst (IsOfRange word) same (clamped_of word s w (hotspot_in second) giver receiver reads (read_range word s reads) (read_range window w takes))
    by_kind s w reads takes false e = absurd (cc)

    by_read : (sent taken : Option (Range × Rights)) → read_as (meaning_of word) ≡ sent → read_as (meaning_of window) ≡ taken →
        job_between sent taken (hotspot_in second) giver receiver ≡ Ok j → IsOfRange word j
    by_read None taken reads takes e = absurd (cc)
    by_read (Some s) None reads takes e = absurd (cc)
    by_read (Some s) (Some w) reads takes e = by_kind s w reads takes (is_same_kind s.0.kind w.0.kind) e

less_left : (base end cursor next : ℕ) → cursor < next → base < next → cursor < end → base < end → end - max base next + 1 ≤ end - max base cursor
less_left base end cursor next further beyond before inside = omega (arith, further, beyond, before, inside)

fewer_places : (word second cursor : ℕ) (list : List Derivation) (j : Job) (d : Derivation) → (second % 2 == 1) ≡ true → IsOfRange word j → next_source list (record j { cursor = cursor }) ≡ Some d →
    item_turns (word, second) (end_of (range_of d)) + 1 ≤ item_turns (word, second) cursor
fewer_places word second cursor list j d delegates of next =
    let left = left_facts (record j { cursor = cursor }) d (next_facts list (record j { cursor = cursor }) d next).left in
    let from = left.at_cursor in
    let first = left.first in
    let beyond = left.second in
    let some = pow_pos d.order in
    let begins = of.begins in
    let ends = of.ends in
    let most = pow_pos j.order in
    let less : places_left (Some (of.range, of.rights)) (end_of (range_of d)) + 1 ≤ places_left (Some (of.range, of.rights)) cursor =
    less_left of.range.base (end_of of.range) cursor (d.base + 2 ^ d.order) (omega (arith, from, some)) (omega (arith, beyond, begins)) (omega (arith, from, first, ends))
    (omega (arith, begins, beyond, first, ends, some, most)) in
    let now : item_turns (word, second) cursor ≡ places_left (Some (of.range, of.rights)) cursor + 1 =
    ap₂ (λ (t : Bool) (o : Option (Range × Rights)). (if t then places_left o cursor else 0) + 1) delegates of.reads in
    let then_ : item_turns (word, second) (end_of (range_of d)) ≡ places_left (Some (of.range, of.rights)) (end_of (range_of d)) + 1 =
    ap₂ (λ (t : Bool) (o : Option (Range × Rights)). (if t then places_left o (end_of (range_of d)) else 0) + 1) delegates of.reads in
    omega (arith, less, now, then_)

-- so it is of each deed that gives or skips a part
abbrev pub Fewer : KernelState → ℕ → ℕ → Type 0
Fewer k ec cursor = turns_from k ec (source k ec) (transfer k ec).item cursor + 1 ≤ turns_of_items k ec

abbrev pub Falls : KernelState → ℕ → Deed → Type 0
Falls k ec (Gives child cursor) = Fewer k ec cursor
Falls k ec (Skips reason place cursor) = Fewer k ec cursor
Falls k ec other = Unit {0}

whole_falls : (k : KernelState) (ec : ℕ) (d : Deed) → IsWhole d → Falls k ec d
whole_falls k ec (Gives child cursor) whole = absurd (cc)
whole_falls k ec (Skips reason place cursor) whole = absurd (cc)
whole_falls k ec other whole = tt

part_falls : (k : KernelState) (ec : ℕ) (v : Delivery) (j : Job) (d : Derivation) → IsDelegating k ec v → job_in v ≡ Ok j → next_source k.delegations.list (job_at_cursor k ec j) ≡ Some d →
    Fewer k ec (end_of (range_of d))
part_falls k ec v j d of_item reads next =
    let shown = words_shown k ec v of_item.present in
    let o = source k ec in
    let t = transfer k ec in
    let less = fewer_places v.range_word v.second_word t.cursor k.delegations.list j d of_item.delegates (of_range v.range_word v.second_word v.delegations v.giver v.receiver j reads) next in
    let first = from_is k ec o t.item (end_of (range_of d)) in
    let second = from_is k ec o t.item t.cursor in
    let words = ap (λ (p : ℕ × ℕ). item_turns p (end_of (range_of d))) shown in
    let before = ap (λ (p : ℕ × ℕ). item_turns p t.cursor) shown in
    omega (arith, less, first, second, words, before)

pub deed_falls : (k : KernelState) (ec : ℕ) → Falls k ec (deed k ec)
deed_falls k ec =
    deed_holds (Falls k ec) k ec tt
    (record {
      steps = tt;
      raises = λ reason q0 q1. tt;
      dies = λ reason q0. tt;
      refuses = λ number status. tt;
      waits = λ pt reason q0 q1 is. tt;
      sends = λ pt reason q0 q1 is. tt;
      aborts = λ handler is. tt;
      removes = λ range own leaf is next. tt;
      returns = λ range own is next. tt;
      rows = λ asks c read. done_weaker IsWhole (Falls k ec) (row k ec (pd_of k ec) c) (whole_falls k ec) (row_whole k ec (pd_of k ec) c);
    })
    (record {
      gives = λ d x g. part_falls k ec g.item g.job d g.of_item g.reads g.next;
      skips = λ d reason place s. part_falls k ec s.item s.job d s.of_item s.reads s.next;
      finishes = λ v end answer present is. tt;
    })
