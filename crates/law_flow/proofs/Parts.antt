-- What one of a side gives is the same in two states in which the side's part is, but for numbers: where it gives within the side, and no revoke is in the way.
use Rattle.std.proofs.Common.{◌≡◌, ℕ, ◌+◌, ◌-◌, ◌==◌, List, refl, sym, ap, ap₂, ◌∙◌, subst}
use Rattle.std.specs.List.{find}
use Rattle.std.proofs.lemmas.Option.{same_Some}
use Rattle.std.specs.Prelude.{Bool, true, false, max, min, option_map, option_and_then, Option, Some, None, Result, Ok, Err, if◌then◌else◌}
use Rattle.nova_range.specs.RangeWords.{meaning_of, word_of}
use Rattle.nova_range.specs.Ranges.{end_of}
use Rattle.nova_range.specs.declared.range.Range.{Range}
use Rattle.nova_range.specs.declared.rights.Rights.{Rights}
use Rattle.rv_model.specs.Registers.{reg}
use Rattle.nova_utcb.specs.Messages.{counted_items, delegation_window, item_at, translation_window}
use Rattle.nova_model.specs.Deeds.{deed, deed_in}
use Rattle.nova_model.specs.Delegations.{covers, derived, is_held_in, range_of}
use Rattle.nova_model.specs.Deliveries.{answered_by, delegated, delivered, delivers, delivery, delivery_between, flag, given_to, part_deed, parted, taken_from, told_by, whole_of}
use Rattle.nova_model.specs.Edges.{caller_in, is_giving}
use Rattle.nova_model.specs.Forest.{HasParentIn, IsFitting, IsForest, IsWithin}
use Rattle.nova_model.specs.Running.{is_busy}
use Rattle.nova_model.specs.State.{KernelState, context, context_at, context_in, is_thread, message, pd_of, transfer}
use Rattle.nova_model.specs.Transfers.{child_of, common_rights, next_part, next_source, part_of, read_as}
use Rattle.nova_model.specs.Translations.{nearest, seen_through, smaller, translated, translation}
use Rattle.nova_model.specs.Translations as tells
use Rattle.nova_model.specs.declared.context.EcState.{EcState}
use Rattle.nova_model.specs.declared.context.Mark.{Mark}
use Rattle.nova_model.specs.declared.context.State.{State}
use Rattle.nova_model.specs.declared.context.State.TheVariants.{Granting, Replying}
use Rattle.nova_model.specs.declared.deed.Deed.{Deed}
use Rattle.nova_model.specs.declared.deed.Deed.TheVariants as deeds
use Rattle.nova_model.specs.declared.delegation.Derivation.{Derivation}
use Rattle.nova_model.specs.declared.transfer.Delivery.{Delivery}
use Rattle.nova_model.specs.declared.transfer.Job.{Job}
use Rattle.nova_model.specs.declared.transfer.Reason.{Reason}
use Rattle.nova_model.specs.declared.transfer.Reason.TheVariants as reason
use Rattle.nova_model.specs.declared.transfer.Sequel.{Sequel}
use Rattle.nova_model.specs.declared.transfer.Sequel.TheVariants as sequel
use Rattle.nova_model.specs.declared.transfer.Skip.{Skip}
use Rattle.nova_model.specs.declared.transfer.Transfer.{Transfer}
use Rattle.law_forest.specs.Made.{IsGivenChild}
use Rattle.law_forest.proofs.Allowed.{IsAllowed, deed_allowed}
use Rattle.law_forest.proofs.Jobs.{job_between_them}
use Rattle.law_forest.proofs.Lines.{member_found}
use Rattle.law_forest.proofs.Members.{IsIn, in_from_contains}
use Rattle.law_forest.proofs.Pairs.{same_id}
use Rattle.law_forest.proofs.Transfers.{next_facts, left_facts}
use Rattle.law_forest.proofs.Walk.{giving_holds, job_in}
use Rattle.law_turns.specs.Left.{IsFirstLeft, IsGivenOf}
use Rattle.law_turns.proofs.Leaving.{part_given}
use Rattle.law_integrity.specs.Rights.{GivesFirst, GivesTo, RepliesWith, TakesOfCaller}
use Rattle.law_integrity.proofs.Parts.{given_rightful}
use Rattle.law_flow.specs.Flow.{Held, IsGivingWithin, IsUnrevoked, held_by, origin_of, unnumbered}
use Rattle.law_flow.proofs.Busy.{unbusy}
use Rattle.law_flow.proofs.Holds.{AreNext, ComeAlike, HoldAlike, IsTwin, first_same, held_so, next_same}
use Rattle.law_flow.proofs.Seeing.{Both, context_same, message_same, pd_same, thread_same, transfer_same}

-- THE PRESENT ITEM

-- whom it serves is of the side's part
pub served_mine : (k : KernelState) (P : ℕ → Type 0) (ec : ℕ) → ((caller : ℕ) (mark : Mark) → caller_in k.contexts ec ≡ Some (caller, mark) → P caller) →
    (caller : ℕ) (mark : Mark) → (context k ec).caller ≡ Some (caller, mark) → P caller
served_mine k P ec mine caller mark is = mine caller mark (by_entry (context_at k ec) is)
  where
    by_entry : (o : Option EcState) → (context_in o).caller ≡ Some (caller, mark) → option_and_then (λ (x : EcState). x.caller) o ≡ Some (caller, mark)
    by_entry None h = absurd (cc)
    by_entry (Some x) h = h

-- an item by what is read of it
abbrev item_by : List ℕ → List ℕ → Bool → ℕ → ℕ → ℕ → Option ℕ → Sequel → Delivery
item_by sent held thread giver receiver item told last = record {
  range_word = (item_at sent item).0;
  second_word = (item_at sent item).1;
  giver = giver;
  receiver = receiver;
  translations = if thread then translation_window held else 0;
  delegations = if thread then delegation_window held else whole_of (read_as (meaning_of (item_at sent item).0));
  told = told;
  items = counted_items sent;
  last = last;
}

between_same : (k l : KernelState) (S P : ℕ → Type 0) → Both k l S P → (from to item : ℕ) (told : Option ℕ) (last : Sequel) → P from → S (pd_of k from) → P to → S (pd_of k to) →
    delivery_between l from to item told last ≡ delivery_between k from to item told last
between_same k l S P b from to item told last pf sf pt st =
    ap₂ (λ (m n : List ℕ). item_by m n (is_thread l to) (pd_of l from) (pd_of l to) item told last) (message_same k l S P b from pf sf) (message_same k l S P b to pt st)
    ∙ ap₂ (λ (giver receiver : ℕ). item_by (message k from) (message k to) (is_thread l to) giver receiver item told last) (pd_same k l S P b from pf) (pd_same k l S P b to pt)
    ∙ ap (λ (t : Bool). item_by (message k from) (message k to) t (pd_of k from) (pd_of k to) item told last) (thread_same k l S P b to pt)

-- and who gives it and is given to, of the side's domains
abbrev pub AreItems : (ℕ → Type 0) → Option Delivery → Type 0
AreItems S None = Unit {0}
AreItems S (Some v) = S v.giver × S v.receiver

pub record SameItem (k l : KernelState) (S : ℕ → Type 0) (ec : ℕ) (t : State) : Type 0 where
  pub same : delivery l ec t ≡ delivery k ec t
  pub of : AreItems S (delivery k ec t)

-- a first range by what is read of its giver
abbrev first_by : EcState → ℕ → ℕ → Delivery
first_by x giver new = record {
  range_word = reg x.regs 12;
  second_word = 1;
  giver = giver;
  receiver = new;
  translations = 0;
  delegations = reg x.regs 12;
  told = None;
  items = 1;
  last = sequel.Opened;
}

pub item_same : (k l : KernelState) (S P : ℕ → Type 0) → Both k l S P → (ec : ℕ) → P ec → S (pd_of k ec) → IsGivingWithin k S ec → (t : State) → (context k ec).state ≡ t → is_giving t ≡ true → SameItem k l S ec t
item_same k l S P b ec p s within (Granting None) is gives = record {
  same =
      ap₂ (λ (x : Transfer) (y : EcState). taken_from l ec x.item y.caller) (transfer_same k l S P b ec p s) (context_same k l S P b ec p s)
      ∙ by_caller (context k ec).caller (served_mine k P ec (λ c m is. b.side.callers ec c m p is)) its_caller;
  of = of_caller (context k ec).caller its_caller;
}
  where
    its_caller : (c : ℕ) (m : Mark) → (context k ec).caller ≡ Some (c, m) → S (pd_of k c)
    its_caller c m serves = (within.between (pd_of k c) (pd_of k ec) (TakesOfCaller c m is serves refl refl)).0

    by_caller : (o : Option (ℕ × Mark)) → ((c : ℕ) (m : Mark) → o ≡ Some (c, m) → P c) → ((c : ℕ) (m : Mark) → o ≡ Some (c, m) → S (pd_of k c)) →
        taken_from l ec (transfer k ec).item o ≡ taken_from k ec (transfer k ec).item o
    by_caller None mine its = refl
    by_caller (Some (c, m)) mine its = ap (λ (v : Delivery). Some v) (between_same k l S P b c ec (transfer k ec).item (Some ec) sequel.Taken (mine c m refl) (its c m refl) p s)

    of_caller : (o : Option (ℕ × Mark)) → ((c : ℕ) (m : Mark) → o ≡ Some (c, m) → S (pd_of k c)) → AreItems S (taken_from k ec (transfer k ec).item o)
    of_caller None its = tt
    of_caller (Some (c, m)) its = (its c m refl, s)
item_same k l S P b ec p s within Replying is gives = record {
  same =
      ap₂ (λ (x : Transfer) (y : EcState). given_to l ec x.item y.caller) (transfer_same k l S P b ec p s) (context_same k l S P b ec p s)
      ∙ by_caller (context k ec).caller (served_mine k P ec (λ c m is. b.side.callers ec c m p is)) its_caller;
  of = of_caller (context k ec).caller its_caller;
}
  where
    its_caller : (c : ℕ) (m : Mark) → (context k ec).caller ≡ Some (c, m) → S (pd_of k c)
    its_caller c m serves = (within.between (pd_of k ec) (pd_of k c) (RepliesWith c m is serves refl refl)).1

    by_caller : (o : Option (ℕ × Mark)) → ((c : ℕ) (m : Mark) → o ≡ Some (c, m) → P c) → ((c : ℕ) (m : Mark) → o ≡ Some (c, m) → S (pd_of k c)) →
        given_to l ec (transfer k ec).item o ≡ given_to k ec (transfer k ec).item o
    by_caller None mine its = refl
    by_caller (Some (c, m)) mine its =
        ap (λ (v : Delivery). Some v) (between_same k l S P b ec c (transfer k ec).item (told_by c m) (sequel.Replied c m) p s (mine c m refl) (its c m refl))

    of_caller : (o : Option (ℕ × Mark)) → ((c : ℕ) (m : Mark) → o ≡ Some (c, m) → S (pd_of k c)) → AreItems S (given_to k ec (transfer k ec).item o)
    of_caller None its = tt
    of_caller (Some (c, m)) its = (s, its c m refl)
item_same k l S P b ec p s within (Granting (Some new)) is gives = record {
  same = ap₂ (λ (x : EcState) (giver : ℕ). Some (first_by x giver new)) (context_same k l S P b ec p s) (pd_same k l S P b ec p);
  of = (s, (within.between (pd_of k ec) new (GivesFirst is refl)).1);
}
item_same k l S P b ec p s within other is gives = absurd (cc)

-- THE NEXT PART

-- a child, but for numbers, by what is held of the range that it is made of
abbrev child_by : Job → Held → Derivation
child_by j h =
    derived 0 None j.receiver (record { kind = j.kind; base = j.dest + (max h.range.base j.source - j.source); order = min h.range.order j.order }) (common_rights h.rights j.rights)
    (h.target + (max h.range.base j.source - h.range.base))

abbrev verdict : Bool → Bool → Bool → Derivation → Result Derivation Reason
verdict none taken busy x = if none then Err reason.Rights else if taken then Err reason.Taken else if busy then Err reason.Busy else Ok x

parted_same : (j : Job) (d e : Derivation) → IsTwin d e → (m n : ℕ) (none taken : Bool) →
    unnumbered (parted j e (verdict none taken false (child_of j n e))) ≡ unnumbered (parted j d (verdict none taken false (child_of j m d)))
parted_same j d e t m n true taken = ap (λ (h : Held). deeds.Skips reason.Rights (max h.range.base j.source) (end_of h.range)) t.held
parted_same j d e t m n false true = ap (λ (h : Held). deeds.Skips reason.Taken (max h.range.base j.source) (end_of h.range)) t.held
parted_same j d e t m n false false = ap (λ (h : Held). deeds.Gives (child_by j h) (end_of h.range)) t.held

-- what is asked of a state in which a side gives
pub record IsReadyFor (k : KernelState) (S : ℕ → Type 0) : Type 0 where
  pub forest : IsForest k.delegations
  pub unrevoked : IsUnrevoked k S

child_unbusy : (k : KernelState) (S : ℕ → Type 0) → IsReadyFor k S → (j : Job) (d : Derivation) → next_source k.delegations.list j ≡ Some d → S j.giver → S j.receiver →
    is_busy k (child_of j k.delegations.next d) ≡ false
child_unbusy k S r j d is giver receiver =
    let next = next_facts k.delegations.list j d is in
    let from = left_facts j d next.left in
    unbusy k S r.forest r.unrevoked (child_of j k.delegations.next d) d refl (member_found k.delegations.list d r.forest.rising next.there) (subst S (sym from.giver) giver) receiver

part_same : (k l : KernelState) (S : ℕ → Type 0) → IsReadyFor k S → IsReadyFor l S → HoldAlike S k.delegations.list l.delegations.list → (v : Delivery) (t : Transfer) (j : Job) → S j.giver → S j.receiver →
    unnumbered (part_deed v t j (next_part (is_busy l) l.delegations j)) ≡ unnumbered (part_deed v t j (next_part (is_busy k) k.delegations j))
part_same k l S first second alike v t j giver receiver =
    by_sources (next_source k.delegations.list j) refl (next_source l.delegations.list j) refl
    (next_same S k.delegations.list l.delegations.list first.forest.apart second.forest.apart alike j giver)
  where
    by_sources : (o : Option Derivation) → next_source k.delegations.list j ≡ o → (p : Option Derivation) → next_source l.delegations.list j ≡ p → AreNext o p →
        unnumbered (part_deed v t j (option_map (part_of (is_busy l) l.delegations j) p)) ≡ unnumbered (part_deed v t j (option_map (part_of (is_busy k) k.delegations j) o))
    by_sources None is None its next = refl
    by_sources None is (Some e) its next = absurd next
    by_sources (Some d) is None its next = absurd next
    by_sources (Some d) is (Some e) its next =
        let x : Derivation = child_of j k.delegations.next d in
        let y : Derivation = child_of j l.delegations.next e in
        let range : range_of y ≡ range_of x = ap (λ (h : Held). range_of (child_by j h)) next.held in
        let rights : (y.rights.0 == 0) ≡ (x.rights.0 == 0) = ap (λ (h : Held). (common_rights h.rights j.rights).0 == 0) next.held in
        let held : is_held_in l.delegations.list j.receiver (range_of y) ≡ is_held_in k.delegations.list j.receiver (range_of x) =
        ap (is_held_in l.delegations.list j.receiver) range ∙ held_so S k.delegations.list l.delegations.list first.forest.apart second.forest.apart alike j.receiver (range_of x) receiver in
        ap (λ (b : Bool). unnumbered (parted j e (verdict (y.rights.0 == 0) (is_held_in l.delegations.list j.receiver (range_of y)) b y))) (child_unbusy l S second j e its giver receiver)
        ∙ ap₂ (λ (a b : Bool). unnumbered (parted j e (verdict a b false y))) rights held
        ∙ parted_same j d e next k.delegations.next l.delegations.next (x.rights.0 == 0) (is_held_in k.delegations.list j.receiver (range_of x))
        ∙ sym (ap (λ (b : Bool). unnumbered (parted j d (verdict (x.rights.0 == 0) (is_held_in k.delegations.list j.receiver (range_of x)) b x))) (child_unbusy k S first j d is giver receiver))

-- TRANSLATIONS

-- an answer by what is held of the range that is sent, and of the nearest of its line
abbrev answer_by : Option (Range × Rights) → Range → Rights → Held → Held → Option (Range × Rights)
answer_by window range rights d a = tells.within window (
  record {
    kind = (smaller d.range range).kind;
    base = a.range.base + d.target + (smaller d.range range).base - d.range.base - a.target;
    order = (smaller d.range range).order;
  },
  common_rights d.rights rights,
)

translated_same : (S : ℕ → Type 0) (xs ys : List Derivation) → HoldAlike S xs ys → ComeAlike S xs ys → (word window giver receiver : ℕ) → S giver → S receiver →
    translated ys word window giver receiver ≡ translated xs word window giver receiver
unfolding translated
translated_same S xs ys holds come word window giver receiver s t = ap word_of (by_word (read_as (meaning_of word)))
  where
    by_near : (range : Range) (rights : Rights) (d e : Derivation) → ◌≡◌ {A = Held} (held_by e) (held_by d) → (o p : Option Derivation) → ◌≡◌ {A = Option Held} (option_map held_by p) (option_map held_by o) →
        option_and_then (λ a. tells.within (read_as (meaning_of window)) (seen_through a e (smaller (range_of e) range), common_rights e.rights rights)) p ≡
        option_and_then (λ a. tells.within (read_as (meaning_of window)) (seen_through a d (smaller (range_of d) range), common_rights d.rights rights)) o
    by_near range rights d e held None None same = refl
    by_near range rights d e held None (Some b) same = absurd (cc)
    by_near range rights d e held (Some a) None same = absurd (cc)
    by_near range rights d e held (Some a) (Some b) same = ap₂ (answer_by (read_as (meaning_of window)) range rights) held (same_Some (held_by b) (held_by a) same)

    by_found : (range : Range) (rights : Rights) (o p : Option Derivation) → ◌≡◌ {A = Option Held} (option_map held_by p) (option_map held_by o) → origin_of ys receiver p ≡ origin_of xs receiver o →
        option_and_then (λ d. option_and_then (λ a. tells.within (read_as (meaning_of window)) (seen_through a d (smaller (range_of d) range), common_rights d.rights rights)) (nearest ys d receiver)) p ≡
        option_and_then (λ d. option_and_then (λ a. tells.within (read_as (meaning_of window)) (seen_through a d (smaller (range_of d) range), common_rights d.rights rights)) (nearest xs d receiver)) o
    by_found range rights None None held from = refl
    by_found range rights None (Some e) held from = absurd (cc)
    by_found range rights (Some d) None held from = absurd (cc)
    by_found range rights (Some d) (Some e) held from = by_near range rights d e (same_Some (held_by e) (held_by d) held) (nearest xs d receiver) (nearest ys e receiver) from

    by_word : (o : Option (Range × Rights)) → translation ys giver receiver o (read_as (meaning_of window)) ≡ translation xs giver receiver o (read_as (meaning_of window))
    by_word None = refl
    by_word (Some (range, rights)) =
        by_found range rights (find (covers range.kind giver range.base) xs) (find (covers range.kind giver range.base) ys) (holds range.kind giver range.base s) (come range.kind giver range.base receiver s t)

delivered_same : (k l : KernelState) (S : ℕ → Type 0) → IsReadyFor k S → IsReadyFor l S → HoldAlike S k.delegations.list l.delegations.list → ComeAlike S k.delegations.list l.delegations.list →
    (v : Delivery) (t : Transfer) → S v.giver → S v.receiver → unnumbered (delivered l v t) ≡ unnumbered (delivered k v t)
delivered_same k l S first second alike come v t giver receiver = by_flag (flag v == 1)
  where
    by_job : (r : Result Job Skip) → job_in v ≡ r → unnumbered (delegated l v t r) ≡ unnumbered (delegated k v t r)
    by_job (Err skip) reads = refl
    by_job (Ok j) reads =
        let its = job_between_them v.range_word v.second_word v.delegations v.giver v.receiver j reads in
        part_same k l S first second alike v t (record j { cursor = t.cursor }) (subst S (sym its.giver) giver) (subst S (sym its.receiver) receiver)

    by_flag : (b : Bool) →
        unnumbered (if b then delegated l v t (job_in v) else answered_by v t (translated l.delegations.list v.range_word v.translations v.giver v.receiver)) ≡
        unnumbered (if b then delegated k v t (job_in v) else answered_by v t (translated k.delegations.list v.range_word v.translations v.giver v.receiver))
    by_flag true = by_job (job_in v) refl
    by_flag false =
        ap (λ (n : ℕ). unnumbered (answered_by v t n)) (translated_same S k.delegations.list l.delegations.list alike come v.range_word v.translations v.giver v.receiver giver receiver)

-- THE DEED

pub given_same : (k l : KernelState) (S P : ℕ → Type 0) → Both k l S P → IsForest k.delegations → IsForest l.delegations → (ec : ℕ) → P ec → S (pd_of k ec) → IsGivingWithin k S ec → IsUnrevoked l S →
    is_giving (context k ec).state ≡ true → unnumbered (deed l ec) ≡ unnumbered (deed k ec)
unfolding deed
given_same k l S P b first second ec p s within free gives =
    ap (λ (x : EcState). unnumbered (deed_in l ec x.state)) (context_same k l S P b ec p s) ∙ by_state (context k ec).state refl gives
  where
    by_item : (o : Option Delivery) → AreItems S o → unnumbered (delivers l (transfer k ec) o) ≡ unnumbered (delivers k (transfer k ec) o)
    by_item None of = refl
    by_item (Some v) of =
        delivered_same k l S (record { forest = first; unrevoked = within.unrevoked }) (record { forest = second; unrevoked = free }) b.alike.spaces b.alike.origins v (transfer k ec) of.0 of.1

    by_giving : (t : State) → (context k ec).state ≡ t → is_giving t ≡ true →
        unnumbered (delivers l (transfer l ec) (delivery l ec t)) ≡ unnumbered (delivers k (transfer k ec) (delivery k ec t))
    by_giving t is some =
        let its = item_same k l S P b ec p s within t is some in
        ap₂ (λ (x : Transfer) (o : Option Delivery). unnumbered (delivers l x o)) (transfer_same k l S P b ec p s) its.same ∙ by_item (delivery k ec t) its.of

    by_state : (t : State) → (context k ec).state ≡ t → is_giving t ≡ true → unnumbered (deed_in l ec t) ≡ unnumbered (deed_in k ec t)
    by_state (Granting new) is some = by_giving (Granting new) is some
    by_state Replying is some = by_giving Replying is some
    by_state other is some = absurd (cc)

-- such a deed gives a part, skips one or ends an item
abbrev pub GivesItems : Deed → Type 0
GivesItems deeds.Rests = Unit {0}
GivesItems (deeds.Gives child cursor) = Unit {0}
GivesItems (deeds.Skips reason place cursor) = Unit {0}
GivesItems (deeds.Finishes item end words after) = Unit {0}
GivesItems other = ⊥

pub gives_items : (k : KernelState) (ec : ℕ) → is_giving (context k ec).state ≡ true → GivesItems (deed k ec)
gives_items k ec gives = giving_holds GivesItems k ec gives tt (record { gives = λ d x g. tt; skips = λ d why place s. tt; finishes = λ v end answer present is. tt })

-- A PART THAT IS GIVEN

-- the child is made of a derivation of the side's, for a domain of the side's, and fits
pub record IsPart (k : KernelState) (S : ℕ → Type 0) (child : Derivation) : Type 0 where
  pub source : Derivation
  pub there : IsIn k.delegations.list source
  pub of : S source.pd
  pub to : S child.pd
  pub parent : child.parent ≡ Some source.id
  pub within : IsWithin child source
  pub fits : IsFitting k.delegations child

within_source : (k : KernelState) (child source : Derivation) → IsForest k.delegations → IsIn k.delegations.list source → child.parent ≡ Some source.id → IsFitting k.delegations child → IsWithin child source
within_source k child source forest there named fits = by_parent (subst (HasParentIn k.delegations.list child) named fits.parent)
  where
    by_parent : HasParentIn k.delegations.list child (Some source.id) → IsWithin child source
    by_parent h = subst (IsWithin child) (same_id k.delegations.list h.0 source forest.rising (in_from_contains k.delegations.list h.0 h.1) there h.2) h.3

pub part_is : (k : KernelState) (S : ℕ → Type 0) (ec : ℕ) → IsForest k.delegations → ((giver receiver : ℕ) → GivesTo k ec giver receiver → S giver × S receiver) →
    (child : Derivation) (cursor : ℕ) → deed k ec ≡ deeds.Gives child cursor → IsPart k S child
part_is k S ec forest between child cursor is = by_given (subst (IsAllowed k ec) is (deed_allowed k ec))
  where
    by_given : IsGivenChild k ec child → IsPart k S child
    by_given g = record {
      source = g.source;
      there = in_from_contains k.delegations.list g.source g.there;
      of = sides.0;
      to = sides.1;
      parent = g.parent;
      within = within_source k child g.source forest (in_from_contains k.delegations.list g.source g.there) g.parent (g.fits forest);
      fits = g.fits forest;
    }
      where
        sides : S g.source.pd × S child.pd
        sides = between g.source.pd child.pd (given_rightful k ec child g)

-- the sources of both parts are the same but for numbers
pub sources_same : (k l : KernelState) (S P : ℕ → Type 0) → Both k l S P → IsForest k.delegations → IsForest l.delegations → (ec : ℕ) → P ec → S (pd_of k ec) → IsGivingWithin k S ec →
    is_giving (context k ec).state ≡ true → (child twin : Derivation) (cursor at : ℕ) → deed k ec ≡ deeds.Gives child cursor → deed l ec ≡ deeds.Gives twin at →
    (part : IsPart k S child) (also : IsPart l S twin) → IsTwin part.source also.source
sources_same k l S P b first second ec p s inside gives child twin cursor at is its part also = by_given (part_given k ec cursor child is) (part_given l ec at twin its)
  where
    one_source : (m : KernelState) (x : Derivation) → IsForest m.delegations → (q : IsPart m S x) (g : IsGivenOf m ec x) → g.source ≡ q.source
    one_source m x forest q g =
        same_id m.delegations.list g.source q.source forest.rising (in_from_contains m.delegations.list g.source g.first.there) q.there (same_Some g.source.id q.source.id (sym g.parent ∙ q.parent))

    same_ok : (i j : Job) → ◌≡◌ {A = Result Job Skip} (Ok i) (Ok j) → i ≡ j
    same_ok i j h = cc

    by_given : IsGivenOf k ec child → IsGivenOf l ec twin → IsTwin part.source also.source
    by_given g h =
        let item : h.is_with.item ≡ g.is_with.item =
        same_Some h.is_with.item g.is_with.item
        (sym h.is_with.present ∙ ap (λ (x : EcState). delivery l ec x.state) (context_same k l S P b ec p s) ∙ (item_same k l S P b ec p s inside (context k ec).state refl gives).same ∙ g.is_with.present) in
        let jobs : h.is_with.job ≡ g.is_with.job = same_ok h.is_with.job g.is_with.job (sym h.is_with.reads ∙ ap job_in item ∙ g.is_with.reads) in
        let job : h.job ≡ g.job =
        h.is_with.on ∙ ap₂ (λ (j : Job) (t : Transfer). record j { cursor = t.cursor }) jobs (transfer_same k l S P b ec p s) ∙ sym g.is_with.on in
        let mine = one_source k child first part g in
        let theirs = one_source l twin second also h in
        let giver : S g.job.giver = subst S (ap (λ (d : Derivation). d.pd) (sym mine) ∙ g.first.left.giver) part.of in
        let found : IsTwin g.source h.source =
        first_same S k.delegations.list l.delegations.list first.apart second.apart b.alike.spaces g.job giver g.source h.source g.first
        (subst (λ (j : Job). IsFirstLeft l.delegations.list j h.source) job h.first) in
        subst (λ (d : Derivation). IsTwin d also.source) mine (subst (IsTwin g.source) theirs found)
