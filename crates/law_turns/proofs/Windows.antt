-- What is given, field by field, and the words that tell of an item that ended.
use Rattle.std.proofs.Common.{◌≡◌, ℕ, List, refl, ap, ◌∙◌, subst, arith}
use Rattle.std.proofs.lemmas.Bool.Decides.{nat_tests}
use Rattle.std.specs.Prelude.{◌≢◌, ◌<◌, ◌≤◌, ◌+◌, ◌%◌, ◌==◌, nat_lt, slice_get, Bool, true, false, if◌then◌else◌, Option, Some, None, Result, Ok, Err, IfOk}
use Rattle.nova_model.specs.Edges.{is_giving}
use Rattle.nova_utcb.specs.Messages.{has_counts, item_at, items}
use Rattle.nova_range.proofs.Words.{again, sound}
use Rattle.nova_range.specs.RangeWords.{HasWord, meaning_of, word_of}
use Rattle.nova_range.specs.Rights.{IsRights}
use Rattle.nova_range.specs.declared.range.Range.{Range}
use Rattle.nova_range.specs.declared.rights.Rights.{Rights}
use Rattle.nova_range.specs.declared.word.WordFault.{WordFault}
use Rattle.nova_model.specs.Boot.{Scenario, boot}
use Rattle.nova_model.specs.Deeds.{deed, deed_in}
use Rattle.nova_model.specs.Deliveries.{answered_by, delegated, delivered, delivers, delivery, delivery_between, finished, first_delivery, flag, given_to, part_deed, parted, range_given, sequel_of, taken_from, told_by, whole_of, words_for}
use Rattle.nova_model.specs.Hypercalls.{row}
use Rattle.nova_model.specs.Running.{is_busy}
use Rattle.nova_model.specs.State.{KernelState, context, context_in, ec_in, is_thread, message, pd_of, transfer}
use Rattle.nova_model.specs.Transfers.{Part, dest_of, job_of, next_part, read_as}
use Rattle.nova_model.specs.Translations.{translated}
use Rattle.nova_model.specs.Runs.{run}
use Rattle.nova_model.specs.declared.context.EcState.{EcState}
use Rattle.nova_model.specs.declared.context.Mark.{Mark}
use Rattle.nova_model.specs.declared.context.Mark.TheVariants.{Call, Exit}
use Rattle.nova_model.specs.declared.context.State.{State}
use Rattle.nova_model.specs.declared.context.State.TheVariants.{Granting, Replying}
use Rattle.nova_model.specs.declared.deed.Deed.{Deed}
use Rattle.nova_model.specs.declared.deed.Deed.TheVariants.{Finishes}
use Rattle.nova_model.specs.declared.delegation.Derivation.{Derivation}
use Rattle.nova_model.specs.declared.transfer.Delivery.{Delivery}
use Rattle.nova_model.specs.declared.transfer.ItemEnd.{ItemEnd}
use Rattle.nova_model.specs.declared.transfer.ItemEnd.TheVariants.{Given, Skipped, Translated}
use Rattle.nova_model.specs.declared.transfer.ItemWords.{ItemWords}
use Rattle.nova_model.specs.declared.transfer.Job.{Job}
use Rattle.nova_model.specs.declared.transfer.Reason.{Reason}
use Rattle.nova_model.specs.declared.transfer.Sequel.{Sequel}
use Rattle.nova_model.specs.declared.transfer.Sequel.TheVariants.{Item, Replied, Taken}
use Rattle.nova_model.specs.declared.transfer.Skip.{Skip}
use Rattle.law_forest.proofs.Walk as walk
use Rattle.law_turns.specs.Links.{caller_at}
use Rattle.law_turns.specs.Windows.{EndsItem, GoesBetween, GoesToItself, IsWholeSpace, Tells, TellsOfItem}
use Rattle.law_turns.proofs.TablesFit.{TablesFit, boot_run_fits}
use Rattle.law_turns.proofs.Virtual.{local_thread}
use Rattle.law_turns.proofs.Rows.{IsWhole, done_weaker, is_part, row_whole}

-- WHAT IS GIVEN

some_are_counted : (test : Bool) (n : ℕ) → 0 < (if test then n else 0) → (if test then n else 0) ≡ n
some_are_counted true n some = refl
some_are_counted false n some = absurd (omega arith)

-- the window of a virtual CPU reads as the whole space
read_word : (r : Result (Option (Range × Rights)) WordFault) → IfOk r HasWord → (x : Range × Rights) → read_as r ≡ Some x → HasWord (Some x)
read_word (Ok None) has x is = absurd (cc)
read_word (Ok (Some y)) has x is = let same : y ≡ x = cc in subst (λ (z : Range × Rights). HasWord (Some z)) same has
read_word (Err fault) has x is = absurd (cc)

whole_reads : (range : Range) (rights : Rights) → IsRights rights →
    read_as (meaning_of (whole_of (Some (range, rights)))) ≡ Some (record { kind = range.kind; base = 0; order = 20 }, rights)
whole_reads range rights bits =
    ap read_as (again (Some (record { kind = range.kind; base = 0; order = 20 }, rights)) (record { order = omega arith; aligned = grind arith; base = omega arith }, bits))

whole_space : (word : ℕ) → IsWholeSpace word (whole_of (read_as (meaning_of word)))
whole_space word = by_reading (read_as (meaning_of word)) refl
  where
    by_reading : (o : Option (Range × Rights)) → read_as (meaning_of word) ≡ o → IsWholeSpace word (whole_of o)
    by_reading None reads = record { all = λ range rights is. absurd (cc); none = λ is. refl }
    by_reading (Some x) reads = record {
      all = λ range rights is.
          let same : x ≡ (range, rights) = cc in
          ap (λ (y : Range × Rights). read_as (meaning_of (whole_of (Some y)))) same
          ∙ whole_reads range rights (read_word (meaning_of word) (sound word) (range, rights) is).1;
      none = λ is. absurd (cc);
    }

pub items_taken : (k : KernelState) (ec caller : ℕ) (mark : Mark) → (context k ec).state ≡ Granting None → (context k ec).caller ≡ Some (caller, mark) →
    GoesBetween k ec caller ec (Some ec) Taken
items_taken k ec caller mark is keeps = record {
  item = delivery_between k caller ec (transfer k ec).item (Some ec) Taken;
  present = ap (delivery k ec) is ∙ ap (taken_from k ec (transfer k ec).item) keeps;
  range = refl;
  second = refl;
  count = some_are_counted (has_counts (message k caller)) (items (message k caller));
  translations = λ thread. rw thread refl;
  delegations = λ thread. rw thread refl;
  no_translations = λ other. rw other refl;
  whole_space = λ other. rw other (whole_space (item_at (message k caller) (transfer k ec).item).0);
  giver = refl;
  taker = refl;
  told = refl;
  follows = refl;
}

replied_by : (k : KernelState) (ec caller : ℕ) (mark : Mark) → (context k ec).state ≡ Replying → (context k ec).caller ≡ Some (caller, mark) →
    GoesBetween k ec ec caller (told_by caller mark) (Replied caller mark)
replied_by k ec caller mark is keeps = record {
  item = delivery_between k ec caller (transfer k ec).item (told_by caller mark) (Replied caller mark);
  present = ap (delivery k ec) is ∙ ap (given_to k ec (transfer k ec).item) keeps;
  range = refl;
  second = refl;
  count = some_are_counted (has_counts (message k ec)) (items (message k ec));
  translations = λ thread. rw thread refl;
  delegations = λ thread. rw thread refl;
  no_translations = λ other. rw other refl;
  whole_space = λ other. rw other (whole_space (item_at (message k ec) (transfer k ec).item).0);
  giver = refl;
  taker = refl;
  told = refl;
  follows = refl;
}

pub items_replied : (k : KernelState) (ec caller : ℕ) → (context k ec).state ≡ Replying → (context k ec).caller ≡ Some (caller, Call) →
    GoesBetween k ec ec caller (Some caller) (Replied caller Call)
items_replied k ec caller is keeps = replied_by k ec caller Call is keeps

pub items_resumed : (k : KernelState) (ec caller : ℕ) → (context k ec).state ≡ Replying → (context k ec).caller ≡ Some (caller, Exit) →
    GoesBetween k ec ec caller None (Replied caller Exit)
items_resumed k ec caller is keeps = replied_by k ec caller Exit is keeps

pub range_created : (k : KernelState) (ec domain : ℕ) → (context k ec).state ≡ Granting (Some domain) → GoesToItself k ec domain
range_created k ec domain is = record {
  item = first_delivery k ec domain;
  present = ap (delivery k ec) is;
  range = refl;
  second = refl;
  count = refl;
  delegations = refl;
  giver = refl;
  taker = refl;
  told = refl;
  follows = refl;
}

-- WHICH CONTEXT IS TOLD

caller_kept : (o : Option EcState) (p : ℕ × Mark) → (context_in o).caller ≡ Some p → caller_at o ≡ Some p
caller_kept None p is = absurd (cc)
caller_kept (Some x) p is = is

abbrev told_at : Option Delivery → Option ℕ
told_at None = None
told_at (Some v) = v.told

-- a context that takes items has a caller, and so is a local thread; and a context that called is a thread
thread_told : (k : KernelState) (ec whom : ℕ) (v : Delivery) → TablesFit k → delivery k ec (context k ec).state ≡ Some v → v.told ≡ Some whom → is_thread k whom ≡ true
thread_told k ec whom v fits present told = by_state (context k ec).state present
  where
    by_taker : (o : Option (ℕ × Mark)) → (context k ec).caller ≡ o → taken_from k ec (transfer k ec).item o ≡ Some v → is_thread k whom ≡ true
    by_taker None keeps is = absurd (cc)
    by_taker (Some (caller, mark)) keeps is =
        let who : ec ≡ whom = let both : Some ec ≡ Some whom = ap told_at is ∙ told in cc in
        let local = (fits.served.well ec).kept caller mark (caller_kept (ec_in k.contexts ec) (caller, mark) keeps) in
        subst (λ (n : ℕ). is_thread k n ≡ true) who (local_thread (slice_get k.objects ec) local)

    by_replier : (o : Option (ℕ × Mark)) → (context k ec).caller ≡ o → given_to k ec (transfer k ec).item o ≡ Some v → is_thread k whom ≡ true
    by_replier None keeps is = absurd (cc)
    by_replier (Some (caller, Exit)) keeps is = absurd (let both : None ≡ Some whom = ap told_at is ∙ told in cc)
    by_replier (Some (caller, Call)) keeps is =
        let who : caller ≡ whom = let both : Some caller ≡ Some whom = ap told_at is ∙ told in cc in
        subst (λ (n : ℕ). is_thread k n ≡ true) who (fits.guests.callers ec caller (caller_kept (ec_in k.contexts ec) (caller, Call) keeps))

    by_state : (s : State) → delivery k ec s ≡ Some v → is_thread k whom ≡ true
    by_state (Granting (Some new)) is = absurd (let both : None ≡ Some whom = ap told_at is ∙ told in cc)
    by_state (Granting None) is = by_taker (context k ec).caller refl is
    by_state Replying is = by_replier (context k ec).caller refl is
    by_state other is = absurd (cc)

pub threads_told : (s : Scenario) (turns : List ℕ) (ec whom : ℕ) (v : Delivery) → delivery (run (boot s) turns) ec (context (run (boot s) turns) ec).state ≡ Some v →
    v.told ≡ Some whom → is_thread (run (boot s) turns) whom ≡ true
threads_told s turns ec whom v = thread_told (run (boot s) turns) ec whom v (boot_run_fits s turns)

-- WHAT IS TOLD

abbrev EndTells : KernelState → ℕ → Deed → Type 0
EndTells k ec (Finishes item end None follows) = EndsItem k ec item None follows
EndTells k ec (Finishes item end (Some words) follows) = EndsItem k ec item (Some words) follows × TellsOfItem k ec item end words
EndTells k ec other = Unit {0}

whole_tells : (k : KernelState) (ec : ℕ) (d : Deed) → is_part d ≡ false → EndTells k ec d
whole_tells k ec (Finishes item end words follows) whole = absurd (cc)
whole_tells k ec other whole = tt

next_follows : (v : Delivery) (item : ℕ) → item + 1 < v.items → sequel_of v item ≡ Item
next_follows v item more = let test : nat_lt (item + 1) v.items ≡ true = grind (arith, nat_tests) in ap (λ (t : Bool). if t then Item else v.last) test

last_follows : (v : Delivery) (item : ℕ) → v.items ≤ item + 1 → sequel_of v item ≡ v.last
last_follows v item over = let test : nat_lt (item + 1) v.items ≡ false = grind (arith, nat_tests) in ap (λ (t : Bool). if t then Item else v.last) test

finished_tells : (k : KernelState) (ec : ℕ) (v : Delivery) (end : ItemEnd) (answer : ℕ) → delivery k ec (context k ec).state ≡ Some v → Tells k ec v end answer →
    EndTells k ec (finished v (transfer k ec).item end answer)
finished_tells k ec v end answer present tells = by_told v.told refl
  where
    by_told : (o : Option ℕ) → v.told ≡ o → EndTells k ec (Finishes (transfer k ec).item end (words_for o answer (flag v)) (sequel_of v (transfer k ec).item))
    by_told None told = record {
      item = v;
      present = present;
      its = refl;
      next = next_follows v (transfer k ec).item;
      last = last_follows v (transfer k ec).item;
      silent = λ none. refl;
      told = λ whom is. absurd (cc);
    }
    by_told (Some whom) told = (
      record {
        item = v;
        present = present;
        its = refl;
        next = next_follows v (transfer k ec).item;
        last = last_follows v (transfer k ec).item;
        silent = λ none. absurd (cc);
        told = λ whose is. refl;
      },
      record { item = v; present = present; its = refl; told = told; first = tells; second = refl },
    )

given_none : (test : Bool) (word children : ℕ) → (children == 0) ≡ test → children ≡ 0 → (if test then 0 else word) ≡ 0
given_none true word children tests none = refl
given_none false word children tests none = absurd (let t : (children == 0) ≡ true = ap (λ (c : ℕ). c == 0) none in cc)

given_some : (test : Bool) (word children : ℕ) → (children == 0) ≡ test → children ≢ 0 → (if test then 0 else word) ≡ word
given_some true word children tests some = absurd (grind (arith, nat_tests))
given_some false word children tests some = refl

parted_tells : (k : KernelState) (ec : ℕ) (j : Job) (d : Derivation) (r : Result Derivation Reason) → EndTells k ec (parted j d r)
parted_tells k ec j d (Ok x) = tt
parted_tells k ec j d (Err reason) = tt

-- a delegation, by what it reads as and what is next
delegated_tells : (k : KernelState) (ec : ℕ) (v : Delivery) → delivery k ec (context k ec).state ≡ Some v → v.second_word % 2 ≡ 1 →
    EndTells k ec (delegated k v (transfer k ec) (job_of v.range_word v.second_word v.delegations v.giver v.receiver))
delegated_tells k ec v present flagged = by_job (job_of v.range_word v.second_word v.delegations v.giver v.receiver) refl
  where
    by_part : (j : Job) (o : Option Part) → job_of v.range_word v.second_word v.delegations v.giver v.receiver ≡ Ok j →
        EndTells k ec (part_deed v (transfer k ec) (record j { cursor = (transfer k ec).cursor }) o)
    by_part j None reads =
        let children = (transfer k ec).children in
        finished_tells k ec v (Given children) (range_given (record j { cursor = (transfer k ec).cursor }) children) present (
          flagged,
          refl,
          record {
            job = j;
            reads = reads;
            none = given_none (children == 0) (word_of (Some (dest_of j, j.rights))) children refl;
            some = given_some (children == 0) (word_of (Some (dest_of j, j.rights))) children refl;
          },
        )
    by_part j (Some p) reads = parted_tells k ec (record j { cursor = (transfer k ec).cursor }) p.source p.child

    by_job : (r : Result Job Skip) → job_of v.range_word v.second_word v.delegations v.giver v.receiver ≡ r → EndTells k ec (delegated k v (transfer k ec) r)
    by_job (Err skip) reads = finished_tells k ec v (Skipped skip) 0 present (flagged, reads, refl)
    by_job (Ok j) reads = by_part j (next_part (is_busy k) k.delegations (record j { cursor = (transfer k ec).cursor })) reads

delivered_tells : (k : KernelState) (ec : ℕ) (v : Delivery) → delivery k ec (context k ec).state ≡ Some v → EndTells k ec (delivered k v (transfer k ec))
delivered_tells k ec v present = by_flag (flag v == 1) refl
  where
    by_flag : (t : Bool) → (flag v == 1) ≡ t → EndTells k ec (if t
        then delegated k v (transfer k ec) (job_of v.range_word v.second_word v.delegations v.giver v.receiver)
        else answered_by v (transfer k ec) (translated k.delegations.list v.range_word v.translations v.giver v.receiver))
    by_flag true is = delegated_tells k ec v present (grind (arith, nat_tests))
    by_flag false is =
        let answer = translated k.delegations.list v.range_word v.translations v.giver v.receiver in
        finished_tells k ec v (Translated answer) answer present (grind (arith, nat_tests), refl, refl)

delivers_tells : (k : KernelState) (ec : ℕ) (o : Option Delivery) → delivery k ec (context k ec).state ≡ o → EndTells k ec (delivers k (transfer k ec) o)
delivers_tells k ec None present = tt
delivers_tells k ec (Some v) present = delivered_tells k ec v present

-- a context that gives no items ends none
own_tells : (k : KernelState) (ec : ℕ) → is_giving (context k ec).state ≡ false → EndTells k ec (deed k ec)
own_tells k ec rests = walk.own_holds (EndTells k ec) k ec rests tt (record {
  steps = tt;
  raises = λ reason q0 q1. tt;
  dies = λ reason q0. tt;
  refuses = λ number status. tt;
  waits = λ pt reason q0 q1 is. tt;
  sends = λ pt reason q0 q1 is. tt;
  aborts = λ handler is. tt;
  removes = λ range own leaf is next. tt;
  returns = λ range own is next. tt;
  rows = λ asks c read. done_weaker IsWhole (EndTells k ec) (row k ec (pd_of k ec) c) (whole_tells k ec) (row_whole k ec (pd_of k ec) c);
})

giving_tells : (k : KernelState) (ec : ℕ) → is_giving (context k ec).state ≡ true → EndTells k ec (deed k ec)
unfolding deed
giving_tells k ec giving = by_state (context k ec).state refl giving
  where
    by_state : (s : State) → (context k ec).state ≡ s → is_giving s ≡ true → EndTells k ec (deed_in k ec s)
    by_state (Granting new) is some = delivers_tells k ec (delivery k ec (Granting new)) (ap (delivery k ec) is)
    by_state Replying is some = delivers_tells k ec (delivery k ec Replying) (ap (delivery k ec) is)
    by_state other is some = absurd (cc)

deed_tells : (k : KernelState) (ec : ℕ) → EndTells k ec (deed k ec)
deed_tells k ec = by_test (is_giving (context k ec).state) refl
  where
    by_test : (t : Bool) → is_giving (context k ec).state ≡ t → EndTells k ec (deed k ec)
    by_test false is = own_tells k ec is
    by_test true is = giving_tells k ec is

pub words_tell : (k : KernelState) (ec item : ℕ) (end : ItemEnd) (words : ItemWords) (follows : Sequel) → deed k ec ≡ Finishes item end (Some words) follows →
    TellsOfItem k ec item end words
words_tell k ec item end words follows is = (subst (EndTells k ec) is (deed_tells k ec)).1

pub items_end : (k : KernelState) (ec item : ℕ) (end : ItemEnd) (words : Option ItemWords) (follows : Sequel) → deed k ec ≡ Finishes item end words follows →
    EndsItem k ec item words follows
items_end k ec item end None follows is = subst (EndTells k ec) is (deed_tells k ec)
items_end k ec item end (Some words) follows is = (subst (EndTells k ec) is (deed_tells k ec)).0
