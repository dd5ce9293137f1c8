-- What one of a side does is done to the side's part alike, in two states in which it is the same.
use Rattle.std.proofs.Common.{◌≡◌, ℕ, ◌+◌, ◌-◌, ◌%◌, ◌/◌, ◌==◌, List, [], ◌∷◌, ◌++◌, length, refl, sym, ap, ap₂, ◌∙◌, subst, inl, inr}
use Rattle.std.specs.Prelude.{Bool, true, false, ◌≢◌, IsSome, is_some, slice_get, option_map, Option, Some, None, if◌then◌else◌}
use Rattle.std.specs.List.{find}
use Rattle.byteorder.specs.Endian.{little_bytes}
use Rattle.rv_model.specs.Step.{Once, Store}
use Rattle.nova_guest.specs.Frames.{replaced}
use Rattle.nova_guest.specs.declared.page.Page.{Page}
use Rattle.nova_range.specs.Rights.{write_right}
use Rattle.nova_range.specs.declared.status.Status.TheVariants.{Success}
use Rattle.nova_utcb.specs.Messages.{copied, exited, with_item}
use Rattle.nova_model.specs.AddressSpaces.{AddressSpace, frame_for, stored_at}
use Rattle.nova_model.specs.Creation.{budget_of, context_of, count_of, identifier_of, idle_semaphore, object_of, transfer_of, words_of}
use Rattle.nova_model.specs.Deeds.{address_space, gave, instruction, skipped, transfer_after}
use Rattle.nova_model.specs.Delegations.{covers, reach}
use Rattle.nova_model.specs.Inputs.{store_of}
use Rattle.nova_model.specs.Memory.{Memory, written, written_in}
use Rattle.nova_model.specs.State.{Contexts, KernelState, context, ec_in, entry, message, message_in, pd_in, pd_of, transfer}
use Rattle.nova_model.specs.Turn.{budget_after, is_spent}
use Rattle.nova_model.specs.declared.budget.Budget.{Budget}
use Rattle.nova_model.specs.declared.context.EcState.{EcState}
use Rattle.nova_model.specs.declared.context.Mark.TheVariants as mark
use Rattle.nova_model.specs.declared.deed.Deed.{Deed}
use Rattle.nova_model.specs.declared.deed.Deed.TheVariants as deeds
use Rattle.nova_model.specs.declared.log.LogByte.{LogByte}
use Rattle.nova_model.specs.declared.new_object.NewObject.{NewObject}
use Rattle.nova_model.specs.declared.transfer.ItemWords.{ItemWords}
use Rattle.nova_model.specs.declared.transfer.Transfer.{Transfer}
use Rattle.law_forest.specs.Effects.{Answers, Branch, Edits, Parks, Resumes, all_edited, branch_by, branched, deadline_by, deadlines_with, edit_at, edits_by, effect, follows_by, identifier_by, item_words, joined, made_by, memory_with, no_deadline, put, recalls_by, semaphore_by, semaphores_with, steps_by, store_by, store_words, transfer_by, words_by}
use Rattle.law_forest.specs.Turns.{Turning, budgets_paid, turned}
use Rattle.law_turns.proofs.Links.{place}
use Rattle.law_turns.proofs.Setting.{entry_itself, entry_other, set_length}
use Rattle.law_flow.specs.Flow.{AreAlike, fronts, held_by, origin_of, ticks_at}
use Rattle.law_flow.proofs.Seeing.{Both, across, address_same, context_same, instruction_same, message_same, page_of, there_so, transfer_same}
use Rattle.nova_objects.specs.declared.object.Object.{Object}
use Rattle.law_flow.proofs.Deciding.{IsOwn}
use Rattle.law_flow.proofs.Tables.{AreSame, change_same, deadlines_same, edits_alike, fronts_alike, named_so, put_same, set_same, unjoined}

-- WHO PAYS

abbrev pub ticks_in : List (Option Budget) → ℕ → Option ℕ
ticks_in bs n = option_map (λ (b : Budget). b.ticks) (entry (slice_get bs n))

more_ticks : (o : Option Budget) → option_map (λ (b : Budget). b.ticks + 1) o ≡ option_map (λ (t : ℕ). t + 1) (option_map (λ (b : Budget). b.ticks) o)
more_ticks None = refl
more_ticks (Some b) = refl

paid_itself : (bs : List (Option Budget)) (sc quantum stamp : ℕ) → ticks_in (budgets_paid bs sc quantum stamp (entry (slice_get bs sc))) sc ≡ option_map (λ (b : Budget). b.ticks + 1) (entry (slice_get bs sc))
paid_itself bs sc quantum stamp = by_entry (entry (slice_get bs sc)) refl
  where
    by_test : (b : Budget) (t : Bool) → (budget_after t quantum stamp b).ticks ≡ b.ticks + 1
    by_test b true = refl
    by_test b false = refl

    by_entry : (o : Option Budget) → entry (slice_get bs sc) ≡ o → ticks_in (budgets_paid bs sc quantum stamp o) sc ≡ option_map (λ (b : Budget). b.ticks + 1) o
    by_entry None is = ap (option_map (λ (b : Budget). b.ticks)) is
    by_entry (Some b) is =
        ap (option_map (λ (b : Budget). b.ticks)) (entry_itself bs sc (budget_after (is_spent b) quantum stamp b) (subst IsSome (sym is) refl))
        ∙ ap (λ (t : ℕ). Some t) (by_test b (is_spent b))

pub paid_other : (bs : List (Option Budget)) (sc quantum stamp n : ℕ) (o : Option Budget) → n ≢ sc → ticks_in (budgets_paid bs sc quantum stamp o) n ≡ ticks_in bs n
paid_other bs sc quantum stamp n None other = refl
paid_other bs sc quantum stamp n (Some b) other = ap (option_map (λ (b : Budget). b.ticks)) (entry_other bs sc n (budget_after (is_spent b) quantum stamp b) other)

pub paid_same : (P : ℕ → Type 0) (bs cs : List (Option Budget)) (sc quantum stamp its stamps : ℕ) → ((n : ℕ) → P n → ticks_in cs n ≡ ticks_in bs n) → (n : ℕ) → P n →
    ticks_in (budgets_paid cs sc its stamps (entry (slice_get cs sc))) n ≡ ticks_in (budgets_paid bs sc quantum stamp (entry (slice_get bs sc))) n
paid_same P bs cs sc quantum stamp its stamps same n p = elim (place n sc) [
  | inl is ↦
      let both = same sc (subst P is p) in
      ap (ticks_in (budgets_paid cs sc its stamps (entry (slice_get cs sc)))) is ∙ paid_itself cs sc its stamps ∙ more_ticks (entry (slice_get cs sc))
      ∙ ap (option_map (λ (t : ℕ). t + 1)) both ∙ sym (more_ticks (entry (slice_get bs sc)))
      ∙ sym (ap (ticks_in (budgets_paid bs sc quantum stamp (entry (slice_get bs sc)))) is ∙ paid_itself bs sc quantum stamp)
  | inr other ↦ paid_other cs sc its stamps n (entry (slice_get cs sc)) other ∙ same n p ∙ sym (paid_other bs sc quantum stamp n (entry (slice_get bs sc)) other)
]

-- FRAMES AND CONSOLES

-- the log of both gains the same
pub record GainSame (m n later further : Memory) : Type 0 where
  pub gained : List LogByte
  pub first : later.log ≡ m.log ++ gained
  pub second : further.log ≡ n.log ++ gained

nothing : (xs : List LogByte) → xs ≡ xs ++ []
nothing [] = refl
nothing (x ∷ xs) = ap (λ (l : List LogByte). x ∷ l) (nothing xs)

pub record StoreSame (F : ℕ → Type 0) (m n later further : Memory) : Type 0 where
  pub frames : AreSame F later.ram further.ram
  pub size : length further.ram ≡ length later.ram
  pub gains : GainSame m n later further

written_alike : (F : ℕ → Type 0) (m n : Memory) (frame offset width value : ℕ) → AreSame F m.ram n.ram → length n.ram ≡ length m.ram → (o : Option (List ℕ)) →
    StoreSame F m n (written_in m o frame offset width value) (written_in n o frame offset width value)
written_alike F m n frame offset width value same size (Some bytes) = record {
  frames = set_same F m.ram n.ram frame _ _ same (λ q. refl);
  size = set_length n.ram frame (replaced bytes offset (little_bytes width value)) ∙ size ∙ sym (set_length m.ram frame (replaced bytes offset (little_bytes width value)));
  gains = record { gained = []; first = nothing m.log; second = nothing n.log };
}
written_alike F m n frame offset width value same size None = record {
  frames = same;
  size = size;
  gains = record {
    gained = if offset == 0 then record { console = frame - length m.ram; value = value % 256 } ∷ [] else [];
    first = refl;
    second = ap (λ (k : ℕ). n.log ++ (if offset == 0 then record { console = frame - k; value = value % 256 } ∷ [] else [])) size;
  };
}

unstored : (F : ℕ → Type 0) (m n : Memory) → AreSame F m.ram n.ram → length n.ram ≡ length m.ram → StoreSame F m n m n
unstored F m n same size = record { frames = same; size = size; gains = record { gained = []; first = nothing m.log; second = nothing n.log } }

-- a page of the side's leads there
pub record Seen (k : KernelState) (S : ℕ → Type 0) (frame : ℕ) : Type 0 where
  pub pd : ℕ
  pub page : ℕ
  pub to : Page
  pub of : S pd
  pub leads : reach k.delegations.list pd page ≡ Some to
  pub its : to.frame ≡ frame

pub frames_same : (k l : KernelState) (S P : ℕ → Type 0) → Both k l S P → AreSame (Seen k S) k.memory.ram l.memory.ram
frames_same k l S P b frame seen = subst (λ (n : ℕ). slice_get l.memory.ram n ≡ slice_get k.memory.ram n) seen.its (b.alike.frames seen.pd seen.page seen.to seen.of seen.leads)

pub memory_same : (k l : KernelState) (S P : ℕ → Type 0) → Both k l S P → (ec : ℕ) → P ec → S (pd_of k ec) → (d : Deed) →
    StoreSame (Seen k S) k.memory l.memory (memory_with k.memory (store_by k ec d)) (memory_with l.memory (store_by l ec d))
memory_same k l S P b ec p s deeds.Steps =
    subst (λ (o : Option (AddressSpace × Store)). StoreSame (Seen k S) k.memory l.memory (memory_with k.memory (store_by k ec deeds.Steps)) (memory_with l.memory o)) (sym theirs)
    (by_store (store_of (instruction k ec)))
  where
    theirs : store_by l ec deeds.Steps ≡ option_map (λ s. (across k l ec, s)) (store_of (instruction k ec))
    theirs = ap₂ (λ (a : AddressSpace) (o : Once). option_map (λ (s : Store). (a, s)) (store_of o)) (address_same k l S P b ec p s) (instruction_same k l S P b ec p s)

    by_frame : (t : Store) (o : Option ℕ) → frame_for (address_space k ec) write_right t.address ≡ o → StoreSame (Seen k S) k.memory l.memory (stored_at k.memory t o) (stored_at l.memory t o)
    by_frame t None is = unstored (Seen k S) k.memory l.memory (frames_same k l S P b) b.alike.size
    by_frame t (Some g) is =
        let at = page_of k ec write_right t.address g is in
        let seen : Seen k S g = record { pd = pd_of k ec; page = t.address / 4096; to = at.0; of = s; leads = at.1; its = at.2 } in
        subst (λ (o : Option (List ℕ)). StoreSame (Seen k S) k.memory l.memory (written k.memory g (t.address % 4096) t.width t.value) (written_in l.memory o g (t.address % 4096) t.width t.value))
        (sym (frames_same k l S P b g seen))
        (written_alike (Seen k S) k.memory l.memory g (t.address % 4096) t.width t.value (frames_same k l S P b) b.alike.size (slice_get k.memory.ram g))

    by_store : (o : Option Store) →
        StoreSame (Seen k S) k.memory l.memory (memory_with k.memory (option_map (λ s. (address_space k ec, s)) o)) (memory_with l.memory (option_map (λ s. (across k l ec, s)) o))
    by_store None = unstored (Seen k S) k.memory l.memory (frames_same k l S P b) b.alike.size
    by_store (Some t) = by_frame t (frame_for (address_space k ec) write_right t.address) refl
memory_same k l S P b ec p s other = unstored (Seen k S) k.memory l.memory (frames_same k l S P b) b.alike.size

-- WHAT A DEED DOES

-- of these registers, message words and places in items are the same: execution contexts of the side's own domains
abbrev pub Shown : KernelState → (ℕ → Type 0) → (ℕ → Type 0) → ℕ → Type 0
Shown k S P n = P n × S (pd_of k n)

pub shown_contexts : (k l : KernelState) (S P : ℕ → Type 0) → Both k l S P → AreSame (Shown k S P) k.contexts l.contexts
shown_contexts k l S P b n q = b.alike.contexts n q.0 q.1

pub shown_messages : (k l : KernelState) (S P : ℕ → Type 0) → Both k l S P → AreSame (Shown k S P) k.messages l.messages
shown_messages k l S P b n q = b.alike.messages n q.0 q.1

recalls_so : (whose : ℕ) (o p : Option EcState) → is_some o ≡ is_some p → recalls_by whose o ≡ recalls_by whose p
recalls_so whose None None h = refl
recalls_so whose None (Some y) h = absurd (cc)
recalls_so whose (Some x) None h = absurd (cc)
recalls_so whose (Some x) (Some y) h = refl

-- the words of an item that ended
items_alike : (k l : KernelState) (S P : ℕ → Type 0) → Both k l S P → (item : ℕ) (o : Option ItemWords) → AreSame (Shown k S P) (put k.messages (item_words k item o)) (put l.messages (item_words l item o))
items_alike k l S P b item None = shown_messages k l S P b
items_alike k l S P b item (Some w) =
    set_same (Shown k S P) k.messages l.messages w.ec (Some (with_item (message k w.ec) item w.first w.second)) (Some (with_item (message l w.ec) item w.first w.second)) (shown_messages k l S P b)
    (λ q. ap (λ (m : List ℕ). Some (with_item m item w.first w.second)) (message_same k l S P b w.ec q.0 q.1))

edits_same : (timed : Type 0) (k l : KernelState) (S P : ℕ → Type 0) → Both k l S P → (ec : ℕ) → P ec → S (pd_of k ec) → (d : Deed) → IsOwn timed P d → edits_by l ec d ≡ edits_by k ec d
edits_same timed k l S P b ec p s deeds.Steps own = ap (steps_by ec) (instruction_same k l S P b ec p s)
edits_same timed k l S P b ec p s (deeds.Recalls whose) own =
    ap (λ (es : Edits). (ec, Answers Success None) ∷ es)
    (recalls_so whose (ec_in (edit_at l.contexts ec (Answers Success None)) whose) (ec_in (edit_at k.contexts ec (Answers Success None)) whose)
    (there_so (edit_at k.contexts ec (Answers Success None)) (edit_at l.contexts ec (Answers Success None)) whose
    (fronts_alike P k.contexts l.contexts ((ec, Answers Success None) ∷ []) b.alike.fronts whose own)))
edits_same timed k l S P b ec p s (deeds.Replies caller came true) own = refl
edits_same timed k l S P b ec p s (deeds.Replies caller came false) own = ap (λ (m : List ℕ). (ec, Parks) ∷ (caller, Resumes came m) ∷ []) (message_same k l S P b ec p s)
edits_same timed k l S P b ec p s (deeds.Finishes item end words after) own =
    ap (λ (o : Option (Option (List ℕ))). follows_by ec (message_in (entry o)) after) (items_alike k l S P b item words ec (p, s))
edits_same timed k l S P b ec p s other own = refl

words_alike : (timed : Type 0) (k l : KernelState) (S P : ℕ → Type 0) → Both k l S P → (ec : ℕ) → P ec → S (pd_of k ec) → (d : Deed) → IsOwn timed P d →
    AreSame (Shown k S P) (put k.messages (words_by k ec d)) (put l.messages (words_by l ec d))
words_alike timed k l S P b ec p s deeds.Steps own =
    named_so (Shown k S P) (put k.messages (words_by k ec deeds.Steps)) (put l.messages (words_by k ec deeds.Steps)) _ _ refl (ap (put l.messages) same)
    (put_same (Shown k S P) k.messages l.messages (words_by k ec deeds.Steps) (shown_messages k l S P b))
  where
    by_store : (o : Option Store) → store_words (across k l ec) ec o ≡ store_words (address_space k ec) ec o
    by_store None = refl
    by_store (Some t) = refl

    same : words_by l ec deeds.Steps ≡ words_by k ec deeds.Steps
    same = ap₂ (λ (a : AddressSpace) (o : Once). store_words a ec (store_of o)) (address_same k l S P b ec p s) (instruction_same k l S P b ec p s) ∙ by_store (store_of (instruction k ec))
words_alike timed k l S P b ec p s (deeds.Calls handler ip number items) own =
    set_same (Shown k S P) k.messages l.messages handler (Some (copied (message k ec) (message k handler))) (Some (copied (message l ec) (message l handler))) (shown_messages k l S P b)
    (λ q. ap₂ (λ (m n : List ℕ). Some (copied m n)) (message_same k l S P b ec p s) (message_same k l S P b handler q.0 q.1))
words_alike timed k l S P b ec p s (deeds.Sends handler ip number mtd reason q0 q1) own =
    set_same (Shown k S P) k.messages l.messages handler (Some (exited mtd q0 q1 (context k ec).regs (message k handler))) (Some (exited mtd q0 q1 (context l ec).regs (message l handler)))
    (shown_messages k l S P b) (λ q. ap₂ (λ (x : EcState) (n : List ℕ). Some (exited mtd q0 q1 x.regs n)) (context_same k l S P b ec p s) (message_same k l S P b handler q.0 q.1))
words_alike timed k l S P b ec p s (deeds.Replies caller mark.Call items) own =
    set_same (Shown k S P) k.messages l.messages caller (Some (copied (message k ec) (message k caller))) (Some (copied (message l ec) (message l caller))) (shown_messages k l S P b)
    (λ q. ap₂ (λ (m n : List ℕ). Some (copied m n)) (message_same k l S P b ec p s) (message_same k l S P b caller q.0 q.1))
words_alike timed k l S P b ec p s (deeds.Replies caller mark.Exit items) own = shown_messages k l S P b
words_alike timed k l S P b ec p s (deeds.Finishes item end words after) own = items_alike k l S P b item words
words_alike timed k l S P b ec p s other own = shown_messages k l S P b

-- how far they are with items
pub transfers_alike : (k l : KernelState) (S P : ℕ → Type 0) → Both k l S P → (ec : ℕ) (d : Deed) → AreSame (Shown k S P) (put k.transfers (transfer_by k ec d)) (put l.transfers (transfer_by l ec d))
transfers_alike k l S P b ec (deeds.Gives child cursor) =
    set_same (Shown k S P) k.transfers l.transfers ec (Some (gave (transfer k ec) cursor)) (Some (gave (transfer l ec) cursor)) (λ m r. b.alike.transfers m r.0 r.1)
    (λ q. ap (λ (t : Transfer). Some (gave t cursor)) (transfer_same k l S P b ec q.0 q.1))
transfers_alike k l S P b ec (deeds.Skips reason place cursor) =
    set_same (Shown k S P) k.transfers l.transfers ec (Some (skipped (transfer k ec) cursor)) (Some (skipped (transfer l ec) cursor)) (λ m r. b.alike.transfers m r.0 r.1)
    (λ q. ap (λ (t : Transfer). Some (skipped t cursor)) (transfer_same k l S P b ec q.0 q.1))
transfers_alike k l S P b ec (deeds.Finishes item end words after) = put_same (Shown k S P) k.transfers l.transfers (Some (ec, transfer_after item after)) (λ m r. b.alike.transfers m r.0 r.1)
transfers_alike k l S P b ec other = λ m r. b.alike.transfers m r.0 r.1

-- it makes nothing and takes nothing, and no range joins
record IsQuiet (k : KernelState) (ec : ℕ) (d : Deed) : Type 0 where
  made : made_by d ≡ None
  branch : branch_by k ec d ≡ None

quiet : (timed : Type 0) (k : KernelState) (P : ℕ → Type 0) (ec : ℕ) (d : Deed) → IsOwn timed P d → IsQuiet k ec d
quiet timed k P ec (deeds.Makes call target made) own = absurd own
quiet timed k P ec (deeds.Opens target domain) own = absurd own
quiet timed k P ec (deeds.Gives child cursor) own = absurd own
quiet timed k P ec (deeds.Removes leaf) own = absurd own
quiet timed k P ec other own = record { made = refl; branch = refl }

pub made_none : (timed : Type 0) (P : ℕ → Type 0) (d : Deed) → IsOwn timed P d → made_by d ≡ None
made_none timed P (deeds.Makes call target made) own = absurd own
made_none timed P (deeds.Opens target domain) own = absurd own
made_none timed P other own = refl

pub branch_none : (timed : Type 0) (k : KernelState) (P : ℕ → Type 0) (ec : ℕ) (d : Deed) → IsOwn timed P d → branch_by k ec d ≡ None
branch_none timed k P ec d own = (quiet timed k P ec d own).branch

-- A TURN

abbrev pub by_deed : KernelState → ℕ → ℕ → Deed → (ℕ → Bool) → Turning
by_deed k ec sc d stirs = record { effect = effect k ec d; stirs = stirs; charge = Some sc }

pub turned_alike : (timed : Type 0) (k l : KernelState) (S P : ℕ → Type 0) → Both k l S P → (cpu other ec sc : ℕ) → P ec → S (pd_of k ec) → (d : Deed) → IsOwn timed P d → (stirs others : ℕ → Bool) →
    AreAlike (turned k cpu (by_deed k ec sc d stirs)) (turned l other (by_deed l ec sc d others)) S P
turned_alike timed k l S P b cpu other ec sc p s d own stirs others = record {
  objects = named_so P k.objects l.objects _ _ (unjoined k.objects object_of (made_by d) ours.made) (unjoined l.objects object_of (made_by d) ours.made) b.alike.objects;
  fronts = λ n q. named_so P (fronts (all_edited k.contexts (edits_by k ec d))) (fronts (all_edited l.contexts (edits_by k ec d))) _ _
      (ap (λ (cs : Contexts). fronts cs) (unjoined (all_edited k.contexts (edits_by k ec d)) (context_of (length k.objects)) (made_by d) ours.made))
      (ap (λ (cs : Contexts). fronts cs) (unjoined (all_edited l.contexts (edits_by l ec d)) (context_of (length l.objects)) (made_by d) ours.made ∙ ap (all_edited l.contexts) (edits_same timed k l S P b ec p s d own)))
      (fronts_alike P k.contexts l.contexts (edits_by k ec d) b.alike.fronts) n q;
  contexts = λ n q its. named_so (Shown k S P) (all_edited k.contexts (edits_by k ec d)) (all_edited l.contexts (edits_by k ec d)) _ _
      (unjoined (all_edited k.contexts (edits_by k ec d)) (context_of (length k.objects)) (made_by d) ours.made)
      (unjoined (all_edited l.contexts (edits_by l ec d)) (context_of (length l.objects)) (made_by d) ours.made ∙ ap (all_edited l.contexts) (edits_same timed k l S P b ec p s d own))
      (edits_alike (Shown k S P) k.contexts l.contexts (edits_by k ec d) (shown_contexts k l S P b)) n (q, domain n its);
  messages = λ n q its. named_so (Shown k S P) (put k.messages (words_by k ec d)) (put l.messages (words_by l ec d)) _ _
      (unjoined (put k.messages (words_by k ec d)) (λ (m : NewObject). words_of (object_of m)) (made_by d) ours.made)
      (unjoined (put l.messages (words_by l ec d)) (λ (m : NewObject). words_of (object_of m)) (made_by d) ours.made)
      (words_alike timed k l S P b ec p s d own) n (q, domain n its);
  transfers = λ n q its. named_so (Shown k S P) (put k.transfers (transfer_by k ec d)) (put l.transfers (transfer_by l ec d)) _ _
      (unjoined (put k.transfers (transfer_by k ec d)) (λ (m : NewObject). transfer_of (object_of m)) (made_by d) ours.made)
      (unjoined (put l.transfers (transfer_by l ec d)) (λ (m : NewObject). transfer_of (object_of m)) (made_by d) ours.made)
      (transfers_alike k l S P b ec d) n (q, domain n its);
  identifiers = named_so P (put k.identifiers (identifier_by d)) (put l.identifiers (identifier_by d)) _ _
      (unjoined (put k.identifiers (identifier_by d)) identifier_of (made_by d) ours.made) (unjoined (put l.identifiers (identifier_by d)) identifier_of (made_by d) ours.made)
      (put_same P k.identifiers l.identifiers (identifier_by d) b.alike.identifiers);
  semaphores = named_so P (semaphores_with k.semaphores (semaphore_by ec d)) (semaphores_with l.semaphores (semaphore_by ec d)) _ _
      (unjoined (semaphores_with k.semaphores (semaphore_by ec d)) (λ (m : NewObject). option_map idle_semaphore (count_of m)) (made_by d) ours.made)
      (unjoined (semaphores_with l.semaphores (semaphore_by ec d)) (λ (m : NewObject). option_map idle_semaphore (count_of m)) (made_by d) ours.made)
      (change_same P k.semaphores l.semaphores (semaphore_by ec d) b.alike.semaphores);
  deadlines = named_so P (deadlines_with k.times.deadlines (deadline_by ec d)) (deadlines_with l.times.deadlines (deadline_by ec d)) _ _
      (unjoined (deadlines_with k.times.deadlines (deadline_by ec d)) no_deadline (made_by d) ours.made)
      (unjoined (deadlines_with l.times.deadlines (deadline_by ec d)) no_deadline (made_by d) ours.made)
      (deadlines_same P k.times.deadlines l.times.deadlines (deadline_by ec d) b.alike.deadlines);
  ticks = λ n q. paid n q;
  spaces = λ kind pd place its.
      ap (λ (o : Option Branch). option_map held_by (find (covers kind pd place) (branched l.delegations o).list)) theirs.branch
      ∙ b.alike.spaces kind pd place its
      ∙ sym (ap (λ (o : Option Branch). option_map held_by (find (covers kind pd place) (branched k.delegations o).list)) ours.branch);
  origins = λ kind pd place from its theirs_.
      ap (λ (o : Option Branch). origin_of (branched l.delegations o).list from (find (covers kind pd place) (branched l.delegations o).list)) theirs.branch
      ∙ b.alike.origins kind pd place from its theirs_
      ∙ sym (ap (λ (o : Option Branch). origin_of (branched k.delegations o).list from (find (covers kind pd place) (branched k.delegations o).list)) ours.branch);
  frames = λ pd page to its leads. memory.frames to.frame (record { pd = pd; page = page; to = to; of = its; leads = was pd page to leads; its = refl });
  size = memory.size;
}
  where
    ours : IsQuiet k ec d
    ours = quiet timed k P ec d own

    theirs : IsQuiet l ec d
    theirs = quiet timed l P ec d own

    domain : (n : ℕ) → S (pd_of (turned k cpu (by_deed k ec sc d stirs)) n) → S (pd_of k n)
    domain n its = subst (λ (os : List Object). S (pd_in (slice_get os n))) (unjoined k.objects object_of (made_by d) ours.made) its

    memory : StoreSame (Seen k S) k.memory l.memory (memory_with k.memory (store_by k ec d)) (memory_with l.memory (store_by l ec d))
    memory = memory_same k l S P b ec p s d

    was : (pd page : ℕ) (to : Page) → reach (turned k cpu (by_deed k ec sc d stirs)).delegations.list pd page ≡ Some to → reach k.delegations.list pd page ≡ Some to
    was pd page to leads = sym (ap (λ (o : Option Branch). reach (branched k.delegations o).list pd page) ours.branch) ∙ leads

    paid : (n : ℕ) → P n → ticks_at (turned l other (by_deed l ec sc d others)) n ≡ ticks_at (turned k cpu (by_deed k ec sc d stirs)) n
    paid n q =
        paid_same P (joined k.budgets (option_map (budget_of k.next_stamp) (made_by d))) (joined l.budgets (option_map (budget_of l.next_stamp) (made_by d))) sc _ _ _ _ same n q
      where
        same : (m : ℕ) → P m → ticks_in (joined l.budgets (option_map (budget_of l.next_stamp) (made_by d))) m ≡ ticks_in (joined k.budgets (option_map (budget_of k.next_stamp) (made_by d))) m
        same m r =
            ap (λ (bs : List (Option Budget)). ticks_in bs m) (unjoined l.budgets (budget_of l.next_stamp) (made_by d) ours.made)
            ∙ b.alike.ticks m r
            ∙ sym (ap (λ (bs : List (Option Budget)). ticks_in bs m) (unjoined k.budgets (budget_of k.next_stamp) (made_by d) ours.made))
