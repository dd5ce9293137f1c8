-- What a deed does is the same over a plain step of another processor of which it changes nothing, but for the address space of its store.
use Rattle.std.proofs.Common.{◌≡◌, ◌≢◌, ℕ, List, [], ◌∷◌, refl, sym, ap, ap₂, ◌∙◌, subst, inl, inr}
use Rattle.std.specs.Prelude.{◌⊎◌, true, false, slice_get, slice_set, Option, Some, None, IsSome, if◌then◌else◌}
use Rattle.std.proofs.lemmas.Bool.{cases_eq}
use Rattle.rv_model.specs.Registers.{Registers}
use Rattle.rv_model.specs.Step.{Once, Store}
use Rattle.nova_utcb.specs.Messages.{copied, exited, with_item}
use Rattle.nova_range.specs.declared.status.Status.TheVariants.{Success}
use Rattle.nova_model.specs.AddressSpaces.{AddressSpace, page_through}
use Rattle.nova_model.specs.Choice.{Candidate}
use Rattle.nova_model.specs.Deeds.{address_space, instruction}
use Rattle.nova_model.specs.Inputs.{store_of}
use Rattle.nova_model.specs.Memory.{Memory}
use Rattle.nova_model.specs.State.{Contexts, KernelState, Stirs, context, context_in, ec_in, entry, is_thread, message, message_in, pd_of}
use Rattle.nova_model.specs.declared.context.EcState.{EcState}
use Rattle.nova_model.specs.declared.context.Mark.TheVariants as mark
use Rattle.nova_model.specs.declared.deed.Deed.{Deed}
use Rattle.nova_model.specs.declared.deed.Deed.TheVariants as deed
use Rattle.nova_model.specs.declared.times.Due.TheVariants as due
use Rattle.nova_model.specs.declared.transfer.ItemWords.{ItemWords}
use Rattle.law_forest.specs.Effects.{Answers, Parks, Resumes, Edits, Effect, Falls, Passing, Ticks, edit_at, edited, edits_by, effect, follows_by, item_words, memory_with, passing_effect, put, recalls_by, steps_by, store_by, store_words, words_by}
use Rattle.law_turns.proofs.Setting.{entry_itself, entry_other, set_both}
use Rattle.law_swaps.proofs.Stepping.{stepped_by}
use Rattle.law_swaps.proofs.Storing.{Its, are_own, memory_after, same_store, words_both, words_stay}
use Rattle.law_swaps.proofs.Storing.{same_words as words_through}

abbrev Messages : Type 0
Messages = List (Option (List ℕ))

message_of : (ms ns : Messages) (n : ℕ) → slice_get ns n ≡ slice_get ms n → message_in (entry (slice_get ns n)) ≡ message_in (entry (slice_get ms n))
message_of ms ns n same = ap (λ (o : Option (Option (List ℕ))). message_in (entry o)) same

-- THE STATE AFTER A PLAIN STEP, as a deed of another processor's context looks at it

pub record LooksSame (k : KernelState) (p ec : ℕ) (c : Candidate) (regs : Registers) (store : Option Store) (stirs : Stirs) (d : Deed) : Type 0 where
  pub apart : ec ≢ c.actor
  pub there : ec_in k.contexts c.actor ≡ Some (context k c.actor)
  pub goes : d ≡ deed.Steps → instruction (stepped_by k p c regs store stirs) ec ≡ instruction k ec

words_at : (k : KernelState) (c : Candidate) (store : Option Store) (n : ℕ) → n ≢ c.actor → slice_get (put k.messages (store_words (address_space k c.actor) c.actor store)) n ≡ slice_get k.messages n
words_at k c store n ne = words_stay k.messages c.actor n (store_words (address_space k c.actor) c.actor store) (are_own (address_space k c.actor) c.actor store) ne

message_at : (k : KernelState) (p : ℕ) (c : Candidate) (regs : Registers) (store : Option Store) (stirs : Stirs) (n : ℕ) → n ≢ c.actor → message (stepped_by k p c regs store stirs) n ≡ message k n
message_at k p c regs store stirs n ne = message_of k.messages (put k.messages (store_words (address_space k c.actor) c.actor store)) n (words_at k c store n ne)

context_at : (k : KernelState) (p : ℕ) (c : Candidate) (regs : Registers) (store : Option Store) (stirs : Stirs) (n : ℕ) → n ≢ c.actor → ec_in (stepped_by k p c regs store stirs).contexts n ≡ ec_in k.contexts n
context_at k p c regs store stirs n ne = entry_other k.contexts c.actor n (record (context k c.actor) { regs = regs }) ne

pub words_own : (k : KernelState) (p : ℕ) (c : Candidate) (regs : Registers) (store : Option Store) (stirs : Stirs) (n : ℕ) → n ≢ c.actor →
    (address_space (stepped_by k p c regs store stirs) n).words ≡ (address_space k n).words
words_own k p c regs store stirs n ne = ap (λ (m : List ℕ). if is_thread k n then Some m else None) (message_at k p c regs store stirs n ne)

pub pages_own : (k : KernelState) (p : ℕ) (c : Candidate) (regs : Registers) (store : Option Store) (stirs : Stirs) (n : ℕ) → n ≢ c.actor →
    (address_space (stepped_by k p c regs store stirs) n).page ≡ (address_space k n).page
pages_own k p c regs store stirs n ne = ap (page_through k.delegations.list (pd_of k n)) (words_own k p c regs store stirs n ne)

-- WORDS

-- the words of an item, which aren't those of the context that stepped
item_same : (k : KernelState) (p item : ℕ) (c : Candidate) (regs : Registers) (store : Option Store) (stirs : Stirs) (o : Option ItemWords) →
    ((n : ℕ) (w : List ℕ) → item_words (stepped_by k p c regs store stirs) item o ≡ Some (n, w) → n ≢ c.actor) →
    item_words (stepped_by k p c regs store stirs) item o ≡ item_words k item o
item_same k p item c regs store stirs None far = refl
item_same k p item c regs store stirs (Some w) far =
    ap (λ (m : List ℕ). Some (w.ec, with_item m item w.first w.second)) (message_at k p c regs store stirs w.ec (far w.ec (with_item (message (stepped_by k p c regs store stirs) w.ec) item w.first w.second) refl))

pub words_same : (k : KernelState) (p ec : ℕ) (c : Candidate) (regs : Registers) (store : Option Store) (stirs : Stirs) (d : Deed) → LooksSame k p ec c regs store stirs d →
    ((n : ℕ) (w : List ℕ) → words_by (stepped_by k p c regs store stirs) ec d ≡ Some (n, w) → n ≢ c.actor) → words_by (stepped_by k p c regs store stirs) ec d ≡ words_by k ec d
words_same k p ec c regs store stirs deed.Steps looks far =
    ap (λ (o : Once). store_words (address_space (stepped_by k p c regs store stirs) ec) ec (store_of o)) (looks.goes refl)
    ∙ words_through (address_space k ec) (address_space (stepped_by k p c regs store stirs) ec) ec (store_of (instruction k ec)) (words_own k p c regs store stirs ec looks.apart)
words_same k p ec c regs store stirs (deed.Calls handler ip identifier items) looks far =
    ap₂ (λ (m n : List ℕ). Some (handler, copied m n)) (message_at k p c regs store stirs ec looks.apart) (message_at k p c regs store stirs handler (far handler _ refl))
words_same k p ec c regs store stirs (deed.Sends handler ip identifier mtd reason q0 q1) looks far =
    ap₂ (λ (o : Option EcState) (m : List ℕ). Some (handler, exited mtd q0 q1 (context_in o).regs m)) (context_at k p c regs store stirs ec looks.apart) (message_at k p c regs store stirs handler (far handler _ refl))
words_same k p ec c regs store stirs (deed.Replies caller mark.Call items) looks far =
    ap₂ (λ (m n : List ℕ). Some (caller, copied m n)) (message_at k p c regs store stirs ec looks.apart) (message_at k p c regs store stirs caller (far caller _ refl))
words_same k p ec c regs store stirs (deed.Finishes item end words sequel) looks far = item_same k p item c regs store stirs words far
words_same k p ec c regs store stirs other looks far = refl

-- EDITS

-- a recall edits a context where it is there
recalls_same : (k : KernelState) (p ec whose : ℕ) (c : Candidate) (regs : Registers) (store : Option Store) (stirs : Stirs) (d : Deed) → LooksSame k p ec c regs store stirs d →
    recalls_by whose (ec_in (edit_at (stepped_by k p c regs store stirs).contexts ec (Answers Success None)) whose) ≡ recalls_by whose (ec_in (edit_at k.contexts ec (Answers Success None)) whose)
recalls_same k p ec whose c regs store stirs d looks =
    ap (λ (x : Option EcState). recalls_by whose (ec_in (slice_set stepped ec (Some (edited (context_in x) (Answers Success None)))) whose)) (context_at k p c regs store stirs ec looks.apart)
    ∙ ap (λ (cs : Contexts). recalls_by whose (ec_in cs whose)) (set_both k.contexts c.actor ec (Some own) (Some edited_own) looks.apart)
    ∙ by_place (cases_eq whose c.actor)
  where
    own : EcState
    own = record (context k c.actor) { regs = regs }

    edited_own : EcState
    edited_own = edited (context k ec) (Answers Success None)

    stepped : Contexts
    stepped = slice_set k.contexts c.actor (Some (record (context k c.actor) { regs = regs }))

    answered_at : ec_in (slice_set k.contexts ec (Some (edited (context k ec) (Answers Success None)))) c.actor ≡ Some (context k c.actor)
    answered_at = entry_other k.contexts ec c.actor (edited (context k ec) (Answers Success None)) (λ same. looks.apart (sym same)) ∙ looks.there

    by_place : (whose ≡ c.actor) ⊎ (whose ≢ c.actor) →
        recalls_by whose (ec_in (slice_set (slice_set k.contexts ec (Some (edited (context k ec) (Answers Success None)))) c.actor (Some (record (context k c.actor) { regs = regs }))) whose)
        ≡ recalls_by whose (ec_in (slice_set k.contexts ec (Some (edited (context k ec) (Answers Success None)))) whose)
    by_place (inr ne) =
        ap (recalls_by whose) (entry_other (slice_set k.contexts ec (Some (edited (context k ec) (Answers Success None)))) c.actor whose (record (context k c.actor) { regs = regs }) ne)
    by_place (inl same) =
        ap (λ (n : ℕ). recalls_by whose (ec_in (slice_set (slice_set k.contexts ec (Some (edited (context k ec) (Answers Success None)))) c.actor (Some (record (context k c.actor) { regs = regs }))) n)) same
        ∙ ap (recalls_by whose) (entry_itself (slice_set k.contexts ec (Some (edited (context k ec) (Answers Success None)))) c.actor (record (context k c.actor) { regs = regs }) (subst IsSome (sym answered_at) refl))
        ∙ sym (ap (λ (n : ℕ). recalls_by whose (ec_in (slice_set k.contexts ec (Some (edited (context k ec) (Answers Success None)))) n)) same ∙ ap (recalls_by whose) answered_at)

-- the words with which a reply completes
told_same : (k : KernelState) (p ec item : ℕ) (c : Candidate) (regs : Registers) (store : Option Store) (stirs : Stirs) (o : Option ItemWords) → ec ≢ c.actor →
    ((n : ℕ) (w : List ℕ) → item_words (stepped_by k p c regs store stirs) item o ≡ Some (n, w) → n ≢ c.actor) →
    slice_get (put (stepped_by k p c regs store stirs).messages (item_words (stepped_by k p c regs store stirs) item o)) ec ≡ slice_get (put k.messages (item_words k item o)) ec
told_same k p ec item c regs store stirs None ne far = words_at k c store ec ne
told_same k p ec item c regs store stirs (Some w) ne far =
    ap (λ (o : Option (ℕ × List ℕ)). slice_get (put (stepped_by k p c regs store stirs).messages o) ec) (item_same k p item c regs store stirs (Some w) far)
    ∙ ap (λ (ms : Messages). slice_get ms ec)
    (words_both k.messages c.actor w.ec (store_words (address_space k c.actor) c.actor store) (item_words k item (Some w)) (are_own (address_space k c.actor) c.actor store) (Its _ refl) (far w.ec _ refl))
    ∙ words_stay (put k.messages (item_words k item (Some w))) c.actor ec (store_words (address_space k c.actor) c.actor store) (are_own (address_space k c.actor) c.actor store) ne

pub edits_same : (k : KernelState) (p ec : ℕ) (c : Candidate) (regs : Registers) (store : Option Store) (stirs : Stirs) (d : Deed) → LooksSame k p ec c regs store stirs d →
    ((n : ℕ) (w : List ℕ) → words_by (stepped_by k p c regs store stirs) ec d ≡ Some (n, w) → n ≢ c.actor) → edits_by (stepped_by k p c regs store stirs) ec d ≡ edits_by k ec d
edits_same k p ec c regs store stirs deed.Steps looks far = ap (steps_by ec) (looks.goes refl)
edits_same k p ec c regs store stirs (deed.Recalls whose) looks far = ap (λ (es : Edits). (ec, Answers Success None) ∷ es) (recalls_same k p ec whose c regs store stirs (deed.Recalls whose) looks)
edits_same k p ec c regs store stirs (deed.Finishes item end words sequel) looks far =
    ap (λ (o : Option (Option (List ℕ))). follows_by ec (message_in (entry o)) sequel) (told_same k p ec item c regs store stirs words looks.apart far)
edits_same k p ec c regs store stirs (deed.Replies caller came true) looks far = refl
edits_same k p ec c regs store stirs (deed.Replies caller came false) looks far =
    ap (λ (m : List ℕ). (ec, Parks) ∷ (caller, Resumes came m) ∷ []) (message_at k p c regs store stirs ec looks.apart)
edits_same k p ec c regs store stirs other looks far = refl

-- ALL OF IT

-- with another store, which does the same to memory
abbrev pub with_store : Effect → Option (AddressSpace × Store) → Effect
with_store e store = record e { store = store }

columns_same : (k : KernelState) (p ec : ℕ) (c : Candidate) (regs : Registers) (store : Option Store) (stirs : Stirs) (d : Deed) →
    effect (stepped_by k p c regs store stirs) ec d ≡ record (effect k ec d) {
      edits = edits_by (stepped_by k p c regs store stirs) ec d;
      words = words_by (stepped_by k p c regs store stirs) ec d;
      store = store_by (stepped_by k p c regs store stirs) ec d;
    }
columns_same k p ec c regs store stirs other = refl

pub effect_same : (k : KernelState) (p ec : ℕ) (c : Candidate) (regs : Registers) (store : Option Store) (stirs : Stirs) (d : Deed) → LooksSame k p ec c regs store stirs d →
    ((n : ℕ) (w : List ℕ) → words_by (stepped_by k p c regs store stirs) ec d ≡ Some (n, w) → n ≢ c.actor) →
    effect (stepped_by k p c regs store stirs) ec d ≡ with_store (effect k ec d) (store_by (stepped_by k p c regs store stirs) ec d)
effect_same k p ec c regs store stirs d looks far =
    columns_same k p ec c regs store stirs d
    ∙ ap₂ (λ (es : Edits) (w : Option (ℕ × List ℕ)). record (effect k ec d) { edits = es; words = w; store = store_by (stepped_by k p c regs store stirs) ec d })
    (edits_same k p ec c regs store stirs d looks far) (words_same k p ec c regs store stirs d looks far)

pub stores_same : (k : KernelState) (p ec : ℕ) (c : Candidate) (regs : Registers) (store : Option Store) (stirs : Stirs) (d : Deed) (m : Memory) → LooksSame k p ec c regs store stirs d →
    memory_with m (store_by (stepped_by k p c regs store stirs) ec d) ≡ memory_with m (store_by k ec d)
stores_same k p ec c regs store stirs deed.Steps m looks =
    ap (λ (o : Once). memory_after (address_space (stepped_by k p c regs store stirs) ec) m (store_of o)) (looks.goes refl)
    ∙ same_store (address_space k ec) (address_space (stepped_by k p c regs store stirs) ec) m (store_of (instruction k ec)) (pages_own k p c regs store stirs ec looks.apart)
stores_same k p ec c regs store stirs other m looks = refl

-- what comes by itself
pub passing_same : (k : KernelState) (p : ℕ) (c : Candidate) (regs : Registers) (store : Option Store) (stirs : Stirs) (w : Passing) → passing_effect (stepped_by k p c regs store stirs) w ≡ passing_effect k w
passing_same k p c regs store stirs (Falls (due.Alarm n)) = refl
passing_same k p c regs store stirs (Falls (due.Deadline n)) = refl
passing_same k p c regs store stirs Ticks = refl
