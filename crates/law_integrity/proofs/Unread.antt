-- Turns of two states that differ in the message words of a thread: they differ in no more after.
use Rattle.std.proofs.Common.{◌≡◌, ℕ, zero, suc, List, [], ◌∷◌, ◌++◌, refl, sym, ap, ap₂, ◌∙◌, subst, inl}
use Rattle.std.specs.Prelude.{Bool, true, false, ◌≢◌, slice_get, slice_set, option_map, Option, Some, None}
use mathlib.Core.Path.{fun_ext}
use Rattle.rv_model.specs.Step.{Once, Store}
use Rattle.nova_utcb.specs.Messages.{copied, exited, with_item}
use Rattle.nova_model.specs.AddressSpaces.{AddressSpace}
use Rattle.nova_model.specs.Choice.{Candidate, in_front, next_to_act}
use Rattle.nova_model.specs.Creation.{object_of, words_of}
use Rattle.nova_model.specs.Deeds.{deed}
use Rattle.nova_model.specs.Inputs.{is_stirred, store_of}
use Rattle.nova_model.specs.Runs.{after, run, trace}
use Rattle.nova_model.specs.State.{KernelState, context, entry, message, message_in}
use Rattle.nova_model.specs.Turn.{Step, turn}
use Rattle.nova_model.specs.declared.context.Mark.TheVariants as mark
use Rattle.nova_model.specs.declared.deed.Deed.{Deed}
use Rattle.nova_model.specs.declared.deed.Deed.TheVariants as deeds
use Rattle.nova_model.specs.declared.event.Event.{Event}
use Rattle.nova_model.specs.declared.new_object.NewObject.{NewObject}
use Rattle.nova_model.specs.declared.times.Due.TheVariants as due
use Rattle.nova_model.specs.declared.transfer.ItemWords.{ItemWords}
use Rattle.law_forest.specs.Effects.{Edits, Falls, Parks, Passing, Resumes, Ticks, edits_by, effect, follows_by, item_words, joined, put, steps_by, store_by, store_words, words_by}
use Rattle.law_forest.specs.Turns.{Turning, acting, passing, passing_event, turned}
use Rattle.law_turns.proofs.Setting.{get_other}
use Rattle.law_origins.specs.Giving.{Acts}
use Rattle.law_forest.proofs.Turning.{event_at as event_in}
use Rattle.law_integrity.specs.Disclosure.{DifferInWords, GivesItems, AreWordsUnread, AreWordsUnreadAlong, ItsOwn, ReadsWords, TakesItems, with_words, words_set}
use Rattle.law_integrity.proofs.Beside.{ChooseSame, both_after, both_events}
use Rattle.law_integrity.proofs.Masking.{ReadsSame, Words, choice_same, over, same_table, words_in}
use Rattle.law_integrity.proofs.Telling.{stirs_same}
use Rattle.law_integrity.proofs.Untold.{LooksSame, address_same, deed_looks, deed_same}

-- TABLES AFTER A CHANGE

-- one table is the other with words set
pub record AreSetWords (ms ns : Words) (m : ℕ) : Type 0 where
  pub words : List ℕ
  pub same : ns ≡ words_set ms m words

put_set : (F : List ℕ → List ℕ) (ms : Words) (n m : ℕ) (ws : List ℕ) →
    AreSetWords (slice_set ms n (Some (F (words_in ms n)))) (slice_set (words_set ms m ws) n (Some (F (words_in (words_set ms m ws) n)))) m
put_set F [] n m ws = record { words = ws; same = refl }
put_set F (o ∷ ms) zero zero ws = record { words = F (message_in (option_map (λ (old : List ℕ). ws) o)); same = refl }
put_set F (o ∷ ms) zero (suc m) ws = record { words = ws; same = refl }
put_set F (o ∷ ms) (suc n) zero ws = record { words = ws; same = refl }
put_set F (o ∷ ms) (suc n) (suc m) ws = let rest = put_set F ms n m ws in record { words = rest.words; same = ap (λ (l : Words). o ∷ l) rest.same }

given_set : (ms : Words) (m : ℕ) (ws : List ℕ) (p : Option (ℕ × List ℕ)) → AreSetWords (put ms p) (put (words_set ms m ws) p) m
given_set ms m ws None = record { words = ws; same = refl }
given_set ms m ws (Some (n, v)) = put_set (λ old. v) ms n m ws

more_set : (ms : Words) (m : ℕ) (ws : List ℕ) (o : Option (List ℕ)) → AreSetWords (ms ++ o ∷ []) (words_set ms m ws ++ o ∷ []) m
more_set [] zero ws None = record { words = ws; same = refl }
more_set [] zero ws (Some v) = record { words = v; same = refl }
more_set [] (suc m) ws o = record { words = ws; same = refl }
more_set (x ∷ ms) zero ws o = record { words = ws; same = refl }
more_set (x ∷ ms) (suc m) ws o = let rest = more_set ms m ws o in record { words = rest.words; same = ap (λ (l : Words). x ∷ l) rest.same }

joined_set : (ms : Words) (m : ℕ) (ws : List ℕ) (o : Option (Option (List ℕ))) → AreSetWords (joined ms o) (joined (words_set ms m ws) o) m
joined_set ms m ws None = record { words = ws; same = refl }
joined_set ms m ws (Some o) = more_set ms m ws o

-- those of another stay
words_other : (ms : Words) (m n : ℕ) (ws : List ℕ) → n ≢ m → words_in (words_set ms m ws) n ≡ words_in ms n
words_other ms m n ws other = ap (λ (o : Option (Option (List ℕ))). message_in (entry o)) (get_other ms m n (option_map (λ (old : List ℕ). ws) (entry (slice_get ms m))) other)

-- A CONTEXT THAT DOESN'T READ THEM

pub reads_same : (k : KernelState) (ec m : ℕ) (ws : List ℕ) → (ReadsWords k ec m → ⊥) → ReadsSame k (words_set k.messages m ws) ec
reads_same k ec m ws unread = record {
  own = words_other k.messages m ec ws (λ same. unread (ItsOwn same));
  taken = λ is caller came serves. words_other k.messages m caller ws (λ same. unread (TakesItems is came (serves ∙ ap (λ (n : ℕ). Some (n, came)) same)));
  given = λ is caller came serves. words_other k.messages m caller ws (λ same. unread (GivesItems is came (serves ∙ ap (λ (n : ℕ). Some (n, came)) same)));
}

-- WHAT A DEED DOES

abbrev other_words : KernelState → ℕ → List ℕ → KernelState
other_words k m ws = over k k.contexts (words_set k.messages m ws)

item_set : (k : KernelState) (m item : ℕ) (ws : List ℕ) (o : Option ItemWords) →
    AreSetWords (put k.messages (item_words k item o)) (put (words_set k.messages m ws) (item_words (other_words k m ws) item o)) m
item_set k m item ws None = record { words = ws; same = refl }
item_set k m item ws (Some w) = put_set (λ old. with_item old item w.first w.second) k.messages w.ec m ws

copied_set : (k : KernelState) (ec to m : ℕ) (ws : List ℕ) → words_in (words_set k.messages m ws) ec ≡ message k ec →
    AreSetWords (slice_set k.messages to (Some (copied (message k ec) (message k to))))
    (slice_set (words_set k.messages m ws) to (Some (copied (words_in (words_set k.messages m ws) ec) (words_in (words_set k.messages m ws) to)))) m
copied_set k ec to m ws own =
    let set = put_set (copied (message k ec)) k.messages to m ws in record {
      words = set.words;
      same = ap (λ (from : List ℕ). slice_set (words_set k.messages m ws) to (Some (copied from (words_in (words_set k.messages m ws) to)))) own ∙ set.same;
    }

words_by_set : (k : KernelState) (ec m : ℕ) (ws : List ℕ) → words_in (words_set k.messages m ws) ec ≡ message k ec → (d : Deed) → LooksSame k k.contexts (words_set k.messages m ws) ec d →
    AreSetWords (put k.messages (words_by k ec d)) (put (words_set k.messages m ws) (words_by (other_words k m ws) ec d)) m
words_by_set k ec m ws own deeds.Steps looks =
    let set = given_set k.messages m ws (words_by k ec deeds.Steps) in record {
      words = set.words;
      same = ap₂ (λ (a : AddressSpace) (o : Once). put (words_set k.messages m ws) (store_words a ec (store_of o))) (address_same k k.contexts (words_set k.messages m ws) ec own) looks ∙ set.same;
    }
words_by_set k ec m ws own (deeds.Calls handler ip number items) looks = copied_set k ec handler m ws own
words_by_set k ec m ws own (deeds.Sends handler ip number mtd reason q0 q1) looks = put_set (exited mtd q0 q1 (context k ec).regs) k.messages handler m ws
words_by_set k ec m ws own (deeds.Replies caller mark.Call items) looks = copied_set k ec caller m ws own
words_by_set k ec m ws own (deeds.Finishes item end words after) looks = item_set k m item ws words
words_by_set k ec m ws own other looks = record { words = ws; same = refl }

edits_same : (k : KernelState) (ec m : ℕ) (ws : List ℕ) → ec ≢ m → words_in (words_set k.messages m ws) ec ≡ message k ec → (d : Deed) → LooksSame k k.contexts (words_set k.messages m ws) ec d →
    edits_by (other_words k m ws) ec d ≡ edits_by k ec d
edits_same k ec m ws apart own deeds.Steps looks = ap (steps_by ec) looks
edits_same k ec m ws apart own (deeds.Replies caller came true) looks = refl
edits_same k ec m ws apart own (deeds.Replies caller came false) looks = ap (λ (w : List ℕ). (ec, Parks) ∷ (caller, Resumes came w) ∷ []) own
edits_same k ec m ws apart own (deeds.Finishes item end words after) looks =
    let set = item_set k m item ws words in
    ap (λ (w : List ℕ). follows_by ec w after) (ap (λ (l : Words). words_in l ec) set.same ∙ words_other (put k.messages (item_words k item words)) m ec set.words apart)
edits_same k ec m ws apart own other looks = refl

stores_same : (k : KernelState) (ms : Words) (ec : ℕ) → words_in ms ec ≡ message k ec → (d : Deed) → LooksSame k k.contexts ms ec d → store_by (over k k.contexts ms) ec d ≡ store_by k ec d
stores_same k ms ec own deeds.Steps looks =
    ap₂ (λ (a : AddressSpace) (o : Once). option_map (λ (s : Store). (a, s)) (store_of o)) (address_same k k.contexts ms ec own) looks
stores_same k ms ec own other looks = refl

-- A TURN

turned_differ : (k : KernelState) (cpu m : ℕ) (ws : List ℕ) (t u : Turning) → u ≡ record t { effect = record t.effect { words = u.effect.words } } →
    AreSetWords (put k.messages t.effect.words) (put (words_set k.messages m ws) u.effect.words) m → DifferInWords (turned k cpu t) (turned (with_words k m ws) cpu u) m
turned_differ k cpu m ws t u but_words set =
    let more = joined_set (put k.messages t.effect.words) m set.words born in record {
      words = more.words;
      rest = ap (turned (with_words k m ws) cpu) but_words ∙ ap (λ (ms : Words). record (turned k cpu t) { messages = ms }) (ap (λ (l : Words). joined l born) set.same ∙ more.same);
    }
  where
    born : Option (Option (List ℕ))
    born = option_map (λ (o : NewObject). words_of (object_of o)) t.effect.made

acting_same : (k : KernelState) (m : ℕ) (ws : List ℕ) (c : Candidate) → (ReadsWords k c.actor m → ⊥) →
    acting (with_words k m ws) c ≡ record (acting k c) { effect = record (effect k c.actor (deed k c.actor)) { words = words_by (other_words k m ws) c.actor (deed k c.actor) } }
acting_same k m ws c unread =
    ap (λ (d : Deed). record { effect = effect other ec d; stirs = is_stirred other ec d; charge = Some c.sc }) (deed_same k k.contexts ms (same_table k.contexts) ec reads (inl refl))
    ∙ ap (λ (es : Edits). record { effect = record (effect other ec d) { edits = es }; stirs = is_stirred other ec d; charge = Some c.sc })
    (edits_same k ec m ws (λ same. unread (ItsOwn same)) reads.own d looks)
    ∙ ap₂ (λ (s : Option (AddressSpace × Store)) (is : ℕ → Bool). record { effect = record (effect other ec d) { edits = edits_by k ec d; store = s }; stirs = is; charge = Some c.sc })
    (stores_same k ms ec reads.own d looks) (fun_ext (stirs_same k k.contexts ms ec d reads.own looks))
  where
    ec : ℕ
    ec = c.actor

    d : Deed
    d = deed k c.actor

    ms : Words
    ms = words_set k.messages m ws

    other : KernelState
    other = other_words k m ws

    reads : ReadsSame k ms ec
    reads = reads_same k ec m ws unread

    looks : LooksSame k k.contexts ms ec d
    looks = deed_looks k k.contexts ms ec reads.own (inl refl)

chosen_differ : (k : KernelState) (cpu m : ℕ) (ws : List ℕ) (c : Candidate) → (ReadsWords k c.actor m → ⊥) → DifferInWords (turned k cpu (acting k c)) (turned (with_words k m ws) cpu (acting (with_words k m ws) c)) m
chosen_differ k cpu m ws c unread =
    let ms = words_set k.messages m ws in
    let reads = reads_same k c.actor m ws unread in
    let same = acting_same k m ws c unread in
    let words : (acting (with_words k m ws) c).effect.words ≡ words_by (other_words k m ws) c.actor (deed k c.actor) = ap (λ (t : Turning). t.effect.words) same in
    let set = words_by_set k c.actor m ws reads.own (deed k c.actor) (deed_looks k k.contexts ms c.actor reads.own (inl refl)) in
    turned_differ k cpu m ws (acting k c) (acting (with_words k m ws) c)
    (same ∙ ap (λ (w : Option (ℕ × List ℕ)). record (acting k c) { effect = record (acting k c).effect { words = w } }) (sym words))
    (record { words = set.words; same = ap (put ms) words ∙ set.same })

passing_differ : (k : KernelState) (cpu m : ℕ) (ws : List ℕ) (p : Passing) → DifferInWords (turned k cpu (passing k p)) (turned (with_words k m ws) cpu (passing (with_words k m ws) p)) m
passing_differ k cpu m ws (Falls (due.Alarm alarm)) = record { words = ws; rest = refl }
passing_differ k cpu m ws (Falls (due.Deadline ec)) = record { words = ws; rest = refl }
passing_differ k cpu m ws Ticks = record { words = ws; rest = refl }

passing_told : (k : KernelState) (cpu m : ℕ) (ws : List ℕ) (p : Passing) → passing_event (with_words k m ws) cpu p ≡ passing_event k cpu p
passing_told k cpu m ws (Falls (due.Alarm alarm)) = refl
passing_told k cpu m ws (Falls (due.Deadline ec)) = refl
passing_told k cpu m ws Ticks = refl

set_chooses : (k : KernelState) (cpu m : ℕ) (ws : List ℕ) → ChooseSame k (with_words k m ws) cpu
set_chooses k cpu m ws = record { times = refl; chosen = choice_same k k.contexts (words_set k.messages m ws) (same_table k.contexts) cpu }

acts_of : (k : KernelState) (cpu : ℕ) (c : Candidate) → next_to_act k cpu ≡ Some c → Acts k cpu c.actor
acts_of k cpu c is = ap (option_map (λ (c : Candidate). c.actor)) is

pub turn_differ : (k l : KernelState) (cpu m : ℕ) → DifferInWords k l m → AreWordsUnread k cpu m → DifferInWords (after k cpu) (after l cpu) m
turn_differ k l cpu m differ unread =
    subst (λ (s : KernelState). DifferInWords (after k cpu) (after s cpu) m) (sym differ.rest)
    (both_after (λ (a b : KernelState). DifferInWords a b m) k (with_words k m differ.words) cpu (set_chooses k cpu m differ.words) (record { words = differ.words; rest = refl })
    (passing_differ k cpu m differ.words) (λ c is. chosen_differ k cpu m differ.words c (unread c.actor (acts_of k cpu c is))))

pub event_same : (k l : KernelState) (cpu m : ℕ) → DifferInWords k l m → AreWordsUnread k cpu m →
    option_map (λ (s : Step). s.event) (turn l cpu) ≡ option_map (λ (s : Step). s.event) (turn k cpu)
event_same k l cpu m differ unread =
    subst (λ (s : KernelState). event_in s cpu ≡ event_in k cpu) (sym differ.rest)
    (both_events k (with_words k m differ.words) cpu (set_chooses k cpu m differ.words) (passing_told k cpu m differ.words)
    (λ c is. deed_same k k.contexts (words_set k.messages m differ.words) (same_table k.contexts) c.actor
    (reads_same k c.actor m differ.words (unread c.actor (acts_of k cpu c is))) (inl refl)))

-- TURNS ONE AFTER ANOTHER

pub turns_differ : (k l : KernelState) (turns : List ℕ) (m : ℕ) → DifferInWords k l m → AreWordsUnreadAlong k turns m → DifferInWords (run k turns) (run l turns) m
turns_differ k l [] m differ unread = differ
turns_differ k l (cpu ∷ turns) m differ unread = turns_differ (after k cpu) (after l cpu) turns m (turn_differ k l cpu m differ unread.0) unread.1

pub trace_same : (k l : KernelState) (turns : List ℕ) (m : ℕ) → DifferInWords k l m → AreWordsUnreadAlong k turns m → trace l turns ≡ trace k turns
trace_same k l [] m differ unread = refl
trace_same k l (cpu ∷ turns) m differ unread =
    ap₂ (λ (e : Option Event) (es : List Event). in_front e es) (event_same k l cpu m differ unread.0)
    (trace_same (after k cpu) (after l cpu) turns m (turn_differ k l cpu m differ unread.0) unread.1)
