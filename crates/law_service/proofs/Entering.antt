-- The same entry in two states whose part is the same.
use Rattle.std.proofs.Common.{◌≡◌, ℕ, List, [], ◌∷◌, ◌++◌, length, refl, sym, ap, ◌∙◌}
use Rattle.std.specs.Prelude.{slice_get, option_map, Option, Some, None}
use Rattle.std.specs.List.{find}
use Rattle.nova_guest.specs.declared.page.Page.{Page}
use Rattle.nova_range.specs.declared.range.Kind.{Kind}
use Rattle.nova_utcb.specs.Messages.{copied, with_item}
use Rattle.nova_model.specs.Delegations.{covers, derived, reach}
use Rattle.nova_model.specs.declared.delegation.Derivation.{Derivation}
use Rattle.nova_model.specs.State.{KernelState, entry, message, message_in}
use Rattle.law_forest.specs.Effects.{branched, put}
use Rattle.law_forest.specs.Turns.{budgets_charged}
use Rattle.law_flow.specs.Flow.{AreAlike, Held, held_by, origin_of}
use Rattle.law_flow.proofs.Doing.{Shown, paid_same, ticks_in}
use Rattle.law_flow.proofs.Giving.{spaces_joined}
use Rattle.law_flow.proofs.Holds.{IsTwin}
use Rattle.law_flow.proofs.Tables.{AreSame, change_same, deadlines_same, edits_alike, fronts_alike, set_same}
use Rattle.law_flow.proofs.Turns.{alike_flipped, alike_through}
use Rattle.law_service.specs.Service.{Answer, Begin, Entry, Gift, IsEntered, Item, Part, Recall, Return, Up, entered, gift_branch, gift_deadline, gift_edits, gift_memory, gift_semaphore, gift_words, past_parents}
use Rattle.law_service.proofs.Ranges.{joined_origins, laid_length, laid_same, past_childless, root_origin}
use Rattle.nova_model.specs.Runs.{after}

words_same : (k l : KernelState) (S P : ℕ → Type 0) → AreAlike k l S P → (g : Option Gift) → AreSame (Shown k S P) (put k.messages (gift_words k g)) (put l.messages (gift_words l g))
words_same k l S P a (Some (Answer handler caller words)) =
    set_same (Shown k S P) k.messages l.messages caller (Some (copied words (message k caller))) (Some (copied words (message l caller))) (λ n q. a.messages n q.0 q.1)
    (λ q. ap (λ (o : Option (Option (List ℕ))). Some (copied words (message_in (entry o)))) (a.messages caller q.0 q.1))
words_same k l S P a (Some (Return handler caller words)) = λ n q. a.messages n q.0 q.1
words_same k l S P a (Some (Begin handler caller None)) = λ n q. a.messages n q.0 q.1
words_same k l S P a (Some (Begin handler caller (Some words))) =
    set_same (Shown k S P) k.messages l.messages caller (Some (copied words (message k caller))) (Some (copied words (message l caller))) (λ n q. a.messages n q.0 q.1)
    (λ q. ap (λ (o : Option (Option (List ℕ))). Some (copied words (message_in (entry o)))) (a.messages caller q.0 q.1))
words_same k l S P a (Some (Part domain held bytes)) = λ n q. a.messages n q.0 q.1
words_same k l S P a (Some (Item item told replied)) =
    set_same (Shown k S P) k.messages l.messages told.ec (Some (with_item (message k told.ec) item told.first told.second)) (Some (with_item (message l told.ec) item told.first told.second)) (λ n q. a.messages n q.0 q.1)
    (λ q. ap (λ (o : Option (Option (List ℕ))). Some (with_item (message_in (entry o)) item told.first told.second)) (a.messages told.ec q.0 q.1))
words_same k l S P a (Some (Up sm woken)) = λ n q. a.messages n q.0 q.1
words_same k l S P a (Some (Recall whose)) = λ n q. a.messages n q.0 q.1
words_same k l S P a None = λ n q. a.messages n q.0 q.1

-- THE RANGES

-- what is held, of what it comes, and the bytes of the frames to which pages lead
record AreRangesAlike (k l : KernelState) (S : ℕ → Type 0) (g : Option Gift) : Type 0 where
  spaces : (kind : Kind) (pd place : ℕ) → S pd →
      ◌≡◌ {A = Option Held} (option_map held_by (find (covers kind pd place) (branched l.delegations (gift_branch l.delegations.list g)).list)) (option_map held_by (find (covers kind pd place) (branched k.delegations (gift_branch k.delegations.list g)).list))
  origins : (kind : Kind) (pd place from : ℕ) → S pd → S from →
      origin_of (branched l.delegations (gift_branch l.delegations.list g)).list from (find (covers kind pd place) (branched l.delegations (gift_branch l.delegations.list g)).list)
      ≡ origin_of (branched k.delegations (gift_branch k.delegations.list g)).list from (find (covers kind pd place) (branched k.delegations (gift_branch k.delegations.list g)).list)
  frames : (pd page : ℕ) (to : Page) → S pd → reach (branched k.delegations (gift_branch k.delegations.list g)).list pd page ≡ Some to →
      slice_get (gift_memory l.memory g).ram to.frame ≡ slice_get (gift_memory k.memory g).ram to.frame
  size : length (gift_memory l.memory g).ram ≡ length (gift_memory k.memory g).ram

as_before : (k l : KernelState) (S P : ℕ → Type 0) → AreAlike k l S P → AreRangesAlike k l S None
as_before k l S P a = record { spaces = a.spaces; origins = a.origins; frames = a.frames; size = a.size }

ranges_alike : (k l : KernelState) (S P : ℕ → Type 0) → AreAlike k l S P → (g : Option Gift) → AreRangesAlike k l S g
ranges_alike k l S P a (Some (Part domain held bytes)) =
    let x : Derivation = derived (past_parents k.delegations.list) None domain held.range held.rights held.target in
    let y : Derivation = derived (past_parents l.delegations.list) None domain held.range held.rights held.target in
    let twins : IsTwin x y = record { pd = refl; held = refl } in
    record {
      spaces = λ kind pd place s. spaces_joined kind pd place k.delegations.list l.delegations.list x y twins (a.spaces kind pd place s);
      origins = λ kind pd place from s t.
          joined_origins k.delegations.list l.delegations.list x y (past_childless k.delegations.list) (past_childless l.delegations.list) twins kind pd place from (a.spaces kind pd place s) (a.origins kind pd place from s t)
          (root_origin (l.delegations.list ++ y ∷ []) y from refl ∙ sym (root_origin (k.delegations.list ++ x ∷ []) x from refl));
      frames = λ pd page to s leads. laid_same k.delegations.list x bytes k.memory.ram l.memory.ram a.size pd page to (λ h. a.frames pd page to s h) leads;
      size = laid_length held bytes 0 l.memory.ram ∙ a.size ∙ sym (laid_length held bytes 0 k.memory.ram);
    }
ranges_alike k l S P a (Some (Answer handler caller words)) = let b = as_before k l S P a in record { spaces = b.spaces; origins = b.origins; frames = b.frames; size = b.size }
ranges_alike k l S P a (Some (Return handler caller words)) = let b = as_before k l S P a in record { spaces = b.spaces; origins = b.origins; frames = b.frames; size = b.size }
ranges_alike k l S P a (Some (Begin handler caller words)) = let b = as_before k l S P a in record { spaces = b.spaces; origins = b.origins; frames = b.frames; size = b.size }
ranges_alike k l S P a (Some (Item item told replied)) = let b = as_before k l S P a in record { spaces = b.spaces; origins = b.origins; frames = b.frames; size = b.size }
ranges_alike k l S P a (Some (Up sm woken)) = let b = as_before k l S P a in record { spaces = b.spaces; origins = b.origins; frames = b.frames; size = b.size }
ranges_alike k l S P a (Some (Recall whose)) = let b = as_before k l S P a in record { spaces = b.spaces; origins = b.origins; frames = b.frames; size = b.size }
ranges_alike k l S P a None = as_before k l S P a

pub entered_alike : (k l : KernelState) (S P : ℕ → Type 0) (e : Entry) → AreAlike k l S P → AreAlike (entered k e) (entered l e) S P
entered_alike k l S P e a = record {
  objects = a.objects;
  fronts = fronts_alike P k.contexts l.contexts (gift_edits e.actor e.gift) a.fronts;
  contexts = λ n p s. edits_alike (Shown k S P) k.contexts l.contexts (gift_edits e.actor e.gift) (λ m q. a.contexts m q.0 q.1) n (p, s);
  messages = λ n p s. words_same k l S P a e.gift n (p, s);
  transfers = a.transfers;
  identifiers = a.identifiers;
  semaphores = change_same P k.semaphores l.semaphores (gift_semaphore e.gift) a.semaphores;
  ticks = paid e.payer;
  deadlines = deadlines_same P k.times.deadlines l.times.deadlines (gift_deadline e.gift) a.deadlines;
  spaces = (ranges_alike k l S P a e.gift).spaces;
  origins = (ranges_alike k l S P a e.gift).origins;
  frames = (ranges_alike k l S P a e.gift).frames;
  size = (ranges_alike k l S P a e.gift).size;
}
  where
    paid : (o : Option ℕ) (n : ℕ) → P n → ticks_in (budgets_charged l.objects l.budgets l.next_stamp o) n ≡ ticks_in (budgets_charged k.objects k.budgets k.next_stamp o) n
    paid None n p = a.ticks n p
    paid (Some sc) n p = paid_same P k.budgets l.budgets sc _ _ _ _ a.ticks n p

pub turns_alike : (k l : KernelState) (S P : ℕ → Type 0) (cpu other : ℕ) (e : Entry) → AreAlike k l S P → IsEntered k S P cpu e → IsEntered l S P other e → AreAlike (after k cpu) (after l other) S P
turns_alike k l S P cpu other e a first second =
    alike_through (after k cpu) (entered k e) (after l other) S P (alike_flipped (entered k e) (after k cpu) S P first.same)
    (alike_through (entered k e) (entered l e) (after l other) S P (entered_alike k l S P e a) second.same)
