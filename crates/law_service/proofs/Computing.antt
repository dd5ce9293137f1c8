-- A turn in which a server computes enters no more than that it is paid.
use Rattle.std.proofs.Common.{◌≡◌, ℕ, ◌%◌, List, length, refl, sym, ap, ◌∙◌, subst}
use Rattle.std.specs.Prelude.{Bool, true, ◌≢◌, Contains, slice_get, option_map, option_and_then, Option, Some, None}
use Rattle.std.proofs.lemmas.Option.{same_Some}
use Rattle.rv_model.specs.Step.{Once, Raised, Store, Went}
use Rattle.nova_guest.specs.declared.page.Page.{Page}
use Rattle.nova_range.specs.Rights.{write_right}
use Rattle.nova_model.specs.AddressSpaces.{frame_for, stored_at, words_at}
use Rattle.nova_model.specs.Choice.{Candidate, next_to_act}
use Rattle.nova_objects.specs.declared.object.Object.{Object}
use Rattle.nova_model.specs.Creation.{object_of}
use Rattle.nova_model.specs.Deeds.{address_space, deed, instruction}
use Rattle.nova_model.specs.Delegations.{reach}
use Rattle.nova_model.specs.Inputs.{is_stirred, store_of}
use Rattle.nova_model.specs.Memory.{written_in}
use Rattle.nova_model.specs.Runs.{after}
use Rattle.nova_model.specs.State.{KernelState, ec_in, ec_of, pd_of}
use Rattle.nova_model.specs.declared.deed.Deed.{Deed}
use Rattle.nova_model.specs.declared.deed.Deed.TheVariants.{Finishes, Skips, Steps}
use Rattle.nova_model.specs.declared.transfer.ItemEnd.{ItemEnd}
use Rattle.nova_model.specs.declared.transfer.Reason.{Reason}
use Rattle.nova_model.specs.declared.transfer.Sequel.TheVariants as sequel
use Rattle.nova_model.specs.declared.transfer.Transfer.{Transfer}
use Rattle.law_forest.specs.Effects.{Branch, all_edited, branch_by, branched, made_by, memory_with, put, steps_by, store_words, words_stored}
use Rattle.law_forest.specs.Turns.{turned}
use Rattle.law_forest.proofs.Turning.{chosen_turn}
use Rattle.law_turns.proofs.Serving.{actor_of}
use Rattle.law_turns.proofs.Setting.{get_other, set_length}
use Rattle.law_origins.specs.Giving.{Acts}
use Rattle.law_origins.proofs.Actors.{is_able}
use Rattle.law_integrity.specs.Confined.{Of}
use Rattle.law_integrity.specs.Rights.{HasStore, StoresTo}
use Rattle.law_integrity.proofs.Stores.{leads_to}
use Rattle.law_flow.specs.Flow.{AreAlike, Front, IsLeftAlone, IsSide, fronts, own_turn, ticks_at}
use Rattle.law_flow.proofs.Doing.{by_deed}
use Rattle.law_flow.proofs.Guarding.{own_from}
use Rattle.law_flow.proofs.Others.{side_left}
use Rattle.law_flow.proofs.Tables.{fronts_set, unjoined}
use Rattle.law_service.specs.Service.{Entry, Gift, IsServedBy, computes, entered, entry_by, entry_in, entry_of, gift_of, if_concerns, if_enters, if_of}
use Rattle.law_service.proofs.Giving.{paid_so}
use Rattle.law_service.proofs.Gifts.{front_stays}

-- A DEED THAT GIVES NOTHING

pub quiet_leaves : (k : KernelState) (ec : ℕ) (d : Deed) → computes d ≡ true → branch_by k ec d ≡ None
quiet_leaves k ec Steps quiet = refl
quiet_leaves k ec (Skips reason place cursor) quiet = refl
quiet_leaves k ec (Finishes item end words follows) quiet = refl
quiet_leaves k ec other quiet = absurd (cc)

-- A CONTEXT THAT COMPUTES

module _ (k : KernelState) (S P : ℕ → Bool) (ec : ℕ) (there : ec_in k.contexts ec ≡ Some (ec_of k.contexts ec)) (foreign : S (pd_of k ec) ≡ true → ⊥)
    (walled : (pd page : ℕ) (to : Page) (t : Store) → S pd ≡ true → reach k.delegations.list pd page ≡ Some to → StoresTo k ec to.frame t → ⊥) where
  another : (n : ℕ) → S (pd_of k n) ≡ true → n ≢ ec
  another n s = λ same. foreign (subst (λ (m : ℕ). S (pd_of k m) ≡ true) same s)

  fronts_step : (o : Once) (n : ℕ) → slice_get (fronts (all_edited k.contexts (steps_by ec o))) n ≡ slice_get (fronts k.contexts) n
  fronts_step (Raised reason q0 q1) n = refl
  fronts_step (Went regs store) n =
      ap (λ (l : List (Option Front)). slice_get l n) (fronts_set k.contexts ec (record (ec_of k.contexts ec) { regs = regs })) ∙ front_stays k.contexts ec (ec_of k.contexts ec) n there

  contexts_step : (o : Once) (n : ℕ) → S (pd_of k n) ≡ true → slice_get (all_edited k.contexts (steps_by ec o)) n ≡ slice_get k.contexts n
  contexts_step (Raised reason q0 q1) n s = refl
  contexts_step (Went regs store) n s = get_other k.contexts ec n (Some (record (ec_of k.contexts ec) { regs = regs })) (another n s)

  words_step : (o : Option Store) (n : ℕ) → S (pd_of k n) ≡ true → slice_get (put k.messages (store_words (address_space k ec) ec o)) n ≡ slice_get k.messages n
  words_step None n s = refl
  words_step (Some t) n s = by_words (words_at (address_space k ec) t.address)
    where
      by_words : (o : Option (List ℕ)) → slice_get (put k.messages (words_stored ec t o)) n ≡ slice_get k.messages n
      by_words None = refl
      by_words (Some m) = get_other k.messages ec n _ (another n s)

  frames_step : (o : Option Store) → ((t : Store) → o ≡ Some t → HasStore k ec t) → (pd page : ℕ) (to : Page) → S pd ≡ true → reach k.delegations.list pd page ≡ Some to →
      slice_get (memory_with k.memory (option_map (λ (t : Store). (address_space k ec, t)) o)).ram to.frame ≡ slice_get k.memory.ram to.frame
  frames_step None has pd page to s leads = refl
  frames_step (Some t) has pd page to s leads = by_frame (frame_for (address_space k ec) write_right t.address) refl
    where
      by_bytes : (g : ℕ) → to.frame ≢ g → (o : Option (List ℕ)) → slice_get (written_in k.memory o g (t.address % 4096) t.width t.value).ram to.frame ≡ slice_get k.memory.ram to.frame
      by_bytes g other None = refl
      by_bytes g other (Some bytes) = get_other k.memory.ram g to.frame _ other

      reaches : (g : ℕ) → frame_for (address_space k ec) write_right t.address ≡ Some g → StoresTo k ec g t
      reaches g at = record { stores = has t refl; reaches = leads_to k ec write_right t.address g at }

      by_frame : (o : Option ℕ) → frame_for (address_space k ec) write_right t.address ≡ o → slice_get (stored_at k.memory t o).ram to.frame ≡ slice_get k.memory.ram to.frame
      by_frame None at = refl
      by_frame (Some g) at = by_bytes g (λ same. walled pd page to t s leads (subst (λ (f : ℕ). StoresTo k ec f t) (sym same) (reaches g at))) (slice_get k.memory.ram g)

  size_step : (o : Option Store) → length (memory_with k.memory (option_map (λ (t : Store). (address_space k ec, t)) o)).ram ≡ length k.memory.ram
  size_step None = refl
  size_step (Some t) = by_frame (frame_for (address_space k ec) write_right t.address)
    where
      by_bytes : (g : ℕ) (o : Option (List ℕ)) → length (written_in k.memory o g (t.address % 4096) t.width t.value).ram ≡ length k.memory.ram
      by_bytes g None = refl
      by_bytes g (Some bytes) = set_length k.memory.ram g _

      by_frame : (o : Option ℕ) → length (stored_at k.memory t o).ram ≡ length k.memory.ram
      by_frame None = refl
      by_frame (Some g) = by_bytes g (slice_get k.memory.ram g)

  has_store : deed k ec ≡ Steps → (o : Once) → instruction k ec ≡ o → (t : Store) → store_of o ≡ Some t → HasStore k ec t
  has_store steps (Raised reason q0 q1) is t h = absurd (cc)
  has_store steps (Went regs store) is t h = record { steps = steps; regs = regs; store = is ∙ ap (Went regs) h }

  moved_on : (t : Transfer) (n : ℕ) → S (pd_of k n) ≡ true → slice_get (put k.transfers (Some (ec, t))) n ≡ slice_get k.transfers n
  moved_on t n s = get_other k.transfers ec n (Some t) (another n s)

  module _ (cpu sc : ℕ) (stirs : ℕ → Bool) where
    step_same : deed k ec ≡ Steps → (actor payer : Option ℕ) → if_of P sc ≡ payer → AreAlike (entered k (record { gift = None; actor = actor; payer = payer })) (turned k cpu (by_deed k ec sc Steps stirs)) (Of S) (Of P)
    step_same steps actor payer pays = record {
      objects = λ n p. refl;
      fronts = λ n p. fronts_step (instruction k ec) n;
      contexts = λ n p s. contexts_step (instruction k ec) n s;
      messages = λ n p s. words_step (store_of (instruction k ec)) n s;
      transfers = λ n p s. refl;
      identifiers = λ n p. refl;
      semaphores = λ n p. refl;
      ticks = λ n p. paid_so k P cpu ec sc None actor n p Steps refl stirs ∙ ap (λ (o : Option ℕ). ticks_at (entered k (record { gift = None; actor = actor; payer = o })) n) pays;
      deadlines = λ n p. refl;
      spaces = λ kind pd place s. refl;
      origins = λ kind pd place from s t. refl;
      frames = λ pd page to s leads. frames_step (store_of (instruction k ec)) (has_store steps (instruction k ec) refl) pd page to s leads;
      size = size_step (store_of (instruction k ec));
    }

    skip_same : (reason : Reason) (at cursor : ℕ) (actor payer : Option ℕ) → if_of P sc ≡ payer →
        AreAlike (entered k (record { gift = None; actor = actor; payer = payer })) (turned k cpu (by_deed k ec sc (Skips reason at cursor) stirs)) (Of S) (Of P)
    skip_same reason at cursor actor payer pays = record {
      objects = λ n p. refl;
      fronts = λ n p. refl;
      contexts = λ n p s. refl;
      messages = λ n p s. refl;
      transfers = λ n p s. moved_on _ n s;
      identifiers = λ n p. refl;
      semaphores = λ n p. refl;
      ticks = λ n p. paid_so k P cpu ec sc None actor n p (Skips reason at cursor) refl stirs ∙ ap (λ (o : Option ℕ). ticks_at (entered k (record { gift = None; actor = actor; payer = o })) n) pays;
      deadlines = λ n p. refl;
      spaces = λ kind pd place s. refl;
      origins = λ kind pd place from s t. refl;
      frames = λ pd page to s leads. refl;
      size = refl;
    }

    end_same : (item : ℕ) (end : ItemEnd) (actor payer : Option ℕ) → if_of P sc ≡ payer →
        AreAlike (entered k (record { gift = None; actor = actor; payer = payer })) (turned k cpu (by_deed k ec sc (Finishes item end None sequel.Item) stirs)) (Of S) (Of P)
    end_same item end actor payer pays = record {
      objects = λ n p. refl;
      fronts = λ n p. ap (λ (l : List (Option Front)). slice_get l n) (fronts_set k.contexts ec (ec_of k.contexts ec)) ∙ front_stays k.contexts ec (ec_of k.contexts ec) n there;
      contexts = λ n p s. get_other k.contexts ec n (Some (ec_of k.contexts ec)) (another n s);
      messages = λ n p s. refl;
      transfers = λ n p s. moved_on _ n s;
      identifiers = λ n p. refl;
      semaphores = λ n p. refl;
      ticks = λ n p. paid_so k P cpu ec sc None actor n p (Finishes item end None sequel.Item) refl stirs ∙ ap (λ (o : Option ℕ). ticks_at (entered k (record { gift = None; actor = actor; payer = o })) n) pays;
      deadlines = λ n p. refl;
      spaces = λ kind pd place s. refl;
      origins = λ kind pd place from s t. refl;
      frames = λ pd page to s leads. refl;
      size = refl;
    }

    -- whichever of these it does
    quiet_same : (d : Deed) → deed k ec ≡ d → computes d ≡ true → (actor payer : Option ℕ) → if_of P sc ≡ payer → AreAlike (entered k (record { gift = None; actor = actor; payer = payer })) (turned k cpu (by_deed k ec sc d stirs)) (Of S) (Of P)
    quiet_same Steps is quiet actor payer pays = step_same is actor payer pays
    quiet_same (Skips reason at cursor) is quiet actor payer pays = skip_same reason at cursor actor payer pays
    quiet_same (Finishes item end None sequel.Item) is quiet actor payer pays = end_same item end actor payer pays
    quiet_same (Finishes item end None sequel.Opened) is quiet actor payer pays = absurd (cc)
    quiet_same (Finishes item end None sequel.Taken) is quiet actor payer pays = absurd (cc)
    quiet_same (Finishes item end None (sequel.Replied caller came)) is quiet actor payer pays = absurd (cc)
    quiet_same (Finishes item end (Some told) follows) is quiet actor payer pays = absurd (cc)
    quiet_same other is quiet actor payer pays = absurd (cc)

    quiet_made : (d : Deed) → computes d ≡ true → made_by d ≡ None
    quiet_made Steps quiet = refl
    quiet_made (Skips reason at cursor) quiet = refl
    quiet_made (Finishes item end words follows) quiet = refl
    quiet_made other quiet = absurd (cc)

    step_side : (d : Deed) → deed k ec ≡ d → computes d ≡ true → (actor payer : Option ℕ) → if_of P sc ≡ payer → IsSide k (Of S) (Of P) → IsSide (turned k cpu (by_deed k ec sc d stirs)) (Of S) (Of P)
    step_side d is quiet actor payer pays side =
        side_left (entered k (record { gift = None; actor = actor; payer = payer })) (turned k cpu (by_deed k ec sc d stirs)) (Of S) (Of P) (quiet_same d is quiet actor payer pays)
        (record { holds = side.holds; handlers = side.handlers; edges = side.edges; callers = side.callers; queues = side.queues; blocked = side.blocked; members = side.members })
        (λ e here s. subst (λ (o : Option Branch). Contains (branched k.delegations o).list e) (quiet_leaves k ec d quiet) here)
        (λ n pd on kind event at its. side.members n pd on kind event (sym (ap (λ (l : List Object). slice_get l n) (unjoined k.objects object_of (made_by d) (quiet_made d quiet))) ∙ at) its)

-- the same part as with nothing in it
nothing_entered : (k new : KernelState) (S P : ℕ → Type 0) (actor : Option ℕ) → AreAlike (entered k (record { gift = None; actor = actor; payer = None })) new S P → AreAlike k new S P
nothing_entered k new S P actor a = record {
  objects = a.objects;
  fronts = a.fronts;
  contexts = a.contexts;
  messages = a.messages;
  transfers = a.transfers;
  identifiers = a.identifiers;
  semaphores = a.semaphores;
  ticks = a.ticks;
  deadlines = a.deadlines;
  spaces = a.spaces;
  origins = a.origins;
  frames = a.frames;
  size = a.size;
}

pub quiet_gives : (S : ℕ → Bool) (k : KernelState) (ec : ℕ) (d : Deed) → computes d ≡ true → gift_of S k ec d ≡ None
quiet_gives S k ec Steps quiet = refl
quiet_gives S k ec (Skips reason at cursor) quiet = refl
quiet_gives S k ec (Finishes item end None sequel.Item) quiet = refl
quiet_gives S k ec (Finishes item end None sequel.Opened) quiet = absurd (cc)
quiet_gives S k ec (Finishes item end None sequel.Taken) quiet = absurd (cc)
quiet_gives S k ec (Finishes item end None (sequel.Replied caller came)) quiet = absurd (cc)
quiet_gives S k ec (Finishes item end (Some told) follows) quiet = absurd (cc)
quiet_gives S k ec other quiet = absurd (cc)

pub computing : (k : KernelState) (S P : ℕ → Bool) (cpu ec : ℕ) → IsSide k (Of S) (Of P) → own_turn S k cpu ≡ None → Acts k cpu ec → computes (deed k ec) ≡ true →
    ((pd page : ℕ) (to : Page) (t : Store) → S pd ≡ true → reach k.delegations.list pd page ≡ Some to → StoresTo k ec to.frame t → ⊥) → IsServedBy k (Of S) (Of P) cpu (entry_in S P k cpu)
computing k S P cpu ec side none acts_ quiet walled = by_next (next_to_act k cpu) refl acts_
  where
    there : ec_in k.contexts ec ≡ Some (ec_of k.contexts ec)
    there = (actor_of k.contexts ec (is_able k cpu ec acts_)).there

    foreign : S (pd_of k ec) ≡ true → ⊥
    foreign s = own_from S k cpu ec acts_ s none

    new_is : (c : Candidate) → next_to_act k cpu ≡ Some c → c.actor ≡ ec → after k cpu ≡ turned k cpu (by_deed k ec c.sc (deed k ec) (is_stirred k ec (deed k ec)))
    new_is c chosen same = chosen_turn k cpu c chosen ∙ ap (λ (n : ℕ). turned k cpu (by_deed k n c.sc (deed k n) (is_stirred k n (deed k n)))) same

    by_payer : (c : Candidate) → next_to_act k cpu ≡ Some c → c.actor ≡ ec → (o : Option ℕ) → if_of P c.sc ≡ o →
        IsServedBy k (Of S) (Of P) cpu (if_enters (record { gift = None; actor = if_of P ec; payer = o }) None o)
    by_payer c chosen same None pays =
        subst (λ (l : KernelState). AreAlike k l (Of S) (Of P) → IsSide l (Of S) (Of P) → IsLeftAlone k (Of S) (Of P) cpu) (new_is c chosen same)
        (λ alike its. record { same = alike; side = its })
        (nothing_entered k (turned k cpu (by_deed k ec c.sc (deed k ec) (is_stirred k ec (deed k ec)))) (Of S) (Of P) (if_of P ec)
        (quiet_same k S P ec there foreign walled cpu c.sc (is_stirred k ec (deed k ec)) (deed k ec) refl quiet (if_of P ec) None pays))
        (step_side k S P ec there foreign walled cpu c.sc (is_stirred k ec (deed k ec)) (deed k ec) refl quiet (if_of P ec) None pays side)
    by_payer c chosen same (Some sc) pays = record {
      same = subst (λ (l : KernelState). AreAlike (entered k (record { gift = None; actor = if_of P ec; payer = Some sc })) l (Of S) (Of P)) (sym (new_is c chosen same))
          (quiet_same k S P ec there foreign walled cpu c.sc (is_stirred k ec (deed k ec)) (deed k ec) refl quiet (if_of P ec) (Some sc) pays);
      side = subst (λ (l : KernelState). IsSide l (Of S) (Of P)) (sym (new_is c chosen same)) (step_side k S P ec there foreign walled cpu c.sc (is_stirred k ec (deed k ec)) (deed k ec) refl quiet (if_of P ec) (Some sc) pays side);
    }

    entry_for : Candidate → ℕ → Option Gift → Entry
    entry_for c n g = record { gift = option_and_then (if_concerns S P) g; actor = if_of P n; payer = if_of P c.sc }

    entry_is : (c : Candidate) → c.actor ≡ ec → entry_of S P k c ≡ record { gift = None; actor = if_of P ec; payer = if_of P c.sc }
    entry_is c same = ap (λ (n : ℕ). entry_for c n (gift_of S k n (deed k n))) same ∙ ap (entry_for c ec) (quiet_gives S k ec (deed k ec) quiet)

    by_next : (o : Option Candidate) → next_to_act k cpu ≡ o → option_map (λ (c : Candidate). c.actor) o ≡ Some ec → IsServedBy k (Of S) (Of P) cpu (option_and_then (entry_by S P k) o)
    by_next None chosen h = absurd (cc)
    by_next (Some c) chosen h =
        let same : c.actor ≡ ec = same_Some c.actor ec h in
        subst (λ (e : Entry). IsServedBy k (Of S) (Of P) cpu (if_enters e e.gift e.payer)) (sym (entry_is c same)) (by_payer c chosen same (if_of P c.sc) refl)
