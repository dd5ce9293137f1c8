-- A turn in which a side is given a reply, a part of an item, the end of one, an up or a recall changes no more of its part.
use Rattle.std.proofs.Common.{◌≡◌, ℕ, List, length, refl, sym, ap, ◌∙◌, subst, inl, inr}
use Rattle.std.specs.Prelude.{◌&&◌, Bool, true, false, IsSome, slice_get, option_map, option_and_then, Option, Some, None, if◌then◌else◌}
use Rattle.std.proofs.lemmas.Option.{same_Some}
use Rattle.rv_model.specs.Step.{Store}
use Rattle.nova_objects.specs.declared.object.Object.{Object}
use Rattle.nova_utcb.specs.Messages.{copied}
use Rattle.nova_model.specs.AddressSpaces.{AddressSpace}
use Rattle.nova_model.specs.Creation.{budget_of, context_of, count_of, identifier_of, idle_semaphore, object_of, transfer_of, words_of}
use Rattle.nova_model.specs.Choice.{Candidate, next_to_act}
use Rattle.nova_model.specs.Deeds.{deed}
use Rattle.nova_model.specs.Inputs.{is_stirred}
use Rattle.nova_model.specs.Semaphores.{Semaphores, raised, semaphore_at}
use Rattle.nova_model.specs.State.{Contexts, KernelState, Semaphore, entry, message, no_words}
use Rattle.nova_model.specs.declared.context.Mark.TheVariants as mark
use Rattle.nova_model.specs.declared.deed.Deed.{Deed}
use Rattle.nova_model.specs.declared.deed.Deed.TheVariants as deeds
use Rattle.nova_model.specs.declared.new_object.NewObject.{NewObject}
use Rattle.nova_model.specs.declared.times.Deadline.{Deadline}
use Rattle.nova_model.specs.declared.transfer.Sequel.TheVariants as sequel
use Rattle.nova_model.specs.declared.transfer.Transfer.{Transfer}
use Rattle.law_forest.specs.Effects.{all_edited, branch_by, branched, deadline_by, deadlines_with, edits_by, identifier_by, joined, made_by, memory_with, no_deadline, put, semaphore_by, semaphores_with, stamp_with, store_by, transfer_by, words_by}
use Rattle.law_forest.specs.Turns.{budgets_charged, turned}
use Rattle.law_forest.proofs.Turning.{chosen_turn}
use Rattle.law_turns.proofs.Serving.{actor_of}
use Rattle.law_isolation.specs.Sound.{IsSound}
use Rattle.law_origins.specs.Giving.{Acts}
use Rattle.law_origins.proofs.Actors.{is_able}
use Rattle.law_origins.proofs.Warrants.{deed_warrant}
use Rattle.law_integrity.specs.Confined.{Of}
use Rattle.law_integrity.proofs.Entries.{change_each}
use Rattle.law_flow.specs.Flow.{AreAlike, IsSide, fronts, held_by, ticks_at}
use Rattle.law_flow.proofs.Doing.{by_deed, paid_other, ticks_in}
use Rattle.law_flow.proofs.Keeping.{AreWell, QueueOwn, all_well, raised_own}
use Rattle.law_flow.proofs.Tables.{unjoined}
use Rattle.law_service.specs.Service.{Answer, Begin, Entry, Gift, IsEntered, Item, Part, Recall, Return, Up, bytes_of, concerns, entered, entry_by, entry_in, entry_of, gift_deadline, gift_of, gift_semaphore, if_concerns, if_enters, if_of, is_foreign, is_other, returned}
use Rattle.law_service.proofs.Gifts.{IsGiven, IsGiver, given_is, newest, not_of, other_gives}

-- THE TURN

-- the part's scheduling contexts pay as the entry says
pub paid_so : (k : KernelState) (P : ℕ → Bool) (cpu ec sc : ℕ) (g : Option Gift) (actor : Option ℕ) (n : ℕ) → P n ≡ true → (d : Deed) → made_by d ≡ None → (stirs : ℕ → Bool) →
    ticks_at (turned k cpu (by_deed k ec sc d stirs)) n ≡ ticks_at (entered k (record { gift = g; actor = actor; payer = if_of P sc })) n
paid_so k P cpu ec sc g actor n p d made stirs =
    ap (λ (o : Option NewObject). ticks_in (budgets_charged (joined k.objects (option_map object_of o)) (joined k.budgets (option_map (budget_of k.next_stamp) o)) (stamp_with k.next_stamp o) (Some sc)) n) made
    ∙ by_test (P sc) refl
  where
    by_test : (t : Bool) → P sc ≡ t →
        ticks_in (budgets_charged k.objects k.budgets k.next_stamp (Some sc)) n ≡ ticks_in (budgets_charged k.objects k.budgets k.next_stamp (if t then Some sc else None)) n
    by_test true is = refl
    by_test false is = paid_other k.budgets sc _ _ n (entry (slice_get k.budgets sc)) (λ same. not_of P sc is (subst (λ (m : ℕ). P m ≡ true) same p))

-- such a deed makes nothing and stores nothing, and changes just this semaphore and deadline
record IsPlain (k : KernelState) (ec : ℕ) (g : Gift) (d : Deed) : Type 0 where
  made : made_by d ≡ None
  identifier : identifier_by d ≡ None
  store : store_by k ec d ≡ None
  semaphore : semaphore_by ec d ≡ gift_semaphore (Some g)
  deadline : deadline_by ec d ≡ gift_deadline (Some g)

plain : (S : ℕ → Bool) (k : KernelState) (ec : ℕ) (d : Deed) (g : Gift) → gift_of S k ec d ≡ Some g → IsPlain k ec g d
plain S k ec (deeds.Replies caller mark.Call false) g is =
    subst (λ (g : Gift). IsPlain k ec g (deeds.Replies caller mark.Call false)) (same_Some (Answer ec caller (copied (message k ec) no_words)) g is)
    (record { made = refl; identifier = refl; store = refl; semaphore = refl; deadline = refl })
plain S k ec (deeds.Replies caller mark.Exit false) g is =
    subst (λ (g : Gift). IsPlain k ec g (deeds.Replies caller mark.Exit false)) (same_Some (Return ec caller (returned (message k ec))) g is)
    (record { made = refl; identifier = refl; store = refl; semaphore = refl; deadline = refl })
plain S k ec (deeds.Replies caller mark.Call true) g is =
    subst (λ (g : Gift). IsPlain k ec g (deeds.Replies caller mark.Call true)) (other_gives (is_other S k ec) (Begin ec caller (Some (copied (message k ec) no_words))) g is).1
    (record { made = refl; identifier = refl; store = refl; semaphore = refl; deadline = refl })
plain S k ec (deeds.Replies caller mark.Exit true) g is =
    subst (λ (g : Gift). IsPlain k ec g (deeds.Replies caller mark.Exit true)) (other_gives (is_other S k ec) (Begin ec caller None) g is).1
    (record { made = refl; identifier = refl; store = refl; semaphore = refl; deadline = refl })
plain S k ec (deeds.Gives child cursor) g is =
    subst (λ (g : Gift). IsPlain k ec g (deeds.Gives child cursor)) (other_gives (is_other S k ec && is_foreign S k.delegations.list child) (Part child.pd (held_by child) (bytes_of k.memory.ram (held_by child))) g is).1
    (record { made = refl; identifier = refl; store = refl; semaphore = refl; deadline = refl })
plain S k ec (deeds.Finishes item end (Some told) sequel.Item) g is =
    subst (λ (g : Gift). IsPlain k ec g (deeds.Finishes item end (Some told) sequel.Item)) (other_gives (is_other S k ec) (Item item told None) g is).1
    (record { made = refl; identifier = refl; store = refl; semaphore = refl; deadline = refl })
plain S k ec (deeds.Finishes item end (Some told) (sequel.Replied caller mark.Call)) g is =
    subst (λ (g : Gift). IsPlain k ec g (deeds.Finishes item end (Some told) (sequel.Replied caller mark.Call))) (other_gives (is_other S k ec) (Item item told (Some (ec, caller))) g is).1
    (record { made = refl; identifier = refl; store = refl; semaphore = refl; deadline = refl })
plain S k ec (deeds.Finishes item end None (sequel.Replied caller mark.Exit)) g is =
    subst (λ (g : Gift). IsPlain k ec g (deeds.Finishes item end None (sequel.Replied caller mark.Exit))) (other_gives (is_other S k ec) (Return ec caller (returned (message k ec))) g is).1
    (record { made = refl; identifier = refl; store = refl; semaphore = refl; deadline = refl })
plain S k ec (deeds.Ups sm woken) g is =
    subst (λ (g : Gift). IsPlain k ec g (deeds.Ups sm woken)) (same_Some (Up sm woken) g is)
    (record { made = refl; identifier = refl; store = refl; semaphore = refl; deadline = refl })
plain S k ec (deeds.Recalls whose) g is =
    subst (λ (g : Gift). IsPlain k ec g (deeds.Recalls whose)) (same_Some (Recall whose) g is)
    (record { made = refl; identifier = refl; store = refl; semaphore = refl; deadline = refl })
plain S k ec (deeds.Finishes item end None sequel.Item) g is = absurd (cc)
plain S k ec (deeds.Finishes item end None sequel.Opened) g is = absurd (cc)
plain S k ec (deeds.Finishes item end None sequel.Taken) g is = absurd (cc)
plain S k ec (deeds.Finishes item end None (sequel.Replied caller mark.Call)) g is = absurd (cc)
plain S k ec (deeds.Finishes item end (Some told) sequel.Opened) g is = absurd (cc)
plain S k ec (deeds.Finishes item end (Some told) sequel.Taken) g is = absurd (cc)
plain S k ec (deeds.Finishes item end (Some told) (sequel.Replied caller mark.Exit)) g is = absurd (cc)
plain S k ec other g is = absurd (cc)

module _ (k : KernelState) (S P : ℕ → Bool) (cpu ec sc : ℕ) (d : Deed) (stirs : ℕ → Bool) (g : Gift) (its : IsPlain k ec g d) (given : IsGiven k S P (if_of P ec) ec g d) where
  turn_same : AreAlike (entered k (record { gift = Some g; actor = if_of P ec; payer = if_of P sc })) (turned k cpu (by_deed k ec sc d stirs)) (Of S) (Of P)
  turn_same = record {
    objects = λ n p. ap (λ (l : List Object). slice_get l n) (unjoined k.objects object_of (made_by d) its.made);
    fronts = λ n p. ap (λ (cs : Contexts). slice_get (fronts cs) n) (unjoined (all_edited k.contexts (edits_by k ec d)) (context_of (length k.objects)) (made_by d) its.made) ∙ given.edits.fronts n p;
    contexts = λ n p s. ap (λ (cs : Contexts). slice_get cs n) (unjoined (all_edited k.contexts (edits_by k ec d)) (context_of (length k.objects)) (made_by d) its.made) ∙ given.edits.contexts n (p, s);
    messages = λ n p s. ap (λ (l : List (Option (List ℕ))). slice_get l n) (unjoined (put k.messages (words_by k ec d)) (λ (m : NewObject). words_of (object_of m)) (made_by d) its.made) ∙ given.words n (p, s);
    transfers = λ n p s. ap (λ (l : List (Option Transfer)). slice_get l n) (unjoined (put k.transfers (transfer_by k ec d)) (λ (m : NewObject). transfer_of (object_of m)) (made_by d) its.made) ∙ given.transfers n (p, s);
    identifiers = λ n p. ap (λ (l : List (Option ℕ)). slice_get l n) (unjoined (put k.identifiers (identifier_by d)) identifier_of (made_by d) its.made ∙ ap (put k.identifiers) its.identifier);
    semaphores = λ n p. ap (λ (l : Semaphores). slice_get l n)
        (unjoined (semaphores_with k.semaphores (semaphore_by ec d)) (λ (m : NewObject). option_map idle_semaphore (count_of m)) (made_by d) its.made ∙ ap (semaphores_with k.semaphores) its.semaphore);
    ticks = λ n p. paid_so k P cpu ec sc (Some g) (if_of P ec) n p d its.made stirs;
    deadlines = λ n p. ap (λ (l : List (Option Deadline)). slice_get l n)
        (unjoined (deadlines_with k.times.deadlines (deadline_by ec d)) no_deadline (made_by d) its.made ∙ ap (deadlines_with k.times.deadlines) its.deadline);
    spaces = given.ranges.spaces;
    origins = given.ranges.origins;
    frames = λ pd page to s leads. ap (λ (o : Option (AddressSpace × Store)). slice_get (memory_with k.memory o).ram to.frame) its.store ∙ given.ranges.frames to.frame;
    size = ap (λ (o : Option (AddressSpace × Store)). length (memory_with k.memory o).ram) its.store ∙ given.ranges.size;
  }

  turn_side : IsSide k (Of S) (Of P) → IsSide (turned k cpu (by_deed k ec sc d stirs)) (Of S) (Of P)
  turn_side side = record {
    holds = λ e there s kind. elim (given.ranges.holds e there s kind) [
      | inl old ↦ side.holds e old s kind
      | inr mine ↦ mine
    ];
    handlers = λ n handler mtd ip q is. side.handlers n handler mtd ip q (sym (objects_so n) ∙ is);
    edges = λ n handler q is. (well n q).waits handler is;
    callers = λ n caller came q is. (well n q).serves caller came is;
    queues = λ sm n q is. queue sm q n is;
    blocked = λ n sm q is. (well n q).blocks sm is;
    members = λ n pd on kind event is s. side.members n pd on kind event (sym (objects_so n) ∙ is) s;
  }
    where
      objects_so : (n : ℕ) → slice_get (turned k cpu (by_deed k ec sc d stirs)).objects n ≡ slice_get k.objects n
      objects_so n = ap (λ (l : List Object). slice_get l n) (unjoined k.objects object_of (made_by d) its.made)

      well : AreWell (Of P) (turned k cpu (by_deed k ec sc d stirs)).contexts
      well =
          subst (AreWell (Of P)) (sym (unjoined (all_edited k.contexts (edits_by k ec d)) (context_of (length k.objects)) (made_by d) its.made))
          (all_well (Of P) k.contexts (edits_by k ec d) (λ n q. record { waits = λ h is. side.edges n h q is; serves = λ c m is. side.callers n c m q is; blocks = λ sm is. side.blocked n sm q is }) given.well)

      raises : (g : Gift) (sm : ℕ) (change : Semaphore → Semaphore) (s : Semaphore) → gift_semaphore (Some g) ≡ Some (sm, change) → QueueOwn (Of P) (Some s) → QueueOwn (Of P) (Some (change s))
      raises (Up n woken) sm change s is own =
          subst (λ (f : Semaphore → Semaphore). QueueOwn (Of P) (Some (f s))) (ap (λ (a : ℕ × (Semaphore → Semaphore)). a.1) (same_Some {A = ℕ × (Semaphore → Semaphore)} (n, raised) (sm, change) is))
          (raised_own (Of P) s.count s.waiting own)
      raises (Answer handler caller words) sm change s is own = absurd (cc)
      raises (Return handler caller words) sm change s is own = absurd (cc)
      raises (Recall whose) sm change s is own = absurd (cc)
      raises (Begin handler caller words) sm change s is own = absurd (cc)
      raises (Part domain held bytes) sm change s is own = absurd (cc)
      raises (Item item told replied) sm change s is own = absurd (cc)

      queue : (sm : ℕ) → P sm ≡ true → QueueOwn (Of P) (semaphore_at (turned k cpu (by_deed k ec sc d stirs)).semaphores sm)
      queue sm q =
          subst (λ (all : Semaphores). QueueOwn (Of P) (semaphore_at all sm))
          (sym (unjoined (semaphores_with k.semaphores (semaphore_by ec d)) (λ (m : NewObject). option_map idle_semaphore (count_of m)) (made_by d) its.made ∙ ap (semaphores_with k.semaphores) its.semaphore))
          (change_each (QueueOwn (Of P)) k.semaphores (gift_semaphore (Some g)) sm (λ n is. side.queues sm n q is) (λ change s is there. raises g sm change s is (subst (QueueOwn (Of P)) there (λ n is. side.queues sm n q is))))

-- WHAT IS GIVEN IS ALL THAT ENTERS

pub entry_same : (x e : Entry) (g : Option Gift) (payer : Option ℕ) → if_enters x g payer ≡ Some e → x ≡ e
entry_same x e None None h = absurd (cc)
entry_same x e (Some g) payer h = same_Some x e h
entry_same x e None (Some payer) h = same_Some x e h

pub gives : (k : KernelState) (S P : ℕ → Bool) (cpu : ℕ) (e : Entry) → IsSound k → IsSide k (Of S) (Of P) → entry_in S P k cpu ≡ Some e → IsSome e.gift → IsEntered k (Of S) (Of P) cpu e
gives k S P cpu e sound side is some = by_next (next_to_act k cpu) refl is
  where
    giver : (c : Candidate) → next_to_act k cpu ≡ Some c → IsGiver k S P c.actor (deed k c.actor)
    giver c chosen =
        let acts_ : Acts k cpu c.actor = ap (option_map (λ (d : Candidate). d.actor)) chosen in
        record {
          sound = sound;
          warrant = deed_warrant k c.actor;
          there = (actor_of k.contexts c.actor (is_able k cpu c.actor acts_)).there;
          joins = λ child cursor does. newest k cpu child sound (ap (λ (l : KernelState). l.delegations) (chosen_turn k cpu c chosen) ∙ ap (λ (d : Deed). branched k.delegations (branch_by k c.actor d)) does);
        }

    by_gift : (c : Candidate) → next_to_act k cpu ≡ Some c → (o : Option Gift) → gift_of S k c.actor (deed k c.actor) ≡ o → IsSome (option_and_then (if_concerns S P) o) →
        e ≡ record { gift = option_and_then (if_concerns S P) o; actor = if_of P c.actor; payer = if_of P c.sc } → IsEntered k (Of S) (Of P) cpu e
    by_gift c chosen None at there same = absurd (cc)
    by_gift c chosen (Some g) at there same = by_test (concerns S P g) refl there same
      where
        by_test : (t : Bool) → concerns S P g ≡ t → IsSome (if t then Some g else None) → e ≡ record { gift = if t then Some g else None; actor = if_of P c.actor; payer = if_of P c.sc } → IsEntered k (Of S) (Of P) cpu e
        by_test false of there same = absurd (cc)
        by_test true of there same =
            let d = deed k c.actor in
            let stirs = is_stirred k c.actor (deed k c.actor) in
            let its = plain S k c.actor (deed k c.actor) g at in
            let given = given_is k S P c.actor (deed k c.actor) (giver c chosen) g of at in
            subst (λ (x : Entry). IsEntered k (Of S) (Of P) cpu x) (sym same)
            (record {
              same = subst (λ (l : KernelState). AreAlike (entered k (record { gift = Some g; actor = if_of P c.actor; payer = if_of P c.sc })) l (Of S) (Of P)) (sym (chosen_turn k cpu c chosen))
                  (turn_same k S P cpu c.actor c.sc d stirs g its given);
              side = subst (λ (l : KernelState). IsSide l (Of S) (Of P)) (sym (chosen_turn k cpu c chosen)) (turn_side k S P cpu c.actor c.sc d stirs g its given side);
            })

    by_next : (o : Option Candidate) → next_to_act k cpu ≡ o → option_and_then (entry_by S P k) o ≡ Some e → IsEntered k (Of S) (Of P) cpu e
    by_next None chosen h = absurd (cc)
    by_next (Some c) chosen h =
        let same : entry_of S P k c ≡ e = entry_same (entry_of S P k c) e (entry_of S P k c).gift (entry_of S P k c).payer h in
        by_gift c chosen (gift_of S k c.actor (deed k c.actor)) refl (subst (λ (x : Entry). IsSome x.gift) (sym same) some) (sym same)
