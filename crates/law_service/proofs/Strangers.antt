-- A stranger's turn leaves a side's part alone, by what integrity says of it.
use Rattle.std.proofs.Common.{◌≡◌, ◌<◌, ◌⊎◌, ℕ, List, length, refl, sym, ap, ◌∙◌, subst, inl, inr, arith}
use Rattle.std.specs.Prelude.{Bool, true, false, ◌==◌, not, Contains, IsSome, slice_get, option_map, option_and_then, Option, Some, None, if◌then◌else◌}
use Rattle.std.specs.List.{find}
use Rattle.std.proofs.lemmas.Bool.{eqb-true}
use Rattle.std.proofs.lemmas.Option.{same_Some, slice_get_within}
use Rattle.nova_guest.specs.declared.page.Page.{Page}
use Rattle.nova_objects.specs.declared.object.EcKind.{EcKind}
use Rattle.nova_objects.specs.declared.object.Object.{Object}
use Rattle.nova_objects.specs.declared.object.Object.TheVariants.{Pd, Ec, Sc, Pt, Sm}
use Rattle.nova_range.specs.declared.range.Kind.{Kind}
use Rattle.nova_model.specs.Boot.{Scenario, boot}
use Rattle.nova_model.specs.Capabilities.{is_ec, is_pt, is_sc, is_sm}
use Rattle.nova_model.specs.Choice.{Candidate, next_to_act}
use Rattle.nova_model.specs.Delegations.{Delegations, covers, reach}
use Rattle.nova_model.specs.Revokes.{in_scope, scope}
use Rattle.nova_model.specs.Runs.{after, run}
use Rattle.nova_model.specs.Semaphores.{semaphore_at}
use Rattle.nova_model.specs.State.{KernelState, context_at, deadline_of, entry, message, pd_of, transfer_at}
use Rattle.nova_model.specs.declared.budget.Budget.{Budget}
use Rattle.nova_model.specs.declared.delegation.Derivation.{Derivation}
use Rattle.law_forest.specs.Made.{IsMadeIn}
use Rattle.law_forest.proofs.Members.{contains_from_in, filtered_in, in_from_contains}
use Rattle.law_forest.proofs.Pairs.{same_id}
use Rattle.law_forest.proofs.Scopes.{find_more}
use Rattle.law_turns.specs.Revoking.{is_revoking}
use Rattle.law_turns.specs.Asked.{HoldsAt}
use Rattle.law_turns.specs.Tables.{has_words}
use Rattle.law_turns.specs.Words.{words_at}
use Rattle.law_turns.proofs.Setting.{get_joined}
use Rattle.law_turns.proofs.TablesKept.{kinds_at}
use Rattle.law_isolation.specs.Sound.{IsSound}
use Rattle.law_isolation.proofs.Runs.{reached_sound, turn_sound}
use Rattle.law_isolation.proofs.Showing.{turn_frames}
use Rattle.law_origins.specs.Giving.{Acts}
use Rattle.law_origins.proofs.Actors.{object_stays}
use Rattle.law_integrity.specs.Confined.{Of}
use Rattle.law_integrity.specs.Integrity.{Called, Clears, ContextBy, Controls, CopiesCall, CopiesExit, CopiesReply, Creates, DeadlineBy, Downs, ExitSent, FinishesItem, FrameBy, Gives, GivesPart, GrowsByRight, IdentifierBy, IsByRight, Itself, Keeps, MessageBy, NewContext, NewItems, NewPortal, NewSemaphore, NewWords, Recalled, Resumed, SemaphoreBy, Sets, SkipsPart, StoresOwn, Takes, TellsItem, TransferBy, Ups, Woken}
use Rattle.law_integrity.specs.Rights.{CallsAt, ExitsAt, GivesFirst, GivesTo, HasTurn, Names, RepliesWith, TakesOfCaller}
use Rattle.law_integrity.proofs.Authorised.{authorised_by, has_turn}
use Rattle.law_integrity.proofs.Confining.{Child, Newest, Old, Whence, acts_one, whence}
use Rattle.law_forest.proofs.Changes.{reached_change}
use Rattle.law_flow.proofs.Origins.{origins_left}
use Rattle.law_flow.specs.Flow.{AreAlike, IsLeftAlone, IsSide, held_by}
use Rattle.law_flow.proofs.Leaving.{of_another, raw, some_there, table_same}
use Rattle.law_flow.proofs.Sets.{find_less}
use Rattle.law_flow.proofs.Others.{first_waits, side_left, state_of_entry}
use Rattle.law_flow.proofs.Seeing.{fronts_same}
use Rattle.law_turns.proofs.Suited.{there_at as some_entry}
use Rattle.law_service.specs.Service.{Entry, Gift, IsServedBy, IsStrange, IsStranger, entry_by, entry_in, entry_of, if_enters, if_of}
use Rattle.law_service.proofs.Giving.{gives}

-- WHAT IT NAMES

strange_out : (S P : ℕ → Type 0) (n : ℕ) (o : Option Object) → IsStrange S P n o → P n → ⊥
strange_out S P n (Some Pd) strange p = strange.0 p
strange_out S P n (Some (Pt handler mtd ip)) strange p = strange.0 p
strange_out S P n (Some (Ec pd cpu kind event)) strange p = strange p
strange_out S P n (Some (Sc donor cpu priority quantum)) strange p = strange p
strange_out S P n (Some Sm) strange p = strange p
strange_out S P n None strange p = strange p

module _ (s : Scenario) (before : List ℕ) (S P : ℕ → Bool) (cpu ec : ℕ) (side : IsSide (run (boot s) before) (Of S) (Of P)) (there : (n : ℕ) → P n ≡ true → IsSome (slice_get (run (boot s) before).objects n))
    (acts_ : Acts (run (boot s) before) cpu ec) (stranger : IsStranger (run (boot s) before) (Of S) (Of P) cpu ec) where
  abbrev k : KernelState
  k = run (boot s) before

  abbrev new : KernelState
  new = after (run (boot s) before) cpu

  sound : IsSound k
  sound = reached_sound s before

  again : IsSound new
  again = turn_sound k cpu sound

  by : (sc : ℕ) × HasTurn k cpu ec sc × IsByRight k new cpu ec sc
  by = authorised_by s before cpu ec acts_

  held_strange : (selector right n : ℕ) → HoldsAt k (pd_of k ec) selector right n → IsStrange (Of S) (Of P) n (slice_get k.objects n)
  held_strange selector right n h =
      subst (λ (m : ℕ). IsStrange (Of S) (Of P) m (slice_get k.objects m)) h.leads (stranger.holds h.capability h.held.there h.held.holder h.held.kind)

  names_out : (call right n : ℕ) → Names k ec call right n → P n ≡ true → ⊥
  names_out call right n names p = strange_out (Of S) (Of P) n (slice_get k.objects n) (held_strange _ right n names.at) p

  calls_out : (handler : ℕ) → CallsAt k ec handler → P handler ≡ true → ⊥
  calls_out handler c p = (subst (IsStrange (Of S) (Of P) c.portal) c.object (held_strange _ _ c.portal c.held.at)).1 p

  exits_out : (handler : ℕ) → ExitsAt k ec handler → P handler ≡ true → ⊥
  exits_out handler e p = (subst (IsStrange (Of S) (Of P) e.portal) e.object (held_strange _ _ e.portal e.held)).1 p

  itself_out : (n : ℕ) → n ≡ ec → P n ≡ true → ⊥
  itself_out n same p = stranger.itself (subst (λ (m : ℕ). P m ≡ true) same p)

  object : (n : ℕ) → P n ≡ true → (o : Object) × (slice_get k.objects n ≡ Some o)
  object n p = some_there (slice_get k.objects n) (there n p)

  new_out : (n : ℕ) → P n ≡ true → n ≡ length k.objects → ⊥
  new_out n p next = let below = slice_get_within k.objects n (object n p).0 (object n p).1 in omega (arith, below, next)

  receives_out : (giver receiver : ℕ) → GivesTo k ec giver receiver → S receiver ≡ true → ⊥
  receives_out giver receiver (TakesOfCaller caller mark state serves g r) its = stranger.domain (subst (λ (n : ℕ). S n ≡ true) (sym r) its)
  receives_out giver receiver (RepliesWith caller mark state serves g r) its = (stranger.serves caller mark serves).1 (subst (λ (n : ℕ). S n ≡ true) (sym r) its)
  receives_out giver receiver (GivesFirst state g) its = stranger.firsts receiver state its

  -- ENTRIES OF TABLES

  context_so : (n : ℕ) → P n ≡ true → (context_at new n ≡ context_at k n) ⊎ ContextBy k ec n (message new ec) (context_at k n) (context_at new n) → context_at new n ≡ context_at k n
  context_so n p (inl same) = same
  context_so n p (inr (Itself same x y old to own)) = absurd (itself_out n same p)
  context_so n p (inr (Called c x old parked to)) = absurd (calls_out n c p)
  context_so n p (inr (ExitSent e x old parked to)) = absurd (exits_out n e p)
  context_so n p (inr (Resumed mark serves x old waits to)) = absurd ((stranger.serves n mark serves).0 p)
  context_so n p (inr (Recalled names x old to)) = absurd (names_out _ _ n names p)
  context_so n p (inr (Woken sm asks rest waiting x old blocked to)) = absurd (names_out _ _ sm asks.names (side.blocked n sm p (state_of_entry k n sm x old blocked)))
  context_so n p (inr (NewContext next born)) = absurd (new_out n p next.next)

  words_so : (n : ℕ) → P n ≡ true → (words_at new n ≡ words_at k n) ⊎ MessageBy k ec n (words_at new n) → words_at new n ≡ words_at k n
  words_so n p (inl same) = same
  words_so n p (inr (StoresOwn same t stores among to)) = absurd (itself_out n same p)
  words_so n p (inr (CopiesCall c parked to)) = absurd (calls_out n c p)
  words_so n p (inr (CopiesExit e parked to)) = absurd (exits_out n e p)
  words_so n p (inr (CopiesReply serves waits to)) = absurd ((stranger.serves n _ serves).0 p)
  words_so n p (inr (TellsItem (inl same) item end words tells whom to)) = absurd (itself_out n same p)
  words_so n p (inr (TellsItem (inr serves) item end words tells whom to)) = absurd ((stranger.serves n _ serves).0 p)
  words_so n p (inr (NewWords next to)) = absurd (new_out n p next.next)

  transfer_so : (n : ℕ) → P n ≡ true → (transfer_at new n ≡ transfer_at k n) ⊎ TransferBy k ec n (transfer_at new n) → transfer_at new n ≡ transfer_at k n
  transfer_so n p (inl same) = same
  transfer_so n p (inr (GivesPart same child cursor does to)) = absurd (itself_out n same p)
  transfer_so n p (inr (SkipsPart same reason place cursor does to)) = absurd (itself_out n same p)
  transfer_so n p (inr (FinishesItem same item end words follows does to)) = absurd (itself_out n same p)
  transfer_so n p (inr (NewItems next to)) = absurd (new_out n p next.next)

  identifier_so : (n : ℕ) → P n ≡ true → (entry (slice_get new.identifiers n) ≡ entry (slice_get k.identifiers n)) ⊎ IdentifierBy k ec n (entry (slice_get new.identifiers n)) →
      entry (slice_get new.identifiers n) ≡ entry (slice_get k.identifiers n)
  identifier_so n p (inl same) = same
  identifier_so n p (inr (Controls names to)) = absurd (names_out _ _ n names p)
  identifier_so n p (inr (NewPortal next to)) = absurd (new_out n p next.next)

  semaphore_so : (n : ℕ) → P n ≡ true → (semaphore_at new.semaphores n ≡ semaphore_at k.semaphores n) ⊎ SemaphoreBy k ec n (semaphore_at k.semaphores n) (semaphore_at new.semaphores n) →
      semaphore_at new.semaphores n ≡ semaphore_at k.semaphores n
  semaphore_so n p (inl same) = same
  semaphore_so n p (inr (Ups asks x old to)) = absurd (names_out _ _ n asks.names p)
  semaphore_so n p (inr (Downs asks x old to)) = absurd (names_out _ _ n asks.names p)
  semaphore_so n p (inr (NewSemaphore next to)) = absurd (new_out n p next.next)

  deadline_so : (n : ℕ) → P n ≡ true → (deadline_of new.times n ≡ deadline_of k.times n) ⊎ DeadlineBy k ec n (deadline_of new.times n) → deadline_of new.times n ≡ deadline_of k.times n
  deadline_so n p (inl same) = same
  deadline_so n p (inr (Sets same d may own to)) = absurd (itself_out n same p)
  deadline_so n p (inr (Clears sm asks rest waiting to)) = absurd (names_out _ _ sm asks.names (side.blocked n sm p (first_waits k sm n rest sound waiting)))

  frame_so : (pd page : ℕ) (to : Page) → S pd ≡ true → reach k.delegations.list pd page ≡ Some to →
      (slice_get new.memory.ram to.frame ≡ slice_get k.memory.ram to.frame) ⊎ FrameBy k ec to.frame (slice_get k.memory.ram to.frame) (slice_get new.memory.ram to.frame) →
      slice_get new.memory.ram to.frame ≡ slice_get k.memory.ram to.frame
  frame_so pd page to its leads (inl same) = same
  frame_so pd page to its leads (inr by_store) = absurd (stranger.memory pd page to by_store.store its leads by_store.reaches)

  space_so : (kind : Kind) (pd page : ℕ) → S pd ≡ true → GrowsByRight k new ec → find (covers kind pd page) new.delegations.list ≡ find (covers kind pd page) k.delegations.list
  space_so kind pd page its (Keeps objects same) = ap (λ (f : Delegations). find (covers kind pd page) f.list) same
  space_so kind pd page its (Creates made capability first objects is) =
      ap (λ (f : Delegations). find (covers kind pd page) f.list) is
      ∙ find_more (covers kind pd page) k.delegations.list capability
      (of_another kind pd page capability (λ same. stranger.domain (subst (λ (n : ℕ). S n ≡ true) (sym same ∙ first.pd) its)))
  space_so kind pd page its (Gives child source has edge_ within shared given gives_ objects is) =
      ap (λ (f : Delegations). find (covers kind pd page) f.list) is
      ∙ find_more (covers kind pd page) k.delegations.list child
      (of_another kind pd page child (λ same. receives_out source.pd child.pd gives_ (subst (λ (n : ℕ). S n ≡ true) (sym same) its)))
  space_so kind pd page its (Takes leaf may objects is) =
      ap (λ (f : Delegations). find (covers kind pd page) f.list) is
      ∙ find_less (covers kind pd page) (λ (x : Derivation). not (x.id == leaf.id)) k.delegations.list (λ x here out. of_another kind pd page x (λ same.
      let leaf_in = (filtered_in (in_scope (record { pd = pd_of k ec; range = may.range; own = may.own }) k.delegations.list) k.delegations.list leaf
      (in_from_contains (scope (record { pd = pd_of k ec; range = may.range; own = may.own }) k.delegations.list) leaf may.taken)).0 in
      let one : x ≡ leaf = same_id k.delegations.list x leaf sound.forest.rising (in_from_contains k.delegations.list x here) leaf_in (eqb-true x.id leaf.id (unnot (x.id == leaf.id) out)) in
      stranger.lines (ap is_revoking may.revokes) leaf may.ancestor (contains_from_in k.delegations.list leaf leaf_in) (subst (λ (n : ℕ). S n ≡ true) (sym same ∙ ap (λ (y : Derivation). y.pd) one) its) may.above may.held))
    where
      unnot : (t : Bool) → not t ≡ false → t ≡ true
      unnot true h = refl
      unnot false h = absurd (cc)

  stays : (n : ℕ) → P n ≡ true → slice_get new.objects n ≡ slice_get k.objects n
  stays n p = object_stays k cpu n (slice_get_within k.objects n (object n p).0 (object n p).1)

  context_entry : (n : ℕ) → P n ≡ true → slice_get new.contexts n ≡ slice_get k.contexts n
  context_entry n p = raw k.contexts new.contexts n below still (context_so n p (by.2.contexts n))
    where
      below : n < length k.contexts
      below = let within = slice_get_within k.objects n (object n p).0 (object n p).1 in let size = sound.whole.places in omega (arith, within, size)

      still : n < length new.contexts
      still = let within = slice_get_within new.objects n (object n p).0 (stays n p ∙ (object n p).1) in let size = again.whole.places in omega (arith, within, size)

  deadline_entry : (n : ℕ) → P n ≡ true → slice_get new.times.deadlines n ≡ slice_get k.times.deadlines n
  deadline_entry n p = raw k.times.deadlines new.times.deadlines n below still (deadline_so n p (by.2.deadlines n))
    where
      below : n < length k.times.deadlines
      below = let within = slice_get_within k.objects n (object n p).0 (object n p).1 in let size = sound.kept.tables.deadlines in omega (arith, within, size)

      still : n < length new.times.deadlines
      still = let within = slice_get_within new.objects n (object n p).0 (stays n p ∙ (object n p).1) in let size = again.kept.tables.deadlines in omega (arith, within, size)

  budget_entry : (n : ℕ) → P n ≡ true → slice_get new.budgets n ≡ slice_get k.budgets n
  budget_entry n p =
      table_same is_sc k.budgets new.budgets k.objects new.objects n (object n p).0 sound.kept.tables.budgets again.kept.tables.budgets (object n p).1 (stays n p ∙ (object n p).1)
      (λ kind. by.2.budgets.others n (λ same. stranger.payer by.0 by.1.chosen (subst (λ (m : ℕ). P m ≡ true) same p))
      (some_entry (slice_get k.budgets n) (kinds_at is_sc k.budgets k.objects n sound.kept.tables.budgets ∙ ap (option_map is_sc) (object n p).1 ∙ ap (λ (t : Bool). Some t) kind)))

  alike : AreAlike k new (Of S) (Of P)
  alike = record {
    objects = stays;
    fronts = λ n p. fronts_same k.contexts new.contexts n (context_entry n p);
    contexts = λ n p its. context_entry n p;
    messages = λ n p its.
        table_same has_words k.messages new.messages k.objects new.objects n (object n p).0 sound.kept.tables.messages again.kept.tables.messages (object n p).1 (stays n p ∙ (object n p).1)
        (λ kind. words_so n p (by.2.messages n));
    transfers = λ n p its.
        table_same is_ec k.transfers new.transfers k.objects new.objects n (object n p).0 sound.kept.tables.transfers again.kept.tables.transfers (object n p).1 (stays n p ∙ (object n p).1)
        (λ kind. transfer_so n p (by.2.transfers n));
    identifiers = λ n p.
        table_same is_pt k.identifiers new.identifiers k.objects new.objects n (object n p).0 sound.kept.tables.identifiers again.kept.tables.identifiers (object n p).1 (stays n p ∙ (object n p).1)
        (λ kind. identifier_so n p (by.2.identifiers n));
    semaphores = λ n p.
        table_same is_sm k.semaphores new.semaphores k.objects new.objects n (object n p).0 sound.kept.tables.semaphores again.kept.tables.semaphores (object n p).1 (stays n p ∙ (object n p).1)
        (λ kind. semaphore_so n p (by.2.semaphores n));
    ticks = λ n p. ap (λ (o : Option (Option Budget)). option_map (λ (b : Budget). b.ticks) (entry o)) (budget_entry n p);
    deadlines = deadline_entry;
    spaces = λ kind pd page its. ap (option_map held_by) (space_so kind pd page its by.2.grows);
    origins = λ kind pd page from its theirs. origins_left k.delegations new.delegations sound.forest (reached_change s before cpu) kind pd page from (space_so kind pd page its by.2.grows);
    frames = λ pd page to its leads. frame_so pd page to its leads (by.2.frames to.frame);
    size = turn_frames k cpu;
  }

  gains : (d : Derivation) → S d.pd ≡ true → Whence k cpu d → Contains k.delegations.list d
  gains d its (Old here) = here
  gains d its (Newest e acts made first objects) =
      absurd (stranger.domain (subst (λ (n : ℕ). S (pd_of k n) ≡ true) (acts_one k cpu e ec acts acts_) (subst (λ (n : ℕ). S n ≡ true) first.pd its)))
  gains d its (Child e acts source here within gives_) =
      absurd (receives_out source.pd d.pd (subst (λ (n : ℕ). GivesTo k n source.pd d.pd) (acts_one k cpu e ec acts acts_) gives_) its)

  members : (n pd on : ℕ) (kind : EcKind) (event : ℕ) → S pd ≡ true → slice_get new.objects n ≡ Some (Ec pd on kind event) → GrowsByRight k new ec → P n ≡ true
  members n pd on kind event its is (Keeps objects same) = side.members n pd on kind event (sym (ap (λ (os : List Object). slice_get os n) objects) ∙ is) its
  members n pd on kind event its is (Gives child source has edge_ within shared given gives_ objects delegations) =
      side.members n pd on kind event (sym (ap (λ (os : List Object). slice_get os n) objects) ∙ is) its
  members n pd on kind event its is (Takes leaf may objects delegations) = side.members n pd on kind event (sym (ap (λ (os : List Object). slice_get os n) objects) ∙ is) its
  members n pd on kind event its is (Creates made capability first objects delegations) =
      by_place (get_joined k.objects made n (Ec pd on kind event) (sym (ap (λ (os : List Object). slice_get os n) objects) ∙ is))
    where
      by_place : (slice_get k.objects n ≡ Some (Ec pd on kind event)) ⊎ ((n ≡ length k.objects) × (made ≡ Ec pd on kind event)) → P n ≡ true
      by_place (inl old) = side.members n pd on kind event old its
      by_place (inr at) =
          let c = first.creator in
          let place : pd ≡ c.capability.target = subst (IsMadeIn c.capability.target) at.1 first.place in
          let strange = subst (IsStrange (Of S) (Of P) c.capability.target) c.leads (stranger.holds c.capability c.there (c.held ∙ first.pd) c.kind) in
          absurd (strange.1 (subst (λ (m : ℕ). S m ≡ true) place its))

  left : IsLeftAlone k (Of S) (Of P) cpu
  left = record {
    same = alike;
    side = side_left k new (Of S) (Of P) alike side (λ d here its. gains d its (whence k cpu d sound.forest here)) (λ n pd on kind event is its. members n pd on kind event its is by.2.grows);
  }

  -- IT GIVES NOTHING, OR NO MORE THAN ITS ENTRY

  pub strangers : IsServedBy k (Of S) (Of P) cpu (entry_in S P k cpu)
  strangers = by_entry (entry_in S P k cpu) refl
    where
      gift_some : (x : Entry) (g : Option Gift) (p : Option ℕ) (e : Entry) → p ≡ None → if_enters x g p ≡ Some e → (x ≡ e) × IsSome g
      gift_some x (Some g) p e none h = (same_Some x e h, refl)
      gift_some x None None e none h = absurd (cc)
      gift_some x None (Some sc) e none h = absurd (cc)

      unpaid : (c : Candidate) → next_to_act k cpu ≡ Some c → if_of P c.sc ≡ None
      unpaid c chosen = by_test (P c.sc) refl
        where
          by_test : (t : Bool) → P c.sc ≡ t → (if t then Some c.sc else None) ≡ None
          by_test false is = refl
          by_test true is = absurd (stranger.payer c.sc (has_turn k cpu c sound.kept.edges chosen).chosen is)

      by_next : (e : Entry) (o : Option Candidate) → next_to_act k cpu ≡ o → option_and_then (entry_by S P k) o ≡ Some e → IsSome e.gift
      by_next e None chosen h = absurd (cc)
      by_next e (Some c) chosen h =
          let some = gift_some (entry_of S P k c) (entry_of S P k c).gift (entry_of S P k c).payer e (unpaid c chosen) h in
          subst (λ (x : Entry). IsSome x.gift) some.0 some.1

      by_entry : (o : Option Entry) → entry_in S P k cpu ≡ o → IsServedBy k (Of S) (Of P) cpu o
      by_entry None is = left
      by_entry (Some e) is = gives k S P cpu e sound side is (by_next e (next_to_act k cpu) refl is)
