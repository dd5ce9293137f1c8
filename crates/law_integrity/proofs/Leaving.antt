-- What a turn of one closed set leaves of the other.
use Rattle.std.proofs.Common.{◌/◌, ◌%◌, ◌≡◌, ℕ, ◌<◌, ◌⊎◌, zero, suc, List, [], ◌∷◌, ◌++◌, length, refl, sym, ap, ◌∙◌, subst, inl, inr, arith}
use Rattle.std.specs.Prelude.{Bool, ◌||◌, true, false, not, ◌==◌, eqb, filter, Contains, IfSome, IsSome, slice_get, Option, Some, None, option_and_then, option_map}
use Rattle.std.proofs.lemmas.Option.{same_Some, slice_get_within}
use Rattle.nova_calls.specs.declared.numbers.TheConstants.{EC_CTRL, PT_CTRL, SM_CTRL}
use Rattle.nova_objects.specs.declared.object.Object.{Object}
use Rattle.nova_objects.specs.declared.object.Object.TheVariants.{Ec, Sc, Pt}
use Rattle.nova_range.specs.Rights.{write_right}
use Rattle.nova_model.specs.Boot.{Scenario, boot}
use Rattle.nova_model.specs.Capabilities.{control_right, down_right, up_right}
use Rattle.nova_model.specs.Edges.{after_edges, edge}
use Rattle.nova_model.specs.Semaphores.{has, semaphore, semaphore_at}
use Rattle.nova_model.specs.Runs.{after, run}
use Rattle.nova_model.specs.State.{KernelState, budget_at, context, context_at, context_in, deadline_of, entry, message, pd_of, transfer_at}
use Rattle.nova_model.specs.declared.context.EcState.{EcState}
use Rattle.nova_model.specs.declared.context.State.{State}
use Rattle.nova_model.specs.declared.context.State.TheVariants.{Blocked, Dead, Parked}
use Rattle.nova_model.specs.declared.delegation.Derivation.{Derivation}
use Rattle.law_isolation.specs.Sound.{IsSound}
use Rattle.law_isolation.proofs.Runs.{reached_sound}
use Rattle.law_turns.specs.Words.{words_at}
use Rattle.std.proofs.lemmas.Bool.{eqb-true}
use Rattle.std.proofs.lemmas.List.Elements.{Contains-append_left}
use Rattle.nova_model.specs.Delegations.{Delegations}
use Rattle.nova_model.specs.Forest.{IsForest}
use Rattle.nova_model.specs.Lines.{line}
use Rattle.law_forest.proofs.Members.{IsIn, contains_from_in, filtered_in, in_filtered, in_from_contains}
use Rattle.nova_model.specs.Revokes.{in_scope, scope}
use Rattle.law_forest.proofs.Pairs.{same_id}
use Rattle.nova_model.specs.declared.context.Mark.{Mark}
use Rattle.nova_model.specs.declared.context.Mark.TheVariants.{Call}
use Rattle.law_turns.specs.Scheduling.{IsPaidBy}
use Rattle.law_turns.specs.Tables.{Suits}
use Rattle.law_turns.specs.Waiting.{AreBlocked}
use Rattle.law_turns.proofs.Serving.{IsActor, awaited, blocked_there}
use Rattle.law_turns.proofs.Suited.{tables_suit}
use Rattle.law_turns.proofs.TablesFit.{boot_run_fits}
use Rattle.law_origins.specs.Giving.{Acts}
use Rattle.law_origins.proofs.Lists.{run_append}
use Rattle.law_integrity.specs.Confined.{LogsByte, AreSeparate, Holds, IsClosed, IsIdle, IsOwned, IsWoken, StaysOrWakes, IsMember, LeavesTo, Stays as Unchanged, Wakes, grown}
use Rattle.law_integrity.specs.Integrity.{LogBy, Clears, DeadlineBy, Downs, NewSemaphore, SemaphoreBy, Sets, Ups, Called, ContextBy, Controls, CopiesCall, CopiesExit, CopiesReply, Creates, GrowsByRight, Keeps, ExitSent, Gives, IdentifierBy, IsByRight, Itself, MessageBy, NewContext, NewItems, NewPortal, NewWords, GivesPart, SkipsPart, FinishesItem, Recalled, Resumed, StoresOwn, Takes, TellsItem, TransferBy, Woken}
use Rattle.law_integrity.specs.Rights.{CallsAt, ExitsAt, GivesTo, HasTurn, ServesCaller, Names}
use Rattle.law_integrity.proofs.Authorised.{authorised_by, frames_of}
use Rattle.law_integrity.proofs.Confining.{Child, IsAway, Newest, Old, Whence, acting_one, acts_one, both_member, calls_in, exits_in, gives_in, member_pd, owned_at, waits_edge, whence}
use Rattle.law_integrity.proofs.Resting.{holds_of}
use Rattle.law_integrity.proofs.Confined.{reach_of, separate_along}

-- A CONTEXT THAT TOUCHES NOTHING OF A SET

-- what a context that acts in a turn calls, gives to, serves, controls and is paid by is nothing of the set
pub record IsClear (k : KernelState) (S : ℕ → Type 0) (ec : ℕ) : Type 0 where
  pub away : IsAway k S ec
  pub serves : (caller : ℕ) (mark : Mark) → ServesCaller k ec caller mark → IsMember k S caller → ⊥
  pub controls : (n call right : ℕ) → Names k ec call right n → IsMember k S n → ⊥
  pub portals : (n call right handler mtd ip : ℕ) → Names k ec call right n → slice_get k.objects n ≡ Some (Pt handler mtd ip) → IsMember k S handler → ⊥
  pub leads : (donor edges : ℕ) → after_edges edges (edge k.contexts) donor ≡ Some ec → IsMember k S donor → ⊥

itself_clear : (k : KernelState) (S : ℕ → Type 0) (ec n : ℕ) → IsClear k S ec → IsMember k S n → n ≡ ec → ⊥
itself_clear k S ec n clear theirs same = clear.away.out (member_pd k S ec (subst (IsMember k S) same theirs))

-- WHAT A TURN OF ONE SET LEAVES OF THE OTHER

member_below : (k : KernelState) (S : ℕ → Type 0) (n : ℕ) → IsMember k S n → n ≡ length k.objects → ⊥
member_below k S n m next = let below = slice_get_within k.objects n (Ec m.domain m.cpu m.kind m.event) m.object in omega (arith, below, next)

other_context : (k new : KernelState) (S T : ℕ → Type 0) (ec n : ℕ) (words : List ℕ) → IsClear k S ec → IsMember k T ec → IsMember k S n →
    (context_at new n ≡ context_at k n) ⊎ ContextBy k ec n words (context_at k n) (context_at new n) → StaysOrWakes k T n (context_at k n) (context_at new n)
other_context k new S T ec n words clear mine theirs (inl same) = Unchanged same
other_context k new S T ec n words clear mine theirs (inr (Itself same y z old to own)) = absurd (itself_clear k S ec n clear theirs same)
other_context k new S T ec n words clear mine theirs (inr (Called c y old parked to)) = absurd (clear.away.calls n (inl c) theirs)
other_context k new S T ec n words clear mine theirs (inr (ExitSent e y old parked to)) = absurd (clear.away.calls n (inr e) theirs)
other_context k new S T ec n words clear mine theirs (inr (Resumed mark serves y old waits to)) = absurd (clear.serves n mark serves theirs)
other_context k new S T ec n words clear mine theirs (inr (Recalled names y old to)) = absurd (clear.controls n EC_CTRL control_right names theirs)
other_context k new S T ec n words clear mine theirs (inr (Woken sm names rest waiting y old blocked to)) =
    Wakes (record { sm = sm; rest = rest; may = holds_of k T ec SM_CTRL sm up_right mine names.names; waiting = waiting; blocked = ap (λ (o : Option EcState). (context_in o).state) old ∙ blocked }) y old to
other_context k new S T ec n words clear mine theirs (inr (NewContext next born)) = absurd (member_below k S n theirs next.next)

other_words : (k new : KernelState) (S : ℕ → Type 0) (ec n : ℕ) → IsClear k S ec → IsMember k S n → (words_at new n ≡ words_at k n) ⊎ MessageBy k ec n (words_at new n) →
    words_at new n ≡ words_at k n
other_words k new S ec n clear theirs (inl same) = same
other_words k new S ec n clear theirs (inr (StoresOwn same s stores among to)) = absurd (itself_clear k S ec n clear theirs same)
other_words k new S ec n clear theirs (inr (CopiesCall c parked to)) = absurd (clear.away.calls n (inl c) theirs)
other_words k new S ec n clear theirs (inr (CopiesExit e parked to)) = absurd (clear.away.calls n (inr e) theirs)
other_words k new S ec n clear theirs (inr (CopiesReply serves waits to)) = absurd (clear.serves n Call serves theirs)
other_words k new S ec n clear theirs (inr (TellsItem (inl same) item end words tells whom to)) = absurd (itself_clear k S ec n clear theirs same)
other_words k new S ec n clear theirs (inr (TellsItem (inr serves) item end words tells whom to)) = absurd (clear.serves n Call serves theirs)
other_words k new S ec n clear theirs (inr (NewWords next to)) = absurd (member_below k S n theirs next.next)

other_gains : (k : KernelState) (S : ℕ → Type 0) (cpu ec : ℕ) (d : Derivation) → IsClear k S ec → Acts k cpu ec → S d.pd → Whence k cpu d → Contains k.delegations.list d
other_gains k S cpu ec d clear acts_ s (Old there) = there
other_gains k S cpu ec d clear acts_ s (Newest e its object first objects) =
    absurd (clear.away.out (subst (λ (n : ℕ). S (pd_of k n)) (acts_one k cpu e ec its acts_) (subst S first.pd s)))
other_gains k S cpu ec d clear acts_ s (Child e its source there within gives) =
    absurd (clear.away.gives source.pd d.pd (subst (λ (n : ℕ). GivesTo k n source.pd d.pd) (acts_one k cpu e ec its acts_) gives) s)

other_transfer : (k new : KernelState) (S : ℕ → Type 0) (ec n : ℕ) → IsClear k S ec → IsMember k S n → (transfer_at new n ≡ transfer_at k n) ⊎ TransferBy k ec n (transfer_at new n) →
    transfer_at new n ≡ transfer_at k n
other_transfer k new S ec n clear theirs (inl same) = same
other_transfer k new S ec n clear theirs (inr (GivesPart same child cursor does to)) = absurd (itself_clear k S ec n clear theirs same)
other_transfer k new S ec n clear theirs (inr (SkipsPart same reason place cursor does to)) = absurd (itself_clear k S ec n clear theirs same)
other_transfer k new S ec n clear theirs (inr (FinishesItem same item end words follows does to)) = absurd (itself_clear k S ec n clear theirs same)
other_transfer k new S ec n clear theirs (inr (NewItems next to)) = absurd (member_below k S n theirs next.next)

other_identifier : (k new : KernelState) (S : ℕ → Type 0) (ec n handler mtd ip : ℕ) → IsClear k S ec → slice_get k.objects n ≡ Some (Pt handler mtd ip) → IsMember k S handler →
    (entry (slice_get new.identifiers n) ≡ entry (slice_get k.identifiers n)) ⊎ IdentifierBy k ec n (entry (slice_get new.identifiers n)) →
    entry (slice_get new.identifiers n) ≡ entry (slice_get k.identifiers n)
other_identifier k new S ec n handler mtd ip clear is theirs (inl same) = same
other_identifier k new S ec n handler mtd ip clear is theirs (inr (Controls names to)) = absurd (clear.portals n PT_CTRL control_right handler mtd ip names is theirs)
other_identifier k new S ec n handler mtd ip clear is theirs (inr (NewPortal next to)) =
    absurd (let below = slice_get_within k.objects n (Pt handler mtd ip) is in let at = next.next in omega (arith, below, at))

-- the first context at a semaphore is blocked there
first_blocked : (k : KernelState) (sm n : ℕ) (rest : List ℕ) → AreBlocked k.contexts k.semaphores → (semaphore k.semaphores sm).waiting ≡ n ∷ rest → (context k n).state ≡ Blocked sm
first_blocked k sm n rest all first =
    let itself : (eqb n n || has rest n) ≡ true = grind (arith) in
    let blocked = all.blocked sm n (ap (λ (ecs : List ℕ). has ecs n) first ∙ itself) in
    let there = blocked_there k.contexts n sm blocked in
    let both : Some (context k n).state ≡ Some (Blocked sm) = sym (ap (option_map (λ x. x.state)) there) ∙ blocked in cc

other_deadline : (k new : KernelState) (S T : ℕ → Type 0) (ec n : ℕ) → AreBlocked k.contexts k.semaphores → IsClear k S ec → IsMember k T ec → IsMember k S n →
    (deadline_of new.times n ≡ deadline_of k.times n) ⊎ DeadlineBy k ec n (deadline_of new.times n) → (deadline_of new.times n ≡ deadline_of k.times n) ⊎ IsWoken k T n
other_deadline k new S T ec n all clear mine theirs (inl same) = inl same
other_deadline k new S T ec n all clear mine theirs (inr (Sets same d may own is)) = absurd (itself_clear k S ec n clear theirs same)
other_deadline k new S T ec n all clear mine theirs (inr (Clears sm names rest first is)) =
    inr (record { sm = sm; rest = rest; may = holds_of k T ec SM_CTRL sm up_right mine names.names; waiting = first; blocked = first_blocked k sm n rest all first })

other_semaphore : (k new : KernelState) (T : ℕ → Type 0) (ec sm : ℕ) → IsMember k T ec → sm < length k.objects → (Holds k T up_right sm → ⊥) → (Holds k T down_right sm → ⊥) →
    (semaphore_at new.semaphores sm ≡ semaphore_at k.semaphores sm) ⊎ SemaphoreBy k ec sm (semaphore_at k.semaphores sm) (semaphore_at new.semaphores sm) →
    semaphore_at new.semaphores sm ≡ semaphore_at k.semaphores sm
other_semaphore k new T ec sm mine below no_up no_down (inl same) = same
other_semaphore k new T ec sm mine below no_up no_down (inr (Ups names s old to)) = absurd (no_up (holds_of k T ec SM_CTRL sm up_right mine names.names))
other_semaphore k new T ec sm mine below no_up no_down (inr (Downs names s old to)) = absurd (no_down (holds_of k T ec SM_CTRL sm down_right mine names.names))
other_semaphore k new T ec sm mine below no_up no_down (inr (NewSemaphore next to)) = absurd (let at = next.next in omega (arith, below, at))

other_budget : (k new : KernelState) (S : ℕ → Type 0) (cpu ec sc n donor its priority quantum : ℕ) → IsClear k S ec → HasTurn k cpu ec sc → IsPaidBy k new cpu sc →
    IsSome (budget_at k n) → slice_get k.objects n ≡ Some (Sc donor its priority quantum) → IsMember k S donor → budget_at new n ≡ budget_at k n
other_budget k new S cpu ec sc n donor its priority quantum clear turn paid there object theirs =
    paid.others n (λ same.
    let both : Sc donor its priority quantum ≡ Sc turn.donor cpu turn.priority turn.quantum = same_Some _ _ (sym object ∙ ap (slice_get k.objects) same ∙ turn.object) in
    let one : donor ≡ turn.donor = cc in
    clear.leads turn.donor turn.leads.edges turn.leads.way (subst (IsMember k S) one theirs)) there

kept_in : (xs : List Derivation) (x y : Derivation) → Contains xs y → Contains (xs ++ x ∷ []) y
kept_in xs x y there = Contains-append_left xs (x ∷ []) y there

other_keeps : (k new : KernelState) (T : ℕ → Type 0) (ec : ℕ) (d : Derivation) → IsForest k.delegations → IsMember k T ec → Contains k.delegations.list d →
    ((ancestor : Derivation) → Contains (line k.delegations.list d) ancestor → T ancestor.pd → ⊥) →
    GrowsByRight k new ec → Contains new.delegations.list d
other_keeps k new T ec d forest mine there none (Keeps objects same) = subst (λ (f : Delegations). Contains f.list d) (sym same) there
other_keeps k new T ec d forest mine there none (Creates object capability first objects is) =
    subst (λ (f : Delegations). Contains f.list d) (sym is) (kept_in k.delegations.list capability d there)
other_keeps k new T ec d forest mine there none (Gives child source has edge_ within shared next gives objects is) =
    subst (λ (f : Delegations). Contains f.list d) (sym is) (kept_in k.delegations.list child d there)
other_keeps k new T ec d forest mine there none (Takes leaf may objects is) =
    subst (λ (f : Delegations). Contains f.list d) (sym is) (contains_from_in (filter (λ (x : Derivation). not (x.id == leaf.id)) k.delegations.list) d (by_id (d.id == leaf.id) refl))
  where
    in_list : IsIn k.delegations.list d
    in_list = in_from_contains k.delegations.list d there

    by_id : (t : Bool) → (d.id == leaf.id) ≡ t → IsIn (filter (λ (x : Derivation). not (x.id == leaf.id)) k.delegations.list) d
    by_id false other = in_filtered (λ (x : Derivation). not (x.id == leaf.id)) k.delegations.list d in_list (ap not other)
    by_id true same =
        let one : d ≡ leaf = same_id k.delegations.list d leaf forest.rising in_list
        (filtered_in (in_scope (record { pd = pd_of k ec; range = may.range; own = may.own }) k.delegations.list) k.delegations.list leaf
        (in_from_contains (scope (record { pd = pd_of k ec; range = may.range; own = may.own }) k.delegations.list) leaf may.taken)).0 (eqb-true d.id leaf.id same) in
        absurd (none may.ancestor (subst (λ (x : Derivation). Contains (line k.delegations.list x) may.ancestor) (sym one) may.above) (subst T (sym may.held) (member_pd k T ec mine)))

other_log : (k new : KernelState) (T : ℕ → Type 0) (ec : ℕ) → IsMember k T ec → (new.memory.log ≡ k.memory.log) ⊎ LogBy k ec k.memory.log new.memory.log →
    (new.memory.log ≡ k.memory.log) ⊎ LogsByte k new T
other_log k new T ec mine (inl same) = inl same
other_log k new T ec mine (inr by) =
    inr (record { frame = by.frame; value = by.store.value % 256; reaches = reach_of k T ec (by.store.address / 4096) write_right by.frame mine by.reaches.reaches; joins = by.after })

budget_there : (s : Scenario) (before : List ℕ) (n donor its priority quantum : ℕ) → slice_get (run (boot s) before).objects n ≡ Some (Sc donor its priority quantum) → IsSome (budget_at (run (boot s) before) n)
budget_there s before n donor its priority quantum is =
    (subst (λ (o : Option Object). IfSome o (Suits (run (boot s) before) n)) is (tables_suit s before n)).0

-- a turn of one of T's that touches nothing of S's
pub leaves_clear : (s : Scenario) (before : List ℕ) (S T : ℕ → Type 0) (cpu ec : ℕ) → IsClear (run (boot s) before) S ec → Acts (run (boot s) before) cpu ec →
    IsMember (run (boot s) before) T ec → LeavesTo (run (boot s) before) (after (run (boot s) before) cpu) T S
leaves_clear s before S T cpu ec clear acts_ mine =
    let k = run (boot s) before in
    let sound = reached_sound s before in
    let by = authorised_by s before cpu ec acts_ in
    let right : IsByRight k (after k cpu) cpu ec by.0 = by.2 in
    let blocked = (boot_run_fits s before).blocked in
    record {
      deadlines = λ n theirs. other_deadline k (after k cpu) S T ec n blocked clear mine theirs (right.deadlines n);
      log = other_log k (after k cpu) T ec mine right.log;
      semaphores = λ sm below no_up no_down. other_semaphore k (after k cpu) T ec sm mine below no_up no_down (right.semaphores sm);
      budgets = λ sc donor its priority quantum is theirs.
          other_budget k (after k cpu) S cpu ec by.0 sc donor its priority quantum clear by.1 right.budgets (budget_there s before sc donor its priority quantum is) is theirs;
      contexts = λ n theirs. other_context k (after k cpu) S T ec n (message (after k cpu) ec) clear mine theirs (right.contexts n);
      messages = λ n theirs. other_words k (after k cpu) S ec n clear theirs (right.messages n);
      transfers = λ n theirs. other_transfer k (after k cpu) S ec n clear theirs (right.transfers n);
      identifiers = λ n handler mtd ip is theirs. other_identifier k (after k cpu) S ec n handler mtd ip clear is theirs (right.identifiers n);
      keeps = λ d there none. other_keeps k (after k cpu) T ec d sound.forest mine there none right.grows;
      frames = λ frame none. frames_of s before cpu frame (λ e page its leads. none (reach_of k T e page write_right frame (subst (IsMember k T) (acts_one k cpu ec e acts_ its) mine) leads));
      gains = λ d there theirs. other_gains k S cpu ec d clear acts_ theirs (whence k cpu d sound.forest there);
    }

-- TWO CLOSED SETS

-- a context that leads along edges to a context of the set is of the set
led_member : (k : KernelState) (T : ℕ → Type 0) (ec n : ℕ) (edges : ℕ) → IsClosed k T → IsMember k T ec → after_edges edges (edge k.contexts) n ≡ Some ec → IsMember k T n
led_member k T ec n zero closed m is = subst (IsMember k T) (sym (same_Some n ec is)) m
led_member k T ec n (suc edges) closed m is = by_edge (edge k.contexts n) refl is (λ h leads. led_member k T ec h edges closed m leads)
  where
    by_edge : (o : Option ℕ) → edge k.contexts n ≡ o → option_and_then (after_edges edges (edge k.contexts)) o ≡ Some ec →
        ((h : ℕ) → after_edges edges (edge k.contexts) h ≡ Some ec → IsMember k T h) → IsMember k T n
    by_edge None at leads later = absurd (cc)
    by_edge (Some h) at leads later = closed.edges n h at (later h leads)

-- one of a closed set touches nothing of a set apart from it
separate_clear : (k : KernelState) (S T : ℕ → Type 0) (ec : ℕ) → IsSound k → AreSeparate k S T → IsActor k.contexts ec → IsMember k T ec → IsClear k S ec
separate_clear k S T ec sound apart actor mine = record {
  away = record {
    out = λ s. apart.disjoint (pd_of k ec) s (member_pd k T ec mine);
    calls = λ handler by theirs. never handler theirs (by_portal handler by);
    gives = λ giver receiver g s. apart.disjoint receiver s (gives_in k T ec giver receiver sound apart.second actor mine g).1;
  };
  serves = λ caller mark serves theirs.
      never caller theirs (apart.second.edges caller ec (waits_edge k caller ec (awaited _ k.contexts ec caller mark actor serves sound.kept.served).waits) mine);
  controls = λ n call right names theirs. apart.disjoint theirs.domain theirs.of (named n call right names (Ec theirs.domain theirs.cpu theirs.kind theirs.event) theirs.object);
  portals = λ n call right handler mtd ip names is theirs. never handler theirs (named n call right names (Pt handler mtd ip) is);
  leads = λ donor edges way theirs. never donor theirs (led_member k T ec donor edges apart.second mine way);
}
  where
    never : (n : ℕ) → IsMember k S n → IsMember k T n → ⊥
    never n theirs m = both_member k S T n apart.disjoint theirs m

    by_portal : (handler : ℕ) → CallsAt k ec handler ⊎ ExitsAt k ec handler → IsMember k T handler
    by_portal handler (inl c) = calls_in k T ec handler apart.second mine c
    by_portal handler (inr c) = exits_in k T ec handler apart.second mine c

    named : (n call right : ℕ) → Names k ec call right n → (o : Object) → slice_get k.objects n ≡ Some o → IsOwned k T n (Some o)
    named n call right names o is =
        owned_at k T names.at.capability n o apart.second names.at.held.there (subst T (sym names.at.held.holder) (member_pd k T ec mine)) names.at.held.kind names.at.leads is

pub leaves_other : (s : Scenario) (before : List ℕ) (S T : ℕ → Type 0) (cpu ec : ℕ) → AreSeparate (run (boot s) before) S T → Acts (run (boot s) before) cpu ec →
    IsMember (run (boot s) before) T ec → LeavesTo (run (boot s) before) (after (run (boot s) before) cpu) T S
leaves_other s before S T cpu ec apart acts_ mine =
    leaves_clear s before S T cpu ec (separate_clear (run (boot s) before) S T ec (reached_sound s before) apart (acting_one (run (boot s) before) cpu ec acts_) mine) acts_ mine

pub flipped : (k : KernelState) (S T : ℕ → Type 0) → AreSeparate k S T → AreSeparate k T S
flipped k S T apart = record {
  first = apart.second;
  second = apart.first;
  disjoint = λ n t u. apart.disjoint n u t;
  rest = λ ec x there. other_one ec x.state (apart.rest ec x there);
}
  where
    other_idle : (ec : ℕ) (t : State) → IsIdle k S T ec t → IsIdle k T S ec t
    other_idle ec Parked idle = tt
    other_idle ec Dead idle = tt
    other_idle ec (Blocked sm) idle = record { there = idle.there; first = idle.second; second = idle.first; alarms = idle.alarms; deadline = idle.deadline }
    other_idle ec other idle = absurd idle

    other_one : (ec : ℕ) (t : State) → IsIdle k S T ec t ⊎ (IsMember k S ec ⊎ IsMember k T ec) → IsIdle k T S ec t ⊎ (IsMember k T ec ⊎ IsMember k S ec)
    other_one ec t (inl idle) = inl (other_idle ec t idle)
    other_one ec t (inr (inl m)) = inr (inr m)
    other_one ec t (inr (inr m)) = inr (inl m)

-- a turn of one of T's, after whatever turns
pub leaves_along : (s : Scenario) (before turns : List ℕ) (S T : ℕ → Type 0) (cpu ec : ℕ) → AreSeparate (run (boot s) before) S T → Acts (run (run (boot s) before) turns) cpu ec →
    IsMember (run (run (boot s) before) turns) (grown (run (boot s) before) T turns) ec →
    LeavesTo (run (run (boot s) before) turns) (after (run (run (boot s) before) turns) cpu) (grown (run (boot s) before) T turns) (grown (run (boot s) before) S turns)
leaves_along s before turns S T cpu ec apart acts_ mine =
    let k = run (boot s) before in
    let next : run (boot s) (before ++ turns) ≡ run k turns = run_append (boot s) before turns in
    subst (λ (l : KernelState). LeavesTo l (after l cpu) (grown k T turns) (grown k S turns)) next
    (leaves_other s (before ++ turns) (grown k S turns) (grown k T turns) cpu ec
    (subst (λ (l : KernelState). AreSeparate l (grown k S turns) (grown k T turns)) (sym next) (separate_along s before turns S T apart))
    (subst (λ (l : KernelState). Acts l cpu ec) (sym next) acts_) (subst (λ (l : KernelState). IsMember l (grown k T turns) ec) (sym next) mine))
