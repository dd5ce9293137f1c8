-- Revokes that run: after a deed, the list of all, and a turn.
use Rattle.law_turns.proofs.Passing.{passing_ending, Ended, IsEnding, Same, passing_each}
use Rattle.std.proofs.lemmas.Bool.{eq-eqb, ne_eqb}
use Rattle.std.proofs.Common.{inl, inr, ◌≡◌, ◌≤◌, ℕ, zero, suc, ◌+◌, ◌-◌, List, [], ◌∷◌, ◌++◌, length, refl, ap, ap₂, ◌∙◌, sym, subst, arith}
use Rattle.std.specs.Prelude.{◌≢◌, ◌==◌, Bool, true, false, if◌then◌else◌, slice_get, Option, Some, None, IsSome, option_and_then, option_map, Ok}
use Rattle.std.specs.List.{cons_option, filter_map, range_with_len}
use Rattle.nova_calls.specs.Hypercalls.{call_of}
use Rattle.nova_calls.specs.declared.call.Call.{Call}
use Rattle.nova_calls.specs.declared.call.Call.TheVariants as asks
use Rattle.nova_calls.specs.declared.numbers.TheConstants.{CREATE_EC, CREATE_SC, CREATE_PT, CREATE_SM, SC_CTRL}
use Rattle.nova_objects.specs.declared.object.EcKind.TheVariants.{Local, Global, Vcpu}
use Rattle.nova_objects.specs.declared.object.Object.{Object}
use Rattle.nova_range.specs.declared.range.Range.{Range}
use Rattle.nova_range.specs.declared.rights.Rights.{Rights}
use Rattle.nova_model.specs.Capabilities.{control_right, is_ec, is_pt, is_sc, named}
use Rattle.nova_model.specs.Choice.{Candidate, next_to_act}
use Rattle.nova_model.specs.Creation.{context_of, object_of}
use Rattle.nova_model.specs.Deeds.{actor_after, deed, deed_in, done, removes}
use Rattle.nova_model.specs.Edges.{acts}
use Rattle.nova_model.specs.Hypercalls.{new_domain, row, ticks_in}
use Rattle.nova_model.specs.Revokes.{Revocation, next_leaf}
use Rattle.nova_model.specs.Running.{Running, revoke_by, revoke_of, running, running_of}
use Rattle.nova_model.specs.Runs.{after}
use Rattle.nova_model.specs.State.{Contexts, KernelState, budget_at, context, context_at, context_in, ec_in, ec_of, pd_in, pd_of}
use Rattle.nova_model.specs.declared.context.EcState.{EcState}
use Rattle.nova_model.specs.declared.context.Mark.TheVariants as mark
use Rattle.nova_model.specs.declared.context.State.{State}
use Rattle.nova_model.specs.declared.context.State.TheVariants.{Revoking}
use Rattle.nova_model.specs.declared.deed.Deed.{Deed}
use Rattle.nova_model.specs.declared.deed.Deed.TheVariants.{Recalls, Tells, Names, Finishes, Replies, Aborts, Revokes, Removes, Returns}
use Rattle.nova_model.specs.declared.delegation.Derivation.{Derivation}
use Rattle.nova_model.specs.declared.new_object.NewObject.{NewObject}
use Rattle.nova_model.specs.declared.new_object.NewObject.TheVariants as new
use Rattle.nova_model.specs.declared.transfer.Sequel.TheVariants as sequel
use Rattle.nova_model.specs.declared.event.Event.{Event}
use Rattle.law_forest.specs.Effects.{all_edited, applied, edits_by, effect, joined, made_by, Passing, passing_effect, passing_ends}
use Rattle.law_forest.specs.Turns.{Acts, IsTurning, Turning, turned, Passes}
use Rattle.law_forest.proofs.Doing.{done_is}
use Rattle.law_forest.proofs.Running.{revokes_there}
use Rattle.law_forest.proofs.Turning.{outcome, passing_none}
use Rattle.law_forest.proofs.Walk.{IfDone, deed_holds, sm_ctrl_holds}
use Rattle.law_turns.specs.Keeping.{IsKept}
use Rattle.law_turns.specs.Revoking.{AsksRevoke, HasRevoked, is_revoking, revoke_after, revoke_in_turn, running_after}
use Rattle.law_turns.proofs.Awaiting.{acts_there, same_or_not}
use Rattle.law_turns.proofs.Courses.{edited_length}
use Rattle.law_turns.proofs.TablesFit.{TablesFit, chosen_acts}
use Rattle.law_turns.proofs.Rows.{call_holds, create_pd_holds, makes_hold, named_holds, reply_holds}
use Rattle.law_turns.proofs.Referring.{Asks, deed_asks}
use Rattle.law_turns.proofs.Serving.{IsActor, actor_of}
use Rattle.law_turns.proofs.Setting.{entry_below, joined_length, joined_other, more_at}
use Rattle.law_turns.proofs.States.{Moves, has_begun, is_waiting, others_move, own_state}
use Rattle.law_turns.proofs.TablesKept.{contexts_length}

-- IN A TABLE OF EXECUTION CONTEXTS

-- the revoke of an entry, where the protection domain of the number is `pd`
abbrev revoke_at : ℕ → Option EcState → Option Revocation
revoke_at pd o = option_and_then (λ (x : EcState). revoke_by pd x.state) o

abbrev among : List Object → Contexts → ℕ → Option Revocation
among os cs e = revoke_at (pd_in (slice_get os e)) (ec_in cs e)

-- a context that doesn't revoke
quiet_none : (pd : ℕ) (s : State) → is_revoking s ≡ false → revoke_by pd s ≡ None
quiet_none pd (Revoking range own) quiet = absurd (cc)
quiet_none pd other quiet = refl

entry_none : (pd : ℕ) (o : Option EcState) → is_revoking (context_in o).state ≡ false → revoke_at pd o ≡ None
entry_none pd None quiet = refl
entry_none pd (Some x) quiet = quiet_none pd x.state quiet

-- an object joins, with what goes with it
born_none : (pd n : ℕ) (made : NewObject) → revoke_at pd (context_of n made) ≡ None
born_none pd n new.Pd = refl
born_none pd n (new.Ec owner cpu Local sp event) = refl
born_none pd n (new.Ec owner cpu Global sp event) = refl
born_none pd n (new.Ec owner cpu Vcpu sp event) = refl
born_none pd n (new.Sc ec cpu priority quantum) = refl
born_none pd n (new.Pt ec mtd ip) = refl
born_none pd n (new.Sm count) = refl

joined_same : (os : List Object) (o : Object) (cs : Contexts) (e : ℕ) → length cs ≡ length os → among (os ++ o ∷ []) cs e ≡ among os cs e
joined_same os o cs e as_many = by_entry (ec_in cs e) refl
  where
    by_entry : (p : Option EcState) → ec_in cs e ≡ p → revoke_at (pd_in (slice_get (os ++ o ∷ []) e)) p ≡ revoke_at (pd_in (slice_get os e)) p
    by_entry None is = refl
    by_entry (Some x) is =
        let below = entry_below cs e x is in
        ap (λ (b : Option Object). revoke_by (pd_in b) x.state) (joined_other os o e (λ same. omega (arith, below, same, as_many)))

joins_quiet : (os : List Object) (cs : Contexts) (e : ℕ) (made : Option NewObject) → length cs ≡ length os →
    among (joined os (option_map object_of made)) (joined cs (option_map (context_of (length os)) made)) e ≡ among os cs e
joins_quiet os cs e None as_many = refl
joins_quiet os cs e (Some made) as_many =
    let all = os ++ object_of made ∷ [] in
    more_at (λ y. revoke_at (pd_in (slice_get all e)) y ≡ among all cs e) cs (context_of (length os) made) e refl
    (λ old. born_none (pd_in (slice_get all e)) (length os) made ∙ old)
    ∙ joined_same os (object_of made) cs e as_many

-- WHICH CONTEXT ACTS

-- only a context that takes a leaf away, or returns, revokes
abbrev Idle : KernelState → ℕ → Deed → Type 0
Idle k ec (Removes leaf) = Unit {0}
Idle k ec Returns = Unit {0}
Idle k ec other = is_revoking (context k ec).state ≡ false

any_idle : (k : KernelState) (ec : ℕ) (d : Deed) → is_revoking (context k ec).state ≡ false → Idle k ec d
any_idle k ec (Removes leaf) quiet = tt
any_idle k ec Returns quiet = tt
any_idle k ec other quiet = quiet

removes_idle : (k : KernelState) (ec : ℕ) (o : Option Derivation) → Idle k ec (removes o)
removes_idle k ec None = tt
removes_idle k ec (Some leaf) = tt

deed_idle : (k : KernelState) (ec : ℕ) → Idle k ec (deed k ec)
unfolding deed
deed_idle k ec = by_state (context k ec).state refl
  where
    by_state : (s : State) → (context k ec).state ≡ s → Idle k ec (deed_in k ec s)
    by_state (Revoking range own) is = removes_idle k ec (next_leaf (record { pd = pd_of k ec; range = range; own = own }) k.delegations)
    by_state other is = any_idle k ec (deed_in k ec other) (ap is_revoking is)

own_none : (k : KernelState) (ec : ℕ) → is_revoking (context k ec).state ≡ false → revoke_of k ec ≡ None
own_none k ec quiet = entry_none (pd_of k ec) (context_at k ec) quiet

-- A DEED

-- the revoke of a context is that of its state
revoke_is : (pd : ℕ) (o : Option EcState) → revoke_at pd o ≡ revoke_by pd (context_in o).state
revoke_is pd None = refl
revoke_is pd (Some x) = refl

waiting_none : (pd : ℕ) (s : State) → is_waiting s ≡ true → revoke_by pd s ≡ None
waiting_none pd (Revoking range own) waits = absurd cc
waiting_none pd other waits = refl

begun_none : (pd : ℕ) (s : State) → has_begun s ≡ true → revoke_by pd s ≡ None
begun_none pd (Revoking range own) begun = absurd cc
begun_none pd other begun = refl

-- another that doesn't act keeps its revoke
moves_none : (pd : ℕ) (s t : State) → Moves s t → revoke_by pd t ≡ revoke_by pd s
moves_none pd s t (inl same) = ap (revoke_by pd) same
moves_none pd s t (inr goes) = begun_none pd t goes.1 ∙ sym (waiting_none pd s goes.0)

others_run : (k : KernelState) (ec e : ℕ) (d : Deed) → IsActor k.contexts ec → Asks k ec d → TablesFit k → e ≢ ec →
    among k.objects (all_edited k.contexts (edits_by k ec d)) e ≡ revoke_of k e
others_run k ec e d actor asks fits other =
    let now = all_edited k.contexts (edits_by k ec d) in
    revoke_is (pd_of k e) (ec_in now e) ∙ moves_none (pd_of k e) (context k e).state (ec_of now e).state (others_move k ec d actor asks fits e other)
    ∙ sym (revoke_is (pd_of k e) (context_at k e))

other_after : (k : KernelState) (ec e : ℕ) (d : Deed) → e ≢ ec → revoke_after k ec d e ≡ revoke_of k e
other_after k ec e (Revokes range own) other = rw (ne_eqb e ec other) refl
other_after k ec e Returns other = rw (ne_eqb e ec other) refl
other_after k ec e d other = refl

-- only one deed begins a revoke
abbrev is_beginning : Deed → Bool
is_beginning (Revokes range own) = true
is_beginning other = false

changed_quiet : (x : EcState) (d : Deed) → is_beginning d ≡ false → is_revoking x.state ≡ false → is_revoking (actor_after x d).state ≡ false
changed_quiet x (Revokes range own) none quiet = absurd cc
changed_quiet x (Finishes item end words sequel.Item) none quiet = quiet
changed_quiet x (Replies caller its true) none quiet = refl
changed_quiet x (Aborts handler mark.Call) none quiet = refl
changed_quiet x other none quiet = search quiet

own_after : (k : KernelState) (ec : ℕ) (d : Deed) → Idle k ec d → revoke_by (pd_of k ec) (actor_after (context k ec) d).state ≡ revoke_after k ec d ec
own_after k ec (Revokes range own) idle = rw (eq-eqb ec ec refl) refl
own_after k ec Returns idle = rw (eq-eqb ec ec refl) refl
own_after k ec (Removes leaf) idle = sym (revoke_is (pd_of k ec) (context_at k ec))
own_after k ec other idle = quiet_none (pd_of k ec) (actor_after (context k ec) other).state (changed_quiet (context k ec) other refl idle) ∙ sym (own_none k ec idle)

own_runs : (k : KernelState) (ec : ℕ) (d : Deed) → IsActor k.contexts ec → Asks k ec d → Idle k ec d → TablesFit k →
    among k.objects (all_edited k.contexts (edits_by k ec d)) ec ≡ revoke_after k ec d ec
own_runs k ec d actor asks idle fits =
    revoke_is (pd_of k ec) (ec_in (all_edited k.contexts (edits_by k ec d)) ec) ∙ ap (revoke_by (pd_of k ec)) (own_state k ec d actor asks fits) ∙ own_after k ec d idle

applied_runs : (k : KernelState) (ec e : ℕ) (d : Deed) → IsActor k.contexts ec → Asks k ec d → Idle k ec d → TablesFit k →
    revoke_of (applied k (effect k ec d)) e ≡ revoke_after k ec d e
applied_runs k ec e d actor asks idle fits =
    let now = all_edited k.contexts (edits_by k ec d) in
    joins_quiet k.objects now e (made_by d) (edited_length k.contexts (edits_by k ec d) ∙ contexts_length k fits.tables)
    ∙ same_or_not e ec (among k.objects now e ≡ revoke_after k ec d e)
    (λ same. subst (λ (n : ℕ). among k.objects now n ≡ revoke_after k ec d n) (sym same) (own_runs k ec d actor asks idle fits))
    (λ other. others_run k ec e d actor asks fits other ∙ sym (other_after k ec e d other))

chosen_runs : (k : KernelState) (ec e : ℕ) → acts k.contexts ec ≡ true → TablesFit k → revoke_of (applied k (effect k ec (deed k ec))) e ≡ revoke_after k ec (deed k ec) e
chosen_runs k ec e able fits = applied_runs k ec e (deed k ec) (actor_of k.contexts ec able) (deed_asks k ec) (deed_idle k ec) fits

deed_runs : (k : KernelState) (ec : ℕ) → acts k.contexts ec ≡ true → TablesFit k → (e : ℕ) → revoke_of (done k ec (deed k ec)) e ≡ revoke_after k ec (deed k ec) e
deed_runs k ec able fits e = ap (λ (s : KernelState). revoke_of s e) (done_is k ec (deed k ec)) ∙ chosen_runs k ec e able fits

-- ALL OF THEM

picked_same : (f g : ℕ → Option Running) (es : List ℕ) → ((e : ℕ) → f e ≡ g e) → filter_map f es ≡ filter_map g es
picked_same f g [] same = refl
picked_same f g (e ∷ es) same = ap₂ (λ (o : Option Running) (ws : List Running). cons_option o ws) (same e) (picked_same f g es same)

-- numbers past the last pick none
none_picked : (g : ℕ → Option Running) (many a : ℕ) → ((e : ℕ) → a ≤ e → g e ≡ None) → filter_map g (range_with_len a many) ≡ []
none_picked g zero a none = refl
none_picked g (suc many) a none =
    ap (λ (o : Option Running). cons_option o (filter_map g (range_with_len (a + 1) many))) (none a (omega arith))
    ∙ none_picked g many (a + 1) (λ e past. none e (omega (arith, past)))

more_picked : (g : ℕ → Option Running) (more count a : ℕ) → ((e : ℕ) → a + count ≤ e → g e ≡ None) →
    filter_map g (range_with_len a (more + count)) ≡ filter_map g (range_with_len a count)
more_picked g more zero a none =
    let whole : more + 0 ≡ more = omega arith in
    ap (λ (n : ℕ). filter_map g (range_with_len a n)) whole ∙ none_picked g more a (λ e past. none e (omega (arith, past)))
more_picked g more (suc count) a none =
    let whole : more + suc count ≡ suc (more + count) = omega arith in
    ap (λ (n : ℕ). filter_map g (range_with_len a n)) whole
    ∙ ap (λ (ws : List Running). cons_option (g a) ws) (more_picked g more count (a + 1) (λ e past. none e (omega (arith, past))))

past_none : (k : KernelState) (e : ℕ) → length k.contexts ≤ e → revoke_of k e ≡ None
past_none k e past = by_entry (context_at k e) refl
  where
    by_entry : (o : Option EcState) → context_at k e ≡ o → revoke_at (pd_of k e) o ≡ None
    by_entry None is = refl
    by_entry (Some x) is = let below = entry_below k.contexts e x is in absurd (omega (arith, past, below))

other_past : (k : KernelState) (ec e : ℕ) (r : Option Revocation) → IsSome (context_at k ec) → length k.contexts ≤ e → (if e == ec then r else revoke_of k e) ≡ None
other_past k ec e r there past = by_test (e == ec) refl
  where
    by_entry : (o : Option EcState) → context_at k ec ≡ o → IsSome o → e ≡ ec → ⊥
    by_entry None is some same = absurd (cc)
    by_entry (Some x) is some same = let below = entry_below k.contexts ec x is in omega (arith, past, below, same)

    by_test : (t : Bool) → (e == ec) ≡ t → (if t then r else revoke_of k e) ≡ None
    by_test true is = absurd (by_entry (context_at k ec) refl there (grind (arith, is)))
    by_test false is = past_none k e past

after_past : (k : KernelState) (ec e : ℕ) (d : Deed) → IsSome (context_at k ec) → length k.contexts ≤ e → revoke_after k ec d e ≡ None
after_past k ec e (Revokes range own) there past = other_past k ec e _ there past
after_past k ec e Returns there past = other_past k ec e None there past
after_past k ec e other there past = past_none k e past

longer : (cs : Contexts) (made : Option (Option EcState)) → length cs ≤ length (joined cs made)
longer cs None = omega arith
longer cs (Some x) = let more = joined_length cs x in omega (arith, more)

stays_long : (k : KernelState) (ec : ℕ) (d : Deed) → length k.contexts ≤ length (done k ec d).contexts
stays_long k ec d =
    let same = ap (λ (s : KernelState). length s.contexts) (done_is k ec d) in
    let more = longer (all_edited k.contexts (edits_by k ec d)) (option_map (context_of (length k.objects)) (made_by d)) in
    let all = edited_length k.contexts (edits_by k ec d) in omega (arith, same, more, all)

all_run : (k : KernelState) (ec : ℕ) → acts k.contexts ec ≡ true → TablesFit k → running (done k ec (deed k ec)) ≡ running_after k ec (deed k ec)
all_run k ec able fits =
    picked_same (λ e. running_of e (revoke_of new e)) now (range_with_len 0 (length new.contexts)) (λ e. ap (running_of e) (deed_runs k ec able fits e))
    ∙ ap (λ (n : ℕ). filter_map now (range_with_len 0 n)) many
    ∙ more_picked now (length new.contexts - length k.contexts) (length k.contexts) 0
    (λ e past. ap (running_of e) (after_past k ec e (deed k ec) (acts_there k.contexts ec able) (omega (arith, past))))
  where
    new : KernelState
    new = done k ec (deed k ec)

    now : ℕ → Option Running
    now e = running_of e (revoke_after k ec (deed k ec) e)

    many : length (done k ec (deed k ec)).contexts ≡ (length (done k ec (deed k ec)).contexts - length k.contexts) + length k.contexts
    many = let long = stays_long k ec (deed k ec) in omega (arith, long)

-- WHICH CONTEXT BEGINS AND WHICH RETURNS

abbrev Told : KernelState → ℕ → Deed → Type 0
Told k ec (Revokes range own) = call_of (context k ec).regs ≡ Ok (asks.Revoke range own)
Told k ec Returns = HasRevoked k ec
Told k ec other = Unit {0}

domain_told : (k : KernelState) (ec target : ℕ) (first : Option (Range × Rights)) → Told k ec (new_domain k target first)
domain_told k ec target None = tt
domain_told k ec target (Some range) = tt

row_told : (k : KernelState) (ec domain : ℕ) (c : Call) → call_of (context k ec).regs ≡ Ok c → IfDone (Told k ec) (row k ec domain c)
row_told k ec domain (asks.Call portal flag) is = call_holds (Told k ec) k ec domain portal flag (λ pt sends. tt) (λ pt helps. tt)
row_told k ec domain asks.Reply is = reply_holds (Told k ec) k ec (λ caller came replies. tt)
row_told k ec domain (asks.CreatePd target pd first) is = create_pd_holds (Told k ec) k domain target pd first (domain_told k ec target first)
row_told k ec domain (asks.CreateEc target pd cpu kind sp event) is = makes_hold (Told k ec) CREATE_EC target (λ made. tt) k domain pd _
row_told k ec domain (asks.CreateSc target pd whose quantum priority) is = makes_hold (Told k ec) CREATE_SC target (λ made. tt) k domain pd _
row_told k ec domain (asks.CreatePt target pd handler mtd ip) is = makes_hold (Told k ec) CREATE_PT target (λ made. tt) k domain pd _
row_told k ec domain (asks.CreateSm target pd count) is = makes_hold (Told k ec) CREATE_SM target (λ made. tt) k domain pd (λ o. Ok (new.Sm count))
row_told k ec domain (asks.Revoke range own) is = is
row_told k ec domain (asks.EcCtrl other) is = named_holds (Told k ec) (named k domain is_ec control_right other) (λ n. Recalls n) (λ n. tt)
row_told k ec domain (asks.ScCtrl sc) is =
    named_holds (Told k ec) (named k domain is_sc control_right sc) (λ n. Tells SC_CTRL (ticks_in (budget_at k n))) (λ n. tt)
row_told k ec domain (asks.PtCtrl pt identifier) is = named_holds (Told k ec) (named k domain is_pt control_right pt) (λ n. Names n identifier) (λ n. tt)
row_told k ec domain (asks.SmCtrl sm action) is =
    sm_ctrl_holds (Told k ec) k ec domain sm action (λ n whom names wakes. tt) (λ n names answers. tt) (λ n until names answers till. tt)
row_told k ec domain other is = tt

deed_told : (k : KernelState) (ec : ℕ) → Told k ec (deed k ec)
deed_told k ec =
    deed_holds (Told k ec) k ec tt
    (record {
      steps = tt;
      raises = λ reason q0 q1. tt;
      dies = λ reason q0. tt;
      refuses = λ number status. tt;
      waits = λ pt reason q0 q1 is. tt;
      sends = λ pt reason q0 q1 is. tt;
      aborts = λ handler is. tt;
      removes = λ range own leaf is next. tt;
      returns = λ range own is next. record { revoke = record { pd = pd_of k ec; range = range; own = own }; runs = revokes_there k ec range own is; nothing = next };
      rows = λ asking c is. row_told k ec (pd_of k ec) c is;
    })
    (record { gives = λ d x g. tt; skips = λ d reason place is. tt; finishes = λ v end answer present is. tt })

-- THE LAWS

fits_of : (k : KernelState) → IsKept k → TablesFit k
fits_of k h = record { tables = h.tables; served = h.served; blocked = h.blocked; guests = h.guests; late = h.deadlines }

pub deeds_leave : (k : KernelState) (ec : ℕ) → IsKept k → acts k.contexts ec ≡ true → (e : ℕ) → revoke_of (done k ec (deed k ec)) e ≡ revoke_after k ec (deed k ec) e
deeds_leave k ec h able e = deed_runs k ec able (fits_of k h) e

pub all_after : (k : KernelState) (ec : ℕ) → IsKept k → acts k.contexts ec ≡ true → running (done k ec (deed k ec)) ≡ running_after k ec (deed k ec)
all_after k ec h able = all_run k ec able (fits_of k h)

pub none_goes : (k : KernelState) (ec : ℕ) → IsKept k → acts k.contexts ec ≡ true → length k.contexts ≤ length (done k ec (deed k ec)).contexts
none_goes k ec h able = stays_long k ec (deed k ec)

passing_runs : (k : KernelState) (p : Passing) (e : ℕ) → IsEnding k.contexts (passing_ends k p) → revoke_of (applied k (passing_effect k p)) e ≡ revoke_of k e
passing_runs k p e ending = elim (passing_each k.contexts (passing_ends k p) ending e) [
  | Same same ↦ ap (λ (o : Option EcState). option_and_then (λ (x : EcState). revoke_by (pd_of k e) x.state) o) same
  | Ended x sm status old waits new ↦
      ap (λ (o : Option EcState). option_and_then (λ (y : EcState). revoke_by (pd_of k e) y.state) o) new
      ∙ sym (ap (λ (o : Option EcState). option_and_then (λ (y : EcState). revoke_by (pd_of k e) y.state) o) old ∙ ap (revoke_by (pd_of k e)) waits)
]

turned_runs : (k : KernelState) (cpu e : ℕ) (t : Turning) (f : Event) → IsTurning k cpu t f → TablesFit k → revoke_of (turned k cpu t) e ≡ revoke_in_turn k (next_to_act k cpu) e
turned_runs k cpu e t f (Acts c chosen is event) fits =
    ap (λ (u : Turning). revoke_of (turned k cpu u) e) is ∙ chosen_runs k c.actor e (chosen_acts k cpu c chosen) fits
    ∙ ap (λ (o : Option Candidate). revoke_in_turn k o e) (sym chosen)
turned_runs k cpu e t f (Passes p comes is event) fits =
    ap (λ (u : Turning). revoke_of (turned k cpu u) e) is ∙ passing_runs k p e (passing_ending k cpu p comes fits.blocked fits.late)
    ∙ ap (λ (o : Option Candidate). revoke_in_turn k o e) (sym (passing_none k cpu p comes))

pub turns_leave : (k : KernelState) (cpu : ℕ) → IsKept k → (e : ℕ) → revoke_of (after k cpu) e ≡ revoke_in_turn k (next_to_act k cpu) e
turns_leave k cpu h e =
    outcome (λ s o. revoke_of s e ≡ revoke_in_turn k (next_to_act k cpu) e) k cpu
    (λ none. ap (λ (o : Option Candidate). revoke_in_turn k o e) (sym none)) (λ t f is. turned_runs k cpu e t f is (fits_of k h))

pub begins_asked : (k : KernelState) (ec : ℕ) (range : Range) (own : Bool) → deed k ec ≡ Revokes range own → AsksRevoke k ec range own
begins_asked k ec range own is =
    record { call = subst (Told k ec) is (deed_told k ec); idle = own_none k ec (subst (Idle k ec) is (deed_idle k ec)) }

pub returns_done : (k : KernelState) (ec : ℕ) → deed k ec ≡ Returns → HasRevoked k ec
returns_done k ec is = subst (Told k ec) is (deed_told k ec)
