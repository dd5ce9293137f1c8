-- A context that gives items is done with them in time: each of its own turns gives of the places that are left, or ends an item.
use Rattle.std.proofs.Common.{◌≡◌, ℕ, suc, ◌<◌, ◌≤◌, ◌+◌, ◌-◌, List, [], ◌∷◌, length, refl, sym, ap, ap₂, ◌∙◌, subst, arith}
use Rattle.std.specs.Prelude.{◌≢◌, Bool, true, false, ◌==◌, if◌then◌else◌, Option, Some, None, is_some, option_map, slice_get}
use Rattle.std.proofs.lemmas.Bool.{eq-eqb, eqb-true}
use Rattle.rv_model.specs.Registers.{Registers, reg}
use Rattle.nova_utcb.specs.Messages.{counted_items, item_at}
use Rattle.nova_model.specs.Boot.{Scenario, boot}
use Rattle.nova_model.specs.Choice.{Candidate, next_to_act}
use Rattle.nova_model.specs.Creation.{context_of}
use Rattle.nova_model.specs.Deeds.{actor_after, deed, gave, skipped, transfer_after}
use Rattle.nova_model.specs.Deliveries.{delivery, given_to, taken_from}
use Rattle.nova_model.specs.Edges.{acts, is_giving, state_in}
use Rattle.nova_model.specs.Runs.{after, run}
use Rattle.nova_model.specs.State.{Contexts, KernelState, context, ec_in, ec_of, message, transfer}
use Rattle.nova_model.specs.declared.budget.Budget.{Budget}
use Rattle.nova_model.specs.declared.context.Mark.{Mark}
use Rattle.nova_model.specs.declared.context.State.{State}
use Rattle.nova_model.specs.declared.context.State.TheVariants.{Granting, Replying}
use Rattle.nova_model.specs.declared.deed.Deed.{Deed}
use Rattle.nova_model.specs.declared.deed.Deed.TheVariants as deeds
use Rattle.nova_model.specs.declared.deed.Deed.TheVariants.{Finishes, Gives, Skips}
use Rattle.nova_model.specs.declared.event.Event.{Event}
use Rattle.nova_model.specs.declared.new_object.NewObject.{NewObject}
use Rattle.nova_model.specs.declared.transfer.Delivery.{Delivery}
use Rattle.nova_model.specs.declared.transfer.Sequel.TheVariants as sequel
use Rattle.nova_model.specs.declared.transfer.Transfer.{Transfer}
use Rattle.law_forest.specs.Effects.{all_edited, edits_by, joined, made_by}
use Rattle.law_forest.specs.Turns.{Acts, IsTurning, Passes, Turning, acting, turned}
use Rattle.law_forest.proofs.Turning.{outcome, passing_none}
use Rattle.law_turns.specs.Giving.{Ends, GoesOn, IsAtItem, Next, Stays, source, source_in}
use Rattle.law_turns.proofs.Awaiting.{acts_there, same_or_not}
use Rattle.law_turns.proofs.Counting.{at_itself, now_is, others_stay}
use Rattle.law_turns.proofs.Giving.{at, transfers_by}
use Rattle.law_turns.proofs.GivingPremises.{Wants, deed_wants, wants_quiet}
use Rattle.law_turns.proofs.ItemsInOrder.{items_go_on}
use Rattle.law_turns.proofs.Messages.{Shows, deed_shows}
use Rattle.law_turns.proofs.Ordered.{items_present, items_stay}
use Rattle.law_turns.proofs.Referring.{deed_asks}
use Rattle.law_turns.proofs.Serving.{actor_of}
use Rattle.law_turns.proofs.States.{own_state}
use Rattle.law_turns.proofs.TablesFit.{TablesFit, boot_run_fits, chosen_acts, gives_there}
use Rattle.law_revocation.specs.Along.{acts_in, acts_once}
use Rattle.law_revocation.proofs.Ending.{at_most_once}
use Rattle.law_response.specs.Items.{GivesAlong, item_turns, later_turns, turns_from, turns_of_items}
use Rattle.law_response.specs.Waits.{HasShared, IsSchedule, StaysRunnable, acts_itself, paid_in}
use Rattle.law_response.proofs.Responding.{reached_is_kept}
use Rattle.law_response.proofs.Revoking.{own_once}
use Rattle.law_response.proofs.Selves.{itself_leads, itself_may, kept_state}
use Rattle.law_response.proofs.Sharing.{reached_shared}
use Rattle.law_response.proofs.Waiting.{IsReached, after_schedule, reached_after}
use Rattle.law_response.proofs.Keeping.{after_keeps}
use Rattle.law_response.proofs.Places.{Falls, Fewer, deed_falls, from_is}

-- WHERE IT IS THEN

-- it is where it was, or at a cursor from which less is left, or at the next item
data Moves (k : KernelState) (ec : ℕ) (t : Transfer) (acts : ℕ) : Type 0 where
  Rests : t ≡ transfer k ec → acts ≡ 0 → Moves k ec t acts
  Parts : t.item ≡ (transfer k ec).item → Fewer k ec t.cursor → acts ≡ 1 → Moves k ec t acts
  Items : t.item ≡ (transfer k ec).item + 1 → t.cursor ≡ 0 → acts ≡ 1 → Moves k ec t acts

own_moves : (k : KernelState) (a : ℕ) (d : Deed) → Wants k a d → Shows k a d → Falls k a d → delivery k a (context k a).state ≢ None → is_giving (context k a).state ≡ true →
    (made_by d ≡ None → is_giving (actor_after (context k a) d).state ≡ true) → option_map is_some (slice_get k.transfers a) ≡ Some true → Moves k a (at (transfers_by k a d) a) 1
own_moves k a deeds.Rests wants shows falls present gives now there = absurd (present wants)
own_moves k a (Gives child cursor) wants shows falls present gives now there =
    let is = at_itself k.transfers a (gave (transfer k a) cursor) there in
    Parts (ap (λ (t : Transfer). t.item) is) (subst (Fewer k a) (sym (ap (λ (t : Transfer). t.cursor) is)) falls) refl
own_moves k a (Skips reason place cursor) wants shows falls present gives now there =
    let is = at_itself k.transfers a (skipped (transfer k a) cursor) there in
    Parts (ap (λ (t : Transfer). t.item) is) (subst (Fewer k a) (sym (ap (λ (t : Transfer). t.cursor) is)) falls) refl
own_moves k a (Finishes item end words sequel.Item) wants shows falls present gives now there =
    let is = at_itself k.transfers a (transfer_after item sequel.Item) there in
    Items (ap (λ (t : Transfer). t.item) is ∙ ap (λ (n : ℕ). n + 1) shows.number) (ap (λ (t : Transfer). t.cursor) is) refl
own_moves k a (Finishes item end words sequel.Opened) wants shows falls present gives now there = absurd (let still = now refl in cc)
own_moves k a (Finishes item end words sequel.Taken) wants shows falls present gives now there = absurd (let still = now refl in cc)
own_moves k a (Finishes item end words (sequel.Replied caller mark)) wants shows falls present gives now there = absurd (let still = now refl in cc)
own_moves k a other wants shows falls present gives now there = absurd (let quiet = wants_quiet k a other refl wants in cc)

acts_none : (ec : ℕ) (c : Candidate) → ec ≢ c.actor → acts_once ec (Some c) ≡ 0
acts_none ec c other = by_test (c.actor == ec) refl
  where
    by_test : (t : Bool) → (c.actor == ec) ≡ t → ◌≡◌ {A = ℕ} (if t then 1 else 0) 0
    by_test true is = absurd (other (sym (eqb-true c.actor ec is)))
    by_test false is = refl

turned_moves : (k : KernelState) (cpu ec : ℕ) (t : Turning) (e : Event) → IsTurning k cpu t e → TablesFit k → delivery k ec (context k ec).state ≢ None → is_giving (context k ec).state ≡ true →
    is_giving (context (turned k cpu t) ec).state ≡ true → Moves k ec (transfer (turned k cpu t) ec) (acts_once ec (next_to_act k cpu))
turned_moves k cpu ec t e (Acts c chosen is event) fits present gives now =
    subst (λ (u : Turning). Moves k ec (transfer (turned k cpu u) ec) (acts_once ec (next_to_act k cpu))) (sym is)
    (subst (λ (o : Option Candidate). Moves k ec (transfer (turned k cpu (acting k c)) ec) (acts_once ec o)) (sym chosen)
    (same_or_not ec c.actor (Moves k ec (transfer (turned k cpu (acting k c)) ec) (acts_once ec (Some c))) itself another))
  where
    a : ℕ
    a = c.actor

    d : Deed
    d = deed k a

    able : acts k.contexts a ≡ true
    able = chosen_acts k cpu c chosen

    cs : Contexts
    cs = all_edited k.contexts (edits_by k a d)

    still : is_giving (context (turned k cpu (acting k c)) ec).state ≡ true
    still = sym (ap (λ (u : Turning). is_giving (context (turned k cpu u) ec).state) is) ∙ now

    goes : ec ≡ a → made_by d ≡ None → is_giving (actor_after (context k a) d).state ≡ true
    goes same none =
        ap is_giving (sym (own_state k a d (actor_of k.contexts a able) (deed_asks k a) fits))
        ∙ sym (ap (λ (m : Option NewObject). is_giving (ec_of (joined cs (option_map (context_of (length k.objects)) m)) a).state) none)
        ∙ sym (ap (λ (n : ℕ). is_giving (context (turned k cpu (acting k c)) n).state) same)
        ∙ still

    itself : ec ≡ a → Moves k ec (transfer (turned k cpu (acting k c)) ec) (acts_once ec (Some c))
    itself same =
        let once : acts_once ec (Some c) ≡ 1 = ap (λ (b : Bool). if b then 1 else 0) (eq-eqb c.actor ec (sym same)) in
        let moves = own_moves k a d (deed_wants k a) (deed_shows k a) (deed_falls k a) (subst (λ (n : ℕ). delivery k n (context k n).state ≢ None) same present)
        (subst (λ (n : ℕ). is_giving (context k n).state ≡ true) same gives) (goes same) (gives_there k a (acts_there k.contexts a able) fits) in
        subst (λ (n : ℕ). Moves k ec (transfer (turned k cpu (acting k c)) ec) n) (sym once)
        (subst (λ (n : ℕ). Moves k n (transfer (turned k cpu (acting k c)) n) 1) (sym same) (subst (λ (x : Transfer). Moves k a x 1) (sym (now_is k a d a)) moves))

    another : ec ≢ a → Moves k ec (transfer (turned k cpu (acting k c)) ec) (acts_once ec (Some c))
    another other = Rests (others_stay k a ec d other) (acts_none ec c other)
turned_moves k cpu ec t e (Passes p comes is event) fits present gives now =
    subst (λ (u : Turning). Moves k ec (transfer (turned k cpu u) ec) (acts_once ec (next_to_act k cpu))) (sym is) (Rests refl (ap (acts_once ec) (passing_none k cpu p comes)))

after_moves : (k : KernelState) (cpu ec : ℕ) → TablesFit k → delivery k ec (context k ec).state ≢ None → is_giving (context k ec).state ≡ true →
    is_giving (context (after k cpu) ec).state ≡ true → Moves k ec (transfer (after k cpu) ec) (acts_once ec (next_to_act k cpu))
after_moves k cpu ec fits present gives =
    outcome (λ s o. is_giving (context s ec).state ≡ true → Moves k ec (transfer s ec) (acts_once ec (next_to_act k cpu))) k cpu
    (λ none now. Rests refl (ap (acts_once ec) none)) (λ t e is now. turned_moves k cpu ec t e is fits present gives now)

-- WHAT IS LEFT THEN

turns_same : (k s : KernelState) (ec : ℕ) (o : Option ℕ) (item cursor : ℕ) → (context s ec).regs ≡ (context k ec).regs → ((thread : ℕ) → o ≡ Some thread → message s thread ≡ message k thread) →
    turns_from s ec o item cursor ≡ turns_from k ec o item cursor
turns_same k s ec None item cursor regs words = ap (λ (r : Registers). item_turns (reg r 12, 1) cursor) regs
turns_same k s ec (Some thread) item cursor regs words =
    ap (λ (m : List ℕ). item_turns (item_at m item) cursor + later_turns m (item + 1) (counted_items m - (item + 1))) (words thread refl)

abbrev count_of : KernelState → Option ℕ → ℕ
count_of k None = 1
count_of k (Some thread) = counted_items (message k thread)

count_same : (k s : KernelState) (o : Option ℕ) → ((thread : ℕ) → o ≡ Some thread → message s thread ≡ message k thread) → count_of s o ≡ count_of k o
count_same k s None words = refl
count_same k s (Some thread) words = ap counted_items (words thread refl)

items_shown : (k : KernelState) (ec : ℕ) (v : Delivery) → delivery k ec (context k ec).state ≡ Some v → v.items ≡ count_of k (source k ec)
items_shown k ec v present = by_state (context k ec).state (context k ec).caller refl present
  where
    by_state : (s : State) (c : Option (ℕ × Mark)) → (context k ec).caller ≡ c → delivery k ec s ≡ Some v → v.items ≡ count_of k (source_in ec s c)
    by_state (Granting (Some domain)) c has is = let same : 1 ≡ v.items = cc in sym same
    by_state (Granting None) None has is = absurd (let none = sym (ap (taken_from k ec (transfer k ec).item) has) ∙ is in cc)
    by_state (Granting None) (Some (caller, mark)) has is =
        let at = sym (ap (taken_from k ec (transfer k ec).item) has) ∙ is in let same : counted_items (message k caller) ≡ v.items = cc in sym same
    by_state Replying None has is = absurd (let none = sym (ap (given_to k ec (transfer k ec).item) has) ∙ is in cc)
    by_state Replying (Some (caller, mark)) has is =
        let at = sym (ap (given_to k ec (transfer k ec).item) has) ∙ is in let same : counted_items (message k ec) ≡ v.items = cc in sym same
    by_state other c has is = absurd (cc)

next_falls : (k : KernelState) (ec : ℕ) (o : Option ℕ) (item cursor : ℕ) → item + 1 < count_of k o → turns_from k ec o (item + 1) 0 + 1 ≤ turns_from k ec o item cursor
next_falls k ec None item cursor below = absurd (omega (arith, below))
next_falls k ec (Some thread) item cursor below =
    let m = message k thread in
    let rest = counted_items m - (item + 1 + 1) in
    let more : counted_items m - (item + 1) ≡ suc rest = omega (arith, below) in
    let all : later_turns m (item + 1) (counted_items m - (item + 1)) ≡ item_turns (item_at m (item + 1)) 0 + later_turns m (item + 1 + 1) rest = ap (later_turns m (item + 1)) more in
    omega (arith, all)

-- a turn, in a state that is reached
pub of_reached : (P : KernelState → Type 0) → ((s : Scenario) (turns : List ℕ) → P (run (boot s) turns)) → (k : KernelState) → IsReached k → P k
of_reached P all k r = subst P (sym r.is) (all r.scenario r.turns)

turn_falls : (k : KernelState) (by ec : ℕ) → IsReached k → is_giving (context k ec).state ≡ true → is_giving (context (after k by) ec).state ≡ true →
    turns_of_items (after k by) ec + acts_once ec (next_to_act k by) ≤ turns_of_items k ec
turn_falls k by ec r gives now = by_moves moves
  where
    s : KernelState
    s = after k by

    at_item : (x : KernelState) → IsReached x → is_giving (context x ec).state ≡ true → IsAtItem x ec
    at_item x reached = of_reached (λ y. is_giving (context y ec).state ≡ true → IsAtItem y ec) (λ scenario turns. items_present scenario turns ec) x reached

    fits : TablesFit k
    fits = of_reached TablesFit boot_run_fits k r

    words : (thread : ℕ) → source k ec ≡ Some thread → message s thread ≡ message k thread
    words = of_reached (λ y. (thread : ℕ) → source y ec ≡ Some thread → message (after y by) thread ≡ message y thread) (λ scenario turns. items_stay scenario turns by ec) k r

    state : GoesOn k s ec → (context s ec).state ≡ (context k ec).state
    state (Stays same item) = same
    state (Next same item) = same
    state (Ends quiet v present last) = absurd (let both : true ≡ false = sym now ∙ quiet in cc)

    both : ((context s ec).regs ≡ (context k ec).regs) × ((context s ec).caller ≡ (context k ec).caller)
    both = after_keeps k by fits ec gives now

    same_source : source s ec ≡ source k ec
    same_source =
        ap₂ (source_in ec) (state (of_reached (λ y. is_giving (context y ec).state ≡ true → GoesOn y (after y by) ec) (λ scenario turns. items_go_on scenario turns by ec) k r gives)) both.1

    left : turns_of_items s ec ≡ turns_from k ec (source k ec) (transfer s ec).item (transfer s ec).cursor
    left =
        ap (λ (o : Option ℕ). turns_from s ec o (transfer s ec).item (transfer s ec).cursor) same_source
        ∙ turns_same k s ec (source k ec) (transfer s ec).item (transfer s ec).cursor both.0 words

    moves : Moves k ec (transfer s ec) (acts_once ec (next_to_act k by))
    moves =
        after_moves k by ec fits
        (λ none. let i = at_item k r gives in let two = sym none ∙ i.present in cc) gives now

    by_moves : Moves k ec (transfer s ec) (acts_once ec (next_to_act k by)) → turns_of_items s ec + acts_once ec (next_to_act k by) ≤ turns_of_items k ec
    by_moves (Rests same none) =
        let at = ap (λ (t : Transfer). turns_from k ec (source k ec) t.item t.cursor) same in omega (arith, left, at, none)
    by_moves (Parts item fewer once) =
        let at = ap (λ (n : ℕ). turns_from k ec (source k ec) n (transfer s ec).cursor) item in omega (arith, left, at, fewer, once)
    by_moves (Items item cursor once) =
        let i = at_item s (reached_after k by r) now in
        let among = i.among in
        let counts = items_shown s ec i.item i.present ∙ ap (count_of s) same_source ∙ count_same k s (source k ec) words in
        let at = ap₂ (turns_from k ec (source k ec)) item cursor in
        let less = next_falls k ec (source k ec) (transfer k ec).item (transfer k ec).cursor (omega (arith, among, counts, item)) in
        omega (arith, left, at, less, once)

some_left : (k : KernelState) (ec : ℕ) → 1 ≤ turns_of_items k ec
some_left k ec = let is = from_is k ec (source k ec) (transfer k ec).item (transfer k ec).cursor in omega (arith, is)

own_turns : (k : KernelState) (turns : List ℕ) (ec : ℕ) → IsReached k → GivesAlong k ec turns → acts_in k ec turns ≤ turns_of_items k ec
own_turns k [] ec r gives = omega arith
own_turns k (by ∷ []) ec r (gives, along) =
    let once = at_most_once ec (next_to_act k by) in let some = some_left k ec in omega (arith, once, some)
own_turns k (by ∷ then_ ∷ turns) ec r (gives, along) =
    let less = turn_falls k by ec r gives along.0 in
    let rest = own_turns (after k by) (then_ ∷ turns) ec (reached_after k by r) along in
    omega (arith, less, rest)

pub items_end : (s : Scenario) (before turns : List ℕ) (ec : ℕ) → GivesAlong (run (boot s) before) ec turns → acts_in (run (boot s) before) ec turns ≤ turns_of_items (run (boot s) before) ec
items_end s before turns ec gives = own_turns (run (boot s) before) turns ec (record { scenario = s; turns = before; is = refl }) gives

-- IT STAYS RUNNABLE MEANWHILE

gives_itself : (s : State) → is_giving s ≡ true → acts_itself s ≡ true
gives_itself (Granting items) gives = refl
gives_itself Replying gives = refl
gives_itself other gives = absurd cc

record Pays (k : KernelState) (turns : List ℕ) (sc ec cpu : ℕ) : Type 0 where
  stays : StaysRunnable k cpu ec turns
  paid : paid_in k sc turns ≤ acts_in k ec turns

pays : (k : KernelState) (turns : List ℕ) (sc ec cpu priority quantum : ℕ) (b : Budget) → IsReached k → IsSchedule k sc ec cpu priority quantum b → GivesAlong k ec turns → Pays k turns sc ec cpu
pays k [] sc ec cpu priority quantum b r its gives = record { stays = tt; paid = omega arith }
pays k (by ∷ turns) sc ec cpu priority quantum b r its (gives, along) =
    let state = (context k ec).state in
    let acts = gives_itself state gives in
    let at : state_in k.contexts ec ≡ Some state = kept_state (ec_in k.contexts ec) state refl acts in
    let kept = reached_is_kept k r in
    let may = itself_may k ec state kept at acts in
    let once = own_once k by sc ec cpu priority quantum b its (itself_leads k ec state kept at acts) in
    let a = after_schedule k by sc ec cpu priority quantum b its in
    let rest = pays (after k by) turns sc ec cpu priority quantum a.budget (reached_after k by r) a.still along in
    record { stays = (λ same calm. may, rest.stays); paid = (let fewer = rest.paid in omega (arith, once, fewer)) }

pub items_end_in_time : (s : Scenario) (before turns : List ℕ) (sc ec cpu priority quantum : ℕ) (b : Budget) → 1 ≤ s.root.quantum →
    IsSchedule (run (boot s) before) sc ec cpu priority quantum b → GivesAlong (run (boot s) before) ec turns →
    HasShared (run (boot s) before) turns sc ec cpu priority quantum b × (paid_in (run (boot s) before) sc turns ≤ turns_of_items (run (boot s) before) ec)
items_end_in_time s before turns sc ec cpu priority quantum b least its gives =
    let k = run (boot s) before in
    let so = pays k turns sc ec cpu priority quantum b (record { scenario = s; turns = before; is = refl }) its gives in
    let paid = so.paid in
    let ends = items_end s before turns ec gives in
    (reached_shared s before turns sc ec cpu priority quantum b least its so.stays, omega (arith, paid, ends))
