-- After a turn of one of a side what is of the side is still.
use Rattle.std.proofs.Common.{◌≡◌, ℕ, ◌==◌, List, [], ◌∷◌, ◌++◌, length, refl, sym, ap, ◌∙◌, subst, arith}
use Rattle.std.specs.Prelude.{Bool, true, false, ◌||◌, ◌-◌, not, filter, Contains, slice_get, option_map, option_and_then, Option, Some, None, if◌then◌else◌}
use Rattle.std.proofs.lemmas.Option.{same_Some}
use Rattle.rv_model.specs.Step.{Once, Raised, Went}
use Rattle.nova_objects.specs.declared.object.Object.{Object}
use Rattle.nova_range.specs.declared.status.Status.{Status}
use Rattle.nova_range.specs.declared.status.Status.TheVariants.{Success}
use Rattle.nova_model.specs.Times.{alarm_sm, deadline_sm}
use Rattle.nova_model.specs.declared.times.Due.TheVariants as due
use Rattle.nova_model.specs.Creation.{context_of, count_of, idle_semaphore, object_of}
use Rattle.nova_model.specs.Deeds.{instruction}
use Rattle.nova_model.specs.Edges.{edge_of}
use Rattle.nova_model.specs.Semaphores.{Semaphores, has, lowered, raised, raised_with, semaphore_at, semaphore_in, without_one}
use Rattle.nova_model.specs.State.{Contexts, KernelState, Semaphore, context_in, deadline_of, ec_in, ec_of}
use Rattle.nova_model.specs.declared.context.EcState.{EcState}
use Rattle.nova_model.specs.declared.context.Mark.{Mark}
use Rattle.nova_model.specs.declared.context.Mark.TheVariants as mark
use Rattle.nova_model.specs.declared.context.State.TheVariants.{Blocked}
use Rattle.nova_model.specs.declared.deed.Deed.{Deed}
use Rattle.nova_model.specs.declared.deed.Deed.TheVariants as deeds
use Rattle.nova_model.specs.declared.new_object.NewObject.{NewObject}
use Rattle.nova_model.specs.declared.transfer.Sequel.TheVariants as sequel
use Rattle.law_forest.specs.Effects.{Falls, Passing, Ticks, ends_by, passing_ends, passing_semaphore, Answers, Becomes, Branch, Edit, Edits, Moves, Parks, Raises, Recalled, Resumes, Serves, Stays, all_edited, branched, edit_at, edited, edits_by, made_by, recalls_by, semaphore_by, semaphores_with, steps_by}
use Rattle.law_forest.specs.Turns.{passing, turned}
use Rattle.law_integrity.proofs.Entries.{change_each}
use Rattle.law_forest.proofs.Doing.{set_at}
use Rattle.law_flow.specs.Flow.{IsSide}
use Rattle.law_flow.proofs.Deciding.{IsOwn}
use Rattle.law_flow.proofs.Doing.{by_deed, made_none, branch_none}
use Rattle.law_flow.proofs.Tables.{unjoined}

-- EXECUTION CONTEXTS

-- whom one waits for, and whom it serves, is of the side
pub record IsWell (P : ℕ → Type 0) (o : Option EcState) : Type 0 where
  pub waits : (h : ℕ) → option_and_then edge_of (option_map (λ (x : EcState). x.state) o) ≡ Some h → P h
  pub serves : (c : ℕ) (m : Mark) → option_and_then (λ (x : EcState). x.caller) o ≡ Some (c, m) → P c
  pub blocks : (sm : ℕ) → option_map (λ (x : EcState). x.state) o ≡ Some (Blocked sm) → P sm

abbrev pub AreWell : (ℕ → Type 0) → Contexts → Type 0
AreWell P cs = (n : ℕ) → P n → IsWell P (ec_in cs n)

abbrev pub EditOwn : (ℕ → Type 0) → Edit → Type 0
EditOwn P (Becomes t) = ((h : ℕ) → edge_of t ≡ Some h → P h) × ((sm : ℕ) → t ≡ Blocked sm → P sm)
EditOwn P (Serves caller came ip number items) = P caller
EditOwn P other = Unit {0}

abbrev pub AllOwn : (ℕ → Type 0) → Edits → Type 0
AllOwn P [] = Unit {0}
AllOwn P ((n, e) ∷ es) = EditOwn P e × AllOwn P es

of_well : (P : ℕ → Type 0) (o : Option EcState) → IsWell P o → IsWell P (Some (context_in o))
of_well P None well = record { waits = λ h is. absurd (cc); serves = λ c m is. absurd (cc); blocks = λ sm is. absurd (cc) }
of_well P (Some x) well = well

edited_well : (P : ℕ → Type 0) (x : EcState) (e : Edit) → IsWell P (Some x) → EditOwn P e → IsWell P (Some (edited x e))
edited_well P x Stays well own = well
edited_well P x (Becomes t) well own = record { waits = own.0; serves = well.serves; blocks = λ sm is. own.1 sm (same_Some t (Blocked sm) is) }
edited_well P x (Raises reason q0 q1) well own = record { waits = λ h is. absurd (cc); serves = well.serves; blocks = λ sm is. absurd (cc) }
edited_well P x (Answers status value) well own = record { waits = λ h is. absurd (cc); serves = well.serves; blocks = λ sm is. absurd (cc) }
edited_well P x (Serves caller came ip number true) well own = record { waits = λ h is. absurd (cc); serves = λ c m is. mine c m is; blocks = λ sm is. absurd (cc) }
  where
    mine : (c : ℕ) (m : Mark) → ◌≡◌ {A = Option (ℕ × Mark)} (Some (caller, came)) (Some (c, m)) → P c
    mine c m is = subst P (ap (λ (a : ℕ × Mark). a.0) (same_Some {A = ℕ × Mark} (caller, came) (c, m) is)) own
edited_well P x (Serves caller came ip number false) well own = record { waits = λ h is. absurd (cc); serves = λ c m is. mine c m is; blocks = λ sm is. absurd (cc) }
  where
    mine : (c : ℕ) (m : Mark) → ◌≡◌ {A = Option (ℕ × Mark)} (Some (caller, came)) (Some (c, m)) → P c
    mine c m is = subst P (ap (λ (a : ℕ × Mark). a.0) (same_Some {A = ℕ × Mark} (caller, came) (c, m) is)) own
edited_well P x Parks well own = record { waits = λ h is. absurd (cc); serves = λ c m is. absurd (cc); blocks = λ sm is. absurd (cc) }
edited_well P x (Resumes mark.Call m) well own = record { waits = λ h is. absurd (cc); serves = well.serves; blocks = λ sm is. absurd (cc) }
edited_well P x (Resumes mark.Exit m) well own = record { waits = λ h is. absurd (cc); serves = well.serves; blocks = λ sm is. absurd (cc) }
edited_well P x Recalled well own = record { waits = well.waits; serves = well.serves; blocks = well.blocks }
edited_well P x (Moves regs) well own = record { waits = well.waits; serves = well.serves; blocks = well.blocks }

pub all_well : (P : ℕ → Type 0) (cs : Contexts) (es : Edits) → AreWell P cs → AllOwn P es → AreWell P (all_edited cs es)
all_well P cs [] well own = well
all_well P cs ((n, e) ∷ es) well own =
    all_well P (edit_at cs n e) es (λ m p. set_at (IsWell P) cs n m (edited (ec_of cs n) e) (well m p)
    (λ is. edited_well P (ec_of cs n) e (of_well P (ec_in cs n) (well n (subst P is p))) own.0)) own.1

same_edge : (P : ℕ → Type 0) (h g : ℕ) → P h → Some h ≡ Some g → P g
same_edge P h g p is = subst P (same_Some h g is) p

edits_own : (timed : Type 0) (k : KernelState) (P : ℕ → Type 0) (ec : ℕ) → P ec → (d : Deed) → IsOwn timed P d → AllOwn P (edits_by k ec d)
edits_own timed k P ec p deeds.Steps own = by_once (instruction k ec)
  where
    by_once : (o : Once) → AllOwn P (steps_by ec o)
    by_once (Raised reason q0 q1) = tt
    by_once (Went regs store) = (tt, tt)
edits_own timed k P ec p (deeds.Dies reason q0) own = ((λ h is. absurd (cc), λ sm is. absurd (cc)), tt)
edits_own timed k P ec p (deeds.Waits handler reason q0 q1) own = ((λ h is. same_edge P handler h own is, λ sm is. absurd (cc)), tt)
edits_own timed k P ec p (deeds.Sends handler ip number mtd reason q0 q1) own = ((λ h is. same_edge P handler h own is, λ sm is. absurd (cc)), (p, tt))
edits_own timed k P ec p (deeds.Recalls whose) own = (tt, by_entry (ec_in (edit_at k.contexts ec (Answers Success None)) whose))
  where
    by_entry : (o : Option EcState) → AllOwn P (recalls_by whose o)
    by_entry None = tt
    by_entry (Some x) = (tt, tt)
edits_own timed k P ec p (deeds.Calls handler ip number items) own = ((λ h is. same_edge P handler h own is, λ sm is. absurd (cc)), (p, tt))
edits_own timed k P ec p (deeds.Helps handler) own = ((λ h is. same_edge P handler h own is, λ sm is. absurd (cc)), tt)
edits_own timed k P ec p (deeds.Replies caller came true) own = ((λ h is. absurd (cc), λ sm is. absurd (cc)), tt)
edits_own timed k P ec p (deeds.Replies caller came false) own = (tt, (tt, tt))
edits_own timed k P ec p (deeds.Aborts handler mark.Call) own = (tt, tt)
edits_own timed k P ec p (deeds.Aborts handler mark.Exit) own = ((λ h is. absurd (cc), λ sm is. absurd (cc)), tt)
edits_own timed k P ec p (deeds.Ups sm None) own = (tt, tt)
edits_own timed k P ec p (deeds.Ups sm (Some w)) own = (tt, (tt, tt))
edits_own timed k P ec p (deeds.Blocks sm None) own = ((λ h is. absurd (cc), λ n is. let same : sm ≡ n = cc in subst P same own), tt)
edits_own timed k P ec p (deeds.Blocks sm (Some until)) own = ((λ h is. absurd (cc), λ n is. let same : sm ≡ n = cc in subst P same own.0), tt)
edits_own timed k P ec p deeds.Rests own = tt
edits_own timed k P ec p (deeds.Raises reason q0 q1) own = (tt, tt)
edits_own timed k P ec p (deeds.Refuses call status) own = (tt, tt)
edits_own timed k P ec p (deeds.Tells call value) own = (tt, tt)
edits_own timed k P ec p (deeds.Names pt number) own = (tt, tt)
edits_own timed k P ec p (deeds.Downs sm) own = (tt, tt)
edits_own timed k P ec p (deeds.Makes call target made) own = absurd own
edits_own timed k P ec p (deeds.Opens target domain) own = absurd own
edits_own timed k P ec p (deeds.Gives child cursor) own = absurd own
edits_own timed k P ec p (deeds.Skips reason place cursor) own = tt
edits_own timed k P ec p (deeds.Finishes item end words sequel.Item) own = (tt, tt)
edits_own timed k P ec p (deeds.Finishes item end words sequel.Opened) own = (tt, tt)
edits_own timed k P ec p (deeds.Finishes item end words sequel.Taken) own = ((λ h is. absurd (cc), λ sm is. absurd (cc)), tt)
edits_own timed k P ec p (deeds.Finishes item end words (sequel.Replied caller came)) own = (tt, (tt, tt))
edits_own timed k P ec p (deeds.Revokes range its) own = ((λ h is. absurd (cc), λ sm is. absurd (cc)), tt)
edits_own timed k P ec p (deeds.Removes leaf) own = absurd own
edits_own timed k P ec p deeds.Returns own = (tt, tt)

-- SEMAPHORES

abbrev pub QueueOwn : (ℕ → Type 0) → Option Semaphore → Type 0
QueueOwn P o = (n : ℕ) → has (semaphore_in o).waiting n ≡ true → P n

pub raised_own : (P : ℕ → Type 0) (count : ℕ) (queue : List ℕ) → ((n : ℕ) → has queue n ≡ true → P n) → (n : ℕ) → has (raised_with count queue).waiting n ≡ true → P n
raised_own P count [] own n is = own n is
raised_own P count (w ∷ queue) own n is = own n (later (has queue n) (n == w) is)
  where
    later : (t u : Bool) → t ≡ true → (u || t) ≡ true
    later true true h = refl
    later true false h = refl
    later false u h = absurd (cc)

last_own : (P : ℕ → Type 0) (ec : ℕ) (queue : List ℕ) → P ec → ((n : ℕ) → has queue n ≡ true → P n) → (n : ℕ) → has (queue ++ ec ∷ []) n ≡ true → P n
last_own P ec [] p own n is = let same : ec ≡ n = grind (arith, is) in subst P same p
last_own P ec (w ∷ queue) p own n is = by_test (n == w) refl is (λ h. last_own P ec queue p (λ m there. own m (deeper (m == w) (has queue m) there)) n h)
  where
    deeper : (t u : Bool) → u ≡ true → (t || u) ≡ true
    deeper true u h = refl
    deeper false u h = h

    by_test : (t : Bool) → (n == w) ≡ t → (t || has (queue ++ ec ∷ []) n) ≡ true → (has (queue ++ ec ∷ []) n ≡ true → P n) → P n
    by_test true same h later = own n (ap (λ (t : Bool). t || has queue n) same)
    by_test false other h later = later h

lowered_own : (P : ℕ → Type 0) (ec : ℕ) (s : Semaphore) → P ec → QueueOwn P (Some s) → QueueOwn P (Some (lowered ec s))
lowered_own P ec s p own = by_test (s.count == 0)
  where
    by_test : (t : Bool) → QueueOwn P (Some (if t then record s { waiting = s.waiting ++ ec ∷ [] } else record s { count = s.count - 1 }))
    by_test true = last_own P ec s.waiting p own
    by_test false = own

queues_own : (P : ℕ → Type 0) (all : Semaphores) (ec sm : ℕ) (d : Deed) → P ec → QueueOwn P (semaphore_at all sm) → QueueOwn P (semaphore_at (semaphores_with all (semaphore_by ec d)) sm)
queues_own P all ec sm d p own = change_each (QueueOwn P) all (semaphore_by ec d) sm own (λ change s is there. by_deed_ d change s is (subst (QueueOwn P) there own))
  where
    change_is : (n : ℕ) (f change : Semaphore → Semaphore) (s : Semaphore) → ◌≡◌ {A = Option (ℕ × (Semaphore → Semaphore))} (Some (n, f)) (Some (sm, change)) → QueueOwn P (Some (f s)) → QueueOwn P (Some (change s))
    change_is n f change s is q = subst (λ (g : Semaphore → Semaphore). QueueOwn P (Some (g s))) (ap (λ (a : ℕ × (Semaphore → Semaphore)). a.1) (same_Some {A = ℕ × (Semaphore → Semaphore)} (n, f) (sm, change) is)) q

    by_deed_ : (d : Deed) (change : Semaphore → Semaphore) (s : Semaphore) → semaphore_by ec d ≡ Some (sm, change) → QueueOwn P (Some s) → QueueOwn P (Some (change s))
    by_deed_ (deeds.Ups n woken) change s is q = change_is n raised change s is (raised_own P s.count s.waiting q)
    by_deed_ (deeds.Downs n) change s is q = change_is n (lowered ec) change s is (lowered_own P ec s p q)
    by_deed_ (deeds.Blocks n until) change s is q = change_is n (lowered ec) change s is (lowered_own P ec s p q)
    by_deed_ other change s is q = absurd (cc)

-- A TURN

pub turned_side : (timed : Type 0) (k : KernelState) (S P : ℕ → Type 0) → IsSide k S P → (cpu ec sc : ℕ) → P ec → (d : Deed) → IsOwn timed P d → (stirs : ℕ → Bool) → IsSide (turned k cpu (by_deed k ec sc d stirs)) S P
turned_side timed k S P side cpu ec sc p d own stirs = record {
  holds = λ e there s kind. side.holds e (subst (λ (o : Option Branch). Contains (branched k.delegations o).list e) (branch_none timed k P ec d own) there) s kind;
  handlers = λ n handler mtd ip q is. side.handlers n handler mtd ip q (sym (ap (λ (l : List Object). slice_get l n) (unjoined k.objects object_of (made_by d) made)) ∙ is);
  edges = λ n handler q is. (well n q).waits handler is;
  callers = λ n caller came q is. (well n q).serves caller came is;
  queues = λ sm n q is. queue sm q n is;
  blocked = λ n sm q is. (well n q).blocks sm is;
  members = λ n pd its kind event is s. side.members n pd its kind event (sym (ap (λ (l : List Object). slice_get l n) (unjoined k.objects object_of (made_by d) made)) ∙ is) s;
}
  where
    made : made_by d ≡ None
    made = made_none timed P d own

    well : AreWell P (turned k cpu (by_deed k ec sc d stirs)).contexts
    well =
        subst (AreWell P) (sym (unjoined (all_edited k.contexts (edits_by k ec d)) (context_of (length k.objects)) (made_by d) made))
        (all_well P k.contexts (edits_by k ec d) (λ n q. record { waits = λ h is. side.edges n h q is; serves = λ c m is. side.callers n c m q is; blocks = λ sm is. side.blocked n sm q is }) (edits_own timed k P ec p d own))

    queue : (sm : ℕ) → P sm → QueueOwn P (semaphore_at (turned k cpu (by_deed k ec sc d stirs)).semaphores sm)
    queue sm q =
        subst (λ (all : Semaphores). QueueOwn P (semaphore_at all sm))
        (sym (unjoined (semaphores_with k.semaphores (semaphore_by ec d)) (λ (m : NewObject). option_map idle_semaphore (count_of m)) (made_by d) made))
        (queues_own P k.semaphores ec sm d p (λ n is. side.queues sm n q is))

-- WHAT COMES BY ITSELF

without_own : (P : ℕ → Type 0) (ec : ℕ) (queue : List ℕ) → ((n : ℕ) → has queue n ≡ true → P n) → (n : ℕ) → has (filter (λ (w : ℕ). not (w == ec)) queue) n ≡ true → P n
without_own P ec [] own n is = own n is
without_own P ec (w ∷ queue) own n is = by_test (w == ec) is (without_own P ec queue (λ m there. own m (deeper (m == w) (has queue m) there)) n)
  where
    deeper : (t u : Bool) → u ≡ true → (t || u) ≡ true
    deeper true u h = refl
    deeper false u h = h

    by_first : (t : Bool) → (n == w) ≡ t → (t || has (filter (λ (x : ℕ). not (x == ec)) queue) n) ≡ true → (has (filter (λ (x : ℕ). not (x == ec)) queue) n ≡ true → P n) → P n
    by_first true same h rest = own n (ap (λ (t : Bool). t || has queue n) same)
    by_first false other h rest = rest h

    by_test : (t : Bool) → has (if not t then w ∷ filter (λ (x : ℕ). not (x == ec)) queue else filter (λ (x : ℕ). not (x == ec)) queue) n ≡ true →
        (has (filter (λ (x : ℕ). not (x == ec)) queue) n ≡ true → P n) → P n
    by_test true h rest = rest h
    by_test false h rest = by_first (n == w) refl h rest

ends_own : (P : ℕ → Type 0) (o : Option (ℕ × Status)) → AllOwn P (ends_by o)
ends_own P None = tt
ends_own P (Some (w, status)) = (tt, tt)

queues_passed : (k : KernelState) (P : ℕ → Type 0) (p : Passing) (sm : ℕ) → QueueOwn P (semaphore_at k.semaphores sm) → QueueOwn P (semaphore_at (semaphores_with k.semaphores (passing_semaphore k p)) sm)
queues_passed k P p sm own = change_each (QueueOwn P) k.semaphores (passing_semaphore k p) sm own (λ change s is there. by_passing p change s is (subst (QueueOwn P) there own))
  where
    change_is : (n : ℕ) (f change : Semaphore → Semaphore) (s : Semaphore) → ◌≡◌ {A = Option (ℕ × (Semaphore → Semaphore))} (Some (n, f)) (Some (sm, change)) → QueueOwn P (Some (f s)) → QueueOwn P (Some (change s))
    change_is n f change s is q = subst (λ (g : Semaphore → Semaphore). QueueOwn P (Some (g s))) (ap (λ (a : ℕ × (Semaphore → Semaphore)). a.1) (same_Some {A = ℕ × (Semaphore → Semaphore)} (n, f) (sm, change) is)) q

    by_passing : (p : Passing) (change : Semaphore → Semaphore) (s : Semaphore) → passing_semaphore k p ≡ Some (sm, change) → QueueOwn P (Some s) → QueueOwn P (Some (change s))
    by_passing (Falls (due.Alarm n)) change s is q = change_is (alarm_sm (slice_get k.times.alarms n)) raised change s is (raised_own P s.count s.waiting q)
    by_passing (Falls (due.Deadline ec)) change s is q = change_is (deadline_sm (deadline_of k.times ec)) (without_one ec) change s is (without_own P ec s.waiting q)
    by_passing Ticks change s is q = absurd (cc)

pub passed_side : (k : KernelState) (S P : ℕ → Type 0) → IsSide k S P → (cpu : ℕ) (p : Passing) → IsSide (turned k cpu (passing k p)) S P
passed_side k S P side cpu p = record {
  holds = side.holds;
  handlers = side.handlers;
  edges = λ n handler q is. (well n q).waits handler is;
  callers = λ n caller came q is. (well n q).serves caller came is;
  queues = λ sm n q is. queues_passed k P p sm (λ m there. side.queues sm m q there) n is;
  blocked = λ n sm q is. (well n q).blocks sm is;
  members = side.members;
}
  where
    well : AreWell P (all_edited k.contexts (ends_by (passing_ends k p)))
    well = all_well P k.contexts (ends_by (passing_ends k p)) (λ n q. record { waits = λ h is. side.edges n h q is; serves = λ c m is. side.callers n c m q is; blocks = λ sm is. side.blocked n sm q is }) (ends_own P (passing_ends k p))
