-- From what an execution context's deed touches, and from what comes by itself, to what the turn of its processor does.
use Rattle.std.proofs.Common.{◌≡◌, ℕ, ◌-◌, List, [], ◌∷◌, ap, ap₂, sym, arith, ◌∙◌, subst, refl, inl, inr}
use Rattle.std.specs.Prelude.{Bool, true, false, nat_le, IfOk, Result, Ok, Err, Option, Some, None, IsSome, is_some, slice_get, option_and_then, option_map, Contains, if◌then◌else◌}
use Rattle.std.proofs.lemmas.Bool.Decides.{nat_tests}
use Rattle.std.proofs.lemmas.Option.{same_Some}
use Rattle.rv_model.specs.Registers.{Registers}
use Rattle.rv_model.specs.Step.{Once, Raised, Store, Went}
use Rattle.nova_range.specs.Rights.{write_right}
use Rattle.nova_model.specs.AddressSpaces.{frame_for}
use Rattle.nova_model.specs.Choice.{Candidate, choice, in_front, next_to_act}
use Rattle.nova_model.specs.Deeds.{address_space, deed, deed_in, instruction, ready, stepping}
use Rattle.nova_model.specs.Inputs.{frame_of_store, in_ram, store_of}
use Rattle.nova_model.specs.State.{KernelState, context, context_at, context_in}
use Rattle.nova_model.specs.Times.{Entry, clock, due_on, if_due, next_entry, until_due}
use Rattle.nova_model.specs.declared.context.EcState.{EcState}
use Rattle.nova_model.specs.declared.context.State.TheVariants.{Dead}
use Rattle.nova_model.specs.declared.deed.Deed.{Deed}
use Rattle.nova_model.specs.declared.deed.Deed.TheVariants.{Steps}
use Rattle.nova_model.specs.declared.event.Event.{Event}
use Rattle.nova_model.specs.declared.times.Due.{Due}
use Rattle.law_forest.specs.Effects.{Falls, Passing, Ticks, passing_effect}
use Rattle.law_forest.specs.Turns.{Acts, IsPassing, IsTurning, Passes, Turning, acting}
use Rattle.law_forest.proofs.Members.{contains_from_in, in_from_contains}
use Rattle.law_forest.proofs.Turning.{acts_chosen, acts_next, idle_none, passing_none}
use Rattle.law_turns.proofs.Passing.{passing_ending}
use Rattle.law_turns.proofs.Referring.{deed_asks}
use Rattle.law_turns.proofs.Serving.{actor_of}
use Rattle.law_turns.proofs.TablesFit.{chosen_acts}
use Rattle.law_isolation.specs.Sound.{IsSound}
use Rattle.law_leases.proofs.Homes.{chosen_home}
use Rattle.law_swaps.specs.Touches.{ChangesWithin, Executes, IsTouched, ReadsWithin, Touch, frame_stored_to, frames_read}
use Rattle.nova_touching.specs.Looking.{IsSight, goes_on, stored_by}
use Rattle.nova_touching.specs.Marks.{nothing}
use Rattle.nova_touching.specs.Touching.{ActsAtMost, IsDecided, TouchesAtMost, frames_seen, is_inner, step_touch}
use Rattle.nova_touching.specs.Whom.{AreListed, is_moving, moves_by, whom_by, whom_of}
use Rattle.nova_touching.specs.declared.looking.Sight.{Sight}
use Rattle.nova_touching.specs.declared.whom.Whom.{Whom}
use Rattle.nova_touching.specs.declared.whom.Whom.TheVariants.{Nobody, TheBlocked}
use Rattle.nova_touching.proofs.Fits.{IsWhom, deed_fits}
use Rattle.nova_touching.proofs.Branching.{leads_on}
use Rattle.nova_touching.proofs.Within.{deed_within, ending_within}

-- of nobody all are listed
nobody_listed : (k : KernelState) (processors : List ℕ) → AreListed k Nobody processors
nobody_listed k processors n x there among = absurd cc

whom_listed : (k : KernelState) (ec : ℕ) (processors : List ℕ) → IsWhom (whom_of (context k ec)) (deed k ec) → AreListed k (whom_of (context k ec)) processors →
    AreListed k (whom_by (deed k ec)) processors
whom_listed k ec processors (inl nobody) listed = subst (λ (w : Whom). AreListed k w processors) (sym nobody) (nobody_listed k processors)
whom_listed k ec processors (inr same) listed = subst (λ (w : Whom). AreListed k w processors) (sym same) listed

-- BY WHAT IS SEEN

frames_of : (k : KernelState) (ec : ℕ) (s : Sight) → IsSight k ec s → frames_seen s ≡ frames_read k ec
frames_of k ec s is = ap₂ (λ (o p : Option ℕ). in_front o (in_front p [])) is.fetched is.loaded

-- the frame of a store, by where its address leads
stored_is : (k : KernelState) (ec : ℕ) (once : Once) → option_and_then (frame_of_store k ec) (store_of once) ≡ option_and_then (in_ram k) (stored_by (address_space k ec) once)
stored_is k ec (Raised reason q0 q1) = refl
stored_is k ec (Went regs None) = refl
stored_is k ec (Went regs (Some s)) = refl

-- only an instruction that goes on stores
record IsStoring (k : KernelState) (ec frame : ℕ) (d : Deed) : Type 0 where
  steps : d ≡ Steps
  stores : option_and_then (in_ram k) (stored_by (address_space k ec) (instruction k ec)) ≡ Some frame

storing : (k : KernelState) (ec frame : ℕ) (d : Deed) → frame_stored_to k ec d ≡ Some frame → IsStoring k ec frame d
storing k ec frame Steps is = record { steps = refl; stores = sym (stored_is k ec (instruction k ec)) ∙ is }
storing k ec frame other is = absurd cc

went : (k : KernelState) (ec : ℕ) (regs : Registers) (store : Option Store) → Executes (context k ec) → instruction k ec ≡ Went regs store → deed k ec ≡ Steps
unfolding deed
went k ec regs store at goes = ap (deed_in k ec) at.state ∙ (ap (ready k ec) at.recall ∙ ap (stepping k ec) goes)

first_in : (o : Option ℕ) (frame : ℕ) → o ≡ Some frame → Contains (in_front o []) frame
first_in o frame is = subst (λ (x : Option ℕ). Contains (in_front x []) frame) (sym is) (contains_from_in (frame ∷ []) frame (inl refl))

inner_at : (k : KernelState) (o : Option ℕ) (frame : ℕ) → is_inner k o ≡ true → o ≡ Some frame → IsSome (slice_get k.memory.ram frame)
inner_at k None frame inner is = absurd cc
inner_at k (Some f) frame inner is = subst (λ (n : ℕ). IsSome (slice_get k.memory.ram n)) (same_Some f frame is) (is_there (slice_get k.memory.ram f) inner)
  where
    is_there : (o : Option (List ℕ)) → is_some o ≡ true → IsSome o
    is_there None h = absurd cc
    is_there (Some x) h = refl

-- an instruction that goes on
pub steps_at_most : (k : KernelState) (ec : ℕ) (s : Sight) → IsSight k ec s → s.goes_on ≡ true → Executes (context k ec) → ActsAtMost k ec (step_touch k s)
steps_at_most k ec s is on at = by_once (instruction k ec) refl
  where
    by_once : (o : Once) → instruction k ec ≡ o → ActsAtMost k ec (step_touch k s)
    by_once (Raised reason q0 q1) came = absurd (let no : goes_on (instruction k ec) ≡ false = ap goes_on came in let yes : goes_on (instruction k ec) ≡ true = sym is.goes_on ∙ on in cc)
    by_once (Went regs store) came =
        let does = went k ec regs store at came in
        let stored : s.stored ≡ stored_by (address_space k ec) (Went regs store) = is.stored ∙ ap (stored_by (address_space k ec)) came in record {
          reads = λ executes. frames_of k ec s is;
          writes = λ frame to. first_in (option_and_then (in_ram k) s.stored) frame (ap (option_and_then (in_ram k)) is.stored ∙ (storing k ec frame (deed k ec) to).stores);
          meets = subst (λ (d : Deed). AreListed k (whom_by d) []) (sym does) (nobody_listed k []);
          moves = λ moving. absurd (let no : moves_by (deed k ec) ≡ false = ap moves_by does in cc);
          plain = λ inner. record {
            executes = at;
            regs = regs;
            store = store;
            goes_on = came;
            no_console = λ t frame some leads.
                inner_at k s.stored frame inner (stored ∙ ap (option_and_then (λ (x : Store). frame_for (address_space k ec) write_right x.address)) some ∙ leads);
          };
        }

-- an instruction that raises, and all else
decided : (k : KernelState) (ec : ℕ) (reads : List ℕ) (t : Touch) → IsDecided k (context k ec) reads t → (Executes (context k ec) → reads ≡ frames_read k ec) →
    ((frame : ℕ) → IsStoring k ec frame (deed k ec) → ⊥) → ActsAtMost k ec t
decided k ec reads t is read none = record {
  reads = λ executes. is.reads ∙ read executes;
  writes = λ frame to. absurd (none frame (storing k ec frame (deed k ec) to));
  meets = whom_listed k ec t.meets (deed_fits k ec).whom is.meets;
  moves = λ moving. is.moves ∙ (deed_fits k ec).moves moving;
  plain = λ plain. absurd (let no = is.plain in cc);
}

pub raises_at_most : (k : KernelState) (ec : ℕ) (s : Sight) (t : Touch) → IsSight k ec s → s.goes_on ≡ false → IsDecided k (context k ec) (frames_seen s) t → ActsAtMost k ec t
raises_at_most k ec s t is off decides = decided k ec (frames_seen s) t decides (λ executes. frames_of k ec s is) (λ frame to. by_once frame (instruction k ec) refl to.stores)
  where
    by_once : (frame : ℕ) (o : Once) → instruction k ec ≡ o → option_and_then (in_ram k) (stored_by (address_space k ec) o) ≡ Some frame → ⊥
    by_once frame (Raised reason q0 q1) came stores = absurd cc
    by_once frame (Went regs store) came stores =
        absurd (let yes : goes_on (instruction k ec) ≡ true = ap goes_on came in let no : goes_on (instruction k ec) ≡ false = sym is.goes_on ∙ off in cc)

pub decides_at_most : (k : KernelState) (ec : ℕ) (t : Touch) → (Executes (context k ec) → ⊥) → IsDecided k (context k ec) [] t → ActsAtMost k ec t
decides_at_most k ec t not decides = decided k ec [] t decides (λ executes. absurd (not executes)) (λ frame to. not ((deed_fits k ec).steps to.steps))

-- a number of no context: nobody is dead, and rests
pub rests_at_most : (k : KernelState) (ec : ℕ) → context_at k ec ≡ None → ActsAtMost k ec nothing
unfolding deed
rests_at_most k ec none = decides_at_most k ec nothing (λ executes. absurd (let dead : (context k ec).state ≡ Dead = ap (λ (o : Option EcState). (context_in o).state) none in let ready = executes.state in cc))
    (record {
      reads = refl;
      meets = subst (λ (w : Whom). AreListed k w []) (sym (ap (λ (o : Option EcState). whom_of (context_in o)) none)) (nobody_listed k []);
      moves = sym (ap (λ (o : Option EcState). is_moving (context_in o).state) none);
      plain = refl;
    })

-- THE TURN OF A PROCESSOR

-- what an instruction reads, by the law
abbrev pub ReadFrames : Type 0
ReadFrames = (k : KernelState) (ec : ℕ) → ReadsWithin k ec (frames_read k ec)

acts_touched : (k : KernelState) (cpu : ℕ) (c : Candidate) (t : Touch) → ReadFrames → IsSound k → next_to_act k cpu ≡ Some c → ActsAtMost k c.actor t → IsTouched k cpu t
acts_touched k cpu c t law sound next most = record {
  reads = λ d is executes. let same = one d is in
      subst (λ (l : List ℕ). ReadsWithin k d.actor l) (sym (subst (λ (n : ℕ). t.reads ≡ frames_read k n) (sym same) (most.reads (subst (λ (n : ℕ). Executes (context k n)) same executes)))) (law k d.actor);
  writes = λ d frame is to. most.writes frame (subst (λ (n : ℕ). frame_stored_to k n (deed k n) ≡ Some frame) (one d is) to);
  meets = λ turning e comes. by_turn turning e comes;
  moves = λ still. leads_on k cpu (λ d is. by_test (moves_by (deed k d.actor)) (deed k d.actor) refl (λ moving. most.moves (subst (λ (n : ℕ). moves_by (deed k n) ≡ true) (one d is) moving)) still);
  plain = λ plain. let its = most.plain plain in record {
    candidate = c;
    next = next;
    executes = its.executes;
    regs = its.regs;
    store = its.store;
    goes_on = its.goes_on;
    no_console = its.no_console;
  };
}
  where
    one : (d : Candidate) → next_to_act k cpu ≡ Some d → d.actor ≡ c.actor
    one d is = ap (λ (x : Candidate). x.actor) (same_Some d c (sym is ∙ next))

    by_test : (moving : Bool) (d : Deed) → moves_by d ≡ moving → (moves_by d ≡ true → t.moves ≡ true) → t.moves ≡ false → moves_by d ≡ false
    by_test false d is h still = is
    by_test true d is h still = absurd (let yes = h is in cc)

    within : ChangesWithin k (acting k c).effect (cpu ∷ t.meets)
    within = deed_within k c.actor cpu t.meets (deed k c.actor) (deed_asks k c.actor) (record {
      sound = sound;
      actor = actor_of k.contexts c.actor (chosen_acts k cpu c next);
      home = chosen_home k cpu c sound (acts_chosen k cpu c next).0;
      listed = most.meets;
    })

    by_turn : (turning : Turning) (e : Event) → IsTurning k cpu turning e → ChangesWithin k turning.effect (cpu ∷ t.meets)
    by_turn turning e (Acts d is acts event) =
        subst (λ (u : Turning). ChangesWithin k u.effect (cpu ∷ t.meets)) (sym (acts ∙ ap (acting k) (same_Some d c (sym is ∙ next)))) within
    by_turn turning e (Passes p is passes event) = absurd (let both : None ≡ Some c = sym (passing_none k cpu p is) ∙ next in cc)

pub acts_at_most : (k : KernelState) (cpu ec : ℕ) (t : Touch) → ReadFrames → IsSound k → due_on k.times cpu ≡ None → option_map {U = ℕ} (λ (c : Candidate). c.actor) (choice k cpu) ≡ Some ec →
    ActsAtMost k ec t → TouchesAtMost k cpu t
acts_at_most k cpu ec t law sound calm actor most = by_choice (choice k cpu) refl actor
  where
    by_choice : (o : Option Candidate) → choice k cpu ≡ o → option_map {U = ℕ} (λ (c : Candidate). c.actor) o ≡ Some ec → TouchesAtMost k cpu t
    by_choice None none is = absurd cc
    by_choice (Some c) chosen is = record {
      sound = sound;
      touched = acts_touched k cpu c t law sound (acts_next k cpu c chosen calm) (subst (λ (n : ℕ). ActsAtMost k n t) (sym (same_Some c.actor ec is)) most);
    }

-- where nobody acts
passes_touched : (k : KernelState) (cpu : ℕ) (processors : List ℕ) → IsSound k → next_to_act k cpu ≡ None → ((p : Passing) → IsPassing k cpu p → ChangesWithin k (passing_effect k p) (cpu ∷ processors)) →
    TouchesAtMost k cpu (record nothing { meets = processors })
passes_touched k cpu processors sound none within = record {
  sound = sound;
  touched = record {
    reads = λ d is executes. absurd (let both : None ≡ Some d = sym none ∙ is in cc);
    writes = λ d frame is to. absurd (let both : None ≡ Some d = sym none ∙ is in cc);
    meets = λ turning e comes. by_turn turning e comes;
    moves = λ still. leads_on k cpu (λ d is. absurd (let both : None ≡ Some d = sym none ∙ is in cc));
    plain = λ plain. absurd cc;
  };
}
  where
    by_turn : (turning : Turning) (e : Event) → IsTurning k cpu turning e → ChangesWithin k turning.effect (cpu ∷ processors)
    by_turn turning e (Acts d is acts event) = absurd (let both : None ≡ Some d = sym none ∙ is in cc)
    by_turn turning e (Passes p is passes event) = subst (λ (u : Turning). ChangesWithin k u.effect (cpu ∷ processors)) (sym passes) (within p is)

pub due_at_most : (k : KernelState) (cpu : ℕ) (what : Due) (processors : List ℕ) → IsSound k → due_on k.times cpu ≡ Some what → AreListed k TheBlocked processors →
    TouchesAtMost k cpu (record nothing { meets = processors })
due_at_most k cpu what processors sound due listed = passes_touched k cpu processors sound (passing_none k cpu (Falls what) due)
    (λ p is. ending_within k cpu processors p sound.kept.tables listed (passing_ending k cpu p is sound.kept.blocked sound.kept.deadlines))

pub nobody_at_most : (k : KernelState) (cpu : ℕ) → IsSound k → due_on k.times cpu ≡ None → choice k cpu ≡ None → TouchesAtMost k cpu nothing
nobody_at_most k cpu sound calm none = passes_touched k cpu [] sound (idle_none k cpu none) within
  where
    within : (p : Passing) → IsPassing k cpu p → ChangesWithin k (passing_effect k p) (cpu ∷ [])
    within (Falls what) is = absurd (let both : None ≡ Some what = sym calm ∙ is in cc)
    within Ticks is = record { contexts = λ n there. absurd (in_from_contains [] n there); words = λ n words has. absurd cc; deadline = λ n until has. absurd cc; made = λ other given. absurd cc }

-- WHAT IS DUE

-- something is due where no turn is left until it
pub due_by : (k : KernelState) (cpu : ℕ) → until_due k.times cpu ≡ Some 0 → (what : Due) × (due_on k.times cpu ≡ Some what)
due_by k cpu now = by_entry (next_entry k.times cpu) now
  where
    by_entry : (o : Option Entry) → option_map (λ (m : ℕ). m - clock k.times cpu) (option_map (λ (e : Entry). e.moment) o) ≡ Some 0 →
        (what : Due) × (option_and_then (if_due (clock k.times cpu)) o ≡ Some what)
    by_entry None h = absurd cc
    by_entry (Some e) h =
        let zero : e.moment - clock k.times cpu ≡ 0 = same_Some (e.moment - clock k.times cpu) 0 h in
        (e.what, (let here : nat_le e.moment (clock k.times cpu) ≡ true = grind (arith, nat_tests, zero) in ap (λ (t : Bool). if t then Some e.what else None) here))

pub calm_by : (k : KernelState) (cpu : ℕ) → (until_due k.times cpu ≡ Some 0 → ⊥) → due_on k.times cpu ≡ None
calm_by k cpu later = by_entry (next_entry k.times cpu) later
  where
    by_entry : (o : Option Entry) → (option_map (λ (m : ℕ). m - clock k.times cpu) (option_map (λ (e : Entry). e.moment) o) ≡ Some 0 → ⊥) → option_and_then (if_due (clock k.times cpu)) o ≡ None
    by_entry None h = refl
    by_entry (Some e) h = by_test (nat_le e.moment (clock k.times cpu)) refl
      where
        by_test : (t : Bool) → nat_le e.moment (clock k.times cpu) ≡ t → (if t then Some e.what else None) ≡ None
        by_test false is = refl
        by_test true is = absurd (h (let zero : e.moment - clock k.times cpu ≡ 0 = grind (arith, nat_tests, is) in ap Some zero))

-- WHAT FUNCTIONS ANSWER

pub raises_result : {E : Type 0} (k : KernelState) (ec : ℕ) (s : Sight) (x : EcState) (frames : List ℕ) (r : Result Touch E) → IsSight k ec s → s.goes_on ≡ false → x ≡ context k ec →
    frames ≡ frames_seen s → IfOk r (IsDecided k x frames) → IfOk r (ActsAtMost k ec)
raises_result k ec s x frames (Err e) is off same read h = tt
raises_result k ec s x frames (Ok t) is off same read h =
    raises_at_most k ec s t is off (subst (λ (l : List ℕ). IsDecided k (context k ec) l t) read (subst (λ (y : EcState). IsDecided k y frames t) same h))

pub decides_result : {E : Type 0} (k : KernelState) (ec : ℕ) (x : EcState) (frames : List ℕ) (r : Result Touch E) → (Executes x → ⊥) → x ≡ context k ec → frames ≡ [] → IfOk r (IsDecided k x frames) →
    IfOk r (ActsAtMost k ec)
decides_result k ec x frames (Err e) not same read h = tt
decides_result k ec x frames (Ok t) not same read h =
    decides_at_most k ec t (subst (λ (y : EcState). Executes y → ⊥) same not)
    (subst (λ (l : List ℕ). IsDecided k (context k ec) l t) read (subst (λ (y : EcState). IsDecided k y frames t) same h))

pub there_at : (k : KernelState) (ec : ℕ) (x : EcState) → context_at k ec ≡ Some x → x ≡ context k ec
there_at k ec x is = sym (ap context_in is)

pub wakes_result : {E : Type 0} (k : KernelState) (cpu : ℕ) (r : Result Touch E) → IsSound k → until_due k.times cpu ≡ Some 0 →
    IfOk r (λ t. (t ≡ record nothing { meets = t.meets }) × AreListed k TheBlocked t.meets) → IfOk r (TouchesAtMost k cpu)
wakes_result k cpu (Err e) sound now h = tt
wakes_result k cpu (Ok t) sound now h =
    let due = due_by k cpu now in subst (TouchesAtMost k cpu) (sym h.0) (due_at_most k cpu due.0 t.meets sound due.1 h.1)

pub acts_result : {E : Type 0} (k : KernelState) (cpu ec : ℕ) (r : Result Touch E) → ReadFrames → IsSound k → (until_due k.times cpu ≡ Some 0 → ⊥) →
    option_map {U = ℕ} (λ (c : Candidate). c.actor) (choice k cpu) ≡ Some ec → IfOk r (ActsAtMost k ec) → IfOk r (TouchesAtMost k cpu)
acts_result k cpu ec (Err e) law sound later actor h = tt
acts_result k cpu ec (Ok t) law sound later actor h = acts_at_most k cpu ec t law sound (calm_by k cpu later) actor h

pub nobody_acts : (k : KernelState) (cpu : ℕ) → IsSound k → (until_due k.times cpu ≡ Some 0 → ⊥) → option_map {U = ℕ} (λ (c : Candidate). c.actor) (choice k cpu) ≡ None → TouchesAtMost k cpu nothing
nobody_acts k cpu sound later none = nobody_at_most k cpu sound (calm_by k cpu later) (by_choice (choice k cpu) none)
  where
    by_choice : (o : Option Candidate) → option_map {U = ℕ} (λ (c : Candidate). c.actor) o ≡ None → o ≡ None
    by_choice None is = refl
    by_choice (Some c) is = absurd cc
