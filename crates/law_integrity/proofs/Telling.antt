-- Turns of two states that differ in the registers of an execution context: they differ in no more after.
use Rattle.std.proofs.Common.{◌≡◌, ℕ, zero, suc, List, [], ◌∷◌, ◌++◌, refl, sym, ap, ap₂, ◌∙◌, subst, inl, inr}
use Rattle.std.specs.Prelude.{Bool, true, false, ◌==◌, is_some, option_map, option_and_then, Option, Some, None, if◌then◌else◌}
use Rattle.std.proofs.lemmas.Bool.{eqb-false, eqb-true}
use mathlib.Core.Path.{fun_ext}
use Rattle.rv_model.specs.Registers.{Registers}
use Rattle.rv_model.specs.Step.{Once, Store}
use Rattle.nova_range.specs.Rights.{write_right}
use Rattle.nova_range.specs.declared.status.Status.TheVariants.{Success}
use Rattle.nova_model.specs.AddressSpaces.{AddressSpace, frame_for}
use Rattle.nova_model.specs.Choice.{Candidate, in_front}
use Rattle.nova_model.specs.Deeds.{address_space, deed}
use Rattle.nova_model.specs.Edges.{state_in}
use Rattle.nova_model.specs.Inputs.{foreign_at, in_ram, input_of, is_outside, is_stirred, only_if, others_input, own_input, reply_of, store_of}
use Rattle.nova_model.specs.Runs.{after, run, trace}
use Rattle.nova_model.specs.State.{Contexts, KernelState, context, context_in, ec_in, entry, message, pd_of}
use Rattle.nova_model.specs.Turn.{Step, turn}
use Rattle.nova_model.specs.declared.context.EcState.{EcState}
use Rattle.nova_model.specs.declared.context.Mark.TheVariants as mark
use Rattle.nova_model.specs.declared.deed.Deed.{Deed}
use Rattle.nova_model.specs.declared.deed.Deed.TheVariants as deeds
use Rattle.nova_model.specs.declared.event.Event.{Event}
use Rattle.nova_model.specs.declared.transfer.Sequel.TheVariants as sequel
use Rattle.nova_model.specs.declared.times.Due.TheVariants as due
use Rattle.law_forest.specs.Effects.{Answers, Edit, Edits, Effect, Falls, Passing, Resumes, Ticks, all_edited, edit_at, edited, edits_by, effect, joined, recalls_by, steps_by, store_by, store_words, words_by}
use Rattle.law_forest.specs.Turns.{Turning, acting, passing, passing_event, turned}
use Rattle.law_turns.proofs.Setting.{get_other}
use Rattle.law_origins.specs.Giving.{Acts}
use Rattle.law_forest.proofs.Turning.{event_at as event_in}
use Rattle.law_integrity.specs.Disclosure.{DifferInRegisters, IsUntold, IsUntoldAlong, registers_set, with_registers}
use Rattle.law_integrity.proofs.Beside.{ChooseSame, both_after, both_events}
use Rattle.law_integrity.proofs.Masking.{Words, choice_same, field_set, masked, over, reads_all, words_in}
use Rattle.law_integrity.proofs.Untold.{LooksSame, TellsAlike, address_same, deed_looks, deed_same}

-- TABLES AFTER EDITS

-- one table is the other with registers set
pub record AreSetIn (cs ds : Contexts) (g : ℕ) : Type 0 where
  pub registers : Registers
  pub same : ds ≡ registers_set cs g registers

entry_edited : (o : Option EcState) (r : Registers) (e : Edit) →
    edited (context_in (option_map (λ (x : EcState). record x { regs = r }) o)) e
    ≡ record (edited (context_in o) e) { regs = (edited (context_in (option_map (λ (x : EcState). record x { regs = r }) o)) e).regs }
entry_edited None r e = refl
entry_edited (Some x) r (Resumes mark.Call m) = refl
entry_edited (Some x) r (Resumes mark.Exit m) = refl
entry_edited (Some x) r e = refl

edit_set : (cs : Contexts) (n g : ℕ) (r : Registers) (e : Edit) → AreSetIn (edit_at cs n e) (edit_at (registers_set cs g r) n e) g
edit_set [] n g r e = record { registers = r; same = refl }
edit_set (o ∷ cs) zero zero r e = record { registers = _; same = ap (λ (y : EcState). Some y ∷ cs) (entry_edited o r e) }
edit_set (o ∷ cs) zero (suc g) r e = record { registers = r; same = refl }
edit_set (o ∷ cs) (suc n) zero r e = record { registers = r; same = refl }
edit_set (o ∷ cs) (suc n) (suc g) r e =
    let rest = edit_set cs n g r e in record { registers = rest.registers; same = ap (λ (l : Contexts). o ∷ l) rest.same }

edits_set : (cs : Contexts) (g : ℕ) (r : Registers) (es : Edits) → AreSetIn (all_edited cs es) (all_edited (registers_set cs g r) es) g
edits_set cs g r [] = record { registers = r; same = refl }
edits_set cs g r ((n, e) ∷ es) =
    let first = edit_set cs n g r e in
    let rest = edits_set (edit_at cs n e) g first.registers es in
    record { registers = rest.registers; same = ap (λ (l : Contexts). all_edited l es) first.same ∙ rest.same }

more_set : (cs : Contexts) (g : ℕ) (r : Registers) (o : Option EcState) → AreSetIn (cs ++ o ∷ []) (registers_set cs g r ++ o ∷ []) g
more_set [] zero r None = record { registers = r; same = refl }
more_set [] zero r (Some x) = record { registers = x.regs; same = refl }
more_set [] (suc g) r o = record { registers = r; same = refl }
more_set (x ∷ cs) zero r o = record { registers = r; same = refl }
more_set (x ∷ cs) (suc g) r o = let rest = more_set cs g r o in record { registers = rest.registers; same = ap (λ (l : Contexts). x ∷ l) rest.same }

joined_set : (cs : Contexts) (g : ℕ) (r : Registers) (o : Option (Option EcState)) → AreSetIn (joined cs o) (joined (registers_set cs g r) o) g
joined_set cs g r None = record { registers = r; same = refl }
joined_set cs g r (Some o) = more_set cs g r o

pub after_set : (cs : Contexts) (g : ℕ) (r : Registers) (es : Edits) (o : Option (Option EcState)) →
    AreSetIn (joined (all_edited cs es) o) (joined (all_edited (registers_set cs g r) es) o) g
after_set cs g r es o =
    let edited_ = edits_set cs g r es in
    let more = joined_set (all_edited cs es) g edited_.registers o in
    record { registers = more.registers; same = ap (λ (l : Contexts). joined l o) edited_.same ∙ more.same }

-- WHAT A DEED DOES

recalls_same : (whose : ℕ) (o p : Option EcState) → option_map (λ (x : EcState). x.state) o ≡ option_map (λ (x : EcState). x.state) p → recalls_by whose o ≡ recalls_by whose p
recalls_same whose None None h = refl
recalls_same whose None (Some y) h = absurd (cc)
recalls_same whose (Some x) None h = absurd (cc)
recalls_same whose (Some x) (Some y) h = refl

edits_same : (k : KernelState) (g : ℕ) (r : Registers) (ec : ℕ) (d : Deed) → LooksSame k (registers_set k.contexts g r) k.messages ec d → edits_by (with_registers k g r) ec d ≡ edits_by k ec d
edits_same k g r ec deeds.Steps looks = ap (steps_by ec) looks
edits_same k g r ec (deeds.Replies caller came true) looks = refl
edits_same k g r ec (deeds.Replies caller came false) looks = refl
edits_same k g r ec (deeds.Recalls whose) looks =
    let set = edit_set k.contexts ec g r (Answers Success None) in
    ap (λ (es : Edits). (ec, Answers Success None) ∷ es)
    (recalls_same whose _ _
    (ap (λ (cs : Contexts). state_in cs whose) set.same ∙ field_set (λ x. x.state) (λ x s. refl) (edit_at k.contexts ec (Answers Success None)) g set.registers whose))
edits_same k g r ec other looks = refl

words_same : (k : KernelState) (cs : Contexts) (ec : ℕ) (d : Deed) → LooksSame k cs k.messages ec d → words_by (over k cs k.messages) ec d ≡ words_by k ec d
words_same k cs ec deeds.Steps looks = ap (λ (o : Once). store_words (address_space k ec) ec (store_of o)) looks
words_same k cs ec (deeds.Sends handler ip number mtd reason q0 q1) looks = ap (λ (m : List ℕ). Some (handler, m)) (looks (message k handler))
words_same k cs ec other looks = refl

stores_same : (k : KernelState) (cs : Contexts) (ec : ℕ) (d : Deed) → LooksSame k cs k.messages ec d → store_by (over k cs k.messages) ec d ≡ store_by k ec d
stores_same k cs ec deeds.Steps looks = ap (λ (o : Once). option_map (λ s. (address_space k ec, s)) (store_of o)) looks
stores_same k cs ec other looks = refl

effect_same : (k : KernelState) (g : ℕ) (r : Registers) (ec : ℕ) (d : Deed) → LooksSame k (registers_set k.contexts g r) k.messages ec d → effect (with_registers k g r) ec d ≡ effect k ec d
effect_same k g r ec d looks =
    ap (λ (es : Edits). record (effect other ec d) { edits = es }) (edits_same k g r ec d looks)
    ∙ ap (λ (ws : Option (ℕ × List ℕ)). record (effect other ec d) { edits = edits_by k ec d; words = ws }) (words_same k (registers_set k.contexts g r) ec d looks)
    ∙ ap (λ (s : Option (AddressSpace × Store)). record (effect other ec d) { edits = edits_by k ec d; words = words_by k ec d; store = s }) (stores_same k (registers_set k.contexts g r) ec d looks)
  where
    other : KernelState
    other = with_registers k g r

-- which virtual CPUs it stirs
pub stirs_same : (k : KernelState) (cs : Contexts) (ms : Words) (ec : ℕ) (d : Deed) → words_in ms ec ≡ message k ec → LooksSame k cs ms ec d → (n : ℕ) → is_stirred (over k cs ms) ec d n ≡ is_stirred k ec d n
unfolding input_of
stirs_same k cs ms ec d own looks n = by_test (ec == n) d looks
  where
    by_test : (t : Bool) (d : Deed) → LooksSame k cs ms ec d → is_some (option_and_then (λ i. only_if (is_outside i) i) (if t then own_input d else others_input (over k cs ms) ec n d))
        ≡ is_some (option_and_then (λ i. only_if (is_outside i) i) (if t then own_input d else others_input k ec n d))
    by_test true d looks = refl
    by_test false deeds.Steps looks =
        ap₂ (λ (a : AddressSpace) (o : Once). is_some (option_and_then (λ i. only_if (is_outside i) i) (option_and_then
        (λ s. option_and_then (foreign_at k (pd_of k n) s) (option_and_then (in_ram k) (frame_for a write_right s.address))) (store_of o)))) (address_same k cs ms ec own) looks
    by_test false (deeds.Replies caller mark.Exit false) looks =
        ap (λ (m : List ℕ). is_some (option_and_then (λ i. only_if (is_outside i) i) (only_if (caller == n) (reply_of m)))) own
    by_test false (deeds.Finishes item end words (sequel.Replied caller mark.Exit)) looks =
        ap (λ (m : List ℕ). is_some (option_and_then (λ i. only_if (is_outside i) i) (only_if (caller == n) (reply_of m)))) own
    by_test false other looks = refl

-- A TURN

acting_same : (k : KernelState) (g : ℕ) (r : Registers) (c : Candidate) → TellsAlike k (registers_set k.contexts g r) c.actor (context k c.actor).state →
    acting (with_registers k g r) c ≡ acting k c
acting_same k g r c tells =
    ap (λ (d : Deed). record { effect = effect other c.actor d; stirs = is_stirred other c.actor d; charge = Some c.sc }) (deed_same k cs k.messages (masked k.contexts g r) c.actor (reads_all k c.actor) tells)
    ∙ ap₂ (λ (e : Effect) (is : ℕ → Bool). record { effect = e; stirs = is; charge = Some c.sc }) (effect_same k g r c.actor (deed k c.actor) looks)
    (fun_ext (stirs_same k cs k.messages c.actor (deed k c.actor) refl looks))
  where
    cs : Contexts
    cs = registers_set k.contexts g r

    other : KernelState
    other = with_registers k g r

    looks : LooksSame k cs k.messages c.actor (deed k c.actor)
    looks = deed_looks k cs k.messages c.actor refl tells

passing_same : (k : KernelState) (g : ℕ) (r : Registers) (p : Passing) → passing (with_registers k g r) p ≡ passing k p
passing_same k g r (Falls (due.Alarm alarm)) = refl
passing_same k g r (Falls (due.Deadline ec)) = refl
passing_same k g r Ticks = refl

turned_differ : (k : KernelState) (cpu g : ℕ) (r : Registers) (t u : Turning) → u ≡ t → DifferInRegisters (turned k cpu t) (turned (with_registers k g r) cpu u) g
turned_differ k cpu g r t u same =
    let set = after_set k.contexts g r t.effect.edits _ in record {
      registers = set.registers;
      rest = ap (turned (with_registers k g r) cpu) same ∙ ap (λ (cs : Contexts). record (turned k cpu t) { contexts = cs }) set.same;
    }

-- the context that acts is another, whose registers are the same, or tells the same of both
pub tells_alike : (k : KernelState) (cpu g : ℕ) (r : Registers) → IsUntold k (with_registers k g r) cpu g → (ec : ℕ) → Acts k cpu ec → TellsAlike k (registers_set k.contexts g r) ec (context k ec).state
tells_alike k cpu g r untold ec acts_ = by_number (ec == g) refl
  where
    by_number : (t : Bool) → (ec == g) ≡ t → TellsAlike k (registers_set k.contexts g r) ec (context k ec).state
    by_number true is =
        let same : ec ≡ g = eqb-true ec g is in
        subst (λ (n : ℕ). TellsAlike k (registers_set k.contexts g r) n (context k n).state) (sym same) (inr (untold (subst (Acts k cpu) same acts_)))
    by_number false is =
        inl (ap (λ (o : Option (Option EcState)). (context_in (entry o)).regs)
        (get_other k.contexts g ec (option_map (λ (x : EcState). record x { regs = r }) (ec_in k.contexts g)) (eqb-false ec g is)))

set_chooses : (k : KernelState) (cpu g : ℕ) (r : Registers) → ChooseSame k (with_registers k g r) cpu
set_chooses k cpu g r = record { times = refl; chosen = choice_same k (registers_set k.contexts g r) k.messages (masked k.contexts g r) cpu }

set_differ : (k : KernelState) (cpu g : ℕ) (r : Registers) → IsUntold k (with_registers k g r) cpu g → DifferInRegisters (after k cpu) (after (with_registers k g r) cpu) g
set_differ k cpu g r untold =
    both_after (λ (a b : KernelState). DifferInRegisters a b g) k other cpu (set_chooses k cpu g r) (record { registers = r; rest = refl })
    (λ p. turned_differ k cpu g r (passing k p) (passing other p) (passing_same k g r p))
    (λ c is. turned_differ k cpu g r (acting k c) (acting other c)
    (acting_same k g r c (tells_alike k cpu g r untold c.actor (ap (option_map (λ (c : Candidate). c.actor)) is))))
  where
    other : KernelState
    other = with_registers k g r

pub turn_differ : (k l : KernelState) (cpu g : ℕ) → DifferInRegisters k l g → IsUntold k l cpu g → DifferInRegisters (after k cpu) (after l cpu) g
turn_differ k l cpu g differ untold =
    subst (λ (s : KernelState). DifferInRegisters (after k cpu) (after s cpu) g) (sym differ.rest)
    (set_differ k cpu g differ.registers (subst (λ (s : KernelState). IsUntold k s cpu g) differ.rest untold))

-- THE EVENT

passing_told : (k : KernelState) (cpu g : ℕ) (r : Registers) (p : Passing) → passing_event (with_registers k g r) cpu p ≡ passing_event k cpu p
passing_told k cpu g r (Falls (due.Alarm alarm)) = refl
passing_told k cpu g r (Falls (due.Deadline ec)) = refl
passing_told k cpu g r Ticks = refl

set_event : (k : KernelState) (cpu g : ℕ) (r : Registers) → IsUntold k (with_registers k g r) cpu g → event_in (with_registers k g r) cpu ≡ event_in k cpu
set_event k cpu g r untold =
    both_events k (with_registers k g r) cpu (set_chooses k cpu g r) (passing_told k cpu g r)
    (λ c is. deed_same k (registers_set k.contexts g r) k.messages (masked k.contexts g r) c.actor (reads_all k c.actor)
    (tells_alike k cpu g r untold c.actor (ap (option_map (λ (c : Candidate). c.actor)) is)))

pub event_same : (k l : KernelState) (cpu g : ℕ) → DifferInRegisters k l g → IsUntold k l cpu g →
    option_map (λ (s : Step). s.event) (turn l cpu) ≡ option_map (λ (s : Step). s.event) (turn k cpu)
event_same k l cpu g differ untold =
    subst (λ (s : KernelState). event_in s cpu ≡ event_in k cpu) (sym differ.rest) (set_event k cpu g differ.registers (subst (λ (s : KernelState). IsUntold k s cpu g) differ.rest untold))

-- TURNS ONE AFTER ANOTHER

pub turns_differ : (k l : KernelState) (turns : List ℕ) (g : ℕ) → DifferInRegisters k l g → IsUntoldAlong k l turns g → DifferInRegisters (run k turns) (run l turns) g
turns_differ k l [] g differ untold = differ
turns_differ k l (cpu ∷ turns) g differ untold = turns_differ (after k cpu) (after l cpu) turns g (turn_differ k l cpu g differ untold.0) untold.1

pub trace_same : (k l : KernelState) (turns : List ℕ) (g : ℕ) → DifferInRegisters k l g → IsUntoldAlong k l turns g → trace l turns ≡ trace k turns
trace_same k l [] g differ untold = refl
trace_same k l (cpu ∷ turns) g differ untold =
    ap₂ (λ (e : Option Event) (es : List Event). in_front e es) (event_same k l cpu g differ untold.0)
    (trace_same (after k cpu) (after l cpu) turns g (turn_differ k l cpu g differ untold.0) untold.1)
