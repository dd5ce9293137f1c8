-- One turn, one input.
use Rattle.nova_model.specs.declared.event.Turn.TheVariants.{Stepped}
use Rattle.law_isolation.specs.Sound.{IsSound, IsVirtual}
use Rattle.nova_model.specs.declared.context.EcState.{EcState}
use Rattle.nova_model.specs.declared.context.State.TheVariants.{Blocked}
use Rattle.nova_model.specs.declared.context.State.{State}
use Rattle.law_turns.specs.Links.{state_at}
use Rattle.law_turns.proofs.Serving.{is_blocked}
use Rattle.law_turns.proofs.Passing.{IsEnding, passing_stays}
use Rattle.law_forest.specs.Effects.{Falls, Passing, Ticks, passing_ends}
use Rattle.std.proofs.Common.{append-nil, ◌≡◌, ℕ, ◌%◌, ◌≢◌, List, length, ap, sym, ◌∙◌, subst, refl, inl, inr}
use Rattle.std.specs.Prelude.{Bool, true, false, ◌==◌, Option, Some, None, option_and_then, option_map, if◌then◌else◌, [], ◌++◌}
use Rattle.std.proofs.lemmas.Bool.{cases_eq, ne_eqb}
use Rattle.rv_model.specs.Step.{Store}
use Rattle.nova_guest.specs.Alone.{applied}
use Rattle.nova_guest.specs.declared.guest.Guest.{Guest}
use Rattle.nova_guest.specs.declared.input.Input.{Input}
use Rattle.nova_guest.specs.declared.input.Input.TheVariants as input
use Rattle.law_forest.proofs.Allowed.{deed_fits}
use Rattle.nova_model.specs.Choice.{Candidate, next_to_act}
use Rattle.nova_model.specs.Deeds.{deed, done, instruction, sign_of}
use Rattle.nova_model.specs.Guests.{input as turn_input, input_by}
use Rattle.nova_model.specs.Inputs.{foreign_at, foreign_by, frame_of_store, given_of, input_of, is_covered_for, only_if, others_input, reply_of, store_of, stirred}
use Rattle.nova_model.specs.Memory.{Memory}
use Rattle.nova_model.specs.State.{KernelState, message, pd_of, context_at, context_in}
use Rattle.nova_model.specs.Runs.{after}
use Rattle.nova_model.specs.Turn.{Step, charged, event_of, turn, answer_of}
use Rattle.nova_model.specs.Views.{is_memory_of, view}
use Rattle.nova_model.specs.declared.context.Mark.TheVariants as mark
use Rattle.nova_model.specs.declared.deed.Deed.{Deed}
use Rattle.nova_model.specs.declared.deed.Deed.TheVariants.{Steps, Recalls, Gives, Removes, Finishes, Replies}
use Rattle.nova_model.specs.declared.delegation.Derivation.{Derivation}
use Rattle.nova_guest.specs.declared.input.Out.{Out}
use Rattle.nova_model.specs.declared.event.Event.{Event}
use Rattle.nova_model.specs.declared.event.EventKind.{EventKind}
use Rattle.nova_model.specs.declared.times.Due.TheVariants as due
use Rattle.law_forest.specs.Turns.{Acts, IsTurning, Turning, acting, turned, Passes, passing, passing_event, is_passing}
use Rattle.law_forest.proofs.Turning.{acting_is, outcome, passing_none, acting_kind, of_events}
use Rattle.nova_model.specs.declared.transfer.Sequel.TheVariants as sequel
use Rattle.law_isolation.specs.Law.{answered, IsLogged, IsOneInput, IsOneTurn, PutsOut, PutsOutIn, raised_by}
use Rattle.law_isolation.proofs.Premises.{HasPremises, IsGuest, IsGuestState, guest, premises}
use Rattle.law_isolation.proofs.Facts.{deed_facts}
use Rattle.law_isolation.proofs.OtherTurns.{other_law}
use Rattle.law_isolation.proofs.OwnTurns.{own_turn}
use Rattle.law_isolation.proofs.Seen.{log_charged, view_charged, view_stirred, seen_same}

-- an input from another puts out nothing
abbrev IsQuiet : Guest → Option Input → Type 0
IsQuiet v i = (answered v i).out ≡ None

quiet_if : (v : Guest) (t : Bool) (i : Input) → IsQuiet v (Some i) → IsQuiet v (only_if t i)
quiet_if v true i h = h
quiet_if v false i h = refl

quiet_recall : (v : Guest) → IsQuiet v (Some input.Recall)
unfolding applied
quiet_recall v = refl

quiet_reply : (v : Guest) (m : List ℕ) → IsQuiet v (Some (reply_of m))
unfolding applied
quiet_reply v m = refl

quiet_given : (v : Guest) (k : KernelState) (d : Derivation) → IsQuiet v (Some (given_of k d))
unfolding applied
quiet_given v k d = refl

quiet_taken : (v : Guest) (base order : ℕ) → IsQuiet v (Some (input.Taken base order))
unfolding applied
quiet_taken v base order = refl

quiet_foreign : (v : Guest) (frame offset width value : ℕ) → IsQuiet v (Some (input.Foreign frame offset width value))
unfolding applied
quiet_foreign v frame offset width value = refl

quiet_store : (k : KernelState) (ec pd : ℕ) (v : Guest) (o : Option Store) → IsQuiet v (option_and_then (foreign_by k ec pd) o)
quiet_store k ec pd v None = refl
quiet_store k ec pd v (Some s) = by_frame (frame_of_store k ec s)
  where
    by_test : (f : ℕ) (t : Bool) → IsQuiet v (if t then Some (input.Foreign f (s.address % 4096) s.width s.value) else None)
    by_test f true = quiet_foreign v f (s.address % 4096) s.width s.value
    by_test f false = refl

    by_frame : (f : Option ℕ) → IsQuiet v (option_and_then (foreign_at k pd s) f)
    by_frame None = refl
    by_frame (Some f) = by_test f (is_covered_for k pd f)

quiet : (k : KernelState) (ec g : ℕ) (v : Guest) (d : Deed) → IsQuiet v (others_input k ec g d)
quiet k ec g v Steps = quiet_store k ec (pd_of k g) v (store_of (instruction k ec))
quiet k ec g v (Recalls whose) = quiet_if v (whose == g) input.Recall (quiet_recall v)
quiet k ec g v (Replies caller mark.Exit false) = quiet_if v (caller == g) (reply_of (message k ec)) (quiet_reply v (message k ec))
quiet k ec g v (Replies caller mark.Exit true) = refl
quiet k ec g v (Replies caller mark.Call items) = refl
quiet k ec g v (Finishes item end words (sequel.Replied caller mark.Exit)) = quiet_if v (caller == g) (reply_of (message k ec)) (quiet_reply v (message k ec))
quiet k ec g v (Finishes item end words (sequel.Replied caller mark.Call)) = refl
quiet k ec g v (Finishes item end words sequel.Item) = refl
quiet k ec g v (Finishes item end words sequel.Opened) = refl
quiet k ec g v (Finishes item end words sequel.Taken) = refl
quiet k ec g v (Gives child cursor) = quiet_if v (is_memory_of (pd_of k g) child) (given_of k child) (quiet_given v k child)
quiet k ec g v (Removes leaf) = quiet_if v (is_memory_of (pd_of k g) leaf) (input.Taken leaf.base leaf.order) (quiet_taken v leaf.base leaf.order)
quiet k ec g v other = refl

pub other_is : (k : KernelState) (ec g : ℕ) (d : Deed) → ec ≢ g → input_of k ec g d ≡ others_input k ec g d
unfolding input_of
other_is k ec g d ne = rw (ne_eqb ec g ne) refl

-- a turn of another
pub other_turn : (k : KernelState) (ec g : ℕ) → HasPremises k → IsGuest k g → ec ≢ g → IsOneInput k (done k ec (deed k ec)) ec g (deed k ec)
other_turn k ec g sound is ne =
    let same : input_of k ec g (deed k ec) ≡ others_input k ec g (deed k ec) = other_is k ec g (deed k ec) ne in
    record {
      guest = other_law k ec g (deed k ec) sound ne is (deed_facts k ec g sound is) (deed_fits k ec sound.forest)
          ∙ sym (ap (λ (i : Option Input). (answered (view k g) i).guest) same);
      output = subst (λ (t : Bool). PutsOut t k (done k ec (deed k ec)) (sign_of (deed k ec)) (answered (view k g) (input_of k ec g (deed k ec))).out) (sym (ne_eqb ec g ne))
          (ap (λ (i : Option Input). (answered (view k g) i).out) same ∙ quiet k ec g (view k g) (deed k ec));
    }

-- whichever context acts
pub one_input : (k : KernelState) (ec g : ℕ) → HasPremises k → IsGuest k g → IsOneInput k (done k ec (deed k ec)) ec g (deed k ec)
one_input k ec g sound is = elim (cases_eq ec g) [
  | inl same ↦ subst (λ (n : ℕ). IsOneInput k (done k n (deed k n)) n g (deed k n)) (sym same) (own_turn k g sound is)
  | inr ne ↦ other_turn k ec g sound is ne
]

-- what is stirred and charged is not seen
puts_out : (t : Bool) (k s new : KernelState) (sign : EventKind × ℕ × ℕ) (o : _) → new.memory ≡ s.memory → PutsOut t k s sign o → PutsOut t k new sign o
puts_out true k s new sign o same out = record { event = out.event; log = subst (λ (m : Memory). IsLogged (length k.memory.ram) k.memory.log m.log o) (sym same) out.log }
puts_out false k s new sign o same out = out

-- by its event
abbrev PutsOutAs : KernelState → KernelState → ℕ → Option Event → Option Out → Type 0
PutsOutAs k new g None o = o ≡ None
PutsOutAs k new g (Some e) o = PutsOut (e.ec == g) k new (e.kind, e.a, e.b) o

puts_as : (k new : KernelState) (g : ℕ) (s : Option Step) (o : Option Out) → PutsOutAs k new g (option_map (λ (t : Step). t.event) s) o → PutsOutIn k new g s o
puts_as k new g None o puts = puts
puts_as k new g (Some s) o puts = puts

-- what is law of the state and the event of a turn, for an input
abbrev TurnLaw : KernelState → ℕ → Option Input → KernelState → Option Event → Type 0
TurnLaw k g i s e = (view s g ≡ (answered (view k g) i).guest) × PutsOutAs k s g e (answered (view k g) i).out

chosen_law : (k : KernelState) (cpu g : ℕ) → HasPremises k → IsGuest k g → (c : Candidate) →
    TurnLaw k g (input_of k c.actor g (deed k c.actor)) (turned k cpu (acting k c)) (Some (event_of cpu c (deed k c.actor)))
chosen_law k cpu g sound is c =
    let d : Deed = deed k c.actor in
    let s : KernelState = done k c.actor d in
    let law : IsOneInput k s c.actor g d = one_input k c.actor g sound is in
    subst (λ (t : KernelState). TurnLaw k g (input_of k c.actor g d) t (Some (event_of cpu c d))) (acting_is k cpu c) (
      view_charged (stirred k c.actor d s) g cpu c.sc ∙ (view_stirred k c.actor d s g ∙ law.guest),
      puts_out (c.actor == g) k s (charged (stirred k c.actor d s) cpu c.sc) (sign_of d) (answered (view k g) (input_of k c.actor g d)).out (log_charged (stirred k c.actor d s) cpu c.sc) law.output,
    )

-- what comes by itself is not seen, and puts out nothing
guest_free : (o : Option EcState) → IsGuestState (context_in o).state → is_blocked (state_at o) ≡ false
guest_free None runs = refl
guest_free (Some x) runs = by_state x.state runs
  where
    by_state : (s : State) → IsGuestState s → is_blocked (Some s) ≡ false
    by_state (Blocked sm) h = absurd h
    by_state other h = refl

pub view_passing : (k : KernelState) (cpu g : ℕ) (p : Passing) → IsEnding k.contexts (passing_ends k p) → IsGuest k g → view (turned k cpu (passing k p)) g ≡ view k g
view_passing k cpu g p ending is =
    seen_same k (turned k cpu (passing k p)) g (record {
      own = ap context_in (passing_stays k.contexts (passing_ends k p) ending g (guest_free (context_at k g) is.runs));
      object = refl;
      maps = refl;
      ram = refl;
    })

puts_nothing : (k new : KernelState) (g : ℕ) (e : Event) → new.memory ≡ k.memory → raised_by (e.kind, e.a, e.b) ≡ None → PutsOutAs k new g (Some e) None
puts_nothing k new g e same none = by_test (e.ec == g)
  where
    log : new.memory.log ≡ k.memory.log ++ []
    log = ap (λ (m : Memory). m.log) same ∙ sym (append-nil k.memory.log)

    by_test : (t : Bool) → PutsOut t k new (e.kind, e.a, e.b) None
    by_test true = record { event = none; log = record { gained = []; log = log; bytes = refl } }
    by_test false = refl

raises_none : (k : KernelState) (cpu : ℕ) (p : Passing) → raised_by ((passing_event k cpu p).kind, (passing_event k cpu p).a, (passing_event k cpu p).b) ≡ None
raises_none k cpu (Falls (due.Alarm alarm)) = refl
raises_none k cpu (Falls (due.Deadline ec)) = refl
raises_none k cpu Ticks = refl

turned_law : (k : KernelState) (cpu g : ℕ) → HasPremises k → IsGuest k g → (t : Turning) (e : Event) → IsTurning k cpu t e →
    TurnLaw k g (input_by k g (next_to_act k cpu)) (turned k cpu t) (Some e)
turned_law k cpu g sound is t e (Acts c chosen acts event) =
    subst (λ (o : Option Candidate). TurnLaw k g (input_by k g o) (turned k cpu t) (Some e)) (sym chosen)
    (subst (λ (u : Turning). TurnLaw k g (input_by k g (Some c)) (turned k cpu u) (Some e)) (sym acts)
    (subst (λ (x : Event). TurnLaw k g (input_by k g (Some c)) (turned k cpu (acting k c)) (Some x)) (sym event) (chosen_law k cpu g sound is c)))
turned_law k cpu g sound is t e (Passes p comes passes event) =
    subst (λ (o : Option Candidate). TurnLaw k g (input_by k g o) (turned k cpu t) (Some e)) (sym (passing_none k cpu p comes))
    (subst (λ (u : Turning). TurnLaw k g None (turned k cpu u) (Some e)) (sym passes)
    (subst (λ (x : Event). TurnLaw k g None (turned k cpu (passing k p)) (Some x)) (sym event) (
      view_passing k cpu g p (sound.ending cpu p comes) is,
      puts_nothing k (turned k cpu (passing k p)) g (passing_event k cpu p) refl (raises_none k cpu p),
    )))

-- by its event
pub nothing_seen : (k : KernelState) (cpu g : ℕ) (e : Event) → IsSound k → IsVirtual k g → answer_of (turn k cpu) ≡ Stepped e → is_passing e.kind ≡ true → view (after k cpu) g ≡ view k g
nothing_seen k cpu g e sound is steps passing =
    of_events (λ (f : Event). is_passing f.kind ≡ true → view (after k cpu) g ≡ view k g) k cpu e steps
    (λ p comes state its. ap (λ (s : KernelState). view s g) state ∙ view_passing k cpu g p ((premises k sound).ending cpu p comes) (guest k g sound is))
    (λ c chosen state its. absurd (let both : true ≡ false = sym its ∙ acting_kind (deed k c.actor) in cc)) passing

pub no_input : (k : KernelState) (cpu g : ℕ) (e : Event) → answer_of (turn k cpu) ≡ Stepped e → is_passing e.kind ≡ true → turn_input k cpu g ≡ None
unfolding turn_input
no_input k cpu g e steps passing =
    of_events (λ (f : Event). is_passing f.kind ≡ true → input_by k g (next_to_act k cpu) ≡ None) k cpu e steps
    (λ p comes state its. ap (λ (o : Option Candidate). input_by k g o) (passing_none k cpu p comes))
    (λ c chosen state its. absurd (let both : true ≡ false = sym its ∙ acting_kind (deed k c.actor) in cc)) passing

pub memory_stays : (k : KernelState) (cpu : ℕ) (e : Event) → answer_of (turn k cpu) ≡ Stepped e → is_passing e.kind ≡ true → (after k cpu).memory ≡ k.memory
memory_stays k cpu e steps passing =
    of_events (λ (f : Event). is_passing f.kind ≡ true → (after k cpu).memory ≡ k.memory) k cpu e steps (λ p comes state its. ap (λ (s : KernelState). s.memory) state)
    (λ c chosen state its. absurd (let both : true ≡ false = sym its ∙ acting_kind (deed k c.actor) in cc)) passing

pub one_turn : (k : KernelState) (cpu g : ℕ) → HasPremises k → IsGuest k g → IsOneTurn k cpu g
unfolding turn_input
one_turn k cpu g sound is =
    let law = outcome (TurnLaw k g (input_by k g (next_to_act k cpu))) k cpu
    (λ none. subst (λ (o : Option Candidate). TurnLaw k g (input_by k g o) k None) (sym none) (refl, refl)) (turned_law k cpu g sound is) in
    record { guest = law.0; output = puts_as k (after k cpu) g (turn k cpu) _ law.1 }
