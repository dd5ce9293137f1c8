-- From the turn in which it was made a virtual CPU is a guest alone, and what the whole run shows of it is what that guest puts out.
use Rattle.std.proofs.Common.{◌≡◌, ◌≢◌, ℕ, List, [], ◌∷◌, ◌++◌, length, ap, ap₂, sym, ◌∙◌, subst, refl, ◌<◌}
use Rattle.std.specs.Prelude.{false, ◌==◌, Option, Some, None, option_map, option_and_then}
use Rattle.std.specs.List.{AllByRecursion, filter}
use Rattle.std.proofs.lemmas.Bool.{ne_eqb}
use Rattle.std.proofs.lemmas.List.{append_assoc}
use Rattle.nova_guest.specs.Alone.{outputs}
use Rattle.nova_guest.specs.declared.input.Out.{Out}
use Rattle.law_isolation.specs.Law.{bytes_of}
use Rattle.law_isolation.specs.Shown.{exit_by, exit_with, gained_in, is_byte, is_exit, raise_of, second_of, shown}
use Rattle.law_isolation.specs.Sound.{IsSound}
use Rattle.law_isolation.proofs.Runs.{reached_sound, run_alone, run_sound, turn_sound}
use Rattle.law_isolation.proofs.Shows.{bytes_of_shown, exits_of_shown, outputs_shown}
use Rattle.nova_model.specs.Boot.{Scenario, boot}
use Rattle.nova_model.specs.Choice.{in_front}
use Rattle.nova_model.specs.Guests.{inputs}
use Rattle.nova_model.specs.Runs.{after, run, trace}
use Rattle.nova_model.specs.State.{KernelState}
use Rattle.nova_model.specs.Turn.{Step, turn}
use Rattle.nova_model.specs.Views.{view}
use Rattle.nova_model.specs.declared.event.Event.{Event}
use Rattle.nova_model.specs.declared.log.LogByte.{LogByte}
use Rattle.law_origins.specs.Lives.{AreGuestsAlone, IsGuestAlone, IsMade, born}
use Rattle.law_origins.proofs.Births.{all_of, is_made, unnamed, boot_some}
use Rattle.law_origins.proofs.Lists.{run_append}
use Rattle.law_origins.proofs.Once.{one_birth}

-- WHAT IS SHOWN OF TURNS THAT DON'T NAME IT

shown_append : (k : KernelState) (a b : List ℕ) (g : ℕ) → shown k (a ++ b) g ≡ shown k a g ++ shown (run k a) b g
shown_append k [] b g = refl
shown_append k (cpu ∷ a) b g =
    let first : List Out = exit_by k cpu g ++ bytes_of (length k.memory.ram) (gained_in k cpu g) in
    ap (λ (os : List Out). first ++ os) (shown_append (after k cpu) a b g) ∙ sym (append_assoc first (shown (after k cpu) a g) (shown (run (after k cpu) a) b g))

-- an event of another shows nothing
exit_none : (g q1 : ℕ) (o : Option Step) → ((t : Step) → o ≡ Some t → t.event.ec ≢ g) → exit_with q1 (option_and_then (raise_of g) (option_map (λ s. s.event) o)) ≡ []
exit_none g q1 None other = refl
exit_none g q1 (Some t) other = rw (ne_eqb t.event.ec g (other t refl)) refl

gained_none : (k : KernelState) (cpu g : ℕ) → ((t : Step) → turn k cpu ≡ Some t → t.event.ec ≢ g) → gained_in k cpu g ≡ []
gained_none k cpu g other = by_turn (turn k cpu) refl
  where
    by_turn : (o : Option Step) → turn k cpu ≡ o → gained_in k cpu g ≡ []
    by_turn None is = rw is refl
    by_turn (Some t) is = let ne : (t.event.ec == g) ≡ false = ne_eqb t.event.ec g (other t is) in rw (is, ne) refl

first_of : (P : Event → Type 0) (o : Option Step) (events : List Event) → AllByRecursion P (in_front (option_map (λ (t : Step). t.event) o) events) → (t : Step) → o ≡ Some t → P t.event
first_of P None events all t is = absurd (cc)
first_of P (Some s) events all t is = subst (λ (t : Step). P t.event) (let same : s ≡ t = cc in same) all.0

rest_of : (P : Event → Type 0) (o : Option Step) (events : List Event) → AllByRecursion P (in_front (option_map (λ (t : Step). t.event) o) events) → AllByRecursion P events
rest_of P None events all = all
rest_of P (Some s) events all = all.1

shown_none : (k : KernelState) (turns : List ℕ) (g : ℕ) → AllByRecursion (λ (e : Event). e.ec ≢ g) (trace k turns) → shown k turns g ≡ []
shown_none k [] g all = refl
shown_none k (cpu ∷ turns) g all =
    let others : (t : Step) → turn k cpu ≡ Some t → t.event.ec ≢ g = first_of (λ (e : Event). e.ec ≢ g) (turn k cpu) (trace (after k cpu) turns) all in
    let exit : exit_by k cpu g ≡ [] = exit_none g (second_of (view (after k cpu) g).state) (turn k cpu) others in
    ap₂ (λ (a b : List Out). a ++ b)
    (ap₂ (λ (a : List Out) (l : List LogByte). a ++ bytes_of (length k.memory.ram) l) exit (gained_none k cpu g others))
    (shown_none (after k cpu) turns g (rest_of (λ (e : Event). e.ec ≢ g) (turn k cpu) (trace (after k cpu) turns) all))

-- ITS WHOLE LIFE

-- the turns up to its own, and the rest
parted : (k : KernelState) (turns : List ℕ) (g : ℕ) (m : IsMade k turns g) → turns ≡ (m.before ++ m.cpu ∷ []) ++ m.later
parted k turns g m = m.whole ∙ sym (append_assoc m.before (m.cpu ∷ []) m.later)

at_birth : (k : KernelState) (turns : List ℕ) (g : ℕ) (m : IsMade k turns g) → run k (m.before ++ m.cpu ∷ []) ≡ born k turns g m
at_birth k turns g m = run_append k m.before (m.cpu ∷ [])

at_end : (k : KernelState) (turns : List ℕ) (g : ℕ) (m : IsMade k turns g) → run k turns ≡ run (born k turns g m) m.later
at_end k turns g m = ap (run k) (parted k turns g m) ∙ (run_append k (m.before ++ m.cpu ∷ []) m.later ∙ ap (λ (s : KernelState). run s m.later) (at_birth k turns g m))

shown_since : (k : KernelState) (turns : List ℕ) (g : ℕ) → IsSound k → 0 < length k.objects → (m : IsMade k turns g) → shown k turns g ≡ shown (born k turns g m) m.later g
shown_since k turns g sound some m =
    ap (λ (l : List ℕ). shown k l g) (parted k turns g m)
    ∙ (shown_append k (m.before ++ m.cpu ∷ []) m.later g
    ∙ (ap (λ (os : List Out). os ++ shown (run k (m.before ++ m.cpu ∷ [])) m.later g) (shown_none k (m.before ++ m.cpu ∷ []) g (unnamed k turns g sound some m))
    ∙ ap (λ (s : KernelState). shown s m.later g) (at_birth k turns g m)))

guest_alone : (k : KernelState) (turns : List ℕ) (g : ℕ) → IsSound k → 0 < length k.objects → (m : IsMade k turns g) → IsGuestAlone k turns g m
guest_alone k turns g sound some m =
    let b : KernelState = born k turns g m in
    let its : IsSound b = turn_sound (run k m.before) m.cpu (run_sound k m.before sound) in
    let all : outputs (view b g) (inputs b m.later g) ≡ shown k turns g = outputs_shown b m.later g its m.made ∙ sym (shown_since k turns g sound some m) in
    record {
      unnamed = all_of (λ (e : Event). e.ec ≢ g) (trace k (m.before ++ m.cpu ∷ [])) (unnamed k turns g sound some m);
      becomes = ap (λ (s : KernelState). view s g) (at_end k turns g m) ∙ run_alone b m.later g its m.made;
      shows = all;
      raises = ap (filter is_exit) all ∙ exits_of_shown k turns g;
      stores = ap (filter is_byte) all ∙ bytes_of_shown k turns g;
    }

pub guests_alone : (s : Scenario) (turns : List ℕ) → AreGuestsAlone (boot s) turns
guests_alone s turns = record {
  made = λ g is. is_made s turns g is;
  once = λ g m n. one_birth (boot s) turns g m n;
  alone = λ g m. guest_alone (boot s) turns g (reached_sound s []) (boot_some s) m;
}
