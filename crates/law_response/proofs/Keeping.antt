-- A context that gives items, and still does after a turn, has its registers and its caller.
use Rattle.std.proofs.Common.{◌≡◌, ℕ, length, refl, sym, ap, ◌∙◌, subst}
use Rattle.std.specs.Prelude.{true, false, Option, Some, None, option_map}
use Rattle.nova_range.specs.declared.status.Status.TheVariants.{Success}
use Rattle.nova_model.specs.Creation.{context_of}
use Rattle.nova_model.specs.Deeds.{serving, answered, deed, parked}
use Rattle.nova_model.specs.Edges.{is_giving}
use Rattle.nova_model.specs.Runs.{after}
use Rattle.nova_model.specs.State.{Contexts, KernelState, context, context_in, ec_in, ec_of, with_ec}
use Rattle.nova_model.specs.declared.context.EcState.{EcState}
use Rattle.nova_model.specs.declared.context.State.TheVariants.{Blocked, Calling}
use Rattle.nova_model.specs.declared.deed.Deed.{Deed}
use Rattle.nova_model.specs.declared.event.Event.{Event}
use Rattle.nova_model.specs.declared.new_object.NewObject.{NewObject}
use Rattle.nova_model.specs.declared.new_object.NewObject.TheVariants as new
use Rattle.nova_objects.specs.declared.object.EcKind.{EcKind}
use Rattle.nova_objects.specs.declared.object.EcKind.TheVariants.{Global, Local, Vcpu}
use Rattle.law_forest.specs.Effects.{all_edited, edits_by, joined, made_by, passing_ends}
use Rattle.law_forest.specs.Turns.{Acts, IsTurning, Passes, Turning, turned}
use Rattle.law_forest.proofs.Turning.{outcome}
use Rattle.law_turns.proofs.Courses.{Courses, deed_course}
use Rattle.law_turns.proofs.Giving.{parked_quiet, resumed_quiet}
use Rattle.law_turns.proofs.GivingPremises.{Wants, deed_wants, is_apart, wants_quiet}
use Rattle.law_turns.proofs.Passing.{passing_contexts, passing_ending}
use Rattle.law_turns.proofs.Referring.{deed_asks}
use Rattle.law_turns.proofs.Serving.{actor_of}
use Rattle.law_turns.proofs.Setting.{more_at}
use Rattle.law_turns.proofs.TablesFit.{TablesFit, chosen_acts}
use Rattle.law_forest.proofs.Doing.{set_at}

abbrev pub Keeps : EcState → EcState → Type 0
Keeps x y = is_giving x.state ≡ true → is_giving y.state ≡ true → (y.regs ≡ x.regs) × (y.caller ≡ x.caller)

quiet_keeps : (x y : EcState) → is_giving y.state ≡ false → Keeps x y
quiet_keeps x y quiet gives now = absurd (let both : true ≡ false = sym now ∙ quiet in cc)

begun_keeps : (x y : EcState) → is_giving x.state ≡ false → Keeps x y
begun_keeps x y quiet gives now = absurd (let both : true ≡ false = sym gives ∙ quiet in cc)

abbrev pub AllKeep : KernelState → Contexts → Type 0
AllKeep k cs = (e : ℕ) → Keeps (context k e) (ec_of cs e)

itself_keeps : (k : KernelState) → AllKeep k k.contexts
itself_keeps k e gives now = (refl, refl)

set_keeps : (k : KernelState) (cs : Contexts) (w : ℕ) (y : EcState) → Keeps (context k w) y → AllKeep k cs → AllKeep k (with_ec cs w y)
set_keeps k cs w y now h e = set_at (λ o. Keeps (context k e) (context_in o)) cs w e y (h e) (λ same. subst (λ (n : ℕ). Keeps (context k n) y) (sym same) now)

quiet_set : (k : KernelState) (cs : Contexts) (w : ℕ) (y : EcState) → is_giving y.state ≡ false → AllKeep k cs → AllKeep k (with_ec cs w y)
quiet_set k cs w y quiet h = set_keeps k cs w y (quiet_keeps (context k w) y quiet) h

keeps_courses : (k : KernelState) (ec : ℕ) (d : Deed) → Wants k ec d → Courses k ec d (λ cs all. AllKeep k cs)
keeps_courses k ec d wants = record {
  rests = λ to. itself_keeps k;
  steps = λ regs is. set_keeps k k.contexts ec (record (context k ec) { regs = regs })
      (begun_keeps (context k ec) (record (context k ec) { regs = regs }) (wants_quiet k ec d (ap is_apart is) wants)) (itself_keeps k);
  stays = λ cs all w x y is self same h. set_keeps k cs w y
      (λ gives now.
      let before : Keeps (context k w) x = subst (Keeps (context k w)) (ap context_in is) (h w) in
      let both = before gives (ap is_giving (sym same) ∙ now) in
      (self.regs now ∙ both.0, self.caller ∙ both.1)) h;
  goes = λ y self to may. set_keeps k k.contexts ec y (λ gives now. (self.regs now, self.caller)) (itself_keeps k);
  sends = λ handler its ip identifier items to of reached.
      let one = with_ec k.contexts ec (record (context k ec) { state = Calling handler }) in
      set_keeps k one handler (serving (ec_of one handler) ec its ip identifier items)
      (begun_keeps (context k handler) (serving (ec_of one handler) ec its ip identifier items) (parked_quiet (ec_in k.contexts handler) reached.parked))
      (quiet_set k k.contexts ec (record (context k ec) { state = Calling handler }) refl (itself_keeps k));
  replies = λ caller its m to keeps.
      let one = with_ec k.contexts ec (parked (context k ec)) in
      quiet_set k one caller _ (resumed_quiet (ec_of one caller) its m) (quiet_set k k.contexts ec (parked (context k ec)) refl (itself_keeps k));
  ups = λ sm to is. quiet_set k k.contexts ec (answered (context k ec) Success None) refl (itself_keeps k);
  wakes = λ sm w to is.
      quiet_set k (with_ec k.contexts ec (answered (context k ec) Success None)) w _ refl
      (quiet_set k k.contexts ec (answered (context k ec) Success None) refl (itself_keeps k));
  downs = λ sm to is. quiet_set k k.contexts ec (answered (context k ec) Success None) refl (itself_keeps k);
  blocks = λ sm to is answer. quiet_set k k.contexts ec (record (context k ec) { state = Blocked sm }) refl (itself_keeps k);
}

first_quiet : (kind : EcKind) (n : ℕ) (pd cpu sp event : ℕ) → is_giving (context_in (context_of n (new.Ec pd cpu kind sp event))).state ≡ false
first_quiet Local n pd cpu sp event = refl
first_quiet Global n pd cpu sp event = refl
first_quiet Vcpu n pd cpu sp event = refl

new_quiet : (n : ℕ) (made : NewObject) → is_giving (context_in (context_of n made)).state ≡ false
new_quiet n new.Pd = refl
new_quiet n (new.Ec pd cpu kind sp event) = first_quiet kind n pd cpu sp event
new_quiet n (new.Sc ec cpu priority quantum) = refl
new_quiet n (new.Pt ec mtd ip) = refl
new_quiet n (new.Sm count) = refl

joined_keeps : (k : KernelState) (cs : Contexts) (n : ℕ) (made : Option NewObject) → AllKeep k cs → AllKeep k (joined cs (option_map (context_of n) made))
joined_keeps k cs n None h = h
joined_keeps k cs n (Some made) h = λ e.
    more_at (λ o. Keeps (context k e) (context_in o)) cs (context_of n made) e (h e) (λ none. quiet_keeps (context k e) (context_in (context_of n made)) (new_quiet n made))

turned_keeps : (k : KernelState) (cpu : ℕ) (t : Turning) (e : Event) → IsTurning k cpu t e → TablesFit k → AllKeep k (turned k cpu t).contexts
turned_keeps k cpu t e (Acts c chosen is event) fits =
    let d = deed k c.actor in
    subst (λ (u : Turning). AllKeep k (turned k cpu u).contexts) (sym is)
    (joined_keeps k (all_edited k.contexts (edits_by k c.actor d)) (length k.objects) (made_by d)
    (deed_course k c.actor (λ cs all. AllKeep k cs) d (actor_of k.contexts c.actor (chosen_acts k cpu c chosen)) (deed_asks k c.actor) (keeps_courses k c.actor d (deed_wants k c.actor))))
turned_keeps k cpu t e (Passes p comes is event) fits =
    subst (λ (u : Turning). AllKeep k (turned k cpu u).contexts) (sym is)
    (passing_contexts (AllKeep k) k.contexts (passing_ends k p) (passing_ending k cpu p comes fits.blocked fits.late) (itself_keeps k)
    (λ w sm status at. quiet_set k k.contexts w (answered (ec_of k.contexts w) status None) refl (itself_keeps k)))

pub after_keeps : (k : KernelState) (cpu : ℕ) → TablesFit k → AllKeep k (after k cpu).contexts
after_keeps k cpu fits = outcome (λ s o. AllKeep k s.contexts) k cpu (λ none. itself_keeps k) (λ t e is. turned_keeps k cpu t e is fits)
