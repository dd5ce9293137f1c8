-- A plain step is the same in two states that are the same as far as it sees.
use Rattle.std.proofs.Common.{◌≡◌, ℕ, List, [], ◌∷◌, refl, sym, ap, ap₂, ◌∙◌, subst, inl, inr}
use Rattle.std.specs.Prelude.{Bool, ◌==◌, ◌&&◌, is_some, slice_get, Option, Some, None, option_and_then, Contains, if◌then◌else◌}
use Rattle.std.proofs.lemmas.Option.{same_Some}
use mathlib.Core.Path.{fun_ext}
use Rattle.rv_model.specs.Registers.{Registers}
use Rattle.rv_model.specs.Step.{Once, Store, Went, one}
use Rattle.nova_guest.specs.Frames.{frame_from}
use Rattle.nova_guest.specs.declared.page.Page.{Page}
use Rattle.nova_objects.specs.declared.object.Object.{Object}
use Rattle.nova_range.specs.Rights.{write_right}
use Rattle.nova_model.specs.AddressSpaces.{own_page, space}
use Rattle.nova_model.specs.Choice.{Candidate, next_to_act}
use Rattle.nova_model.specs.Deeds.{address_space, deed, instruction}
use Rattle.nova_model.specs.Delegations.{reach}
use Rattle.nova_model.specs.Inputs.{frame_of_store, in_ram, store_of}
use Rattle.nova_model.specs.Runs.{after}
use Rattle.nova_model.specs.State.{KernelState, context, context_at, context_in, is_thread_in, message, own_words, pd_in, pd_of, processor_in, processor_of}
use Rattle.nova_model.specs.declared.context.EcState.{EcState}
use Rattle.nova_model.specs.declared.deed.Deed.TheVariants.{Steps}
use Rattle.nova_model.specs.declared.event.Event.{Event}
use Rattle.law_forest.specs.Effects.{Effect, effect}
use Rattle.law_forest.proofs.Members.{contains_from_in, in_from_contains}
use Rattle.law_forest.specs.Turns.{Acts, IsTurning, Passes, Turning, acting}
use Rattle.law_forest.proofs.Turning.{passing_none}
use Rattle.law_swaps.specs.Touches.{ChangesWithin, Executes, HaveSameBytes, IsPlain, IsTouched, ReadsWithin, Touch, contexts_changed, frame_stored_to, processor_given, with_ram}
use Rattle.law_swaps.proofs.Storing.{AreOwn, Its, Nobodys, are_own}
use Rattle.law_swaps.proofs.Stepping.{IsStepped, does_step, effect_is, step_is}

-- the same for the turn of a candidate: it acts next in both, and its object, its context, its words, where pages lead for its domain, which frames there are, and the bytes of some are the same
pub record IsSeenSame (k l : KernelState) (cpu : ℕ) (c : Candidate) (frames : List ℕ) : Type 0 where
  pub first : next_to_act k cpu ≡ Some c
  pub second : next_to_act l cpu ≡ Some c
  pub object : slice_get l.objects c.actor ≡ slice_get k.objects c.actor
  pub context : context_at l c.actor ≡ context_at k c.actor
  pub words : message l c.actor ≡ message k c.actor
  pub pages : (page : ℕ) → reach l.delegations.list (pd_of k c.actor) page ≡ reach k.delegations.list (pd_of k c.actor) page
  pub size : (frame : ℕ) → is_some (slice_get l.memory.ram frame) ≡ is_some (slice_get k.memory.ram frame)
  pub bytes : HaveSameBytes frames k.memory.ram l.memory.ram

-- THE INSTRUCTION

pub own_same : (k l : KernelState) (cpu : ℕ) (c : Candidate) (frames : List ℕ) → IsSeenSame k l cpu c frames → own_words l c.actor ≡ own_words k c.actor
own_same k l cpu c frames same = ap₂ (λ (o : Option Object) (m : List ℕ). if is_thread_in o then Some m else None) same.object same.words

pub page_same : (k l : KernelState) (cpu : ℕ) (c : Candidate) (frames : List ℕ) → IsSeenSame k l cpu c frames → (address_space l c.actor).page ≡ (address_space k c.actor).page
page_same k l cpu c frames same = fun_ext (λ page.
    ap₂ (λ (w : Option (List ℕ)) (o : Option Page). if is_some w && (page == own_page) then None else o) (own_same k l cpu c frames same)
    (ap (λ (o : Option Object). reach l.delegations.list (pd_in o) page) same.object ∙ same.pages page))

-- by the context, where pages lead, RAM and its words
abbrev seen : EcState → (ℕ → Option Page) → List (List ℕ) → Option (List ℕ) → Once
seen x page ram own = one x.regs (space (record { page = page; bytes = slice_get ram; words = own }))

over_same : (k l : KernelState) (cpu : ℕ) (c : Candidate) (frames : List ℕ) (ram : List (List ℕ)) → IsSeenSame k l cpu c frames →
    instruction (with_ram l ram) c.actor ≡ instruction (with_ram k ram) c.actor
over_same k l cpu c frames ram same =
    ap (λ (x : Option EcState). seen (context_in x) (address_space l c.actor).page ram (own_words l c.actor)) same.context
    ∙ ap (λ (page : ℕ → Option Page). seen (context k c.actor) page ram (own_words l c.actor)) (page_same k l cpu c frames same)
    ∙ ap (seen (context k c.actor) (address_space k c.actor).page ram) (own_same k l cpu c frames same)

pub instruction_same : (k l : KernelState) (cpu : ℕ) (c : Candidate) (frames : List ℕ) → IsSeenSame k l cpu c frames → ReadsWithin k c.actor frames → instruction l c.actor ≡ instruction k c.actor
instruction_same k l cpu c frames same reads = over_same k l cpu c frames l.memory.ram same ∙ reads l.memory.ram same.bytes

pub reads_same : (k l : KernelState) (cpu : ℕ) (c : Candidate) (frames : List ℕ) → IsSeenSame k l cpu c frames → ReadsWithin k c.actor frames → ReadsWithin l c.actor frames
reads_same k l cpu c frames same reads ram agrees =
    over_same k l cpu c frames ram same
    ∙ reads ram (λ frame there. agrees frame there ∙ same.bytes frame there)
    ∙ sym (instruction_same k l cpu c frames same reads)

-- THE STEP

pub executes_same : (k l : KernelState) (ec : ℕ) → context_at l ec ≡ context_at k ec → Executes (context k ec) → Executes (context l ec)
executes_same k l ec same at = subst (λ (o : Option EcState). Executes (context_in o)) (sym same) at

pub plain_same : (k l : KernelState) (cpu : ℕ) (frames : List ℕ) (plain : IsPlain k cpu) → IsSeenSame k l cpu plain.candidate frames → ReadsWithin k plain.candidate.actor frames → IsPlain l cpu
plain_same k l cpu frames plain same reads = record {
  candidate = plain.candidate;
  next = same.second;
  executes = executes_same k l plain.candidate.actor same.context plain.executes;
  regs = plain.regs;
  store = plain.store;
  goes_on = instruction_same k l cpu plain.candidate frames same reads ∙ plain.goes_on;
  no_console = λ s frame is goes. same.size frame
      ∙ plain.no_console s frame is (ap (λ (page : ℕ → Option Page). frame_from page write_right s.address) (sym (page_same k l cpu plain.candidate frames same)) ∙ goes);
}

-- WHAT IT TOUCHES

pub frames_same : (k l : KernelState) (cpu : ℕ) (c : Candidate) (frames : List ℕ) → IsSeenSame k l cpu c frames → (o : Option Store) →
    option_and_then (frame_of_store l c.actor) o ≡ option_and_then (frame_of_store k c.actor) o
frames_same k l cpu c frames same None = refl
frames_same k l cpu c frames same (Some s) =
    ap (λ (page : ℕ → Option Page). option_and_then (in_ram l) (frame_from page write_right s.address)) (page_same k l cpu c frames same)
    ∙ by_frame (frame_from (address_space k c.actor).page write_right s.address)
  where
    by_frame : (o : Option ℕ) → option_and_then (in_ram l) o ≡ option_and_then (in_ram k) o
    by_frame None = refl
    by_frame (Some frame) = ap (λ (t : Bool). if t then Some frame else None) (same.size frame)

stored_same : (k l : KernelState) (cpu : ℕ) (c : Candidate) (frames : List ℕ) → IsSeenSame k l cpu c frames → instruction l c.actor ≡ instruction k c.actor → deed k c.actor ≡ Steps → deed l c.actor ≡ Steps →
    frame_stored_to l c.actor (deed l c.actor) ≡ frame_stored_to k c.actor (deed k c.actor)
stored_same k l cpu c frames same went first second =
    ap (frame_stored_to l c.actor) second
    ∙ ap (λ (o : Once). option_and_then (frame_of_store l c.actor) (store_of o)) went
    ∙ frames_same k l cpu c frames same (store_of (instruction k c.actor))
    ∙ sym (ap (frame_stored_to k c.actor) first)

-- it changes its own context alone
alone : (ec n : ℕ) → Contains (ec ∷ []) n → n ≡ ec
alone ec n there = elim (in_from_contains (ec ∷ []) n there) [
  | inl same ↦ sym same
  | inr none ↦ absurd none
]

-- an effect of the plain step of a context: it changes that context alone, and its words
pub record IsOwn (ec : ℕ) (e : Effect) : Type 0 where
  pub contexts : contexts_changed e ≡ ec ∷ []
  pub words : AreOwn ec e.words
  pub deadline : e.deadline ≡ None
  pub made : e.made ≡ None

pub own_effect : (k : KernelState) (ec : ℕ) (regs : Registers) (store : Option Store) → deed k ec ≡ Steps → instruction k ec ≡ Went regs store → IsOwn ec (effect k ec (deed k ec))
own_effect k ec regs store does went = subst (IsOwn ec) (sym (effect_is k ec regs store does went)) (record {
  contexts = refl;
  words = are_own (address_space k ec) ec store;
  deadline = refl;
  made = refl;
})

own_within : (k : KernelState) (ec cpu : ℕ) (e : Effect) (meets : List ℕ) → processor_of k ec ≡ cpu → IsOwn ec e → ChangesWithin k e (cpu ∷ meets)
own_within k ec cpu e meets home own = record {
  contexts = λ n there here. at n (alone ec n (subst (λ (ns : List ℕ). Contains ns n) own.contexts there));
  words = λ n words is here. by_words n words is own.words;
  deadline = λ n until is. absurd (let both : None ≡ Some (n, until) = sym own.deadline ∙ is in cc);
  made = λ other given. absurd (let both : None ≡ Some other = sym (ap processor_given own.made) ∙ given in cc);
}
  where
    at : (n : ℕ) → n ≡ ec → Contains (cpu ∷ meets) (processor_of k n)
    at n same = contains_from_in (cpu ∷ meets) (processor_of k n) (inl (sym (ap (processor_of k) same ∙ home)))

    by_words : (n : ℕ) (words : List ℕ) → e.words ≡ Some (n, words) → AreOwn ec e.words → Contains (cpu ∷ meets) (processor_of k n)
    by_words n words is (Nobodys none) = absurd (let both : None ≡ Some (n, words) = sym none ∙ is in cc)
    by_words n words is (Its others its) = at n (let both : (n, words) ≡ (ec, others) = same_Some (n, words) (ec, others) (sym is ∙ its) in ap (λ (pair : ℕ × List ℕ). pair.0) both)

pub touched_same : (k l : KernelState) (cpu : ℕ) (t : Touch) (plain : IsPlain k cpu) → processor_of k plain.candidate.actor ≡ cpu → IsTouched k cpu t → IsSeenSame k l cpu plain.candidate t.reads →
    IsTouched l cpu t
touched_same k l cpu t plain home touch same = record {
  reads = λ d next executes. subst (λ (x : Candidate). ReadsWithin l x.actor t.reads) (sym (only d next)) (reads_same k l cpu c t.reads same reads);
  writes = λ d frame next goes.
      touch.writes c frame same.first (sym (stored_same k l cpu c t.reads same went first second) ∙ (ap (λ (x : Candidate). frame_stored_to l x.actor (deed l x.actor)) (sym (only d next)) ∙ goes));
  meets = by_turn;
  moves = λ still domain page. ap (λ (s : KernelState). reach s.delegations.list domain page) step.is;
  plain = λ is. plain_same k l cpu t.reads plain same reads;
}
  where
    c : Candidate
    c = plain.candidate

    reads : ReadsWithin k plain.candidate.actor t.reads
    reads = touch.reads plain.candidate plain.next plain.executes

    went : instruction l plain.candidate.actor ≡ instruction k plain.candidate.actor
    went = instruction_same k l cpu plain.candidate t.reads same reads

    first : deed k plain.candidate.actor ≡ Steps
    first = does_step k plain.candidate.actor plain.regs plain.store plain.executes plain.goes_on

    executes_too : Executes (context l plain.candidate.actor)
    executes_too = executes_same k l plain.candidate.actor same.context plain.executes

    second : deed l plain.candidate.actor ≡ Steps
    second = does_step l plain.candidate.actor plain.regs plain.store executes_too (went ∙ plain.goes_on)

    step : IsStepped l (after l cpu) cpu plain.candidate plain.regs plain.store
    step = step_is l cpu plain.candidate plain.regs plain.store same.second executes_too (went ∙ plain.goes_on)

    only : (d : Candidate) → next_to_act l cpu ≡ Some d → d ≡ plain.candidate
    only d next = same_Some d plain.candidate (sym next ∙ same.second)

    effect_of : (turning : Turning) (d : Candidate) → next_to_act l cpu ≡ Some d → turning ≡ acting l d → turning.effect ≡ effect l plain.candidate.actor (deed l plain.candidate.actor)
    effect_of turning d next is = ap (λ (u : Turning). u.effect) is ∙ ap (λ (x : Candidate). effect l x.actor (deed l x.actor)) (only d next)

    home_too : processor_of l plain.candidate.actor ≡ cpu
    home_too = ap (λ (o : Option Object). processor_in o) same.object ∙ home

    by_turn : (turning : Turning) (e : Event) → IsTurning l cpu turning e → ChangesWithin l turning.effect (cpu ∷ t.meets)
    by_turn turning e (Acts d next is event) =
        subst (λ (f : Effect). ChangesWithin l f (cpu ∷ t.meets)) (sym (effect_of turning d next is))
        (own_within l plain.candidate.actor cpu (effect l plain.candidate.actor (deed l plain.candidate.actor)) t.meets home_too
        (own_effect l plain.candidate.actor plain.regs plain.store second (went ∙ plain.goes_on)))
    by_turn turning e (Passes p comes is event) = absurd (let both : None ≡ Some plain.candidate = sym (passing_none l cpu p comes) ∙ same.second in cc)
