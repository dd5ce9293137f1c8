-- A recalled context stays so until it acts.
use Rattle.std.proofs.Common.{◌≡◌, ℕ, List, [], ◌∷◌, inl, inr, refl, sym, ap, ◌∙◌, subst}
use Rattle.std.specs.Prelude.{◌≢◌, true, Option, Some, None, option_map}
use Rattle.nova_model.specs.Boot.{Scenario, boot}
use Rattle.nova_model.specs.Choice.{Candidate, next_to_act}
use Rattle.nova_model.specs.Deeds.{deed, recall, resumed}
use Rattle.nova_model.specs.Edges.{state_in}
use Rattle.nova_model.specs.Runs.{after, run}
use Rattle.nova_model.specs.State.{KernelState, context, context_at, context_in, message}
use Rattle.nova_model.specs.declared.budget.Budget.{Budget}
use Rattle.nova_model.specs.declared.context.EcState.{EcState}
use Rattle.nova_model.specs.declared.context.Mark.{Mark}
use Rattle.nova_model.specs.declared.context.Mark.TheVariants as mark
use Rattle.nova_model.specs.declared.context.State.TheVariants.{Ready}
use Rattle.nova_model.specs.declared.deed.Deed.TheVariants.{Raises}
use Rattle.nova_model.specs.declared.event.Event.{Event}
use Rattle.law_forest.specs.Turns.{Acts, Idles, IsTurning, Passes, Takes, Turning, turned}
use Rattle.law_forest.specs.Effects.{passing_ends}
use Rattle.law_forest.proofs.Turning.{comes}
use Rattle.law_integrity.specs.Integrity.{Called, ContextBy, ExitSent, IsByRight, Itself, NewContext, Recalled, Resumed, Woken}
use Rattle.law_integrity.specs.Rights.{HasTurn}
use Rattle.law_integrity.proofs.Authorised.{authorised_by}
use Rattle.law_origins.specs.Giving.{Acts as Acting}
use Rattle.law_rows.proofs.States.{recalled}
use Rattle.law_turns.specs.Keeping.{IsKept}
use Rattle.law_turns.proofs.Items.{context_state}
use Rattle.law_turns.proofs.Passing.{Ended, Same, passing_each, passing_ending}
use Rattle.law_response.specs.Waits.{HasAwaited, IsSchedule, NeverActs}
use Rattle.law_response.proofs.Items.{of_reached}
use Rattle.law_response.proofs.Responding.{reached_is_kept}
use Rattle.law_response.proofs.Selves.{acts_in_time, itself_after, stays_itself}
use Rattle.law_response.proofs.Waiting.{IsReached, reached_after}

abbrev IsRecalled : Option EcState → Type 0
IsRecalled o = (context_in o).recall ≡ true

-- a context that is there before and after
kept_by : (old new : Option EcState) (x y : EcState) → old ≡ Some x → new ≡ Some y → y.recall ≡ x.recall → IsRecalled old → IsRecalled new
kept_by old new x y was is same asked =
    ap (λ (o : Option EcState). (context_in o).recall) is ∙ same ∙ sym (ap (λ (o : Option EcState). (context_in o).recall) was) ∙ asked

resumed_recall : (x : EcState) (its : Mark) (m : List ℕ) → (resumed x its m).recall ≡ x.recall
resumed_recall x mark.Call m = refl
resumed_recall x mark.Exit m = refl

-- a deed of another leaves it
recall_by : (k : KernelState) (a n : ℕ) (words : List ℕ) (old new : Option EcState) → ContextBy k a n words old new → n ≢ a → (context_in new).state ≡ Ready → IsRecalled old → IsRecalled new
recall_by k a n words old new (Itself same x y was is its) other ready asked = absurd (other same)
recall_by k a n words old new (Called c x was parks is) other ready asked = kept_by old new x _ was is refl asked
recall_by k a n words old new (ExitSent e x was parks is) other ready asked = kept_by old new x _ was is refl asked
recall_by k a n words old new (Resumed its serves x was waits is) other ready asked = kept_by old new x (resumed x its words) was is (resumed_recall x its words) asked
recall_by k a n words old new (Recalled names x was is) other ready asked = ap (λ (o : Option EcState). (context_in o).recall) is
recall_by k a n words old new (Woken sm asks rest first x was waits is) other ready asked = kept_by old new x _ was is refl asked
recall_by k a n words old None (NewContext is born) other ready asked = absurd (cc)
recall_by k a n words old (Some y) (NewContext is born) other ready asked = absurd (elim born.state [
  | inl parks ↦ (let both = sym parks ∙ ready in cc)
  | inr fresh ↦ (let both = sym fresh ∙ ready in cc)
])

passed_recall : (k : KernelState) (cpu ec : ℕ) → IsKept k → next_to_act k cpu ≡ None → IsRecalled (context_at k ec) → IsRecalled (context_at (after k cpu) ec)
passed_recall k cpu ec kept none asked = elim (comes k cpu) [
  | Idles idle moment same answer ↦ ap (λ (s : KernelState). (context s ec).recall) same ∙ asked
  | Takes t e is state answer ↦ ap (λ (s : KernelState). (context s ec).recall) state ∙ by_turn t e is
]
  where
    by_turn : (t : Turning) (e : Event) → IsTurning k cpu t e → IsRecalled (context_at (turned k cpu t) ec)
    by_turn t e (Acts c chosen is event) = absurd (let both : None ≡ Some c = sym none ∙ chosen in cc)
    by_turn t e (Passes p passes is event) =
        subst (λ (u : Turning). IsRecalled (context_at (turned k cpu u) ec)) (sym is)
        (elim (passing_each k.contexts (passing_ends k p) (passing_ending k cpu p passes kept.blocked kept.deadlines) ec) [
          | Same same ↦ ap (λ (o : Option EcState). (context_in o).recall) same ∙ asked
          | Ended y sm status was waits is_then ↦ kept_by (context_at k ec) _ y _ was is_then refl asked
        ])

recalled_after : (k : KernelState) (by ec : ℕ) → IsReached k → state_in k.contexts ec ≡ Some Ready → IsRecalled (context_at k ec) →
    option_map (λ (c : Candidate). c.actor) (next_to_act k by) ≢ Some ec → IsRecalled (context_at (after k by) ec)
recalled_after k by ec r at asked never = by_choice (next_to_act k by) refl
  where
    kept : IsKept k
    kept = reached_is_kept k r

    ready : (context (after k by) ec).state ≡ Ready
    ready = context_state (after k by).contexts ec Ready (itself_after k by ec Ready kept at refl never)

    rights : (a : ℕ) → Acting k by a → (sc : ℕ) × HasTurn k by a sc × IsByRight k (after k by) by a sc
    rights =
        of_reached (λ s. (a : ℕ) → Acting s by a → (sc : ℕ) × HasTurn s by a sc × IsByRight s (after s by) by a sc) (λ scenario turns a acts. authorised_by scenario turns by a acts) k r

    by_choice : (o : Option Candidate) → next_to_act k by ≡ o → IsRecalled (context_at (after k by) ec)
    by_choice None none = passed_recall k by ec kept none asked
    by_choice (Some c) chosen =
        let acts = ap (option_map (λ (x : Candidate). x.actor)) chosen in
        elim ((rights c.actor acts).2.contexts ec) [
          | inl same ↦ ap (λ (o : Option EcState). (context_in o).recall) same ∙ asked
          | inr changes ↦
              recall_by k c.actor ec (message (after k by) c.actor) (context_at k ec) (context_at (after k by) ec) changes
              (λ same. never (acts ∙ ap (λ (n : ℕ). Some n) (sym same))) ready asked
        ]

recalled_run : (k : KernelState) (turns : List ℕ) (ec : ℕ) → IsReached k → state_in k.contexts ec ≡ Some Ready → IsRecalled (context_at k ec) → NeverActs k ec turns →
    IsRecalled (context_at (run k turns) ec)
recalled_run k [] ec r at asked never = asked
recalled_run k (by ∷ turns) ec r at asked (first, never) =
    recalled_run (after k by) turns ec (reached_after k by r) (itself_after k by ec Ready (reached_is_kept k r) at refl first) (recalled_after k by ec r at asked first) never

pub recalled_deed : (k : KernelState) (turns : List ℕ) (ec : ℕ) → IsReached k → state_in k.contexts ec ≡ Some Ready → IsRecalled (context_at k ec) → NeverActs k ec turns →
    deed (run k turns) ec ≡ Raises recall 0 0
recalled_deed k turns ec r at asked never =
    recalled (run k turns) ec (context_state (run k turns).contexts ec Ready (stays_itself k turns ec Ready r at refl never).still) (recalled_run k turns ec r at asked never)

pub recalled_in_time : (s : Scenario) (before turns : List ℕ) (sc ec cpu priority quantum : ℕ) (b : Budget) → IsSchedule (run (boot s) before) sc ec cpu priority quantum b →
    state_in (run (boot s) before).contexts ec ≡ Some Ready → (context (run (boot s) before) ec).recall ≡ true → NeverActs (run (boot s) before) ec turns →
    HasAwaited (run (boot s) before) turns sc ec cpu priority b × (deed (run (run (boot s) before) turns) ec ≡ Raises recall 0 0)
recalled_in_time s before turns sc ec cpu priority quantum b its at asked never =
    let k = run (boot s) before in
    let so = acts_in_time s before turns sc ec cpu priority quantum b Ready its at refl never in
    (so.0, recalled_deed k turns ec (record { scenario = s; turns = before; is = refl }) at asked never)
