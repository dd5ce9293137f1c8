-- Which execution contexts a deed edits, and by what right.
use Rattle.std.proofs.Common.{◌≡◌, ℕ, List, [], ◌∷◌, ◌⊎◌, refl, sym, ap, ◌∙◌, subst, inl, inr}
use Rattle.std.specs.Prelude.{◌≢◌, Bool, true, false, Option, Some, None}
use Rattle.rv_model.specs.Step.{Once, Raised, Went}
use Rattle.nova_range.specs.declared.status.Status.TheVariants.{Success}
use Rattle.nova_model.specs.Deeds.{deed, instruction, resumed, serving}
use Rattle.nova_model.specs.Portals.{identifier}
use Rattle.nova_model.specs.State.{Contexts, KernelState, context, context_at, context_in, ec_in, ec_of, is_local_thread, message}
use Rattle.nova_model.specs.declared.admit.ExitAdmit.TheVariants as exit
use Rattle.nova_model.specs.declared.context.EcState.{EcState}
use Rattle.nova_model.specs.declared.context.Mark.{Mark}
use Rattle.nova_model.specs.declared.context.Mark.TheVariants as mark
use Rattle.nova_model.specs.declared.context.State.TheVariants.{Blocked, Calling}
use Rattle.nova_model.specs.declared.deed.Deed.{Deed}
use Rattle.nova_model.specs.declared.deed.Deed.TheVariants as deeds
use Rattle.nova_model.specs.declared.transfer.Sequel.{Sequel}
use Rattle.nova_model.specs.declared.transfer.Sequel.TheVariants as sequel
use Rattle.law_forest.specs.Effects.{Answers, Becomes, Edit, Edits, Parks, Recalled as recalls, Resumes, Serves, all_edited, applied, edit_at, edited, edits_by, effect, follows_by, recalls_by, steps_by, wakes_by}
use Rattle.law_turns.proofs.Blocking.{first_woken, woken_blocked}
use Rattle.law_turns.proofs.Links.{place}
use Rattle.law_turns.proofs.Referring.{Asks, Follows}
use Rattle.law_turns.proofs.Serving.{IsActor, awaited, blocked_there, exit_reaches, of_there, reached_there, send_reaches}
use Rattle.law_turns.proofs.Setting.{entry_other}
use Rattle.law_turns.proofs.TablesFit.{TablesFit}
use Rattle.law_turns.specs.Links.{state_at}
use Rattle.law_forest.proofs.Doing.{set_at}
use Rattle.law_integrity.specs.Rightful.{IsCall, IsExitAt, IsRightful}
use Rattle.law_integrity.specs.Integrity.{Called, ContextBy, ExitSent, Itself, Recalled, Resumed, Woken}
use Rattle.nova_calls.specs.declared.numbers.TheConstants.{EC_CTRL}
use Rattle.nova_model.specs.Capabilities.{control_right}
use Rattle.law_integrity.specs.Rights.{Names}
use Rattle.law_integrity.proofs.Own.{IsOwn, exits_at, own_by, reached_parked}

-- the entry of this number stays, or is so by right
abbrev pub IsRight : KernelState → ℕ → ℕ → List ℕ → Option EcState → Type 0
IsRight k ec n words o = (o ≡ context_at k n) ⊎ ContextBy k ec n words (context_at k n) o

-- ONE AND TWO EDITS

-- of the context that acts alone
abbrev AreOwn : ℕ → Edits → Type 0
AreOwn ec [] = Unit {0}
AreOwn ec ((h, e) ∷ es) = (h ≡ ec) × AreOwn ec es

own_edits : (cs : Contexts) (ec n : ℕ) (es : Edits) → n ≢ ec → AreOwn ec es → ec_in (all_edited cs es) n ≡ ec_in cs n
own_edits cs ec n [] apart own = refl
own_edits cs ec n ((h, e) ∷ es) apart own = own_edits (edit_at cs h e) ec n es apart own.1 ∙ entry_other cs h n _ (λ same. apart (same ∙ own.0))

own_edit : (k : KernelState) (w : List ℕ) (ec n : ℕ) (es : Edits) → n ≢ ec → AreOwn ec es → IsRight k ec n w (ec_in (all_edited k.contexts es) n)
own_edit k w ec n es apart own = inl (own_edits k.contexts ec n es apart own)

one_edit : (k : KernelState) (w : List ℕ) (ec n : ℕ) (e : Edit) → n ≢ ec → IsRight k ec n w (ec_in (all_edited k.contexts ((ec, e) ∷ [])) n)
one_edit k w ec n e apart = inl (entry_other k.contexts ec n _ apart)

two_edits : (k : KernelState) (w : List ℕ) (ec h n : ℕ) (e f : Edit) → n ≢ ec → (n ≡ h → IsRight k ec n w (Some (edited (context k n) f))) →
    IsRight k ec n w (ec_in (all_edited k.contexts ((ec, e) ∷ (h, f) ∷ [])) n)
two_edits k w ec h n e f apart right =
    set_at (IsRight k ec n w) (edit_at k.contexts ec e) h n (edited (ec_of (edit_at k.contexts ec e) h) f) (one_edit k w ec n e apart)
    (λ same. subst (λ (x : EcState). IsRight k ec n w (Some (edited x f))) (sym (ap context_in (ap (ec_in (edit_at k.contexts ec e)) (sym same) ∙ entry_other k.contexts ec n _ apart)))
    (right same))

-- CALLS AND EXITS

call_right : (k : KernelState) (w : List ℕ) (ec h ip number : ℕ) (items : Bool) → IsCall k ec h ip number items → IsRight k ec h w (Some (serving (context k h) ec mark.Call ip number items))
call_right k w ec h ip number items c =
    let r = send_reaches k.contexts ec h _ c.admits in
    inr (Called c.at (context k h) (of_there k.contexts h (reached_there k.contexts ec h r)) (reached_parked k ec h r)
    (ap (λ (i : ℕ). Some (serving (context k h) ec mark.Call i number items)) c.begins
    ∙ ap (λ (i : ℕ). Some (serving (context k h) ec mark.Call c.at.ip i items)) c.number_is
    ∙ ap (λ (b : Bool). Some (serving (context k h) ec mark.Call c.at.ip (identifier k c.at.portal) b)) c.items_are))

exit_right : (k : KernelState) (w : List ℕ) (ec h ip number mtd reason q0 q1 : ℕ) → IsExitAt k ec h ip number mtd reason q0 q1 exit.Sends →
    IsRight k ec h w (Some (serving (context k h) ec mark.Exit ip number false))
exit_right k w ec h ip number mtd reason q0 q1 e =
    let r = exit_reaches k.contexts ec h e.admits in
    inr (ExitSent (exits_at k ec h ip number mtd reason q0 q1 exit.Sends e) (context k h) (of_there k.contexts h (reached_there k.contexts ec h r)) (reached_parked k ec h r)
    (ap (λ (i : ℕ). Some (serving (context k h) ec mark.Exit ip i false)) e.number_is))

-- REPLIES, RECALLS AND UPS

replied : (k : KernelState) (w : List ℕ) (ec caller n : ℕ) (came : Mark) (m : List ℕ) → ((x : EcState) → resumed x came m ≡ resumed x came w) → IsActor k.contexts ec → TablesFit k → (context k ec).caller ≡ Some (caller, came) → n ≢ ec →
    IsRight k ec n w (ec_in (all_edited k.contexts ((ec, Parks) ∷ (caller, Resumes came m) ∷ [])) n)
replied k w ec caller n came m same_words actor fits serves apart =
    two_edits k w ec caller n Parks (Resumes came m) apart
    (λ same. subst (λ (h : ℕ). IsRight k ec h w (Some (edited (context k h) (Resumes came m)))) (sym same)
    (let waits = awaited (is_local_thread k) k.contexts ec caller came actor serves fits.served in
    inr (Resumed came serves (context k caller) waits.there waits.waits (ap Some (same_words (context k caller))))))

recalled : (k : KernelState) (w : List ℕ) (ec whose n : ℕ) (e : Edit) → IsRightful k ec (deeds.Recalls whose) → n ≢ ec → (o : Option EcState) → ec_in (edit_at k.contexts ec e) whose ≡ o →
    IsRight k ec n w (ec_in (all_edited k.contexts ((ec, e) ∷ recalls_by whose o)) n)
recalled k w ec whose n e r apart None is = one_edit k w ec n e apart
recalled k w ec whose n e r apart (Some x) is =
    two_edits k w ec whose n e recalls apart (λ same.
    let there : context_at k n ≡ Some x = sym (entry_other k.contexts ec n _ apart) ∙ ap (ec_in (edit_at k.contexts ec e)) same ∙ is in
    inr (Recalled (subst (Names k ec EC_CTRL control_right) (sym same) r.0) (context k n) (there ∙ ap Some (sym (ap context_in there))) refl))

upped : (k : KernelState) (w : List ℕ) (ec sm n : ℕ) (e : Edit) (whom : Option ℕ) → deed k ec ≡ deeds.Ups sm whom → IsRightful k ec (deeds.Ups sm whom) → Asks k ec (deeds.Ups sm whom) → TablesFit k → n ≢ ec →
    IsRight k ec n w (ec_in (all_edited k.contexts ((ec, e) ∷ wakes_by whom)) n)
upped k w ec sm n e None is r asks fits apart = one_edit k w ec n e apart
upped k w ec sm n e (Some one) is r asks fits apart =
    two_edits k w ec one n e (Answers Success None) apart
    (λ same. subst (λ (h : ℕ). IsRight k ec h w (Some (edited (context k h) (Answers Success None)))) (sym same)
    (let blocked = woken_blocked k sm one asks.1 fits.blocked in
    let there = blocked_there k.contexts one sm blocked in
    let first = first_woken k ec sm one is in
    let waits : (context k one).state ≡ Blocked sm = (let two : Some (context k one).state ≡ Some (Blocked sm) = sym (ap state_at there) ∙ blocked in cc) in
    inr (Woken sm r.0 first.0 first.1 (context k one) there waits refl)))

followed : (k : KernelState) (w : List ℕ) (ec n : ℕ) (after : Sequel) → Follows k ec after → IsActor k.contexts ec → TablesFit k → n ≢ ec →
    IsRight k ec n w (ec_in (all_edited k.contexts (follows_by ec w after)) n)
followed k w ec n (sequel.Replied caller came) follows actor fits apart = replied k w ec caller n came w (λ x. refl) actor fits follows apart
followed k w ec n other follows actor fits apart = own_edit k w ec n (follows_by ec w other) apart (refl, tt)

stepped : (k : KernelState) (w : List ℕ) (ec n : ℕ) (o : Once) → n ≢ ec → IsRight k ec n w (ec_in (all_edited k.contexts (steps_by ec o)) n)
stepped k w ec n (Raised reason q0 q1) apart = inl refl
stepped k w ec n (Went regs store) apart = own_edit k w ec n (steps_by ec (Went regs store)) apart (refl, tt)

-- EACH DEED

-- the message words of the context that acts, after its deed
abbrev pub words_after : KernelState → ℕ → Deed → List ℕ
words_after k ec d = message (applied k (effect k ec d)) ec

others_edited : (k : KernelState) (ec n : ℕ) (d : Deed) → deed k ec ≡ d → IsRightful k ec d → Asks k ec d → IsActor k.contexts ec → TablesFit k → n ≢ ec →
    IsRight k ec n (words_after k ec d) (ec_in (all_edited k.contexts (edits_by k ec d)) n)
others_edited k ec n deeds.Rests is r asks actor fits apart = inl refl
others_edited k ec n (deeds.Gives child cursor) is r asks actor fits apart = inl refl
others_edited k ec n (deeds.Skips reason place_ cursor) is r asks actor fits apart = inl refl
others_edited k ec n (deeds.Removes leaf) is r asks actor fits apart = inl refl
others_edited k ec n deeds.Steps is r asks actor fits apart = stepped k _ ec n (instruction k ec) apart
others_edited k ec n (deeds.Calls handler ip number items) is r asks actor fits apart =
    two_edits k _ ec handler n (Becomes (Calling handler)) (Serves ec mark.Call ip number items) apart
    (λ same. subst (λ (h : ℕ). IsRight k ec h (words_after k ec (deeds.Calls handler ip number items)) (Some (serving (context k h) ec mark.Call ip number items))) (sym same) (call_right k _ ec handler ip number items r))
others_edited k ec n (deeds.Sends handler ip number mtd reason q0 q1) is r asks actor fits apart =
    two_edits k _ ec handler n (Becomes (Calling handler)) (Serves ec mark.Exit ip number false) apart
    (λ same. subst (λ (h : ℕ). IsRight k ec h (words_after k ec (deeds.Sends handler ip number mtd reason q0 q1)) (Some (serving (context k h) ec mark.Exit ip number false))) (sym same)
    (exit_right k _ ec handler ip number mtd.0 reason q0 q1 r))
others_edited k ec n (deeds.Replies caller came true) is r asks actor fits apart = own_edit k _ ec n (edits_by k ec (deeds.Replies caller came true)) apart (refl, tt)
others_edited k ec n (deeds.Replies caller mark.Call false) is r asks actor fits apart = replied k _ ec caller n mark.Call (message k ec) (λ x. refl) actor fits r.serves apart
others_edited k ec n (deeds.Replies caller mark.Exit false) is r asks actor fits apart = replied k _ ec caller n mark.Exit (message k ec) (λ x. refl) actor fits r.serves apart
others_edited k ec n (deeds.Recalls whose) is r asks actor fits apart = recalled k _ ec whose n (Answers Success None) r apart _ refl
others_edited k ec n (deeds.Ups sm whom) is r asks actor fits apart = upped k _ ec sm n (Answers Success None) whom is r asks fits apart
others_edited k ec n (deeds.Finishes item end words after) is r asks actor fits apart = followed k (words_after k ec (deeds.Finishes item end words after)) ec n after asks.1 actor fits apart
others_edited k ec n other is r asks actor fits apart = own_edit k _ ec n (edits_by k ec other) apart (refl, tt)

pub context_by : (k : KernelState) (ec n : ℕ) → IsRightful k ec (deed k ec) → Asks k ec (deed k ec) → IsActor k.contexts ec → TablesFit k →
    IsRight k ec n (words_after k ec (deed k ec)) (ec_in (all_edited k.contexts (edits_by k ec (deed k ec))) n)
context_by k ec n r asks actor fits = elim (place n ec) [
  | inl same ↦
      let own : IsOwn k ec (ec_in (all_edited k.contexts (edits_by k ec (deed k ec))) ec) = own_by k ec r asks actor fits in
      inr (Itself same (context k ec) own.0 (ap (context_at k) same ∙ actor.there) (ap (ec_in (all_edited k.contexts (edits_by k ec (deed k ec)))) same ∙ own.1) own.2)
  | inr apart ↦ others_edited k ec n (deed k ec) refl r asks actor fits apart
]
