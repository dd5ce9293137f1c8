-- How an execution context comes to wait for a handler, to give a first range, or to an exit that is raised and not sent.
use Rattle.nova_range.specs.declared.status.Status.{Status}
use Rattle.std.proofs.Common.{◌≡◌, ◌≢◌, ℕ, zero, suc, ◌⊎◌, List, [], ◌∷◌, ◌++◌, length, ap, sym, ◌∙◌, subst, refl, inl, inr}
use Rattle.std.specs.Prelude.{Bool, true, false, Option, Some, None, option_map, if◌then◌else◌}
use Rattle.std.proofs.lemmas.Bool.{cases_eq}
use Rattle.rv_model.specs.Step.{Once, Raised, Went}
use Rattle.nova_range.specs.declared.status.Status.TheVariants.{Success}
use Rattle.law_forest.specs.Effects.{Edit, Edits, Stays, Becomes, Raises as Raising, Answers, Serves, Parks, Resumes, Recalled, Moves, all_edited, edit_at, edited, edits_by, follows_by, joined, recalls_by, steps_by, wakes_by, Passing, ends_by, passing_ends}
use Rattle.law_forest.specs.Turns.{Acts as Chosen, Idles, Takes, acting, turned, Passes}
use Rattle.law_forest.proofs.Turning.{comes}
use Rattle.nova_model.specs.Choice.{Candidate, next_to_act}
use Rattle.nova_model.specs.Creation.{context_of}
use Rattle.nova_model.specs.Deeds.{deed, instruction}
use Rattle.nova_model.specs.Runs.{after}
use Rattle.nova_model.specs.State.{Contexts, KernelState, context, context_in, ec_in, ec_of, with_ec}
use Rattle.nova_model.specs.declared.context.EcState.{EcState}
use Rattle.nova_model.specs.declared.context.Mark.TheVariants as mark
use Rattle.nova_model.specs.declared.context.State.{State}
use Rattle.nova_model.specs.declared.context.State.TheVariants.{Ready, Parked, Calling, Exiting, Sending, Granting, Replying, Revoking, Helping, Blocked, Dead}
use Rattle.nova_model.specs.declared.deed.Deed.{Deed}
use Rattle.nova_model.specs.declared.deed.Deed.TheVariants as deeds
use Rattle.nova_model.specs.declared.new_object.NewObject.{NewObject}
use Rattle.nova_model.specs.declared.new_object.NewObject.TheVariants as new
use Rattle.nova_model.specs.declared.transfer.Sequel.{Sequel}
use Rattle.nova_model.specs.declared.transfer.Sequel.TheVariants as sequel
use Rattle.nova_objects.specs.declared.object.EcKind.TheVariants.{Local, Global, Vcpu}
use Rattle.law_origins.specs.Giving.{Acts}

-- EDITS

abbrev pub Brings : Edit → State → Type 0
Brings (Becomes t) s = t ≡ s
Brings (Raising reason q0 q1) s = Exiting reason q0 q1 ≡ s
Brings (Answers status value) s = Ready ≡ s
Brings (Serves caller mark ip identifier items) s = (if items then Granting None else Ready) ≡ s
Brings Parks s = Parked ≡ s
Brings (Resumes mark m) s = Ready ≡ s
Brings other s = ⊥

-- one of the edits brings `n` to the state
abbrev pub Brought : Edits → ℕ → State → Type 0
Brought [] n s = ⊥
Brought ((m, e) ∷ es) n s = ((m ≡ n) × Brings e s) ⊎ Brought es n s

edited_state : (x : EcState) (e : Edit) (s : State) → (edited x e).state ≡ s → (x.state ≡ s) ⊎ Brings e s
edited_state x Stays s h = inl h
edited_state x Recalled s h = inl h
edited_state x (Moves regs) s h = inl h
edited_state x (Becomes t) s h = inr h
edited_state x (Raising reason q0 q1) s h = inr h
edited_state x (Answers status value) s h = inr h
edited_state x (Serves caller mark ip identifier items) s h = inr h
edited_state x Parks s h = inr h
edited_state x (Resumes mark.Call m) s h = inr h
edited_state x (Resumes mark.Exit m) s h = inr h

set_self : (cs : Contexts) (n : ℕ) (x : EcState) → (ec_of (with_ec cs n x) n ≡ x) ⊎ (ec_of (with_ec cs n x) n ≡ ec_of cs n)
set_self [] n x = inr refl
set_self (c ∷ cs) zero x = inl refl
set_self (c ∷ cs) (suc n) x = set_self cs n x

set_other : (cs : Contexts) (m n : ℕ) (x : EcState) → m ≢ n → ec_of (with_ec cs m x) n ≡ ec_of cs n
set_other [] m n x ne = refl
set_other (c ∷ cs) zero zero x ne = absurd (ne refl)
set_other (c ∷ cs) zero (suc n) x ne = refl
set_other (c ∷ cs) (suc m) zero x ne = refl
set_other (c ∷ cs) (suc m) (suc n) x ne = set_other cs m n x (λ e. ne (ap suc e))

edit_brings : (cs : Contexts) (m : ℕ) (e : Edit) (n : ℕ) (s : State) → (ec_of (edit_at cs m e) n).state ≡ s → ((ec_of cs n).state ≡ s) ⊎ ((m ≡ n) × Brings e s)
edit_brings cs m e n s h = elim (cases_eq m n) [
  | inl same ↦ by_self same (set_self cs m (edited (ec_of cs m) e))
  | inr ne ↦ inl (ap (λ (x : EcState). x.state) (sym (set_other cs m n (edited (ec_of cs m) e) ne)) ∙ h)
]
  where
    own : m ≡ n → (ec_of (edit_at cs m e) m).state ≡ s
    own same = ap (λ (i : ℕ). (ec_of (edit_at cs m e) i).state) same ∙ h

    by_edit : m ≡ n → (((ec_of cs m).state ≡ s) ⊎ Brings e s) → ((ec_of cs n).state ≡ s) ⊎ ((m ≡ n) × Brings e s)
    by_edit same (inl before) = inl (ap (λ (i : ℕ). (ec_of cs i).state) (sym same) ∙ before)
    by_edit same (inr brings) = inr (same, brings)

    by_self : m ≡ n → ((ec_of (edit_at cs m e) m ≡ edited (ec_of cs m) e) ⊎ (ec_of (edit_at cs m e) m ≡ ec_of cs m)) → ((ec_of cs n).state ≡ s) ⊎ ((m ≡ n) × Brings e s)
    by_self same (inl is) = by_edit same (edited_state (ec_of cs m) e s (ap (λ (x : EcState). x.state) (sym is) ∙ own same))
    by_self same (inr is) = by_edit same (inl (ap (λ (x : EcState). x.state) (sym is) ∙ own same))

pub edits_bring : (cs : Contexts) (es : Edits) (n : ℕ) (s : State) → (ec_of (all_edited cs es) n).state ≡ s → ((ec_of cs n).state ≡ s) ⊎ Brought es n s
edits_bring cs [] n s h = inl h
edits_bring cs ((m, e) ∷ es) n s h = elim (edits_bring (edit_at cs m e) es n s h) [
  | inl first ↦ elim (edit_brings cs m e n s first) [
    | inl before ↦ inl before
    | inr brings ↦ inr (inl brings)
  ]
  | inr later ↦ inr (inr later)
]

-- STATES THAT A NEW EXECUTION CONTEXT IS NOT IN

abbrev pub IsSpecial : State → Type 0
IsSpecial (Calling handler) = Unit {0}
IsSpecial (Granting (Some domain)) = Unit {0}
IsSpecial (Exiting reason q0 q1) = Unit {0}
IsSpecial (Sending reason q0 q1 handler) = Unit {0}
IsSpecial other = ⊥

plain : {A : Type 0} (t s : State) → (IsSpecial t → ⊥) → IsSpecial s → t ≡ s → A
plain t s none special is = absurd (none (subst IsSpecial (sym is) special))

new_plain : (n : ℕ) (made : NewObject) → IsSpecial (context_in (context_of n made)).state → ⊥
new_plain n (new.Ec pd cpu Local sp event) p = p
new_plain n (new.Ec pd cpu Global sp event) p = p
new_plain n (new.Ec pd cpu Vcpu sp event) p = p
new_plain n other p = p

more_state : (cs : Contexts) (x : Option EcState) (n : ℕ) → (ec_of (cs ++ x ∷ []) n ≡ ec_of cs n) ⊎ (ec_of (cs ++ x ∷ []) n ≡ context_in x)
more_state [] x zero = inr refl
more_state [] x (suc n) = inl refl
more_state (c ∷ cs) x zero = inl refl
more_state (c ∷ cs) x (suc n) = more_state cs x n

joined_state : (cs : Contexts) (i : ℕ) (o : Option NewObject) (n : ℕ) (s : State) → IsSpecial s → (ec_of (joined cs (option_map (context_of i) o)) n).state ≡ s → (ec_of cs n).state ≡ s
joined_state cs i None n s special h = h
joined_state cs i (Some made) n s special h = elim (more_state cs (context_of i made) n) [
  | inl same ↦ ap (λ (x : EcState). x.state) (sym same) ∙ h
  | inr fresh ↦ plain (context_in (context_of i made)).state s (new_plain i made) special (ap (λ (x : EcState). x.state) (sym fresh) ∙ h)
]

-- DEEDS

-- a context that acts comes to wait for a handler, to give a first range, or to an exit
abbrev pub Begins : Deed → State → Type 0
Begins (deeds.Sends handler ip identifier mtd reason q0 q1) s = Calling handler ≡ s
Begins (deeds.Calls handler ip identifier items) s = Calling handler ≡ s
Begins (deeds.Opens target domain) s = Granting (Some domain) ≡ s
Begins (deeds.Raises reason q0 q1) s = Exiting reason q0 q1 ≡ s
Begins (deeds.Waits handler reason q0 q1) s = Sending reason q0 q1 handler ≡ s
Begins other s = ⊥

-- it alone, by its deed
abbrev Begun : ℕ → Deed → ℕ → State → Type 0
Begun ec d n s = (ec ≡ n) × Begins d s

one_plain : {A : Type 0} (ec n : ℕ) (t s : State) → (IsSpecial t → ⊥) → IsSpecial s → (((ec ≡ n) × (t ≡ s)) ⊎ ⊥) → A
one_plain ec n t s none special (inl is) = plain t s none special is.1
one_plain ec n t s none special (inr none_) = absurd none_

two_plain : {A : Type 0} (ec m n : ℕ) (t u s : State) → (IsSpecial t → ⊥) → (IsSpecial u → ⊥) → IsSpecial s → (((ec ≡ n) × (t ≡ s)) ⊎ (((m ≡ n) × (u ≡ s)) ⊎ ⊥)) → A
two_plain ec m n t u s first second special (inl is) = plain t s first special is.1
two_plain ec m n t u s first second special (inr is) = one_plain m n u s second special is

none_special : ⊥ → ⊥
none_special p = p

serves_plain : (items : Bool) → IsSpecial (if items then Granting None else Ready) → ⊥
serves_plain true p = p
serves_plain false p = p

begun_steps : {A : Type 0} (ec n : ℕ) (o : Once) (s : State) → Brought (steps_by ec o) n s → A
begun_steps ec n (Raised reason q0 q1) s b = absurd b
begun_steps ec n (Went regs store) s (inl b) = absurd b.1
begun_steps ec n (Went regs store) s (inr b) = absurd b

begun_recalls : {A : Type 0} (ec whose n : ℕ) (o : Option EcState) (s : State) → IsSpecial s → Brought ((ec, Answers Success None) ∷ recalls_by whose o) n s → A
begun_recalls ec whose n o s special (inl b) = plain Ready s none_special special b.1
begun_recalls ec whose n None s special (inr b) = absurd b
begun_recalls ec whose n (Some x) s special (inr (inl b)) = absurd b.1
begun_recalls ec whose n (Some x) s special (inr (inr b)) = absurd b

begun_follows : {A : Type 0} (ec n : ℕ) (m : List ℕ) (follows : Sequel) (s : State) → IsSpecial s → Brought (follows_by ec m follows) n s → A
begun_follows ec n m sequel.Item s special (inl b) = absurd b.1
begun_follows ec n m sequel.Item s special (inr b) = absurd b
begun_follows ec n m sequel.Opened s special b = one_plain ec n Ready s none_special special b
begun_follows ec n m sequel.Taken s special b = one_plain ec n Ready s none_special special b
begun_follows ec n m (sequel.Replied caller came) s special b = two_plain ec caller n Parked Ready s none_special none_special special b

begun_wakes : {A : Type 0} (ec n : ℕ) (o : Option ℕ) (s : State) → IsSpecial s → Brought ((ec, Answers Success None) ∷ wakes_by o) n s → A
begun_wakes ec n None s special b = one_plain ec n Ready s none_special special b
begun_wakes ec n (Some w) s special b = two_plain ec w n Ready Ready s none_special none_special special b

begun_sends : (ec handler n : ℕ) (items : Bool) (s : State) → IsSpecial s →
    (((ec ≡ n) × (Calling handler ≡ s)) ⊎ (((handler ≡ n) × ((if items then Granting None else Ready) ≡ s)) ⊎ ⊥)) → (ec ≡ n) × (Calling handler ≡ s)
begun_sends ec handler n items s special (inl b) = b
begun_sends ec handler n items s special (inr b) = one_plain handler n (if items then Granting None else Ready) s (serves_plain items) special b

only_one : (P : Type 0) → (P ⊎ ⊥) → P
only_one P (inl p) = p
only_one P (inr none) = absurd none

pub begun : (k : KernelState) (ec : ℕ) (d : Deed) (n : ℕ) (s : State) → IsSpecial s → Brought (edits_by k ec d) n s → Begun ec d n s
begun k ec deeds.Steps n s special b = begun_steps ec n (instruction k ec) s b
begun k ec (deeds.Raises reason q0 q1) n s special b = only_one _ b
begun k ec (deeds.Dies reason q0) n s special b = one_plain ec n Dead s none_special special b
begun k ec (deeds.Waits handler reason q0 q1) n s special b = only_one _ b
begun k ec (deeds.Sends handler ip identifier mtd reason q0 q1) n s special b = begun_sends ec handler n false s special b
begun k ec (deeds.Refuses call status) n s special b = one_plain ec n Ready s none_special special b
begun k ec (deeds.Makes call target made) n s special b = one_plain ec n Ready s none_special special b
begun k ec (deeds.Recalls whose) n s special b = begun_recalls ec whose n (ec_in (edit_at k.contexts ec (Answers Success None)) whose) s special b
begun k ec (deeds.Tells call value) n s special b = one_plain ec n Ready s none_special special b
begun k ec (deeds.Names pt identifier) n s special b = one_plain ec n Ready s none_special special b
begun k ec (deeds.Opens target domain) n s special b = only_one _ b
begun k ec (deeds.Finishes item end words follows) n s special b = begun_follows ec n _ follows s special b
begun k ec (deeds.Calls handler ip identifier items) n s special b = begun_sends ec handler n items s special b
begun k ec (deeds.Helps handler) n s special b = one_plain ec n (Helping handler) s none_special special b
begun k ec (deeds.Replies caller came true) n s special b = one_plain ec n Replying s none_special special b
begun k ec (deeds.Replies caller came false) n s special b = two_plain ec caller n Parked Ready s none_special none_special special b
begun k ec (deeds.Aborts handler mark.Call) n s special b = one_plain ec n Ready s none_special special b
begun k ec (deeds.Aborts handler mark.Exit) n s special b = one_plain ec n Dead s none_special special b
begun k ec (deeds.Revokes range own) n s special b = one_plain ec n (Revoking range own) s none_special special b
begun k ec deeds.Returns n s special b = one_plain ec n Ready s none_special special b
begun k ec (deeds.Ups sm woken) n s special b = begun_wakes ec n woken s special b
begun k ec (deeds.Downs sm) n s special b = one_plain ec n Ready s none_special special b
begun k ec (deeds.Blocks sm until) n s special b = one_plain ec n (Blocked sm) s none_special special b
begun k ec other n s special b = absurd b

-- ONE TURN

pub acting_came : (k : KernelState) (cpu : ℕ) (c : Candidate) (n : ℕ) (s : State) → IsSpecial s → (context (turned k cpu (acting k c)) n).state ≡ s →
    ((context k n).state ≡ s) ⊎ ((c.actor ≡ n) × Begins (deed k c.actor) s)
acting_came k cpu c n s special h =
    elim (edits_bring k.contexts (edits_by k c.actor (deed k c.actor)) n s
    (joined_state (all_edited k.contexts (edits_by k c.actor (deed k c.actor))) (length k.objects) (acting k c).effect.made n s special h)) [
      | inl before ↦ inl before
      | inr brings ↦ inr (begun k c.actor (deed k c.actor) n s special brings)
    ]

-- what comes by itself brings none to such a state
pub passed : (k : KernelState) (p : Passing) (n : ℕ) (s : State) → IsSpecial s → (ec_of (all_edited k.contexts (ends_by (passing_ends k p))) n).state ≡ s → (context k n).state ≡ s
passed k p n s special h = by_end (passing_ends k p) (edits_bring k.contexts (ends_by (passing_ends k p)) n s h)
  where
    by_end : (o : Option (ℕ × Status)) → ((context k n).state ≡ s) ⊎ Brought (ends_by o) n s → (context k n).state ≡ s
    by_end o (inl before) = before
    by_end None (inr brings) = absurd brings
    by_end (Some (w, status)) (inr brings) = one_plain w n Ready s none_special special brings

pub came : (k : KernelState) (cpu n : ℕ) (s : State) → IsSpecial s → (context (after k cpu) n).state ≡ s →
    ((context k n).state ≡ s) ⊎ (Acts k cpu n × Begins (deed k n) s)
came k cpu n s special h = elim (comes k cpu) [
  | Idles is moment same answer ↦ inl (ap (λ (k : KernelState). (context k n).state) (sym same) ∙ h)
  | Takes t e is state answer ↦ elim is [
    | Chosen c chosen its event ↦ by_case c chosen
        (acting_came k cpu c n s special (ap (λ (k : KernelState). (context k n).state) (sym (state ∙ ap (turned k cpu) its)) ∙ h))
    | Passes p due its event ↦ inl (passed k p n s special (ap (λ (k : KernelState). (context k n).state) (sym (state ∙ ap (turned k cpu) its)) ∙ h))
  ]
]
  where
    by_case : (c : Candidate) → next_to_act k cpu ≡ Some c → (((context k n).state ≡ s) ⊎ ((c.actor ≡ n) × Begins (deed k c.actor) s)) →
        ((context k n).state ≡ s) ⊎ (Acts k cpu n × Begins (deed k n) s)
    by_case c chosen (inl before) = inl before
    by_case c chosen (inr (same, begins)) =
        inr (ap (option_map (λ c. c.actor)) chosen ∙ ap (λ (m : ℕ). Some m) same, subst (λ (m : ℕ). Begins (deed k m) s) same begins)
