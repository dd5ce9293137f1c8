-- What becomes of execution contexts and semaphores in a deed: ten courses. A law on both tables is one answer a course.
use Rattle.std.proofs.Common.{◌≡◌, ℕ, List, [], ◌∷◌, length, refl, ◌∙◌}
use Rattle.std.specs.Prelude.{Bool, true, false, Option, Some, None, IsSome, Ok}
use Rattle.rv_model.specs.Registers.{Registers}
use Rattle.rv_model.specs.Step.{Once, Raised, Went}
use Rattle.nova_range.specs.declared.status.Status.TheVariants.{Success}
use Rattle.nova_model.specs.Capabilities.{is_sm}
use Rattle.nova_model.specs.Deeds.{answered, actor_after, instruction, parked, resumed, serving}
use Rattle.nova_model.specs.Edges.{IsNewEdge, is_giving}
use Rattle.nova_model.specs.Semaphores.{Semaphores, answer_of, downed, semaphore, upped, woken}
use Rattle.nova_model.specs.State.{Contexts, KernelState, context, ec_in, ec_of, message, with_ec}
use Rattle.nova_model.specs.declared.context.EcState.{EcState}
use Rattle.nova_model.specs.declared.context.Mark.{Mark}
use Rattle.nova_model.specs.declared.context.Mark.TheVariants as mark
use Rattle.nova_model.specs.declared.context.State.{State}
use Rattle.nova_model.specs.declared.context.State.TheVariants.{Ready, Parked, Calling, Helping, Exiting, Sending, Granting, Replying, Revoking, Blocked, Dead}
use Rattle.nova_model.specs.declared.deed.Deed.{Deed}
use Rattle.nova_model.specs.declared.deed.Deed.TheVariants.{Rests, Steps, Waits, Sends, Recalls, Opens, Gives, Skips, Finishes, Calls, Helps, Replies, Aborts, Removes, Ups, Downs, Blocks}
use Rattle.nova_model.specs.declared.semaphore.Down.TheVariants as down
use Rattle.nova_model.specs.declared.transfer.ItemEnd.{ItemEnd}
use Rattle.nova_model.specs.declared.transfer.ItemWords.{ItemWords}
use Rattle.nova_model.specs.declared.transfer.Sequel.{Sequel}
use Rattle.nova_model.specs.declared.transfer.Sequel.TheVariants as sequel
use Rattle.law_forest.specs.Effects.{Answers, Edits, all_edited, edit_at, edited, edits_by, follows_by, recalls_by, semaphore_by, semaphores_with, steps_by, wakes_by}
use Rattle.law_turns.specs.Tables.{IsOf}
use Rattle.law_turns.proofs.Referring.{Asks, Follows}
use Rattle.law_turns.proofs.Serving.{IsActor, IsReached, exit_reaches, exit_waits_edge, help_edge, send_reaches}
use Rattle.law_turns.proofs.Setting.{set_length}
use Rattle.law_turns.specs.Links.{IsCallerOf}

-- a context is the same as before, but for its recall, and what it is about to do; and for its registers where it gives no items then
pub record IsSelf (x y : EcState) : Type 0 where
  pub id : y.id ≡ x.id
  pub cpu : y.cpu ≡ x.cpu
  pub caller : y.caller ≡ x.caller
  pub regs : is_giving y.state ≡ true → y.regs ≡ x.regs

itself : (x : EcState) → IsSelf x x
itself x = record { id = refl; cpu = refl; caller = refl; regs = λ gives. refl }

-- the state to which its deed brings it
abbrev pub IsTo : KernelState → ℕ → Deed → State → Type 0
IsTo k ec d s = (actor_after (context k ec) d).state ≡ s

-- it replies, and gives items first
pub record IsReply (k : KernelState) (ec : ℕ) (d : Deed) : Type 0 where
  pub caller : ℕ
  pub its : Mark
  pub deed : d ≡ Replies caller its true
  pub keeps : IsCallerOf k ec caller its

-- it makes a protection domain of this number, and gives it a range
pub record IsOpening (d : Deed) (domain : ℕ) : Type 0 where
  pub target : ℕ
  pub deed : d ≡ Opens target domain

-- the states to which a context that acts comes by itself
abbrev pub MayCome : KernelState → ℕ → Deed → State → Type 0
MayCome k ec d Ready = Unit {0}
MayCome k ec d Dead = Unit {0}
MayCome k ec d (Exiting reason q0 q1) = Unit {0}
MayCome k ec d (Granting (Some domain)) = IsOpening d domain
MayCome k ec d Replying = IsReply k ec d
MayCome k ec d (Helping h) = IsNewEdge k.contexts ec h
MayCome k ec d (Sending reason q0 q1 h) = IsNewEdge k.contexts ec h
MayCome k ec d (Revoking range own) = Unit {0}
MayCome k ec d other = ⊥

-- it is a call that its handler takes
abbrev pub IsCall : Deed → ℕ → ℕ → ℕ → Bool → Mark → Type 0
IsCall d handler ip identifier items mark.Call = d ≡ Calls handler ip identifier items
IsCall d handler ip identifier items mark.Exit = items ≡ false

pub record Courses (k : KernelState) (ec : ℕ) (d : Deed) (P : Contexts → Semaphores → Type 0) : Type 0 where
  pub rests : IsTo k ec d (context k ec).state → P k.contexts k.semaphores
  -- it does an instruction
  pub steps : (regs : Registers) → d ≡ Steps → P (with_ec k.contexts ec (record (context k ec) { regs = regs })) k.semaphores
  -- a context stays in its state, at any time
  pub stays : (cs : Contexts) (all : Semaphores) (w : ℕ) (x y : EcState) → ec_in cs w ≡ Some x → IsSelf x y → y.state ≡ x.state → P cs all → P (with_ec cs w y) all
  -- it comes to a state by itself
  pub goes : (y : EcState) → IsSelf (context k ec) y → IsTo k ec d y.state → MayCome k ec d y.state → P (with_ec k.contexts ec y) k.semaphores
  -- it waits for a handler, which begins to serve it
  pub sends : (handler : ℕ) (its : Mark) (ip identifier : ℕ) (items : Bool) → IsTo k ec d (Calling handler) → IsCall d handler ip identifier items its →
      IsReached k.contexts ec handler →
      let one = with_ec k.contexts ec (record (context k ec) { state = Calling handler }) in
      P (with_ec one handler (serving (ec_of one handler) ec its ip identifier items)) k.semaphores
  -- it parks, and its caller goes on
  pub replies : (caller : ℕ) (its : Mark) (m : List ℕ) → IsTo k ec d Parked → IsCallerOf k ec caller its →
      let one = with_ec k.contexts ec (parked (context k ec)) in P (with_ec one caller (resumed (ec_of one caller) its m)) k.semaphores
  -- an up that wakes none, or one; a down; a down that waits
  pub ups : (sm : ℕ) → IsTo k ec d Ready → woken (semaphore k.semaphores sm) ≡ Ok None → P (with_ec k.contexts ec (answered (context k ec) Success None)) (upped k.semaphores sm)
  pub wakes : (sm w : ℕ) → IsTo k ec d Ready → woken (semaphore k.semaphores sm) ≡ Ok (Some w) →
      let one = with_ec k.contexts ec (answered (context k ec) Success None) in P (with_ec one w (answered (ec_of one w) Success None)) (upped k.semaphores sm)
  pub downs : (sm : ℕ) → IsTo k ec d Ready → answer_of (semaphore k.semaphores sm) ≡ down.Done →
      P (with_ec k.contexts ec (answered (context k ec) Success None)) (downed k.semaphores sm ec)
  pub blocks : (sm : ℕ) → IsTo k ec d (Blocked sm) → IsOf k.objects is_sm sm → answer_of (semaphore k.semaphores sm) ≡ down.Blocked →
      P (with_ec k.contexts ec (record (context k ec) { state = Blocked sm })) (downed k.semaphores sm ec)

-- only a call has items
pub of_call : (d : Deed) (handler ip identifier : ℕ) (items : Bool) (its : Mark) → IsCall d handler ip identifier items its → items ≡ true → its ≡ mark.Call
of_call d handler ip identifier items mark.Call is some = refl
of_call d handler ip identifier items mark.Exit is some = absurd cc

steps_course : (k : KernelState) (ec : ℕ) (P : Contexts → Semaphores → Type 0) (o : Once) → Courses k ec Steps P → P (all_edited k.contexts (steps_by ec o)) k.semaphores
steps_course k ec P (Raised reason q0 q1) c = c.rests refl
steps_course k ec P (Went regs store) c = c.steps regs refl

recalls_course : (k : KernelState) (ec : ℕ) (d : Deed) (P : Contexts → Semaphores → Type 0) (whose : ℕ) (cs : Contexts) (o : Option EcState) → ec_in cs whose ≡ o → Courses k ec d P →
    P cs k.semaphores → P (all_edited cs (recalls_by whose o)) k.semaphores
recalls_course k ec d P whose cs None is c h = h
recalls_course k ec d P whose cs (Some x) is c h =
    c.stays cs k.semaphores whose (ec_of cs whose) (record (ec_of cs whose) { recall = true }) (rw is refl) (record { id = refl; cpu = refl; caller = refl; regs = λ gives. refl }) refl h

follows_course : (k : KernelState) (ec item : ℕ) (end : ItemEnd) (words : Option ItemWords) (P : Contexts → Semaphores → Type 0) (m : List ℕ) (after : Sequel) →
    IsActor k.contexts ec → Follows k ec after → Courses k ec (Finishes item end words after) P → P (all_edited k.contexts (follows_by ec m after)) k.semaphores
follows_course k ec item end words P m sequel.Item actor follows c =
    c.stays k.contexts k.semaphores ec (context k ec) (context k ec) actor.there (itself (context k ec)) refl (c.rests refl)
follows_course k ec item end words P m (sequel.Replied caller its) actor follows c = c.replies caller its m refl follows
follows_course k ec item end words P m other actor follows c = c.goes _ (record { id = refl; cpu = refl; caller = refl; regs = λ gives. cc }) refl tt

ups_course : (k : KernelState) (ec sm : ℕ) (P : Contexts → Semaphores → Type 0) (whom : Option ℕ) → woken (semaphore k.semaphores sm) ≡ Ok whom → Courses k ec (Ups sm whom) P →
    P (all_edited (edit_at k.contexts ec (Answers Success None)) (wakes_by whom)) (upped k.semaphores sm)
ups_course k ec sm P None is c = c.ups sm refl is
ups_course k ec sm P (Some w) is c = c.wakes sm w refl is

pub has_caller : (k : KernelState) (ec caller : ℕ) (its : Mark) → IsCallerOf k ec caller its → IsSome (context k ec).caller
has_caller k ec caller its is = rw is refl

pub deed_course : (k : KernelState) (ec : ℕ) (P : Contexts → Semaphores → Type 0) (d : Deed) → IsActor k.contexts ec → Asks k ec d → Courses k ec d P →
    P (all_edited k.contexts (edits_by k ec d)) (semaphores_with k.semaphores (semaphore_by ec d))
deed_course k ec P Rests actor asks c = c.rests refl
deed_course k ec P (Gives child cursor) actor asks c = c.rests refl
deed_course k ec P (Skips reason place cursor) actor asks c = c.rests refl
deed_course k ec P (Removes leaf) actor asks c = c.rests refl
deed_course k ec P Steps actor asks c = steps_course k ec P (instruction k ec) c
deed_course k ec P (Recalls whose) actor asks c =
    recalls_course k ec (Recalls whose) P whose (edit_at k.contexts ec (Answers Success None)) _ refl c
    (c.goes _ (record { id = refl; cpu = refl; caller = refl; regs = λ gives. cc }) refl tt)
deed_course k ec P (Opens target domain) actor asks c =
    c.goes _ (record { id = refl; cpu = refl; caller = refl; regs = λ gives. refl }) refl (record { target = target; deed = refl })
deed_course k ec P (Waits handler reason q0 q1) actor asks c =
    c.goes _ (record { id = refl; cpu = refl; caller = refl; regs = λ gives. refl }) refl (exit_waits_edge k.contexts ec handler asks)
deed_course k ec P (Helps handler) actor asks c =
    c.goes _ (record { id = refl; cpu = refl; caller = refl; regs = λ gives. refl }) refl (help_edge k.contexts ec handler asks.0 asks.1)
deed_course k ec P (Calls handler ip identifier items) actor asks c =
    c.sends handler mark.Call ip identifier items refl refl (send_reaches k.contexts ec handler asks.flag asks.admits)
deed_course k ec P (Sends handler ip identifier mtd reason q0 q1) actor asks c =
    c.sends handler mark.Exit ip identifier false refl refl (exit_reaches k.contexts ec handler asks.admits)
deed_course k ec P (Replies caller its true) actor asks c =
    c.goes _ (record { id = refl; cpu = refl; caller = refl; regs = λ gives. refl }) refl (record { caller = caller; its = its; deed = refl; keeps = asks })
deed_course k ec P (Replies caller its false) actor asks c = c.replies caller its (message k ec) refl asks
deed_course k ec P (Finishes item end words after) actor asks c = follows_course k ec item end words P _ after actor asks.1 c
deed_course k ec P (Ups sm whom) actor asks c = ups_course k ec sm P whom asks.1 c
deed_course k ec P (Downs sm) actor asks c = c.downs sm refl asks.1
deed_course k ec P (Blocks sm until) actor asks c = c.blocks sm refl asks.0 asks.1
deed_course k ec P (Aborts handler mark.Call) actor asks c = c.goes _ (record { id = refl; cpu = refl; caller = refl; regs = λ gives. cc }) refl tt
deed_course k ec P other actor asks c = c.goes _ (record { id = refl; cpu = refl; caller = refl; regs = λ gives. cc }) refl tt

-- no edit changes how many there are
pub edited_length : (cs : Contexts) (es : Edits) → length (all_edited cs es) ≡ length cs
edited_length cs [] = refl
edited_length cs ((n, e) ∷ es) = edited_length (edit_at cs n e) es ∙ set_length cs n (Some (edited (ec_of cs n) e))
