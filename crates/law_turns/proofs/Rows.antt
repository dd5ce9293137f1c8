-- Rules that rows of the table of hypercalls share: what they give.
use Rattle.std.proofs.Common.{◌≡◌, ℕ, refl}
use Rattle.std.specs.Prelude.{Bool, true, false, not, Option, Some, None, Result, Ok, Err}
use Rattle.nova_calls.specs.declared.call.Call.{Call}
use Rattle.nova_calls.specs.declared.call.Call.TheVariants as asks
use Rattle.nova_calls.specs.declared.numbers.TheConstants.{CREATE_EC, CREATE_SC, CREATE_PT, CREATE_SM, SC_CTRL}
use Rattle.nova_range.specs.declared.range.Range.{Range}
use Rattle.nova_range.specs.declared.rights.Rights.{Rights}
use Rattle.nova_range.specs.declared.status.Status.TheVariants.{BadPar, Busy}
use Rattle.nova_utcb.specs.Messages.{has_counts, has_items}
use Rattle.nova_model.specs.Capabilities.{is_ec, is_sc, is_pt, named, call_right, control_right}
use Rattle.nova_model.specs.Calls.{admitted}
use Rattle.nova_range.specs.declared.status.Status.{Status}
use Rattle.nova_model.specs.Hypercalls.{and_then, call, called, create_pd, maker, makes, new_domain, reply, replied, row, ticks_in, unless, unless_busy}
use Rattle.nova_model.specs.Portals.{handler_of, identifier, ip_of}
use Rattle.nova_model.specs.Running.{is_revoked}
use Rattle.nova_model.specs.State.{KernelState, budget_at, context, is_local_thread, message}
use Rattle.nova_model.specs.declared.admit.Admit.{Admit}
use Rattle.nova_model.specs.declared.admit.Admit.TheVariants.{Refused, Help, Send}
use Rattle.nova_model.specs.declared.context.Mark.{Mark}
use Rattle.nova_model.specs.declared.deed.Deed.{Deed}
use Rattle.nova_model.specs.declared.deed.Deed.TheVariants.{Makes, Recalls, Tells, Names, Gives, Skips, Finishes, Calls, Helps, Replies}
use Rattle.nova_model.specs.declared.new_object.NewObject.{NewObject}
use Rattle.nova_model.specs.declared.new_object.NewObject.TheVariants.{Sm}
use Rattle.law_forest.proofs.Walk.{IfDone, sm_ctrl_holds}

-- what holds where a test is passed
pub unless_holds : (P : Deed → Type 0) (test : Bool) (status : Status) (r : Result Deed Status) → IfDone P r → IfDone P (unless test status r)
unless_holds P true status r h = tt
unless_holds P false status r h = h

-- of each object that is made
pub makes_hold : (P : Deed → Type 0) (number target : ℕ) → ((made : NewObject) → P (Makes number target made)) →
    (k : KernelState) (domain pd : ℕ) (new : ℕ → Result NewObject Status) → IfDone P (makes k domain number target pd new)
makes_hold P number target h k domain pd new = by_owner (maker k domain target pd)
  where
    by_new : (r : Result NewObject Status) → IfDone P (and_then r (λ made. unless_busy k domain target (Makes number target made)))
    by_new (Ok made) = unless_holds P (is_revoked k domain target) Busy (Ok (Makes number target made)) (h made)
    by_new (Err status) = tt

    by_owner : (owner : Result ℕ Status) → IfDone P (and_then owner (λ o. and_then (new o) (λ made. unless_busy k domain target (Makes number target made))))
    by_owner (Ok o) = by_new (new o)
    by_owner (Err status) = tt

-- and of a new protection domain
pub create_pd_holds : (P : Deed → Type 0) (k : KernelState) (domain target pd : ℕ) (first : Option (Range × Rights)) → P (new_domain k target first) →
    IfDone P (create_pd k domain target pd first)
create_pd_holds P k domain target pd first h = by_owner (maker k domain target pd)
  where
    by_owner : (owner : Result ℕ Status) → IfDone P (and_then owner (λ o. unless_busy k domain target (new_domain k target first)))
    by_owner (Ok o) = unless_holds P (is_revoked k domain target) Busy (Ok (new_domain k target first)) h
    by_owner (Err status) = tt

-- and by the other rules that several rows share
pub named_holds : (P : Deed → Type 0) (r : Result ℕ Status) (d : ℕ → Deed) → ((n : ℕ) → P (d n)) → IfDone P (and_then r (λ n. Ok (d n)))
named_holds P (Ok n) d h = h n
named_holds P (Err status) d h = tt

-- what a call is admitted as
pub record IsAdmitted (k : KernelState) (ec domain selector : ℕ) (flag : Bool) (pt : ℕ) (comes : Admit) : Type 0 where
  pub counts : has_counts (message k ec) ≡ true
  pub portal : named k domain is_pt call_right selector ≡ Ok pt
  pub admits : admitted k.contexts ec (handler_of k pt) flag ≡ comes

-- what holds of a call that is sent, and of a caller that helps
pub call_holds : (P : Deed → Type 0) (k : KernelState) (ec domain selector : ℕ) (flag : Bool) →
    ((pt : ℕ) → IsAdmitted k ec domain selector flag pt Send → P (Calls (handler_of k pt) (ip_of k pt) (identifier k pt) (has_items (message k ec)))) →
    ((pt : ℕ) → IsAdmitted k ec domain selector flag pt Help → P (Helps (handler_of k pt))) → IfDone P (call k ec domain selector flag)
call_holds P k ec domain selector flag sends helps = by_counts (has_counts (message k ec)) refl
  where
    by_admit : (pt : ℕ) (a : Admit) → IsAdmitted k ec domain selector flag pt a → IfDone P (called k ec pt a)
    by_admit pt (Refused status) is = tt
    by_admit pt Help is = helps pt is
    by_admit pt Send is = sends pt is

    by_portal : has_counts (message k ec) ≡ true → (o : Result ℕ Status) → named k domain is_pt call_right selector ≡ o →
        IfDone P (and_then o (λ pt. called k ec pt (admitted k.contexts ec (handler_of k pt) flag)))
    by_portal counts (Err status) portal = tt
    by_portal counts (Ok pt) portal =
        by_admit pt (admitted k.contexts ec (handler_of k pt) flag) (record { counts = counts; portal = portal; admits = refl })

    by_counts : (t : Bool) → has_counts (message k ec) ≡ t →
        IfDone P (unless (not t) BadPar (and_then (named k domain is_pt call_right selector) (λ pt. called k ec pt (admitted k.contexts ec (handler_of k pt) flag))))
    by_counts false counts = tt
    by_counts true counts = by_portal counts (named k domain is_pt call_right selector) refl

-- a reply goes to the caller that its maker serves, which came so
pub record IsReplying (k : KernelState) (ec caller : ℕ) (mark : Mark) : Type 0 where
  pub local : is_local_thread k ec ≡ true
  pub counts : has_counts (message k ec) ≡ true
  pub serves : (context k ec).caller ≡ Some (caller, mark)

pub reply_holds : (P : Deed → Type 0) (k : KernelState) (ec : ℕ) →
    ((caller : ℕ) (mark : Mark) → IsReplying k ec caller mark → P (Replies caller mark (has_items (message k ec)))) → IfDone P (reply k ec)
reply_holds P k ec replies = by_local (is_local_thread k ec) refl
  where
    by_caller : is_local_thread k ec ≡ true → has_counts (message k ec) ≡ true → (o : Option (ℕ × Mark)) → (context k ec).caller ≡ o → IfDone P (replied k ec o)
    by_caller local counts None serves = tt
    by_caller local counts (Some (caller, mark)) serves = replies caller mark (record { local = local; counts = counts; serves = serves })

    by_counts : is_local_thread k ec ≡ true → (t : Bool) → has_counts (message k ec) ≡ t → IfDone P (unless (not t) BadPar (replied k ec (context k ec).caller))
    by_counts local false counts = tt
    by_counts local true counts = by_caller local counts (context k ec).caller refl

    by_local : (t : Bool) → is_local_thread k ec ≡ t →
        IfDone P (unless (not t) BadPar (unless (not (has_counts (message k ec))) BadPar (replied k ec (context k ec).caller)))
    by_local false local = tt
    by_local true local = by_counts local (has_counts (message k ec)) refl

-- what holds of each such deed
pub done_weaker : (P Q : Deed → Type 0) (r : Result Deed Status) → ((d : Deed) → P d → Q d) → IfDone P r → IfDone Q r
done_weaker P Q (Ok d) weaker h = weaker d h
done_weaker P Q (Err status) weaker h = tt

-- a part of an item, or its end: no row gives one
abbrev pub is_part : Deed → Bool
is_part (Gives child cursor) = true
is_part (Skips reason place cursor) = true
is_part (Finishes item end words after) = true
is_part other = false

abbrev pub IsWhole : Deed → Type 0
IsWhole d = is_part d ≡ false

new_domain_whole : (k : KernelState) (target : ℕ) (first : Option (Range × Rights)) → IsWhole (new_domain k target first)
new_domain_whole k target None = refl
new_domain_whole k target (Some range) = refl

pub row_whole : (k : KernelState) (ec domain : ℕ) (c : Call) → IfDone IsWhole (row k ec domain c)
row_whole k ec domain (asks.Call portal flag) = call_holds IsWhole k ec domain portal flag (λ pt is. refl) (λ pt is. refl)
row_whole k ec domain asks.Reply = reply_holds IsWhole k ec (λ caller mark is. refl)
row_whole k ec domain (asks.CreatePd target pd first) =
    create_pd_holds IsWhole k domain target pd first (new_domain_whole k target first)
row_whole k ec domain (asks.CreateEc target pd cpu kind sp event) =
    makes_hold IsWhole CREATE_EC target (λ made. refl) k domain pd _
row_whole k ec domain (asks.CreateSc target pd its quantum priority) = makes_hold IsWhole CREATE_SC target (λ made. refl) k domain pd _
row_whole k ec domain (asks.CreatePt target pd handler mtd ip) = makes_hold IsWhole CREATE_PT target (λ made. refl) k domain pd _
row_whole k ec domain (asks.CreateSm target pd count) = makes_hold IsWhole CREATE_SM target (λ made. refl) k domain pd (λ o. Ok (Sm count))
row_whole k ec domain (asks.EcCtrl other) = named_holds IsWhole (named k domain is_ec control_right other) (λ n. Recalls n) (λ n. refl)
row_whole k ec domain (asks.ScCtrl sc) =
    named_holds IsWhole (named k domain is_sc control_right sc) (λ n. Tells SC_CTRL (ticks_in (budget_at k n))) (λ n. refl)
row_whole k ec domain (asks.PtCtrl pt identifier) = named_holds IsWhole (named k domain is_pt control_right pt) (λ n. Names n identifier) (λ n. refl)
row_whole k ec domain (asks.SmCtrl sm action) =
    sm_ctrl_holds IsWhole k ec domain sm action (λ n whom is wakes. refl) (λ n is answers. refl) (λ n until is answers till. refl)
row_whole k ec domain other = refl
