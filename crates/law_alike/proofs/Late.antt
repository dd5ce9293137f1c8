-- Which deeds wait to a deadline: those of one hypercall, and until when.
use Rattle.std.proofs.Common.{◌≡◌, ℕ, refl, sym, ap, ◌∙◌}
use Rattle.std.specs.Prelude.{Bool, true, false, ◌==◌, not, Option, Some, None, Result, Ok, Err}
use Rattle.nova_calls.specs.Hypercalls.{call_of}
use Rattle.nova_calls.specs.declared.call.Call.{Call}
use Rattle.nova_calls.specs.declared.call.Call.TheVariants as asks
use Rattle.nova_calls.specs.declared.call.SmAction.TheVariants as act
use Rattle.nova_calls.specs.declared.numbers.TheConstants.{CREATE_SM}
use Rattle.nova_range.specs.declared.status.Status.{Status}
use Rattle.nova_range.specs.declared.status.Status.TheVariants.{BadPar, Busy, Timeout}
use Rattle.nova_utcb.specs.Messages.{has_counts}
use Rattle.nova_model.specs.Calls.{admitted}
use Rattle.nova_model.specs.Capabilities.{call_right, control_right, down_right, is_ec, is_pt, is_sc, is_sm, named, up_right}
use Rattle.nova_model.specs.Deeds.{deed}
use Rattle.nova_model.specs.Hypercalls.{and_then, called, deadline_after, downed_by, downed_within, makes, maker, replied, row, unless, upped_by}
use Rattle.nova_model.specs.Portals.{handler_of}
use Rattle.nova_model.specs.Running.{is_revoked}
use Rattle.nova_model.specs.Semaphores.{answer_of, semaphore, woken}
use Rattle.nova_model.specs.State.{KernelState, context, is_local_thread, message, pd_of}
use Rattle.nova_model.specs.declared.admit.Admit.{Admit}
use Rattle.nova_model.specs.declared.admit.Admit.TheVariants.{Refused, Help, Send}
use Rattle.nova_model.specs.declared.context.Mark.{Mark}
use Rattle.nova_model.specs.declared.deed.Deed.{Deed}
use Rattle.nova_model.specs.declared.deed.Deed.TheVariants.{Blocks, Makes}
use Rattle.nova_model.specs.declared.new_object.NewObject.{NewObject}
use Rattle.nova_model.specs.declared.new_object.NewObject.TheVariants as new
use Rattle.nova_model.specs.declared.semaphore.Down.{Down}
use Rattle.nova_model.specs.declared.semaphore.Down.TheVariants as down
use Rattle.nova_model.specs.declared.semaphore.Overflow.{Overflow}
use Rattle.law_forest.proofs.Walk.{IfDone, deed_holds}

abbrev pub late : Deed → Bool
late (Blocks sm (Some d)) = true
late other = false

abbrev late_in : Result Deed Status → Bool
late_in (Ok d) = late d
late_in (Err status) = false

then_plain : {A : Type 0} (o : Result A Status) (f : A → Result Deed Status) → ((x : A) → late_in (f x) ≡ false) → late_in (and_then o f) ≡ false
then_plain (Err status) f plain = refl
then_plain (Ok x) f plain = plain x

unless_plain : (t : Bool) (status : Status) (r : Result Deed Status) → late_in r ≡ false → late_in (unless t status r) ≡ false
unless_plain true status r plain = refl
unless_plain false status r plain = plain

makes_plain : (k : KernelState) (domain call target pd : ℕ) (f : ℕ → Result NewObject Status) → late_in (makes k domain call target pd f) ≡ false
makes_plain k domain call target pd f =
    then_plain (maker k domain target pd) _ (λ owner. then_plain (f owner) _ (λ made. unless_plain (is_revoked k domain target) Busy (Ok (Makes call target made)) refl))

called_plain : (k : KernelState) (ec pt : ℕ) (a : Admit) → late_in (called k ec pt a) ≡ false
called_plain k ec pt (Refused status) = refl
called_plain k ec pt Help = refl
called_plain k ec pt Send = refl

replied_plain : (k : KernelState) (ec : ℕ) (o : Option (ℕ × Mark)) → late_in (replied k ec o) ≡ false
replied_plain k ec None = refl
replied_plain k ec (Some (caller, mark)) = refl

upped_plain : (sm : ℕ) (o : Result (Option ℕ) Overflow) → late_in (upped_by sm o) ≡ false
upped_plain sm (Ok whom) = refl
upped_plain sm (Err e) = refl

downed_plain : (sm : ℕ) (a : Down) → late (downed_by sm a) ≡ false
downed_plain sm down.Done = refl
downed_plain sm down.Blocked = refl

-- the call of a deed, and until when it waits
pub record IsLateBy (k : KernelState) (ec : ℕ) (o : Result Call Status) (d : Deed) : Type 0 where
  pub selector : ℕ
  pub ticks : ℕ
  pub sm : ℕ
  pub call : o ≡ Ok (asks.SmCtrl selector (act.DownWithin ticks))
  pub is : d ≡ Blocks sm (Some (deadline_after k ec sm ticks))

late_down : (k : KernelState) (ec domain selector ticks : ℕ) (d : Deed) (o : Result ℕ Status) →
    and_then o (λ n. downed_within n ticks (deadline_after k ec n ticks) (answer_of (semaphore k.semaphores n))) ≡ Ok d → late d ≡ true → IsLateBy k ec (Ok (asks.SmCtrl selector (act.DownWithin ticks))) d
late_down k ec domain selector ticks d (Err status) is h = absurd (cc)
late_down k ec domain selector ticks d (Ok n) is h = by_answer (answer_of (semaphore k.semaphores n)) is
  where
    by_ticks : (t : Bool) → unless t Timeout (Ok (Blocks n (Some (deadline_after k ec n ticks)))) ≡ Ok d → IsLateBy k ec (Ok (asks.SmCtrl selector (act.DownWithin ticks))) d
    by_ticks true at = absurd (cc)
    by_ticks false at = record { selector = selector; ticks = ticks; sm = n; call = refl; is = (let same : d ≡ Blocks n (Some (deadline_after k ec n ticks)) = cc in same) }

    by_answer : (a : Down) → downed_within n ticks (deadline_after k ec n ticks) a ≡ Ok d → IsLateBy k ec (Ok (asks.SmCtrl selector (act.DownWithin ticks))) d
    by_answer down.Done at = absurd (let plain = ap late_in at in cc)
    by_answer down.Blocked at = by_ticks (ticks == 0) at

not_late : (r : Result Deed Status) (d : Deed) → late_in r ≡ false → r ≡ Ok d → late d ≡ true → ⊥
not_late r d plain is h = let both : false ≡ true = sym plain ∙ ap late_in is ∙ h in cc

row_late : (k : KernelState) (ec domain : ℕ) (c : Call) (d : Deed) → row k ec domain c ≡ Ok d → late d ≡ true → IsLateBy k ec (Ok c) d
row_late k ec domain (asks.Call portal flag) d is h = absurd (not_late (row k ec domain (asks.Call portal flag)) d
    (unless_plain (not (has_counts (message k ec))) BadPar _ (then_plain (named k domain is_pt call_right portal) _ (λ pt. called_plain k ec pt (admitted k.contexts ec (handler_of k pt) flag)))) is h)
row_late k ec domain asks.Reply d is h = absurd (not_late (row k ec domain asks.Reply) d
    (unless_plain (not (is_local_thread k ec)) BadPar _ (unless_plain (not (has_counts (message k ec))) BadPar _ (replied_plain k ec (context k ec).caller))) is h)
row_late k ec domain (asks.CreatePd target pd None) d is h = absurd (not_late (row k ec domain (asks.CreatePd target pd None)) d
    (then_plain (maker k domain target pd) _ (λ owner. unless_plain (is_revoked k domain target) Busy _ refl)) is h)
row_late k ec domain (asks.CreatePd target pd (Some range)) d is h = absurd (not_late (row k ec domain (asks.CreatePd target pd (Some range))) d
    (then_plain (maker k domain target pd) _ (λ owner. unless_plain (is_revoked k domain target) Busy _ refl)) is h)
row_late k ec domain (asks.CreateEc target pd cpu kind sp event) d is h = absurd (not_late _ d (makes_plain k domain _ target pd _) is h)
row_late k ec domain (asks.CreateSc target pd whose quantum priority) d is h = absurd (not_late _ d (makes_plain k domain _ target pd _) is h)
row_late k ec domain (asks.CreatePt target pd handler mtd ip) d is h = absurd (not_late _ d (makes_plain k domain _ target pd _) is h)
row_late k ec domain (asks.CreateSm target pd count) d is h = absurd (not_late _ d (makes_plain k domain CREATE_SM target pd (λ owner. Ok (new.Sm count))) is h)
row_late k ec domain (asks.Revoke range own) d is h = absurd (not_late (row k ec domain (asks.Revoke range own)) d refl is h)
row_late k ec domain (asks.Lookup range) d is h = absurd (not_late (row k ec domain (asks.Lookup range)) d refl is h)
row_late k ec domain (asks.EcCtrl whose) d is h = absurd (not_late (row k ec domain (asks.EcCtrl whose)) d (then_plain (named k domain is_ec control_right whose) _ (λ n. refl)) is h)
row_late k ec domain (asks.ScCtrl sc) d is h = absurd (not_late (row k ec domain (asks.ScCtrl sc)) d (then_plain (named k domain is_sc control_right sc) _ (λ n. refl)) is h)
row_late k ec domain (asks.PtCtrl pt number) d is h = absurd (not_late (row k ec domain (asks.PtCtrl pt number)) d (then_plain (named k domain is_pt control_right pt) _ (λ n. refl)) is h)
row_late k ec domain (asks.SmCtrl sm act.Up) d is h = absurd (not_late (row k ec domain (asks.SmCtrl sm act.Up)) d
    (then_plain (named k domain is_sm up_right sm) _ (λ n. upped_plain n (woken (semaphore k.semaphores n)))) is h)
row_late k ec domain (asks.SmCtrl sm act.Down) d is h = absurd (not_late (row k ec domain (asks.SmCtrl sm act.Down)) d
    (then_plain (named k domain is_sm down_right sm) _ (λ n. downed_plain n (answer_of (semaphore k.semaphores n)))) is h)
row_late k ec domain (asks.SmCtrl sm (act.DownWithin ticks)) d is h = late_down k ec domain sm ticks d (named k domain is_sm down_right sm) is h

abbrev IsLate : KernelState → ℕ → Deed → Type 0
IsLate k ec d = late d ≡ true → IsLateBy k ec (call_of (context k ec).regs) d

pub late_deed : (k : KernelState) (ec : ℕ) → IsLate k ec (deed k ec)
late_deed k ec = deed_holds (IsLate k ec) k ec (λ h. absurd (cc))
    (record {
      steps = λ h. absurd (cc);
      raises = λ reason q0 q1 h. absurd (cc);
      dies = λ reason q0 h. absurd (cc);
      waits = λ pt reason q0 q1 is h. absurd (cc);
      sends = λ pt reason q0 q1 is h. absurd (cc);
      refuses = λ call status h. absurd (cc);
      aborts = λ handler is h. absurd (cc);
      rows = λ asking c is. by_row c is (row k ec (pd_of k ec) c) refl;
      removes = λ range own leaf is next h. absurd (cc);
      returns = λ range own is none h. absurd (cc);
    })
    (record {
      gives = λ d x is h. absurd (cc);
      skips = λ d reason place is h. absurd (cc);
      finishes = λ v end answer present ends h. absurd (cc);
    })
  where
    by_row : (c : Call) → call_of (context k ec).regs ≡ Ok c → (r : Result Deed Status) → row k ec (pd_of k ec) c ≡ r → IfDone (IsLate k ec) r
    by_row c is (Err status) at = tt
    by_row c is (Ok d) at = λ h. let by = row_late k ec (pd_of k ec) c d at h in
        record { selector = by.selector; ticks = by.ticks; sm = by.sm; call = is ∙ by.call; is = by.is }
