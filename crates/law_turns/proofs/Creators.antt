-- What creators give: a range to a protection domain.
use Rattle.std.proofs.Common.{◌≡◌, ℕ, List, refl, ap, ◌∙◌, subst, arith}
use Rattle.std.specs.Prelude.{Bool, true, false, nat_lt, min, slice_get, if◌then◌else◌, Option, Some, None, IsSome, IfOk, Result, Ok, Err}
use Rattle.nova_model.specs.Edges.{is_giving}
use Rattle.rv_model.specs.Registers.{reg}
use Rattle.nova_objects.specs.declared.object.Object.{Object}
use Rattle.nova_objects.specs.declared.object.Object.TheVariants.{Pd}
use Rattle.nova_model.specs.Boot.{Scenario, boot}
use Rattle.nova_model.specs.Runs.{run}
use Rattle.nova_model.specs.State.{KernelState, context, context_in, ec_in, no_transfer, pd_of, transfer}
use Rattle.nova_model.specs.declared.context.EcState.{EcState}
use Rattle.nova_model.specs.declared.context.State.{State}
use Rattle.nova_model.specs.declared.context.State.TheVariants.{Granting}
use Rattle.nova_model.specs.declared.transfer.Transfer.{Transfer}
use Rattle.nova_range.specs.Clamps.{clamp_of}
use Rattle.nova_range.specs.RangeWords.{HasWord, meaning_of}
use Rattle.nova_range.proofs.Words.{sound}
use Rattle.nova_range.specs.declared.clamped.Clamped.{Clamped}
use Rattle.nova_range.specs.declared.range.Kind.{Kind}
use Rattle.nova_range.specs.declared.range.Kind.TheVariants.{Mem, Obj}
use Rattle.nova_range.specs.declared.range.Range.{Range}
use Rattle.nova_range.specs.declared.rights.Rights.{Rights}
use Rattle.nova_range.specs.declared.word.WordFault.{WordFault}
use Rattle.nova_model.specs.Delegations.{is_same_kind}
use Rattle.nova_model.specs.Transfers.{hotspot_in, job_at, job_between, job_of, read_as}
use Rattle.nova_model.specs.declared.transfer.Skip.TheVariants.{Window}
use Rattle.law_turns.specs.Giving.{GivesRange, whole}
use Rattle.law_turns.proofs.GivingPremises.{HasRange}
use Rattle.law_turns.proofs.Giving.{IsFor, IsForEntry, Sound, boot_run_for, entry_rests}

pub same_kind : (kind : Kind) → is_same_kind kind kind ≡ true
same_kind Mem = refl
same_kind Obj = refl

-- a range that is clamped to itself is itself
clamp_itself : (r : Range) (hotspot : ℕ) → clamp_of r r hotspot ≡ record { source = r.base; dest = r.base; order = r.order }
clamp_itself r hotspot =
    let order : min r.order r.order ≡ r.order = omega arith in
    let none : nat_lt r.order r.order ≡ false = grind arith in
    rw (order, none) refl

job_itself : (word giver receiver : ℕ) (range : Range) (rights : Rights) → meaning_of word ≡ Ok (Some (range, rights)) → job_of word 1 word giver receiver ≡ Ok (whole range rights giver receiver)
job_itself word giver receiver range rights is =
    ap (λ (m : Result (Option (Range × Rights)) WordFault). job_between (read_as m) (read_as m) (hotspot_in 1) giver receiver) is
    ∙ ap (λ (b : Bool). if b then Ok (job_at range rights (clamp_of range range (hotspot_in 1)) giver receiver) else Err Window) (same_kind range.kind)
    ∙ ap (λ (c : Clamped). Ok (job_at range rights c giver receiver)) (clamp_itself range (hotspot_in 1))

gives_by : (k : KernelState) (ec domain : ℕ) (m : Result (Option (Range × Rights)) WordFault) → meaning_of (reg (context k ec).regs 12) ≡ m → IsSome (read_as m) → IfOk m HasWord →
    slice_get k.objects domain ≡ Some Pd → GivesRange k ec domain
gives_by k ec domain (Err fault) is some sound receiver = absurd (cc)
gives_by k ec domain (Ok None) is some sound receiver = absurd (cc)
gives_by k ec domain (Ok (Some x)) is some sound receiver = record {
  range = x.0;
  rights = x.1;
  word = is;
  places = sound.0;
  receiver = receiver;
  job = job_itself (reg (context k ec).regs 12) (pd_of k ec) domain x.0 x.1 is;
}

entry_gives : (os : List Object) (o : Option EcState) (t : Transfer) (domain : ℕ) → (context_in o).state ≡ Granting (Some domain) → IsForEntry os o t →
    (slice_get os domain ≡ Some Pd) × HasRange (context_in o).regs
entry_gives os None t domain is h = absurd (cc)
entry_gives os (Some x) t domain is h = subst (λ (s : State). IsFor os s x.regs x.caller t) is h

pub sound_gives : (k : KernelState) (ec domain : ℕ) → (context k ec).state ≡ Granting (Some domain) → Sound k → GivesRange k ec domain
sound_gives k ec domain is sounds =
    let h = entry_gives k.objects (ec_in k.contexts ec) (transfer k ec) domain is (sounds ec) in
    gives_by k ec domain (meaning_of (reg (context k ec).regs 12)) refl h.1 (sound (reg (context k ec).regs 12)) h.0

pub creators_give : (s : Scenario) (turns : List ℕ) (ec domain : ℕ) → (context (run (boot s) turns) ec).state ≡ Granting (Some domain) → GivesRange (run (boot s) turns) ec domain
creators_give s turns ec domain is = sound_gives (run (boot s) turns) ec domain is (boot_run_for s turns)

pub others_rest : (s : Scenario) (turns : List ℕ) (ec : ℕ) → is_giving (context (run (boot s) turns) ec).state ≡ false → transfer (run (boot s) turns) ec ≡ no_transfer
others_rest s turns ec is =
    let k = run (boot s) turns in entry_rests k.objects (ec_in k.contexts ec) (transfer k ec) is (boot_run_for s turns ec)
