-- What is found out of a turn by looking alone is what the definitions say of it.
use Rattle.std.proofs.Common.{◌≡◌, ℕ, refl, ap, ap₂, sym, ◌∙◌}
use Rattle.std.specs.Prelude.{◌&&◌, ◌==◌, Bool, true, Option, option_and_then}
use Rattle.rv_model.specs.Registers.{Registers}
use Rattle.rv_model.specs.Step.{Once, Raised, Went, environment_call, one}
use Rattle.rv_core.specs.declared.outcome.Outcome.{Outcome}
use Rattle.rv_core.specs.declared.outcome.Outcome.TheVariants.{Next, Raise}
use Rattle.nova_deeds.specs.Acts.{is_executing, outcome_of}
use Rattle.nova_deeds.proofs.Steps.{executing-deed}
use Rattle.nova_preview.specs.Ahead.{foreign_at, space_for, write_by}
use Rattle.nova_preview.proofs.Stored.{foreign_told}
use Rattle.nova_turn.specs.Parts.{state_of}
use Rattle.nova_turn.specs.declared.parts.Parts.{Parts}
use Rattle.nova_memory.specs.declared.preview.Write.{Write}
use Rattle.nova_model.specs.AddressSpaces.{AddressSpace, space}
use Rattle.nova_model.specs.Deeds.{address_space, deed, deed_in, instruction, removes, signalled, stepping}
use Rattle.nova_model.specs.Inputs.{foreign}
use Rattle.nova_model.specs.Revokes.{next_leaf}
use Rattle.nova_model.specs.State.{KernelState, context, is_thread, pd_of}
use Rattle.nova_model.specs.declared.context.State.TheVariants.{Revoking}
use Rattle.nova_range.specs.declared.range.Range.{Range}
use Rattle.nova_model.specs.declared.deed.Deed.{Deed}
use Rattle.nova_model.specs.declared.deed.Deed.TheVariants.{Steps}
use Rattle.nova_guest.specs.declared.input.Input.{Input}

-- a context that revokes takes the next leaf
pub revoking_deed : (k : KernelState) (ec : ℕ) (range : Range) (own : Bool) → (context k ec).state ≡ Revoking range own →
    deed k ec ≡ removes (next_leaf (record { pd = pd_of k ec; range = range; own = own }) k.delegations)
unfolding deed
revoking_deed k ec range own is = ap (deed_in k ec) is

-- AN INSTRUCTION

space_ahead : (p : Parts) (ec pd : ℕ) (t : Bool) → pd ≡ pd_of (state_of p) ec → t ≡ is_thread (state_of p) ec → space_for p.reach ec pd t ≡ address_space (state_of p) ec
space_ahead p ec pd t domain thread = ap₂ (λ (n : ℕ) (b : Bool). space_for p.reach ec n b) domain thread

outcome_ahead : (p : Parts) (ec pd : ℕ) (t : Bool) (regs : Registers) (o : Outcome) → pd ≡ pd_of (state_of p) ec → t ≡ is_thread (state_of p) ec →
    regs ≡ (context (state_of p) ec).regs → o ≡ outcome_of (one regs (space (space_for p.reach ec pd t))) → o ≡ outcome_of (instruction (state_of p) ec)
outcome_ahead p ec pd t regs o domain thread same is =
    is ∙ ap₂ (λ (r : Registers) (a : AddressSpace). outcome_of (one r (space a))) same (space_ahead p ec pd t domain thread)

write_ahead : (p : Parts) (ec pd : ℕ) (t : Bool) (regs : Registers) (w : Option Write) → pd ≡ pd_of (state_of p) ec → t ≡ is_thread (state_of p) ec →
    regs ≡ (context (state_of p) ec).regs → w ≡ write_by (space_for p.reach ec pd t) (one regs (space (space_for p.reach ec pd t))) →
    w ≡ write_by (address_space (state_of p) ec) (instruction (state_of p) ec)
write_ahead p ec pd t regs w domain thread same is =
    is ∙ ap₂ (λ (r : Registers) (a : AddressSpace). write_by a (one r (space a))) same (space_ahead p ec pd t domain thread)

pub goes_on : (k : KernelState) (ec : ℕ) (o : Once) → Next ≡ outcome_of o → Steps ≡ stepping k ec o
goes_on k ec (Raised reason q0 q1) is = absurd (cc)
goes_on k ec (Went regs store) is = refl

pub raises : (k : KernelState) (ec reason q0 q1 : ℕ) (o : Once) → Raise reason q0 q1 ≡ outcome_of o →
    signalled k ec reason q0 q1 ((reason == environment_call) && is_thread k ec) ≡ stepping k ec o
raises k ec reason q0 q1 (Raised reason' q0' q1') is =
    let e : reason ≡ reason' = cc in
    let f : q0 ≡ q0' = cc in
    let g : q1 ≡ q1' = cc in
    rw (e, f, g) refl
raises k ec reason q0 q1 (Went regs store) is = absurd (cc)

pub step_ahead : (p : Parts) (ec pd : ℕ) (t : Bool) (regs : Registers) → is_executing (context (state_of p) ec) ≡ true → pd ≡ pd_of (state_of p) ec →
    t ≡ is_thread (state_of p) ec → regs ≡ (context (state_of p) ec).regs → Next ≡ outcome_of (one regs (space (space_for p.reach ec pd t))) → Steps ≡ deed (state_of p) ec
step_ahead p ec pd t regs next domain thread same is =
    goes_on (state_of p) ec (instruction (state_of p) ec) (outcome_ahead p ec pd t regs Next domain thread same is) ∙ sym (executing-deed (state_of p) ec next)

pub raise_ahead : (p : Parts) (ec pd reason q0 q1 : ℕ) (t : Bool) (regs : Registers) (d : Deed) → is_executing (context (state_of p) ec) ≡ true →
    pd ≡ pd_of (state_of p) ec → t ≡ is_thread (state_of p) ec → regs ≡ (context (state_of p) ec).regs →
    Raise reason q0 q1 ≡ outcome_of (one regs (space (space_for p.reach ec pd t))) →
    d ≡ signalled (state_of p) ec reason q0 q1 ((reason == environment_call) && is_thread (state_of p) ec) → d ≡ deed (state_of p) ec
raise_ahead p ec pd reason q0 q1 t regs d next domain thread same is signals =
    signals
    ∙ raises (state_of p) ec reason q0 q1 (instruction (state_of p) ec) (outcome_ahead p ec pd t regs (Raise reason q0 q1) domain thread same is)
    ∙ sym (executing-deed (state_of p) ec next)

-- the input that its store is
pub store_ahead : (p : Parts) (ec g pd domain : ℕ) (t : Bool) (regs : Registers) (w : Option Write) (i : Option Input) → domain ≡ pd_of (state_of p) g →
    pd ≡ pd_of (state_of p) ec → t ≡ is_thread (state_of p) ec → regs ≡ (context (state_of p) ec).regs →
    w ≡ write_by (space_for p.reach ec pd t) (one regs (space (space_for p.reach ec pd t))) → i ≡ option_and_then (foreign_at p.reach domain) w →
    i ≡ foreign (state_of p) ec g
store_ahead p ec g pd domain t regs w i whose its thread same is told =
    told
    ∙ ap₂ (λ (n : ℕ) (v : Option Write). option_and_then (foreign_at p.reach n) v) whose (write_ahead p ec pd t regs w its thread same is)
    ∙ foreign_told (state_of p) ec g p.reach refl refl
