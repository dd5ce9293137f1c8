-- The deed of each state.
use Rattle.std.proofs.Common.{◌≡◌, ℕ, ◌==◌, ◌&&◌, Bool, true, false, Option, Some, None, ap, ◌∙◌}
use Rattle.rv_model.specs.Registers.{Registers}
use Rattle.rv_model.specs.Step.{Once, Raised, Store, Went}
use Rattle.nova_model.specs.Deeds.{deed, deed_in, instruction, mark_in, ready, removes, signalled, stepping}
use Rattle.nova_model.specs.Hypercalls.{hypercall}
use Rattle.nova_model.specs.Revokes.{next_leaf}
use Rattle.nova_model.specs.State.{KernelState, context, is_thread, pd_of}
use Rattle.nova_model.specs.declared.context.Mark.{Mark}
use Rattle.nova_model.specs.declared.context.State.{State}
use Rattle.nova_model.specs.declared.context.State.TheVariants.{Calling, Fresh, Helping, Ready, Revoking}
use Rattle.nova_model.specs.declared.deed.Deed.TheVariants.{Aborts, Raises, Removes, Returns, Steps}
use Rattle.nova_model.specs.declared.delegation.Derivation.{Derivation}
use Rattle.nova_range.specs.declared.range.Range.{Range}

module _ (k : KernelState) (ec : ℕ) where
  by_state : (s : State) → (context k ec).state ≡ s → deed k ec ≡ deed_in k ec s
  unfolding deed
  by_state s is = ap (deed_in k ec) is

  pub startup : (context k ec).state ≡ Fresh → deed k ec ≡ Raises 0 0 0
  startup is = by_state Fresh is

  pub recalled : (context k ec).state ≡ Ready → (context k ec).recall ≡ true → deed k ec ≡ Raises 8 0 0
  recalled is asked = by_state Ready is ∙ ap (ready k ec) asked

  unasked : (context k ec).state ≡ Ready → (context k ec).recall ≡ false → (o : Once) → instruction k ec ≡ o → deed k ec ≡ stepping k ec o
  unasked is none o comes = by_state Ready is ∙ (ap (ready k ec) none ∙ ap (stepping k ec) comes)

  pub steps : (regs : Registers) (store : Option Store) → (context k ec).state ≡ Ready → (context k ec).recall ≡ false → instruction k ec ≡ Went regs store → deed k ec ≡ Steps
  steps regs store is none comes = unasked is none (Went regs store) comes

  pub raises : (reason q0 q1 : ℕ) → (context k ec).state ≡ Ready → (context k ec).recall ≡ false → instruction k ec ≡ Raised reason q0 q1 → (reason == 6) ≡ false →
      deed k ec ≡ Raises reason q0 q1
  raises reason q0 q1 is none comes other = unasked is none (Raised reason q0 q1) comes ∙ ap (λ (b : Bool). signalled k ec reason q0 q1 (b && is_thread k ec)) other

  pub guest_calls : (q0 q1 : ℕ) → (context k ec).state ≡ Ready → (context k ec).recall ≡ false → instruction k ec ≡ Raised 6 q0 q1 → is_thread k ec ≡ false →
      deed k ec ≡ Raises 6 q0 q1
  guest_calls q0 q1 is none comes kind = unasked is none (Raised 6 q0 q1) comes ∙ ap (signalled k ec 6 q0 q1) kind

  pub calls : (q0 q1 : ℕ) → (context k ec).state ≡ Ready → (context k ec).recall ≡ false → instruction k ec ≡ Raised 6 q0 q1 → is_thread k ec ≡ true →
      deed k ec ≡ hypercall k ec (pd_of k ec) (context k ec).regs
  calls q0 q1 is none comes kind = unasked is none (Raised 6 q0 q1) comes ∙ ap (signalled k ec 6 q0 q1) kind

  pub again : (handler : ℕ) → (context k ec).state ≡ Helping handler → deed k ec ≡ hypercall k ec (pd_of k ec) (context k ec).regs
  again handler is = by_state (Helping handler) is

  pub aborts : (handler caller : ℕ) (mark : Mark) → (context k ec).state ≡ Calling handler → (context k handler).caller ≡ Some (caller, mark) → deed k ec ≡ Aborts handler mark
  aborts handler caller mark is keeps = by_state (Calling handler) is ∙ ap (λ (c : Option (ℕ × Mark)). Aborts handler (mark_in c)) keeps

  pub takes : (range : Range) (own : Bool) (leaf : Derivation) → (context k ec).state ≡ Revoking range own →
      next_leaf (record { pd = pd_of k ec; range = range; own = own }) k.delegations ≡ Some leaf → deed k ec ≡ Removes leaf
  takes range own leaf is next = by_state (Revoking range own) is ∙ ap removes next

  pub returns_then : (range : Range) (own : Bool) → (context k ec).state ≡ Revoking range own →
      next_leaf (record { pd = pd_of k ec; range = range; own = own }) k.delegations ≡ None → deed k ec ≡ Returns
  returns_then range own is none = by_state (Revoking range own) is ∙ ap removes none
