-- What the laws on views and on comparisons say, which the proofs here stand on.
use Rattle.std.specs.Prelude.{◌≡◌, ◌==◌, ℕ, Bool, true, List, Some, None}
use Rattle.nova_guest.specs.Admitted.{admits}
use Rattle.nova_guest.specs.Alone.{applied}
use Rattle.nova_guest.specs.declared.guest.Guest.{Guest}
use Rattle.nova_guest.specs.declared.input.Input.{Input}
use Rattle.nova_guest.specs.declared.input.Input.TheVariants.{Foreign}
use Rattle.nova_guest.specs.declared.map.Map.{Map}
use Rattle.nova_model.specs.Choice.{next_to_act}
use Rattle.nova_model.specs.Guests.{input}
use Rattle.nova_model.specs.State.{KernelState, context, pd_of}
use Rattle.nova_model.specs.Views.{view}
use Rattle.law_isolation.specs.Sound.{IsSound, IsVirtual}
use Rattle.law_origins.specs.Giving.{Acts}
use Rattle.law_renaming.specs.Forced.{agree}
use Rattle.law_renaming.specs.Verdicts.{IsAgreement, IsVerdict, SayTheSame, Verdict, compared}
use Rattle.law_views.specs.Given.{AreMapsWith, given}
use Rattle.law_views.specs.Said.{Stores}
use Rattle.law_views.specs.Seen.{AreCellsOf, AreMapsOf, IsShownAs, IsViewOf}

pub record ViewFacts : Type 0 where
  pub registers : (k : KernelState) (g : ℕ) → (view k g).regs ≡ (context k g).regs
  pub recall : (k : KernelState) (g : ℕ) → (view k g).recall ≡ (context k g).recall
  pub state : (k : KernelState) (g : ℕ) → IsSound k → IsVirtual k g → IsShownAs (context k g).state (view k g).state
  pub maps : (k : KernelState) (g : ℕ) → IsSound k → AreMapsOf k.delegations.list (pd_of k g) (view k g).maps
  pub cells : (k : KernelState) (g : ℕ) → AreCellsOf (view k g).maps k.memory.ram (view k g).cells
  pub no_other : (k : KernelState) (g : ℕ) (v : Guest) → IsSound k → IsVirtual k g → IsViewOf k g v → v ≡ view k g
  pub stored : (k : KernelState) (cpu ec g frame offset width value : ℕ) → IsSound k → Acts k cpu ec → input k cpu g ≡ Some (Foreign frame offset width value) → Stores k ec g frame offset width value
  pub nobody : (k : KernelState) (cpu g : ℕ) → next_to_act k cpu ≡ None → input k cpu g ≡ None
  pub given_maps : (v : Guest) (m : Map) (contents : List ℕ) → admits v (given m contents) ≡ true → AreMapsWith m v.maps (applied v (given m contents)).guest.maps

pub record ComparingFacts : Type 0 where
  pub found : (r : ℕ → ℕ → Bool) (u v : Guest) (is js : List Input) → IsAgreement r u v is js → agree u v is js ≡ true
  pub holds : (u v : Guest) (is js : List Input) → IsVerdict u v is js (compared u v is js)
  pub alone : (u v : Guest) (is js : List Input) (x y : Verdict) → IsVerdict u v is js x → IsVerdict u v is js y → SayTheSame x y
  pub same : (u : Guest) (is : List Input) → IsAgreement (λ a b. a == b) u u is is
