-- Which contexts give memory to a virtual CPU's protection domain, and which take it.
use Rattle.std.specs.Prelude.{◌≡◌, ℕ, Contains, Bool, true, List, ◌∷◌, ◌++◌, length, slice_get, Some, None, option_map}
use Rattle.nova_model.specs.Choice.{next_to_act}
use Rattle.nova_model.specs.Delegations.{added, reach, without}
use Rattle.nova_model.specs.Inputs.{contents_of}
use Rattle.nova_model.specs.Lines.{line}
use Rattle.nova_model.specs.Revokes.{scope}
use Rattle.nova_model.specs.Runs.{after, run}
use Rattle.nova_model.specs.State.{KernelState, context, pd_of}
use Rattle.nova_model.specs.declared.context.Mark.{Mark}
use Rattle.nova_model.specs.declared.context.Mark.TheVariants.{Call}
use Rattle.nova_model.specs.declared.context.State.TheVariants.{Granting, Replying, Revoking}
use Rattle.nova_model.specs.declared.delegation.Derivation.{Derivation}
use Rattle.nova_objects.specs.declared.object.Object.TheVariants.{Pd}
use Rattle.nova_range.specs.Rights.{allows}
use Rattle.nova_range.specs.declared.range.Kind.TheVariants.{Mem}
use Rattle.nova_range.specs.declared.range.Range.{Range}
use Rattle.nova_range.specs.declared.rights.Rights.{Rights}

-- the execution context acts in the turn of the processor
abbrev pub Acts : KernelState → ℕ → ℕ → Type 0
Acts k cpu ec = option_map (λ c. c.actor) (next_to_act k cpu) ≡ Some ec

-- some page of the protection domain leads to the frame, with the right
pub record HasPageTo (k : KernelState) (pd right frame : ℕ) : Type 0 where
  pub page : ℕ
  pub rights : Rights
  pub leads : reach k.delegations.list pd page ≡ Some (record { frame = frame; rights = rights })
  pub allowed : allows rights right ≡ true

-- the turn, of a list of turns from k on, in which the execution context made the protection domain `pd`
pub record HasMade (k : KernelState) (turns : List ℕ) (ec pd : ℕ) : Type 0 where
  pub before : List ℕ
  pub cpu : ℕ
  pub later : List ℕ
  pub whole : turns ≡ before ++ cpu ∷ later
  pub acts : Acts (run k before) cpu ec
  pub number : length (run k before).objects ≡ pd
  pub made : slice_get (after (run k before) cpu).objects pd ≡ Some Pd

-- After a list of turns a context gives to a protection domain from another: a handler in the first that takes the items of its caller, which lies in
-- the other; one in the other that replies to a caller in the first; or one in the other that made the first, and gives it its first range.
pub data IsGiver (k : KernelState) (turns : List ℕ) (ec pd giver : ℕ) : Type 0 where
  TakesItems : (caller : ℕ) → (context (run k turns) ec).state ≡ Granting None → (context (run k turns) ec).caller ≡ Some (caller, Call) →
      pd_of (run k turns) ec ≡ pd → pd_of (run k turns) caller ≡ giver → IsGiver k turns ec pd giver
  Replies : (caller : ℕ) (mark : Mark) → (context (run k turns) ec).state ≡ Replying → (context (run k turns) ec).caller ≡ Some (caller, mark) →
      pd_of (run k turns) ec ≡ giver → pd_of (run k turns) caller ≡ pd → IsGiver k turns ec pd giver
  FirstRange : (context (run k turns) ec).state ≡ Granting (Some pd) → pd_of (run k turns) ec ≡ giver → HasMade k turns ec pd → IsGiver k turns ec pd giver

-- A memory derivation joins in the protection domain of the virtual CPU, with this range, rights and first frame, and the bytes of these frames come with
-- it. Its parent lies in the giver's protection domain and has every right that it has.
pub record IsGiven (k : KernelState) (turns : List ℕ) (cpu ec g base order : ℕ) (rights : Rights) (frame : ℕ) (contents : List ℕ) : Type 0 where
  pub child : Derivation
  pub parent : Derivation
  pub joins : (after (run k turns) cpu).delegations ≡ added (run k turns).delegations child
  pub there : Contains (run k turns).delegations.list parent
  pub edge : child.parent ≡ Some parent.id
  pub allowed : (right : ℕ) → allows child.rights right ≡ true → allows parent.rights right ≡ true
  pub domain : child.pd ≡ pd_of (run k turns) g
  pub kind : child.kind ≡ Mem
  pub from : child.base ≡ base
  pub size : child.order ≡ order
  pub may : child.rights ≡ rights
  pub leads : child.target ≡ frame
  pub bytes : contents ≡ contents_of (run k turns).memory.ram frame order
  pub giver : IsGiver k turns ec (pd_of (run k turns) g) parent.pd

-- A memory derivation of the protection domain of the virtual CPU goes, with this range. The context that acts revokes, the derivation is in the
-- scope of that revoke, and its protection domain holds an ancestor of the derivation, or that itself.
pub record IsTakenByRight (k : KernelState) (cpu ec g base order : ℕ) : Type 0 where
  pub leaf : Derivation
  pub goes : (after k cpu).delegations ≡ without k.delegations leaf.id
  pub there : Contains k.delegations.list leaf
  pub domain : leaf.pd ≡ pd_of k g
  pub kind : leaf.kind ≡ Mem
  pub from : leaf.base ≡ base
  pub size : leaf.order ≡ order
  pub range : Range
  pub own : Bool
  pub revokes : (context k ec).state ≡ Revoking range own
  pub taken : Contains (scope (record { pd = pd_of k ec; range = range; own = own }) k.delegations.list) leaf
  pub ancestor : Derivation
  pub above : Contains (line k.delegations.list leaf) ancestor
  pub held : ancestor.pd ≡ pd_of k ec
