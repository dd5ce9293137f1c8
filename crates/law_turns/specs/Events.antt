-- Events: the contexts that they name, and how many turns an order gives to a processor.
use Rattle.std.specs.Prelude.{◌≡◌, ◌<◌, ◌==◌, ℕ, false, true, List, filter, length, slice_get, Some}
use Rattle.nova_objects.specs.declared.object.Object.TheVariants.{Sc}
use Rattle.nova_model.specs.Choice.{choose}
use Rattle.nova_model.specs.Edges.{acts, after_edges, chase, edge}
use Rattle.nova_model.specs.State.{Contexts, KernelState}
use Rattle.nova_model.specs.declared.event.Event.{Event}

-- `who` acts in the turns that `ec` is given: it is met after `edges` edges, it acts, and none that is met before acts
pub record ActsFor (cs : Contexts) (ec who : ℕ) : Type 0 where
  pub edges : ℕ
  pub met : after_edges edges (edge cs) ec ≡ Some who
  pub able : acts cs who ≡ true
  pub first : (n other : ℕ) → n < edges → after_edges n (edge cs) ec ≡ Some other → acts cs other ≡ false

-- the event names the scheduling context that the processor chose, the processor, of which the scheduling context is, and the context that acts in
-- its turns
pub record NamesChosen (k : KernelState) (cpu : ℕ) (e : Event) : Type 0 where
  pub chosen : choose k cpu ≡ Some e.sc
  pub processor : e.cpu ≡ cpu
  pub its : ℕ
  pub priority : ℕ
  pub quantum : ℕ
  pub object : slice_get k.objects e.sc ≡ Some (Sc its e.cpu priority quantum)
  pub chased : chase k.contexts its ≡ e.ec
  pub actor : ActsFor k.contexts its e.ec

-- the event of a turn that no scheduling context pays names its processor, and 0 for the scheduling context
pub record NamesNobody (cpu : ℕ) (e : Event) : Type 0 where
  pub processor : e.cpu ≡ cpu
  pub schedule : e.sc ≡ 0

-- how often an order names a processor
abbrev pub turns_given : ℕ → List ℕ → ℕ
turns_given cpu order = length (filter (λ named. named == cpu) order)
