-- What may run, in words: a scheduling context of the processor whose turns lead to a context that acts.
use Rattle.std.specs.Prelude.{◌≡◌, ℕ, true, Some, slice_get}
use Rattle.nova_objects.specs.declared.object.Object.TheVariants.{Sc}
use Rattle.nova_model.specs.Choice.{Candidate}
use Rattle.nova_model.specs.Edges.{acts}
use Rattle.nova_model.specs.State.{KernelState, budget_at}
use Rattle.nova_model.specs.declared.budget.Budget.{Budget}
use Rattle.nova_ec.specs.Ways.{EndsAt}

-- it is bound to the donor on this processor, with this priority; its budget has this stamp; and the donor's turns go along edges to the actor, which acts
pub record IsRunnable (k : KernelState) (cpu : ℕ) (c : Candidate) : Type 0 where
  pub donor : ℕ
  pub quantum : ℕ
  pub object : slice_get k.objects c.sc ≡ Some (Sc donor cpu c.priority quantum)
  pub budget : Budget
  pub there : budget_at k c.sc ≡ Some budget
  pub stamp : c.stamp ≡ budget.stamp
  pub leads : EndsAt k.contexts donor c.actor
  pub able : acts k.contexts c.actor ≡ true
