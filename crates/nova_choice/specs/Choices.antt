-- The choice and its turn, by the number of the scheduling context and the context that acts.
use Rattle.std.specs.Prelude.{ℕ, slice_get, Option, Some, None}
use Rattle.nova_model.specs.Choice.{Candidate}
use Rattle.nova_model.specs.Deeds.{deed, done}
use Rattle.nova_model.specs.Inputs.{stirred}
use Rattle.nova_model.specs.State.{KernelState}
use Rattle.nova_model.specs.Turn.{Step, charged, event_by}
use Rattle.nova_choice.specs.Schedules.{actor_of}
use Rattle.nova_choice.specs.declared.choice.Chosen.{Chosen}

-- of a candidate its number and the context that acts
abbrev pub chosen_of : Candidate → Chosen
chosen_of c = record { sc = c.sc; actor = c.actor }

-- a scheduling context with the context that acts in its turns
abbrev pub led_by : ℕ → Option ℕ → Option Chosen
led_by sc None = None
led_by sc (Some actor) = Some (record { sc = sc; actor = actor })

abbrev pub led : KernelState → Option ℕ → Option Chosen
led k None = None
led k (Some sc) = led_by sc (actor_of k.contexts (slice_get k.objects sc))

-- the turn of such a choice
abbrev pub taken_by : KernelState → ℕ → Chosen → Step
taken_by k cpu c = record { kernel = charged (stirred k c.actor (deed k c.actor) (done k c.actor (deed k c.actor))) cpu c.sc; event = event_by cpu c.sc c.actor (deed k c.actor) }
