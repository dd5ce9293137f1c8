-- What the kernel's lists show of its state, and the room that they have.
use Rattle.std.specs.Prelude.{ℕ, ◌<◌, length, vec_len, vec_capacity}
use Rattle.nova_model.specs.State.{KernelState}
use Rattle.nova_model.specs.declared.deed.Deed.{Deed}
use Rattle.nova_model.specs.declared.deed.Deed.TheVariants.{Makes, Opens, Gives}
use Rattle.nova_nodes.specs.NodesStates.{room}
use Rattle.nova_choice.specs.Schedules.{HasQueue, budgets_of}
use Rattle.nova_turn.specs.Views.{KernelView}
use Rattle.nova_turn.specs.declared.parts.Parts.{Parts}

-- the state that the lists show
abbrev pub state_of : Parts → KernelState
state_of p = record {
  delegations = p.reach.nodes.delegations;
  objects = p.objects.items;
  contexts = p.contexts.items;
  messages = p.reach.messages.items;
  transfers = p.transfers.items;
  budgets = budgets_of p.queues.all (length p.objects.items);
  identifiers = p.identifiers.items;
  semaphores = p.semaphores.all;
  memory = p.reach.memory;
  next_stamp = p.queues.all.next_stamp;
  turns = p.turns;
  cpus = p.cpus;
  consoles = p.reach.consoles;
  stirs = record { guests = p.guests.counts; processors = p.times.all.clocks };
  times = p.times.all;
}

-- what a caller sees of it
abbrev pub view_of : Parts → KernelView
view_of p = record { state = state_of p; room = p.reach.room }

-- each list has room for one more, that of derivations for one of a protection domain
pub record HasRoom (pd : ℕ) (p : Parts) : Type 0 where
  pub objects : 0 < p.objects.spare
  pub derivations : 0 < room p.reach.nodes pd
  pub contexts : 0 < p.contexts.spare
  pub messages : 0 < p.reach.messages.spare
  pub transfers : vec_len p.transfers < vec_capacity p.transfers
  pub identifiers : vec_len p.identifiers < vec_capacity p.identifiers
  pub semaphores : 0 < p.semaphores.spare
  pub waiting : length p.semaphores.all < p.semaphores.contexts
  pub deadlines : length p.times.all.deadlines < p.times.contexts
  pub guests : 0 < p.guests.spare
  pub revokes : length p.objects.items < p.revokes.places

-- a deed that makes an object wants it; one that gives a child wants room for a derivation of who receives it
abbrev pub HasRoomFor : ℕ → Deed → Parts → Type 0
HasRoomFor pd (Makes call target new) p = HasRoom pd p × HasQueue new (length p.objects.items) p.queues
HasRoomFor pd (Opens target domain) p = HasRoom pd p
HasRoomFor pd (Gives child cursor) p = 0 < room p.reach.nodes child.pd
HasRoomFor pd other p = Unit {0}
