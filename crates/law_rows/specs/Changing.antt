-- Deeds that no registers ask for, and the contexts that they change.
use Rattle.std.specs.Prelude.{ℕ, Bool, true, false, Option, Some, None}
use Rattle.nova_model.specs.declared.deed.Deed.{Deed}
use Rattle.nova_model.specs.declared.deed.Deed.TheVariants.{Rests, Steps, Raises, Dies, Waits, Sends, Gives, Skips, Finishes, Aborts, Removes, Returns}
use Rattle.nova_model.specs.declared.transfer.Sequel.TheVariants.{Replied}

-- whether registers ask for the deed, as a hypercall; an instruction, an exit, an item, an abort and a revoke that goes on are not asked for
abbrev pub is_asked_for : Deed → Bool
is_asked_for Rests = false
is_asked_for Steps = false
is_asked_for (Raises reason q0 q1) = false
is_asked_for (Dies reason q0) = false
is_asked_for (Waits handler reason q0 q1) = false
is_asked_for (Sends handler ip identifier mtd reason q0 q1) = false
is_asked_for (Gives child cursor) = false
is_asked_for (Skips reason place cursor) = false
is_asked_for (Finishes item end words after) = false
is_asked_for (Aborts handler mark) = false
is_asked_for (Removes leaf) = false
is_asked_for Returns = false
is_asked_for other = true

-- the handler to which an exit is sent, and the caller to which a reply completes after its last item
abbrev pub partner : Deed → Option ℕ
partner (Sends handler ip identifier mtd reason q0 q1) = Some handler
partner (Finishes item end words (Replied caller mark)) = Some caller
partner other = None
