-- What is shown of each kind of input that a turn can be holds of what it is for a virtual CPU.
use Rattle.std.proofs.Common.{◌≡◌, ℕ, ◌==◌, List, refl}
use Rattle.std.specs.Prelude.{Bool, true, false, ◌%◌, slice_get, Option, Some, None, is_some, IfSome, option_and_then, if◌then◌else◌}
use Rattle.std.proofs.lemmas.Bool.{and_parts}
use Rattle.rv_model.specs.Step.{Once, Raised, Went}
use Rattle.nova_range.specs.declared.mtd.Mtd.{Mtd}
use Rattle.law_forest.proofs.Actors.{of_input}
use Rattle.law_forest.proofs.Allowed.{IsAllowed, deed_allowed}
use Rattle.nova_guest.specs.declared.input.Input.{Input}
use Rattle.nova_guest.specs.declared.input.Input.TheVariants.{Own, Reply, Recall, Taken, Foreign, Sent, Died}
use Rattle.nova_range.specs.Rights.{write_right}
use Rattle.nova_model.specs.AddressSpaces.{frame_for}
use Rattle.nova_model.specs.Deeds.{address_space, deed, instruction}
use Rattle.nova_model.specs.Delegations.{is_memory}
use Rattle.nova_model.specs.Guests.{input}
use Rattle.nova_model.specs.Inputs.{foreign_at, foreign_by, given_of, in_ram, input_of, is_covered_for, only_if, others_input, own_input, reply_of, store_of}
use Rattle.nova_model.specs.State.{KernelState, message, pd_of}
use Rattle.nova_model.specs.Views.{is_memory_of}
use Rattle.nova_model.specs.declared.context.Mark.TheVariants as mark
use Rattle.nova_model.specs.declared.deed.Deed.{Deed}
use Rattle.nova_model.specs.declared.deed.Deed.TheVariants as deed_as
use Rattle.nova_model.specs.declared.delegation.Derivation.{Derivation}
use Rattle.nova_model.specs.declared.transfer.Sequel.TheVariants.{Replied}

pub record Passes (k : KernelState) (g : ℕ) (P : Input → Type 0) : Type 0 where
  pub own : P Own
  pub sent : P Sent
  pub died : P Died
  pub recall : P Recall
  pub reply : (mtd : Mtd) (words : List ℕ) → P (Reply mtd words)
  pub taken : (base order : ℕ) → P (Taken base order)
  pub given : (ec : ℕ) (d : Derivation) (cursor : ℕ) → IsAllowed k ec (deed_as.Gives d cursor) → is_memory d.kind ≡ true → P (given_of k d)
  pub foreign : (frame offset width value : ℕ) → is_covered_for k (pd_of k g) frame ≡ true → is_some (slice_get k.memory.ram frame) ≡ true → P (Foreign frame offset width value)

only_passes : (P : Input → Type 0) (t : Bool) (i : Input) → (t ≡ true → P i) → IfSome (only_if t i) P
only_passes P true i is = is refl
only_passes P false i is = tt

own_passes : (k : KernelState) (g : ℕ) (P : Input → Type 0) → Passes k g P → (d : Deed) → IfSome (own_input d) P
own_passes k g P each deed_as.Steps = each.own
own_passes k g P each (deed_as.Raises reason q0 q1) = each.own
own_passes k g P each (deed_as.Sends handler ip identifier mtd reason q0 q1) = each.sent
own_passes k g P each (deed_as.Dies reason q0) = each.died
own_passes k g P each (deed_as.Aborts handler mark) = each.died
own_passes k g P each other = tt

store_passes : (k : KernelState) (ec g : ℕ) (P : Input → Type 0) → Passes k g P → (o : Once) → IfSome (option_and_then (foreign_by k ec (pd_of k g)) (store_of o)) P
store_passes k ec g P each (Raised reason q0 q1) = tt
store_passes k ec g P each (Went regs None) = tt
store_passes k ec g P each (Went regs (Some s)) = by_frame (frame_for (address_space k ec) write_right s.address)
  where
    by_cover : (f : ℕ) → is_some (slice_get k.memory.ram f) ≡ true → (t : Bool) → is_covered_for k (pd_of k g) f ≡ t →
        IfSome (if t then Some (Foreign f (s.address % 4096) s.width s.value) else None) P
    by_cover f ram true is = each.foreign f (s.address % 4096) s.width s.value is ram
    by_cover f ram false is = tt

    by_ram : (f : ℕ) (t : Bool) → is_some (slice_get k.memory.ram f) ≡ t → IfSome (option_and_then (foreign_at k (pd_of k g) s) (if t then Some f else None)) P
    by_ram f true ram = by_cover f ram (is_covered_for k (pd_of k g) f) refl
    by_ram f false ram = tt

    by_frame : (f : Option ℕ) → IfSome (option_and_then (foreign_at k (pd_of k g) s) (option_and_then (in_ram k) f)) P
    by_frame None = tt
    by_frame (Some f) = by_ram f (is_some (slice_get k.memory.ram f)) refl

reply_passes : (k : KernelState) (g : ℕ) (P : Input → Type 0) → Passes k g P → (m : List ℕ) → P (reply_of m)
reply_passes k g P each m = each.reply _ _

others_pass : (k : KernelState) (ec g : ℕ) (P : Input → Type 0) → Passes k g P → (d : Deed) → IsAllowed k ec d → IfSome (others_input k ec g d) P
others_pass k ec g P each deed_as.Steps allowed = store_passes k ec g P each (instruction k ec)
others_pass k ec g P each (deed_as.Recalls whose) allowed = only_passes P (whose == g) Recall (λ is. each.recall)
others_pass k ec g P each (deed_as.Replies caller mark.Exit false) allowed = only_passes P (caller == g) (reply_of (message k ec)) (λ is. reply_passes k g P each (message k ec))
others_pass k ec g P each (deed_as.Replies caller mark.Exit true) allowed = tt
others_pass k ec g P each (deed_as.Replies caller mark.Call items) allowed = tt
others_pass k ec g P each (deed_as.Finishes item end words (Replied caller mark.Exit)) allowed =
    only_passes P (caller == g) (reply_of (message k ec)) (λ is. reply_passes k g P each (message k ec))
others_pass k ec g P each (deed_as.Finishes item end words (Replied caller mark.Call)) allowed = tt
others_pass k ec g P each (deed_as.Finishes item end words other) allowed = tt
others_pass k ec g P each (deed_as.Gives child cursor) allowed =
    only_passes P (is_memory_of (pd_of k g) child) (given_of k child) (λ is. each.given ec child cursor allowed (and_parts (is_memory child.kind) (child.pd == pd_of k g) is).0)
others_pass k ec g P each (deed_as.Removes leaf) allowed = only_passes P (is_memory_of (pd_of k g) leaf) (Taken leaf.base leaf.order) (λ is. each.taken leaf.base leaf.order)
others_pass k ec g P each other allowed = tt

deed_passes : (k : KernelState) (ec g : ℕ) (P : Input → Type 0) → Passes k g P → (d : Deed) → IsAllowed k ec d → IfSome (input_of k ec g d) P
unfolding input_of
deed_passes k ec g P each d allowed = by_actor (ec == g)
  where
    by_actor : (t : Bool) → IfSome (if t then own_input d else others_input k ec g d) P
    by_actor true = own_passes k g P each d
    by_actor false = others_pass k ec g P each d allowed

pub input_passes : (k : KernelState) (cpu g : ℕ) (P : Input → Type 0) → Passes k g P → IfSome (input k cpu g) P
input_passes k cpu g P each = of_input (λ i. IfSome i P) k cpu g tt (λ c chosen. deed_passes k c.actor g P each (deed k c.actor) (deed_allowed k c.actor))
