-- A store of another that was noted, and that of the definition.
use Rattle.std.proofs.Common.{◌≡◌, ℕ, length, refl, ap, ap₂, ◌∙◌}
use Rattle.std.specs.Prelude.{Bool, true, false, ◌&&◌, ◌%◌, nat_lt, if◌then◌else◌, Option, Some, None, is_some, option_map, option_and_then, slice_get}
use Rattle.std.specs.List.{list_any}
use Rattle.rv_model.specs.Step.{Store}
use Rattle.nova_guest.specs.declared.input.Input.TheVariants as input
use Rattle.nova_memory.specs.Previews.{write_at, write_of}
use Rattle.nova_memory.specs.Reach.{ReachState}
use Rattle.nova_model.specs.AddressSpaces.{frame_for}
use Rattle.nova_model.specs.Deeds.{address_space, instruction}
use Rattle.nova_model.specs.Delegations.{Delegations}
use Rattle.nova_model.specs.Inputs as defined
use Rattle.nova_model.specs.Inputs.{foreign, foreign_by, in_ram, is_covered_for, leads_to, store_of}
use Rattle.nova_model.specs.Memory.{Memory}
use Rattle.nova_model.specs.State.{KernelState, pd_of}
use Rattle.nova_range.specs.Rights.{write_right}
use Rattle.nova_deeds.proofs.Stirred.{frame_there}
use Rattle.nova_preview.specs.Ahead.{foreign_at, write_by}

here : (k : KernelState) (pd frame : ℕ) (s : Store) (t : Bool) →
    (if t && is_covered_for k pd frame then Some (input.Foreign frame (s.address % 4096) s.width s.value) else None)
    ≡ option_and_then (defined.foreign_at k pd s) (if t then Some frame else None)
here k pd frame s true = refl
here k pd frame s false = refl

told_at : (k : KernelState) (pd : ℕ) (r : ReachState) (s : Store) (o : Option ℕ) → r.nodes.delegations ≡ k.delegations → r.memory ≡ k.memory →
    option_and_then (foreign_at r pd) (option_map (write_at s) o) ≡ option_and_then (defined.foreign_at k pd s) (option_and_then (in_ram k) o)
told_at k pd r s None d m = refl
told_at k pd r s (Some frame) d m =
    ap₂ (λ (mem : Memory) (ds : Delegations). if nat_lt frame (length mem.ram) && list_any (leads_to pd frame) ds.list
    then Some (input.Foreign frame (s.address % 4096) s.width s.value) else None) m d
    ∙ (ap (λ (t : Bool). if t && is_covered_for k pd frame then Some (input.Foreign frame (s.address % 4096) s.width s.value) else None) (frame_there k.memory.ram frame)
    ∙ here k pd frame s (is_some (slice_get k.memory.ram frame)))

told_by : (k : KernelState) (ec pd : ℕ) (r : ReachState) (o : Option Store) → r.nodes.delegations ≡ k.delegations → r.memory ≡ k.memory →
    option_and_then (foreign_at r pd) (option_and_then (write_of (address_space k ec)) o) ≡ option_and_then (foreign_by k ec pd) o
told_by k ec pd r None d m = refl
told_by k ec pd r (Some s) d m = told_at k pd r s (frame_for (address_space k ec) write_right s.address) d m

pub foreign_told : (k : KernelState) (ec g : ℕ) (r : ReachState) → r.nodes.delegations ≡ k.delegations → r.memory ≡ k.memory →
    option_and_then (foreign_at r (pd_of k g)) (write_by (address_space k ec) (instruction k ec)) ≡ foreign k ec g
foreign_told k ec g r d m = told_by k ec (pd_of k g) r (store_of (instruction k ec)) d m
