-- Pages of a machine that boots lead to frames, also when bytes were laid into RAM.
use Rattle.std.proofs.Common.{◌∙◌, sym, subst, ◌/◌, ◌%◌, ◌≡◌, ℕ, zero, suc, ◌+◌, ◌^◌, ◌≤◌, List, [], ◌∷◌, ◌++◌, refl, arith}
use Rattle.std.specs.Prelude.{slice_get, length, replicate, map}
use Rattle.std.specs.List.{AllByRecursion, range_with_len}
use Rattle.std.proofs.lemmas.List.{length-replicate}
use Rattle.std.proofs.Math.Pow.{pow_mono}
use Rattle.nova_model.specs.Boot.{laid, root_derivations, console_derivation, object_derivation}
use Rattle.nova_model.specs.Memory.{Memory, written}
use Rattle.nova_model.specs.declared.delegation.Derivation.{Derivation}
use Rattle.nova_frames.specs.Store.{FrameStore}
use Rattle.law_forest.proofs.Plain.{length-written_in}
use Rattle.nova_memory.specs.Reach.{LeadsToFrames, LeadToFrames}

-- an object is no page
object-leads : (frames consoles object rights : ℕ) → LeadsToFrames frames (object_derivation consoles object rights)
object-leads frames consoles object rights is = cc

-- the pages of the consoles lie after RAM
consoles-lead : (order consoles from count : ℕ) (rest : List Derivation) → from + count ≤ consoles → AllByRecursion (LeadsToFrames (2 ^ order + consoles)) rest →
    AllByRecursion (LeadsToFrames (2 ^ order + consoles)) (map (console_derivation order) (range_with_len from count) ++ rest)
consoles-lead order consoles from zero rest few others = others
consoles-lead order consoles from (suc count) rest few others = (λ is. omega arith, consoles-lead order consoles (from + 1) count rest (omega arith) others)

pub root_leads : (order consoles : ℕ) → order ≤ 14 → consoles ≤ 16 → LeadToFrames (2 ^ order + consoles) (root_derivations order consoles)
root_leads order consoles o c = record {
  few = let p : 2 ^ order ≤ 16384 = pow_mono o in omega arith;
  each = (
    λ is. omega arith,
    consoles-lead order consoles 0 consoles _ (omega arith)
        (object-leads (2 ^ order + consoles) consoles 0 1, (object-leads (2 ^ order + consoles) consoles 1 7, (object-leads (2 ^ order + consoles) consoles 2 1, tt))),
  );
}

pub laid_length : (m : Memory) (address : ℕ) (bytes : List ℕ) → length (laid m address bytes).ram ≡ length m.ram
laid_length m address [] = refl
laid_length m address (b ∷ bs) =
    laid_length (written m (address / 4096) (address % 4096) 1 b) (address + 1) bs
    ∙ length-written_in m (slice_get m.ram (address / 4096)) (address / 4096) (address % 4096) 1 b

pub laid_leads : (frames : FrameStore) (old : FrameStore) (address : ℕ) (bytes : List ℕ) (list : List Derivation) →
    frames ≡ record old { memory = laid old.memory address bytes } → LeadToFrames (length old.memory.ram + old.consoles) list →
    LeadToFrames (length frames.memory.ram + frames.consoles) list
laid_leads frames old address bytes list is placed =
    subst (λ (f : FrameStore). LeadToFrames (length f.memory.ram + f.consoles) list) (sym is)
    (subst (λ (n : ℕ). LeadToFrames (n + old.consoles) list) (sym (laid_length old.memory address bytes)) placed)

pub new_leads : (frames : FrameStore) (order consoles room : ℕ) → order ≤ 14 → consoles ≤ 16 →
    frames ≡ record { memory = record { ram = replicate (2 ^ order) (replicate 4096 0); log = [] }; consoles = consoles; room = room } →
    LeadToFrames (length frames.memory.ram + frames.consoles) (root_derivations order consoles)
new_leads frames order consoles room o c is =
    subst (λ (f : FrameStore). LeadToFrames (length f.memory.ram + f.consoles) (root_derivations order consoles)) (sym is)
    (subst (λ (n : ℕ). LeadToFrames (n + consoles) (root_derivations order consoles)) (sym (length-replicate (2 ^ order) (replicate 4096 0))) (root_leads order consoles o c))
