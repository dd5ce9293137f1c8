-- Soundness of alike states.
use Rattle.std.proofs.Common.{length, ap, sym, ◌∙◌, subst}
use Rattle.std.specs.Prelude.{option_map, slice_get}
use Rattle.nova_model.specs.Forest.{IsForest}
use Rattle.nova_model.specs.State.{KernelState, context, message}
use Rattle.nova_model.specs.Capabilities.{is_ec}
use Rattle.law_alike.specs.Alike.{IsAlike}
use Rattle.law_isolation.specs.Sound.{AreWhole, IsSound}
use Rattle.law_turns.specs.Keeping.{IsKept}

-- what is whole doesn't depend on what is counted
pub alike_sound : (s t : KernelState) → IsAlike s t → IsSound s → IsKept t → IsSound t
alike_sound s t alike sound kept = record {
  forest = subst IsForest (ap (λ (k : KernelState). k.delegations) alike.rest) sound.forest;
  kept = kept;
  whole = record {
    frames = subst AreWhole (ap (λ (k : KernelState). k.memory.ram) alike.rest) sound.whole.frames;
    messages = λ ec. sym (ap (λ (k : KernelState). length (message k ec)) alike.rest) ∙ sound.whole.messages ec;
    registers = λ ec is. sym (ap (λ (k : KernelState). length (context k ec).regs.x) alike.rest)
        ∙ sound.whole.registers ec (ap (λ (k : KernelState). option_map is_ec (slice_get k.objects ec)) alike.rest ∙ is);
    places = sym (ap (λ (k : KernelState). length k.contexts) alike.rest) ∙ sound.whole.places ∙ ap (λ (k : KernelState). length k.objects) alike.rest;
  };
}
