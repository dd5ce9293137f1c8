-- Sources: semaphores of the root's that alarms up, made before any turn.
use Rattle.std.specs.Prelude.{ℕ, List, [], ◌∷◌, length}
use Rattle.nova_model.specs.Numbers.{CpuId}
use Rattle.nova_model.specs.Creation.{with_object}
use Rattle.nova_model.specs.State.{KernelState}
use Rattle.nova_model.specs.Times.{grown, with_alarm}
use Rattle.nova_model.specs.declared.new_object.NewObject.TheVariants as new

-- on which processor, when first, after how many ticks again, and how often
pub record Source : Type 0 where
  pub cpu : CpuId
  pub first : ℕ
  pub period : ℕ
  pub count : ℕ

-- one more: a semaphore of counter 0 as the next object, a derivation without parent in the root's protection domain, at the selector of its
-- number and with all rights, and an alarm on it
abbrev pub with_source : KernelState → Source → KernelState
with_source k s = record (with_object k 0 (length k.objects) (new.Sm 0)) {
  times = with_alarm (grown k.times) (record { cpu = s.cpu; sm = length k.objects; first = s.first; period = s.period; count = s.count });
}

abbrev pub with_sources : KernelState → List Source → KernelState
with_sources k [] = k
with_sources k (s ∷ sources) = with_sources (with_source k s) sources
