-- How a kernel begins: images and sources leave a state of boot, and a turn is counted.
use Rattle.std.proofs.Common.{◌≡◌, ℕ, zero, suc, ◌+◌, ◌≤◌, List, [], ◌∷◌, ◌++◌, refl, sym, ap, ◌∙◌, subst, arith}
use Rattle.std.specs.Prelude.{length, map, Option, None, option_and_then}
use Rattle.std.specs.List.{AllByRecursion}
use Rattle.std.proofs.lemmas.List.{length-append}
use Rattle.nova_model.specs.Boot.{Image, Scenario, bare, boot, laid, with_image, with_images}
use Rattle.nova_model.specs.Memory.{Memory}
use Rattle.nova_model.specs.Running.{revoke_by}
use Rattle.nova_model.specs.Runs.{after, run}
use Rattle.nova_model.specs.Sources.{Source, with_source, with_sources}
use Rattle.nova_model.specs.State.{KernelState}
use Rattle.nova_model.specs.Turn.{answer_of, turn}
use Rattle.nova_model.specs.declared.context.EcState.{EcState}
use Rattle.nova_model.specs.declared.root.Root.{Root}
use Rattle.nova_model.specs.declared.times.Alarm.{Alarm}
use Rattle.nova_model.specs.declared.times.AlarmState.{AlarmState}
use Rattle.nova_objects.specs.declared.object.Object.TheVariants.{Sm}
use Rattle.law_forest.specs.Turns.{Comes, Idles, Takes}
use Rattle.law_forest.proofs.Turning.{after_keeps, comes}
use Rattle.law_turns.proofs.Alarms.{source_more, turned_same}
use Rattle.law_turns.proofs.Setting.{more_at}
use Rattle.nova_times.specs.Kept.{IsAlarm}
use Rattle.law_isolation.proofs.Ranges.{sources_frames as sources_memory}
use Rattle.nova_kernel.specs.Begun.{AreCalm, IsAtBoot, IsBegun, sources_of}

-- WITHOUT IMAGES

bare_calm : (cpus ram consoles : ℕ) (root : Root) → AreCalm (bare cpus ram consoles root)
bare_calm cpus ram consoles root pd zero = refl
bare_calm cpus ram consoles root pd (suc zero) = refl
bare_calm cpus ram consoles root pd (suc (suc zero)) = refl
bare_calm cpus ram consoles root pd (suc (suc (suc ec))) = refl

pub bare_begun : (cpus ram consoles : ℕ) (root : Root) → consoles ≤ 16 → IsBegun (bare cpus ram consoles root)
bare_begun cpus ram consoles root few = record {
  boot = λ none. record {
    scenario = record { cpus = cpus; ram = ram; consoles = consoles; root = root; images = []; sources = [] };
    is = refl;
    derivations = omega (arith, few);
    alarms = omega arith;
    calm = bare_calm cpus ram consoles root;
  };
  sources = tt;
}

-- AN IMAGE MORE

images_more : (k : KernelState) (images : List Image) (i : Image) → with_images k (images ++ i ∷ []) ≡ with_image (with_images k images) i
images_more k [] i = refl
images_more k (x ∷ images) i = images_more (with_image k x) images i

sources_laid : (k : KernelState) (sources : List Source) (m : Memory) → with_sources (record k { memory = m }) sources ≡ record (with_sources k sources) { memory = m }
sources_laid k [] m = refl
sources_laid k (s ∷ sources) m = sources_laid (with_source k s) sources m

image_more : (b : Scenario) (i : Image) → boot (record b { images = b.images ++ i ∷ [] }) ≡ with_image (boot b) i
image_more b i =
    let k : KernelState = with_images (bare b.cpus b.ram b.consoles b.root) b.images in
    ap (λ (x : KernelState). with_sources x b.sources) (images_more (bare b.cpus b.ram b.consoles b.root) b.images i)
    ∙ sources_laid k b.sources (laid k.memory i.address i.bytes)
    ∙ ap (λ (m : Memory). record (with_sources k b.sources) { memory = laid m i.address i.bytes }) (sym (sources_memory k b.sources))

pub laid_begun : (k : KernelState) (address : ℕ) (bytes : List ℕ) → IsBegun k → IsBegun (record k { memory = laid k.memory address bytes })
laid_begun k address bytes h = record { boot = λ none. at (h.boot none); sources = h.sources }
  where
    i : Image
    i = record { address = address; bytes = bytes }

    at : IsAtBoot k → IsAtBoot (record k { memory = laid k.memory address bytes })
    at b = record {
      scenario = record b.scenario { images = b.scenario.images ++ i ∷ [] };
      is = ap (λ (x : KernelState). with_image x i) b.is ∙ sym (image_more b.scenario i);
      derivations = b.derivations;
      alarms = b.alarms;
      calm = b.calm;
    }

-- A SOURCE MORE

alarms_more : (P : Alarm → Type 0) (alarms : List AlarmState) (x : AlarmState) → AllByRecursion P (map (λ (a : AlarmState). a.alarm) alarms) → P x.alarm →
    AllByRecursion P (map (λ (a : AlarmState). a.alarm) (alarms ++ x ∷ []))
alarms_more P [] x all last = (last, tt)
alarms_more P (a ∷ alarms) x all last = (all.0, alarms_more P alarms x all.1 last)

pub source_begun : (k : KernelState) (s : Source) → k.turns ≡ 0 →
    IsAlarm (record { cpu = s.cpu; sm = length k.objects; first = s.first; period = s.period; count = s.count }) → IsBegun k → IsBegun (with_source k s)
source_begun k s none is h = record {
  boot = λ still. at (h.boot none);
  sources = alarms_more IsAlarm k.times.alarms new h.sources is;
}
  where
    new : AlarmState
    new = record { alarm = record { cpu = s.cpu; sm = length k.objects; first = s.first; period = s.period; count = s.count }; next = s.first; rings = 0 }

    at : IsAtBoot k → IsAtBoot (with_source k s)
    at b =
        let objects : length (k.objects ++ Sm ∷ []) ≡ length k.objects + 1 = length-append k.objects (Sm ∷ []) in
        let alarms = length-append k.times.alarms (new ∷ []) in record {
          scenario = record b.scenario { sources = b.scenario.sources ++ s ∷ [] };
          is = ap (λ (x : KernelState). with_source x s) b.is ∙ sym (source_more b.scenario s);
          derivations = let few = b.derivations in omega (arith, few, objects);
          alarms = let few = b.alarms in omega (arith, few, objects, alarms);
          calm = λ pd ec. more_at (λ (o : Option EcState). option_and_then (λ (x : EcState). revoke_by pd x.state) o ≡ None) k.contexts None ec (b.calm pd ec) (λ old. old);
        }

-- TURNS

after_sources : (k : KernelState) (cpu : ℕ) → sources_of (after k cpu) ≡ sources_of k
after_sources k cpu = after_keeps (λ (n : KernelState). sources_of n ≡ sources_of k) (turned_same k) k cpu refl

pub after_begun : (k : KernelState) (cpu : ℕ) → IsBegun k → IsBegun (after k cpu)
after_begun k cpu h = record {
  boot = by_turn (comes k cpu);
  sources = subst (AllByRecursion IsAlarm) (sym (after_sources k cpu)) h.sources;
}
  where
    by_turn : Comes k (after k cpu) cpu (answer_of (turn k cpu)) → (after k cpu).turns ≡ 0 → IsAtBoot (after k cpu)
    by_turn (Idles none no_moment same answer) zero_yet = subst IsAtBoot (sym same) (h.boot (sym (ap (λ (s : KernelState). s.turns) same) ∙ zero_yet))
    by_turn (Takes t e is state answer) zero_yet = let counted = ap (λ (s : KernelState). s.turns) state in absurd (omega (arith, counted, zero_yet))

pub run_begun : (k : KernelState) (turns : List ℕ) → IsBegun k → IsBegun (run k turns)
run_begun k [] h = h
run_begun k (cpu ∷ turns) h = run_begun (after k cpu) turns (after_begun k cpu h)
