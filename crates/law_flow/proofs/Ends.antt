-- What two runs of a side that is at home come to.
use Rattle.std.proofs.Common.{◌≡◌, ℕ, List, sym, ap, ◌∙◌}
use Rattle.std.specs.Prelude.{Bool, true, filter, Option}
use Rattle.nova_model.specs.Boot.{Scenario, boot}
use Rattle.nova_model.specs.Runs.{run, trace}
use Rattle.nova_model.specs.State.{KernelState}
use Rattle.nova_model.specs.Times.{alarm_sm}
use Rattle.nova_model.specs.declared.times.AlarmState.{AlarmState}
use Rattle.law_integrity.specs.Confined.{Of}
use Rattle.law_flow.specs.Flow.{AreAlike, AreAtWork, Allowed}
use Rattle.law_flow.specs.Processors.{AreAlikeAtHome, IsDivided, RingWithin, StayOn, events_on, rings_within}
use Rattle.law_flow.proofs.Apart.{IsKeptApart}
use Rattle.law_flow.proofs.Away.{GoesHome, home_runs}
use Rattle.law_flow.proofs.Divided.{goes_divided}
use Rattle.law_flow.proofs.Home.{AreTogether}
use Rattle.law_flow.proofs.Ringing.{RingThere, unfound_none}
use Rattle.law_flow.proofs.Second.{there_second}

-- of all alarms those that ring within the part do; and all do, where they are to
within_there : (k : KernelState) (P C : ℕ → Bool) → RingThere (rings_within P k) k P C
within_there k P C = λ n a at c within. sym (ap (λ (o : Option AlarmState). P (alarm_sm o)) at) ∙ within

all_there : (k : KernelState) (P C : ℕ → Bool) → RingWithin k (Of P) (Of C) → RingThere (λ n. true) k P C
all_there k P C within = λ n a at c it. within n a at c

pub at_home_ends : (allowed : Allowed) (S P C : ℕ → Bool) (ts us : List ℕ) (k l : KernelState) (T U : ℕ → Type 0) → GoesHome allowed.creates k S P C T ts → AreAtWork allowed S k ts → GoesHome allowed.creates l S P C U us → AreAlike k l (Of S) (Of P) →
    AreTogether allowed k l S P C → filter C ts ≡ filter C us → AreAlikeAtHome k l ts us S P C
at_home_ends allowed S P C ts us k l T U goes works also alike together same =
    let ends = home_runs (rings_within P k) allowed S P C ts us k l T U (within_there k P C) goes works also alike together same in
    record {
      part = ends.alike;
      times = ends.timed;
      deeds = ends.deeds;
      bytes = ends.bytes;
      told = ends.events;
      events = λ within.
          let all = home_runs (λ n. true) allowed S P C ts us k l T U (all_there k P C within) goes works also alike together same in
          sym (unfound_none (events_on C (trace l us))) ∙ all.events ∙ unfound_none (events_on C (trace k ts));
    }

pub divided_ends : (allowed : Allowed) (a b : Scenario) (before since turns others : List ℕ) (S P C : ℕ → Bool) (T U : ℕ → Type 0) → IsKeptApart allowed.creates (run (boot a) before) S P T → IsKeptApart allowed.creates (run (boot b) since) S P U →
    IsDivided (run (boot a) before) (Of S) T (Of P) (Of C) → IsDivided (run (boot b) since) (Of S) U (Of P) (Of C) → AreAlike (run (boot a) before) (run (boot b) since) (Of S) (Of P) →
    AreTogether allowed (run (boot a) before) (run (boot b) since) S P C → (allowed.creates ≡ true → StayOn S C (run (boot a) before) turns) → AreAtWork allowed S (run (boot a) before) turns → filter C turns ≡ filter C others →
    AreAlikeAtHome (run (boot a) before) (run (boot b) since) turns others S P C
divided_ends allowed a b before since turns others S P C T U first second divided also alike together stays works same =
    let k = run (boot a) before in
    let l = run (boot b) since in
    let goes = goes_divided allowed a before turns S P C T first divided (λ yes. (together.within yes).first) works stays in
    let there = there_second allowed b since others S P C U k T turns second also goes works stays alike together same in
    at_home_ends allowed S P C turns others k l T U goes works (goes_divided allowed b since others S P C U second also (λ yes. (together.within yes).second) there.0 there.1) alike together same
