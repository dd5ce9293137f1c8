-- A side with all numbers that no object has yet, in a state in which it is partitioned off with what is there.
use Rattle.std.proofs.Common.{arith, ◌≡◌, ◌<◌, ℕ, ◌+◌, suc, List, [], ◌∷◌, ◌++◌, length, refl, sym, ap, ◌∙◌, subst, inl, inr}
use Rattle.std.specs.Prelude.{◌||◌, ◌≤◌, Bool, true, false, nat_le, option_map, slice_get, Option, Some, None}
use Rattle.std.proofs.lemmas.Bool.Decides.{nat_tests}
use Rattle.std.proofs.lemmas.Option.{slice_get_within}
use Rattle.nova_objects.specs.declared.object.EcKind.{EcKind}
use Rattle.nova_objects.specs.declared.object.Object.{Object}
use Rattle.nova_objects.specs.declared.object.Object.TheVariants.{Ec, Pd, Pt, Sc, Sm}
use Rattle.nova_model.specs.Lines.{line}
use Rattle.nova_model.specs.State.{KernelState}
use Rattle.law_forest.proofs.Members.{contains_from_in, in_from_contains}
use Rattle.law_turns.specs.Tables.{Refers, cpu_of}
use Rattle.law_isolation.specs.Sound.{IsSound}
use Rattle.law_integrity.specs.Confined.{IsOwned, Of}
use Rattle.law_integrity.proofs.Edges.{at_index}
use Rattle.law_integrity.proofs.Homes.{AreHomed}
use Rattle.law_flow.specs.Flow.{DerivesWithin, IsCreatingAlone, IsPartitioned, domains, existing}
use Rattle.law_flow.specs.Processors.{IsDivided}
use Rattle.law_flow.proofs.Existing.{domain_at, existing_below, in_domains, in_existing, is_below, of_domains, of_existing}
use Rattle.law_flow.proofs.Leaving.{some_there}
use Rattle.law_flow.proofs.Sets.{AreOneSet, apart_as, line_in, owned_as}
use Rattle.law_flow.proofs.Guarding.{alarm_was}
use Rattle.law_flow.proofs.Numbers.{grows}
use Rattle.nova_flowing.specs.Working.{widened}
use Rattle.nova_model.specs.Boot.{Image, Scenario, bare, boot, with_image, with_images}
use Rattle.nova_model.specs.Creation.{object_of}
use Rattle.nova_model.specs.Runs.{after, run}
use Rattle.nova_model.specs.Sources.{Source, with_source, with_sources}
use Rattle.nova_model.specs.declared.times.Alarm.{Alarm}
use Rattle.nova_model.specs.declared.new_object.NewObject.{NewObject}
use Rattle.nova_model.specs.declared.times.AlarmState.{AlarmState}
use Rattle.law_forest.specs.Effects.{joined}
use Rattle.law_turns.proofs.Setting.{get_joined, joined_length}
use Rattle.law_origins.proofs.Lists.{by_turns, run_append}

past_true : (n m : ℕ) → m ≤ n → nat_le m n ≡ true
past_true n m h = grind (arith, nat_tests, h)

or_left : (t u : Bool) → t ≡ true → (t || u) ≡ true
or_left true u h = refl
or_left false u h = absurd (cc)

or_right : (t u : Bool) → u ≡ true → (t || u) ≡ true
or_right true u h = refl
or_right false u h = h

below_one : (t : Bool) (n m : ℕ) → (t || nat_le m n) ≡ true → n < m → t ≡ true
below_one true n m h below = refl
below_one false n m h below = absurd (grind (arith, nat_tests, h, below))

-- ALARMS RING AT WHAT IS THERE

abbrev RingThere : KernelState → Type 0
RingThere k = (n : ℕ) (a : AlarmState) → slice_get k.times.alarms n ≡ Some a → a.alarm.sm < length k.objects

source_rings : (k : KernelState) (s : Source) → RingThere k → RingThere (with_source k s)
source_rings k s old n a at = elim (get_joined k.times.alarms _ n a at) [
  | inl was ↦ let below = old n a was in let longer : length (with_source k s).objects ≡ length k.objects + 1 = joined_length k.objects Sm in omega (arith, below, longer)
  | inr one ↦ let its : length k.objects ≡ a.alarm.sm = ap (λ (x : AlarmState). x.alarm.sm) one.1 in let longer : length (with_source k s).objects ≡ length k.objects + 1 = joined_length k.objects Sm in omega (arith, its, longer)
]

sources_ring : (k : KernelState) (sources : List Source) → RingThere k → RingThere (with_sources k sources)
sources_ring k [] old = old
sources_ring k (s ∷ sources) old = sources_ring (with_source k s) sources (source_rings k s old)

images_ring : (k : KernelState) (images : List Image) → RingThere k → RingThere (with_images k images)
images_ring k [] old = old
images_ring k (image ∷ images) old = images_ring (with_image k image) images old

begins_there : (s : Scenario) → RingThere (boot s)
begins_there s = sources_ring (with_images (bare s.cpus s.ram s.consoles s.root) s.images) s.sources (images_ring (bare s.cpus s.ram s.consoles s.root) s.images (λ n a at. absurd (cc)))

-- objects are never fewer
as_many : (k : KernelState) (cpu : ℕ) → length k.objects ≤ length (after k cpu).objects
as_many k cpu = by_made (grows k cpu).made (grows k cpu).objects
  where
    by_made : (o : Option NewObject) → (after k cpu).objects ≡ joined k.objects (option_map object_of o) → length k.objects ≤ length (after k cpu).objects
    by_made None is = let same = ap (λ (os : List Object). length os) is in omega (arith, same)
    by_made (Some made) is =
        let more : length (after k cpu).objects ≡ length k.objects + 1 = ap (λ (os : List Object). length os) is ∙ joined_length k.objects (object_of made) in omega (arith, more)

pub rung_there : (s : Scenario) (turns : List ℕ) → RingThere (run (boot s) turns)
rung_there s = by_turns (λ turns. RingThere (run (boot s) turns)) (begins_there s) later
  where
    later : (turns : List ℕ) (cpu : ℕ) → RingThere (run (boot s) turns) → RingThere (run (boot s) (turns ++ cpu ∷ []))
    later turns cpu old =
        subst RingThere (sym (run_append (boot s) turns (cpu ∷ []))) (λ n a at.
        let was = alarm_was s turns cpu n a at in
        let below = old n was.0 was.1 in
        let same : was.0.alarm.sm ≡ a.alarm.sm = ap (λ (x : Alarm). x.sm) was.2 in
        let many = as_many (run (boot s) turns) cpu in
        omega (arith, below, same, many))

-- THE SIDE

module _ (k : KernelState) (sound : IsSound k) (homed : AreHomed k) (S T P C : ℕ → Bool) (c : IsPartitioned k (Of S) (Of T) (Of P)) where
  up : (Q : ℕ → Bool) (n : ℕ) → Q n ≡ true → widened k Q n ≡ true
  up Q n q = or_left (Q n) (nat_le (length k.objects) n) q

  past : (Q : ℕ → Bool) (n : ℕ) → length k.objects ≤ n → widened k Q n ≡ true
  past Q n from = or_right (Q n) (nat_le (length k.objects) n) (past_true n (length k.objects) from)

  down : (Q : ℕ → Bool) (n : ℕ) → n < length k.objects → widened k Q n ≡ true → Q n ≡ true
  down Q n below q = below_one (Q n) n (length k.objects) q below

  -- of what is there nothing is new
  own : (n : ℕ) (o : Object) → slice_get k.objects n ≡ Some o → (Q : ℕ → Bool) → widened k Q n ≡ true → Q n ≡ true
  own n o at Q q = down Q n (slice_get_within k.objects n o at) q

  home : (n pd cpu : ℕ) (kind : EcKind) (event : ℕ) → slice_get k.objects n ≡ Some (Ec pd cpu kind event) → slice_get k.objects pd ≡ Some Pd
  home n pd cpu kind event is = at_index (Refers k.objects) k.objects n (Ec pd cpu kind event) sound.kept.tables.refer is

  member_own : (n pd cpu : ℕ) (kind : EcKind) (event : ℕ) → slice_get k.objects n ≡ Some (Ec pd cpu kind event) → widened k S pd ≡ true → S pd ≡ true
  member_own n pd cpu kind event is s = own pd Pd (home n pd cpu kind event is) S s

  one : AreOneSet (Of S) (Of (domains k (widened k S)))
  one = record {
    to = λ n s. in_domains k (widened k S) n (up S n s) (c.apart.separate.first.there n s);
    from = λ n s. own n Pd (domain_at k (widened k S) n s) S (of_domains k (widened k S) n s);
  }

  into : (n : ℕ) → P n ≡ true → existing k (widened k P) n ≡ true
  into n p = let at = some_there (slice_get k.objects n) (c.guarded.there n p) in in_existing k (widened k P) n (up P n p) (slice_get_within k.objects n at.0 at.1)

  back : (n : ℕ) → existing k (widened k P) n ≡ true → P n ≡ true
  back n q = down P n (is_below n (length k.objects) (existing_below k (widened k P) n q)) (of_existing k (widened k P) n q)

  pub widened_partitioned : IsPartitioned k (Of (domains k (widened k S))) (Of T) (Of (existing k (widened k P)))
  widened_partitioned = record {
    apart = apart_as k (Of S) (Of (domains k (widened k S))) (Of T) one c.apart;
    side = record {
      holds = λ d there s kind. into d.target (c.side.holds d there (one.from d.pd s) kind);
      handlers = λ n handler mtd ip p is. into handler (c.side.handlers n handler mtd ip (back n p) is);
      edges = λ n handler p is. into handler (c.side.edges n handler (back n p) is);
      callers = λ n caller mark p is. into caller (c.side.callers n caller mark (back n p) is);
      queues = λ sm n p is. into n (c.side.queues sm n (back sm p) is);
      blocked = λ n sm p is. into sm (c.side.blocked n sm (back n p) is);
      members = λ n pd cpu kind event is s. into n (c.side.members n pd cpu kind event is (one.from pd s));
    };
    guarded = record {
      there = λ n p. c.guarded.there n (back n p);
      owned = λ n p. owned_as k (Of S) (Of (domains k (widened k S))) one.to n (slice_get k.objects n) (c.guarded.owned n (back n p));
      semaphores = λ n p is h. c.guarded.semaphores n (back n p) is h;
      lines = λ d a there s above t. c.guarded.lines d a there (one.from d.pd s) above t;
      memory = λ pd page to s leads r. c.guarded.memory pd page to (one.from pd s) leads r;
    };
  }

  -- who is of its part is of its domains
  part_member : (n pd cpu : ℕ) (kind : EcKind) (event : ℕ) → slice_get k.objects n ≡ Some (Ec pd cpu kind event) → P n ≡ true → S pd ≡ true
  part_member n pd cpu kind event is p = subst (IsOwned k (Of S) n) is (c.guarded.owned n p)

  module _ (d : IsDivided k (Of S) (Of T) (Of P) (Of C)) (rung : (n : ℕ) (a : AlarmState) → slice_get k.times.alarms n ≡ Some a → a.alarm.sm < length k.objects) where
    pub widened_alone : IsCreatingAlone k (Of (widened k S)) (Of (widened k P))
    widened_alone = record {
      objects = λ n from. past P n from;
      domains = λ n from. past S n from;
      members = λ n pd cpu kind event is s. up P n (c.side.members n pd cpu kind event is (member_own n pd cpu kind event is s));
      schedules = λ n donor cpu priority quantum is p. up P n (by_donor n donor cpu priority quantum is (slice_get k.objects donor) refl (at_index (Refers k.objects) k.objects n (Sc donor cpu priority quantum) sound.kept.tables.refer is) p);
    }
      where
        by_donor : (n donor cpu priority quantum : ℕ) → slice_get k.objects n ≡ Some (Sc donor cpu priority quantum) → (o : Option Object) → slice_get k.objects donor ≡ o → cpu_of o ≡ Some cpu →
            widened k P donor ≡ true → P n ≡ true
        by_donor n donor cpu priority quantum is (Some (Ec pd its kind event)) at refers p =
            d.has.schedules n donor cpu priority quantum is (record {
              domain = pd;
              cpu = its;
              kind = kind;
              event = event;
              object = at;
              of = part_member donor pd its kind event at (own donor (Ec pd its kind event) at P p);
            })
        by_donor n donor cpu priority quantum is (Some Pd) at refers p = absurd (cc)
        by_donor n donor cpu priority quantum is (Some (Sc of its urgency turns)) at refers p = absurd (cc)
        by_donor n donor cpu priority quantum is (Some (Pt handler mtd ip)) at refers p = absurd (cc)
        by_donor n donor cpu priority quantum is (Some Sm) at refers p = absurd (cc)
        by_donor n donor cpu priority quantum is None at refers p = absurd (cc)

    pub widened_divided : IsDivided k (Of (widened k S)) (Of T) (Of (widened k P)) (Of C)
    widened_divided = record {
      has = record {
        contexts = λ n pd cpu kind event is s. d.has.contexts n pd cpu kind event is (member_own n pd cpu kind event is s);
        schedules = λ n donor cpu priority quantum is m. up P n (d.has.schedules n donor cpu priority quantum is (record {
          domain = m.domain;
          cpu = m.cpu;
          kind = m.kind;
          event = m.event;
          object = m.object;
          of = member_own donor m.domain m.cpu m.kind m.event m.object m.of;
        }));
        rings = λ n a at p. d.has.rings n a at (down P a.alarm.sm (rung n a at) p);
      };
      others = d.others;
      creates = d.creates;
    }

  pub widened_derives : DerivesWithin k (Of S) → DerivesWithin k (Of (widened k S))
  widened_derives within x a there above s =
      let i = line_in k.delegations.list (suc x.id) x a (in_from_contains k.delegations.list x there) (in_from_contains (line k.delegations.list x) a above) in
      up S x.pd (within x a there above (own a.pd Pd (homed.holders a (contains_from_in k.delegations.list a i)) S s))
