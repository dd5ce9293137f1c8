-- What a turn makes of stir counts: what its deed adds, what it stirs, and the charge.
use Rattle.law_forest.proofs.Boots.{sources_keep}
use Rattle.std.proofs.Common.{◌≡◌, ◌≤◌, ℕ, zero, suc, ◌+◌, List, [], ◌∷◌, ◌++◌, length, inl, inr, refl, ap, ◌∙◌, sym, subst, arith}
use Rattle.std.proofs.lemmas.List.{length-map}
use Rattle.std.specs.Prelude.{◌≢◌, Bool, true, false, if◌then◌else◌, is_some, option_and_then, option_map, slice_get, Option, Some, None}
use Rattle.nova_guest.specs.declared.input.Input.{Input}
use Rattle.nova_guest.specs.declared.input.Input.TheVariants as input
use Rattle.nova_objects.specs.declared.object.EcKind.TheVariants.{Vcpu}
use Rattle.nova_objects.specs.declared.object.Object.{Object}
use Rattle.nova_objects.specs.declared.object.Object.TheVariants.{Ec}
use Rattle.nova_model.specs.Boot.{Image, Scenario, bare, boot, with_image, with_images}
use Rattle.nova_model.specs.Capabilities.{is_vcpu}
use Rattle.nova_model.specs.Choice.{Candidate, next_to_act}
use Rattle.nova_model.specs.Creation.{stir_count_of, object_of}
use Rattle.nova_model.specs.Deeds.{deed}
use Rattle.nova_model.specs.Guests as turns
use Rattle.nova_model.specs.Guests.{input_by}
use Rattle.nova_model.specs.Inputs.{is_outside, is_stirred, only_if}
use Rattle.nova_model.specs.Runs.{after, run}
use Rattle.nova_model.specs.State.{KernelState, entry}
use Rattle.nova_model.specs.declared.deed.Deed.{Deed}
use Rattle.nova_model.specs.declared.deed.Deed.TheVariants.{Makes, Opens}
use Rattle.nova_model.specs.declared.new_object.NewObject.{NewObject}
use Rattle.nova_model.specs.declared.new_object.NewObject.TheVariants as new
use Rattle.nova_model.specs.declared.root.Root.{Root}
use Rattle.nova_model.specs.declared.event.Event.{Event}
use Rattle.law_forest.specs.Effects.{Effect, applied, effect, joined, passing_effect}
use Rattle.law_forest.specs.Turns.{Acts, IsTurning, Turning, acting, settled, stirred_counts, turned, Passes, passing}
use Rattle.law_forest.proofs.Stirred.{calm_by}
use Rattle.law_forest.proofs.Turning.{after_keeps, outcome, passing_none}
use Rattle.law_turns.specs.Stirs.{AreWithinTurns, stirs_of}
use Rattle.law_turns.specs.Tables.{HasTables}
use Rattle.law_turns.proofs.TablesFit.{boot_run_fits}
use Rattle.law_turns.proofs.Setting.{entry_joined, entry_kept, get_joined, get_last}

-- A DEED

-- it leaves objects and counts, or makes one object, which is no input
data Counts (k : KernelState) (ec : ℕ) (d : Deed) (new : KernelState) : Type 0 where
  Stay : new.objects ≡ k.objects → new.stirs.guests ≡ k.stirs.guests → Counts k ec d new
  Join : (made : NewObject) → new.objects ≡ k.objects ++ object_of made ∷ [] → new.stirs.guests ≡ k.stirs.guests ++ stir_count_of (object_of made) ∷ [] →
      ((g : ℕ) → is_stirred k ec d g ≡ false) → Counts k ec d new

counts_by : (k : KernelState) (ec : ℕ) (d : Deed) → Counts k ec d (applied k (effect k ec d))
counts_by k ec (Makes call target made) = Join made refl refl (calm_by k ec (Makes call target made) refl (λ g. refl))
counts_by k ec (Opens target domain) = Join new.Pd refl refl (calm_by k ec (Opens target domain) refl (λ g. refl))
counts_by k ec other = Stay refl refl

-- A TURN

-- a count rises where the turn stirs
abbrev risen : (ℕ → Bool) → ℕ → ℕ → ℕ
risen stirs g count = if stirs g then count + 1 else count

counts_at : (stirs : ℕ → Bool) (n : ℕ) (counts : List (Option ℕ)) (i : ℕ) →
    entry (slice_get (stirred_counts stirs n counts) i) ≡ option_map (risen stirs (n + i)) (entry (slice_get counts i))
counts_at stirs n [] i = refl
counts_at stirs n (count ∷ counts) zero = ap (λ (m : ℕ). option_map (risen stirs m) count) (omega arith)
counts_at stirs n (count ∷ counts) (suc i) =
    counts_at stirs (n + 1) counts i ∙ ap (λ (m : ℕ). option_map (risen stirs m) (entry (slice_get counts i))) (omega arith)

stirs_after : (s : KernelState) (cpu : ℕ) (t : Turning) (g : ℕ) → stirs_of (settled s cpu t) g ≡ option_map (risen t.stirs g) (stirs_of s g)
stirs_after s cpu t g = counts_at t.stirs 0 s.stirs.guests g ∙ ap (λ (n : ℕ). option_map (risen t.stirs n) (stirs_of s g)) (omega arith)

still : (k s : KernelState) (ec g count : ℕ) (d : Deed) → Counts k ec d s → stirs_of k g ≡ Some count → stirs_of s g ≡ Some count
still k s ec g count d (Stay objects counts) is = ap (λ (cs : List (Option ℕ)). entry (slice_get cs g)) counts ∙ is
still k s ec g count d (Join made objects counts calm) is =
    ap (λ (cs : List (Option ℕ)). entry (slice_get cs g)) counts ∙ entry_kept k.stirs.guests (stir_count_of (object_of made)) g count is

-- what the turn is for it
abbrev pub outside : Option Input → Bool
outside o = is_some (option_and_then (λ i. only_if (is_outside i) i) o)

abbrev count_by : Bool → ℕ → ℕ
count_by test count = if test then count + 1 else count

turned_count : (k : KernelState) (cpu g count : ℕ) (t : Turning) (e : Event) → IsTurning k cpu t e → stirs_of k g ≡ Some count →
    stirs_of (turned k cpu t) g ≡ Some (count_by (outside (input_by k g (next_to_act k cpu))) count)
turned_count k cpu g count t e (Acts c chosen acts event) is =
    let d = deed k c.actor in
    let s = applied k (effect k c.actor d) in
    ap (λ (u : Turning). stirs_of (turned k cpu u) g) acts ∙ stirs_after s cpu (acting k c) g
    ∙ ap (λ (o : Option ℕ). option_map (risen (is_stirred k c.actor d) g) o) (still k s c.actor g count d (counts_by k c.actor d) is)
    ∙ ap (λ (o : Option Candidate). Some (count_by (outside (input_by k g o)) count)) (sym chosen)
turned_count k cpu g count t e (Passes p comes acts event) is =
    ap (λ (u : Turning). stirs_of (turned k cpu u) g) acts ∙ stirs_after (applied k (passing_effect k p)) cpu (passing k p) g ∙ ap (λ (o : Option ℕ). option_map (risen (λ n. false) g) o) is
    ∙ ap (λ (o : Option Candidate). Some (count_by (outside (input_by k g o)) count)) (sym (passing_none k cpu p comes))

input_counts : (k : KernelState) (cpu g count : ℕ) → stirs_of k g ≡ Some count → stirs_of (after k cpu) g ≡ Some (count_by (outside (turns.input k cpu g)) count)
unfolding turns.input
input_counts k cpu g count is =
    outcome (λ s o. stirs_of s g ≡ Some (count_by (outside (input_by k g (next_to_act k cpu))) count)) k cpu
    (λ none. is ∙ ap (λ (o : Option Candidate). Some (count_by (outside (input_by k g o)) count)) (sym none))
    (λ t e comes. turned_count k cpu g count t e comes is)

is_from_outside : (i : Input) → i ≢ input.Own → outside (Some i) ≡ true
is_from_outside input.Own other = absurd (other refl)
is_from_outside (input.Reply mtd words) other = refl
is_from_outside input.Recall other = refl
is_from_outside (input.Given base order rights frame contents) other = refl
is_from_outside (input.Taken base order) other = refl
is_from_outside (input.Foreign frame offset width value) other = refl
is_from_outside input.Sent other = refl
is_from_outside input.Died other = refl

-- A NEW ONE

guests_length : (k : KernelState) → HasTables k → length k.stirs.guests ≡ length k.objects
guests_length k h = sym (length-map k.stirs.guests is_some) ∙ ap length h.guests ∙ length-map k.objects is_vcpu

same_count : (stirs : ℕ → Bool) (g : ℕ) → stirs g ≡ false → (o : Option ℕ) → option_map (risen stirs g) o ≡ o
same_count stirs g calm None = refl
same_count stirs g calm (Some count) = rw calm refl

deed_begins : (k : KernelState) (ec cpu g : ℕ) (o : Object) (d : Deed) (t : Turning) → t.effect ≡ effect k ec d → ((n : ℕ) → t.stirs n ≡ is_stirred k ec d n) → HasTables k →
    slice_get k.objects g ≡ None → slice_get (applied k (effect k ec d)).objects g ≡ Some o → stirs_of (turned k cpu t) g ≡ stir_count_of o
deed_begins k ec cpu g o d t effects stirs h none there =
    stirs_after (applied k t.effect) cpu t g ∙ ap (λ (f : Effect). option_map (risen t.stirs g) (stirs_of (applied k f) g)) effects ∙ by_counts (counts_by k ec d)
  where
    by_counts : Counts k ec d (applied k (effect k ec d)) → option_map (risen t.stirs g) (stirs_of (applied k (effect k ec d)) g) ≡ stir_count_of o
    by_counts (Stay objects counts) =
        let both : None ≡ Some o = sym none ∙ ap (λ (os : List Object). slice_get os g) (sym objects) ∙ there in absurd (cc)
    by_counts (Join made objects counts calm) =
        elim (get_joined k.objects (object_of made) g o (ap (λ (os : List Object). slice_get os g) (sym objects) ∙ there)) [
          | inl old ↦ absurd (let both : None ≡ Some o = sym none ∙ old in cc)
          | inr new ↦
              same_count t.stirs g (stirs g ∙ calm g) (stirs_of (applied k (effect k ec d)) g)
              ∙ ap (λ (cs : List (Option ℕ)). entry (slice_get cs g)) counts
              ∙ ap (λ (n : ℕ). entry (slice_get (k.stirs.guests ++ stir_count_of (object_of made) ∷ []) n)) (new.0 ∙ sym (guests_length k h))
              ∙ ap entry (get_last k.stirs.guests (stir_count_of (object_of made))) ∙ ap stir_count_of new.1
        ]

turned_begins : (k : KernelState) (cpu g : ℕ) (o : Object) (t : Turning) (e : Event) → IsTurning k cpu t e → HasTables k → slice_get k.objects g ≡ None →
    slice_get (turned k cpu t).objects g ≡ Some o → stirs_of (turned k cpu t) g ≡ stir_count_of o
turned_begins k cpu g o t e (Acts c chosen acts event) h none some =
    deed_begins k c.actor cpu g o (deed k c.actor) t (ap (λ (u : Turning). u.effect) acts) (λ n. ap (λ (u : Turning). u.stirs n) acts) h none
    (sym (ap (λ (u : Turning). slice_get (turned k cpu u).objects g) acts) ∙ some)
turned_begins k cpu g o t e (Passes p comes acts event) h none some =
    absurd (let both : None ≡ Some o = sym none ∙ sym (ap (λ (u : Turning). slice_get (turned k cpu u).objects g) acts) ∙ some in cc)

turn_begins : (k : KernelState) (cpu g : ℕ) (o : Object) → HasTables k → slice_get k.objects g ≡ None → slice_get (after k cpu).objects g ≡ Some o →
    stirs_of (after k cpu) g ≡ stir_count_of o
turn_begins k cpu g o h none =
    outcome (λ s x. slice_get s.objects g ≡ Some o → stirs_of s g ≡ stir_count_of o) k cpu
    (λ idle some. absurd (let both : None ≡ Some o = sym none ∙ some in cc)) (λ t e comes some. turned_begins k cpu g o t e comes h none some)

-- WITHIN TURNS

risen_within : (test : Bool) (count turns : ℕ) → count ≤ turns → (if test then count + 1 else count) ≤ turns + 1
risen_within true count turns within = omega arith
risen_within false count turns within = omega arith

new_within : (o : Object) (count turns : ℕ) → stir_count_of o ≡ Some count → count ≤ turns
new_within (Ec pd cpu Vcpu event) count turns is = let none : 0 ≡ count = cc in omega arith
new_within other count turns is = absurd (cc)

joined_within : (counts : List (Option ℕ)) (made : Option NewObject) (turns : ℕ) → ((g count : ℕ) → entry (slice_get counts g) ≡ Some count → count ≤ turns) → (g count : ℕ) →
    entry (slice_get (joined counts (option_map (λ m. stir_count_of (object_of m)) made)) g) ≡ Some count → count ≤ turns
joined_within counts None turns h g count is = h g count is
joined_within counts (Some made) turns h g count is =
    elim (entry_joined counts (stir_count_of (object_of made)) g count is) [
      | inl old ↦ h g count old
      | inr new ↦ new_within (object_of made) count turns new.1
    ]

-- whatever a turn does
turned_within : (k : KernelState) (cpu : ℕ) (t : Turning) → AreWithinTurns k → AreWithinTurns (turned k cpu t)
turned_within k cpu t h g count is = by_count (stirs_of (applied k t.effect) g) refl (sym (stirs_after (applied k t.effect) cpu t g) ∙ is)
  where
    by_count : (o : Option ℕ) → stirs_of (applied k t.effect) g ≡ o → option_map (risen t.stirs g) o ≡ Some count → count ≤ k.turns + 1
    by_count None was now = absurd (cc)
    by_count (Some old) was now =
        let same : risen t.stirs g old ≡ count = cc in
        subst (λ (n : ℕ). n ≤ k.turns + 1) same (risen_within (t.stirs g) old k.turns (joined_within k.stirs.guests t.effect.made k.turns h g old was))

-- THE LAWS

pub counts_outside : (k : KernelState) (cpu g count : ℕ) (i : Input) → stirs_of k g ≡ Some count → turns.input k cpu g ≡ Some i → i ≢ input.Own →
    stirs_of (after k cpu) g ≡ Some (count + 1)
counts_outside k cpu g count i is comes other =
    input_counts k cpu g count is ∙ ap (λ (t : Bool). Some (count_by t count)) (ap outside comes ∙ is_from_outside i other)

pub counts_own : (k : KernelState) (cpu g count : ℕ) → stirs_of k g ≡ Some count → turns.input k cpu g ≡ Some input.Own → stirs_of (after k cpu) g ≡ Some count
counts_own k cpu g count is comes = input_counts k cpu g count is ∙ ap (λ (o : Option Input). Some (count_by (outside o) count)) comes

pub counts_nothing : (k : KernelState) (cpu g count : ℕ) → stirs_of k g ≡ Some count → turns.input k cpu g ≡ None → stirs_of (after k cpu) g ≡ Some count
counts_nothing k cpu g count is comes = input_counts k cpu g count is ∙ ap (λ (o : Option Input). Some (count_by (outside o) count)) comes

pub counts_begin : (s : Scenario) (turns : List ℕ) (cpu g pd its event : ℕ) → slice_get (run (boot s) turns).objects g ≡ None →
    slice_get (after (run (boot s) turns) cpu).objects g ≡ Some (Ec pd its Vcpu event) → stirs_of (after (run (boot s) turns) cpu) g ≡ Some 0
counts_begin s turns cpu g pd its event none some = turn_begins (run (boot s) turns) cpu g (Ec pd its Vcpu event) (boot_run_fits s turns).tables none some

pub within_kept : (k : KernelState) (cpu : ℕ) → AreWithinTurns k → AreWithinTurns (after k cpu)
within_kept k cpu h = after_keeps AreWithinTurns (λ s c t e is now. turned_within s c t now) k cpu h

pub within_begins : (cpus ram consoles : ℕ) (root : Root) → AreWithinTurns (bare cpus ram consoles root)
within_begins cpus ram consoles root zero count is = absurd (cc)
within_begins cpus ram consoles root (suc zero) count is = absurd (cc)
within_begins cpus ram consoles root (suc (suc zero)) count is = absurd (cc)
within_begins cpus ram consoles root (suc (suc (suc g))) count is = absurd (cc)

run_within : (k : KernelState) (turns : List ℕ) → AreWithinTurns k → AreWithinTurns (run k turns)
run_within k [] h = h
run_within k (cpu ∷ turns) h = run_within (after k cpu) turns (within_kept k cpu h)

images_within : (k : KernelState) (images : List Image) → AreWithinTurns k → AreWithinTurns (with_images k images)
images_within k [] h = h
images_within k (image ∷ images) h = images_within (with_image k image) images h

pub within_turns : (s : Scenario) (turns : List ℕ) → AreWithinTurns (run (boot s) turns)
within_turns s turns =
    run_within (boot s) turns
    (sources_keep AreWithinTurns (λ k source h. joined_within k.stirs.guests (Some (new.Sm 0)) k.turns h) (with_images (bare s.cpus s.ram s.consoles s.root) s.images) s.sources
    (images_within (bare s.cpus s.ram s.consoles s.root) s.images (within_begins s.cpus s.ram s.consoles s.root)))
