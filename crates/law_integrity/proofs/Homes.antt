-- Delegations are of domains that are there, and lead to objects that are there.
use Rattle.std.proofs.Common.{◌≡◌, ℕ, List, [], ◌∷◌, ◌++◌, ◌⊎◌, length, refl, sym, ap, ◌∙◌, subst, inl, inr}
use Rattle.std.specs.Prelude.{true, Contains, is_some, map, slice_get, Option, Some, None, option_map}
use Rattle.std.specs.List.{range_with_len}
use Rattle.nova_model.specs.declared.root.Root.{Root}
use Rattle.nova_objects.specs.declared.object.EcKind.TheVariants.{Global}
use Rattle.nova_objects.specs.declared.object.Object.{Object}
use Rattle.nova_objects.specs.declared.object.Object.TheVariants.{Pd, Ec, Sc, Pt, Sm}
use Rattle.nova_range.specs.declared.range.Kind.TheVariants.{Mem, Obj}
use Rattle.law_isolation.specs.Sound.{IsSound}
use Rattle.law_isolation.proofs.Runs.{reached_sound}
use Rattle.law_turns.specs.Tables.{HasTables, Refers}
use Rattle.law_turns.proofs.Serving.{IsActor, awaited}
use Rattle.law_turns.proofs.TablesKept.{context_is}
use Rattle.nova_model.specs.Boot.{Image, Scenario, bare, boot, console_derivation, object_derivation, ram_derivation, root_derivations, root_objects, with_image, with_images}
use Rattle.nova_model.specs.Capabilities.{is_ec}
use Rattle.nova_model.specs.Creation.{root_capability}
use Rattle.nova_model.specs.Runs.{after, run}
use Rattle.nova_model.specs.Sources.{Source, with_source}
use Rattle.nova_model.specs.State.{KernelState, context, context_at, pd_in, pd_of}
use Rattle.nova_model.specs.declared.context.EcState.{EcState}
use Rattle.nova_model.specs.declared.context.State.TheVariants.{Granting}
use Rattle.nova_model.specs.declared.delegation.Derivation.{Derivation}
use Rattle.law_forest.proofs.Boots.{sources_keep}
use Rattle.law_forest.proofs.Members.{IsIn, contains_from_in, in_from_contains}
use Rattle.law_turns.proofs.Setting.{get_kept, get_last}
use Rattle.law_origins.proofs.Coming.{came}
use Rattle.law_origins.proofs.Lists.{by_turns, run_append}
use Rattle.law_origins.proofs.Origins.{boot_plain, opened_now}
use Rattle.law_integrity.specs.Rights.{GivesFirst, GivesTo, RepliesWith, TakesOfCaller}
use Rattle.law_integrity.proofs.Confining.{Child, Newest, Old, Whence, acting_one, child_target, in_more, newest_object, object_kept, order_none, whence}
use Rattle.law_integrity.proofs.Edges.{at_index}

pub record AreHomed (k : KernelState) : Type 0 where
  pub holders : (d : Derivation) → Contains k.delegations.list d → slice_get k.objects d.pd ≡ Some Pd
  pub targets : (d : Derivation) → Contains k.delegations.list d → d.kind ≡ Obj → (o : Object) × (slice_get k.objects d.target ≡ Some o)
  pub opened : (ec new : ℕ) → (context k ec).state ≡ Granting (Some new) → slice_get k.objects new ≡ Some Pd

-- the domain of an execution context that is there
pub home_there : (k : KernelState) (ec : ℕ) → HasTables k → is_some (context_at k ec) ≡ true → slice_get k.objects (pd_of k ec) ≡ Some Pd
home_there k ec tables there = by_object (slice_get k.objects ec) refl (context_is k ec there tables)
  where
    by_object : (o : Option Object) → slice_get k.objects ec ≡ o → option_map is_ec o ≡ Some true → slice_get k.objects (pd_in o) ≡ Some Pd
    by_object None at h = absurd (cc)
    by_object (Some Pd) at h = absurd (cc)
    by_object (Some (Ec pd cpu kind event)) at h = at_index (Refers k.objects) k.objects ec (Ec pd cpu kind event) tables.refer at
    by_object (Some (Sc e cpu priority quantum)) at h = absurd (cc)
    by_object (Some (Pt e mtd ip)) at h = absurd (cc)
    by_object (Some Sm) at h = absurd (cc)

pub receiver_there : (k : KernelState) (ec giver receiver : ℕ) → IsSound k → AreHomed k → IsActor k.contexts ec → GivesTo k ec giver receiver → slice_get k.objects receiver ≡ Some Pd
receiver_there k ec giver receiver sound homed actor (TakesOfCaller caller mark state serves g r) =
    subst (λ (n : ℕ). slice_get k.objects n ≡ Some Pd) r (home_there k ec sound.kept.tables (ap (λ (o : Option EcState). is_some o) actor.there))
receiver_there k ec giver receiver sound homed actor (RepliesWith caller mark state serves g r) =
    let there = (awaited _ k.contexts ec caller mark actor serves sound.kept.served).there in
    subst (λ (n : ℕ). slice_get k.objects n ≡ Some Pd) r (home_there k caller sound.kept.tables (ap (λ (o : Option EcState). is_some o) there))
receiver_there k ec giver receiver sound homed actor (GivesFirst state g) = homed.opened ec receiver state

homed_after : (k : KernelState) (cpu : ℕ) → IsSound k → AreHomed k → AreHomed (after k cpu)
homed_after k cpu sound homed = record {
  holders = λ d there. holder d (whence k cpu d sound.forest there);
  targets = λ d there kind. target d kind (whence k cpu d sound.forest there);
  opened = λ ec new is. opened ec new is;
}
  where
    holder : (d : Derivation) → Whence k cpu d → slice_get (after k cpu).objects d.pd ≡ Some Pd
    holder d (Old there) = object_kept k cpu d.pd Pd (homed.holders d there)
    holder d (Newest ec acts_ object first objects) =
        object_kept k cpu d.pd Pd (subst (λ (n : ℕ). slice_get k.objects n ≡ Some Pd) first.creator.held (homed.holders first.creator.capability first.creator.there))
    holder d (Child ec acts_ source there within gives) = object_kept k cpu d.pd Pd (receiver_there k ec source.pd d.pd sound homed (acting_one k cpu ec acts_) gives)

    target : (d : Derivation) → d.kind ≡ Obj → Whence k cpu d → (o : Object) × (slice_get (after k cpu).objects d.target ≡ Some o)
    target d kind (Old there) = let o = homed.targets d there kind in (o.0, object_kept k cpu d.target o.0 o.1)
    target d kind (Newest ec acts_ object first objects) =
        (object, ap (slice_get (after k cpu).objects) first.target ∙ newest_object k cpu object objects)
    target d kind (Child ec acts_ source there within gives) =
        let its : source.kind ≡ Obj = sym within.kind ∙ kind in
        let o = homed.targets source there its in
        (o.0, ap (slice_get (after k cpu).objects) (child_target d source its (order_none k source sound.forest there its) within) ∙ object_kept k cpu source.target o.0 o.1)

    opened : (ec new : ℕ) → (context (after k cpu) ec).state ≡ Granting (Some new) → slice_get (after k cpu).objects new ≡ Some Pd
    opened ec new is = elim (came k cpu ec (Granting (Some new)) tt is) [
      | inl before ↦ object_kept k cpu new Pd (homed.opened ec new before)
      | inr now ↦ (opened_now k cpu ec new now.0 now.1).1
    ]

-- AT BOOT

pub in_mapped : {A B : Type 0} (P : B → Type 0) (f : A → B) (xs : List A) (y : B) → ((x : A) → P (f x)) → IsIn (map f xs) y → P y
in_mapped P f [] y holds i = absurd i
in_mapped P f (x ∷ xs) y holds (inl same) = subst P same (holds x)
in_mapped P f (x ∷ xs) y holds (inr later) = in_mapped P f xs y holds later

pub in_appended : {T : Type 0} (P : T → Type 0) (xs ys : List T) (y : T) → (IsIn xs y → P y) → (IsIn ys y → P y) → IsIn (xs ++ ys) y → P y
in_appended P [] ys y left right i = right i
in_appended P (x ∷ xs) ys y left right (inl same) = left (inl same)
in_appended P (x ∷ xs) ys y left right (inr later) = in_appended P xs ys y (λ i. left (inr i)) right later

abbrev IsHome : Root → Derivation → Type 0
IsHome root d = (slice_get (root_objects root) d.pd ≡ Some Pd) × (d.kind ≡ Obj → (o : Object) × (slice_get (root_objects root) d.target ≡ Some o))

of_memory : (root : Root) (d : Derivation) → d.pd ≡ 0 → d.kind ≡ Mem → IsHome root d
of_memory root d pd kind = (ap (slice_get (root_objects root)) pd, λ is. absurd (let none : Mem ≡ Obj = sym kind ∙ is in cc))

root_home : (order consoles : ℕ) (root : Root) (d : Derivation) → IsIn (root_derivations order consoles) d → IsHome root d
root_home order consoles root d i =
    in_appended (IsHome root) (ram_derivation order ∷ map (console_derivation order) (range_with_len 0 consoles)) _ d frames objects i
  where
    frames : IsIn (ram_derivation order ∷ map (console_derivation order) (range_with_len 0 consoles)) d → IsHome root d
    frames (inl same) = subst (IsHome root) same (of_memory root (ram_derivation order) refl refl)
    frames (inr later) = in_mapped (IsHome root) (console_derivation order) (range_with_len 0 consoles) d (λ c. of_memory root (console_derivation order c) refl refl) later

    objects : IsIn (object_derivation consoles 0 1 ∷ object_derivation consoles 1 7 ∷ object_derivation consoles 2 1 ∷ []) d → IsHome root d
    objects (inl same) = subst (IsHome root) same (refl, λ kind. (Pd, refl))
    objects (inr (inl same)) = subst (IsHome root) same (refl, λ kind. (Ec 0 0 Global 16, refl))
    objects (inr (inr (inl same))) = subst (IsHome root) same (refl, λ kind. (Sc 1 0 root.priority root.quantum, refl))
    objects (inr (inr (inr none))) = absurd none

-- of each derivation, as boot makes them
abbrev AllHome : KernelState → Type 0
AllHome k = (d : Derivation) → Contains k.delegations.list d → (slice_get k.objects d.pd ≡ Some Pd) × (d.kind ≡ Obj → (o : Object) × (slice_get k.objects d.target ≡ Some o))

-- the root's domain is there, and so is all that it holds
pub record IsRootHome (k : KernelState) : Type 0 where
  pub root : slice_get k.objects 0 ≡ Some Pd
  pub all : AllHome k

images_rooted : (k : KernelState) (images : List Image) → IsRootHome k → IsRootHome (with_images k images)
images_rooted k [] h = h
images_rooted k (image ∷ images) h = images_rooted (with_image k image) images (record { root = h.root; all = h.all })

source_rooted : (k : KernelState) (source : Source) → IsRootHome k → IsRootHome (with_source k source)
source_rooted k source h = record {
  root = get_kept k.objects Sm 0 Pd h.root;
  all = λ d there. by_list d (in_more k.delegations.list (root_capability k 0 (length k.objects) Sm) d (in_from_contains _ d there));
}
  where
    by_list : (d : Derivation) → IsIn k.delegations.list d ⊎ (root_capability k 0 (length k.objects) Sm ≡ d) →
        (slice_get (with_source k source).objects d.pd ≡ Some Pd) × (d.kind ≡ Obj → (o : Object) × (slice_get (with_source k source).objects d.target ≡ Some o))
    by_list d (inl i) =
        let its = h.all d (contains_from_in k.delegations.list d i) in
        (get_kept k.objects Sm d.pd Pd its.0, λ kind. let o = its.1 kind in (o.0, get_kept k.objects Sm d.target o.0 o.1))
    by_list d (inr same) =
        subst (λ (d : Derivation). (slice_get (with_source k source).objects d.pd ≡ Some Pd) × (d.kind ≡ Obj → (o : Object) × (slice_get (with_source k source).objects d.target ≡ Some o))) same
        (get_kept k.objects Sm 0 Pd h.root, λ kind. (Sm, get_last k.objects Sm))

boot_homed : (s : Scenario) → AreHomed (boot s)
boot_homed s =
    let home : IsRootHome (boot s) = sources_keep IsRootHome source_rooted (with_images (bare s.cpus s.ram s.consoles s.root) s.images) s.sources
    (images_rooted (bare s.cpus s.ram s.consoles s.root) s.images
    (record { root = refl; all = λ d there. root_home s.ram s.consoles s.root d (in_from_contains (root_derivations s.ram s.consoles) d there) })) in
    record { holders = λ d there. (home.all d there).0; targets = λ d there kind. (home.all d there).1 kind; opened = λ ec new is. absurd (boot_plain s ec (Granting (Some new)) tt is) }

pub reached_homed : (s : Scenario) (turns : List ℕ) → AreHomed (run (boot s) turns)
reached_homed s =
    by_turns (λ (turns : List ℕ). AreHomed (run (boot s) turns)) (boot_homed s)
    (λ turns cpu homed. subst AreHomed (sym (run_append (boot s) turns (cpu ∷ []))) (homed_after (run (boot s) turns) cpu (reached_sound s turns) homed))
