-- The numbers that no object has yet stay the side's along turns in which nobody but it creates.
use Rattle.std.proofs.Common.{arith, ◌≡◌, ◌≤◌, ℕ, ◌+◌, List, [], ◌∷◌, ◌++◌, length, refl, sym, ap, ◌∙◌, subst, inl, inr}
use Rattle.std.specs.Prelude.{Bool, slice_get, option_map, Option, Some, None}
use Rattle.nova_objects.specs.declared.object.Object.{Object}
use Rattle.nova_objects.specs.declared.object.Object.TheVariants.{Ec, Sc}
use Rattle.nova_model.specs.Creation.{object_of}
use Rattle.nova_model.specs.Runs.{after}
use Rattle.nova_model.specs.State.{KernelState}
use Rattle.nova_model.specs.declared.new_object.NewObject.{NewObject}
use Rattle.law_forest.specs.Effects.{joined}
use Rattle.law_forest.specs.Turns.{Idles, Takes}
use Rattle.law_forest.proofs.Turning.{comes}
use Rattle.law_turns.proofs.Setting.{get_joined, get_last, joined_length}
use Rattle.law_integrity.specs.Confined.{Of}
use Rattle.law_flow.specs.Flow.{AreAlike, AreCreatingAlone, IsCreatingAlone}

-- where the objects are as they were, or one of the side's has joined
pub alone_same : (k new : KernelState) (S P : ℕ → Type 0) → new.objects ≡ k.objects → IsCreatingAlone k S P → IsCreatingAlone new S P
alone_same k new S P same alone = record {
  objects = λ n from. alone.objects n (subst (λ (os : List Object). length os ≤ n) same from);
  domains = λ n from. alone.domains n (subst (λ (os : List Object). length os ≤ n) same from);
  members = λ n pd cpu kind event at s. alone.members n pd cpu kind event (sym (ap (λ (os : List Object). slice_get os n) same) ∙ at) s;
  schedules = λ n donor cpu priority quantum at p. alone.schedules n donor cpu priority quantum (sym (ap (λ (os : List Object). slice_get os n) same) ∙ at) p;
}

pub alone_more : (k new : KernelState) (S P : ℕ → Type 0) (o : Object) → new.objects ≡ k.objects ++ o ∷ [] → IsCreatingAlone k S P → IsCreatingAlone new S P
alone_more k new S P o joins alone = record {
  objects = λ n from. alone.objects n (below n from);
  domains = λ n from. alone.domains n (below n from);
  members = λ n pd cpu kind event at s. elim (get_joined k.objects o n (Ec pd cpu kind event) (sym (ap (λ (os : List Object). slice_get os n) joins) ∙ at)) [
    | inl old ↦ alone.members n pd cpu kind event old s
    | inr one ↦ subst P (sym one.0) (alone.objects (length k.objects) (omega arith))
  ];
  schedules = λ n donor cpu priority quantum at p. elim (get_joined k.objects o n (Sc donor cpu priority quantum) (sym (ap (λ (os : List Object). slice_get os n) joins) ∙ at)) [
    | inl old ↦ alone.schedules n donor cpu priority quantum old p
    | inr one ↦ subst P (sym one.0) (alone.objects (length k.objects) (omega arith))
  ];
}
  where
    below : (n : ℕ) → length new.objects ≤ n → length k.objects ≤ n
    below n from =
        let size : length new.objects ≡ length k.objects + 1 = ap (λ (os : List Object). length os) joins ∙ joined_length k.objects o in omega (arith, from, size)

pub numbers_kept : (k l m n : KernelState) (S P : ℕ → Type 0) (made : Option NewObject) → m.objects ≡ joined k.objects (option_map object_of made) → n.objects ≡ joined l.objects (option_map object_of made) →
    m.cpus ≡ k.cpus → n.cpus ≡ l.cpus → AreCreatingAlone k l S P → AreCreatingAlone m n S P
numbers_kept k l m n S P None first second one other alone = record {
  first = alone_same k m S P first alone.first;
  second = alone_same l n S P second alone.second;
  objects = ap (λ (os : List Object). length os) second ∙ alone.objects ∙ sym (ap (λ (os : List Object). length os) first);
  cpus = other ∙ alone.cpus ∙ sym one;
}
numbers_kept k l m n S P (Some made) first second one other alone = record {
  first = alone_more k m S P (object_of made) first alone.first;
  second = alone_more l n S P (object_of made) second alone.second;
  objects =
      ap (λ (os : List Object). length os) second ∙ joined_length l.objects (object_of made) ∙ ap (λ (i : ℕ). i + 1) alone.objects
      ∙ sym (ap (λ (os : List Object). length os) first ∙ joined_length k.objects (object_of made));
  cpus = other ∙ alone.cpus ∙ sym one;
}

-- A TURN OF OTHERS

-- what a turn makes
pub record IsGrown (k : KernelState) (cpu : ℕ) : Type 0 where
  pub made : Option NewObject
  pub objects : (after k cpu).objects ≡ joined k.objects (option_map object_of made)
  pub cpus : (after k cpu).cpus ≡ k.cpus

pub grows : (k : KernelState) (cpu : ℕ) → IsGrown k cpu
grows k cpu = elim (comes k cpu) [
  | Idles nobody quiet same answer ↦ record { made = None; objects = ap (λ (s : KernelState). s.objects) same; cpus = ap (λ (s : KernelState). s.cpus) same }
  | Takes t e is state answer ↦ record { made = t.effect.made; objects = ap (λ (s : KernelState). s.objects) state; cpus = ap (λ (s : KernelState). s.cpus) state }
]

none_past : {T : Type 0} (xs : List T) → slice_get xs (length xs) ≡ None
none_past [] = refl
none_past (x ∷ xs) = none_past xs

-- one that leaves the side's part alone makes nothing
pub objects_left : (k : KernelState) (S P : ℕ → Bool) (cpu : ℕ) → AreAlike k (after k cpu) (Of S) (Of P) → IsCreatingAlone k (Of S) (Of P) → (after k cpu).objects ≡ k.objects
objects_left k S P cpu same alone = by_made (grows k cpu).made (grows k cpu).objects
  where
    by_made : (o : Option NewObject) → (after k cpu).objects ≡ joined k.objects (option_map object_of o) → (after k cpu).objects ≡ k.objects
    by_made None is = is
    by_made (Some made) is =
        let there : slice_get (after k cpu).objects (length k.objects) ≡ Some (object_of made) = ap (λ (os : List Object). slice_get os (length k.objects)) is ∙ get_last k.objects (object_of made) in
        let none : slice_get (after k cpu).objects (length k.objects) ≡ None = same.objects (length k.objects) (alone.objects (length k.objects) (omega arith)) ∙ none_past k.objects in
        absurd (cc)

-- in the first of two states, and in the second
pub left_numbers : (k l : KernelState) (S P : ℕ → Bool) (cpu : ℕ) → AreAlike k (after k cpu) (Of S) (Of P) → AreCreatingAlone k l (Of S) (Of P) → AreCreatingAlone (after k cpu) l (Of S) (Of P)
left_numbers k l S P cpu same alone = numbers_kept k l (after k cpu) l (Of S) (Of P) None (objects_left k S P cpu same alone.first) refl (grows k cpu).cpus refl alone

pub numbers_left : (k l : KernelState) (S P : ℕ → Bool) (cpu : ℕ) → AreAlike l (after l cpu) (Of S) (Of P) → AreCreatingAlone k l (Of S) (Of P) → AreCreatingAlone k (after l cpu) (Of S) (Of P)
numbers_left k l S P cpu same alone = numbers_kept k l k (after l cpu) (Of S) (Of P) None refl (objects_left l S P cpu same alone.second) refl (grows l cpu).cpus alone
