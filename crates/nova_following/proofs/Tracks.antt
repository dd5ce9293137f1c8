-- What was followed from a kernel's beginning is the side of the virtual CPU, where there is one at the end.
use Rattle.std.proofs.Common.{◌≡◌, ℕ, zero, suc, List, [], ◌∷◌, ◌++◌, ap, ap₂, sym, ◌∙◌, subst, subst₂, refl, append_assoc}
use Rattle.std.specs.Prelude.{Bool, true, false, slice_get, IfSome, Option, Some, None, option_map, if◌then◌else◌}
use Rattle.std.specs.List.{All}
use Rattle.std.proofs.lemmas.List.{append-nil}
use Rattle.std.proofs.lemmas.Option.{same_Some}
use Rattle.law_forest.specs.Effects.{joined}
use Rattle.law_forest.specs.Turns.{Idles, Takes}
use Rattle.law_forest.proofs.Turning.{comes}
use Rattle.nova_guest.specs.Alone.{alone, outputs}
use Rattle.nova_guest.specs.Conditions.{IsGuest, IsInput}
use Rattle.nova_guest.specs.declared.guest.Guest.{Guest}
use Rattle.nova_guest.specs.declared.input.Input.{Input}
use Rattle.law_isolation.specs.Sound.{IsVirtual}
use Rattle.law_isolation.proofs.Admitted.{inputs_admitted}
use Rattle.law_isolation.proofs.Ranges.{view_guest}
use Rattle.law_isolation.proofs.Runs.{turn_virtual}
use Rattle.law_origins.proofs.Births.{none_at_boot}
use Rattle.nova_model.specs.Capabilities.{is_vcpu}
use Rattle.nova_model.specs.Choice.{in_front}
use Rattle.nova_model.specs.Creation.{object_of}
use Rattle.nova_model.specs.Guests.{input, inputs}
use Rattle.nova_model.specs.Runs.{after, run}
use Rattle.nova_model.specs.State.{KernelState}
use Rattle.nova_model.specs.Views.{view}
use Rattle.nova_objects.specs.declared.object.Object.{Object}
use Rattle.law_origins.specs.Lives.{IsMade, born}
use Rattle.nova_following.specs.Follows.{Followed, IsClosed, IsTakable, IsTaken, followed, is_there, is_virtual, listed, met, nothing, seen}
use Rattle.nova_twin.specs.Sides.{IsAlone, IsBeginning, IsFound, IsSide, IsSideOf}
use Rattle.nova_twin.specs.declared.side.Side.{Side}
use Rattle.nova_twin.proofs.Admitted.{Lives, birth_reached, ends_alone, shows_alone}

-- WHETHER IT IS THERE
there : (o : Option Object) → option_map is_vcpu o ≡ Some true → is_there o ≡ true
there None is = absurd (cc)
there (Some o) is = same_Some (is_vcpu o) true is

is_one : (o : Option Object) → is_there o ≡ true → option_map is_vcpu o ≡ Some true
is_one None is = absurd (cc)
is_one (Some o) is = ap (λ (t : Bool). Some t) is

not_one : (o : Option Object) → is_there o ≡ false → option_map is_vcpu o ≡ Some true → ⊥
not_one o isnt is = let both : true ≡ false = sym (there o is) ∙ isnt in none both
  where
    none : true ≡ false → ⊥
    none h = cc

get_joined : (xs : List Object) (o : Option Object) (n : ℕ) (x : Object) → slice_get xs n ≡ Some x → slice_get (joined xs o) n ≡ Some x
get_joined xs None n x is = is
get_joined [] (Some y) n x is = absurd (cc)
get_joined (z ∷ xs) (Some y) zero x is = is
get_joined (z ∷ xs) (Some y) (suc n) x is = get_joined xs (Some y) n x is

object_stays : (k : KernelState) (cpu n : ℕ) (x : Object) → slice_get k.objects n ≡ Some x → slice_get (after k cpu).objects n ≡ Some x
object_stays k cpu n x is = elim (comes k cpu) [
  | Idles chosen ahead same answer ↦ ap (λ (s : KernelState). slice_get s.objects n) same ∙ is
  | Takes t e takes state answer ↦ ap (λ (s : KernelState). slice_get s.objects n) state ∙ get_joined k.objects (option_map object_of t.effect.made) n x is
]

-- where it is there after a turn and was not before, there was no object of the number
none_before : (k : KernelState) (cpu g : ℕ) → (IsVirtual k g → ⊥) → IsVirtual (after k cpu) g → slice_get k.objects g ≡ None
none_before k cpu g was now = by_object (slice_get k.objects g) refl
  where
    by_object : (o : Option Object) → slice_get k.objects g ≡ o → slice_get k.objects g ≡ None
    by_object None is = is
    by_object (Some x) is = absurd (was (ap (option_map is_vcpu) is ∙ (ap (option_map is_vcpu) (sym (object_stays k cpu g x is)) ∙ now)))

-- AFTER ITS BIRTH
in_front_is : (o : Option Input) (is js : List Input) → (is ++ listed o) ++ js ≡ is ++ in_front o js
in_front_is None is js = ap (λ (l : List Input). l ++ js) (append-nil is)
in_front_is (Some i) is js = append_assoc is (i ∷ []) js

met_there : (k : KernelState) (cpu g : ℕ) → IsVirtual k g → met k cpu g ≡ input k cpu g
met_there k cpu g is = ap (λ (t : Bool). if t then input k cpu g else None) (there (slice_get k.objects g) is)

seen_there : (k : KernelState) (g : ℕ) → IsVirtual k g → seen k g ≡ Some (view k g)
seen_there k g is = ap (λ (t : Bool). if t then Some (view k g) else None) (there (slice_get k.objects g) is)

abbrev since : Guest → List Input → Followed
since v is = record { start = Some v; inputs = is }

followed_since : (k : KernelState) (turns : List ℕ) (g : ℕ) (v : Guest) (is : List Input) → IsVirtual k g → followed g k turns (since v is) ≡ since v (is ++ inputs k turns g)
followed_since k [] g v is there_ = ap (since v) (sym (append-nil is))
followed_since k (cpu ∷ turns) g v is there_ =
    followed_since (after k cpu) turns g v (is ++ listed (met k cpu g)) (turn_virtual k cpu g there_)
    ∙ ap (since v) (ap (λ (o : Option Input). (is ++ listed o) ++ inputs (after k cpu) turns g) (met_there k cpu g there_) ∙ in_front_is (input k cpu g) is (inputs (after k cpu) turns g))

-- ALL TURNS
pub record IsTracked (k : KernelState) (turns : List ℕ) (g : ℕ) (v : Guest) (is : List Input) : Type 0 where
  pub made : IsMade k turns g
  pub start : v ≡ view (born k turns g made) g
  pub inputs : is ≡ inputs (born k turns g made) made.later g

abbrev IsTrackedBy : KernelState → List ℕ → ℕ → List Input → Option Guest → Type 0
IsTrackedBy k turns g is None = IsVirtual (run k turns) g → ⊥
IsTrackedBy k turns g is (Some v) = IsTracked k turns g v is

abbrev pub IsTrail : KernelState → List ℕ → ℕ → Followed → Type 0
IsTrail k turns g f = IsTrackedBy k turns g f.inputs f.start

turn_before : (k : KernelState) (cpu : ℕ) (turns : List ℕ) (g : ℕ) (is : List Input) (o : Option Guest) → IsTrackedBy (after k cpu) turns g is o → IsTrackedBy k (cpu ∷ turns) g is o
turn_before k cpu turns g is None h = h
turn_before k cpu turns g is (Some v) h = record {
  made = record {
    before = cpu ∷ h.made.before;
    cpu = h.made.cpu;
    later = h.made.later;
    whole = ap (λ (l : List ℕ). cpu ∷ l) h.made.whole;
    none = h.made.none;
    made = h.made.made;
  };
  start = h.start;
  inputs = h.inputs;
}

pub trails : (k : KernelState) (turns : List ℕ) (g : ℕ) → (IsVirtual k g → ⊥) → IsTrail k turns g (followed g k turns nothing)
trails k [] g was = was
trails k (cpu ∷ turns) g was = by_test (is_virtual (after k cpu) g) refl (trails (after k cpu) turns g)
  where
    by_test : (t : Bool) → is_virtual (after k cpu) g ≡ t → ((IsVirtual (after k cpu) g → ⊥) → IsTrail (after k cpu) turns g (followed g (after k cpu) turns nothing)) →
        IsTrail k (cpu ∷ turns) g (followed g k (cpu ∷ turns) nothing)
    by_test true is later =
        let now : IsVirtual (after k cpu) g = is_one (slice_get (after k cpu).objects g) is in
        let all : followed g k (cpu ∷ turns) nothing ≡ since (view (after k cpu) g) (inputs (after k cpu) turns g) =
        ap (λ (o : Option Guest). followed g (after k cpu) turns (record { start = o; inputs = [] })) (seen_there (after k cpu) g now)
        ∙ followed_since (after k cpu) turns g (view (after k cpu) g) [] now in
        subst (IsTrail k (cpu ∷ turns) g) (sym all) (record {
          made = record { before = []; cpu = cpu; later = turns; whole = refl; none = none_before k cpu g was now; made = now };
          start = refl;
          inputs = refl;
        })
    by_test false is later =
        let same : followed g k (cpu ∷ turns) nothing ≡ followed g (after k cpu) turns nothing =
        ap (λ (t : Bool). followed g (after k cpu) turns (record { start = if t then Some (view (after k cpu) g) else None; inputs = [] })) is in
        let rest = later (not_one (slice_get (after k cpu).objects g) is) in
        subst (IsTrail k (cpu ∷ turns) g) (sym same) (turn_before k cpu turns g (followed g (after k cpu) turns nothing).inputs (followed g (after k cpu) turns nothing).start rest)

-- FROM A BEGINNING
none_at_root : (k : KernelState) (g : ℕ) → IsBeginning k → IsVirtual k g → ⊥
none_at_root k g b is = none_at_boot b.scenario g (subst (λ (t : KernelState). IsVirtual t g) b.is is)

module _ (k : KernelState) (b : IsBeginning k) (turns : List ℕ) (g : ℕ) where
  pub tracked : IsTrail k turns g (followed g k turns nothing)
  tracked = trails k turns g (none_at_root k g b)

  takable : (is : List Input) (o : Option Guest) → IsTrackedBy k turns g is o → IsTaken is o
  takable is None h = tt
  takable is (Some v) h =
      let reached = birth_reached k b turns g h.made in (
        subst IsGuest (sym h.start) (view_guest (born k turns g h.made) g reached.sound reached.ranges),
        subst (All IsInput) (sym h.inputs) (inputs_admitted (born k turns g h.made) h.made.later g reached.sound reached.ranges),
      )

  pub takable_so : (f : Followed) → f ≡ followed g k turns nothing → IsTakable f
  takable_so f is = subst IsTakable (sym is) (takable (followed g k turns nothing).inputs (followed g k turns nothing).start tracked)

  side_of : Lives → (side : Side) → IsAlone side → IsTracked k turns g side.start side.inputs.items → IsSideOf k turns g side
  side_of lives side lone h = record {
    made = h.made;
    start = h.start;
    inputs = h.inputs;
    last = lone.last ∙ (ap₂ alone h.start h.inputs ∙ sym (ends_alone k b turns g h.made));
    outs = lone.outs ∙ (ap₂ outputs h.start h.inputs ∙ shows_alone k b turns g h.made lives);
  }

  found_by : Lives → (f : Followed) (found : Option Side) → IsTrail k turns g f → IsClosed f found → IsFound k turns g found
  found_by lives f None trail closed = subst (IsTrackedBy k turns g f.inputs) closed trail
  found_by lives f (Some side) trail closed =
      side_of lives side closed.alone (subst₂ (IsTrackedBy k turns g) closed.inputs closed.start trail)

  pub found_so : Lives → (f : Followed) (found : Option Side) → f ≡ followed g k turns nothing → IsClosed f found → IsFound k turns g found
  found_so lives f found is closed = found_by lives f found (subst (IsTrail k turns g) (sym is) tracked) closed

pub side_so : (k : KernelState) (turns : List ℕ) (g : ℕ) → IsBeginning k → (found : Option Side) → IsFound k turns g found → IfSome found IsSide
side_so k turns g b None is = tt
side_so k turns g b (Some side) is = record { opening = k; begins = b; turns = turns; guest = g; is = is }

pub alone_so : (f : Followed) (found : Option Side) → IsClosed f found → IfSome found IsAlone
alone_so f None closed = tt
alone_so f (Some side) closed = closed.alone
