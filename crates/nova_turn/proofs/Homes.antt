-- Virtual CPUs are kept of their protection domains, and scheduling contexts of their execution contexts.
use Rattle.std.proofs.Common.{◌≡◌, ℕ, zero, suc, ◌<◌, ◌==◌, ◌⊎◌, List, [], ◌∷◌, ◌++◌, length, inl, inr, refl, ap, sym, ◌∙◌, subst, arith}
use Rattle.std.proofs.lemmas.List.{length-set}
use Rattle.std.specs.Prelude.{Bool, true, false, ◌||◌, if◌then◌else◌, drop, map, replicate, Option, Some, None, IfSome, is_some, option_map, slice_get, slice_set}
use Rattle.std.specs.List.{AllByRecursion, list_any}
use Rattle.nova_objects.specs.declared.object.EcKind.TheVariants.{Vcpu}
use Rattle.nova_objects.specs.declared.object.Object.{Object}
use Rattle.nova_objects.specs.declared.object.Object.TheVariants.{Pd, Ec, Sc}
use Rattle.nova_model.specs.Capabilities.{is_vcpu}
use Rattle.nova_model.specs.Creation.{object_of, stir_count_of}
use Rattle.nova_model.specs.Deeds.{done}
use Rattle.nova_model.specs.Hypercalls.{schedules}
use Rattle.nova_model.specs.State.{KernelState}
use Rattle.nova_model.specs.declared.deed.Deed.{Deed}
use Rattle.nova_model.specs.declared.new_object.NewObject.{NewObject}
use Rattle.law_forest.specs.Effects.{effect, joined}
use Rattle.law_forest.proofs.Doing.{done_is}
use Rattle.law_turns.specs.Tables.{Refers, cpu_of}
use Rattle.law_turns.proofs.Setting.{get_below, get_joined}
use Rattle.law_turns.proofs.Tags.{guest_new, maps_more}
use Rattle.nova_choice.specs.Schedules.{owner_in}
use Rattle.nova_turn.specs.Homes.{AreHoused, AreOthers, AreOthersOf, AreOwned, HasCounts, Includes, both, home_of, housed, housed_by}
use Rattle.nova_turn.specs.declared.tables.inventory.Numbers.{Numbers}
use Rattle.nova_turn.specs.declared.tables.inventory.Numbers.TheVariants.{Empty, Single, Several}

-- THOSE AND THESE

pub left_of : (these others : Numbers) (guest : ℕ) → Includes guest these → Includes guest (both these others)
left_of Empty others guest h = absurd h
left_of (Single one) Empty guest h = h
left_of (Single one) (Single other) guest h = by_test (other == one)
  where
    by_test : (t : Bool) → Includes guest (if t then Single one else Several)
    by_test true = h
    by_test false = tt
left_of (Single one) Several guest h = tt
left_of Several others guest h = tt

pub right_of : (these others : Numbers) (guest : ℕ) → Includes guest others → Includes guest (both these others)
right_of Empty others guest h = h
right_of (Single one) Empty guest h = absurd h
right_of (Single one) (Single other) guest h = by_test (other == one) refl
  where
    by_test : (t : Bool) → (other == one) ≡ t → Includes guest (if t then Single one else Several)
    by_test true same = let e : one ≡ guest = grind (arith, same, h) in e
    by_test false same = tt
right_of (Single one) Several guest h = tt
right_of Several others guest h = tt

-- THOSE OF A DOMAIN

set_stays : (homes : List Numbers) (n one d guest : ℕ) (home : Numbers) → slice_get homes n ≡ Some home → IfSome (slice_get homes d) (Includes guest) →
    IfSome (slice_get (slice_set homes n (both home (Single one))) d) (Includes guest)
set_stays [] n one d guest home is h = absurd cc
set_stays (x ∷ homes) zero one zero guest home is h = let same : x ≡ home = cc in left_of home (Single one) guest (subst (Includes guest) same h)
set_stays (x ∷ homes) zero one (suc d) guest home is h = h
set_stays (x ∷ homes) (suc n) one zero guest home is h = h
set_stays (x ∷ homes) (suc n) one (suc d) guest home is h = set_stays homes n one d guest home is h

set_joins : (homes : List Numbers) (n guest : ℕ) (home : Numbers) → slice_get homes n ≡ Some home → IfSome (slice_get (slice_set homes n (both home (Single guest))) n) (Includes guest)
set_joins [] n guest home is = absurd cc
set_joins (x ∷ homes) zero guest home is = right_of home (Single guest) guest refl
set_joins (x ∷ homes) (suc n) guest home is = set_joins homes n guest home is

-- an object more joins, and those that were there stay
housed_stays : (homes : List Numbers) (o : Option ℕ) (one d guest : ℕ) → IfSome (slice_get homes d) (Includes guest) → IfSome (slice_get (housed o one homes) d) (Includes guest)
housed_stays homes None one d guest h = h
housed_stays homes (Some pd) one d guest h = by_home (slice_get homes pd) refl
  where
    by_home : (o : Option Numbers) → slice_get homes pd ≡ o → IfSome (slice_get (housed_by pd one homes o) d) (Includes guest)
    by_home None is = h
    by_home (Some home) is = set_stays homes pd one d guest home is h

housed_joins : (homes : List Numbers) (pd guest : ℕ) → IfSome (slice_get (housed (Some pd) guest homes) pd) (Includes guest)
housed_joins homes pd guest = by_home (slice_get homes pd) refl
  where
    by_home : (o : Option Numbers) → slice_get homes pd ≡ o → IfSome (slice_get (housed_by pd guest homes o) pd) (Includes guest)
    by_home None is = subst (λ (at : Option Numbers). IfSome at (Includes guest)) (sym is) tt
    by_home (Some home) is = set_joins homes pd guest home is

-- an entry for each object
length_more : {T : Type 0} (xs : List T) (x : T) → length (xs ++ x ∷ []) ≡ suc (length xs)
length_more [] x = refl
length_more (y ∷ xs) x = ap suc (length_more xs x)

length_housed : (homes : List Numbers) (o : Option ℕ) (guest : ℕ) → length (housed o guest homes) ≡ length homes
length_housed homes None guest = refl
length_housed homes (Some pd) guest = by_home (slice_get homes pd)
  where
    by_home : (o : Option Numbers) → length (housed_by pd guest homes o) ≡ length homes
    by_home None = refl
    by_home (Some home) = length-set homes pd (both home (Single guest))

pub all_long : (objects : List Object) (homes : List Numbers) (o : Object) (of : Option ℕ) → length homes ≡ length objects →
    length (housed of (length objects) (homes ++ Empty ∷ [])) ≡ length (objects ++ o ∷ [])
all_long objects homes o of long =
    length_housed (homes ++ Empty ∷ []) of (length objects) ∙ (length_more homes Empty ∙ (ap suc long ∙ sym (length_more objects o)))

-- a further domain leaves the others
more_homes : (homes : List Numbers) (x : Numbers) (d guest : ℕ) → d < length homes → IfSome (slice_get homes d) (Includes guest) → IfSome (slice_get (homes ++ x ∷ []) d) (Includes guest)
more_homes [] x d guest low h = absurd (omega (arith, low))
more_homes (y ∷ homes) x zero guest low h = h
more_homes (y ∷ homes) x (suc d) guest low h = more_homes homes x d guest (omega (arith, low)) h

-- the domain of a virtual CPU is there
home_there : (objects os : List Object) (guest pd : ℕ) → AllByRecursion (Refers objects) os → home_of (slice_get os guest) ≡ Some pd → slice_get objects pd ≡ Some Pd
home_there objects [] guest pd all is = absurd cc
home_there objects (Ec p cpu Vcpu event ∷ os) zero pd all is = let same : p ≡ pd = cc in subst (λ (n : ℕ). slice_get objects n ≡ Some Pd) same all.0
home_there objects (other ∷ os) zero pd all is = absurd cc
home_there objects (o ∷ os) (suc guest) pd all is = home_there objects os guest pd all.1 is

-- those that are kept by what they are of, which is there
abbrev AreKept : (Option Object → Option ℕ) → List Object → List Numbers → Type 0
AreKept of objects homes = (n whose : ℕ) → of (slice_get objects n) ≡ Some whose → IfSome (slice_get homes whose) (Includes n)

all_kept : (of : Option Object → Option ℕ) (objects : List Object) (homes : List Numbers) (o : Object) → of None ≡ None →
    ((n whose : ℕ) → of (slice_get objects n) ≡ Some whose → whose < length objects) → length homes ≡ length objects → AreKept of objects homes →
    AreKept of (objects ++ o ∷ []) (housed (of (Some o)) (length objects) (homes ++ Empty ∷ []))
all_kept of objects homes o nothing below long are n whose is = by_object (slice_get (objects ++ o ∷ []) n) refl
  where
    by_object : (at : Option Object) → slice_get (objects ++ o ∷ []) n ≡ at → IfSome (slice_get (housed (of (Some o)) (length objects) (homes ++ Empty ∷ [])) whose) (Includes n)
    by_object None at = absurd (let none : None ≡ Some whose = sym nothing ∙ ap of (sym at) ∙ is in cc)
    by_object (Some x) at = elim (get_joined objects o n x at) [
      | inl there ↦
          let was : of (slice_get objects n) ≡ Some whose = ap of (there ∙ sym at) ∙ is in
          let low = below n whose was in
          housed_stays (homes ++ Empty ∷ []) (of (Some o)) (length objects) whose n (more_homes homes Empty whose n (omega (arith, low, long)) (are n whose was))
      | inr new ↦
          let home : of (Some o) ≡ Some whose = ap (λ (y : Object). of (Some y)) new.1 ∙ ap of (sym at) ∙ is in
          subst (λ (h : Option ℕ). IfSome (slice_get (housed h (length objects) (homes ++ Empty ∷ [])) whose) (Includes n)) (sym home)
          (subst (λ (m : ℕ). IfSome (slice_get (housed (Some whose) m (homes ++ Empty ∷ [])) whose) (Includes n)) new.0 (housed_joins (homes ++ Empty ∷ []) whose n))
    ]

pub all_housed : (objects : List Object) (homes : List Numbers) (o : Object) → AllByRecursion (Refers objects) objects → length homes ≡ length objects → AreHoused objects homes →
    AreHoused (objects ++ o ∷ []) (housed (home_of (Some o)) (length objects) (homes ++ Empty ∷ []))
all_housed objects homes o refer long are =
    all_kept home_of objects homes o refl (λ guest pd was. get_below objects pd Pd (home_there objects objects guest pd refer was)) long are

-- the execution context of a scheduling context is there
ec_below : (objects : List Object) (ec cpu : ℕ) → cpu_of (slice_get objects ec) ≡ Some cpu → ec < length objects
ec_below objects ec cpu is = by_object (slice_get objects ec) refl is
  where
    by_object : (at : Option Object) → slice_get objects ec ≡ at → cpu_of at ≡ Some cpu → ec < length objects
    by_object None there h = absurd cc
    by_object (Some x) there h = get_below objects ec x there

owner_there : (objects os : List Object) (sc ec : ℕ) → AllByRecursion (Refers objects) os → owner_in (slice_get os sc) ≡ Some ec → ec < length objects
owner_there objects [] sc ec all is = absurd cc
owner_there objects (Sc e cpu priority quantum ∷ os) zero ec all is = let same : e ≡ ec = cc in subst (λ (n : ℕ). n < length objects) same (ec_below objects e cpu all.0)
owner_there objects (other ∷ os) zero ec all is = absurd cc
owner_there objects (o ∷ os) (suc sc) ec all is = owner_there objects os sc ec all.1 is

pub all_owned : (objects : List Object) (owners : List Numbers) (o : Object) → AllByRecursion (Refers objects) objects → length owners ≡ length objects → AreOwned objects owners →
    AreOwned (objects ++ o ∷ []) (housed (owner_in (Some o)) (length objects) (owners ++ Empty ∷ []))
all_owned objects owners o refer long are = all_kept owner_in objects owners o refl (λ sc ec was. owner_there objects objects sc ec refer was) long are

-- one scheduling context at most, of whomever it is
pub one_owned : (objects : List Object) (n sc : ℕ) → ((number ec : ℕ) → owner_in (slice_get objects number) ≡ Some ec → sc ≡ number) → AreOwned objects (replicate n (Single sc))
one_owned objects n sc only number ec is = at_each n ec
  where
    at_each : (m i : ℕ) → IfSome (slice_get (replicate m (Single sc)) i) (Includes number)
    at_each zero i = tt
    at_each (suc m) zero = only number ec is
    at_each (suc m) (suc i) = at_each m i

housed_at : (homes : List Numbers) (pd guest : ℕ) (home : Numbers) → slice_get homes pd ≡ Some home → IfSome (slice_get homes pd) (Includes guest) → Includes guest home
housed_at homes pd guest home at h = subst (λ (o : Option Numbers). IfSome o (Includes guest)) at h

pub owners_are : (objects : List Object) (owners : List Numbers) (ec : ℕ) (home : Numbers) → slice_get owners ec ≡ Some home → AreOwned objects owners →
    (sc : ℕ) → owner_in (slice_get objects sc) ≡ Some ec → Includes sc home
owners_are objects owners ec home at are sc is = housed_at owners ec sc home at (are sc ec is)

-- an execution context has none where no scheduling context is its own
pub none_scheduled : (objects : List Object) (ec : ℕ) → ((sc : ℕ) → owner_in (slice_get objects sc) ≡ Some ec → ⊥) → false ≡ list_any (schedules ec) objects
none_scheduled [] ec none = refl
none_scheduled (Sc e cpu priority quantum ∷ os) ec none =
    by_test (e == ec) refl (none_scheduled os ec (λ sc own. none (suc sc) own))
  where
    by_test : (t : Bool) → (e == ec) ≡ t → false ≡ list_any (schedules ec) os → false ≡ (t || list_any (schedules ec) os)
    by_test true same rest = absurd (none 0 (let its : e ≡ ec = grind (arith, same) in ap Some its))
    by_test false same rest = rest
none_scheduled (other ∷ os) ec none = none_scheduled os ec (λ sc own. none (suc sc) own)

-- BESIDES ONE OF THEM

pub others_there : (objects : List Object) (homes : List Numbers) (ec pd : ℕ) (home : Numbers) → slice_get homes pd ≡ Some home → AreHoused objects homes → AreOthers objects ec pd home
others_there objects homes ec pd home at are guest its = inr (subst (λ (o : Option Numbers). IfSome o (Includes guest)) at (are guest pd its))

pub others_none : (objects : List Object) (homes : List Numbers) (ec pd only : ℕ) → slice_get homes pd ≡ Some (Single only) → only ≡ ec → AreHoused objects homes →
    AreOthers objects ec pd Empty
others_none objects homes ec pd only at itself are guest its =
    inl (sym itself ∙ subst (λ (o : Option Numbers). IfSome o (Includes guest)) at (are guest pd its))

pub others_any : (objects : List Object) (ec pd : ℕ) → AreOthers objects ec pd Several
others_any objects ec pd guest its = inr tt

abbrev is_in : ℕ → List ℕ → Bool
is_in pd pds = list_any (λ p. p == pd) pds

-- those whose turn it was have no others
abbrev pub AreOthersBut : List Object → ℕ → List ℕ → Numbers → List ℕ → Type 0
AreOthersBut objects ec pds others left = (pd : ℕ) → list_any (λ p. p == pd) pds ≡ true → AreOthers objects ec pd others ⊎ (list_any (λ p. p == pd) left ≡ true)

pub none_yet : (objects : List Object) (ec : ℕ) (pds : List ℕ) (others : Numbers) → AreOthersBut objects ec pds others (drop 0 pds)
none_yet objects ec pds others pd is = inr is

wider_left : (objects : List Object) (ec pd : ℕ) (these others : Numbers) → AreOthers objects ec pd these → AreOthers objects ec pd (both these others)
wider_left objects ec pd these others are guest its = elim (are guest its) [
  | inl same ↦ inl same
  | inr in_these ↦ inr (left_of these others guest in_these)
]

wider_right : (objects : List Object) (ec pd : ℕ) (these others : Numbers) → AreOthers objects ec pd others → AreOthers objects ec pd (both these others)
wider_right objects ec pd these others are guest its = elim (are guest its) [
  | inl same ↦ inl same
  | inr in_others ↦ inr (right_of these others guest in_others)
]

pub one_more : (objects : List Object) (ec p : ℕ) (pds left rest : List ℕ) (these others : Numbers) → left ≡ p ∷ rest → AreOthers objects ec p others → AreOthersBut objects ec pds these left →
    AreOthersBut objects ec pds (both these others) rest
one_more objects ec p pds left rest these others first are before pd is = elim (before pd is) [
  | inl was ↦ inl (wider_left objects ec pd these others was)
  | inr there ↦ by_test (p == pd) refl (ap (is_in pd) (sym first) ∙ there)
]
  where
    by_test : (t : Bool) → (p == pd) ≡ t → (t || list_any (λ p. p == pd) rest) ≡ true → AreOthers objects ec pd (both these others) ⊎ (list_any (λ p. p == pd) rest ≡ true)
    by_test true same there =
        inl (wider_right objects ec pd these others (subst (λ (q : ℕ). AreOthers objects ec q others) (let e : p ≡ pd = grind (arith, same) in e) are))
    by_test false same there = inr there

pub all_others : (objects : List Object) (ec : ℕ) (pds left : List ℕ) (others : Numbers) → left ≡ [] → AreOthersBut objects ec pds others left → AreOthersOf objects ec pds others
all_others objects ec pds left others none before pd is = elim (before pd is) [
  | inl was ↦ was
  | inr there ↦ absurd (let never : false ≡ true = ap (is_in pd) (sym none) ∙ there in cc)
]

-- STIR COUNTS

-- a deed leaves them so
pub still_counted : (k mid : KernelState) (ec : ℕ) (d : Deed) → mid ≡ done k ec d → HasCounts k → HasCounts mid
still_counted k mid ec d is h = subst HasCounts (sym (is ∙ done_is k ec d)) (by_made (effect k ec d).made)
  where
    by_made : (made : Option NewObject) →
        map is_some (joined k.stirs.guests (option_map (λ m. stir_count_of (object_of m)) made)) ≡ map is_vcpu (joined k.objects (option_map object_of made))
    by_made None = h
    by_made (Some m) = maps_more is_vcpu k.stirs.guests k.objects (stir_count_of (object_of m)) (object_of m) h (guest_new (object_of m))
