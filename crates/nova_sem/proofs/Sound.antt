-- An execution context waits once, at one semaphore, and only where the counter is 0.
use Rattle.std.proofs.Common.{◌≡◌, ℕ, List, [], ◌∷◌, ◌++◌, length, refl, ap, sym, subst, ◌∙◌, arith, inl, inr}
use Rattle.std.specs.Prelude.{◌==◌, ◌||◌, ◌⊎◌, ◌-◌, if◌then◌else◌, Bool, true, false, eqb, Option, Some, None, option_map}
use Rattle.nova_model.specs.State.{Semaphore}
use Rattle.nova_model.specs.Creation.{idle_semaphore}
use Rattle.nova_model.specs.Semaphores.{Semaphores, semaphore_at, semaphore, semaphore_in, has, waits, changed, changed_by, raised, raised_with, lowered, upped, downed}
use Rattle.nova_sem.specs.Sound.{AreOnce, AreSound, IsFree, ChangesOne, EachWaitsAlone}
use Rattle.nova_sem.proofs.Tables.{set_same, more_same, more_other}
use Rattle.nova_sem.proofs.Changes.{changed_other}

pub has_append : (ecs : List ℕ) (ec x : ℕ) → has (ecs ++ ec ∷ []) x ≡ has ecs x || eqb x ec
has_append [] ec x = by_same (eqb x ec)
  where
    by_same : (t : Bool) → (t || false) ≡ (false || t)
    by_same true = refl
    by_same false = refl
has_append (e ∷ ecs) ec x = ap (λ (t : Bool). eqb x e || t) (has_append ecs ec x) ∙ through (eqb x e) (has ecs x) (eqb x ec)
  where
    through : (a b c : Bool) → (a || (b || c)) ≡ ((a || b) || c)
    through true b c = refl
    through false b c = refl

-- an execution context more that isn't there yet
pub once_append : (ecs : List ℕ) (ec : ℕ) → AreOnce ecs → has ecs ec ≡ false → AreOnce (ecs ++ ec ∷ [])
once_append [] ec are not_there = (refl, tt)
once_append (e ∷ ecs) ec are not_there =
    (grind (arith, has_append ecs ec e, are.0, not_there), once_append ecs ec are.1 (grind (arith, not_there)))

-- each that waits after a change waited there before, or it waited nowhere and waits now where the counter is 0
record IsSoundAt (all new : Semaphores) (sm : ℕ) : Type 0 where
  others : ChangesOne all sm new
  once : AreOnce (semaphore new sm).waiting
  from : (ec : ℕ) → waits new sm ec ≡ true → (waits all sm ec ≡ true) ⊎ IsFree all ec
  idle : (ec : ℕ) → waits new sm ec ≡ true → (semaphore new sm).count ≡ 0

sound_at : (all new : Semaphores) (sm : ℕ) → AreSound all → IsSoundAt all new sm → AreSound new
sound_at all new sm are at = record {
  once = λ a. by_once a (a == sm) refl;
  alone = λ ec a b at_a at_b. by_places ec a b at_a at_b (a == sm) refl (b == sm) refl;
  idle = λ a ec is. by_idle a ec is (a == sm) refl;
}
  where
    same : (a : ℕ) → (a == sm) ≡ true → a ≡ sm
    same a place = grind (arith, place)

    other : (a : ℕ) → (a == sm) ≡ false → semaphore new a ≡ semaphore all a
    other a place = ap semaphore_in (at.others a (λ e. absurd (grind (arith, place, e))))

    by_once : (a : ℕ) (t : Bool) → (a == sm) ≡ t → AreOnce (semaphore new a).waiting
    by_once a true place = subst (λ (n : ℕ). AreOnce (semaphore new n).waiting) (sym (same a place)) at.once
    by_once a false place = subst (λ (s : Semaphore). AreOnce s.waiting) (sym (other a place)) (are.once a)

    by_idle : (a ec : ℕ) → waits new a ec ≡ true → (t : Bool) → (a == sm) ≡ t → (semaphore new a).count ≡ 0
    by_idle a ec is true place =
        ap (λ (n : ℕ). (semaphore new n).count) (same a place) ∙ at.idle ec (ap (λ (n : ℕ). waits new n ec) (sym (same a place)) ∙ is)
    by_idle a ec is false place =
        ap (λ (s : Semaphore). s.count) (other a place) ∙ are.idle a ec (ap (λ (s : Semaphore). has s.waiting ec) (sym (other a place)) ∙ is)

    before : (a ec : ℕ) → (a == sm) ≡ false → waits new a ec ≡ true → waits all a ec ≡ true
    before a ec place is = ap (λ (s : Semaphore). has s.waiting ec) (sym (other a place)) ∙ is

    here : (a ec : ℕ) → (a == sm) ≡ true → waits new a ec ≡ true → waits new sm ec ≡ true
    here a ec place is = ap (λ (n : ℕ). waits new n ec) (sym (same a place)) ∙ is

    meets : (ec b : ℕ) → (waits all sm ec ≡ true) ⊎ IsFree all ec → waits all b ec ≡ true → sm ≡ b
    meets ec b (inl old) is = are.alone ec sm b old is
    meets ec b (inr free) is = let none = free b in absurd cc

    by_places : (ec a b : ℕ) → waits new a ec ≡ true → waits new b ec ≡ true → (t : Bool) → (a == sm) ≡ t → (u : Bool) → (b == sm) ≡ u → a ≡ b
    by_places ec a b at_a at_b true place_a true place_b = same a place_a ∙ sym (same b place_b)
    by_places ec a b at_a at_b true place_a false place_b =
        same a place_a ∙ meets ec b (at.from ec (here a ec place_a at_a)) (before b ec place_b at_b)
    by_places ec a b at_a at_b false place_a true place_b =
        sym (same b place_b ∙ meets ec a (at.from ec (here b ec place_b at_b)) (before a ec place_a at_a))
    by_places ec a b at_a at_b false place_a false place_b = are.alone ec a b (before a ec place_a at_a) (before b ec place_b at_b)

-- what one semaphore becomes
pub record IsSoundOne (all : Semaphores) (sm : ℕ) (s : Semaphore) : Type 0 where
  pub once : AreOnce s.waiting
  pub from : (ec : ℕ) → has s.waiting ec ≡ true → (waits all sm ec ≡ true) ⊎ IsFree all ec
  pub idle : (ec : ℕ) → has s.waiting ec ≡ true → s.count ≡ 0

pub changed_sound : (change : Semaphore → Semaphore) (all : Semaphores) (sm : ℕ) → AreSound all → IsSoundOne all sm (change (semaphore all sm)) → AreSound (changed change all sm)
changed_sound change all sm are one = by_entry (semaphore_at all sm) refl
  where
    by_entry : (o : Option Semaphore) → semaphore_at all sm ≡ o → AreSound (changed_by change all sm o)
    by_entry None is = are
    by_entry (Some s) is =
        let now : semaphore (changed_by change all sm (Some s)) sm ≡ change (semaphore all sm) =
        ap semaphore_in (set_same all sm s (change s) is) ∙ ap (λ (o : Option Semaphore). change (semaphore_in o)) (sym is) in
        sound_at all (changed_by change all sm (Some s)) sm are (record {
          others = subst (λ (o : Option Semaphore). ChangesOne all sm (changed_by change all sm o)) is (changed_other change all sm);
          once = subst (λ (x : Semaphore). AreOnce x.waiting) (sym now) one.once;
          from = λ ec waiting. one.from ec (ap (λ (x : Semaphore). has x.waiting ec) (sym now) ∙ waiting);
          idle = λ ec waiting. ap (λ (x : Semaphore). x.count) now ∙ one.idle ec (ap (λ (x : Semaphore). has x.waiting ec) (sym now) ∙ waiting);
        })

up_one : (all : Semaphores) (sm : ℕ) (s : Semaphore) → AreOnce s.waiting → ((ec : ℕ) → has s.waiting ec ≡ true → waits all sm ec ≡ true) →
    ((ec : ℕ) → has s.waiting ec ≡ true → s.count ≡ 0) → IsSoundOne all sm (raised s)
up_one all sm s once from idle = by_waiting s.count s.waiting once from idle
  where
    more : (x ec : ℕ) (ecs : List ℕ) → has ecs x ≡ true → has (ec ∷ ecs) x ≡ true
    more x ec ecs is = grind (arith, is)

    by_waiting : (count : ℕ) (ecs : List ℕ) → AreOnce ecs → ((ec : ℕ) → has ecs ec ≡ true → waits all sm ec ≡ true) →
        ((ec : ℕ) → has ecs ec ≡ true → count ≡ 0) → IsSoundOne all sm (raised_with count ecs)
    by_waiting count [] once from idle = record {
      once = tt;
      from = λ ec is. absurd cc;
      idle = λ ec is. absurd cc;
    }
    by_waiting count (first ∷ ecs) once from idle = record {
      once = once.1;
      from = λ ec is. inl (from ec (more ec first ecs is));
      idle = λ ec is. idle ec (more ec first ecs is);
    }

down_one : (all : Semaphores) (sm ec : ℕ) → IsFree all ec → AreSound all → IsSoundOne all sm (lowered ec (semaphore all sm))
down_one all sm ec free are = by_count (semaphore all sm) (are.once sm) (free sm) (λ x is. is) (λ x is. are.idle sm x is)
  where
    by_who : (ecs : List ℕ) (x : ℕ) → ((x : ℕ) → has ecs x ≡ true → waits all sm x ≡ true) → (t : Bool) → eqb x ec ≡ t → has (ecs ++ ec ∷ []) x ≡ true → (waits all sm x ≡ true) ⊎ IsFree all x
    by_who ecs x from true who is = inr (subst (IsFree all) (let e : ec ≡ x = grind (arith, who) in e) free)
    by_who ecs x from false who is = inl (from x (let e : has ecs x ≡ true = grind (arith, has_append ecs ec x, who, is) in e))

    by_test : (s : Semaphore) → AreOnce s.waiting → has s.waiting ec ≡ false → ((x : ℕ) → has s.waiting x ≡ true → waits all sm x ≡ true) →
        ((x : ℕ) → has s.waiting x ≡ true → s.count ≡ 0) → (t : Bool) → (s.count == 0) ≡ t →
        IsSoundOne all sm (if t then record s { waiting = s.waiting ++ ec ∷ [] } else record s { count = s.count - 1 })
    by_test s once not_there from idle true is = record {
      once = once_append s.waiting ec once not_there;
      from = λ x waiting. by_who s.waiting x from (eqb x ec) refl waiting;
      idle = λ x waiting. grind (arith, is);
    }
    by_test s once not_there from idle false is = record {
      once = once;
      from = λ x waiting. inl (from x waiting);
      idle = λ x waiting. let zero_count : s.count ≡ 0 = idle x waiting in omega (arith, zero_count);
    }

    by_count : (s : Semaphore) → AreOnce s.waiting → has s.waiting ec ≡ false → ((x : ℕ) → has s.waiting x ≡ true → waits all sm x ≡ true) →
        ((x : ℕ) → has s.waiting x ≡ true → s.count ≡ 0) → IsSoundOne all sm (lowered ec s)
    by_count s once not_there from idle = by_test s once not_there from idle (s.count == 0) refl

pub up_sound : (all : Semaphores) (sm : ℕ) → AreSound all → AreSound (upped all sm)
up_sound all sm are =
    changed_sound raised all sm are (up_one all sm (semaphore all sm) (are.once sm) (λ ec is. is) (λ ec is. are.idle sm ec is))

pub down_sound : (all : Semaphores) (sm ec : ℕ) → IsFree all ec → AreSound all → AreSound (downed all sm ec)
down_sound all sm ec free are = changed_sound (lowered ec) all sm are (down_one all sm ec free are)

abbrev pub recounted : ℕ → Semaphore → Semaphore
recounted count s = record s { count = count }

-- where none waits the counter may be any
pub count_sound : (all : Semaphores) (sm count : ℕ) → AreSound all → (semaphore all sm).waiting ≡ [] → AreSound (changed (recounted count) all sm)
count_sound all sm count are none =
    changed_sound (recounted count) all sm are (record {
      once = are.once sm;
      from = λ ec is. inl is;
      idle = λ ec is. let nobody : has [] ec ≡ true = ap (λ (ecs : List ℕ). has ecs ec) (sym none) ∙ is in absurd cc;
    })

-- at a new entry none waits
pub nobody_at : (all : Semaphores) (count : Option ℕ) → (semaphore (all ++ option_map idle_semaphore count ∷ []) (length all)).waiting ≡ []
nobody_at all count =
    ap (λ (o : Option Semaphore). (semaphore_in o).waiting) (more_same all (option_map idle_semaphore count)) ∙ by_count count
  where
    by_count : (o : Option ℕ) → (semaphore_in (option_map idle_semaphore o)).waiting ≡ []
    by_count None = refl
    by_count (Some n) = refl

pub add_sound : (all : Semaphores) (count : Option ℕ) → AreSound all → AreSound (all ++ option_map idle_semaphore count ∷ [])
add_sound all count are =
    sound_at all (all ++ option_map idle_semaphore count ∷ []) (length all) are (record {
      others = more_other all (option_map idle_semaphore count);
      once = subst AreOnce (sym (nobody_at all count)) tt;
      from = λ ec is. absurd (nobody ec is);
      idle = λ ec is. absurd (nobody ec is);
    })
  where
    nobody : (ec : ℕ) → ¬ (waits (all ++ option_map idle_semaphore count ∷ []) (length all) ec ≡ true)
    nobody ec is = let none : has [] ec ≡ true = ap (λ (ecs : List ℕ). has ecs ec) (sym (nobody_at all count)) ∙ is in absurd cc

pub each_waits_alone : EachWaitsAlone
each_waits_alone = record {
  none = record {
    once = λ sm. tt;
    alone = λ ec a b is of. absurd cc;
    idle = λ sm ec is. absurd cc;
  };
  add = add_sound;
  up = up_sound;
  down = down_sound;
}
