-- Which contexts wait where, after each change.
use Rattle.std.proofs.Common.{◌≡◌, ℕ, List, [], ◌∷◌, ◌++◌, length, refl, ap, sym, subst, ◌∙◌, arith}
use Rattle.std.specs.Prelude.{◌==◌, ◌||◌, ◌-◌, eqb, Bool, true, false, if◌then◌else◌, Option, Some, None, IsSome, option_map, Result}
use Rattle.std.specs.declared.result.Result.TheVariants.{Ok, Err}
use Rattle.nova_model.specs.State.{Semaphore}
use Rattle.nova_model.specs.Creation.{idle_semaphore}
use Rattle.nova_model.specs.Semaphores.{Semaphores, semaphore_at, semaphore, semaphore_in, has, waits, greatest, changed, changed_by, woken, woken_of, raised, raised_with, lowered, upped}
use Rattle.nova_sem.specs.Sound.{AreOnce, AreSound, IsFree}
use Rattle.nova_sem.specs.Waiting.{AllWaitAsBefore, OnlyTheWokenGoes, OnlyTheBlockedComes}
use Rattle.nova_model.specs.declared.semaphore.Overflow.{Overflow}
use Rattle.nova_model.specs.declared.semaphore.Down.TheVariants.{Done, Blocked}
use Rattle.nova_sem.proofs.Tables.{set_same, more_other}
use Rattle.nova_sem.proofs.Changes.{changed_other}
use Rattle.nova_sem.proofs.Sound.{has_append, nobody_at}

-- a context that the change leaves where it was
pub changed_waits : (change : Semaphore → Semaphore) (all : Semaphores) (sm ec : ℕ) → has (change (semaphore all sm)).waiting ec ≡ has (semaphore all sm).waiting ec →
    (a : ℕ) → waits (changed change all sm) a ec ≡ waits all a ec
changed_waits change all sm ec same a = by_place (a == sm) refl
  where
    by_entry : (o : Option Semaphore) → semaphore_at all sm ≡ o → waits (changed_by change all sm o) sm ec ≡ waits all sm ec
    by_entry None is = refl
    by_entry (Some s) is =
        ap (λ (o : Option Semaphore). has (semaphore_in o).waiting ec) (set_same all sm s (change s) is)
        ∙ ap (λ (o : Option Semaphore). has (change (semaphore_in o)).waiting ec) (sym is) ∙ same

    by_place : (t : Bool) → (a == sm) ≡ t → waits (changed change all sm) a ec ≡ waits all a ec
    by_place true place =
        let here : a ≡ sm = grind (arith, place) in
        ap (λ (n : ℕ). waits (changed change all sm) n ec) here ∙ by_entry (semaphore_at all sm) refl ∙ ap (λ (n : ℕ). waits all n ec) (sym here)
    by_place false place =
        ap (λ (o : Option Semaphore). has (semaphore_in o).waiting ec) (changed_other change all sm a (λ e. absurd (grind (arith, place, e))))

-- where there is a semaphore
changed_here : (change : Semaphore → Semaphore) (all : Semaphores) (sm : ℕ) (o : Option Semaphore) → semaphore_at all sm ≡ o → IsSome o →
    semaphore (changed_by change all sm o) sm ≡ change (semaphore_in o)
changed_here change all sm None is there = absurd cc
changed_here change all sm (Some s) is there = ap semaphore_in (set_same all sm s (change s) is)

-- UP

abbrev pub woken_if : Bool → Result (Option ℕ) Overflow
woken_if t = if t then Err (record {}) else Ok None

nobody_woken : (ec : ℕ) (t : Bool) → woken_if t ≡ Ok (Some ec) → has [] ec ≡ true
nobody_woken ec true is = absurd cc
nobody_woken ec false is = absurd cc

raised_others : (count ec : ℕ) (ecs : List ℕ) → woken_of count ecs ≡ Ok (Some ec) → (x : ℕ) → ¬ (x ≡ ec) → has (raised_with count ecs).waiting x ≡ has ecs x
raised_others count ec [] is x off = refl
raised_others count ec (e ∷ ecs) is x off =
    let same : e ≡ ec = cc in let apart : eqb x e ≡ false = grind (arith, same, off) in sym (ap (λ (t : Bool). t || has ecs x) apart)

raised_goes : (count ec : ℕ) (ecs : List ℕ) → woken_of count ecs ≡ Ok (Some ec) → AreOnce ecs → has (raised_with count ecs).waiting ec ≡ false
raised_goes count ec [] is once = refl
raised_goes count ec (e ∷ ecs) is once = let same : e ≡ ec = cc in ap (has ecs) (sym same) ∙ once.0

woken_waited : (count ec : ℕ) (ecs : List ℕ) → woken_of count ecs ≡ Ok (Some ec) → has ecs ec ≡ true
woken_waited count ec [] is = nobody_woken ec (count == greatest) is
woken_waited count ec (e ∷ ecs) is = let same : e ≡ ec = cc in grind (arith, same)

raised_nobody : (count : ℕ) (ecs : List ℕ) → ecs ≡ [] → (x : ℕ) → has (raised_with count ecs).waiting x ≡ has ecs x
raised_nobody count [] none x = refl
raised_nobody count (ec ∷ ecs) none x = absurd cc

woken_free : (all : Semaphores) (sm ec : ℕ) → AreSound all → woken (semaphore all sm) ≡ Ok (Some ec) → IsFree (upped all sm) ec
woken_free all sm ec are is a = by_place (a == sm) refl
  where
    by_entry : (o : Option Semaphore) → semaphore_at all sm ≡ o → waits (changed_by raised all sm o) sm ec ≡ false
    by_entry None at = ap (λ (o : Option Semaphore). has (semaphore_in o).waiting ec) at
    by_entry (Some s) at =
        ap (λ (o : Option Semaphore). has (semaphore_in o).waiting ec) (set_same all sm s (raised s) at)
        ∙ raised_goes s.count ec s.waiting (ap (λ (o : Option Semaphore). woken (semaphore_in o)) (sym at) ∙ is)
        (subst (λ (o : Option Semaphore). AreOnce (semaphore_in o).waiting) at (are.once sm))

    elsewhere : ¬ (a ≡ sm) → (t : Bool) → waits all a ec ≡ t → t ≡ false
    elsewhere off false waiting = refl
    elsewhere off true waiting = absurd (off (are.alone ec a sm waiting (woken_waited (semaphore all sm).count ec (semaphore all sm).waiting is)))

    by_place : (t : Bool) → (a == sm) ≡ t → waits (upped all sm) a ec ≡ false
    by_place true place =
        let here : a ≡ sm = grind (arith, place) in ap (λ (n : ℕ). waits (upped all sm) n ec) here ∙ by_entry (semaphore_at all sm) refl
    by_place false place =
        let off : ¬ (a ≡ sm) = λ e. absurd (grind (arith, place, e)) in
        ap (λ (o : Option Semaphore). has (semaphore_in o).waiting ec) (changed_other raised all sm a off) ∙ elsewhere off (waits all a ec) refl

pub only_the_woken_goes : OnlyTheWokenGoes
only_the_woken_goes = record {
  free = woken_free;
  up = λ all sm ec is a x off. changed_waits raised all sm x (raised_others (semaphore all sm).count ec (semaphore all sm).waiting is x off) a;
  nobody = λ all sm none a x. changed_waits raised all sm x (raised_nobody (semaphore all sm).count (semaphore all sm).waiting none x) a;
}

-- DOWN

has_last : (ecs : List ℕ) (ec : ℕ) → has (ecs ++ ec ∷ []) ec ≡ true
has_last ecs ec = has_append ecs ec ec ∙ either (has ecs ec) (eqb ec ec) (let e : eqb ec ec ≡ true = grind arith in e)
  where
    either : (a b : Bool) → b ≡ true → (a || b) ≡ true
    either true b is = refl
    either false b is = is

has_others : (ecs : List ℕ) (ec x : ℕ) → ¬ (x ≡ ec) → has (ecs ++ ec ∷ []) x ≡ has ecs x
has_others ecs ec x off = has_append ecs ec x ∙ neither (has ecs x) (eqb x ec) (let e : eqb x ec ≡ false = grind (arith, off) in e)
  where
    neither : (a b : Bool) → b ≡ false → (a || b) ≡ a
    neither true b is = refl
    neither false b is = is

abbrev lowered_if : Bool → ℕ → Semaphore → Semaphore
lowered_if t ec s = if t then record s { waiting = s.waiting ++ ec ∷ [] } else record s { count = s.count - 1 }

lowered_others : (s : Semaphore) (ec x : ℕ) → ¬ (x ≡ ec) → (t : Bool) → has (lowered_if t ec s).waiting x ≡ has s.waiting x
lowered_others s ec x off true = has_others s.waiting ec x off
lowered_others s ec x off false = refl

lowered_done : (s : Semaphore) (ec x : ℕ) (t : Bool) → (if t then Blocked else Done) ≡ Done → has (lowered_if t ec s).waiting x ≡ has s.waiting x
lowered_done s ec x true is = absurd cc
lowered_done s ec x false is = refl

lowered_blocked : (s : Semaphore) (ec : ℕ) (t : Bool) → (if t then Blocked else Done) ≡ Blocked → has (lowered_if t ec s).waiting ec ≡ true
lowered_blocked s ec true is = has_last s.waiting ec
lowered_blocked s ec false is = absurd cc

nothing_past : (all : Semaphores) → semaphore_at all (length all) ≡ None
nothing_past [] = refl
nothing_past (o ∷ all) = nothing_past all

-- a new entry wakes and blocks no context
pub added_waits : (all : Semaphores) (count : Option ℕ) → AllWaitAsBefore all (all ++ option_map idle_semaphore count ∷ [])
added_waits all count a x = by_place (a == length all) refl
  where
    more : Semaphores
    more = all ++ option_map idle_semaphore count ∷ []

    by_place : (t : Bool) → (a == length all) ≡ t → waits more a x ≡ waits all a x
    by_place true place =
        let here : a ≡ length all = grind (arith, place) in
        ap (λ (n : ℕ). waits more n x) here
        ∙ ap (λ (ecs : List ℕ). has ecs x) (nobody_at all count)
        ∙ sym (ap (λ (o : Option Semaphore). has (semaphore_in o).waiting x) (nothing_past all))
        ∙ ap (λ (n : ℕ). waits all n x) (sym here)
    by_place false place =
        ap (λ (o : Option Semaphore). has (semaphore_in o).waiting x) (more_other all (option_map idle_semaphore count) a (λ e. absurd (grind (arith, place, e))))

pub only_the_blocked_comes : OnlyTheBlockedComes
only_the_blocked_comes = record {
  blocked = λ all sm ec there is.
      ap (λ (s : Semaphore). has s.waiting ec) (changed_here (lowered ec) all sm (semaphore_at all sm) refl there)
      ∙ lowered_blocked (semaphore all sm) ec ((semaphore all sm).count == 0) is;
  down = λ all sm ec a x off. changed_waits (lowered ec) all sm x (lowered_others (semaphore all sm) ec x off ((semaphore all sm).count == 0)) a;
  done = λ all sm ec is a x. changed_waits (lowered ec) all sm x (lowered_done (semaphore all sm) ec x ((semaphore all sm).count == 0) is) a;
  add = added_waits;
}
