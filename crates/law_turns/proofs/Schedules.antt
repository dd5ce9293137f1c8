-- An execution context has at most one scheduling context, and a local thread has none.
use Rattle.std.proofs.Common.{◌≡◌, ℕ, zero, suc, List, [], ◌∷◌, ◌++◌, length, inl, inr, refl, sym, ap, ◌∙◌, subst}
use Rattle.std.specs.Prelude.{Bool, true, false, ◌==◌, slice_get, Option, Some, None, IfSome, option_map}
use Rattle.std.specs.List.{list_any}
use Rattle.nova_objects.specs.declared.object.Object.{Object}
use Rattle.nova_model.specs.Boot.{Scenario, bare, boot}
use Rattle.nova_model.specs.Capabilities.{is_schedulable}
use Rattle.nova_model.specs.Creation.{budget_of, object_of, stamp_past}
use Rattle.nova_model.specs.Hypercalls.{schedules}
use Rattle.nova_model.specs.Runs.{run}
use Rattle.nova_model.specs.declared.budget.Budget.{Budget}
use Rattle.nova_model.specs.declared.new_object.NewObject.{NewObject}
use Rattle.nova_model.specs.declared.new_object.NewObject.TheVariants as new
use Rattle.std.proofs.lemmas.Bool.{eqb-true}
use Rattle.law_forest.proofs.Members.{none_any}
use Rattle.law_turns.specs.Tables.{IsOf}
use Rattle.law_turns.proofs.Paying.{IsNew, Lasts, boot_run_holds}
use Rattle.law_turns.proofs.Setting.{get_joined, get_kept}
use Rattle.law_turns.proofs.TablesKept.{all_get}

pub record AreAlone (os : List Object) (bs : List (Option Budget)) (next : ℕ) : Type 0 where
  pub one : (ec m n : ℕ) → IsOf os (schedules ec) m → IsOf os (schedules ec) n → m ≡ n
  pub schedulable : (ec n : ℕ) → IsOf os (schedules ec) n → IsOf os is_schedulable ec

-- an object of a kind, as an object that is there
record IsAt (os : List Object) (is : Object → Bool) (n : ℕ) : Type 0 where
  object : Object
  at : slice_get os n ≡ Some object
  kind : is object ≡ true

of_kind : (os : List Object) (is : Object → Bool) (n : ℕ) → IsOf os is n → IsAt os is n
of_kind os is n h = by_object (slice_get os n) refl h
  where
    by_object : (o : Option Object) → slice_get os n ≡ o → option_map is o ≡ Some true → IsAt os is n
    by_object None at h = absurd (cc)
    by_object (Some o) at h = let kind : is o ≡ true = cc in record { object = o; at = at; kind = kind }

at_kind : (os : List Object) (is : Object → Bool) (n : ℕ) (o : Object) → slice_get os n ≡ Some o → is o ≡ true → IsOf os is n
at_kind os is n o at kind = ap (option_map is) at ∙ ap (λ (b : Bool). Some b) kind

-- where an object joins, what is of a kind was, or is it
data WasOf (os : List Object) (o : Object) (is : Object → Bool) (n : ℕ) : Type 0 where
  Was : IsOf os is n → WasOf os o is n
  Joins : n ≡ length os → is o ≡ true → WasOf os o is n

was_of : (os : List Object) (o : Object) (is : Object → Bool) (n : ℕ) → IsOf (os ++ o ∷ []) is n → WasOf os o is n
was_of os o is n h =
    let a = of_kind (os ++ o ∷ []) is n h in
    elim (get_joined os o n a.object a.at) [
      | inl there ↦ Was (at_kind os is n a.object there a.kind)
      | inr new ↦ Joins new.0 (ap is new.1 ∙ a.kind)
    ]

still_of : (os : List Object) (o : Object) (is : Object → Bool) (n : ℕ) → IsOf os is n → IsOf (os ++ o ∷ []) is n
still_of os o is n h = let a = of_kind os is n h in at_kind (os ++ o ∷ []) is n a.object (get_kept os o n a.object a.at) a.kind

-- none is of a kind that the list has none of
none_of : (os : List Object) (is : Object → Bool) (n : ℕ) → list_any is os ≡ false → IsOf os is n → ⊥
none_of os is n none h =
    let a = of_kind os is n h in
    let fails = subst (λ (o : Option Object). IfSome o (λ x. is x ≡ false)) a.at (all_get (λ x. is x ≡ false) os n (none_any is os none)) in
    let holds = a.kind in cc

-- what a new object schedules has no scheduling context yet, and may have one
record IsFirst (os : List Object) (ec : ℕ) : Type 0 where
  alone : list_any (schedules ec) os ≡ false
  may : IsOf os is_schedulable ec

new_first : (os : List Object) (made : NewObject) (ec : ℕ) → IsNew os made → schedules ec (object_of made) ≡ true → IsFirst os ec
new_first os (new.Sc its cpu priority quantum) ec fresh is =
    let same : its ≡ ec = eqb-true its ec is in
    subst (IsFirst os) same (record { alone = fresh.1; may = fresh.0 })
new_first os new.Pd ec fresh is = absurd (cc)
new_first os (new.Ec pd cpu kind sp event) ec fresh is = absurd (cc)
new_first os (new.Pt its mtd ip) ec fresh is = absurd (cc)
new_first os (new.Sm count) ec fresh is = absurd (cc)

more_alone : (os : List Object) (bs : List (Option Budget)) (next : ℕ) (made : NewObject) → IsNew os made → AreAlone os bs next →
    AreAlone (os ++ object_of made ∷ []) (bs ++ budget_of next made ∷ []) (stamp_past next made)
more_alone os bs next made fresh h = record { one = one; schedulable = schedulable }
  where
    both : (ec m n : ℕ) → WasOf os (object_of made) (schedules ec) m → WasOf os (object_of made) (schedules ec) n → m ≡ n
    both ec m n (Was first) (Was second) = h.one ec m n first second
    both ec m n (Was first) (Joins last is) = absurd (none_of os (schedules ec) m (new_first os made ec fresh is).alone first)
    both ec m n (Joins last is) (Was second) = absurd (none_of os (schedules ec) n (new_first os made ec fresh is).alone second)
    both ec m n (Joins first is) (Joins second too) = first ∙ sym second

    one : (ec m n : ℕ) → IsOf (os ++ object_of made ∷ []) (schedules ec) m → IsOf (os ++ object_of made ∷ []) (schedules ec) n → m ≡ n
    one ec m n first second = both ec m n (was_of os (object_of made) (schedules ec) m first) (was_of os (object_of made) (schedules ec) n second)

    may : (ec n : ℕ) → WasOf os (object_of made) (schedules ec) n → IsOf os is_schedulable ec
    may ec n (Was there) = h.schedulable ec n there
    may ec n (Joins last is) = (new_first os made ec fresh is).may

    schedulable : (ec n : ℕ) → IsOf (os ++ object_of made ∷ []) (schedules ec) n → IsOf (os ++ object_of made ∷ []) is_schedulable ec
    schedulable ec n is = still_of os (object_of made) is_schedulable ec (may ec n (was_of os (object_of made) (schedules ec) n is))

pub alone_lasts : Lasts AreAlone
alone_lasts = record {
  more = λ os bs next made fresh h. more_alone os bs next made fresh h;
  pays = λ os bs next sc ec cpu priority quantum b object there h. record { one = h.one; schedulable = h.schedulable };
}

root_alone : (s : Scenario) (ec n : ℕ) → IsOf (bare s.cpus s.ram s.consoles s.root).objects (schedules ec) n → (n ≡ 2) × (ec ≡ 1)
root_alone s ec zero is = absurd (cc)
root_alone s ec (suc zero) is = absurd (cc)
root_alone s ec (suc (suc zero)) is = let same : (1 == ec) ≡ true = cc in (refl, sym (eqb-true 1 ec same))
root_alone s ec (suc (suc (suc n))) is = absurd (cc)

pub run_alone : (s : Scenario) (turns : List ℕ) → AreAlone (run (boot s) turns).objects (run (boot s) turns).budgets (run (boot s) turns).next_stamp
run_alone s turns = boot_run_holds AreAlone alone_lasts s turns (record {
  one = λ ec m n first second. (root_alone s ec m first).0 ∙ sym (root_alone s ec n second).0;
  schedulable = λ ec n is. subst (IsOf (bare s.cpus s.ram s.consoles s.root).objects is_schedulable) (sym (root_alone s ec n is).1) refl;
})

pub one_each : (s : Scenario) (turns : List ℕ) (ec m n : ℕ) → IsOf (run (boot s) turns).objects (schedules ec) m → IsOf (run (boot s) turns).objects (schedules ec) n → m ≡ n
one_each s turns = (run_alone s turns).one

pub schedulable : (s : Scenario) (turns : List ℕ) (ec n : ℕ) → IsOf (run (boot s) turns).objects (schedules ec) n → IsOf (run (boot s) turns).objects is_schedulable ec
schedulable s turns = (run_alone s turns).schedulable
