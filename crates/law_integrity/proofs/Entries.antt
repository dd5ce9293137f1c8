-- What holds of each entry of a table after an effect: where an entry is set, and where one joins.
use Rattle.std.proofs.Common.{◌≡◌, ℕ, zero, suc, List, [], ◌∷◌, ◌++◌, length, refl, sym, ap, ◌∙◌}
use Rattle.std.specs.Prelude.{Bool, map, slice_get, slice_set, Option, Some, None, option_map}
use Rattle.std.proofs.lemmas.List.{length-map}
use Rattle.nova_model.specs.Semaphores.{Semaphores, changed_by, semaphore_at}
use Rattle.nova_model.specs.State.{Semaphore, entry}
use Rattle.law_forest.specs.Effects.{joined, put, semaphores_with}
use Rattle.law_turns.proofs.Setting.{set_length}
use Rattle.law_forest.proofs.Doing.{set_at}

pub put_each : {T : Type 0} (Q : Option T → Type 0) (xs : List (Option T)) (p : Option (ℕ × T)) (n : ℕ) → Q (entry (slice_get xs n)) →
    ((m : T) → p ≡ Some (n, m) → Q (Some m)) → Q (entry (slice_get (put xs p) n))
put_each Q xs None n old new = old
put_each {T} Q xs (Some (e, m)) n old new = set_at Q xs e n m old (λ same. new m (ap (λ (a : ℕ). Some (a, m)) (sym same)))

pub put_length : {T : Type 0} (xs : List (Option T)) (p : Option (ℕ × T)) → length (put xs p) ≡ length xs
put_length xs None = refl
put_length xs (Some (e, m)) = set_length xs e (Some m)

more_each : {T : Type 0} (Q : Option T → Type 0) (xs : List (Option T)) (b : Option T) (n : ℕ) → Q (entry (slice_get xs n)) → (n ≡ length xs → Q b) →
    Q (entry (slice_get (xs ++ b ∷ []) n))
more_each Q [] b zero old new = new refl
more_each Q [] b (suc n) old new = old
more_each Q (x ∷ xs) b zero old new = old
more_each Q (x ∷ xs) b (suc n) old new = more_each Q xs b n old (λ same. new (ap suc same))

pub join_each : {T M : Type 0} (Q : Option T → Type 0) (xs : List (Option T)) (born : M → Option T) (made : Option M) (n : ℕ) → Q (entry (slice_get xs n)) →
    ((m : M) → made ≡ Some m → n ≡ length xs → Q (born m)) → Q (entry (slice_get (joined xs (option_map born made)) n))
join_each Q xs born None n old new = old
join_each Q xs born (Some m) n old new = more_each Q xs (born m) n old (λ same. new m refl same)

pub change_each : (Q : Option Semaphore → Type 0) (all : Semaphores) (p : Option (ℕ × (Semaphore → Semaphore))) (n : ℕ) → Q (semaphore_at all n) →
    ((change : Semaphore → Semaphore) (s : Semaphore) → p ≡ Some (n, change) → semaphore_at all n ≡ Some s → Q (Some (change s))) → Q (semaphore_at (semaphores_with all p) n)
change_each Q all None n old new = old
change_each Q all (Some (sm, change)) n old new = by_entry (semaphore_at all sm) refl
  where
    by_entry : (o : Option Semaphore) → semaphore_at all sm ≡ o → Q (semaphore_at (changed_by change all sm o) n)
    by_entry None is = old
    by_entry (Some s) is =
        set_at Q all sm n (change s) old
        (λ same. new change s (ap (λ (a : ℕ). Some (a, change)) (sym same)) (ap (semaphore_at all) same ∙ is))

pub change_length : (all : Semaphores) (p : Option (ℕ × (Semaphore → Semaphore))) → length (semaphores_with all p) ≡ length all
change_length all None = refl
change_length all (Some (sm, change)) = by_entry (semaphore_at all sm)
  where
    by_entry : (o : Option Semaphore) → length (changed_by change all sm o) ≡ length all
    by_entry None = refl
    by_entry (Some s) = set_length all sm (Some (change s))

pub same_length : {A B : Type 0} (f : A → Bool) (g : B → Bool) (xs : List A) (ys : List B) → map f xs ≡ map g ys → length xs ≡ length ys
same_length f g xs ys same = sym (length-map xs f) ∙ ap length same ∙ length-map ys g

-- one of a list of others
pub get_set : {T : Type 0} (Q : Option T → Type 0) (xs : List T) (e n : ℕ) (x : T) → Q (slice_get xs n) → (n ≡ e → Q (Some x)) → Q (slice_get (slice_set xs e x) n)
get_set Q [] e n x old new = old
get_set Q (y ∷ xs) zero zero x old new = new refl
get_set Q (y ∷ xs) zero (suc n) x old new = old
get_set Q (y ∷ xs) (suc e) zero x old new = old
get_set Q (y ∷ xs) (suc e) (suc n) x old new = get_set Q xs e n x old (λ same. new (ap suc same))
