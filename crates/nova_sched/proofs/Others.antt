-- A change of one scheduling context leaves every other.
use Rattle.std.proofs.Common.{◌≡◌, ℕ, zero, suc, ◌+◌, ◌-◌, List, [], ◌∷◌, ◌++◌, length, refl, ap, arith}
use Rattle.std.specs.Prelude.{replicate, slice_set, Option, Some, None}
use Rattle.nova_sched.specs.Queues.{queued_at, marked_by, charged_by, new_entry}
use Rattle.nova_sched.specs.Lists.{entry_in}
use Rattle.nova_sched.specs.Precedence.{MarkedChangesOne, ChargedChangesOne, AddedChangesOne}
use Rattle.nova_sched.specs.declared.queued.Queued.{Queued}

pub set_other : (os : List (Option Queued)) (sc other : ℕ) (o : Option Queued) → ¬ (other ≡ sc) → entry_in (slice_set os sc o) other ≡ entry_in os other
set_other [] sc other o h = refl
set_other (x ∷ os) zero zero o h = absurd (h refl)
set_other (x ∷ os) zero (suc other) o h = refl
set_other (x ∷ os) (suc sc) zero o h = refl
set_other (x ∷ os) (suc sc) (suc other) o h = set_other os sc other o (λ same. h (ap suc same))

pub marked_changes_one : MarkedChangesOne
marked_changes_one s sc runnable other h = by_entry (queued_at s sc)
  where
    by_entry : (o : Option Queued) → queued_at (marked_by s sc runnable o) other ≡ queued_at s other
    by_entry None = refl
    by_entry (Some e) = set_other s.entries sc other (Some (record e { is_runnable = runnable })) h

pub charged_changes_one : ChargedChangesOne
charged_changes_one s sc other h = by_entry (queued_at s sc)
  where
    by_entry : (o : Option Queued) → queued_at (charged_by s sc o) other ≡ queued_at s other
    by_entry None = refl
    by_entry (Some e) = set_other s.entries sc other _ h

nothing_else : (k other : ℕ) (x : Queued) → ¬ (other ≡ k) → entry_in (replicate k None ++ Some x ∷ []) other ≡ entry_in [] other
nothing_else zero zero x h = absurd (h refl)
nothing_else zero (suc other) x h = refl
nothing_else (suc k) zero x h = refl
nothing_else (suc k) (suc other) x h = nothing_else k other x (λ same. h (ap suc same))

pub appended_other : (os : List (Option Queued)) (k other : ℕ) (x : Queued) → ¬ (other ≡ length os + k) →
    entry_in ((os ++ replicate k None) ++ Some x ∷ []) other ≡ entry_in os other
appended_other [] k other x h = nothing_else k other x (λ same. h (omega arith))
appended_other (o ∷ os) k zero x h = refl
appended_other (o ∷ os) k (suc other) x h = appended_other os k other x (λ same. h (omega arith))

pub added_changes_one : AddedChangesOne
added_changes_one s sc cpu priority quantum le other h =
    appended_other s.entries (sc - length s.entries) other (new_entry cpu priority quantum s.next_stamp) (λ same. h (omega arith))
