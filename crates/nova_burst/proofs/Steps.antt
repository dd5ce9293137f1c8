-- A step over copies is one of the lease.
use Rattle.std.proofs.Common.{◌≡◌, ◌≤◌, ℕ, zero, suc, ◌+◌, ◌%◌, List, [], ◌∷◌, ap, ap₂, sym, ◌∙◌, subst, refl, arith}
use Rattle.std.specs.Prelude.{Bool, true, false, ◌==◌, Option, Some, None, is_some, option_and_then, if◌then◌else◌}
use Rattle.std.specs.List.{All}
use Rattle.std.proofs.lemmas.Option.{same_Some}
use Rattle.byteorder.specs.Endian.{little_bytes}
use Rattle.rv_core.specs.Steps.{Follows, space_of}
use Rattle.rv_core.specs.declared.outcome.Outcome.{Outcome}
use Rattle.rv_core.specs.declared.outcome.Outcome.TheVariants.{Next, Raise}
use Rattle.rv_model.specs.Registers.{Registers}
use Rattle.rv_model.specs.Step.{Store, Once, Raised, Went, one}
use Rattle.nova_guest.specs.Frames.{frame_from, replaced}
use Rattle.nova_guest.specs.declared.page.Page.{Page as Place}
use Rattle.nova_range.specs.Rights.{write_right}
use Rattle.law_leases.specs.Leases.{LeaseState, copied_space, copy_at, lease_by, lease_put, lease_step, lease_steps, lease_written, stored_in_page, stored_in_pages}
use Rattle.law_leases.specs.declared.steps.Page.{Page}
use Rattle.law_leases.proofs.Taken.{IsTaken, one_taken}
use Rattle.nova_burst.specs.Copies.{CopiesState, HasFewStores, fetched, known_in, lease_of, loaded, put, put_at, takes}

-- what a step came to: on, as the lease's, or a stop where the lease has none
pub record HasGone (r s : Registers) (c d : CopiesState) : Type 0 where
  pub step : lease_step (known_in c.known) (lease_of r c) ≡ Some (lease_of s d)
  pub known : d.known ≡ c.known

pub record HasStopped (r s : Registers) (c d : CopiesState) : Type 0 where
  pub step : lease_step (known_in c.known) (lease_of r c) ≡ None
  pub regs : s ≡ r
  pub copies : d ≡ c

abbrev pub Came : Outcome → Registers → Registers → CopiesState → CopiesState → Type 0
Came Next r s c d = HasGone r s c d
Came (Raise reason q0 q1) r s c d = HasStopped r s c d

written_gone : (next : Registers) (c : CopiesState) (store : Store) (f : ℕ) (o : Option (List ℕ)) → is_some o ≡ true →
    lease_written next c.pages store f o ≡ Some (lease_of next (put_at c store (Some f)))
written_gone next c store f (Some b) h = refl
written_gone next c store f None h = absurd (cc)

put_gone : (next : Registers) (c : CopiesState) (store : Store) (o : Option ℕ) → is_some (option_and_then (copy_at c.pages) o) ≡ true →
    (lease_put next c.pages store o ≡ Some (lease_of next (put_at c store o))) × ((put_at c store o).known ≡ c.known)
put_gone next c store None h = absurd (cc)
put_gone next c store (Some f) h = (written_gone next c store f (copy_at c.pages f) h, refl)

by_once : (r s : Registers) (c d : CopiesState) (o : Once) (outcome : Outcome) → one r (copied_space (known_in c.known) c.pages) ≡ o →
    IsTaken (copied_space (known_in c.known) c.pages) o → Follows put o r c outcome s d → Came outcome r s c d
by_once r s c d (Raised reason q0 q1) outcome is taken f =
    subst (λ (x : Outcome). Came x r s c d) (sym f.0) (record { step = ap (lease_by (known_in c.known) c.pages) is; regs = f.1; copies = f.2 })
by_once r s c d (Went next None) outcome is taken f =
    subst (λ (x : Outcome). Came x r s c d) (sym f.0) (record {
      step = ap (lease_by (known_in c.known) c.pages) is ∙ ap₂ (λ (x : Registers) (y : CopiesState). Some (lease_of x y)) (sym f.1) (sym f.2);
      known = ap (λ (x : CopiesState). x.known) f.2;
    })
by_once r s c d (Went next (Some store)) outcome is taken f =
    let gone = put_gone next c store (frame_from (known_in c.known) write_right store.address) taken in
    subst (λ (x : Outcome). Came x r s c d) (sym f.0) (record {
      step = ap (lease_by (known_in c.known) c.pages) is ∙ (gone.0 ∙ ap₂ (λ (x : Registers) (y : CopiesState). Some (lease_of x y)) (sym f.1) (sym f.2));
      known = ap (λ (x : CopiesState). x.known) f.2 ∙ gone.1;
    })

pub came : (r s : Registers) (c d : CopiesState) (outcome : Outcome) → Follows put (one r (space_of fetched loaded takes c)) r c outcome s d → Came outcome r s c d
came r s c d outcome f = by_once r s c d (one r (copied_space (known_in c.known) c.pages)) outcome refl (one_taken (copied_space (known_in c.known) c.pages) r) f

pub gone : (r s : Registers) (c d : CopiesState) (outcome : Outcome) → outcome ≡ Next → Follows put (one r (space_of fetched loaded takes c)) r c outcome s d → HasGone r s c d
gone r s c d outcome is f = subst (λ (x : Outcome). Came x r s c d) is (came r s c d outcome f)

-- a store is counted once
stored_few : (f o w v n : ℕ) (p : Page) → p.stores ≤ n → (stored_in_page f o w v p).stores ≤ n + 1
stored_few f o w v n p h = by_test (p.frame == f)
  where
    by_test : (t : Bool) → (if t then record p { bytes = replaced p.bytes o (little_bytes w v); stores = p.stores + 1 } else p).stores ≤ n + 1
    by_test true = omega arith
    by_test false = omega arith

pages_few : (f o w v n : ℕ) (pages : List Page) → All (λ (p : Page). p.stores ≤ n) pages → All (λ (p : Page). p.stores ≤ n + 1) (stored_in_pages pages f o w v)
pages_few f o w v n [] h k d within = absurd (omega (arith, within))
pages_few f o w v n (p ∷ pages) h zero d within = stored_few f o w v n p (h 0 p (omega arith))
pages_few f o w v n (p ∷ pages) h (suc k) d within = pages_few f o w v n pages (λ i e low. h (suc i) e (omega (arith, low))) k d (omega (arith, within))

more_few : (n : ℕ) (c : CopiesState) → HasFewStores n c → HasFewStores (n + 1) c
more_few n c h k d within = let few = h k d within in omega arith

put_few : (n : ℕ) (c : CopiesState) (store : Store) (o : Option ℕ) → HasFewStores n c → HasFewStores (n + 1) (put_at c store o)
put_few n c store None h = more_few n c h
put_few n c store (Some f) h = pages_few f (store.address % 4096) store.width store.value n c.pages h

once_few : (n : ℕ) (r s : Registers) (c d : CopiesState) (o : Once) (outcome : Outcome) → Follows put o r c outcome s d → HasFewStores n c → HasFewStores (n + 1) d
once_few n r s c d (Raised reason q0 q1) outcome f h = subst (HasFewStores (n + 1)) (sym f.2) (more_few n c h)
once_few n r s c d (Went next None) outcome f h = subst (HasFewStores (n + 1)) (sym f.2) (more_few n c h)
once_few n r s c d (Went next (Some store)) outcome f h =
    subst (HasFewStores (n + 1)) (sym f.2) (put_few n c store (frame_from (known_in c.known) write_right store.address) h)

pub step_few : (n : ℕ) (r s : Registers) (c d : CopiesState) (outcome : Outcome) → Follows put (one r (space_of fetched loaded takes c)) r c outcome s d → HasFewStores n c →
    HasFewStores (n + 1) d
step_few n r s c d outcome f h = once_few n r s c d (one r (space_of fetched loaded takes c)) outcome f h

-- one step more
step_first : (known : ℕ → Option Place) (n : ℕ) (m p : LeaseState) (o : Option LeaseState) → option_and_then (lease_steps known n) o ≡ Some m →
    ((k : LeaseState) → lease_steps known n k ≡ Some m → lease_steps known (suc n) k ≡ Some p) → option_and_then (lease_steps known (suc n)) o ≡ Some p
step_first known n m p None g rest = absurd (cc)
step_first known n m p (Some k) g rest = rest k g

steps_last : (known : ℕ → Option Place) (n : ℕ) (l m p : LeaseState) → lease_steps known n l ≡ Some m → lease_step known m ≡ Some p → lease_steps known (suc n) l ≡ Some p
steps_last known zero l m p h step =
    ap (λ (k : LeaseState). option_and_then (lease_steps known zero) (lease_step known k)) (same_Some l m h) ∙ ap (option_and_then (lease_steps known zero)) step
steps_last known (suc n) l m p h step = step_first known n m p (lease_step known l) h (λ k g. steps_last known n k m p g step)

pub steps_more : (known : ℕ → Option Place) (n : ℕ) (l m p : LeaseState) → lease_steps known n l ≡ Some m → lease_step known m ≡ Some p → lease_steps known (n + 1) l ≡ Some p
steps_more known n l m p h step = let e : suc n ≡ n + 1 = omega arith in subst (λ (k : ℕ). lease_steps known k l ≡ Some p) e (steps_last known n l m p h step)
