-- Turns that are apart from all others come first, whatever the order.
use Rattle.std.proofs.Common.{◌≡◌, ℕ, zero, suc, ◌+◌, ◌<◌, ◌≤◌, List, [], ◌∷◌, ◌++◌, length, refl, ap, sym, subst, ◌∙◌, append_assoc, arith, inl, inr}
use Rattle.std.specs.Prelude.{◌⊎◌, ◌≢◌, ◌==◌, Bool, true, false, Option, None, slice_index_or}
use Rattle.std.proofs.lemmas.List.Elements.{All-contains, Contains-get_or}
use Rattle.nova_model.specs.State.{KernelState}
use Rattle.nova_model.specs.Turn.{Step, state_after, turn}
use Rattle.nova_model.specs.Runs.{after, run}
use Rattle.nova_search.specs.Merged.{HasOne, IsApt, IsOne, IsOneAt, StaysOne}
use Rattle.nova_search.specs.Searches.{AreProcessors, IsReached}
use Rattle.nova_search.specs.Reductions.{AreNoted, IsCovered, IsFull, IsLone, IsNoted, IsReduction, IsStill, IsTaken, Swaps, Touches}
use Rattle.nova_search.specs.declared.merging.Merging.{Merging}

-- no turn of an order is of this processor
abbrev IsWithout : ℕ → List ℕ → Type 0
IsWithout p [] = Unit {0}
IsWithout p (q ∷ order) = (p ≢ q) × IsWithout p order

-- an order has no turn of a processor, or a first one
record HasFirst (p : ℕ) (order : List ℕ) : Type 0 where
  before : List ℕ
  rest : List ℕ
  whole : order ≡ before ++ p ∷ rest
  without : IsWithout p before

first_of : (p : ℕ) (order : List ℕ) → IsWithout p order ⊎ HasFirst p order
first_of p [] = inl tt
first_of p (q ∷ order) = by_test (p == q) refl (first_of p order)
  where
    by_test : (t : Bool) → (p == q) ≡ t → IsWithout p order ⊎ HasFirst p order → IsWithout p (q ∷ order) ⊎ HasFirst p (q ∷ order)
    by_test true is found = inr (record { before = []; rest = order; whole = (let same : q ≡ p = grind (arith, is) in ap (λ (c : ℕ). c ∷ order) same); without = tt })
    by_test false is (inl none) = inl ((λ (same : p ≡ q). grind (arith, is, same)), none)
    by_test false is (inr found) = inr (record {
      before = q ∷ found.before;
      rest = found.rest;
      whole = ap (λ (l : List ℕ). q ∷ l) found.whole;
      without = ((λ (same : p ≡ q). grind (arith, is, same)), found.without);
    })

pub run_through : (s : KernelState) (before rest : List ℕ) → run s (before ++ rest) ≡ run (run s before) rest
run_through s [] rest = refl
run_through s (q ∷ before) rest = run_through (after s q) before rest

processors_before : (n : ℕ) (before rest : List ℕ) → AreProcessors n (before ++ rest) → AreProcessors n before
processors_before n [] rest are = tt
processors_before n (q ∷ before) rest are = (are.0, processors_before n before rest are.1)

processors_after : (n : ℕ) (before rest : List ℕ) → AreProcessors n (before ++ rest) → AreProcessors n rest
processors_after n [] rest are = are
processors_after n (q ∷ before) rest are = processors_after n before rest are.1

processors_through : (n : ℕ) (before rest : List ℕ) → AreProcessors n before → AreProcessors n rest → AreProcessors n (before ++ rest)
processors_through n [] rest first second = second
processors_through n (q ∷ before) rest first second = (first.0, processors_through n before rest first.1 second)

length_through : (p : ℕ) (before rest : List ℕ) → length (before ++ p ∷ rest) ≡ suc (length (before ++ rest))
length_through p [] rest = refl
length_through p (q ∷ before) rest = ap suc (length_through p before rest)

any_place : (l : List KernelState) (i : ℕ) (d e : KernelState) → i < length l → slice_index_or l i d ≡ slice_index_or l i e
any_place [] i d e less = absurd (omega (arith, less))
any_place (s ∷ l) zero d e less = refl
any_place (s ∷ l) (suc i) d e less = any_place l i d e (omega (arith, less))

-- where no processor has a turn to take, turns lead nowhere
still : (n : ℕ) (s : KernelState) (more : List ℕ) → IsStill n s → AreProcessors n more → run s more ≡ s
still n s [] is are = refl
still n s (q ∷ more) is are = ap (λ (x : KernelState). run x more) (is q are.0) ∙ still n s more is are.1

-- an idle processor leaves all as it was
pub idle_still : (s : KernelState) → ((cpu : ℕ) → cpu < s.cpus → turn s cpu ≡ None) → (n : ℕ) → s.cpus ≡ n → IsStill n s
idle_still s idle n same q is = ap (λ (o : Option Step). state_after s o) (idle q (subst (λ (m : ℕ). q < m) (sym same) is))

-- NOTES ALONG AN ORDER

module _ (T : Type 0) (touched : KernelState → ℕ → T → Type 0) (noted : ℕ → T → Bool) (m : Merging) where
  abbrev Noted : KernelState → List ℕ → Type 0
  Noted s order = AreNoted T touched noted m s order

  notes_before : (s : KernelState) (before rest : List ℕ) → Noted s (before ++ rest) → Noted s before
  notes_before s [] rest notes = tt
  notes_before s (q ∷ before) rest notes = (notes.0, notes_before (after s q) before rest notes.1)

  pub notes_after : (s : KernelState) (before rest : List ℕ) → Noted s (before ++ rest) → Noted (run s before) rest
  notes_after s [] rest notes = notes
  notes_after s (q ∷ before) rest notes = notes_after (after s q) before rest notes.1

  notes_through : (s : KernelState) (before rest : List ℕ) → Noted s before → Noted (run s before) rest → Noted s (before ++ rest)
  notes_through s [] rest first second = second
  notes_through s (q ∷ before) rest first second = (first.0, notes_through (after s q) before rest first.1 second)

-- SWAPPED TURNS

module _ (m : Merging) (itself : (s : KernelState) → IsOne m s s) (back : (s t : KernelState) → IsOne m s t → IsOne m t s)
    (through : (s t u : KernelState) → IsOne m s t → IsOne m t u → IsOne m s u)
    (turns : (s t : KernelState) (cpu : ℕ) → IsApt s → IsApt t → IsOne m s t → StaysOne m s cpu → IsOne m (after s cpu) (after t cpu))
    (goes_on : (s : KernelState) (cpu : ℕ) → IsApt s → IsApt (after s cpu))
    (T : Type 0) (touched : KernelState → ℕ → T → Type 0) (apart : ℕ → T → ℕ → T → Bool) (noted lone : ℕ → T → Bool)
    (k : KernelState) (states : List KernelState) (swaps : Swaps T touched apart m) (is : IsReduction T touched apart noted lone m k states) (apt_first : IsApt k) where
  abbrev Noting : KernelState → List ℕ → Type 0
  Noting s order = AreNoted T touched noted m s order

  apt_run : (s : KernelState) (order : List ℕ) → IsApt s → IsApt (run s order)
  apt_run s [] apt = apt
  apt_run s (q ∷ order) apt = apt_run (after s q) order (goes_on s q apt)

  -- an order from a state that is one with another
  record IsAlong (s t : KernelState) (order : List ℕ) : Type 0 where
    notes : Noting t order
    state : IsOne m (run s order) (run t order)

  noted_too : (s t : KernelState) (q : ℕ) → IsApt s → IsApt t → IsOne m s t → IsNoted T touched noted m s q → IsNoted T touched noted m t q
  noted_too s t q apt other same n = record { touch = n.touch; touches = swaps.one s t q n.touch apt other same n.touches; is = n.is }

  along : (s t : KernelState) (order : List ℕ) → IsApt s → IsApt t → IsOne m s t → Noting s order → IsAlong s t order
  along s t [] apt other same notes = record { notes = tt; state = same }
  along s t (q ∷ order) apt other same notes =
      let rest : IsAlong (after s q) (after t q) order =
      along (after s q) (after t q) order (goes_on s q apt) (goes_on t q other) (turns s t q apt other same notes.0.touches.stays) notes.1 in
      record { notes = (noted_too s t q apt other same notes.0, rest.notes); state = rest.state }

  -- turns of others, and then a turn that is apart from them
  record AreSwapped (s : KernelState) (p : ℕ) (a : T) (order : List ℕ) : Type 0 where
    state : IsOne m (run (after s p) order) (after (run s order) p)
    notes : Noting s order
    touches : Touches T touched m (run s order) p a

  swapped : (s : KernelState) (p : ℕ) (a : T) (order : List ℕ) → IsApt s → Touches T touched m s p a → lone p a ≡ true → IsWithout p order → Noting (after s p) order →
      AreSwapped s p a order
  swapped s p a [] apt touches alone without notes = record { state = itself (after s p); notes = tt; touches = touches }
  swapped s p a (q ∷ order) apt touches alone without notes =
      let n : IsNoted T touched noted m (after s p) q = notes.0 in
      let are : apart p a q n.touch ≡ true = is.are_apart p q a n.touch without.0 alone n.is in
      let state : IsOne m (after (after s q) p) (after (after s p) q) = swaps.state s p q a n.touch apt without.0 touches n.touches are in
      let moved : IsAlong (after (after s p) q) (after (after s q) p) order =
      along (after (after s p) q) (after (after s q) p) order (goes_on (after s p) q (goes_on s p apt)) (goes_on (after s q) p (goes_on s q apt))
      (back (after (after s q) p) (after (after s p) q) state) notes.1 in
      let rest : AreSwapped (after s q) p a order =
      swapped (after s q) p a order (goes_on s q apt) (swaps.first s p q a n.touch apt without.0 touches n.touches are) alone without.1 moved.notes in
      record {
        state = through (run (after (after s p) q) order) (run (after (after s q) p) order) (after (run (after s q) order) p) moved.state rest.state;
        notes = (record { touch = n.touch; touches = swaps.second s p q a n.touch apt without.0 touches n.touches are; is = n.is }, rest.notes);
        touches = rest.touches;
      }

  -- a lone turn comes behind turns of others that were noted after it
  record IsBehind (s : KernelState) (p : ℕ) (before rest : List ℕ) : Type 0 where
    notes : Noting s (before ++ p ∷ rest)
    state : IsOne m (run (after s p) (before ++ rest)) (run s (before ++ p ∷ rest))

  behind : (s : KernelState) (p : ℕ) (a : T) (before rest : List ℕ) → IsApt s → Touches T touched m s p a → lone p a ≡ true → noted p a ≡ true → IsWithout p before →
      Noting (after s p) (before ++ rest) → IsBehind s p before rest
  behind s p a before rest apt touches alone note without notes = record {
    notes = notes_through T touched noted m s before (p ∷ rest) swap.notes (record { touch = a; touches = swap.touches; is = note }, moved.notes);
    state = subst (λ (x : KernelState). IsOne m x (run s (before ++ p ∷ rest))) (sym (run_through (after s p) before rest))
        (subst (λ (x : KernelState). IsOne m (run (run (after s p) before) rest) x) (sym (run_through s before (p ∷ rest))) moved.state);
  }
    where
      swap : AreSwapped s p a before
      swap = swapped s p a before apt touches alone without (notes_before T touched noted m (after s p) before rest notes)

      moved : IsAlong (run (after s p) before) (after (run s before) p) rest
      moved = along (run (after s p) before) (after (run s before) p) rest (apt_run (after s p) before (goes_on s p apt)) (goes_on (run s before) p (apt_run s before apt))
          swap.state (notes_after T touched noted m (after s p) before rest notes)

  -- COVERED ORDERS

  abbrev Covered : KernelState → List ℕ → Type 0
  Covered s order = IsCovered T touched noted m k.cpus states s order

  -- all orders up to a length, from states that are one with one that was found
  abbrev Covers : ℕ → Type 0
  Covers most = (place : ℕ) (s : KernelState) (order : List ℕ) → IsOneAt m states place s → IsApt s → AreProcessors k.cpus order → length order ≤ most → Covered s order

  has_too : (s t : KernelState) → IsOne m s t → HasOne m states s → HasOne m states t
  has_too s t same has = record { one = has.one; there = has.there; is = through has.one s t has.is same }

  at_too : (place : ℕ) (s t : KernelState) → IsOne m s t → IsOneAt m states place s → IsOneAt m states place t
  at_too place s t same at = record { there = at.there; is = λ d. through (slice_index_or states place d) s t (at.is d) same }

  has_at : (s : KernelState) (has : HasOne m states s) → IsOneAt m states has.there.0 s
  has_at s has = record {
    there = has.there.1;
    is = λ d. subst (λ (x : KernelState). IsOne m x s) (sym (any_place states has.there.0 d has.one has.there.1 ∙ has.there.2)) has.is;
  }

  apt_at : (place : ℕ) → place < length states → IsApt (slice_index_or states place k)
  apt_at place less =
      let reached : IsReached k (slice_index_or states place k) =
      All-contains (IsReached k) states (slice_index_or states place k) is.reached (Contains-get_or states place k less) in
      subst (λ (x : KernelState). IsApt x) (sym reached.way.state) (apt_run k reached.order apt_first)

  module _ (place : ℕ) (s : KernelState) (at : IsOneAt m states place s) (apt : IsApt s) where
    abbrev r : KernelState
    r = slice_index_or states place k

    note_here : (q : ℕ) → IsNoted T touched noted m r q → IsNoted T touched noted m s q
    note_here q n = noted_too r s q (apt_at place at.there) apt (at.is k) n

    after_here : (q : ℕ) → IsNoted T touched noted m r q → IsOne m (after r q) (after s q)
    after_here q n = turns r s q (apt_at place at.there) apt (at.is k) n.touches.stays

    -- the turn of each processor was taken
    by_all : (most : ℕ) → Covers most → (q : ℕ) (order : List ℕ) → AreProcessors k.cpus (q ∷ order) → length order ≤ most → IsFull T touched noted m k.cpus states r →
        Covered s (q ∷ order)
    by_all most covers q order are few f =
        let has : HasOne m states (after s q) = has_too (after r q) (after s q) (after_here q (f.notes q are.0)) (f.each q are.0) in
        let c : Covered (after s q) order = covers has.there.0 (after s q) order (has_at (after s q) has) (goes_on s q apt) are.1 few in
        record { more = c.more; processors = c.processors; notes = (note_here q (f.notes q are.0), c.notes); there = c.there }

    module _ (l : IsLone T touched noted lone m k.cpus states place r) where
      abbrev p : ℕ
      p = l.cpu

      next : IsOneAt m states l.next (after s p)
      next = at_too l.next (after r p) (after s p) (after_here p l.note) l.is

      -- the lone turn comes behind these
      lone_behind : (before rest : List ℕ) → IsWithout p before → Noting (after s p) (before ++ rest) → IsBehind s p before rest
      lone_behind before rest without notes =
          behind s p l.note.touch before rest apt (swaps.one r s p l.note.touch (apt_at place at.there) apt (at.is k) l.note.touches) l.alone l.note.is without notes

      -- it isn't in the order: it comes after it
      by_last : (order : List ℕ) → IsWithout p order → Covered (after s p) order → Covered s order
      by_last order without c =
          let b : IsBehind s p order c.more = lone_behind order c.more without c.notes in
          record {
            more = p ∷ c.more;
            processors = (l.processor, c.processors);
            notes = b.notes;
            there = has_too (run (after s p) (order ++ c.more)) (run s (order ++ p ∷ c.more)) b.state c.there;
          }

      -- it is somewhere in it
      by_first : (most : ℕ) → Covers most → (order : List ℕ) → HasFirst p order → AreProcessors k.cpus order → length order ≤ suc most → Covered s order
      by_first most covers order first are few =
          subst (λ (o : List ℕ). Covered s o) (sym first.whole) (record {
            more = c.more;
            processors = c.processors;
            notes = subst (λ (o : List ℕ). Noting s o) (sym whole) b.notes;
            there = subst (λ (o : List ℕ). HasOne m states (run s o)) (sym whole)
                (has_too (run (after s p) (first.before ++ rest)) (run s (first.before ++ p ∷ rest)) b.state (subst (λ (o : List ℕ). HasOne m states (run (after s p) o)) shorter c.there));
          })
        where
          there : AreProcessors k.cpus (first.before ++ p ∷ first.rest)
          there = subst (λ (o : List ℕ). AreProcessors k.cpus o) first.whole are

          long : length order ≡ suc (length (first.before ++ first.rest))
          long = ap length first.whole ∙ length_through p first.before first.rest

          c : Covered (after s p) (first.before ++ first.rest)
          c = covers l.next (after s p) (first.before ++ first.rest) next (goes_on s p apt)
              (processors_through k.cpus first.before first.rest (processors_before k.cpus first.before (p ∷ first.rest) there)
              (processors_after k.cpus first.before (p ∷ first.rest) there).1) (omega (arith, long, few))

          rest : List ℕ
          rest = first.rest ++ c.more

          whole : (first.before ++ p ∷ first.rest) ++ c.more ≡ first.before ++ p ∷ rest
          whole = append_assoc first.before (p ∷ first.rest) c.more

          shorter : (first.before ++ first.rest) ++ c.more ≡ first.before ++ rest
          shorter = append_assoc first.before first.rest c.more

          b : IsBehind s p first.before rest
          b = lone_behind first.before rest first.without (subst (λ (o : List ℕ). Noting (after s p) o) shorter c.notes)

      by_lone : (most : ℕ) → Covers most → (q : ℕ) (order : List ℕ) → Covered (after s p) (q ∷ order) → AreProcessors k.cpus (q ∷ order) →
          length order ≤ most → IsWithout p (q ∷ order) ⊎ HasFirst p (q ∷ order) → Covered s (q ∷ order)
      by_lone most covers q order c are few (inl without) = by_last (q ∷ order) without c
      by_lone most covers q order c are few (inr first) =
          by_first most covers (q ∷ order) first are (let long : length (q ∷ order) ≡ suc (length order) = refl in omega (arith, few, long))

  -- places from the last one back
  by_place : (most : ℕ) → Covers most → (left : ℕ) (place : ℕ) (s : KernelState) (q : ℕ) (order : List ℕ) → length states ≤ place + left → IsOneAt m states place s → IsApt s →
      AreProcessors k.cpus (q ∷ order) → length order ≤ most → Covered s (q ∷ order)
  by_place most covers zero place s q order far at apt are few = absurd (let there = at.there in omega (arith, far, there))
  by_place most covers (suc left) place s q order far at apt are few =
      by_way (λ l. by_place most covers left l.next (after s l.cpu) q order (let later = l.later in omega (arith, far, later)) (next place s at apt l) (goes_on s l.cpu apt) are few)
      (is.each place k at.there)
    where
      by_way : ((l : IsLone T touched noted lone m k.cpus states place (slice_index_or states place k)) → Covered (after s l.cpu) (q ∷ order)) →
          IsTaken T touched noted lone m k.cpus states place (slice_index_or states place k) → Covered s (q ∷ order)
      by_way again (inl f) = by_all place s at apt most covers q order are few f
      by_way again (inr l) = by_lone place s at apt l most covers q order (again l) are few (first_of l.cpu (q ∷ order))

  covered : (most : ℕ) → Covers most
  covered most place s [] at apt are few =
      record { more = []; processors = tt; notes = tt; there = record { one = slice_index_or states place k; there = Contains-get_or states place k at.there; is = at.is k } }
  covered zero place s (q ∷ order) at apt are few = absurd (let long : length (q ∷ order) ≡ suc (length order) = refl in omega (arith, few, long))
  covered (suc most) place s (q ∷ order) at apt are few =
      by_place most (covered most) (length states) place s q order (omega arith) at apt are (let long : length (q ∷ order) ≡ suc (length order) = refl in omega (arith, few, long))

  pub all_covered : (order : List ℕ) → AreProcessors k.cpus order → Covered k order
  all_covered order are =
      let has : HasOne m states k = record { one = k; there = is.opening; is = itself k } in
      covered (length order) has.there.0 k order (has_at k has) apt_first are (omega arith)

  -- where no processor has a turn to take after an order, the state after it was found
  pub still_found : (order : List ℕ) → AreProcessors k.cpus order → IsStill k.cpus (run k order) → HasOne m states (run k order)
  still_found order are ends =
      let c : Covered k order = all_covered order are in
      subst (λ (x : KernelState). HasOne m states x) (run_through k order c.more ∙ still k.cpus (run k order) c.more ends c.processors) c.there
