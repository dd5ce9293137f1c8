-- A reduced search on its way: a state that is expanded by the turn of one processor, or by those of all.
use Rattle.std.proofs.Common.{◌≡◌, ◌⊎◌, ℕ, ◌+◌, ◌<◌, ◌≤◌, List, [], ◌∷◌, length, refl, ap, sym, subst, ◌∙◌, arith, inl, inr}
use Rattle.std.specs.Prelude.{◌&&◌, Bool, true, false, slice_index_or, All}
use Rattle.std.proofs.lemmas.List.{length-append, length-map}
use Rattle.std.proofs.lemmas.List.Elements.{All-cons, All-contains, All-nil}
use Rattle.nova_model.specs.State.{KernelState}
use Rattle.nova_model.specs.Runs.{after}
use Rattle.nova_compare.specs.Steps.{IsSuccessor}
use Rattle.nova_compare.proofs.Places.{place}
use Rattle.nova_search.specs.declared.found.Found.{Found}
use Rattle.nova_search.specs.declared.merging.Merging.{Merging}
use Rattle.nova_search.specs.Merged.{IsApt, IsOne, IsOneAt, StaysOne}
use Rattle.nova_search.specs.Notes.{AreGoneThrough, IsGoneThrough, IsMarked, StayNoted, both}
use Rattle.nova_search.specs.Reductions.{AreApart, IsNoted, IsReduction, IsTaken}
use Rattle.nova_search.specs.Searches.{AreLinked, AreOfTurnsBefore, AreVisited, Grows, IsMore, IsReached, state_at, state_of, states_of}
use Rattle.nova_search.proofs.Growth.{grows_by, holds_here, keeps_by, stays_at, stays_there, still_at, still_has}
use Rattle.nova_search.proofs.Links.{linked_here}
use Rattle.nova_search.proofs.Own.{own_first, own_here, own_next}
use Rattle.nova_search.proofs.Ways.{begun}

-- turns of no processor were tried at a place: none of one below this
own_wide : (xs : List Found) (here cpu : ℕ) → AreOfTurnsBefore xs here 0 → AreOfTurnsBefore xs here cpu
own_wide xs here cpu are = record { own = are.own; before = λ i d first less. by (slice_index_or xs i d) (are.before i d first less) }
  where
    by : (f : Found) → (f.from < here) ⊎ ((f.from ≡ here) × (f.cpu < 0)) → (f.from < here) ⊎ ((f.from ≡ here) × (f.cpu < cpu))
    by f (inl less) = inl less
    by f (inr (same, none)) = absurd (omega (arith, none))

first_of_both : (a b : Bool) → (a && b) ≡ true → a ≡ true
first_of_both true b is = refl
first_of_both false b is = is

second_of_both : (a b : Bool) → (a && b) ≡ true → b ≡ true
second_of_both true b is = is
second_of_both false b is = absurd (cc)

module _ (T : Type 0) (touched : KernelState → ℕ → T → Type 0) (noted lone : ℕ → T → Bool) (m : Merging) where
  abbrev Through : List Found → List Found → ℕ → KernelState → Type 0
  Through old new here s = IsGoneThrough T touched noted lone m old new here s

  -- by the turn of one processor alone
  pub lone_through : (xs ys : List Found) (here cpu to : ℕ) (s t : KernelState) → IsMore xs here cpu t ys → IsOneAt m (states_of ys) to t → here < to → here < length xs →
      ((d : KernelState) → state_at xs here d ≡ s) → IsSuccessor s cpu t → cpu < s.cpus → s.turns < 2147483648 → StaysOne m s cpu → AreLinked xs → AreOfTurnsBefore xs here 0 →
      IsMarked T (touched s cpu) (both (noted cpu) (lone cpu)) → Through xs ys here s
  lone_through xs ys here cpu to s t more at later less is next there few stays linked own mark = record {
    grows = grows_by xs ys here cpu t (s.turns + 1) more next.turns;
    keeps = keeps_by xs ys here cpu s t more there next (holds_here xs here s less is);
    linked = linked_here xs ys here cpu s t less is next there few more linked;
    turns = own_next ys here (cpu + 1) (own_here xs ys here cpu t more (own_wide xs here cpu own));
    taken = inr (record {
      cpu = cpu;
      processor = there;
      note = record {
        touch = mark.touch;
        touches = record { touch = mark.touches; stays = stays };
        is = first_of_both (noted cpu mark.touch) (lone cpu mark.touch) mark.is;
      };
      alone = second_of_both (noted cpu mark.touch) (lone cpu mark.touch) mark.is;
      next = to;
      later = later;
      is = subst (λ (x : KernelState). IsOneAt m (states_of ys) to x) next.state at;
    });
  }

  -- by turns of all
  pub full_through : (xs ys : List Found) (here : ℕ) (s : KernelState) → AreVisited m (states_of xs) (states_of ys) s s.cpus → AreLinked ys → AreOfTurnsBefore ys here s.cpus → IsApt s →
      IsOne m s s → ((cpu : ℕ) → cpu < s.cpus → StaysOne m s cpu) → ((cpu : ℕ) → cpu < s.cpus → IsMarked T (touched s cpu) (noted cpu)) → Through xs ys here s
  full_through xs ys here s visited linked own apt itself stay marks = record {
    grows = visited.grows;
    keeps = visited.keeps;
    linked = linked;
    turns = own_next ys here s.cpus own;
    taken = inl (record {
      each = λ cpu less. visited.there cpu less s apt itself;
      notes = λ cpu less. let mark = marks cpu less in record { touch = mark.touch; touches = record { touch = mark.touches; stays = stay cpu less }; is = mark.is };
    });
  }

  abbrev Going : KernelState → List Found → ℕ → Type 0
  Going k found here = AreGoneThrough T touched noted lone m k found here

  pub gone_first : (k : KernelState) (found : List Found) → states_of found ≡ k ∷ [] → Going k found 0
  gone_first k found only = record {
    from = record {
      there = (let long = length-map found state_of in let one : length (states_of found) ≡ 1 = ap length only in omega (arith, long, one));
      first = λ d. ap (λ (l : List KernelState). slice_index_or l 0 d) only;
      reached = subst (λ (l : List KernelState). All (IsReached k) l) (sym only) (All-cons (IsReached k) k [] (begun k) (All-nil (IsReached k)));
      linked = record { each = λ i d first less. absurd (let long = length-map found state_of in let one : length (states_of found) ≡ 1 = ap length only in omega (arith, long, one, first, less)) };
    };
    turns = own_first found k only;
    taken = λ i d less. absurd (omega (arith, less));
  }

  pub reduction_of : (apart : ℕ → T → ℕ → T → Bool) (k : KernelState) (found : List Found) (here : ℕ) → Going k found here → length found ≤ here → AreApart T apart noted lone →
      IsReduction T touched apart noted lone m k (states_of found)
  reduction_of apart k found here going all are = record {
    opening = holds_here found 0 k going.from.there going.from.first;
    reached = going.from.reached;
    each = λ i d less. going.taken i d (let long = length-map found state_of in omega (arith, less, long, all));
    are_apart = are;
  }

-- what was taken stays so, where more was found and noted
module _ (T : Type 0) (touched : KernelState → ℕ → T → Type 0) (noted lone since lone_since : ℕ → T → Bool) (m : Merging) (stay : StayNoted T noted lone since lone_since) where
  abbrev note_still : (s : KernelState) (cpu : ℕ) → IsNoted T touched noted m s cpu → IsNoted T touched since m s cpu
  note_still s cpu n = record { touch = n.touch; touches = n.touches; is = stay.all cpu n.touch n.is }

  one_still : {turns : ℕ} (xs ys : List KernelState) (to : ℕ) (s : KernelState) → Grows xs ys turns → IsOneAt m xs to s → IsOneAt m ys to s
  one_still xs ys to s grows at = record {
    there = (let there = at.there in let long = ap length grows.whole ∙ length-append xs grows.more in omega (arith, there, long));
    is = λ d. subst (λ (x : KernelState). IsOne m x s) (sym (still_at xs ys to d grows at.there)) (at.is d);
  }

  taken_still : {turns : ℕ} (n : ℕ) (xs ys : List KernelState) (i : ℕ) (s : KernelState) → Grows xs ys turns → IsTaken T touched noted lone m n xs i s →
      IsTaken T touched since lone_since m n ys i s
  taken_still n xs ys i s grows (inl f) = inl (record {
    each = λ cpu less. still_has m xs ys (after s cpu) grows (f.each cpu less);
    notes = λ cpu less. note_still s cpu (f.notes cpu less);
  })
  taken_still n xs ys i s grows (inr l) = inr (record {
    cpu = l.cpu;
    processor = l.processor;
    note = note_still s l.cpu l.note;
    alone = stay.alone l.cpu l.note.touch l.alone;
    next = l.next;
    later = l.later;
    is = one_still xs ys l.next (after s l.cpu) grows l.is;
  })

  pub gone_on : (k : KernelState) (xs ys : List Found) (i : ℕ) (s : KernelState) → AreGoneThrough T touched noted lone m k xs i → i < length xs → ((d : KernelState) → state_at xs i d ≡ s) →
      IsGoneThrough T touched since lone_since m xs ys i s → AreGoneThrough T touched since lone_since m k ys (i + 1)
  gone_on k xs ys i s going less here through = record {
    from = record {
      there = stays_there xs ys 0 going.from.there through.grows;
      first = stays_at xs ys 0 k going.from.there through.grows going.from.first;
      reached = through.keeps.reached k going.from.reached;
      linked = through.linked;
    };
    turns = through.turns;
    taken = λ j d is. by j d (place j i is);
  }
    where
      long : length (states_of xs) ≡ length xs
      long = length-map xs state_of

      cpus : s.cpus ≡ k.cpus
      cpus = (All-contains (IsReached k) (states_of xs) s going.from.reached (holds_here xs i s less here)).cpus

      by : (j : ℕ) (d : KernelState) → (j < i) ⊎ (j ≡ i) → IsTaken T touched since lone_since m k.cpus (states_of ys) j (state_at ys j d)
      by j d (inl old) =
          subst (λ (x : KernelState). IsTaken T touched since lone_since m k.cpus (states_of ys) j x)
          (sym (still_at (states_of xs) (states_of ys) j d through.grows (omega (arith, old, less, long))))
          (taken_still k.cpus (states_of xs) (states_of ys) j (state_at xs j d) through.grows (going.taken j d old))
      by j d (inr last) =
          subst (λ (x : ℕ). IsTaken T touched since lone_since m k.cpus (states_of ys) x (state_at ys x d)) (sym last)
          (subst (λ (x : KernelState). IsTaken T touched since lone_since m k.cpus (states_of ys) i x) (sym (stays_at xs ys i s less through.grows here d))
          (subst (λ (n : ℕ). IsTaken T touched since lone_since m n (states_of ys) i s) cpus through.taken))

-- where nothing was found, nor noted
pub gone_still : {N : Type 0} (T : Type 0) (touched : KernelState → ℕ → T → Type 0) (noted lone : N → ℕ → T → Bool) (m : Merging) (k : KernelState) (xs ys : List Found) (i : ℕ) (a b : N) →
    (ys ≡ xs) × (b ≡ a) → AreGoneThrough T touched (noted a) (lone a) m k xs i → AreGoneThrough T touched (noted b) (lone b) m k ys i
gone_still {N} T touched noted lone m k xs ys i a b left going =
    subst (λ (n : N). AreGoneThrough T touched (noted n) (lone n) m k ys i) (sym left.1)
    (subst (λ (l : List Found). AreGoneThrough T touched (noted a) (lone a) m k l i) (sym left.0) going)

-- NOTES OF ALL PROCESSORS

pub none_noted : (T : Type 0) (noted lone : ℕ → T → Bool) → StayNoted T noted lone noted lone
none_noted T noted lone = record { all = λ cpu t is. is; alone = λ cpu t is. is }

pub stay_on : (T : Type 0) (noted lone later lone_later since lone_since : ℕ → T → Bool) → StayNoted T noted lone later lone_later → StayNoted T later lone_later since lone_since →
    StayNoted T noted lone since lone_since
stay_on T noted lone later lone_later since lone_since first second = record {
  all = λ cpu t is. second.all cpu t (first.all cpu t is);
  alone = λ cpu t is. second.alone cpu t (first.alone cpu t is);
}

pub marks_on : (T : Type 0) (touched : KernelState → ℕ → T → Type 0) (noted lone since lone_since : ℕ → T → Bool) (s : KernelState) (n : ℕ) → StayNoted T noted lone since lone_since →
    ((cpu : ℕ) → cpu < n → IsMarked T (touched s cpu) (noted cpu)) → IsMarked T (touched s n) (since n) → (cpu : ℕ) → cpu < n + 1 → IsMarked T (touched s cpu) (since cpu)
marks_on T touched noted lone since lone_since s n stay marks mark cpu less = by (place cpu n less)
  where
    by : (cpu < n) ⊎ (cpu ≡ n) → IsMarked T (touched s cpu) (since cpu)
    by (inl before) = let old = marks cpu before in record { touch = old.touch; touches = old.touches; is = stay.all cpu old.touch old.is }
    by (inr same) = subst (λ (c : ℕ). IsMarked T (touched s c) (since c)) (sym same) mark
