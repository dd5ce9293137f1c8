-- Lapses that are noted turn by turn.
use Rattle.std.proofs.Common.{◌≡◌, ℕ, ◌+◌, ◌<◌, ◌≤◌, List, [], ◌∷◌, ◌++◌, Option, Some, None, length, replicate, take, refl, sym, ap, subst, ◌∙◌, inl, inr, arith, append_assoc, slice_index_or}
use Rattle.std.specs.Prelude.{◌==◌, ◌&&◌, ◌||◌, Bool, true, false, not, is_some, if◌then◌else◌}
use Rattle.std.specs.List.{list_any}
use Rattle.std.specs.Option.{option_or}
use Rattle.std.proofs.lemmas.Bool.{and_from, and_parts, eqb-true, or_cases}
use Rattle.std.proofs.lemmas.List.{append-nil, length-append, length-replicate, replicate_more}
use Rattle.law_turns.proofs.Passes.{run_append}
use Rattle.nova_model.specs.Runs.{after, run}
use Rattle.nova_model.specs.State.{KernelState}
use Rattle.nova_order.specs.Blocks.{total, turns}
use Rattle.nova_order.specs.declared.block.Block.{Block}
use Rattle.nova_order.proofs.BlockLemmas.{length_turns, total_push, turns_push}
use Rattle.nova_order.proofs.PlaceLemmas.{more_at}
use Rattle.law_turns.specs.Tables.{HasTables}
use Rattle.law_flow.specs.Flow.{AreAtWork, fixed, own_turn}
use Rattle.nova_flowing.specs.Working.{HasLapsed, IsWorkTold, IsWorking, first_lapse, is_of_side, is_revoke}
use Rattle.nova_flowing.specs.declared.lapse.Lapse.{Lapse}
use Rattle.nova_watching.specs.Worked.{Adds, AreLapses, Continues, IsTurnTold, is_like, of_side, turn_lapse}
use Rattle.nova_watching.proofs.Working.{turn_told}

-- THE FIRST OF A SIDE

-- what counts for a side counts by an earlier one that is like it
revokes_less : (revokes earlier later : Bool) → (not earlier || later) ≡ true → not (revokes && later) ≡ true → not (revokes && earlier) ≡ true
revokes_less false earlier later like counts = refl
revokes_less true false later like counts = refl
revokes_less true true true like counts = absurd (cc)
revokes_less true true false like counts = absurd (cc)

module _ (revokes : Bool) (S : ℕ → Bool) where
  pub found_more : (xs : List Lapse) (l : Lapse) → first_lapse revokes S (xs ++ l ∷ []) ≡ option_or (first_lapse revokes S xs) (of_side revokes S (Some l))
  found_more [] l = refl
  found_more (x ∷ xs) l = by_test (found_more xs l) (is_of_side revokes S x)
    where
      by_test : first_lapse revokes S (xs ++ l ∷ []) ≡ option_or (first_lapse revokes S xs) (of_side revokes S (Some l)) → (b : Bool) →
          (if b then Some x else first_lapse revokes S (xs ++ l ∷ [])) ≡ option_or (if b then Some x else first_lapse revokes S xs) (of_side revokes S (Some l))
      by_test rest true = refl
      by_test rest false = rest

  like_counts : (l x : Lapse) → is_like l x ≡ true → is_of_side revokes S l ≡ true → is_of_side revokes S x ≡ true
  like_counts l x like its =
      let parts = and_parts ((x.pd == l.pd) && (x.amid == l.amid)) (not (is_revoke x.kind) || is_revoke l.kind) like in
      let same = and_parts (x.pd == l.pd) (x.amid == l.amid) parts.0 in
      let mine = and_parts (S l.pd && S l.amid) (not (revokes && is_revoke l.kind)) its in
      let both = and_parts (S l.pd) (S l.amid) mine.0 in
      and_from (S x.pd && S x.amid) (not (revokes && is_revoke x.kind))
      (and_from (S x.pd) (S x.amid) (ap S (eqb-true x.pd l.pd same.0) ∙ both.0) (ap S (eqb-true x.amid l.amid same.1) ∙ both.1))
      (revokes_less revokes (is_revoke x.kind) (is_revoke l.kind) parts.1 mine.1)

  finds : (xs : List Lapse) (l : Lapse) → list_any (is_like l) xs ≡ true → is_of_side revokes S l ≡ true → is_some (first_lapse revokes S xs) ≡ true
  finds [] l any its = absurd (cc)
  finds (x ∷ xs) l any its = by_test (λ later. finds xs l later its) (is_of_side revokes S x) refl
    where
      by_test : (list_any (is_like l) xs ≡ true → is_some (first_lapse revokes S xs) ≡ true) → (b : Bool) → is_of_side revokes S x ≡ b → is_some (if b then Some x else first_lapse revokes S xs) ≡ true
      by_test rest true is = refl
      by_test rest false is = elim (or_cases (is_like l x) (list_any (is_like l) xs) any) [
        | inl like ↦ absurd (let both : true ≡ false = sym (like_counts l x like its) ∙ is in cc)
        | inr later ↦ rest later
      ]

  pub found_same : (xs : List Lapse) (l : Lapse) → list_any (is_like l) xs ≡ true → first_lapse revokes S xs ≡ option_or (first_lapse revokes S xs) (of_side revokes S (Some l))
  found_same xs l any = by_test (is_of_side revokes S l) refl
    where
      none_more : (o : Option Lapse) → o ≡ option_or o None
      none_more None = refl
      none_more (Some m) = refl

      some_more : (o p : Option Lapse) → is_some o ≡ true → o ≡ option_or o p
      some_more None p is = absurd (cc)
      some_more (Some m) p is = refl

      by_test : (b : Bool) → is_of_side revokes S l ≡ b → first_lapse revokes S xs ≡ option_or (first_lapse revokes S xs) (if b then Some l else None)
      by_test true is = some_more (first_lapse revokes S xs) (Some l) (finds xs l any is)
      by_test false is = none_more (first_lapse revokes S xs)

  pub found_none : (xs : List Lapse) → first_lapse revokes S xs ≡ option_or (first_lapse revokes S xs) None
  found_none xs = by_first (first_lapse revokes S xs)
    where
      by_first : (o : Option Lapse) → o ≡ option_or o None
      by_first None = refl
      by_first (Some m) = refl

  -- ALONG TURNS

  work_more : (k : KernelState) (xs : List ℕ) (cpu : ℕ) → AreAtWork (fixed revokes) S k xs → ((ec sc : ℕ) → own_turn S (run k xs) cpu ≡ Some (ec, sc) → IsWorking revokes S (run k xs) ec) → AreAtWork (fixed revokes) S k (xs ++ cpu ∷ [])
  work_more k [] cpu works last = (last, tt)
  work_more k (x ∷ xs) cpu works last = (works.0, work_more (after k x) xs cpu works.1 last)

  lapse_kept : (k : KernelState) (n : ℕ) (xs : List ℕ) (cpu : ℕ) (l : Lapse) → HasLapsed revokes S k n xs l → HasLapsed revokes S k n (xs ++ cpu ∷ []) l
  lapse_kept k n xs cpu l h = record {
    taken = h.taken;
    cpu = h.cpu;
    left = h.left ++ cpu ∷ [];
    whole = sym (append_assoc h.taken (h.cpu ∷ h.left) (cpu ∷ [])) ∙ ap (λ (zs : List ℕ). zs ++ cpu ∷ []) h.whole;
    works = h.works;
    sc = h.sc;
    acts = h.acts;
    lapses = h.lapses;
    kind = h.kind;
    turn = h.turn;
  }

  -- the next turn: it was no longer at work before, or is in it, or this is its lapse
  next_told : (k : KernelState) (n : ℕ) (xs : List ℕ) (cpu : ℕ) (o r : Option Lapse) → IsWorkTold revokes S k n xs o → IsTurnTold revokes S (run k xs) cpu (n + length xs) r →
      IsWorkTold revokes S k n (xs ++ cpu ∷ []) (option_or o r)
  next_told k n xs cpu (Some l) r told turn = lapse_kept k n xs cpu l told
  next_told k n xs cpu None None told turn = work_more k xs cpu told turn
  next_told k n xs cpu None (Some l) told turn = record {
    taken = xs;
    cpu = cpu;
    left = [];
    whole = refl;
    works = told;
    sc = turn.sc;
    acts = turn.acts;
    lapses = turn.lapses;
    kind = turn.kind;
    turn = turn.turn;
  }

  -- nothing is told of no turns
  none_told : (k l : KernelState) (n m : ℕ) (xs : List ℕ) (o : Option Lapse) → xs ≡ [] → IsWorkTold revokes S k n xs o → IsWorkTold revokes S l m [] o
  none_told k l n m xs None is told = tt
  none_told k l n m xs (Some lapse) is told = absurd (no_turns told.taken told.cpu told.left (told.whole ∙ is))
    where
      no_turns : (ys : List ℕ) (cpu : ℕ) (zs : List ℕ) → ys ++ cpu ∷ zs ≡ [] → ⊥
      no_turns [] cpu zs h = absurd (cc)
      no_turns (y ∷ ys) cpu zs h = absurd (cc)

-- nothing more
pub adds_none : (old : List Lapse) → Adds old old (λ revokes S. of_side revokes S None)
adds_none old revokes S = found_none revokes S old

module _ (from : ℕ) where
  pub begun : (k : KernelState) → AreLapses from k [] []
  begun k = record { before = []; since = []; whole = refl; early = omega arith; later = inl refl; works = λ revokes S. tt }

  -- a turn that isn't looked at
  skipped : (k : KernelState) (xs : List ℕ) (cpu : ℕ) (list : List Lapse) → length xs < from → AreLapses from k xs list → AreLapses from k (xs ++ cpu ∷ []) list
  skipped k xs cpu list less a = record {
    before = xs ++ cpu ∷ [];
    since = [];
    whole = append-nil (xs ++ cpu ∷ []);
    early = let len = length-append xs (cpu ∷ []) in omega (arith, len, less);
    later = inl refl;
    works = λ revokes S. none_told revokes S (run k a.before) (run k (xs ++ cpu ∷ [])) (length a.before) (length (xs ++ cpu ∷ [])) a.since (first_lapse revokes S list) none (a.works revokes S);
  }
    where
      none : a.since ≡ []
      none = elim a.later [
        | inl is ↦ is
        | inr all ↦ absurd (let len = sym (length-append a.before a.since) ∙ ap (λ (l : List ℕ). length l) a.whole in omega (arith, len, all, less))
      ]

  -- one that is
  noted : (k : KernelState) (xs : List ℕ) (cpu : ℕ) (old list : List Lapse) (r : Bool → (ℕ → Bool) → Option Lapse) → from ≤ length xs →
      ((revokes : Bool) (S : ℕ → Bool) → IsTurnTold revokes S (run k xs) cpu (length xs) (r revokes S)) → Adds old list r → AreLapses from k xs old → AreLapses from k (xs ++ cpu ∷ []) list
  noted k xs cpu old list r late told first a = record {
    before = a.before;
    since = a.since ++ cpu ∷ [];
    whole = sym (append_assoc a.before a.since (cpu ∷ [])) ∙ ap (λ (l : List ℕ). l ++ cpu ∷ []) a.whole;
    early = a.early;
    later = inr all;
    works = λ revokes S.
        subst (IsWorkTold revokes S (run k a.before) (length a.before) (a.since ++ cpu ∷ [])) (sym (first revokes S))
        (next_told revokes S (run k a.before) (length a.before) a.since cpu (first_lapse revokes S old) (r revokes S) (a.works revokes S)
        (subst (λ (m : ℕ). IsTurnTold revokes S (run (run k a.before) a.since) cpu m (r revokes S)) (sym count)
        (subst (λ (s : KernelState). IsTurnTold revokes S s cpu (length xs) (r revokes S)) (sym state) (told revokes S))));
  }
    where
      count : length a.before + length a.since ≡ length xs
      count = sym (length-append a.before a.since) ∙ ap (λ (l : List ℕ). length l) a.whole

      state : run (run k a.before) a.since ≡ run k xs
      state = sym (run_append k a.before a.since) ∙ ap (run k) a.whole

      all : length a.before ≡ from
      all = elim a.later [
        | inl none ↦ (let len : length a.since ≡ 0 = ap (λ (l : List ℕ). length l) none in let few = a.early in omega (arith, len, few, late, count))
        | inr is ↦ is
      ]

  -- ONE TURN

  pub skips : (k later : KernelState) (n cpu : ℕ) (list : List Lapse) → n < from → later ≡ after k cpu → Continues from k n list (cpu ∷ []) later list
  skips k later n cpu list less is = record {
    state = is;
    lapses = λ start taken at len a. skipped start taken cpu list (subst (λ (m : ℕ). m < from) len less) a;
  }

  pub notes : (k later : KernelState) (n cpu : ℕ) (old list : List Lapse) → from ≤ n → later ≡ after k cpu → HasTables k → Adds old list (λ revokes S. turn_lapse revokes S k cpu n) →
      Continues from k n old (cpu ∷ []) later list
  notes k later n cpu old list late is tables first = record {
    state = is;
    lapses = λ start taken at len a.
        noted start taken cpu old list (λ revokes S. turn_lapse revokes S k cpu n) (subst (λ (m : ℕ). from ≤ m) len late)
        (λ revokes S. subst (λ (m : ℕ). IsTurnTold revokes S (run start taken) cpu m (turn_lapse revokes S k cpu n)) len
        (subst (λ (s : KernelState). IsTurnTold revokes S s cpu n (turn_lapse revokes S k cpu n)) at (turn_told revokes S k cpu n tables))) first a;
  }

  -- TURNS AFTER TURNS

  pub no_turns : (k : KernelState) (n : ℕ) (list : List Lapse) → Continues from k n list [] k list
  no_turns k n list = record { state = refl; lapses = λ start taken at len a. subst (λ (l : List ℕ). AreLapses from start l list) (sym (append-nil taken)) a }

  continued : (k now later : KernelState) (n : ℕ) (xs ys : List ℕ) (old some list : List Lapse) → Continues from k n old xs now some → Continues from now (n + length xs) some ys later list →
      Continues from k n old (xs ++ ys) later list
  continued k now later n xs ys old some list first next = record {
    state = next.state ∙ ap (λ (s : KernelState). run s ys) first.state ∙ sym (run_append k xs ys);
    lapses = λ start taken at len a.
        subst (λ (l : List ℕ). AreLapses from start l list) (append_assoc taken xs ys)
        (next.lapses start (taken ++ xs) (first.state ∙ ap (λ (s : KernelState). run s xs) at ∙ sym (run_append start taken xs))
        (ap (λ (m : ℕ). m + length xs) len ∙ sym (length-append taken xs)) (first.lapses start taken at len a));
  }

  pub one_more : (k now later : KernelState) (n i cpu : ℕ) (old some list : List Lapse) → Continues from k n old (replicate i cpu) now some → Continues from now (n + i) some (cpu ∷ []) later list →
      Continues from k n old (replicate (i + 1) cpu) later list
  one_more k now later n i cpu old some list first next =
      let same : n + i ≡ n + length (replicate i cpu) = ap (λ (m : ℕ). n + m) (sym (length-replicate i cpu)) in
      subst (λ (l : List ℕ). Continues from k n old l later list) (replicate_more i cpu)
      (continued k now later n (replicate i cpu) (cpu ∷ []) old some list first (subst (λ (m : ℕ). Continues from now m some (cpu ∷ []) later list) same next))

  module _ (blocks : List Block) (i : ℕ) (d : Block) (less : i < length blocks) (k now later : KernelState) (done : ℕ) (is : done ≡ total (take i blocks)) where
    abbrev block_at : Block
    block_at = slice_index_or blocks i d

    pub next_total : done + block_at.count ≡ total (take (i + 1) blocks)
    next_total = ap (λ (n : ℕ). n + block_at.count) is ∙ sym (total_push (take i blocks) block_at) ∙ sym (ap total (more_at blocks i d less))

    pub next_block : (old some list : List Lapse) → Continues from k 0 old (turns (take i blocks)) now some → Continues from now done some (replicate block_at.count block_at.cpu) later list →
        Continues from k 0 old (turns (take (i + 1) blocks)) later list
    next_block old some list first next =
        let same : done ≡ 0 + length (turns (take i blocks)) = let len = length_turns (take i blocks) in omega (arith, is, len) in
        subst (λ (l : List ℕ). Continues from k 0 old l later list) (sym (turns_push (take i blocks) block_at) ∙ sym (ap turns (more_at blocks i d less)))
        (continued k now later 0 (turns (take i blocks)) (replicate block_at.count block_at.cpu) old some list first
        (subst (λ (m : ℕ). Continues from now m some (replicate block_at.count block_at.cpu) later list) same next))

  pub no_blocks : (k : KernelState) (list : List Lapse) → Continues from k 0 list (turns []) k list
  unfolding turns
  no_blocks k list = no_turns k 0 list

  pub all_told : (k later : KernelState) (xs : List ℕ) (list : List Lapse) → Continues from k 0 [] xs later list → AreLapses from k xs list
  all_told k later xs list c = c.lapses k [] refl refl (begun k)
