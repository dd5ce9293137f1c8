-- What is noted of one turn: what one gives beside others, object by object, and then what it does by itself.
use Rattle.std.proofs.Common.{◌≡◌, ℕ, ◌+◌, ◌<◌, ◌≤◌, List, [], ◌∷◌, drop, length, refl, sym, ap, ◌∙◌, get_or}
use Rattle.std.specs.Prelude.{Bool, true, false, OnOk, Option, Some, None, Result, Ok, Err}
use Rattle.std.specs.List.{enumerate_from}
use Rattle.std.specs.Option.{option_or}
use Rattle.std.proofs.lemmas.List.{at_drop_all, at_drop_more}
use Rattle.std.proofs.lemmas.Result.{on_ok_weaker}
use Rattle.nova_objects.specs.declared.object.Object.{Object}
use Rattle.nova_model.specs.Runs.{after}
use Rattle.nova_model.specs.State.{KernelState}
use Rattle.nova_model.specs.Turn.{answer_of, turn}
use Rattle.nova_model.specs.declared.event.Turn.{Turn}
use Rattle.law_turns.specs.Tables.{HasTables}
use Rattle.nova_flowing.specs.Leaks.{first_some}
use Rattle.nova_flowing.specs.Working.{first_lapse, kind_in}
use Rattle.nova_flowing.specs.declared.lapse.Lapse.{Lapse}
use Rattle.nova_watching.specs.Worked.{Adds, AddsTo, Continues, doer_on, first_gift, gift_at, gift_if, gift_of, is_gift, lapse_in_turn, of_side, own_lapse, side_gift, turn_lapse}
use Rattle.nova_watching.specs.declared.work.Doer.{Doer}
use Rattle.nova_watching.proofs.Lapsing.{found_none, notes}

or_or : {T : Type 0} (a b c : Option T) → option_or (option_or a b) c ≡ option_or a (option_or b c)
or_or (Some x) b c = refl
or_or None b c = refl

or_none : {T : Type 0} (a : Option T) → option_or a None ≡ a
or_none (Some x) = refl
or_none None = refl

module _ (k : KernelState) (n : ℕ) (d : Doer) (old : List Lapse) where
  pub gifts_begun : (items : List Object) → items ≡ k.objects → AddsTo k n d old old (enumerate_from 0 (drop 0 items))
  gifts_begun items same revokes S = ap (λ (l : List Object). option_or (first_lapse revokes S old) (first_some (side_gift revokes S k n d) (enumerate_from 0 l))) same

  pub one_gift : (some new : List Lapse) (items : List Object) (i : ℕ) (o : Object) → i < length items → AddsTo k n d old some (enumerate_from i (drop i items)) → (l : Option Lapse) →
      l ≡ gift_at k n d (i, get_or items i o) → Adds some new (λ revokes S. of_side revokes S l) → AddsTo k n d old new (enumerate_from (i + 1) (drop (i + 1) items))
  one_gift some new items i o less before l is added revokes S =
      ap (λ (m : Option Lapse). option_or m (first_some (side_gift revokes S k n d) (enumerate_from (i + 1) (drop (i + 1) items)))) (added revokes S)
      ∙ or_or (first_lapse revokes S some) (of_side revokes S l) (first_some (side_gift revokes S k n d) (enumerate_from (i + 1) (drop (i + 1) items)))
      ∙ ap (λ (m : Option Lapse). option_or (first_lapse revokes S some) (option_or (of_side revokes S m) (first_some (side_gift revokes S k n d) (enumerate_from (i + 1) (drop (i + 1) items))))) is
      ∙ sym (at_drop_more (λ (xs : List Object). option_or (first_lapse revokes S some) (first_some (side_gift revokes S k n d) (enumerate_from i xs))) items i o less)
      ∙ before revokes S

  pub all_gifts : (new : List Lapse) (items : List Object) (i : ℕ) → length items ≤ i → AddsTo k n d old new (enumerate_from i (drop i items)) → Adds old new (λ revokes S. first_gift revokes S k n d)
  all_gifts new items i all before revokes S =
      sym (or_none (first_lapse revokes S new))
      ∙ sym (at_drop_all (λ (xs : List Object). option_or (first_lapse revokes S new) (first_some (side_gift revokes S k n d) (enumerate_from i xs))) items i all)
      ∙ before revokes S

-- who gives, and who doesn't
pub gives_now : {T E : Type 0} (k : KernelState) (n : ℕ) (d : Doer) (old new : List Lapse) (r : Result T E) (b : Bool) → b ≡ is_gift (kind_in d.state) → b ≡ true →
    OnOk r (Adds old new (λ revokes S. first_gift revokes S k n d)) → OnOk r (Adds old new (λ revokes S. gift_of revokes S k n (Some d)))
gives_now k n d old new r b is on first =
    on_ok_weaker r (λ all revokes S. all revokes S ∙ ap (λ (t : Bool). option_or (first_lapse revokes S old) (gift_if t (first_gift revokes S k n d))) (sym on ∙ is)) first

pub gives_not : (k : KernelState) (n : ℕ) (d : Doer) (old : List Lapse) (b : Bool) → b ≡ is_gift (kind_in d.state) → b ≡ false → Adds old old (λ revokes S. gift_of revokes S k n (Some d))
gives_not k n d old b is off revokes S = found_none revokes S old ∙ ap (λ (t : Bool). option_or (first_lapse revokes S old) (gift_if t (first_gift revokes S k n d))) (sym off ∙ is)

pub nobody_gives : (k : KernelState) (n : ℕ) (old : List Lapse) → Adds old old (λ revokes S. gift_of revokes S k n None)
nobody_gives k n old revokes S = found_none revokes S old

module _ (k : KernelState) (cpu n : ℕ) where
  pub noted_both : (old some new : List Lapse) (doer : Option Doer) (t : Turn) (l : Option Lapse) → doer ≡ doer_on k cpu → t ≡ answer_of (turn k cpu) → l ≡ own_lapse n doer t →
      Adds old some (λ revokes S. gift_of revokes S k n doer) → Adds some new (λ revokes S. of_side revokes S l) → Adds old new (λ revokes S. turn_lapse revokes S k cpu n)
  noted_both old some new doer t l acts_ came is first second revokes S =
      second revokes S
      ∙ ap (λ (o : Option Lapse). option_or o (of_side revokes S l)) (first revokes S)
      ∙ or_or (first_lapse revokes S old) (gift_of revokes S k n doer) (of_side revokes S l)
      ∙ ap (λ (o : Option Lapse). option_or (first_lapse revokes S old) (option_or (gift_of revokes S k n doer) (of_side revokes S o))) is
      ∙ ap (λ (d : Option Doer). option_or (first_lapse revokes S old) (lapse_in_turn revokes S k n d t)) acts_
      ∙ ap (λ (u : Turn). option_or (first_lapse revokes S old) (lapse_in_turn revokes S k n (doer_on k cpu) u)) came

  pub notes_on : {T E : Type 0} (from : ℕ) (later : KernelState) (old list : List Lapse) (r : Result T E) → from ≤ n → OnOk r (HasTables k) → OnOk r (later ≡ after k cpu) →
      OnOk r (Adds old list (λ revokes S. turn_lapse revokes S k cpu n)) → OnOk r (Continues from k n old (cpu ∷ []) later list)
  notes_on from later old list (Ok done) late tables state first = notes from k later n cpu old list late state tables first
  notes_on from later old list (Err e) late tables state first = tt
