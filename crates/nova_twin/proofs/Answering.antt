-- The verdict of one pass says what the three cases say.
use Rattle.std.proofs.Common.{◌≡◌, ℕ, List, length, take, sym, ◌∙◌, subst, subst₂, arith}
use Rattle.std.specs.Prelude.{Bool, true, IfOk, Result, Ok, Err}
use Rattle.std.specs.List.{All}
use Rattle.std.proofs.lemmas.List.{take_all}
use Rattle.nova_guest.specs.Alone.{alone, outputs}
use Rattle.nova_guest.specs.declared.guest.Guest.{Guest}
use Rattle.nova_guest.specs.declared.input.Input.{Input}
use Rattle.law_isolation.specs.Sound.{AreRanges, IsSound, IsVirtual}
use Rattle.nova_model.specs.Guests.{inputs}
use Rattle.nova_model.specs.State.{KernelState}
use Rattle.nova_model.specs.Views.{view}
use Rattle.law_renaming.specs.Forced.{agree, among, forced, named, once}
use Rattle.law_renaming.specs.Renamings.{InputFits, GuestsAgree, InputsAgree, IsOneToOne, OutsAgree}
use Rattle.law_renaming.specs.Twins.{IsRenaming}
use Rattle.law_renaming.specs.Verdicts.{IsAgreement, IsVerdict}
use Rattle.law_renaming.specs.Verdicts as renaming
use Rattle.law_renaming.specs.Walks.{walk}
use Rattle.nova_twin.specs.Comparison.{AreEqual, EndsSo, Holds, HoldsOf, MakesAgree, said}
use Rattle.nova_twin.specs.declared.side.Side.{Side}
use Rattle.nova_twin.specs.declared.verdict.Verdict.{Verdict}
use Rattle.nova_twin.specs.declared.verdict.Verdict.TheVariants.{Equal, Views, Differ}
use Rattle.nova_twin.proofs.Admitted.{IsReached, Known}

-- THE LAWS that it stands on
abbrev pub Enough : Type 0
Enough = (u v : Guest) (is js : List Input) → agree u v is js ≡ true → IsAgreement (among (forced u v is js)) u v is js

abbrev pub Found : Type 0
Found = (r : ℕ → ℕ → Bool) (u v : Guest) (is js : List Input) → IsAgreement r u v is js → agree u v is js ≡ true

abbrev pub Sorted : Type 0
Sorted = (r : ℕ → ℕ → Bool) (k l : KernelState) (turns others : List ℕ) (g h n : ℕ) → IsSound k → IsSound l → AreRanges k → AreRanges l
    → IsAgreement r (view k g) (view l h) (take n (inputs k turns g)) (take n (inputs l others h))
    → IsRenaming (among (forced (view k g) (view l h) (take n (inputs k turns g)) (take n (inputs l others h)))) (length k.memory.ram) (length l.memory.ram)

abbrev pub Stores : Type 0
Stores = (r : ℕ → ℕ → Bool) (k : KernelState) (turns : List ℕ) (g : ℕ) (v : Guest) (js : List Input) → IsSound k → IsVirtual k g
    → IsAgreement r (view k g) v (inputs k turns g) js → once (forced (view k g) v (inputs k turns g) js) ≡ once (named (view k g) v (inputs k turns g) js)

abbrev pub Fit : Type 0
Fit = (k : KernelState) (turns : List ℕ) (g : ℕ) → IsSound k → All InputFits (inputs k turns g)

abbrev pub EndRenamed : Type 0
EndRenamed = (r : ℕ → ℕ → Bool) (u v : Guest) (is js : List Input) → IsOneToOne r → GuestsAgree r u v → All InputFits is → InputsAgree r is js → GuestsAgree r (alone u is) (alone v js)

abbrev pub PutOut : Type 0
PutOut = (r : ℕ → ℕ → Bool) (u v : Guest) (is js : List Input) → IsOneToOne r → GuestsAgree r u v → All InputFits is → InputsAgree r is js → OutsAgree r (outputs u is) (outputs v js)

abbrev pub Met : Type 0
Met = (u v : Guest) (is js : List Input) (count : ℕ) (pairs : List (ℕ × ℕ)) → walk u v is js ≡ renaming.Equal count pairs → pairs ≡ once (forced u v is js)

-- OF VIRTUAL CPUS
module _ (enough : Enough) (found : Found) (sorted : Sorted) (stores : Stores) (met : Met)
    (k l : KernelState) (turns others : List ℕ) (g h : ℕ) (first : IsReached k) (second : IsReached l) (there : IsVirtual k g) where
  abbrev u : Guest
  u = view k g

  abbrev v : Guest
  v = view l h

  abbrev is : List Input
  is = inputs k turns g

  abbrev js : List Input
  js = inputs l others h

  abbrev ram : ℕ
  ram = length k.memory.ram

  abbrev frames : ℕ
  frames = length l.memory.ram

  sorted_first : (n : ℕ) (r : ℕ → ℕ → Bool) → IsAgreement r u v (take n is) (take n js) → IsRenaming (among (forced u v (take n is) (take n js))) ram frames
  sorted_first n r same = sorted r k l turns others g h n first.sound second.sound first.ranges second.ranges same

  forced_first : (n : ℕ) (r : ℕ → ℕ → Bool) → IsAgreement r u v (take n is) (take n js) → MakesAgree ram frames u v (take n is) (take n js) (forced u v (take n is) (take n js))
  forced_first n r same =
      let all = enough u v (take n is) (take n js) (found r u v (take n is) (take n js) same) in
      record { renaming = sorted_first n r same; guests = all.guests; inputs = all.inputs }

  sorted_all : (n : ℕ) (r : ℕ → ℕ → Bool) → n ≡ length is → n ≡ length js → IsAgreement r u v is js → IsRenaming (among (forced u v is js)) ram frames
  sorted_all n r i j same =
      let xs : take n is ≡ is = take_all n is (omega (arith, i)) in
      let ys : take n js ≡ js = take_all n js (omega (arith, j)) in
      subst₂ (λ (p q : List Input). IsRenaming (among (forced u v p q)) ram frames) xs ys
      (sorted_first n r (subst₂ (λ (p q : List Input). IsAgreement r u v p q) (sym xs) (sym ys) same))

  equal_holds : (count : ℕ) (pairs : List (ℕ × ℕ)) → renaming.AreEqual u v is js count pairs → pairs ≡ once (forced u v is js) → AreEqual ram frames u v is js count pairs
  equal_holds count pairs are once_ = record {
    agree = record {
      renaming = record {
        one = are.agreement.one;
        sort = λ a b pair. (sorted_all count (among pairs) are.first are.second are.agreement).sort a b
            (are.least (among (forced u v is js)) (enough u v is js (found (among pairs) u v is js are.agreement)) a b pair);
      };
      guests = are.agreement.guests;
      inputs = are.agreement.inputs;
    };
    first = are.first;
    second = are.second;
    met = once_ ∙ stores (among pairs) k turns g v js first.sound there are.agreement;
  }

  pub verdict_holds : (verdict : Verdict) → IsVerdict u v is js (said verdict) → said verdict ≡ walk u v is js → HoldsOf ram frames u v is js verdict
  verdict_holds (Equal count pairs) holds walked = equal_holds count pairs.items holds (met u v is js count pairs.items (sym walked))
  verdict_holds Views holds walked = λ pairs same. holds (among pairs) (record { one = same.renaming.one; guests = same.guests; inputs = same.inputs })
  verdict_holds (Differ count) holds walked =
      record {
        first = holds.first;
        second = holds.second;
        pairs = forced u v (take count is) (take count js);
        agree = forced_first count (among holds.agree.0) holds.agree.1;
        ends = λ under below ps same. holds.ends under below (among ps) (record { one = same.renaming.one; guests = same.guests; inputs = same.inputs });
        more = holds.more;
      }

-- OF SIDES
module _ (verdict : Verdict) where
  abbrev Says : ℕ → ℕ → Guest → Guest → List Input → List Input → Type 0
  Says m n u v is js = IsVerdict u v is js (said verdict) → said verdict ≡ walk u v is js → HoldsOf m n u v is js verdict

  says_so : (u v p q : Guest) (is js xs ys : List Input) (m n c d : ℕ) → u ≡ p → v ≡ q → is ≡ xs → js ≡ ys → m ≡ c → n ≡ d → Says m n u v is js → Says c d p q xs ys
  says_so u v p q is js xs ys m n c d e f s t i j says =
      subst₂ (λ (x y : ℕ). Says x y p q xs ys) i j (subst₂ (λ (x y : List Input). Says m n p q x y) s t (subst₂ (λ (x y : Guest). Says m n x y is js) e f says))

module _ (a b : Side) (ram others : ℕ) (x : Known a ram) (y : Known b others) where
  -- of what one pass finds
  abbrev pub Passes : Verdict → Type 0
  Passes verdict = said verdict ≡ walk a.start b.start a.inputs.items b.inputs.items

  abbrev pub IsSo : Verdict → Type 0
  IsSo verdict = IsVerdict a.start b.start a.inputs.items b.inputs.items (said verdict)

  pub side_holds : Enough → Found → Sorted → Stores → Met → (verdict : Verdict) → IsSo verdict → Passes verdict → Holds ram others a b verdict
  side_holds enough found sorted stores met verdict =
      says_so verdict (view x.state x.guest) (view y.state y.guest) a.start b.start (inputs x.state x.turns x.guest) (inputs y.state y.turns y.guest) a.inputs.items b.inputs.items
      (length x.state.memory.ram) (length y.state.memory.ram) ram others (sym x.start) (sym y.start) (sym x.inputs) (sym y.inputs) x.frames y.frames
      (verdict_holds enough found sorted stores met x.state y.state x.turns y.turns x.guest y.guest x.reached y.reached x.there verdict)

  pub side_ends : Fit → EndRenamed → PutOut → (verdict : Verdict) → IsSo verdict → EndsSo a b verdict
  side_ends fit ends puts (Equal count pairs) holds =
      let same = holds.agreement in
      let fits : All InputFits a.inputs.items = subst (All InputFits) (sym x.inputs) (fit x.state x.turns x.guest x.reached.sound) in
      record {
        ends = subst₂ (GuestsAgree (among pairs.items)) (sym x.last) (sym y.last) (ends (among pairs.items) a.start b.start a.inputs.items b.inputs.items same.one same.guests fits same.inputs);
        outs = subst₂ (OutsAgree (among pairs.items)) (sym x.outs) (sym y.outs) (puts (among pairs.items) a.start b.start a.inputs.items b.inputs.items same.one same.guests fits same.inputs);
      }
  side_ends fit ends puts Views holds = tt
  side_ends fit ends puts (Differ count) holds = tt

-- what holds of an answer, where there is one
pub ok_so : {T E : Type 0} (P Q : T → Type 0) (r : Result T E) → ((v : T) → P v → Q v) → IfOk r P → IfOk r Q
ok_so P Q (Ok v) so h = so v h
ok_so P Q (Err e) so h = tt
