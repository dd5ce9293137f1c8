-- No two verdicts on the same guests and inputs hold that say different things.
use Rattle.std.proofs.Common.{◌≡◌, ℕ, zero, suc, ◌<◌, ◌≤◌, List, [], ◌∷◌, length, take, sym, ◌∙◌, subst, subst₂, refl, inl, inr, arith}
use Rattle.std.specs.Prelude.{Bool, true, false}
use Rattle.std.proofs.Math.Seq.{take-length}
use Rattle.std.proofs.lemmas.Bool.{cases_lt}
use Rattle.nova_guest.specs.declared.guest.Guest.{Guest}
use Rattle.nova_guest.specs.declared.input.Input.{Input}
use Rattle.law_renaming.specs.Forced.{among}
use Rattle.law_renaming.specs.Renamings.{InputsAgree}
use Rattle.law_renaming.specs.Verdicts.{AreDifferent, AreEqual, IsAgreement, IsVerdict, SayTheSame, Verdict, Equal, Views, Differ}

-- fewer inputs agree where more do
fewer_inputs : (r : ℕ → ℕ → Bool) (n m : ℕ) (is js : List Input) → n ≤ m → InputsAgree r (take m is) (take m js) → InputsAgree r (take n is) (take n js)
fewer_inputs r zero m is js less same = tt
fewer_inputs r (suc n) zero is js less same = absurd (omega (arith, less))
fewer_inputs r (suc n) (suc m) [] [] less same = tt
fewer_inputs r (suc n) (suc m) [] (j ∷ js) less same = absurd same
fewer_inputs r (suc n) (suc m) (i ∷ is) [] less same = absurd same
fewer_inputs r (suc n) (suc m) (i ∷ is) (j ∷ js) less same = (same.0, fewer_inputs r n m is js (omega (arith, less)) same.1)

fewer : (r : ℕ → ℕ → Bool) (u v : Guest) (n m : ℕ) (is js : List Input) → n ≤ m → IsAgreement r u v (take m is) (take m js) → IsAgreement r u v (take n is) (take n js)
fewer r u v n m is js less same = record { one = same.one; guests = same.guests; inputs = fewer_inputs r n m is js less same.inputs }

-- the guests alone
guests_alone : (r : ℕ → ℕ → Bool) (u v : Guest) (is js : List Input) → IsAgreement r u v is js → IsAgreement r u v [] []
guests_alone r u v is js same = record { one = same.one; guests = same.guests; inputs = tt }

-- all agree, so none differs
no_difference : (r : ℕ → ℕ → Bool) (u v : Guest) (is js : List Input) (inputs n : ℕ) → IsAgreement r u v is js → inputs ≡ length is → inputs ≡ length js → AreDifferent u v is js n → ⊥
no_difference r u v is js inputs n same first second different = elim different.more [
  | inl under ↦ different.ends under (omega (arith, under, first, second)) r whole_first
  | inr below ↦ different.ends (omega (arith, below, first, second)) below r whole_first
]
  where
    whole : IsAgreement r u v (take inputs is) (take inputs js)
    whole = subst₂ (IsAgreement r u v)
        (sym (subst (λ (m : ℕ). take m is ≡ is) (sym first) (take-length is))) (sym (subst (λ (m : ℕ). take m js ≡ js) (sym second) (take-length js))) same

    within : suc n ≤ inputs
    within = elim different.more [
      | inl under ↦ omega (arith, under, first)
      | inr below ↦ omega (arith, below, second)
    ]

    whole_first : IsAgreement r u v (take (suc n) is) (take (suc n) js)
    whole_first = fewer r u v (suc n) inputs is js within whole

-- of two differences neither is before the other
not_before : (u v : Guest) (is js : List Input) (n m : ℕ) → AreDifferent u v is js n → AreDifferent u v is js m → n < m → ⊥
not_before u v is js n m first second before =
    first.ends (let more = second.first in omega arith) (let more = second.second in omega arith) (among second.agree.0) (fewer (among second.agree.0) u v (suc n) m is js before second.agree.1)

same_difference : (u v : Guest) (is js : List Input) (n m : ℕ) → AreDifferent u v is js n → AreDifferent u v is js m → n ≡ m
same_difference u v is js n m first second = elim (cases_lt n m) [
  | inl before ↦ absurd (not_before u v is js n m first second before)
  | inr from ↦ elim (cases_lt m n) [
    | inl after ↦ absurd (not_before u v is js m n second first after)
    | inr upto ↦ omega (arith, from, upto)
  ]
]

-- of two lists of pairs each has the other's
same_test : (x y : Bool) → (x ≡ true → y ≡ true) → (y ≡ true → x ≡ true) → x ≡ y
same_test true y there back = sym (there refl)
same_test false true there back = back refl
same_test false false there back = refl

same_pairs : (u v : Guest) (is js : List Input) (n m : ℕ) (ps qs : List (ℕ × ℕ)) → AreEqual u v is js n ps → AreEqual u v is js m qs → (a b : ℕ) → among ps a b ≡ among qs a b
same_pairs u v is js n m ps qs first second a b =
    same_test (among ps a b) (among qs a b) (first.least (among qs) second.agreement a b) (second.least (among ps) first.agreement a b)

pub one_verdict : (u v : Guest) (is js : List Input) (x y : Verdict) → IsVerdict u v is js x → IsVerdict u v is js y → SayTheSame x y
one_verdict u v is js (Equal n ps) (Equal m qs) first second = (first.first ∙ sym second.first, same_pairs u v is js n m ps qs first second)
one_verdict u v is js (Equal n ps) Views first second = second (among ps) (guests_alone (among ps) u v is js first.agreement)
one_verdict u v is js (Equal n ps) (Differ m) first second = no_difference (among ps) u v is js n m first.agreement first.first first.second second
one_verdict u v is js Views (Equal m qs) first second = first (among qs) (guests_alone (among qs) u v is js second.agreement)
one_verdict u v is js Views Views first second = tt
one_verdict u v is js Views (Differ m) first second = first (among second.agree.0) (guests_alone (among second.agree.0) u v (take m is) (take m js) second.agree.1)
one_verdict u v is js (Differ n) (Equal m qs) first second = no_difference (among qs) u v is js m n second.agreement second.first second.second first
one_verdict u v is js (Differ n) Views first second = second (among first.agree.0) (guests_alone (among first.agree.0) u v (take n is) (take n js) first.agree.1)
one_verdict u v is js (Differ n) (Differ m) first second = same_difference u v is js n m first second
