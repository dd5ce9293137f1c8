-- A store of another names no new pair: a map leads to its frame, and a map to its partner.
use Rattle.std.proofs.Common.{◌≡◌, ℕ, ◌+◌, ◌-◌, ◌^◌, List, [], ◌∷◌, ◌++◌, ap, sym, ◌∙◌, subst, refl, inl, inr, arith}
use Rattle.std.specs.Prelude.{Bool, true, false, ◌||◌, ◌==◌, Option, Some, None, IfSome, if◌then◌else◌}
use Rattle.std.specs.List.{All}
use Rattle.std.proofs.lemmas.Bool.{and_parts, eqb-true}
use Rattle.std.proofs.lemmas.List.{append_assoc}
use Rattle.std.proofs.lemmas.List.Elements.{All-tail, All-head}
use Rattle.nova_guest.specs.Alone.{applied}
use Rattle.nova_guest.specs.Maps.{is_covered, leads_to}
use Rattle.nova_guest.specs.declared.guest.Guest.{Guest}
use Rattle.nova_guest.specs.declared.input.Input.{Input}
use Rattle.nova_guest.specs.declared.input.Input.TheVariants.{Own, Reply, Recall, Given, Taken, Foreign, Sent, Died}
use Rattle.nova_guest.specs.declared.map.Map.{Map}
use Rattle.nova_model.specs.Choice.{in_front}
use Rattle.nova_model.specs.Guests.{input, inputs}
use Rattle.nova_model.specs.Runs.{after}
use Rattle.nova_model.specs.State.{KernelState, pd_of}
use Rattle.nova_model.specs.Views.{view}
use Rattle.law_isolation.specs.Law.{answered}
use Rattle.law_isolation.specs.Sound.{IsSound, IsVirtual}
use Rattle.law_isolation.proofs.Exchanges.{covered_for}
use Rattle.law_isolation.proofs.Runs.{turn_is_one, turn_sound, turn_virtual}
use Rattle.law_renaming.specs.Forced.{all_given, among, forced, given_pairs, input_pairs, inputs_pairs, is_pair, maps_pairs, named, new_pairs, once, paired}
use Rattle.law_renaming.specs.Renamings.{InputFits, GuestsAgree, InputAgrees, InputsAgree, IsOneToOne, MapsAgree, Renames}
use Rattle.law_renaming.specs.Verdicts.{IsAgreement}
use Rattle.law_renaming.proofs.Forcing.{AreIn, both_in, in_paired, left_in, maps_alike, maps_forced, maps_made, none_in, or_left, or_parts, or_right, paired_in, right_in}
use Rattle.law_renaming.proofs.Passing.{input_passes}
use Rattle.law_renaming.proofs.Runs.{inputs_fit}
use Rattle.law_renaming.proofs.Steps.{apply_agrees}

-- STORES OF OTHERS are to frames that the guest's maps lead to
abbrev IsCovered : Guest → Input → Type 0
IsCovered v (Foreign frame offset width value) = is_covered v.maps frame ≡ true
IsCovered v other = Unit {0}

abbrev AreCovered : Guest → List Input → Type 0
AreCovered v [] = Unit {0}
AreCovered v (i ∷ is) = IsCovered v i × AreCovered (applied v i).guest is

turn_covered : (k : KernelState) (cpu g : ℕ) → IsSound k → IfSome (input k cpu g) (IsCovered (view k g))
unfolding view
turn_covered k cpu g sound = input_passes k cpu g (IsCovered (view k g)) (record {
  own = tt;
  sent = tt;
  died = tt;
  recall = tt;
  reply = λ mtd words. tt;
  taken = λ base order. tt;
  given = λ ec d cursor allowed is. tt;
  foreign = λ frame offset width value covered ram. sym (covered_for (pd_of k g) frame k.delegations.list sound.forest.apart) ∙ covered;
})

covered_front : (v w : Guest) (i : Option Input) (is : List Input) → w ≡ (answered v i).guest → IfSome i (IsCovered v) → AreCovered w is → AreCovered v (in_front i is)
covered_front v w None is same first rest = subst (λ (u : Guest). AreCovered u is) same rest
covered_front v w (Some i) is same first rest = (first, subst (λ (u : Guest). AreCovered u is) same rest)

all_covered : (k : KernelState) (turns : List ℕ) (g : ℕ) → IsSound k → IsVirtual k g → AreCovered (view k g) (inputs k turns g)
all_covered k [] g sound is = tt
all_covered k (cpu ∷ turns) g sound is =
    covered_front (view k g) (view (after k cpu) g) (input k cpu g) (inputs (after k cpu) turns g) (turn_is_one k cpu g sound is).guest (turn_covered k cpu g sound)
    (all_covered (after k cpu) turns g (turn_sound k cpu sound) (turn_virtual k cpu g is))

-- A PART OF A RENAMING does as well where it names the frames of the maps
pub more_maps : (s t : ℕ → ℕ → Bool) (ms ns : List Map) → ((a b : ℕ) → Renames s a b → Renames t a b) → MapsAgree s ms ns → MapsAgree t ms ns
more_maps s t ms ns more same = maps_made t ms ns (maps_alike s ms ns same) (λ a b pair. more a b (maps_forced s ms ns same a b pair))

part_one : (r s : ℕ → ℕ → Bool) → IsOneToOne r → ((a b : ℕ) → Renames s a b → Renames r a b) → IsOneToOne s
part_one r s one part = record {
  to = λ a b c ab ac. one.to a b c (part a b ab) (part a c ac);
  from = λ a b c ac bc. one.from a b c (part a c ac) (part b c bc);
}

part_guests : (r s : ℕ → ℕ → Bool) (u v : Guest) → GuestsAgree r u v → ((a b : ℕ) → Renames s a b → Renames r a b) → MapsAgree s u.maps v.maps → GuestsAgree s u v
part_guests r s u v same part maps = record {
  regs = same.regs;
  state = same.state;
  recall = same.recall;
  maps = maps;
  cells = λ a b pair. same.cells a b (part a b pair);
}

-- the partner of a frame that maps lead to
partner : (s : ℕ → ℕ → Bool) (ms ns : List Map) (f : ℕ) → MapsAgree s ms ns → is_covered ms f ≡ true → (x : ℕ) × Renames s f x
partner s [] ns f same covered = absurd (cc)
partner s (m ∷ ms) [] f same covered = absurd same
partner s (m ∷ ms) (n ∷ ns) f same covered = elim (or_parts (leads_to f m) (is_covered ms f) covered) [
  | inl here ↦
      let e : m.frame + (f - m.frame) ≡ f = grind arith in
      (n.frame + (f - m.frame), subst (λ (x : ℕ). Renames s x (n.frame + (f - m.frame))) e (same.0.frames (f - m.frame) (grind arith)))
  | inr there ↦ partner s ms ns f same.1 there
]

-- A PAIR THAT WAS MET adds nothing
or_moved : (x m n : Bool) → (m || (x || n)) ≡ true → ((x || m) || n) ≡ true
or_moved true m n h = refl
or_moved false m n h = h

pub met_pair : (met xs ys : List (ℕ × ℕ)) (p : ℕ × ℕ) → (among met p.0 p.1 || among xs p.0 p.1) ≡ true → new_pairs met (xs ++ (p ∷ ys)) ≡ new_pairs met (xs ++ ys)
met_pair met [] ys p is = elim (or_parts (among met p.0 p.1) false is) [
  | inl here ↦ rw here refl
  | inr none ↦ absurd (cc)
]
met_pair met (x ∷ xs) ys p is = by_met (among met x.0 x.1) refl (met_pair met xs ys p) (met_pair (x ∷ met) xs ys p)
  where
    by_met : (t : Bool) → among met x.0 x.1 ≡ t → ((among met p.0 p.1 || among xs p.0 p.1) ≡ true → new_pairs met (xs ++ (p ∷ ys)) ≡ new_pairs met (xs ++ ys)) →
        ((among (x ∷ met) p.0 p.1 || among xs p.0 p.1) ≡ true → new_pairs (x ∷ met) (xs ++ (p ∷ ys)) ≡ new_pairs (x ∷ met) (xs ++ ys)) →
        (if t then new_pairs met (xs ++ (p ∷ ys)) else x ∷ new_pairs (x ∷ met) (xs ++ (p ∷ ys))) ≡ (if t then new_pairs met (xs ++ ys) else x ∷ new_pairs (x ∷ met) (xs ++ ys))
    by_met false h same more = ap (λ (ps : List (ℕ × ℕ)). x ∷ ps) (more (or_moved (is_pair p.0 p.1 x) (among met p.0 p.1) (among xs p.0 p.1) is))
    by_met true h same more = same (elim (or_parts (among met p.0 p.1) (is_pair p.0 p.1 x || among xs p.0 p.1) is) [
      | inl here ↦ or_left _ _ here
      | inr later ↦ elim (or_parts (is_pair p.0 p.1 x) (among xs p.0 p.1) later) [
        | inl this ↦
            let both = and_parts (x.0 == p.0) (x.1 == p.1) this in
            or_left _ _ (subst (λ (b : ℕ). among met p.0 b ≡ true) (eqb-true x.1 p.1 both.1) (subst (λ (a : ℕ). among met a x.1 ≡ true) (eqb-true x.0 p.0 both.0) h))
        | inr there ↦ or_right _ _ there
      ]
    ])

-- ONE INPUT with the pairs that are named up to it
all_in : (xs : List (ℕ × ℕ)) → AreIn (among xs) xs
all_in xs a b h = h

named_agrees : (r : ℕ → ℕ → Bool) (u v : Guest) (i j : Input) (xs : List (ℕ × ℕ)) → IsOneToOne r → InputAgrees r i j → IsCovered u i → AreIn r xs → MapsAgree (among xs) u.maps v.maps →
    InputAgrees (among (xs ++ given_pairs i j)) i j
named_agrees r u v (Given base order rights frame contents) j xs one same covered part maps = (
  same.0,
  same.1,
  λ i within. in_paired (among (xs ++ given_pairs (Given base order rights frame contents) j)) (2 ^ order) frame same.0 i within
      (subst (λ (x : Input). AreIn (among (xs ++ given_pairs (Given base order rights frame contents) x)) (paired (2 ^ order) frame same.0)) (sym same.1)
      (right_in (among (xs ++ paired (2 ^ order) frame same.0)) xs (paired (2 ^ order) frame same.0) (all_in (xs ++ paired (2 ^ order) frame same.0)))),
)
named_agrees r u v (Foreign frame offset width value) j xs one same covered part maps =
    let found = partner (among xs) u.maps v.maps frame maps covered in
    let e : found.0 ≡ same.0 = one.to frame found.0 same.0 (part frame found.0 found.1) same.2 in
    (same.0, same.1, left_in (among (xs ++ [])) xs [] (all_in (xs ++ [])) frame same.0 (subst (Renames (among xs) frame) e found.1))
named_agrees r u v Own j xs one same covered part maps = same
named_agrees r u v Sent j xs one same covered part maps = same
named_agrees r u v Died j xs one same covered part maps = same
named_agrees r u v Recall j xs one same covered part maps = same
named_agrees r u v (Reply mtd words) j xs one same covered part maps = same
named_agrees r u v (Taken base order) j xs one same covered part maps = same

given_in : (r : ℕ → ℕ → Bool) (i j : Input) → InputAgrees r i j → AreIn r (given_pairs i j)
given_in r (Given base order rights frame contents) j same =
    subst (λ (x : Input). AreIn r (given_pairs (Given base order rights frame contents) x)) (sym same.1) (paired_in r (2 ^ order) frame same.0 same.2)
given_in r (Foreign frame offset width value) j same = none_in r
given_in r Own j same = none_in r
given_in r Sent j same = none_in r
given_in r Died j same = none_in r
given_in r Recall j same = none_in r
given_in r (Reply mtd words) j same = none_in r
given_in r (Taken base order) j same = none_in r

input_met : (r : ℕ → ℕ → Bool) (u v : Guest) (i j : Input) (xs rest : List (ℕ × ℕ)) → IsOneToOne r → InputAgrees r i j → IsCovered u i → AreIn r xs → MapsAgree (among xs) u.maps v.maps →
    once (xs ++ (input_pairs i j ++ rest)) ≡ once (xs ++ (given_pairs i j ++ rest))
input_met r u v (Given base order rights frame contents) j xs rest one same covered part maps =
    subst (λ (x : Input). once (xs ++ (input_pairs (Given base order rights frame contents) x ++ rest)) ≡ once (xs ++ (given_pairs (Given base order rights frame contents) x ++ rest))) (sym same.1) refl
input_met r u v (Foreign frame offset width value) j xs rest one same covered part maps =
    let found = partner (among xs) u.maps v.maps frame maps covered in
    let e : found.0 ≡ same.0 = one.to frame found.0 same.0 (part frame found.0 found.1) same.2 in
    subst (λ (x : Input). once (xs ++ (input_pairs (Foreign frame offset width value) x ++ rest)) ≡ once (xs ++ rest)) (sym same.1)
    (met_pair [] xs rest (frame, same.0) (subst (Renames (among xs) frame) e found.1))
input_met r u v Own j xs rest one same covered part maps = refl
input_met r u v Sent j xs rest one same covered part maps = refl
input_met r u v Died j xs rest one same covered part maps = refl
input_met r u v Recall j xs rest one same covered part maps = refl
input_met r u v (Reply mtd words) j xs rest one same covered part maps = refl
input_met r u v (Taken base order) j xs rest one same covered part maps = refl

-- ALL INPUTS
inputs_met : (r : ℕ → ℕ → Bool) (u v : Guest) (is js : List Input) (xs : List (ℕ × ℕ)) → IsOneToOne r → GuestsAgree r u v → InputsAgree r is js → All InputFits is → AreCovered u is → AreIn r xs →
    MapsAgree (among xs) u.maps v.maps → once (xs ++ inputs_pairs is js) ≡ once (xs ++ all_given is js)
inputs_met r u v [] [] xs one guests same fit covered part maps = refl
inputs_met r u v [] (j ∷ js) xs one guests same fit covered part maps = absurd same
inputs_met r u v (i ∷ is) [] xs one guests same fit covered part maps = absurd same
inputs_met r u v (i ∷ is) (j ∷ js) xs one guests same fit covered part maps =
    let ys : List (ℕ × ℕ) = xs ++ given_pairs i j in
    let more : AreIn r ys = both_in r xs (given_pairs i j) part (given_in r i j same.0) in
    let wider : MapsAgree (among ys) u.maps v.maps = more_maps (among xs) (among ys) u.maps v.maps (left_in (among ys) xs (given_pairs i j) (all_in ys)) maps in
    let fits : InputFits i = All-head InputFits i is fit in
    let whole = apply_agrees r one u v guests i j fits same.0 in
    let next = apply_agrees (among ys) (part_one r (among ys) one more) u v (part_guests r (among ys) u v guests more wider) i j fits (named_agrees r u v i j xs one same.0 covered.0 part maps) in
    input_met r u v i j xs (inputs_pairs is js) one same.0 covered.0 part maps
    ∙ (ap once (sym (append_assoc xs (given_pairs i j) (inputs_pairs is js)))
    ∙ (inputs_met r (applied u i).guest (applied v j).guest is js ys one whole.guest same.1 (All-tail InputFits i is fit) covered.1 more next.guest.maps
    ∙ ap once (append_assoc xs (given_pairs i j) (all_given is js))))

pub forced_named : (r : ℕ → ℕ → Bool) (k : KernelState) (turns : List ℕ) (g : ℕ) (v : Guest) (js : List Input) → IsSound k → IsVirtual k g →
    IsAgreement r (view k g) v (inputs k turns g) js → once (forced (view k g) v (inputs k turns g) js) ≡ once (named (view k g) v (inputs k turns g) js)
forced_named r k turns g v js sound is same =
    inputs_met r (view k g) v (inputs k turns g) js pairs same.one same.guests same.inputs (inputs_fit k turns g sound) (all_covered k turns g sound is)
    (maps_forced r (view k g).maps v.maps same.guests.maps)
    (maps_made (among pairs) (view k g).maps v.maps (maps_alike r (view k g).maps v.maps same.guests.maps) (all_in pairs))
  where
    pairs : List (ℕ × ℕ)
    pairs = maps_pairs (view k g).maps v.maps
