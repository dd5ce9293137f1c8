-- What is forced of two virtual CPUs takes RAM to RAM and consoles to consoles.
use Rattle.std.proofs.Common.{◌≡◌, ℕ, zero, suc, ◌+◌, ◌*◌, ◌^◌, ◌<◌, ◌≤◌, ◌⊎◌, List, [], ◌∷◌, length, take, drop, ap, sym, ◌∙◌, subst, inl, inr, arith}
use Rattle.std.specs.Prelude.{Bool, true, nat_lt, slice_get, is_some, IfSome}
use Rattle.std.specs.List.{All, concat}
use Rattle.std.proofs.lemmas.List.{length-drop, length-take}
use Rattle.std.proofs.lemmas.List.Elements.{All-nil, All-tail, All-take, All-head}
use Rattle.std.proofs.lemmas.Nat.{pow_pos}
use Rattle.nova_guest.specs.Cells.{page_size}
use Rattle.nova_guest.specs.Maps.{is_covered, leads_to}
use Rattle.nova_guest.specs.declared.input.Input.{Input}
use Rattle.nova_guest.specs.declared.input.Input.TheVariants.{Own, Reply, Recall, Given, Taken, Foreign, Sent, Died}
use Rattle.nova_guest.specs.declared.map.Map.{Map}
use Rattle.nova_model.specs.Guests.{input, inputs}
use Rattle.nova_model.specs.Inputs.{contents_of}
use Rattle.nova_model.specs.Runs.{after}
use Rattle.nova_model.specs.State.{KernelState, pd_of}
use Rattle.nova_model.specs.Views.{cells_of, maps_of, view}
use Rattle.law_isolation.specs.Sound.{AreRanges, AreWhole, IsSound}
use Rattle.law_isolation.proofs.Exchanges.{all_drop, all_take, length_concat}
use Rattle.law_isolation.proofs.Ranges.{child_ranged, turn_ranges}
use Rattle.law_isolation.proofs.Runs.{turn_sound}
use Rattle.law_isolation.proofs.Showing.{turn_frames}
use Rattle.law_isolation.proofs.Spaces.{cell_covered}
use Rattle.law_renaming.specs.Forced.{among, forced, input_pairs, inputs_pairs, maps_pairs, paired, same_flag}
use Rattle.law_renaming.specs.Renamings.{CellsAgree, InputAgrees, InputsAgree, MapsAgree, Renames}
use Rattle.law_renaming.specs.Twins.{IsRenaming}
use Rattle.law_renaming.specs.Verdicts.{IsAgreement}
use Rattle.law_renaming.proofs.Comparing.{agree_found, agree_made}
use Rattle.law_renaming.proofs.Forcing.{AreIn, both_in, flags_same, flags_self, none_in, or_left, or_right, paired_in}
use Rattle.law_renaming.proofs.Passing.{input_passes}
use Rattle.law_renaming.proofs.Runs.{front_each}

-- INPUTS: the frames of a map that comes are RAM just where it comes with bytes, and another stores to RAM
abbrev IsSorted : ℕ → Input → Type 0
IsSorted ram (Given base order rights frame contents) = (i : ℕ) → i < 2 ^ order → nat_lt (frame + i) ram ≡ nat_lt 0 (length contents)
IsSorted ram (Foreign frame offset width value) = nat_lt frame ram ≡ true
IsSorted ram other = Unit {0}

some_frame : (ram : List (List ℕ)) (f : ℕ) → is_some (slice_get ram f) ≡ nat_lt f (length ram)
some_frame [] f = grind arith
some_frame (x ∷ ram) zero = grind arith
some_frame (x ∷ ram) (suc f) = grind (arith, some_frame ram f)

given_sorted : (frame order : ℕ) (ram : List (List ℕ)) → AreWhole ram → (frame + 2 ^ order ≤ length ram) ⊎ (length ram ≤ frame) →
    (i : ℕ) → i < 2 ^ order → nat_lt (frame + i) (length ram) ≡ nat_lt 0 (length (contents_of ram frame order))
unfolding page_size
given_sorted frame order ram whole sort i within = by_sort sort
  where
    some : List (List ℕ)
    some = take (2 ^ order) (drop frame ram)

    count : length (concat some) ≡ length some * 4096
    count = length_concat 4096 some (all_take (λ p. length p ≡ 4096) (2 ^ order) (drop frame ram) (all_drop (λ p. length p ≡ 4096) frame ram whole))

    by_sort : (frame + 2 ^ order ≤ length ram) ⊎ (length ram ≤ frame) → nat_lt (frame + i) (length ram) ≡ nat_lt 0 (length (concat some))
    by_sort (inl below) =
        let rest = length-drop frame ram in let short = length-take (2 ^ order) (drop frame ram) in grind (arith, count, rest, short, below, within, pow_pos order)
    by_sort (inr past) =
        let rest = length-drop frame ram in let short = length-take (2 ^ order) (drop frame ram) in grind (arith, count, rest, short, past)

turn_sorted : (k : KernelState) (cpu g : ℕ) → IsSound k → AreRanges k → IfSome (input k cpu g) (IsSorted (length k.memory.ram))
turn_sorted k cpu g sound ranges = input_passes k cpu g (IsSorted (length k.memory.ram)) (record {
  own = tt;
  sent = tt;
  died = tt;
  recall = tt;
  reply = λ mtd words. tt;
  taken = λ base order. tt;
  given = λ ec d cursor allowed is. given_sorted d.target d.order k.memory.ram sound.whole.frames ((child_ranged k ec d sound.forest ranges allowed).sort is);
  foreign = λ frame offset width value covered ram. sym (some_frame k.memory.ram frame) ∙ ram;
})

all_sorted : (k : KernelState) (turns : List ℕ) (g : ℕ) → IsSound k → AreRanges k → All (IsSorted (length k.memory.ram)) (inputs k turns g)
all_sorted k [] g sound ranges = All-nil (IsSorted (length k.memory.ram))
all_sorted k (cpu ∷ turns) g sound ranges =
    front_each (IsSorted (length k.memory.ram)) (input k cpu g) (inputs (after k cpu) turns g) (turn_sorted k cpu g sound ranges)
    (subst (λ (n : ℕ). All (IsSorted n) (inputs (after k cpu) turns g)) (turn_frames k cpu) (all_sorted (after k cpu) turns g (turn_sound k cpu sound) (turn_ranges k cpu sound ranges)))

-- PAIRS of which both are RAM, or none is
abbrev sorted : ℕ → ℕ → ℕ → ℕ → Bool
sorted m n a b = same_flag (nat_lt a m) (nat_lt b n)

sorted_by : (m n a b : ℕ) (t : Bool) → nat_lt a m ≡ t → nat_lt b n ≡ t → Renames (sorted m n) a b
sorted_by m n a b t first second = rw (first, second) (flags_self t)

input_sorted : (r : ℕ → ℕ → Bool) (m n : ℕ) (i j : Input) → InputAgrees r i j → IsSorted m i → IsSorted n j → AreIn (sorted m n) (input_pairs i j)
input_sorted r m n (Given base order rights frame contents) j same first second =
    let there : IsSorted n (Given base order rights same.0 contents) = subst (IsSorted n) same.1 second in
    subst (λ (x : Input). AreIn (sorted m n) (input_pairs (Given base order rights frame contents) x)) (sym same.1)
    (paired_in (sorted m n) (2 ^ order) frame same.0 (λ i within. sorted_by m n (frame + i) (same.0 + i) (nat_lt 0 (length contents)) (first i within) (there i within)))
input_sorted r m n (Foreign frame offset width value) j same first second =
    let there : nat_lt same.0 n ≡ true = subst (IsSorted n) same.1 second in
    let e : frame + 0 ≡ frame = omega arith in
    let d : same.0 + 0 ≡ same.0 = omega arith in
    subst (λ (x : Input). AreIn (sorted m n) (input_pairs (Foreign frame offset width value) x)) (sym same.1)
    (paired_in (sorted m n) 1 frame same.0 (λ i within. let o : i ≡ 0 = omega (arith, within) in rw (o, e, d) (sorted_by m n frame same.0 true first there)))
input_sorted r m n Own j same first second = none_in (sorted m n)
input_sorted r m n Sent j same first second = none_in (sorted m n)
input_sorted r m n Died j same first second = none_in (sorted m n)
input_sorted r m n Recall j same first second = none_in (sorted m n)
input_sorted r m n (Reply mtd words) j same first second = none_in (sorted m n)
input_sorted r m n (Taken base order) j same first second = none_in (sorted m n)

inputs_sorted : (r : ℕ → ℕ → Bool) (m n : ℕ) (is js : List Input) → InputsAgree r is js → All (IsSorted m) is → All (IsSorted n) js → AreIn (sorted m n) (inputs_pairs is js)
inputs_sorted r m n [] [] same first second = none_in (sorted m n)
inputs_sorted r m n [] (j ∷ js) same first second = absurd same
inputs_sorted r m n (i ∷ is) [] same first second = absurd same
inputs_sorted r m n (i ∷ is) (j ∷ js) same first second =
    both_in (sorted m n) (input_pairs i j) (inputs_pairs is js) (input_sorted r m n i j same.0 (All-head (IsSorted m) i is first) (All-head (IsSorted n) j js second))
    (inputs_sorted r m n is js same.1 (All-tail (IsSorted m) i is first) (All-tail (IsSorted n) j js second))

leads : (m : Map) (i : ℕ) → i < 2 ^ m.order → leads_to (m.frame + i) m ≡ true
leads m i within = grind (arith, within)

maps_sorted : (r s : ℕ → ℕ → Bool) (ms ns : List Map) → MapsAgree r ms ns → ((a b : ℕ) → Renames r a b → is_covered ms a ≡ true → is_covered ns b ≡ true → Renames s a b) →
    AreIn s (maps_pairs ms ns)
maps_sorted r s [] [] same both = none_in s
maps_sorted r s [] (n ∷ ns) same both = absurd same
maps_sorted r s (m ∷ ms) [] same both = absurd same
maps_sorted r s (m ∷ ms) (n ∷ ns) same both =
    both_in s (paired (2 ^ m.order) m.frame n.frame) (maps_pairs ms ns)
    (paired_in s (2 ^ m.order) m.frame n.frame (λ i within. both (m.frame + i) (n.frame + i) (same.0.frames i within)
    (or_left (leads_to (m.frame + i) m) (is_covered ms (m.frame + i)) (leads m i within))
    (or_left (leads_to (n.frame + i) n) (is_covered ns (n.frame + i)) (leads n i (subst (λ (o : ℕ). i < 2 ^ o) (sym same.0.order) within)))))
    (maps_sorted r s ms ns same.1 (λ a b pair first second. both a b pair (or_right (leads_to a m) (is_covered ms a) first) (or_right (leads_to b n) (is_covered ns b) second)))

covered_sorted : (r : ℕ → ℕ → Bool) (ms ns : List Map) (ram others : List (List ℕ)) → CellsAgree r (cells_of ms ram) (cells_of ns others) → (a b : ℕ) → Renames r a b →
    is_covered ms a ≡ true → is_covered ns b ≡ true → Renames (sorted (length ram) (length others)) a b
covered_sorted r ms ns ram others cells a b pair first second =
    sorted_by (length ram) (length others) a b (is_some (slice_get ram a)) (sym (some_frame ram a))
    (sym (some_frame others b) ∙ ap is_some (sym (cell_covered ns others b second) ∙ (cells a b pair ∙ cell_covered ms ram a first)))

pub forced_sorted : (r : ℕ → ℕ → Bool) (k l : KernelState) (turns others : List ℕ) (g h n : ℕ) → IsSound k → IsSound l → AreRanges k → AreRanges l →
    IsAgreement r (view k g) (view l h) (take n (inputs k turns g)) (take n (inputs l others h)) →
    IsRenaming (among (forced (view k g) (view l h) (take n (inputs k turns g)) (take n (inputs l others h)))) (length k.memory.ram) (length l.memory.ram)
unfolding view
forced_sorted r k l turns others g h n sound sound_ ranges ranges_ same = record {
  one = (agree_made (view k g) (view l h) is js (agree_found r (view k g) (view l h) is js same)).one;
  sort = λ a b pair. flags_same (nat_lt a (length k.memory.ram)) (nat_lt b (length l.memory.ram)) (all a b pair);
}
  where
    is : List Input
    is = take n (inputs k turns g)

    js : List Input
    js = take n (inputs l others h)

    ms : List Map
    ms = maps_of (pd_of k g) k.delegations.list

    ns : List Map
    ns = maps_of (pd_of l h) l.delegations.list

    all : AreIn (sorted (length k.memory.ram) (length l.memory.ram)) (forced (view k g) (view l h) is js)
    all = both_in (sorted (length k.memory.ram) (length l.memory.ram)) (maps_pairs ms ns) (inputs_pairs is js)
        (maps_sorted r (sorted (length k.memory.ram) (length l.memory.ram)) ms ns same.guests.maps (covered_sorted r ms ns k.memory.ram l.memory.ram same.guests.cells))
        (inputs_sorted r (length k.memory.ram) (length l.memory.ram) is js same.inputs
        (All-take (IsSorted (length k.memory.ram)) n (inputs k turns g) (all_sorted k turns g sound ranges))
        (All-take (IsSorted (length l.memory.ram)) n (inputs l others h) (all_sorted l others h sound_ ranges_)))
