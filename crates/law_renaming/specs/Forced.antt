-- The renaming that two guests and their inputs force, and whether it is one under which they agree.
use Rattle.std.specs.Prelude.{ℕ, zero, suc, ◌+◌, ◌^◌, ◌==◌, ◌&&◌, Bool, true, false, not, nat_eq, List, [], ◌∷◌, ◌++◌, Option, Some, None, if◌then◌else◌}
use Rattle.std.specs.Cmp.Lexicographic.{pointwise}
use Rattle.std.specs.List.{list_all, list_any}
use Rattle.rv_model.specs.Registers.{Registers}
use Rattle.nova_guest.specs.Cells.{cell_at}
use Rattle.nova_guest.specs.declared.cell.Cell.{Cell}
use Rattle.nova_guest.specs.declared.guest.Guest.{Guest}
use Rattle.nova_guest.specs.declared.guest.GuestState.{GuestState}
use Rattle.nova_guest.specs.declared.guest.GuestState.TheVariants.{Fresh, Ready, Exit, Waiting, Dead}
use Rattle.nova_guest.specs.declared.input.Input.{Input}
use Rattle.nova_guest.specs.declared.input.Input.TheVariants.{Own, Reply, Recall, Given, Taken, Foreign, Sent, Died}
use Rattle.nova_guest.specs.declared.map.Map.{Map}

-- A LIST OF PAIRS AS A RENAMING: the second of a pair stands for the first
abbrev pub is_pair : ℕ → ℕ → ℕ × ℕ → Bool
is_pair a b p = (p.0 == a) && (p.1 == b)

abbrev pub among : List (ℕ × ℕ) → ℕ → ℕ → Bool
among pairs a b = list_any (is_pair a b) pairs

-- THE PAIRS THAT ARE FORCED: the i-th frame of a map, or of a map that is given, goes with the i-th of its partner; and a frame to which another
-- stores with its partner
abbrev pub paired : ℕ → ℕ → ℕ → List (ℕ × ℕ)
paired zero a b = []
paired (suc n) a b = (a, b) ∷ paired n (a + 1) (b + 1)

abbrev pub maps_pairs : List Map → List Map → List (ℕ × ℕ)
maps_pairs (m ∷ ms) (n ∷ ns) = paired (2 ^ m.order) m.frame n.frame ++ maps_pairs ms ns
maps_pairs ms ns = []

abbrev pub input_pairs : Input → Input → List (ℕ × ℕ)
input_pairs (Given base order rights frame contents) (Given b o r new c) = paired (2 ^ order) frame new
input_pairs (Foreign frame offset width value) (Foreign new o w v) = (frame, new) ∷ []
input_pairs i j = []

abbrev pub inputs_pairs : List Input → List Input → List (ℕ × ℕ)
inputs_pairs (i ∷ is) (j ∷ js) = input_pairs i j ++ inputs_pairs is js
inputs_pairs is js = []

abbrev pub forced : Guest → Guest → List Input → List Input → List (ℕ × ℕ)
forced u v is js = maps_pairs u.maps v.maps ++ inputs_pairs is js

-- those that the maps of the guests and the maps that are given name
abbrev pub given_pairs : Input → Input → List (ℕ × ℕ)
given_pairs (Given base order rights frame contents) (Given b o r new c) = paired (2 ^ order) frame new
given_pairs i j = []

abbrev pub all_given : List Input → List Input → List (ℕ × ℕ)
all_given (i ∷ is) (j ∷ js) = given_pairs i j ++ all_given is js
all_given is js = []

abbrev pub named : Guest → Guest → List Input → List Input → List (ℕ × ℕ)
named u v is js = maps_pairs u.maps v.maps ++ all_given is js

-- each pair once, in the order in which they are first met: those of `pairs` that are not among those met before
abbrev pub new_pairs : List (ℕ × ℕ) → List (ℕ × ℕ) → List (ℕ × ℕ)
new_pairs met [] = []
new_pairs met (p ∷ pairs) = if among met p.0 p.1 then new_pairs met pairs else p ∷ new_pairs (p ∷ met) pairs

abbrev pub once : List (ℕ × ℕ) → List (ℕ × ℕ)
once pairs = new_pairs [] pairs

-- ALL BUT THE FRAMES IS EQUAL
abbrev pub same_numbers : List ℕ → List ℕ → Bool
same_numbers xs ys = pointwise nat_eq xs ys

abbrev pub same_flag : Bool → Bool → Bool
same_flag true b = b
same_flag false b = not b

abbrev pub same_state : GuestState → GuestState → Bool
same_state Fresh Fresh = true
same_state Ready Ready = true
same_state (Exit reason q0 q1) (Exit r a b) = (reason == r) && ((q0 == a) && (q1 == b))
same_state Waiting Waiting = true
same_state Dead Dead = true
same_state s t = false

abbrev pub same_registers : Registers → Registers → Bool
same_registers r s = (r.pc == s.pc) && same_numbers r.x s.x

abbrev pub alike_map : Map → Map → Bool
alike_map m n = (m.base == n.base) && ((m.order == n.order) && (m.rights.0 == n.rights.0))

abbrev pub alike_maps : List Map → List Map → Bool
alike_maps [] [] = true
alike_maps (m ∷ ms) (n ∷ ns) = alike_map m n && alike_maps ms ns
alike_maps ms ns = false

abbrev pub alike_input : Input → Input → Bool
alike_input Own Own = true
alike_input Sent Sent = true
alike_input Died Died = true
alike_input Recall Recall = true
alike_input (Reply mtd words) (Reply m ws) = (mtd.0 == m.0) && same_numbers words ws
alike_input (Given base order rights frame contents) (Given b o r new c) =
    (base == b) && ((order == o) && ((rights.0 == r.0) && same_numbers contents c))
alike_input (Taken base order) (Taken b o) = (base == b) && (order == o)
alike_input (Foreign frame offset width value) (Foreign new o w v) = (offset == o) && ((width == w) && (value == v))
alike_input i j = false

abbrev pub is_given : Input → Bool
is_given (Given base order rights frame contents) = true
is_given other = false

abbrev pub alike_inputs : List Input → List Input → Bool
alike_inputs [] [] = true
alike_inputs (i ∷ is) (j ∷ js) = alike_input i j && alike_inputs is js
alike_inputs is js = false

abbrev pub alike : Guest → Guest → Bool
alike u v = same_registers u.regs v.regs && (same_state u.state v.state && (same_flag u.recall v.recall && alike_maps u.maps v.maps))

-- THE PAIRS ARE A RENAMING under which cells agree: first frames are equal just where second ones are, and both frames of a pair have equal bytes, or no cell
abbrev pub suits : ℕ × ℕ → ℕ × ℕ → Bool
suits p q = same_flag (p.0 == q.0) (p.1 == q.1)

abbrev pub is_one_to_one : List (ℕ × ℕ) → Bool
is_one_to_one pairs = list_all (λ p. list_all (suits p) pairs) pairs

abbrev pub same_bytes : Option (List ℕ) → Option (List ℕ) → Bool
same_bytes None None = true
same_bytes (Some xs) (Some ys) = same_numbers xs ys
same_bytes xs ys = false

abbrev pub has_same_bytes : List Cell → List Cell → ℕ × ℕ → Bool
has_same_bytes cells new p = same_bytes (cell_at cells p.0) (cell_at new p.1)

-- WHETHER SOME RENAMING makes the guests and all inputs agree
abbrev pub agree_by : Guest → Guest → List Input → List Input → List (ℕ × ℕ) → Bool
agree_by u v is js pairs = alike u v && (alike_inputs is js && (is_one_to_one pairs && list_all (has_same_bytes u.cells v.cells) pairs))

unfoldable pub agree : Guest → Guest → List Input → List Input → Bool
agree u v is js = agree_by u v is js (forced u v is js)
