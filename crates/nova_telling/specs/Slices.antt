-- The payers and actors of the turns of a part of a run, in slices.
use Rattle.std.specs.Prelude.{ℕ, ◌+◌, ◌-◌, ◌==◌, ◌&&◌, ◌||◌, not, if◌then◌else◌, Bool, true, false, List, [], ◌∷◌, ◌++◌, codes, decimal, flat_map, length, Option, Some, None, count_by, find, position, reverse, take_while, unwrap_or}
use Rattle.law_forest.specs.Turns.{is_passing}
use Rattle.nova_model.specs.declared.event.Event.{Event}
use Rattle.nova_report.specs.Words.{line_feed}
use Rattle.nova_telling.specs.declared.slices.Slice.{Slice}

-- the scheduling context that pays for a turn, and the context that acts in it; none where a deadline or an alarm comes, or the clock alone goes on
abbrev pub who : Event → Option (ℕ × ℕ)
who e = if is_passing e.kind then None else Some (e.sc, e.ec)

abbrev pub is_same : Option (ℕ × ℕ) → Option (ℕ × ℕ) → Bool
is_same (Some (sc, ec)) (Some (payer, actor)) = (sc == payer) && (ec == actor)
is_same None None = true
is_same one other = false

-- whether a turn is of the same processor
abbrev pub is_of : Event → Event → Bool
is_of e turn = turn.cpu == e.cpu

-- whether a turn is not one of the same processor in which another pays or acts
abbrev pub goes_on : Event → Event → Bool
goes_on e turn = not (is_of e turn) || is_same (who e) (who turn)

-- a slice begins with the first turn of a processor, and with each that differs from the turn before
abbrev pub begins_after : Option Event → Event → Bool
begins_after (Some turn) e = not (is_same (who turn) (who e))
begins_after None e = true

abbrev pub begins : List Event → Event → Bool
begins before e = begins_after (find (is_of e) (reverse before)) e

-- how far the last turn of the same processor is among some
abbrev pub last_of : Event → List Event → ℕ
last_of e turns = length turns - (unwrap_or (position (is_of e) (reverse turns)) 0 + 1)

-- the slice that begins with a turn, of those from it on that come before the next of the same processor in which another pays or acts
abbrev pub slice_in : ℕ → Event → List Event → Slice
slice_in first e turns = record { cpu = e.cpu; first = first; last = first + last_of e turns; turns = count_by (is_of e) turns; payer = who e }

abbrev pub slice_of : ℕ → Event → List Event → Slice
slice_of first e turns = slice_in first e (take_while (goes_on e) turns)

-- a slice for each turn with which one begins, in the order of the turns
abbrev pub with_slice : Bool → Slice → List Slice → List Slice
with_slice true slice slices = slice ∷ slices
with_slice false slice slices = slices

abbrev pub slices_after : ℕ → List Event → List Event → List Slice
slices_after first before [] = []
slices_after first before (e ∷ turns) = with_slice (begins before e) (slice_of first e (e ∷ turns)) (slices_after (first + 1) (before ++ e ∷ []) turns)

-- those of some turns, the first of which has a number in the run
abbrev pub slices : ℕ → List Event → List Slice
slices first turns = slices_after first [] turns

-- a slice: its processor, its first and last turn, how many turns of the processor it has, the scheduling context that paid, and the context that
-- acted
abbrev pub payer_text : Option (ℕ × ℕ) → List ℕ
payer_text (Some (sc, ec)) = codes " " ++ (decimal sc ++ (codes " " ++ (decimal ec ++ line_feed)))
payer_text None = codes " - -\n"

abbrev pub slice_line : Slice → List ℕ
slice_line s = codes "slice " ++ (decimal s.cpu ++ (codes " " ++ (decimal s.first ++ (codes " " ++ (decimal s.last ++ (codes " " ++ (decimal s.turns
    ++ payer_text s.payer)))))))

-- that of a turn, if one begins with it
abbrev pub slice_text_at : ℕ → List Event → Event → List Event → List ℕ
slice_text_at first before e turns = if begins before e then slice_line (slice_of first e turns) else []

abbrev pub slices_text : ℕ → List Event → List ℕ
slices_text first turns = flat_map slice_line (slices first turns)
