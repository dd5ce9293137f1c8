-- What is written, as text.
use Rattle.std.specs.Prelude.{ℕ, ◌==◌, List, [], ◌++◌, flat_map, length, codes, decimal, Option, Some, None, if◌then◌else◌}
use Rattle.std.specs.List.{enumerate_from}
use Rattle.nova_order.specs.Text.{text_of}
use Rattle.nova_order.specs.declared.block.Block.{Block}
use Rattle.nova_report.specs.Words.{line_feed}
use Rattle.nova_asking.specs.declared.answer.Answer.{Answer}
use Rattle.nova_asking.specs.declared.answer.Answer.TheVariants.{Found, Never}
use Rattle.nova_asking.specs.declared.ends.End.{End}
use Rattle.nova_asking.specs.declared.extent.Extent.{Extent}
use Rattle.nova_asking.specs.declared.extent.Extent.TheVariants.{All, Within, Cut}

-- one processor has one order
abbrev pub alone_line : ℕ → List ℕ
alone_line cpus = if cpus == 1 then codes "one order\n" else []

-- which orders were gone along
abbrev pub extent_line : Extent → ℕ → List ℕ
extent_line All limit = codes "all\n"
extent_line Within limit = codes "within " ++ (decimal limit ++ line_feed)
extent_line Cut limit = codes "cut\n"

-- that none of them leads to what was asked for
abbrev pub never_line : Extent → ℕ → List ℕ
never_line All limit = codes "never " ++ extent_line All limit
never_line Within limit = codes "never " ++ extent_line Within limit
never_line Cut limit = extent_line Cut limit

abbrev pub states_line : ℕ → List ℕ
states_line states = codes "states " ++ (decimal states ++ line_feed)

-- that none leads to a state with the execution context that was asked about; of a search that is cut this is not known
abbrev pub never_there_line : ℕ → List ℕ
never_there_line ec = codes "ec " ++ (decimal ec ++ codes " never there\n")

abbrev pub absent_line : Extent → Option ℕ → List ℕ
absent_line All (Some ec) = never_there_line ec
absent_line Within (Some ec) = never_there_line ec
absent_line Cut (Some ec) = []
absent_line extent None = []

abbrev pub never_text : ℕ → ℕ → Extent → ℕ → Option ℕ → List ℕ
never_text cpus limit extent states absent = alone_line cpus ++ (never_line extent limit ++ (states_line states ++ absent_line extent absent))

-- that an order does, and its text
abbrev pub found_text : ℕ → ℕ → List Block → List ℕ
found_text cpus states order = alone_line cpus ++ (codes "found\n" ++ (states_line states ++ text_of order))

-- either
abbrev pub answer_text : ℕ → ℕ → Answer → List ℕ
answer_text cpus limit (Found order states) = found_text cpus states order.blocks
answer_text cpus limit (Never extent states absent) = never_text cpus limit extent states absent

abbrev pub end_line : ℕ → ℕ → List ℕ
end_line number states = codes "end " ++ (decimal number ++ (codes " states " ++ (decimal states ++ line_feed)))

-- of an outcome: its number, from 1, in how many states it was found, its lines, and an order that ends in it
abbrev pub end_text : ℕ × End → List ℕ
end_text (number, end) = end_line number end.states ++ (end.outcome.items ++ (codes "order\n" ++ text_of end.order.blocks))

abbrev pub head_text : ℕ → ℕ → ℕ → Extent → ℕ → List ℕ
head_text cpus limit count extent states = alone_line cpus ++ (codes "ends " ++ (decimal count ++ (codes " " ++ (extent_line extent limit ++ states_line states))))

-- of outcomes: how many there are, and each
abbrev pub ends_text : ℕ → ℕ → Extent → ℕ → List End → List ℕ
ends_text cpus limit extent states ends = head_text cpus limit (length ends) extent states ++ flat_map end_text (enumerate_from 1 ends)
