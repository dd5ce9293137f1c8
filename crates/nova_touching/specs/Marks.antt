-- What is marked of processors: touches that turns of theirs had. A touch is within another where all that it reads, stores to, meets and moves the other does.
use Rattle.std.specs.Prelude.{◌==◌, ◌&&◌, ◌||◌, Bool, false, not, List, []}
use Rattle.std.specs.List.{list_all, list_any}
use Rattle.nova_model.specs.Numbers.{CpuId}
use Rattle.law_swaps.specs.Touches.{Touch, are_apart, has}
use Rattle.nova_touching.specs.declared.marks.Mark.{Mark}

abbrev pub nothing : Touch
nothing = record { reads = []; writes = []; meets = []; moves = false; is_plain = false }

-- the second is within the first, and plain where the first is
abbrev pub is_within : Touch → Touch → Bool
is_within most t =
    list_all (has most.reads) t.reads && (list_all (has most.writes) t.writes && (list_all (has most.meets) t.meets
    && ((most.moves || not t.moves) && (t.is_plain || not most.is_plain))))

-- a touch of a turn of a processor is within one that is marked of it
abbrev pub is_marked : List Mark → CpuId → Touch → Bool
is_marked marks cpu t = list_any (λ (m : Mark). (m.cpu == cpu) && is_within m.touch t) marks

-- a touch of a processor is apart from all that is marked of others; and so is each of these
abbrev pub is_apart_from : List Mark → CpuId → Touch → Bool
is_apart_from marks cpu t = list_all (λ (m : Mark). (m.cpu == cpu) || are_apart cpu t m.touch) marks

abbrev pub are_apart_from : List Mark → List Mark → Bool
are_apart_from marks lone = list_all (λ (m : Mark). is_apart_from marks m.cpu m.touch) lone

-- what is noted of all turns, and of those that were taken alone
pub record Notebook : Type 0 where
  pub all : List Mark
  pub lone : List Mark

-- of turns of two processors, by what each touches
abbrev pub apart : CpuId → Touch → CpuId → Touch → Bool
apart p a q b = are_apart p a b
