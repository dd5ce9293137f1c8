-- Moments, what is due at them, and their order.
use Rattle.std.specs.Prelude.{ℕ, ◌==◌, ◌&&◌, ◌||◌, Bool, nat_lt, if◌then◌else◌, Option, Some, None}
use Rattle.nova_times.specs.declared.entry.Entry.{Entry}
use Rattle.nova_model.specs.declared.times.Due.{Due}
use Rattle.nova_model.specs.declared.times.Due.TheVariants.{Alarm, Deadline}

-- an alarm comes before a deadline, and then the least number
abbrev pub rank : Due → ℕ
rank (Alarm alarm) = 0
rank (Deadline ec) = 1

abbrev pub number : Due → ℕ
number (Alarm alarm) = alarm
number (Deadline ec) = ec

abbrev pub comes_first : Due → Due → Bool
comes_first a b = nat_lt (rank a) (rank b) || ((rank a == rank b) && nat_lt (number a) (number b))

-- the lesser moment, and at equal moments what comes first
abbrev pub precedes : Entry → Entry → Bool
precedes a b = nat_lt a.at b.at || ((a.at == b.at) && comes_first a.due b.due)

-- of two entries, if they are there, that which the other doesn't precede
abbrev pub lesser : Option Entry → Option Entry → Option Entry
lesser None b = b
lesser (Some a) None = Some a
lesser (Some a) (Some b) = if precedes b a then Some b else Some a
