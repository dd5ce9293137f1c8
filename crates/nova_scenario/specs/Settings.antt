-- The settings: each stands once, within its range.
use Rattle.std.specs.Prelude.{ℕ, ◌%◌, ◌*◌, ◌^◌, ◌≤◌, ◌==◌, Bool, ◌&&◌, nat_le, nat_lt, is_some, option_map, IfSome, Option, Some, None, Result, Ok, Err, if◌then◌else◌}
use Rattle.nova_scenario.specs.declared.fault.Why.{Why}
use Rattle.nova_scenario.specs.declared.fault.Why.TheVariants.{Repeated, Range}
use Rattle.nova_scenario.specs.declared.settings.Root.{Root}
use Rattle.nova_scenario.specs.declared.settings.Settings.{Settings}
use Rattle.nova_scenario.specs.declared.statement.Setting.{Setting}
use Rattle.nova_scenario.specs.declared.statement.Start.{Start}
use Rattle.nova_scenario.specs.declared.statement.Start.TheVariants.{Address, Entry}
use Rattle.nova_scenario.specs.declared.statement.Setting.TheVariants.{Cpus, Ram, Consoles, Root as RootLine}

-- a number from low to high, and a number that is a multiple of 4
abbrev pub within : ℕ → ℕ → Option ℕ → Option ℕ
within low high None = None
within low high (Some n) = if nat_le low n && nat_le n high then Some n else None

abbrev pub aligned : Option ℕ → Option ℕ
aligned None = None
aligned (Some n) = if n % 4 == 0 then Some n else None

-- where the first thread starts: nothing yet, where the first executable is to say it
abbrev pub pc_of : Start → Option (Option ℕ)
pc_of (Address n) = option_map Some (aligned n)
pc_of Entry = Some None

abbrev pub root_of : Option (Option ℕ) → Option ℕ → Option ℕ → Option ℕ → Option Root
root_of (Some pc) (Some sp) (Some priority) (Some quantum) = Some (record { pc = pc; sp = sp; priority = priority; quantum = quantum })
root_of _ _ _ _ = None

-- what is set where it was: a second line is Repeated, and a first line that is out of range is Range
abbrev pub set_once : {A : Type 0} → Option A → Option A → Result A Why
set_once (Some old) new = Err Repeated
set_once None None = Err Range
set_once None (Some new) = Ok new

abbrev pub put : {A : Type 0} → (A → Settings) → Result A Why → Result Settings Why
put with_new (Ok new) = Ok (with_new new)
put with_new (Err why) = Err why

-- the settings with one more
abbrev pub with_setting : Settings → Setting → Result Settings Why
with_setting s (Cpus n) = put (λ cpus. record s { cpus = Some cpus }) (set_once s.cpus (within 1 8 n))
with_setting s (Ram m) = put (λ ram. record s { ram = Some ram }) (set_once s.ram (within 0 14 m))
with_setting s (Consoles c) = put (λ consoles. record s { consoles = Some consoles }) (set_once s.consoles (within 0 16 c))
with_setting s (RootLine start sp priority quantum) =
    put (λ root. record s { root = Some root }) (set_once s.root (root_of (pc_of start) sp (within 0 255 priority) (within 1 16777215 quantum)))

-- the first thread with the entry of an executable: that of the first one, where the line says so; Range where it is no word of 2 ^ 32 bytes
abbrev pub entered_at : Root → Option ℕ → ℕ → Result Root Why
entered_at root (Some pc) entry = Ok root
entered_at root None entry = if nat_lt entry (2 ^ 32) && entry % 4 == 0 then Ok (record root { pc = Some entry }) else Err Range

abbrev pub entered : Settings → Option Root → ℕ → Result Settings Why
entered s None entry = Ok s
entered s (Some root) entry = put (λ root. record s { root = Some root }) (entered_at root root.pc entry)

-- no settings
abbrev pub unset : Settings
unset = record { cpus = None; ram = None; consoles = None; root = None }

-- whether all are set
abbrev pub is_whole : Settings → Bool
is_whole s = is_some s.cpus && (is_some s.ram && (is_some s.consoles && is_some s.root))

-- the bytes of RAM: 2 ^ ram frames of 4,096; none where it is not set
abbrev pub frames_size : Option ℕ → ℕ
frames_size None = 0
frames_size (Some m) = 4096 * 2 ^ m

abbrev pub ram_size : Settings → ℕ
ram_size s = frames_size s.ram

-- RAM, where it is set, is in its range
abbrev pub HasSmallRam : Settings → Type 0
HasSmallRam s = IfSome s.ram (λ m. m ≤ 14)
