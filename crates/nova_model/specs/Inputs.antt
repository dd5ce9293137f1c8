-- What a turn is for a virtual CPU: one input, or nothing.
use Rattle.std.specs.Prelude.{ℕ, ◌+◌, ◌%◌, ◌^◌, ◌==◌, ◌&&◌, Bool, true, false, nat_le, nat_lt, bit_and, List, [], ◌∷◌, take, drop, slice_get, Option, Some, None, is_some, option_map, option_and_then, if◌then◌else◌}
use Rattle.std.specs.List.{concat, list_any}
use Rattle.nova_model.specs.Numbers.{PdId, EcId, FrameNumber}
use Rattle.rv_model.specs.Step.{Once, Raised, Went, Store}
use Rattle.nova_guest.specs.declared.input.Input.{Input}
use Rattle.nova_guest.specs.declared.input.Input.TheVariants as input
use Rattle.nova_range.specs.Rights.{write_right}
use Rattle.nova_range.specs.declared.mtd.Mtd.{Mtd}
use Rattle.nova_range.specs.declared.mtd.TheConstants.Mtd.{PC, LOW, HIGH}
use Rattle.nova_utcb.specs.Messages.{groups_in, renewed}
use Rattle.nova_model.specs.AddressSpaces.{frame_for}
use Rattle.nova_model.specs.Deeds.{address_space, instruction}
use Rattle.nova_model.specs.State.{KernelState, message, pd_of}
use Rattle.nova_model.specs.Views.{is_memory_of}
use Rattle.nova_model.specs.declared.context.Mark.TheVariants as mark
use Rattle.nova_model.specs.declared.deed.Deed.{Deed}
use Rattle.nova_model.specs.declared.deed.Deed.TheVariants.{Steps, Raises, Dies, Sends, Recalls, Gives, Removes, Finishes, Replies, Aborts}
use Rattle.nova_model.specs.declared.delegation.Derivation.{Derivation}
use Rattle.nova_model.specs.declared.transfer.Sequel.TheVariants.{Replied}

-- ITS OWN TURNS: a step or a raise; its exit is sent, or ends it, or its handler ended. A virtual CPU waits for the replies to its exits alone.

abbrev pub own_input : Deed → Option Input
own_input Steps = Some input.Own
own_input (Raises reason q0 q1) = Some input.Own
own_input (Sends handler ip identifier mtd reason q0 q1) = Some input.Sent
own_input (Dies reason q0) = Some input.Died
own_input (Aborts handler mark) = Some input.Died
own_input other = None

-- TURNS OF OTHERS

-- a memory derivation of the protection domain leads to the frame
abbrev pub leads_to : PdId → FrameNumber → Derivation → Bool
leads_to pd frame d = is_memory_of pd d && (nat_le d.target frame && nat_lt frame (d.target + 2 ^ d.order))

abbrev pub is_covered_for : KernelState → PdId → FrameNumber → Bool
is_covered_for k pd frame = list_any (leads_to pd frame) k.delegations.list

-- the frame that the store of an instruction goes to, where it is one of RAM, with the store
abbrev pub store_of : Once → Option Store
store_of (Raised reason q0 q1) = None
store_of (Went regs store) = store

abbrev pub in_ram : KernelState → FrameNumber → Option FrameNumber
in_ram k frame = if is_some (slice_get k.memory.ram frame) then Some frame else None

abbrev pub frame_of_store : KernelState → EcId → Store → Option FrameNumber
frame_of_store k ec s = option_and_then (in_ram k) (frame_for (address_space k ec) write_right s.address)

-- another stores to a RAM frame that the view covers
abbrev pub foreign_at : KernelState → PdId → Store → FrameNumber → Option Input
foreign_at k pd s frame =
    if is_covered_for k pd frame then Some (input.Foreign frame (s.address % 4096) s.width s.value) else None

abbrev pub foreign_by : KernelState → EcId → PdId → Store → Option Input
foreign_by k ec pd s = option_and_then (foreign_at k pd s) (frame_of_store k ec s)

abbrev pub foreign : KernelState → EcId → EcId → Option Input
foreign k ec g = option_and_then (foreign_by k ec (pd_of k g)) (store_of (instruction k ec))

-- the groups that a reply names, but for the qualifications; and of the message words 7 to 39 those of these groups, where the others and word 8 are 0
abbrev pub reply_groups : List ℕ → Mtd
reply_groups m = record { 0 = bit_and (groups_in m).0 14 }

abbrev pub reply_word : List ℕ → ℕ → ℕ
reply_word m n =
    if n == 7 then renewed m PC n 0
    else if n == 8 then 0
    else if nat_le n 23 then renewed m LOW n 0
    else renewed m HIGH n 0

abbrev pub words_from : (ℕ → ℕ) → ℕ → List ℕ → List ℕ
words_from word n [] = []
words_from word n (m ∷ ms) = word n ∷ words_from word (n + 1) ms

abbrev pub reply_words : List ℕ → List ℕ
reply_words m = words_from (reply_word m) 7 (take 33 (drop 7 m))

abbrev pub reply_of : List ℕ → Input
reply_of m = input.Reply (reply_groups m) (reply_words m)

-- the bytes of the RAM frames of a derivation, one after another; a console has none
abbrev pub contents_of : List (List ℕ) → FrameNumber → ℕ → List ℕ
contents_of ram frame order = concat (take (2 ^ order) (drop frame ram))

abbrev pub given_of : KernelState → Derivation → Input
given_of k d = input.Given d.base d.order d.rights d.target (contents_of k.memory.ram d.target d.order)

abbrev pub only_if : Bool → Input → Option Input
only_if true i = Some i
only_if false i = None

-- a store to its memory; a recall of it; a reply to its exit that completes; a memory derivation that is made in its domain, or taken from it
abbrev pub others_input : KernelState → EcId → EcId → Deed → Option Input
others_input k ec g Steps = foreign k ec g
others_input k ec g (Recalls whose) = only_if (whose == g) input.Recall
others_input k ec g (Replies caller mark.Exit false) = only_if (caller == g) (reply_of (message k ec))
others_input k ec g (Finishes item end words (Replied caller mark.Exit)) = only_if (caller == g) (reply_of (message k ec))
others_input k ec g (Gives child cursor) = only_if (is_memory_of (pd_of k g) child) (given_of k child)
others_input k ec g (Removes leaf) = only_if (is_memory_of (pd_of k g) leaf) (input.Taken leaf.base leaf.order)
others_input k ec g other = None

-- a deed of an execution context, for the virtual CPU g, which is there
unfoldable pub input_of : KernelState → EcId → EcId → Deed → Option Input
input_of k ec g d = if ec == g then own_input d else others_input k ec g d

-- STIR COUNTS

-- of each virtual CPU those inputs are counted that can't be foreseen from its view: all but its own steps. Whether its exit is sent, or ends it, others decide.
abbrev pub is_outside : Input → Bool
is_outside input.Own = false
is_outside other = true

abbrev pub is_stirred : KernelState → EcId → Deed → EcId → Bool
is_stirred k ec d g = is_some (option_and_then (λ i. only_if (is_outside i) i) (input_of k ec g d))

abbrev pub stirred_count : KernelState → EcId → Deed → EcId → ℕ → ℕ
stirred_count k ec d g count = if is_stirred k ec d g then count + 1 else count

-- of the virtual CPUs from number g on
abbrev pub stirred_from : KernelState → EcId → Deed → EcId → List (Option ℕ) → List (Option ℕ)
stirred_from k ec d g [] = []
stirred_from k ec d g (count ∷ counts) = option_map (stirred_count k ec d g) count ∷ stirred_from k ec d (g + 1) counts

-- the state that a deed leaves, with what it stirs counted: the second state, after a deed in the first
abbrev pub stirred : KernelState → EcId → Deed → KernelState → KernelState
stirred k ec d after = record after { stirs = record after.stirs { guests = stirred_from k ec d 0 after.stirs.guests } }
