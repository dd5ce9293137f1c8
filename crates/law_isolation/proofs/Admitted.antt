-- What a turn is for a virtual CPU is an input that the guest alone admits.
use Rattle.std.proofs.Common.{◌≡◌, ℕ, zero, suc, ◌*◌, ◌^◌, ◌≤◌, ◌+◌, ◌⊎◌, List, [], ◌∷◌, length, take, drop, ◌∙◌, refl, inl, inr, arith}
use Rattle.std.specs.Prelude.{◌-◌, Bool, true, false, ◌==◌, ◌%◌, IfSome, Option, Some, None, option_and_then, if◌then◌else◌}
use Rattle.std.specs.List.{All}
use Rattle.std.proofs.lemmas.List.{length-take-le, length-drop}
use Rattle.std.proofs.lemmas.List.Elements.{All-cons, All-nil}
use Rattle.rv_model.specs.Step.{Once, Raised, Went}
use Rattle.law_forest.proofs.Allowed.{IsAllowed, deed_allowed}
use Rattle.law_forest.proofs.Members.{all_at, in_from_contains}
use Rattle.nova_guest.specs.Cells.{page_size}
use Rattle.law_forest.proofs.Turning.{run_keeps}
use Rattle.nova_guest.specs.Conditions.{AreContents, IsGuest, IsInput}
use Rattle.nova_guest.specs.declared.input.Input.{Input}
use Rattle.nova_guest.specs.declared.input.Input.TheVariants as input_as
use Rattle.nova_model.specs.AddressSpaces.{space}
use Rattle.nova_model.specs.Boot.{Scenario, boot}
use Rattle.nova_model.specs.Choice.{in_front}
use Rattle.nova_model.specs.Deeds.{address_space, deed, instruction}
use Rattle.nova_model.specs.Delegations.{is_memory}
use Rattle.nova_model.specs.Forest.{IsAligned}
use Rattle.nova_model.specs.Guests.{input, inputs}
use Rattle.nova_model.specs.Inputs.{contents_of, foreign_at, foreign_by, frame_of_store, given_of, input_of, is_covered_for, only_if, others_input, own_input, reply_of, store_of}
use Rattle.nova_model.specs.State.{KernelState, context, message, pd_of}
use Rattle.nova_model.specs.Runs.{after, run}
use Rattle.nova_model.specs.Views.{is_memory_of, view}
use Rattle.nova_model.specs.declared.context.Mark.TheVariants as mark
use Rattle.nova_model.specs.declared.deed.Deed.{Deed}
use Rattle.nova_model.specs.declared.deed.Deed.TheVariants.{Steps, Raises, Dies, Sends, Recalls, Gives, Removes, Finishes, Replies, Aborts}
use Rattle.nova_model.specs.declared.delegation.Derivation.{Derivation}
use Rattle.nova_model.specs.declared.transfer.Sequel.TheVariants.{Replied}
use Rattle.std.proofs.lemmas.Bool.{and_parts}
use Rattle.law_forest.proofs.Actors.{of_input}
use Rattle.law_isolation.specs.Sound.{AreRanges, AreWhole, IsRanged, IsSound}
use Rattle.law_isolation.proofs.Exchanges.{all_drop, all_take, length_concat}
use Rattle.law_isolation.proofs.Instructions.{IsGood, one_good}
use Rattle.law_isolation.proofs.Ranges.{boot_ranges, child_ranged, map_ranged, turn_ranges, view_guest}
use Rattle.law_isolation.proofs.Runs.{boot_sound, reached_sound, turn_sound}

only_admitted : (t : Bool) (i : Input) → IsInput i → IfSome (only_if t i) IsInput
only_admitted true i is = is
only_admitted false i is = tt

own_admitted : (d : Deed) → IfSome (own_input d) IsInput
own_admitted Steps = tt
own_admitted (Raises reason q0 q1) = tt
own_admitted (Sends handler ip identifier mtd reason q0 q1) = tt
own_admitted (Dies reason q0) = tt
own_admitted (Aborts handler mark) = tt
own_admitted other = tt

-- a store lies within a frame
store_admitted : (k : KernelState) (ec pd n : ℕ) (o : Once) → IsGood n o → IfSome (option_and_then (foreign_by k ec pd) (store_of o)) IsInput
store_admitted k ec pd n (Raised reason q0 q1) good = tt
store_admitted k ec pd n (Went regs None) good = tt
store_admitted k ec pd n (Went regs (Some s)) good = by_frame (frame_of_store k ec s)
  where
    by_test : (f : ℕ) (t : Bool) → IfSome (if t then Some (input_as.Foreign f (s.address % 4096) s.width s.value) else None) IsInput
    by_test f true = good.1.0
    by_test f false = tt

    by_frame : (f : Option ℕ) → IfSome (option_and_then (foreign_at k pd s) f) IsInput
    by_frame None = tt
    by_frame (Some f) = by_test f (is_covered_for k pd f)

-- a map that comes has the bytes of all its frames, or none
none_taken : (n : ℕ) (ram : List (List ℕ)) → length ram ≡ 0 → length (take n ram) ≡ 0
none_taken zero ram h = refl
none_taken (suc n) [] h = refl
none_taken (suc n) (x ∷ ram) h = absurd (omega (arith, h))

page_is : page_size ≡ 4096
unfolding page_size
page_is = refl

size_of : (frame order : ℕ) (ram : List (List ℕ)) → AreWhole ram → length (contents_of ram frame order) ≡ length (take (2 ^ order) (drop frame ram)) * 4096
size_of frame order ram whole =
    length_concat page_size (take (2 ^ order) (drop frame ram)) (all_take (λ p. length p ≡ page_size) (2 ^ order) (drop frame ram) (all_drop (λ p. length p ≡ page_size) frame ram whole))
    ∙ rw page_is refl

contents_admitted : (frame order : ℕ) (ram : List (List ℕ)) → AreWhole ram → (frame + 2 ^ order ≤ length ram) ⊎ (length ram ≤ frame) → AreContents order (contents_of ram frame order)
contents_admitted frame order ram whole (inl below) =
    let rest = length-drop frame ram in
    let count : length (take (2 ^ order) (drop frame ram)) ≡ 2 ^ order = length-take-le (2 ^ order) (drop frame ram) (omega arith) in
    inr (size_of frame order ram whole ∙ rw count (omega arith))
contents_admitted frame order ram whole (inr past) =
    let rest = length-drop frame ram in
    let count : length (take (2 ^ order) (drop frame ram)) ≡ 0 = none_taken (2 ^ order) (drop frame ram) (omega arith) in
    inl (size_of frame order ram whole ∙ rw count refl)

given_admitted : (k : KernelState) (pd : ℕ) (d : Derivation) → AreWhole k.memory.ram → IsRanged (length k.memory.ram) d → IsAligned d → IfSome (only_if (is_memory_of pd d) (given_of k d)) IsInput
given_admitted k pd d whole ranged aligned = by_test (is_memory_of pd d) refl
  where
    by_test : (t : Bool) → is_memory_of pd d ≡ t → IfSome (only_if t (given_of k d)) IsInput
    by_test true is =
        let memory : is_memory d.kind ≡ true = (and_parts (is_memory d.kind) (d.pd == pd) is).0 in
        (map_ranged (length k.memory.ram) pd d is ranged aligned, contents_admitted d.target d.order k.memory.ram whole (ranged.sort memory))
    by_test false is = tt

-- a map that goes was a range of pages
taken_admitted : (k : KernelState) (pd : ℕ) (d : Derivation) → IsRanged (length k.memory.ram) d → IsAligned d → IfSome (only_if (is_memory_of pd d) (input_as.Taken d.base d.order)) IsInput
taken_admitted k pd d ranged aligned = by_test (is_memory_of pd d) refl
  where
    by_test : (t : Bool) → is_memory_of pd d ≡ t → IfSome (only_if t (input_as.Taken d.base d.order)) IsInput
    by_test true is = (map_ranged (length k.memory.ram) pd d is ranged aligned).pages
    by_test false is = tt

others_admitted : (k : KernelState) (ec g : ℕ) (d : Deed) → IsSound k → AreRanges k → IsAllowed k ec d → IfSome (others_input k ec g d) IsInput
others_admitted k ec g Steps sound ranges allowed =
    store_admitted k ec (pd_of k g) (length (context k ec).regs.x) (instruction k ec) (one_good (length (context k ec).regs.x) (context k ec).regs (space (address_space k ec)) refl)
others_admitted k ec g (Recalls whose) sound ranges allowed = only_admitted (whose == g) input_as.Recall tt
others_admitted k ec g (Replies caller mark.Exit false) sound ranges allowed = only_admitted (caller == g) (reply_of (message k ec)) tt
others_admitted k ec g (Replies caller mark.Exit true) sound ranges allowed = tt
others_admitted k ec g (Replies caller mark.Call items) sound ranges allowed = tt
others_admitted k ec g (Finishes item end words (Replied caller mark.Exit)) sound ranges allowed = only_admitted (caller == g) (reply_of (message k ec)) tt
others_admitted k ec g (Finishes item end words (Replied caller mark.Call)) sound ranges allowed = tt
others_admitted k ec g (Finishes item end words other) sound ranges allowed = tt
others_admitted k ec g (Gives child cursor) sound ranges allowed =
    given_admitted k (pd_of k g) child sound.whole.frames (child_ranged k ec child sound.forest ranges allowed) (allowed.fits sound.forest).aligned
others_admitted k ec g (Removes leaf) sound ranges allowed =
    let there = in_from_contains k.delegations.list leaf (allowed.goes sound.forest).there in
    taken_admitted k (pd_of k g) leaf (all_at (IsRanged (length k.memory.ram)) k.delegations.list leaf ranges there) (all_at IsAligned k.delegations.list leaf sound.forest.aligned there)
others_admitted k ec g other sound ranges allowed = tt

deed_admitted : (k : KernelState) (ec g : ℕ) (d : Deed) → IsSound k → AreRanges k → IsAllowed k ec d → IfSome (input_of k ec g d) IsInput
unfolding input_of
deed_admitted k ec g d sound ranges allowed = by_actor (ec == g)
  where
    by_actor : (t : Bool) → IfSome (if t then own_input d else others_input k ec g d) IsInput
    by_actor true = own_admitted d
    by_actor false = others_admitted k ec g d sound ranges allowed

pub input_admitted : (k : KernelState) (cpu g : ℕ) → IsSound k → AreRanges k → IfSome (input k cpu g) IsInput
input_admitted k cpu g sound ranges =
    of_input (λ i. IfSome i IsInput) k cpu g tt (λ c chosen. deed_admitted k c.actor g (deed k c.actor) sound ranges (deed_allowed k c.actor))

-- ALONG A RUN

pub reached_ranges : (s : Scenario) (turns : List ℕ) → s.ram ≤ 14 → s.consoles ≤ 16 → length s.sources ≤ 2 ^ 20 - 3 → AreRanges (run (boot s) turns)
reached_ranges s turns frames consoles few =
    (run_keeps (λ (k : KernelState). IsSound k × AreRanges k) (λ k cpu h. (turn_sound k cpu h.0, turn_ranges k cpu h.0 h.1)) (boot s) turns (boot_sound s, boot_ranges s frames consoles few)).1

front_admitted : (o : Option Input) (is : List Input) → IfSome o IsInput → All IsInput is → All IsInput (in_front o is)
front_admitted None is h rest = rest
front_admitted (Some i) is h rest = All-cons IsInput i is h rest

pub inputs_admitted : (k : KernelState) (turns : List ℕ) (g : ℕ) → IsSound k → AreRanges k → All IsInput (inputs k turns g)
inputs_admitted k [] g sound ranges = All-nil IsInput
inputs_admitted k (cpu ∷ turns) g sound ranges =
    front_admitted (input k cpu g) (inputs (after k cpu) turns g) (input_admitted k cpu g sound ranges) (inputs_admitted (after k cpu) turns g (turn_sound k cpu sound) (turn_ranges k cpu sound ranges))

pub reached_view : (s : Scenario) (turns : List ℕ) (g : ℕ) → s.ram ≤ 14 → s.consoles ≤ 16 → length s.sources ≤ 2 ^ 20 - 3 → IsGuest (view (run (boot s) turns) g)
reached_view s turns g frames consoles few = view_guest (run (boot s) turns) g (reached_sound s turns) (reached_ranges s turns frames consoles few)

pub reached_inputs : (s : Scenario) (turns later : List ℕ) (g : ℕ) → s.ram ≤ 14 → s.consoles ≤ 16 → length s.sources ≤ 2 ^ 20 - 3 → All IsInput (inputs (run (boot s) turns) later g)
reached_inputs s turns later g frames consoles few = inputs_admitted (run (boot s) turns) later g (reached_sound s turns) (reached_ranges s turns frames consoles few)
