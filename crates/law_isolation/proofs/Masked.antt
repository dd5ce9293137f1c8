-- The words of a reply are masked.
use Rattle.std.proofs.Common.{◌≡◌, ℕ, ◌+◌, ◌<◌, ◌≤◌, ◌%◌, List, length, ap, sym, ◌∙◌, refl, arith}
use Rattle.std.specs.Prelude.{Bool, true, false, ◌==◌, IfSome, Option, Some, None, option_and_then, if◌then◌else◌}
use Rattle.std.proofs.lemmas.Nat.{and_assoc}
use Rattle.rv_model.specs.Step.{Store}
use Rattle.nova_guest.specs.declared.input.Input.{Input}
use Rattle.nova_guest.specs.declared.input.Input.TheVariants as input_as
use Rattle.nova_range.specs.Mtds.{names}
use Rattle.nova_range.specs.declared.mtd.TheConstants.Mtd.{PC, LOW, HIGH}
use Rattle.nova_utcb.specs.Messages.{groups_in, word}
use Rattle.nova_model.specs.Deeds.{deed, instruction}
use Rattle.nova_model.specs.Guests.{input}
use Rattle.nova_model.specs.Inputs.{foreign_at, foreign_by, frame_of_store, given_of, input_of, is_covered_for, only_if, others_input, own_input, reply_groups, reply_of, reply_word, reply_words, store_of}
use Rattle.nova_model.specs.State.{KernelState, message, pd_of}
use Rattle.nova_model.specs.Views.{is_memory_of}
use Rattle.nova_model.specs.declared.context.Mark.TheVariants as mark
use Rattle.nova_model.specs.declared.deed.Deed.{Deed}
use Rattle.nova_model.specs.declared.deed.Deed.TheVariants.{Steps, Raises, Dies, Sends, Recalls, Gives, Removes, Finishes, Replies, Aborts}
use Rattle.nova_model.specs.declared.transfer.Sequel.TheVariants.{Replied}
use Rattle.law_forest.proofs.Actors.{of_input}
use Rattle.law_isolation.specs.Masked.{IsMasked, IsMaskedIn}
use Rattle.law_isolation.specs.Sound.{IsSound}
use Rattle.law_isolation.proofs.Replies.{group_kept, reply_at, reply_size}

-- each word of a group that isn't named
silent_pc : (m : List ℕ) → names (groups_in m) PC ≡ false → reply_word m 7 ≡ 0
silent_pc m none = rw none refl

silent_low : (m : List ℕ) (x : ℕ) → names (groups_in m) LOW ≡ false → 1 ≤ x → x < 16 → reply_word m (8 + x) ≡ 0
silent_low m x none from below = grind (arith, none)

silent_high : (m : List ℕ) (x : ℕ) → names (groups_in m) HIGH ≡ false → 16 ≤ x → reply_word m (8 + x) ≡ 0
silent_high m x none from = grind (arith, none)

pub reply_masked : (m : List ℕ) → length m ≡ 128 → IsMasked (reply_groups m) (reply_words m)
reply_masked m size = record {
  groups = and_assoc 14 (word m 4) 14;
  count = reply_size m size;
  pc = λ none. reply_at m 0 0 size (omega arith) ∙ silent_pc m (sym (group_kept m 2 refl) ∙ none);
  unused = reply_at m 1 0 size (omega arith);
  low = λ none x from below. reply_at m (x + 1) 0 size (omega arith) ∙ (let e : 7 + (x + 1) ≡ 8 + x = omega arith in ap (reply_word m) e
      ∙ silent_low m x (sym (group_kept m 4 refl) ∙ none) from below);
  high = λ none x from below. reply_at m (x + 1) 0 size (omega arith) ∙ (let e : 7 + (x + 1) ≡ 8 + x = omega arith in ap (reply_word m) e
      ∙ silent_high m x (sym (group_kept m 8 refl) ∙ none) from);
}

-- so is each input
masked_if : (t : Bool) (i : Input) → IsMaskedIn i → IfSome (only_if t i) IsMaskedIn
masked_if true i is = is
masked_if false i is = tt

own_masked : (d : Deed) → IfSome (own_input d) IsMaskedIn
own_masked Steps = tt
own_masked (Raises reason q0 q1) = tt
own_masked (Sends handler ip identifier mtd reason q0 q1) = tt
own_masked (Dies reason q0) = tt
own_masked (Aborts handler mark) = tt
own_masked other = tt

store_masked : (k : KernelState) (ec pd : ℕ) (o : Option Store) → IfSome (option_and_then (foreign_by k ec pd) o) IsMaskedIn
store_masked k ec pd None = tt
store_masked k ec pd (Some s) = by_frame (frame_of_store k ec s)
  where
    by_test : (f : ℕ) (t : Bool) → IfSome (if t then Some (input_as.Foreign f (s.address % 4096) s.width s.value) else None) IsMaskedIn
    by_test f true = tt
    by_test f false = tt

    by_frame : (f : Option ℕ) → IfSome (option_and_then (foreign_at k pd s) f) IsMaskedIn
    by_frame None = tt
    by_frame (Some f) = by_test f (is_covered_for k pd f)

others_masked : (k : KernelState) (ec g : ℕ) (d : Deed) → IsSound k → IfSome (others_input k ec g d) IsMaskedIn
others_masked k ec g Steps sound = store_masked k ec (pd_of k g) (store_of (instruction k ec))
others_masked k ec g (Recalls whose) sound = masked_if (whose == g) input_as.Recall tt
others_masked k ec g (Replies caller mark.Exit false) sound = masked_if (caller == g) (reply_of (message k ec)) (reply_masked (message k ec) (sound.whole.messages ec))
others_masked k ec g (Replies caller mark.Exit true) sound = tt
others_masked k ec g (Replies caller mark.Call items) sound = tt
others_masked k ec g (Finishes item end words (Replied caller mark.Exit)) sound =
    masked_if (caller == g) (reply_of (message k ec)) (reply_masked (message k ec) (sound.whole.messages ec))
others_masked k ec g (Finishes item end words (Replied caller mark.Call)) sound = tt
others_masked k ec g (Finishes item end words other) sound = tt
others_masked k ec g (Gives child cursor) sound = masked_if (is_memory_of (pd_of k g) child) (given_of k child) tt
others_masked k ec g (Removes leaf) sound = masked_if (is_memory_of (pd_of k g) leaf) (input_as.Taken leaf.base leaf.order) tt
others_masked k ec g other sound = tt

deed_masked : (k : KernelState) (ec g : ℕ) (d : Deed) → IsSound k → IfSome (input_of k ec g d) IsMaskedIn
unfolding input_of
deed_masked k ec g d sound = by_actor (ec == g)
  where
    by_actor : (t : Bool) → IfSome (if t then own_input d else others_input k ec g d) IsMaskedIn
    by_actor true = own_masked d
    by_actor false = others_masked k ec g d sound

pub input_masked : (k : KernelState) (cpu g : ℕ) → IsSound k → IfSome (input k cpu g) IsMaskedIn
input_masked k cpu g sound = of_input (λ i. IfSome i IsMaskedIn) k cpu g tt (λ c chosen. deed_masked k c.actor g (deed k c.actor) sound)
