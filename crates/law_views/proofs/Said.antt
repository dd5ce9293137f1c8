-- What an input says was done.
use Rattle.std.proofs.Common.{◌≡◌, ℕ, ◌+◌, ◌<◌, ◌≤◌, ◌≢◌, ◌%◌, List, length, ap, ap₂, sym, ◌∙◌, subst, refl, inl, inr, arith}
use Rattle.std.specs.Prelude.{Bool, true, false, ◌==◌, ◌&&◌, IfSome, Option, Some, None, is_some, option_and_then, slice_get, if◌then◌else◌}
use Rattle.std.proofs.lemmas.Bool.{and_parts, cases_eq, eq-eqb, eqb-true}
use Rattle.std.proofs.lemmas.Option.{slice_get_within}
use Rattle.rv_model.specs.Step.{Once, Raised, Went}
use Rattle.nova_guest.specs.Maps.{is_covered}
use Rattle.nova_guest.specs.declared.guest.Guest.{Guest}
use Rattle.nova_guest.specs.declared.input.Input.{Input}
use Rattle.nova_guest.specs.declared.input.Input.TheVariants as input_as
use Rattle.law_isolation.specs.Sound.{IsSound}
use Rattle.law_isolation.proofs.Exchanges.{covered_for}
use Rattle.law_isolation.proofs.Masked.{reply_masked}
use Rattle.law_isolation.proofs.OwnTurns.{own_is}
use Rattle.law_isolation.proofs.Replies.{group_kept, reply_at}
use Rattle.law_isolation.proofs.Seen.{view_is}
use Rattle.law_isolation.proofs.Turns.{other_is}
use Rattle.nova_model.specs.AddressSpaces.{frame_for}
use Rattle.nova_model.specs.Deeds.{address_space, deed, instruction}
use Rattle.nova_model.specs.Delegations.{is_memory}
use Rattle.nova_model.specs.Guests.{input}
use Rattle.nova_model.specs.Inputs.{foreign_at, foreign_by, given_of, in_ram, input_of, is_covered_for, only_if, others_input, own_input, reply_groups, reply_of, reply_word, reply_words, store_of}
use Rattle.nova_model.specs.State.{KernelState, message, pd_of}
use Rattle.nova_model.specs.Views.{is_memory_of, view}
use Rattle.nova_model.specs.declared.context.Mark.TheVariants as mark
use Rattle.nova_model.specs.declared.deed.Deed.{Deed}
use Rattle.nova_model.specs.declared.deed.Deed.TheVariants.{Steps, Raises, Dies, Sends, Recalls, Gives, Removes, Finishes, Replies, Aborts}
use Rattle.nova_model.specs.declared.delegation.Derivation.{Derivation}
use Rattle.nova_model.specs.declared.transfer.Sequel.TheVariants.{Replied}
use Rattle.law_origins.specs.Giving.{Acts}
use Rattle.law_origins.proofs.Actors.{input_is}
use Rattle.law_origins.proofs.Rights.{kind_is, only_if_holds}
use Rattle.nova_range.specs.Mtds.{names}
use Rattle.nova_range.specs.Rights.{write_right}
use Rattle.nova_range.specs.declared.mtd.TheConstants.Mtd.{PC, LOW, HIGH}
use Rattle.nova_range.specs.declared.range.Kind.TheVariants.{Mem}
use Rattle.nova_utcb.specs.Messages.{groups_in, word}
use Rattle.law_views.specs.Said.{AfterItems, Answers, AtOnce, Completes, Delegates, IsOwnDeed, IsOwnTurn, Stores, TakesAway, TellsOf}

-- what each input says; of a store and of a reply, where the state is sound
abbrev pub IsSaid : KernelState → ℕ → ℕ → Input → Type 0
IsSaid k ec g (input_as.Foreign frame offset width value) = IsSound k → Stores k ec g frame offset width value
IsSaid k ec g input_as.Recall = deed k ec ≡ Recalls g
IsSaid k ec g (input_as.Reply mtd words) = IsSound k → Answers k ec g mtd words
IsSaid k ec g (input_as.Given base order rights frame contents) = Delegates k ec g base order rights frame contents
IsSaid k ec g (input_as.Taken base order) = TakesAway k ec g base order
IsSaid k ec g input_as.Own = IsOwnTurn k ec g input_as.Own
IsSaid k ec g input_as.Sent = IsOwnTurn k ec g input_as.Sent
IsSaid k ec g input_as.Died = IsOwnTurn k ec g input_as.Died

-- ITS OWN

own_turn : (k : KernelState) (ec g : ℕ) (i : Input) (d : Deed) → ec ≡ g → deed k ec ≡ d → IsOwnDeed i d → IsOwnTurn k ec g i
own_turn k ec g i d same is own = record { itself = same; does = subst (IsOwnDeed i) (sym is) own }

own_said : (k : KernelState) (ec g : ℕ) (d : Deed) → ec ≡ g → deed k ec ≡ d → IfSome (own_input d) (IsSaid k ec g)
own_said k ec g Steps same is = own_turn k ec g input_as.Own Steps same is tt
own_said k ec g (Raises reason q0 q1) same is = own_turn k ec g input_as.Own (Raises reason q0 q1) same is tt
own_said k ec g (Sends handler ip identifier mtd reason q0 q1) same is = own_turn k ec g input_as.Sent (Sends handler ip identifier mtd reason q0 q1) same is tt
own_said k ec g (Dies reason q0) same is = own_turn k ec g input_as.Died (Dies reason q0) same is tt
own_said k ec g (Aborts handler came) same is = own_turn k ec g input_as.Died (Aborts handler came) same is tt
own_said k ec g other same is = tt

-- A STORE

pub view_covers : (k : KernelState) (g frame : ℕ) → IsSound k → is_covered (view k g).maps frame ≡ is_covered_for k (pd_of k g) frame
view_covers k g frame sound =
    ap (λ (v : Guest). is_covered v.maps frame) (view_is k g) ∙ sym (covered_for (pd_of k g) frame k.delegations.list sound.forest.apart)

store_said : (k : KernelState) (ec g : ℕ) → ec ≢ g → deed k ec ≡ Steps → (o : Once) → instruction k ec ≡ o →
    IfSome (option_and_then (foreign_by k ec (pd_of k g)) (store_of o)) (IsSaid k ec g)
store_said k ec g ne is (Raised reason q0 q1) executes = tt
store_said k ec g ne is (Went regs None) executes = tt
store_said k ec g ne is (Went regs (Some s)) executes = by_frame (frame_for (address_space k ec) write_right s.address) refl
  where
    by_cover : (f : ℕ) → frame_for (address_space k ec) write_right s.address ≡ Some f → f < length k.memory.ram → (t : Bool) → is_covered_for k (pd_of k g) f ≡ t →
        IfSome (if t then Some (input_as.Foreign f (s.address % 4096) s.width s.value) else None) (IsSaid k ec g)
    by_cover f leads ram true covers = λ sound. record {
      another = ne;
      regs = regs;
      store = s;
      steps = is;
      executes = executes;
      leads = leads;
      ram = ram;
      covered = view_covers k g f sound ∙ covers;
      from = refl;
      size = refl;
      stored = refl;
    }
    by_cover f leads ram false covers = tt

    by_ram : (f : ℕ) → frame_for (address_space k ec) write_right s.address ≡ Some f → (o : Option (List ℕ)) → slice_get k.memory.ram f ≡ o →
        IfSome (option_and_then (foreign_at k (pd_of k g) s) (if is_some o then Some f else None)) (IsSaid k ec g)
    by_ram f leads None at = tt
    by_ram f leads (Some bytes) at = by_cover f leads (slice_get_within k.memory.ram f bytes at) (is_covered_for k (pd_of k g) f) refl

    by_frame : (o : Option ℕ) → frame_for (address_space k ec) write_right s.address ≡ o →
        IfSome (option_and_then (foreign_at k (pd_of k g) s) (option_and_then (in_ram k) o)) (IsSaid k ec g)
    by_frame None leads = tt
    by_frame (Some f) leads = by_ram f leads (slice_get k.memory.ram f) refl

-- A REPLY

said_pc : (m : List ℕ) → names (groups_in m) PC ≡ true → reply_word m 7 ≡ word m 7
said_pc m named = rw named refl

said_low : (m : List ℕ) (x : ℕ) → names (groups_in m) LOW ≡ true → 1 ≤ x → x < 16 → reply_word m (x + 8) ≡ word m (x + 8)
said_low m x named from below = grind (arith, named)

said_high : (m : List ℕ) (x : ℕ) → names (groups_in m) HIGH ≡ true → 16 ≤ x → reply_word m (x + 8) ≡ word m (x + 8)
said_high m x named from = grind (arith, named)

pub tells : (m : List ℕ) → length m ≡ 128 → TellsOf m (reply_groups m) (reply_words m)
tells m size = record {
  groups = refl;
  pc = λ named. reply_at m 0 0 size (omega arith) ∙ said_pc m (sym (group_kept m 2 refl) ∙ named);
  low = λ named x from below. reply_at m (x + 1) 0 size (omega arith) ∙ (let e : 7 + (x + 1) ≡ x + 8 = omega arith in ap (reply_word m) e
      ∙ said_low m x (sym (group_kept m 4 refl) ∙ named) from below);
  high = λ named x from below. reply_at m (x + 1) 0 size (omega arith) ∙ (let e : 7 + (x + 1) ≡ x + 8 = omega arith in ap (reply_word m) e
      ∙ said_high m x (sym (group_kept m 8 refl) ∙ named) from);
  rest = reply_masked m size;
}

reply_said : (k : KernelState) (ec g caller : ℕ) → (caller ≡ g → Completes k ec g) → IfSome (only_if (caller == g) (reply_of (message k ec))) (IsSaid k ec g)
reply_said k ec g caller completes = only_if_holds (IsSaid k ec g) (caller == g) (reply_of (message k ec))
    (λ own sound. record { completes = completes (eqb-true caller g own); tells = tells (message k ec) (sound.whole.messages ec) })

-- A DERIVATION

pub of_memory : (d : Derivation) (pd : ℕ) → d.kind ≡ Mem → d.pd ≡ pd → is_memory_of pd d ≡ true
of_memory d pd kind domain = ap₂ (λ (a b : Bool). a && b) (ap is_memory kind) (eq-eqb d.pd pd domain)

given_said : (k : KernelState) (ec g cursor : ℕ) (d : Derivation) → deed k ec ≡ Gives d cursor →
    IfSome (only_if (is_memory_of (pd_of k g) d) (given_of k d)) (IsSaid k ec g)
given_said k ec g cursor d is = only_if_holds (IsSaid k ec g) (is_memory_of (pd_of k g) d) (given_of k d)
    (λ of_. let parts = and_parts (is_memory d.kind) (d.pd == pd_of k g) of_ in record {
      child = d;
      cursor = cursor;
      gives = is;
      kind = kind_is d.kind parts.0;
      domain = eqb-true d.pd (pd_of k g) parts.1;
      from = refl;
      size = refl;
      may = refl;
      leads = refl;
      bytes = refl;
    })

taken_said : (k : KernelState) (ec g : ℕ) (d : Derivation) → deed k ec ≡ Removes d →
    IfSome (only_if (is_memory_of (pd_of k g) d) (input_as.Taken d.base d.order)) (IsSaid k ec g)
taken_said k ec g d is = only_if_holds (IsSaid k ec g) (is_memory_of (pd_of k g) d) (input_as.Taken d.base d.order)
    (λ of_. let parts = and_parts (is_memory d.kind) (d.pd == pd_of k g) of_ in record {
      leaf = d;
      removes = is;
      kind = kind_is d.kind parts.0;
      domain = eqb-true d.pd (pd_of k g) parts.1;
      from = refl;
      size = refl;
    })

-- EACH

others_said : (k : KernelState) (ec g : ℕ) (d : Deed) → ec ≢ g → deed k ec ≡ d → IfSome (others_input k ec g d) (IsSaid k ec g)
others_said k ec g Steps ne is = store_said k ec g ne is (instruction k ec) refl
others_said k ec g (Recalls whose) ne is =
    only_if_holds (IsSaid k ec g) (whose == g) input_as.Recall (λ own. is ∙ ap Recalls (eqb-true whose g own))
others_said k ec g (Replies caller mark.Exit false) ne is =
    reply_said k ec g caller (λ same. AtOnce (is ∙ ap (λ (n : ℕ). Replies n mark.Exit false) same))
others_said k ec g (Replies caller mark.Exit true) ne is = tt
others_said k ec g (Replies caller mark.Call items) ne is = tt
others_said k ec g (Finishes item end words (Replied caller mark.Exit)) ne is =
    reply_said k ec g caller (λ same. AfterItems item end words (is ∙ ap (λ (n : ℕ). Finishes item end words (Replied n mark.Exit)) same))
others_said k ec g (Finishes item end words (Replied caller mark.Call)) ne is = tt
others_said k ec g (Finishes item end words other) ne is = tt
others_said k ec g (Gives child cursor) ne is = given_said k ec g cursor child is
others_said k ec g (Removes leaf) ne is = taken_said k ec g leaf is
others_said k ec g other ne is = tt

deed_said : (k : KernelState) (ec g : ℕ) → IfSome (input_of k ec g (deed k ec)) (IsSaid k ec g)
deed_said k ec g = elim (cases_eq ec g) [
  | inl same ↦ subst (λ (n : ℕ). IfSome (input_of k n g (deed k n)) (IsSaid k n g)) (sym same)
      (subst (λ (o : Option Input). IfSome o (IsSaid k g g)) (sym (own_is k g (deed k g))) (own_said k g g (deed k g) refl refl))
  | inr ne ↦ subst (λ (o : Option Input). IfSome o (IsSaid k ec g)) (sym (other_is k ec g (deed k ec) ne)) (others_said k ec g (deed k ec) ne refl)
]

pub input_said : (k : KernelState) (cpu ec g : ℕ) (i : Input) → Acts k cpu ec → input k cpu g ≡ Some i → IsSaid k ec g i
input_said k cpu ec g i acts is =
    subst (λ (o : Option Input). IfSome o (IsSaid k ec g)) (sym (input_is k cpu ec g acts) ∙ is) (deed_said k ec g)
