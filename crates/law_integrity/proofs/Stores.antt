-- Where a store goes: to its own message words, to a frame, or to a console.
use Rattle.std.proofs.Common.{◌≡◌, ℕ, ◌/◌, ◌%◌, ◌+◌, ◌-◌, ◌⊎◌, List, [], ◌∷◌, ◌++◌, length, refl, sym, ap, ◌∙◌, subst, inl, inr, arith}
use Rattle.std.specs.Prelude.{Bool, true, false, ◌==◌, ◌&&◌, if◌then◌else◌, is_some, nat_lt, slice_get, Option, Some, None, option_map, option_and_then}
use Rattle.std.specs.List.{find}
use Rattle.std.proofs.lemmas.Bool.{and_parts, eqb-true}
use Rattle.std.proofs.lemmas.Bool.Decides.{nat_tests}
use Rattle.std.proofs.lemmas.Option.{same_Some}
use Rattle.byteorder.specs.Endian.{little_bytes}
use Rattle.rv_model.specs.Step.{Once, Raised, Went, Store}
use Rattle.nova_guest.specs.Frames.{frame_with, replaced}
use Rattle.nova_range.specs.Rights.{allows, write_right}
use Rattle.nova_range.specs.declared.range.Kind.TheVariants.{Mem}
use Rattle.nova_model.specs.AddressSpaces.{frame_for, message_size, own_page, stored_at}
use Rattle.nova_model.specs.Deeds.{address_space, deed, instruction}
use Rattle.nova_model.specs.Delegations.{covers, has_place, is_same_kind, page_in, range_of, reach}
use Rattle.nova_model.specs.Inputs.{store_of}
use Rattle.nova_model.specs.Memory.{Memory, written_in}
use Rattle.nova_model.specs.State.{KernelState, is_thread, message, own_words, pd_of}
use Rattle.nova_model.specs.declared.deed.Deed.{Deed}
use Rattle.nova_model.specs.declared.deed.Deed.TheVariants as deeds
use Rattle.nova_model.specs.declared.delegation.Derivation.{Derivation}
use Rattle.nova_model.specs.declared.log.LogByte.{LogByte}
use Rattle.law_forest.specs.Effects.{memory_with, store_by, store_words, words_stored}
use Rattle.law_forest.proofs.Members.{IsIn, contains_from_in, found_in}
use Rattle.law_forest.proofs.Transfers.{kinds_equal}
use Rattle.law_turns.specs.Words.{IsAmongWords}
use Rattle.law_turns.proofs.Holding.{has_from}
use Rattle.law_integrity.specs.Rights.{PageLeadsTo, HasStore, StoresTo}
use Rattle.law_integrity.specs.Integrity.{FrameBy, LogBy}
use Rattle.law_integrity.proofs.Entries.{get_set}

-- WHAT A PAGE LEADS TO

covering : (k : KernelState) (domain page right frame : ℕ) (d : Derivation) → IsIn k.delegations.list d → covers Mem domain page d ≡ true → allows d.rights right ≡ true →
    frame ≡ d.target + (page - d.base) → PageLeadsTo k domain page right frame
covering k domain page right frame d there h allowed leads =
    let parts = and_parts (is_same_kind Mem d.kind) (d.pd == domain && has_place (range_of d) page) h in
    let rest = and_parts (d.pd == domain) (has_place (range_of d) page) parts.1 in
    record {
      derivation = d;
      there = contains_from_in k.delegations.list d there;
      holder = eqb-true d.pd domain rest.0;
      kind = sym (kinds_equal Mem d.kind parts.0);
      place = has_from (range_of d) page rest.1;
      leads = leads;
      allowed = allowed;
    }

reached : (k : KernelState) (domain page right frame : ℕ) → option_and_then (frame_with right) (reach k.delegations.list domain page) ≡ Some frame → PageLeadsTo k domain page right frame
reached k domain page right frame h = by_found (find (covers Mem domain page) k.delegations.list) refl h
  where
    by_right : (d : Derivation) → find (covers Mem domain page) k.delegations.list ≡ Some d → (t : Bool) → allows d.rights right ≡ t →
        (if t then Some (d.target + (page - d.base)) else None) ≡ Some frame → PageLeadsTo k domain page right frame
    by_right d is true allowed g =
        let its = found_in (covers Mem domain page) k.delegations.list d is in
        covering k domain page right frame d its.0 its.1 allowed (sym (same_Some (d.target + (page - d.base)) frame g))
    by_right d is false allowed g = absurd (cc)

    by_found : (o : Option Derivation) → find (covers Mem domain page) k.delegations.list ≡ o →
        option_and_then (frame_with right) (option_map (page_in page) o) ≡ Some frame → PageLeadsTo k domain page right frame
    by_found None is g = absurd (cc)
    by_found (Some d) is g = by_right d is (allows d.rights right) refl g

pub leads_to : (k : KernelState) (ec right address frame : ℕ) → frame_for (address_space k ec) right address ≡ Some frame → PageLeadsTo k (pd_of k ec) (address / 4096) right frame
leads_to k ec right address frame h = by_own (is_some (own_words k ec) && (address / 4096 == own_page)) h
  where
    by_own : (t : Bool) → option_and_then (frame_with right) (if t then None else reach k.delegations.list (pd_of k ec) (address / 4096)) ≡ Some frame →
        PageLeadsTo k (pd_of k ec) (address / 4096) right frame
    by_own true g = absurd (cc)
    by_own false g = reached k (pd_of k ec) (address / 4096) right frame g

-- THE STORE OF AN INSTRUCTION

abbrev IsStored : KernelState → ℕ → Memory → Type 0
IsStored k ec m =
    ((frame : ℕ) → (slice_get m.ram frame ≡ slice_get k.memory.ram frame) ⊎ FrameBy k ec frame (slice_get k.memory.ram frame) (slice_get m.ram frame))
    × ((m.log ≡ k.memory.log) ⊎ LogBy k ec k.memory.log m.log)

same_memory : (k : KernelState) (ec : ℕ) → IsStored k ec k.memory
same_memory k ec = (λ frame. inl refl, inl refl)

to_frame : (k : KernelState) (ec to : ℕ) (s : Store) → StoresTo k ec to s → (o : Option (List ℕ)) → slice_get k.memory.ram to ≡ o →
    IsStored k ec (written_in k.memory o to (s.address % 4096) s.width s.value)
to_frame k ec to s goes (Some bytes) is = (
  λ frame.
      let new : List ℕ = replaced bytes (s.address % 4096) (little_bytes s.width s.value) in
      get_set (λ (o : Option (List ℕ)). (o ≡ slice_get k.memory.ram frame) ⊎ FrameBy k ec frame (slice_get k.memory.ram frame) o) k.memory.ram to frame new (inl refl)
      (λ same. inr (record {
        store = s;
        bytes = bytes;
        reaches = subst (λ (f : ℕ). StoresTo k ec f s) (sym same) goes;
        before = ap (slice_get k.memory.ram) same ∙ is;
        after = refl;
      })),
  inl refl,
)
to_frame k ec to s goes None is = (λ frame. inl refl, by_first (s.address % 4096 == 0) refl)
  where
    nothing : (log : List LogByte) → log ++ [] ≡ log
    nothing [] = refl
    nothing (x ∷ log) = ap (λ (l : List LogByte). x ∷ l) (nothing log)

    by_first : (t : Bool) → (s.address % 4096 == 0) ≡ t →
        let new = k.memory.log ++ (if t then record { console = to - length k.memory.ram; value = s.value % 256 } ∷ [] else []) in
        (new ≡ k.memory.log) ⊎ LogBy k ec k.memory.log new
    by_first true first = inr (record { store = s; frame = to; reaches = goes; console = is; first = eqb-true (s.address % 4096) 0 first; after = refl })
    by_first false first = inl (nothing k.memory.log)

stored : (k : KernelState) (ec : ℕ) (s : Store) → HasStore k ec s → (o : Option ℕ) → frame_for (address_space k ec) write_right s.address ≡ o → IsStored k ec (stored_at k.memory s o)
stored k ec s goes None is = same_memory k ec
stored k ec s goes (Some frame) is =
    to_frame k ec frame s (record { stores = goes; reaches = leads_to k ec write_right s.address frame is }) (slice_get k.memory.ram frame) refl

-- an instruction that stores
pub stores_of : (k : KernelState) (ec : ℕ) (s : Store) → deed k ec ≡ deeds.Steps → store_of (instruction k ec) ≡ Some s → HasStore k ec s
stores_of k ec s steps is = by_once (instruction k ec) refl is
  where
    by_once : (o : Once) → instruction k ec ≡ o → store_of o ≡ Some s → HasStore k ec s
    by_once (Raised reason q0 q1) came h = absurd (cc)
    by_once (Went regs store) came h = record { steps = steps; regs = regs; store = came ∙ ap (λ (o : Option Store). Went regs o) h }

pub deed_stores : (k : KernelState) (ec : ℕ) (d : Deed) → deed k ec ≡ d → IsStored k ec (memory_with k.memory (store_by k ec d))
deed_stores k ec deeds.Steps is = by_store (store_of (instruction k ec)) refl
  where
    by_store : (o : Option Store) → store_of (instruction k ec) ≡ o → IsStored k ec (memory_with k.memory (option_map (λ s. (address_space k ec, s)) o))
    by_store None none = same_memory k ec
    by_store (Some s) some = stored k ec s (stores_of k ec s is some) (frame_for (address_space k ec) write_right s.address) refl
deed_stores k ec other is = same_memory k ec

-- and the words that it reaches
pub among_words : (k : KernelState) (ec n : ℕ) (s : Store) (m : List ℕ) → store_words (address_space k ec) ec (Some s) ≡ Some (n, m) →
    (n ≡ ec) × IsAmongWords k ec s × (store_words (address_space k ec) ec (Some s) ≡ words_stored ec s (Some (message k ec)))
among_words k ec n s m is = by_tests (s.address / 4096 == own_page) (nat_lt (s.address % 4096) message_size) (is_thread k ec) refl refl refl is
  where
    by_tests : (page offset thread : Bool) → (s.address / 4096 == own_page) ≡ page → nat_lt (s.address % 4096) message_size ≡ offset → is_thread k ec ≡ thread →
        words_stored ec s (if page && offset then (if thread then Some (message k ec) else None) else None) ≡ Some (n, m) →
        (n ≡ ec) × IsAmongWords k ec s × (words_stored ec s (if page && offset then (if thread then Some (message k ec) else None) else None) ≡ words_stored ec s (Some (message k ec)))
    by_tests true true true p o t e = (sym (ap (λ (q : ℕ × List ℕ). q.0) (same_Some _ _ e)), record { thread = t; page = grind (arith, nat_tests); offset = grind (arith, nat_tests) }, refl)
    by_tests true true false p o t e = absurd (cc)
    by_tests true false thread p o t e = absurd (cc)
    by_tests false offset thread p o t e = absurd (cc)
