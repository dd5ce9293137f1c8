-- The turns of a bench's passes.
use Rattle.std.proofs.Common.{◌≡◌, ℕ, suc, ◌+◌, ◌^◌, ◌<◌, ◌≤◌, List, [], ◌∷◌, ◌++◌, length, refl, ap, ap₂, ◌∙◌, arith}
use Rattle.std.specs.Prelude.{Bool, true, false, ◌==◌, ◌&&◌, not, if◌then◌else◌, Option, Some, None, is_some, option_map, slice_get, Result, Ok, Err}
use Rattle.std.specs.List.{AllByRecursion, list_any}
use Rattle.rv_model.specs.Step.{Once, Went, one, decoded, branches}
use Rattle.rv_model.specs.Words.{plus}
use Rattle.rv_model.specs.Codes.{instr_of}
use Rattle.rv_model.specs.declared.instr.Instr.{Instr}
use Rattle.rv_model.specs.declared.instr.Instr.TheVariants.{Addi, Bne, Ecall, Ebreak}
use Rattle.nova_calls.specs.Hypercalls.{call_of, readable, read_row}
use Rattle.nova_calls.specs.declared.call.Call.{Call}
use Rattle.nova_calls.specs.declared.call.Call.TheVariants as call
use Rattle.nova_range.specs.RangeWords.{meaning_of}
use Rattle.nova_range.specs.declared.range.Kind.TheVariants.{Mem}
use Rattle.nova_range.specs.declared.status.Status.{Status}
use Rattle.nova_range.specs.declared.status.Status.TheVariants.{BadCap, Busy}
use Rattle.nova_guest.specs.Frames.{read_in}
use Rattle.nova_model.specs.AddressSpaces.{space}
use Rattle.nova_model.specs.Deeds.{address_space, deed, instruction, stepped, stepping}
use Rattle.nova_model.specs.Hypercalls.{and_then, hypercall, or_refuses, row, unless}
use Rattle.nova_model.specs.Memory.{Memory}
use Rattle.nova_model.specs.Running.{Running, is_busy, is_of_objects}
use Rattle.nova_model.specs.State.{KernelState, no_transfer}
use Rattle.nova_model.specs.declared.context.EcState.{EcState}
use Rattle.nova_model.specs.declared.context.State.{State}
use Rattle.nova_model.specs.declared.context.State.TheVariants.{Ready, Granting}
use Rattle.nova_model.specs.declared.deed.Deed.{Deed}
use Rattle.nova_model.specs.declared.deed.Deed.TheVariants.{Steps, Opens, Gives, Finishes}
use Rattle.nova_model.specs.declared.delegation.Derivation.{Derivation}
use Rattle.law_forest.proofs.Members.{all_more, all_weaker}
use Rattle.nova_model.specs.Deliveries.{first_delivery, part_deed, parted}
use Rattle.nova_model.specs.Revokes.{busy}
use Rattle.nova_model.specs.Transfers.{part_of}
use Rattle.nova_model.specs.declared.transfer.ItemEnd.TheVariants.{Given}
use Rattle.nova_model.specs.declared.transfer.Reason.{Reason}
use Rattle.nova_model.specs.declared.transfer.Reason.TheVariants as reason
use Rattle.nova_model.specs.declared.transfer.Sequel.TheVariants as sequel
use Rattle.law_texts.proofs.BenchStates.{Accounts, AreDomains, Tables, domains_more, held, kernel, ram_pages, with_domain}
use Rattle.law_texts.proofs.BenchTurn.{IsActing, IsTaken, paid_once, turn_taken}
use Rattle.law_texts.proofs.BenchMade.{IsMade, Capability, FirstPage, with_made, none_at, ram_is_next, none_is_next, none_held, none_running, differ_too, first_job, first_page, is_less, still_made}

-- the bench's program but for its first two words, where its bytes lie
pub record HoldsCode (m : Memory) : Type 0 where
  pub selects_first : instr_of (read_in (slice_get m.ram 0) 8 4) ≡ Some (Addi 9 0 64)
  pub makes : instr_of (read_in (slice_get m.ram 0) 12 4) ≡ Some (Addi 17 0 2)
  pub selects : instr_of (read_in (slice_get m.ram 0) 16 4) ≡ Some (Addi 10 9 0)
  pub gives : instr_of (read_in (slice_get m.ram 0) 20 4) ≡ Some (Addi 12 0 5)
  pub calls : instr_of (read_in (slice_get m.ram 0) 24 4) ≡ Some Ecall
  pub steps_on : instr_of (read_in (slice_get m.ram 0) 28 4) ≡ Some (Addi 9 9 1)
  pub counts_down : instr_of (read_in (slice_get m.ram 0) 32 4) ≡ Some (Addi 8 8 4294967295)
  pub loops : instr_of (read_in (slice_get m.ram 0) 36 4) ≡ Some (Bne 8 0 4294967272)
  pub revokes : instr_of (read_in (slice_get m.ram 0) 40 4) ≡ Some (Addi 17 0 7)
  pub selects_page : instr_of (read_in (slice_get m.ram 0) 44 4) ≡ Some (Addi 10 0 1)
  pub calls_again : instr_of (read_in (slice_get m.ram 0) 48 4) ≡ Some Ecall
  pub ends : instr_of (read_in (slice_get m.ram 0) 52 4) ≡ Some Ebreak

-- registers 8, 9, 10, 12 and 17; the others are 0
abbrev pub file : ℕ → ℕ → ℕ → ℕ → ℕ → List ℕ
file x8 x9 x10 x12 x17 =
    0 ∷ 0 ∷ 0 ∷ 0 ∷ 0 ∷ 0 ∷ 0 ∷ 0 ∷ x8 ∷ x9 ∷ x10 ∷ 0 ∷ x12 ∷ 0 ∷ 0 ∷ 0
    ∷ 0 ∷ x17 ∷ 0 ∷ 0 ∷ 0 ∷ 0 ∷ 0 ∷ 0 ∷ 0 ∷ 0 ∷ 0 ∷ 0 ∷ 0 ∷ 0 ∷ 0 ∷ 0 ∷ []

abbrev pub thread : State → ℕ → List ℕ → EcState
thread s pc xs = record { id = 1; cpu = 0; state = s; regs = record { pc = pc; x = xs }; caller = None; recall = false }

pub ready_acts : IsActing Ready
ready_acts = record { edge = refl; acts = refl }

pub granting_acts : (n : Option ℕ) → IsActing (Granting n)
granting_acts n = record { edge = refl; acts = refl }

module _ (words : List ℕ) (t : Tables) (rest : List Derivation) (next : ℕ) (m : Memory) (are : AreDomains t) (code : HoldsCode m) where
  -- the kernel with the thread ready at an instruction
  abbrev pub at : Accounts → ℕ → List ℕ → KernelState
  at a pc xs = kernel a (thread Ready pc xs) words no_transfer t (with_made rest) next m

  pub plain : (a : Accounts) (pc pc' : ℕ) (xs ys : List ℕ) → instruction (at a pc xs) 1 ≡ Went (record { pc = pc'; x = ys }) None → IsTaken (at a pc xs) Steps (at (paid_once a) pc' ys)
  unfolding deed
  plain a pc pc' xs ys goes =
      turn_taken a (thread Ready pc xs) (thread Ready pc' ys) words words no_transfer no_transfer t t (with_made rest) (with_made rest) next next m m Steps are are ready_acts
      (ap (stepping (at a pc xs) 1) goes) (ap (stepped (at a pc xs) 1) goes)

  module _ (a : Accounts) (x8 x9 x10 x12 x17 : ℕ) where
    abbrev seen : ℕ → Option Instr → Once
    seen pc i = decoded (record { pc = pc; x = file x8 x9 x10 x12 x17 }) (space (address_space (at a pc (file x8 x9 x10 x12 x17)) 1)) (read_in (slice_get m.ram 0) pc 4) i

    pub first_selected : IsTaken (at a 8 (file x8 x9 x10 x12 x17)) Steps (at (paid_once a) 12 (file x8 64 x10 x12 x17))
    unfolding one
    first_selected = plain a 8 12 (file x8 x9 x10 x12 x17) (file x8 64 x10 x12 x17) (ap (seen 8) code.selects_first)

    pub made_next : IsTaken (at a 12 (file x8 x9 x10 x12 x17)) Steps (at (paid_once a) 16 (file x8 x9 x10 x12 2))
    unfolding one
    made_next = plain a 12 16 (file x8 x9 x10 x12 x17) (file x8 x9 x10 x12 2) (ap (seen 12) code.makes)

    pub number_next : IsTaken (at a 20 (file x8 x9 x10 x12 x17)) Steps (at (paid_once a) 24 (file x8 x9 x10 5 x17))
    unfolding one
    number_next = plain a 20 24 (file x8 x9 x10 x12 x17) (file x8 x9 x10 5 x17) (ap (seen 20) code.gives)

    pub selected : x9 < 2 ^ 32 → IsTaken (at a 16 (file x8 x9 x10 x12 x17)) Steps (at (paid_once a) 20 (file x8 x9 x9 x12 x17))
    unfolding one
    selected small =
        let same : plus x9 0 ≡ x9 = omega (arith, small) in
        plain a 16 20 (file x8 x9 x10 x12 x17) (file x8 x9 x9 x12 x17)
        (ap (seen 16) code.selects ∙ ap (λ (v : ℕ). Went (record { pc = 20; x = file x8 x9 v x12 x17 }) None) same)

    pub stepped_on : x9 + 1 < 2 ^ 32 → IsTaken (at a 28 (file x8 x9 x10 x12 x17)) Steps (at (paid_once a) 32 (file x8 (x9 + 1) x10 x12 x17))
    unfolding one
    stepped_on small =
        let same : plus x9 1 ≡ x9 + 1 = omega (arith, small) in
        plain a 28 32 (file x8 x9 x10 x12 x17) (file x8 (x9 + 1) x10 x12 x17)
        (ap (seen 28) code.steps_on ∙ ap (λ (v : ℕ). Went (record { pc = 32; x = file x8 v x10 x12 x17 }) None) same)

    pub counted_down : suc x8 < 2 ^ 32 → IsTaken (at a 32 (file (suc x8) x9 x10 x12 x17)) Steps (at (paid_once a) 36 (file x8 x9 x10 x12 x17))
    unfolding one
    counted_down small =
        let same : plus (suc x8) 4294967295 ≡ x8 = omega (arith, small) in
        plain a 32 36 (file (suc x8) x9 x10 x12 x17) (file x8 x9 x10 x12 x17)
        (ap (λ (i : Option Instr). decoded (record { pc = 32; x = file (suc x8) x9 x10 x12 x17 }) (space (address_space (at a 32 (file (suc x8) x9 x10 x12 x17)) 1)) (read_in (slice_get m.ram 0) 32 4) i) code.counts_down
        ∙ ap (λ (v : ℕ). Went (record { pc = 36; x = file v x9 x10 x12 x17 }) None) same)

    pub looped : IsTaken (at a 36 (file (suc x8) x9 x10 x12 x17)) Steps (at (paid_once a) 12 (file (suc x8) x9 x10 x12 x17))
    unfolding one
    looped =
        let other : (suc x8 == 0) ≡ false = differ_too (suc x8) 0 (omega arith) in
        plain a 36 12 (file (suc x8) x9 x10 x12 x17) (file (suc x8) x9 x10 x12 x17)
        (ap (λ (i : Option Instr). decoded (record { pc = 36; x = file (suc x8) x9 x10 x12 x17 }) (space (address_space (at a 36 (file (suc x8) x9 x10 x12 x17)) 1)) (read_in (slice_get m.ram 0) 36 4) i) code.loops
        ∙ ap (λ (b : Bool). branches (record { pc = 36; x = file (suc x8) x9 x10 x12 x17 }) (not b) 4294967272) other)

    pub left_loop : IsTaken (at a 36 (file 0 x9 x10 x12 x17)) Steps (at (paid_once a) 40 (file 0 x9 x10 x12 x17))
    unfolding one
    left_loop =
        plain a 36 40 (file 0 x9 x10 x12 x17) (file 0 x9 x10 x12 x17)
        (ap (λ (i : Option Instr). decoded (record { pc = 36; x = file 0 x9 x10 x12 x17 }) (space (address_space (at a 36 (file 0 x9 x10 x12 x17)) 1)) (read_in (slice_get m.ram 0) 36 4) i) code.loops)

-- A DOMAIN IS MADE

-- the number that the next object takes
abbrev pub number : Tables → ℕ
number t = suc (suc (suc (length t.objects)))

-- the capability of a domain
abbrev pub capability : ℕ → ℕ → ℕ → Derivation
capability id selector object = held id selector 0 object (record { 0 = 1 })

module _ (words : List ℕ) (t : Tables) (rest : List Derivation) (next : ℕ) (m : Memory) (are : AreDomains t) (code : HoldsCode m) (a : Accounts) (x8 x9 : ℕ)
    (all : AllByRecursion (IsMade x9 (number t)) rest) (from : 64 ≤ x9) (small : x9 < 2 ^ 20) where
  abbrev pub asking : KernelState
  asking = kernel a (thread Ready 24 (file x8 x9 x9 5 2)) words no_transfer t (with_made rest) next m

  abbrev pub opened : KernelState
  opened = kernel (paid_once a) (thread (Granting (Some (number t))) 24 (file x8 x9 x9 5 2)) words no_transfer (with_domain t)
      (with_made (rest ++ capability next x9 (number t) ∷ [])) (next + 1) m

  its_call : call_of (record { pc = 24; x = file x8 x9 x9 5 2 }) ≡ Ok (call.CreatePd x9 0 (Some (record { kind = Mem; base = 0; order = 0 }, record { 0 = 1 })))
  unfolding call_of
  its_call =
      ap (λ (b : Bool). read_row (Some (if b && true then option_map (λ first. call.CreatePd x9 0 first) (readable (meaning_of 5)) else None))) (is_less x9 (2 ^ 20) small)

  its_deed : hypercall asking 1 0 (record { pc = 24; x = file x8 x9 x9 5 2 }) ≡ Opens x9 (number t)
  its_deed =
      ap (λ (r : Result Call Status). or_refuses 2 (and_then r (row asking 1 0))) its_call
      ∙ ap₂ (λ (o : Option Derivation) (rs : List Running). or_refuses 2 (and_then (unless (is_some o) BadCap (Ok 0)) (λ (owner : ℕ). unless (list_any (is_of_objects 0 x9) rs) Busy (Ok (Opens x9 (number t))))))
      (none_at x9 (number t) rest all from) (none_running a (thread Ready 24 (file x8 x9 x9 5 2)) words no_transfer t (with_made rest) next m are refl)

  pub domain_opened : IsTaken asking (Opens x9 (number t)) opened
  unfolding deed one
  domain_opened =
      turn_taken a (thread Ready 24 (file x8 x9 x9 5 2)) (thread (Granting (Some (number t))) 24 (file x8 x9 x9 5 2)) words words no_transfer no_transfer t (with_domain t)
      (with_made rest) (with_made (rest ++ capability next x9 (number t) ∷ [])) next (next + 1) m m (Opens x9 (number t)) are (domains_more t are) ready_acts
      (ap (λ (i : Option Instr). stepping asking 1 (decoded (record { pc = 24; x = file x8 x9 x9 5 2 }) (space (address_space asking 1)) (read_in (slice_get m.ram 0) 24 4) i)) code.calls ∙ its_deed)
      refl

  -- AND GIVEN ITS FIRST PAGE

  abbrev pub with_capability : List Derivation
  with_capability = rest ++ capability next x9 (number t) ∷ []

  abbrev pub granted : KernelState
  granted = kernel (paid_once (paid_once a)) (thread (Granting (Some (number t))) 24 (file x8 x9 x9 5 2)) words (record { item = 0; cursor = 2; children = 1 }) (with_domain t)
      (with_made (with_capability ++ first_page (next + 1) (number t) ∷ [])) (next + 1 + 1) m

  -- the made of before, and the capability
  made_then : AllByRecursion (IsMade (x9 + 1) (number t)) with_capability
  made_then = all_more (IsMade (x9 + 1) (number t)) rest (capability next x9 (number t))
      (all_weaker (IsMade x9 (number t)) (IsMade (x9 + 1) (number t)) rest (still_made x9 (number t) (x9 + 1) (number t) (omega arith) (omega arith)) all)
      (Capability next x9 (number t) (record { 0 = 1 }) from (omega arith))

  judged_by : Bool → List Running → Result Derivation Reason
  judged_by held rs =
      if held then Err reason.Taken
      else if list_any (λ w. busy w.revoke (with_made with_capability) (first_page (next + 1) (number t))) rs then Err reason.Busy
      else Ok (first_page (next + 1) (number t))

  its_part : deed opened 1 ≡ Gives (first_page (next + 1) (number t)) 2
  unfolding deed judged_by
  its_part =
      ap (λ (o : Option Derivation). part_deed (first_delivery opened 1 (number t)) no_transfer (first_job (number t) 0) (option_map (part_of (is_busy opened) opened.delegations (first_job (number t) 0)) o))
      (ram_is_next (x9 + 1) (number t) with_capability made_then (number t))
      ∙ ap₂ (λ (held : Bool) (rs : List Running). parted (first_job (number t) 0) ram_pages (judged_by held rs))
      (none_held (x9 + 1) (number t) with_capability made_then (omega arith))
      (none_running (paid_once a) (thread (Granting (Some (number t))) 24 (file x8 x9 x9 5 2)) words no_transfer (with_domain t) (with_made with_capability) (next + 1) m (domains_more t are) refl)

  pub page_given : IsTaken opened (Gives (first_page (next + 1) (number t)) 2) granted
  page_given =
      turn_taken (paid_once a) (thread (Granting (Some (number t))) 24 (file x8 x9 x9 5 2)) (thread (Granting (Some (number t))) 24 (file x8 x9 x9 5 2)) words words no_transfer
      (record { item = 0; cursor = 2; children = 1 }) (with_domain t) (with_domain t) (with_made with_capability) (with_made (with_capability ++ first_page (next + 1) (number t) ∷ []))
      (next + 1) (next + 1 + 1) m m (Gives (first_page (next + 1) (number t)) 2) (domains_more t are) (domains_more t are) (granting_acts (Some (number t))) its_part refl

  -- WHICH ENDS THE CALL

  abbrev pub with_page : List Derivation
  with_page = with_capability ++ first_page (next + 1) (number t) ∷ []

  abbrev pub created : KernelState
  created = kernel (paid_once (paid_once (paid_once a))) (thread Ready 28 (file x8 x9 0 5 2)) words no_transfer (with_domain t) (with_made with_page) (next + 1 + 1) m

  abbrev pub the_end : Deed
  the_end = Finishes 0 (Given 1) None sequel.Opened

  module _ (old : 4 ≤ next) where
    pub made_by_now : AllByRecursion (IsMade (x9 + 1) (number t + 1)) with_page
    made_by_now = all_more (IsMade (x9 + 1) (number t + 1)) with_capability (first_page (next + 1) (number t))
        (all_weaker (IsMade (x9 + 1) (number t)) (IsMade (x9 + 1) (number t + 1)) with_capability (still_made (x9 + 1) (number t) (x9 + 1) (number t + 1) (omega arith) (omega arith)) made_then)
        (FirstPage (next + 1) (number t) (omega (arith, old)) (omega arith) (omega arith))

    its_end : deed granted 1 ≡ the_end
    unfolding deed
    its_end =
        ap (λ (o : Option Derivation). part_deed (first_delivery granted 1 (number t)) (record { item = 0; cursor = 2; children = 1 }) (first_job (number t) 0)
        (option_map (part_of (is_busy granted) granted.delegations (first_job (number t) 2)) o))
        (none_is_next (x9 + 1) (number t + 1) with_page made_by_now (number t))

    pub call_ended : IsTaken granted the_end created
    call_ended =
        turn_taken (paid_once (paid_once a)) (thread (Granting (Some (number t))) 24 (file x8 x9 x9 5 2)) (thread Ready 28 (file x8 x9 0 5 2)) words words
        (record { item = 0; cursor = 2; children = 1 }) no_transfer (with_domain t) (with_domain t) (with_made with_page) (with_made with_page)
        (next + 1 + 1) (next + 1 + 1) m m the_end (domains_more t are) (domains_more t are) (granting_acts (Some (number t))) its_end refl
