-- One turn in which a virtual CPU takes a plain step.
use Rattle.std.proofs.Common.{◌≡◌, ℕ, ◌+◌, ◌-◌, ◌/◌, ◌%◌, ◌++◌, List, [], ◌∷◌, length, ap, ap₂, sym, ◌∙◌, subst, refl, arith}
use Rattle.std.specs.Prelude.{Bool, true, false, ◌==◌, ◌&&◌, nat_lt, nat_le, slice_get, Option, Some, None, is_some, option_and_then, option_map, if◌then◌else◌}
use Rattle.std.proofs.lemmas.List.{append-nil}
use Rattle.rv_model.specs.Registers.{Registers}
use Rattle.rv_model.specs.Step.{Once, Raised, Went, Store, environment_call, one}
use Rattle.nova_guest.specs.Alone.{Told, applied, guest_space}
use Rattle.nova_guest.specs.Frames.{frame_from}
use Rattle.nova_guest.specs.Maps.{is_covered, page_in}
use Rattle.nova_guest.specs.declared.guest.Guest.{Guest}
use Rattle.nova_guest.specs.declared.input.Input.TheVariants as input
use Rattle.nova_guest.specs.declared.input.Input.TheVariants.{Own}
use Rattle.nova_guest.specs.declared.map.Map.{Map}
use Rattle.nova_range.specs.Rights.{write_right}
use Rattle.nova_model.specs.AddressSpaces.{AddressSpace, message_size, own_page, stored_among}
use Rattle.nova_model.specs.Choice.{Candidate, next_to_act, in_front}
use Rattle.nova_model.specs.Deeds.{deed, deed_in, done, instruction, memory_after, messages_after, ready, signalled, stepped, stepping}
use Rattle.nova_model.specs.Inputs.{foreign, foreign_at, foreign_by, frame_of_store, in_ram, is_covered_for, input_of, own_input, store_of, stirred, stirred_count, stirred_from}
use Rattle.nova_model.specs.Runs.{after}
use Rattle.nova_model.specs.State.{KernelState, budget_at, context, pd_of, with_ec}
use Rattle.nova_model.specs.Turn.{budget_after, charged, counted, paid_by, quantum_in, stamp_after}
use Rattle.nova_model.specs.Views.{cells_of, view}
use Rattle.nova_model.specs.declared.budget.Budget.{Budget}
use Rattle.nova_model.specs.declared.context.State.TheVariants.{Ready}
use Rattle.nova_model.specs.declared.deed.Deed.{Deed}
use Rattle.nova_model.specs.declared.deed.Deed.TheVariants.{Steps, Raises}
use Rattle.nova_model.specs.declared.log.LogByte.{LogByte}
use Rattle.law_turns.proofs.Refused.{turn_chosen}
use Rattle.law_isolation.specs.Law.{answered, bytes_in, bytes_of}
use Rattle.law_isolation.proofs.OwnTurns.{own_law}
use Rattle.law_isolation.proofs.Outputs.{guest_no_thread, guest_sees, own_output, own_space, put_out, wordless}
use Rattle.law_isolation.proofs.Premises.{HasPremises, IsGuest}
use Rattle.law_isolation.proofs.Seen.{maps_at, view_is}
use Rattle.law_isolation.proofs.Spaces.{cell_covered, frame_covered, frame_same, no_words_if as no_words}
use Rattle.law_turns.proofs.Stirring.{outside as from_outside}
use Rattle.law_forest.proofs.Plain.{and_false as no_call}
use Rattle.law_leases.specs.Advances.{advanced_by, budget_used, changed_by, frame_stored_to, is_used, next_frame, raised_count, raised_from, seen_of, with_cell}

-- A PLAIN STEP

pub record IsPlain (k : KernelState) (g : ℕ) : Type 0 where
  pub regs : Registers
  pub store : Option Store
  pub went : instruction k g ≡ Went regs store
  pub does : deed k g ≡ Steps
  pub quiet : own_output k g Steps ≡ None

deed_is : (k : KernelState) (g : ℕ) → (context k g).state ≡ Ready → (context k g).recall ≡ false → deed k g ≡ stepping k g (instruction k g)
unfolding deed
deed_is k g at_ready free = ap (deed_in k g) at_ready ∙ ap (ready k g) free

-- an input of its own that puts out nothing is one
pub plain : (k : KernelState) (g : ℕ) → HasPremises k → IsGuest k g → (context k g).state ≡ Ready → (context k g).recall ≡ false →
    (applied (view k g) Own).out ≡ None → IsPlain k g
plain k g sound is at_ready free out = by_once (instruction k g) refl (deed_is k g at_ready free)
  where
    law : (d : Deed) → deed k g ≡ d → own_output k g d ≡ (answered (view k g) (own_input d)).out
    law d does = subst (λ (e : Deed). own_output k g e ≡ (answered (view k g) (own_input e)).out) does (ap (λ (t : Told). t.out) (own_law k g sound is))

    raises : (reason q0 q1 : ℕ) → deed k g ≡ Raises reason q0 q1 → IsPlain k g
    raises reason q0 q1 does = let e = law (Raises reason q0 q1) does ∙ out in absurd (cc)

    by_once : (o : Once) → instruction k g ≡ o → deed k g ≡ stepping k g o → IsPlain k g
    by_once (Raised reason q0 q1) went does =
        raises reason q0 q1 (does ∙ ap (signalled k g reason q0 q1) (ap (λ (t : Bool). (reason == environment_call) && t) (guest_no_thread k g is) ∙ no_call (reason == environment_call)))
    by_once (Went regs store) went does = record { regs = regs; store = store; went = went; does = does; quiet = law Steps does ∙ out }

-- WHAT IT LEAVES

messages_stay : (k : KernelState) (g : ℕ) (store : Option Store) → messages_after (wordless k g) g store k.messages ≡ k.messages
messages_stay k g None = refl
messages_stay k g (Some s) = ap (stored_among k.messages g s) (no_words ((s.address / 4096 == own_page) && nat_lt (s.address % 4096) message_size))

-- RAM after it
abbrev pub ram_after : KernelState → ℕ → Option Store → List (List ℕ)
ram_after k g store = (memory_after (wordless k g) store k.memory).ram

pub record IsPlainly (k s : KernelState) (g : ℕ) (regs : Registers) (store : Option Store) : Type 0 where
  pub is : s ≡ record k { contexts = with_ec k.contexts g (record (context k g) { regs = regs }); memory = record k.memory { ram = ram_after k g store } }

-- nothing is logged
log_stays : (k : KernelState) (g : ℕ) → IsGuest k g → (p : IsPlain k g) → (memory_after (wordless k g) p.store k.memory).log ≡ k.memory.log
log_stays k g is p =
    let put = (put_out k g Steps tt).log in
    ap (λ (a : AddressSpace). (memory_after a p.store k.memory).log) (sym (own_space k g is))
    ∙ (sym (ap (λ (o : Once). (stepped k g o).memory.log) p.went)
    ∙ (put.log ∙ (ap (λ (more : List LogByte). k.memory.log ++ more) (none_gained put.gained (put.bytes ∙ ap bytes_in p.quiet)) ∙ append-nil k.memory.log)))
  where
    none_gained : (more : List LogByte) → bytes_of (length k.memory.ram) more ≡ [] → more ≡ []
    none_gained [] none = refl
    none_gained (b ∷ more) none = absurd (cc)

done_plain : (k : KernelState) (g : ℕ) → IsGuest k g → (p : IsPlain k g) →
    done k g Steps ≡ record k { contexts = with_ec k.contexts g (record (context k g) { regs = p.regs }); memory = record k.memory { ram = ram_after k g p.store } }
done_plain k g is p =
    ap (stepped k g) p.went
    ∙ ((λ i. record k {
      contexts = with_ec k.contexts g (record (context k g) { regs = p.regs });
      memory = ap (λ (a : AddressSpace). memory_after a p.store k.memory) (own_space k g is) i;
      messages = (ap (λ (a : AddressSpace). messages_after a g p.store k.messages) (own_space k g is) ∙ messages_stay k g p.store) i;
    })
    ∙ (λ i. record k {
      contexts = with_ec k.contexts g (record (context k g) { regs = p.regs });
      memory = record { ram = ram_after k g p.store; log = log_stays k g is p i };
    }))

-- WHICH VIRTUAL CPUS IT STIRS

-- the frame of its store, as the kernel and as the guest have it
abbrev kernel_frame : KernelState → ℕ → Option Store → Option ℕ
kernel_frame k g store = option_and_then (frame_of_store k g) store

same_frame : (k : KernelState) (maps : List Map) (o : Option ℕ) → ((f : ℕ) → o ≡ Some f → is_covered maps f ≡ true) →
    option_and_then (with_cell (cells_of maps k.memory.ram)) o ≡ option_and_then (in_ram k) o
same_frame k maps None covered = refl
same_frame k maps (Some f) covered = ap (λ (b : Option (List ℕ)). if is_some b then Some f else None) (cell_covered maps k.memory.ram f (covered f refl))

stored_frame : (k : KernelState) (g : ℕ) → HasPremises k → IsGuest k g → (s : Store) → frame_stored_to (view k g) s ≡ frame_of_store k g s
stored_frame k g sound is s =
    ap (λ (v : Guest). frame_stored_to v s) (view_is k g)
    ∙ (same_frame k (maps_at k g) (frame_from (page_in (maps_at k g)) write_right s.address) (λ f h. frame_covered write_right s.address f (maps_at k g) h)
    ∙ (ap (option_and_then (in_ram k)) (sym (frame_same k.delegations.list (pd_of k g) write_right s.address sound.forest.apart))
    ∙ ap (λ (a : AddressSpace). option_and_then (in_ram k) (frame_from a.page write_right s.address)) (sym (own_space k g is))))

next_of_store : (k : KernelState) (g : ℕ) → HasPremises k → IsGuest k g → (store : Option Store) → option_and_then (frame_stored_to (view k g)) store ≡ kernel_frame k g store
next_of_store k g sound is None = refl
next_of_store k g sound is (Some s) = stored_frame k g sound is s

same_instruction : (k : KernelState) (g : ℕ) → HasPremises k → IsGuest k g → one (view k g).regs (guest_space (view k g).maps (view k g).cells) ≡ instruction k g
same_instruction k g sound is = ap₂ one (ap (λ (v : Guest). v.regs) (view_is k g)) (sym (guest_sees k g sound is))

next_is : (k : KernelState) (g : ℕ) → HasPremises k → IsGuest k g → (p : IsPlain k g) → next_frame (view k g) ≡ kernel_frame k g p.store
next_is k g sound is p =
    ap (λ (o : Once). option_and_then (frame_stored_to (view k g)) (store_of o)) (same_instruction k g sound is ∙ p.went) ∙ next_of_store k g sound is p.store

nothing_added : (count : ℕ) → count ≡ count + 0
nothing_added count = omega arith

foreign_count : (k : KernelState) (g pd count : ℕ) (store : Option Store) →
    (if from_outside (option_and_then (foreign_by k g pd) store) then count + 1 else count) ≡ count + seen_of k pd (in_front (kernel_frame k g store) [])
foreign_count k g pd count None = nothing_added count
foreign_count k g pd count (Some s) = by_frame (frame_of_store k g s)
  where
    by_test : (f : ℕ) (t : Bool) → (if from_outside (if t then Some (input.Foreign f (s.address % 4096) s.width s.value) else None) then count + 1 else count) ≡ count + length (if t then f ∷ [] else [])
    by_test f true = refl
    by_test f false = nothing_added count

    by_frame : (o : Option ℕ) → (if from_outside (option_and_then (foreign_at k pd s) o) then count + 1 else count) ≡ count + seen_of k pd (in_front o [])
    by_frame None = nothing_added count
    by_frame (Some f) = by_test f (is_covered_for k pd f)

plain_count : (k : KernelState) (g n count : ℕ) (p : IsPlain k g) → stirred_count k g Steps n count ≡ raised_count k g (in_front (kernel_frame k g p.store) []) n count
unfolding input_of
plain_count k g n count p = by_test (g == n)
  where
    by_test : (t : Bool) → (if from_outside (if t then own_input Steps else foreign k g n) then count + 1 else count)
        ≡ (if t then count else count + seen_of k (pd_of k n) (in_front (kernel_frame k g p.store) []))
    by_test true = refl
    by_test false = ap (λ (o : Once). if from_outside (option_and_then (foreign_by k g (pd_of k n)) (store_of o)) then count + 1 else count) p.went ∙ foreign_count k g (pd_of k n) count p.store

plain_entry : (k : KernelState) (g n : ℕ) (p : IsPlain k g) (count : Option ℕ) → option_map (stirred_count k g Steps n) count ≡ option_map (raised_count k g (in_front (kernel_frame k g p.store) []) n) count
plain_entry k g n p None = refl
plain_entry k g n p (Some count) = ap Some (plain_count k g n count p)

plain_counts : (k : KernelState) (g n : ℕ) (p : IsPlain k g) (counts : List (Option ℕ)) →
    stirred_from k g Steps n counts ≡ raised_from k g (in_front (kernel_frame k g p.store) []) n counts
plain_counts k g n p [] = refl
plain_counts k g n p (count ∷ counts) = ap₂ (λ (o : Option ℕ) (os : List (Option ℕ)). o ∷ os) (plain_entry k g n p count) (plain_counts k g (n + 1) p counts)

-- ITS TURN

used_one : (left : ℕ) → (left - 1 == 0) ≡ (nat_lt 0 1 && nat_le left 1)
used_one left = grind arith

pays_one : (t : Bool) (quantum stamp : ℕ) (b : Budget) → budget_after t quantum stamp b ≡ budget_used t 1 quantum stamp b
pays_one true quantum stamp b = refl
pays_one false quantum stamp b = refl

charged_plainly : (k s : KernelState) (cpu sc : ℕ) (b : Budget) → s.budgets ≡ k.budgets → budget_at s sc ≡ Some b →
    charged s cpu sc ≡ counted (paid_by s sc (quantum_in (slice_get s.objects sc)) (Some b)) cpu
unfolding charged
charged_plainly k s cpu sc b same is = ap (λ (o : Option Budget). counted (paid_by s sc (quantum_in (slice_get s.objects sc)) o) cpu) is

pub plain_turn : (k : KernelState) (cpu : ℕ) (c : Candidate) (b : Budget) → HasPremises k → IsGuest k c.actor → next_to_act k cpu ≡ Some c → budget_at k c.sc ≡ Some b →
    (p : IsPlain k c.actor) → after k cpu ≡ advanced_by k cpu c b 1 p.regs (ram_after k c.actor p.store) (in_front (next_frame (view k c.actor)) [])
plain_turn k cpu c b sound is chosen budget p =
    let g = c.actor in
    let s : KernelState = record k { contexts = with_ec k.contexts g (record (context k g) { regs = p.regs }); memory = record k.memory { ram = ram_after k g p.store } } in
    turn_chosen k cpu c chosen
    ∙ (ap (λ (d : Deed). charged (stirred k g d (done k g d)) cpu c.sc) p.does
    ∙ (ap (λ (s : KernelState). charged (stirred k g Steps s) cpu c.sc) (done_plain k g is p)
    ∙ (charged_plainly k (stirred k g Steps s) cpu c.sc b refl budget
    ∙ (λ i. changed_by k cpu c.sc g 1 p.regs (ram_after k g p.store)
    ((ap (λ (t : Bool). budget_after t (quantum_in (slice_get k.objects c.sc)) k.next_stamp b) (used_one b.left) ∙ pays_one (is_used 1 b) (quantum_in (slice_get k.objects c.sc)) k.next_stamp b) i)
    (ap (λ (t : Bool). stamp_after t k.next_stamp) (used_one b.left) i)
    ((plain_counts k g 0 p k.stirs.guests ∙ ap (λ (f : Option ℕ). raised_from k g (in_front f []) 0 k.stirs.guests) (sym (next_is k g sound is p))) i)))))
