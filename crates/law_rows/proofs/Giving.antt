-- What is decided of an item: only an item that delegates gives, part by part, and the cursor goes right behind each.
use Rattle.std.proofs.Common.{◌≡◌, ℕ, ◌+◌, ◌==◌, ◌%◌, ◌^◌, Bool, true, false, if◌then◌else◌, List, Option, Some, None, refl, ap, subst, arith}
use Rattle.std.specs.Prelude.{Result, Ok, Err, max, option_map}
use Rattle.std.proofs.lemmas.Bool.{eqb-true}
use Rattle.std.proofs.lemmas.Bool.Decides.{nat_tests}
use Rattle.rv_model.specs.Registers.{reg}
use Rattle.rv_model.specs.Step.{Once, Raised, Went}
use Rattle.nova_range.specs.declared.status.Status.{Status}
use Rattle.nova_model.specs.Deeds.{deed, deed_in, instruction, ready, removes, signalled, stepping}
use Rattle.nova_model.specs.Delegations.{is_held_in, range_of}
use Rattle.nova_model.specs.Deliveries.{answered_by, delegated, delivered, delivers, delivery, flag, part_deed, parted}
use Rattle.nova_model.specs.Exits.{exit_at, exit_portal, exit_to}
use Rattle.nova_model.specs.Hypercalls.{asked, hypercall, or_refuses}
use Rattle.nova_model.specs.Running.{is_busy}
use Rattle.nova_model.specs.State.{KernelState, context, pd_of, transfer}
use Rattle.nova_model.specs.Transfers.{child_of, job_of, judged, next_source, part_of}
use Rattle.nova_model.specs.Translations.{translated}
use Rattle.nova_model.specs.declared.admit.ExitAdmit.{ExitAdmit}
use Rattle.nova_model.specs.declared.admit.ExitAdmit.TheVariants as exit
use Rattle.nova_model.specs.declared.context.State.{State}
use Rattle.nova_model.specs.declared.context.State.TheVariants.{Blocked, Calling, Dead, Exiting, Fresh, Granting, Helping, Parked, Ready, Replying, Revoking, Sending}
use Rattle.nova_model.specs.declared.deed.Deed.{Deed}
use Rattle.nova_model.specs.declared.deed.Deed.TheVariants.{Finishes, Gives, Skips}
use Rattle.nova_model.specs.declared.delegation.Derivation.{Derivation}
use Rattle.nova_model.specs.declared.transfer.Delivery.{Delivery}
use Rattle.nova_model.specs.declared.transfer.ItemEnd.{ItemEnd}
use Rattle.nova_model.specs.declared.transfer.ItemEnd.TheVariants.{Given, Skipped, Translated}
use Rattle.nova_model.specs.declared.transfer.ItemWords.{ItemWords}
use Rattle.nova_model.specs.declared.transfer.Job.{Job}
use Rattle.nova_model.specs.declared.transfer.Reason.{Reason}
use Rattle.nova_model.specs.declared.transfer.Reason.TheVariants as reason
use Rattle.nova_model.specs.declared.transfer.Sequel.{Sequel}
use Rattle.nova_model.specs.declared.transfer.Skip.{Skip}
use Rattle.law_rows.specs.Parts.{HasBit, IsPart}
use Rattle.law_rows.proofs.Refusing.{asked_gives, is_of_row}
use Rattle.law_rows.proofs.Refusing as refusing

module _ (k : KernelState) (ec : ℕ) where
  abbrev Ends : ItemEnd → Type 0
  Ends (Given children) = HasBit k ec 1
  Ends (Skipped skip) = HasBit k ec 1
  Ends (Translated word) = HasBit k ec 0

  abbrev Parts : Deed → Type 0
  Parts (Gives x cursor) = (p : IsPart k ec cursor) × (x.parent ≡ Some p.source.id)
  Parts (Skips why place cursor) = (p : IsPart k ec cursor) × (place ≡ max p.source.base p.job.source)
  Parts (Finishes item end words after) = Ends end
  Parts other = Unit {0}

  judged_same : (list : List Derivation) (x y : Derivation) → judged (is_busy k) list x ≡ Ok y → y ≡ x
  judged_same list x y is = by_tests (x.rights.0 == 0) (is_held_in list x.pd (range_of x)) (is_busy k x) is
    where
      by_tests : (n t b : Bool) → (if n then Err reason.Rights else if t then Err reason.Taken else if b then Err reason.Busy else Ok x) ≡ Ok y → y ≡ x
      by_tests true t b e = absurd (cc)
      by_tests false true b e = absurd (cc)
      by_tests false false true e = absurd (cc)
      by_tests false false false e = cc

  abbrev at_cursor : Job → Job
  at_cursor j = record j { cursor = (transfer k ec).cursor }

  delegated_parts : (v : Delivery) → delivery k ec (context k ec).state ≡ Some v → v.second_word % 2 ≡ 1 → (r : Result Job Skip) →
      job_of v.range_word v.second_word v.delegations v.giver v.receiver ≡ r → Parts (delegated k v (transfer k ec) r)
  delegated_parts v present bit (Err skip) reads = record { item = v; present = present; flag = bit }
  delegated_parts v present bit (Ok j) reads = by_source (next_source k.delegations.list (at_cursor j)) refl
    where
      part : (d : Derivation) → next_source k.delegations.list (at_cursor j) ≡ Some d → IsPart k ec (d.base + 2 ^ d.order)
      part d next = record { item = v; present = present; delegates = bit; job = j; reads = reads; source = d; next = next; behind = refl }

      by_verdict : (d : Derivation) → next_source k.delegations.list (at_cursor j) ≡ Some d → (r : Result Derivation Reason) →
          judged (is_busy k) k.delegations.list (child_of (at_cursor j) k.delegations.next d) ≡ r → Parts (parted (at_cursor j) d r)
      by_verdict d next (Ok x) good = (part d next, ap (λ (y : Derivation). y.parent) (judged_same k.delegations.list (child_of (at_cursor j) k.delegations.next d) x good))
      by_verdict d next (Err why) bad = (part d next, refl)

      by_source : (o : Option Derivation) → next_source k.delegations.list (at_cursor j) ≡ o →
          Parts (part_deed v (transfer k ec) (at_cursor j) (option_map (part_of (is_busy k) k.delegations (at_cursor j)) o))
      by_source None next = record { item = v; present = present; flag = bit }
      by_source (Some d) next = by_verdict d next (judged (is_busy k) k.delegations.list (child_of (at_cursor j) k.delegations.next d)) refl

  no_bit : (n : ℕ) → (n % 2 == 1) ≡ false → n % 2 ≡ 0
  no_bit n is = grind (arith, nat_tests)

  delivered_parts : (v : Delivery) → delivery k ec (context k ec).state ≡ Some v → Parts (delivered k v (transfer k ec))
  delivered_parts v present = by_flag (flag v == 1) refl
    where
      by_flag : (t : Bool) → (flag v == 1) ≡ t → Parts (if t then delegated k v (transfer k ec) (job_of v.range_word v.second_word v.delegations v.giver v.receiver)
          else answered_by v (transfer k ec) (translated k.delegations.list v.range_word v.translations v.giver v.receiver))
      by_flag true is = delegated_parts v present (eqb-true (flag v) 1 is) (job_of v.range_word v.second_word v.delegations v.giver v.receiver) refl
      by_flag false is = record { item = v; present = present; flag = no_bit v.second_word is }

  delivers_parts : (o : Option Delivery) → delivery k ec (context k ec).state ≡ o → Parts (delivers k (transfer k ec) o)
  delivers_parts None present = tt
  delivers_parts (Some v) present = delivered_parts v present

  of_row : (d : Deed) → is_of_row d ≡ true → Parts d
  of_row (Gives x cursor) is = absurd (cc)
  of_row (Skips why place cursor) is = absurd (cc)
  of_row (Finishes item end words after) is = absurd (cc)
  of_row other is = tt

  asked_parts : (call : ℕ) (r : Result Deed Status) → refusing.Gives r → Parts (or_refuses call r)
  asked_parts call (Ok d) is = of_row d is
  asked_parts call (Err status) is = tt

  call_parts : Parts (hypercall k ec (pd_of k ec) (context k ec).regs)
  call_parts = asked_parts (reg (context k ec).regs 17) (asked k ec (pd_of k ec) (context k ec).regs) (asked_gives k ec (pd_of k ec) (context k ec).regs)

  signalled_parts : (reason q0 q1 : ℕ) (b : Bool) → Parts (signalled k ec reason q0 q1 b)
  signalled_parts reason q0 q1 true = call_parts
  signalled_parts reason q0 q1 false = tt

  stepping_parts : (o : Once) → Parts (stepping k ec o)
  stepping_parts (Raised reason q0 q1) = signalled_parts reason q0 q1 _
  stepping_parts (Went regs store) = tt

  ready_parts : (b : Bool) → Parts (ready k ec b)
  ready_parts true = tt
  ready_parts false = stepping_parts (instruction k ec)

  exit_parts : (pt reason q0 q1 : ℕ) (a : ExitAdmit) → Parts (exit_to k pt reason q0 q1 a)
  exit_parts pt reason q0 q1 exit.Dies = tt
  exit_parts pt reason q0 q1 exit.Waits = tt
  exit_parts pt reason q0 q1 exit.Sends = tt

  exits_parts : (reason q0 q1 : ℕ) (r : Result ℕ Status) → Parts (exit_at k ec reason q0 q1 r)
  exits_parts reason q0 q1 (Err status) = tt
  exits_parts reason q0 q1 (Ok pt) = exit_parts pt reason q0 q1 _

  leaf_parts : (o : Option Derivation) → Parts (removes o)
  leaf_parts None = tt
  leaf_parts (Some leaf) = tt

  deed_parts : Parts (deed k ec)
  unfolding deed
  deed_parts = by_state (context k ec).state refl
    where
      by_state : (s : State) → (context k ec).state ≡ s → Parts (deed_in k ec s)
      by_state Fresh is = tt
      by_state Ready is = ready_parts (context k ec).recall
      by_state (Exiting reason q0 q1) is = exits_parts reason q0 q1 (exit_portal k ec reason)
      by_state Parked is = tt
      by_state Dead is = tt
      by_state (Blocked sm) is = tt
      by_state (Granting new) is = delivers_parts (delivery k ec (Granting new)) (ap (delivery k ec) is)
      by_state Replying is = delivers_parts (delivery k ec Replying) (ap (delivery k ec) is)
      by_state (Calling handler) is = tt
      by_state (Helping handler) is = call_parts
      by_state (Revoking range own) is = leaf_parts _
      by_state (Sending reason q0 q1 handler) is = exits_parts reason q0 q1 (exit_portal k ec reason)

  pub gives : (cursor : ℕ) (child : Derivation) → deed k ec ≡ Gives child cursor → (p : IsPart k ec cursor) × (child.parent ≡ Some p.source.id)
  gives cursor child is = subst Parts is deed_parts

  pub skips : (place cursor : ℕ) (why : Reason) → deed k ec ≡ Skips why place cursor → (p : IsPart k ec cursor) × (place ≡ max p.source.base p.job.source)
  skips place cursor why is = subst Parts is deed_parts

  pub ends : (item : ℕ) (end : ItemEnd) (words : Option ItemWords) (after : Sequel) → deed k ec ≡ Finishes item end words after → Ends end
  ends item end words after is = subst Parts is deed_parts
