-- The virtual CPUs for which stores are counted stay as long as objects, delegations and the number of frames do.
use Rattle.std.proofs.Common.{inl, inr, ◌≡◌, ◌⊎◌, ◌==◌, ℕ, zero, suc, List, [], ◌∷◌, length, replicate, refl, ap, sym, ◌∙◌, subst}
use Rattle.std.proofs.lemmas.Option.{same_Some}
use Rattle.std.specs.Prelude.{Bool, true, false, ◌&&◌, if◌then◌else◌, nat_lt, Option, Some, None, slice_get, slice_set}
use Rattle.std.specs.List.{list_any}
use Rattle.rv_model.specs.Registers.{Registers}
use Rattle.rv_model.specs.Step.{Once, Raised, Went, Store}
use Rattle.nova_range.specs.Rights.{write_right}
use Rattle.nova_model.specs.AddressSpaces.{AddressSpace, frame_for, stored_at}
use Rattle.nova_model.specs.Deeds.{address_space, done, instruction, memory_after, stepped}
use Rattle.nova_model.specs.Inputs.{leads_to}
use Rattle.nova_model.specs.Memory.{Memory}
use Rattle.nova_model.specs.State.{KernelState, pd_in}
use Rattle.nova_model.specs.declared.deed.Deed.TheVariants.{Steps}
use Rattle.nova_model.specs.declared.delegation.Derivation.{Derivation}
use Rattle.nova_objects.specs.declared.object.Object.{Object}
use Rattle.nova_deeds.specs.StirCounts.{risen_at, risen_from}
use Rattle.nova_deeds.specs.Stirs.{is_stirring, risen_in}
use Rattle.law_forest.proofs.Plain.{length-written_in}
use Rattle.nova_turn.specs.Beside.{with_regs}
use Rattle.nova_turn.specs.Homes.{AreStirred, HasCounts, home_of}
use Rattle.nova_turn.specs.Parts.{state_of}
use Rattle.nova_turn.specs.StoresSeen.{AreSeersOf, IsSeer}
use Rattle.nova_turn.specs.declared.act.seers.Seen.{Seen}
use Rattle.nova_turn.specs.declared.act.seers.Seer.{Seer}
use Rattle.nova_turn.specs.declared.act.seers.Seer.TheVariants.{Unknown, Nobody, Only}
use Rattle.nova_turn.specs.declared.act.seers.Seers.{Seers}
use Rattle.nova_turn.specs.declared.parts.Parts.{Parts}
use Rattle.nova_turn.specs.declared.tables.inventory.Numbers.{Numbers}
use Rattle.nova_turn.specs.declared.tables.inventory.Numbers.TheVariants.{Empty, Single}
use Rattle.nova_turn.proofs.Whom.{none_rises, one_rises}

-- WHAT IS REMEMBERED

each_is : (n : ℕ) (v : Seen) (i : ℕ) (x : Seen) → slice_get (replicate n v) i ≡ Some x → v ≡ x
each_is zero v i x at = absurd (cc)
each_is (suc n) v zero x at = same_Some v x at
each_is (suc n) v (suc i) x at = each_is n v i x at

set_or : (xs : List Seen) (n : ℕ) (v : Seen) (i : ℕ) (x : Seen) → slice_get (slice_set xs n v) i ≡ Some x → (v ≡ x) ⊎ (slice_get xs i ≡ Some x)
set_or [] n v i x h = absurd (cc)
set_or (y ∷ xs) zero v zero x h = inl (same_Some v x h)
set_or (y ∷ xs) zero v (suc i) x h = inr h
set_or (y ∷ xs) (suc n) v zero x h = inr h
set_or (y ∷ xs) (suc n) v (suc i) x h = set_or xs n v i x h

pub none_seen : (k : KernelState) (ec n frame : ℕ) → AreSeersOf k ec (record { places = replicate n (record { frame = frame; seer = Unknown }) })
none_seen k ec n frame i x at = subst (λ (y : Seen). IsSeer k ec y.frame y.seer) (each_is n (record { frame = frame; seer = Unknown }) i x at) tt

pub one_seen : (k : KernelState) (ec n : ℕ) (s : Seers) (v : Seen) → AreSeersOf k ec s → IsSeer k ec v.frame v.seer → AreSeersOf k ec (record s { places = slice_set s.places n v })
one_seen k ec n s v are is i x at = elim (set_or s.places n v i x at) [
  | inl new ↦ subst (λ (y : Seen). IsSeer k ec y.frame y.seer) new is
  | inr old ↦ are i x old
]

-- WHAT IT DEPENDS ON

pub record SeesAlike (k m : KernelState) : Type 0 where
  pub objects : m.objects ≡ k.objects
  pub delegations : m.delegations.list ≡ k.delegations.list
  pub frames : length m.memory.ram ≡ length k.memory.ram

abbrev stirring_in : List Object → List Derivation → ℕ → ℕ → ℕ → ℕ → Bool
stirring_in os list frames ec frame g = if ec == g then false else (nat_lt frame frames && list_any (leads_to (pd_in (slice_get os g)) frame) list)

stirs_alike : (k m : KernelState) (ec frame g : ℕ) → SeesAlike k m → is_stirring m (Some frame) ec Steps g ≡ is_stirring k (Some frame) ec Steps g
stirs_alike k m ec frame g same =
    ap (λ (os : List Object). stirring_in os m.delegations.list (length m.memory.ram) ec frame g) same.objects
    ∙ (ap (λ (list : List Derivation). stirring_in k.objects list (length m.memory.ram) ec frame g) same.delegations
    ∙ ap (λ (n : ℕ). stirring_in k.objects k.delegations.list n ec frame g) same.frames)

stirred_alike : (k m : KernelState) (ec frame : ℕ) (guests : Numbers) → SeesAlike k m → AreStirred k (is_stirring k (Some frame) ec Steps) guests → AreStirred m (is_stirring m (Some frame) ec Steps) guests
stirred_alike k m ec frame guests same are guest pd home stirs =
    are guest pd (ap (λ (os : List Object). home_of (slice_get os guest)) (sym same.objects) ∙ home) (sym (stirs_alike k m ec frame guest same) ∙ stirs)

seer_alike : (k m : KernelState) (ec frame : ℕ) (x : Seer) → SeesAlike k m → IsSeer k ec frame x → IsSeer m ec frame x
seer_alike k m ec frame Unknown same is = tt
seer_alike k m ec frame Nobody same is = stirred_alike k m ec frame Empty same is
seer_alike k m ec frame (Only guest) same is = (stirred_alike k m ec frame (Single guest) same is.0, stirs_alike k m ec frame guest same ∙ is.1)

pub seers_alike : (k m : KernelState) (ec : ℕ) (s : Seers) → SeesAlike k m → AreSeersOf k ec s → AreSeersOf m ec s
seers_alike k m ec s same are i x at = seer_alike k m ec x.frame x.seer same (are i x at)

-- AN INSTRUCTION

stored_frames : (a : AddressSpace) (store : Option Store) (m : Memory) → length (memory_after a store m).ram ≡ length m.ram
stored_frames a None m = refl
stored_frames a (Some s) m = by_frame (frame_for a write_right s.address)
  where
    by_frame : (o : Option ℕ) → length (stored_at m s o).ram ≡ length m.ram
    by_frame None = refl
    by_frame (Some frame) = length-written_in m (slice_get m.ram frame) frame _ _ _

alike_stepped : (k : KernelState) (ec : ℕ) (o : Once) → SeesAlike k (stepped k ec o)
alike_stepped k ec (Raised reason q0 q1) = record { objects = refl; delegations = refl; frames = refl }
alike_stepped k ec (Went regs store) = record { objects = refl; delegations = refl; frames = stored_frames (address_space k ec) store k.memory }

-- counts that rise change none of these
pub seers_risen : (k m : KernelState) (ec : ℕ) (f : ℕ → Bool) (s : Seers) → m ≡ risen_in k f → AreSeersOf k ec s → AreSeersOf m ec s
seers_risen k m ec f s is are =
    subst (λ (n : KernelState). AreSeersOf n ec s) (sym is) (seers_alike k (risen_in k f) ec s (record { objects = refl; delegations = refl; frames = refl }) are)

-- by the states with registers that lie beside
pub seers_on : (k m : KernelState) (ec : ℕ) (r r' : Registers) (s : Seers) → with_regs m ec r' ≡ done (with_regs k ec r) ec Steps → AreSeersOf k ec s → AreSeersOf m ec s
seers_on k m ec r r' s is are =
    seers_alike k m ec s
    (let same = subst (SeesAlike (with_regs k ec r)) (sym is) (alike_stepped (with_regs k ec r) ec (instruction (with_regs k ec r) ec)) in
    record { objects = same.objects; delegations = same.delegations; frames = same.frames }) are

-- FOR WHICH VIRTUAL CPU A STORE IS COUNTED

-- of one alone that isn't stirred none is left
none_of : (k : KernelState) (stirs : ℕ → Bool) (guest : ℕ) → AreStirred k stirs (Single guest) → stirs guest ≡ false → AreStirred k stirs Empty
none_of k stirs guest only calm i pd home is = let same = only i pd home is in let never : false ≡ true = sym calm ∙ (ap stirs same ∙ is) in cc

module _ (k : KernelState) (written : Option ℕ) (ec : ℕ) (guests : Numbers) (are : AreStirred k (is_stirring k written ec Steps) guests) (frame : ℕ) (wrote : written ≡ Some frame) where
  here : AreStirred k (is_stirring k (Some frame) ec Steps) guests
  here = subst (λ (w : Option ℕ). AreStirred k (is_stirring k w ec Steps) guests) wrote are

  pub seer_none : guests ≡ Empty → IsSeer k ec frame Nobody
  seer_none is = subst (AreStirred k (is_stirring k (Some frame) ec Steps)) is here

  pub seer_calm : (guest : ℕ) → guests ≡ Single guest → is_stirring k written ec Steps guest ≡ false → IsSeer k ec frame Nobody
  seer_calm guest is calm =
      none_of k (is_stirring k (Some frame) ec Steps) guest (subst (AreStirred k (is_stirring k (Some frame) ec Steps)) is here)
      (ap (λ (w : Option ℕ). is_stirring k w ec Steps guest) (sym wrote) ∙ calm)

  pub seer_only : (guest : ℕ) → guests ≡ Single guest → is_stirring k written ec Steps guest ≡ true → IsSeer k ec frame (Only guest)
  seer_only guest is stirs = (
    subst (AreStirred k (is_stirring k (Some frame) ec Steps)) is here,
    ap (λ (w : Option ℕ). is_stirring k w ec Steps guest) (sym wrote) ∙ stirs,
  )

-- THE COUNTS

module _ (k : KernelState) (written : Option ℕ) (ec frame : ℕ) (x : Seer) (counts : HasCounts k) (wrote : written ≡ Some frame) (is : IsSeer k ec frame x) where
  pub nobody_counts : x ≡ Nobody → k.stirs.guests ≡ risen_from (is_stirring k written ec Steps) 0 k.stirs.guests
  nobody_counts none =
      subst (λ (w : Option ℕ). k.stirs.guests ≡ risen_from (is_stirring k w ec Steps) 0 k.stirs.guests) (sym wrote)
      (none_rises k (is_stirring k (Some frame) ec Steps) counts (subst (IsSeer k ec frame) none is))

  pub one_counts : (guest : ℕ) → x ≡ Only guest → risen_at guest k.stirs.guests ≡ risen_from (is_stirring k written ec Steps) 0 k.stirs.guests
  one_counts guest one =
      let only = subst (IsSeer k ec frame) one is in
      subst (λ (w : Option ℕ). risen_at guest k.stirs.guests ≡ risen_from (is_stirring k w ec Steps) 0 k.stirs.guests) (sym wrote)
      (one_rises k (is_stirring k (Some frame) ec Steps) guest counts only.0 only.1)

-- with those counts it is the state in which they have risen
pub counts_shown : (p new : Parts) (f : ℕ → Bool) → new ≡ record p { guests = new.guests } → new.guests.counts ≡ risen_from f 0 p.guests.counts → state_of new ≡ risen_in (state_of p) f
counts_shown p new f rest counts =
    ap state_of rest ∙ ap (λ (cs : List (Option ℕ)). record (state_of p) { stirs = record (state_of p).stirs { guests = cs } }) counts
