-- The virtual CPUs that a deed stirs, and the counts that rise.
use Rattle.std.proofs.Common.{◌≡◌, ℕ, zero, suc, ◌+◌, ◌<◌, ◌≤◌, ◌==◌, ◌⊎◌, List, [], ◌∷◌, length, inl, inr, refl, ap, ap₂, sym, ◌∙◌, subst, arith}
use Rattle.std.proofs.lemmas.Bool.Decides.{nat_tests}
use Rattle.std.specs.Prelude.{Bool, true, false, ◌&&◌, if◌then◌else◌, nat_lt, map, Option, Some, None, IfSome, is_some, slice_get}
use Rattle.nova_objects.specs.declared.object.EcKind.TheVariants.{Vcpu}
use Rattle.nova_objects.specs.declared.object.Object.{Object}
use Rattle.nova_objects.specs.declared.object.Object.TheVariants.{Ec}
use Rattle.nova_model.specs.Capabilities.{is_vcpu}
use Rattle.nova_model.specs.Delegations.{is_memory}
use Rattle.nova_model.specs.Inputs.{is_covered_for}
use Rattle.nova_model.specs.State.{KernelState, entry, pd_in, pd_of}
use Rattle.nova_model.specs.Views.{is_memory_of}
use Rattle.nova_model.specs.declared.context.Mark.TheVariants as mark
use Rattle.nova_model.specs.declared.delegation.Derivation.{Derivation}
use Rattle.nova_model.specs.declared.deed.Deed.{Deed}
use Rattle.nova_model.specs.declared.deed.Deed.TheVariants.{Steps, Dies, Sends, Recalls, Gives, Removes, Finishes, Replies, Aborts}
use Rattle.nova_model.specs.declared.transfer.Sequel.TheVariants.{Replied}
use Rattle.nova_deeds.specs.StirCounts.{count_in, risen, risen_at, risen_from}
use Rattle.nova_deeds.specs.Stirs.{is_seen, is_stirring}
use Rattle.nova_deeds.proofs.StirTables.{risen_calm}
use Rattle.nova_memory.specs.Sights.{AreViewers, domains_of}
use Rattle.nova_memory.specs.declared.viewers.Viewers.{Viewers}
use Rattle.nova_turn.specs.Homes.{AreOthers, AreOthersOf, AreSeers, AreStirred, HasCounts, Includes, home_of}
use Rattle.nova_turn.specs.declared.tables.inventory.Numbers.{Numbers}
use Rattle.nova_turn.specs.declared.tables.inventory.Numbers.TheVariants.{Empty, Single, Several}

right_true : (t u : Bool) → (t && u) ≡ true → u ≡ true
right_true true u is = is
right_true false u is = absurd cc

-- WHICH VIRTUAL CPUS SEE A STORE

pub seers_any : (k : KernelState) (ec : ℕ) (written : Option ℕ) → AreSeers k ec written Several
seers_any k ec written guest pd home seen = inr tt

pub seers_none : (k : KernelState) (ec : ℕ) (others : Numbers) → AreSeers k ec None others
seers_none k ec others guest pd home seen = absurd cc

pub seers_beyond : (k : KernelState) (ec frame : ℕ) (others : Numbers) → length k.memory.ram ≤ frame → AreSeers k ec (Some frame) others
seers_beyond k ec frame others beyond guest pd home seen =
    absurd
    (let off : nat_lt frame (length k.memory.ram) ≡ false = grind (arith, nat_tests, beyond) in
    let never : false ≡ true = sym (ap (λ (b : Bool). b && is_covered_for k pd frame) off) ∙ seen in
    cc)

pub seers_of : (k : KernelState) (ec frame : ℕ) (v : Viewers) (others : Numbers) → AreViewers k.delegations.list frame v → AreOthersOf k.objects ec (domains_of v) others →
    AreSeers k ec (Some frame) others
seers_of k ec frame v others are of guest pd home seen =
    of pd (sym (are pd) ∙ right_true (nat_lt frame (length k.memory.ram)) (is_covered_for k pd frame) seen) guest home

-- WHICH VIRTUAL CPUS A DEED STIRS

home_pd : (o : Option Object) (pd : ℕ) → home_of o ≡ Some pd → pd_in o ≡ pd
home_pd (Some (Ec p cpu Vcpu event)) pd is = cc
home_pd other pd is = absurd cc

-- others, by their protection domains
by_domain : (k : KernelState) (ec : ℕ) (among : ℕ → Bool) (others : Numbers) →
    ((guest pd : ℕ) → home_of (slice_get k.objects guest) ≡ Some pd → among pd ≡ true → (ec ≡ guest) ⊎ Includes guest others) →
    AreStirred k (λ guest. if ec == guest then false else among (pd_of k guest)) others
by_domain k ec among others are guest pd home is = by_test (ec == guest) refl is
  where
    by_test : (t : Bool) → (ec == guest) ≡ t → (if t then false else among (pd_of k guest)) ≡ true → Includes guest others
    by_test true itself stirred = absurd cc
    by_test false itself stirred = elim (are guest pd home (ap among (sym (home_pd (slice_get k.objects guest) pd home)) ∙ stirred)) [
      | inl same ↦ absurd (let on : (ec == guest) ≡ true = grind (arith, same) in cc)
      | inr among_others ↦ among_others
    ]

pub steps_stir : (k : KernelState) (written : Option ℕ) (ec : ℕ) (others : Numbers) → AreSeers k ec written others → AreStirred k (is_stirring k written ec Steps) others
steps_stir k written ec others are = by_domain k ec (λ pd. is_seen k pd written) others are

holders : (objects : List Object) (ec : ℕ) (d : Derivation) (others : Numbers) → AreOthers objects ec d.pd others → (guest pd : ℕ) → home_of (slice_get objects guest) ≡ Some pd →
    is_memory_of pd d ≡ true → (ec ≡ guest) ⊎ Includes guest others
holders objects ec d others of guest pd home its =
    of guest (home ∙ sym (ap Some (let same = right_true (is_memory d.kind) (d.pd == pd) its in let e : d.pd ≡ pd = grind (arith, same) in e)))

pub gives_stir : (k : KernelState) (written : Option ℕ) (ec cursor : ℕ) (child : Derivation) (others : Numbers) → AreOthers k.objects ec child.pd others →
    AreStirred k (is_stirring k written ec (Gives child cursor)) others
gives_stir k written ec cursor child others of = by_domain k ec (λ pd. is_memory_of pd child) others (holders k.objects ec child others of)

pub removes_stir : (k : KernelState) (written : Option ℕ) (ec : ℕ) (leaf : Derivation) (others : Numbers) → AreOthers k.objects ec leaf.pd others →
    AreStirred k (is_stirring k written ec (Removes leaf)) others
removes_stir k written ec leaf others of = by_domain k ec (λ pd. is_memory_of pd leaf) others (holders k.objects ec leaf others of)

-- the virtual CPU that is named
by_name : (t u : Bool) (ec whose guest : ℕ) → (whose == guest) ≡ u → (if t then false else u) ≡ true → whose ≡ guest
by_name true u ec whose guest is stirred = absurd cc
by_name false true ec whose guest is stirred = let e : whose ≡ guest = grind (arith, is) in e
by_name false false ec whose guest is stirred = absurd cc

nobody : (t : Bool) → (if t then false else false) ≡ true → ⊥
nobody true stirred = cc
nobody false stirred = cc

itself : (ec guest : ℕ) (t : Bool) → (ec == guest) ≡ t → (if t then true else false) ≡ true → ec ≡ guest
itself ec guest true is stirred = let e : ec ≡ guest = grind (arith, is) in e
itself ec guest false is stirred = absurd cc

-- by its own words: itself, that which it names, or those that have or see memory
abbrev pub named : ℕ → Deed → Numbers
named ec (Sends handler ip identifier mtd reason q0 q1) = Single ec
named ec (Dies reason q0) = Single ec
named ec (Aborts handler by) = Single ec
named ec (Recalls whose) = Single whose
named ec (Replies caller by items) = Single caller
named ec (Finishes item end words (Replied caller by)) = Single caller
named ec Steps = Several
named ec (Gives child cursor) = Several
named ec (Removes leaf) = Several
named ec other = Empty

pub named_stir : (k : KernelState) (written : Option ℕ) (ec : ℕ) (d : Deed) → AreStirred k (is_stirring k written ec d) (named ec d)
named_stir k written ec (Sends handler ip identifier mtd reason q0 q1) guest pd home is = itself ec guest (ec == guest) refl is
named_stir k written ec (Dies reason q0) guest pd home is = itself ec guest (ec == guest) refl is
named_stir k written ec (Aborts handler by) guest pd home is = itself ec guest (ec == guest) refl is
named_stir k written ec (Recalls whose) guest pd home is = by_name (ec == guest) (whose == guest) ec whose guest refl is
named_stir k written ec (Replies caller mark.Exit false) guest pd home is = by_name (ec == guest) (caller == guest) ec caller guest refl is
named_stir k written ec (Finishes item end words (Replied caller mark.Exit)) guest pd home is = by_name (ec == guest) (caller == guest) ec caller guest refl is
named_stir k written ec (Replies caller by items) guest pd home is = absurd (nobody (ec == guest) is)
named_stir k written ec (Finishes item end words (Replied caller by)) guest pd home is = absurd (nobody (ec == guest) is)
named_stir k written ec Steps guest pd home is = tt
named_stir k written ec (Gives child cursor) guest pd home is = tt
named_stir k written ec (Removes leaf) guest pd home is = tt
named_stir k written ec d guest pd home is = nobody (ec == guest) is

-- STIR COUNTS

home_some : (o : Object) → is_vcpu o ≡ true → home_of (Some o) ≡ Some (pd_in (Some o))
home_some (Ec pd cpu Vcpu event) is = refl
home_some other is = absurd cc

-- only those of virtual CPUs are there to rise
risen_alike : (stirs others : ℕ → Bool) (n : ℕ) (counts : List (Option ℕ)) (os : List Object) → map is_some counts ≡ map is_vcpu os →
    ((i pd : ℕ) → home_of (slice_get os i) ≡ Some pd → stirs (n + i) ≡ others (n + i)) → risen_from stirs n counts ≡ risen_from others n counts
risen_alike stirs others n [] os same alike = refl
risen_alike stirs others n (c ∷ counts) [] same alike = absurd cc
risen_alike stirs others n (None ∷ counts) (o ∷ os) same alike =
    ap (λ (l : List (Option ℕ)). None ∷ l)
    (risen_alike stirs others (n + 1) counts os (let rest : map is_some counts ≡ map is_vcpu os = cc in rest)
    (λ i pd home. subst (λ (m : ℕ). stirs m ≡ others m) (let e : n + suc i ≡ n + 1 + i = omega arith in e) (alike (suc i) pd home)))
risen_alike stirs others n (Some count ∷ counts) (o ∷ os) same alike =
    let is : is_vcpu o ≡ true = cc in
    ap₂ (λ (t : Bool) (l : List (Option ℕ)). Some (risen t count) ∷ l)
    (subst (λ (m : ℕ). stirs m ≡ others m) (let e : n + 0 ≡ n = omega arith in e) (alike zero (pd_in (Some o)) (home_some o is)))
    (risen_alike stirs others (n + 1) counts os (let rest : map is_some counts ≡ map is_vcpu os = cc in rest)
    (λ i pd home. subst (λ (m : ℕ). stirs m ≡ others m) (let e : n + suc i ≡ n + 1 + i = omega arith in e) (alike (suc i) pd home)))

from_none : (k : KernelState) (stirs others : ℕ → Bool) → HasCounts k → ((i pd : ℕ) → home_of (slice_get k.objects i) ≡ Some pd → stirs i ≡ others i) →
    risen_from stirs 0 k.stirs.guests ≡ risen_from others 0 k.stirs.guests
from_none k stirs others counts alike =
    risen_alike stirs others 0 k.stirs.guests k.objects counts
    (λ i pd home. subst (λ (m : ℕ). stirs m ≡ others m) (let e : i ≡ 0 + i = omega arith in e) (alike i pd home))

stays : (k : KernelState) (stirs : ℕ → Bool) → HasCounts k → ((i pd : ℕ) → home_of (slice_get k.objects i) ≡ Some pd → stirs i ≡ false) →
    k.stirs.guests ≡ risen_from stirs 0 k.stirs.guests
stays k stirs counts calm = sym (from_none k stirs (λ m. false) counts calm ∙ risen_calm (λ m. false) 0 k.stirs.guests (λ m h. refl))

pub none_rises : (k : KernelState) (stirs : ℕ → Bool) → HasCounts k → AreStirred k stirs Empty → k.stirs.guests ≡ risen_from stirs 0 k.stirs.guests
none_rises k stirs counts only = stays k stirs counts (λ i pd home. by_test i (stirs i) (only i pd home))
  where
    by_test : (i : ℕ) (t : Bool) → (t ≡ true → ⊥) → t ≡ false
    by_test i true never = absurd (never refl)
    by_test i false never = refl

-- that one, where it is stirred, and no other
pub one_rises : (k : KernelState) (stirs : ℕ → Bool) (guest : ℕ) → HasCounts k → AreStirred k stirs (Single guest) → stirs guest ≡ true →
    risen_at guest k.stirs.guests ≡ risen_from stirs 0 k.stirs.guests
one_rises k stirs guest counts only is = sym (from_none k stirs (λ m. m == guest) counts (λ i pd home. by_test i (stirs i) refl (only i pd home)))
  where
    by_test : (i : ℕ) (t : Bool) → stirs i ≡ t → (t ≡ true → guest ≡ i) → t ≡ (i == guest)
    by_test i true at one = let same = one refl in let e : (i == guest) ≡ true = grind (arith, same) in sym e
    by_test i false at one = other (i == guest) refl
      where
        other : (u : Bool) → (i == guest) ≡ u → false ≡ u
        other true same = absurd (let e : i ≡ guest = grind (arith, same) in let never : false ≡ true = sym at ∙ ap stirs e ∙ is in cc)
        other false same = refl

pub one_stays : (k : KernelState) (stirs : ℕ → Bool) (guest : ℕ) → HasCounts k → AreStirred k stirs (Single guest) → stirs guest ≡ false →
    k.stirs.guests ≡ risen_from stirs 0 k.stirs.guests
one_stays k stirs guest counts only is = stays k stirs counts (λ i pd home. by_test i (stirs i) refl (only i pd home))
  where
    by_test : (i : ℕ) (t : Bool) → stirs i ≡ t → (t ≡ true → guest ≡ i) → t ≡ false
    by_test i true at one = sym at ∙ ap stirs (sym (one refl)) ∙ is
    by_test i false at one = refl

-- a count that is there is low
pub few_at : (counts : List (Option ℕ)) (guest most : ℕ) → 0 < most → ((g : ℕ) → IfSome (entry (slice_get counts g)) (λ n. n < most)) → count_in (entry (slice_get counts guest)) < most
few_at counts guest most some few = by_entry (entry (slice_get counts guest)) (few guest)
  where
    by_entry : (o : Option ℕ) → IfSome o (λ n. n < most) → count_in o < most
    by_entry None h = some
    by_entry (Some n) h = h
