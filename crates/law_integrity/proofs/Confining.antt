-- Closed sets of domains stay closed, and come to hold no more than they held and made.
use Rattle.std.proofs.Common.{◌≡◌, ℕ, ◌+◌, ◌^◌, ◌<◌, ◌≤◌, ◌⊎◌, List, [], ◌∷◌, ◌++◌, length, refl, sym, ap, ◌∙◌, subst, inl, inr, arith}
use Rattle.std.specs.Prelude.{true, not, ◌==◌, bit_and, Contains, slice_get, Option, Some, None, option_and_then, option_map}
use Rattle.std.proofs.lemmas.Nat.{and_mask, pow_pos}
use Rattle.std.proofs.lemmas.Option.{same_Some, slice_get_within}
use Rattle.nova_objects.specs.declared.object.Object.{Object}
use Rattle.nova_objects.specs.declared.object.Object.TheVariants.{Pd, Ec, Sc, Pt, Sm}
use Rattle.nova_range.specs.Rights.{allows}
use Rattle.nova_range.specs.declared.rights.Rights.{Rights}
use Rattle.nova_range.specs.declared.range.Kind.{Kind}
use Rattle.nova_range.specs.declared.range.Kind.TheVariants.{Obj}
use Rattle.nova_model.specs.Capabilities.{is_local, is_schedulable}
use Rattle.nova_model.specs.Choice.{Candidate}
use Rattle.nova_model.specs.Deeds.{deed}
use Rattle.nova_model.specs.Delegations.{Delegations}
use Rattle.nova_model.specs.Edges.{edge, edge_of}
use Rattle.nova_model.specs.Forest.{IsAligned, IsAlignedFor, IsForest, IsWithin}
use Rattle.nova_model.specs.Runs.{after}
use Rattle.nova_model.specs.State.{KernelState, context, context_at, context_in, pd_in, pd_of}
use Rattle.nova_model.specs.declared.context.EcState.{EcState}
use Rattle.nova_model.specs.declared.context.State.TheVariants.{Calling, Granting}
use Rattle.nova_model.specs.declared.delegation.Derivation.{Derivation}
use Rattle.law_forest.specs.Made.{GivesChild, Grows, IsFirstCapability, Leaves, MakesObject, TakesLeaf}
use Rattle.law_forest.specs.Turns.{Idles as Stays, Passes, Takes, Acts as Chosen, turned}
use Rattle.law_forest.proofs.Members.{IsIn, all_at, contains_from_in, filtered_in, in_from_contains}
use Rattle.law_forest.proofs.Turning.{comes}
use Rattle.law_isolation.specs.Sound.{IsSound}
use Rattle.law_turns.specs.Tables.{HasTables, IsOf, Refers}
use Rattle.law_turns.proofs.Serving.{IsActor, actor_of, awaited}
use Rattle.law_origins.specs.Giving.{Acts}
use Rattle.law_origins.proofs.Actors.{actor_object, is_able, last_object, object_stays, special_object}
use Rattle.law_origins.proofs.Coming.{came}
use Rattle.law_origins.proofs.Origins.{opened_now}
use Rattle.law_integrity.specs.Rights.{CallsAt, ExitsAt, GivesFirst, GivesTo, RepliesWith, TakesOfCaller}
use Rattle.law_integrity.specs.Rightful.{IsRightful}
use Rattle.law_integrity.specs.Confined.{Holds, HoldsAny, IsClosed, JoinsSet, IsMember, IsOwned, Reach, ReachAny, more}
use Rattle.law_integrity.proofs.Branches.{chosen_grows, child_within}
use Rattle.law_integrity.proofs.Parts.{given_rightful}
use Rattle.law_integrity.specs.Waits.{HasLocalEdges}
use Rattle.law_integrity.proofs.Edges.{at_index, edge_came}

-- WHATEVER RIGHTS

pub any_held : {k : KernelState} {S : ℕ → Type 0} {right object : ℕ} → Holds k S right object → HoldsAny k S object
any_held h = record { capability = h.capability; there = h.there; of = h.of; kind = h.kind; leads = h.leads }

-- no right at all is a part of each
allows_none : (rights : Rights) → allows rights 0 ≡ true
allows_none rights = let none : bit_and rights.0 0 ≡ 0 = and_mask rights.0 0 ∙ omega arith in ap (λ (n : ℕ). n == 0) none

pub held_none : {k : KernelState} {S : ℕ → Type 0} {object : ℕ} → HoldsAny k S object → Holds k S 0 object
held_none h = record { capability = h.capability; there = h.there; of = h.of; kind = h.kind; leads = h.leads; allowed = allows_none h.capability.rights }

pub any_reached : {k : KernelState} {S : ℕ → Type 0} {right frame : ℕ} → Reach k S right frame → ReachAny k S frame
any_reached r = record { derivation = r.derivation; there = r.there; of = r.of; kind = r.kind; leads = r.leads }

pub reached_none : {k : KernelState} {S : ℕ → Type 0} {frame : ℕ} → ReachAny k S frame → Reach k S 0 frame
reached_none r = record { derivation = r.derivation; there = r.there; of = r.of; kind = r.kind; leads = r.leads; allowed = allows_none r.derivation.rights }

-- OBJECTS

pub object_kept : (k : KernelState) (cpu n : ℕ) (y : Object) → slice_get k.objects n ≡ Some y → slice_get (after k cpu).objects n ≡ Some y
object_kept k cpu n y is = object_stays k cpu n (slice_get_within k.objects n y is) ∙ is

pub member_later : (k : KernelState) (cpu : ℕ) (S : ℕ → Type 0) (ec : ℕ) → IsMember k S ec → IsMember (after k cpu) (more k S cpu) ec
member_later k cpu S ec m =
    record { domain = m.domain; cpu = m.cpu; kind = m.kind; event = m.event; object = object_kept k cpu ec (Ec m.domain m.cpu m.kind m.event) m.object; of = inl m.of }

-- a context that is there was of the set before
pub member_was : (k : KernelState) (cpu : ℕ) (S : ℕ → Type 0) (ec : ℕ) → HasTables k → ec < length k.objects → IsMember (after k cpu) (more k S cpu) ec → IsMember k S ec
member_was k cpu S ec tables within m = by_of m.of
  where
    is : slice_get k.objects ec ≡ Some (Ec m.domain m.cpu m.kind m.event)
    is = sym (object_stays k cpu ec within) ∙ m.object

    by_of : S m.domain ⊎ JoinsSet k S cpu m.domain → IsMember k S ec
    by_of (inl s) = record { domain = m.domain; cpu = m.cpu; kind = m.kind; event = m.event; object = is; of = s }
    by_of (inr made) =
        let there : slice_get k.objects m.domain ≡ Some Pd = at_index (Refers k.objects) k.objects ec (Ec m.domain m.cpu m.kind m.event) tables.refer is in
        let below : m.domain < length k.objects = slice_get_within k.objects m.domain Pd there in
        let number = made.number in absurd (omega (arith, below, number))

pub member_pd : (k : KernelState) (S : ℕ → Type 0) (ec : ℕ) → IsMember k S ec → S (pd_of k ec)
member_pd k S ec m = subst S (sym (ap pd_in m.object)) m.of

pub both_member : (k : KernelState) (S T : ℕ → Type 0) (ec : ℕ) → ((n : ℕ) → S n → T n → ⊥) → IsMember k S ec → IsMember k T ec → ⊥
both_member k S T ec disjoint m n = disjoint (pd_of k ec) (member_pd k S ec m) (member_pd k T ec n)

-- WHICH CONTEXT ACTS, AND TO WHICH IT GIVES

-- a context that waits for a reply has an edge to its handler
pub waits_edge : (k : KernelState) (n h : ℕ) → (context k n).state ≡ Calling h → edge k.contexts n ≡ Some h
waits_edge k n h is = by_entry (context_at k n) is
  where
    by_entry : (o : Option EcState) → (context_in o).state ≡ Calling h → option_and_then edge_of (option_map (λ x. x.state) o) ≡ Some h
    by_entry None at = absurd (cc)
    by_entry (Some x) at = ap edge_of at

pub acting_one : (k : KernelState) (cpu ec : ℕ) → Acts k cpu ec → IsActor k.contexts ec
acting_one k cpu ec is = actor_of k.contexts ec (is_able k cpu ec is)

pub gives_in : (k : KernelState) (S : ℕ → Type 0) (ec giver receiver : ℕ) → IsSound k → IsClosed k S → IsActor k.contexts ec → IsMember k S ec → GivesTo k ec giver receiver → S giver × S receiver
gives_in k S ec giver receiver sound closed actor m (TakesOfCaller caller mark state serves g r) =
    let c : IsMember k S caller = closed.edges caller ec (waits_edge k caller ec (awaited _ k.contexts ec caller mark actor serves sound.kept.served).waits) m in
    (subst S g (member_pd k S caller c), subst S r (member_pd k S ec m))
gives_in k S ec giver receiver sound closed actor m (RepliesWith caller mark state serves g r) =
    let c : IsMember k S caller = closed.edges caller ec (waits_edge k caller ec (awaited _ k.contexts ec caller mark actor serves sound.kept.served).waits) m in
    (subst S g (member_pd k S ec m), subst S r (member_pd k S caller c))
gives_in k S ec giver receiver sound closed actor m (GivesFirst state g) = (subst S g (member_pd k S ec m), closed.firsts ec receiver state m)

pub owned_at : (k : KernelState) (S : ℕ → Type 0) (d : Derivation) (n : ℕ) (o : Object) → IsClosed k S → Contains k.delegations.list d → S d.pd → d.kind ≡ Obj → d.target ≡ n → slice_get k.objects n ≡ Some o →
    IsOwned k S n (Some o)
owned_at k S d n o closed there s kind target is =
    subst (IsOwned k S n) is (subst (λ (t : ℕ). IsOwned k S t (slice_get k.objects t)) target (closed.capabilities d there s kind))

pub calls_in : (k : KernelState) (S : ℕ → Type 0) (ec handler : ℕ) → IsClosed k S → IsMember k S ec → CallsAt k ec handler → IsMember k S handler
calls_in k S ec handler closed m c =
    owned_at k S c.held.at.capability c.portal (Pt handler c.mtd c.ip) closed c.held.at.held.there (subst S (sym c.held.at.held.holder) (member_pd k S ec m)) c.held.at.held.kind c.held.at.leads c.object

pub exits_in : (k : KernelState) (S : ℕ → Type 0) (ec handler : ℕ) → IsClosed k S → IsMember k S ec → ExitsAt k ec handler → IsMember k S handler
exits_in k S ec handler closed m c =
    owned_at k S c.held.capability c.portal (Pt handler c.mtd c.ip) closed c.held.held.there (subst S (sym c.held.held.holder) (member_pd k S ec m)) c.held.held.kind c.held.leads c.object

-- a context that acts is of the set, or nothing of what it does touches the set
pub record IsAway (k : KernelState) (S : ℕ → Type 0) (ec : ℕ) : Type 0 where
  pub out : S (pd_of k ec) → ⊥
  pub calls : (handler : ℕ) → CallsAt k ec handler ⊎ ExitsAt k ec handler → IsMember k S handler → ⊥
  pub gives : (giver receiver : ℕ) → GivesTo k ec giver receiver → S receiver → ⊥

abbrev pub Side : KernelState → (ℕ → Type 0) → ℕ → Type 0
Side k S ec = (IsMember k S ec ⊎ IsAway k S ec) × ((giver receiver : ℕ) → GivesTo k ec giver receiver → slice_get k.objects receiver ≡ Some Pd)

-- of two sets
pub side_in : (k : KernelState) (S : ℕ → Type 0) (ec : ℕ) → IsSound k → IsClosed k S → IsActor k.contexts ec → IsMember k S ec → Side k S ec
side_in k S ec sound closed actor m = (inl m, λ giver receiver g. closed.there receiver (gives_in k S ec giver receiver sound closed actor m g).1)

pub side_out : (k : KernelState) (S T : ℕ → Type 0) (ec : ℕ) → IsSound k → IsClosed k T → ((n : ℕ) → S n → T n → ⊥) → IsActor k.contexts ec → IsMember k T ec → Side k S ec
side_out k S T ec sound closed disjoint actor m = (
  inr (record {
    out = λ s. disjoint (pd_of k ec) s (member_pd k T ec m);
    calls = λ handler c s. both_member k S T handler disjoint s (by_portal handler c);
    gives = λ giver receiver g s. disjoint receiver s (gives_in k T ec giver receiver sound closed actor m g).1;
  }),
  λ giver receiver g. closed.there receiver (gives_in k T ec giver receiver sound closed actor m g).1,
)
  where
    by_portal : (handler : ℕ) → CallsAt k ec handler ⊎ ExitsAt k ec handler → IsMember k T handler
    by_portal handler (inl c) = calls_in k T ec handler closed m c
    by_portal handler (inr c) = exits_in k T ec handler closed m c

-- WHENCE A DERIVATION IS

pub data Whence (k : KernelState) (cpu : ℕ) (d : Derivation) : Type 0 where
  Old : Contains k.delegations.list d → Whence k cpu d
  Newest : (ec : ℕ) → Acts k cpu ec → (object : Object) → IsFirstCapability k ec object d → (after k cpu).objects ≡ k.objects ++ object ∷ [] → Whence k cpu d
  Child : (ec : ℕ) → Acts k cpu ec → (source : Derivation) → Contains k.delegations.list source → IsWithin d source → GivesTo k ec source.pd d.pd → Whence k cpu d

pub in_more : {T : Type 0} (xs : List T) (x y : T) → IsIn (xs ++ x ∷ []) y → IsIn xs y ⊎ (x ≡ y)
in_more [] x y (inl same) = inr same
in_more [] x y (inr none) = absurd none
in_more (z ∷ xs) x y (inl same) = inl (inl same)
in_more (z ∷ xs) x y (inr later) = elim (in_more xs x y later) [
  | inl i ↦ inl (inr i)
  | inr same ↦ inr same
]

grown_whence : (k : KernelState) (cpu ec : ℕ) (d : Derivation) → IsForest k.delegations → Acts k cpu ec → Grows k ec (after k cpu) → Contains (after k cpu).delegations.list d → Whence k cpu d
grown_whence k cpu ec d forest acts_ (Leaves h) there = Old (subst (λ (f : Delegations). Contains f.list d) h.delegations there)
grown_whence k cpu ec d forest acts_ (MakesObject h) there =
    elim (in_more k.delegations.list h.capability d (in_from_contains _ d (subst (λ (f : Delegations). Contains f.list d) h.delegations there))) [
      | inl i ↦ Old (contains_from_in k.delegations.list d i)
      | inr same ↦ subst (Whence k cpu) same (Newest ec acts_ h.object h.first h.objects)
    ]
grown_whence k cpu ec d forest acts_ (GivesChild h) there =
    elim (in_more k.delegations.list h.child d (in_from_contains _ d (subst (λ (f : Delegations). Contains f.list d) h.delegations there))) [
      | inl i ↦ Old (contains_from_in k.delegations.list d i)
      | inr same ↦ subst (Whence k cpu) same (Child ec acts_ h.given.source h.given.there (child_within k ec h.child forest h.given) (given_rightful k ec h.child h.given))
    ]
grown_whence k cpu ec d forest acts_ (TakesLeaf h) there =
    Old (contains_from_in k.delegations.list d (filtered_in (λ (x : Derivation). not (x.id == h.leaf.id)) k.delegations.list d
    (in_from_contains _ d (subst (λ (f : Delegations). Contains f.list d) h.delegations there))).0)

pub whence : (k : KernelState) (cpu : ℕ) (d : Derivation) → IsForest k.delegations → Contains (after k cpu).delegations.list d → Whence k cpu d
whence k cpu d forest there = elim (comes k cpu) [
  | Stays none quiet same answer ↦ Old (subst (λ (s : KernelState). Contains s.delegations.list d) same there)
  | Takes t e is state answer ↦ elim is [
    | Chosen c chosen its event ↦ grown_whence k cpu c.actor d forest (ap (option_map (λ (c : Candidate). c.actor)) chosen) (chosen_grows k cpu c chosen) there
    | Passes p due its event ↦ Old (subst (λ (s : KernelState). Contains s.delegations.list d) (state ∙ ap (turned k cpu) its) there)
  ]
]

-- a capability leads to one object
pub child_target : (d source : Derivation) → source.kind ≡ Obj → source.order ≡ 0 → IsWithin d source → d.target ≡ source.target
child_target d source kind order w =
    let first = w.first in
    let last : d.target + 2 ^ d.order ≤ source.target + 1 = subst (λ (n : ℕ). d.target + 2 ^ d.order ≤ source.target + 2 ^ n) order w.last in
    let some = pow_pos d.order in omega (arith, first, last, some)

-- A CLOSED SET AFTER A TURN

owned_later : (k : KernelState) (cpu : ℕ) (S : ℕ → Type 0) (n : ℕ) (o : Object) → IsOwned k S n (Some o) → IsOwned (after k cpu) (more k S cpu) n (Some o)
owned_later k cpu S n Pd s = inl s
owned_later k cpu S n (Ec pd its kind event) s = inl s
owned_later k cpu S n (Sc donor its priority quantum) s = member_later k cpu S donor s
owned_later k cpu S n (Pt handler mtd ip) s = member_later k cpu S handler s
owned_later k cpu S n Sm s = tt

pub local_member : (k : KernelState) (S : ℕ → Type 0) (handler : ℕ) (o : Option Object) → slice_get k.objects handler ≡ o → option_map is_local o ≡ Some true → IsOwned k S handler o → IsMember k S handler
local_member k S handler None is local s = absurd (cc)
local_member k S handler (Some Pd) is local s = absurd (cc)
local_member k S handler (Some (Ec pd its kind event)) is local s = record { domain = pd; cpu = its; kind = kind; event = event; object = is; of = s }
local_member k S handler (Some (Sc ec its priority quantum)) is local s = absurd (cc)
local_member k S handler (Some (Pt h mtd ip)) is local s = absurd (cc)
local_member k S handler (Some Sm) is local s = absurd (cc)

pub schedulable_member : (k : KernelState) (S : ℕ → Type 0) (donor : ℕ) (o : Option Object) → slice_get k.objects donor ≡ o → option_map is_schedulable o ≡ Some true → IsOwned k S donor o → IsMember k S donor
schedulable_member k S donor None is may s = absurd (cc)
schedulable_member k S donor (Some Pd) is may s = absurd (cc)
schedulable_member k S donor (Some (Ec pd its kind event)) is may s = record { domain = pd; cpu = its; kind = kind; event = event; object = is; of = s }
schedulable_member k S donor (Some (Sc ec its priority quantum)) is may s = absurd (cc)
schedulable_member k S donor (Some (Pt h mtd ip)) is may s = absurd (cc)
schedulable_member k S donor (Some Sm) is may s = absurd (cc)

pub record IsAfter (k : KernelState) (S : ℕ → Type 0) (cpu : ℕ) : Type 0 where
  pub sound : IsSound k
  pub closed : IsClosed k S
  pub sides : (ec : ℕ) → Acts k cpu ec → Side k S ec
  pub rightful : (ec : ℕ) → IsRightful k ec (deed k ec)
  pub local : HasLocalEdges k
  pub holders : (d : Derivation) → Contains k.delegations.list d → slice_get k.objects d.pd ≡ Some Pd
  pub targets : (d : Derivation) → Contains k.delegations.list d → d.kind ≡ Obj → (o : Object) × (slice_get k.objects d.target ≡ Some o)

-- the number of a domain that is there is not the next
pub not_next : (k : KernelState) (n : ℕ) → slice_get k.objects n ≡ Some Pd → n ≡ length k.objects → ⊥
not_next k n there next = let below = slice_get_within k.objects n Pd there in omega (arith, below, next)

-- a derivation's domain that is of the set was there
pub was_in : (k : KernelState) (S : ℕ → Type 0) (cpu n : ℕ) → slice_get k.objects n ≡ Some Pd → more k S cpu n → S n
was_in k S cpu n there (inl s) = s
was_in k S cpu n there (inr made) = absurd (not_next k n there made.number)

pub order_none : (k : KernelState) (d : Derivation) → IsForest k.delegations → Contains k.delegations.list d → d.kind ≡ Obj → d.order ≡ 0
order_none k d forest there kind =
    subst (λ (kind : Kind). IsAlignedFor kind d) kind (all_at IsAligned k.delegations.list d forest.aligned (in_from_contains k.delegations.list d there)).target

pub newest_object : (k : KernelState) (cpu : ℕ) (o : Object) → (after k cpu).objects ≡ k.objects ++ o ∷ [] → slice_get (after k cpu).objects (length k.objects) ≡ Some o
newest_object k cpu o is = ap (λ (os : List Object). slice_get os (length k.objects)) is ∙ last_object k.objects o

-- the new object is of the set of its maker
pub newest_owned : (k : KernelState) (S : ℕ → Type 0) (cpu ec : ℕ) (d : Derivation) (o : Object) → IsClosed k S → Acts k cpu ec → IsMember k S ec → IsFirstCapability k ec o d →
    slice_get (after k cpu).objects (length k.objects) ≡ Some o → IsOwned (after k cpu) (more k S cpu) (length k.objects) (Some o)
newest_owned k S cpu ec d Pd closed acts_ m first is = inr (record { maker = ec; acts = acts_; of = m; number = refl; made = is })
newest_owned k S cpu ec d (Ec pd its kind event) closed acts_ m first is =
    let creator = first.creator in
    let s : S creator.capability.pd = subst S (sym (creator.held ∙ first.pd)) (member_pd k S ec m) in
    inl (subst S (sym first.place) (owned_at k S creator.capability creator.capability.target Pd closed creator.there s creator.kind refl creator.leads))
newest_owned k S cpu ec d (Sc donor its priority quantum) closed acts_ m first is =
    let binder = first.bound.bound in
    let s : S binder.capability.pd = subst S (sym (binder.held ∙ first.pd)) (member_pd k S ec m) in
    member_later k cpu S donor (schedulable_member k S donor (slice_get k.objects donor) refl binder.leads
    (subst (λ (t : ℕ). IsOwned k S t (slice_get k.objects t)) binder.target (closed.capabilities binder.capability binder.there s binder.kind)))
newest_owned k S cpu ec d (Pt handler mtd ip) closed acts_ m first is =
    let binder = first.bound in
    let s : S binder.capability.pd = subst S (sym (binder.held ∙ first.pd)) (member_pd k S ec m) in
    member_later k cpu S handler (local_member k S handler (slice_get k.objects handler) refl binder.leads
    (subst (λ (t : ℕ). IsOwned k S t (slice_get k.objects t)) binder.target (closed.capabilities binder.capability binder.there s binder.kind)))
newest_owned k S cpu ec d Sm closed acts_ m first is = tt

capabilities_after : (k : KernelState) (S : ℕ → Type 0) (cpu : ℕ) → IsAfter k S cpu → (d : Derivation) → Whence k cpu d → more k S cpu d.pd → d.kind ≡ Obj →
    IsOwned (after k cpu) (more k S cpu) d.target (slice_get (after k cpu).objects d.target)
capabilities_after k S cpu a d (Old there) s kind =
    let o = a.targets d there kind in
    subst (IsOwned (after k cpu) (more k S cpu) d.target) (sym (object_kept k cpu d.target o.0 o.1))
    (owned_later k cpu S d.target o.0 (owned_at k S d d.target o.0 a.closed there (was_in k S cpu d.pd (a.holders d there) s) kind refl o.1))
capabilities_after k S cpu a d (Newest ec acts_ object first objects) s kind = by_side (a.sides ec acts_).0
  where
    holder : slice_get k.objects d.pd ≡ Some Pd
    holder = subst (λ (n : ℕ). slice_get k.objects n ≡ Some Pd) first.creator.held (a.holders first.creator.capability first.creator.there)

    by_side : IsMember k S ec ⊎ IsAway k S ec → IsOwned (after k cpu) (more k S cpu) d.target (slice_get (after k cpu).objects d.target)
    by_side (inl m) =
        let is = newest_object k cpu object objects in
        subst (λ (t : ℕ). IsOwned (after k cpu) (more k S cpu) t (slice_get (after k cpu).objects t)) (sym first.target)
        (subst (IsOwned (after k cpu) (more k S cpu) (length k.objects)) (sym is) (newest_owned k S cpu ec d object a.closed acts_ m first is))
    by_side (inr away) = absurd (away.out (subst S first.pd (was_in k S cpu d.pd holder s)))
capabilities_after k S cpu a d (Child ec acts_ source there within gives) s kind = by_side (a.sides ec acts_).0
  where
    of : S d.pd
    of = was_in k S cpu d.pd ((a.sides ec acts_).1 source.pd d.pd gives) s

    source_kind : source.kind ≡ Obj
    source_kind = sym within.kind ∙ kind

    by_side : IsMember k S ec ⊎ IsAway k S ec → IsOwned (after k cpu) (more k S cpu) d.target (slice_get (after k cpu).objects d.target)
    by_side (inl m) =
        let o = a.targets source there source_kind in
        let giver : S source.pd = (gives_in k S ec source.pd d.pd a.sound a.closed (acting_one k cpu ec acts_) m gives).0 in
        subst (λ (t : ℕ). IsOwned (after k cpu) (more k S cpu) t (slice_get (after k cpu).objects t)) (sym (child_target d source source_kind (order_none k source a.sound.forest there source_kind) within))
        (subst (IsOwned (after k cpu) (more k S cpu) source.target) (sym (object_kept k cpu source.target o.0 o.1))
        (owned_later k cpu S source.target o.0 (owned_at k S source source.target o.0 a.closed there giver source_kind refl o.1)))
    by_side (inr away) = absurd (away.gives source.pd d.pd gives of)

pub acts_one : (k : KernelState) (cpu a b : ℕ) → Acts k cpu a → Acts k cpu b → a ≡ b
acts_one k cpu a b x y = same_Some a b (sym x ∙ y)

-- a handler for which a context waits is there
local_there : (os : List Object) (handler : ℕ) → IsOf os is_local handler → handler < length os
local_there os handler is = by_object (slice_get os handler) refl is
  where
    by_object : (o : Option Object) → slice_get os handler ≡ o → option_map is_local o ≡ Some true → handler < length os
    by_object None at h = absurd (cc)
    by_object (Some x) at h = slice_get_within os handler x at

portal_there : (k : KernelState) (ec handler : ℕ) → HasTables k → CallsAt k ec handler ⊎ ExitsAt k ec handler → handler < length k.objects
portal_there k ec handler tables (inl c) = local_there k.objects handler (at_index (Refers k.objects) k.objects c.portal (Pt handler c.mtd c.ip) tables.refer c.object)
portal_there k ec handler tables (inr c) = local_there k.objects handler (at_index (Refers k.objects) k.objects c.portal (Pt handler c.mtd c.ip) tables.refer c.object)

edges_after : (k : KernelState) (S : ℕ → Type 0) (cpu : ℕ) → IsAfter k S cpu → (waiter handler : ℕ) → edge (after k cpu).contexts waiter ≡ Some handler →
    IsMember (after k cpu) (more k S cpu) handler → IsMember (after k cpu) (more k S cpu) waiter
edges_after k S cpu a waiter handler is m = elim (edge_came k cpu waiter handler a.rightful is) [
  | inl before ↦ member_later k cpu S waiter (a.closed.edges waiter handler before (member_was k cpu S handler a.sound.kept.tables (local_there k.objects handler (a.local waiter handler before)) m))
  | inr now ↦ by_side now.1 (a.sides waiter now.0).0
]
  where
    by_side : CallsAt k waiter handler ⊎ ExitsAt k waiter handler → IsMember k S waiter ⊎ IsAway k S waiter → IsMember (after k cpu) (more k S cpu) waiter
    by_side by (inl mine) = member_later k cpu S waiter mine
    by_side by (inr away) = absurd (away.calls handler by (member_was k cpu S handler a.sound.kept.tables (portal_there k waiter handler a.sound.kept.tables by) m))

firsts_after : (k : KernelState) (S : ℕ → Type 0) (cpu : ℕ) → IsAfter k S cpu → (ec new : ℕ) → (context (after k cpu) ec).state ≡ Granting (Some new) →
    IsMember (after k cpu) (more k S cpu) ec → more k S cpu new
firsts_after k S cpu a ec new is m = elim (came k cpu ec (Granting (Some new)) tt is) [
  | inl before ↦ inl (a.closed.firsts ec new before (member_was k cpu S ec a.sound.kept.tables (special_object k ec (Granting (Some new)) a.sound tt before) m))
  | inr now ↦
      let made = opened_now k cpu ec new now.0 now.1 in
      inr (record { maker = ec; acts = now.0; of = member_was k cpu S ec a.sound.kept.tables (actor_object k cpu ec a.sound now.0) m; number = sym made.0; made = made.1 })
]

pub closed_after : (k : KernelState) (S : ℕ → Type 0) (cpu : ℕ) → IsAfter k S cpu → IsClosed (after k cpu) (more k S cpu)
closed_after k S cpu a = record {
  there = λ n s. by_of n s;
  capabilities = λ d there s kind. capabilities_after k S cpu a d (whence k cpu d a.sound.forest there) s kind;
  edges = edges_after k S cpu a;
  firsts = firsts_after k S cpu a;
}
  where
    by_of : (n : ℕ) → more k S cpu n → slice_get (after k cpu).objects n ≡ Some Pd
    by_of n (inl s) = object_kept k cpu n Pd (a.closed.there n s)
    by_of n (inr made) = made.made
