-- Two closed sets along turns: they stay closed, and reach no more than at first.
use Rattle.std.proofs.Common.{◌≡◌, ℕ, ◌⊎◌, List, [], ◌∷◌, ◌++◌, refl, ap, sym, ◌∙◌, subst, inl, inr, arith}
use Rattle.std.specs.Prelude.{Bool, ◌||◌, true, false, Contains, slice_get, Option, Some, None}
use Rattle.nova_objects.specs.declared.object.Object.{Object}
use Rattle.nova_objects.specs.declared.object.Object.TheVariants.{Pd, Ec, Sc, Pt, Sm}
use Rattle.nova_range.specs.Rights.{execute_right, read_right, write_right}
use Rattle.nova_range.specs.declared.range.Kind.TheVariants.{Mem, Obj}
use Rattle.nova_model.specs.Boot.{Scenario, boot}
use Rattle.nova_model.specs.Edges.{edge}
use Rattle.nova_model.specs.Semaphores.{has}
use Rattle.nova_model.specs.Runs.{after, run}
use Rattle.nova_model.specs.State.{KernelState, context, pd_of}
use Rattle.nova_model.specs.declared.context.State.TheVariants.{Granting}
use Rattle.nova_model.specs.declared.delegation.Derivation.{Derivation}
use Rattle.law_origins.specs.Giving.{Acts}
use Rattle.law_origins.proofs.Lists.{run_append}
use Rattle.law_integrity.specs.Confined.{IsMadeAlong, AreSeparate, Holds, IsClosed, IsMember, OnlyOf, Reach, IsOwned, Of, grown, more}
use Rattle.law_integrity.specs.Rights.{PageLeadsTo}
use Rattle.law_integrity.specs.Secrecy.{IsHidden, IsHiddenAlong, with_bytes}
use Rattle.law_integrity.proofs.Authorised.{frames_of}
use Rattle.law_integrity.proofs.Confining.{Child, IsAfter, IsAway, Newest, Old, Whence, acting_one, acts_one, both_member, closed_after, gives_in, member_pd, not_next, was_in, whence}
use Rattle.law_integrity.proofs.Secrets.{turn_same, turns_same}
use Rattle.law_integrity.proofs.Homes.{AreHomed, reached_homed, receiver_there}
use Rattle.law_integrity.proofs.Resting.{acts_in, first_after, IsMadeNow, holds_made, rest_after, second_after}

-- BOTH STAY CLOSED

still_disjoint : (k : KernelState) (S T : ℕ → Type 0) (cpu : ℕ) → AreSeparate k S T → (n : ℕ) → more k S cpu n → more k T cpu n → ⊥
still_disjoint k S T cpu apart n (inl a) (inl b) = apart.disjoint n a b
still_disjoint k S T cpu apart n (inl a) (inr b) = not_next k n (apart.first.there n a) b.number
still_disjoint k S T cpu apart n (inr a) (inl b) = not_next k n (apart.second.there n b) a.number
still_disjoint k S T cpu apart n (inr a) (inr b) =
    both_member k S T b.maker apart.disjoint (subst (IsMember k S) (acts_one k cpu a.maker b.maker a.acts b.acts) a.of) b.of

pub separate_after : (s : Scenario) (before : List ℕ) (S T : ℕ → Type 0) (cpu : ℕ) → AreSeparate (run (boot s) before) S T →
    AreSeparate (after (run (boot s) before) cpu) (more (run (boot s) before) S cpu) (more (run (boot s) before) T cpu)
separate_after s before S T cpu apart = record {
  first = closed_after (run (boot s) before) S cpu (first_after s before S T cpu apart);
  second = closed_after (run (boot s) before) T cpu (second_after s before S T cpu apart);
  disjoint = still_disjoint (run (boot s) before) S T cpu apart;
  rest = rest_after s before S T cpu apart;
}

-- what each turn takes from the state before it, all turns take from the first
pub separate_along : (s : Scenario) (before turns : List ℕ) (S T : ℕ → Type 0) → AreSeparate (run (boot s) before) S T →
    AreSeparate (run (run (boot s) before) turns) (grown (run (boot s) before) S turns) (grown (run (boot s) before) T turns)
separate_along s before [] S T apart = apart
separate_along s before (cpu ∷ turns) S T apart =
    let k = run (boot s) before in
    let next : run (boot s) (before ++ cpu ∷ []) ≡ after k cpu = run_append (boot s) before (cpu ∷ []) in
    subst (λ (l : KernelState). AreSeparate (run l turns) (grown l (more k S cpu) turns) (grown l (more k T cpu) turns)) next
    (separate_along s (before ++ cpu ∷ []) turns (more k S cpu) (more k T cpu)
    (subst (λ (l : KernelState). AreSeparate l (more k S cpu) (more k T cpu)) (sym next) (separate_after s before S T cpu apart)))

-- WHAT THEY REACH

reach_before : (k : KernelState) (S : ℕ → Type 0) (cpu right frame : ℕ) → IsAfter k S cpu → AreHomed k → Reach (after k cpu) (more k S cpu) right frame → Reach k S right frame
reach_before k S cpu right frame a homed r = by_whence (whence k cpu r.derivation a.sound.forest r.there)
  where
    by_whence : Whence k cpu r.derivation → Reach k S right frame
    by_whence (Old there) = record {
      derivation = r.derivation;
      there = there;
      of = was_in k S cpu r.derivation.pd (homed.holders r.derivation there) r.of;
      kind = r.kind;
      leads = r.leads;
      allowed = r.allowed;
    }
    by_whence (Newest ec acts_ object first objects) = absurd (let none : Mem ≡ Obj = sym r.kind ∙ first.kind in cc)
    by_whence (Child ec acts_ source there within gives) = by_side (a.sides ec acts_).0
      where
        of : S r.derivation.pd
        of = was_in k S cpu r.derivation.pd (receiver_there k ec source.pd r.derivation.pd a.sound homed (acting_one k cpu ec acts_) gives) r.of

        by_side : IsMember k S ec ⊎ IsAway k S ec → Reach k S right frame
        by_side (inl m) = record {
          derivation = source;
          there = there;
          of = (gives_in k S ec source.pd r.derivation.pd a.sound a.closed (acting_one k cpu ec acts_) m gives).0;
          kind = sym within.kind ∙ r.kind;
          leads =
              let first = within.first in
              let last = within.last in
              let low = r.leads.first in
              let high = r.leads.last in record { first = omega (arith, first, low); last = omega (arith, last, high) };
          allowed = within.rights right r.allowed;
        }
        by_side (inr away) = absurd (away.gives source.pd r.derivation.pd gives of)

pub reach_along : (s : Scenario) (before turns : List ℕ) (S T : ℕ → Type 0) (right frame : ℕ) → AreSeparate (run (boot s) before) S T →
    Reach (run (run (boot s) before) turns) (grown (run (boot s) before) S turns) right frame → Reach (run (boot s) before) S right frame
reach_along s before [] S T right frame apart r = r
reach_along s before (cpu ∷ turns) S T right frame apart r =
    let k = run (boot s) before in
    let next : run (boot s) (before ++ cpu ∷ []) ≡ after k cpu = run_append (boot s) before (cpu ∷ []) in
    reach_before k S cpu right frame (first_after s before S T cpu apart) (reached_homed s before)
    (subst (λ (l : KernelState). Reach l (more k S cpu) right frame) next
    (reach_along s (before ++ cpu ∷ []) turns (more k S cpu) (more k T cpu) right frame
    (subst (λ (l : KernelState). AreSeparate l (more k S cpu) (more k T cpu)) (sym next) (separate_after s before S T cpu apart))
    (subst (λ (l : KernelState). Reach (run l turns) (grown l (more k S cpu) turns) right frame) (sym next) r)))

-- one turn more, before them
earlier : (k : KernelState) (S : ℕ → Type 0) (cpu object : ℕ) (turns : List ℕ) → IsMadeAlong (after k cpu) (more k S cpu) turns object → IsMadeAlong k S (cpu ∷ turns) object
earlier k S cpu object turns m =
    record { before = cpu ∷ m.before; cpu = m.cpu; later = m.later; whole = ap (λ (l : List ℕ). cpu ∷ l) m.whole; maker = m.maker; acts = m.acts; of = m.of; number = m.number }

pub holds_along : (s : Scenario) (before turns : List ℕ) (S T : ℕ → Type 0) (right object : ℕ) → AreSeparate (run (boot s) before) S T →
    Holds (run (run (boot s) before) turns) (grown (run (boot s) before) S turns) right object →
    Holds (run (boot s) before) S right object ⊎ IsMadeAlong (run (boot s) before) S turns object
holds_along s before [] S T right object apart r = inl r
holds_along s before (cpu ∷ turns) S T right object apart r =
    let k = run (boot s) before in
    let next : run (boot s) (before ++ cpu ∷ []) ≡ after k cpu = run_append (boot s) before (cpu ∷ []) in
    elim (subst (λ (l : KernelState). Holds l (more k S cpu) right object ⊎ IsMadeAlong l (more k S cpu) turns object) next
    (holds_along s (before ++ cpu ∷ []) turns (more k S cpu) (more k T cpu) right object
    (subst (λ (l : KernelState). AreSeparate l (more k S cpu) (more k T cpu)) (sym next) (separate_after s before S T cpu apart))
    (subst (λ (l : KernelState). Holds (run l turns) (grown l (more k S cpu) turns) right object) (sym next) r))) [
      | inl h ↦ by_turn k (holds_made k S cpu right object (first_after s before S T cpu apart) (reached_homed s before) h)
      | inr later ↦ inr (earlier k S cpu object turns later)
    ]
  where
    by_turn : (k : KernelState) → Holds k S right object ⊎ IsMadeNow k S cpu object → Holds k S right object ⊎ IsMadeAlong k S (cpu ∷ turns) object
    by_turn k (inl h) = inl h
    by_turn k (inr now) = inr (record { before = []; cpu = cpu; later = turns; whole = refl; maker = now.maker; acts = now.acts; of = now.of; number = now.number })

-- THE TURNS OF A SET

pub reach_of : (k : KernelState) (S : ℕ → Type 0) (ec page right frame : ℕ) → IsMember k S ec → PageLeadsTo k (pd_of k ec) page right frame → Reach k S right frame
reach_of k S ec page right frame m l =
    let from = l.place.from_base in
    let before_end = l.place.before_end in
    let leads = l.leads in
    record {
      derivation = l.derivation;
      there = l.there;
      of = subst S (sym l.holder) (member_pd k S ec m);
      kind = l.kind;
      leads = record { first = omega (arith, leads); last = omega (arith, from, before_end, leads) };
      allowed = l.allowed;
    }

pub set_stores : (s : Scenario) (before turns : List ℕ) (S T : ℕ → Type 0) (cpu ec frame : ℕ) → AreSeparate (run (boot s) before) S T →
    Acts (run (run (boot s) before) turns) cpu ec → IsMember (run (run (boot s) before) turns) (grown (run (boot s) before) S turns) ec →
    (Reach (run (boot s) before) S write_right frame → ⊥) →
    slice_get (after (run (run (boot s) before) turns) cpu).memory.ram frame ≡ slice_get (run (run (boot s) before) turns).memory.ram frame
set_stores s before turns S T cpu ec frame apart acts_ m none =
    let k = run (boot s) before in
    let l : KernelState = run k turns in
    subst (λ (l : KernelState). slice_get (after l cpu).memory.ram frame ≡ slice_get l.memory.ram frame) (run_append (boot s) before turns)
    (frames_of s (before ++ turns) cpu frame (subst (λ (l : KernelState). (e page : ℕ) → Acts l cpu e → PageLeadsTo l (pd_of l e) page write_right frame → ⊥) (sym (run_append (boot s) before turns))
    (λ e page its leads. none (reach_along s before turns S T write_right frame apart
    (reach_of l (grown k S turns) e page write_right frame (subst (IsMember l (grown k S turns)) (acts_one l cpu ec e acts_ its) m) leads)))))

pub set_hidden : (s : Scenario) (before turns : List ℕ) (S T : ℕ → Type 0) (cpu ec frame : ℕ) → AreSeparate (run (boot s) before) S T →
    Acts (run (run (boot s) before) turns) cpu ec → IsMember (run (run (boot s) before) turns) (grown (run (boot s) before) S turns) ec →
    ((right : ℕ) → Reach (run (boot s) before) S right frame → ⊥) → (e : ℕ) → Acts (run (run (boot s) before) turns) cpu e →
    IsHidden (run (run (boot s) before) turns) (pd_of (run (run (boot s) before) turns) e) frame
set_hidden s before turns S T cpu ec frame apart acts_ m none e its = record { unread = λ page l. by_right read_right page l; unwritten = λ page l. by_right write_right page l; unexecuted = λ page l. by_right execute_right page l }
  where
    by_right : (right page : ℕ) → PageLeadsTo (run (run (boot s) before) turns) (pd_of (run (run (boot s) before) turns) e) page right frame → ⊥
    by_right right page l = none right (reach_along s before turns S T right frame apart
        (reach_of (run (run (boot s) before) turns) (grown (run (boot s) before) S turns) e page right frame
        (subst (IsMember (run (run (boot s) before) turns) (grown (run (boot s) before) S turns)) (acts_one (run (run (boot s) before) turns) cpu ec e acts_ its) m) l))

-- BYTES THAT A SET DOESN'T REACH

-- a turn in which one of the set's acts is the same over other bytes
pub turn_blind : (s : Scenario) (before turns : List ℕ) (S T : ℕ → Type 0) (cpu ec frame : ℕ) (bytes : List ℕ) → AreSeparate (run (boot s) before) S T →
    Acts (run (run (boot s) before) turns) cpu ec → IsMember (run (run (boot s) before) turns) (grown (run (boot s) before) S turns) ec →
    ((right : ℕ) → Reach (run (boot s) before) S right frame → ⊥) →
    after (with_bytes (run (run (boot s) before) turns) frame bytes) cpu ≡ with_bytes (after (run (run (boot s) before) turns) cpu) frame bytes
turn_blind s before turns S T cpu ec frame bytes apart acts_ m none =
    turn_same (run (run (boot s) before) turns) cpu frame bytes (set_hidden s before turns S T cpu ec frame apart acts_ m none)

hidden_from : (s : Scenario) (before turns : List ℕ) (S T : ℕ → Type 0) (frame : ℕ) → AreSeparate (run (boot s) before) S T → OnlyOf (run (boot s) before) S turns →
    ((right : ℕ) → Reach (run (boot s) before) S right frame → ⊥) → IsHiddenAlong (run (boot s) before) turns frame
hidden_from s before [] S T frame apart only none = tt
hidden_from s before (cpu ∷ turns) S T frame apart only none =
    let k = run (boot s) before in
    let next : run (boot s) (before ++ cpu ∷ []) ≡ after k cpu = run_append (boot s) before (cpu ∷ []) in (
      λ ec acts_. set_hidden s before [] S T cpu ec frame apart acts_ (only.0 ec acts_) none ec acts_,
      subst (λ (l : KernelState). IsHiddenAlong l turns frame) next
          (hidden_from s (before ++ cpu ∷ []) turns (more k S cpu) (more k T cpu) frame
          (subst (λ (l : KernelState). AreSeparate l (more k S cpu) (more k T cpu)) (sym next) (separate_after s before S T cpu apart))
          (subst (λ (l : KernelState). OnlyOf l (more k S cpu) turns) (sym next) only.1)
          (λ right r. none right (reach_before k S cpu right frame (first_after s before S T cpu apart) (reached_homed s before)
          (subst (λ (l : KernelState). Reach l (more k S cpu) right frame) next r)))),
    )

pub turns_blind : (s : Scenario) (before turns : List ℕ) (S T : ℕ → Type 0) (frame : ℕ) (bytes : List ℕ) → AreSeparate (run (boot s) before) S T → OnlyOf (run (boot s) before) S turns →
    ((right : ℕ) → Reach (run (boot s) before) S right frame → ⊥) →
    run (with_bytes (run (boot s) before) frame bytes) turns ≡ with_bytes (run (run (boot s) before) turns) frame bytes
turns_blind s before turns S T frame bytes apart only none =
    turns_same (run (boot s) before) turns frame bytes (hidden_from s before turns S T frame apart only none)

-- in whatever turn that follows, the context that acts is of one of the sets
pub acts_along : (s : Scenario) (before turns : List ℕ) (S T : ℕ → Type 0) (cpu ec : ℕ) → AreSeparate (run (boot s) before) S T → Acts (run (run (boot s) before) turns) cpu ec →
    IsMember (run (run (boot s) before) turns) (grown (run (boot s) before) S turns) ec ⊎ IsMember (run (run (boot s) before) turns) (grown (run (boot s) before) T turns) ec
acts_along s before turns S T cpu ec apart acts_ =
    acts_in (run (run (boot s) before) turns) (grown (run (boot s) before) S turns) (grown (run (boot s) before) T turns) cpu ec (separate_along s before turns S T apart) acts_

-- two closed sets are one
pub closed_together : (k : KernelState) (S T U : ℕ → Type 0) → ((n : ℕ) → S n → U n) → ((n : ℕ) → T n → U n) → ((n : ℕ) → U n → S n ⊎ T n) → IsClosed k S → IsClosed k T → IsClosed k U
closed_together k S T U left right split a b = record {
  there = λ n u. there n (split n u);
  capabilities = λ d has u kind. capabilities d has kind (split d.pd u);
  edges = λ waiter handler is m. edges waiter handler is m (split m.domain m.of);
  firsts = λ ec new is m. firsts ec new is m (split m.domain m.of);
}
  where
    member : (R : ℕ → Type 0) (ec : ℕ) → ((n : ℕ) → R n → U n) → IsMember k R ec → IsMember k U ec
    member R ec more_ m = record { domain = m.domain; cpu = m.cpu; kind = m.kind; event = m.event; object = m.object; of = more_ m.domain m.of }

    its : (R : ℕ → Type 0) (ec : ℕ) (m : IsMember k U ec) → R m.domain → IsMember k R ec
    its R ec m r = record { domain = m.domain; cpu = m.cpu; kind = m.kind; event = m.event; object = m.object; of = r }

    owned : (R : ℕ → Type 0) (n : ℕ) (o : Option Object) → ((n : ℕ) → R n → U n) → IsOwned k R n o → IsOwned k U n o
    owned R n None more_ h = tt
    owned R n (Some Pd) more_ h = more_ n h
    owned R n (Some (Ec pd cpu kind event)) more_ h = more_ pd h
    owned R n (Some (Sc donor cpu priority quantum)) more_ h = member R donor more_ h
    owned R n (Some (Pt handler mtd ip)) more_ h = member R handler more_ h
    owned R n (Some Sm) more_ h = tt

    there : (n : ℕ) → S n ⊎ T n → slice_get k.objects n ≡ Some Pd
    there n (inl s) = a.there n s
    there n (inr t) = b.there n t

    capabilities : (d : Derivation) → Contains k.delegations.list d → d.kind ≡ Obj → S d.pd ⊎ T d.pd → IsOwned k U d.target (slice_get k.objects d.target)
    capabilities d has kind (inl s) = owned S d.target (slice_get k.objects d.target) left (a.capabilities d has s kind)
    capabilities d has kind (inr t) = owned T d.target (slice_get k.objects d.target) right (b.capabilities d has t kind)

    edges : (waiter handler : ℕ) → edge k.contexts waiter ≡ Some handler → (m : IsMember k U handler) → S m.domain ⊎ T m.domain → IsMember k U waiter
    edges waiter handler is m (inl s) = member S waiter left (a.edges waiter handler is (its S handler m s))
    edges waiter handler is m (inr t) = member T waiter right (b.edges waiter handler is (its T handler m t))

    firsts : (ec new : ℕ) → (context k ec).state ≡ Granting (Some new) → (m : IsMember k U ec) → S m.domain ⊎ T m.domain → U new
    firsts ec new is m (inl s) = left new (a.firsts ec new is (its S ec m s))
    firsts ec new is m (inr t) = right new (b.firsts ec new is (its T ec m t))

pub tests_together : (k : KernelState) (S T : ℕ → Bool) → IsClosed k (Of S) → IsClosed k (Of T) → IsClosed k (Of (λ n. S n || T n))
tests_together k S T = closed_together k (Of S) (Of T) (Of (λ n. S n || T n)) (λ n s. from_left (S n) (T n) s) (λ n t. from_right (S n) (T n) t) (λ n u. either_true (S n) (T n) u)
  where
    from_left : (a b : Bool) → a ≡ true → (a || b) ≡ true
    from_left true b h = refl
    from_left false b h = absurd (cc)

    from_right : (a b : Bool) → b ≡ true → (a || b) ≡ true
    from_right true b h = refl
    from_right false b h = h

    either_true : (a b : Bool) → (a || b) ≡ true → (a ≡ true) ⊎ (b ≡ true)
    either_true true b h = inl refl
    either_true false b h = inr h
