-- A side that is partitioned off gives within itself, where none of it is amid a revoke.
use Rattle.std.proofs.Common.{◌≡◌, ℕ, refl, sym, ap, ◌∙◌, subst, inl, inr}
use Rattle.std.specs.Prelude.{Bool, true, is_some, slice_get, option_map, Option, Some, None}
use Rattle.nova_objects.specs.declared.object.Object.{Object}
use Rattle.nova_objects.specs.declared.object.Object.TheVariants.{Pd, Ec, Sc, Pt, Sm}
use Rattle.nova_range.specs.declared.range.Range.{Range}
use Rattle.nova_model.specs.Capabilities.{is_ec}
use Rattle.nova_model.specs.Deeds.{deed}
use Rattle.nova_model.specs.Edges.{is_giving}
use Rattle.nova_model.specs.State.{KernelState, context, context_at, context_in, entry, pd_in, pd_of}
use Rattle.nova_model.specs.declared.context.EcState.{EcState}
use Rattle.nova_model.specs.declared.context.State.TheVariants.{Revoking}
use Rattle.law_turns.proofs.Serving.{actor_of}
use Rattle.law_turns.proofs.TablesKept.{context_is}
use Rattle.law_isolation.specs.Sound.{IsSound}
use Rattle.law_origins.proofs.Actors.{is_able}
use Rattle.law_integrity.specs.Confined.{IsIdle, IsMember, Of}
use Rattle.law_integrity.specs.Rights.{Again, AtCall, GivesTo, IsAsking}
use Rattle.law_integrity.proofs.Confining.{acting_one, gives_in, member_pd}
use Rattle.law_turns.specs.Revoking.{is_revoking}
use Rattle.law_flow.specs.Flow.{AreAlike, DerivesWithin, IsAtWork, IsGivingWithin, IsPartitioned, IsSide, RevokesNothing, own_turn, IsCallAtWork}
use Rattle.law_flow.proofs.Pairs.{IsOwnDeed, own_one}
use Rattle.law_flow.proofs.Turns.{alike_itself, own_acts, own_is, own_there}
use Rattle.nova_calls.specs.Hypercalls.{call_of}
use Rattle.law_flow.proofs.Seeing.{Both, context_same, instruction_same, thread_same}

-- who acts is a member
pub own_member : (S : ℕ → Bool) (k : KernelState) (cpu ec sc : ℕ) → IsSound k → own_turn S k cpu ≡ Some (ec, sc) → IsMember k (Of S) ec
own_member S k cpu ec sc sound own = by_object (slice_get k.objects ec) refl kind (own_is S k cpu ec sc own).of
  where
    kind : option_map is_ec (slice_get k.objects ec) ≡ Some true
    kind = context_is k ec (ap is_some (actor_of k.contexts ec (is_able k cpu ec (own_acts S k cpu ec sc (own_is S k cpu ec sc own)))).there) sound.kept.tables

    by_object : (o : Option Object) → slice_get k.objects ec ≡ o → option_map is_ec o ≡ Some true → S (pd_in o) ≡ true → IsMember k (Of S) ec
    by_object (Some (Ec pd its sort event)) is h s = record { domain = pd; cpu = its; kind = sort; event = event; object = is; of = s }
    by_object (Some Pd) is h s = absurd (cc)
    by_object (Some (Sc donor its priority quantum)) is h s = absurd (cc)
    by_object (Some (Pt handler mtd ip)) is h s = absurd (cc)
    by_object (Some Sm) is h s = absurd (cc)
    by_object None is h s = absurd (cc)

-- and so are the domains between which it gives
pub gives_between : (S P : ℕ → Bool) (T : ℕ → Type 0) (k : KernelState) (cpu ec sc : ℕ) → IsSound k → IsPartitioned k (Of S) T (Of P) → own_turn S k cpu ≡ Some (ec, sc) → (giver receiver : ℕ) → GivesTo k ec giver receiver →
    Of S giver × Of S receiver
gives_between S P T k cpu ec sc sound c own giver receiver gives =
    gives_in k (Of S) ec giver receiver sound c.apart.separate.first (acting_one k cpu ec (own_acts S k cpu ec sc (own_is S k cpu ec sc own))) (own_member S k cpu ec sc sound own) gives

there_by : (o : Option EcState) (range : Range) (own : Bool) → (context_in o).state ≡ Revoking range own → (x : EcState) × (o ≡ Some x) × (x.state ≡ Revoking range own)
there_by None range own is = absurd (cc)
there_by (Some x) range own is = (x, refl, is)

pub within_partition : (S P : ℕ → Bool) (T : ℕ → Type 0) (k : KernelState) (cpu ec sc : ℕ) → IsSound k → IsPartitioned k (Of S) T (Of P) → own_turn S k cpu ≡ Some (ec, sc) →
    RevokesNothing k (Of S) → IsGivingWithin k (Of S) ec
within_partition S P T k cpu ec sc sound c own none = record {
  between = gives_between S P T k cpu ec sc sound c own;
  unrevoked = record {
    own = none;
    lines = λ n range its d a state there s above same.
        let x = there_by (context_at k n) range its state in
        elim (c.apart.separate.rest n x.0 x.1) [
          | inl idle ↦ subst (IsIdle k (Of S) T n) x.2 idle
          | inr sides ↦ elim sides [
            | inl m ↦ none n range its state (member_pd k (Of S) n m)
            | inr m ↦ c.guarded.lines d a there s above (subst T (sym same) (member_pd k T n m))
          ]
        ];
  };
}

-- nobody of it is amid a revoke in a second state, if nobody is in the first
pub revokes_second : (k l : KernelState) (S P : ℕ → Bool) → AreAlike k l (Of S) (Of P) → IsSound l → IsSide l (Of S) (Of P) → RevokesNothing k (Of S) → RevokesNothing l (Of S)
revokes_second k l S P a sound side none n range own state s =
    let x = there_by (context_at l n) range own state in
    let kind : option_map is_ec (slice_get l.objects n) ≡ Some true = context_is l n (ap is_some x.1) sound.kept.tables in
    let p : P n ≡ true = by_object (slice_get l.objects n) refl kind s in
    let mine : S (pd_of k n) ≡ true = subst (λ (o : Option Object). S (pd_in o) ≡ true) (a.objects n p) s in
    none n range own (sym (ap (λ (o : Option (Option EcState)). (context_in (entry o)).state) (a.contexts n p mine)) ∙ state) mine
  where
    by_object : (o : Option Object) → slice_get l.objects n ≡ o → option_map is_ec o ≡ Some true → S (pd_in o) ≡ true → P n ≡ true
    by_object (Some (Ec pd its sort event)) is h t = side.members n pd its sort event is t
    by_object (Some Pd) is h t = absurd (cc)
    by_object (Some (Sc donor its priority quantum)) is h t = absurd (cc)
    by_object (Some (Pt handler mtd ip)) is h t = absurd (cc)
    by_object (Some Sm) is h t = absurd (cc)
    by_object None is h t = absurd (cc)

-- what it does in its turn
pub own_at : (timed revoking creating : Type 0) (S P : ℕ → Bool) (T : ℕ → Type 0) (k : KernelState) (cpu ec sc : ℕ) → IsSound k → IsPartitioned k (Of S) T (Of P) → own_turn S k cpu ≡ Some (ec, sc) →
    IsAtWork timed (RevokesNothing k (Of S)) revoking creating k ec → (revoking → DerivesWithin k (Of S)) → IsOwnDeed timed creating k (Of S) (Of P) (deed k ec)
own_at timed revoking creating S P T k cpu ec sc sound c own works within =
    let its = own_is S k cpu ec sc own in
    own_one timed (RevokesNothing k (Of S)) revoking creating k (Of S) (Of P) (record { side = c.side; alike = alike_itself k S P; first = sound.kept.edges; second = sound.kept.edges }) sound.forest ec
    (own_there S k (Of P) cpu ec sc sound c.side its) its.of works (gives_between S P T k cpu ec sc sound c own) within

-- THE SAME TURN

-- it is one at work in a second state, too
pub works_too : (timed giving further revoking creating : Type 0) (k l : KernelState) (S P : ℕ → Type 0) → Both k l S P → (ec : ℕ) → P ec → S (pd_of k ec) → (giving → further) →
    IsAtWork timed giving revoking creating k ec → IsAtWork timed further revoking creating l ec
works_too timed giving further revoking creating k l S P b ec p s f works = record {
  calls = λ asks_. subst (λ (x : EcState). IsCallAtWork timed revoking creating (call_of x.regs)) (sym (context_same k l S P b ec p s)) (works.calls (by_asks asks_));
  gives = λ is. f (works.gives (sym (ap is_giving state) ∙ is));
  revokes = λ is. works.revokes (sym (ap is_revoking state) ∙ is);
}
  where
    state : (context l ec).state ≡ (context k ec).state
    state = ap (λ (x : EcState). x.state) (context_same k l S P b ec p s)

    by_asks : IsAsking l ec → IsAsking k ec
    by_asks (Again handler is) = Again handler (sym state ∙ is)
    by_asks (AtCall c) = AtCall (record {
      state = sym state ∙ c.state;
      recall = sym (ap (λ (x : EcState). x.recall) (context_same k l S P b ec p s)) ∙ c.recall;
      thread = sym (thread_same k l S P b ec p) ∙ c.thread;
      q0 = c.q0;
      q1 = c.q1;
      raises = sym (instruction_same k l S P b ec p s) ∙ c.raises;
    })
