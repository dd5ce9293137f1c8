-- The context that acts in a turn, and what the turn does to objects and delegations.
use Rattle.std.proofs.Common.{◌≡◌, ℕ, zero, suc, ◌<◌, List, [], ◌∷◌, ◌++◌, length, ap, sym, ◌∙◌, subst, refl, arith}
use Rattle.std.specs.Prelude.{true, false, slice_get, Option, Some, None, option_map}
use Rattle.std.proofs.lemmas.Option.{same_Some, slice_get_within}
use Rattle.law_forest.specs.Effects.{branch_by, branched, joined, made_by}
use Rattle.law_forest.specs.Turns.{Acts as Chosen, Idles, Takes, acting, turned, Passes}
use Rattle.law_forest.proofs.Turning.{comes, idle_none, passing_none}
use Rattle.nova_guest.specs.declared.input.Input.{Input}
use Rattle.law_isolation.specs.Sound.{IsSound, IsVirtual}
use Rattle.law_forest.proofs.Actors.{chosen_input, of_input, who_acts}
use Rattle.law_turns.proofs.TablesFit.{chosen_acts}
use Rattle.law_turns.proofs.Serving.{IsActor, actor_of}
use Rattle.nova_model.specs.Capabilities.{is_vcpu}
use Rattle.nova_model.specs.Choice.{Candidate}
use Rattle.nova_model.specs.Creation.{object_of}
use Rattle.nova_model.specs.Deeds.{deed}
use Rattle.nova_model.specs.Edges.{acts, is_dead, is_free, state_in}
use Rattle.nova_model.specs.Guests.{input}
use Rattle.nova_model.specs.Inputs.{input_of}
use Rattle.nova_model.specs.Runs.{after}
use Rattle.nova_model.specs.State.{Contexts, KernelState, context, context_in, ec_in, ec_of, entry}
use Rattle.nova_model.specs.declared.context.EcState.{EcState}
use Rattle.nova_model.specs.declared.context.State.{State}
use Rattle.nova_model.specs.declared.context.State.TheVariants.{Dead}
use Rattle.nova_objects.specs.declared.object.Object.{Object}
use Rattle.law_origins.specs.Giving.{Acts}
use Rattle.law_origins.proofs.Coming.{IsSpecial}

-- WHICH CONTEXT ACTS

pub is_able : (k : KernelState) (cpu ec : ℕ) → Acts k cpu ec → acts k.contexts ec ≡ true
is_able k cpu ec is = who_acts (λ n. acts k.contexts n ≡ true) k cpu ec is (λ c chosen. chosen_acts k cpu c chosen)

awake_lives : (s : State) → is_free (Some s) ≡ false → is_dead (Some s) ≡ false
awake_lives Dead h = absurd (cc)
awake_lives other h = refl

pub actor_lives : (k : KernelState) (cpu ec : ℕ) → Acts k cpu ec → is_dead (state_in k.contexts ec) ≡ false
actor_lives k cpu ec is =
    let actor : IsActor k.contexts ec = actor_of k.contexts ec (is_able k cpu ec is) in
    ap (λ (o : Option EcState). is_dead (option_map (λ x. x.state) o)) actor.there ∙ awake_lives (ec_of k.contexts ec).state actor.awake

pub input_is : (k : KernelState) (cpu ec g : ℕ) → Acts k cpu ec → input k cpu g ≡ input_of k ec g (deed k ec)
input_is k cpu ec g is = who_acts (λ n. input k cpu g ≡ input_of k n g (deed k n)) k cpu ec is (λ c chosen. chosen_input k cpu g c chosen)

-- some context acts in the turn of an input
pub some_acts : (k : KernelState) (cpu g : ℕ) (i : Input) → input k cpu g ≡ Some i → (ec : ℕ) × Acts k cpu ec
some_acts k cpu g i is =
    of_input (λ o. o ≡ Some i → (ec : ℕ) × Acts k cpu ec) k cpu g (λ h. absurd (cc)) (λ c chosen h. (c.actor, ap (option_map (λ x. x.actor)) chosen)) is

-- WHAT IT DOES

pub record IsDone (k new : KernelState) (ec : ℕ) : Type 0 where
  pub objects : new.objects ≡ joined k.objects (option_map object_of (made_by (deed k ec)))
  pub delegations : new.delegations ≡ branched k.delegations (branch_by k ec (deed k ec))

turned_done : (k : KernelState) (cpu : ℕ) (c : Candidate) → IsDone k (turned k cpu (acting k c)) c.actor
turned_done k cpu c = record { objects = refl; delegations = refl }

pub is_done : (k : KernelState) (cpu ec : ℕ) → Acts k cpu ec → IsDone k (after k cpu) ec
is_done k cpu ec is = elim (comes k cpu) [
  | Idles none moment same answer ↦ absurd (let h : None ≡ Some ec = ap (option_map (λ c. c.actor)) (sym (idle_none k cpu none)) ∙ is in cc)
  | Takes t e takes state answer ↦ elim takes [
    | Chosen c chosen its event ↦ subst (IsDone k (after k cpu)) (same_Some c.actor ec (ap (option_map (λ c. c.actor)) (sym chosen) ∙ is))
        (subst (λ (s : KernelState). IsDone k s c.actor) (sym (state ∙ ap (turned k cpu) its)) (turned_done k cpu c))
    | Passes p due its event ↦ absurd (let h : None ≡ Some ec = ap (option_map (λ c. c.actor)) (sym (passing_none k cpu p due)) ∙ is in cc)
  ]
]

-- OBJECTS STAY

pub objects_after : (k : KernelState) (cpu : ℕ) → (o : Option Object) × ((after k cpu).objects ≡ joined k.objects o)
objects_after k cpu = elim (comes k cpu) [
  | Idles none moment same answer ↦ (None, ap (λ (s : KernelState). s.objects) same)
  | Takes t e takes state answer ↦ (option_map object_of t.effect.made, ap (λ (s : KernelState). s.objects) state)
]

get_joined : (xs : List Object) (o : Option Object) (n : ℕ) → n < length xs → slice_get (joined xs o) n ≡ slice_get xs n
get_joined xs None n h = refl
get_joined [] (Some x) n h = absurd (omega (arith, h))
get_joined (y ∷ xs) (Some x) zero h = refl
get_joined (y ∷ xs) (Some x) (suc n) h = get_joined xs (Some x) n (omega (arith, h))

pub object_stays : (k : KernelState) (cpu n : ℕ) → n < length k.objects → slice_get (after k cpu).objects n ≡ slice_get k.objects n
object_stays k cpu n h = let o = objects_after k cpu in ap (λ (os : List Object). slice_get os n) o.1 ∙ get_joined k.objects o.0 n h

pub last_object : (objects : List Object) (o : Object) → slice_get (objects ++ o ∷ []) (length objects) ≡ Some o
last_object [] o = refl
last_object (x ∷ objects) o = last_object objects o

-- a context in a special state, and a context that acts, is there
special_there : (cs : Contexts) (n : ℕ) (s : State) → IsSpecial s → (ec_of cs n).state ≡ s → n < length cs
special_there cs n s special is = by_entry (slice_get cs n) refl (subst IsSpecial (sym is) special)
  where
    by_entry : (o : Option (Option EcState)) → slice_get cs n ≡ o → IsSpecial (context_in (entry o)).state → n < length cs
    by_entry (Some x) at h = slice_get_within cs n x at
    by_entry None at h = absurd h

pub special_object : (k : KernelState) (n : ℕ) (s : State) → IsSound k → IsSpecial s → (context k n).state ≡ s → n < length k.objects
special_object k n s sound special is = let within = special_there k.contexts n s special is in let same = sound.whole.places in omega (arith, within, same)

pub there_within : (cs : Contexts) (n : ℕ) (x : EcState) → ec_in cs n ≡ Some x → n < length cs
there_within cs n x is = by_entry (slice_get cs n) refl is
  where
    by_entry : (o : Option (Option EcState)) → slice_get cs n ≡ o → entry o ≡ Some x → n < length cs
    by_entry (Some y) at h = slice_get_within cs n y at
    by_entry None at h = absurd (cc)

pub actor_object : (k : KernelState) (cpu ec : ℕ) → IsSound k → Acts k cpu ec → ec < length k.objects
actor_object k cpu ec sound is =
    let actor : IsActor k.contexts ec = actor_of k.contexts ec (is_able k cpu ec is) in
    let within = there_within k.contexts ec (ec_of k.contexts ec) actor.there in
    let same = sound.whole.places in omega (arith, within, same)

pub was_virtual : (k : KernelState) (cpu n : ℕ) → n < length k.objects → IsVirtual (after k cpu) n → IsVirtual k n
was_virtual k cpu n h is = ap (option_map is_vcpu) (sym (object_stays k cpu n h)) ∙ is
