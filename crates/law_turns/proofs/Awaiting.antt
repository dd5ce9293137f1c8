-- The caller that a handler serves waits for it, and a context that acts waits for none that lives.
use Rattle.std.proofs.Common.{◌≡◌, ℕ, refl, ap, ◌∙◌, sym, arith}
use Rattle.std.specs.Prelude.{◌≢◌, ◌==◌, Bool, true, false, Option, Some, None, IsSome, option_map, option_and_then}
use Rattle.nova_model.specs.Edges.{acts, acts_as, acts_by, caller_in, edge_of, is_dead, state_in}
use Rattle.nova_model.specs.State.{KernelState, Contexts, context, context_in, ec_in}
use Rattle.nova_model.specs.declared.context.EcState.{EcState}
use Rattle.nova_model.specs.declared.context.Mark.{Mark}
use Rattle.nova_model.specs.declared.context.State.{State}
use Rattle.nova_model.specs.declared.context.State.TheVariants.{Parked, Calling, Dead}
use Rattle.law_turns.specs.Links.{AreServed}

-- ENTRIES

pub caller_there : (o : Option EcState) (c : ℕ) (mark : Mark) → (context_in o).caller ≡ Some (c, mark) → option_and_then (λ y. y.caller) o ≡ Some (c, mark)
caller_there None c mark h = absurd (cc)
caller_there (Some x) c mark h = h

pub same_or_not : (e f : ℕ) (P : Type 0) → (e ≡ f → P) → (e ≢ f → P) → P
same_or_not e f P same other = by_test (e == f) refl
  where
    by_test : (t : Bool) → (e == f) ≡ t → P
    by_test true is = same (grind (arith, is))
    by_test false is = other (λ h. absurd (grind (arith, is, h)))

-- WHICH CONTEXTS ACT

pub acts_there : (cs : Contexts) (e : ℕ) → acts cs e ≡ true → IsSome (ec_in cs e)
acts_there cs e able = by_entry (ec_in cs e) able
  where
    by_entry : (o : Option EcState) → acts_as cs (option_map (λ y. y.state) o) ≡ true → IsSome o
    by_entry None h = absurd (cc)
    by_entry (Some x) h = refl

-- it waits only for a handler that is dead, and is not dead or parked
pub waits_dead : (cs : Contexts) (e h : ℕ) → acts cs e ≡ true → state_in cs e ≡ Some (Calling h) → is_dead (state_in cs h) ≡ true
waits_dead cs e h able is = sym (ap (acts_as cs) is) ∙ able

pub not_dead : (cs : Contexts) (e : ℕ) → acts cs e ≡ true → is_dead (state_in cs e) ≡ false
not_dead cs e able = by_state (state_in cs e) able
  where
    by_dead : (s : State) → acts_by s (option_and_then (state_in cs) (edge_of s)) ≡ true → is_dead (Some s) ≡ false
    by_dead Dead h = absurd (cc)
    by_dead other h = refl

    by_state : (o : Option State) → acts_as cs o ≡ true → is_dead o ≡ false
    by_state None h = refl
    by_state (Some s) h = by_dead s h

pub not_parked : (cs : Contexts) (e : ℕ) → acts cs e ≡ true → state_in cs e ≢ Some Parked
not_parked cs e able is = let stays = sym (ap (acts_as cs) is) ∙ able in absurd (cc)

-- WHICH CALLER A HANDLER SERVES

abbrev pub Serves : Contexts → Type 0
Serves cs = (e c : ℕ) (mark : Mark) → is_dead (state_in cs e) ≡ false → caller_in cs e ≡ Some (c, mark) → state_in cs c ≡ Some (Calling e)

pub serves_of : (is_local : ℕ → Bool) (cs : Contexts) → AreServed is_local cs → Serves cs
serves_of is_local cs served e c mark alive has = (served.linked c e).waits mark has alive

-- the caller that a context that acts serves
pub served_waits : (k : KernelState) (ec caller : ℕ) (mark : Mark) → acts k.contexts ec ≡ true → Serves k.contexts → (context k ec).caller ≡ Some (caller, mark) →
    state_in k.contexts caller ≡ Some (Calling ec)
served_waits k ec caller mark able serves has =
    serves ec caller mark (not_dead k.contexts ec able) (caller_there (ec_in k.contexts ec) caller mark has)
