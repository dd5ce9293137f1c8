-- What leaves the view of a virtual CPU as it was.
use Rattle.std.proofs.Common.{◌≡◌, ℕ, zero, suc, ◌≢◌, List, [], ◌∷◌, ap, ap₂, ◌∙◌, subst, refl, arith}
use Rattle.std.specs.Prelude.{slice_get, slice_set, Option, Some, None, IsSome}
use Rattle.std.proofs.lemmas.Grind.{common_steps, elements}
use Rattle.std.proofs.lemmas.Option.{gets}
use Rattle.nova_guest.specs.declared.guest.Guest.{Guest}
use Rattle.nova_guest.specs.declared.map.Map.{Map}
use Rattle.nova_model.specs.Deeds.{with_context}
use Rattle.nova_model.specs.Inputs.{stirred}
use Rattle.nova_model.specs.State.{KernelState, Contexts, budget_at, context, context_at, context_in, ec_in, ec_of, entry, pd_in, pd_of, with_ec}
use Rattle.nova_model.specs.Turn.{charged, counted, paid_by, quantum_in}
use Rattle.nova_model.specs.Views.{guest_of, maps_of, view}
use Rattle.nova_model.specs.declared.budget.Budget.{Budget}
use Rattle.nova_model.specs.declared.context.EcState.{EcState}
use Rattle.nova_model.specs.declared.deed.Deed.{Deed}

-- tables
pub get_set_other : {T : Type 0} (xs : List T) (i j : ℕ) (x : T) → i ≢ j → slice_get (slice_set xs i x) j ≡ slice_get xs j
get_set_other xs i j x ne = grind (arith, common_steps, elements, gets)

pub ec_self : (cs : Contexts) (e : ℕ) (y : EcState) → IsSome (ec_in cs e) → ec_of (with_ec cs e y) e ≡ y
ec_self [] e y h = absurd (cc)
ec_self (z ∷ cs) zero y h = refl
ec_self (z ∷ cs) (suc e) y h = ec_self cs e y h

pub context_other : (k : KernelState) (e g : ℕ) (x : EcState) → e ≢ g → context (with_context k e x) g ≡ context k g
context_other k e g x ne = ap (λ o. context_in (entry o)) (get_set_other k.contexts e g (Some x) ne)

pub at_other : (k : KernelState) (e g : ℕ) (x : EcState) → e ≢ g → context_at (with_context k e x) g ≡ context_at k g
at_other k e g x ne = ap entry (get_set_other k.contexts e g (Some x) ne)

pub context_self : (k : KernelState) (e : ℕ) (y : EcState) → IsSome (context_at k e) → context (with_context k e y) e ≡ y
context_self k e y h = ec_self k.contexts e y h

-- a view is of four things
abbrev pub maps_at : KernelState → ℕ → List Map
maps_at k g = maps_of (pd_of k g) k.delegations.list

pub view_is : (k : KernelState) (g : ℕ) → view k g ≡ guest_of (context k g) (maps_at k g) k.memory.ram
unfolding view
view_is k g = refl

pub view_registers : (k : KernelState) (g : ℕ) → (view k g).regs ≡ (context k g).regs
view_registers k g = ap (λ (v : Guest). v.regs) (view_is k g)

pub record IsSeenSame (k new : KernelState) (g : ℕ) : Type 0 where
  pub own : context new g ≡ context k g
  pub object : slice_get new.objects g ≡ slice_get k.objects g
  pub maps : maps_of (pd_of k g) new.delegations.list ≡ maps_of (pd_of k g) k.delegations.list
  pub ram : new.memory.ram ≡ k.memory.ram

pub seen_same : (k new : KernelState) (g : ℕ) → IsSeenSame k new g → view new g ≡ view k g
unfolding view
seen_same k new g same =
    ap (λ (pd : ℕ). guest_of (context new g) (maps_of pd new.delegations.list) new.memory.ram) (ap pd_in same.object)
    ∙ (ap (λ (x : EcState). guest_of x (maps_of (pd_of k g) new.delegations.list) new.memory.ram) same.own
    ∙ ap₂ (λ (maps : List Map) (ram : List (List ℕ)). guest_of (context k g) maps ram) same.maps same.ram)

pub seen_self : (k : KernelState) (g : ℕ) → IsSeenSame k k g
seen_self k g = record { own = refl; object = refl; maps = refl; ram = refl }

pub seen_trans : (a b c : KernelState) (g : ℕ) → IsSeenSame a b g → IsSeenSame b c g → IsSeenSame a c g
seen_trans a b c g p q = record {
  own = q.own ∙ p.own;
  object = q.object ∙ p.object;
  maps = subst (λ (pd : ℕ). maps_of pd c.delegations.list ≡ maps_of pd b.delegations.list) (ap pd_in p.object) q.maps ∙ p.maps;
  ram = q.ram ∙ p.ram;
}

-- another's context is written
pub seen_context : (k : KernelState) (e g : ℕ) (x : EcState) → e ≢ g → IsSeenSame k (with_context k e x) g
seen_context k e g x ne = record { own = context_other k e g x ne; object = refl; maps = refl; ram = refl }

pub view_context : (k : KernelState) (e g : ℕ) (x : EcState) → e ≢ g → view (with_context k e x) g ≡ view k g
view_context k e g x ne = seen_same k (with_context k e x) g (seen_context k e g x ne)

-- its own is written
pub view_self : (k : KernelState) (g : ℕ) (y : EcState) → IsSome (context_at k g) → view (with_context k g y) g ≡ guest_of y (maps_at k g) k.memory.ram
view_self k g y there = view_is (with_context k g y) g ∙ ap (λ (x : EcState). guest_of x (maps_at k g) k.memory.ram) (context_self k g y there)

-- what is stirred and the charge
charged_seen : (k : KernelState) (g cpu sc quantum : ℕ) (b : Option Budget) → IsSeenSame k (counted (paid_by k sc quantum b) cpu) g
charged_seen k g cpu sc quantum None = record { own = refl; object = refl; maps = refl; ram = refl }
charged_seen k g cpu sc quantum (Some b) = record { own = refl; object = refl; maps = refl; ram = refl }

pub view_charged : (k : KernelState) (g cpu sc : ℕ) → view (charged k cpu sc) g ≡ view k g
unfolding charged
view_charged k g cpu sc = seen_same k (charged k cpu sc) g (charged_seen k g cpu sc (quantum_in (slice_get k.objects sc)) (budget_at k sc))

pub view_stirred : (k : KernelState) (ec : ℕ) (d : Deed) (after : KernelState) (g : ℕ) → view (stirred k ec d after) g ≡ view after g
view_stirred k ec d after g = seen_same after (stirred k ec d after) g (record { own = refl; object = refl; maps = refl; ram = refl })

-- and the log
pub log_charged : (k : KernelState) (cpu sc : ℕ) → (charged k cpu sc).memory ≡ k.memory
unfolding charged
log_charged k cpu sc = by_budget (budget_at k sc)
  where
    by_budget : (b : Option Budget) → (counted (paid_by k sc (quantum_in (slice_get k.objects sc)) b) cpu).memory ≡ k.memory
    by_budget None = refl
    by_budget (Some b) = refl
