-- What a deed leaves of the queues: the marks of one processor alone may be old, and those of none where the deed moves none.
use Rattle.std.proofs.Common.{◌≡◌, ℕ, ◌==◌, List, length, refl, ap, ap₂, sym, ◌∙◌, arith, IsSome}
use Rattle.std.proofs.lemmas.List.{length-set}
use Rattle.std.specs.List.{find}
use Rattle.std.specs.Prelude.{◌≢◌, Bool, true, false, Option, Some, None, option_map, slice_get}
use Rattle.nova_model.specs.Deeds.{with_context}
use Rattle.nova_model.specs.Edges.{AreEdges, cpu_in, edge, met_within, stays}
use Rattle.nova_model.specs.State.{Contexts, KernelState, budget_at, context, context_at, context_in, ec_in, ec_of, entry, with_ec}
use Rattle.nova_model.specs.declared.budget.Budget.{Budget}
use Rattle.nova_model.specs.declared.context.EcState.{EcState}
use Rattle.nova_objects.specs.declared.object.Object.{Object}
use Rattle.nova_objects.specs.declared.object.Object.TheVariants.{Pd, Ec, Sc, Pt, Sm}
use Rattle.nova_ec.specs.Changes.{AllStay}
use Rattle.nova_ec.proofs.Acting.{all_turns_stay}
use Rattle.nova_ec.proofs.Tables.{ec_in-set_other, ec_in-set_same}
use Rattle.nova_ec.proofs.Untouched.{others_stay_at, same_acts, turns_stay}
use Rattle.nova_ec.proofs.Donors.{same_state_keeps_chases}
use Rattle.nova_sched.specs.Queues.{Schedule}
use Rattle.nova_sched.specs.declared.queued.Queued.{Queued}
use Rattle.nova_choice.specs.Schedules.{AreQueued, AreQueuedBut, IsAtHome, but_for, leads, wanted_with}

-- MARKS THAT MAY BE OLD

abbrev pub is_stale : Option ℕ → ℕ → Bool
is_stale None cpu = false
is_stale (Some home) cpu = cpu == home

-- from the first table to the second, turns of all that have a processor stay but of those on the stale one, and processors stay
pub record LeadsBut (stale : Option ℕ) (cs ds : Contexts) : Type 0 where
  pub same : (ec cpu : ℕ) → cpu_in cs ec ≡ Some cpu → is_stale stale cpu ≡ false → leads ds ec ≡ leads cs ec
  pub homes : (ec cpu : ℕ) → cpu_in cs ec ≡ Some cpu → cpu_in ds ec ≡ Some cpu

-- nothing else changes that the queues are about
pub record KeepsQueued (stale : Option ℕ) (k new : KernelState) : Type 0 where
  pub contexts : LeadsBut stale k.contexts new.contexts
  pub objects : new.objects ≡ k.objects
  pub budgets : new.budgets ≡ k.budgets
  pub next_stamp : new.next_stamp ≡ k.next_stamp
  pub cpus : new.cpus ≡ k.cpus

-- an entry with another mark is the same but for the marks of its processor
but_for_mark : (home : ℕ) (e : Queued) (b c : Bool) → (e.cpu == home) ≡ true →
    but_for (Some home) (Some (record e { is_runnable = b })) ≡ but_for (Some home) (Some (record e { is_runnable = c }))
but_for_mark home e b c is = rw is refl

marks_but : (stale : Option ℕ) (e : Queued) (b c : Bool) → (is_stale stale e.cpu ≡ false → b ≡ c) →
    but_for stale (Some (record e { is_runnable = b })) ≡ but_for stale (Some (record e { is_runnable = c }))
marks_but None e b c same = ap (λ (t : Bool). Some (record e { is_runnable = t })) (same refl)
marks_but (Some home) e b c same = by_place (e.cpu == home) refl
  where
    by_place : (t : Bool) → (e.cpu == home) ≡ t → but_for (Some home) (Some (record e { is_runnable = b })) ≡ but_for (Some home) (Some (record e { is_runnable = c }))
    by_place true is = but_for_mark home e b c is
    by_place false is = ap (λ (t : Bool). but_for (Some home) (Some (record e { is_runnable = t }))) (same is)

pub wanted_but : (stale : Option ℕ) (cpus number : ℕ) (cs ds : Contexts) (o : Option Object) (b : Option Budget) → LeadsBut stale cs ds → IsAtHome cpus cs number o →
    but_for stale (wanted_with ds o b) ≡ but_for stale (wanted_with cs o b)
wanted_but stale cpus number cs ds (Some (Sc ec cpu priority quantum)) (Some b) kept home =
    marks_but stale (record { cpu = cpu; priority = priority; quantum = quantum; is_runnable = true; budget = b }) (leads ds ec) (leads cs ec)
    (λ fresh. kept.same ec cpu home.1 fresh)
wanted_but stale cpus number cs ds (Some (Sc ec cpu priority quantum)) None kept home = refl
wanted_but stale cpus number cs ds (Some Pd) b kept home = refl
wanted_but stale cpus number cs ds (Some (Ec pd cpu kind event)) b kept home = refl
wanted_but stale cpus number cs ds (Some (Pt ec mtd ip)) b kept home = refl
wanted_but stale cpus number cs ds (Some Sm) b kept home = refl
wanted_but stale cpus number cs ds None b kept home = refl

pub home_kept : (stale : Option ℕ) (cpus number : ℕ) (cs ds : Contexts) (o : Option Object) → LeadsBut stale cs ds → IsAtHome cpus cs number o → IsAtHome cpus ds number o
home_kept stale cpus number cs ds (Some (Ec pd cpu kind event)) kept home = (home.0, kept.homes number cpu home.1)
home_kept stale cpus number cs ds (Some (Sc ec cpu priority quantum)) kept home = (home.0, kept.homes ec cpu home.1)
home_kept stale cpus number cs ds (Some Pd) kept home = tt
home_kept stale cpus number cs ds (Some (Pt ec mtd ip)) kept home = tt
home_kept stale cpus number cs ds (Some Sm) kept home = tt
home_kept stale cpus number cs ds None kept home = tt

pub queued_kept : (stale : Option ℕ) (k new : KernelState) (s : Schedule) → AreQueued k s → KeepsQueued stale k new → AreQueuedBut stale new s
queued_kept stale k new s queued kept = record {
  cpus = rw kept.cpus queued.cpus;
  numbers = rw kept.objects queued.numbers;
  stamp = queued.stamp ∙ sym kept.next_stamp;
  entries = λ sc.
      ap (but_for stale) (queued.entries sc)
      ∙ sym (wanted_but stale s.cpus sc k.contexts new.contexts (slice_get k.objects sc) (budget_at k sc) kept.contexts (queued.homes sc))
      ∙ ap₂ (λ (os : List Object) (bs : List (Option Budget)). but_for stale (wanted_with new.contexts (slice_get os sc) (entry (slice_get bs sc)))) (sym kept.objects) (sym kept.budgets);
  homes = λ number. rw kept.objects (home_kept stale s.cpus number k.contexts new.contexts (slice_get k.objects number) kept.contexts (queued.homes number));
  owners = λ number. rw kept.objects (queued.owners number);
}

-- ONE EXECUTION CONTEXT CHANGES

pub there_at : (cs : Contexts) (ec : ℕ) → IsSome (ec_in cs ec) → ec_in cs ec ≡ Some (ec_of cs ec)
there_at cs ec there = by_place (ec_in cs ec) there
  where
    by_place : (o : Option EcState) → IsSome o → o ≡ Some (context_in o)
    by_place None some = absurd cc
    by_place (Some x) some = refl

-- processors stay
cpu_set : (cs : Contexts) (e n cpu : ℕ) (x y : EcState) → ec_in cs e ≡ Some x → y.cpu ≡ x.cpu → cpu_in cs n ≡ Some cpu → cpu_in (with_ec cs e y) n ≡ Some cpu
cpu_set cs e n cpu x y there same is = by_place (n == e) refl
  where
    by_place : (t : Bool) → (n == e) ≡ t → cpu_in (with_ec cs e y) n ≡ Some cpu
    by_place true at =
        let place : n ≡ e = grind (arith, at) in
        ap (cpu_in (with_ec cs e y)) place
        ∙ ap (option_map (λ (z : EcState). z.cpu)) (ec_in-set_same cs e x y there)
        ∙ ap Some same
        ∙ sym (ap (option_map (λ (z : EcState). z.cpu)) there)
        ∙ sym (ap (cpu_in cs) place)
        ∙ is
    by_place false at = ap (option_map (λ (z : EcState). z.cpu)) (ec_in-set_other cs e n (Some y) (λ same. absurd (grind (arith, at, same)))) ∙ is

-- it keeps its state, or it is on the stale processor
pub kept_steady : (cs : Contexts) (e : ℕ) (x y : EcState) → ec_in cs e ≡ Some x → y.cpu ≡ x.cpu → y.state ≡ x.state → LeadsBut None cs (with_ec cs e y)
kept_steady cs e x y there cpu same = record {
  same = λ ec home at fresh. same_acts cs (with_ec cs e y) ec (same_state_keeps_chases cs e ec x y there same);
  homes = λ ec home at. cpu_set cs e ec home x y there cpu at;
}

pub kept_moved : (cs : Contexts) (e : ℕ) (x y : EcState) → AreEdges cs → ec_in cs e ≡ Some x → y.cpu ≡ x.cpu → LeadsBut (Some x.cpu) cs (with_ec cs e y)
kept_moved cs e x y sound there cpu = record {
  same = λ ec home at fresh. same_acts cs (with_ec cs e y) ec (others_stay_at cs e ec home x y sound there at (λ is. absurd (grind (arith, fresh, is))));
  homes = λ ec home at. cpu_set cs e ec home x y there cpu at;
}

-- it acts before and after
pub acting : (cs : Contexts) (e : ℕ) (y : EcState) → IsSome (ec_in cs e) → y.cpu ≡ (ec_of cs e).cpu → AllStay cs (with_ec cs e y) → LeadsBut None cs (with_ec cs e y)
acting cs e y there cpu all = record {
  same = λ ec home at fresh. same_acts cs (with_ec cs e y) ec (all_turns_stay cs (with_ec cs e y) ec all);
  homes = λ ec home at. cpu_set cs e ec home (ec_of cs e) y (there_at cs e there) cpu at;
}

leads_self : (cs : Contexts) → LeadsBut None cs cs
leads_self cs = record { same = λ ec home at fresh. refl; homes = λ ec home at. at }

pub leads_twice : (stale : Option ℕ) (cs ds es : Contexts) → LeadsBut stale cs ds → LeadsBut stale ds es → LeadsBut stale cs es
leads_twice stale cs ds es first second = record {
  same = λ ec home at fresh. second.same ec home (first.homes ec home at) fresh ∙ first.same ec home at fresh;
  homes = λ ec home at. second.homes ec home (first.homes ec home at);
}

-- where no mark is old, none of one processor is
pub leads_any : (stale : Option ℕ) (cs ds : Contexts) → LeadsBut None cs ds → LeadsBut stale cs ds
leads_any stale cs ds kept = record { same = λ ec home at fresh. kept.same ec home at refl; homes = kept.homes }

-- TWO EXECUTION CONTEXTS OF ONE PROCESSOR CHANGE

-- a context that is there on a processor other than `home`
abbrev IsApart : Contexts → ℕ → ℕ → Type 0
IsApart cs home x = (cpu : ℕ) × (cpu_in cs x ≡ Some cpu) × ((cpu == home) ≡ false)

-- no edge leaves those of the other processors, so turns there stay where nothing of them changes
kept_apart : (cs ds : Contexts) (home : ℕ) → AreEdges cs → length ds ≡ length cs → ((x : ℕ) → IsApart cs home x → ec_in ds x ≡ ec_in cs x) →
    ((x cpu : ℕ) → cpu_in cs x ≡ Some cpu → cpu_in ds x ≡ Some cpu) → LeadsBut (Some home) cs ds
kept_apart cs ds home sound long same homes = record {
  same = λ ec cpu at fresh. same_acts cs ds ec
      (turns_stay cs ds (IsApart cs home) ec sound (record {
        states = λ x apart. ap (option_map (λ (z : EcState). z.state)) (same x apart);
        closed = λ x h apart leads. (apart.0, sound.one_processor x h leads ∙ apart.1, apart.2);
      }) (cpu, at, fresh) (ap (λ (n : ℕ). find (stays cs) (met_within n (edge cs) (Some ec))) long));
  homes = homes;
}

pub there_by_cpu : (cs : Contexts) (x cpu : ℕ) → cpu_in cs x ≡ Some cpu → IsSome (ec_in cs x)
there_by_cpu cs x cpu is = by_place (ec_in cs x) is
  where
    by_place : (o : Option EcState) → option_map (λ (y : EcState). y.cpu) o ≡ Some cpu → IsSome o
    by_place None h = absurd cc
    by_place (Some y) h = refl

-- a context that is apart from a processor is none of it
not_there : (cs : Contexts) (home e x : ℕ) → cpu_in cs e ≡ Some home → IsApart cs home x → x ≢ e
not_there cs home e x at apart same =
    let cpu : apart.0 ≡ home = (let both : Some apart.0 ≡ Some home = sym apart.1 ∙ ap (cpu_in cs) same ∙ at in cc) in
    absurd (let other = apart.2 in grind (arith, cpu, other))

pub cpu_of : (cs : Contexts) (e : ℕ) → IsSome (ec_in cs e) → cpu_in cs e ≡ Some (ec_of cs e).cpu
cpu_of cs e there = ap (option_map (λ (z : EcState). z.cpu)) (there_at cs e there)

pub kept_twice : (cs : Contexts) (e h : ℕ) (x : EcState) (f : EcState → EcState) → AreEdges cs → IsSome (ec_in cs e) → x.cpu ≡ (ec_of cs e).cpu →
    ((z : EcState) → (f z).cpu ≡ z.cpu) → cpu_in cs h ≡ cpu_in cs e → LeadsBut (Some (ec_of cs e).cpu) cs (with_ec (with_ec cs e x) h (f (ec_of (with_ec cs e x) h)))
kept_twice cs e h x f sound there cpu keeps near =
    let home = (ec_of cs e).cpu in
    let mid = with_ec cs e x in
    let y = f (ec_of mid h) in
    let at : cpu_in cs e ≡ Some home = cpu_of cs e there in
    let first : (n c : ℕ) → cpu_in cs n ≡ Some c → cpu_in mid n ≡ Some c = λ n c is. cpu_set cs e n c (ec_of cs e) x (there_at cs e there) cpu is in
    let its : ec_in mid h ≡ Some (ec_of mid h) = there_at mid h (there_by_cpu mid h home (first h home (near ∙ at))) in
    kept_apart cs (with_ec mid h y) home sound (length-set mid h (Some y) ∙ length-set cs e (Some x))
    (λ n apart. ec_in-set_other mid h n (Some y) (not_there cs home h n (near ∙ at) apart) ∙ ec_in-set_other cs e n (Some x) (not_there cs home e n at apart))
    (λ n c is. cpu_set mid h n c (ec_of mid h) y its (keeps (ec_of mid h)) (first n c is))

-- the state with that execution context
pub moved : (k : KernelState) (ec : ℕ) (y : EcState) → AreEdges k.contexts → IsSome (context_at k ec) → y.cpu ≡ (context k ec).cpu →
    KeepsQueued (Some (context k ec).cpu) k (with_context k ec y)
moved k ec y sound there cpu =
    record { contexts = kept_moved k.contexts ec (context k ec) y sound (there_at k.contexts ec there) cpu; objects = refl; budgets = refl; next_stamp = refl; cpus = refl }

pub same_state : (k : KernelState) → KeepsQueued None k k
same_state k = record { contexts = leads_self k.contexts; objects = refl; budgets = refl; next_stamp = refl; cpus = refl }
