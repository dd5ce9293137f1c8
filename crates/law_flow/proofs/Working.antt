-- Whether a side is at work along turns, nobody else makes an object, and it stays on its processors, is decided of each state; so it is of the run in which it gives and revokes.
use Rattle.std.proofs.Common.{◌≡◌, ℕ, zero, suc, ◌==◌, List, [], ◌∷◌, length, refl, sym, ap, ◌∙◌, subst}
use Rattle.std.specs.Prelude.{◌&&◌, ◌||◌, Bool, true, false, is_some, not, replicate, slice_get, Option, Some, None, Result, Ok}
use Rattle.std.specs.List.{list_all}
use Rattle.std.proofs.lemmas.Bool.{and_parts, eqb-true}
use Rattle.std.proofs.lemmas.Option.{same_Some}
use Rattle.rv_model.specs.Codes.{instr_of}
use Rattle.rv_model.specs.Step.{one}
use Rattle.nova_calls.specs.Hypercalls.{call_of}
use Rattle.nova_calls.specs.declared.call.Call.{Call}
use Rattle.nova_calls.specs.declared.call.Call.TheVariants as asks
use Rattle.nova_calls.specs.declared.call.SmAction.TheVariants as act
use Rattle.nova_objects.specs.declared.object.Object.{Object}
use Rattle.nova_objects.specs.declared.object.Object.TheVariants.{Ec}
use Rattle.nova_range.specs.declared.status.Status.{Status}
use Rattle.nova_utcb.specs.Messages.{exited}
use Rattle.nova_model.specs.Boot.{boot}
use Rattle.nova_model.specs.Choice.{choice, next_to_act}
use Rattle.nova_model.specs.Deeds.{deed}
use Rattle.nova_model.specs.Edges.{is_giving}
use Rattle.nova_model.specs.Inputs.{input_of}
use Rattle.nova_model.specs.Runs.{after, run}
use Rattle.nova_model.specs.State.{Contexts, KernelState, context, context_at, context_in, entry}
use Rattle.nova_model.specs.Times.{next_entry}
use Rattle.nova_model.specs.Turn.{charged, turn}
use Rattle.nova_model.specs.declared.context.EcState.{EcState}
use Rattle.nova_model.specs.declared.context.State.{State}
use Rattle.nova_model.specs.declared.context.State.TheVariants.{Revoking}
use Rattle.nova_model.specs.declared.deed.Deed.TheVariants.{Gives}
use Rattle.law_integrity.specs.Confined.{Of}
use Rattle.law_flow.specs.Examples.{first_domains, given_page, two_homes}
use Rattle.law_turns.specs.Revoking.{is_revoking}
use Rattle.law_flow.specs.Flow.{AreAtWorkTimeless, IsAtWork, IsCallAtWork, OthersMakeNothing, RevokesNothing, fixed, own_turn}
use Rattle.law_flow.specs.Processors.{AreOn, StayOn}

-- A CALL

-- of one that creates where the first is true
abbrev is_call_at_work : Bool → Result Call Status → Bool
is_call_at_work creates (Ok (asks.CreatePd target pd first)) = creates
is_call_at_work creates (Ok (asks.CreateEc target pd cpu kind sp event)) = creates
is_call_at_work creates (Ok (asks.CreateSc target pd whose quantum priority)) = creates
is_call_at_work creates (Ok (asks.CreatePt target pd handler mtd ip)) = creates
is_call_at_work creates (Ok (asks.CreateSm target pd count)) = creates
is_call_at_work creates (Ok (asks.SmCtrl sm (act.DownWithin ticks))) = false
is_call_at_work creates other = true

call_so : (creates : Bool) (o : Result Call Status) → is_call_at_work creates o ≡ true → IsCallAtWork ⊥ (true ≡ true) (creates ≡ true) o
call_so creates (Ok (asks.CreatePd target pd first)) h = h
call_so creates (Ok (asks.CreateEc target pd cpu kind sp event)) h = h
call_so creates (Ok (asks.CreateSc target pd whose quantum priority)) h = h
call_so creates (Ok (asks.CreatePt target pd handler mtd ip)) h = h
call_so creates (Ok (asks.CreateSm target pd count)) h = h
call_so creates (Ok (asks.SmCtrl sm (act.DownWithin ticks))) h = absurd (cc)
call_so creates (Ok (asks.Revoke range own)) h = refl
call_so creates other h = tt

-- NOBODY REVOKES

abbrev is_calm : Option EcState → Bool
is_calm None = true
is_calm (Some x) = not (is_revoking x.state)

calm_at : (xs : Contexts) → list_all is_calm xs ≡ true → (n : ℕ) → is_calm (entry (slice_get xs n)) ≡ true
calm_at [] all n = refl
calm_at (x ∷ xs) all zero = (and_parts (is_calm x) (list_all is_calm xs) all).0
calm_at (x ∷ xs) all (suc n) = calm_at xs (and_parts (is_calm x) (list_all is_calm xs) all).1 n

none_revokes : (k : KernelState) (S : ℕ → Type 0) → list_all is_calm k.contexts ≡ true → RevokesNothing k S
none_revokes k S all n range own is s = by_entry (context_at k n) (calm_at k.contexts all n) is
  where
    by_entry : (o : Option EcState) → is_calm o ≡ true → (context_in o).state ≡ Revoking range own → ⊥
    by_entry None h at = cc
    by_entry (Some x) h at = let both : false ≡ true = ap (λ (t : State). not (is_revoking t)) (sym at) ∙ h in cc

-- A TURN, AND TURNS

abbrev is_work : Bool → KernelState → Option (ℕ × ℕ) → Bool
is_work creates k None = true
is_work creates k (Some p) =
    is_call_at_work creates (call_of (context k p.0).regs) && (not (is_giving (context k p.0).state) || list_all is_calm k.contexts)

abbrev pub are_work : Bool → (ℕ → Bool) → KernelState → List ℕ → Bool
are_work creates S k [] = true
are_work creates S k (cpu ∷ turns) = is_work creates k (own_turn S k cpu) && are_work creates S (after k cpu) turns

then_so : (t u : Bool) → (not t || u) ≡ true → t ≡ true → u ≡ true
then_so true u h is = h
then_so false u h is = absurd (cc)

work_so : (creates : Bool) (S : ℕ → Bool) (k : KernelState) (o : Option (ℕ × ℕ)) → is_work creates k o ≡ true → (ec sc : ℕ) → o ≡ Some (ec, sc) → IsAtWork ⊥ (RevokesNothing k (Of S)) (true ≡ true) (creates ≡ true) k ec
work_so creates S k None h ec sc is = absurd (cc)
work_so creates S k (Some p) h ec sc is =
    let both = and_parts (is_call_at_work creates (call_of (context k p.0).regs)) (not (is_giving (context k p.0).state) || list_all is_calm k.contexts) h in
    subst (IsAtWork ⊥ (RevokesNothing k (Of S)) (true ≡ true) (creates ≡ true) k) (ap (λ (q : ℕ × ℕ). q.0) (same_Some {A = ℕ × ℕ} p (ec, sc) is))
    (record {
      calls = λ asking. call_so creates (call_of (context k p.0).regs) both.0;
      gives = λ gives. none_revokes k (Of S) (then_so (is_giving (context k p.0).state) (list_all is_calm k.contexts) both.1 gives);
      revokes = λ revokes. refl;
    })

pub works_so : (creates : Bool) (S : ℕ → Bool) (k : KernelState) (turns : List ℕ) → are_work creates S k turns ≡ true → AreAtWorkTimeless (record { revokes = true; creates = creates }) S k turns
works_so creates S k [] h = tt
works_so creates S k (cpu ∷ turns) h =
    let both = and_parts (is_work creates k (own_turn S k cpu)) (are_work creates S (after k cpu) turns) h in (work_so creates S k (own_turn S k cpu) both.0, works_so creates S (after k cpu) turns both.1)

-- WHAT OTHERS MAKE, AND WHERE IT STAYS

-- nobody else makes an object, as is decided of each state
abbrev makes_none : Bool → ℕ → ℕ → Bool
makes_none own was is = own || (is == was)

abbrev pub are_unmade : (ℕ → Bool) → KernelState → List ℕ → Bool
are_unmade S k [] = true
are_unmade S k (cpu ∷ turns) = makes_none (is_some (own_turn S k cpu)) (length k.objects) (length (after k cpu).objects) && are_unmade S (after k cpu) turns

unmade_one : (o : Option (ℕ × ℕ)) (was is : ℕ) → makes_none (is_some o) was is ≡ true → o ≡ None → is ≡ was
unmade_one None was is h none = eqb-true is was h
unmade_one (Some p) was is h none = absurd (cc)

pub unmade_so : (S : ℕ → Bool) (k : KernelState) (turns : List ℕ) → are_unmade S k turns ≡ true → OthersMakeNothing S k turns
unmade_so S k [] h = tt
unmade_so S k (cpu ∷ turns) h =
    let both = and_parts (makes_none (is_some (own_turn S k cpu)) (length k.objects) (length (after k cpu).objects)) (are_unmade S (after k cpu) turns) h in
    (λ none. unmade_one (own_turn S k cpu) (length k.objects) (length (after k cpu).objects) both.0 none, unmade_so S (after k cpu) turns both.1)

-- and its execution contexts are on these processors
abbrev is_on : (ℕ → Bool) → (ℕ → Bool) → Object → Bool
is_on S C (Ec pd cpu kind event) = not (S pd) || C cpu
is_on S C other = true

abbrev pub all_stay_on : (ℕ → Bool) → (ℕ → Bool) → KernelState → List ℕ → Bool
all_stay_on S C k [] = list_all (is_on S C) k.objects
all_stay_on S C k (cpu ∷ turns) = list_all (is_on S C) k.objects && all_stay_on S C (after k cpu) turns

one_on : (S C : ℕ → Bool) (os : List Object) → list_all (is_on S C) os ≡ true → (n : ℕ) (o : Object) → slice_get os n ≡ Some o → is_on S C o ≡ true
one_on S C [] h n o is = absurd (cc)
one_on S C (x ∷ os) h zero o is = let same : x ≡ o = cc in ap (is_on S C) (sym same) ∙ (and_parts (is_on S C x) (list_all (is_on S C) os) h).0
one_on S C (x ∷ os) h (suc n) o is = one_on S C os (and_parts (is_on S C x) (list_all (is_on S C) os) h).1 n o is

on_so : (S C : ℕ → Bool) (k : KernelState) → list_all (is_on S C) k.objects ≡ true → AreOn k (Of S) (Of C)
on_so S C k h n pd cpu kind event is s = then_so (S pd) (C cpu) (one_on S C k.objects h n (Ec pd cpu kind event) is) s

pub stay_so : (S C : ℕ → Bool) (k : KernelState) (turns : List ℕ) → all_stay_on S C k turns ≡ true → StayOn S C k turns
stay_so S C k [] h = on_so S C k h
stay_so S C k (cpu ∷ turns) h =
    let both = and_parts (list_all (is_on S C) k.objects) (all_stay_on S C (after k cpu) turns) h in (on_so S C k both.0, stay_so S C (after k cpu) turns both.1)

-- THE RUN

all_work : are_work false first_domains (run (boot two_homes) (replicate 66 0)) (replicate 18 0) ≡ true
unfolding one instr_of call_of choice deed input_of next_entry next_to_act charged turn exited
all_work = refl

pub works : AreAtWorkTimeless (fixed true) first_domains (run (boot two_homes) (replicate 66 0)) (replicate 18 0)
works = works_so false first_domains (run (boot two_homes) (replicate 66 0)) (replicate 18 0) all_work

pub revokes : is_revoking (context (run (boot two_homes) (replicate 73 0)) 5).state ≡ true
unfolding one instr_of call_of choice deed input_of next_entry charged turn exited
revokes = refl

pub gives : deed (run (boot two_homes) (replicate 82 0)) 5 ≡ Gives given_page 2
unfolding one instr_of call_of choice deed input_of next_entry charged turn exited
gives = refl
