-- Alike states answer questions alike.
use Rattle.std.proofs.Common.{◌≡◌, ◌∙◌, ℕ, List, [], ◌∷◌, ◌++◌, length, refl, sym, ap, ap₂}
use Rattle.std.specs.Prelude.{Bool, ◌&&◌, ◌||◌, ◌==◌, not, nat_eq, flat_map, slice_get, Option, Some, None}
use Rattle.std.specs.List.{enumerate_from, list_any, range_with_len, starts_with}
use Rattle.nova_objects.specs.declared.object.Object.{Object}
use Rattle.nova_objects.specs.declared.object.Object.TheVariants.{Pd, Ec, Sc, Pt, Sm}
use Rattle.nova_model.specs.Choice.{is_quiet}
use Rattle.nova_model.specs.State.{KernelState, context_at}
use Rattle.nova_model.specs.declared.context.EcState.{EcState}
use Rattle.nova_report.specs.Report.{console_line, semaphore_of}
use Rattle.law_alike.specs.Alike.{IsAlike, uncounted}
use Rattle.nova_recording.specs.declared.wants.Watch.{Watch}
use Rattle.nova_asking.specs.Locations.{another_is_at, is_at, is_at_by, is_there_by, next_actor, two_are_at}
use Rattle.nova_asking.specs.Outcomes.{outcome, state_of}
use Rattle.nova_asking.specs.Questions.{IsOfState, has_context, has_word, is_dead, is_left, is_other_dead, is_so, shown, some_context, waits}
use Rattle.nova_asking.specs.Stores.{stores_by, stores_if, stores_on, stores_to}
use Rattle.nova_asking.specs.declared.question.Location.{Location}
use Rattle.nova_asking.specs.declared.question.Question.{Question}
use Rattle.nova_asking.specs.declared.question.Question.TheVariants as question

any_same : (p q : ℕ → Bool) (xs : List ℕ) → ((x : ℕ) → p x ≡ q x) → list_any p xs ≡ list_any q xs
any_same p q [] same = refl
any_same p q (x ∷ xs) same = ap₂ (λ (s t : Bool). s || t) (same x) (any_same p q xs same)

lines_same : {T : Type 0} (f g : T → List ℕ) (xs : List T) → ((x : T) → f x ≡ g x) → flat_map f xs ≡ flat_map g xs
lines_same f g [] same = refl
lines_same f g (x ∷ xs) same = ap₂ (λ (s t : List ℕ). s ++ t) (same x) (lines_same f g xs same)

-- the same contexts act next
abbrev ActSame : KernelState → KernelState → Type 0
ActSame k l = (cpu : ℕ) → next_actor k cpu ≡ next_actor l cpu

contexts_same : (k l : KernelState) → IsAlike k l → (ec : ℕ) → context_at k ec ≡ context_at l ec
contexts_same k l alike ec = ap (λ (u : KernelState). context_at u ec) alike.rest

-- some processor of as many
somewhere : (k l : KernelState) (p q : ℕ → Bool) → IsAlike k l → ((cpu : ℕ) → p cpu ≡ q cpu) → list_any p (range_with_len 0 k.cpus) ≡ list_any q (range_with_len 0 l.cpus)
somewhere k l p q alike same = any_same p q (range_with_len 0 k.cpus) same ∙ ap (λ (u : KernelState). list_any q (range_with_len 0 u.cpus)) alike.rest

-- LOCATIONS

there_plain : (k : KernelState) (location : Location) (ec : ℕ) (o : Option EcState) → is_there_by k location ec o ≡ is_there_by (uncounted k) location ec o
there_plain k location ec None = refl
there_plain k location ec (Some x) = refl

at_same : (k l : KernelState) → IsAlike k l → ActSame k l → (location : Location) (cpu : ℕ) → is_at k location cpu ≡ is_at l location cpu
at_same k l alike acts location cpu = ap (is_at_by k location) (acts cpu) ∙ by_actor (next_actor l cpu)
  where
    by_actor : (o : Option ℕ) → is_at_by k location o ≡ is_at_by l location o
    by_actor None = refl
    by_actor (Some ec) =
        there_plain k location ec (context_at k ec)
        ∙ ap (λ (u : KernelState). is_there_by u location ec (context_at u ec)) alike.rest
        ∙ sym (there_plain l location ec (context_at l ec))

another_same : (k l : KernelState) → IsAlike k l → ActSame k l → (location : Location) (cpu : ℕ) → another_is_at k location cpu ≡ another_is_at l location cpu
another_same k l alike acts location cpu =
    somewhere k l (λ (other : ℕ). not (other == cpu) && is_at k location other) (λ (other : ℕ). not (other == cpu) && is_at l location other) alike
    (λ other. ap (λ (t : Bool). not (other == cpu) && t) (at_same k l alike acts location other))

two_same : (k l : KernelState) → IsAlike k l → ActSame k l → (first second : Location) → two_are_at k first second ≡ two_are_at l first second
two_same k l alike acts first second =
    somewhere k l (λ (cpu : ℕ). is_at k first cpu && another_is_at k second cpu) (λ (cpu : ℕ). is_at l first cpu && another_is_at l second cpu) alike
    (λ cpu. ap₂ (λ (s t : Bool). s && t) (at_same k l alike acts first cpu) (another_same k l alike acts second cpu))

-- STORES

stores_plain : (k : KernelState) (watch : Watch) (ec : ℕ) (o : Option EcState) → context_at k ec ≡ o → stores_if k watch ec o ≡ stores_if (uncounted k) watch ec o
stores_plain k watch ec None is = refl
stores_plain k watch ec (Some x) is = refl

stores_same : (k l : KernelState) → IsAlike k l → ActSame k l → (watch : Watch) (cpu : ℕ) → stores_on k watch cpu ≡ stores_on l watch cpu
stores_same k l alike acts watch cpu = ap (stores_by k watch) (acts cpu) ∙ by_actor (next_actor l cpu)
  where
    by_actor : (o : Option ℕ) → stores_by k watch o ≡ stores_by l watch o
    by_actor None = refl
    by_actor (Some ec) =
        stores_plain k watch ec (context_at k ec) refl
        ∙ ap (λ (u : KernelState). stores_if u watch ec (context_at u ec)) alike.rest
        ∙ sym (stores_plain l watch ec (context_at l ec) refl)

-- ALL

pub answers_same : (k l : KernelState) → IsAlike k l → is_quiet k ≡ is_quiet l → ActSame k l → (q : Question) → IsOfState q → is_so q k ≡ is_so q l
unfolding is_so
answers_same k l alike quiet acts (question.Console console bytes) apt = ap (λ (u : KernelState). starts_with nat_eq (shown console u.memory.log) bytes) alike.rest
answers_same k l alike quiet acts (question.Word frame offset value) apt = ap (λ (u : KernelState). has_word (slice_get u.memory.ram frame) offset value) alike.rest
answers_same k l alike quiet acts (question.At location) apt = somewhere k l (is_at k location) (is_at l location) alike (at_same k l alike acts location)
answers_same k l alike quiet acts (question.AtBoth first second) apt = two_same k l alike acts first second
answers_same k l alike quiet acts (question.Stores frame first last) apt =
    somewhere k l (stores_on k (stores_to frame first last)) (stores_on l (stores_to frame first last)) alike (stores_same k l alike acts (stores_to frame first last))
answers_same k l alike quiet acts question.Blocked apt = ap₂ (λ (s t : Bool). s && t) quiet (ap (some_context waits) alike.rest)
answers_same k l alike quiet acts question.Dies apt = ap (some_context is_dead) alike.rest
answers_same k l alike quiet acts (question.DiesOf ec) apt = ap is_dead (contexts_same k l alike ec)
answers_same k l alike quiet acts (question.DiesBut ec) apt =
    any_same (is_other_dead ec k) (is_other_dead ec l) (range_with_len 0 (length k.objects)) (λ n. ap (λ (o : Option EcState). not (n == ec) && is_dead o) (contexts_same k l alike n))
    ∙ ap (λ (u : KernelState). list_any (is_other_dead ec l) (range_with_len 0 (length u.objects))) alike.rest
answers_same k l alike quiet acts (question.Stuck ec) apt = ap₂ (λ (s : Bool) (o : Option EcState). s && is_left o) quiet (contexts_same k l alike ec)
answers_same k l alike quiet acts (question.Hangs turns a) apt = absurd apt
answers_same k l alike quiet acts question.Ends apt = quiet

-- OUTCOMES

semaphores_plain : (k : KernelState) (p : ℕ × Object) → semaphore_of k p ≡ semaphore_of (uncounted k) p
semaphores_plain k (id, Sm) = refl
semaphores_plain k (id, Pd) = refl
semaphores_plain k (id, Ec pd cpu kind event) = refl
semaphores_plain k (id, Sc ec cpu priority quantum) = refl
semaphores_plain k (id, Pt ec mtd ip) = refl

abbrev semaphore_text : KernelState → KernelState → List ℕ
semaphore_text u k = flat_map (semaphore_of u) (enumerate_from 0 k.objects)

pub outcomes_same : (k l : KernelState) → IsAlike k l → outcome k ≡ outcome l
unfolding outcome
outcomes_same k l alike = ap₂ (λ (s t : List ℕ). s ++ t) states (ap₂ (λ (s t : List ℕ). s ++ t) semaphores consoles)
  where
    states : flat_map (state_of k) (range_with_len 0 (length k.objects)) ≡ flat_map (state_of l) (range_with_len 0 (length l.objects))
    states =
        lines_same (state_of k) (state_of l) (range_with_len 0 (length k.objects)) (λ id. ap (λ (u : KernelState). state_of u id) alike.rest)
        ∙ ap (λ (u : KernelState). flat_map (state_of l) (range_with_len 0 (length u.objects))) alike.rest

    semaphores : semaphore_text k k ≡ semaphore_text l l
    semaphores =
        lines_same (semaphore_of k) (semaphore_of (uncounted k)) (enumerate_from 0 k.objects) (semaphores_plain k)
        ∙ ap (λ (u : KernelState). semaphore_text u u) alike.rest
        ∙ sym (lines_same (semaphore_of l) (semaphore_of (uncounted l)) (enumerate_from 0 l.objects) (semaphores_plain l))

    consoles : flat_map (console_line k.memory.log) (range_with_len 0 k.consoles) ≡ flat_map (console_line l.memory.log) (range_with_len 0 l.consoles)
    consoles = ap (λ (u : KernelState). flat_map (console_line u.memory.log) (range_with_len 0 u.consoles)) alike.rest

pub contexts_there : (ec : ℕ) (k l : KernelState) → IsAlike k l → has_context ec k ≡ has_context ec l
contexts_there ec k l alike = ap (λ (u : KernelState). has_context ec u) alike.rest
