-- Each entry of each table after a turn: it stays, or is so by right.
use Rattle.std.proofs.Common.{◌≡◌, ℕ, zero, suc, ◌+◌, List, [], ◌∷◌, ◌⊎◌, length, refl, sym, ap, ◌∙◌, subst, inl, inr, arith}
use Rattle.std.specs.Prelude.{◌≢◌, Bool, true, false, if◌then◌else◌, ◌==◌, IfSome, IsSome, is_some, option_and_then, replicate, slice_get, slice_index, slice_set, Option, Some, None, option_map}
use Rattle.std.proofs.lemmas.Option.{same_Some}
use Rattle.rv_model.specs.Registers.{reg}
use Rattle.nova_objects.specs.declared.object.EcKind.{EcKind}
use Rattle.nova_objects.specs.declared.object.EcKind.TheVariants.{Local, Global, Vcpu}
use Rattle.nova_objects.specs.declared.object.Object.{Object}
use Rattle.nova_objects.specs.declared.object.Object.TheVariants.{Pd, Ec, Sc, Pt, Sm}
use Rattle.nova_model.specs.Capabilities.{is_ec, is_pt, is_sm, is_vcpu}
use Rattle.nova_model.specs.Creation.{context_of, count_of, first_registers, first_state, identifier_of, idle_semaphore, object_of, stir_count_of, transfer_of, words_of}
use Rattle.nova_model.specs.Deeds.{deed, gave, skipped, transfer_after}
use Rattle.nova_guest.specs.declared.input.Input.{Input}
use Rattle.nova_guest.specs.declared.input.Input.TheVariants as input
use Rattle.nova_model.specs.Guests as turns
use Rattle.nova_model.specs.Inputs.{input_of, is_outside, is_stirred, only_if}
use Rattle.nova_model.specs.Runs.{after}
use Rattle.nova_model.specs.Semaphores.{lowered, raised, semaphore_at}
use Rattle.nova_model.specs.State.{KernelState, Semaphore, deadline_of, ec_in, entry, no_transfer, no_words, transfer, transfer_at}
use Rattle.nova_model.specs.declared.context.State.TheVariants.{Fresh, Parked}
use Rattle.nova_model.specs.declared.deed.Deed.{Deed}
use Rattle.nova_model.specs.declared.deed.Deed.TheVariants as deeds
use Rattle.nova_model.specs.declared.new_object.NewObject.{NewObject}
use Rattle.nova_model.specs.declared.new_object.NewObject.TheVariants as new
use Rattle.nova_model.specs.declared.times.Deadline.{Deadline}
use Rattle.nova_model.specs.declared.transfer.Transfer.{Transfer}
use Rattle.law_forest.specs.Effects.{all_edited, applied, deadline_by, deadlines_with, edits_by, effect, identifier_by, joined, made_by, no_deadline, put, semaphore_by, semaphores_with, transfer_by, words_by}
use Rattle.law_forest.specs.Turns.{stirred_counts}
use Rattle.law_forest.proofs.Allowed.{deed_allowed}
use Rattle.law_turns.specs.Stirs.{stirs_of}
use Rattle.law_turns.specs.Tables.{HasTables, has_words}
use Rattle.law_turns.specs.Words.{words_at}
use Rattle.law_turns.proofs.Blocking.{first_woken}
use Rattle.law_turns.proofs.Courses.{edited_length}
use Rattle.law_turns.proofs.Referring.{deed_asks}
use Rattle.law_turns.proofs.Serving.{IsActor}
use Rattle.law_turns.proofs.Setting.{index_other, more_at}
use Rattle.law_turns.proofs.Stirring.{counts_nothing, counts_outside, counts_own}
use Rattle.law_turns.proofs.TablesFit.{TablesFit}
use Rattle.law_turns.proofs.TablesKept.{contexts_length}
use Rattle.law_integrity.specs.Rights.{AsksDown, IsNew}
use Rattle.law_integrity.specs.Rightful.{IsRightful}
use Rattle.law_integrity.specs.Integrity.{Clears, Controls, DeadlineBy, Sets, CountBy, NewCount, NoCount, Stirs, Unstirred, Downs, IdentifierBy, IsBorn, MessageBy, NewContext, NewItems, NewPortal, NewSemaphore, NewWords, GivesPart, SkipsPart, FinishesItem, SemaphoreBy, TransferBy, Ups}
use Rattle.law_integrity.proofs.Branches.{creator_of}
use Rattle.law_integrity.proofs.Contexts.{IsRight, context_by, words_after}
use Rattle.law_integrity.proofs.Entries.{change_each, change_length, get_set, join_each, put_each, put_length, same_length}
use Rattle.law_integrity.proofs.Messages.{message_by}

-- a context that joins
is_new : (k : KernelState) (ec n : ℕ) (m : NewObject) → made_by (deed k ec) ≡ Some m → n ≡ length k.objects → IsNew k ec n
is_new k ec n m made next = record { next = next; creator = creator_of k ec (deed k ec) m (deed_allowed k ec) made }

-- MESSAGE WORDS

born_words : (o : Object) → IfSome (words_of o) (λ m. m ≡ no_words)
born_words Pd = tt
born_words (Ec pd cpu Local event) = refl
born_words (Ec pd cpu Global event) = refl
born_words (Ec pd cpu Vcpu event) = tt
born_words (Sc ec cpu priority quantum) = tt
born_words (Pt ec mtd ip) = tt
born_words Sm = tt

pub messages_by : (k : KernelState) (ec n : ℕ) → IsRightful k ec (deed k ec) → IsActor k.contexts ec → TablesFit k →
    (entry (slice_get (applied k (effect k ec (deed k ec))).messages n) ≡ words_at k n) ⊎ MessageBy k ec n (entry (slice_get (applied k (effect k ec (deed k ec))).messages n))
messages_by k ec n r actor fits =
    join_each Q (put k.messages (words_by k ec (deed k ec))) (λ (m : NewObject). words_of (object_of m)) (made_by (deed k ec)) n
    (put_each Q k.messages (words_by k ec (deed k ec)) n (inl refl) (λ m is. inr (message_by k ec n (deed k ec) m refl r (deed_asks k ec) actor fits.served is)))
    (λ m made last. inr (NewWords (is_new k ec n m made (last ∙ put_length k.messages (words_by k ec (deed k ec)) ∙ same_length is_some has_words k.messages k.objects fits.tables.messages))
    (born_words (object_of m))))
  where
    Q : Option (List ℕ) → Type 0
    Q o = (o ≡ words_at k n) ⊎ MessageBy k ec n o

-- EXECUTION CONTEXTS

zeros : (n r : ℕ) → slice_index (replicate n 0) r ≡ 0
zeros zero r = refl
zeros (suc n) zero = refl
zeros (suc n) (suc r) = zeros n r

first_zero : (sp r : ℕ) → r ≢ 2 → reg (first_registers sp) r ≡ 0
first_zero sp r other = by_test (r == 0)
  where
    by_test : (t : Bool) → (if t then 0 else slice_index (slice_set (replicate 32 0) 2 sp) r) ≡ 0
    by_test true = refl
    by_test false = index_other (replicate 32 0) 2 r sp other ∙ zeros 32 r

state_first : (kind : EcKind) → (first_state kind ≡ Parked) ⊎ (first_state kind ≡ Fresh)
state_first Local = inl refl
state_first Global = inr refl
state_first Vcpu = inr refl

pub born_context : (n number : ℕ) (m : NewObject) → number ≡ n → IfSome (context_of number m) (IsBorn n)
born_context n number new.Pd same = tt
born_context n number (new.Ec pd cpu kind sp event) same =
    record { number = same; pc = refl; zero = first_zero sp; caller = refl; recall = refl; state = state_first kind }
born_context n number (new.Sc ec cpu priority quantum) same = tt
born_context n number (new.Pt ec mtd ip) same = tt
born_context n number (new.Sm count) same = tt

pub contexts_by : (k : KernelState) (ec n : ℕ) → IsRightful k ec (deed k ec) → IsActor k.contexts ec → TablesFit k →
    IsRight k ec n (words_after k ec (deed k ec)) (ec_in (applied k (effect k ec (deed k ec))).contexts n)
contexts_by k ec n r actor fits =
    join_each (IsRight k ec n (words_after k ec (deed k ec))) (all_edited k.contexts (edits_by k ec (deed k ec))) (context_of (length k.objects)) (made_by (deed k ec)) n
    (context_by k ec n r (deed_asks k ec) actor fits)
    (λ m made last.
    let next : n ≡ length k.objects = last ∙ edited_length k.contexts (edits_by k ec (deed k ec)) ∙ contexts_length k fits.tables in
    inr (NewContext (is_new k ec n m made next) (born_context n (length k.objects) m (sym next))))

-- STIR COUNTS

born_count : (o : Object) → IfSome (stir_count_of o) (λ c. c ≡ 0)
born_count (Ec pd cpu Local event) = tt
born_count (Ec pd cpu Global event) = tt
born_count (Ec pd cpu Vcpu event) = refl
born_count Pd = tt
born_count (Sc ec cpu priority quantum) = tt
born_count (Pt ec mtd ip) = tt
born_count Sm = tt

-- a deed that makes an object stirs none
unstirred : (k : KernelState) (ec g : ℕ) (d : Deed) (m : NewObject) → made_by d ≡ Some m → is_stirred k ec d g ≡ false
unfolding input_of
unstirred k ec g (deeds.Makes call target made) m is = nobody (ec == g)
  where
    nobody : (t : Bool) → is_some (option_and_then (λ i. only_if (is_outside i) i) (if t then None else None)) ≡ false
    nobody true = refl
    nobody false = refl
unstirred k ec g (deeds.Opens target domain) m is = nobody (ec == g)
  where
    nobody : (t : Bool) → is_some (option_and_then (λ i. only_if (is_outside i) i) (if t then None else None)) ≡ false
    nobody true = refl
    nobody false = refl
unstirred k ec g other m is = absurd (cc)

-- each count after those that are stirred rose
counted : (Q : ℕ → Option ℕ → Option ℕ → Type 0) (is : ℕ → Bool) → ((g : ℕ) → Q g None None) → ((g c : ℕ) (t : Bool) → is g ≡ t → Q g (Some c) (Some (if t then c + 1 else c))) →
    (first : ℕ) (counts : List (Option ℕ)) (n : ℕ) → Q (first + n) (entry (slice_get counts n)) (entry (slice_get (stirred_counts is first counts) n))
counted Q is none some first [] n = none (first + n)
counted Q is none some first (None ∷ counts) zero = none (first + zero)
counted Q is none some first (Some c ∷ counts) zero = subst (λ (g : ℕ). Q g (Some c) (Some (if is first then c + 1 else c))) (omega arith) (some first c (is first) refl)
counted Q is none some first (o ∷ counts) (suc n) =
    subst (λ (g : ℕ). Q g (entry (slice_get counts n)) (entry (slice_get (stirred_counts is (first + 1) counts) n))) (omega arith) (counted Q is none some (first + 1) counts n)

-- a count stays, or is of a new virtual CPU, or was there
abbrev pub IsCounted : KernelState → ℕ → ℕ → Option ℕ → Option ℕ → Type 0
IsCounted k ec n old new = (new ≡ old) ⊎ ((IsNew k ec n × IfSome new (λ c. c ≡ 0)) ⊎ IsSome old)

pub counts_by : (k : KernelState) (ec n : ℕ) → HasTables k →
    IsCounted k ec n (entry (slice_get k.stirs.guests n)) (entry (slice_get (stirred_counts (is_stirred k ec (deed k ec)) 0 (applied k (effect k ec (deed k ec))).stirs.guests) n))
counts_by k ec n tables =
    rises between (entry (slice_get (stirred_counts (is_stirred k ec (deed k ec)) 0 (applied k (effect k ec (deed k ec))).stirs.guests) n))
    (subst (λ (g : ℕ). Rises g between (entry (slice_get (stirred_counts (is_stirred k ec (deed k ec)) 0 (applied k (effect k ec (deed k ec))).stirs.guests) n))) (omega arith)
    (counted Rises (is_stirred k ec (deed k ec)) (λ g. inl refl) by_test 0 (applied k (effect k ec (deed k ec))).stirs.guests n))
    (join_each Q k.stirs.guests (λ (m : NewObject). stir_count_of (object_of m)) (made_by (deed k ec)) n (inl refl)
    (λ m made last. inr (is_new k ec n m made (last ∙ same_length is_some is_vcpu k.stirs.guests k.objects tables.guests), born_count (object_of m), unstirred k ec n (deed k ec) m made)))
  where
    Q : Option ℕ → Type 0
    Q o = (o ≡ entry (slice_get k.stirs.guests n)) ⊎ (IsNew k ec n × IfSome o (λ c. c ≡ 0) × (is_stirred k ec (deed k ec) n ≡ false))

    between : Option ℕ
    between = entry (slice_get (applied k (effect k ec (deed k ec))).stirs.guests n)

    Rises : ℕ → Option ℕ → Option ℕ → Type 0
    Rises g old new = (new ≡ old) ⊎ ((is_stirred k ec (deed k ec) g ≡ true) × ((c : ℕ) × (old ≡ Some c)))

    by_test : (g c : ℕ) (t : Bool) → is_stirred k ec (deed k ec) g ≡ t → Rises g (Some c) (Some (if t then c + 1 else c))
    by_test g c true is = inr (is, (c, refl))
    by_test g c false is = inl refl

    was_some : (o : Option ℕ) (c : ℕ) → o ≡ Some c → IsSome o
    was_some (Some d) c is = refl
    was_some None c is = absurd (cc)

    rises : (between new : Option ℕ) → Rises n between new → Q between → IsCounted k ec n (entry (slice_get k.stirs.guests n)) new
    rises between new (inl same) (inl old) = inl (same ∙ old)
    rises between new (inl same) (inr made) = inr (inl (made.0, subst (λ (o : Option ℕ). IfSome o (λ c. c ≡ 0)) (sym same) made.1))
    rises between new (inr up) (inl old) = inr (inr (was_some (entry (slice_get k.stirs.guests n)) up.1.0 (sym old ∙ up.1.1)))
    rises between new (inr up) (inr made) = absurd (let some = up.0 in let none = made.2 in cc)

-- it rises where the turn is an input other than an own step, and stays elsewhere
pub counts_right : (k new : KernelState) (cpu ec n : ℕ) → after k cpu ≡ new → IsCounted k ec n (stirs_of k n) (stirs_of new n) → CountBy k cpu ec n (stirs_of k n) (stirs_of new n)
counts_right k new cpu ec n state counted_ = by_old (stirs_of k n) refl counted_
  where
    now : (o : Option ℕ) → stirs_of (after k cpu) n ≡ o → stirs_of new n ≡ o
    now o is = ap (λ (s : KernelState). stirs_of s n) (sym state) ∙ is

    is_own : (i : Input) → (i ≡ input.Own) ⊎ (i ≢ input.Own)
    is_own input.Own = inl refl
    is_own other = inr (λ same. cc)

    by_input : (count : ℕ) → stirs_of k n ≡ Some count → (o : Option Input) → turns.input k cpu n ≡ o → CountBy k cpu ec n (Some count) (stirs_of new n)
    by_input count old None none = Unstirred (λ i is. absurd (let both : None ≡ Some i = sym none ∙ is in cc)) count refl (now (Some count) (counts_nothing k cpu n count old none))
    by_input count old (Some i) some = elim (is_own i) [
      | inl own ↦
          Unstirred (λ j is. same_Some j i (sym is ∙ some) ∙ own) count refl (now (Some count) (counts_own k cpu n count old (some ∙ ap (λ (j : Input). Some j) own)))
      | inr other ↦ Stirs i some other count refl (now (Some (count + 1)) (counts_outside k cpu n count i old some other))
    ]

    by_old : (o : Option ℕ) → stirs_of k n ≡ o → IsCounted k ec n o (stirs_of new n) → CountBy k cpu ec n o (stirs_of new n)
    by_old (Some count) old is = by_input count old (turns.input k cpu n) refl
    by_old None old (inl same) = NoCount refl same
    by_old None old (inr (inl made)) = NewCount made.0 refl made.1
    by_old None old (inr (inr some)) = absurd (cc)

-- ITEMS

abbrev of_transfer : ℕ → Transfer → Option (ℕ × Transfer)
of_transfer n t = Some (n, t)

-- what is right for the context that acts is right for the context of this number
at_actor : (k : KernelState) (ec n : ℕ) (new t : Transfer) → TransferBy k ec ec (Some new) → of_transfer ec new ≡ of_transfer n t → TransferBy k ec n (Some t)
at_actor k ec n new t right is = subst (λ (q : ℕ × Transfer). TransferBy k ec q.0 (Some q.1)) (same_Some (ec, new) (n, t) is) right

own_items : (k : KernelState) (ec n : ℕ) (d : Deed) (t : Transfer) → deed k ec ≡ d → transfer_by k ec d ≡ Some (n, t) → TransferBy k ec n (Some t)
own_items k ec n (deeds.Gives child cursor) t does is = at_actor k ec n (gave (transfer k ec) cursor) t (GivesPart refl child cursor does refl) is
own_items k ec n (deeds.Skips reason place cursor) t does is = at_actor k ec n (skipped (transfer k ec) cursor) t (SkipsPart refl reason place cursor does refl) is
own_items k ec n (deeds.Finishes item end words follows) t does is = at_actor k ec n (transfer_after item follows) t (FinishesItem refl item end words follows does refl) is
own_items k ec n other t does is = absurd (cc)

born_items : (o : Object) → IfSome (transfer_of o) (λ t. t ≡ no_transfer)
born_items (Ec pd cpu kind event) = refl
born_items Pd = tt
born_items (Sc ec cpu priority quantum) = tt
born_items (Pt ec mtd ip) = tt
born_items Sm = tt

pub transfers_by : (k : KernelState) (ec n : ℕ) → HasTables k →
    (entry (slice_get (applied k (effect k ec (deed k ec))).transfers n) ≡ transfer_at k n) ⊎ TransferBy k ec n (entry (slice_get (applied k (effect k ec (deed k ec))).transfers n))
transfers_by k ec n tables =
    join_each Q (put k.transfers (transfer_by k ec (deed k ec))) (λ (m : NewObject). transfer_of (object_of m)) (made_by (deed k ec)) n
    (put_each Q k.transfers (transfer_by k ec (deed k ec)) n (inl refl) (λ t is. inr (own_items k ec n (deed k ec) t refl is)))
    (λ m made last. inr (NewItems (is_new k ec n m made (last ∙ put_length k.transfers (transfer_by k ec (deed k ec)) ∙ same_length is_some is_ec k.transfers k.objects tables.transfers))
    (born_items (object_of m))))
  where
    Q : Option Transfer → Type 0
    Q o = (o ≡ transfer_at k n) ⊎ TransferBy k ec n o

-- IDENTIFIERS

identified : (k : KernelState) (ec n : ℕ) (d : Deed) (i : ℕ) → IsRightful k ec d → identifier_by d ≡ Some (n, i) → IdentifierBy k ec n (Some i)
identified k ec n (deeds.Names pt number) i r is =
    subst (λ (q : ℕ × ℕ). IdentifierBy k ec q.0 (Some q.1)) (same_Some (pt, number) (n, i) is) (Controls r.0 (ap Some r.2))
identified k ec n other i r is = absurd (cc)

born_identifier : (m : NewObject) → IfSome (identifier_of m) (λ i. i ≡ 0)
born_identifier (new.Pt ec mtd ip) = refl
born_identifier new.Pd = tt
born_identifier (new.Ec pd cpu kind sp event) = tt
born_identifier (new.Sc ec cpu priority quantum) = tt
born_identifier (new.Sm count) = tt

pub identifiers_by : (k : KernelState) (ec n : ℕ) → IsRightful k ec (deed k ec) → HasTables k →
    (entry (slice_get (applied k (effect k ec (deed k ec))).identifiers n) ≡ entry (slice_get k.identifiers n))
    ⊎ IdentifierBy k ec n (entry (slice_get (applied k (effect k ec (deed k ec))).identifiers n))
identifiers_by k ec n r tables =
    join_each Q (put k.identifiers (identifier_by (deed k ec))) identifier_of (made_by (deed k ec)) n
    (put_each Q k.identifiers (identifier_by (deed k ec)) n (inl refl) (λ i is. inr (identified k ec n (deed k ec) i r is)))
    (λ m made last. inr (NewPortal (is_new k ec n m made (last ∙ put_length k.identifiers (identifier_by (deed k ec)) ∙ same_length is_some is_pt k.identifiers k.objects tables.identifiers))
    (born_identifier m)))
  where
    Q : Option ℕ → Type 0
    Q o = (o ≡ entry (slice_get k.identifiers n)) ⊎ IdentifierBy k ec n o

-- DEADLINES

deadline_each : (P : Option Deadline → Type 0) (ds : List (Option Deadline)) (p : Option (ℕ × Option Deadline)) (n : ℕ) → P (entry (slice_get ds n)) →
    ((d : Option Deadline) → p ≡ Some (n, d) → P d) → P (entry (slice_get (deadlines_with ds p) n))
deadline_each P ds None n old new = old
deadline_each P ds (Some (w, d)) n old new = get_set (λ (o : Option (Option Deadline)). P (entry o)) ds w n d old (λ same. new d (ap (λ (a : ℕ). Some (a, d)) (sym same)))

abbrev of_deadline : ℕ → Option Deadline → Option (ℕ × Option Deadline)
of_deadline n d = Some (n, d)

-- what is right for the context that has the deadline is right for the context of this number
at_deadline : (k : KernelState) (ec to n : ℕ) (d x : Option Deadline) → DeadlineBy k ec to d → of_deadline to d ≡ of_deadline n x → DeadlineBy k ec n x
at_deadline k ec to n d x right is = subst (λ (q : ℕ × Option Deadline). DeadlineBy k ec q.0 q.1) (same_Some (to, d) (n, x) is) right

limited : (k : KernelState) (ec n : ℕ) (d : Deed) (x : Option Deadline) → deed k ec ≡ d → IsRightful k ec d → deadline_by ec d ≡ Some (n, x) → DeadlineBy k ec n x
limited k ec n (deeds.Ups sm None) x is r e = absurd (cc)
limited k ec n (deeds.Ups sm (Some w)) x is r e = let first = first_woken k ec sm w is in at_deadline k ec w n None x (Clears sm r.0 first.0 first.1 refl) e
limited k ec n (deeds.Blocks sm None) x is r e = absurd (cc)
limited k ec n (deeds.Blocks sm (Some d)) x is r e =
    let own = r.2 in
    at_deadline k ec ec n (Some d) x
    (Sets refl d (subst (AsksDown k ec) (sym own.semaphore) r.0) (record { asks = own.asks; semaphore = refl; processor = own.processor; at = own.at; some = own.some }) refl) e
limited k ec n other x is r e = absurd (cc)

pub deadlines_by : (k : KernelState) (ec n : ℕ) → IsRightful k ec (deed k ec) →
    let new = (applied k (effect k ec (deed k ec))).times in (deadline_of new n ≡ deadline_of k.times n) ⊎ DeadlineBy k ec n (deadline_of new n)
deadlines_by k ec n r = by_made (made_by (deed k ec))
  where
    Q : Option Deadline → Type 0
    Q o = (o ≡ deadline_of k.times n) ⊎ DeadlineBy k ec n o

    each : Q (entry (slice_get (deadlines_with k.times.deadlines (deadline_by ec (deed k ec))) n))
    each = deadline_each Q k.times.deadlines (deadline_by ec (deed k ec)) n (inl refl) (λ d is. inr (limited k ec n (deed k ec) d refl r is))

    by_made : (made : Option NewObject) → Q (entry (slice_get (joined (deadlines_with k.times.deadlines (deadline_by ec (deed k ec))) (option_map no_deadline made)) n))
    by_made None = each
    by_made (Some m) = more_at Q (deadlines_with k.times.deadlines (deadline_by ec (deed k ec))) None n each (λ q. q)

-- SEMAPHORES

changed_by_right : (k : KernelState) (ec n : ℕ) (d : Deed) (change : Semaphore → Semaphore) (s : Semaphore) → IsRightful k ec d → semaphore_by ec d ≡ Some (n, change) →
    semaphore_at k.semaphores n ≡ Some s → SemaphoreBy k ec n (semaphore_at k.semaphores n) (Some (change s))
changed_by_right k ec n (deeds.Ups sm woken) change s r is there =
    subst (λ (q : ℕ × (Semaphore → Semaphore)). semaphore_at k.semaphores q.0 ≡ Some s → SemaphoreBy k ec q.0 (semaphore_at k.semaphores q.0) (Some (q.1 s)))
    (same_Some (sm, raised) (n, change) is) (λ at. Ups r.0 s at refl) there
changed_by_right k ec n (deeds.Downs sm) change s r is there =
    subst (λ (q : ℕ × (Semaphore → Semaphore)). semaphore_at k.semaphores q.0 ≡ Some s → SemaphoreBy k ec q.0 (semaphore_at k.semaphores q.0) (Some (q.1 s)))
    (same_Some (sm, lowered ec) (n, change) is) (λ at. Downs r.0 s at refl) there
changed_by_right k ec n (deeds.Blocks sm until) change s r is there =
    subst (λ (q : ℕ × (Semaphore → Semaphore)). semaphore_at k.semaphores q.0 ≡ Some s → SemaphoreBy k ec q.0 (semaphore_at k.semaphores q.0) (Some (q.1 s)))
    (same_Some (sm, lowered ec) (n, change) is) (λ at. Downs r.0 s at refl) there
changed_by_right k ec n other change s r is there = absurd (cc)

born_semaphore : (m : NewObject) → IfSome (option_map idle_semaphore (count_of m)) (λ s. s.waiting ≡ [])
born_semaphore (new.Sm count) = refl
born_semaphore new.Pd = tt
born_semaphore (new.Ec pd cpu kind sp event) = tt
born_semaphore (new.Sc ec cpu priority quantum) = tt
born_semaphore (new.Pt ec mtd ip) = tt

pub semaphores_by : (k : KernelState) (ec n : ℕ) → IsRightful k ec (deed k ec) → HasTables k →
    (semaphore_at (applied k (effect k ec (deed k ec))).semaphores n ≡ semaphore_at k.semaphores n)
    ⊎ SemaphoreBy k ec n (semaphore_at k.semaphores n) (semaphore_at (applied k (effect k ec (deed k ec))).semaphores n)
semaphores_by k ec n r tables =
    join_each Q (semaphores_with k.semaphores (semaphore_by ec (deed k ec))) (λ (m : NewObject). option_map idle_semaphore (count_of m)) (made_by (deed k ec)) n
    (change_each Q k.semaphores (semaphore_by ec (deed k ec)) n (inl refl) (λ change s is there. inr (changed_by_right k ec n (deed k ec) change s r is there)))
    (λ m made last. inr (NewSemaphore (is_new k ec n m made (last ∙ change_length k.semaphores (semaphore_by ec (deed k ec)) ∙ same_length is_some is_sm k.semaphores k.objects tables.semaphores))
    (born_semaphore m)))
  where
    Q : Option Semaphore → Type 0
    Q o = (o ≡ semaphore_at k.semaphores n) ⊎ SemaphoreBy k ec n (semaphore_at k.semaphores n) o
