-- What a turn changes: contexts of its own processor, and of others those whom its deed reaches.
use Rattle.std.proofs.Common.{◌≡◌, ℕ, List, ◌∷◌, map, ap, sym, ◌∙◌, subst, refl, inl, inr}
use Rattle.std.specs.List.{AllByRecursion}
use Rattle.std.specs.Prelude.{true, false, Option, Some, None, IfSome, IsSome, Ok, Contains, option_map}
use Rattle.std.proofs.lemmas.Bool.{cases_eq}
use Rattle.std.proofs.lemmas.Option.{same_Some}
use Rattle.rv_model.specs.Step.{Once, Raised, Store, Went}
use Rattle.nova_range.specs.declared.status.Status.{Status}
use Rattle.nova_range.specs.declared.status.Status.TheVariants.{Success}
use Rattle.nova_model.specs.AddressSpaces.{AddressSpace, words_at}
use Rattle.nova_model.specs.Choice.{Candidate, choice, choose}
use Rattle.nova_model.specs.Deeds.{address_space, instruction}
use Rattle.nova_model.specs.Edges.{cpu_in, state_in}
use Rattle.nova_model.specs.Inputs.{store_of}
use Rattle.nova_model.specs.Semaphores.{semaphore, woken}
use Rattle.nova_model.specs.State.{KernelState, context, context_at, ec_in, ec_of, processor_of}
use Rattle.nova_model.specs.declared.context.EcState.{EcState}
use Rattle.nova_model.specs.declared.context.Mark.{Mark}
use Rattle.nova_model.specs.declared.context.Mark.TheVariants as mark
use Rattle.nova_model.specs.declared.context.State.TheVariants.{Blocked}
use Rattle.nova_model.specs.declared.deed.Deed.{Deed}
use Rattle.nova_model.specs.declared.deed.Deed.TheVariants.{Blocks, Calls, Finishes, Gives, Makes, Recalls, Removes, Replies, Rests, Sends, Skips, Steps, Ups}
use Rattle.nova_model.specs.declared.new_object.NewObject.TheVariants as new
use Rattle.nova_model.specs.declared.transfer.ItemWords.{ItemWords}
use Rattle.nova_model.specs.declared.transfer.Sequel.{Sequel}
use Rattle.nova_model.specs.declared.transfer.Sequel.TheVariants as sequel
use Rattle.nova_ec.specs.Entries.{caller_at}
use Rattle.law_forest.specs.Effects.{Answers, Edit, Edits, Passing, clears_by, deadline_by, edit_at, edits_by, effect, ends_by, follows_by, item_words, made_by, passing_effect, passing_ends, recalls_by, steps_by, store_words, wakes_by, words_by, words_stored}
use Rattle.law_forest.proofs.Members.{all_at, contains_from_in, in_from_contains}
use Rattle.law_turns.specs.Links.{IsCallerOf}
use Rattle.law_turns.specs.Tables.{HasTables}
use Rattle.law_turns.proofs.Blocking.{woken_blocked}
use Rattle.law_turns.proofs.Deadlines.{at_home}
use Rattle.law_turns.proofs.Passing.{IsEnding}
use Rattle.law_turns.proofs.Referring.{Asks, Follows, TellsIn}
use Rattle.law_turns.proofs.Serving.{IsActor, blocked_there, exit_reaches, send_reaches}
use Rattle.law_turns.proofs.Setting.{entry_other}
use Rattle.law_isolation.specs.Sound.{IsSound}
use Rattle.law_leases.proofs.Homes.{chosen_home}
use Rattle.law_swaps.specs.Touches.{ChangesWithin, IsMet, contexts_changed, processor_given}
use Rattle.nova_touching.specs.Whom.{AreListed, is_among, is_blocked, whom_by}
use Rattle.nova_touching.specs.declared.whom.Whom.{Whom}
use Rattle.nova_touching.specs.declared.whom.Whom.TheVariants.{Anybody, Nobody, TheBlocked}

-- a context that acts on a processor, where all that are reached are listed
pub record Acting (k : KernelState) (ec cpu : ℕ) (whom : Whom) (processors : List ℕ) : Type 0 where
  pub sound : IsSound k
  pub actor : IsActor k.contexts ec
  pub home : cpu_in k.contexts ec ≡ Some cpu
  pub listed : AreListed k whom processors

-- of the processors that are met
abbrev Met : KernelState → ℕ → List ℕ → ℕ → Type 0
Met k cpu processors n = IsMet k (cpu ∷ processors) (processor_of k n)

there_at : (k : KernelState) (n cpu : ℕ) → cpu_in k.contexts n ≡ Some cpu → IsSome (context_at k n)
there_at k n cpu is = by_entry (context_at k n) is
  where
    by_entry : (o : Option EcState) → option_map (λ (x : EcState). x.cpu) o ≡ Some cpu → IsSome o
    by_entry (Some x) h = refl
    by_entry None h = absurd cc

number_at : (k : KernelState) (n cpu : ℕ) → HasTables k → cpu_in k.contexts n ≡ Some cpu → processor_of k n ≡ cpu
number_at k n cpu tables is = same_Some (processor_of k n) cpu (sym (at_home k n (there_at k n cpu is) tables) ∙ is)

-- one on the same processor is met
near : (k : KernelState) (ec cpu n : ℕ) (whom : Whom) (processors : List ℕ) → Acting k ec cpu whom processors → cpu_in k.contexts n ≡ cpu_in k.contexts ec → Met k cpu processors n
near k ec cpu n whom processors a same = λ chosen.
    subst (λ (c : ℕ). Contains (cpu ∷ processors) c) (sym (number_at k n cpu a.sound.kept.tables (same ∙ a.home))) (contains_from_in (cpu ∷ processors) cpu (inl refl))

itself : (k : KernelState) (ec cpu : ℕ) (whom : Whom) (processors : List ℕ) → Acting k ec cpu whom processors → Met k cpu processors ec
itself k ec cpu whom processors a = near k ec cpu ec whom processors a refl

-- one that is listed
further : (k : KernelState) (cpu n : ℕ) (whom : Whom) (processors : List ℕ) (x : EcState) → HasTables k → AreListed k whom processors → context_at k n ≡ Some x →
    is_among whom x.state ≡ true → Met k cpu processors n
further k cpu n whom processors x tables listed there among = λ chosen.
    let its : processor_of k n ≡ x.cpu = number_at k n x.cpu tables (ap (option_map (λ (y : EcState). y.cpu)) there) in
    contains_from_in (cpu ∷ processors) (processor_of k n)
    (inr (in_from_contains processors (processor_of k n) (subst (λ (c : ℕ). Contains processors c) (sym its) (listed n x there among (subst (λ (c : ℕ). IsSome (choose k c)) its chosen)))))

blocked_met : (k : KernelState) (cpu n sm : ℕ) (processors : List ℕ) → HasTables k → AreListed k TheBlocked processors → state_in k.contexts n ≡ Some (Blocked sm) → Met k cpu processors n
blocked_met k cpu n sm processors tables listed is =
    further k cpu n TheBlocked processors (ec_of k.contexts n) tables listed (blocked_there k.contexts n sm is)
    (ap is_blocked (same_Some (ec_of k.contexts n).state (Blocked sm) (sym (ap (option_map (λ (x : EcState). x.state)) (blocked_there k.contexts n sm is)) ∙ is)))

-- the caller that it serves, and a handler that takes its call or its exit, are on its processor
caller_near : (k : KernelState) (ec cpu caller : ℕ) (its : Mark) (whom : Whom) (processors : List ℕ) → Acting k ec cpu whom processors → IsCallerOf k ec caller its → Met k cpu processors caller
caller_near k ec cpu caller its whom processors a serves =
    near k ec cpu caller whom processors a ((a.sound.kept.served.linked caller ec).cpu its (ap caller_at a.actor.there ∙ serves))

-- a processor on which somebody is chosen has a context
chosen_met : (k : KernelState) (cpu other : ℕ) (processors : List ℕ) → IsSound k → AreListed k Anybody processors → IsMet k (cpu ∷ processors) other
chosen_met k cpu other processors sound listed = by_choice (choice k other) refl
  where
    by_entry : (c : Candidate) (o : Option EcState) → context_at k c.actor ≡ o → option_map (λ (x : EcState). x.cpu) o ≡ Some other → IsSome (choose k other) → Contains processors other
    by_entry c None there home some = absurd cc
    by_entry c (Some x) there home some =
        let its : x.cpu ≡ other = same_Some x.cpu other home in
        subst (λ (n : ℕ). Contains processors n) its (listed c.actor x there refl (subst (λ (n : ℕ). IsSome (choose k n)) (sym its) some))

    by_choice : (o : Option Candidate) → choice k other ≡ o → IsMet k (cpu ∷ processors) other
    by_choice None none = λ some. absurd (let no : IsSome {T = ℕ} None = subst (λ (o : Option Candidate). IsSome (option_map {U = ℕ} (λ (c : Candidate). c.sc) o)) none some in cc)
    by_choice (Some c) is = λ some.
        let home = chosen_home k other c sound is in
        contains_from_in (cpu ∷ processors) other (inr (in_from_contains processors other (by_entry c (context_at k c.actor) refl home some)))

-- COLUMNS OF AN EFFECT

abbrev AllMet : KernelState → ℕ → List ℕ → Edits → Type 0
AllMet k cpu processors es = AllByRecursion (Met k cpu processors) (map (λ (edit : ℕ × Edit). edit.0) es)

steps_met : (k : KernelState) (ec cpu : ℕ) (processors : List ℕ) (o : Once) → Met k cpu processors ec → AllMet k cpu processors (steps_by ec o)
steps_met k ec cpu processors (Raised reason q0 q1) own = tt
steps_met k ec cpu processors (Went regs store) own = (own, tt)

recalls_met : (k : KernelState) (ec cpu whose : ℕ) (processors : List ℕ) (o : Option EcState) → Acting k ec cpu Anybody processors →
    ec_in (edit_at k.contexts ec (Answers Success None)) whose ≡ o → AllMet k cpu processors (recalls_by whose o)
recalls_met k ec cpu whose processors None a is = tt
recalls_met k ec cpu whose processors (Some x) a is = (
  elim (cases_eq whose ec) [
    | inl same ↦ subst (λ (n : ℕ). Met k cpu processors n) (sym same) (itself k ec cpu Anybody processors a)
    | inr other ↦ further k cpu whose Anybody processors x a.sound.kept.tables a.listed (sym (entry_other k.contexts ec whose _ other) ∙ is) refl
  ],
  tt,
)

wakes_met : (k : KernelState) (ec cpu sm : ℕ) (processors : List ℕ) (o : Option ℕ) → Acting k ec cpu TheBlocked processors → woken (semaphore k.semaphores sm) ≡ Ok o →
    AllMet k cpu processors (wakes_by o)
wakes_met k ec cpu sm processors None a is = tt
wakes_met k ec cpu sm processors (Some w) a is =
    (blocked_met k cpu w sm processors a.sound.kept.tables a.listed (woken_blocked k sm w is a.sound.kept.blocked), tt)

follows_met : (k : KernelState) (ec cpu : ℕ) (m : List ℕ) (processors : List ℕ) (after : Sequel) → Acting k ec cpu Nobody processors → Follows k ec after → AllMet k cpu processors (follows_by ec m after)
follows_met k ec cpu m processors (sequel.Replied caller came) a follows = (itself k ec cpu Nobody processors a, (caller_near k ec cpu caller came Nobody processors a follows, tt))
follows_met k ec cpu m processors other a follows = (itself k ec cpu Nobody processors a, tt)

edits_met : (k : KernelState) (ec cpu : ℕ) (processors : List ℕ) (d : Deed) → Asks k ec d → Acting k ec cpu (whom_by d) processors → AllMet k cpu processors (edits_by k ec d)
edits_met k ec cpu processors Steps asks a = steps_met k ec cpu processors (instruction k ec) (itself k ec cpu Nobody processors a)
edits_met k ec cpu processors (Sends handler ip identifier mtd reason q0 q1) asks a =
    (itself k ec cpu Nobody processors a, (near k ec cpu handler Nobody processors a (exit_reaches k.contexts ec handler asks.admits).may.one_processor, tt))
edits_met k ec cpu processors (Calls handler ip identifier items) asks a =
    (itself k ec cpu Nobody processors a, (near k ec cpu handler Nobody processors a (send_reaches k.contexts ec handler asks.flag asks.admits).may.one_processor, tt))
edits_met k ec cpu processors (Recalls whose) asks a = (itself k ec cpu Anybody processors a, recalls_met k ec cpu whose processors _ a refl)
edits_met k ec cpu processors (Finishes item end words after) asks a = follows_met k ec cpu _ processors after a asks.1
edits_met k ec cpu processors (Replies caller came true) asks a = (itself k ec cpu Nobody processors a, tt)
edits_met k ec cpu processors (Replies caller came false) asks a = (itself k ec cpu Nobody processors a, (caller_near k ec cpu caller came Nobody processors a asks, tt))
edits_met k ec cpu processors (Ups sm whom) asks a = (itself k ec cpu TheBlocked processors a, wakes_met k ec cpu sm processors whom a asks.1)
edits_met k ec cpu processors Rests asks a = tt
edits_met k ec cpu processors (Gives child cursor) asks a = tt
edits_met k ec cpu processors (Skips reason place cursor) asks a = tt
edits_met k ec cpu processors (Removes leaf) asks a = tt
edits_met k ec cpu processors other asks a = (itself k ec cpu (whom_by other) processors a, tt)

-- of the execution context of an entry
abbrev EntryMet : {T : Type 0} → KernelState → ℕ → List ℕ → Option (ℕ × T) → Type 0
EntryMet k cpu processors o = IfSome o (λ p. Met k cpu processors p.0)

stored_met : (k : KernelState) (ec cpu : ℕ) (processors : List ℕ) (a : AddressSpace) (o : Option Store) → Met k cpu processors ec → EntryMet k cpu processors (store_words a ec o)
stored_met k ec cpu processors a None own = tt
stored_met k ec cpu processors a (Some s) own = by_words (words_at a s.address)
  where
    by_words : (o : Option (List ℕ)) → EntryMet k cpu processors (words_stored ec s o)
    by_words None = tt
    by_words (Some m) = own

item_met : (k : KernelState) (ec cpu item : ℕ) (processors : List ℕ) (o : Option ItemWords) → Acting k ec cpu Nobody processors → TellsIn k ec o → EntryMet k cpu processors (item_words k item o)
item_met k ec cpu item processors None a tells = tt
item_met k ec cpu item processors (Some w) a (inl same) = subst (λ (n : ℕ). Met k cpu processors n) (sym same) (itself k ec cpu Nobody processors a)
item_met k ec cpu item processors (Some w) a (inr serves) = caller_near k ec cpu w.ec mark.Call Nobody processors a serves

words_met : (k : KernelState) (ec cpu : ℕ) (processors : List ℕ) (d : Deed) → Asks k ec d → Acting k ec cpu (whom_by d) processors → EntryMet k cpu processors (words_by k ec d)
words_met k ec cpu processors Steps asks a = stored_met k ec cpu processors (address_space k ec) (store_of (instruction k ec)) (itself k ec cpu Nobody processors a)
words_met k ec cpu processors (Sends handler ip identifier mtd reason q0 q1) asks a =
    near k ec cpu handler Nobody processors a (exit_reaches k.contexts ec handler asks.admits).may.one_processor
words_met k ec cpu processors (Calls handler ip identifier items) asks a =
    near k ec cpu handler Nobody processors a (send_reaches k.contexts ec handler asks.flag asks.admits).may.one_processor
words_met k ec cpu processors (Replies caller mark.Call items) asks a = caller_near k ec cpu caller mark.Call Nobody processors a asks
words_met k ec cpu processors (Finishes item end words after) asks a = item_met k ec cpu item processors words a asks.0
words_met k ec cpu processors other asks a = tt

deadline_met : (k : KernelState) (ec cpu : ℕ) (processors : List ℕ) (d : Deed) → Asks k ec d → Acting k ec cpu (whom_by d) processors → EntryMet k cpu processors (deadline_by ec d)
deadline_met k ec cpu processors (Ups sm None) asks a = tt
deadline_met k ec cpu processors (Ups sm (Some w)) asks a = blocked_met k cpu w sm processors a.sound.kept.tables a.listed (woken_blocked k sm w asks.1 a.sound.kept.blocked)
deadline_met k ec cpu processors (Blocks sm None) asks a = tt
deadline_met k ec cpu processors (Blocks sm (Some until)) asks a = itself k ec cpu Nobody processors a
deadline_met k ec cpu processors other asks a = tt

made_met : (k : KernelState) (ec cpu other : ℕ) (processors : List ℕ) (d : Deed) → Acting k ec cpu (whom_by d) processors → processor_given (made_by d) ≡ Some other → IsMet k (cpu ∷ processors) other
made_met k ec cpu other processors (Makes call target (new.Sc whose its priority quantum)) a is = chosen_met k cpu other processors a.sound a.listed
made_met k ec cpu other processors (Makes call target made) a is = absurd cc
made_met k ec cpu other processors d a is = absurd cc

-- TURNS

at_entry : {T : Type 0} (k : KernelState) (cpu n : ℕ) (x : T) (processors : List ℕ) (o : Option (ℕ × T)) → EntryMet k cpu processors o → o ≡ Some (n, x) → Met k cpu processors n
at_entry k cpu n x processors o met is = subst (λ p. EntryMet k cpu processors p) is met

pub deed_within : (k : KernelState) (ec cpu : ℕ) (processors : List ℕ) (d : Deed) → Asks k ec d → Acting k ec cpu (whom_by d) processors → ChangesWithin k (effect k ec d) (cpu ∷ processors)
deed_within k ec cpu processors d asks a = record {
  contexts = λ n there. all_at (Met k cpu processors) (contexts_changed (effect k ec d)) n (edits_met k ec cpu processors d asks a) (in_from_contains (contexts_changed (effect k ec d)) n there);
  words = λ n words is. at_entry k cpu n words processors (words_by k ec d) (words_met k ec cpu processors d asks a) is;
  deadline = λ n until is. at_entry k cpu n until processors (deadline_by ec d) (deadline_met k ec cpu processors d asks a) is;
  made = λ other is. made_met k ec cpu other processors d a is;
}

ends_met : (k : KernelState) (cpu : ℕ) (processors : List ℕ) (o : Option (ℕ × Status)) → HasTables k → AreListed k TheBlocked processors → IsEnding k.contexts o → AllMet k cpu processors (ends_by o)
ends_met k cpu processors None tables listed ending = tt
ends_met k cpu processors (Some (w, status)) tables listed ending = (blocked_met k cpu w ending.0 processors tables listed ending.1, tt)

clears_met : (k : KernelState) (cpu : ℕ) (processors : List ℕ) (o : Option (ℕ × Status)) → HasTables k → AreListed k TheBlocked processors → IsEnding k.contexts o → EntryMet k cpu processors (clears_by o)
clears_met k cpu processors None tables listed ending = tt
clears_met k cpu processors (Some (w, status)) tables listed ending = blocked_met k cpu w ending.0 processors tables listed ending.1

pub ending_within : (k : KernelState) (cpu : ℕ) (processors : List ℕ) (p : Passing) → HasTables k → AreListed k TheBlocked processors → IsEnding k.contexts (passing_ends k p) →
    ChangesWithin k (passing_effect k p) (cpu ∷ processors)
ending_within k cpu processors p tables listed ending = record {
  contexts = λ n there. all_at (Met k cpu processors) (contexts_changed (passing_effect k p)) n (ends_met k cpu processors (passing_ends k p) tables listed ending)
      (in_from_contains (contexts_changed (passing_effect k p)) n there);
  words = λ n words is. absurd cc;
  deadline = λ n until is. at_entry k cpu n until processors (clears_by (passing_ends k p)) (clears_met k cpu processors (passing_ends k p) tables listed ending) is;
  made = λ other is. absurd cc;
}
