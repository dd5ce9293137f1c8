-- Whose message words a deed writes, and by what right.
use Rattle.std.proofs.Common.{◌≡◌, ℕ, ◌%◌, List, refl, sym, ◌∙◌, subst}
use Rattle.std.specs.Prelude.{Option, Some, None}
use Rattle.std.proofs.lemmas.Option.{same_Some}
use Rattle.rv_model.specs.Step.{Store}
use Rattle.nova_utcb.specs.Messages.{stored}
use Rattle.nova_model.specs.Deeds.{address_space, deed, instruction}
use Rattle.nova_model.specs.Inputs.{store_of}
use Rattle.nova_model.specs.State.{KernelState, is_local_thread, message}
use Rattle.nova_model.specs.declared.context.Mark.TheVariants as mark
use Rattle.nova_model.specs.declared.deed.Deed.{Deed}
use Rattle.nova_model.specs.declared.deed.Deed.TheVariants as deeds
use Rattle.law_forest.specs.Effects.{store_words, words_by}
use Rattle.law_turns.specs.Links.{AreServed}
use Rattle.law_turns.proofs.Referring.{Asks}
use Rattle.law_turns.proofs.Serving.{IsActor, awaited, exit_reaches, send_reaches}
use Rattle.law_integrity.specs.Rightful.{IsRightful}
use Rattle.law_integrity.specs.Integrity.{CopiesCall, CopiesExit, CopiesReply, MessageBy, StoresOwn, TellsItem}
use Rattle.law_integrity.proofs.Own.{exits_at, reached_parked}
use Rattle.law_integrity.proofs.Stores.{among_words, stores_of}

-- of the context whose words are written
abbrev Written : KernelState → ℕ → ℕ → List ℕ → Type 0
Written k ec n m = MessageBy k ec n (Some m)

-- what is right for the context whose words are written is right for the context of this number
abbrev of_one : ℕ → List ℕ → Option (ℕ × List ℕ)
of_one n m = Some (n, m)

at_number : (k : KernelState) (ec to n : ℕ) (new m : List ℕ) → Written k ec to new → of_one to new ≡ of_one n m → Written k ec n m
at_number k ec to n new m right is = subst (λ (q : ℕ × List ℕ). Written k ec q.0 q.1) (same_Some (to, new) (n, m) is) right

own_words : (k : KernelState) (ec n : ℕ) (m : List ℕ) → deed k ec ≡ deeds.Steps → (o : Option Store) → store_of (instruction k ec) ≡ o → store_words (address_space k ec) ec o ≡ Some (n, m) →
    Written k ec n m
own_words k ec n m steps None is e = absurd (cc)
own_words k ec n m steps (Some s) is e =
    let own = among_words k ec n s m e in
    at_number k ec ec n (stored (message k ec) (s.address % 4096) s.width s.value) m (StoresOwn refl s (stores_of k ec s steps is) own.1 refl) (sym own.2 ∙ e)

pub message_by : (k : KernelState) (ec n : ℕ) (d : Deed) (m : List ℕ) → deed k ec ≡ d → IsRightful k ec d → Asks k ec d → IsActor k.contexts ec → AreServed (is_local_thread k) k.contexts →
    words_by k ec d ≡ Some (n, m) → Written k ec n m
message_by k ec n deeds.Steps m is r asks actor served e = own_words k ec n m is (store_of (instruction k ec)) refl e
message_by k ec n (deeds.Calls handler ip number items) m is r asks actor served e = at_number k ec handler n _ m (CopiesCall r.at (reached_parked k ec handler (send_reaches k.contexts ec handler _ r.admits)) refl) e
message_by k ec n (deeds.Sends handler ip number mtd reason q0 q1) m is r asks actor served e =
    at_number k ec handler n _ m (CopiesExit (exits_at k ec handler ip number mtd.0 reason q0 q1 _ r) (reached_parked k ec handler (exit_reaches k.contexts ec handler r.admits)) refl) e
message_by k ec n (deeds.Replies caller mark.Call items) m is r asks actor served e = at_number k ec caller n _ m (CopiesReply r.serves (awaited (is_local_thread k) k.contexts ec caller mark.Call actor r.serves served).waits refl) e
message_by k ec n (deeds.Replies caller mark.Exit items) m is r asks actor served e = absurd (cc)
message_by k ec n (deeds.Finishes item end None after) m is r asks actor served e = absurd (cc)
message_by k ec n (deeds.Finishes item end (Some w) after) m is r asks actor served e = at_number k ec w.ec n _ m (TellsItem asks.0 item end w r.1 refl refl) e
message_by k ec n other m is r asks actor served e = absurd (cc)
