-- The message words from which items are given stay: which context writes where, and what a deed shows of items.
use Rattle.std.proofs.Common.{◌≡◌, ◌<◌, ◌≤◌, ℕ, List, [], ◌∷◌, ◌++◌, refl, ap, ◌∙◌, subst, arith}
use Rattle.std.specs.Prelude.{◌≢◌, Bool, true, false, if◌then◌else◌, slice_get, slice_set, Option, Some, None, option_map, Ok}
use Rattle.std.proofs.lemmas.Bool.Decides.{nat_tests}
use Rattle.nova_calls.specs.declared.call.Call.{Call}
use Rattle.nova_calls.specs.declared.call.Call.TheVariants as asks
use Rattle.nova_calls.specs.declared.numbers.TheConstants.{CREATE_EC, CREATE_SC, CREATE_PT, CREATE_SM, SC_CTRL}
use Rattle.nova_objects.specs.declared.object.Object.{Object}
use Rattle.nova_objects.specs.declared.object.Object.TheVariants.{Pd, Ec, Sc, Pt, Sm}
use Rattle.nova_objects.specs.declared.object.EcKind.TheVariants.{Local, Global, Vcpu}
use Rattle.nova_range.specs.declared.range.Range.{Range}
use Rattle.nova_range.specs.declared.rights.Rights.{Rights}
use Rattle.nova_utcb.specs.Messages.{counted_items, has_counts, has_items, items}
use Rattle.nova_model.specs.Capabilities.{is_ec, is_sc, is_pt, named, control_right}
use Rattle.nova_model.specs.Creation.{words_of}
use Rattle.nova_model.specs.Deeds.{deed}
use Rattle.nova_model.specs.Deliveries.{delivery, sequel_of, words_for}
use Rattle.nova_model.specs.Edges.{acts, caller_in, is_dead, state_in}
use Rattle.nova_model.specs.Hypercalls.{new_domain, row, ticks_in}
use Rattle.nova_model.specs.State.{KernelState, Contexts, budget_at, context, ec_in, entry, message, message_in, no_words, pd_of, transfer}
use Rattle.nova_model.specs.declared.context.EcState.{EcState}
use Rattle.nova_model.specs.declared.context.Mark.{Mark}
use Rattle.nova_model.specs.declared.context.State.{State}
use Rattle.nova_model.specs.declared.context.State.TheVariants.{Calling, Granting, Replying}
use Rattle.nova_model.specs.declared.deed.Deed.{Deed}
use Rattle.nova_model.specs.declared.deed.Deed.TheVariants.{Recalls, Tells, Names, Finishes, Calls, Replies}
use Rattle.nova_model.specs.declared.new_object.NewObject.TheVariants as new
use Rattle.nova_model.specs.declared.transfer.Delivery.{Delivery}
use Rattle.nova_model.specs.declared.transfer.ItemWords.{ItemWords}
use Rattle.nova_model.specs.declared.transfer.Sequel.{Sequel}
use Rattle.law_forest.proofs.Walk.{IfDone, deed_holds, sm_ctrl_holds}
use Rattle.law_turns.specs.Giving.{source_in}
use Rattle.law_turns.proofs.Rows.{call_holds, makes_hold, named_holds, reply_holds, create_pd_holds}
use Rattle.law_turns.proofs.Awaiting.{Serves, waits_dead}
use Rattle.law_turns.proofs.Setting.{entry_other, more_at}

-- WORDS

abbrev pub words_in : List (Option (List ℕ)) → ℕ → List ℕ
words_in messages e = message_in (entry (slice_get messages e))

pub other_words : (messages : List (Option (List ℕ))) (w e : ℕ) (m : List ℕ) → e ≢ w → words_in (slice_set messages w (Some m)) e ≡ words_in messages e
other_words messages w e m other = ap (λ (o : Option (List ℕ)). message_in o) (entry_other messages w e m other)

new_words : (o : Object) → message_in (words_of o) ≡ no_words
new_words Pd = refl
new_words (Ec pd cpu Local event) = refl
new_words (Ec pd cpu Global event) = refl
new_words (Ec pd cpu Vcpu event) = refl
new_words (Sc ec cpu priority quantum) = refl
new_words (Pt ec mtd ip) = refl
new_words Sm = refl

pub more_words : (messages : List (Option (List ℕ))) (o : Object) (e : ℕ) → words_in (messages ++ words_of o ∷ []) e ≡ words_in messages e
more_words messages o e = more_at (λ y. message_in y ≡ words_in messages e) messages (words_of o) e refl (λ old. new_words o ∙ old)

-- at most 62 items are counted, and some where there are any and their counts fit
pub few_items : (m : List ℕ) → counted_items m ≤ 62
few_items m = by_test (has_counts m) refl
  where
    by_test : (t : Bool) → has_counts m ≡ t → (if t then items m else 0) ≤ 62
    by_test true is = grind (arith, nat_tests)
    by_test false is = omega arith

pub some_items : (m : List ℕ) → has_counts m ≡ true → has_items m ≡ true → 0 < counted_items m
some_items m counts some =
    let same : counted_items m ≡ items m = ap (λ (t : Bool). if t then items m else 0) counts in
    let any : 0 < items m = grind (arith, nat_tests) in
    rw same any

-- WHOSE WORDS ITEMS ARE GIVEN FROM

abbrev pub NoSource : Contexts → ℕ → Type 0
NoSource cs w = (e : ℕ) (x : EcState) → ec_in cs e ≡ Some x → source_in e x.state x.caller ≡ Some w → ⊥

pub no_source : (cs : Contexts) (w : ℕ) → Serves cs → (state_in cs w ≡ Some Replying → ⊥) →
    ((e : ℕ) → state_in cs w ≡ Some (Calling e) → state_in cs e ≡ Some (Granting None) → ⊥) → NoSource cs w
no_source cs w serves not_replying not_taken e x is of = by_state x.state refl x.caller refl of
  where
    state_is : (s : State) → x.state ≡ s → state_in cs e ≡ Some s
    state_is s at = ap (λ (o : Option EcState). option_map (λ y. y.state) o) is ∙ ap Some at

    caller_is : (c : Option (ℕ × Mark)) → x.caller ≡ c → caller_in cs e ≡ c
    caller_is c at = rw is at

    by_state : (s : State) → x.state ≡ s → (c : Option (ℕ × Mark)) → x.caller ≡ c → source_in e s c ≡ Some w → ⊥
    by_state (Granting None) at (Some (c, mark)) has from =
        let same : c ≡ w = cc in
        let taking = state_is (Granting None) at in
        let waits = serves e c mark (ap is_dead taking) (caller_is (Some (c, mark)) has) in
        not_taken e (subst (λ (n : ℕ). state_in cs n ≡ Some (Calling e)) same waits) taking
    by_state (Granting None) at None has from = absurd (cc)
    by_state (Granting (Some new)) at c has from = absurd (cc)
    by_state Replying at c has from =
        let same : e ≡ w = cc in
        not_replying (subst (λ (n : ℕ). state_in cs n ≡ Some Replying) same (state_is Replying at))
    by_state other at c has from = absurd (cc)

-- a context that acts and does not reply
pub actor_none : (cs : Contexts) (a : ℕ) → acts cs a ≡ true → Serves cs → (state_in cs a ≡ Some Replying → ⊥) → NoSource cs a
actor_none cs a able serves not_replying =
    no_source cs a serves not_replying (λ e waits taking.
    (let dead = waits_dead cs a e able waits in let alive = ap is_dead taking in absurd (cc)))

-- WHAT A DEED SHOWS OF ITEMS

pub record IsFinish (k : KernelState) (ec item : ℕ) (words : Option ItemWords) (after : Sequel) : Type 0 where
  pub present_item : Delivery
  pub present : delivery k ec (context k ec).state ≡ Some present_item
  pub number : item ≡ (transfer k ec).item
  pub first : ℕ
  pub second : ℕ
  pub told : words ≡ words_for present_item.told first second
  pub follows : after ≡ sequel_of present_item (transfer k ec).item

abbrev pub Shows : KernelState → ℕ → Deed → Type 0
Shows k ec (Finishes item end words after) = IsFinish k ec item words after
Shows k ec (Calls handler ip identifier some) = (has_counts (message k ec) ≡ true) × (some ≡ has_items (message k ec))
Shows k ec (Replies caller mark some) = (has_counts (message k ec) ≡ true) × (some ≡ has_items (message k ec))
Shows k ec other = Unit {0}

domain_shows : (k : KernelState) (ec target : ℕ) (first : Option (Range × Rights)) → Shows k ec (new_domain k target first)
domain_shows k ec target None = tt
domain_shows k ec target (Some range) = tt

row_shows : (k : KernelState) (ec domain : ℕ) (c : Call) → IfDone (Shows k ec) (row k ec domain c)
row_shows k ec domain (asks.Call portal flag) = call_holds (Shows k ec) k ec domain portal flag (λ pt is. (is.counts, refl)) (λ pt is. tt)
row_shows k ec domain asks.Reply = reply_holds (Shows k ec) k ec (λ caller mark is. (is.counts, refl))
row_shows k ec domain (asks.CreatePd target pd first) =
    create_pd_holds (Shows k ec) k domain target pd first (domain_shows k ec target first)
row_shows k ec domain (asks.CreateEc target pd cpu kind sp event) =
    makes_hold (Shows k ec) CREATE_EC target (λ made. tt) k domain pd _
row_shows k ec domain (asks.CreateSc target pd its quantum priority) = makes_hold (Shows k ec) CREATE_SC target (λ made. tt) k domain pd _
row_shows k ec domain (asks.CreatePt target pd handler mtd ip) = makes_hold (Shows k ec) CREATE_PT target (λ made. tt) k domain pd _
row_shows k ec domain (asks.CreateSm target pd count) = makes_hold (Shows k ec) CREATE_SM target (λ made. tt) k domain pd (λ o. Ok (new.Sm count))
row_shows k ec domain (asks.EcCtrl other) = named_holds (Shows k ec) (named k domain is_ec control_right other) (λ n. Recalls n) (λ n. tt)
row_shows k ec domain (asks.ScCtrl sc) =
    named_holds (Shows k ec) (named k domain is_sc control_right sc) (λ n. Tells SC_CTRL (ticks_in (budget_at k n))) (λ n. tt)
row_shows k ec domain (asks.PtCtrl pt identifier) = named_holds (Shows k ec) (named k domain is_pt control_right pt) (λ n. Names n identifier) (λ n. tt)
row_shows k ec domain (asks.SmCtrl sm action) =
    sm_ctrl_holds (Shows k ec) k ec domain sm action (λ n whom is wakes. tt) (λ n is answers. tt) (λ n until is answers till. tt)
row_shows k ec domain other = tt

pub deed_shows : (k : KernelState) (ec : ℕ) → Shows k ec (deed k ec)
deed_shows k ec =
    deed_holds (Shows k ec) k ec tt
    (record {
      steps = tt;
      raises = λ reason q0 q1. tt;
      dies = λ reason q0. tt;
      refuses = λ number status. tt;
      waits = λ pt reason q0 q1 is. tt;
      sends = λ pt reason q0 q1 is. tt;
      aborts = λ handler is. tt;
      removes = λ range own leaf is next. tt;
      returns = λ range own is next. tt;
      rows = λ asks c is. row_shows k ec (pd_of k ec) c;
    })
    (record {
      gives = λ d x g. tt;
      skips = λ d reason place is. tt;
      finishes = λ v end answer present is.
          record { present_item = v; present = present; number = refl; first = answer; second = _; told = refl; follows = refl };
    })
