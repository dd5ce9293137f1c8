-- A context that gives items is at one of them: what is kept of it where tables change.
use Rattle.std.proofs.Common.{◌≡◌, ◌<◌, ℕ, List, [], ◌∷◌, ◌++◌, refl, ap, ◌∙◌, sym, subst}
use Rattle.std.specs.Prelude.{true, false, slice_set, Option, Some, None, option_map}
use Rattle.nova_objects.specs.declared.object.EcKind.{EcKind}
use Rattle.nova_objects.specs.declared.object.EcKind.TheVariants.{Local, Global, Vcpu}
use Rattle.nova_objects.specs.declared.object.Object.{Object}
use Rattle.nova_utcb.specs.Messages.{counted_items}
use Rattle.nova_model.specs.Creation.{context_of, transfer_of, words_of}
use Rattle.nova_model.specs.Deliveries.{delivery, given_to, taken_from, words_for}
use Rattle.nova_model.specs.Edges.{acts, state_in, is_giving}
use Rattle.nova_model.specs.Runs.{after}
use Rattle.nova_model.specs.State.{KernelState, Contexts, context, context_in, ec_in, ec_of, transfer, transfer_in, with_ec}
use Rattle.nova_model.specs.declared.context.EcState.{EcState}
use Rattle.nova_model.specs.declared.context.Mark.{Mark}
use Rattle.nova_model.specs.declared.context.Mark.TheVariants as mark
use Rattle.nova_model.specs.declared.context.State.{State}
use Rattle.nova_model.specs.declared.context.State.TheVariants.{Parked, Calling, Granting, Replying}
use Rattle.nova_model.specs.declared.new_object.NewObject.{NewObject}
use Rattle.nova_model.specs.declared.new_object.NewObject.TheVariants as new
use Rattle.nova_model.specs.declared.transfer.ItemWords.{ItemWords}
use Rattle.nova_model.specs.declared.transfer.Sequel.{Sequel}
use Rattle.nova_model.specs.declared.transfer.Transfer.{Transfer}
use Rattle.law_forest.proofs.Doing.{set_at}
use Rattle.law_turns.specs.Giving.{source_in}
use Rattle.law_turns.proofs.Giving.{at, new_transfer}
use Rattle.law_turns.proofs.Setting.{more_at}
use Rattle.law_turns.proofs.Messages.{IsFinish, NoSource, actor_none, more_words, no_source, words_in}
use Rattle.law_turns.proofs.Awaiting.{Serves, served_waits}

-- WHERE THEY ARE

abbrev pub Bounded : List (Option (List ℕ)) → ℕ → State → Option (ℕ × Mark) → Transfer → Type 0
Bounded ms e (Granting (Some new)) c t = t.item ≡ 0
Bounded ms e (Granting None) (Some (c, mark)) t = t.item < counted_items (words_in ms c)
Bounded ms e (Granting None) None t = Unit {0}
Bounded ms e Replying c t = t.item < counted_items (words_in ms e)
Bounded ms e other c t = Unit {0}

abbrev pub BoundedEntry : List (Option (List ℕ)) → ℕ → Option EcState → Transfer → Type 0
BoundedEntry ms e None t = Unit {0}
BoundedEntry ms e (Some x) t = Bounded ms e x.state x.caller t

abbrev pub AreBounded : List (Option (List ℕ)) → Contexts → List (Option Transfer) → Type 0
AreBounded ms cs ts = (e : ℕ) → BoundedEntry ms e (ec_in cs e) (at ts e)

abbrev pub Bound : KernelState → Type 0
Bound k = AreBounded k.messages k.contexts k.transfers

pub quiet_bounded : (ms : List (Option (List ℕ))) (e : ℕ) (s : State) (c : Option (ℕ × Mark)) (t : Transfer) → is_giving s ≡ false → Bounded ms e s c t
quiet_bounded ms e (Granting new) c t quiet = absurd (cc)
quiet_bounded ms e Replying c t quiet = absurd (cc)
quiet_bounded ms e other c t quiet = tt

pub same_item : (ms : List (Option (List ℕ))) (e : ℕ) (s : State) (c : Option (ℕ × Mark)) (t u : Transfer) → u.item ≡ t.item → Bounded ms e s c t → Bounded ms e s c u
same_item ms e (Granting (Some new)) c t u same h = same ∙ h
same_item ms e (Granting None) (Some (c, mark)) t u same h = subst (λ (n : ℕ). n < counted_items (words_in ms c)) (sym same) h
same_item ms e (Granting None) None t u same h = tt
same_item ms e Replying c t u same h = subst (λ (n : ℕ). n < counted_items (words_in ms e)) (sym same) h
same_item ms e other c t u same h = tt

pub entry_item : (ms : List (Option (List ℕ))) (e : ℕ) (o : Option EcState) (t u : Transfer) → u.item ≡ t.item → BoundedEntry ms e o t → BoundedEntry ms e o u
entry_item ms e None t u same h = tt
entry_item ms e (Some x) t u same h = same_item ms e x.state x.caller t u same h

-- CHANGES OF TABLES

pub set_bounded : (ms : List (Option (List ℕ))) (cs : Contexts) (ts : List (Option Transfer)) (e : ℕ) (x : EcState) → Bounded ms e x.state x.caller (at ts e) →
    AreBounded ms cs ts → AreBounded ms (with_ec cs e x) ts
set_bounded ms cs ts e x now h f =
    set_at (λ o. BoundedEntry ms f o (at ts f)) cs e f x (h f) (λ same. subst (λ (n : ℕ). Bounded ms n x.state x.caller (at ts n)) (sym same) now)

pub rests_bounded : (ms : List (Option (List ℕ))) (cs : Contexts) (ts : List (Option Transfer)) (e : ℕ) (x : EcState) → is_giving x.state ≡ false → AreBounded ms cs ts →
    AreBounded ms (with_ec cs e x) ts
rests_bounded ms cs ts e x quiet h = set_bounded ms cs ts e x (quiet_bounded ms e x.state x.caller (at ts e) quiet) h

pub give_bounded : (ms : List (Option (List ℕ))) (cs : Contexts) (ts : List (Option Transfer)) (e : ℕ) (t : Transfer) → BoundedEntry ms e (ec_in cs e) t → AreBounded ms cs ts →
    AreBounded ms cs (slice_set ts e (Some t))
give_bounded ms cs ts e t now h f =
    set_at (λ o. BoundedEntry ms f (ec_in cs f) (transfer_in o)) ts e f t (h f) (λ same. subst (λ (n : ℕ). BoundedEntry ms n (ec_in cs n) t) (sym same) now)

-- other words, where those from which items are given stay
pub reword : (ms ns : List (Option (List ℕ))) (cs : Contexts) (ts : List (Option Transfer)) →
    ((e g : ℕ) (x : EcState) → ec_in cs e ≡ Some x → source_in e x.state x.caller ≡ Some g → words_in ns g ≡ words_in ms g) → AreBounded ms cs ts → AreBounded ns cs ts
reword ms ns cs ts same h e = by_entry (ec_in cs e) refl (h e)
  where
    by_state : (s : State) (c : Option (ℕ × Mark)) → ((g : ℕ) → source_in e s c ≡ Some g → words_in ns g ≡ words_in ms g) →
        Bounded ms e s c (at ts e) → Bounded ns e s c (at ts e)
    by_state (Granting (Some new)) c stay now = now
    by_state (Granting None) (Some (c, mark)) stay now = subst (λ (m : List ℕ). (at ts e).item < counted_items m) (sym (stay c refl)) now
    by_state (Granting None) None stay now = tt
    by_state Replying c stay now = subst (λ (m : List ℕ). (at ts e).item < counted_items m) (sym (stay e refl)) now
    by_state other c stay now = tt

    by_entry : (o : Option EcState) → ec_in cs e ≡ o → BoundedEntry ms e o (at ts e) → BoundedEntry ns e o (at ts e)
    by_entry None is now = tt
    by_entry (Some x) is now = by_state x.state x.caller (λ g of. same e g x is of) now

-- an object joins
pub joins_bounded : (ms : List (Option (List ℕ))) (cs : Contexts) (ts : List (Option Transfer)) (o : Object) (x : Option EcState) →
    ((e : ℕ) (t : Transfer) → BoundedEntry (ms ++ words_of o ∷ []) e x t) → AreBounded ms cs ts →
    AreBounded (ms ++ words_of o ∷ []) (cs ++ x ∷ []) (ts ++ transfer_of o ∷ [])
joins_bounded ms cs ts o x quiet h f =
    let ns = ms ++ words_of o ∷ [] in
    let worded = reword ms ns cs ts (λ e g y is of. more_words ms o g) h in
    more_at (λ y. BoundedEntry ns f (ec_in (cs ++ x ∷ []) f) (transfer_in y)) ts (transfer_of o) f
    (more_at (λ y. BoundedEntry ns f y (at ts f)) cs x f (worded f) (λ none. quiet f (at ts f)))
    (λ first. subst (BoundedEntry ns f (ec_in (cs ++ x ∷ []) f)) (sym (new_transfer o)) first)

first_quiet : (kind : EcKind) (ms : List (Option (List ℕ))) (e n cpu sp : ℕ) (t : Transfer) → BoundedEntry ms e (context_of n (new.Ec 0 cpu kind sp 0)) t
first_quiet Local ms e n cpu sp t = tt
first_quiet Global ms e n cpu sp t = tt
first_quiet Vcpu ms e n cpu sp t = tt

pub new_quiet : (n : ℕ) (made : NewObject) (ms : List (Option (List ℕ))) (e : ℕ) (t : Transfer) → BoundedEntry ms e (context_of n made) t
new_quiet n new.Pd ms e t = tt
new_quiet n (new.Ec pd cpu kind sp event) ms e t = first_quiet kind ms e n cpu sp t
new_quiet n (new.Sc ec cpu priority quantum) ms e t = tt
new_quiet n (new.Pt ec mtd ip) ms e t = tt
new_quiet n (new.Sm count) ms e t = tt

-- WHICH CONTEXT WRITES WHERE

pub context_state : (cs : Contexts) (e : ℕ) (s : State) → state_in cs e ≡ Some s → (ec_of cs e).state ≡ s
context_state cs e s is = by_entry (ec_in cs e) is
  where
    by_entry : (o : Option EcState) → option_map (λ y. y.state) o ≡ Some s → (context_in o).state ≡ s
    by_entry None h = absurd (cc)
    by_entry (Some x) h = cc

pub quiet_replies : (k : KernelState) (ec : ℕ) → is_giving (context k ec).state ≡ false → state_in k.contexts ec ≡ Some Replying → ⊥
quiet_replies k ec quiet is = let gives = ap is_giving (context_state k.contexts ec Replying is) in absurd (cc)

-- a context that acts and gives nothing, a parked context, and a context that waits for such a handler
pub own_none : (k : KernelState) (ec : ℕ) → acts k.contexts ec ≡ true → Serves k.contexts → is_giving (context k ec).state ≡ false → NoSource k.contexts ec
own_none k ec able serves quiet = actor_none k.contexts ec able serves (quiet_replies k ec quiet)

pub parked_none : (cs : Contexts) (w : ℕ) → Serves cs → state_in cs w ≡ Some Parked → NoSource cs w
parked_none cs w serves idle = no_source cs w serves (λ is. absurd (cc)) (λ e is taking. absurd (cc))

pub waiting_none : (cs : Contexts) (a w : ℕ) → Serves cs → state_in cs w ≡ Some (Calling a) → (state_in cs a ≡ Some (Granting None) → ⊥) → NoSource cs w
waiting_none cs a w serves waits not_taking =
    no_source cs w serves (λ is. absurd (cc)) (λ e is taking.
    (let both : Some (Calling a) ≡ Some (Calling e) = sym waits ∙ is in
    let same : a ≡ e = cc in
    not_taking (subst (λ (n : ℕ). state_in cs n ≡ Some (Granting None)) (sym same) taking)))

-- the context that is told of an item
abbrev told_in : Option ItemWords → Option ℕ
told_in None = None
told_in (Some w) = Some w.ec

told_for : (o : Option ℕ) (first second : ℕ) → told_in (words_for o first second) ≡ o
told_for None first second = refl
told_for (Some ec) first second = refl

pub told_none : (k : KernelState) (ec item : ℕ) (w : ItemWords) (after : Sequel) → acts k.contexts ec ≡ true → Serves k.contexts → IsFinish k ec item (Some w) after →
    NoSource k.contexts w.ec
told_none k ec item w after able serves f = by_entry (ec_in k.contexts ec) refl
  where
    told : f.present_item.told ≡ Some w.ec
    told = sym (told_for f.present_item.told f.first f.second) ∙ sym (ap told_in f.told)

    by_taker : state_in k.contexts ec ≡ Some (Granting None) → (c : Option (ℕ × Mark)) → taken_from k ec (transfer k ec).item c ≡ Some f.present_item → NoSource k.contexts w.ec
    by_taker taking None is = absurd (cc)
    by_taker taking (Some (caller, mark)) is =
        let same : Some ec ≡ f.present_item.told = cc in
        let who : ec ≡ w.ec = let both : Some ec ≡ Some w.ec = same ∙ told in cc in
        subst (NoSource k.contexts) who (actor_none k.contexts ec able serves (λ replying. absurd (cc)))

    by_replier : state_in k.contexts ec ≡ Some Replying → (c : Option (ℕ × Mark)) → (context k ec).caller ≡ c → given_to k ec (transfer k ec).item c ≡ Some f.present_item →
        NoSource k.contexts w.ec
    by_replier replying None has is = absurd (cc)
    by_replier replying (Some (caller, mark.Exit)) has is =
        let none : None ≡ f.present_item.told = cc in
        let both : None ≡ Some w.ec = none ∙ told in absurd (cc)
    by_replier replying (Some (caller, mark.Call)) has is =
        let same : Some caller ≡ f.present_item.told = cc in
        let who : caller ≡ w.ec = let both : Some caller ≡ Some w.ec = same ∙ told in cc in
        subst (NoSource k.contexts) who
        (waiting_none k.contexts ec caller serves (served_waits k ec caller mark.Call able serves has) (λ taking. absurd (cc)))

    by_state : (s : State) → state_in k.contexts ec ≡ Some s → delivery k ec s ≡ Some f.present_item → NoSource k.contexts w.ec
    by_state (Granting (Some new)) is present =
        let none : None ≡ f.present_item.told = cc in
        let both : None ≡ Some w.ec = none ∙ told in absurd (cc)
    by_state (Granting None) is present = by_taker is (context k ec).caller present
    by_state Replying is present = by_replier is (context k ec).caller refl present
    by_state other is present = absurd (cc)

    by_entry : (o : Option EcState) → ec_in k.contexts ec ≡ o → NoSource k.contexts w.ec
    by_entry None is =
        let dead = sym (ap (λ (y : Option EcState). delivery k ec (context_in y).state) is) ∙ f.present in absurd (cc)
    by_entry (Some x) is =
        by_state x.state (ap (λ (y : Option EcState). option_map (λ z. z.state) y) is)
        (sym (ap (λ (y : Option EcState). delivery k ec (context_in y).state) is) ∙ f.present)
