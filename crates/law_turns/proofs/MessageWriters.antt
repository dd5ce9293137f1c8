-- Whose message words a turn writes, and how: by the words of its effect.
use Rattle.law_forest.proofs.Boots.{sources_keep}
use Rattle.std.proofs.Common.{◌≡◌, ℕ, List, [], ◌∷◌, ◌++◌, length, inl, inr, refl, ap, ◌∙◌, sym, subst, arith}
use Rattle.std.proofs.lemmas.Bool.Decides.{nat_tests}
use Rattle.std.specs.Prelude.{◌<◌, ◌≢◌, ◌⊎◌, ◌%◌, ◌/◌, ◌==◌, ◌&&◌, nat_lt, if◌then◌else◌, Bool, true, false, slice_get, slice_set, Option, Some, None, IfSome}
use Rattle.rv_model.specs.Registers.{Registers}
use Rattle.rv_model.specs.Step.{Once, Raised, Went, Store}
use Rattle.nova_range.specs.declared.mtd.Mtd.{Mtd}
use Rattle.nova_objects.specs.declared.object.EcKind.TheVariants.{Local, Global, Vcpu}
use Rattle.nova_objects.specs.declared.object.Object.{Object}
use Rattle.nova_objects.specs.declared.object.Object.TheVariants.{Pd, Ec, Sc, Pt, Sm}
use Rattle.nova_utcb.specs.Messages.{copied, exit_word, exited, is_given, range_place, second_place, stored, with_item, word}
use Rattle.nova_utcb.proofs.Ruled.{length_ruled}
use Rattle.nova_model.specs.AddressSpaces.{message_size, own_page}
use Rattle.nova_model.specs.Boot.{Image, Scenario, bare, boot, with_image, with_images}
use Rattle.nova_model.specs.Creation.{object_of, words_of}
use Rattle.nova_model.specs.Runs.{after, run}
use Rattle.nova_model.specs.State.{KernelState, context, entry, is_thread, message, message_in, no_words}
use Rattle.nova_model.specs.Turn.{answer_of, turn}
use Rattle.nova_model.specs.declared.context.Mark.TheVariants as mark
use Rattle.nova_model.specs.declared.deed.Deed.{Deed}
use Rattle.nova_model.specs.declared.deed.Deed.TheVariants.{Steps, Sends, Finishes, Calls, Replies}
use Rattle.nova_model.specs.declared.event.Event.{Event}
use Rattle.nova_model.specs.declared.event.Turn.TheVariants.{Stepped}
use Rattle.nova_model.specs.declared.transfer.ItemEnd.{ItemEnd}
use Rattle.nova_model.specs.declared.transfer.ItemWords.{ItemWords}
use Rattle.nova_model.specs.declared.transfer.Sequel.{Sequel}
use Rattle.law_turns.specs.Words.{AreWritten, HasWritten, IsAmongWords, IsStepped, Stores, Stays, words_at, whose_words}
use Rattle.law_turns.proofs.Referring.{Asks, deed_asks}
use Rattle.law_turns.proofs.Setting.{entry_itself, entry_joined, entry_kept, entry_other, entry_set, set_length}
use Rattle.std.specs.Prelude.{option_map}
use Rattle.nova_model.specs.AddressSpaces.{words_at as words_reached}
use Rattle.nova_model.specs.Deeds.{address_space, deed, instruction}
use Rattle.nova_model.specs.Inputs.{store_of}
use Rattle.nova_model.specs.declared.new_object.NewObject.{NewObject}
use Rattle.law_forest.specs.Effects.{applied, effect, joined, made_by, put, store_words, words_by, words_stored}
use Rattle.law_forest.specs.Turns.{Acts, IsTurning, Turning, turned, Passes, is_passing}
use Rattle.law_forest.proofs.Turning.{IsTurn, along, turn_of, passing_kind, acting_kind}
use Rattle.law_turns.specs.Links.{IsCallerOf}

abbrev Messages : Type 0
Messages = List (Option (List ℕ))

-- THE WORDS OF OTHERS

-- a context that isn't written to keeps its words, whatever object is made
kept_words : (ms : Messages) (p : Option (ℕ × List ℕ)) (born : Option (Option (List ℕ))) (n : ℕ) (words : List ℕ) → option_map (λ w. w.0) p ≢ Some n →
    entry (slice_get ms n) ≡ Some words → entry (slice_get (joined (put ms p) born) n) ≡ Some words
kept_words ms p born n words differs is = by_born born (by_words p differs)
  where
    by_words : (q : Option (ℕ × List ℕ)) → option_map (λ w. w.0) q ≢ Some n → entry (slice_get (put ms q) n) ≡ Some words
    by_words None other = is
    by_words (Some (e, m)) other = entry_other ms e n m (λ same. other (ap Some (sym same))) ∙ is

    by_born : (o : Option (Option (List ℕ))) → entry (slice_get (put ms p) n) ≡ Some words → entry (slice_get (joined (put ms p) o) n) ≡ Some words
    by_born None still = still
    by_born (Some w) still = entry_kept (put ms p) w n words still

-- a deed writes the words of one at most
stored_by : (k : KernelState) (ec n : ℕ) (s : Option Store) → option_map (λ w. w.0) (store_words (address_space k ec) ec s) ≡ Some n → Some ec ≡ Some n
stored_by k ec n None is = absurd cc
stored_by k ec n (Some s) is = by_words (words_reached (address_space k ec) s.address) is
  where
    by_words : (o : Option (List ℕ)) → option_map (λ w. w.0) (words_stored ec s o) ≡ Some n → Some ec ≡ Some n
    by_words None none = absurd cc
    by_words (Some m) at = at

writes_are : (k : KernelState) (ec n : ℕ) (d : Deed) → option_map (λ w. w.0) (words_by k ec d) ≡ Some n → whose_words ec d ≡ Some n
writes_are k ec n Steps is = stored_by k ec n (store_of (instruction k ec)) is
writes_are k ec n (Calls handler ip identifier items) is = is
writes_are k ec n (Sends handler ip identifier mtd reason q0 q1) is = is
writes_are k ec n (Replies caller mark.Call items) is = is
writes_are k ec n (Finishes item end (Some w) follows) is = is
writes_are k ec n (Finishes item end None follows) is = absurd cc
writes_are k ec n (Replies caller mark.Exit items) is = absurd cc
writes_are k ec n other is = absurd cc

-- THE WORDS THAT ARE WRITTEN

number_same : (a b : ℕ) → Some a ≡ Some b → a ≡ b
number_same a b is = cc

message_is : (k : KernelState) (n : ℕ) (words : List ℕ) → words_at k n ≡ Some words → message k n ≡ words
message_is k n words is = ap message_in is

-- the words of a context that is there, where an effect writes them, whatever object is made
put_words : (ms : Messages) (n : ℕ) (m words : List ℕ) (born : Option (Option (List ℕ))) → entry (slice_get ms n) ≡ Some words →
    entry (slice_get (joined (put ms (Some (n, m))) born) n) ≡ Some m
put_words ms n m words born is = by_born born
  where
    at : entry (slice_get (slice_set ms n (Some m)) n) ≡ Some m
    at = entry_itself ms n m (rw is refl)

    by_born : (o : Option (Option (List ℕ))) → entry (slice_get (joined (put ms (Some (n, m))) o) n) ≡ Some m
    by_born None = at
    by_born (Some w) = entry_kept (slice_set ms n (Some m)) w n m at

same_store : (regs other : Registers) (s t : Store) → Went regs (Some s) ≡ Went other (Some t) → s ≡ t
same_store regs other s t is = cc

-- an instruction without a store, or with a store that isn't among the words
no_store : (k : KernelState) (ec : ℕ) (words : List ℕ) (o : Once) → instruction k ec ≡ o → ((regs : Registers) (s : Store) → o ≡ Went regs (Some s) → IsAmongWords k ec s → ⊥) →
    IsStepped k ec words words
no_store k ec words o came none = Stays (λ regs s went among. none regs s (sym came ∙ went) among) refl

-- the words after an instruction
stepped_words : (k : KernelState) (ec : ℕ) (words : List ℕ) (o : Once) → instruction k ec ≡ o → words_at k ec ≡ Some words →
    (now : List ℕ) × (entry (slice_get (put k.messages (store_words (address_space k ec) ec (store_of o))) ec) ≡ Some now) × IsStepped k ec words now
stepped_words k ec words (Raised reason q0 q1) came is = (words, is, no_store k ec words (Raised reason q0 q1) came (λ regs s went among. absurd cc))
stepped_words k ec words (Went regs None) came is = (words, is, no_store k ec words (Went regs None) came (λ other s went among. absurd cc))
stepped_words k ec words (Went regs (Some s)) came is = by_tests (s.address / 4096 == own_page) (nat_lt (s.address % 4096) message_size) (is_thread k ec) refl refl refl
  where
    stays : (IsAmongWords k ec s → ⊥) → IsStepped k ec words words
    stays none = no_store k ec words (Went regs (Some s)) came (λ other t went among. none (subst (IsAmongWords k ec) (sym (same_store regs other s t went)) among))

    by_tests : (page offset thread : Bool) → (s.address / 4096 == own_page) ≡ page → nat_lt (s.address % 4096) message_size ≡ offset → is_thread k ec ≡ thread →
        ((now : List ℕ)
        × (entry (slice_get (put k.messages (words_stored ec s (if page && offset then (if thread then Some (message k ec) else None) else None))) ec) ≡ Some now)
        × IsStepped k ec words now)
    by_tests true true true p o t =
        let now = stored (message k ec) (s.address % 4096) s.width s.value in (
          now,
          put_words k.messages ec now words None is,
          Stores regs s came (record { thread = t; page = grind (arith, nat_tests); offset = grind (arith, nat_tests) })
              (ap (λ (l : List ℕ). stored l (s.address % 4096) s.width s.value) (message_is k ec words is)),
        )
    by_tests true true false p o t = (words, is, stays (λ among. let yes : is_thread k ec ≡ true = among.thread in cc))
    by_tests true false thread p o t = (words, is, stays (λ among. let below : s.address % 4096 < 512 = among.offset in grind (arith, nat_tests)))
    by_tests false offset thread p o t = (words, is, stays (λ among. let there : s.address / 4096 ≡ 1048575 = among.page in grind (arith, nat_tests)))

-- they are written so
abbrev AreNow : KernelState → ℕ → ℕ → Deed → List ℕ → Type 0
AreNow k ec n d words = (now : List ℕ) × (entry (slice_get (applied k (effect k ec d)).messages n) ≡ Some now) × AreWritten k ec d words now

sends_words : (k : KernelState) (ec to n : ℕ) (d : Deed) (words m : List ℕ) → words_by k ec d ≡ Some (to, m) → to ≡ n → words_at k n ≡ Some words → AreWritten k ec d words m → AreNow k ec n d words
sends_words k ec to n d words m writes same is are =
    (m, rw (writes, same) (put_words k.messages n m words (option_map (λ b. words_of (object_of b)) (made_by d)) is), are)

done_writes : (k : KernelState) (ec n : ℕ) (d : Deed) (words : List ℕ) → whose_words ec d ≡ Some n → words_at k n ≡ Some words → AreNow k ec n d words
done_writes k ec n Steps words writes is =
    let same : ec ≡ n = number_same ec n writes in
    subst (λ (m : ℕ). AreNow k ec m Steps words) same (stepped_words k ec words (instruction k ec) refl (ap (words_at k) same ∙ is))
done_writes k ec n (Calls handler ip identifier items) words writes is =
    let same : handler ≡ n = number_same handler n writes in
    sends_words k ec handler n (Calls handler ip identifier items) words _ refl same is (ap (copied (message k ec)) (message_is k handler words (ap (words_at k) same ∙ is)))
done_writes k ec n (Sends handler ip identifier mtd reason q0 q1) words writes is =
    let same : handler ≡ n = number_same handler n writes in
    sends_words k ec handler n (Sends handler ip identifier mtd reason q0 q1) words _ refl same is
    (ap (exited mtd q0 q1 (context k ec).regs) (message_is k handler words (ap (words_at k) same ∙ is)))
done_writes k ec n (Replies caller mark.Call items) words writes is =
    let same : caller ≡ n = number_same caller n writes in
    sends_words k ec caller n (Replies caller mark.Call items) words _ refl same is (ap (copied (message k ec)) (message_is k caller words (ap (words_at k) same ∙ is)))
done_writes k ec n (Finishes item end (Some w) follows) words writes is =
    let same : w.ec ≡ n = number_same w.ec n writes in
    sends_words k ec w.ec n (Finishes item end (Some w) follows) words _ refl same is
    (ap (λ (m : List ℕ). with_item m item w.first w.second) (message_is k w.ec words (ap (words_at k) same ∙ is)))
done_writes k ec n (Replies caller mark.Exit items) words writes is = absurd cc
done_writes k ec n other words writes is = absurd cc

-- LENGTHS

abbrev AreSized : Messages → Type 0
AreSized ms = (n : ℕ) (m : List ℕ) → entry (slice_get ms n) ≡ Some m → length m ≡ 128

abbrev IsSized : Option (List ℕ) → Type 0
IsSized o = IfSome o (λ m. length m ≡ 128)

copied_length : (from to : List ℕ) → length (copied from to) ≡ length to
unfolding copied
copied_length from to = length_ruled (λ i stays. if is_given from i then word from i else stays) to

exited_length : (mtd : Mtd) (q0 q1 : ℕ) (r : Registers) (m : List ℕ) → length (exited mtd q0 q1 r m) ≡ length m
unfolding exited
exited_length mtd q0 q1 r m = length_ruled (exit_word mtd q0 q1 r) m

set_sized : (ms : Messages) (e : ℕ) (m : List ℕ) → length m ≡ 128 → AreSized ms → AreSized (slice_set ms e (Some m))
set_sized ms e m size sized n words is = elim (entry_set ms e n m words is) [
  | inl itself ↦ ap length (sym itself.1) ∙ size
  | inr other ↦ sized n words other.1
]

message_sized : (k : KernelState) (n : ℕ) → AreSized k.messages → length (message k n) ≡ 128
message_sized k n sized = by_entry (words_at k n) refl
  where
    by_entry : (o : Option (List ℕ)) → words_at k n ≡ o → length (message_in o) ≡ 128
    by_entry None is = refl
    by_entry (Some m) is = sized n m is

joined_sized : (ms : Messages) (o : Option (List ℕ)) → AreSized ms → IfSome o (λ m. length m ≡ 128) → AreSized (ms ++ o ∷ [])
joined_sized ms o sized new n words is = elim (entry_joined ms o n words is) [
  | inl there ↦ sized n words there
  | inr joined ↦ subst (λ (p : Option (List ℕ)). IfSome p (λ m. length m ≡ 128)) joined.1 new
]

born_sized : (o : Object) → IfSome (words_of o) (λ m. length m ≡ 128)
born_sized Pd = tt
born_sized (Ec pd cpu Local event) = refl
born_sized (Ec pd cpu Global event) = refl
born_sized (Ec pd cpu Vcpu event) = tt
born_sized (Sc ec cpu priority quantum) = tt
born_sized (Pt ec mtd ip) = tt
born_sized Sm = tt

item_length : (m : List ℕ) (item first second : ℕ) → length (with_item m item first second) ≡ length m
item_length m item first second = set_length (slice_set m (range_place item) first) (second_place item) second ∙ set_length m (range_place item) first

applied_sized : (ms : Messages) (p : Option (ℕ × List ℕ)) (born : NewObject → Option (List ℕ)) (made : Option NewObject) → IfSome p (λ w. length w.1 ≡ 128) →
    ((m : NewObject) → IsSized (born m)) → AreSized ms → AreSized (joined (put ms p) (option_map born made))
applied_sized ms p born made written new sized = by_made made (by_words p written)
  where
    by_words : (q : Option (ℕ × List ℕ)) → IfSome q (λ w. length w.1 ≡ 128) → AreSized (put ms q)
    by_words None h = sized
    by_words (Some (n, m)) h = set_sized ms n m h sized

    by_made : (o : Option NewObject) → AreSized (put ms p) → AreSized (joined (put ms p) (option_map born o))
    by_made None h = h
    by_made (Some m) h = joined_sized (put ms p) (born m) h (new m)

stored_sized : (k : KernelState) (ec : ℕ) (o : Option Store) → AreSized k.messages → IfSome (store_words (address_space k ec) ec o) (λ w. length w.1 ≡ 128)
stored_sized k ec None sized = tt
stored_sized k ec (Some s) sized = by_tests ((s.address / 4096 == own_page) && nat_lt (s.address % 4096) message_size) (is_thread k ec)
  where
    by_tests : (page thread : Bool) → IfSome (words_stored ec s (if page then (if thread then Some (message k ec) else None) else None)) (λ w. length w.1 ≡ 128)
    by_tests true true = set_length (message k ec) _ _ ∙ message_sized k ec sized
    by_tests true false = tt
    by_tests false thread = tt

words_sized : (k : KernelState) (ec : ℕ) (d : Deed) → AreSized k.messages → IfSome (words_by k ec d) (λ w. length w.1 ≡ 128)
words_sized k ec Steps sized = stored_sized k ec (store_of (instruction k ec)) sized
words_sized k ec (Calls handler ip identifier items) sized = copied_length (message k ec) (message k handler) ∙ message_sized k handler sized
words_sized k ec (Sends handler ip identifier mtd reason q0 q1) sized = exited_length mtd q0 q1 (context k ec).regs (message k handler) ∙ message_sized k handler sized
words_sized k ec (Replies caller mark.Call items) sized = copied_length (message k ec) (message k caller) ∙ message_sized k caller sized
words_sized k ec (Finishes item end (Some w) follows) sized = item_length (message k w.ec) item w.first w.second ∙ message_sized k w.ec sized
words_sized k ec (Finishes item end None follows) sized = tt
words_sized k ec (Replies caller mark.Exit items) sized = tt
words_sized k ec other sized = tt

-- TURNS

turned_sized : (k : KernelState) (cpu : ℕ) (t : Turning) (e : Event) → IsTurning k cpu t e → AreSized k.messages → AreSized (turned k cpu t).messages
turned_sized k cpu t e (Acts c chosen is event) sized =
    subst (λ (u : Turning). AreSized (turned k cpu u).messages) (sym is)
    (applied_sized k.messages (words_by k c.actor (deed k c.actor)) _ (made_by (deed k c.actor)) (words_sized k c.actor (deed k c.actor) sized) (λ m. born_sized (object_of m)) sized)
turned_sized k cpu t e (Passes p comes is event) sized = subst (λ (u : Turning). AreSized (turned k cpu u).messages) (sym is) sized

images_sized : (k : KernelState) (images : List Image) → AreSized k.messages → AreSized (with_images k images).messages
images_sized k [] sized = sized
images_sized k (image ∷ images) sized = images_sized (with_image k image) images sized

root_sized : AreSized (None ∷ Some no_words ∷ None ∷ [])
root_sized =
    joined_sized (None ∷ Some no_words ∷ []) None (joined_sized (None ∷ []) (Some no_words) (joined_sized [] None (λ n m is. absurd (cc)) tt) refl) tt

boot_sized : (s : Scenario) → AreSized (boot s).messages
boot_sized s =
    sources_keep (λ (k : KernelState). AreSized k.messages) (λ k source sized. joined_sized k.messages None sized tt)
    (with_images (bare s.cpus s.ram s.consoles s.root) s.images) s.sources (images_sized (bare s.cpus s.ram s.consoles s.root) s.images root_sized)

-- THE LAWS

-- what holds of words after a turn, from what holds after the effect of its deed
after_turn : (P : ℕ → Deed → Messages → Type 0) (k : KernelState) (cpu : ℕ) (e : Event) → answer_of (turn k cpu) ≡ Stepped e →
    (is_passing e.kind ≡ true → P e.ec (deed k e.ec) k.messages) →
    P e.ec (deed k e.ec) (applied k (effect k e.ec (deed k e.ec))).messages → P e.ec (deed k e.ec) (after k cpu).messages
after_turn P k cpu e steps still h = by_turn (turn_of k cpu e steps)
  where
    by_turn : IsTurn k (after k cpu) cpu e → P e.ec (deed k e.ec) (after k cpu).messages
    by_turn o = elim o.comes [
      | Acts c chosen is event ↦
          let who : e.ec ≡ c.actor = ap (λ (f : Event). f.ec) event in
          let same : (after k cpu).messages ≡ (applied k (effect k e.ec (deed k e.ec))).messages =
          ap (λ (s : KernelState). s.messages) (o.state ∙ ap (turned k cpu) is) ∙ ap (λ (n : ℕ). (applied k (effect k n (deed k n))).messages) (sym who) in
          subst (P e.ec (deed k e.ec)) (sym same) h
      | Passes p comes is event ↦
          let same : (after k cpu).messages ≡ k.messages = ap (λ (s : KernelState). s.messages) (o.state ∙ ap (turned k cpu) is) in
          subst (P e.ec (deed k e.ec)) (sym same) (still (ap (λ (f : Event). is_passing f.kind) event ∙ passing_kind k cpu p))
    ]

pub passing_keeps : (k : KernelState) (cpu : ℕ) (e : Event) (n : ℕ) (words : List ℕ) → answer_of (turn k cpu) ≡ Stepped e → is_passing e.kind ≡ true →
    words_at k n ≡ Some words → words_at (after k cpu) n ≡ Some words
passing_keeps k cpu e n words steps passing is = by_turn (turn_of k cpu e steps)
  where
    by_turn : IsTurn k (after k cpu) cpu e → words_at (after k cpu) n ≡ Some words
    by_turn o = elim o.comes [
      | Acts c chosen acts event ↦
          absurd (let both : true ≡ false = sym passing ∙ ap (λ (f : Event). is_passing f.kind) event ∙ acting_kind (deed k c.actor) in cc)
      | Passes p comes acts event ↦ ap (λ (s : KernelState). words_at s n) (o.state ∙ ap (turned k cpu) acts) ∙ is
    ]

pub others_keep : (k : KernelState) (cpu : ℕ) (e : Event) (n : ℕ) (words : List ℕ) → answer_of (turn k cpu) ≡ Stepped e → whose_words e.ec (deed k e.ec) ≢ Some n →
    words_at k n ≡ Some words → words_at (after k cpu) n ≡ Some words
others_keep k cpu e n words steps differs is =
    after_turn (λ (ec : ℕ) (d : Deed) (ms : Messages). entry (slice_get ms n) ≡ Some words) k cpu e steps (λ passing. is)
    (kept_words k.messages (words_by k e.ec (deed k e.ec)) _ n words (λ writes. differs (writes_are k e.ec n (deed k e.ec) writes)) is)

pub one_writes : (k : KernelState) (cpu : ℕ) (e : Event) (n : ℕ) (words : List ℕ) → is_passing e.kind ≡ false → answer_of (turn k cpu) ≡ Stepped e → whose_words e.ec (deed k e.ec) ≡ Some n →
    words_at k n ≡ Some words → HasWritten k (after k cpu) e.ec n (deed k e.ec) words
one_writes k cpu e n words acts steps writes is =
    let h = after_turn (λ (ec : ℕ) (d : Deed) (ms : Messages). (now : List ℕ) × (entry (slice_get ms n) ≡ Some now) × AreWritten k ec d words now) k cpu e steps
    (λ passing. absurd (let both : true ≡ false = sym passing ∙ acts in cc))
    (done_writes k e.ec n (deed k e.ec) words writes is) in record { now = h.0; there = h.1; written = h.2 }

pub told_own : (k : KernelState) (ec item : ℕ) (end : ItemEnd) (words : ItemWords) (follows : Sequel) → deed k ec ≡ Finishes item end (Some words) follows →
    (words.ec ≡ ec) ⊎ IsCallerOf k ec words.ec mark.Call
told_own k ec item end words follows is = (subst (Asks k ec) is (deed_asks k ec)).0

pub sized : (s : Scenario) (turns : List ℕ) (n : ℕ) → IfSome (words_at (run (boot s) turns) n) (λ m. length m ≡ 128)
sized s turns n = by_entry (words_at (run (boot s) turns) n) refl
  where
    all : AreSized (run (boot s) turns).messages
    all = along (λ (k : KernelState). AreSized k.messages) (record { begins = boot_sized; turns = turned_sized }) s turns

    by_entry : (o : Option (List ℕ)) → words_at (run (boot s) turns) n ≡ o → IfSome o (λ m. length m ≡ 128)
    by_entry None is = tt
    by_entry (Some m) is = all n m is
