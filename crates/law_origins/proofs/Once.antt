-- A virtual CPU is made in a single turn, and of the turns in which its exits are sent one is the last.
use Rattle.std.proofs.Common.{◌≡◌, ℕ, ◌<◌, List, [], ◌∷◌, ◌++◌, length, ap, ap₂, sym, ◌∙◌, subst, refl, arith}
use Rattle.std.specs.Prelude.{Bool, true, false, ◌||◌, slice_get, Option, Some, None, option_map}
use Rattle.std.specs.List.{list_any}
use Rattle.std.proofs.lemmas.Bool.{true≢false}
use Rattle.std.proofs.lemmas.Option.{slice_get_within}
use Rattle.nova_guest.specs.declared.input.Input.TheVariants.{Sent}
use Rattle.law_isolation.specs.Sound.{IsVirtual}
use Rattle.nova_model.specs.Capabilities.{is_vcpu}
use Rattle.nova_model.specs.Guests.{input, inputs}
use Rattle.nova_model.specs.Runs.{after, run}
use Rattle.nova_model.specs.State.{KernelState}
use Rattle.nova_objects.specs.declared.object.Object.{Object}
use Rattle.law_origins.specs.Lives.{IsMade}
use Rattle.law_origins.specs.Sending.{LastSent, is_sent}
use Rattle.law_origins.proofs.Births.{none_beyond, run_objects}
use Rattle.law_origins.proofs.Lists.{sent_front, sent_in}

heads : (x y : ℕ) (xs ys : List ℕ) → x ∷ xs ≡ y ∷ ys → x ≡ y
heads x y xs ys h = cc

tails : (x y : ℕ) (xs ys : List ℕ) → x ∷ xs ≡ y ∷ ys → xs ≡ ys
tails x y xs ys h = cc

-- MADE

virtual_within : (os : List Object) (g : ℕ) → option_map is_vcpu (slice_get os g) ≡ Some true → g < length os
virtual_within os g is = by_object (slice_get os g) refl is
  where
    by_object : (o : Option Object) → slice_get os g ≡ o → option_map is_vcpu o ≡ Some true → g < length os
    by_object (Some o) at h = slice_get_within os g o at
    by_object None at h = absurd (cc)

-- it is there from then on
not_later : {A : Type 0} (k : KernelState) (turns : List ℕ) (g : ℕ) → IsVirtual k g → slice_get (run k turns).objects g ≡ None → A
not_later k turns g is none =
    let there = virtual_within k.objects g is in
    let more = run_objects k turns in
    let beyond = none_beyond (run k turns).objects g none in
    absurd (omega (arith, there, more, beyond))

made_once : (k : KernelState) (g : ℕ) (a b : List ℕ) (c d : ℕ) (cs ds : List ℕ) → a ++ c ∷ cs ≡ b ++ d ∷ ds → slice_get (run k a).objects g ≡ None → IsVirtual (after (run k a) c) g →
    slice_get (run k b).objects g ≡ None → IsVirtual (after (run k b) d) g → a ≡ b
made_once k g [] [] c d cs ds same none made none_ made_ = refl
made_once k g [] (y ∷ b) c d cs ds same none made none_ made_ =
    not_later (after k y) b g (subst (λ (n : ℕ). IsVirtual (after k n) g) (heads c y cs (b ++ d ∷ ds) same) made) none_
made_once k g (x ∷ a) [] c d cs ds same none made none_ made_ =
    not_later (after k x) a g (subst (λ (n : ℕ). IsVirtual (after k n) g) (sym (heads x d (a ++ c ∷ cs) ds same)) made_) none
made_once k g (x ∷ a) (y ∷ b) c d cs ds same none made none_ made_ =
    let e : y ≡ x = sym (heads x y (a ++ c ∷ cs) (b ++ d ∷ ds) same) in
    ap₂ (λ (n : ℕ) (ns : List ℕ). n ∷ ns) (sym e)
    (made_once (after k x) g a b c d cs ds (tails x y (a ++ c ∷ cs) (b ++ d ∷ ds) same) none made
    (subst (λ (n : ℕ). slice_get (run (after k n) b).objects g ≡ None) e none_) (subst (λ (n : ℕ). IsVirtual (after (run (after k n) b) d) g) e made_))

pub one_birth : (k : KernelState) (turns : List ℕ) (g : ℕ) (m n : IsMade k turns g) → m.before ≡ n.before
one_birth k turns g m n = made_once k g m.before n.before m.cpu n.cpu m.later n.later (sym m.whole ∙ n.whole) m.none m.made n.none n.made

-- SENT

or_true : (a : Bool) → (a || true) ≡ true
or_true true = refl
or_true false = refl

sent_there : (k : KernelState) (before : List ℕ) (cpu : ℕ) (later : List ℕ) (g : ℕ) → input (run k before) cpu g ≡ Some Sent → list_any is_sent (inputs k (before ++ cpu ∷ later) g) ≡ true
sent_there k [] cpu later g h =
    sent_front (input k cpu g) (inputs (after k cpu) later g) ∙ ap (λ (o : _). sent_in o || list_any is_sent (inputs (after k cpu) later g)) h
sent_there k (c ∷ before) cpu later g h =
    sent_front (input k c g) (inputs (after k c) (before ++ cpu ∷ later) g)
    ∙ (ap (λ (t : Bool). sent_in (input k c g) || t) (sent_there (after k c) before cpu later g h) ∙ or_true (sent_in (input k c g)))

sent_once : (k : KernelState) (g : ℕ) (a b : List ℕ) (c d : ℕ) (cs ds : List ℕ) → a ++ c ∷ cs ≡ b ++ d ∷ ds → input (run k a) c g ≡ Some Sent → input (run k b) d g ≡ Some Sent →
    list_any is_sent (inputs (after (run k a) c) cs g) ≡ false → list_any is_sent (inputs (after (run k b) d) ds g) ≡ false → a ≡ b
sent_once k g [] [] c d cs ds same sent sent_ last last_ = refl
sent_once k g [] (y ∷ b) c d cs ds same sent sent_ last last_ =
    let there : list_any is_sent (inputs (after k c) cs g) ≡ true =
    subst (λ (n : ℕ). list_any is_sent (inputs (after k n) cs g) ≡ true) (sym (heads c y cs (b ++ d ∷ ds) same))
    (subst (λ (l : List ℕ). list_any is_sent (inputs (after k y) l g) ≡ true) (sym (tails c y cs (b ++ d ∷ ds) same)) (sent_there (after k y) b d ds g sent_)) in
    absurd (true≢false (sym there ∙ last))
sent_once k g (x ∷ a) [] c d cs ds same sent sent_ last last_ =
    let there : list_any is_sent (inputs (after k d) ds g) ≡ true =
    subst (λ (n : ℕ). list_any is_sent (inputs (after k n) ds g) ≡ true) (heads x d (a ++ c ∷ cs) ds same)
    (subst (λ (l : List ℕ). list_any is_sent (inputs (after k x) l g) ≡ true) (tails x d (a ++ c ∷ cs) ds same) (sent_there (after k x) a c cs g sent)) in
    absurd (true≢false (sym there ∙ last_))
sent_once k g (x ∷ a) (y ∷ b) c d cs ds same sent sent_ last last_ =
    let e : y ≡ x = sym (heads x y (a ++ c ∷ cs) (b ++ d ∷ ds) same) in
    ap₂ (λ (n : ℕ) (ns : List ℕ). n ∷ ns) (sym e)
    (sent_once (after k x) g a b c d cs ds (tails x y (a ++ c ∷ cs) (b ++ d ∷ ds) same) sent (subst (λ (n : ℕ). input (run (after k n) b) d g ≡ Some Sent) e sent_) last
    (subst (λ (n : ℕ). list_any is_sent (inputs (after (run (after k n) b) d) ds g) ≡ false) e last_))

pub one_last_sent : (k : KernelState) (turns : List ℕ) (g : ℕ) (l m : LastSent k turns g) → l.before ≡ m.before
one_last_sent k turns g l m = sent_once k g l.before m.before l.cpu m.cpu l.later m.later (sym l.whole ∙ m.whole) l.sent m.sent l.last m.last
