-- What a guest meets along two runs that have the same turns of its side's processors.
use Rattle.std.proofs.Common.{◌≡◌, ℕ, List, [], ◌∷◌, refl, sym, ap, ap₂, ◌∙◌, subst}
use Rattle.std.specs.Prelude.{Bool, true, false, filter, slice_get, option_map, Option, Some, None, if◌then◌else◌}
use Rattle.std.proofs.lemmas.Option.{same_Some, slice_get_within}
use Rattle.nova_guest.specs.declared.input.Input.{Input}
use Rattle.nova_objects.specs.declared.object.Object.{Object}
use Rattle.nova_model.specs.Capabilities.{is_vcpu}
use Rattle.nova_model.specs.Choice.{in_front}
use Rattle.nova_model.specs.Deeds.{deed}
use Rattle.nova_model.specs.Guests.{input, inputs}
use Rattle.nova_model.specs.Runs.{after}
use Rattle.nova_model.specs.State.{KernelState, pd_in, pd_of}
use Rattle.nova_model.specs.declared.deed.Deed.{Deed}
use Rattle.law_isolation.specs.Sound.{IsVirtual}
use Rattle.law_origins.proofs.Actors.{object_stays}
use Rattle.law_integrity.specs.Confined.{Of, more}
use Rattle.law_flow.specs.Flow.{AreAlike, AreAtWork, IsPartitioned, own_turn, unnumbered, DerivesWithin, fixed}
use Rattle.law_flow.proofs.Within.{own_at}
use Rattle.law_flow.proofs.Away.{GoesHome, IsReached, OwnWorks, gone_away, gone_home, home_at, sound_there, together_first, together_second, turn_away}
use Rattle.law_flow.proofs.Home.{AreTogether, HomeTurn}
use Rattle.law_flow.proofs.Pairs.{never}
use Rattle.law_flow.proofs.Turns.{AreTwins, alike_flipped, alike_through}
use Rattle.law_guests.proofs.Facts.{ViewFacts}
use Rattle.law_guests.proofs.Telling.{others_tell_nothing, own_met}

-- a virtual CPU of the side, which it stays
pub record IsGuestOf (k : KernelState) (S : ℕ → Bool) (g : ℕ) : Type 0 where
  pub virtual : IsVirtual k g
  pub mine : S (pd_of k g) ≡ true

pub guest_next : (k : KernelState) (S : ℕ → Bool) (g cpu : ℕ) → IsGuestOf k S g → IsGuestOf (after k cpu) S g
guest_next k S g cpu is = by_object (slice_get k.objects g) refl is.virtual
  where
    by_object : (o : Option Object) → slice_get k.objects g ≡ o → option_map is_vcpu o ≡ Some true → IsGuestOf (after k cpu) S g
    by_object None at h = absurd (cc)
    by_object (Some o) at h =
        let stays : slice_get (after k cpu).objects g ≡ slice_get k.objects g = object_stays k cpu g (slice_get_within k.objects g o at) in
        record { virtual = ap (option_map is_vcpu) stays ∙ is.virtual; mine = ap (λ (x : Option Object). S (pd_in x)) stays ∙ is.mine }

quiet_at : ViewFacts → (k : KernelState) (S P : ℕ → Bool) (T : ℕ → Type 0) (cpu g : ℕ) → IsReached false k S P T → own_turn S k cpu ≡ None → IsGuestOf k S g → input k cpu g ≡ None
quiet_at f k S P T cpu g r none is =
    subst (λ (m : KernelState). IsPartitioned m (Of S) T (Of P) → own_turn S m cpu ≡ None → IsVirtual m g → S (pd_of m g) ≡ true → input m cpu g ≡ None) r.is
    (λ part nobody virtual mine. others_tell_nothing f r.scenario r.before S P T cpu g part virtual mine nobody) r.part none is.virtual is.mine

-- in a turn of a processor of the side's both meet the same
home_met : ViewFacts → (revokes : Bool) (k l : KernelState) (S P C : ℕ → Bool) (T U : ℕ → Type 0) (cpu g : ℕ) → IsReached false k S P T → IsReached false l S P U → AreAlike k l (Of S) (Of P) → HomeTurn (fixed revokes) k l S P C cpu →
    OwnWorks (fixed revokes) S k cpu → (revokes ≡ true → DerivesWithin k (Of S)) → IsGuestOf k S g → IsGuestOf l S g → input l cpu g ≡ input k cpu g
home_met f revokes k l S P C T U cpu g r q alike step works within is also = by_own (own_turn S k cpu) refl (own_turn S l cpu) refl
  where
    deeds_so : (o p : Option (ℕ × ℕ)) → own_turn S k cpu ≡ o → own_turn S l cpu ≡ p →
        option_map {U = ℕ × Deed} (λ (x : ℕ × ℕ). (x.0, unnumbered (deed l x.0))) p ≡ option_map {U = ℕ × Deed} (λ (x : ℕ × ℕ). (x.0, unnumbered (deed k x.0))) o
    deeds_so o p first second =
        sym (ap (λ (x : Option (ℕ × ℕ)). option_map {U = ℕ × Deed} (λ (x : ℕ × ℕ). (x.0, unnumbered (deed l x.0))) x) second)
        ∙ step.deeds
        ∙ ap (λ (x : Option (ℕ × ℕ)). option_map {U = ℕ × Deed} (λ (x : ℕ × ℕ). (x.0, unnumbered (deed k x.0))) x) first

    by_own : (o : Option (ℕ × ℕ)) → own_turn S k cpu ≡ o → (p : Option (ℕ × ℕ)) → own_turn S l cpu ≡ p → input l cpu g ≡ input k cpu g
    by_own None first None second = quiet_at f l S P U cpu g q second also ∙ sym (quiet_at f k S P T cpu g r first is)
    by_own None first (Some p) second = absurd (let none = deeds_so None (Some p) first second in cc)
    by_own (Some o) first None second = absurd (let none = deeds_so (Some o) None first second in cc)
    by_own (Some o) first (Some p) second =
        let same : (p.0, unnumbered (deed l p.0)) ≡ (o.0, unnumbered (deed k o.0)) = same_Some {A = ℕ × Deed} (p.0, unnumbered (deed l p.0)) (o.0, unnumbered (deed k o.0)) (deeds_so (Some o) (Some p) first second) in
        let who : p.0 ≡ o.0 = ap (λ (x : ℕ × Deed). x.0) same in
        let done : unnumbered (deed l o.0) ≡ unnumbered (deed k o.0) = ap (λ (n : ℕ). unnumbered (deed l n)) (sym who) ∙ ap (λ (x : ℕ × Deed). x.1) same in
        let twins : AreTwins k l S P = record { side = r.part.side; alike = alike; first = sound_there false k S P T r; second = sound_there false l S P U q } in
        let theirs : own_turn S l cpu ≡ Some (o.0, p.1) = second ∙ ap (λ (n : ℕ). Some (n, p.1)) who in
        own_met f (Unit {0}) (false ≡ true) k l S P cpu cpu o.0 o.1 p.1 g twins first theirs (own_at (Unit {0}) (revokes ≡ true) (false ≡ true) S P T k cpu o.0 o.1 twins.first r.part first (works o.0 o.1 first) within) done is.virtual is.mine

-- the second goes on elsewhere alone
none_elsewhere : ViewFacts → (S P C : ℕ → Bool) (us : List ℕ) (l : KernelState) (U : ℕ → Type 0) (g : ℕ) → GoesHome false l S P C U us → IsGuestOf l S g → [] ≡ filter C us → inputs l us g ≡ []
none_elsewhere f S P C [] l U g h also none = refl
none_elsewhere f S P C (cpu ∷ us) l U g h also none = by_test (C cpu) refl none (λ next rest. none_elsewhere f S P C us (after l cpu) (more l U cpu) g next (guest_next l S g cpu also) rest)
  where
    by_test : (t : Bool) → C cpu ≡ t → [] ≡ (if t then cpu ∷ filter C us else filter C us) → (GoesHome false (after l cpu) S P C (more l U cpu) us → [] ≡ filter C us → inputs (after l cpu) us g ≡ []) →
        in_front (input l cpu g) (inputs (after l cpu) us g) ≡ []
    by_test true is rest later = absurd (cc)
    by_test false is rest later =
        let away = turn_away false l S P C U cpu us h is in
        ap (λ (o : Option Input). in_front o (inputs (after l cpu) us g)) (quiet_at f l S P U cpu g h.reached away.own also)
        ∙ later (gone_away false l S P C U cpu us h is) rest

-- the second goes on elsewhere until the next turn of a processor of the side's
meets_next : ViewFacts → (revokes : Bool) (S P C : ℕ → Bool) (us : List ℕ) (k l : KernelState) (T U : ℕ → Type 0) (cpu : ℕ) (ts : List ℕ) (g : ℕ) → C cpu ≡ true → GoesHome false k S P C T (cpu ∷ ts) →
    OwnWorks (fixed revokes) S k cpu → GoesHome false l S P C U us → AreAlike k l (Of S) (Of P) → AreTogether (fixed revokes) k l S P C → IsGuestOf k S g → IsGuestOf l S g →
    cpu ∷ filter C ts ≡ filter C us →
    ((vs : List ℕ) (m : KernelState) (V : ℕ → Type 0) → GoesHome false m S P C V vs → AreAlike (after k cpu) m (Of S) (Of P) → AreTogether (fixed revokes) (after k cpu) m S P C → IsGuestOf m S g → filter C ts ≡ filter C vs →
    inputs m vs g ≡ inputs (after k cpu) ts g) → inputs l us g ≡ in_front (input k cpu g) (inputs (after k cpu) ts g)
meets_next f revokes S P C [] k l T U cpu ts g c first works h alike timed is also same later = absurd (cc)
meets_next f revokes S P C (other ∷ us) k l T U cpu ts g c first works h alike timed is also same later =
    by_test (C other) refl same (λ next a t rest. meets_next f revokes S P C us k (after l other) T (more l U other) cpu ts g c first works next a t is (guest_next l S g other also) rest later)
  where
    by_test : (t : Bool) → C other ≡ t → cpu ∷ filter C ts ≡ (if t then other ∷ filter C us else filter C us) →
        (GoesHome false (after l other) S P C (more l U other) us → AreAlike k (after l other) (Of S) (Of P) → AreTogether (fixed revokes) k (after l other) S P C → cpu ∷ filter C ts ≡ filter C us →
        inputs (after l other) us g ≡ in_front (input k cpu g) (inputs (after k cpu) ts g)) →
        in_front (input l other g) (inputs (after l other) us g) ≡ in_front (input k cpu g) (inputs (after k cpu) ts g)
    by_test false out rest goes_on =
        let away = turn_away false l S P C U other us h out in
        ap (λ (o : Option Input). in_front o (inputs (after l other) us g)) (quiet_at f l S P U other g h.reached away.own also)
        ∙ goes_on (gone_away false l S P C U other us h out)
        (alike_through k l (after l other) (Of S) (Of P) alike away.same) (together_second (fixed revokes) k l S P C U other h.reached (λ h_. absurd (never h_)) away timed) rest
    by_test true in_ rest goes_on =
        let one : cpu ≡ other = cc in
        let tails : filter C ts ≡ filter C us = cc in
        let step = home_at (fixed revokes) k l S P C T U cpu first.reached h.reached alike timed first.home.0 h.home.0 works c in
        let rest_same = later us (after l other) (more l U other)
        (gone_home (fixed revokes) l S P C U other us h in_ (subst (OwnWorks (fixed revokes) S l) one step.works) (λ yes. (timed.within yes).second))
        (subst (λ (n : ℕ). AreAlike (after k cpu) (after l n) (Of S) (Of P)) one step.alike) (subst (λ (n : ℕ). AreTogether (fixed revokes) (after k cpu) (after l n) S P C) one step.timed)
        (guest_next l S g other also) tails in
        ap₂ (λ (o : Option Input) (is : List Input). in_front o is)
        (sym (ap (λ (n : ℕ). input l n g) one) ∙ home_met f revokes k l S P C T U cpu g first.reached h.reached alike step works (λ yes. (timed.within yes).first) is also) rest_same

pub inputs_along : ViewFacts → (revokes : Bool) (S P C : ℕ → Bool) (ts us : List ℕ) (k l : KernelState) (T U : ℕ → Type 0) (g : ℕ) → GoesHome false k S P C T ts → AreAtWork (fixed revokes) S k ts → GoesHome false l S P C U us → AreAlike k l (Of S) (Of P) →
    AreTogether (fixed revokes) k l S P C → IsGuestOf k S g → IsGuestOf l S g → filter C ts ≡ filter C us → inputs l us g ≡ inputs k ts g
inputs_along f revokes S P C [] us k l T U g first works h alike timed is also same = none_elsewhere f S P C us l U g h also same
inputs_along f revokes S P C (cpu ∷ ts) us k l T U g first works h alike timed is also same =
    by_test (C cpu) refl same (λ j vs m V W next at_work second a t one other rest. inputs_along f revokes S P C ts vs j m V W g next at_work second a t one other rest)
  where
    by_test : (t : Bool) → C cpu ≡ t → (if t then cpu ∷ filter C ts else filter C ts) ≡ filter C us →
        ((j : KernelState) (vs : List ℕ) (m : KernelState) (V W : ℕ → Type 0) → GoesHome false j S P C V ts → AreAtWork (fixed revokes) S j ts → GoesHome false m S P C W vs → AreAlike j m (Of S) (Of P) → AreTogether (fixed revokes) j m S P C →
        IsGuestOf j S g → IsGuestOf m S g → filter C ts ≡ filter C vs → inputs m vs g ≡ inputs j ts g) →
        inputs l us g ≡ in_front (input k cpu g) (inputs (after k cpu) ts g)
    by_test true c rest later =
        meets_next f revokes S P C us k l T U cpu ts g c first works.0 h alike timed is also rest (λ vs m V next a t other tails. later (after k cpu) vs m (more k T cpu) V
        (gone_home (fixed revokes) k S P C T cpu ts first c works.0 (λ yes. (timed.within yes).first)) works.1 next a t (guest_next k S g cpu is) other tails)
    by_test false out rest later =
        let away = turn_away false k S P C T cpu ts first out in
        later (after k cpu) us l (more k T cpu) U (gone_away false k S P C T cpu ts first out) works.1 h
        (alike_through (after k cpu) k l (Of S) (Of P) (alike_flipped k (after k cpu) (Of S) (Of P) away.same) alike)
        (together_first (fixed revokes) k l S P C T cpu first.reached (λ h_. absurd (never h_)) away timed) (guest_next k S g cpu is) also rest
        ∙ sym (ap (λ (o : Option Input). in_front o (inputs (after k cpu) ts g)) (quiet_at f k S P T cpu g first.reached away.own is))
