-- Two runs in which the same happens to a side's part, in the same order.
use Rattle.std.proofs.Common.{◌≡◌, ℕ, List, [], ◌∷◌, ◌++◌, refl, sym, ap, ap₂, ◌∙◌, subst}
use Rattle.std.specs.Prelude.{Bool, true, false, IsSome, option_map, Option, Some, None}
use Rattle.std.specs.List.{find}
use Rattle.nova_model.specs.Choice.{in_front}
use Rattle.nova_model.specs.Delegations.{covers}
use Rattle.nova_model.specs.Deeds.{deed}
use Rattle.nova_model.specs.Runs.{after, run}
use Rattle.nova_model.specs.State.{KernelState}
use Rattle.nova_model.specs.declared.deed.Deed.{Deed}
use Rattle.nova_model.specs.declared.log.LogByte.{LogByte}
use Rattle.law_forest.specs.Effects.{Branch, branched}
use Rattle.law_forest.proofs.Members.{in_from_contains}
use Rattle.law_isolation.specs.Sound.{IsSound}
use Rattle.law_isolation.proofs.Runs.{turn_sound}
use Rattle.law_integrity.specs.Confined.{Of}
use Rattle.law_flow.specs.Flow.{AreAtWorkTimeless, AreCreatingAlone, AreDerivedAlike, AreGivingWithin, AreRevokingWithin, DerivesWithin, GivesWithin, HasSameClock, IsAtWork, RevokesNothing, gain_for, held_by, own_bytes, own_deeds, own_turn, unnumbered, fixed}
use Rattle.law_flow.proofs.Pairs.{never}
use Rattle.law_flow.proofs.Taking.{GainsNone, derived_kept, derived_more, left_gains}
use Rattle.law_flow.proofs.Turns.{AreTwins, EndSame, Ends, OwnDeed, alike_flipped, alike_through, decided, deed_for, own_alike, own_derived, own_gains, own_is, own_side, own_there, working_both}
use Rattle.law_service.specs.Service.{Answer, AreServed, Begin, Enters, Entry, Gift, IsEntered, IsServedBy, Item, Own, Part, Recall, Return, Up, course, entry_in, gift_branch, happening_of}
use Rattle.law_service.proofs.Entering.{turns_alike}
use Rattle.law_service.proofs.Gifts.{newest}
use Rattle.law_service.proofs.Joining.{foreign_child, gives_some, joins_for}

-- of a run what is done and shown, by its first turn and the others
abbrev DeedsFrom : (ℕ → Bool) → KernelState → ℕ → List ℕ → List OwnDeed
DeedsFrom S k cpu ts = in_front (deed_for k (own_turn S k cpu)) (own_deeds S (after k cpu) ts)

abbrev BytesFrom : (ℕ → Bool) → KernelState → ℕ → List ℕ → List LogByte
BytesFrom S k cpu ts = gain_for k cpu (own_turn S k cpu) ++ own_bytes S (after k cpu) ts

deeds_so : (S : ℕ → Bool) (k : KernelState) (cpu : ℕ) (ts : List ℕ) (o : Option (ℕ × ℕ)) → own_turn S k cpu ≡ o → DeedsFrom S k cpu ts ≡ in_front (deed_for k o) (own_deeds S (after k cpu) ts)
deeds_so S k cpu ts o is = ap (λ (p : Option (ℕ × ℕ)). in_front (deed_for k p) (own_deeds S (after k cpu) ts)) is

bytes_so : (S : ℕ → Bool) (k : KernelState) (cpu : ℕ) (ts : List ℕ) (o : Option (ℕ × ℕ)) → own_turn S k cpu ≡ o → BytesFrom S k cpu ts ≡ gain_for k cpu o ++ own_bytes S (after k cpu) ts
bytes_so S k cpu ts o is = ap (λ (p : Option (ℕ × ℕ)). gain_for k cpu p ++ own_bytes S (after k cpu) ts) is

-- WHERE THE SIDE MAY REVOKE

-- what is asked of both states: where the side may revoke, its ranges were made of each other alike, too
pub record ArePaired (revokes : Bool) (k l : KernelState) (S P : ℕ → Bool) : Type 0 where
  pub twins : AreTwins k l S P
  pub derived : revokes ≡ true → AreDerivedAlike k l (Of S)

-- a turn of others that gives the side no range brings it none
served_gains : (k : KernelState) (S P : ℕ → Type 0) (cpu : ℕ) → IsSound k → IsServedBy k S P cpu None → GainsNone k (after k cpu) S
served_gains k S P cpu sound served = left_gains k S cpu sound served.same.spaces

entered_gains : (k : KernelState) (S P : ℕ → Type 0) (cpu : ℕ) (e : Entry) → IsSound k → IsEntered k S P cpu e → gift_branch k.delegations.list e.gift ≡ None → GainsNone k (after k cpu) S
entered_gains k S P cpu e sound served none =
    left_gains k S cpu sound (λ kind pd place s. served.same.spaces kind pd place s ∙ ap (λ (o : Option Branch). option_map held_by (find (covers kind pd place) (branched k.delegations o).list)) none)

gains_still : (k : KernelState) (S : ℕ → Type 0) → GainsNone k k S
gains_still k S d there s = there

-- a turn that nothing enters
idle_second : (revokes : Bool) (S P : ℕ → Bool) (k l : KernelState) (cpu : ℕ) → ArePaired revokes k l S P → IsServedBy l (Of S) (Of P) cpu None → ArePaired revokes k (after l cpu) S P
idle_second revokes S P k l cpu p left =
    let t = p.twins in
    record {
      twins = record { side = t.side; alike = alike_through k l (after l cpu) (Of S) (Of P) t.alike left.same; first = t.first; second = turn_sound l cpu t.second };
      derived = λ yes. derived_kept k l k (after l cpu) (Of S) (gains_still k (Of S)) (served_gains l (Of S) (Of P) cpu t.second left) (p.derived yes);
    }

idle_first : (revokes : Bool) (S P : ℕ → Bool) (k l : KernelState) (cpu : ℕ) → ArePaired revokes k l S P → IsServedBy k (Of S) (Of P) cpu None → ArePaired revokes (after k cpu) l S P
idle_first revokes S P k l cpu p left =
    let t = p.twins in
    record {
      twins = record {
        side = left.side;
        alike = alike_through (after k cpu) k l (Of S) (Of P) (alike_flipped k (after k cpu) (Of S) (Of P) left.same) t.alike;
        first = turn_sound k cpu t.first;
        second = t.second;
      };
      derived = λ yes. derived_kept k l (after k cpu) l (Of S) (served_gains k (Of S) (Of P) cpu t.first left) (gains_still l (Of S)) (p.derived yes);
    }

-- two turns that the same enters
entered_derived : (S P : ℕ → Bool) (k l : KernelState) (cpu other : ℕ) (e : Entry) → IsSound k → IsSound l → entry_in S P k cpu ≡ Some e → entry_in S P l other ≡ Some e →
    IsEntered k (Of S) (Of P) cpu e → IsEntered l (Of S) (Of P) other e → AreDerivedAlike k l (Of S) → AreDerivedAlike (after k cpu) (after l other) (Of S)
entered_derived S P k l cpu other e sound further at also first second a = by_gift e.gift refl
  where
    stays : gift_branch k.delegations.list e.gift ≡ None → gift_branch l.delegations.list e.gift ≡ None → AreDerivedAlike (after k cpu) (after l other) (Of S)
    stays none nothing = derived_kept k l (after k cpu) (after l other) (Of S) (entered_gains k (Of S) (Of P) cpu e sound first none) (entered_gains l (Of S) (Of P) other e further second nothing) a

    by_gift : (g : Option Gift) → e.gift ≡ g → AreDerivedAlike (after k cpu) (after l other) (Of S)
    by_gift None is = stays (ap (gift_branch k.delegations.list) is) (ap (gift_branch l.delegations.list) is)
    by_gift (Some (Answer handler caller words)) is = stays (ap (gift_branch k.delegations.list) is) (ap (gift_branch l.delegations.list) is)
    by_gift (Some (Return handler caller words)) is = stays (ap (gift_branch k.delegations.list) is) (ap (gift_branch l.delegations.list) is)
    by_gift (Some (Begin handler caller words)) is = stays (ap (gift_branch k.delegations.list) is) (ap (gift_branch l.delegations.list) is)
    by_gift (Some (Item item told replied)) is = stays (ap (gift_branch k.delegations.list) is) (ap (gift_branch l.delegations.list) is)
    by_gift (Some (Up sm woken)) is = stays (ap (gift_branch k.delegations.list) is) (ap (gift_branch l.delegations.list) is)
    by_gift (Some (Recall whose)) is = stays (ap (gift_branch k.delegations.list) is) (ap (gift_branch l.delegations.list) is)
    by_gift (Some (Part domain held bytes)) is =
        let some : IsSome e.gift = subst IsSome (sym is) refl in
        let x = joins_for k S P cpu domain held bytes e (gives_some k S P cpu e at some) is in
        let y = joins_for l S P other domain held bytes e (gives_some l S P other e also some) is in
        let m = newest k cpu x.child sound x.is in
        let n = newest l other y.child further y.is in
        derived_more k l (after k cpu) (after l other) (Of S) (turn_sound k cpu sound).forest (turn_sound l other further).forest x.child y.child
        (record {
          first = sound.forest;
          second = further.forest;
          of = ap S x.pd ∙ x.of;
          id = m.id;
          twin_id = n.id;
          twins = record { pd = y.pd ∙ sym x.pd; held = y.held_so ∙ sym x.held_so };
          parents = λ d f same.
              foreign_child l.delegations further.forest S y.child f n.id y.foreign (in_from_contains l.delegations.list f same.second) (ap S same.pd ∙ same.of)
              ∙ sym (foreign_child k.delegations sound.forest S x.child d m.id x.foreign (in_from_contains k.delegations.list d same.first) same.of);
          itself = n.other ∙ sym m.other;
        }) x.is y.is a

both_entered : (revokes : Bool) (S P : ℕ → Bool) (k l : KernelState) (cpu other : ℕ) (e : Entry) → ArePaired revokes k l S P → entry_in S P k cpu ≡ Some e → entry_in S P l other ≡ Some e →
    IsEntered k (Of S) (Of P) cpu e → IsEntered l (Of S) (Of P) other e → ArePaired revokes (after k cpu) (after l other) S P
both_entered revokes S P k l cpu other e p at also first second =
    let t = p.twins in
    record {
      twins = record {
        side = first.side;
        alike = turns_alike k l (Of S) (Of P) cpu other e t.alike first second;
        first = turn_sound k cpu t.first;
        second = turn_sound l other t.second;
      };
      derived = λ yes. entered_derived S P k l cpu other e t.first t.second at also first second (p.derived yes);
    }

-- the side's own
pub both_own : (revokes : Bool) (S P : ℕ → Bool) (k l : KernelState) (cpu other ec sc : ℕ) → ArePaired revokes k l S P → own_turn S k cpu ≡ Some (ec, sc) → own_turn S l other ≡ Some (ec, sc) →
    IsAtWork (HasSameClock k l ec) (AreGivingWithin k l (Of S) ec) (AreRevokingWithin k l (Of S)) (AreCreatingAlone k l (Of S) (Of P)) k ec → ArePaired revokes (after k cpu) (after l other) S P
both_own revokes S P k l cpu other ec sc p own also works =
    let t = p.twins in
    record {
      twins = record {
        side = own_side k l S P cpu ec sc t own works;
        alike = own_alike k l S P cpu other ec sc t own also works;
        first = turn_sound k cpu t.first;
        second = turn_sound l other t.second;
      };
      derived = λ yes. own_derived k l S P cpu other ec sc t own also works (p.derived yes);
    }

-- THE SECOND GOES ON

-- by turns that nothing enters alone
nothing_more : (revokes : Bool) (S P : ℕ → Bool) (us : List ℕ) (k l : KernelState) → ArePaired revokes k l S P → AreServed revokes S P l us → [] ≡ course S P l us →
    EndSame k (run l us) S P [] (own_deeds S l us) [] (own_bytes S l us)
nothing_more revokes S P [] k l t served same = record { alike = t.twins.alike; deeds = refl; bytes = refl }
nothing_more revokes S P (cpu ∷ us) k l t served same =
    by_own (own_turn S l cpu) refl (entry_in S P l cpu) refl same (λ next rest. nothing_more revokes S P us k (after l cpu) next served.3 rest)
  where
    by_own : (o : Option (ℕ × ℕ)) → own_turn S l cpu ≡ o → (e : Option Entry) → entry_in S P l cpu ≡ e → [] ≡ in_front (happening_of o e) (course S P (after l cpu) us) →
        (ArePaired revokes k (after l cpu) S P → [] ≡ course S P (after l cpu) us → EndSame k (run (after l cpu) us) S P [] (own_deeds S (after l cpu) us) [] (own_bytes S (after l cpu) us)) →
        EndSame k (run (after l cpu) us) S P [] (DeedsFrom S l cpu us) [] (BytesFrom S l cpu us)
    by_own None is None at rest later =
        let ended = later (idle_second revokes S P k l cpu t (subst (IsServedBy l (Of S) (Of P) cpu) at (served.0 is))) rest in
        record { alike = ended.alike; deeds = deeds_so S l cpu us None is ∙ ended.deeds; bytes = bytes_so S l cpu us None is ∙ ended.bytes }
    by_own None is (Some e) at rest later = absurd (cc)
    by_own (Some p) is e at rest later = absurd (cc)

abbrev GoesOn : Bool → KernelState → List ℕ → (ℕ → Bool) → (ℕ → Bool) → Type 0
GoesOn revokes k ts S P = (vs : List ℕ) (m : KernelState) → ArePaired revokes k m S P → AreServed revokes S P m vs → course S P k ts ≡ course S P m vs → Ends k ts m vs S P

-- until its next turn of the side's, which is as the first's
own_matched : (revokes : Bool) (S P : ℕ → Bool) (us : List ℕ) (k l : KernelState) (cpu : ℕ) (ts : List ℕ) (p : ℕ × ℕ) → own_turn S k cpu ≡ Some p → IsAtWork ⊥ (RevokesNothing k (Of S)) (revokes ≡ true) (false ≡ true) k p.0 → GivesWithin S k cpu →
    (revokes ≡ true → DerivesWithin k (Of S)) → ArePaired revokes k l S P → AreServed revokes S P l us → Own p.0 p.1 ∷ course S P (after k cpu) ts ≡ course S P l us → GoesOn revokes (after k cpu) ts S P →
    EndSame (run (after k cpu) ts) (run l us) S P ((p.0, unnumbered (deed k p.0)) ∷ own_deeds S (after k cpu) ts) (own_deeds S l us) (gain_for k cpu (Some p) ++ own_bytes S (after k cpu) ts) (own_bytes S l us)
own_matched revokes S P [] k l cpu ts p own works within derives t served same later = absurd (cc)
own_matched revokes S P (other ∷ us) k l cpu ts p own works within derives t served same later =
    by_own (own_turn S l other) refl (entry_in S P l other) refl same (λ next rest. own_matched revokes S P us k (after l other) cpu ts p own works within derives next served.3 rest later)
  where
    timed : own_turn S l other ≡ Some (p.0, p.1) → IsAtWork (HasSameClock k l p.0) (AreGivingWithin k l (Of S) p.0) (AreRevokingWithin k l (Of S)) (AreCreatingAlone k l (Of S) (Of P)) k p.0
    timed also =
        let its = own_is S k cpu p.0 p.1 own in
        working_both (RevokesNothing k (Of S)) (revokes ≡ true) (false ≡ true) k l S P p.0 t.twins (own_there S k (Of P) cpu p.0 p.1 t.twins.first t.twins.side its) its.of works (within p.0 p.1 own) (served.1 p.0 p.1 also)
        (λ yes. record { alike = t.derived yes; first = derives yes; second = served.2 yes }) (λ h. absurd (never h))

    by_own : (o : Option (ℕ × ℕ)) → own_turn S l other ≡ o → (e : Option Entry) → entry_in S P l other ≡ e →
        Own p.0 p.1 ∷ course S P (after k cpu) ts ≡ in_front (happening_of o e) (course S P (after l other) us) →
        (ArePaired revokes k (after l other) S P → Own p.0 p.1 ∷ course S P (after k cpu) ts ≡ course S P (after l other) us →
        EndSame (run (after k cpu) ts) (run (after l other) us) S P ((p.0, unnumbered (deed k p.0)) ∷ own_deeds S (after k cpu) ts) (own_deeds S (after l other) us) (gain_for k cpu (Some p) ++ own_bytes S (after k cpu) ts) (own_bytes S (after l other) us)) →
        EndSame (run (after k cpu) ts) (run (after l other) us) S P ((p.0, unnumbered (deed k p.0)) ∷ own_deeds S (after k cpu) ts) (DeedsFrom S l other us) (gain_for k cpu (Some p) ++ own_bytes S (after k cpu) ts) (BytesFrom S l other us)
    by_own None is None at rest goes_on =
        let ended = goes_on (idle_second revokes S P k l other t (subst (IsServedBy l (Of S) (Of P) other) at (served.0 is))) rest in
        record { alike = ended.alike; deeds = deeds_so S l other us None is ∙ ended.deeds; bytes = bytes_so S l other us None is ∙ ended.bytes }
    by_own None is (Some e) at rest goes_on = absurd (let first : Own p.0 p.1 ≡ Enters e = cc in cc)
    by_own (Some q) is e at rest goes_on =
        let first : Own p.0 p.1 ≡ Own q.0 q.1 = cc in
        let who : q.0 ≡ p.0 = cc in
        let pays : q.1 ≡ p.1 = cc in
        let tails : course S P (after k cpu) ts ≡ course S P (after l other) us = cc in
        let also : own_turn S l other ≡ Some (p.0, p.1) = is ∙ ap₂ (λ (m n : ℕ). Some (m, n)) who pays in
        let ended = later us (after l other) (both_own revokes S P k l cpu other p.0 p.1 t own also (timed also)) served.3 tails in
        record {
          alike = ended.alike;
          deeds = deeds_so S l other us (Some (p.0, p.1)) also ∙ ap₂ (λ (d : Deed) (es : List OwnDeed). (p.0, d) ∷ es) (decided k l S P cpu p.0 p.1 t.twins own (timed also)) ended.deeds;
          bytes = bytes_so S l other us (Some (p.0, p.1)) also ∙ ap₂ (λ (xs ys : List LogByte). xs ++ ys) (own_gains k l S P cpu other p.0 p.1 t.twins own also (timed also)) ended.bytes;
        }

-- until its next entry, which is the first's
entry_matched : (revokes : Bool) (S P : ℕ → Bool) (us : List ℕ) (k l : KernelState) (cpu : ℕ) (ts : List ℕ) (e : Entry) → entry_in S P k cpu ≡ Some e → IsEntered k (Of S) (Of P) cpu e → ArePaired revokes k l S P → AreServed revokes S P l us →
    Enters e ∷ course S P (after k cpu) ts ≡ course S P l us → GoesOn revokes (after k cpu) ts S P → Ends (after k cpu) ts l us S P
entry_matched revokes S P [] k l cpu ts e enters entered t served same later = absurd (cc)
entry_matched revokes S P (other ∷ us) k l cpu ts e enters entered t served same later =
    by_own (own_turn S l other) refl (entry_in S P l other) refl same (λ next rest. entry_matched revokes S P us k (after l other) cpu ts e enters entered next served.3 rest later)
  where
    by_own : (o : Option (ℕ × ℕ)) → own_turn S l other ≡ o → (f : Option Entry) → entry_in S P l other ≡ f →
        Enters e ∷ course S P (after k cpu) ts ≡ in_front (happening_of o f) (course S P (after l other) us) →
        (ArePaired revokes k (after l other) S P → Enters e ∷ course S P (after k cpu) ts ≡ course S P (after l other) us → Ends (after k cpu) ts (after l other) us S P) →
        EndSame (run (after k cpu) ts) (run (after l other) us) S P (own_deeds S (after k cpu) ts) (DeedsFrom S l other us) (own_bytes S (after k cpu) ts) (BytesFrom S l other us)
    by_own None is None at rest goes_on =
        let ended = goes_on (idle_second revokes S P k l other t (subst (IsServedBy l (Of S) (Of P) other) at (served.0 is))) rest in
        record { alike = ended.alike; deeds = deeds_so S l other us None is ∙ ended.deeds; bytes = bytes_so S l other us None is ∙ ended.bytes }
    by_own None is (Some f) at rest goes_on =
        let first : Enters e ≡ Enters f = cc in
        let one : f ≡ e = cc in
        let tails : course S P (after k cpu) ts ≡ course S P (after l other) us = cc in
        let also : IsEntered l (Of S) (Of P) other e = subst (IsEntered l (Of S) (Of P) other) one (subst (IsServedBy l (Of S) (Of P) other) at (served.0 is)) in
        let ended = later us (after l other) (both_entered revokes S P k l cpu other e t enters (at ∙ ap (λ (x : Entry). Some x) one) entered also) served.3 tails in
        record { alike = ended.alike; deeds = deeds_so S l other us None is ∙ ended.deeds; bytes = bytes_so S l other us None is ∙ ended.bytes }
    by_own (Some q) is f at rest goes_on = absurd (let first : Enters e ≡ Own q.0 q.1 = cc in cc)

-- BOTH

pub served_alike : (revokes : Bool) (S P : ℕ → Bool) (ts us : List ℕ) (k l : KernelState) → ArePaired revokes k l S P → AreServed revokes S P k ts → AreServed revokes S P l us → AreAtWorkTimeless (fixed revokes) S k ts →
    course S P k ts ≡ course S P l us → Ends k ts l us S P
served_alike revokes S P [] us k l t first second works same = nothing_more revokes S P us k l t second same
served_alike revokes S P (cpu ∷ ts) us k l t first second works same =
    by_own (own_turn S k cpu) refl (entry_in S P k cpu) refl same (λ j vs m next one other at_work also. served_alike revokes S P ts vs j m next one other at_work also)
  where
    by_own : (o : Option (ℕ × ℕ)) → own_turn S k cpu ≡ o → (e : Option Entry) → entry_in S P k cpu ≡ e → in_front (happening_of o e) (course S P (after k cpu) ts) ≡ course S P l us →
        ((j : KernelState) (vs : List ℕ) (m : KernelState) → ArePaired revokes j m S P → AreServed revokes S P j ts → AreServed revokes S P m vs → AreAtWorkTimeless (fixed revokes) S j ts → course S P j ts ≡ course S P m vs → Ends j ts m vs S P) →
        EndSame (run (after k cpu) ts) (run l us) S P (DeedsFrom S k cpu ts) (own_deeds S l us) (BytesFrom S k cpu ts) (own_bytes S l us)
    by_own None is None at rest later =
        let ended = later (after k cpu) us l (idle_first revokes S P k l cpu t (subst (IsServedBy k (Of S) (Of P) cpu) at (first.0 is))) first.3 second works.1 rest in
        record { alike = ended.alike; deeds = ended.deeds ∙ sym (deeds_so S k cpu ts None is); bytes = ended.bytes ∙ sym (bytes_so S k cpu ts None is) }
    by_own None is (Some e) at rest later =
        let entered : IsEntered k (Of S) (Of P) cpu e = subst (IsServedBy k (Of S) (Of P) cpu) at (first.0 is) in
        let ended = entry_matched revokes S P us k l cpu ts e at entered t second rest (λ vs m next served also. later (after k cpu) vs m next first.3 served works.1 also) in
        record { alike = ended.alike; deeds = ended.deeds ∙ sym (deeds_so S k cpu ts None is); bytes = ended.bytes ∙ sym (bytes_so S k cpu ts None is) }
    by_own (Some p) is e at rest later =
        let ended = own_matched revokes S P us k l cpu ts p is (works.0 p.0 p.1 is) first.1 first.2 t second rest (λ vs m next served also. later (after k cpu) vs m next first.3 served works.1 also) in
        record { alike = ended.alike; deeds = ended.deeds ∙ sym (deeds_so S k cpu ts (Some p) is); bytes = ended.bytes ∙ sym (bytes_so S k cpu ts (Some p) is) }
