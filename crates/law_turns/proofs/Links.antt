-- Callers and the contexts that serve them, where an execution context of a table changes and where one joins.
use Rattle.std.proofs.Common.{◌≡◌, ℕ, [], ◌∷◌, ◌++◌, length, refl, ap, ◌∙◌, sym, subst, inl, inr, arith}
use Rattle.std.specs.Prelude.{◌≢◌, ◌⊎◌, ◌==◌, Bool, true, false, Option, Some, None, IsSome}
use Rattle.nova_model.specs.Calls.{is_parked}
use Rattle.nova_model.specs.Edges.{is_dead, is_free, state_in}
use Rattle.nova_model.specs.State.{Contexts, ec_in, entry, with_ec}
use Rattle.nova_model.specs.declared.context.EcState.{EcState}
use Rattle.nova_model.specs.declared.context.Mark.{Mark}
use Rattle.nova_model.specs.declared.context.State.{State}
use Rattle.nova_model.specs.declared.context.State.TheVariants.{Calling, Granting}
use Rattle.law_turns.specs.Links.{AreServed, IsLinked, IsWell, caller_at, cpu_at, handles_items, state_at}
use Rattle.law_turns.proofs.Setting.{entry_itself, entry_other, get_last, joined_other}

pub place : (x y : ℕ) → (x ≡ y) ⊎ (x ≢ y)
place x y = by_test (x == y) refl
  where
    by_test : (t : Bool) → (x == y) ≡ t → (x ≡ y) ⊎ (x ≢ y)
    by_test true is = inl (grind (arith, is))
    by_test false is = inr (λ same. absurd (grind (arith, is, same)))

-- A CONTEXT IS SET

abbrev LinkedBut : (ℕ → ℕ → Type 0) → Contexts → Type 0
LinkedBut Odd cs = (c h : ℕ) → (Odd c h → ⊥) → IsLinked c (ec_in cs c) h (ec_in cs h)

linked_set : (cs : Contexts) (e : ℕ) (y : EcState) → IsSome (ec_in cs e) → (c h : ℕ) →
    (c ≢ e → h ≢ e → IsLinked c (ec_in cs c) h (ec_in cs h)) →
    (c ≢ e → h ≡ e → IsLinked c (ec_in cs c) e (Some y)) →
    (c ≡ e → h ≢ e → IsLinked e (Some y) h (ec_in cs h)) →
    (c ≡ e → h ≡ e → IsLinked e (Some y) e (Some y)) →
    IsLinked c (ec_in (with_ec cs e y) c) h (ec_in (with_ec cs e y) h)
linked_set cs e y there c h neither second first both = by_place (place c e) (place h e)
  where
    itself : ec_in (with_ec cs e y) e ≡ Some y
    itself = entry_itself cs e y there

    by_place : (c ≡ e) ⊎ (c ≢ e) → (h ≡ e) ⊎ (h ≢ e) → IsLinked c (ec_in (with_ec cs e y) c) h (ec_in (with_ec cs e y) h)
    by_place (inl a) (inl b) = rw (a, b, itself) (both a b)
    by_place (inl a) (inr b) = rw (a, itself, entry_other cs e h y b) (first a b)
    by_place (inr a) (inl b) = rw (b, itself, entry_other cs e c y a) (second a b)
    by_place (inr a) (inr b) = rw (entry_other cs e c y a, entry_other cs e h y b) (neither a b)

well_set : (is_local : ℕ → Bool) (cs : Contexts) (e : ℕ) (y : EcState) → IsSome (ec_in cs e) → ((h : ℕ) → IsWell (is_local h) (ec_in cs h)) →
    IsWell (is_local e) (Some y) → (h : ℕ) → IsWell (is_local h) (ec_in (with_ec cs e y) h)
well_set is_local cs e y there well new h = by_place (place h e)
  where
    by_place : (h ≡ e) ⊎ (h ≢ e) → IsWell (is_local h) (ec_in (with_ec cs e y) h)
    by_place (inl a) = rw (a, entry_itself cs e y there) new
    by_place (inr a) = rw (entry_other cs e h y a) (well h)

-- A CONTEXT GOES ON, AND KEEPS ITS CALLER

-- a context that takes the items of a call
abbrev pub is_taking : Option State → Bool
is_taking (Some (Granting None)) = true
is_taking other = false

-- it may begin to wait for another, or cease to be waited for, as told
pub record GoesOn (cs : Contexts) (odd : Option ℕ) (x y : EcState) : Type 0 where
  pub caller : y.caller ≡ x.caller
  pub cpu : y.cpu ≡ x.cpu
  pub calls : (h : ℕ) → y.state ≡ Calling h → (x.state ≡ Calling h) ⊎ (odd ≡ Some h)
  pub frees : (h : ℕ) → x.state ≡ Calling h → (y.state ≡ Calling h) ⊎ ((is_dead (state_in cs h) ≡ true) ⊎ (odd ≡ Some h))
  pub lives : is_dead (Some y.state) ≡ false → is_dead (Some x.state) ≡ false
  pub works : is_free (Some y.state) ≡ false → is_free (Some x.state) ≡ false
  pub parks : is_parked (Some y.state) ≡ true → is_parked (Some x.state) ≡ true
  pub gives : handles_items (Some y.state) ≡ true → IsSome x.caller
  pub takes : Some y.state ≡ Some (Granting None) → Some x.state ≡ Some (Granting None)

abbrev IsOdd : ℕ → Option ℕ → ℕ → ℕ → Type 0
IsOdd e odd c h = (c ≡ e) × (odd ≡ Some h)

moved_linked : (is_local : ℕ → Bool) (cs : Contexts) (e : ℕ) (odd : Option ℕ) (x y : EcState) → ec_in cs e ≡ Some x → GoesOn cs odd x y → AreServed is_local cs →
    LinkedBut (IsOdd e odd) (with_ec cs e y)
moved_linked is_local cs e odd x y was on served c h plain =
    linked_set cs e y (rw was refl) c h (λ a b. served.linked c h) to from itself
  where
    calls : (g : ℕ) → Some y.state ≡ Some (Calling g) → (odd ≡ Some g → ⊥) → Some x.state ≡ Some (Calling g)
    calls g is not_odd = elim (on.calls g cc) [
      | inl same ↦ ap Some same
      | inr is_odd ↦ absurd (not_odd is_odd)
    ]

    frees : (g : ℕ) → Some x.state ≡ Some (Calling g) → is_dead (state_in cs g) ≡ false → (odd ≡ Some g → ⊥) → Some y.state ≡ Some (Calling g)
    frees g is lives not_odd = elim (on.frees g cc) [
      | inl same ↦ ap Some same
      | inr other ↦ elim other [
        | inl dead ↦ absurd cc
        | inr is_odd ↦ absurd (not_odd is_odd)
      ]
    ]

    to : c ≢ e → h ≡ e → IsLinked c (ec_in cs c) e (Some y)
    to a b =
        let old : IsLinked c (ec_in cs c) e (Some x) = subst (λ (o : Option EcState). IsLinked c (ec_in cs c) e o) was (served.linked c e) in record {
          known = λ is. let knows = old.known is in (knows.0, on.caller ∙ knows.1);
          waits = λ mark keeps lives. old.waits mark (sym on.caller ∙ keeps) (on.lives lives);
          cpu = λ mark keeps. old.cpu mark (sym on.caller ∙ keeps) ∙ ap Some (sym on.cpu);
        }

    from : c ≡ e → h ≢ e → IsLinked e (Some y) h (ec_in cs h)
    from a b =
        let old : IsLinked e (Some x) h (ec_in cs h) = subst (λ (o : Option EcState). IsLinked e o h (ec_in cs h)) was (served.linked e h) in record {
          known = λ is. old.known (calls h is (λ is_odd. plain (a, is_odd)));
          waits = λ mark keeps lives. frees h (old.waits mark keeps lives) lives (λ is_odd. plain (a, is_odd));
          cpu = λ mark keeps. ap Some on.cpu ∙ old.cpu mark keeps;
        }

    itself : c ≡ e → h ≡ e → IsLinked e (Some y) e (Some y)
    itself a b =
        let old : IsLinked e (Some x) e (Some x) = subst (λ (o : Option EcState). IsLinked e o e o) was (served.linked e e) in
        let not_odd : odd ≡ Some e → ⊥ = (λ is_odd. plain (a, is_odd ∙ ap Some (sym b))) in record {
          known = λ is. let knows = old.known (calls e is not_odd) in (knows.0, on.caller ∙ knows.1);
          waits = λ mark keeps lives.
              frees e (old.waits mark (sym on.caller ∙ keeps) (on.lives lives)) (ap is_dead (ap state_at was) ∙ on.lives lives) not_odd;
          cpu = λ mark keeps. refl;
        }

moved_well : (is_local : Bool) (cs : Contexts) (odd : Option ℕ) (x y : EcState) → GoesOn cs odd x y → IsWell is_local (Some x) → IsWell is_local (Some y)
moved_well is_local cs odd x y on old = record {
  parked = λ is. let before = old.parked (on.parks is) in (on.caller ∙ before.0, before.1);
  serving = λ local there works. rw on.caller (old.serving local refl (on.works works));
  kept = λ c mark keeps. old.kept c mark (sym on.caller ∙ keeps);
  giving = λ gives. rw on.caller (on.gives gives);
  taking = λ c mark keeps is. old.taking c mark (sym on.caller ∙ keeps) (on.takes is);
}

well_at : (is_local : ℕ → Bool) (cs : Contexts) (e : ℕ) (x : EcState) → ec_in cs e ≡ Some x → AreServed is_local cs → IsWell (is_local e) (Some x)
well_at is_local cs e x was served = subst (λ (o : Option EcState). IsWell (is_local e) o) was (served.well e)

pub served_on : (is_local : ℕ → Bool) (cs : Contexts) (e : ℕ) (x y : EcState) → ec_in cs e ≡ Some x → GoesOn cs None x y → AreServed is_local cs → AreServed is_local (with_ec cs e y)
served_on is_local cs e x y was on served = record {
  linked = λ c h. moved_linked is_local cs e None x y was on served c h (λ odd. let none = odd.1 in absurd cc);
  well = well_set is_local cs e y (rw was refl) served.well (moved_well (is_local e) cs None x y on (well_at is_local cs e x was served));
}

-- A HANDLER TAKES A CALLER, OR LETS IT GO

-- the caller that it serves before or after is `a`
pub record Serves (cs : Contexts) (a h : ℕ) (x y : EcState) : Type 0 where
  pub apart : a ≢ h
  pub cpu : y.cpu ≡ x.cpu
  pub before : (c : ℕ) (mark : Mark) → x.caller ≡ Some (c, mark) → c ≡ a
  pub after : (c : ℕ) (mark : Mark) → y.caller ≡ Some (c, mark) → c ≡ a
  pub calls : (g : ℕ) → y.state ≢ Calling g
  pub frees : (g : ℕ) → x.state ≡ Calling g → is_dead (state_in cs g) ≡ true
  pub pair : IsLinked a (ec_in cs a) h (Some y)

serving_linked : (cs : Contexts) (a h : ℕ) (x y : EcState) → ec_in cs h ≡ Some x → Serves cs a h x y → LinkedBut (IsOdd a (Some h)) cs →
    (c g : ℕ) → IsLinked c (ec_in (with_ec cs h y) c) g (ec_in (with_ec cs h y) g)
serving_linked cs a h x y was on linked c g = linked_set cs h y (rw was refl) c g others to from itself
  where
    others : c ≢ h → g ≢ h → IsLinked c (ec_in cs c) g (ec_in cs g)
    others a b = linked c g (λ odd. let same = odd.1 in b (let at : g ≡ h = cc in at))

    to : c ≢ h → g ≡ h → IsLinked c (ec_in cs c) h (Some y)
    to other at = elim (place c a) [
      | inl is ↦ rw is on.pair
      | inr differs ↦
          let old : IsLinked c (ec_in cs c) h (Some x) =
          subst (λ (o : Option EcState). IsLinked c (ec_in cs c) h o) was (linked c h (λ odd. differs odd.0)) in record {
            known = λ is. let knows = old.known is in absurd (differs (on.before c knows.0 knows.1));
            waits = λ mark keeps lives. absurd (differs (on.after c mark keeps));
            cpu = λ mark keeps. absurd (differs (on.after c mark keeps));
          }
    ]

    from : c ≡ h → g ≢ h → IsLinked h (Some y) g (ec_in cs g)
    from at other =
        let old : IsLinked h (Some x) g (ec_in cs g) =
        subst (λ (o : Option EcState). IsLinked h o g (ec_in cs g)) was (linked h g (λ odd. on.apart (sym odd.0))) in record {
          known = λ is. absurd (on.calls g cc);
          waits = λ mark keeps lives. absurd (let is = old.waits mark keeps lives in let dead = on.frees g cc in cc);
          cpu = λ mark keeps. ap Some on.cpu ∙ old.cpu mark keeps;
        }

    itself : c ≡ h → g ≡ h → IsLinked h (Some y) h (Some y)
    itself a b = record {
      known = λ is. absurd (on.calls h cc);
      waits = λ mark keeps lives. absurd (on.apart (sym (on.after h mark keeps)));
      cpu = λ mark keeps. refl;
    }

-- `c` goes on, and waits for `h`, or ceases to, and `h` takes it as its caller, or lets it go
pub record IsExchange (is_local : ℕ → Bool) (cs : Contexts) (c h : ℕ) (x y z w : EcState) : Type 0 where
  pub caller : ec_in cs c ≡ Some x
  pub handler : ec_in cs h ≡ Some z
  pub on : GoesOn cs (Some h) x y
  pub serves : Serves (with_ec cs c y) c h z w
  pub well : IsWell (is_local h) (Some w)

pub served_exchange : (is_local : ℕ → Bool) (cs : Contexts) (c h : ℕ) (x y z w : EcState) → IsExchange is_local cs c h x y z w → AreServed is_local cs →
    AreServed is_local (with_ec (with_ec cs c y) h w)
served_exchange is_local cs c h x y z w e served =
    let one = with_ec cs c y in
    let still : ec_in one h ≡ Some z = entry_other cs c h y (λ same. e.serves.apart (sym same)) ∙ e.handler in record {
      linked = serving_linked one c h z w still e.serves (moved_linked is_local cs c (Some h) x y e.caller e.on served);
      well = well_set is_local one h w (rw still refl)
          (well_set is_local cs c y (rw e.caller refl) served.well (moved_well (is_local c) cs (Some h) x y e.on (well_at is_local cs c x e.caller served))) e.well;
    }

-- A CONTEXT JOINS

pub more_other : (cs : Contexts) (o : Option EcState) (h : ℕ) → h ≢ length cs → ec_in (cs ++ o ∷ []) h ≡ ec_in cs h
more_other cs o h other = ap entry (joined_other cs o h other)

pub more_itself : (cs : Contexts) (o : Option EcState) → ec_in (cs ++ o ∷ []) (length cs) ≡ o
more_itself cs o = ap entry (get_last cs o)

pub past : (cs : Contexts) → ec_in cs (length cs) ≡ None
past [] = refl
past (c ∷ cs) = past cs

-- the caller of none, and the handler of none
pub record IsNewborn (is_local : Bool) (o : Option EcState) : Type 0 where
  pub caller : caller_at o ≡ None
  pub calls : (h : ℕ) → state_at o ≢ Some (Calling h)
  pub well : IsWell is_local o

kept_there : (o : Option EcState) (c : ℕ) (mark : Mark) → caller_at o ≡ Some (c, mark) → None ≡ cpu_at o → ⊥
kept_there None c mark keeps none = cc
kept_there (Some x) c mark keeps none = cc

joined_linked : (is_local : ℕ → Bool) (is_new : Bool) (cs : Contexts) (o : Option EcState) → AreServed is_local cs → IsNewborn is_new o →
    (c h : ℕ) → IsLinked c (ec_in (cs ++ o ∷ []) c) h (ec_in (cs ++ o ∷ []) h)
joined_linked is_local is_new cs o served new c h = by_place (place c (length cs)) (place h (length cs))
  where
    to : IsLinked c (ec_in cs c) (length cs) None → IsLinked c (ec_in cs c) (length cs) o
    to old = record {
      known = λ is. absurd (let none = (old.known is).1 in cc);
      waits = λ mark keeps lives. absurd (let none = new.caller in cc);
      cpu = λ mark keeps. absurd (let none = new.caller in cc);
    }

    from : IsLinked (length cs) None h (ec_in cs h) → IsLinked (length cs) o h (ec_in cs h)
    from old = record {
      known = λ is. absurd (new.calls h is);
      waits = λ mark keeps lives. absurd (let none = old.waits mark keeps lives in cc);
      cpu = λ mark keeps. absurd (kept_there (ec_in cs h) (length cs) mark keeps (old.cpu mark keeps));
    }

    itself : IsLinked (length cs) o (length cs) o
    itself = record {
      known = λ is. absurd (new.calls (length cs) is);
      waits = λ mark keeps lives. absurd (let none = new.caller in cc);
      cpu = λ mark keeps. refl;
    }

    by_place : (c ≡ length cs) ⊎ (c ≢ length cs) → (h ≡ length cs) ⊎ (h ≢ length cs) → IsLinked c (ec_in (cs ++ o ∷ []) c) h (ec_in (cs ++ o ∷ []) h)
    by_place (inl a) (inl b) = rw (a, b, more_itself cs o) itself
    by_place (inl a) (inr b) =
        rw (a, more_itself cs o, more_other cs o h b)
        (from (subst (λ (p : Option EcState). IsLinked (length cs) p h (ec_in cs h)) (past cs) (served.linked (length cs) h)))
    by_place (inr a) (inl b) =
        rw (b, more_itself cs o, more_other cs o c a)
        (to (subst (λ (p : Option EcState). IsLinked c (ec_in cs c) (length cs) p) (past cs) (served.linked c (length cs))))
    by_place (inr a) (inr b) = rw (more_other cs o c a, more_other cs o h b) (served.linked c h)

pub served_more : (is_local now_local : ℕ → Bool) (cs : Contexts) (o : Option EcState) → AreServed is_local cs → IsNewborn (now_local (length cs)) o →
    ((h : ℕ) → h ≢ length cs → now_local h ≡ is_local h) → AreServed now_local (cs ++ o ∷ [])
served_more is_local now_local cs o served new locals = record {
  linked = joined_linked is_local (now_local (length cs)) cs o served new;
  well = λ h. elim (place h (length cs)) [
    | inl a ↦ rw (a, more_itself cs o) new.well
    | inr a ↦ rw (more_other cs o h a, locals h a) (served.well h)
  ];
}
