-- What one gives beside others that are amid a revoke.
use Rattle.std.proofs.Common.{◌≡◌, ℕ, ◌+◌, List, [], ◌∷◌, refl, sym, ap, ◌∙◌, subst}
use Rattle.std.specs.Prelude.{◌&&◌, Bool, true, false, not, is_some, slice_get, Option, Some, None, option_map, if◌then◌else◌}
use Rattle.std.specs.Option.{option_or}
use Rattle.std.specs.List.{AllByRecursion, enumerate_from}
use Rattle.std.proofs.lemmas.Bool.{and_from}
use Rattle.std.proofs.lemmas.Option.{same_Some}
use Rattle.nova_calls.specs.Hypercalls.{call_of}
use Rattle.nova_range.specs.declared.range.Range.{Range}
use Rattle.nova_objects.specs.declared.object.Object.{Object}
use Rattle.nova_objects.specs.declared.object.Object.TheVariants.{Pd, Ec, Sc, Pt, Sm}
use Rattle.nova_model.specs.Capabilities.{is_ec}
use Rattle.nova_model.specs.State.{KernelState, context, context_at, context_in, pd_of}
use Rattle.nova_model.specs.declared.context.EcState.{EcState}
use Rattle.nova_model.specs.declared.context.State.{State}
use Rattle.nova_model.specs.declared.context.State.TheVariants.{Revoking}
use Rattle.law_integrity.specs.Rights.{Again, AtCall, IsAsking}
use Rattle.law_integrity.specs.Confined.{Of}
use Rattle.law_turns.specs.Tables.{HasTables}
use Rattle.law_turns.proofs.TablesKept.{context_is}
use Rattle.law_sides.proofs.Lists.{numbered_at}
use Rattle.law_flow.specs.Flow.{RevokesNothing}
use Rattle.nova_flowing.specs.Leaks.{first_some}
use Rattle.nova_flowing.specs.Working.{is_of_side, is_revoke, kind_in, kind_of}
use Rattle.nova_flowing.specs.declared.lapse.Lapse.{Lapse}
use Rattle.nova_flowing.specs.declared.lapse.LapseKind.{LapseKind}
use Rattle.nova_flowing.specs.declared.lapse.LapseKind.TheVariants.{Gives}
use Rattle.nova_flowing.proofs.Reflecting.{first_none, none_left, none_right}
use Rattle.nova_watching.specs.Worked.{first_gift, gift_at, gift_beside, gift_by, of_side, side_gift}
use Rattle.nova_watching.specs.declared.work.Doer.{Doer}
use Rattle.nova_watching.proofs.Calling.{not_both}
use Rattle.nova_watching.proofs.Doings.{none_is}

-- THE FIRST OF SOME

module _ {X Y : Type 0} (f : X → Option Y) where
  some_found : (xs : List X) (y : Y) → first_some f xs ≡ Some y → (x : X) × (f x ≡ Some y)
  some_found [] y is = absurd (cc)
  some_found (x ∷ xs) y is = by_first (λ h. some_found xs y h) (f x) refl is
    where
      by_first : (first_some f xs ≡ Some y → (z : X) × (f z ≡ Some y)) → (o : Option Y) → f x ≡ o → option_or o (first_some f xs) ≡ Some y → (z : X) × (f z ≡ Some y)
      by_first later (Some z) at h = (x, at ∙ h)
      by_first later None at h = later h

no_revoke : (r : Bool) → not (r && false) ≡ true
no_revoke true = refl
no_revoke false = refl

-- GIVING

abbrev pub doer_with : KernelState → ℕ → EcState → Doer
doer_with k ec x = record { ec = ec; pd = pd_of k ec; state = x.state; call = kind_of (call_of x.regs) }

-- who asks does nothing else
pub idle_asks : (k : KernelState) (ec : ℕ) (kind : LapseKind) → kind_in (context k ec).state ≡ Some kind → IsAsking k ec → ⊥
idle_asks k ec kind is (AtCall c) = none_is kind (sym (ap kind_in c.state) ∙ is)
idle_asks k ec kind is (Again handler helps) = none_is kind (sym (ap kind_in helps) ∙ is)

-- amid a revoke, of a domain
pub record IsAmid (k : KernelState) (pd : ℕ) : Type 0 where
  pub who : ℕ
  pub range : Range
  pub own : Bool
  pub state : (context k who).state ≡ Revoking range own
  pub of : pd_of k who ≡ pd

module _ (revokes : Bool) (S : ℕ → Bool) (k : KernelState) (n : ℕ) where
  -- of a lapse that is a side's
  pub of_it : (o : Option Lapse) (l : Lapse) → of_side revokes S o ≡ Some l → (o ≡ Some l) × (is_of_side revokes S l ≡ true)
  of_it None l is = absurd (cc)
  of_it (Some m) l is = by_test (is_of_side revokes S m) refl is
    where
      by_test : (b : Bool) → is_of_side revokes S m ≡ b → (if b then Some m else None) ≡ Some l → (◌≡◌ {A = Option Lapse} (Some m) (Some l)) × (is_of_side revokes S l ≡ true)
      by_test true its h = (h, ap (is_of_side revokes S) (sym (same_Some m l h)) ∙ its)
      by_test false its h = absurd (cc)

  pub not_it : (m : Lapse) → of_side revokes S (Some m) ≡ None → is_of_side revokes S m ≡ false
  not_it m is = by_test (is_of_side revokes S m) refl is
    where
      by_test : (b : Bool) → is_of_side revokes S m ≡ b → ◌≡◌ {A = Option Lapse} (if b then Some m else None) None → is_of_side revokes S m ≡ false
      by_test true its h = absurd (cc)
      by_test false its h = its

  -- a gift is beside one that is amid a revoke
  pub record IsBeside (d : Doer) (l : Lapse) : Type 0 where
    pub beside : IsAmid k l.amid
    pub ec : l.ec ≡ d.ec
    pub pd : l.pd ≡ d.pd
    pub kind : l.kind ≡ Gives
    pub turn : l.turn ≡ n + 1

  pub gift_made : (d : Doer) (m : ℕ) (s : State) (l : Lapse) → (context k m).state ≡ s → gift_by n d (pd_of k m) s ≡ Some l → IsBeside d l
  gift_made d m (Revoking range own) l at is =
      subst (IsBeside d) (same_Some (record { turn = n + 1; ec = d.ec; pd = d.pd; amid = pd_of k m; kind = Gives }) l is)
      (record { beside = record { who = m; range = range; own = own; state = at; of = refl }; ec = refl; pd = refl; kind = refl; turn = refl })
  gift_made d m other l at is = absurd (cc)

  pub gift_from : (d : Doer) (e : ℕ × Object) (l : Lapse) → gift_at k n d e ≡ Some l → IsBeside d l
  gift_from d (m, Ec pd cpu sort event) l is = by_context (context_at k m) refl is
    where
      by_context : (c : Option EcState) → context_at k m ≡ c → gift_beside k n d m c ≡ Some l → IsBeside d l
      by_context None at h = absurd (cc)
      by_context (Some x) at h = gift_made d m x.state l (ap (λ (c : Option EcState). (context_in c).state) at) h
  gift_from d (m, other) l is = absurd (cc)

  pub gift_is : (d : Doer) (l : Lapse) → first_gift revokes S k n d ≡ Some l → IsBeside d l × (is_of_side revokes S l ≡ true)
  gift_is d l is =
      let e = some_found (side_gift revokes S k n d) (enumerate_from 0 k.objects) l is in
      let its = of_it (gift_at k n d e.0) l e.1 in
      (gift_from d e.0 l its.0, its.1)

  -- where there is none, none of the side is amid a revoke
  pub none_amid : (d : Doer) → HasTables k → S d.pd ≡ true → first_gift revokes S k n d ≡ None → RevokesNothing k (Of S)
  none_amid d tables mine none m range own state its = by_context (context_at k m) refl
    where
      by_object : (x : EcState) → context_at k m ≡ Some x → (o : Option Object) → slice_get k.objects m ≡ o → option_map is_ec o ≡ Some true → ⊥
      by_object x at None there is = absurd (cc)
      by_object x at (Some Pd) there is = absurd (cc)
      by_object x at (Some (Sc donor cpu priority quantum)) there is = absurd (cc)
      by_object x at (Some (Pt handler mtd ip)) there is = absurd (cc)
      by_object x at (Some Sm) there is = absurd (cc)
      by_object x at (Some (Ec pd cpu sort event)) there is =
          let o : Object = Ec pd cpu sort event in
          let l : Lapse = record { turn = n + 1; ec = d.ec; pd = d.pd; amid = pd_of k m; kind = Gives } in
          let amid : x.state ≡ Revoking range own = sym (ap (λ (c : Option EcState). (context_in c).state) at) ∙ state in
          let gift : gift_at k n d (m, o) ≡ Some l = ap (gift_beside k n d m) at ∙ ap (gift_by n d (pd_of k m)) amid in
          let off : of_side revokes S (gift_at k n d (m, o)) ≡ None =
          numbered_at (λ (e : ℕ × Object). side_gift revokes S k n d e ≡ None) k.objects m o (first_none (side_gift revokes S k n d) (enumerate_from 0 k.objects) none) there in
          not_both (is_of_side revokes S l) (of_gift d.pd (pd_of k m) l refl refl refl mine its) (not_it l (sym (ap (of_side revokes S) gift) ∙ off))
        where
          of_gift : (pd amid : ℕ) (l : Lapse) → l.pd ≡ pd → l.amid ≡ amid → l.kind ≡ Gives → S pd ≡ true → S amid ≡ true → is_of_side revokes S l ≡ true
          of_gift pd amid l one two three s t =
              and_from (S l.pd && S l.amid) (not (revokes && is_revoke l.kind)) (and_from (S l.pd) (S l.amid) (ap S one ∙ s) (ap S two ∙ t))
              (ap (λ (kind : LapseKind). not (revokes && is_revoke kind)) three ∙ no_revoke revokes)

      by_context : (c : Option EcState) → context_at k m ≡ c → ⊥
      by_context None at = absurd (let both = sym (ap (λ (c : Option EcState). (context_in c).state) at) ∙ state in cc)
      by_context (Some x) at = by_object x at (slice_get k.objects m) refl (context_is k m (ap is_some at) tables)
