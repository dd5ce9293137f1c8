-- Copies to which a page came.
use Rattle.std.proofs.Common.{◌≡◌, ◌⊎◌, ◌≤◌, ◌<◌, ℕ, ◌+◌, ◌++◌, List, [], ◌∷◌, length, inl, inr, ap, sym, ◌∙◌, subst, refl, arith}
use Rattle.std.specs.Prelude.{false, true, Option, Some, None, IsSome, is_some, option_map, slice_get}
use Rattle.std.proofs.lemmas.List.{length-append}
use Rattle.std.proofs.lemmas.Option.{same_Some}
use Rattle.nova_range.specs.declared.rights.Rights.{Rights}
use Rattle.nova_guest.specs.declared.page.Page.{Page as Place}
use Rattle.nova_model.specs.Delegations.{reach}
use Rattle.nova_model.specs.State.{KernelState}
use Rattle.law_leases.specs.Leases.{copy_at}
use Rattle.law_leases.specs.declared.steps.Page.{Page}
use Rattle.law_leases.proofs.Leased.{some_is}
use Rattle.nova_burst.specs.Copies.{CopiesState, known_in, place_of}
use Rattle.nova_burst.specs.Gathered.{AreGathered, HasCopy, HasPage, HaveGrown, HaveGrownBy, IsLedTo, IsNoRamPage}
use Rattle.nova_kernel.specs.Views.{KernelView}
use Rattle.nova_burst.specs.declared.copies.Known.{Known}
use Rattle.nova_burst.proofs.Lists.{copy_new, copy_or, copy_still, fresh_more, known_new, known_or, known_still, some_of}

-- NOTHING CAME, OR SEVERAL TIMES

pub as_before : (k : KernelState) (pd most : ℕ) (s : CopiesState) → HaveGrown k pd most s s
as_before k pd most s = record { gathered = λ are. are; has = λ page it. it }

pub and_then : (k : KernelState) (pd most : ℕ) (r s t : CopiesState) → HaveGrown k pd most r s → HaveGrown k pd most s t → HaveGrown k pd most r t
and_then k pd most r s t a b = record { gathered = λ are. b.gathered (a.gathered are); has = λ page it. b.has page (a.has page it) }

pub not_by : (k : KernelState) (pd most page : ℕ) (s : CopiesState) → (known_in s.known page ≡ None → length s.pages < most → HasPage k pd page s) → HaveGrownBy k pd most page s s
not_by k pd most page s why = record { grown = as_before k pd most s; added = why }

-- copies of which there are none
pub empty : (k : KernelState) (pd most : ℕ) → AreGathered k pd most (record { known = []; pages = [] })
empty k pd most = record {
  places = λ page p h. absurd (cc);
  fresh = record { once = tt; bytes = λ frame b h. absurd (cc); stores = tt };
  led = λ frame h. absurd (cc);
  few = omega arith;
}

-- A PAGE MORE

abbrev with_known : CopiesState → Known → CopiesState
with_known s x = record s { known = s.known ++ x ∷ [] }

pub known_grown : (k : KernelState) (pd most : ℕ) (s : CopiesState) (x : Known) → reach k.delegations.list pd x.page ≡ Some (place_of x) → HaveGrown k pd most s (with_known s x)
known_grown k pd most s x leads = record {
  gathered = λ are. record {
    places = λ page p h. by_case are page p (known_or s.known x page p h);
    fresh = are.fresh;
    led = are.led;
    few = are.few;
  };
  has = λ page it p at ram. (known_still s.known x page p (it p at ram).0, (it p at ram).1);
}
  where
    by_case : AreGathered k pd most s → (page : ℕ) (p : Place) → (known_in s.known page ≡ Some p) ⊎ ((x.page ≡ page) × (place_of x ≡ p)) → reach k.delegations.list pd page ≡ Some p
    by_case are page p (inl h) = are.places page p h
    by_case are page p (inr last) = ap (reach k.delegations.list pd) (sym last.0) ∙ (leads ∙ ap Some last.1)

pub known_has : (k : KernelState) (pd : ℕ) (s : CopiesState) (x : Known) → reach k.delegations.list pd x.page ≡ Some (place_of x) → known_in s.known x.page ≡ None →
    IsSome (copy_at s.pages x.frame) → HasPage k pd x.page (with_known s x)
known_has k pd s x leads none copied p at ram =
    let same : place_of x ≡ p = same_Some (place_of x) p (sym leads ∙ at) in
    (known_new s.known x none ∙ ap Some same, subst (λ (f : ℕ). IsSome (copy_at s.pages f)) (ap (λ (q : Place). q.frame) same) copied)

-- A COPY MORE

abbrev with_page : CopiesState → Page → CopiesState
with_page s p = record s { pages = s.pages ++ p ∷ [] }

page_grown : (k : KernelState) (pd most : ℕ) (s : CopiesState) (x : Page) → IsLedTo k pd x.frame → copy_at s.pages x.frame ≡ None → slice_get k.memory.ram x.frame ≡ Some x.bytes →
    x.stores ≡ 0 → length s.pages < most → HaveGrown k pd most s (with_page s x)
page_grown k pd most s x led none at stores few = record {
  gathered = λ are. record {
    places = are.places;
    fresh = fresh_more k.memory.ram s.pages x are.fresh none at stores;
    led = λ f there. let its = some_of (copy_at (s.pages ++ x ∷ []) f) there in by_case are f its.0 (copy_or s.pages x f its.0 its.1);
    few = let e : length (s.pages ++ x ∷ []) ≡ length s.pages + 1 = length-append s.pages (x ∷ []) in omega arith;
  };
  has = λ page it p leads ram. let both = it p leads ram in let its = some_of (copy_at s.pages p.frame) both.1 in
      (both.0, some_is (copy_at (s.pages ++ x ∷ []) p.frame) its.0 (copy_still s.pages x p.frame its.0 its.1));
}
  where
    by_case : AreGathered k pd most s → (f : ℕ) (b : List ℕ) → (copy_at s.pages f ≡ Some b) ⊎ ((x.frame ≡ f) × (x.bytes ≡ b)) → IsLedTo k pd f
    by_case are f b (inl copy) = are.led f (some_is (copy_at s.pages f) b copy)
    by_case are f b (inr last) = subst (IsLedTo k pd) last.0 led

pub copy_grown : (k : KernelState) (pd most f : ℕ) (s t : CopiesState) → HasCopy k.memory.ram f s t → IsLedTo k pd f → copy_at s.pages f ≡ None → length s.pages < most →
    HaveGrown k pd most s t × IsSome (copy_at t.pages f)
copy_grown k pd most f s t its led none few =
    let none_here : copy_at s.pages its.page.frame ≡ None = ap (copy_at s.pages) its.its ∙ none in (
      subst (HaveGrown k pd most s) (sym its.is)
          (page_grown k pd most s its.page (subst (IsLedTo k pd) (sym its.its) led) none_here (ap (slice_get k.memory.ram) its.its ∙ (its.at ∙ ap Some (sym its.holds))) its.stores few),
      some_is (copy_at t.pages f) its.page.bytes
          (ap (λ (x : CopiesState). copy_at x.pages f) its.is ∙ (ap (copy_at (s.pages ++ its.page ∷ [])) (sym its.its) ∙ copy_new s.pages its.page none_here)),
    )

-- BOTH

pub entered : (k : KernelState) (pd most : ℕ) (s : CopiesState) (x : Known) → reach k.delegations.list pd x.page ≡ Some (place_of x) → known_in s.known x.page ≡ None →
    IsSome (copy_at s.pages x.frame) → HaveGrownBy k pd most x.page s (with_known s x)
entered k pd most s x leads none copied = record { grown = known_grown k pd most s x leads; added = λ _ few. known_has k pd s x leads none copied }

pub copied_entered : (k : KernelState) (pd most : ℕ) (s t : CopiesState) (x : Known) → reach k.delegations.list pd x.page ≡ Some (place_of x) → known_in s.known x.page ≡ None →
    copy_at s.pages x.frame ≡ None → length s.pages < most → HasCopy k.memory.ram x.frame s t → HaveGrownBy k pd most x.page s (with_known t x)
copied_entered k pd most s t x leads none free few its =
    let copy = copy_grown k pd most x.frame s t its (record { page = x.page; place = place_of x; leads = leads; is = refl }) free few in
    let still : known_in t.known x.page ≡ None = ap (λ (c : CopiesState). known_in c.known x.page) its.is ∙ none in
    record {
      grown = and_then k pd most s t (with_known t x) copy.0 (known_grown k pd most t x leads);
      added = λ _ few. known_has k pd t x leads still copy.1;
    }

-- WHERE NOTHING COMES

pub known_before : (k : KernelState) (pd most page : ℕ) (s : CopiesState) → is_some (known_in s.known page) ≡ true → HaveGrownBy k pd most page s s
known_before k pd most page s is = not_by k pd most page s (λ none few. absurd (by_none (sym (ap is_some none) ∙ is)))
  where
    by_none : false ≡ true → ⊥
    by_none h = cc

pub full_before : (k : KernelState) (pd most page : ℕ) (s : CopiesState) → most ≤ length s.pages → HaveGrownBy k pd most page s s
full_before k pd most page s full = not_by k pd most page s (λ none few. absurd (omega (arith, full, few)))

pub no_ram_page : (k : KernelState) (pd most page : ℕ) (s : CopiesState) → IsNoRamPage k pd page → HaveGrownBy k pd most page s s
no_ram_page k pd most page s none = not_by k pd most page s (λ _ _ p leads ram. let beyond = none p leads in absurd (omega (arith, beyond, ram)))

-- what a kernel answers of a page
pub place_is : (o : Option Place) (frame : ℕ) (rights : Rights) → ◌≡◌ {A = Option (ℕ × Rights)} (Some (frame, rights)) (option_map (λ p. (p.frame, p.rights)) o) →
    o ≡ Some (record { frame = frame; rights = rights })
place_is None frame rights h = absurd (cc)
place_is (Some p) frame rights h =
    let same : ◌≡◌ {A = ℕ × Rights} (frame, rights) (p.frame, p.rights) = same_Some {A = ℕ × Rights} (frame, rights) (p.frame, p.rights) h in
    ap (λ (x : ℕ × Rights). Some (record { frame = x.0; rights = x.1 })) (sym same)

pub no_place : (o : Option Place) → ◌≡◌ {A = Option (ℕ × Rights)} None (option_map (λ p. (p.frame, p.rights)) o) → o ≡ None
no_place None h = refl
no_place (Some p) h = absurd (cc)

-- ALL THAT IS LOOKED AT

pub all_gathered : (k l m : KernelView) (pd most code : ℕ) (r s t u : CopiesState) → r ≡ record { known = []; pages = [] } → l ≡ k → m ≡ l → 1 ≤ most →
    HaveGrownBy k.state pd most code r s → HaveGrown l.state pd most s t → HaveGrown m.state pd most t u → AreGathered k.state pd most u × HasPage k.state pd code u
all_gathered k l m pd most code r s t u none first second some a b c =
    let b2 : HaveGrown k.state pd most s t = subst (λ (x : KernelView). HaveGrown x.state pd most s t) first b in
    let c2 : HaveGrown k.state pd most t u = subst (λ (x : KernelView). HaveGrown x.state pd most t u) (second ∙ first) c in
    let rest : HaveGrown k.state pd most s u = and_then k.state pd most s t u b2 c2 in (
      rest.gathered (a.grown.gathered (subst (AreGathered k.state pd most) (sym none) (empty k.state pd most))),
      rest.has code (a.added (ap (λ (x : CopiesState). known_in x.known code) none) (let e : length r.pages ≡ 0 = ap (λ (x : CopiesState). length x.pages) none in omega arith)),
    )
