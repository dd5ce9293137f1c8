-- Lines of derivations that stay, and one set under two names.
use Rattle.std.proofs.Common.{◌≡◌, ℕ, ◌==◌, zero, suc, List, [], ◌∷◌, refl, sym, ap, ◌∙◌, subst, inl, inr, arith}
use Rattle.std.specs.Prelude.{Bool, true, false, not, filter, Contains, slice_get, option_and_then, Option, Some, None, if◌then◌else◌}
use Rattle.std.specs.List.{find}
use Rattle.nova_objects.specs.declared.object.Object.{Object}
use Rattle.nova_objects.specs.declared.object.Object.TheVariants.{Pd, Ec, Sc, Pt, Sm}
use Rattle.nova_model.specs.Delegations.{Delegations, is_child_of, is_id, parent_of, with_id, without}
use Rattle.nova_model.specs.Forest.{IsChildless, IsForest}
use Rattle.nova_model.specs.Lines.{line, line_by}
use Rattle.nova_model.specs.State.{KernelState}
use Rattle.nova_model.specs.declared.context.State.{State}
use Rattle.nova_model.specs.declared.context.State.TheVariants.{Blocked, Dead, Parked}
use Rattle.nova_model.specs.declared.delegation.Derivation.{Derivation}
use Rattle.law_forest.specs.Changes.{Change, Goes, Joins, Stays as Kept}
use Rattle.law_forest.proofs.Lines.{line_none}
use Rattle.law_forest.proofs.Members.{IsIn, all_at}
use Rattle.law_forest.proofs.Scopes.{KeepsParents, more_keeps, next_childless, parent_found}
use Rattle.law_integrity.specs.Confined.{AreSetsApart, Holds, HoldsAny, IsClosed, IsIdle, IsMember, IsOwned}

pub find_less : {T : Type 0} (p q : T → Bool) (xs : List T) → ((x : T) → Contains xs x → q x ≡ false → p x ≡ false) → find p (filter q xs) ≡ find p xs
find_less p q [] h = refl
find_less {T} p q (y ∷ xs) h = by_keep (q y) refl (find_less p q xs (λ x there. h x (later x there)))
  where
    later : (x : T) → Contains xs x → Contains (y ∷ xs) x
    later x there = (suc there.0, omega (arith, there.1), there.2)

    first : Contains (y ∷ xs) y
    first = (0, omega arith, refl)

    skips : (t : Bool) → p y ≡ t → q y ≡ false → find p (filter q xs) ≡ find p xs → find p (filter q xs) ≡ (if t then Some y else find p xs)
    skips true is out rest = absurd (let none = h y first out in let both : true ≡ false = sym is ∙ none in cc)
    skips false is out rest = rest

    takes : (t : Bool) → find p (filter q xs) ≡ find p xs → (if t then Some y else find p (filter q xs)) ≡ (if t then Some y else find p xs)
    takes true rest = refl
    takes false rest = rest

    by_keep : (t : Bool) → q y ≡ t → find p (filter q xs) ≡ find p xs → find p (if t then y ∷ filter q xs else filter q xs) ≡ (if p y then Some y else find p xs)
    by_keep true is rest = takes (p y) rest
    by_keep false is rest = skips (p y) refl is rest

-- LINES

pub line_kept : (list other : List Derivation) → KeepsParents list other → (n : ℕ) (d : Derivation) → IsIn list d → line_by n other (Some d) ≡ line_by n list (Some d)
line_kept list other keeps zero d i = refl
line_kept list other keeps (suc n) d i =
    ap (λ (l : List Derivation). d ∷ l) (ap (line_by n other) (keeps d i) ∙ by_parent (parent_of list d) refl (λ p j. line_kept list other keeps n p j))
  where
    by_parent : (o : Option Derivation) → parent_of list d ≡ o → ((p : Derivation) → IsIn list p → line_by n other (Some p) ≡ line_by n list (Some p)) → line_by n other o ≡ line_by n list o
    by_parent None is rest = line_none n other ∙ sym (line_none n list)
    by_parent (Some p) is rest = rest p (parent_found list d p is).0

-- what is made of nothing is alone in its line
pub line_alone : (list : List Derivation) (x : Derivation) → x.parent ≡ None → line list x ≡ x ∷ []
line_alone list x none = ap (λ (o : Option ℕ). x ∷ line_by x.id list (option_and_then (with_id list) o)) none ∙ ap (λ (l : List Derivation). x ∷ l) (line_none x.id list)

pub line_in : (list : List Derivation) (n : ℕ) (d a : Derivation) → IsIn list d → IsIn (line_by n list (Some d)) a → IsIn list a
line_in list zero d a i above = absurd above
line_in list (suc n) d a i (inl same) = subst (IsIn list) same i
line_in list (suc n) d a i (inr above) = by_parent (parent_of list d) refl above (λ p j h. line_in list n p a j h)
  where
    by_parent : (o : Option Derivation) → parent_of list d ≡ o → IsIn (line_by n list o) a → ((p : Derivation) → IsIn list p → IsIn (line_by n list (Some p)) a → IsIn list a) → IsIn list a
    by_parent None is h rest = absurd (subst (λ (l : List Derivation). IsIn l a) (line_none n list) h)
    by_parent (Some p) is h rest = rest p (parent_found list d p is).0 h

pub parents_kept : (f g : Delegations) → IsForest f → Change f g → KeepsParents f.list g.list
parents_kept f g forest (Kept same) d i = ap (λ (h : Delegations). parent_of h.list d) same
parents_kept f g forest (Joins x fits is) d i =
    ap (λ (h : Delegations). parent_of h.list d) is ∙ more_keeps f.list x (subst (IsChildless f.list) (sym fits.id) (next_childless f forest)) d i
parents_kept f g forest (Goes x there childless is) d i = ap (λ (h : Delegations). parent_of h.list d) is ∙ by_parent d.parent refl
  where
    by_parent : (o : Option ℕ) → d.parent ≡ o → option_and_then (with_id (without f x.id).list) o ≡ option_and_then (with_id f.list) o
    by_parent None at = refl
    by_parent (Some id) at =
        let other : (id == x.id) ≡ false = ap (is_id x.id) (sym at) ∙ all_at (λ a. is_child_of x.id a ≡ false) f.list d childless i in
        find_less (λ (a : Derivation). a.id == id) (λ (a : Derivation). not (a.id == x.id)) f.list (λ a there out. grind (arith, other, out))

-- TWO NAMES OF ONE SET

pub record AreOneSet (S R : ℕ → Type 0) : Type 0 where
  pub to : (n : ℕ) → S n → R n
  pub from : (n : ℕ) → R n → S n

pub member_as : (k : KernelState) (S R : ℕ → Type 0) → ((n : ℕ) → S n → R n) → (ec : ℕ) → IsMember k S ec → IsMember k R ec
member_as k S R to ec m = record { domain = m.domain; cpu = m.cpu; kind = m.kind; event = m.event; object = m.object; of = to m.domain m.of }

holds_as : (k : KernelState) (S R : ℕ → Type 0) → ((n : ℕ) → S n → R n) → (right object : ℕ) → Holds k S right object → Holds k R right object
holds_as k S R to right object h = record { capability = h.capability; there = h.there; of = to h.capability.pd h.of; kind = h.kind; leads = h.leads; allowed = h.allowed }

any_as : (k : KernelState) (S R : ℕ → Type 0) → ((n : ℕ) → S n → R n) → (object : ℕ) → HoldsAny k S object → HoldsAny k R object
any_as k S R to object h = record { capability = h.capability; there = h.there; of = to h.capability.pd h.of; kind = h.kind; leads = h.leads }

pub owned_as : (k : KernelState) (S R : ℕ → Type 0) → ((n : ℕ) → S n → R n) → (n : ℕ) (o : Option Object) → IsOwned k S n o → IsOwned k R n o
owned_as k S R to n (Some Pd) s = to n s
owned_as k S R to n (Some (Ec pd cpu kind event)) s = to pd s
owned_as k S R to n (Some (Pt handler mtd ip)) s = member_as k S R to handler s
owned_as k S R to n (Some (Sc donor cpu priority quantum)) s = member_as k S R to donor s
owned_as k S R to n (Some Sm) s = tt
owned_as k S R to n None s = tt

closed_as : (k : KernelState) (S R : ℕ → Type 0) → AreOneSet S R → IsClosed k S → IsClosed k R
closed_as k S R one c = record {
  there = λ n r. c.there n (one.from n r);
  capabilities = λ d there r kind. owned_as k S R one.to d.target (slice_get k.objects d.target) (c.capabilities d there (one.from d.pd r) kind);
  edges = λ waiter handler at m. member_as k S R one.to waiter (c.edges waiter handler at (member_as k R S one.from handler m));
  firsts = λ ec new at m. one.to new (c.firsts ec new at (member_as k R S one.from ec m));
}

idle_as : (k : KernelState) (S R T : ℕ → Type 0) → AreOneSet S R → (n : ℕ) (t : State) → IsIdle k S T n t → IsIdle k R T n t
idle_as k S R T one n Parked idle = tt
idle_as k S R T one n Dead idle = tt
idle_as k S R T one n (Blocked sm) idle =
    record { there = idle.there; first = λ h. idle.first (holds_as k R S one.from _ sm h); second = idle.second; alarms = idle.alarms; deadline = idle.deadline }
idle_as k S R T one n other idle = absurd idle

pub apart_as : (k : KernelState) (S R T : ℕ → Type 0) → AreOneSet S R → AreSetsApart k S T → AreSetsApart k R T
apart_as k S R T one a = record {
  separate = record {
    first = closed_as k S R one a.separate.first;
    second = a.separate.second;
    disjoint = λ n r t. a.separate.disjoint n (one.from n r) t;
    rest = λ ec x there. elim (a.separate.rest ec x there) [
      | inl idle ↦ inl (idle_as k S R T one ec x.state idle)
      | inr sides ↦ inr (elim sides [
        | inl m ↦ inl (member_as k S R one.to ec m)
        | inr m ↦ inr m
      ])
    ];
  };
  objects = λ object h t. a.objects object (any_as k R S one.from object h) t;
  first = λ n sm at m h. a.first n sm at (member_as k R S one.from n m) h;
  second = λ n sm at m h. a.second n sm at m (any_as k R S one.from sm h);
  queues = λ n m sm first second mine theirs. a.queues n m sm first second (member_as k R S one.from n mine) theirs;
}
