-- At boot the root's domain is a closed set, beside an empty one.
use Rattle.std.proofs.Common.{◌≡◌, ◌⊎◌, ℕ, zero, suc, List, [], ◌∷◌, ◌++◌, length, refl, sym, ap, ◌∙◌, subst, inl, inr}
use Rattle.std.specs.Prelude.{Contains, true, false, ◌==◌, slice_get, map, Option, Some, None, option_and_then, option_map}
use Rattle.std.proofs.lemmas.Bool.{eqb-true}
use Rattle.std.specs.List.{range_with_len}
use Rattle.nova_objects.specs.declared.object.EcKind.TheVariants.{Global}
use Rattle.nova_objects.specs.declared.object.Object.{Object}
use Rattle.nova_objects.specs.declared.object.Object.TheVariants.{Pd, Ec, Sc, Pt, Sm}
use Rattle.nova_range.specs.declared.range.Kind.TheVariants.{Mem, Obj}
use Rattle.nova_model.specs.Boot.{Image, Scenario, bare, boot, console_derivation, object_derivation, ram_derivation, root_derivations, with_image, with_images}
use Rattle.nova_model.specs.Creation.{root_capability}
use Rattle.nova_model.specs.Edges.{edge_of}
use Rattle.nova_model.specs.Sources.{Source, with_source}
use Rattle.nova_model.specs.State.{KernelState, context, context_at}
use Rattle.nova_model.specs.declared.context.EcState.{EcState}
use Rattle.nova_model.specs.declared.context.State.TheVariants.{Granting, Ready}
use Rattle.nova_model.specs.declared.delegation.Derivation.{Derivation}
use Rattle.law_forest.proofs.Boots.{sources_keep}
use Rattle.law_forest.proofs.Members.{IsIn, contains_from_in, in_from_contains}
use Rattle.law_turns.proofs.Setting.{entry_joined, get_kept}
use Rattle.law_origins.proofs.Origins.{boot_plain}
use Rattle.law_integrity.specs.Confined.{AreSeparate, IsMember, IsOwned, Of}
use Rattle.law_integrity.proofs.Confining.{in_more}
use Rattle.law_integrity.proofs.Homes.{in_appended, in_mapped}

abbrev Root : ℕ → Type 0
Root = Of (λ n. n == 0)

abbrev None_ : ℕ → Type 0
None_ = Of (λ n. false)

nobodys : {A : Type 0} (n : ℕ) → None_ n → A
nobodys n h = absurd (let no : false ≡ true = h in cc)

-- all that capabilities lead to is the root's, and so is each context that is there, which is about to run
record IsRoots (k : KernelState) : Type 0 where
  root : slice_get k.objects 0 ≡ Some Pd
  capabilities : (d : Derivation) → Contains k.delegations.list d → d.kind ≡ Obj → IsOwned k Root d.target (slice_get k.objects d.target)
  contexts : (ec : ℕ) (x : EcState) → context_at k ec ≡ Some x → IsMember k Root ec × (x.state ≡ Ready)

abbrev Bare : Scenario → KernelState
Bare s = bare s.cpus s.ram s.consoles s.root

abbrev IsRoot : Scenario → Derivation → Type 0
IsRoot s d = d.kind ≡ Obj → IsOwned (Bare s) Root d.target (slice_get (Bare s).objects d.target)

of_memory : (s : Scenario) (d : Derivation) → d.kind ≡ Mem → IsRoot s d
of_memory s d kind is = absurd (let none : Mem ≡ Obj = sym kind ∙ is in cc)

roots : (s : Scenario) (d : Derivation) → IsIn (root_derivations s.ram s.consoles) d → IsRoot s d
roots s d i = in_appended (IsRoot s) (ram_derivation s.ram ∷ map (console_derivation s.ram) (range_with_len 0 s.consoles)) _ d frames objects i
  where
    frames : IsIn (ram_derivation s.ram ∷ map (console_derivation s.ram) (range_with_len 0 s.consoles)) d → IsRoot s d
    frames (inl same) = subst (IsRoot s) same (of_memory s (ram_derivation s.ram) refl)
    frames (inr later) = in_mapped (IsRoot s) (console_derivation s.ram) (range_with_len 0 s.consoles) d (λ c. of_memory s (console_derivation s.ram c) refl) later

    objects : IsIn (object_derivation s.consoles 0 1 ∷ object_derivation s.consoles 1 7 ∷ object_derivation s.consoles 2 1 ∷ []) d → IsRoot s d
    objects (inl same) = subst (IsRoot s) same (λ kind. refl)
    objects (inr (inl same)) = subst (IsRoot s) same (λ kind. refl)
    objects (inr (inr (inl same))) = subst (IsRoot s) same (λ kind. record { domain = 0; cpu = 0; kind = Global; event = 16; object = refl; of = refl })
    objects (inr (inr (inr none))) = absurd none

bare_contexts : (s : Scenario) (ec : ℕ) (x : EcState) → context_at (Bare s) ec ≡ Some x → IsMember (Bare s) Root ec × (x.state ≡ Ready)
bare_contexts s zero x is = absurd (cc)
bare_contexts s (suc zero) x is =
    (record { domain = 0; cpu = 0; kind = Global; event = 16; object = refl; of = refl }, let same : Some Ready ≡ Some x.state = ap (option_map (λ (y : EcState). y.state)) is in cc)
bare_contexts s (suc (suc zero)) x is = absurd (cc)
bare_contexts s (suc (suc (suc ec))) x is = absurd (cc)

bare_roots : (s : Scenario) → IsRoots (Bare s)
bare_roots s = record {
  root = refl;
  capabilities = λ d there kind. roots s d (in_from_contains (root_derivations s.ram s.consoles) d there) kind;
  contexts = bare_contexts s;
}

-- what is the root's is the root's where objects are kept
kept_member : (k new : KernelState) (S : ℕ → Type 0) (ec : ℕ) → ((n : ℕ) (o : Object) → slice_get k.objects n ≡ Some o → slice_get new.objects n ≡ Some o) → IsMember k S ec → IsMember new S ec
kept_member k new S ec kept m = record { domain = m.domain; cpu = m.cpu; kind = m.kind; event = m.event; object = kept ec (Ec m.domain m.cpu m.kind m.event) m.object; of = m.of }

kept_owned : (k new : KernelState) (S : ℕ → Type 0) (n : ℕ) (o : Object) → ((n : ℕ) (o : Object) → slice_get k.objects n ≡ Some o → slice_get new.objects n ≡ Some o) →
    IsOwned k S n (Some o) → IsOwned new S n (Some o)
kept_owned k new S n Pd kept h = h
kept_owned k new S n (Ec pd cpu kind event) kept h = h
kept_owned k new S n (Sc donor cpu priority quantum) kept h = kept_member k new S donor kept h
kept_owned k new S n (Pt handler mtd ip) kept h = kept_member k new S handler kept h
kept_owned k new S n Sm kept h = tt

-- images are bytes alone
images_roots : (k : KernelState) (images : List Image) → IsRoots k → IsRoots (with_images k images)
images_roots k [] h = h
images_roots k (image ∷ images) h = images_roots (with_image k image) images (record {
  root = h.root;
  capabilities = λ d there kind. by_object d.target (slice_get k.objects d.target) (h.capabilities d there kind);
  contexts = λ ec x is. let its = h.contexts ec x is in (kept_member k (with_image k image) Root ec (λ n o at. at) its.0, its.1);
})
  where
    by_object : (n : ℕ) (o : Option Object) → IsOwned k Root n o → IsOwned (with_image k image) Root n o
    by_object n None owned = tt
    by_object n (Some o) owned = kept_owned k (with_image k image) Root n o (λ n o at. at) owned

-- a source is a semaphore of the root's
source_roots : (k : KernelState) (source : Source) → IsRoots k → IsRoots (with_source k source)
source_roots k source h = record {
  root = get_kept k.objects Sm 0 Pd h.root;
  capabilities = λ d there kind. by_list d kind (in_more k.delegations.list (root_capability k 0 (length k.objects) Sm) d (in_from_contains _ d there));
  contexts = λ ec x is. by_entry ec x (entry_joined k.contexts None ec x is);
}
  where
    new : KernelState
    new = with_source k source

    kept : (n : ℕ) (o : Object) → slice_get k.objects n ≡ Some o → slice_get new.objects n ≡ Some o
    kept n o at = get_kept k.objects Sm n o at

    beyond : (os : List Object) (n : ℕ) → slice_get os n ≡ None → (slice_get (os ++ Sm ∷ []) n ≡ None) ⊎ (slice_get (os ++ Sm ∷ []) n ≡ Some Sm)
    beyond [] zero at = inr refl
    beyond [] (suc n) at = inl refl
    beyond (o ∷ os) zero at = absurd (cc)
    beyond (o ∷ os) (suc n) at = beyond os n at

    unowned : (n : ℕ) → (slice_get new.objects n ≡ None) ⊎ (slice_get new.objects n ≡ Some Sm) → IsOwned new Root n (slice_get new.objects n)
    unowned n (inl none) = subst (IsOwned new Root n) (sym none) tt
    unowned n (inr sm) = subst (IsOwned new Root n) (sym sm) tt

    by_object : (n : ℕ) (o : Option Object) → slice_get k.objects n ≡ o → IsOwned k Root n o → IsOwned new Root n (slice_get new.objects n)
    by_object n None at owned = unowned n (beyond k.objects n at)
    by_object n (Some o) at owned = subst (IsOwned new Root n) (sym (kept n o at)) (kept_owned k new Root n o kept owned)

    by_list : (d : Derivation) → d.kind ≡ Obj → IsIn k.delegations.list d ⊎ (root_capability k 0 (length k.objects) Sm ≡ d) → IsOwned new Root d.target (slice_get new.objects d.target)
    by_list d kind (inl i) = by_object d.target (slice_get k.objects d.target) refl (h.capabilities d (contains_from_in k.delegations.list d i) kind)
    by_list d kind (inr same) =
        subst (λ (d : Derivation). IsOwned new Root d.target (slice_get new.objects d.target)) same (unowned (length k.objects) (beyond k.objects (length k.objects) (past k.objects)))
      where
        past : (os : List Object) → slice_get os (length os) ≡ None
        past [] = refl
        past (o ∷ os) = past os

    by_entry : (ec : ℕ) (x : EcState) → (context_at k ec ≡ Some x) ⊎ ((ec ≡ length k.contexts) × (None ≡ Some x)) → IsMember new Root ec × (x.state ≡ Ready)
    by_entry ec x (inl there) = let its = h.contexts ec x there in (kept_member k new Root ec kept its.0, its.1)
    by_entry ec x (inr none) = absurd (let no = none.1 in cc)

roots_separate : (k : KernelState) → IsRoots k → ((ec new : ℕ) → (context k ec).state ≡ Granting (Some new) → ⊥) → AreSeparate k Root None_
roots_separate k h none = record {
  first = record {
    there = λ n root. ap (slice_get k.objects) (eqb-true n 0 root) ∙ h.root;
    capabilities = λ d there root kind. h.capabilities d there kind;
    edges = λ waiter handler is m. by_entry waiter handler (context_at k waiter) refl is;
    firsts = λ ec new is m. absurd (none ec new is);
  };
  second = record {
    there = λ n h. nobodys n h;
    capabilities = λ d there h kind. nobodys d.pd h;
    edges = λ waiter handler is m. nobodys m.domain m.of;
    firsts = λ ec new is m. nobodys m.domain m.of;
  };
  disjoint = λ n r h. nobodys n h;
  rest = λ ec x is. inr (inl (h.contexts ec x is).0);
}
  where
    by_entry : (waiter handler : ℕ) (o : Option EcState) → context_at k waiter ≡ o → option_and_then edge_of (option_map (λ x. x.state) o) ≡ Some handler → IsMember k Root waiter
    by_entry waiter handler None at is = absurd (cc)
    by_entry waiter handler (Some x) at is = (h.contexts waiter x at).0

pub boot_separate : (s : Scenario) → AreSeparate (boot s) (Of (λ n. n == 0)) (Of (λ n. false))
boot_separate s =
    roots_separate (boot s) (sources_keep IsRoots source_roots (with_images (Bare s) s.images) s.sources (images_roots (Bare s) s.images (bare_roots s)))
    (λ ec new is. boot_plain s ec (Granting (Some new)) tt is)
