-- What turns are for a virtual CPU of a side: of others nothing, and of the side's own the same in two states in which its part is.
use Rattle.std.proofs.Common.{◌≡◌, ℕ, zero, suc, ◌+◌, ◌-◌, ◌^◌, ◌<◌, List, [], ◌∷◌, ◌++◌, length, refl, sym, ap, ap₂, ◌∙◌, subst, arith, inl, inr}
use Rattle.std.specs.Prelude.{Bool, true, false, ◌==◌, ◌⊎◌, ◌%◌, IfSome, drop, slice_get, take, is_some, option_map, option_and_then, Option, Some, None, if◌then◌else◌}
use Rattle.std.specs.List.{concat, list_any}
use Rattle.std.proofs.lemmas.Bool.{and_parts, eqb-true}
use Rattle.std.proofs.lemmas.Nat.{pow_pos}
use Rattle.std.proofs.lemmas.Bool.Decides.{nat_tests}
use Rattle.std.proofs.lemmas.Option.{same_Some}
use Rattle.rv_model.specs.Step.{Once, Store}
use Rattle.nova_guest.specs.Admitted.{admits, waits}
use Rattle.nova_guest.specs.Alone.{applied, replied}
use Rattle.nova_guest.specs.Maps.{is_covered, is_map, overlaps}
use Rattle.nova_guest.specs.declared.guest.Guest.{Guest}
use Rattle.nova_guest.specs.declared.guest.GuestState.{GuestState}
use Rattle.nova_guest.specs.declared.guest.GuestState.TheVariants as guest
use Rattle.nova_guest.specs.declared.input.Input.{Input}
use Rattle.nova_guest.specs.declared.input.Input.TheVariants as input_as
use Rattle.nova_guest.specs.declared.map.Map.{Map}
use Rattle.nova_objects.specs.declared.object.Object.{Object}
use Rattle.nova_objects.specs.declared.object.Object.TheVariants.{Pd, Ec, Sc, Pt, Sm}
use Rattle.nova_range.specs.Rights.{write_right}
use Rattle.nova_range.specs.declared.mtd.Mtd.{Mtd}
use Rattle.nova_range.specs.declared.range.Kind.{Kind}
use Rattle.nova_range.specs.declared.range.Kind.TheVariants.{Mem, Obj}
use Rattle.nova_model.specs.AddressSpaces.{AddressSpace, frame_for}
use Rattle.nova_model.specs.Boot.{Scenario, boot}
use Rattle.nova_model.specs.Capabilities.{is_vcpu}
use Rattle.nova_model.specs.Choice.{Candidate, next_to_act}
use Rattle.nova_model.specs.Deeds.{address_space, deed, instruction}
use Rattle.nova_model.specs.Guests.{input}
use Rattle.nova_model.specs.Delegations.{is_memory}
use Rattle.nova_model.specs.Forest.{IsForest}
use Rattle.nova_model.specs.Inputs.{contents_of, foreign, foreign_at, foreign_by, given_of, in_ram, input_of, is_covered_for, only_if, others_input, own_input, reply_of, store_of}
use Rattle.nova_model.specs.Runs.{after, run}
use Rattle.nova_model.specs.State.{KernelState, pd_in, pd_of}
use Rattle.nova_model.specs.Views.{is_memory_of, view}
use Rattle.nova_model.specs.declared.context.Mark.TheVariants as mark
use Rattle.nova_model.specs.declared.deed.Deed.{Deed}
use Rattle.nova_model.specs.declared.deed.Deed.TheVariants as deeds
use Rattle.nova_model.specs.declared.delegation.Derivation.{Derivation}
use Rattle.nova_model.specs.declared.transfer.Sequel.TheVariants as sequel
use Rattle.law_forest.proofs.Extremes.{any_from, any_in}
use Rattle.law_isolation.specs.Law.{IsTaken, IsTakenAsSeen, answered}
use Rattle.law_isolation.specs.Sound.{IsSound, IsVirtual}
use Rattle.law_isolation.proofs.Admits.{input_met}
use Rattle.law_isolation.proofs.Contents.{taken_as_seen}
use Rattle.law_isolation.proofs.Runs.{reached_sound, turn_is_one, turn_sound}
use Rattle.law_origins.specs.Giving.{Acts}
use Rattle.law_origins.specs.Whose.{HasRight}
use Rattle.law_origins.proofs.Actors.{input_is}
use Rattle.law_origins.proofs.Rights.{input_right}
use Rattle.law_views.specs.Given.{given}
use Rattle.law_views.proofs.Said.{view_covers}
use Rattle.law_guests.proofs.Facts.{ViewFacts}
use Rattle.law_integrity.specs.Confined.{IsMember, IsOwned, Of, Reach}
use Rattle.law_integrity.proofs.Confining.{member_pd}
use Rattle.law_integrity.proofs.Resting.{acts_in}
use Rattle.law_integrity.proofs.Stores.{leads_to}
use Rattle.law_flow.specs.Flow.{AreCreatingAlone, AreGivingWithin, AreRevokingWithin, HasSameClock, IsAtWork, IsPartitioned, IsSide, own_turn, unnumbered}
use Rattle.law_flow.proofs.Creating.{AreMaking}
use Rattle.law_flow.proofs.Deciding.{IsOwn}
use Rattle.law_flow.proofs.Doing.{frames_same}
use Rattle.law_flow.proofs.Giving.{child_leads}
use Rattle.law_flow.proofs.Guarding.{own_from}
use Rattle.law_flow.proofs.Leaving.{others_leave}
use Rattle.law_flow.proofs.Pairs.{Alone, IsOwnDeed, Leaf, New, Open, Part, first_own}
use Rattle.law_flow.proofs.Parts.{IsPart}
use Rattle.law_flow.proofs.Seeing.{Both, address_same, frame_same, instruction_same, message_same}
use Rattle.law_flow.proofs.Turns.{AreTwins, alike_flipped, both, decided, own_acts, own_is, own_of, own_there}
use Rattle.law_guests.proofs.Views.{domain_same, view_leads, view_same}

-- A VIRTUAL CPU OF THE SIDE

pub guest_part : (k : KernelState) (S : ℕ → Bool) (P : ℕ → Type 0) → IsSide k (Of S) P → (g : ℕ) → IsVirtual k g → S (pd_of k g) ≡ true → P g
guest_part k S P side g virtual s = by_object (slice_get k.objects g) refl virtual s
  where
    by_object : (o : Option Object) → slice_get k.objects g ≡ o → option_map is_vcpu o ≡ Some true → S (pd_in o) ≡ true → P g
    by_object (Some (Ec pd cpu kind event)) is h mine = side.members g pd cpu kind event is mine
    by_object (Some Pd) is h mine = absurd (cc)
    by_object (Some (Sc donor cpu priority quantum)) is h mine = absurd (cc)
    by_object (Some (Pt handler mtd ip)) is h mine = absurd (cc)
    by_object (Some Sm) is h mine = absurd (cc)
    by_object None is h mine = absurd (cc)

owned_domain : (k : KernelState) (T : ℕ → Type 0) (g : ℕ) (o : Option Object) → option_map is_vcpu o ≡ Some true → IsOwned k T g o → T (pd_in o)
owned_domain k T g (Some (Ec pd cpu kind event)) h t = t
owned_domain k T g (Some Pd) h t = absurd (cc)
owned_domain k T g (Some (Sc donor cpu priority quantum)) h t = absurd (cc)
owned_domain k T g (Some (Pt handler mtd ip)) h t = absurd (cc)
owned_domain k T g (Some Sm) h t = absurd (cc)
owned_domain k T g None h t = absurd (cc)

-- WHAT LEAVES A VIEW IS NO REPLY, AND NO MAP THAT COMES OR GOES

longer : (m : Map) (xs ys : List Map) → length (xs ++ m ∷ ys) ≡ length (xs ++ ys) + 1
longer m [] ys = omega arith
longer m (x ∷ xs) ys = let rest = longer m xs ys in omega (arith, rest)

maps_overlap : (base order : ℕ) (maps : List Map) → list_any (is_map base order) maps ≡ true → list_any (overlaps base order) maps ≡ true
maps_overlap base order maps is =
    let some = any_in (is_map base order) maps is in
    let parts = and_parts (some.0.base == base) (some.0.order == order) some.2 in
    let same = eqb-true some.0.base base parts.0 in
    let size = eqb-true some.0.order order parts.1 in
    any_from (overlaps base order) maps some.0 some.1 (overlaps_itself base order some.0 same size)
  where
    overlaps_itself : (base order : ℕ) (m : Map) → m.base ≡ base → m.order ≡ order → overlaps base order m ≡ true
    overlaps_itself base order m same size = rw (same, size) (grind (arith, nat_tests, pow_pos order))

no_reply : (v : Guest) (mtd : Mtd) (words : List ℕ) → admits v (input_as.Reply mtd words) ≡ true → (applied v (input_as.Reply mtd words)).guest ≡ v → ⊥
unfolding applied
no_reply v mtd words admitted fixed = by_state v.state refl admitted (ap (λ (u : Guest). u.state) fixed)
  where
    by_state : (t : GuestState) → v.state ≡ t → waits t ≡ true → (replied v mtd words v.state).state ≡ v.state → ⊥
    by_state guest.Waiting is h same =
        let ready : guest.Ready ≡ guest.Waiting = sym (ap (λ (t : GuestState). (replied v mtd words t).state) is) ∙ same ∙ is in cc
    by_state guest.Fresh is h same = cc
    by_state guest.Ready is h same = cc
    by_state (guest.Exit reason q0 q1) is h same = cc
    by_state guest.Dead is h same = cc

no_given : ViewFacts → (v : Guest) (m : Map) (contents : List ℕ) → admits v (given m contents) ≡ true → (applied v (given m contents)).guest ≡ v → ⊥
no_given f v m contents admitted fixed =
    let maps = f.given_maps v m contents admitted in
    let same : maps.before ++ m ∷ maps.after ≡ maps.before ++ maps.after = sym maps.are ∙ ap (λ (u : Guest). u.maps) fixed ∙ maps.were in
    let count : length (maps.before ++ m ∷ maps.after) ≡ length (maps.before ++ maps.after) = ap (λ (l : List Map). length l) same in
    let more = longer m maps.before maps.after in
    omega (arith, count, more)

no_taken : (v new : Guest) (base order : ℕ) → IsTaken v new base order → new ≡ v → ⊥
no_taken v new base order taken same =
    let some = maps_overlap base order v.maps taken.was in
    let none : list_any (overlaps base order) v.maps ≡ false = sym (ap (λ (u : Guest). list_any (overlaps base order) u.maps) same) ∙ taken.pages in
    cc

-- WHAT OTHERS DO IS NOTHING FOR IT

module _ (f : ViewFacts) (s : Scenario) (before : List ℕ) (S P : ℕ → Bool) (T : ℕ → Type 0) (cpu g : ℕ) (part : IsPartitioned (run (boot s) before) (Of S) T (Of P)) (virtual : IsVirtual (run (boot s) before) g) (mine : S (pd_of (run (boot s) before) g) ≡ true) where
  sound : IsSound (run (boot s) before)
  sound = reached_sound s before

  its : P g ≡ true
  its = guest_part (run (boot s) before) S (Of P) part.side g virtual mine

  module _ (ec : ℕ) (acts_ : Acts (run (boot s) before) cpu ec) (other : IsMember (run (boot s) before) T ec) where
    theirs : T (pd_of (run (boot s) before) ec)
    theirs = member_pd (run (boot s) before) T ec other

    still : view (after (run (boot s) before) cpu) g ≡ view (run (boot s) before) g
    still =
        let alike = others_leave s before (Of S) T (Of P) cpu ec part.apart part.guarded acts_ other in
        view_same f (run (boot s) before) (after (run (boot s) before) cpu) (Of S) (Of P) alike (alike_flipped (run (boot s) before) (after (run (boot s) before) cpu) (Of S) (Of P) alike)
        sound (turn_sound (run (boot s) before) cpu sound) g its mine virtual

    itself : ec ≡ g → ⊥
    itself same = part.apart.separate.disjoint (pd_of (run (boot s) before) g) mine (subst (λ (n : ℕ). T (pd_of (run (boot s) before) n)) same theirs)

    fixed : (i : Input) → input (run (boot s) before) cpu g ≡ Some i → (applied (view (run (boot s) before) g) i).guest ≡ view (run (boot s) before) g
    fixed i is = sym (ap (λ (o : Option Input). (answered (view (run (boot s) before) g) o).guest) is) ∙ sym (turn_is_one (run (boot s) before) cpu g sound virtual).guest ∙ still

    admitted : (i : Input) → input (run (boot s) before) cpu g ≡ Some i → admits (view (run (boot s) before) g) i ≡ true
    admitted i is = subst (λ (o : Option Input). IfSome o (λ i. admits (view (run (boot s) before) g) i ≡ true)) is (input_met (run (boot s) before) cpu g sound virtual)

    right : (i : Input) → input (run (boot s) before) cpu g ≡ Some i → HasRight (boot s) before cpu ec g i
    right i is = input_right s before cpu ec g i (record { virtual = virtual; acts = acts_; is = is })

    no_store : (frame offset width value : ℕ) → input (run (boot s) before) cpu g ≡ Some (input_as.Foreign frame offset width value) → ⊥
    no_store frame offset width value is =
        let stores = f.stored (run (boot s) before) cpu ec g frame offset width value sound acts_ is in
        let page = leads_to (run (boot s) before) ec write_right stores.store.address frame stores.leads in
        let place = page.place in
        let low = place.from_base in
        let high = place.before_end in
        let at = page.leads in
        let reaches : Reach (run (boot s) before) T write_right frame = record {
          derivation = page.derivation;
          there = page.there;
          of = subst T (sym page.holder) theirs;
          kind = page.kind;
          leads = record { first = omega (arith, at); last = omega (arith, at, low, high) };
          allowed = page.allowed;
        } in
        let seen = view_leads f (run (boot s) before) g frame sound stores.covered in
        part.guarded.memory (pd_of (run (boot s) before) g) seen.page seen.to mine seen.reaches (subst (Reach (run (boot s) before) T write_right) (sym seen.its) reaches)

    no_recall : input (run (boot s) before) cpu g ≡ Some input_as.Recall → ⊥
    no_recall is =
        let may = right input_as.Recall is in
        let owned = subst (λ (n : ℕ). IsOwned (run (boot s) before) T n (slice_get (run (boot s) before).objects n)) may.target
        (part.apart.separate.second.capabilities may.capability may.there (subst T (sym may.held) theirs) may.kind) in
        part.apart.separate.disjoint (pd_of (run (boot s) before) g) mine (owned_domain (run (boot s) before) T g (slice_get (run (boot s) before).objects g) virtual owned)

    no_input : (i : Input) → input (run (boot s) before) cpu g ≡ Some i → ⊥
    no_input input_as.Own is = itself (right input_as.Own is)
    no_input input_as.Sent is = itself (right input_as.Sent is)
    no_input input_as.Died is = itself (right input_as.Died is)
    no_input input_as.Recall is = no_recall is
    no_input (input_as.Foreign frame offset width value) is = no_store frame offset width value is
    no_input (input_as.Reply mtd words) is = no_reply (view (run (boot s) before) g) mtd words (admitted (input_as.Reply mtd words) is) (fixed (input_as.Reply mtd words) is)
    no_input (input_as.Given base order rights frame contents) is =
        no_given f (view (run (boot s) before) g) (record { base = base; order = order; rights = rights; frame = frame }) contents
        (admitted (input_as.Given base order rights frame contents) is) (fixed (input_as.Given base order rights frame contents) is)
    no_input (input_as.Taken base order) is =
        no_taken (view (run (boot s) before) g) (view (after (run (boot s) before) cpu) g) base order
        (subst (IsTakenAsSeen (view (run (boot s) before) g) (view (after (run (boot s) before) cpu) g)) is (taken_as_seen (run (boot s) before) cpu g sound virtual)) still

  pub others_tell_nothing : own_turn S (run (boot s) before) cpu ≡ None → input (run (boot s) before) cpu g ≡ None
  others_tell_nothing none = by_next (next_to_act (run (boot s) before) cpu) refl
    where
      by_input : (ec : ℕ) → Acts (run (boot s) before) cpu ec → IsMember (run (boot s) before) T ec → (o : Option Input) → input (run (boot s) before) cpu g ≡ o → o ≡ None
      by_input ec acts_ other None is = refl
      by_input ec acts_ other (Some i) is = absurd (no_input ec acts_ other i is)

      by_member : (ec : ℕ) → Acts (run (boot s) before) cpu ec → IsMember (run (boot s) before) (Of S) ec ⊎ IsMember (run (boot s) before) T ec → input (run (boot s) before) cpu g ≡ None
      by_member ec acts_ (inl m) = absurd (own_from S (run (boot s) before) cpu ec acts_ (member_pd (run (boot s) before) (Of S) ec m) none)
      by_member ec acts_ (inr m) = by_input ec acts_ m (input (run (boot s) before) cpu g) refl

      by_next : (o : Option Candidate) → next_to_act (run (boot s) before) cpu ≡ o → input (run (boot s) before) cpu g ≡ None
      by_next None is = f.nobody (run (boot s) before) cpu g is
      by_next (Some c) is =
          let acts_ : Acts (run (boot s) before) cpu c.actor = ap (option_map (λ (d : Candidate). d.actor)) is in
          by_member c.actor acts_ (acts_in (run (boot s) before) (Of S) T cpu c.actor part.apart.separate acts_)

-- WHAT THE SIDE DOES IS THE SAME

foreign_same : (k l : KernelState) (S P : ℕ → Type 0) → Both k l S P → (ec g : ℕ) → P ec → S (pd_of k ec) → ((f : ℕ) → is_covered_for l (pd_of l g) f ≡ is_covered_for k (pd_of k g) f) → foreign l ec g ≡ foreign k ec g
foreign_same k l S P b ec g p s covers =
    ap (λ (o : Once). option_and_then (foreign_by l ec (pd_of l g)) (store_of o)) (instruction_same k l S P b ec p s) ∙ by_store (store_of (instruction k ec))
  where
    at_frame : (t : Store) (f : ℕ) → foreign_at l (pd_of l g) t f ≡ foreign_at k (pd_of k g) t f
    at_frame t f = ap (λ (c : Bool). if c then Some (input_as.Foreign f (t.address % 4096) t.width t.value) else None) (covers f)

    by_ram : (t : Store) (f : ℕ) (c : Bool) → option_and_then (foreign_at l (pd_of l g) t) (if c then Some f else None) ≡ option_and_then (foreign_at k (pd_of k g) t) (if c then Some f else None)
    by_ram t f true = at_frame t f
    by_ram t f false = refl

    by_frame : (t : Store) (o : Option ℕ) → frame_for (address_space k ec) write_right t.address ≡ o →
        option_and_then (foreign_at l (pd_of l g) t) (option_and_then (in_ram l) o) ≡ option_and_then (foreign_at k (pd_of k g) t) (option_and_then (in_ram k) o)
    by_frame t None is = refl
    by_frame t (Some f) is =
        ap (λ (o : Option (List ℕ)). option_and_then (foreign_at l (pd_of l g) t) (if is_some o then Some f else None)) (frame_same k l S P b ec write_right t.address f s is)
        ∙ by_ram t f (is_some (slice_get k.memory.ram f))

    by_store : (o : Option Store) → option_and_then (foreign_by l ec (pd_of l g)) o ≡ option_and_then (foreign_by k ec (pd_of k g)) o
    by_store None = refl
    by_store (Some t) =
        ap (λ (a : AddressSpace). option_and_then (foreign_at l (pd_of l g) t) (option_and_then (in_ram l) (frame_for a write_right t.address))) (address_same k l S P b ec p s)
        ∙ by_frame t (frame_for (address_space k ec) write_right t.address) refl

others_same : (timed : Type 0) (k l : KernelState) (S P : ℕ → Type 0) → Both k l S P → (ec g : ℕ) → P ec → S (pd_of k ec) → ((f : ℕ) → is_covered_for l (pd_of l g) f ≡ is_covered_for k (pd_of k g) f) →
    (d : Deed) → IsOwn timed P d → others_input l ec g d ≡ others_input k ec g d
others_same timed k l S P b ec g p s covers deeds.Steps own = foreign_same k l S P b ec g p s covers
others_same timed k l S P b ec g p s covers (deeds.Replies caller mark.Exit false) own = ap (λ (m : List ℕ). only_if (caller == g) (reply_of m)) (message_same k l S P b ec p s)
others_same timed k l S P b ec g p s covers (deeds.Replies caller mark.Exit true) own = refl
others_same timed k l S P b ec g p s covers (deeds.Replies caller mark.Call items) own = refl
others_same timed k l S P b ec g p s covers (deeds.Finishes item end words (sequel.Replied caller mark.Exit)) own =
    ap (λ (m : List ℕ). only_if (caller == g) (reply_of m)) (message_same k l S P b ec p s)
others_same timed k l S P b ec g p s covers (deeds.Finishes item end words (sequel.Replied caller mark.Call)) own = refl
others_same timed k l S P b ec g p s covers (deeds.Finishes item end words sequel.Item) own = refl
others_same timed k l S P b ec g p s covers (deeds.Finishes item end words sequel.Opened) own = refl
others_same timed k l S P b ec g p s covers (deeds.Finishes item end words sequel.Taken) own = refl
others_same timed k l S P b ec g p s covers (deeds.Gives child cursor) own = absurd own
others_same timed k l S P b ec g p s covers (deeds.Removes leaf) own = absurd own
others_same timed k l S P b ec g p s covers other own = refl

-- the contents of frames that a part leads to
taken_same : {T : Type 0} (n : ℕ) (xs ys : List T) → ((i : ℕ) → i < n → slice_get ys i ≡ slice_get xs i) → take n ys ≡ take n xs
taken_same zero xs ys same = refl
taken_same (suc n) [] [] same = refl
taken_same {T} (suc n) [] (y ∷ ys) same = absurd (let first : ◌≡◌ {A = Option T} (Some y) None = same 0 (omega arith) in cc)
taken_same {T} (suc n) (x ∷ xs) [] same = absurd (let first : ◌≡◌ {A = Option T} None (Some x) = same 0 (omega arith) in cc)
taken_same {T} (suc n) (x ∷ xs) (y ∷ ys) same =
    ap₂ (λ (z : T) (zs : List T). z ∷ zs) (same_Some y x (same 0 (omega arith))) (taken_same n xs ys (λ i below. same (suc i) (omega arith)))

dropped_at : {T : Type 0} (n : ℕ) (xs : List T) (i : ℕ) → slice_get (drop n xs) i ≡ slice_get xs (n + i)
dropped_at zero xs i = ap (slice_get xs) (omega arith)
dropped_at (suc n) [] i = refl
dropped_at (suc n) (x ∷ xs) i = let next : suc (n + i) ≡ suc n + i = omega arith in dropped_at n xs i ∙ ap (slice_get (x ∷ xs)) next

contents_same : (k l : KernelState) (S P : ℕ → Type 0) → Both k l S P → IsForest k.delegations → (child : Derivation) → IsPart k S child → Mem ≡ child.kind →
    contents_of l.memory.ram child.target child.order ≡ contents_of k.memory.ram child.target child.order
contents_same k l S P b forest child part kind =
    ap concat (taken_same (2 ^ child.order) (drop child.target k.memory.ram) (drop child.target l.memory.ram)
    (λ i below. dropped_at child.target l.memory.ram i ∙ frame_at i below ∙ sym (dropped_at child.target k.memory.ram i)))
  where
    frame_at : (i : ℕ) → i < 2 ^ child.order → slice_get l.memory.ram (child.target + i) ≡ slice_get k.memory.ram (child.target + i)
    frame_at i below =
        let seen = child_leads k S child forest part child.pd (child.base + i) (record { kind = kind; pd = refl; place = record { from_base = omega arith; before_end = omega (arith, below) } }) in
        let its : child.target + (child.base + i - child.base) ≡ child.target + i = omega arith in
        subst (λ (n : ℕ). slice_get l.memory.ram n ≡ slice_get k.memory.ram n) its (frames_same k l S P b (child.target + (child.base + i - child.base)) seen)

memory_kind : (n : Kind) → is_memory n ≡ true → Mem ≡ n
memory_kind Mem h = refl
memory_kind Obj h = absurd (cc)

part_same : (k l : KernelState) (S P : ℕ → Type 0) → Both k l S P → IsForest k.delegations → (ec g : ℕ) → pd_of l g ≡ pd_of k g → (child : Derivation) (cursor : ℕ) → IsPart k S child →
    others_input l ec g (deeds.Gives child cursor) ≡ others_input k ec g (deeds.Gives child cursor)
part_same k l S P b forest ec g domain child cursor part =
    ap (λ (n : ℕ). only_if (is_memory_of n child) (given_of l child)) domain ∙ by_test (is_memory_of (pd_of k g) child) refl
  where
    by_test : (t : Bool) → is_memory_of (pd_of k g) child ≡ t → only_if t (given_of l child) ≡ only_if t (given_of k child)
    by_test false is = refl
    by_test true is =
        ap (λ (c : List ℕ). Some (input_as.Given child.base child.order child.rights child.target c))
        (contents_same k l S P b forest child part (memory_kind child.kind (kind_of is)))
      where
        kind_of : is_memory_of (pd_of k g) child ≡ true → is_memory child.kind ≡ true
        kind_of h = (and_parts (is_memory child.kind) (child.pd == pd_of k g) h).0

own_others_same : (timed creating : Type 0) (k l : KernelState) (S P : ℕ → Type 0) → Both k l S P → IsForest k.delegations → (ec g : ℕ) → P ec → S (pd_of k ec) → pd_of l g ≡ pd_of k g →
    ((f : ℕ) → is_covered_for l (pd_of l g) f ≡ is_covered_for k (pd_of k g) f) → (d : Deed) → IsOwnDeed timed creating k S P d → others_input l ec g d ≡ others_input k ec g d
own_others_same timed creating k l S P b forest ec g p s domain covers d (Alone own) = others_same timed k l S P b ec g p s covers d own
own_others_same timed creating k l S P b forest ec g p s domain covers d (Part child cursor is part) =
    ap (others_input l ec g) is ∙ part_same k l S P b forest ec g domain child cursor part ∙ sym (ap (others_input k ec g) is)
own_others_same timed creating k l S P b forest ec g p s domain covers d (Leaf leaf is mine) =
    ap (others_input l ec g) is ∙ ap (λ (n : ℕ). only_if (is_memory_of n leaf) (input_as.Taken leaf.base leaf.order)) domain ∙ sym (ap (others_input k ec g) is)
own_others_same timed creating k l S P b forest ec g p s domain covers d (New call target made is creates of) = ap (others_input l ec g) is ∙ sym (ap (others_input k ec g) is)
own_others_same timed creating k l S P b forest ec g p s domain covers d (Open target domain_ is creates) = ap (others_input l ec g) is ∙ sym (ap (others_input k ec g) is)

-- numbers of ranges don't matter
numberless : (k : KernelState) (ec g : ℕ) (d : Deed) → input_of k ec g (unnumbered d) ≡ input_of k ec g d
unfolding input_of
numberless k ec g (deeds.Gives child cursor) = refl
numberless k ec g (deeds.Removes leaf) = refl
numberless k ec g other = refl

same_of : (k l : KernelState) (ec g : ℕ) (d : Deed) → others_input l ec g d ≡ others_input k ec g d → input_of l ec g d ≡ input_of k ec g d
unfolding input_of
same_of k l ec g d same = ap (λ (o : Option Input). if ec == g then own_input d else o) same

pub own_met : ViewFacts → (timed creating : Type 0) (k l : KernelState) (S P : ℕ → Bool) (cpu other ec sc paid g : ℕ) → AreTwins k l S P → own_turn S k cpu ≡ Some (ec, sc) → own_turn S l other ≡ Some (ec, paid) → IsOwnDeed timed creating k (Of S) (Of P) (deed k ec) →
    unnumbered (deed l ec) ≡ unnumbered (deed k ec) → IsVirtual k g → S (pd_of k g) ≡ true → input l other g ≡ input k cpu g
own_met f timed creating k l S P cpu other ec sc paid g t own also does same virtual mine =
    let its = own_is S k cpu ec sc own in
    let b = both k l S P t in
    let p = own_there S k (Of P) cpu ec sc t.first t.side its in
    let q = guest_part k S (Of P) t.side g virtual mine in
    let views = view_same f k l (Of S) (Of P) t.alike (alike_flipped k l (Of S) (Of P) t.alike) t.first t.second g q mine virtual in
    let covers : (f : ℕ) → is_covered_for l (pd_of l g) f ≡ is_covered_for k (pd_of k g) f =
    λ f. sym (view_covers l g f t.second) ∙ ap (λ (v : Guest). is_covered v.maps f) views ∙ view_covers k g f t.first in
    input_is l other ec g (own_acts S l other ec paid (own_is S l other ec paid also))
    ∙ sym (numberless l ec g (deed l ec)) ∙ ap (input_of l ec g) same ∙ numberless l ec g (deed k ec)
    ∙ same_of k l ec g (deed k ec) (own_others_same timed creating k l (Of S) (Of P) b t.first.forest ec g p its.of (domain_same k l (Of S) (Of P) t.alike g q) covers (deed k ec) does)
    ∙ sym (input_is k cpu ec g (own_acts S k cpu ec sc its))

pub own_tells_same : ViewFacts → (k l : KernelState) (S P : ℕ → Bool) (cpu other ec sc g : ℕ) → AreTwins k l S P → own_turn S k cpu ≡ Some (ec, sc) → own_turn S l other ≡ Some (ec, sc) → IsAtWork (HasSameClock k l ec) (AreGivingWithin k l (Of S) ec) (AreRevokingWithin k l (Of S)) (AreCreatingAlone k l (Of S) (Of P)) k ec →
    IsVirtual k g → S (pd_of k g) ≡ true → input l other g ≡ input k cpu g
own_tells_same f k l S P cpu other ec sc g t own also works virtual mine =
    own_met f (HasSameClock k l ec) (AreMaking k l (Of S) (Of P)) k l S P cpu other ec sc sc g t own also
    (first_own (HasSameClock k l ec) (AreMaking k l (Of S) (Of P)) k l (Of S) (Of P) (deed k ec) (deed l ec) (own_of k l S P cpu ec sc t own works)) (decided k l S P cpu ec sc t own works) virtual mine
