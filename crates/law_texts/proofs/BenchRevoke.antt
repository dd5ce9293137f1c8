-- A bench's last call takes the first pages away again.
use Rattle.std.proofs.Common.{◌≡◌, ℕ, zero, suc, ◌+◌, ◌<◌, List, [], ◌∷◌, ◌++◌, length, inl, inr, refl, ap, sym, ◌∙◌, subst, arith}
use Rattle.std.specs.Prelude.{Bool, true, false, ◌==◌, ◌&&◌, not, filter, if◌then◌else◌, Option, Some, None, is_some, is_none, option_map, option_and_then, slice_get}
use Rattle.std.specs.List.{AllByRecursion, find, list_any}
use Rattle.rv_model.specs.Step.{decoded, one}
use Rattle.rv_model.specs.declared.instr.Instr.{Instr}
use Rattle.nova_guest.specs.Frames.{read_in}
use Rattle.law_forest.proofs.Extremes.{filter_same}
use Rattle.law_forest.proofs.Forests.{forest_without}
use Rattle.law_forest.proofs.Leaves.{all_kept, leaf_facts, leaf_or_none}
use Rattle.law_forest.proofs.Lines.{line_none}
use Rattle.law_forest.proofs.Members.{IsIn, all_at, all_weaker, in_from_contains, in_filtered}
use Rattle.law_forest.specs.Courses.{IsLeaf}
use Rattle.law_forest.proofs.Pairs.{pairs_filter, same_id}
use Rattle.law_forest.proofs.Scopes.{scope_without}
use Rattle.nova_model.specs.AddressSpaces.{space}
use Rattle.nova_model.specs.Capabilities.{allowed, event_right, is_pt, or_bad_cap}
use Rattle.nova_model.specs.Choice.{Candidate, candidate_of, choice, foremost, in_front, actor, is_quiet}
use Rattle.nova_model.specs.Deeds.{address_space, deed, stepping, removes}
use Rattle.nova_model.specs.Delegations.{Delegations, covers, without}
use Rattle.nova_model.specs.Exits.{exit_at}
use Rattle.nova_model.specs.Forest.{ArePairs, IsForest}
use Rattle.nova_model.specs.Memory.{Memory}
use Rattle.nova_model.specs.Revokes.{Revocation, in_scope, is_top, next_leaf, scope}
use Rattle.nova_model.specs.State.{KernelState, no_transfer}
use Rattle.nova_model.specs.Times.{Entry, next_entry}
use Rattle.nova_model.specs.declared.context.State.TheVariants.{Ready, Revoking, Exiting, Dead}
use Rattle.nova_model.specs.declared.deed.Deed.TheVariants.{Removes, Returns, Raises, Dies}
use Rattle.nova_model.specs.declared.delegation.Derivation.{Derivation}
use Rattle.nova_objects.specs.declared.object.Object.TheVariants.{Sc}
use Rattle.nova_range.specs.declared.range.Kind.TheVariants.{Obj}
use Rattle.nova_nodes.proofs.Most.{others as lacking}
use Rattle.law_texts.proofs.BenchStates.{Accounts, AreDomains, Tables, held, kernel, own_capabilities, ram_pages}
use Rattle.law_texts.proofs.BenchTurn.{IsActing, IsTaken, no_candidates, no_entry, paid_once, turn_taken}
use Rattle.law_texts.proofs.BenchMade.{IsMade, Capability, FirstPage, differ, find_none, the_first_page, with_made}
use Rattle.law_texts.proofs.BenchPass.{HoldsCode, file, thread, ready_acts}
use Rattle.law_texts.proofs.BenchEnds.{Ends, turn_ends}

abbrev pub the_revoke : Revocation
the_revoke = record { pd = 0; range = the_first_page; own = false }

pub revoking_acts : IsActing (Revoking the_first_page false)
revoking_acts = record { edge = refl; acts = refl }

exiting_acts : (reason q0 q1 : ℕ) → IsActing (Exiting reason q0 q1)
exiting_acts reason q0 q1 = record { edge = refl; acts = refl }

-- THE SCOPE

abbrev pub has_parent : Derivation → Bool
has_parent d = is_some d.parent

-- first pages are in the scope, and nothing else
pub in_scope_is : (s n : ℕ) (xs : List Derivation) (x : Derivation) → IsMade s n x → in_scope the_revoke (ram_pages ∷ xs) x ≡ has_parent x
in_scope_is s n xs x (Capability id selector target rights from below) =
    ap (λ (l : List Derivation). list_any (is_top the_revoke (ram_pages ∷ xs)) (held id selector 0 target rights ∷ l)) (line_none id (ram_pages ∷ xs))
in_scope_is s n xs x (FirstPage id pd old from below) = refl

pub scope_is : (s n : ℕ) (rest : List Derivation) → AllByRecursion (IsMade s n) rest → scope the_revoke (with_made rest) ≡ filter has_parent rest
scope_is s n rest all =
    filter_same (in_scope the_revoke (with_made rest)) has_parent rest (λ x i. in_scope_is s n (own_capabilities ++ rest) x (all_at (IsMade s n) rest x all i))

-- A DERIVATION GOES

itself_gone : (n : ℕ) → not (n == n) ≡ false
itself_gone n = grind arith

other_stays : (a b : ℕ) → b < a → not (a == b) ≡ true
other_stays a b less = grind arith

lesser_stays : (a b : ℕ) → a < b → not (a == b) ≡ true
lesser_stays a b less = grind arith

one_less : (list : List Derivation) (d : Derivation) → ArePairs (λ a b. a.id < b.id) list → IsIn list d → length list ≡ length (lacking d.id list) + 1
one_less [] d rising i = absurd i
one_less (x ∷ xs) d rising (inl e) =
    let gone : not (x.id == d.id) ≡ false = ap (λ (y : Derivation). not (y.id == d.id)) e ∙ itself_gone d.id in
    let rest = all_kept (λ a. not (a.id == d.id)) xs (all_weaker (λ (a : Derivation). x.id < a.id) (λ a. not (a.id == d.id) ≡ true) xs
    (λ a above. other_stays a.id d.id (subst (λ (y : Derivation). y.id < a.id) e above)) rising.0) in
    rw gone (let same = ap (λ (l : List Derivation). length l) rest in omega (arith, same))
one_less (x ∷ xs) d rising (inr i) =
    let above = all_at (λ (b : Derivation). x.id < b.id) xs d rising.0 i in
    let rest = one_less xs d rising.1 i in
    rw (lesser_stays x.id d.id above) (omega (arith, rest))

-- one of a list by a test goes
tested_less : (p : Derivation → Bool) (list : List Derivation) (d : Derivation) → ArePairs (λ a b. a.id < b.id) list → IsIn list d → p d ≡ true →
    length (filter p list) ≡ length (lacking d.id (filter p list)) + 1
tested_less p list d rising i passes = one_less (filter p list) d (pairs_filter (λ a b. a.id < b.id) p list rising) (in_filtered p list d i passes)

-- THE CALL

module _ (words : List ℕ) (t : Tables) (m : Memory) (are : AreDomains t) (code : HoldsCode m) (next : ℕ) (xs : List Derivation) (a : Accounts) (x8 x9 x12 : ℕ) where
  abbrev pub revoking : KernelState
  revoking = kernel a (thread (Revoking the_first_page false) 48 (file x8 x9 1 x12 7)) words no_transfer t (ram_pages ∷ xs) next m

  abbrev pub back : KernelState
  back = kernel a (thread Ready 52 (file x8 x9 0 x12 7)) words no_transfer t (ram_pages ∷ xs) next m

  abbrev pub raised : KernelState
  raised = kernel a (thread (Exiting 7 0 0) 52 (file x8 x9 0 x12 7)) words no_transfer t (ram_pages ∷ xs) next m

  abbrev pub over : KernelState
  over = kernel a (thread Dead 52 (file x8 x9 0 x12 7)) words no_transfer t (ram_pages ∷ xs) next m

  -- none is runnable then
  stays_there : actor over 1 ≡ 1
  stays_there = refl

  pub over_quiet : is_quiet over ≡ true
  unfolding choice
  over_quiet =
      ap (λ (cs : List Candidate). is_none (foremost (in_front (candidate_of over 0 2 (Sc 1 0 1 10)) cs)) && is_none (option_map (λ (e : Entry). e.moment) (next_entry over.times 0)) && true) (no_candidates over 3 t.objects are.objects)
      ∙ ap (λ (o : Option Entry). is_none (option_map (λ (e : Entry). e.moment) o) && true) (no_entry a.clock t.deadlines are.deadlines)

  -- what no revoke takes away: nothing but RAM leads to the root's first page, and no portal is at 23
  abbrev NotAt : Derivation → Type 0
  NotAt d = covers Obj 0 23 d ≡ false

  raises : IsTaken back (Raises 7 0 0) (kernel (paid_once a) (thread (Exiting 7 0 0) 52 (file x8 x9 0 x12 7)) words no_transfer t (ram_pages ∷ xs) next m)
  unfolding deed one
  raises =
      turn_taken a (thread Ready 52 (file x8 x9 0 x12 7)) (thread (Exiting 7 0 0) 52 (file x8 x9 0 x12 7)) words words no_transfer no_transfer t t (ram_pages ∷ xs) (ram_pages ∷ xs) next next m m
      (Raises 7 0 0) are are ready_acts
      (ap (λ (i : Option Instr). stepping back 1 (decoded (record { pc = 52; x = file x8 x9 0 x12 7 }) (space (address_space back 1)) (read_in (slice_get m.ram 0) 52 4) i)) code.ends)
      refl

  dies : find (covers Obj 0 23) (ram_pages ∷ xs) ≡ None → IsTaken raised (Dies 7 0) (kernel (paid_once a) (thread Dead 52 (file x8 x9 0 x12 7)) words no_transfer t (ram_pages ∷ xs) next m)
  unfolding deed
  dies none =
      turn_taken a (thread (Exiting 7 0 0) 52 (file x8 x9 0 x12 7)) (thread Dead 52 (file x8 x9 0 x12 7)) words words no_transfer no_transfer t t (ram_pages ∷ xs) (ram_pages ∷ xs) next next m m
      (Dies 7 0) are are (exiting_acts 7 0 0)
      (ap (λ (o : Option Derivation). exit_at raised 1 7 0 0 (or_bad_cap (option_and_then (allowed raised.objects is_pt event_right) o))) none)
      refl

  returns : next_leaf the_revoke (record { list = ram_pages ∷ xs; next = next }) ≡ None →
      IsTaken revoking Returns (kernel (paid_once a) (thread Ready 52 (file x8 x9 0 x12 7)) words no_transfer t (ram_pages ∷ xs) next m)
  unfolding deed
  returns none =
      turn_taken a (thread (Revoking the_first_page false) 48 (file x8 x9 1 x12 7)) (thread Ready 52 (file x8 x9 0 x12 7)) words words no_transfer no_transfer t t (ram_pages ∷ xs) (ram_pages ∷ xs) next next m m
      Returns are are revoking_acts (ap removes none) refl

  takes : (leaf : Derivation) → next_leaf the_revoke (record { list = ram_pages ∷ xs; next = next }) ≡ Some leaf → (0 == leaf.id) ≡ false →
      IsTaken revoking (Removes leaf) (kernel (paid_once a) (thread (Revoking the_first_page false) 48 (file x8 x9 1 x12 7)) words no_transfer t (ram_pages ∷ lacking leaf.id xs) next m)
  unfolding deed
  takes leaf is stays =
      turn_taken a (thread (Revoking the_first_page false) 48 (file x8 x9 1 x12 7)) (thread (Revoking the_first_page false) 48 (file x8 x9 1 x12 7)) words words no_transfer no_transfer t t
      (ram_pages ∷ xs) (ram_pages ∷ lacking leaf.id xs) next next m m (Removes leaf) are are revoking_acts (ap removes is) (rw stays refl)

-- HOW IT ENDS

-- the turns of a revoke of as many pages as the number says, and of the end behind it
abbrev pub revoke_order : ℕ → List ℕ
revoke_order zero = 0 ∷ 0 ∷ 0 ∷ []
revoke_order (suc j) = 0 ∷ revoke_order j

all_filter : {T : Type 0} (P : T → Type 0) (p : T → Bool) (xs : List T) → AllByRecursion P xs → AllByRecursion P (filter p xs)
all_filter P p [] all = tt
all_filter {T} P p (x ∷ xs) all = by_test (all_filter P p xs all.1) (p x)
  where
    by_test : AllByRecursion P (filter p xs) → (b : Bool) → AllByRecursion P (if b then x ∷ filter p xs else filter p xs)
    by_test rest true = (all.0, rest)
    by_test rest false = rest

empty_by : {T : Type 0} (xs : List T) → length xs ≡ 0 → xs ≡ []
empty_by [] none = refl
empty_by (x ∷ xs) none = absurd (omega (arith, none))

module _ (words : List ℕ) (t : Tables) (m : Memory) (are : AreDomains t) (code : HoldsCode m) (next : ℕ) (x8 x9 x12 : ℕ) where
  abbrev f : List Derivation → Delegations
  f xs = record { list = ram_pages ∷ xs; next = next }

  over_ends : (xs : List Derivation) (a : Accounts) (c : ℕ) → length (ram_pages ∷ xs) ≡ c → Ends [] (over words t m are code next xs a x8 x9 x12) 0 0 c
  over_ends xs a c size = record { free = tt; quiet = over_quiet words t m are code next xs a x8 x9 x12; turns = omega arith; made = refl; gone = refl; caps = size }

  back_ends : (xs : List Derivation) (a : Accounts) (c : ℕ) → AllByRecursion (λ x. covers Obj 0 23 x ≡ false) xs → length (ram_pages ∷ xs) ≡ c →
      Ends (0 ∷ 0 ∷ []) (back words t m are code next xs a x8 x9 x12) 0 0 c
  back_ends xs a c apart size =
      turn_ends (back words t m are code next xs a x8 x9 x12) (raised words t m are code next xs (paid_once a) x8 x9 x12) (Raises 7 0 0) (0 ∷ []) 0 0 c 0 0
      (raises words t m are code next xs a x8 x9 x12) refl (omega arith) (omega arith)
      (turn_ends (raised words t m are code next xs (paid_once a) x8 x9 x12) (over words t m are code next xs (paid_once (paid_once a)) x8 x9 x12) (Dies 7 0) [] 0 0 c 0 0
      (dies words t m are code next xs (paid_once a) x8 x9 x12 (find_none (covers Obj 0 23) (ram_pages ∷ xs) (refl, apart))) refl (omega arith) (omega arith)
      (over_ends xs (paid_once (paid_once a)) c size))

  -- RAM isn't in the scope
  ram_stays : (xs : List Derivation) (leaf : Derivation) → IsForest (f xs) → IsLeaf the_revoke (f xs) leaf → (0 == leaf.id) ≡ false
  ram_stays xs leaf forest is = by_id leaf.id refl
    where
      by_id : (n : ℕ) → leaf.id ≡ n → (0 == n) ≡ false
      by_id zero zero_id =
          let same = same_id (ram_pages ∷ xs) ram_pages leaf forest.rising (inl refl) (in_from_contains (ram_pages ∷ xs) leaf is.there) (sym zero_id) in
          let taken : in_scope the_revoke (ram_pages ∷ xs) ram_pages ≡ true = subst (λ (d : Derivation). in_scope the_revoke (ram_pages ∷ xs) d ≡ true) (sym same) is.taken in
          absurd (cc)
      by_id (suc n) some = differ 0 (suc n) (omega arith)

  pub revokes_end : (j : ℕ) (xs : List Derivation) (a : Accounts) (c : ℕ) → IsForest (f xs) → AllByRecursion (λ x. covers Obj 0 23 x ≡ false) xs → length (scope the_revoke (ram_pages ∷ xs)) ≡ j →
      length (ram_pages ∷ xs) ≡ c + j → Ends (revoke_order j) (revoking words t m are code next xs a x8 x9 x12) 0 j c
  revokes_end zero xs a c forest apart scoped size =
      turn_ends (revoking words t m are code next xs a x8 x9 x12) (back words t m are code next xs (paid_once a) x8 x9 x12) Returns (0 ∷ 0 ∷ []) 0 0 c 0 0
      (returns words t m are code next xs a x8 x9 x12 ((leaf_or_none the_revoke (f xs) forest).1 (empty_by (scope the_revoke (ram_pages ∷ xs)) scoped))) refl (omega arith) (omega arith)
      (back_ends xs (paid_once a) c apart (omega (arith, size)))
  revokes_end (suc j) xs a c forest apart scoped size =
      by_leaf (λ ys ready. revokes_end j ys (paid_once a) c ready.0 ready.1 ready.2 ready.3) (next_leaf the_revoke (f xs)) refl
    where
      by_leaf : ((ys : List Derivation) → IsForest (f ys) × AllByRecursion (λ x. covers Obj 0 23 x ≡ false) ys × (length (scope the_revoke (ram_pages ∷ ys)) ≡ j) × (length (ram_pages ∷ ys) ≡ c + j) →
          Ends (revoke_order j) (revoking words t m are code next ys (paid_once a) x8 x9 x12) 0 j c) → (o : Option Derivation) → next_leaf the_revoke (f xs) ≡ o → Ends (0 ∷ revoke_order j) (revoking words t m are code next xs a x8 x9 x12) 0 (suc j) c
      by_leaf more None none =
          let empty = (leaf_or_none the_revoke (f xs) forest).0 none in
          let zero_size : length (scope the_revoke (ram_pages ∷ xs)) ≡ 0 = ap (λ (l : List Derivation). length l) empty in
          absurd (omega (arith, scoped, zero_size))
      by_leaf more (Some leaf) some =
          let is = leaf_facts the_revoke (f xs) leaf forest some in
          let stays = ram_stays xs leaf forest is in
          let there = in_from_contains (ram_pages ∷ xs) leaf is.there in
          let same : (without (f xs) leaf.id) ≡ f (lacking leaf.id xs) = rw stays refl in
          let scope_less = tested_less (in_scope the_revoke (ram_pages ∷ xs)) (ram_pages ∷ xs) leaf forest.rising there is.taken in
          let scope_now : length (scope the_revoke (ram_pages ∷ lacking leaf.id xs)) ≡ length (lacking leaf.id (scope the_revoke (ram_pages ∷ xs))) =
          ap (λ (g : Delegations). length (scope the_revoke g.list)) (sym same) ∙ ap (λ (l : List Derivation). length l) (scope_without the_revoke (f xs) leaf.id is.childless) in
          let list_less = one_less (ram_pages ∷ xs) leaf forest.rising there in
          let list_now : length (lacking leaf.id (ram_pages ∷ xs)) ≡ length (ram_pages ∷ lacking leaf.id xs) = ap (λ (g : Delegations). length g.list) same in
          turn_ends (revoking words t m are code next xs a x8 x9 x12) (revoking words t m are code next (lacking leaf.id xs) (paid_once a) x8 x9 x12) (Removes leaf) (revoke_order j) 0 j c 0 (suc j)
          (takes words t m are code next xs a x8 x9 x12 leaf some stays) refl (omega arith) (omega arith)
          (more (lacking leaf.id xs) (
            subst IsForest same (forest_without (f xs) leaf.id forest is.childless),
            all_filter (λ x. covers Obj 0 23 x ≡ false) (λ (d : Derivation). not (d.id == leaf.id)) xs apart,
            omega (arith, scoped, scope_less, scope_now),
            omega (arith, size, list_less, list_now),
          ))
