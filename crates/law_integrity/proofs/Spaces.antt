-- What instructions see of memory is exactly what their execution context reaches.
use Rattle.std.proofs.Common.{◌≡◌, ℕ, ◌/◌, ◌%◌, ◌⊎◌, List, refl, sym, ap, ◌∙◌, inl, inr, arith}
use Rattle.std.specs.Prelude.{Bool, true, false, ◌==◌, ◌&&◌, ◌||◌, if◌then◌else◌, is_some, nat_lt, slice_get, Option, Some, None, option_map, option_and_then}
use Rattle.std.specs.List.{find}
use Rattle.std.proofs.lemmas.Bool.{and_parts, eqb-true}
use Rattle.std.proofs.lemmas.Bool.Decides.{nat_tests}
use Rattle.nova_guest.specs.Frames.{frame_with, read_in}
use Rattle.nova_range.specs.Ranges.{HasPlace}
use Rattle.nova_range.specs.Rights.{execute_right, read_right, write_right}
use Rattle.nova_range.specs.declared.range.Kind.TheVariants.{Mem}
use Rattle.nova_utcb.specs.Messages.{loaded}
use Rattle.nova_model.specs.AddressSpaces.{found, frame_for, loaded_from, message_size, own_page, space, words_at}
use Rattle.nova_model.specs.Deeds.{address_space}
use Rattle.nova_model.specs.Delegations.{covers, has_place, is_same_kind, page_in, range_of, reach}
use Rattle.nova_model.specs.Forest.{IsForest}
use Rattle.nova_model.specs.State.{KernelState, is_thread, message, own_words, pd_of}
use Rattle.nova_model.specs.declared.delegation.Derivation.{Derivation}
use Rattle.law_forest.proofs.Members.{IsIn, all_at, found_in, in_from_contains, none_found}
use Rattle.law_forest.proofs.Pairs.{pairs_at}
use Rattle.law_forest.proofs.Transfers.{kinds_equal}
use Rattle.law_turns.proofs.Holding.{Apart, from_has, has_from, meet}
use Rattle.law_integrity.specs.Rights.{PageLeadsTo}
use Rattle.law_integrity.specs.Spaces.{ByRead, Finds, InFrame, IsOwnPage, IsOwnWord, IsSpaceOf, Loads, Nowhere, OwnWords, FindsFrame, Refused, Taken, Takes}
use Rattle.law_integrity.proofs.Stores.{leads_to}

-- ONE DERIVATION COVERS A PAGE

covers_it : (k : KernelState) (domain page right frame : ℕ) (l : PageLeadsTo k domain page right frame) → covers Mem domain page l.derivation ≡ true
covers_it k domain page right frame l =
    let kind : is_same_kind Mem l.derivation.kind ≡ true = ap (is_same_kind Mem) l.kind in
    let its : (l.derivation.pd == domain) ≡ true = let same = l.holder in grind arith in
    rw (kind, its) (from_has (range_of l.derivation) page l.place)

-- two that cover a page of the domain are one
one_covers : (k : KernelState) (domain page : ℕ) (a b : Derivation) → IsForest k.delegations → IsIn k.delegations.list a → IsIn k.delegations.list b → covers Mem domain page a ≡ true →
    covers Mem domain page b ≡ true → a ≡ b
one_covers k domain page a b forest there here h i = by_pair (pairs_at Apart k.delegations.list a b forest.apart there here)
  where
    parts : (d : Derivation) → covers Mem domain page d ≡ true → (Mem ≡ d.kind) × (d.pd ≡ domain) × HasPlace (range_of d) page
    parts d c =
        let both = and_parts (is_same_kind Mem d.kind) (d.pd == domain && has_place (range_of d) page) c in
        let rest = and_parts (d.pd == domain) (has_place (range_of d) page) both.1 in
        (kinds_equal Mem d.kind both.0, eqb-true d.pd domain rest.0, has_from (range_of d) page rest.1)

    far : (x y : Derivation) → covers Mem domain page x ≡ true → covers Mem domain page y ≡ true → Apart x y → ⊥
    far x y c d apart =
        let p = parts x c in
        let q = parts y d in
        let none = apart (p.1 ∙ sym q.1) (sym p.0 ∙ q.0) in
        let some = meet (range_of x) (range_of y) page p.2 q.2 in
        absurd (cc)

    by_pair : (a ≡ b) ⊎ (Apart a b ⊎ Apart b a) → a ≡ b
    by_pair (inl same) = same
    by_pair (inr (inl apart)) = absurd (far a b h i apart)
    by_pair (inr (inr apart)) = absurd (far b a i h apart)

found_led : (k : KernelState) (domain page right frame : ℕ) → IsForest k.delegations → (l : PageLeadsTo k domain page right frame) →
    find (covers Mem domain page) k.delegations.list ≡ Some l.derivation
found_led k domain page right frame forest l = by_found (find (covers Mem domain page) k.delegations.list) refl
  where
    there : IsIn k.delegations.list l.derivation
    there = in_from_contains k.delegations.list l.derivation l.there

    by_found : (o : Option Derivation) → find (covers Mem domain page) k.delegations.list ≡ o → o ≡ Some l.derivation
    by_found None is =
        let fails = all_at (λ x. covers Mem domain page x ≡ false) k.delegations.list l.derivation (none_found (covers Mem domain page) k.delegations.list (ap is_some is)) there in
        let passes = covers_it k domain page right frame l in
        absurd (cc)
    by_found (Some x) is =
        let its = found_in (covers Mem domain page) k.delegations.list x is in
        ap (λ (d : Derivation). Some d) (one_covers k domain page x l.derivation forest its.0 there its.1 (covers_it k domain page right frame l))

-- THE FRAME OF AN ADDRESS

reached_frame : (k : KernelState) (domain page right frame : ℕ) → IsForest k.delegations → PageLeadsTo k domain page right frame →
    option_and_then (frame_with right) (reach k.delegations.list domain page) ≡ Some frame
reached_frame k domain page right frame forest l =
    ap (λ (o : Option Derivation). option_and_then (frame_with right) (option_map (page_in page) o)) (found_led k domain page right frame forest l)
    ∙ rw l.allowed (ap (λ (f : ℕ). Some f) (sym l.leads))

-- the own page, by tests
abbrev Owns : KernelState → ℕ → ℕ → Bool → Type 0
Owns k ec address true = IsOwnPage k ec address
Owns k ec address false = IsOwnPage k ec address → ⊥

own_is : (k : KernelState) (ec address : ℕ) (t : Bool) → (is_some (own_words k ec) && (address / 4096 == own_page)) ≡ t → Owns k ec address t
own_is k ec address t is = by_thread (is_thread k ec) refl is
  where
    by_thread : (thread : Bool) → is_thread k ec ≡ thread → (is_some (if thread then Some (message k ec) else None) && (address / 4096 == own_page)) ≡ t → Owns k ec address t
    by_thread true thread e = by_page thread (address / 4096 == own_page) refl t e
      where
        by_page : is_thread k ec ≡ true → (page : Bool) → (address / 4096 == own_page) ≡ page → (t : Bool) → page ≡ t → Owns k ec address t
        by_page thread true page true e = record { thread = thread; page = eqb-true (address / 4096) own_page page }
        by_page thread false page false e = λ own. let at = own.page in absurd (grind (arith, at, page))
        by_page thread true page false e = absurd (cc)
        by_page thread false page true e = absurd (cc)
    by_thread false thread e = by_result thread t e
      where
        by_result : is_thread k ec ≡ false → (t : Bool) → false ≡ t → Owns k ec address t
        by_result thread false e = λ own. let is = own.thread in absurd (cc)
        by_result thread true e = absurd (cc)

reaches_of : (k : KernelState) (ec address right frame : ℕ) → frame_for (address_space k ec) right address ≡ Some frame → FindsFrame k ec address right frame
reaches_of k ec address right frame h = record { other = by_own (is_some (own_words k ec) && (address / 4096 == own_page)) refl h; leads = leads_to k ec right address frame h }
  where
    by_own : (t : Bool) → (is_some (own_words k ec) && (address / 4096 == own_page)) ≡ t →
        option_and_then (frame_with right) (if t then None else reach k.delegations.list (pd_of k ec) (address / 4096)) ≡ Some frame → IsOwnPage k ec address → ⊥
    by_own true is g = absurd (cc)
    by_own false is g = own_is k ec address false is

frame_reached : (k : KernelState) (ec address right frame : ℕ) → IsForest k.delegations → FindsFrame k ec address right frame → frame_for (address_space k ec) right address ≡ Some frame
frame_reached k ec address right frame forest r = by_own (is_some (own_words k ec) && (address / 4096 == own_page)) refl
  where
    by_own : (t : Bool) → (is_some (own_words k ec) && (address / 4096 == own_page)) ≡ t →
        option_and_then (frame_with right) (if t then None else reach k.delegations.list (pd_of k ec) (address / 4096)) ≡ Some frame
    by_own true is = absurd (r.other (own_is k ec address true is))
    by_own false is = reached_frame k (pd_of k ec) (address / 4096) right frame forest r.leads

nowhere : (k : KernelState) (ec address right : ℕ) → IsForest k.delegations → frame_for (address_space k ec) right address ≡ None → (frame : ℕ) → FindsFrame k ec address right frame → ⊥
nowhere k ec address right forest none frame r = absurd (let both : None ≡ Some frame = sym none ∙ frame_reached k ec address right frame forest r in cc)

-- WHAT IS FOUND

pub finds : (k : KernelState) (ec address right width : ℕ) → IsForest k.delegations → Finds k ec address right width (found (address_space k ec) right address width)
finds k ec address right width forest = by_frame (frame_for (address_space k ec) right address) refl
  where
    by_frame : (o : Option ℕ) → frame_for (address_space k ec) right address ≡ o →
        Finds k ec address right width (option_map (λ frame. read_in (slice_get k.memory.ram frame) (address % 4096) width) o)
    by_frame (Some frame) is = InFrame frame (reaches_of k ec address right frame is) refl
    by_frame None is = Nowhere (nowhere k ec address right forest is) refl

-- the message words at an address, by tests
abbrev IsWords : KernelState → ℕ → ℕ → Option (List ℕ) → Type 0
IsWords k ec address (Some m) = IsOwnWord k ec address × (m ≡ message k ec)
IsWords k ec address None = IsOwnWord k ec address → ⊥

words_are : (k : KernelState) (ec address : ℕ) → IsWords k ec address (words_at (address_space k ec) address)
words_are k ec address = by_tests (address / 4096 == own_page) (nat_lt (address % 4096) message_size) (is_thread k ec) refl refl refl
  where
    by_tests : (page offset thread : Bool) → (address / 4096 == own_page) ≡ page → nat_lt (address % 4096) message_size ≡ offset → is_thread k ec ≡ thread →
        IsWords k ec address (if page && offset then (if thread then Some (message k ec) else None) else None)
    by_tests true true true p o t = (record { page = record { thread = t; page = eqb-true (address / 4096) own_page p }; offset = grind (arith, nat_tests) }, refl)
    by_tests true true false p o t = λ own. let is = own.page.thread in absurd (cc)
    by_tests true false thread p o t = λ own. let below = own.offset in absurd (grind (arith, nat_tests, below, o))
    by_tests false offset thread p o t = λ own. let at = own.page.page in absurd (grind (arith, at, p))

loads : (k : KernelState) (ec address width : ℕ) → IsForest k.delegations → Loads k ec address width ((space (address_space k ec)).load address width)
loads k ec address width forest = by_words (words_at (address_space k ec) address) (words_are k ec address)
  where
    by_words : (o : Option (List ℕ)) → IsWords k ec address o → Loads k ec address width (loaded_from (address_space k ec) address width o)
    by_words (Some m) own = OwnWords own.0 (ap (λ (l : List ℕ). Some (loaded l (address % 4096) width)) own.1)
    by_words None none = ByRead none (finds k ec address read_right width forest)

takes : (k : KernelState) (ec address width : ℕ) → IsForest k.delegations → Takes k ec address ((space (address_space k ec)).takes address width)
takes k ec address width forest =
    by_both (words_at (address_space k ec) address) (words_are k ec address) (frame_for (address_space k ec) write_right address) refl
  where
    by_both : (o : Option (List ℕ)) → IsWords k ec address o → (f : Option ℕ) → frame_for (address_space k ec) write_right address ≡ f → Takes k ec address (is_some o || is_some f)
    by_both (Some m) own f is = Taken (inl own.0) refl
    by_both None none (Some frame) is = Taken (inr (frame, reaches_of k ec address write_right frame is)) refl
    by_both None none None is = Refused none (nowhere k ec address write_right forest is) refl

pub space_is : (k : KernelState) (ec : ℕ) → IsForest k.delegations → IsSpaceOf k ec (space (address_space k ec))
space_is k ec forest = record {
  fetches = λ address. finds k ec address execute_right 4 forest;
  loads = λ address width. loads k ec address width forest;
  takes = λ address width. takes k ec address width forest;
}
