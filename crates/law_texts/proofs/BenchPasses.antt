-- All passes of a bench, and what comes behind them.
use Rattle.std.proofs.Common.{◌≡◌, ℕ, zero, suc, ◌+◌, ◌^◌, ◌<◌, ◌≤◌, List, [], ◌∷◌, ◌++◌, length, refl, ap, ◌∙◌, subst, arith}
use Rattle.std.specs.Prelude.{Bool, true, false, ◌&&◌, nat_lt, nat_le, filter, cond, Option, slice_get}
use Rattle.std.specs.List.{AllByRecursion}
use Rattle.rv_model.specs.Step.{decoded, one}
use Rattle.rv_model.specs.declared.instr.Instr.{Instr}
use Rattle.nova_calls.specs.Hypercalls.{call_of}
use Rattle.nova_guest.specs.Frames.{read_in}
use Rattle.law_forest.proofs.Changes.{run_forest}
use Rattle.law_forest.proofs.Members.{all_weaker}
use Rattle.nova_model.specs.AddressSpaces.{space}
use Rattle.nova_model.specs.Deeds.{address_space, deed, stepping}
use Rattle.nova_model.specs.Delegations.{covers}
use Rattle.nova_model.specs.Forest.{IsForest}
use Rattle.nova_model.specs.Memory.{Memory}
use Rattle.nova_model.specs.State.{KernelState, no_transfer}
use Rattle.nova_model.specs.Turn.{state_after}
use Rattle.nova_model.specs.declared.context.State.TheVariants.{Ready, Revoking}
use Rattle.nova_model.specs.declared.deed.Deed.{Deed}
use Rattle.nova_model.specs.declared.deed.Deed.TheVariants.{Steps, Opens, Gives, Revokes}
use Rattle.nova_model.specs.declared.delegation.Derivation.{Derivation}
use Rattle.nova_range.specs.declared.range.Kind.TheVariants.{Obj}
use Rattle.nova_objects.specs.declared.object.Object.TheVariants.{Pd}
use Rattle.law_texts.proofs.BenchStates.{Accounts, AreDomains, Tables, domains_more, own_capabilities, with_domain}
use Rattle.law_texts.proofs.BenchTurn.{IsTaken, paid_once, turn_taken}
use Rattle.law_texts.proofs.BenchMade.{IsMade, Capability, FirstPage, first_page, the_first_page, with_made}
use Rattle.law_texts.proofs.BenchPass.{HoldsCode, asking, at, call_ended, capability, counted_down, domain_opened, file, granted, left_loop, looped, made_by_now, made_next, number, number_next, opened, page_given, plain, ready_acts, selected, stepped_on, the_end, thread}
use Rattle.law_texts.proofs.BenchEnds.{Ends, turn_ends}
use Rattle.law_texts.proofs.BenchRevoke.{has_parent, revoke_order, revokes_end, revoking, scope_is}

-- LENGTHS

length_more : {T : Type 0} (xs : List T) (y : T) → length (xs ++ y ∷ []) ≡ length xs + 1
length_more [] y = refl
length_more (x ∷ xs) y = let rest = length_more xs y in omega (arith, rest)

kept_more : {T : Type 0} (p : T → Bool) (xs : List T) (y : T) → length (filter p (xs ++ y ∷ [])) ≡ length (filter p xs) + length (filter p (y ∷ []))
kept_more p [] y = omega arith
kept_more p (x ∷ xs) y = by_test (p x) (kept_more p xs y)
  where
    by_test : (b : Bool) → length (filter p (xs ++ y ∷ [])) ≡ length (filter p xs) + length (filter p (y ∷ [])) →
        length (cond b (x ∷ filter p (xs ++ y ∷ [])) (filter p (xs ++ y ∷ []))) ≡ length (cond b (x ∷ filter p xs) (filter p xs)) + length (filter p (y ∷ []))
    by_test true rest = omega (arith, rest)
    by_test false rest = rest

-- FORESTS STAY SO

forest_taken : (k new : KernelState) (d : Deed) → IsTaken k d new → IsForest k.delegations → IsForest new.delegations
forest_taken k new d is forest = subst (λ (s : KernelState). IsForest s.delegations) (ap (state_after k) is.turn) (run_forest k (0 ∷ []) forest)

-- NO PORTAL AT 23

far_from : (b : ℕ) → 64 ≤ b → (nat_le b 23 && nat_lt 23 (b + 1)) ≡ false
far_from b far = grind arith

not_at : (s n : ℕ) (x : Derivation) → IsMade s n x → covers Obj 0 23 x ≡ false
not_at s n x (Capability id selector target rights from below) = far_from selector from
not_at s n x (FirstPage id pd old from below) = refl

-- THE LAST CALL

abbrev pub rest_order : ℕ → List ℕ
rest_order n = 0 ∷ 0 ∷ 0 ∷ revoke_order n

-- how far it is: of what was made half are first pages, and as many as passes were
pub record IsBetween (words : List ℕ) (t : Tables) (rest : List Derivation) (next : ℕ) (m : Memory) (x9 pages : ℕ) : Type 0 where
  pub tables : AreDomains t
  pub code : HoldsCode m
  pub made : AllByRecursion (IsMade x9 (number t)) rest
  pub from : 64 ≤ x9
  pub old : 4 ≤ next
  pub forest : IsForest (record { list = with_made rest; next = next })
  pub half : length (filter has_parent rest) ≡ pages
  pub whole : length rest ≡ pages + pages

module _ (words : List ℕ) (t : Tables) (rest : List Derivation) (next : ℕ) (m : Memory) (x9 pages : ℕ) (is : IsBetween words t rest next m x9 pages) where
  revoke_called : (a : Accounts) (x12 : ℕ) → IsTaken (at words t rest next m is.tables is.code a 48 (file 0 x9 1 x12 7)) (Revokes the_first_page false)
      (revoking words t m is.tables is.code next (own_capabilities ++ rest) (paid_once a) 0 x9 x12)
  unfolding deed one call_of
  revoke_called a x12 =
      turn_taken a (thread Ready 48 (file 0 x9 1 x12 7)) (thread (Revoking the_first_page false) 48 (file 0 x9 1 x12 7)) words words no_transfer no_transfer t t (with_made rest) (with_made rest) next next m m
      (Revokes the_first_page false) is.tables is.tables ready_acts
      (ap (λ (i : Option Instr). stepping (at words t rest next m is.tables is.code a 48 (file 0 x9 1 x12 7)) 1 (decoded (record { pc = 48; x = file 0 x9 1 x12 7 })
      (space (address_space (at words t rest next m is.tables is.code a 48 (file 0 x9 1 x12 7)) 1)) (read_in (slice_get m.ram 0) 48 4) i)) is.code.calls_again)
      refl

  asks_revoke : (a : Accounts) (x10 x12 x17 : ℕ) → IsTaken (at words t rest next m is.tables is.code a 40 (file 0 x9 x10 x12 x17)) Steps (at words t rest next m is.tables is.code (paid_once a) 44 (file 0 x9 x10 x12 7))
  unfolding one
  asks_revoke a x10 x12 x17 =
      plain words t rest next m is.tables is.code a 40 44 (file 0 x9 x10 x12 x17) (file 0 x9 x10 x12 7)
      (ap (λ (i : Option Instr). decoded (record { pc = 40; x = file 0 x9 x10 x12 x17 }) (space (address_space (at words t rest next m is.tables is.code a 40 (file 0 x9 x10 x12 x17)) 1)) (read_in (slice_get m.ram 0) 40 4) i) is.code.revokes)

  of_the_page : (a : Accounts) (x10 x12 : ℕ) → IsTaken (at words t rest next m is.tables is.code a 44 (file 0 x9 x10 x12 7)) Steps (at words t rest next m is.tables is.code (paid_once a) 48 (file 0 x9 1 x12 7))
  unfolding one
  of_the_page a x10 x12 =
      plain words t rest next m is.tables is.code a 44 48 (file 0 x9 x10 x12 7) (file 0 x9 1 x12 7)
      (ap (λ (i : Option Instr). decoded (record { pc = 44; x = file 0 x9 x10 x12 7 }) (space (address_space (at words t rest next m is.tables is.code a 44 (file 0 x9 x10 x12 7)) 1)) (read_in (slice_get m.ram 0) 44 4) i) is.code.selects_page)

  abbrev caps : ℕ
  caps = pages + 4

  pub rest_ends : (a : Accounts) (x10 x12 x17 : ℕ) → Ends (rest_order pages) (at words t rest next m is.tables is.code a 40 (file 0 x9 x10 x12 x17)) 0 pages caps
  rest_ends a x10 x12 x17 =
      turn_ends (at words t rest next m is.tables is.code a 40 (file 0 x9 x10 x12 x17)) (at words t rest next m is.tables is.code (paid_once a) 44 (file 0 x9 x10 x12 7)) Steps (0 ∷ 0 ∷ revoke_order pages) 0 pages caps 0 pages
      (asks_revoke a x10 x12 x17) refl (omega arith) (omega arith)
      (turn_ends (at words t rest next m is.tables is.code (paid_once a) 44 (file 0 x9 x10 x12 7)) (at words t rest next m is.tables is.code (paid_once (paid_once a)) 48 (file 0 x9 1 x12 7)) Steps (0 ∷ revoke_order pages) 0 pages caps 0 pages
      (of_the_page (paid_once a) x10 x12) refl (omega arith) (omega arith)
      (turn_ends (at words t rest next m is.tables is.code (paid_once (paid_once a)) 48 (file 0 x9 1 x12 7)) (revoking words t m is.tables is.code next (own_capabilities ++ rest) (paid_once (paid_once (paid_once a))) 0 x9 x12) (Revokes the_first_page false) (revoke_order pages) 0 pages caps 0 pages
      (revoke_called (paid_once (paid_once a)) x12) refl (omega arith) (omega arith)
      (revokes_end words t m is.tables is.code next 0 x9 x12 pages (own_capabilities ++ rest) (paid_once (paid_once (paid_once a))) caps is.forest
      (refl, (refl, (refl, all_weaker (IsMade x9 (number t)) (λ x. covers Obj 0 23 x ≡ false) rest (not_at x9 (number t)) is.made)))
      (ap (λ (l : List Derivation). length l) (scope_is x9 (number t) rest is.made) ∙ is.half) (let w = is.whole in omega (arith, w)))))

-- A PASS

-- what there is behind one
abbrev pub later : Tables → List Derivation → ℕ → ℕ → List Derivation
later t rest next x9 = (rest ++ capability next x9 (number t) ∷ []) ++ first_page (next + 1) (number t) ∷ []

abbrev nine : List ℕ → List ℕ
nine order = 0 ∷ 0 ∷ 0 ∷ 0 ∷ 0 ∷ 0 ∷ 0 ∷ 0 ∷ 0 ∷ order

abbrev eight_paid : Accounts → Accounts
eight_paid a = paid_once (paid_once (paid_once (paid_once (paid_once (paid_once (paid_once (paid_once a)))))))

module _ (words : List ℕ) (t : Tables) (rest : List Derivation) (next : ℕ) (m : Memory) (x9 pages : ℕ) (is : IsBetween words t rest next m x9 pages) where
  abbrev before : Accounts → ℕ → List ℕ → KernelState
  before = at words t rest next m is.tables is.code

  abbrev behind : Accounts → ℕ → List ℕ → KernelState
  behind = at words (with_domain t) (later t rest next x9) (next + 1 + 1) m (domains_more t is.tables) is.code

  module _ (x8 : ℕ) (small : x9 + suc x8 ≤ 2 ^ 20) where
    selector : x9 < 2 ^ 20
    selector = omega (arith, small)

    abbrev asked : Accounts → KernelState
    asked a = asking words t rest next m is.tables is.code a (suc x8) x9 is.made is.from selector

    abbrev begun : Accounts → KernelState
    begun a = opened words t rest next m is.tables is.code a (suc x8) x9 is.made is.from selector

    abbrev gave : Accounts → KernelState
    gave a = granted words t rest next m is.tables is.code a (suc x8) x9 is.made is.from selector

    its_opening : (a : Accounts) → IsTaken (asked a) (Opens x9 (number t)) (begun a)
    its_opening a = domain_opened words t rest next m is.tables is.code a (suc x8) x9 is.made is.from selector

    its_page : (a : Accounts) → IsTaken (begun a) (Gives (first_page (next + 1) (number t)) 2) (gave a)
    its_page a = page_given words t rest next m is.tables is.code a (suc x8) x9 is.made is.from selector

    -- what holds between passes holds again
    pub between_again : (a : Accounts) → IsBetween words (with_domain t) (later t rest next x9) (next + 1 + 1) m (x9 + 1) (pages + 1)
    between_again a = record {
      tables = domains_more t is.tables;
      code = is.code;
      made = subst (λ (n : ℕ). AllByRecursion (IsMade (x9 + 1) n) (later t rest next x9)) numbered
          (made_by_now words t rest next m is.tables is.code a (suc x8) x9 is.made is.from selector is.old);
      from = let f = is.from in omega (arith, f);
      old = let o = is.old in omega (arith, o);
      forest = forest_taken (begun a) (gave a) (Gives (first_page (next + 1) (number t)) 2) (its_page a) (forest_taken (asked a) (begun a) (Opens x9 (number t)) (its_opening a) is.forest);
      half = kept_more has_parent (rest ++ capability next x9 (number t) ∷ []) (first_page (next + 1) (number t))
          ∙ (let first = kept_more has_parent rest (capability next x9 (number t)) in let h = is.half in omega (arith, first, h));
      whole = length_more (rest ++ capability next x9 (number t) ∷ []) (first_page (next + 1) (number t))
          ∙ (let first = length_more rest (capability next x9 (number t)) in let w = is.whole in omega (arith, first, w));
    }
      where
        numbered : number t + 1 ≡ number (with_domain t)
        numbered = let one = length_more t.objects Pd in omega (arith, one)

    -- the eight turns before the branch
    pub pass_ends : (a : Accounts) (x10 x12 x17 : ℕ) (order : List ℕ) (made gone caps : ℕ) → Ends order (behind (eight_paid a) 36 (file x8 (x9 + 1) 0 5 2)) made gone caps →
        Ends (0 ∷ 0 ∷ 0 ∷ 0 ∷ 0 ∷ 0 ∷ 0 ∷ 0 ∷ order) (before a 12 (file (suc x8) x9 x10 x12 x17)) (made + 1) gone caps
    pass_ends a x10 x12 x17 order made gone caps ends =
        let a1 : Accounts = paid_once a in
        let a2 : Accounts = paid_once a1 in
        let a3 : Accounts = paid_once a2 in
        let a6 : Accounts = paid_once (paid_once (paid_once a3)) in
        let a7 : Accounts = paid_once a6 in
        turn_ends (before a 12 (file (suc x8) x9 x10 x12 x17)) (before a1 16 (file (suc x8) x9 x10 x12 2)) Steps (0 ∷ 0 ∷ 0 ∷ 0 ∷ 0 ∷ 0 ∷ 0 ∷ order) (made + 1) gone caps (made + 1) gone
        (made_next words t rest next m is.tables is.code a (suc x8) x9 x10 x12 x17) refl (omega arith) (omega arith)
        (turn_ends (before a1 16 (file (suc x8) x9 x10 x12 2)) (before a2 20 (file (suc x8) x9 x9 x12 2)) Steps (0 ∷ 0 ∷ 0 ∷ 0 ∷ 0 ∷ 0 ∷ order) (made + 1) gone caps (made + 1) gone
        (selected words t rest next m is.tables is.code a1 (suc x8) x9 x10 x12 2 (omega (arith, small))) refl (omega arith) (omega arith)
        (turn_ends (before a2 20 (file (suc x8) x9 x9 x12 2)) (asked a3) Steps (0 ∷ 0 ∷ 0 ∷ 0 ∷ 0 ∷ order) (made + 1) gone caps (made + 1) gone
        (number_next words t rest next m is.tables is.code a2 (suc x8) x9 x9 x12 2) refl (omega arith) (omega arith)
        (turn_ends (asked a3) (begun a3) (Opens x9 (number t)) (0 ∷ 0 ∷ 0 ∷ 0 ∷ order) (made + 1) gone caps (made + 1) gone (its_opening a3) refl (omega arith) (omega arith)
        (turn_ends (begun a3) (gave a3) (Gives (first_page (next + 1) (number t)) 2) (0 ∷ 0 ∷ 0 ∷ order) made gone caps (made + 1) gone (its_page a3) refl (omega arith) (omega arith)
        (turn_ends (gave a3) (behind a6 28 (file (suc x8) x9 0 5 2)) (the_end words t rest next m is.tables is.code a3 (suc x8) x9 is.made is.from selector) (0 ∷ 0 ∷ order) made gone caps made gone
        (call_ended words t rest next m is.tables is.code a3 (suc x8) x9 is.made is.from selector is.old) refl (omega arith) (omega arith)
        (turn_ends (behind a6 28 (file (suc x8) x9 0 5 2)) (behind a7 32 (file (suc x8) (x9 + 1) 0 5 2)) Steps (0 ∷ order) made gone caps made gone
        (stepped_on words (with_domain t) (later t rest next x9) (next + 1 + 1) m (domains_more t is.tables) is.code a6 (suc x8) x9 0 5 2 (omega (arith, small))) refl (omega arith) (omega arith)
        (turn_ends (behind a7 32 (file (suc x8) (x9 + 1) 0 5 2)) (behind (eight_paid a) 36 (file x8 (x9 + 1) 0 5 2)) Steps order made gone caps made gone
        (counted_down words (with_domain t) (later t rest next x9) (next + 1 + 1) m (domains_more t is.tables) is.code a7 x8 (x9 + 1) 0 5 2 (omega (arith, small))) refl (omega arith) (omega arith)
        ends)))))))

-- ALL PASSES

-- as many passes as the number says, behind those that were
abbrev pub pass_order : ℕ → ℕ → List ℕ
pass_order zero pages = rest_order pages
pass_order (suc j) pages = nine (pass_order j (pages + 1))

pub passes_end : (j : ℕ) (words : List ℕ) (t : Tables) (rest : List Derivation) (next : ℕ) (m : Memory) (x9 pages : ℕ) (is : IsBetween words t rest next m x9 pages) (a : Accounts) (x10 x12 x17 : ℕ) → x9 + suc j ≤ 2 ^ 20 →
    Ends (pass_order (suc j) pages) (at words t rest next m is.tables is.code a 12 (file (suc j) x9 x10 x12 x17)) (suc j) (pages + suc j) (pages + suc j + 4)
passes_end zero words t rest next m x9 pages is a x10 x12 x17 small =
    pass_ends words t rest next m x9 pages is 0 small a x10 x12 x17 (0 ∷ rest_order (pages + 1)) 0 (pages + 1) (pages + 1 + 4)
    (turn_ends (behind words t rest next m x9 pages is (eight_paid a) 36 (file 0 (x9 + 1) 0 5 2)) (behind words t rest next m x9 pages is (paid_once (eight_paid a)) 40 (file 0 (x9 + 1) 0 5 2)) Steps
    (rest_order (pages + 1)) 0 (pages + 1) (pages + 1 + 4) 0 (pages + 1)
    (left_loop words (with_domain t) (later t rest next x9) (next + 1 + 1) m (domains_more t is.tables) is.code (eight_paid a) 0 (x9 + 1) 0 5 2) refl (omega arith) (omega arith)
    (rest_ends words (with_domain t) (later t rest next x9) (next + 1 + 1) m (x9 + 1) (pages + 1) (between_again words t rest next m x9 pages is 0 small a) (paid_once (eight_paid a)) 0 5 2))
passes_end (suc j) words t rest next m x9 pages is a x10 x12 x17 small =
    let again = between_again words t rest next m x9 pages is (suc j) small a in
    let more : Ends (pass_order (suc j) (pages + 1)) (behind words t rest next m x9 pages is (paid_once (eight_paid a)) 12 (file (suc j) (x9 + 1) 0 5 2)) (suc j) (pages + 1 + suc j) (pages + 1 + suc j + 4) =
    passes_end j words (with_domain t) (later t rest next x9) (next + 1 + 1) m (x9 + 1) (pages + 1) again (paid_once (eight_paid a)) 0 5 2 (omega (arith, small)) in
    let same : pages + 1 + suc j ≡ pages + suc (suc j) = omega arith in
    subst (λ (n : ℕ). Ends (pass_order (suc (suc j)) pages) (at words t rest next m is.tables is.code a 12 (file (suc (suc j)) x9 x10 x12 x17)) (suc (suc j)) n (n + 4)) same
    (subst (λ (n : ℕ). Ends (pass_order (suc (suc j)) pages) (at words t rest next m is.tables is.code a 12 (file (suc (suc j)) x9 x10 x12 x17)) n (pages + 1 + suc j) (pages + 1 + suc j + 4)) (let two : suc j + 1 ≡ suc (suc j) = omega arith in two)
    (pass_ends words t rest next m x9 pages is (suc j) small a x10 x12 x17 (0 ∷ pass_order (suc j) (pages + 1)) (suc j) (pages + 1 + suc j) (pages + 1 + suc j + 4)
    (turn_ends (behind words t rest next m x9 pages is (eight_paid a) 36 (file (suc j) (x9 + 1) 0 5 2)) (behind words t rest next m x9 pages is (paid_once (eight_paid a)) 12 (file (suc j) (x9 + 1) 0 5 2)) Steps
    (pass_order (suc j) (pages + 1)) (suc j) (pages + 1 + suc j) (pages + 1 + suc j + 4) (suc j) (pages + 1 + suc j)
    (looped words (with_domain t) (later t rest next x9) (next + 1 + 1) m (domains_more t is.tables) is.code (eight_paid a) j (x9 + 1) 0 5 2) refl (omega arith) (omega arith)
    more)))
