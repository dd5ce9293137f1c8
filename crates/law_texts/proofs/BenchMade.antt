-- What a bench has made, and what is asked of delegations and contexts beside it.
use Rattle.std.proofs.Common.{◌≡◌, ℕ, zero, suc, ◌+◌, ◌<◌, ◌≤◌, List, [], ◌∷◌, ◌++◌, length, refl, ap, ◌∙◌, arith}
use Rattle.std.specs.Prelude.{Bool, true, false, ◌==◌, ◌&&◌, nat_lt, nat_le, filter, Option, Some, None, slice_get, option_and_then}
use Rattle.std.specs.List.{AllByRecursion, cons_option, filter_map, find, list_any, range_with_len}
use Rattle.law_forest.proofs.Members.{all_weaker}
use Rattle.nova_model.specs.Delegations.{covers, is_held_in, meets}
use Rattle.nova_model.specs.Running.{revoke_of, revoke_by, running, running_of}
use Rattle.nova_model.specs.State.{KernelState, entry, pd_of}
use Rattle.nova_model.specs.Transfers.{is_left, next_source}
use Rattle.nova_model.specs.declared.context.EcState.{EcState}
use Rattle.nova_model.specs.declared.delegation.Derivation.{Derivation}
use Rattle.nova_model.specs.declared.transfer.Job.{Job}
use Rattle.nova_range.specs.declared.range.Kind.TheVariants.{Mem, Obj}
use Rattle.nova_range.specs.declared.range.Range.{Range}
use Rattle.nova_range.specs.declared.rights.Rights.{Rights}
use Rattle.nova_model.specs.Memory.{Memory}
use Rattle.nova_model.specs.Revokes.{Revocation}
use Rattle.nova_model.specs.declared.transfer.Transfer.{Transfer}
use Rattle.law_texts.proofs.BenchStates.{Accounts, AreDomains, IsNone, Tables, held, kernel, own_capabilities, ram_pages}

-- a domain's first page, of the root's RAM
abbrev pub first_page : ℕ → ℕ → Derivation
first_page id pd =
    record { id = id; pd = pd; kind = Mem; base = 0; order = 0; rights = record { 0 = 1 }; target = 0; parent = Some 0 }

-- the range of a first page, and the item that gives it, from a cursor on
abbrev pub the_first_page : Range
the_first_page = record { kind = Mem; base = 0; order = 0 }

abbrev pub first_job : ℕ → ℕ → Job
first_job receiver cursor =
    record { giver = 0; receiver = receiver; kind = Mem; source = 0; dest = 0; order = 0; rights = record { 0 = 1 }; cursor = cursor }

-- made by a bench: a capability of a domain at a selector from 64 to before the next, or the first page of a domain
pub data IsMade (selectors domains : ℕ) : Derivation → Type 0 where
  Capability : (id selector target : ℕ) (rights : Rights) → 64 ≤ selector → selector < selectors → IsMade selectors domains (held id selector 0 target rights)
  FirstPage : (id pd : ℕ) → 4 ≤ id → 3 ≤ pd → pd < domains → IsMade selectors domains (first_page id pd)

pub still_made : (s d s' d' : ℕ) → s ≤ s' → d ≤ d' → (x : Derivation) → IsMade s d x → IsMade s' d' x
still_made s d s' d' more_s more_d x (Capability id selector target rights from below) = Capability id selector target rights from (omega (arith, more_s, below))
still_made s d s' d' more_s more_d x (FirstPage id pd old from below) = FirstPage id pd old from (omega (arith, more_d, below))

-- tests of places, of order 0
lies_before : (b at : ℕ) → b < at → (nat_le b at && nat_lt at (b + 1)) ≡ false
lies_before b at less = grind arith

pub differ : (a b : ℕ) → a < b → (a == b) ≡ false
differ a b less = grind arith

pub differ_too : (a b : ℕ) → b < a → (a == b) ≡ false
differ_too a b less = grind arith

pub is_less : (a b : ℕ) → a < b → nat_lt a b ≡ true
is_less a b less = grind arith

pub find_none : {T : Type 0} (p : T → Bool) (xs : List T) → AllByRecursion (λ x. p x ≡ false) xs → find p xs ≡ None
find_none p [] all = refl
find_none p (x ∷ xs) all = rw all.0 (find_none p xs all.1)

pub filter_nothing : {T : Type 0} (p : T → Bool) (xs : List T) → AllByRecursion (λ x. p x ≡ false) xs → filter p xs ≡ []
filter_nothing p [] all = refl
filter_nothing p (x ∷ xs) all = rw all.0 (filter_nothing p xs all.1)

pub any_nothing : {T : Type 0} (p : T → Bool) (xs : List T) → AllByRecursion (λ x. p x ≡ false) xs → list_any p xs ≡ false
any_nothing p [] all = refl
any_nothing p (x ∷ xs) all = rw all.0 (any_nothing p xs all.1)

-- all derivations: RAM, the root's capabilities, and what was made
abbrev pub with_made : List Derivation → List Derivation
with_made rest = ram_pages ∷ (own_capabilities ++ rest)

module _ (s n : ℕ) (rest : List Derivation) (all : AllByRecursion (IsMade s n) rest) where
  -- NO SELECTOR BEHIND THEM IS HELD

  selector_free : (x : Derivation) → IsMade s n x → covers Obj 0 s x ≡ false
  selector_free x (Capability id selector target rights from below) = lies_before selector s below
  selector_free x (FirstPage id pd old from below) = refl

  pub none_at : 64 ≤ s → find (covers Obj 0 s) (with_made rest) ≡ None
  none_at from =
      find_none (covers Obj 0 s) (with_made rest) (
        refl,
        (
          lies_before 0 s (omega (arith, from)),
          (
            lies_before 1 s (omega (arith, from)),
            (
              lies_before 2 s (omega (arith, from)),
              all_weaker (IsMade s n) (λ x. covers Obj 0 s x ≡ false) rest selector_free all,
            ),
          ),
        ),
      )

  -- THE ROOT'S RAM IS ALL THAT IS GIVEN

  not_left : (receiver cursor : ℕ) (x : Derivation) → IsMade s n x → is_left (first_job receiver cursor) x ≡ false
  not_left receiver cursor x (Capability id selector target rights from below) = refl
  not_left receiver cursor x (FirstPage id pd old from below) = rw (differ_too pd 0 (omega (arith, from))) refl

  abbrev rest_left : (receiver cursor : ℕ) → AllByRecursion (λ x. is_left (first_job receiver cursor) x ≡ false) rest
  rest_left receiver cursor = all_weaker (IsMade s n) (λ x. is_left (first_job receiver cursor) x ≡ false) rest (not_left receiver cursor) all

  pub ram_is_next : (receiver : ℕ) → next_source (with_made rest) (first_job receiver 0) ≡ Some ram_pages
  ram_is_next receiver = rw (filter_nothing (is_left (first_job receiver 0)) rest (rest_left receiver 0)) refl

  pub none_is_next : (receiver : ℕ) → next_source (with_made rest) (first_job receiver 2) ≡ None
  none_is_next receiver = rw (filter_nothing (is_left (first_job receiver 2)) rest (rest_left receiver 2)) refl

  -- A NEW DOMAIN HOLDS NOTHING

  not_met : (x : Derivation) → IsMade s n x → meets n the_first_page x ≡ false
  not_met x (Capability id selector target rights from below) = refl
  not_met x (FirstPage id pd old from below) = rw (differ pd n below) refl

  pub none_held : 0 < n → is_held_in (with_made rest) n the_first_page ≡ false
  none_held some =
      rw (differ 0 n some) (any_nothing (meets n the_first_page) rest (all_weaker (IsMade s n) (λ x. meets n the_first_page x ≡ false) rest not_met all))

-- NO REVOKE RUNS

no_context : (cs : List (Option EcState)) (i : ℕ) → AllByRecursion IsNone cs → entry (slice_get cs i) ≡ None
no_context [] i all = refl
no_context (c ∷ cs) zero all = all.0
no_context (c ∷ cs) (suc i) all = no_context cs i all.1

module _ (a : Accounts) (x : EcState) (words : List ℕ) (transfer : Transfer) (t : Tables) (list : List Derivation) (next : ℕ) (m : Memory) (are : AreDomains t) where
  abbrev k : KernelState
  k = kernel a x words transfer t list next m

  no_revoke : (e : ℕ) → 3 ≤ e → revoke_of k e ≡ None
  no_revoke zero far = absurd (omega (arith, far))
  no_revoke (suc zero) far = absurd (omega (arith, far))
  no_revoke (suc (suc zero)) far = absurd (omega (arith, far))
  no_revoke (suc (suc (suc i))) far =
      ap (λ (o : Option EcState). option_and_then (λ (y : EcState). revoke_by (pd_of k (suc (suc (suc i)))) y.state) o) (no_context t.contexts i are.contexts)

  none_from : (e len : ℕ) → 3 ≤ e → filter_map (λ ec. running_of ec (revoke_of k ec)) (range_with_len e len) ≡ []
  none_from e zero far = refl
  none_from e (suc len) far =
      ap (λ (o : Option Revocation). cons_option (running_of e o) (filter_map (λ ec. running_of ec (revoke_of k ec)) (range_with_len (e + 1) len))) (no_revoke e far)
      ∙ none_from (e + 1) len (omega (arith, far))

  pub none_running : revoke_by 0 x.state ≡ None → running k ≡ []
  none_running calm =
      ap (λ (o : Option Revocation). cons_option (running_of 1 o) (filter_map (λ ec. running_of ec (revoke_of k ec)) (range_with_len 3 (length t.contexts)))) calm
      ∙ none_from 3 (length t.contexts) (omega arith)
