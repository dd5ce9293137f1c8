-- The domains that see a frame, from derivation to derivation, and what is remembered of frames.
use Rattle.std.proofs.Common.{◌≡◌, ◌∙◌, refl, sym, ap, ℕ, zero, suc, ◌+◌, ◌<◌, ◌≤◌, Bool, true, false, List, [], ◌∷◌, arith}
use Rattle.std.specs.Prelude.{◌==◌, ◌^◌, nat_le, nat_lt, ◌&&◌, ◌||◌, map, replicate, slice_get, slice_set, Option, Some, None, IfSome, if◌then◌else◌}
use Rattle.std.specs.Bool.{OnTrue}
use Rattle.std.specs.List.{AllByRecursion, list_any}
use Rattle.nova_model.specs.Delegations.{is_memory}
use Rattle.nova_model.specs.Inputs.{leads_to}
use Rattle.nova_model.specs.State.{entry}
use Rattle.nova_model.specs.declared.delegation.Derivation.{Derivation}
use Rattle.nova_memory.specs.declared.sights.Sight.{Sight}
use Rattle.nova_memory.specs.declared.viewers.Viewers.{Viewers}
use Rattle.nova_memory.specs.Sights.{AreSeen, AreViewers, IsBlank, reaches, sees, shown_at}

-- WHAT IS REMEMBERED

-- at a later version nothing is known
pub blank_later : (old new : ℕ) (xs : List Sight) → old < new → AllByRecursion (λ x. x.version ≤ old) xs → IsBlank (map (shown_at new) xs)
blank_later old new [] later all frame = refl
blank_later old new (x ∷ xs) later all zero =
    let low = all.0 in
    let off : (x.version == new) ≡ false = grind (arith, low, later) in
    ap (λ (b : Bool). entry (Some (if b then x.viewers else None))) off
blank_later old new (x ∷ xs) later all (suc n) = blank_later old new xs later all.1 n

-- nor at the start
abbrev pub first : Sight
first = record { version = 0; viewers = None }

pub blank_first : (n : ℕ) → IsBlank (map (shown_at 0) (replicate n first))
blank_first zero frame = refl
blank_first (suc n) zero = refl
blank_first (suc n) (suc frame) = blank_first n frame

-- what is noted is known
pub shown_set : (version n : ℕ) (xs : List Sight) (v : Option Viewers) →
    map (shown_at version) (slice_set xs n (record { version = version; viewers = v })) ≡ slice_set (map (shown_at version) xs) n v
shown_set version n [] v = refl
shown_set version zero (x ∷ xs) v =
    let same : (version == version) ≡ true = grind arith in
    ap (λ (b : Bool). (if b then v else None) ∷ map (shown_at version) xs) same
shown_set version (suc n) (x ∷ xs) v = ap (λ (l : List (Option Viewers)). shown_at version x ∷ l) (shown_set version n xs v)

-- where nothing is known it is so
pub blank_seen : (list : List Derivation) (s : List (Option Viewers)) → IsBlank s → AreSeen list s
blank_seen list s blank frame = rw (blank frame) tt

-- one more frame is known
pub seen_set : (list : List Derivation) (s : List (Option Viewers)) (n : ℕ) (v : Option Viewers) → AreSeen list s → IfSome v (AreViewers list n) → AreSeen list (slice_set s n v)
seen_set list s n v seen is = go n s (λ f. AreViewers list f) seen is
  where
    go : (n : ℕ) (s : List (Option Viewers)) (P : ℕ → Viewers → Type 0) → ((f : ℕ) → IfSome (entry (slice_get s f)) (P f)) → IfSome v (P n) →
        (f : ℕ) → IfSome (entry (slice_get (slice_set s n v) f)) (P f)
    go n [] P h i f = h f
    go zero (x ∷ xs) P h i zero = i
    go zero (x ∷ xs) P h i (suc f) = h (suc f)
    go (suc n) (x ∷ xs) P h i zero = h zero
    go (suc n) (x ∷ xs) P h i (suc f) = go n xs (λ g. P (suc g)) (λ g. h (suc g)) i f

pub known_of : (list : List Derivation) (s : List (Option Viewers)) (frame : ℕ) (o : Option Viewers) → o ≡ entry (slice_get s frame) → AreSeen list s → IfSome o (AreViewers list frame)
known_of list s frame o is seen = rw is (seen frame)

-- WHICH DOMAINS SEE IT

parted : (m e i : Bool) → ((m && e) && i) ≡ ((m && i) && e)
parted true true true = refl
parted true true false = refl
parted true false true = refl
parted true false false = refl
parted false e i = refl

-- a derivation leads there for its own domain alone
pub leads_by : (pd frame : ℕ) (d : Derivation) (t : Bool) → t ≡ reaches frame d → leads_to pd frame d ≡ (t && (d.pd == pd))
leads_by pd frame d t is = parted (is_memory d.kind) (d.pd == pd) (nat_le d.target frame && nat_lt frame (d.target + 2 ^ d.order)) ∙ ap (λ (b : Bool). b && (d.pd == pd)) (sym is)

or_none : (b : Bool) → b ≡ (b || false)
or_none true = refl
or_none false = refl

pub none_joins : (v : Viewers) (pd frame : ℕ) (d : Derivation) (t : Bool) → t ≡ reaches frame d → t ≡ false → sees v pd ≡ (sees v pd || leads_to pd frame d)
none_joins v pd frame d t is off =
    or_none (sees v pd) ∙ ap (λ (b : Bool). sees v pd || b) (sym (leads_by pd frame d t is ∙ ap (λ (b : Bool). b && (d.pd == pd)) off))

pub one_joins : (old new : Viewers) (frame : ℕ) (d : Derivation) (t r : Bool) → t ≡ reaches frame d → t ≡ true →
    OnTrue r ((pd : ℕ) → sees new pd ≡ (sees old pd || d.pd == pd)) → OnTrue r ((pd : ℕ) → sees new pd ≡ (sees old pd || leads_to pd frame d))
one_joins old new frame d t false is on added = tt
one_joins old new frame d t true is on added = λ pd.
    added pd ∙ ap (λ (b : Bool). sees old pd || b) (sym (leads_by pd frame d t is ∙ ap (λ (b : Bool). b && (d.pd == pd)) on))

or_assoc : (a b c : Bool) → ((a || b) || c) ≡ (a || (b || c))
or_assoc true b c = refl
or_assoc false b c = refl

pub is_joined : (P : Type 0) (t : Bool) → OnTrue t P → t ≡ true → P
is_joined P true h is = h
is_joined P false h is = absurd cc

-- the domains so far, and those of the derivations that are left
abbrev pub IsLeft : List Derivation → List Derivation → ℕ → Viewers → Type 0
IsLeft list left frame v = (pd : ℕ) → (sees v pd || list_any (leads_to pd frame) left) ≡ list_any (leads_to pd frame) list

pub one_further : (list left rest : List Derivation) (frame : ℕ) (old new : Viewers) (d : Derivation) → IsLeft list left frame old → left ≡ d ∷ rest →
    ((pd : ℕ) → sees new pd ≡ (sees old pd || leads_to pd frame d)) → IsLeft list rest frame new
one_further list left rest frame old new d before first added pd =
    ap (λ (b : Bool). b || list_any (leads_to pd frame) rest) (added pd)
    ∙ or_assoc (sees old pd) (leads_to pd frame d) (list_any (leads_to pd frame) rest)
    ∙ sym (ap (λ (l : List Derivation). sees old pd || list_any (leads_to pd frame) l) first) ∙ before pd

pub all_left : (list left : List Derivation) (frame : ℕ) (v : Viewers) → ((pd : ℕ) → sees v pd ≡ false) → left ≡ list → IsLeft list left frame v
all_left list left frame v none is pd =
    ap (λ (b : Bool). b || list_any (leads_to pd frame) left) (none pd) ∙ ap (λ (l : List Derivation). list_any (leads_to pd frame) l) is

pub none_left : (list left : List Derivation) (frame : ℕ) (v : Viewers) → IsLeft list left frame v → left ≡ [] → AreViewers list frame v
none_left list left frame v before is pd =
    sym (or_none (sees v pd) ∙ sym (ap (λ (l : List Derivation). sees v pd || list_any (leads_to pd frame) l) is) ∙ before pd)
