-- One append after another.
use Rattle.std.proofs.Common.{◌≡◌, ℕ, ◌+◌, ◌-◌, Bool, true, false, List, [], ◌∷◌, ◌++◌, Option, Some, None, cond, unwrap_or, take, drop, length, refl, sym, ◌∙◌, ap, append_assoc, append-nil}
use Rattle.std.proofs.Math.Seq.{take-add}
use Rattle.std.proofs.lemmas.List.{take_rest}
use Rattle.std.specs.Ordering.{nat_cmp, eq_by_cmp}
use Rattle.std.specs.Cmp.{eq_by_cmp_equiv}
use Rattle.std.specs.Cmp.Lexicographic.{slice_cmp, nat_list_cmp_total}
use Rattle.std.specs.FinMap.{get, insert, get-insert, same_map, nat_cmp-IsAntisymmetric, slice_cmp-IsAntisymmetric}
use Rattle.std.specs.Io.KnownBytes.{append_known}
use Rattle.nova_io.specs.Files.{Files, bytes_of, appended, with_appended}

abbrev same : List ℕ → List ℕ → Bool
same = eq_by_cmp (slice_cmp nat_cmp)

tied : (name : List ℕ) → same name name ≡ true
tied name = (eq_by_cmp_equiv nat_list_cmp_total).refl name

shadowed : {A : Type 0} (b : Bool) (x y z : A) → cond b x (cond b y z) ≡ cond b x z
shadowed true x y z = refl
shadowed false x y z = refl

get-insert_same : (files : Files) (name bytes : List ℕ) → get (insert files name bytes) name ≡ Some bytes
get-insert_same files name bytes = get-insert nat_list_cmp_total files name bytes name ∙ ap (λ tie. cond tie (Some bytes) (get files name)) (tied name)

bytes_of-insert : (files : Files) (name bytes : List ℕ) → bytes_of (insert files name bytes) name ≡ bytes
bytes_of-insert files name bytes = ap (λ held. unwrap_or held []) (get-insert_same files name bytes)

insert-insert : (files : Files) (name old new : List ℕ) → insert (insert files name old) name new ≡ insert files name new
insert-insert files name old new =
    same_map nat_list_cmp_total (slice_cmp-IsAntisymmetric nat_cmp-IsAntisymmetric) _ _ (λ any.
    get-insert nat_list_cmp_total (insert files name old) name new any
    ∙ ap (cond (same any name) (Some new)) (get-insert nat_list_cmp_total files name old any)
    ∙ shadowed (same any name) (Some new) (Some old) (get files any)
    ∙ sym (get-insert nat_list_cmp_total files name new any))

-- what is appended in two parts is appended as one
pub appended-append : (files : Files) (name xs ys : List ℕ) → appended (appended files name xs) name ys ≡ appended files name (xs ++ ys)
appended-append files name [] ys = refl
appended-append files name (x ∷ xs) [] = ap (λ zs. appended files name (x ∷ zs)) (sym (append-nil xs))
appended-append files name (x ∷ xs) (y ∷ ys) =
    let before = bytes_of files name ++ x ∷ xs in
    insert-insert files name before _
    ∙ ap (λ held. insert files name (held ++ y ∷ ys)) (bytes_of-insert files name before)
    ∙ ap (insert files name) (append_assoc (bytes_of files name) (x ∷ xs) (y ∷ ys))

pub with_appended-append : (files : Option Files) (name xs ys : List ℕ) → with_appended (with_appended files name xs) name ys ≡ with_appended files name (xs ++ ys)
with_appended-append None name xs ys = refl
with_appended-append (Some files) name xs ys = ap Some (appended-append files name xs ys)

pub append_known-append : (known : Option (List ℕ)) (xs ys : List ℕ) → append_known (append_known known xs) ys ≡ append_known known (xs ++ ys)
append_known-append None xs ys = refl
append_known-append (Some bytes) xs ys = ap Some (append_assoc bytes xs ys)

-- the first bytes, and then the first of the rest
take_more_of : (bytes : List ℕ) (done count : ℕ) → take done bytes ++ take count (take (length bytes - done) (drop done bytes)) ≡ take (done + count) bytes
take_more_of bytes done count = ap (λ rest. take done bytes ++ take count rest) (take_rest bytes done) ∙ sym (take-add done count bytes)

-- a turn of a loop: the first bytes were appended, and now the first of the rest
pub with_appended-more : (files between after : Option Files) (name bytes : List ℕ) (done count : ℕ)
    → between ≡ with_appended files name (take done bytes)
    → after ≡ with_appended between name (take count (take (length bytes - done) (drop done bytes)))
    → after ≡ with_appended files name (take (done + count) bytes)
with_appended-more files between after name bytes done count before taken =
    taken
    ∙ ap (λ held. with_appended held name (take count (take (length bytes - done) (drop done bytes)))) before
    ∙ with_appended-append files name (take done bytes) _
    ∙ ap (with_appended files name) (take_more_of bytes done count)

pub append_known-more : (known between after : Option (List ℕ)) (bytes : List ℕ) (done count : ℕ)
    → between ≡ append_known known (take done bytes)
    → after ≡ append_known between (take count (take (length bytes - done) (drop done bytes)))
    → after ≡ append_known known (take (done + count) bytes)
append_known-more known between after bytes done count before taken =
    taken
    ∙ ap (λ held. append_known held (take count (take (length bytes - done) (drop done bytes)))) before
    ∙ append_known-append known (take done bytes) _
    ∙ ap (append_known known) (take_more_of bytes done count)
