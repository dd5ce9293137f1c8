-- One piece after another.
use Rattle.std.proofs.Common.{◌≡◌, ℕ, ◌+◌, ◌<◌, ◌≤◌, inr, List, [], ◌++◌, Option, Some, None, IfSome, take, drop, length, refl, sym, ◌∙◌, ap, ap₂, subst, length-append, length-take-le, take_all, arith}
use Rattle.std.proofs.Math.Seq.{take-add}
use Rattle.std.specs.Prelude.{Bool, true, false, IsSome, Result, Ok, Err, IsErrAnd, unwrap_or}
use Rattle.std.specs.FinMap.{get}
use Rattle.std.specs.Io.{StartsWith}
use Rattle.nova_io.specs.Files.{Files, bytes_of}
use Rattle.nova_io.specs.Fetched.{IsPiece, Gave, FetchFailed, Came, CameWhole, CameInPart, Nothing, Piece, IsNext, IsNextPiece, OnlyFetched}
use Rattle.nova_io.specs.declared.faults.FetchFault.{FetchFault}
use Rattle.nova_io.specs.declared.faults.FetchFault.TheVariants.{Failed, TooLong, Memory}
use Rattle.nova_io.proofs.Counts.{stay_again, others_stay_again}

-- what begins with some bytes, and goes on with a piece, begins with both
pub StartsWith-append : (whole bytes piece : List ℕ) → StartsWith whole bytes → StartsWith (drop (length bytes) whole) piece → StartsWith whole (bytes ++ piece)
StartsWith-append whole bytes piece front more =
    ap (λ n. take n whole) (length-append bytes piece) ∙ take-add (length bytes) (length piece) whole ∙ ap₂ ◌++◌ front more

-- A PIECE

both : (files : Option Files) (P Q : Files → Type 0) → IfSome files P → IfSome files Q → IfSome files (λ held. P held × Q held)
both None P Q p q = tt
both (Some held) P Q p q = (p, q)

-- the first bytes of a buffer came, as many as are said
pub next-piece : {D : Type 0} (gave : Gave D) (files : Option Files) (name : List ℕ) (most : ℕ) (before after : D) (bytes buffer : List ℕ) (count at : ℕ)
    → at ≡ length bytes → 0 < length buffer → length bytes + length buffer ≤ most + 1 → count ≤ length buffer
    → gave before name at (length buffer) (take count buffer) after
    → IfSome files (λ held. IsSome (get held name))
    → IfSome files (λ held. IsPiece (bytes_of held name) at (length buffer) (take count buffer))
    → IsNextPiece gave files name most before bytes (take count buffer) after
next-piece gave files name most before after bytes buffer count at place some few within given there piece =
    let size : length (take count buffer) ≡ count = length-take-le count buffer within in
    record {
      asked = length buffer;
      some = some;
      few = few;
      within = omega (arith, size, within);
      given = subst (λ n. gave before name n (length buffer) (take count buffer) after) place given;
      told = both files (λ held. IsSome (get held name)) (λ held. IsPiece (bytes_of held name) (length bytes) (length buffer) (take count buffer)) there
          (subst (λ n. IfSome files (λ held. IsPiece (bytes_of held name) n (length buffer) (take count buffer))) place piece);
    }

-- the whole of a file came that a fetch from its end gives nothing more of
whole-of : (files : Option Files) (name bytes : List ℕ) (asked : ℕ) → IfSome files (λ held. StartsWith (bytes_of held name) bytes) → 0 < asked
    → IfSome files (λ held. IsSome (get held name) × IsPiece (bytes_of held name) (length bytes) asked [])
    → IfSome files (λ held. get held name ≡ Some bytes)
whole-of None name bytes asked front some told = tt
whole-of (Some held) name bytes asked front some told = by_file (get held name) refl
  where
    by_file : (file : Option (List ℕ)) → get held name ≡ file → get held name ≡ Some bytes
    by_file None is = absurd (let none = told.0 in cc)
    by_file (Some all) is =
        let same : bytes_of held name ≡ all = ap (λ (o : Option (List ℕ)). unwrap_or o []) is in
        let end = told.1.empty refl in
        let short : length (bytes_of held name) ≤ length bytes = grind (arith, end, some) in
        is ∙ ap (λ (l : List ℕ). Some l) (sym same ∙ (sym (take_all (length bytes) (bytes_of held name) short) ∙ front))

-- THE COUNTS

module _ {D : Type 0} (files : D → Option Files) (fetch_faults append_faults : D → List ℕ → ℕ) (name : List ℕ) where
  pub only-none : (first : D) → OnlyFetched files fetch_faults append_faults name first first
  only-none first = record { same = refl; fetches = λ any. omega arith; others = λ other. inr refl; appends = λ any. refl }

  pub only-again : (first between last : D) → OnlyFetched files fetch_faults append_faults name first between → OnlyFetched files fetch_faults append_faults name between last →
      OnlyFetched files fetch_faults append_faults name first last
  only-again first between last a b = record {
    same = b.same ∙ a.same;
    fetches = λ any. (let one = a.fetches any in let two = b.fetches any in omega (arith, one, two));
    others = others_stay_again fetch_faults name first between last a.others b.others;
    appends = stay_again (append_faults first) (append_faults between) (append_faults last) a.appends b.appends;
  }

pub fault_is : {A : Type 0} (r : Result A FetchFault) (e f : FetchFault) → IsErrAnd r (λ x. x ≡ e) → r ≡ Err f → e ≡ f
fault_is (Ok x) e f h is = absurd h
fault_is (Err x) e f h is = cc

-- A TURN OF THE LOOP: these bytes came, and then what is next

module _ {D : Type 0} (gave : Gave D) (failed : FetchFailed D) (files told : Option Files) (name : List ℕ) (most : ℕ) (first before after : D) (bytes new : List ℕ)
    (same : told ≡ files) where
  abbrev Next : Result Bool FetchFault → Type 0
  Next r = IsNext gave failed told name most before bytes after new r

  abbrev Front : List ℕ → Type 0
  Front all = IfSome files (λ held. StartsWith (bytes_of held name) all)

  pub more-few : (more : Bool) → Next (Ok more) → more ≡ true → length new ≤ most + 1
  more-few true next is =
      let size : length new ≡ length bytes + length next.0 = ap length next.3 ∙ length-append bytes next.0 in
      let few = next.1.few in
      let within = next.1.within in
      omega (arith, size, few, within)
  more-few false next is = absurd (cc)

  pub more-some : (more : Bool) → Next (Ok more) → more ≡ true → length bytes < length new
  more-some true next is =
      let size : length new ≡ length bytes + length next.0 = ap length next.3 ∙ length-append bytes next.0 in
      let some = next.2 in
      omega (arith, size, some)
  more-some false next is = absurd (cc)

  longer-front : (held : Option Files) (piece : List ℕ) (asked : ℕ) → IfSome held (λ h. StartsWith (bytes_of h name) bytes)
      → IfSome held (λ h. IsSome (get h name) × IsPiece (bytes_of h name) (length bytes) asked piece) → IfSome held (λ h. StartsWith (bytes_of h name) (bytes ++ piece))
  longer-front None piece asked front more = tt
  longer-front (Some h) piece asked front more = StartsWith-append (bytes_of h name) bytes piece front more.1.follows

  pub more-front : Front bytes → (more : Bool) → Next (Ok more) → more ≡ true → Front new
  more-front front true next is =
      subst Front (sym next.3)
      (longer-front files next.0 next.1.asked front
      (subst (λ (o : Option Files). IfSome o (λ held. IsSome (get held name) × IsPiece (bytes_of held name) (length bytes) next.1.asked next.0)) same next.1.told))
  more-front front false next is = absurd (cc)

  pub more-came : Came gave name first bytes before → (more : Bool) → Next (Ok more) → more ≡ true → Came gave name first new after
  more-came came true next is =
      subst (λ all. Came gave name first all after) (sym next.3) (Piece bytes next.0 next.1.asked before after came next.2 next.1.within next.1.given)
  more-came came false next is = absurd (cc)

  -- the end
  pub ends-few : (more : Bool) → Next (Ok more) → more ≡ false → length bytes ≤ most → length new ≤ most
  ends-few true next is few = absurd (cc)
  ends-few false next is few = let size : length new ≡ length bytes = ap length next.1 in omega (arith, size, few)

  pub ends-whole : Front bytes → (more : Bool) → Next (Ok more) → more ≡ false → IfSome files (λ held. get held name ≡ Some new)
  ends-whole front true next is = absurd (cc)
  ends-whole front false next is =
      subst (λ all. IfSome files (λ held. get held name ≡ Some all)) (sym next.1)
      (whole-of files name bytes next.0.asked front next.0.some
      (subst (λ (o : Option Files). IfSome o (λ held. IsSome (get held name) × IsPiece (bytes_of held name) (length bytes) next.0.asked [])) same next.0.told))

  pub ends-came : Came gave name first bytes before → (more : Bool) → Next (Ok more) → more ≡ false → CameWhole gave name first new after
  ends-came came true next is = absurd (cc)
  ends-came came false next is =
      subst (λ all. CameWhole gave name first all after) (sym next.1) (before, next.0.asked, came, next.0.some, next.0.given)

  -- a fault
  pub not-long : (e : FetchFault) → Next (Err e) → e ≡ TooLong → ⊥
  not-long Failed next is = cc
  not-long TooLong next is = next
  not-long Memory next is = cc

  pub part-came : Came gave name first bytes before → length bytes ≤ most → (e : FetchFault) → Next (Err e) → e ≡ Failed
      → (all : List ℕ) × CameInPart gave failed name first all after × (length all ≤ most)
  part-came came few Failed next is = (bytes, (before, next.0, came, next.1, next.2), few)
  part-came came few TooLong next is = absurd next
  part-came came few Memory next is = absurd (cc)

  pub some-came : Came gave name first bytes before → (e : FetchFault) → Next (Err e) → e ≡ Memory
      → (all : List ℕ) × Came gave name first all after × (0 < length all) × (length all ≤ most + 1)
  some-came came Failed next is = absurd (cc)
  some-came came TooLong next is = absurd next
  some-came came Memory next is =
      let size : length (bytes ++ next.0) ≡ length bytes + length next.0 = length-append bytes next.0 in
      let few = next.1.few in
      let within = next.1.within in
      let some = next.2 in
      (bytes ++ next.0, Piece bytes next.0 next.1.asked before after came next.2 next.1.within next.1.given, omega (arith, size, some), omega (arith, size, few, within))

pub Came-none : {D : Type 0} (gave : Gave D) (name : List ℕ) (first : D) (bytes : List ℕ) → bytes ≡ [] → Came gave name first bytes first
Came-none gave name first bytes none = subst (λ all. Came gave name first all first) (sym none) Nothing
