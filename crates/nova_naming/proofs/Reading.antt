-- Lines that are read one after another.
use Rattle.std.proofs.Common.{◌≡◌, ℕ, List, [], ◌∷◌, ◌++◌, Option, Some, None, Result, Ok, Err, ap, sym, subst, ◌∙◌}
use Rattle.nova_text.specs.Line.{Row}
use Rattle.nova_naming.specs.Statements.{Stated}
use Rattle.nova_naming.specs.Policy.{At, IsFault, and_then, at_line, clash, joined, said_in, with_line, with_lines, with_said}
use Rattle.nova_naming.specs.declared.fault.PolicyFault.{PolicyFault}
use Rattle.nova_naming.specs.declared.fault.PolicyFault.TheVariants.{At as AtLine, Memory}
use Rattle.nova_naming.specs.declared.fault.PolicyWhy.{PolicyWhy}

stopped : (n : ℕ) (r : Result (List Stated) PolicyWhy) (next : List Stated → Result (List Stated) At) (fault : PolicyFault) → IsFault (at_line n r) fault → IsFault (and_then n r next) fault
stopped n (Err why) next fault is = is
stopped n (Ok policy) next (AtLine line why) is = cc
stopped n (Ok policy) next Memory is = tt

passed : (n : ℕ) (r : Result (List Stated) PolicyWhy) (next : List Stated → Result (List Stated) At) (new : List Stated) → at_line n r ≡ Ok new → and_then n r next ≡ next new
passed n (Err why) next new is = cc
passed n (Ok policy) next new is = let same : policy ≡ new = cc in ap next same

-- a line stops the reading
pub stops : (policy : List Stated) (row : Row) (rows all : List Row) (fault : PolicyFault) → all ≡ row ∷ rows → IsFault (at_line row.number (with_line policy row)) fault
    → IsFault (with_lines policy all) fault
stops policy row rows all fault are is =
    rw are (stopped row.number (with_line policy row) (λ (more : List Stated). with_lines more rows) fault is)

-- or what is left comes to the same
pub goes_on : (policy : List Stated) (row : Row) (rows all : List Row) (new : List Stated) → all ≡ row ∷ rows → at_line row.number (with_line policy row) ≡ Ok new
    → with_lines new rows ≡ with_lines policy all
goes_on policy row rows all new are is =
    sym (ap (with_lines policy) are ∙ passed row.number (with_line policy row) (λ (more : List Stated). with_lines more rows) new is)

-- A LINE, by what it says, and whether that clashes

says : (n : ℕ) (r : Result (Option Stated) PolicyWhy) (s : Option Stated) → at_line n r ≡ Ok s → r ≡ Ok s
says n (Err why) s is = cc
says n (Ok other) s is = let same : other ≡ s = cc in ap Ok same

by_said : (policy : List Stated) (row : Row) (s : Stated) (c : Option PolicyWhy) → at_line row.number (said_in row) ≡ Ok (Some s) → clash policy s ≡ c
    → at_line row.number (with_line policy row) ≡ at_line row.number (joined policy s c)
by_said policy row s c is clashes =
    ap (λ r. at_line row.number (with_said policy r)) (says row.number (said_in row) (Some s) is) ∙ ap (λ why. at_line row.number (joined policy s why)) clashes

pub clashing : (policy : List Stated) (row : Row) (s : Stated) (why : PolicyWhy) (fault : PolicyFault) → at_line row.number (said_in row) ≡ Ok (Some s) → clash policy s ≡ Some why
    → fault ≡ AtLine row.number why → IsFault (at_line row.number (with_line policy row)) fault
clashing policy row s why fault is clashes faulty =
    subst (IsFault (at_line row.number (with_line policy row))) (sym faulty) (by_said policy row s (Some why) is clashes)

pub added : (policy : List Stated) (row : Row) (s : Stated) (new : List Stated) → at_line row.number (said_in row) ≡ Ok (Some s) → clash policy s ≡ None → new ≡ policy ++ s ∷ []
    → at_line row.number (with_line policy row) ≡ Ok new
added policy row s new is fits more = by_said policy row s None is fits ∙ ap Ok (sym more)
