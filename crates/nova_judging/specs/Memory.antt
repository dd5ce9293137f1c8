-- Lines that tell of memory that two sides reach.
use Rattle.std.specs.Prelude.{ℕ, List, ◌++◌, codes, decimal, flat_map, Option, Some, None}
use Rattle.nova_model.specs.Delegations.{with_id}
use Rattle.nova_model.specs.declared.delegation.Derivation.{Derivation}
use Rattle.nova_report.specs.Words.{line_feed}
use Rattle.nova_ties.specs.declared.tie.Cause.{Cause}
use Rattle.nova_ties.specs.declared.tie.Cause.TheVariants.{Frames}
use Rattle.nova_ties.specs.declared.tie.Tie.{Tie}
use Rattle.nova_naming.specs.Statements.{Stated}
use Rattle.nova_judging.specs.Lines.{cause_text, domain_text}

-- the rights of two capabilities
abbrev pub right_text : Option Derivation → List ℕ
right_text None = codes "-"
right_text (Some d) = decimal d.rights.0

abbrev pub rights_text : List Derivation → Cause → List ℕ
rights_text list (Frames cap other) = codes " rights " ++ (right_text (with_id list cap) ++ (codes " " ++ (right_text (with_id list other) ++ line_feed)))
rights_text list why = line_feed

-- two domains, and the capabilities by which they reach a frame, with their rights
abbrev pub memory_text : List Stated → List ℕ → List Derivation → Tie → List ℕ
memory_text policy labels list t = domain_text policy labels t.from ++ (codes " " ++ (domain_text policy labels t.to ++ (codes " "
    ++ (cause_text t.cause ++ rights_text list t.cause))))

-- each such pair in a line, behind a word
abbrev pub memory_line : List ℕ → List Stated → List ℕ → List Derivation → Tie → List ℕ
memory_line word policy labels list t = word ++ memory_text policy labels list t

abbrev pub memory_lines : List ℕ → List Stated → List ℕ → List Derivation → List Tie → List ℕ
memory_lines word policy labels list ts = flat_map (memory_line word policy labels list) ts

-- memory that flows from a side to another, in place of a tie
abbrev pub flowing_lines : List Stated → List ℕ → List Derivation → List Tie → List ℕ
flowing_lines policy labels list ts = memory_lines (codes "flows ") policy labels list ts

-- memory that two sides reach, and that neither may write
abbrev pub reading_lines : List Stated → List ℕ → List Derivation → List Tie → List ℕ
reading_lines policy labels list ts = memory_lines (codes "memory ") policy labels list ts
