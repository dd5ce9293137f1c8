-- The rights that are told of memory are those of the two capabilities.
use Rattle.std.proofs.Common.{◌≡◌, ◌++◌, ℕ, List, ap, ap₂, ◌∙◌}
use Rattle.std.specs.Prelude.{Bool, Contains, codes, decimal, Option, Some}
use Rattle.nova_model.specs.Boot.{Scenario, boot}
use Rattle.nova_model.specs.Delegations.{with_id}
use Rattle.nova_model.specs.Runs.{run}
use Rattle.nova_model.specs.declared.delegation.Derivation.{Derivation}
use Rattle.law_forest.proofs.Changes.{boot_run_forest}
use Rattle.law_forest.proofs.Lines.{member_found}
use Rattle.law_forest.proofs.Members.{in_from_contains}
use Rattle.nova_report.specs.Words.{line_feed}
use Rattle.nova_ties.specs.declared.tie.Cause.TheVariants.{Frames}
use Rattle.nova_ties.specs.declared.tie.Tie.{Tie}
use Rattle.law_sides.specs.Told.{IsFlowing, IsRead}
use Rattle.nova_judging.specs.Memory.{right_text, rights_text}

module _ (scenario : Scenario) (turns : List ℕ) where
  abbrev list : List Derivation
  list = (run (boot scenario) turns).delegations.list

  found : (d : Derivation) → Contains list d → with_id list d.id ≡ Some d
  found d there = member_found list d (boot_run_forest scenario turns).rising (in_from_contains list d there)

  both : (d e : Derivation) → Contains list d → Contains list e → rights_text list (Frames d.id e.id) ≡ codes " rights " ++ (decimal d.rights.0 ++ (codes " " ++ (decimal e.rights.0 ++ line_feed)))
  both d e first second =
      ap₂ (λ (a b : Option Derivation). codes " rights " ++ (right_text a ++ (codes " " ++ (right_text b ++ line_feed)))) (found d first) (found e second)

  pub flow_rights : (flows : ℕ → ℕ → Bool) (label : ℕ → ℕ) (t : Tie) → (f : IsFlowing flows (run (boot scenario) turns) label t) → rights_text list t.cause ≡
      codes " rights " ++ (decimal f.writes.derivation.rights.0 ++ (codes " " ++ (decimal f.reaches.derivation.rights.0 ++ line_feed)))
  flow_rights flows label t f = ap (λ (x : Tie). rights_text list x.cause) f.pair ∙ both f.writes.derivation f.reaches.derivation f.writes.there f.reaches.there

  pub read_rights : (label : ℕ → ℕ) (t : Tie) → (r : IsRead (run (boot scenario) turns) label t) → rights_text list t.cause ≡
      codes " rights " ++ (decimal r.one.derivation.rights.0 ++ (codes " " ++ (decimal r.two.derivation.rights.0 ++ line_feed)))
  read_rights label t r = ap (λ (x : Tie). rights_text list x.cause) r.pair ∙ both r.one.derivation r.two.derivation r.one.there r.two.there
