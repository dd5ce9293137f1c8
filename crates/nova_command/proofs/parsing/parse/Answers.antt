use Rattle.std.proofs.Common.{◌≡◌, ◌∙◌, List, [], ◌∷◌, inl, inr, Err, Some, map, ap, refl, sym}
use Rattle.clap.specs.Faults.{fault_of}
use Rattle.clap.specs.Kinds.{HasKind, Kinds}
use Rattle.clap.specs.Matches.{found_of}
use Rattle.clap.specs.Simple.{app_of, matches_of}
use Rattle.clap.specs.Walk.{Row, rows_of}
use Rattle.clap.specs.declared.error.Error.{Error}
use Rattle.nova_command.specs.CommandFault.{AnswersBy, IsFaultOf}
use Rattle.nova_command.specs.Parsing.{rows_given, unless_fault}
use Rattle.nova_command.specs.declared.fault.CommandFault.{CommandFault}
use Rattle.nova_command.specs.declared.fault.CommandFault.TheVariants.{Usage, Memory}
use Rattle.nova_command.proofs.parsing.parse.Goals as goal

-- a failure that is none of memory is a fault of the words
none_given : (kinds : Kinds) (error : Error) (fault : CommandFault) (rows : List Row) → HasKind kinds error → IsFaultOf error fault → AnswersBy (λ g. g) (unless_fault kinds rows) (Err fault)
none_given kinds error Memory rows has is = tt
none_given (kind ∷ kinds) error Usage rows has is = refl
none_given [] error Usage rows (inl memory) is = absurd (is memory)
none_given [] error Usage rows (inr none) is = absurd none

-- what is given where there is no fault
all_given : (kinds : Kinds) (rows wanted : List Row) → kinds ≡ [] → rows ≡ wanted → unless_fault kinds wanted ≡ Some rows
all_given kinds rows wanted none are = ap (λ (ks : Kinds). unless_fault ks wanted) none ∙ ap (λ (rs : List Row). Some rs) (sym are)

pub returns-in-Ok : goal.returns-in-Ok
unfolding rows_given
returns-in-Ok c =
    let words = map (λ word. word.now) c.args.words.now in
    all_given (fault_of (app_of c.args.form) words) (rows_of (found_of c.in-Ok.matches)) (matches_of (app_of c.args.form) words)
    (c.in-Ok.ensures.kinds c.requires.free) (c.in-Ok.ensures.matches c.requires.simple).0

pub returns-in-Err : goal.returns-in-Err
unfolding rows_given
returns-in-Err c =
    let words = map (λ word. word.now) c.args.words.now in
    none_given (fault_of (app_of c.args.form) words) c.in-Err.error c.fault_of.result (matches_of (app_of c.args.form) words) (c.in-Err.ensures.kinds c.requires.free) c.fault_of.ensures
