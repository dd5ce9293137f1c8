-- What a parse answers, seen by what is made of it.
use Rattle.std.proofs.Common.{Option, Result, Ok, Err, ap, option_map}
use Rattle.nova_command.specs.CommandFault.{AnswersBy}
use Rattle.nova_command.specs.declared.fault.CommandFault.{CommandFault}
use Rattle.nova_command.specs.declared.fault.CommandFault.TheVariants.{Usage, Memory}

pub answers_more : {T V W : Type 0} (view : T → V) (f : V → W) (there : Option V) (r : Result T CommandFault) → AnswersBy view there r → AnswersBy (λ t. f (view t)) (option_map f there) r
answers_more view f there (Ok t) is = ap (option_map f) is
answers_more view f there (Err Usage) is = ap (option_map f) is
answers_more view f there (Err Memory) is = tt
