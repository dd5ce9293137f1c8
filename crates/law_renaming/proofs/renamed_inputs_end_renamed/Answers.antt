use Rattle.law_renaming.proofs.Runs.{alone_agrees, input_fits}
use Rattle.law_renaming.proofs.renamed_inputs_end_renamed.Goals as goal

pub returns-clause-guests : goal.returns-clause-guests
returns-clause-guests c = λ r u v is js one same fit inputs. (alone_agrees r one u v same is js fit inputs).guests

pub returns-clause-outs : goal.returns-clause-outs
returns-clause-outs c = λ r u v is js one same fit inputs. (alone_agrees r one u v same is js fit inputs).outs

pub returns-clause-fit : goal.returns-clause-fit
returns-clause-fit c = input_fits
