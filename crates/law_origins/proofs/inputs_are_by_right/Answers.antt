use Rattle.nova_guest.specs.declared.input.Input.TheVariants.{Died, Foreign, Given, Own, Recall, Reply, Sent, Taken}
use Rattle.nova_model.specs.Boot.{boot}
use Rattle.nova_model.specs.Runs.{run}
use Rattle.law_origins.proofs.Actors.{some_acts}
use Rattle.law_origins.proofs.Rights.{input_right}
use Rattle.law_origins.proofs.inputs_are_by_right.Goals as goal

pub returns-clause-someone : goal.returns-clause-someone
returns-clause-someone c = λ s turns cpu g i is. some_acts (run (boot s) turns) cpu g i is

pub returns-clause-right : goal.returns-clause-right
returns-clause-right c = input_right

pub returns-clause-own : goal.returns-clause-own
returns-clause-own c = λ s turns cpu ec g by. input_right s turns cpu ec g Own by

pub returns-clause-sent : goal.returns-clause-sent
returns-clause-sent c = λ s turns cpu ec g by. input_right s turns cpu ec g Sent by

pub returns-clause-died : goal.returns-clause-died
returns-clause-died c = λ s turns cpu ec g by. input_right s turns cpu ec g Died by

pub returns-clause-foreign : goal.returns-clause-foreign
returns-clause-foreign c = λ s turns cpu ec g frame offset width value by. input_right s turns cpu ec g (Foreign frame offset width value) by

pub returns-clause-recall : goal.returns-clause-recall
returns-clause-recall c = λ s turns cpu ec g by. input_right s turns cpu ec g Recall by

pub returns-clause-reply : goal.returns-clause-reply
returns-clause-reply c = λ s turns cpu ec g mtd words by. input_right s turns cpu ec g (Reply mtd words) by

pub returns-clause-given : goal.returns-clause-given
returns-clause-given c = λ s turns cpu ec g base order rights frame contents by. input_right s turns cpu ec g (Given base order rights frame contents) by

pub returns-clause-taken : goal.returns-clause-taken
returns-clause-taken c = λ s turns cpu ec g base order by. input_right s turns cpu ec g (Taken base order) by
