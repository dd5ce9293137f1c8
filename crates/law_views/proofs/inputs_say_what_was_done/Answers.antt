use Rattle.nova_guest.specs.declared.input.Input.TheVariants.{Died, Foreign, Given, Own, Recall, Reply, Sent, Taken}
use Rattle.law_views.proofs.Said.{input_said}
use Rattle.law_views.proofs.inputs_say_what_was_done.Goals as goal

pub returns-clause-stored : goal.returns-clause-stored
returns-clause-stored c = λ k cpu ec g frame offset width value sound acts is. input_said k cpu ec g (Foreign frame offset width value) acts is sound

pub returns-clause-asked : goal.returns-clause-asked
returns-clause-asked c = λ k cpu ec g. input_said k cpu ec g Recall

pub returns-clause-told : goal.returns-clause-told
returns-clause-told c = λ k cpu ec g mtd words sound acts is. input_said k cpu ec g (Reply mtd words) acts is sound

pub returns-clause-given : goal.returns-clause-given
returns-clause-given c = λ k cpu ec g base order rights frame contents. input_said k cpu ec g (Given base order rights frame contents)

pub returns-clause-taken : goal.returns-clause-taken
returns-clause-taken c = λ k cpu ec g base order. input_said k cpu ec g (Taken base order)

pub returns-clause-own : goal.returns-clause-own
returns-clause-own c = λ k cpu ec g. input_said k cpu ec g Own

pub returns-clause-sent : goal.returns-clause-sent
returns-clause-sent c = λ k cpu ec g. input_said k cpu ec g Sent

pub returns-clause-died : goal.returns-clause-died
returns-clause-died c = λ k cpu ec g. input_said k cpu ec g Died
