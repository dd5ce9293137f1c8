use Rattle.std.proofs.Common.{ap}
use Rattle.nova_model.specs.State.{KernelState}
use Rattle.law_alike.proofs.Turns.{objects_alike, quiet_alike}
use Rattle.law_alike.proofs.laws.alike_states_are_as_one.Goals as goal

pub returns-clause-contexts : goal.returns-clause-contexts
returns-clause-contexts c = λ k l alike. ap (λ (u : KernelState). u.contexts) alike.rest

pub returns-clause-words : goal.returns-clause-words
returns-clause-words c = λ k l alike. ap (λ (u : KernelState). u.messages) alike.rest

pub returns-clause-semaphores : goal.returns-clause-semaphores
returns-clause-semaphores c = λ k l alike. ap (λ (u : KernelState). u.semaphores) alike.rest

pub returns-clause-objects : goal.returns-clause-objects
returns-clause-objects c = objects_alike

pub returns-clause-delegations : goal.returns-clause-delegations
returns-clause-delegations c = λ k l alike. ap (λ (u : KernelState). u.delegations) alike.rest

pub returns-clause-memory : goal.returns-clause-memory
returns-clause-memory c = λ k l alike. ap (λ (u : KernelState). u.memory) alike.rest

pub returns-clause-quiet : goal.returns-clause-quiet
returns-clause-quiet c = quiet_alike
