use Rattle.nova_memory.proofs.stepping.Recalled.forget.Goals as goal

pub returns-else-self-lt-LAST : goal.returns-else-self-lt-LAST
returns-else-self-lt-LAST c = λ list now memory is are. c.begin_anew.ensures now is
