use Rattle.law_origins.proofs.Reachable.{reachable_sound}
use Rattle.law_integrity.proofs.Runnable.{runnable_in, runs_candidate}
use Rattle.law_integrity.proofs.running.who_may_run_is_a_candidate.Goals as goal

pub returns : goal.returns
returns c = λ k cpu d at. let edges = (reachable_sound k at).kept.edges in (λ there. runs_candidate k cpu d edges there, λ runs. runnable_in k cpu d edges runs)
