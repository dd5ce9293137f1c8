use Rattle.law_turns.proofs.Donation.{sound_edges, ended_chase, exact_circle, able, acting, keeps}
use Rattle.law_turns.proofs.edges.edges_form_no_circle.Goals as goal

pub returns-clause-sound : goal.returns-clause-sound
returns-clause-sound c = sound_edges

pub returns-clause-ends : goal.returns-clause-ends
returns-clause-ends c = ended_chase

pub returns-clause-circles : goal.returns-clause-circles
returns-clause-circles c = exact_circle

pub returns-clause-able : goal.returns-clause-able
returns-clause-able c = able

pub returns-clause-acts : goal.returns-clause-acts
returns-clause-acts c = acting

pub returns-clause-kept : goal.returns-clause-kept
returns-clause-kept c = keeps
