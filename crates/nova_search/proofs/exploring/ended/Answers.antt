use Rattle.std.proofs.Common.{length, refl}
use Rattle.nova_search.proofs.Going.{ended_by, few_so, many_so}
use Rattle.nova_search.proofs.exploring.ended.Goals as goal

pub returns : goal.returns
returns g c = λ m k limit edges apt going.
    ended_by m (g.G.Goal.met c.args.goal.now) k limit c.args.most c.args.found.now edges c.args.most c.args.is_whole going c.states_are_one.ensures.apt
    (c.states_are_one.ensures.reflexive m k) apt _ (λ told. c.in_ok-first.ensures going.none) (λ over. few_so (length c.args.found.now) c.args.most over) refl
    (λ told none cut. many_so (length c.args.found.now) c.args.most cut) (λ same. refl)
