use Rattle.std.proofs.Common.{rules, ◌≡◌, ◌≤◌, ◌∙◌, sym, ap, ℕ, List, subst, slice_index_or}
use Rattle.nova_lock.specs.History.{entries, IsFrontOf}
use Rattle.nova_lock.specs.Seats.{SeatView}
use Rattle.nova_order.specs.Blocks.{turns}
use Rattle.nova_shared.specs.Ran.{Ran}
use Rattle.nova_shared.proofs.Seats.{all_below}
use Rattle.nova_shared.proofs.shared.Shared.finish.Goals as goal

pub returns-clause-fronts : goal.returns-clause-fronts
returns-clause-fronts c = λ i d less.
    subst (λ (l : List ℕ). IsFrontOf i (slice_index_or c.args.seats.items i d).front l) (sym c.into_run.ensures.order)
    (subst (λ (l : List (SeatView Ran)). IsFrontOf i (slice_index_or l i d).front c.close-value.result.order) c.bare.ensures (c.close-value.ensures.fronts i d (search rules)))

pub returns-clause-processors : goal.returns-clause-processors
returns-clause-processors c =
    all_below c.args.self.opened.opening.kernel.state.cpus (turns c.into_run.result.order.blocks)
    (λ n le. ap (entries n) c.into_run.ensures.order ∙ c.close-value.ensures.others n (subst (λ (m : ℕ). m ≤ n) (sym (ap (λ l. l.seats) c.self.view_is ∙ c.requires.seats.cpus)) le))

pub returns-clause-counts : goal.returns-clause-counts
returns-clause-counts c = λ i d less.
    let number : (slice_index_or c.args.seats.items i d).number ≡ i = (c.requires.seats.all.each i d (search rules)).number in
    sym (returns-clause-fronts c i d less).whole ∙ ap (λ (n : ℕ). entries n (slice_index_or c.args.seats.items i d).front) (sym number)
