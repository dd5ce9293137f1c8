use Rattle.std.proofs.Common.{rules, ◌≡◌, ap, sym, ◌∙◌, subst, ℕ, ◌<◌, ◌≤◌, List, Contains}
use Rattle.nova_lock.specs.Ticketed.{Closes}
use Rattle.nova_lock.specs.declared.view.View.{View}
use Rattle.nova_lock.proofs.Seating.{closes}
use Rattle.nova_lock.proofs.lock.HistoryLock.finish.Goals as goal

pub returns : goal.returns
returns g c =
    let v : View g.row.T.Denot = c.first.inside.seat.me.0 in
    let made : v.made ≡ c.args.self.seats = search rules in
    let all : (i : ℕ) → 0 < i → i < v.made → (f : List ℕ) × Contains v.kept (i, f) = λ i pos less. rw (ap (λ s. s.kept) c.first.view_is) (c.requires.all i pos (subst (λ n. i < n) made less)) in
    let e : Closes g.T.Historied.opening g.T.Historied.history g.T.Historied.uses c.self.inside.table.shared.key.value v c.take-value.result =
    closes g.T.Historied.opening g.T.Historied.history g.T.Historied.uses _ _ v _ _ _ (search rules) (search rules) all c.close_with-closed.ensures.values.2 c.take-value.ensures.value in
    let front : v.front ≡ c.args.first.front = ap (λ s. s.front) c.first.view_is in
    let kept : v.kept ≡ c.args.first.kept = ap (λ s. s.kept) c.first.view_is in
    let opened : c.self.inside.table.shared.key.value ≡ c.args.self.opened = ap (λ s. s.opened) c.self.view_is in
    record {
      opens = e.opens ∙ ap g.T.Historied.opening opened;
      first = rw (sym front) e.first;
      kept = λ n f h. e.kept n f (subst (λ (l : List (ℕ × List ℕ)). Contains l (n, f)) (sym kept) h);
      others = λ n le. e.others n (subst (λ m. m ≤ n) (sym made) le);
    }
