-- What is told of the firings of a source: that they are of its moments, in order, and that none is lost.
use Rattle.std.specs.Prelude.{◌≡◌, ℕ, ◌≤◌, ◌<◌, true, List, slice_get, Some}
use Rattle.nova_model.specs.declared.event.Event.{Event}
use Rattle.nova_model.specs.declared.times.Alarm.{Alarm}
use Rattle.nova_gsi.specs.Firings.{clock_at, fired, fired_before, firings, moment, was_due}

-- there are no more firings than moments; each comes at its moment or later; and a turn of the processor that begins at a moment or later, while
-- its firing hasn't come, is a deadline or an alarm
pub record AreOfMoments (s : Alarm) (n : ℕ) (trace : List Event) : Type 0 where
  pub few : fired trace n ≤ s.count
  pub in_time : (j place : ℕ) → slice_get (firings trace n) j ≡ Some place → moment s j ≤ clock_at trace s.cpu place
  pub none_lost : (j place : ℕ) (e : Event) → j < s.count → slice_get trace place ≡ Some e → e.cpu ≡ s.cpu → moment s j ≤ clock_at trace s.cpu place →
      fired_before trace n place ≤ j → was_due e.kind ≡ true
  pub none_between : (j its place : ℕ) (e : Event) → slice_get (firings trace n) j ≡ Some its → place ≤ its → slice_get trace place ≡ Some e → e.cpu ≡ s.cpu →
      moment s j ≤ clock_at trace s.cpu place → was_due e.kind ≡ true
