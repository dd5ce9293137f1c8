-- Exits that are raised go to portals at selectors that are there.
use Rattle.std.specs.Prelude.{◌≡◌, ℕ, ◌+◌, ◌-◌, ◌^◌, ◌<◌, ◌≤◌, Some}
use Rattle.nova_model.specs.Exits.{raised_exit}
use Rattle.nova_model.specs.State.{KernelState, context, event_base}

-- no event base is above 2^20 - 9, and no exit that is raised and not sent has a reason above 8
pub record HasEvents (k : KernelState) : Type 0 where
  pub bases : (ec : ℕ) → event_base k ec ≤ 2 ^ 20 - 9
  pub reasons : (ec reason q0 q1 : ℕ) → raised_exit (context k ec).state ≡ Some (reason, q0, q1) → reason ≤ 8

-- so the selector of its portal is one
abbrev pub AreSelectors : KernelState → Type 0
AreSelectors k = (ec reason q0 q1 : ℕ) → raised_exit (context k ec).state ≡ Some (reason, q0, q1) → event_base k ec + reason < 2 ^ 20
