-- What was not loaded, as an exit.
use Rattle.std.proofs.Common.{◌≡◌, ℕ, List, Err, subst, sym}
use Rattle.nova_io.specs.Outside.{Depots}
use Rattle.nova_loading.specs.Came.{IsOrderLoaded, OrderCame}
use Rattle.nova_loading.specs.declared.unread.OrderUnread.{OrderUnread}
use Rattle.nova_loading.specs.declared.unread.OrderUnread.TheVariants as order
use Rattle.nova_order.specs.declared.block.Block.{Block}
use Rattle.nova_policy.specs.Came.{IsOrderFault, most_turns}
use Rattle.nova_policy.specs.Exit.{of_order}
use Rattle.nova_policy.specs.declared.exit.Exit.{Exit}

module _ {D : Type 0} (d : Depots D) (name : List ℕ) (cpus : ℕ) (old new : D) where
  no_order : (u : OrderUnread) → IsOrderLoaded d name cpus most_turns old new (Err u) → IsOrderFault d name cpus old new (of_order u)
  no_order order.Failed is = is
  no_order order.TooLong is = is
  no_order (order.Refused fault) is = is
  no_order order.Memory is = is

  -- by the name that was passed on, and the exit that is answered
  pub order_unread : (called : List ℕ) (u : OrderUnread) (e : Exit) → called ≡ name → e ≡ of_order u → IsOrderLoaded d called cpus most_turns old new (Err u) → IsOrderFault d name cpus old new e
  order_unread called u e named is loaded =
      subst (IsOrderFault d name cpus old new) (sym is) (no_order u (subst (λ (n : List ℕ). IsOrderLoaded d n cpus most_turns old new (Err u)) named loaded))

  pub order_read : (called : List ℕ) (blocks : List Block) → called ≡ name → OrderCame d called cpus most_turns old blocks new → OrderCame d name cpus most_turns old blocks new
  order_read called blocks named came = subst (λ (n : List ℕ). OrderCame d n cpus most_turns old blocks new) named came
