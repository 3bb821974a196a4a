-- What an order leaves as it is.
use Rattle.std.proofs.Common.{◌≡◌, ℕ, ◌+◌, [], ◌∷◌, ◌++◌, Option, Some, None, refl}
use Rattle.std.specs.List.{last_or}
use Rattle.zprotocol.specs.declared.message.Message.TheVariants as message
use Rattle.zprotocol.specs.declared.process.Process.TheVariants.{Server}
use Rattle.zprotocol.specs.declared.master.order.Order.{Order}
use Rattle.zprotocol.specs.declared.master.order.Order.TheVariants.{Join, Retire}
use Rattle.zprotocol.specs.master.View.{MasterView, members, with_number}
use Rattle.zprotocol.specs.master.Table.{MasterResult, no_effect, order_step}

-- the master has as many clients as before
pub order_counts : (T : Type 0) (v : MasterView) (order : Order) → (order_step {T = T} v order).0.clients ≡ v.clients
unfolding order_step
order_counts T v (Join s) = by (last_or None (members v))
  where
    by : (last : Option ℕ) → (elim last as (λ _. MasterResult T) [
      | None ↦ no_effect v
      | Some l ↦ (
        record v { chain = v.chain ++ (s, v.epoch + 1) ∷ []; joining = Some s; used = with_number s v.used; epoch = v.epoch + 1 },
        (Server s, message.NewPred (v.epoch + 1) l) ∷ [],
      )
    ]).0.clients ≡ v.clients
    by None = refl
    by (Some l) = refl
order_counts T v (Retire s) = refl
