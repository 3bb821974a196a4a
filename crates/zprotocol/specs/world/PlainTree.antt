-- The plain tree as a service of one call after the other: the sequential specification of the
-- legal order.
use Rattle.std.specs.Prelude.{ℕ, List}
use Rattle.ztree.specs.Tree.{Tree}
use Rattle.ztree.specs.Lawful.{IsLawful}
use Rattle.zcalls.specs.declared.call.Call.{Call}
use Rattle.zcalls.specs.declared.call.Call.TheVariants.{Update, Query}
use Rattle.zcalls.specs.declared.reply.Reply.{Reply}
use Rattle.zcalls.specs.Cached.{Plain}
use Rattle.zcalls.specs.PlainTree.{plain_tree}
use Rattle.zcalls.specs.Operation.{Operation}
use Rattle.zprotocol.specs.world.History.{History}
use Rattle.zprotocol.specs.world.LegalOrder.{Service, IsLegalOrder}

-- a call: an update acts by the plain service's step; a query is answered from the state, and
-- leaves it unchanged
abbrev pub call_step : {P : Type 0} → Plain P → P → ℕ → Call → P × Reply
call_step plain p client (Update update) = plain.update p client update
call_step plain p client (Query query) = (p, plain.ask p query)

-- a plain service, as one that does one call after the other
abbrev pub service_of : {P : Type 0} → Plain P → Service P
service_of plain = record { opening = plain.opening; step = call_step plain }

-- what the plain tree, as a service, does with a client's call
abbrev pub serve : Tree → ℕ → Call → Tree × Reply
serve t client call = (service_of plain_tree).step t client call

-- a history is linearizable over the plain tree: it has a legal order, and every tree on the way is
-- lawful
abbrev pub IsExplained : History → Type 0
IsExplained history = (order : List Operation) × IsLegalOrder IsLawful (service_of plain_tree) history order
