-- The items explain their history, over the plain tree.
use Rattle.std.specs.List.{AllByRecursion}
use Rattle.std.proofs.Common.{◌≡◌, List, [], ◌∷◌, refl, sym, subst}
use Rattle.ztree.specs.Tree.{Tree, opening_tree}
use Rattle.ztree.specs.Lawful.{IsLawful}
use Rattle.zcalls.specs.declared.call.Call.{Call}
use Rattle.zcalls.specs.declared.call.Call.TheVariants.{Update, Query}
use Rattle.zcalls.specs.Operation.{Operation, AreOneUpdate}
use Rattle.zcalls.specs.PlainTree.{plain_tree}
use Rattle.zcalls.specs.Lists.{NoTwo}
use Rattle.zcalls.proofs.LawfulParts.{IsGood}
use Rattle.zcalls.proofs.LawfulCalls.{step-good}
use Rattle.zcalls.proofs.ActedLogs.{acted_entries_once}
use Rattle.zprotocol.specs.world.History.{History}
use Rattle.zprotocol.specs.world.LegalOrder.{operation_step, IsLegalOrder, states_from}
use Rattle.zprotocol.specs.server.Machine.{plain_from}
use Rattle.zprotocol.specs.world.PlainTree.{service_of}
use Rattle.zprotocol.specs.world.FromTree.{CanStart}
use Rattle.zprotocol.proofs.world_lemmas.FirstCallsFrom.{opening_can_start}
use Rattle.zlinearizability.specs.legal.Laws.{ItemsExplain, ItemsExplainFrom}
use Rattle.zlinearizability.proofs.legal_lemmas.order.LegalOrders.{legal_order}

-- a call keeps a tree good
call_good : (t : Tree) (o : Operation) → IsGood t → IsGood (operation_step (service_of plain_tree) t o).0
call_good t o good = by o.call refl
  where
    by : (call : Call) → o.call ≡ call → IsGood (operation_step (service_of plain_tree) t o).0
    by (Update u) e = rw e (step-good t o.client u good)
    by (Query q) e = rw e good

-- good trees are lawful
weaker : (ts : List Tree) → AllByRecursion IsGood ts → AllByRecursion IsLawful ts
weaker [] h = tt
weaker (t ∷ ts) h = (h.0.0, weaker ts h.1)

-- a tree that a chain can begin with is good
good_start : (t : Tree) → CanStart t → IsGood t
good_start t can = (can.lawful, can.granted)

lawful_order : (t : Tree) (history : History) (order : List Operation) → IsLegalOrder IsGood (service_of (plain_from t)) history order
    → IsLegalOrder IsLawful (service_of (plain_from t)) history order
lawful_order t history order legal = record {
  begun = legal.begun;
  once = legal.once;
  answered = legal.answered;
  unanswered = legal.unanswered;
  in_time = legal.in_time;
  lawful = weaker (states_from (service_of (plain_from t)) t order) legal.lawful;
}

-- over the plain tree that begins with a tree, whose every state is lawful
pub items_explain_from : ItemsExplainFrom
items_explain_from t can history committed items acted replays rising in_time answered once =
    let found = legal_order IsGood (plain_from t) history items (good_start t can) call_good
    (subst (NoTwo AreOneUpdate) (sym acted) (acted_entries_once (plain_from t) committed)) replays rising in_time answered once in
    (found.0, lawful_order t history found.0 found.1)

-- over the plain tree
pub items_explain : ItemsExplain
items_explain = items_explain_from opening_tree opening_can_start
