-- A list of calls in the order in which they took effect makes a legal order of a history.
use Rattle.std.specs.Prelude.{List}
use Rattle.ztree.specs.Tree.{Tree, opening_tree}
use Rattle.zcalls.specs.declared.call.Entry.{Entry}
use Rattle.zcalls.specs.PlainTree.{plain_tree}
use Rattle.zprotocol.specs.server.Machine.{plain_from}
use Rattle.zprotocol.specs.world.History.{History}
use Rattle.zprotocol.specs.world.PlainTree.{IsExplained, service_of}
use Rattle.zprotocol.specs.world.FromTree.{CanStart, IsExplainedFrom}
use Rattle.zlinearizability.specs.legal.Items.{Item, Replays, AreCommitted, TimesRise, AreBegunInTime, AreAnsweredInTime, EventsDiffer}

-- a history is linearizable over the plain tree where a list of items and a committed log fit it
abbrev pub ItemsExplain : Type 0
ItemsExplain =
    (history : History) (committed : List Entry) (items : List Item)
    → AreCommitted plain_tree committed items → Replays (service_of plain_tree) opening_tree items → TimesRise items
    → AreBegunInTime history items → AreAnsweredInTime items 0 history → EventsDiffer history → IsExplained history

-- the same over the plain tree that begins with another tree
abbrev pub ItemsExplainFrom : Type 0
ItemsExplainFrom =
    (t : Tree) → CanStart t → (history : History) (committed : List Entry) (items : List Item)
    → AreCommitted (plain_from t) committed items → Replays (service_of (plain_from t)) t items → TimesRise items
    → AreBegunInTime history items → AreAnsweredInTime items 0 history → EventsDiffer history → IsExplainedFrom t history
