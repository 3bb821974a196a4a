-- What the server table requires of a state machine, and the two machines it is used with: the tree
-- with cached replies, and the log of entries. A copy of a machine is the same value.
use Rattle.std.specs.Prelude.{Option, List, [], ◌∷◌, ◌++◌}
use Rattle.ztree.specs.Tree.{Tree}
use Rattle.zcalls.specs.declared.call.Entry.{Entry}
use Rattle.zcalls.specs.declared.call.Query.{Query}
use Rattle.zcalls.specs.declared.reply.Reply.{Reply}
use Rattle.zcalls.specs.Cached as kept
use Rattle.zcalls.specs.Cached.{Plain, CachedState, nothing_cached, entry_step}
use Rattle.zcalls.specs.PlainTree.{plain_tree}

-- a state machine: its initial state, the effect of an entry with its reply, if any, and the reply
-- to a query
pub record Does (M : Type 0) : Type 0 where
  pub start : M
  pub apply : M → Entry → M × Option Reply
  pub ask : M → Query → Reply

-- a sequential service with cached replies: entries are applied by the entry step, and queries are
-- answered from its state
abbrev pub machine_of : {P : Type 0} → Plain P → Does (CachedState P)
machine_of plain =
    record {
      start = nothing_cached plain.opening;
      apply = entry_step plain.update;
      ask = λ s query. plain.ask s.plain query;
    }

-- the tree with cached replies
abbrev pub cached_tree : Does (CachedState Tree)
cached_tree = machine_of plain_tree

-- the plain tree, beginning with this tree
abbrev pub plain_from : Tree → Plain Tree
plain_from t = record plain_tree { opening = t }

-- the machine that begins with this tree, and with no cached reply: for it all clients begin anew
abbrev pub cached_tree_from : Tree → Does (CachedState Tree)
cached_tree_from t = machine_of (plain_from t)

-- a machine after these entries, one after the other
abbrev pub after_entries : {M : Type 0} → Does M → M → List Entry → M
after_entries does m entries = kept.after_entries does.apply m entries

-- a machine after a log, from its initial state
abbrev pub replay : {M : Type 0} → Does M → List Entry → M
replay does log = after_entries does does.start log

-- the log of entries as a machine: it stores each entry, and replies as the machine after that log
-- does
abbrev pub log_of : {M : Type 0} → Does M → Does (List Entry)
log_of does =
    record {
      start = [];
      apply = λ log entry. (log ++ entry ∷ [], (does.apply (replay does log) entry).1);
      ask = λ log query. does.ask (replay does log) query;
    }
