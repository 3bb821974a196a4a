-- The updates of a log, and the tree that it leaves.
use Rattle.std.proofs.Common.{◌≡◌, List, [], ◌∷◌, ◌++◌, refl, ap, ◌∙◌}
use Rattle.std.specs.Prelude.{zip}
use Rattle.ztree.specs.Tree.{Tree}
use Rattle.zcalls.specs.declared.call.Call.TheVariants as call
use Rattle.zcalls.specs.declared.call.Update.{Update}
use Rattle.zprotocol.specs.world.PlainTree.{serve}
use Rattle.ztree_service.specs.log.Logs.{Log, calls_of, served, tree_after}
use Rattle.ztree_service.proofs.log_lemmas.Incarnations.{calls_zipped}
use Rattle.zsnapshots.specs.folder.Entries.{Entry, calls_again}
use Rattle.zsnapshots.specs.folder.States.{after, after_entry}
use Rattle.zfront.specs.Front.{updates_among}
use Rattle.zfront_laws.specs.Making.{updates_in}

pub updates-append : (log more : Log) → updates_in (log ++ more) ≡ updates_in log ++ updates_in more
updates-append [] more = refl
updates-append ((call.Update update, reply) ∷ log) more = ap (λ (us : List Update). update ∷ us) (updates-append log more)
updates-append ((call.Query query, reply) ∷ log) more = updates-append log more

-- a log leaves the tree of its updates
pub tree-log : (log : Log) (t : Tree) → tree_after t (calls_of log) ≡ after t (updates_in log)
unfolding after_entry
tree-log [] t = refl
tree-log ((call.Update update, reply) ∷ log) t = tree-log log (serve t 0 (call.Update update)).0
tree-log ((call.Query query, reply) ∷ log) t = tree-log log t

-- ---- entries that are made again by a tree

abbrev pub log_from : Tree → List Entry → Log
log_from t entries = zip (calls_again entries) (served t (calls_again entries))

updates-again : (entries : List Entry) → updates_among (calls_again entries) ≡ entries
updates-again [] = refl
updates-again (entry ∷ entries) = ap (λ (es : List Entry). entry ∷ es) (updates-again entries)

pub updates-log_from : (entries : List Entry) (t : Tree) → updates_in (log_from t entries) ≡ entries
updates-log_from entries t = ap updates_among (calls_zipped t (calls_again entries)) ∙ updates-again entries
