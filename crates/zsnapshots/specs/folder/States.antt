-- The state of a data folder: a tree. Each entry leads from one tree to the next. This is the
-- project's profile.
use Rattle.std.specs.Prelude.{List, [], ◌∷◌}
use Rattle.ztree.specs.Tree.{Tree}
use Rattle.zcalls.specs.declared.call.Call.TheVariants as call
use Rattle.zprotocol.specs.world.PlainTree.{serve}
use Rattle.zsnapshots.specs.folder.Entries.{Entry}

-- the tree after an entry: its update acts, as that of client 0
unfoldable pub after_entry : Tree → Entry → Tree
after_entry t entry = (serve t 0 (call.Update entry)).0

-- after entries, in order
abbrev pub after : Tree → List Entry → Tree
after t [] = t
after t (entry ∷ entries) = after (after_entry t entry) entries
