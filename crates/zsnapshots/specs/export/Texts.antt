-- What is printed of a tree and of the folder that holds it. This is the project's profile.
use Rattle.std.specs.Prelude.{ℕ, List, ◌++◌, codes}
use Rattle.std.specs.Fmt.{decimal}
use Rattle.zsnapshots.specs.declared.export.tally.TreeCounts.{TreeCounts}
use Rattle.zsnapshots.specs.declared.export.stat.FolderStat.{FolderStat}

-- a number, with a text before it and one after it
unfoldable pub around : List ℕ → ℕ → List ℕ → List ℕ
around front n back = front ++ (decimal n ++ back)

-- What an export leaves out, since no line makes it. The versions are those of data, of children
-- and of access control lists. A later sequential create may find that the name from its counter is
-- taken.
unfoldable pub left_out_text : TreeCounts → List ℕ
left_out_text c =
    around (codes "zk: export: ephemeral nodes left out: ") c.ephemerals (codes "\n")
    ++ around (codes "zk: export: sessions left out: ") c.sessions (codes "\n")
    ++ around (codes "zk: export: versions begin again at 0, zxids too (the last is ") c.changes (codes ")")
    ++ around (codes ", and ticks (it is ") c.ticks (codes ")\n")
    ++ around (codes "zk: export: counters of sequential names begin again at 0 (above 0: ") c.counters (codes "): a name may be taken\n")

-- a line for each number
unfoldable pub stat_text : FolderStat → List ℕ
stat_text s =
    around (codes "nodes: ") s.tree.nodes (codes "\n")
    ++ around (codes "bytes of data: ") s.tree.bytes (codes "\n")
    ++ around (codes "sessions: ") s.tree.sessions (codes "\n")
    ++ around (codes "changes: ") s.tree.changes (codes "\n")
    ++ around (codes "bytes of the journal: ") s.journal (codes "\n")
    ++ around (codes "bytes of the snapshot with which it begins: ") s.snapshot (codes "\n")
