-- Incarnations and parts for worked examples.
use Rattle.std.specs.Prelude.{List, []}
use Rattle.ztree.specs.Limits.{profile}
use Rattle.ztree.specs.declared.limits.TreeLimits.{TreeLimits}
use Rattle.ztree_service.specs.log.Logs.{Log}
use Rattle.zsnapshots.specs.folder.Entries.{Entry}
use Rattle.zdurable.specs.Incarnations.{Incarnation, Part}

-- an incarnation that acknowledged this log; these entries were in flight when it ended
abbrev pub ended : Log → List Entry → Incarnation
ended log under_way = record { limits = profile; reported = log; kept = []; under_way = under_way }

-- limits of so many nodes, and a part within them in which no call was answered
abbrev pub nodes_at_most : TreeLimits
nodes_at_most = record profile { nodes = 100 }

abbrev pub idle : Part
idle = record { limits = nodes_at_most; log = [] }
