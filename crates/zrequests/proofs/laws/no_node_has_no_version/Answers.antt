use Rattle.std.proofs.Common.{◌≤◌, ◌*◌, arith}
use Rattle.zrequests.proofs.laws.no_node_has_no_version.Goals as goal

pub returns : goal.returns
returns c = λ t path n bounded found.
    let is = bounded.counters path n found in
    let version : n.version ≤ 2097152 * t.zxid = is.version in
    let acl : n.aversion ≤ 2097152 * t.zxid = is.aversion in
    (omega arith, omega arith)
