use Rattle.std.proofs.Common.{ap, map}
use Rattle.zsnapshots.specs.Loading.{bytes_loaded}
use Rattle.zsnapshots.specs.States.{spelled}
use Rattle.ztree_service.specs.Machines.{machine_of}
use Rattle.zsnapshots.proofs.folder_lemmas.Texts.{has_tree, not_bare}
use Rattle.zsnapshots.proofs.folder.front_reading.bare_machine.Goals as goal

pub returns-in_default-clause-none : goal.returns-in_default-clause-none
returns-in_default-clause-none c = λ t. (rw c.in_default.is at c.finish.ensures.none) (machine_of t)

pub returns-then-not-branch-clause-none : goal.returns-then-not-branch-clause-none
returns-then-not-branch-clause-none c =
    let rows = rw c.in-Some.is at c.finish.ensures.rows in
    let readable = rw c.in-Some.is at c.finish.ensures.readable in
    not_bare (bytes_loaded c.args.loading) c.in-Some.machine readable (ap (map spelled) rows)
    (c.in_ok-is_bare.ensures.no c.if-not-branch.true)

pub returns-clause-some : goal.returns-clause-some
returns-clause-some c =
    let rows = rw c.in-Some.is at c.finish.ensures.rows in
    let readable = rw c.in-Some.is at c.finish.ensures.readable in
    let whole = rw c.in-Some.is at c.finish.ensures.whole in
    has_tree (bytes_loaded c.args.loading) c.in-Some.machine readable (ap (map spelled) rows) whole
    (c.in_ok-is_bare.ensures.yes c.if-not-branch.false)
