use Rattle.std.proofs.Common.{Bool, sym, subst}
use Rattle.zsnapshots.specs.Loading.{bytes_loaded}
use Rattle.ztree_service.specs.Local.{LocalTreeView}
use Rattle.std.specs.Prelude.{false}
use Rattle.zsnapshots.specs.folder.support.Reading.{Begins, IsLoaded}
use Rattle.zsnapshots.proofs.folder_lemmas.Texts.{begins_bare, begins_snapshot, no_tree}
use Rattle.zsnapshots.proofs.folder.front_reading.begun.Goals as goal

pub returns-in_default-clause-fault : goal.returns-in_default-clause-fault
returns-in_default-clause-fault c = rw c.in_default.is at c.in_ok-behind.ensures.none

pub returns-then-not-behind-clause-begins : goal.returns-then-not-behind-clause-begins
returns-then-not-behind-clause-begins c =
    let text = c.args.text.now in
    let behind = c.in-Some.behind in
    let rows = bytes_loaded c.load.new.loading in
    let loaded = rw c.in-Some.is at c.in_ok-behind.ensures.some in
    subst (λ (v : LocalTreeView). Begins v.tree false text text) (sym c.in_ok-new.ensures)
    (begins_bare rows behind.had_passwords text behind.rest.now
    (subst (λ (b : Bool). IsLoaded rows b behind.had_passwords text behind.rest.now) c.if-not-behind.true loaded))

pub returns-in_default-2-clause-fault : goal.returns-in_default-2-clause-fault
returns-in_default-2-clause-fault c =
    let text = c.args.text.now in
    let behind = c.in-Some.behind in
    let rows = bytes_loaded c.load.new.loading in
    let loaded = rw c.in-Some.is at c.in_ok-behind.ensures.some in
    no_tree rows behind.had_passwords text behind.rest.now
    (subst (λ (b : Bool). IsLoaded rows b behind.had_passwords text behind.rest.now) c.if-not-behind.false loaded)
    (rw c.in_default-2.is at c.in_ok-machine.ensures.none)

pub returns-clause-begins : goal.returns-clause-begins
returns-clause-begins c =
    let text = c.args.text.now in
    let behind = c.in-Some.behind in
    let rows = bytes_loaded c.load.new.loading in
    let loaded = rw c.in-Some.is at c.in_ok-behind.ensures.some in
    subst (λ (v : LocalTreeView). Begins v.tree behind.had_passwords text behind.rest.now) (sym c.of-tree.ensures)
    (begins_snapshot rows behind.had_passwords text behind.rest.now
    (subst (λ (b : Bool). IsLoaded rows b behind.had_passwords text behind.rest.now) c.if-not-behind.false loaded)
    c.in-Some-2.machine (rw c.in-Some-2.is at c.in_ok-machine.ensures.some))
