use Rattle.std.proofs.Common.{subst, sym}
use Rattle.zsnapshots.specs.folder.Entries.{ReportsPasswords}
use Rattle.zsnapshots.proofs.folder_lemmas.Texts.{read_all, read_fault, reports}
use Rattle.zsnapshots.proofs.folder.reading.read.Goals as goal

pub returns-in-Ok-clause-found : goal.returns-in-Ok-clause-found
returns-in-Ok-clause-found c =
    read_all c.in_ok-tree.tree c.apply_all.new.tree c.args.text.now c.in_ok-tree.rest.now c.in_ok-tree.had_passwords c.in-Ok.more
    c.in_ok-tree.ensures.begins c.in-Ok.ensures.applied

pub returns-in-Ok-clause-passwords : goal.returns-in-Ok-clause-passwords
returns-in-Ok-clause-passwords c =
    subst (ReportsPasswords c.args.text.now) (sym c.either.ensures)
    (reports c.in_ok-tree.tree c.apply_all.new.tree c.args.text.now c.in_ok-tree.rest.now c.in_ok-tree.had_passwords c.in-Ok.more
    c.in_ok-tree.ensures.begins c.in-Ok.ensures.applied)

pub returns-in-Err-clause-fault : goal.returns-in-Err-clause-fault
returns-in-Err-clause-fault c =
    read_fault c.in_ok-tree.tree.tree c.in_ok-tree.had_passwords c.args.text.now c.in_ok-tree.rest.now c.in_ok-tree.ensures.begins
    c.in-Err.fault c.in-Err.ensures.fault
