use Rattle.std.proofs.Common.{◌∙◌, ap, ◌++◌, ◌∷◌, [], List, ℕ}
use Rattle.zjournal.specs.Journal.{head}
use Rattle.zjournal.proofs.Renewals.{untouched_both}
use Rattle.zjournal.proofs.beside.begin_file.Goals as goal

pub returns-in_err-add_open_block-clause-untouched : goal.returns-in_err-add_open_block-clause-untouched
returns-in_err-add_open_block-clause-untouched g c =
    untouched_both g.D.Device.seen g.D.Device.may_leave g.D.Device.moment g.D.Device.left_since c.args.device.now
    c.begin.new.device c.add_open_block.new.device c.begin.ensures.untouched c.add_open_block.ensures.untouched

pub returns-clause-untouched : goal.returns-clause-untouched
returns-clause-untouched g c =
    untouched_both g.D.Device.seen g.D.Device.may_leave g.D.Device.moment g.D.Device.left_since c.args.device.now
    c.begin.new.device c.add_open_block.new.device c.begin.ensures.untouched c.add_open_block.ensures.untouched

pub returns-clause-begun : goal.returns-clause-begun
returns-clause-begun g c =
    c.in_ok-add_open_block.ensures.added (head c.args.start c.args.servers) c.head_block.ensures
    ∙ ap (λ (l : List ℕ). l ++ 1 ∷ (head c.args.start c.args.servers ++ 0 ∷ [])) c.in_ok-begin.ensures.begun
