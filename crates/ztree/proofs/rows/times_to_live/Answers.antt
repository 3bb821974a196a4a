use Rattle.std.proofs.Common.{refl}
use Rattle.ztree.proofs.Worked.{two_entries}
use Rattle.ztree.proofs.rows.times_to_live.Goals as goal

pub returns-clause-early : goal.returns-clause-early
returns-clause-early c = refl

pub returns-clause-due : goal.returns-clause-due
returns-clause-due c = refl

pub returns-clause-late : goal.returns-clause-late
returns-clause-late c = refl

pub returns-clause-for_good : goal.returns-clause-for_good
returns-clause-for_good c = refl

pub returns-clause-none_yet : goal.returns-clause-none_yet
returns-clause-none_yet c = rw two_entries refl

pub returns-clause-leaves_alone : goal.returns-clause-leaves_alone
returns-clause-leaves_alone c = rw two_entries refl
