use Rattle.std.proofs.Common.{refl}
use Rattle.zcalls.specs.Cached.{nothing_cached}
use Rattle.zcalls.specs.support.Counting.{number_reply, creates}
use Rattle.zcalls.proofs.CachedReplies.{entered_first, entered_again, entered_other}
use Rattle.zcalls.proofs.rows.updates_act_once.Goals as goal

pub returns-clause-number_0 : goal.returns-clause-number_0
returns-clause-number_0 c = entered_first 7 (creates 1 0)

pub returns-clause-first : goal.returns-clause-first
returns-clause-first c = entered_first 7 (creates 1 1)

pub returns-clause-retry : goal.returns-clause-retry
returns-clause-retry c = entered_again (nothing_cached 7) 7 1 3 (number_reply 7) (creates 1 3) refl

pub returns-clause-late : goal.returns-clause-late
returns-clause-late c = entered_again (nothing_cached 7) 7 1 3 (number_reply 7) (creates 1 2) refl

pub returns-clause-other_client : goal.returns-clause-other_client
returns-clause-other_client c = entered_other 7 7 1 3 (number_reply 7) (creates 2 3) refl
