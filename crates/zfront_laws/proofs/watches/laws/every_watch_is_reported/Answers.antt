use Rattle.zfront_laws.proofs.watches_lemmas.Running.{every_watch_is_reported}
use Rattle.zfront_laws.proofs.watches.laws.every_watch_is_reported.Goals as goal

pub returns : goal.returns
returns c = every_watch_is_reported
