use Rattle.zmaster_log.proofs.Gone.{reports_end, late_are_skipped, taken_once}
use Rattle.zmaster_log.proofs.laws.gone_servers_are_silent.Goals as goal

pub returns : goal.returns
returns g c = record { ends = reports_end g.row.T.Denot; skipped = late_are_skipped g.row.T.Denot; once = taken_once g.row.T.Denot }
