use Rattle.std.proofs.Common.{refl}
use Rattle.zrace.proofs.racing.race.Goals as goal

pub returns-clause-run : goal.returns-clause-run
returns-clause-run g c = record {
  finish = c.in_ok-finish.finish;
  run = c.in_ok-finish.ensures.run;
  versions = refl;
  audit = c.audited-audit.ensures.audit;
}
