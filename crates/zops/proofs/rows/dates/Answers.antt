use Rattle.std.proofs.Common.{arith}
use Rattle.zops.proofs.rows.dates.Goals as goal

pub returns-clause-yes : goal.returns-clause-yes
returns-clause-yes c = record {
  czxid = omega arith;
  mzxid = omega arith;
  pzxid = omega arith;
  ctime = omega arith;
  mtime = omega arith;
}

pub returns-clause-czxid : goal.returns-clause-czxid
returns-clause-czxid c = λ dated. absurd (omega (arith, dated.czxid))

pub returns-clause-mzxid : goal.returns-clause-mzxid
returns-clause-mzxid c = λ dated. absurd (omega (arith, dated.mzxid))

pub returns-clause-pzxid : goal.returns-clause-pzxid
returns-clause-pzxid c = λ dated. absurd (omega (arith, dated.pzxid))

pub returns-clause-ctime : goal.returns-clause-ctime
returns-clause-ctime c = λ dated. absurd (omega (arith, dated.ctime))

pub returns-clause-mtime : goal.returns-clause-mtime
returns-clause-mtime c = λ dated. absurd (omega (arith, dated.mtime))
