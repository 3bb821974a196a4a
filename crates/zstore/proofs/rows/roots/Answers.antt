use Rattle.std.proofs.Common.{refl, arith}
use Rattle.zstore.proofs.Worked.{timed_ends, container_ends}
use Rattle.zstore.proofs.rows.roots.Goals as goal

pub returns-clause-yes : goal.returns-clause-yes
returns-clause-yes c = record { nobodys = refl; stays = refl }

pub returns-clause-owned : goal.returns-clause-owned
returns-clause-owned c = λ can. absurd (omega (arith, can.nobodys))

pub returns-clause-timed : goal.returns-clause-timed
returns-clause-timed c = λ can. timed_ends 12 can.stays

pub returns-clause-container : goal.returns-clause-container
returns-clause-container c = λ can. container_ends can.stays
