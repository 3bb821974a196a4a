use Rattle.std.proofs.Common.{[], ap}
use Rattle.std.specs.FinMap.{get-empty}
use Rattle.std.specs.Ordering.{nat_cmp}
use Rattle.zcodec.specs.Forms.{number_at}
use Rattle.zconnections.specs.buffers.Inputs.InputView.{Came}
use Rattle.zguard.specs.Guarding.{CameView, guard_of}
use Rattle.zguard.specs.declared.visitor.Standing.TheVariants.{Admitted, Refused, Stranger}
use Rattle.zguard.specs.support.Samples.{ping_frame}
use Rattle.zjute.specs.Frames.{next_of}
use Rattle.zjute.specs.Jute.{int}
use Rattle.zguard_laws.proofs.Known.{came_absent, came_there}
use Rattle.zguard_laws.proofs.rows.inputs_pass.Goals as goal

pub returns-clause-unknown : goal.returns-clause-unknown
returns-clause-unknown c logins bytes = ap (λ (k : CameView). Came 7 k.passed) (came_absent 7 bytes (guard_of logins) (get-empty nat_cmp 7))

pub returns-clause-admitted : goal.returns-clause-admitted
returns-clause-admitted c g bytes there =
    ap (λ (k : CameView). Came 7 k.passed) (came_there 7 bytes g (record { standing = Admitted; bytes = [] }) there)

pub returns-clause-refused : goal.returns-clause-refused
returns-clause-refused c g bytes there =
    ap (λ (k : CameView). Came 7 k.passed) (came_there 7 bytes g (record { standing = Refused; bytes = [] }) there)

pub returns-clause-stranger : goal.returns-clause-stranger
unfolding next_of int number_at
returns-clause-stranger c g there other =
    ap (λ (k : CameView). Came 7 k.passed) (came_there 7 ping_frame g (record { standing = Stranger; bytes = [] }) there)
