use Rattle.std.proofs.Common.{arith}
use Rattle.zops.proofs.rows.cached_replies.Goals as goal

pub returns : goal.returns
returns c = record { deleted = tt; refused = tt; multi = omega arith; too_many = λ few. omega (arith, few); names = λ no. no; content = λ no. no; exists = λ no. no }
