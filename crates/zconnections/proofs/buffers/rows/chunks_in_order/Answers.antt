use Rattle.std.proofs.Common.{refl}
use Rattle.zconnections.proofs.buffers.rows.chunks_in_order.Goals as goal

pub returns : goal.returns
returns c = record { first = λ p q. refl; none = refl; without = λ p q three five. rw (three, five) refl }
