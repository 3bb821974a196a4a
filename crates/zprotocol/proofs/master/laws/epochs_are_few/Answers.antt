use Rattle.zprotocol.proofs.master_lemmas.Bounds.{opening_is_bounded, messages_keep, orders_keep}
use Rattle.zprotocol.proofs.master.laws.epochs_are_few.Goals as goal

pub returns : goal.returns
returns c = record { opening = opening_is_bounded; messages = messages_keep; orders = orders_keep _ }
