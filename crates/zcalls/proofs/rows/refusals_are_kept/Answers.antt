use Rattle.std.proofs.Common.{refl}
use Rattle.zcalls.specs.declared.refusal.Refusal.TheVariants.{NoNode}
use Rattle.zcalls.specs.declared.reply.Reply.TheVariants.{Refused}
use Rattle.zcalls.specs.support.Counting.{number_reply, creates, deletes, one, created}
use Rattle.zcalls.proofs.CachedReplies.{entered_first, entered_again}
use Rattle.zcalls.proofs.rows.refusals_are_kept.Goals as goal

pub returns : goal.returns
returns c = record {
  number_0 = entered_first 1 (creates 1 0);
  acts = entered_first 1 (creates 1 1);
  again = entered_again one 2 1 1 (number_reply 2) (creates 1 1) refl;
  refused = entered_again one 2 1 1 (number_reply 2) (deletes 1 2) refl;
  late = entered_again created 2 1 2 (Refused NoNode) (creates 1 1) refl;
  refused_again = entered_again created 2 1 2 (Refused NoNode) (deletes 1 2) refl;
}
