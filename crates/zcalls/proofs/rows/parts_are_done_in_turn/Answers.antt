use Rattle.std.proofs.Common.{ap, refl, ◌∙◌}
use Rattle.zcalls.specs.declared.reply.PartReply.TheVariants.{Checked}
use Rattle.zcalls.specs.Multi.{behind, and_then, run}
use Rattle.zcalls.proofs.rows.parts_are_done_in_turn.Goals as goal

pub returns : goal.returns
unfolding run
returns c = record {
  none = λ t client. refl;
  refused = λ t client part parts did. ap (λ did. and_then did (λ u. run u client parts)) did;
  refused_later = λ t u client part parts did later. ap (λ did. and_then did (λ u. run u client parts)) did ∙ ap (behind Checked) later;
  done = λ v t u client part parts did later. ap (λ did. and_then did (λ u. run u client parts)) did ∙ ap (behind Checked) later;
}
