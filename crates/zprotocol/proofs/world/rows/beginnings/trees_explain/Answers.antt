use Rattle.zprotocol.proofs.world_lemmas.FirstCallsFrom.{silence_from, first_query_from, no_other_reply}
use Rattle.zprotocol.proofs.world.rows.beginnings.trees_explain.Goals as goal

pub returns : goal.returns
returns c = record {
  silence = silence_from;
  first_query = λ t q can. first_query_from t can q;
  no_other = λ t q reply. no_other_reply q reply t;
  to_initial = λ h is. is;
  from_initial = λ h is. is;
}
