use Rattle.std.proofs.Common.{Some, sym, ap, ◌∙◌}
use Rattle.zprotocol.proofs.world_lemmas.Tables.{all_tables}
use Rattle.zcluster_laws.specs.support.ClusterRows.{tree_at}
use Rattle.zcluster_laws.proofs.Worked.{first_entry, plain_of}
use Rattle.zcluster_laws.proofs.rows.fronts_follow_each_other.Goals as goal

pub returns-clause-had : goal.returns-clause-had
unfolding all_tables
returns-clause-had c t limits secret times u new did = ap (tree_at 2) did.is ∙ sym (ap plain_of did.is_head) ∙ ap Some (first_entry t u)

pub returns-clause-lacked : goal.returns-clause-lacked
unfolding all_tables
returns-clause-lacked c t limits secret times u new did = ap (tree_at 2) did.is ∙ sym (ap plain_of did.is_head)
