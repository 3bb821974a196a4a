use Rattle.std.proofs.Common.{refl}
use Rattle.zwire.specs.records.Records.{server}
use Rattle.zwire.specs.Fields.{epoch, log_number}
use Rattle.zwire.specs.Messages.{last}
use Rattle.zmaster_log.specs.Bytes.{count, node, listed_nodes, nodes, any_news, report, entry}
use Rattle.zmaster_log.proofs.rows.entries_have_bytes.Goals as goal

pub returns : goal.returns
unfolding entry nodes listed_nodes node report any_news count server epoch last log_number
returns c = record { opening = refl; join = refl; retire = refl; have = refl; joined = refl; gone = refl }
