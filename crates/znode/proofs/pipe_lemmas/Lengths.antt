-- An entry of the log has few bytes.
use Rattle.std.proofs.Common.{◌≡◌, ℕ, ◌*◌, ◌≤◌, true, not, ◌&&◌, ◌==◌, nat_le, List, [], ◌∷◌, length, length-append, Option, None, Some, arith}
use Rattle.std.specs.List.{flat_map, AllByRecursion}
use Rattle.std.proofs.lemmas.Bool.Decides.{nat_tests}
use Rattle.std.proofs.lemmas.List.Concat.{flat_map-cons}
use Rattle.zwire.specs.records.Records.{server}
use Rattle.zwire.specs.Fields.{epoch, log_number}
use Rattle.zwire.specs.Messages.{last}
use Rattle.zmaster_log.specs.declared.limits.TheConstants.{MAX_NODE_NAME}
use Rattle.zmaster_log.specs.declared.entry.LogEntry.{LogEntry}
use Rattle.zmaster_log.specs.declared.entry.LogEntry.TheVariants as log
use Rattle.zmaster_log.specs.declared.entry.News.{News}
use Rattle.zmaster_log.specs.declared.entry.News.TheVariants as news
use Rattle.zmaster_log.specs.Nodes.{has_bad_byte, IsNodeName}
use Rattle.zmaster_log.specs.Bytes.{count, node, listed_nodes, nodes, any_news, report, entry}
use Rattle.zmaster_log.proofs.Flags.{left, right}
use Rattle.znode.specs.declared.limits.TheConstants.{MAX_ENTRY}

name_short : (name : List ℕ) → IsNodeName name → length name ≤ MAX_NODE_NAME
name_short name is =
    let short : nat_le (length name) MAX_NODE_NAME ≡ true =
    right (not (length name == 0)) (nat_le (length name) MAX_NODE_NAME)
    (left (not (length name == 0) && nat_le (length name) MAX_NODE_NAME) (not (has_bad_byte name)) is) in
    grind (arith, nat_tests, short)

node_short : (name : List ℕ) → node.Fits name → length (node.spell name) ≤ 36
unfolding node
node_short name is = omega (arith, name_short name is)

nodes_short : (names : List (List ℕ)) → AllByRecursion node.Fits names → length (flat_map node.spell names) ≤ 36 * length names
nodes_short [] are = omega arith
nodes_short (name ∷ names) are = rw (flat_map-cons node.spell name names)
    (omega (arith, length-append (node.spell name) (flat_map node.spell names), node_short name are.0, nodes_short names are.1))

last_short : (number : Option ℕ) → length (last.spell number) ≤ 9
unfolding last log_number
last_short None = omega arith
last_short (Some n) = omega arith

news_short : (n : News) → length (any_news.spell n) ≤ 18
unfolding any_news epoch server
news_short (news.Have n number) = omega (arith, last_short number)
news_short (news.Joined n) = omega arith
news_short (news.Gone s) = omega arith

-- so a reader of inputs takes it
pub entry_short : (e : LogEntry) → entry.Fits e → length (entry.spell e) ≤ MAX_ENTRY
unfolding entry nodes listed_nodes report count server
entry_short (log.Opening names) fits = omega (arith, nodes_short names fits.1.0.1.1, fits.1.0.0)
entry_short (log.Join s name) fits = omega (arith, node_short name fits.1.1)
entry_short (log.Retire s) fits = omega arith
entry_short (log.Reported r) fits = omega (arith, news_short r.news)
