-- The bytes of an entry: a tag for its kind, and then its fields in order. Numbers have the highest
-- byte first. The meaning of a tag is unchanged in every later version.
use Rattle.std.specs.Prelude.{ℕ, ◌<◌, List, length, Result, Ok, Err, ◌==◌, if◌then◌else◌}
use Rattle.std.specs.Int.{w8, w64}
use Rattle.zcodec.specs.declared.fault.Fault.{Fault}
use Rattle.zcodec.specs.declared.fault.Fault.TheVariants.{Invalid}
use Rattle.zcodec.specs.Forms.{Form, number, both, made}
use Rattle.zcodec.specs.Choices.{sized, listed}
use Rattle.zjute.specs.Shapes.{Spelled, behind, read_as, by_tag, fields}
use Rattle.zprotocol.specs.declared.limits.TheConstants.{MAX_SERVERS}
use Rattle.zwire.specs.records.Records.{server}
use Rattle.zwire.specs.records.Sums.{at_tag, no_tag}
use Rattle.zwire.specs.Fields.{within, epoch}
use Rattle.zwire.specs.Messages.{held}
use Rattle.zmaster_log.specs.declared.limits.TheConstants.{MAX_NODE_NAME, MAX_ENTRIES}
use Rattle.zmaster_log.specs.declared.entry.LogEntry.{LogEntry}
use Rattle.zmaster_log.specs.declared.entry.LogEntry.TheVariants as log
use Rattle.zmaster_log.specs.declared.entry.Report.{Report}
use Rattle.zmaster_log.specs.declared.entry.News.{News}
use Rattle.zmaster_log.specs.declared.entry.News.TheVariants as news
use Rattle.zmaster_log.specs.Nodes.{is_node_name, IsNodeName}

-- ---- fields

-- a number of entries
unfoldable pub count : Form ℕ
count = within w64 MAX_ENTRIES

-- the name of a node
abbrev pub name_from : List ℕ → Result (List ℕ) Fault
name_from bytes = if is_node_name bytes then Ok bytes else Err Invalid

unfoldable pub node : Form (List ℕ)
node = made (sized MAX_NODE_NAME) (λ name. name) name_from IsNodeName

-- the nodes of the initial chain, at least one
abbrev pub names_from : List (List ℕ) → Result (List (List ℕ)) Fault
names_from names = if length names == 0 then Err Invalid else Ok names

unfoldable pub listed_nodes : Form (List (List ℕ))
listed_nodes = listed MAX_SERVERS node

unfoldable pub nodes : Form (List (List ℕ))
nodes = made listed_nodes (λ names. names) names_from (λ names. listed_nodes.Fits names × (0 < length names))

-- ---- reports

unfoldable pub news_at : ℕ → List ℕ → Result (News × List ℕ) Fault
news_at =
    at_tag 0 (read_as held (λ h. news.Have h.0 h.1))
    (at_tag 1 (read_as epoch (λ n. news.Joined n))
    (at_tag 2 (read_as server (λ id. news.Gone id)) no_tag))

abbrev pub news_spelled : News → Spelled ℕ
news_spelled (news.Have n last) = behind 0 held (n, last)
news_spelled (news.Joined n) = behind 1 epoch n
news_spelled (news.Gone id) = behind 2 server id

unfoldable pub any_news : Form News
any_news = by_tag (number w8) news_at news_spelled

-- author, earlier reports, news
unfoldable pub report : Form Report
report = fields (both server (both count any_news)) (λ r. (r.author, (r.earlier, r.news)))
    (λ f. record { author = f.0; earlier = f.1.0; news = f.1.1 })

-- ---- entries

abbrev pub joined : Form (ℕ × List ℕ)
joined = both server node

unfoldable pub entry_at : ℕ → List ℕ → Result (LogEntry × List ℕ) Fault
entry_at =
    at_tag 0 (read_as nodes (λ names. log.Opening names))
    (at_tag 1 (read_as joined (λ j. log.Join j.0 j.1))
    (at_tag 2 (read_as server (λ id. log.Retire id))
    (at_tag 3 (read_as report (λ r. log.Reported r)) no_tag)))

abbrev pub entry_spelled : LogEntry → Spelled ℕ
entry_spelled (log.Opening names) = behind 0 nodes names
entry_spelled (log.Join id name) = behind 1 joined (id, name)
entry_spelled (log.Retire id) = behind 2 server id
entry_spelled (log.Reported r) = behind 3 report r

unfoldable pub entry : Form LogEntry
entry = by_tag (number w8) entry_at entry_spelled
