-- Forms of queries and of replies, with a tag for each kind.
use Rattle.std.specs.Prelude.{ℕ, List, Result}
use Rattle.std.specs.Int.{w8}
use Rattle.zcodec.specs.declared.fault.Fault.{Fault}
use Rattle.zcodec.specs.Forms.{Form, number, both, empty}
use Rattle.zjute.specs.Shapes.{Spelled, behind, read_as, by_tag}
use Rattle.ztree.specs.declared.node.Stat.{Stat}
use Rattle.zcalls.specs.declared.call.Query.{Query}
use Rattle.zcalls.specs.declared.call.Query.TheVariants as ask
use Rattle.zcalls.specs.declared.refusal.Refusal.{Refusal}
use Rattle.zcalls.specs.declared.reply.PartReply.{PartReply}
use Rattle.zcalls.specs.declared.reply.PartReply.TheVariants as part
use Rattle.zcalls.specs.declared.reply.Reply.{Reply}
use Rattle.zcalls.specs.declared.reply.Reply.TheVariants as reported
use Rattle.zwire.specs.records.Sums.{at_tag, no_tag}
use Rattle.zwire.specs.records.Fields.{path, content, long}
use Rattle.zwire.specs.Fields.{stat, refusal, name, counted}

-- ---- queries

unfoldable pub query_at : ℕ → List ℕ → Result (Query × List ℕ) Fault
query_at =
    at_tag 0 (read_as path (λ p. ask.GetData p))
    (at_tag 1 (read_as path (λ p. ask.Exists p))
    (at_tag 2 (read_as path (λ p. ask.GetChildren p)) no_tag))

abbrev pub query_spelled : Query → Spelled ℕ
query_spelled (ask.GetData p) = behind 0 path p
query_spelled (ask.Exists p) = behind 1 path p
query_spelled (ask.GetChildren p) = behind 2 path p

unfoldable pub query : Form Query
query = by_tag (number w8) query_at query_spelled

-- ---- the replies to the parts of a multi

unfoldable pub part_reply_at : ℕ → List ℕ → Result (PartReply × List ℕ) Fault
part_reply_at =
    at_tag 0 (read_as path (λ p. part.Created p))
    (at_tag 1 (read_as empty (λ _. part.Deleted))
    (at_tag 2 (read_as stat (λ s. part.Set s))
    (at_tag 3 (read_as empty (λ _. part.Checked)) no_tag)))

abbrev pub part_reply_spelled : PartReply → Spelled ℕ
part_reply_spelled (part.Created p) = behind 0 path p
part_reply_spelled part.Deleted = behind 1 empty tt
part_reply_spelled (part.Set s) = behind 2 stat s
part_reply_spelled part.Checked = behind 3 empty tt

unfoldable pub part_reply : Form PartReply
part_reply = by_tag (number w8) part_reply_at part_reply_spelled

unfoldable pub replies : Form (List PartReply)
replies = counted part_reply

unfoldable pub names : Form (List (List ℕ))
names = counted name

-- ---- replies

-- a session's id and its timeout
abbrev pub opened : Form (ℕ × ℕ)
opened = both long long

-- a tick, the number of sessions that it ended, and that of the nodes that it removed
abbrev pub ticked : Form (ℕ × (ℕ × ℕ))
ticked = both long (both long long)

-- data and a stat
abbrev pub data_stat : Form (List ℕ × Stat)
data_stat = both content stat

-- the number of a part, and why it was refused
abbrev pub refused_part : Form (ℕ × Refusal)
refused_part = both long refusal

-- after the tags of answers to queries, and of refusals
unfoldable pub other_reply_at : ℕ → List ℕ → Result (Reply × List ℕ) Fault
other_reply_at =
    at_tag 8 (read_as data_stat (λ d. reported.Data d.0 d.1))
    (at_tag 9 (read_as stat (λ s. reported.Exists s))
    (at_tag 10 (read_as names (λ ns. reported.Children ns))
    (at_tag 11 (read_as refusal (λ r. reported.Refused r))
    (at_tag 12 (read_as refused_part (λ r. reported.MultiRefused r.0 r.1)) no_tag))))

-- after any tag
unfoldable pub reply_at : ℕ → List ℕ → Result (Reply × List ℕ) Fault
reply_at =
    at_tag 0 (read_as path (λ p. reported.Created p))
    (at_tag 1 (read_as empty (λ _. reported.Deleted))
    (at_tag 2 (read_as stat (λ s. reported.Set s))
    (at_tag 3 (read_as replies (λ rs. reported.Multi rs))
    (at_tag 4 (read_as opened (λ o. reported.Opened o.0 o.1))
    (at_tag 5 (read_as empty (λ _. reported.Pinged))
    (at_tag 6 (read_as empty (λ _. reported.Closed))
    (at_tag 7 (read_as ticked (λ t. reported.Ticked t.0 t.1.0 t.1.1)) other_reply_at)))))))

abbrev pub reply_spelled : Reply → Spelled ℕ
reply_spelled (reported.Created p) = behind 0 path p
reply_spelled reported.Deleted = behind 1 empty tt
reply_spelled (reported.Set s) = behind 2 stat s
reply_spelled (reported.Multi rs) = behind 3 replies rs
reply_spelled (reported.Opened id timeout) = behind 4 opened (id, timeout)
reply_spelled reported.Pinged = behind 5 empty tt
reply_spelled reported.Closed = behind 6 empty tt
reply_spelled (reported.Ticked tick ended removed) = behind 7 ticked (tick, (ended, removed))
reply_spelled (reported.Data bytes s) = behind 8 data_stat (bytes, s)
reply_spelled (reported.Exists s) = behind 9 stat s
reply_spelled (reported.Children ns) = behind 10 names ns
reply_spelled (reported.Refused r) = behind 11 refusal r
reply_spelled (reported.MultiRefused n r) = behind 12 refused_part (n, r)

unfoldable pub reply : Form Reply
reply = by_tag (number w8) reply_at reply_spelled
