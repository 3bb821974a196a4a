-- No row of a state is long.
use Rattle.std.proofs.Common.{ℕ, ◌+◌, ◌*◌, ◌≤◌, List, [], ◌∷◌, length, length-append, arith}
use Rattle.std.specs.List.{AllByRecursion, flat_map}
use Rattle.ztree.specs.declared.node.Node.{Node}
use Rattle.ztree.specs.declared.node.Stat.{Stat}
use Rattle.ztree.specs.declared.session.Session.{Session}
use Rattle.ztree.specs.Tree.{Path}
use Rattle.zcalls.specs.declared.refusal.Refusal.{Refusal}
use Rattle.zcalls.specs.declared.refusal.Refusal.TheVariants.{NoNode, NodeExists, NotEmpty, BadVersion}
use Rattle.zcalls.specs.declared.refusal.Refusal.TheVariants.{NoChildrenForEphemerals, SessionGone, SequenceFull}
use Rattle.zcalls.specs.declared.refusal.Refusal.TheVariants.{PathLimit, RootFixed, Full, TooManySessions, Exhausted}
use Rattle.zcalls.specs.declared.reply.PartReply.{PartReply}
use Rattle.zcalls.specs.declared.reply.PartReply.TheVariants as part
use Rattle.zcalls.specs.declared.reply.Reply.{Reply}
use Rattle.zcalls.specs.declared.reply.Reply.TheVariants as reported
use Rattle.zcalls.specs.Cached.{Cached}
use Rattle.zcalls.specs.declared.limits.TheConstants.{MOST_PARTS}
use Rattle.zops.specs.Restored.{IsOfUpdate}
use Rattle.zwire.specs.records.Fields.{path, content}
use Rattle.zwire.specs.Fields.{call_number, log_number, client, stat, refusal}
use Rattle.zwire.specs.Replies.{part_reply, replies, reply}
use Rattle.zsnapshots.specs.declared.header.Header.{Header}
use Rattle.zsnapshots.specs.declared.limits.TheConstants.{MAX_ROW}
use Rattle.zsnapshots.specs.Rows.{limits, header_text, session, session_text, term, node, node_text, kept, reply_text}
use Rattle.zsnapshots.specs.Laws.{RowsAreShort}
use Rattle.zsnapshots.specs.States.StateRow.{OfHeader, OfSession, OfNode, OfReply}

pub header-short : (h : Header) → length (header_text.spell h) ≤ MAX_ROW
unfolding header_text limits log_number
header-short h = omega arith

pub session-short : (e : ℕ × Session) → length (session_text.spell e) ≤ MAX_ROW
unfolding session_text session client
session-short e = omega arith

path-short : (p : Path) → path.Fits p → length (path.spell p) ≤ 1028
unfolding path
path-short p fits = let short = fits.short in omega (arith, short)

stat-short : (s : Stat) → length (stat.spell s) ≤ 88
unfolding stat
stat-short s = omega arith

pub node-short : (e : Path × Node) → node_text.Fits e → length (node_text.spell e) ≤ MAX_ROW
unfolding node_text node term content
node-short e fits =
    let front = path-short e.0 fits.0 in
    let both = length-append (path.spell e.0) (node.spell e.1) in
    let few = fits.1.1.1.1.1.0 in
    omega (arith, front, both, few)

part-short : (p : PartReply) → part_reply.Fits p → length (part_reply.spell p) ≤ 1029
unfolding part_reply
part-short (part.Created p) fits = let short = path-short p fits.1 in omega (arith, short)
part-short part.Deleted fits = omega arith
part-short (part.Set s) fits = let short = stat-short s in omega (arith, short)
part-short part.Checked fits = omega arith

parts-short : (ps : List PartReply) → AllByRecursion part_reply.Fits ps → length (flat_map part_reply.spell ps) ≤ 1029 * length ps
parts-short [] fit = omega arith
parts-short (p ∷ ps) fit =
    let first = part-short p fit.0 in
    let rest = parts-short ps fit.1 in
    let both = length-append (part_reply.spell p) (flat_map part_reply.spell ps) in
    omega (arith, first, rest, both)

refusal-short : (r : Refusal) → length (refusal.spell r) ≤ 1
unfolding refusal
refusal-short NoNode = omega arith
refusal-short NodeExists = omega arith
refusal-short NotEmpty = omega arith
refusal-short BadVersion = omega arith
refusal-short NoChildrenForEphemerals = omega arith
refusal-short SessionGone = omega arith
refusal-short SequenceFull = omega arith
refusal-short PathLimit = omega arith
refusal-short RootFixed = omega arith
refusal-short Full = omega arith
refusal-short TooManySessions = omega arith
refusal-short Exhausted = omega arith

told-short : (r : Reply) → reply.Fits r → IsOfUpdate r → length (reply.spell r) ≤ 1029 * MOST_PARTS + 9
unfolding reply replies
told-short (reported.Created p) fits of_update = let short = path-short p fits.1 in omega (arith, short)
told-short reported.Deleted fits of_update = omega arith
told-short (reported.Set s) fits of_update = let short = stat-short s in omega (arith, short)
told-short (reported.Multi rs) fits of_update = let short = parts-short rs fits.1.1.1 in omega (arith, short, of_update)
told-short (reported.Opened id timeout) fits of_update = omega arith
told-short reported.Pinged fits of_update = omega arith
told-short reported.Closed fits of_update = omega arith
told-short (reported.Ticked tick ended removed) fits of_update = omega arith
told-short (reported.Data bytes s) fits of_update = absurd of_update
told-short (reported.Exists s) fits of_update = absurd of_update
told-short (reported.Children ns) fits of_update = absurd of_update
told-short (reported.Refused r) fits of_update = let short = refusal-short r in omega (arith, short)
told-short (reported.MultiRefused n r) fits of_update = let short = refusal-short r in omega (arith, short)

pub reply-short : (e : ℕ × Cached) → reply_text.Fits e → IsOfUpdate e.1.reply → length (reply_text.spell e) ≤ MAX_ROW
unfolding reply_text kept client call_number
reply-short e fits of_update = let short = told-short e.1.reply fits.1.1 of_update in omega (arith, short)

pub rows_short : RowsAreShort
rows_short (OfHeader h) fits = let short = header-short h in omega (arith, short)
rows_short (OfSession e) fits = let short = session-short e in omega (arith, short)
rows_short (OfNode e) fits = let short = node-short e fits.0 in omega (arith, short)
rows_short (OfReply e) fits = let short = reply-short e fits.0.0 fits.1 in omega (arith, short)
