-- The text of replies. It is this project's profile. Data is base64, by RFC 4648, section 4.
use Rattle.std.specs.Prelude.{ℕ, List, [], ◌∷◌, ◌++◌, length, codes, nat_lt, if◌then◌else◌}
use Rattle.std.specs.Fmt.{decimal}
use Rattle.std.specs.List.{flat_map}
use Rattle.zpath.specs.Grammar.{text_of}
use Rattle.ztree.specs.declared.node.Stat.{Stat}
use Rattle.zcalls.specs.declared.reply.Reply.{Reply}
use Rattle.zcalls.specs.declared.reply.Reply.TheVariants.{Created, Deleted, Set, Multi, Opened, Pinged, Closed, Ticked, Data, Exists, Children, Refused, MultiRefused}
use Rattle.zcalls.specs.declared.reply.PartReply.{PartReply}
use Rattle.zcalls.specs.declared.reply.PartReply.TheVariants as part
use Rattle.zcalls.specs.Step.{refusal_name}
use Rattle.zscript_text.specs.LineWords.{data_text}

-- the ten numbers of a stat, in the order of the text
abbrev pub numbers_of : Stat → List ℕ
numbers_of s =
    s.czxid ∷ s.mzxid ∷ s.pzxid ∷ s.ctime ∷ s.mtime ∷ s.version ∷ s.cversion ∷ s.owner ∷ s.length ∷ s.children ∷ []

-- a space and the number in decimal
abbrev pub spaced_number : ℕ → List ℕ
spaced_number n = 32 ∷ decimal n

-- the numbers of a stat, each with a space before it
abbrev pub stat_text : Stat → List ℕ
stat_text s = flat_map spaced_number (numbers_of s)

-- the reply to one part of a multi
abbrev pub part_text : PartReply → List ℕ
part_text (part.Created path) = text_of path
part_text part.Deleted = codes "deleted"
part_text (part.Set stat) = codes "stat" ++ stat_text stat
part_text part.Checked = codes "checked"

-- the reply to a further part
abbrev pub next_part_text : PartReply → List ℕ
next_part_text reply = codes " ; " ++ part_text reply

-- the replies to the parts of a multi
abbrev pub parts_text : List PartReply → List ℕ
parts_text [] = []
parts_text (reply ∷ replies) = part_text reply ++ flat_map next_part_text replies

-- a space and the name
abbrev pub spaced_name : List ℕ → List ℕ
spaced_name name = 32 ∷ name

-- the number of nodes that a tick removed, if not zero
abbrev pub removed_text : ℕ → List ℕ
removed_text removed = if nat_lt 0 removed then codes " removed " ++ decimal removed else []

-- the text of a reply
abbrev pub reply_text : Reply → List ℕ
reply_text (Created path) = codes "ok " ++ text_of path
reply_text Deleted = codes "ok deleted"
reply_text (Set stat) = codes "ok stat" ++ stat_text stat
reply_text (Multi replies) = codes "ok multi " ++ parts_text replies
reply_text (Opened session timeout) = codes "ok session " ++ decimal session ++ codes " timeout " ++ decimal timeout
reply_text Pinged = codes "ok pinged"
reply_text Closed = codes "ok closed"
reply_text (Ticked time ended removed) = (codes "ok tick " ++ decimal time ++ codes " ended " ++ decimal ended) ++ removed_text removed
reply_text (Data bytes stat) = codes "ok data " ++ data_text bytes ++ codes " stat" ++ stat_text stat
reply_text (Exists stat) = codes "ok stat" ++ stat_text stat
reply_text (Children names) = codes "ok " ++ decimal (length names) ++ flat_map spaced_name names
reply_text (Refused refusal) = codes "no " ++ refusal_name refusal
reply_text (MultiRefused number refusal) = codes "no multi " ++ decimal number ++ 32 ∷ refusal_name refusal
