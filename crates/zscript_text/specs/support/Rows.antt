-- Values for the worked examples of lines and texts.
use Rattle.std.specs.Prelude.{ℕ, [], ◌∷◌, Result, Ok}
use Rattle.zcalls.specs.declared.call.Call.{Call}
use Rattle.zcalls.specs.declared.call.Call.TheVariants.{Update, Query}
use Rattle.zcalls.specs.Part.{named}
use Rattle.zcalls.specs.declared.call.Lifetime.TheVariants.{Persistent}
use Rattle.zcalls.specs.declared.call.Query.TheVariants.{GetData}
use Rattle.zcalls.specs.declared.call.Update.TheVariants.{Create}
use Rattle.zcalls.specs.declared.refusal.Refusal.TheVariants.{NoChildrenForEphemerals}
use Rattle.zcalls.specs.declared.reply.PartReply.TheVariants as part
use Rattle.zcalls.specs.declared.reply.Reply.{Reply}
use Rattle.zcalls.specs.declared.reply.Reply.TheVariants as reply
use Rattle.ztree.specs.declared.node.Stat.{Stat}
use Rattle.ztree.specs.support.Samples.{a, some_stat}
use Rattle.zscript_text.specs.declared.line.Line.{Line}
use Rattle.zscript_text.specs.declared.line.Line.TheVariants as line
use Rattle.zscript_text.specs.declared.request.LineFault.{LineFault}

-- a line that is a client's call, and one that only invokes it
abbrev pub asks : ℕ → Call → Result Line LineFault
asks client call = Ok (line.Call (record { client = client; call = call }))

abbrev pub begins : ℕ → Call → Result Line LineFault
begins client call = Ok (line.Begin (record { client = client; call = call }))

-- a query of /a, and a create of the root
abbrev pub get_a : Call
get_a = Query (GetData ((97 ∷ []) ∷ []))

abbrev pub create_root : Call
create_root = Update (Create (record { path = []; kind = named Persistent; bytes = [] }))

-- the stat of a node with two bytes that the first change made
abbrev pub first_stat : Stat
first_stat =
    record { czxid = 1; mzxid = 1; pzxid = 1; ctime = 0; mtime = 0; version = 0; cversion = 0; aversion = 0; owner = 0; length = 2; children = 0 }

-- replies: of a multi of three parts and of one, and of a query that finds two bytes and none
abbrev pub three_parts : Reply
three_parts = reply.Multi (part.Created (a ∷ []) ∷ part.Deleted ∷ part.Checked ∷ [])

abbrev pub one_part : Reply
one_part = reply.Multi (part.Set some_stat ∷ [])

abbrev pub two_bytes : Reply
two_bytes = reply.Data (104 ∷ (105 ∷ [])) some_stat

abbrev pub no_bytes : Reply
no_bytes = reply.Data [] some_stat

-- a create of a child of an ephemeral is refused
abbrev pub refused_child : Reply
refused_child = reply.Refused NoChildrenForEphemerals
