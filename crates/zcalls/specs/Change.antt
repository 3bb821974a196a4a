-- A change of one node, as an update and as a part of a multi; and its result, as the reply to
-- each.
use Rattle.zcalls.specs.declared.call.Part.{Part}
use Rattle.zcalls.specs.declared.call.Part.TheVariants as part
use Rattle.zcalls.specs.declared.call.Update.{Update}
use Rattle.zcalls.specs.declared.call.Update.TheVariants as update
use Rattle.zcalls.specs.declared.change.Change.{Change}
use Rattle.zcalls.specs.declared.change.Change.TheVariants.{Create, Delete, SetData}
use Rattle.zcalls.specs.declared.change.ChangeReply.{ChangeReply}
use Rattle.zcalls.specs.declared.change.ChangeReply.TheVariants.{Created, Deleted, Set}
use Rattle.zcalls.specs.declared.reply.PartReply.{PartReply}
use Rattle.zcalls.specs.declared.reply.PartReply.TheVariants as part_reply
use Rattle.zcalls.specs.declared.reply.Reply.{Reply}
use Rattle.zcalls.specs.declared.reply.Reply.TheVariants as reply

-- the update that asks for the change by itself
abbrev pub update_of : Change → Update
update_of (Create create) = update.Create create
update_of (Delete delete) = update.Delete delete
update_of (SetData set) = update.SetData set

-- the part that asks for the change
abbrev pub part_of : Change → Part
part_of (Create create) = part.Create create
part_of (Delete delete) = part.Delete delete
part_of (SetData set) = part.SetData set

-- the reply to the change by itself
abbrev pub reply_of : ChangeReply → Reply
reply_of (Created path) = reply.Created path
reply_of Deleted = reply.Deleted
reply_of (Set stat) = reply.Set stat

-- the reply to the change as a part
abbrev pub part_reply_of : ChangeReply → PartReply
part_reply_of (Created path) = part_reply.Created path
part_reply_of Deleted = part_reply.Deleted
part_reply_of (Set stat) = part_reply.Set stat
