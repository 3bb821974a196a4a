-- The end of sessions: their connections are closed. Also, which sessions made ephemeral nodes. The
-- source is the ZooKeeper Programmer's Guide, "ZooKeeper Sessions".
use Rattle.std.specs.Prelude.{ℕ, Bool, false, not, List, [], ◌∷◌, Option, None, Some}
use Rattle.std.specs.List.{list_any, filter}
use Rattle.std.specs.Option.{option_map_or}
use Rattle.std.specs.FinMap as finite
use Rattle.ztree.specs.Tree.{Sessions}
use Rattle.zcalls.specs.declared.call.Lifetime.{Lifetime}
use Rattle.zcalls.specs.declared.call.Lifetime.TheVariants.{Ephemeral}
use Rattle.zcalls.specs.declared.call.Part.{Part}
use Rattle.zcalls.specs.declared.call.Part.TheVariants as part
use Rattle.zcalls.specs.declared.call.Update.{Update}
use Rattle.zcalls.specs.declared.call.Update.TheVariants as act
use Rattle.zcalls.specs.declared.reply.Reply.{Reply}
use Rattle.zcalls.specs.declared.reply.Reply.TheVariants as reply
use Rattle.zconnections.specs.attachments.Attachments.{AttachmentsView, with_changed, with_ephemeral}
use Rattle.zconnections.specs.Tables.{TablesView, moved}

-- the session that owns a node of this lifetime
abbrev pub owner_in : Lifetime → Option ℕ
owner_in (Ephemeral session) = Some session
owner_in other = None

-- a node of this lifetime was created
abbrev pub made_by : Lifetime → AttachmentsView → AttachmentsView
made_by lifetime attachments = option_map_or (λ session. with_changed with_ephemeral attachments session) (owner_in lifetime) attachments

-- the nodes of the parts of a multi were created
abbrev pub made_by_parts : List Part → AttachmentsView → AttachmentsView
made_by_parts [] attachments = attachments
made_by_parts (part.Create create ∷ parts) attachments = made_by_parts parts (made_by create.kind.lifetime attachments)
made_by_parts (other ∷ parts) attachments = made_by_parts parts attachments

-- the sessions that made an ephemeral node, after an update and its reply
abbrev pub noted : Update → Reply → AttachmentsView → AttachmentsView
noted (act.Create create) (reply.Created path) attachments = made_by create.kind.lifetime attachments
noted (act.Multi parts) (reply.Multi replies) attachments = made_by_parts parts attachments
noted update reported attachments = attachments

-- a session is removed
abbrev pub forgotten : ℕ → TablesView → TablesView
forgotten session t = record t { attachments = finite.remove t.attachments session }

-- a session is gone: it is removed, and its connection is closed
abbrev pub swept : ℕ → TablesView → TablesView
swept session t = forgotten session (moved session t)

abbrev pub swept_all : List ℕ → TablesView → TablesView
swept_all [] t = t
swept_all (session ∷ sessions) t = swept_all sessions (swept session t)

-- the tree no longer has the session
abbrev pub is_gone : Sessions → ℕ → Bool
is_gone sessions id = not (finite.contains_key sessions id)

-- the sessions in the tables that the tree no longer has
abbrev pub gone : Sessions → AttachmentsView → List ℕ
gone sessions attachments = filter (is_gone sessions) (finite.keys attachments)

-- a session made an ephemeral node
abbrev pub made_one : AttachmentsView → ℕ → Bool
made_one attachments id = option_map_or (λ s. s.made_ephemeral) (finite.get attachments id) false

-- one of these sessions made one
abbrev pub some_made_one : AttachmentsView → List ℕ → Bool
some_made_one attachments ids = list_any (made_one attachments) ids
