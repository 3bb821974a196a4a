-- The effect of a reply to a call, and of an answer. The source is zookeeper.jute and the ZooKeeper
-- Programmer's Guide, "ZooKeeper Watches".
use Rattle.std.specs.Prelude.{ℕ, ℤ, List, ◌∷◌, if◌then◌else◌}
use Rattle.zcalls.specs.declared.call.Call.{Call}
use Rattle.zcalls.specs.declared.call.Call.TheVariants as call
use Rattle.zcalls.specs.declared.reply.Reply.{Reply}
use Rattle.zwatches.specs.changes.Events.{events_of}
use Rattle.zresponses.specs.declared.answer.Answer.{Answer}
use Rattle.zconnections.specs.Tables.{TablesView, sent, closed}
use Rattle.zconnections.specs.Reporting.{reported_all}
use Rattle.zconnections.specs.Sweeping.{noted}
use Rattle.zresponses.specs.effects.Frames.{answer_frame, ends_connection}

-- a call has its reply: the events of an update are sent, and an ephemeral node that it made is
-- noted
abbrev pub absorbed : Call → Reply → TablesView → TablesView
absorbed (call.Update update) reply t = reported_all (events_of update reply) (record t { attachments = noted update reply t.attachments })
absorbed (call.Query query) reply t = t

-- the same for calls in order
abbrev pub absorbed_all : List Call → List Reply → TablesView → TablesView
absorbed_all (call ∷ calls) (reply ∷ replies) t = absorbed_all calls replies (absorbed call reply t)
absorbed_all calls replies t = t

-- the answer to the request with this xid is sent, under this zxid
abbrev pub replied : ℤ → ℕ → ℤ → Answer → TablesView → TablesView
replied zxid c xid answer t =
    if ends_connection answer.code
    then closed c (sent c (answer_frame zxid xid answer) t)
    else sent c (answer_frame zxid xid answer) t
