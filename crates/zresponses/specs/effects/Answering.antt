-- The effect of a request on the tables, once its calls have replies. The source is zookeeper.jute
-- and the ZooKeeper Programmer's Guide, "ZooKeeper Watches".
use Rattle.std.specs.Prelude.{ℕ, List, Option, None, Some}
use Rattle.ztree.specs.Tree.{Tree}
use Rattle.zcalls.specs.declared.call.Call.{Call}
use Rattle.zcalls.specs.declared.reply.Reply.{Reply}
use Rattle.zjute.specs.declared.code.Code.{Code}
use Rattle.zjute.specs.declared.request.Asked.{Asked}
use Rattle.zjute.specs.declared.request.Request.{Request}
use Rattle.zresponses.specs.declared.answer.Answer.{Answer}
use Rattle.zresponses.specs.declared.clock.Clock.{Clock}
use Rattle.zresponses.specs.declared.clock.Now.{Now}
use Rattle.zresponses.specs.Answers.{failed}
use Rattle.zresponses.specs.Answering.{answer_in}
use Rattle.zresponses.specs.Stats.{told}
use Rattle.zconnections.specs.Tables.{TablesView}
use Rattle.zresponses.specs.effects.Replying.{absorbed_all, replied}
use Rattle.zresponses.specs.effects.Watching.{first_fault, granted_all}
use Rattle.zresponses.specs.effects.Wishes.{wishes}

-- the last zxid and the tick of a tree
abbrev pub now_of : Tree → Now
now_of t = record { zxid = t.zxid; time = t.time }

-- the answer to a request; an error, if a wish wasn't granted
abbrev pub answer_unless : Option Code → Clock → Now → Asked → List Call → List Reply → Answer
answer_unless None clock now asked calls replies = answer_in clock now asked calls replies
answer_unless (Some fault) clock now asked calls replies = failed fault

-- the watches of a request are set or removed, and its answer is sent
abbrev pub granted_and_answered : Clock → Now → ℕ → Request → List Call → List Reply → TablesView → TablesView
granted_and_answered clock now c request calls replies t =
    let wished = wishes request.asked calls replies in
    replied (told clock.base now.zxid) c request.xid (answer_unless (first_fault c wished t) clock now request.asked calls replies) (granted_all c wished t)

-- the events of its calls are sent first, then its watches are set or removed,
-- then its answer is sent
abbrev pub answered : Clock → Now → ℕ → Request → List Call → List Reply → TablesView → TablesView
answered clock now c request calls replies t =
    granted_and_answered clock now c request calls replies (absorbed_all calls replies t)
