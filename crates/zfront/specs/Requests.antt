-- The effect of a request. The source is zookeeper.jute and the ZooKeeper Programmer's Guide.
use Rattle.std.specs.Prelude.{◌≡◌, ℕ, List, Option, None, Some, Result, Ok, Err}
use Rattle.zcodec.specs.Readers.{whole}
use Rattle.zcodec.specs.declared.fault.Fault.{Fault}
use Rattle.zcalls.specs.declared.call.Call.{Call}
use Rattle.zjute.specs.Asking.{request}
use Rattle.zjute.specs.declared.request.Request.{Request}
use Rattle.zrequests.specs.declared.fault.Unasked.TheVariants.{Refused, Memory}
use Rattle.zrequests.specs.Asking.{Meaning}
use Rattle.zrequests.specs.Requests.{calls_in}
use Rattle.zresponses.specs.declared.answer.Answer.{Answer}
use Rattle.zresponses.specs.Naming.{request_named}
use Rattle.zresponses.specs.Own.{refused_answer}
use Rattle.zresponses.specs.Stats.{told}
use Rattle.zconnections.specs.attachments.Attachments.{touched, with_changed}
use Rattle.zconnections.specs.Tables.{closed}
use Rattle.zresponses.specs.effects.Answering.{answered, now_of}
use Rattle.zresponses.specs.effects.Replying.{replied}
use Rattle.zfront.specs.Front.{FrontView, with_tables, asked, replies_to, tidied_of}
use Rattle.zfront.specs.Walks.{walked}

-- the flag of the request's session is set
abbrev pub touched_by : ℕ → FrontView → FrontView
touched_by session v =
    with_tables (record v.tables { attachments = with_changed touched v.tables.attachments session }) v

-- the calls of a request are made, and its answer is sent
abbrev pub with_answer : List Call → ℕ → Request → FrontView → FrontView
with_answer calls c r v =
    let after = asked calls v in
    with_tables (answered v.clock (now_of after.tree) c r calls (replies_to calls v) v.tables) after

-- the same, and ended sessions are removed
abbrev pub Makes : List Call → ℕ → Request → FrontView → FrontView → Type 0
Makes calls c r old new = new ≡ tidied_of calls old (with_answer calls c r old)

-- an answer is sent without a call
abbrev pub Tells : Answer → ℕ → Request → FrontView → FrontView → Type 0
Tells answer c r old new = new ≡ with_tables (replied (told old.clock.base old.tree.zxid) c r.xid answer old.tables) old

-- a request, from its calls or its refusal
abbrev pub Acts : Meaning (List Call) → ℕ → Request → FrontView → FrontView → Type 0
Acts (Err (Refused code)) c r old new = Tells (refused_answer code r.asked) c r old new
Acts (Err Memory) c r old new = ⊥
Acts (Ok calls) c r old new = Makes calls c r old new

-- a request: a walk, or one that makes its calls
abbrev pub ActsOr : Option Answer → Meaning (List Call) → ℕ → Request → FrontView → FrontView → Type 0
ActsOr (Some answer) meaning c r old new = Tells answer c r old new
ActsOr None meaning c r old new = Acts meaning c r old new

-- a request, or invalid bytes, which close the connection
abbrev pub Requests : Result Request Fault → ℕ → ℕ → FrontView → FrontView → Type 0
Requests (Err fault) session c old new = new ≡ with_tables (closed c old.tables) old
Requests (Ok r) session c old new =
    ActsOr (walked session r.asked old.tree) (calls_in old.clock.terms session r.asked) c r (touched_by session old) new

-- what was read, as the tree has it
abbrev pub as_named : ℕ → Result Request Fault → Result Request Fault
as_named base (Err fault) = Err fault
as_named base (Ok r) = Ok (request_named base r)

-- the request of a frame, where clients are told zxids from this base on
abbrev pub request_in : ℕ → List ℕ → Result Request Fault
request_in base bytes = as_named base (whole request bytes)

-- a frame on a connection with a session
abbrev pub Serves : List ℕ → ℕ → ℕ → FrontView → FrontView → Type 0
Serves bytes session c old new = Requests (request_in old.clock.base bytes) session c old new
