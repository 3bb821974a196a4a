-- The log of a front end for ZooKeeper's clients: the calls that its steps made, in order, each
-- with its reply. It is one log for all connections.
use Rattle.std.specs.Prelude.{ℕ, pos, Bool, true, false, List, [], ◌∷◌, ◌++◌, zip, Option, None, Some, Result, Ok, Err, if◌then◌else◌}
use Rattle.std.specs.Ordering.{int_eq}
use Rattle.zcodec.specs.Readers.{whole}
use Rattle.zcodec.specs.declared.fault.Fault.{Fault}
use Rattle.zcalls.specs.declared.call.Call.{Call}
use Rattle.zjute.specs.Connecting.{connect_request}
use Rattle.zjute.specs.declared.connecting.ConnectRequest.{ConnectRequest}
use Rattle.zjute.specs.declared.request.Request.{Request}
use Rattle.zrequests.specs.Asking.{Meaning}
use Rattle.zrequests.specs.Requests.{calls_in}
use Rattle.zconnections.specs.buffers.Inputs.{InputView}
use Rattle.zconnections.specs.buffers.Inputs.InputView.{Opened, Came, Ended, Tick}
use Rattle.zconnections.specs.buffers.Streams.{bytes_of, phase_of}
use Rattle.zconnections.specs.declared.buffers.phase.Phase.{Phase}
use Rattle.zconnections.specs.declared.buffers.phase.Phase.TheVariants.{Silent, Speaking, Closing}
use Rattle.ztree_service.specs.log.Logs.{Log}
use Rattle.zconnections.specs.attachments.Attachments.{touched_ids}
use Rattle.zconnections.specs.Tables.{is_open}
use Rattle.zresponses.specs.Stats.{told}
use Rattle.zresponses.specs.effects.Greeting.{is_ahead}
use Rattle.zfront.specs.Front.{FrontView, replies_to}
use Rattle.zfront.specs.Greeting.{opening}
use Rattle.zfront.specs.Inputs as inputs
use Rattle.zfront.specs.Reading.{HandlesAll, ComesBy, ComesIf, emptied, word_asked}
use Rattle.zfront.specs.Requests.{request_in}
use Rattle.zfront.specs.Ticking.{tick_calls}
use Rattle.zfront_laws.specs.Runs.{Step, Takes, Sent, Took, Does, Runs}

-- ---- calls

-- a connect request makes one call, which opens a session, or none
abbrev pub greeting_calls : Result ConnectRequest Fault → FrontView → List Call
greeting_calls (Err fault) v = []
greeting_calls (Ok greeting) v =
    if is_ahead (told v.clock.base v.tree.zxid) greeting then [] else
    if int_eq greeting.session_id (pos 0) then opening v.clock.terms.tick greeting ∷ [] else []

-- the calls of a request, unless it is refused
abbrev pub meant : Meaning (List Call) → List Call
meant (Ok calls) = calls
meant (Err why) = []

abbrev pub request_calls : Result Request Fault → ℕ → FrontView → List Call
request_calls (Err fault) session v = []
request_calls (Ok r) session v = meant (calls_in v.clock.terms session r.asked)

-- the calls of a frame on a connection in this phase
abbrev pub frame_calls : Option Phase → List ℕ → FrontView → List Call
frame_calls (Some Silent) bytes v = greeting_calls (whole connect_request bytes) v
frame_calls (Some (Speaking session)) bytes v = request_calls (request_in v.clock.base bytes) session v
frame_calls (Some Closing) bytes v = []
frame_calls None bytes v = []

-- ---- logs

-- calls made in this state, each with its reply
abbrev pub done_by : List Call → FrontView → Log
done_by calls v = zip calls (replies_to calls v)

-- the log of a frame, and of frames in order
abbrev pub frame_log : List ℕ → ℕ → FrontView → Log
frame_log bytes c v = done_by (frame_calls (phase_of v.tables.streams c) bytes v) v

abbrev pub frames_log : (frames : List (List ℕ)) (c : ℕ) (old new : FrontView) → HandlesAll frames c old new → Log
frames_log [] c old new is = []
frames_log (bytes ∷ frames) c old new has = frame_log bytes c old ++ frames_log frames c has.1 new has.3

-- the log of bytes that arrived
abbrev pub bytes_log : (word : _) (came : List ℕ) (c : ℕ) (old new : FrontView) → ComesBy word came c old new → Log
bytes_log (Some word) came c old new is = []
bytes_log None came c old new has = frames_log has.2.frames c old has.1 has.2.handles

abbrev pub came_log : (is_on : Bool) (bytes : List ℕ) (c : ℕ) (old new : FrontView) → ComesIf is_on bytes c old new → Log
came_log false bytes c old new is = []
came_log true bytes c old new has =
    let came = bytes_of old.tables.streams c ++ bytes in
    bytes_log (word_asked (phase_of (emptied c old).tables.streams c) came) came c (emptied c old) new has

-- the log of an input
abbrev pub input_log : (input : InputView) (old new : FrontView) → inputs.Does input old new → Log
input_log (Opened c) old new is = []
input_log (Came c bytes) old new has = came_log (is_open old.tables c) bytes c old new has
input_log (Ended c) old new is = []
input_log Tick old new has = done_by (tick_calls (touched_ids old.tables.attachments)) old

-- the log of a step, and of steps in order
abbrev pub step_log : (step : Step) (old new : FrontView) → Does step old new → Log
step_log (Takes input) old new has = input_log input old new has
step_log Sent old new is = []
step_log Took old new is = []

abbrev pub run_log : (steps : List Step) (old new : FrontView) → Runs steps old new → Log
run_log [] old new is = []
run_log (step ∷ steps) old new has = step_log step old has.0 has.1 ++ run_log steps has.0 new has.2
