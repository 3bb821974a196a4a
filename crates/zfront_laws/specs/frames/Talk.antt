-- The chunks that are sent on one connection: the connect response, then one answer for each
-- request, with events of watches between them. After a close nothing is sent. The sources are
-- zookeeper.jute and the ZooKeeper Programmer's Guide, "ZooKeeper Sessions" and "ZooKeeper
-- Watches".
use Rattle.std.specs.Prelude.{◌≡◌, ◌⊎◌, ℕ, ◌≤◌, pos, Bool, true, false, List, [], ◌∷◌, ◌++◌, length, replicate, Option, None, Some, Ok, Err}
use Rattle.std.specs.Option.{MatchOption}
use Rattle.zcodec.specs.Readers.{whole}
use Rattle.std.specs.FinMap.{get}
use Rattle.ztree.specs.Tree.{Tree}
use Rattle.ztree.specs.declared.session.Session.{Session}
use Rattle.zcalls.specs.declared.call.Call.{Call}
use Rattle.zcalls.specs.declared.reply.Reply.TheVariants.{Opened}
use Rattle.zjute.specs.Connecting.{connect_request}
use Rattle.zjute.specs.declared.code.Code.{Code}
use Rattle.zjute.specs.declared.connecting.ConnectRequest.{ConnectRequest}
use Rattle.zjute.specs.declared.request.Asked.{Asked}
use Rattle.zjute.specs.declared.request.Request.{Request}
use Rattle.zrequests.specs.Asking.{Meaning}
use Rattle.zrequests.specs.Requests.{calls_in}
use Rattle.zrequests.specs.Timeouts.{millis_reported}
use Rattle.zrequests.specs.declared.fault.Unasked.TheVariants.{Refused, Memory}
use Rattle.zwatches.specs.declared.changes.event.Event.{Event}
use Rattle.zresponses.specs.declared.answer.Answer.{Answer}
use Rattle.zresponses.specs.declared.clock.Clock.{Clock}
use Rattle.zresponses.specs.declared.clock.Now.{Now}
use Rattle.zresponses.specs.Own.{refused_answer}
use Rattle.zresponses.specs.Stats.{long_of, told}
use Rattle.ztree_service.specs.log.Logs.{Log, calls_of, replies_of, tree_after}
use Rattle.zpasswords.specs.Passwords.{password_of}
use Rattle.zconnections.specs.buffers.Outbox.{ChunkView}
use Rattle.zconnections.specs.Tables.{chunk, last_chunk}
use Rattle.zconnections.specs.Reporting.{event_frame}
use Rattle.zresponses.specs.effects.Answering.{answer_unless, now_of}
use Rattle.zresponses.specs.effects.Frames.{answer_frame, response_frame}
use Rattle.zresponses.specs.effects.Greeting.{given}
use Rattle.zresponses.specs.effects.Watching.{IsFaultOf}
use Rattle.zresponses.specs.effects.Wishes.{wishes}
use Rattle.zfront.specs.Front.{FrontView}
use Rattle.zfront.specs.Greeting.{opening}
use Rattle.zfront.specs.Requests.{request_in}
use Rattle.zfront.specs.Walks.{walked}
use Rattle.zfront.specs.Words.{word_in, text_of_word}

-- what a front does on a connection: nothing more so far; it sends an event and continues; it
-- answers and continues; it closes the connection
pub data Talk : Type 0 where
  Quiet : Talk
  Reports : Event → Talk → Talk
  Answers : List ℕ → Talk → Talk
  Closes : Talk

-- its chunks: one for each event, one for each answer, and one for the close, which is the last
abbrev pub chunks_of : ℕ → Talk → List ChunkView
chunks_of c Quiet = []
chunks_of c (Reports event talk) = chunk c (event_frame event) ∷ chunks_of c talk
chunks_of c (Answers bytes talk) = chunk c bytes ∷ chunks_of c talk
chunks_of c Closes = last_chunk c ∷ []

-- the connection was closed
abbrev pub is_closed : Talk → Bool
is_closed Quiet = false
is_closed (Reports event talk) = is_closed talk
is_closed (Answers bytes talk) = is_closed talk
is_closed Closes = true

-- the answer to a request. A refused one has no calls: it gets its code, or what it reads of the
-- service's own nodes. Else the answer is that of the replies to its calls; only a request on
-- watches may get an error since there was no room, or no watch
abbrev pub Says : Meaning (List Call) → Clock → Now → Asked → Log → Answer → Type 0
Says (Err (Refused code)) clock now asked part answer = (part ≡ []) × (answer ≡ refused_answer code asked)
Says (Err Memory) clock now asked part answer = ⊥
Says (Ok calls) clock now asked part answer =
    (calls_of part ≡ calls)
    × ((fault : Option Code) × IsFaultOf (wishes asked calls (replies_of part)) fault × (answer ≡ answer_unless fault clock now asked calls (replies_of part)))

-- the answer to a request that may be a walk: a walk has no calls
abbrev pub SaysOr : Option Answer → Meaning (List Call) → Clock → Now → Asked → Log → Answer → Type 0
SaysOr (Some walk) meaning clock now asked part answer = (part ≡ []) × (answer ≡ walk)
SaysOr None meaning clock now asked part answer = Says meaning clock now asked part answer

-- the tree after the calls of a log
abbrev pub tree_behind : Tree → Log → Tree
tree_behind tree log = tree_after tree (calls_of log)

-- the connect response says that there is no session: it has session 0
pub record IsTurnedAway (bytes reported : List ℕ) : Type 0 where
  pub greeting : ConnectRequest
  pub reads : whole connect_request bytes ≡ Ok greeting
  pub frames : reported ≡ response_frame greeting (pos 0) (pos 0) (replicate 16 0)

-- ---- with this clock and this secret

module _ (clock : Clock) (secret : List ℕ) where
  -- these bytes answer a request of this session, in a frame under its xid. Its calls with their
  -- replies are the last of this log, and the header has the zxid of the tree after them, told from
  -- the clock's base
  pub record IsAnswer (session : ℕ) (bytes reported : List ℕ) (tree : Tree) (log : Log) : Type 0 where
    pub asked : Request
    pub answer : Answer
    pub before : Log
    pub part : Log
    pub reads : request_in clock.base bytes ≡ Ok asked
    pub frames : reported ≡ answer_frame (told clock.base tree.zxid) asked.xid answer
    pub stands : log ≡ before ++ part
    pub says : SaysOr (walked session asked.asked tree) (calls_in clock.terms session asked.asked) clock (now_of tree) asked.asked part answer

  -- each frame of a session has one answer, in order, and each answer has its frame. The calls of a
  -- request come in the log after those of earlier requests. Before a close, one frame may have no
  -- answer
  abbrev pub Answered : ℕ → Tree → Log → List (List ℕ) → Talk → Type 0
  Answered session tree log frames Quiet = frames ≡ []
  Answered session tree log frames (Reports event talk) = Answered session tree log frames talk
  Answered session tree log frames (Answers reported talk) =
      (bytes : List ℕ) × (rest : List (List ℕ)) × (front behind : Log) × (frames ≡ bytes ∷ rest) × (log ≡ front ++ behind)
      × IsAnswer session bytes reported (tree_behind tree front) front
      × Answered session (tree_behind tree front) behind rest talk
  Answered session tree log frames Closes = length frames ≤ 1

  -- the connect response for this session. The client opened the session, by the last call of this
  -- log; or the tree had it and the client gave its password. The response has the password that
  -- the secret derives for the session
  abbrev pub IsOpened : ℕ → ConnectRequest → Log → List ℕ → Type 0
  IsOpened session greeting log reported =
      (before : Log) × (ticks : ℕ) × (greeting.session_id ≡ pos 0)
      × (log ≡ before ++ (opening clock.terms.tick greeting, Opened session ticks) ∷ [])
      × (reported ≡ response_frame greeting (millis_reported clock.terms.tick ticks) (long_of session) (password_of secret session))

  abbrev pub IsReturned : ℕ → ConnectRequest → Tree → List ℕ → Type 0
  IsReturned session greeting tree reported =
      (sits : Session) × (greeting.session_id ≡ pos session) × (get tree.sessions session ≡ Some sits)
      × (given greeting ≡ password_of secret session)
      × (reported ≡ response_frame greeting (millis_reported clock.terms.tick sits.timeout) (long_of session) (given greeting))

  -- these bytes are the connect response that gives this session
  pub record IsWelcome (session : ℕ) (bytes reported : List ℕ) (tree : Tree) (log : Log) : Type 0 where
    pub greeting : ConnectRequest
    pub reads : whole connect_request bytes ≡ Ok greeting
    pub has : IsOpened session greeting log reported ⊎ IsReturned session greeting tree reported

  -- the first frame is a connect request, and its response is sent first. After a response without
  -- a session the connection is closed. Else the next frames are answered for the session
  abbrev pub Greeted : ℕ → Tree → Log → List (List ℕ) → Talk → Type 0
  Greeted session tree log frames Quiet = frames ≡ []
  Greeted session tree log frames (Reports event talk) = ⊥
  Greeted session tree log frames (Answers reported talk) =
      (bytes : List ℕ) × (rest : List (List ℕ)) × (front behind : Log) × (frames ≡ bytes ∷ rest) × (log ≡ front ++ behind)
      × ((IsWelcome session bytes reported (tree_behind tree front) front × Answered session (tree_behind tree front) behind rest talk)
      ⊎ (IsTurnedAway bytes reported × (rest ≡ []) × (talk ≡ Closes)))
  Greeted session tree log frames Closes = length frames ≤ 1

  -- only a text is sent, then the close, and no frame is answered. The text is that of a front with
  -- this clock, this secret, and the tree after a prefix of the log, which begins with this tree
  abbrev pub SaysText : Tree → (FrontView → List ℕ) → Log → List (List ℕ) → Talk → Type 0
  SaysText start text log frames talk =
      (frames ≡ []) × ((v : FrontView) × (front behind : Log) × (log ≡ front ++ behind) × (v.tree ≡ tree_behind start front)
      × (v.clock ≡ clock) × (v.secret ≡ secret) × (talk ≡ Answers (text v) Closes))

  -- the chunks of a connection, from the leading frames of its bytes, where the log begins with this
  -- tree. If these begin with a four letter word, its text is sent instead of a connect response
  abbrev pub IsTalk : Tree → List ℕ → Log → List (List ℕ) → Talk → Type 0
  IsTalk start came log frames talk =
      MatchOption (word_in came) ((session : ℕ) × Greeted session start log frames talk) (λ word. SaysText start (text_of_word word) log frames talk)
