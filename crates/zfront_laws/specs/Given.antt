-- How a connection gets a session: it opens one, or it gives the password of one. A connection only
-- ever acts for a session that the tree has. The source is the ZooKeeper Programmer's Guide,
-- "ZooKeeper Sessions".
use Rattle.std.specs.Prelude.{◌≡◌, ◌⊎◌, ℕ, pos, Bool, true, false, List, [], ◌∷◌, ◌++◌, Option, None, Some, Ok, nat_eq, if◌then◌else◌}
use Rattle.std.specs.FinMap as finite
use Rattle.std.specs.List.{AllByRecursion}
use Rattle.std.specs.Option.{option_map}
use Rattle.ztree.specs.Tree.{Tree}
use Rattle.zcalls.specs.declared.reply.Reply.TheVariants as reply
use Rattle.zcodec.specs.Readers.{whole}
use Rattle.zjute.specs.Connecting.{connect_request}
use Rattle.zjute.specs.Frames.{Whole, next_of}
use Rattle.zjute.specs.declared.connecting.ConnectRequest.{ConnectRequest}
use Rattle.zresponses.specs.declared.clock.Clock.{Clock}
use Rattle.zpasswords.specs.Passwords.{password_of}
use Rattle.zconnections.specs.buffers.Inputs.InputView.{Opened, Came, Ended, Tick}
use Rattle.zconnections.specs.declared.buffers.phase.Phase.TheVariants.{Silent, Speaking}
use Rattle.zconnections.specs.buffers.Streams.{phase_of}
use Rattle.zprotocol.specs.world.FromTree.{CanStart}
use Rattle.zprotocol.specs.world.PlainTree.{serve}
use Rattle.zresponses.specs.effects.Greeting.{given}
use Rattle.zwatches.specs.declared.limits.WatchLimits.{WatchLimits}
use Rattle.zfront.specs.Front.{FrontView}
use Rattle.zfront.specs.Greeting.{opening}
use Rattle.zfront.specs.Reading.{Comes, HandlesAll, emptied}
use Rattle.zfront.specs.Restoring.{beginning}
use Rattle.zfront_laws.specs.Runs.{Step, Takes, Sent, Took, Runs}

-- the bytes that arrived on a connection since it was opened, after one more step
abbrev pub since_step : ℕ → Step → Option (List ℕ) → Option (List ℕ)
since_step c (Takes (Opened d)) since = if nat_eq d c then Some [] else since
since_step c (Takes (Came d bytes)) since = if nat_eq d c then option_map (λ came. came ++ bytes) since else since
since_step c (Takes (Ended d)) since = if nat_eq d c then None else since
since_step c (Takes Tick) since = since
since_step c Sent since = since
since_step c Took since = since

-- the same after several steps
abbrev pub since_opened : ℕ → List Step → Option (List ℕ) → Option (List ℕ)
since_opened c [] since = since
since_opened c (step ∷ steps) since = since_opened c steps (since_step c step since)

-- a step that doesn't open the connection
abbrev pub IsNoOpening : ℕ → Step → Type 0
IsNoOpening c (Takes (Opened d)) = nat_eq d c ≡ false
IsNoOpening c other = Unit {0}

-- a connect request gives its connection a session. It asks for a new one, which the tree opens
-- now. Or it names one that the tree has, with the whole password that the secret derives for it
abbrev pub Gains : ℕ → ConnectRequest → FrontView → Type 0
Gains session greeting v =
    ((greeting.session_id ≡ pos 0) × (ticks : ℕ) × ((serve v.tree 0 (opening v.clock.terms.tick greeting)).1 ≡ reply.Opened session ticks))
    ⊎ ((greeting.session_id ≡ pos session) × (finite.contains_key v.tree.sessions session ≡ true)
    × (given greeting ≡ password_of v.secret session))

-- among these steps a connection got a session, once its first frame was whole
pub record HasGot (c session : ℕ) (steps : List Step) (first v : FrontView) : Type 0 where
  -- the input that completed the frame, with the steps before and after it
  pub before : List Step
  pub bytes : List ℕ
  pub behind : List Step
  pub all : steps ≡ before ++ Takes (Came c bytes) ∷ behind
  pub before_it : FrontView
  pub behind_it : FrontView
  pub ran : Runs before first before_it
  pub came : Comes bytes c before_it behind_it
  pub runs : Runs behind behind_it v
  -- it was opened before, and not again
  pub since : List ℕ
  pub opened : since_opened c (before ++ Takes (Came c bytes) ∷ []) None ≡ Some since
  pub once : AllByRecursion (IsNoOpening c) behind
  -- it had no session before
  pub silent : phase_of before_it.tables.streams c ≡ Some Silent
  -- its first frame is a connect request that gives it the session, in the tree of that moment
  pub frame : List ℕ
  pub more : List ℕ
  pub whole_is : next_of since ≡ Whole frame more
  pub greeting : ConnectRequest
  pub spelled : whole connect_request frame ≡ Ok greeting
  pub gains : Gains session greeting before_it

-- whatever the steps of a front were, each connection that has a session got it that way
abbrev pub EverySessionIsGot : Type 0
EverySessionIsGot =
    (limits : WatchLimits) (t : Tree) (secret : List ℕ) (times : Clock) (is_kept : Bool) (steps : List Step) (v : FrontView) (c session : ℕ)
    → Runs steps (beginning limits t secret times is_kept) v
    → phase_of v.tables.streams c ≡ Some (Speaking session) → HasGot c session steps (beginning limits t secret times is_kept) v

-- a front before it handles a frame: after steps, and after earlier frames of the same input
pub record StandsBefore (c : ℕ) (first at : FrontView) : Type 0 where
  pub steps : List Step
  pub stood : FrontView
  pub ran : Runs steps first stood
  pub frames : List (List ℕ)
  pub handled : HandlesAll frames c (emptied c stood) at

-- If a service can begin with the first tree, each connection that then has a session has one of
-- the tree. So no client acts for a session that ended
abbrev pub WhoSpeaksIsAlive : Type 0
WhoSpeaksIsAlive =
    (limits : WatchLimits) (t : Tree) (secret : List ℕ) (times : Clock) (is_kept : Bool) (at : FrontView) (c d session : ℕ)
    → CanStart t → StandsBefore c (beginning limits t secret times is_kept) at
    → phase_of at.tables.streams d ≡ Some (Speaking session)
    → finite.contains_key at.tree.sessions session ≡ true
