-- The effect of bytes on a connection. They are split into frames, and each frame is handled before
-- the next is read. The source is zookeeper.jute. The bound on the unread bytes of all connections
-- is this project's profile.
use Rattle.std.specs.Prelude.{◌≡◌, ℕ, ◌+◌, ◌<◌, ◌^◌, Bool, true, false, ◌||◌, nat_lt, List, [], ◌∷◌, ◌++◌, length, Option, None, Some, if◌then◌else◌}
use Rattle.zjute.specs.Frames.{Front, Whole, TooLong, next_of, IsEnd}
use Rattle.zconnections.specs.declared.buffers.phase.Phase.{Phase}
use Rattle.zconnections.specs.declared.buffers.phase.Phase.TheVariants.{Silent, Speaking, Closing}
use Rattle.zconnections.specs.buffers.Streams.{bytes_of, held_of, phase_of, with_bytes}
use Rattle.zconnections.specs.Tables.{TablesView, is_open, closed}
use Rattle.zfront.specs.declared.limits.TheConstants.{MAX_KEPT}
use Rattle.zfront.specs.Front.{FrontView, with_tables}
use Rattle.zfront.specs.Requests.{Serves}
use Rattle.zfront.specs.Greeting.{greeted}
use Rattle.zfront.specs.declared.word.Word.{Word}
use Rattle.zfront.specs.Words.{word_in, said}

-- a frame on a connection in this phase
abbrev pub HandlesIn : Option Phase → List ℕ → ℕ → FrontView → FrontView → Type 0
HandlesIn (Some Silent) bytes c old new = new ≡ greeted bytes c old
HandlesIn (Some (Speaking session)) bytes c old new = Serves bytes session c old new
HandlesIn (Some Closing) bytes c old new = new ≡ old
HandlesIn None bytes c old new = new ≡ old

-- a frame on a connection
abbrev pub Handles : List ℕ → ℕ → FrontView → FrontView → Type 0
Handles bytes c old new = HandlesIn (phase_of old.tables.streams c) bytes c old new

-- frames in order, on a connection that is open at each
abbrev pub HandlesAll : List (List ℕ) → ℕ → FrontView → FrontView → Type 0
HandlesAll [] c old new = new ≡ old
HandlesAll (bytes ∷ frames) c old new =
    (is_open old.tables c ≡ true) × (middle : FrontView) × Handles bytes c old middle × HandlesAll frames c middle new

-- the bytes consist of these frames, then the rest
abbrev pub Cuts : List ℕ → List (List ℕ) → List ℕ → Type 0
Cuts came [] rest = came ≡ rest
Cuts came (bytes ∷ frames) rest = (more : List ℕ) × (next_of came ≡ Whole bytes more) × Cuts more frames rest

-- the leading frames are handled while the connection is open; then no whole frame remains
pub record Reads (came : List ℕ) (c : ℕ) (old : FrontView) (rest : List ℕ) (new : FrontView) : Type 0 where
  pub frames : List (List ℕ)
  pub cuts : Cuts came frames rest
  pub handles : HandlesAll frames c old new
  pub ends : is_open new.tables c ≡ true → IsEnd rest

-- the bytes begin with a length that no frame has
abbrev pub is_too_long : Front → Bool
is_too_long TooLong = true
is_too_long other = false

-- the rest is stored; if it can't begin a frame, or too much would be stored, the connection is
-- closed
abbrev pub kept : List ℕ → ℕ → TablesView → TablesView
kept rest c t =
    if is_too_long (next_of rest) || nat_lt MAX_KEPT (held_of t.streams + length rest)
    then closed c t
    else record t { streams = with_bytes t.streams c rest }

-- the rest of a connection, if it is still open
abbrev pub keeps : List ℕ → ℕ → FrontView → FrontView
keeps rest c v = if is_open v.tables c then with_tables (kept rest c v.tables) v else v

-- the same, unless 2 ^ 64 bytes are stored, which no machine has
abbrev pub Keeps : List ℕ → ℕ → FrontView → FrontView → Type 0
Keeps rest c old new = held_of old.tables.streams < 2 ^ 64 → new ≡ keeps rest c old

-- a four letter word instead of a connect request
abbrev pub word_asked : Option Phase → List ℕ → Option Word
word_asked (Some Silent) came = word_in came
word_asked other came = None

-- bytes that begin with a word, or consist of frames
abbrev pub ComesBy : Option Word → List ℕ → ℕ → FrontView → FrontView → Type 0
ComesBy (Some word) came c old new = new ≡ said word c old
ComesBy None came c old new = (rest : List ℕ) × (middle : FrontView) × Reads came c old rest middle × Keeps rest c middle new

-- bytes appended to the unread ones
abbrev pub ComesBehind : List ℕ → ℕ → FrontView → FrontView → Type 0
ComesBehind came c old new = ComesBy (word_asked (phase_of old.tables.streams c) came) came c old new

-- a connection without unread bytes
abbrev pub emptied : ℕ → FrontView → FrontView
emptied c v = with_tables (record v.tables { streams = with_bytes v.tables.streams c [] }) v

abbrev pub ComesIf : Bool → List ℕ → ℕ → FrontView → FrontView → Type 0
ComesIf false bytes c old new = new ≡ old
ComesIf true bytes c old new = ComesBehind (bytes_of old.tables.streams c ++ bytes) c (emptied c old) new

-- bytes arrived on a connection; they are dropped unless it is open
abbrev pub Comes : List ℕ → ℕ → FrontView → FrontView → Type 0
Comes bytes c old new = ComesIf (is_open old.tables c) bytes c old new
