-- Records as lines of text. A line is a record's bytes in base64 (RFC 4648, section 4) and an LF.
-- So a log is a text without a byte 0, and one log followed by another is a log.
use Rattle.std.specs.Prelude.{◌≡◌, ◌≢◌, ℕ, ◌+◌, List, [], ◌∷◌, ◌++◌, length, Result}
use Rattle.std.specs.List.{AllByRecursion, flat_map}
use Rattle.std.specs.Int.{w8}
use Rattle.base64.specs.Engines.{standard}
use Rattle.base64.specs.GeneralPurpose.{encode_of}
use Rattle.zcodec.specs.declared.fault.Fault.{Fault}
use Rattle.zcodec.specs.Forms.{Form, number, exactly}
use Rattle.zcodec.specs.Choices.{sized}
use Rattle.zcodec.specs.Laws.{IsBytes}
use Rattle.zjute.specs.Shapes.{Spelled, behind, read_as, by_tag}
use Rattle.zprotocol.specs.declared.limits.TheConstants.{MAX_SERVERS}
use Rattle.zwire.specs.declared.records.fault.RecordFault.{RecordFault}
use Rattle.zwire.specs.declared.records.fault.RecordFault.TheVariants.{Line, Memory}
use Rattle.zwire.specs.declared.records.limits.TheConstants.{MAX_ROW_BYTES}
use Rattle.zwire.specs.declared.records.record.Record.{Record}
use Rattle.zwire.specs.declared.records.record.Record.TheVariants.{Password, Update, Fail, Join, Retire, Row}
use Rattle.zwire.specs.records.Sums.{at_tag, no_tag}
use Rattle.zwire.specs.records.Fields.{up_to}
use Rattle.zwire.specs.records.Calls.{update}

-- ---- bytes

unfoldable pub password : Form (List ℕ)
password = exactly 16

unfoldable pub server : Form ℕ
server = up_to w8 MAX_SERVERS

-- a row of a snapshot
unfoldable pub row : Form (List ℕ)
row = sized MAX_ROW_BYTES

unfoldable pub logged_at : ℕ → List ℕ → Result (Record × List ℕ) Fault
logged_at =
    at_tag 0 (read_as password (λ bytes. Password bytes))
    (at_tag 1 (read_as update (λ change. Update change))
    (at_tag 2 (read_as server (λ id. Fail id))
    (at_tag 3 (read_as server (λ id. Join id))
    (at_tag 4 (read_as server (λ id. Retire id))
    (at_tag 5 (read_as row (λ bytes. Row bytes)) no_tag)))))

abbrev pub logged_spelled : Record → Spelled ℕ
logged_spelled (Password bytes) = behind 0 password bytes
logged_spelled (Update change) = behind 1 update change
logged_spelled (Fail id) = behind 2 server id
logged_spelled (Join id) = behind 3 server id
logged_spelled (Retire id) = behind 4 server id
logged_spelled (Row bytes) = behind 5 row bytes

unfoldable pub logged : Form Record
logged = by_tag (number w8) logged_at logged_spelled

-- ---- lines

-- it has the limits of its type, and is spelled in bytes
abbrev pub Fits : Record → Type 0
Fits r = logged.Fits r × IsBytes (logged.spell r)

abbrev pub AllFit : List Record → Type 0
AllFit = AllByRecursion Fits

unfoldable pub line_of : Record → List ℕ
line_of r = encode_of standard (logged.spell r) ++ 10 ∷ []

abbrev pub text_of : List Record → List ℕ
text_of = flat_map line_of

-- ---- faults

-- the text doesn't begin with a record's line
abbrev pub HasNoRecord : List ℕ → Type 0
HasNoRecord text = (r : Record) (rest : List ℕ) → Fits r → text ≡ line_of r ++ rest → ⊥

-- after some records' lines something is left that doesn't begin with a record's line; its line has
-- this number, the first being 1
pub record IsBadLine (text : List ℕ) (n : ℕ) : Type 0 where
  pub before : List Record
  pub left : List ℕ
  pub fit : AllFit before
  pub split : text ≡ text_of before ++ left
  pub some : left ≢ []
  pub none : HasNoRecord left
  pub place : n ≡ length before + 1

abbrev pub IsFaultOf : List ℕ → RecordFault → Type 0
IsFaultOf text (Line n) = IsBadLine text n
IsFaultOf text Memory = Unit {0}
