-- Forms of what calls are made of: paths, data, versions and kinds of nodes. Numbers have the
-- highest byte first. The meaning of a tag is unchanged in every later version.
use Rattle.std.specs.Prelude.{ℕ, Bool, true, false, ◌<◌, ◌≤◌, ◌&&◌, List, Result, Ok, Err, is_some, nat_lt, nat_le, if◌then◌else◌}
use Rattle.std.specs.Int.{Width, w8, w64}
use Rattle.zcodec.specs.declared.fault.Fault.{Fault}
use Rattle.zcodec.specs.declared.fault.Fault.TheVariants.{Invalid}
use Rattle.zcodec.specs.Forms.{Form, number, made, empty}
use Rattle.zcodec.specs.Choices.{sized}
use Rattle.zjute.specs.Shapes.{Spelled, behind, read_as, by_tag}
use Rattle.zpath.specs.declared.limits.TheConstants.{MAX_TEXT_LEN}
use Rattle.zpath.specs.Grammar.{IsPath, text_of}
use Rattle.zpath.specs.Faults.{fault_of, names_of}
use Rattle.ztree.specs.declared.limits.TheConstants.{MOST_DATA, MAX_TTL}
use Rattle.ztree.specs.Tree.{Path}
use Rattle.zcalls.specs.declared.call.Expected.{Expected}
use Rattle.zcalls.specs.declared.call.Expected.TheVariants.{Any, Exactly}
use Rattle.zcalls.specs.declared.call.Kind.{Kind}
use Rattle.zcalls.specs.declared.call.Lifetime.{Lifetime}
use Rattle.zcalls.specs.declared.call.Lifetime.TheVariants.{Persistent, WithTtl, Ephemeral, Container}
use Rattle.zcalls.specs.Part.{named, sequential}
use Rattle.zwire.specs.records.Sums.{at_tag, no_tag}

-- ---- numbers

-- a number from 1 up to the greatest
abbrev pub up_to_from : ℕ → ℕ → Result ℕ Fault
up_to_from most n = if nat_lt 0 n && nat_le n most then Ok n else Err Invalid

abbrev pub up_to : Width → ℕ → Form ℕ
up_to w most = made (number w) (λ n. n) (up_to_from most) (λ n. (0 < n) × (n ≤ most))

-- a TTL, in ticks
unfoldable pub ttl : Form ℕ
ttl = up_to w64 MAX_TTL

-- a session's id, a version, or a timeout
abbrev pub long : Form ℕ
long = number w64

-- ---- bytes

-- data
unfoldable pub content : Form (List ℕ)
content = sized MOST_DATA

-- the path with this text
unfoldable pub path_from : List ℕ → Result Path Fault
path_from text = if is_some (fault_of text) then Err Invalid else Ok (names_of text)

-- a path, as its text
unfoldable pub path : Form Path
path = made (sized MAX_TEXT_LEN) text_of path_from IsPath

-- ---- tagged

-- the version that a node must have
unfoldable pub version_at : ℕ → List ℕ → Result (Expected × List ℕ) Fault
version_at =
    at_tag 0 (read_as empty (λ _. Any))
    (at_tag 1 (read_as long (λ n. Exactly n)) no_tag)

abbrev pub version_spelled : Expected → Spelled ℕ
version_spelled Any = behind 0 empty tt
version_spelled (Exactly n) = behind 1 long n

unfoldable pub version : Form Expected
version = by_tag (number w8) version_at version_spelled

-- the kind of a node
unfoldable pub kind_at : ℕ → List ℕ → Result (Kind × List ℕ) Fault
kind_at =
    at_tag 0 (read_as empty (λ _. named Persistent))
    (at_tag 1 (read_as empty (λ _. sequential Persistent))
    (at_tag 2 (read_as ttl (λ ticks. named (WithTtl ticks)))
    (at_tag 3 (read_as ttl (λ ticks. sequential (WithTtl ticks)))
    (at_tag 4 (read_as long (λ session. named (Ephemeral session)))
    (at_tag 5 (read_as long (λ session. sequential (Ephemeral session)))
    (at_tag 6 (read_as empty (λ _. named Container))
    (at_tag 7 (read_as empty (λ _. sequential Container)) no_tag)))))))

abbrev pub spelled_as : Lifetime → Bool → Spelled ℕ
spelled_as Persistent false = behind 0 empty tt
spelled_as Persistent true = behind 1 empty tt
spelled_as (WithTtl ticks) false = behind 2 ttl ticks
spelled_as (WithTtl ticks) true = behind 3 ttl ticks
spelled_as (Ephemeral session) false = behind 4 long session
spelled_as (Ephemeral session) true = behind 5 long session
spelled_as Container false = behind 6 empty tt
spelled_as Container true = behind 7 empty tt

abbrev pub kind_spelled : Kind → Spelled ℕ
kind_spelled kind = spelled_as kind.lifetime kind.is_sequential

unfoldable pub node_kind : Form Kind
node_kind = by_tag (number w8) kind_at kind_spelled
