-- Forms of what messages are made of: numbers with a limit, processes, stats, refusals and names.
-- Numbers have the highest byte first. The meaning of a tag is unchanged in every later version.
--
-- A process is spelled by its kind and number, not by its index among all processes, which changes
-- with the number of servers.
use Rattle.std.specs.Prelude.{ℕ, ◌-◌, ◌≤◌, ◌||◌, List, [], ◌∷◌, length, Result, Ok, Err, nat_lt, if◌then◌else◌}
use Rattle.std.specs.Int.{Width, w8, w64}
use Rattle.zcodec.specs.declared.fault.Fault.{Fault}
use Rattle.zcodec.specs.declared.fault.Fault.TheVariants.{Invalid}
use Rattle.zcodec.specs.Forms.{Form, number, both, made, empty, tagged, times}
use Rattle.zcodec.specs.Choices.{sized}
use Rattle.zjute.specs.Shapes.{Spelled, behind, read_as, by_tag, fields}
use Rattle.zpath.specs.declared.limits.TheConstants.{MAX_NAME_LEN}
use Rattle.zpath.specs.Grammar.{IsName, is_empty, is_dots, has_bad_byte, is_long}
use Rattle.ztree.specs.declared.limits.TheConstants.{MAX_CLIENTS}
use Rattle.ztree.specs.declared.node.Stat.{Stat}
use Rattle.zcalls.specs.declared.limits.TheConstants.{MAX_CALL_NUMBER}
use Rattle.zcalls.specs.declared.refusal.Refusal.{Refusal}
use Rattle.zcalls.specs.declared.refusal.Refusal.TheVariants.{NoNode, NodeExists, NotEmpty, BadVersion, NoChildrenForEphemerals, SessionGone, SequenceFull, PathLimit, RootFixed, Full, TooManySessions, Exhausted}
use Rattle.zprotocol.specs.declared.limits.TheConstants.{MAX_LOG_NUMBER, MAX_EPOCH}
use Rattle.zprotocol.specs.declared.process.Process.{Process}
use Rattle.zprotocol.specs.declared.process.Process.TheVariants.{Master, Server, Client}
use Rattle.zwire.specs.records.Sums.{at_tag, no_tag}
use Rattle.zwire.specs.records.Fields.{long}
use Rattle.zwire.specs.records.Records.{server}

-- ---- numbers

-- a number up to the greatest
abbrev pub within_from : ℕ → ℕ → Result ℕ Fault
within_from most n = if nat_lt most n then Err Invalid else Ok n

abbrev pub within : Width → ℕ → Form ℕ
within w most = made (number w) (λ n. n) (within_from most) (λ n. n ≤ most)

unfoldable pub call_number : Form ℕ
call_number = within w64 MAX_CALL_NUMBER

unfoldable pub log_number : Form ℕ
log_number = within w64 MAX_LOG_NUMBER

unfoldable pub epoch : Form ℕ
epoch = within w64 MAX_EPOCH

unfoldable pub client : Form ℕ
client = within w8 (MAX_CLIENTS - 1)

-- ---- processes

unfoldable pub process_at : ℕ → List ℕ → Result (Process × List ℕ) Fault
process_at =
    at_tag 0 (read_as empty (λ _. Master))
    (at_tag 1 (read_as server (λ id. Server id))
    (at_tag 2 (read_as client (λ id. Client id)) no_tag))

abbrev pub process_spelled : Process → Spelled ℕ
process_spelled Master = behind 0 empty tt
process_spelled (Server id) = behind 1 server id
process_spelled (Client id) = behind 2 client id

unfoldable pub process : Form Process
process = by_tag (number w8) process_at process_spelled

-- ---- stats

abbrev pub three : Form (ℕ × (ℕ × ℕ))
three = both long (both long long)

abbrev pub four : Form (ℕ × (ℕ × (ℕ × ℕ)))
four = both long three

abbrev pub five : Form (ℕ × (ℕ × (ℕ × (ℕ × ℕ))))
five = both long four

-- czxid, mzxid, pzxid
abbrev pub zxids_of : Stat → ℕ × (ℕ × ℕ)
zxids_of s = (s.czxid, (s.mzxid, s.pzxid))

-- ctime, mtime, version, cversion, aversion
abbrev pub counts_of : Stat → ℕ × (ℕ × (ℕ × (ℕ × ℕ)))
counts_of s = (s.ctime, (s.mtime, (s.version, (s.cversion, s.aversion))))

-- owner, length, children
abbrev pub sizes_of : Stat → ℕ × (ℕ × ℕ)
sizes_of s = (s.owner, (s.length, s.children))

abbrev pub stat_of :
    (ℕ × (ℕ × ℕ)) × ((ℕ × (ℕ × (ℕ × (ℕ × ℕ)))) × (ℕ × (ℕ × ℕ))) → Stat
stat_of f = record {
  czxid = f.0.0;
  mzxid = f.0.1.0;
  pzxid = f.0.1.1;
  ctime = f.1.0.0;
  mtime = f.1.0.1.0;
  version = f.1.0.1.1.0;
  cversion = f.1.0.1.1.1.0;
  aversion = f.1.0.1.1.1.1;
  owner = f.1.1.0;
  length = f.1.1.1.0;
  children = f.1.1.1.1;
}

unfoldable pub stat : Form Stat
stat = fields (both three (both five three)) (λ s. (zxids_of s, (counts_of s, sizes_of s))) stat_of

-- ---- refusals

unfoldable pub refusal_at : ℕ → List ℕ → Result (Refusal × List ℕ) Fault
refusal_at =
    at_tag 0 (read_as empty (λ _. NoNode))
    (at_tag 1 (read_as empty (λ _. NodeExists))
    (at_tag 2 (read_as empty (λ _. NotEmpty))
    (at_tag 3 (read_as empty (λ _. BadVersion))
    (at_tag 4 (read_as empty (λ _. NoChildrenForEphemerals))
    (at_tag 5 (read_as empty (λ _. SessionGone))
    (at_tag 6 (read_as empty (λ _. SequenceFull))
    (at_tag 7 (read_as empty (λ _. PathLimit))
    (at_tag 8 (read_as empty (λ _. RootFixed))
    (at_tag 9 (read_as empty (λ _. Full))
    (at_tag 10 (read_as empty (λ _. TooManySessions))
    (at_tag 11 (read_as empty (λ _. Exhausted)) no_tag)))))))))))

abbrev pub refusal_spelled : Refusal → Spelled ℕ
refusal_spelled NoNode = behind 0 empty tt
refusal_spelled NodeExists = behind 1 empty tt
refusal_spelled NotEmpty = behind 2 empty tt
refusal_spelled BadVersion = behind 3 empty tt
refusal_spelled NoChildrenForEphemerals = behind 4 empty tt
refusal_spelled SessionGone = behind 5 empty tt
refusal_spelled SequenceFull = behind 6 empty tt
refusal_spelled PathLimit = behind 7 empty tt
refusal_spelled RootFixed = behind 8 empty tt
refusal_spelled Full = behind 9 empty tt
refusal_spelled TooManySessions = behind 10 empty tt
refusal_spelled Exhausted = behind 11 empty tt

unfoldable pub refusal : Form Refusal
refusal = by_tag (number w8) refusal_at refusal_spelled

-- ---- names and lists

-- the name with this text
unfoldable pub name_from : List ℕ → Result (List ℕ) Fault
name_from text =
    if is_empty text || is_dots text || has_bad_byte text || is_long text then Err Invalid
    else Ok text

unfoldable pub name : Form (List ℕ)
name = made (sized MAX_NAME_LEN) (λ text. text) name_from IsName

-- the second of two names
abbrev pub second_from : List (List ℕ) → Result (List ℕ) Fault
second_from (first ∷ second ∷ []) = Ok second
second_from names = Err Invalid

-- values after their count in eight bytes: each list of a reply has its count there. The count has
-- no limit of its own, so a writer refuses only a frame that is too long
abbrev pub counted : {A : Type 0} → Form A → Form (List A)
counted c = tagged long length (times c)
