-- What a host says to a node: this project's own profile. Numbers have the highest byte first.
use Rattle.std.specs.Prelude.{ℕ, List, Result}
use Rattle.std.specs.Int.{w8}
use Rattle.zcodec.specs.declared.fault.Fault.{Fault}
use Rattle.zcodec.specs.Forms.{Form, number, empty, both}
use Rattle.zcodec.specs.Choices.{sized}
use Rattle.zjute.specs.Shapes.{Spelled, behind, read_as, by_tag}
use Rattle.zprotocol.specs.declared.process.Process.{Process}
use Rattle.zwire.specs.records.Records.{server}
use Rattle.zwire.specs.records.Sums.{at_tag, no_tag}
use Rattle.zwire.specs.Fields.{process}
use Rattle.zmaster_log.specs.Bytes.{count}
use Rattle.zpeers.specs.Records.{LinkRecord, link_record}
use Rattle.znode.specs.declared.limits.TheConstants.{MAX_ENTRY}
use Rattle.znode.specs.declared.pipe.input.NodeInput.{NodeInput}
use Rattle.znode.specs.declared.pipe.input.NodeInput.TheVariants as code

-- The log has this entry at this index; it has no further one now; a record came from this process;
-- the link to or from this server is lost; what waits is to be written; a connection from this
-- process has ended.
pub data InputView : Type 0 where
  Entry : ℕ → List ℕ → InputView
  CaughtUp : InputView
  Link : Process → LinkRecord → InputView
  Lost : ℕ → InputView
  Turn : InputView
  Ended : Process → InputView

-- what the code has read, without where it is in memory
abbrev pub input_of : NodeInput → InputView
input_of (code.Entry index bytes) = Entry index bytes.now
input_of code.CaughtUp = CaughtUp
input_of (code.Link from tag bytes) = Link from (record { tag = tag; bytes = bytes.now })
input_of (code.Lost s) = Lost s
input_of code.Turn = Turn
input_of (code.Ended from) = Ended from

-- ---- bytes

unfoldable pub listed : Form (ℕ × List ℕ)
listed = both count (sized MAX_ENTRY)

unfoldable pub came : Form (Process × LinkRecord)
came = both process link_record

unfoldable pub input_at : ℕ → List ℕ → Result (InputView × List ℕ) Fault
input_at =
    at_tag 0 (read_as listed (λ x. Entry x.0 x.1))
    (at_tag 1 (read_as empty (λ _. CaughtUp))
    (at_tag 2 (read_as came (λ x. Link x.0 x.1))
    (at_tag 3 (read_as server (λ s. Lost s))
    (at_tag 4 (read_as empty (λ _. Turn))
    (at_tag 5 (read_as process (λ p. Ended p)) no_tag)))))

abbrev pub input_spelled : InputView → Spelled ℕ
input_spelled (Entry index bytes) = behind 0 listed (index, bytes)
input_spelled CaughtUp = behind 1 empty tt
input_spelled (Link from r) = behind 2 came (from, r)
input_spelled (Lost s) = behind 3 server s
input_spelled Turn = behind 4 empty tt
input_spelled (Ended from) = behind 5 process from

-- a byte says which it is
unfoldable pub input : Form InputView
input = by_tag (number w8) input_at input_spelled
