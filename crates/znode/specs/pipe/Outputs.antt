-- What a host gets in reply: this project's own profile. Numbers have the highest byte first.
use Rattle.std.specs.Prelude.{ℕ, Bool, List, Result}
use Rattle.std.specs.Int.{w8}
use Rattle.zcodec.specs.declared.fault.Fault.{Fault}
use Rattle.zcodec.specs.Forms.{Form, number, both}
use Rattle.zcodec.specs.Choices.{flag}
use Rattle.zjute.specs.Shapes.{Spelled, behind, read_as, by_tag}
use Rattle.zprotocol.specs.declared.process.Process.{Process}
use Rattle.zwire.specs.records.Sums.{at_tag, no_tag}
use Rattle.zwire.specs.Fields.{process}
use Rattle.zpeers.specs.Records.{LinkRecord, link_record}
use Rattle.znode.specs.pipe.Inputs.{listed}

-- This record is to be sent to this process; this entry is to be appended at this index, if it is
-- the next one; the number and the flags of a status; the answer to a turn ends, and whether more
-- waits.
pub data OutputView : Type 0 where
  Send : Process → LinkRecord → OutputView
  Append : ℕ → List ℕ → OutputView
  Status : ℕ → ℕ → OutputView
  End : Bool → OutputView

unfoldable pub sent : Form (Process × LinkRecord)
sent = both process link_record

unfoldable pub stated : Form (ℕ × ℕ)
stated = both (number w8) (number w8)

unfoldable pub output_at : ℕ → List ℕ → Result (OutputView × List ℕ) Fault
output_at =
    at_tag 0 (read_as sent (λ x. Send x.0 x.1))
    (at_tag 1 (read_as listed (λ x. Append x.0 x.1))
    (at_tag 2 (read_as stated (λ x. Status x.0 x.1))
    (at_tag 3 (read_as flag (λ more. End more)) no_tag)))

abbrev pub output_spelled : OutputView → Spelled ℕ
output_spelled (Send to r) = behind 0 sent (to, r)
output_spelled (Append index bytes) = behind 1 listed (index, bytes)
output_spelled (Status own flags) = behind 2 stated (own, flags)
output_spelled (End more) = behind 3 flag more

-- a byte says which it is
unfoldable pub output : Form OutputView
output = by_tag (number w8) output_at output_spelled
