-- What a host says to a server: this project's own profile. Numbers have the highest byte first.
use Rattle.std.specs.Prelude.{ℕ, List, Result}
use Rattle.std.specs.Int.{w8, w32}
use Rattle.zcodec.specs.declared.fault.Fault.{Fault}
use Rattle.zcodec.specs.Forms.{Form, number, empty, both}
use Rattle.zcodec.specs.Choices.{sized}
use Rattle.zjute.specs.Shapes.{Spelled, behind, read_as, by_tag}
use Rattle.zconnections.specs.buffers.Inputs.{InputView, Opened, Came, Ended, Tick, input_of}
use Rattle.zwire.specs.records.Sums.{at_tag, no_tag}
use Rattle.zdaemon.specs.declared.pipe.limits.TheConstants.{MAX_CAME}
use Rattle.zdaemon.specs.declared.pipe.message.Message.{Message}
use Rattle.zdaemon.specs.declared.pipe.message.Message.TheVariants as code

-- something came to the server; all of it is to be committed, and its chunks are to be sent
pub data MessageView : Type 0 where
  Input : InputView → MessageView
  Keep : MessageView

-- what the code has read, without where it is in memory
abbrev pub message_of : Message → MessageView
message_of (code.Input input) = Input (input_of input)
message_of code.Keep = Keep

-- ---- bytes

unfoldable pub came : Form (ℕ × List ℕ)
came = both (number w32) (sized MAX_CAME)

unfoldable pub message_at : ℕ → List ℕ → Result (MessageView × List ℕ) Fault
message_at =
    at_tag 0 (read_as (number w32) (λ connection. Input (Opened connection)))
    (at_tag 1 (read_as came (λ x. Input (Came x.0 x.1)))
    (at_tag 2 (read_as (number w32) (λ connection. Input (Ended connection)))
    (at_tag 3 (read_as empty (λ _. Input Tick))
    (at_tag 4 (read_as empty (λ _. Keep)) no_tag))))

abbrev pub message_spelled : MessageView → Spelled ℕ
message_spelled (Input (Opened connection)) = behind 0 (number w32) connection
message_spelled (Input (Came connection bytes)) = behind 1 came (connection, bytes)
message_spelled (Input (Ended connection)) = behind 2 (number w32) connection
message_spelled (Input Tick) = behind 3 empty tt
message_spelled Keep = behind 4 empty tt

-- a byte says which it is
unfoldable pub message : Form MessageView
message = by_tag (number w8) message_at message_spelled
