-- Frames: a length in four bytes, and that many bytes. They are a message with the process that
-- sent it and the process that is to receive it.
use Rattle.std.specs.Prelude.{◌≡◌, ℕ, ◌≤◌, List, length, Result, Ok, Err}
use Rattle.zcodec.specs.declared.fault.Fault.TheVariants.{Short, Long}
use Rattle.zcodec.specs.Forms.{Form, both, made}
use Rattle.zcodec.specs.Choices.{sized}
use Rattle.zcodec.specs.Readers.{whole}
use Rattle.zjute.specs.Shapes.{fields}
use Rattle.zprotocol.specs.declared.message.Message.{Message}
use Rattle.zprotocol.specs.declared.process.Process.{Process}
use Rattle.zwire.specs.declared.limits.TheConstants.{MAX_FRAME}
use Rattle.zwire.specs.declared.frame.Frame.{Frame}
use Rattle.zwire.specs.declared.fault.FrameFault.{FrameFault}
use Rattle.zwire.specs.declared.fault.FrameFault.TheVariants.{Cut, TooLong, Contents, Memory}
use Rattle.zwire.specs.Fields.{process}
use Rattle.zwire.specs.Messages.{bare, any_message}

-- the frame of a message
abbrev pub frame_of : {T : Type 0} → Process → Process → Message T → Frame
frame_of sender receiver message =
    record { sender = sender; receiver = receiver; message = bare message }

-- what follows the length
unfoldable pub contents : Form Frame
contents = fields (both process (both process any_message))
    (λ f. (f.sender, (f.receiver, f.message)))
    (λ p. record { sender = p.0; receiver = p.1.0; message = p.1.1 })

-- a value after its length, at most this great: it takes all of these bytes
abbrev pub framed : {A : Type 0} → ℕ → Form A → Form A
framed most c =
    made (sized most) c.spell (whole c) (λ x. c.Fits x × (length (c.spell x) ≤ most))

unfoldable pub frame : Form Frame
frame = framed MAX_FRAME contents

-- Why no value of this form comes first in a frame. The bytes end before the frame does; or the
-- length is above the limit; or the bytes after the length spell no value, with this first fault.
abbrev pub IsFaultOf : {A : Type 0} → Form A → List ℕ → FrameFault → Type 0
IsFaultOf c bytes Cut = (sized MAX_FRAME).read bytes ≡ Err Short
IsFaultOf c bytes TooLong = (sized MAX_FRAME).read bytes ≡ Err Long
IsFaultOf c bytes (Contents fault) =
    (text : List ℕ) × (rest : List ℕ) × ((sized MAX_FRAME).read bytes ≡ Ok (text, rest)) ×
    (whole c text ≡ Err fault)
IsFaultOf c bytes Memory = Unit {0}

-- a length and its bytes come first; else which of the first two faults it is
abbrev pub IsCut : {V : Type 0} → (V → List ℕ × List ℕ) → Result V FrameFault → List ℕ → Type 0
IsCut of (Ok v) bytes = (sized MAX_FRAME).read bytes ≡ Ok (of v)
IsCut of (Err Cut) bytes = (sized MAX_FRAME).read bytes ≡ Err Short
IsCut of (Err TooLong) bytes = (sized MAX_FRAME).read bytes ≡ Err Long
IsCut of (Err other) bytes = ⊥
