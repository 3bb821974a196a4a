-- Laws of the definitions.
use Rattle.std.specs.Prelude.{◌≡◌, ◌≢◌, List, ℕ, [], ◌++◌, Ok}
use Rattle.zcodec.specs.Laws.{IsBytes}
use Rattle.zwire.specs.declared.frame.Frame.{Frame}
use Rattle.zwire.specs.declared.fault.FrameFault.{FrameFault}
use Rattle.zwire.specs.declared.fault.FrameFault.TheVariants.{Cut}
use Rattle.zwire.specs.Frames.{contents, frame, IsFaultOf}

-- a message that fits is read again from its frame, whatever follows
abbrev pub IsReadAgain : Type 0
IsReadAgain =
    (f : Frame) (rest : List ℕ) → frame.Fits f → frame.read (frame.spell f ++ rest) ≡ Ok (f, rest)

-- what is read was spelled so, and fits
abbrev pub WasSpelled : Type 0
WasSpelled =
    (bytes : List ℕ) (x : Frame × List ℕ) → IsBytes bytes → frame.read bytes ≡ Ok x →
    (bytes ≡ frame.spell x.0 ++ x.1) × frame.Fits x.0

-- no stream begins with two different frames
abbrev pub AreDistinct : Type 0
AreDistinct =
    (f g : Frame) (x y : List ℕ) → frame.Fits f → frame.Fits g →
    frame.spell f ++ x ≡ frame.spell g ++ y → (f ≡ g) × (x ≡ y)

-- a frame without its end is cut
abbrev pub BeginningsAreCut : Type 0
BeginningsAreCut =
    (f : Frame) (front back : List ℕ) → frame.Fits f → frame.spell f ≡ front ++ back → back ≢ [] →
    IsFaultOf contents front Cut

-- of what isn't cut, no more bytes make a frame
abbrev pub FaultsStay : Type 0
FaultsStay =
    (bytes more : List ℕ) (fault : FrameFault) → fault ≢ Cut → IsFaultOf contents bytes fault →
    IsFaultOf contents (bytes ++ more) fault
