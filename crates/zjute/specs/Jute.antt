-- The types of which zookeeper.jute makes its records, as jute's BinaryOutputArchive writes them.
use Rattle.std.specs.Prelude.{ℤ, pos, ℕ, ◌≤◌, List, [], length, Option, Ok, Err, nat_lt, if◌then◌else◌}
use lib.IntN.{neg_ℤ}
use Rattle.std.specs.Int.{Width, w32, w64, cast_unsigned, cast_signed}
use Rattle.std.specs.Int.RustNames.{FitsSigned}
use Rattle.zcodec.specs.declared.fault.Fault.TheVariants.{Long}
use Rattle.zcodec.specs.Forms.{Form, number, made}
use Rattle.zcodec.specs.Choices.{sized, listed}
use Rattle.zcodec.specs.Choices as forms
use Rattle.zjute.specs.declared.limits.TheConstants.{MAX_FRAME}

-- a number below 0, without its sign: `neg 101` is -101
abbrev pub neg : ℕ → ℤ
neg n = neg_ℤ (pos n)

-- a signed number in two's complement: a negative one is encoded as itself plus 2 ^ 32, or 2 ^ 64
abbrev pub signed : Width → Form ℤ
signed w = made (number w) (cast_unsigned w) (λ n. Ok (cast_signed w n)) (FitsSigned w)

-- `int`
unfoldable pub int : Form ℤ
int = signed w32

-- `long`
unfoldable pub long : Form ℤ
long = signed w64

-- `buffer`, and `ustring`, which has the same encoding; a length of -1 means null
unfoldable pub buffer : Form (Option (List ℕ))
buffer = forms.buffer MAX_FRAME

-- a `ustring` that isn't null
unfoldable pub text : Form (List ℕ)
text = sized MAX_FRAME

-- `vector<ustring>`
unfoldable pub texts : Form (List (List ℕ))
texts = listed MAX_FRAME text

-- all remaining bytes
unfoldable pub left : Form (List ℕ)
left =
    record {
      spell = λ bytes. bytes;
      read = λ bytes. if nat_lt MAX_FRAME (length bytes) then Err Long else Ok (bytes, []);
      Fits = λ bytes. length bytes ≤ MAX_FRAME;
    }
