-- The words of a line, and their meanings. Data is base64 with padding, by RFC 4648, section 4. The
-- rest is this project's profile.
use Rattle.std.specs.Prelude.{ℕ, Bool, not, ◌&&◌, ◌||◌, List, [], length, codes, slice_index, Option, None, Some, Result, Ok, Err, nat_lt, nat_le, ◌==◌, if◌then◌else◌}
use Rattle.std.specs.List.{list_any, list_all, slice_split}
use Rattle.std.specs.Str.{bytes_eq}
use Rattle.std.specs.Char.{is_ascii_digit}
use Rattle.std.specs.Str.Parse.{digits_value}
use Rattle.base64.specs.Engines.{standard}
use Rattle.base64.specs.GeneralPurpose.{decode_of, encode_of}
use Rattle.base64.specs.declared.decode.DecodeError.{DecodeError}
use Rattle.zpath.specs.Grammar.{is_empty}
use Rattle.ztree.specs.declared.limits.TheConstants.{MAX_DATA, MAX_CLIENTS}
use Rattle.zscript_text.specs.declared.limits.TheConstants.{MAX_LINE, NUMBER_BOUND}

-- a word is its bytes
abbrev pub Word : Type 0
Word = List ℕ

-- the parts of a line between its spaces
abbrev pub words_of : List ℕ → List Word
words_of line = slice_split (λ byte. byte == 0x20) line

-- a space or a visible ASCII byte
abbrev pub is_plain : ℕ → Bool
is_plain byte = nat_le 0x20 byte && nat_le byte 0x7e

-- the line is longer than MAX_LINE bytes
abbrev pub is_long : List ℕ → Bool
is_long line = nat_lt MAX_LINE (length line)

-- the line is too long, has a byte that isn't plain, or has an empty word (two spaces in a row, or
-- one at an end)
abbrev pub is_malformed : List ℕ → Bool
is_malformed line = is_long line || list_any (λ byte. not (is_plain byte)) line || list_any is_empty (words_of line)

-- the word is longer than one byte and begins with a zero
abbrev pub has_leading_zero : Word → Bool
has_leading_zero word = nat_lt 1 (length word) && slice_index word 0 == 48

-- the number that a word spells: decimal, without leading zeros, and below NUMBER_BOUND
abbrev pub number_of : Word → Option ℕ
number_of word =
    if is_empty word || not (list_all is_ascii_digit word) || has_leading_zero word || nat_le NUMBER_BOUND (digits_value 10 word)
    then None else Some (digits_value 10 word)

-- the client that a word names, by its number
abbrev pub client_of : Word → Option ℕ
client_of word = small (number_of word)
  where
    small : Option ℕ → Option ℕ
    small None = None
    small (Some n) = if nat_lt n MAX_CLIENTS then Some n else None

-- the decoded bytes, if there are 1 to MAX_DATA of them
abbrev pub full_data : Result (List ℕ) DecodeError → Option (List ℕ)
full_data (Err fault) = None
full_data (Ok bytes) = if is_empty bytes || nat_lt MAX_DATA (length bytes) then None else Some bytes

-- the data that a word spells: `-` for no bytes, else strict base64 of 1 to MAX_DATA bytes
abbrev pub data_of : Word → Option (List ℕ)
data_of word = if bytes_eq word (codes "-") then Some [] else full_data (decode_of standard word)

-- the text of data
abbrev pub data_text : List ℕ → List ℕ
data_text bytes = if is_empty bytes then codes "-" else encode_of standard bytes
