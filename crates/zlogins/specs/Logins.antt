-- Logins as ZooKeeper spells them for its scheme `digest`: `user:hash`. The sources are the
-- ZooKeeper Programmer's Guide, "Builtin ACL Schemes", FIPS 180-4 (SHA-1) and RFC 4648 (base64).
-- The colon is the byte 58.
use Rattle.std.specs.Prelude.{ℕ, zero, suc, ◌==◌, Bool, false, List, [], ◌∷◌, ◌++◌, length, take, drop, bytes_eq, Option, None, Some, if◌then◌else◌}
use Rattle.std.specs.List.{list_any}
use Rattle.base64.specs.Engines.{standard}
use Rattle.base64.specs.GeneralPurpose.{decoded_of, encode_of}
use Rattle.sha1.specs.Sha1.{sha1}

-- the place of the first colon, or the number of bytes if there is none
abbrev pub colon_in : List ℕ → ℕ
colon_in [] = zero
colon_in (b ∷ bytes) = if b == 58 then zero else suc (colon_in bytes)

-- the bytes before the first colon, and those after it
abbrev pub user_of : List ℕ → List ℕ
user_of text = take (colon_in text) text

abbrev pub hash_of : List ℕ → List ℕ
hash_of text = drop (suc (colon_in text)) text

-- the login of a `user:password`: the base64 of its SHA-1 comes after the user
unfoldable pub login_of : List ℕ → List ℕ
login_of given = user_of given ++ 58 ∷ encode_of standard (sha1 given)

-- the `user:password` is that of this login, or of one of these
abbrev pub is_among : List ℕ → List (List ℕ) → Bool
is_among login logins = list_any (λ one. bytes_eq login one) logins

abbrev pub is_listed : List (List ℕ) → List ℕ → Bool
is_listed logins given = is_among (login_of given) logins

-- a digest has 20 bytes
abbrev pub is_digest : Option (List ℕ) → Bool
is_digest None = false
is_digest (Some bytes) = length bytes == 20

-- the bytes are spelled as a login
abbrev pub is_login : List ℕ → Bool
is_login text = is_digest (decoded_of standard (hash_of text))
