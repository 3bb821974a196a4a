-- The password of a session, derived from the server's secret. ZooKeeper's servers also derive
-- passwords from a secret and the session's id.
use Rattle.std.specs.Prelude.{ℕ, List, take}
use Rattle.std.specs.Int.{w64, to_be_bytes}
use Rattle.zpasswords.specs.Hmac.{hmac_sha256}

-- the id of a session in 8 bytes, highest first
abbrev pub session_bytes : ℕ → List ℕ
session_bytes session = to_be_bytes w64 session

-- the first 16 bytes of the HMAC-SHA256 of the id under the secret
unfoldable pub password_of : List ℕ → ℕ → List ℕ
password_of secret session = take 16 (hmac_sha256 secret (session_bytes session))
