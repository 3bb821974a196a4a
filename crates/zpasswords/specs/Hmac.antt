-- HMAC with SHA-256, for keys no longer than a block. The source is RFC 2104, section 2, and for
-- SHA-256 and its blocks of 64 bytes FIPS 180-4.
use Rattle.std.specs.Prelude.{ℕ, ◌-◌, List, ◌++◌, length, map, replicate, bit_xor}
use Rattle.sha2.specs.Sha256.{sha256}

-- the key, padded with zeros to a block
abbrev pub padded : List ℕ → List ℕ
padded key = key ++ replicate (64 - length key) 0

-- each byte xored with the same one
abbrev pub xored : ℕ → List ℕ → List ℕ
xored pad bytes = map (λ b. bit_xor b pad) bytes

-- H (K xor opad, H (K xor ipad, text)): ipad is the byte 0x36 repeated, and opad the byte 0x5c
unfoldable pub hmac_sha256 : List ℕ → List ℕ → List ℕ
hmac_sha256 key message =
    sha256 (xored 0x5c (padded key) ++ sha256 (xored 0x36 (padded key) ++ message))
