use Rattle.std.proofs.Common.{refl}
use Rattle.sha2.specs.Sha256.{compress, digest_bytes, first_words, hash_after, rounds, schedule, sha256}
use Rattle.zpasswords.specs.Hmac.{hmac_sha256}
use Rattle.zpasswords.specs.Passwords.{password_of}
use Rattle.zpasswords.proofs.rows.passwords.Goals as goal

pub returns : goal.returns
unfolding first_words schedule rounds compress hash_after digest_bytes sha256 hmac_sha256 password_of
returns c = record { seventh = refl; other = refl }
