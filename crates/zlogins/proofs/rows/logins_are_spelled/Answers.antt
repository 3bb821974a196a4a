use Rattle.std.proofs.Common.{refl}
use Rattle.base64.proofs.OnLiterals.{base64_on_literals}
use Rattle.sha1.specs.Sha1.{compress, digest_bytes, first_words, hash_after, rounds, schedule, sha1}
use Rattle.zlogins.specs.Logins.{login_of}
use Rattle.zlogins.proofs.rows.logins_are_spelled.Goals as goal

pub returns : goal.returns
unfolding first_words schedule rounds compress hash_after digest_bytes sha1 base64_on_literals login_of
returns c = record { ann = refl; bob = refl }
