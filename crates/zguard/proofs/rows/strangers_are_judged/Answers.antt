use Rattle.std.proofs.Common.{refl}
use Rattle.base64.proofs.OnLiterals.{base64_on_literals}
use Rattle.sha1.specs.Sha1.{compress, digest_bytes, first_words, hash_after, rounds, schedule, sha1}
use Rattle.zcodec.specs.Forms.{number_at}
use Rattle.zjute.specs.Asking.{request, asked, asked_at, late_ops, middle_ops, op_of}
use Rattle.zjute.specs.Frames.{next_of}
use Rattle.zjute.specs.Jute.{buffer, int, long}
use Rattle.zjute.specs.Requests.{auth}
use Rattle.zlogins.specs.Logins.{login_of}
use Rattle.zguard.proofs.rows.strangers_are_judged.Goals as goal

pub returns-clause-login : goal.returns-clause-login
unfolding first_words schedule rounds compress hash_after digest_bytes sha1 base64_on_literals login_of number_at request asked asked_at op_of middle_ops late_ops next_of buffer int long auth
returns-clause-login c = refl

pub returns-clause-wrong : goal.returns-clause-wrong
unfolding first_words schedule rounds compress hash_after digest_bytes sha1 base64_on_literals login_of number_at request asked asked_at op_of middle_ops late_ops next_of buffer int long auth
returns-clause-wrong c = refl
