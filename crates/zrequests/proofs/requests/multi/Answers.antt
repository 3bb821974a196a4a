use Rattle.std.proofs.Common.{arith}
use Rattle.std.proofs.lemmas.Bool.Decides.{nat_tests}
use Rattle.zrequests.proofs.Parts.{few_parts, some_parts}
use Rattle.zrequests.proofs.requests.multi.Goals as goal

pub one_multi-requires-clause-some : goal.one_multi-requires-clause-some
one_multi-requires-clause-some c =
    rw c.in_ok-read.ensures (some_parts c.args.terms c.args.session c.as_slice-parts.result.now (grind (arith, nat_tests)))

pub one_multi-requires-clause-few : goal.one_multi-requires-clause-few
one_multi-requires-clause-few c =
    let few = few_parts c.args.terms c.args.session c.as_slice-parts.result.now in
    rw c.in_ok-read.ensures (omega (arith, few))
