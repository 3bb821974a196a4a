use Rattle.std.proofs.Common.{ap, subst, ◌∙◌, arith}
use Rattle.zcodec.specs.Readers.{Gives, whole}
use Rattle.zjute.specs.Asking.{request}
use Rattle.zjute.proofs.Asking.{request_found, request_again}
use Rattle.zjute.proofs.reading.read_request.Goals as goal

pub returns-clause-found : goal.returns-clause-found
returns-clause-found c = request_found c.args.bytes.now c.all_of.result (λ i. omega (arith, c.type_inv.bytes i)) c.all_of.ensures

pub returns-clause-only : goal.returns-clause-only
returns-clause-only c = λ r fits e. subst (λ read. Gives (λ it. it) c.all_of.result read) (ap (whole request) e ∙ request_again r fits) c.all_of.ensures
