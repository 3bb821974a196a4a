use Rattle.std.proofs.Common.{rules}
use Rattle.ztree.proofs.client.ClientId.new.Goals as goal

pub returns-then-number-lt-MAX_CLIENTS-clause-client : goal.returns-then-number-lt-MAX_CLIENTS-clause-client
returns-then-number-lt-MAX_CLIENTS-clause-client c = search rules
