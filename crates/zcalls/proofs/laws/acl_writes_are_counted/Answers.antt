use Rattle.zcalls.proofs.AclWrites.{acl_is_counted}
use Rattle.zcalls.proofs.laws.acl_writes_are_counted.Goals as goal

pub returns : goal.returns
returns c = acl_is_counted
