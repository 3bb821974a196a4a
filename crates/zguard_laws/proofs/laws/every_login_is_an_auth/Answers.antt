use Rattle.zguard_laws.proofs.Inner.{login_is_auth}
use Rattle.zguard_laws.proofs.laws.every_login_is_an_auth.Goals as goal

pub returns : goal.returns
returns c = login_is_auth
