use Rattle.std.proofs.Common.{refl}
use Rattle.zprotocol.proofs.Posts.{put_one}
use Rattle.zmaster.specs.contracts.knowledge.Knowledge.{the_view}
use Rattle.zmaster.proofs.Rows.{retired}
use Rattle.zmaster.proofs.knowledge.Knowledge.retire.Goals as goal

pub returns-clause-next : goal.returns-clause-next
returns-clause-next g c = rw (← c.self.view_is, retired (the_view c.self.inside) c.args.server) refl

pub returns-clause-puts : goal.returns-clause-puts
returns-clause-puts g c =
    rw (← c.self.view_is, retired (the_view c.self.inside) c.args.server) (put_one _ _ _ _ c.put_reserved.ensures.put c.put_reserved.ensures.room)
