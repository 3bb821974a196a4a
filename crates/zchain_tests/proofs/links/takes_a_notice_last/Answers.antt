use Rattle.std.proofs.Common.{◌∙◌}
use Rattle.zprotocol.specs.declared.process.Process.TheVariants.{Server}
use Rattle.zchain_tests.proofs.links.takes_a_notice_last.Goals as goal

-- no notice was sent before
pub put-requires : goal.put-requires
put-requires g c = c.in_ok-links.ensures.notices (Server c.in_ok-id.id)

pub put-requires-2 : goal.put-requires-2
put-requires-2 g c =
    c.put.ensures.notices (Server c.in_ok-id.id) ∙ c.in_ok-links.ensures.notices (Server c.in_ok-id.id)

pub put_notice-requires : goal.put_notice-requires
put_notice-requires g c =
    c.put-2.ensures.notices (Server c.in_ok-id.id) ∙ c.put.ensures.notices (Server c.in_ok-id.id)
    ∙ c.in_ok-links.ensures.notices (Server c.in_ok-id.id)
