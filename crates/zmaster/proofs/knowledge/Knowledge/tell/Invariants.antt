use Rattle.zprotocol.specs.Posts.{PutsInRoom}
use Rattle.zmaster.specs.support.Reporting.{config_posts_to}
use Rattle.zmaster.proofs.knowledge.Knowledge.tell.Given as goal

abbrev pub invariant-loop-number : goal.invariant-loop-number
invariant-loop-number g l = PutsInRoom l.fn.out l.out (config_posts_to l.fn.self l.number)
