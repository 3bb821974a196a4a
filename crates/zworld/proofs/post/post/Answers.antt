use Rattle.std.proofs.Common.{ap, sym, ◌∙◌}
use Rattle.zworld.specs.links.Places.{links_of}
use Rattle.zprotocol.specs.world.Links.{put}
use Rattle.zworld.proofs.Posting.{rest_put}
use Rattle.zworld.proofs.post.post.Goals as goal

pub loop-to-preserved : goal.loop-to-preserved
loop-to-preserved c = (
  λ p q alive.
      rest_put (links_of c.loop-to.links) (links_of c.put.new.self) c.args.from.now c.in-Some.to c.in-Some.message c.next.new.self.posts
      c.in-Ok.ensures.put p q
      ∙ ap (λ posts. put (links_of c.loop-to.links) c.args.from.now posts p q) (sym c.in-Some.ensures.first)
      ∙ c.loop-to.invariant.0 p q alive,
  λ p. c.put.ensures.notices p ∙ c.loop-to.invariant.1 p,
)
