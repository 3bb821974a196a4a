use Rattle.std.proofs.Common.{◌≡◌, false, length}
use Rattle.zprotocol.specs.declared.process.Process.{Process}
use Rattle.zworld.specs.links.Places.{links_of, has_notice, Notes}
use Rattle.zprotocol.specs.world.Links.{put}
use Rattle.zworld.specs.support.Posting.{is_lost}
use Rattle.zworld.proofs.post.post.Given as goal

-- what is still to be put makes of these links what all makes of the first, and no notice is sent
abbrev pub invariant-loop-to : goal.invariant-loop-to
invariant-loop-to l =
    ((p q : Process) → is_lost l.actors q ≡ false
    → put (links_of l.links) l.from l.out.posts p q ≡ put (links_of l.fn.links) l.from l.fn.out.posts p q)
    × Notes l.links (has_notice l.fn.links)

abbrev pub decreases-loop-to : goal.decreases-loop-to
decreases-loop-to l = length l.out.posts
