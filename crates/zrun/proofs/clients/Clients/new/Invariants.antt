use Rattle.std.proofs.Common.{◌≡◌, ◌++◌, length}
use Rattle.std.specs.Prelude.{All, IsSome}
use Rattle.zrun.specs.Clients.{AreIn}
use Rattle.zrun.proofs.clients.Clients.new.Given as goal

abbrev pub invariant-loop-post : goal.invariant-loop-post
invariant-loop-post l =
    (l.fn.posts.items ≡ l.yielded ++ l.post-iterator.rest.items)
    × (length l.places.items ≡ length l.yielded)
    × (l.run.value ≡ l.fn.posts)
    × AreIn l.fn.posts.items l.places.items
    × All IsSome l.places.items
