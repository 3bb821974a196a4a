use Rattle.std.proofs.Common.{ℕ, sym, arith}
use Rattle.std.proofs.lemmas.List.FromFn.{map-range_with_len_more}
use Rattle.zprotocol.specs.Places.{process_at}
use Rattle.zprotocol.specs.server.Machine.{cached_tree}
use Rattle.zworld.specs.support.Opening.{opening_actor}
use Rattle.zworld.proofs.opening.opening_actors.Goals as goal

pub loop-place-preserved : goal.loop-place-preserved
loop-place-preserved c =
    rw (c.in_ok-push.ensures.items, c.in_ok-opening_actor.ensures, c.in-Some.ensures.some, c.loop-place.invariant)
    (sym (map-range_with_len_more (λ (place : ℕ). opening_actor cached_tree c.args.last c.args.clients (process_at place)) 0 c.loop-place.place
    c.loop-place.place (omega arith)))
