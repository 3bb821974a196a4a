use Rattle.std.proofs.Common.{subst, sym, ◌≡◌, true, arith}
use Rattle.std.proofs.lemmas.Bool.Decides.{nat_tests}
use Rattle.zprotocol.specs.server.Machine.{cached_tree}
use Rattle.zprotocol.specs.world.World.{opening_world}
use Rattle.zprotocol.specs.Places.{is_server}
use Rattle.zworld.specs.Held.{world_of}
use Rattle.zworld.proofs.Going.{past_begins, opens_as}
use Rattle.zworld.proofs.world.World.new.Goals as goal

pub invariant_of-result : goal.invariant_of-result
invariant_of-result c =
    let some = c.keeps_in_range.ensures.some in
    let few = c.keeps_in_range.ensures.few in
    let opens : is_server c.args.last ≡ true = grind (arith, nat_tests, some, few) in
    past_begins c.in_ok-new.field-0 c.new-2.result.items c.args.last c.args.clients opens c.new-2.ensures.items
    (opens_as cached_tree c.in_ok-new.field-0 c.args.last c.args.clients c.in_ok-new.ensures)

pub returns-clause-world : goal.returns-clause-world
returns-clause-world c =
    subst (λ h. world_of c.in_ok-new.field-0 h ≡ opening_world cached_tree c.args.last c.args.clients) (sym c.new-2.ensures.items)
    (opens_as cached_tree c.in_ok-new.field-0 c.args.last c.args.clients c.in_ok-new.ensures)
