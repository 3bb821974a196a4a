use Rattle.std.proofs.Common.{subst, sym, ◌≡◌, true, arith, true≢false}
use Rattle.std.proofs.lemmas.Bool.Decides.{nat_tests}
use Rattle.zprotocol.specs.Places.{is_server}
use Rattle.zprotocol.specs.world.FromTree.{CanStart, opening_world_from}
use Rattle.zworld.specs.Held.{world_of}
use Rattle.zprotocol.specs.server.Machine.{cached_tree_from}
use Rattle.zworld.proofs.Going.{past_begins_with, opens_as}
use Rattle.zworld.proofs.world.World.restored.Goals as goal

pub invariant_of-result : goal.invariant_of-result
invariant_of-result c =
    let some = c.keeps_in_range.ensures.some in
    let few = c.keeps_in_range.ensures.few in
    let opens : is_server c.args.last ≡ true = grind (arith, nat_tests, some, few) in
    let can : CanStart c.args.snapshot.now.machine.plain = record {
      lawful = c.keeps_lawful.ensures.lawful;
      granted =
          c.keeps_lawful.ensures.bounded.sessions;
    } in
    past_begins_with c.args.snapshot.now.machine.plain can true true c.in_ok-restored.field-0 c.new.result.items c.args.last c.args.clients
    (λ no. absurd (true≢false no)) (λ no. absurd (true≢false no)) opens c.new.ensures.items
    (opens_as (cached_tree_from c.args.snapshot.now.machine.plain) c.in_ok-restored.field-0 c.args.last c.args.clients c.in_ok-restored.ensures)

pub returns-clause-world : goal.returns-clause-world
returns-clause-world c =
    subst (λ h. world_of c.in_ok-restored.field-0 h ≡ opening_world_from c.args.snapshot.now.machine.plain c.args.last c.args.clients)
    (sym c.new.ensures.items)
    (opens_as (cached_tree_from c.args.snapshot.now.machine.plain) c.in_ok-restored.field-0 c.args.last c.args.clients c.in_ok-restored.ensures)
