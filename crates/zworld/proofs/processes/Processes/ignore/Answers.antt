use Rattle.std.proofs.Common.{false, sym, ◌∙◌}
use Rattle.zworld.specs.Held.{Held}
use Rattle.zworld.proofs.Delivered.{request_lost}
use Rattle.zworld.proofs.Posting.{lost_read, popped_world}
use Rattle.zworld.proofs.processes.Processes.ignore.Goals as goal

-- a request is lost
pub returns : goal.returns
returns c =
    let old = c.args.self.now in
    let held : Held = record { actors = c.self.inside.actors.items; links = c.self.inside.links } in
    let alive =
    lost_read held old c.deref.result.now c.args.to false c.is_lost.result c.self.view_is c.deref.ensures.value c.is_lost.ensures c.if-is_lost.false
    in
    request_lost old (record held { links = c.next.new.self }) c.args.from c.args.to (sym c.has_request.ensures ∙ c.if-not-has_request.false) alive
    (popped_world old held c.next.new.self c.args.from c.args.to c.self.view_is c.next.ensures.rest)
