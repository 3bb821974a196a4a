use Rattle.std.proofs.Common.{◌≡◌, true, refl, ◌∙◌}
use Rattle.zprotocol.specs.declared.process.Process.TheVariants.{Server}
use Rattle.zprotocol.proofs.world_lemmas.Processes.{same_itself}
use Rattle.zworld.specs.links.Places.{is_noted}
use Rattle.zworld.proofs.links_lemmas.Noted.{notice_seen}
use Rattle.zworld.proofs.links.links.Links.put_notice.Goals as goal

pub returns-clause-put : goal.returns-clause-put
returns-clause-put g c =
    let server = Server c.args.server in
    let some : is_noted c.put.new.self server ≡ true = c.put.ensures server ∙ rw (same_itself server) refl in
    notice_seen c.self.view_is c.put.new.self server c.requires some c.put.ensures
