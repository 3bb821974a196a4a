use Rattle.std.proofs.Common.{sym, ap, ◌∙◌}
use Rattle.std.specs.Option.{option_map}
use Rattle.std.specs.FinMap.{get}
use Rattle.ztree.specs.declared.session.Session.{Session}
use Rattle.zslots.specs.declared.id.Id.{Id}
use Rattle.zsessions.specs.support.TableView.{TableView}
use Rattle.zsessions.proofs.Read.{found-session}
use Rattle.zsessions.proofs.table.Table.get.Goals as goal

pub returns-in-Some : goal.returns-in-Some
returns-in-Some c =
    let t = c.self.inside in
    sym (ap (option_map (λ (p : Id × Session). p.1)) (sym c.found.ensures ∙ c.in-Some.is))
    ∙ sym (found-session t.ids.entries t.rows.items c.args.id) ∙ ap (λ (v : TableView). get v.sessions c.args.id) c.self.view_is

pub returns-in-None : goal.returns-in-None
returns-in-None c =
    let t = c.self.inside in
    sym (ap (option_map (λ (p : Id × Session). p.1)) (sym c.found.ensures ∙ c.in-None.is))
    ∙ sym (found-session t.ids.entries t.rows.items c.args.id) ∙ ap (λ (v : TableView). get v.sessions c.args.id) c.self.view_is
