use Rattle.std.proofs.Common.{◌≡◌, length, rules, sym, ap, ◌∙◌}
use mathlib.Core.Path.{subst}
use Rattle.std.specs.Option.{option_map, option_map_or}
use Rattle.std.specs.FinMap.{get, insert}
use Rattle.ztree.specs.declared.session.Session.{Session}
use Rattle.zslots.specs.declared.id.Id.{Id}
use Rattle.zsessions.specs.Deadlines.{with_deadline}
use Rattle.zsessions.specs.support.TableView.{TableView}
use Rattle.zsessions.specs.support.Rows.{IsTable, Rows, sessions_of, moved_items}
use Rattle.zsessions.proofs.Read.{found-session}
use Rattle.zsessions.proofs.Renewed.{can_move, moved-table, moved-sessions}
use Rattle.zsessions.proofs.table.Table.renew.Goals as goal

pub refile-requires : goal.refile-requires
refile-requires c =
    let t = c.self.inside in
    let wide : length t.buckets ≡ 32 = search rules in
    can_move t.ids.entries t.rows.items t.buckets c.args.id c.in-Some.at c.in-Some.session c.self.invariant (sym c.found.ensures ∙ c.in-Some.is) c.args.deadline wide

pub invariant_of-self : goal.invariant_of-self
invariant_of-self c =
    let t = c.self.inside in
    let wide : length t.buckets ≡ 32 = search rules in
    let table = moved-table t.ids.entries t.rows.items t.buckets c.args.id c.in-Some.at c.in-Some.session c.self.invariant (sym c.found.ensures ∙ c.in-Some.is) c.args.deadline wide in
    subst (λ (rows : Rows). IsTable t.ids.entries rows c.refile.new.buckets) (sym (ap (λ h. h.items) c.refile.ensures.items))
    (subst (IsTable t.ids.entries (moved_items t.rows.items t.buckets c.in-Some.session.deadline c.args.deadline c.in-Some.at)) (sym c.refile.ensures.buckets) table)

pub returns-in-Some-clause-sessions : goal.returns-in-Some-clause-sessions
returns-in-Some-clause-sessions c =
    let t = c.self.inside in
    let wide : length t.buckets ≡ 32 = search rules in
    ap (λ h. sessions_of t.ids.entries h.items) c.refile.ensures.items
    ∙ moved-sessions t.ids.entries t.rows.items t.buckets c.args.id c.in-Some.at c.in-Some.session c.self.invariant (sym c.found.ensures ∙ c.in-Some.is) c.args.deadline wide
    ∙ ap (λ (v : TableView). with_deadline v.sessions c.args.id c.args.deadline) c.self.view_is

pub returns-in_default-clause-sessions : goal.returns-in_default-clause-sessions
returns-in_default-clause-sessions c =
    let t = c.self.inside in
    let now = c.args.self.now.sessions in
    let none = sym (ap (λ (v : TableView). get v.sessions c.args.id) c.self.view_is) ∙ found-session t.ids.entries t.rows.items c.args.id
    ∙ ap (option_map (λ (p : Id × Session). p.1)) (sym c.found.ensures ∙ c.in_default.is) in
    sym (ap (λ o. option_map_or (λ (s : Session). insert now c.args.id (record s { deadline = c.args.deadline })) o now) none)
