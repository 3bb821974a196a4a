use Rattle.std.proofs.Common.{◌≡◌, ◌+◌, length, rules, sym, ap, ◌∙◌, arith}
use mathlib.Core.Path.{subst}
use Rattle.std.specs.Option.{option_map}
use Rattle.std.specs.FinMap.{get}
use Rattle.ztree.specs.declared.session.Session.{Session}
use Rattle.zslots.specs.declared.id.Id.{Id}
use Rattle.zsessions.specs.Deadlines.{with_deadline}
use Rattle.zsessions.specs.support.TableView.{TableView}
use Rattle.zsessions.specs.support.Rows.{IsTable, Rows, sessions_of, moved_items}
use Rattle.zsessions.proofs.Read.{found-session}
use Rattle.zsessions.proofs.Renewed.{can_move, moved-table, moved-sessions}
use Rattle.zsessions.proofs.KeptAlive.{held-none, held-some, renewed-deadline, renewed-again}
use Rattle.zsessions.proofs.table.Table.keep_alive.Goals as goal

pub returns-in_default-clause-held : goal.returns-in_default-clause-held
returns-in_default-clause-held c =
    let t = c.self.inside in
    let none = sym (ap (λ (v : TableView). get v.sessions c.args.id) c.self.view_is) ∙ found-session t.ids.entries t.rows.items c.args.id
    ∙ ap (option_map (λ (p : Id × Session). p.1)) (sym c.found.ensures ∙ c.in_default.is) in
    sym (held-none c.args.self.now.sessions c.args.client c.args.id none)

pub returns-then-ne-clause-held : goal.returns-then-ne-clause-held
returns-then-ne-clause-held c =
    let t = c.self.inside in
    let there = sym (ap (λ (v : TableView). get v.sessions c.args.id) c.self.view_is) ∙ found-session t.ids.entries t.rows.items c.args.id
    ∙ ap (option_map (λ (p : Id × Session). p.1)) (sym c.found.ensures ∙ c.in-Some.is) in
    let held = held-some c.args.self.now.sessions c.args.id c.in-Some.session there c.args.client in
    search (rules, held)

pub overflow_add-deadline : goal.overflow_add-deadline
overflow_add-deadline c =
    let t = c.self.inside in
    let there = sym (ap (λ (v : TableView). get v.sessions c.args.id) c.self.view_is) ∙ found-session t.ids.entries t.rows.items c.args.id
    ∙ ap (option_map (λ (p : Id × Session). p.1)) (sym c.found.ensures ∙ c.in-Some.is) in
    let room = c.requires c.in-Some.session there in
    omega (arith, room)

pub refile-requires : goal.refile-requires
refile-requires c =
    let t = c.self.inside in
    let wide : length t.buckets ≡ 32 = search rules in
    can_move t.ids.entries t.rows.items t.buckets c.args.id c.in-Some.at c.in-Some.session c.self.invariant (sym c.found.ensures ∙ c.in-Some.is) (c.args.now + c.in-Some.session.timeout) wide

pub invariant_of-self : goal.invariant_of-self
invariant_of-self c =
    let t = c.self.inside in
    let deadline = c.args.now + c.in-Some.session.timeout in
    let wide : length t.buckets ≡ 32 = search rules in
    let table = moved-table t.ids.entries t.rows.items t.buckets c.args.id c.in-Some.at c.in-Some.session c.self.invariant (sym c.found.ensures ∙ c.in-Some.is) deadline wide in
    subst (λ (rows : Rows). IsTable t.ids.entries rows c.refile.new.buckets) (sym (ap (λ h. h.items) c.refile.ensures.items))
    (subst (IsTable t.ids.entries (moved_items t.rows.items t.buckets c.in-Some.session.deadline deadline c.in-Some.at)) (sym c.refile.ensures.buckets) table)

pub returns-then-deadline-session-clause-held : goal.returns-then-deadline-session-clause-held
returns-then-deadline-session-clause-held c =
    let t = c.self.inside in
    let there = sym (ap (λ (v : TableView). get v.sessions c.args.id) c.self.view_is) ∙ found-session t.ids.entries t.rows.items c.args.id
    ∙ ap (option_map (λ (p : Id × Session). p.1)) (sym c.found.ensures ∙ c.in-Some.is) in
    let held = held-some c.args.self.now.sessions c.args.id c.in-Some.session there c.args.client in
    search (rules, held)

pub returns-then-deadline-session-clause-sessions : goal.returns-then-deadline-session-clause-sessions
returns-then-deadline-session-clause-sessions c =
    let t = c.self.inside in
    let deadline = c.args.now + c.in-Some.session.timeout in
    let wide : length t.buckets ≡ 32 = search rules in
    let there = sym (ap (λ (v : TableView). get v.sessions c.args.id) c.self.view_is) ∙ found-session t.ids.entries t.rows.items c.args.id
    ∙ ap (option_map (λ (p : Id × Session). p.1)) (sym c.found.ensures ∙ c.in-Some.is) in
    ap (λ h. sessions_of t.ids.entries h.items) c.refile.ensures.items
    ∙ moved-sessions t.ids.entries t.rows.items t.buckets c.args.id c.in-Some.at c.in-Some.session c.self.invariant (sym c.found.ensures ∙ c.in-Some.is) deadline wide
    ∙ ap (λ (v : TableView). with_deadline v.sessions c.args.id deadline) c.self.view_is
    ∙ renewed-deadline c.args.self.now.sessions c.args.id c.in-Some.session there c.args.now

pub returns-else-deadline-session-clause-held : goal.returns-else-deadline-session-clause-held
returns-else-deadline-session-clause-held c =
    let t = c.self.inside in
    let there = sym (ap (λ (v : TableView). get v.sessions c.args.id) c.self.view_is) ∙ found-session t.ids.entries t.rows.items c.args.id
    ∙ ap (option_map (λ (p : Id × Session). p.1)) (sym c.found.ensures ∙ c.in-Some.is) in
    let held = held-some c.args.self.now.sessions c.args.id c.in-Some.session there c.args.client in
    search (rules, held)

pub returns-else-deadline-session-clause-sessions : goal.returns-else-deadline-session-clause-sessions
returns-else-deadline-session-clause-sessions c =
    let t = c.self.inside in
    let there = sym (ap (λ (v : TableView). get v.sessions c.args.id) c.self.view_is) ∙ found-session t.ids.entries t.rows.items c.args.id
    ∙ ap (option_map (λ (p : Id × Session). p.1)) (sym c.found.ensures ∙ c.in-Some.is) in
    renewed-again c.args.self.now.sessions c.args.id c.in-Some.session there c.args.now c.if-deadline-session.false
