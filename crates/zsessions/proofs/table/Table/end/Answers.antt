use Rattle.std.proofs.Common.{◌≡◌, IsSome, rules, length, sym, ap, ◌∙◌}
use mathlib.Core.Path.{subst}
use Rattle.std.specs.FinMap.{get, remove}
use Rattle.zsessions.specs.declared.row.SessionRow.{SessionRow}
use Rattle.zsessions.specs.support.TableView.{TableView}
use Rattle.zsessions.specs.support.Rows.{IsTable, id_at, sessions_of, unfiled_items}
use Rattle.zsessions.proofs.Read.{other_key, row_here, has_id, has_row}
use Rattle.zsessions.proofs.Ended.{end-some, ended-table, ended-sessions}
use Rattle.zsessions.proofs.table.Table.end.Goals as goal

pub returns-in_default-clause-sessions : goal.returns-in_default-clause-sessions
returns-in_default-clause-sessions c =
    let there = subst (λ (t : TableView). IsSome (get t.sessions c.args.id)) (sym c.self.view_is) c.requires in
    absurd (has_id c.self.inside.ids.entries c.self.inside.rows.items c.args.id there (ap (id_at c.self.inside.ids.entries) (sym c.number.ensures) ∙ sym c.remove.ensures.value ∙ c.in_default.is))

pub returns-in_default-session_of-clause-sessions : goal.returns-in_default-session_of-clause-sessions
returns-in_default-session_of-clause-sessions c =
    let there = subst (λ (t : TableView). IsSome (get t.sessions c.args.id)) (sym c.self.view_is) c.requires in
    let under = ap (id_at c.self.inside.ids.entries) (sym c.number.ensures) ∙ sym c.remove.ensures.value ∙ c.in-Some.is in
    absurd (has_row c.self.inside.ids.entries c.self.inside.rows.items c.args.id c.in-Some.at there under (sym c.session_of.ensures ∙ c.in_default-session_of.is))

pub unfile-requires : goal.unfile-requires
unfile-requires c =
    let t = c.self.inside in
    let under = ap (id_at t.ids.entries) (sym c.number.ensures) ∙ sym c.remove.ensures.value ∙ c.in-Some.is in
    let here = row_here t.ids.entries t.rows.items t.buckets c.args.id c.in-Some.at c.in-Some-session_of.last c.self.invariant under (sym c.session_of.ensures ∙ c.in-Some-session_of.is) in
    end-some t.ids.entries t.rows.items t.buckets c.in-Some.at (record { id = c.args.id; session = c.in-Some-session_of.last; links = here.0 }) c.self.invariant here.1

pub invariant_of-self-2 : goal.invariant_of-self-2
invariant_of-self-2 c =
    let t = c.self.inside in
    let id = c.in-Some.at in
    let under = ap (id_at t.ids.entries) (sym c.number.ensures) ∙ sym c.remove.ensures.value ∙ c.in-Some.is in
    let here = row_here t.ids.entries t.rows.items t.buckets c.args.id id c.in-Some-session_of.last c.self.invariant under (sym c.session_of.ensures ∙ c.in-Some-session_of.is) in
    let row : SessionRow = record { id = c.args.id; session = c.in-Some-session_of.last; links = here.0 } in
    let later = c.remove.new.self.entries in
    let gone = ap (id_at later) (sym c.number.ensures) ∙ c.remove.ensures.updates.1 in
    let wide : length t.buckets ≡ 32 = search rules in
    let table = ended-table t.ids.entries t.rows.items t.buckets id row c.self.invariant here.1 later gone
    (λ q other. c.remove.ensures.updates.2 q (other_key c.number.result q (λ e. other (e ∙ c.number.ensures)))) wide in
    let items = c.remove-2.ensures.items ∙ ap (λ h. remove h.items id) c.unfile.ensures.items in
    subst (λ rows. IsTable later rows c.unfile.new.buckets) (sym items)
    (subst (IsTable later (remove (unfiled_items t.rows.items id) id)) (sym c.unfile.ensures.buckets) table)

pub returns-clause-sessions : goal.returns-clause-sessions
returns-clause-sessions c =
    let t = c.self.inside in
    let id = c.in-Some.at in
    let under = ap (id_at t.ids.entries) (sym c.number.ensures) ∙ sym c.remove.ensures.value ∙ c.in-Some.is in
    let here = row_here t.ids.entries t.rows.items t.buckets c.args.id id c.in-Some-session_of.last c.self.invariant under (sym c.session_of.ensures ∙ c.in-Some-session_of.is) in
    let row : SessionRow = record { id = c.args.id; session = c.in-Some-session_of.last; links = here.0 } in
    let later = c.remove.new.self.entries in
    let gone = ap (id_at later) (sym c.number.ensures) ∙ c.remove.ensures.updates.1 in
    let items = c.remove-2.ensures.items ∙ ap (λ h. remove h.items id) c.unfile.ensures.items in
    ap (sessions_of later) items
    ∙ ended-sessions t.ids.entries t.rows.items t.buckets id row c.self.invariant here.1 later gone
    (λ q other. c.remove.ensures.updates.2 q (other_key c.number.result q (λ e. other (e ∙ c.number.ensures))))
    ∙ ap (λ (v : TableView). remove v.sessions c.args.id) c.self.view_is
