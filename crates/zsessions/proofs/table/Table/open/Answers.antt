use Rattle.std.proofs.Common.{◌≡◌, ◌<◌, None, rules, length, sym, ap, ◌∙◌}
use mathlib.Core.Path.{subst}
use Rattle.std.specs.FinMap as finite
use Rattle.std.specs.FinMap.{get, insert, remove}
use Rattle.zsessions.specs.declared.row.SessionRow.{SessionRow}
use Rattle.zsessions.specs.support.TableView.{TableView}
use Rattle.zsessions.specs.support.Rows.{IsTable, IdEntries, Rows, id_at, sessions_of, bucket, bucket_number, filed_items}
use Rattle.zsessions.proofs.Read.{other_key, no_id}
use Rattle.zsessions.proofs.Opened.{removed-inserted, open-room, opened, opened-table, opened-sessions}
use Rattle.zsessions.proofs.table.Table.open.Goals as goal

pub file-requires : goal.file-requires
file-requires c =
    let t = c.self.inside in
    let row : SessionRow = record { id = c.args.id; session = c.args.session; links = record { next = None; prev = None } } in
    subst (λ (rows : Rows). (bucket t.buckets (bucket_number c.args.session.deadline)).len < finite.len rows) (sym c.in-Ok.ensures.items)
    (open-room t.ids.entries t.rows.items t.buckets c.in-Ok.at row c.self.invariant c.in-Ok.ensures.new.1)

pub invariant_of-self-2 : goal.invariant_of-self-2
invariant_of-self-2 c =
    let t = c.self.inside in
    let id = c.in-Ok.at in
    let row : SessionRow = record { id = c.args.id; session = c.args.session; links = record { next = None; prev = None } } in
    let later = c.insert-2.new.self.entries in
    let free = no_id t.ids.entries t.rows.items t.buckets c.args.id c.self.invariant (ap (λ (v : TableView). get v.sessions c.args.id) c.self.view_is ∙ c.requires.free) in
    let here = ap (id_at later) (sym c.number.ensures) ∙ c.in-Ok-insert.ensures.updates.1 in
    let wide : length t.buckets ≡ 32 = search rules in
    let table = opened-table t.ids.entries t.rows.items t.buckets id row c.self.invariant c.in-Ok.ensures.new.1 later free here
    (λ q other. c.in-Ok-insert.ensures.updates.2 q (other_key c.number.result q (λ e. other (e ∙ c.number.ensures)))) wide in
    let items = ap (λ h. h.items) c.file.ensures.items ∙ ap (λ rows. filed_items rows t.buckets c.args.session.deadline id) c.in-Ok.ensures.items in
    subst (λ rows. IsTable later rows c.file.new.buckets) (sym items)
    (subst (IsTable later (opened t.ids.entries t.rows.items t.buckets id row c.self.invariant c.in-Ok.ensures.new.1)) (sym c.file.ensures.buckets) table)

pub returns-clause-sessions : goal.returns-clause-sessions
returns-clause-sessions c =
    let t = c.self.inside in
    let id = c.in-Ok.at in
    let row : SessionRow = record { id = c.args.id; session = c.args.session; links = record { next = None; prev = None } } in
    let later = c.insert-2.new.self.entries in
    let free = no_id t.ids.entries t.rows.items t.buckets c.args.id c.self.invariant (ap (λ (v : TableView). get v.sessions c.args.id) c.self.view_is ∙ c.requires.free) in
    let here = ap (id_at later) (sym c.number.ensures) ∙ c.in-Ok-insert.ensures.updates.1 in
    let items = ap (λ h. h.items) c.file.ensures.items ∙ ap (λ rows. filed_items rows t.buckets c.args.session.deadline id) c.in-Ok.ensures.items in
    ap (sessions_of later) items
    ∙ opened-sessions t.ids.entries t.rows.items t.buckets id row c.self.invariant c.in-Ok.ensures.new.1 later free here
    (λ q other. c.in-Ok-insert.ensures.updates.2 q (other_key c.number.result q (λ e. other (e ∙ c.number.ensures))))
    ∙ ap (λ (v : TableView). insert v.sessions c.args.id c.args.session) c.self.view_is

pub invariant_of-self-in_default-insert : goal.invariant_of-self-in_default-insert
invariant_of-self-in_default-insert c =
    let t = c.self.inside in
    let row : SessionRow = record { id = c.args.id; session = c.args.session; links = record { next = None; prev = None } } in
    let items = c.remove.ensures.items ∙ ap (λ rows. remove rows c.in-Ok.at) c.in-Ok.ensures.items ∙ removed-inserted t.rows.items c.in-Ok.at row c.in-Ok.ensures.new.1 in
    subst (λ (ids : IdEntries). IsTable ids c.remove.new.self.items t.buckets) (sym c.in_default-insert.ensures.err)
    (subst (λ rows. IsTable t.ids.entries rows t.buckets) (sym items) c.self.invariant)

pub returns-in_default-insert-clause-err : goal.returns-in_default-insert-clause-err
returns-in_default-insert-clause-err c =
    let t = c.self.inside in
    let row : SessionRow = record { id = c.args.id; session = c.args.session; links = record { next = None; prev = None } } in
    let items = c.remove.ensures.items ∙ ap (λ rows. remove rows c.in-Ok.at) c.in-Ok.ensures.items ∙ removed-inserted t.rows.items c.in-Ok.at row c.in-Ok.ensures.new.1 in
    ap (λ (ids : IdEntries). sessions_of ids c.remove.new.self.items) c.in_default-insert.ensures.err
    ∙ ap (sessions_of t.ids.entries) items
    ∙ ap (λ (v : TableView). v.sessions) c.self.view_is
