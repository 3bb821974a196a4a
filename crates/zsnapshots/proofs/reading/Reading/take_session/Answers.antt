use Rattle.std.proofs.Common.{◌≡◌, ℕ, ◌-◌, nat_cmp, Some, true, ◌∙◌, sym, subst}
use Rattle.std.specs.Cmp.{nat_cmp_total}
use Rattle.ztree.specs.declared.session.Session.{Session}
use Rattle.zops.specs.Machine.{MachineState}
use Rattle.zsnapshots.specs.Rows.{session_text}
use Rattle.zsnapshots.specs.States.{ReadingView, IsSessionFault, IsAbove, IsTaken, sessions_of, wants_session}
use Rattle.zsnapshots.specs.support.Reading.{IsReading}
use Rattle.zsnapshots.proofs.RowForms.{is_session_text}
use Rattle.zsnapshots.proofs.Keys.{map_above, not_above}
use Rattle.zsnapshots.proofs.Cached.{view, session_kept, session_taken}
use Rattle.zsnapshots.proofs.Reported.{read_is, refused_reported}
use Rattle.zsnapshots.proofs.reading.Reading.take_session.Goals as goal

pub returns-then-not-is_session_above-clause-fault : goal.returns-then-not-is_session_above-clause-fault
returns-then-not-is_session_above-clause-fault c =
    let i = c.self.inside in
    let e : ℕ × Session = (c.in-Ok.read.0, c.in-Ok.read.1) in
    let found = c.in-Ok.ensures.found in (
      e,
      c.in-Ok.read.2.now,
      read_is session_text is_session_text e c.in-Ok.read.2.now c.args.bytes.now found.0 found.1,
      subst (λ (r : ReadingView). IsAbove nat_cmp (sessions_of r.state) e.0 → ⊥) c.self.view_is
          (not_above nat_cmp i.session e.0 (sessions_of i.restoring) c.self.invariant.last_session (sym c.is_session_above.ensures
          ∙ c.if-not-is_session_above.true)),
    )

pub returns-in-Err-put_session-clause-fault : goal.returns-in-Err-put_session-clause-fault
returns-in-Err-put_session-clause-fault c =
    let i = c.self.inside in
    let e : ℕ × Session = (c.in-Ok.read.0, c.in-Ok.read.1) in
    let found = c.in-Ok.ensures.found in
    let above = map_above nat_cmp_total i.restoring.service.plain.sessions i.session e.0 c.self.invariant.last_session
    (sym c.is_session_above.ensures ∙ c.if-not-is_session_above.false) in
    subst (λ (r : ReadingView). IsSessionFault r.state c.args.bytes.now c.from-in-Err-put_session.result) c.self.view_is
    (subst (IsSessionFault i.restoring c.args.bytes.now) (sym c.from-in-Err-put_session.ensures)
    (refused_reported session_text is_session_text _ _ c.args.bytes.now e c.in-Ok.read.2.now found.0 found.1 above
    c.in-Err-put_session.fault c.in-Err-put_session.ensures.fault))

pub invariant_of-self-2 : goal.invariant_of-self-2
invariant_of-self-2 c =
    let i = c.self.inside in
    let wanted = subst (λ (r : ReadingView). wants_session r ≡ true) (sym c.self.view_is) c.requires in
    let above = map_above nat_cmp_total i.restoring.service.plain.sessions i.session c.in-Ok.read.0 c.self.invariant.last_session
    (sym c.is_session_above.ensures ∙ c.if-not-is_session_above.false) in
    subst (λ (u : MachineState). IsReading i.header u (i.sessions - 1) i.nodes i.replies (Some c.in-Ok.read.0) i.path i.client)
    (sym c.in_default.ensures.state)
    (session_kept i.header i.restoring i.sessions i.nodes i.replies i.session i.path i.client c.self.invariant c.in-Ok.read.0
    c.in-Ok.read.1 above wanted)

pub returns-clause-taken : goal.returns-clause-taken
returns-clause-taken c =
    let i = c.self.inside in
    let found = c.in-Ok.ensures.found in
    let rest = c.in-Ok.read.2.now in
    let wanted = subst (λ (r : ReadingView). wants_session r ≡ true) (sym c.self.view_is) c.requires in
    let above = map_above nat_cmp_total i.restoring.service.plain.sessions i.session c.in-Ok.read.0 c.self.invariant.last_session
    (sym c.is_session_above.ensures ∙ c.if-not-is_session_above.false) in
    subst (λ (r : ReadingView). IsTaken r (view i.header c.put_session.new.self) c.args.bytes.now rest) c.self.view_is
    (subst (λ (u : MachineState). IsTaken (view i.header i.restoring) (view i.header u) c.args.bytes.now rest) (sym c.in_default.ensures.state)
    (session_taken i.header i.restoring i.sessions i.nodes i.replies i.session i.path i.client c.self.invariant
    c.in-Ok.read.0 c.in-Ok.read.1 above wanted c.args.bytes.now rest found.0 found.1))
