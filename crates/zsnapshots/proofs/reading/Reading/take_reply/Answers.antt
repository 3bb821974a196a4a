use Rattle.std.proofs.Common.{◌≡◌, ℕ, ◌-◌, nat_cmp, Some, true, false, ◌∙◌, sym, subst}
use Rattle.std.specs.Cmp.{nat_cmp_total}
use Rattle.zcalls.specs.Cached.{Cached}
use Rattle.zops.specs.Machine.{MachineState}
use Rattle.zsnapshots.specs.Rows.{reply_text, kept_of}
use Rattle.zsnapshots.specs.States.{ReadingView, IsReplyFault, IsAbove, IsTaken, replies_of, wants_session, wants_node, wants_reply}
use Rattle.zsnapshots.specs.support.Reading.{IsReading}
use Rattle.zsnapshots.proofs.RowForms.{is_reply_text}
use Rattle.zsnapshots.proofs.Keys.{map_above, not_above}
use Rattle.zsnapshots.proofs.Cached.{view, reply_kept, reply_taken}
use Rattle.zsnapshots.proofs.Reported.{read_is, refused_reported}
use Rattle.zsnapshots.proofs.reading.Reading.take_reply.Goals as goal

pub returns-then-not-is_client_above-clause-fault : goal.returns-then-not-is_client_above-clause-fault
returns-then-not-is_client_above-clause-fault c =
    let i = c.self.inside in
    let e : ℕ × Cached = (c.in-Ok.read.0, kept_of c.in-Ok.read.1 c.in-Ok.read.2) in
    let found = c.in-Ok.ensures.found in (
      e,
      c.in-Ok.read.3.now,
      read_is reply_text is_reply_text e c.in-Ok.read.3.now c.args.bytes.now found.0 found.1,
      subst (λ (r : ReadingView). IsAbove nat_cmp (replies_of r.state) e.0 → ⊥) c.self.view_is
          (not_above nat_cmp i.client e.0 (replies_of i.restoring) c.self.invariant.last_client (sym c.is_client_above.ensures
          ∙ c.if-not-is_client_above.true)),
    )

pub returns-in-Err-put_reply-clause-fault : goal.returns-in-Err-put_reply-clause-fault
returns-in-Err-put_reply-clause-fault c =
    let i = c.self.inside in
    let e : ℕ × Cached = (c.in-Ok.read.0, kept_of c.in-Ok.read.1 c.in-Ok.read.2) in
    let found = c.in-Ok.ensures.found in
    let above = map_above nat_cmp_total i.restoring.service.kept i.client e.0 c.self.invariant.last_client
    (sym c.is_client_above.ensures ∙ c.if-not-is_client_above.false) in
    subst (λ (r : ReadingView). IsReplyFault r.state c.args.bytes.now c.from-in-Err-put_reply.result) c.self.view_is
    (subst (IsReplyFault i.restoring c.args.bytes.now) (sym c.from-in-Err-put_reply.ensures)
    (refused_reported reply_text is_reply_text _ _ c.args.bytes.now e c.in-Ok.read.3.now found.0 found.1 above
    c.in-Err-put_reply.fault c.in-Err-put_reply.ensures.fault))

pub invariant_of-self-2 : goal.invariant_of-self-2
invariant_of-self-2 c =
    let i = c.self.inside in
    let none = subst (λ (r : ReadingView). wants_session r ≡ false) (sym c.self.view_is) c.requires.sessions in
    let no_node = subst (λ (r : ReadingView). wants_node r ≡ false) (sym c.self.view_is) c.requires.nodes in
    let wanted = subst (λ (r : ReadingView). wants_reply r ≡ true) (sym c.self.view_is) c.requires.wanted in
    let above = map_above nat_cmp_total i.restoring.service.kept i.client c.in-Ok.read.0 c.self.invariant.last_client
    (sym c.is_client_above.ensures ∙ c.if-not-is_client_above.false) in
    subst (λ (u : MachineState). IsReading i.header u i.sessions i.nodes (i.replies - 1) i.session i.path (Some c.in-Ok.read.0))
    (sym c.in_default.ensures.state)
    (reply_kept i.header i.restoring i.sessions i.nodes i.replies i.session i.path i.client c.self.invariant c.in-Ok.read.0
    c.in-Ok.read.1 c.in-Ok.read.2 above none no_node wanted)

pub returns-clause-taken : goal.returns-clause-taken
returns-clause-taken c =
    let i = c.self.inside in
    let found = c.in-Ok.ensures.found in
    let rest = c.in-Ok.read.3.now in
    let none = subst (λ (r : ReadingView). wants_session r ≡ false) (sym c.self.view_is) c.requires.sessions in
    let no_node = subst (λ (r : ReadingView). wants_node r ≡ false) (sym c.self.view_is) c.requires.nodes in
    let wanted = subst (λ (r : ReadingView). wants_reply r ≡ true) (sym c.self.view_is) c.requires.wanted in
    let above = map_above nat_cmp_total i.restoring.service.kept i.client c.in-Ok.read.0 c.self.invariant.last_client
    (sym c.is_client_above.ensures ∙ c.if-not-is_client_above.false) in
    subst (λ (r : ReadingView). IsTaken r (view i.header c.put_reply.new.self) c.args.bytes.now rest) c.self.view_is
    (subst (λ (u : MachineState). IsTaken (view i.header i.restoring) (view i.header u) c.args.bytes.now rest) (sym c.in_default.ensures.state)
    (reply_taken i.header i.restoring i.sessions i.nodes i.replies i.session i.path i.client c.self.invariant c.in-Ok.read.0
    c.in-Ok.read.1 c.in-Ok.read.2 above none no_node wanted c.args.bytes.now rest (found.0, c.in_default.ensures.can) found.1))
