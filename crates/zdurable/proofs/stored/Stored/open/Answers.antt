use Rattle.std.proofs.Common.{◌≡◌, List, ℕ, refl, sym, subst, ◌∙◌}
use Rattle.zjournal.specs.Device.{LeavesOnly}
use Rattle.zjournal.specs.Faults.{IsSuch}
use Rattle.zjournal.specs.Journal.{Represents, device_of}
use Rattle.zdurable.specs.declared.stored.Stored.{Stored}
use Rattle.zdurable.proofs.Opening.{read_then}
use Rattle.zdurable.proofs.Storing.{stores}
use Rattle.zdurable.proofs.stored.Stored.open.Goals as goal

pub returns-in-Ok-open-clause-any_moment : goal.returns-in-Ok-open-clause-any_moment
returns-in-Ok-open-clause-any_moment g c batches stands =
    read_then g.D.Device.moment g.D.Device.left_since c.args.device c.look.new.device (device_of c.in-Ok-open.journal)
    (g.D.Device.seen c.args.device) c.look.ensures.any_moment
    (Represents c.args.servers batches) stands
    (subst (λ n. LeavesOnly g.D.Device.moment g.D.Device.left_since c.look.new.device (device_of c.in-Ok-open.journal) (Represents n batches))
    c.number.ensures.same
    (c.in-Ok-open.ensures.any_moment batches
    (subst (λ n. Represents n batches (g.D.Device.seen c.look.new.device)) (sym c.number.ensures.same)
    (subst (Represents c.args.servers batches) (sym c.look.ensures.seen) stands))))

pub returns-clause-any_moment_err : goal.returns-clause-any_moment_err
returns-clause-any_moment_err g c batches stands =
    read_then g.D.Device.moment g.D.Device.left_since c.args.device c.look.new.device c.in-Err-open.device
    (g.D.Device.seen c.args.device) c.look.ensures.any_moment
    (Represents c.args.servers batches) stands
    (subst (λ n. LeavesOnly g.D.Device.moment g.D.Device.left_since c.look.new.device c.in-Err-open.device (Represents n batches))
    c.number.ensures.same
    (c.in-Err-open.ensures.any_moment_err batches
    (subst (λ n. Represents n batches (g.D.Device.seen c.look.new.device)) (sym c.number.ensures.same)
    (subst (Represents c.args.servers batches) (sym c.look.ensures.seen) stands))))

pub returns-clause-untouched : goal.returns-clause-untouched
returns-clause-untouched g c of_content =
    let left = c.in-Err-open.ensures.untouched of_content in
    let is_old = λ (b : List ℕ). b ≡ g.D.Device.seen c.args.device in (
      left.0 ∙ c.look.ensures.seen,
      read_then g.D.Device.moment g.D.Device.left_since c.args.device c.look.new.device c.in-Err-open.device
          (g.D.Device.seen c.args.device) c.look.ensures.any_moment is_old refl
          (subst (λ (b : List ℕ). LeavesOnly g.D.Device.moment g.D.Device.left_since c.look.new.device c.in-Err-open.device (λ d. d ≡ b))
          c.look.ensures.seen left.1),
    )

pub returns-clause-fault : goal.returns-clause-fault
returns-clause-fault g c =
    let file = g.D.Device.seen c.args.device in
    let fault = c.in-Err-open.e in
    subst (λ (n : ℕ). IsSuch n file fault) c.number.ensures.same
    (subst (λ (now : List ℕ). IsSuch c.number.result now fault) c.look.ensures.seen
    c.in-Err-open.ensures.fault)

pub returns-in-Ok-open-clause-stored : goal.returns-in-Ok-open-clause-stored
returns-in-Ok-open-clause-stored g c =
    let opened = c.in-Ok-open.ensures.journal in
    let kept : Stored g.row.D.Denot = record { alloc = c.args.alloc; tree = c.in-Ok.it.found.tree; journal = c.in-Ok-open.journal } in
    let is = stores g.D.Device.seen g.D.Device.may_leave c.args.servers c.number.result (g.D.Device.seen c.args.device)
    (g.D.Device.seen c.look.new.device) kept
    c.number.ensures.same c.look.ensures.seen c.in-Ok.ensures.keeps.batches c.in-Ok.ensures.keeps.stands c.in-Ok.ensures.keeps.text
    c.in-Ok.ensures.whole opened.0 opened.1 opened.2 opened.3 in
    (opened.0, is.0, is.1)

pub returns-in-Ok-open-clause-good : goal.returns-in-Ok-open-clause-good
returns-in-Ok-open-clause-good g c =
    let opened = c.in-Ok-open.ensures.journal in
    let kept : Stored g.row.D.Denot = record { alloc = c.args.alloc; tree = c.in-Ok.it.found.tree; journal = c.in-Ok-open.journal } in
    let is = stores g.D.Device.seen g.D.Device.may_leave c.args.servers c.number.result (g.D.Device.seen c.args.device)
    (g.D.Device.seen c.look.new.device) kept
    c.number.ensures.same c.look.ensures.seen c.in-Ok.ensures.keeps.batches c.in-Ok.ensures.keeps.stands c.in-Ok.ensures.keeps.text
    c.in-Ok.ensures.whole opened.0 opened.1 opened.2 opened.3 in
    (c.args.servers, opened.0, is.1)
