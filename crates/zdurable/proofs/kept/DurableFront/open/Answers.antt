use Rattle.std.proofs.Common.{◌≡◌, ◌∙◌, true, refl, ap}
use Rattle.zjournal.specs.Journal.{device_of}
use Rattle.zjournal.proofs.Moments.{weaker}
use Rattle.zstore.specs.Restored.{with_limits}
use Rattle.ztree_service.specs.Local.{LocalTreeView}
use Rattle.zfront.specs.Inputs.{ServerView}
use Rattle.zdurable.specs.Restored.{restored}
use Rattle.zdurable.specs.declared.kept.DurableFront.{DurableFront}
use Rattle.zdurable.proofs.Opening.{not_the_disk, opening_leaves, opens, read_then, reading_leaves, such_limits, such_opening, such_within}
use Rattle.zdurable.proofs.kept.DurableFront.open.Goals as goal

pub returns-in-Ok-open_within-clause-serving : goal.returns-in-Ok-open_within-clause-serving
returns-in-Ok-open_within-clause-serving g c =
    let opened = c.in-Ok-open_within.ensures.journal in
    let kept : DurableFront g.row.D.Denot = record {
      alloc = c.args.alloc;
      front = c.in-Ok-restored.front;
      journal = c.in-Ok-open_within.journal;
      measured = c.measure_if-measured.result;
      is_open = true;
    } in
    let keeps = c.in-Ok.ensures.keeps in
    let limited = c.in-Ok-limited.ensures in
    let front = c.in-Ok-restored.ensures
    ∙ ap (λ (it : LocalTreeView). restored c.args.watches c.args.secret c.args.terms c.args.now_ms it.tree) limited.tree in
    let is = opens g.D.Device.seen g.D.Device.may_leave c.args.watches c.args.secret c.args.terms c.args.now_ms c.args.servers
    (g.D.Device.seen c.args.device) c.in-Ok.it.found.tree.tree c.args.limits kept keeps.batches keeps.stands keeps.text front opened.1 opened.3
    c.in-Ok-open_within.ensures.open (g.D.Device.seen c.look.new.device) c.look.ensures.seen c.service.result.now.tree
    (c.service.ensures ∙ ap (λ (v : ServerView). v.front.tree) front) c.in-Ok-limited.it.1 limited.says opened.0 opened.2 opened.4
    c.measure_if-measured.ensures in
    (is.0, is.1)

pub returns-in-Ok-open_within-clause-sound : goal.returns-in-Ok-open_within-clause-sound
returns-in-Ok-open_within-clause-sound g c is_open =
    let opened = c.in-Ok-open_within.ensures.journal in
    let kept : DurableFront g.row.D.Denot = record {
      alloc = c.args.alloc;
      front = c.in-Ok-restored.front;
      journal = c.in-Ok-open_within.journal;
      measured = c.measure_if-measured.result;
      is_open = true;
    } in
    let keeps = c.in-Ok.ensures.keeps in
    let limited = c.in-Ok-limited.ensures in
    let front = c.in-Ok-restored.ensures
    ∙ ap (λ (it : LocalTreeView). restored c.args.watches c.args.secret c.args.terms c.args.now_ms it.tree) limited.tree in
    let is = opens g.D.Device.seen g.D.Device.may_leave c.args.watches c.args.secret c.args.terms c.args.now_ms c.args.servers
    (g.D.Device.seen c.args.device) c.in-Ok.it.found.tree.tree c.args.limits kept keeps.batches keeps.stands keeps.text front opened.1 opened.3
    c.in-Ok-open_within.ensures.open (g.D.Device.seen c.look.new.device) c.look.ensures.seen c.service.result.now.tree
    (c.service.ensures ∙ ap (λ (v : ServerView). v.front.tree) front) c.in-Ok-limited.it.1 limited.says opened.0 opened.2 opened.4
    c.measure_if-measured.ensures in
    (c.args.servers, is.0.next, with_limits is.0.found c.args.limits, is.0.serving)

pub returns-in-Ok-open_within-clause-any_moment : goal.returns-in-Ok-open_within-clause-any_moment
returns-in-Ok-open_within-clause-any_moment g c batches found stands text =
    let limited = c.in-Ok-limited.ensures in
    let front = c.in-Ok-restored.ensures
    ∙ ap (λ (it : LocalTreeView). restored c.args.watches c.args.secret c.args.terms c.args.now_ms it.tree) limited.tree in
    opening_leaves g.D.Device.moment g.D.Device.left_since c.args.device c.look.new.device (device_of c.in-Ok-open_within.journal)
    (g.D.Device.seen c.args.device) c.look.ensures.any_moment c.args.servers c.in-Ok.it.found.tree.tree found c.args.limits c.in-Ok.ensures.keeps
    c.service.result.now.tree (c.service.ensures ∙ ap (λ (v : ServerView). v.front.tree) front) c.in-Ok-limited.it.1 limited.says
    (g.D.Device.seen c.look.new.device) c.look.ensures.seen batches stands text (c.in-Ok-open_within.ensures.any_moment batches)

pub returns-in-Err-open_within-clause-any_moment_err : goal.returns-in-Err-open_within-clause-any_moment_err
returns-in-Err-open_within-clause-any_moment_err g c batches found stands text =
    let limited = c.in-Ok-limited.ensures in
    let front = c.in-Ok-restored.ensures
    ∙ ap (λ (it : LocalTreeView). restored c.args.watches c.args.secret c.args.terms c.args.now_ms it.tree) limited.tree in
    opening_leaves g.D.Device.moment g.D.Device.left_since c.args.device c.look.new.device c.in-Err-open_within.device
    (g.D.Device.seen c.args.device) c.look.ensures.any_moment c.args.servers c.in-Ok.it.found.tree.tree found c.args.limits c.in-Ok.ensures.keeps
    c.service.result.now.tree (c.service.ensures ∙ ap (λ (v : ServerView). v.front.tree) front) c.in-Ok-limited.it.1 limited.says
    (g.D.Device.seen c.look.new.device) c.look.ensures.seen batches stands text (c.in-Err-open_within.ensures.any_moment_err batches)

pub returns-in-Err-clause-any_moment_err : goal.returns-in-Err-clause-any_moment_err
returns-in-Err-clause-any_moment_err g c batches found stands text =
    reading_leaves g.D.Device.moment g.D.Device.left_since c.args.device c.look.new.device c.look.new.device (g.D.Device.seen c.args.device)
    c.look.ensures.any_moment c.args.servers found c.args.limits batches stands

pub returns-in-Err-limited-clause-any_moment_err : goal.returns-in-Err-limited-clause-any_moment_err
returns-in-Err-limited-clause-any_moment_err g c batches found stands text =
    reading_leaves g.D.Device.moment g.D.Device.left_since c.args.device c.look.new.device c.look.new.device (g.D.Device.seen c.args.device)
    c.look.ensures.any_moment c.args.servers found c.args.limits batches stands

pub returns-in-Err-restored-clause-any_moment_err : goal.returns-in-Err-restored-clause-any_moment_err
returns-in-Err-restored-clause-any_moment_err g c batches found stands text =
    reading_leaves g.D.Device.moment g.D.Device.left_since c.args.device c.look.new.device c.look.new.device (g.D.Device.seen c.args.device)
    c.look.ensures.any_moment c.args.servers found c.args.limits batches stands

pub returns-in-Err-open_within-clause-untouched : goal.returns-in-Err-open_within-clause-untouched
returns-in-Err-open_within-clause-untouched g c of_content =
    let left = c.in-Err-open_within.ensures.untouched of_content in (
      left.0 ∙ c.look.ensures.seen,
      read_then g.D.Device.moment g.D.Device.left_since c.args.device c.look.new.device c.in-Err-open_within.device
          (g.D.Device.seen c.args.device) c.look.ensures.any_moment
          (λ file. file ≡ g.D.Device.seen c.args.device) refl
          (weaker g.D.Device.moment g.D.Device.left_since c.look.new.device c.in-Err-open_within.device (λ file. file
          ≡ g.D.Device.seen c.look.new.device)
          (λ file. file ≡ g.D.Device.seen c.args.device) left.1 (λ file is. is ∙ c.look.ensures.seen)),
    )

pub returns-in-Err-open_within-clause-fault : goal.returns-in-Err-open_within-clause-fault
returns-in-Err-open_within-clause-fault g c =
    such_opening c.args.limits c.args.servers (g.D.Device.seen c.look.new.device) (g.D.Device.seen c.args.device) c.in-Ok.it.found.tree.tree
    c.look.ensures.seen c.in-Ok.ensures.keeps c.in-Ok-limited.it.1 c.in-Ok-limited.ensures.says c.in-Err-open_within.fault
    c.in-Err-open_within.ensures.fault

pub returns-in-Err-clause-fault : goal.returns-in-Err-clause-fault
returns-in-Err-clause-fault g c =
    such_within c.args.limits c.args.servers (g.D.Device.seen c.args.device) c.in-Err.fault c.in-Err.ensures.fault

pub returns-in-Err-limited-clause-fault : goal.returns-in-Err-limited-clause-fault
returns-in-Err-limited-clause-fault g c =
    such_limits c.args.limits c.args.servers (g.D.Device.seen c.args.device) c.in-Ok.it.found.tree.tree c.in-Ok.ensures.keeps
    c.in-Err-limited.fault c.in-Err-limited.ensures.fault

pub returns-in-Err-limited-clause-failed : goal.returns-in-Err-limited-clause-failed
returns-in-Err-limited-clause-failed g c is =
    absurd (not_the_disk c.args.limits c.in-Ok.it.found.tree.tree c.in-Err-limited.fault c.in-Err-limited.ensures.fault is)
