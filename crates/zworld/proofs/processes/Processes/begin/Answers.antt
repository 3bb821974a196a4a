use Rattle.std.proofs.Common.{◌∷◌, ◌++◌, [], sym, ap, ◌∙◌, append-nil}
use Rattle.zcalls.specs.declared.call.Call.{Call}
use Rattle.zprotocol.specs.declared.world.history.CallEvent.TheVariants as call_event
use Rattle.zworld.proofs.Given.{begun, only_begun}
use Rattle.zworld.proofs.processes.Processes.begin.Goals as goal

-- a call that can't begin
pub returns-in-Some-clause-stepped : goal.returns-in-Some-clause-stepped
returns-in-Some-clause-stepped c = ([], sym (append-nil c.args.seen.now.items), c.in-Some.ensures.cannot c.args.call)

pub returns-in_default-reserve-clause-needed : goal.returns-in_default-reserve-clause-needed
returns-in_default-reserve-clause-needed c = c.in_default.ensures.can c.args.call

pub returns-in_default-copied-clause-needed : goal.returns-in_default-copied-clause-needed
returns-in_default-copied-clause-needed c = c.in_default.ensures.can c.args.call

pub returns-in-Err-clause-needed : goal.returns-in-Err-clause-needed
returns-in-Err-clause-needed c = c.in_default.ensures.can c.args.call

-- one that can begins, and nothing else becomes of it
pub returns-clause-stepped : goal.returns-clause-stepped
returns-clause-stepped c =
    let number = c.in-Some-begun_number.number in let seen = c.args.seen.now.items in (
      call_event.Begin c.args.client number c.args.call ∷ [],
      c.push_reserved.ensures.items
          ∙ ap (λ xs. xs ++ call_event.Begin c.args.client number c.in-Ok-copied.reported ∷ []) c.reserve.ensures.items
          ∙ ap (λ (reported : Call). seen ++ call_event.Begin c.args.client number reported ∷ []) c.in-Ok-copied.ensures,
      begun c.args.self.now c.give-done.new.self c.args.client c.args.call c.in-Ok-done.done number
          (sym c.in-Some-begun_number.is ∙ c.begun_number.ensures)
          (c.in_default.ensures.can c.args.call) c.in-Ok-done.ensures.given,
    )

pub unreachable-requires : goal.unreachable-requires
unreachable-requires c =
    only_begun c.args.self.now c.give-done.new.self c.args.client c.args.call c.in-Ok-done.done (sym c.in_default-begun_number.is ∙ c.begun_number.ensures)
    c.in-Ok-done.ensures.given
