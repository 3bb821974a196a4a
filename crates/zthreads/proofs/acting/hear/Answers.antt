use Rattle.std.proofs.Common.{◌≡◌, [], List, Option, Some, None, sym, ap, ◌∙◌, subst}
use Rattle.std.specs.Prelude.{Result, Err}
use Rattle.zserver.specs.Server.{TreeMessage}
use Rattle.zactor.specs.declared.act_fault.ActFault.{ActFault}
use Rattle.zactor.specs.declared.done.Done.{Done}
use Rattle.zactor.specs.declared.handed.Handed.{Handed}
use Rattle.zactor.specs.declared.handed.Handed.TheVariants.{Message}
use Rattle.zactor.specs.declared.input.Input.TheVariants.{Hear}
use Rattle.zthreads.specs.Endpoints.{Stands, pending, TreePost, TreeStanding, TreeTaken}
use Rattle.zactor.specs.Acting.{handed_by, message_handed}
use Rattle.zthreads.proofs.acting.hear.Goals as goal

pub returns-in-Ok-clause-stands : goal.returns-in-Ok-clause-stands
returns-in-Ok-clause-stands c h =
    subst (λ (x : TreeTaken). Stands c.act.new.endpoint c.act.new.actor x (pending c.act.new.endpoint)) (sym c.requires.front) (c.in-Ok.ensures.goes None h)

pub returns-in-Some-clause-stands : goal.returns-in-Some-clause-stands
returns-in-Some-clause-stands c h =
    let s = c.args.actor.now in
    let t : TreeTaken = Some (c.args.from, (c.args.stamp, c.args.message)) in
    let b = c.act.new.endpoint in
    let new = c.act.new.actor in
    let fault = c.in-Err-Memory in
    let undone = fault.ensures.undone in
    let place : c.act.new.handed ≡ Message c.args.message = c.act.ensures.handed
    ∙ ap (λ (r : Result Done ActFault). handed_by (Hear c.args.from c.args.message) r c.args.handed.now)
    (fault.is ∙ ap (λ (f : ActFault). Err f) fault.field-0-is) in
    let back : Some c.in-Some.message ≡ Some c.args.message =
    sym c.in-Some.is ∙ c.take_message.ensures.message ∙ ap (λ (h : Handed). message_handed h) place in
    let same : c.in-Some.message ≡ c.args.message = cc back in
    let front : c.replace.new.dest ≡ t = c.replace.ensures.after ∙ c.handed_back.ensures ∙ ap
    (λ (m : TreeMessage). Some (c.args.from, (c.args.stamp, m))) same in
    let stayed = subst (λ (x : TreeStanding). Stands b x t []) (sym undone.kept) (undone.keeps s t [] h) in
    let kept = subst (λ (x : TreeTaken). Stands b new x []) (sym front) stayed in
    subst (λ (w : List TreePost). Stands b new c.replace.new.dest w) (sym undone.none) kept
