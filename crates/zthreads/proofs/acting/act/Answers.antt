use Rattle.std.proofs.Common.{◌≡◌, [], List, true, false, sym, ◌∙◌, subst}
use Rattle.zactor.specs.Acting.{effect_of, is_end}
use Rattle.zthreads.specs.Endpoints.{Stands, pending, process_of, TreePost}
use Rattle.zthreads.specs.Hosting.{after_of}
use Rattle.zthreads.proofs.Hosted.{end_puts, unsent_as}
use Rattle.zthreads.proofs.Pending.{pending_same}
use Rattle.zthreads.proofs.acting.act.Goals as goal

pub returns-then-not-is_end-clause-goes : goal.returns-then-not-is_end-clause-goes
returns-then-not-is_end-clause-goes c t h =
    let b = c.enter.new.endpoint in
    subst (λ (w : List TreePost). Stands b c.enter.new.actor (after_of c.args.input t) w)
    (unsent_as b c.in-Ok.done false (sym c.is_end.ensures ∙ c.if-not-is_end.true)) (c.in-Ok.ensures.goes t h)

pub returns-else-not-is_end-clause-goes : goal.returns-else-not-is_end-clause-goes
returns-else-not-is_end-clause-goes c t h =
    let s = c.enter.new.actor in
    let done = c.in-Ok.done in
    let z = c.enter.new.endpoint in
    let b = c.put_gone.new.self in
    let u = after_of c.args.input t in
    let end : is_end done ≡ true = sym c.is_end.ensures ∙ c.if-not-is_end.false in
    let rest = c.put_gone.ensures.rest in
    let posts = (effect_of (process_of c.args.endpoint.now) c.args.actor.now c.args.input done).posts in
    let none : pending b ≡ [] = pending_same z b rest.0 rest.1 ∙ c.in-Ok.ensures.acted.puts ∙ end_puts done posts end in
    let last = subst (λ (w : List TreePost). Stands z s u w) (unsent_as z done true end) (c.in-Ok.ensures.goes t h) in
    subst (λ (w : List TreePost). Stands b s u w) (sym none) (c.put_gone.ensures.stands s u last)
