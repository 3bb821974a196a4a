use Rattle.std.proofs.Common.{◌≡◌, ◌++◌, List, sym, ◌∙◌, subst, ap}
use mathlib.Core.Bool.{true≢false}
use Rattle.zactor.specs.Acting.{effect_of, put_by, reported_by}
use Rattle.zthreads.specs.Endpoints.{Stands, pending, TreePost}
use Rattle.zthreads.specs.Hosting.{act_noted, after_of, note_of}
use Rattle.zthreads.proofs.Pending.{pending_none}
use Rattle.zthreads.proofs.ActorRows.{acted_there, event, posts_left, stands_by}
use Rattle.zthreads.proofs.acting.enter_untraced.Goals as goal

pub returns-in-Ok-clause-goes : goal.returns-in-Ok-clause-goes
returns-in-Ok-clause-goes c t h kept =
    let d = c.args.endpoint.now in
    let s = c.args.actor.now in
    let input = c.args.input in
    let done = c.in-Ok.done in
    let b = c.enter_untraced.new.self in
    let rest = c.enter_untraced.ensures.rest in
    let acts = c.in-Ok.ensures.acted d.me c.requires.fits in
    let posts = (effect_of d.me s input done).posts in
    let act = act_noted (note_of d.me input) done in
    let seen = reported_by d.me input done in
    let pend : pending b ≡ put_by done posts = pending_none b (rest.0 ∙ c.requires.settled.0) ∙ ap (λ o. o.posts) rest.1 ∙ acts.puts ∙ ap
    (λ l. l ++ put_by done posts) c.requires.settled.1 in
    let stands = stands_by d b act c.args.next seen (c.enter_untraced.ensures.stands act seen)
    (c.enter_untraced.ensures.beside act seen) input c.args.stamp s c.act.new.self posts
    (λ below. event d.me d.stamp s c.act.new.self input c.args.endpoint.now.out c.act.new.out done c.requires.fits acts c.args.stamp c.args.next
    (c.requires.next below)) t h in
    subst (λ (w : List TreePost). Stands b c.act.new.self (after_of input t) w) (posts_left b done posts pend acts.owed) stands kept

pub returns-in-Ok-clause-acted : goal.returns-in-Ok-clause-acted
returns-in-Ok-clause-acted c =
    let d = c.args.endpoint.now in
    let s = c.args.actor.now in
    let done = c.in-Ok.done in
    let b = c.enter_untraced.new.self in
    let rest = c.enter_untraced.ensures.rest in
    let acts = c.in-Ok.ensures.acted d.me c.requires.fits in
    let posts = (effect_of d.me s c.args.input done).posts in
    acted_there d.me s c.act.new.self c.args.input d.out c.act.new.out done b acts
    (pending_none b (rest.0 ∙ c.requires.settled.0) ∙ ap (λ o. o.posts) rest.1 ∙ acts.puts ∙ ap (λ l. l ++ put_by done posts) c.requires.settled.1)

pub returns-in-Ok-clause-entered : goal.returns-in-Ok-clause-entered
returns-in-Ok-clause-entered c whole = absurd (true≢false (sym c.enter_untraced.ensures.whole.1 ∙ whole))

pub returns-in-Ok-clause-whole : goal.returns-in-Ok-clause-whole
returns-in-Ok-clause-whole c few early = c.enter_untraced.ensures.whole.1 ∙ sym c.enter_untraced.ensures.whole.0

pub returns-in-Ok-clause-unlost : goal.returns-in-Ok-clause-unlost
returns-in-Ok-clause-unlost c early = c.enter_untraced.ensures.kept early
