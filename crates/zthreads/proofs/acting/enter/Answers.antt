use Rattle.std.proofs.Common.{◌≡◌, ◌++◌, List, sym, ◌∙◌, subst, ap, option_to_list}
use Rattle.zprotocol.specs.declared.traces.trace.Act.{Act}
use Rattle.zprotocol.specs.world.History.{History}
use Rattle.zactor.specs.Acting.{effect_of, put_by, reported_by}
use Rattle.zthreads.specs.Endpoints.{IsEvent, Stands, pending, TreePost}
use Rattle.zthreads.specs.Hosting.{act_noted, after_of, note_of, reported_noted, took_of}
use Rattle.zthreads.proofs.Entered.{is_entered}
use Rattle.zthreads.proofs.Pending.{pending_none}
use Rattle.zthreads.proofs.ActorRows.{acted_there, event, posts_left, seen_as_noted, stands_by}
use Rattle.zthreads.proofs.acting.enter.Goals as goal

pub returns-in-Ok-act-clause-goes : goal.returns-in-Ok-act-clause-goes
returns-in-Ok-act-clause-goes c t h kept =
    let d = c.args.endpoint.now in
    let s = c.args.actor.now in
    let new = c.act.new.self in
    let input = c.args.input in
    let done = c.in-Ok-act.done in
    let b = c.enter.new.self in
    let rest = c.enter.ensures.rest in
    let acts = c.in-Ok-act.ensures.acted d.me c.requires.fits in
    let posts = (effect_of d.me s input done).posts in
    let act = act_noted (note_of d.me input) done in
    let seen = reported_by d.me input done in
    let entered = c.entry-did.result in
    let same_act : entered.0 ≡ act = c.entry-did.ensures.act ∙ ap (λ n. act_noted n done) c.in-Ok.ensures in
    let same_seen : option_to_list entered.1 ≡ seen =
    ap (λ o. option_to_list o) (c.entry-did.ensures.reported ∙ ap (λ n. reported_noted d.me n done) c.in-Ok.ensures)
    ∙ seen_as_noted d.me s input done c.requires.fits acts.comes acts.reported in
    let pend : pending b ≡ put_by done posts = pending_none b (rest.0 ∙ c.requires.settled.0) ∙ ap (λ o. o.posts) rest.1 ∙ acts.puts ∙ ap
    (λ l. l ++ put_by done posts) c.requires.settled.1 in
    let stands = stands_by d b entered.0 c.args.next
    (option_to_list entered.1) c.enter.ensures.stands c.enter.ensures.beside input c.args.stamp s new posts
    (λ below. subst (λ (a : Act). IsEvent d.me d.stamp s (took_of input c.args.stamp) a c.args.next new posts (option_to_list entered.1))
    (sym same_act)
    (subst (λ (l : History). IsEvent d.me d.stamp s (took_of input c.args.stamp) act c.args.next new posts l) (sym same_seen)
    (event d.me d.stamp s new input c.args.endpoint.now.out c.act.new.out done c.requires.fits acts c.args.stamp c.args.next (c.requires.next below)))) t
    h in
    subst (λ (w : List TreePost). Stands b new (after_of input t) w) (posts_left b done posts pend acts.owed) stands kept

pub returns-in-Ok-act-clause-acted : goal.returns-in-Ok-act-clause-acted
returns-in-Ok-act-clause-acted c =
    let d = c.args.endpoint.now in
    let s = c.args.actor.now in
    let done = c.in-Ok-act.done in
    let b = c.enter.new.self in
    let rest = c.enter.ensures.rest in
    let acts = c.in-Ok-act.ensures.acted d.me c.requires.fits in
    let posts = (effect_of d.me s c.args.input done).posts in
    acted_there d.me s c.act.new.self c.args.input d.out c.act.new.out done b acts
    (pending_none b (rest.0 ∙ c.requires.settled.0) ∙ ap (λ o. o.posts) rest.1 ∙ acts.puts ∙ ap (λ l. l ++ put_by done posts) c.requires.settled.1)

pub returns-in-Ok-act-clause-entered : goal.returns-in-Ok-act-clause-entered
returns-in-Ok-act-clause-entered c whole =
    let d = c.args.endpoint.now in
    let s = c.args.actor.now in
    let input = c.args.input in
    let done = c.in-Ok-act.done in
    let acts = c.in-Ok-act.ensures.acted d.me c.requires.fits in
    let act = act_noted (note_of d.me input) done in
    let seen = reported_by d.me input done in
    let entered = c.entry-did.result in
    let same_act : entered.0 ≡ act = c.entry-did.ensures.act ∙ ap (λ n. act_noted n done) c.in-Ok.ensures in
    let same_seen : option_to_list entered.1 ≡ seen =
    ap (λ o. option_to_list o) (c.entry-did.ensures.reported ∙ ap (λ n. reported_noted d.me n done) c.in-Ok.ensures)
    ∙ seen_as_noted d.me s input done c.requires.fits acts.comes acts.reported in
    let e = c.enter.ensures.entered whole in
    is_entered d c.enter.new.self c.args.next entered.0 act (option_to_list entered.1) seen
    (record { whole = e.whole; trace = e.trace; seen = e.seen; stamp = e.stamp; early = e.early }) same_act same_seen

pub returns-in-Ok-act-clause-whole : goal.returns-in-Ok-act-clause-whole
returns-in-Ok-act-clause-whole c room few early = c.enter.ensures.whole room few early

pub returns-in-Ok-act-clause-unlost : goal.returns-in-Ok-act-clause-unlost
returns-in-Ok-act-clause-unlost c early = c.enter.ensures.kept early
