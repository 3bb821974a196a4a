use Rattle.std.proofs.Common.{◌≡◌, refl, sym, subst, arith}
use Rattle.ztree.specs.Sessions.{with_renewed_session}
use Rattle.zcalls.specs.Bounds.{IsBounded}
use Rattle.zcalls.proofs.Timed.{touched_bounded}
use Rattle.zops.proofs.session_calls.ping.Goals as goal

pub returns-clause-left : goal.returns-clause-left
returns-clause-left c =
    let kept : c.keep_alive.new.self.tree ≡ with_renewed_session c.args.store.now.tree c.args.session =
    c.if-not-keep_alive.ensures.tree refl in
    record {
      bounded = subst IsBounded (sym kept) (touched_bounded c.args.store.now.tree c.args.session c.requires.bounded);
      given = let same = c.keep_alive.ensures.same.1 in omega (arith, same);
    }

-- a session that is there was granted a timeout that a tree can have
pub keep_alive-requires : goal.keep_alive-requires
keep_alive-requires c = record {
  deadline = λ s e.
      let here = c.requires.bounded.sessions c.args.session s e in
      let most = c.keeps_lawful.ensures.allowed.most_timeout in
      (omega (arith, here.least), omega (arith, here.most, most, c.requires.bounded.time));
}
