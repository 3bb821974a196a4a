use Rattle.std.proofs.Common.{[], refl, sym}
use Rattle.std.proofs.lemmas.List.{append-nil}
use Rattle.znode.proofs.node_lemmas.Results.{on_ok}
use Rattle.znode.proofs.node.Node.take.Goals as goal

pub returns-in-Entry-clause-taken : goal.returns-in-Entry-clause-taken
returns-in-Entry-clause-taken c =
    rw c.in-Entry.is (on_ok c.play.result _ _ (λ plays. ([], (refl, plays), sym (append-nil c.args.out.now.items))) c.play.ensures.taken)

pub returns-in-CaughtUp-clause-taken : goal.returns-in-CaughtUp-clause-taken
returns-in-CaughtUp-clause-taken c =
    rw (c.in-CaughtUp.is, ← c.self.view_is) ([], (refl, refl), sym (append-nil c.args.out.now.items))

pub returns-in-Link-clause-taken : goal.returns-in-Link-clause-taken
returns-in-Link-clause-taken c =
    rw c.in-Link.is (on_ok c.receive.result _ _ (λ receives. ([], (refl, receives), sym (append-nil c.args.out.now.items))) c.receive.ensures.taken)

pub returns-in-Lost-clause-taken : goal.returns-in-Lost-clause-taken
returns-in-Lost-clause-taken c =
    rw c.in-Lost.is (on_ok c.lose.result _ _ (λ loses. ([], (refl, loses), sym (append-nil c.args.out.now.items))) c.lose.ensures.taken)

pub returns-in-Ended-clause-taken : goal.returns-in-Ended-clause-taken
returns-in-Ended-clause-taken c =
    rw (c.in-Ended.is, ← c.self-in-Ended.view_is) (
      [],
      (refl, record { none = c.forget.ensures.none; others = c.forget.ensures.others; rest = refl }),
      sym (append-nil c.args.out.now.items),
    )
