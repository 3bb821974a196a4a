use Rattle.std.proofs.Common.{◌≡◌, ◌++◌, map, sym, ap, ◌∙◌, append_assoc}
use Rattle.crossbeam_channel.specs.Claims.{view}
use Rattle.zchannels.specs.Rings as ring
use Rattle.zchannels.specs.Rings.{in_ring, waiting}
use Rattle.zchannels.specs.declared.rule.Log.{Log}
use Rattle.zchannels.specs.Console.{heard, ordered, said, taken_of}
use Rattle.zchannels.specs.Outcomes.{order_of}
use Rattle.zchannels.proofs.Orders.{merges}
use Rattle.zchannels.proofs.Turns.{heard_in_turn}
use Rattle.zchannels.proofs.console.Console.reported.Goals as goal

pub absorb-requires-clause-rule : goal.absorb-requires-clause-rule
absorb-requires-clause-rule c =
    let s = c.args.self in
    let d = c.args.inbox in
    merges s.pass.id (view s.pass) d.pass.id (view d.pass) s.puts d.takes

pub returns-clause-outcomes : goal.returns-clause-outcomes
returns-clause-outcomes c is =
    let inside = in_ring c.reported.new.rx in
    let rest = waiting c.reported.new.tx in (
      inside ++ rest,
      sym c.reported.ensures.same.0 ∙ c.in-Some.ensures.law ∙ append_assoc (ring.taken_of c.reported.new.rx) inside rest ∙ ap (λ l. l ++ (inside ++ rest)) c.reported.ensures.same.1,
    )

pub returns-clause-in_turn : goal.returns-clause-in_turn
returns-clause-in_turn c is unsaid in_turn =
    let was = c.learn_as.ensures.rule in
    let both = c.absorb.ensures.rule in
    let orders : ordered c.args.self ≡ taken_of c.args.inbox ++ was.0 =
    sym (ap (λ (v : Log). v.put) both) ∙ was.1 ∙ ap (λ (v : Log). v.taken ++ was.0) both in
    let outcomes = returns-clause-outcomes c is in (
      map order_of outcomes.0 ++ (unsaid ++ was.0),
      heard_in_turn (said c.args.inbox) (heard c.args.self) outcomes.0 (ordered c.args.self) (taken_of c.args.inbox) unsaid was.0 outcomes.1 in_turn orders,
    )
