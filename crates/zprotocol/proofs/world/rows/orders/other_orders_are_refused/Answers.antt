use Rattle.std.proofs.Common.{inl, refl}
use Rattle.zprotocol.specs.world.support.OrderRows.{last_exists}
use Rattle.zprotocol.proofs.world_lemmas.OrderRows.{left_out, query_unanswered, not_begun, wrong_reply, against_time}
use Rattle.zprotocol.proofs.world.rows.orders.other_orders_are_refused.Goals as goal

pub returns-clause-answered_left_out : goal.returns-clause-answered_left_out
returns-clause-answered_left_out c = left_out

pub returns-clause-call_twice : goal.returns-clause-call_twice
returns-clause-call_twice c = λ legal. legal.once.1.1.0 last_exists (inl refl) (refl, refl)

pub returns-clause-unanswered_query : goal.returns-clause-unanswered_query
returns-clause-unanswered_query c = query_unanswered

pub returns-clause-never_begun : goal.returns-clause-never_begun
returns-clause-never_begun c = not_begun

pub returns-clause-wrong_reply : goal.returns-clause-wrong_reply
returns-clause-wrong_reply c = wrong_reply

pub returns-clause-against_time : goal.returns-clause-against_time
returns-clause-against_time c = against_time
