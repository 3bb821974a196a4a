-- The answer to a request, from its calls and the replies to them.
use Rattle.std.specs.Prelude.{ℕ, List, [], ◌∷◌, codes, Option}
use Rattle.std.specs.Option.{option_map_or}
use Rattle.zcalls.specs.declared.call.Call.{Call}
use Rattle.zcalls.specs.declared.call.Call.TheVariants as call
use Rattle.zcalls.specs.declared.call.Update.TheVariants as act
use Rattle.zcalls.specs.declared.reply.Reply.{Reply}
use Rattle.zjute.specs.declared.code.Code.TheVariants as code
use Rattle.zjute.specs.declared.reply.Body.TheVariants as body
use Rattle.zjute.specs.declared.part.PartRequest.{PartRequest as AskedPart}
use Rattle.zjute.specs.declared.request.Asked.{Asked}
use Rattle.zjute.specs.declared.request.Asked.TheVariants as asked
use Rattle.zresponses.specs.declared.clock.Clock.{Clock}
use Rattle.zresponses.specs.declared.clock.Now.{Now}
use Rattle.zresponses.specs.declared.answer.Answer.{Answer}
use Rattle.zresponses.specs.Answers.{done, failed, answer_of, made_answer, acl_answer, children_answer}
use Rattle.zresponses.specs.Results.{multi_answer, looks_answer}

-- the answer to a request that was done
abbrev pub was_done : Answer
was_done = done body.Nothing

-- the answer to a request that added a watch: ZooKeeper sends an `ErrorResponse` of 0
abbrev pub was_added : Answer
was_added = done (body.Error code.Ok)

-- the answer where a call has no reply; it isn't sent, since its connection is closed
abbrev pub was_lost : Answer
was_lost = failed code.SystemError

-- from the first reply
abbrev pub by_first : (Reply → Answer) → List Reply → Answer
by_first reported [] = was_lost
by_first reported (reply ∷ replies) = reported reply

-- from the first two replies
abbrev pub by_two : (Reply → Reply → Answer) → List Reply → Answer
by_two reported (first ∷ second ∷ replies) = reported first second
by_two reported replies = was_lost

-- of a create that asks for the stat too
abbrev pub made_by : Clock → Now → List Call → List Reply → Answer
made_by clock now (call.Update (act.Create create) ∷ calls) replies = by_first (made_answer clock now create) replies
made_by clock now calls replies = by_first (answer_of clock) replies

-- of a multi; an empty one has no results
abbrev pub multi_by : Clock → Now → List AskedPart → List Call → List Reply → Answer
multi_by clock now parts (call.Update (act.Multi means) ∷ calls) replies = by_first (multi_answer clock now parts means) replies
multi_by clock now parts calls replies = done (body.Results [])

-- of a sync: the path that it gave
abbrev pub sync_by : Option (List ℕ) → Answer
sync_by path = option_map_or (λ text. done (body.Path text)) path was_done

-- who a client is: no address is known, so it is anyone
abbrev pub is_anyone : Answer
is_anyone = done (body.Client (codes "world") (codes "anyone"))

-- the answer to a token of SASL, which isn't configured: a null token
abbrev pub without_token : Answer
without_token = done body.NoToken

-- the answer to a request, with the zxid and the tick after its calls
abbrev pub answer_in : Clock → Now → Asked → List Call → List Reply → Answer
answer_in clock now (asked.Create2 create) calls replies = made_by clock now calls replies
answer_in clock now (asked.CreateContainer create) calls replies = made_by clock now calls replies
answer_in clock now (asked.CreateTtl timed) calls replies = made_by clock now calls replies
answer_in clock now (asked.Multi parts) calls replies = multi_by clock now parts calls replies
answer_in clock now (asked.MultiRead looks) calls replies = looks_answer clock replies
answer_in clock now (asked.GetChildren2 look) calls replies = by_two (children_answer clock) replies
answer_in clock now (asked.GetAcl path) calls replies = by_first (acl_answer clock) replies
answer_in clock now (asked.Sync path) calls replies = sync_by path
answer_in clock now (asked.SetWatches set) calls replies = was_done
answer_in clock now (asked.SetWatches2 set) calls replies = was_done
answer_in clock now (asked.CheckWatches at) calls replies = was_done
answer_in clock now (asked.RemoveWatches at) calls replies = was_done
answer_in clock now (asked.AddWatch add) calls replies = was_added
answer_in clock now (asked.Auth auth) calls replies = was_done
answer_in clock now (asked.Sasl token) calls replies = without_token
answer_in clock now asked.WhoAmI calls replies = is_anyone
answer_in clock now asked.Ping calls replies = was_done
answer_in clock now other calls replies = by_first (answer_of clock) replies
