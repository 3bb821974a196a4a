-- The result of each part of a multi, and of a multiRead. The source is `MultiResponse` and
-- `ErrorResponse` of zookeeper.jute, and ZooKeeper's `OpResult`. If a part is refused, none is
-- done, and each has an error: code 0 before the refused one, its own, and RuntimeInconsistency
-- after it.
use Rattle.std.specs.Prelude.{ℕ, ◌-◌, List, [], ◌∷◌, ◌++◌, length, replicate, map, nat_lt, option_and_then, slice_get, Some, unwrap_or, if◌then◌else◌}
use Rattle.zpath.specs.Grammar.{text_of}
use Rattle.ztree.specs.Tree.{Name}
use Rattle.zcalls.specs.declared.call.Create.{Create}
use Rattle.zcalls.specs.declared.call.Part.{Part}
use Rattle.zcalls.specs.declared.call.Part.TheVariants as part
use Rattle.zcalls.specs.declared.refusal.Refusal.{Refusal}
use Rattle.zcalls.specs.declared.reply.PartReply.{PartReply}
use Rattle.zcalls.specs.declared.reply.PartReply.TheVariants as part_reply
use Rattle.zcalls.specs.declared.reply.Reply.{Reply}
use Rattle.zcalls.specs.declared.reply.Reply.TheVariants as reply
use Rattle.zjute.specs.declared.limits.TheConstants.{MAX_FRAME}
use Rattle.zjute.specs.declared.code.Code.{Code}
use Rattle.zjute.specs.declared.code.Code.TheVariants as code
use Rattle.zjute.specs.declared.part.PartRequest.{PartRequest as AskedPart}
use Rattle.zjute.specs.declared.part.PartRequest.TheVariants as asked
use Rattle.zjute.specs.declared.reply.PartResult.{PartResult}
use Rattle.zjute.specs.declared.reply.PartResult.TheVariants as result_of
use Rattle.zjute.specs.declared.reply.Body.TheVariants as body
use Rattle.zrequests.specs.Codes.{code_of}
use Rattle.zrequests.specs.Requests.{refused_in}
use Rattle.zrequests.specs.Terms.{Terms}
use Rattle.zresponses.specs.declared.clock.Clock.{Clock}
use Rattle.zresponses.specs.declared.clock.Now.{Now}
use Rattle.zresponses.specs.declared.answer.Answer.{Answer}
use Rattle.zresponses.specs.Stats.{stat_reported, made_stat}
use Rattle.zresponses.specs.Answers.{done, answer_of}

-- the results of a multi of `count` parts, of which one was refused; parts are counted from 1
abbrev pub refused_results : ℕ → ℕ → Code → List PartResult
refused_results count number why =
    replicate (number - 1) (result_of.Error code.Ok)
    ++ result_of.Error why ∷ replicate (count - number) (result_of.Error code.RuntimeInconsistency)

-- the code of the part that the tree refused: that with which it is refused at once by these terms,
-- if it is, and else the tree's
abbrev pub part_code : Terms → List AskedPart → ℕ → Refusal → Code
part_code terms asked number refusal =
    unwrap_or (option_and_then (refused_in terms) (slice_get asked (number - 1))) (code_of refusal)

-- a node that a part created; with its stat, if the part asked for it, has a TTL, or creates a
-- container
abbrev pub made_result : Clock → Now → AskedPart → Create → List ℕ → PartResult
made_result clock now (asked.Create2 create) made path = result_of.Create2 path (stat_reported clock (made_stat now made))
made_result clock now (asked.CreateTtl timed) made path = result_of.Create2 path (stat_reported clock (made_stat now made))
made_result clock now (asked.CreateContainer create) made path = result_of.Create2 path (stat_reported clock (made_stat now made))
made_result clock now other made path = result_of.Create path

-- the result of a part that was done, from the request's part, the call's part and its reply
abbrev pub part_result : Clock → Now → AskedPart → Part → PartReply → PartResult
part_result clock now asked (part.Create create) (part_reply.Created path) = made_result clock now asked create (text_of path)
part_result clock now asked part (part_reply.Created path) = result_of.Create (text_of path)
part_result clock now asked part part_reply.Deleted = result_of.Delete
part_result clock now asked part (part_reply.Set stat) = result_of.SetData (stat_reported clock stat)
part_result clock now asked part part_reply.Checked = result_of.Check

-- the results of the parts, in order
abbrev pub part_results : Clock → Now → List AskedPart → List Part → List PartReply → List PartResult
part_results clock now (asked ∷ more) (part ∷ parts) (reply ∷ replies) =
    part_result clock now asked part reply ∷ part_results clock now more parts replies
part_results clock now more parts replies = []

-- the answer to a multi, from the request's parts, the call's parts and the reply
abbrev pub multi_answer : Clock → Now → List AskedPart → List Part → Reply → Answer
multi_answer clock now asked parts (reply.Multi replies) = done (body.Results (part_results clock now asked parts replies))
multi_answer clock now asked parts (reply.MultiRefused number refusal) =
    done (body.Results (refused_results (length asked) number (part_code clock.terms asked number refusal)))
multi_answer clock now asked parts reported = answer_of clock reported

-- names as a result; more than a frame can hold give an error
abbrev pub names_result : List Name → PartResult
names_result names = if nat_lt MAX_FRAME (length names) then result_of.Error code.MarshallingError else result_of.GetChildren names

-- the result of a part of a multiRead, from its reply
abbrev pub look_result : Clock → Reply → PartResult
look_result clock (reply.Data bytes stat) = result_of.GetData (Some bytes) (stat_reported clock stat)
look_result clock (reply.Children names) = names_result names
look_result clock (reply.Refused refusal) = result_of.Error (code_of refusal)
look_result clock reported = result_of.Error code.SystemError

-- the answer to a multiRead
abbrev pub looks_answer : Clock → List Reply → Answer
looks_answer clock replies = done (body.Results (map (look_result clock) replies))
