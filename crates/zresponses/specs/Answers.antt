-- The answer for one reply of the service: a code, and the body after the header. The source is
-- zookeeper.jute (`ReplyHeader`, and the responses), and ZooKeeper's `KeeperException.Code`.
use Rattle.std.specs.Prelude.{ℤ, ◌∷◌, [], List, length, nat_lt, codes, Some, if◌then◌else◌}
use Rattle.zpath.specs.Grammar.{text_of}
use Rattle.ztree.specs.Tree.{Name}
use Rattle.ztree.specs.declared.node.Stat.{Stat}
use Rattle.zcalls.specs.declared.call.Create.{Create}
use Rattle.zcalls.specs.declared.reply.Reply.{Reply}
use Rattle.zcalls.specs.declared.reply.Reply.TheVariants as reply
use Rattle.zjute.specs.declared.limits.TheConstants.{MAX_FRAME}
use Rattle.zjute.specs.declared.acl.Acl.{Acl}
use Rattle.zjute.specs.declared.code.Code.{Code}
use Rattle.zjute.specs.declared.code.Code.TheVariants as code
use Rattle.zjute.specs.declared.reply.Body.{Body}
use Rattle.zjute.specs.declared.reply.Body.TheVariants as body
use Rattle.zrequests.specs.declared.limits.TheConstants.{ALL_PERMISSIONS}
use Rattle.zrequests.specs.Codes.{code_of}
use Rattle.zresponses.specs.declared.clock.Clock.{Clock}
use Rattle.zresponses.specs.declared.clock.Now.{Now}
use Rattle.zresponses.specs.declared.answer.Answer.{Answer}
use Rattle.zresponses.specs.Stats.{stat_reported, made_stat}

-- the request was done
abbrev pub done : Body → Answer
done reported = record { code = code.Ok; body = reported }

-- it wasn't done, for this reason
abbrev pub failed : Code → Answer
failed why = record { code = why; body = body.Nothing }

-- names; more than a frame can hold give an error
abbrev pub names_answer : List Name → Answer
names_answer names = if nat_lt MAX_FRAME (length names) then failed code.MarshallingError else done (body.Names names)

-- the answer to a request of one call, from the reply to it
abbrev pub answer_of : Clock → Reply → Answer
answer_of clock (reply.Created path) = done (body.Path (text_of path))
answer_of clock reply.Deleted = done body.Nothing
answer_of clock (reply.Set stat) = done (body.Stat (stat_reported clock stat))
answer_of clock (reply.Exists stat) = done (body.Stat (stat_reported clock stat))
answer_of clock (reply.Data bytes stat) = done (body.DataStat (Some bytes) (stat_reported clock stat))
answer_of clock (reply.Children names) = names_answer names
answer_of clock (reply.Refused refusal) = failed (code_of refusal)
answer_of clock (reply.MultiRefused number refusal) = failed (code_of refusal)
answer_of clock (reply.Multi replies) = done body.Nothing
answer_of clock (reply.Opened session ticks) = done body.Nothing
answer_of clock reply.Pinged = done body.Nothing
answer_of clock reply.Closed = done body.Nothing
answer_of clock (reply.Ticked time ended removed) = done body.Nothing

-- the answer to a create that asks for the new node's stat too
abbrev pub made_answer : Clock → Now → Create → Reply → Answer
made_answer clock now create (reply.Created path) = done (body.PathStat (text_of path) (stat_reported clock (made_stat now create)))
made_answer clock now create reported = answer_of clock reported

-- an ACL of anyone with these permissions
abbrev pub acls_for_all : ℤ → List Acl
acls_for_all perms = record { perms = perms; scheme = Some (codes "world"); id = Some (codes "anyone") } ∷ []

-- the ACL of every node of the tree: the open one (`ZooDefs.Ids.OPEN_ACL_UNSAFE`)
abbrev pub open_acls : List Acl
open_acls = acls_for_all ALL_PERMISSIONS

-- the answer to a request for a node's ACL, from its stat
abbrev pub acl_answer : Clock → Reply → Answer
acl_answer clock (reply.Exists stat) = done (body.AclsStat open_acls (stat_reported clock stat))
acl_answer clock reported = answer_of clock reported

-- names and a stat
abbrev pub names_stat_answer : Clock → List Name → Stat → Answer
names_stat_answer clock names stat =
    if nat_lt MAX_FRAME (length names)
    then failed code.MarshallingError
    else done (body.NamesStat names (stat_reported clock stat))

-- the answer to a request for the names of a node's children and its stat
abbrev pub children_answer : Clock → Reply → Reply → Answer
children_answer clock (reply.Children names) (reply.Exists stat) = names_stat_answer clock names stat
children_answer clock first second = answer_of clock first
