-- The messages of the worked examples.
use Rattle.std.specs.Prelude.{ℕ, List, [], ◌∷◌, Some, None}
use Rattle.ztree.specs.declared.node.Stat.{Stat}
use Rattle.zcalls.specs.declared.call.Query.TheVariants.{GetData}
use Rattle.zcalls.specs.declared.call.Update.TheVariants.{Tick}
use Rattle.zcalls.specs.declared.refusal.Refusal.TheVariants.{NoNode}
use Rattle.zcalls.specs.declared.reply.Reply.TheVariants.{Refused}
use Rattle.zprotocol.specs.declared.message.Message.TheVariants as message
use Rattle.zwire.specs.Messages.{Bare}

-- the names of /a
abbrev pub a : List (List ℕ)
a = (97 ∷ []) ∷ []

-- the client's call 7, a tick
abbrev pub submit : Bare
submit = message.Submit 7 Tick

-- the client's call 8, get /a
abbrev pub query : Bare
query = message.Query 8 (GetData a)

abbrev pub answer : Bare
answer = message.Answer 8 (Refused NoNode)

-- entry 5, which is call 7 of client 2, in epoch 1
abbrev pub update : Bare
update = message.Update 1 5 (record { client = 2; number = 7; update = Tick })

abbrev pub ack : Bare
ack = message.Ack 1 5

abbrev pub snapshot : Bare
snapshot = message.Snapshot 1 tt

abbrev pub new_pred : Bare
new_pred = message.NewPred 2 1

abbrev pub have_none : Bare
have_none = message.Have 2 None

abbrev pub have_5 : Bare
have_5 = message.Have 2 (Some 5)

abbrev pub new_succ : Bare
new_succ = message.NewSucc 2 3 (Some 5)

abbrev pub become_head : Bare
become_head = message.BecomeHead 2

abbrev pub become_tail : Bare
become_tail = message.BecomeTail 2

abbrev pub retire : Bare
retire = message.Retire

abbrev pub joined : Bare
joined = message.Joined 2

abbrev pub gone : Bare
gone = message.Gone

-- server 1 is the head, and server 3 the tail
abbrev pub config : Bare
config = message.Config 2 (Some 1) (Some 3)

-- there is no chain
abbrev pub no_chain : Bare
no_chain = message.Config 258 None None

-- the stat with the numbers from 1 to 11
abbrev pub some_stat : Stat
some_stat = record {
  czxid = 1;
  mzxid = 2;
  pzxid = 3;
  ctime = 4;
  mtime = 5;
  version = 6;
  cversion = 7;
  aversion = 8;
  owner = 9;
  length = 10;
  children = 11;
}
