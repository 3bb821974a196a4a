-- What a map between machines makes of views, messages and posts, and what the map must preserve.
-- With the map that replays a log, the table over logs says all that the table over the tree does.
use Rattle.std.specs.Prelude.{◌≡◌, List, map}
use Rattle.std.specs.Option.{option_map}
use Rattle.zcalls.specs.declared.call.Entry.{Entry}
use Rattle.zcalls.specs.declared.call.Query.{Query}
use Rattle.zprotocol.specs.declared.message.Message.TheVariants as message
use Rattle.zprotocol.specs.declared.process.Process.{Process}
use Rattle.zprotocol.specs.server.Machine.{Does, replay, log_of}
use Rattle.zprotocol.specs.server.View.{ServerView, MessageOf, Post}
use Rattle.zprotocol.specs.server.Table.{ServerResult, server_step}

-- the map preserves what machines do: their initial states, and their replies
pub record IsHomomorphism {M N : Type 0} (from : Does M) (to : Does N) (h : M → N) : Type 0 where
  pub start : h from.start ≡ to.start
  pub apply : (m : M) (entry : Entry) → to.apply (h m) entry ≡ (h (from.apply m entry).0, (from.apply m entry).1)
  pub ask : (m : M) (query : Query) → to.ask (h m) query ≡ from.ask m query

-- a message whose machine is mapped: that of a Snapshot
abbrev pub message_with : {M N : Type 0} → (M → N) → MessageOf M → MessageOf N
message_with h (message.Submit number update) = message.Submit number update
message_with h (message.Query number query) = message.Query number query
message_with h (message.Answer number reply) = message.Answer number reply
message_with h (message.Update epoch n entry) = message.Update epoch n entry
message_with h (message.Ack epoch n) = message.Ack epoch n
message_with h (message.Snapshot epoch transfer) = message.Snapshot epoch (record { last = transfer.last; machine = h transfer.machine })
message_with h (message.NewPred epoch pred) = message.NewPred epoch pred
message_with h (message.Have epoch last) = message.Have epoch last
message_with h (message.NewSucc epoch succ last) = message.NewSucc epoch succ last
message_with h (message.BecomeHead epoch) = message.BecomeHead epoch
message_with h (message.BecomeTail epoch) = message.BecomeTail epoch
message_with h message.Retire = message.Retire
message_with h (message.Joined epoch) = message.Joined epoch
message_with h message.Gone = message.Gone
message_with h (message.Config epoch head tail) = message.Config epoch head tail

-- posts whose machines are mapped
abbrev pub posts_with : {M N : Type 0} → (M → N) → List (Post M) → List (Post N)
posts_with h posts = map (λ post. (post.0, message_with h post.1)) posts

-- a view whose machine is mapped
abbrev pub view_with : {M N : Type 0} → (M → N) → ServerView M → ServerView N
view_with h v = record { machine = option_map h v.machine; last = v.last; sent = v.sent; pred = v.pred; succ = v.succ }

-- both
abbrev pub server_result_with : {M N : Type 0} → (M → N) → ServerResult M → ServerResult N
server_result_with h taken = (view_with h taken.0, posts_with h taken.1)

-- a log answers as the machine after it
abbrev pub LogStandsForMachine : {M : Type 0} → Does M → Type 0
LogStandsForMachine does = IsHomomorphism (log_of does) does (replay does)

-- what a server does with a machine is what it does with a log that leads to the machine
abbrev pub TableKeepsLogs : {M : Type 0} → Does M → Type 0
TableKeepsLogs does =
    (v : ServerView (List Entry)) (from : Process) (m : MessageOf (List Entry))
    → server_step does (view_with (replay does) v) from (message_with (replay does) m) ≡ server_result_with (replay does) (server_step (log_of does) v from m)
