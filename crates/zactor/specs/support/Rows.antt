-- Messages, posts and processes over the tree, for the worked examples.
use Rattle.std.specs.Prelude.{ℕ, None, Some}
use Rattle.zcalls.specs.declared.reply.Reply.TheVariants.{Deleted}
use Rattle.zprotocol.specs.declared.message.Message.TheVariants as message
use Rattle.zprotocol.specs.declared.process.Process.TheVariants.{Master, Server, Client}
use Rattle.zprotocol.specs.server.Machine.{cached_tree}
use Rattle.zprotocol.specs.server.View.{member, spare}
use Rattle.zprotocol.specs.client.support.Rows.{query, update}
use Rattle.zprotocol.specs.world.Does.{AtServer}
use Rattle.zactor.specs.declared.input.Input.{Input}
use Rattle.zactor.specs.declared.input.Input.TheVariants.{Hear}
use Rattle.zactor.specs.Acting.{TreePost, TreeStanding}

-- a server outside the chain, and the only member of a chain
abbrev pub outside : TreeStanding
outside = AtServer spare

abbrev pub alone : TreeStanding
alone = AtServer (member cached_tree None None)

-- the master's order to leave, and the same message from another process
abbrev pub retire : Input
retire = Hear Master message.Retire

abbrev pub strange_retire : Input
strange_retire = Hear (Server 1) message.Retire

-- the master sends a new predecessor, and the server replies
abbrev pub new_pred : Input
new_pred = Hear Master (message.NewPred 4 1)

-- client 5 submits an update, and asks a query
abbrev pub submit : Input
submit = Hear (Client 5) (message.Submit 18 update)

abbrev pub ask : Input
ask = Hear (Client 5) (message.Query 18 query)

-- server 3 answers the client's call of that number
abbrev pub answer : ℕ → Input
answer number = Hear (Server 3) (message.Answer number Deleted)

-- the master sends an epoch, and the ends of the chain
abbrev pub config : ℕ → Input
config epoch = Hear Master (message.Config epoch (Some 1) (Some 3))

-- a server reports what it has, and is gone
abbrev pub gone : TreePost
gone = (Master, message.Gone)

abbrev pub have : TreePost
have = (Master, message.Have 4 None)
