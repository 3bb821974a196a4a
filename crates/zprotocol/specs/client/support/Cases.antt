-- What a client does with a message, as one of three kinds of row, each with its conditions. A
-- proof that splits the client table has one case for each.
use Rattle.std.specs.Prelude.{◌≡◌, ℕ, ◌<◌, [], Option, Some, None}
use Rattle.zcalls.specs.declared.call.Call.{Call}
use Rattle.zcalls.specs.declared.reply.Reply.{Reply}
use Rattle.zprotocol.specs.declared.message.Message.{Message}
use Rattle.zprotocol.specs.declared.message.Message.TheVariants as message
use Rattle.zprotocol.specs.declared.process.Process.{Process}
use Rattle.zprotocol.specs.declared.process.Process.TheVariants.{Master, Server}
use Rattle.zprotocol.specs.client.View.{ClientView}
use Rattle.zprotocol.specs.client.Table.{ClientResult, outstanding_posts}

-- the view with a later configuration
abbrev pub with_config : ClientView → ℕ → Option ℕ → Option ℕ → ClientView
with_config v epoch head tail = record v { epoch = epoch; head = head; tail = tail }

-- the rows that do something, and that nothing is done
pub data IsClientRow {T : Type 0} (v : ClientView) : Process → Message T → ClientResult T → Type 0 where
  Ignores : (from : Process) (m : Message T) → IsClientRow v from m (v, [], None)
  Answers : (s number : ℕ) (call : Call) (reply : Reply) → v.outstanding ≡ Some (number, call)
      → IsClientRow v (Server s) (message.Answer number reply) (record v { outstanding = None }, [], Some (number, reply))
  Configures : (epoch : ℕ) (head tail : Option ℕ) → v.epoch < epoch
      → IsClientRow v Master (message.Config epoch head tail)
      (with_config v epoch head tail, outstanding_posts (with_config v epoch head tail), None)
