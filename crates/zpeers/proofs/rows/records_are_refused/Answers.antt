use Rattle.std.proofs.Common.{refl, arith}
use Rattle.zcodec.specs.Forms.{number_at}
use Rattle.zprotocol.specs.declared.message.Message.TheVariants as message
use Rattle.zprotocol.specs.declared.process.Process.TheVariants.{Master, Server}
use Rattle.zwire.specs.records.Records.{server}
use Rattle.zwire.specs.Fields.{process_at, process}
use Rattle.zwire.specs.Messages.{order_at, message_at, any_message}
use Rattle.zwire.specs.Frames.{contents}
use Rattle.zpeers.proofs.rows.records_are_refused.Goals as goal

pub returns : goal.returns
unfolding contents any_message message_at order_at process process_at server number_at
returns c = record {
  tag = (omega arith, omega arith);
  awaited = (omega arith, (refl, λ none. cc));
  nothing = (omega arith, (omega arith, omega arith, refl));
  sender =
      (omega arith, (refl, refl, (record { sender = Master; receiver = Server 2; message = message.Retire }, refl, λ same. cc)));
  receiver =
      (omega arith, (refl, refl, (record { sender = Master; receiver = Server 2; message = message.Retire }, refl, refl, λ same. cc)));
  bytes = (omega arith, (refl, λ none. cc));
}
