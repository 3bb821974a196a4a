use Rattle.std.proofs.Common.{refl}
use Rattle.zwire.specs.records.Records.{server}
use Rattle.zwire.specs.Fields.{log_number, epoch, client, process}
use Rattle.zwire.specs.Messages.{last, end, any_message}
use Rattle.zwire.specs.Frames.{contents, frame}
use Rattle.zwire.proofs.rows.the_master_has_frames.Goals as goal

pub returns : goal.returns
unfolding frame contents any_message last end process client server log_number epoch
returns c = record {
  new_pred = refl;
  have_none = refl;
  have_5 = refl;
  new_succ = refl;
  become_head = refl;
  become_tail =
      refl;
  retire = refl;
  joined = refl;
  gone = refl;
  config = refl;
  no_chain = refl;
}
