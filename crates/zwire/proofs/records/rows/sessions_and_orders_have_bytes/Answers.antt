use Rattle.std.proofs.Common.{refl}
use Rattle.zwire.specs.records.Calls.{update}
use Rattle.zwire.specs.records.Records.{password, server, row, logged}
use Rattle.zwire.proofs.records.rows.sessions_and_orders_have_bytes.Goals as goal

pub returns : goal.returns
unfolding logged update password server row
returns c =
    record {
      password = refl;
      opened = refl;
      pinged = refl;
      closed = refl;
      ticked = refl;
      failed = refl;
      joined = refl;
      retired = refl;
      row = refl;
    }
