use Rattle.std.proofs.Common.{refl}
use Rattle.zcodec.specs.Forms.{number_at}
use Rattle.zpath.specs.Faults.{fault_of}
use Rattle.zwire.specs.records.Fields.{content, path, path_from, version, version_at}
use Rattle.zwire.specs.records.Calls.{delete, set_data, part, part_at, parts, update, update_at}
use Rattle.zwire.specs.records.Records.{password, server, row, logged, logged_at}
use Rattle.zwire.proofs.records.rows.bytes_are_records.Goals as goal

pub returns : goal.returns
unfolding logged logged_at update update_at delete set_data content part part_at parts password server row path path_from version version_at number_at fault_of
returns c =
    record {
      read = refl;
      no_bytes = refl;
      other_tag = refl;
      longest_row = refl;
      long_row = refl;
      longest_data = refl;
      long_data = refl;
      short_row = refl;
      other_change = refl;
      no_parts = refl;
      most_parts = refl;
      many_parts = refl;
      no_server = refl;
      server_17 = refl;
      relative_path = refl;
      short_password = refl;
      more = refl;
    }
