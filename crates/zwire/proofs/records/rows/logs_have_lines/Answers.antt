use Rattle.std.proofs.Common.{refl}
use Rattle.base64.proofs.OnLiterals.{base64_on_literals}
use Rattle.zwire.specs.records.Fields.{content, path, node_kind}
use Rattle.zwire.specs.records.Calls.{create, update}
use Rattle.zwire.specs.records.Records.{password, server, logged, line_of}
use Rattle.zwire.proofs.records.rows.logs_have_lines.Goals as goal

pub returns : goal.returns
unfolding line_of logged update create content path node_kind password server base64_on_literals
returns c = record { none = refl; tick = refl; password = refl; two = refl }
