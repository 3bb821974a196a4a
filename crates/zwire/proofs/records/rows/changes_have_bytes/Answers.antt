use Rattle.std.proofs.Common.{refl}
use Rattle.zwire.specs.records.Fields.{ttl, content, path, version, node_kind}
use Rattle.zwire.specs.records.Calls.{create, delete, set_data, set_acl, check, part, parts, update}
use Rattle.zwire.specs.records.Records.{logged}
use Rattle.zwire.proofs.records.rows.changes_have_bytes.Goals as goal

pub returns : goal.returns
unfolding logged update create delete set_data set_acl check part parts ttl content path version node_kind
returns c = record { create = refl; create_for_7 = refl; create_container = refl; delete = refl; set = refl; set_acl = refl; multi = refl }
