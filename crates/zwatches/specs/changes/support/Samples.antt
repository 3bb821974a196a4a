-- Samples for the worked examples.
use Rattle.std.specs.Prelude.{List, [], ◌∷◌}
use Rattle.ztree.specs.support.Samples.{at_a, at_a_b}
use Rattle.zcalls.specs.declared.call.Create.{Create}
use Rattle.zcalls.specs.declared.call.Delete.{Delete}
use Rattle.zcalls.specs.declared.call.SetData.{SetData}
use Rattle.zcalls.specs.declared.call.SetAcl.{SetAcl}
use Rattle.zcalls.specs.declared.call.Check.{Check}
use Rattle.zcalls.specs.declared.call.Lifetime.TheVariants.{Persistent}
use Rattle.zcalls.specs.Part.{named}
use Rattle.zcalls.specs.declared.call.Expected.TheVariants.{Any}
use Rattle.zjute.specs.declared.event.EventKind.TheVariants.{NodeCreated, NodeDeleted, NodeDataChanged, NodeChildrenChanged}
use Rattle.zwatches.specs.declared.changes.event.Event.{Event}
use Rattle.zwatches.specs.changes.Events.{event}

-- calls of /a/b
abbrev pub create_a_b : Create
create_a_b = record { path = at_a_b; kind = named Persistent; bytes = [] }

abbrev pub delete_a_b : Delete
delete_a_b = record { path = at_a_b; version = Any }

abbrev pub set_a_b : SetData
set_a_b = record { path = at_a_b; bytes = []; version = Any }

abbrev pub list_a_b : SetAcl
list_a_b = record { path = at_a_b; version = Any }

abbrev pub check_a_b : Check
check_a_b = record { path = at_a_b; version = Any }

-- their events
abbrev pub created_a_b : List Event
created_a_b = event NodeCreated at_a_b ∷ event NodeChildrenChanged at_a ∷ []

abbrev pub gone_a_b : List Event
gone_a_b = event NodeDeleted at_a_b ∷ event NodeChildrenChanged at_a ∷ []

abbrev pub written_a_b : List Event
written_a_b = event NodeDataChanged at_a_b ∷ []
