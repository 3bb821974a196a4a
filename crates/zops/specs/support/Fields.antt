-- What the fields of a machine represent.
use Rattle.zops.specs.declared.machine.Machine.TheInside.{Inside}
use Rattle.zops.specs.Machine.{MachineView}

abbrev pub view_of : Inside → MachineView
view_of m = record {
  state = record {
    service = record { plain = m.store.tree; kept = m.kept };
    applied = m.applied;
  };
  is_broken = m.is_broken;
}
