use Rattle.std.proofs.Common.{◌≡◌, ◌++◌}
use Rattle.zrun.specs.Left.{ins_of, outs_of, traces_of}
use Rattle.zrun.proofs.keeping.keep_servers.Given as goal

abbrev pub invariant-loop-ending : goal.invariant-loop-ending
invariant-loop-ending l =
    (l.fn.endings.items ≡ l.yielded ++ l.ending-iterator.rest.items)
    × (l.mesh.outs.items ≡ l.fn.mesh.outs.items ++ outs_of l.yielded)
    × (l.mesh.ins.items ≡ l.fn.mesh.ins.items ++ ins_of l.yielded)
    × (l.traces.items ≡ traces_of l.yielded)
