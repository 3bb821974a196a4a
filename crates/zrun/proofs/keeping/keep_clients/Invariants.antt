use Rattle.std.proofs.Common.{◌≡◌, ◌++◌, map}
use Rattle.zrun.specs.Left.{client_trace_of, ins_of, outs_of}
use Rattle.zrun.proofs.keeping.keep_clients.Given as goal

abbrev pub invariant-loop-ending : goal.invariant-loop-ending
invariant-loop-ending l =
    (l.fn.endings.items ≡ l.yielded ++ l.ending-iterator.rest.items)
    × (l.mesh.outs.items ≡ l.fn.mesh.outs.items ++ outs_of l.yielded)
    × (l.mesh.ins.items ≡ l.fn.mesh.ins.items ++ ins_of l.yielded)
    × (l.traces.items ≡ map client_trace_of l.yielded)
