-- What an untraced endpoint has.
use Rattle.std.specs.Prelude.{◌≡◌, Bool, true, []}
use Rattle.std.specs.Vec.{vec_capacity}
use Rattle.std.specs.declared.alloc.Global.{Global}
use Rattle.std.specs.declared.vec.Vec.{Vec}
use Rattle.zprotocol.specs.declared.world.history.CallEvent.{CallEvent}
use Rattle.zprotocol.specs.declared.traces.trace.TraceEvent.{TraceEvent}

-- the list is empty, and has no memory
abbrev pub IsBare : {A : Type 0} → Vec A Global → Type 0
IsBare xs = (xs.items ≡ []) × (vec_capacity xs ≡ 0)

-- the trace is cut; neither trace nor record has an event, or memory for one
abbrev pub RecordsNothing : Bool → Vec TraceEvent Global → Vec CallEvent Global → Type 0
RecordsNothing is_cut trace seen = (is_cut ≡ true) × IsBare trace × IsBare seen
