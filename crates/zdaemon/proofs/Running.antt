-- A run, and what its parts did.
use Rattle.std.proofs.Common.{◌≡◌, ◌∷◌, [], ℕ, List, Option, None, Some}
use Rattle.zconnections.specs.buffers.Inputs.{InputView}
use Rattle.zconnections.specs.buffers.Outbox.{ChunkView}
use Rattle.zguard.specs.Guarding.{GuardView}
use Rattle.zdaemon.specs.Guarded.{HasReportedGuarded, KeepsGuarded, ReportsGuarded, ServesBehind, TakesGuarded}
use Rattle.zdaemon.specs.declared.guarded.Guarded.{Guarded}
use Rattle.zdaemon.specs.pipe.Messages.{Keep, MessageView}
use Rattle.zdaemon.specs.pipe.Serving.{ServesAll}

-- a source that gave bytes gave them after others, too
gave_after :
    {V : Type 0} (took : V → InputView → V → Type 0) (kept : V → V → Type 0) (reported : V → ChunkView → V → Type 0) (has_reported : V → Type 0)
    (first : List MessageView) (gave more takes : List ℕ → Type 0) (old new : V)
    → ((bytes : List ℕ) → gave bytes → more bytes)
    → ServesAll took kept reported has_reported first gave takes old new → ServesAll took kept reported has_reported first more takes old new
gave_after took kept reported has_reported first gave more takes old new f all = record {
  messages = all.messages;
  outputs = all.outputs;
  serves = all.serves;
  fit = all.fit;
  rest = all.rest;
  gave_them = f _ all.gave_them;
  took_them = all.took_them;
}

-- the same behind a guard, if there are logins
pub behind_after :
    {V : Type 0} (took : V → InputView → V → Type 0) (kept : V → V → Type 0) (reported : V → ChunkView → V → Type 0) (has_reported : V → Type 0)
    (logins : Option (List (List ℕ))) (gave more takes : List ℕ → Type 0) (first : V)
    → ((bytes : List ℕ) → gave bytes → more bytes)
    → ServesBehind took kept reported has_reported logins gave takes first → ServesBehind took kept reported has_reported logins more takes first
behind_after took kept reported has_reported None gave more takes first f served =
    (served.0, gave_after took kept reported has_reported (Keep ∷ []) gave more takes first served.0 f served.1)
behind_after took kept reported has_reported (Some logins) gave more takes first f served = (
  served.0,
  gave_after (TakesGuarded took) (KeepsGuarded kept) (ReportsGuarded reported) (HasReportedGuarded has_reported) (Keep ∷ []) gave more takes
      _ served.0 f served.1,
)

-- a guard, and the service behind it
pub guarded_is : {V : Type 0} (it : Guarded V) (guard : GuardView) (service : V) → it.guard ≡ guard → it.service ≡ service
    → it ≡ record { guard = guard; service = service }
guarded_is it guard service same_guard same_service = rw same_guard (rw same_service cc)
