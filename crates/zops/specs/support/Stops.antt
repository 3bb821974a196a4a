-- What is left by a part, or by the parts of a multi, done to a store.
use Rattle.std.specs.Prelude.{ℕ, ◌≡◌, ◌+◌, ◌≤◌, Option, Some, Result, Ok, Err, IsErr}
use Rattle.ztree.specs.Tree.{Tree}
use Rattle.zstore.specs.StoreView.{StoreView}
use Rattle.zcalls.specs.declared.call.Part.{Part}
use Rattle.zcalls.specs.declared.refusal.Refusal.{Refusal}
use Rattle.zops.specs.support.Ready.{KeepsMark}
use Rattle.zcalls.specs.declared.reply.PartReply.{PartReply}
use Rattle.zcalls.specs.declared.reply.Reply.{Reply}
use Rattle.zcalls.specs.declared.reply.Reply.TheVariants as reply
use Rattle.zcalls.specs.Multi.{Run}
use Rattle.zcalls.specs.Part.{part_step}
use Rattle.zops.specs.declared.stop.Stop.{Stop}
use Rattle.zops.specs.declared.stop.Stop.TheVariants as stop
use Rattle.zops.specs.declared.stop.Halt.{Halt}
use Rattle.zops.specs.declared.stop.Halt.TheVariants as halt

-- a change or a part was done: the tree and the reply are those of its step, at most one Id was
-- given, and a mark is still set
pub record IsDone {A : Type 0} (step : Result (Tree × A) Refusal) (old new : StoreView) (reply : A) : Type 0 where
  pub step_is : step ≡ Ok (new.tree, reply)
  pub given : new.given ≤ old.given + 1
  pub mark : KeepsMark old new

-- the same of a client's part
abbrev pub IsPartDone : ℕ → Part → StoreView → StoreView → PartReply → Type 0
IsPartDone client part old new reply = IsDone (part_step old.tree client part) old new reply

-- what a step that was not done says: memory nothing, and a refusal that it is the step's
abbrev pub IsStop : {A : Type 0} → Result A Refusal → Stop → Type 0
IsStop step stop.Memory = Unit {0}
IsStop step (stop.Refused refusal) = step ≡ Err refusal

-- the same of some tests: the refusal is that of the first that holds
abbrev pub IsFirst : Option Refusal → Stop → Type 0
IsFirst refused stop.Memory = Unit {0}
IsFirst refused (stop.Refused refusal) = refused ≡ Some refusal

-- what the parts of a multi that were not all done say: memory nothing, and a refusal that it is the run's
abbrev pub IsHalt : Run → Halt → Type 0
IsHalt run halt.Memory = Unit {0}
IsHalt run (halt.Refused number refusal) = run ≡ Err (number, refusal)

-- what a multi answers then: the part and its refusal, or memory
abbrev pub IsHaltAnswered : {E : Type 0} → Halt → Result Reply E → Type 0
IsHaltAnswered halt.Memory result = IsErr result
IsHaltAnswered (halt.Refused number refusal) result = result ≡ Ok (reply.MultiRefused number refusal)
