-- The error code returned for a refusal of the service. The codes are those of ZooKeeper's
-- `KeeperException.Code`. Where ZooKeeper has no such refusal, choosing the nearest code is this
-- project's profile.
use Rattle.zcalls.specs.declared.refusal.Refusal.{Refusal}
use Rattle.zcalls.specs.declared.refusal.Refusal.TheVariants.{NoNode, NodeExists, NotEmpty, BadVersion, NoChildrenForEphemerals, SessionGone, SequenceFull, PathLimit, RootFixed, Full, TooManySessions, Exhausted}
use Rattle.zjute.specs.declared.code.Code.{Code}
use Rattle.zjute.specs.declared.code.Code.TheVariants as code

-- the code of a refusal
abbrev pub code_of : Refusal → Code
code_of NoNode = code.NoNode
code_of NodeExists = code.NodeExists
code_of NotEmpty = code.NotEmpty
code_of BadVersion = code.BadVersion
code_of NoChildrenForEphemerals = code.NoChildrenForEphemerals
code_of SessionGone = code.SessionExpired
code_of SequenceFull = code.SystemError
code_of PathLimit = code.BadArguments
code_of RootFixed = code.BadArguments
code_of Full = code.SystemError
code_of TooManySessions = code.SystemError
code_of Exhausted = code.SystemError
