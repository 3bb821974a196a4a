-- The codes of errors and their numbers (`KeeperException.Code`).
use Rattle.std.specs.Prelude.{◌≡◌, ℤ, pos, List, [], ◌∷◌, Option, Some}
use Rattle.zjute.specs.declared.code.Code.{Code}
use Rattle.zjute.specs.declared.code.Code.TheVariants as code
use Rattle.zjute.specs.Jute.{neg}
use Rattle.zjute.specs.Shapes.{with_number}

abbrev pub code_number : Code → ℤ
code_number code.Ok = pos 0
code_number code.SystemError = neg 1
code_number code.RuntimeInconsistency = neg 2
code_number code.DataInconsistency = neg 3
code_number code.ConnectionLoss = neg 4
code_number code.MarshallingError = neg 5
code_number code.Unimplemented = neg 6
code_number code.OperationTimeout = neg 7
code_number code.BadArguments = neg 8
code_number code.UnknownSession = neg 12
code_number code.NewConfigNoQuorum = neg 13
code_number code.ReconfigInProgress = neg 14
code_number code.ApiError = neg 100
code_number code.NoNode = neg 101
code_number code.NoAuth = neg 102
code_number code.BadVersion = neg 103
code_number code.NoChildrenForEphemerals = neg 108
code_number code.NodeExists = neg 110
code_number code.NotEmpty = neg 111
code_number code.SessionExpired = neg 112
code_number code.InvalidCallback = neg 113
code_number code.InvalidAcl = neg 114
code_number code.AuthFailed = neg 115
code_number code.SessionMoved = neg 118
code_number code.NotReadOnly = neg 119
code_number code.EphemeralOnLocalSession = neg 120
code_number code.NoWatcher = neg 121
code_number code.RequestTimeout = neg 122
code_number code.ReconfigDisabled = neg 123
code_number code.SessionClosedRequireSaslAuth = neg 124
code_number code.QuotaExceeded = neg 125
code_number code.ThrottledOp = neg 127

unfoldable pub last_codes : List Code
last_codes =
    code.NotReadOnly ∷ code.EphemeralOnLocalSession ∷ code.NoWatcher ∷ code.RequestTimeout ∷
    code.ReconfigDisabled ∷ code.SessionClosedRequireSaslAuth ∷ code.QuotaExceeded ∷
    code.ThrottledOp ∷ []

unfoldable pub late_codes : List Code
late_codes =
    code.NoChildrenForEphemerals ∷ code.NodeExists ∷ code.NotEmpty ∷ code.SessionExpired ∷
    code.InvalidCallback ∷ code.InvalidAcl ∷ code.AuthFailed ∷ code.SessionMoved ∷ last_codes

unfoldable pub middle_codes : List Code
middle_codes =
    code.BadArguments ∷ code.UnknownSession ∷ code.NewConfigNoQuorum ∷
    code.ReconfigInProgress ∷ code.ApiError ∷ code.NoNode ∷ code.NoAuth ∷ code.BadVersion ∷
    late_codes

abbrev pub codes : List Code
codes =
    code.Ok ∷ code.SystemError ∷ code.RuntimeInconsistency ∷ code.DataInconsistency ∷
    code.ConnectionLoss ∷ code.MarshallingError ∷ code.Unimplemented ∷ code.OperationTimeout ∷
    middle_codes

-- the code with this number, if there is one
unfoldable pub code_of : ℤ → Option Code
code_of = with_number code_number codes

-- each code has a number of its own
abbrev pub EachHasItsNumber : Type 0
EachHasItsNumber = (c : Code) → code_of (code_number c) ≡ Some c
