-- Laws of the definitions.
use Rattle.std.specs.Prelude.{◌≡◌}
use Rattle.zjute.specs.declared.connecting.ConnectRequest.{ConnectRequest}
use Rattle.zjute.specs.declared.request.Request.{Request}
use Rattle.zjute.specs.declared.stat.StatRecord.{StatRecord}
use Rattle.zjute.specs.Asking.{request}
use Rattle.zjute.specs.Connecting.{connect_request}
use Rattle.zjute.specs.Stats.{stat}

-- two different requests have different bytes
abbrev pub RequestsAreDistinct : Type 0
RequestsAreDistinct =
    (x y : Request) → request.Fits x → request.Fits y → request.spell x ≡ request.spell y → x ≡ y

-- two different first frames have different bytes
abbrev pub GreetingsAreDistinct : Type 0
GreetingsAreDistinct =
    (x y : ConnectRequest) → connect_request.Fits x → connect_request.Fits y →
    connect_request.spell x ≡ connect_request.spell y → x ≡ y

-- two different stats have different bytes
abbrev pub StatsAreDistinct : Type 0
StatsAreDistinct = (x y : StatRecord) → stat.Fits x → stat.Fits y → stat.spell x ≡ stat.spell y → x ≡ y
