-- What a clause says of a ticker.
use Rattle.zrun.specs.declared.client.Client.{Client}
use Rattle.zrun.specs.declared.ticker.Ticker.{Ticker}

-- the client that its thread was given
abbrev pub ticking_client : Ticker → Client
ticking_client t = t.thread.promise.0.value
