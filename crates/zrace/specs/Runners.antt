-- What a clause says of racing clients.
use Rattle.std.specs.declared.thread.PromisedHandle.{PromisedHandle}
use Rattle.zrun.specs.declared.client.Client.{Client}
use Rattle.zrace.specs.declared.racer.Racer.{Racer}
use Rattle.zrace.specs.declared.racer.Returns.{Returns}

-- the handle of a racing client's thread
abbrev pub Handle : Type 0
Handle = PromisedHandle Racer Returns

-- the client that the thread was given
abbrev pub given_client : Handle → Client
given_client h = h.promise.0.value
