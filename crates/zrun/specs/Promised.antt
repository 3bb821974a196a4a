-- What a clause says of the promise of a thread that is given a client.
use Rattle.zrun.specs.declared.client.Client.{Client}
use Rattle.zrun.specs.declared.promises.HandsBack.{HandsBack}

-- the client that it is given
abbrev pub promised_client : HandsBack → Client
promised_client p = p.0.value
