-- What the actor of a node can be.
use Rattle.std.specs.Prelude.{◌≡◌, true}
use Rattle.zprotocol.specs.declared.process.Process.TheVariants.{Server}
use Rattle.zactor.specs.Acting.{TreeStanding, can_stand}

-- it is a server, maybe one that has stopped
abbrev pub IsServer : TreeStanding → Type 0
IsServer standing = can_stand (Server 1) standing ≡ true
