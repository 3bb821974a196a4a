-- Where all counters of a node have room, so has each.
use Rattle.std.proofs.Common.{Bool, true, false, arith}
use Rattle.ztree.specs.declared.node.Node.{Node}
use Rattle.ztree.specs.Room.{HasRoom, HasRoomForChild, HasRoomForLosses, HasRoomForData, HasRoomForAcl}

pub room_for_child : (sequential : Bool) (n : Node) → HasRoom n → HasRoomForChild sequential n
room_for_child true n room = (room.1, room.2)
room_for_child false n room = (room.1, omega (arith, room.2))

pub room_for_loss : (n : Node) → HasRoom n → HasRoomForLosses 1 n
room_for_loss n room = room.1

pub room_for_data : (n : Node) → HasRoom n → HasRoomForData n
room_for_data n room = room.0

pub room_for_acl : (n : Node) → HasRoom n → HasRoomForAcl n
room_for_acl n room = room.3
