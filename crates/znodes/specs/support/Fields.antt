-- What the fields of a `Nodes` represent.
use Rattle.znodes.specs.declared.nodes.Nodes.TheInside.{Inside}
use Rattle.znodes.specs.NodesView.{NodesView}
use Rattle.znodes.specs.support.Rows.{nodes_of, places_of, held_of, known_of}

abbrev pub view_of : Inside → NodesView
view_of s =
    record {
      nodes = nodes_of s.slots.items s.index.ids;
      places = places_of s.slots.items;
      held = held_of s.slots.items;
      owners = known_of s.owners;
      given = s.slots.given;
      room = s.index.room;
    }
