-- What the fields of a table represent.
use Rattle.zsessions.specs.declared.table.Table.TheInside.{Inside}
use Rattle.zsessions.specs.support.TableView.{TableView}
use Rattle.zsessions.specs.support.Rows.{sessions_of}

abbrev pub view_of : Inside → TableView
view_of t = record { sessions = sessions_of t.ids.entries t.rows.items; given = t.rows.given }
