-- The records of the worked examples.
use Rattle.std.specs.Prelude.{ℕ, List, [], ◌∷◌}
use Rattle.zcalls.specs.declared.call.Lifetime.TheVariants.{Persistent, WithTtl, Ephemeral, Container}
use Rattle.zcalls.specs.Part.{named}
use Rattle.zcalls.specs.declared.call.Expected.TheVariants.{Any, Exactly}
use Rattle.zcalls.specs.declared.call.Part.TheVariants as part_is
use Rattle.zcalls.specs.declared.call.Update.TheVariants as act
use Rattle.zwire.specs.declared.records.record.Record.{Record}
use Rattle.zwire.specs.declared.records.record.Record.TheVariants.{Password, Update}

-- the names of /a and of /b
abbrev pub a : List (List ℕ)
a = (97 ∷ []) ∷ []

abbrev pub b : List (List ℕ)
b = (98 ∷ []) ∷ []

abbrev pub password : Record
password = Password (1 ∷ 2 ∷ 3 ∷ 4 ∷ 5 ∷ 6 ∷ 7 ∷ 8 ∷ 9 ∷ 10 ∷ 11 ∷ 12 ∷ 13 ∷ 14 ∷ 15 ∷ 16 ∷ [])

-- create /a p aGk=
abbrev pub create : Record
create = Update (act.Create (record { path = a; kind = named Persistent; bytes = 104 ∷ 105 ∷ [] }))

-- create /a t:7 -
abbrev pub create_for_7 : Record
create_for_7 = Update (act.Create (record { path = a; kind = named (WithTtl 7); bytes = [] }))

-- create /a c -
abbrev pub create_container : Record
create_container = Update (act.Create (record { path = a; kind = named Container; bytes = [] }))

-- delete /a 3
abbrev pub delete : Record
delete = Update (act.Delete (record { path = a; version = Exactly 3 }))

-- set / any -
abbrev pub set_root : Record
set_root = Update (act.SetData (record { path = []; bytes = []; version = Any }))

-- multi check /a any ; create /b e:5 -
abbrev pub multi : Record
multi =
    Update (act.Multi (
    part_is.Check (record { path = a; version = Any })
    ∷ part_is.Create (record { path = b; kind = named (Ephemeral 5); bytes = [] })
    ∷ []
    ))

-- a write of the access control list of /a, at version 3 of it
abbrev pub set_acl : Record
set_acl = Update (act.SetAcl (record { path = a; version = Exactly 3 }))

abbrev pub open_for_10 : Record
open_for_10 = Update (act.Open 10)

abbrev pub ping : Record
ping = Update (act.Ping 5)

abbrev pub close : Record
close = Update (act.Close 258)

abbrev pub tick : Record
tick = Update act.Tick
