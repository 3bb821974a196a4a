-- A request: the number by which its client matches the reply, its kind, and the record of that
-- kind (`RequestHeader` of zookeeper.jute, and the record after it).
use Rattle.std.specs.Prelude.{◌≡◌, ℤ, pos, ℕ, List, [], ◌∷◌, Result, Ok, unwrap_or}
use Rattle.zcodec.specs.declared.fault.Fault.{Fault}
use Rattle.zcodec.specs.Forms.{Form, both, made, empty}
use Rattle.zjute.specs.declared.op.Op.{Op}
use Rattle.zjute.specs.declared.op.Op.TheVariants as op
use Rattle.zjute.specs.declared.request.Asked.{Asked}
use Rattle.zjute.specs.declared.request.Request.{Request}
use Rattle.zjute.specs.declared.request.Asked.TheVariants as asks
use Rattle.zjute.specs.Jute.{neg, int, buffer, text, left}
use Rattle.zjute.specs.Shapes.{fields, Spelled, behind, read_as, by_tag, with_number}
use Rattle.zjute.specs.Requests.{create, create_ttl, at_version, look, set_data, set_acl, watches_at, add_watch, auth, set_watches, set_watches_2}
use Rattle.zjute.specs.Parts.{parts, looks}

-- the number of each kind (`ZooDefs.OpCode`)
abbrev pub op_number : Op → ℤ
op_number op.Create = pos 1
op_number op.Delete = pos 2
op_number op.Exists = pos 3
op_number op.GetData = pos 4
op_number op.SetData = pos 5
op_number op.GetAcl = pos 6
op_number op.SetAcl = pos 7
op_number op.GetChildren = pos 8
op_number op.Sync = pos 9
op_number op.Ping = pos 11
op_number op.GetChildren2 = pos 12
op_number op.Check = pos 13
op_number op.Multi = pos 14
op_number op.Create2 = pos 15
op_number op.CheckWatches = pos 17
op_number op.RemoveWatches = pos 18
op_number op.CreateContainer = pos 19
op_number op.CreateTtl = pos 21
op_number op.MultiRead = pos 22
op_number op.Auth = pos 100
op_number op.SetWatches = pos 101
op_number op.Sasl = pos 102
op_number op.GetEphemerals = pos 103
op_number op.GetAllChildrenNumber = pos 104
op_number op.SetWatches2 = pos 105
op_number op.AddWatch = pos 106
op_number op.WhoAmI = pos 107
op_number op.CloseSession = neg 11
op_number (op.Other n) = n

-- the kinds from 104 on, and below 0
unfoldable pub last_ops : List Op
last_ops =
    op.GetAllChildrenNumber ∷ op.SetWatches2 ∷ op.AddWatch ∷ op.WhoAmI ∷ op.CloseSession ∷ []

unfoldable pub late_ops : List Op
late_ops =
    op.CreateContainer ∷ op.CreateTtl ∷ op.MultiRead ∷ op.Auth ∷ op.SetWatches ∷ op.Sasl ∷
    op.GetEphemerals ∷ last_ops

unfoldable pub middle_ops : List Op
middle_ops =
    op.Sync ∷ op.Ping ∷ op.GetChildren2 ∷ op.Check ∷ op.Multi ∷ op.Create2 ∷ op.CheckWatches ∷
    op.RemoveWatches ∷ late_ops

abbrev pub ops : List Op
ops =
    op.Create ∷ op.Delete ∷ op.Exists ∷ op.GetData ∷ op.SetData ∷ op.GetAcl ∷ op.SetAcl ∷
    op.GetChildren ∷ middle_ops

-- the kind with this number, among these
abbrev pub op_among : List Op → ℤ → Op
op_among kinds n = unwrap_or (with_number op_number kinds n) (op.Other n)

-- the kind with this number
unfoldable pub op_of : ℤ → Op
op_of = op_among ops

-- the kind is found by its number; the number of `Other` isn't that of another kind
abbrev pub FitsOp : Op → Type 0
FitsOp o = int.Fits (op_number o) × (op_of (op_number o) ≡ o)

abbrev pub op_form : Form Op
op_form = made int op_number (λ n. Ok (op_of n)) FitsOp

-- the record after the number of each kind
unfoldable pub asked_at : Op → List ℕ → Result (Asked × List ℕ) Fault
asked_at op.Create = read_as create (λ x. asks.Create x)
asked_at op.Delete = read_as at_version (λ x. asks.Delete x)
asked_at op.Exists = read_as look (λ x. asks.Exists x)
asked_at op.GetData = read_as look (λ x. asks.GetData x)
asked_at op.SetData = read_as set_data (λ x. asks.SetData x)
asked_at op.GetAcl = read_as buffer (λ x. asks.GetAcl x)
asked_at op.SetAcl = read_as set_acl (λ x. asks.SetAcl x)
asked_at op.GetChildren = read_as look (λ x. asks.GetChildren x)
asked_at op.Sync = read_as buffer (λ x. asks.Sync x)
asked_at op.Ping = read_as empty (λ _. asks.Ping)
asked_at op.GetChildren2 = read_as look (λ x. asks.GetChildren2 x)
asked_at op.Check = read_as at_version (λ x. asks.Check x)
asked_at op.Multi = read_as parts (λ x. asks.Multi x)
asked_at op.Create2 = read_as create (λ x. asks.Create2 x)
asked_at op.CheckWatches = read_as watches_at (λ x. asks.CheckWatches x)
asked_at op.RemoveWatches = read_as watches_at (λ x. asks.RemoveWatches x)
asked_at op.CreateContainer = read_as create (λ x. asks.CreateContainer x)
asked_at op.CreateTtl = read_as create_ttl (λ x. asks.CreateTtl x)
asked_at op.MultiRead = read_as looks (λ x. asks.MultiRead x)
asked_at op.Auth = read_as auth (λ x. asks.Auth x)
asked_at op.SetWatches = read_as set_watches (λ x. asks.SetWatches x)
asked_at op.SetWatches2 = read_as set_watches_2 (λ x. asks.SetWatches2 x)
asked_at op.Sasl = read_as text (λ x. asks.Sasl x)
asked_at op.GetEphemerals = read_as buffer (λ x. asks.GetEphemerals x)
asked_at op.GetAllChildrenNumber = read_as buffer (λ x. asks.GetAllChildrenNumber x)
asked_at op.AddWatch = read_as add_watch (λ x. asks.AddWatch x)
asked_at op.WhoAmI = read_as empty (λ _. asks.WhoAmI)
asked_at op.CloseSession = read_as empty (λ _. asks.CloseSession)
asked_at (op.Other n) = read_as left (λ bytes. asks.Other n bytes)

abbrev pub asked_spelled : Asked → Spelled Op
asked_spelled (asks.Create x) = behind op.Create create x
asked_spelled (asks.Delete x) = behind op.Delete at_version x
asked_spelled (asks.Exists x) = behind op.Exists look x
asked_spelled (asks.GetData x) = behind op.GetData look x
asked_spelled (asks.SetData x) = behind op.SetData set_data x
asked_spelled (asks.GetAcl x) = behind op.GetAcl buffer x
asked_spelled (asks.SetAcl x) = behind op.SetAcl set_acl x
asked_spelled (asks.GetChildren x) = behind op.GetChildren look x
asked_spelled (asks.Sync x) = behind op.Sync buffer x
asked_spelled asks.Ping = behind op.Ping empty tt
asked_spelled (asks.GetChildren2 x) = behind op.GetChildren2 look x
asked_spelled (asks.Check x) = behind op.Check at_version x
asked_spelled (asks.Multi x) = behind op.Multi parts x
asked_spelled (asks.Create2 x) = behind op.Create2 create x
asked_spelled (asks.CheckWatches x) = behind op.CheckWatches watches_at x
asked_spelled (asks.RemoveWatches x) = behind op.RemoveWatches watches_at x
asked_spelled (asks.CreateContainer x) = behind op.CreateContainer create x
asked_spelled (asks.CreateTtl x) = behind op.CreateTtl create_ttl x
asked_spelled (asks.MultiRead x) = behind op.MultiRead looks x
asked_spelled (asks.Auth x) = behind op.Auth auth x
asked_spelled (asks.SetWatches x) = behind op.SetWatches set_watches x
asked_spelled (asks.SetWatches2 x) = behind op.SetWatches2 set_watches_2 x
asked_spelled (asks.Sasl x) = behind op.Sasl text x
asked_spelled (asks.GetEphemerals x) = behind op.GetEphemerals buffer x
asked_spelled (asks.GetAllChildrenNumber x) = behind op.GetAllChildrenNumber buffer x
asked_spelled (asks.AddWatch x) = behind op.AddWatch add_watch x
asked_spelled asks.WhoAmI = behind op.WhoAmI empty tt
asked_spelled asks.CloseSession = behind op.CloseSession empty tt
asked_spelled (asks.Other n bytes) = behind (op.Other n) left bytes

unfoldable pub asked : Form Asked
asked = by_tag op_form asked_at asked_spelled

unfoldable pub request : Form Request
request = fields (both int asked) (λ r. (r.xid, r.asked)) (λ f. record { xid = f.0; asked = f.1 })
