-- Forms of the calls that change the tree, field by field, with a tag for each kind of call.
use Rattle.std.specs.Prelude.{ℕ, ◌<◌, List, [], ◌∷◌, length, Result, Ok, Err}
use Rattle.std.specs.Int.{w8}
use Rattle.zcodec.specs.declared.fault.Fault.{Fault}
use Rattle.zcodec.specs.declared.fault.Fault.TheVariants.{Invalid}
use Rattle.zcodec.specs.Forms.{Form, number, both, made, empty}
use Rattle.zcodec.specs.Choices.{listed}
use Rattle.zjute.specs.Shapes.{Spelled, behind, read_as, by_tag, fields}
use Rattle.zcalls.specs.declared.limits.TheConstants.{MOST_PARTS}
use Rattle.zcalls.specs.declared.call.Create.{Create}
use Rattle.zcalls.specs.declared.call.Delete.{Delete}
use Rattle.zcalls.specs.declared.call.SetData.{SetData}
use Rattle.zcalls.specs.declared.call.SetAcl.{SetAcl}
use Rattle.zcalls.specs.declared.call.Check.{Check}
use Rattle.zcalls.specs.declared.call.Part.{Part}
use Rattle.zcalls.specs.declared.call.Part.TheVariants as part_is
use Rattle.zcalls.specs.declared.call.Update.{Update}
use Rattle.zcalls.specs.declared.call.Update.TheVariants as act
use Rattle.zwire.specs.records.Sums.{at_tag, no_tag}
use Rattle.zwire.specs.records.Fields.{path, content, version, node_kind, long}

-- ---- changes of one node

unfoldable pub create : Form Create
create = fields (both path (both node_kind content)) (λ c. (c.path, (c.kind, c.bytes)))
    (λ f. record { path = f.0; kind = f.1.0; bytes = f.1.1 })

unfoldable pub delete : Form Delete
delete = fields (both path version) (λ d. (d.path, d.version))
    (λ f. record { path = f.0; version = f.1 })

unfoldable pub set_data : Form SetData
set_data = fields (both path (both version content)) (λ s. (s.path, (s.version, s.bytes)))
    (λ f. record { path = f.0; bytes = f.1.1; version = f.1.0 })

unfoldable pub set_acl : Form SetAcl
set_acl = fields (both path version) (λ s. (s.path, s.version))
    (λ f. record { path = f.0; version = f.1 })

unfoldable pub check : Form Check
check = fields (both path version) (λ c. (c.path, c.version))
    (λ f. record { path = f.0; version = f.1 })

-- ---- the parts of a multi

unfoldable pub part_at : ℕ → List ℕ → Result (Part × List ℕ) Fault
part_at =
    at_tag 0 (read_as create (λ c. part_is.Create c))
    (at_tag 1 (read_as delete (λ d. part_is.Delete d))
    (at_tag 2 (read_as set_data (λ s. part_is.SetData s))
    (at_tag 3 (read_as check (λ c. part_is.Check c)) no_tag)))

abbrev pub part_spelled : Part → Spelled ℕ
part_spelled (part_is.Create c) = behind 0 create c
part_spelled (part_is.Delete d) = behind 1 delete d
part_spelled (part_is.SetData s) = behind 2 set_data s
part_spelled (part_is.Check c) = behind 3 check c

unfoldable pub part : Form Part
part = by_tag (number w8) part_at part_spelled

-- a multi has a part
abbrev pub parts_from : List Part → Result (List Part) Fault
parts_from [] = Err Invalid
parts_from (first ∷ parts) = Ok (first ∷ parts)

abbrev pub FitParts : List Part → Type 0
FitParts parts = (0 < length parts) × (listed MOST_PARTS part).Fits parts

-- the parts, after their count
unfoldable pub parts : Form (List Part)
parts = made (listed MOST_PARTS part) (λ parts. parts) parts_from FitParts

-- ---- changes

unfoldable pub update_at : ℕ → List ℕ → Result (Update × List ℕ) Fault
update_at =
    at_tag 0 (read_as create (λ c. act.Create c))
    (at_tag 1 (read_as delete (λ d. act.Delete d))
    (at_tag 2 (read_as set_data (λ s. act.SetData s))
    (at_tag 3 (read_as parts (λ parts. act.Multi parts))
    (at_tag 4 (read_as long (λ ticks. act.Open ticks))
    (at_tag 5 (read_as long (λ session. act.Ping session))
    (at_tag 6 (read_as long (λ session. act.Close session))
    (at_tag 7 (read_as empty (λ _. act.Tick))
    (at_tag 8 (read_as set_acl (λ s. act.SetAcl s)) no_tag))))))))

abbrev pub update_spelled : Update → Spelled ℕ
update_spelled (act.Create c) = behind 0 create c
update_spelled (act.Delete d) = behind 1 delete d
update_spelled (act.SetData s) = behind 2 set_data s
update_spelled (act.Multi ps) = behind 3 parts ps
update_spelled (act.Open ticks) = behind 4 long ticks
update_spelled (act.Ping session) = behind 5 long session
update_spelled (act.Close session) = behind 6 long session
update_spelled act.Tick = behind 7 empty tt
update_spelled (act.SetAcl s) = behind 8 set_acl s

unfoldable pub update : Form Update
update = by_tag (number w8) update_at update_spelled
