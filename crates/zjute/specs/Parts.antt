-- The parts of a multi and of a multiRead. Each is after a `MultiHeader` with its kind, and a last
-- header ends them (`MultiTransactionRecord`).
use Rattle.std.specs.Prelude.{◌≡◌, ℤ, pos, ℕ, List, [], ◌∷◌, Bool, true, false, Option, Some, None, Result, Ok, Err, if◌then◌else◌}
use Rattle.std.specs.Ordering.{int_eq}
use Rattle.zcodec.specs.declared.fault.Fault.{Fault}
use Rattle.zcodec.specs.declared.fault.Fault.TheVariants.{Invalid}
use Rattle.zcodec.specs.Forms.{Form, both, made, ◌>>=◌}
use Rattle.zcodec.specs.Choices.{flag}
use Rattle.zjute.specs.declared.part.PartRequest.{PartRequest}
use Rattle.zjute.specs.declared.part.PartRequest.TheVariants as part
use Rattle.zjute.specs.declared.part.LookPart.{LookPart}
use Rattle.zjute.specs.declared.part.LookPart.TheVariants as look_part
use Rattle.zjute.specs.declared.part_kind.PartKind.{PartKind}
use Rattle.zjute.specs.declared.part_kind.PartKind.TheVariants as kind
use Rattle.zjute.specs.declared.part_kind.LookKind.{LookKind}
use Rattle.zjute.specs.declared.part_kind.LookKind.TheVariants as look_kind
use Rattle.zjute.specs.Jute.{neg, int}
use Rattle.zjute.specs.Shapes.{Spelled, behind, read_as, by_tag, or_invalid, until_end, with_number}
use Rattle.zjute.specs.Requests.{create, create_ttl, at_version, look, set_data}

-- ---- headers

-- `MultiHeader`: the number of the kind, whether it is the end, and an error code
abbrev pub Header : Type 0
Header = ℤ × (Bool × ℤ)

abbrev pub header_fields : Form Header
header_fields = both int (both flag int)

-- the last header
abbrev pub end_header : Header
end_header = (neg 1, (true, neg 1))

-- the header before a part in a request; its code is -1
abbrev pub header_of : {K : Type 0} → (K → ℤ) → Option K → Header
header_of number None = end_header
header_of number (Some kind) = (number kind, (false, neg 1))

-- the kind of a part, or none at the end
abbrev pub kind_at : {K : Type 0} → (ℤ → Option K) → ℤ → Bool → Result (Option K) Fault
kind_at of n true = if int_eq n (neg 1) then Ok None else Err Invalid
kind_at of n false = or_invalid (of n) >>= λ kind. Ok (Some kind)

abbrev pub header_kind : {K : Type 0} → (ℤ → Option K) → Header → Result (Option K) Fault
header_kind of h = if int_eq h.1.1 (neg 1) then kind_at of h.0 h.1.0 else Err Invalid

-- the kind is found by its number
abbrev pub FitsKind : {K : Type 0} → (K → ℤ) → (ℤ → Option K) → Option K → Type 0
FitsKind number of None = Unit {0}
FitsKind number of (Some kind) = int.Fits (number kind) × (of (number kind) ≡ Some kind)

abbrev pub header : {K : Type 0} → (K → ℤ) → (ℤ → Option K) → Form (Option K)
header number of = made header_fields (header_of number) (header_kind of) (FitsKind number of)

-- ---- after a header

-- the contents after the header of a part; nothing after the last header
abbrev pub or_end : {K A : Type 0} → (K → List ℕ → Result (A × List ℕ) Fault) → Option K → List ℕ →
    Result (Option A × List ℕ) Fault
or_end at None bytes = Ok (None, bytes)
or_end at (Some kind) bytes = at kind bytes >>= λ x. Ok (Some x.0, x.1)

abbrev pub end_or : {K A : Type 0} → (A → Spelled K) → Option A → Spelled (Option K)
end_or spelled None = record { tag = None; text = []; fits = Unit {0} }
end_or spelled (Some x) = record { tag = Some (spelled x).tag; text = (spelled x).text; fits = (spelled x).fits }

-- ---- the parts of a multi

abbrev pub part_number : PartKind → ℤ
part_number kind.Create = pos 1
part_number kind.Delete = pos 2
part_number kind.SetData = pos 5
part_number kind.Check = pos 13
part_number kind.Create2 = pos 15
part_number kind.CreateContainer = pos 19
part_number kind.CreateTtl = pos 21

abbrev pub part_kinds : List PartKind
part_kinds =
    kind.Create ∷ kind.Delete ∷ kind.SetData ∷ kind.Check ∷ kind.Create2 ∷
    kind.CreateContainer ∷ kind.CreateTtl ∷ []

abbrev pub part_kind_of : ℤ → Option PartKind
part_kind_of = with_number part_number part_kinds

-- the contents after the header of each kind
abbrev pub part_at : PartKind → List ℕ → Result (PartRequest × List ℕ) Fault
part_at kind.Create = read_as create (λ x. part.Create x)
part_at kind.Delete = read_as at_version (λ x. part.Delete x)
part_at kind.SetData = read_as set_data (λ x. part.SetData x)
part_at kind.Check = read_as at_version (λ x. part.Check x)
part_at kind.Create2 = read_as create (λ x. part.Create2 x)
part_at kind.CreateContainer = read_as create (λ x. part.CreateContainer x)
part_at kind.CreateTtl = read_as create_ttl (λ x. part.CreateTtl x)

abbrev pub part_spelled : PartRequest → Spelled PartKind
part_spelled (part.Create x) = behind kind.Create create x
part_spelled (part.Delete x) = behind kind.Delete at_version x
part_spelled (part.SetData x) = behind kind.SetData set_data x
part_spelled (part.Check x) = behind kind.Check at_version x
part_spelled (part.Create2 x) = behind kind.Create2 create x
part_spelled (part.CreateContainer x) = behind kind.CreateContainer create x
part_spelled (part.CreateTtl x) = behind kind.CreateTtl create_ttl x

unfoldable pub part_header : Form (Option PartKind)
part_header = header part_number part_kind_of

-- a part, or the end
unfoldable pub part_or_end : Form (Option PartRequest)
part_or_end = by_tag part_header (or_end part_at) (end_or part_spelled)

-- `MultiTransactionRecord`
unfoldable pub parts : Form (List PartRequest)
parts = until_end part_or_end

-- ---- the parts of a multiRead

abbrev pub look_number : LookKind → ℤ
look_number look_kind.GetData = pos 4
look_number look_kind.GetChildren = pos 8

abbrev pub look_kinds : List LookKind
look_kinds = look_kind.GetData ∷ look_kind.GetChildren ∷ []

abbrev pub look_kind_of : ℤ → Option LookKind
look_kind_of = with_number look_number look_kinds

abbrev pub look_at : LookKind → List ℕ → Result (LookPart × List ℕ) Fault
look_at look_kind.GetData = read_as look (λ x. look_part.GetData x)
look_at look_kind.GetChildren = read_as look (λ x. look_part.GetChildren x)

abbrev pub look_spelled : LookPart → Spelled LookKind
look_spelled (look_part.GetData x) = behind look_kind.GetData look x
look_spelled (look_part.GetChildren x) = behind look_kind.GetChildren look x

unfoldable pub look_header : Form (Option LookKind)
look_header = header look_number look_kind_of

-- a part, or the end
unfoldable pub look_or_end : Form (Option LookPart)
look_or_end = by_tag look_header (or_end look_at) (end_or look_spelled)

-- `MultiTransactionRecord` with reads alone
unfoldable pub looks : Form (List LookPart)
looks = until_end look_or_end
