-- What rows, ids and buckets mean together, and what the steps of the calls make of them.
use Rattle.std.specs.Prelude.{◌≡◌, ◌<◌, ℕ, ◌%◌, List, [], ◌++◌, Option, Some, None, if◌then◌else◌, nat_eq, nat_le, slice_index_or, slice_set}
use Rattle.std.specs.Option.{option_map, option_map_or, option_and_then}
use Rattle.std.specs.FinMap.{get, insert, len, from_entries}
use Rattle.std.specs.List.{cons_option, filter_map}
use Rattle.std.specs.Map.{lookup}
use Rattle.ztree.specs.Tree.{Sessions}
use Rattle.ztree.specs.declared.session.Session.{Session}
use Rattle.zslots.specs.declared.id.Id.{Id}
use Rattle.zslots.specs.declared.linked.Links.{Links}
use Rattle.zslots.specs.declared.list.List.{List as IdList}
use Rattle.zslots.specs.SlotsView.{Items}
use Rattle.zslots.specs.Links.{with_front, without}
use Rattle.zslots.specs.Ids.{Ids}
use Rattle.zslots.specs.Lists.{IsList, length_of, empty_list, list_with_front, list_without}
use Rattle.zslots.specs.Families.{HasFamilies}
use Rattle.zslots.specs.MapValues.{map_values}
use Rattle.zsessions.specs.declared.row.SessionRow.{SessionRow}

abbrev pub Rows : Type 0
Rows = Items SessionRow

-- the lists by deadlines
abbrev pub Buckets : Type 0
Buckets = List (IdList 0)

-- the Ids by the sessions' ids
abbrev pub IdEntries : Type 0
IdEntries = List (ℕ × Id)

abbrev pub row_links : SessionRow → Links
row_links row = row.links

abbrev pub with_row_links : SessionRow → Links → SessionRow
with_row_links row to = record row { links = to }

-- the session of the row that an Id names, and its id
abbrev pub session_at : Rows → Id → Option Session
session_at rows id = option_map (λ row. row.session) (get rows id)

abbrev pub number_at : Rows → Id → Option ℕ
number_at rows id = option_map (λ row. row.id) (get rows id)

-- the Id under a session's id
abbrev pub id_at : IdEntries → ℕ → Option Id
id_at ids number = lookup (nat_eq number) ids

-- the Id of the row of a session's id, and its session
abbrev pub found_at : IdEntries → Rows → ℕ → Option (Id × Session)
found_at ids rows number =
    option_and_then (λ id. option_map (λ s. (id, s)) (session_at rows id)) (id_at ids number)

-- the sessions by their ids
abbrev pub sessions_of : IdEntries → Rows → Sessions
sessions_of ids rows = map_values (session_at rows) (from_entries ids)

-- the number of the bucket of a deadline
abbrev pub bucket_number : ℕ → ℕ
bucket_number deadline = deadline % 32

-- the list with a number
abbrev pub bucket : Buckets → ℕ → IdList 0
bucket buckets k = slice_index_or buckets k empty_list

-- the number of the bucket that a row is in
abbrev pub number_of : SessionRow → Option ℕ
number_of row = Some (bucket_number row.session.deadline)

-- each row is found by its session's id alone, and is in the bucket of its deadline
pub record IsTable (ids : IdEntries) (rows : Rows) (buckets : Buckets) : Type 0 where
  pub found : (id : Id) (number : ℕ) → number_at rows id ≡ Some number → id_at ids number ≡ Some id
  pub named : (number : ℕ) (id : Id) → id_at ids number ≡ Some id → number_at rows id ≡ Some number
  pub listed : HasFamilies row_links number_of rows (bucket buckets)

-- a row put into the bucket of a deadline
abbrev pub filed_items : Rows → Buckets → ℕ → Id → Rows
filed_items rows buckets deadline id =
    with_front row_links with_row_links rows (bucket buckets (bucket_number deadline)).first id

abbrev pub filed_buckets : Buckets → ℕ → Id → Buckets
filed_buckets buckets deadline id =
    let k = bucket_number deadline in
    slice_set buckets k (list_with_front (bucket buckets k) id)

-- a row taken out of the bucket of its deadline
abbrev pub unfiled_items : Rows → Id → Rows
unfiled_items rows id = without row_links with_row_links rows id

abbrev pub unfiled_buckets : Rows → Buckets → ℕ → Id → Buckets
unfiled_buckets rows buckets deadline id =
    let k = bucket_number deadline in
    slice_set buckets k (list_without row_links rows (bucket buckets k) id)

-- a row with another deadline
abbrev pub with_row_deadline : SessionRow → ℕ → SessionRow
with_row_deadline row deadline = record row { session = record row.session { deadline = deadline } }

-- the rows with one's deadline written, where it is there
abbrev pub with_deadline_at : Rows → Id → ℕ → Rows
with_deadline_at rows id deadline =
    option_map_or (λ row. insert rows id (with_row_deadline row deadline)) (get rows id) rows

-- a row whose deadline is `from` can be given another: its own bucket isn't empty, and that of the other has room
pub record CanMove (rows : Rows) (buckets : Buckets) (from to : ℕ) (id : Id) : Type 0 where
  pub some : 0 < length_of (bucket buckets (bucket_number from))
  pub room : length_of (bucket (unfiled_buckets rows buckets from id) (bucket_number to))
      < len (with_deadline_at (unfiled_items rows id) id to)

-- a row given another deadline, and put into the bucket of that one
abbrev pub moved_items : Rows → Buckets → ℕ → ℕ → Id → Rows
moved_items rows buckets from to id =
    filed_items (with_deadline_at (unfiled_items rows id) id to)
    (unfiled_buckets rows buckets from id) to id

abbrev pub moved_buckets : Rows → Buckets → ℕ → ℕ → Id → Buckets
moved_buckets rows buckets from to id =
    filed_buckets (unfiled_buckets rows buckets from id) to id

-- the id of the session of a row, if a tick reaches its deadline
abbrev pub due_at : Rows → ℕ → Id → Option ℕ
due_at rows tick id =
    option_and_then (λ row. if nat_le row.session.deadline tick then Some row.id else None)
    (get rows id)

-- these are the ids of the sessions of a bucket that a tick reaches, in the bucket's order
abbrev pub AreReached : Rows → IdList 0 → ℕ → List ℕ → Type 0
AreReached rows bucket tick found =
    (ids : Ids) → IsList row_links rows bucket ids → found ≡ filter_map (due_at rows tick) ids

-- the new list is the old one with the value at the end, if there is one
abbrev pub AppendsOption : {A : Type 0} → List A → List A → Option A → Type 0
AppendsOption old new value = new ≡ old ++ cons_option value []
