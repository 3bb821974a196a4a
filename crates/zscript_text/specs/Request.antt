-- What a client's command means: the grammar of the script. It is this project's profile. A line of
-- the wrong shape is a `BadLine`. Else the fault names the first bad path or data from the left.
use Rattle.std.specs.Prelude.{◌≡◌, ◌⊎◌, ℕ, List, [], ◌∷◌, codes, nat_eq, Option, None, Some, Result, Ok, Err, if◌then◌else◌}
use Rattle.std.specs.Option.{option_map_or}
use Rattle.std.specs.Str.{bytes_eq}
use Rattle.zpath.specs.Faults.{fault_of, names_of}
use Rattle.zcalls.specs.declared.call.Kind.{Kind}
use Rattle.zcalls.specs.declared.call.Expected.{Expected}
use Rattle.zcalls.specs.declared.call.Part.{Part}
use Rattle.zcalls.specs.declared.call.Part.TheVariants as part
use Rattle.zcalls.specs.declared.call.Update.{Update as Act}
use Rattle.zcalls.specs.declared.call.Update.TheVariants as act
use Rattle.zcalls.specs.declared.call.Query.{Query as Question}
use Rattle.zcalls.specs.declared.call.Query.TheVariants.{GetData, Exists, GetChildren}
use Rattle.zcalls.specs.declared.call.Call.{Call}
use Rattle.zcalls.specs.declared.call.Call.TheVariants.{Update, Query}
use Rattle.ztree.specs.Tree.{Path}
use Rattle.zcalls.specs.declared.limits.TheConstants.{MAX_PARTS}
use Rattle.zscript_text.specs.declared.part_words.PartWords.{PartWords}
use Rattle.zscript_text.specs.declared.part_words.PartWords.TheVariants.{Change as ChangeOf, Check as CheckOf}
use Rattle.zscript_text.specs.declared.part_words.ChangeWords.{ChangeWords}
use Rattle.zscript_text.specs.declared.part_words.ChangeWords.TheVariants as words_for
use Rattle.zcalls.specs.declared.change.Change.{Change}
use Rattle.zcalls.specs.declared.change.Change.TheVariants.{Create, Delete, SetData}
use Rattle.zcalls.specs.Change.{update_of, part_of}
use Rattle.zscript_text.specs.declared.request.Request.{Request}
use Rattle.zscript_text.specs.declared.request.LineFault.{LineFault}
use Rattle.zscript_text.specs.declared.request.LineFault.TheVariants.{BadLine, BadPath, BadData, Memory}
use Rattle.zscript_text.specs.LineWords.{Word, number_of, data_of}
use Rattle.zscript_text.specs.Shape.{change_shape, lone_shape, parts_shape}

-- the result of reading: a value or a fault
abbrev pub Read : Type 0 → Type 0
Read A = Result A LineFault

-- nothing was read: out of memory, or the text has this fault
abbrev pub IsUnread : {A : Type 0} → Read A → LineFault → Type 0
IsUnread read fault = (fault ≡ Memory) ⊎ (read ≡ Err fault)

-- continue with what was read
abbrev pub then_read : {A B : Type 0} → Read A → (A → Read B) → Read B
then_read (Err fault) next = Err fault
then_read (Ok x) next = next x

-- what a word spells; if it spells nothing, the line is a `BadLine`
abbrev pub read_of : {A : Type 0} → Option A → Read A
read_of None = Err BadLine
read_of (Some x) = Ok x

-- the path that a word spells, or its fault
abbrev pub path_in : Word → Read Path
path_in word = option_map_or (λ fault. Err (BadPath fault)) (fault_of word) (Ok (names_of word))

-- the data that a word spells
abbrev pub data_in : Word → Read (List ℕ)
data_in word = option_map_or (λ bytes. Ok bytes) (data_of word) (Err BadData)

-- create PATH KIND DATA; the path is read before the data
abbrev pub create_in : Word → Kind → Word → Read Change
create_in path kind bytes =
    then_read (path_in path) (λ path.
    then_read (data_in bytes) (λ bytes.
    Ok (Create (record { path = path; kind = kind; bytes = bytes }))))

-- delete PATH VERSION
abbrev pub delete_in : Word → Expected → Read Change
delete_in path version =
    then_read (path_in path) (λ path. Ok (Delete (record { path = path; version = version })))

-- set PATH VERSION DATA; the path is read before the data
abbrev pub set_in : Word → Expected → Word → Read Change
set_in path version bytes =
    then_read (path_in path) (λ path.
    then_read (data_in bytes) (λ bytes.
    Ok (SetData (record { path = path; bytes = bytes; version = version }))))

-- a change of one node
abbrev pub change_in : ChangeWords → Read Change
change_in (words_for.Create path kind bytes) = create_in path kind bytes
change_in (words_for.Delete path version) = delete_in path version
change_in (words_for.SetData path version bytes) = set_in path version bytes

-- check PATH VERSION
abbrev pub check_in : Word → Expected → Read Part
check_in path version =
    then_read (path_in path) (λ path. Ok (part.Check (record { path = path; version = version })))

-- a part of a multi
abbrev pub part_in : PartWords → Read Part
part_in (ChangeOf words) = then_read (change_in words) (λ change. Ok (part_of change))
part_in (CheckOf path version) = check_in path version

-- the parts of a multi, read from the left
abbrev pub parts_in : List PartWords → Read (List Part)
parts_in [] = Ok []
parts_in (words ∷ more) =
    then_read (part_in words) (λ part. then_read (parts_in more) (λ parts. Ok (part ∷ parts)))

-- a command that is a single change; a check isn't one
abbrev pub single_in : Word → List Word → Read Call
single_in verb words =
    then_read (read_of (lone_shape (change_shape verb words))) (λ words.
    then_read (change_in words) (λ change.
    Ok (Update (update_of change))))

-- multi PART ; PART ; PART, with 1 to MAX_PARTS parts
abbrev pub multi_in : List Word → Read Call
multi_in words =
    then_read (read_of (parts_shape MAX_PARTS words)) (λ parts.
    then_read (parts_in parts) (λ parts.
    Ok (Update (act.Multi parts))))

-- the PATH of a query
abbrev pub asked_in : List Word → Read Path
asked_in (path ∷ []) = path_in path
asked_in words = Err BadLine

-- a query
abbrev pub query_in : (Path → Question) → List Word → Read Call
query_in query words = then_read (asked_in words) (λ path. Ok (Query (query path)))

-- the NUMBER of a session call: a session id, or a timeout in ticks
abbrev pub number_in : List Word → Read ℕ
number_in (word ∷ []) = read_of (number_of word)
number_in words = Err BadLine

-- open, ping or close NUMBER
abbrev pub session_in : (ℕ → Act) → List Word → Read Call
session_in update words = then_read (number_in words) (λ n. Ok (Update (update n)))

-- the call of a command
abbrev pub call_in : List Word → Read Call
call_in [] = Err BadLine
call_in (verb ∷ words) =
    if bytes_eq verb (codes "get") then query_in GetData words else
    if bytes_eq verb (codes "exists") then query_in Exists words else
    if bytes_eq verb (codes "ls") then query_in GetChildren words else
    if bytes_eq verb (codes "multi") then multi_in words else
    if bytes_eq verb (codes "open") then session_in act.Open words else
    if bytes_eq verb (codes "ping") then session_in act.Ping words else
    if bytes_eq verb (codes "close") then session_in act.Close words else
    single_in verb words

-- tick, without further words
abbrev pub tick_in : List Word → Read Call
tick_in (verb ∷ []) = if bytes_eq verb (codes "tick") then Ok (Update act.Tick) else Err BadLine
tick_in words = Err BadLine

-- The call of a client's command. Client 0 is the clock: it can only `tick`, and no other client
-- can.
abbrev pub command_in : ℕ → List Word → Read Call
command_in client command = if nat_eq client 0 then tick_in command else call_in command

-- a client's command
abbrev pub request_in : ℕ → List Word → Read Request
request_in client command = then_read (command_in client command) (λ call. Ok (record { client = client; call = call }))
