-- An entry of a data folder: an update, which is client 0's. It is a record of a log. A log that is
-- read may have passwords of sessions among its records, which have no effect. This is the
-- project's profile.
use Rattle.std.specs.Prelude.{◌≡◌, ℕ, List, [], ◌∷◌, Bool, true, false, ◌||◌, Option, None, Some, map}
use Rattle.std.specs.List.{AllByRecursion}
use Rattle.std.specs.Option.{option_map}
use Rattle.zcalls.specs.declared.call.Call.{Call}
use Rattle.zcalls.specs.declared.call.Call.TheVariants as call
use Rattle.zcalls.specs.declared.call.Update.{Update}
use Rattle.zwire.specs.declared.records.record.Record.{Record}
use Rattle.zwire.specs.declared.records.record.Record.TheVariants as record_is
use Rattle.zwire.specs.records.Records.{Fits, AllFit, line_of, text_of}

abbrev pub Entry : Type 0
Entry = Update

-- the calls of entries
abbrev pub calls_again : List Entry → List Call
calls_again entries = map (λ (entry : Entry). call.Update entry) entries

-- ---- records

abbrev pub entry_record : Entry → Record
entry_record entry = record_is.Update entry

abbrev pub records_of : List Entry → List Record
records_of entries = map entry_record entries

-- the records without the passwords among them
abbrev pub without_passwords : List Record → List Record
without_passwords [] = []
without_passwords (record_is.Password password ∷ records) = without_passwords records
without_passwords (r ∷ records) = r ∷ without_passwords records

abbrev pub is_password : Record → Bool
is_password (record_is.Password password) = true
is_password r = false

abbrev pub has_password : List Record → Bool
has_password [] = false
has_password (r ∷ records) = is_password r || has_password records

-- one more entry in front, if there are any entries
abbrev pub behind : Entry → Option (List Entry) → Option (List Entry)
behind entry entries = option_map (λ more. entry ∷ more) entries

-- the entries of records. If an order of the chain's operator or a row of a snapshot is among them,
-- there are none. A password has no effect
abbrev pub entries_of : List Record → Option (List Entry)
entries_of [] = Some []
entries_of (record_is.Password password ∷ records) = entries_of records
entries_of (record_is.Update update ∷ records) = behind update (entries_of records)
entries_of records = None

-- ---- text

-- its record has the limits of its type
abbrev pub IsEntry : Entry → Type 0
IsEntry entry = Fits (entry_record entry)

abbrev pub AreEntries : List Entry → Type 0
AreEntries = AllByRecursion IsEntry

abbrev pub entry_text : Entry → List ℕ
entry_text entry = line_of (entry_record entry)

abbrev pub entries_text : List Entry → List ℕ
entries_text entries = text_of (records_of entries)

-- the text is that of records which, without the passwords among them, are these
pub record Says (what : List Record) (text : List ℕ) : Type 0 where
  pub records : List Record
  pub fit : AllFit records
  pub is : text ≡ text_of records
  pub said : without_passwords records ≡ what

-- the text is that of records, and the flag says whether a password is among them
pub record ReportsPasswords (text : List ℕ) (has : Bool) : Type 0 where
  pub records : List Record
  pub fit : AllFit records
  pub is : text ≡ text_of records
  pub reported : has ≡ has_password records

-- the text is that of these entries
abbrev pub IsEntriesText : List Entry → List ℕ → Type 0
IsEntriesText entries text = Says (records_of entries) text

-- the text isn't that of any entries
abbrev pub IsOfNoEntries : List ℕ → Type 0
IsOfNoEntries text = (entries : List Entry) → IsEntriesText entries text → ⊥
