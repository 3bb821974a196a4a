-- What records say without the passwords among them, and which records a text has.
use Rattle.std.proofs.Common.{◌≡◌, ◌⊎◌, inl, inr, ℕ, Bool, true, false, List, [], ◌∷◌, ◌++◌, map, Option, None, Some}
use Rattle.std.proofs.Common.{refl, sym, ap, subst, ◌∙◌, append_assoc}
use Rattle.std.proofs.lemmas.List.{map-append}
use Rattle.std.proofs.lemmas.List.Concat.{flat_map-cons}
use Rattle.std.specs.Prelude.{◌||◌}
use Rattle.zcalls.specs.declared.call.Update.{Update as Act}
use Rattle.zwire.specs.declared.records.record.Record.{Record}
use Rattle.zwire.specs.declared.records.record.Record.TheVariants.{Password, Update, Fail, Join, Retire, Row}
use Rattle.zwire.specs.records.Records.{AllFit, line_of, text_of}
use Rattle.zwire.proofs.records_lemmas.Texts.{line_some, one_record, texts_apart, texts_join}
use Rattle.zsnapshots.specs.folder.Entries.{AreEntries, Entry, IsEntriesText, Says, behind, entries_of, has_password, is_password, records_of}
use Rattle.zsnapshots.specs.folder.Entries.{entry_record, without_passwords}
use Rattle.zsnapshots.specs.folder.Laws.{EntriesAreTheirs, EntriesComeBack, EntriesAreDistinct, RecordsComeBack}
use Rattle.zsnapshots.specs.folder.Texts.{row_record}
use Rattle.zsnapshots.specs.folder.support.Reading.{BeginNoRow}

-- ---- passwords

pub without-append : (a b : List Record) → without_passwords (a ++ b) ≡ without_passwords a ++ without_passwords b
without-append [] b = refl
without-append (Password password ∷ a) b = without-append a b
without-append (r ∷ a) b = ap (λ (rs : List Record). r ∷ rs) (without-append a b)

or_assoc : (a b c : Bool) → a || (b || c) ≡ (a || b) || c
or_assoc true b c = refl
or_assoc false b c = refl

pub has-append : (a b : List Record) → has_password (a ++ b) ≡ has_password a || has_password b
has-append [] b = refl
has-append (r ∷ a) b =
    ap (λ (has : Bool). is_password r || has) (has-append a b) ∙ or_assoc (is_password r) (has_password a) (has_password b)

pub without-entries : (entries : List Entry) → without_passwords (records_of entries) ≡ records_of entries
without-entries [] = refl
without-entries (entry ∷ entries) = ap (λ (rs : List Record). Update entry ∷ rs) (without-entries entries)

pub without-rows : (rows : List (List ℕ)) → without_passwords (map row_record rows) ≡ map row_record rows
without-rows [] = refl
without-rows (row ∷ rows) = ap (λ (rs : List Record). Row row ∷ rs) (without-rows rows)

-- ---- limits

pub fit_join : (a b : List Record) → AllFit a → AllFit b → AllFit (a ++ b)
fit_join [] b first second = second
fit_join (r ∷ a) b first second = (first.0, fit_join a b first.1 second)

pub fit_without : (records : List Record) → AllFit records → AllFit (without_passwords records)
fit_without [] fit = tt
fit_without (Password password ∷ records) fit = fit_without records fit.1
fit_without (r ∷ records) fit = (fit.0, fit_without records fit.1)

pub all_fit : (entries : List Entry) → AreEntries entries → AllFit (records_of entries)
all_fit [] are = tt
all_fit (entry ∷ entries) are = (are.0, all_fit entries are.1)

-- ---- texts

pub says_join : (a b : List Record) (x y : List ℕ) → Says a x → Says b y → Says (a ++ b) (x ++ y)
says_join a b x y first second = record {
  records = first.records ++ second.records;
  fit = fit_join first.records second.records first.fit second.fit;
  is = (λ i. first.is i ++ second.is i) ∙ sym (texts_join first.records second.records);
  said = without-append first.records second.records ∙ (λ i. first.said i ++ second.said i);
}

-- a text says one thing
pub says_apart : (a b : List Record) (text : List ℕ) → Says a text → Says b text → a ≡ b
says_apart a b text first second =
    let same = texts_apart first.records second.records first.fit second.fit (sym first.is ∙ second.is) in
    sym first.said ∙ ap without_passwords same ∙ second.said

pub entries_are_theirs : EntriesAreTheirs
entries_are_theirs entries are = record { records = records_of entries; fit = all_fit entries are; is = refl; said = without-entries entries }

pub entries_both : (a b : List Entry) (x y : List ℕ) → IsEntriesText a x → IsEntriesText b y → IsEntriesText (a ++ b) (x ++ y)
entries_both a b x y first second =
    subst (λ (rs : List Record). Says rs (x ++ y)) (sym (map-append entry_record a b)) (says_join (records_of a) (records_of b) x y first second)

-- ---- what follows records that were read

-- all records are those that were read, and more: the rest is the text of these
pub record IsAhead (before all : List Record) (rest : List ℕ) : Type 0 where
  pub more : List Record
  pub fit : AllFit more
  pub both : all ≡ before ++ more
  pub is : rest ≡ text_of more

front-cons : (r : Record) (before : List Record) (rest : List ℕ) → text_of (r ∷ before) ++ rest ≡ line_of r ++ (text_of before ++ rest)
front-cons r before rest =
    ap (λ (t : List ℕ). t ++ rest) (flat_map-cons line_of r before) ∙ append_assoc (line_of r) (text_of before) rest

pub ahead : (before all : List Record) (rest : List ℕ) → AllFit before → AllFit all → text_of before ++ rest ≡ text_of all → IsAhead before all rest
ahead [] all rest fit also same = record { more = all; fit = also; both = refl; is = same }
ahead (r ∷ before) [] rest fit also same = absurd (line_some r (text_of before ++ rest) (sym (front-cons r before rest) ∙ same))
ahead (r ∷ before) (x ∷ all) rest fit also same =
    let one = one_record r x (text_of before ++ rest) (text_of all) fit.0 also.0 (sym (front-cons r before rest) ∙ same
    ∙ flat_map-cons line_of x all) in
    let next = ahead before all rest fit.1 also.1 one.1 in
    record { more = next.more; fit = next.fit; both = (λ i. sym one.0 i ∷ next.both i); is = next.is }

-- ---- rows, and entries after them

rows_no_entries : (row : List ℕ) (x : List Record) (entries : List Entry) → Row row ∷ x ≡ records_of entries → ⊥
rows_no_entries row x [] same = cc same
rows_no_entries row x (entry ∷ entries) same =
    let both : Row row ∷ x ≡ Update entry ∷ records_of entries = same in
    let clash : Row row ≡ Update entry = cc both in
    cc clash

-- where no row follows, these are all of them
pub rows_end : (a b : List (List ℕ)) (x : List Record) (entries : List Entry) → map row_record a ++ x ≡ map row_record b ++ records_of entries
    → BeginNoRow x → (a ≡ b) × (x ≡ records_of entries)
rows_end [] [] x entries same none = (refl, same)
rows_end [] (first ∷ b) x entries same none = absurd (subst BeginNoRow same none)
rows_end (row ∷ a) [] x entries same none = absurd (rows_no_entries row (map row_record a ++ x) entries same)
rows_end (row ∷ a) (first ∷ b) x entries same none =
    let both : Row row ∷ (map row_record a ++ x) ≡ Row first ∷ (map row_record b ++ records_of entries) = same in
    let head : Row row ≡ Row first = cc both in
    let bytes : row ≡ first = cc head in
    let rest = rows_end a b x entries (cc both) none in
    ((λ i. bytes i ∷ rest.0 i), rest.1)

-- where a row follows, it is the next one
pub rows_more : (a b : List (List ℕ)) (row : List ℕ) (x : List Record) (entries : List Entry)
    → map row_record a ++ Row row ∷ x ≡ map row_record b ++ records_of entries → (left : List (List ℕ)) × (b ≡ a ++ row ∷ left)
rows_more [] [] row x entries same = absurd (rows_no_entries row x entries same)
rows_more [] (first ∷ b) row x entries same =
    let both : Row row ∷ x ≡ Row first ∷ (map row_record b ++ records_of entries) = same in
    let head : Row row ≡ Row first = cc both in
    let bytes : row ≡ first = cc head in
    (b, ap (λ (r : List ℕ). r ∷ b) (sym bytes))
rows_more (one ∷ a) [] row x entries same = absurd (rows_no_entries one (map row_record a ++ Row row ∷ x) entries same)
rows_more (one ∷ a) (first ∷ b) row x entries same =
    let both : Row one ∷ (map row_record a ++ Row row ∷ x) ≡ Row first ∷ (map row_record b ++ records_of entries) = same in
    let head : Row one ≡ Row first = cc both in
    let bytes : one ≡ first = cc head in
    let rest = rows_more a b row x entries (cc both) in
    (rest.0, (λ i. sym bytes i ∷ rest.1 i))

-- ---- entries

pub entries_same : (a b : List Entry) → records_of a ≡ records_of b → a ≡ b
entries_same [] [] same = refl
entries_same [] (e ∷ b) same = absurd (let clash : [] ≡ Update e ∷ records_of b = same in cc clash)
entries_same (d ∷ a) [] same = absurd (let clash : Update d ∷ records_of a ≡ [] = same in cc clash)
entries_same (d ∷ a) (e ∷ b) same =
    let both : Update d ∷ records_of a ≡ Update e ∷ records_of b = same in
    let head : Update d ≡ Update e = cc both in
    let first : d ≡ e = cc head in
    let rest = entries_same a b (cc both) in
    (λ i. first i ∷ rest i)

-- a record that is no entry isn't among the records of entries
pub no_other : (a b : List Entry) (r : Record) (x : List Record) → records_of a ++ r ∷ x ≡ records_of b → ((update : Act) → r ≡ Update update → ⊥) → ⊥
no_other [] [] r x same none = let clash : r ∷ x ≡ [] = same in cc clash
no_other [] (e ∷ b) r x same none = let both : r ∷ x ≡ Update e ∷ records_of b = same in none e (cc both)
no_other (d ∷ a) [] r x same none = let clash : Update d ∷ (records_of a ++ r ∷ x) ≡ [] = same in cc clash
no_other (d ∷ a) (e ∷ b) r x same none =
    let both : Update d ∷ (records_of a ++ r ∷ x) ≡ Update e ∷ records_of b = same in
    no_other a b r x (cc both) none

pub entries_are_distinct : EntriesAreDistinct
entries_are_distinct text a b first second = entries_same a b (says_apart (records_of a) (records_of b) text first second)

pub entries_come_back : EntriesComeBack
entries_come_back [] = refl
entries_come_back (entry ∷ entries) = ap (behind entry) (entries_come_back entries)

-- what follows a first entry
behind_some : (entry : Entry) (more : Option (List Entry)) (entries : List Entry) → behind entry more ≡ Some entries
    → (rest : List Entry) × (more ≡ Some rest) × (entries ≡ entry ∷ rest)
behind_some entry None entries is = absurd (cc is)
behind_some entry (Some rest) entries is = let same : entry ∷ rest ≡ entries = cc is in (rest, refl, sym same)

pub records_come_back : RecordsComeBack
records_come_back [] entries is =
    let none : [] ≡ entries = cc is in
    ap records_of (sym none)
records_come_back (Password password ∷ records) entries is = records_come_back records entries is
records_come_back (Update update ∷ records) entries is =
    let rest = behind_some update (entries_of records) entries is in
    ap records_of rest.2 ∙ ap (λ (rs : List Record). Update update ∷ rs) (records_come_back records rest.0 rest.1)
records_come_back (r ∷ records) entries is = absurd (cc is)

-- ---- records of other kinds

-- a record that is no password and no row
abbrev pub IsBehindRows : Record → Type 0
IsBehindRows r = ((update : Act) × (r ≡ Update update)) ⊎ (((id : ℕ) × (r ≡ Fail id)) ⊎ (((id : ℕ) × (r ≡ Join id)) ⊎ ((id : ℕ) × (r ≡ Retire id))))

pub begin_no_row : (r : Record) (records : List Record) → IsBehindRows r → BeginNoRow (without_passwords (r ∷ records))
begin_no_row r records (inl (update, is)) = subst (λ (x : Record). BeginNoRow (without_passwords (x ∷ records))) (sym is) tt
begin_no_row r records (inr (inl (id, is))) = subst (λ (x : Record). BeginNoRow (without_passwords (x ∷ records))) (sym is) tt
begin_no_row r records (inr (inr (inl (id, is)))) = subst (λ (x : Record). BeginNoRow (without_passwords (x ∷ records))) (sym is) tt
begin_no_row r records (inr (inr (inr (id, is)))) = subst (λ (x : Record). BeginNoRow (without_passwords (x ∷ records))) (sym is) tt

-- a record that is no password and no entry
abbrev pub IsOther : Record → Type 0
IsOther r = ((id : ℕ) × (r ≡ Fail id)) ⊎ (((id : ℕ) × (r ≡ Join id)) ⊎ (((id : ℕ) × (r ≡ Retire id)) ⊎ ((bytes : List ℕ) × (r ≡ Row bytes))))

abbrev Stays : List Record → Record → Type 0
Stays records r = without_passwords (r ∷ records) ≡ r ∷ without_passwords records

pub other_stays : (r : Record) (records : List Record) → IsOther r → without_passwords (r ∷ records) ≡ r ∷ without_passwords records
other_stays r records (inl (id, is)) = subst (Stays records) (sym is) refl
other_stays r records (inr (inl (id, is))) = subst (Stays records) (sym is) refl
other_stays r records (inr (inr (inl (id, is)))) = subst (Stays records) (sym is) refl
other_stays r records (inr (inr (inr (bytes, is)))) = subst (Stays records) (sym is) refl

pub other_no_update : (r : Record) → IsOther r → (update : Act) → r ≡ Update update → ⊥
other_no_update r (inl (id, is)) update same = let clash : Fail id ≡ Update update = sym is ∙ same in cc clash
other_no_update r (inr (inl (id, is))) update same = let clash : Join id ≡ Update update = sym is ∙ same in cc clash
other_no_update r (inr (inr (inl (id, is)))) update same = let clash : Retire id ≡ Update update = sym is ∙ same in cc clash
other_no_update r (inr (inr (inr (bytes, is)))) update same = let clash : Row bytes ≡ Update update = sym is ∙ same in cc clash
