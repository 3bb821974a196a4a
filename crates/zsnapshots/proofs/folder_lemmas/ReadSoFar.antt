-- What was read of a text so far, one record after the other.
use Rattle.std.proofs.Common.{◌≡◌, ◌≢◌, ◌<◌, ℕ, Bool, true, false, List, [], ◌∷◌, ◌++◌, map, length, refl, sym, ap, subst, ◌∙◌, append_assoc, append-nil, arith}
use Rattle.std.proofs.lemmas.List.Concat.{flat_map-cons}
use Rattle.std.specs.Prelude.{◌||◌}
use Rattle.std.proofs.lemmas.List.{map-append}
use Rattle.zwire.specs.declared.records.record.Record.{Record}
use Rattle.zwire.specs.declared.records.record.Record.TheVariants.{Password, Update, Row}
use Rattle.zwire.specs.records.Records.{AllFit, Fits, HasNoRecord, line_of, text_of}
use Rattle.zwire.proofs.records_lemmas.Texts.{fit_more, line_some, one_record, text_more, texts_join}
use Rattle.zcalls.specs.declared.call.Update.{Update as Act}
use Rattle.zsnapshots.specs.folder.Entries.{Entry, IsOfNoEntries, Says, ReportsPasswords, entry_record, has_password, is_password, records_of}
use Rattle.zsnapshots.specs.folder.Entries.{without_passwords}
use Rattle.zsnapshots.specs.folder.Texts.{row_record}
use Rattle.zsnapshots.specs.folder.support.Reading.{BeginNoRow, HasNoRow, IsRead}
use Rattle.zsnapshots.proofs.folder_lemmas.Records.{IsAhead, IsBehindRows, IsOther, ahead, begin_no_row, fit_join, has-append, no_other, other_no_update}
use Rattle.zsnapshots.proofs.folder_lemmas.Records.{other_stays, without-append}

or_false : (a : Bool) → a || false ≡ a
or_false true = refl
or_false false = refl

or_true : (a : Bool) → a || true ≡ true
or_true true = refl
or_true false = refl

pub read_none : (text : List ℕ) → IsRead [] false text text
read_none text = record { records = []; fit = tt; split = refl; said = refl; reported = refl }

module _ (what : List Record) (had : Bool) (text rest : List ℕ) (read : IsRead what had text rest) where
  -- ---- one record more

  module _ (r : Record) (more : List ℕ) (fits : Fits r) (front : rest ≡ line_of r ++ more) where
    split_more : text ≡ text_of (read.records ++ r ∷ []) ++ more
    split_more =
        read.split ∙ ap (λ (t : List ℕ). text_of read.records ++ t) front
        ∙ sym (append_assoc (text_of read.records) (line_of r) more)
        ∙ ap (λ (t : List ℕ). t ++ more) (sym (text_more read.records r))

    read_other : without_passwords (r ∷ []) ≡ r ∷ [] → is_password r ≡ false → IsRead (what ++ r ∷ []) had text more
    read_other stays none =
        let own : has_password (r ∷ []) ≡ false = ap (λ (b : Bool). b || false) none in
        record {
          records = read.records ++ r ∷ [];
          fit = fit_more read.records r read.fit fits;
          split = split_more;
          said = without-append read.records (r ∷ []) ∙ (λ i. read.said i ++ stays i);
          reported =
              read.reported ∙ sym (or_false (has_password read.records)) ∙ ap (λ (b : Bool). has_password read.records || b) (sym own)
              ∙ sym (has-append read.records (r ∷ []));
        }

    pub read_row : (row : List ℕ) → r ≡ Row row → IsRead (what ++ Row row ∷ []) had text more
    read_row row is =
        subst (λ (x : Record). IsRead (what ++ x ∷ []) had text more) is
        (read_other (subst (λ (x : Record). without_passwords (x ∷ []) ≡ x ∷ []) (sym is) refl) (ap is_password is))

    pub read_update : (update : Act) → r ≡ Update update → IsRead (what ++ Update update ∷ []) had text more
    read_update update is =
        subst (λ (x : Record). IsRead (what ++ x ∷ []) had text more) is
        (read_other (subst (λ (x : Record). without_passwords (x ∷ []) ≡ x ∷ []) (sym is) refl) (ap is_password is))

    pub read_password : (password : List ℕ) → r ≡ Password password → IsRead what true text more
    read_password password is =
        let nothing : without_passwords (r ∷ []) ≡ [] = ap (λ (x : Record). without_passwords (x ∷ [])) is in
        let own : has_password (r ∷ []) ≡ true = ap (λ (x : Record). has_password (x ∷ [])) is in
        record {
          records = read.records ++ r ∷ [];
          fit = fit_more read.records r read.fit fits;
          split = split_more;
          said =
              without-append read.records (r ∷ []) ∙ (λ i. read.said i ++ nothing i) ∙ append-nil what;
          reported =
              sym (has-append read.records (r ∷ []) ∙ ap (λ (b : Bool). has_password read.records || b) own
              ∙ or_true (has_password read.records));
        }

  -- ---- what the text can say

  pub ahead_of : (all : List Record) (says : Says all text) → IsAhead read.records says.records rest
  ahead_of all says = ahead read.records says.records rest read.fit says.fit (sym read.split ∙ says.is)

  pub says_more : (all : List Record) (says : Says all text) → what ++ without_passwords (ahead_of all says).more ≡ all
  says_more all says =
      let next = ahead_of all says in
      ap (λ (rs : List Record). rs ++ without_passwords next.more) (sym read.said)
      ∙ sym (without-append read.records next.more) ∙ ap without_passwords (sym next.both) ∙ says.said

  -- where nothing is left, it says this
  pub says_all : rest ≡ [] → Says what text
  says_all none = record {
    records = read.records;
    fit = read.fit;
    is = read.split ∙ ap (λ (t : List ℕ). text_of read.records ++ t) none ∙ append-nil (text_of read.records);
    said = read.said;
  }

  pub reports_all : rest ≡ [] → ReportsPasswords text had
  reports_all none = record {
    records = read.records;
    fit = read.fit;
    is = read.split ∙ ap (λ (t : List ℕ). text_of read.records ++ t) none ∙ append-nil (text_of read.records);
    reported = read.reported;
  }

-- ---- what is in front

-- the records of a text with a record in front
pub first_is : (r : Record) (rest more : List ℕ) (records : List Record) → Fits r → rest ≡ line_of r ++ more → AllFit records
    → rest ≡ text_of records
    → (left : List Record) × (records ≡ r ∷ left)
first_is r rest more [] fits front fit is = absurd (line_some r more (sym front ∙ is))
first_is r rest more (x ∷ left) fits front fit is =
    let one = one_record x r (text_of left) more fit.0 fits (sym (flat_map-cons line_of x left) ∙ sym is ∙ front) in
    (left, ap (λ (y : Record). y ∷ left) one.0)

pub none_no_row : (rest : List ℕ) → HasNoRecord rest → HasNoRow rest
none_no_row rest none [] fit is = tt
none_no_row rest none (x ∷ records) fit is = absurd (none x (text_of records) fit.0 (is ∙ flat_map-cons line_of x records))

pub other_no_row : (r : Record) (rest more : List ℕ) → Fits r → rest ≡ line_of r ++ more → IsBehindRows r → HasNoRow rest
other_no_row r rest more fits front other records fit is =
    let first = first_is r rest more records fits front fit is in
    subst (λ (rs : List Record). BeginNoRow (without_passwords rs)) (sym first.1) (begin_no_row r first.0 other)

-- ---- texts that are of no entries

module _ (so_far : List Entry) (had : Bool) (text rest : List ℕ) (read : IsRead (records_of so_far) had text rest) where
  pub no_entries : rest ≢ [] → HasNoRecord rest → IsOfNoEntries text
  no_entries some none entries says = by (ahead_of (records_of so_far) had text rest read (records_of entries) says).more
      (ahead_of (records_of so_far) had text rest read (records_of entries) says).fit
      (ahead_of (records_of so_far) had text rest read (records_of entries) says).is
    where
      by : (more : List Record) → AllFit more → rest ≡ text_of more → ⊥
      by [] fit is = some is
      by (x ∷ more) fit is = none x (text_of more) fit.0 (is ∙ flat_map-cons line_of x more)

  pub no_entry : (r : Record) (more : List ℕ) → Fits r → rest ≡ line_of r ++ more → IsOther r → IsOfNoEntries text
  no_entry r more fits front other entries says =
      let next = ahead_of (records_of so_far) had text rest read (records_of entries) says in
      let first = first_is r rest more next.more fits front next.fit next.is in
      let same = ap (λ (rs : List Record). records_of so_far ++ rs) (sym (other_stays r first.0 other) ∙ ap without_passwords (sym first.1))
      ∙ says_more (records_of so_far) had text rest read (records_of entries) says in
      no_other so_far entries r (without_passwords first.0) same (other_no_update r other)

  -- one entry more
  pub entry_more : (r : Record) (more : List ℕ) → Fits r → rest ≡ line_of r ++ more → (update : Act) → r ≡ Update update
      → IsRead (records_of (so_far ++ update ∷ [])) had text more
  entry_more r more fits front update is =
      subst (λ (rs : List Record). IsRead rs had text more) (sym (map-append entry_record so_far (update ∷ [])))
      (read_update (records_of so_far) had text rest read r more fits front update is)

-- one row more
pub row_more : (rows after : List (List ℕ)) (had : Bool) (text rest : List ℕ) → IsRead (map row_record rows) had text rest → (r : Record)
    (more : List ℕ)
    → Fits r → rest ≡ line_of r ++ more → (row : List ℕ) → r ≡ Row row → after ≡ rows ++ row ∷ []
    → IsRead (map row_record after) had text more
row_more rows after had text rest read r more fits front row is is_after =
    subst (λ (rs : List Record). IsRead rs had text more) (sym (ap (map row_record) is_after ∙ map-append row_record rows (row ∷ [])))
    (read_row (map row_record rows) had text rest read r more fits front row is)

-- what holds of two parts holds of both together
pub reports_both : (a b : Bool) (x y : List ℕ) → ReportsPasswords x a → ReportsPasswords y b → ReportsPasswords (x ++ y) (a || b)
reports_both a b x y first second = record {
  records = first.records ++ second.records;
  fit = fit_join first.records second.records first.fit second.fit;
  is = (λ i. first.is i ++ second.is i) ∙ sym (texts_join first.records second.records);
  reported = (λ i. first.reported i || second.reported i) ∙ sym (has-append first.records second.records);
}

pub something_left : (rest : List ℕ) → 0 < length rest → rest ≢ []
something_left rest some is = let none = ap (λ (l : List ℕ). length l) is in omega (arith, some, none)
