-- Which text stores which tree.
use Rattle.std.proofs.Common.{◌≡◌, ◌⊎◌, inl, inr, ℕ, ◌+◌, ◌-◌, Bool, true, false, List, [], ◌∷◌, ◌++◌, map, length, length-append, refl, sym, ap, subst, ◌∙◌, arith}
use Rattle.std.specs.Prelude.{◌||◌, Result, Err}
use Rattle.ztree.specs.Tree.{Tree, opening_tree}
use Rattle.zops.specs.Machine.{MachineState, MachineView}
use Rattle.zwire.specs.declared.records.record.Record.{Record}
use Rattle.zwire.specs.declared.records.record.Record.TheVariants.{Row}
use Rattle.zwire.specs.records.Records.{AllFit, Fits, line_of, text_of}
use Rattle.ztree_service.specs.Local.{LocalTreeView}
use Rattle.ztree_service.specs.Machines.{IsBare, machine_of, tree_in}
use Rattle.zsnapshots.specs.declared.fault.RowFault.{RowFault}
use Rattle.zsnapshots.specs.declared.fault.RowFault.TheVariants.{Memory as OfMemory}
use Rattle.zsnapshots.specs.Loading.{NeverRefusesAlone}
use Rattle.zsnapshots.specs.States.{IsReadable, rows_of, spelled}
use Rattle.zsnapshots.proofs.Apart.{rows_apart}
use Rattle.zsnapshots.specs.declared.folder.fault.ReadFault.{ReadFault}
use Rattle.zsnapshots.specs.declared.folder.fault.ReadFault.TheVariants.{Memory, NotRecords}
use Rattle.zsnapshots.specs.folder.Entries.{Entry, IsEntriesText, Says, ReportsPasswords, records_of, without_passwords}
use Rattle.zsnapshots.specs.folder.Faults.{IsReadFault}
use Rattle.zsnapshots.specs.folder.States.{after}
use Rattle.zsnapshots.specs.folder.Texts.{IsFrontOf, IsKeepable, IsNoText, IsTextOf, row_bytes, row_record, row_records}
use Rattle.zsnapshots.specs.folder.support.Reading.{AreApplied, AreOfNoTree, Begins, HasNoRow, HasTree, IsEntriesFault, IsLoaded, IsRead}
use Rattle.zsnapshots.proofs.folder_lemmas.ReadSoFar.{ahead_of, first_is, says_more, reports_both}
use Rattle.zsnapshots.proofs.folder_lemmas.Records.{fit_without, rows_end, rows_more, says_join}

-- all that a text says if it stores a tree
pub record IsWhole (t : Tree) (text : List ℕ) : Type 0 where
  pub start : Tree
  pub rows : List (List ℕ)
  pub entries : List Entry
  pub says : Says (map row_record rows ++ records_of entries) text
  pub begins : ((start ≡ opening_tree) × (rows ≡ [])) ⊎ (IsKeepable start × (rows ≡ row_bytes start))
  pub leaves : t ≡ after start entries

pub whole : (t : Tree) (text : List ℕ) → IsTextOf t text → IsWhole t text
whole t text is = by is.begins
  where
    by : IsFrontOf is.start is.front → IsWhole t text
    by (inl bare) = record {
      start = is.start;
      rows = [];
      entries = is.entries;
      says = subst (Says (records_of is.entries)) (sym (is.split ∙ ap (λ (front : List ℕ). front ++ is.behind) bare.1)) is.are;
      begins = inl (bare.0, refl);
      leaves = is.leaves;
    }
    by (inr snapshot) = record {
      start = is.start;
      rows = row_bytes is.start;
      entries = is.entries;
      says = subst (Says (row_records is.start ++ records_of is.entries)) (sym is.split)
          (says_join (row_records is.start) (records_of is.entries) is.front is.behind snapshot.1 is.are);
      begins = inr (snapshot.0, refl);
      leaves = is.leaves;
    }

-- ---- how a text begins

-- a list with a row in it has rows
pub some_row : (front left : List (List ℕ)) (row : List ℕ) → front ++ row ∷ left ≡ [] → ⊥
some_row [] left row none = cc none
some_row (one ∷ front) left row none = let clash : one ∷ (front ++ row ∷ left) ≡ [] = none in cc clash

module _ (rows : List (List ℕ)) (had : Bool) (text rest : List ℕ) (read : IsRead (map row_record rows) had text rest) where
  -- no row follows: these are all of them, and the rest is of entries
  rows_same : HasNoRow rest → (t : Tree) (w : IsWhole t text) → (rows ≡ w.rows) × IsEntriesText w.entries rest
  rows_same last t w =
      let all = map row_record w.rows ++ records_of w.entries in
      let next = ahead_of (map row_record rows) had text rest read all w.says in
      let both = rows_end rows w.rows (without_passwords next.more) w.entries
      (says_more (map row_record rows) had text rest read all w.says) (last next.more next.fit next.is) in
      (both.0, record { records = next.more; fit = next.fit; is = next.is; said = both.1 })

  -- a row that is refused
  pub row_refused : (r : Record) (more : List ℕ) → Fits r → rest ≡ line_of r ++ more → (row : List ℕ) → r ≡ Row row
      → (result : Result (Unit {0}) RowFault) (fault : RowFault) → NeverRefusesAlone rows result row → result ≡ Err fault → (fault ≡ OfMemory → ⊥)
      → IsNoText text
  row_refused r more fits front row is_row result fault only is_err other t is =
      let w = whole t text is in
      let all = map row_record w.rows ++ records_of w.entries in
      let next = ahead_of (map row_record rows) had text rest read all w.says in
      let first = first_is r rest more next.more fits front next.fit next.is in
      let row_first : next.more ≡ Row row ∷ first.0 = first.1 ∙ ap (λ (x : Record). x ∷ first.0) is_row in
      let same = ap (λ (rs : List Record). map row_record rows ++ without_passwords rs) (sym row_first)
      ∙ says_more (map row_record rows) had text rest read all w.says in
      let left = rows_more rows w.rows row (without_passwords first.0) w.entries same in
      let refused = subst (λ (res : Result (Unit {0}) RowFault). NeverRefusesAlone rows res row) is_err only in
      by w.start w.rows left.0 left.1 refused w.begins
    where
      by : (start : Tree) (all left : List (List ℕ)) → all ≡ rows ++ row ∷ left → NeverRefusesAlone rows (Err fault) row
          → ((start ≡ opening_tree) × (all ≡ [])) ⊎ (IsKeepable start × (all ≡ row_bytes start)) → ⊥
      by start all left are refused (inl bare) = some_row rows left row (sym are ∙ bare.1)
      by start all left are refused (inr kept) =
          other (refused (machine_of start) left kept.0.readable (sym kept.1 ∙ are))

pub begins_bare : (rows : List (List ℕ)) (had : Bool) (text rest : List ℕ) → IsLoaded rows false had text rest → Begins opening_tree false text text
begins_bare rows had text rest loaded = record {
  front = [];
  begins = inl (refl, refl);
  split = refl;
  reported = record { records = []; fit = tt; is = refl; reported = refl };
  only = λ t is.
      let w = whole t text is in
      let none : w.rows ≡ [] = sym (rows_same rows had text rest loaded.read loaded.last t w).0 ∙ loaded.some in (
        w.entries,
        record {
          records = w.says.records;
          fit = w.says.fit;
          is = w.says.is;
          said = w.says.said ∙ ap (λ (rs : List (List ℕ)). map row_record rs ++ records_of w.entries) none;
        },
      );
}

module _ (rows : List (List ℕ)) (had : Bool) (text rest : List ℕ) (loaded : IsLoaded rows true had text rest) where
  pub begins_snapshot : (m : MachineView) → HasTree rows m → Begins (tree_in m) had text rest
  begins_snapshot m tree =
      let read = loaded.read in
      let said : without_passwords read.records ≡ row_records (tree_in m) = read.said ∙ ap (map row_record) (sym tree.are) in
      record {
        front = text_of read.records;
        begins = inr (
          record { readable = tree.readable; fit = subst AllFit said (fit_without read.records read.fit) },
          record { records = read.records; fit = read.fit; is = refl; said = said },
        );
        split = read.split;
        reported = record { records = read.records; fit = read.fit; is = refl; reported = read.reported };
        only = λ t is.
            let w = whole t text is in
            (w.entries, (rows_same rows had text rest read loaded.last t w).1);
      }

  pub no_tree : AreOfNoTree rows → IsNoText text
  no_tree none t is =
      let w = whole t text is in
      by w.start w.rows (rows_same rows had text rest loaded.read loaded.last t w).0 w.begins
    where
      by : (start : Tree) (all : List (List ℕ)) → rows ≡ all
          → ((start ≡ opening_tree) × (all ≡ [])) ⊎ (IsKeepable start × (all ≡ row_bytes start)) → ⊥
      by start all same (inl bare) = loaded.some (same ∙ bare.1)
      by start all same (inr kept) = none start kept.0.readable (sym kept.1 ∙ sym same)

-- ---- the machine of the rows

module _ (rows : List (List ℕ)) (m : MachineView) (readable : IsReadable m.state) (are : map spelled (rows_of m.state) ≡ rows) where
  pub has_tree : m.is_broken ≡ false → IsBare m → HasTree rows m
  has_tree is_whole bare = record {
    whole = is_whole;
    bare = bare;
    readable = subst IsReadable bare readable;
    are = sym (ap (λ (s : MachineState). map spelled (rows_of s)) bare) ∙ are;
  }

  pub not_bare : (IsBare m → ⊥) → AreOfNoTree rows
  not_bare other t also same =
      let one = rows_apart m.state (machine_of t) readable also (are ∙ sym same) in
      other (one ∙ ap (λ (s : MachineState). machine_of s.service.plain) (sym one))

-- ---- what was read

pub read_fault : (start : Tree) (had : Bool) (text rest : List ℕ) → Begins start had text rest → (fault : ReadFault) → IsEntriesFault rest fault
    → IsReadFault text fault
read_fault start had text rest begun NotRecords none = λ t is. let more = begun.only t is in none more.0 more.1
read_fault start had text rest begun Memory none = tt

module _ (old new : LocalTreeView) (text rest : List ℕ) (first second : Bool) (begun : Begins old.tree first text rest)
    (applied : AreApplied rest old new second) where
  pub read_all : (is : IsTextOf new.tree text) × (length text - length rest ≡ length is.front)
  read_all =
      let all : length text ≡ length begun.front + length rest = ap (λ (t : List ℕ). length t) begun.split ∙ length-append begun.front rest in (
        record {
          start = old.tree;
          front = begun.front;
          begins = begun.begins;
          entries = applied.entries;
          behind = rest;
          are = applied.read;
          split = begun.split;
          leaves = ap (λ (v : LocalTreeView). v.tree) applied.view;
        },
        omega (arith, all),
      )

  pub reports : ReportsPasswords text (first || second)
  reports = subst (λ (t : List ℕ). ReportsPasswords t (first || second)) (sym begun.split)
      (reports_both first second begun.front rest begun.reported applied.reported)
