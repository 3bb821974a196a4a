-- A text stores one tree, and what is written is read back.
use Rattle.std.proofs.Common.{◌≡◌, ◌⊎◌, inl, inr, ℕ, List, [], ◌∷◌, ◌++◌, map, refl, sym, ap, ◌∙◌, append_assoc, append-nil}
use Rattle.ztree.specs.Tree.{Tree, opening_tree}
use Rattle.zops.specs.Machine.{MachineState}
use Rattle.ztree_service.specs.Machines.{machine_of}
use Rattle.zsnapshots.proofs.Apart.{rows_apart}
use Rattle.zsnapshots.specs.folder.Entries.{Entry, entries_text, records_of}
use Rattle.zsnapshots.specs.folder.States.{after}
use Rattle.zsnapshots.specs.folder.Texts.{IsKeepable, row_bytes, row_record, snapshot_text}
use Rattle.zsnapshots.specs.folder.support.Reading.{BeginNoRow}
use Rattle.zsnapshots.specs.folder.Laws.{NothingIsTheOpening, SnapshotsKeepTheirs, TextsGoOn, TextsAreDistinct}
use Rattle.zsnapshots.proofs.folder_lemmas.Records.{entries_are_theirs, entries_both, entries_same, rows_end, says_apart, without-rows}
use Rattle.zsnapshots.proofs.folder_lemmas.States.{go_on}
use Rattle.zsnapshots.proofs.folder_lemmas.Texts.{IsWhole, whole}

entries_no_row : (entries : List Entry) → BeginNoRow (records_of entries)
entries_no_row [] = tt
entries_no_row (entry ∷ entries) = tt

-- the tree with which a text begins
abbrev HasRowsOf : Tree → List (List ℕ) → Type 0
HasRowsOf start rows = ((start ≡ opening_tree) × (rows ≡ [])) ⊎ (IsKeepable start × (rows ≡ row_bytes start))

some_rows : (t : Tree) → row_bytes t ≡ [] → ⊥
some_rows t none = cc none

same_start : (s w : Tree) (rows more : List (List ℕ)) → HasRowsOf s rows → HasRowsOf w more → rows ≡ more → s ≡ w
same_start s w rows more (inl bare) (inl too) same = bare.0 ∙ sym too.0
same_start s w rows more (inl bare) (inr kept) same = absurd (some_rows w (sym kept.1 ∙ sym same ∙ bare.1))
same_start s w rows more (inr kept) (inl bare) same = absurd (some_rows s (sym kept.1 ∙ same ∙ bare.1))
same_start s w rows more (inr one) (inr two) same =
    ap (λ (m : MachineState). m.service.plain)
    (rows_apart (machine_of s) (machine_of w) one.0.readable two.0.readable (sym one.1 ∙ same ∙ two.1))

both_whole : (text : List ℕ) (a b : Tree) → IsWhole a text → IsWhole b text → a ≡ b
both_whole text a b one two =
    let says = says_apart (map row_record one.rows ++ records_of one.entries) (map row_record two.rows ++ records_of two.entries) text
    one.says two.says in
    let both = rows_end one.rows two.rows (records_of one.entries) two.entries says (entries_no_row one.entries) in
    let start = same_start one.start two.start one.rows two.rows one.begins two.begins both.0 in
    let entries = entries_same one.entries two.entries both.1 in
    one.leaves ∙ (λ i. after (start i) (entries i)) ∙ sym two.leaves

pub are_distinct : TextsAreDistinct
are_distinct text a b is also = both_whole text a b (whole a text is) (whole b text also)

pub nothing_is : NothingIsTheOpening
nothing_is = record {
  start = opening_tree;
  front = [];
  begins = inl (refl, refl);
  entries = [];
  behind = [];
  are = entries_are_theirs [] tt;
  split = refl;
  leaves = refl;
}

pub snapshots_keep : SnapshotsKeepTheirs
snapshots_keep t keepable = record {
  start = t;
  front = snapshot_text t;
  begins = inr (
    keepable,
    record { records = map row_record (row_bytes t); fit = keepable.fit; is = refl; said = without-rows (row_bytes t) },
  );
  entries = [];
  behind = [];
  are = entries_are_theirs [] tt;
  split = sym (append-nil (snapshot_text t));
  leaves = refl;
}

pub texts_go_on : TextsGoOn
texts_go_on t text entries is are = record {
  start = is.start;
  front = is.front;
  begins = is.begins;
  entries = is.entries ++ entries;
  behind = is.behind ++ entries_text entries;
  are = entries_both is.entries entries is.behind (entries_text entries) is.are (entries_are_theirs entries are);
  split = ap (λ (whole : List ℕ). whole ++ entries_text entries) is.split ∙ append_assoc is.front is.behind (entries_text entries);
  leaves = ap (λ (v : Tree). after v entries) is.leaves ∙ sym (go_on is.start is.entries entries);
}
