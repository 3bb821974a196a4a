-- The chunks of a snapshot's text.
use Rattle.std.proofs.Common.{◌≡◌, ℕ, zero, suc, ◌+◌, ◌-◌, ◌<◌, ◌≤◌, List, [], ◌∷◌, ◌++◌, length, length-append, map}
use Rattle.std.proofs.Common.{take, drop, get_or, refl, sym, ap, subst, ◌∙◌, append-nil, arith}
use Rattle.std.proofs.lemmas.List.{drop-drop, drop_all, drop_more, length-drop, length-map, map-append, take-append-drop, take_all, take_more}
use Rattle.std.specs.List.{AllByRecursion}
use Rattle.ztree.specs.Tree.{Tree}
use Rattle.zops.specs.Machine.{MachineState}
use Rattle.std.proofs.lemmas.List.Concat.{flat_map-cons}
use Rattle.zjournal.specs.Blocks.{IsText}
use Rattle.zwire.specs.declared.records.record.Record.{Record}
use Rattle.zwire.specs.declared.records.record.Record.TheVariants.{Row}
use Rattle.zwire.specs.records.Records.{AllFit, Fits as FitsLine, line_of, text_of}
use Rattle.zwire.proofs.records_lemmas.Texts.{are_lines, fit_more, shorter, texts_join}
use Rattle.zsnapshots.specs.States.{Fits, StateRow, WritingView, rows_of, spelled}
use Rattle.zsnapshots.proofs.Places.{At, at_map}
use Rattle.zsnapshots.proofs.WholeStates.{all-push}
use Rattle.zsnapshots.specs.folder.Compaction.{IsAllWritten, IsChunk, CompactionView, text_left}
use Rattle.zsnapshots.specs.folder.Laws.{NothingIsLeft, ChunksAreAll, ChunksJoin}
use Rattle.zsnapshots.specs.folder.Texts.{row_bytes, row_record, row_records}
use Rattle.zsnapshots.specs.folder.support.Writing.{IsRecordWritten, IsCompaction}

-- what is at a position is within, and comes next
module _ {X : Type 0} where
  at_within : (xs : List X) (n : ℕ) (x : X) → At xs n x → n < length xs
  at_within [] n x at = absurd (let none = drop_all n [] (omega arith) in let bad : [] ≡ x ∷ drop (n + 1) [] = sym none ∙ at in cc)
  at_within (y ∷ xs) zero x at = omega arith
  at_within (y ∷ xs) (suc n) x at =
      let next : drop (suc n + 1) (y ∷ xs) ≡ drop (n + 1) xs = ap (λ (k : ℕ). drop k (y ∷ xs)) (let same : suc n + 1
      ≡ suc (n + 1) = omega arith in same) in
      let less = at_within xs n x (at ∙ ap (λ more. x ∷ more) next) in
      omega (arith, less)

  take_next : (xs : List X) (n : ℕ) (x : X) → n < length xs → At xs n x → take (n + 1) xs ≡ take n xs ++ x ∷ []
  take_next xs n x within at =
      let same : get_or xs n x ≡ x = head (get_or xs n x) x (drop (n + 1) xs) (drop (n + 1) xs) (sym (drop_more xs n x within) ∙ at) in
      take_more xs n x within ∙ ap (λ y. take n xs ++ y ∷ []) same
    where
      head : (a b : X) (rest more : List X) → a ∷ rest ≡ b ∷ more → a ≡ b
      head a b rest more is = cc

take_all_of : {X : Type 0} (xs : List X) (n : ℕ) → length xs ≤ n → take n xs ≡ xs
take_all_of xs n all = take_all n xs all

-- that many records were written since the old view, and the bytes are their text
pub record IsSoFar (old now : CompactionView) (text : List ℕ) : Type 0 where
  pub count : ℕ
  pub some : 0 < count
  pub is : text ≡ text_of (take count (drop old.written (row_records old.tree)))
  pub fit : AllFit (take count (drop old.written (row_records old.tree)))
  pub within : old.written + count ≤ length (row_records old.tree)
  pub view : now ≡ record old { written = old.written + count }

-- a record at a position, seen from an earlier position
at_behind : (records : List Record) (first count : ℕ) (r : Record) → drop (first + count) records ≡ r ∷ drop (first + count + 1) records
    → At (drop first records) count r
at_behind records first count r at =
    let next : first + count + 1 ≡ first + (count + 1) = omega arith in
    drop-drop count first records ∙ at ∙ ap (λ (k : ℕ). r ∷ drop k records) next
    ∙ sym (ap (λ (rs : List Record). r ∷ rs) (drop-drop (count + 1) first records))

module _ (old : CompactionView) where
  abbrev left : List Record
  left = drop old.written (row_records old.tree)

  pub so_far_first : (now : CompactionView) (text : List ℕ) → IsRecordWritten old now [] text → IsSoFar old now text
  so_far_first now text written =
      let one : take 1 left ≡ written.r ∷ [] = ap (take 1) written.next in
      record {
        count = 1;
        some = omega arith;
        is = written.bytes ∙ sym (flat_map-cons line_of written.r [] ∙ append-nil (line_of written.r)) ∙ ap text_of (sym one);
        fit = subst AllFit (sym one) (written.fits, tt);
        within = let there = at_within (row_records old.tree) old.written written.r written.next in omega (arith, there);
        view = written.view;
      }

  pub so_far_more : (middle now : CompactionView) (before after : List ℕ) → IsSoFar old middle before
      → IsRecordWritten middle now before after → IsSoFar old now after
  so_far_more middle now before after so_far written =
      let r = written.r in
      let count = so_far.count in
      let at = subst (λ (m : CompactionView). drop m.written (row_records m.tree) ≡ r ∷ drop (m.written + 1) (row_records m.tree))
      so_far.view written.next in
      let here = at_behind (row_records old.tree) old.written count r at in
      let more : take (count + 1) left ≡ take count left ++ r ∷ [] = take_next left count r (at_within left count r here) here in
      let further : old.written + count + 1 ≡ old.written + (count + 1) = omega arith in
      record {
        count = count + 1;
        some = omega arith;
        is =
            written.bytes ∙ ap (λ (t : List ℕ). t ++ line_of r) so_far.is
            ∙ ap (λ (t : List ℕ). text_of (take count left) ++ t) (sym (flat_map-cons line_of r [] ∙ append-nil (line_of r)))
            ∙ sym (texts_join (take count left) (r ∷ [])) ∙ ap text_of (sym more);
        fit = subst AllFit (sym more) (fit_more (take count left) r so_far.fit written.fits);
        within =
            let there = at_within left count r here in
            let long = length-drop old.written (row_records old.tree) in
            omega (arith, there, long);
        view =
            written.view ∙ ap (λ (m : CompactionView). record m { written = m.written + 1 }) so_far.view
            ∙ ap (λ (n : ℕ). record old { written = n }) further;
      }

  pub chunk_is : (now : CompactionView) (text : List ℕ) → IsSoFar old now text → IsChunk old now text
  chunk_is now text so_far = record { count = so_far.count; some = so_far.some; within = so_far.within; text = so_far.is; view = so_far.view }

  pub chunk_text : (now : CompactionView) (text : List ℕ) → IsSoFar old now text → IsText text
  chunk_text now text so_far = subst IsText (sym so_far.is) (are_lines (take so_far.count left) so_far.fit).0

-- ---- one row more

module _ (t : Tree) (w : WritingView) (is : IsCompaction t w) where
  abbrev rows : List StateRow
  rows = rows_of w.state

  bytes_are : map spelled rows ≡ row_bytes t
  bytes_are = ap (λ (m : MachineState). map spelled (rows_of m)) is.is_its

  long : length (row_records t) ≡ length rows
  long = length-map (row_bytes t) row_record ∙ ap (λ (all : List (List ℕ)). length all) (sym bytes_are) ∙ length-map rows spelled

  abbrev view_now : CompactionView
  view_now = record { tree = t; written = w.written }

  module _ (x : StateRow) (next : At rows w.written x) (fits : Fits x) (line : FitsLine (Row (spelled x))) where
    row_at : At (row_records t) w.written (Row (spelled x))
    row_at = at_map row_record (row_bytes t) w.written (spelled x)
        (subst (λ (all : List (List ℕ)). At all w.written (spelled x)) bytes_are (at_map spelled rows w.written x next))

    pub row_written : (w_new : WritingView) (before after : List ℕ) → w_new ≡ record w { written = w.written + 1 }
        → after ≡ before ++ line_of (Row (spelled x))
        → IsRecordWritten view_now (record { tree = t; written = w_new.written }) before after
    row_written w_new before after w_is bytes =
        let count = ap (λ (v : WritingView). v.written) w_is in
        record { r = Row (spelled x); next = row_at; fits = line; bytes = bytes; view = ap (λ (n : ℕ). record { tree = t; written = n }) count }

    pub row_keeps : (w_new : WritingView) → w_new ≡ record w { written = w.written + 1 } → IsCompaction t w_new
    row_keeps w_new w_is = subst (λ (v : WritingView). IsCompaction t v) (sym w_is) (record {
      settled = is.settled;
      is_its = is.is_its;
      few = let within = at_within rows w.written x next in omega (arith, within);
      fit = subst (AllByRecursion Fits) (sym (take_next rows w.written x (at_within rows w.written x next) next))
          (all-push Fits (take w.written rows) x is.fit fits);
      fit_rows =
          let at = at_map spelled rows w.written x next in
          let more = take_next (map spelled rows) w.written (spelled x) (at_within (map spelled rows) w.written (spelled x) at) at in
          subst AllFit (sym (ap (map row_record) more ∙ map-append row_record (take w.written (map spelled rows)) (spelled x ∷ [])))
          (fit_more (map row_record (take w.written (map spelled rows))) (Row (spelled x)) is.fit_rows line);
    })

  -- nothing is left
  pub all_written : length rows ≤ w.written → IsAllWritten view_now
  all_written all =
      let all_rows = take_all_of (map spelled rows) w.written (let same = length-map rows spelled in omega (arith, same, all)) in
      let fit = subst (AllByRecursion Fits) (take_all_of rows w.written all) is.fit in
      record {
        all = omega (arith, long, all);
        keepable = record {
          readable = record {
            settled = is.settled;
            few = omega arith;
            fit = subst (λ (m : MachineState). AllByRecursion Fits (rows_of m)) is.is_its fit;
          };
          fit = subst (λ (bytes : List (List ℕ)). AllFit (map row_record bytes)) (all_rows ∙ bytes_are) is.fit_rows;
        };
      }

-- a record more makes a chunk longer
pub longer : (old now : CompactionView) (before after : List ℕ) → IsRecordWritten old now before after → length before < length after
longer old now before after written =
    let some = shorter written.r (line_of written.r) [] (sym (append-nil (line_of written.r))) in
    let both = length-append before (line_of written.r) in
    let same = ap (λ (t : List ℕ). length t) written.bytes in
    omega (arith, some, both, same)

pub less_left : (old now : CompactionView) (before after : List ℕ) → IsRecordWritten old now before after → length before < 65536
    → 65536 - length after < 65536 - length before
less_left old now before after written room = let more = longer old now before after written in omega (arith, more, room)

-- ---- chunks one after the other

pub chunks_join : ChunksJoin
chunks_join old new chunk is =
    let records = row_records old.tree in
    let all = drop old.written records in
    sym (ap text_of (take-append-drop is.count all))
    ∙ texts_join (take is.count all) (drop is.count all)
    ∙ ap (λ (t : List ℕ). t ++ text_of (drop is.count all)) (sym is.text)
    ∙ ap (λ (rest : List Record). chunk ++ text_of rest) (drop-drop is.count old.written records)
    ∙ ap (λ (v : CompactionView). chunk ++ text_left v) (sym is.view)

pub chunks_are_all : ChunksAreAll
chunks_are_all t = refl

pub nothing_left : NothingIsLeft
nothing_left s is = ap text_of (drop_all s.written (row_records s.tree) is.all)
