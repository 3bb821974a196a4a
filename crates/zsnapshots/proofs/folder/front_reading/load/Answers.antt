use Rattle.std.proofs.Common.{ℕ, List, [], ◌∷◌, ◌++◌, map, refl, sym, ap, subst, ◌∙◌}
use Rattle.zwire.proofs.records_lemmas.Texts.{shorter}
use Rattle.zsnapshots.specs.Loading.{LoadingView, NeverRefusesAlone, bytes_loaded}
use Rattle.std.specs.Prelude.{false}
use Rattle.zsnapshots.specs.folder.Texts.{row_record}
use Rattle.zsnapshots.specs.folder.support.Reading.{HasRows, IsRead}
use Rattle.zsnapshots.proofs.folder_lemmas.ReadSoFar.{none_no_row, other_no_row, read_none, read_password, row_more}
use Rattle.zsnapshots.proofs.folder_lemmas.Texts.{row_refused, some_row}
use Rattle.zsnapshots.proofs.folder.front_reading.load.Goals as goal

pub loop-record-init : goal.loop-record-init
loop-record-init c = (
  subst (λ (l : LoadingView). IsRead (map row_record (bytes_loaded l)) false c.args.text.now c.args.text.now)
      (sym c.requires) (read_none c.args.text.now),
  subst (λ (l : LoadingView). HasRows false (bytes_loaded l)) (sym c.requires) refl,
)

pub loop-record-smaller : goal.loop-record-smaller
loop-record-smaller c =
    let read = rw c.in-Some.is at c.in_ok-record.ensures.some in
    shorter c.in-Some.record c.loop-record.rest.now c.in-Some.more.now read.1

pub loop-record-smaller-in-Password : goal.loop-record-smaller-in-Password
loop-record-smaller-in-Password c =
    let read = rw c.in-Some.is at c.in_ok-record.ensures.some in
    shorter c.in-Some.record c.loop-record.rest.now c.in-Some.more.now read.1

pub loop-record-preserved-in-Password : goal.loop-record-preserved-in-Password
loop-record-preserved-in-Password c =
    let so_far = c.loop-record.invariant in
    let read = rw c.in-Some.is at c.in_ok-record.ensures.some in (
      read_password (map row_record (bytes_loaded c.loop-record.loading)) c.loop-record.had_passwords c.args.text.now c.loop-record.rest.now
          so_far.0 c.in-Some.record c.in-Some.more.now read.0 read.1 c.in-Password.field-0 c.in-Password.is,
      so_far.1,
    )

pub loop-record-preserved : goal.loop-record-preserved
loop-record-preserved c =
    let so_far = c.loop-record.invariant in
    let read = rw c.in-Some.is at c.in_ok-record.ensures.some in
    let before = bytes_loaded c.loop-record.loading in
    let more = c.in-Ok.ensures.bytes ∙ ap (λ (row : List ℕ). before ++ row ∷ []) c.as_slice.ensures.bytes in (
      row_more before (bytes_loaded c.take.new.self) c.loop-record.had_passwords c.args.text.now c.loop-record.rest.now so_far.0
          c.in-Some.record c.in-Some.more.now read.0 read.1 c.in-Row.row c.in-Row.is more,
      λ none. some_row before [] c.in-Row.row (sym more ∙ none),
    )

pub returns-in-Err : goal.returns-in-Err
returns-in-Err c =
    let so_far = c.loop-record.invariant in
    let read = rw c.in-Some.is at c.in_ok-record.ensures.some in
    record {
      some = tt;
      none =
          row_refused (bytes_loaded c.loop-record.loading) c.loop-record.had_passwords c.args.text.now c.loop-record.rest.now so_far.0
          c.in-Some.record c.in-Some.more.now read.0 read.1 c.in-Row.row c.in-Row.is c.take.result c.in-Err.fault
          (subst (λ (row : List ℕ). NeverRefusesAlone (bytes_loaded c.loop-record.loading) c.take.result row)
          c.as_slice.ensures.bytes c.take.ensures.only) c.in-Err.is
          c.in_ok-of_the_row-in-Err.ensures;
    }

pub returns-in-Update-clause-some : goal.returns-in-Update-clause-some
returns-in-Update-clause-some c =
    let so_far = c.loop-record.invariant in
    let read = rw c.in-Some.is at c.in_ok-record.ensures.some in
    record {
      read = so_far.0;
      some = so_far.1;
      last = other_no_row c.in-Some.record c.loop-record.rest.now c.in-Some.more.now read.0 read.1 c.in-Update.is;
    }

pub returns-clause-some : goal.returns-clause-some
returns-clause-some c =
    let so_far = c.loop-record.invariant in
    record {
      read = so_far.0;
      some = so_far.1;
      last = none_no_row c.loop-record.rest.now (rw c.in_default.is at c.in_ok-record.ensures.none);
    }
