use Rattle.std.proofs.Common.{◌≡◌, ◌<◌, ◌++◌, ◌∷◌, [], length, ap, ◌∙◌, arith}
use Rattle.std.proofs.lemmas.Bool.Decides.{nat_tests}
use Rattle.std.proofs.lemmas.List.{nil_from_length}
use Rattle.zwire.proofs.records_lemmas.Texts.{shorter}
use Rattle.ztree_service.specs.Local.{LocalTreeView}
use Rattle.zsnapshots.specs.folder.Entries.{records_of}
use Rattle.zsnapshots.specs.folder.States.{after, after_entry}
use Rattle.zsnapshots.proofs.folder_lemmas.ReadSoFar.{entry_more, no_entries, no_entry, read_none, read_password, says_all, something_left, reports_all}
use Rattle.zsnapshots.proofs.folder_lemmas.States.{after_more, entry_acts}
use Rattle.zsnapshots.proofs.folder.reading.apply_all.Goals as goal

pub loop-rest-init : goal.loop-rest-init
loop-rest-init c = ([], read_none c.args.text.now, (λ i. record { tree = c.args.tree.now.tree; is_broken = c.requires.whole i }))

pub returns-in_default-clause-fault : goal.returns-in_default-clause-fault
returns-in_default-clause-fault c =
    let so_far = c.loop-rest.invariant in
    let some : 0 < length c.loop-rest.rest.now = grind (arith, nat_tests) in
    no_entries so_far.0 c.loop-rest.had_passwords c.args.text.now c.loop-rest.rest.now so_far.1
    (something_left c.loop-rest.rest.now some) (rw c.in_default.is at c.in_ok-record.ensures.none)

pub loop-rest-smaller : goal.loop-rest-smaller
loop-rest-smaller c =
    let read = rw c.in-Some.is at c.in_ok-record.ensures.some in
    shorter c.in-Some.record c.loop-rest.rest.now c.in-Some.more.now read.1

pub loop-rest-smaller-in-Password : goal.loop-rest-smaller-in-Password
loop-rest-smaller-in-Password c =
    let read = rw c.in-Some.is at c.in_ok-record.ensures.some in
    shorter c.in-Some.record c.loop-rest.rest.now c.in-Some.more.now read.1

pub loop-rest-preserved-in-Password : goal.loop-rest-preserved-in-Password
loop-rest-preserved-in-Password c =
    let so_far = c.loop-rest.invariant in
    let read = rw c.in-Some.is at c.in_ok-record.ensures.some in (
      so_far.0,
      read_password (records_of so_far.0) c.loop-rest.had_passwords c.args.text.now c.loop-rest.rest.now so_far.1
          c.in-Some.record c.in-Some.more.now read.0 read.1 c.in-Password.field-0 c.in-Password.is,
      so_far.2,
    )

pub loop-rest-preserved : goal.loop-rest-preserved
loop-rest-preserved c =
    let so_far = c.loop-rest.invariant in
    let entry = c.in-Update.update in
    let read = rw c.in-Some.is at c.in_ok-record.ensures.some in
    let tree : c.apply.new.self.tree ≡ after c.args.tree.now.tree (so_far.0 ++ entry ∷ []) =
    entry_acts c.loop-rest.tree.tree c.apply.new.self.tree _ entry c.in_ok-apply-in-Update.ensures.applied
    ∙ ap (λ (v : LocalTreeView). after_entry v.tree entry) so_far.2 ∙ after_more c.args.tree.now.tree so_far.0 entry in (
      so_far.0 ++ entry ∷ [],
      entry_more so_far.0 c.loop-rest.had_passwords c.args.text.now c.loop-rest.rest.now so_far.1
          c.in-Some.record c.in-Some.more.now read.0 read.1 entry c.in-Update.is,
      λ i. record { tree = tree i; is_broken = c.in_ok-apply-in-Update.ensures.sound.1 i },
    )

pub returns-in-Fail-clause-fault : goal.returns-in-Fail-clause-fault
returns-in-Fail-clause-fault c =
    let so_far = c.loop-rest.invariant in
    let read = rw c.in-Some.is at c.in_ok-record.ensures.some in
    no_entry so_far.0 c.loop-rest.had_passwords c.args.text.now c.loop-rest.rest.now so_far.1
    c.in-Some.record c.in-Some.more.now read.0 read.1 c.in-Fail.is

pub returns-clause-applied : goal.returns-clause-applied
returns-clause-applied c =
    let so_far = c.loop-rest.invariant in
    let zero : length c.loop-rest.rest.now ≡ 0 = grind (arith, nat_tests) in
    let none = nil_from_length c.loop-rest.rest.now zero in
    record {
      entries = so_far.0;
      read = says_all (records_of so_far.0) c.loop-rest.had_passwords c.args.text.now c.loop-rest.rest.now so_far.1 none;
      reported = reports_all (records_of so_far.0) c.loop-rest.had_passwords c.args.text.now c.loop-rest.rest.now so_far.1 none;
      view = so_far.2;
    }
