use Rattle.std.proofs.Common.{◌≡◌, ◌==◌, true, false, List, [], ◌∷◌, ◌++◌, length, sym, ap, subst, ◌∙◌}
use Rattle.zjournal.specs.Device.{LeavesOnly}
use Rattle.zjournal.specs.Journal.{IsAtRest, IsWithOrWithout, device_of}
use Rattle.zjournal.proofs.Puts.{stays}
use Rattle.zdurable.specs.declared.kept.DurableFront.{DurableFront}
use Rattle.zsnapshots.specs.folder.Entries.{Entry, AreEntries, entries_text}
use Rattle.zsnapshots.specs.folder.States.{after}
use Rattle.zdurable.specs.DurableFront.{IsServing, disk_of, made_in}
use Rattle.zdurable.proofs.Serving.{block_serves, some_made}
use Rattle.zdurable.proofs.kept.DurableFront.commit.Goals as goal

pub returns-then-not-self-clause-any_moment : goal.returns-then-not-self-clause-any_moment
returns-then-not-self-clause-any_moment g c servers batches t serving =
    stays g.D.Device.seen g.D.Device.may_leave g.D.Device.moment g.D.Device.left_since c.args.self.now.journal servers
    batches serving.rest (entries_text (made_in c.args.self.now)) (g.met.D.Device.only_now (disk_of c.args.self.now))

pub returns-then-is_empty-clause-any_moment : goal.returns-then-is_empty-clause-any_moment
returns-then-is_empty-clause-any_moment g c servers batches t serving =
    stays g.D.Device.seen g.D.Device.may_leave g.D.Device.moment g.D.Device.left_since c.args.self.now.journal servers
    batches serving.rest (entries_text (made_in c.args.self.now)) (g.met.D.Device.only_now (disk_of c.args.self.now))

pub returns-in_err-text-clause-any_moment : goal.returns-in_err-text-clause-any_moment
returns-in_err-text-clause-any_moment g c servers batches t serving =
    stays g.D.Device.seen g.D.Device.may_leave g.D.Device.moment g.D.Device.left_since c.args.self.now.journal servers
    batches serving.rest (entries_text (made_in c.args.self.now)) (g.met.D.Device.only_now (disk_of c.args.self.now))

pub returns-in_err-put-clause-any_moment : goal.returns-in_err-put-clause-any_moment
returns-in_err-put-clause-any_moment g c servers batches t serving =
    let old = c.args.self.now in
    let text_is : c.deref.result.now ≡ entries_text (made_in old) =
    c.deref.ensures.value ∙ c.in_ok-text.ensures.text ∙ ap entries_text c.take_made.ensures.all in
    subst (λ batch. LeavesOnly g.D.Device.moment g.D.Device.left_since (disk_of old) (device_of c.put.new.journal)
    (IsWithOrWithout servers batches batch)) text_is
    (c.put.ensures.any_moment servers batches serving.rest)

pub returns-clause-any_moment : goal.returns-clause-any_moment
returns-clause-any_moment g c servers batches t serving =
    let old = c.args.self.now in
    let text_is : c.deref.result.now ≡ entries_text (made_in old) =
    c.deref.ensures.value ∙ c.in_ok-text.ensures.text ∙ ap entries_text c.take_made.ensures.all in
    subst (λ batch. LeavesOnly g.D.Device.moment g.D.Device.left_since (disk_of old) (device_of c.put.new.journal)
    (IsWithOrWithout servers batches batch)) text_is
    (c.put.ensures.any_moment servers batches serving.rest)

pub returns-clause-kept : goal.returns-clause-kept
returns-clause-kept g c servers batches t is_open serving =
    let old = c.args.self.now in
    let text_is : c.deref.result.now ≡ entries_text (made_in old) =
    c.deref.ensures.value ∙ c.in_ok-text.ensures.text ∙ ap entries_text c.take_made.ensures.all in
    let new : DurableFront g.row.D.Denot = record {
      alloc = old.alloc;
      front = c.take_made.new.self;
      journal = c.put.new.journal;
      measured = old.measured;
      is_open = true;
    } in
    let some : (length (made_in old) == 0) ≡ false = sym (c.if-is_empty.ensures ∙ ap (λ (l : List Entry). length l == 0) c.made.ensures) in
    subst (λ bs. IsServing g.D.Device.seen g.D.Device.may_leave servers bs (after t (made_in old)) new)
    (sym (some_made (made_in old) batches some))
    (block_serves g.D.Device.seen g.D.Device.may_leave servers batches t old new serving c.take_made.ensures.taken
    (subst AreEntries c.take_made.ensures.all c.in_ok-text.ensures.are)
    (subst (λ batch. IsAtRest g.D.Device.seen g.D.Device.may_leave servers (batches ++ batch ∷ []) c.put.new.journal)
    text_is (c.in_ok-put.ensures.kept servers batches serving.takes serving.rest))
    c.in_ok-put.ensures.open.1)

pub returns-clause-sound : goal.returns-clause-sound
returns-clause-sound g c is_open =
    let old = c.args.self.now in
    let text_is : c.deref.result.now ≡ entries_text (made_in old) =
    c.deref.ensures.value ∙ c.in_ok-text.ensures.text ∙ ap entries_text c.take_made.ensures.all in
    let was = c.requires c.if-not-self.false in (
      was.0,
      was.1 ++ entries_text (made_in old) ∷ [],
      after was.2 (made_in old),
      block_serves g.D.Device.seen g.D.Device.may_leave was.0 was.1 was.2 old _ was.3 c.take_made.ensures.taken
          (subst AreEntries c.take_made.ensures.all c.in_ok-text.ensures.are)
          (subst (λ batch. IsAtRest g.D.Device.seen g.D.Device.may_leave was.0 (was.1 ++ batch ∷ []) c.put.new.journal)
          text_is (c.in_ok-put.ensures.kept was.0 was.1 was.3.takes was.3.rest))
          c.in_ok-put.ensures.open.1,
    )
