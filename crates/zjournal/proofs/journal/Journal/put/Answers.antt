use Rattle.std.proofs.Common.{refl, sym, ap, ℕ, ◌∙◌, ◌++◌, ◌∷◌, [], rules}
use Rattle.zjournal.specs.Checksum.{digits}
use Rattle.zjournal.proofs.Puts.{stays, leaves, rests, tested_zero}
use Rattle.zjournal.proofs.journal.Journal.put.Goals as goal

pub returns-then-not-self-clause-any_moment : goal.returns-then-not-self-clause-any_moment
returns-then-not-self-clause-any_moment g c servers batches rest = stays g.D.Device.seen g.D.Device.may_leave
    g.D.Device.moment g.D.Device.left_since c.args.self.now servers batches rest c.args.batch.now (g.met.D.Device.only_now c.args.self.now.device)

pub returns-then-contains-clause-any_moment : goal.returns-then-contains-clause-any_moment
returns-then-contains-clause-any_moment g c servers batches rest = stays g.D.Device.seen g.D.Device.may_leave
    g.D.Device.moment g.D.Device.left_since c.args.self.now servers batches rest c.args.batch.now (g.met.D.Device.only_now c.args.self.now.device)

pub returns-then-self-ge-MAX_BYTES-clause-any_moment : goal.returns-then-self-ge-MAX_BYTES-clause-any_moment
returns-then-self-ge-MAX_BYTES-clause-any_moment g c servers batches rest = stays g.D.Device.seen g.D.Device.may_leave
    g.D.Device.moment g.D.Device.left_since c.args.self.now servers batches rest c.args.batch.now (g.met.D.Device.only_now c.args.self.now.device)

pub returns-in_err-block-clause-any_moment : goal.returns-in_err-block-clause-any_moment
returns-in_err-block-clause-any_moment g c servers batches rest = stays g.D.Device.seen g.D.Device.may_leave g.D.Device.moment
    g.D.Device.left_since c.args.self.now servers batches rest c.args.batch.now (g.met.D.Device.only_now c.args.self.now.device)

pub returns-then-contains-clause-not_text : goal.returns-then-contains-clause-not_text
returns-then-contains-clause-not_text g c is text = tested_zero c.args.batch.now (sym c.contains.ensures.value ∙ c.if-contains.true) text

pub returns-in_err-add_block-clause-any_moment : goal.returns-in_err-add_block-clause-any_moment
returns-in_err-add_block-clause-any_moment g c servers batches rest =
    leaves g.D.Device.seen g.D.Device.may_leave g.D.Device.moment g.D.Device.left_since c.args.self.now servers batches rest
    c.args.batch.now c.as_slice-block.result.now (sym c.contains.ensures.value ∙ c.if-contains.false) (c.as_slice-block.ensures.value ∙ c.in_ok-block.ensures
    ∙ ap (λ (n : ℕ). (digits n ++ c.args.batch.now) ++ 0 ∷ 0 ∷ []) c.sum_after-sum.ensures)
    c.add_block.new.device c.add_block.ensures.any_moment

pub returns-clause-any_moment : goal.returns-clause-any_moment
returns-clause-any_moment g c servers batches rest =
    leaves g.D.Device.seen g.D.Device.may_leave g.D.Device.moment g.D.Device.left_since c.args.self.now servers batches rest
    c.args.batch.now c.as_slice-block.result.now (sym c.contains.ensures.value ∙ c.if-contains.false) (c.as_slice-block.ensures.value ∙ c.in_ok-block.ensures
    ∙ ap (λ (n : ℕ). (digits n ++ c.args.batch.now) ++ 0 ∷ 0 ∷ []) c.sum_after-sum.ensures)
    c.add_block.new.device c.add_block.ensures.any_moment

pub returns-clause-kept : goal.returns-clause-kept
returns-clause-kept g c servers batches is_open rest =
    rests g.D.Device.seen g.D.Device.may_leave g.D.Device.moment g.D.Device.left_since c.args.self.now servers batches rest
    c.args.batch.now c.as_slice-block.result.now (sym c.contains.ensures.value ∙ c.if-contains.false) (c.as_slice-block.ensures.value ∙ c.in_ok-block.ensures
    ∙ ap (λ (n : ℕ). (digits n ++ c.args.batch.now) ++ 0 ∷ 0 ∷ []) c.sum_after-sum.ensures)
    _ refl c.in_ok-add_block.ensures.added c.after-self.ensures.start (search rules) (search rules) c.in_ok-add_block.ensures.durable

pub returns-clause-sound : goal.returns-clause-sound
returns-clause-sound g c is_open =
    let was = c.requires c.if-not-self.false in (
      was.0,
      was.1 ++ c.args.batch.now ∷ [],
      rests g.D.Device.seen g.D.Device.may_leave g.D.Device.moment g.D.Device.left_since c.args.self.now was.0 was.1 was.2
          c.args.batch.now c.as_slice-block.result.now (sym c.contains.ensures.value ∙ c.if-contains.false)
          (c.as_slice-block.ensures.value ∙ c.in_ok-block.ensures
          ∙ ap (λ (n : ℕ). (digits n ++ c.args.batch.now) ++ 0 ∷ 0 ∷ []) c.sum_after-sum.ensures)
          _ refl c.in_ok-add_block.ensures.added c.after-self.ensures.start (search rules) (search rules) c.in_ok-add_block.ensures.durable,
    )

pub returns-in_err-add_block-clause-sound : goal.returns-in_err-add_block-clause-sound
returns-in_err-add_block-clause-sound g c = search rules
