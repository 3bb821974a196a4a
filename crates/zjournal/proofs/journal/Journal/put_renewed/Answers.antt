use Rattle.std.proofs.Common.{refl, sym, ap, ℕ, ◌∙◌, ◌++◌, ◌∷◌, [], rules}
use Rattle.zjournal.specs.Checksum.{digits, stamped}
use Rattle.zjournal.proofs.Sums.{stamped_text}
use Rattle.zjournal.proofs.Puts.{tested_text, tested_zero}
use Rattle.zjournal.proofs.Renewals.{not_asked, still_rests, renewal_added}
use Rattle.zjournal.proofs.journal.Journal.put_renewed.Goals as goal

pub returns-then-not-self-clause-untouched : goal.returns-then-not-self-clause-untouched
returns-then-not-self-clause-untouched g c servers batches rest =
    not_asked g.D.Device.seen g.D.Device.may_leave g.D.Device.moment g.D.Device.left_since c.args.self.now servers
    batches rest (g.met.D.Device.only_now c.args.self.now.device)

pub returns-then-contains-clause-untouched : goal.returns-then-contains-clause-untouched
returns-then-contains-clause-untouched g c servers batches rest =
    not_asked g.D.Device.seen g.D.Device.may_leave g.D.Device.moment g.D.Device.left_since c.args.self.now servers
    batches rest (g.met.D.Device.only_now c.args.self.now.device)

pub returns-then-self-ge-MAX_BYTES-clause-untouched : goal.returns-then-self-ge-MAX_BYTES-clause-untouched
returns-then-self-ge-MAX_BYTES-clause-untouched g c servers batches rest =
    not_asked g.D.Device.seen g.D.Device.may_leave g.D.Device.moment g.D.Device.left_since c.args.self.now servers
    batches rest (g.met.D.Device.only_now c.args.self.now.device)

pub returns-in_err-block-clause-untouched : goal.returns-in_err-block-clause-untouched
returns-in_err-block-clause-untouched g c servers batches rest =
    not_asked g.D.Device.seen g.D.Device.may_leave g.D.Device.moment g.D.Device.left_since c.args.self.now servers
    batches rest (g.met.D.Device.only_now c.args.self.now.device)

pub returns-then-contains-clause-not_text : goal.returns-then-contains-clause-not_text
returns-then-contains-clause-not_text g c is text =
    tested_zero c.args.batch.now (sym c.contains.ensures.value ∙ c.if-contains.true) text

pub returns-in_err-add_open_block-clause-rest : goal.returns-in_err-add_open_block-clause-rest
returns-in_err-add_open_block-clause-rest g c servers batches rest =
    still_rests g.D.Device.seen g.D.Device.may_leave g.D.Device.moment g.D.Device.left_since c.args.self.now servers
    batches rest _ refl refl c.add_open_block.ensures.untouched

pub returns-in_err-add_open_block-clause-untouched : goal.returns-in_err-add_open_block-clause-untouched
returns-in_err-add_open_block-clause-untouched g c servers batches rest = c.add_open_block.ensures.untouched

pub returns-in_err-add_open_block-clause-sound : goal.returns-in_err-add_open_block-clause-sound
returns-in_err-add_open_block-clause-sound g c is_open =
    let was = c.requires c.if-not-self.false in (
      was.0,
      was.1,
      still_rests g.D.Device.seen g.D.Device.may_leave g.D.Device.moment g.D.Device.left_since c.args.self.now
          was.0 was.1 was.3.rest _ refl refl c.add_open_block.ensures.untouched,
    )

pub returns-clause-added : goal.returns-clause-added
returns-clause-added g c servers batches next_ones is_open renewing =
    let is = c.as_slice-block.ensures.value ∙ c.in_ok-block.ensures
    ∙ ap (λ (n : ℕ). (digits n ++ c.args.batch.now) ++ 0 ∷ 0 ∷ []) c.sum_after-sum.ensures in
    renewal_added g.D.Device.seen g.D.Device.may_leave g.D.Device.moment g.D.Device.left_since g.D.Device.beside
    c.args.self.now servers batches next_ones renewing c.args.batch.now _
    (stamped_text c.args.self.now.renewed.sum c.args.batch.now (tested_text c.args.batch.now (sym c.contains.ensures.value ∙ c.if-contains.false)))
    refl refl c.add_open_block.ensures.untouched
    (c.in_ok-add_open_block.ensures.added (stamped c.args.self.now.renewed.sum c.args.batch.now) is) c.as_slice-block.result.now is
    c.after-self.ensures.start (search rules) (search rules)

pub returns-clause-rest : goal.returns-clause-rest
returns-clause-rest g c servers batches rest =
    still_rests g.D.Device.seen g.D.Device.may_leave g.D.Device.moment g.D.Device.left_since c.args.self.now servers
    batches rest _ refl refl c.add_open_block.ensures.untouched

pub returns-clause-untouched : goal.returns-clause-untouched
returns-clause-untouched g c servers batches rest = c.add_open_block.ensures.untouched

pub returns-clause-renewing : goal.returns-clause-renewing
returns-clause-renewing g c is_open =
    let was = c.requires c.if-not-self.false in
    let is = c.as_slice-block.ensures.value ∙ c.in_ok-block.ensures
    ∙ ap (λ (n : ℕ). (digits n ++ c.args.batch.now) ++ 0 ∷ 0 ∷ []) c.sum_after-sum.ensures in (
      was.0,
      was.1,
      was.2 ++ c.args.batch.now ∷ [],
      renewal_added g.D.Device.seen g.D.Device.may_leave g.D.Device.moment g.D.Device.left_since g.D.Device.beside
          c.args.self.now was.0 was.1 was.2 was.3 c.args.batch.now _
          (stamped_text c.args.self.now.renewed.sum c.args.batch.now (tested_text c.args.batch.now (sym c.contains.ensures.value
          ∙ c.if-contains.false))) refl refl c.add_open_block.ensures.untouched
          (c.in_ok-add_open_block.ensures.added (stamped c.args.self.now.renewed.sum c.args.batch.now) is) c.as_slice-block.result.now is
          c.after-self.ensures.start (search rules) (search rules),
    )

pub returns-clause-sound : goal.returns-clause-sound
returns-clause-sound g c is_open =
    let was = c.requires c.if-not-self.false in (
      was.0,
      was.1,
      still_rests g.D.Device.seen g.D.Device.may_leave g.D.Device.moment g.D.Device.left_since c.args.self.now
          was.0 was.1 was.3.rest _ refl refl c.add_open_block.ensures.untouched,
    )
