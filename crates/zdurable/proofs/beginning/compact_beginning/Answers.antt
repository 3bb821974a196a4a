use Rattle.std.proofs.Common.{◌≡◌, ℕ, List, [], ◌∷◌, ◌++◌, take, ap, subst, sym, ◌∙◌}
use Rattle.std.proofs.lemmas.List.{map_more, take_all}
use Rattle.std.specs.declared.vec.Vec.{Vec}
use Rattle.std.specs.declared.alloc.Global.{Global}
use Rattle.zjournal.specs.Checksum.{sum_after_all}
use Rattle.zjournal.specs.Journal.{device_of}
use Rattle.zjournal.specs.Scan.{joined}
use Rattle.zsnapshots.specs.folder.Texts.{IsTextOf}
use Rattle.zdurable.proofs.Parts.{ends_or_replaces, stays_or_replaces}
use Rattle.zdurable.proofs.Renewing.{IsWriting, begun, goes_on, stays, texts_in, untouched_more}
use Rattle.zdurable.proofs.beginning.compact_beginning.Goals as goal

pub start_before-start-requires : goal.start_before-start-requires
start_before-start-requires g c =
    let was = c.requires.sound c.requires.open in c.sum.ensures.is_sum was.0 was.1 was.2

pub returns-in_err-chunks-clause-any_moment : goal.returns-in_err-chunks-clause-any_moment
returns-in_err-chunks-clause-any_moment g c servers batches rest text =
    stays_or_replaces g.D.Device.seen g.D.Device.moment g.D.Device.left_since c.args.journal.now c.args.journal.now servers
    c.args.tree.now.tree
    (stays g.D.Device.seen g.D.Device.may_leave g.D.Device.moment g.D.Device.left_since c.args.journal.now servers batches rest
    (g.met.D.Device.only_now (device_of c.args.journal.now)))

pub returns-in_err-begin_renewal-clause-any_moment : goal.returns-in_err-begin_renewal-clause-any_moment
returns-in_err-begin_renewal-clause-any_moment g c servers batches rest text =
    stays_or_replaces g.D.Device.seen g.D.Device.moment g.D.Device.left_since c.args.journal.now c.begin_renewal.new.self servers
    c.args.tree.now.tree (c.begin_renewal.ensures.untouched servers batches rest).any_moment

pub loop-text-init : goal.loop-text-init
loop-text-init g c =
    begun g.D.Device.seen g.D.Device.may_leave g.D.Device.beside g.D.Device.moment g.D.Device.left_since c.start_before-start.result
    c.args.journal.now c.begin_renewal.new.self c.in_ok-begin_renewal.ensures.open.0 c.in_ok-begin_renewal.ensures.open.1
    c.in_ok-begin_renewal.ensures.renewing c.in_ok-begin_renewal.ensures.start c.in_ok-begin_renewal.ensures.begun
    c.begin_renewal.ensures.untouched

pub returns-in_err-put_renewed-clause-any_moment : goal.returns-in_err-put_renewed-clause-any_moment
returns-in_err-put_renewed-clause-any_moment g c servers batches rest text =
    stays_or_replaces g.D.Device.seen g.D.Device.moment g.D.Device.left_since c.args.journal.now c.put_renewed.new.self servers
    c.args.tree.now.tree
    (untouched_more g.D.Device.seen g.D.Device.may_leave g.D.Device.beside g.D.Device.moment g.D.Device.left_since c.start_before-start.result
    c.args.journal.now c.loop-text.journal (texts_in (take c.loop-text.text-index c.as_slice-texts.result.now)) c.loop-text.invariant
    servers batches rest c.put_renewed.new.self c.put_renewed.ensures.untouched).any_moment

pub loop-text-preserved : goal.loop-text-preserved
loop-text-preserved g c =
    let texts = c.as_slice-texts.result.now in
    let i = c.loop-text.text-index in
    let done = texts_in (take i texts) in
    subst (IsWriting g.D.Device.seen g.D.Device.may_leave g.D.Device.beside g.D.Device.moment g.D.Device.left_since c.start_before-start.result
    c.args.journal.now c.put_renewed.new.self)
    (ap (λ (t : List ℕ). done ++ t ∷ []) (c.deref.ensures.value ∙ ap (λ (v : Vec ℕ Global). v.items) c.text-item.is)
    ∙ sym (map_more (λ (v : Vec ℕ Global). v.items) texts i c.text-item.result c.loop-text-test.true))
    (goes_on g.D.Device.seen g.D.Device.may_leave g.D.Device.beside g.D.Device.moment g.D.Device.left_since c.start_before-start.result
    c.args.journal.now c.loop-text.journal done c.loop-text.invariant c.put_renewed.new.self c.deref.result.now
    c.in_ok-put_renewed.ensures.open.1 c.in_ok-put_renewed.ensures.renewing c.put_renewed.ensures.start
    c.in_ok-put_renewed.ensures.added c.put_renewed.ensures.untouched)

pub returns-in_err-end_renewal-clause-any_moment : goal.returns-in_err-end_renewal-clause-any_moment
returns-in_err-end_renewal-clause-any_moment g c servers batches rest text =
    let texts = c.as_slice-texts.result.now in
    let done = texts_in (take c.loop-text.text-index texts) in
    let all : texts_in c.in_ok-chunks.chunks.items ≡ done =
    ap texts_in (sym c.as_slice-texts.ensures.value ∙ sym (take_all c.loop-text.text-index texts c.loop-text-test.false)) in
    ends_or_replaces g.D.Device.seen g.D.Device.may_leave g.D.Device.beside g.D.Device.moment g.D.Device.left_since
    c.start_before-start.result c.args.journal.now c.loop-text.journal done c.loop-text.invariant servers batches rest
    c.args.tree.now.tree text
    (subst (λ (l : List (List ℕ)). IsTextOf c.args.tree.now.tree (joined l)) all c.in_ok-chunks.ensures.keeps)
    (ap (λ (l : List (Vec ℕ Global)). sum_after_all c.start_before-start.result (texts_in l))
    (take_all c.loop-text.text-index texts c.loop-text-test.false)
    ∙ c.start_before-start.ensures.sum ∙ c.sum.ensures.sum)
    c.end_renewal.new.self c.end_renewal.ensures.any_moment

pub returns-clause-any_moment : goal.returns-clause-any_moment
returns-clause-any_moment g c servers batches rest text =
    let texts = c.as_slice-texts.result.now in
    let done = texts_in (take c.loop-text.text-index texts) in
    let all : texts_in c.in_ok-chunks.chunks.items ≡ done =
    ap texts_in (sym c.as_slice-texts.ensures.value ∙ sym (take_all c.loop-text.text-index texts c.loop-text-test.false)) in
    ends_or_replaces g.D.Device.seen g.D.Device.may_leave g.D.Device.beside g.D.Device.moment g.D.Device.left_since
    c.start_before-start.result c.args.journal.now c.loop-text.journal done c.loop-text.invariant servers batches rest
    c.args.tree.now.tree text
    (subst (λ (l : List (List ℕ)). IsTextOf c.args.tree.now.tree (joined l)) all c.in_ok-chunks.ensures.keeps)
    (ap (λ (l : List (Vec ℕ Global)). sum_after_all c.start_before-start.result (texts_in l))
    (take_all c.loop-text.text-index texts c.loop-text-test.false)
    ∙ c.start_before-start.ensures.sum ∙ c.sum.ensures.sum)
    c.end_renewal.new.self c.end_renewal.ensures.any_moment

pub returns-clause-kept : goal.returns-clause-kept
returns-clause-kept g c servers batches rest =
    let texts = c.as_slice-texts.result.now in
    let done = texts_in (take c.loop-text.text-index texts) in
    let all : texts_in c.in_ok-chunks.chunks.items ≡ done =
    ap texts_in (sym c.as_slice-texts.ensures.value ∙ sym (take_all c.loop-text.text-index texts c.loop-text-test.false)) in (
      done,
      c.in_ok-end_renewal.ensures.renewed servers batches done c.loop-text.invariant.is_open
          (c.loop-text.invariant.so_far servers batches rest),
      ap joined (sym all) ∙ c.in_ok-chunks.ensures.text,
      subst (λ (l : List (List ℕ)). IsTextOf c.args.tree.now.tree (joined l)) all c.in_ok-chunks.ensures.keeps,
    )

pub returns-clause-sum : goal.returns-clause-sum
returns-clause-sum g c =
    let was = c.requires.sound c.requires.open in
    let texts = c.as_slice-texts.result.now in
    let done = texts_in (take c.loop-text.text-index texts) in
    let rest = c.in_ok-end_renewal.ensures.renewed was.0 was.1 done c.loop-text.invariant.is_open
    (c.loop-text.invariant.so_far was.0 was.1 was.2) in
    rest.place.sum
    ∙ ap (λ (start : ℕ). sum_after_all start done) (c.in_ok-end_renewal.ensures.start ∙ c.loop-text.invariant.from)
    ∙ ap (λ (l : List (Vec ℕ Global)). sum_after_all c.start_before-start.result (texts_in l))
    (take_all c.loop-text.text-index texts c.loop-text-test.false)
    ∙ c.start_before-start.ensures.sum ∙ c.sum.ensures.sum
