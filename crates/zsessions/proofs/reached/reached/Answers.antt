use Rattle.std.proofs.Common.{◌++◌, ◌∷◌, [], ℕ, List, length, sym, ap, ◌∙◌, arith}
use mathlib.Core.Path.{subst}
use Rattle.std.specs.List.{filter_map, cons_option}
use Rattle.std.proofs.lemmas.List.Elements.{filter_map-append}
use Rattle.zslots.specs.support.Walk.{walk, IsWalk}
use Rattle.zslots.proofs.ListMoves.{list-one}
use Rattle.zslots.proofs.Walks.{walk-starts, walk-step, walk-ends}
use Rattle.zsessions.specs.support.Rows.{row_links, due_at}
use Rattle.zsessions.proofs.reached.reached.Goals as goal

pub loop-at-init : goal.loop-at-init
loop-at-init c = (
  [],
  subst (IsWalk row_links c.args.rows.now.items c.args.bucket.now []) (sym c.first-at.ensures)
      (walk-starts row_links c.args.rows.now.items c.args.bucket.now c.requires.0 c.requires.1).0,
  c.new-found.ensures.items,
)

pub loop-at-preserved : goal.loop-at-preserved
loop-at-preserved c =
    let m = c.args.rows.now.items in
    let before = c.loop-at.invariant in
    let at = subst (IsWalk row_links m c.args.bucket.now before.0) c.in-Some.is before.1 in
    let next = walk-step row_links m c.args.bucket.now before.0 c.in-Some.id at in
    let due = due_at m c.args.tick in (
      before.0 ++ c.in-Some.id ∷ [],
      subst (IsWalk row_links m c.args.bucket.now (before.0 ++ c.in-Some.id ∷ [])) (sym c.next-at.ensures.own) next.0,
      c.in_ok-push_if_due.ensures
          ∙ ap (λ (found : List ℕ). found ++ cons_option (due c.in-Some.id) []) before.2
          ∙ sym (filter_map-append due before.0 (c.in-Some.id ∷ [])),
    )

pub loop-at-smaller : goal.loop-at-smaller
loop-at-smaller c =
    let m = c.args.rows.now.items in
    let n = c.args.bucket.now.len in
    let before = c.loop-at.invariant in
    let at = subst (IsWalk row_links m c.args.bucket.now before.0) c.in-Some.is before.1 in
    let next = walk-step row_links m c.args.bucket.now before.0 c.in-Some.id at in
    let now = ap (λ at. length (walk row_links n m at)) c.in-Some.is ∙ ap length next.1 in
    let after = ap (λ at. length (walk row_links n m at)) c.next-at.ensures.own in
    omega (arith, now, after)

pub returns : goal.returns
returns c = λ ids is.
    let m = c.args.rows.now.items in
    let before = c.loop-at.invariant in
    let at = subst (IsWalk row_links m c.args.bucket.now before.0) c.in_default.is before.1 in
    let passed = walk-ends row_links m c.args.bucket.now before.0 at in
    before.2 ∙ ap (filter_map (due_at m c.args.tick)) (list-one row_links m c.args.bucket.now before.0 ids passed is)
