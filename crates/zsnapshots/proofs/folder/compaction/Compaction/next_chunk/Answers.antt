use Rattle.std.proofs.Common.{◌<◌, ℕ, List, length, subst, sym, arith}
use Rattle.std.proofs.lemmas.Bool.Decides.{nat_tests}
use Rattle.zjournal.specs.Blocks.{IsText}
use Rattle.zsnapshots.specs.folder.Compaction.{IsChunk, CompactionView}
use Rattle.zsnapshots.specs.folder.support.Writing.{IsRecordWritten}
use Rattle.zsnapshots.proofs.folder_lemmas.Chunks.{less_left, chunk_is, chunk_text, so_far_first, so_far_more}
use Rattle.zsnapshots.proofs.folder.compaction.Compaction.next_chunk.Goals as goal

pub loop-self-init : goal.loop-self-init
loop-self-init c =
    so_far_first c.args.self.now c.write_next.new.self c.write_next.new.text.items
    (subst (λ (before : List ℕ). IsRecordWritten c.args.self.now c.write_next.new.self before c.write_next.new.text.items)
    c.new-text.ensures.items (c.in_ok-write_next.ensures.next c.if-not-branch.false))

pub returns-then-not-branch-2-clause-chunk : goal.returns-then-not-branch-2-clause-chunk
returns-then-not-branch-2-clause-chunk c =
    let same = c.in_ok-write_next-2.ensures.ended c.if-not-branch-2.true in
    subst (λ (text : List ℕ). IsChunk c.args.self.now c.write_next-in-loop-self.new.self text) (sym same.1)
    (subst (λ (v : CompactionView). IsChunk c.args.self.now v c.loop-self.text.items) (sym same.0)
    (chunk_is c.args.self.now c.loop-self.self c.loop-self.text.items c.loop-self.invariant))

pub returns-then-not-branch-2-clause-text : goal.returns-then-not-branch-2-clause-text
returns-then-not-branch-2-clause-text c =
    let same = c.in_ok-write_next-2.ensures.ended c.if-not-branch-2.true in
    subst IsText (sym same.1) (chunk_text c.args.self.now c.loop-self.self c.loop-self.text.items c.loop-self.invariant)

pub loop-self-smaller : goal.loop-self-smaller
loop-self-smaller c =
    let room : length c.loop-self.text.items < 65536 = grind (arith, nat_tests, c.loop-self-test.true) in
    less_left c.loop-self.self c.write_next-in-loop-self.new.self c.loop-self.text.items c.write_next-in-loop-self.new.text.items
    (c.in_ok-write_next-2.ensures.next c.if-not-branch-2.false) room

pub loop-self-preserved : goal.loop-self-preserved
loop-self-preserved c =
    so_far_more c.args.self.now c.loop-self.self c.write_next-in-loop-self.new.self c.loop-self.text.items
    c.write_next-in-loop-self.new.text.items c.loop-self.invariant
    (c.in_ok-write_next-2.ensures.next c.if-not-branch-2.false)

pub returns-clause-chunk : goal.returns-clause-chunk
returns-clause-chunk c = chunk_is c.args.self.now c.loop-self.self c.loop-self.text.items c.loop-self.invariant

pub returns-clause-text : goal.returns-clause-text
returns-clause-text c = chunk_text c.args.self.now c.loop-self.self c.loop-self.text.items c.loop-self.invariant
