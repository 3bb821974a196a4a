use Rattle.zdurable.proofs.Renewing.{chunk_added, chunk_shorter, no_chunk, text_added, text_is, text_keeps, texts_in}
use Rattle.zdurable.proofs.beginning.chunks_of.Goals as goal

pub loop-chunks-init : goal.loop-chunks-init
loop-chunks-init c = (
  rw c.new-chunks.ensures.items (no_chunk c.args.tree.now.tree c.in_ok-text.text c.in_ok-text.ensures.begun),
  rw c.new-chunks.ensures.items tt,
)

pub loop-chunks-preserved : goal.loop-chunks-preserved
loop-chunks-preserved c = (
  chunk_added c.loop-chunks.chunks.items c.push.new.self.items c.in-Some.chunk c.in_ok-push.ensures.items c.args.tree.now.tree
      c.loop-chunks.text c.next_chunk.new.self c.loop-chunks.invariant.0 (rw c.in-Some.is at c.in_ok-chunk.ensures.chunk),
  text_added c.loop-chunks.chunks.items c.push.new.self.items c.in-Some.chunk c.in_ok-push.ensures.items c.loop-chunks.invariant.1
      (rw c.in-Some.is at c.in_ok-chunk.ensures.text),
)

pub loop-chunks-smaller : goal.loop-chunks-smaller
loop-chunks-smaller c =
    chunk_shorter c.args.tree.now.tree c.loop-chunks.text c.next_chunk.new.self c.in-Some.chunk.items c.loop-chunks.invariant.0.same
    (rw c.in-Some.is at c.in_ok-chunk.ensures.chunk)

pub returns-clause-text : goal.returns-clause-text
returns-clause-text c =
    text_is c.args.tree.now.tree c.loop-chunks.text (texts_in c.loop-chunks.chunks.items) c.loop-chunks.invariant.0
    (rw c.in_default.is at c.in_ok-chunk.ensures.end)

pub returns-clause-keeps : goal.returns-clause-keeps
returns-clause-keeps c =
    text_keeps c.args.tree.now.tree c.loop-chunks.text (texts_in c.loop-chunks.chunks.items) c.loop-chunks.invariant.0
    (rw c.in_default.is at c.in_ok-chunk.ensures.end)
