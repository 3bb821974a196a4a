use Rattle.znode.proofs.pipe_lemmas.Lengths.{entry_short}
use Rattle.znode.proofs.node.Node.ask.Goals as goal

pub put_append-requires : goal.put_append-requires
put_append-requires c =
    rw (c.deref.ensures.value, c.in_ok-text.ensures.text) (entry_short c.in-Some.entry c.in_ok-text.ensures.fits)
