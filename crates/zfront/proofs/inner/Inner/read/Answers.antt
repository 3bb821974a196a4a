use Rattle.std.proofs.Common.{sym, subst, ◌∙◌, ap}
use Rattle.zconnections.specs.buffers.Streams.{phase_of}
use Rattle.zfront.specs.Reading.{ComesBy, word_asked}
use Rattle.zfront.proofs.Results.{on_ok}
use Rattle.zfront.proofs.inner.Inner.read.Goals as goal

pub returns-in-None : goal.returns-in-None
returns-in-None g c =
    let asked = ap (word_asked (phase_of c.args.self.now.tables.streams c.args.connection)) c.deref.ensures.value in
    on_ok c.read_all.result
    (λ comes. subst (λ w. ComesBy w c.args.came.items c.args.connection c.args.self.now c.read_all.new.self)
    (sym (sym c.word_asked.ensures ∙ c.in-None.is) ∙ asked) comes)
    c.read_all.ensures
