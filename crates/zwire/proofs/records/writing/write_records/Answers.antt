use Rattle.zwire.proofs.records_lemmas.Texts.{is_text}
use Rattle.zwire.proofs.records.writing.write_records.Goals as goal

pub returns-clause-text : goal.returns-clause-text
returns-clause-text c = is_text c.args.records.now c.in_ok-text.ensures.fits
