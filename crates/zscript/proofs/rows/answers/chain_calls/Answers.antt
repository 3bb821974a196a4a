use Rattle.std.proofs.Common.{refl}
use Rattle.zpath.specs.Faults.{fault_of}
use Rattle.zscript_text.specs.Line.{line_of}
use Rattle.zprotocol.proofs.world_lemmas.Tables.{all_tables}
use Rattle.zscript.specs.Line.{effect_of, answer, after}
use Rattle.zscript.proofs.rows.answers.chain_calls.Goals as goal

pub returns : goal.returns
unfolding fault_of line_of all_tables effect_of answer after
returns c = record { begun = refl; taken = refl; lost = refl; joins = refl }
