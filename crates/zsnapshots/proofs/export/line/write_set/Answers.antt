use Rattle.std.proofs.Common.{ℕ, List, ◌++◌, codes, ap, ◌∙◌, append_assoc, string_bytes}
use Rattle.zscript_text.specs.LineWords.{data_text}
use Rattle.zsnapshots.specs.export.Export.{set_line}
use Rattle.zsnapshots.proofs.export.line.write_set.Goals as goal

pub returns : goal.returns
unfolding set_line
returns c =
    c.in_ok-write_data.ensures ∙ ap (λ (t : List ℕ). t ++ data_text c.args.bytes.now) c.in_ok-write.ensures.bytes
    ∙ append_assoc (string_bytes c.args.out.now) (codes "1 set / any ") (data_text c.args.bytes.now)
