use Rattle.std.proofs.Common.{refl, ap}
use Rattle.std.specs.Fmt.{digits}
use Rattle.std.specs.List.{flat_map}
use Rattle.base64.proofs.OnLiterals.{base64_on_literals}
use Rattle.zsnapshots.specs.export.Export.{create_line, ended, lines_for, set_line}
use Rattle.zsnapshots.proofs.export_lemmas.Worked.{opening_rows, owned_rows, timed_rows}
use Rattle.zsnapshots.proofs.export.rows.trees_have_lines.Goals as goal

pub returns-clause-opening : goal.returns-clause-opening
returns-clause-opening c = ap (flat_map lines_for) opening_rows

pub returns-clause-timed : goal.returns-clause-timed
unfolding create_line set_line digits base64_on_literals
returns-clause-timed c = ap (λ es. flat_map ended (flat_map lines_for es)) timed_rows

pub returns-clause-owned : goal.returns-clause-owned
returns-clause-owned c = ap (λ es. flat_map ended (flat_map lines_for es)) owned_rows

pub returns-clause-for_good : goal.returns-clause-for_good
returns-clause-for_good c = refl

pub returns-clause-for_a_tick : goal.returns-clause-for_a_tick
unfolding digits
returns-clause-for_a_tick c = refl
