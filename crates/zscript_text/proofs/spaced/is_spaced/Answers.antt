use Rattle.std.proofs.Common.{◌≡◌, ◌<◌, ◌-◌, true, length, get_or, sym, subst, ◌∙◌, arith, rules}
use Rattle.zscript_text.specs.LineWords.{is_plain}
use Rattle.zscript_text.specs.support.Spaced.{IsOddAmong}
use Rattle.zscript_text.proofs.OddPairs.{both_runs, longer_run, space_last, spaced_line}
use Rattle.zscript_text.proofs.spaced.is_spaced.Goals as goal
use Rattle.zscript_text.proofs.spaced.is_spaced.Goals.{then-pairs-ge16, else-pairs-ge16+then-pairs-ge8+then-has_odd_in_lanes, else-pairs-ge16+then-pairs-ge8+else-has_odd_in_lanes}
use Rattle.zscript_text.proofs.spaced.is_spaced.Goals.{else-pairs-ge16+else-pairs-ge8+then-pairs-ge4+then-has_odd_in_lanes-2, else-pairs-ge16+else-pairs-ge8+then-pairs-ge4+else-has_odd_in_lanes-2}
use Rattle.zscript_text.proofs.spaced.is_spaced.Goals.{else-pairs-ge16+else-pairs-ge8+else-pairs-ge4}

pub returns-then-line-pairs-eq32 : goal.returns-then-line-pairs-eq32
returns-then-line-pairs-eq32 c =
    let some : 0 < length c.args.line.now = omega (arith, c.in-len1-up.len_at_least) in
    space_last c.args.line.now some c.if-line-pairs-eq32.true

pub returns : goal.returns
returns c =
    let line = c.args.line.now in
    let some : 0 < length line = omega (arith, c.in-len1-up.len_at_least) in
    let plain : is_plain (get_or line 0 0) ≡ true = search rules in
    let visible : get_or line 0 0 ≡ 32 → ⊥ = search rules in
    let pairs = length line - 1 in
    let odd : IsOddAmong line 0 pairs c.if-pairs-ge16.has_odd = elim c.if-pairs-ge16.branch [
      | then-pairs-ge16 w ↦ subst (IsOddAmong line 0 pairs) (sym w.has_odd-is) w.has_odd_in_many-has_odd.ensures
      | else-pairs-ge16+then-pairs-ge8+then-has_odd_in_lanes w ↦
          subst (IsOddAmong line 0 pairs) (sym (w.has_odd-is ∙ w.if-has_odd_in_lanes.true)) (longer_run line 8 pairs w.if-pairs-ge8.true w.if-has_odd_in_lanes.ensures)
      | else-pairs-ge16+then-pairs-ge8+else-has_odd_in_lanes w ↦
          subst (IsOddAmong line 0 pairs) (sym w.has_odd-is) (both_runs line 8 pairs _ w.if-pairs-ge16.false w.if-pairs-ge8.true w.if-has_odd_in_lanes.ensures w.has_odd_in_lanes-else-has_odd_in_lanes.ensures)
      | else-pairs-ge16+else-pairs-ge8+then-pairs-ge4+then-has_odd_in_lanes-2 w ↦
          subst (IsOddAmong line 0 pairs) (sym (w.has_odd-is ∙ w.if-has_odd_in_lanes-2.true)) (longer_run line 4 pairs w.if-pairs-ge4.true w.if-has_odd_in_lanes-2.ensures)
      | else-pairs-ge16+else-pairs-ge8+then-pairs-ge4+else-has_odd_in_lanes-2 w ↦
          subst (IsOddAmong line 0 pairs) (sym w.has_odd-is) (both_runs line 4 pairs _ w.if-pairs-ge8.false w.if-pairs-ge4.true w.if-has_odd_in_lanes-2.ensures w.has_odd_in_lanes-else-has_odd_in_lanes-2.ensures)
      | else-pairs-ge16+else-pairs-ge8+else-pairs-ge4 w ↦ subst (IsOddAmong line 0 pairs) (sym w.has_odd-is) w.has_odd_in_few.ensures
    ] in
    spaced_line line c.if-pairs-ge16.has_odd some odd plain visible c.if-line-pairs-eq32.false
