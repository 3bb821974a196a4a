use Rattle.std.proofs.Common.{◌≡◌, ◌≤◌, arith, Bool, ℕ, List, [], ◌∷◌, ◌++◌, length, take, ap, subst, ◌∙◌}
use Rattle.zsnapshots.specs.States.{IsRow, rows_of, written_of}
use Rattle.zsnapshots.proofs.Written.{row_room}
use Rattle.zpeers.proofs.Waits.{row_written, row_before_end, end_written, cut_back}
use Rattle.zpeers.proofs.waiting.put_state_record.Goals as goal

pub returns-in-Ok-true-clause-row : goal.returns-in-Ok-true-clause-row
returns-in-Ok-true-clause-row c = λ yes_row.
    let s = c.args.machine.now.state in
    let after = c.write_row.new.out.items in
    let row = subst (λ (alone : Bool). IsRow (written_of alone s) c.args.number c.extend_from_slice.new.self.items after) c.requires.all
    (c.in-Ok-true.ensures.row c.in-Ok-true.field-0-test) in
    row_written s c.args.number c.args.out.now.items after
    (subst (λ (bs : List ℕ). IsRow s c.args.number bs after) c.in_ok-extend_from_slice.ensures.items row)

pub returns-in-Ok-true-clause-rest : goal.returns-in-Ok-true-clause-rest
returns-in-Ok-true-clause-rest c = λ yes_row.
    let s = c.args.machine.now.state in
    let after = c.write_row.new.out.items in
    let row = subst (λ (alone : Bool). IsRow (written_of alone s) c.args.number c.extend_from_slice.new.self.items after) c.requires.all
    (c.in-Ok-true.ensures.row c.in-Ok-true.field-0-test) in
    row_before_end s c.args.number c.args.out.now.items after c.extend_from_slice.new.self.items row

pub returns-in-Ok-true-clause-room : goal.returns-in-Ok-true-clause-room
returns-in-Ok-true-clause-room c = λ yes_row.
    let s = c.args.machine.now.state in
    let after = c.write_row.new.out.items in
    let row = subst (λ (alone : Bool). IsRow (written_of alone s) c.args.number c.extend_from_slice.new.self.items after) c.requires.all
    (c.in-Ok-true.ensures.row c.in-Ok-true.field-0-test) in
    row_room c.args.keys.now s c.args.number c.extend_from_slice.new.self.items after c.requires.keys row

pub returns-in_ok-extend_from_slice-in-Ok-false-clause-end :
    goal.returns-in_ok-extend_from_slice-in-Ok-false-clause-end
returns-in_ok-extend_from_slice-in-Ok-false-clause-end c = λ no_row.
    let s = c.args.machine.now.state in
    let before = c.args.out.now.items in
    let all : length (rows_of s) ≤ c.args.number =
    subst (λ (alone : Bool). length (rows_of (written_of alone s)) ≤ c.args.number) c.requires.all
    (c.in-Ok-false.ensures.end c.in-Ok-false.field-0-test) in
    let kept : c.truncate.new.self.items ≡ before =
    c.truncate.ensures.items
    ∙ ap (λ (bs : List ℕ). take c.len-before.result bs) (c.in-Ok-false.ensures.nothing c.in-Ok-false.field-0-test ∙ c.in_ok-extend_from_slice.ensures.items)
    ∙ cut_back before _ c.len-before.result (omega (arith, c.len-before.ensures)) in
    end_written s c.args.number before c.extend_from_slice-in-Ok-false.new.self.items all c.requires.within
    (c.in_ok-extend_from_slice-in-Ok-false.ensures.items ∙ ap (λ (bs : List ℕ). bs ++ 2 ∷ 0 ∷ 0 ∷ 0 ∷ 0 ∷ []) kept)
