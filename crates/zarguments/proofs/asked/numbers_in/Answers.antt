use Rattle.std.proofs.Common.{◌∙◌, ◌+◌, ℕ, List, [], map, drop, get_or, sym, ap}
use Rattle.clap.specs.Matches.{found_of}
use Rattle.clap.specs.Walk.{rows_of}
use Rattle.zarguments.specs.declared.options.NumberOption.{NumberOption}
use Rattle.zarguments.specs.Asked.{numbers_of, spelling_of}
use Rattle.zarguments.proofs.Numbers.{drop-more, joined, joined-more, joined-nil}
use Rattle.zarguments.proofs.asked.numbers_in.Goals as goal

pub loop-option-init : goal.loop-option-init
loop-option-init c =
    let all = numbers_of (map spelling_of c.args.options.now) (rows_of (found_of c.args.given.now)) in
    ap (λ (before : List ℕ). joined before all) c.new-numbers.ensures.items ∙ joined-nil all

pub loop-option-preserved : goal.loop-option-preserved
loop-option-preserved c =
    let options = c.args.options.now in
    let i = c.loop-option.option-index in
    let before = c.loop-option.numbers.items in
    let rows = rows_of (found_of c.args.given.now) in
    let none : NumberOption = record { name = record { ref_ptr = (0, 0); now = [] }; default = record { ref_ptr = (0, 0); now = [] } } in
    let rest = map spelling_of (drop (i + 1) options) in
    ap (λ (numbers : List ℕ). joined numbers (numbers_of rest rows)) c.in_ok-push.ensures.items
    ∙ joined-more before (spelling_of (get_or options i none)) rest rows c.in-Some.number (sym c.in-Some.ensures)
    ∙ ap (λ (left : List NumberOption). joined before (numbers_of (map spelling_of left) rows)) (sym (drop-more options i none c.loop-option-test.true))
    ∙ c.loop-option.invariant
