use Rattle.std.proofs.Common.{List, ℕ, ◌++◌, ap, ◌∙◌}
use Rattle.std.proofs.lemmas.Result.{err_from_is_err_and}
use Rattle.zwire.proofs.Names.{below_fails, below_gives}
use Rattle.zwire.proofs.list_reading.name_with.Goals as goal

pub returns-in_err-path : goal.returns-in_err-path
returns-in_err-path c =
    let p = err_from_is_err_and c.from_residual-in_err-path.result c.from_residual-in_err-path.ensures.1 in
    let child = c.deref.ensures.value ∙ c.in_ok-extend_from_slice.ensures.items
    ∙ ap (λ (b : List ℕ). b ++ c.args.text.now) c.in_ok-child.ensures.items in
    rw (p.1, p.2) (below_fails c.args.text.now c.deref.result.now c.in_err-path.field-0.0 child c.in_err-path.ensures)

pub returns : goal.returns
returns c =
    let child = c.deref.ensures.value ∙ c.in_ok-extend_from_slice.ensures.items
    ∙ ap (λ (b : List ℕ). b ++ c.args.text.now) c.in_ok-child.ensures.items in
    below_gives c.args.text.now c.deref.result.now c.in_ok-path.path c.last_of_two.result child c.in_ok-path.ensures
    (rw c.names.ensures.names at c.last_of_two.ensures)
