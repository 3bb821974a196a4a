use Rattle.std.proofs.Common.{sym, ap, is_some, ◌∙◌}
use Rattle.std.specs.FinMap as finite
use Rattle.znodes.proofs.index_lemmas.Finds.{names_decide, get-ids}
use Rattle.znodes.proofs.index_lemmas.Changes.{ids-removed}
use Rattle.znodes.proofs.index.Index.remove.Goals as goal

pub returns-in_err-key-clause-there : goal.returns-in_err-key-clause-there
returns-in_err-key-clause-there c =
    let path = c.args.path.now in
    ap is_some c.from_residual.ensures
    ∙ ap is_some (c.in_err-key.ensures.value ∙ sym (get-ids c.self.inside.ids.entries path)
    ∙ ap (λ v. finite.get v.ids path) c.self.view_is)

pub returns-in_err-key-clause-ids : goal.returns-in_err-key-clause-ids
returns-in_err-key-clause-ids c =
    let path = c.args.path.now in
    let updates = c.in_err-key.ensures.updates in
    ids-removed path c.self.inside.ids.entries c.remove_entry.new.self.entries
    (record { here = updates.1; elsewhere = updates.3 })
    ∙ ap (λ v. finite.remove v.ids path) c.self.view_is

pub returns-clause-key : goal.returns-clause-key
returns-clause-key c =
    sym ((names_decide c.args.path.now c.in_ok-key.key).0 c.in_ok-key.ensures.same_key)

pub returns-clause-there : goal.returns-clause-there
returns-clause-there c =
    let path = c.args.path.now in
    ap is_some (c.in_ok-key.ensures.value ∙ sym (get-ids c.self.inside.ids.entries path)
    ∙ ap (λ v. finite.get v.ids path) c.self.view_is)

pub returns-clause-ids : goal.returns-clause-ids
returns-clause-ids c =
    let path = c.args.path.now in
    let updates = c.in_ok-key.ensures.updates in
    ids-removed path c.self.inside.ids.entries c.remove_entry.new.self.entries
    (record { here = updates.1; elsewhere = updates.3 })
    ∙ ap (λ v. finite.remove v.ids path) c.self.view_is
