use Rattle.std.proofs.Common.{sym, ◌∙◌}
use Rattle.zwatches.proofs.Removing.{kept_kind, removed_kind}
use Rattle.zwatches.proofs.removal.remove_kind.Goals as goal

pub returns-then-has_type : goal.returns-then-has_type
returns-then-has_type c =
    removed_kind c.args.connection c.args.type_of c.args.names.now c.args.kind c.args.watches.now c.remove.new.self (sym c.has_type.ensures ∙ c.if-has_type.true) c.remove.ensures.gone

pub returns-else-has_type : goal.returns-else-has_type
returns-else-has_type c =
    kept_kind c.args.connection c.args.type_of c.args.names.now c.args.kind c.args.watches.now (sym c.has_type.ensures ∙ c.if-has_type.false)
