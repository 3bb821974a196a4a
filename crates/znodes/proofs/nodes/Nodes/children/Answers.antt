use Rattle.std.proofs.Common.{None, sym, ap, ◌∙◌}
use Rattle.std.specs.Option.{option_copied}
use Rattle.ztree.proofs.Maps.{not_none}
use Rattle.znodes.proofs.Shown.{path_of-live, own_family, names-live}
use Rattle.znodes.proofs.nodes.Nodes.children.Goals as goal

pub unreachable-requires : goal.unreachable-requires
unreachable-requires c =
    not_none _ c.requires.live (path_of-live c.self.inside c.self.invariant.linked c.args.self.now c.self.view_is c.args.id None (sym c.live.ensures ∙ ap option_copied c.in_default.is))

pub last_names-requires : goal.last_names-requires
last_names-requires c =
    own_family c.self.inside c.self.invariant.linked c.args.self.now c.self.view_is c.args.id c.in-Some.row.now (sym c.live.ensures ∙ ap option_copied c.in-Some.is)

pub returns : goal.returns
returns c =
    names-live c.self.inside c.self.invariant.linked c.args.self.now c.self.view_is c.args.id c.in-Some.row.now (sym c.live.ensures ∙ ap option_copied c.in-Some.is) c.in_ok-names.names.items c.sort_unstable.new.self.items c.in_ok-names.ensures c.sort_unstable.ensures.permutation c.sort_unstable.ensures.sorted
