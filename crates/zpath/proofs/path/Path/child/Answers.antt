use Rattle.std.proofs.Common.{◌≡◌, None, rules}
use Rattle.zpath.specs.Faults.{child_fault}
use Rattle.zpath.proofs.Family.{IsPath-child}
use Rattle.zpath.proofs.path.Path.child.Goals as goal

pub of-requires : goal.of-requires
of-requires c =
    let none : child_fault c.args.self.now c.args.name.now ≡ None = search rules in
    rw (c.in_ok-names.ensures, c.names-2.ensures.names, c.in_ok-last.ensures.cases)
    (IsPath-child c.args.self.now c.args.name.now c.names.ensures.path c.keeps_its_form.ensures none)

pub returns-clause-child : goal.returns-clause-child
returns-clause-child c = rw (c.in_ok-names.ensures, c.names-2.ensures.names, c.in_ok-last.ensures.cases) at c.in_ok-of.ensures
