use Rattle.std.proofs.Common.{subst, sym, None}
use Rattle.zops.specs.Machine.{MachineState}
use Rattle.zsnapshots.specs.declared.header.Header.{Header}
use Rattle.zsnapshots.specs.support.Reading.{IsReading}
use Rattle.zsnapshots.proofs.Rooted.{root_kept}
use Rattle.zsnapshots.proofs.reading.Reading.of.Goals as goal

pub invariant_of-result : goal.invariant_of-result
invariant_of-result c =
    let h = c.args.header in
    subst (λ (kept : Header). IsReading kept c.args.restoring h.sessions h.nodes h.replies None c.args.path None) (sym c.of.ensures)
    (subst (λ (u : MachineState). IsReading h u h.sessions h.nodes h.replies None c.args.path None) (sym c.requires.state)
    (root_kept h c.requires.node c.args.path c.requires.at_root c.requires.can))
