use Rattle.std.proofs.Common.{arith, string_bytes, refl}
use Rattle.zrace.specs.Text.{audit_line, node_lines}
use Rattle.zrace.proofs.Lines.{one_more, none_left}
use Rattle.zrace.proofs.outcome.Outcome.text.Goals as goal

pub loop-node-preserved : goal.loop-node-preserved
loop-node-preserved c = (
  one_more c.args.self.now.versions.items c.loop-node.node c.index.result.now c.index.result.now (string_bytes c.loop-node.text)
      (string_bytes c.write_node.new.text) (node_lines 0 c.args.self.now.versions.items)
      (omega arith) c.index.ensures c.in_ok-write_node.ensures c.loop-node.invariant.0,
  refl,
)

pub returns : goal.returns
returns c = none_left c.args.self.now.versions.items c.loop-node.node (string_bytes c.loop-node.text) (string_bytes c.write_verdict.new.text)
    (node_lines 0 c.args.self.now.versions.items) (audit_line c.args.self.now.audit) (omega arith) c.loop-node.invariant.0
    c.in_ok-write_verdict.ensures
