use Rattle.std.proofs.Common.{arith}
use Rattle.zpath.proofs.Family.{segments_fit, length-text_of-child}
use Rattle.zpath.proofs.scan.child_len.Goals as goal

pub text_len-requires : goal.text_len-requires
text_len-requires c = segments_fit _ c.requires

pub overflow_add-result : goal.overflow_add-result
overflow_add-result c = omega (arith, segments_fit c.args.path.now c.requires)

pub overflow_add-result-2 : goal.overflow_add-result-2
overflow_add-result-2 c = omega (arith, segments_fit c.args.path.now c.requires)

pub returns : goal.returns
returns c = rw (length-text_of-child, c.text_len.ensures, c.as_str.ensures.text)
