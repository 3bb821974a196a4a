use Rattle.std.proofs.Common.{◌≡◌, ◌++◌, take}
use Rattle.std.specs.List.{flat_map}
use Rattle.zjute.specs.Replies.{result_text}
use Rattle.zjute.proofs.result_writing.put_each_result.Given as goal

abbrev pub invariant-loop-it : goal.invariant-loop-it
invariant-loop-it l = l.out.items ≡ l.fn.out.items ++ flat_map result_text (take l.it-index l.results)
