use Rattle.std.proofs.Common.{◌≡◌, ◌++◌, length}
use denote.Text.{Utf8}
use denote.Shadow.{shadow}
use Rattle.std.specs.List.{AllByRecursion}
use Rattle.zpath.specs.Grammar.{IsName}
use Rattle.zpath.specs.Faults.{parts_of}
use Rattle.zpath.proofs.scan.names_after.Given as goal

abbrev pub invariant-loop-name : goal.invariant-loop-name
invariant-loop-name l = record {
  text : shadow (Utf8 l.left);
  so_far : l.names.items ++ parts_of l.left ≡ parts_of l.fn.rest;
  ahead : AllByRecursion IsName (parts_of l.left);
}

abbrev pub decreases-loop-name : goal.decreases-loop-name
decreases-loop-name l = length l.left
