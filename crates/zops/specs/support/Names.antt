-- When a create has no path for its node: two rows of its table.
use Rattle.std.specs.Prelude.{Bool, List, [], take, drop, Option}
use Rattle.zpath.specs.First.{first_that_holds}
use Rattle.ztree.specs.Tree.{Tree, Path}
use Rattle.zcalls.specs.declared.call.Kind.{Kind}
use Rattle.zcalls.specs.declared.refusal.Refusal.{Refusal}
use Rattle.zcalls.specs.Part.{create_refusals}

-- the rows of a create's table on the path that it makes, which ask neither for the client nor for the data
abbrev pub name_refusals : Tree → Kind → Path → List (Bool × Refusal)
name_refusals t kind path = take 2 (drop 4 (create_refusals t 0 (record { path = path; kind = kind; bytes = [] })))

-- the first of these that holds
abbrev pub name_refusal : Tree → Kind → Path → Option Refusal
name_refusal t kind path = first_that_holds (name_refusals t kind path)
