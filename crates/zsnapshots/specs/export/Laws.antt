-- Laws of the definitions. The functions of `src/laws.rt` promise them.
use Rattle.std.specs.Prelude.{◌≡◌, ◌≤◌, ℕ, List, [], ◌∷◌, length, Option, None, Some, Ok, if◌then◌else◌}
use Rattle.std.specs.FinMap as finite
use Rattle.std.specs.FinMap.{get}
use Rattle.base64.specs.GeneralPurpose.{IsBytes}
use Rattle.ztree.specs.declared.limits.TheConstants.{MAX_DATA, MAX_NODES, MOST_DATA}
use Rattle.ztree.specs.declared.term.Term.{Term}
use Rattle.ztree.specs.declared.node.Node.{Node}
use Rattle.ztree.specs.Tree.{Path, Tree, opening_tree}
use Rattle.ztree.specs.Lawful.{AllNodes, HasPaths, IsLawful}
use Rattle.zcalls.specs.declared.call.Call.{Call}
use Rattle.zcalls.specs.declared.call.Call.TheVariants as call
use Rattle.zcalls.specs.Part.{is_owned}
use Rattle.zcalls.specs.PlainTree.{plain_tree}
use Rattle.zscript_text.specs.declared.line.Line.{Line}
use Rattle.zscript_text.specs.declared.line.Line.TheVariants as asked
use Rattle.zscript_text.specs.Line.{line_of}
use Rattle.zscript_text.specs.Request.{Read}
use Rattle.zsnapshots.specs.Rows.{HasValidTtl}
use Rattle.zsnapshots.specs.export.Export.{export_lines}

-- ---- playing lines

-- the plain tree does a client's call; a query changes nothing
abbrev pub after_call : Tree → ℕ → Call → Tree
after_call t client (call.Update update) = (plain_tree.update t client update).0
after_call t client (call.Query query) = t

-- a line that is no call, or that isn't read, changes nothing of the tree
abbrev pub after_line : Tree → Read Line → Tree
after_line t (Ok (asked.Call request)) = after_call t request.client request.call
after_line t other = t

-- the tree after lines, each read by the language of lines, in order
abbrev pub after_lines : Tree → List (List ℕ) → Tree
after_lines t [] = t
after_lines t (line ∷ lines) = after_lines (after_line t (line_of line)) lines

-- ---- what lines say

-- What lines can say of a node: its data and its term. They say nothing of its versions, nor how
-- often its access control list was written. They don't say that a container had children, so one
-- that is empty stays until it has had some again.
pub record Said : Type 0 where
  pub bytes : List ℕ
  pub term : Term

abbrev pub said_of : Node → Said
said_of n = record { bytes = n.bytes; term = n.term }

-- what they say at a path: something where there is a node that no session owns
abbrev pub said_if : Option Node → Option Said
said_if None = None
said_if (Some n) = if is_owned n then None else Some (said_of n)

-- a node within the limits of its types: data of at most `MOST_DATA` bytes, and a TTL, if it has
-- one, from 1 to `MAX_TTL`
pub record IsWithinLimits (n : Node) : Type 0 where
  pub short : length n.bytes ≤ MOST_DATA
  pub bytes : IsBytes n.bytes
  pub ttl : HasValidTtl n.term

-- a tree that has lines: it is lawful, its keys are paths, and its nodes are within their limits
pub record HasLines (t : Tree) : Type 0 where
  pub lawful : IsLawful t
  pub paths : HasPaths t.nodes
  pub within : AllNodes IsWithinLimits t.nodes

-- A tree within the limits of a script, which are those of the profile: at most `MAX_NODES` nodes,
-- and data of at most `MAX_DATA` bytes. No line says the limits of a tree.
pub record FitsScript (t : Tree) : Type 0 where
  pub few : finite.len t.nodes ≤ MAX_NODES
  pub short : AllNodes (λ n. length n.bytes ≤ MAX_DATA) t.nodes

-- The lines of a tree that fits a script, played from the initial tree on, make a tree that has the
-- same nodes but those that a session owns. Each has the same data and the same term.
abbrev pub ExportsMakeTheirTree : Type 0
ExportsMakeTheirTree =
    (t : Tree) → HasLines t → FitsScript t → (path : Path)
    → said_if (get (after_lines opening_tree (export_lines t)).nodes path) ≡ said_if (get t.nodes path)

-- And no session owns a node of it.
abbrev pub ExportsMakeNoEphemerals : Type 0
ExportsMakeNoEphemerals = (t : Tree) → HasLines t → FitsScript t → AllNodes (λ n. n.owner ≡ 0) (after_lines opening_tree (export_lines t)).nodes
