-- A tree as a script: the lines that make it again, as far as lines can say it. The lines are those
-- of `zscript_text`. No line says the limits of the tree, or how often an access control list was
-- written. This is the project's profile.
use Rattle.std.specs.Prelude.{ℕ, List, [], ◌∷◌, ◌++◌, codes, if◌then◌else◌}
use Rattle.std.specs.Fmt.{decimal}
use Rattle.std.specs.List.{flat_map}
use Rattle.std.specs.FinMap.{entries}
use Rattle.zpath.specs.Grammar.{is_empty, text_of}
use Rattle.ztree.specs.declared.term.Term.{Term}
use Rattle.ztree.specs.declared.term.Term.TheVariants.{Unlimited, Timed, Container}
use Rattle.ztree.specs.declared.node.Node.{Node}
use Rattle.ztree.specs.Tree.{Path, Tree}
use Rattle.zcalls.specs.Part.{is_owned}
use Rattle.zscript_text.specs.LineWords.{data_text}

-- the kind of a node of this term that no session owns
abbrev pub kind_text : Term → List ℕ
kind_text Unlimited = codes "p"
kind_text (Timed ttl) = codes "t:" ++ decimal ttl
kind_text Container = codes "c"

-- client 1 creates the node
unfoldable pub create_line : Path → Node → List ℕ
create_line path n = codes "1 create " ++ text_of path ++ 32 ∷ kind_text n.term ++ 32 ∷ data_text n.bytes

-- client 1 writes the root's data
unfoldable pub set_line : List ℕ → List ℕ
set_line bytes = codes "1 set / any " ++ data_text bytes

-- the root is there already: it has a line if it has data
abbrev pub root_lines : List ℕ → List (List ℕ)
root_lines bytes = if is_empty bytes then [] else set_line bytes ∷ []

-- a node that a session owns has none
abbrev pub lines_for : Path × Node → List (List ℕ)
lines_for ([], n) = root_lines n.bytes
lines_for (name ∷ names, n) = if is_owned n then [] else create_line (name ∷ names) n ∷ []

-- in the order of paths: a parent comes before its children
abbrev pub export_lines : Tree → List (List ℕ)
export_lines t = flat_map lines_for (entries t.nodes)

-- each line ends with an LF
abbrev pub ended : List ℕ → List ℕ
ended line = line ++ 10 ∷ []

abbrev pub export_text : Tree → List ℕ
export_text t = flat_map ended (export_lines t)
