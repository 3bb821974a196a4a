-- Walks: requests that read many nodes of the tree. They make no call, since no call reads so much.
-- The source is ZooKeeper 3.8 (`FinalRequestProcessor`, `DataTree.getAllChildrenNumber`), and
-- zookeeper.jute.
use Rattle.std.specs.Prelude.{ℕ, ◌-◌, nat_eq, List, [], ◌++◌, length, filter, map, codes, Option, None, Some, unwrap_or, if◌then◌else◌}
use Rattle.std.specs.FinMap.{keys}
use Rattle.std.specs.List.{list_any, starts_with}
use Rattle.std.specs.Str.{bytes_eq}
use Rattle.zpath.specs.Grammar.{text_of}
use Rattle.ztree.specs.Tree.{Tree}
use Rattle.zjute.specs.declared.code.Code.TheVariants as code
use Rattle.zjute.specs.declared.reply.Body.TheVariants as body
use Rattle.zjute.specs.declared.request.Asked.{Asked}
use Rattle.zjute.specs.declared.request.Asked.TheVariants as asked
use Rattle.zresponses.specs.declared.answer.Answer.{Answer}
use Rattle.zresponses.specs.Answers.{done, failed, names_answer}
use Rattle.zresponses.specs.Stats.{int_of}
use Rattle.ztree_service.specs.Sizes.{owned_by}

-- these texts that begin with this one
abbrev pub beginning_with : List ℕ → List (List ℕ) → List (List ℕ)
beginning_with front texts = filter (λ text. starts_with nat_eq text front) texts

-- the paths of the session's ephemeral nodes, as texts that begin with this one
abbrev pub ephemerals : ℕ → List ℕ → Tree → List (List ℕ)
ephemerals session front t = beginning_with front (map text_of (owned_by t session))

-- how many of all paths are strictly below this one
abbrev pub count_below : List ℕ → List (List ℕ) → ℕ
count_below top texts =
    if bytes_eq top (codes "/") then length texts - 1 else length (beginning_with (top ++ codes "/") texts)

-- the answer with that number, if the path is among all
abbrev pub number_answer : List ℕ → List (List ℕ) → Answer
number_answer top texts =
    if list_any (bytes_eq top) texts then done (body.Number (int_of (count_below top texts))) else failed code.NoNode

-- the same of a tree; a null path is refused
abbrev pub number_below : Option (List ℕ) → Tree → Answer
number_below None t = failed code.MarshallingError
number_below (Some top) t = number_answer top (map text_of (keys t.nodes))

-- the answer to a request of this session, if it is a walk; a null text is empty
abbrev pub walked : ℕ → Asked → Tree → Option Answer
walked session (asked.GetEphemerals front) t = Some (names_answer (ephemerals session (unwrap_or front []) t))
walked session (asked.GetAllChildrenNumber top) t = Some (number_below top t)
walked session other t = None
