-- The lines of a tree, played one after the other: each node comes beneath a parent that is there.
use Rattle.std.proofs.Common.{◌≡◌, ◌≢◌, ◌⊎◌, inl, inr, ℕ, ◌+◌, ◌-◌, ◌<◌, ◌≤◌, ◌^◌, Bool, true, false, not, ◌||◌, cond}
use Rattle.std.proofs.Common.{List, [], ◌∷◌, ◌++◌, length, Option, Some, None, Ok, refl, sym, ap, subst, ◌∙◌, arith}
use lib.Dec.{T}
use Rattle.std.specs.declared.cmp.Ordering.TheVariants.{Less}
use Rattle.std.specs.Prelude.{is_some, nat_le, nat_lt, ◌==◌}
use Rattle.std.specs.Option.{option_map_or}
use Rattle.std.specs.List.{flat_map, list_any, AllByRecursion}
use Rattle.std.specs.Cmp.{tied_itself}
use Rattle.std.specs.Cmp.Lexicographic.{nat_list_cmp_total}
use Rattle.std.specs.FinMap as finite
use Rattle.std.specs.FinMap.{len-empty, len-insert, get-empty}
use Rattle.std.proofs.lemmas.Bool.Decides.{nat_tests}
use Rattle.zpath.specs.First.{first_that_holds}
use Rattle.zpath.specs.Grammar.{is_empty, is_long, is_long_text, path_cmp, text_of, IsName, IsPath}
use Rattle.zpath.specs.Numbered.{is_over}
use Rattle.zpath.specs.declared.limits.TheConstants.{MAX_NAME_LEN, MAX_TEXT_LEN}
use Rattle.zpath.proofs.First.{first_that_holds-none}
use Rattle.zpath.proofs.NameTests.{not_above}
use Rattle.ztree.specs.declared.limits.TheConstants.{MAX_NODES, ZXID_BOUND}
use Rattle.ztree.specs.declared.limits.TreeLimits.{TreeLimits}
use Rattle.ztree.specs.Limits.{profile}
use Rattle.ztree.specs.declared.term.Term.{Term}
use Rattle.ztree.specs.declared.term.Term.TheVariants.{Unlimited, Timed, Container}
use Rattle.ztree.specs.declared.node.Node.{Node}
use Rattle.ztree.specs.Tree.{Nodes, Path, Sessions, Tree, has_node, new_node, opening_tree, parent_of, with_change_at}
use Rattle.ztree.specs.Tree.{with_child, with_data, with_next_zxid, with_node}
use Rattle.ztree.specs.Lawful.{AllNodes, IsLawful, IsPersistent}
use Rattle.ztree.proofs.Maps.{get-insert-elsewhere, get-insert-here, is_there, len-insert-most, len-insert-there, same_or_other, same_some}
use Rattle.ztree.proofs.Sorted.{paths_total, same_path}
use Rattle.zstore.specs.RestoredLaws.{IsRebuilt}
use Rattle.zstore.proofs.Left.{Left, left_all, left_before, left_done, left_fewer, left_free, left_is, left_next}
use Rattle.zstore.proofs.Rebuilt.{rebuilt}
use Rattle.zstore.proofs.parts.Cached.{has-inserted}
use Rattle.zcalls.specs.declared.call.Create.{Create}
use Rattle.zcalls.specs.declared.call.Expected.TheVariants.{Any}
use Rattle.zcalls.specs.declared.call.Lifetime.{Lifetime}
use Rattle.zcalls.specs.declared.change.ChangeReply.TheVariants.{Created}
use Rattle.zcalls.specs.declared.call.Update.TheVariants as act
use Rattle.zcalls.specs.Part.{create_refusals, create_step, is_owned, is_root, has_no_owner, named, node_has, owner_of, set_step, term_of}
use Rattle.zcalls.specs.Step.{step}
use Rattle.zscript_text.specs.Line.{line_of}
use Rattle.zops.proofs.Creating.{created-done}
use Rattle.zsnapshots.specs.export.Export.{create_line, export_lines, lines_for, root_lines, set_line}
use Rattle.zsnapshots.specs.export.Laws.{after_line, after_lines, said_of, ExportsMakeNoEphemerals, ExportsMakeTheirTree, FitsScript, HasLines, IsWithinLimits, said_if}
use Rattle.zsnapshots.proofs.export_lemmas.Data.{nothing}
use Rattle.zsnapshots.proofs.export_lemmas.Lines.{create_read, lifetime_for, set_read}
use Rattle.zsnapshots.proofs.export_lemmas.Shown.{Mirrors, kept, kept_there, len-changed, made_unowned, mirrors_more, mirrors_owned}
use Rattle.zsnapshots.proofs.export_lemmas.Shown.{not_shown, owner_none, same_said, shown, shown-changed, shown_of, unowned}

-- lines in two parts
pub after_lines-append : (t : Tree) (a b : List (List ℕ)) → after_lines t (a ++ b) ≡ after_lines (after_lines t a) b
after_lines-append t [] b = refl
after_lines-append t (line ∷ a) b = after_lines-append (after_line t (line_of line)) a b

-- a path is above that of its parent
parent_before : (path : Path) → path ≢ [] → path_cmp (parent_of path) path ≡ Less
parent_before [] below = absurd (below refl)
parent_before (n ∷ []) below = refl
parent_before (n ∷ (m ∷ path)) below = rw (tied_itself nat_list_cmp_total n) (parent_before (m ∷ path) (λ e. cc))

-- ---- one create

no_long_name : (path : Path) → AllByRecursion IsName path → list_any is_long path ≡ false
no_long_name [] are = refl
no_long_name (name ∷ names) are = rw (not_above MAX_NAME_LEN (length name) are.0.short) (no_long_name names are.1)

not_over : (path : Path) → IsPath path → is_over path ≡ false
not_over path is = rw (no_long_name path is.names, not_above MAX_TEXT_LEN (length (text_of path)) is.short) refl

under : (limit n : ℕ) → n < limit → nat_le limit n ≡ false
under limit n h = grind (arith, nat_tests)

len-more : (nodes : Nodes) (path : Path) (n : Node) (most : ℕ) → finite.len nodes < most → finite.len (finite.insert nodes path n) ≤ most
len-more nodes path n most few = len-insert-most paths_total same_path nodes path n most few

-- a lifetime of a node without an owner
record IsPlain (l : Lifetime) (term : Term) : Type 0 where
  nobodys : owner_of l ≡ 0
  lives : term_of l ≡ term
  there : (sessions : Sessions) (client : ℕ) → has_no_owner sessions client l ≡ false

plain_lifetime : (term : Term) → IsPlain (lifetime_for term) term
plain_lifetime Unlimited = record { nobodys = refl; lives = refl; there = λ sessions client. refl }
plain_lifetime (Timed ttl) = record { nobodys = refl; lives = refl; there = λ sessions client. refl }
plain_lifetime Container = record { nobodys = refl; lives = refl; there = λ sessions client. refl }

-- the tree after a node came
abbrev with_one : Tree → Path → List ℕ → Term → Tree
with_one u path bytes term = with_next_zxid (with_node u path bytes 0 term false)

-- no test of a create holds
record CanCome (u : Tree) (path : Path) : Type 0 where
  below : is_root path ≡ false
  above : not (has_node u.nodes (parent_of path)) ≡ false
  persistent : node_has is_owned u.nodes (parent_of path) ≡ false
  fits : is_over path ≡ false
  free : has_node u.nodes path ≡ false
  few : nat_le u.limits.nodes (finite.len u.nodes) ≡ false
  young : nat_le (ZXID_BOUND - 1) u.zxid ≡ false

module _ (u : Tree) (path : Path) (bytes : List ℕ) (term : Term) (l : Lifetime) (plain : IsPlain l term) where
  abbrev create : Create
  create = record { path = path; kind = named l; bytes = bytes }

  not_refused : CanCome u path → first_that_holds (create_refusals u 1 create) ≡ None
  not_refused can = first_that_holds-none (create_refusals u 1 create)
      (plain.there u.sessions 1, (can.below, (can.above, (can.persistent, (refl, (can.fits, (can.free, (can.few, tt))))))))

  done : CanCome u path → create_step u 1 create ≡ Ok (with_node u path bytes 0 term false, Created path)
  done can = rw (plain.nobodys, plain.lives) at (created-done u 1 create (not_refused can))

  step_create : CanCome u path → (step u 1 (act.Create create)).0 ≡ with_one u path bytes term
  unfolding step
  step_create can = rw (can.young, done can) refl

-- ---- the nodes so far

-- the tree of the lines so far has of the nodes so far what lines can say
record IsMade (now : Nodes) (u : Tree) : Type 0 where
  mirrors : Mirrors now u.nodes
  few : finite.len u.nodes ≤ finite.len now
  young : u.zxid ≤ finite.len now
  within : u.limits ≡ profile

module _ (t : Tree) (has : HasLines t) (fits_script : FitsScript t) where
  abbrev nodes_left : Nodes → List (Path × Node) → Type 0
  nodes_left = Left paths_total same_path t.nodes

  module _ (now : Nodes) (path : Path) (n : Node) (rest : List (Path × Node)) (left : nodes_left now ((path, n) ∷ rest))
      (u : Tree) (made : IsMade now u) where
    is_there_now : finite.get t.nodes path ≡ Some n
    is_there_now = left_is paths_total same_path t.nodes now (path, n) rest left

    free_now : finite.get now path ≡ None
    free_now = left_free paths_total same_path t.nodes now (path, n) rest left

    longer : finite.len (finite.insert now path n) ≡ finite.len now + 1
    longer = len-insert paths_total now path n ∙ ap (λ b. cond b (finite.len now) (finite.len now + 1)) (ap is_some free_now)

    fewer : finite.len now + 1 ≤ MAX_NODES
    fewer =
        let all = left_fewer paths_total same_path t.nodes now (path, n) rest left in
        let few = fits_script.few in
        omega (arith, all, few)

    -- an ephemeral node leaves the tree as it is
    made_owned : is_owned n ≡ true → IsMade (finite.insert now path n) u
    made_owned owned = record {
      mirrors = mirrors_owned now u.nodes path n owned free_now made.mirrors;
      few = let more = longer in let few = made.few in omega (arith, more, few);
      young = let more = longer in let young = made.young in omega (arith, more, young);
      within = made.within;
    }

    module _ (below : path ≢ []) (root : is_root path ≡ false) (nobodys : is_owned n ≡ false) where
      above : IsPersistent (finite.get now (parent_of path))
      above = subst IsPersistent (sym (left_before paths_total same_path t.nodes now (path, n) rest left (parent_of path) (parent_before path below)))
          (has.lawful.parents path (is_there _ n is_there_now))

      above_made : (m : Node) × (finite.get u.nodes (parent_of path) ≡ Some m)
      above_made = kept_there (finite.get u.nodes (parent_of path)) above.0 above.2 (made.mirrors (parent_of path) ∙ ap kept above.1)

      above_unowned : node_has is_owned u.nodes (parent_of path) ≡ false
      above_unowned =
          let m = above_made.0 in
          let nobody = made_unowned (finite.get u.nodes (parent_of path)) (finite.get now (parent_of path)) m
          (made.mirrors (parent_of path)) above_made.1 in
          ap (λ (o : Option Node). option_map_or is_owned o false) above_made.1 ∙ unowned m nobody

      can_come : CanCome u path
      can_come = record {
        below = root;
        above = ap (λ (o : Option Node). not (is_some o)) above_made.1;
        persistent = above_unowned;
        fits = not_over path (has.paths path (is_there _ n is_there_now));
        free = ap is_some (not_shown (finite.get u.nodes path) (made.mirrors path ∙ ap kept free_now));
        few =
            let most = fewer in
            let fewest = made.few in
            ap (λ (l : TreeLimits). nat_le l.nodes (finite.len u.nodes)) made.within
            ∙ under MAX_NODES (finite.len u.nodes) (omega (arith, most, fewest));
        young = let most = fewer in let early = made.young in under (ZXID_BOUND - 1) u.zxid (omega (arith, most, early));
      }

      comes : after_line u (line_of (create_line path n)) ≡ with_one u path n.bytes n.term
      comes =
          let is = has.paths path (is_there _ n is_there_now) in
          let within = has.within path n is_there_now in
          ap (after_line u) (create_read path n is within (fits_script.short path n is_there_now)) ∙ step_create u path n.bytes n.term (lifetime_for n.term) (plain_lifetime n.term) can_come

      new_shown : shown_of (new_node n.bytes 0 n.term (u.zxid + 1) u.time) ≡ (0, said_of n)
      new_shown = refl

      with_one_made : IsMade (finite.insert now path n) (with_one u path n.bytes n.term)
      with_one_made =
          let new = new_node n.bytes 0 n.term (u.zxid + 1) u.time in
          let raised = with_child (u.zxid + 1) false in
          record {
            mirrors = λ q. shown-changed (finite.insert u.nodes path new) (parent_of path) raised (λ m. refl) q
                ∙ mirrors_more now u.nodes path n new nobodys new_shown made.mirrors q;
            few =
                let more = longer in
                let few = made.few in
                len-changed (finite.insert u.nodes path new) (parent_of path) raised (finite.len (finite.insert now path n))
                (len-more u.nodes path new (finite.len (finite.insert now path n)) (omega (arith, more, few)));
            young = let more = longer in let young = made.young in omega (arith, more, young);
            within = made.within;
          }

      made_more : IsMade (finite.insert now path n) (after_line u (line_of (create_line path n)))
      made_more = subst (IsMade (finite.insert now path n)) (sym comes) with_one_made

  -- the next node
  made_next : (now : Nodes) (e : Path × Node) (rest : List (Path × Node)) → nodes_left now (e ∷ rest) → has_node now [] ≡ true
      → (u : Tree) → IsMade now u
      → IsMade (finite.insert now e.0 e.1) (after_lines u (lines_for e))
  made_next now ([], n) rest left root u made =
      let clash : false ≡ true = sym (ap is_some (left_free paths_total same_path t.nodes now ([], n) rest left)) ∙ root in
      cc clash
  made_next now ((name ∷ names), n) rest left root u made = by (is_owned n) refl
    where
      by : (b : Bool) → is_owned n ≡ b → IsMade (finite.insert now (name ∷ names) n) (after_lines u (cond b [] (create_line (name ∷ names) n ∷ [])))
      by true owned = made_owned now (name ∷ names) n rest left u made owned
      by false nobodys = made_more now (name ∷ names) n rest left u made (λ e. cc) refl nobodys

  made_all : (now : Nodes) (rest : List (Path × Node)) → nodes_left now rest → has_node now [] ≡ true → (u : Tree) → IsMade now u
      → IsMade t.nodes (after_lines u (flat_map lines_for rest))
  made_all now [] left root u made = subst (λ (m : Nodes). IsMade m u) (left_done paths_total same_path t.nodes now left) made
  made_all now (e ∷ rest) left root u made =
      let next = made_all (finite.insert now e.0 e.1) rest (left_next paths_total same_path t.nodes now e rest left)
      (has-inserted now e.0 e.1 [] root) (after_lines u (lines_for e))
      (made_next now e rest left root u made) in
      subst (IsMade t.nodes) (sym (after_lines-append u (lines_for e) (flat_map lines_for rest))) next

  -- ---- the root

  abbrev own : IsRebuilt t
  own = rebuilt t has.lawful

  left_root : nodes_left finite.empty (([], own.root) ∷ own.rows)
  left_root = subst (nodes_left finite.empty) own.listed (left_all paths_total same_path t.nodes)

  root_is : finite.get t.nodes [] ≡ Some own.root
  root_is = left_is paths_total same_path t.nodes finite.empty ([], own.root) own.rows left_root

  abbrev first : Nodes
  first = finite.insert finite.empty [] own.root

  -- a map whose root has the data, and which has nothing else
  mirrors_root : (made : Nodes) (m : Node) → shown_of m ≡ (0, said_of own.root) → ((q : Path) → q ≢ [] → finite.get made q ≡ None)
      → Mirrors first (finite.insert made [] m)
  mirrors_root made m same_root none q = by (same_or_other paths_total same_path q [])
    where
      by : (q ≡ []) ⊎ (q ≢ []) → shown (finite.get (finite.insert made [] m) q) ≡ kept (finite.get first q)
      by (inl same) =
          ap shown (ap (finite.get (finite.insert made [] m)) same ∙ get-insert-here paths_total same_path made [] m) ∙ ap Some same_root
          ∙ sym (ap kept (ap (finite.get first) same ∙ get-insert-here paths_total same_path finite.empty [] own.root)
          ∙ ap (λ b. cond b None (Some (0, said_of own.root))) (unowned own.root own.can_root.nobodys))
      by (inr other) =
          ap shown (get-insert-elsewhere paths_total same_path made [] m q other ∙ none q other)
          ∙ sym (ap kept (get-insert-elsewhere paths_total same_path finite.empty [] own.root q other ∙ get-empty path_cmp q))

  len_first : finite.len first ≡ 1
  len_first = len-insert paths_total finite.empty [] own.root
      ∙ ap (λ (o : Option Node). cond (is_some o) (finite.len (finite.empty {X = Node} {R = path_cmp}))
      (finite.len (finite.empty {X = Node} {R = path_cmp}) + 1)) (get-empty path_cmp []) ∙ ap (λ k. k + 1) (len-empty path_cmp Node)

  abbrev no_data : Node
  no_data = new_node [] 0 Unlimited 0 0

  len_opening : finite.len opening_tree.nodes ≡ 1
  len_opening = len-insert paths_total finite.empty [] no_data
      ∙ ap (λ (o : Option Node). cond (is_some o) (finite.len (finite.empty {X = Node} {R = path_cmp}))
      (finite.len (finite.empty {X = Node} {R = path_cmp}) + 1)) (get-empty path_cmp []) ∙ ap (λ k. k + 1) (len-empty path_cmp Node)

  opening_root : finite.get opening_tree.nodes [] ≡ Some no_data
  opening_root = get-insert-here paths_total same_path finite.empty [] no_data

  opening_alone : (q : Path) → q ≢ [] → finite.get opening_tree.nodes q ≡ None
  opening_alone q other = get-insert-elsewhere paths_total same_path finite.empty [] no_data q other ∙ get-empty path_cmp q

  root_without : own.root.bytes ≡ [] → IsMade first opening_tree
  root_without nothing = record {
    mirrors = mirrors_root finite.empty no_data (λ i. (0, record { bytes = sym nothing i; term = sym own.can_root.stays i }))
        (λ q other. get-empty path_cmp q);
    few = let a = len_first in let b = len_opening in omega (arith, a, b);
    young = let a = len_first in omega (arith, a);
    within = refl;
  }

  abbrev root_set : Node
  root_set = with_data own.root.bytes 1 0 no_data

  abbrev with_root : Tree
  with_root = record opening_tree { nodes = finite.insert opening_tree.nodes [] root_set; zxid = 1 }

  set_done : (step opening_tree 1 (act.SetData (record { path = []; bytes = own.root.bytes; version = Any }))).0 ≡ with_root
  unfolding step set_step
  set_done = rw opening_root refl

  root_with : IsMade first with_root
  root_with = record {
    mirrors = mirrors_root opening_tree.nodes root_set (λ i. (0, record { bytes = own.root.bytes; term = sym own.can_root.stays i })) opening_alone;
    few =
        let a = len_first in
        let b = len_opening in
        len-insert-there paths_total same_path opening_tree.nodes [] root_set no_data (finite.len first) opening_root (omega (arith, a, b));
    young = let a = len_first in omega (arith, a);
    within = refl;
  }

  set_comes : after_line opening_tree (line_of (set_line own.root.bytes)) ≡ with_root
  set_comes =
      let within = has.within [] own.root root_is in
      ap (after_line opening_tree) (set_read own.root.bytes within.bytes (fits_script.short [] own.root root_is)) ∙ set_done

  made_root : IsMade first (after_lines opening_tree (root_lines own.root.bytes))
  made_root = by (is_empty own.root.bytes) refl
    where
      by : (b : Bool) → is_empty own.root.bytes ≡ b → IsMade first (after_lines opening_tree (cond b [] (set_line own.root.bytes ∷ [])))
      by true none = root_without (nothing own.root.bytes none)
      by false some = subst (IsMade first) (sym set_comes) root_with

  all_made : IsMade t.nodes (after_lines opening_tree (export_lines t))
  all_made =
      let made = made_all first own.rows (left_next paths_total same_path t.nodes finite.empty ([], own.root) own.rows left_root)
      (ap is_some (get-insert-here paths_total same_path finite.empty [] own.root)) (after_lines opening_tree (root_lines own.root.bytes))
      made_root in
      subst (λ es. IsMade t.nodes (after_lines opening_tree (flat_map lines_for es))) (sym own.listed)
      (subst (IsMade t.nodes) (sym (after_lines-append opening_tree (root_lines own.root.bytes) (flat_map lines_for own.rows))) made)

pub exports_make_their_tree : ExportsMakeTheirTree
exports_make_their_tree t has fits path =
    let u = after_lines opening_tree (export_lines t) in
    same_said (finite.get u.nodes path) (finite.get t.nodes path) ((all_made t has fits).mirrors path)

pub exports_make_no_ephemerals : ExportsMakeNoEphemerals
exports_make_no_ephemerals t has fits path n at =
    let u = after_lines opening_tree (export_lines t) in
    made_unowned (finite.get u.nodes path) (finite.get t.nodes path) n ((all_made t has fits).mirrors path) at
