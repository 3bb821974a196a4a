-- Which row of a state has which number.
use Rattle.std.proofs.Common.{◌≡◌, ℕ, ◌+◌, ◌^◌, ◌<◌, ◌≤◌, List, [], ◌∷◌, ◌++◌, length, map, take, drop, Bool, true, false}
use Rattle.std.proofs.Common.{Option, Some, None, Result, Ok, Err, refl, sym, ap, subst, ◌∙◌, arith}
use Rattle.std.proofs.lemmas.List.{length-map, length-take, length-append, length-drop}
use Rattle.std.specs.Prelude.{OnOk, is_some}
use Rattle.std.specs.Ordering.{nat_cmp}
use Rattle.std.specs.FinMap as finite
use Rattle.zpath.specs.Grammar.{path_cmp}
use Rattle.ztree.specs.declared.node.Node.{Node}
use Rattle.ztree.specs.declared.session.Session.{Session}
use Rattle.ztree.specs.Tree.{Tree, Path}
use Rattle.ztree.specs.Lawful.{IsLawful}
use Rattle.ztree.proofs.Maps.{none_some}
use Rattle.zcalls.specs.Cached.{Cached}
use Rattle.zops.specs.Machine.{MachineState}
use Rattle.zops.specs.declared.limits.TheConstants.{MAX_APPLIED}
use Rattle.zsnapshots.specs.States.{StateRow, KeysView, AreKeysOf, Fits, spelled, head_of, sessions_of, nodes_of, replies_of, below_of, body_of, rows_of, written_of}
use Rattle.zsnapshots.specs.States.StateRow.{OfHeader, OfSession, OfNode, OfReply}
use Rattle.zsnapshots.specs.States.{IsItem, IsRow}
use Rattle.zsnapshots.proofs.Keys.{entries-empty}
use Rattle.zsnapshots.proofs.Places.{At, at_left, at_right, at_below, at_map}

-- an item is a row, by the position of the row
pub row_of : {A : Type 0} (s : MachineState) (kind : A → StateRow) (items : List A) (i n : ℕ) (before after : List ℕ) →
    ((x : A) → At items i x → At (rows_of s) n (kind x)) → IsItem kind items i before after → IsRow s n before after
row_of s kind items i n before after place it =
    record { item = kind it.item; next = place it.item it.next; bytes = it.bytes; fits = it.fits }

module _ (s : MachineState) where
  abbrev root_rows : List StateRow
  root_rows = map OfNode (take 1 (nodes_of s))

  one_root : 0 < length (nodes_of s) → length root_rows ≡ 1
  one_root some = length-map (take 1 (nodes_of s)) OfNode ∙ by (nodes_of s) some
    where
      by : (nodes : List (Path × Node)) → 0 < length nodes → length (take 1 nodes) ≡ 1
      by [] some = absurd (omega (arith, some))
      by (e ∷ nodes) some = refl

  -- after the header and the root
  behind_root : (i n : ℕ) (x : StateRow) → 0 < length (nodes_of s) → n ≡ i + 2 →
      At (map OfSession (sessions_of s) ++ (map OfNode (below_of s) ++ map OfReply (replies_of s))) i x → At (rows_of s) n x
  behind_root i n x some is at =
      let rest = map OfSession (sessions_of s) ++ (map OfNode (below_of s) ++ map OfReply (replies_of s)) in
      let one = one_root some in
      let here : length (OfHeader (head_of s) ∷ []) + (length root_rows + i) ≡ n = omega (arith, one, is) in
      subst (λ (k : ℕ). At (rows_of s) k x) here
      (at_right (OfHeader (head_of s) ∷ []) (body_of s) (length root_rows + i) x (at_right root_rows rest i x at))

  pub root_place : (n : ℕ) (e : Path × Node) → n ≡ 1 → At (nodes_of s) 0 e → At (rows_of s) n (OfNode e)
  root_place n e is at =
      let rest = map OfSession (sessions_of s) ++ (map OfNode (below_of s) ++ map OfReply (replies_of s)) in
      let first : At (rows_of s) 1 (OfNode e) =
      subst (λ (nodes : List (Path × Node)). map OfNode (take 1 nodes) ++ rest ≡ OfNode e ∷ drop 1 (map OfNode (take 1 nodes) ++ rest))
      (sym at) refl in
      subst (λ (k : ℕ). At (rows_of s) k (OfNode e)) (sym is) first

  pub session_place : (i n : ℕ) (e : ℕ × Session) → 0 < length (nodes_of s) → i < length (sessions_of s) → n ≡ i + 2
      → At (sessions_of s) i e → At (rows_of s) n (OfSession e)
  session_place i n e some within is at =
      let more = map OfNode (below_of s) ++ map OfReply (replies_of s) in
      let long = length-map (sessions_of s) OfSession in
      behind_root i n (OfSession e) some is
      (at_left (map OfSession (sessions_of s)) more i (OfSession e) (omega (arith, within, long)) (at_map OfSession (sessions_of s) i e at))

  -- after the sessions
  behind_sessions : (i n : ℕ) (x : StateRow) → 0 < length (nodes_of s) → n ≡ length (sessions_of s) + i + 2 →
      At (map OfNode (below_of s) ++ map OfReply (replies_of s)) i x → At (rows_of s) n x
  behind_sessions i n x some is at =
      let long = length-map (sessions_of s) OfSession in
      behind_root (length (map OfSession (sessions_of s)) + i) n x some (omega (arith, long, is))
      (at_right (map OfSession (sessions_of s)) (map OfNode (below_of s) ++ map OfReply (replies_of s)) i x at)

  pub node_place : (i n : ℕ) (e : Path × Node) → 0 < length (nodes_of s) → i < length (below_of s) → n ≡ length (sessions_of s) + i + 2
      → At (nodes_of s) (i + 1) e → At (rows_of s) n (OfNode e)
  node_place i n e some within is at =
      let long = length-map (below_of s) OfNode in
      behind_sessions i n (OfNode e) some is
      (at_left (map OfNode (below_of s)) (map OfReply (replies_of s)) i (OfNode e) (omega (arith, within, long))
      (at_map OfNode (below_of s) i e (at_below (nodes_of s) i e at)))

  pub reply_place : (i n : ℕ) (e : ℕ × Cached) → 0 < length (nodes_of s) → n ≡ length (sessions_of s) + (length (below_of s) + i) + 2
      → At (replies_of s) i e → At (rows_of s) n (OfReply e)
  reply_place i n e some is at =
      let long = length-map (below_of s) OfNode in
      behind_sessions (length (map OfNode (below_of s)) + i) n (OfReply e) some (omega (arith, long, is))
      (at_right (map OfNode (below_of s)) (map OfReply (replies_of s)) i (OfReply e) (at_map OfReply (replies_of s) i e at))

-- the header has number 0
pub header_row : (s : MachineState) (n : ℕ) (before after : List ℕ) → n ≡ 0 → after ≡ before ++ spelled (OfHeader (head_of s))
    → Fits (OfHeader (head_of s)) → IsRow s n before after
header_row s n before after is bytes fits =
    let first : At (rows_of s) 0 (OfHeader (head_of s)) = refl in
    record {
      item = OfHeader (head_of s);
      next = subst (λ (k : ℕ). At (rows_of s) k (OfHeader (head_of s))) (sym is)
          first;
      bytes = bytes;
      fits = fits;
    }

-- an item that was written at its position
pub item_ok : {A E : Type 0} (kind : A → StateRow) (items : List A) (i : ℕ) (before after : List ℕ) (r : Result (Unit {0}) E) (a : A) → At items i a →
    OnOk r (after ≡ before ++ spelled (kind a)) → OnOk r (Fits (kind a)) → OnOk r (IsItem kind items i before after)
item_ok kind items i before after (Ok u) a at bytes fits = record { item = a; next = at; bytes = bytes; fits = fits }
item_ok kind items i before after (Err e) a at bytes fits = tt

pub both_ok : {A E : Type 0} (P Q : Type 0) (r : Result A E) → OnOk r P → Q → OnOk r (P × Q)
both_ok P Q (Ok x) p q = (p, q)
both_ok P Q (Err e) p q = tt

pub none_there : {A : Type 0} (o : Option A) → false ≡ is_some o → o ≡ None
none_there None no_one = refl
none_there (Some x) no_one = cc

-- where a cached reply is written, all are
pub kept_is : (is_alone : Bool) (s : MachineState) (i : ℕ) → i < length (replies_of (written_of is_alone s))
    → (written_of is_alone s).service.kept ≡ s.service.kept
kept_is true s i within = let none = ap length (entries-empty {X = Cached} nat_cmp) in absurd (omega (arith, within, none))
kept_is false s i within = refl

-- no more entries are counted than were applied
pub few_applied : (is_alone : Bool) (s : MachineState) → s.applied ≤ MAX_APPLIED → (written_of is_alone s).applied ≤ MAX_APPLIED
few_applied true s few = omega arith
few_applied false s few = few

-- a lawful tree has a root
pub nodes_some : (t : Tree) → IsLawful t → 0 < length (finite.entries t.nodes)
nodes_some t lawful = by (finite.entries t.nodes) refl
  where
    by : (es : List (Path × Node)) → finite.entries t.nodes ≡ es → 0 < length es
    by [] none =
        let found = sym lawful.root.1 ∙ finite.get-entries t.nodes [] ∙ ap (finite.find path_cmp []) none in
        absurd (none_some lawful.root.0 (sym found))
    by (e ∷ es) some = omega arith

-- a row's number is small
pub row_room : (keys : KeysView) (s : MachineState) (n : ℕ) (before after : List ℕ) → AreKeysOf keys s → IsRow s n before after → n + 1 < 2 ^ 64
row_room keys s n before after are row =
    let t = s.service.plain in
    let last = map OfReply (replies_of s) in
    let nodes = map OfNode (below_of s) ++ last in
    let sessions = map OfSession (sessions_of s) ++ nodes in
    let left = length-drop n (rows_of s) in
    let some : 0 < length (drop n (rows_of s)) = subst (λ (l : List StateRow). 0 < length l) (sym row.next) (omega arith) in
    let whole = length-append (map OfNode (take 1 (nodes_of s))) sessions in
    let further = length-append (map OfSession (sessions_of s)) nodes in
    let rest = length-append (map OfNode (below_of s)) last in
    let root = length-map (take 1 (nodes_of s)) OfNode in
    let one = length-take 1 (nodes_of s) in
    let ids = length-map (sessions_of s) OfSession in
    let below = length-map (below_of s) OfNode in
    let less = length-drop 1 (nodes_of s) in
    let replies = length-map (replies_of s) OfReply in
    let kept = ap length are.clients ∙ length-map (replies_of s) (λ e. e.0) in
    let all_sessions = finite.len-entries t.sessions in
    let all_nodes = finite.len-entries t.nodes in
    let few_sessions = are.settled.lawful.few_sessions in
    let few_nodes = are.settled.lawful.few_nodes in
    let few_clients = are.few_clients in
    let most_sessions = are.settled.lawful.allowed.few_sessions in
    let most_nodes = are.settled.lawful.allowed.few_nodes in
    omega (arith, left, some, whole, further, rest, root, one, ids, below, less, replies, kept, all_sessions, all_nodes, few_sessions, few_nodes, few_clients, most_sessions, most_nodes)
