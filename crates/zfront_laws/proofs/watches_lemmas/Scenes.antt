-- Scenes: how a log continues in one, and what happens in its order.
use Rattle.std.proofs.Common.{◌≡◌, ◌≢◌, ◌∙◌, ◌+◌, List, [], ◌∷◌, ◌++◌, Some, refl, sym, ap, subst, inl, inr, append_assoc, true, arith}
use Rattle.std.specs.Prelude.{map, zip, if◌then◌else◌}
use Rattle.std.specs.FinMap.{get}
use Rattle.std.proofs.lemmas.List.{append-nil}
use Rattle.ztree.specs.declared.node.Node.{Node}
use Rattle.ztree.specs.Lawful.{IsLawful}
use Rattle.ztree.specs.Tree.{Tree, Path}
use Rattle.zcalls.specs.Lists.{Among}
use Rattle.zcalls.specs.declared.call.Call.{Call}
use Rattle.zcalls.specs.declared.call.Call.TheVariants.{Update, Query}
use Rattle.zcalls.specs.declared.call.Update.{Update as Act}
use Rattle.zcalls.specs.declared.reply.Reply.{Reply}
use Rattle.zcalls.specs.CallRuns.{IsOlder, is_change}
use Rattle.zcalls.specs.Step.{step}
use Rattle.zcalls.proofs.Taking.{changes_take_one_zxid}
use Rattle.zcalls.proofs.Zxids.{IsSettled as ArePast, step-settled}
use Rattle.zops.specs.Restored.{AllDated}
use Rattle.zops.specs.RestoredLaws.{IsSettled}
use Rattle.zwatches.specs.declared.changes.event.Event.{Event}
use Rattle.zprotocol.specs.world.FromTree.{CanStart}
use Rattle.zprotocol.specs.world.PlainTree.{serve}
use Rattle.ztree_service.specs.log.Logs.{Log, calls_of, served, tree_after}
use Rattle.ztree_service.proofs.log_lemmas.Incarnations.{calls_zipped, incarnations_leave_one_tree, trees_can_start_again}
use Rattle.ztree_service.proofs.log_lemmas.Logs.{last_tree}
use Rattle.zconnections.specs.Tables.{TablesView}
use Rattle.zconnections.specs.Reporting.{reported_all}
use Rattle.zfront_laws.specs.watches.Watching.{Scene, Happening, Asking, Served, Fired, tree_of, after, May, Happens}
use Rattle.zfront_laws.proofs.Starts.{settled_trees_can_start}
use Rattle.zfront_laws.proofs.watches_lemmas.Holding.{knowing}
use Rattle.zfront_laws.proofs.watches_lemmas.Standing.{Fewer, reported_leaves}
use Rattle.zfront_laws.proofs.watches_lemmas.Telling.{AreApart, IsNowhere}

-- a service can begin with the tree of a scene: it is lawful
pub can_start : (s : Scene) → IsSettled s.start → CanStart (tree_of s)
can_start s settled = trees_can_start_again s.start (calls_of s.log) (settled_trees_can_start s.start settled)

pub is_lawful : (s : Scene) → IsSettled s.start → IsLawful (tree_of s)
is_lawful s settled = (can_start s settled).lawful

-- its nodes are older than a change that is made now
past : (t : Tree) → AllDated t → ArePast t
past t is path n e =
    let old = is path n e in record {
      older = record { czxid = omega (arith, old.czxid); mzxid = omega (arith, old.mzxid); pzxid = omega (arith, old.pzxid) };
      ctime = old.ctime;
      mtime = old.mtime;
    }

past_after : (calls : List Call) (t : Tree) → ArePast t → ArePast (tree_after t calls)
past_after [] t is = is
past_after (Update update ∷ calls) t is = past_after calls (step t 0 update).0 (step-settled t 0 update is)
past_after (Query query ∷ calls) t is = past_after calls t is

pub is_older : (s : Scene) → IsSettled s.start → (u : Act) (path : Path) (n : Node) → is_change (step (tree_of s) 0 u).1 ≡ true
    → get (tree_of s).nodes path ≡ Some n → IsOlder (step (tree_of s) 0 u).0.zxid n
is_older s settled u path n change found =
    let t = tree_of s in
    let next : (step t 0 u).0.zxid ≡ t.zxid + 1 = changes_take_one_zxid t 0 u ∙ ap (λ b. t.zxid + (if b then 1 else 0)) change in
    subst (λ z. IsOlder z n) (sym next) (past_after (calls_of s.log) s.start (past s.start settled.dated) path n found).older

-- calls are made of a tree, one after the other
abbrev pub servings : List Call → List Reply → List Happening
servings (call ∷ calls) (reply ∷ replies) = Served call reply ∷ servings calls replies
servings calls replies = []

abbrev pub logged : Scene → Log → Scene
logged s more = record s { log = s.log ++ more }

-- the tree after them
pub tree_logged : (calls : List Call) (t : Tree) (s : Scene) → tree_of s ≡ t → tree_of (logged s (zip calls (served t calls))) ≡ tree_after t calls
tree_logged calls t s is =
    incarnations_leave_one_tree s.start s.log (zip calls (served t calls)) ∙ ap (tree_after (tree_of s)) (calls_zipped t calls)
    ∙ ap (λ u. tree_after u calls) is

elsewhere : (e : Event) (q : Path) (es : List Event) → IsNowhere q es → Among e es → e.path ≢ q
elsewhere e q [] nowhere none = absurd none
elsewhere e q (first ∷ es) nowhere (inl here) = subst (λ (e : Event). e.path ≢ q) here nowhere.0
elsewhere e q (first ∷ es) nowhere (inr there) = elsewhere e q es nowhere.1 there

module _ (Asks : Asking) where
  -- what happens after something else
  pub happens_both : (hs more : List Happening) (a b c : Scene) → Happens Asks hs a b → Happens Asks more b c → Happens Asks (hs ++ more) a c
  happens_both [] more a b c is rest = subst (λ s. Happens Asks more s c) is rest
  happens_both (h ∷ hs) more a b c has rest = (has.0, happens_both hs more (after h a) b c has.1 rest)

  pub served_happens : (calls : List Call) (t : Tree) (s : Scene) → tree_of s ≡ t
      → Happens Asks (servings calls (served t calls)) s (logged s (zip calls (served t calls)))
  served_happens [] t s is = ap (λ (log : Log). record s { log = log }) (append-nil s.log)
  served_happens (call ∷ calls) t s is =
      let did = serve t 0 call in
      let next = after (Served call did.1) s in (
        ap (λ u. (serve u 0 call).1) (sym is),
        subst (λ log. Happens Asks (servings calls (served did.0 calls)) next (record s { log = log }))
            (append_assoc s.log ((call, did.1) ∷ []) (zip calls (served did.0 calls)))
            (served_happens calls did.0 next (last_tree s.log s.start call did.1 ∙ ap (λ u. (serve u 0 call).0) is)),
      )

  -- events are reported, one after the other; the watches were told of those before
  pub fired_happens : (es : List Event) (s : Scene)
      → ((first : List Event) (e : Event) (t : TablesView) → Among e es → Fewer s.tables t → (AreApart es → IsNowhere e.path first)
      → May Asks (Fired e) (record s { set_at = knowing (tree_of s).nodes first s.set_at; tables = t }))
      → Happens Asks (map (λ e. Fired e) es) s
      (record s { set_at = knowing (tree_of s).nodes es s.set_at; tables = reported_all es s.tables })
  fired_happens [] s cause = refl
  fired_happens (e ∷ es) s cause = (
    cause [] e s.tables (inl refl) (λ w stands. stands) (λ apart. tt),
    fired_happens es (after (Fired e) s)
        (λ first other t among fewer apart.
        cause (e ∷ first) other t (inr among) (λ w stands. (reported_leaves e s.tables w (fewer w stands)).0)
        (λ both. (λ same. elsewhere other e.path es both.0 among (sym same), apart both.1))),
  )
