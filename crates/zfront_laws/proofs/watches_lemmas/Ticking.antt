-- A server at a scene, where a tick goes by.
use Rattle.std.proofs.Common.{◌≡◌, ◌∙◌, ℕ, true, List, [], ◌∷◌, Some, None, refl, ap, subst, inl, inr}
use Rattle.std.specs.Prelude.{◌⊎◌}
use Rattle.std.specs.List.{list_any}
use Rattle.ztree.specs.Lawful.{IsLawful}
use Rattle.zcalls.specs.declared.call.Call.{Call}
use Rattle.zcalls.specs.declared.reply.Reply.{Reply}
use Rattle.ztree_service.specs.log.Logs.{tree_after}
use Rattle.ztree_service.proofs.log_lemmas.Incarnations.{trees_can_start_again}
use Rattle.zprotocol.specs.world.FromTree.{CanStart}
use Rattle.zconnections.specs.attachments.Attachments.{touched_ids, all_rested}
use Rattle.zconnections.specs.Tables.{TablesView}
use Rattle.zfront.specs.Front.{FrontView, asked, ending, replies_to, may_end, takes_nodes, tidied_if, watched}
use Rattle.zfront.specs.Ticking.{tick_calls, rested, TicksBy, Ticks}
use Rattle.zfront_laws.specs.Logs.{done_by}
use Rattle.zfront_laws.specs.watches.Watching.{Scene, Asking}
use Rattle.zfront_laws.proofs.watches_lemmas.Marks.{rested_keeps}
use Rattle.zfront_laws.proofs.watches_lemmas.Moving.{attachments_move}
use Rattle.zfront_laws.proofs.watches_lemmas.Reaching.{At, AtIf, Reaches, becomes, behind, moves}
use Rattle.zfront_laws.proofs.Ending.{tick_calls_end}
use Rattle.zfront_laws.proofs.watches_lemmas.Scenes.{can_start}
use Rattle.zfront_laws.proofs.watches_lemmas.Tidying.{Gone, Lost, tidies}
use Rattle.zfront_laws.proofs.watches_lemmas.Doomed.{tick_covers}
use Rattle.zfront_laws.proofs.watches_lemmas.Updating.{behind_calls, next, taken, tick_taken}

-- a tick may end sessions
may_end_some : (sessions : List ℕ) → list_any may_end (tick_calls sessions) ≡ true
may_end_some [] = refl
may_end_some (id ∷ sessions) = may_end_some sessions

module _ (sessions : List ℕ) (old new : FrontView) (s : Scene) (there : At old s) where
  abbrev calls : List Call
  calls = tick_calls sessions

  abbrev reported : List Reply
  reported = replies_to calls old

  abbrev v : FrontView
  v = asked calls old

  lawful : (more : List Call) → IsLawful (tree_after old.tree more)
  lawful more = (trees_can_start_again old.tree more (subst CanStart there.tree (can_start s there.settled))).lawful

  can : CanStart old.tree
  can = subst CanStart there.tree (can_start s there.settled)

  abbrev ids : List ℕ
  ids = ending calls old.tree

  took : AtIf (Some old) v (next calls old s there) × Lost old ids v (list_any takes_nodes reported)
  took = taken calls old s there (list_any takes_nodes reported) (tick_calls_end sessions old.tree can) (tick_taken sessions old.tree lawful)

  why : (list_any takes_nodes reported ≡ true) ⊎ Gone ids v → (list_any takes_nodes reported ≡ true) ⊎ Gone ids (rested v)
  why (inl some) = inl some
  why (inr (id, gone, listed, made)) = inr (id, gone, listed, (rested_keeps v.tables.attachments).marks id made)

  still_lost : Lost old ids v (list_any takes_nodes reported) → Lost old ids (rested v) (list_any takes_nodes reported)
  still_lost (inl same) = inl same
  still_lost (inr (loses, reason)) = inr (loses, why reason)

  ticks_by : {Asks : Asking} → TicksBy calls old new → Reaches Asks new s (done_by calls old)
  ticks_by is =
      let t : TablesView = record v.tables { attachments = all_rested v.tables.attachments } in
      let done = tidied_if true reported ids (watched calls old) (rested v) in
      becomes new done s (done_by calls old) (is ∙ ap (λ b. tidied_if b reported ids (watched calls old) (rested v)) (may_end_some sessions))
      (behind_calls calls old s there done
      (behind (Some old) None (rested v) done (next calls old s there) [] []
      (moves (Some old) v (next calls old s there) t took.0 (attachments_move v.tables t.attachments) (rested_keeps v.tables.attachments))
      (λ last here. tidies reported ids old (rested v) (watched calls old) (tick_covers sessions old can) last here (still_lost took.1))))

pub ticks : {Asks : Asking} (old new : FrontView) (s : Scene) → At old s → Ticks old new → Reaches Asks new s (done_by (tick_calls (touched_ids old.tables.attachments)) old)
ticks old new s there has = ticks_by (touched_ids old.tables.attachments) old new s there has
