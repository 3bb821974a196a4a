-- What a server does on one connection where it tidies: it is calm.
use Rattle.std.proofs.Common.{◌≡◌, ℕ, Bool, true, false, List, sym, subst}
use Rattle.std.specs.List.{list_any}
use Rattle.ztree.specs.Tree.{Path}
use Rattle.zcalls.specs.declared.call.Call.{Call}
use Rattle.zcalls.specs.declared.reply.Reply.{Reply}
use Rattle.zconnections.specs.Tables.{TablesView}
use Rattle.zresponses.specs.effects.Looking.{seen}
use Rattle.zfront.specs.Front.{FrontView, with_tables, ending, may_end, gone_from, replies_to, swept, took_unnamed, looks, looked_if, tidied_if}
use Rattle.zfront.specs.Front.{tidied_of, watched}
use Rattle.zfront_laws.proofs.frames_lemmas.Calm as table
use Rattle.zfront_laws.proofs.frames_lemmas.Calm.{Calm}

module _ (c : ℕ) where
  -- what a server became
  pub becomes : (old new like : FrontView) → new ≡ like → Calm c old.tables like.tables → Calm c old.tables new.tables
  becomes old new like is calm = subst (λ (v : FrontView). Calm c old.tables v.tables) (sym is) calm

  pub same : (old new : FrontView) → new ≡ old → Calm c old.tables new.tables
  same old new is = becomes old new old is (table.same c old.tables)

  pub retabled : (t : TablesView) (old new : FrontView) → new ≡ with_tables t old → Calm c old.tables t → Calm c old.tables new.tables
  retabled t old new is calm = becomes old new (with_tables t old) is calm

  pub both : (old middle new : FrontView) → Calm c old.tables middle.tables → Calm c middle.tables new.tables → Calm c old.tables new.tables
  both old middle new one two = table.both c old.tables middle.tables new.tables one two

  looks_if : (took : Bool) (paths : List Path) (v : FrontView) → Calm c v.tables (looked_if took paths v).tables
  looks_if false paths v = table.same c v.tables
  looks_if true paths v = table.reports_all c (seen v.tree.zxid paths (looks v.tree paths)) v.tables

  tidies_if : (may : Bool) (replies : List Reply) (ids : List ℕ) (paths : List Path) (v : FrontView)
      → Calm c v.tables (tidied_if may replies ids paths v).tables
  tidies_if false replies ids paths v = table.same c v.tables
  tidies_if true replies ids paths v =
      both v (swept ids v) (looked_if (took_unnamed replies ids v) paths (swept ids v)) (table.sweeps_all c (gone_from ids v) v.tables)
      (looks_if (took_unnamed replies ids v) paths (swept ids v))

  pub tidies : (calls : List Call) (was v new : FrontView) → new ≡ tidied_of calls was v → Calm c v.tables new.tables
  tidies calls was v new is =
      becomes v new (tidied_of calls was v) is
      (tidies_if (list_any may_end calls) (replies_to calls was) (ending calls was.tree) (watched calls was) v)
