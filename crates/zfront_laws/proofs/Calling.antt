-- A step at which calls are made. After them sessions are swept, and watched nodes are looked at.
use Rattle.std.proofs.Common.{◌≡◌, ◌∙◌, ℕ, ◌≤◌, Bool, true, false, List, [], ◌++◌, refl, sym, ap, subst, arith}
use Rattle.std.specs.FinMap.{contains_key}
use Rattle.std.specs.List.{list_any}
use Rattle.std.specs.Ordering.{eq_by_cmp, nat_cmp}
use Rattle.ztree.specs.Tree.{Path}
use Rattle.zcalls.specs.declared.call.Call.{Call}
use Rattle.zcalls.specs.declared.reply.Reply.{Reply}
use Rattle.zconnections.specs.buffers.Streams.{held_of}
use Rattle.ztree_service.specs.log.Logs.{tree_after}
use Rattle.ztree_service.proofs.log_lemmas.Incarnations.{calls_zipped, leads_by, trees_can_start_again}
use Rattle.zconnections.specs.Tables.{TablesView}
use Rattle.zresponses.specs.effects.Looking.{seen}
use Rattle.zfront.specs.Front.{FrontView, with_tables, asked, replies_to, updates_among, left_of, gone_from, swept, may_end, took_unnamed}
use Rattle.zfront.specs.Front.{ending, looks, looked, looked_if, tidied_if, tidied_of, watched}
use Rattle.zfront_laws.specs.Logs.{done_by}
use Rattle.zfront_laws.specs.Making.{updates_in}
use Rattle.zfront_laws.proofs.Changes.{sweeps_all, reports_all}
use Rattle.zfront_laws.proofs.Ending.{EndsAmong}
use Rattle.zfront_laws.proofs.Lighter.{Lighter, carries_lighter, lighter, unmoved}
use Rattle.zfront_laws.proofs.Living.{swept_lives}
use Rattle.zfront_laws.proofs.Rising.{sessions_last}
use Rattle.zfront_laws.proofs.Seated.{Has}
use Rattle.zfront_laws.proofs.Steps.{Fine, Goes}

-- what is left to be taken of calls
left : (calls : List Call) (v : FrontView) → v.is_kept ≡ true → v.made ++ updates_in (done_by calls v) ≡ v.made ++ left_of v.is_kept calls
left calls v kept =
    ap (λ cs. v.made ++ updates_among cs) (calls_zipped v.tree calls) ∙ sym (ap (λ b. v.made ++ left_of b calls) kept)

-- calls are made, and the tables are others
pub made : (calls : List Call) (t : TablesView) (v : FrontView) → held_of t.streams ≤ held_of v.tables.streams
    → (Fine v → Fine (with_tables t (asked calls v))) → Goes [] (done_by calls v) v (with_tables t (asked calls v))
made calls t v few seats = record {
  leads = leads_by v.tree calls;
  few = λ little. omega (arith, few, little);
  seats = seats;
  alike = (refl, refl, refl);
  made = left calls v;
}

-- what becomes of tables where sessions may have ended
record Tidied (ends : Bool) (ids : List ℕ) (old new : FrontView) : Type 0 where
  rows : TablesView
  becomes : new ≡ with_tables rows old
  light : Lighter old.tables rows
  lives : ends ≡ true → (id : ℕ) → Has rows.attachments id
      → (contains_key old.tree.sessions id ≡ false → list_any (eq_by_cmp nat_cmp id) ids ≡ true) → contains_key old.tree.sessions id ≡ true

looks_if : (must : Bool) (ids : List ℕ) (paths : List Path) (v : FrontView) → Tidied true ids v (looked_if must paths (swept ids v))
looks_if false ids paths v = record {
  rows = (swept ids v).tables;
  becomes = refl;
  light = sweeps_all Lighter carries_lighter (gone_from ids v) v.tables;
  lives = λ ends. swept_lives v.tree.sessions ids v.tables;
}
looks_if true ids paths v =
    let middle = swept ids v in
    let reports = reports_all Lighter carries_lighter (seen middle.tree.zxid paths (looks middle.tree paths)) middle.tables in
    record {
      rows = (looked paths middle).tables;
      becomes = refl;
      light = lighter v.tables middle.tables (looked paths middle).tables (sweeps_all Lighter carries_lighter (gone_from ids v) v.tables) reports;
      lives = λ ends id sits. swept_lives v.tree.sessions ids v.tables id (reports.1.1 id sits);
    }

tidies_if : (ends : Bool) (replies : List Reply) (ids : List ℕ) (paths : List Path) (v : FrontView)
    → Tidied ends ids v (tidied_if ends replies ids paths v)
tidies_if false replies ids paths v =
    record { rows = v.tables; becomes = refl; light = unmoved v.tables; lives = λ ends. absurd (cc ends) }
tidies_if true replies ids paths v = looks_if (took_unnamed replies ids v) ids paths v

-- so it is after any calls
pub makes : (calls : List Call) (t : TablesView) (old new : FrontView) → Lighter old.tables t
    → (Fine old → EndsAmong calls old.tree) → new ≡ tidied_of calls old (with_tables t (asked calls old)) → Goes [] (done_by calls old) old new
makes calls t old new light told has = subst (Goes [] (done_by calls old) old) (sym done.becomes) (made calls done.rows old all.0 seats)
  where
    done : Tidied (list_any may_end calls) (ending calls old.tree) (with_tables t (asked calls old)) new
    done =
        subst (Tidied (list_any may_end calls) (ending calls old.tree) (with_tables t (asked calls old))) (sym has)
        (tidies_if (list_any may_end calls) (replies_to calls old) (ending calls old.tree) (watched calls old) (with_tables t (asked calls old)))

    all : Lighter old.tables done.rows
    all = lighter old.tables t done.rows light done.light

    alive : Fine old → (id : ℕ) → Has done.rows.attachments id → (ends : Bool) → list_any may_end calls ≡ ends
        → contains_key (tree_after old.tree calls).sessions id ≡ true
    alive fine id sits true ends = done.lives ends id sits (told fine id (fine.alive id (all.1.1 id sits)))
    alive fine id sits false ends = sessions_last calls old.tree id ends (fine.alive id (all.1.1 id sits))

    seats : Fine old → Fine (with_tables done.rows (asked calls old))
    seats fine = record {
      seated = all.1.0 fine.seated;
      alive = λ id sits. alive fine id sits (list_any may_end calls) refl;
      can = trees_can_start_again old.tree calls fine.can;
    }
