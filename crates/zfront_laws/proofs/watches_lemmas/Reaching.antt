-- A server at a scene, and how it comes to the next one.
use Rattle.std.proofs.Common.{◌≡◌, ◌∙◌, ℕ, true, false, List, [], ◌∷◌, ◌++◌, Option, None, refl, sym, ap, subst, append_assoc}
use Rattle.std.specs.Prelude.{◌⊎◌, ℤ, if◌then◌else◌}
use Rattle.std.specs.FinSet.{contains}
use Rattle.std.proofs.lemmas.List.{append-nil}
use Rattle.ztree.specs.Tree.{Tree}
use Rattle.zops.specs.RestoredLaws.{IsSettled}
use Rattle.zresponses.specs.Stats.{told}
use Rattle.zresponses.specs.declared.answer.Answer.{Answer}
use Rattle.ztree_service.specs.log.Logs.{Log}
use Rattle.zconnections.specs.Tables.{TablesView, sent, closed}
use Rattle.zresponses.specs.effects.Frames.{answer_frame, ends_connection}
use Rattle.zresponses.specs.effects.Replying.{replied}
use Rattle.zfront.specs.Front.{FrontView, with_tables}
use Rattle.zfront_laws.specs.watches.Watching.{Scene, Happening, Asking, Answered, Closed, Moved, tree_of, after, May, Happens}
use Rattle.zfront_laws.specs.watches.Watching.{HasReportedAll, IsClose, IsMoved}
use Rattle.zfront_laws.proofs.watches_lemmas.Holding.{Holds, fewer_holds}
use Rattle.zfront_laws.proofs.watches_lemmas.Owning.{owners_kept}
use Rattle.zfront_laws.proofs.watches_lemmas.Marks.{Marked, Keeps}
use Rattle.zfront_laws.proofs.watches_lemmas.Marks as marks
use Rattle.zfront_laws.proofs.watches_lemmas.Owners.{OwnersAre}
use Rattle.zfront_laws.proofs.watches_lemmas.Scenes.{happens_both}
use Rattle.zfront_laws.proofs.watches_lemmas.Standing.{Fewer, closed_fewer, sent_watches, sent_attachments}

-- the server's base, tables and tree are those of the scene, which began with a settled tree; the watches may know the nodes of an
-- earlier front only
pub record AtIf (since : Option FrontView) (v : FrontView) (s : Scene) : Type 0 where
  pub settled : IsSettled s.start
  pub base : s.base ≡ v.clock.base
  pub tables : s.tables ≡ v.tables
  pub tree : tree_of s ≡ v.tree
  pub holds : Holds since (tree_of s) s.set_at s.tables

-- where they know those of now
abbrev pub At : FrontView → Scene → Type 0
At v s = AtIf None v s

-- a connection is closed, or ends
pub shuts : (since : Option FrontView) (v : FrontView) (s : Scene) (to : TablesView → TablesView) → AtIf since v s → Fewer s.tables (to s.tables)
    → Keeps s.tables.attachments (to s.tables).attachments → AtIf since (with_tables (to v.tables) v) (record s { tables = to s.tables })
shuts since v s to there fewer kept = record {
  settled = there.settled;
  base = there.base;
  tables = ap to there.tables;
  tree = there.tree;
  holds = fewer_holds since (tree_of s) s.set_at s.tables (to s.tables) fewer
      (owners_kept s.tables.attachments (to s.tables).attachments (tree_of s).nodes kept) there.holds;
}

-- something is sent
pub sends : (since : Option FrontView) (v : FrontView) (s : Scene) (c : ℕ) (bytes : List ℕ) → AtIf since v s
    → AtIf since (with_tables (sent c bytes v.tables) v) (record s { tables = sent c bytes s.tables })
sends since v s c bytes there = record {
  settled = there.settled;
  base = there.base;
  tables = ap (sent c bytes) there.tables;
  tree = there.tree;
  holds = fewer_holds since (tree_of s) s.set_at s.tables (sent c bytes s.tables)
      (λ w is. ap (λ table. contains table w) (sym (sent_watches c bytes s.tables)) ∙ is)
      (subst (λ m. OwnersAre (Marked m) (tree_of s).nodes) (sym (sent_attachments c bytes s.tables)))
      there.holds;
}

-- there everything was reported to all watches
pub all_reported : (v : FrontView) (s : Scene) (c : ℕ) → At v s → HasReportedAll s c
all_reported v s c there w stands mine = there.holds.seen w stands

-- things happen, with these calls in the log, and then the server is there
pub record Arrives (Asks : Asking) (since : Option FrontView) (v : FrontView) (s : Scene) (more : Log) : Type 0 where
  pub happenings : List Happening
  pub scene : Scene
  pub happens : Happens Asks happenings s scene
  pub log : scene.log ≡ s.log ++ more
  pub there : AtIf since v scene

abbrev pub Reaches : Asking → FrontView → Scene → Log → Type 0
Reaches Asks v s more = Arrives Asks None v s more

module _ {Asks : Asking} where
  -- one thing happens, and no call is made
  pub once : (since : Option FrontView) (v : FrontView) (s : Scene) (h : Happening) (t : Scene) → Happens Asks (h ∷ []) s t → t.log ≡ s.log → AtIf since v t
      → Arrives Asks since v s []
  once since v s h t has same there =
      record { happenings = h ∷ []; scene = t; happens = has; log = same ∙ sym (append-nil s.log); there = there }

  pub stays : (since : Option FrontView) (v : FrontView) (s : Scene) → AtIf since v s → Arrives Asks since v s []
  stays since v s there = record { happenings = []; scene = s; happens = refl; log = sym (append-nil s.log); there = there }

  -- after things that happened before
  precede : (n : Option FrontView) (w : FrontView) (s t : Scene) (hs : List Happening) (first more : Log) → Happens Asks hs s t → t.log ≡ s.log ++ first
      → Arrives Asks n w t more → Arrives Asks n w s (first ++ more)
  precede n w s t hs first more has goes rest = record {
    happenings = hs ++ rest.happenings;
    scene = rest.scene;
    happens = happens_both Asks hs rest.happenings s t rest.scene has rest.happens;
    log = rest.log ∙ ap (λ log. log ++ more) goes ∙ append_assoc s.log first more;
    there = rest.there;
  }

  pub behind : (m n : Option FrontView) (v w : FrontView) (s : Scene) (first more : Log) → Arrives Asks m v s first
      → ((t : Scene) → AtIf m v t → Arrives Asks n w t more)
      → Arrives Asks n w s (first ++ more)
  behind m n v w s first more one next =
      precede n w s one.scene one.happenings first more one.happens one.log (next one.scene one.there)

  -- after which no call is made
  pub still : (m n : Option FrontView) (v w : FrontView) (s : Scene) (first : Log) → Arrives Asks m v s first → ((t : Scene) → AtIf m v t → Arrives Asks n w t [])
      → Arrives Asks n w s first
  still m n v w s first one next = subst (Arrives Asks n w s) (append-nil first) (behind m n v w s first [] one next)

  -- calls are made, and then none
  pub called : (w : FrontView) (s t : Scene) (hs : List Happening) (first : Log) → Happens Asks hs s t → t.log ≡ s.log ++ first
      → Reaches Asks w t [] → Reaches Asks w s first
  called w s t hs first has goes rest = subst (Reaches Asks w s) (append-nil first) (precede None w s t hs first [] has goes rest)

  -- what a server became
  pub becomes : (new like : FrontView) (s : Scene) (more : Log) → new ≡ like → Reaches Asks like s more → Reaches Asks new s more
  becomes new like s more is has = subst (λ (v : FrontView). Reaches Asks v s more) (sym is) has

  -- the tables move
  pub moves_if : (since : Option FrontView) (v : FrontView) (s : Scene) (t : TablesView) → AtIf since v s → IsMoved v.tables t
      → (OwnersAre (Marked v.tables.attachments) v.tree.nodes → OwnersAre (Marked t.attachments) v.tree.nodes)
      → Arrives Asks since (with_tables t v) s []
  moves_if since v s t there moved owners =
      once since (with_tables t v) s (Moved t) (after (Moved t) s) (subst (λ old. IsMoved old t) (sym there.tables) moved, refl) refl (record {
        settled = there.settled;
        base = there.base;
        tables = refl;
        tree = there.tree;
        holds = fewer_holds since (tree_of s) s.set_at s.tables t
            (λ w is. ap (λ (u : TablesView). contains u.watches w) there.tables ∙ ap (λ table. contains table w) (sym moved.watches) ∙ is)
            (λ all.
            subst (λ (u : Tree). OwnersAre (Marked t.attachments) u.nodes) (sym there.tree)
            (owners (subst (λ (u : Tree). OwnersAre (Marked v.tables.attachments) u.nodes) there.tree
            (subst (λ (u : TablesView). OwnersAre (Marked u.attachments) (tree_of s).nodes) there.tables all))))
            there.holds;
      })

  -- and its sessions keep their marks
  pub moves : (since : Option FrontView) (v : FrontView) (s : Scene) (t : TablesView) → AtIf since v s → IsMoved v.tables t → Keeps v.tables.attachments t.attachments
      → Arrives Asks since (with_tables t v) s []
  moves since v s t there moved kept = moves_if since v s t there moved (owners_kept v.tables.attachments t.attachments v.tree.nodes kept)

  -- a connection is closed
  pub closes : (since : Option FrontView) (v : FrontView) (s : Scene) (c : ℕ) → AtIf since v s → Arrives Asks since (with_tables (closed c v.tables) v) s []
  closes since v s c there =
      once since (with_tables (closed c v.tables) v) s (Closed c) (after (Closed c) s) (tt, refl) refl
      (shuts since v s (closed c) there (closed_fewer c s.tables) (marks.closed_keeps c s.tables))

  -- something is sent, by something that happens
  pub sends_as : (since : Option FrontView) (v : FrontView) (s : Scene) (c : ℕ) (bytes : List ℕ) (h : Happening) → May Asks h s
      → after h s ≡ record s { tables = sent c bytes s.tables } → AtIf since v s → Arrives Asks since (with_tables (sent c bytes v.tables) v) s []
  sends_as since v s c bytes h may is there =
      once since (with_tables (sent c bytes v.tables) v) s h (record s { tables = sent c bytes s.tables }) (may, sym is) refl
      (sends since v s c bytes there)

  -- an answer
  answers : (since : Option FrontView) (v : FrontView) (s : Scene) (c : ℕ) (xid : ℤ) (answer : Answer) → AtIf since v s → (HasReportedAll s c ⊎ IsClose s c)
      → Arrives Asks since (with_tables (sent c (answer_frame (told v.clock.base v.tree.zxid) xid answer) v.tables) v) s []
  answers since v s c xid answer there may =
      sends_as since v s c (answer_frame (told v.clock.base v.tree.zxid) xid answer) (Answered c xid answer) may
      (λ i. record s { tables = sent c (answer_frame (told (there.base i) (there.tree i).zxid) xid answer) s.tables }) there

  -- and after one that ends the connection it is closed
  pub replies : (since : Option FrontView) (v : FrontView) (s : Scene) (c : ℕ) (xid : ℤ) (answer : Answer) → AtIf since v s → (HasReportedAll s c ⊎ IsClose s c)
      → Arrives Asks since (with_tables (replied (told v.clock.base v.tree.zxid) c xid answer v.tables) v) s []
  replies since v s c xid answer there may = elim (ends_connection answer.code) as (λ b. Arrives Asks since (with_tables (
      if b
      then closed c (sent c (answer_frame (told v.clock.base v.tree.zxid) xid answer) v.tables)
      else sent c (answer_frame (told v.clock.base v.tree.zxid) xid answer) v.tables
      ) v) s []) [
        | true ↦
            let t = sent c (answer_frame (told v.clock.base v.tree.zxid) xid answer) v.tables in
            still since since (with_tables t v) (with_tables (closed c t) v) s [] (answers since v s c xid answer there may)
            (λ next here. closes since (with_tables t v) next c here)
        | false ↦ answers since v s c xid answer there may
      ]
