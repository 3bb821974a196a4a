-- Runs of a front, one after the other, with their calls and the chunks that they hand on. The
-- front at each head makes such a run.
use Rattle.std.specs.Prelude.{map}
use Rattle.std.proofs.Common.{◌≡◌, ℕ, true, List, [], ◌∷◌, ◌++◌, Some, refl, sym, ap, ◌∙◌, subst, inl, inr, append_assoc, append-nil}
use Rattle.ztree.specs.Tree.{Tree}
use Rattle.zcalls.specs.Cached.{CachedState}
use Rattle.zcalls.specs.Lists.{Among}
use Rattle.zlinearizability.proofs.legal_lemmas.lists.Members.{among_left, among_last, among_mid}
use Rattle.zheads.specs.Heads.{Heads}
use Rattle.zwatches.specs.declared.limits.WatchLimits.{WatchLimits}
use Rattle.zresponses.specs.declared.clock.Clock.{Clock}
use Rattle.zconnections.specs.buffers.Inputs.{InputView}
use Rattle.zconnections.specs.buffers.Outbox.{ChunkView}
use Rattle.ztree_service.specs.log.Logs.{Log}
use Rattle.zfront.specs.Front.{FrontView}
use Rattle.zfront.specs.Inputs as inputs
use Rattle.zfront.specs.Restoring.{beginning}
use Rattle.zfront_laws.specs.Runs as front
use Rattle.zfront_laws.specs.Logs.{input_log, step_log, run_log}
use Rattle.zcluster_laws.specs.Cluster.{Reaction, Fronted, Handled, Sent, Cluster, Step, Begins, Takes, Sends, Pads, Chain, BeginsAt, TakesAt, SendsAt, Does, Runs, drained, with_front, opening_cluster, Visible, fenced, reaction_of}
use Rattle.zcluster_laws.specs.Laws.{gone_at, gone_in, calls_in, chunks_in, IsRun, IsReaction, EveryClusterFrontRuns}
use Rattle.zcluster_laws.proofs.Stands.{put_front, fenced_front, sent_is_not_handled, one_sent}

-- a run with these calls and these chunks
record Run (steps : List front.Step) (old new : FrontView) (log : Log) (chunks : List ChunkView) : Type 0 where
  pub runs : front.Runs steps old new
  pub calls : run_log steps old new runs ≡ log
  pub gone : gone_in steps old new runs ≡ chunks

same_run : (steps : List front.Step) (old new : FrontView) (log other : Log) (chunks others : List ChunkView) → log ≡ other → chunks ≡ others
    → Run steps old new log chunks → Run steps old new other others
same_run steps old new log other chunks others logs same x = record { runs = x.runs; calls = x.calls ∙ logs; gone = x.gone ∙ same }

-- one after the other
then_run : (first second : List front.Step) (u v w : FrontView) (log more : Log) (chunks others : List ChunkView) → Run first u v log chunks
    → Run second v w more others → Run (first ++ second) u w (log ++ more) (chunks ++ others)
then_run [] second u v w log more chunks others x y =
    same_run second u w more (log ++ more) others (chunks ++ others) (ap (λ l. l ++ more) x.calls) (ap (λ l. l ++ others) x.gone)
    (subst (λ z. Run second z w more others) x.runs y)
then_run (step ∷ first) second u v w log more chunks others x y =
    let middle = x.runs.0 in
    let rest = then_run first second middle v w (run_log first middle v x.runs.2) more (gone_in first middle v x.runs.2) others
    (record { runs = x.runs.2; calls = refl; gone = refl }) y in
    record {
      runs = (middle, x.runs.1, rest.runs);
      calls = ap (λ l. step_log step u middle x.runs.1 ++ l) rest.calls
          ∙ sym (append_assoc (step_log step u middle x.runs.1) (run_log first middle v x.runs.2) more) ∙ ap (λ l. l ++ more) x.calls;
      gone = ap (λ l. gone_at step u ++ l) rest.gone ∙ sym (append_assoc (gone_at step u) (gone_in first middle v x.runs.2) others)
          ∙ ap (λ l. l ++ others) x.gone;
    }

one_step : (step : front.Step) (old new : FrontView) (does : front.Does step old new) → Run (step ∷ []) old new (step_log step old new does) (gone_at step old)
one_step step old new does =
    record { runs = (new, does, refl); calls = append-nil (step_log step old new does); gone = append-nil (gone_at step old) }

-- all chunks are handed on
abbrev with_unsent : List ChunkView → FrontView → FrontView
with_unsent chunks v = record v { tables = record v.tables { unsent = chunks } }

abbrev sends : List ChunkView → List front.Step
sends chunks = map (λ c. front.Sent) chunks

all_gone : (v : FrontView) (chunks : List ChunkView) → Run (sends chunks) (with_unsent chunks v) (with_unsent [] v) [] chunks
all_gone v [] = record { runs = refl; calls = refl; gone = refl }
all_gone v (c ∷ chunks) =
    let rest = all_gone v chunks in
    record { runs = (with_unsent chunks v, refl, rest.runs); calls = rest.calls; gone = ap (λ l. c ∷ l) rest.gone }

-- an input, as a front at a head handles it
abbrev steps_of : InputView → List ChunkView → List front.Step
steps_of input chunks = (front.Takes input ∷ []) ++ (sends chunks ++ front.Took ∷ [])

input_run : (input : InputView) (old v : FrontView) (does : inputs.Does input old v)
    → Run (steps_of input v.tables.unsent) old (drained v) (input_log input old v does) v.tables.unsent
input_run input old v does =
    let chunks = v.tables.unsent in
    let log = input_log input old v does in
    let out = then_run (sends chunks) (front.Took ∷ []) (with_unsent chunks v) (with_unsent [] v) (drained v) [] [] chunks []
    (all_gone v chunks) (one_step front.Took (with_unsent [] v) (drained v) refl) in
    let whole = then_run (front.Takes input ∷ []) (sends chunks ++ front.Took ∷ []) old v (drained v) log [] [] (chunks ++ [])
    (one_step (front.Takes input) old v does) out in
    same_run (steps_of input chunks) old (drained v) (log ++ []) log (chunks ++ []) chunks (append-nil log) (append-nil chunks) whole

-- reactions one after the other
calls_both : (xs ys : List Reaction) → calls_in (xs ++ ys) ≡ calls_in xs ++ calls_in ys
calls_both [] ys = refl
calls_both (b ∷ xs) ys = ap (λ l. b.calls ++ l) (calls_both xs ys) ∙ sym (append_assoc b.calls (calls_in xs) (calls_in ys))

chunks_both : (xs ys : List Reaction) → chunks_in (xs ++ ys) ≡ chunks_in xs ++ chunks_in ys
chunks_both [] ys = refl
chunks_both (b ∷ xs) ys = ap (λ l. b.chunks ++ l) (chunks_both xs ys) ∙ sym (append_assoc b.chunks (chunks_in xs) (chunks_in ys))

one_more : (sent held : List Reaction) (b : Reaction) → sent ++ (held ++ b ∷ []) ≡ (sent ++ held) ++ b ∷ []
one_more sent held b = sym (append_assoc sent held (b ∷ []))

calls_more : (sent held : List Reaction) (b : Reaction) → calls_in (sent ++ held) ++ b.calls ≡ calls_in (sent ++ (held ++ b ∷ []))
calls_more sent held b =
    ap (λ l. calls_in (sent ++ held) ++ l) (sym (append-nil b.calls)) ∙ sym (calls_both (sent ++ held) (b ∷ [])) ∙ ap calls_in (sym (one_more sent held b))

chunks_more : (sent held : List Reaction) (b : Reaction) → chunks_in (sent ++ held) ++ b.chunks ≡ chunks_in (sent ++ (held ++ b ∷ []))
chunks_more sent held b =
    ap (λ l. chunks_in (sent ++ held) ++ l) (sym (append-nil b.chunks)) ∙ sym (chunks_both (sent ++ held) (b ∷ [])) ∙ ap chunks_in (sym (one_more sent held b))

module _ (t : Tree) (limits : WatchLimits) (secret : List ℕ) (times : Clock) where
  -- what holds of the front of a head
  record IsFine (visible : List Visible) (p : Fronted) : Type 0 where
    pub run : IsRun limits secret times p
    pub none_left : p.front.tables.unsent ≡ []
    pub held : (b : Reaction) → Among b p.held → IsReaction limits secret times b
    pub sent : (b : Reaction) → Among b p.sent → Among (Sent b) visible

  record AreFine (c : Cluster) : Type 0 where
    pub sent : (b : Reaction) → Among (Sent b) c.visible → IsReaction limits secret times b
    pub fronts : (s : ℕ) (p : Fronted) → c.fronts s ≡ Some p → IsFine c.visible p

  -- clients see more
  more_visible : (visible : List Visible) (one : Visible) (p : Fronted) → IsFine visible p → IsFine (visible ++ one ∷ []) p
  more_visible visible one p x =
      record { run = x.run; none_left = x.none_left; held = x.held; sent = λ b a. among_left (Sent b) visible (one ∷ []) (x.sent b a) }

  -- other fronts are dropped
  fenced_fine : (c : Cluster) → AreFine c → AreFine (fenced c)
  fenced_fine c x = record { sent = x.sent; fronts = λ s p has. let f = fenced_front c s p has in x.fronts s p f.2 }

  run_of : (p : Fronted) (x : IsRun limits secret times p)
      → Run x.steps (beginning limits p.first secret times true) p.front (calls_in (p.sent ++ p.held)) (chunks_in (p.sent ++ p.held))
  run_of p x = record { runs = x.runs; calls = x.calls; gone = x.chunks }

  module _ (c : Cluster) (x : AreFine c) where
    begins_fine : (s : ℕ) (new : Cluster) → BeginsAt t limits secret times s c new → AreFine new
    begins_fine s new did =
        let p : Fronted = record { first = did.m.plain; front = beginning limits did.m.plain secret times true; sent = []; held = [] } in
        let run : IsRun limits secret times p = record { steps = []; runs = refl; calls = refl; chunks = refl } in
        let fine : IsFine c.visible p = record { run = run; none_left = refl; held = λ b a. absurd a; sent = λ b a. absurd a } in
        let all : AreFine (with_front s p c) = record {
          sent = x.sent;
          fronts = put_front c.fronts s p (λ z q. IsFine c.visible q) fine (λ z q other has. x.fronts z q has);
        } in
        subst AreFine (sym did.is) all

    -- a reaction is sent
    module _ (s : ℕ) (new : Cluster) (did : SendsAt t limits secret times s c new) where
      abbrev released : Fronted
      released = record did.p { sent = did.p.sent ++ did.b ∷ []; held = did.more }

      abbrev visible_then : List Visible
      visible_then = c.visible ++ Sent did.b ∷ []

      had : IsFine c.visible did.p
      had = x.fronts s did.p did.has

      in_order : did.p.sent ++ did.p.held ≡ released.sent ++ released.held
      in_order = ap (λ l. did.p.sent ++ l) did.waits ∙ sym (append_assoc did.p.sent (did.b ∷ []) did.more)

      released_fine : IsFine visible_then released
      released_fine = record {
        run = record {
          steps = had.run.steps;
          runs = had.run.runs;
          calls = had.run.calls ∙ ap calls_in in_order;
          chunks = had.run.chunks ∙ ap chunks_in in_order;
        };
        none_left = had.none_left;
        held = λ b a. had.held b (subst (Among b) (sym did.waits) (inr a));
        sent = λ b a. elim (among_last b did.p.sent did.b a) [
          | inl old ↦ among_left (Sent b) c.visible (Sent did.b ∷ []) (had.sent b old)
          | inr is ↦ subst (λ y. Among (Sent y) visible_then) is (among_mid (Sent did.b) c.visible [])
        ];
      }

      sends_fine : AreFine new
      sends_fine =
          let all : AreFine (with_front s released (record c { visible = visible_then })) = record {
            sent = λ b a. elim (among_last (Sent b) c.visible (Sent did.b) a) [
              | inl old ↦ x.sent b old
              | inr is ↦ subst (IsReaction limits secret times) (one_sent did.b b is) (had.held did.b (subst (Among did.b) (sym did.waits) (inl refl)))
            ];
            fronts = put_front c.fronts s released (λ z r. IsFine visible_then r) released_fine
                (λ z r other has. more_visible c.visible (Sent did.b) r (x.fronts z r has));
          } in
          subst AreFine (sym did.is) all

    -- an input is handled
    module _ (s : ℕ) (input : InputView) (new : Cluster) (did : TakesAt t limits secret times s input c new) where
      abbrev log : Log
      log = input_log input did.p.front did.v did.does

      abbrev b : Reaction
      b = reaction_of did.p input log (c.heads.world.servers s).last (did.heads.world.servers s).last did.v

      abbrev q : Fronted
      q = record did.p { front = drained did.v; held = did.p.held ++ b ∷ [] }

      abbrev visible_now : List Visible
      visible_now = c.visible ++ Handled b ∷ []

      before : IsFine c.visible did.p
      before = x.fronts s did.p did.has

      abbrev start : FrontView
      start = beginning limits did.p.first secret times true

      run : Run (before.run.steps ++ steps_of input did.v.tables.unsent) start (drained did.v) (calls_in (did.p.sent ++ did.p.held) ++ log)
          (chunks_in (did.p.sent ++ did.p.held) ++ did.v.tables.unsent)
      run = then_run before.run.steps (steps_of input did.v.tables.unsent) start did.p.front (drained did.v) (calls_in (did.p.sent ++ did.p.held)) log
          (chunks_in (did.p.sent ++ did.p.held)) did.v.tables.unsent (run_of did.p before.run) (input_run input did.p.front did.v did.does)

      reacts : IsReaction limits secret times b
      reacts = record {
        steps = before.run.steps;
        old = did.p.front;
        new = did.v;
        runs = before.run.runs;
        none_left = before.none_left;
        does = did.does;
        calls = refl;
        chunks = refl;
        tree = refl;
      }

      handled_fine : IsFine visible_now q
      handled_fine = record {
        run = record {
          steps = before.run.steps ++ steps_of input did.v.tables.unsent;
          runs = run.runs;
          calls = run.calls ∙ calls_more did.p.sent did.p.held b;
          chunks = run.gone ∙ chunks_more did.p.sent did.p.held b;
        };
        none_left = refl;
        held = λ other a. elim (among_last other did.p.held b a)
            [ inl old ↦ before.held other old | inr is ↦ subst (IsReaction limits secret times) is reacts ];
        sent = λ other a. among_left (Sent other) c.visible (Handled b ∷ []) (before.sent other a);
      }

      takes_fine : AreFine new
      takes_fine =
          let later = record c { heads = did.heads; visible = visible_now } in
          let all : AreFine (with_front s q later) = record {
            sent = λ other a. elim (among_last (Sent other) c.visible (Handled b) a)
                [ inl old ↦ x.sent other old | inr is ↦ absurd (sent_is_not_handled b other is) ];
            fronts = put_front c.fronts s q (λ z r. IsFine visible_now r) handled_fine
                (λ z r other has. more_visible c.visible (Handled b) r (x.fronts z r has));
          } in
          subst AreFine (sym did.is) (fenced_fine (with_front s q later) all)

    -- the heads alone change
    heads_fine : (h : Heads (CachedState Tree)) → AreFine (fenced (record c { heads = h }))
    heads_fine h = fenced_fine (record c { heads = h }) (record { sent = x.sent; fronts = x.fronts })

    step_fine : (step : Step) (new : Cluster) → Does t limits secret times step c new → AreFine new
    step_fine (Begins s) new did = begins_fine s new did
    step_fine (Takes s input) new did = takes_fine s input new did
    step_fine (Sends s) new did = sends_fine s new did
    step_fine (Pads s update) new did = subst AreFine (sym did.is) (heads_fine did.heads)
    step_fine (Chain event) new did = subst AreFine (sym did.is) (heads_fine did.heads)

  all_fine : (steps : List Step) (c new : Cluster) → AreFine c → Runs t limits secret times steps c new → AreFine new
  all_fine [] c new x is = subst AreFine (sym is) x
  all_fine (step ∷ steps) c new x (middle, did, rest) = all_fine steps middle new (step_fine c x step middle did) rest

  opening_fine : (servers : ℕ) → AreFine (opening_cluster t limits secret times servers)
  opening_fine servers = record { sent = λ b a. absurd a; fronts = λ s p none. absurd (cc none) }

pub every_cluster_front_runs : EveryClusterFrontRuns
every_cluster_front_runs t limits secret times servers steps c runs =
    let x = all_fine t limits secret times steps (opening_cluster t limits secret times servers) c (opening_fine t limits secret times servers) runs in
    record { sent = x.sent; fronts = λ s p has. (x.fronts s p has).run; visible = λ s p has. (x.fronts s p has).sent }
