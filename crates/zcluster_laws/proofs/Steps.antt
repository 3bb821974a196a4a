-- Each step of a cluster preserves what holds of it, and may commit more.
use Rattle.std.proofs.Common.{◌≡◌, ℕ, ◌≤◌, true, List, [], ◌∷◌, ◌++◌, length, Some, refl, sym, ap, ◌∙◌, subst, inl, inr, arith, append_assoc, append-nil}
use Rattle.ztree.specs.Tree.{Tree}
use Rattle.zcalls.specs.declared.call.Call.TheVariants as call
use Rattle.zcalls.specs.declared.call.Entry.{Entry}
use Rattle.zcalls.specs.declared.call.Update.{Update}
use Rattle.zcalls.specs.Cached.{CachedState}
use Rattle.zcalls.specs.Lists.{Among}
use Rattle.zcalls.specs.Step as sequential
use Rattle.zprotocol.specs.server.Machine.{Does as Machine, machine_of}
use Rattle.zprotocol.specs.declared.world.event.Event.{Event}
use Rattle.zlinearizability.specs.legal.Prefix.{IsPrefix}
use Rattle.zlinearizability.specs.chain.Flow.{Log as ChainLog, log_at}
use Rattle.zlinearizability.specs.chain.Account.{Account}
use Rattle.zlinearizability.proofs.legal_lemmas.lists.Members.{among_last}
use Rattle.zlinearizability.proofs.legal_lemmas.lists.Prefixes.{prefix_same}
use Rattle.zlinearizability.specs.Cuts.{Stays}
use Rattle.zheads.specs.Heads.{HeadEvent, InChain, head_machine}
use Rattle.zheads.specs.OneLog.{state_from, state_of}
use Rattle.zheads.proofs.Fits.{updates, updates_length}
use Rattle.zheads.proofs.Holds.{Holds, cut_account}
use Rattle.zheads.proofs.OneTree.{account_next, holds_run}
use Rattle.zwatches.specs.declared.limits.WatchLimits.{WatchLimits}
use Rattle.zresponses.specs.declared.clock.Clock.{Clock}
use Rattle.zconnections.specs.buffers.Inputs.{InputView}
use Rattle.ztree_service.specs.log.Logs.{Log, Leads, calls_of}
use Rattle.zfront.specs.Front.{updates_among}
use Rattle.zfront.specs.Restoring.{beginning}
use Rattle.zfront_laws.specs.Runs.{KeepsFew}
use Rattle.zfront_laws.specs.Runs as front
use Rattle.zfront_laws.specs.Logs.{input_log}
use Rattle.zfront_laws.proofs.Inputs.{every_front_keeps_few, every_step_goes_on}
use Rattle.zcluster_laws.specs.Cluster.{Reaction, Fronted, Handled, Sent, Cluster, Step, Begins, Takes, Sends, Pads, Chain, BeginsAt, TakesAt, SendsAt, PadsAt, ChainDoes, Does, need, drained, with_front, reaction_of}
use Rattle.zcluster_laws.specs.Laws.{IsServed}
use Rattle.zcluster_laws.proofs.HeadLogs.{event_same}
use Rattle.zcluster_laws.proofs.Facts.{HasLog, has_log, last_of, begins, left_is_committed, each_left}
use Rattle.zcluster_laws.proofs.Served.{state_more, tree_of_calls, place_before_need, served_more, served_front}
use Rattle.zcluster_laws.proofs.Committing.{After, commits}
use Rattle.zcluster_laws.proofs.Stands.{plain, Stands, Good, put_front, by_number, prefix_size, stands_still, fences, more_served, served_handled, handled_in_time, served_sent, sent_in_time}

pub same_log : (x y : List Entry) (found : ChainLog) → found ≡ Some x → found ≡ Some y → x ≡ y
same_log x y found first second = let is : ◌≡◌ {A = ChainLog} (Some x) (Some y) = sym first ∙ second in cc is

module _ (t0 : Tree) (limits : WatchLimits) (secret : List ℕ) (times : Clock) where
  abbrev own : Machine (CachedState Tree)
  own = machine_of (plain t0)

  -- what holds after a step, where more may be committed
  abbrev pub GoodAfter : Account → Cluster → Type 0
  GoodAfter t c = (later : Account) × Good t0 c later × IsPrefix t.committed later.committed

  module _ (c : Cluster) (t : Account) (x : Good t0 c t) where
    -- the log of a front's head
    abbrev pub log_of : (s : ℕ) (p : Fronted) (has : c.fronts s ≡ Some p) → HasLog (plain t0) c.heads t s
    log_of s p has =
        let m = x.heads s p has in
        let f = has_log (plain t0) c.heads t x.holds s m.0 m.1 in
        let st = x.fronts s p has in record { log = st.log; has = st.has; live = f.0.live; head = f.0.head }

    -- a front begins
    begins_good : (s : ℕ) (new : Cluster) → BeginsAt t0 limits secret times s c new → GoodAfter t new
    begins_good s new did =
        let f = has_log (plain t0) c.heads t x.holds s did.m did.is_head in
        let p : Fronted = record { first = did.m.plain; front = beginning limits did.m.plain secret times true; sent = []; held = [] } in
        let st : Stands t0 t s p = record {
          log = f.0.log;
          has = f.0.has;
          tree = f.1;
          early = updates f.0.log;
          rest = [];
          split = sym (append-nil (updates f.0.log));
          began = f.1;
          few = every_front_keeps_few limits did.m.plain secret times true [] (beginning limits did.m.plain secret times true) refl;
          held = λ b a. absurd a;
        } in
        let good : Good t0 (with_front s p c) t = record {
          holds = x.holds;
          heads = put_front c.fronts s p (λ z q. (m : CachedState Tree) × (head_machine c.heads.world z ≡ Some m)) (did.m, did.is_head)
              (λ z q other has. x.heads z q has);
          fronts = put_front c.fronts s p (Stands t0 t) st (λ z q other has. x.fronts z q has);
          served = x.served;
          in_time = x.in_time;
        } in
        (t, subst (λ y. Good t0 y t) (sym did.is) good, prefix_same t.committed)

    -- a reaction is sent
    sends_good : (s : ℕ) (new : Cluster) → SendsAt t0 limits secret times s c new → GoodAfter t new
    sends_good s new did =
        let p = did.p in
        let b = did.b in
        let st = x.fronts s p did.has in
        let f = log_of s p did.has in
        let waiting : Among b p.held = subst (Among b) (sym did.waits) (inl refl) in
        let low : need b ≤ length t.committed = left_is_committed (plain t0) c.heads t x.holds s f (need b)
        (each_left (c.heads.world.servers s) (need b) (need b) (omega arith) did.left) in
        let size : length (updates t.committed) ≡ length t.committed = updates_length t.committed in
        let place : b.place ≤ need b = place_before_need b in
        let served = served_front t0 (updates t.committed) (updates st.log) b (begins (plain t0) c.heads t x.holds s f) (omega arith) (st.held b waiting) in
        let q : Fronted = record p { sent = p.sent ++ b ∷ []; held = did.more } in
        let stays : Stands t0 t s q = record {
          log = st.log;
          has = st.has;
          tree = st.tree;
          early = st.early;
          rest = st.rest;
          split = st.split;
          began = st.began;
          few = st.few;
          held = λ other a. st.held other (subst (Among other) (sym did.waits) (inr a));
        } in
        let good : Good t0 (with_front s q (record c { visible = c.visible ++ Sent b ∷ [] })) t = record {
          holds = x.holds;
          heads = put_front c.fronts s q (λ z r. (m : CachedState Tree) × (head_machine c.heads.world z ≡ Some m)) (x.heads s p did.has)
              (λ z r other has. x.heads z r has);
          fronts = put_front c.fronts s q (Stands t0 t) stays (λ z r other has. x.fronts z r has);
          served = served_sent t0 (updates t.committed) c.visible b x.served served;
          in_time = sent_in_time t0 c.visible b x.in_time;
        } in
        (t, subst (λ y. Good t0 y t) (sym did.is) good, prefix_same t.committed)

    -- an event of the chain
    chain_good : (event : Event) (new : Cluster) → ChainDoes t0 limits secret times event c new → GoodAfter t new
    chain_good event new did =
        let stays = did.happens.0 in
        let step : Stays × HeadEvent = (stays, InChain event) in
        let later = account_next (plain t0) c.heads t step in
        let run = holds_run (plain t0) c.heads t x.holds (step ∷ []) in
        let holds = subst (λ y. Holds (plain t0) y later) (sym did.happens.1) run.0 in
        let good = fences t0 (record c { heads = did.heads }) later holds
        (λ z p m is has. let st = x.fronts z p has in
        stands_still t0 t later z p st (event_same (plain t0) z st.log (cut_account (plain t0) t stays) st.has (log_of z p has).head event))
        (more_served t0 t later c.visible run.1 x.served) x.in_time in
        (later, subst (λ y. Good t0 y later) (sym did.is) good, run.1)

    -- a head appends an update that changes nothing
    module _ (s : ℕ) (u : Update) (new : Cluster) (did : PadsAt t0 limits secret times s u c new) where
      found : (f : HasLog (plain t0) c.heads t s) × (did.state.plain ≡ state_of (plain t0) (updates f.log))
      found = let f = has_log (plain t0) c.heads t x.holds s did.state did.has in (f.0, f.1)

      after : After (plain t0) t s found.0.log (call.Update u ∷ []) did.heads
      after = commits (plain t0) c.heads did.heads t x.holds s (call.Update u ∷ []) found.0.live found.0.log found.0.has did.commits

      padded : state_of (plain t0) (updates after.new) ≡ state_of (plain t0) (updates found.0.log)
      padded =
          ap (state_of (plain t0)) after.more ∙ state_more (plain t0) t0 (updates found.0.log) (u ∷ [])
          ∙ ap (λ p. (sequential.step p 0 u).0) (sym found.1) ∙ did.changes_nothing ∙ found.1

      own_front : (p : Fronted) → c.fronts s ≡ Some p → Stands t0 after.later s p
      own_front p has =
          let st = x.fronts s p has in
          let same : st.log ≡ found.0.log = same_log st.log found.0.log (log_at t.world s) st.has found.0.has in
          let more : updates after.new ≡ updates st.log ++ u ∷ [] = after.more ∙ ap (λ l. updates l ++ u ∷ []) (sym same) in
          record {
            log = after.new;
            has = after.has;
            tree = st.tree ∙ ap (λ l. state_of (plain t0) (updates l)) same ∙ sym padded;
            early = st.early;
            rest = st.rest ++ u ∷ [];
            split = more ∙ ap (λ l. l ++ u ∷ []) st.split ∙ append_assoc st.early st.rest (u ∷ []);
            began = st.began;
            few = st.few;
            held = λ b a. served_more t0 (updates st.log) (updates after.new) b (u ∷ [], more) (st.held b a);
          }

      pads_good : GoodAfter t new
      pads_good =
          let good = fences t0 (record c { heads = did.heads }) after.later after.holds
          (λ z p m is has. stood z p has)
          (more_served t0 t after.later c.visible after.committed x.served) x.in_time in
          (after.later, subst (λ y. Good t0 y after.later) (sym did.is) good, after.committed)
        where
          stood : (z : ℕ) (p : Fronted) → c.fronts z ≡ Some p → Stands t0 after.later z p
          stood z p has = by_number s z (λ y. c.fronts y ≡ Some p) (λ y. Stands t0 after.later y p) (own_front p)
              (λ other k. let st = x.fronts z p k in stands_still t0 t after.later z p st (after.others z other ∙ st.has)) has

    -- a front handles an input
    module _ (s : ℕ) (input : InputView) (new : Cluster) (did : TakesAt t0 limits secret times s input c new) where
      abbrev p : Fronted
      p = did.p

      abbrev log : Log
      log = input_log input did.p.front did.v did.does

      abbrev u : List Update
      u = updates_among (calls_of log)

      abbrev b : Reaction
      b = reaction_of did.p input log (c.heads.world.servers s).last (did.heads.world.servers s).last did.v

      abbrev st : Stands t0 t s did.p
      st = x.fronts s did.p did.has

      abbrev head : HasLog (plain t0) c.heads t s
      head = log_of s did.p did.has

      handled : After (plain t0) t s st.log (calls_of log) did.heads
      handled = commits (plain t0) c.heads did.heads t x.holds s (calls_of log) head.live st.log st.has did.commits

      goes : Leads did.p.front.tree log did.v.tree × KeepsFew did.v
      goes = every_step_goes_on (front.Takes input) did.p.front did.v st.few did.does

      more : updates handled.new ≡ (st.early ++ st.rest) ++ u
      more = handled.more ∙ ap (λ l. l ++ u) st.split

      from : (c.heads.world.servers s).last ≡ length (updates st.log)
      from = last_of (plain t0) c.heads t x.holds s st.log head.live st.has ∙ sym (updates_length st.log)

      served : IsServed t0 (updates handled.new) b
      served = record {
        early = st.early;
        since = st.rest;
        after = [];
        whole = more ∙ ap (λ l. (st.early ++ st.rest) ++ l) (sym (append-nil u));
        began = st.began;
        from = from ∙ ap length st.split;
        place = last_of (plain t0) did.heads handled.later handled.holds s handled.new handled.live handled.has
            ∙ sym (updates_length handled.new) ∙ ap length more;
        leads = subst (λ first. Leads first log did.v.tree) (st.tree ∙ ap (state_of (plain t0)) st.split) goes.0;
      }

      abbrev q : Fronted
      q = record did.p { front = drained did.v; held = did.p.held ++ b ∷ [] }

      stands : Stands t0 handled.later s q
      stands = record {
        log = handled.new;
        has = handled.has;
        tree = sym goes.0.1 ∙ tree_of_calls t0 did.p.front.tree (calls_of log) ∙ ap (λ first. state_from (plain t0) first u) st.tree
            ∙ sym (state_more (plain t0) t0 (updates st.log) u) ∙ ap (state_of (plain t0)) (sym handled.more);
        early = st.early;
        rest = st.rest ++ u;
        split = more ∙ append_assoc st.early st.rest u;
        began = st.began;
        few = goes.1;
        held = λ other a. elim (among_last other did.p.held b a) [
          | inl old ↦ served_more t0 (updates st.log) (updates handled.new) other (u, handled.more) (st.held other old)
          | inr same ↦ subst (IsServed t0 (updates handled.new)) same served
        ];
      }

      takes_good : GoodAfter t new
      takes_good =
          let visible = c.visible ++ Handled b ∷ [] in
          let size : length (updates t.committed) ≤ length (updates st.log) =
          prefix_size (updates t.committed) (updates st.log) (begins (plain t0) c.heads t x.holds s head) in
          let at : (c.heads.world.servers s).last ≡ length (updates st.log) = from in
          let good = fences t0 (with_front s q (record c { heads = did.heads; visible = visible })) handled.later handled.holds
          (λ z r m is. put_front c.fronts s q (Stands t0 handled.later) stands
          (λ y k other has. let one = x.fronts y k has in stands_still t0 t handled.later y k one (handled.others y other ∙ one.has)) z r)
          (more_served t0 t handled.later visible handled.committed (served_handled t0 (updates t.committed) c.visible b x.served))
          (handled_in_time t0 (updates t.committed) c.visible b x.served (omega arith) x.in_time) in
          (handled.later, subst (λ y. Good t0 y handled.later) (sym did.is) good, handled.committed)

    pub step_good : (step : Step) (new : Cluster) → Does t0 limits secret times step c new → GoodAfter t new
    step_good (Begins s) new did = begins_good s new did
    step_good (Takes s input) new did = takes_good s input new did
    step_good (Sends s) new did = sends_good s new did
    step_good (Pads s update) new did = pads_good s update new did
    step_good (Chain event) new did = chain_good event new did
