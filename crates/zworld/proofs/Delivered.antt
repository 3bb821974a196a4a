-- Deliveries, by what the taker made of the message.
use Rattle.std.proofs.Common.{◌≡◌, ℕ, Bool, true, false, if◌then◌else◌, List, [], ◌∷◌, ◌++◌}
use Rattle.std.proofs.Common.{drop, refl, sym, ap, subst, ◌∙◌, inl, inr, append-nil, eqb-true}
use Rattle.std.specs.Prelude.{◌&&◌, ◌==◌, not, Option, None, Some, Ok, option_to_list}
use Rattle.std.specs.Option.{option_map}
use mathlib.Core.Bool.{true≢false}
use Rattle.ztree.specs.Tree.{Tree}
use Rattle.zcalls.specs.declared.reply.Reply.{Reply}
use Rattle.zcalls.specs.Cached.{CachedState}
use Rattle.zcalls.proofs.Among.{test}
use Rattle.zprotocol.specs.declared.message.Message.TheVariants as message
use Rattle.zprotocol.specs.declared.process.Process.{Process}
use Rattle.zprotocol.specs.declared.process.Process.TheVariants.{Master, Server, Client}
use Rattle.zprotocol.specs.server.Machine.{cached_tree}
use Rattle.zprotocol.specs.server.Memory.{is_query, may_be_unheard, may_stop}
use Rattle.zprotocol.specs.server.View.{MessageOf}
use Rattle.zprotocol.specs.declared.world.event.Event.TheVariants as event
use Rattle.zprotocol.specs.declared.world.outcome.Outcome.TheVariants as outcome
use Rattle.zprotocol.specs.world.History.{History}
use Rattle.zprotocol.specs.world.Links.{is_same, messages_to, put, without_front}
use Rattle.zprotocol.specs.world.World.{World, at}
use Rattle.zprotocol.specs.Places.{is_server}
use Rattle.zprotocol.specs.declared.world.history.CallEvent.TheVariants as call_event
use Rattle.zprotocol.specs.world.Does.{AtServer, Hear, idle_effect}
use Rattle.zprotocol.specs.world.Events.{front_is, is_request, has_failed, is_enabled, happens, acts, front_step, does_in, did_in}
use Rattle.zprotocol.specs.world.Reading.{is_fitting, read}
use Rattle.zprotocol.specs.world.support.Alike.{IsAlike}
use Rattle.zprotocol.proofs.world_lemmas.Alike.{alike_itself, alike_through}
use Rattle.zprotocol.proofs.world_lemmas.Tests.{both}
use Rattle.zworld.specs.declared.did.Did.TheVariants as became
use Rattle.zworld.specs.declared.did.IdleCause.TheVariants as cause
use Rattle.zactor.specs.Acting.{handed_by, has_stopped, reply_handed, reply_in, reported_by, with_reply}
use Rattle.zactor.specs.declared.done.Done.{Done}
use Rattle.zactor.specs.declared.done.Done.TheVariants as done
use Rattle.zactor.specs.declared.handed.Handed.TheVariants as handed
use Rattle.zactor.specs.declared.input.Input.TheVariants as input
use Rattle.zworld.specs.declared.did.Did.{Did}
use Rattle.zworld.specs.Held.{Held, standing_at, kept_world}
use Rattle.zworld.specs.support.Stepped.{HasStepped}
use Rattle.zworld.specs.support.Posting.{is_lost}
use Rattle.zworld.specs.support.Giving.{IsGiven, IsReportedOf, reported_with}
use Rattle.zworld.proofs.Alike.{alike_by}
use Rattle.zworld.proofs.Standing.{lost_is}
use Rattle.zworld.proofs.Steps.{can_fail, idle_stepped, done_stepped, happens_so, gone_too, is_one}

-- a world without the front of a channel
abbrev pub without : World (CachedState Tree) → Process → Process → World (CachedState Tree)
without w from to = record w { links = without_front w.links from to }

-- the taker acted on a message, and the history continues with this
abbrev Hears : Held → Process → Process → MessageOf (CachedState Tree) → History → Held → Type 0
Hears old from to message reported new =
    (history : History) → IsAlike (does_in cached_tree (kept_world old history) to (Hear from message)) (kept_world new (history ++ reported))

-- a delivery with this front, to one that has not failed
module _ (old : Held) (from to : Process) (front : MessageOf (CachedState Tree)) (rest : List (MessageOf (CachedState Tree)))
    (there : (kept_world old []).links from to ≡ front ∷ rest) (alive : is_lost old.actors to ≡ false) where
  not_failed : (history : History) → has_failed (kept_world old history) to ≡ false
  not_failed history = lost_is old history to ∙ alive

  -- is enabled
  pub delivery_enabled : is_enabled (kept_world old []) (event.Take from to) ≡ true
  delivery_enabled = rw (there, not_failed []) refl

  -- the taker acted
  pub taken : (mid new : Held) (reported : History) → ((history : History) → kept_world mid history ≡ without (kept_world old history) from to)
      → Hears mid from to front reported new → HasStepped old new (event.Take from to) became.Done reported
  taken mid new reported popped given =
      done_stepped old new (event.Take from to) reported delivery_enabled
      (λ history.
      subst (λ link. IsAlike (front_step cached_tree (kept_world old history) from to link) (kept_world new (history ++ reported))) (sym there)
      (subst (λ w. IsAlike (does_in cached_tree w to (Hear from front)) (kept_world new (history ++ reported))) (popped history) (given history)))

-- what is enabled isn't idle
not_idle : (b : Bool) → b ≡ true → false ≡ not b
not_idle true is = refl
not_idle false is = absurd (true≢false (sym is))

query_is_request : (m : MessageOf (CachedState Tree)) → is_query m ≡ true → is_request m ≡ true
query_is_request (message.Query number query) is = refl
query_is_request (message.Submit number update) is = refl
query_is_request (message.Answer number reply) is = absurd (true≢false (sym is))
query_is_request (message.Update epoch n entry) is = absurd (true≢false (sym is))
query_is_request (message.Ack epoch n) is = absurd (true≢false (sym is))
query_is_request (message.Snapshot epoch state) is = absurd (true≢false (sym is))
query_is_request (message.NewPred epoch pred) is = absurd (true≢false (sym is))
query_is_request (message.Have epoch last) is = absurd (true≢false (sym is))
query_is_request (message.NewSucc epoch succ last) is = absurd (true≢false (sym is))
query_is_request (message.BecomeHead epoch) is = absurd (true≢false (sym is))
query_is_request (message.BecomeTail epoch) is = absurd (true≢false (sym is))
query_is_request message.Retire is = absurd (true≢false (sym is))
query_is_request (message.Joined epoch) is = absurd (true≢false (sym is))
query_is_request message.Gone is = absurd (true≢false (sym is))
query_is_request (message.Config epoch head tail) is = absurd (true≢false (sym is))

module _ (old : Held) (from : Process) (s : ℕ) (front : MessageOf (CachedState Tree)) (rest : List (MessageOf (CachedState Tree)))
    (there : (kept_world old []).links from (Server s) ≡ front ∷ rest) (alive : has_stopped (standing_at old.actors (Server s)) ≡ false) where
  enabled : is_enabled (kept_world old []) (event.Take from (Server s)) ≡ true
  enabled = delivery_enabled old from (Server s) front rest there alive

  -- the server didn't hear the query
  pub unheard : (mid new : Held) → ((history : History) → kept_world mid history ≡ without (kept_world old history) from (Server s))
      → may_be_unheard cached_tree ((kept_world old []).servers s) from front ≡ true
      → ((history : History) → IsAlike (kept_world mid history) (kept_world new (history ++ [])))
      → HasStepped old new (event.Take from (Server s)) became.Unheard []
  unheard mid new popped wants given =
      let w = kept_world old [] in
      let fits : is_fitting cached_tree w (event.Take from (Server s)) outcome.Unheard ≡ true = rw (enabled, there) wants in
      let reads : read cached_tree w (event.Take from (Server s)) outcome.Unheard ≡ event.Ignore from (Server s) =
      ap (λ b. if b then event.Ignore from (Server s) else event.Take from (Server s)) fits in
      let query : is_query front ≡ true = (both _ _ wants).0 in
      let request : is_enabled w (event.Ignore from (Server s)) ≡ true = rw (there, query_is_request front query, alive) refl in
      record {
        idle = not_idle _ enabled;
        same = λ idle. absurd (true≢false (sym idle));
        caused = λ why is. let never : ⊥ = cc in absurd never;
        fits = fits;
        leads = λ history.
            subst (λ e. IsAlike (happens cached_tree (kept_world old history) e) (kept_world new (history ++ []))) (sym reads)
            (subst (λ v. IsAlike v (kept_world new (history ++ [])))
            (sym (happens_so (kept_world old history) (event.Ignore from (Server s)) request))
            (gone_too _ _ (subst (λ v. IsAlike v (kept_world new (history ++ []))) (popped history) (given history))));
      }

  -- the front that goes with the server makes no difference
  lost_front : (w : World (CachedState Tree)) → IsAlike (acts cached_tree w (event.Fail s)) (acts cached_tree (without w from (Server s)) (event.Fail s))
  lost_front w =
      let v = acts cached_tree w (event.Fail s) in let u = acts cached_tree (without w from (Server s)) (event.Fail s) in
      alike_by v u refl refl (λ c. refl) (λ t. refl) (λ t lives. refl) links
    where
      on_it : (to : Process) → has_failed (acts cached_tree w (event.Fail s)) to ≡ false → is_same to (Server s) ≡ false
      on_it Master lives = refl
      on_it (Client c) lives = refl
      on_it (Server t) lives = elim (test (t == s)) [
        | inl here ↦ absurd (true≢false (sym (ap (λ b. if b then true else w.failed t) here) ∙ lives))
        | inr other ↦ other
      ]

      and_false : (b : Bool) → (b && false) ≡ false
      and_false true = refl
      and_false false = refl

      links : (p q : Process) → has_failed (acts cached_tree w (event.Fail s)) q ≡ false
          → (acts cached_tree w (event.Fail s)).links p q ≡ (acts cached_tree (without w from (Server s)) (event.Fail s)).links p q
      links p q lives =
          let same : without_front w.links from (Server s) p q ≡ w.links p q =
          ap (λ b. if is_same p from && b then drop 1 (w.links p q) else w.links p q) (on_it q lives)
          ∙ ap (λ b. if b then drop 1 (w.links p q) else w.links p q) (and_false (is_same p from)) in
          ap (λ link. if is_same p (Server s) then link ++ messages_to q ((Master, message.Gone) ∷ []) else link) (sym same)

  -- the server stopped at it
  pub stopped : (mid new : Held) → is_server s ≡ true
      → ((history : History) → kept_world mid history ≡ without (kept_world old history) from (Server s))
      → may_stop cached_tree ((kept_world old []).servers s) from front ≡ true
      → ((history : History) → IsAlike (acts cached_tree (kept_world mid history) (event.Fail s)) (kept_world new (history ++ [])))
      → HasStepped old new (event.Take from (Server s)) became.Stopped []
  stopped mid new one popped wants given =
      let w = kept_world old [] in
      let fits : is_fitting cached_tree w (event.Take from (Server s)) outcome.Stopped ≡ true = rw (enabled, there) wants in
      let reads : read cached_tree w (event.Take from (Server s)) outcome.Stopped ≡ event.Fail s =
      ap (λ b. if b then event.Fail s else event.Take from (Server s)) fits in
      let fails : is_enabled w (event.Fail s) ≡ true = can_fail old s one alive in
      record {
        idle = not_idle _ enabled;
        same = λ idle. absurd (true≢false (sym idle));
        caused = λ why is. let never : ⊥ = cc in absurd never;
        fits = fits;
        leads = λ history.
            subst (λ e. IsAlike (happens cached_tree (kept_world old history) e) (kept_world new (history ++ []))) (sym reads)
            (subst (λ v. IsAlike v (kept_world new (history ++ []))) (sym (happens_so (kept_world old history) (event.Fail s) fails))
            (gone_too _ _ (alike_through (acts cached_tree (kept_world old history) (event.Fail s))
            (acts cached_tree (without (kept_world old history) from (Server s)) (event.Fail s)) (kept_world new (history ++ []))
            (lost_front (kept_world old history))
            (subst (λ v. IsAlike (acts cached_tree v (event.Fail s)) (kept_world new (history ++ []))) (popped history) (given history)))));
      }

-- nothing can be taken
pub not_taken : (held : Held) (from to : Process) → (kept_world held []).links from to ≡ []
    → HasStepped held held (event.Take from to) (became.Idle cause.Nothing) []
not_taken held from to none = idle_stepped held (event.Take from to) cause.Nothing (rw none refl) refl

pub not_taken_lost : (held : Held) (from to : Process) → is_lost held.actors to ≡ true
    → HasStepped held held (event.Take from to) (became.Idle cause.Nothing) []
not_taken_lost held from to lost = idle_stepped held (event.Take from to) cause.Nothing (rw (lost_is held [] to ∙ lost) (and_false _)) refl
  where
    and_false : (b : Bool) → (b && false) ≡ false
    and_false true = refl
    and_false false = refl

-- a request is lost
pub request_lost : (old new : Held) (from to : Process) → front_is is_request ((kept_world old []).links from to) ≡ true
    → is_lost old.actors to ≡ false
    → ((history : History) → kept_world new history ≡ without (kept_world old history) from to)
    → HasStepped old new (event.Ignore from to) became.Done []
request_lost old new from to request alive popped =
    done_stepped old new (event.Ignore from to) []
    (ap (λ b. b && not (has_failed (kept_world old []) to)) request ∙ ap not (lost_is old [] to ∙ alive))
    (λ history.
    subst (λ h. IsAlike (without (kept_world old history) from to) (kept_world new h)) (sym (append-nil history))
    (subst (λ w. IsAlike (without (kept_world old history) from to) w) (sym (popped history))
    (alike_itself (without (kept_world old history) from to))))

-- a server that didn't hear is unchanged
unheard_alike : (w u : World (CachedState Tree)) (s : ℕ) → IsAlike (did_in w (Server s) (idle_effect (AtServer (w.servers s)))) u → IsAlike w u
unheard_alike w u s = alike_through w (did_in w (Server s) (idle_effect (AtServer (w.servers s)))) u
    (alike_by w (did_in w (Server s) (idle_effect (AtServer (w.servers s)))) refl refl (λ c. refl) (λ t. refl) (λ t alive. stays t) links)
  where
    stays : (t : ℕ) → w.servers t ≡ at s (w.servers s) w.servers t
    stays t = elim (test (t == s)) [
      | inl same ↦ rw same (ap w.servers (eqb-true t s same))
      | inr other ↦ rw other refl
    ]

    links : (from to : Process) → has_failed w to ≡ false → w.links from to ≡ put w.links (Server s) [] from to
    links from to alive = elim (test (is_same from (Server s))) [
      | inl same ↦ rw same (sym (append-nil (w.links from to)))
      | inr other ↦ rw other refl
    ]

-- what a delivery says, with what callers saw before and after
abbrev pub Says : Held → Held → Process → Process → History → History → Did → Type 0
Says old new from to before after did =
    (reported : History) × (after ≡ before ++ reported) × HasStepped old new (event.Take from to) did reported

-- the same, once it is known what became of it
reported_so : (old new : Held) (from to : Process) (before after reported : History) (did so : Did) → after ≡ before ++ reported → did ≡ so
    → HasStepped old new (event.Take from to) so reported → Says old new from to before after did
reported_so old new from to before after reported did so more is stepped =
    subst (λ (d : Did). Says old new from to before after d) (sym is) (reported, more, stepped)

-- callers see the reply that was handed over
brought : (c number : ℕ) (reply : Option Reply) → reported_with (Client c) (done.Answered number) (reply_handed (with_reply reply handed.Nothing))
    ≡ option_to_list (option_map (λ r. call_event.Answer c number r) reply)
brought c number (Some reply) = refl
brought c number None = refl

-- and see nothing else of a delivery
pub reported_as_handed : (to from : Process) (m : MessageOf (CachedState Tree)) (end : Done)
    → reported_with to end (reply_handed (handed_by (input.Hear from m) (Ok end) handed.Nothing)) ≡ reported_by to (input.Hear from m) end
reported_as_handed (Client c) from m (done.Answered number) = brought c number (reply_in m)
reported_as_handed (Client c) from m (done.Began number) = refl
reported_as_handed (Client c) from m done.Acted = refl
reported_as_handed (Client c) from m done.Unheard = refl
reported_as_handed (Client c) from m done.Stopped = refl
reported_as_handed (Client c) from m done.Left = refl
reported_as_handed (Server s) from m end = refl
reported_as_handed Master from m end = refl

-- a message was delivered, by what became of it
module _ (old mid new : Held) (from : Process) (front : MessageOf (CachedState Tree)) (rest : List (MessageOf (CachedState Tree)))
    (before after : History) (did : Did) where
  abbrev Popped : Process → Type 0
  Popped to = (history : History) → kept_world mid history ≡ without (kept_world old history) from to

  pub delivered : (to : Process) (end : Done) → (kept_world old []).links from to ≡ front ∷ rest → is_lost old.actors to ≡ false → Popped to
      → IsGiven mid new to (input.Hear from front) end → IsReportedOf (reported_by to (input.Hear from front) end) end before after did → Says old new from to before after did
  delivered Master done.Acted there alive popped given said =
      reported_so old new from Master before after [] did became.Done said.0 said.1
      (taken old from Master front rest there alive mid new [] popped given.leads)
  delivered Master done.Unheard there alive popped given said = absurd (true≢false (sym given.comes))
  delivered Master done.Stopped there alive popped given said = absurd (true≢false (sym given.comes))
  delivered Master done.Left there alive popped given said = absurd (true≢false (sym given.comes))
  delivered Master (done.Began number) there alive popped given said = absurd (true≢false (sym given.comes))
  delivered Master (done.Answered number) there alive popped given said = absurd (true≢false (sym given.comes))
  delivered (Server s) done.Acted there alive popped given said =
      reported_so old new from (Server s) before after [] did became.Done said.0 said.1
      (taken old from (Server s) front rest there alive mid new [] popped given.leads)
  delivered (Server s) done.Left there alive popped given said =
      reported_so old new from (Server s) before after [] did became.Done said.0 said.1
      (taken old from (Server s) front rest there alive mid new [] popped given.leads)
  delivered (Server s) done.Unheard there alive popped given said =
      let can : may_be_unheard cached_tree ((kept_world old []).servers s) from front ≡ true =
      subst (λ (w : World (CachedState Tree)). may_be_unheard cached_tree (w.servers s) from front ≡ true) (popped []) given.comes in
      reported_so old new from (Server s) before after [] did became.Unheard said.0 said.1
      (unheard old from s front rest there alive mid new popped can
      (λ history. unheard_alike (kept_world mid history) (kept_world new (history ++ [])) s (given.leads history)))
  delivered (Server s) done.Stopped there alive popped given said =
      let can : may_stop cached_tree ((kept_world old []).servers s) from front ≡ true =
      subst (λ (w : World (CachedState Tree)). may_stop cached_tree (w.servers s) from front ≡ true) (popped []) given.comes in
      reported_so old new from (Server s) before after [] did became.Stopped said.0 said.1
      (stopped old from s front rest there alive mid new (is_one s given.inside) popped can given.leads)
  delivered (Server s) (done.Began number) there alive popped given said = absurd (true≢false (sym given.comes))
  delivered (Server s) (done.Answered number) there alive popped given said = absurd (true≢false (sym given.comes))
  delivered (Client c) done.Acted there alive popped given said =
      reported_so old new from (Client c) before after [] did became.Done said.0 said.1
      (taken old from (Client c) front rest there alive mid new [] popped given.leads)
  delivered (Client c) (done.Answered number) there alive popped given said =
      let reported : History = reported_by (Client c) (input.Hear from front) (done.Answered number) in
      reported_so old new from (Client c) before after reported did became.Done said.0 said.1
      (taken old from (Client c) front rest there alive mid new reported popped given.leads)
  delivered (Client c) done.Unheard there alive popped given said = absurd (true≢false (sym given.comes))
  delivered (Client c) done.Stopped there alive popped given said = absurd (true≢false (sym given.comes))
  delivered (Client c) done.Left there alive popped given said = absurd (true≢false (sym given.comes))
  delivered (Client c) (done.Began number) there alive popped given said = absurd (true≢false (sym given.comes))
