-- Every history has a legal order, also where links lose their ends.
use Rattle.std.proofs.Common.{◌≡◌, ℕ, zero, suc, Bool, true, false, if◌then◌else◌, List, [], ◌∷◌, map, take, refl, sym, ap, ◌∙◌, subst}
use Rattle.ztree.specs.Tree.{opening_tree}
use Rattle.zcalls.specs.Cached.{Plain}
use Rattle.zprotocol.specs.declared.process.Process.{Process}
use Rattle.zprotocol.specs.declared.process.Process.TheVariants.{Master, Server, Client}
use Rattle.zprotocol.specs.server.Machine.{Does, cached_tree_from, plain_from, replay}
use Rattle.zprotocol.specs.server.support.Homomorphism.{IsHomomorphism, message_with}
use Rattle.zprotocol.proofs.server_lemmas.Projection.{log_stands_for_machine}
use Rattle.zprotocol.specs.declared.world.event.Event.{Event}
use Rattle.zprotocol.specs.world.World.{World, opening_world}
use Rattle.zprotocol.specs.world.Events.{has_failed, let_go, happens}
use Rattle.zprotocol.proofs.world_lemmas.Keeping.{keeping_happens, opening_let_go}
use Rattle.zprotocol.specs.world.FromTree.{IsExplainedFrom, opening_world_from}
use Rattle.zprotocol.proofs.world_lemmas.FirstCallsFrom.{opening_can_start}
use Rattle.zprotocol.specs.world.support.LogWorld.{world_with}
use Rattle.zprotocol.proofs.world_lemmas.LogWorlds.{run_with, opening_with}
use Rattle.zlinearizability.proofs.legal_lemmas.order.PlainTree.{items_explain_from}
use Rattle.zlinearizability.specs.chain.Flow.{log_machine, LogWorld}
use Rattle.zlinearizability.specs.chain.Last.{LastsAreLengths}
use Rattle.zlinearizability.specs.chain.Account.{Account, next_account, opening_account}
use Rattle.zlinearizability.specs.chain.Sound.{IsSound}
use Rattle.zlinearizability.specs.FromTree.{EveryHistoryFromWithCutsIsExplained}
use Rattle.zlinearizability.specs.Cuts.{Stays, cut_links, cut, run_with_cuts, EveryHistoryWithCutsIsExplained}
use Rattle.zlinearizability.proofs.chain_lemmas.tables.Lasts.{lasts_kept}
use Rattle.zlinearizability.proofs.chain_lemmas.steps.Opening.{opening_sound}
use Rattle.zlinearizability.proofs.chain_lemmas.steps.Cuts.{cut_sound, cut_lasts}
use Rattle.zlinearizability.proofs.Runs.{next_world, each_event, lasts_next}

-- what is let go of can be cut before or after
taken_none : {A : Type 0} (n : ℕ) → take {A = A} n [] ≡ []
taken_none zero = refl
taken_none (suc n) = refl

taken_if : {A : Type 0} (n : ℕ) (b : Bool) (xs : List A) → take n (if b then [] else xs) ≡ (if b then [] else take n xs)
taken_if n true xs = taken_none n
taken_if n false xs = refl

cut_go : {M : Type 0} (stays : Stays) (w : World M) → cut stays (let_go w) ≡ let_go (cut stays w)
cut_go stays w = λ i. record (let_go w) { links = λ from to. links from to i }
  where
    links : (from to : Process) → cut_links stays (let_go w).links from to ≡ (if has_failed w to then [] else cut_links stays w.links from to)
    links Master to = refl
    links (Server s) to = taken_if (stays (Server s) to) (has_failed w to) (w.links (Server s) to)
    links (Client c) to = taken_if (stays (Client c) to) (has_failed w to) (w.links (Client c) to)

-- the account of a run with cuts
abbrev cut_account : Account → Stays → Account
cut_account t stays = record t { world = cut stays t.world }

module _ {P : Type 0} (plain : Plain P) where
  abbrev accounts_after : Account → List (Stays × Event) → Account
  accounts_after t [] = t
  accounts_after t (step ∷ more) = accounts_after (next_account plain (cut_account t step.0) step.1) more

  -- the world of the run is what is left of its world
  account_worlds : (t : Account) (steps : List (Stays × Event)) → run_with_cuts (log_machine plain) (let_go t.world) steps
      ≡ let_go (accounts_after t steps).world
  account_worlds t [] = refl
  account_worlds t (step ∷ more) =
      let cut_off = cut_account t step.0 in
      ap (λ u. run_with_cuts (log_machine plain) (happens (log_machine plain) u step.1) more) (cut_go step.0 t.world)
      ∙ ap (λ u. run_with_cuts (log_machine plain) u more)
      (keeping_happens (log_machine plain) (cut step.0 t.world) step.1 ∙ ap let_go (sym (next_world plain cut_off step.1)))
      ∙ account_worlds (next_account plain cut_off step.1) more

  -- it is sound
  runs_sound_with_cuts : (t : Account) → LastsAreLengths t.world → IsSound plain t → (steps : List (Stays × Event))
      → IsSound plain (accounts_after t steps)
  runs_sound_with_cuts t exact s [] = s
  runs_sound_with_cuts t exact s (step ∷ more) =
      let exact_cut = cut_lasts t.world step.0 exact in
      runs_sound_with_cuts (next_account plain (cut_account t step.0) step.1)
      (lasts_next plain (cut_account t step.0) step.1 exact_cut)
      (each_event plain step.1 (cut_account t step.0) exact_cut (cut_sound plain t s step.0)).0 more

-- worlds whose machines are mapped
take_map : {A B : Type 0} (f : A → B) (n : ℕ) (xs : List A) → take n (map f xs) ≡ map f (take n xs)
take_map f zero xs = refl
take_map f (suc n) [] = refl
take_map f (suc n) (x ∷ xs) = ap (λ l. f x ∷ l) (take_map f n xs)

module _ {M N : Type 0} (h : M → N) where
  cut_links_with : (stays : Stays) (w : World M) (from to : Process)
      → cut_links stays (world_with h w).links from to ≡ map (message_with h) (cut_links stays w.links from to)
  cut_links_with stays w Master to = refl
  cut_links_with stays w (Server x) to = take_map (message_with h) (stays (Server x) to) (w.links (Server x) to)
  cut_links_with stays w (Client c) to = take_map (message_with h) (stays (Client c) to) (w.links (Client c) to)

  cut_with : (stays : Stays) (w : World M) → cut stays (world_with h w) ≡ world_with h (cut stays w)
  cut_with stays w = λ i. record (world_with h w) { links = λ from to. cut_links_with stays w from to i }

  runs_with_cuts : {d : Does M} {e : Does N} (same : IsHomomorphism d e h) (w : World M) (steps : List (Stays × Event))
      → run_with_cuts e (world_with h w) steps ≡ world_with h (run_with_cuts d w steps)
  runs_with_cuts same w [] = refl
  runs_with_cuts {d} {e} same w (step ∷ more) =
      ap (λ u. run_with_cuts e (happens e u step.1) more) (cut_with step.0 w)
      ∙ ap (λ u. run_with_cuts e u more) (run_with h same (cut step.0 w) (step.1 ∷ []))
      ∙ runs_with_cuts same (happens d (cut step.0 w) step.1) more

-- the items of such a run make a legal order of its history
pub every_history_from_with_cuts_is_explained : EveryHistoryFromWithCutsIsExplained
every_history_from_with_cuts_is_explained t can servers clients steps =
    let plain = plain_from t in
    let machine = cached_tree_from t in
    let account = opening_account plain servers clients in
    let s = runs_sound_with_cuts plain account (lasts_kept plain servers clients []) (opening_sound plain servers clients) steps in
    let explained = items_explain_from t can _ _ _ s.acted s.replays s.rising s.in_time s.answered s.once in
    let mapped = ap (λ u. run_with_cuts machine u steps) (opening_with (replay machine) (log_stands_for_machine machine) servers clients)
    ∙ runs_with_cuts (replay machine) (log_stands_for_machine machine) (opening_world (log_machine plain) servers clients) steps in
    let logs = log_machine plain in
    let runs : run_with_cuts logs (opening_world logs servers clients) steps ≡ let_go (accounts_after plain account steps).world =
    ap (λ w. run_with_cuts logs w steps) (sym (opening_let_go logs servers clients)) ∙ account_worlds plain account steps in
    let same : (accounts_after plain account steps).world.history ≡ (run_with_cuts machine (opening_world_from t servers clients) steps).history =
    sym (ap (λ (w : LogWorld). w.history) runs) ∙ sym (ap (λ (w : World _). w.history) mapped) in
    subst (IsExplainedFrom t) same explained

-- from the initial tree
pub every_history_with_cuts_is_explained : EveryHistoryWithCutsIsExplained
every_history_with_cuts_is_explained = every_history_from_with_cuts_is_explained opening_tree opening_can_start
