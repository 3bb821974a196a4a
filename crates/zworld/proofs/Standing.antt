-- The standings of processes once one has another, and the world that this is.
use Rattle.std.proofs.Common.{◌≡◌, ℕ, ◌<◌, Bool, true, false, if◌then◌else◌, List, [], ◌∷◌, ◌++◌, length}
use Rattle.std.proofs.Common.{set, refl, sym, ap, ◌∙◌, inl, inr, append-nil, eqb-true, eq-eqb, get_or-set_same, get_or-set_other, arith}
use Rattle.std.specs.Prelude.{◌==◌}
use mathlib.Core.Bool.{true≢false}
use Rattle.ztree.specs.Tree.{Tree}
use Rattle.zcalls.specs.Cached.{CachedState}
use Rattle.zcalls.proofs.Among.{test}
use Rattle.zprotocol.specs.client.View.{ClientView}
use Rattle.zprotocol.specs.master.View.{MasterView}
use Rattle.zprotocol.specs.declared.limits.TheConstants.{PROCESSES}
use Rattle.zprotocol.specs.declared.message.Message.TheVariants.{Gone}
use Rattle.zprotocol.specs.declared.process.Process.{Process}
use Rattle.zprotocol.specs.declared.process.Process.TheVariants.{Master, Server, Client}
use Rattle.zprotocol.specs.Places.{place_of}
use Rattle.zserver.specs.Server.{TreeView}
use Rattle.zactor.specs.Acting.{TreeStanding, TreePost, can_stand, has_stopped}
use Rattle.zworld.specs.links.Places.{links_of, with_last}
use Rattle.zworld.proofs.links_lemmas.Places.{by_place}
use Rattle.zprotocol.specs.world.Does.{AtMaster, AtServer, AtClient, Out, last_post}
use Rattle.zprotocol.specs.world.Events.{did_in, goes_on, has_failed, standing_of}
use Rattle.zprotocol.specs.world.History.{History}
use Rattle.zprotocol.specs.world.Links.{is_same, put}
use Rattle.zprotocol.specs.world.World.{World}
use Rattle.zprotocol.specs.world.support.Alike.{IsAlike}
use Rattle.zprotocol.proofs.world_lemmas.Processes.{same_process}
use Rattle.zworld.specs.Held.{Held, HeldChannels, bystander, standing_at, master_of, view_of, client_of, kept_world}
use Rattle.zworld.specs.support.Posting.{is_lost, HasEnded}
use Rattle.zworld.proofs.Alike.{alike_by}

-- the kinds of processes, and the standing of each
pub data Stands : Process → TreeStanding → Type 0 where
  IsMaster : (v : MasterView) → Stands Master (AtMaster v)
  IsServer : (s : ℕ) (v : TreeView) → Stands (Server s) (AtServer v)
  HasLeft : (s : ℕ) → Stands (Server s) Out
  IsClient : (c : ℕ) (v : ClientView) → Stands (Client c) (AtClient v)

pub stands : (p : Process) (standing : TreeStanding) → can_stand p standing ≡ true → Stands p standing
stands Master (AtMaster v) can = IsMaster v
stands Master (AtServer v) can = absurd (true≢false (sym can))
stands Master (AtClient v) can = absurd (true≢false (sym can))
stands Master Out can = absurd (true≢false (sym can))
stands (Server s) (AtMaster v) can = absurd (true≢false (sym can))
stands (Server s) (AtServer v) can = IsServer s v
stands (Server s) (AtClient v) can = absurd (true≢false (sym can))
stands (Server s) Out can = HasLeft s
stands (Client c) (AtMaster v) can = absurd (true≢false (sym can))
stands (Client c) (AtServer v) can = absurd (true≢false (sym can))
stands (Client c) (AtClient v) can = IsClient c v
stands (Client c) Out can = absurd (true≢false (sym can))

-- one process has another standing, and the others are unchanged
pub standing_set : (actors : List TreeStanding) (p q : Process) (standing : TreeStanding) → place_of p < length actors → length actors ≡ PROCESSES
    → standing_at (set actors (place_of p) standing) q ≡ (if is_same q p then standing else standing_at actors q)
standing_set actors p q standing inside all = elim (test (is_same q p)) [
  | inl same ↦
      rw same (ap (λ x. standing_at (set actors (place_of p) standing) x) (same_process q p same)
      ∙ get_or-set_same actors (place_of p) standing (bystander p) inside)
  | inr other ↦
      let small : place_of p < PROCESSES = omega (arith, inside, all) in
      rw other (get_or-set_other actors (place_of p) (place_of q) standing (bystander q)
      (λ e. true≢false (sym (eq-eqb (place_of p) (place_of q) (sym e)) ∙ by_place q p (place_of p) refl small ∙ other)))
]

-- a history continues with what callers saw
goes_on_all : (history reported : History) → history ++ reported ≡ goes_on history reported
goes_on_all history [] = append-nil history
goes_on_all history (seen ∷ more) = refl

-- the views of those of whom one has another standing
view_if : (b : Bool) (v : TreeView) (other : TreeStanding) → view_of (if b then AtServer v else other) ≡ (if b then v else view_of other)
view_if true v other = refl
view_if false v other = refl

client_if : (b : Bool) (v : ClientView) (other : TreeStanding) → client_of (if b then AtClient v else other) ≡ (if b then v else client_of other)
client_if true v other = refl
client_if false v other = refl

lost_if : (b : Bool) (other : TreeStanding) → has_stopped (if b then Out else other) ≡ (if b then true else has_stopped other)
lost_if true other = refl
lost_if false other = refl

-- who hasn't failed then hasn't stopped
alive_then : (actors : List TreeStanding) (w : World (CachedState Tree)) → ((s : ℕ) → has_stopped (standing_at actors (Server s)) ≡ w.failed s)
    → (to : Process) → has_failed w to ≡ false → is_lost actors to ≡ false
alive_then actors w failed Master alive = refl
alive_then actors w failed (Server s) alive = failed s ∙ alive
alive_then actors w failed (Client c) alive = refl

-- what a process did leads to the world in which it has that standing, if the channels are these
module _ (held : Held) (channels : HeldChannels) (posts : List TreePost) (reported history : History) (all : length held.actors ≡ PROCESSES) where
  abbrev later : Process → TreeStanding → Held
  later p standing = record { actors = set held.actors (place_of p) standing; links = channels }

  abbrev IsSent : Process → TreeStanding → Type 0
  IsSent p standing =
      (from to : Process) → is_lost (later p standing).actors to ≡ false → put (links_of held.links) p posts from to ≡ links_of channels from to

  abbrev had_stopped : ℕ → Bool
  had_stopped t = has_stopped (standing_at held.actors (Server t))

  abbrev reached : Process → TreeStanding → World (CachedState Tree)
  reached p standing = did_in (kept_world held history) p (record { left = standing; posts = posts; reported = reported })

  abbrev Leads : Process → TreeStanding → Type 0
  Leads p standing = IsAlike (reached p standing) (kept_world (later p standing) (history ++ reported))

  pub did_alike : (p : Process) (standing : TreeStanding) → Stands p standing → place_of p < length held.actors
      → has_stopped (standing_at held.actors p) ≡ false → IsSent p standing → Leads p standing
  did_alike p standing (IsMaster v) inside lives sent =
      let now = λ (q : Process). standing_set held.actors Master q (AtMaster v) inside all in
      let failed = λ (s : ℕ). ap has_stopped (now (Server s)) in
      alike_by _ _ (ap master_of (now Master)) (goes_on_all history reported) (λ c. ap client_of (now (Client c)))
      failed (λ s alive. sym (ap view_of (now (Server s))))
      (λ from to alive. sent from to (alive_then (later Master (AtMaster v)).actors (reached Master (AtMaster v)) failed to alive))
  did_alike p standing (IsServer s v) inside lives sent =
      let now = λ (q : Process). standing_set held.actors (Server s) q (AtServer v) inside all in
      let failed : (t : ℕ) → has_stopped (standing_at (later (Server s) (AtServer v)).actors (Server t)) ≡ had_stopped t =
      λ t. ap has_stopped (now (Server t)) ∙ elim (test (t == s)) [
        | inl same ↦
            ap (λ b. has_stopped (if b then AtServer v else standing_at held.actors (Server t))) same
            ∙ sym (ap (λ n. has_stopped (standing_at held.actors (Server n))) (eqb-true t s same) ∙ lives)
        | inr other ↦ ap (λ b. has_stopped (if b then AtServer v else standing_at held.actors (Server t))) other
      ] in
      alike_by _ _ (ap master_of (now Master)) (goes_on_all history reported) (λ c. ap client_of (now (Client c)))
      failed (λ t alive. sym (ap view_of (now (Server t)) ∙ view_if (t == s) v (standing_at held.actors (Server t))))
      (λ from to alive. sent from to (alive_then (later (Server s) (AtServer v)).actors (reached (Server s) (AtServer v)) failed to alive))
  did_alike p standing (HasLeft s) inside lives sent =
      let now = λ (q : Process). standing_set held.actors (Server s) q Out inside all in
      let failed : (t : ℕ) → has_stopped (standing_at (later (Server s) Out).actors (Server t)) ≡ (if t == s then true else had_stopped t) =
      λ t. ap has_stopped (now (Server t)) ∙ lost_if (t == s) (standing_at held.actors (Server t)) in
      alike_by _ _ (ap master_of (now Master)) (goes_on_all history reported) (λ c. ap client_of (now (Client c))) failed
      (λ t alive. elim (test (t == s)) [
        | inl same ↦ absurd (true≢false (sym (ap (λ b. if b then true else had_stopped t) same) ∙ alive))
        | inr other ↦ sym (ap view_of (now (Server t)) ∙ ap (λ b. view_of (if b then Out else standing_at held.actors (Server t))) other)
      ])
      (λ from to alive. sent from to (alive_then (later (Server s) Out).actors (reached (Server s) Out) failed to alive))
  did_alike p standing (IsClient c v) inside lives sent =
      let now = λ (q : Process). standing_set held.actors (Client c) q (AtClient v) inside all in
      let failed = λ (s : ℕ). ap has_stopped (now (Server s)) in
      alike_by _ _ (ap master_of (now Master)) (goes_on_all history reported)
      (λ d. ap client_of (now (Client d)) ∙ client_if (d == c) v (standing_at held.actors (Client d)))
      failed (λ s alive. sym (ap view_of (now (Server s))))
      (λ from to alive. sent from to (alive_then (later (Client c) (AtClient v)).actors (reached (Client c) (AtClient v)) failed to alive))

-- a server that ended sent its failure notice
pub ended_sent : (actors : List TreeStanding) (old new : HeldChannels) (s : ℕ) → HasEnded old new (Server s) → is_lost actors (Server s) ≡ true
    → (from to : Process) → is_lost actors to ≡ false → put (links_of old) (Server s) last_post from to ≡ links_of new from to
ended_sent actors old new s ended lost from to alive =
    notice from to ∙ sym (ended.links from to ∙ ap (λ b. if b then [] else with_last (links_of old) (Server s) Master Gone from to) (apart to alive))
  where
    apart : (q : Process) → is_lost actors q ≡ false → is_same q (Server s) ≡ false
    apart Master alive = refl
    apart (Client c) alive = refl
    apart (Server t) alive = elim (test (t == s)) [
      | inl same ↦ absurd (true≢false (sym lost ∙ ap (λ n. is_lost actors (Server n)) (sym (eqb-true t s same)) ∙ alive))
      | inr other ↦ other
    ]

    notice : (p q : Process) → put (links_of old) (Server s) last_post p q ≡ with_last (links_of old) (Server s) Master Gone p q
    notice p q = elim (test (is_same p (Server s))) [
      | inl same ↦ elim (test (is_same q Master)) [
        | inl here ↦
            rw (same, here) (ap (λ x. links_of old x q ++ Gone ∷ []) (same_process p (Server s) same)
            ∙ ap (λ x. links_of old (Server s) x ++ Gone ∷ []) (same_process q Master here))
        | inr other ↦ rw (same, other) (append-nil (links_of old p q))
      ]
      | inr other ↦ rw other refl
    ]

-- who has failed in the world
pub lost_is : (held : Held) (history : History) (to : Process) → has_failed (kept_world held history) to ≡ is_lost held.actors to
lost_is held history Master = refl
lost_is held history (Server s) = refl
lost_is held history (Client c) = refl

-- the standing of a process in a world, by the standing that is held of it
abbrev whole_of : Process → TreeStanding → TreeStanding
whole_of Master standing = AtMaster (master_of standing)
whole_of (Server s) standing = AtServer (view_of standing)
whole_of (Client c) standing = AtClient (client_of standing)

whole_is : (p : Process) (standing : TreeStanding) → Stands p standing → has_stopped standing ≡ false → whole_of p standing ≡ standing
whole_is p standing (IsMaster v) lives = refl
whole_is p standing (IsServer s v) lives = refl
whole_is p standing (HasLeft s) lives = absurd (true≢false lives)
whole_is p standing (IsClient c v) lives = refl

-- the standing of a process that takes part is its standing in the world
pub standing_is : (held : Held) (history : History) (p : Process) → Stands p (standing_at held.actors p)
    → has_stopped (standing_at held.actors p) ≡ false
    → standing_of (kept_world held history) p ≡ standing_at held.actors p
standing_is held history Master is lives = whole_is Master (standing_at held.actors Master) is lives
standing_is held history (Server s) is lives = whole_is (Server s) (standing_at held.actors (Server s)) is lives
standing_is held history (Client c) is lives = whole_is (Client c) (standing_at held.actors (Client c)) is lives
