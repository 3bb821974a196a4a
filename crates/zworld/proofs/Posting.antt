-- Messages that are put on channels, and fronts that are taken from them.
use Rattle.std.proofs.Common.{◌≡◌, ℕ, Bool, false, if◌then◌else◌, List, [], ◌∷◌, ◌++◌, drop, refl, sym, ap, ◌∙◌, inl, inr, append_assoc}
use Rattle.std.specs.Prelude.{◌&&◌}
use mathlib.Core.Path.{fun_ext}
use Rattle.ztree.specs.Tree.{Tree}
use Rattle.zcalls.specs.Cached.{CachedState}
use Rattle.zcalls.proofs.Among.{test}
use Rattle.zprotocol.specs.declared.message.Message.TheVariants.{Gone}
use Rattle.zprotocol.specs.declared.process.Process.{Process}
use Rattle.zprotocol.specs.declared.process.Process.TheVariants.{Master, Server, Client}
use Rattle.zprotocol.specs.server.View.{MessageOf, Post}
use Rattle.zactor.specs.Acting.{TreeStanding}
use Rattle.zworld.specs.links.Places.{links_of, has_notice, with_last, with_link, with_notice}
use Rattle.zworld.specs.links.Places.{without_first, without_receiver, notices_left, holds, Keeps, Notes}
use Rattle.zprotocol.proofs.world_lemmas.Processes.{same_process}
use Rattle.zprotocol.proofs.world_lemmas.Tests.{both}
use Rattle.zprotocol.specs.world.History.{History}
use Rattle.zprotocol.specs.world.Links.{Links, is_same, messages_to, put, without_front}
use Rattle.zworld.specs.Held.{Held, HeldChannels, kept_world}
use Rattle.zworld.specs.support.Posting.{is_lost, HasEnded}
use Rattle.zworld.proofs.Delivered.{without}

-- a server alone can have stopped
pub only_servers_lost : (actors : List TreeStanding) (p : Process) → ((s : ℕ) → p ≡ Server s → ⊥) → is_lost actors p ≡ false
only_servers_lost actors Master other = refl
only_servers_lost actors (Server s) other = absurd (other s refl)
only_servers_lost actors (Client c) other = refl

-- whether a process has stopped was asked
pub lost_read : (held old : Held) (actors : List TreeStanding) (p : Process) (b asked : Bool) → held ≡ old → actors ≡ held.actors
    → asked ≡ is_lost actors p → asked ≡ b
    → is_lost old.actors p ≡ b
lost_read held old actors p b asked same read is so =
    ap (λ (h : Held). is_lost h.actors p) (sym same) ∙ ap (λ (xs : List TreeStanding). is_lost xs p) (sym read) ∙ sym is ∙ so

-- a message that is put comes first
pub rest_put : (links new : Links (CachedState Tree)) (from to : Process) (m : MessageOf (CachedState Tree)) (rest : List (Post (CachedState Tree)))
    → ((p q : Process) → new p q ≡ with_link links from to (links from to ++ m ∷ []) p q)
    → (p q : Process) → put new from rest p q ≡ put links from ((to, m) ∷ rest) p q
rest_put links new from to m rest is p q = elim (test (is_same p from)) [
  | inl here ↦ elim (test (is_same q to)) [
    | inl there ↦
        let same : links from to ≡ links p q =
        ap (λ x. links x to) (sym (same_process p from here)) ∙ ap (λ x. links p x) (sym (same_process q to there)) in
        let now : new p q ≡ links p q ++ m ∷ [] =
        is p q ∙ ap (λ b. if b && is_same q to then links from to ++ m ∷ [] else links p q) here
        ∙ ap (λ b. if b then links from to ++ m ∷ [] else links p q) there ∙ ap (λ ms. ms ++ m ∷ []) same in
        rw (here, there, now) (append_assoc (links p q) (m ∷ []) (messages_to q rest))
    | inr other ↦
        let now : new p q ≡ links p q =
        is p q ∙ ap (λ b. if b && is_same q to then links from to ++ m ∷ [] else links p q) here
        ∙ ap (λ b. if b then links from to ++ m ∷ [] else links p q) other in
        rw (here, other, now) refl
  ]
  | inr other ↦
      let now : new p q ≡ links p q = is p q ∙ ap (λ b. if b && is_same q to then links from to ++ m ∷ [] else links p q) other in
      rw (other, now) refl
]

-- a channel without its first message is one without its front
first_is_front : (links : Links (CachedState Tree)) (from to p q : Process) → without_first links from to p q ≡ without_front links from to p q
first_is_front links from to p q = elim (test (is_same p from && is_same q to)) [
  | inl same ↦
      let tests = both (is_same p from) (is_same q to) same in
      rw same (ap (λ x. drop 1 (links x to)) (sym (same_process p from tests.0)) ∙ ap (λ x. drop 1 (links p x)) (sym (same_process q to tests.1)))
  | inr other ↦ rw other refl
]

-- what is held once a front was taken
pub popped_world : (old held : Held) (channels : HeldChannels) (from to : Process) → held ≡ old
    → Keeps channels (without_first (links_of held.links) from to)
    → (history : History) → kept_world (record held { links = channels }) history ≡ without (kept_world old history) from to
popped_world old held channels from to same keeps history =
    let links : ◌≡◌ {A = Links (CachedState Tree)} (links_of channels) (without_front (links_of held.links) from to) =
    fun_ext (λ p. fun_ext (λ q. keeps p q ∙ first_is_front (links_of held.links) from to p q)) in
    ap (λ (ls : Links (CachedState Tree)). record (kept_world held history) { links = ls }) links
    ∙ ap (λ (o : Held). without (kept_world o history) from to) same

-- a server sent its failure notice, and what was on channels to it was dropped
pub has_ended : (old mid new : HeldChannels) (p : Process) → Keeps mid (with_last (links_of old) p Master Gone) → Notes mid (with_notice old p)
    → Keeps new (without_receiver (links_of mid) p) → Notes new (notices_left mid (links_of new)) → HasEnded old new p
has_ended old mid new p put notes cleared left = record {
  links = λ from to. cleared from to ∙ ap (λ (ms : List (MessageOf (CachedState Tree))). if is_same to p then [] else ms) (put from to);
  notices = λ q is. sym (notes q) ∙ (both (has_notice mid q) (holds (links_of new q Master)) (sym (left q) ∙ is)).0;
}
