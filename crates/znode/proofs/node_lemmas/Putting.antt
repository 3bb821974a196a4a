-- How far the putting of messages is.
use Rattle.std.proofs.Common.{◌≡◌, ℕ, Bool, true, false, ◌||◌, List, [], ◌∷◌, ◌++◌, map, refl, sym, ap, subst, ◌∙◌, append_assoc}
use Rattle.std.proofs.lemmas.List.{append-nil}
use Rattle.std.proofs.lemmas.List.Concat.{flat_map-append}
use Rattle.zprotocol.specs.declared.process.Process.{Process}
use Rattle.zserver.specs.Server.{TreeMessage}
use Rattle.zactor.specs.Acting.{TreePost}
use Rattle.zmaster_log.specs.declared.entry.News.{News}
use Rattle.zpeers.specs.Outgoing.{WaitingView, waiting_for}
use Rattle.znode.specs.Node.{SeatView}
use Rattle.znode.specs.Server.{ArePut, fresh, has_joined, is_joined, news_of, news_to, put_to, puts_to}

-- what was put so far, with what is left, is all of it
pub record IsPutting (own : ℕ) (posts left : List TreePost) (old now : SeatView) : Type 0 where
  pub standing : now.standing ≡ old.standing
  pub state : now.has_state || has_joined left ≡ old.has_state || has_joined posts
  pub reports : now.reports ++ news_of own left ≡ old.reports ++ news_of own posts
  pub queued : (p : Process) → waiting_for now.outgoing p ++ map fresh (puts_to p left) ≡ waiting_for old.outgoing p ++ map fresh (puts_to p posts)

pub putting_begins : (own : ℕ) (posts : List TreePost) (old : SeatView) → IsPutting own posts posts old old
putting_begins own posts old = record { standing = refl; state = refl; reports = refl; queued = λ p. refl }

one_more : (a b c : Bool) → (a || (b || false)) || c ≡ a || (b || c)
one_more true b c = refl
one_more false true c = refl
one_more false false c = refl

pub or-none : (a : Bool) → a || false ≡ a
or-none true = refl
or-none false = refl

map-both : (a b : List TreeMessage) → map fresh (a ++ b) ≡ map fresh a ++ map fresh b
map-both [] b = refl
map-both (m ∷ a) b = ap (λ (l : List WaitingView). fresh m ∷ l) (map-both a b)

-- one more
pub putting_more : (own : ℕ) (posts left more : List TreePost) (post : TreePost) (old now new : SeatView)
    → IsPutting own posts left old now → left ≡ post ∷ more → ArePut own (post ∷ []) now new → IsPutting own posts more old new
putting_more own posts left more post old now new so_far is put = record {
  standing = put.standing ∙ so_far.standing;
  state =
      ap (λ (b : Bool). b || has_joined more) put.state
      ∙ one_more now.has_state (is_joined post.0 post.1) (has_joined more)
      ∙ ap (λ (l : List TreePost). now.has_state || has_joined l) (sym is)
      ∙ so_far.state;
  reports =
      ap (λ (l : List News). l ++ news_of own more) put.reports
      ∙ append_assoc now.reports (news_of own (post ∷ [])) (news_of own more)
      ∙ ap (λ (l : List News). now.reports ++ l) (sym (flat_map-append (λ (q : TreePost). news_to own q.0 q.1) (post ∷ []) more))
      ∙ ap (λ (l : List TreePost). now.reports ++ news_of own l) (sym is)
      ∙ so_far.reports;
  queued = λ p.
      ap (λ (l : List WaitingView). l ++ map fresh (puts_to p more)) (put.queued p)
      ∙ append_assoc (waiting_for now.outgoing p) (map fresh (puts_to p (post ∷ []))) (map fresh (puts_to p more))
      ∙ ap (λ (l : List WaitingView). waiting_for now.outgoing p ++ l) (
      sym (map-both (puts_to p (post ∷ [])) (puts_to p more))
      ∙ ap (map fresh) (sym (flat_map-append (λ (q : TreePost). put_to p q.0 q.1) (post ∷ []) more))
      )
      ∙ ap (λ (l : List TreePost). waiting_for now.outgoing p ++ map fresh (puts_to p l)) (sym is)
      ∙ so_far.queued p;
}

pub putting_done : (own : ℕ) (posts left : List TreePost) (old now : SeatView)
    → IsPutting own posts left old now → left ≡ [] → ArePut own posts old now
putting_done own posts left old now so_far none =
    let all : IsPutting own posts [] old now = subst (λ (l : List TreePost). IsPutting own posts l old now) none so_far in
    record {
      standing = all.standing;
      state = sym (or-none now.has_state) ∙ all.state;
      reports = sym (append-nil now.reports) ∙ all.reports;
      queued = λ p. sym (append-nil (waiting_for now.outgoing p)) ∙ all.queued p;
    }
