-- Runs of a server, one after the other.
use Rattle.std.proofs.Common.{◌≡◌, ℕ, Bool, true, false, cond, List, [], ◌∷◌, ◌++◌, map, Option, None, Some, refl, sym, ap, subst, ◌∙◌, append_assoc}
use Rattle.std.specs.Prelude.{option_to_list}
use Rattle.std.proofs.lemmas.List.{append-nil}
use Rattle.std.proofs.lemmas.List.Concat.{flat_map-append}
use Rattle.zprotocol.specs.declared.process.Process.{Process}
use Rattle.zserver.specs.Server.{TreeMessage}
use Rattle.zactor.specs.Acting.{TreeStanding, TreePost}
use Rattle.znode.specs.Node.{SeatView}
use Rattle.znode.specs.Server.{AreQueued, HearsAny, news_of}
use Rattle.znode.specs.Laws.{Heard, ServerRuns, is_same, said, said_by}

pub runs_both : (own : ℕ) (old : TreeStanding) (a b : List Heard) (x y : List TreePost) (middle new : TreeStanding)
    → ServerRuns own old a x middle → ServerRuns own middle b y new → ServerRuns own old (a ++ b) (x ++ y) new
runs_both own old [] b x y middle new ran then =
    subst (λ (st : TreeStanding). ServerRuns own st b (x ++ y) new) ran.0
    (subst (λ (l : List TreePost). ServerRuns own middle b (l ++ y) new) (sym ran.1) then)
runs_both own old (h ∷ a) b x y middle new ran then = (
  ran.0,
  ran.1 ++ y,
  ran.2,
  runs_both own ran.0.left a b ran.1 y middle new ran.3 then,
  ap (λ (l : List TreePost). l ++ y) ran.4 ∙ append_assoc ran.0.posts ran.1 y,
)

pub said-both : (p : Process) (a b : List Heard) → said_by p (a ++ b) ≡ said_by p a ++ said_by p b
said-both p a b = flat_map-append (said p) a b

-- messages of one sender
abbrev pub all_from : Process → List TreeMessage → List Heard
all_from from messages = map (λ (m : TreeMessage). (from, m)) messages

same_either : (b : Bool) (l : List TreeMessage) → l ≡ cond b l l
same_either true l = refl
same_either false l = refl

pub said-all : (p from : Process) (o : Option TreeMessage)
    → said_by p (all_from from (option_to_list o)) ≡ cond (is_same p from) (option_to_list o) []
said-all p from None = same_either (is_same p from) []
said-all p from (Some m) = append-nil (cond (is_same p from) (m ∷ []) [])

-- what a server has handled, and what it put
pub record HasHeard (own : ℕ) (heard : List Heard) (old new : SeatView) : Type 0 where
  pub posts : List TreePost
  pub ran : ServerRuns own old.standing heard posts new.standing
  pub queued : AreQueued posts old.outgoing new.outgoing
  pub reports : new.reports ≡ old.reports ++ news_of own posts

queued_none : (old : SeatView) → AreQueued [] old.outgoing old.outgoing
queued_none old p = sym (append-nil _)

pub hears_any : (own : ℕ) (from : Process) (o : Option TreeMessage) (old new : SeatView)
    → HearsAny own from o old new → HasHeard own (all_from from (option_to_list o)) old new
hears_any own from None old new same =
    subst (λ (s : SeatView). HasHeard own [] old s) (sym same)
    (record { posts = []; ran = (refl, refl); queued = queued_none old; reports = sym (append-nil old.reports) })
hears_any own from (Some m) old new hears = record {
  posts = hears.effect.posts ++ [];
  ran = (
    hears.effect,
    [],
    hears.done,
    (hears.put.standing, refl),
    refl,
  );
  queued = subst (λ (ps : List TreePost). AreQueued ps old.outgoing new.outgoing) (sym (append-nil hears.effect.posts)) hears.put.queued;
  reports = hears.put.reports ∙ ap (λ (ps : List TreePost). old.reports ++ news_of own ps) (sym (append-nil hears.effect.posts));
}
