use Rattle.std.proofs.Common.{◌≡◌, ◌<◌, true, false, length, sym, ap, subst, ◌∙◌}
use Rattle.std.specs.Prelude.{Result, Ok, Err, IfOk}
use Rattle.zrun.specs.Left.{AreLinked, by_place, is_left_lost}
use Rattle.zrun.specs.Clusters.{cluster_endpoints}
use Rattle.zrun.specs.Members.{HasAll}
use Rattle.zrun.specs.Untraced.{RanLawfully, untraced_count}
use Rattle.zrun.proofs.Leavings.{wired_unlost}
use Rattle.zrun.proofs.Left.{all_here, ran}
use Rattle.zrun.proofs.untraced.Untraced.end.Goals as goal

-- what two clauses say of a result
both_ok : {A E : Type 0} (r : Result A E) (P Q R : A → Type 0) → IfOk r P → IfOk r Q → ((x : A) → P x → Q x → R x) → IfOk r R
both_ok (Ok x) P Q R p q f = f x p q
both_ok (Err e) P Q R p q f = tt

pub is_known-requires : goal.is_known-requires
is_known-requires g c =
    let s = c.args.self.cluster in
    let l = c.in_ok-master in
    wired_unlost s.opening.last s.opening.clients (cluster_endpoints s) l.master l.servers.items l.clients.items s.wired.0 l.ensures.left

pub returns-clause-lawful : goal.returns-clause-lawful
returns-clause-lawful g c =
    let l = c.in_ok-master in
    let m = l.master in
    let ss = l.servers.items in
    let cs = l.clients.items in
    let given = c.args.clients in
    both_ok c.is_known.result (λ known. is_left_lost m ss cs ≡ true → known ≡ false) (λ known. known ≡ true → AreLinked (by_place m ss cs))
    (λ known. known ≡ true → ∥ RanLawfully c.args.self given ∥₁) c.is_known.ensures.lost c.is_known.ensures.linked
    (λ known never linked is.
    ran m ss cs known never is c.args.self given c.requires.own l.ensures.servers l.ensures.left l.ensures.kept (linked is))

pub returns-clause-all : goal.returns-clause-all
returns-clause-all g c =
    let l = c.in_ok-master in
    let m = l.master in
    let ss = l.servers.items in
    let cs = l.clients.items in
    let given = c.args.clients in
    both_ok c.is_known.result (λ known. is_left_lost m ss cs ≡ true → known ≡ false) (λ known. is_left_lost m ss cs ≡ true → known ≡ false)
    (λ known. known ≡ true → HasAll (untraced_count c.args.self) given) c.is_known.ensures.lost c.is_known.ensures.lost
    (λ known never again is i lt. all_here m ss cs known never is given.places.items l.ensures.kept i
    (subst (λ n. i < n) (sym c.args.self.cluster.count ∙ ap length (sym c.requires.own) ∙ sym given.many) lt))
