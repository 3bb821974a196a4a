use Rattle.std.proofs.Common.{◌≡◌, ◌∙◌, ◌++◌, ◌∷◌, List, length, sym, ap, subst, option_to_list, arith}
use Rattle.zthreads.specs.declared.endpoint.Endpoint.{Endpoint}
use Rattle.zthreads.specs.Endpoints.{Accounts, books_of, IsSettled, pending, PutsOn, self_of, StaysSo, TreePost}
use Rattle.zthreads.proofs.Endings.{put_stands}
use Rattle.zthreads.proofs.Pending.{nothing_waits}
use Rattle.zthreads.proofs.Wires.{same_endpoint, same_books}
use Rattle.zthreads.proofs.endpoint.Endpoint.settle.Goals as goal

-- where all is on links, nothing waits
waits_not : (d : Endpoint) {post : TreePost} {rest : List TreePost} → pending d ≡ post ∷ rest → IsSettled d → ⊥
waits_not d some settled = let e = ap length (sym (nothing_waits d settled) ∙ some) in omega (arith, e)

pub returns-then-not-put_on_link-clause-settled : goal.returns-then-not-put_on_link-clause-settled
returns-then-not-put_on_link-clause-settled c was = absurd (waits_not c.loop-to.self c.in-Some.ensures.some (c.loop-to.invariant.3 was))

pub returns-clause-settled : goal.returns-clause-settled
returns-clause-settled c was = (c.next_post.ensures.held, c.in_default.ensures.none.1)

-- the next message is put on its channel by the same steps
next_put : (d e n f : Endpoint) (posts : List TreePost) {post : TreePost} {rest : List TreePost} → PutsOn d e posts (pending e)
    → StaysSo e n → pending e ≡ post ∷ rest → PutsOn n f (post ∷ rest) (pending f) → PutsOn d f posts (pending f)
next_put d e n f posts so stays some put s t deeds a =
    put s t deeds (subst (λ w. Accounts (self_of n) (books_of n) s t w deeds) some (stays (pending e) s t deeds (so s t deeds a)))

-- where none is left, what is left is what was
last_put : (d e n : Endpoint) (posts : List TreePost) → PutsOn d e posts (pending e) → StaysSo e n → pending n ≡ pending e
    → PutsOn d n posts (pending n)
last_put d e n posts so stays same s t deeds a =
    subst (λ w. Accounts (self_of n) (books_of n) s t w deeds) (sym same) (stays (pending e) s t deeds (so s t deeds a))

pub returns-then-not-put_on_link-clause-steps : goal.returns-then-not-put_on_link-clause-steps
returns-then-not-put_on_link-clause-steps c =
    next_put c.args.self.now c.loop-to.self c.next_post.new.self c.put_on_link.new.self (pending c.args.self.now) c.loop-to.invariant.0 c.next_post.ensures.steps
    c.in-Some.ensures.some c.put_on_link.ensures.steps

pub returns-then-not-put_on_link-clause-stands : goal.returns-then-not-put_on_link-clause-stands
returns-then-not-put_on_link-clause-stands c =
    let old = c.args.self.now in
    let next = c.next_post.new.self in
    let new = c.put_on_link.new.self in
    put_stands old new (pending old) (pending new)
    (same_books old next new (same_books old c.loop-to.self next c.loop-to.invariant.2 c.next_post.ensures.books) c.put_on_link.ensures.books)
    (next_put old c.loop-to.self next new (pending old) c.loop-to.invariant.0 c.next_post.ensures.steps c.in-Some.ensures.some c.put_on_link.ensures.steps)

pub loop-to-preserved : goal.loop-to-preserved
loop-to-preserved c =
    let i = c.loop-to.invariant in
    let n = c.next_post.ensures in
    let p = c.put_on_link.ensures in (
      next_put c.args.self.now c.loop-to.self c.next_post.new.self c.put_on_link.new.self (pending c.args.self.now) i.0 n.steps c.in-Some.ensures.some p.steps,
      same_endpoint c.args.self.now c.next_post.new.self c.put_on_link.new.self (same_endpoint c.args.self.now c.loop-to.self
          c.next_post.new.self i.1 n.same) p.same,
      same_books c.args.self.now c.next_post.new.self c.put_on_link.new.self (same_books c.args.self.now c.loop-to.self
          c.next_post.new.self i.2 n.books) p.books,
      λ was. absurd (waits_not c.loop-to.self c.in-Some.ensures.some (i.3 was)),
    )

pub returns-clause-steps : goal.returns-clause-steps
returns-clause-steps c =
    let n = c.next_post.ensures in
    let none = c.in_default.ensures.none in
    let e : pending c.next_post.new.self ≡ pending c.loop-to.self = ap (λ x. option_to_list x ++ c.next_post.new.self.out.posts) n.held
    ∙ none.1 ∙ sym none.0 in
    last_put c.args.self.now c.loop-to.self c.next_post.new.self (pending c.args.self.now) c.loop-to.invariant.0 n.steps e

pub returns-clause-stands : goal.returns-clause-stands
returns-clause-stands c =
    let old = c.args.self.now in
    let new = c.next_post.new.self in
    let n = c.next_post.ensures in
    let none = c.in_default.ensures.none in
    let e : pending new ≡ pending c.loop-to.self = ap (λ x. option_to_list x ++ new.out.posts) n.held ∙ none.1 ∙ sym none.0 in
    put_stands old new (pending old) (pending new) (same_books old c.loop-to.self new c.loop-to.invariant.2 n.books)
    (last_put old c.loop-to.self new (pending old) c.loop-to.invariant.0 n.steps e)
