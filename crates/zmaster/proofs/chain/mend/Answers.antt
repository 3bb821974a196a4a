use Rattle.std.proofs.Common.{◌≡◌, ◌-◌, ◌<◌, length, ℕ, refl, sym, ap, ◌∙◌, arith, get_or, List}
use Rattle.std.proofs.Math.ListN.{length-set}
use Rattle.std.specs.Prelude.{slice_set}
use Rattle.zprotocol.specs.server.View.{Neighbour}
use Rattle.zprotocol.specs.master.Table.{MendedChain}
use Rattle.zprotocol.proofs.Posts.{put_one}
use Rattle.zmaster.proofs.Mending.{mended_end, mended_between, refilled}
use Rattle.zmaster.proofs.chain.mend.Goals as goal

pub returns-then-at-len-clause-chain : goal.returns-then-at-len-clause-chain
returns-then-at-len-clause-chain g c =
    let before = c.index-deref-at.result in
    let is : before ≡ get_or c.args.members.now.items (c.args.at - 1) before = c.index-deref-at.is ∙ ap (λ (xs : List Neighbour). get_or xs (c.args.at - 1) before) c.deref-2.ensures.0 in
    rw (mended_end c.args.epoch c.args.at (c.args.at - 1) c.args.members.now.items before (omega arith) (omega arith) is) refl

pub returns-then-at-len-clause-puts : goal.returns-then-at-len-clause-puts
returns-then-at-len-clause-puts g c =
    let before = c.index-deref-at.result in
    let is : before ≡ get_or c.args.members.now.items (c.args.at - 1) before = c.index-deref-at.is ∙ ap (λ (xs : List Neighbour). get_or xs (c.args.at - 1) before) c.deref-2.ensures.0 in
    let who = c.id-before.ensures in
    rw (mended_end c.args.epoch c.args.at (c.args.at - 1) c.args.members.now.items before (omega arith) (omega arith) is, ← who)
    (put_one _ _ _ _ c.put_reserved-then-at-len.ensures.put c.put_reserved-then-at-len.ensures.room)

pub returns-clause-chain : goal.returns-clause-chain
returns-clause-chain g c =
    let items = c.args.members.now.items in
    let before = c.index-deref-at.result in
    let next = c.index-deref-at-3.result in
    let is : before ≡ get_or items (c.args.at - 1) before = c.index-deref-at.is ∙ ap (λ (xs : List Neighbour). get_or xs (c.args.at - 1) before) c.deref-2.ensures.0 in
    let stands : next ≡ get_or items c.args.at next = c.index-deref-at-3.is ∙ ap (λ (xs : List Neighbour). get_or xs c.args.at next) c.deref-4.ensures.0 in
    let within : c.args.at < length items = omega arith in
    let made : c.new.result ≡ (next.0, c.args.epoch) = c.new.ensures ∙ ap (λ (s : ℕ). (s, c.args.epoch)) c.id-next.ensures in
    rw (c.deref_mut.ensures.value, made) (refilled items (slice_set items c.args.at (next.0, c.args.epoch)) (length-set items c.args.at (next.0, c.args.epoch))
    ∙ sym (ap (λ (m : MendedChain _). m.0) (mended_between c.args.epoch c.args.at (c.args.at - 1) items before next (omega arith) within is stands)))

pub returns-clause-puts : goal.returns-clause-puts
returns-clause-puts g c =
    let items = c.args.members.now.items in
    let before = c.index-deref-at.result in
    let next = c.index-deref-at-2.result in
    let is : before ≡ get_or items (c.args.at - 1) before = c.index-deref-at.is ∙ ap (λ (xs : List Neighbour). get_or xs (c.args.at - 1) before) c.deref-2.ensures.0 in
    let stands : next ≡ get_or items c.args.at next = c.index-deref-at-2.is ∙ ap (λ (xs : List Neighbour). get_or xs c.args.at next) c.deref-3.ensures.0 in
    let within : c.args.at < length items = omega arith in
    rw (mended_between c.args.epoch c.args.at (c.args.at - 1) items before next (omega arith) within is stands, ← c.id-2.ensures, ← c.id-before.ensures)
    (put_one _ _ _ _ c.put_reserved-2.ensures.put c.put_reserved-2.ensures.room)
