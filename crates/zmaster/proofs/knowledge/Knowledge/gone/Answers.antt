use Rattle.std.proofs.Common.{◌≡◌, ◌==◌, ap, sym, ◌∙◌, refl, Option, Some, None, List, ℕ, arith}
use Rattle.std.specs.List.{position}
use Rattle.zprotocol.specs.server.View.{Neighbour}
use Rattle.zprotocol.proofs.Posts.{put_none, put_more}
use Rattle.zmaster.specs.contracts.knowledge.Knowledge.{the_view}
use Rattle.zmaster.proofs.Mending.{place_found, place_missing}
use Rattle.zmaster.proofs.Rows.{gone_outside, gone_member, mended_few}
use Rattle.zmaster.proofs.knowledge.Knowledge.gone.Goals as goal

pub returns-in_default-clause-next : goal.returns-in_default-clause-next
returns-in_default-clause-next g c =
    let missing : ◌≡◌ {A = Option ℕ} (position (λ (member : Neighbour). member.0 == c.args.server) c.self.inside.chain.items) None =
    sym (c.position_of.ensures ∙ ap (λ (xs : List Neighbour). position (λ (member : Neighbour). member.0 == c.args.server) xs) c.deref.ensures.0) ∙ c.in_default.is in
    let outside = place_missing c.args.server c.self.inside.chain.items missing in
    rw (← c.self.view_is, gone_outside (the_view c.self.inside) c.args.server outside, c.mark_used.ensures) refl

pub returns-in_default-clause-puts : goal.returns-in_default-clause-puts
returns-in_default-clause-puts g c =
    let missing : ◌≡◌ {A = Option ℕ} (position (λ (member : Neighbour). member.0 == c.args.server) c.self.inside.chain.items) None =
    sym (c.position_of.ensures ∙ ap (λ (xs : List Neighbour). position (λ (member : Neighbour). member.0 == c.args.server) xs) c.deref.ensures.0) ∙ c.in_default.is in
    let outside = place_missing c.args.server c.self.inside.chain.items missing in
    rw (← c.self.view_is, gone_outside (the_view c.self.inside) c.args.server outside) (put_none _)

pub tell-requires : goal.tell-requires
tell-requires g c =
    let few = mended_few g.row.T.Denot c.next_epoch-epoch.result c.in-Some.at c.remove.new.self.items in
    omega (arith, few, c.mend.ensures.puts.room, c.self.invariant, c.requires.room)

pub returns-clause-next : goal.returns-clause-next
returns-clause-next g c =
    let found : position (λ (member : Neighbour). member.0 == c.args.server) c.self.inside.chain.items ≡ Some c.in-Some.at =
    sym (c.position_of.ensures ∙ ap (λ (xs : List Neighbour). position (λ (member : Neighbour). member.0 == c.args.server) xs) c.deref.ensures.0) ∙ c.in-Some.is in
    let place = place_found c.args.server c.self.inside.chain.items c.in-Some.at found in
    rw (← c.self.view_is, gone_member (the_view c.self.inside) c.args.server c.in-Some.at place, c.mend.ensures.chain, c.remove.ensures.items, c.next_epoch-epoch.ensures, c.who_stays-self-inside.ensures, c.who_stays-self-inside-2.ensures) refl

pub returns-clause-puts : goal.returns-clause-puts
returns-clause-puts g c =
    let found : position (λ (member : Neighbour). member.0 == c.args.server) c.self.inside.chain.items ≡ Some c.in-Some.at =
    sym (c.position_of.ensures ∙ ap (λ (xs : List Neighbour). position (λ (member : Neighbour). member.0 == c.args.server) xs) c.deref.ensures.0) ∙ c.in-Some.is in
    let place = place_found c.args.server c.self.inside.chain.items c.in-Some.at found in
    let first = rw (c.remove.ensures.items, c.next_epoch-epoch.ensures) at c.mend.ensures.puts in
    let then = rw (c.mend.ensures.chain, c.remove.ensures.items, c.next_epoch-epoch.ensures, c.who_stays-self-inside.ensures) at c.tell.ensures in
    rw (← c.self.view_is, gone_member (the_view c.self.inside) c.args.server c.in-Some.at place) (put_more _ _ _ _ _ first then)
