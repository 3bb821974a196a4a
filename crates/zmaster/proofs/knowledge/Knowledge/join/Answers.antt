use Rattle.std.proofs.Common.{◌≡◌, ap, sym, ◌∙◌, refl, Option, Some, None, List, ℕ, arith, length, map, lit<}
use Rattle.std.specs.List.{last_or}
use Rattle.zprotocol.specs.server.View.{Neighbour}
use Rattle.zprotocol.specs.master.View.{with_number}
use Rattle.zprotocol.proofs.Posts.{put_none, put_one}
use Rattle.zmaster.specs.support.Marks.{numbers_from}
use Rattle.zmaster.specs.contracts.knowledge.Knowledge.{the_view}
use Rattle.zmaster.proofs.Marks.{few_numbers}
use Rattle.zmaster.proofs.Rows.{join_behind, join_nowhere}
use Rattle.zmaster.proofs.knowledge.Knowledge.join.Goals as goal

pub returns-in_default-clause-next : goal.returns-in_default-clause-next
returns-in_default-clause-next g c =
    let none : ◌≡◌ {A = Option ℕ} (last_or None (map (λ (member : Neighbour). member.0) c.self.inside.chain.items)) None =
    sym (c.last_member.ensures ∙ ap (λ (xs : List Neighbour). last_or None (map (λ (member : Neighbour). member.0) xs)) c.deref.ensures.0) ∙ c.in_default.is in
    rw (← c.self.view_is, join_nowhere (the_view c.self.inside) c.args.server none) refl

pub returns-in_default-clause-puts : goal.returns-in_default-clause-puts
returns-in_default-clause-puts g c =
    let none : ◌≡◌ {A = Option ℕ} (last_or None (map (λ (member : Neighbour). member.0) c.self.inside.chain.items)) None =
    sym (c.last_member.ensures ∙ ap (λ (xs : List Neighbour). last_or None (map (λ (member : Neighbour). member.0) xs)) c.deref.ensures.0) ∙ c.in_default.is in
    rw (← c.self.view_is, join_nowhere (the_view c.self.inside) c.args.server none) (put_none _)

pub push-requires : goal.push-requires
push-requires g c =
    let new = rw (← c.self.view_is) at c.requires.new in
    let more : length (numbers_from 1 c.mark_used.new.used) ≡ length (with_number c.args.server (numbers_from 1 c.self.inside.used)) = ap length c.mark_used.ensures in
    (lit< tt, omega (arith, new, more, few_numbers 1 c.mark_used.new.used, c.mark_used.array_long))

pub returns-clause-next : goal.returns-clause-next
returns-clause-next g c =
    let last : last_or None (map (λ (member : Neighbour). member.0) c.self.inside.chain.items) ≡ Some c.in-Some.before =
    sym (c.last_member.ensures ∙ ap (λ (xs : List Neighbour). last_or None (map (λ (member : Neighbour). member.0) xs)) c.deref.ensures.0) ∙ c.in-Some.is in
    rw (← c.self.view_is, join_behind (the_view c.self.inside) c.args.server c.in-Some.before last, c.push.ensures.items, c.new.ensures, c.mark_used.ensures, c.next_epoch-epoch.ensures) refl

pub returns-clause-puts : goal.returns-clause-puts
returns-clause-puts g c =
    let last : last_or None (map (λ (member : Neighbour). member.0) c.self.inside.chain.items) ≡ Some c.in-Some.before =
    sym (c.last_member.ensures ∙ ap (λ (xs : List Neighbour). last_or None (map (λ (member : Neighbour). member.0) xs)) c.deref.ensures.0) ∙ c.in-Some.is in
    rw (← c.self.view_is, join_behind (the_view c.self.inside) c.args.server c.in-Some.before last, ← c.next_epoch-epoch.ensures) (put_one _ _ _ _ c.put_reserved.ensures.put c.put_reserved.ensures.room)
