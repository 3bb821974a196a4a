use Rattle.std.proofs.Common.{rules, ◌≡◌, Option, None, sym, ap, ◌∙◌}
use Rattle.std.specs.Option.{option_copied_mut, option_map_or}
use Rattle.std.specs.FinMap.{insert}
use Rattle.zslots.specs.declared.linked.Links.{Links}
use Rattle.zslots.specs.Links.{with_links_at}
use Rattle.zslots.proofs.ListMoves.{list-with_front}
use Rattle.zslots.proofs.list.List.push_front.Goals.{in-Some, in_default}
use Rattle.zslots.proofs.list.List.push_front.Goals as goal

pub returns-clause-items : goal.returns-clause-items
returns-clause-items g c = search rules

pub returns-clause-own : goal.returns-clause-own
returns-clause-own g c = search rules

pub returns-clause-list : goal.returns-clause-list
returns-clause-list g c =
    λ ids is free live.
    let m = c.set_prev.new.slots.items in
    let id = c.args.id in
    let to : Links = record { next = c.args.self.now.first; prev = None } in
    let written = λ (o : Option g.row.T.Denot). option_map_or (λ (x : g.row.T.Denot). insert m id (g.T.Linked.with_links x to)) o m in
    let front : c.match-get_mut.slots.items ≡ with_links_at g.T.Linked.with_links m id to =
    elim c.match-get_mut.branch [
      | in-Some w ↦ ap (λ s. s.items) w.slots-is ∙ ap (insert m id) w.set_links.ensures
          ∙ ap written (sym (ap option_copied_mut w.in-Some.is) ∙ c.get_mut.follows)
      | in_default w ↦ ap (λ s. s.items) w.slots-is
          ∙ ap written (sym (ap option_copied_mut w.in_default.is) ∙ c.get_mut.follows)
    ] in
    rw (front, c.set_prev.ensures) (list-with_front {L = g.row.L} g.T.Linked.links g.T.Linked.with_links g.met.T.Linked.reads c.args.slots.now.items c.args.self.now id ids is free live)
