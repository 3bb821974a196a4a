use Rattle.std.proofs.Common.{◌≡◌, [], ◌∷◌, ◌++◌, get_or, sym, ap, ◌∙◌}
use Rattle.zworld.specs.links.Places.{sent_of, notice_of}
use Rattle.zworld.proofs.links_lemmas.Calls.{front_there, none_there}
use Rattle.zworld.proofs.links_lemmas.Noted.{front_seen, empty_seen, gone_seen}
use Rattle.zworld.proofs.links.links.Links.front.Goals as goal

-- nothing was sent, and a notice is stored
pub returns-then-is_between : goal.returns-then-is_between
returns-then-is_between g c =
    let nothing : sent_of c.self.inside.queues.items c.args.from.now c.args.to.now ≡ [] =
    none_there c.deref.ensures.value c.args.from.now c.args.to.now c.place-sender.ensures.place c.place-receiver.ensures.place
    c.place-sender.ensures.small c.place-receiver.ensures.small c.in_default.ensures.gap in
    let there = gone_seen c.self.view_is c.args.from.now c.args.to.now nothing (sym c.is_between.ensures ∙ c.if-is_between.true) in
    ([], there ∙ ap (λ m. m ∷ []) (sym c.self.invariant.1))

-- or none is
pub returns-in_default : goal.returns-in_default
returns-in_default g c =
    let nothing : sent_of c.self.inside.queues.items c.args.from.now c.args.to.now ≡ [] =
    none_there c.deref.ensures.value c.args.from.now c.args.to.now c.place-sender.ensures.place c.place-receiver.ensures.place
    c.place-sender.ensures.small c.place-receiver.ensures.small c.in_default.ensures.gap in
    empty_seen c.self.view_is c.args.from.now c.args.to.now nothing (sym c.is_between.ensures ∙ c.if-is_between.false)

pub returns : goal.returns
returns g c =
    let read : c.index.result.now ≡ get_or c.self.inside.queues.items c.in-Ok.at c.index.result.now = search (c.index.ensures) in (
      c.index.result.now.others ++ notice_of c.self.inside.notices c.args.from.now c.args.to.now,
      front_seen c.self.view_is c.args.from.now c.args.to.now c.front.result.now c.index.result.now.others
          (front_there c.deref.ensures.value c.args.from.now c.args.to.now c.place-sender.ensures.place c.place-receiver.ensures.place
          c.place-sender.ensures.small c.place-receiver.ensures.small c.in-Ok.ensures.found read
          ∙ ap (λ front. front ∷ c.index.result.now.others) (sym c.front.ensures)),
    )
