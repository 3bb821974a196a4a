use Rattle.std.proofs.Common.{◌<◌, inl, inr, sym, ap, subst, ◌∙◌}
use Rattle.std.specs.Prelude.{◌&&◌}
use Rattle.zprotocol.specs.declared.limits.TheConstants.{PROCESSES}
use Rattle.zprotocol.specs.declared.process.Process.TheVariants.{Master}
use Rattle.zprotocol.specs.Places.{place_of}
use Rattle.zprotocol.specs.world.Links.{is_same}
use Rattle.zworld.specs.links.Places.{sent_of, holds}
use Rattle.zworld.proofs.links_lemmas.Noted.{empty_seen, held_seen, noticed_seen}
use Rattle.zworld.proofs.links_lemmas.Searches.{before_later}
use Rattle.zworld.proofs.links.links.Links.next_turn.Goals as goal

-- there are no notices
pub returns-then-are_none-clause-empty : goal.returns-then-are_none-clause-empty
returns-then-are_none-clause-empty g c p q few reaches before =
    empty_seen c.self.view_is p q
    (ap (λ sent. sent_of sent p q) (sym c.deref.ensures.value) ∙ c.next_turn-next.ensures.empty p q few reaches before)
    (ap (λ b. b && is_same q Master) (c.are_none.ensures c.if-are_none.true p))

pub returns-then-are_none-clause-held : goal.returns-then-are_none-clause-held
returns-then-are_none-clause-held g c p q is there small =
    held_seen c.self.view_is p q
    (ap (λ sent. holds (sent_of sent p q)) (sym c.deref.ensures.value) ∙ c.next_turn-next.ensures.held p q is there small)

-- there may be some
pub returns-clause-empty : goal.returns-clause-empty
returns-clause-empty g c p q few reaches before =
    let next = c.next_turn-next.result in let end = c.sooner.result in
    empty_seen c.self.view_is p q
    (ap (λ sent. sent_of sent p q) (sym c.deref.ensures.value)
    ∙ c.next_turn-next.ensures.empty p q few reaches
    (before_later (place_of p) (place_of q) end.sender end.receiver next.sender next.receiver before c.sooner.ensures.sooner))
    (c.sooner.ensures.silent p q few reaches before)

pub returns-clause-held : goal.returns-clause-held
returns-clause-held g c p q is there small = elim c.sooner.ensures.noted [
  | inl same ↦
      held_seen c.self.view_is p q
      (ap (λ sent. holds (sent_of sent p q)) (sym c.deref.ensures.value)
      ∙ c.next_turn-next.ensures.held p q (is ∙ ap (λ t. t.sender) same) (there ∙ ap (λ t. t.receiver) same)
      (subst (λ t. t.sender < PROCESSES) same small))
  | inr noted ↦ noticed_seen c.self.view_is p q (noted p q is there small)
]
