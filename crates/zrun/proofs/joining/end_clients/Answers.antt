use Rattle.std.proofs.Common.{◌≡◌, ◌++◌, ◌∷◌, [], sym, ap, subst, ◌∙◌, append_assoc, append-nil}
use Rattle.std.proofs.lemmas.List.{nil_from_length}
use Rattle.zrun.specs.Clients.{IsLeftIn}
use Rattle.zrun.specs.Runs.{Pairs}
use Rattle.zrun.proofs.Leavings.{clients_left}
use Rattle.zrun.proofs.Pairs.{pairs_push}
use Rattle.zrun.proofs.joining.end_clients.Goals as goal

pub loop-place-init : goal.loop-place-init
loop-place-init c = (
  sym c.into_iter-place-iterator.ensures.into_iter_gives.0,
  subst (λ l. Pairs IsLeftIn [] l) (sym c.in_ok-endings.ensures.items) tt,
)

pub loop-place-preserved : goal.loop-place-preserved
loop-place-preserved c =
    let i = c.loop-place.invariant in
    let yielded = c.loop-place.yielded in
    let place = c.in-Some.place in
    let rest = c.next.new.self.rest.items in
    let e = c.end_client.result in (
      i.0 ∙ ap (λ l. yielded ++ l) c.in-Some.ensures.steps.0 ∙ sym (append_assoc yielded (place ∷ []) rest),
      subst (λ l. Pairs IsLeftIn (yielded ++ place ∷ []) l) (sym c.in_ok-push.ensures.items)
          (pairs_push IsLeftIn yielded c.loop-place.endings.items place e i.1 c.end_client.ensures),
    )

pub returns-clause-kept : goal.returns-clause-kept
returns-clause-kept c =
    let i = c.loop-place.invariant in
    let rest = c.loop-place.place-iterator.rest in
    let ended : rest.items ≡ [] = nil_from_length rest.items (sym rest.ok.0 ∙ c.in-None.ensures.steps.0) in
    let all : c.args.clients.places.items ≡ c.loop-place.yielded = i.0 ∙ ap (λ l. c.loop-place.yielded ++ l) ended
    ∙ append-nil c.loop-place.yielded in
    subst (λ l. Pairs IsLeftIn l c.loop-place.endings.items) (sym all) i.1

pub returns-clause-left : goal.returns-clause-left
returns-clause-left c =
    let i = c.loop-place.invariant in
    let rest = c.loop-place.place-iterator.rest in
    let ended : rest.items ≡ [] = nil_from_length rest.items (sym rest.ok.0 ∙ c.in-None.ensures.steps.0) in
    let all : c.args.clients.places.items ≡ c.loop-place.yielded = i.0 ∙ ap (λ l. c.loop-place.yielded ++ l) ended
    ∙ append-nil c.loop-place.yielded in
    clients_left c.args.clients.run.value.items c.args.clients.places.items c.loop-place.endings.items c.args.clients.many c.args.clients.own
    (subst (λ l. Pairs IsLeftIn l c.loop-place.endings.items) (sym all) i.1)
