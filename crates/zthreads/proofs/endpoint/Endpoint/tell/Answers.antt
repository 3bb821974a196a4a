use mathlib.Core.Logic.{∥∥₁_map}
use Rattle.std.proofs.Common.{◌++◌, true, refl, sym, ap, ◌∙◌, subst, option_to_list, append-nil}
use Rattle.zprotocol.specs.world.History.{History}
use Rattle.zthreads.specs.Endpoints.{Accounts, Books, self_of, books_of}
use Rattle.zthreads.proofs.Deeds.{accounts_cut}
use Rattle.zthreads.proofs.endpoint.Endpoint.tell.Goals as goal

pub returns-in_default-clause-stands : goal.returns-in_default-clause-stands
returns-in_default-clause-stands c s t posts h cut =
    let d = c.args.self.now in
    let items = d.seen.items in
    ∥∥₁_map (h cut) (λ a. (
      a.0,
      subst (λ (l : History). Accounts (self_of d) (record (books_of d) { reported = l }) s t posts a.0)
          (ap (λ o. items ++ option_to_list o) c.in_default.is ∙ append-nil items) a.1,
    ))

pub returns-in-Ok-clause-stands : goal.returns-in-Ok-clause-stands
returns-in-Ok-clause-stands c s t posts h cut =
    let d = c.args.self.now in
    let items = d.seen.items in
    ∥∥₁_map (h cut) (λ a. (
      a.0,
      subst (λ (l : History). Accounts (self_of d) (record (books_of d) { reported = l }) s t posts a.0)
          (ap (λ o. items ++ option_to_list o) c.in-Some.is ∙ sym c.in-Ok.ensures.items) a.1,
    ))

pub returns-in-Err-clause-stands : goal.returns-in-Err-clause-stands
returns-in-Err-clause-stands c s t posts h lost =
    let d = c.args.self.now in
    let more : Books = record (books_of d) { reported = d.seen.items ++ option_to_list c.args.reported } in
    ∥∥₁_map (h lost) (λ a. (a.0, accounts_cut (self_of d) more s t posts a.0 d.trace.items c.push.new.self.items true refl a.1))
