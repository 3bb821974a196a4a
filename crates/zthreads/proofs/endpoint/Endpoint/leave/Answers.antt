use Rattle.std.proofs.Common.{◌||◌, refl, sym, ◌∙◌, subst}
use Rattle.zthreads.specs.Endpoints.{Accounts, Self, books_of, self_of, pending}
use Rattle.zthreads.specs.declared.endpoint.Ending.{Ending}
use Rattle.zthreads.proofs.Endings.{ended, if_none, kept_at_end, neither, same_self_of}
use Rattle.zthreads.proofs.endpoint.Endpoint.leave.Goals as goal

pub invariant_of-result : goal.invariant_of-result
invariant_of-result c = record { kept = kept_at_end c.next_post-post.new.self c.is_some-waits.result }

pub returns-clause-ended : goal.returns-clause-ended
returns-clause-ended c s t deeds lost a =
    let old = c.args.self in
    let d = c.next_post-post.new.self in
    let post = c.next_post-post.ensures in
    let unlost = neither d.is_lost c.is_some-waits.result lost in
    let waits = c.is_some-waits.result in
    let e : Ending = record {
      ins = d.ins;
      outs = d.outs;
      trace = record { events = d.trace; is_cut = d.is_cut || waits };
      seen = d.seen;
      is_lost = d.is_lost || waits;
      kept = c.result-1.given.0;
    } in
    let none = if_none c.next_post-post.result post.none (sym c.is_some-waits.ensures ∙ unlost.1) in
    let who = same_self_of old d post.same in
    ended (self_of old) d e s t (pending old) deeds (refl, refl, refl, refl) (λ whole. (neither d.is_cut waits whole).0)
    none.0 (subst (λ (w : Self). Accounts w (books_of d) s t (pending old) deeds) who (post.steps (pending old) s t deeds a))
