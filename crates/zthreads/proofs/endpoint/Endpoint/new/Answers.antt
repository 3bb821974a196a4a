use Rattle.std.proofs.Common.{◌≡◌, ◌++◌, [], List, refl, sym, subst, ◌∙◌, append-nil}
use Rattle.zprotocol.specs.world.Links.{messages_to}
use Rattle.zprotocol.specs.traces.Deeds.{stamped}
use Rattle.zchannels.specs.Rings.{put_of}
use Rattle.zprotocol.specs.Places.{process_at}
use Rattle.zthreads.specs.Endpoints.{TreePost, Each}
use Rattle.zthreads.proofs.Waiting.{fresh_is_empty}
use Rattle.zthreads.proofs.endpoint.Endpoint.new.Goals as goal

pub invariant_of-result-clause-noticed : goal.invariant_of-result-clause-noticed
invariant_of-result-clause-noticed c none i t at = fresh_is_empty t (c.requires.outs i t at)

pub returns-clause-at : goal.returns-clause-at
returns-clause-at c cut =
    ∣ (
      [],
      record {
        goes = tt;
        left = refl;
        last = sym c.zero.ensures;
        traced = λ whole. sym c.new-2.ensures.items;
        reported = λ whole. sym c.new-3.ensures.items;
        taken = λ i r at. c.requires.ins i r at;
        others = λ p out. (refl, refl);
        put = subst (λ (w : List TreePost). Each (λ i t. put_of t ++ stamped c.zero.result (messages_to (process_at i) w) ≡ [])
            c.args.outs.items) (sym c.new.ensures)
            (λ i t at. append-nil (put_of t) ∙ c.requires.outs i t at);
      },
    ) ∣₁
