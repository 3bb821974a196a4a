-- What holds of all processes holds once one was given an input.
use Rattle.std.proofs.Common.{◌≡◌, ℕ, ◌<◌, true, false, List, [], ◌++◌, length, get_or, set, sym, ap, subst, ◌∙◌, length-set}
use Rattle.zprotocol.specs.declared.process.Process.{Process}
use Rattle.zprotocol.specs.Places.{place_of}
use Rattle.zserver.specs.Server.{TreeOut}
use Rattle.zactor.specs.Acting.{Acts, HasActed, TreePost, TreeStanding, can_stand, effect_of, has_stopped, is_end, put_by, read}
use Rattle.zactor.specs.declared.done.Done.{Done}
use Rattle.zactor.specs.declared.input.Input.{Input}
use Rattle.zworld.specs.links.Places.{has_notice, Notes}
use Rattle.zworld.specs.Held.{HeldChannels, standing_at}
use Rattle.zworld.specs.support.Posting.{CanCount, HasEnded, waiting_after}
use Rattle.zworld.specs.support.Standing.{IsFull}
use Rattle.zworld.proofs.Counting.{HasShares, has_shares, counted_then, can_count}
use Rattle.zworld.proofs.Full.{stand_then, noted_then, noted_end}
use Rattle.zworld.proofs.Giving.{lives_by, puts_none, standing_read, stops_then}
use Rattle.zworld.proofs.Standing.{Stands, stands}

-- an input was given to the process at a position
module _ (actors : List TreeStanding) (links : HeldChannels) (waiting : ℕ) (process : Process) (place : ℕ) (was new : TreeStanding) (given : Input)
    (end : Done)
    (before after : TreeOut) (full : IsFull actors links before.posts waiting) (at : place ≡ place_of process) (inside : place < length actors)
    (read_there : was ≡ get_or actors place was) (acts : Acts was new given before after end) where
  reads : standing_at actors process ≡ was
  reads = standing_read actors process place was at inside read_there

  within : place_of process < length actors
  within = subst (λ n. n < length actors) at inside

  can : can_stand process was ≡ true
  can = ap (can_stand process) (sym reads) ∙ full.stand process

  acted : HasActed process was new given before after end
  acted = acts process can

  stood : Stands process was
  stood = stands process was can

  lived : has_stopped was ≡ false
  lived = lives_by process was (read given end) stood acted.accepted

  lived_there : has_stopped (standing_at actors process) ≡ false
  lived_there = ap has_stopped reads ∙ lived

  shares : HasShares (standing_at actors process) new end
  shares =
      subst (λ standing. HasShares standing new end) (sym reads)
      (has_shares process was new given end before after stood (stands process new acted.stands) acted)

  -- it is counted
  pub counts_on : CanCount waiting end
  counts_on = can_count actors process new waiting within full.counted end full.all shares

  then_full : (channels : HeldChannels) (posts : List TreePost)
      → ((q : Process) → has_notice channels q ≡ true → has_stopped (standing_at (set actors (place_of process) new) q) ≡ true) → posts ≡ []
      → IsFull (set actors place new) channels posts (waiting_after waiting end)
  then_full channels posts noted silent =
      subst (λ n. IsFull (set actors n new) channels posts (waiting_after waiting end)) (sym at)
      (record {
        all = length-set actors (place_of process) new ∙ full.all;
        stand = stand_then actors process new within full.all lived_there acted.stands full.stand;
        noted = noted;
        sent = silent;
        counted = counted_then actors process new waiting within full.counted end shares;
      })

  -- all are there: where it continues
  pub full_posted : (channels : HeldChannels) (posts : List TreePost) → Notes channels (has_notice links) → posts ≡ []
      → IsFull (set actors place new) channels posts (waiting_after waiting end)
  full_posted channels posts notes silent =
      then_full channels posts (noted_then actors process new within full.all lived_there links channels full.noted notes) silent

  -- and where it has stopped
  pub full_ended : (channels : HeldChannels) → is_end end ≡ true → HasEnded links channels process
      → IsFull (set actors place new) channels after.posts (waiting_after waiting end)
  full_ended channels ends ended =
      let out : has_stopped new ≡ true = ap has_stopped acted.left ∙ stops_then process was given end stood lived acted.comes ends in
      let silent : after.posts ≡ [] =
      acted.puts ∙ ap (λ (posts : List TreePost). posts ++ put_by end (effect_of process was given end).posts) full.sent
      ∙ puts_none end (effect_of process was given end).posts ends in
      then_full channels after.posts (noted_end actors process new within full.all lived_there links channels full.noted out ended) silent
