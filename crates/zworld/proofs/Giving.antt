-- An input that was given to a process, by what the process did.
use Rattle.std.proofs.Common.{◌≡◌, ℕ, ◌<◌, true, false, List, [], ◌++◌, length, get_or, set, refl, sym, ap, subst, ◌∙◌, eq-eqb}
use mathlib.Core.Bool.{true≢false}
use Rattle.std.proofs.lemmas.List.{get_or_default}
use Rattle.ztree.specs.Tree.{Tree}
use Rattle.zcalls.specs.Cached.{CachedState}
use Rattle.zprotocol.specs.declared.limits.TheConstants.{PROCESSES}
use Rattle.zprotocol.specs.declared.process.Process.{Process}
use Rattle.zprotocol.specs.declared.process.Process.TheVariants.{Master, Server, Client}
use Rattle.zprotocol.specs.Places.{place_of}
use Rattle.zprotocol.specs.client.View.{ClientView}
use Rattle.zprotocol.specs.master.View.{MasterView}
use Rattle.zserver.specs.Server.{TreeOut, TreeView}
use Rattle.zactor.specs.Acting.{Acts, TreeStanding, TreeInput, TreeEffect, TreePost, HasActed, can_come}
use Rattle.zactor.specs.Acting.{can_stand, effect_of, has_stopped, is_end, put_by, read, reported_by}
use Rattle.zactor.specs.declared.done.Done.{Done}
use Rattle.zactor.specs.declared.done.Done.TheVariants as done
use Rattle.zactor.specs.declared.input.Input.{Input}
use Rattle.zactor.specs.declared.input.Input.TheVariants as input
use Rattle.zprotocol.specs.world.Does as given
use Rattle.zprotocol.specs.world.Does.{AtMaster, AtServer, AtClient, Out, accepts, last_post}
use Rattle.zprotocol.specs.world.Events.{did_in, standing_of}
use Rattle.zprotocol.specs.world.History.{History}
use Rattle.zprotocol.specs.world.Links.{put}
use Rattle.zprotocol.specs.world.support.Alike.{IsAlike}
use Rattle.zworld.specs.links.Places.{links_of}
use Rattle.zworld.specs.Held.{Held, HeldChannels, bystander, standing_at, kept_world}
use Rattle.zworld.specs.support.Posting.{is_lost, HasEnded, IsPosted}
use Rattle.zworld.specs.support.Giving.{IsGiven}
use Rattle.zworld.proofs.Standing.{Stands, IsMaster, IsServer, HasLeft, IsClient, stands, standing_set, standing_is, did_alike, ended_sent}

-- a server that has stopped accepts nothing
out_refuses : (s : ℕ) (input : TreeInput) → accepts {M = CachedState Tree} (Server s) input Out ≡ false
out_refuses s (given.Hear from message) = refl
out_refuses s (given.Begin call) = refl
out_refuses s given.Retry = refl
out_refuses s (given.Obey order) = refl
out_refuses s given.Stop = refl

pub lives_by : (p : Process) (standing : TreeStanding) (input : TreeInput) → Stands p standing → accepts p input standing ≡ true
    → has_stopped standing ≡ false
lives_by p standing input (IsMaster v) accepted = refl
lives_by p standing input (IsServer s v) accepted = refl
lives_by p standing input (HasLeft s) accepted = absurd (true≢false (sym accepted ∙ out_refuses s input))
lives_by p standing input (IsClient c v) accepted = refl

-- the master and clients don't end
master_stays : (v : MasterView) (input : Input) (end : Done) → can_come (AtMaster v) input end ≡ true → is_end end ≡ false
master_stays v (input.Hear from message) done.Stopped comes = absurd (true≢false (sym comes))
master_stays v (input.Begin call) done.Stopped comes = absurd (true≢false (sym comes))
master_stays v input.Retry done.Stopped comes = absurd (true≢false (sym comes))
master_stays v (input.Obey order) done.Stopped comes = absurd (true≢false (sym comes))
master_stays v input.Stop done.Stopped comes = absurd (true≢false (sym comes))
master_stays v (input.Hear from message) done.Left comes = absurd (true≢false (sym comes))
master_stays v (input.Begin call) done.Left comes = absurd (true≢false (sym comes))
master_stays v input.Retry done.Left comes = absurd (true≢false (sym comes))
master_stays v (input.Obey order) done.Left comes = absurd (true≢false (sym comes))
master_stays v input.Stop done.Left comes = absurd (true≢false (sym comes))
master_stays v input done.Acted comes = refl
master_stays v input done.Unheard comes = refl
master_stays v input (done.Began number) comes = refl
master_stays v input (done.Answered number) comes = refl

client_stays : (v : ClientView) (input : Input) (end : Done) → can_come (AtClient v) input end ≡ true → is_end end ≡ false
client_stays v (input.Hear from message) done.Stopped comes = absurd (true≢false (sym comes))
client_stays v (input.Begin call) done.Stopped comes = absurd (true≢false (sym comes))
client_stays v input.Retry done.Stopped comes = absurd (true≢false (sym comes))
client_stays v (input.Obey order) done.Stopped comes = absurd (true≢false (sym comes))
client_stays v input.Stop done.Stopped comes = absurd (true≢false (sym comes))
client_stays v (input.Hear from message) done.Left comes = absurd (true≢false (sym comes))
client_stays v (input.Begin call) done.Left comes = absurd (true≢false (sym comes))
client_stays v input.Retry done.Left comes = absurd (true≢false (sym comes))
client_stays v (input.Obey order) done.Left comes = absurd (true≢false (sym comes))
client_stays v input.Stop done.Left comes = absurd (true≢false (sym comes))
client_stays v input done.Acted comes = refl
client_stays v input done.Unheard comes = refl
client_stays v input (done.Began number) comes = refl
client_stays v input (done.Answered number) comes = refl

-- who ends is a server
pub server_ends : (p : Process) (standing : TreeStanding) (input : Input) (end : Done) → Stands p standing → has_stopped standing ≡ false
    → can_come standing input end ≡ true → is_end end ≡ true → (s : ℕ) × (p ≡ Server s)
server_ends p standing input end (IsMaster v) lives comes ends = absurd (true≢false (sym ends ∙ master_stays v input end comes))
server_ends p standing input end (IsServer s v) lives comes ends = (s, refl)
server_ends p standing input end (HasLeft s) lives comes ends = (s, refl)
server_ends p standing input end (IsClient c v) lives comes ends = absurd (true≢false (sym ends ∙ client_stays v input end comes))

-- and then it has stopped
ends_out : (s : ℕ) (v : TreeView) (input : Input) (end : Done) → can_come (AtServer v) input end ≡ true → is_end end ≡ true
    → has_stopped (effect_of (Server s) (AtServer v) input end).left ≡ true
ends_out s v input done.Stopped comes ends = refl
ends_out s v (input.Hear from message) done.Left comes ends = rw comes refl
ends_out s v (input.Begin call) done.Left comes ends = absurd (true≢false (sym comes))
ends_out s v input.Retry done.Left comes ends = absurd (true≢false (sym comes))
ends_out s v (input.Obey order) done.Left comes ends = absurd (true≢false (sym comes))
ends_out s v input.Stop done.Left comes ends = absurd (true≢false (sym comes))
ends_out s v input done.Acted comes ends = absurd (true≢false (sym ends))
ends_out s v input done.Unheard comes ends = absurd (true≢false (sym ends))
ends_out s v input (done.Began number) comes ends = absurd (true≢false (sym ends))
ends_out s v input (done.Answered number) comes ends = absurd (true≢false (sym ends))

pub stops_then : (p : Process) (standing : TreeStanding) (input : Input) (end : Done) → Stands p standing → has_stopped standing ≡ false
    → can_come standing input end ≡ true → is_end end ≡ true → has_stopped (effect_of p standing input end).left ≡ true
stops_then p standing input end (IsMaster v) lives comes ends = absurd (true≢false (sym ends ∙ master_stays v input end comes))
stops_then p standing input end (IsServer s v) lives comes ends = ends_out s v input end comes ends
stops_then p standing input end (HasLeft s) lives comes ends = absurd (true≢false lives)
stops_then p standing input end (IsClient c v) lives comes ends = absurd (true≢false (sym ends ∙ client_stays v input end comes))

-- who ends puts nothing
pub puts_none : (end : Done) (posts : List TreePost) → is_end end ≡ true → put_by end posts ≡ []
puts_none done.Stopped posts ends = refl
puts_none done.Left posts ends = refl
puts_none done.Acted posts ends = absurd (true≢false (sym ends))
puts_none done.Unheard posts ends = absurd (true≢false (sym ends))
puts_none (done.Began number) posts ends = absurd (true≢false (sym ends))
puts_none (done.Answered number) posts ends = absurd (true≢false (sym ends))

-- what doesn't end puts all that it sends
pub puts_all : (end : Done) (posts : List TreePost) → is_end end ≡ false → put_by end posts ≡ posts
puts_all done.Acted posts goes = refl
puts_all done.Unheard posts goes = refl
puts_all (done.Began number) posts goes = refl
puts_all (done.Answered number) posts goes = refl
puts_all done.Stopped posts goes = absurd (true≢false goes)
puts_all done.Left posts goes = absurd (true≢false goes)

-- a process did something
module _ (held : Held) (process : Process) (input : Input) (end : Done) (new : TreeStanding) (before after : TreeOut) (channels : HeldChannels)
    (all : length held.actors ≡ PROCESSES) (inside : place_of process < length held.actors)
    (can : can_stand process (standing_at held.actors process) ≡ true)
    (acted : HasActed process (standing_at held.actors process) new input before after end) where
  abbrev was : TreeStanding
  was = standing_at held.actors process

  abbrev effect : TreeEffect
  effect = effect_of process was input end

  abbrev now : Held
  now = record { actors = set held.actors (place_of process) new; links = channels }

  pub lived : has_stopped was ≡ false
  lived = lives_by process was (read input end) (stands process was can) acted.accepted

  stood : (history : History) → standing_of (kept_world held history) process ≡ was
  stood history = standing_is held history process (stands process was can) lived

  -- what it sent is on these channels
  abbrev pub IsSent : Type 0
  IsSent = (from to : Process) → is_lost now.actors to ≡ false → put (links_of held.links) process effect.posts from to ≡ links_of channels from to

  -- so it was given its input
  pub given_by : IsSent → IsGiven held now process input end
  given_by sent = record {
    comes = ap (λ standing. can_come standing input end) (stood []) ∙ acted.comes;
    accepted = ap (λ standing. accepts process (read input end) standing) (stood []) ∙ acted.accepted;
    inside = subst (λ n. place_of process < n) all inside;
    lives = lived;
    leads = λ history.
        subst (λ standing. IsAlike (did_in (kept_world held history) process (effect_of process standing input end))
        (kept_world now (history ++ reported_by process input end))) (sym (stood []))
        (subst (λ (reported : History). IsAlike (did_in (kept_world held history) process effect) (kept_world now (history ++ reported))) acted.reported
        (subst (λ (standing : TreeStanding). IsAlike (did_in (kept_world held history) process effect)
        (kept_world (record { actors = set held.actors (place_of process) standing; links = channels }) (history ++ effect.reported))) (sym acted.left)
        (did_alike held channels effect.posts effect.reported history all process effect.left
        (stands process effect.left (ap (can_stand process) (sym acted.left) ∙ acted.stands)) inside lived
        (λ from to alive. sent from to (ap (λ (standing : TreeStanding). is_lost (set held.actors (place_of process) standing) to) acted.left
        ∙ alive)))));
  }

  -- where it continues, what it put is on its channels
  pub posted_by : before.posts ≡ [] → is_end end ≡ false → IsPosted now.actors held.links process after.posts channels → IsSent
  posted_by silent goes posted from to alive =
      let puts : after.posts ≡ effect.posts = acted.puts ∙ ap (λ posts. posts ++ put_by end effect.posts) silent ∙ puts_all end effect.posts goes in
      ap (λ posts. put (links_of held.links) process posts from to) (sym puts) ∙ sym (posted from to alive)

-- where a server ends, its failure notice is
pub ended_by : (held : Held) (s : ℕ) (input : Input) (end : Done) (new : TreeStanding) (before after : TreeOut) (channels : HeldChannels)
    → length held.actors ≡ PROCESSES → place_of (Server s) < length held.actors → can_stand (Server s) (standing_at held.actors (Server s)) ≡ true
    → HasActed (Server s) (standing_at held.actors (Server s)) new input before after end → is_end end ≡ true
    → HasEnded held.links channels (Server s)
    → (from to : Process) → is_lost (set held.actors (place_of (Server s)) new) to ≡ false
    → put (links_of held.links) (Server s) (effect_of (Server s) (standing_at held.actors (Server s)) input end).posts from to ≡ links_of channels
    from to
ended_by held s input end new before after channels all inside can acted ends ended from to alive =
    let was = standing_at held.actors (Server s) in
    let is = stands (Server s) was can in
    let lived = lives_by (Server s) was (read input end) is acted.accepted in
    let out : has_stopped new ≡ true = ap has_stopped acted.left ∙ stops_then (Server s) was input end is lived acted.comes ends in
    let lost : is_lost (set held.actors (place_of (Server s)) new) (Server s) ≡ true =
    ap has_stopped (standing_set held.actors (Server s) (Server s) new inside all ∙ rw (eq-eqb s s refl) refl) ∙ out in
    ap (λ posts. put (links_of held.links) (Server s) posts from to) (acted.owed ends)
    ∙ ended_sent (set held.actors (place_of (Server s)) new) held.links channels s ended lost from to alive

-- the standing of a process is read at its position
pub standing_read : (actors : List TreeStanding) (process : Process) (place : ℕ) (was : TreeStanding) → place ≡ place_of process
    → place < length actors
    → was ≡ get_or actors place was → standing_at actors process ≡ was
standing_read actors process place was at inside read =
    ap (λ n. get_or actors n (bystander process)) (sym at) ∙ get_or_default actors place (bystander process) was inside ∙ sym read

-- an input was given to the process at a position
module _ (old held : Held) (process : Process) (place : ℕ) (was new : TreeStanding) (input : Input) (end : Done) (before after : TreeOut)
    (channels : HeldChannels)
    (same : held ≡ old) (at : place ≡ place_of process) (inside : place < length held.actors) (all : length held.actors ≡ PROCESSES)
    (read_there : was ≡ get_or held.actors place was) (stand : (p : Process) → can_stand p (standing_at held.actors p) ≡ true)
    (acts : Acts was new input before after end) where
  abbrev then_held : Held
  then_held = record { actors = set held.actors place new; links = channels }

  reads : standing_at held.actors process ≡ was
  reads = standing_read held.actors process place was at inside read_there

  within : place_of process < length held.actors
  within = subst (λ n. n < length held.actors) at inside

  acted_here : HasActed process (standing_at held.actors process) new input before after end
  acted_here =
      subst (λ standing. HasActed process standing new input before after end) (sym reads)
      (acts process (ap (can_stand process) (sym reads) ∙ stand process))

  to_place : (n : ℕ) → n ≡ place → IsGiven held (record { actors = set held.actors n new; links = channels }) process input end
      → IsGiven old then_held process input end
  to_place n is given =
      subst (λ (o : Held). IsGiven o then_held process input end) same
      (subst (λ m. IsGiven held (record { actors = set held.actors m new; links = channels }) process input end) is given)

  -- and it continues
  pub given_posted : before.posts ≡ [] → is_end end ≡ false → IsPosted (set held.actors place new) held.links process after.posts channels
      → IsGiven old then_held process input end
  given_posted silent goes posted =
      let now_posted = subst (λ n. IsPosted (set held.actors n new) held.links process after.posts channels) at posted in
      to_place (place_of process) (sym at)
      (given_by held process input end new before after channels all within (stand process) acted_here
      (posted_by held process input end new before after channels all within (stand process) acted_here silent goes now_posted))

  had_lived : has_stopped (standing_at held.actors process) ≡ false
  had_lived = lived held process input end new before after channels all within (stand process) acted_here

  -- who ends is a server
  server_ended : is_end end ≡ true → (s : ℕ) × (process ≡ Server s)
  server_ended ends =
      server_ends process (standing_at held.actors process) input end
      (stands process (standing_at held.actors process) (stand process)) had_lived acted_here.comes ends

  pub given_ended : is_end end ≡ true → HasEnded held.links channels process → IsGiven old then_held process input end
  given_ended ends ended =
      let server = server_ended ends in
      to_place (place_of process) (sym at)
      (given_by held process input end new before after channels all within (stand process) acted_here
      (sent_by server.0 process server.1 within acted_here ended))
    where
      sent_by : (s : ℕ) (p : Process) → p ≡ Server s → place_of p < length held.actors
          → HasActed p (standing_at held.actors p) new input before after end
          → HasEnded held.links channels p
          → (from to : Process) → is_lost (set held.actors (place_of p) new) to ≡ false
          → put (links_of held.links) p (effect_of p (standing_at held.actors p) input end).posts from to ≡ links_of channels from to
      sent_by s (Server t) is few did so =
          ended_by held t input end new before after channels all few (stand (Server t)) did ends so
      sent_by s Master is few did so = cc
      sent_by s (Client c) is few did so = cc
