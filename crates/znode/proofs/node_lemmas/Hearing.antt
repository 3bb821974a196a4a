-- What a server has put once it has handled a message.
use Rattle.std.proofs.Common.{◌≡◌, ℕ, Bool, true, false, ◌||◌, List, [], ◌∷◌, ◌++◌, map, refl, sym, ap, subst, ◌∙◌}
use Rattle.std.proofs.lemmas.List.{append-nil}
use Rattle.zprotocol.specs.declared.message.Message.TheVariants as message
use Rattle.zprotocol.specs.declared.process.Process.{Process}
use Rattle.zprotocol.specs.declared.process.Process.TheVariants.{Master, Server}
use Rattle.zprotocol.specs.world.Does.{AtMaster, AtServer, AtClient, Out, idle_effect, last_post}
use Rattle.zserver.specs.Server.{TreeMessage, TreeOut}
use Rattle.zactor.specs.declared.act_fault.ActFault.{ActFault}
use Rattle.zactor.specs.declared.act_fault.ActFault.TheVariants.{Refused, Memory}
use Rattle.zactor.specs.declared.done.Done.{Done}
use Rattle.zactor.specs.declared.done.Done.TheVariants.{Acted, Unheard, Stopped, Left, Began, Answered}
use Rattle.zactor.specs.declared.input.Input.TheVariants.{Hear}
use Rattle.zactor.specs.Acting.{TreeStanding, TreeEffect, TreePost, Acts, IsActFault, effect_of, has_stopped, is_end, put_by}
use Rattle.zmaster_log.specs.declared.entry.News.{News}
use Rattle.zpeers.specs.Outgoing.{WaitingView, waiting_for}
use Rattle.znode.specs.Node.{SeatView}
use Rattle.znode.specs.Server.{ArePut, Hears, MayDo, fresh, has_joined, news_of, puts_to}
use Rattle.znode.specs.support.Standings.{IsServer}
use Rattle.znode.proofs.node_lemmas.Putting.{or-none}

-- a server has handled a message, and this is what its runner puts
pub record HasDone (own : ℕ) (from : Process) (m : TreeMessage) (old new : TreeStanding) (posts : List TreePost) (done : Done) : Type 0 where
  pub effect : TreeEffect
  pub may : MayDo own from m old effect
  pub left : new ≡ effect.left
  pub puts : posts ≡ put_by done effect.posts
  pub owed : is_end done ≡ true → effect.posts ≡ last_post

pub has_done : (own : ℕ) (from : Process) (m : TreeMessage) (old new : TreeStanding) (before after : TreeOut) (done : Done)
    → IsServer old → before.posts ≡ [] → Acts old new (Hear from m) before after done → HasDone own from m old new after.posts done
has_done own from m (AtMaster v) new before after done is none acts = absurd (let e : false ≡ true = is in cc)
has_done own from m (AtClient v) new before after done is none acts = absurd (let e : false ≡ true = is in cc)
has_done own from m Out new before after done is none acts =
    absurd (let e : false ≡ true = (acts (Server own) refl).comes in cc)
has_done own from m (AtServer v) new before after done is none acts =
    let acted = acts (Server own) refl in
    record {
      effect = effect_of (Server own) (AtServer v) (Hear from m) done;
      may = (done, acted.comes, refl);
      left = acted.left;
      puts = acted.puts ∙ ap (λ (l : List TreePost). l ++ put_by done (effect_of (Server own) (AtServer v) (Hear from m) done).posts) none;
      owed = acted.owed;
    }

-- a server that goes on has put all
put_on : (done : Done) (posts : List TreePost) → is_end done ≡ false → put_by done posts ≡ posts
put_on Acted posts on = refl
put_on Unheard posts on = refl
put_on Stopped posts on = absurd (let e : true ≡ false = on in cc)
put_on Left posts on = absurd (let e : true ≡ false = on in cc)
put_on (Began n) posts on = refl
put_on (Answered n) posts on = refl

-- one that ends puts only its failure notice
put_last : (done : Done) (posts : List TreePost) → is_end done ≡ true → put_by done posts ≡ []
put_last Acted posts ends = absurd (let e : false ≡ true = ends in cc)
put_last Unheard posts ends = absurd (let e : false ≡ true = ends in cc)
put_last Stopped posts ends = refl
put_last Left posts ends = refl
put_last (Began n) posts ends = absurd (let e : false ≡ true = ends in cc)
put_last (Answered n) posts ends = absurd (let e : false ≡ true = ends in cc)

-- nothing was put before
put_after : (own : ℕ) (posts : List TreePost) (old middle new : SeatView) → ArePut own [] old middle → ArePut own posts middle new → ArePut own posts old new
put_after own posts old middle new none put =
    let state : middle.has_state ≡ old.has_state = none.state ∙ or-none old.has_state in
    let reports : middle.reports ≡ old.reports = none.reports ∙ append-nil old.reports in
    record {
      standing = put.standing ∙ none.standing;
      state = put.state ∙ ap (λ (b : Bool). b || has_joined posts) state;
      reports = put.reports ∙ ap (λ (l : List News). l ++ news_of own posts) reports;
      queued = λ p. put.queued p
          ∙ ap (λ (l : List WaitingView). l ++ map fresh (puts_to p posts)) (none.queued p ∙ append-nil (waiting_for old.outgoing p));
    }

-- all of it is put
put_all_of : (own : ℕ) (from : Process) (m : TreeMessage) (old new : SeatView) (st : TreeStanding) (posts posts2 : List TreePost) (done : Done)
    (h : HasDone own from m old.standing st posts done) → posts2 ≡ h.effect.posts → ArePut own posts2 (record old { standing = st }) new
    → Hears own from m old new
put_all_of own from m old new st posts posts2 done h same put = record {
  effect = h.effect;
  done = h.may;
  put = subst (λ (s : TreeStanding). ArePut own h.effect.posts (record old { standing = s }) new) h.left
      (subst (λ (l : List TreePost). ArePut own l (record old { standing = st }) new) same put);
}

pub hears_on : (own : ℕ) (from : Process) (m : TreeMessage) (old new : SeatView) (st : TreeStanding) (posts : List TreePost) (done : Done)
    → HasDone own from m old.standing st posts done → is_end done ≡ false → ArePut own posts (record old { standing = st }) new
    → Hears own from m old new
hears_on own from m old new st posts done h on put =
    put_all_of own from m old new st posts posts done h (h.puts ∙ put_on done h.effect.posts on) put

pub hears_last : (own : ℕ) (from : Process) (m : TreeMessage) (old middle new : SeatView) (st : TreeStanding) (posts : List TreePost) (done : Done)
    → HasDone own from m old.standing st posts done → is_end done ≡ true → ArePut own posts (record old { standing = st }) middle
    → ArePut own ((Master, message.Gone) ∷ []) middle new → Hears own from m old new
hears_last own from m old middle new st posts done h ends put last =
    let none : ArePut own [] (record old { standing = st }) middle =
    subst (λ (l : List TreePost). ArePut own l (record old { standing = st }) middle) (h.puts ∙ put_last done h.effect.posts ends) put in
    put_all_of own from m old new st posts ((Master, message.Gone) ∷ []) done h (sym (h.owed ends))
    (put_after own ((Master, message.Gone) ∷ []) (record old { standing = st }) middle new none last)

-- a server that has stopped does nothing
pub hears_nothing : (own : ℕ) (from : Process) (m : TreeMessage) (seat : SeatView) → has_stopped seat.standing ≡ true → Hears own from m seat seat
hears_nothing own from m seat is = stopped seat.standing refl is
  where
    stopped : (st : TreeStanding) → st ≡ seat.standing → has_stopped st ≡ true → Hears own from m seat seat
    stopped (AtMaster v) same is = absurd (let e : false ≡ true = is in cc)
    stopped (AtClient v) same is = absurd (let e : false ≡ true = is in cc)
    stopped (AtServer v) same is = absurd (let e : false ≡ true = is in cc)
    stopped Out same is = record {
      effect = idle_effect Out;
      done = subst (λ (s : TreeStanding). MayDo own from m s (idle_effect Out)) same refl;
      put = subst (λ (s : TreeStanding). ArePut own [] (record seat { standing = s }) seat) (sym same) (record {
        standing = refl;
        state = sym (or-none seat.has_state);
        reports = sym (append-nil seat.reports);
        queued = λ p. sym (append-nil (waiting_for seat.outgoing p));
      });
    }

-- a server has stopped, if it takes no message
pub has_no_fault : (st : TreeStanding) (from : Process) (m : TreeMessage) (room : ℕ) (why : ActFault) → IsServer st
    → IsActFault st (Hear from m) room why → has_stopped st ≡ true
has_no_fault (AtMaster v) from m room why is failed = absurd (let e : false ≡ true = is in cc)
has_no_fault (AtClient v) from m room why is failed = absurd (let e : false ≡ true = is in cc)
has_no_fault (AtServer v) from m room (Refused why) is failed = absurd (let e = failed.0 in cc)
has_no_fault (AtServer v) from m room Memory is failed = absurd failed.2
has_no_fault Out from m room why is failed = refl

-- it stays a server
pub is_server_still : (old new : TreeStanding) (from : Process) (m : TreeMessage) (before after : TreeOut) (done : Done) → IsServer old
    → Acts old new (Hear from m) before after done → IsServer new
is_server_still old new from m before after done is acts = (acts (Server 1) is).stands
