-- What a process does with an input, in the world: one lemma for all processes and all inputs.
use Rattle.std.proofs.Common.{◌≡◌, ◌⊎◌, Bool, true, false, List, [], ◌∷◌, ◌++◌, Option, Some, refl, sym, ap, ◌∙◌, subst}
use Rattle.std.proofs.Common.{inl, inr, ℕ, cond, not, ◌==◌, nat_lt, None, eqb-true}
use Rattle.std.specs.Prelude.{◌&&◌, if◌then◌else◌}
use Rattle.std.proofs.lemmas.List.{append-nil}
use Rattle.zcalls.proofs.Among.{test}
use Rattle.zprotocol.specs.declared.process.Process.{Process}
use Rattle.zprotocol.specs.declared.process.Process.TheVariants.{Master, Server, Client}
use Rattle.zprotocol.specs.server.Machine.{Does}
use Rattle.zprotocol.specs.server.View.{MessageOf, Post, Transfer, spare}
use Rattle.zprotocol.specs.declared.world.event.Event.{Event}
use Rattle.zprotocol.specs.declared.world.event.Event.TheVariants as event
use Rattle.zprotocol.specs.world.History.{History}
use Rattle.zprotocol.specs.world.Links.{Links, is_same, messages_to, put, without_front}
use Rattle.zprotocol.specs.world.World.{World}
use Rattle.zprotocol.specs.world.Does.{Standing, Out, Hear, Effect, AtMaster, AtServer, AtClient, Input, Obey, Stop}
use Rattle.zprotocol.specs.world.Does.{accepts, does, server_effect, stop_effect}
use Rattle.zprotocol.specs.world.Events.{has_failed, is_enabled, let_go, happens, does_in, acts, standing_of, with_standing, goes_on, did_in}
use Rattle.zprotocol.specs.declared.traces.trace.Act.{Act}
use Rattle.zprotocol.specs.declared.traces.trace.Act.TheVariants.{Took, Left}
use Rattle.zprotocol.specs.traces.Deeds.{Stamped, standing_in, takes_part, done}
use Rattle.zprotocol.specs.traces.Traces.{event_of, at_process, is_in_place, is_step_in_place, step_happens}
use Rattle.zprotocol.proofs.world_lemmas.Processes.{same_process}
use mathlib.Core.Bool.{true≢false}
use Rattle.zprotocol.specs.Places.{is_server}
use Rattle.zprotocol.specs.server.Table as server
use Rattle.zprotocol.specs.master.View.{MasterView}
use Rattle.zprotocol.specs.master.Table as master
use Rattle.zprotocol.specs.master.support.Cases.{IsMasterRow, Ignores, Reports, Joins, LeavesOutside, Leaves}
use Rattle.zprotocol.proofs.master_lemmas.Cases.{master_case}
use Rattle.zprotocol.proofs.master_lemmas.Orders.{order_counts}
use Rattle.zprotocol.specs.world.Does as given
use Rattle.zprotocol.proofs.traces_lemmas.Deeds.{out_accepts}
use Rattle.zprotocol.proofs.world_lemmas.Effects.{goes_on_is}

-- the links after an act took its message, if it took one
abbrev pub fronts : {M : Type 0} → Links M → Act → Process → Links M
fronts links (Took from outcome) p = without_front links from p
fronts links Left p = without_front links Master p
fronts links act p = links

-- the message that an act takes is the front of its link
abbrev pub Arrives : {M : Type 0} → World M → Process → Act → Option (Stamped M) → Type 0
Arrives {M} w p (Took from outcome) (Some m) = (more : List (MessageOf M)) × (w.links from p ≡ m.1 ∷ more)
Arrives {M} w p Left (Some m) = (more : List (MessageOf M)) × (w.links Master p ≡ m.1 ∷ more)
Arrives w p act took = Unit {0}

-- the links into a process, unless it takes no part any more
abbrev pub AreInto : {M : Type 0} → World M → Process → Act → Standing M → List (Post M) → World M → Type 0
AreInto {M} w p act left posts after =
    (left ≡ Out) ⊎ ((from : Process) → after.links from p ≡ put (fronts w.links act p) p posts from p)

-- what a row does in the world; what is on links into others that have failed doesn't matter
pub record HappensIn {M : Type 0} (w : World M) (p : Process) (act : Act) (left : Standing M) (posts : List (Post M))
    (reported : History) (after : World M) : Type 0 where
  pub stands : (q : Process) → standing_in after q ≡ at_process p left (standing_in w) q
  pub others : (from to : Process) → is_same to p ≡ false → has_failed w to ≡ false → after.links from to ≡ put w.links p posts from to
  pub failed : (q : Process) → is_same q p ≡ false → has_failed after q ≡ has_failed w q
  pub incarnations : (left ≡ Out) ⊎ (has_failed after p ≡ false)
  pub own : AreInto w p act left posts after
  pub history : after.history ≡ w.history ++ reported

-- and it is at its position
pub record IsRowOf {M : Type 0} (machine : Does M) (w : World M) (p : Process) (act : Act) (left : Standing M)
    (posts : List (Post M)) (reported : History) : Type 0 where
  pub in_place : is_step_in_place w (event_of p act) ≡ true
  pub happens : HappensIn w p act left posts reported (step_happens machine w (event_of p act))

pub and_false : (b : Bool) → (b && false) ≡ false
and_false true = refl
and_false false = refl

-- who has failed takes no part
pub out_of : {M : Type 0} (w : World M) (q : Process) → has_failed w q ≡ true → standing_in w q ≡ Out
out_of w Master gone = absurd (true≢false (sym gone))
out_of w (Client c) gone = absurd (true≢false (sym gone))
out_of w (Server s) gone =
    ap (λ b. if is_server s && not b then AtServer (w.servers s) else Out) gone
    ∙ ap (λ b. if b then AtServer (w.servers s) else Out) (and_false (is_server s))

module _ {M : Type 0} (w : World M) where
  -- the fronts of links into others aren't taken
  elsewhere : (from p x y : Process) → is_same y p ≡ false → without_front w.links from p x y ≡ w.links x y
  elsewhere from p x y other = elim (test (is_same x from)) [ inl t ↦ rw t (rw other refl) | inr f ↦ rw f refl ]

  fronts_elsewhere : (act : Act) (p x y : Process) → is_same y p ≡ false → fronts w.links act p x y ≡ w.links x y
  fronts_elsewhere (Took from outcome) p x y other = elsewhere from p x y other
  fronts_elsewhere Left p x y other = elsewhere Master p x y other
  fronts_elsewhere act p x y other = refl

  pub put_elsewhere : (act : Act) (p : Process) (posts : List (Post M)) (x y : Process) → is_same y p ≡ false
      → put (fronts w.links act p) p posts x y ≡ put w.links p posts x y
  put_elsewhere act p posts x y other = ap (λ link. if is_same x p then link ++ messages_to y posts else link) (fronts_elsewhere act p x y other)

  -- nothing is put
  put_nothing : (links : Links M) (p x y : Process) → links x y ≡ put links p [] x y
  put_nothing links p x y = elim (test (is_same x p)) [ inl t ↦ rw t (sym (append-nil (links x y))) | inr f ↦ rw f refl ]

  -- a process has its standing unchanged, and its message, if any, is gone
  pub idles : (act : Act) (p : Process) → HappensIn w p act (standing_in w p) [] [] (record w { links = fronts w.links act p })
  idles act p = record {
    stands = stays;
    others = λ x y other alive. fronts_elsewhere act p x y other ∙ put_nothing w.links p x y;
    failed = λ q other. refl;
    incarnations = stands_or_out p;
    own = inr (λ x. put_nothing (fronts w.links act p) p x p);
    history = sym (append-nil w.history);
  }
    where
      stands_or_out : (q : Process) → (standing_in w q ≡ Out) ⊎ (has_failed w q ≡ false)
      stands_or_out Master = inr refl
      stands_or_out (Client c) = inr refl
      stands_or_out (Server s) = elim (test (w.failed s)) [
        | inl gone ↦ inl (out_of w (Server s) gone)
        | inr alive ↦ inr alive
      ]

      stays : (q : Process) → standing_in w q ≡ at_process p (standing_in w p) (standing_in w) q
      stays q = elim (test (is_same q p)) [ inl y ↦ rw y (ap (standing_in w) (same_process q p y)) | inr f ↦ rw f refl ]

module _ {M : Type 0} (machine : Does M) (w : World M) where
  -- an act whose event is at its position, and does this
  pub row_by : (p : Process) (act : Act) (e : Event) (did : Effect M) (after : World M) → event_of p act ≡ Some e → is_in_place w e ≡ true
      → after ≡ happens machine w e → HappensIn w p act did.left did.posts did.reported after → IsRowOf machine w p act did.left did.posts did.reported
  row_by p act e did after is place same does = record {
    in_place = subst (λ o. is_step_in_place w o ≡ true) (sym is) place;
    happens = subst (λ o. HappensIn w p act did.left did.posts did.reported (step_happens machine w o)) (sym is)
        (subst (HappensIn w p act did.left did.posts did.reported) same does);
  }

  -- what failed servers held is let go of
  goes : (p : Process) (act : Act) (did : Effect M) (after : World M) → HappensIn w p act did.left did.posts did.reported after
      → HappensIn w p act did.left did.posts did.reported (let_go after)
  goes p act did after does = record {
    stands = λ q. still q ∙ does.stands q;
    others = λ x y other alive. ap (λ b. if b then [] else after.links x y) (does.failed y other ∙ alive) ∙ does.others x y other alive;
    failed = does.failed;
    incarnations = does.incarnations;
    own = into does.incarnations does.own;
    history = does.history;
  }
    where
      still : (q : Process) → standing_in (let_go after) q ≡ standing_in after q
      still Master = refl
      still (Client c) = refl
      still (Server s) = by (after.failed s)
        where
          by : (b : Bool) → (if is_server s && not b then AtServer (if b then spare else after.servers s) else Out)
              ≡ (if is_server s && not b then AtServer (after.servers s) else Out)
          by true =
              ap (λ c. if c then AtServer spare else Out) (and_false (is_server s))
              ∙ sym (ap (λ c. if c then AtServer (after.servers s) else Out) (and_false (is_server s)))
          by false = refl

      into : (did.left ≡ Out) ⊎ (has_failed after p ≡ false) → AreInto w p act did.left did.posts after
          → AreInto w p act did.left did.posts (let_go after)
      into (inl out) own = inl out
      into (inr alive) (inl out) = inl out
      into (inr alive) (inr is) = inr (λ x. ap (λ b. if b then [] else after.links x p) alive ∙ is x)

  -- one that is enabled
  pub enabled_row : (p : Process) (act : Act) (e : Event) (did : Effect M) → event_of p act ≡ Some e → is_in_place w e ≡ true → is_enabled w e ≡ true
      → HappensIn w p act did.left did.posts did.reported (acts machine w e) → IsRowOf machine w p act did.left did.posts did.reported
  enabled_row p act e did is place enabled does =
      row_by p act e did (let_go (acts machine w e)) is place (sym (ap (λ b. if b then let_go (acts machine w e) else w) enabled))
      (goes p act did (acts machine w e) does)

  -- a delivery
  pub delivered : (p : Process) (act : Act) (from : Process) (m : MessageOf M) (more : List (MessageOf M)) (did : Effect M)
      → event_of p act ≡ Some (event.Take from p) → w.links from p ≡ m ∷ more → has_failed w p ≡ false
      → HappensIn w p act did.left did.posts did.reported (does_in machine (record w { links = without_front w.links from p }) p (Hear from m))
      → IsRowOf machine w p act did.left did.posts did.reported
  delivered p act from m more did is front alive does =
      row_by p act (event.Take from p) did _ is (rw (front, alive) refl) (sym takes) (goes p act did _ does)
    where
      takes : happens machine w (event.Take from p) ≡ let_go (does_in machine (record w { links = without_front w.links from p }) p (Hear from m))
      takes = rw (front, alive) refl

-- some value where a test holds
pub some_if : {A : Type 0} (b : Bool) (x y : A) → (if b then Some x else None) ≡ Some y → (b ≡ true) × (x ≡ y)
some_if true x y is = (refl, cc is)
some_if false x y is = absurd (cc is)

-- the master's view after a message has as many clients
master_counts : {M : Type 0} (v : MasterView) (from : Process) (m : MessageOf M) (r : master.MasterResult (Transfer M))
    → IsMasterRow v from m r → r.0.clients ≡ v.clients
master_counts v _ _ _ (Ignores from m) = refl
master_counts v _ _ _ (Reports s epoch last p is) = refl
master_counts v _ _ _ (Joins s epoch is) = refl
master_counts v _ _ _ (LeavesOutside s out) = refl
master_counts v _ _ _ (Leaves s chain among mended) = refl

module _ {M : Type 0} (w : World M) where
  -- a process may have such a standing, each of its own kind; and the master knows of as many
  -- clients
  abbrev Fits : Process → Standing M → Type 0
  Fits Master (AtMaster v) = v.clients ≡ w.master.clients
  Fits (Server s) (AtServer v) = Unit {0}
  Fits (Server s) Out = Unit {0}
  Fits (Client c) (AtClient v) = Unit {0}
  Fits p standing = ⊥

  fits_if : (s : ℕ) (b : Bool) (did : server.ServerResult M) → Fits (Server s) (if b then stop_effect else server_effect did).left
  fits_if s true did = tt
  fits_if s false did = tt

  -- so is its standing after an input
  does_fit : (machine : Does M) (p : Process) (input : Input M) → accepts p input (standing_of w p) ≡ true
      → Fits p (does machine p input (standing_of w p)).left
  does_fit machine Master (Hear from m) accepted = master_counts w.master from m (master.master_step w.master from m) (master_case w.master from m)
  does_fit machine Master (Obey order) accepted = order_counts (Transfer M) w.master order
  does_fit machine (Server s) (Hear from m) accepted = fits_if s (server.is_retirement from m) (server.server_step machine (w.servers s) from m)
  does_fit machine (Server s) Stop accepted = tt
  does_fit machine (Client c) (Hear from m) accepted = tt
  does_fit machine (Client c) (given.Begin call) accepted = tt
  does_fit machine (Client c) given.Retry accepted = tt
  does_fit machine p input accepted = absurd (true≢false (sym accepted))

  -- who takes part hasn't failed
  pub incarnations : (p : Process) → takes_part w p ≡ true → has_failed w p ≡ false
  incarnations Master part = refl
  incarnations (Client c) part = refl
  incarnations (Server s) part = by (is_server s) (w.failed s) part
    where
      by : (a b : Bool) → (a && not b) ≡ true → b ≡ false
      by true false h = refl
      by true true h = absurd (cc h)
      by false b h = absurd (cc h)

  -- the standing of each process, once one has another standing; links and history don't matter to
  -- that
  moved : (links after : Links M) (history : History) (p : Process) (left : Standing M) → takes_part w p ≡ true → Fits p left → (q : Process)
      → standing_in (record (with_standing (record w { links = links }) p left) { links = after; history = history }) q
      ≡ at_process p left (standing_in w) q
  moved links after history Master (AtMaster v) part fits Master = refl
  moved links after history Master (AtMaster v) part fits (Server t) = refl
  moved links after history Master (AtMaster v) part fits (Client c) = rw fits refl
  moved links after history (Server s) (AtServer v) part fits Master = refl
  moved links after history (Server s) (AtServer v) part fits (Client c) = refl
  moved links after history (Server s) (AtServer v) part fits (Server t) = elim (test (t == s)) [
    | inl y ↦ rw y (ap (λ b. cond b (AtServer v) Out) (ap (λ n. is_server n && not (w.failed n)) (eqb-true t s y) ∙ part))
    | inr f ↦ rw f refl
  ]
  moved links after history (Server s) Out part fits Master = refl
  moved links after history (Server s) Out part fits (Client c) = refl
  moved links after history (Server s) Out part fits (Server t) = elim (test (t == s)) [
    | inl y ↦ rw y (ap (λ b. cond b (AtServer (w.servers t)) Out) (and_false (is_server t)))
    | inr f ↦ rw f refl
  ]
  moved links after history (Client c) (AtClient v) part fits Master = refl
  moved links after history (Client c) (AtClient v) part fits (Server s) = refl
  moved links after history (Client c) (AtClient v) part fits (Client d) = elim (test (d == c)) [
    | inl y ↦ rw y (ap (λ b. cond b (AtClient v) Out) (ap (λ n. nat_lt n w.master.clients) (eqb-true d c y) ∙ part))
    | inr f ↦ rw f refl
  ]
  moved links after history p left part fits q = absurd fits

  -- no one else fails by that; the process itself does where it no longer takes part
  moved_failed : (links : Links M) (p : Process) (left : Standing M) → Fits p left → (q : Process) → is_same q p ≡ false
      → has_failed (with_standing (record w { links = links }) p left) q ≡ has_failed w q
  moved_failed links (Server s) Out fits (Server t) other = ap (λ b. if b then true else w.failed t) other
  moved_failed links (Server s) Out fits Master other = refl
  moved_failed links (Server s) Out fits (Client c) other = refl
  moved_failed links (Server s) (AtServer v) fits q other = refl
  moved_failed links Master (AtMaster v) fits q other = refl
  moved_failed links (Client c) (AtClient v) fits q other = refl
  moved_failed links p left fits q other = absurd fits

  moved_lives : (links : Links M) (p : Process) (left : Standing M) → takes_part w p ≡ true → Fits p left
      → (left ≡ Out) ⊎ (has_failed (with_standing (record w { links = links }) p left) p ≡ false)
  moved_lives links (Server s) Out part fits = inl refl
  moved_lives links (Server s) (AtServer v) part fits = inr (incarnations (Server s) part)
  moved_lives links Master (AtMaster v) part fits = inr refl
  moved_lives links (Client c) (AtClient v) part fits = inr refl
  moved_lives links p left part fits = absurd fits

  -- what a process did, once its message was taken
  did_happens : (p : Process) (act : Act) (did : Effect M) → takes_part w p ≡ true → Fits p did.left
      → HappensIn w p act did.left did.posts did.reported (did_in (record w { links = fronts w.links act p }) p did)
  did_happens p act did part fits = record {
    stands = λ q. moved (fronts w.links act p) (put (fronts w.links act p) p did.posts) (goes_on w.history did.reported) p did.left part fits q;
    others = λ x y other alive. put_elsewhere w act p did.posts x y other;
    failed = λ q other. moved_failed (fronts w.links act p) p did.left fits q other;
    incarnations = moved_lives (fronts w.links act p) p did.left part fits;
    own = inr (λ x. refl);
    history = goes_on_is w.history did.reported;
  }

module _ {M : Type 0} (machine : Does M) (w : World M) where
  -- a process of a world does something with an input
  pub record DoesSo (p : Process) (input : Input M) (did : Effect M) : Type 0 where
    pub part : takes_part w p ≡ true
    pub accepted : accepts p input (standing_of w p) ≡ true
    pub same : does machine p input (standing_of w p) ≡ did

  pub does_so : (p : Process) (input : Input M) (did : Effect M) → done machine p (standing_in w p) input ≡ Some did → DoesSo p input did
  does_so p input did is = by (takes_part w p) refl
    where
      by : (b : Bool) → takes_part w p ≡ b → DoesSo p input did
      by true part =
          let here = some_if (accepts p input (standing_of w p)) (does machine p input (standing_of w p)) did
          (subst (λ b. done machine p (if b then standing_of w p else Out) input ≡ Some did) part is) in
          record { part = part; accepted = here.0; same = here.1 }
      by false out =
          let here = some_if (accepts p input Out) (does machine p input Out) did
          (subst (λ b. done machine p (if b then standing_of w p else Out) input ≡ Some did) out is) in
          absurd (cc (here.0, out_accepts machine p input))

  -- then this happens in the world, once its message was taken
  pub does_happen : (p : Process) (act : Act) (input : Input M) (did : Effect M) → DoesSo p input did
      → HappensIn w p act did.left did.posts did.reported (does_in machine (record w { links = fronts w.links act p }) p input)
  does_happen p act input did so =
      let taken : World M = record w { links = fronts w.links act p } in
      let e : Effect M = does machine p input (standing_of w p) in
      subst (λ (e : Effect M). HappensIn w p act e.left e.posts e.reported (does_in machine taken p input)) so.same
      (did_happens w p act e so.part (does_fit w machine p input so.accepted))

  -- who ends needn't take its message
  pub ends : (p : Process) (act other : Act) (did : Effect M) (after : World M) → did.left ≡ Out → HappensIn w p act did.left did.posts did.reported after
      → HappensIn w p other did.left did.posts did.reported after
  ends p act other did after out happens =
      record {
        stands = happens.stands;
        others = happens.others;
        failed = happens.failed;
        incarnations = happens.incarnations;
        own =
            inl out;
        history = happens.history;
      }
