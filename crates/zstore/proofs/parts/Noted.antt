-- The invariant of a store after a change that is noted, and after a mark that is given up.
use Rattle.std.proofs.Common.{◌≡◌, ℕ, ◌+◌, ◌-◌, ◌≤◌, Bool, true, false, cond, List, [], ◌∷◌, ◌++◌, Option, Some, None, refl, sym, ap, subst, ◌∙◌, arith}
use Rattle.std.specs.Prelude.{nat_le}
use Rattle.std.specs.Vec.{vec_len, vec_capacity}
use Rattle.std.specs.Option.{option_map}
use Rattle.std.specs.FinMap as finite
use Rattle.std.specs.FinMap.{get-empty}
use Rattle.std.proofs.lemmas.Bool.Decides.{nat_tests}
use Rattle.zslots.specs.declared.id.Id.{Id}
use Rattle.zslots.specs.Ids.{id_cmp}
use Rattle.ztree.specs.declared.limits.TreeLimits.{TreeLimits}
use Rattle.ztree.specs.Tree.{Path, Sessions}
use Rattle.znodes.specs.NodesView.{NodesView, SameButRoom}
use Rattle.zstore.specs.declared.undo.Undo.{Undo}
use Rattle.zstore.specs.declared.undo.Undo.TheVariants as undo
use Rattle.zstore.specs.declared.log.Log.{Log}
use Rattle.zstore.specs.StoreView.{mark_left}
use Rattle.zstore.specs.support.Undoing.{Held, Owners, Parts, parts_of, undone, all_undone, Fits, FitAll, returning, release_all, release, AllHeld, Notes, notes_of, undos_of, add_note, held_after, GivesUp}
use Rattle.zstore.specs.support.Stored.{tree_of, mark_of, IsKept, AreOwners, IsStored}
use Rattle.zstore.proofs.parts.Undone.{all_undone-push, release_all-push, fit_all_push, all_returning-push, held-all_undone, all_held}

-- where no note more is taken, nothing needs to be undone
pub freed_full : (u : Undo) (l : Log) (held : Held) → l.is_on ≡ true →
    vec_capacity l.undos ≤ vec_len l.undos →
    held_after u (notes_of l) held ≡ release_all (undos_of (notes_of l)) (release u held)
freed_full u l held on full =
    let none : nat_le 1 (vec_capacity l.undos - vec_len l.undos) ≡ false =
    grind (arith, nat_tests, full) in
    rw (on, none) (release_all-push l.undos.items u held)

pub freed_off : (u : Undo) (l : Log) (held : Held) → l.is_on ≡ false →
    held_after u (notes_of l) held ≡ release_all (undos_of (notes_of l)) (release u held)
freed_off u l held off = rw off refl

-- what undoes all that a log has noted
pub undos_on : (l : Log) → l.is_on ≡ true → undos_of (notes_of l) ≡ l.undos.items
undos_on l on = rw on refl

pub undos_off : (l : Log) → l.is_on ≡ false → undos_of (notes_of l) ≡ []
undos_off l off = rw off refl

-- the same nodes where other nodes are held
abbrev pub with_held : NodesView → Held → NodesView
with_held v held = record v { held = held }

-- what one change took away given up
pub freed_one : (v w : NodesView) (u : Undo) (id above : Id) → u ≡ undo.Taken id above →
    w ≡ with_held v (finite.remove v.held id) → w ≡ with_held v (release u v.held)
freed_one v w u id above is freed = freed ∙ ap (λ x. with_held v (release x v.held)) (sym is)

-- and nothing, where it took nothing away
pub freed_none : (v : NodesView) (u : Undo) → ((id above : Id) → u ≡ undo.Taken id above → ⊥) →
    v ≡ with_held v (release u v.held)
freed_none v (undo.Added id) none = refl
freed_none v (undo.Taken id above) none = absurd (none id above refl)
freed_none v (undo.Marked id marks) none = refl
freed_none v (undo.Written id content) none = refl

-- with no mark and nothing held, all is stored
pub stored_plain : (v : NodesView) (sessions : Sessions) (time zxid : ℕ) (limits : TreeLimits) (held : Held) →
    held ≡ finite.empty → IsKept v.nodes v.places sessions time zxid limits → AreOwners v.owners sessions →
    IsStored None (with_held v held) sessions time zxid limits
stored_plain v sessions time zxid limits held none kept owners = record {
  kept = kept;
  owners = owners;
  apart = λ id path is. ap (λ (h : Held). finite.get h id) none ∙ get-empty id_cmp id;
  fit = tt;
  before = kept;
  held = none;
  room = omega arith;
}

module _ (v : NodesView) (sessions : Sessions) (time zxid : ℕ) (limits : TreeLimits) where
  module _ (notes : Option Notes) (stored : IsStored notes v sessions time zxid limits) where
    -- what was taken away since the mark is held
    pub notes_held : AllHeld (undos_of notes) v.held
    notes_held = all_held v.owners (undos_of notes) (parts_of v) stored.fit

    -- and nothing else
    pub none_held : release_all (undos_of notes) v.held ≡ finite.empty
    none_held = sym (held-all_undone v.owners (undos_of notes) (parts_of v) stored.fit)
        ∙ stored.held

    -- the mark given up
    pub stored_kept : IsStored None (with_held v (release_all (undos_of notes) v.held)) sessions time
        zxid limits
    stored_kept =
        stored_plain v sessions time zxid limits (release_all (undos_of notes) v.held) none_held stored.kept
        stored.owners

    -- and something else than the nodes changed
    pub stored_changed : (sessions' : Sessions) (time' zxid' : ℕ) (limits' : TreeLimits) →
        IsKept v.nodes v.places sessions' time' zxid' limits' → AreOwners v.owners sessions' →
        IsStored None (with_held v (release_all (undos_of notes) v.held)) sessions' time' zxid' limits'
    stored_changed sessions' time' zxid' limits' kept owners =
        stored_plain v sessions' time' zxid' limits' (release_all (undos_of notes) v.held) none_held kept
        owners

    -- and with other room
    pub stored_freed : (w : NodesView) → GivesUp (undos_of notes) v w →
        IsStored None w sessions time zxid limits
    stored_freed w gives =
        subst (λ (x : NodesView). IsStored None x sessions time zxid limits) (sym gives)
        (stored_plain (record v { room = w.room }) sessions time zxid limits
        (release_all (undos_of notes) v.held) none_held stored.kept stored.owners)

    -- and so in a copy of the nodes
    pub stored_copied : (w : NodesView) → SameButRoom v w →
        IsStored None (with_held w (release_all (undos_of notes) w.held)) sessions time zxid limits
    stored_copied w same =
        subst (λ (x : NodesView).
        IsStored None (with_held x (release_all (undos_of notes) x.held)) sessions time zxid limits)
        (sym same)
        (stored_plain (record v { room = w.room }) sessions time zxid limits
        (release_all (undos_of notes) v.held) none_held stored.kept stored.owners)

    pub copy_held : (w : NodesView) → SameButRoom v w → AllHeld (undos_of notes) w.held
    copy_held w same =
        subst (λ (x : NodesView). AllHeld (undos_of notes) x.held) (sym same) notes_held

    -- and a new mark set
    pub stored_started : (w : NodesView) → GivesUp (undos_of notes) v w → (room : ℕ) →
        room ≤ w.room → IsStored (Some (record { undos = []; room = room })) w sessions time zxid limits
    stored_started w gives room within =
        let plain = stored_freed w gives in
        record {
          kept = plain.kept;
          owners = plain.owners;
          apart = plain.apart;
          fit = tt;
          before = plain.before;
          held = plain.held;
          room = omega (arith, within);
        }

    -- what was done since the mark undone
    pub stored_back : (w : NodesView) → parts_of w ≡ all_undone (undos_of notes) (parts_of v) →
        w.owners ≡ v.owners → IsStored None w sessions time zxid limits
    stored_back w parts owners =
        let kept =
        subst (λ (p : Parts). IsKept p.nodes p.places sessions time zxid limits) (sym parts)
        stored.before in
        let held = ap (λ (p : Parts). p.held) parts ∙ stored.held in
        record {
          kept = kept;
          owners = subst (λ (o : Owners). AreOwners o sessions) (sym owners) stored.owners;
          apart = λ id path is. ap (λ (h : Held). finite.get h id) held ∙ get-empty id_cmp id;
          fit = tt;
          before = kept;
          held = held;
          room = omega arith;
        }

-- a change that is undone by a note
module _ (u : Undo) (old new : NodesView) (sessions : Sessions) (time zxid : ℕ) (limits : TreeLimits)
    (back : undone u (parts_of new) ≡ parts_of old) where
  all_back : (us : List Undo) →
      all_undone (us ++ u ∷ []) (parts_of new) ≡ all_undone us (parts_of old)
  all_back us = all_undone-push us u (parts_of new) ∙ ap (all_undone us) back

  -- the mark that is set then
  pub noted_marked : (notes : Option Notes) →
      option_map (mark_of (with_held new (held_after u notes new.held)) sessions time zxid limits)
      (add_note u notes) ≡ mark_left 1 (option_map (mark_of old sessions time zxid limits) notes)
  noted_marked None = refl
  noted_marked (Some n) = by (nat_le 1 n.room)
    where
      by : (b : Bool) →
          option_map
          (mark_of (with_held new (cond b new.held (release_all (n.undos ++ u ∷ []) new.held)))
          sessions time zxid limits)
          (cond b (Some (record { undos = n.undos ++ u ∷ []; room = n.room - 1 })) None)
          ≡ cond b (Some (record (mark_of old sessions time zxid limits n) { steps = n.room - 1 })) None
      by true =
          ap (λ (p : Parts). Some
          (record {
            tree = tree_of p.nodes sessions time zxid limits;
            places = p.places;
            steps = n.room - 1;
          })) (all_back n.undos)
      by false = refl

  module _ (notes : Option Notes) (stored : IsStored notes old sessions time zxid limits)
      (owners : new.owners ≡ old.owners) (fits : Fits new.owners u (parts_of new)) where
    -- all can be undone still
    fit : FitAll new.owners (undos_of notes ++ u ∷ []) (parts_of new)
    fit = fit_all_push new.owners (undos_of notes) u (parts_of new) fits
        (subst (FitAll new.owners (undos_of notes)) (sym back)
        (subst (λ (o : Owners). FitAll o (undos_of notes) (parts_of old)) (sym owners) stored.fit))

    -- so what was taken away is held
    pub noted_held : AllHeld (undos_of notes ++ u ∷ []) new.held
    noted_held = all_held new.owners (undos_of notes ++ u ∷ []) (parts_of new) fit

    none_left : release_all (undos_of notes ++ u ∷ []) new.held ≡ finite.empty
    none_left = sym (held-all_undone new.owners (undos_of notes ++ u ∷ []) (parts_of new) fit)
        ∙ ap (λ (p : Parts). p.held) (all_back (undos_of notes)) ∙ stored.held

    -- and all is stored
    pub stored_noted : IsKept new.nodes new.places sessions time zxid limits →
        ((id : Id) (path : Path) → finite.get new.places id ≡ Some path →
        finite.get new.held id ≡ None) → old.room + returning u ≤ new.room + 1 →
        IsStored (add_note u notes) (with_held new (held_after u notes new.held)) sessions time zxid limits
    stored_noted kept apart more = by notes stored fit none_left
      where
        again : AreOwners new.owners sessions
        again = subst (λ (o : Owners). AreOwners o sessions) (sym owners) stored.owners

        within : (n : Notes) → IsStored (Some n) old sessions time zxid limits →
            FitAll new.owners (n.undos ++ u ∷ []) (parts_of new) →
            release_all (n.undos ++ u ∷ []) new.held ≡ finite.empty → (b : Bool) → nat_le 1 n.room ≡ b
            → IsStored
            (cond b (Some (record { undos = n.undos ++ u ∷ []; room = n.room - 1 })) None)
            (with_held new (cond b new.held (release_all (n.undos ++ u ∷ []) new.held))) sessions
            time zxid limits
        within n was fit none false full =
            stored_plain new sessions time zxid limits (release_all (n.undos ++ u ∷ []) new.held) none kept
            again
        within n was fit none true enough =
            let had = was.room in
            let count = all_returning-push n.undos u in
            record {
              kept = kept;
              owners = again;
              apart = apart;
              fit = fit;
              before = subst (λ (p : Parts). IsKept p.nodes p.places sessions time zxid limits)
                  (sym (all_back n.undos)) was.before;
              held = ap (λ (p : Parts). p.held) (all_back n.undos) ∙ was.held;
              room = grind (arith, nat_tests, had, count, more, enough);
            }

        by : (notes : Option Notes) → IsStored notes old sessions time zxid limits →
            FitAll new.owners (undos_of notes ++ u ∷ []) (parts_of new) →
            release_all (undos_of notes ++ u ∷ []) new.held ≡ finite.empty →
            IsStored (add_note u notes) (with_held new (held_after u notes new.held)) sessions time
            zxid limits
        by None was fit none =
            stored_plain new sessions time zxid limits (release u new.held) none kept again
        by (Some n) was fit none = within n was fit none (nat_le 1 n.room) refl
