use Rattle.std.proofs.Common.{◌≡◌, List, [], ◌∷◌, ◌++◌, length, refl, ap, sym, subst, ◌∙◌, arith}
use Rattle.znodes.specs.NodesView.{NodesView}
use Rattle.zstore.specs.declared.undo.Undo.{Undo}
use Rattle.zstore.specs.support.Undoing.{Held, IsHeld, release, release_all, AllHeld}
use Rattle.zstore.proofs.parts.Undone.{release_all-push, all_held_last}
use Rattle.zstore.proofs.parts.Noted.{freed_one, freed_none}
use Rattle.zstore.proofs.undoing.free_all.Goals as goal

no_items : {X : Type 0} (xs : List X) → length xs ≡ 0 → xs ≡ []
no_items [] e = refl
no_items (x ∷ xs) e = absurd (omega (arith, e))

-- the last change's node given up, and those of the changes before it to come
module _ (v : NodesView) (us before : List Undo) (last : Undo) (items : us ≡ before ++ last ∷ [])
    (all : AllHeld us v.held) where
  is_held : IsHeld last v.held × AllHeld before (release last v.held)
  is_held = all_held_last before last v.held (subst (λ l. AllHeld l v.held) items all)

  next_held : (w : NodesView) → w ≡ record v { held = release last v.held } → AllHeld before w.held
  next_held w freed = subst (λ (x : NodesView). AllHeld before x.held) (sym freed) is_held.1

  next_nodes : (w : NodesView) → w ≡ record v { held = release last v.held } →
      record w { held = release_all before w.held } ≡ record v { held = release_all us v.held }
  next_nodes w freed =
      ap (λ (x : NodesView). record x { held = release_all before x.held }) freed
      ∙ ap (λ (h : Held). record v { held = h })
      (sym (release_all-push before last v.held) ∙ ap (λ l. release_all l v.held) (sym items))

pub free-requires : goal.free-requires
free-requires c = record {
  held = subst (λ u. IsHeld u c.loop-last.nodes.held) c.in-Taken.is
      (is_held c.loop-last.nodes c.loop-last.left.now c.in-Some.before.now c.in-Some.last.now
      c.in-Some.ensures.cases.0 c.loop-last.invariant.held).0;
}

pub loop-last-smaller : goal.loop-last-smaller
loop-last-smaller c = let shorter = c.in-Some.ensures.cases.1 in omega (arith, shorter)

pub loop-last-preserved-in-Taken : goal.loop-last-preserved-in-Taken
loop-last-preserved-in-Taken c =
    let v = c.loop-last.nodes in
    let us = c.loop-last.left.now in
    let before = c.in-Some.before.now in
    let last = c.in-Some.last.now in
    let items = c.in-Some.ensures.cases.0 in
    let all = c.loop-last.invariant.held in
    let freed = freed_one v c.free.new.self last c.in-Taken.id c.in-Taken.field-1 c.in-Taken.is
    c.free.ensures in
    record {
      held = next_held v us before last items all c.free.new.self freed;
      nodes = next_nodes v us before last items all c.free.new.self freed
          ∙ c.loop-last.invariant.nodes;
    }

pub loop-last-preserved : goal.loop-last-preserved
loop-last-preserved c =
    let v = c.loop-last.nodes in
    let us = c.loop-last.left.now in
    let before = c.in-Some.before.now in
    let last = c.in-Some.last.now in
    let items = c.in-Some.ensures.cases.0 in
    let all = c.loop-last.invariant.held in
    let freed = freed_none v last c.in_default-last.not-Taken in
    record {
      held = next_held v us before last items all v freed;
      nodes = next_nodes v us before last items all v freed ∙ c.loop-last.invariant.nodes;
    }

pub returns : goal.returns
returns c =
    let v = c.loop-last.nodes in
    sym (ap (λ us. record v { held = release_all us v.held })
    (no_items c.loop-last.left.now c.in_default.ensures.cases)) ∙ c.loop-last.invariant.nodes
