-- What undoes a change leads to the parts before it.
use Rattle.std.proofs.Common.{◌≡◌, ◌+◌, List, [], ◌∷◌, ◌++◌, Option, Some, None, refl, sym, ap, subst, ◌∙◌, arith}
use Rattle.std.specs.Prelude.{is_some}
use Rattle.std.specs.Option.{option_map_or}
use Rattle.std.specs.FinMap as finite
use Rattle.zslots.specs.declared.id.Id.{Id}
use Rattle.zslots.proofs.Maps.{id_cmp_total, id_cmp_same}
use Rattle.ztree.specs.declared.node.Node.{Node}
use Rattle.ztree.specs.Tree.{Path, Nodes, with_change_at}
use Rattle.ztree.proofs.Sorted.{paths_total, same_path}
use Rattle.ztree.proofs.Maps.{get-insert-here}
use Rattle.ztree.proofs.Nodes.{changed_at-some}
use Rattle.zstore.specs.declared.undo.Undo.{Undo}
use Rattle.zstore.specs.declared.undo.Undo.TheVariants as undo
use Rattle.zstore.specs.support.Undoing.{Held, Owners, Parts, CanGo, with_change_of, undone, all_undone, Fits, FitAll, returning, all_returning, release, release_all, IsHeld, AllHeld}
use Rattle.zstore.proofs.parts.Maps.{remove-insert, insert-remove, insert-insert}

-- the parts with one node more
abbrev pub parts_with : Parts → Id → Path → Node → Parts
parts_with p id path n =
    record {
      nodes = finite.insert p.nodes path n;
      places = finite.insert p.places id path;
      held = p.held;
    }

-- and with one fewer, which is held
abbrev pub parts_without : Parts → Id → Path → Node → Parts
parts_without p id path n =
    record {
      nodes = finite.remove p.nodes path;
      places = finite.remove p.places id;
      held = finite.insert p.held id (path, n);
    }

-- and with a node changed
abbrev pub parts_changed : Parts → Path → (Node → Node) → Parts
parts_changed p path f = record p { nodes = with_change_at p.nodes path f }

module _ (p : Parts) (id : Id) (path : Path) (n : Node) where
  pub undone-added : finite.get p.places id ≡ None → finite.get p.nodes path ≡ None →
      undone (undo.Added id) (parts_with p id path n) ≡ p
  undone-added new free =
      rw (get-insert-here id_cmp_total id_cmp_same p.places id path)
      (λ i. record {
        nodes = remove-insert paths_total same_path p.nodes path n free i;
        places = remove-insert id_cmp_total id_cmp_same p.places id path new i;
        held = p.held;
      })

  pub undone-taken : (above : Id) → finite.get p.places id ≡ Some path → finite.get p.nodes path ≡ Some n →
      finite.get p.held id ≡ None → undone (undo.Taken id above) (parts_without p id path n) ≡ p
  undone-taken above named found unheld =
      rw (get-insert-here id_cmp_total id_cmp_same p.held id (path, n))
      (λ i. record {
        nodes = insert-remove paths_total same_path p.nodes path n found i;
        places = insert-remove id_cmp_total id_cmp_same p.places id path named i;
        held = remove-insert id_cmp_total id_cmp_same p.held id (path, n) unheld i;
      })

  pub changed_back : (f g : Node → Node) → finite.get p.places id ≡ Some path →
      finite.get p.nodes path ≡ Some n → g (f n) ≡ n →
      with_change_of id g (parts_changed p path f) ≡ p
  changed_back f g named found back = rw named (λ i. record p { nodes = nodes i })
    where
      nodes : with_change_at (with_change_at p.nodes path f) path g ≡ p.nodes
      nodes =
          ap (λ (m : Nodes). with_change_at m path g) (changed_at-some p.nodes path f n found)
          ∙ changed_at-some (finite.insert p.nodes path (f n)) path g (f n)
          (get-insert-here paths_total same_path p.nodes path (f n))
          ∙ ap (finite.insert (finite.insert p.nodes path (f n)) path) back
          ∙ insert-insert paths_total same_path p.nodes path (f n) n found

-- what is undone where it can be
pub undone-gone : (p : Parts) (id : Id) (fits : CanGo p id) →
    undone (undo.Added id) p ≡ record
    { nodes = finite.remove p.nodes fits.path; places = finite.remove p.places id; held = p.held }
undone-gone p id fits = rw fits.named refl

-- the last note is undone first
pub all_undone-push : (us : List Undo) (u : Undo) (p : Parts) →
    all_undone (us ++ u ∷ []) p ≡ all_undone us (undone u p)
all_undone-push [] u p = refl
all_undone-push (v ∷ us) u p = ap (undone v) (all_undone-push us u p)

-- one note more
pub fit_all_push : (owners : Owners) (us : List Undo) (u : Undo) (p : Parts) → Fits owners u p →
    FitAll owners us (undone u p) → FitAll owners (us ++ u ∷ []) p
fit_all_push owners [] u p fits fit = (fits, tt)
fit_all_push owners (v ∷ us) u p fits fit = (
  subst (Fits owners v) (sym (all_undone-push us u p)) fit.0,
  fit_all_push owners us u p fits
      fit.1,
)

-- and taken again
pub fit_all_last : (owners : Owners) (us : List Undo) (u : Undo) (p : Parts) →
    FitAll owners (us ++ u ∷ []) p → Fits owners u p × FitAll owners us (undone u p)
fit_all_last owners [] u p fit = (fit.0, tt)
fit_all_last owners (v ∷ us) u p fit =
    let rest = fit_all_last owners us u p fit.1 in
    (rest.0, (subst (Fits owners v) (all_undone-push us u p) fit.0, rest.1))

pub all_returning-push : (us : List Undo) (u : Undo) →
    all_returning (us ++ u ∷ []) ≡ all_returning us + returning u
all_returning-push [] u = omega arith
all_returning-push (v ∷ us) u = let rest = all_returning-push us u in omega (arith, rest)

-- the last note is freed first
pub release_all-push : (us : List Undo) (u : Undo) (held : Held) →
    release_all (us ++ u ∷ []) held ≡ release_all us (release u held)
release_all-push [] u held = refl
release_all-push (v ∷ us) u held = ap (release v) (release_all-push us u held)

pub all_held_last : (us : List Undo) (u : Undo) (held : Held) → AllHeld (us ++ u ∷ []) held →
    IsHeld u held × AllHeld us (release u held)
all_held_last [] u held all = (all.0, tt)
all_held_last (v ∷ us) u held all =
    let rest = all_held_last us u held all.1 in
    (rest.0, (subst (IsHeld v) (release_all-push us u held) all.0, rest.1))

held-changed : (p : Parts) (f : Node → Node) (o : Option Path) →
    (option_map_or (λ path. record p { nodes = with_change_at p.nodes path f }) o p).held ≡ p.held
held-changed p f None = refl
held-changed p f (Some path) = refl

-- what undoes a change leaves held what freeing it does
held-undone : (owners : Owners) (u : Undo) (p : Parts) → Fits owners u p →
    (undone u p).held ≡ release u p.held
held-undone owners (undo.Added id) p fits = rw fits.named refl
held-undone owners (undo.Taken id above) p fits = rw fits.held refl
held-undone owners (undo.Marked id marks) p fits = held-changed p _ (finite.get p.places id)
held-undone owners (undo.Written id content) p fits = held-changed p _ (finite.get p.places id)

pub held-all_undone : (owners : Owners) (us : List Undo) (p : Parts) → FitAll owners us p →
    (all_undone us p).held ≡ release_all us p.held
held-all_undone owners [] p fit = refl
held-all_undone owners (u ∷ us) p fit = held-undone owners u (all_undone us p) fit.0
    ∙ ap (release u) (held-all_undone owners us p fit.1)

-- what can be undone is held
is_held : (owners : Owners) (u : Undo) (p : Parts) → Fits owners u p → IsHeld u p.held
is_held owners (undo.Added id) p fits = tt
is_held owners (undo.Taken id above) p fits = ap is_some fits.held
is_held owners (undo.Marked id marks) p fits = tt
is_held owners (undo.Written id content) p fits = tt

pub all_held : (owners : Owners) (us : List Undo) (p : Parts) → FitAll owners us p →
    AllHeld us p.held
all_held owners [] p fit = tt
all_held owners (u ∷ us) p fit = (
  subst (IsHeld u) (held-all_undone owners us p fit.1)
      (is_held owners u (all_undone us p) fit.0),
  all_held owners us p fit.1,
)
