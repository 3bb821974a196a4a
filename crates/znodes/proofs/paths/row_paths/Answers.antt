use Rattle.std.proofs.Common.{◌≡◌, ℕ, suc, ◌+◌, ◌∷◌, ◌++◌, [], List, take, get_or, sym, ap, ◌∙◌, arith}
use Rattle.std.proofs.Math.Seq.{take-suc}
use Rattle.std.proofs.lemmas.List.Elements.{filter_map-append}
use Rattle.zslots.specs.declared.id.Id.{Id}
use Rattle.zslots.specs.SlotsView.{Items}
use Rattle.ztree.specs.Tree.{Path}
use Rattle.znodes.specs.declared.row.Row.{Row}
use Rattle.znodes.specs.support.Reading.{path_at, paths_at}
use Rattle.znodes.proofs.paths.row_paths.Goals as goal

-- what is read behind the last of the Ids
abbrev nowhere : Id
nowhere = record { index = 0; generation = record { high = 0; low = 0 } }

next : (i : ℕ) → suc i ≡ i + 1
next i = omega arith

pub loop-id-preserved : goal.loop-id-preserved
loop-id-preserved c =
    let m : Items Row = c.args.slots.now.items in
    let ids : List Id = c.args.ids.now in
    let i = c.loop-id.id-index in
    let id : Id = get_or ids i nowhere in
    c.in_ok-push_path.ensures ∙ ap (λ (paths : List Path). paths ++ paths_at m (id ∷ [])) c.loop-id.invariant
    ∙ sym (filter_map-append (path_at m) (take i ids) (id ∷ [])) ∙ ap (paths_at m) (sym (take-suc ids i nowhere c.loop-id-test.true))
    ∙ ap (λ n. paths_at m (take n ids)) (next i)
