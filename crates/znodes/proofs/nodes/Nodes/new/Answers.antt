use Rattle.std.proofs.Common.{rules, ◌≡◌, ◌+◌, None, sym, ap, ◌∙◌}
use mathlib.Core.Path.{subst}
use Rattle.std.specs.FinMap as finite
use Rattle.std.specs.FinMap.{insert}
use Rattle.zslots.specs.declared.id.Id.{Id}
use Rattle.zslots.specs.declared.list.List.{List as IdList}
use Rattle.zslots.specs.SlotsView.{Items, SlotsView}
use Rattle.znodes.specs.index.IndexView.{IdsByPath}
use Rattle.ztree.specs.Tree.{Path}
use Rattle.znodes.specs.declared.row.Row.{Row}
use Rattle.znodes.specs.declared.counts.Counts.{Counts}
use Rattle.znodes.specs.support.OwnerLists.{OwnerLists}
use Rattle.znodes.specs.support.Counting.{no_counts, counts_with}
use Rattle.znodes.specs.support.Rows.{IsThreaded, lone_row, nodes_of, places_of, held_of, known_of}
use Rattle.znodes.proofs.Opening as opening
use Rattle.znodes.proofs.Opening.{counted-alone, few-alone, known-none, linked-alone, mortal-alone, parents-alone, nodes-alone, places-alone, held-alone}
use Rattle.znodes.proofs.nodes.Nodes.new.Goals as goal

-- what the parts are, once all are made
module _ (c : goal.After-new-2) where
  abbrev id : Id
  id = c.in-Ok.id

  row : c.alone-row.result ≡ opening.row c.args.alloc c.args.root id
  row = c.alone-row.ensures ∙ ap (λ (path : Path). lone_row c.args.alloc path c.args.root None) c.root-2.ensures

  rows : c.insert.new.self.items ≡ opening.rows c.args.alloc c.args.root id
  rows =
      c.in-Ok.ensures.items ∙ ap (λ (s : SlotsView Row). insert s.items id c.alone-row.result) c.new-slots.ensures
      ∙ ap (insert finite.empty id) row

  ids : c.insert-2.new.self.ids ≡ opening.ids c.args.alloc c.args.root id
  ids =
      c.insert-2.ensures.ids
      ∙ ap (λ (m : IdsByPath). insert m c.root-3.result id) (c.reserve.ensures.same ∙ c.new-index.ensures)
      ∙ ap (λ (path : Path). insert {X = Id} finite.empty path id) c.root-3.ensures

  counts : c.put.new.self ≡ counts_with no_counts c.args.root
  counts = c.put.ensures.counts ∙ ap (λ n. counts_with n c.args.root) c.new-counts.ensures

-- the index has room
pub insert-requires-2 : goal.insert-requires-2
insert-requires-2 c = search rules

pub invariant_of-result : goal.invariant_of-result
invariant_of-result c =
    let all : (Items Row × (IdsByPath × (OwnerLists × (IdList 2 × Counts)))) → Type 0 = λ w. IsThreaded w.0 w.1.0 w.1.1.0 w.1.1.1.0 w.1.1.1.1 in
    subst all (λ i. (sym (rows c) i, (sym (ids c) i, (sym c.new.ensures i, (sym c.new-2.ensures i, sym (counts c) i))))) (record {
      linked = linked-alone c.args.alloc c.args.root (id c) c.requires.nobodys;
      mortal = mortal-alone c.args.alloc c.args.root (id c) c.requires.stays;
      parents = parents-alone c.args.alloc c.args.root (id c);
      counted = counted-alone c.args.alloc c.args.root (id c) c.put.ensures.small;
      few = few-alone c.args.alloc c.args.root (id c);
    })

pub returns : goal.returns
returns c =
    let alloc = c.args.alloc in
    let root = c.args.root in
    record {
      nodes = (λ i. nodes_of (rows c i) (ids c i)) ∙ nodes-alone alloc root (id c);
      id = id c;
      places = ap places_of (rows c) ∙ places-alone alloc root (id c);
      held = ap held_of (rows c) ∙ held-alone alloc root (id c);
      owners = ap known_of c.new.ensures ∙ known-none;
      given = c.in-Ok.ensures.given ∙ ap (λ (s : SlotsView Row). s.given + 1) c.new-slots.ensures;
    }
