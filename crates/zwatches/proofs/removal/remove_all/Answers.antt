use Rattle.std.proofs.Common.{◌≡◌, [], ◌∷◌, sym, ap, ◌∙◌}
use mathlib.Core.Bool.{true≢false}
use Rattle.zwatches.specs.Watches.{Path, Watches, share}
use Rattle.zwatches.proofs.Found.{all_others, ends_without, goes_without, no_paths, share-without}
use Rattle.zwatches.proofs.removal.remove_all.Goals as goal

pub returns-in_default-clause-gone : goal.returns-in_default-clause-gone
returns-in_default-clause-gone c = all_others c.args.paths.now.paths.entries c.args.watches.now c.args.connection c.in_default.ensures.none c.requires

pub loop-path-preserved-in-Some-pop_first : goal.loop-path-preserved-in-Some-pop_first
loop-path-preserved-in-Some-pop_first c =
    goes_without c.args.watches.now c.loop-path.watches c.remove_each.new.watches c.args.connection c.names.result.now c.loop-path.left.keys c.pop_first.new.self.keys
    (c.in-Some-pop_first.ensures.removal ∙ ap (λ (p : Path). p ∷ c.pop_first.new.self.keys) (sym c.names.ensures.names)) c.loop-path.invariant c.remove_each.ensures

pub loop-path-preserved : goal.loop-path-preserved
loop-path-preserved c =
    goes_without c.args.watches.now c.loop-path.watches c.remove_each.new.watches c.args.connection c.names.result.now c.loop-path.left.keys c.pop_first.new.self.keys
    (c.in-Some-pop_first.ensures.removal ∙ ap (λ (p : Path). p ∷ c.pop_first.new.self.keys) (sym c.names.ensures.names)) c.loop-path.invariant c.remove_each.ensures

pub forget-requires : goal.forget-requires
forget-requires c =
    let none : c.loop-path.left.keys ≡ [] = no_paths c.loop-path.left.keys (λ some. true≢false (sym (c.in_default-pop_first.ensures.variant.1 some))) in
    ap (λ (t : Watches). share t c.args.connection) (ends_without c.args.watches.now c.loop-path.watches c.args.connection c.loop-path.left.keys none c.loop-path.invariant)
    ∙ share-without c.args.watches.now c.args.connection

pub returns-clause-gone : goal.returns-clause-gone
returns-clause-gone c =
    let none : c.loop-path.left.keys ≡ [] = no_paths c.loop-path.left.keys (λ some. true≢false (sym (c.in_default-pop_first.ensures.variant.1 some))) in
    c.forget.ensures ∙ ends_without c.args.watches.now c.loop-path.watches c.args.connection c.loop-path.left.keys none c.loop-path.invariant
