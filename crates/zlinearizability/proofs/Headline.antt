-- Every history has a legal order.
use Rattle.std.proofs.Common.{◌≡◌, sym, ap, ◌∙◌, subst}
use Rattle.ztree.specs.Tree.{opening_tree}
use Rattle.zprotocol.specs.server.Machine.{cached_tree_from, plain_from, replay}
use Rattle.zprotocol.proofs.server_lemmas.Projection.{log_stands_for_machine}
use Rattle.zprotocol.specs.world.World.{World}
use Rattle.zprotocol.specs.world.FromTree.{IsExplainedFrom, world_after_from}
use Rattle.zprotocol.proofs.world_lemmas.FirstCallsFrom.{opening_can_start}
use Rattle.zprotocol.proofs.world_lemmas.LogWorlds.{runs_with}
use Rattle.zlinearizability.proofs.legal_lemmas.order.PlainTree.{items_explain_from}
use Rattle.zlinearizability.specs.chain.Flow.{LogWorld}
use Rattle.zlinearizability.specs.chain.Account.{account_after, opening_account}
use Rattle.zlinearizability.specs.Headline.{EveryHistoryIsExplained}
use Rattle.zlinearizability.specs.FromTree.{EveryHistoryFromIsExplained}
use Rattle.zlinearizability.proofs.Runs.{run_world, run_is_sound}

-- the items of a run make a legal order of its history, which is the history of the world over trees
pub every_history_from_is_explained : EveryHistoryFromIsExplained
every_history_from_is_explained t can servers clients events =
    let plain = plain_from t in
    let machine = cached_tree_from t in
    let account = account_after plain (opening_account plain servers clients) events in
    let s = run_is_sound plain servers clients events in
    let explained = items_explain_from t can _ _ _ s.acted s.replays s.rising s.in_time s.answered s.once in
    let same : account.world.history ≡ (world_after_from t servers clients events).history =
    sym (ap (λ (w : LogWorld). w.history) (run_world plain servers clients events))
    ∙ sym (ap (λ (w : World _). w.history) (runs_with (replay machine) (log_stands_for_machine machine) servers clients events)) in
    subst (IsExplainedFrom t) same explained

-- from the initial tree
pub every_history_is_explained : EveryHistoryIsExplained
every_history_is_explained = every_history_from_is_explained opening_tree opening_can_start
