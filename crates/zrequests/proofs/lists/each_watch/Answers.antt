use Rattle.std.proofs.Common.{◌≡◌, ◌∙◌, [], Ok, Err}
use Rattle.std.proofs.lemmas.Result.{err_from_is_err_and}
use Rattle.zrequests.specs.Asking.{each_in, each_behind}
use Rattle.zrequests.specs.Requests.{watch_in, watched_in, all_watched_in}
use Rattle.zrequests.proofs.Each.{behind_nothing, by_one_list, by_two_lists, by_three_lists, unasked_as}
use Rattle.zrequests.proofs.lists.each_watch.Goals as goal

pub returns-in_err-calls-clause-fault : goal.returns-in_err-calls-clause-fault
returns-in_err-calls-clause-fault c =
    let set = c.args.set.now in
    let watched = watched_in set.watches in
    let p = err_from_is_err_and c.from_residual.result c.from_residual.ensures.1 in
    rw (p.1, p.2)
    (unasked_as (each_in watch_in watched) (each_in watch_in (all_watched_in set)) _
    (λ fault is. by_one_list watch_in watched set.persistent_watches set.recursive_watches (Err fault) (behind_nothing watch_in watched ∙ is))
    c.in_err-calls.ensures.fault)

pub returns-in_err-add_watches-clause-fault : goal.returns-in_err-add_watches-clause-fault
returns-in_err-add_watches-clause-fault c =
    let set = c.args.set.now in
    let watched = watched_in set.watches in
    let known = c.in_ok-calls.calls.items in
    let first : each_behind [] watch_in watched ≡ Ok known =
    behind_nothing watch_in watched ∙ c.in_ok-calls.ensures.found in
    let stopped = rw c.as_slice.ensures.texts at c.in_err-add_watches.ensures.fault in
    let p = err_from_is_err_and c.from_residual-in_err-add_watches.result c.from_residual-in_err-add_watches.ensures.1 in
    rw (p.1, p.2)
    (unasked_as (each_behind known watch_in set.persistent_watches) (each_in watch_in (all_watched_in set)) _
    (λ fault is. by_two_lists watch_in watched set.persistent_watches set.recursive_watches known (Err fault) first is) stopped)

pub returns-in_err-add_watches-2-clause-fault : goal.returns-in_err-add_watches-2-clause-fault
returns-in_err-add_watches-2-clause-fault c =
    let set = c.args.set.now in
    let watched = watched_in set.watches in
    let known = c.in_ok-calls.calls.items in
    let more = c.add_watches.new.calls.items in
    let first : each_behind [] watch_in watched ≡ Ok known =
    behind_nothing watch_in watched ∙ c.in_ok-calls.ensures.found in
    let second : each_behind known watch_in set.persistent_watches ≡ Ok more =
    rw c.as_slice.ensures.texts at c.in_ok-add_watches.ensures.found in
    let stopped = rw c.as_slice-2.ensures.texts at c.in_err-add_watches-2.ensures.fault in
    let p = err_from_is_err_and c.from_residual-in_err-add_watches-2.result c.from_residual-in_err-add_watches-2.ensures.1 in
    rw (p.1, p.2)
    (unasked_as (each_behind more watch_in set.recursive_watches) (each_in watch_in (all_watched_in set)) _
    (λ fault is. by_three_lists watch_in watched set.persistent_watches set.recursive_watches known more (Err fault) first second is) stopped)

pub returns-clause-found : goal.returns-clause-found
returns-clause-found c =
    let set = c.args.set.now in
    let watched = watched_in set.watches in
    let known = c.in_ok-calls.calls.items in
    let more = c.add_watches.new.calls.items in
    let all = c.add_watches-2.new.calls.items in
    let first : each_behind [] watch_in watched ≡ Ok known =
    behind_nothing watch_in watched ∙ c.in_ok-calls.ensures.found in
    let second : each_behind known watch_in set.persistent_watches ≡ Ok more =
    rw c.as_slice.ensures.texts at c.in_ok-add_watches.ensures.found in
    let third : each_behind more watch_in set.recursive_watches ≡ Ok all =
    rw c.as_slice-2.ensures.texts at c.in_ok-add_watches-2.ensures.found in
    by_three_lists watch_in watched set.persistent_watches set.recursive_watches known more (Ok all) first second third
