use Rattle.std.proofs.Common.{◌≡◌, [], Ok, Err}
use Rattle.std.proofs.lemmas.Result.{err_from_is_err_and}
use Rattle.zrequests.specs.Asking.{each_in, each_behind}
use Rattle.zrequests.specs.Requests.{watch_in, watched_in}
use Rattle.zrequests.proofs.Each.{by_one_list, by_two_lists, by_three_lists, unasked_as}
use Rattle.zrequests.proofs.lists.all_watches.Goals as goal

pub returns-in_err-add_watches-clause-fault : goal.returns-in_err-add_watches-clause-fault
returns-in_err-add_watches-clause-fault c =
    let set = c.args.set.now in
    let stopped = rw (c.new-calls.ensures.items, c.as_slice.ensures.texts) at c.in_err-add_watches.ensures.fault in
    let p = err_from_is_err_and c.from_residual.result c.from_residual.ensures.1 in
    rw (p.1, p.2)
    (unasked_as (each_behind [] watch_in set.data_watches) (each_in watch_in (watched_in set)) _
    (λ fault is. by_one_list watch_in set.data_watches set.exist_watches set.child_watches (Err fault) is) stopped)

pub returns-in_err-add_watches-2-clause-fault : goal.returns-in_err-add_watches-2-clause-fault
returns-in_err-add_watches-2-clause-fault c =
    let set = c.args.set.now in
    let known = c.add_watches.new.calls.items in
    let first : each_behind [] watch_in set.data_watches ≡ Ok known =
    rw (c.new-calls.ensures.items, c.as_slice.ensures.texts) at c.in_ok-add_watches.ensures.found in
    let stopped = rw c.as_slice-2.ensures.texts at c.in_err-add_watches-2.ensures.fault in
    let p = err_from_is_err_and c.from_residual-in_err-add_watches-2.result c.from_residual-in_err-add_watches-2.ensures.1 in
    rw (p.1, p.2)
    (unasked_as (each_behind known watch_in set.exist_watches) (each_in watch_in (watched_in set)) _
    (λ fault is. by_two_lists watch_in set.data_watches set.exist_watches set.child_watches known (Err fault) first is) stopped)

pub returns-in_err-add_watches-3-clause-fault : goal.returns-in_err-add_watches-3-clause-fault
returns-in_err-add_watches-3-clause-fault c =
    let set = c.args.set.now in
    let known = c.add_watches.new.calls.items in
    let more = c.add_watches-2.new.calls.items in
    let first : each_behind [] watch_in set.data_watches ≡ Ok known =
    rw (c.new-calls.ensures.items, c.as_slice.ensures.texts) at c.in_ok-add_watches.ensures.found in
    let second : each_behind known watch_in set.exist_watches ≡ Ok more =
    rw c.as_slice-2.ensures.texts at c.in_ok-add_watches-2.ensures.found in
    let stopped = rw c.as_slice-3.ensures.texts at c.in_err-add_watches-3.ensures.fault in
    let p = err_from_is_err_and c.from_residual-in_err-add_watches-3.result c.from_residual-in_err-add_watches-3.ensures.1 in
    rw (p.1, p.2)
    (unasked_as (each_behind more watch_in set.child_watches) (each_in watch_in (watched_in set)) _
    (λ fault is. by_three_lists watch_in set.data_watches set.exist_watches set.child_watches known more (Err fault) first second is) stopped)

pub returns-clause-found : goal.returns-clause-found
returns-clause-found c =
    let set = c.args.set.now in
    let known = c.add_watches.new.calls.items in
    let more = c.add_watches-2.new.calls.items in
    let all = c.add_watches-3.new.calls.items in
    let first : each_behind [] watch_in set.data_watches ≡ Ok known =
    rw (c.new-calls.ensures.items, c.as_slice.ensures.texts) at c.in_ok-add_watches.ensures.found in
    let second : each_behind known watch_in set.exist_watches ≡ Ok more =
    rw c.as_slice-2.ensures.texts at c.in_ok-add_watches-2.ensures.found in
    let third : each_behind more watch_in set.child_watches ≡ Ok all =
    rw c.as_slice-3.ensures.texts at c.in_ok-add_watches-3.ensures.found in
    by_three_lists watch_in set.data_watches set.exist_watches set.child_watches known more (Ok all) first second third
