use Rattle.std.proofs.Common.{◌≡◌, rules}
use Rattle.zjournal.proofs.memory.replace.Goals as goal

pub returns-clause-past : goal.returns-clause-past
returns-clause-past c =
    let disk : c.in_ok-disk.disk.items ≡ c.args.current.now.disk.items = search rules in
    let seen : c.in_ok-seen.seen.items ≡ c.args.current.now.seen.items = search rules in
    (record { disk = c.in_ok-disk.disk; seen = c.in_ok-seen.seen }, (disk, seen), c.in_ok-push.ensures.items)
