use Rattle.std.proofs.Common.{◌∙◌}
use Rattle.zjournal.proofs.Cached.{taken_either, sync_and_name, all_three}
use Rattle.zjournal.proofs.memory.MemoryFileDevice.take_place.Goals as goal

pub returns-in_err-take_name-clause-time : goal.returns-in_err-take_name-clause-time
returns-in_err-take_name-clause-time c =
    sync_and_name c.args.self.now.past.items c.sync_beside.new.self.past.items c.take_name.new.self.past.items
    c.take_name.new.self.past.items c.args.self.now.current c.sync_beside.new.self.current c.take_name.new.self.current
    c.take_name.new.self.current
    c.sync_beside.ensures.time c.sync_beside.ensures.copy c.take_name.ensures.time

pub returns-in_err-sync-clause-crash : goal.returns-in_err-sync-clause-crash
returns-in_err-sync-clause-crash c =
    λ c' left. taken_either c.args.self.now.current c.sync_beside.new.self.current c.take_name.new.self.current
    c.args.self.now.beside.seen.items c.sync_beside.new.self.beside.disk.items c.sync_beside.new.self.beside.seen.items
    c.sync_beside.ensures.copy c.in_ok-sync_beside.ensures.whole c.sync_beside.ensures.same c.take_name.ensures.disk
    c.in_ok-take_name.ensures.seen c' (c.sync.ensures.crash c' left)

pub returns-in_err-sync-clause-time : goal.returns-in_err-sync-clause-time
returns-in_err-sync-clause-time c =
    let either = taken_either c.args.self.now.current c.sync_beside.new.self.current c.take_name.new.self.current
    c.args.self.now.beside.seen.items c.sync_beside.new.self.beside.disk.items c.sync_beside.new.self.beside.seen.items
    c.sync_beside.ensures.copy c.in_ok-sync_beside.ensures.whole c.sync_beside.ensures.same c.take_name.ensures.disk c.in_ok-take_name.ensures.seen in
    all_three c.args.self.now.past.items c.sync_beside.new.self.past.items c.take_name.new.self.past.items
    c.sync.new.self.past.items c.args.self.now.current c.sync_beside.new.self.current c.take_name.new.self.current
    c.sync.new.self.current c.args.self.now.beside.seen.items
    (sync_and_name c.args.self.now.past.items c.sync_beside.new.self.past.items c.take_name.new.self.past.items
    c.sync.new.self.past.items c.args.self.now.current c.sync_beside.new.self.current c.take_name.new.self.current
    c.sync.new.self.current c.sync_beside.ensures.time c.sync_beside.ensures.copy c.take_name.ensures.time)
    either (c.sync.ensures.seen ∙ c.in_ok-take_name.ensures.seen ∙ c.sync_beside.ensures.same) c.sync.ensures.time

pub returns-clause-durable : goal.returns-clause-durable
returns-clause-durable c =
    λ c' left. c.in_ok-sync.ensures.durable c' left ∙ c.in_ok-take_name.ensures.seen ∙ c.sync_beside.ensures.same

pub returns-clause-crash : goal.returns-clause-crash
returns-clause-crash c =
    λ c' left. taken_either c.args.self.now.current c.sync_beside.new.self.current c.take_name.new.self.current
    c.args.self.now.beside.seen.items c.sync_beside.new.self.beside.disk.items c.sync_beside.new.self.beside.seen.items
    c.sync_beside.ensures.copy c.in_ok-sync_beside.ensures.whole c.sync_beside.ensures.same c.take_name.ensures.disk
    c.in_ok-take_name.ensures.seen c' (c.sync.ensures.crash c' left)

pub returns-clause-time : goal.returns-clause-time
returns-clause-time c =
    let either = taken_either c.args.self.now.current c.sync_beside.new.self.current c.take_name.new.self.current
    c.args.self.now.beside.seen.items c.sync_beside.new.self.beside.disk.items c.sync_beside.new.self.beside.seen.items
    c.sync_beside.ensures.copy c.in_ok-sync_beside.ensures.whole c.sync_beside.ensures.same c.take_name.ensures.disk c.in_ok-take_name.ensures.seen in
    all_three c.args.self.now.past.items c.sync_beside.new.self.past.items c.take_name.new.self.past.items
    c.sync.new.self.past.items c.args.self.now.current c.sync_beside.new.self.current c.take_name.new.self.current
    c.sync.new.self.current c.args.self.now.beside.seen.items
    (sync_and_name c.args.self.now.past.items c.sync_beside.new.self.past.items c.take_name.new.self.past.items
    c.sync.new.self.past.items c.args.self.now.current c.sync_beside.new.self.current c.take_name.new.self.current
    c.sync.new.self.current c.sync_beside.ensures.time c.sync_beside.ensures.copy c.take_name.ensures.time)
    either (c.sync.ensures.seen ∙ c.in_ok-take_name.ensures.seen ∙ c.sync_beside.ensures.same) c.sync.ensures.time
