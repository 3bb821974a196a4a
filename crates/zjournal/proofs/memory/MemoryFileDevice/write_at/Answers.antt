use Rattle.zjournal.proofs.Cached.{elapses_to}
use Rattle.zjournal.proofs.memory.MemoryFileDevice.write_at.Goals as goal

pub returns-then-self-eq0-clause-time : goal.returns-then-self-eq0-clause-time
returns-then-self-eq0-clause-time c =
    let past = c.in_ok-replace.ensures.past in
    elapses_to c.args.self.now.past.items c.replace.new.past.items past.0 c.args.self.now.current c.replace.new.current past.1 past.2

pub returns-clause-time : goal.returns-clause-time
returns-clause-time c =
    let past = c.in_ok-replace-2.ensures.past in
    elapses_to c.args.self.now.past.items c.replace-2.new.past.items past.0 c.args.self.now.current c.replace-2.new.current past.1 past.2
