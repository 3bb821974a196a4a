use Rattle.std.proofs.Common.{rules, ◌≡◌, ◌∷◌, true, false}
use Rattle.zjournal.specs.file.Events.{replay, synced}
use Rattle.zjournal.proofs.file_lemmas.Seen.{sync_leaves}
use Rattle.zjournal.proofs.file.device.FileDeviceDevice.sync.Goals as goal

pub returns-then-sync-clause-crash : goal.returns-then-sync-clause-crash
returns-then-sync-clause-crash g c =
    let is : c.note.new.self.events ≡ synced c.args.self.now.mode true ∷ c.args.self.now.log.events = search rules in
    let sound : (replay c.args.self.now.log.events).has_failed ≡ false = search rules in
    let named : (replay c.args.self.now.log.events).is_moved ≡ false = search rules in
    sync_leaves c.args.self.now.mode c.args.self.now.log.events c.note.new.self.events is sound named
