use Rattle.std.proofs.Common.{rules, ◌≡◌, ◌∷◌, ◌∙◌, ap, true, false, List}
use Rattle.zjournal.specs.declared.file.mode.SyncMode.{SyncMode}
use Rattle.zjournal.specs.file.Events.{Event, replay, named, folder_synced}
use Rattle.zjournal.proofs.file_lemmas.Named.{one_time, two_time, three_time, one_either, two_either, three_either, taken_only}
use Rattle.zjournal.proofs.file.device.FileDeviceDevice.take_place.Goals as goal

pub returns-in_err-settle-clause-crash : goal.returns-in_err-settle-clause-crash
returns-in_err-settle-clause-crash g c =
    let sound : (replay c.args.self.now.log.events).has_failed ≡ false = search rules in
    let begun : (replay c.args.self.now.log.events).is_begun ≡ true = search rules in
    one_either c.args.self.now.mode c.args.self.now.log.events sound begun false c.settle.new.self.log.events (c.in_err-settle.ensures.not_done)

pub returns-in_err-settle-clause-time : goal.returns-in_err-settle-clause-time
returns-in_err-settle-clause-time g c =
    let sound : (replay c.args.self.now.log.events).has_failed ≡ false = search rules in
    let begun : (replay c.args.self.now.log.events).is_begun ≡ true = search rules in
    one_time c.args.self.now.mode c.args.self.now.log.events sound begun false c.settle.new.self.log.events (c.in_err-settle.ensures.not_done)

pub returns-in_err-take_name-clause-crash : goal.returns-in_err-take_name-clause-crash
returns-in_err-take_name-clause-crash g c =
    let sound : (replay c.args.self.now.log.events).has_failed ≡ false = search rules in
    let begun : (replay c.args.self.now.log.events).is_begun ≡ true = search rules in
    two_either c.args.self.now.mode c.args.self.now.log.events sound begun false c.take_name.new.self.log.events (c.in_err-take_name.ensures.not_done ∙ ap (λ (l : List Event). named false ∷ l) c.in_ok-settle.ensures.done)

pub returns-in_err-take_name-clause-time : goal.returns-in_err-take_name-clause-time
returns-in_err-take_name-clause-time g c =
    let sound : (replay c.args.self.now.log.events).has_failed ≡ false = search rules in
    let begun : (replay c.args.self.now.log.events).is_begun ≡ true = search rules in
    two_time c.args.self.now.mode c.args.self.now.log.events sound begun false c.take_name.new.self.log.events (c.in_err-take_name.ensures.not_done ∙ ap (λ (l : List Event). named false ∷ l) c.in_ok-settle.ensures.done)

pub returns-in_err-sync_folder-clause-crash : goal.returns-in_err-sync_folder-clause-crash
returns-in_err-sync_folder-clause-crash g c =
    let sound : (replay c.args.self.now.log.events).has_failed ≡ false = search rules in
    let begun : (replay c.args.self.now.log.events).is_begun ≡ true = search rules in
    three_either c.args.self.now.mode c.args.self.now.log.events sound begun false c.sync_folder.new.self.log.events (c.in_err-sync_folder.ensures.not_done ∙ ap (λ (m : SyncMode). folder_synced m false ∷ c.take_name.new.self.log.events) (c.take_name.ensures.same ∙ c.settle.ensures.same) ∙ ap (λ (l : List Event). folder_synced c.args.self.now.mode false ∷ l) (c.in_ok-take_name.ensures.done ∙ ap (λ (l : List Event). named true ∷ l) c.in_ok-settle.ensures.done))

pub returns-in_err-sync_folder-clause-time : goal.returns-in_err-sync_folder-clause-time
returns-in_err-sync_folder-clause-time g c =
    let sound : (replay c.args.self.now.log.events).has_failed ≡ false = search rules in
    let begun : (replay c.args.self.now.log.events).is_begun ≡ true = search rules in
    three_time c.args.self.now.mode c.args.self.now.log.events sound begun false c.sync_folder.new.self.log.events (c.in_err-sync_folder.ensures.not_done ∙ ap (λ (m : SyncMode). folder_synced m false ∷ c.take_name.new.self.log.events) (c.take_name.ensures.same ∙ c.settle.ensures.same) ∙ ap (λ (l : List Event). folder_synced c.args.self.now.mode false ∷ l) (c.in_ok-take_name.ensures.done ∙ ap (λ (l : List Event). named true ∷ l) c.in_ok-settle.ensures.done))

pub returns-clause-crash : goal.returns-clause-crash
returns-clause-crash g c =
    let sound : (replay c.args.self.now.log.events).has_failed ≡ false = search rules in
    let begun : (replay c.args.self.now.log.events).is_begun ≡ true = search rules in
    three_either c.args.self.now.mode c.args.self.now.log.events sound begun true c.sync_folder.new.self.log.events (c.in_ok-sync_folder.ensures.done ∙ ap (λ (m : SyncMode). folder_synced m true ∷ c.take_name.new.self.log.events) (c.take_name.ensures.same ∙ c.settle.ensures.same) ∙ ap (λ (l : List Event). folder_synced c.args.self.now.mode true ∷ l) (c.in_ok-take_name.ensures.done ∙ ap (λ (l : List Event). named true ∷ l) c.in_ok-settle.ensures.done))

pub returns-clause-time : goal.returns-clause-time
returns-clause-time g c =
    let sound : (replay c.args.self.now.log.events).has_failed ≡ false = search rules in
    let begun : (replay c.args.self.now.log.events).is_begun ≡ true = search rules in
    three_time c.args.self.now.mode c.args.self.now.log.events sound begun true c.sync_folder.new.self.log.events (c.in_ok-sync_folder.ensures.done ∙ ap (λ (m : SyncMode). folder_synced m true ∷ c.take_name.new.self.log.events) (c.take_name.ensures.same ∙ c.settle.ensures.same) ∙ ap (λ (l : List Event). folder_synced c.args.self.now.mode true ∷ l) (c.in_ok-take_name.ensures.done ∙ ap (λ (l : List Event). named true ∷ l) c.in_ok-settle.ensures.done))

pub returns-clause-durable : goal.returns-clause-durable
returns-clause-durable g c =
    let sound : (replay c.args.self.now.log.events).has_failed ≡ false = search rules in
    let begun : (replay c.args.self.now.log.events).is_begun ≡ true = search rules in
    taken_only c.args.self.now.mode c.args.self.now.log.events sound begun c.sync_folder.new.self.log.events (search rules)
