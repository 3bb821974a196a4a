use Rattle.std.proofs.Common.{inr, List, Option, ℕ, sym, subst}
use Rattle.std.specs.Option.{option_map}
use Rattle.zdevices.specs.Device.{Between, sink_run, source_run}
use Rattle.zjournal.specs.file.File.{seen_of, MayLeaveOf}
use Rattle.zfront.specs.Inputs.{ServerView}
use Rattle.zdaemon.specs.Folder.{TakesIn, KeepsIn, ReportsIn, HasReportedIn}
use Rattle.zdaemon.specs.Guarded.{ServesBehind}
use Rattle.zdaemon.specs.Memory.{TakesInMemory, KeepsInMemory, ReportsInMemory, HasReportedInMemory}
use Rattle.zdaemon.specs.Running.{GaveAfter, Served, new_front}
use Rattle.zdaemon.specs.declared.words.FolderSettings.{FolderSettings}
use Rattle.zdaemon.proofs.Running.{behind_after}
use Rattle.zdaemon.proofs.program.run.Goals as goal

pub returns-in_ok-serve_behind-in-None : goal.returns-in_ok-serve_behind-in-None
returns-in_ok-serve_behind-in-None g c =
    let asked = c.in_ok-asked.asked in
    let secret = c.in_ok-secret.secret in
    let logins = c.in_ok-logins.logins in
    let text : Option (List ℕ) = option_map (λ it. it.items) c.in_ok-text.text in
    let served = c.in_ok-serve_behind-in-None.ensures in
    let source = source_run g.S.Source.gave g.S.Source.failed g.S.Source.has_ended c.args.source.now c.serve_behind.new.source in
    let took = Between g.K.Sink.took c.args.sink.now c.serve_behind.new.sink in
    let all = behind_after TakesInMemory KeepsInMemory ReportsInMemory HasReportedInMemory logins
    (Between g.S.Source.gave c.read_logins.new.source c.serve_behind.new.source) (GaveAfter secret text source) took c.in_ok-front-in-None.front
    (λ bytes gave. (
      c.in_ok-secret.ensures.whole,
      c.in_ok-text.ensures.short,
      g.met.S.Source.gave_both _ _ _ _ _ c.in_ok-secret.ensures.gave (g.met.S.Source.gave_both _ _ _ _ _ c.in_ok-text.ensures.gave gave),
    ))
    served.all in
    let from_new = subst (λ (front : ServerView). ServesBehind TakesInMemory KeepsInMemory ReportsInMemory HasReportedInMemory logins
    (GaveAfter secret text source) took front)
    {y = new_front secret asked} c.in_ok-front-in-None.ensures all in
    inr (
      asked,
      c.in_ok-asked.ensures.ok,
      rw c.in-None.is (secret, text, logins, c.in_ok-logins.ensures, from_new, served.ended),
    )

pub returns-in_ok-serve_behind-in-Some-settings : goal.returns-in_ok-serve_behind-in-Some-settings
returns-in_ok-serve_behind-in-Some-settings g c =
    let secret = c.in_ok-secret.secret in
    let logins = c.in_ok-logins.logins in
    let text : Option (List ℕ) = option_map (λ it. it.items) c.in_ok-text.text in
    let service = c.in_ok-service-in-Some-settings.service in
    let served = c.in_ok-serve_behind-in-Some-settings.ensures in
    let new = c.serve_behind-in-Some-settings.new in
    let source = source_run g.S.Source.gave g.S.Source.failed g.S.Source.has_ended c.args.source.now new.source in
    let sink = sink_run g.K.Sink.took g.K.Sink.failed c.args.sink.now new.sink in
    let all = behind_after (TakesIn seen_of MayLeaveOf) (KeepsIn seen_of MayLeaveOf) ReportsIn HasReportedIn logins
    (Between g.S.Source.gave c.read_logins.new.source new.source) (GaveAfter secret text source)
    (Between g.K.Sink.took c.args.sink.now new.sink) service
    (λ bytes gave. (
      c.in_ok-secret.ensures.whole,
      c.in_ok-text.ensures.short,
      g.met.S.Source.gave_both _ _ _ _ _ c.in_ok-secret.ensures.gave (g.met.S.Source.gave_both _ _ _ _ _ c.in_ok-text.ensures.gave gave),
    ))
    served.all in
    inr (
      c.in_ok-asked.asked,
      c.in_ok-asked.ensures.ok,
      subst (λ (folder : Option FolderSettings). Served g.row.R.Denot c.in_ok-asked.asked folder source sink) (sym c.in-Some-settings.is)
          (secret, text, logins, c.in_ok-logins.ensures, service, c.in_ok-service-in-Some-settings.ensures.begins, all, served.ended),
    )
