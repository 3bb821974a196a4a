use Rattle.std.proofs.Common.{◌≡◌, ◌+◌, ℕ, Option, ap, length, sym, subst, ◌∙◌}
use Rattle.std.specs.Prelude.{All, IsNone}
use Rattle.std.specs.declared.alloc.Global.{Global}
use Rattle.std.specs.declared.vec.Vec.{Vec}
use Rattle.zrun.specs.Clusters.{cluster_run}
use Rattle.zrun.specs.Members.{AreReported, clients_run}
use Rattle.zrace.proofs.Shown.{in_records, none_recorded}
use Rattle.zrace.proofs.racing.run.Goals as goal

pub returns-clause-run : goal.returns-clause-run
returns-clause-run g c =
    let field = c.join_all.new.self in
    let traces = c.in_ok-traces.traces in
    let last = c.in_ok-cluster.ensures.numbers.0 in
    let clients = c.in_ok-cluster.ensures.numbers.1 in
    let reported = c.in_ok-traces.ensures in
    let cluster = c.in_ok-cluster.cluster in
    let own : clients_run field.clients ≡ cluster_run cluster =
    c.join_all.ensures.clients ∙ c.start_all-started.ensures.clients ∙ ap clients_run c.new-field.ensures.clients ∙ c.in_ok-cluster.ensures.own in
    let many : length field.clients.places.items ≡ c.args.race.now.clients + 1 =
    field.clients.many ∙ ap length own ∙ cluster.count ∙ clients in
    let none : All IsNone c.start_all-started.new.self.versions.items =
    subst (λ (v : Vec (Option ℕ) Global). All IsNone v.items) (sym (c.start_all-started.ensures.versions ∙ c.new-field.ensures.versions))
    c.in_ok-room.room.none_reported in
    record {
      over = record {
        last = reported.last ∙ last;
        servers = reported.servers;
        clients = reported.clients ∙ clients;
        lawful = reported.lawful;
      };
      clients = field.clients;
      reported = subst (λ (n : ℕ). AreReported n traces field.clients) clients reported.reported;
      seen = field.reported;
      recorded = in_records traces (c.args.race.now.clients + 1) field.clients field.versions.items many (reported.clients ∙ clients) reported.lawful
          (subst (λ (n : ℕ). AreReported n traces field.clients) clients reported.reported)
          (c.join_all.ensures.recorded (none_recorded c.start_all-started.new.self.clients _ none));
    }
