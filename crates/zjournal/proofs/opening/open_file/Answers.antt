use Rattle.std.proofs.Common.{◌≡◌, ◌∙◌, inl, inr, ℕ, refl, sym, ap, subst, [], ◌∷◌, ◌++◌, take, rules}
use Rattle.zjournal.specs.Blocks.{at_rest}
use Rattle.zjournal.specs.Journal.{holdings}
use Rattle.zjournal.specs.Checksum.{IsSum}
use Rattle.zjournal.proofs.Adler.{one_is_sum}
use Rattle.zjournal.proofs.Readings.{kept_is_made}
use Rattle.zjournal.specs.declared.reading.Found.TheVariants.{Unmade, Unopened, Cached}
use Rattle.zjournal.proofs.Files.{keeps, first_place, made_texts}
use Rattle.zjournal.proofs.Opens.{found_start, found_of, opened_head, closed_stands, unmade_leaves, unopened_leaves, kept_leaves}
use Rattle.std.proofs.lemmas.Result.{err_from_is_err_and}
use Rattle.zjournal.proofs.opening.open_file.Goals as goal

pub returns-in-Unmade-clause-read : goal.returns-in-Unmade-clause-read
returns-in-Unmade-clause-read g c =
    let found = found_of c.args.servers c.deref.result.now (g.D.Device.seen c.args.device.now) c.in_ok-look.field-0 Unmade
    (c.deref.ensures.value ∙ c.in_ok-bytes.ensures.bytes) c.in-Unmade.is c.in_ok-look.ensures.ok in (
      [],
      inr (inl found, refl),
      record {
        texts = made_texts c.args.servers c.requires.some c.first.result.start;
        text_is = c.new.ensures.items;
        is_place = first_place c.args.servers c.first.result c.first.ensures.end
            (c.first.ensures.sum ∙ sym c.first.ensures.start) (subst IsSum (sym c.first.ensures.start) one_is_sum);
        file = c.in_ok-make-in-Unmade.ensures.made
            ∙ ap (λ (n : ℕ). at_rest (holdings n c.args.servers [])) (sym c.first.ensures.start);
        durable = c.in_ok-make-in-Unmade.ensures.durable;
      },
    )

pub returns-in-Unopened-clause-read : goal.returns-in-Unopened-clause-read
returns-in-Unopened-clause-read g c =
    let found = found_of c.args.servers c.deref.result.now (g.D.Device.seen c.args.device.now) c.in_ok-look.field-0 Unopened
    (c.deref.ensures.value ∙ c.in_ok-bytes.ensures.bytes) c.in-Unopened.is c.in_ok-look.ensures.ok in (
      [],
      inr (inr found.0, refl),
      record {
        texts = made_texts c.args.servers c.requires.some c.first-in-Unopened.result.start;
        text_is = c.new-in-Unopened.ensures.items;
        is_place = first_place c.args.servers c.first-in-Unopened.result c.first-in-Unopened.ensures.end
            (c.first-in-Unopened.ensures.sum ∙ sym c.first-in-Unopened.ensures.start)
            (subst IsSum (sym c.first-in-Unopened.ensures.start) one_is_sum);
        file = opened_head c.args.servers c.requires.some (g.D.Device.seen c.args.device.now)
            (g.D.Device.seen c.read.new.self) c.read.ensures.seen found.0 (g.D.Device.seen c.set_commit_byte.new.device)
            c.in_ok-set_commit_byte-in-Unopened.ensures.open
            ∙ ap (λ (n : ℕ). at_rest (holdings n c.args.servers [])) (sym c.first-in-Unopened.ensures.start);
        durable = c.in_ok-set_commit_byte-in-Unopened.ensures.durable;
      },
    )

pub returns-in_err-make-in-Unmade-clause-any_moment : goal.returns-in_err-make-in-Unmade-clause-any_moment
returns-in_err-make-in-Unmade-clause-any_moment g c batches stands =
    let found = found_of c.args.servers c.deref.result.now (g.D.Device.seen c.args.device.now) c.in_ok-look.field-0 Unmade
    (c.deref.ensures.value ∙ c.in_ok-bytes.ensures.bytes) c.in-Unmade.is c.in_ok-look.ensures.ok in
    unmade_leaves g.D.Device.seen g.D.Device.may_leave g.D.Device.moment g.D.Device.left_since c.args.device.now
    c.read.new.self c.requires.durable (g.met.D.Device.only_now c.args.device.now)
    c.read.ensures.crash c.read.ensures.time c.read.ensures.seen c.args.servers batches stands
    found c.make.new.device c.make.ensures.any_moment

pub returns-in-Unmade-clause-any_moment : goal.returns-in-Unmade-clause-any_moment
returns-in-Unmade-clause-any_moment g c batches stands =
    let found = found_of c.args.servers c.deref.result.now (g.D.Device.seen c.args.device.now) c.in_ok-look.field-0 Unmade
    (c.deref.ensures.value ∙ c.in_ok-bytes.ensures.bytes) c.in-Unmade.is c.in_ok-look.ensures.ok in
    unmade_leaves g.D.Device.seen g.D.Device.may_leave g.D.Device.moment g.D.Device.left_since c.args.device.now
    c.read.new.self c.requires.durable (g.met.D.Device.only_now c.args.device.now)
    c.read.ensures.crash c.read.ensures.time c.read.ensures.seen c.args.servers batches stands
    found c.make.new.device c.make.ensures.any_moment

pub returns-in_err-set_commit_byte-in-Unopened-clause-any_moment : goal.returns-in_err-set_commit_byte-in-Unopened-clause-any_moment
returns-in_err-set_commit_byte-in-Unopened-clause-any_moment g c batches stands =
    let found = found_of c.args.servers c.deref.result.now (g.D.Device.seen c.args.device.now) c.in_ok-look.field-0 Unopened
    (c.deref.ensures.value ∙ c.in_ok-bytes.ensures.bytes) c.in-Unopened.is c.in_ok-look.ensures.ok in
    unopened_leaves g.D.Device.seen g.D.Device.may_leave g.D.Device.moment g.D.Device.left_since c.args.device.now
    c.read.new.self c.requires.durable (g.met.D.Device.only_now c.args.device.now)
    c.read.ensures.crash c.read.ensures.time c.read.ensures.seen c.args.servers batches stands
    c.requires.some found.0 c.set_commit_byte.new.device c.set_commit_byte.ensures.any_moment

pub returns-in-Unopened-clause-any_moment : goal.returns-in-Unopened-clause-any_moment
returns-in-Unopened-clause-any_moment g c batches stands =
    let found = found_of c.args.servers c.deref.result.now (g.D.Device.seen c.args.device.now) c.in_ok-look.field-0 Unopened
    (c.deref.ensures.value ∙ c.in_ok-bytes.ensures.bytes) c.in-Unopened.is c.in_ok-look.ensures.ok in
    unopened_leaves g.D.Device.seen g.D.Device.may_leave g.D.Device.moment g.D.Device.left_since c.args.device.now
    c.read.new.self c.requires.durable (g.met.D.Device.only_now c.args.device.now)
    c.read.ensures.crash c.read.ensures.time c.read.ensures.seen c.args.servers batches stands
    c.requires.some found.0 c.set_commit_byte.new.device c.set_commit_byte.ensures.any_moment

pub returns-in_err-close_if_open-in-Cached-clause-any_moment : goal.returns-in_err-close_if_open-in-Cached-clause-any_moment
returns-in_err-close_if_open-in-Cached-clause-any_moment g c batches stands =
    let found = found_of c.args.servers c.deref.result.now (g.D.Device.seen c.args.device.now) c.in_ok-look.field-0
    (Cached c.in-Cached.text c.in-Cached.place)
    (c.deref.ensures.value ∙ c.in_ok-bytes.ensures.bytes) c.in-Cached.is c.in_ok-look.ensures.ok in
    kept_leaves g.D.Device.seen g.D.Device.may_leave g.D.Device.moment g.D.Device.left_since c.args.device.now
    c.read.new.self c.requires.durable (g.met.D.Device.only_now c.args.device.now)
    c.read.ensures.crash c.read.ensures.time c.read.ensures.seen c.args.servers batches stands
    found.0 c.in-Cached.place found.1 c.close_if_open.new.device c.close_if_open.ensures.any_moment

pub returns-clause-any_moment : goal.returns-clause-any_moment
returns-clause-any_moment g c batches stands =
    let found = found_of c.args.servers c.deref.result.now (g.D.Device.seen c.args.device.now) c.in_ok-look.field-0
    (Cached c.in-Cached.text c.in-Cached.place)
    (c.deref.ensures.value ∙ c.in_ok-bytes.ensures.bytes) c.in-Cached.is c.in_ok-look.ensures.ok in
    kept_leaves g.D.Device.seen g.D.Device.may_leave g.D.Device.moment g.D.Device.left_since c.args.device.now
    c.read.new.self c.requires.durable (g.met.D.Device.only_now c.args.device.now)
    c.read.ensures.crash c.read.ensures.time c.read.ensures.seen c.args.servers batches stands
    found.0 c.in-Cached.place found.1 c.close_if_open.new.device c.close_if_open.ensures.any_moment

pub returns-clause-read : goal.returns-clause-read
returns-clause-read g c =
    let found = found_of c.args.servers c.deref.result.now (g.D.Device.seen c.args.device.now) c.in_ok-look.field-0
    (Cached c.in-Cached.text c.in-Cached.place)
    (c.deref.ensures.value ∙ c.in_ok-bytes.ensures.bytes) c.in-Cached.is c.in_ok-look.ensures.ok in
    let rests = closed_stands c.args.servers found.0 c.in-Cached.place (g.D.Device.seen c.args.device.now)
    (g.D.Device.seen c.read.new.self) c.read.ensures.seen found.1 in
    let closed : g.D.Device.seen c.close_if_open.new.device ≡ take c.in-Cached.place.end (g.D.Device.seen c.read.new.self) ++ 0 ∷ [] = search rules in (
      found.0,
      inl (keeps c.args.servers found.0 (g.D.Device.seen c.args.device.now) c.in-Cached.place found.1),
      record {
        texts = found.1.texts;
        text_is = found.2;
        is_place = found.1.is_place;
        file = rests (g.D.Device.seen c.close_if_open.new.device) closed;
        durable = c.in_ok-close_if_open-in-Cached.ensures.durable;
      },
    )

pub returns-in-Unmade-clause-start : goal.returns-in-Unmade-clause-start
returns-in-Unmade-clause-start g c batches k =
    let found = found_of c.args.servers c.deref.result.now (g.D.Device.seen c.args.device.now) c.in_ok-look.field-0 Unmade
    (c.deref.ensures.value ∙ c.in_ok-bytes.ensures.bytes) c.in-Unmade.is c.in_ok-look.ensures.ok in
    absurd (kept_is_made c.args.servers (g.D.Device.seen c.args.device.now) batches k (inl found))

pub returns-in-Unopened-clause-start : goal.returns-in-Unopened-clause-start
returns-in-Unopened-clause-start g c batches k =
    let found = found_of c.args.servers c.deref.result.now (g.D.Device.seen c.args.device.now) c.in_ok-look.field-0 Unopened
    (c.deref.ensures.value ∙ c.in_ok-bytes.ensures.bytes) c.in-Unopened.is c.in_ok-look.ensures.ok in
    absurd (kept_is_made c.args.servers (g.D.Device.seen c.args.device.now) batches k (inr found.0))

pub returns-clause-start : goal.returns-clause-start
returns-clause-start g c batches k =
    let found = found_of c.args.servers c.deref.result.now (g.D.Device.seen c.args.device.now) c.in_ok-look.field-0
    (Cached c.in-Cached.text c.in-Cached.place)
    (c.deref.ensures.value ∙ c.in_ok-bytes.ensures.bytes) c.in-Cached.is c.in_ok-look.ensures.ok in
    found_start c.args.servers batches found.0 c.in-Cached.place (g.D.Device.seen c.args.device.now) k found.1

pub returns-in-Unopened-clause-new_start : goal.returns-in-Unopened-clause-new_start
returns-in-Unopened-clause-new_start g c unmade =
    let found = found_of c.args.servers c.deref.result.now (g.D.Device.seen c.args.device.now) c.in_ok-look.field-0 Unopened
    (c.deref.ensures.value ∙ c.in_ok-bytes.ensures.bytes) c.in-Unopened.is c.in_ok-look.ensures.ok in
    absurd (found.1 unmade)

pub returns-clause-new_start : goal.returns-clause-new_start
returns-clause-new_start g c unmade =
    let found = found_of c.args.servers c.deref.result.now (g.D.Device.seen c.args.device.now) c.in_ok-look.field-0
    (Cached c.in-Cached.text c.in-Cached.place)
    (c.deref.ensures.value ∙ c.in_ok-bytes.ensures.bytes) c.in-Cached.is c.in_ok-look.ensures.ok in
    absurd (kept_is_made c.args.servers (g.D.Device.seen c.args.device.now) found.0
    (keeps c.args.servers found.0 (g.D.Device.seen c.args.device.now) c.in-Cached.place found.1) (inl unmade))

pub returns-in_err-look-clause-fault : goal.returns-in_err-look-clause-fault
returns-in_err-look-clause-fault g c =
    let p = err_from_is_err_and c.from_residual-in_err-look.result c.from_residual-in_err-look.ensures.1 in
    rw (p.1, p.2, sym (c.deref.ensures.value ∙ c.in_ok-bytes.ensures.bytes)) c.in_err-look.ensures.err
