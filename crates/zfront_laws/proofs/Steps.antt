-- What a server's steps preserve: the log continues, few bytes are stored, and seats are in order.
-- What was made remains until it is taken.
use Rattle.std.proofs.Common.{◌≡◌, ◌∙◌, ℕ, ◌≤◌, true, List, [], ◌∷◌, ◌++◌, refl, sym, ap, subst, arith, append_assoc}
use Rattle.std.proofs.lemmas.List.{append-nil, map-append}
use Rattle.std.specs.FinMap.{contains_key, get}
use Rattle.ztree.proofs.Maps.{has_some}
use Rattle.zcalls.specs.declared.call.Call.{Call}
use Rattle.zcalls.specs.declared.call.Call.TheVariants as call
use Rattle.zcalls.specs.declared.call.Update.{Update}
use Rattle.zcalls.specs.declared.reply.Reply.{Reply}
use Rattle.zconnections.specs.buffers.Streams.{held_of}
use Rattle.zprotocol.specs.world.FromTree.{CanStart}
use Rattle.ztree_service.specs.log.Logs.{Log, Leads, calls_of}
use Rattle.ztree_service.proofs.log_lemmas.Incarnations.{leads_more, leads_nowhere}
use Rattle.zconnections.specs.Tables.{TablesView}
use Rattle.zfront.specs.declared.limits.TheConstants.{MAX_KEPT}
use Rattle.zfront.specs.Front.{FrontView, with_tables, updates_among}
use Rattle.zfront.specs.Restoring.{all_taken}
use Rattle.zfront_laws.specs.Making.{updates_in}
use Rattle.zfront_laws.specs.Runs.{KeepsFew}
use Rattle.zfront_laws.specs.Seats.{IsSeated}
use Rattle.zfront_laws.proofs.Seated.{Has}
use Rattle.zfront_laws.proofs.Cached.{Cached}
use Rattle.zfront_laws.proofs.Lighter.{Lighter, unmoved}

-- each connection that speaks for a session has its seat, each session with an attachment is one of
-- the tree, and a service can begin with this tree
pub record Fine (v : FrontView) : Type 0 where
  pub seated : IsSeated v.tables
  pub alive : (id : ℕ) → Has v.tables.attachments id → contains_key v.tree.sessions id ≡ true
  pub can : CanStart v.tree

-- so no session with an attachment is newer than the tree
pub below : (v : FrontView) → Fine v → (id : ℕ) → Has v.tables.attachments id → id ≤ v.tree.zxid
below v fine id has =
    let s = has_some (get v.tree.sessions id) (fine.alive id has) in
    (fine.can.granted id s.0 s.1).before

-- the same tree, and tables whose seats are preserved
pub seats_kept : (t : TablesView) (v : FrontView) → Cached v.tables t → Fine v → Fine (with_tables t v)
seats_kept t v kept fine = record { seated = kept.0 fine.seated; alive = λ id has. fine.alive id (kept.1 id has); can = fine.can }

-- the secret, the clock and whether updates are recorded stay
abbrev pub Alike : FrontView → FrontView → Type 0
Alike old new = (new.secret ≡ old.secret) × (new.clock ≡ old.clock) × (new.is_kept ≡ old.is_kept)

-- a step with this log, at which these updates are taken
pub record Goes (took : List Update) (log : Log) (old new : FrontView) : Type 0 where
  pub leads : Leads old.tree log new.tree
  pub few : KeepsFew old → KeepsFew new
  pub seats : Fine old → Fine new
  pub alike : Alike old new
  pub made : old.is_kept ≡ true → old.made ++ updates_in log ≡ took ++ new.made

-- ---- one step after another

among_both : (calls more : List Call) → updates_among (calls ++ more) ≡ updates_among calls ++ updates_among more
among_both [] more = refl
among_both (call.Update update ∷ calls) more = ap (λ updates. update ∷ updates) (among_both calls more)
among_both (call.Query query ∷ calls) more = among_both calls more

pub updates_both : (log more : Log) → updates_in (log ++ more) ≡ updates_in log ++ updates_in more
updates_both log more =
    ap updates_among (map-append (λ (reported : Call × Reply). reported.0) log more) ∙ among_both (calls_of log) (calls_of more)

all_made : (left one two took rest middle last : List Update) → left ++ one ≡ took ++ middle → middle ++ two ≡ rest ++ last
    → left ++ (one ++ two) ≡ (took ++ rest) ++ last
all_made left one two took rest middle last first second =
    sym (append_assoc left one two) ∙ ap (λ made. made ++ two) first ∙ append_assoc took middle two ∙ ap (λ made. took ++ made) second
    ∙ sym (append_assoc took rest last)

pub both : {took rest : List Update} {log more : Log} {old middle new : FrontView} → Goes took log old middle → Goes rest more middle new
    → Goes (took ++ rest) (log ++ more) old new
both {took} {rest} {log} {more} {old} {middle} {new} one two = record {
  leads = leads_more old.tree middle.tree new.tree log more one.leads two.leads;
  few = λ few. two.few (one.few few);
  seats = λ fine. two.seats (one.seats fine);
  alike = (two.alike.0 ∙ one.alike.0, two.alike.1 ∙ one.alike.1, two.alike.2 ∙ one.alike.2);
  made = λ kept.
      ap (λ updates. old.made ++ updates) (updates_both log more)
      ∙ all_made old.made (updates_in log) (updates_in more) took rest middle.made new.made (one.made kept) (two.made (one.alike.2 ∙ kept));
}

-- after a step no more calls are made
pub then_none : {log : Log} {old middle new : FrontView} → Goes [] log old middle → Goes [] [] middle new → Goes [] log old new
then_none {log} {old} {middle} {new} one two = subst (λ l. Goes [] l old new) (append-nil log) (both one two)

-- ---- steps without calls

-- the tables are others
pub tables_change : (t : TablesView) (v : FrontView) → (KeepsFew v → held_of t.streams ≤ MAX_KEPT) → (Fine v → Fine (with_tables t v))
    → Goes [] [] v (with_tables t v)
tables_change t v few seats = record {
  leads = leads_nowhere v.tree;
  few = few;
  seats = seats;
  alike = (refl, refl, refl);
  made = λ keeps. append-nil v.made;
}

pub retabled : (t : TablesView) (old new : FrontView) → new ≡ with_tables t old → Lighter old.tables t → Goes [] [] old new
retabled t old new is light =
    subst (Goes [] [] old) (sym is) (tables_change t old (λ few. omega (arith, light.0, few)) (seats_kept t old light.1))

-- nothing at all
pub same : (old new : FrontView) → new ≡ old → Goes [] [] old new
same old new is = retabled old.tables old new is (unmoved old.tables)

-- what was made is taken
pub takes : (old new : FrontView) → new ≡ all_taken old → Goes old.made [] old new
takes old new is = subst (Goes old.made [] old) (sym is) (record {
  leads = leads_nowhere old.tree;
  few = λ few. few;
  seats = λ fine. record { seated = fine.seated; alive = fine.alive; can = fine.can };
  alike = (refl, refl, refl);
  made = λ keeps. refl;
})
