-- What a greeting does: its own connection may get a session, and the others are as they were.
use Rattle.std.proofs.Common.{◌≡◌, ◌≢◌, inl, inr, ◌∙◌, ℕ, ℤ, Bool, true, false, List, [], ◌∷◌, ◌++◌, drop, Option, None, Some, Result, Ok}
use Rattle.std.proofs.Common.{Err, refl, sym, ap, subst}
use Rattle.std.specs.Prelude.{pos, negsuc, nat_eq, if◌then◌else◌}
use Rattle.std.proofs.lemmas.Bool.Decides.{Decides-int_eq}
use Rattle.std.specs.Cmp.{unsigned_Decides}
use Rattle.std.specs.Cmp.Lexicographic.{pointwise_decides}
use Rattle.std.specs.FinMap.{get}
use Rattle.std.specs.Option.{option_map_or}
use Rattle.std.specs.Ordering.{int_eq}
use lib.Pointwise.{pointwise}
use Rattle.ztree.proofs.Maps.{is_there}
use Rattle.ztree.specs.declared.session.Session.{Session}
use Rattle.zcodec.specs.Readers.{whole}
use Rattle.zcodec.specs.declared.fault.Fault.{Fault}
use Rattle.zcalls.specs.declared.reply.Reply.{Reply}
use Rattle.zcalls.specs.declared.reply.Reply.TheVariants as reply
use Rattle.zjute.specs.Connecting.{connect_request}
use Rattle.zjute.specs.declared.connecting.ConnectRequest.{ConnectRequest}
use Rattle.zrequests.specs.Timeouts.{millis_reported}
use Rattle.zpasswords.specs.Passwords.{password_of}
use Rattle.zconnections.specs.declared.buffers.phase.Phase.{Phase}
use Rattle.zconnections.specs.declared.buffers.phase.Phase.TheVariants.{Silent, Speaking, Closing}
use Rattle.zconnections.specs.buffers.Streams.{phase_of, with_phase}
use Rattle.zconnections.specs.attachments.Attachments.{AttachmentsView}
use Rattle.zprotocol.specs.world.PlainTree.{serve}
use Rattle.zconnections.proofs.Closed.{nothing_behind}
use Rattle.zconnections.specs.Tables.{TablesView, may_send, is_open, chunk, sent, with_chunk, closed, moved, attachment, taken_up}
use Rattle.zresponses.specs.effects.Greeting.{session_reported, turned_away, given, came_back, is_ahead}
use Rattle.zresponses.specs.Stats.{told}
use Rattle.zfront.specs.Front.{FrontView, with_tables}
use Rattle.zfront.specs.Greeting.{opening, opened, with_session, returned, greeted_by, greeted}
use Rattle.zfront_laws.specs.Given.{Gains}
use Rattle.zfront_laws.proofs.Changes as changes
use Rattle.zfront_laws.proofs.Quiet.{Quiet, StaysOpen, carries_quiet, moves_quiet, row_elsewhere, was_in}
use Rattle.zfront_laws.proofs.Seated.{phase_here}

-- a connection neither waits for its greeting nor speaks
abbrev pub IsShut : TablesView → ℕ → Type 0
IsShut t c = is_open t c ≡ false

-- a chunk more makes them longer
one_more : {A : Type 0} (xs : List A) (x : A) → xs ++ x ∷ [] ≡ xs → ⊥
one_more [] x is = cc
one_more (y ∷ xs) x is = one_more xs x (ap (drop 1) is)

-- a connection that was closed is shut, since nothing is sent after its last chunk
pub shuts : (c : ℕ) (t : TablesView) → IsShut (closed c t) c
shuts c t = by (is_open u c) refl (nothing_behind c [] t)
  where
    u : TablesView
    u = closed c t

    by : (b : Bool) → is_open u c ≡ b → (if b then with_chunk (chunk c []) u else u) ≡ u → is_open u c ≡ false
    by false is same = is
    by true is same = absurd (one_more u.unsent (chunk c []) (ap (λ (v : TablesView). v.unsent) same))

pub shut_silent : (t : TablesView) (c : ℕ) → IsShut t c → phase_of t.streams c ≡ Some Silent → ⊥
shut_silent t c shut is =
    let clash : true ≡ false = sym (ap may_send is) ∙ shut in
    cc

pub shut_speaks : (t : TablesView) (c session : ℕ) → IsShut t c → phase_of t.streams c ≡ Some (Speaking session) → ⊥
shut_speaks t c session shut is =
    let clash : true ≡ false = sym (ap may_send is) ∙ shut in
    cc

abbrev pub NotSilent : ℕ → TablesView → Type 0
NotSilent c t = phase_of t.streams c ≡ Some Silent → ⊥

pub speaks_on : (session : ℕ) → Speaking session ≡ Closing → ⊥
speaks_on session is = cc

pub silent_on : Silent ≡ Closing → ⊥
silent_on is = cc

not_silent : (session : ℕ) → Speaking session ≡ Silent → ⊥
not_silent session is = cc

same_session : (session other : ℕ) → Speaking session ≡ Speaking other → session ≡ other
same_session session other is = cc

-- a frame gives its connection a session
abbrev pub GainsBy : List ℕ → ℕ → FrontView → Type 0
GainsBy frame session v = (greeting : ConnectRequest) × (whole connect_request frame ≡ Ok greeting) × Gains session greeting v

-- what becomes of a greeting
pub record Becomes (frame : List ℕ) (c : ℕ) (old : FrontView) (new : TablesView) : Type 0 where
  pub others : (d : ℕ) → d ≢ c → StaysOpen old.tables.streams new.streams d
  pub heard : NotSilent c new
  pub gains : (session : ℕ) → phase_of new.streams c ≡ Some (Speaking session) → GainsBy frame session old

-- its connection is shut
shut_becomes : (frame : List ℕ) (c : ℕ) (old : FrontView) (new : TablesView) → Quiet old.tables new → IsShut new c → Becomes frame c old new
shut_becomes frame c old new calm shut = record {
  others = λ d other. calm d;
  heard = shut_silent new c shut;
  gains = λ session speaks. absurd (shut_speaks new c session shut speaks);
}

closes : (frame : List ℕ) (c : ℕ) (v : FrontView) → Becomes frame c v (closed c v.tables)
closes frame c v = shut_becomes frame c v (closed c v.tables) (carries_quiet.closes c v.tables) (shuts c v.tables)

turns_away : (frame : List ℕ) (greeting : ConnectRequest) (c : ℕ) (v : FrontView) → Becomes frame c v (turned_away greeting c v.tables)
turns_away frame greeting c v = shut_becomes frame c v (turned_away greeting c v.tables) (changes.says Quiet carries_quiet c _ v.tables) (shuts c _)

-- its connection speaks for a session now, and is sent it
module _ (frame : List ℕ) (session c : ℕ) (bytes : List ℕ) (v : FrontView) (u : TablesView) (m : AttachmentsView) where
  abbrev speaking : TablesView
  speaking = record u { streams = with_phase u.streams c (Speaking session); attachments = m }

  last : Quiet speaking (sent c bytes speaking)
  last = changes.sends Quiet carries_quiet c bytes speaking

  speaks_here : (p : Phase) → (p ≡ Closing → ⊥) → phase_of (sent c bytes speaking).streams c ≡ Some p → Speaking session ≡ p
  speaks_here p going is =
      (phase_here (λ s. record s { phase = Speaking session }) u.streams c p
      (was_in speaking.streams (sent c bytes speaking).streams c p (last c) going is)).2

  speaks : Quiet v.tables u → GainsBy frame session v → Becomes frame c v (sent c bytes speaking)
  speaks first gains = record {
    others = λ d other row there going.
        let before = last d row there going in
        first d row (sym (row_elsewhere (λ s. record s { phase = Speaking session }) u.streams c d other) ∙ before) going;
    heard = λ silent. not_silent session (speaks_here Silent silent_on silent);
    gains = λ other has.
        let is = same_session session other (speaks_here (Speaking other) (speaks_on other) has) in
        subst (λ n. GainsBy frame n v) is gains;
  }

-- ---- it comes back

returns : (frame : List ℕ) (greeting : ConnectRequest) (id : ℤ) (c : ℕ) (v : FrontView) → whole connect_request frame ≡ Ok greeting
    → greeting.session_id ≡ id → Becomes frame c v (returned greeting id c v)
returns frame greeting (negsuc n) c v spelled names = turns_away frame greeting c v
returns frame greeting (pos session) c v spelled names = by (get v.tree.sessions session) refl
  where
    password : List ℕ
    password = password_of v.secret session

    there_by : (s : Session) → get v.tree.sessions session ≡ Some s → (b : Bool) → pointwise nat_eq (given greeting) password ≡ b
        → Becomes frame c v (if b then session_reported greeting session (millis_reported v.clock.terms.tick s.timeout) password c (taken_up session c v.tables)
        else turned_away greeting c v.tables)
    there_by s there true passes =
        let u = moved session v.tables in
        let whole_password = (pointwise_decides unsigned_Decides (given greeting) password).0 passes in
        speaks frame session c _ v u (taken_up session c v.tables).attachments (moves_quiet session v.tables)
        (greeting, spelled, inr (names, is_there (get v.tree.sessions session) s there, whole_password))
    there_by s there false fails = turns_away frame greeting c v

    by : (o : Option Session) → get v.tree.sessions session ≡ o → Becomes frame c v
        (option_map_or (λ s. came_back v.clock.terms.tick greeting session s.timeout password c v.tables) o (turned_away greeting c v.tables))
    by None is = turns_away frame greeting c v
    by (Some s) is = there_by s is (pointwise nat_eq (given greeting) password) refl

-- ---- it opens a session

opens : (frame : List ℕ) (greeting : ConnectRequest) (c : ℕ) (v : FrontView) → whole connect_request frame ≡ Ok greeting
    → greeting.session_id ≡ pos 0 → Becomes frame c v (with_session greeting c v).tables
opens frame greeting c v spelled asks = by (serve v.tree 0 (opening v.clock.terms.tick greeting)).1 refl
  where
    by : (reported : Reply) → (serve v.tree 0 (opening v.clock.terms.tick greeting)).1 ≡ reported
        → Becomes frame c v (opened v.clock.terms.tick v.secret greeting c (reported ∷ []) v.tables)
    by (reply.Opened session ticks) is =
        speaks frame session c _ v v.tables (attachment session c v.tables).attachments (carries_quiet.none v.tables)
        (greeting, spelled, inl (asks, ticks, is))
    by other is = closes frame c v

-- ---- any greeting

greets_by : (read : Result ConnectRequest Fault) (frame : List ℕ) (c : ℕ) (v : FrontView) → whole connect_request frame ≡ read
    → Becomes frame c v (greeted_by read c v).tables
greets_by (Err fault) frame c v spelled = closes frame c v
greets_by (Ok greeting) frame c v spelled = by (is_ahead (told v.clock.base v.tree.zxid) greeting) (int_eq greeting.session_id (pos 0)) refl
  where
    by : (ahead is_new : Bool) → int_eq greeting.session_id (pos 0) ≡ is_new → Becomes frame c v
        (if ahead then with_tables (closed c v.tables) v else if is_new then with_session greeting c v
        else with_tables (returned greeting greeting.session_id c v) v).tables
    by true is_new is = closes frame c v
    by false true is = opens frame greeting c v spelled ((Decides-int_eq greeting.session_id (pos 0)).0 is)
    by false false is = returns frame greeting greeting.session_id c v spelled refl

pub greets : (frame : List ℕ) (c : ℕ) (v : FrontView) → Becomes frame c v (greeted frame c v).tables
greets frame c v = greets_by (whole connect_request frame) frame c v refl
