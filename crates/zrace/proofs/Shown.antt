-- What the record of a client shows stays there.
use Rattle.std.proofs.Common.{◌≡◌, ◌≢◌, ◌<◌, ◌++◌, ◌∷◌, ◌||◌, [], ℕ, zero, suc, Bool, true, false, true≢false, Option, None, Some, List, length}
use Rattle.std.proofs.Common.{get_or, is_some, map, set, refl, sym, ap, subst, ◌∙◌, ⊎_elim, arith}
use Rattle.std.specs.Prelude.{All, IsNone}
use Rattle.std.specs.List.{list_any}
use mathlib.Core.Logic.{∥∥₁_elim, ∥∥₁_map, ∥∥₁_prop}
use Rattle.std.proofs.lemmas.Bool.{cases_eq}
use Rattle.std.proofs.lemmas.List.{get_or-set_same, get_or-set_other}
use Rattle.std.proofs.lemmas.List.Elements.{All-head, All-tail, All-weaker}
use Rattle.ztree.proofs.Maps.{same_some}
use Rattle.zprotocol.specs.declared.traces.trace.ClientTrace.{ClientTrace}
use Rattle.zprotocol.specs.declared.traces.trace.Trace.{Trace}
use Rattle.zprotocol.specs.declared.traces.trace.Traces.{Traces}
use Rattle.zprotocol.specs.traces.Traces.{client_count}
use Rattle.zprotocol.specs.traces.Audit.{is_any_cut}
use Rattle.zprotocol.specs.traces.Lawful.{AreLawful}
use Rattle.zprotocol.specs.world.History.{History}
use Rattle.zprotocol.proofs.world_lemmas.Among.{among_first}
use Rattle.zthreads.specs.Endpoints.{is_cut_of, seen_of}
use Rattle.zthreads.proofs.Endings.{neither}
use Rattle.zrun.specs.declared.client.Client.{Client}
use Rattle.zrun.specs.declared.clients.Clients.{Clients}
use Rattle.zrun.specs.Clients.{client_endpoint, number_of}
use Rattle.zrun.specs.Members.{AreReported, client_at, is_cut_client, IsReported}
use Rattle.zrace.specs.Cached.{IsKeptBehind}
use Rattle.zrace.specs.Records.{AreInRecords}
use Rattle.zrace.specs.Shown.{AreShownAmong, Continues, IsShown, IsShownAmong, IsShownBy}
use Rattle.zrace.proofs.Cached.{all_kept}
use Rattle.zrace.proofs.Own.{own_shown}

-- a longer record shows it too
longer : (node version : ℕ) (history rest : History) → IsShown node version history → IsShown node version (history ++ rest)
longer node version history rest r = (
  r.0,
  r.1,
  r.2,
  r.3,
  (r.4.0, among_first _ history rest r.4.1),
  (r.5.0, among_first _ history rest r.5.1),
  r.6,
)

pub still_recorded : (a b : Client) (node version : ℕ) → Continues a b → IsShownBy a node version → IsShownBy b node version
still_recorded a b node version goes recorded whole =
    let g = goes whole in
    ∥∥₁_map (recorded g.0) (λ r.
    subst (λ (h : History). IsShown node version h) (sym g.2) (longer node version (seen_of (client_endpoint a)) g.1 r))

pub all_still_recorded : (a b : Client) (seen : List (ℕ × ℕ)) → Continues a b → All (λ it. IsShownBy a it.0 it.1) seen
    → All (λ it. IsShownBy b it.0 it.1) seen
all_still_recorded a b seen goes all =
    All-weaker (λ (it : ℕ × ℕ). IsShownBy a it.0 it.1) (λ (it : ℕ × ℕ). IsShownBy b it.0 it.1)
    (λ it has. still_recorded a b it.0 it.1 goes has) seen all

-- the two together, where the one is appended to the others
pub all_recorded_now : (a b : Client) (old new : List (ℕ × ℕ)) (node version : ℕ) → Continues a b → IsShownBy b node version
    → IsKeptBehind old new (node, version) → All (λ it. IsShownBy a it.0 it.1) old → All (λ it. IsShownBy b it.0 it.1) new
all_recorded_now a b old new node version goes recorded kept all =
    all_kept (λ (it : ℕ × ℕ). IsShownBy b it.0 it.1) old new (node, version) kept (all_still_recorded a b old goes all) recorded

-- one more version is noted
pub one_recorded : (cs : Clients) (versions : List (Option ℕ)) (place version : ℕ) → place < length versions
    → AreShownAmong cs versions → IsShownAmong cs place version → AreShownAmong cs (set versions place (Some version))
one_recorded cs versions place version below recorded one node v is =
    ⊎_elim
    (λ (here : node ≡ place).
    let at : get_or (set versions place (Some version)) node None ≡ Some version =
    ap (λ m. get_or (set versions place (Some version)) m None) here ∙ get_or-set_same versions place (Some version) None below in
    let same : version ≡ v = same_some version v (sym at ∙ is) in
    subst (λ (w : ℕ × ℕ). IsShownAmong cs w.0 w.1) (λ k. (sym here k, same k)) one)
    (λ (other : node ≢ place). recorded node v (sym (get_or-set_other versions place node (Some version) None other) ∙ is))
    (cases_eq node place)

-- where no version is known, none is another than is recorded
none_there : (versions : List (Option ℕ)) (node version : ℕ) → All IsNone versions → get_or versions node None ≡ Some version → ⊥
none_there [] node version none is = true≢false (sym (ap is_some is))
none_there (x ∷ xs) zero version none is = true≢false (sym (ap is_some is) ∙ All-head IsNone x xs none)
none_there (x ∷ xs) (suc node) version none is = none_there xs node version (All-tail IsNone x xs none) is

pub none_recorded : (cs : Clients) (versions : List (Option ℕ)) → All IsNone versions → AreShownAmong cs versions
none_recorded cs versions none node version is = absurd (none_there versions node version none is)

-- a client is put back where none was
module _ (old new : Clients) (c : Client) (free : is_some (client_at old (number_of c)) ≡ false)
    (others : (i : ℕ) → i ≢ number_of c → client_at new i ≡ client_at old i) (back : client_at new (number_of c) ≡ Some c) where
  one_put : (node version : ℕ) → IsShownAmong old node version → IsShownAmong new node version
  one_put node version recorded = ∥∥₁_map recorded (λ r. (
    r.0,
    r.1,
    others r.0 (λ here. true≢false (ap is_some (sym r.2 ∙ ap (λ k. client_at old k) here) ∙ free)) ∙ r.2,
    r.3,
  ))

  pub all_put : (versions : List (Option ℕ)) → AreShownAmong old versions → AreShownAmong new versions
  all_put versions recorded node version is = one_put node version (recorded node version is)

  pub mine_put : (seen : List (ℕ × ℕ)) → All (λ it. IsShownBy c it.0 it.1) seen → All (λ it. IsShownAmong new it.0 it.1) seen
  mine_put seen all =
      All-weaker (λ (it : ℕ × ℕ). IsShownBy c it.0 it.1) (λ (it : ℕ × ℕ). IsShownAmong new it.0 it.1)
      (λ it has. ∣ (number_of c, c, back, has) ∣₁) seen all

-- none is cut where none of all is
none_cut : (clients : List ClientTrace) (i : ℕ) → list_any (λ (client : ClientTrace). client.trace.is_cut) clients ≡ false
    → get_or (map (λ (client : ClientTrace). client.trace.is_cut) clients) i false ≡ false
none_cut [] i none = refl
none_cut (x ∷ xs) zero none = (neither x.trace.is_cut (list_any (λ (client : ClientTrace). client.trace.is_cut) xs) none).0
none_cut (x ∷ xs) (suc i) none = none_cut xs i (neither x.trace.is_cut (list_any (λ (client : ClientTrace). client.trace.is_cut) xs) none).1

uncut : (a b : Bool) → (a ≡ true → b ≡ true) → b ≡ false → a ≡ false
uncut true b cuts none = absurd (true≢false (sym (cuts refl) ∙ none))
uncut false b cuts none = refl

-- who is at a position is within the list
below_all : (places : List (Option Client)) (i : ℕ) (c : Client) → get_or places i None ≡ Some c → i < length places
below_all [] i c at = absurd (true≢false (ap is_some (sym at)))
below_all (p ∷ places) zero c at = omega arith
below_all (p ∷ places) (suc i) c at = let lt = below_all places i c at in omega (arith, lt)

-- what clients have recorded is in the records of the run
pub in_records : (t : Traces) (n : ℕ) (cs : Clients) (versions : List (Option ℕ)) → length cs.places.items ≡ n → client_count t ≡ n
    → (is_any_cut t ≡ false → ∥ AreLawful t ∥₁) → AreReported n t cs → AreShownAmong cs versions → AreInRecords t versions
in_records t n cs versions many count lawful reported recorded whole node version is =
    let servers = list_any (λ (trace : Trace). trace.is_cut) t.servers.items in
    let clients = list_any (λ (client : ClientTrace). client.trace.is_cut) t.clients.items in
    let none = (neither servers clients (neither t.master.is_cut (servers || clients) whole).1).1 in
    ∥∥₁_elim (lawful whole) ∥∥₁_prop (λ l.
    ∥∥₁_elim (recorded node version is) ∥∥₁_prop (λ r.
    let lt : r.0 < n = subst (λ m. r.0 < m) many (below_all cs.places.items r.0 r.1 r.2) in
    let there = subst (λ (p : Option Client). IsReported t r.0 p) r.2 (reported r.0 lt) in
    let whole_there = uncut (is_cut_of (client_endpoint r.1)) (is_cut_client t r.0) there.2 (none_cut t.clients.items r.0 none) in
    ∥∥₁_map (r.3 whole_there) (λ shown. (
      r.0,
      subst (λ m. r.0 < m) (sym count) lt,
      own_shown t l r.0 node version (subst (λ (h : History). IsShown node version h) (sym there.1) shown),
    ))))
