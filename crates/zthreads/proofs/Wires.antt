-- One link of many changes.
use Rattle.std.proofs.Common.{◌+◌, ◌≡◌, ◌≢◌, ◌==◌, ◌<◌, ◌≤◌, ◌-◌, ℕ, zero, suc, Bool, true, false, if◌then◌else◌, List}
use Rattle.std.proofs.Common.{[], ◌∷◌, ◌++◌, Some, None, map, length, set, get_or, sym, refl, ap, ◌∙◌, subst, ⊎_elim}
use Rattle.std.proofs.Common.{ne_eqb, nat_le, append-nil, append_assoc, length-set, arith}
use Rattle.std.proofs.lemmas.Bool.Decides.{nat_tests}
use Rattle.zprotocol.specs.declared.limits.TheConstants.{MAX_SERVERS}
use mathlib.Core.Option.{some, some-ne-none}
use lib.ListN.{get_elem?}
use Rattle.atomic_table.proofs.Lists.{at_set}
use Rattle.zprotocol.specs.declared.process.Process.{Process}
use Rattle.zprotocol.specs.declared.process.Process.TheVariants.{Master, Server, Client}
use Rattle.zprotocol.specs.world.Links.{is_same, messages_to}
use Rattle.zprotocol.proofs.world_lemmas.Processes.{same_itself}
use Rattle.zserver.specs.Server.{TreeMessage}
use Rattle.zchannels.specs.declared.rings.Tx.{Tx}
use Rattle.zchannels.specs.declared.rings.Rx.{Rx}
use Rattle.zchannels.specs.Rings.{put_of, taken_of}
use Rattle.zprotocol.specs.traces.Deeds.{takes, puts, stamped}
use Rattle.zprotocol.specs.Places.{process_at}
use Rattle.zthreads.specs.Endpoints.{TreeDeed, TreeStanding, TreeStamped, TreeTaken, TreePost, Each, Self, Books, Accounts}
use Rattle.zthreads.specs.Endpoints.{took_from, IsOutside, SameBooks, SameEndpoint}
use Rattle.zthreads.specs.declared.endpoint.Endpoint.{Endpoint}

module _ {A B : Type 0} (f : A → B) where
  pub map_same : (xs : List A) (i : ℕ) (x y : A) → i < length xs → x ≡ get_or xs i x → f y ≡ f x → map f (set xs i y) ≡ map f xs
  map_same [] i x y lt is e = absurd (omega arith)
  map_same (z ∷ xs) zero x y lt is e = ap (λ b. b ∷ map f xs) (e ∙ ap f is)
  map_same (z ∷ xs) (suc i) x y lt is e = ap (λ bs. f z ∷ bs) (map_same xs i x y (omega arith) is e)

pub each_set : {X : Type 0} (P Q : ℕ → X → Type 0) (xs : List X) (i : ℕ) (y : X) → Each P xs → Q i y
    → ((j : ℕ) (x : X) → j ≢ i → P j x → Q j x) → Each Q (set xs i y)
each_set {X} P Q xs i y each mine other j x at =
    ⊎_elim (λ h. subst (λ (p : ℕ × X). Q p.0 p.1) (λ k. (sym h.0 k, h.1 k)) mine) (λ h. other j x h.0 (each j x h.1)) (at_set xs i j y x at)

pub same_endpoint : (a b c : Endpoint) → SameEndpoint a b → SameEndpoint b c → SameEndpoint a c
same_endpoint a b c x y = record {
  me = y.me ∙ x.me;
  last = y.last ∙ x.last;
  clients = y.clients ∙ x.clients;
  traced = y.traced
      ∙ x.traced;
  links = y.links ∙ x.links;
  ins = y.ins ∙ x.ins;
  outs = y.outs ∙ x.outs;
}

pub same_books : (a b c : Endpoint) → SameBooks a b → SameBooks b c → SameBooks a c
same_books a b c x y = record {
  trace = y.trace ∙ x.trace;
  reported = y.reported ∙ x.reported;
  stamp = y.stamp ∙ x.stamp;
  is_cut = y.is_cut
      ∙ x.is_cut;
  lost = y.lost ∙ x.lost;
  room = λ r. y.room (x.room r);
}

-- processes at two positions are two
abbrev pick : Bool → Bool → ℕ → Process
pick a b i = if a then Master else if b then Server i else Client (i - (MAX_SERVERS + 1))

apart_by : (i j : ℕ) (a b c d : Bool) → (i == 0) ≡ a → nat_le i MAX_SERVERS ≡ b → (j == 0) ≡ c → nat_le j MAX_SERVERS ≡ d
    → i ≢ j → is_same (pick a b i) (pick c d j) ≡ false
apart_by i j true b true d p q r s ne = absurd (ne (grind (arith, nat_tests)))
apart_by i j true b false true p q r s ne = refl
apart_by i j true b false false p q r s ne = refl
apart_by i j false true true d p q r s ne = refl
apart_by i j false true false true p q r s ne = ne_eqb i j ne
apart_by i j false true false false p q r s ne = refl
apart_by i j false false true d p q r s ne = refl
apart_by i j false false false true p q r s ne = refl
apart_by i j false false false false p q r s ne = ne_eqb (i - (MAX_SERVERS + 1)) (j - (MAX_SERVERS + 1)) (λ e. ne (grind (arith, nat_tests)))

pub apart : (i j : ℕ) → i ≢ j → is_same (process_at i) (process_at j) ≡ false
apart i j ne = apart_by i j (i == 0) (nat_le i MAX_SERVERS) (j == 0) (nat_le j MAX_SERVERS) refl refl refl refl ne

-- a position at which there is something
pub within : {X : Type 0} (xs : List X) (i : ℕ) (x : X) → get_elem? xs i ≡ some x → i < length xs
within [] i x at = absurd (some-ne-none x (sym at))
within (y ∷ ys) zero x at = omega arith
within (y ∷ ys) (suc i) x at = let w = within ys i x at in omega arith

msg_here : (p to : Process) (m : TreeMessage) (w : List TreePost) → is_same p to ≡ true → messages_to p ((to, m) ∷ w) ≡ m ∷ messages_to p w
msg_here p to m w e = rw e refl

msg_else : (p to : Process) (m : TreeMessage) (w : List TreePost) → is_same p to ≡ false → messages_to p ((to, m) ∷ w) ≡ messages_to p w
msg_else p to m w e = rw e refl

module _ (who : Self) (b : Books) (s : TreeStanding) (deeds : List TreeDeed) where
  -- one link holds what it held, but for what waits
  pub out_set : (t : TreeTaken) (w w' : List TreePost) (k : ℕ) (x : Tx TreeStamped) → Accounts who b s t w deeds
      → put_of x ++ stamped b.stamp (messages_to (process_at k) w') ≡ puts (process_at k) deeds
      → ((j : ℕ) → j ≢ k → messages_to (process_at j) w' ≡ messages_to (process_at j) w)
      → Accounts who (record b { outs = set b.outs k x }) s t w' deeds
  out_set t w w' k x a mine other =
      record {
        goes = a.goes;
        left = a.left;
        last = a.last;
        traced = a.traced;
        reported = a.reported;
        taken = a.taken;
        others = a.others;
        put = each_set (λ i y. put_of y ++ stamped b.stamp (messages_to (process_at i) w) ≡ puts (process_at i) deeds)
            (λ i y. put_of y ++ stamped b.stamp (messages_to (process_at i) w') ≡ puts (process_at i) deeds)
            b.outs k x a.put mine (λ j y ne h. ap (λ m. put_of y ++ stamped b.stamp m) (other j ne) ∙ h);
      }

  -- a link says what it said
  pub out_same : (t : TreeTaken) (w : List TreePost) (k : ℕ) (x x' : Tx TreeStamped) → Accounts who b s t w deeds
      → get_elem? b.outs k ≡ some x → put_of x' ≡ put_of x → Accounts who (record b { outs = set b.outs k x' }) s t w deeds
  out_same t w k x x' a at e = out_set t w w k x' a (ap (λ l. l ++ stamped b.stamp (messages_to (process_at k) w)) e ∙ a.put k x at) (λ j ne. refl)

  -- the first of what waits goes onto its link
  pub out_more : (t : TreeTaken) (to : Process) (m : TreeMessage) (w : List TreePost) (k : ℕ) (x x' : Tx TreeStamped)
      → Accounts who b s t ((to, m) ∷ w) deeds
      → get_elem? b.outs k ≡ some x → process_at k ≡ to → put_of x' ≡ put_of x ++ (b.stamp, m) ∷ []
      → Accounts who (record b { outs = set b.outs k x' }) s t w deeds
  out_more t to m w k x x' a at is e =
      let p = process_at k in
      let rest = stamped b.stamp (messages_to p w) in
      let same : is_same p to ≡ true = ap (λ q. is_same p q) (sym is) ∙ same_itself p in
      out_set t ((to, m) ∷ w) w k x' a
      (
      ap (λ l. l ++ rest) e
      ∙ append_assoc (put_of x) ((b.stamp, m) ∷ []) rest
      ∙ ap (λ l. put_of x ++ stamped b.stamp l) (sym (msg_here p to m w same))
      ∙ a.put k x at
      )
      (λ j ne. sym (msg_else (process_at j) to m w (ap (λ q. is_same (process_at j) q) (sym is) ∙ apart j k ne)))

  -- what has no link is let go
  pub out_lost : (t : TreeTaken) (to : Process) (m : TreeMessage) (w : List TreePost) (k : ℕ) → Accounts who b s t ((to, m) ∷ w) deeds
      → process_at k ≡ to → length b.outs ≤ k → Accounts who b s t w deeds
  out_lost t to m w k a is beyond =
      record {
        goes = a.goes;
        left = a.left;
        last = a.last;
        traced = a.traced;
        reported = a.reported;
        taken = a.taken;
        others = a.others;
        put = λ i y at.
            let lt = within b.outs i y at in
            ap (λ l. put_of y ++ stamped b.stamp l)
            (sym (msg_else (process_at i) to m w (ap (λ q. is_same (process_at i) q) (sym is) ∙ apart i k (λ e. absurd (omega arith)))))
            ∙ a.put i y at;
      }

  -- one end looked, and took nothing
  pub in_looked : (t : TreeTaken) (w : List TreePost) (k : ℕ) (r r' : Rx TreeStamped) → Accounts who b s t w deeds
      → get_elem? b.ins k ≡ some r → taken_of r' ≡ taken_of r → Accounts who (record b { ins = set b.ins k r' }) s t w deeds
  in_looked t w k r r' a at e =
      let P : ℕ → Rx TreeStamped → Type 0 = λ i y. taken_of y ≡ takes (process_at i) deeds ++ took_from (process_at i) t in
      record {
        goes = a.goes;
        left = a.left;
        last = a.last;
        traced = a.traced;
        reported = a.reported;
        taken = each_set P P b.ins k r' a.taken (e ∙ a.taken k r at) (λ j y ne h. h);
        others = λ p out. a.others p (λ i lt. out i (let n = length-set b.ins k r' in omega arith));
        put = a.put;
      }

  -- nothing was taken
  pub in_none : (w : List TreePost) (k : ℕ) (r r' : Rx TreeStamped) → Accounts who b s None w deeds
      → get_elem? b.ins k ≡ some r → taken_of r' ≡ taken_of r ++ [] → Accounts who (record b { ins = set b.ins k r' }) s None w deeds
  in_none w k r r' a at e =
      let P : ℕ → Rx TreeStamped → Type 0 = λ i y. taken_of y ≡ takes (process_at i) deeds ++ [] in
      record {
        goes = a.goes;
        left = a.left;
        last = a.last;
        traced = a.traced;
        reported = a.reported;
        taken = each_set P P b.ins k r' a.taken (e ∙ append-nil (taken_of r) ∙ a.taken k r at) (λ j y ne h. h);
        others = λ p out. a.others p (λ i lt. out i (let n = length-set b.ins k r' in omega arith));
        put = a.put;
      }

  -- a message was taken
  pub in_some : (w : List TreePost) (k : ℕ) (r r' : Rx TreeStamped) (m : TreeStamped) → Accounts who b s None w deeds
      → k < length b.ins → get_elem? b.ins k ≡ some r → taken_of r' ≡ taken_of r ++ m ∷ []
      → Accounts who (record b { ins = set b.ins k r' }) s (Some (process_at k, m)) w deeds
  in_some w k r r' m a lt at e =
      let T : ℕ → List TreeStamped = λ i. takes (process_at i) deeds in
      let P : ℕ → Rx TreeStamped → Type 0 = λ i y. taken_of y ≡ T i ++ [] in
      let Q : ℕ → Rx TreeStamped → Type 0 = λ i y. taken_of y ≡ T i ++ took_from (process_at i) (Some (process_at k, m)) in
      record {
        goes = a.goes;
        left = a.left;
        last = a.last;
        traced = a.traced;
        reported = a.reported;
        taken = each_set P Q b.ins k r' a.taken
            (e ∙ ap (λ l. l ++ m ∷ []) (a.taken k r at ∙ append-nil (T k)) ∙ ap (λ x. T k ++ (if x then m ∷ [] else []))
            (sym (same_itself (process_at k))))
            (λ j y ne h. h ∙ ap (λ x. T j ++ (if x then m ∷ [] else [])) (sym (apart j k ne)));
        others = λ p out.
            let out' : IsOutside p (length b.ins) = λ i l. out i (let n = length-set b.ins k r' in omega arith) in
            ((a.others p out').0, ap (λ x. if x then m ∷ [] else []) (out' k lt));
        put = a.put;
      }
