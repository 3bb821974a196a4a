-- What left Sent is committed, and each entry of a log was made at its place. Both hold of each view
-- and of each message in flight, and each row of the server table preserves them.
use Rattle.std.proofs.Common.{◌≡◌, ◌≢◌, ◌⊎◌, ℕ, ◌+◌, ◌≤◌, true, nat_lt, ◌==◌, List, [], ◌∷◌, ◌++◌, map, length, Option, Some, None, refl, sym, ap, ◌∙◌, subst, inl, inr, arith}
use Rattle.std.proofs.Common.{length-append, eqb-true}
use Rattle.std.proofs.lemmas.Bool.Decides.{nat_tests}
use Rattle.zcalls.specs.declared.call.Entry.{Entry}
use Rattle.zcalls.specs.declared.call.Update.{Update}
use Rattle.zcalls.specs.declared.reply.Reply.{Reply}
use Rattle.zcalls.specs.Cached.{Plain}
use Rattle.zcalls.specs.Lists.{Among}
use Rattle.zcalls.proofs.Among.{test}
use Rattle.zprotocol.specs.declared.message.Message.TheVariants as message
use Rattle.zprotocol.specs.declared.process.Process.{Process}
use Rattle.zprotocol.specs.declared.process.Process.TheVariants.{Master, Server, Client}
use Rattle.zprotocol.specs.server.View.{ServerView, Neighbour, Post}
use Rattle.zprotocol.specs.server.Table.{ServerResult, ack_posts, answer_posts, forward_post, entries_above, missing_posts, last_number}
use Rattle.zprotocol.specs.server.support.Cases.{IsAccepted, IsRow, Processes, Forwards, Ignores, Submits, Updates}
use Rattle.zprotocol.specs.server.support.Cases.{Asks, Acknowledges, Shows, Turns, Follows, Leads, Ends}
use Rattle.zlinearizability.specs.legal.Prefix.{IsEntry}
use Rattle.zlinearizability.specs.chain.Flow.{log_machine, LogMessage, Log, length_of}
use Rattle.zlinearizability.specs.chain.Last.{HasExactLast, IsExact}
use Rattle.zlinearizability.proofs.legal_lemmas.lists.Members.{among_left, among_mid}
use Rattle.zlinearizability.proofs.chain_lemmas.links.Links.{AllPosts, all_none, all_and, all_append}
use Rattle.zlinearizability.proofs.chain_lemmas.tables.RowViews.{IsLogged, above_among}

-- no entry of this number is in Sent
abbrev pub IsReleased : ServerView (List Entry) → ℕ → Type 0
IsReleased v n = (e : Entry) → Among (n, e) v.sent → ⊥

-- each entry of a log was made at its place
abbrev pub AllMade : (ℕ → Update → Type 0) → List Entry → Type 0
AllMade IsMade log = (n : ℕ) (e : Entry) → IsEntry log n e → IsMade n e.update

-- what holds of a view, where that many entries are committed
pub record IsKnownView (IsMade : ℕ → Update → Type 0) (count : ℕ) (v : ServerView (List Entry)) : Type 0 where
  pub released : (log : List Entry) (n : ℕ) → v.machine ≡ Some log → n ≤ length log → IsReleased v n → n ≤ count
  pub blank : v.machine ≡ None → v.succ ≡ None
  pub made : (log : List Entry) → v.machine ≡ Some log → AllMade IsMade log

-- and of a message
abbrev pub IsKnownMessage : (ℕ → Update → Type 0) → ℕ → LogMessage → Type 0
IsKnownMessage IsMade count (message.Ack epoch n) = n ≤ count
IsKnownMessage IsMade count (message.Update epoch n e) = IsMade n e.update
IsKnownMessage IsMade count (message.Snapshot epoch transfer) = AllMade IsMade transfer.machine
IsKnownMessage IsMade count other = Unit {0}

-- an entry of a log with one more is of the log, or is that one
never_nil : (before after : List Entry) (x : Entry) → [] ≡ before ++ x ∷ after → ⊥
never_nil [] after x e = cc
never_nil (b ∷ before) after x e = cc

parts : (log before after : List Entry) (e x : Entry) → log ++ e ∷ [] ≡ before ++ x ∷ after
    → ((rest : List Entry) × (log ≡ before ++ x ∷ rest)) ⊎ ((e ≡ x) × (before ≡ log))
parts [] [] after e x is = inr (cc is, refl)
parts [] (b ∷ before) after e x is = absurd (never_nil before after x (cc is))
parts (a ∷ log) [] after e x is = let same : a ≡ x = cc is in inl (log, λ i. same i ∷ log)
parts (a ∷ log) (b ∷ before) after e x is =
    let same : a ≡ b = cc is in
    let tails : log ++ e ∷ [] ≡ before ++ x ∷ after = cc is in
    elim (parts log before after e x tails) [
      | inl p ↦ inl (p.0, λ i. same i ∷ p.1 i)
      | inr p ↦ inr (p.0, λ i. sym same i ∷ p.1 i)
    ]

pub longer_made : (IsMade : ℕ → Update → Type 0) (log : List Entry) (n : ℕ) (e : Entry) → n ≡ length log + 1 → IsMade n e.update
    → AllMade IsMade log → AllMade IsMade (log ++ e ∷ [])
longer_made IsMade log n e next made h k x (before, after, is, place) = elim (parts log before after e x is) [
  | inl p ↦ h k x (before, p.0, p.1, place)
  | inr p ↦
      let same : k ≡ n = place ∙ ap (λ l. length l + 1) p.1 ∙ sym next in
      subst (λ j. IsMade j x.update) (sym same) (subst (λ (d : Entry). IsMade n d.update) p.0 made)
]

-- what is above a number stays
above_in : (n : ℕ) (sent : List (ℕ × Entry)) (x : ℕ × Entry) → nat_lt n x.0 ≡ true → Among x sent → Among x (entries_above n sent)
above_in n [] x above a = absurd a
above_in n (s ∷ sent) x above (inl e) = rw (ap (λ (y : ℕ × Entry). nat_lt n y.0) e ∙ above) (inl e)
above_in n (s ∷ sent) x above (inr a) = elim (test (nat_lt n s.0)) [
  | inl t ↦ rw t (inr (above_in n sent x above a))
  | inr f ↦ rw f (above_in n sent x above a)
]

-- a post for each
all_map_among : {A : Type 0} (Q : LogMessage → Type 0) (f : A → Post (List Entry)) (xs : List A) → ((x : A) → Among x xs → Q (f x).1)
    → AllPosts Q (map f xs)
all_map_among Q f [] h = all_none Q
all_map_among Q f (x ∷ xs) h = all_and Q (f x) (map f xs) (h x (inl refl)) (all_map_among Q f xs (λ y a. h y (inr a)))

module _ {P : Type 0} (plain : Plain P) (IsMade : ℕ → Update → Type 0) (count later : ℕ) (up : count ≤ later) where
  abbrev Known : LogMessage → Type 0
  Known m = IsKnownMessage IsMade later m

  acks_known : (pred : Option Neighbour) (n : ℕ) → n ≤ later → AllPosts Known (ack_posts pred n)
  acks_known None n le = all_none Known
  acks_known (Some pred) n le = all_and Known (Server pred.0, message.Ack pred.1 n) [] le (all_none Known)

  answers_known : (e : Entry) (reply : Option Reply) → AllPosts Known (answer_posts e reply)
  answers_known e None = all_none Known
  answers_known e (Some reply) = all_and Known (Client e.client, message.Answer e.number reply) [] tt (all_none Known)

  ends_known : (v : ServerView (List Entry)) (machine : Log) → ((log : List Entry) → machine ≡ Some log → v.last ≤ later)
      → AllPosts Known (elim machine as (λ x. List (Post (List Entry))) [ None ↦ [] | Some m ↦ ack_posts v.pred v.last ])
  ends_known v None le = all_none Known
  ends_known v (Some m) le = acks_known v.pred v.last (le m refl)

  -- what holds of a view holds where more is committed
  pub view_later : (v : ServerView (List Entry)) → IsKnownView IsMade count v → IsKnownView IsMade later v
  view_later v known = record {
    released = λ log n is le rel. let old : n ≤ count = known.released log n is le rel in omega arith;
    blank = known.blank;
    made = known.made;
  }

  -- an entry is accepted
  accepted_known : (v : ServerView (List Entry)) (mine : List Entry) (n : ℕ) (e : Entry) (r : ServerResult (List Entry))
      → IsAccepted (log_machine plain) v mine n e r → v.machine ≡ Some mine → n ≡ length mine + 1 → IsMade n e.update
      → ((log : List Entry) → r.0.succ ≡ None → r.0.machine ≡ Some log → length log ≤ later)
      → IsKnownView IsMade count v → IsKnownView IsMade later r.0 × AllPosts Known r.1
  accepted_known v mine n e r (Processes ends) has next is_made tail known =
      let whole : length (mine ++ e ∷ []) ≡ length mine + length (e ∷ []) = length-append mine (e ∷ []) in
      let all : length (mine ++ e ∷ []) ≤ later = tail (mine ++ e ∷ []) ends refl in (
        record {
          released = λ log k is le rel. let here : length log ≤ later = tail log ends is in omega arith;
          blank = λ is. absurd (let no : ◌≡◌ {A = Log} (Some (mine ++ e ∷ [])) None = is in cc no);
          made = λ log is. subst (AllMade IsMade) (let same : ◌≡◌ {A = Log} (Some (mine ++ e ∷ [])) (Some log) = is in cc same)
              (longer_made IsMade mine n e next is_made (known.made mine has));
        },
        all_append Known (answer_posts e _) (ack_posts v.pred n) (answers_known e _) (acks_known v.pred n (omega arith)),
      )
  accepted_known v mine n e r (Forwards succ has_succ) has next is_made tail known =
      let whole : length (mine ++ e ∷ []) ≡ length mine + length (e ∷ []) = length-append mine (e ∷ []) in (
        record {
          released = λ log k is le rel.
              let same : mine ++ e ∷ [] ≡ log = (let s : ◌≡◌ {A = Log} (Some (mine ++ e ∷ [])) (Some log) = is in cc s) in
              let size : length (mine ++ e ∷ []) ≡ length log = ap length same in
              elim (test (k == n)) [
                | inl t ↦ absurd (rel e (subst (λ j. Among (j, e) (v.sent ++ (n, e) ∷ [])) (sym (eqb-true _ _ t)) (among_mid (n, e) v.sent [])))
                | inr f ↦
                    let apart : k ≢ n = grind (arith, nat_tests, f) in
                    let old : k ≤ count = known.released mine k has (omega arith) (λ x a. rel x (among_left (k, x) v.sent ((n, e) ∷ []) a)) in
                    omega arith
              ];
          blank = λ is. absurd (let no : ◌≡◌ {A = Log} (Some (mine ++ e ∷ [])) None = is in cc no);
          made = λ log is. subst (AllMade IsMade) (let same : ◌≡◌ {A = Log} (Some (mine ++ e ∷ [])) (Some log) = is in cc same)
              (longer_made IsMade mine n e next is_made (known.made mine has));
        },
        all_and Known (forward_post succ (n, e)) [] is_made (all_none Known),
      )

  -- a new successor is sent what it is missing
  missing_known : (v : ServerView (List Entry)) (log : List Entry) (succ : Neighbour) (last : Option ℕ) → v.machine ≡ Some log
      → IsLogged v → IsKnownView IsMade count v → AllPosts Known (missing_posts v log succ last)
  missing_known v log succ None has logged known =
      all_and Known (Server succ.0, message.Snapshot succ.1 (record { last = v.last; machine = log })) [] (known.made log has) (all_none Known)
  missing_known v log succ (Some n) has logged known =
      all_map_among Known (forward_post succ) (entries_above n v.sent)
      (λ x a. known.made log has x.0 x.1 (logged log x.0 x.1 has (above_among n v.sent x a)))

  -- each row
  pub row_known : (v : ServerView (List Entry)) (from : Process) (m : LogMessage) (r : ServerResult (List Entry))
      → IsRow (log_machine plain) v from m r → HasExactLast v → IsExact m → IsLogged v
      → ((c number : ℕ) (update : Update) → from ≡ Client c → m ≡ message.Submit number update → IsMade (v.last + 1) update)
      → ((log : List Entry) → r.0.succ ≡ None → r.0.machine ≡ Some log → length log ≤ later)
      → IsKnownView IsMade count v → IsKnownMessage IsMade count m
      → IsKnownView IsMade later r.0 × AllPosts Known r.1
  row_known v from m r (Ignores from' m') exact whole logged submitted tail known is = (view_later v known, all_none Known)
  row_known v from m r (Submits c number update mine r' has head room did) exact whole logged submitted tail known is =
      accepted_known v mine (v.last + 1) (record { client = c; number = number; update = update }) r did has
      (ap (λ l. l + 1) (exact ∙ ap length_of has)) (submitted c number update refl refl) tail known
  row_known v from m r (Updates p epoch n e mine r' has pred next room did) exact whole logged submitted tail known is =
      accepted_known v mine n e r did has (next ∙ ap (λ l. l + 1) (exact ∙ ap length_of has)) is tail known
  row_known v from m r (Asks c number query mine has ends) exact whole logged submitted tail known is =
      (view_later v known, all_and Known (Client c, message.Answer number ((log_machine plain).ask mine query)) [] tt (all_none Known))
  row_known v from m r (Acknowledges t epoch n succ) exact whole logged submitted tail known is =
      let acked : n ≤ count = is in (
        record {
          released = λ log k has le rel. elim (test (nat_lt n k)) [
            | inl above ↦
                let old : k ≤ count = known.released log k has le (λ e a. rel e (above_in n v.sent (k, e) above a)) in omega arith
            | inr below ↦ let here : k ≤ n = grind (arith, nat_tests, below) in omega arith
          ];
          blank = known.blank;
          made = known.made;
        },
        acks_known v.pred n (omega arith),
      )
  row_known v from m r (Shows p epoch transfer none pred) exact whole logged submitted tail known is =
      let ends : v.succ ≡ None = known.blank none in
      let all : length transfer.machine ≤ later = tail transfer.machine ends refl in
      let last : transfer.last ≡ length transfer.machine = whole in (
        record {
          released = λ log k has le rel. let here : length log ≤ later = tail log ends has in omega arith;
          blank = λ none. absurd (let no : ◌≡◌ {A = Log} (Some transfer.machine) None = none in cc no);
          made = λ log has. subst (AllMade IsMade) (let same : ◌≡◌ {A = Log} (Some transfer.machine) (Some log) = has in cc same) is;
        },
        all_and Known (Server p, message.Ack epoch transfer.last) ((Master, message.Joined epoch) ∷ []) (omega arith)
            (all_and Known (Master, message.Joined epoch) [] tt (all_none Known)),
      )
  row_known v from m r (Turns epoch p) exact whole logged submitted tail known is = (
    record { released = (view_later v known).released; blank = known.blank; made = known.made },
    all_and Known (Master, message.Have epoch (last_number v)) [] tt (all_none Known),
  )
  row_known v from m r (Follows epoch t last mine has) exact whole logged submitted tail known is = (
    record {
      released = (view_later v known).released;
      blank = λ none. absurd (let no : ◌≡◌ {A = Log} (Some mine) None = sym has ∙ none in cc no);
      made = known.made;
    },
    missing_known v mine (t, epoch) last has logged known,
  )
  row_known v from m r (Leads epoch) exact whole logged submitted tail known is =
      (record { released = (view_later v known).released; blank = known.blank; made = known.made }, all_none Known)
  row_known v from m r (Ends epoch) exact whole logged submitted tail known is = (
    record {
      released = λ log k has le rel. let here : length log ≤ later = tail log refl has in omega arith;
      blank = λ none. refl;
      made = known.made;
    },
    ends_known v v.machine (λ log has. let here : length log ≤ later = tail log refl has in
        let size : v.last ≡ length log = exact ∙ ap length_of has in omega arith),
  )
