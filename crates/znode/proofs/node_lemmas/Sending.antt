-- How far the sending of records is.
use Rattle.std.proofs.Common.{◌≡◌, ◌≢◌, inl, inr, ℕ, ◌+◌, ◌<◌, ◌≤◌, Bool, true, false, cond, List, [], ◌∷◌, ◌++◌, length, length-append, map, drop, refl, sym, ap, subst, ◌∙◌, append_assoc, arith}
use Rattle.std.specs.List.{flat_map, AllByRecursion}
use Rattle.std.proofs.lemmas.Bool.Decides.{nat_tests}
use Rattle.std.proofs.lemmas.List.{append-nil}
use Rattle.std.proofs.lemmas.List.Concat.{flat_map-append}
use Rattle.zcalls.proofs.Among.{test}
use Rattle.ztree.specs.declared.limits.TheConstants.{MAX_CLIENTS}
use Rattle.zprotocol.specs.declared.limits.TheConstants.{MAX_SERVERS, PROCESSES}
use Rattle.zprotocol.specs.declared.process.Process.{Process}
use Rattle.zprotocol.specs.declared.process.Process.TheVariants.{Master, Server, Client}
use Rattle.zprotocol.specs.Places.{is_server, place_of, process_at}
use Rattle.zprotocol.proofs.Places.{place_of-server, place_of-client, process_at-server, process_at-client, place_of-process_at}
use Rattle.std.specs.Prelude.{◌==◌, nat_lt}
use Rattle.zwire.specs.declared.limits.TheConstants.{MAX_FRAME}
use Rattle.zwire.specs.declared.fault.WriteError.{WriteError}
use Rattle.zwire.specs.declared.fault.WriteError.TheVariants.{TooLong, Memory}
use Rattle.zpeers.specs.Records.{LinkRecord, records_of, after_frame, frame_record}
use Rattle.zpeers.specs.Outgoing.{OutgoingView, WaitingView, OthersWait, IsLong, IsFirstLong, left_of, records_for, waiting_for}
use Rattle.znode.specs.declared.limits.TheConstants.{MAX_WRITTEN}
use Rattle.znode.specs.pipe.Outputs.{OutputView, Send, output}
use Rattle.znode.specs.pipe.Serving.{outputs_text}
use Rattle.znode.specs.Server.{is_link}
use Rattle.znode.specs.Turns.{AreSentTo, HasLink, IsSend, sent_for, sent_to}
use Rattle.znode.specs.support.Turns.{SendsOne, SendsSome, SendsAll, IsSendFault, IsAnySendFault}
use Rattle.znode.proofs.node_lemmas.Links.{sent-both}

-- ---- one process

-- its records as outputs
abbrev pub sends_to : Process → List LinkRecord → List OutputView
sends_to to records = map (λ (r : LinkRecord). Send to r) records

sends-both : (to : Process) (a b : List LinkRecord) → sends_to to (a ++ b) ≡ sends_to to a ++ sends_to to b
sends-both to [] b = refl
sends-both to (r ∷ a) b = ap (λ (l : List OutputView). Send to r ∷ l) (sends-both to a b)

pub record IsSending (own : ℕ) (to : Process) (old now : OutgoingView) (before out : List ℕ) (count : ℕ) : Type 0 where
  pub records : List LinkRecord
  pub first : records_for old (Server own) to ≡ records ++ records_for now (Server own) to
  pub counted : length records ≡ count
  pub text : out ≡ before ++ outputs_text (sends_to to records)
  pub others : OthersWait old now to

pub sending_begins : (own : ℕ) (to : Process) (old : OutgoingView) (before : List ℕ) → IsSending own to old old before before 0
sending_begins own to old before = record {
  records = [];
  first = refl;
  counted = refl;
  text = sym (append-nil before);
  others = λ p other. refl;
}

pub sending_more : (own : ℕ) (to : Process) (old now new : OutgoingView) (before out after : List ℕ) (count : ℕ)
    → IsSending own to old now before out count → SendsOne own to now new out after → IsSending own to old new before after (count + 1)
sending_more own to old now new before out after count so_far one = record {
  records = so_far.records ++ one.it ∷ [];
  first = so_far.first
      ∙ ap (λ (l : List LinkRecord). so_far.records ++ l) one.next
      ∙ sym (append_assoc so_far.records (one.it ∷ []) (records_for new (Server own) to));
  counted = omega (arith, length-append so_far.records (one.it ∷ []), so_far.counted);
  text = one.text
      ∙ ap (λ (t : List ℕ). t ++ output.spell (Send to one.it)) so_far.text
      ∙ append_assoc before (outputs_text (sends_to to so_far.records)) (output.spell (Send to one.it))
      ∙ ap (λ (t : List ℕ). before ++ t) (
      ap (λ (t : List ℕ). outputs_text (sends_to to so_far.records) ++ t) (sym (append-nil (output.spell (Send to one.it))))
      ∙ sym (flat_map-append output.spell (sends_to to so_far.records) (Send to one.it ∷ []))
      ∙ ap outputs_text (sym (sends-both to so_far.records (one.it ∷ [])))
      );
  others = λ p other. one.others p other ∙ so_far.others p other;
}

pub sending_full : (own : ℕ) (to : Process) (old now : OutgoingView) (before out : List ℕ)
    → IsSending own to old now before out MAX_WRITTEN → SendsSome own to old now before out
sending_full own to old now before out so_far = record {
  records = so_far.records;
  sent = record { first = so_far.first; few = omega (arith, so_far.counted); most = inl so_far.counted };
  text = so_far.text;
  others = so_far.others;
}

pub sending_done : (own : ℕ) (to : Process) (old now : OutgoingView) (before out : List ℕ) (count : ℕ)
    → IsSending own to old now before out count → count ≤ MAX_WRITTEN → waiting_for now to ≡ [] → SendsSome own to old now before out
sending_done own to old now before out count so_far few none = record {
  records = so_far.records;
  sent = record { first = so_far.first; few = omega (arith, so_far.counted, few); most = inr none };
  text = so_far.text;
  others = so_far.others;
}

-- ---- a record that is too long

drop-none : (n : ℕ) (rs : List LinkRecord) → n ≡ 0 → drop n rs ≡ rs
drop-none n rs e = ap (λ (k : ℕ). drop k rs) e

first_long : (own : Process) (to : Process) (ws : List WaitingView) → IsFirstLong own to ws TooLong
    → (r : LinkRecord) × (back : List LinkRecord) × (flat_map (left_of own to) ws ≡ r ∷ back) × (MAX_FRAME < length r.bytes)
first_long own to [] long = absurd long
first_long own to (w ∷ ws) long = (
  frame_record own to w.message,
  after_frame w.message ++ flat_map (left_of own to) ws,
  ap (λ (l : List LinkRecord). l ++ flat_map (left_of own to) ws) (drop-none w.written (records_of own to w.message) long.0),
  long.1,
)

pub long_for : (own : ℕ) (to : Process) (o : OutgoingView) (error : WriteError) → IsLong (Server own) to o error → IsSendFault own to o error
long_for own to o Memory long = tt
long_for own to o TooLong long = let l = first_long (Server own) to (waiting_for o to) long in ([], l.0, l.1, l.2, l.3)

-- it waited before, too
pub long_before : (own : ℕ) (to : Process) (old now : OutgoingView) (before out : List ℕ) (count : ℕ) (error : WriteError)
    → IsSending own to old now before out count → IsSendFault own to now error → IsSendFault own to old error
long_before own to old now before out count Memory so_far long = tt
long_before own to old now before out count TooLong so_far long = (
  so_far.records ++ long.0,
  long.1,
  long.2,
  so_far.first ∙ ap (λ (l : List LinkRecord). so_far.records ++ l) long.3 ∙ sym (append_assoc so_far.records long.0 (long.1 ∷ long.2)),
  long.4,
)

-- ---- places

-- a process that has a link is the one in its place
pub in_place : (p : Process) → HasLink p → process_at (place_of p) ≡ p
in_place Master link = absurd (let no : 0 < 0 = link.0 in omega (arith, no))
in_place (Server s) link = elim (test (is_server s)) [
  | inl is ↦
      let some : 0 < s = grind (arith, nat_tests, is) in
      let few : s ≤ MAX_SERVERS = grind (arith, nat_tests, is) in
      ap process_at (place_of-server s some few) ∙ process_at-server s some few
  | inr other ↦
      let out : place_of (Server s) ≡ PROCESSES = ap (λ (b : Bool). cond b s PROCESSES) other in
      absurd (let small = link.1 in omega (arith, out, small))
]
in_place (Client c) link = elim (test (nat_lt c MAX_CLIENTS)) [
  | inl is ↦
      let few : c < MAX_CLIENTS = grind (arith, nat_tests, is) in
      process_at-client c (place_of (Client c)) (place_of-client c few)
  | inr other ↦
      let out : place_of (Client c) ≡ PROCESSES = ap (λ (b : Bool). cond b (MAX_SERVERS + 1 + c) PROCESSES) other in
      absurd (let small = link.1 in omega (arith, out, small))
]

eqb-other : (a b : ℕ) → a ≢ b → (a == b) ≡ false
eqb-other a b e = grind (arith, nat_tests, e)

link-self : (p : Process) → HasLink p → is_link p p ≡ true
link-self Master link = absurd (let no : 0 < 0 = link.0 in omega (arith, no))
link-self (Server s) link = grind arith
link-self (Client c) link = grind arith

link_other : (p q : Process) → p ≢ q → is_link p q ≡ false
link_other Master q other = refl
link_other (Server s) Master other = refl
link_other (Server s) (Client d) other = refl
link_other (Client c) Master other = refl
link_other (Client c) (Server t) other = refl
link_other (Server s) (Server t) other = eqb-other s t (λ e. other (ap Server e))
link_other (Client c) (Client d) other = eqb-other c d (λ e. other (ap Client e))

-- ---- all processes

sent-sends : (p to : Process) (records : List LinkRecord) → sent_to p (sends_to to records) ≡ cond (is_link p to) records []
sent-sends p to [] = none (is_link p to)
  where
    none : (b : Bool) → ◌≡◌ {A = List LinkRecord} [] (cond b [] [])
    none true = refl
    none false = refl
sent-sends p to (r ∷ records) = ap (λ (l : List LinkRecord). sent_for p to r ++ l) (sent-sends p to records) ∙ join (is_link p to) r records
  where
    join : (b : Bool) (r : LinkRecord) (rs : List LinkRecord) → cond b (r ∷ []) [] ++ cond b rs [] ≡ cond b (r ∷ rs) []
    join true r rs = refl
    join false r rs = refl

all_sends : (to : Process) (records : List LinkRecord) → HasLink to → AllByRecursion IsSend (sends_to to records)
all_sends to [] link = tt
all_sends to (r ∷ records) link = (link, all_sends to records link)

sends_both : (a b : List OutputView) → AllByRecursion IsSend a → AllByRecursion IsSend b → AllByRecursion IsSend (a ++ b)
sends_both [] b fit also = also
sends_both (x ∷ a) b fit also = (fit.0, sends_both a b fit.1 also)

-- the processes before a place were sent theirs, and the others nothing yet
pub record IsSendingAll (own : ℕ) (old now : OutgoingView) (before out : List ℕ) (place : ℕ) : Type 0 where
  pub outputs : List OutputView
  pub sends : AllByRecursion IsSend outputs
  pub done : (p : Process) → HasLink p → place_of p < place → AreSentTo (Server own) p (sent_to p outputs) old now
  pub left : (p : Process) → HasLink p → place ≤ place_of p → (sent_to p outputs ≡ []) × (waiting_for now p ≡ waiting_for old p)
  pub text : out ≡ before ++ outputs_text outputs

pub all_begins : (own : ℕ) (old : OutgoingView) (before : List ℕ) → IsSendingAll own old old before before 1
all_begins own old before = record {
  outputs = [];
  sends = tt;
  done = λ p link small. absurd (let some = link.0 in omega (arith, some, small));
  left = λ p link large. (refl, refl);
  text = sym (append-nil before);
}

-- a process that was sent its records is still so
same_sent : (own : Process) (p : Process) (outputs more : List OutputView) (old now new : OutgoingView)
    → AreSentTo own p (sent_to p outputs) old now → waiting_for new p ≡ waiting_for now p → sent_to p more ≡ []
    → AreSentTo own p (sent_to p (outputs ++ more)) old new
same_sent own p outputs more old now new is waits none =
    let same : sent_to p (outputs ++ more) ≡ sent_to p outputs = sent-both p outputs more
    ∙ ap (λ (l : List LinkRecord). sent_to p outputs ++ l) none ∙ append-nil (sent_to p outputs) in
    subst (λ (l : List LinkRecord). AreSentTo own p l old new) (sym same) (record {
      first = is.first ∙ ap (λ (l : List LinkRecord). sent_to p outputs ++ l) (sym (ap (flat_map (left_of own p)) waits));
      few = is.few;
      most = elim is.most [ inl full ↦ inl full | inr empty ↦ inr (waits ∙ empty) ];
    })

-- a process is sent its records
now_sent : (own : Process) (p : Process) (outputs : List OutputView) (records : List LinkRecord) (old now new : OutgoingView)
    → HasLink p → sent_to p outputs ≡ [] → waiting_for now p ≡ waiting_for old p → AreSentTo own p records now new
    → AreSentTo own p (sent_to p (outputs ++ sends_to p records)) old new
now_sent own p outputs records old now new link none waits is =
    let same : sent_to p (outputs ++ sends_to p records) ≡ records = sent-both p outputs (sends_to p records)
    ∙ ap (λ (l : List LinkRecord). l ++ sent_to p (sends_to p records)) none ∙ sent-sends p p records
    ∙ ap (λ (b : Bool). cond b records []) (link-self p link) in
    subst (λ (l : List LinkRecord). AreSentTo own p l old new) (sym same) (record {
      first = sym (ap (flat_map (left_of own p)) waits) ∙ is.first;
      few = is.few;
      most = is.most;
    })

other_place : (p to : Process) (place : ℕ) → HasLink p → HasLink to → place_of to ≡ place → (place_of p ≡ place → ⊥) → p ≢ to
other_place p to place link also at elsewhere same = absurd (elsewhere (ap place_of same ∙ at))

same_place : (p to : Process) → HasLink p → HasLink to → place_of p ≡ place_of to → p ≡ to
same_place p to link also same = sym (in_place p link) ∙ ap process_at same ∙ in_place to also

-- the next place
pub all_more : (own : ℕ) (to : Process) (old now new : OutgoingView) (before out after : List ℕ) (place : ℕ)
    → IsSendingAll own old now before out place → HasLink to → place_of to ≡ place → SendsSome own to now new out after
    → IsSendingAll own old new before after (place + 1)
all_more own to old now new before out after place so_far link_to at one = record {
  outputs = so_far.outputs ++ sends_to to one.records;
  sends = sends_both so_far.outputs (sends_to to one.records) so_far.sends (all_sends to one.records link_to);
  done = λ p link small. elim (test (nat_lt (place_of p) place)) [
    | inl earlier ↦
        let below : place_of p < place = grind (arith, nat_tests, earlier) in
        let other : p ≢ to = other_place p to place link link_to at (λ e. omega (arith, below, e)) in
        same_sent (Server own) p so_far.outputs (sends_to to one.records) old now new (so_far.done p link below) (one.others p other)
        (not_sent p other)
    | inr later ↦
        let not_below : place ≤ place_of p = grind (arith, nat_tests, later) in
        let here : place_of p ≡ place_of to = omega (arith, not_below, small, at) in
        let is : to ≡ p = sym (same_place p to link link_to here) in
        let left = so_far.left p link not_below in
        subst (λ (q : Process). AreSentTo (Server own) p (sent_to p (so_far.outputs ++ sends_to q one.records)) old new) (sym is)
        (now_sent (Server own) p so_far.outputs one.records old now new link left.0 left.1
        (subst (λ (q : Process). AreSentTo (Server own) q one.records now new) is one.sent))
  ];
  left = λ p link large.
      let other : p ≢ to = other_place p to place link link_to at (λ e. omega (arith, large, e)) in
      let left = so_far.left p link (omega (arith, large)) in (
        sent-both p so_far.outputs (sends_to to one.records)
            ∙ ap (λ (l : List LinkRecord). l ++ sent_to p (sends_to to one.records)) left.0 ∙ not_sent p other,
        one.others p other ∙ left.1,
      );
  text = one.text
      ∙ ap (λ (t : List ℕ). t ++ outputs_text (sends_to to one.records)) so_far.text
      ∙ append_assoc before (outputs_text so_far.outputs) (outputs_text (sends_to to one.records))
      ∙ ap (λ (t : List ℕ). before ++ t) (sym (flat_map-append output.spell so_far.outputs (sends_to to one.records)));
}
  where
    not_sent : (p : Process) → p ≢ to → sent_to p (sends_to to one.records) ≡ []
    not_sent p other = sent-sends p to one.records ∙ ap (λ (b : Bool). cond b one.records []) (link_other p to other)

pub all_done : (own : ℕ) (old now : OutgoingView) (before out : List ℕ)
    → IsSendingAll own old now before out PROCESSES → SendsAll own old now before out
all_done own old now before out so_far = record {
  outputs = so_far.outputs;
  sends = (so_far.sends, λ p link. so_far.done p link link.1);
  text = so_far.text;
}

-- a process in a place after the master's has a link
pub has_link : (place : ℕ) → 1 ≤ place → place < PROCESSES → HasLink (process_at place)
has_link place some small =
    let at = place_of-process_at place small in
    (omega (arith, at, some), omega (arith, at, small))

-- a record that is too long waited from the beginning
pub any_long : (own : ℕ) (to : Process) (old now : OutgoingView) (before out : List ℕ) (place : ℕ) (error : WriteError)
    → IsSendingAll own old now before out place → HasLink to → place_of to ≡ place → IsSendFault own to now error → IsAnySendFault own old error
any_long own to old now before out place Memory so_far link at long = tt
any_long own to old now before out place TooLong so_far link at long =
    let left = so_far.left to link (omega (arith, at)) in
    (to, (long.0, long.1, long.2, sym (ap (flat_map (left_of (Server own) to)) left.1) ∙ long.3, long.4))
