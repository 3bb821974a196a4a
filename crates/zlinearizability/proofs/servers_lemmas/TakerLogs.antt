-- A server takes a message of another server: what it would hold in the end stays, and what it shows first grows.
use Rattle.std.proofs.Common.{◌≡◌, ◌⊎◌, ℕ, ◌==◌, List, ◌∷◌, drop, Option, Some, None, refl, sym, ap, ◌∙◌, subst, inl, inr, eqb-true, eq-eqb}
use Rattle.zcalls.specs.declared.call.Entry.{Entry}
use Rattle.zcalls.specs.Cached.{Plain}
use Rattle.zcalls.proofs.Among.{test}
use Rattle.zprotocol.specs.declared.process.Process.TheVariants.{Server}
use Rattle.zprotocol.specs.server.View.{ServerView, Neighbour}
use Rattle.zprotocol.specs.server.Table.{server_step}
use Rattle.zprotocol.proofs.server_lemmas.Cases.{server_case}
use Rattle.zlinearizability.specs.legal.Prefix.{IsPrefix}
use Rattle.zlinearizability.proofs.legal_lemmas.lists.Prefixes.{prefix_same}
use Rattle.zlinearizability.specs.chain.Flow.{log_machine, LogWorld, LogMessage, Log, log_with_message, flow, snapshot_of}
use Rattle.zlinearizability.specs.chain.Flow.{first_snapshot, or_else, log_at, final_log_by, final_log, first_snapshot_by}
use Rattle.zlinearizability.specs.chain.Flow.{first_log}
use Rattle.zlinearizability.specs.chain.Last.{HasExactLast}
use Rattle.zlinearizability.proofs.chain_lemmas.flow.Flow.{Grows, flowed_grows, flowed_first}
use Rattle.zlinearizability.proofs.chain_lemmas.links.Links.{at_same}
use Rattle.zlinearizability.proofs.chain_lemmas.steps.Takes.{takes_flows, takes_stays, neighbours_stay, front_here, front_not_from, with_view}

-- a predecessor is this server, or isn't
is_pred : (pred : Option Neighbour) (p : ℕ) → ((k : ℕ) × (pred ≡ Some (p, k))) ⊎ ((k : ℕ) → pred ≡ Some (p, k) → ⊥)
is_pred None p = inr (λ k e. cc)
is_pred (Some pred) p = elim (test (pred.0 == p)) [
  | inl t ↦ let same : pred.0 ≡ p = eqb-true _ _ t in inl (pred.1, λ i. Some (same i, pred.1))
  | inr f ↦ inr (λ k e. let both : pred ≡ (p, k) = cc e in let same : pred.0 ≡ p = ap (λ (q : Neighbour). q.0) both in cc (f, eq-eqb pred.0 p same))
]

module _ {P : Type 0} (plain : Plain P) (w : LogWorld) (p y : ℕ) (m : LogMessage) (rest : List LogMessage)
    (link : w.links (Server p) (Server y) ≡ m ∷ rest) (exact : HasExactLast (w.servers y)) where
  abbrev old : ServerView (List Entry)
  old = w.servers y

  abbrev new : ServerView (List Entry)
  new = (server_step (log_machine plain) (w.servers y) (Server p) m).0

  abbrev w1 : LogWorld
  w1 = with_view w (Server p) y (server_step (log_machine plain) (w.servers y) (Server p) m).0

  same_pred : new.pred ≡ old.pred
  same_pred = (neighbours_stay plain old (Server p) m (server_step (log_machine plain) old (Server p) m)
      (server_case (log_machine plain) old (Server p) m) refl).0

  view_here : w1.servers y ≡ new
  view_here = at_same y new w.servers

  link_here : w1.links (Server p) (Server y) ≡ rest
  link_here = front_here w.links (Server p) (Server y) ∙ ap (drop 1) link

  -- a log that is there grows
  grows_from : (log : List Entry) (machine : Log) → machine ≡ Some log → (k : ℕ) → Grows log (log_with_message k machine m)
  grows_from log machine is k = subst (λ l. Grows log (log_with_message k l m)) (sym is) (flowed_grows k log m)

  -- the log of the taker grows
  pub taker_grows : (log : List Entry) → log_at w y ≡ Some log → Grows log new.machine
  taker_grows log is = elim (is_pred old.pred p) [
    | inl h ↦ subst (Grows log) (sym (takes_flows plain old p h.0 m exact h.1)) (grows_from log old.machine is h.0)
    | inr other ↦ subst (Grows log) (sym (takes_stays plain old p m other)) (log, is, prefix_same log)
  ]

  -- what it would hold in the end
  final_log_here : (log : Log) (pred : Option Neighbour) → new.machine ≡ log → new.pred ≡ pred → final_log w1 y ≡ final_log_by w1 y log pred
  final_log_here log pred a b = ap (λ (u : ServerView (List Entry)). final_log_by w1 y u.machine u.pred) view_here
      ∙ (λ i. final_log_by w1 y (a i) (b i))

  others : (pred : Option Neighbour) → ((k : ℕ) → pred ≡ Some (p, k) → ⊥) → (log : Log) → final_log_by w1 y log pred ≡ final_log_by w y log pred
  others None other log = refl
  others (Some pred) other log = elim (test (pred.0 == p)) [
    | inl t ↦ let same : pred.0 ≡ p = eqb-true _ _ t in absurd (other pred.1 (λ i. Some (same i, pred.1)))
    | inr f ↦ ap (flow pred.1 log) (front_not_from w.links (Server p) (Server y) (Server pred.0) (Server y) f)
  ]

  -- it would hold in the end what it would have held
  pub final_log_taker : final_log w1 y ≡ final_log w y
  final_log_taker = elim (is_pred old.pred p) [
    | inl h ↦
        final_log_here (log_with_message h.0 old.machine m) (Some (p, h.0)) (takes_flows plain old p h.0 m exact h.1) (same_pred ∙ h.1)
        ∙ ap (flow h.0 (log_with_message h.0 old.machine m)) link_here
        ∙ sym (ap (flow h.0 old.machine) link)
        ∙ sym (ap (final_log_by w y old.machine) h.1)
    | inr other ↦ final_log_here old.machine old.pred (takes_stays plain old p m other) same_pred ∙ others old.pred other old.machine
  ]

  -- what it shows first
  first_others : (pred : Option Neighbour) → ((k : ℕ) → pred ≡ Some (p, k) → ⊥) → first_snapshot_by w1 y pred ≡ first_snapshot_by w y pred
  first_others None other = refl
  first_others (Some pred) other = elim (test (pred.0 == p)) [
    | inl t ↦ let same : pred.0 ≡ p = eqb-true _ _ t in absurd (other pred.1 (λ i. Some (same i, pred.1)))
    | inr f ↦ ap (first_snapshot pred.1) (front_not_from w.links (Server p) (Server y) (Server pred.0) (Server y) f)
  ]

  first_log_here : (log : Log) (pred : Option Neighbour) → new.machine ≡ log → new.pred ≡ pred → first_log w1 y
      ≡ or_else log (first_snapshot_by w1 y pred)
  first_log_here log pred a b = ap (λ (u : ServerView (List Entry)). or_else u.machine (first_snapshot_by w1 y u.pred)) view_here
      ∙ (λ i. or_else (a i) (first_snapshot_by w1 y (b i)))

  -- without a log it shows what it did
  first_log_empty : old.machine ≡ None → first_log w1 y ≡ first_log w y
  first_log_empty none = elim (is_pred old.pred p) [
    | inl h ↦
        first_log_here (snapshot_of h.0 m) (Some (p, h.0)) (takes_flows plain old p h.0 m exact h.1
        ∙ ap (λ l. log_with_message h.0 l m) none ∙ flowed_first h.0 m) (same_pred ∙ h.1)
        ∙ ap (λ l. or_else (snapshot_of h.0 m) (first_snapshot h.0 l)) link_here
        ∙ sym (ap (first_snapshot h.0) link)
        ∙ sym (λ i. or_else (none i) (first_snapshot_by w y (h.1 i)))
    | inr other ↦
        first_log_here old.machine old.pred (takes_stays plain old p m other) same_pred ∙ ap (or_else old.machine) (first_others old.pred other)
  ]

  -- with one it shows more
  first_log_more : (mine : List Entry) → old.machine ≡ Some mine → (log : List Entry) → first_log w1 y ≡ Some log
      → (shown : List Entry) × (first_log w y ≡ Some shown) × IsPrefix shown log
  first_log_more mine is log h =
      let more = taker_grows mine is in
      let now : first_log w1 y ≡ Some more.0 = first_log_here (Some more.0) new.pred more.1 refl in
      let same : more.0 ≡ log = (let e : Some more.0 ≡ Some log = sym now ∙ h in cc e) in
      (mine, ap (λ l. or_else l (first_snapshot_by w y old.pred)) is, subst (IsPrefix mine) same more.2)

  -- so what it shows first begins with what it showed
  pub first_log_taker : (log : List Entry) → first_log w1 y ≡ Some log → (shown : List Entry) × (first_log w y ≡ Some shown) × IsPrefix shown log
  first_log_taker log h = by old.machine refl
    where
      by : (machine : Log) → old.machine ≡ machine → (shown : List Entry) × (first_log w y ≡ Some shown) × IsPrefix shown log
      by None none = (log, sym (first_log_empty none) ∙ h, prefix_same log)
      by (Some mine) is = first_log_more mine is log h
