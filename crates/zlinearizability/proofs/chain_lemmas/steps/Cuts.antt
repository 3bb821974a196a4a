-- Channels lose their ends: what is in flight leads to a beginning of what it would have led to, and
-- all else stays.
use Rattle.std.proofs.Common.{◌≡◌, ℕ, List, take, drop, Option, Some, None, refl, sym, ap, ◌∙◌, take-append-drop}
use Rattle.zcalls.specs.declared.call.Entry.{Entry}
use Rattle.zcalls.specs.Lists.{Among}
use Rattle.zcalls.specs.Cached.{Plain}
use Rattle.zprotocol.specs.declared.process.Process.{Process}
use Rattle.zprotocol.specs.declared.process.Process.TheVariants.{Master, Server, Client}
use Rattle.zprotocol.specs.server.View.{Neighbour}
use Rattle.zlinearizability.proofs.legal_lemmas.lists.Members.{among_take}
use Rattle.zlinearizability.proofs.legal_lemmas.lists.Prefixes.{prefix_same, prefix_of}
use Rattle.zlinearizability.specs.chain.Flow.{LogWorld, LogMessage, Log, flow, first_snapshot, or_else, log_at, final_log_by, first_snapshot_by}
use Rattle.zlinearizability.specs.chain.Last.{LastsAreLengths}
use Rattle.zlinearizability.specs.chain.Account.{Account}
use Rattle.zlinearizability.specs.chain.Sound.{IsSound}
use Rattle.zlinearizability.specs.Cuts.{Stays, cut_links, cut}
use Rattle.zlinearizability.proofs.chain_lemmas.flow.Flow.{flow_more, first_more, flow_below, IsBelow, Grows}
use Rattle.zlinearizability.proofs.chain_lemmas.links.LaterWorlds.{justified_later}

-- what a log is below of is a longer one
below_grows : (log : List Entry) (new : Log) → IsBelow (Some log) new → Grows log new
below_grows log None h = absurd h
below_grows log (Some new) h = (new, refl, h)

-- what flows of a beginning begins what flows of all
flow_take : (k n : ℕ) (log : Log) (ms : List LogMessage) (shorter : List Entry) → flow k log (take n ms) ≡ Some shorter
    → Grows shorter (flow k log ms)
flow_take k n log ms shorter is =
    let e : flow k log ms ≡ flow k (Some shorter) (drop n ms) =
    ap (flow k log) (sym (take-append-drop n ms)) ∙ flow_more k log (take n ms) (drop n ms) ∙ ap (λ l. flow k l (drop n ms)) is in
    let g = below_grows shorter (flow k (Some shorter) (drop n ms)) (flow_below k (Some shorter) (drop n ms)) in
    (g.0, e ∙ g.1, g.2)

-- the first whole log of a beginning is that of all
first_take : (k n : ℕ) (ms : List LogMessage) (log : List Entry) → first_snapshot k (take n ms) ≡ Some log → first_snapshot k ms ≡ Some log
first_take k n ms log is =
    ap (first_snapshot k) (sym (take-append-drop n ms)) ∙ first_more k (take n ms) (drop n ms) ∙ ap (λ l. or_else l (first_snapshot k (drop n ms))) is

or_else_with : (own few all : Log) (log : List Entry) → ((l : List Entry) → few ≡ Some l → all ≡ Some l)
    → or_else own few ≡ Some log → or_else own all ≡ Some log
or_else_with None few all log f is = f log is
or_else_with (Some own) few all log f is = is

-- what is in flight on a cut link was in flight
pub cut_among : (w : LogWorld) (stays : Stays) (from to : Process) (m : LogMessage) → Among m (cut_links stays w.links from to)
    → Among m (w.links from to)
cut_among w stays Master to m a = a
cut_among w stays (Server x) to m a = among_take (stays (Server x) to) (w.links (Server x) to) m a
cut_among w stays (Client c) to m a = among_take (stays (Client c) to) (w.links (Client c) to) m a

-- last numbers stay the lengths of logs
pub cut_lasts : (w : LogWorld) (stays : Stays) → LastsAreLengths w → LastsAreLengths (cut stays w)
cut_lasts w stays h = record { views = h.views; under_way = λ from to m a. h.under_way from to m (cut_among w stays from to m a) }

module _ {P : Type 0} (plain : Plain P) (t : Account) (s : IsSound plain t) (stays : Stays) where
  abbrev w : LogWorld
  w = t.world

  abbrev cut_world : LogWorld
  cut_world = cut stays t.world

  cut_final : (y : ℕ) (log : Log) (pred : Option Neighbour) (shorter : List Entry) → final_log_by cut_world y log pred
      ≡ Some shorter → Grows shorter (final_log_by w y log pred)
  cut_final y log None shorter is = (shorter, is, prefix_same shorter)
  cut_final y log (Some pred) shorter is = flow_take pred.1 (stays (Server pred.0) (Server y)) log (w.links (Server pred.0) (Server y)) shorter is

  cut_first : (z : ℕ) (pred : Option Neighbour) (log : List Entry) → first_snapshot_by cut_world z pred ≡ Some log
      → first_snapshot_by w z pred ≡ Some log
  cut_first z None log is = is
  cut_first z (Some pred) log is = first_take pred.1 (stays (Server pred.0) (Server z)) (w.links (Server pred.0) (Server z)) log is

  -- all facts hold without the ends
  pub cut_sound : IsSound plain (record t { world = cut_world })
  cut_sound = record {
    distinct = s.distinct;
    used = s.used;
    blank = s.blank;
    live = s.live;
    line = s.line;
    successors = s.successors;
    epochs = s.epochs;
    tail_orders = s.tail_orders;
    ordered = λ x y before log is. let g = cut_final y (log_at w y) (w.servers y).pred log is in let h = s.ordered x y before g.0 g.1 in
        record {
          own = h.own;
          holds = h.holds;
          begins = prefix_of log g.0 h.own g.2 h.begins;
          has_successor = h.has_successor;
          no_tail_order = h.no_tail_order;
        };
    committed = λ z log member is. s.committed z log member
        (or_else_with (log_at w z) (first_snapshot_by cut_world z (w.servers z).pred) (first_snapshot_by w z (w.servers z).pred)
        log (cut_first z (w.servers z).pred) is);
    tail = s.tail;
    sent = s.sent;
    begun = s.begun;
    committed_begun = s.committed_begun;
    justified = λ p q m a. justified_later w cut_world t.items t.items
        (record { begun = λ o h. h; given = λ i h. h; opened = λ z k h. h; failed = λ z h. h }) p q m
        (s.justified p q m (cut_among w stays p q m a));
    acted = s.acted;
    replays = s.replays;
    rising = s.rising;
    in_time = s.in_time;
    answered = s.answered;
    once = s.once;
    numbered = s.numbered;
    waits = s.waits;
  }
