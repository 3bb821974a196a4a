-- What an audit has found, from what it has replayed; and what it can't find of lawful traces.
use Rattle.std.proofs.Common.{◌≡◌, ℕ, true, false, List, [], sym, ap, ◌∙◌, inl, inr}
use Rattle.std.specs.Prelude.{nat_lt}
use Rattle.ztree.specs.Tree.{Tree}
use Rattle.zcalls.specs.Cached.{CachedState}
use Rattle.zprotocol.specs.declared.process.Process.{Process}
use Rattle.zprotocol.specs.server.Machine.{cached_tree}
use Rattle.zprotocol.specs.world.World.{World}
use Rattle.zprotocol.specs.declared.traces.trace.Traces.{Traces}
use Rattle.zprotocol.specs.traces.Traces.{trace_of, record_of, client_count, reported_of, AgreesWithRecords, stamps_rise}
use Rattle.zprotocol.specs.traces.Lawful.{AreLawful}
use Rattle.zprotocol.specs.traces.Audit.{world_after_steps, IsRunOf, IsFound, IsDisordered, IsMismatched}
use Rattle.zprotocol.specs.traces.support.Places.{rest_of, HasReplayed, IsAllRead}
use Rattle.zprotocol.proofs.traces_lemmas.Merging.{merges_left}
use Rattle.zprotocol.proofs.traces_lemmas.Simulation.{lawful_in_place, lawful_reported, lawful_stamps_rise}

module _ (t : Traces) (read : List ℕ) (w : World (CachedState Tree)) (replayed : HasReplayed t read w) (all : IsAllRead t read)
    (rise : (p : Process) → stamps_rise (trace_of t p) ≡ true) where
  is_run : IsRunOf t replayed.0
  is_run = record { rise = rise; merge = merges_left (trace_of t) replayed.0 (rest_of t read) (λ p. []) replayed.1 all; in_place = replayed.2 }

  reported : w.history ≡ (world_after_steps t replayed.0).history
  reported = ap (λ (v : World (CachedState Tree)). v.history) (sym replayed.3)

  pub found_by : AgreesWithRecords t w.history → IsFound t w.history
  found_by agrees = record { steps = replayed.0; run = is_run; reported = sym reported; agrees = agrees }

  pub mismatched_by : (c : ℕ) → nat_lt c (client_count t) ≡ true → (reported_of c w.history ≡ record_of t c → ⊥) → IsMismatched t
  mismatched_by c there differs = (replayed.0, is_run, c, there, λ same. differs (ap (reported_of c) reported ∙ same))

pub lawful_not_disordered : (t : Traces) → AreLawful t → IsDisordered t → ⊥
lawful_not_disordered t lawful (inl p) =
    let both : true ≡ false = sym (lawful_stamps_rise cached_tree t lawful.0 lawful.1 p.0) ∙ p.1 in
    absurd (cc both)
lawful_not_disordered t lawful (inr steps) =
    let both : true ≡ false = sym (lawful_in_place cached_tree t lawful.0 steps.0 lawful.1 steps.1) ∙ steps.2 in
    absurd (cc both)

pub lawful_not_mismatched : (t : Traces) → AreLawful t → IsMismatched t → ⊥
lawful_not_mismatched t lawful found = found.4 (lawful_reported cached_tree t lawful.0 found.0 lawful.1 found.1.merge found.2)
