-- Sessions that are put into tables, one after the other.
use Rattle.std.proofs.Common.{◌≡◌, ◌∙◌, ℕ, ◌+◌, ◌<◌, ◌≤◌, List, length, drop, get_or, sym, ap}
use Rattle.std.proofs.lemmas.List.{drop_all}
use Rattle.std.specs.FinMap.{insert}
use Rattle.zconnections.specs.attachments.Attachments.{restored_attachment}
use Rattle.zconnections.specs.Tables.{TablesView}
use Rattle.zwatches.specs.declared.limits.WatchLimits.{WatchLimits}
use Rattle.zfront.specs.Restoring.{seated, tables_of}
use Rattle.zfront.proofs.Asked.{ahead}

-- the tables, once the sessions from a position on are put in
abbrev pub with_rest : List ℕ → ℕ → TablesView → TablesView
with_rest sessions i t = record t { attachments = seated (drop i sessions) t.attachments }

pub sessions_more : (limits : WatchLimits) (sessions : List ℕ) (i session : ℕ) (old new : TablesView) → i < length sessions → session ≡ get_or sessions i session
    → new ≡ record old { attachments = insert old.attachments session restored_attachment } → with_rest sessions i old ≡ tables_of limits sessions
    → with_rest sessions (i + 1) new ≡ tables_of limits sessions
sessions_more limits sessions i session old new below here is so_far =
    ap (with_rest sessions (i + 1)) is
    ∙ ap (λ (rest : List ℕ). record old { attachments = seated rest old.attachments }) (sym (ahead sessions i session below here))
    ∙ so_far

pub sessions_end : (limits : WatchLimits) (sessions : List ℕ) (i : ℕ) (t : TablesView) → length sessions ≤ i → with_rest sessions i t ≡ tables_of limits sessions → t ≡ tables_of limits sessions
sessions_end limits sessions i t over so_far =
    ap (λ (rest : List ℕ). record t { attachments = seated rest t.attachments }) (sym (drop_all i sessions over)) ∙ so_far
