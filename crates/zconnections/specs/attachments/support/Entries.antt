-- The entries of a table, in the order of ids.
use Rattle.std.specs.Prelude.{ℕ, ◌||◌, List, None, Some, if◌then◌else◌}
use Rattle.std.specs.List.{filter_map}
use Rattle.zconnections.specs.declared.attachments.attachment.Attachment.{Attachment}

-- the ids of the touched entries
abbrev pub touched_among : List (ℕ × Attachment) → List ℕ
touched_among entries = filter_map (λ e. if e.1.is_touched || e.1.was_touched then Some e.0 else None) entries
