-- How what a writer of snapshots represents is stored, by the codes of its parts: a proof
-- distinguishes two of them by these.
use Rattle.std.specs.Prelude.{ℕ, refl}
use Rattle.std.specs.Coded.{Coded, code_by, coded×, coded_ℕ}
use Rattle.ztree.specs.Tree.{Tree}
use Rattle.ztree.specs.support.Codes.{coded_tree}
use Rattle.zsnapshots.specs.folder.Compaction.{CompactionView}

abbrev pub coded_compaction : Coded CompactionView
coded_compaction = code_by (Tree × ℕ) (coded× coded_tree coded_ℕ) (λ s. (s.tree, s.written)) (λ p. record { tree = p.0; written = p.1 }) (λ _. refl)
