-- What a crash leaves in the steps that change a file, one call after the other.
use Rattle.std.proofs.Common.{◌≡◌, inl, inr, ℕ, ◌+◌, ◌<◌, ◌≤◌, List, [], ◌∷◌, ◌++◌, length, take, drop, ◌∙◌, ap}
use Rattle.zjournal.specs.Device.{Holds, Torn, Cut, LeavesOnly}
use Rattle.zjournal.specs.CommitBytes.{IsClosing, IsOpening, IsAdding}
use Rattle.zjournal.specs.Journal.{head, IsUnmade, Represents}
use Rattle.zjournal.proofs.Moments.{joined_runs, weaker}
use Rattle.zjournal.proofs.Steps.{closing_cut, closing_commit_byte, opening_commit_byte, staging, staged, staged_front, staged_back}
use Rattle.zjournal.proofs.Files.{closing_unmade, adding_head}

module _ {D : Type 0} (moment : D → ℕ) (left_since : D → ℕ → List ℕ → Type 0) (old mid : D) (file : List ℕ) where
  -- the end is cut
  pub cut_leaves : (end : ℕ) → end ≤ length file → LeavesOnly moment left_since old mid (Cut end file)
      → LeavesOnly moment left_since old mid (IsClosing file end)
  cut_leaves end within run = weaker moment left_since old mid (Cut end file) (IsClosing file end) run (closing_cut file end within)

  -- and closed
  pub close_leaves : (end : ℕ) (within : end ≤ length file) (front : List ℕ) → front ≡ take end file
      → LeavesOnly moment left_since old mid (Cut end file)
      → (new : D) → LeavesOnly moment left_since mid new (Torn end 1 front) → LeavesOnly moment left_since old new (IsClosing file end)
  close_leaves end within front is first new second =
      joined_runs moment left_since old mid new (IsClosing file end) (cut_leaves end within first)
      (weaker moment left_since mid new (Torn end 1 front) (IsClosing file end) second (λ c torn. closing_commit_byte file end within front c is torn))

  -- a commit_byte is opened
  pub open_leaves : (commit_byte : ℕ) → commit_byte < length file → LeavesOnly moment left_since old mid (Torn commit_byte 1 file)
      → LeavesOnly moment left_since old mid (IsOpening (take commit_byte file) (drop (commit_byte + 1) file))
  open_leaves commit_byte within run = weaker moment left_since old mid (Torn commit_byte 1 file) (IsOpening (take commit_byte file) (drop (commit_byte + 1) file))
      run (opening_commit_byte file commit_byte within)

  -- a block is written after the closed commit_byte
  module _ (commit_byte : ℕ) (closed : drop commit_byte file ≡ 0 ∷ []) (block : List ℕ) where
    pub stage_leaves : LeavesOnly moment left_since old mid (Torn (commit_byte + 1) (length block) file)
        → LeavesOnly moment left_since old mid (IsAdding (take commit_byte file) block)
    stage_leaves run = weaker moment left_since old mid (Torn (commit_byte + 1) (length block) file) (IsAdding (take commit_byte file) block)
        run (λ c torn. inl (staging file commit_byte closed (length block) c torn))

    -- and its commit_byte is opened
    pub add_leaves : (wrote : List ℕ) → Holds file (commit_byte + 1) block wrote → LeavesOnly moment left_since old mid (Torn (commit_byte + 1) (length block) file)
        → (new : D) → LeavesOnly moment left_since mid new (IsOpening (take commit_byte wrote) (drop (commit_byte + 1) wrote))
        → LeavesOnly moment left_since old new (IsAdding (take commit_byte file) block)
    add_leaves wrote holds first new second =
        let is = staged file commit_byte closed block wrote holds in
        joined_runs moment left_since old mid new (IsAdding (take commit_byte file) block) (stage_leaves first)
        (weaker moment left_since mid new (IsOpening (take commit_byte wrote) (drop (commit_byte + 1) wrote)) (IsAdding (take commit_byte file) block) second
        (λ c o. inr (
          o.0,
          o.1 ∙ ap (λ (l : List ℕ). l ++ o.0 ∷ drop (commit_byte + 1) wrote) (staged_front file commit_byte closed block wrote is)
              ∙ ap (λ (l : List ℕ). take commit_byte file ++ o.0 ∷ l) (staged_back file commit_byte closed block wrote is),
        )))

  -- a file is made
  module _ (servers : ℕ) (some : 0 < servers) (unmade : IsUnmade servers file) where
    pub clear_leaves : LeavesOnly moment left_since old mid (IsClosing file 0) → LeavesOnly moment left_since old mid (Represents servers [])
    clear_leaves run = weaker moment left_since old mid (IsClosing file 0) (Represents servers []) run
        (λ c closing. closing_unmade servers some file c unmade closing)

    pub make_leaves : (block : List ℕ) → block ≡ head 1 servers ++ 0 ∷ 0 ∷ [] → LeavesOnly moment left_since old mid (IsClosing file 0)
        → (new : D) → LeavesOnly moment left_since mid new (IsAdding [] block) → LeavesOnly moment left_since old new (Represents servers [])
    make_leaves block is first new second =
        joined_runs moment left_since old mid new (Represents servers []) (clear_leaves first)
        (weaker moment left_since mid new (IsAdding [] block) (Represents servers []) second (λ c adding. adding_head servers some block c is adding))

-- what a step leaves that is done
module _ (file : List ℕ) (commit_byte : ℕ) (closed : drop commit_byte file ≡ 0 ∷ []) (block wrote new : List ℕ) where
  pub block_added : Holds file (commit_byte + 1) block wrote → new ≡ take commit_byte wrote ++ 1 ∷ drop (commit_byte + 1) wrote → new ≡ take commit_byte file ++ 1 ∷ block
  block_added holds opened =
      let is = staged file commit_byte closed block wrote holds in
      opened ∙ ap (λ (l : List ℕ). l ++ 1 ∷ drop (commit_byte + 1) wrote) (staged_front file commit_byte closed block wrote is)
      ∙ ap (λ (l : List ℕ). take commit_byte file ++ 1 ∷ l) (staged_back file commit_byte closed block wrote is)
