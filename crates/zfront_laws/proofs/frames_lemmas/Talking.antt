-- One talk after another: its frames are those of both, and so are its answers and its log.
use Rattle.std.proofs.Common.{◌≡◌, ◌⊎◌, inl, inr, ◌∙◌, ℕ, ◌≤◌, Bool, true, List, [], ◌∷◌, ◌++◌, length, None, Some}
use Rattle.std.proofs.Common.{refl, sym, ap, subst, append_assoc, arith}
use Rattle.std.specs.Option.{MatchOption}
use Rattle.std.proofs.lemmas.List.{append-nil}
use Rattle.ztree.specs.Tree.{Tree}
use Rattle.zcalls.specs.declared.reply.Reply.TheVariants.{Opened}
use Rattle.zresponses.specs.declared.clock.Clock.{Clock}
use Rattle.ztree_service.specs.log.Logs.{Log}
use Rattle.zfront.specs.Front.{FrontView}
use Rattle.zfront.specs.Greeting.{opening}
use Rattle.zfront.specs.Words.{word_in, text_of_word}
use Rattle.zfront_laws.specs.frames.Talk.{Talk, Quiet, Reports, Answers, Closes, is_closed, IsAnswer, tree_behind, Answered}
use Rattle.zfront_laws.specs.frames.Talk.{IsOpened, IsReturned, IsWelcome, IsTurnedAway, Greeted, SaysText, IsTalk}
use Rattle.zfront_laws.proofs.frames_lemmas.Views.{followed}
use Rattle.zfront_laws.proofs.frames_lemmas.Calm.{IsCalm}

-- the tree after two logs
pub behind-both : (tree : Tree) (log more : Log) → tree_behind (tree_behind tree log) more ≡ tree_behind tree (log ++ more)
behind-both tree [] more = refl
behind-both tree (reported ∷ log) more = behind-both (tree_behind tree (reported ∷ [])) log more

-- the same clock, secret and tree
module _ {k clock : Clock} {s secret : List ℕ} {t u : Tree} (clocks : k ≡ clock) (secrets : s ≡ secret) (trees : t ≡ u) (session : ℕ) (log : Log)
    (frames : List (List ℕ)) (talk : Talk) where
  pub answered_as : Answered k s session t log frames talk → Answered clock secret session u log frames talk
  answered_as has =
      subst (λ (x : Tree). Answered clock secret session x log frames talk) trees
      (subst (λ (x : Clock). Answered x secret session t log frames talk) clocks
      (subst (λ (x : List ℕ). Answered k x session t log frames talk) secrets has))

  pub greeted_as : Greeted k s session t log frames talk → Greeted clock secret session u log frames talk
  greeted_as has =
      subst (λ (x : Tree). Greeted clock secret session x log frames talk) trees
      (subst (λ (x : Clock). Greeted x secret session t log frames talk) clocks
      (subst (λ (x : List ℕ). Greeted k x session t log frames talk) secrets has))

-- talks of a server with this clock and this secret
module _ (clock : Clock) (secret : List ℕ) where
  -- a log with more in front of it
  answer_deeper : (session : ℕ) (bytes reported : List ℕ) (tree : Tree) (more log : Log) → IsAnswer clock secret session bytes reported tree log
      → IsAnswer clock secret session bytes reported tree (more ++ log)
  answer_deeper session bytes reported tree more log a = record {
    asked = a.asked;
    answer = a.answer;
    before = more ++ a.before;
    part = a.part;
    reads = a.reads;
    frames = a.frames;
    stands = ap (λ (l : Log). more ++ l) a.stands ∙ sym (append_assoc more a.before a.part);
    says = a.says;
  }

  module _ (session : ℕ) where
    answered_deeper : (tree : Tree) (more log : Log) (frames : List (List ℕ)) (talk : Talk)
        → Answered clock secret session (tree_behind tree more) log frames talk
        → Answered clock secret session tree (more ++ log) frames talk
    answered_deeper tree more log frames Quiet has = has
    answered_deeper tree more log frames (Reports event talk) has = answered_deeper tree more log frames talk has
    answered_deeper tree more log frames (Answers reported talk) has =
        let same = behind-both tree more has.2 in (
          has.0,
          has.1,
          more ++ has.2,
          has.3,
          has.4,
          ap (λ (l : Log). more ++ l) has.5 ∙ sym (append_assoc more has.2 has.3),
          subst (λ (u : Tree). IsAnswer clock secret session has.0 reported u (more ++ has.2)) same
              (answer_deeper session has.0 reported (tree_behind (tree_behind tree more) has.2) more has.2 has.6),
          subst (λ (u : Tree). Answered clock secret session u has.3 has.1 talk) same has.7,
        )
    answered_deeper tree more log frames Closes has = has

    answered_wider : (tree : Tree) (log more : Log) (frames : List (List ℕ)) (talk : Talk) → Answered clock secret session tree log frames talk
        → Answered clock secret session tree (log ++ more) frames talk
    answered_wider tree log more frames Quiet has = has
    answered_wider tree log more frames (Reports event talk) has = answered_wider tree log more frames talk has
    answered_wider tree log more frames (Answers reported talk) has = (
      has.0,
      has.1,
      has.2,
      has.3 ++ more,
      has.4,
      ap (λ (l : Log). l ++ more) has.5 ∙ append_assoc has.2 has.3 more,
      has.6,
      answered_wider (tree_behind tree has.2) has.3 more has.1 talk has.7,
    )
    answered_wider tree log more frames Closes has = has

    -- after a close there are no frames
    pub answered_both : (tree : Tree) (log more : Log) (frames next : List (List ℕ)) (one two : Talk) → Answered clock secret session tree log frames one
        → Answered clock secret session (tree_behind tree log) more next two → (is_closed one ≡ true → next ≡ [])
        → Answered clock secret session tree (log ++ more) (frames ++ next) (followed one two)
    answered_both tree log more frames next Quiet two first second none =
        subst (λ fs. Answered clock secret session tree (log ++ more) (fs ++ next) two) (sym first) (answered_deeper tree log more next two second)
    answered_both tree log more frames next (Reports event one) two first second none = answered_both tree log more frames next one two first second none
    answered_both tree log more frames next (Answers reported one) two first second none =
        let same : tree_behind tree log ≡ tree_behind (tree_behind tree first.2) first.3 =
        ap (tree_behind tree) first.5 ∙ sym (behind-both tree first.2 first.3) in (
          first.0,
          first.1 ++ next,
          first.2,
          first.3 ++ more,
          ap (λ fs. fs ++ next) first.4,
          ap (λ (l : Log). l ++ more) first.5 ∙ append_assoc first.2 first.3 more,
          first.6,
          answered_both (tree_behind tree first.2) first.3 more first.1 next one two first.7
              (subst (λ (u : Tree). Answered clock secret session u more next two) same second) none,
        )
    answered_both tree log more frames next Closes two first second none =
        subst (λ fs. length (frames ++ fs) ≤ 1) (sym (none refl)) (subst (λ fs. length fs ≤ 1) (sym (append-nil frames)) first)

    -- where no frame is answered
    pub answered_calm : (speaking : Bool) (tree : Tree) (log : Log) (talk : Talk) → IsCalm speaking talk → Answered clock secret session tree log [] talk
    answered_calm speaking tree log Quiet calm = refl
    answered_calm speaking tree log (Reports event talk) calm = answered_calm speaking tree log talk calm.1
    answered_calm speaking tree log (Answers bytes talk) calm = absurd calm
    answered_calm speaking tree log Closes calm = omega arith

    -- and one frame that is answered after events
    pub answered_behind : (speaking : Bool) (tree : Tree) (log : Log) (bytes : List ℕ) (one two : Talk) → IsCalm speaking one
        → Answered clock secret session tree log (bytes ∷ []) two
        → Answered clock secret session tree log (bytes ∷ []) (followed one two)
    answered_behind speaking tree log bytes Quiet two calm has = has
    answered_behind speaking tree log bytes (Reports event one) two calm has = answered_behind speaking tree log bytes one two calm.1 has
    answered_behind speaking tree log bytes (Answers reported one) two calm has = absurd calm
    answered_behind speaking tree log bytes Closes two calm has = omega arith

    -- a greeting, and what is after it
    welcome_deeper : (bytes reported : List ℕ) (tree : Tree) (more log : Log) → IsWelcome clock secret session bytes reported tree log
        → IsWelcome clock secret session bytes reported tree (more ++ log)
    welcome_deeper bytes reported tree more log a = record { greeting = a.greeting; reads = a.reads; has = by a.has }
      where
        by : IsOpened clock secret session a.greeting log reported ⊎ IsReturned clock secret session a.greeting tree reported
            → IsOpened clock secret session a.greeting (more ++ log) reported ⊎ IsReturned clock secret session a.greeting tree reported
        by (inl one) =
            inl (
              more ++ one.0,
              one.1,
              one.2,
              ap (λ (l : Log). more ++ l) one.3 ∙ sym (append_assoc more one.0 ((opening clock.terms.tick a.greeting, Opened session one.1) ∷ [])),
              one.4,
            )
        by (inr other) = inr other

    abbrev Met : List ℕ → List ℕ → Tree → Log → Log → List (List ℕ) → Talk → Type 0
    Met bytes reported tree front behind rest talk =
        (IsWelcome clock secret session bytes reported (tree_behind tree front) front × Answered clock secret session (tree_behind tree front) behind rest talk)
        ⊎ (IsTurnedAway bytes reported × (rest ≡ []) × (talk ≡ Closes))

    met_wider : (bytes reported : List ℕ) (tree : Tree) (front behind more : Log) (rest : List (List ℕ)) (talk : Talk)
        → Met bytes reported tree front behind rest talk
        → Met bytes reported tree front (behind ++ more) rest talk
    met_wider bytes reported tree front behind more rest talk (inl one) = inl (one.0, answered_wider (tree_behind tree front) behind more rest talk one.1)
    met_wider bytes reported tree front behind more rest talk (inr other) = inr other

    met_deeper : (bytes reported : List ℕ) (tree : Tree) (more front behind : Log) (rest : List (List ℕ)) (talk : Talk)
        → Met bytes reported (tree_behind tree more) front behind rest talk
        → Met bytes reported tree (more ++ front) behind rest talk
    met_deeper bytes reported tree more front behind rest talk (inl one) =
        let same = behind-both tree more front in
        inl (
          subst (λ (u : Tree). IsWelcome clock secret session bytes reported u (more ++ front)) same
              (welcome_deeper bytes reported (tree_behind (tree_behind tree more) front) more front one.0),
          subst (λ (u : Tree). Answered clock secret session u behind rest talk) same one.1,
        )
    met_deeper bytes reported tree more front behind rest talk (inr other) = inr other

    met_both : (bytes reported : List ℕ) (tree : Tree) (front behind more : Log) (rest next : List (List ℕ)) (one two : Talk)
        → Met bytes reported tree front behind rest one
        → Answered clock secret session (tree_behind (tree_behind tree front) behind) more next two → (is_closed one ≡ true → next ≡ [])
        → Met bytes reported tree front (behind ++ more) (rest ++ next) (followed one two)
    met_both bytes reported tree front behind more rest next one two (inl is) second none =
        inl (is.0, answered_both (tree_behind tree front) behind more rest next one two is.1 second none)
    met_both bytes reported tree front behind more rest next one two (inr is) second none = inr (
      is.0,
      ap (λ fs. fs ++ next) is.1 ∙ none (ap is_closed is.2),
      ap (λ talk. followed talk two) is.2,
    )

    greeted_wider : (tree : Tree) (log more : Log) (frames : List (List ℕ)) (talk : Talk) → Greeted clock secret session tree log frames talk
        → Greeted clock secret session tree (log ++ more) frames talk
    greeted_wider tree log more frames Quiet has = has
    greeted_wider tree log more frames (Reports event talk) has = absurd has
    greeted_wider tree log more frames (Answers reported talk) has = (
      has.0,
      has.1,
      has.2,
      has.3 ++ more,
      has.4,
      ap (λ (l : Log). l ++ more) has.5 ∙ append_assoc has.2 has.3 more,
      met_wider has.0 reported tree has.2 has.3 more has.1 talk has.6,
    )
    greeted_wider tree log more frames Closes has = has

    pub greeted_deeper : (tree : Tree) (more log : Log) (frames : List (List ℕ)) (talk : Talk) → Greeted clock secret session (tree_behind tree more) log frames talk
        → Greeted clock secret session tree (more ++ log) frames talk
    greeted_deeper tree more log frames Quiet has = has
    greeted_deeper tree more log frames (Reports event talk) has = absurd has
    greeted_deeper tree more log frames (Answers reported talk) has = (
      has.0,
      has.1,
      more ++ has.2,
      has.3,
      has.4,
      ap (λ (l : Log). more ++ l) has.5 ∙ sym (append_assoc more has.2 has.3),
      met_deeper has.0 reported tree more has.2 has.3 has.1 talk has.6,
    )
    greeted_deeper tree more log frames Closes has = has

    none_there : (bytes : List ℕ) (frames : List (List ℕ)) → bytes ∷ frames ≡ [] → ⊥
    none_there bytes frames is = cc is

    pub greeted_both : (tree : Tree) (log more : Log) (bytes : List ℕ) (frames next : List (List ℕ)) (one two : Talk)
        → Greeted clock secret session tree log (bytes ∷ frames) one
        → Answered clock secret session (tree_behind tree log) more next two → (is_closed one ≡ true → next ≡ [])
        → Greeted clock secret session tree (log ++ more) (bytes ∷ (frames ++ next)) (followed one two)
    greeted_both tree log more bytes frames next Quiet two first second none = absurd (none_there bytes frames first)
    greeted_both tree log more bytes frames next (Reports event one) two first second none = absurd first
    greeted_both tree log more bytes frames next (Answers reported one) two first second none =
        let same : tree_behind tree log ≡ tree_behind (tree_behind tree first.2) first.3 =
        ap (tree_behind tree) first.5 ∙ sym (behind-both tree first.2 first.3) in (
          first.0,
          first.1 ++ next,
          first.2,
          first.3 ++ more,
          ap (λ fs. fs ++ next) first.4,
          ap (λ (l : Log). l ++ more) first.5 ∙ append_assoc first.2 first.3 more,
          met_both first.0 reported tree first.2 first.3 more first.1 next one two first.6
              (subst (λ (u : Tree). Answered clock secret session u more next two) same second) none,
        )
    greeted_both tree log more bytes frames next Closes two first second none =
        subst (λ fs. length (bytes ∷ (frames ++ fs)) ≤ 1) (sym (none refl)) (subst (λ fs. length (bytes ∷ fs) ≤ 1) (sym (append-nil frames)) first)

  -- the text of a word stays the text of a front
  text_wider : (start : Tree) (text : FrontView → List ℕ) (log more : Log) (frames : List (List ℕ)) (talk : Talk) → SaysText clock secret start text log frames talk
      → SaysText clock secret start text (log ++ more) frames talk
  text_wider start text log more frames talk has =
      let says = has.1 in (
        has.0,
        (
          says.0,
          says.1,
          says.2 ++ more,
          ap (λ (l : Log). l ++ more) says.3 ∙ append_assoc says.1 says.2 more,
          says.4,
          says.5,
          says.6,
          says.7,
        ),
      )

  -- it begins with no word
  pub unworded : (start : Tree) (came : List ℕ) (log : Log) (frames : List (List ℕ)) (talk : Talk) → word_in came ≡ None
      → (session : ℕ) × Greeted clock secret session start log frames talk
      → IsTalk clock secret start came log frames talk
  unworded start came log frames talk none has =
      subst (λ asked. MatchOption asked ((session : ℕ) × Greeted clock secret session start log frames talk)
      (λ word. SaysText clock secret start (text_of_word word) log frames talk)) (sym none) has

  pub talk_wider : (start : Tree) (came : List ℕ) (log more : Log) (frames : List (List ℕ)) (talk : Talk) → IsTalk clock secret start came log frames talk
      → IsTalk clock secret start came (log ++ more) frames talk
  talk_wider start came log more frames talk has =
      elim (word_in came) as (λ asked. MatchOption asked ((session : ℕ) × Greeted clock secret session start log frames talk)
      (λ word. SaysText clock secret start (text_of_word word) log frames talk)
      → MatchOption asked ((session : ℕ) × Greeted clock secret session start (log ++ more) frames talk)
      (λ word. SaysText clock secret start (text_of_word word) (log ++ more) frames talk)) [
        | None ↦ λ greeted. (greeted.0, greeted_wider greeted.0 start log more frames talk greeted.1)
        | Some word ↦ λ said. text_wider start (text_of_word word) log more frames talk said
      ] has
