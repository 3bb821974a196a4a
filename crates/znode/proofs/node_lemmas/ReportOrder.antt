-- Reports that come into the log, and those that wait.
use Rattle.std.proofs.Common.{◌≡◌, ◌≢◌, ◌⊎◌, inl, inr, ℕ, ◌==◌, Bool, true, false, not, ◌||◌, cond, List, [], ◌∷◌, ◌++◌, refl, sym, ap, subst, ◌∙◌, append_assoc}
use Rattle.std.specs.List.{flat_map}
use Rattle.std.proofs.lemmas.Bool.{eqb-true}
use Rattle.std.proofs.lemmas.List.{append-nil}
use Rattle.std.proofs.lemmas.List.Concat.{flat_map-append}
use Rattle.std.proofs.lemmas.List.Folds.{list_any-append}
use Rattle.zcalls.proofs.Among.{test}
use Rattle.zprotocol.specs.declared.message.Message.TheVariants as message
use Rattle.zprotocol.specs.declared.process.Process.{Process}
use Rattle.zprotocol.specs.declared.process.Process.TheVariants.{Master, Server, Client}
use Rattle.zserver.specs.Server.{TreeMessage}
use Rattle.zactor.specs.Acting.{TreePost}
use Rattle.zmaster_log.specs.declared.entry.LogEntry.{LogEntry}
use Rattle.zmaster_log.specs.declared.entry.News.{News}
use Rattle.zmaster_log.specs.declared.entry.News.TheVariants as news
use Rattle.zmaster_log.specs.Log.{State, entry_played, has_live, log_played}
use Rattle.zpeers.specs.Records.{TreeTransfer}
use Rattle.znode.specs.pipe.Inputs.{InputView, Lost}
use Rattle.znode.specs.Node.{NodeView}
use Rattle.znode.specs.Server.{news_of, news_to}
use Rattle.znode.specs.Entries.{without_idle}
use Rattle.znode.specs.Steps.{accuses, accusing, is_accusation, may_accuse}
use Rattle.znode.specs.Laws.{AreReports, HasReported, OwnEntry, WasOut, is_loss, lasting}
use Rattle.znode.proofs.node_lemmas.Links.{lost_first, lost_last, other_is}

-- ---- lists of reports

pub news-both : (own : ℕ) (a b : List TreePost) → news_of own (a ++ b) ≡ news_of own a ++ news_of own b
news-both own a b = flat_map-append (λ (post : TreePost). news_to own post.0 post.1) a b

accuses-both : (s : ℕ) (a b : List News) → accuses s (a ++ b) ≡ accuses s a || accuses s b
accuses-both s a b = list_any-append (is_accusation s) a b

either_is : (a b : Bool) → a || b ≡ true → (a ≡ true) ⊎ (b ≡ true)
either_is true b e = inl refl
either_is false b e = inr e

accuses_first : (s : ℕ) (a b : List News) → accuses s a ≡ true → accuses s (a ++ b) ≡ true
accuses_first s a b e = accuses-both s a b ∙ ap (λ (t : Bool). t || accuses s b) e

or-true : (a : Bool) → a || true ≡ true
or-true true = refl
or-true false = refl

accuses_last : (s : ℕ) (a b : List News) → accuses s b ≡ true → accuses s (a ++ b) ≡ true
accuses_last s a b e = accuses-both s a b ∙ ap (λ (t : Bool). accuses s a || t) e ∙ or-true (accuses s a)

-- a server reports of no other that it is gone
accuses_none : (s own : ℕ) (posts : List TreePost) → s ≢ own → accuses s (news_of own posts) ≡ false
accuses_none s own [] other = refl
accuses_none s own (post ∷ posts) other =
    accuses-both s (news_to own post.0 post.1) (news_of own posts)
    ∙ ap (λ (t : Bool). t || accuses s (news_of own posts)) (one post.0 post.1)
    ∙ accuses_none s own posts other
  where
    own_other : (own == s) ≡ false
    own_other = elim (test (own == s)) [
      | inl same ↦ absurd (other (sym (eqb-true own s same)))
      | inr no_way ↦ no_way
    ]

    one : (to : Process) (m : TreeMessage) → accuses s (news_to own to m) ≡ false
    one (Server t) m = refl
    one (Client c) m = refl
    one Master (message.Have epoch last) = refl
    one Master (message.Joined epoch) = refl
    one Master message.Gone = ap (λ (t : Bool). t || false) own_other
    one Master m = refl

-- ---- reports that are left out

lasting_either : (idle : Bool) (s : ℕ) (state : State) (reports : List News)
    → flat_map lasting (without_idle state reports) ≡ flat_map lasting reports
    → flat_map lasting (cond idle (without_idle state reports) (news.Gone s ∷ reports)) ≡ flat_map lasting reports
lasting_either true s state reports same = same
lasting_either false s state reports same = refl

lasting-tidied : (state : State) (reports : List News) → flat_map lasting (without_idle state reports) ≡ flat_map lasting reports
lasting-tidied state [] = refl
lasting-tidied state (news.Have epoch last ∷ reports) = refl
lasting-tidied state (news.Joined epoch ∷ reports) = refl
lasting-tidied state (news.Gone s ∷ reports) =
    lasting_either (not (has_live state s)) s state reports (lasting-tidied state reports)

none_is : (a b : Bool) → a || b ≡ false → (a ≡ false) × (b ≡ false)
none_is true b e = absurd (let no_way : true ≡ false = e in cc)
none_is false b e = (refl, e)

accuses_either : (idle : Bool) (s t : ℕ) (state : State) (reports : List News) → accuses s (news.Gone t ∷ reports) ≡ false
    → accuses s (without_idle state reports) ≡ false → accuses s (cond idle (without_idle state reports) (news.Gone t ∷ reports)) ≡ false
accuses_either true s t state reports e tidied = tidied
accuses_either false s t state reports e tidied = e

accuses_tidied : (s : ℕ) (state : State) (reports : List News) → accuses s reports ≡ false → accuses s (without_idle state reports) ≡ false
accuses_tidied s state [] e = e
accuses_tidied s state (news.Have epoch last ∷ reports) e = e
accuses_tidied s state (news.Joined epoch ∷ reports) e = e
accuses_tidied s state (news.Gone t ∷ reports) e =
    accuses_either (not (has_live state t)) s t state reports e
    (accuses_tidied s state reports (none_is (t == s) (accuses s reports) e).1)

not_live : (live : Bool) → not live ≡ true → live ≡ false
not_live true e = absurd (let no_way : false ≡ true = e in cc)
not_live false e = refl

failed_either : (idle : Bool) (own s : ℕ) (state : State) (reports : List News) → not (has_live state s) ≡ idle
    → accuses own (news.Gone s ∷ reports) ≡ true
    → (accuses own reports ≡ true → (accuses own (without_idle state reports) ≡ true) ⊎ (has_live state own ≡ false))
    → (accuses own (cond idle (without_idle state reports) (news.Gone s ∷ reports)) ≡ true) ⊎ (has_live state own ≡ false)
failed_either false own s state reports is e tidied = inl e
failed_either true own s state reports is e tidied = elim (either_is (s == own) (accuses own reports) e) [
  | inl same ↦ inr (ap (has_live state) (sym (eqb-true s own same)) ∙ not_live (has_live state s) is)
  | inr later ↦ tidied later
]

failed_tidied : (own : ℕ) (state : State) (reports : List News) → accuses own reports ≡ true
    → (accuses own (without_idle state reports) ≡ true) ⊎ (has_live state own ≡ false)
failed_tidied own state [] e = inl e
failed_tidied own state (news.Have epoch last ∷ reports) e = inl e
failed_tidied own state (news.Joined epoch ∷ reports) e = inl e
failed_tidied own state (news.Gone s ∷ reports) e =
    failed_either (not (has_live state s)) own s state reports refl e (failed_tidied own state reports)

-- ---- what an input adds

-- what becomes of the reports that wait, by an input by which a server puts these
pub record AddsReports (own : ℕ) (it : InputView) (es : List LogEntry) (posts : List TreePost) (state : State) (old new : List News) : Type 0 where
  pub in_order : flat_map lasting new ≡ flat_map lasting (old ++ news_of own posts)
  pub failed : accuses own (old ++ news_of own posts) ≡ true → (accuses own new ≡ true) ⊎ WasOut own state es
  pub accused : (s : ℕ) → s ≢ own → is_loss (Server s) it ≡ false → accuses s old ≡ false → accuses s new ≡ false

pub put_reports : (own : ℕ) (it : InputView) (es : List LogEntry) (posts : List TreePost) (state : State) (old new : List News)
    → new ≡ old ++ news_of own posts → AddsReports own it es posts state old new
put_reports own it es posts state old new is = record {
  in_order = ap (flat_map lasting) is;
  failed = λ e. inl (ap (accuses own) is ∙ e);
  accused = λ s other kept none.
      ap (accuses s) is ∙ accuses-both s old (news_of own posts)
      ∙ ap (λ (t : Bool). t || accuses s (news_of own posts)) none ∙ accuses_none s own posts other;
}

pub same_reports : (own : ℕ) (it : InputView) (es : List LogEntry) (state : State) (old new : List News)
    → new ≡ old → AddsReports own it es [] state old new
same_reports own it es state old new is = put_reports own it es [] state old new (is ∙ sym (append-nil old))

pub tidied_reports : (own : ℕ) (it : InputView) (e : LogEntry) (posts : List TreePost) (state next : State) (old middle new : List News)
    → middle ≡ old ++ news_of own posts → new ≡ without_idle next middle → next ≡ (entry_played {T = TreeTransfer} state e).0
    → AddsReports own it (e ∷ []) posts state old new
tidied_reports own it e posts state next old middle new is tidied played =
    let put = put_reports own it (e ∷ []) posts state old middle is in
    record {
      in_order = ap (flat_map lasting) tidied ∙ lasting-tidied next middle ∙ put.in_order;
      failed = λ fails. elim (failed_tidied own next middle (ap (accuses own) is ∙ fails)) [
        | inl here ↦ inl (ap (accuses own) tidied ∙ here)
        | inr out ↦ inr (inl (ap (λ (x : State). has_live x own) (sym played) ∙ out))
      ];
      accused = λ s other kept none. ap (accuses s) tidied ∙ accuses_tidied s next middle (put.accused s other kept none);
    }

lost_either : (accused : Bool) (own t : ℕ) (state : State) (old : List News)
    → AddsReports own (Lost t) [] [] state old (cond accused (old ++ news.Gone t ∷ []) old)
lost_either false own t state old = same_reports own (Lost t) [] state old old refl
lost_either true own t state old = record {
  in_order =
      flat_map-append lasting old (news.Gone t ∷ []) ∙ append-nil (flat_map lasting old)
      ∙ ap (flat_map lasting) (sym (append-nil old));
  failed = λ e. inl (accuses_first own old (news.Gone t ∷ []) (ap (accuses own) (sym (append-nil old)) ∙ e));
  accused = λ s other kept none.
      accuses-both s old (news.Gone t ∷ []) ∙ ap (λ (b : Bool). b || ((t == s) || false)) none
      ∙ ap (λ (b : Bool). b || false) (other_lost s kept);
}
  where
    other_lost : (s : ℕ) → is_loss (Server s) (Lost t) ≡ false → (t == s) ≡ false
    other_lost s kept = elim (test (t == s)) [
      | inl same ↦ absurd (other_is (Server s) (Server t) kept (ap Server (sym (eqb-true t s same))))
      | inr other ↦ other
    ]

pub lost_reports : (own t : ℕ) (state : State) (v : NodeView) → AddsReports own (Lost t) [] [] state v.seat.reports (accusing v t)
lost_reports own t state v = lost_either (may_accuse v t) own t state v.seat.reports

-- ---- all that was reported

out_first : (s : ℕ) (state : State) (a b : List LogEntry) → WasOut s state a → WasOut s state (a ++ b)
out_first s state [] b out = absurd out
out_first s state (e ∷ a) b out = elim out [
  | inl here ↦ inl here
  | inr later ↦ inr (out_first s (entry_played {T = TreeTransfer} state e).0 a b later)
]

out_last : (s : ℕ) (state : State) (a b : List LogEntry) → WasOut s (log_played {T = TreeTransfer} state a).0 b → WasOut s state (a ++ b)
out_last s state [] b out = out
out_last s state (e ∷ a) b out = inr (out_last s (entry_played {T = TreeTransfer} state e).0 a b out)

pub reported_more : (own : ℕ) (mine : List OwnEntry) (inputs : List InputView) (it : InputView) (posts more : List TreePost)
    (state : State) (since es : List LogEntry) (old new : List News)
    → HasReported own mine inputs posts state since old
    → AddsReports own it es more (log_played {T = TreeTransfer} state since).0 old new
    → HasReported own mine (inputs ++ it ∷ []) (posts ++ more) state (since ++ es) new
reported_more own mine inputs it posts more state since es old new has adds = record {
  reported = has.reported;
  are = has.are;
  in_order =
      flat_map-append lasting has.reported new
      ∙ ap (λ (l : List News). flat_map lasting has.reported ++ l) adds.in_order
      ∙ sym (flat_map-append lasting has.reported (old ++ put))
      ∙ ap (flat_map lasting) (sym (append_assoc has.reported old put))
      ∙ flat_map-append lasting (has.reported ++ old) put
      ∙ ap (λ (l : List News). l ++ flat_map lasting put) has.in_order
      ∙ sym (flat_map-append lasting (news_of own posts) put)
      ∙ ap (flat_map lasting) (sym (news-both own posts more));
  failed = λ e. elim (either_is (accuses own (news_of own posts)) (accuses own put)
      (sym (accuses-both own (news_of own posts) put) ∙ ap (accuses own) (sym (news-both own posts more)) ∙ e)) [
        | inl earlier ↦ elim (has.failed earlier) [
          | inl there ↦ elim (either_is (accuses own has.reported) (accuses own old) (sym (accuses-both own has.reported old) ∙ there)) [
            | inl in_log ↦ inl (accuses_first own has.reported new in_log)
            | inr waits ↦ now (accuses_first own old put waits)
          ]
          | inr out ↦ inr (out_first own state since es out)
        ]
        | inr later ↦ now (accuses_last own old put later)
      ];
  accused = λ s other never.
      let none = none_is (accuses s has.reported) (accuses s old)
      (sym (accuses-both s has.reported old) ∙ has.accused s other (lost_first (Server s) inputs it never)) in
      accuses-both s has.reported new
      ∙ ap (λ (b : Bool). b || accuses s new) none.0
      ∙ adds.accused s other (lost_last (Server s) inputs it never) none.1;
}
  where
    put : List News
    put = news_of own more

    now : accuses own (old ++ put) ≡ true → (accuses own (has.reported ++ new) ≡ true) ⊎ WasOut own state (since ++ es)
    now e = elim (adds.failed e) [
      | inl here ↦ inl (accuses_last own has.reported new here)
      | inr out ↦ inr (out_last own state since es out)
    ]

reports_both : (own : ℕ) (a b : List OwnEntry) (x y : List News) → AreReports own a x → AreReports own b y → AreReports own (a ++ b) (x ++ y)
reports_both own [] b x y first then = subst (λ (l : List News). AreReports own b (l ++ y)) (sym first) then
reports_both own (e ∷ a) b x y first then =
    (first.0, first.1 ++ y, first.2, reports_both own a b first.1 y first.3 then, ap (λ (l : List News). l ++ y) first.4)

-- some of the reports that waited come into the log
pub reported_entered : (own : ℕ) (mine entered : List OwnEntry) (inputs : List InputView) (posts : List TreePost)
    (state : State) (since : List LogEntry) (old new came : List News)
    → HasReported own mine inputs posts state since old → AreReports own entered came → old ≡ came ++ new
    → HasReported own (mine ++ entered) inputs posts state since new
reported_entered own mine entered inputs posts state since old new came has are is = record {
  reported = has.reported ++ came;
  are = reports_both own mine entered has.reported came has.are are;
  in_order = ap (flat_map lasting) same ∙ has.in_order;
  failed = λ e. elim (has.failed e) [ inl here ↦ inl (ap (accuses own) same ∙ here) | inr out ↦ inr out ];
  accused = λ s other never. ap (accuses s) same ∙ has.accused s other never;
}
  where
    same : (has.reported ++ came) ++ new ≡ has.reported ++ old
    same = append_assoc has.reported came new ∙ ap (λ (l : List News). has.reported ++ l) (sym is)

-- a server that begins has reported nothing
pub reported_first : (own : ℕ) (inputs : List InputView) (state : State) (waiting : List News) → waiting ≡ []
    → HasReported own [] inputs [] state [] waiting
reported_first own inputs state waiting none = record {
  reported = [];
  are = refl;
  in_order = ap (flat_map lasting) none;
  failed = λ e. absurd (let no_way : false ≡ true = e in cc);
  accused = λ s other never. ap (accuses s) none;
}
