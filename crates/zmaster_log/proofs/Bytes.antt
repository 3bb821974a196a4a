-- Entries are a form.
use Rattle.std.proofs.Common.{◌≡◌, ℕ, ◌<◌, ◌≤◌, Bool, true, false, cond, not, ◌&&◌, ◌==◌, nat_le, List, [], ◌∷◌, ◌++◌, length, Result, Ok, Err, refl, sym, ap, subst, arith}
use Rattle.std.specs.Prelude.{IfOk}
use Rattle.std.specs.Int.{w8, w64}
use Rattle.std.proofs.lemmas.Bool.Decides.{nat_tests}
use mathlib.Core.Bool.{true≢false}
use Rattle.zcodec.specs.declared.fault.Fault.TheVariants.{Invalid}
use Rattle.zcodec.specs.Forms.{number, both}
use Rattle.zcodec.specs.Choices.{sized}
use Rattle.zcodec.specs.declared.fault.ReadError.{ReadError}
use Rattle.zcodec.specs.Readers.{Gives, whole}
use Rattle.zcodec.specs.Laws.{IsBytes, IsForm}
use Rattle.zcodec.proofs.Bytes.{ok_is}
use Rattle.zcodec.proofs.Numbers.{is_u8, is_u64}
use Rattle.zcodec.proofs.Parts.{is_both, is_made, is_record}
use Rattle.zcodec.proofs.Choices.{is_option, is_sized, is_listed}
use Rattle.zcodec.proofs.Whole.{whole_takes, whole_again, one_spelling}
use Rattle.zjute.proofs.Before.{Anything, before, is_form}
use Rattle.zjute.proofs.Tags.{again_as, is_by_tag}
use Rattle.zprotocol.specs.declared.limits.TheConstants.{MAX_SERVERS}
use Rattle.zwire.specs.records.Records.{server}
use Rattle.zwire.specs.Fields.{epoch, log_number}
use Rattle.zwire.specs.Messages.{last, held}
use Rattle.zwire.proofs.records_lemmas.Sums.{none_take, one_takes}
use Rattle.zwire.proofs.records_lemmas.Records.{is_server}
use Rattle.zwire.proofs.Fields.{is_within, is_epoch, is_log_number}
use Rattle.zmaster_log.specs.declared.limits.TheConstants.{MAX_NODE_NAME, MAX_ENTRIES}
use Rattle.zmaster_log.specs.declared.entry.LogEntry.{LogEntry}
use Rattle.zmaster_log.specs.declared.entry.LogEntry.TheVariants as log
use Rattle.zmaster_log.specs.declared.entry.News.{News}
use Rattle.zmaster_log.specs.declared.entry.News.TheVariants as news
use Rattle.zmaster_log.specs.Nodes.{has_bad_byte, is_node_name, IsNodeName}
use Rattle.zmaster_log.specs.Bytes.{count, name_from, node, names_from, listed_nodes, nodes, news_at, news_spelled, any_news, report, joined, entry_at, entry_spelled, entry}
use Rattle.zmaster_log.specs.Laws.{EntriesAreTheirBytes}
use Rattle.zmaster_log.proofs.Flags.{left, right}

-- ---- fields

is_count : IsForm count
unfolding count
is_count = is_within w64 MAX_ENTRIES is_u64 (omega arith)

-- a test that a value passes
passes : {A : Type 0} (test : Bool) (x y : A) → cond test (Ok x) (Err Invalid) ≡ Ok y → (test ≡ true) × (x ≡ y)
passes true x y e = (refl, ok_is x y e)
passes false x y e = absurd cc

-- a name isn't longer than allowed
name_short : (name : List ℕ) → IsNodeName name → length name ≤ MAX_NODE_NAME
name_short name is =
    let short : nat_le (length name) MAX_NODE_NAME ≡ true =
    right (not (length name == 0)) (nat_le (length name) MAX_NODE_NAME)
    (left (not (length name == 0) && nat_le (length name) MAX_NODE_NAME) (not (has_bad_byte name)) is) in
    grind (arith, nat_tests, short)

is_node : IsForm node
unfolding node
is_node = is_made (sized MAX_NODE_NAME) (λ name. name) name_from IsNodeName (is_sized MAX_NODE_NAME (omega arith))
    (λ bytes name fits e.
    let p = passes (is_node_name bytes) bytes name e in
    (sym p.1, subst IsNodeName p.1 p.0))
    (λ name is. (ap (λ (b : Bool). cond b (Ok name) (Err Invalid)) is, (name_short name is, refl)))

pub is_listed_nodes : IsForm listed_nodes
unfolding listed_nodes
is_listed_nodes = is_listed MAX_SERVERS node (omega arith) is_node

some_names : (names : List (List ℕ)) → 0 < length names → (length names == 0) ≡ false
some_names [] some = absurd (omega arith)
some_names (name ∷ names) some = grind (arith, nat_tests)

is_some : (names : List (List ℕ)) → (length names == 0) ≡ false → 0 < length names
is_some [] e = absurd (true≢false e)
is_some (name ∷ names) e = omega arith

fails_not : (test : Bool) (x y : List (List ℕ)) → cond test (Err Invalid) (Ok x) ≡ Ok y → (test ≡ false) × (x ≡ y)
fails_not true x y e = absurd cc
fails_not false x y e = (refl, ok_is x y e)

are_nodes : IsForm nodes
unfolding nodes
are_nodes = is_made listed_nodes (λ names. names) names_from (λ names. listed_nodes.Fits names × (0 < length names)) is_listed_nodes
    (λ xs ys fits e.
    let p = fails_not (length xs == 0) xs ys e in
    (sym p.1, subst (λ (names : List (List ℕ)). listed_nodes.Fits names × (0 < length names)) p.1 (fits, is_some xs p.0)))
    (λ xs fits. (ap (λ (b : Bool). cond b (Err Invalid) (Ok xs)) (some_names xs fits.1), fits.0))

-- ---- reports

is_held : IsForm held
unfolding last
is_held = is_both epoch last is_epoch (is_option log_number is_log_number)

news_again : (n : News) (rest : List ℕ) → Anything rest → (news_spelled n).fits → news_at (news_spelled n).tag ((news_spelled n).text ++ rest) ≡ Ok (n, rest)
unfolding news_at
news_again (news.Have n l) rest any fits = again_as Anything held (λ h. news.Have h.0 h.1) (before Anything held is_held) (n, l) rest any fits
news_again (news.Joined n) rest any fits = again_as Anything epoch (λ n. news.Joined n) (before Anything epoch is_epoch) n rest any fits
news_again (news.Gone id) rest any fits = again_as Anything server (λ id. news.Gone id) (before Anything server is_server) id rest any fits

is_news : IsForm any_news
unfolding any_news news_at
is_news = is_form any_news (is_by_tag Anything (number w8) news_at news_spelled is_u8
    (one_takes news_spelled 0 held (λ h. news.Have h.0 h.1) _ is_held (λ x. refl) (λ x. refl) (λ x fits. fits)
    (one_takes news_spelled 1 epoch (λ n. news.Joined n) _ is_epoch (λ x. refl) (λ x. refl) (λ x fits. fits)
    (one_takes news_spelled 2 server (λ id. news.Gone id) _ is_server (λ x. refl) (λ x. refl) (λ x fits. fits)
    (none_take news_spelled))))
    news_again)

is_report : IsForm report
unfolding report
is_report = is_record _ _ _ (is_both server (both count any_news) is_server (is_both count any_news is_count is_news)) (λ f. refl) (λ r. refl)

-- ---- entries

is_joined : IsForm joined
is_joined = is_both server node is_server is_node

entry_again : (e : LogEntry) (rest : List ℕ) → Anything rest → (entry_spelled e).fits → entry_at (entry_spelled e).tag ((entry_spelled e).text ++ rest) ≡ Ok (e, rest)
unfolding entry_at
entry_again (log.Opening names) rest any fits = again_as Anything nodes (λ names. log.Opening names) (before Anything nodes are_nodes) names rest any fits
entry_again (log.Join id name) rest any fits = again_as Anything joined (λ j. log.Join j.0 j.1) (before Anything joined is_joined) (id, name) rest any fits
entry_again (log.Retire id) rest any fits = again_as Anything server (λ id. log.Retire id) (before Anything server is_server) id rest any fits
entry_again (log.Reported r) rest any fits = again_as Anything report (λ r. log.Reported r) (before Anything report is_report) r rest any fits

pub is_entry : IsForm entry
unfolding entry entry_at
is_entry = is_form entry (is_by_tag Anything (number w8) entry_at entry_spelled is_u8
    (one_takes entry_spelled 0 nodes (λ names. log.Opening names) _ are_nodes (λ x. refl) (λ x. refl) (λ x fits. fits)
    (one_takes entry_spelled 1 joined (λ j. log.Join j.0 j.1) _ is_joined (λ x. refl) (λ x. refl) (λ x fits. fits)
    (one_takes entry_spelled 2 server (λ id. log.Retire id) _ is_server (λ x. refl) (λ x. refl) (λ x fits. fits)
    (one_takes entry_spelled 3 report (λ r. log.Reported r) _ is_report (λ x. refl) (λ x. refl) (λ x fits. fits)
    (none_take entry_spelled)))))
    entry_again)

pub entries_are_their_bytes : EntriesAreTheirBytes
entries_are_their_bytes = record {
  again = λ e fits. whole_again entry is_entry e fits;
  spelled = λ bytes e are read. whole_takes entry is_entry bytes e are read;
  distinct = λ d e fits also same. one_spelling entry is_entry d e fits also same;
}

-- nodes that are read are few
pub few_nodes : (bytes : List ℕ) (x : List (List ℕ) × List ℕ) → IsBytes bytes → listed_nodes.read bytes ≡ Ok x → length x.0 ≤ MAX_SERVERS
unfolding listed_nodes
few_nodes bytes x are read = (is_listed_nodes.takes bytes x are read).1.0

-- what is read has these bytes
pub spelled_in : (bytes : List ℕ) (r : Result LogEntry ReadError) → IsBytes bytes → Gives (λ it. it) r (whole entry bytes)
    → IfOk r (λ e. (bytes ≡ entry.spell e) × entry.Fits e)
spelled_in bytes (Ok e) are read = whole_takes entry is_entry bytes e are read
spelled_in bytes (Err error) are read = tt
