-- Rows are forms.
use Rattle.std.proofs.Common.{◌≡◌, ℕ, Bool, true, false, cond, List, Result, refl, subst, arith}
use Rattle.std.specs.Prelude.{◌==◌, nat_le, Ok, Err, IfOk, IfErr, OnOk}
use Rattle.std.proofs.lemmas.Bool.Decides.{nat_tests}
use Rattle.std.specs.Int.{w32}
use Rattle.zcodec.specs.declared.fault.Fault.TheVariants.{Invalid}
use Rattle.zcodec.specs.Forms.{Form, number, both}
use Rattle.zcodec.specs.Laws.{IsBytes, IsForm}
use Rattle.zcodec.proofs.Numbers.{is_u32, is_u64}
use Rattle.zcodec.proofs.Bytes.{ok_is}
use Rattle.zcodec.proofs.Parts.{is_both, is_made, is_record}
use Rattle.zwire.specs.records.Fields.{path, content, long}
use Rattle.zwire.proofs.records_lemmas.Fields.{is_path, is_content}
use Rattle.zwire.specs.declared.limits.TheConstants.{MAX_FRAME}
use Rattle.zwire.specs.declared.fault.FrameFault.{FrameFault}
use Rattle.zwire.specs.Fields.{call_number, log_number, client, three, five}
use Rattle.zwire.specs.Replies.{reply}
use Rattle.zwire.specs.Frames.{IsFaultOf}
use Rattle.zwire.proofs.Fields.{is_call_number, is_log_number, is_client, is_three, is_five}
use Rattle.zwire.proofs.Replies.{is_reply}
use Rattle.zwire.proofs.Frames.{is_framed, found_in, only_in, faults_stay, beginning_is_cut}
use Rattle.ztree.specs.declared.limits.TheConstants.{MAX_TTL}
use Rattle.ztree.specs.declared.term.Term.{Term}
use Rattle.ztree.specs.declared.term.Term.TheVariants.{Unlimited, Timed, Container}
use Rattle.zsnapshots.specs.declared.limits.TheConstants.{CONTAINER}
use Rattle.zsnapshots.specs.Rows.{clocks, totals, limits, header_text, HasValidTtl, term_number, term_from, term, node, node_text, session, session_text, kept, reply_text, row, IsReadAs}
use Rattle.zsnapshots.specs.Laws.{AreRows}

is_clocks : IsForm clocks
is_clocks = is_both log_number (both long long) is_log_number (is_both long long is_u64 is_u64)

is_totals : IsForm totals
is_totals = is_both (number w32) (both (number w32) (number w32)) is_u32 (is_both (number w32) (number w32) is_u32 is_u32)

is_limits : IsForm limits
unfolding limits
is_limits = is_record _ _ _ is_three (λ f. refl) (λ l. refl)

pub is_header : IsForm header_text
unfolding header_text
is_header = is_record _ _ _ (is_both clocks _ is_clocks (is_both limits totals is_limits is_totals)) (λ f. refl) (λ h. refl)

-- ---- terms

term-known : (t : Term) → HasValidTtl t → term_from (term_number t) ≡ Ok t
term-known Unlimited is = refl
term-known (Timed ttl) is =
    let some : (ttl == 0) ≡ false = grind (arith, nat_tests, is) in
    let few : nat_le ttl MAX_TTL ≡ true = grind (arith, nat_tests, is) in
    rw (some, few) refl
term-known Container is = refl

term-only : (n : ℕ) (t : Term) → term_from n ≡ Ok t → (term_number t ≡ n) × HasValidTtl t
term-only n t = by (n == 0) (nat_le n MAX_TTL) (n == CONTAINER) refl refl refl
  where
    by : (a b c : Bool) → (n == 0) ≡ a → nat_le n MAX_TTL ≡ b → (n == CONTAINER) ≡ c
        → cond a (Ok Unlimited) (cond b (Ok (Timed n)) (cond c (Ok Container) (Err Invalid))) ≡ Ok t → (term_number t ≡ n) × HasValidTtl t
    by true b c is_zero few whole e = subst (λ (x : Term). (term_number x ≡ n) × HasValidTtl x) (ok_is Unlimited t e) (grind (arith, nat_tests), tt)
    by false true c some few whole e = subst (λ (x : Term). (term_number x ≡ n) × HasValidTtl x) (ok_is (Timed n) t e) (refl, (grind (arith, nat_tests), grind (arith, nat_tests)))
    by false false true some many whole e = subst (λ (x : Term). (term_number x ≡ n) × HasValidTtl x) (ok_is Container t e) (grind (arith, nat_tests), tt)
    by false false false some many other e = absurd cc

term-small : (t : Term) → HasValidTtl t → long.Fits (term_number t)
term-small Unlimited is = omega arith
term-small (Timed ttl) is = omega (arith, is.1)
term-small Container is = omega arith

is_term : IsForm term
unfolding term
is_term = is_made long term_number term_from HasValidTtl is_u64 (λ n t fits e. term-only n t e) (λ t is. (term-known t is, term-small t is))

is_node : IsForm node
unfolding node
is_node = is_record _ _ _ (is_both three _ is_three (is_both five _ is_five (is_both (both long long) (both term content) (is_both long long is_u64 is_u64) (is_both term content is_term is_content)))) (λ f. refl) (λ n. refl)

pub is_node_text : IsForm node_text
unfolding node_text
is_node_text = is_both path node is_path is_node

is_session : IsForm session
unfolding session
is_session = is_record _ _ _ (is_both client _ is_client (is_both long long is_u64 is_u64)) (λ f. refl) (λ s. refl)

pub is_session_text : IsForm session_text
unfolding session_text
is_session_text = is_both long session is_u64 is_session

is_kept : IsForm kept
unfolding kept
is_kept = is_record _ _ _ (is_both call_number reply is_call_number is_reply) (λ f. refl) (λ k. refl)

pub is_reply_text : IsForm reply_text
unfolding reply_text
is_reply_text = is_both client kept is_client is_kept

pub are_rows : {A : Type 0} (c : Form A) → IsForm c → AreRows c
are_rows c is = record {
  form = is_framed MAX_FRAME c (omega arith) is;
  cut = λ x front back fits split some. beginning_is_cut c is x front back fits split some;
  stays = λ bytes more fault other reported. faults_stay c bytes more fault other reported;
}

pub read_as_row : {A V : Type 0} (c : Form A) → IsForm c → (of : V → A × List ℕ) (bytes : List ℕ) (r : Result V FrameFault) → IsBytes bytes
    → IfOk r (λ v. (row c).read bytes ≡ Ok (of v)) → IfErr r (IsFaultOf c bytes) → IsReadAs c of r bytes
read_as_row c is of bytes r are read reported = record {
  found = found_in c is of bytes r are read;
  only = only_in c is of bytes r read reported;
  fault = reported;
}

-- what holds anyway
pub on_ok : {A E : Type 0} (P : Type 0) (r : Result A E) → P → OnOk r P
on_ok P (Ok x) here = here
on_ok P (Err e) here = tt
