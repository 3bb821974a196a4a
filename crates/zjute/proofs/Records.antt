-- The records of requests, and the stat, are forms.
use Rattle.std.proofs.Common.{refl, arith}
use Rattle.zcodec.specs.Choices.{flag}
use Rattle.zcodec.specs.Forms.{both}
use Rattle.zcodec.specs.Laws.{IsForm}
use Rattle.zcodec.proofs.Parts.{is_both, is_record}
use Rattle.zcodec.proofs.Choices.{is_flag, is_sized, is_listed, is_listed_or_null}
use Rattle.zcodec.proofs.Choices as forms
use Rattle.zjute.specs.declared.limits.TheConstants.{MAX_FRAME}
use Rattle.zjute.specs.Jute.{int, long, buffer, text, texts}
use Rattle.zjute.specs.Requests.{acl, acls_or_null, create, create_ttl, at_version, look, set_data, set_acl, watches_at, add_watch, auth, set_watches, set_watches_2}
use Rattle.zjute.specs.Stats.{times, times_of, versions, versions_of, sizes, sizes_of, stat_of, stat}
use Rattle.zjute.proofs.Signed.{is_int, is_long}

pub is_buffer : IsForm buffer
unfolding buffer
is_buffer = forms.is_buffer MAX_FRAME (omega arith)

pub is_text : IsForm text
unfolding text
is_text = is_sized MAX_FRAME (omega arith)

pub is_texts : IsForm texts
unfolding texts
is_texts = is_listed MAX_FRAME text (omega arith) is_text

pub is_acl : IsForm acl
unfolding acl
is_acl = is_record _ _ _ (is_both int _ is_int (is_both buffer buffer is_buffer is_buffer)) (λ f. refl) (λ a. refl)

pub is_acls : IsForm acls_or_null
unfolding acls_or_null
is_acls = is_listed_or_null MAX_FRAME acl (omega arith) is_acl

pub is_create : IsForm create
unfolding create
is_create = is_record _ _ _ (is_both buffer _ is_buffer (is_both buffer _ is_buffer (is_both acls_or_null int is_acls is_int))) (λ f. refl) (λ c. refl)

pub is_create_ttl : IsForm create_ttl
unfolding create_ttl
is_create_ttl = is_record _ _ _ (is_both create long is_create is_long) (λ f. refl) (λ c. refl)

pub is_at_version : IsForm at_version
unfolding at_version
is_at_version = is_record _ _ _ (is_both buffer int is_buffer is_int) (λ f. refl) (λ a. refl)

pub is_look : IsForm look
unfolding look
is_look = is_record _ _ _ (is_both buffer flag is_buffer is_flag) (λ f. refl) (λ l. refl)

pub is_set_data : IsForm set_data
unfolding set_data
is_set_data = is_record _ _ _ (is_both buffer _ is_buffer (is_both buffer int is_buffer is_int)) (λ f. refl) (λ s. refl)

pub is_set_acl : IsForm set_acl
unfolding set_acl
is_set_acl = is_record _ _ _ (is_both buffer _ is_buffer (is_both acls_or_null int is_acls is_int)) (λ f. refl) (λ s. refl)

pub is_watches_at : IsForm watches_at
unfolding watches_at
is_watches_at = is_record _ _ _ (is_both buffer int is_buffer is_int) (λ f. refl) (λ w. refl)

pub is_add_watch : IsForm add_watch
unfolding add_watch
is_add_watch = is_record _ _ _ (is_both buffer int is_buffer is_int) (λ f. refl) (λ w. refl)

pub is_auth : IsForm auth
unfolding auth
is_auth = is_record _ _ _ (is_both int _ is_int (is_both buffer buffer is_buffer is_buffer)) (λ f. refl) (λ a. refl)

pub is_set_watches : IsForm set_watches
unfolding set_watches
is_set_watches = is_record _ _ _ (is_both long _ is_long (is_both texts _ is_texts (is_both texts texts is_texts is_texts))) (λ f. refl) (λ w. refl)

pub is_set_watches_2 : IsForm set_watches_2
unfolding set_watches_2
is_set_watches_2 = is_record _ _ _ (is_both set_watches _ is_set_watches (is_both texts texts is_texts is_texts)) (λ f. refl) (λ w. refl)

pub is_stat : IsForm stat
unfolding stat
is_stat =
    let four = is_both long _ is_long (is_both long _ is_long (is_both long long is_long is_long)) in
    let three = is_both int _ is_int (is_both int int is_int is_int) in
    let last = is_both long _ is_long (is_both int _ is_int (is_both int long is_int is_long)) in
    is_record (both times (both versions sizes)) (λ s. (times_of s, (versions_of s, sizes_of s))) stat_of
    (is_both times (both versions sizes) four (is_both versions sizes three last)) (λ f. refl) (λ s. refl)
