-- What waits on an endpoint, and the stamp that is next.
use Rattle.std.proofs.Common.{◌≡◌, ◌<◌, ℕ, ◌+◌, [], ◌++◌, None, if◌then◌else◌, nat_lt, inl, inr, ap, ◌∙◌, max, arith}
use Rattle.std.specs.Prelude.{option_to_list}
use Rattle.zcalls.proofs.Among.{test}
use Rattle.zprotocol.specs.declared.traces.stamp.TheConstants.{MAX_STAMP}
use Rattle.zprotocol.specs.traces.Stamps.{next_stamp}
use Rattle.zthreads.specs.declared.endpoint.Endpoint.{Endpoint}
use Rattle.zthreads.specs.Endpoints.{IsSettled, pending}

pub pending_same : (a b : Endpoint) → b.held ≡ a.held → b.out ≡ a.out → pending b ≡ pending a
pending_same a b h o = ap (λ x. option_to_list x ++ b.out.posts) h ∙ ap (λ x. option_to_list a.held ++ x.posts) o

pub pending_none : (d : Endpoint) → d.held ≡ None → pending d ≡ d.out.posts
pending_none d h = ap (λ x. option_to_list x ++ d.out.posts) h

-- nothing waits on an endpoint that is settled
pub nothing_waits : (d : Endpoint) → IsSettled d → pending d ≡ []
nothing_waits d is = pending_none d is.0 ∙ is.1

-- a stamp below the last one is one more than those before it
pub is_next : (n last : ℕ) → n ≡ next_stamp last → n < MAX_STAMP → n ≡ last + 1
is_next n last is below = elim (test (nat_lt last MAX_STAMP)) [
  | inl early ↦ is ∙ ap (λ b. if b then last + 1 else MAX_STAMP) early
  | inr late ↦
      let at : n ≡ MAX_STAMP = is ∙ ap (λ b. if b then last + 1 else MAX_STAMP) late in
      absurd (omega (arith, at, below))
]

-- the same where no message was taken, which has the stamp 0
pub is_next_idle : (n last none : ℕ) → none ≡ 0 → n ≡ next_stamp (max last none) → n < MAX_STAMP → n ≡ max last 0 + 1
is_next_idle n last none zero is below = is_next n (max last none) is below ∙ ap (λ x. max last x + 1) zero
