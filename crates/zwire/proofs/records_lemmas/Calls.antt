-- The calls that change the tree are forms.
use Rattle.std.proofs.Common.{◌≡◌, ℕ, ◌<◌, List, [], ◌∷◌, ◌++◌, length, Ok, Err, refl, subst, arith}
use Rattle.std.specs.Int.{w8}
use Rattle.zcodec.specs.declared.fault.Fault.TheVariants.{Invalid}
use Rattle.zcodec.specs.Forms.{number, empty}
use Rattle.zcodec.specs.Choices.{listed}
use Rattle.zcodec.specs.Laws.{IsForm}
use Rattle.zcodec.proofs.Bytes.{ok_is}
use Rattle.zcodec.proofs.Numbers.{is_u8, is_empty}
use Rattle.zcodec.proofs.Parts.{is_both, is_made, is_record}
use Rattle.zcodec.proofs.Choices.{is_listed}
use Rattle.zjute.proofs.Before.{Anything, before, is_form}
use Rattle.zjute.proofs.Tags.{again_as, is_by_tag}
use Rattle.zcalls.specs.declared.limits.TheConstants.{MOST_PARTS}
use Rattle.zcalls.specs.declared.call.Part.{Part}
use Rattle.zcalls.specs.declared.call.Part.TheVariants as part_is
use Rattle.zcalls.specs.declared.call.Update.{Update}
use Rattle.zcalls.specs.declared.call.Update.TheVariants as act
use Rattle.zwire.specs.records.Fields.{path, content, version, node_kind, long}
use Rattle.zwire.specs.records.Calls.{create, delete, set_data, set_acl, check, part_at, part_spelled, part, parts_from, FitParts, parts, update_at, update_spelled, update}
use Rattle.zwire.proofs.records_lemmas.Sums.{none_take, one_takes}
use Rattle.zwire.proofs.records_lemmas.Fields.{is_path, is_content, is_version, is_node_kind, is_number}

pub is_create : IsForm create
unfolding create
is_create = is_record _ _ _ (is_both path _ is_path (is_both node_kind content is_node_kind is_content)) (λ f. refl) (λ c. refl)

pub is_delete : IsForm delete
unfolding delete
is_delete = is_record _ _ _ (is_both path version is_path is_version) (λ f. refl) (λ d. refl)

pub is_set_data : IsForm set_data
unfolding set_data
is_set_data = is_record _ _ _ (is_both path _ is_path (is_both version content is_version is_content)) (λ f. refl) (λ s. refl)

pub is_set_acl : IsForm set_acl
unfolding set_acl
is_set_acl = is_record _ _ _ (is_both path version is_path is_version) (λ f. refl) (λ s. refl)

pub is_check : IsForm check
unfolding check
is_check = is_record _ _ _ (is_both path version is_path is_version) (λ f. refl) (λ c. refl)

part_again : (p : Part) (rest : List ℕ) → Anything rest → (part_spelled p).fits → part_at (part_spelled p).tag ((part_spelled p).text ++ rest) ≡ Ok (p, rest)
unfolding part_at
part_again (part_is.Create c) rest any fits = again_as Anything create (λ c. part_is.Create c) (before Anything create is_create) c rest any fits
part_again (part_is.Delete d) rest any fits = again_as Anything delete (λ d. part_is.Delete d) (before Anything delete is_delete) d rest any fits
part_again (part_is.SetData s) rest any fits = again_as Anything set_data (λ s. part_is.SetData s) (before Anything set_data is_set_data) s rest any fits
part_again (part_is.Check c) rest any fits = again_as Anything check (λ c. part_is.Check c) (before Anything check is_check) c rest any fits

pub is_part : IsForm part
unfolding part part_at
is_part = is_form part (is_by_tag Anything (number w8) part_at part_spelled is_u8
    (one_takes part_spelled 0 create (λ c. part_is.Create c) _ is_create (λ x. refl) (λ x. refl) (λ x fits. fits)
    (one_takes part_spelled 1 delete (λ d. part_is.Delete d) _ is_delete (λ x. refl) (λ x. refl) (λ x fits. fits)
    (one_takes part_spelled 2 set_data (λ s. part_is.SetData s) _ is_set_data (λ x. refl) (λ x. refl) (λ x fits. fits)
    (one_takes part_spelled 3 check (λ c. part_is.Check c) _ is_check (λ x. refl) (λ x. refl) (λ x fits. fits)
    (none_take part_spelled)))))
    part_again)

-- ---- multis

some_parts : (ps qs : List Part) → (listed MOST_PARTS part).Fits ps → parts_from ps ≡ Ok qs → (qs ≡ ps) × FitParts qs
some_parts [] qs fits e = absurd cc
some_parts (p ∷ ps) qs fits e = subst (λ (xs : List Part). (xs ≡ p ∷ ps) × FitParts xs) (ok_is (p ∷ ps) qs e) (refl, (omega arith, fits))

pub from_parts : (ps : List Part) → 0 < length ps → parts_from ps ≡ Ok ps
from_parts [] some = absurd (omega (arith, some))
from_parts (p ∷ ps) some = refl

pub no_parts : (ps : List Part) → length ps ≡ 0 → parts_from ps ≡ Err Invalid
no_parts [] none = refl
no_parts (p ∷ ps) none = absurd (omega (arith, none))

pub is_parts : IsForm parts
unfolding parts
is_parts = is_made (listed MOST_PARTS part) (λ parts. parts) parts_from FitParts (is_listed MOST_PARTS part (omega arith) is_part)
    (λ ps qs fits e. some_parts ps qs fits e)
    (λ ps fits. (from_parts ps fits.0, fits.1))

-- ---- changes

update_again : (u : Update) (rest : List ℕ) → Anything rest → (update_spelled u).fits → update_at (update_spelled u).tag ((update_spelled u).text ++ rest) ≡ Ok (u, rest)
unfolding update_at
update_again (act.Create c) rest any fits = again_as Anything create (λ c. act.Create c) (before Anything create is_create) c rest any fits
update_again (act.Delete d) rest any fits = again_as Anything delete (λ d. act.Delete d) (before Anything delete is_delete) d rest any fits
update_again (act.SetData s) rest any fits = again_as Anything set_data (λ s. act.SetData s) (before Anything set_data is_set_data) s rest any fits
update_again (act.Multi ps) rest any fits = again_as Anything parts (λ parts. act.Multi parts) (before Anything parts is_parts) ps rest any fits
update_again (act.Open ticks) rest any fits = again_as Anything long (λ ticks. act.Open ticks) (before Anything long is_number) ticks rest any fits
update_again (act.Ping session) rest any fits = again_as Anything long (λ session. act.Ping session) (before Anything long is_number) session rest any fits
update_again (act.Close session) rest any fits = again_as Anything long (λ session. act.Close session) (before Anything long is_number) session rest any fits
update_again act.Tick rest any fits = refl
update_again (act.SetAcl s) rest any fits = again_as Anything set_acl (λ s. act.SetAcl s) (before Anything set_acl is_set_acl) s rest any fits

pub is_update : IsForm update
unfolding update update_at
is_update = is_form update (is_by_tag Anything (number w8) update_at update_spelled is_u8
    (one_takes update_spelled 0 create (λ c. act.Create c) _ is_create (λ x. refl) (λ x. refl) (λ x fits. fits)
    (one_takes update_spelled 1 delete (λ d. act.Delete d) _ is_delete (λ x. refl) (λ x. refl) (λ x fits. fits)
    (one_takes update_spelled 2 set_data (λ s. act.SetData s) _ is_set_data (λ x. refl) (λ x. refl) (λ x fits. fits)
    (one_takes update_spelled 3 parts (λ parts. act.Multi parts) _ is_parts (λ x. refl) (λ x. refl) (λ x fits. fits)
    (one_takes update_spelled 4 long (λ ticks. act.Open ticks) _ is_number (λ x. refl) (λ x. refl) (λ x fits. fits)
    (one_takes update_spelled 5 long (λ session. act.Ping session) _ is_number (λ x. refl) (λ x. refl) (λ x fits. fits)
    (one_takes update_spelled 6 long (λ session. act.Close session) _ is_number (λ x. refl) (λ x. refl) (λ x fits. fits)
    (one_takes update_spelled 7 empty (λ _. act.Tick) _ is_empty (λ x. refl) (λ x. refl) (λ x fits. fits)
    (one_takes update_spelled 8 set_acl (λ s. act.SetAcl s) _ is_set_acl (λ x. refl) (λ x. refl) (λ x fits. fits)
    (none_take update_spelled))))))))))
    update_again)
