use Rattle.std.proofs.Common.{◌≡◌, ℕ, List, None, ap, ◌∙◌, sym}
use Rattle.std.proofs.lemmas.Result.{err_from_is_err_and}
use Rattle.zpath.specs.Grammar.{IsPath, text_of}
use Rattle.zpath.specs.Faults.{parts_of, names_of, fault_of}
use Rattle.zpath.proofs.Cuts.{lens_fit, cut_at_slashes, ascii_text}
use Rattle.zpath.proofs.Spelling.{path_from_text, text_has_no_fault}
use Rattle.zpath.proofs.path.Path.parse.Goals as goal

pub returns-in_err-rest-clause-only : goal.returns-in_err-rest-clause-only
returns-in_err-rest-clause-only c =
    let p = err_from_is_err_and c.from_residual-in_err-rest.result c.from_residual-in_err-rest.ensures.1 in
    rw (p.1) (λ path.
    let none = ap fault_of path.2 ∙ text_has_no_fault path.0 path.1 in
    let fault = c.in_err-rest.ensures.err in
    cc)

-- a text without a fault spells its parts
spelled : (text rest : List ℕ) → fault_of text ≡ None → names_of text ≡ parts_of rest → IsPath (parts_of rest) × (text ≡ text_of (parts_of rest))
spelled text rest none names = rw names at (path_from_text text none)

pub names_by-requires : goal.names_by-requires
names_by-requires c =
    let is = (spelled c.args.text.now c.in-Some.rest.now c.in-Some.ensures.fault c.in-Some.ensures.names).0 in
    let lens = c.deref.ensures.0 ∙ c.in-Some.ensures.lens in
    record {
      ascii = ascii_text c.in-Some.rest.now is.names;
      fit = lens_fit c.in-Some.rest.now c.deref.result.now lens;
      names = rw (cut_at_slashes c.in-Some.rest.now c.deref.result.now lens) is.names;
    }

pub of-requires : goal.of-requires
of-requires c =
    let is = spelled c.args.text.now c.in-Some.rest.now c.in-Some.ensures.fault c.in-Some.ensures.names in
    let lens = c.deref.ensures.0 ∙ c.in-Some.ensures.lens in
    rw (c.in_ok-names.ensures, cut_at_slashes c.in-Some.rest.now c.deref.result.now lens) is.0

pub returns-in-Some-clause-found : goal.returns-in-Some-clause-found
returns-in-Some-clause-found c =
    let is = spelled c.args.text.now c.in-Some.rest.now c.in-Some.ensures.fault c.in-Some.ensures.names in
    let lens = c.deref.ensures.0 ∙ c.in-Some.ensures.lens in
    rw (c.in_ok-of.ensures.1, c.in_ok-names.ensures, cut_at_slashes c.in-Some.rest.now c.deref.result.now lens) is

pub names_after-requires : goal.names_after-requires
names_after-requires c =
    let tested = c.in_ok-rest.ensures.ok in
    (path_from_text _ (ap fault_of (sym tested.1) ∙ tested.0)).0.names

pub of-requires-2 : goal.of-requires-2
of-requires-2 c =
    let tested = c.in_ok-rest.ensures.ok in
    rw c.in_ok-names-2.ensures (path_from_text _ (ap fault_of (sym tested.1) ∙ tested.0)).0

pub returns-clause-found : goal.returns-clause-found
returns-clause-found c =
    let tested = c.in_ok-rest.ensures.ok in
    let is = path_from_text _ (ap fault_of (sym tested.1) ∙ tested.0) in
    rw (c.in_ok-of-2.ensures.1, c.in_ok-names-2.ensures) (is.0, tested.1 ∙ is.1)
