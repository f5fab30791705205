use Rattle.std.proofs.Common.{◌≡◌, ◌∙◌, ℕ, List, IfOk, ap, subst}
use Rattle.nested_documents.specs.Inlining.{inner_ends, own_connectors}
use Rattle.nested_documents.specs.Inner.{found_ends}
use Rattle.nested_documents.proofs.InnerLemmas.{ends_are}
use Rattle.nested_documents.proofs.seam.Seam.own_ends.Goals as goal

pub returns : goal.returns
returns c =
    let s = c.args.self.now in
    let outer = c.args.outer.now in
    let inner = c.args.inner.now in
    let places = c.in_ok-places.places in
    let same : found_ends s places c.own.result.now ≡ inner_ends s outer inner =
    ap (found_ends s places) c.own.ensures.own ∙ ends_are inner places c.in_ok-places.ensures s (own_connectors s outer) in
    subst (λ (es : List ℕ). IfOk c.ends.result (λ ends. ends.items ≡ es)) same c.ends.ensures
