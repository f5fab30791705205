use Rattle.std.proofs.Common.{◌≡◌, ◌∙◌, List, Some, None, ap, slice_get}
use Rattle.std.specs.Option.{option_and_then}
use Rattle.ssd_tree.specs.declared.tree.Connector.{Connector}
use Rattle.nested_documents.specs.Inlining.{own_connectors}
use Rattle.nested_documents.specs.Inner.{first_unfound}
use Rattle.nested_documents.specs.Nest.{first_lacking}
use Rattle.nested_documents.proofs.InnerLemmas.{unfound_is}
use Rattle.nested_documents.proofs.nest.lacking_in.Goals as goal

pub returns-in-Some : goal.returns-in-Some
returns-in-Some c =
    let s = c.args.seam.now in
    let own = own_connectors s c.args.outer.now in
    let inner = c.args.inner.now in
    let places = c.in_ok-places.places in
    let found : Some c.in-Some.node ≡ first_lacking own inner =
    c.in-Some.ensures ∙ (ap (λ (xs : List Connector). first_unfound xs places) c.own.ensures.own ∙ unfound_is inner places c.in_ok-places.ensures own) in
    c.place.ensures ∙ ap (option_and_then (slice_get c.args.numbers.now)) found

pub returns : goal.returns
returns c =
    let s = c.args.seam.now in
    let own = own_connectors s c.args.outer.now in
    let inner = c.args.inner.now in
    let places = c.in_ok-places.places in
    let none : None ≡ first_lacking own inner =
    c.in-None.ensures ∙ (ap (λ (xs : List Connector). first_unfound xs places) c.own.ensures.own ∙ unfound_is inner places c.in_ok-places.ensures own) in
    ap (option_and_then (slice_get c.args.numbers.now)) none
