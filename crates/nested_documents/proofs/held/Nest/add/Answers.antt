use Rattle.std.proofs.Common.{◌≡◌, ◌∙◌, ℕ, suc, Some, Option, length, slice_get, ap, arith, refl, subst, sym}
use Rattle.std.proofs.lemmas.Option.{slice_get_read}
use Rattle.nested_documents.specs.declared.numbers.Place.{Place}
use Rattle.nested_documents.specs.declared.seam.Seam.{Seam}
use Rattle.ssd_tree.specs.Lists.{AreBetween, places_of, tree_of}
use Rattle.nested_documents.specs.Between.{waiting_places}
use Rattle.nested_documents.specs.Inlining.{seam_of}
use Rattle.nested_documents.specs.Nest.{earlier_place, lacking_in}
use Rattle.nested_documents.specs.Numbers.{with_elements}
use Rattle.nested_documents.proofs.NestLemmas.{placed_added, rest_after, taken, waits_added, within_parts}
use Rattle.nested_documents.proofs.SeamLemmas.{component_at, connectors_within}
use Rattle.nested_documents.proofs.held.Nest.add.Goals as goal

pub lacking_in-requires : goal.lacking_in-requires
lacking_in-requires c =
    let nest = c.args.self in
    let next = c.remove-next.result in
    let waits = taken nest next c.remove-next.new.self.items c.requires c.remove-next.ensures.value c.remove-next.ensures.items in
    let less = within_parts nest next c.remove-next.new.self.items waits in
    let within = connectors_within (tree_of nest.parts) next.component (tree_of c.args.document.parts) c.args.document.elements c.seam_of-seam.result less c.seam_of-seam.ensures in
    rw c.deref.ensures.value within

pub invariant_of-result : goal.invariant_of-result
invariant_of-result c =
    let nest = c.args.self in
    let document = c.args.document in
    let next = c.remove-next.result in
    let rest = c.remove-next.new.self.items in
    let outer = tree_of nest.parts in
    let inner = tree_of document.parts in
    let waits = taken nest next rest c.requires c.remove-next.ensures.value c.remove-next.ensures.items in
    let less = within_parts nest next rest waits in
    let at = component_at nest.parts.components.items next.component less in
    let seam = seam_of outer next.component at.0 inner document.elements in
    let inside : AreBetween 0 (length document.parts.components.items) (places_of document.nested.items) = subst (λ (n : ℕ). AreBetween 0 n (places_of document.nested.items)) document.parts.components.ok.0 document.placed in
    let after : AreBetween (suc next.component) (length nest.parts.components.items) (waiting_places rest) =
    subst (λ (n : ℕ). AreBetween (suc next.component) n (waiting_places rest)) nest.parts.components.ok.0 (rest_after nest.parts.components.len nest.waiting.items next rest waits nest.placed) in
    let all = waits_added c.seam_of-seam.result seam next.component nest.documents next.level document.nested.items rest c.in_ok-waits.waits.items c.in_ok-rest.rest.items c.append.new.self.items (c.seam_of-seam.ensures at.0 at.1) c.in_ok-waits.ensures c.in_ok-rest.ensures c.in_ok-append.ensures.items in
    let placed = placed_added outer inner (tree_of c.in_ok-parts.parts) next.component document.elements nest.documents (suc next.level) at.0 c.in_ok-frame.frame document.nested.items rest c.append.new.self.items less inside after (c.in_ok-parts.ensures at.0 at.1) all in record {
      placed = subst (λ (n : ℕ). AreBetween 0 n (waiting_places c.append.new.self.items)) (sym c.in_ok-parts.parts.components.ok.0) placed;
    }

pub returns : goal.returns
returns c =
    let nest = c.args.self in
    let document = c.args.document in
    let next = c.remove-next.result in
    let rest = c.remove-next.new.self.items in
    let waits = taken nest next rest c.requires c.remove-next.ensures.value c.remove-next.ensures.items in
    let less = within_parts nest next rest waits in
    let component = c.index.result.now in
    let at : slice_get nest.parts.components.items next.component ≡ Some component = slice_get_read nest.parts.components.items (length nest.parts.components.items) next.component component refl less c.index.ensures in
    let seam = seam_of (tree_of nest.parts) next.component component (tree_of document.parts) document.elements in
    let same : c.seam_of-seam.result ≡ seam = c.seam_of-seam.ensures component at in
    let here : c.in_ok-here.here ≡ lacking_in nest.numbers c.seam_of-seam.result nest.parts.connectors.items document.parts.connectors.items = rw (c.deref.ensures.value, c.deref-2.ensures.value) at c.in_ok-here.ensures in
    let there : c.in_ok-here.here ≡ lacking_in nest.numbers seam nest.parts.connectors.items document.parts.connectors.items =
    subst (λ (s : Seam). c.in_ok-here.here ≡ lacking_in nest.numbers s nest.parts.connectors.items document.parts.connectors.items) same here in record {
      next = next;
      rest = rest;
      component = component;
      first = record { waits = waits; at = at };
      frame = c.in_ok-frame.frame;
      is_frame = c.in_ok-frame.ensures;
      tree = c.in_ok-parts.ensures component at;
      waiting = waits_added c.seam_of-seam.result seam next.component nest.documents next.level document.nested.items rest c.in_ok-waits.waits.items c.in_ok-rest.rest.items c.append.new.self.items same c.in_ok-waits.ensures c.in_ok-rest.ensures c.in_ok-append.ensures.items;
      elements = subst (λ (s : Seam). c.insert.new.self ≡ with_elements s.node nest.documents document.elements nest.numbers) same c.in_ok-insert.ensures;
      documents = omega arith;
      lacking = c.earlier_place.ensures ∙ ap (λ (p : Option Place). earlier_place nest.lacking p) there;
    }
