use Rattle.std.proofs.Common.{◌≡◌, ◌∙◌, Bool, List, ap, arith, false, get_or, length, subst}
use Rattle.std.specs.Prelude.{IfOk}
use Rattle.std.proofs.lemmas.List.{with_items_is}
use Rattle.system_model.specs.Ports.{port_numbers}
use Rattle.event_iteration.specs.Participants.{AreSkips, is_steady}
use Rattle.event_iteration.proofs.Skipping.{by_marks_if}
use Rattle.event_iteration.proofs.participants.steady_places.Goals as goal

pub returns : goal.returns
returns c =
    let system = c.args.system.now in
    let keeps = c.mark_places.new.keeps in
    let same = c.as_slice.ensures.value ∙ with_items_is c.in_ok-keeps.keeps keeps (c.mark_places.auto.keeps ∙ c.deref_mut.ensures.len) in
    let long : length keeps ≡ length system.instant_order = (let size = c.mark_places.ensures.places in let lent = c.deref_mut.ensures.len in let made = c.in_ok-keeps.ensures.len in let n = c.len.ensures in omega (arith, size, lent, made, n)) in
    by_marks_if system (port_numbers system.instant_order) is_steady (length system.instant_order) keeps c.of.result c.mark_places.ensures.marks long
    (subst (λ (l : List Bool). IfOk c.of.result (λ skips. AreSkips (length l) (λ j. get_or l j false ≡ false) skips.next.items)) same c.of.ensures)
