use Rattle.std.proofs.Common.{◌≡◌, ◌∙◌, Bool, List, ap, arith, false, get_or, length, subst}
use Rattle.std.specs.Prelude.{IfOk}
use Rattle.std.proofs.lemmas.List.{with_items_is}
use Rattle.event_iteration.specs.Participants.{AreSkips, is_set_before_step}
use Rattle.event_iteration.specs.Settings.{port_order}
use Rattle.event_iteration.proofs.Skipping.{by_marks_if, in_port_order}
use Rattle.event_iteration.proofs.participants.set_before_steps.Goals as goal

pub returns : goal.returns
returns c =
    let system = c.args.system.now in
    let keeps = c.mark_inputs.new.keeps in
    let same = c.as_slice.ensures.value ∙ with_items_is c.in_ok-keeps.keeps keeps (c.mark_inputs.auto.keeps ∙ c.deref_mut.ensures.len) in
    let long : length keeps ≡ length system.ports = (let size = c.mark_inputs.ensures.places in let lent = c.deref_mut.ensures.len in let made = c.in_ok-keeps.ensures.len in let n = c.len.ensures in omega (arith, size, lent, made, n)) in
    by_marks_if system (port_order system) (is_set_before_step system) (length system.ports) keeps c.of.result (in_port_order system (is_set_before_step system) keeps c.mark_inputs.ensures.marks) long
    (subst (λ (l : List Bool). IfOk c.of.result (λ skips. AreSkips (length l) (λ j. get_or l j false ≡ false) skips.next.items)) same c.of.ensures)
