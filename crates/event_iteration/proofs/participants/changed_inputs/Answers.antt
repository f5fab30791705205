use Rattle.std.proofs.Common.{◌≡◌, ◌∙◌, ℕ, Some, Bool, List, ap, arith, false, get_or, length, subst}
use Rattle.std.specs.Prelude.{IfOk, slice_get}
use Rattle.std.proofs.lemmas.List.{with_items_is}
use Rattle.system_model.specs.declared.system.Port.{Port}
use Rattle.event_iteration.specs.Participants.{AreSkips, is_changed_input}
use Rattle.event_iteration.specs.Settings.{port_order}
use Rattle.event_iteration.proofs.Skipping.{by_marks_if, in_port_order}
use Rattle.event_iteration.proofs.participants.changed_inputs.Goals as goal

pub returns : goal.returns
returns c =
    let system = c.args.system.now in
    let keeps = c.mark_changed_inputs.new.keeps in
    let same = c.as_slice.ensures.value ∙ with_items_is c.in_ok-keeps.keeps keeps (c.mark_changed_inputs.auto.keeps ∙ c.deref_mut.ensures.len) in
    let long : length keeps ≡ length system.ports = (let size = c.mark_changed_inputs.ensures.places in let lent = c.deref_mut.ensures.len in let made = c.in_ok-keeps.ensures.len in let n = ap length c.as_slice-ports.ensures in omega (arith, size, lent, made, n)) in
    by_marks_if system (port_order system) (λ (port : Port). is_changed_input port.role) (length system.ports) keeps c.of.result (in_port_order system (λ (port : Port). is_changed_input port.role) keeps (subst (λ (ports : List Port). (p : ℕ) (port : Port) → slice_get ports p ≡ Some port → get_or keeps p false ≡ is_changed_input port.role) c.as_slice-ports.ensures c.mark_changed_inputs.ensures.marks)) long
    (subst (λ (l : List Bool). IfOk c.of.result (λ skips. AreSkips (length l) (λ j. get_or l j false ≡ false) skips.next.items)) same c.of.ensures)
