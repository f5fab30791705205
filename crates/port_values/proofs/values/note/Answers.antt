use Rattle.std.proofs.Common.{List, ℕ, ap, ap₂, arith, length, length-set, sym, take, ◌∙◌}
use Rattle.port_values.proofs.ValuedLemmas.{next_none, next_there}
use Rattle.port_values.proofs.values.note.Goals as goal
use Rattle.port_values.proofs.values.note.Goals.{then-is_some, else-is_some}

pub loop-port-preserved : goal.loop-port-preserved
loop-port-preserved c =
    let values = c.args.values.now in
    let so_far = c.loop-port.invariant in
    let before = so_far.within in
    let long = so_far.room in
    let size = c.requires in
    let lt = c.loop-port-test.true in
    elim c.if-is_some.branch [
      | then-is_some w ↦ record {
        room = ap length w.there-is ∙ length-set c.loop-port.there c.loop-port.count c.loop-port.port ∙ so_far.room;
        within = (let n = w.count-is in omega (arith, n, before));
        noted = ap₂ (λ (n : ℕ) (l : List ℕ). take n l) w.count-is w.there-is
            ∙ next_there values c.loop-port.port _ lt (sym c.is_some.ensures ∙ w.if-is_some.true) c.loop-port.there c.loop-port.count (omega (arith, before, long, size, lt)) so_far.noted;
      }
      | else-is_some w ↦ record {
        room = ap length w.there-is ∙ so_far.room;
        within = (let n = w.count-is in omega (arith, n, before));
        noted = ap₂ (λ (n : ℕ) (l : List ℕ). take n l) w.count-is w.there-is ∙ so_far.noted ∙ sym (next_none values c.loop-port.port _ lt (sym c.is_some.ensures ∙ w.if-is_some.false));
      }
    ]
