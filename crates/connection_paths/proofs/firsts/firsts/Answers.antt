use Rattle.std.proofs.Common.{◌+◌, ◌++◌, ◌∷◌, [], Some, sym, ap, ◌∙◌, subst, arith}
use Rattle.std.proofs.lemmas.Option.{slice_get-get_or}
use Rattle.connection_paths.specs.Firsts.{ArePlaced}
use Rattle.connection_paths.proofs.FirstLemmas.{placed_variable, placed_system, placed_end}
use Rattle.connection_paths.proofs.firsts.firsts.Goals as goal
use Rattle.connection_paths.proofs.firsts.firsts.Goals.{in-Variable+in_ok-first-in-Variable, in-OfSystem+in_ok-first-in-OfSystem}

pub loop-place-preserved : goal.loop-place-preserved
loop-place-preserved c =
    let i = c.loop-place.invariant in
    let k = c.loop-place.place in
    let points = c.args.points.now in
    let all = c.push.new.self.items in
    let m = c.match-points-place in
    elim c.match-points-place.branch [
      | in-Variable+in_ok-first-in-Variable w ↦
          let e = w.in_ok-first-in-Variable.ensures in
          let pushed = c.in_ok-push.ensures.items ∙ ap (λ z. c.loop-place.all.items ++ z ∷ []) w.first-is in
          let is = w.in-Variable.is in
          subst (λ z. ArePlaced points (k + 1) z m.systems all) (sym w.variables-is)
          (subst (λ z. ArePlaced points (k + 1) w.first_of.new.table z all) (sym w.systems-is)
          (placed_variable points k c.loop-place.variables w.first_of.new.table c.loop-place.systems c.loop-place.all.items all w.in-Variable.number w.in_ok-first-in-Variable.first i (slice_get-get_or points k _ (omega arith) ∙ ap Some is) e.found e.kept e.only pushed))
      | in-OfSystem+in_ok-first-in-OfSystem w ↦
          let e = w.in_ok-first-in-OfSystem.ensures in
          let pushed = c.in_ok-push.ensures.items ∙ ap (λ z. c.loop-place.all.items ++ z ∷ []) w.first-is in
          let is = w.in-OfSystem.is in
          subst (λ z. ArePlaced points (k + 1) z m.systems all) (sym w.variables-is)
          (subst (λ z. ArePlaced points (k + 1) c.loop-place.variables z all) (sym w.systems-is)
          (placed_system points k c.loop-place.variables c.loop-place.systems w.first_of-in-OfSystem.new.table c.loop-place.all.items all w.in-OfSystem.number w.in_ok-first-in-OfSystem.first i (slice_get-get_or points k _ (omega arith) ∙ ap Some is) e.found e.kept e.only pushed))
    ]

pub returns : goal.returns
returns c = placed_end c.args.points.now c.loop-place.place c.loop-place.variables c.loop-place.systems c.loop-place.all.items (omega arith) (omega arith) c.loop-place.invariant
