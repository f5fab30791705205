use Rattle.std.proofs.Common.{Some, refl, sym, ◌∙◌, subst, inl}
use Rattle.std.proofs.lemmas.Bool.{leb-true}
use Rattle.parameter_binding.specs.Walk.{IsPut, best_of}
use Rattle.parameter_binding.proofs.WinnerLemmas.{put_best}
use Rattle.parameter_binding.proofs.winners.Winners.put.Goals as goal
use Rattle.parameter_binding.proofs.winners.Winners.put.Goals.{in-None, in-Some}

pub returns-in_ok-insert : goal.returns-in_ok-insert
returns-in_ok-insert c =
    let next = c.args.next in
    let put : IsPut (best_of c.args.self.now c.args.target) next (Some next) = elim c.match-get.branch [
      | in-None w ↦ subst (λ o. IsPut o next (Some next)) (sym w.in-None.is ∙ c.get.ensures) refl
      | in-Some w ↦ subst (λ o. IsPut o next (Some next)) (sym w.in-Some.is ∙ c.get.ensures) (inl (leb-true next.level w.in-Some.best.level (sym w.wins-is ∙ c.if-wins.true), refl))
    ] in
    put_best c.args.target next c.args.self.now _ c.in_ok-insert.ensures.updates put
