use Rattle.std.proofs.Common.{◌≡◌, [], ◌∷◌, ◌++◌, sym, ◌∙◌, ap, subst, take, get_or}
use Rattle.std.specs.List.{AllZip}
use Rattle.std.proofs.lemmas.List.{take_more}
use Rattle.flatten.specs.Ports.{IsPortUnder}
use Rattle.flatten.proofs.ClockLemmas.{zip_push}
use Rattle.flatten.proofs.connectors.FlatTree.clocks.Goals as goal
use Rattle.flatten.proofs.connectors.FlatTree.clocks.Goals.{in-Some+in_ok-push, in_default}

pub loop-reference-preserved : goal.loop-reference-preserved
loop-reference-preserved c =
    elim c.match-clock_port.branch [
      | in-Some+in_ok-push w ↦
          let i = c.loop-reference.reference-index in
          let references = c.args.references.now in
          let items : c.match-clock_port.clocks.items ≡ c.loop-reference.clocks.items ++ w.in-Some.port ∷ [] = ap (λ v. v.items) w.clocks-is ∙ w.in_ok-push.ensures.items in
          subst (λ zs. AllZip (IsPortUnder c.args.self.now.shapes.now c.args.component) zs c.match-clock_port.clocks.items) (sym (take_more references i 0 c.loop-reference-test.true))
          (subst (λ zs. AllZip (IsPortUnder c.args.self.now.shapes.now c.args.component) (take i references ++ get_or references i 0 ∷ []) zs) (sym items)
          (zip_push (IsPortUnder c.args.self.now.shapes.now c.args.component) (take i references) c.loop-reference.clocks.items (get_or references i 0) w.in-Some.port c.loop-reference.invariant w.in-Some.ensures))
      | in_default w ↦ absurd w.in_default.ensures
    ]
