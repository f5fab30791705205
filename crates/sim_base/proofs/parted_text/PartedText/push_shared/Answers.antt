use Rattle.std.proofs.Common.{◌≡◌, ◌++◌, ap, ◌∙◌, length, arith}
use Rattle.std.proofs.lemmas.Grind.{common_steps}
use Rattle.sim_base.specs.Parted.{whole}
use Rattle.sim_base.proofs.PartedLemmas.{whole_push}
use Rattle.sim_base.proofs.parted_text.PartedText.push_shared.Goals as goal

pub invariant_of-self-2 : goal.invariant_of-self-2
invariant_of-self-2 c =
    let longer : whole c.push.new.self.items ≡ whole c.self.inside.parts.items ++ c.args.part.value = ap whole c.in_ok-push.ensures.items ∙ whole_push c.self.inside.parts.items c.args.part in
    let long : length (whole c.push.new.self.items) ≡ length (whole c.self.inside.parts.items ++ c.args.part.value) = ap length longer in
    grind (arith, common_steps, long)

pub returns : goal.returns
returns c = ap whole c.in_ok-push.ensures.items ∙ whole_push c.self.inside.parts.items c.args.part ∙ ap (λ z. z ++ c.args.part.value) c.self.view_is
