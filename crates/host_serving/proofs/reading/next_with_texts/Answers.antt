use Rattle.std.proofs.Common.{List, ℕ, ◌∙◌, ap, subst, sym, take}
use Rattle.host_serving.specs.Frames.{Takes}
use Rattle.host_serving.proofs.reading.next_with_texts.Goals as goal

pub returns-in-Ok : goal.returns-in-Ok
returns-in-Ok g c = λ before seen takes.
    c.next_in.ensures before seen
    (subst (Takes before (g.I.Source.view c.args.input.now)) (sym (ap (λ (xs : List ℕ). take 24 xs) c.as_mut_slice.ensures.value ∙ c.in-Ok.ensures.prefix)) takes)
