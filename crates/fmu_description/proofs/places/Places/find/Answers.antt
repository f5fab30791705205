use Rattle.std.proofs.Common.{sym, ap, ◌∙◌, subst}
use Rattle.std.specs.List.Sorted.{IsSorted}
use Rattle.value_types.specs.Index.{pair_cmp}
use Rattle.fmu_description.specs.Places.{found}
use Rattle.fmu_description.proofs.places.Places.find.Goals as goal

pub returns : goal.returns
returns c =
    let sorted : IsSorted pair_cmp c.as_slice.result.now = subst (IsSorted pair_cmp) (sym c.as_slice.ensures.value) c.self.invariant in
    rw (← c.self.view_is) (c.node_in.ensures sorted ∙ ap (λ es. found es c.args.reference) c.as_slice.ensures.value)
