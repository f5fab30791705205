-- Values along paths, worked out by hand.
use Rattle.std.proofs.Common.{◌≡◌, pos, negsuc, [], ◌∷◌, refl}
use Rattle.std.specs.Prelude.{Some, None, true, false}
use Rattle.parameter_values.specs.declared.change.Change.TheVariants as change
use Rattle.value_types.specs.declared.values.PortType.TheVariants.{Int8, Boolean}
use Rattle.system_model.specs.Carried.{carried}

-- a factor of 30 into an Int8: 0, 60, 120
thirty_0 : carried (change.Linear (pos 30) (pos 0) ∷ []) Int8 (pos 0) ≡ Some (pos 0)
thirty_0 = refl

thirty_2 : carried (change.Linear (pos 30) (pos 0) ∷ []) Int8 (pos 2) ≡ Some (pos 60)
thirty_2 = refl

thirty_4 : carried (change.Linear (pos 30) (pos 0) ∷ []) Int8 (pos 4) ≡ Some (pos 120)
thirty_4 = refl

-- a factor of 100: lost from 2 on
hundred_2 : carried (change.Linear (pos 100) (pos 0) ∷ []) Int8 (pos 2) ≡ None
hundred_2 = refl

-- lost on the way, though the next factor is 0
on_the_way : carried (change.Linear (pos 9223372036854775807) (pos 0) ∷ change.Linear (pos 0) (pos 5) ∷ []) Int8 (pos 3) ≡ None
on_the_way = refl

-- of two pairs with one source the later counts; without a pair there is none
pairs_0 : carried (change.Integers (record { source = pos 0; target = pos 1 } ∷ record { source = pos 0; target = negsuc 6 } ∷ []) ∷ []) Int8 (pos 0) ≡ Some (negsuc 6)
pairs_0 = refl

pairs_4 : carried (change.Integers (record { source = pos 0; target = pos 1 } ∷ []) ∷ []) Int8 (pos 4) ≡ None
pairs_4 = refl

truth : carried (change.Booleans (record { source = false; target = true } ∷ []) ∷ []) Boolean (pos 0) ≡ Some (pos 1)
truth = refl
