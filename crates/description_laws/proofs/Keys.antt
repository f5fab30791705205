-- The sort and the key of an element.
use Rattle.std.proofs.Common.{◌≡◌, Bool, true, false, ◌&&◌, Option, Some, refl, sym}
use Rattle.std.proofs.lemmas.Option.{none-some as none_some}
use Rattle.doc_tables.specs.Elements.{key_if}
use Rattle.system_model.proofs.CallerLemmas.{true_false}

pub both : (a b : Bool) → (a && b) ≡ true → (a ≡ true) × (b ≡ true)
both true b e = (refl, e)
both false b e = absurd (true_false (sym e))

-- what has a key is of the sort, and the key is its own
pub keyed : {X : Type 0} (b : Bool) (o : Option X) (x : X) → key_if b o ≡ Some x → (b ≡ true) × (o ≡ Some x)
keyed true o x e = (refl, e)
keyed false o x e = absurd (none_some x e)
