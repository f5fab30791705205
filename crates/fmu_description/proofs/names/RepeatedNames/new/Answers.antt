use Rattle.std.proofs.Common.{ℕ, ◌<◌, ◌↔◌, IsTrue, List, length, All, false, get_or, subst, sym}
use Rattle.fmu_description.specs.Elements.{name_key}
use Rattle.fmu_description.specs.Names.{Named, StandsAfter}
use Rattle.fmu_description.proofs.NameLemmas.{named_within, stands_repeated}
use Rattle.fmu_description.proofs.TableLemmas.{name_key_within}
use Rattle.fmu_description.proofs.names.RepeatedNames.new.Goals as goal

pub marks-requires : goal.marks-requires
marks-requires c =
    let t = c.args.tree.now in
    let named = c.in_ok-named.named.items in
    subst (λ (xs : List Named). All (λ (e : Named). e.1 < c.len.result) xs) (sym c.as_slice.ensures.value)
    (subst (λ (n : ℕ). All (λ (e : Named). e.1 < n) named) (sym c.len.ensures) (named_within (name_key t) (length t) named (name_key_within t) c.in_ok-named.ensures.named))

pub returns : goal.returns
returns c = λ k.
    let named = c.in_ok-named.named.items in
    let marks = c.in_ok-marks.field-0.items in
    let repeated = stands_repeated (name_key c.args.tree.now) named c.in_ok-named.ensures.named c.in_ok-named.ensures.sorted k in
    let marked : IsTrue (get_or marks k false) ↔ StandsAfter named k =
    subst (λ (xs : List Named). IsTrue (get_or marks k false) ↔ StandsAfter xs k) c.as_slice.ensures.value (c.in_ok-marks.ensures k) in
    (λ h. repeated.0 (marked.0 h), λ r. marked.1 (repeated.1 r))
