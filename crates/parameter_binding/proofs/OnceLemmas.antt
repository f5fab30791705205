-- One alone: the parameter and the name of a triple, a target's variable, and a value after a change.
use Rattle.std.proofs.Common.{◌≡◌, ℕ, ℤ, Bool, List, Option, Some, None, refl, sym, ap, ◌∙◌, subst, arith}
use Rattle.std.specs.List.{slice_get}
use Rattle.std.proofs.lemmas.Option.{same_Some}
use Rattle.value_types.specs.declared.shape.Shape.{Shape}
use Rattle.value_types.specs.declared.shape.Variable.{Variable}
use Rattle.parameter_values.specs.declared.change.IntegerPair.{IntegerPair}
use Rattle.parameter_values.specs.declared.change.BooleanPair.{BooleanPair}
use Rattle.parameter_values.specs.declared.change.Change.{Change}
use Rattle.parameter_values.specs.declared.change.Change.TheVariants as change
use Rattle.parameter_values.specs.declared.set.Mapping.{Mapping}
use Rattle.parameter_values.specs.declared.set.MappingEntry.{MappingEntry}
use Rattle.parameter_values.specs.declared.set.Parameter.{Parameter}
use Rattle.parameter_values.specs.declared.set.ParameterValue.{ParameterValue}
use Rattle.parameter_values.specs.declared.set.ParameterValue.TheVariants as value
use Rattle.parameter_values.specs.Values.{Gives, TakesBoolean, TakesInteger, bit}
use Rattle.ssd_tree.specs.declared.tree.Binding.{Binding}
use Rattle.ssd_tree.specs.declared.tree.SystemTree.{SystemTree}
use Rattle.parameter_targets.specs.declared.target.Target.{Target}
use Rattle.parameter_targets.specs.Scopes.{IsTarget}
use Rattle.parameter_binding.specs.declared.sets.BindingSets.{BindingSets}
use Rattle.parameter_binding.specs.Binds.{IsCandidate, IsMapped, Triple, change_of, mapping_of, prefixed}

pub target_once : (shapes : List Shape) (target : Target) (v w : Variable) → IsTarget shapes target v → IsTarget shapes target w → v ≡ w
target_once shapes target v w a b =
    let shape : a.shape ≡ b.shape = same_Some a.shape b.shape (sym a.of ∙ b.of) in
    same_Some v w (sym a.at ∙ ap (λ (z : Shape). slice_get z.variables target.variable) shape ∙ b.at)

-- ---- candidates

mapped_once : (m : Option Mapping) (place : ℕ) (source name other : List ℕ) (c d : Option Change) → IsMapped m place source name c → IsMapped m place source other d → (name ≡ other) × (c ≡ d)
mapped_once None place source name other c d a b = (a.1 ∙ sym b.1, a.2 ∙ sym b.2)
mapped_once (Some m) place source name other c d a b =
    let same : a.0 ≡ b.0 = same_Some a.0 b.0 (sym a.1 ∙ b.1) in
    (a.3 ∙ ap (λ (z : MappingEntry). z.target) same ∙ sym b.3, a.4 ∙ ap change_of same ∙ sym b.4)

pub record AreOne (b b' : Binding) (p p' : Parameter) (n n' : List ℕ) (c c' : Option Change) : Type 0 where
  pub binding : b ≡ b'
  pub parameter : p ≡ p'
  pub name : n ≡ n'
  pub change : c ≡ c'

pub candidate_once : (t : SystemTree) (sets : List BindingSets) (x : Triple) (b b' : Binding) (p p' : Parameter) (n n' : List ℕ) (c c' : Option Change) → IsCandidate t sets x b p n c → IsCandidate t sets x b' p' n' c' → AreOne b b' p p' n n' c c'
candidate_once t sets x b b' p p' n n' c c' i j =
    let binding : b ≡ b' = same_Some b b' (sym i.is ∙ j.is) in
    let given : i.given ≡ j.given = same_Some i.given j.given (sym i.has ∙ j.has) in
    let parameter : p ≡ p' = same_Some p p' (sym i.at ∙ ap (λ (z : BindingSets). slice_get z.values.set.parameters x.parameter) given ∙ j.at) in
    let source : prefixed b p ≡ prefixed b' p' = ap (λ (z : Binding). prefixed z p) binding ∙ ap (λ (z : Parameter). prefixed b' z) parameter in
    let mine : IsMapped (mapping_of j.given) x.entry (prefixed b' p') n c = subst (λ s. IsMapped (mapping_of j.given) x.entry s n c) source (subst (λ (z : BindingSets). IsMapped (mapping_of z) x.entry (prefixed b p) n c) given i.mapped) in
    let both = mapped_once (mapping_of j.given) x.entry (prefixed b' p') n n' c c' mine j.mapped in
    record { binding = binding; parameter = parameter; name = both.0; change = both.1 }

-- ---- values

integer_once : (pairs : List IntegerPair) (x y z : ℤ) → TakesInteger pairs x y → TakesInteger pairs x z → y ≡ z
integer_once pairs x y z a b =
    let low = a.last b.place _ b.is refl in
    let high = b.last a.place _ a.is refl in
    let same : a.place ≡ b.place = omega (arith, low, high) in
    ap (λ (p : IntegerPair). p.target) (same_Some (record { source = x; target = y }) (record { source = x; target = z }) (sym a.is ∙ ap (slice_get pairs) same ∙ b.is))

boolean_once : (pairs : List BooleanPair) (x y z : Bool) → TakesBoolean pairs x y → TakesBoolean pairs x z → y ≡ z
boolean_once pairs x y z a b =
    let low = a.last b.place _ b.is refl in
    let high = b.last a.place _ a.is refl in
    let same : a.place ≡ b.place = omega (arith, low, high) in
    ap (λ (p : BooleanPair). p.target) (same_Some (record { source = x; target = y }) (record { source = x; target = z }) (sym a.is ∙ ap (slice_get pairs) same ∙ b.is))

pub gives_once : (c : Option Change) (v : ParameterValue) (y z : ℤ) → Gives c v y → Gives c v z → y ≡ z
gives_once None (value.Integer x) y z a b = a ∙ sym b
gives_once None (value.Boolean x) y z a b = a ∙ sym b
gives_once None value.Other y z a b = absurd a
gives_once (Some (change.Linear factor offset)) (value.Integer x) y z a b = a ∙ sym b
gives_once (Some (change.Linear factor offset)) (value.Boolean x) y z a b = absurd a
gives_once (Some (change.Linear factor offset)) value.Other y z a b = absurd a
gives_once (Some (change.Integers pairs)) (value.Integer x) y z a b = integer_once pairs x y z a b
gives_once (Some (change.Integers pairs)) (value.Boolean x) y z a b = absurd a
gives_once (Some (change.Integers pairs)) value.Other y z a b = absurd a
gives_once (Some (change.Booleans pairs)) (value.Boolean x) y z a b = a.2 ∙ ap bit (boolean_once pairs x a.0 b.0 a.1 b.1) ∙ sym b.2
gives_once (Some (change.Booleans pairs)) (value.Integer x) y z a b = absurd a
gives_once (Some (change.Booleans pairs)) value.Other y z a b = absurd a
