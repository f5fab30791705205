-- From the answers of a binding of parameters to what the bindings of an outline give.
use Rattle.std.proofs.Common.{◌≡◌, ◌⊎◌, inl, inr, ℕ, zero, suc, ◌+◌, ◌-◌, ◌*◌, Bool, true, false, List, [], ◌∷◌, get_or, map, Option, Some, None, refl, sym, ap, ◌∙◌, subst, arith, slice_get}
use Rattle.std.specs.Prelude.{IsSomeAnd}
use Rattle.std.specs.Option.{option_map, option_map_or}
use Rattle.std.proofs.lemmas.Bool.{cases_order}
use Rattle.std.proofs.lemmas.Option.{same_Some}
use Rattle.sim_base.specs.declared.numbers.PortId.{PortId}
use Rattle.value_types.specs.declared.shape.Shape.{Shape}
use Rattle.doc_tree.specs.declared.place.Place.{Place}
use Rattle.doc_tree.specs.declared.refusal.Refusal.{Refusal}
use Rattle.doc_tree.specs.declared.refusal.Refusal.TheVariants as r
use Rattle.doc_tree.specs.declared.rule.ParameterRule.{ParameterRule}
use Rattle.doc_tree.specs.declared.rule.ParameterRule.TheVariants as p
use Rattle.doc_tree.specs.declared.rule.Rule.{Rule}
use Rattle.doc_tree.specs.declared.rule.Rule.TheVariants.{Parameters}
use Rattle.doc_tree.specs.Rules.{parameter_number}
use Rattle.system_model.specs.declared.bound.Bound.{Bound}
use Rattle.ssd_tree.specs.declared.tree.SystemTree.{SystemTree}
use Rattle.parameter_binding.specs.declared.sets.BindingSets.{BindingSets}
use Rattle.parameter_binding.specs.declared.sets.MappingOf.{MappingOf}
use Rattle.parameter_binding.specs.Answers as answers
use Rattle.parameter_binding.specs.Binds.{AreBound}
use Rattle.parameter_binding.specs.Rules as rules
use Rattle.system_loading.specs.declared.binding.BindingFault.{BindingFault}
use Rattle.system_loading.specs.declared.binding.BindingFault.TheVariants.{Broken, Memory}
use Rattle.system_loading.specs.declared.outline.Outline.{Outline}
use Rattle.system_loading.specs.declared.parameters.Documents.{Documents}
use Rattle.system_loading.specs.declared.parameters.GivenBinding.{GivenBinding}
use Rattle.system_loading.specs.declared.parameters.GivenMapping.{GivenMapping}
use Rattle.system_loading.specs.Binding.{sets_at, BindsAlone, BreaksBindingAlone, SaysBinding, TellsBinding, documents_of, file_number, place_at, place_in_part, sets_from, sets_of}

-- ---- one first violation

abbrev rule_back : (n : ℕ) → ParameterRule
rule_back n = get_or (p.Structure ∷ p.Incomplete ∷ p.OtherClass ∷ p.OutOfRange ∷ p.Transformation ∷ p.NoMapEntry ∷ p.NamesTwo ∷ []) (n - 50) p.Structure

back : (rule : ParameterRule) → rule_back (parameter_number rule) ≡ rule
back p.Structure = refl
back p.Incomplete = refl
back p.OtherClass = refl
back p.OutOfRange = refl
back p.Transformation = refl
back p.NoMapEntry = refl
back p.NamesTwo = refl

same_rule : (one other : ParameterRule) → parameter_number one ≡ parameter_number other → one ≡ other
same_rule one other e = sym (back one) ∙ ap rule_back e ∙ back other

-- of two places one stands before the other, or they are one
places_apart : (p q : rules.Place) → (p ≡ q) ⊎ (rules.IsBefore p q ⊎ rules.IsBefore q p)
places_apart p q = elim (cases_order p.binding q.binding) [
  | inl e ↦ by p.in_mapping q.in_mapping refl refl e
  | inr (inl lower) ↦ inr (inl (inl lower))
  | inr (inr lower) ↦ inr (inr (inl lower))
]
  where
    within : p.binding ≡ q.binding → p.in_mapping ≡ q.in_mapping → (p ≡ q) ⊎ (rules.IsBefore p q ⊎ rules.IsBefore q p)
    within e f = elim (cases_order p.node q.node) [
      | inl g ↦ inl (λ i. record { binding = e i; in_mapping = f i; node = g i })
      | inr (inl lower) ↦ inr (inl (inr (e, inr (f, lower))))
      | inr (inr lower) ↦ inr (inr (inr (sym e, inr (sym f, lower))))
    ]

    by : (m n : Bool) → p.in_mapping ≡ m → q.in_mapping ≡ n → p.binding ≡ q.binding → (p ≡ q) ⊎ (rules.IsBefore p q ⊎ rules.IsBefore q p)
    by false false a b e = within e (a ∙ sym b)
    by true true a b e = within e (a ∙ sym b)
    by false true a b e = inr (inl (inr (e, inl (rw (a, b) tt))))
    by true false a b e = inr (inr (inr (sym e, inl (rw (a, b) tt))))

module _ (t : SystemTree) (shapes : List Shape) (sets : List BindingSets) where
  pub one_place : (p q : rules.Place) (a b : ParameterRule) → rules.IsFirstParameterViolation t shapes sets p a → rules.IsFirstParameterViolation t shapes sets q b → p ≡ q
  one_place p q a b x y = elim (places_apart p q) [
    | inl e ↦ e
    | inr (inl before) ↦ absurd (y.first p a before x.broken)
    | inr (inr before) ↦ absurd (x.first q b before y.broken)
  ]

  pub one_rule : (p : rules.Place) (a b : ParameterRule) → rules.IsFirstParameterViolation t shapes sets p a → rules.IsFirstParameterViolation t shapes sets p b → a ≡ b
  one_rule p a b x y = elim (cases_order (parameter_number a) (parameter_number b)) [
    | inl e ↦ same_rule a b e
    | inr (inl lower) ↦ absurd (y.least a lower x.broken)
    | inr (inr lower) ↦ absurd (x.least b lower y.broken)
  ]

-- ---- numbers

pub numbered : (n : ℕ) (given : List GivenBinding) (i : ℕ) (m : Bool) (x : BindingSets) (file : ℕ) → slice_get (sets_from n given) i ≡ Some x → answers.file_in m x ≡ Some file → file ≡ file_number (n + i) m
numbered n [] i m x file there told = cc
numbered n (g ∷ gs) zero m x file there told = first n g m x file (same_Some _ x there) told
  where
    mapped : (n : ℕ) (x : BindingSets) (found : Option GivenMapping) (file : ℕ) → option_map (λ (m : GivenMapping). record { file = 2 * n + 1; mapping = m.mapping }) found ≡ x.mapping
        → answers.file_in true x ≡ Some file → file ≡ 2 * n + 1
    mapped n x None file is told = let none : option_map_or (λ (m : MappingOf). Some m.file) x.mapping None ≡ None = ap (λ (o : Option MappingOf). option_map_or (λ (m : MappingOf). Some m.file) o None) (sym is) in cc
    mapped n x (Some m) file is told =
        let some : option_map_or (λ (m : MappingOf). Some m.file) x.mapping None ≡ Some (2 * n + 1) = ap (λ (o : Option MappingOf). option_map_or (λ (m : MappingOf). Some m.file) o None) (sym is) in
        same_Some file (2 * n + 1) (sym told ∙ some)

    first : (n : ℕ) (g : GivenBinding) (m : Bool) (x : BindingSets) (file : ℕ) → sets_at n g ≡ x → answers.file_in m x ≡ Some file → file ≡ file_number (n + zero) m
    first n g false x file is told =
        let here : 2 * n ≡ file = ap (λ (y : BindingSets). y.values.file) is ∙ same_Some x.values.file file told in
        omega arith
    first n g true x file is told =
        let here : file ≡ 2 * n + 1 = mapped n x g.mapping file (ap (λ (y : BindingSets). y.mapping) is) told in
        omega arith
numbered n (g ∷ gs) (suc i) m x file there told = numbered (suc n) gs i m x file there told ∙ ap (λ k. file_number k m) (omega arith)

-- ---- what is given

pub bound_alone : (o : Outline) (shapes : List Shape) (given : List GivenBinding) (sets : List BindingSets) (bound : Bound) → sets ≡ sets_of given → AreBound o.systems shapes sets bound →
    rules.IsFitting o.systems shapes sets → ((a b : Bound) → AreBound o.systems shapes (sets_of given) a → AreBound o.systems shapes (sets_of given) b → a ≡ b) → BindsAlone o shapes given bound
bound_alone o shapes given sets bound is gives fits once =
    let here : AreBound o.systems shapes (sets_of given) bound = subst (λ xs. AreBound o.systems shapes xs bound) is gives in
    let fitting : rules.IsFitting o.systems shapes (sets_of given) = subst (λ xs. rules.IsFitting o.systems shapes xs) is fits in
    record {
      is = record { fits = fitting; gives = here };
      only = λ other b. once bound other here b.gives;
      none = λ binding in_mapping rule place b. fitting b.broken b.at b.first.broken;
    }

breaks_alone : (o : Outline) (shapes : List Shape) (given : List GivenBinding) (at : rules.Place) (broken : ParameterRule) (n : ℕ) (m : Bool) (rule : Rule) (place : Place) →
    rules.IsFirstParameterViolation o.systems shapes (sets_of given) at broken → n ≡ at.binding → m ≡ at.in_mapping → rule ≡ Parameters broken → place ≡ place_at o given at →
    BreaksBindingAlone o shapes given n m rule place
breaks_alone o shapes given at broken n m rule place first n_is m_is rule_is place_is = record {
  broken = record { at = at; broken = broken; first = first; binding_is = n_is; mapping_is = m_is; rule_is = rule_is; place_is = place_is };
  only = λ other mapped another elsewhere b.
      let same : at ≡ b.at = one_place o.systems shapes (sets_of given) at b.at broken b.broken first b.first in
      let rules_same : broken ≡ b.broken = one_rule o.systems shapes (sets_of given) b.at broken b.broken (subst (λ q. rules.IsFirstParameterViolation o.systems shapes (sets_of given) q broken) same first) b.first in (
        n_is ∙ ap (λ (q : rules.Place). q.binding) same ∙ sym b.binding_is,
        m_is ∙ ap (λ (q : rules.Place). q.in_mapping) same ∙ sym b.mapping_is,
        rule_is ∙ ap (λ (x : ParameterRule). Parameters x) rules_same ∙ sym b.rule_is,
        place_is ∙ ap (place_at o given) same ∙ sym b.place_is,
      );
  none = λ bound b. b.fits broken at first.broken;
}

told_by : (o : Outline) (shapes : List Shape) (given : List GivenBinding) (at : rules.Place) (broken : ParameterRule) (rule : Rule) (fault : BindingFault) →
    rules.IsFirstParameterViolation o.systems shapes (sets_of given) at broken → rule ≡ Parameters broken → SaysBinding at.binding at.in_mapping rule (place_at o given at) fault → TellsBinding o shapes given fault
told_by o shapes given at broken rule (Broken n m r place) first is says = breaks_alone o shapes given at broken n m r place first says.0 says.1 (says.2 ∙ is) says.3
told_by o shapes given at broken rule Memory first is says = tt

pub told_alone : (o : Outline) (shapes : List Shape) (given : List GivenBinding) (sets : List BindingSets) (documents : List Documents) (refusal : Refusal) (file node : ℕ) (rule : Rule)
    (ports : List PortId) (fault : BindingFault) → sets ≡ sets_of given → documents ≡ map documents_of given → refusal ≡ r.At file node rule ports →
    answers.Faults o.systems shapes sets refusal →
    ((binding : ℕ) (in_mapping : Bool) → file ≡ file_number binding in_mapping → SaysBinding binding in_mapping rule (place_in_part o documents binding in_mapping node) fault) →
    TellsBinding o shapes given fault
told_alone o shapes given sets documents (r.At file2 k n ports2) file node rule ports fault is documents_is at broken says =
    let same_rule : n ≡ rule = cc in
    let same_node : k ≡ node = cc in
    let same_file : file2 ≡ file = cc in
    let told : answers.IsTold o.systems shapes sets file2 k broken.0 = broken.1 in
    let place : rules.Place = told.place in
    let number : file ≡ file_number place.binding place.in_mapping = sym same_file ∙ of_place place file2 is told.file_is in
    told_by o shapes given place broken.0 rule fault (subst (λ xs. rules.IsFirstParameterViolation o.systems shapes xs place broken.0) is told.first) (sym same_rule ∙ broken.2)
    (subst (λ ds. SaysBinding place.binding place.in_mapping rule (place_in_part o ds place.binding place.in_mapping place.node) fault) documents_is
    (subst (λ j. SaysBinding place.binding place.in_mapping rule (place_in_part o documents place.binding place.in_mapping j) fault) (sym (told.node_is ∙ same_node)) (says place.binding place.in_mapping number)))
  where
    by : (place : rules.Place) (file : ℕ) (found : Option BindingSets) → slice_get (sets_of given) place.binding ≡ found → IsSomeAnd found (λ x. answers.file_in place.in_mapping x ≡ Some file) →
        file ≡ file_number place.binding place.in_mapping
    by place file None there has = absurd has
    by place file (Some x) there has = numbered 0 given place.binding place.in_mapping x file there has ∙ ap (λ j. file_number j place.in_mapping) (omega arith)

    of_place : (place : rules.Place) (file : ℕ) → sets ≡ sets_of given → answers.IsToldIn sets place file → file ≡ file_number place.binding place.in_mapping
    of_place place file is has = by place file _ refl (subst (λ xs. answers.IsToldIn xs place file) is has)
told_alone o shapes given sets documents r.Memory file node rule ports fault is documents_is at broken says = absurd (cc)
