-- The ports of components: where each stands, and that no two have one component and one reference.
use Rattle.std.proofs.Common.{◌≡◌, ℕ, zero, suc, ◌+◌, ◌<◌, ◌≤◌, true, false, List, [], ◌∷◌, ◌++◌, map, refl, sym, ◌∙◌, ap, subst, arith, All, nat_eq}
use Rattle.std.specs.Prelude.{Option, Some, None, slice_get, if◌then◌else◌}
use Rattle.std.specs.List.{filter_map, cons_option, IsDistinct}
use Rattle.std.specs.Option.{option_map}
use Rattle.std.proofs.lemmas.Option.{none-some as none_some, same_Some}
use Rattle.std.proofs.lemmas.Map.Keys.{IsDistinct-head, IsDistinct-tail}
use Rattle.std.proofs.lemmas.List.Elements.{All-tail}
use Rattle.value_types.specs.Shape.{is_port}
use Rattle.value_types.specs.declared.values.PortType.{PortType}
use Rattle.value_types.specs.declared.shape.Variable.{Variable}
use Rattle.system_model.specs.declared.system.Component.{Component}
use Rattle.system_model.specs.Ports.{Label, label_at, labels_from}
use Rattle.system_model.specs.Shapes.{IsSoundShape}
use Rattle.system_model.proofs.Lists.{absent_from, all_at}

-- ---- one variable

pub record IsLabel (i : ℕ) (v : Variable) (label : Label) : Type 0 where
  pub port : is_port v ≡ true
  pub component : label.component ≡ i
  pub name : label.name ≡ v.name
  pub kind : v.kind ≡ Some label.kind
  pub reference : label.reference ≡ v.reference

pub labelled : (i : ℕ) (v : Variable) (label : Label) → label_at i v ≡ Some label → IsLabel i v label
labelled i v label e =
    (elim (is_port v) as (λ b. is_port v ≡ b → (if b then option_map (λ (kind : PortType). record { component = i; name = v.name; kind = kind; reference = v.reference }) v.kind else None) ≡ Some label → IsLabel i v label) [
      | true ↦ λ t. at_kind t v.kind refl
      | false ↦ λ t h. absurd (none_some _ h)
    ]) refl e
  where
    at_kind : is_port v ≡ true → (o : Option PortType) → v.kind ≡ o → option_map (λ (kind : PortType). record { component = i; name = v.name; kind = kind; reference = v.reference }) o ≡ Some label → IsLabel i v label
    at_kind t None is h = absurd (none_some _ h)
    at_kind t (Some kind) is h = let same = same_Some _ _ h in
        record {
          port = t;
          component = ap (λ (l : Label). l.component) (sym same);
          name = ap (λ (l : Label). l.name) (sym same);
          kind = is ∙ ap (λ (l : Label). Some l.kind) same;
          reference = ap (λ (l : Label). l.reference) (sym same);
        }

-- ---- where a port's variable stands

-- a label is that of a variable of one of these components, whose numbers go on from i
pub record Labels (i : ℕ) (cs : List Component) (label : Label) : Type 0 where
  pub number : ℕ
  pub component : Component
  pub of : slice_get cs number ≡ Some component
  pub place : ℕ
  pub variable : Variable
  pub there : slice_get component.shape.variables place ≡ Some variable
  pub is : IsLabel (i + number) variable label

-- of one component, or of what comes after it
pub record InBlock (i : ℕ) (vs : List Variable) (label : Label) : Type 0 where
  pub place : ℕ
  pub variable : Variable
  pub there : slice_get vs place ≡ Some variable
  pub is : IsLabel i variable label

block_found : (i : ℕ) (vs : List Variable) (beyond : List Label) (p : ℕ) (label : Label) {P : Type 0} → slice_get (filter_map (label_at i) vs ++ beyond) p ≡ Some label →
    (InBlock i vs label → P) → ((q : ℕ) → slice_get beyond q ≡ Some label → P) → P
block_found i [] beyond p label {P} is inside later = later p is
block_found i (v ∷ vs) beyond p label {P} is inside later =
    (elim (label_at i v) as (λ o. label_at i v ≡ o → slice_get (cons_option o (filter_map (label_at i) vs) ++ beyond) p ≡ Some label → P) [
      | None ↦ λ e at. block_found i vs beyond p label at (λ b. inside (record { place = suc b.place; variable = b.variable; there = b.there; is = b.is })) later
      | Some first ↦ λ e. at_first first e p (λ q at. block_found i vs beyond q label at (λ b. inside (record { place = suc b.place; variable = b.variable; there = b.there; is = b.is })) later)
    ]) refl is
  where
    at_first : (first : Label) → label_at i v ≡ Some first → (k : ℕ) → ((q : ℕ) → slice_get (filter_map (label_at i) vs ++ beyond) q ≡ Some label → P) → slice_get (first ∷ filter_map (label_at i) vs ++ beyond) k ≡ Some label → P
    at_first first e zero more at = inside (record { place = 0; variable = v; there = refl; is = labelled i v label (e ∙ at) })
    at_first first e (suc k) more at = more k at

pub label_found : (i : ℕ) (cs : List Component) (p : ℕ) (label : Label) → slice_get (labels_from i cs) p ≡ Some label → Labels i cs label
label_found i [] p label is = absurd (none_some _ is)
label_found i (c ∷ cs) p label is =
    block_found i c.shape.variables (labels_from (suc i) cs) p label is
    (λ b. let same : i ≡ i + 0 = omega arith in record { number = 0; component = c; of = refl; place = b.place; variable = b.variable; there = b.there; is = subst (λ k. IsLabel k b.variable label) same b.is })
    (λ q at. let more : Labels (suc i) cs label = label_found (suc i) cs q label at in
    let same : suc i + more.number ≡ i + suc more.number = omega arith in
    record { number = suc more.number; component = more.component; of = more.of; place = more.place; variable = more.variable; there = more.there; is = subst (λ k. IsLabel k more.variable label) same more.is })

-- ---- no two are alike

pub record AreAlike (a b : Label) : Type 0 where
  pub component : a.component ≡ b.component
  pub reference : a.reference ≡ b.reference

abbrev pub AreApart : List Label → Type 0
AreApart xs = (p q : ℕ) (a b : Label) → slice_get xs p ≡ Some a → slice_get xs q ≡ Some b → AreAlike a b → p ≡ q

abbrev IsNew : Label → List Label → Type 0
IsNew a xs = (q : ℕ) (b : Label) → slice_get xs q ≡ Some b → AreAlike a b → ⊥

apart_cons : (a : Label) (xs : List Label) → IsNew a xs → AreApart xs → AreApart (a ∷ xs)
apart_cons a xs new apart zero zero x y at_x at_y alike = refl
apart_cons a xs new apart zero (suc q) x y at_x at_y alike = absurd (new q y at_y (subst (λ z. AreAlike z y) (sym (same_Some _ _ at_x)) alike))
apart_cons a xs new apart (suc p) zero x y at_x at_y alike =
    absurd (new p x at_x (record { component = ap (λ (l : Label). l.component) (same_Some _ _ at_y) ∙ sym alike.component; reference = ap (λ (l : Label). l.reference) (same_Some _ _ at_y) ∙ sym alike.reference }))
apart_cons a xs new apart (suc p) (suc q) x y at_x at_y alike = ap suc (apart p q x y at_x at_y alike)

-- the labels of one component, before those of components with greater numbers
block_apart : (i : ℕ) (vs : List Variable) (beyond : List Label) → IsDistinct nat_eq (map (λ (v : Variable). v.reference) vs) → ((q : ℕ) (b : Label) → slice_get beyond q ≡ Some b → i < b.component) → AreApart beyond →
    AreApart (filter_map (label_at i) vs ++ beyond)
block_apart i [] beyond distinct after apart = apart
block_apart i (v ∷ vs) beyond distinct after apart =
    let more : AreApart (filter_map (label_at i) vs ++ beyond) = block_apart i vs beyond (IsDistinct-tail nat_eq v.reference (map (λ (x : Variable). x.reference) vs) distinct) after apart in
    (elim (label_at i v) as (λ o. label_at i v ≡ o → AreApart (cons_option o (filter_map (label_at i) vs) ++ beyond)) [
      | None ↦ λ e. more
      | Some a ↦ λ e. let is : IsLabel i v a = labelled i v a e in apart_cons a (filter_map (label_at i) vs ++ beyond) (λ q b at alike.
          block_found i vs beyond q b at
          (λ found. absent_from (λ (x : Variable). x.reference) v.reference vs (IsDistinct-head nat_eq v.reference (map (λ (x : Variable). x.reference) vs) distinct) found.place found.variable found.there
          (sym is.reference ∙ alike.reference ∙ found.is.reference))
          (λ k after_it. let same : i ≡ b.component = sym is.component ∙ alike.component in let less : i < b.component = after k b after_it in omega (arith, same, less))) more
    ]) refl

labels_after : (i : ℕ) (cs : List Component) (q : ℕ) (b : Label) → slice_get (labels_from i cs) q ≡ Some b → i ≤ b.component
labels_after i cs q b at = let found : Labels i cs b = label_found i cs q b at in let is : b.component ≡ i + found.number = found.is.component in omega (arith, is)

pub labels_apart : (i : ℕ) (cs : List Component) → All (λ (c : Component). IsSoundShape c.shape) cs → AreApart (labels_from i cs)
labels_apart i [] sound = λ p q a b at_a at_b alike. absurd (none_some _ at_a)
labels_apart i (c ∷ cs) sound =
    block_apart i c.shape.variables (labels_from (suc i) cs) (all_at (λ (x : Component). IsSoundShape x.shape) (c ∷ cs) 0 c sound refl).variables.distinct
    (λ q b at. let later : suc i ≤ b.component = labels_after (suc i) cs q b at in omega (arith, later))
    (labels_apart (suc i) cs (All-tail (λ (x : Component). IsSoundShape x.shape) c cs sound))
