-- Ports are made one after another, each with its label.
use Rattle.std.proofs.Common.{◌≡◌, ℕ, zero, suc, ◌+◌, ◌<◌, true, false, List, [], ◌∷◌, ◌++◌, map, length, take, get_or, refl, sym, ◌∙◌, ap, arith, append_assoc}
use Rattle.std.specs.Prelude.{Some, None, slice_get, if◌then◌else◌}
use Rattle.std.specs.List.{filter_map, cons_option}
use Rattle.std.specs.Option.{option_map, option_map_or}
use Rattle.std.proofs.lemmas.Option.{none-some as none_some, same_Some}
use Rattle.std.proofs.lemmas.List.{append-nil, map-append, take_more}
use Rattle.std.proofs.lemmas.List.Elements.{filter_map-append}
use Rattle.value_types.specs.Shape.{is_port}
use Rattle.value_types.specs.declared.values.PortType.{PortType}
use Rattle.value_types.specs.declared.shape.Variable.{Variable}
use Rattle.value_types.specs.declared.shape.Shape.{Shape}
use Rattle.system_model.specs.declared.system.Port.{Port}
use Rattle.system_model.specs.Ports.{Label, label_at, label_of}
use Rattle.flatten.specs.declared.ports.PortTable.{PortTable}
use Rattle.flatten.specs.Ports.{IsPortOf, labels_at, labels_in}
use Rattle.flatten.proofs.LabelLemmas.{element_there, label_with}

-- ---- one port

pub typed_port : (x : Variable) (kind : PortType) → (if is_port x then x.kind else None) ≡ Some kind → (is_port x ≡ true) × (x.kind ≡ Some kind)
typed_port x kind e =
    (elim (is_port x) as (λ b. is_port x ≡ b → (if b then x.kind else None) ≡ Some kind → (is_port x ≡ true) × (x.kind ≡ Some kind)) [
      | true ↦ λ t h. (t, h)
      | false ↦ λ t h. absurd (none_some _ h)
    ]) refl e

untyped_label : (i : ℕ) (x : Variable) → (if is_port x then x.kind else None) ≡ None → label_at i x ≡ None
untyped_label i x e =
    (elim (is_port x) as (λ b. is_port x ≡ b → (if b then x.kind else None) ≡ None → (if b then option_map (label_with i x) x.kind else None) ≡ None) [
      | true ↦ λ t h. ap (option_map (label_with i x)) h
      | false ↦ λ t h. refl
    ]) refl e

same_label : (i : ℕ) (x : Variable) (port : Port) → port.component.0 ≡ i → port.name ≡ x.name → port.reference ≡ x.reference → label_with i x port.kind ≡ label_of port
same_label i x port number name reference = λ k. record { component = sym number k; name = sym name k; kind = port.kind; reference = sym reference k }

made_label : (shapes : List Shape) (table : PortTable) (component place : ℕ) (port : Port) (m : IsPortOf shapes table component place port) → label_at component m.variable ≡ Some (label_of port)
made_label shapes table component place port m =
    ap (λ b. if b then option_map (label_with component m.variable) m.variable.kind else None) m.is ∙ ap (option_map (label_with component m.variable)) m.kind
    ∙ ap Some (same_label component m.variable port m.number m.name m.reference)

-- ---- one place more

more_labels : (i : ℕ) (xs : List Variable) (k : ℕ) (d : Variable) → k < length xs → filter_map (label_at i) (take (k + 1) xs) ≡ filter_map (label_at i) (take k xs) ++ cons_option (label_at i (get_or xs k d)) []
more_labels i xs k d within = ap (filter_map (label_at i)) (take_more xs k d within) ∙ filter_map-append (label_at i) (take k xs) (get_or xs k d ∷ [])

pub none_more : (i : ℕ) (xs : List Variable) (k : ℕ) (d : Variable) (before now : List Label) → k < length xs → (if is_port (get_or xs k d) then (get_or xs k d).kind else None) ≡ None
    → now ≡ before ++ filter_map (label_at i) (take k xs) → now ≡ before ++ filter_map (label_at i) (take (k + 1) xs)
none_more i xs k d before now within none so =
    let e : filter_map (label_at i) (take (k + 1) xs) ≡ filter_map (label_at i) (take k xs) =
    more_labels i xs k d within ∙ ap (λ o. filter_map (label_at i) (take k xs) ++ cons_option o []) (untyped_label i (get_or xs k d) none) ∙ append-nil (filter_map (label_at i) (take k xs)) in
    so ∙ ap (λ ls. before ++ ls) (sym e)

pub one_more : (shapes : List Shape) (table : PortTable) (i : ℕ) (xs : List Variable) (k : ℕ) (d : Variable) (before : List Label) (ports : List Port) (port : Port) → k < length xs
    → (m : IsPortOf shapes table i k port) → m.variable ≡ get_or xs k d
    → map label_of ports ≡ before ++ filter_map (label_at i) (take k xs) → map label_of (ports ++ port ∷ []) ≡ before ++ filter_map (label_at i) (take (k + 1) xs)
one_more shapes table i xs k d before ports port within m same so =
    let e : filter_map (label_at i) (take (k + 1) xs) ≡ filter_map (label_at i) (take k xs) ++ label_of port ∷ [] =
    more_labels i xs k d within ∙ ap (λ o. filter_map (label_at i) (take k xs) ++ cons_option o []) (ap (label_at i) (sym same) ∙ made_label shapes table i k port m) in
    map-append label_of ports (port ∷ []) ∙ ap (λ ls. ls ++ label_of port ∷ []) so ∙ append_assoc before (filter_map (label_at i) (take k xs)) (label_of port ∷ []) ∙ ap (λ ls. before ++ ls) (sym e)

-- ---- one component more

pub labels_at_is : (shapes : List Shape) (i : ℕ) (s : Shape) → slice_get shapes i ≡ Some s → labels_at shapes i ≡ filter_map (label_at i) s.variables
labels_at_is shapes i s of = ap (λ o. option_map_or (λ (z : Shape). filter_map (label_at i) z.variables) o []) of

pub labels_more : (i : ℕ) (shapes : List Shape) (c : ℕ) (s : Shape) → slice_get shapes c ≡ Some s → labels_in i (take (c + 1) shapes) ≡ labels_in i (take c shapes) ++ filter_map (label_at (i + c)) s.variables
labels_more i [] c s of = absurd (none_some _ of)
labels_more i (z ∷ ss) zero s of =
    let e : i + 0 ≡ i = omega arith in
    ap (λ n. labels_in i (take n (z ∷ ss))) one ∙ append-nil (filter_map (label_at i) z.variables)
    ∙ ap (λ (y : Shape). filter_map (label_at i) y.variables) (same_Some _ _ of) ∙ ap (λ n. filter_map (label_at n) s.variables) (sym e)
  where
    one : 0 + 1 ≡ suc 0
    one = omega arith
labels_more i (z ∷ ss) (suc c) s of =
    let n : suc c + 1 ≡ suc (c + 1) = omega arith in
    let e : suc i + c ≡ i + suc c = omega arith in
    ap (λ k. labels_in i (take k (z ∷ ss))) n ∙ ap (λ ls. filter_map (label_at i) z.variables ++ ls) (labels_more (suc i) ss c s of)
    ∙ sym (append_assoc (filter_map (label_at i) z.variables) (labels_in (suc i) (take c ss)) (filter_map (label_at (suc i + c)) s.variables))
    ∙ ap (λ k. (filter_map (label_at i) z.variables ++ labels_in (suc i) (take c ss)) ++ filter_map (label_at k) s.variables) e

pub labels_at_next : (shapes : List Shape) (c : ℕ) (now : List Label) → c < length shapes → now ≡ labels_in 0 (take c shapes) → now ++ labels_at shapes c ≡ labels_in 0 (take (c + 1) shapes)
labels_at_next shapes c now within so =
    let s = element_there shapes c within in
    let e : 0 + c ≡ c = omega arith in
    ap (λ ls. ls ++ labels_at shapes c) so ∙ ap (λ ls. labels_in 0 (take c shapes) ++ ls) (labels_at_is shapes c s.0 s.1 ∙ ap (λ k. filter_map (label_at k) s.0.variables) (sym e)) ∙ sym (labels_more 0 shapes c s.0 s.1)
