-- The ports of shapes by the numbers of their variables.
use Rattle.std.proofs.Common.{◌≡◌, ℕ, zero, suc, ◌+◌, ◌<◌, ◌≤◌, Bool, true, false, ◌&&◌, ◌||◌, cond, List, [], ◌∷◌, ◌++◌, map, length, take, refl, sym, ◌∙◌, ap, subst, inl, inr, arith, All}
use Rattle.std.specs.Prelude.{Option, Some, None, slice_get, if◌then◌else◌, count_by, is_some, IsSomeAnd}
use Rattle.std.specs.List.{filter_map, cons_option}
use Rattle.std.specs.Option.{option_map}
use Rattle.std.proofs.lemmas.Option.{none-some as none_some, same_Some, slice_get_within, slice_get-map, slice_get_cases}
use Rattle.std.proofs.lemmas.List.{take-append-le, length-append}
use Rattle.std.proofs.lemmas.List.Sums.{sum_by-append, sum_by-cons}
use Rattle.std.proofs.Math.Seq.{take-append-add}
use Rattle.value_types.specs.Shape.{is_port, is_input, is_output}
use Rattle.value_types.specs.declared.values.PortType.{PortType}
use Rattle.value_types.specs.declared.shape.Variable.{Variable}
use Rattle.value_types.specs.declared.shape.Shape.{Shape}
use Rattle.system_model.specs.declared.system.Component.{Component}
use Rattle.system_model.specs.Ports.{Label, label_at, labels_from}
use Rattle.system_model.specs.Shapes.{IsSoundShape}
use Rattle.system_model.proofs.CallerLemmas.{all_at, all_by_place, true_false, AreApart, labels_apart}
use Rattle.flatten.specs.Indexed.{all_variables, begin_of}
use Rattle.sim_base.specs.declared.numbers.PortId.{PortId}
use Rattle.flatten.specs.Ports.{labels_in, port_number}
use Rattle.flatten.proofs.RoleLemmas.{some_of}

-- ---- lists

pub ahead : {X : Type 0} (xs ys : List X) (k : ℕ) (x : X) → slice_get xs k ≡ Some x → slice_get (xs ++ ys) k ≡ Some x
ahead [] ys k x is = absurd (none_some _ is)
ahead (y ∷ xs) ys zero x is = is
ahead (y ∷ xs) ys (suc k) x is = ahead xs ys k x is

pub after : {X : Type 0} (xs ys : List X) (k : ℕ) → slice_get (xs ++ ys) (length xs + k) ≡ slice_get ys k
after [] ys k = let e : 0 + k ≡ k = omega arith in ap (slice_get ys) e
after (x ∷ xs) ys k = let e : length (x ∷ xs) + k ≡ suc (length xs + k) = omega arith in ap (slice_get (x ∷ (xs ++ ys))) e ∙ after xs ys k

pub count_append : {X : Type 0} (p : X → Bool) (xs ys : List X) → count_by p (xs ++ ys) ≡ count_by p xs + count_by p ys
count_append p xs ys = sum_by-append (λ x. cond (p x) 1 0) xs ys

pub count_cons : {X : Type 0} (p : X → Bool) (x : X) (xs : List X) → count_by p (x ∷ xs) ≡ cond (p x) 1 0 + count_by p xs
count_cons p x xs = sum_by-cons (λ y. cond (p y) 1 0) x xs

-- ---- variables by their numbers

-- a variable stands at its number
pub variable_at_number : (shapes : List Shape) (c : ℕ) (s : Shape) (place : ℕ) (x : Variable) → slice_get shapes c ≡ Some s → slice_get s.variables place ≡ Some x →
    slice_get (all_variables shapes) (begin_of shapes c + place) ≡ Some x
variable_at_number [] c s place x of there = absurd (none_some _ of)
variable_at_number (z ∷ ss) zero s place x of there =
    let e : 0 + place ≡ place = omega arith in
    ap (slice_get (all_variables (z ∷ ss))) e ∙ ahead z.variables (all_variables ss) place x (ap (λ (y : Shape). slice_get y.variables place) (same_Some _ _ of) ∙ there)
variable_at_number (z ∷ ss) (suc c) s place x of there =
    let far : begin_of (z ∷ ss) (suc c) ≡ length z.variables + begin_of ss c = length-append z.variables (all_variables (take c ss)) in
    let e : begin_of (z ∷ ss) (suc c) + place ≡ length z.variables + (begin_of ss c + place) = omega (arith, far) in
    ap (slice_get (all_variables (z ∷ ss))) e ∙ after z.variables (all_variables ss) (begin_of ss c + place) ∙ variable_at_number ss c s place x of there

pub element_there : {X : Type 0} (xs : List X) (n : ℕ) → n < length xs → (x : X) × (slice_get xs n ≡ Some x)
element_there xs n within = elim (slice_get_cases xs n).1 [
  | inl there ↦ (there.0, there.2)
  | inr past ↦ absurd (let after : length xs ≤ n = past.0 in omega (arith, within, after))
]

-- the number of a variable is below that of all variables
pub number_within : (shapes : List Shape) (c place : ℕ) → IsSomeAnd (slice_get shapes c) (λ (s : Shape). place < length s.variables) → (c < length shapes) × (begin_of shapes c + place < length (all_variables shapes))
number_within shapes c place known =
    let s = some_of (slice_get shapes c) (λ (z : Shape). place < length z.variables) known in
    let x = element_there s.0.variables place s.2 in
    (slice_get_within shapes c s.0 s.1, slice_get_within (all_variables shapes) (begin_of shapes c + place) x.0 (variable_at_number shapes c s.0 place x.0 s.1 x.1))

-- each number is that of a variable of a component
pub record Numbered (shapes : List Shape) (n : ℕ) (x : Variable) : Type 0 where
  pub component : ℕ
  pub shape : Shape
  pub place : ℕ
  pub of : slice_get shapes component ≡ Some shape
  pub at : slice_get shape.variables place ≡ Some x
  pub number : n ≡ begin_of shapes component + place

pub numbered : (shapes : List Shape) (n : ℕ) (x : Variable) → slice_get (all_variables shapes) n ≡ Some x → Numbered shapes n x
numbered [] n x is = absurd (none_some _ is)
numbered (z ∷ ss) n x is = at (λ m h. numbered ss m x h) (slice_get z.variables n) refl
  where
    split : (xs ys : List Variable) (k : ℕ) → slice_get (xs ++ ys) k ≡ Some x → slice_get xs k ≡ None → (m : ℕ) × (k ≡ length xs + m) × (slice_get ys m ≡ Some x)
    split [] ys k here none = let e : k ≡ 0 + k = omega arith in (k, e, here)
    split (y ∷ xs) ys zero here none = absurd (none_some _ (sym none))
    split (y ∷ xs) ys (suc k) here none =
        let more = split xs ys k here none in
        let same : k ≡ length xs + more.0 = more.1 in
        let e : suc k ≡ length (y ∷ xs) + more.0 = omega (arith, same) in
        (more.0, e, more.2)

    at : ((m : ℕ) → slice_get (all_variables ss) m ≡ Some x → Numbered ss m x) → (o : Option Variable) → slice_get z.variables n ≡ o → Numbered (z ∷ ss) n x
    at rest (Some y) e =
        let number : n ≡ 0 + n = omega arith in
        record { component = 0; shape = z; place = n; of = refl; at = e ∙ sym (ahead z.variables (all_variables ss) n y e) ∙ is; number = number }
    at rest None e =
        let far = split z.variables (all_variables ss) n is e in
        let more : Numbered ss far.0 x = rest far.0 far.2 in
        let begin : begin_of (z ∷ ss) (suc more.component) ≡ length z.variables + begin_of ss more.component = length-append z.variables (all_variables (take more.component ss)) in
        let a : n ≡ length z.variables + far.0 = far.1 in
        let b : far.0 ≡ begin_of ss more.component + more.place = more.number in
        let number : n ≡ begin_of (z ∷ ss) (suc more.component) + more.place = omega (arith, begin, a, b) in
        record { component = suc more.component; shape = more.shape; place = more.place; of = more.of; at = more.at; number = number }

-- ---- what names a port

kind_there : (a b : Bool) (o : Option PortType) → (a && is_some o) || (b && is_some o) ≡ true → (kind : PortType) × (o ≡ Some kind)
kind_there a b (Some kind) is = (kind, refl)
kind_there true true None is = absurd (true_false (sym is))
kind_there true false None is = absurd (true_false (sym is))
kind_there false true None is = absurd (true_false (sym is))
kind_there false false None is = absurd (true_false (sym is))

-- a port has a type
pub port_kind : (x : Variable) → is_port x ≡ true → (kind : PortType) × (x.kind ≡ Some kind)
port_kind x is = kind_there (is_input x.causality) (is_output x.causality) x.kind is

abbrev pub label_with : ℕ → Variable → PortType → Label
label_with i x kind = record { component = i; name = x.name; kind = kind; reference = x.reference }

pub label_there : (i : ℕ) (x : Variable) → is_port x ≡ true → (label : Label) × (label_at i x ≡ Some label)
label_there i x is =
    let kind = port_kind x is in
    (label_with i x kind.0, ap (λ b. if b then option_map (label_with i x) x.kind else None) is ∙ ap (option_map (label_with i x)) kind.1)

no_label : (i : ℕ) (x : Variable) → is_port x ≡ false → label_at i x ≡ None
no_label i x is = ap (λ b. if b then option_map (label_with i x) x.kind else None) is

-- ---- where it stands

-- the labels of one component are as many as its ports
length_block : (i : ℕ) (vs : List Variable) → length (filter_map (label_at i) vs) ≡ count_by is_port vs
length_block i [] = refl
length_block i (x ∷ vs) =
    (elim (is_port x) as (λ b. is_port x ≡ b → length (cons_option (label_at i x) (filter_map (label_at i) vs)) ≡ cond b 1 0 + count_by is_port vs) [
      | true ↦ λ t. let found = label_there i x t in
          let more : length (filter_map (label_at i) vs) ≡ count_by is_port vs = length_block i vs in
          let e : length (found.0 ∷ filter_map (label_at i) vs) ≡ 1 + count_by is_port vs = omega (arith, more) in
          ap (λ o. length (cons_option o (filter_map (label_at i) vs))) found.1 ∙ e
      | false ↦ λ t.
          let more : length (filter_map (label_at i) vs) ≡ 0 + count_by is_port vs = omega (arith, length_block i vs) in
          ap (λ o. length (cons_option o (filter_map (label_at i) vs))) (no_label i x t) ∙ more
    ]) refl ∙ sym (count_cons is_port x vs)

pub length_labels : (i : ℕ) (shapes : List Shape) → length (labels_in i shapes) ≡ count_by is_port (all_variables shapes)
length_labels i [] = refl
length_labels i (s ∷ ss) =
    let a : length (labels_in i (s ∷ ss)) ≡ length (filter_map (label_at i) s.variables) + length (labels_in (suc i) ss) = length-append (filter_map (label_at i) s.variables) (labels_in (suc i) ss) in
    let b : length (filter_map (label_at i) s.variables) ≡ count_by is_port s.variables = length_block i s.variables in
    let c : length (labels_in (suc i) ss) ≡ count_by is_port (all_variables ss) = length_labels (suc i) ss in
    let d : count_by is_port (all_variables (s ∷ ss)) ≡ count_by is_port s.variables + count_by is_port (all_variables ss) = count_append is_port s.variables (all_variables ss) in
    omega (arith, a, b, c, d)

block_at : (i : ℕ) (vs : List Variable) (rest : List Label) (place : ℕ) (x : Variable) (label : Label) → slice_get vs place ≡ Some x → label_at i x ≡ Some label → is_port x ≡ true
    → slice_get (filter_map (label_at i) vs ++ rest) (count_by is_port (take place vs)) ≡ Some label
block_at i [] rest place x label there named is = absurd (none_some _ there)
block_at i (y ∷ vs) rest zero x label there named is =
    ap (λ o. slice_get (cons_option o (filter_map (label_at i) vs) ++ rest) 0) (ap (label_at i) (same_Some _ _ there) ∙ named)
block_at i (y ∷ vs) rest (suc k) x label there named is =
    ap (slice_get (filter_map (label_at i) (y ∷ vs) ++ rest)) (count_cons is_port y (take k vs)) ∙ (elim (is_port y) as (λ b. is_port y ≡ b → slice_get (cons_option (label_at i y) (filter_map (label_at i) vs) ++ rest) (cond b 1 0 + count_by is_port (take k vs)) ≡ Some label) [
      | true ↦ λ t. let found = label_there i y t in
          let e : 1 + count_by is_port (take k vs) ≡ suc (count_by is_port (take k vs)) = omega arith in
          ap (λ o. slice_get (cons_option o (filter_map (label_at i) vs) ++ rest) (1 + count_by is_port (take k vs))) found.1
          ∙ ap (slice_get (found.0 ∷ (filter_map (label_at i) vs ++ rest))) e ∙ block_at i vs rest k x label there named is
      | false ↦ λ t.
          let e : 0 + count_by is_port (take k vs) ≡ count_by is_port (take k vs) = omega arith in
          ap (λ o. slice_get (cons_option o (filter_map (label_at i) vs) ++ rest) (0 + count_by is_port (take k vs))) (no_label i y t)
          ∙ ap (slice_get (filter_map (label_at i) vs ++ rest)) e ∙ block_at i vs rest k x label there named is
    ]) refl

-- the number of the port of the variable with this number
abbrev pub ports_before : List Shape → ℕ → ℕ
ports_before shapes n = count_by is_port (take n (all_variables shapes))

pub label_at_number : (i : ℕ) (shapes : List Shape) (c : ℕ) (s : Shape) (place : ℕ) (x : Variable) (label : Label) → slice_get shapes c ≡ Some s → slice_get s.variables place ≡ Some x
    → label_at (i + c) x ≡ Some label → is_port x ≡ true → slice_get (labels_in i shapes) (ports_before shapes (begin_of shapes c + place)) ≡ Some label
label_at_number i [] c s place x label of there named is = absurd (none_some _ of)
label_at_number i (z ∷ ss) zero s place x label of there named is =
    let here : slice_get z.variables place ≡ Some x = ap (λ (y : Shape). slice_get y.variables place) (same_Some _ _ of) ∙ there in
    let within : place < length z.variables = slice_get_within z.variables place x here in
    let e : 0 + place ≡ place = omega arith in
    let number : i + 0 ≡ i = omega arith in
    ap (λ n. slice_get (labels_in i (z ∷ ss)) (ports_before (z ∷ ss) n)) e
    ∙ ap (λ xs. slice_get (labels_in i (z ∷ ss)) (count_by is_port xs)) (take-append-le place z.variables (all_variables ss) (omega (arith, within)))
    ∙ block_at i z.variables (labels_in (suc i) ss) place x label here (ap (λ k. label_at k x) (sym number) ∙ named) is
label_at_number i (z ∷ ss) (suc c) s place x label of there named is =
    let begin : begin_of (z ∷ ss) (suc c) ≡ length z.variables + begin_of ss c = length-append z.variables (all_variables (take c ss)) in
    let e : begin_of (z ∷ ss) (suc c) + place ≡ length z.variables + (begin_of ss c + place) = omega (arith, begin) in
    let number : i + suc c ≡ suc i + c = omega arith in
    let count : count_by is_port (z.variables ++ take (begin_of ss c + place) (all_variables ss)) ≡ length (filter_map (label_at i) z.variables) + ports_before ss (begin_of ss c + place) =
    omega (arith, count_append is_port z.variables (take (begin_of ss c + place) (all_variables ss)), length_block i z.variables) in
    ap (λ n. slice_get (labels_in i (z ∷ ss)) (ports_before (z ∷ ss) n)) e
    ∙ ap (λ xs. slice_get (labels_in i (z ∷ ss)) (count_by is_port xs)) (take-append-add z.variables (all_variables ss) (begin_of ss c + place))
    ∙ ap (slice_get (labels_in i (z ∷ ss))) count
    ∙ after (filter_map (label_at i) z.variables) (labels_in (suc i) ss) (ports_before ss (begin_of ss c + place))
    ∙ label_at_number (suc i) ss c s place x label of there (ap (λ k. label_at k x) (sym number) ∙ named) is

-- ---- the same by components

pub labels_by_components : (i : ℕ) (cs : List Component) → labels_from i cs ≡ labels_in i (map (λ (c : Component). c.shape) cs)
labels_by_components i [] = refl
labels_by_components i (c ∷ cs) = ap (λ ls. filter_map (label_at i) c.shape.variables ++ ls) (labels_by_components (suc i) cs)

abbrev nameless : Shape → Component
nameless s = record { name = []; source = record { 0 = 0 }; shape = s }

shapes_back : (shapes : List Shape) → map (λ (c : Component). c.shape) (map nameless shapes) ≡ shapes
shapes_back [] = refl
shapes_back (s ∷ ss) = ap (λ xs. s ∷ xs) (shapes_back ss)

all_nameless : (shapes : List Shape) → All IsSoundShape shapes → All (λ (c : Component). IsSoundShape c.shape) (map nameless shapes)
all_nameless shapes sound = all_by_place (λ (c : Component). IsSoundShape c.shape) (map nameless shapes) (λ k c is.
    let at = option_map_some nameless (slice_get shapes k) c (sym (slice_get-map nameless shapes k) ∙ is) in
    subst (λ (x : Component). IsSoundShape x.shape) at.2 (all_at IsSoundShape shapes k at.0 sound at.1))
  where
    option_map_some : (f : Shape → Component) (o : Option Shape) (c : Component) → option_map f o ≡ Some c → (s : Shape) × (o ≡ Some s) × (f s ≡ c)
    option_map_some f None c is = absurd (none_some _ is)
    option_map_some f (Some s) c is = (s, refl, same_Some _ _ is)

-- no two ports of sound shapes are alike
pub shapes_apart : (shapes : List Shape) → All IsSoundShape shapes → AreApart (labels_in 0 shapes)
shapes_apart shapes sound =
    subst AreApart (labels_by_components 0 (map nameless shapes) ∙ ap (labels_in 0) (shapes_back shapes)) (labels_apart 0 (map nameless shapes) (all_nameless shapes sound))

-- ---- numbers of ports

-- a variable with a number of a port is a port
pub numbered_port : (shapes : List Shape) (n : ℕ) (x : Variable) (p : PortId) → port_number shapes n x ≡ Some p → (is_port x ≡ true) × (p.0 ≡ ports_before shapes n)
numbered_port shapes n x p e =
    (elim (is_port x) as (λ b. is_port x ≡ b → (if b then Some (record { 0 = ports_before shapes n }) else None) ≡ Some p → (is_port x ≡ true) × (p.0 ≡ ports_before shapes n)) [
      | true ↦ λ t h. (t, ap (λ (q : PortId). q.0) (sym (same_Some _ _ h)))
      | false ↦ λ t h. absurd (none_some _ h)
    ]) refl e

abbrev pub as_port : ℕ → PortId
as_port n = record { 0 = n }

pub port_numbered : (shapes : List Shape) (n : ℕ) (x : Variable) → is_port x ≡ true → port_number shapes n x ≡ Some (as_port (ports_before shapes n))
port_numbered shapes n x is = ap (λ b. if b then Some (as_port (ports_before shapes n)) else None) is
