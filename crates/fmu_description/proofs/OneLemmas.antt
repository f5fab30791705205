-- Each part of a description has one value.
use Rattle.std.proofs.Common.{◌≡◌, ◌⊎◌, ℕ, ℤ, Bool, true, false, ◌||◌, List, [], ◌∷◌, Option, Some, None, unwrap_or, codes, bytes_eq, refl, sym, ap, ◌∙◌, subst, inl, inr}
use Rattle.std.specs.List.{AllZip}
use Rattle.std.specs.Option.{option_and_then}
use Rattle.std.proofs.lemmas.Option.{same_Some}
use Rattle.value_types.specs.declared.values.PortType.{PortType}
use Rattle.value_types.specs.declared.values.PortType.TheVariants.{Boolean}
use Rattle.value_types.specs.declared.shape.Variable.{Variable}
use Rattle.value_types.specs.declared.shape.ClockTiming.{ClockTiming}
use Rattle.value_types.specs.declared.shape.Knowns.{Knowns}
use Rattle.value_types.specs.declared.shape.Dependency.{Dependency}
use Rattle.value_types.specs.declared.shape.Shape.{Shape}
use Rattle.value_types.specs.Reading.{Reads, Writes}
use Rattle.clock_fraction.specs.declared.fraction.Fraction.{Fraction}
use Rattle.clock_fraction.specs.Decimal.{Denotes}
use Rattle.doc_grammar.specs.Nodes.{Node}
use Rattle.fmu_description.specs.Texts.{counter}
use Rattle.doc_tables.specs.Elements.{attribute}
use Rattle.fmu_description.specs.Elements.{output_key, initial_key}
use Rattle.fmu_description.specs.Clocks.{counter_of, is_by_counters, IsInterval, ByCounters, ByDecimal, IsShift, Counters, NoCounter, Decimal, NoDecimal}
use Rattle.fmu_description.specs.Rules.{IsSoundDescription}
use Rattle.fmu_description.specs.Description.{IsSoundTree, IsStart, IsKind, IsVariable, IsTold, IsShiftTold, IsTiming, IsTimingOf, DependsOn, DependsInitiallyOn, IsDependency, IsInitialDependency, SaysOf, Describes, clocks_among, listed, outputs_among, variables_in}
use Rattle.fmu_description.proofs.SoundLemmas.{one_first, one_co_simulation, one_variable}

-- each text writes one fraction
abbrev pub OneDecimal : Type 0
OneDecimal = (text : List ℕ) (one other : Fraction) → Denotes text one → Denotes text other → one ≡ other

-- ---- values

is_one : List ℕ → Bool
is_one text = bytes_eq text (codes "true") || bytes_eq text (codes "1")

one_is : (text : List ℕ) → (text ≡ codes "true") ⊎ (text ≡ codes "1") → is_one text ≡ true
unfolding is_one
one_is text (inl e) = ap is_one e
one_is text (inr e) = ap is_one e

zero_is : (text : List ℕ) → (text ≡ codes "false") ⊎ (text ≡ codes "0") → is_one text ≡ false
unfolding is_one
zero_is text (inl e) = ap is_one e
zero_is text (inr e) = ap is_one e

not_both : (b : Bool) → b ≡ true → b ≡ false → ⊥
not_both b e f = cc

one_boolean : (text : List ℕ) (v w : ℤ) → Reads Boolean text v → Reads Boolean text w → v ≡ w
one_boolean text v w (inl p) (inl q) = p.0 ∙ sym q.0
one_boolean text v w (inl p) (inr q) = absurd (not_both (is_one text) (one_is text p.1) (zero_is text q.1))
one_boolean text v w (inr p) (inl q) = absurd (not_both (is_one text) (one_is text q.1) (zero_is text p.1))
one_boolean text v w (inr p) (inr q) = p.0 ∙ sym q.0

one_written : (text : List ℕ) (v w : ℤ) → Writes text v → Writes text w → v ≡ w
one_written text v w p q = p.number ∙ sym q.number

one_value : (kind : PortType) (text : List ℕ) (v w : ℤ) → Reads kind text v → Reads kind text w → v ≡ w
one_value Boolean text v w p q = one_boolean text v w p q
one_value kind text v w p q = one_written text v w p.0 q.0

-- ---- variables

one_start : (kind : Option PortType) (text : Option (List ℕ)) (v w : Option ℤ) → IsStart kind text v → IsStart kind text w → v ≡ w
one_start None text v w p q = p ∙ sym q
one_start (Some kind) None v w p q = p ∙ sym q
one_start (Some kind) (Some text) v w p q = p.1 ∙ ap (λ (z : ℤ). Some z) (one_value kind text p.0 q.0 p.2 q.2) ∙ sym q.1

one_kind : (t : List Node) (k : ℕ) (a b : Option PortType) (v w : Option ℤ) → IsKind t k a v → IsKind t k b w → (a ≡ b) × (v ≡ w)
one_kind t k a b v w (inl p) (inl q) = (p.1 ∙ sym q.1, p.2 ∙ sym q.2)
one_kind t k a b v w (inl p) (inr q) = absurd (q.0 p.0)
one_kind t k a b v w (inr p) (inl q) = absurd (p.0 q.0)
one_kind t k a b v w (inr p) (inr q) =
    let same : a ≡ b = p.1 ∙ sym q.1 in
    let start = attribute t k (codes "start") in
    (same, one_start b start v w (subst (λ (o : Option PortType). IsStart o start v) same p.2) q.2)

one_described : (t : List Node) (k : ℕ) (x y : Variable) → IsVariable t k x → IsVariable t k y → x ≡ y
one_described t k x y p q =
    let name : x.name ≡ y.name = p.name ∙ sym q.name in
    let aliases : x.aliases ≡ y.aliases = p.aliases ∙ sym q.aliases in
    let reference : x.reference ≡ y.reference = same_Some x.reference y.reference (sym p.reference ∙ q.reference) in
    let kinds : (x.kind ≡ y.kind) × (x.start ≡ y.start) = one_kind t k x.kind y.kind x.start y.start p.kind q.kind in
    let kind : x.kind ≡ y.kind = kinds.0 in
    let start : x.start ≡ y.start = kinds.1 in
    let causality : x.causality ≡ y.causality = p.causality ∙ sym q.causality in
    let clocks : x.clocks ≡ y.clocks = p.clocks ∙ sym q.clocks in
    let again : x.can_be_set_again ≡ y.can_be_set_again = p.again ∙ sym q.again in
    λ i. record { name = name i; aliases = aliases i; reference = reference i; kind = kind i; causality = causality i; clocks = clocks i; start = start i; can_be_set_again = again i }

-- ---- Clocks

one_fraction : (f g : Fraction) → f.counter ≡ g.counter → f.resolution ≡ g.resolution → f ≡ g
one_fraction f g c r = λ i. record { counter = c i; resolution = r i }

one_interval : (t : List Node) (k : ℕ) → OneDecimal → (f g : Fraction) → IsInterval t k f → IsInterval t k g → f ≡ g
one_interval t k one f g (ByCounters _ by c r) (ByCounters _ also d s) =
    one_fraction f g (same_Some f.counter g.counter (sym c ∙ d)) (same_Some f.resolution g.resolution (sym r ∙ s))
one_interval t k one f g (ByCounters _ by c r) (ByDecimal _ text not there d) = absurd (not_both (is_by_counters t k) by not)
one_interval t k one f g (ByDecimal _ text not there d) (ByCounters _ by c r) = absurd (not_both (is_by_counters t k) by not)
one_interval t k one f g (ByDecimal _ text not there d) (ByDecimal _ other also too e) =
    one text f g d (subst (λ (s : List ℕ). Denotes s g) (same_Some other text (sym too ∙ there)) e)

-- the fraction of a decimal, 0 where there is none
IsDecimalOr : Option (List ℕ) → Fraction → Type 0
IsDecimalOr None f = (f.counter ≡ 0) × (f.resolution ≡ 1)
IsDecimalOr (Some text) f = Denotes text f

-- a shift, by what its counter is
IsCounted : List Node → ℕ → Fraction → Type 0
IsCounted t k f =
    (is_by_counters t k ≡ true) × (f.counter ≡ unwrap_or (counter_of t k (codes "shiftCounter")) 0) × (counter_of t k (codes "resolution") ≡ Some f.resolution)

IsWritten : List Node → ℕ → Fraction → Type 0
IsWritten t k f = (is_by_counters t k ≡ false) × IsDecimalOr (attribute t k (codes "shiftDecimal")) f

shift_is : (t : List Node) (k : ℕ) (f : Fraction) → IsShift t k f → IsCounted t k f ⊎ IsWritten t k f
unfolding IsCounted IsWritten IsDecimalOr
shift_is t k f (Counters _ by c r) = inl (by, ap (λ (o : Option ℕ). unwrap_or o 0) (sym c), r)
shift_is t k f (NoCounter _ by absent zero r) = inl (by, zero ∙ ap (λ (o : Option (List ℕ)). unwrap_or (option_and_then counter o) 0) (sym absent), r)
shift_is t k f (Decimal _ text not there d) = inr (not, subst (λ (o : Option (List ℕ)). IsDecimalOr o f) (sym there) d)
shift_is t k f (NoDecimal _ not absent zero r) = inr (not, subst (λ (o : Option (List ℕ)). IsDecimalOr o f) (sym absent) (zero, r))

one_decimal_or : OneDecimal → (text : Option (List ℕ)) (f g : Fraction) → IsDecimalOr text f → IsDecimalOr text g → f ≡ g
unfolding IsDecimalOr
one_decimal_or one None f g p q = one_fraction f g (p.0 ∙ sym q.0) (p.1 ∙ sym q.1)
one_decimal_or one (Some text) f g p q = one text f g p q

one_shift_by : (t : List Node) (k : ℕ) → OneDecimal → (f g : Fraction) → IsCounted t k f ⊎ IsWritten t k f → IsCounted t k g ⊎ IsWritten t k g → f ≡ g
unfolding IsCounted IsWritten
one_shift_by t k one f g (inl p) (inl q) = one_fraction f g (p.1 ∙ sym q.1) (same_Some f.resolution g.resolution (sym p.2 ∙ q.2))
one_shift_by t k one f g (inl p) (inr q) = absurd (not_both (is_by_counters t k) p.0 q.0)
one_shift_by t k one f g (inr p) (inl q) = absurd (not_both (is_by_counters t k) q.0 p.0)
one_shift_by t k one f g (inr p) (inr q) = one_decimal_or one (attribute t k (codes "shiftDecimal")) f g p.1 q.1

one_shift : (t : List Node) (k : ℕ) → OneDecimal → (f g : Fraction) → IsShift t k f → IsShift t k g → f ≡ g
one_shift t k one f g p q = one_shift_by t k one f g (shift_is t k f p) (shift_is t k g q)

one_told : (P : Fraction → Type 0) → ((f g : Fraction) → P f → P g → f ≡ g) → (a b : Option Fraction) → IsTold P a → IsTold P b → a ≡ b
one_told P one None None p q = refl
one_told P one None (Some g) p q = absurd (p g q)
one_told P one (Some f) None p q = absurd (q f p)
one_told P one (Some f) (Some g) p q = ap (λ (z : Fraction). Some z) (one f g p q)

one_shift_told : (t : List Node) (k : ℕ) → OneDecimal → (interval a b : Option Fraction) → IsShiftTold t k interval a → IsShiftTold t k interval b → a ≡ b
one_shift_told t k one None a b p q = p ∙ sym q
one_shift_told t k one (Some interval) a b p q = p.1 ∙ ap (λ (z : Fraction). Some z) (one_shift t k one p.0 q.0 p.2 q.2) ∙ sym q.1

one_timing : (t : List Node) (k : ℕ) → OneDecimal → (x y : ClockTiming) → IsTiming t k x → IsTiming t k y → x ≡ y
one_timing t k one x y p q =
    let reference : x.reference ≡ y.reference = same_Some x.reference y.reference (sym p.reference ∙ q.reference) in
    let variability : x.variability ≡ y.variability = same_Some x.variability y.variability (sym p.variability ∙ q.variability) in
    let fraction : x.supports_fraction ≡ y.supports_fraction = p.fraction ∙ sym q.fraction in
    let interval : x.interval ≡ y.interval = one_told (IsInterval t k) (one_interval t k one) x.interval y.interval p.interval q.interval in
    let shift : x.shift ≡ y.shift =
    one_shift_told t k one y.interval x.shift y.shift (subst (λ (o : Option Fraction). IsShiftTold t k o x.shift) interval p.shift) q.shift in
    λ i. record { reference = reference i; variability = variability i; supports_fraction = fraction i; interval = interval i; shift = shift i }

one_timing_of : (t : List Node) → IsSoundTree t → OneDecimal → (v : Variable) (x y : ClockTiming) → IsTimingOf t v x → IsTimingOf t v y → x ≡ y
one_timing_of t sound one v x y p q =
    one_timing t q.0 one x y (subst (λ (k : ℕ). IsTiming t k x) (one_variable t sound v.reference p.0 q.0 p.1 q.1) p.2) q.2

-- ---- dependencies

one_on : (t : List Node) (xs : List Variable) (x : ℕ) (a b : Knowns) → DependsOn t xs x a → DependsOn t xs x b → a ≡ b
one_on t xs x a b (inl p) (inl q) =
    p.2 ∙ ap (λ (k : ℕ). listed xs (attribute t k (codes "dependencies"))) (one_first (output_key t) x p.0 q.0 p.1 q.1) ∙ sym q.2
one_on t xs x a b (inl p) (inr q) = absurd (q.0 (p.0, p.1.0))
one_on t xs x a b (inr p) (inl q) = absurd (p.0 (q.0, q.1.0))
one_on t xs x a b (inr p) (inr q) = p.1 ∙ sym q.1

one_initially_on : (t : List Node) (xs : List Variable) (x : ℕ) (a b : Knowns) → DependsInitiallyOn t xs x a → DependsInitiallyOn t xs x b → a ≡ b
one_initially_on t xs x a b (inl p) (inl q) =
    p.2 ∙ ap (λ (k : ℕ). listed xs (attribute t k (codes "dependencies"))) (one_first (initial_key t) x p.0 q.0 p.1 q.1) ∙ sym q.2
one_initially_on t xs x a b (inl p) (inr q) = absurd (q.0 (p.0, p.1.0))
one_initially_on t xs x a b (inr p) (inl q) = absurd (p.0 (q.0, q.1.0))
one_initially_on t xs x a b (inr (p, inl exact)) (inr (q, inl also)) = exact.1 ∙ sym also.1
one_initially_on t xs x a b (inr (p, inl exact)) (inr (q, inr not)) = absurd (not.0 exact.0)
one_initially_on t xs x a b (inr (p, inr not)) (inr (q, inl exact)) = absurd (not.0 exact.0)
one_initially_on t xs x a b (inr (p, inr not)) (inr (q, inr nor)) = one_on t xs x a b not.1 nor.1

one_dependency : (x : ℕ) (d e : Dependency) → d.output ≡ x → e.output ≡ x → d.on ≡ e.on → d ≡ e
one_dependency x d e p q on = let output : d.output ≡ e.output = p ∙ sym q in λ i. record { output = output i; on = on i }

-- ---- the whole

zip_same : {A B : Type 0} (R : A → B → Type 0) → ((k : A) (x y : B) → R k x → R k y → x ≡ y) → (ks : List A) (xs ys : List B) → AllZip R ks xs → AllZip R ks ys → xs ≡ ys
zip_same R one [] [] [] p q = refl
zip_same R one [] [] (y ∷ ys) p q = absurd q
zip_same R one [] (x ∷ xs) ys p q = absurd p
zip_same R one (k ∷ ks) [] ys p q = absurd p
zip_same R one (k ∷ ks) (x ∷ xs) [] p q = absurd q
zip_same {A} {B} R one (k ∷ ks) (x ∷ xs) (y ∷ ys) p q =
    ap (λ (z : B). z ∷ xs) (one k x y p.0 q.0) ∙ ap (λ (zs : List B). y ∷ zs) (zip_same R one ks xs ys p.1 q.1)

pub one_shape : (t : List Node) (per_second : ℕ) → OneDecimal → IsSoundDescription t per_second → (a b : Shape) → Describes t per_second a → Describes t per_second b → a ≡ b
one_shape t per_second one sound a b p q =
    let says : SaysOf t p.element b = subst (λ (k : ℕ). SaysOf t k b) (one_co_simulation t q.element p.element q.is p.is) q.says in
    let identifier : a.identifier ≡ b.identifier = p.says.identifier ∙ sym says.identifier in
    let token : a.token ≡ b.token = p.token ∙ sym q.token in
    let resolution : a.resolution ≡ b.resolution = p.resolution ∙ sym q.resolution in
    let event_mode : a.has_event_mode ≡ b.has_event_mode = p.says.event_mode ∙ sym says.event_mode in
    let early : a.might_return_early ≡ b.might_return_early = p.says.early ∙ sym says.early in
    let variable : a.has_variable_steps ≡ b.has_variable_steps = p.says.variable ∙ sym says.variable in
    let saves : a.can_save_state ≡ b.can_save_state = p.says.saves ∙ sym says.saves in
    let serializes : a.can_serialize_state ≡ b.can_serialize_state = p.says.serializes ∙ sym says.serializes in
    let variables : a.variables ≡ b.variables =
    zip_same (IsVariable t) (one_described t) (variables_in t) a.variables b.variables p.variables q.variables in
    let clocks : a.clocks ≡ b.clocks =
    zip_same (IsTimingOf t) (one_timing_of t (per_second, sound) one) (clocks_among b.variables) a.clocks b.clocks
    (subst (λ (xs : List Variable). AllZip (IsTimingOf t) (clocks_among xs) a.clocks) variables p.clocks) q.clocks in
    let dependencies : a.dependencies ≡ b.dependencies =
    zip_same (IsDependency t b.variables) (λ x d e m n. one_dependency x.reference d e m.0 n.0 (one_on t b.variables x.reference d.on e.on m.1 n.1))
    (outputs_among b.variables) a.dependencies b.dependencies
    (subst (λ (xs : List Variable). AllZip (IsDependency t xs) (outputs_among xs) a.dependencies) variables p.dependencies) q.dependencies in
    let initial : a.initial_dependencies ≡ b.initial_dependencies =
    zip_same (IsInitialDependency t b.variables) (λ x d e m n. one_dependency x.reference d e m.0 n.0 (one_initially_on t b.variables x.reference d.on e.on m.1 n.1))
    (outputs_among b.variables) a.initial_dependencies b.initial_dependencies
    (subst (λ (xs : List Variable). AllZip (IsInitialDependency t xs) (outputs_among xs) a.initial_dependencies) variables p.initial) q.initial in
    λ i. record { identifier = identifier i; token = token i; resolution = resolution i; has_event_mode = event_mode i; might_return_early = early i; has_variable_steps = variable i; can_save_state = saves i; can_serialize_state = serializes i; variables = variables i; clocks = clocks i; dependencies = dependencies i; initial_dependencies = initial i }
