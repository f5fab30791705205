-- What soundness gives: the attributes that are there and read, and one element for each key.
use Rattle.std.proofs.Common.{◌≡◌, ◌⊎◌, ℕ, ℤ, ◌<◌, Bool, true, false, ◌&&◌, List, length, Option, Some, None, IsSome, option_and_then, codes, bytes_eq, cond, get_or, refl, sym, ap, ◌∙◌, inl, inr, arith}
use Rattle.std.specs.List.{AllZip, range_with_len}
use Rattle.std.proofs.lemmas.Bool.{cases_order}
use Rattle.std.proofs.lemmas.Option.{same_Some}
use Rattle.value_types.specs.declared.values.PortType.{PortType}
use Rattle.value_types.specs.declared.values.PortType.TheVariants.{Int8, UInt8, Int16, UInt16, Int32, UInt32, Int64, UInt64, Boolean, Enumeration, Clock}
use Rattle.value_types.specs.declared.shape.Variable.{Variable}
use Rattle.clock_fraction.specs.declared.fraction.Fraction.{Fraction}
use Rattle.doc_grammar.specs.Nodes.{Node}
use Rattle.doc_tree.specs.declared.rule.DescriptionRule.TheVariants as r
use Rattle.fmu_description.specs.Texts.{reference, counter, variability, port_type}
use Rattle.doc_tables.specs.Elements.{name_of, is_named, attribute, key_if}
use Rattle.doc_tables.specs.Tables.{IsFirstWith}
use Rattle.fmu_description.specs.Elements.{is_variable, is_clock, is_co_simulation, reference_of, variable_key, IsCoSimulation}
use Rattle.fmu_description.specs.Clocks.{IsIgnored, OfItself, IsTimed, variability_of, IsInterval, ByCounters, ByDecimal, IsShift, Counters, NoCounter, Decimal, NoDecimal}
use Rattle.fmu_description.specs.Places.{FindsCoSimulation}
use Rattle.fmu_description.specs.Rules.{IsSoundDescription}
use Rattle.value_types.specs.Shape.{is_clock_type}
use Rattle.fmu_description.specs.Description.{IsSoundTree, ReadsStart, IsKind, IsVariable, IsTimedAt, variables_in}
use Rattle.fmu_description.proofs.StepLemmas.{source}

-- ---- the least number

pub one_least : (P : ℕ → Type 0) (j k : ℕ) → P j → ((i : ℕ) → i < j → P i → ⊥) → P k → ((i : ℕ) → i < k → P i → ⊥) → j ≡ k
one_least P j k p below q above =
    elim (cases_order j k) [ inl e ↦ e | inr (inl lt) ↦ absurd (above j lt p) | inr (inr gt) ↦ absurd (below k gt q) ]

pub one_first : {A : Type 0} (key : ℕ → Option A) (x : A) (j k : ℕ) → IsFirstWith key x j → IsFirstWith key x k → j ≡ k
one_first key x j k p q = one_least (λ i. key i ≡ Some x) j k p.0 p.1 q.0 q.1

pub one_co_simulation : (t : List Node) (j k : ℕ) → IsCoSimulation t j → IsCoSimulation t k → j ≡ k
one_co_simulation t j k p q = one_least (λ i. is_co_simulation t i ≡ true) j k p.0 p.1 q.0 q.1

pub has_co_simulation : (t : List Node) (per_second : ℕ) → IsSoundDescription t per_second → (place : Option ℕ) → FindsCoSimulation t place → IsSome place
has_co_simulation t per_second sound None none = absurd (sound r.NoCoSimulation 0 (refl, none))
has_co_simulation t per_second sound (Some k) is = refl

-- ---- one variable for each reference

pub one_variable : (t : List Node) → IsSoundTree t → (x j k : ℕ) → variable_key t j ≡ Some x → variable_key t k ≡ Some x → j ≡ k
one_variable t sound x j k p q =
    elim (cases_order j k) [
      | inl e ↦ e
      | inr (inl lt) ↦ absurd (sound.1 r.ReferenceTwice k (x, q, (j, lt, p)))
      | inr (inr gt) ↦ absurd (sound.1 r.ReferenceTwice j (x, p, (k, gt, q)))
    ]

-- ---- what is there and reads

is_some_from : {A : Type 0} (o : Option A) → (o ≡ None → ⊥) → IsSome o
is_some_from None h = absurd (h refl)
is_some_from (Some x) h = refl

-- what a text says is there where the text is, and reads
reads_some : {A : Type 0} (read : List ℕ → Option A) (text : Option (List ℕ)) → (text ≡ None → ⊥) → ((bytes : List ℕ) → text ≡ Some bytes → read bytes ≡ None → ⊥) → IsSome (option_and_then read text)
reads_some read None absent misread = absurd (absent refl)
reads_some read (Some bytes) absent misread = is_some_from (read bytes) (misread bytes refl)

pub has_reference : (t : List Node) (k : ℕ) → IsSoundTree t → is_variable t k ≡ true → IsSome (reference_of t k)
has_reference t k sound is =
    reads_some reference (attribute t k (codes "valueReference"))
    (λ e. sound.1 r.Absent k (inr (inr (inl (is, inr (inl e))))))
    (λ bytes e f. sound.1 r.Misread k (inr (inl (is, inl (bytes, e, f)))))

pub reads_start : (t : List Node) (k : ℕ) → IsSoundTree t → is_variable t k ≡ true → (kind : Option PortType) → (IsIgnored t k → kind ≡ None) → ((IsIgnored t k → ⊥) → kind ≡ port_type (name_of t k)) → ReadsStart kind (attribute t k (codes "start"))
reads_start t k sound is kind ignored own one bytes e f unread =
    let apart : IsIgnored t k → ⊥ = λ x. let g = ignored x in cc in
    let named : port_type (name_of t k) ≡ Some one = let g = own apart in cc in
    sound.1 r.Misread k (inr (inl (is, inr (inr (inr (apart, (bytes, one, f, named, unread)))))))

-- ---- Clocks

pub is_variable_from_clock : (t : List Node) (k : ℕ) → is_clock t k ≡ true → is_variable t k ≡ true
is_variable_from_clock t k h = grind arith

pub has_variability : (t : List Node) (k : ℕ) → IsSoundTree t → IsTimed t k → IsSome (variability_of t k)
has_variability t k sound timed =
    reads_some variability (attribute t k (codes "intervalVariability"))
    (λ e. sound.1 r.Absent k (inr (inr (inl (is_variable_from_clock t k timed.0, inr (inr (timed, e)))))))
    (λ bytes e f. sound.1 r.Misread k (inr (inr (inl (timed.0, inr (inl (bytes, e, f)))))))

cases_text : {A : Type 0} (o : Option A) → (o ≡ None) ⊎ ((x : A) × (o ≡ Some x))
cases_text None = inl refl
cases_text (Some x) = inr (x, refl)

-- beside an interval there is a shift
pub has_shift : (t : List Node) (k : ℕ) → IsSoundTree t → is_clock t k ≡ true → (f : Fraction) → IsInterval t k f → ((shift : Fraction) → IsShift t k shift → ⊥) → ⊥
has_shift t k sound is f (ByCounters _ by counted resolved) none =
    elim (cases_text (attribute t k (codes "shiftCounter"))) [
      | inl absent ↦ none (record { counter = 0; resolution = f.resolution }) (NoCounter _ by absent refl resolved)
      | inr there ↦
          elim (cases_text (counter there.0)) [
            | inl unread ↦ sound.1 r.Misread k (inr (inr (inl (is, inr (inr (inl (inr (inl (there.0, there.1, unread)))))))))
            | inr read ↦
                none (record { counter = read.0; resolution = f.resolution })
                (Counters _ by (ap (λ (o : Option (List ℕ)). option_and_then counter o) there.1 ∙ read.1) resolved)
          ]
    ]
has_shift t k sound is f (ByDecimal _ text by there denotes) none =
    elim (cases_text (attribute t k (codes "shiftDecimal"))) [
      | inl absent ↦ none (record { counter = 0; resolution = 1 }) (NoDecimal _ by absent refl refl)
      | inr shift ↦
          sound.1 r.Misread k
          (inr (inr (inl (is, inr (inr (inr (inr (shift.0, shift.1, λ g d. none g (Decimal g shift.0 by shift.1 d)))))))))
    ]

-- ---- the Clocks among the variables

skip : (b : Bool) (kind : PortType) (rest : Option PortType) → (kind ≡ Clock → ⊥) → cond b (Some kind) rest ≡ Some Clock → rest ≡ Some Clock
skip true kind rest apart e = absurd (apart (same_Some kind Clock e))
skip false kind rest apart e = e

last : (b : Bool) → cond b (Some Clock) None ≡ Some Clock → b ≡ true
last true e = refl
last false e = cc

named_clock : (name : List ℕ) → port_type name ≡ Some Clock → bytes_eq name (codes "Clock") ≡ true
named_clock name e =
    last _ (skip _ Enumeration _ (λ d. cc) (skip _ Boolean _ (λ d. cc) (skip _ UInt64 _ (λ d. cc) (skip _ Int64 _ (λ d. cc)
    (skip _ UInt32 _ (λ d. cc) (skip _ Int32 _ (λ d. cc) (skip _ UInt16 _ (λ d. cc) (skip _ Int16 _ (λ d. cc)
    (skip _ UInt8 _ (λ d. cc) (skip _ Int8 _ (λ d. cc) e))))))))))

clock_kind : (kind : Option PortType) → is_clock_type kind ≡ true → kind ≡ Some Clock
clock_kind None e = cc
clock_kind (Some Clock) e = refl
clock_kind (Some Int8) e = cc
clock_kind (Some UInt8) e = cc
clock_kind (Some Int16) e = cc
clock_kind (Some UInt16) e = cc
clock_kind (Some Int32) e = cc
clock_kind (Some UInt32) e = cc
clock_kind (Some Int64) e = cc
clock_kind (Some UInt64) e = cc
clock_kind (Some Boolean) e = cc
clock_kind (Some Enumeration) e = cc

both : (a b : Bool) → a ≡ true → b ≡ true → (a && b) ≡ true
both true b e f = f
both false b e f = cc

pub key_of : (t : List Node) (k x : ℕ) → is_variable t k ≡ true → reference_of t k ≡ Some x → variable_key t k ≡ Some x
key_of t k x is e = ap (λ (b : Bool). key_if b (reference_of t k)) is ∙ e

timed_kind : (t : List Node) (k : ℕ) (kind : Option PortType) (start : Option ℤ) → is_variable t k ≡ true → IsKind t k kind start → kind ≡ Some Clock → IsTimed t k
timed_kind t k kind start is (inl ignored) e = let f = ignored.1 in cc
timed_kind t k kind start is (inr own) e =
    let clock : is_clock t k ≡ true = both (is_named t k (codes "Clock")) (is_variable t k) (named_clock (name_of t k) (sym own.1 ∙ e)) is in
    (clock, λ local. own.0 (OfItself k is (inr (inl (clock, local)))))

pub timed_at : (t : List Node) (xs : List Variable) (i : ℕ) (x : Variable) → AllZip (IsVariable t) (variables_in t) xs → i < length xs → x ≡ get_or xs i x → is_clock_type x.kind ≡ true → IsTimedAt t x.reference
timed_at t xs i x all lt at is =
    let from = source (IsVariable t) (is_variable t) (range_with_len 0 (length t)) xs i x all lt at in
    (from.0, key_of t from.0 x.reference from.1 from.2.reference, timed_kind t from.0 x.kind x.start from.1 from.2.kind (clock_kind x.kind is))
