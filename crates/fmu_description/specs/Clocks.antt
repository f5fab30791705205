-- Ignored variables, and the Clocks of a description (FMI 3.0, 2.2.8: clocks; 2.4.7.5: attributes of clocks).
use Rattle.std.specs.Prelude.{◌≡◌, ◌⊎◌, ℕ, Bool, true, false, ◌&&◌, List, Option, Some, None, is_some, option_and_then, Contains, codes}
use Rattle.value_types.specs.declared.shape.Causality.TheVariants as c
use Rattle.value_types.specs.declared.shape.IntervalVariability.{IntervalVariability}
use Rattle.clock_fraction.specs.declared.fraction.Fraction.{Fraction}
use Rattle.clock_fraction.specs.Decimal.{Denotes}
use Rattle.doc_grammar.specs.Nodes.{Node}
use Rattle.fmu_description.specs.Texts.{counter, variability, is_unsupported_type}
use Rattle.doc_tables.specs.Elements.{attribute, parent, name_of}
use Rattle.fmu_description.specs.Elements.{is_variable, is_clock, is_dimension, references_of, causality_of, has_flag, clock_key}

-- ---- ignored variables, which are never set, read, bound or traced (a narrowing of this profile)

-- a variable is ignored by itself: by its type, as a Clock that is local, by a Dimension, or by a causality that the profile doesn't support
abbrev pub IsIgnoredItself : List Node → ℕ → Type 0
IsIgnoredItself t k =
    (is_unsupported_type (name_of t k) ≡ true)
    ⊎ (((is_clock t k ≡ true) × (causality_of t k ≡ c.Local))
    ⊎ (((j : ℕ) × (is_dimension t j ≡ true) × (parent t j ≡ Some k))
    ⊎ (causality_of t k ≡ c.Other)))

-- the references in `clocks`
abbrev pub clocks_of : List Node → ℕ → List ℕ
clocks_of t k = references_of t k (codes "clocks")

-- a variable is ignored by itself, or by an ignored Clock at whose ticks it has a value
pub data IsIgnored (t : List Node) : ℕ → Type 0 where
  OfItself : (k : ℕ) → is_variable t k ≡ true → IsIgnoredItself t k → IsIgnored t k
  ByClock : (k clock reference : ℕ) → is_variable t k ≡ true → Contains (clocks_of t k) reference →
      clock_key t clock ≡ Some reference → IsIgnored t clock → IsIgnored t k

-- ---- Clocks

-- a Clock that isn't local
abbrev pub IsTimed : List Node → ℕ → Type 0
IsTimed t k = (is_clock t k ≡ true) × (causality_of t k ≡ c.Local → ⊥)

abbrev pub variability_of : List Node → ℕ → Option IntervalVariability
variability_of t k = option_and_then variability (attribute t k (codes "intervalVariability"))

abbrev pub counter_of : List Node → ℕ → List ℕ → Option ℕ
counter_of t k name = option_and_then counter (attribute t k name)

-- the counters count where fractions are supported and both are given
abbrev pub is_by_counters : List Node → ℕ → Bool
is_by_counters t k =
    has_flag t k (codes "supportsFraction") && is_some (attribute t k (codes "intervalCounter")) &&
    is_some (attribute t k (codes "resolution"))

-- the interval that is described, in seconds: counters over a resolution, else a decimal
pub data IsInterval (t : List Node) (k : ℕ) : Fraction → Type 0 where
  ByCounters : (f : Fraction) → is_by_counters t k ≡ true →
      counter_of t k (codes "intervalCounter") ≡ Some f.counter →
      counter_of t k (codes "resolution") ≡ Some f.resolution → IsInterval t k f
  ByDecimal : (f : Fraction) (text : List ℕ) → is_by_counters t k ≡ false →
      attribute t k (codes "intervalDecimal") ≡ Some text → Denotes text f → IsInterval t k f

-- the shift beside it, in seconds: 0 where it isn't given
pub data IsShift (t : List Node) (k : ℕ) : Fraction → Type 0 where
  Counters : (f : Fraction) → is_by_counters t k ≡ true →
      counter_of t k (codes "shiftCounter") ≡ Some f.counter →
      counter_of t k (codes "resolution") ≡ Some f.resolution → IsShift t k f
  NoCounter : (f : Fraction) → is_by_counters t k ≡ true →
      attribute t k (codes "shiftCounter") ≡ None → f.counter ≡ 0 →
      counter_of t k (codes "resolution") ≡ Some f.resolution → IsShift t k f
  Decimal : (f : Fraction) (text : List ℕ) → is_by_counters t k ≡ false →
      attribute t k (codes "shiftDecimal") ≡ Some text → Denotes text f → IsShift t k f
  NoDecimal : (f : Fraction) → is_by_counters t k ≡ false →
      attribute t k (codes "shiftDecimal") ≡ None → f.counter ≡ 0 → f.resolution ≡ 1 → IsShift t k f
