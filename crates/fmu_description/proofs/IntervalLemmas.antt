-- An interval and its shift are determined by what the element says.
use Rattle.std.proofs.Common.{◌≡◌, ℕ, false, List, Option, Some, IfSome, codes, sym, subst, ◌∙◌}
use Rattle.std.specs.Prelude.{option_and_then}
use Rattle.std.proofs.lemmas.Bool.{both_ways}
use Rattle.std.proofs.lemmas.Option.{same_Some, none-some, IfSome_then}
use Rattle.clock_fraction.specs.declared.fraction.Fraction.{Fraction}
use Rattle.clock_fraction.specs.Decimal.{Denotes}
use Rattle.doc_grammar.specs.Nodes.{Node}
use Rattle.doc_tables.specs.Elements.{attribute}
use Rattle.fmu_description.specs.Texts.{counter}
use Rattle.fmu_description.specs.Clocks.{counter_of, is_by_counters, IsInterval, ByCounters, ByDecimal, IsShift, Counters, NoCounter, Decimal, NoDecimal}

pub decimal_interval : (t : List Node) (k : ℕ) (text : List ℕ) (r : Option Fraction) → is_by_counters t k ≡ false
    → attribute t k (codes "intervalDecimal") ≡ Some text → IfSome r (Denotes text) → IfSome r (IsInterval t k)
decimal_interval t k text r e a d = IfSome_then r d (λ f p. ByDecimal f text e a p)

pub decimal_interval_only : (t : List Node) (k : ℕ) (text : List ℕ) (r : Option Fraction) → is_by_counters t k ≡ false
    → attribute t k (codes "intervalDecimal") ≡ Some text → ((f : Fraction) → Denotes text f → r ≡ Some f)
    → (f : Fraction) → IsInterval t k f → r ≡ Some f
decimal_interval_only t k text r e a d f (ByCounters g by counter resolution) = absurd (both_ways _ e by)
decimal_interval_only t k text r e a d f (ByDecimal g other by told is) =
    d g (subst (λ x. Denotes x g) (same_Some _ _ (sym told ∙ a)) is)

pub counted : (t : List Node) (k : ℕ) (name text : List ℕ) (n : ℕ) → attribute t k name ≡ Some text → counter text ≡ Some n → counter_of t k name ≡ Some n
counted t k name text n a e = subst (λ (o : Option (List ℕ)). option_and_then counter o ≡ Some n) (sym a) e

pub decimal_shift : (t : List Node) (k : ℕ) (text : List ℕ) (r : Option Fraction) → is_by_counters t k ≡ false
    → attribute t k (codes "shiftDecimal") ≡ Some text → IfSome r (Denotes text) → IfSome r (IsShift t k)
decimal_shift t k text r e a d = IfSome_then r d (λ f p. Decimal f text e a p)

pub decimal_shift_only : (t : List Node) (k : ℕ) (text : List ℕ) (r : Option Fraction) → is_by_counters t k ≡ false
    → attribute t k (codes "shiftDecimal") ≡ Some text → ((f : Fraction) → Denotes text f → r ≡ Some f)
    → (f : Fraction) → IsShift t k f → r ≡ Some f
decimal_shift_only t k text r e a d f (Counters g by counter resolution) = absurd (both_ways _ e by)
decimal_shift_only t k text r e a d f (NoCounter g by absent zero resolution) = absurd (both_ways _ e by)
decimal_shift_only t k text r e a d f (Decimal g other by told is) =
    d g (subst (λ x. Denotes x g) (same_Some _ _ (sym told ∙ a)) is)
decimal_shift_only t k text r e a d f (NoDecimal g by absent zero one) = absurd (none-some text (sym absent ∙ a))
