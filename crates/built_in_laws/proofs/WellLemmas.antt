-- The replies of the built-in machines are good.
use Rattle.std.proofs.Common.{◌≡◌, ℕ, ◌+◌, ◌<◌, ◌≤◌, ℤ, pos, negsuc, Bool, true, false, Option, Some, None, is_some, ◌||◌, if◌then◌else◌, nat_abs, nat_le, nat_lt, List, refl, ap, ◌∙◌, arith}
use Rattle.std.specs.Prelude.{IfSome, int_lt, ◌&&◌}
use Rattle.std.proofs.lemmas.Int.{ints}
use Rattle.std.proofs.lemmas.Bool.Decides.{nat_tests}
use Rattle.value_types.specs.declared.values.PortType.{PortType}
use Rattle.value_types.specs.declared.values.PortType.TheVariants.{Clock}
use Rattle.value_types.specs.Values.{Fits, word_of, word_value}
use Rattle.value_types.specs.declared.shape.Shape.{Shape}
use Rattle.fmi_calls.specs.Worth.{is_step_end, is_valid}
use Rattle.fmi_calls.specs.declared.call.Call.TheVariants as C
use Rattle.bench_fmus.specs.declared.model.Model.{Model}
use Rattle.bench_fmus.specs.declared.model.Model.TheVariants.{Counter, Gain, Sampler, Alarm, Timer, Relay, Settle, Pulse, Waker}
use Rattle.bench_fmus.specs.Alarm.{rung_at}
use Rattle.bench_fmus.specs.BuiltIn.{Behaviour, step_content, value_of}
use Rattle.bench_fmus.specs.Models.{behaviour_of}
use Rattle.bench_fmus.specs.Wrapping.{wrapped}
use Rattle.bench_fmus.proofs.CallerLemmas.{word_back, wrapped_fits}

-- ---- words

-- the word of a wrapped number is right for its type
pub word_right : (kind : PortType) (z : ℤ) → is_some (word_value kind (word_of (wrapped kind z))) ≡ true
word_right kind z = ap (λ (o : Option ℤ). is_some o) (word_back kind (wrapped kind z) (wrapped_fits kind z))

-- of a Clock it is 0 or 1
pub clock_right : (z : ℤ) → nat_le (word_of (wrapped Clock z)) 1 ≡ true
clock_right z = at (wrapped Clock z) (wrapped_fits Clock z)
  where
    at : (x : ℤ) → Fits Clock x → nat_le (word_of x) 1 ≡ true
    at (pos n) fits = let few : n ≤ 1 = omega (arith, ints) in grind (arith, nat_tests)
    at (negsuc n) fits = absurd (omega (arith, ints))

-- ---- steps

or_true : (b : Bool) → (b || true) ≡ true
or_true true = refl
or_true false = refl

or_false : (b : Bool) → (b || false) ≡ b
or_false true = refl
or_false false = refl

at_bound : (shape : Shape) (at size : ℕ) → 0 < size → is_step_end shape at size false (at + size) ≡ true
at_bound shape at size moves =
    let after : nat_lt at (at + size) ≡ true = grind (arith, nat_tests) in
    let bound : nat_le (at + size) (at + size) ≡ true = grind (arith, nat_tests) in
    let last : nat_lt (at + size) (at + size) ≡ false = grind (arith, nat_tests) in
    simp (after, bound, last) (or_true shape.might_return_early)

-- a step ends early inside it, and where that is allowed
abbrev IsEarlyEnd : Shape → ℕ → ℕ → ℕ → Type 0
IsEarlyEnd shape at size end = (shape.might_return_early ≡ true) × (at < end) × (end < at + size)

early : (shape : Shape) (at size end : ℕ) → IsEarlyEnd shape at size end → is_step_end shape at size true end ≡ true
early shape at size end is =
    let after : nat_lt at end ≡ true = grind (arith, nat_tests) in
    let bound : nat_le end (at + size) ≡ true = grind (arith, nat_tests) in
    let before : nat_lt end (at + size) ≡ true = grind (arith, nat_tests) in
    simp (after, bound, before) (or_false shape.might_return_early ∙ is.0)

pub step_right : (shape : Shape) (at size : ℕ) (terminate : Bool) (end : Option ℕ) → 0 < size → IfSome end (IsEarlyEnd shape at size) →
    is_valid shape (C.DoStep at size) (step_content shape.has_event_mode terminate (at + size) end) ≡ true
step_right shape at size terminate None moves is = at_bound shape at size moves
step_right shape at size terminate (Some end) moves is = early shape at size end is

-- the alarm rings inside a step
inside : (z : ℤ) (at bound : ℕ) → int_lt (pos at) z ≡ true → int_lt z (pos bound) ≡ true → (at < nat_abs z) × (nat_abs z < bound)
inside (pos n) at bound above below = (grind (arith, ints, nat_tests), grind (arith, ints, nat_tests))
inside (negsuc n) at bound above below = absurd (grind (arith, ints, nat_tests))

rung_right : (shape : Shape) (values : List ℤ) (at size : ℕ) → IfSome (rung_at shape values at size) (IsEarlyEnd shape at size)
rung_right shape values at size = by shape.might_return_early (int_lt (pos at) z) (int_lt z (pos (at + size))) refl refl refl
  where
    z : ℤ
    z = value_of shape.variables values 1

    by : (a b c : Bool) → shape.might_return_early ≡ a → int_lt (pos at) z ≡ b → int_lt z (pos (at + size)) ≡ c →
        IfSome (if (a && b && c) then Some (nat_abs z) else None) (IsEarlyEnd shape at size)
    by true true true allowed above below = let within : (at < nat_abs z) × (nat_abs z < at + size) = inside z at (at + size) above below in (allowed, within.0, within.1)
    by true true false allowed above below = tt
    by true false c allowed above below = tt
    by false b c allowed above below = tt

-- each step of a behaviour that ends early does so there
abbrev pub EndsRight : Behaviour → Shape → Type 0
EndsRight b shape = (values : List ℤ) (at size : ℕ) → IfSome (b.early_end shape values at size) (IsEarlyEnd shape at size)

pub ends_right : (model : Model) (shape : Shape) → EndsRight (behaviour_of model) shape
ends_right Counter shape values at size = tt
ends_right Gain shape values at size = tt
ends_right Sampler shape values at size = tt
ends_right Alarm shape values at size = rung_right shape values at size
ends_right Timer shape values at size = tt
ends_right Relay shape values at size = tt
ends_right Settle shape values at size = tt
ends_right Pulse shape values at size = tt
ends_right Waker shape values at size = tt
