-- What a good reply says: where a step ends, and that a Clock is active or not.
use Rattle.std.proofs.Common.{◌≡◌, ℕ, zero, suc, ◌+◌, ◌<◌, ◌≤◌, ℤ, pos, Bool, true, false, ◌&&◌, refl, sym, arith}
use Rattle.std.specs.Prelude.{Option, Some, if◌then◌else◌, nat_le, nat_lt}
use Rattle.std.proofs.lemmas.Bool.{leb-true, ltb-true}
use Rattle.value_types.specs.Values.{word_value}
use Rattle.value_types.specs.declared.shape.Shape.{Shape}
use Rattle.value_types.specs.declared.values.PortType.TheVariants.{Clock}
use Rattle.fmi_calls.specs.declared.call.Call.TheVariants as C
use Rattle.fmi_calls.specs.declared.call.Content.TheVariants as A
use Rattle.fmi_calls.specs.declared.call.Grade.TheVariants as G
use Rattle.fmi_calls.specs.declared.call.Reply.{Reply}
use Rattle.fmi_calls.specs.declared.call.Reply.TheVariants as R
use Rattle.fmi_calls.specs.Kinds.{kind_of}
use Rattle.fmi_calls.specs.KindFacts.{same_kind}
use Rattle.fmi_calls.specs.Next.{end_of}
use Rattle.fmi_calls.specs.Worth.{grade_of, is_step_end}
use Rattle.system_model.proofs.CallerLemmas.{true_false}
use Rattle.run_model.specs.Equations.{value_in}

is_good : (b : Bool) → (if b then G.Good else G.Misreply) ≡ G.Good → b ≡ true
is_good true e = refl
is_good false e = absurd (cc e)

refused : (b : Bool) → (if b then G.Refused else G.Misreply) ≡ G.Good → ⊥
refused true e = cc e
refused false e = cc e

-- ---- a step

-- above t, and at most b
abbrev pub IsBetween : ℕ → ℕ → ℕ → Type 0
IsBetween t b x = (t < x) × (x ≤ b)

prefix_two : (a b c d : Bool) → (a && b && c && d) ≡ true → (a ≡ true) × (b ≡ true)
prefix_two true true c d e = (refl, refl)
prefix_two true false c d e = absurd (true_false (sym e))
prefix_two false b c d e = absurd (true_false (sym e))

within_step : (shape : Shape) (at size end : ℕ) (early : Bool) → is_step_end shape at size early end ≡ true → IsBetween at (at + size) end
within_step shape at size end early e =
    let two = prefix_two (nat_lt at end) (nat_le end (at + size)) _ _ e in
    (ltb-true at end two.0, leb-true end (at + size) two.1)

-- it ends above its beginning, and at most where it was asked to
pub step_end : (shape : Shape) (at size : ℕ) (reply : Reply) → grade_of shape (C.DoStep at size) reply ≡ G.Good → IsBetween at (at + size) (end_of reply at)
step_end shape at size (R.Refused k status) good = absurd (refused (same_kind k (kind_of (C.DoStep at size))) good)
step_end shape at size (R.Done w (A.DoStep event_needed terminate early end)) good = within_step shape at size end early (is_good (is_step_end shape at size early end) good)
step_end shape at size (R.Done w content) good = absurd (cc good)

-- ---- a Clock

abbrev pub HasValue : Option ℤ → Type 0
HasValue o = (v : ℤ) × (o ≡ Some v)

bit : (word : ℕ) → nat_le word 1 ≡ true → HasValue (word_value Clock word)
bit zero e = (pos 0, refl)
bit (suc zero) e = (pos 1, refl)
bit (suc (suc word)) e = let low : suc (suc word) ≤ 1 = leb-true (suc (suc word)) 1 e in absurd (omega (arith, low))

-- the answer to whether it is active is a value
pub answered : (shape : Shape) (reference : ℕ) (reply : Reply) → grade_of shape (C.GetClock reference) reply ≡ G.Good → HasValue (value_in Clock reply)
answered shape reference (R.Refused k status) good = absurd (refused (same_kind k (kind_of (C.GetClock reference))) good)
answered shape reference (R.Done w (A.GetClock word)) good = bit word (is_good (nat_le word 1) good)
answered shape reference (R.Done w content) good = absurd (cc good)
