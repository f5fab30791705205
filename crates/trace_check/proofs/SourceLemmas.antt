-- The line of a port, by how many lines it stands after the `at` line of its instant.
use Rattle.std.proofs.Common.{arith, ◌≡◌, refl, sym, ap, ◌∙◌, ℕ, ◌+◌, ◌<◌, ◌≤◌, suc, zero, ℤ, cond, List, [], ◌∷◌, Option, Some, None, length, take, inl, inr, below_more}
use Rattle.std.specs.Prelude.{is_some, count_by, slice_get}
use Rattle.std.proofs.lemmas.Bool.{cases_lt}
use Rattle.std.proofs.lemmas.List.{get_or_past}
use Rattle.std.proofs.lemmas.List.Sums.{count_by_more_yes, sum_by-cons, sum_by-take-le}
use Rattle.std.proofs.lemmas.Option.{none-some as none_some, get_or_from_slice_get, slice_get-get_or}
use Rattle.system_model.specs.declared.system.System.{System}
use Rattle.trace_reading.specs.declared.trace.TraceLine.{TraceLine}
use Rattle.trace_reading.specs.declared.trace.TraceLine.TheVariants.{Value}
use Rattle.trace_reading.specs.Form.{told_values_from}
use Rattle.trace_check.specs.Instants.{lines_to}
use Rattle.trace_reading.proofs.CallerLemmas.{unsome}
use Rattle.system_model.specs.Values.{value}
use Rattle.trace_check.specs.Steps.{IsOtherValue}
use Rattle.trace_check.specs.Values.{DiffersFromSource}

-- a port without a value has no line of its own
pub lines_none : (values : List (Option ℤ)) (p : ℕ) → value values p ≡ None → lines_to values p ≡ 0
lines_none values p none = ap (λ (o : Option ℤ). cond (is_some o) (count_by is_some (take (p + 1) values)) 0) none

pub lines_some : (values : List (Option ℤ)) (p : ℕ) (v : ℤ) → value values p ≡ Some v → lines_to values p ≡ count_by is_some (take (p + 1) values)
lines_some values p v some = ap (λ (o : Option ℤ). cond (is_some o) (count_by is_some (take (p + 1) values)) 0) some

-- the lines of values are as many as the values
pub value_lines_count : (k : ℕ) (values : List (Option ℤ)) → length (told_values_from k values) ≡ count_by is_some values
value_lines_count k [] = refl
value_lines_count k (None ∷ values) =
    let more = value_lines_count (k + 1) values in
    let step = sum_by-cons (λ (o : Option ℤ). cond (is_some o) 1 0) None values in
    omega (arith, more, step)
value_lines_count k (Some v ∷ values) =
    let more = value_lines_count (k + 1) values in
    let step = sum_by-cons (λ (o : Option ℤ). cond (is_some o) 1 0) (Some v) values in
    omega (arith, more, step)

few_lines : (o : Option ℤ) (values : List (Option ℤ)) (count : ℕ) → count ≤ count_by is_some values → cond (is_some o) count 0 ≤ count_by is_some values
few_lines None values count few = omega arith
few_lines (Some v) values count few = few

-- no port's line comes after those of the values
pub lines_within : (values : List (Option ℤ)) (p : ℕ) → lines_to values p ≤ length (told_values_from 0 values)
lines_within values p =
    let all = value_lines_count 0 values in
    let few = few_lines (value values p) values (count_by is_some (take (p + 1) values)) (sum_by-take-le (λ (o : Option ℤ). cond (is_some o) 1 0) values (p + 1)) in
    omega (arith, all, few)

pub value_within : (values : List (Option ℤ)) (p : ℕ) (v : ℤ) → value values p ≡ Some v → p < length values
value_within values p v some = elim (cases_lt p (length values)) [ inl low ↦ low | inr past ↦ absurd (none_some v (sym (get_or_past values p None past) ∙ some)) ]

-- a port with a value has a line
pub lines_above : (values : List (Option ℤ)) (p : ℕ) (v : ℤ) → value values p ≡ Some v → 0 < lines_to values p
lines_above values p v some =
    let within = value_within values p v some in
    let step = count_by_more_yes is_some values p None within (ap is_some some) in
    omega (arith, lines_some values p v some, step)

none_from : (o : Option ℤ) → ((v : ℤ) → o ≡ Some v → ⊥) → o ≡ None
none_from None no_value = refl
none_from (Some v) no_value = absurd (no_value v refl)

pub lines_zero : (values : List (Option ℤ)) (p : ℕ) → lines_to values p ≡ 0 → value values p ≡ None
lines_zero values p zero_lines = none_from (value values p) (λ v some. let above = lines_above values p v some in omega (arith, above, zero_lines))

-- ---- the lines of values, one after another

-- the line at a place tells a port's value, and comes after those of the ports before it
pub record Tells (k : ℕ) (values : List (Option ℤ)) (line p : ℕ) (v : ℤ) : Type 0 where
  pub place : ℕ
  pub port : p ≡ k + place
  pub is : slice_get values place ≡ Some (Some v)
  pub count : count_by is_some (take (suc place) values) ≡ line + 1

tells_from : (k : ℕ) (values : List (Option ℤ)) (line p : ℕ) (v : ℤ) → slice_get (told_values_from k values) line ≡ Some (Value p v) → Tells k values line p v
tells_from k [] line p v is = absurd (none_some _ is)
tells_from k (None ∷ values) line p v is =
    let more = tells_from (k + 1) values line p v is in
    let at = more.port in
    let count = more.count in
    let step = sum_by-cons (λ (o : Option ℤ). cond (is_some o) 1 0) None (take (suc more.place) values) in
    record { place = suc more.place; port = omega (arith, at); is = more.is; count = omega (arith, step, count) }
tells_from k (Some w ∷ values) zero p v is =
    let line : Value k w ≡ Value p v = unsome _ _ is in
    let port : k ≡ p = cc line in
    let same : w ≡ v = cc line in
    record { place = 0; port = omega (arith, port); is = ap (λ (x : ℤ). Some (Some x)) same; count = refl }
tells_from k (Some w ∷ values) (suc line) p v is =
    let more = tells_from (k + 1) values line p v is in
    let at = more.port in
    let count = more.count in
    let step = sum_by-cons (λ (o : Option ℤ). cond (is_some o) 1 0) (Some w) (take (suc more.place) values) in
    record { place = suc more.place; port = omega (arith, at); is = more.is; count = omega (arith, step, count) }

-- a port that has a value has its line there
pub record Told (k : ℕ) (values : List (Option ℤ)) (place : ℕ) (v : ℤ) : Type 0 where
  pub line : ℕ
  pub is : slice_get (told_values_from k values) line ≡ Some (Value (k + place) v)
  pub count : count_by is_some (take (suc place) values) ≡ line + 1

told_from : (k : ℕ) (values : List (Option ℤ)) (place : ℕ) (v : ℤ) → slice_get values place ≡ Some (Some v) → Told k values place v
told_from k [] place v is = absurd (none_some _ is)
told_from k (None ∷ values) zero v is = absurd (none_some v (unsome _ _ is))
told_from k (Some w ∷ values) zero v is =
    let same : w ≡ v = unsome w v (unsome _ _ is) in
    let port : k ≡ k + 0 = omega arith in
    record { line = 0; is = ap (λ (x : ℤ). Some (Value k x)) same ∙ ap (λ (q : ℕ). Some (Value q v)) port; count = refl }
told_from k (None ∷ values) (suc place) v is =
    let more = told_from (k + 1) values place v is in
    let port : k + 1 + place ≡ k + suc place = omega arith in
    let count = more.count in
    let step = sum_by-cons (λ (o : Option ℤ). cond (is_some o) 1 0) None (take (suc place) values) in
    record { line = more.line; is = more.is ∙ ap (λ (q : ℕ). Some (Value q v)) port; count = omega (arith, step, count) }
told_from k (Some w ∷ values) (suc place) v is =
    let more = told_from (k + 1) values place v is in
    let port : k + 1 + place ≡ k + suc place = omega arith in
    let count = more.count in
    let step = sum_by-cons (λ (o : Option ℤ). cond (is_some o) 1 0) (Some w) (take (suc place) values) in
    record { line = suc more.line; is = more.is ∙ ap (λ (q : ℕ). Some (Value q v)) port; count = omega (arith, step, count) }

-- what a line tells is the port's value, and the line is that port's
pub line_tells : (values : List (Option ℤ)) (line p : ℕ) (v : ℤ) → slice_get (told_values_from 0 values) line ≡ Some (Value p v) → (value values p ≡ Some v) × (lines_to values p ≡ line + 1)
line_tells values line p v is =
    let t = tells_from 0 values line p v is in
    let port : t.place ≡ p = omega (arith, t.port) in
    let has : value values p ≡ Some v = ap (λ (q : ℕ). value values q) (sym port) ∙ get_or_from_slice_get values t.place (Some v) None t.is in
    let next : p + 1 ≡ suc t.place = omega (arith, port) in
    let own : count_by is_some (take (p + 1) values) ≡ line + 1 = ap (λ (q : ℕ). count_by is_some (take q values)) next ∙ t.count in
    (has, lines_some values p v has ∙ own)

-- the place of the line of a port that has a value
pub record HasLine (told : List TraceLine) (values : List (Option ℤ)) (p : ℕ) (v : ℤ) : Type 0 where
  pub line : ℕ
  pub is : slice_get told line ≡ Some (Value p v)
  pub after : lines_to values p ≡ line + 1

pub has_line : (told : List TraceLine) (values : List (Option ℤ)) (p : ℕ) (v : ℤ) → told ≡ told_values_from 0 values → value values p ≡ Some v → HasLine told values p v
has_line told values p v same some =
    let within : p < length values = value_within values p v some in
    let t = told_from 0 values p v (slice_get-get_or values p None within ∙ ap Some some) in
    let port : 0 + p ≡ p = omega arith in
    let next : p + 1 ≡ suc p = omega arith in
    record {
      line = t.line;
      is = ap (λ (xs : List TraceLine). slice_get xs t.line) same ∙ (t.is ∙ ap (λ (q : ℕ). Some (Value q v)) port);
      after = lines_some values p v some ∙ (ap (λ (q : ℕ). count_by is_some (take q values)) next ∙ t.count);
    }

-- ---- the first input that has a value and differs

-- none of the first lines is that of an input that differs
abbrev pub AllAgree : System → List (Option ℤ) → List TraceLine → ℕ → Type 0
AllAgree system values told k = (j p : ℕ) (v : ℤ) → j < k → slice_get told j ≡ Some (Value p v) → DiffersFromSource system values p → ⊥

-- with the line at k
pub agree_more : (system : System) (values : List (Option ℤ)) (told : List TraceLine) (k : ℕ) (line : TraceLine) → AllAgree system values told k → slice_get told k ≡ Some line →
    ((p : ℕ) (v : ℤ) → line ≡ Value p v → DiffersFromSource system values p → ⊥) → AllAgree system values told (k + 1)
agree_more system values told k line before at own j p v low =
    let P : ℕ → Type 0 = λ i. (q : ℕ) (w : ℤ) → slice_get told i ≡ Some (Value q w) → DiffersFromSource system values q → ⊥ in
    below_more P k (λ i below q w is. before i q w below is) (λ q w is. own q w (unsome line (Value q w) (sym at ∙ is))) j low p v

pub other_line : (system : System) (values : List (Option ℤ)) (told : List TraceLine) (k p : ℕ) (v : ℤ) → told ≡ told_values_from 0 values → slice_get told k ≡ Some (Value p v) →
    DiffersFromSource system values p → IsOtherValue system values (k + 1)
other_line system values told k p v same at differs =
    let own = (line_tells values k p v (ap (λ (xs : List TraceLine). slice_get xs k) (sym same) ∙ at)).1 in
    record { input = p; differs = differs; line = sym own; after = omega arith }

line_of_some : (system : System) (values : List (Option ℤ)) (told : List TraceLine) (k p : ℕ) (o : Option ℤ) → told ≡ told_values_from 0 values → AllAgree system values told k → DiffersFromSource system values p →
    value values p ≡ o → 0 < lines_to values p → k + 1 ≤ lines_to values p
line_of_some system values told k p None same agree differs is at = let none = lines_none values p is in absurd (omega (arith, none, at))
line_of_some system values told k p (Some v) same agree differs is at =
    let own = has_line told values p v same is in
    let after = own.after in
    elim (cases_lt own.line k) [ inl before ↦ absurd (agree own.line p v before own.is differs) | inr later ↦ omega (arith, later, after) ]

pub first_line : (system : System) (values : List (Option ℤ)) (told : List TraceLine) (k : ℕ) → told ≡ told_values_from 0 values → AllAgree system values told k →
    (p : ℕ) → DiffersFromSource system values p → 0 < lines_to values p → k + 1 ≤ lines_to values p
first_line system values told k same agree p differs at = line_of_some system values told k p (value values p) same agree differs refl at

pub no_line : (system : System) (values : List (Option ℤ)) (told : List TraceLine) (k : ℕ) → told ≡ told_values_from 0 values → AllAgree system values told k → length told ≤ k →
    (p : ℕ) → DiffersFromSource system values p → lines_to values p ≡ 0
no_line system values told k same agree past p differs =
    elim (cases_lt 0 (lines_to values p)) [
      | inl above ↦
          let far = first_line system values told k same agree p differs above in
          let near = lines_within values p in
          let size = ap length same in
          absurd (omega (arith, far, near, size, past))
      | inr below ↦ omega (arith, below)
    ]
