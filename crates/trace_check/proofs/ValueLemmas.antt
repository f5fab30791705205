-- The lines of an instant that tell its values, and the values that are put and taken away by them.
use Rattle.std.proofs.Common.{arith, ◌≡◌, refl, sym, ap, ◌∙◌, subst, ℕ, ◌+◌, ◌≤◌, ◌<◌, suc, zero, ℤ, List, [], ◌∷◌, ◌++◌, Option, Some, None, length, take, drop, set, length-set}
use Rattle.std.specs.Prelude.{slice_get}
use Rattle.std.specs.List.{AllByRecursion}
use Rattle.std.proofs.Math.ListN.{replicate}
use Rattle.std.proofs.lemmas.List.{at_drop_all, drop_all}
use Rattle.std.proofs.lemmas.Option.{none-some as none_some}
use Rattle.trace_reading.specs.declared.trace.TraceLine.{TraceLine}
use Rattle.trace_reading.specs.declared.trace.TraceLine.TheVariants.{At, Value}
use Rattle.trace_reading.specs.Form.{told_values_from}
use Rattle.trace_check.specs.Steps.{BeginsNoValue}

-- ---- where they end

abbrev IsValue : TraceLine → Type 0
IsValue (At t n) = ⊥
IsValue (Value p v) = Unit {0}

all_values : (k : ℕ) (values : List (Option ℤ)) → AllByRecursion IsValue (told_values_from k values)
all_values k [] = tt
all_values k (None ∷ values) = all_values (k + 1) values
all_values k (Some v ∷ values) = (tt, all_values (k + 1) values)

-- lines that tell values end where the first line stands that doesn't
cut_here : (told after : List TraceLine) (k : ℕ) → AllByRecursion IsValue told → BeginsNoValue after → ((j t n : ℕ) → j < k → slice_get (told ++ after) j ≡ Some (At t n) → ⊥) →
    BeginsNoValue (drop k (told ++ after)) → (take k (told ++ after) ≡ told) × (drop k (told ++ after) ≡ after)
cut_here [] [] zero all ends before here = (refl, refl)
cut_here [] [] (suc k) all ends before here = (refl, refl)
cut_here [] (At t n ∷ after) zero all ends before here = (refl, refl)
cut_here [] (At t n ∷ after) (suc k) all ends before here = absurd (before 0 t n (omega arith) refl)
cut_here [] (Value p v ∷ after) k all ends before here = absurd ends
cut_here (At t n ∷ told) after k all ends before here = absurd all.0
cut_here (Value p v ∷ told) after zero all ends before here = absurd here
cut_here (Value p v ∷ told) after (suc k) all ends before here =
    let more = cut_here told after k all.1 ends (λ j t n low is. before (suc j) t n (omega (arith, low)) is) here in
    (ap (λ (xs : List TraceLine). Value p v ∷ xs) more.0, more.1)

pub cut_told : (lines : List TraceLine) (values : List (Option ℤ)) (after : List TraceLine) (k : ℕ) → lines ≡ told_values_from 0 values ++ after → BeginsNoValue after →
    ((j t n : ℕ) → j < k → slice_get lines j ≡ Some (At t n) → ⊥) → BeginsNoValue (drop k lines) → (take k lines ≡ told_values_from 0 values) × (drop k lines ≡ after)
cut_told lines values after k parts ends before here =
    let P : List TraceLine → Type 0 = λ xs. ((j t n : ℕ) → j < k → slice_get xs j ≡ Some (At t n) → ⊥) → BeginsNoValue (drop k xs) → (take k xs ≡ told_values_from 0 values) × (drop k xs ≡ after) in
    subst P (sym parts) (cut_here (told_values_from 0 values) after k (all_values 0 values) ends) before here

pub starts_at : (lines : List TraceLine) (k t n : ℕ) → slice_get lines k ≡ Some (At t n) → BeginsNoValue (drop k lines)
starts_at [] k t n is = absurd (none_some _ is)
starts_at (At u m ∷ lines) zero t n is = tt
starts_at (Value p v ∷ lines) zero t n is = absurd (cc is)
starts_at (x ∷ lines) (suc k) t n is = starts_at lines k t n is

pub starts_past : (lines : List TraceLine) (k : ℕ) → length lines ≤ k → BeginsNoValue (drop k lines)
starts_past lines k past = subst BeginsNoValue (sym (drop_all k lines past)) tt

-- ---- what they put

-- for each value that is told, what is made of it
abbrev pub put_line : (ℤ → Option ℤ) → TraceLine → List (Option ℤ) → List (Option ℤ)
put_line f (At t n) values = values
put_line f (Value p v) values = set values p (f v)

abbrev pub put_lines : (ℤ → Option ℤ) → List TraceLine → List (Option ℤ) → List (Option ℤ)
put_lines f [] values = values
put_lines f (line ∷ lines) values = put_lines f lines (put_line f line values)

put_after : (f : ℤ → Option ℤ) (x : Option ℤ) (k : ℕ) (all values : List (Option ℤ)) → put_lines f (told_values_from (suc k) all) (x ∷ values) ≡ x ∷ put_lines f (told_values_from k all) values
put_after f x k [] values = refl
put_after f x k (None ∷ all) values =
    let next : suc k + 1 ≡ suc (k + 1) = omega arith in
    ap (λ (n : ℕ). put_lines f (told_values_from n all) (x ∷ values)) next ∙ put_after f x (k + 1) all values
put_after f x k (Some v ∷ all) values =
    let next : suc k + 1 ≡ suc (k + 1) = omega arith in
    ap (λ (n : ℕ). put_lines f (told_values_from n all) (x ∷ set values k (f v))) next ∙ put_after f x (k + 1) all (set values k (f v))

pub put_all : (all : List (Option ℤ)) → put_lines Some (told_values_from 0 all) (replicate (length all) None) ≡ all
put_all [] = refl
put_all (None ∷ all) = put_after Some None 0 all (replicate (length all) None) ∙ ap (λ (xs : List (Option ℤ)). None ∷ xs) (put_all all)
put_all (Some v ∷ all) = put_after Some (Some v) 0 all (replicate (length all) None) ∙ ap (λ (xs : List (Option ℤ)). Some v ∷ xs) (put_all all)

abbrev pub no_value : ℤ → Option ℤ
no_value v = None

pub clear_all : (all : List (Option ℤ)) → put_lines no_value (told_values_from 0 all) all ≡ replicate (length all) None
clear_all [] = refl
clear_all (None ∷ all) = put_after no_value None 0 all all ∙ ap (λ (xs : List (Option ℤ)). None ∷ xs) (clear_all all)
clear_all (Some v ∷ all) = put_after no_value None 0 all all ∙ ap (λ (xs : List (Option ℤ)). None ∷ xs) (clear_all all)

pub put_size : (f : ℤ → Option ℤ) (lines : List TraceLine) (values : List (Option ℤ)) → length (put_lines f lines values) ≡ length values
put_size f [] values = refl
put_size f (At t n ∷ lines) values = put_size f lines values
put_size f (Value p v ∷ lines) values = put_size f lines (set values p (f v)) ∙ length-set values p (f v)

-- once the last line is taken
pub put_end : (f : ℤ → Option ℤ) (told : List TraceLine) (i : ℕ) (values old : List (Option ℤ)) → put_lines f (drop i told) values ≡ put_lines f told old → length told ≤ i → values ≡ put_lines f told old
put_end f told i values old so_far past = sym (at_drop_all (λ (xs : List TraceLine). put_lines f xs values) told i past) ∙ so_far
