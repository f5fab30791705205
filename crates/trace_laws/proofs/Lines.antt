-- The lines of a trace are those of one list of instants.
use Rattle.std.proofs.Common.{◌≡◌, ℕ, ◌+◌, ◌<◌, ℤ, List, [], ◌∷◌, ◌++◌, length, refl, sym, ap, ◌∙◌, subst, arith}
use Rattle.std.specs.Prelude.{Option, Some, None}
use Rattle.std.specs.List.{AllByRecursion, flat_map}
use Rattle.std.proofs.lemmas.Slice.Zip.{AllZip-long}
use Rattle.value_types.specs.declared.values.PortType.{PortType}
use Rattle.system_model.specs.Text.{Instant}
use Rattle.trace_reading.specs.declared.trace.TraceLine.{TraceLine}
use Rattle.trace_reading.specs.declared.trace.TraceLine.TheVariants.{At, Value}
use Rattle.trace_reading.specs.Form.{IsInstant, MayHave, instant_lines, told_values_from}
use Rattle.trace_reading.proofs.CallerLemmas.{heads, tails}
use Rattle.trace_check.proofs.CallerLemmas.{instant_same}

-- the lines begin with none of a value
abbrev BeginNone : List TraceLine → Type 0
BeginNone [] = Unit {0}
BeginNone (At t n ∷ lines) = Unit {0}
BeginNone (Value p v ∷ lines) = ⊥

instants_begin : (is : List Instant) → BeginNone (flat_map instant_lines is)
instants_begin [] = tt
instants_begin (i ∷ is) = tt

-- the values of later ports have no line of an earlier one
none_earlier : (k j : ℕ) (v : ℤ) (values : List (Option ℤ)) (later rest : List TraceLine) → BeginNone later → j < k → told_values_from k values ++ later ≡ Value j v ∷ rest → ⊥
none_earlier k j v [] later rest begin early e = subst BeginNone e begin
none_earlier k j v (None ∷ values) later rest begin early e = none_earlier (k + 1) j v values later rest begin (omega (arith, early)) e
none_earlier k j v (Some w ∷ values) later rest begin early e =
    let line : Value k w ≡ Value j v = heads (Value k w) (Value j v) (told_values_from (k + 1) values ++ later) rest e in
    let same : k ≡ j = cc line in
    omega (arith, same, early)

record IsSame (values others : List (Option ℤ)) (later after : List TraceLine) : Type 0 where
  pub values_are : values ≡ others
  pub after_is : later ≡ after

with_first : (o : Option ℤ) (values others : List (Option ℤ)) (later after : List TraceLine) → IsSame values others later after → IsSame (o ∷ values) (o ∷ others) later after
with_first o values others later after same = record { values_are = ap (λ (xs : List (Option ℤ)). o ∷ xs) same.values_are; after_is = same.after_is }

same_values : (k : ℕ) (values others : List (Option ℤ)) (later after : List TraceLine) → length values ≡ length others → BeginNone later → BeginNone after →
    told_values_from k values ++ later ≡ told_values_from k others ++ after → IsSame values others later after
same_values k [] [] later after size begin end e = record { values_are = refl; after_is = e }
same_values k [] (o ∷ others) later after size begin end e = absurd (omega (arith, size))
same_values k (o ∷ values) [] later after size begin end e = absurd (omega (arith, size))
same_values k (None ∷ values) (None ∷ others) later after size begin end e =
    with_first None values others later after (same_values (k + 1) values others later after (omega (arith, size)) begin end e)
same_values k (None ∷ values) (Some w ∷ others) later after size begin end e =
    absurd (none_earlier (k + 1) k w values later (told_values_from (k + 1) others ++ after) begin (omega arith) e)
same_values k (Some v ∷ values) (None ∷ others) later after size begin end e =
    absurd (none_earlier (k + 1) k v others after (told_values_from (k + 1) values ++ later) end (omega arith) (sym e))
same_values k (Some v ∷ values) (Some w ∷ others) later after size begin end e =
    let line : Value k v ≡ Value k w = heads (Value k v) (Value k w) (told_values_from (k + 1) values ++ later) (told_values_from (k + 1) others ++ after) e in
    let left : told_values_from (k + 1) values ++ later ≡ told_values_from (k + 1) others ++ after = tails (Value k v) (Value k w) (told_values_from (k + 1) values ++ later) (told_values_from (k + 1) others ++ after) e in
    let value : v ≡ w = cc line in
    let more = with_first (Some v) values others later after (same_values (k + 1) values others later after (omega (arith, size)) begin end left) in
    subst (λ (x : ℤ). IsSame (Some v ∷ values) (Some x ∷ others) later after) value more

pub same_instants : (kinds : List PortType) (is js : List Instant) → AllByRecursion (IsInstant kinds) is → AllByRecursion (IsInstant kinds) js → flat_map instant_lines is ≡ flat_map instant_lines js → is ≡ js
same_instants kinds [] [] all each e = refl
same_instants kinds [] (j ∷ js) all each e = absurd (cc e)
same_instants kinds (i ∷ is) [] all each e = absurd (cc e)
same_instants kinds (i ∷ is) (j ∷ js) all each e =
    let line : At i.t i.n ≡ At j.t j.n = heads (At i.t i.n) (At j.t j.n) (told_values_from 0 i.values ++ flat_map instant_lines is) (told_values_from 0 j.values ++ flat_map instant_lines js) e in
    let left : told_values_from 0 i.values ++ flat_map instant_lines is ≡ told_values_from 0 j.values ++ flat_map instant_lines js =
    tails (At i.t i.n) (At j.t j.n) (told_values_from 0 i.values ++ flat_map instant_lines is) (told_values_from 0 j.values ++ flat_map instant_lines js) e in
    let size : length i.values ≡ length j.values = AllZip-long MayHave kinds i.values all.0.values ∙ sym (AllZip-long MayHave kinds j.values each.0.values) in
    let same = same_values 0 i.values j.values (flat_map instant_lines is) (flat_map instant_lines js) size (instants_begin is) (instants_begin js) left in
    let t : i.t ≡ j.t = cc line in
    let n : i.n ≡ j.n = cc line in
    ap (λ (x : Instant). x ∷ is) (instant_same i j t n same.values_are) ∙ ap (λ (xs : List Instant). j ∷ xs) (same_instants kinds is js all.1 each.1 same.after_is)
