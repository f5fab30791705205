-- The values of an instant as they come, and the lines that tell them.
use Rattle.std.proofs.Common.{arith, ◌≡◌, refl, sym, ap, subst, ◌∙◌, ℕ, ◌+◌, ◌-◌, ◌<◌, ◌≤◌, ◌^◌, zero, suc, ℤ, List, [], ◌∷◌, ◌++◌, length, set, drop, Option, Some, None, replicate, slice_get, Bool, true, false, cond, ◌&&◌, ◌==◌, nat_le}
use Rattle.std.specs.Option.{option_map_or}
use Rattle.std.proofs.lemmas.Bool.{leb-true}
use Rattle.std.proofs.lemmas.List.{append_assoc, append-nil, length-append, length-map, length-replicate, map-append, set-append_right, set_split, take-replicate, drop-replicate}
use Rattle.std.proofs.lemmas.Option.{slice_get_within}
use Rattle.value_types.specs.declared.values.PortType.{PortType}
use Rattle.value_types.specs.Values.{is_fitting}
use Rattle.trace_reading.specs.declared.trace.Header.{Header}
use Rattle.trace_reading.specs.declared.trace.TracePort.{TracePort}
use Rattle.trace_reading.specs.declared.trace.TraceLine.{TraceLine}
use Rattle.trace_reading.specs.declared.trace.TraceLine.TheVariants.{At, Value}
use Rattle.trace_reading.specs.declared.item.Item.{Item}
use Rattle.trace_reading.specs.declared.item.Item.TheVariants.{Row}
use Rattle.trace_reading.specs.declared.item.Place.{Place}
use Rattle.trace_reading.specs.declared.item.Place.TheVariants.{Between, Within, Ended}
use Rattle.system_model.specs.Text.{Instant}
use Rattle.trace_reading.specs.Form.{instant_lines, kinds_of, told_values_from}
use Rattle.trace_reading.specs.Walk.{place_after, is_closed, is_next, is_start, fits_at, clocks_before}
use Rattle.trace_stream.specs.declared.steps.Ahead.{Ahead}
use Rattle.trace_stream.specs.declared.steps.Ahead.TheVariants.{Begin, Finish}
use Rattle.trace_stream.specs.Reading.{item_ahead, place_ahead, HasRead, IsWithin}
use Rattle.trace_stream.specs.Streams.{rows}

-- ---- lines of values

values_append : (k : ℕ) (xs ys : List (Option ℤ)) → told_values_from k (xs ++ ys) ≡ told_values_from k xs ++ told_values_from (k + length xs) ys
values_append k [] ys = let same : k ≡ k + 0 = omega arith in ap (λ (n : ℕ). told_values_from n ys) same
values_append k (None ∷ xs) ys =
    let up : (k + 1) + length xs ≡ k + suc (length xs) = omega arith in
    values_append (k + 1) xs ys ∙ ap (λ (n : ℕ). told_values_from (k + 1) xs ++ told_values_from n ys) up
values_append k (Some v ∷ xs) ys =
    let up : (k + 1) + length xs ≡ k + suc (length xs) = omega arith in
    ap (λ (ls : List TraceLine). Value k v ∷ ls) (values_append (k + 1) xs ys ∙ ap (λ (n : ℕ). told_values_from (k + 1) xs ++ told_values_from n ys) up)

none_told : (k m : ℕ) (ys : List (Option ℤ)) → told_values_from k (replicate m None ++ ys) ≡ told_values_from (k + m) ys
none_told k zero ys = let same : k ≡ k + 0 = omega arith in ap (λ (n : ℕ). told_values_from n ys) same
none_told k (suc m) ys =
    let up : (k + 1) + m ≡ k + suc m = omega arith in
    none_told (k + 1) m ys ∙ ap (λ (n : ℕ). told_values_from n ys) up

-- ports without a value after the others have no lines
pub values_end : (prefix : List (Option ℤ)) (empty : ℕ) → told_values_from 0 (prefix ++ replicate empty None) ≡ told_values_from 0 prefix
values_end prefix empty =
    values_append 0 prefix (replicate empty None)
    ∙ ap (λ (ls : List TraceLine). told_values_from 0 prefix ++ ls) (
    ap (λ (vs : List (Option ℤ)). told_values_from (0 + length prefix) vs) (sym (append-nil (replicate empty None)))
    ∙ none_told (0 + length prefix) empty [])
    ∙ append-nil (told_values_from 0 prefix)

-- one port more that has a value
values_more : (prefix : List (Option ℤ)) (gap port : ℕ) (v : ℤ) → length prefix + gap ≡ port → told_values_from 0 (prefix ++ (replicate gap None ++ (Some v ∷ []))) ≡ told_values_from 0 prefix ++ (Value port v ∷ [])
values_more prefix gap port v at =
    let there : (0 + length prefix) + gap ≡ port = omega (arith, at) in
    values_append 0 prefix (replicate gap None ++ (Some v ∷ []))
    ∙ ap (λ (ls : List TraceLine). told_values_from 0 prefix ++ ls) (none_told (0 + length prefix) gap (Some v ∷ []) ∙ ap (λ (n : ℕ). Value n v ∷ []) there)

-- ---- values

put_value : (prefix : List (Option ℤ)) (empty gap port : ℕ) (v : ℤ) → length prefix + gap ≡ port → gap < empty → set (prefix ++ replicate empty None) port (Some v) ≡ (prefix ++ (replicate gap None ++ (Some v ∷ []))) ++ replicate (empty - suc gap) None
put_value prefix empty gap port v at low =
    let there : port - length prefix ≡ gap = omega (arith, at) in
    let within : gap < length (replicate {A = Option ℤ} empty None) = omega (arith, low, length-replicate {A = Option ℤ} empty None) in
    set-append_right prefix (replicate empty None) (length prefix) port (Some v) refl (omega (arith, at))
    ∙ ap (λ (n : ℕ). prefix ++ set (replicate empty None) n (Some v)) there
    ∙ ap (λ (vs : List (Option ℤ)). prefix ++ vs) (
    set_split (replicate empty None) gap (Some v) within
    ∙ ap (λ (vs : List (Option ℤ)). vs ++ (Some v ∷ drop (suc gap) (replicate empty None))) (take-replicate gap empty None (omega (arith, low)))
    ∙ ap (λ (vs : List (Option ℤ)). replicate gap None ++ (Some v ∷ vs)) (drop-replicate (suc gap) empty None)
    ∙ sym (append_assoc (replicate gap None) (Some v ∷ []) (replicate (empty - suc gap) None)))
    ∙ sym (append_assoc prefix (replicate gap None ++ (Some v ∷ [])) (replicate (empty - suc gap) None))

-- ---- where a line may stand

by_test : (test : Bool) (p q : Place) → cond test (Some p) None ≡ Some q → (test ≡ true) × (q ≡ p)
by_test true p q e = (refl, cc e)
by_test false p q e = absurd (cc e)

both_of : (a b : Bool) → (a && b) ≡ true → (a ≡ true) × (b ≡ true)
both_of true b e = (refl, e)
both_of false b e = absurd (cc e)

port_within : (kinds : List PortType) (port : ℕ) (v : ℤ) (o : Option PortType) → slice_get kinds port ≡ o → option_map_or (λ (kind : PortType). is_fitting kind v) o false ≡ true → port < length kinds
port_within kinds port v None at fits = absurd (cc fits)
port_within kinds port v (Some kind) at fits = slice_get_within kinds port kind at

pub record IsStep (kinds : List PortType) (next port : ℕ) (place : Place) : Type 0 where
  pub order : next ≤ port
  pub within : port < length kinds
  pub at : place ≡ Within (port + 1)

pub value_step : (kinds : List PortType) (next port : ℕ) (v : ℤ) (q : Place) → place_after kinds (Within next) (Row (Value port v)) ≡ Some q → IsStep kinds next port q
value_step kinds next port v q e =
    let step = by_test (is_next kinds next port v) (Within (port + 1)) q e in
    let first = both_of (nat_le next port) (fits_at kinds port v && clocks_before kinds next == clocks_before kinds port) step.0 in
    let second = both_of (fits_at kinds port v) (clocks_before kinds next == clocks_before kinds port) first.1 in
    record { order = leb-true next port first.0; within = port_within kinds port v (slice_get kinds port) refl second.0; at = step.1 }

pub no_value_first : (kinds : List PortType) (port : ℕ) (v : ℤ) (q : Place) → place_after kinds Between (Row (Value port v)) ≡ Some q → ⊥
no_value_first kinds port v q e = cc e

-- after the line ahead
pub ahead_place : (kinds : List PortType) (place : Place) (ahead : Ahead) (q : Place) → place_after kinds place (item_ahead ahead) ≡ Some q → q ≡ place_ahead ahead
ahead_place kinds Between (Begin t n) q e = (by_test (is_closed kinds Between && is_start t n) (Within 0) q e).1
ahead_place kinds (Within k) (Begin t n) q e = (by_test (is_closed kinds (Within k) && is_start t n) (Within 0) q e).1
ahead_place kinds (Ended kind u) (Begin t n) q e = absurd (cc e)
ahead_place kinds Between (Finish k t) q e = (by_test (is_closed kinds Between && nat_le t (2 ^ 62)) (Ended k t) q e).1
ahead_place kinds (Within p) (Finish k t) q e = (by_test (is_closed kinds (Within p) && nat_le t (2 ^ 62)) (Ended k t) q e).1
ahead_place kinds (Ended kind u) (Finish k t) q e = absurd (cc e)

-- ---- within an instant

rows_more : (before : List Item) (lines : List TraceLine) (line : TraceLine) → (before ++ rows lines) ++ (Row line ∷ []) ≡ before ++ rows (lines ++ (line ∷ []))
rows_more before lines line =
    append_assoc before (rows lines) (Row line ∷ [])
    ∙ ap (λ (items : List Item). before ++ items) (sym (map-append (λ (l : TraceLine). Row l) lines (line ∷ [])))

pub within_start : (bytes : List ℕ) (header : Header) (ports : List TracePort) (before : List Item) (values : List (Option ℤ)) (empty : ℕ) (place : Place) (left : Option (List ℕ)) (number : ℕ) → HasRead bytes header ports before place left number → place ≡ Within 0 → values ≡ replicate empty None → IsWithin bytes header ports before values place left number
within_start bytes header ports before values empty place left number read at none =
    let P : List Item → Type 0 = λ items. HasRead bytes header ports items place left number in
    record { prefix = []; empty = empty; values_are = none; at = at; read = subst P (sym (append-nil before)) read }

pub within_more : (bytes : List ℕ) (header : Header) (ports : List TracePort) (before : List Item) (values more : List (Option ℤ)) (port : ℕ) (v : ℤ) (place next : Place) (old new : Option (List ℕ)) (number number2 : ℕ) → IsWithin bytes header ports before values place old number → length values ≡ length ports → place_after (kinds_of ports) place (Row (Value port v)) ≡ Some next → ((items : List Item) → HasRead bytes header ports items place old number → HasRead bytes header ports (items ++ (Row (Value port v) ∷ [])) next new number2) → more ≡ set values port (Some v) → IsWithin bytes header ports before more next new number2
within_more bytes header ports before values more port v place next old new number number2 within size step reads put =
    let kinds = kinds_of ports in
    let here : place_after kinds (Within (length within.prefix)) (Row (Value port v)) ≡ Some next = ap (λ (p : Place). place_after kinds p (Row (Value port v))) (sym within.at) ∙ step in
    let goes = value_step kinds (length within.prefix) port v next here in
    let gap : ℕ = port - length within.prefix in
    let at : length within.prefix + gap ≡ port = omega (arith, goes.order) in
    let sizes : length values ≡ length within.prefix + within.empty = ap (λ (vs : List (Option ℤ)). length vs) within.values_are ∙ length-append within.prefix (replicate within.empty None) ∙ ap (λ (n : ℕ). length within.prefix + n) (length-replicate {A = Option ℤ} within.empty None) in
    let low : gap < within.empty = omega (arith, at, sizes, size, goes.within, length-map ports (λ (p : TracePort). p.kind)) in
    let prefix = within.prefix ++ (replicate gap None ++ (Some v ∷ [])) in
    let tail : length (replicate {A = Option ℤ} gap None ++ (Some v ∷ [])) ≡ gap + 1 = omega (arith, length-append (replicate {A = Option ℤ} gap None) (Some v ∷ []), length-replicate {A = Option ℤ} gap None) in
    let count : port + 1 ≡ length prefix = omega (arith, at, tail, length-append within.prefix (replicate gap None ++ (Some v ∷ []))) in
    let P : List Item → Type 0 = λ items. HasRead bytes header ports items next new number2 in
    let lines : told_values_from 0 within.prefix ++ (Value port v ∷ []) ≡ told_values_from 0 prefix = sym (values_more within.prefix gap port v at) in
    record {
      prefix = prefix;
      empty = within.empty - suc gap;
      values_are = put ∙ ap (λ (vs : List (Option ℤ)). set vs port (Some v)) within.values_are ∙ put_value within.prefix within.empty gap port v at low;
      at = goes.at ∙ ap (λ (k : ℕ). Within k) count;
      read = subst P (rows_more before (told_values_from 0 within.prefix) (Value port v) ∙ ap (λ (ls : List TraceLine). before ++ rows ls) lines) (reads (before ++ rows (told_values_from 0 within.prefix)) within.read);
    }

-- ---- after an instant

instant_told : (before : List Item) (i : Instant) (prefix : List (Option ℤ)) (empty : ℕ) → i.values ≡ prefix ++ replicate empty None → (before ++ (Row (At i.t i.n) ∷ [])) ++ rows (told_values_from 0 prefix) ≡ before ++ rows (instant_lines i)
instant_told before i prefix empty is =
    append_assoc before (Row (At i.t i.n) ∷ []) (rows (told_values_from 0 prefix))
    ∙ ap (λ (ls : List TraceLine). before ++ (Row (At i.t i.n) ∷ rows ls)) (sym (ap (λ (vs : List (Option ℤ)). told_values_from 0 vs) is ∙ values_end prefix empty))

-- the instant's lines were read, and the line ahead
pub instant_read : (bytes : List ℕ) (header : Header) (ports : List TracePort) (before : List Item) (i : Instant) (place next : Place) (ahead : Ahead) (old new : Option (List ℕ)) (number number2 : ℕ) → IsWithin bytes header ports (before ++ (Row (At i.t i.n) ∷ [])) i.values place old number → ((items : List Item) → HasRead bytes header ports items place old number → HasRead bytes header ports (items ++ (item_ahead ahead ∷ [])) next new number2) → place_after (kinds_of ports) place (item_ahead ahead) ≡ Some next → HasRead bytes header ports ((before ++ rows (instant_lines i)) ++ (item_ahead ahead ∷ [])) (place_ahead ahead) new number2
instant_read bytes header ports before i place next ahead old new number number2 within reads step =
    let P : List Item → Type 0 = λ items. HasRead bytes header ports (items ++ (item_ahead ahead ∷ [])) (place_ahead ahead) new number2 in
    let Q : Place → Type 0 = λ p. HasRead bytes header ports (((before ++ (Row (At i.t i.n) ∷ [])) ++ rows (told_values_from 0 within.prefix)) ++ (item_ahead ahead ∷ [])) p new number2 in
    subst P (instant_told before i within.prefix within.empty within.values_are)
    (subst Q (ahead_place (kinds_of ports) place ahead next step) (reads ((before ++ (Row (At i.t i.n) ∷ [])) ++ rows (told_values_from 0 within.prefix)) within.read))
