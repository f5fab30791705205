-- One line more.
use Rattle.std.proofs.Common.{◌≡◌, refl, sym, ap, ◌∙◌, ℕ, ◌+◌, ◌^◌, nat_le, Bool, true, false, cond, ◌&&◌, List, [], ◌∷◌, ◌++◌, map, Option, Some, None}
use Rattle.std.specs.Option.{option_and_then}
use Rattle.std.proofs.lemmas.List.{append_assoc, map-append}
use Rattle.value_types.specs.declared.values.PortType.{PortType}
use Rattle.trace_reading.specs.declared.trace.TraceLine.{TraceLine}
use Rattle.trace_reading.specs.declared.trace.TraceLine.TheVariants.{At, Value}
use Rattle.trace_reading.specs.declared.item.Item.{Item}
use Rattle.trace_reading.specs.declared.item.Item.TheVariants.{Row, End}
use Rattle.trace_reading.specs.declared.item.Place.{Place}
use Rattle.trace_reading.specs.declared.item.Place.TheVariants.{Between, Within, Ended}
use Rattle.system_model.specs.Text.{lines_text}
use Rattle.trace_reading.specs.Walk.{walk, place_after, item_line, items_in, rows_with, is_closed, is_next, is_start}

pub text_push : (lines : List (List ℕ)) (line rest : List ℕ) → lines_text (lines ++ (line ∷ [])) ++ rest ≡ lines_text lines ++ (line ++ (10 ∷ rest))
text_push [] line rest = append_assoc line (10 ∷ []) rest
text_push (l ∷ ls) line rest =
    append_assoc l (10 ∷ lines_text (ls ++ (line ∷ []))) rest
    ∙ ap (λ (xs : List ℕ). l ++ (10 ∷ xs)) (text_push ls line rest)
    ∙ sym (append_assoc l (10 ∷ lines_text ls) (line ++ (10 ∷ rest)))

pub items_push : (items : List Item) (item : Item) (rest : List ℕ) → lines_text (map item_line (items ++ (item ∷ []))) ++ rest ≡ lines_text (map item_line items) ++ (item_line item ++ (10 ∷ rest))
items_push items item rest =
    ap (λ (lines : List (List ℕ)). lines_text lines ++ rest) (map-append item_line items (item ∷ []))
    ∙ text_push (map item_line items) (item_line item) rest

walk_step : (kinds : List PortType) (o : Option Place) (items : List Item) (item : Item) → ((p : Place) → walk kinds p (items ++ (item ∷ [])) ≡ option_and_then (λ (q : Place). place_after kinds q item) (walk kinds p items)) → option_and_then (λ (p : Place). walk kinds p (items ++ (item ∷ []))) o ≡ option_and_then (λ (q : Place). place_after kinds q item) (option_and_then (λ (p : Place). walk kinds p items) o)
walk_step kinds None items item more = refl
walk_step kinds (Some p) items item more = more p

walk_one : (o : Option Place) → option_and_then (λ (p : Place). Some p) o ≡ o
walk_one None = refl
walk_one (Some p) = refl

pub walk_push : (kinds : List PortType) (place : Place) (items : List Item) (item : Item) → walk kinds place (items ++ (item ∷ [])) ≡ option_and_then (λ (q : Place). place_after kinds q item) (walk kinds place items)
walk_push kinds place [] item = walk_one (place_after kinds place item)
walk_push kinds place (i ∷ is) item =
    walk_step kinds (place_after kinds place i) is item (λ p. walk_push kinds p is item)

is_that : (b : Bool) (x q : Place) → cond b (Some x) None ≡ Some q → q ≡ x
is_that true x q e = cc e
is_that false x q e = absurd (cc e)

pushed : (lines : List TraceLine) (line : TraceLine) → map (λ (l : TraceLine). Row l) (lines ++ (line ∷ [])) ≡ map (λ (l : TraceLine). Row l) lines ++ (Row line ∷ [])
pushed lines line = map-append (λ (l : TraceLine). Row l) lines (line ∷ [])

-- one line more among those that were read
pub in_push : (kinds : List PortType) (lines : List TraceLine) (place next : Place) (item : Item) → place_after kinds place item ≡ Some next → items_in (rows_with lines item) next ≡ items_in lines place ++ (item ∷ [])
in_push kinds lines Between next (Row (At t n)) e =
    ap (items_in (lines ++ (At t n ∷ []))) (is_that (is_start t n) (Within 0) next e) ∙ pushed lines (At t n)
in_push kinds lines (Within k) next (Row (At t n)) e =
    ap (items_in (lines ++ (At t n ∷ []))) (is_that (is_closed kinds (Within k) && is_start t n) (Within 0) next e) ∙ pushed lines (At t n)
in_push kinds lines (Ended kind u) next (Row (At t n)) e = absurd (cc e)
in_push kinds lines Between next (Row (Value port value)) e = absurd (cc e)
in_push kinds lines (Within k) next (Row (Value port value)) e =
    ap (items_in (lines ++ (Value port value ∷ []))) (is_that (is_next kinds k port value) (Within (port + 1)) next e) ∙ pushed lines (Value port value)
in_push kinds lines (Ended kind u) next (Row (Value port value)) e = absurd (cc e)
in_push kinds lines Between next (End kind t) e =
    ap (items_in lines) (is_that (nat_le t (2 ^ 62)) (Ended kind t) next e)
in_push kinds lines (Within k) next (End kind t) e =
    ap (items_in lines) (is_that (is_closed kinds (Within k) && nat_le t (2 ^ 62)) (Ended kind t) next e)
in_push kinds lines (Ended kind u) next (End k t) e = absurd (cc e)

pub more_text : (bytes rest line after : List ℕ) (items more : List Item) (item : Item) → bytes ≡ lines_text (map item_line items) ++ rest → rest ≡ line ++ (10 ∷ after) → line ≡ item_line item → more ≡ items ++ (item ∷ []) → bytes ≡ lines_text (map item_line more) ++ after
more_text bytes rest line after items more item parts cut is pushed =
    parts
    ∙ ap (λ (xs : List ℕ). lines_text (map item_line items) ++ xs) (cut ∙ ap (λ (xs : List ℕ). xs ++ (10 ∷ after)) is)
    ∙ sym (items_push items item after)
    ∙ ap (λ (xs : List Item). lines_text (map item_line xs) ++ after) (sym pushed)

pub more_walk : (kinds : List PortType) (items more : List Item) (item : Item) (place next : Place) → walk kinds Between items ≡ Some place → place_after kinds place item ≡ Some next → more ≡ items ++ (item ∷ []) → walk kinds Between more ≡ Some next
more_walk kinds items more item place next good step pushed =
    ap (λ (xs : List Item). walk kinds Between xs) pushed
    ∙ walk_push kinds Between items item
    ∙ ap (λ (o : Option Place). option_and_then (λ (q : Place). place_after kinds q item) o) good
    ∙ step
