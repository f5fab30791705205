-- A line that no allowed item has ends every text that begins with the lines before it.
use Rattle.std.proofs.Common.{rules, cond, ◌==◌, arith, ◌≡◌, refl, sym, ap, ◌∙◌, ℕ, ◌^◌, ◌<◌, ℤ, pos, negsuc, suc, List, [], ◌∷◌, ◌++◌, map, Option, Some, None, decimal}
use Rattle.std.specs.Fmt.{signed_decimal}
use Rattle.std.specs.Option.{option_and_then}
use Rattle.std.proofs.lemmas.Fmt.{decimal_injective}
use Rattle.value_types.specs.declared.values.PortType.{PortType}
use Rattle.system_model.specs.declared.plan.EndKind.{EndKind}
use Rattle.system_model.specs.declared.plan.EndKind.TheVariants.{Stop, Asked, Limit, Fixed, Range, Fault}
use Rattle.system_model.specs.Text.{kind_text}
use Rattle.trace_reading.specs.declared.trace.TraceLine.TheVariants.{At, Value}
use Rattle.trace_reading.specs.declared.item.Item.{Item}
use Rattle.trace_reading.specs.declared.item.Item.TheVariants.{Row, End}
use Rattle.trace_reading.specs.declared.item.Place.{Place}
use Rattle.trace_reading.specs.Lines.{IsShort, Lacks}
use Rattle.trace_reading.specs.Walk.{walk, place_after, item_line, IsShortItem}
use Rattle.trace_reading.proofs.ListLemmas.{heads, tails, unsome}
use Rattle.trace_reading.proofs.LineLemmas.{lacks_decimal, one_cut, begins_with_digit}

two_numbers : (a b c d : ℕ) → a < 2 ^ 64 → b < 2 ^ 64 → c < 2 ^ 64 → d < 2 ^ 64 → decimal a ++ (32 ∷ decimal b) ≡ decimal c ++ (32 ∷ decimal d) → (a ≡ c) × (b ≡ d)
two_numbers a b c d la lb lc ld e =
    let both = one_cut 32 (decimal a) (decimal c) (decimal b) (decimal d) (lacks_decimal 32 a (omega arith) la) (lacks_decimal 32 c (omega arith) lc) e in
    (decimal_injective a c la lc both.0, decimal_injective b d lb ld both.1)

lead : (ds xs : List ℕ) → Lacks 45 ds → ds ≡ 45 ∷ xs → ⊥
lead [] xs free e = cc e
lead (d ∷ ds) xs free e = free.0 (cc e)

minus_not : (m : ℕ) (xs : List ℕ) → m < 2 ^ 64 → decimal m ≡ 45 ∷ xs → ⊥
minus_not m xs bound e = lead (decimal m) xs (lacks_decimal 45 m (omega arith) bound) e

one_value : (v w : ℤ) → IsShort v → IsShort w → signed_decimal v ≡ signed_decimal w → v ≡ w
one_value (pos m) (pos n) sv sw e = ap (λ (k : ℕ). pos k) (decimal_injective m n sv sw e)
one_value (pos m) (negsuc n) sv sw e = absurd (minus_not m _ sv e)
one_value (negsuc m) (pos n) sv sw e = absurd (minus_not n _ sw (sym e))
one_value (negsuc m) (negsuc n) sv sw e =
    let same : suc m ≡ suc n = decimal_injective (suc m) (suc n) (omega (arith, sv)) (omega (arith, sw)) (tails 45 45 _ _ e) in
    ap (λ (k : ℕ). negsuc k) (omega (arith, same))

abbrev kind_back : List ℕ → EndKind
kind_back [] = Stop
kind_back (c ∷ []) = Stop
kind_back (c ∷ d ∷ rest) = cond (c == 115) Stop (cond (c == 97) Asked (cond (c == 108) Limit (cond (c == 114) Range (cond (d == 105) Fixed Fault))))

kept : (kind : EndKind) → kind_back (kind_text kind) ≡ kind
kept Stop = refl
kept Asked = refl
kept Limit = refl
kept Fixed = refl
kept Range = refl
kept Fault = refl

lacks_kind : (kind : EndKind) → Lacks 32 (kind_text kind)
lacks_kind Stop = search rules
lacks_kind Asked = search rules
lacks_kind Limit = search rules
lacks_kind Fixed = search rules
lacks_kind Range = search rules
lacks_kind Fault = search rules

-- a line has one item
pub one_item : (a b : Item) → IsShortItem a → IsShortItem b → item_line a ≡ item_line b → a ≡ b
one_item (Row (At t n)) (Row (At t2 n2)) sa sb e =
    let same = two_numbers t n t2 n2 sa.0 sa.1 sb.0 sb.1 (tails 32 32 _ _ (tails 116 116 _ _ (tails 97 97 _ _ e))) in
    cc (same.0, same.1)
one_item (Row (At t n)) (Row (Value port value)) sa sb e = absurd (begins_with_digit port 97 _ _ sb.0 (omega arith) (sym e))
one_item (Row (At t n)) (End kind t2) sa sb e = absurd (omega (arith, heads 97 101 _ _ e))
one_item (Row (Value port value)) (Row (At t n)) sa sb e = absurd (begins_with_digit port 97 _ _ sa.0 (omega arith) e)
one_item (Row (Value port value)) (Row (Value port2 value2)) sa sb e =
    let both = one_cut 32 (decimal port) (decimal port2) (signed_decimal value) (signed_decimal value2) (lacks_decimal 32 port (omega arith) sa.0) (lacks_decimal 32 port2 (omega arith) sb.0) e in
    let ports = decimal_injective port port2 sa.0 sb.0 both.0 in
    let values = one_value value value2 sa.1 sb.1 both.1 in
    cc (ports, values)
one_item (Row (Value port value)) (End kind t) sa sb e = absurd (begins_with_digit port 101 _ _ sa.0 (omega arith) e)
one_item (End kind t) (Row (At t2 n2)) sa sb e = absurd (omega (arith, heads 101 97 _ _ e))
one_item (End kind t) (Row (Value port value)) sa sb e = absurd (begins_with_digit port 101 _ _ sb.0 (omega arith) (sym e))
one_item (End kind t) (End kind2 t2) sa sb e =
    let rest = tails 32 32 _ _ (tails 100 100 _ _ (tails 110 110 _ _ (tails 101 101 _ _ e))) in
    let both = one_cut 32 (kind_text kind) (kind_text kind2) (decimal t) (decimal t2) (lacks_kind kind) (lacks_kind kind2) rest in
    let kinds : kind ≡ kind2 = sym (kept kind) ∙ ap kind_back both.0 ∙ kept kind2 in
    let points = decimal_injective t t2 sa sb both.1 in
    cc (kinds, points)

not_both : {A : Type 0} (o : Option A) (x : A) → o ≡ None → o ≡ Some x → ⊥
not_both o x n s = cc (n, s)

pub record Stepped (kinds : List PortType) (o : Option Place) (items : List Item) (end : Place) : Type 0 where
  pub next : Place
  pub step : o ≡ Some next
  pub rest : walk kinds next items ≡ Some end

pub stepped : (kinds : List PortType) (o : Option Place) (items : List Item) (end : Place) → option_and_then (λ (p : Place). walk kinds p items) o ≡ Some end → Stepped kinds o items end
stepped kinds None items end e = absurd (cc e)
stepped kinds (Some p) items end e = record { next = p; step = refl; rest = e }

-- no walk to an end begins with these lines
pub stuck : (kinds : List PortType) (place last end : Place) (before all : List Item) (line : List ℕ) (more : List (List ℕ)) → ((p q : Place) (item : Item) → place_after kinds p item ≡ Some q → IsShortItem item) → walk kinds place before ≡ Some last → ((item : Item) → IsShortItem item → line ≡ item_line item → place_after kinds last item ≡ None) → walk kinds place all ≡ Some end → map item_line all ≡ map item_line before ++ (line ∷ more) → ⊥
stuck kinds place last end [] [] line more short good wrong whole e = cc e
stuck kinds place last end [] (x ∷ xs) line more short good wrong whole e =
    let x_step = stepped kinds (place_after kinds place x) xs end whole in
    let at : place ≡ last = unsome place last good in
    let none = wrong x (short place x_step.next x x_step.step) (sym (heads (item_line x) line (map item_line xs) more e)) in
    not_both (place_after kinds place x) x_step.next (ap (λ (p : Place). place_after kinds p x) at ∙ none) x_step.step
stuck kinds place last end (b ∷ bs) [] line more short good wrong whole e = cc e
stuck kinds place last end (b ∷ bs) (x ∷ xs) line more short good wrong whole e =
    let b_step = stepped kinds (place_after kinds place b) bs last good in
    let x_step = stepped kinds (place_after kinds place x) xs end whole in
    let same : x ≡ b = one_item x b (short place x_step.next x x_step.step) (short place b_step.next b b_step.step) (heads (item_line x) (item_line b) (map item_line xs) (map item_line bs ++ (line ∷ more)) e) in
    let places : x_step.next ≡ b_step.next = unsome x_step.next b_step.next (sym x_step.step ∙ ap (λ (i : Item). place_after kinds place i) same ∙ b_step.step) in
    stuck kinds b_step.next last end bs xs line more short b_step.rest wrong (ap (λ (p : Place). walk kinds p xs) (sym places) ∙ x_step.rest) (tails (item_line x) (item_line b) (map item_line xs) (map item_line bs ++ (line ∷ more)) e)

-- the items of some lines are the same
pub same_items : (ms bs : List Item) → (kinds : List PortType) (place end end2 : Place) → ((p q : Place) (item : Item) → place_after kinds p item ≡ Some q → IsShortItem item) → walk kinds place ms ≡ Some end → walk kinds place bs ≡ Some end2 → map item_line ms ≡ map item_line bs → ms ≡ bs
same_items [] [] kinds place end end2 short wa wb e = refl
same_items [] (b ∷ bs) kinds place end end2 short wa wb e = absurd (cc e)
same_items (a ∷ ms) [] kinds place end end2 short wa wb e = absurd (cc e)
same_items (a ∷ ms) (b ∷ bs) kinds place end end2 short wa wb e =
    let a_step = stepped kinds (place_after kinds place a) ms end wa in
    let b_step = stepped kinds (place_after kinds place b) bs end2 wb in
    let same : a ≡ b = one_item a b (short place a_step.next a a_step.step) (short place b_step.next b b_step.step) (heads (item_line a) (item_line b) (map item_line ms) (map item_line bs) e) in
    let places : b_step.next ≡ a_step.next = unsome b_step.next a_step.next (sym b_step.step ∙ ap (λ (i : Item). place_after kinds place i) (sym same) ∙ a_step.step) in
    let later = same_items ms bs kinds a_step.next end end2 short a_step.rest (ap (λ (p : Place). walk kinds p bs) (sym places) ∙ b_step.rest) (tails (item_line a) (item_line b) (map item_line ms) (map item_line bs) e) in
    cc (same, later)
