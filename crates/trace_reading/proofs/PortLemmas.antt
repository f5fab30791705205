-- A line of a port tells one port, and no other line is one.
use Rattle.std.proofs.Common.{arith, ◌≡◌, refl, sym, ap, ◌∙◌, ℕ, ◌+◌, ◌/◌, ◌%◌, ◌^◌, ◌<◌, ◌≤◌, List, [], ◌∷◌, ◌++◌, decimal, Bool, true, false, cond, ◌==◌, get_or, inl, inr}
use Rattle.std.proofs.lemmas.Bool.{cases_lt, lt-ltb, le-ltb}
use Rattle.sim_base.specs.Escape.{escaped, is_escaped, hex_digit}
use Rattle.value_types.specs.declared.values.PortType.{PortType}
use Rattle.value_types.specs.declared.values.PortType.TheVariants.{Int8, UInt8, Int16, UInt16, Int32, UInt32, Int64, UInt64, Boolean, Enumeration, Clock}
use Rattle.system_model.specs.Text.{type_name}
use Rattle.trace_reading.specs.declared.trace.TracePort.{TracePort}
use Rattle.trace_reading.specs.declared.trace.TraceLine.TheVariants.{At, Value}
use Rattle.trace_reading.specs.declared.item.Item.{Item}
use Rattle.trace_reading.specs.declared.item.Item.TheVariants.{Row, End}
use Rattle.trace_reading.specs.Lines.{line_of_port}
use Rattle.trace_reading.specs.Walk.{item_line, IsShortItem}
use Rattle.trace_reading.proofs.ListLemmas.{heads, tails}
use Rattle.trace_reading.proofs.LineLemmas.{lacks_decimal, one_cut, begins_with_digit}
use Rattle.trace_reading.proofs.TextLemmas.{lacks_escaped, lacks_type_32}

-- ---- names

digit_low : (n : ℕ) → n < 10 → hex_digit n ≡ 48 + n
digit_low n low = rw (lt-ltb n 10 low) refl

digit_letter : (n : ℕ) → 10 ≤ n → hex_digit n ≡ 55 + n
digit_letter n high = rw (le-ltb n 10 high) refl

one_digit : (m n : ℕ) → hex_digit m ≡ hex_digit n → m ≡ n
one_digit m n e =
    elim (cases_lt m 10) [
      | inl low ↦ elim (cases_lt n 10) [ inl less ↦ omega (arith, e, digit_low m low, digit_low n less) | inr more ↦ omega (arith, e, digit_low m low, digit_letter n more) ]
      | inr high ↦ elim (cases_lt n 10) [ inl less ↦ omega (arith, e, digit_letter m high, digit_low n less) | inr more ↦ omega (arith, e, digit_letter m high, digit_letter n more) ]
    ]

abbrev byte_text : Bool → ℕ → List ℕ
byte_text test byte = cond test (37 ∷ hex_digit (byte / 16) ∷ hex_digit (byte % 16) ∷ []) (byte ∷ [])

by_digits : (x y : ℕ) → x / 16 ≡ y / 16 → x % 16 ≡ y % 16 → x ≡ y
by_digits x y high low = omega arith

one_text : (a b : Bool) (x y : ℕ) (xs ys : List ℕ) → is_escaped x ≡ a → is_escaped y ≡ b → byte_text a x ++ xs ≡ byte_text b y ++ ys → (x ≡ y) × (xs ≡ ys)
one_text true true x y xs ys ex ey e =
    let first = tails 37 37 (hex_digit (x / 16) ∷ hex_digit (x % 16) ∷ xs) (hex_digit (y / 16) ∷ hex_digit (y % 16) ∷ ys) e in
    let second = tails (hex_digit (x / 16)) (hex_digit (y / 16)) (hex_digit (x % 16) ∷ xs) (hex_digit (y % 16) ∷ ys) first in
    let high = one_digit (x / 16) (y / 16) (heads (hex_digit (x / 16)) (hex_digit (y / 16)) (hex_digit (x % 16) ∷ xs) (hex_digit (y % 16) ∷ ys) first) in
    let low = one_digit (x % 16) (y % 16) (heads (hex_digit (x % 16)) (hex_digit (y % 16)) xs ys second) in
    (by_digits x y high low, tails (hex_digit (x % 16)) (hex_digit (y % 16)) xs ys second)
one_text true false x y xs ys ex ey e =
    let is : 37 ≡ y = heads 37 y (hex_digit (x / 16) ∷ hex_digit (x % 16) ∷ xs) ys e in
    let wrong : true ≡ false = ap is_escaped is ∙ ey in
    absurd (cc wrong)
one_text false true x y xs ys ex ey e =
    let is : 37 ≡ x = sym (heads x 37 xs (hex_digit (y / 16) ∷ hex_digit (y % 16) ∷ ys) e) in
    let wrong : true ≡ false = ap is_escaped is ∙ ex in
    absurd (cc wrong)
one_text false false x y xs ys ex ey e = (heads x y xs ys e, tails x y xs ys e)

some_text : (a : Bool) (x : ℕ) (xs : List ℕ) → byte_text a x ++ xs ≡ [] → ⊥
some_text true x xs e = cc e
some_text false x xs e = cc e

-- a word is the text of one name
pub one_name : (ms bs : List ℕ) → escaped ms ≡ escaped bs → ms ≡ bs
one_name [] [] e = refl
one_name [] (b ∷ bs) e = absurd (some_text (is_escaped b) b (escaped bs) (sym e))
one_name (a ∷ ms) [] e = absurd (some_text (is_escaped a) a (escaped ms) e)
one_name (a ∷ ms) (b ∷ bs) e =
    let both = one_text (is_escaped a) (is_escaped b) a b (escaped ms) (escaped bs) refl refl e in
    let later = one_name ms bs both.1 in
    let first = both.0 in
    cc (first, later)

-- ---- types

abbrev by_digit : ℕ → PortType → PortType → PortType → PortType → PortType
by_digit c one two four eight = cond (c == 56) one (cond (c == 49) two (cond (c == 51) four eight))

abbrev type_back : List ℕ → PortType
type_back word =
    cond (get_or word 0 0 == 66) Boolean (cond (get_or word 0 0 == 69) Enumeration (cond (get_or word 0 0 == 67) Clock
    (cond (get_or word 0 0 == 73) (by_digit (get_or word 3 0) Int8 Int16 Int32 Int64) (by_digit (get_or word 4 0) UInt8 UInt16 UInt32 UInt64))))

kept : (kind : PortType) → type_back (type_name kind) ≡ kind
kept Int8 = refl
kept UInt8 = refl
kept Int16 = refl
kept UInt16 = refl
kept Int32 = refl
kept UInt32 = refl
kept Int64 = refl
kept UInt64 = refl
kept Boolean = refl
kept Enumeration = refl
kept Clock = refl

one_type : (a b : PortType) → type_name a ≡ type_name b → a ≡ b
one_type a b e = sym (kept a) ∙ ap type_back e ∙ kept b

-- ---- ports

after_word : (xs ys : List ℕ) → 112 ∷ 111 ∷ 114 ∷ 116 ∷ 32 ∷ xs ≡ 112 ∷ 111 ∷ 114 ∷ 116 ∷ 32 ∷ ys → xs ≡ ys
after_word xs ys e = cc e

abbrev port_of : PortType → List ℕ → List ℕ → TracePort
port_of kind component variable = record { kind = kind; component = component; variable = variable }

same_port : (a b : PortType) (c d v w : List ℕ) → a ≡ b → c ≡ d → v ≡ w → port_of a c v ≡ port_of b d w
same_port a b c d v w kinds components variables =
    ap (λ (x : PortType). port_of x c v) kinds ∙ ap (λ (x : List ℕ). port_of b x v) components ∙ ap (λ (x : List ℕ). port_of b d x) variables

-- a line of the k-th port is that of one port
pub one_port : (k : ℕ) (p q : TracePort) → k < 2 ^ 64 → line_of_port k p ≡ line_of_port k q → p ≡ q
one_port k p q low e =
    let rest = after_word (decimal k ++ (32 ∷ (type_name p.kind ++ (32 ∷ (escaped p.component ++ (32 ∷ escaped p.variable)))))) (decimal k ++ (32 ∷ (type_name q.kind ++ (32 ∷ (escaped q.component ++ (32 ∷ escaped q.variable)))))) e in
    let digits = lacks_decimal 32 k (omega arith) low in
    let fields = one_cut 32 (decimal k) (decimal k) (type_name p.kind ++ (32 ∷ (escaped p.component ++ (32 ∷ escaped p.variable)))) (type_name q.kind ++ (32 ∷ (escaped q.component ++ (32 ∷ escaped q.variable)))) digits digits rest in
    let types = one_cut 32 (type_name p.kind) (type_name q.kind) (escaped p.component ++ (32 ∷ escaped p.variable)) (escaped q.component ++ (32 ∷ escaped q.variable)) (lacks_type_32 p.kind) (lacks_type_32 q.kind) fields.1 in
    let names = one_cut 32 (escaped p.component) (escaped q.component) (escaped p.variable) (escaped q.variable) (lacks_escaped 32 p.component (omega arith)) (lacks_escaped 32 q.component (omega arith)) types.1 in
    same_port p.kind q.kind p.component q.component p.variable q.variable (one_type p.kind q.kind types.0) (one_name p.component q.component names.0) (one_name p.variable q.variable names.1)

-- no line after the ports is the line of a port
pub no_port : (item : Item) (k : ℕ) (p : TracePort) → IsShortItem item → item_line item ≡ line_of_port k p → ⊥
no_port (Row (At t n)) k p short e = omega (arith, heads 97 112 _ _ e)
no_port (Row (Value port value)) k p short e = begins_with_digit port 112 _ _ short.0 (omega arith) e
no_port (End kind t) k p short e = omega (arith, heads 101 112 _ _ e)
