-- Lines of a text: none has a line feed, so the lines of two equal texts are equal.
use Rattle.std.proofs.Common.{rules, arith, ◌≡◌, refl, sym, ap, ◌∙◌, ℕ, ◌+◌, ◌/◌, ◌%◌, ◌^◌, ◌<◌, ◌≤◌, ℤ, pos, negsuc, suc, List, [], ◌∷◌, ◌++◌, map, Some, length, decimal, codes, subst, Bool, true, false, cond, ◌||◌, ◌==◌, nat_lt, inl, inr}
use Rattle.std.specs.Fmt.{signed_decimal}
use Rattle.std.specs.List.{AllByRecursion}
use Rattle.std.proofs.lemmas.List.{append_assoc}
use Rattle.std.proofs.lemmas.Bool.{cases_lt, lt-ltb, le-ltb, ltb-false, or_parts}
use Rattle.sim_base.specs.Escape.{escaped, escaped_byte, is_escaped, hex_digit}
use Rattle.value_types.specs.declared.values.PortType.{PortType}
use Rattle.value_types.specs.declared.values.PortType.TheVariants.{Int8, UInt8, Int16, UInt16, Int32, UInt32, Int64, UInt64, Boolean, Enumeration, Clock}
use Rattle.system_model.specs.declared.plan.EndKind.{EndKind}
use Rattle.system_model.specs.declared.plan.EndKind.TheVariants.{Stop, Asked, Limit, Fixed, Range, Fault}
use Rattle.system_model.specs.Text.{type_name, kind_text, header_line, lines_text}
use Rattle.trace_reading.specs.declared.trace.TracePort.{TracePort}
use Rattle.trace_reading.specs.declared.trace.TraceLine.TheVariants.{At, Value}
use Rattle.trace_reading.specs.declared.item.Item.{Item}
use Rattle.trace_reading.specs.declared.item.Item.TheVariants.{Row, End}
use Rattle.trace_reading.specs.declared.item.Place.{Place}
use Rattle.trace_reading.specs.Form.{IsRange, lines_of_ports}
use Rattle.trace_reading.specs.Lines.{Lacks, IsShort, line_of_port}
use Rattle.trace_reading.specs.Walk.{walk, place_after, item_line, IsShortItem}
use Rattle.trace_reading.proofs.LineLemmas.{lacks_decimal, one_cut}
use Rattle.trace_reading.proofs.FaultLemmas.{stepped}
use Rattle.trace_reading.proofs.ShortLemmas.{short_item}

pub lacks_both : (b : ℕ) (xs ys : List ℕ) → Lacks b xs → Lacks b ys → Lacks b (xs ++ ys)
lacks_both b [] ys lx ly = ly
lacks_both b (x ∷ xs) ys lx ly = (lx.0, lacks_both b xs ys lx.1 ly)

lacks_kind : (kind : EndKind) → Lacks 10 (kind_text kind)
lacks_kind Stop = search rules
lacks_kind Asked = search rules
lacks_kind Limit = search rules
lacks_kind Fixed = search rules
lacks_kind Range = search rules
lacks_kind Fault = search rules

pub lacks_type_10 : (kind : PortType) → Lacks 10 (type_name kind)
lacks_type_10 Int8 = search rules
lacks_type_10 UInt8 = search rules
lacks_type_10 Int16 = search rules
lacks_type_10 UInt16 = search rules
lacks_type_10 Int32 = search rules
lacks_type_10 UInt32 = search rules
lacks_type_10 Int64 = search rules
lacks_type_10 UInt64 = search rules
lacks_type_10 Boolean = search rules
lacks_type_10 Enumeration = search rules
lacks_type_10 Clock = search rules

pub lacks_type_32 : (kind : PortType) → Lacks 32 (type_name kind)
lacks_type_32 Int8 = search rules
lacks_type_32 UInt8 = search rules
lacks_type_32 Int16 = search rules
lacks_type_32 UInt16 = search rules
lacks_type_32 Int32 = search rules
lacks_type_32 UInt32 = search rules
lacks_type_32 Int64 = search rules
lacks_type_32 UInt64 = search rules
lacks_type_32 Boolean = search rules
lacks_type_32 Enumeration = search rules
lacks_type_32 Clock = search rules

lacks_value : (value : ℤ) → IsShort value → Lacks 10 (signed_decimal value)
lacks_value (pos n) short = lacks_decimal 10 n (omega arith) short
lacks_value (negsuc n) short = (λ e. omega (arith, e), lacks_decimal 10 (suc n) (omega arith) (omega (arith, short)))

space : (xs : List ℕ) → Lacks 10 xs → Lacks 10 (32 ∷ xs)
space xs free = (λ e. omega (arith, e), free)

spaced : (xs ys : List ℕ) → Lacks 10 xs → Lacks 10 ys → Lacks 10 (xs ++ (32 ∷ ys))
spaced xs ys lx ly = lacks_both 10 xs (32 ∷ ys) lx (space ys ly)

-- ---- names

digit_high : (n : ℕ) → 48 ≤ hex_digit n
digit_high n = elim (cases_lt n 10) [ inl low ↦ rw (lt-ltb n 10 low) (omega arith) | inr high ↦ rw (le-ltb n 10 high) (omega arith) ]

plain_high : (byte : ℕ) → is_escaped byte ≡ false → 33 ≤ byte
plain_high byte is =
    let first = or_parts (nat_lt byte 33 || byte == 127) (byte == 37) is in
    let second = or_parts (nat_lt byte 33) (byte == 127) first.0 in
    ltb-false byte 33 second.0

-- a byte that is below 33 isn't in the escaped name
lacks_byte_by : (test : Bool) (b byte : ℕ) → b < 33 → is_escaped byte ≡ test → Lacks b (cond test (37 ∷ hex_digit (byte / 16) ∷ hex_digit (byte % 16) ∷ []) (byte ∷ []))
lacks_byte_by true b byte low is = (λ e. omega (arith, low, e), (λ e. omega (arith, low, e, digit_high (byte / 16)), (λ e. omega (arith, low, e, digit_high (byte % 16)), tt)))
lacks_byte_by false b byte low is = (λ e. omega (arith, low, e, plain_high byte is), tt)

lacks_byte : (b byte : ℕ) → b < 33 → Lacks b (escaped_byte byte)
lacks_byte b byte low = lacks_byte_by (is_escaped byte) b byte low refl

pub lacks_escaped : (b : ℕ) (name : List ℕ) → b < 33 → Lacks b (escaped name)
lacks_escaped b [] low = tt
lacks_escaped b (byte ∷ name) low = lacks_both b (escaped_byte byte) (escaped name) (lacks_byte b byte low) (lacks_escaped b name low)

-- ---- lines

pub is_header_line : (resolution start stop : ℕ) → IsRange resolution start stop → Lacks 10 (header_line resolution start stop)
is_header_line resolution start stop range =
    lacks_both 10 (codes "trace 1 ") (decimal resolution ++ (32 ∷ (decimal start ++ (32 ∷ decimal stop)))) (search rules)
    (spaced (decimal resolution) (decimal start ++ (32 ∷ decimal stop)) (lacks_decimal 10 resolution (omega arith) (omega (arith, range.within)))
    (spaced (decimal start) (decimal stop) (lacks_decimal 10 start (omega arith) (omega (arith, range.order, range.end))) (lacks_decimal 10 stop (omega arith) (omega (arith, range.end)))))

pub is_port_line : (k : ℕ) (port : TracePort) → k < 2 ^ 64 → Lacks 10 (line_of_port k port)
is_port_line k port low =
    lacks_both 10 (codes "port ") (decimal k ++ (32 ∷ (type_name port.kind ++ (32 ∷ (escaped port.component ++ (32 ∷ escaped port.variable)))))) (search rules)
    (spaced (decimal k) (type_name port.kind ++ (32 ∷ (escaped port.component ++ (32 ∷ escaped port.variable)))) (lacks_decimal 10 k (omega arith) low)
    (spaced (type_name port.kind) (escaped port.component ++ (32 ∷ escaped port.variable)) (lacks_type_10 port.kind)
    (spaced (escaped port.component) (escaped port.variable) (lacks_escaped 10 port.component (omega arith)) (lacks_escaped 10 port.variable (omega arith)))))

pub are_port_lines : (k : ℕ) (ports : List TracePort) → k + length ports < 2 ^ 64 → AllByRecursion (Lacks 10) (lines_of_ports k ports)
are_port_lines k [] few = tt
are_port_lines k (port ∷ ports) few = (is_port_line k port (omega (arith, few)), are_port_lines (k + 1) ports (omega (arith, few)))

is_line : (item : Item) → IsShortItem item → Lacks 10 (item_line item)
is_line (Row (At t n)) short = (λ e. omega (arith, e), (λ e. omega (arith, e), space (decimal t ++ (32 ∷ decimal n)) (spaced (decimal t) (decimal n) (lacks_decimal 10 t (omega arith) short.0) (lacks_decimal 10 n (omega arith) short.1))))
is_line (Row (Value port value)) short = spaced (decimal port) (signed_decimal value) (lacks_decimal 10 port (omega arith) short.0) (lacks_value value short.1)
is_line (End kind t) short = (λ e. omega (arith, e), (λ e. omega (arith, e), (λ e. omega (arith, e), space (kind_text kind ++ (32 ∷ decimal t)) (spaced (kind_text kind) (decimal t) (lacks_kind kind) (lacks_decimal 10 t (omega arith) short)))))

-- what was walked has lines without a line feed
pub are_lines : (kinds : List PortType) → length kinds < 2 ^ 64 → (place last : Place) (items : List Item) → walk kinds place items ≡ Some last → AllByRecursion (Lacks 10) (map item_line items)
are_lines kinds few place last [] good = tt
are_lines kinds few place last (i ∷ is) good =
    let s = stepped kinds (place_after kinds place i) is last good in
    (is_line i (short_item kinds few place s.next i s.step), are_lines kinds few s.next last is s.rest)

pub all_append : (xs ys : List (List ℕ)) → AllByRecursion (Lacks 10) xs → AllByRecursion (Lacks 10) ys → AllByRecursion (Lacks 10) (xs ++ ys)
all_append [] ys ax ay = ay
all_append (x ∷ xs) ys ax ay = (ax.0, all_append xs ys ax.1 ay)

not_empty : (xs ys : List ℕ) (b : ℕ) → [] ≡ xs ++ (b ∷ ys) → ⊥
not_empty [] ys b e = cc e
not_empty (x ∷ xs) ys b e = cc e

-- the lines of a text that begins with some lines and one more begin with these
pub record Prefix (whole before : List (List ℕ)) (line : List ℕ) : Type 0 where
  pub more : List (List ℕ)
  pub parts : whole ≡ before ++ (line ∷ more)

pub lines_prefix : (whole before : List (List ℕ)) (line rest : List ℕ) → AllByRecursion (Lacks 10) whole → AllByRecursion (Lacks 10) before → Lacks 10 line → lines_text whole ≡ lines_text before ++ (line ++ (10 ∷ rest)) → Prefix whole before line
lines_prefix [] [] line rest aw ab al e = absurd (not_empty line rest 10 e)
lines_prefix (x ∷ xs) [] line rest aw ab al e =
    let both = one_cut 10 x line (lines_text xs) rest aw.0 al e in
    record { more = xs; parts = ap (λ (l : List ℕ). l ∷ xs) both.0 }
lines_prefix [] (y ∷ ys) line rest aw ab al e = absurd (not_empty y (lines_text ys ++ (line ++ (10 ∷ rest))) 10 (e ∙ append_assoc y (10 ∷ lines_text ys) (line ++ (10 ∷ rest))))
lines_prefix (x ∷ xs) (y ∷ ys) line rest aw ab al e =
    let both = one_cut 10 x y (lines_text xs) (lines_text ys ++ (line ++ (10 ∷ rest))) aw.0 ab.0 (e ∙ append_assoc y (10 ∷ lines_text ys) (line ++ (10 ∷ rest))) in
    let later = lines_prefix xs ys line rest aw.1 ab.1 al both.1 in
    record { more = later.more; parts = ap (λ (l : List ℕ). l ∷ xs) both.0 ∙ ap (λ (ls : List (List ℕ)). y ∷ ls) later.parts }

-- a text has one list of lines
pub one_list : (ms bs : List (List ℕ)) → AllByRecursion (Lacks 10) ms → AllByRecursion (Lacks 10) bs → lines_text ms ≡ lines_text bs → ms ≡ bs
one_list [] [] fa fb e = refl
one_list [] (b ∷ bs) fa fb e = absurd (not_empty b (lines_text bs) 10 e)
one_list (a ∷ ms) [] fa fb e = absurd (not_empty a (lines_text ms) 10 (sym e))
one_list (a ∷ ms) (b ∷ bs) fa fb e =
    let both = one_cut 10 a b (lines_text ms) (lines_text bs) fa.0 fb.0 e in
    let later = one_list ms bs fa.1 fb.1 both.1 in
    cc (both.0, later)

pub lacks_not : (byte : ℕ) (prefix rest : List ℕ) → Lacks byte (prefix ++ (byte ∷ rest)) → ⊥
lacks_not byte [] rest h = h.0 refl
lacks_not byte (c ∷ cs) rest h = lacks_not byte cs rest h.1

-- a text whose rest after some lines has no line feed ends with these lines
pub ends_there : (whole before : List (List ℕ)) (after : List ℕ) → AllByRecursion (Lacks 10) whole → AllByRecursion (Lacks 10) before → Lacks 10 after → lines_text whole ≡ lines_text before ++ after → (whole ≡ before) × (after ≡ [])
ends_there [] [] after aw ab al e = (refl, sym e)
ends_there (x ∷ xs) [] after aw ab al e =
    let P : List ℕ → Type 0 = λ bytes. Lacks 10 bytes in
    absurd (lacks_not 10 x (lines_text xs) (subst P (sym e) al))
ends_there [] (y ∷ ys) after aw ab al e = absurd (not_empty y (lines_text ys ++ after) 10 (e ∙ append_assoc y (10 ∷ lines_text ys) after))
ends_there (x ∷ xs) (y ∷ ys) after aw ab al e =
    let both = one_cut 10 x y (lines_text xs) (lines_text ys ++ after) aw.0 ab.0 (e ∙ append_assoc y (10 ∷ lines_text ys) after) in
    let later = ends_there xs ys after aw.1 ab.1 al both.1 in
    (ap (λ (l : List ℕ). l ∷ xs) both.0 ∙ ap (λ (ls : List (List ℕ)). y ∷ ls) later.0, later.1)
