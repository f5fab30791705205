-- A number of so many bytes in a span: which bytes begin one.
use Rattle.std.proofs.Common.{◌≡◌, ℕ, zero, suc, ◌+◌, ◌-◌, ◌*◌, ◌/◌, ◌%◌, ◌<◌, ◌≤◌, List, [], ◌∷◌, ◌++◌, length, take, get_or, ◌^◌, refl, sym, ap, subst, ◌∙◌, arith, inl, inr}
use Rattle.std.proofs.lemmas.Nat.{mul-le, div-add-mod', mod_below, div_below}
use Rattle.std.proofs.lemmas.List.{length-append, nil_from_length, append-nil, take_more, take_all, length-take}
use Rattle.exact_parts.specs.Taking.{AreSingle, Begins, IsPrefix, Gets, Breaks}
use Rattle.exact_parts.proofs.SpanLemmas.{Leads, stands_from, begun_from}
use Rattle.exact_parts.specs.Field.{StandsIn, Stands, InSpan, InSpans, IsSane, worth, AreBytes, number, Field}
use Rattle.exact_parts.specs.declared.field.Span.{Span}
use Rattle.exact_parts.specs.declared.field.Spans.{Spans}

worth_positive : (n : ℕ) → 0 < worth n
worth_positive zero = omega arith
worth_positive (suc n) = omega (arith, worth_positive n)

shift : (f b m : ℕ) → (f * 256 + b) * m ≡ f * (256 * m) + b * m
shift f b m = grind arith

leads : (prefix : ℕ) (bs : List ℕ) → AreBytes bs → Leads (worth (length bs)) prefix (number prefix bs)
leads prefix [] h = record { low = omega arith; high = omega arith }
leads prefix (b ∷ bs) h =
    let m = worth (length bs) in
    let r = leads (prefix * 256 + b) bs h.1 in
    let step : (b + 1) * m ≤ 256 * m = mul-le (b + 1) m 256 m (omega (arith, h.0)) (omega arith) in
    let more : (b + 1) * m ≡ b * m + m = grind arith in
    record { low = omega (arith, r.low, shift prefix b m); high = omega (arith, r.high, shift prefix b m, step, more) }

pub record Digits (size prefix value : ℕ) : Type 0 where
  pub bytes : List ℕ
  pub size_is : length bytes ≡ size
  pub small : AreBytes bytes
  pub number : number prefix bytes ≡ value

digits : (size prefix value : ℕ) → Leads (worth size) prefix value → Digits size prefix value
digits zero prefix value h = record { bytes = []; size_is = refl; small = tt; number = omega (arith, h.low, h.high) }
digits (suc n) prefix value h =
    let m = worth n in
    let rest = value - prefix * (256 * m) in
    let d = rest / m in
    let small : d < 256 = div_below rest m 256 (worth_positive n) (omega (arith, h.low, h.high)) in
    let parts : d * m + rest % m ≡ rest = div-add-mod' rest m in
    let low_part : rest % m < m = mod_below rest m (worth_positive n) in
    let r = digits n (prefix * 256 + d) value (record { low = omega (arith, shift prefix d m, parts, h.low); high = omega (arith, shift prefix d m, parts, low_part, h.low) }) in
    record { bytes = d ∷ r.bytes; size_is = omega (arith, r.size_is); small = (small, r.small); number = r.number }

number_append : (prefix : ℕ) (xs ys : List ℕ) → number prefix (xs ++ ys) ≡ number (number prefix xs) ys
number_append prefix [] ys = refl
number_append prefix (x ∷ xs) ys = number_append (prefix * 256 + x) xs ys

bytes_append : (xs ys : List ℕ) → AreBytes xs → AreBytes ys → AreBytes (xs ++ ys)
bytes_append [] ys h k = k
bytes_append (x ∷ xs) ys h k = (h.0, bytes_append xs ys h.1 k)

bytes_after : (xs ys : List ℕ) → AreBytes (xs ++ ys) → AreBytes ys
bytes_after [] ys h = h
bytes_after (x ∷ xs) ys h = bytes_after xs ys h.1

-- bytes that stand begin a number of the field
pub field_prefix : (size : ℕ) (spans : Spans) (bytes : List ℕ) → IsSane size spans → length bytes < size → AreBytes bytes
    → Stands (worth (size - length bytes)) spans (number 0 bytes) → IsPrefix (Field size spans) bytes
field_prefix size spans bytes le lt small h =
    let k = size - length bytes in
    let b = begun_from (worth k) spans (number 0 bytes) (worth_positive k) le.one le.other h in
    let d = digits k (number 0 bytes) b.number b.leads in
    record {
      value = b.number;
      more = d.bytes;
      spelled = record { size_is = omega (arith, length-append bytes d.bytes, d.size_is); are_bytes = bytes_append bytes d.bytes small d.small; number = number_append 0 bytes d.bytes ∙ d.number; span = b.span };
      goes_on = omega (arith, d.size_is);
    }

-- what begins a number of the field stands
pub field_stands : (size : ℕ) (spans : Spans) (bytes : List ℕ) → Begins (Field size spans) bytes → Stands (worth (size - length bytes)) spans (number 0 bytes)
field_stands size spans bytes b =
    let s = b.spelled in
    let k : size - length bytes ≡ length b.more = omega (arith, s.size_is, length-append bytes b.more) in
    let l = leads (number 0 bytes) b.more (bytes_after bytes b.more s.are_bytes) in
    let is : number (number 0 bytes) b.more ≡ b.value = sym (number_append 0 bytes b.more) ∙ s.number in
    subst (λ (n : ℕ). Stands (worth n) spans (number 0 bytes)) (sym k)
    (stands_from (worth (length b.more)) spans (number 0 bytes) b.value s.span (subst (λ (v : ℕ). Leads (worth (length b.more)) (number 0 bytes) v) is l))

pub field_single : (size : ℕ) (spans : Spans) → AreSingle (Field size spans)
field_single size spans v w xs more p q =
    let len : length more ≡ 0 = omega (arith, p.size_is, q.size_is, length-append xs more) in
    let none : more ≡ [] = nil_from_length more len in
    let text : xs ++ more ≡ xs = ap (λ (t : List ℕ). xs ++ t) none ∙ append-nil xs in
    (sym p.number ∙ ap (λ (t : List ℕ). number 0 t) (sym text) ∙ q.number, len)

-- ---- the walk over a number's bytes

pub are_bytes : (bytes : List ℕ) → ((i : ℕ) → get_or bytes i 0 < 256) → AreBytes bytes
are_bytes [] h = tt
are_bytes (b ∷ bs) h = (h 0, are_bytes bs (λ i. h (suc i)))

pub taken_bytes : (n : ℕ) (bytes : List ℕ) → AreBytes bytes → AreBytes (take n bytes)
taken_bytes zero bytes h = tt
taken_bytes (suc n) [] h = tt
taken_bytes (suc n) (b ∷ bs) h = (h.0, taken_bytes n bs h.1)

pub number_more : (bytes : List ℕ) (place : ℕ) → place < length bytes → number 0 (take (place + 1) bytes) ≡ number 0 (take place bytes) * 256 + get_or bytes place 0
number_more bytes place lt = rw (take_more bytes place 0 lt) (number_append 0 (take place bytes) (get_or bytes place 0 ∷ []))

worth_less : (n k : ℕ) → n ≤ k → worth n ≤ worth k
worth_less zero k le = worth_positive k
worth_less (suc n) zero le = absurd (omega arith)
worth_less (suc n) (suc k) le = omega (arith, worth_less n k (omega arith))

pub number_small : (bytes : List ℕ) (place : ℕ) → place < 8 → AreBytes bytes → number 0 (take place bytes) < 2 ^ 56
number_small bytes place lt h =
    let l = leads 0 (take place bytes) (taken_bytes place bytes h) in
    omega (arith, l.high, worth_less (length (take place bytes)) 7 (omega (arith, length-take place bytes)))

pub field_breaks : (size : ℕ) (spans : Spans) (bytes : List ℕ) (at : ℕ) → IsSane size spans → at < length bytes → at < size → AreBytes bytes
    → Stands (worth (size - at)) spans (number 0 (take at bytes)) → (Stands (worth (size - 1 - at)) spans (number 0 (take (at + 1) bytes)) → ⊥) → Breaks (Field size spans) bytes at
field_breaks size spans bytes at le within lt small before after =
    let len : length (take at bytes) ≡ at = omega (arith, length-take at bytes) in
    let len_more : length (take (at + 1) bytes) ≡ at + 1 = omega (arith, length-take (at + 1) bytes) in
    record {
      within = within;
      prefix = field_prefix size spans (take at bytes) le (omega (arith, len)) (taken_bytes at bytes small) (subst (λ (n : ℕ). Stands (worth (size - n)) spans (number 0 (take at bytes))) (sym len) before);
      none = λ b. after (subst (λ (n : ℕ). Stands (worth n) spans (number 0 (take (at + 1) bytes))) (omega (arith, len_more)) (field_stands size spans (take (at + 1) bytes) b));
    }

pub field_needs : (size : ℕ) (spans : Spans) (bytes : List ℕ) (place prefix : ℕ) → IsSane size spans → length bytes < size → length bytes ≤ place → place ≤ length bytes → AreBytes bytes
    → prefix ≡ number 0 (take place bytes) → Stands (worth (size - place)) spans prefix → IsPrefix (Field size spans) bytes
field_needs size spans bytes place prefix le lt p q small is h =
    let whole : take place bytes ≡ bytes = take_all place bytes p in
    let prefix_is : prefix ≡ number 0 bytes = is ∙ ap (λ (t : List ℕ). number 0 t) whole in
    let place_is : place ≡ length bytes = omega (arith, p, q) in
    field_prefix size spans bytes le lt small (subst (λ (n : ℕ). Stands (worth (size - n)) spans (number 0 bytes)) place_is (subst (λ (v : ℕ). Stands (worth (size - place)) spans v) prefix_is h))

in_span : (span : Span) (prefix : ℕ) → StandsIn 1 span prefix → InSpan span prefix
in_span span prefix s = record { from = omega (arith, s.above); up_to = omega (arith, s.below) }

in_spans : (spans : Spans) (prefix : ℕ) → Stands 1 spans prefix → InSpans spans prefix
in_spans spans prefix s =
    elim s [
      | inl h ↦ inl (in_span spans.one prefix h)
      | inr h ↦ inr (in_span spans.other prefix h)
    ]

pub field_got : (size : ℕ) (spans : Spans) (bytes : List ℕ) (place prefix : ℕ) → size ≤ length bytes → place ≡ size → AreBytes bytes
    → prefix ≡ number 0 (take place bytes) → Stands (worth (size - place)) spans prefix → Gets (Field size spans) bytes prefix size
field_got size spans bytes place prefix le p small is h =
    let none : size - place ≡ 0 = omega (arith, p) in
    let one : worth (size - place) ≡ worth 0 = ap worth none in
    let s : Stands 1 spans prefix = subst (λ (m : ℕ). Stands m spans prefix) one h in
    record {
      within = le;
      spelled = record { size_is = omega (arith, length-take size bytes); are_bytes = taken_bytes size bytes small; number = ap (λ (n : ℕ). number 0 (take n bytes)) (sym p) ∙ sym is; span = in_spans spans prefix s };
    }

-- so many bytes whose number lies in the spans
pub field_at_once : (size : ℕ) (spans : Spans) (bytes : List ℕ) (value : ℕ) → size ≤ length bytes → AreBytes bytes → value ≡ number 0 (take size bytes) → InSpans spans value → Gets (Field size spans) bytes value size
field_at_once size spans bytes value le small is span = record {
  within = le;
  spelled = record { size_is = omega (arith, length-take size bytes); are_bytes = taken_bytes size bytes small; number = sym is; span = span };
}

-- a number of the spans is written in so many bytes
pub field_filled : (size : ℕ) (spans : Spans) → IsSane size spans → (bytes : List ℕ) × Field size spans (spans.one.low) bytes
field_filled size spans sane =
    let d = digits size 0 spans.one.low (record { low = omega arith; high = omega (arith, sane.fits) }) in
    (d.bytes, record { size_is = d.size_is; are_bytes = d.small; number = d.number; span = inl (record { from = omega arith; up_to = sane.one }) })

-- a number of so many bytes is below their worth
pub field_below : (size : ℕ) (spans : Spans) (value : ℕ) (bytes : List ℕ) → Field size spans value bytes → value < worth size
field_below size spans value bytes h =
    let l = leads 0 bytes h.are_bytes in
    let w : worth (length bytes) ≡ worth size = ap worth h.size_is in
    omega (arith, l.high, w, h.number)
