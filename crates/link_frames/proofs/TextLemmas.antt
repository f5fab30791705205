-- A text of an exact length: which bytes begin one.
use Rattle.std.proofs.Common.{◌≡◌, ℕ, zero, suc, ◌+◌, ◌-◌, ◌<◌, ◌≤◌, Bool, true, false, cond, List, [], ◌∷◌, ◌++◌, length, take, drop, get_or, min, Option, Some, None, refl, sym, ◌∙◌, ap, subst, arith, inl, inr, nat_lt, nat_eq, length-append, append_assoc, take-append-drop}
use Rattle.std.specs.Prelude.{IsUtf8, replicate}
use Rattle.std.specs.Int.{is_in_range}
use Rattle.std.specs.Str.{IsValidUpTo}
use Rattle.std.specs.Str.Lossy.{utf8_error_len, error_len_after_two}
use Rattle.std.proofs.lemmas.Str.{IsUtf8-append, IsUtf8-nil, IsUtf8-drop, IsUtf8-from_ascii, IsCharBoundary-from_take}
use Rattle.std.proofs.lemmas.List.{length-replicate, length-take, length-drop, take_all, take_at, drop_at, take-take, get_or-drop}
use Rattle.std.proofs.lemmas.Bool.{ne_eqb}
use Rattle.std.proofs.lemmas.Option.{same_Some}
use Rattle.std.proofs.lemmas.Bool.Decides.{nat_tests, leb_tells}
use Rattle.exact_parts.specs.Taking.{AreSingle, Begins, Breaks, IsPrefix}
use Rattle.link_frames.specs.Text.{IsText, has_room}
use Rattle.exact_parts.proofs.CallerLemmas.{cut}
use Rattle.link_frames.proofs.CharLemmas.{ltb_false, second_ok, later_ok, one_byte, two_bytes, three_bytes, four_bytes, char_prefix}

-- ---- text that fills

zero_byte : (n i : ℕ) → get_or (replicate n 0) i 0 < 128
zero_byte zero i = omega arith
zero_byte (suc n) zero = omega arith
zero_byte (suc n) (suc i) = zero_byte n i

abbrev fill : ℕ → List ℕ
fill n = replicate n 0

fill_text : (n : ℕ) → IsUtf8 (fill n)
fill_text n = IsUtf8-from_ascii (fill n) (zero_byte n)

fill_length : (n : ℕ) → length (fill n) ≡ n
fill_length n = length-replicate {A = ℕ} n 0

-- more bytes make these a text of so many
pub record CanEnd (bytes : List ℕ) (size : ℕ) : Type 0 where
  pub more : List ℕ
  pub text : IsUtf8 (bytes ++ more)
  pub size_is : length (bytes ++ more) ≡ size
  pub goes_on : 0 < length more

-- a character that is finished, and what fills the text
filled : (bytes more : List ℕ) (size : ℕ) → IsUtf8 (bytes ++ more) → 0 < length more → length (bytes ++ more) ≤ size → CanEnd bytes size
filled bytes more size text some le =
    let rest = fill (size - length (bytes ++ more)) in
    let len : length rest ≡ size - length (bytes ++ more) = fill_length (size - length (bytes ++ more)) in
    let group : (bytes ++ more) ++ rest ≡ bytes ++ (more ++ rest) = append_assoc bytes more rest in
    let whole : length ((bytes ++ more) ++ rest) ≡ size = omega (arith, length-append (bytes ++ more) rest, len, le) in
    record {
      more = more ++ rest;
      text = subst IsUtf8 group (IsUtf8-append (bytes ++ more) rest text (fill_text (size - length (bytes ++ more))));
      size_is = sym (ap length group) ∙ whole;
      goes_on = omega (arith, length-append more rest, some);
    }

pub whole_ends : (bytes : List ℕ) (size : ℕ) → IsUtf8 bytes → length bytes < size → CanEnd bytes size
whole_ends bytes size text lt =
    let rest = fill (size - length bytes) in
    record {
      more = rest;
      text = IsUtf8-append bytes rest text (fill_text (size - length bytes));
      size_is = omega (arith, length-append bytes rest, fill_length (size - length bytes));
      goes_on = omega (arith, fill_length (size - length bytes), lt);
    }

-- ---- a part of a character can be finished

abbrev least_second : ℕ → ℕ
least_second a = cond (nat_eq a 0xE0) 0xA0 (cond (nat_eq a 0xF0) 0x90 0x80)

one_ends : (a size : ℕ) → has_room a size ≡ true → CanEnd (a ∷ []) size
one_ends a size room =
    elim (leb_tells 0xF0 a) [
      | inl p ↦ filled (a ∷ []) (least_second a ∷ 128 ∷ 128 ∷ []) size
          (four_bytes a (least_second a) 128 128 p.1 (grind (arith, nat_tests)) (grind (arith, nat_tests)) refl refl) (omega arith) (grind (arith, nat_tests))
      | inr p ↦ elim (leb_tells 0xE0 a) [
        | inl q ↦ filled (a ∷ []) (least_second a ∷ 128 ∷ []) size (three_bytes a (least_second a) 128 q.1 p.1 (grind (arith, nat_tests)) refl) (omega arith) (grind (arith, nat_tests))
        | inr q ↦ filled (a ∷ []) (128 ∷ []) size (two_bytes a 128 (grind (arith, nat_tests)) q.1 (grind (arith, nat_tests))) (omega arith) (grind (arith, nat_tests))
      ]
    ]

two_ends : (a b size : ℕ) → has_room a size ≡ true → 0xE0 ≤ a → second_ok a b ≡ true → CanEnd (a ∷ b ∷ []) size
two_ends a b size room wide ok =
    elim (leb_tells 0xF0 a) [
      | inl p ↦ filled (a ∷ b ∷ []) (128 ∷ 128 ∷ []) size (four_bytes a b 128 128 p.1 (grind (arith, nat_tests)) ok refl refl) (omega arith) (grind (arith, nat_tests))
      | inr p ↦ filled (a ∷ b ∷ []) (128 ∷ []) size (three_bytes a b 128 wide p.1 ok refl) (omega arith) (grind (arith, nat_tests))
    ]

three_ends : (a b x size : ℕ) → has_room a size ≡ true → 0xF0 ≤ a → second_ok a b ≡ true → later_ok x ≡ true → CanEnd (a ∷ b ∷ x ∷ []) size
three_ends a b x size room wide ok later =
    filled (a ∷ b ∷ x ∷ []) (128 ∷ []) size (four_bytes a b x 128 wide (grind (arith, nat_tests)) ok later refl) (omega arith) (grind (arith, nat_tests))

-- ---- where bytes, of which no prefix is text, stop to begin one

abbrev pub NoPrefix : List ℕ → Type 0
NoPrefix bytes = (n : ℕ) → 0 < n → n ≤ length bytes → IsUtf8 (take n bytes) → ⊥

-- so many bytes can be finished, and one more can't
pub record Stops (bytes : List ℕ) (size at : ℕ) : Type 0 where
  pub within : at < length bytes
  pub prefix : CanEnd (take at bytes) size
  pub none : (more : List ℕ) → IsUtf8 (take (at + 1) bytes ++ more) → length (take (at + 1) bytes ++ more) ≡ size → ⊥

high_lead : (a size : ℕ) → has_room a size ≡ true → 128 ≤ a
high_lead a size room = grind (arith, nat_tests)

lead_in : (a size : ℕ) → has_room a size ≡ true → is_in_range 0xC2 0xF4 a ≡ true
lead_in a size room = grind (arith, nat_tests)

from_two : (a size : ℕ) → has_room a size ≡ true → 0xC2 ≤ a
from_two a size room = grind (arith, nat_tests)

both : (b : Bool) → b ≡ true → b ≡ false → ⊥
both b h k = cc

-- there is no room for the first character
pub room_stops : (bytes : List ℕ) (size : ℕ) → NoPrefix bytes → 0 < length bytes → length bytes ≤ size → has_room (get_or bytes 0 0) size ≡ false → Stops bytes size 0
room_stops [] size none some le room = absurd (omega (arith, some))
room_stops (a ∷ rest) size none some le room = record {
  within = some;
  prefix = whole_ends [] size IsUtf8-nil (omega (arith, some, le));
  none = λ more text size_is.
      elim (leb_tells 128 a) [
        | inl p ↦
            let prefix = char_prefix (a ∷ more) text (omega arith) p.1 in
            both _ (rw size_is at prefix.room) room
        | inr p ↦ none 1 (omega arith) (omega arith) (one_byte a p.1)
      ];
}

-- a whole character of two bytes or of three would be a prefix
wide_two : (a b : ℕ) (rest : List ℕ) (size : ℕ) → NoPrefix (a ∷ b ∷ rest) → has_room a size ≡ true → second_ok a b ≡ true → 0xE0 ≤ a
wide_two a b rest size none room ok =
    elim (leb_tells 0xE0 a) [
      | inl p ↦ p.1
      | inr p ↦ absurd (none 2 (omega arith) (omega arith) (two_bytes a b (from_two a size room) p.1 ok))
    ]

wide_three : (a b x : ℕ) (rest : List ℕ) (size : ℕ) → NoPrefix (a ∷ b ∷ x ∷ rest) → has_room a size ≡ true → second_ok a b ≡ true → later_ok x ≡ true → 0xF0 ≤ a
wide_three a b x rest size none room ok later =
    elim (leb_tells 0xF0 a) [
      | inl p ↦ p.1
      | inr p ↦ absurd (none 3 (omega arith) (omega arith) (three_bytes a b x (wide_two a b (x ∷ rest) size none room ok) p.1 ok later))
    ]

stops_1 : (a b : ℕ) (rest : List ℕ) (size : ℕ) → has_room a size ≡ true → second_ok a b ≡ false → Stops (a ∷ b ∷ rest) size 1
stops_1 a b rest size room bad = record {
  within = omega arith;
  prefix = one_ends a size room;
  none = λ more text size_is. both _ (char_prefix (a ∷ b ∷ more) text (omega arith) (high_lead a size room)).second bad;
}

stops_2 : (a b x : ℕ) (rest : List ℕ) (size : ℕ) → NoPrefix (a ∷ b ∷ x ∷ rest) → has_room a size ≡ true → second_ok a b ≡ true → later_ok x ≡ false → Stops (a ∷ b ∷ x ∷ rest) size 2
stops_2 a b x rest size none room ok bad =
    let wide : 0xE0 ≤ a = wide_two a b (x ∷ rest) size none room ok in
    record {
      within = omega arith;
      prefix = two_ends a b size room wide ok;
      none = λ more text size_is. both _ ((char_prefix (a ∷ b ∷ x ∷ more) text (omega arith) (high_lead a size room)).third wide) bad;
    }

stops_3 : (a b x y : ℕ) (rest : List ℕ) (size : ℕ) → NoPrefix (a ∷ b ∷ x ∷ y ∷ rest) → has_room a size ≡ true → second_ok a b ≡ true → later_ok x ≡ true → Stops (a ∷ b ∷ x ∷ y ∷ rest) size 3
stops_3 a b x y rest size none room ok later =
    let wide : 0xF0 ≤ a = wide_three a b x (y ∷ rest) size none room ok later in
    record {
      within = omega arith;
      prefix = three_ends a b x size room wide ok later;
      none = λ more text size_is.
          let last = (char_prefix (a ∷ b ∷ x ∷ y ∷ more) text (omega arith) (high_lead a size room)).fourth wide in
          none 4 (omega arith) (omega arith) (four_bytes a b x y wide (grind (arith, nat_tests)) ok later last);
    }

-- ---- what `from_utf8` says of the place

abbrev after_one : List ℕ → Bool → Option ℕ
after_one bytes second = cond second (error_len_after_two bytes) (Some 1)

abbrev after_two : List ℕ → Bool → Option ℕ
after_two bytes later = cond later (cond (nat_lt (length bytes) 4) None (Some 3)) (Some 2)

error_one : (a size : ℕ) → has_room a size ≡ true → utf8_error_len (a ∷ []) ≡ None
unfolding utf8_error_len
error_one a size room = rw (lead_in a size room) refl

error_more : (a b : ℕ) (rest : List ℕ) (size : ℕ) → has_room a size ≡ true → utf8_error_len (a ∷ b ∷ rest) ≡ after_one (a ∷ b ∷ rest) (second_ok a b)
unfolding utf8_error_len
error_more a b rest size room =
    rw (lead_in a size room, ne_eqb (length (a ∷ b ∷ rest)) 0 (λ h. omega (arith, h)), ltb_false (length (a ∷ b ∷ rest)) 2 (omega arith)) refl

error_two : (a b : ℕ) → error_len_after_two (a ∷ b ∷ []) ≡ None
error_two a b = refl

error_three : (a b x : ℕ) (rest : List ℕ) → error_len_after_two (a ∷ b ∷ x ∷ rest) ≡ after_two (a ∷ b ∷ x ∷ rest) (later_ok x)
error_three a b x rest = rw (ltb_false (length (a ∷ b ∷ x ∷ rest)) 3 (omega arith)) refl

at_stop : (bytes : List ℕ) (size n k : ℕ) → Some n ≡ Some k → Stops bytes size n → Stops bytes size k
at_stop bytes size n k e stops = subst (λ (m : ℕ). Stops bytes size m) (same_Some n k e) stops

is_none : (k : ℕ) → ◌≡◌ {A = Option ℕ} None (Some k) → ⊥
is_none k e = cc

four_stop : (a b x : ℕ) (rest : List ℕ) (size k : ℕ) → NoPrefix (a ∷ b ∷ x ∷ rest) → has_room a size ≡ true → second_ok a b ≡ true → later_ok x ≡ true
    → cond (nat_lt (length (a ∷ b ∷ x ∷ rest)) 4) None (Some 3) ≡ Some k → Stops (a ∷ b ∷ x ∷ rest) size k
four_stop a b x [] size k none room ok later e = absurd (is_none k e)
four_stop a b x (y ∷ rest) size k none room ok later e =
    let some : Some 3 ≡ Some k = rw (ltb_false (length (a ∷ b ∷ x ∷ y ∷ rest)) 4 (omega arith)) at e in
    at_stop (a ∷ b ∷ x ∷ y ∷ rest) size 3 k some (stops_3 a b x y rest size none room ok later)

three_stop : (later : Bool) (a b x : ℕ) (rest : List ℕ) (size k : ℕ) → NoPrefix (a ∷ b ∷ x ∷ rest) → has_room a size ≡ true → second_ok a b ≡ true → later_ok x ≡ later
    → after_two (a ∷ b ∷ x ∷ rest) later ≡ Some k → Stops (a ∷ b ∷ x ∷ rest) size k
three_stop true a b x rest size k none room ok later e = four_stop a b x rest size k none room ok later e
three_stop false a b x rest size k none room ok later e = at_stop (a ∷ b ∷ x ∷ rest) size 2 k e (stops_2 a b x rest size none room ok later)

two_stop : (second : Bool) (a b : ℕ) (rest : List ℕ) (size k : ℕ) → NoPrefix (a ∷ b ∷ rest) → has_room a size ≡ true → second_ok a b ≡ second
    → after_one (a ∷ b ∷ rest) second ≡ Some k → Stops (a ∷ b ∷ rest) size k
two_stop false a b rest size k none room bad e = at_stop (a ∷ b ∷ rest) size 1 k e (stops_1 a b rest size room bad)
two_stop true a b [] size k none room ok e = absurd (is_none k (sym (error_two a b) ∙ e))
two_stop true a b (x ∷ rest) size k none room ok e = three_stop (later_ok x) a b x rest size k none room ok refl (sym (error_three a b x rest) ∙ e)

pub error_stops : (bytes : List ℕ) (size k : ℕ) → NoPrefix bytes → 0 < length bytes → has_room (get_or bytes 0 0) size ≡ true → utf8_error_len bytes ≡ Some k → Stops bytes size k
error_stops [] size k none some room e = absurd (omega (arith, some))
error_stops (a ∷ []) size k none some room e = absurd (is_none k (sym (error_one a size room) ∙ e))
error_stops (a ∷ b ∷ rest) size k none some room e = two_stop (second_ok a b) a b rest size k none room refl (sym (error_more a b rest size room) ∙ e)

is_some : (k : ℕ) → ◌≡◌ {A = Option ℕ} (Some k) None → ⊥
is_some k e = cc

three_end : (later : Bool) (a b x : ℕ) (rest : List ℕ) (size : ℕ) → NoPrefix (a ∷ b ∷ x ∷ rest) → has_room a size ≡ true → second_ok a b ≡ true → later_ok x ≡ later
    → after_two (a ∷ b ∷ x ∷ rest) later ≡ None → CanEnd (a ∷ b ∷ x ∷ rest) size
three_end false a b x rest size none room ok bad e = absurd (is_some 2 e)
three_end true a b x [] size none room ok later e = three_ends a b x size room (wide_three a b x [] size none room ok later) ok later
three_end true a b x (y ∷ rest) size none room ok later e =
    absurd (is_some 3 (rw (ltb_false (length (a ∷ b ∷ x ∷ y ∷ rest)) 4 (omega arith)) at e))

two_end : (second : Bool) (a b : ℕ) (rest : List ℕ) (size : ℕ) → NoPrefix (a ∷ b ∷ rest) → has_room a size ≡ true → second_ok a b ≡ second
    → after_one (a ∷ b ∷ rest) second ≡ None → CanEnd (a ∷ b ∷ rest) size
two_end false a b rest size none room bad e = absurd (is_some 1 e)
two_end true a b [] size none room ok e = two_ends a b size room (wide_two a b [] size none room ok) ok
two_end true a b (x ∷ rest) size none room ok e = three_end (later_ok x) a b x rest size none room ok refl (sym (error_three a b x rest) ∙ e)

pub error_ends : (bytes : List ℕ) (size : ℕ) → NoPrefix bytes → 0 < length bytes → has_room (get_or bytes 0 0) size ≡ true → utf8_error_len bytes ≡ None → CanEnd bytes size
error_ends [] size none some room e = absurd (omega (arith, some))
error_ends (a ∷ []) size none some room e = one_ends a size room
error_ends (a ∷ b ∷ rest) size none some room e = two_end (second_ok a b) a b rest size none room refl (sym (error_more a b rest size room) ∙ e)

-- ---- after the whole characters

pub no_prefix : (bytes : List ℕ) (valid : ℕ) → IsValidUpTo bytes valid → NoPrefix (drop valid bytes)
no_prefix bytes valid found n some le text =
    found.longest (valid + n) (omega (arith, some)) (subst IsUtf8 (sym (cut valid n bytes)) (IsUtf8-append (take valid bytes) (take n (drop valid bytes)) found.front text))

regroup : (v n : ℕ) (bytes more : List ℕ) → take (v + n) bytes ++ more ≡ take v bytes ++ (take n (drop v bytes) ++ more)
regroup v n bytes more = ap (λ (t : List ℕ). t ++ more) (cut v n bytes) ∙ append_assoc (take v bytes) (take n (drop v bytes)) more

prefix_length : (v n : ℕ) (bytes more : List ℕ) → v ≤ length bytes → length (take (v + n) bytes ++ more) ≡ v + length (take n (drop v bytes) ++ more)
prefix_length v n bytes more le =
    omega (arith, ap length (regroup v n bytes more), length-append (take v bytes) (take n (drop v bytes) ++ more), length-take v bytes, le)

-- what follows whole characters in a text is a text
tail_text : (v n : ℕ) (bytes more : List ℕ) → v ≤ length bytes → IsUtf8 (take v bytes) → IsUtf8 (take (v + n) bytes ++ more) → IsUtf8 (take n (drop v bytes) ++ more)
tail_text v n bytes more le prefix whole =
    let tail = take n (drop v bytes) ++ more in
    let text : IsUtf8 (take v bytes ++ tail) = subst IsUtf8 (regroup v n bytes more) whole in
    let len : length (take v bytes) ≡ v = omega (arith, length-take v bytes, le) in
    let seam = IsCharBoundary-from_take (take v bytes ++ tail) v text (omega (arith, length-append (take v bytes) tail, len)) (subst IsUtf8 (sym (take_at (take v bytes) tail v len)) prefix) in
    subst IsUtf8 (drop_at (take v bytes) tail v len) (IsUtf8-drop (take v bytes ++ tail) v text seam)

pub text_breaks : (bytes : List ℕ) (size v at : ℕ) → IsValidUpTo bytes v → length bytes ≤ size → Stops (drop v bytes) (size - v) at → Breaks (IsText size) bytes (v + at)
text_breaks bytes size v at found le stops =
    let f = stops.prefix in
    record {
      within = omega (arith, stops.within, length-drop v bytes);
      prefix = record {
        value = tt;
        more = f.more;
        spelled = record {
          size_is = omega (arith, prefix_length v at bytes f.more (omega (arith, found.short)), f.size_is, found.short, le);
          text = subst IsUtf8 (sym (regroup v at bytes f.more)) (IsUtf8-append (take v bytes) (take at (drop v bytes) ++ f.more) found.front f.text);
        };
        goes_on = f.goes_on;
      };
      none = λ b.
          let s = b.spelled in
          let e : v + at + 1 ≡ v + (at + 1) = omega arith in
          let text : IsUtf8 (take (v + (at + 1)) bytes ++ b.more) = subst (λ (n : ℕ). IsUtf8 (take n bytes ++ b.more)) e s.text in
          let len : length (take (v + (at + 1)) bytes ++ b.more) ≡ size = ap (λ (n : ℕ). length (take n bytes ++ b.more)) (sym e) ∙ s.size_is in
          stops.none b.more (tail_text v (at + 1) bytes b.more (omega (arith, found.short)) found.front text) (omega (arith, prefix_length v (at + 1) bytes b.more (omega (arith, found.short)), len));
    }

pub text_prefix : (bytes : List ℕ) (size v : ℕ) → IsValidUpTo bytes v → length bytes ≤ size → CanEnd (drop v bytes) (size - v) → IsPrefix (IsText size) bytes
text_prefix bytes size v found le f =
    let group : bytes ++ f.more ≡ take v bytes ++ (drop v bytes ++ f.more) = ap (λ (t : List ℕ). t ++ f.more) (sym (take-append-drop v bytes)) ∙ append_assoc (take v bytes) (drop v bytes) f.more in
    record {
      value = tt;
      more = f.more;
      spelled = record {
        size_is = omega (arith, ap length group, length-append (take v bytes) (drop v bytes ++ f.more), length-take v bytes, found.short, f.size_is, le);
        text = subst IsUtf8 (sym group) (IsUtf8-append (take v bytes) (drop v bytes ++ f.more) found.front f.text);
      };
      goes_on = f.goes_on;
    }

-- ---- the bytes that are there

pub part_breaks : (size n : ℕ) (bytes : List ℕ) (at : ℕ) → Breaks (IsText size) (take n bytes) at → Breaks (IsText size) bytes at
part_breaks size n bytes at b =
    let within : at < length (take n bytes) = b.within in
    let len = length-take n bytes in
    record {
      within = omega (arith, within, len);
      prefix = subst (λ (t : List ℕ). IsPrefix (IsText size) t) (take-take at n bytes (omega (arith, within, len))) b.prefix;
      none = λ p. b.none (subst (λ (t : List ℕ). Begins (IsText size) t) (sym (take-take (at + 1) n bytes (omega (arith, within, len)))) p);
    }

pub part_prefix : (size : ℕ) (bytes : List ℕ) → IsPrefix (IsText size) (take (min (length bytes) size) bytes) → IsPrefix (IsText size) bytes
part_prefix size bytes f =
    let n = min (length bytes) size in
    let whole : length (take n bytes ++ f.more) ≡ size = f.spelled.size_is in
    let short : length bytes < size = omega (arith, whole, length-append (take n bytes) f.more, length-take n bytes, f.goes_on) in
    subst (λ (t : List ℕ). IsPrefix (IsText size) t) (take_all n bytes (omega (arith, short))) f

pub whole_prefix : (size : ℕ) (bytes : List ℕ) → length bytes < size → IsUtf8 (take (min (length bytes) size) bytes) → IsPrefix (IsText size) bytes
whole_prefix size bytes lt text =
    let all : take (min (length bytes) size) bytes ≡ bytes = take_all (min (length bytes) size) bytes (omega (arith, lt)) in
    let f = whole_ends bytes size (subst IsUtf8 all text) lt in
    record { value = tt; more = f.more; spelled = record { size_is = f.size_is; text = f.text }; goes_on = f.goes_on }

-- ---- the three answers after the whole characters, of which `from_utf8` says that there are v bytes

part_short : (size n : ℕ) (bytes : List ℕ) → n ≡ min (length bytes) size → length (take n bytes) ≤ size
part_short size n bytes e = omega (arith, length-take n bytes, e)

some_after : (bytes : List ℕ) (v : ℕ) → IsValidUpTo bytes v → 0 < length (drop v bytes)
some_after bytes v found = omega (arith, found.short, length-drop v bytes)

lead_there : (bytes : List ℕ) (v size : ℕ) (answer : Bool) → has_room (get_or bytes v 0) size ≡ answer → has_room (get_or (drop v bytes) 0 0) size ≡ answer
lead_there bytes v size answer e =
    let at : v + 0 ≡ v = omega arith in
    let lead : get_or (drop v bytes) 0 0 ≡ get_or bytes v 0 = get_or-drop v bytes 0 0 ∙ ap (λ (i : ℕ). get_or bytes i 0) at in
    ap (λ (a : ℕ). has_room a size) lead ∙ e

pub taken_room : (size n v w : ℕ) (bytes : List ℕ) → n ≡ min (length bytes) size → v ≡ w → IsValidUpTo (take n bytes) w → has_room (get_or (take n bytes) v 0) (size - v) ≡ false → Breaks (IsText size) bytes v
taken_room size n v w bytes e same valid room =
    let t = take n bytes in
    let found : IsValidUpTo t v = subst (IsValidUpTo t) (sym same) valid in
    let stops = room_stops (drop v t) (size - v) (no_prefix t v found) (some_after t v found) (omega (arith, length-drop v t, part_short size n bytes e)) (lead_there t v (size - v) false room) in
    let breaks : Breaks (IsText size) t v = subst (λ (at : ℕ). Breaks (IsText size) t at) (omega arith) (text_breaks t size v 0 found (part_short size n bytes e) stops) in
    part_breaks size n bytes v breaks

pub taken_error : (size n v w k : ℕ) (bytes : List ℕ) → n ≡ min (length bytes) size → v ≡ w → IsValidUpTo (take n bytes) w → has_room (get_or (take n bytes) v 0) (size - v) ≡ true
    → utf8_error_len (drop w (take n bytes)) ≡ Some k → Breaks (IsText size) bytes (v + k)
taken_error size n v w k bytes e same valid room error =
    let t = take n bytes in
    let found : IsValidUpTo t v = subst (IsValidUpTo t) (sym same) valid in
    let error_there : utf8_error_len (drop v t) ≡ Some k = ap (λ (x : ℕ). utf8_error_len (drop x t)) same ∙ error in
    let stops = error_stops (drop v t) (size - v) k (no_prefix t v found) (some_after t v found) (lead_there t v (size - v) true room) error_there in
    part_breaks size n bytes (v + k) (text_breaks t size v k found (part_short size n bytes e) stops)

pub taken_cut : (size n v w : ℕ) (bytes : List ℕ) → n ≡ min (length bytes) size → v ≡ w → IsValidUpTo (take n bytes) w → has_room (get_or (take n bytes) v 0) (size - v) ≡ true
    → utf8_error_len (drop w (take n bytes)) ≡ None → IsPrefix (IsText size) bytes
taken_cut size n v w bytes e same valid room error =
    let t = take n bytes in
    let found : IsValidUpTo t v = subst (IsValidUpTo t) (sym same) valid in
    let error_there : utf8_error_len (drop v t) ≡ None = ap (λ (x : ℕ). utf8_error_len (drop x t)) same ∙ error in
    let end = error_ends (drop v t) (size - v) (no_prefix t v found) (some_after t v found) (lead_there t v (size - v) true room) error_there in
    let there : IsPrefix (IsText size) t = text_prefix t size v found (part_short size n bytes e) end in
    part_prefix size bytes (subst (λ (m : ℕ). IsPrefix (IsText size) (take m bytes)) e there)

-- ---- texts as a part of a frame

pub text_single : (size : ℕ) → AreSingle (IsText size)
text_single size v w xs more p q = (refl, omega (arith, p.size_is, q.size_is, length-append xs more))

pub fill_is_text : (size : ℕ) → IsText size tt (fill size)
fill_is_text size = record { size_is = fill_length size; text = fill_text size }
