-- The words of a type's values are those of its spans.
use Rattle.std.proofs.Common.{◌≡◌, ◌≢◌, ℕ, zero, suc, ◌-◌, ◌<◌, ◌≤◌, ◌^◌, inl, inr, ℤ, pos, negsuc, refl, sym, ap, ◌∙◌, arith}
use Rattle.std.proofs.lemmas.Bool.{cases_lt}
use Rattle.std.proofs.lemmas.Int.{ints}
use Rattle.exact_parts.specs.Field.{InSpans}
use Rattle.link_frames.specs.Layout.{type_at, type_number, words}
use Rattle.link_frames.specs.Call.{value_at}
use Rattle.link_frames.proofs.HeadLemmas.{is_between, IsBetween}
use Rattle.value_types.specs.declared.values.PortType.{PortType}
use Rattle.value_types.specs.declared.values.PortType.TheVariants.{Int8, UInt8, Int16, UInt16, Int32, UInt32, Int64, UInt64, Boolean, Enumeration, Clock}
use Rattle.value_types.proofs.CallerLemmas.{fitting, number_of_word}
use Rattle.value_types.specs.Values.{Fits, word_of}

-- ---- numbers of types

pub type_again : (kind : PortType) → kind ≢ Clock → type_at (type_number kind) ≡ kind
type_again Int8 h = refl
type_again UInt8 h = refl
type_again Int16 h = refl
type_again UInt16 h = refl
type_again Int32 h = refl
type_again UInt32 h = refl
type_again Int64 h = refl
type_again UInt64 h = refl
type_again Boolean h = refl
type_again Enumeration h = refl
type_again Clock h = absurd (h refl)

pub type_in : (kind : PortType) → kind ≢ Clock → IsBetween 1 10 (type_number kind)
type_in Int8 h = record { from = omega arith; up_to = omega arith }
type_in UInt8 h = record { from = omega arith; up_to = omega arith }
type_in Int16 h = record { from = omega arith; up_to = omega arith }
type_in UInt16 h = record { from = omega arith; up_to = omega arith }
type_in Int32 h = record { from = omega arith; up_to = omega arith }
type_in UInt32 h = record { from = omega arith; up_to = omega arith }
type_in Int64 h = record { from = omega arith; up_to = omega arith }
type_in UInt64 h = record { from = omega arith; up_to = omega arith }
type_in Boolean h = record { from = omega arith; up_to = omega arith }
type_in Enumeration h = record { from = omega arith; up_to = omega arith }
type_in Clock h = absurd (h refl)

pub number_again : (n : ℕ) → 1 ≤ n → n ≤ 10 → type_number (type_at n) ≡ n
number_again zero h k = absurd (omega arith)
number_again (suc zero) h k = refl
number_again (suc (suc zero)) h k = refl
number_again (suc (suc (suc zero))) h k = refl
number_again (suc (suc (suc (suc zero)))) h k = refl
number_again (suc (suc (suc (suc (suc zero))))) h k = refl
number_again (suc (suc (suc (suc (suc (suc zero)))))) h k = refl
number_again (suc (suc (suc (suc (suc (suc (suc zero))))))) h k = refl
number_again (suc (suc (suc (suc (suc (suc (suc (suc zero)))))))) h k = refl
number_again (suc (suc (suc (suc (suc (suc (suc (suc (suc zero))))))))) h k = refl
number_again (suc (suc (suc (suc (suc (suc (suc (suc (suc (suc zero)))))))))) h k = refl
number_again (suc (suc (suc (suc (suc (suc (suc (suc (suc (suc (suc n))))))))))) h k = absurd (omega arith)

pub no_clock : (n : ℕ) → 1 ≤ n → n ≤ 10 → type_at n ≢ Clock
no_clock zero h k e = absurd (omega arith)
no_clock (suc zero) h k e = cc
no_clock (suc (suc zero)) h k e = cc
no_clock (suc (suc (suc zero))) h k e = cc
no_clock (suc (suc (suc (suc zero)))) h k e = cc
no_clock (suc (suc (suc (suc (suc zero))))) h k e = cc
no_clock (suc (suc (suc (suc (suc (suc zero)))))) h k e = cc
no_clock (suc (suc (suc (suc (suc (suc (suc zero))))))) h k e = cc
no_clock (suc (suc (suc (suc (suc (suc (suc (suc zero)))))))) h k e = cc
no_clock (suc (suc (suc (suc (suc (suc (suc (suc (suc zero))))))))) h k e = cc
no_clock (suc (suc (suc (suc (suc (suc (suc (suc (suc (suc zero)))))))))) h k e = cc
no_clock (suc (suc (suc (suc (suc (suc (suc (suc (suc (suc (suc n))))))))))) h k e = absurd (omega arith)

-- ---- words

pub word_in : (kind : PortType) (value : ℤ) → Fits kind value → InSpans (words kind) (word_of value)
word_in Int8 (pos n) h = inl (record { from = omega arith; up_to = omega (arith, ints, h.1) })
word_in Int8 (negsuc n) h = inr (record { from = omega (arith, ints, h.0); up_to = omega arith })
word_in UInt8 (pos n) h = inl (record { from = omega arith; up_to = omega (arith, ints, h.1) })
word_in UInt8 (negsuc n) h = absurd (omega (arith, ints, h.0))
word_in Int16 (pos n) h = inl (record { from = omega arith; up_to = omega (arith, ints, h.1) })
word_in Int16 (negsuc n) h = inr (record { from = omega (arith, ints, h.0); up_to = omega arith })
word_in UInt16 (pos n) h = inl (record { from = omega arith; up_to = omega (arith, ints, h.1) })
word_in UInt16 (negsuc n) h = absurd (omega (arith, ints, h.0))
word_in Int32 (pos n) h = inl (record { from = omega arith; up_to = omega (arith, ints, h.1) })
word_in Int32 (negsuc n) h = inr (record { from = omega (arith, ints, h.0); up_to = omega arith })
word_in UInt32 (pos n) h = inl (record { from = omega arith; up_to = omega (arith, ints, h.1) })
word_in UInt32 (negsuc n) h = absurd (omega (arith, ints, h.0))
word_in Int64 (pos n) h = inl (record { from = omega arith; up_to = omega (arith, ints, h.1) })
word_in Int64 (negsuc n) h = inl (record { from = omega arith; up_to = omega arith })
word_in UInt64 (pos n) h = inl (record { from = omega arith; up_to = omega (arith, ints, h.1) })
word_in UInt64 (negsuc n) h = absurd (omega (arith, ints, h.0))
word_in Boolean (pos n) h = inl (record { from = omega arith; up_to = omega (arith, ints, h.1) })
word_in Boolean (negsuc n) h = absurd (omega (arith, ints, h.0))
word_in Enumeration (pos n) h = inl (record { from = omega arith; up_to = omega (arith, ints, h.1) })
word_in Enumeration (negsuc n) h = inl (record { from = omega arith; up_to = omega arith })
word_in Clock (pos n) h = inl (record { from = omega arith; up_to = omega (arith, ints, h.1) })
word_in Clock (negsuc n) h = absurd (omega (arith, ints, h.0))

record WordOf (kind : PortType) (word : ℕ) : Type 0 where
  value : ℤ
  fits : Fits kind value
  is : word_of value ≡ word

positive : (kind : PortType) (word : ℕ) → Fits kind (pos word) → WordOf kind word
positive kind word h = record { value = pos word; fits = h; is = refl }

negative : (kind : PortType) (word : ℕ) → word < 2 ^ 64 → Fits kind (negsuc (2 ^ 64 - 1 - word)) → WordOf kind word
negative kind word lt h = record { value = negsuc (2 ^ 64 - 1 - word); fits = h; is = omega arith }

wide : (kind : PortType) (word : ℕ) → word < 2 ^ 64 → (word < 2 ^ 63 → Fits kind (pos word)) → (2 ^ 63 ≤ word → Fits kind (negsuc (2 ^ 64 - 1 - word))) → WordOf kind word
wide kind word lt low high = elim (cases_lt word (2 ^ 63)) [ inl l ↦ positive kind word (low l) | inr g ↦ negative kind word lt (high g) ]

word_of_span : (kind : PortType) (word : ℕ) → InSpans (words kind) word → WordOf kind word
word_of_span Int8 word (inl s) = positive Int8 word (omega (arith, ints, s.up_to), omega (arith, ints, s.up_to))
word_of_span Int8 word (inr s) = negative Int8 word (omega (arith, s.up_to)) (omega (arith, ints, s.from, s.up_to), omega (arith, ints, s.from, s.up_to))
word_of_span UInt8 word h = let s = is_between 0 (2 ^ 8 - 1) word h in positive UInt8 word (omega (arith, ints, s.up_to), omega (arith, ints, s.up_to))
word_of_span Int16 word (inl s) = positive Int16 word (omega (arith, ints, s.up_to), omega (arith, ints, s.up_to))
word_of_span Int16 word (inr s) = negative Int16 word (omega (arith, s.up_to)) (omega (arith, ints, s.from, s.up_to), omega (arith, ints, s.from, s.up_to))
word_of_span UInt16 word h = let s = is_between 0 (2 ^ 16 - 1) word h in positive UInt16 word (omega (arith, ints, s.up_to), omega (arith, ints, s.up_to))
word_of_span Int32 word (inl s) = positive Int32 word (omega (arith, ints, s.up_to), omega (arith, ints, s.up_to))
word_of_span Int32 word (inr s) = negative Int32 word (omega (arith, s.up_to)) (omega (arith, ints, s.from, s.up_to), omega (arith, ints, s.from, s.up_to))
word_of_span UInt32 word h = let s = is_between 0 (2 ^ 32 - 1) word h in positive UInt32 word (omega (arith, ints, s.up_to), omega (arith, ints, s.up_to))
word_of_span Int64 word h = let s = is_between 0 (2 ^ 64 - 1) word h in wide Int64 word (omega (arith, s.up_to)) (λ l. (omega (arith, ints, l), omega (arith, ints, l))) (λ g. (omega (arith, ints, g, s.up_to), omega (arith, ints, g, s.up_to)))
word_of_span UInt64 word h = let s = is_between 0 (2 ^ 64 - 1) word h in positive UInt64 word (omega (arith, ints, s.up_to), omega (arith, ints, s.up_to))
word_of_span Boolean word h = let s = is_between 0 1 word h in positive Boolean word (omega (arith, ints, s.up_to), omega (arith, ints, s.up_to))
word_of_span Enumeration word h = let s = is_between 0 (2 ^ 64 - 1) word h in wide Enumeration word (omega (arith, s.up_to)) (λ l. (omega (arith, ints, l), omega (arith, ints, l))) (λ g. (omega (arith, ints, g, s.up_to), omega (arith, ints, g, s.up_to)))
word_of_span Clock word h = let s = is_between 0 1 word h in positive Clock word (omega (arith, ints, s.up_to), omega (arith, ints, s.up_to))

pub value_again : (kind : PortType) (value : ℤ) → Fits kind value → value_at kind (word_of value) ≡ value
value_again kind value h = rw (number_of_word kind value h, fitting kind value h) refl

pub record Valued (kind : PortType) (word : ℕ) : Type 0 where
  pub fits : Fits kind (value_at kind word)
  pub is : word_of (value_at kind word) ≡ word

pub valued : (kind : PortType) (word : ℕ) → InSpans (words kind) word → Valued kind word
valued kind word h =
    let v = word_of_span kind word h in
    let same : value_at kind word ≡ v.value = ap (value_at kind) (sym v.is) ∙ value_again kind v.value v.fits in
    record { fits = rw same v.fits; is = ap word_of same ∙ v.is }
