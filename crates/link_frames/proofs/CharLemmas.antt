-- The bytes of one character in UTF-8, and how a part of it can be finished.
use Rattle.std.proofs.Common.{◌≡◌, ℕ, ◌+◌, ◌-◌, ◌*◌, ◌/◌, ◌%◌, ◌<◌, ◌≤◌, Bool, true, false, ◌&&◌, List, [], ◌∷◌, ◌++◌, length, get_or, refl, sym, ◌∙◌, ap, subst, arith, inl, inr, nat_lt}
use Rattle.std.specs.Prelude.{IsUtf8, encode_utf8_all}
use Rattle.std.specs.Char.{IsScalar, encode_utf8}
use Rattle.std.specs.Int.{is_in_range}
use Rattle.std.specs.Str.Lossy.{second_byte_min, second_byte_max}
use Rattle.std.proofs.lemmas.Str.{IsUtf8-encode, encode_ascii}
use Rattle.std.proofs.lemmas.Bool.Decides.{nat_tests, leb_tells}
use lib.Utf8.{scalars}
use Rattle.link_frames.specs.Text.{has_room}

pub ltb_false : (a b : ℕ) → b ≤ a → nat_lt a b ≡ false
ltb_false a b h = grind (arith, nat_tests)

pub ltb_true : (a b : ℕ) → a < b → nat_lt a b ≡ true
ltb_true a b h = grind (arith, nat_tests)

-- whether the second byte may follow the first, and whether a byte may be a later one
abbrev pub second_ok : ℕ → ℕ → Bool
second_ok a b = is_in_range (second_byte_min a) (second_byte_max a) b

abbrev pub later_ok : ℕ → Bool
later_ok x = is_in_range 0x80 0xBF x

-- ---- bytes that are a character

pub one_byte : (a : ℕ) → a < 128 → IsUtf8 (a ∷ [])
one_byte a lt = subst IsUtf8 (encode_ascii a lt) (IsUtf8-encode a (grind (arith, nat_tests)))

pub two_bytes : (a b : ℕ) → 0xC2 ≤ a → a < 0xE0 → second_ok a b ≡ true → IsUtf8 (a ∷ b ∷ [])
unfolding encode_utf8
two_bytes a b h1 h2 ok =
    let c = (a - 192) * 64 + (b - 128) in
    let range : (128 ≤ b) × (b < 192) = grind (arith, nat_tests) in
    let is : encode_utf8 c ≡ a ∷ b ∷ [] = rw (ltb_false c 128 (omega arith), ltb_true c 2048 (omega arith)) (grind arith) in
    subst IsUtf8 is (IsUtf8-encode c (grind (arith, nat_tests)))

pub three_bytes : (a b x : ℕ) → 0xE0 ≤ a → a < 0xF0 → second_ok a b ≡ true → later_ok x ≡ true → IsUtf8 (a ∷ b ∷ x ∷ [])
unfolding encode_utf8
three_bytes a b x h1 h2 ok later =
    let last : (128 ≤ x) × (x < 192) = grind (arith, nat_tests) in
    let c = (a - 224) * 4096 + (b - 128) * 64 + (x - 128) in
    let range : (128 ≤ b) × (b < 192) × (2048 ≤ c) × IsScalar c = grind (arith, nat_tests) in
    let is : encode_utf8 c ≡ a ∷ b ∷ x ∷ [] =
    rw (ltb_false c 128 (omega arith), ltb_false c 2048 range.2, ltb_true c 65536 (omega arith)) (grind arith) in
    subst IsUtf8 is (IsUtf8-encode c range.3)

pub four_bytes : (a b x y : ℕ) → 0xF0 ≤ a → a ≤ 0xF4 → second_ok a b ≡ true → later_ok x ≡ true → later_ok y ≡ true → IsUtf8 (a ∷ b ∷ x ∷ y ∷ [])
unfolding encode_utf8
four_bytes a b x y h1 h2 ok later last =
    let mid : (128 ≤ x) × (x < 192) = grind (arith, nat_tests) in
    let end : (128 ≤ y) × (y < 192) = grind (arith, nat_tests) in
    let c = (a - 240) * 262144 + (b - 128) * 4096 + (x - 128) * 64 + (y - 128) in
    let range : (128 ≤ b) × (b < 192) × (65536 ≤ c) × IsScalar c = grind (arith, nat_tests) in
    let is : encode_utf8 c ≡ a ∷ b ∷ x ∷ y ∷ [] =
    rw (ltb_false c 128 (omega arith), ltb_false c 2048 (omega arith), ltb_false c 65536 range.2) (grind arith) in
    subst IsUtf8 is (IsUtf8-encode c range.3)

-- ---- the bytes that a text begins with, where the first isn't ASCII

pub record CharPrefix (bs : List ℕ) : Type 0 where
  pub room : has_room (get_or bs 0 0) (length bs) ≡ true
  pub second : second_ok (get_or bs 0 0) (get_or bs 1 0) ≡ true
  pub third : 0xE0 ≤ get_or bs 0 0 → later_ok (get_or bs 2 0) ≡ true
  pub fourth : 0xF0 ≤ get_or bs 0 0 → later_ok (get_or bs 3 0) ≡ true

prefix_of_two : (c : ℕ) (more : List ℕ) → 128 ≤ c → c < 2048 → CharPrefix (encode_utf8 c ++ more)
unfolding encode_utf8
prefix_of_two c more low high =
    let is : encode_utf8 c ≡ (192 + c / 64) ∷ (128 + c % 64) ∷ [] = rw (ltb_false c 128 low, ltb_true c 2048 high) refl in
    subst (λ (xs : List ℕ). CharPrefix (xs ++ more)) (sym is)
    (record { room = grind (arith, nat_tests); second = grind (arith, nat_tests); third = λ h. absurd (omega arith); fourth = λ h. absurd (omega arith) })

prefix_of_three : (c : ℕ) (more : List ℕ) → IsScalar c → 2048 ≤ c → c < 65536 → CharPrefix (encode_utf8 c ++ more)
unfolding encode_utf8
prefix_of_three c more scalar low high =
    let is : encode_utf8 c ≡ (224 + c / 4096) ∷ (128 + c / 64 % 64) ∷ (128 + c % 64) ∷ [] = rw (ltb_false c 128 (omega arith), ltb_false c 2048 low, ltb_true c 65536 high) refl in
    subst (λ (xs : List ℕ). CharPrefix (xs ++ more)) (sym is)
    (record { room = grind (arith, nat_tests); second = grind (arith, nat_tests); third = λ h. grind (arith, nat_tests); fourth = λ h. absurd (omega arith) })

prefix_of_four : (c : ℕ) (more : List ℕ) → IsScalar c → 65536 ≤ c → CharPrefix (encode_utf8 c ++ more)
unfolding encode_utf8
prefix_of_four c more scalar low =
    let high : c < 1114112 = grind (arith, nat_tests) in
    let is : encode_utf8 c ≡ (240 + c / 262144) ∷ (128 + c / 4096 % 64) ∷ (128 + c / 64 % 64) ∷ (128 + c % 64) ∷ [] = rw (ltb_false c 128 (omega arith), ltb_false c 2048 (omega arith), ltb_false c 65536 low) refl in
    subst (λ (xs : List ℕ). CharPrefix (xs ++ more)) (sym is)
    (record { room = grind (arith, nat_tests); second = grind (arith, nat_tests); third = λ h. grind (arith, nat_tests); fourth = λ h. grind (arith, nat_tests) })

-- what a text begins with
pub record FirstChar (bs : List ℕ) : Type 0 where
  pub char : ℕ
  pub rest : List ℕ
  pub scalar : IsScalar char
  pub is : bs ≡ encode_utf8 char ++ rest

and_left : (a b : Bool) → (a && b) ≡ true → a ≡ true
and_left true b h = refl
and_left false b h = absurd (cc h)

first_of : (bs cs : List ℕ) → scalars cs ≡ true → encode_utf8_all cs ≡ bs → 0 < length bs → FirstChar bs
first_of bs [] scalar is some = absurd (omega (arith, ap length is))
first_of bs (c ∷ cs) scalar is some = record { char = c; rest = encode_utf8_all cs; scalar = and_left _ _ scalar; is = sym is }

pub first_char : (bs : List ℕ) → IsUtf8 bs → 0 < length bs → FirstChar bs
first_char bs text some = first_of bs text.0 text.1.0 text.1.1 some

-- a text begins with an ASCII byte or with the bytes of a longer character
pub char_prefix : (bs : List ℕ) → IsUtf8 bs → 0 < length bs → 128 ≤ get_or bs 0 0 → CharPrefix bs
char_prefix bs text some high =
    let f = first_char bs text some in
    subst CharPrefix (sym f.is)
    (elim (leb_tells 65536 f.char) [
      | inl p ↦ prefix_of_four f.char f.rest f.scalar p.1
      | inr p ↦ elim (leb_tells 2048 f.char) [
        | inl q ↦ prefix_of_three f.char f.rest f.scalar q.1 p.1
        | inr q ↦ elim (leb_tells 128 f.char) [
          | inl r ↦ prefix_of_two f.char f.rest r.1 q.1
          | inr r ↦
              let ascii : encode_utf8 f.char ≡ f.char ∷ [] = encode_ascii f.char r.1 in
              let first : get_or bs 0 0 ≡ f.char = ap (λ (xs : List ℕ). get_or xs 0 0) (f.is ∙ ap (λ (xs : List ℕ). xs ++ f.rest) ascii) in
              absurd (omega (arith, first, r.1, high))
        ]
      ]
    ])
