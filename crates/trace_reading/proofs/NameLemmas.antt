-- Names, byte by byte.
use Rattle.std.proofs.Common.{arith, ◌≡◌, refl, sym, ap, ◌∙◌, ℕ, ◌<◌, List, [], ◌∷◌, ◌++◌, length, suc, ◌/◌, ◌%◌, ◌≤◌, Bool, true, false, cond, get_or, subst, inl, inr}
use Rattle.std.proofs.lemmas.Bool.{cases_lt, le-ltb, ne_eqb}
use Rattle.std.specs.List.{AllByRecursion}
use Rattle.std.proofs.lemmas.List.{append_assoc}
use Rattle.std.proofs.lemmas.Grind.{common_steps}
use Rattle.sim_base.specs.Escape.{escaped, escaped_byte, is_escaped, hex_digit}

-- what is left of a whole name after its prefix, and what is left of its text
pub record Left (whole prefix rest : List ℕ) : Type 0 where
  pub more : List ℕ
  pub bytes : AllByRecursion (λ (b : ℕ). b < 256) more
  pub name : whole ≡ prefix ++ more
  pub text : rest ≡ escaped more

pub push_escaped : (prefix : List ℕ) (byte : ℕ) (rest : List ℕ) → escaped (prefix ++ (byte ∷ [])) ++ rest ≡ escaped prefix ++ (escaped_byte byte ++ rest)
push_escaped [] byte rest = append_assoc (escaped_byte byte) [] rest
push_escaped (b ∷ bs) byte rest =
    append_assoc (escaped_byte b) (escaped (bs ++ (byte ∷ []))) rest
    ∙ ap (λ (xs : List ℕ). escaped_byte b ++ xs) (push_escaped bs byte rest)
    ∙ sym (append_assoc (escaped_byte b) (escaped bs) (escaped_byte byte ++ rest))

append_nil : (xs : List ℕ) → xs ++ [] ≡ xs
append_nil [] = refl
append_nil (x ∷ xs) = ap (λ (ys : List ℕ). x ∷ ys) (append_nil xs)

escaped_not_empty : (byte : ℕ) (xs : List ℕ) → length (escaped_byte byte ++ xs) ≡ 0 → ⊥
escaped_not_empty byte xs e = grind (arith, common_steps)

ended : (whole prefix rest more : List ℕ) → whole ≡ prefix ++ more → rest ≡ escaped more → length rest ≡ 0 → prefix ≡ whole
ended whole prefix rest [] name text empty = sym (name ∙ append_nil prefix)
ended whole prefix rest (m ∷ ms) name text empty = absurd (escaped_not_empty m (escaped ms) (ap (λ (xs : List ℕ). length xs) (sym text) ∙ empty))

-- the text of a name is empty where the name is
pub none_left : (whole prefix rest : List ℕ) → Left whole prefix rest → length rest ≡ 0 → prefix ≡ whole
none_left whole prefix rest left empty = ended whole prefix rest left.more left.name left.text empty

pub for_left : (P : Type 0) (rest more : List ℕ) → AllByRecursion (λ (b : ℕ). b < 256) more → rest ≡ escaped more → 0 < length rest → ((m : ℕ) (ms : List ℕ) → m < 256 → AllByRecursion (λ (b : ℕ). b < 256) ms → more ≡ m ∷ ms → rest ≡ escaped_byte m ++ escaped ms → P) → P
for_left P rest [] all text some step = absurd (omega (arith, some, ap (λ (xs : List ℕ). length xs) text))
for_left P rest (m ∷ ms) all text some step = step m ms all.0 all.1 refl text

pub one_less : (whole prefix rest after more now : List ℕ) (byte m : ℕ) (ms : List ℕ) → AllByRecursion (λ (b : ℕ). b < 256) ms → whole ≡ prefix ++ more → more ≡ m ∷ ms → byte ≡ m → after ≡ escaped ms → now ≡ prefix ++ (byte ∷ []) → Left whole now after
one_less whole prefix rest after more now byte m ms all name is same text pushed = record {
  more = ms;
  bytes = all;
  name = name ∙ ap (λ (xs : List ℕ). prefix ++ xs) (is ∙ ap (λ (b : ℕ). b ∷ ms) (sym same)) ∙ sym (append_assoc prefix (byte ∷ []) ms) ∙ ap (λ (xs : List ℕ). xs ++ ms) (sym pushed);
  text = text;
}

pub empty_is : (xs : List ℕ) → length xs ≡ 0 → xs ≡ []
empty_is [] e = refl
empty_is (x ∷ xs) e = absurd (omega (arith, e))

big_plain : (b : ℕ) → 256 ≤ b → is_escaped b ≡ true → ⊥
big_plain b high is =
    let plain : is_escaped b ≡ false = rw (le-ltb b 33 (omega (arith, high)), ne_eqb b 127 (λ e. omega (arith, high, e)), ne_eqb b 37 (λ e. omega (arith, high, e))) refl in
    cc (plain, is)

byte_by : (test : Bool) (b : ℕ) → is_escaped b ≡ test → AllByRecursion (λ (c : ℕ). c < 256) (cond test (37 ∷ hex_digit (b / 16) ∷ hex_digit (b % 16) ∷ []) (b ∷ [])) → b < 256
byte_by true b is all = elim (cases_lt b 256) [ inl low ↦ low | inr high ↦ absurd (big_plain b high is) ]
byte_by false b is all = all.0

all_parts : (xs ys : List ℕ) → AllByRecursion (λ (c : ℕ). c < 256) (xs ++ ys) → AllByRecursion (λ (c : ℕ). c < 256) xs × AllByRecursion (λ (c : ℕ). c < 256) ys
all_parts [] ys all = (tt, all)
all_parts (x ∷ xs) ys all = let later = all_parts xs ys all.1 in ((all.0, later.0), later.1)

-- a name whose text has bytes has bytes
whole_bytes : (whole : List ℕ) → AllByRecursion (λ (c : ℕ). c < 256) (escaped whole) → AllByRecursion (λ (c : ℕ). c < 256) whole
whole_bytes [] all = tt
whole_bytes (b ∷ bs) all =
    let parts = all_parts (escaped_byte b) (escaped bs) all in
    (byte_by (is_escaped b) b refl parts.0, whole_bytes bs parts.1)

all_below : (xs : List ℕ) → ((k : ℕ) → k < length xs → get_or xs k 0 < 256) → AllByRecursion (λ (c : ℕ). c < 256) xs
all_below [] each = tt
all_below (x ∷ xs) each = (each 0 (omega arith), all_below xs (λ k low. each (suc k) (omega (arith, low))))

-- what a word of bytes is the text of has bytes
pub of_bytes : (word whole : List ℕ) → ((k : ℕ) → get_or word k 0 < 256) → word ≡ escaped whole → AllByRecursion (λ (c : ℕ). c < 256) whole
of_bytes word whole each e =
    let P : List ℕ → Type 0 = λ xs. AllByRecursion (λ (c : ℕ). c < 256) xs in
    whole_bytes whole (subst P e (all_below word (λ k low. each k)))
