-- The classes of single characters.
use Rattle.std.proofs.Common.{◌≡◌, ℕ, Bool, true, false, refl, sym, ap, ◌∙◌, arith, ◌≤◌, ◌<◌, ◌⊎◌, inl, inr, cond, leb}
use Rattle.std.proofs.lemmas.Bool.Decides.{nat_tests}
use Rattle.doc_grammar.specs.Characters.{class, other_class, blanks, is_char, is_blank, is_letter, is_digit}
use Rattle.doc_grammar.specs.declared.characters.Class.{Class}
use Rattle.doc_grammar.specs.declared.characters.Class.TheVariants.{Less, Greater, Slash, Bang, Question, Dash, Ampersand, Equal, DoubleQuote, SingleQuote, OpenBracket, CloseBracket, Blank, Letter, Digit, Plain, Bad}

abbrev is_mark : Class → Bool
is_mark Blank = false
is_mark Letter = false
is_mark Digit = false
is_mark Plain = false
is_mark Bad = false
is_mark k = true

no_mark : (t u v w x : Bool) → is_mark (cond t Blank (cond u Letter (cond v Digit (cond w (cond x Letter Plain) Bad)))) ≡ false
no_mark true u v w x = refl
no_mark false true v w x = refl
no_mark false false true w x = refl
no_mark false false false true true = refl
no_mark false false false true false = refl
no_mark false false false false x = refl

other_mark : (b : ℕ) (k : Class) → is_mark k ≡ true → other_class b ≡ k → ⊥
unfolding other_class
other_mark b k h e = let f = sym (no_mark (is_blank b) (is_letter b) (is_digit b) (is_char b) (leb 128 b)) ∙ ap is_mark e ∙ h in cc

pub less_is : (b : ℕ) → class b ≡ Less → b ≡ 60
unfolding class
less_is b e = let f = other_mark b Less refl in grind (arith, nat_tests)

pub class_less : class 60 ≡ Less
unfolding class
class_less = refl

pub greater_is : (b : ℕ) → class b ≡ Greater → b ≡ 62
unfolding class
greater_is b e = let f = other_mark b Greater refl in grind (arith, nat_tests)

pub class_greater : class 62 ≡ Greater
unfolding class
class_greater = refl

pub slash_is : (b : ℕ) → class b ≡ Slash → b ≡ 47
unfolding class
slash_is b e = let f = other_mark b Slash refl in grind (arith, nat_tests)

pub class_slash : class 47 ≡ Slash
unfolding class
class_slash = refl

pub bang_is : (b : ℕ) → class b ≡ Bang → b ≡ 33
unfolding class
bang_is b e = let f = other_mark b Bang refl in grind (arith, nat_tests)

pub class_bang : class 33 ≡ Bang
unfolding class
class_bang = refl

pub question_is : (b : ℕ) → class b ≡ Question → b ≡ 63
unfolding class
question_is b e = let f = other_mark b Question refl in grind (arith, nat_tests)

pub class_question : class 63 ≡ Question
unfolding class
class_question = refl

pub dash_is : (b : ℕ) → class b ≡ Dash → b ≡ 45
unfolding class
dash_is b e = let f = other_mark b Dash refl in grind (arith, nat_tests)

pub class_dash : class 45 ≡ Dash
unfolding class
class_dash = refl

pub ampersand_is : (b : ℕ) → class b ≡ Ampersand → b ≡ 38
unfolding class
ampersand_is b e = let f = other_mark b Ampersand refl in grind (arith, nat_tests)

pub class_ampersand : class 38 ≡ Ampersand
unfolding class
class_ampersand = refl

pub equal_is : (b : ℕ) → class b ≡ Equal → b ≡ 61
unfolding class
equal_is b e = let f = other_mark b Equal refl in grind (arith, nat_tests)

pub class_equal : class 61 ≡ Equal
unfolding class
class_equal = refl

pub double_is : (b : ℕ) → class b ≡ DoubleQuote → b ≡ 34
unfolding class
double_is b e = let f = other_mark b DoubleQuote refl in grind (arith, nat_tests)

pub class_double : class 34 ≡ DoubleQuote
unfolding class
class_double = refl

pub single_is : (b : ℕ) → class b ≡ SingleQuote → b ≡ 39
unfolding class
single_is b e = let f = other_mark b SingleQuote refl in grind (arith, nat_tests)

pub class_single : class 39 ≡ SingleQuote
unfolding class
class_single = refl

pub open_bracket_is : (b : ℕ) → class b ≡ OpenBracket → b ≡ 91
unfolding class
open_bracket_is b e = let f = other_mark b OpenBracket refl in grind (arith, nat_tests)

pub class_open_bracket : class 91 ≡ OpenBracket
unfolding class
class_open_bracket = refl

pub close_bracket_is : (b : ℕ) → class b ≡ CloseBracket → b ≡ 93
unfolding class
close_bracket_is b e = let f = other_mark b CloseBracket refl in grind (arith, nat_tests)

pub class_close_bracket : class 93 ≡ CloseBracket
unfolding class
class_close_bracket = refl

pub class_of_a : class 97 ≡ Letter
unfolding class other_class
class_of_a = refl

pub class_of_D : class 68 ≡ Letter
unfolding class other_class
class_of_D = refl

pub class_of_space : class 32 ≡ Blank
unfolding class other_class
class_of_space = refl

pub class_of_mark : class 65279 ≡ Letter
unfolding class other_class
class_of_mark = refl

pub blank_is : (k : Class) → blanks k ≡ true → k ≡ Blank
blank_is Blank h = refl
blank_is k h = cc

blank_from : (b : ℕ) (t u v w x : Bool) → cond t Blank (cond u Letter (cond v Digit (cond w (cond x Letter Plain) Bad))) ≡ Blank → t ≡ true
blank_from b true u v w x e = refl
blank_from b false true v w x e = cc
blank_from b false false true w x e = cc
blank_from b false false false true true e = cc
blank_from b false false false true false e = cc
blank_from b false false false false x e = cc

other_blank : (b : ℕ) → other_class b ≡ Blank → b < 128
unfolding other_class
other_blank b e = let f = blank_from b (is_blank b) (is_letter b) (is_digit b) (is_char b) (leb 128 b) e in grind (arith, nat_tests)

-- white space is ASCII
pub blank_low : (b : ℕ) → class b ≡ Blank → b < 128
unfolding class
blank_low b e = let f = other_blank b in grind (arith, nat_tests)

high_from : (t u v w x : Bool) → t ≡ false → u ≡ false → v ≡ false → x ≡ true → let k = cond t Blank (cond u Letter (cond v Digit (cond w (cond x Letter Plain) Bad))) in (k ≡ Letter) ⊎ (k ≡ Bad)
high_from false false false true true e f g h = inl refl
high_from false false false false x e f g h = inr refl
high_from false false false true false e f g h = cc
high_from true u v w x e f g h = cc
high_from false true v w x e f g h = cc
high_from false false true w x e f g h = cc

other_high : (b : ℕ) → 128 ≤ b → (other_class b ≡ Letter) ⊎ (other_class b ≡ Bad)
unfolding other_class
other_high b h =
    let e : is_blank b ≡ false = grind (arith, nat_tests) in
    let f : is_letter b ≡ false = grind (arith, nat_tests) in
    let g : is_digit b ≡ false = grind (arith, nat_tests) in
    let i : leb 128 b ≡ true = grind (arith, nat_tests) in
    high_from (is_blank b) (is_letter b) (is_digit b) (is_char b) (leb 128 b) e f g i

class_high : (b : ℕ) → 128 ≤ b → class b ≡ other_class b
unfolding class
class_high b h = grind (arith, nat_tests)

-- a character past ASCII may stand in a name, or nowhere
pub high_class : (b : ℕ) → 128 ≤ b → (class b ≡ Letter) ⊎ (class b ≡ Bad)
high_class b h =
    let e = class_high b h in
    elim (other_high b h) [ inl f ↦ inl (e ∙ f) | inr f ↦ inr (e ∙ f) ]

bad_from : (t u v w x : Bool) → cond t Blank (cond u Letter (cond v Digit (cond w (cond x Letter Plain) Bad))) ≡ Bad → w ≡ false
bad_from true u v w x e = cc
bad_from false true v w x e = cc
bad_from false false true w x e = cc
bad_from false false false true true e = cc
bad_from false false false true false e = cc
bad_from false false false false x e = refl

other_bad : (b : ℕ) → other_class b ≡ Bad → is_char b ≡ false
unfolding other_class
other_bad b e = bad_from (is_blank b) (is_letter b) (is_digit b) (is_char b) (leb 128 b) e

-- no character of XML
pub bad_char : (b : ℕ) → class b ≡ Bad → is_char b ≡ false
unfolding class
bad_char b e = let f = other_bad b in grind (arith, nat_tests)

bad_else : (t u v w x : Bool) → t ≡ false → u ≡ false → v ≡ false → w ≡ false → cond t Blank (cond u Letter (cond v Digit (cond w (cond x Letter Plain) Bad))) ≡ Bad
bad_else false false false false x e f g h = refl
bad_else true u v w x e f g h = cc
bad_else false true v w x e f g h = cc
bad_else false false true w x e f g h = cc
bad_else false false false true x e f g h = cc

outside : (b : ℕ) → is_char b ≡ false → (b < 32) ⊎ (55295 < b)
outside b h = grind (arith, nat_tests)

class_outside : (b : ℕ) → (b < 32) ⊎ (55295 < b) → class b ≡ other_class b
unfolding class
class_outside b (inl h) = grind (arith, nat_tests)
class_outside b (inr h) = grind (arith, nat_tests)

other_outside : (b : ℕ) → is_char b ≡ false → (b < 32) ⊎ (55295 < b) → other_class b ≡ Bad
unfolding other_class
other_outside b h k = bad_else (is_blank b) (is_letter b) (is_digit b) (is_char b) (leb 128 b) (no_blank h) (no_letter k) (no_digit k) h
  where
    no_blank : is_char b ≡ false → is_blank b ≡ false
    no_blank h = grind (arith, nat_tests)

    no_letter : (b < 32) ⊎ (55295 < b) → is_letter b ≡ false
    no_letter k = grind (arith, nat_tests)

    no_digit : (b < 32) ⊎ (55295 < b) → is_digit b ≡ false
    no_digit k = grind (arith, nat_tests)

-- what is no character may stand nowhere
pub outside_bad : (b : ℕ) → is_char b ≡ false → class b ≡ Bad
outside_bad b h = let k = outside b h in class_outside b k ∙ other_outside b h k
