-- Characters, sorted by what they are for.
-- The numbers in parentheses are the productions of XML 1.0.
use Rattle.std.specs.Prelude.{◌≡◌, ℕ, Bool, true, false, if◌then◌else◌, ◌==◌, ◌||◌, ◌&&◌, nat_le, List, [], ◌∷◌}
use Prim.Native.Char.{code}
use Rattle.doc_grammar.specs.declared.characters.Class.{Class}
use Rattle.doc_grammar.specs.declared.characters.Class.TheVariants.{Less, Greater, Slash, Bang, Question, Dash, Ampersand, Equal, DoubleQuote, SingleQuote, OpenBracket, CloseBracket, Blank, Letter, Digit, Plain, Bad}

-- a character of XML (2)
abbrev pub is_char : ℕ → Bool
is_char c =
    (c == 0x9) || (c == 0xa) || (c == 0xd) || (nat_le 0x20 c && nat_le c 0xd7ff)
    || (nat_le 0xe000 c && nat_le c 0xfffd) || (nat_le 0x10000 c && nat_le c 0x10ffff)

-- white space (3)
abbrev pub is_blank : ℕ → Bool
is_blank c = (c == code " ") || (c == code "\t") || (c == code "\n") || (c == code "\r")

-- an ASCII letter, `_` or `:` (4)
abbrev pub is_letter : ℕ → Bool
is_letter c =
    (nat_le (code "A") c && nat_le c (code "Z")) || (nat_le (code "a") c && nat_le c (code "z"))
    || (c == code "_") || (c == code ":")

-- what else may stand in a name, but for the dash (4a)
abbrev pub is_digit : ℕ → Bool
is_digit c = (nat_le (code "0") c && nat_le c (code "9")) || (c == code ".")

-- the class of a character that stands for nothing by itself
unfoldable pub other_class : ℕ → Class
other_class c =
    if is_blank c then Blank else if is_letter c then Letter else if is_digit c then Digit
    else if is_char c then (if nat_le 0x80 c then Letter else Plain) else Bad

unfoldable pub class : ℕ → Class
class c =
    if c == code "<" then Less else if c == code ">" then Greater
    else if c == code "/" then Slash else if c == code "!" then Bang
    else if c == code "?" then Question else if c == code "-" then Dash
    else if c == code "&" then Ampersand else if c == code "=" then Equal
    else if c == code "\"" then DoubleQuote else if c == code "'" then SingleQuote
    else if c == code "[" then OpenBracket else if c == code "]" then CloseBracket
    else other_class c

-- what may stand in a name (4a): any character past ASCII, too
abbrev pub names : Class → Bool
names Letter = true
names Digit = true
names Dash = true
names k = false

abbrev pub blanks : Class → Bool
blanks Blank = true
blanks k = false

abbrev pub legal : Class → Bool
legal Bad = false
legal k = true

-- what may stand in text (14), and `]]>` too
abbrev pub is_text : Class → Bool
is_text Less = false
is_text Ampersand = false
is_text Bad = false
is_text k = true

abbrev pub AllOf : (Class → Bool) → List ℕ → Type 0
AllOf p [] = Unit {0}
AllOf p (c ∷ text) = (p (class c) ≡ true) × AllOf p text

-- any white space, or none
abbrev pub IsSpace : List ℕ → Type 0
IsSpace = AllOf blanks

-- a name (5)
abbrev pub IsName : List ℕ → Type 0
IsName [] = ⊥
IsName (c ∷ text) = (class c ≡ Letter) × AllOf names text
