-- The documents: a tree that keeps every choice of spelling, its text, which trees are right, and
-- what each means.
-- The numbers in parentheses are the productions of XML 1.0, those with a point its sections.
use Rattle.std.specs.Prelude.{◌≡◌, ℕ, suc, ◌+◌, ◌-◌, ◌*◌, ◌≤◌, Bool, true, false, if◌then◌else◌, ◌==◌, ◌||◌, ◌&&◌, not, nat_le, nat_lt, List, [], ◌∷◌, ◌++◌, length, map, Option, Some, None, ◌⊎◌, codes}
use Prim.Native.Char.{code}
use Rattle.std.specs.Str.{bytes_eq}
use Rattle.doc_grammar.specs.Characters.{class, is_char, is_blank, blanks, legal, is_text, IsSpace, IsName}
use Rattle.doc_grammar.specs.declared.characters.Class.{Class}
use Rattle.doc_grammar.specs.declared.characters.Class.TheVariants.{Less, Ampersand, DoubleQuote, SingleQuote, Bad}

-- ---- words

pub data Quote : Type 0 where
  with_double with_single : Quote

abbrev pub quote_char : Quote → ℕ
quote_char with_double = code "\""
quote_char with_single = code "'"

-- a letter of ASCII in its small form
abbrev pub fold_case : ℕ → ℕ
fold_case c = if nat_le (code "A") c && nat_le c (code "Z") then c + 32 else c

-- `xml`, in any case (17)
abbrev pub is_xml : List ℕ → Bool
is_xml name = bytes_eq (map fold_case name) (codes "xml")

abbrev pub starts : List ℕ → List ℕ → Bool
starts text [] = true
starts [] (e ∷ prefix) = false
starts (c ∷ text) (e ∷ prefix) = (c == e) && starts text prefix

-- characters among which the ending does not stand
abbrev pub IsFree : List ℕ → List ℕ → Type 0
IsFree ending [] = Unit {0}
IsFree ending (c ∷ text) =
    (legal (class c) ≡ true) × (starts (c ∷ text) ending ≡ false) × IsFree ending text

-- ---- the declaration (23)

-- a part of the declaration
pub data Part : Type 0 where
  version encoding standalone : Part

abbrev pub word : Part → List ℕ
word version = codes "version"
word encoding = codes "encoding"
word standalone = codes "standalone"

-- the case of an encoding does not count
abbrev pub fold_for : Part → ℕ → ℕ
fold_for version c = c
fold_for encoding c = fold_case c
fold_for standalone c = c

-- what a part may say: `1.0` (26), `utf-8` (81), `yes` or `no` (32)
abbrev pub IsSettingValue : Part → List ℕ → Type 0
IsSettingValue version text = text ≡ codes "1.0"
IsSettingValue encoding text = text ≡ codes "utf-8"
IsSettingValue standalone text = (text ≡ codes "yes") ⊎ (text ≡ codes "no")

-- a part: white space, of which there is some, its word, `=` with white space around (25),
-- and its value
pub record Setting : Type 0 where
  pub first : ℕ
  pub before : List ℕ
  pub left : List ℕ
  pub right : List ℕ
  pub quote : Quote
  pub value : List ℕ

-- what follows its word, and then the rest
abbrev pub print_setting_rest : Setting → List ℕ → List ℕ
print_setting_rest s rest =
    s.left ++ code "=" ∷ (s.right ++ quote_char s.quote ∷ (s.value ++ quote_char s.quote ∷ rest))

abbrev pub print_setting : Part → Setting → List ℕ → List ℕ
print_setting part s rest = s.first ∷ (s.before ++ (word part ++ print_setting_rest s rest))

pub record IsSetting (part : Part) (s : Setting) : Type 0 where
  pub first : blanks (class s.first) ≡ true
  pub before : IsSpace s.before
  pub left : IsSpace s.left
  pub right : IsSpace s.right
  pub value : IsSettingValue part (map (fold_for part) s.value)

abbrev pub print_maybe : Part → Option Setting → List ℕ → List ℕ
print_maybe part None rest = rest
print_maybe part (Some s) rest = print_setting part s rest

abbrev pub IsMaybe : Part → Option Setting → Type 0
IsMaybe part None = Unit {0}
IsMaybe part (Some s) = IsSetting part s

pub record Declaration : Type 0 where
  pub version : Setting
  pub encoding : Option Setting
  pub standalone : Option Setting
  pub gap : List ℕ

abbrev pub print_declaration : Declaration → List ℕ → List ℕ
print_declaration d rest =
    codes "<?xml" ++ print_setting version d.version (print_maybe encoding d.encoding
    (print_maybe standalone d.standalone (d.gap ++ (codes "?>" ++ rest))))

pub record IsDeclaration (d : Declaration) : Type 0 where
  pub version : IsSetting version d.version
  pub encoding : IsMaybe encoding d.encoding
  pub standalone : IsMaybe standalone d.standalone
  pub gap : IsSpace d.gap

-- ---- references (67)

pub data Entity : Type 0 where
  lt gt amp apos quot : Entity

-- after the ampersand (68)
abbrev pub entity_text : Entity → List ℕ
entity_text lt = codes "lt;"
entity_text gt = codes "gt;"
entity_text amp = codes "amp;"
entity_text apos = codes "apos;"
entity_text quot = codes "quot;"

abbrev pub entity_code : Entity → ℕ
entity_code lt = code "<"
entity_code gt = code ">"
entity_code amp = code "&"
entity_code apos = code "'"
entity_code quot = code "\""

pub data Base : Type 0 where
  ten sixteen : Base

abbrev pub radix : Base → ℕ
radix ten = 10
radix sixteen = 16

abbrev pub is_numeral : Base → ℕ → Bool
is_numeral ten c = nat_le (code "0") c && nat_le c (code "9")
is_numeral sixteen c =
    (nat_le (code "0") c && nat_le c (code "9")) || (nat_le (code "a") c && nat_le c (code "f"))
    || (nat_le (code "A") c && nat_le c (code "F"))

-- the number of a digit
abbrev pub digit : ℕ → ℕ
digit c =
    if nat_le c (code "9") then c - code "0" else if nat_le c (code "F") then c - (code "A" - 10)
    else c - (code "a" - 10)

-- a number with one digit more
abbrev pub with_digit : Base → ℕ → ℕ → ℕ
with_digit base n c = radix base * n + digit c

abbrev pub with_digits : Base → ℕ → List ℕ → ℕ
with_digits base n [] = n
with_digits base n (c ∷ digits) = with_digits base (with_digit base n c) digits

abbrev pub AllNumerals : Base → List ℕ → Type 0
AllNumerals base [] = Unit {0}
AllNumerals base (c ∷ digits) = (is_numeral base c ≡ true) × AllNumerals base digits

-- an entity, or a number by its digits (66)
pub data Reference : Type 0 where
  named : Entity → Reference
  numbered : Base → ℕ → List ℕ → Reference

abbrev pub base_mark : Base → List ℕ
base_mark ten = []
base_mark sixteen = codes "x"

-- after the ampersand, and then the rest
abbrev pub print_reference : Reference → List ℕ → List ℕ
print_reference (named e) rest = entity_text e ++ rest
print_reference (numbered base c digits) rest =
    code "#" ∷ (base_mark base ++ c ∷ (digits ++ code ";" ∷ rest))

-- the character that it names
abbrev pub code_of : Reference → ℕ
code_of (named e) = entity_code e
code_of (numbered base c digits) = with_digits base 0 (c ∷ digits)

abbrev pub IsReference : Reference → Type 0
IsReference (named e) = Unit {0}
IsReference (numbered base c digits) =
    AllNumerals base (c ∷ digits) × (is_char (with_digits base 0 (c ∷ digits)) ≡ true)

-- ---- attributes (41)

-- what may stand raw between these quotes (10)
abbrev pub is_valued : Quote → Class → Bool
is_valued with_double DoubleQuote = false
is_valued with_single SingleQuote = false
is_valued q Less = false
is_valued q Ampersand = false
is_valued q Bad = false
is_valued q k = true

-- a value's piece
pub data Piece : Type 0 where
  raw : ℕ → Piece
  ref : Reference → Piece

abbrev pub print_value : List Piece → List ℕ → List ℕ
print_value [] rest = rest
print_value (raw c ∷ ps) rest = c ∷ print_value ps rest
print_value (ref r ∷ ps) rest = code "&" ∷ print_reference r (print_value ps rest)

abbrev pub IsValue : Quote → List Piece → Type 0
IsValue q [] = Unit {0}
IsValue q (raw c ∷ ps) = (is_valued q (class c) ≡ true) × IsValue q ps
IsValue q (ref r ∷ ps) = IsReference r × IsValue q ps

-- raw white space becomes a space (3.3.3);
-- a line feed right after a carriage return belongs to it (2.11)
abbrev pub raw_value : Bool → ℕ → List ℕ
raw_value after_return c =
    if after_return && (c == code "\n") then [] else (if is_blank c then code " " else c) ∷ []

-- what the pieces mean, where the one before them is a raw carriage return or is none
abbrev pub value_of : Bool → List Piece → List ℕ
value_of after_return [] = []
value_of after_return (raw c ∷ ps) = raw_value after_return c ++ value_of (c == code "\r") ps
value_of after_return (ref r ∷ ps) = code_of r ∷ value_of false ps

-- an attribute, with the white space around its parts; at least one character of it stands before
-- the name
pub record Attr : Type 0 where
  pub first : ℕ
  pub before : List ℕ
  pub name : List ℕ
  pub left : List ℕ
  pub right : List ℕ
  pub quote : Quote
  pub value : List Piece

-- the attribute from its name on, and then the rest
abbrev pub print_named : Attr → List ℕ → List ℕ
print_named a rest =
    a.name ++ (a.left ++ code "=" ∷
    (a.right ++ quote_char a.quote ∷ print_value a.value (quote_char a.quote ∷ rest)))

abbrev pub print_attr : Attr → List ℕ → List ℕ
print_attr a rest = a.first ∷ (a.before ++ print_named a rest)

abbrev pub print_attrs : List Attr → List ℕ → List ℕ
print_attrs [] rest = rest
print_attrs (a ∷ xs) rest = print_attr a (print_attrs xs rest)

-- a name and its value
abbrev pub Pair : Type 0
Pair = List ℕ × List ℕ

abbrev pub attr_of : Attr → Pair
attr_of a = (a.name, value_of false a.value)

abbrev pub has : List Pair → List ℕ → Bool
has [] name = false
has (p ∷ ps) name = bytes_eq p.0 name || has ps name

-- The two limits. A document keeps both; where a fault is told, one of them is lifted.
pub record Limits : Type 0 where
  pub deep : Bool
  pub twice : Bool

abbrev pub strict : Limits
strict = record { deep = false; twice = false }

-- elements may stand as deep as they like
abbrev pub deeper : Limits
deeper = record { deep = true; twice = false }

-- names may come again
abbrev pub repeated : Limits
repeated = record { deep = false; twice = true }

-- whether an element may stand inside so many open ones
abbrev pub may_stand : Limits → ℕ → Bool
may_stand l depth = l.deep || nat_lt depth 64

-- whether a tag that has these attributes may not have this name
abbrev pub clashes : Limits → List Pair → List ℕ → Bool
clashes l seen name = not l.twice && has seen name

-- an attribute in a tag that has these already
pub record IsAttr (l : Limits) (seen : List Pair) (a : Attr) : Type 0 where
  pub first : blanks (class a.first) ≡ true
  pub before : IsSpace a.before
  pub name : IsName a.name
  pub left : IsSpace a.left
  pub right : IsSpace a.right
  pub value : IsValue a.quote a.value
  pub once : clashes l seen a.name ≡ false

abbrev pub IsAttrs : Limits → List Pair → List Attr → Type 0
IsAttrs l seen [] = Unit {0}
IsAttrs l seen (a ∷ xs) = IsAttr l seen a × IsAttrs l (seen ++ attr_of a ∷ []) xs

-- ---- elements

-- a tag from its name to the end of its white space (40, 44)
pub record Tag : Type 0 where
  pub name : List ℕ
  pub attrs : List Attr
  pub gap : List ℕ

abbrev pub print_tag : Tag → List ℕ → List ℕ
print_tag t rest = t.name ++ print_attrs t.attrs (t.gap ++ rest)

pub record IsTag (l : Limits) (t : Tag) : Type 0 where
  pub name : IsName t.name
  pub attrs : IsAttrs l [] t.attrs
  pub gap : IsSpace t.gap

-- the text of a comment (15): after a dash comes another character, before the end too
abbrev pub no_dash_first : List ℕ → Bool
no_dash_first [] = false
no_dash_first (c ∷ text) = not (c == code "-")

abbrev pub IsComment : List ℕ → Type 0
IsComment [] = Unit {0}
IsComment (c ∷ text) =
    (legal (class c) ≡ true) × (c ≡ code "-" → no_dash_first text ≡ true) × IsComment text

-- the target of a processing instruction (17)
pub record IsTarget (target : List ℕ) : Type 0 where
  pub name : IsName target
  pub other : is_xml target ≡ false

-- what comes after the target (16): nothing, or white space and any text up to the ending
abbrev pub IsInstruction : List ℕ → Type 0
IsInstruction [] = Unit {0}
IsInstruction (c ∷ text) = (blanks (class c) ≡ true) × IsFree (codes "?>") text

-- the text of a CDATA section (20)
abbrev pub IsSection : List ℕ → Type 0
IsSection = IsFree (codes "]]>")

-- What stands one after another (43): each form, and what follows it.
pub data Content : Type 0 where
  done : Content
  char : ℕ → Content → Content
  reference : Reference → Content → Content
  comment : List ℕ → Content → Content
  instruction : List ℕ → List ℕ → Content → Content
  section : List ℕ → Content → Content
  empty : Tag → Content → Content
  element : Tag → Content → List ℕ → Content → Content

-- comments (15), processing instructions (16), sections (18), empty elements (44),
-- elements (39, 40, 42)
abbrev pub print : Content → List ℕ → List ℕ
print done rest = rest
print (char b c) rest = b ∷ print c rest
print (reference r c) rest = code "&" ∷ print_reference r (print c rest)
print (comment t c) rest = codes "<!--" ++ (t ++ (codes "-->" ++ print c rest))
print (instruction target t c) rest = codes "<?" ++ (target ++ (t ++ (codes "?>" ++ print c rest)))
print (section t c) rest = codes "<![CDATA[" ++ (t ++ (codes "]]>" ++ print c rest))
print (empty t c) rest = code "<" ∷ print_tag t (codes "/>" ++ print c rest)
print (element t kids gap c) rest =
    code "<" ∷ print_tag t (code ">" ∷ print kids
    (codes "</" ++ (t.name ++ (gap ++ code ">" ∷ print c rest))))

-- inside so many open elements
abbrev pub IsContent : Limits → ℕ → Content → Type 0
IsContent l depth done = Unit {0}
IsContent l depth (char b c) = (is_text (class b) ≡ true) × IsContent l depth c
IsContent l depth (reference r c) = IsReference r × IsContent l depth c
IsContent l depth (comment t c) = IsComment t × IsContent l depth c
IsContent l depth (instruction target t c) = IsTarget target × IsInstruction t × IsContent l depth c
IsContent l depth (section t c) = IsSection t × IsContent l depth c
IsContent l depth (empty t c) = (may_stand l depth ≡ true) × IsTag l t × IsContent l depth c
IsContent l depth (element t kids gap c) =
    (may_stand l depth ≡ true) × IsTag l t × IsContent l (suc depth) kids × IsSpace gap
    × IsContent l depth c

-- after the root (27)
abbrev pub IsMisc : Content → Type 0
IsMisc done = Unit {0}
IsMisc (char b c) = (blanks (class b) ≡ true) × IsMisc c
IsMisc (comment t c) = IsComment t × IsMisc c
IsMisc (instruction target t c) = IsTarget target × IsInstruction t × IsMisc c
IsMisc (reference r c) = ⊥
IsMisc (section t c) = ⊥
IsMisc (empty t c) = ⊥
IsMisc (element t kids gap c) = ⊥

-- one element, and before it and after it what may stand there (1, 22)
abbrev pub IsWhole : Limits → Content → Type 0
IsWhole l done = ⊥
IsWhole l (char b c) = (blanks (class b) ≡ true) × IsWhole l c
IsWhole l (comment t c) = IsComment t × IsWhole l c
IsWhole l (instruction target t c) = IsTarget target × IsInstruction t × IsWhole l c
IsWhole l (reference r c) = ⊥
IsWhole l (section t c) = ⊥
IsWhole l (empty t c) = IsTag l t × IsMisc c
IsWhole l (element t kids gap c) = IsTag l t × IsContent l 1 kids × IsSpace gap × IsMisc c

-- ---- documents

-- an element begins or ends, in document order
pub data Event : Type 0 where
  begin : List ℕ → List Pair → Event
  close : Event

abbrev pub tag_event : Tag → Event
tag_event t = begin t.name (map attr_of t.attrs)

abbrev pub events : Content → List Event → List Event
events done more = more
events (char b c) more = events c more
events (reference r c) more = events c more
events (comment t c) more = events c more
events (instruction target t c) more = events c more
events (section t c) more = events c more
events (empty t c) more = tag_event t ∷ close ∷ events c more
events (element t kids gap c) more = tag_event t ∷ events kids (close ∷ events c more)

-- a text without a declaration
abbrev pub Body : Limits → List ℕ → List Event → Type 0
Body l text tree = (c : Content) × IsWhole l c × (text ≡ print c []) × (tree ≡ events c [])

-- a text without a byte order mark
abbrev pub Unmarked : Limits → List ℕ → List Event → Type 0
Unmarked l text tree =
    Body l text tree
    ⊎ ((d : Declaration) × (rest : List ℕ) × IsDeclaration d × (text ≡ print_declaration d rest)
    × Body l rest tree)

-- a signature of the encoding, which is no part of the document (4.3.3)
abbrev pub byte_order_mark : ℕ
byte_order_mark = 0xfeff

-- a document's text, perhaps after a byte order mark, and what it says
abbrev pub Document : Limits → List ℕ → List Event → Type 0
Document l text tree =
    Unmarked l text tree
    ⊎ ((rest : List ℕ) × (text ≡ byte_order_mark ∷ rest) × Unmarked l rest tree)

-- some document begins so
abbrev pub Begins : Limits → List ℕ → Type 0
Begins l p = (rest : List ℕ) × (tree : List Event) × Document l (p ++ rest) tree

-- p is the longest prefix of the text that some document begins with
pub record IsLongest (l : Limits) (text p : List ℕ) : Type 0 where
  pub prefix : (rest : List ℕ) × (text ≡ p ++ rest)
  pub begins : Begins l p
  pub longest : (q rest : List ℕ) → text ≡ q ++ rest → Begins l q → length q ≤ length p
