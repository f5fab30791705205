-- A document's text is of characters, and so its bytes are UTF-8.
use Rattle.std.proofs.Common.{◌≡◌, ℕ, suc, ◌<◌, Bool, true, false, List, [], ◌∷◌, ◌++◌, map, inl, inr, refl, sym, ap, ◌∙◌, subst, arith, Option, Some, None}
use Rattle.std.proofs.lemmas.Bool.Decides.{nat_tests}
use Rattle.std.proofs.lemmas.Str.{IsUtf8-append, IsUtf8-encode, IsUtf8-nil}
use Rattle.std.specs.Str.{encode_utf8_all, IsUtf8}
use Rattle.std.specs.Char.{IsScalar}
use Rattle.doc_grammar.specs.Characters.{class, is_char, names, blanks, legal, is_text, AllOf, IsSpace, IsName}
use Rattle.doc_grammar.specs.Grammar.{Limits, Quote, with_double, with_single, quote_char, is_valued, Part, version, encoding, standalone, word, fold_for, IsSettingValue, Setting, print_setting, IsSetting, print_maybe, IsMaybe, Declaration, print_declaration, IsDeclaration, Entity, lt, gt, amp, apos, quot, entity_text, Base, ten, sixteen, is_numeral, AllNumerals, Reference, named, numbered, base_mark, print_reference, IsReference, Piece, raw, ref, print_value, IsValue, Attr, print_attrs, IsAttrs, Tag, print_tag, IsTag, IsComment, IsFree, IsInstruction, IsTarget, Content, done, char, reference, comment, instruction, section, empty, element, print, IsContent, IsMisc, IsWhole, Event, Body, Unmarked, Document, Pair, attr_of}
use Rattle.doc_grammar.specs.Faults.{IsDocument}
use Rattle.doc_grammar.specs.declared.characters.Class.{Class}
use Rattle.doc_grammar.specs.declared.characters.Class.TheVariants.{Bad}
use Rattle.doc_grammar.proofs.Classes.{outside_bad}

abbrev pub AllChars : List ℕ → Type 0
AllChars [] = Unit {0}
AllChars (c ∷ text) = (is_char c ≡ true) × AllChars text

not_false : (t : Bool) → (t ≡ false → ⊥) → t ≡ true
not_false true h = refl
not_false false h = absurd (h refl)

-- what may stand anywhere is a character
class_char : (p : Class → Bool) → p Bad ≡ false → (c : ℕ) → p (class c) ≡ true → is_char c ≡ true
class_char p f c h = not_false (is_char c) (λ e. let z = sym (ap p (outside_bad c e)) ∙ h in cc)

all_chars : (p : Class → Bool) → p Bad ≡ false → (t : List ℕ) → AllOf p t → AllChars t
all_chars p f [] h = tt
all_chars p f (c ∷ t) h = (class_char p f c h.0, all_chars p f t h.1)

both : (a b : List ℕ) → AllChars a → AllChars b → AllChars (a ++ b)
both [] b h k = k
both (c ∷ a) b h k = (h.0, both a b h.1 k)

spaces : (t : List ℕ) → IsSpace t → AllChars t
spaces t h = all_chars blanks refl t h

name_chars : (t : List ℕ) → IsName t → AllChars t
name_chars [] h = absurd h
name_chars (c ∷ t) h = (class_char names refl c (ap names h.0), all_chars names refl t h.1)

free_chars : (e t : List ℕ) → IsFree e t → AllChars t
free_chars e [] h = tt
free_chars e (c ∷ t) h = (class_char legal refl c h.0, free_chars e t h.2)

comment_chars : (t : List ℕ) → IsComment t → AllChars t
comment_chars [] h = tt
comment_chars (c ∷ t) h = (class_char legal refl c h.0, comment_chars t h.2)

instruction_chars : (t : List ℕ) → IsInstruction t → AllChars t
instruction_chars [] h = tt
instruction_chars (c ∷ t) h = (class_char blanks refl c h.0, free_chars (63 ∷ 62 ∷ []) t h.1)

quote_is_char : (q : Quote) → is_char (quote_char q) ≡ true
quote_is_char with_double = refl
quote_is_char with_single = refl

-- references
numeral_char : (base : Base) (c : ℕ) → is_numeral base c ≡ true → is_char c ≡ true
numeral_char ten c h = grind (arith, nat_tests)
numeral_char sixteen c h = grind (arith, nat_tests)

numerals : (base : Base) (ds : List ℕ) → AllNumerals base ds → AllChars ds
numerals base [] h = tt
numerals base (c ∷ ds) h = (numeral_char base c h.0, numerals base ds h.1)

entity_chars : (e : Entity) → AllChars (entity_text e)
entity_chars lt = (refl, (refl, (refl, tt)))
entity_chars gt = (refl, (refl, (refl, tt)))
entity_chars amp = (refl, (refl, (refl, (refl, tt))))
entity_chars apos = (refl, (refl, (refl, (refl, (refl, tt)))))
entity_chars quot = (refl, (refl, (refl, (refl, (refl, tt)))))

mark_chars : (base : Base) → AllChars (base_mark base)
mark_chars ten = tt
mark_chars sixteen = (refl, tt)

reference_chars : (r : Reference) (k : List ℕ) → IsReference r → AllChars k → AllChars (print_reference r k)
reference_chars (named e) k h g = both (entity_text e) k (entity_chars e) g
reference_chars (numbered base c ds) k h g = (refl, both (base_mark base) (c ∷ (ds ++ 59 ∷ k)) (mark_chars base) (numeral_char base c h.0.0, both ds (59 ∷ k) (numerals base ds h.0.1) (refl, g)))

-- attributes
valued_bad : (q : Quote) → is_valued q Bad ≡ false
valued_bad with_double = refl
valued_bad with_single = refl

value_chars : (q : Quote) (ps : List Piece) (k : List ℕ) → IsValue q ps → AllChars k → AllChars (print_value ps k)
value_chars q [] k h g = g
value_chars q (raw c ∷ ps) k h g = (class_char (is_valued q) (valued_bad q) c h.0, value_chars q ps k h.1 g)
value_chars q (ref r ∷ ps) k h g = (refl, reference_chars r (print_value ps k) h.0 (value_chars q ps k h.1 g))

attrs_chars : (l : Limits) (seen : List Pair) (xs : List Attr) (k : List ℕ) → IsAttrs l seen xs → AllChars k → AllChars (print_attrs xs k)
attrs_chars l seen [] k h g = g
attrs_chars l seen (a ∷ xs) k h g =
    let r = attrs_chars l (seen ++ attr_of a ∷ []) xs k h.1 g in
    let k1 = quote_char a.quote ∷ print_attrs xs k in
    let k2 = quote_char a.quote ∷ print_value a.value k1 in
    let k3 = 61 ∷ (a.right ++ k2) in
    let c1 : AllChars k1 = (quote_is_char a.quote, r) in
    let c2 : AllChars k2 = (quote_is_char a.quote, value_chars a.quote a.value k1 h.0.value c1) in
    let c3 : AllChars k3 = (refl, both a.right k2 (spaces a.right h.0.right) c2) in
    (class_char blanks refl a.first h.0.first, both a.before (a.name ++ (a.left ++ k3)) (spaces a.before h.0.before) (both a.name (a.left ++ k3) (name_chars a.name h.0.name) (both a.left k3 (spaces a.left h.0.left) c3)))

tag_chars : (l : Limits) (t : Tag) (k : List ℕ) → IsTag l t → AllChars k → AllChars (print_tag t k)
tag_chars l t k h g = both t.name (print_attrs t.attrs (t.gap ++ k)) (name_chars t.name h.name) (attrs_chars l [] t.attrs (t.gap ++ k) h.attrs (both t.gap k (spaces t.gap h.gap) g))

end_chars : (l : Limits) (t : Tag) (gap k : List ℕ) → IsTag l t → IsSpace gap → AllChars k → AllChars (60 ∷ 47 ∷ (t.name ++ (gap ++ 62 ∷ k)))
end_chars l t gap k h s g = (refl, (refl, both t.name (gap ++ 62 ∷ k) (name_chars t.name h.name) (both gap (62 ∷ k) (spaces gap s) (refl, g))))

comment_all : (t k : List ℕ) → IsComment t → AllChars k → AllChars (60 ∷ 33 ∷ 45 ∷ 45 ∷ (t ++ 45 ∷ 45 ∷ 62 ∷ k))
comment_all t k h g = (refl, (refl, (refl, (refl, both t (45 ∷ 45 ∷ 62 ∷ k) (comment_chars t h) (refl, (refl, (refl, g)))))))

instruction_all : (n t k : List ℕ) → IsTarget n → IsInstruction t → AllChars k → AllChars (60 ∷ 63 ∷ (n ++ (t ++ 63 ∷ 62 ∷ k)))
instruction_all n t k y z g = (refl, (refl, both n (t ++ 63 ∷ 62 ∷ k) (name_chars n y.name) (both t (63 ∷ 62 ∷ k) (instruction_chars t z) (refl, (refl, g)))))

content_chars : (l : Limits) (d : ℕ) (c : Content) (k : List ℕ) → IsContent l d c → AllChars k → AllChars (print c k)
content_chars l d done k h g = g
content_chars l d (char b c) k h g = (class_char is_text refl b h.0, content_chars l d c k h.1 g)
content_chars l d (reference r c) k h g = (refl, reference_chars r (print c k) h.0 (content_chars l d c k h.1 g))
content_chars l d (comment t c) k h g = comment_all t (print c k) h.0 (content_chars l d c k h.1 g)
content_chars l d (instruction n t c) k h g = instruction_all n t (print c k) h.0 h.1 (content_chars l d c k h.2 g)
content_chars l d (section t c) k h g =
    (refl, (refl, (refl, (refl, (refl, (refl, (refl, (refl, (refl, both t (93 ∷ 93 ∷ 62 ∷ print c k) (free_chars (93 ∷ 93 ∷ 62 ∷ []) t h.0) (refl, (refl, (refl, content_chars l d c k h.1 g))))))))))))
content_chars l d (empty t c) k h g = (refl, tag_chars l t (47 ∷ 62 ∷ print c k) h.1 (refl, (refl, content_chars l d c k h.2 g)))
content_chars l d (element t kids gap c) k h g =
    let q = 60 ∷ 47 ∷ (t.name ++ (gap ++ 62 ∷ print c k)) in
    (refl, tag_chars l t (62 ∷ print kids q) h.1 (refl, content_chars l (suc d) kids q h.2 (end_chars l t gap (print c k) h.1 h.3 (content_chars l d c k h.4 g))))

misc_chars : (c : Content) → IsMisc c → AllChars (print c [])
misc_chars done h = tt
misc_chars (char b c) h = (class_char blanks refl b h.0, misc_chars c h.1)
misc_chars (comment t c) h = comment_all t (print c []) h.0 (misc_chars c h.1)
misc_chars (instruction n t c) h = instruction_all n t (print c []) h.0 h.1 (misc_chars c h.2)
misc_chars (reference r c) h = absurd h
misc_chars (section t c) h = absurd h
misc_chars (empty t c) h = absurd h
misc_chars (element t kids gap c) h = absurd h

whole_chars : (l : Limits) (c : Content) → IsWhole l c → AllChars (print c [])
whole_chars l done h = absurd h
whole_chars l (char b c) h = (class_char blanks refl b h.0, whole_chars l c h.1)
whole_chars l (comment t c) h = comment_all t (print c []) h.0 (whole_chars l c h.1)
whole_chars l (instruction n t c) h = instruction_all n t (print c []) h.0 h.1 (whole_chars l c h.2)
whole_chars l (reference r c) h = absurd h
whole_chars l (section t c) h = absurd h
whole_chars l (empty t c) h = (refl, tag_chars l t (47 ∷ 62 ∷ print c []) h.0 (refl, (refl, misc_chars c h.1)))
whole_chars l (element t kids gap c) h =
    let q = 60 ∷ 47 ∷ (t.name ++ (gap ++ 62 ∷ print c [])) in
    (refl, tag_chars l t (62 ∷ print kids q) h.0 (refl, content_chars l 1 kids q h.1 (end_chars l t gap (print c []) h.0 h.2 (misc_chars c h.3))))

-- the declaration
word_chars : (part : Part) → AllChars (word part)
word_chars version = (refl, (refl, (refl, (refl, (refl, (refl, (refl, tt)))))))
word_chars encoding = (refl, (refl, (refl, (refl, (refl, (refl, (refl, (refl, tt))))))))
word_chars standalone = (refl, (refl, (refl, (refl, (refl, (refl, (refl, (refl, (refl, (refl, tt))))))))))

fold_for_char : (part : Part) (c : ℕ) → is_char (fold_for part c) ≡ true → fold_for part c < 128 → is_char c ≡ true
fold_for_char version c h k = h
fold_for_char encoding c h k = grind (arith, nat_tests)
fold_for_char standalone c h k = h

-- characters of ASCII
abbrev AllSmall : List ℕ → Type 0
AllSmall [] = Unit {0}
AllSmall (c ∷ t) = ((is_char c ≡ true) × (c < 128)) × AllSmall t

unfolded : (part : Part) (v t : List ℕ) → map (fold_for part) v ≡ t → AllSmall t → AllChars v
unfolded part [] t e h = tt
unfolded part (c ∷ v) [] e h = cc
unfolded part (c ∷ v) (d ∷ t) e h =
    let z : d ≡ fold_for part c = cc in
    (fold_for_char part c (subst (λ y. is_char y ≡ true) z h.0.0) (subst (λ y. y < 128) z h.0.1), unfolded part v t (cc e) h.1)

setting_value_chars : (part : Part) (v : List ℕ) → IsSettingValue part (map (fold_for part) v) → AllChars v
setting_value_chars version v h = unfolded version v _ h ((refl, omega arith), ((refl, omega arith), ((refl, omega arith), tt)))
setting_value_chars encoding v h = unfolded encoding v _ h ((refl, omega arith), ((refl, omega arith), ((refl, omega arith), ((refl, omega arith), ((refl, omega arith), tt)))))
setting_value_chars standalone v (inl h) = unfolded standalone v _ h ((refl, omega arith), ((refl, omega arith), ((refl, omega arith), tt)))
setting_value_chars standalone v (inr h) = unfolded standalone v _ h ((refl, omega arith), ((refl, omega arith), tt))

setting_chars : (part : Part) (s : Setting) (k : List ℕ) → IsSetting part s → AllChars k → AllChars (print_setting part s k)
setting_chars part s k h g =
    let k1 = quote_char s.quote ∷ k in
    let k2 = quote_char s.quote ∷ (s.value ++ k1) in
    let k3 = 61 ∷ (s.right ++ k2) in
    let c1 : AllChars k1 = (quote_is_char s.quote, g) in
    let c2 : AllChars k2 = (quote_is_char s.quote, both s.value k1 (setting_value_chars part s.value h.value) c1) in
    let c3 : AllChars k3 = (refl, both s.right k2 (spaces s.right h.right) c2) in
    (class_char blanks refl s.first h.first, both s.before (word part ++ (s.left ++ k3)) (spaces s.before h.before) (both (word part) (s.left ++ k3) (word_chars part) (both s.left k3 (spaces s.left h.left) c3)))

maybe_chars : (part : Part) (s : Option Setting) (k : List ℕ) → IsMaybe part s → AllChars k → AllChars (print_maybe part s k)
maybe_chars part None k h g = g
maybe_chars part (Some s) k h g = setting_chars part s k h g

declaration_chars : (d : Declaration) (k : List ℕ) → IsDeclaration d → AllChars k → AllChars (print_declaration d k)
declaration_chars d k h g =
    let k1 = d.gap ++ 63 ∷ 62 ∷ k in
    let c1 : AllChars k1 = both d.gap (63 ∷ 62 ∷ k) (spaces d.gap h.gap) (refl, (refl, g)) in
    (refl, (refl, (refl, (refl, (refl, setting_chars version d.version _ h.version (maybe_chars encoding d.encoding _ h.encoding (maybe_chars standalone d.standalone k1 h.standalone c1)))))))

body_chars : (l : Limits) (text : List ℕ) (tree : List Event) → Body l text tree → AllChars text
body_chars l text tree (c, h, e, f) = subst AllChars (sym e) (whole_chars l c h)

unmarked_chars : (l : Limits) (text : List ℕ) (tree : List Event) → Unmarked l text tree → AllChars text
unmarked_chars l text tree (inl h) = body_chars l text tree h
unmarked_chars l text tree (inr (d, rest, h, e, b)) = subst AllChars (sym e) (declaration_chars d rest h (body_chars l rest tree b))

document_chars : (l : Limits) (text : List ℕ) (tree : List Event) → Document l text tree → AllChars text
document_chars l text tree (inl h) = unmarked_chars l text tree h
document_chars l text tree (inr (rest, e, h)) = subst AllChars (sym e) (refl, unmarked_chars l rest tree h)

char_scalar : (c : ℕ) → is_char c ≡ true → IsScalar c
char_scalar c h = grind (arith, nat_tests)

encoded : (text : List ℕ) → AllChars text → IsUtf8 (encode_utf8_all text)
encoded [] h = IsUtf8-nil
encoded (c ∷ text) h = IsUtf8-append _ _ (IsUtf8-encode c (char_scalar c h.0)) (encoded text h.1)

pub document_utf8 : (l : Limits) (bytes : List ℕ) (tree : List Event) → IsDocument l bytes tree → IsUtf8 bytes
document_utf8 l bytes tree (text, e, d) = subst IsUtf8 (sym e) (encoded text (document_chars l text tree d))
