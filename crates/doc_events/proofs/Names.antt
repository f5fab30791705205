-- The names of a tag and their texts.
use Rattle.std.proofs.Common.{◌≡◌, ℕ, zero, suc, ◌+◌, ◌<◌, ◌≤◌, Bool, true, false, cond, ◌||◌, List, [], ◌∷◌, ◌++◌, length, take, drop, map, get_or, refl, sym, ap, ◌∙◌, subst, arith, length-append}
use Rattle.std.proofs.lemmas.List.{append-nil, take_more, drop_all, drop-append-le, length-map, length-take-le}
use Rattle.std.proofs.lemmas.Str.{encodes-append, encodes_same}
use Rattle.std.proofs.lemmas.Slice.Eq.{bytes_eq-Decides}
use Rattle.std.proofs.lemmas.Map.Text.{btree_set_updates_text}
use Rattle.std.specs.Str.{encode_utf8_all, bytes_eq}
use Rattle.std.specs.Char.{encode_utf8}
use Rattle.std.specs.String.{string_bytes, string_cmp}
use Rattle.std.specs.declared.alloc.Global.{Global}
use Rattle.std.specs.declared.string.String.{String}
use Rattle.std.specs.BTreeSet.{BTreeSet, Updates, contains_text}
use Rattle.doc_grammar.specs.Grammar.{Pair, has}
use Rattle.doc_events.specs.declared.attributes.Attribute.{Attribute}
use Rattle.doc_events.specs.Pairs.{pair_of, Sees}

pub chars_more : (chars : List ℕ) (i : ℕ) (old : List ℕ) → i < length chars → old ≡ encode_utf8_all (take i chars) → encode_utf8_all (take (i + 1) chars) ≡ old ++ encode_utf8 (get_or chars i 0)
chars_more chars i old h e =
    ap encode_utf8_all (take_more chars i 0 h) ∙ encodes-append (take i chars) (get_or chars i 0 ∷ []) ∙ ap (λ z. encode_utf8_all (take i chars) ++ z) (append-nil (encode_utf8 (get_or chars i 0))) ∙ ap (λ z. z ++ encode_utf8 (get_or chars i 0)) (sym e)

same_bool : (s t : Bool) → (s ≡ true → t ≡ true) → (t ≡ true → s ≡ true) → s ≡ t
same_bool true t f g = sym (f refl)
same_bool false true f g = g refl
same_bool false false f g = refl

-- texts are equal where their bytes are
pub same_text : (a b : List ℕ) → bytes_eq (encode_utf8_all a) (encode_utf8_all b) ≡ bytes_eq a b
same_text a b =
    same_bool (bytes_eq (encode_utf8_all a) (encode_utf8_all b)) (bytes_eq a b)
    (λ h. (bytes_eq-Decides a b).1 (encodes_same a b ((bytes_eq-Decides (encode_utf8_all a) (encode_utf8_all b)).0 h)))
    (λ h. (bytes_eq-Decides (encode_utf8_all a) (encode_utf8_all b)).1 (ap encode_utf8_all ((bytes_eq-Decides a b).0 h)))

or_true : (t : Bool) → t || true ≡ true
or_true true = refl
or_true false = refl

or_false : (t : Bool) → t || false ≡ t
or_false true = refl
or_false false = refl

or_assoc : (s t u : Bool) → (s || t) || u ≡ s || (t || u)
or_assoc true t u = refl
or_assoc false t u = refl

has_append : (ps : List Pair) (name value n : List ℕ) → has (ps ++ (name, value) ∷ []) n ≡ has ps n || bytes_eq name n
has_append [] name value n = or_false (bytes_eq name n)
has_append (p ∷ ps) name value n = ap (λ z. bytes_eq p.0 n || z) (has_append ps name value n) ∙ sym (or_assoc (bytes_eq p.0 n) (has ps n) (bytes_eq name n))

pick : (a b : Bool) → cond a true b ≡ b || a
pick true b = sym (or_true b)
pick false b = sym (or_false b)

pub sees_more : (seen new : BTreeSet (String Global)) (pairs : List Pair) (name value : List ℕ) (text : String Global) → Sees seen pairs → string_bytes text ≡ encode_utf8_all name → Updates string_cmp seen new text true → Sees new (pairs ++ (name, value) ∷ [])
sees_more seen new pairs name value text s e u = λ n.
    btree_set_updates_text (string_bytes text) seen new true u (encode_utf8_all n)
    ∙ ap (λ z. cond (bytes_eq z (encode_utf8_all n)) true (contains_text seen (encode_utf8_all n))) e
    ∙ ap (λ z. cond z true (contains_text seen (encode_utf8_all n))) (same_text name n)
    ∙ ap (λ z. cond (bytes_eq name n) true z) (s n)
    ∙ pick (bytes_eq name n) (has pairs n)
    ∙ sym (has_append pairs name value n)

-- a name is among the first of these, or after them
has_split : (k : ℕ) (ps : List Pair) (n : List ℕ) → has ps n ≡ has (take k ps) n || has (drop k ps) n
has_split zero ps n = refl
has_split (suc k) [] n = refl
has_split (suc k) (p ∷ ps) n = ap (λ z. bytes_eq p.0 n || z) (has_split k ps n) ∙ sym (or_assoc (bytes_eq p.0 n) (has (take k ps) n) (has (drop k ps) n))

take_map : (k : ℕ) (xs : List Attribute) → map pair_of (take k xs) ≡ take k (map pair_of xs)
take_map zero xs = refl
take_map (suc k) [] = refl
take_map (suc k) (x ∷ xs) = ap (λ z. pair_of x ∷ z) (take_map k xs)

-- a name that isn't among the first is there where it is after them
pub is_after : (k : ℕ) (xs prefix : List Attribute) (ps : List Pair) (n : List ℕ) (b c : Bool) → ps ≡ map pair_of xs → prefix ≡ take k xs → c ≡ has (map pair_of prefix) n → c ≡ false → b ≡ has (drop k (map pair_of xs)) n → b ≡ has ps n
is_after k xs prefix ps n b c e f g h i =
    let w : has (take k (map pair_of xs)) n ≡ false = ap (λ z. has z n) (sym (take_map k xs)) ∙ ap (λ z. has (map pair_of z) n) (sym f) ∙ sym g ∙ h in
    i ∙ sym (ap (λ z. z || has (drop k (map pair_of xs)) n) w) ∙ sym (has_split k (map pair_of xs) n) ∙ ap (λ z. has z n) (sym e)

pub is_prefix : (k : ℕ) (xs prefix : List Attribute) (ps : List Pair) (n : List ℕ) (c : Bool) → ps ≡ map pair_of xs → prefix ≡ take k xs → c ≡ has (map pair_of prefix) n → c ≡ true → true ≡ has ps n
is_prefix k xs prefix ps n c e f g h =
    let w : has (take k (map pair_of xs)) n ≡ true = ap (λ z. has z n) (sym (take_map k xs)) ∙ ap (λ z. has (map pair_of z) n) (sym f) ∙ sym g ∙ h in
    sym (ap (λ z. z || has (drop k (map pair_of xs)) n) w) ∙ sym (has_split k (map pair_of xs) n) ∙ ap (λ z. has z n) (sym e)

pub counted : (count : ℕ) (xs : List Attribute) → count ≤ length xs → length (map pair_of (take count xs)) ≡ count
counted count xs h = length-map (take count xs) pair_of ∙ length-take-le count xs h

-- one more among the first
pub few_more : (k : ℕ) (seen : BTreeSet (String Global)) (old new : List Pair) (p : Pair) → length old < k → new ≡ old ++ p ∷ [] → Sees seen (drop k old) → Sees seen (drop k new)
few_more k seen old new p h e s =
    let few : length old ≤ k = omega (arith, h) in
    let more : length new ≤ k = omega (arith, h, ap length e, length-append old (p ∷ [])) in
    subst (λ z. Sees seen z) (drop_all k old few ∙ sym (drop_all k new more)) s

-- one more after them
pub many_more : (k : ℕ) (seen next : BTreeSet (String Global)) (old new : List Pair) (name value : List ℕ) (text : String Global) → k ≤ length old → new ≡ old ++ (name, value) ∷ [] → Sees seen (drop k old) → string_bytes text ≡ encode_utf8_all name → Updates string_cmp seen next text true → Sees next (drop k new)
many_more k seen next old new name value text h e s t u =
    let split : drop k new ≡ drop k old ++ (name, value) ∷ [] = ap (λ z. drop k z) e ∙ drop-append-le k old ((name, value) ∷ []) h in
    subst (λ z. Sees next z) (sym split) (sees_more seen next (drop k old) name value text s t u)
