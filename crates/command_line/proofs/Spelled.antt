-- The items of arguments, as a relation and as a function.
use Rattle.std.proofs.Common.{◌≡◌, ◌∙◌, ◌⊎◌, inl, inr, ◌&&◌, ◌||◌, zero, ◌==◌, not, Bool, true, false, ℕ, List, [], ◌∷◌, ◌++◌, Option, Some, None, refl, sym, subst, ap, ap₂, true≢false, cond, is_some, arith, ◌+◌, take, drop, suc}
use Rattle.std.specs.Str.{bytes_eq}
use Rattle.std.proofs.lemmas.Bool.Decides.{nat_tests}
use Rattle.std.specs.List.{list_all, before_first, after_first}
use Rattle.clap.specs.Lexer.{has_byte, long_of, long_of_rest}
use Rattle.clap.proofs.WalkLemmas.{both}
use Rattle.clap.proofs.CutLemmas.{Lacks}
use Rattle.clap.proofs.LexerLemmas.{name_and_value-at}
use Rattle.command_line.specs.Table.{is_proper}
use Rattle.command_line.specs.Words.{IsSpelled, Item, Word, dashed, has_each_once, is_among, is_plain, joined, option, positional}
use Rattle.command_line.specs.Form.{are_items, are_items_at, if_plain, items_at, items_from, with_item}
use Rattle.command_line.proofs.Walks.{not_true, plain_word, same_bytes, takes_item}

one_more : (n : ℕ) (x : ℕ) (xs : List ℕ) → take (1 + n) (x ∷ xs) ≡ x ∷ take n xs
one_more n x xs = let e : 1 + n ≡ suc n = omega arith in rw e refl

one_past : (n : ℕ) (x : ℕ) (xs : List ℕ) → drop ((1 + n) + 1) (x ∷ xs) ≡ drop (n + 1) xs
one_past n x xs = let e : (1 + n) + 1 ≡ suc (n + 1) = omega arith in rw e refl

-- a text with an equals sign falls into what stands before the first and what stands after it
cut : (text : Word) → has_byte 61 text ≡ true → text ≡ before_first (λ x. x == 61) text ++ 61 ∷ after_first (λ x. x == 61) text
cut [] has = absurd (true≢false (sym has))
cut (x ∷ xs) has = go (x == 61) refl (cut xs)
  where
    go : (b : Bool) → (x == 61) ≡ b → (has_byte 61 xs ≡ true → xs ≡ before_first (λ x. x == 61) xs ++ 61 ∷ after_first (λ x. x == 61) xs)
        → x ∷ xs ≡ before_first (λ x. x == 61) (x ∷ xs) ++ 61 ∷ after_first (λ x. x == 61) (x ∷ xs)
    go true e ih = let same : x ≡ 61 = grind (arith, nat_tests) in rw (e, same) refl
    go false e ih = rw e (ap (λ t. x ∷ t) (ih (rw e at has)) ∙ sym (ap₂ (λ t u. t ++ 61 ∷ u) (one_more _ x xs) (one_past _ x xs)))

uncut : (text : Word) → has_byte 61 text ≡ false → before_first (λ x. x == 61) text ≡ text
uncut [] has = refl
uncut (x ∷ xs) has = go (x == 61) refl (uncut xs)
  where
    go : (b : Bool) → (x == 61) ≡ b → (has_byte 61 xs ≡ false → before_first (λ x. x == 61) xs ≡ xs) → before_first (λ x. x == 61) (x ∷ xs) ≡ x ∷ xs
    go true e ih = absurd (true≢false (rw e at has))
    go false e ih = rw e (one_more _ x xs ∙ ap (λ t. x ∷ t) (ih (rw e at has)))

-- the argument of an option's name, with its value or without
abbrev word_of : Word → Option Word → Word
word_of n None = dashed n
word_of n (Some v) = joined n v

same_some : (x y : Word × Option Word) → Some x ≡ Some y → word_of x.0 x.1 ≡ word_of y.0 y.1
same_some x y f = let same : x ≡ y = cc in ap (λ (z : Word × Option Word). word_of z.0 z.1) same

rest_word : (text n : Word) (o : Option Word) → long_of_rest text ≡ Some (n, o) → 45 ∷ (45 ∷ text) ≡ word_of n o
rest_word [] n o e = cc
rest_word (x ∷ xs) n o e = go (has_byte 61 (x ∷ xs)) refl
  where
    go : (b : Bool) → has_byte 61 (x ∷ xs) ≡ b → 45 ∷ (45 ∷ (x ∷ xs)) ≡ word_of n o
    go true has =
        let parts : Some (before_first (λ y. y == 61) (x ∷ xs), Some (after_first (λ y. y == 61) (x ∷ xs))) ≡ Some (n, o) = rw has at e in
        ap (λ t. 45 ∷ (45 ∷ t)) (cut (x ∷ xs) has) ∙ same_some _ (n, o) parts
    go false has =
        let parts : Some (before_first (λ y. y == 61) (x ∷ xs), None) ≡ Some (n, o) = rw has at e in
        ap (λ t. 45 ∷ (45 ∷ t)) (sym (uncut (x ∷ xs) has)) ∙ same_some _ (n, o) parts

abbrev none : Option (Word × Option Word)
none = None

long_word : (w n : Word) (o : Option Word) → long_of w ≡ Some (n, o) → w ≡ word_of n o
long_word [] n o e = cc
long_word (a ∷ []) n o e = go (a == 45) refl
  where
    go : (x : Bool) → (a == 45) ≡ x → a ∷ [] ≡ word_of n o
    go true f = let bad : none ≡ Some (n, o) = rw f at e in cc
    go false f = let bad : none ≡ Some (n, o) = rw f at e in cc
long_word (a ∷ (b ∷ text)) n o e = go (a == 45) (b == 45) refl refl
  where
    go : (x y : Bool) → (a == 45) ≡ x → (b == 45) ≡ y → a ∷ (b ∷ text) ≡ word_of n o
    go true true f g =
        let first : a ≡ 45 = grind (arith, nat_tests) in let second : b ≡ 45 = grind (arith, nat_tests) in
        ap₂ (λ x y. x ∷ (y ∷ text)) first second ∙ rest_word text n o (rw (f, g) at e)
    go true false f g = let bad : none ≡ Some (n, o) = rw (f, g) at e in cc
    go false y f g = let bad : none ≡ Some (n, o) = rw f at e in cc

-- the arguments of these items
record Spells (words : List Word) : Type 0 where
  all : (items : List Item) → items_from None words ≡ Some items → IsSpelled items words
  later : (n : Word) (items : List Item) → items_from (Some n) words ≡ Some items
      → (v : Word) × (rest : List Word) × (more : List Item) × (words ≡ v ∷ rest) × (is_plain v ≡ true) × (items ≡ option n v ∷ more) × IsSpelled more rest

spells : (words : List Word) → Spells words
spells [] = record {
  all = λ items e. let none : items ≡ [] = cc in subst (λ x. IsSpelled x []) (sym none) refl;
  later = λ n items e. cc;
}
spells (w ∷ rest) = go (spells rest)
  where
    go : Spells rest → Spells (w ∷ rest)
    go ih = record {
      all = λ items e. at items (long_of w) refl e;
      later = λ n items e. let t = takes_item w (option n w) (items_from None rest) items e in (w, rest, t.more, refl, t.plain, t.items_are, ih.all t.more t.rest);
    }
      where
        at : (items : List Item) (o : Option (Word × Option Word)) → long_of w ≡ o
            → items_at w o (items_from None rest) (λ n. items_from (Some n) rest) ≡ Some items → IsSpelled items (w ∷ rest)
        at items None is e = let t = takes_item w (positional w) (items_from None rest) items e in
            subst (λ x. IsSpelled x (w ∷ rest)) (sym t.items_are) (rest, refl, t.plain, ih.all t.more t.rest)
        at items (Some (n, None)) is e = let t = ih.later n items e in
            subst (λ x. IsSpelled x (w ∷ rest)) (sym t.5) (t.1, inl (ap₂ (λ x y. x ∷ y) (long_word w n None is) t.3), t.4, t.6)
        at items (Some (n, Some v)) is e = let t = takes_item v (option n v) (items_from None rest) items e in
            subst (λ x. IsSpelled x (w ∷ rest)) (sym t.items_are) (rest, inr (ap (λ x. x ∷ rest) (long_word w n (Some v) is)), t.plain, ih.all t.more t.rest)

pub spelled_from : (words : List Word) (items : List Item) → items_from None words ≡ Some items → IsSpelled items words
spelled_from words items e = (spells words).all items e

lacking : (text : Word) → has_byte 61 text ≡ false → Lacks 61 text
lacking [] e i lt = absurd (omega arith)
lacking (x ∷ xs) e zero lt = go (x == 61) refl
  where
    go : (b : Bool) → (x == 61) ≡ b → x ≡ 61 → ⊥
    go true f same = true≢false (rw f at e)
    go false f same = grind (arith, nat_tests)
lacking (x ∷ xs) e (suc i) lt = lacking xs (or_right (x == 61) (has_byte 61 xs) e) i (omega arith)
  where
    or_right : (a b : Bool) → (a || b) ≡ false → b ≡ false
    or_right true b f = absurd (true≢false f)
    or_right false b f = f

-- a name and a value are read from their argument
pub long_of_dashed : (n : Word) → is_proper n ≡ true → long_of (dashed n) ≡ Some (n, None)
long_of_dashed [] e = absurd (true≢false (sym e))
long_of_dashed (x ∷ xs) e =
    let lacks : has_byte 61 (x ∷ xs) ≡ false = not_true (has_byte 61 (x ∷ xs)) e in
    rw lacks (ap (λ t. Some (t, None)) (uncut (x ∷ xs) lacks))

pub long_of_joined : (n v : Word) → is_proper n ≡ true → long_of (joined n v) ≡ Some (n, Some v)
long_of_joined [] v e = absurd (true≢false (sym e))
long_of_joined (x ∷ xs) v e = ap Some (name_and_value-at (x ∷ xs) v (lacking (x ∷ xs) (not_true (has_byte 61 (x ∷ xs)) e)))

-- items that are spelled so, with proper names, are read so
module _ (known : List Word) (names : (n : Word) → is_among n known ≡ true → is_proper n ≡ true) where
  plain_item : (v : Word) (i : Item) (after : Option (List Item)) (more : List Item) → is_plain v ≡ true → after ≡ Some more → if_plain v (with_item i after) ≡ Some (i ∷ more)
  plain_item v i after more is e = rw (is, e) refl

  pub items_spelled : (items : List Item) (used : List Word) (words : List Word) → has_each_once known used items ≡ true → IsSpelled items words → items_from None words ≡ Some items
  items_spelled [] used words once sp = rw sp refl
  items_spelled (positional v ∷ items) used words once sp =
      ap (items_from None) sp.1 ∙ rw (plain_word v sp.2).long (plain_item v (positional v) _ items sp.2 (items_spelled items used sp.0 once sp.3))
  items_spelled (option n v ∷ items) used words once sp = go sp.1 (items_spelled items (n ∷ used) sp.0 (both (not (is_among n used)) _ parts.1).1 sp.3)
    where
      parts : (is_among n known ≡ true) × ((not (is_among n used) && has_each_once known (n ∷ used) items) ≡ true)
      parts = both (is_among n known) _ once

      go : (words ≡ dashed n ∷ (v ∷ sp.0)) ⊎ (words ≡ joined n v ∷ sp.0) → items_from None sp.0 ≡ Some items → items_from None words ≡ Some (option n v ∷ items)
      go (inl e) ih = ap (items_from None) e ∙ rw (long_of_dashed n (names n parts.0)) (plain_item v (option n v) _ items sp.2 ih)
      go (inr e) ih = ap (items_from None) e ∙ rw (long_of_joined n v (names n parts.0)) (plain_item v (option n v) _ items sp.2 ih)

-- ---- the test of the form

plain_test : (v : Word) (i : Item) (o : Option (List Item)) → is_some (if_plain v (with_item i o)) ≡ (is_plain v && is_some o)
plain_test v i o = go (is_plain v) o
  where
    go : (b : Bool) (o : Option (List Item)) → is_some (cond b (with_item i o) None) ≡ (b && is_some o)
    go true None = refl
    go true (Some x) = refl
    go false o = refl

record Tests (words : List Word) : Type 0 where
  all : is_some (items_from None words) ≡ are_items false words
  later : (n : Word) → is_some (items_from (Some n) words) ≡ are_items true words

tests : (words : List Word) → Tests words
tests [] = record { all = refl; later = λ n. refl }
tests (w ∷ rest) = go (tests rest)
  where
    go : Tests rest → Tests (w ∷ rest)
    go ih = record {
      all = at (long_of w);
      later = λ n. plain_test w (option n w) _ ∙ ap (λ b. is_plain w && b) ih.all;
    }
      where
        at : (o : Option (Word × Option Word)) → is_some (items_at w o (items_from None rest) (λ n. items_from (Some n) rest)) ≡ are_items_at w o (are_items false rest) (are_items true rest)
        at None = plain_test w (positional w) _ ∙ ap (λ b. is_plain w && b) ih.all
        at (Some (n, None)) = ih.later n
        at (Some (n, Some v)) = plain_test v (option n v) _ ∙ ap (λ b. is_plain v && b) ih.all

pub items_of_test : (words : List Word) → are_items false words ≡ true → (items : List Item) × (items_from None words ≡ Some items)
items_of_test words e = go (items_from None words) refl
  where
    go : (o : Option (List Item)) → items_from None words ≡ o → (items : List Item) × (items_from None words ≡ Some items)
    go None f = absurd (true≢false (sym e ∙ sym ((tests words).all) ∙ ap is_some f))
    go (Some items) f = (items, f)

-- a text among others that all pass a test passes it
pub passes_among : (p : Word → Bool) (n : Word) (xs : List Word) → list_all p xs ≡ true → is_among n xs ≡ true → p n ≡ true
passes_among p n [] all among = absurd (true≢false (sym among))
passes_among p n (x ∷ xs) all among = go (bytes_eq x n) refl (passes_among p n xs (both (p x) _ all).1)
  where
    go : (b : Bool) → bytes_eq x n ≡ b → (is_among n xs ≡ true → p n ≡ true) → p n ≡ true
    go true e ih = ap p (sym (same_bytes x n e)) ∙ (both (p x) _ all).0
    go false e ih = ih (rw e at among)

pub are_items-items_from : (words : List Word) → is_some (items_from None words) ≡ are_items false words
are_items-items_from words = (tests words).all
