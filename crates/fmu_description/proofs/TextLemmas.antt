-- Numbers and lists of references, as they are read.
use Rattle.std.proofs.Common.{◌≡◌, ℕ, ◌+◌, ◌-◌, ◌^◌, ◌<◌, ◌≤◌, Bool, true, false, cond, ◌&&◌, ◌||◌, ◌==◌, nat_lt, List, [], ◌∷◌, ◌++◌, length, reverse, drop, map, get_or, Option, Some, None, Bor, refl, sym, ap, ◌∙◌, subst, arith}
use Rattle.std.specs.Char.{is_ascii_digit, digit_value}
use Rattle.std.specs.Int.{IsInRange}
use Rattle.std.specs.List.{list_all}
use Rattle.std.specs.Option.{option_map}
use Rattle.std.specs.Result.{result_ok}
use Rattle.std.specs.declared.result.Result.{Result}
use Rattle.std.specs.declared.result.Result.TheVariants.{Ok, Err}
use Rattle.std.specs.Str.Parse.{AllDigits, IsNumeral, ParsesUnsigned, digits_value, without_leading_plus}
use Rattle.std.proofs.lemmas.Bool.{leb-true, ltb-true, lt-ltb, eqb-true}
use Rattle.std.proofs.lemmas.List.{append-nil, append_assoc, at_drop_more, at_drop_all, get_or-reverse}
use Rattle.std.proofs.lemmas.Str.{digit_value_digit}
use Rattle.fmu_description.specs.Texts.{all_of, is_number, number_below, reference, begins_with_space, has_outer_space}

both : (a b : Bool) → a && b ≡ true → (a ≡ true) × (b ≡ true)
both true b h = (refl, h)
both false b h = cc

digit_range : (c : ℕ) → is_ascii_digit c ≡ true → IsInRange 48 57 c
digit_range c h = let p = both _ _ h in (leb-true 48 c p.0, leb-true c 57 p.1)

digits_from : (text : List ℕ) → list_all is_ascii_digit text ≡ true → AllDigits 10 text
digits_from [] h = tt
digits_from (c ∷ cs) h =
    let p = both (is_ascii_digit c) (list_all is_ascii_digit cs) h in
    let e : digit_value c + 48 ≡ c = digit_value_digit c (digit_range c p.0) in
    let r : IsInRange 48 57 c = digit_range c p.0 in
    (omega (arith, e, r.1), digits_from cs p.1)

not_plus : (c : ℕ) → is_ascii_digit c ≡ true → (c == 43) ≡ false
not_plus c h = at (c == 43) refl
  where
    at : (b : Bool) → (c == 43) ≡ b → b ≡ false
    at false e = refl
    at true e =
        let r : IsInRange 48 57 c = digit_range c h in
        let same : c ≡ 43 = eqb-true c 43 e in
        absurd (omega (arith, r.0, same))

-- a number has no plus before it
plain : (text : List ℕ) → is_number text ≡ true → without_leading_plus text ≡ text
plain [] h = refl
plain (c ∷ cs) h = ap (λ b. drop (cond b 1 0) (c ∷ cs)) (not_plus c (both (is_ascii_digit c) (list_all is_ascii_digit cs) (both _ _ h).1).0)

numeral : (text : List ℕ) → is_number text ≡ true → IsNumeral 10 text
numeral [] h = absurd (cc)
numeral (c ∷ cs) h = (omega arith, digits_from (c ∷ cs) (both _ _ h).1)

-- what `parse` answers of a number
pub number_from_parse : {E : Type 0} (k : ℕ) (text : List ℕ) (r : Result ℕ E) → is_number text ≡ true → ParsesUnsigned k 10 text r → result_ok r ≡ number_below (2 ^ k) text
number_from_parse k text (Ok x) h p =
    let e : without_leading_plus text ≡ text = plain text h in
    let fits : digits_value 10 text < 2 ^ k = subst (λ t. digits_value 10 t < 2 ^ k) e p.0.1 in
    let value : x ≡ digits_value 10 text = p.1 ∙ ap (digits_value 10) e in
    ap Some value ∙ sym (ap (λ b. cond b (Some (digits_value 10 text)) None) (ap (λ b. b && nat_lt (digits_value 10 text) (2 ^ k)) h ∙ lt-ltb (digits_value 10 text) (2 ^ k) fits))
number_from_parse k text (Err x) h p = at (nat_lt (digits_value 10 text) (2 ^ k)) refl
  where
    at : (b : Bool) → nat_lt (digits_value 10 text) (2 ^ k) ≡ b → None ≡ number_below (2 ^ k) text
    at true e =
        let same : without_leading_plus text ≡ text = plain text h in
        absurd (p (subst (λ t. IsNumeral 10 t × (digits_value 10 t < 2 ^ k)) (sym same) (numeral text h, ltb-true (digits_value 10 text) (2 ^ k) e)))
    at false e = sym (ap (λ b. cond b (Some (digits_value 10 text)) None) (ap (λ b. b && nat_lt (digits_value 10 text) (2 ^ k)) h ∙ e))

-- ---- lists

-- the references that the texts write
abbrev pub among : List (Bor (List ℕ)) → Option (List ℕ)
among parts = all_of (map (λ (part : Bor (List ℕ)). reference part.now) parts)

-- what is read, with what comes
abbrev pub after : List ℕ → Option (List ℕ) → Option (List ℕ)
after all o = option_map (λ xs. all ++ xs) o

pub after_none : (o : Option (List ℕ)) → after [] o ≡ o
after_none None = refl
after_none (Some xs) = refl

after_cons : (all : List ℕ) (x : ℕ) (o : Option (List ℕ)) → after all (option_map (λ xs. x ∷ xs) o) ≡ after (all ++ x ∷ []) o
after_cons all x None = refl
after_cons all x (Some xs) = ap Some (sym (append_assoc all (x ∷ []) xs))

among_cons : (part : Bor (List ℕ)) (parts : List (Bor (List ℕ))) (o : Option ℕ) → reference part.now ≡ o → among (part ∷ parts) ≡ elim o [ None ↦ None | Some x ↦ option_map (λ xs. x ∷ xs) (among parts) ]
among_cons part parts o e = ap (λ z. elim z as (λ _. Option (List ℕ)) [ None ↦ None | Some x ↦ option_map (λ xs. x ∷ xs) (among parts) ]) e

pub among_more : (parts : List (Bor (List ℕ))) (i : ℕ) (part : Bor (List ℕ)) (all : List ℕ) (x : ℕ) → i < length parts → part ≡ get_or parts i part → reference part.now ≡ Some x
    → after all (among (drop i parts)) ≡ after (all ++ x ∷ []) (among (drop (i + 1) parts))
among_more parts i part all x within is reads =
    ap (after all) (at_drop_more among parts i part within ∙ ap (λ p. among (p ∷ drop (i + 1) parts)) (sym is) ∙ among_cons part (drop (i + 1) parts) (Some x) reads)
    ∙ after_cons all x (among (drop (i + 1) parts))

pub among_stop : (parts : List (Bor (List ℕ))) (i : ℕ) (part : Bor (List ℕ)) (all : List ℕ) → i < length parts → part ≡ get_or parts i part → reference part.now ≡ None → after all (among (drop i parts)) ≡ None
among_stop parts i part all within is reads =
    ap (after all) (at_drop_more among parts i part within ∙ ap (λ p. among (p ∷ drop (i + 1) parts)) (sym is) ∙ among_cons part (drop (i + 1) parts) None reads)

pub among_end : (parts : List (Bor (List ℕ))) (i : ℕ) (all : List ℕ) → length parts ≤ i → after all (among (drop i parts)) ≡ Some all
among_end parts i all past = ap (after all) (at_drop_all among parts i past) ∙ ap Some (append-nil all)

-- ---- spaces

first_space : (text : List ℕ) → begins_with_space text ≡ (get_or text 0 0 == 32)
first_space [] = refl
first_space (c ∷ cs) = refl

last_space : (text : List ℕ) → begins_with_space (reverse text) ≡ (get_or text (length text - 1) 0 == 32)
last_space [] = refl
last_space (c ∷ cs) =
    let within : 0 < length (c ∷ cs) = omega arith in
    let place : length (c ∷ cs) - 1 - 0 ≡ length (c ∷ cs) - 1 = omega arith in
    first_space (reverse (c ∷ cs)) ∙ ap (λ z. z == 32) (get_or-reverse (c ∷ cs) 0 0 within ∙ ap (λ z. get_or (c ∷ cs) z 0) place)

pub outer_space : (text : List ℕ) (first last : Bool) → first ≡ (get_or text 0 0 == 32) → last ≡ (get_or text (length text - 1) 0 == 32) → first || last ≡ has_outer_space text
outer_space text first last e f = ap (λ z. z || last) (e ∙ sym (first_space text)) ∙ ap (λ z. begins_with_space text || z) (f ∙ sym (last_space text))

-- the references of the parts
pub among_is : (parts : List (Bor (List ℕ))) → among parts ≡ all_of (map reference (map (λ (part : Bor (List ℕ)). part.now) parts))
among_is parts = ap all_of (at parts)
  where
    at : (parts : List (Bor (List ℕ))) → map (λ (part : Bor (List ℕ)). reference part.now) parts ≡ map reference (map (λ (part : Bor (List ℕ)). part.now) parts)
    at [] = refl
    at (p ∷ ps) = ap (λ z. reference p.now ∷ z) (at ps)
