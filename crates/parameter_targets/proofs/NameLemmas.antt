-- The names of parameters, one variable after another.
use Rattle.std.proofs.Common.{◌≡◌, ◌⊎◌, ◌↔◌, ◌<◌, ◌≤◌, ◌+◌, ℕ, true, Bor, List, [], ◌∷◌, ◌++◌, length, take, get_or, map, Option, Some, None, refl, sym, ap, ◌∙◌, subst, inl, inr, arith}
use Rattle.std.specs.List.{slice_get, Contains}
use Rattle.std.specs.Option.{is_some, option_map, unwrap_or}
use Rattle.std.proofs.lemmas.Bool.{cases_lt}
use Rattle.std.proofs.lemmas.List.{length-map, take_more, take_all}
use Rattle.std.proofs.lemmas.List.Elements.{Contains-append_left, Contains-push, Contains-push_cases}
use Rattle.std.proofs.lemmas.Option.{get_or_from_slice_get, same_Some, slice_get-map, slice_get_within}
use Rattle.value_types.specs.Shape.{is_parameter}
use Rattle.value_types.specs.declared.shape.Variable.{Variable}
use Rattle.parameter_targets.specs.Chains.{FindsFrom, text_at}
use Rattle.parameter_targets.specs.Scopes.{IsCalled}
use Rattle.parameter_targets.specs.Tables.{AreWalked, IsNamed, IsNamedAt, entry_of, text_of}
use Rattle.parameter_targets.proofs.ListLemmas.{contains_at, in_push, place_of}

abbrev pub Entries : Type 0
Entries = List (Bor (List ℕ) × ℕ)

-- those of one variable more are these
abbrev pub PutsNames : Entries → Entries → ℕ → (List ℕ → Type 0) → Type 0
PutsNames old new place Named = (name : List ℕ) (at : ℕ) → Contains (map entry_of new) (name, at) ↔ (Contains (map entry_of old) (name, at) ⊎ ((at ≡ place) × Named name))

pair_first : (a b : List ℕ × ℕ) → a ≡ b → a.0 ≡ b.0
pair_first a b e = ap (λ (z : List ℕ × ℕ). z.0) e

pair_second : (a b : List ℕ × ℕ) → a ≡ b → a.1 ≡ b.1
pair_second a b e = ap (λ (z : List ℕ × ℕ). z.1) e

-- one name more
pub puts_more : (start old : Entries) (e : Bor (List ℕ) × ℕ) (place : ℕ) (Named More : List ℕ → Type 0) → e.1 ≡ place → ((name : List ℕ) → More name ↔ (Named name ⊎ (e.0.now ≡ name)))
    → PutsNames start old place Named → PutsNames start (old ++ e ∷ []) place More
puts_more start old e place Named More at_place each was name at = (λ c. there (in_push entry_of old e (name, at)).0 c, λ h. (in_push entry_of old e (name, at)).1 (back h))
  where
    there : (Contains (map entry_of (old ++ e ∷ [])) (name, at) → Contains (map entry_of old) (name, at) ⊎ (entry_of e ≡ (name, at))) → Contains (map entry_of (old ++ e ∷ [])) (name, at) → Contains (map entry_of start) (name, at) ⊎ ((at ≡ place) × More name)
    there cases c = by (cases c)
      where
        kept : Contains (map entry_of start) (name, at) ⊎ ((at ≡ place) × Named name) → Contains (map entry_of start) (name, at) ⊎ ((at ≡ place) × More name)
        kept (inl h) = inl h
        kept (inr h) = inr (h.0, (each name).1 (inl h.1))

        by : Contains (map entry_of old) (name, at) ⊎ (entry_of e ≡ (name, at)) → Contains (map entry_of start) (name, at) ⊎ ((at ≡ place) × More name)
        by (inl h) = kept ((was name at).0 h)
        by (inr h) = inr (sym (pair_second (entry_of e) (name, at) h) ∙ at_place, (each name).1 (inr (pair_first (entry_of e) (name, at) h)))

    back : Contains (map entry_of start) (name, at) ⊎ ((at ≡ place) × More name) → Contains (map entry_of old) (name, at) ⊎ (entry_of e ≡ (name, at))
    back (inl h) = inl ((was name at).1 (inl h))
    back (inr h) = by ((each name).0 h.1)
      where
        by : Named name ⊎ (e.0.now ≡ name) → Contains (map entry_of old) (name, at) ⊎ (entry_of e ≡ (name, at))
        by (inl n) = inl ((was name at).1 (inr (h.0, n)))
        by (inr s) = inr (ap (λ z. (z, e.1)) s ∙ ap (λ z. (name, z)) (at_place ∙ sym h.0))

-- the entries up to a place, and the one that stands there
pub one_more : (entries : Entries) (k : ℕ) (e : Bor (List ℕ) × ℕ) → slice_get entries k ≡ Some e → take (k + 1) entries ≡ take k entries ++ e ∷ []
one_more entries k e is = take_more entries k e (slice_get_within entries k e is) ∙ ap (λ (z : Bor (List ℕ) × ℕ). take k entries ++ z ∷ []) (get_or_from_slice_get entries k e e is)

pub puts_none : (start : Entries) (place : ℕ) (Named : List ℕ → Type 0) → ((name : List ℕ) → Named name → ⊥) → PutsNames start start place Named
puts_none start place Named none name at = (λ c. inl c, by)
  where
    by : Contains (map entry_of start) (name, at) ⊎ ((at ≡ place) × Named name) → Contains (map entry_of start) (name, at)
    by (inl c) = c
    by (inr h) = absurd (none name h.1)

-- its own name, or one of these aliases
abbrev pub IsCalledBy : Variable → List (List ℕ) → List ℕ → Type 0
IsCalledBy v aliases name = (v.name ≡ name) ⊎ Contains aliases name

pub called_first : (v : Variable) (name : List ℕ) → IsCalledBy v (take 0 v.aliases) name ↔ (⊥ ⊎ (v.name ≡ name))
called_first v name = (there, back)
  where
    there : IsCalledBy v (take 0 v.aliases) name → ⊥ ⊎ (v.name ≡ name)
    there (inl e) = inr e
    there (inr c) = absurd (omega (arith, c.1))

    back : ⊥ ⊎ (v.name ≡ name) → IsCalledBy v (take 0 v.aliases) name
    back (inl h) = absurd h
    back (inr e) = inl e

pub called_more : (v : Variable) (i : ℕ) (d : List ℕ) (name : List ℕ) → i < length v.aliases → IsCalledBy v (take (i + 1) v.aliases) name ↔ (IsCalledBy v (take i v.aliases) name ⊎ (get_or v.aliases i d ≡ name))
called_more v i d name less = (there, back)
  where
    e : take (i + 1) v.aliases ≡ take i v.aliases ++ get_or v.aliases i d ∷ []
    e = take_more v.aliases i d less

    there : IsCalledBy v (take (i + 1) v.aliases) name → IsCalledBy v (take i v.aliases) name ⊎ (get_or v.aliases i d ≡ name)
    there (inl s) = inl (inl s)
    there (inr c) = by (Contains-push_cases (take i v.aliases) (get_or v.aliases i d) name (subst (λ z. Contains z name) e c))
      where
        by : Contains (take i v.aliases) name ⊎ (get_or v.aliases i d ≡ name) → IsCalledBy v (take i v.aliases) name ⊎ (get_or v.aliases i d ≡ name)
        by (inl h) = inl (inr h)
        by (inr h) = inr h

    back : IsCalledBy v (take i v.aliases) name ⊎ (get_or v.aliases i d ≡ name) → IsCalledBy v (take (i + 1) v.aliases) name
    back (inl (inl s)) = inl s
    back (inl (inr c)) = inr (subst (λ z. Contains z name) (sym e) (Contains-append_left (take i v.aliases) (get_or v.aliases i d ∷ []) name c))
    back (inr s) = inr (subst (λ z. Contains z name) (sym e) (subst (Contains (take i v.aliases ++ get_or v.aliases i d ∷ [])) s (Contains-push (take i v.aliases) (get_or v.aliases i d))))

pub puts_as : (start now : Entries) (place : ℕ) (Named More : List ℕ → Type 0) → ((name : List ℕ) → Named name ↔ More name) → PutsNames start now place Named → PutsNames start now place More
puts_as start now place Named More each was name at = (λ c. there ((was name at).0 c), λ h. (was name at).1 (back h))
  where
    there : Contains (map entry_of start) (name, at) ⊎ ((at ≡ place) × Named name) → Contains (map entry_of start) (name, at) ⊎ ((at ≡ place) × More name)
    there (inl h) = inl h
    there (inr h) = inr (h.0, (each name).0 h.1)

    back : Contains (map entry_of start) (name, at) ⊎ ((at ≡ place) × More name) → Contains (map entry_of start) (name, at) ⊎ ((at ≡ place) × Named name)
    back (inl h) = inl h
    back (inr h) = inr (h.0, (each name).1 h.1)

pub called_all : (v : Variable) (i : ℕ) (name : List ℕ) → length v.aliases ≤ i → is_parameter v.causality ≡ true → is_some v.kind ≡ true → IsCalledBy v (take i v.aliases) name ↔ IsNamed v name
called_all v i name past parameter known = (λ h. record { parameter = parameter; known = known; called = there h }, λ n. back n.called)
  where
    there : IsCalledBy v (take i v.aliases) name → IsCalled v name
    there (inl e) = inl (sym e)
    there (inr c) = inr (subst (λ z. Contains z name) (take_all i v.aliases past) c)

    back : IsCalled v name → IsCalledBy v (take i v.aliases) name
    back (inl e) = inl (sym e)
    back (inr c) = inr (subst (λ z. Contains z name) (sym (take_all i v.aliases past)) c)

-- ---- one variable after another

abbrev pub AreEntriesBelow : List Variable → ℕ → Entries → Type 0
AreEntriesBelow variables n entries = (name : List ℕ) (place : ℕ) → Contains (map entry_of entries) (name, place) ↔ ((place < n) × IsNamedAt variables name place)

pub entries_more : (variables : List Variable) (n : ℕ) (v : Variable) (old new : Entries) → slice_get variables n ≡ Some v → AreEntriesBelow variables n old → PutsNames old new n (IsNamed v) → AreEntriesBelow variables (n + 1) new
entries_more variables n v old new is was puts name place = (λ c. there ((puts name place).0 c), λ h. (puts name place).1 (back h (cases_lt place n)))
  where
    there : Contains (map entry_of old) (name, place) ⊎ ((place ≡ n) × IsNamed v name) → (place < n + 1) × IsNamedAt variables name place
    there (inl c) = let h = (was name place).0 c in (let l = h.0 in omega (arith, l), h.1)
    there (inr h) = let e = h.0 in (omega (arith, e), (v, ap (slice_get variables) h.0 ∙ is, h.1))

    back : (place < n + 1) × IsNamedAt variables name place → (place < n) ⊎ (n ≤ place) → Contains (map entry_of old) (name, place) ⊎ ((place ≡ n) × IsNamed v name)
    back h (inl less) = inl ((was name place).1 (less, h.1))
    back h (inr more) =
        let l = h.0 in
        let same : place ≡ n = omega (arith, l, more) in
        inr (same, subst (λ z. IsNamed z name) (same_Some h.1.0 v (sym h.1.1 ∙ ap (slice_get variables) same ∙ is)) h.1.2)

pub entries_none : (variables : List Variable) → AreEntriesBelow variables 0 []
entries_none variables name place = (λ c. absurd (omega (arith, c.1)), λ h. let l = h.0 in absurd (omega (arith, l)))

pub entries_all : (variables : List Variable) (n : ℕ) (entries : Entries) → length variables ≤ n → AreEntriesBelow variables n entries → (name : List ℕ) (place : ℕ) → Contains (map entry_of entries) (name, place) ↔ IsNamedAt variables name place
entries_all variables n entries past below name place = (λ c. ((below name place).0 c).1, λ h. (below name place).1 (let w = slice_get_within variables place h.0 h.1 in omega (arith, w, past), h))

-- ---- steps of the loops

pub puts_own : (start now : Entries) (e : Bor (List ℕ) × ℕ) (place : ℕ) (v : Variable) → now ≡ start ++ e ∷ [] → e.1 ≡ place → e.0.now ≡ v.name → PutsNames start now place (IsCalledBy v (take 0 v.aliases))
puts_own start now e place v is at_place own =
    subst (λ (z : Entries). PutsNames start z place (IsCalledBy v (take 0 v.aliases))) (sym is)
    (puts_more start start e place (λ _. ⊥) (IsCalledBy v (take 0 v.aliases)) at_place (λ name. let f = called_first v name in (λ h. there name (f.0 h), λ h. f.1 (back name h))) (puts_none start place (λ _. ⊥) (λ _ h. h)))
  where
    there : (name : List ℕ) → ⊥ ⊎ (v.name ≡ name) → ⊥ ⊎ (e.0.now ≡ name)
    there name (inl h) = inl h
    there name (inr h) = inr (own ∙ h)

    back : (name : List ℕ) → ⊥ ⊎ (e.0.now ≡ name) → ⊥ ⊎ (v.name ≡ name)
    back name (inl h) = inl h
    back name (inr h) = inr (sym own ∙ h)

pub puts_alias : (start old now : Entries) (e : Bor (List ℕ) × ℕ) (place i : ℕ) (v : Variable) (alias : List ℕ) → now ≡ old ++ e ∷ [] → e.1 ≡ place → e.0.now ≡ alias → i < length v.aliases → alias ≡ get_or v.aliases i alias
    → PutsNames start old place (IsCalledBy v (take i v.aliases)) → PutsNames start now place (IsCalledBy v (take (i + 1) v.aliases))
puts_alias start old now e place i v alias is at_place own less item was =
    subst (λ (z : Entries). PutsNames start z place (IsCalledBy v (take (i + 1) v.aliases))) (sym is)
    (puts_more start old e place (IsCalledBy v (take i v.aliases)) (IsCalledBy v (take (i + 1) v.aliases)) at_place (λ name. let f = called_more v i alias name less in (λ h. there name (f.0 h), λ h. f.1 (back name h))) was)
  where
    there : (name : List ℕ) → IsCalledBy v (take i v.aliases) name ⊎ (get_or v.aliases i alias ≡ name) → IsCalledBy v (take i v.aliases) name ⊎ (e.0.now ≡ name)
    there name (inl h) = inl h
    there name (inr h) = inr (own ∙ item ∙ h)

    back : (name : List ℕ) → IsCalledBy v (take i v.aliases) name ⊎ (e.0.now ≡ name) → IsCalledBy v (take i v.aliases) name ⊎ (get_or v.aliases i alias ≡ name)
    back name (inl h) = inl h
    back name (inr h) = inr (sym item ∙ sym own ∙ h)

-- a variable that has no names
pub puts_nothing : (start : Entries) (place : ℕ) (v : Variable) → (is_parameter v.causality ≡ true → is_some v.kind ≡ true → ⊥) → PutsNames start start place (IsNamed v)
puts_nothing start place v none = puts_none start place (IsNamed v) (λ name n. none n.parameter n.known)

-- ---- the walk over a chain

pub walked_none : (entries : Entries) (name : List ℕ) (o : Option ℕ) → FindsFrom (map text_of entries) 0 name o → AreWalked entries name [] o
walked_none entries name o f = record {
  n = 0;
  finds = f;
  each = λ k e l is same. absurd (omega (arith, l));
  only = λ p c. absurd (omega (arith, c.1));
}

text_of_entry : (entries : Entries) (k : ℕ) (e : Bor (List ℕ) × ℕ) → slice_get entries k ≡ Some e → text_at (map text_of entries) k ≡ e.0.now
text_of_entry entries k e is = ap (λ o. unwrap_or o []) (slice_get-map text_of entries k ∙ ap (option_map text_of) is)

pub walked_more : (entries : Entries) (name : List ℕ) (places now : List ℕ) (at : ℕ) (e : Bor (List ℕ) × ℕ) (o : Option ℕ) → slice_get entries at ≡ Some e → now ≡ places ++ e.1 ∷ [] → AreWalked entries name places (Some at)
    → FindsFrom (map text_of entries) (at + 1) (text_at (map text_of entries) at) o → AreWalked entries name now o
walked_more entries name places now at e o is pushed w f = record {
  n = at + 1;
  finds = subst (λ z. FindsFrom (map text_of entries) (at + 1) z o) w.finds.2 f;
  each = λ k x l there same. subst (λ z. Contains z x.1) (sym pushed) (each k x l there same (cases_lt k w.n) (cases_lt k at));
  only = λ p c. only p (Contains-push_cases places e.1 p (subst (λ z. Contains z p) pushed c));
}
  where
    named : e.0.now ≡ name
    named = sym (text_of_entry entries at e is) ∙ w.finds.2

    each : (k : ℕ) (x : Bor (List ℕ) × ℕ) → k < at + 1 → slice_get entries k ≡ Some x → x.0.now ≡ name → (k < w.n) ⊎ (w.n ≤ k) → (k < at) ⊎ (at ≤ k) → Contains (places ++ e.1 ∷ []) x.1
    each k x l there same (inl below) s = Contains-append_left places (e.1 ∷ []) x.1 (w.each k x below there same)
    each k x l there same (inr from) (inl before) = absurd (w.finds.3 k from before (text_of_entry entries k x there ∙ same))
    each k x l there same (inr from) (inr after) =
        let here : k ≡ at = omega (arith, l, after) in
        let one : e ≡ x = same_Some e x (sym is ∙ ap (slice_get entries) (sym here) ∙ there) in
        subst (λ (z : Bor (List ℕ) × ℕ). Contains (places ++ e.1 ∷ []) z.1) one (Contains-push places e.1)

    only : (p : ℕ) → Contains places p ⊎ (e.1 ≡ p) → Contains (map entry_of entries) (name, p)
    only p (inl c) = w.only p c
    only p (inr s) =
        let there : slice_get (map entry_of entries) at ≡ Some (e.0.now, e.1) = slice_get-map entry_of entries at ∙ ap (option_map entry_of) is in
        contains_at (map entry_of entries) at (name, p) (there ∙ ap (λ z. Some (z, e.1)) named ∙ ap (λ z. Some (name, z)) s)

pub walked_all : (entries : Entries) (name : List ℕ) (places : List ℕ) → AreWalked entries name places None → (p : ℕ) → Contains places p ↔ Contains (map entry_of entries) (name, p)
walked_all entries name places w p = (w.only p, λ c. by (place_of (map entry_of entries) (name, p) c))
  where
    by : (k : ℕ) × (slice_get (map entry_of entries) k ≡ Some (name, p)) → Contains places p
    by h = at (slice_get entries h.0) refl
      where
        at : (o : Option (Bor (List ℕ) × ℕ)) → slice_get entries h.0 ≡ o → Contains places p
        at None e =
            let none : slice_get (map entry_of entries) h.0 ≡ None = slice_get-map entry_of entries h.0 ∙ ap (option_map entry_of) e in
            let some = h.1 in
            cc
        at (Some x) e =
            let same : (x.0.now, x.1) ≡ (name, p) = same_Some (x.0.now, x.1) (name, p) (sym (ap (option_map entry_of) e) ∙ sym (slice_get-map entry_of entries h.0) ∙ h.1) in
            let within = slice_get_within entries h.0 x e in
            let len = length-map entries text_of in
            subst (Contains places) (pair_second (x.0.now, x.1) (name, p) same) (found x (pair_first (x.0.now, x.1) (name, p) same) e (cases_lt h.0 w.n))
          where
            found : (x : Bor (List ℕ) × ℕ) → x.0.now ≡ name → slice_get entries h.0 ≡ Some x → (h.0 < w.n) ⊎ (w.n ≤ h.0) → Contains places x.1
            found x named e (inl below) = w.each h.0 x below e named
            found x named e (inr from) = absurd (w.finds h.0 from (let l = length-map entries text_of in let i = slice_get_within entries h.0 x e in omega (arith, l, i)) (text_of_entry entries h.0 x e ∙ named))
