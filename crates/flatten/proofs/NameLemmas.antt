-- Names put in one after another, and the places to which they lead.
use Rattle.std.proofs.Common.{◌≡◌, ◌⊎◌, ℕ, zero, suc, ◌+◌, ◌<◌, ◌≤◌, ◌==◌, Bool, true, false, ◌||◌, not, cond, eqb, nat_lt, List, [], ◌∷◌, ◌++◌, length, take, replicate, set, get_or, Option, Some, None, refl, sym, ap, ◌∙◌, subst, inl, inr, arith, position}
use Rattle.std.specs.List.{slice_get, list_any, position_or_len}
use Rattle.std.specs.Str.{bytes_eq}
use Rattle.std.specs.Option.{option_or, option_and_then, option_flatten}
use Rattle.std.proofs.lemmas.Bool.{cases_eq, cases_lt, eq-eqb, eqb-true}
use Rattle.std.proofs.lemmas.Bool.Decides.{nat_tests}
use Rattle.std.proofs.lemmas.List.{length_push, length-replicate, length-set, length-take-le, take_more, take_all}
use Rattle.std.proofs.lemmas.List.Folds.{list_any_more, position_or_len_push}
use Rattle.std.proofs.lemmas.Option.{slice_get_within, slice_get_past, same_Some}
use Rattle.std.proofs.lemmas.Slice.Eq.{bytes_eq-Decides}
use Rattle.doc_tables.specs.Places.{found_in}
use Rattle.doc_tables.specs.Tables.{Finds, IsTable}
use Rattle.doc_tables.specs.declared.scopes.ScopedPlaces.{ScopedPlaces}
use Rattle.doc_tables.proofs.CallerLemmas.{IsWithin}
use Rattle.ssd_tree.specs.declared.tree.Owner.{Owner}
use Rattle.ssd_tree.specs.declared.tree.Owner.TheVariants.{System, Component}
use Rattle.ssd_tree.specs.declared.tree.Connector.{Connector}
use Rattle.value_types.specs.declared.shape.Variable.{Variable}
use Rattle.value_types.specs.declared.shape.Shape.{Shape}
use Rattle.flatten.specs.declared.names.VariableNames.{VariableNames}
use Rattle.flatten.specs.Indexed.{AreNames, LeadTo, place_by, place_for, place_if, wanted_at, wanted_by, with_places}
use Rattle.flatten.specs.Points.{has_name}
use Rattle.flatten.proofs.PieceLemmas.{element_at, get_left, get_right}

-- ---- a list written at one place

set_here : {A : Type 0} (xs : List A) (i : ℕ) (x : A) → i < length xs → slice_get (set xs i x) i ≡ Some x
set_here [] i x l = absurd (omega arith)
set_here (y ∷ ys) zero x l = refl
set_here (y ∷ ys) (suc i) x l = set_here ys i x (omega arith)

set_other : {A : Type 0} (xs : List A) (i j : ℕ) (x : A) → (j ≡ i → ⊥) → slice_get (set xs i x) j ≡ slice_get xs j
set_other [] i j x apart = refl
set_other (y ∷ ys) zero zero x apart = absurd (apart refl)
set_other (y ∷ ys) zero (suc j) x apart = refl
set_other (y ∷ ys) (suc i) zero x apart = refl
set_other (y ∷ ys) (suc i) (suc j) x apart = set_other ys i j x (λ e. apart (ap suc e))

-- ---- the names that connectors give

pub wanted_within : (connectors : List Connector) → IsWithin (wanted_at connectors) (length connectors)
wanted_within connectors number key is = by (slice_get connectors number) refl is
  where
    by : (o : Option Connector) → slice_get connectors number ≡ o → option_and_then (λ (k : Connector). wanted_by k.owner k.name) o ≡ Some key → number < length connectors
    by None e h = cc
    by (Some k) e h = slice_get_within connectors number k e

none_at : (n k : ℕ) → k < n → ◌≡◌ {A = Option (Option ℕ)} (slice_get (replicate n None) k) (Some None)
none_at zero k less = absurd (omega arith)
none_at (suc n) zero less = refl
none_at (suc n) (suc k) less = none_at n k (omega arith)

-- ---- one name more

abbrev IsKey : ℕ → List ℕ → ℕ → List ℕ → Type 0
IsKey component name other wanted = ◌≡◌ {A = ℕ × List ℕ} (component, name) (other, wanted)

split : (other component : ℕ) (wanted name : List ℕ) → (IsKey component name other wanted) ⊎ (IsKey component name other wanted → ⊥)
split other component wanted name = by (cases_eq component other) (bytes_eq name wanted) refl
  where
    by : (component ≡ other) ⊎ (component ≡ other → ⊥) → (b : Bool) → bytes_eq name wanted ≡ b → (IsKey component name other wanted) ⊎ (IsKey component name other wanted → ⊥)
    by (inl same) true e = inl (ap (λ z. (z, name)) same ∙ ap (λ z. (other, z)) ((bytes_eq-Decides name wanted).0 e))
    by (inl same) false e = inr (λ one. let alike : bytes_eq name wanted ≡ true = (bytes_eq-Decides name wanted).1 (ap (λ (z : ℕ × List ℕ). z.1) one) in cc)
    by (inr apart) b e = inr (λ one. apart (ap (λ (z : ℕ × List ℕ). z.0) one))

module _ (places : ℕ → List ℕ → Option ℕ) (component place : ℕ) (name : List ℕ) where
  abbrev more : ℕ → List ℕ → Option ℕ
  more = with_places places component (λ other. place_if (bytes_eq name other) place)

  -- the name itself
  more_here : (other : ℕ) (wanted : List ℕ) → IsKey component name other wanted → more other wanted ≡ option_or (places other wanted) (Some place)
  more_here other wanted one =
      let same : (other == component) ≡ true = eq-eqb other component (sym (ap (λ (z : ℕ × List ℕ). z.0) one)) in
      let alike : bytes_eq name wanted ≡ true = (bytes_eq-Decides name wanted).1 (ap (λ (z : ℕ × List ℕ). z.1) one) in
      ap (λ z. option_or (places other wanted) (cond z (place_if (bytes_eq name wanted) place) None)) same ∙ ap (λ z. option_or (places other wanted) (place_if z place)) alike

  -- every other name
  more_other : (other : ℕ) (wanted : List ℕ) → (IsKey component name other wanted → ⊥) → more other wanted ≡ places other wanted
  more_other other wanted apart = by (other == component) refl (bytes_eq name wanted) refl
    where
      none : (o : Option ℕ) → option_or o None ≡ o
      none (Some x) = refl
      none None = refl

      by : (a : Bool) → (other == component) ≡ a → (b : Bool) → bytes_eq name wanted ≡ b → more other wanted ≡ places other wanted
      by false e b f = ap (λ z. option_or (places other wanted) (cond z (place_if (bytes_eq name wanted) place) None)) e ∙ none (places other wanted)
      by true e false f = ap (λ z. option_or (places other wanted) (cond z (place_if (bytes_eq name wanted) place) None)) e ∙ ap (λ z. option_or (places other wanted) (place_if z place)) f ∙ none (places other wanted)
      by true e true f = absurd (apart (ap (λ z. (z, name)) (sym (eqb-true other component e)) ∙ ap (λ z. (other, z)) ((bytes_eq-Decides name wanted).0 f)))

module _ (connectors : List Connector) (places : ℕ → List ℕ → Option ℕ) (component place : ℕ) (name : List ℕ) (names : VariableNames) (l : LeadTo connectors places names) where
  -- the connector that is found gives the name
  gives : (key : ℕ × List ℕ) (number : ℕ) → found_in names.wanted key ≡ Some number → wanted_at connectors number ≡ Some key
  gives key number is = (subst (Finds (wanted_at connectors) key) is (l.table key)).0

  -- no connector gives the name
  pub lead_unwanted : found_in names.wanted (component, name) ≡ None → LeadTo connectors (more places component place name) names
  lead_unwanted none = record {
    table = l.table;
    len = l.len;
    told = λ other wanted number is. l.told other wanted number is ∙ ap Some (sym (more_other places component place name other wanted (λ one.
        let here : found_in names.wanted (component, name) ≡ Some number = ap (found_in names.wanted) one ∙ is in cc)));
  }

  -- the name leads somewhere already
  pub lead_known : (number q : ℕ) → found_in names.wanted (component, name) ≡ Some number → slice_get names.places.items number ≡ Some (Some q) → LeadTo connectors (more places component place name) names
  lead_known number q found known = record {
    table = l.table;
    len = l.len;
    told = λ other wanted at is. l.told other wanted at is ∙ ap Some (sym (by other wanted at is (split other component wanted name)));
  }
    where
      by : (other : ℕ) (wanted : List ℕ) (at : ℕ) → found_in names.wanted (other, wanted) ≡ Some at → (IsKey component name other wanted) ⊎ (IsKey component name other wanted → ⊥)
          → more places component place name other wanted ≡ places other wanted
      by other wanted at is (inl one) =
          let same : number ≡ at = same_Some number at (sym found ∙ ap (found_in names.wanted) one ∙ is) in
          let told : places other wanted ≡ Some q = same_Some (places other wanted) (Some q) (sym (l.told other wanted at is) ∙ ap (slice_get names.places.items) (sym same) ∙ known) in
          more_here places component place name other wanted one ∙ ap (λ z. option_or z (Some place)) told ∙ sym told
      by other wanted at is (inr apart) = more_other places component place name other wanted apart

  pub lead_held : (number : ℕ) (x : Option ℕ) → found_in names.wanted (component, name) ≡ Some number → slice_get names.places.items number ≡ Some x → (x ≡ None → ⊥) → LeadTo connectors (more places component place name) names
  lead_held number None found known some = absurd (some refl)
  lead_held number (Some q) found known some = lead_known number q found known

  -- the connector that is found has a place
  pub found_within : (number : ℕ) → found_in names.wanted (component, name) ≡ Some number → number < length names.places.items
  found_within number found =
      let within = wanted_within connectors number (component, name) (gives (component, name) number found) in
      let len = l.len in
      omega (arith, within, len)

  -- the name leads nowhere as yet
  pub lead_noted : (number : ℕ) (new : VariableNames) → found_in names.wanted (component, name) ≡ Some number → slice_get names.places.items number ≡ Some None
      → new.wanted ≡ names.wanted → new.places.items ≡ set names.places.items number (Some place) → LeadTo connectors (more places component place name) new
  lead_noted number new found free same written = record {
    table = subst (λ (w : ScopedPlaces). IsTable (wanted_at connectors) (found_in w)) (sym same) l.table;
    len = ap length written ∙ length-set names.places.items number (Some place) ∙ l.len;
    told = λ other wanted at is.
        let was : found_in names.wanted (other, wanted) ≡ Some at = ap (λ (w : ScopedPlaces). found_in w (other, wanted)) (sym same) ∙ is in
        ap (λ xs. slice_get xs at) written ∙ by other wanted at was (split other component wanted name);
  }
    where
      within : number < length names.places.items
      within = slice_get_within names.places.items number None free

      by : (other : ℕ) (wanted : List ℕ) (at : ℕ) → found_in names.wanted (other, wanted) ≡ Some at → (IsKey component name other wanted) ⊎ (IsKey component name other wanted → ⊥)
          → slice_get (set names.places.items number (Some place)) at ≡ Some (more places component place name other wanted)
      by other wanted at is (inl one) =
          let here : number ≡ at = same_Some number at (sym found ∙ ap (found_in names.wanted) one ∙ is) in
          let told : places other wanted ≡ None = same_Some (places other wanted) None (sym (l.told other wanted at is) ∙ ap (slice_get names.places.items) (sym here) ∙ free) in
          ap (slice_get (set names.places.items number (Some place))) (sym here) ∙ set_here names.places.items number (Some place) within
          ∙ ap Some (sym (more_here places component place name other wanted one ∙ ap (λ z. option_or z (Some place)) told))
      by other wanted at is (inr apart) =
          let elsewhere : at ≡ number → ⊥ = λ same_at. apart (same_Some (component, name) (other, wanted) (sym (gives (component, name) number found) ∙ ap (wanted_at connectors) (sym same_at) ∙ gives (other, wanted) at is)) in
          set_other names.places.items number at (Some place) elsewhere ∙ l.told other wanted at is ∙ ap Some (sym (more_other places component place name other wanted apart))

-- the same places, told another way
pub lead_as : (connectors : List Connector) (names : VariableNames) (one other : ℕ → List ℕ → Option ℕ) → ((component : ℕ) (name : List ℕ) → one component name ≡ other component name) → LeadTo connectors one names → LeadTo connectors other names
lead_as connectors names one other same l = record { table = l.table; len = l.len; told = λ component name number is. l.told component name number is ∙ ap Some (same component name) }

-- ---- several names, one after another

or_none : (o : Option ℕ) (b : Bool) → o ≡ option_or o (cond b None None)
or_none (Some x) b = refl
or_none None true = refl
or_none None false = refl

-- no names as yet
pub lead_begins : (connectors : List Connector) (names : VariableNames) (component : ℕ) (places : ℕ → List ℕ → Option ℕ) (more : List ℕ → Option ℕ) → ((name : List ℕ) → more name ≡ None) → LeadTo connectors places names → LeadTo connectors (with_places places component more) names
lead_begins connectors names component places more none = lead_as connectors names places (with_places places component more) (λ other name. or_none (places other name) (other == component) ∙ ap (λ z. option_or (places other name) (cond (other == component) z None)) (sym (none name)))

both_places : (was one other : Option ℕ) (b : Bool) → option_or (option_or was (cond b one None)) (cond b other None) ≡ option_or was (cond b (option_or one other) None)
both_places (Some x) one other b = refl
both_places None one other true = refl
both_places None one other false = refl

-- further names of the same component
pub lead_more : (connectors : List Connector) (names : VariableNames) (component : ℕ) (places : ℕ → List ℕ → Option ℕ) (one more both : List ℕ → Option ℕ) → ((name : List ℕ) → option_or (one name) (more name) ≡ both name)
    → LeadTo connectors (with_places (with_places places component one) component more) names → LeadTo connectors (with_places places component both) names
lead_more connectors names component places one more both is = lead_as connectors names (with_places (with_places places component one) component more) (with_places places component both)
    (λ other name. both_places (places other name) (one name) (more name) (other == component) ∙ ap (λ z. option_or (places other name) (cond (other == component) z None)) (is name))

or_places : (a b : Bool) (place : ℕ) → option_or (place_if a place) (place_if b place) ≡ place_if (a || b) place
or_places true b place = refl
or_places false b place = refl

or_assoc : (a b c : Bool) → (a || b) || c ≡ a || (b || c)
or_assoc true b c = refl
or_assoc false b c = refl

or_false : (a : Bool) → a || false ≡ a
or_false true = refl
or_false false = refl

-- one alias more
pub alias_more : (v : Variable) (i place : ℕ) (alias name : List ℕ) → i < length v.aliases → alias ≡ get_or v.aliases i alias
    → option_or (place_if (bytes_eq v.name name || list_any (λ z. bytes_eq z name) (take i v.aliases)) place) (place_if (bytes_eq alias name) place) ≡ place_if (bytes_eq v.name name || list_any (λ z. bytes_eq z name) (take (i + 1) v.aliases)) place
alias_more v i place alias name within is =
    let any : list_any (λ z. bytes_eq z name) (take (i + 1) v.aliases) ≡ (list_any (λ z. bytes_eq z name) (take i v.aliases) || bytes_eq alias name) = list_any_more (λ z. bytes_eq z name) v.aliases i alias within ∙ ap (λ z. list_any (λ y. bytes_eq y name) (take i v.aliases) || bytes_eq z name) (sym is) in
    or_places (bytes_eq v.name name || list_any (λ z. bytes_eq z name) (take i v.aliases)) (bytes_eq alias name) place
    ∙ ap (λ z. place_if z place) (or_assoc (bytes_eq v.name name) (list_any (λ z. bytes_eq z name) (take i v.aliases)) (bytes_eq alias name) ∙ ap (λ z. bytes_eq v.name name || z) (sym any))

pub alias_none : (v : Variable) (place : ℕ) (name : List ℕ) → place_if (bytes_eq v.name name) place ≡ place_if (bytes_eq v.name name || list_any (λ z. bytes_eq z name) (take 0 v.aliases)) place
alias_none v place name = ap (λ z. place_if z place) (sym (or_false (bytes_eq v.name name)))

-- ---- the first that passes

position_later : {A : Type 0} (p : A → Bool) (y : A) (n k : ℕ) → k ≤ n → cond (nat_lt (cond (eqb k n) (n + cond (p y) 0 1) k) (n + 1)) (Some (cond (eqb k n) (n + cond (p y) 0 1) k)) None ≡ option_or (cond (nat_lt k n) (Some k) None) (place_if (p y) n)
position_later p y n k less = by (cases_lt k n) (p y) refl
  where
    by : (k < n) ⊎ (n ≤ k) → (b : Bool) → p y ≡ b → cond (nat_lt (cond (eqb k n) (n + cond (p y) 0 1) k) (n + 1)) (Some (cond (eqb k n) (n + cond (p y) 0 1) k)) None ≡ option_or (cond (nat_lt k n) (Some k) None) (place_if (p y) n)
    by (inl h) b e =
        let apart : eqb k n ≡ false = grind (arith, nat_tests) in
        let low : nat_lt k n ≡ true = grind (arith, nat_tests) in
        let lower : nat_lt k (n + 1) ≡ true = grind (arith, nat_tests) in
        rw (apart, low, lower)
    by (inr h) true e =
        let same : eqb k n ≡ true = grind (arith, nat_tests) in
        let none : nat_lt k n ≡ false = grind (arith, nat_tests) in
        let lower : nat_lt (n + 0) (n + 1) ≡ true = grind (arith, nat_tests) in
        let zero_more : n + 0 ≡ n = omega arith in
        rw (same, none, e, lower, zero_more)
    by (inr h) false e =
        let same : eqb k n ≡ true = grind (arith, nat_tests) in
        let none : nat_lt k n ≡ false = grind (arith, nat_tests) in
        let past : nat_lt (n + 1) (n + 1) ≡ false = grind (arith, nat_tests) in
        rw (same, none, e, past)

len_within : {A : Type 0} (p : A → Bool) (xs : List A) → position_or_len p xs ≤ length xs
len_within p [] = omega arith
len_within p (x ∷ xs) = one_more (p x) (position_or_len p xs) (length xs) (len_within p xs)
  where
    one_more : (b : Bool) (k n : ℕ) → k ≤ n → cond (not b) (1 + k) 0 ≤ suc n
    one_more true k n less = omega arith
    one_more false k n less = omega arith

pub position_push : {A : Type 0} (p : A → Bool) (xs : List A) (y : A) → position p (xs ++ y ∷ []) ≡ option_or (position p xs) (place_if (p y) (length xs))
position_push p xs y =
    let k = position_or_len_push p xs y in
    let n = length_push xs y in
    ap (λ z. cond (nat_lt z (length (xs ++ y ∷ []))) (Some z) None) k
    ∙ ap (λ z. cond (nat_lt (cond (eqb (position_or_len p xs) (length xs)) (length xs + cond (p y) 0 1) (position_or_len p xs)) z) (Some (cond (eqb (position_or_len p xs) (length xs)) (length xs + cond (p y) 0 1) (position_or_len p xs))) None) n
    ∙ position_later p y (length xs) (position_or_len p xs) (len_within p xs)

pub position_more : {A : Type 0} (p : A → Bool) (xs : List A) (i : ℕ) (x : A) → i < length xs → x ≡ get_or xs i x → option_or (position p (take i xs)) (place_if (p x) i) ≡ position p (take (i + 1) xs)
position_more p xs i x within is =
    let len : length (take i xs) ≡ i = length-take-le i xs (omega arith) in
    sym (ap (position p) (take_more xs i x within ∙ ap (λ z. take i xs ++ z ∷ []) (sym is)) ∙ position_push p (take i xs) x ∙ ap (λ n. option_or (position p (take i xs)) (place_if (p x) n)) len)

pub position_all : {A : Type 0} (p : A → Bool) (xs : List A) (i : ℕ) → length xs ≤ i → position p (take i xs) ≡ position p xs
position_all p xs i past = ap (position p) (take_all i xs past)

-- ---- one component after another

slice_more : {A B : Type 0} (f : A → Option B) (xs : List A) (y : A) (k : ℕ) → option_or (option_and_then f (slice_get xs k)) (cond (k == length xs) (f y) None) ≡ option_and_then f (slice_get (xs ++ y ∷ []) k)
slice_more f xs y k = by (cases_lt k (length xs))
  where
    some : (o : Option _) → o ≡ option_or o (cond false (f y) None)
    some (Some z) = refl
    some None = refl

    by : (k < length xs) ⊎ (length xs ≤ k) → option_or (option_and_then f (slice_get xs k)) (cond (k == length xs) (f y) None) ≡ option_and_then f (slice_get (xs ++ y ∷ []) k)
    by (inl h) =
        let x = element_at xs k h in
        let apart : (k == length xs) ≡ false = grind (arith, nat_tests) in
        let there : slice_get (xs ++ y ∷ []) k ≡ slice_get xs k = get_left xs (y ∷ []) k x.0 x.1 ∙ sym x.1 in
        ap (λ z. option_or (option_and_then f (slice_get xs k)) (cond z (f y) None)) apart ∙ sym (some (option_and_then f (slice_get xs k))) ∙ ap (option_and_then f) (sym there)
    by (inr h) = past (cases_lt (length xs) k)
      where
        none : slice_get xs k ≡ None
        none = slice_get_past xs k h

        past : (length xs < k) ⊎ (k ≤ length xs) → option_or (option_and_then f (slice_get xs k)) (cond (k == length xs) (f y) None) ≡ option_and_then f (slice_get (xs ++ y ∷ []) k)
        past (inl more_than) =
            let apart : (k == length xs) ≡ false = grind (arith, nat_tests) in
            let n = length_push xs y in
            let nothing : slice_get (xs ++ y ∷ []) k ≡ None = slice_get_past (xs ++ y ∷ []) k (omega arith) in
            ap (λ z. option_or (option_and_then f z) (cond (k == length xs) (f y) None)) none ∙ ap (λ z. cond z (f y) None) apart ∙ ap (option_and_then f) (sym nothing)
        past (inr less_than) =
            let same : (k == length xs) ≡ true = grind (arith, nat_tests) in
            let here : slice_get (xs ++ y ∷ []) k ≡ Some y = ap (slice_get (xs ++ y ∷ [])) (omega arith) ∙ get_right xs (y ∷ []) 0 in
            ap (λ z. option_or (option_and_then f z) (cond (k == length xs) (f y) None)) none ∙ ap (λ z. cond z (f y) None) same ∙ ap (option_and_then f) (sym here)

pub lead_none : (connectors : List Connector) (names : VariableNames) → IsTable (wanted_at connectors) (found_in names.wanted) → names.places.items ≡ replicate (length connectors) None
    → LeadTo connectors (λ component name. place_for [] (Component component) name) names
lead_none connectors names table none = record {
  table = table;
  len = ap length none ∙ length-replicate (length connectors) None;
  told = λ component name number is.
      let key : wanted_at connectors number ≡ Some (component, name) = (subst (Finds (wanted_at connectors) (component, name)) is (table (component, name))).0 in
      ap (λ xs. slice_get xs number) none ∙ none_at (length connectors) number (wanted_within connectors number (component, name) key);
}

pub lead_component : (connectors : List Connector) (names : VariableNames) (shapes : List Shape) (i : ℕ) (s : Shape) → i < length shapes → s ≡ get_or shapes i s
    → LeadTo connectors (with_places (λ component name. place_for (take i shapes) (Component component) name) i (λ name. position (has_name name) s.variables)) names → LeadTo connectors (λ component name. place_for (take (i + 1) shapes) (Component component) name) names
lead_component connectors names shapes i s within is = lead_as connectors names _ _ (λ component name.
    let len : length (take i shapes) ≡ i = length-take-le i shapes (omega arith) in
    ap (λ n. option_or (place_for (take i shapes) (Component component) name) (cond (component == n) (position (has_name name) s.variables) None)) (sym len)
    ∙ slice_more (λ (z : Shape). position (has_name name) z.variables) (take i shapes) s component
    ∙ ap (λ z. place_for z (Component component) name) (sym (take_more shapes i s within ∙ ap (λ z. take i shapes ++ z ∷ []) (sym is))))

pub names_whole : (connectors : List Connector) (names : VariableNames) (shapes : List Shape) (i : ℕ) → length shapes ≤ i → LeadTo connectors (λ component name. place_for (take i shapes) (Component component) name) names
    → AreNames connectors shapes names
names_whole connectors names shapes i past l number k there = by k.owner refl
  where
    all : (component : ℕ) → place_for (take i shapes) (Component component) k.name ≡ place_for shapes (Component component) k.name
    all component = ap (λ z. place_for z (Component component) k.name) (take_all i shapes past)

    at : (component : ℕ) → wanted_at connectors number ≡ Some (component, k.name) → (o : Option ℕ) → found_in names.wanted (component, k.name) ≡ o
        → option_and_then (λ (n : ℕ). option_flatten (slice_get names.places.items n)) o ≡ place_for shapes (Component component) k.name
    at component gives None is = absurd ((subst (Finds (wanted_at connectors) (component, k.name)) is (l.table (component, k.name))) (number, gives))
    at component gives (Some n) is = ap option_flatten (l.told component k.name n is) ∙ all component

    by : (owner : Owner) → k.owner ≡ owner → place_by names owner k.name ≡ place_for shapes owner k.name
    by (System system) e = refl
    by (Component component) e =
        let gives : wanted_at connectors number ≡ Some (component, k.name) = ap (option_and_then (λ (z : Connector). wanted_by z.owner z.name)) there ∙ ap (λ z. wanted_by z k.name) e in
        at component gives (found_in names.wanted (component, k.name)) refl

-- ---- steps of the loops

pub lead_alias : (connectors : List Connector) (old new : VariableNames) (component place i : ℕ) (v : Variable) (alias : List ℕ) (places : ℕ → List ℕ → Option ℕ) → i < length v.aliases → alias ≡ get_or v.aliases i alias
    → ((was : ℕ → List ℕ → Option ℕ) → LeadTo connectors was old → LeadTo connectors (with_places was component (λ other. place_if (bytes_eq alias other) place)) new)
    → LeadTo connectors (with_places places component (λ name. place_if (bytes_eq v.name name || list_any (λ z. bytes_eq z name) (take i v.aliases)) place)) old → LeadTo connectors (with_places places component (λ name. place_if (bytes_eq v.name name || list_any (λ z. bytes_eq z name) (take (i + 1) v.aliases)) place)) new
lead_alias connectors old new component place i v alias places within is puts l =
    lead_more connectors new component places _ _ _ (λ name. alias_more v i place alias name within is) (puts _ l)

pub lead_own : (connectors : List Connector) (names : VariableNames) (component place : ℕ) (v : Variable) (places : ℕ → List ℕ → Option ℕ) → LeadTo connectors (with_places places component (λ name. place_if (bytes_eq v.name name) place)) names
    → LeadTo connectors (with_places places component (λ name. place_if (bytes_eq v.name name || list_any (λ z. bytes_eq z name) (take 0 v.aliases)) place)) names
lead_own connectors names component place v places = lead_as connectors names _ _ (λ other name. ap (λ z. option_or (places other name) (cond (other == component) z None)) (alias_none v place name))

pub lead_all_names : (connectors : List Connector) (names : VariableNames) (component place i : ℕ) (v : Variable) (places : ℕ → List ℕ → Option ℕ) → length v.aliases ≤ i → LeadTo connectors (with_places places component (λ name. place_if (bytes_eq v.name name || list_any (λ z. bytes_eq z name) (take i v.aliases)) place)) names
    → LeadTo connectors (with_places places component (λ name. place_if (has_name name v) place)) names
lead_all_names connectors names component place i v places past = lead_as connectors names _ _ (λ other name. ap (λ zs. option_or (places other name) (cond (other == component) (place_if (bytes_eq v.name name || list_any (λ z. bytes_eq z name) zs) place) None)) (take_all i v.aliases past))

pub lead_variable : (connectors : List Connector) (old new : VariableNames) (component i : ℕ) (variables : List Variable) (v : Variable) (places : ℕ → List ℕ → Option ℕ) → i < length variables → v ≡ get_or variables i v
    → ((was : ℕ → List ℕ → Option ℕ) → LeadTo connectors was old → LeadTo connectors (with_places was component (λ name. place_if (has_name name v) i)) new)
    → LeadTo connectors (with_places places component (λ name. position (has_name name) (take i variables))) old → LeadTo connectors (with_places places component (λ name. position (has_name name) (take (i + 1) variables))) new
lead_variable connectors old new component i variables v places within is puts l =
    lead_more connectors new component places _ _ _ (λ name. position_more (has_name name) variables i v within is) (puts _ l)

pub lead_all_variables : (connectors : List Connector) (names : VariableNames) (component i : ℕ) (variables : List Variable) (places : ℕ → List ℕ → Option ℕ) → length variables ≤ i → LeadTo connectors (with_places places component (λ name. position (has_name name) (take i variables))) names
    → LeadTo connectors (with_places places component (λ name. position (has_name name) variables)) names
lead_all_variables connectors names component i variables places past = lead_as connectors names _ _ (λ other name. ap (λ z. option_or (places other name) (cond (other == component) z None)) (position_all (has_name name) variables i past))
