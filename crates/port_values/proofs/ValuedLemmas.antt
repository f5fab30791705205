-- The ports that have a value, where one comes or goes.
use Rattle.std.proofs.Common.{◌≡◌, ℕ, ℤ, ◌+◌, ◌<◌, ◌≤◌, Bool, true, false, List, [], ◌∷◌, ◌++◌, Some, None, ap, ◌∙◌, sym, refl, subst, arith, zero, suc, take, length, map, get_or, append-nil}
use Rattle.std.specs.Prelude.{Option, is_some, if◌then◌else◌, slice_set}
use Rattle.std.specs.List.{slice_get}
use Rattle.std.proofs.lemmas.List.{length-take-le, take_more, take_more_set}
use Rattle.port_values.specs.Valued.{valued_from, valued_ports}

abbrev ports_from : ℕ → List (Option ℤ) → List ℕ
ports_from k values = map (λ (e : ℕ × ℤ). e.0) (valued_from k values)

abbrev one_if : Bool → ℕ → List ℕ
one_if there p = if there then p ∷ [] else []

-- one more place after it
ports_push : (k : ℕ) (values : List (Option ℤ)) (v : Option ℤ) (p : ℕ) → p ≡ k + length values → ports_from k (values ++ v ∷ []) ≡ ports_from k values ++ one_if (is_some v) p
ports_push k [] None p at = refl
ports_push k [] (Some w) p at = let same : k ≡ p = omega (arith, at) in ap (λ (q : ℕ). q ∷ []) same
ports_push k (None ∷ values) v p at = ports_push (k + 1) values v p (omega (arith, at))
ports_push k (Some w ∷ values) v p at = ap (λ (ps : List ℕ). k ∷ ps) (ports_push (k + 1) values v p (omega (arith, at)))

-- no more are there than places
ports_few : (k : ℕ) (values : List (Option ℤ)) → length (ports_from k values) ≤ length values
ports_few k [] = omega arith
ports_few k (None ∷ values) = let few = ports_few (k + 1) values in omega (arith, few)
ports_few k (Some w ∷ values) = let few = ports_few (k + 1) values in omega (arith, few)

-- the places up to the next, where that has a value, or none
module _ (values : List (Option ℤ)) (port : ℕ) (d : Option ℤ) (within : port < length values) where
  next : valued_ports (take (port + 1) values) ≡ valued_ports (take port values) ++ one_if (is_some (get_or values port d)) port
  next =
      ap valued_ports (take_more values port d within)
      ∙ ports_push 0 (take port values) (get_or values port d) port (let long = length-take-le port values (omega (arith, within)) in omega (arith, long))

  pub next_there : is_some (get_or values port d) ≡ true → (places : List ℕ) (count : ℕ) → count < length places → take count places ≡ valued_ports (take port values) → take (count + 1) (slice_set places count port) ≡ valued_ports (take (port + 1) values)
  next_there there places count room noted =
      take_more_set places count port room ∙ ap (λ (ps : List ℕ). ps ++ port ∷ []) noted
      ∙ sym (next ∙ ap (λ (b : Bool). valued_ports (take port values) ++ one_if b port) there)

  pub next_none : is_some (get_or values port d) ≡ false → valued_ports (take (port + 1) values) ≡ valued_ports (take port values)
  next_none none = next ∙ ap (λ (b : Bool). valued_ports (take port values) ++ one_if b port) none ∙ append-nil (valued_ports (take port values))

-- a place that has a value before and after, or neither, leaves them
ports_same : (k : ℕ) (values : List (Option ℤ)) (i : ℕ) (v d : Option ℤ) → i < length values → is_some v ≡ is_some (get_or values i d) → ports_from k (slice_set values i v) ≡ ports_from k values
ports_same k [] i v d within same = absurd (omega (arith, within))
ports_same k (None ∷ values) zero None d within same = refl
ports_same k (None ∷ values) zero (Some w) d within same = absurd (cc)
ports_same k (Some x ∷ values) zero None d within same = absurd (cc)
ports_same k (Some x ∷ values) zero (Some w) d within same = refl
ports_same k (None ∷ values) (suc i) v d within same = ports_same (k + 1) values i v d (omega (arith, within)) same
ports_same k (Some x ∷ values) (suc i) v d within same = ap (λ (ps : List ℕ). k ∷ ps) (ports_same (k + 1) values i v d (omega (arith, within)) same)

pub valued_same : (values : List (Option ℤ)) (i : ℕ) (v d : Option ℤ) → i < length values → is_some v ≡ is_some (get_or values i d) → valued_ports (slice_set values i v) ≡ valued_ports values
valued_same values i v d within same = ports_same 0 values i v d within same

-- ---- one of them

-- it is a port with its value
record IsNth (k : ℕ) (values : List (Option ℤ)) (n p : ℕ) : Type 0 where
  pub i : ℕ
  pub v : ℤ
  pub at : p ≡ k + i
  pub is : slice_get values i ≡ Some (Some v)
  pub nth : slice_get (valued_from k values) n ≡ Some (p, v)

nth_from : (k : ℕ) (values : List (Option ℤ)) (n p : ℕ) → slice_get (ports_from k values) n ≡ Some p → IsNth k values n p
nth_from k [] n p is = absurd (cc)
nth_from k (None ∷ values) n p is = let r = nth_from (k + 1) values n p is in record { i = suc r.i; v = r.v; at = (let at = r.at in omega (arith, at)); is = r.is; nth = r.nth }
nth_from k (Some w ∷ values) zero p is = let same : k ≡ p = cc in record { i = 0; v = w; at = omega (arith, same); is = refl; nth = ap (λ (q : ℕ). Some (q, w)) same }
nth_from k (Some w ∷ values) (suc n) p is = let r = nth_from (k + 1) values n p is in record { i = suc r.i; v = r.v; at = (let at = r.at in omega (arith, at)); is = r.is; nth = r.nth }

-- at its own place
pub record IsThere (values : List (Option ℤ)) (n p : ℕ) : Type 0 where
  pub v : ℤ
  pub is : slice_get values p ≡ Some (Some v)
  pub nth : slice_get (valued_from 0 values) n ≡ Some (p, v)

pub nth_port : (values : List (Option ℤ)) (n p : ℕ) → slice_get (valued_ports values) n ≡ Some p → IsThere values n p
nth_port values n p at =
    let r = nth_from 0 values n p at in
    let same : r.i ≡ p = (let e = r.at in omega (arith, e)) in
    record { v = r.v; is = subst (λ (i : ℕ). slice_get values i ≡ Some (Some r.v)) same r.is; nth = r.nth }

-- after the last there is none
pub none_after : (values : List (Option ℤ)) (n : ℕ) → slice_get (valued_ports values) n ≡ None → slice_get (valued_from 0 values) n ≡ None
none_after values n none = by (valued_from 0 values) n none
  where
    by : (entries : List (ℕ × ℤ)) (n : ℕ) → slice_get (map (λ (e : ℕ × ℤ). e.0) entries) n ≡ None → slice_get entries n ≡ None
    by [] n none = refl
    by (x ∷ entries) zero none = absurd (cc)
    by (x ∷ entries) (suc n) none = by entries n none
