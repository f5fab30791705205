-- Lists of needs that grow.
use Rattle.std.proofs.Common.{◌≡◌, ◌⊎◌, ℕ, ◌+◌, ◌<◌, Bool, false, List, [], ◌∷◌, ◌++◌, length, take, get_or, set, Option, Some, None, Result, Ok, Err, inl, inr, sym, ap, ◌∙◌, subst, arith}
use Rattle.std.specs.List.{Contains, All}
use Rattle.std.specs.Result.{OnOk}
use Rattle.std.proofs.lemmas.Option.{same_Some}
use Rattle.std.proofs.lemmas.Bool.{cases_eq, false≢true}
use Rattle.std.proofs.lemmas.List.{take_more, get_or-set_same, get_or-set_other, length-set, map-append}
use Rattle.std.proofs.lemmas.List.Elements.{All-nil, Contains-push, Contains-push_cases, Contains-append_left}
use Rattle.sim_base.specs.declared.numbers.PortId.{PortId}
use Rattle.dependency_order.specs.Graph.{AreBelow, Needs}
use Rattle.dependency_order.specs.Paths.{IsMarked}
use Rattle.dependency_order.proofs.CallerLemmas.{in_pushed, in_pushed_back, in_same, list_below}
use Rattle.system_model.specs.declared.system.Component.{Component}
use Rattle.value_types.specs.declared.shape.Knowns.TheVariants.{Listed}
use Rattle.system_model.specs.declared.system.Role.{Role}
use Rattle.system_model.specs.declared.system.Port.{Port}
use Rattle.system_model.specs.Ports.{port_numbers, source_of}
use Rattle.port_orders.specs.Gathered.{Adds, Concerns, IsGathering, IsKnown, IsKnownOf, IsReferred, knowns_in, place_in, row_at}

-- ---- one more

pub adds_pushed : (taken : List Bool) (port need : ℕ) (old new : List (List ℕ)) → port < length old → IsMarked taken need → new ≡ set old port (get_or old port [] ++ need ∷ []) → Adds taken port (λ q. q ≡ need) old new
adds_pushed taken port need old new within marked is = record { cases = λ p q. (λ h. on p q (in_pushed_back old port need p q within (subst (λ z. Needs z p q) is h)), λ h. back p q h) }
  where
    on : (p q : ℕ) → Needs old p q ⊎ ((p ≡ port) × (need ≡ q)) → Needs old p q ⊎ ((p ≡ port) × ((q ≡ need) × IsMarked taken q))
    on p q (inl h) = inl h
    on p q (inr e) = inr (e.0, (sym e.1, subst (IsMarked taken) e.1 marked))

    here : Needs new port need
    here = subst (λ z. Needs z port need) (sym is) (in_same old port (get_or old port [] ++ need ∷ []) need within (Contains-push (get_or old port []) need))

    back : (p q : ℕ) → Needs old p q ⊎ ((p ≡ port) × ((q ≡ need) × IsMarked taken q)) → Needs new p q
    back p q (inl h) = subst (λ z. Needs z p q) (sym is) (in_pushed old port need p q within h)
    back p q (inr e) = subst (λ z. Needs new z q) (sym e.0) (subst (Needs new port) (sym e.1.0) here)

-- nothing comes that isn't there
pub adds_known : (taken : List Bool) (port : ℕ) (IsAdded : ℕ → Type 0) (lists : List (List ℕ)) → ((q : ℕ) → IsAdded q → IsMarked taken q → Needs lists port q) → Adds taken port IsAdded lists lists
adds_known taken port IsAdded lists known = record { cases = λ p q. (λ h. inl h, λ h. back p q h) }
  where
    back : (p q : ℕ) → Needs lists p q ⊎ ((p ≡ port) × (IsAdded q × IsMarked taken q)) → Needs lists p q
    back p q (inl h) = h
    back p q (inr e) = subst (λ z. Needs lists z q) (sym e.0) (known q e.1.0 e.1.1)

pub adds_unmarked : (taken : List Bool) (port need : ℕ) (lists : List (List ℕ)) → get_or taken need false ≡ false → Adds taken port (λ q. q ≡ need) lists lists
adds_unmarked taken port need lists out = adds_known taken port (λ q. q ≡ need) lists (λ q e m. absurd (false≢true (sym out ∙ subst (IsMarked taken) e m)))

pub adds_stamped : (taken : List Bool) (port need : ℕ) (stamps : List (Option ℕ)) (lists : List (List ℕ)) → IsGathering (length taken) stamps lists → get_or stamps need None ≡ Some port → Adds taken port (λ q. q ≡ need) lists lists
adds_stamped taken port need stamps lists g stamped = adds_known taken port (λ q. q ≡ need) lists (λ q e m. subst (Needs lists port) (sym e) (g.told port need stamped))

pub gathers : (count port need : ℕ) (stamps : List (Option ℕ)) (old new : List (List ℕ)) → IsGathering count stamps old → port < count → need < count → new ≡ set old port (get_or old port [] ++ need ∷ []) → IsGathering count (set stamps need (Some port)) new
gathers count port need stamps old new g within inside is = record {
  stamped = length-set stamps need (Some port) ∙ g.stamped;
  len = ap length is ∙ length-set old port (get_or old port [] ++ need ∷ []) ∙ g.len;
  told = λ p q e. told p q e (cases_eq q need);
}
  where
    there : port < length old
    there = let n = g.len in omega (arith, n, within)

    told : (p q : ℕ) → get_or (set stamps need (Some port)) q None ≡ Some p → (q ≡ need) ⊎ (q ≡ need → ⊥) → Needs new p q
    told p q e (inl same) =
        let found : Some port ≡ Some p = sym (get_or-set_same stamps need (Some port) None (let n = g.stamped in omega (arith, n, inside))) ∙ ap (λ z. get_or (set stamps need (Some port)) z None) (sym same) ∙ e in
        let port_is : port ≡ p = cc in
        subst (λ z. Needs z p q) (sym is) (subst (λ z. Needs (set old port (get_or old port [] ++ need ∷ [])) z q) port_is (subst (Needs (set old port (get_or old port [] ++ need ∷ [])) port) (sym same)
        (in_same old port (get_or old port [] ++ need ∷ []) need there (Contains-push (get_or old port []) need))))
    told p q e (inr ne) = subst (λ z. Needs z p q) (sym is) (in_pushed old port need p q there (g.told p q (sym (get_or-set_other stamps need q (Some port) None ne) ∙ e)))

-- ---- one after another

pub adds_more : (taken : List Bool) (port : ℕ) (P Q S : ℕ → Type 0) (a b c : List (List ℕ)) → ((q : ℕ) → P q ⊎ Q q → S q) → ((q : ℕ) → S q → P q ⊎ Q q) → Adds taken port P a b → Adds taken port Q b c → Adds taken port S a c
adds_more taken port P Q S a b c onto from one two = record { cases = λ p q. (λ h. on p q ((two.cases p q).0 h), λ h. back p q h) }
  where
    first : (p q : ℕ) → Needs a p q ⊎ ((p ≡ port) × (P q × IsMarked taken q)) → Needs a p q ⊎ ((p ≡ port) × (S q × IsMarked taken q))
    first p q (inl h) = inl h
    first p q (inr e) = inr (e.0, (onto q (inl e.1.0), e.1.1))

    on : (p q : ℕ) → Needs b p q ⊎ ((p ≡ port) × (Q q × IsMarked taken q)) → Needs a p q ⊎ ((p ≡ port) × (S q × IsMarked taken q))
    on p q (inl h) = first p q ((one.cases p q).0 h)
    on p q (inr e) = inr (e.0, (onto q (inr e.1.0), e.1.1))

    by : (p q : ℕ) → p ≡ port → IsMarked taken q → P q ⊎ Q q → Needs c p q
    by p q e m (inl h) = (two.cases p q).1 (inl ((one.cases p q).1 (inr (e, (h, m)))))
    by p q e m (inr h) = (two.cases p q).1 (inr (e, (h, m)))

    back : (p q : ℕ) → Needs a p q ⊎ ((p ≡ port) × (S q × IsMarked taken q)) → Needs c p q
    back p q (inl h) = (two.cases p q).1 (inl ((one.cases p q).1 (inl h)))
    back p q (inr e) = by p q e.0 e.1.1 (from q e.1.0)

pub all_more : (taken : List Bool) (port : ℕ) (needs : List ℕ) (i : ℕ) (a b c : List (List ℕ)) → i < length needs → Adds taken port (Contains (take i needs)) a b → Adds taken port (λ q. q ≡ get_or needs i 0) b c → Adds taken port (Contains (take (i + 1) needs)) a c
all_more taken port needs i a b c within = adds_more taken port (Contains (take i needs)) (λ q. q ≡ get_or needs i 0) (Contains (take (i + 1) needs)) a b c onto from
  where
    onto : (q : ℕ) → Contains (take i needs) q ⊎ (q ≡ get_or needs i 0) → Contains (take (i + 1) needs) q
    onto q (inl h) = subst (λ z. Contains z q) (sym (take_more needs i 0 within)) (Contains-append_left (take i needs) (get_or needs i 0 ∷ []) q h)
    onto q (inr e) = subst (λ z. Contains z q) (sym (take_more needs i 0 within)) (subst (Contains (take i needs ++ get_or needs i 0 ∷ [])) (sym e) (Contains-push (take i needs) (get_or needs i 0)))

    turned : (q : ℕ) → Contains (take i needs) q ⊎ (get_or needs i 0 ≡ q) → Contains (take i needs) q ⊎ (q ≡ get_or needs i 0)
    turned q (inl h) = inl h
    turned q (inr e) = inr (sym e)

    from : (q : ℕ) → Contains (take (i + 1) needs) q → Contains (take i needs) q ⊎ (q ≡ get_or needs i 0)
    from q h = turned q (Contains-push_cases (take i needs) (get_or needs i 0) q (subst (λ z. Contains z q) (take_more needs i 0 within) h))

pub clocks_more : (taken : List Bool) (port : ℕ) (initializing : Bool) (clocks : List PortId) (i : ℕ) (d : PortId) (a b c : List (List ℕ)) → initializing ≡ false → i < length clocks
    → Adds taken port (λ q. (initializing ≡ false) × Contains (port_numbers (take i clocks)) q) a b → Adds taken port (λ q. q ≡ (get_or clocks i d).0) b c → Adds taken port (λ q. (initializing ≡ false) × Contains (port_numbers (take (i + 1) clocks)) q) a c
clocks_more taken port initializing clocks i d a b c instants within =
    adds_more taken port (λ q. (initializing ≡ false) × Contains (port_numbers (take i clocks)) q) (λ q. q ≡ (get_or clocks i d).0) (λ q. (initializing ≡ false) × Contains (port_numbers (take (i + 1) clocks)) q) a b c onto from
  where
    split : port_numbers (take (i + 1) clocks) ≡ port_numbers (take i clocks) ++ (get_or clocks i d).0 ∷ []
    split = ap port_numbers (take_more clocks i d within) ∙ map-append (λ (p : PortId). p.0) (take i clocks) (get_or clocks i d ∷ [])

    onto : (q : ℕ) → ((initializing ≡ false) × Contains (port_numbers (take i clocks)) q) ⊎ (q ≡ (get_or clocks i d).0) → (initializing ≡ false) × Contains (port_numbers (take (i + 1) clocks)) q
    onto q (inl h) = (h.0, subst (λ z. Contains z q) (sym split) (Contains-append_left (port_numbers (take i clocks)) ((get_or clocks i d).0 ∷ []) q h.1))
    onto q (inr e) = (instants, subst (λ z. Contains z q) (sym split) (subst (Contains (port_numbers (take i clocks) ++ (get_or clocks i d).0 ∷ [])) (sym e) (Contains-push (port_numbers (take i clocks)) (get_or clocks i d).0)))

    turned : (q : ℕ) → Contains (port_numbers (take i clocks)) q ⊎ ((get_or clocks i d).0 ≡ q) → ((initializing ≡ false) × Contains (port_numbers (take i clocks)) q) ⊎ (q ≡ (get_or clocks i d).0)
    turned q (inl h) = inl (instants, h)
    turned q (inr e) = inr (sym e)

    from : (q : ℕ) → (initializing ≡ false) × Contains (port_numbers (take (i + 1) clocks)) q → ((initializing ≡ false) × Contains (port_numbers (take i clocks)) q) ⊎ (q ≡ (get_or clocks i d).0)
    from q h = turned q (Contains-push_cases (port_numbers (take i clocks)) (get_or clocks i d).0 q (subst (λ z. Contains z q) split h.1))

pub referred_more : (taken : List Bool) (number : ℕ) (components : List Component) (port : Port) (on : List ℕ) (table : List (List ℕ)) (i : ℕ) (row : List ℕ) (a b c : List (List ℕ)) → i < length on → row ≡ row_at table (place_in components port (get_or on i 0))
    → Adds taken number (IsReferred components port (take i on) table) a b → Adds taken number (Contains row) b c → Adds taken number (IsReferred components port (take (i + 1) on) table) a c
referred_more taken number components port on table i row a b c within is = adds_more taken number (IsReferred components port (take i on) table) (Contains row) (IsReferred components port (take (i + 1) on) table) a b c onto from
  where
    onto : (q : ℕ) → IsReferred components port (take i on) table q ⊎ Contains row q → IsReferred components port (take (i + 1) on) table q
    onto q (inl h) = (h.0, (subst (λ z. Contains z h.0) (sym (take_more on i 0 within)) (Contains-append_left (take i on) (get_or on i 0 ∷ []) h.0 h.1.0), h.1.1))
    onto q (inr h) = (get_or on i 0, (subst (λ z. Contains z (get_or on i 0)) (sym (take_more on i 0 within)) (Contains-push (take i on) (get_or on i 0)), subst (λ z. Contains z q) is h))

    by : (q r : ℕ) → Contains (row_at table (place_in components port r)) q → Contains (take i on) r ⊎ (get_or on i 0 ≡ r) → IsReferred components port (take i on) table q ⊎ Contains row q
    by q r h (inl c) = inl (r, (c, h))
    by q r h (inr e) = inr (subst (λ z. Contains z q) (sym is) (subst (λ z. Contains (row_at table (place_in components port z)) q) (sym e) h))

    from : (q : ℕ) → IsReferred components port (take (i + 1) on) table q → IsReferred components port (take i on) table q ⊎ Contains row q
    from q h = by q h.0 h.1.1 (Contains-push_cases (take i on) (get_or on i 0) h.0 (subst (λ z. Contains z h.0) (take_more on i 0 within) h.1.0))

-- ---- from one description of what is added to another

pub adds_as : (taken : List Bool) (port : ℕ) (P Q : ℕ → Type 0) (a b : List (List ℕ)) → ((q : ℕ) → P q → Q q) → ((q : ℕ) → Q q → P q) → Adds taken port P a b → Adds taken port Q a b
adds_as taken port P Q a b onto from adds = record { cases = λ p q. (λ h. on p q ((adds.cases p q).0 h), λ h. (adds.cases p q).1 (back p q h)) }
  where
    on : (p q : ℕ) → Needs a p q ⊎ ((p ≡ port) × (P q × IsMarked taken q)) → Needs a p q ⊎ ((p ≡ port) × (Q q × IsMarked taken q))
    on p q (inl h) = inl h
    on p q (inr e) = inr (e.0, (onto q e.1.0, e.1.1))

    back : (p q : ℕ) → Needs a p q ⊎ ((p ≡ port) × (Q q × IsMarked taken q)) → Needs a p q ⊎ ((p ≡ port) × (P q × IsMarked taken q))
    back p q (inl h) = inl h
    back p q (inr e) = inr (e.0, (from q e.1.0, e.1.1))

pub adds_source : {E : Type 0} (r : Result (Unit {0}) E) (taken : List Bool) (port : ℕ) (role : Role) (source : ℕ) (a b : List (List ℕ)) → source_of role ≡ Some source → OnOk r (Adds taken port (λ q. q ≡ source) a b) → OnOk r (Adds taken port (λ q. source_of role ≡ Some q) a b)
adds_source (Err e) taken port role source a b is adds = tt
adds_source (Ok u) taken port role source a b is adds =
    adds_as taken port (λ q. q ≡ source) (λ q. source_of role ≡ Some q) a b (λ q e. is ∙ ap Some (sym e)) (λ q e. same_Some q source (sym e ∙ is)) adds

pub adds_known_of : {E : Type 0} (r : Result (Unit {0}) E) (taken : List Bool) (number : ℕ) (components : List Component) (initializing : Bool) (port : Port) (on : List ℕ) (table a b : List (List ℕ)) → knowns_in components initializing port ≡ Some (Listed on)
    → OnOk r (Adds taken number (IsReferred components port on table) a b) → OnOk r (Adds taken number (IsKnown components initializing port table) a b)
adds_known_of (Err e) taken number components initializing port on table a b is adds = tt
adds_known_of (Ok u) taken number components initializing port on table a b is adds =
    adds_as taken number (IsReferred components port on table) (IsKnown components initializing port table) a b
    (λ q h. subst (λ z. IsKnownOf components port z table q) (sym is) h) (λ q h. subst (λ z. IsKnownOf components port z table q) is h) adds

pub adds_concerns : {E : Type 0} (r : Result (Unit {0}) E) (taken : List Bool) (number : ℕ) (components : List Component) (initializing : Bool) (port : Port) (table a b c d : List (List ℕ)) → Adds taken number (λ q. source_of port.role ≡ Some q) a b
    → Adds taken number (λ q. (initializing ≡ false) × Contains (port_numbers port.clocks) q) b c → OnOk r (Adds taken number (IsKnown components initializing port table) c d) → OnOk r (Adds taken number (Concerns components initializing port table) a d)
adds_concerns (Err e) taken number components initializing port table a b c d one two three = tt
adds_concerns (Ok u) taken number components initializing port table a b c d one two three =
    adds_more taken number (λ q. source_of port.role ≡ Some q) (λ q. ((initializing ≡ false) × Contains (port_numbers port.clocks) q) ⊎ IsKnown components initializing port table q) (Concerns components initializing port table) a b d
    (λ q h. h) (λ q h. h) one
    (adds_more taken number (λ q. (initializing ≡ false) × Contains (port_numbers port.clocks) q) (IsKnown components initializing port table) (λ q. ((initializing ≡ false) × Contains (port_numbers port.clocks) q) ⊎ IsKnown components initializing port table q) b c d
    (λ q h. h) (λ q h. h) two three)

pub row_below : (table : List (List ℕ)) (limit : ℕ) (place : Option ℕ) → AreBelow table limit → All (λ q. q < limit) (row_at table place)
row_below table limit None below = All-nil (λ q. q < limit)
row_below table limit (Some place) below = list_below table limit place below
