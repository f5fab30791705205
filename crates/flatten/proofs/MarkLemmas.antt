-- Marks of connectors, one after another, and what leads up to marked ones.
use Rattle.std.proofs.Common.{◌≡◌, ◌≢◌, ◌⊎◌, ◌↔◌, ℕ, ◌+◌, ◌<◌, ◌≤◌, Bool, true, false, List, [], ◌∷◌, ◌++◌, length, get_or, map, Option, Some, None, Result, Ok, Err, IfOk, refl, sym, ap, ◌∙◌, subst, inl, inr, arith}
use Rattle.std.specs.List.{All, Contains, slice_get}
use Rattle.std.specs.Option.{IsSome, IsSomeAnd}
use Rattle.std.proofs.lemmas.Bool.{cases_lt, false≢true}
use Rattle.std.proofs.lemmas.List.{get_or_append_left, get_or_push, get_or_past, length_push}
use Rattle.std.proofs.lemmas.List.Elements.{All-from_get_or, Contains-get_or, Contains-push, Contains-push_cases, Contains-append_left}
use Rattle.dependency_order.specs.Paths.{IsMarked}
use Rattle.value_types.specs.declared.shape.Causality.TheVariants.{Input, Output}
use Rattle.value_types.specs.declared.shape.Variable.{Variable}
use Rattle.value_types.specs.declared.shape.Shape.{Shape}
use Rattle.value_types.specs.declared.joint.Class.{Class}
use Rattle.connection_paths.specs.declared.point.Point as paths
use Rattle.connection_paths.specs.declared.point.Connection as joints
use Rattle.connection_paths.specs.Paths as numbers
use Rattle.ssd_tree.specs.declared.tree.SystemTree.{SystemTree}
use Rattle.flatten.specs.Points.{Point, Itself, IsOfSystem, point_of}
use Rattle.flatten.specs.Paths.{Leads, LeadsUpTo}
use Rattle.flatten.specs.Rules.{class_at}
use Rattle.flatten.specs.Given.{AreShapesOf}
use Rattle.flatten.specs.Indexed.{AreNumbered, ends_of}
use Rattle.flatten.specs.Marks.{AreLedTo, AreMarked, AreShared, IsInputBeside, IsLedTo, IsOfClass, NamesOutput}
use Rattle.flatten.proofs.BridgeLemmas.{FindsFrom, finds_from, point_at, point_within}
use Rattle.flatten.proofs.PathLemmas.{system_itself, itself_there, one_variable}

-- ---- one connector after another

-- of the first connectors just those of which this is so are marked
pub record MarkedBelow (IsSo : ℕ → Type 0) (i : ℕ) (marks : List Bool) : Type 0 where
  pub len : length marks ≡ i
  pub each : (c : ℕ) → c < i → IsMarked marks c ↔ IsSo c

pub marked_more : (IsSo : ℕ → Type 0) (i : ℕ) (marks marks' : List Bool) (b : Bool) → marks' ≡ marks ++ b ∷ [] → (b ≡ true) ↔ IsSo i → MarkedBelow IsSo i marks → MarkedBelow IsSo (i + 1) marks'
marked_more IsSo i marks marks' b pushed tells m = subst (MarkedBelow IsSo (i + 1)) (sym pushed) (record {
  len = length_push marks b ∙ ap (λ n. n + 1) m.len;
  each = λ c l. by c l (cases_lt c i);
})
  where
    by : (c : ℕ) → c < i + 1 → (c < i) ⊎ (i ≤ c) → IsMarked (marks ++ b ∷ []) c ↔ IsSo c
    by c l (inl below) =
        let n = m.len in
        subst (λ z. (z ≡ true) ↔ IsSo c) (sym (get_or_append_left marks (b ∷ []) false c (omega (arith, n, below)))) (m.each c below)
    by c l (inr past) =
        let here : i ≡ c = omega (arith, l, past) in
        subst (λ z. IsMarked (marks ++ b ∷ []) z ↔ IsSo z) here (subst (λ z. (z ≡ true) ↔ IsSo i) (sym (get_or_push marks b false i m.len)) tells)

pub marked_whole : (t : SystemTree) (IsSo : ℕ → Type 0) (i : ℕ) (marks : List Bool) → i ≡ length t.connectors → MarkedBelow IsSo i marks → AreMarked t IsSo marks
marked_whole t IsSo i marks whole m = record { len = m.len ∙ whole; each = λ c l. m.each c (omega (arith, l, whole)) }

-- the list of what is marked
abbrev pub ListsBelow : List Bool → ℕ → List ℕ → Type 0
ListsBelow marks i all = (c : ℕ) → Contains all c ↔ ((c < i) × IsMarked marks c)

pub lists_more : (marks : List Bool) (i : ℕ) (all : List ℕ) → get_or marks i false ≡ true → ListsBelow marks i all → ListsBelow marks (i + 1) (all ++ i ∷ [])
lists_more marks i all here lists = λ c. (λ h. from c (Contains-push_cases all i c h), λ h. onto c h (cases_lt c i))
  where
    from : (c : ℕ) → Contains all c ⊎ (i ≡ c) → (c < i + 1) × IsMarked marks c
    from c (inl h) = let w = (lists c).0 h in let l = w.0 in (omega (arith, l), w.1)
    from c (inr e) = (omega (arith, e), subst (IsMarked marks) e here)

    onto : (c : ℕ) → (c < i + 1) × IsMarked marks c → (c < i) ⊎ (i ≤ c) → Contains (all ++ i ∷ []) c
    onto c h (inl l) = Contains-append_left all (i ∷ []) c ((lists c).1 (l, h.1))
    onto c h (inr g) = let l = h.0 in let e : i ≡ c = omega (arith, l, g) in subst (Contains (all ++ i ∷ [])) e (Contains-push all i)

pub lists_past : (marks : List Bool) (i : ℕ) (all : List ℕ) → get_or marks i false ≡ false → ListsBelow marks i all → ListsBelow marks (i + 1) all
lists_past marks i all here lists = λ c. (λ h. (let w = (lists c).0 h in let l = w.0 in (omega (arith, l), w.1)), λ h. onto c h (cases_lt c i))
  where
    onto : (c : ℕ) → (c < i + 1) × IsMarked marks c → (c < i) ⊎ (i ≤ c) → Contains all c
    onto c h (inl l) = (lists c).1 (l, h.1)
    onto c h (inr g) = let l = h.0 in let e : i ≡ c = omega (arith, l, g) in absurd (false≢true (sym here ∙ subst (IsMarked marks) (sym e) h.1))

marked_within : (marks : List Bool) (c : ℕ) → IsMarked marks c → c < length marks
marked_within marks c h = by (cases_lt c (length marks))
  where
    by : (c < length marks) ⊎ (length marks ≤ c) → c < length marks
    by (inl l) = l
    by (inr g) = absurd (false≢true (sym (get_or_past marks c false g) ∙ h))

pub lists_whole : (marks : List Bool) (i : ℕ) (all : List ℕ) → length marks ≤ i → ListsBelow marks i all → (c : ℕ) → Contains all c ↔ IsMarked marks c
lists_whole marks i all past lists c = (λ h. ((lists c).0 h).1, λ h. (lists c).1 ((let l = marked_within marks c h in omega (arith, l, past)), h))

pub listed_within : (marks : List Bool) (all : List ℕ) (n : ℕ) → length marks ≡ n → ((c : ℕ) → Contains all c ↔ IsMarked marks c) → All (λ c. c < n) all
listed_within marks all n len lists =
    All-from_get_or (λ c. c < n) all 0 (λ k l. let w = marked_within marks (get_or all k 0) ((lists (get_or all k 0)).0 (Contains-get_or all k 0 l)) in omega (arith, w, len))

-- ---- what leads up to a connector

-- it is a start, or a System's that something was found for
abbrev pub IsFound : SystemTree → List Bool → List (Option ℕ) → ℕ → Type 0
IsFound t starts found c = IsMarked starts c ⊎ (IsOfSystem t (Itself c) × IsSome (get_or found c None))

-- what holds of a value holds otherwise too
pub if_ok : {X E : Type 0} (P Q : X → Type 0) (r : Result X E) → ((x : X) → P x → Q x) → IfOk r P → IfOk r Q
if_ok P Q (Ok x) f h = f x h
if_ok P Q (Err e) f h = tt

module _ (t : SystemTree) (shapes : List Shape) (points : List paths.Point) (sound : AreShapesOf t shapes) (are : AreNumbered t shapes points) where
  module _ (connections : List joints.Connection) (ends : connections ≡ map ends_of t.connections) (starts : List Bool) (begins : List ℕ) (found : List (Option ℕ))
      (shared : AreShared t shapes starts) (lists : (c : ℕ) → Contains begins c ↔ IsMarked starts c)
      (finds : (c : ℕ) (n : paths.Point) → slice_get points c ≡ Some n → numbers.FindsSource points connections begins n (get_or found c None)) where
    found_for : (c : ℕ) (to : Point) → point_of t shapes c ≡ Some to → FindsFrom t shapes begins to (get_or found c None)
    found_for c to e = finds_from t shapes points connections sound are ends begins c to (get_or found c None) e (finds c)

    led : (c : ℕ) (to : Point) → point_of t shapes c ≡ Some to → IsOfSystem t (Itself c) → (o : Option ℕ) → FindsFrom t shapes begins to o → IsSome o → IsLedTo t shapes (IsMarked starts) c
    led c to e system None f some = absurd (false≢true some)
    led c to e system (Some s) f some = record {
      start = f.2.0;
      from = f.0;
      to = to;
      is_start = (lists f.2.0).0 f.2.1;
      stands = f.2.2;
      there = e;
      leads = inr (subst (IsOfSystem t) (sym (itself_there t shapes points sound are c to e system)) system, f.3);
    }

    is_led : (c : ℕ) → c < length t.connectors → IsFound t starts found c → IsLedTo t shapes (IsMarked starts) c
    is_led c l (inl m) = let p = point_at t shapes c l in record { start = c; from = p.0; to = p.0; is_start = m; stands = p.1; there = p.1; leads = inl refl }
    is_led c l (inr h) = let p = point_at t shapes c l in led c p.0 p.1 h.0 (get_or found c None) (found_for c p.0 p.1) h.1

    some_found : (s : ℕ) (from to : Point) → Contains begins s → point_of t shapes s ≡ Some from → Leads t shapes from to → (o : Option ℕ) → FindsFrom t shapes begins to o → IsSome o
    some_found s from to h e leads None f = absurd (f s from h e leads)
    some_found s from to h e leads (Some d) f = refl

    is_found : (c : ℕ) → IsLedTo t shapes (IsMarked starts) c → IsFound t starts found c
    is_found c l = by l.leads
      where
        by : LeadsUpTo t shapes l.from l.to → IsFound t starts found c
        by (inl same) = inl (shared l.start c l.from l.stands (l.there ∙ ap Some (sym same)) l.is_start)
        by (inr h) = inr (subst (IsOfSystem t) (system_itself t shapes points sound are c l.to l.there h.0) h.0, some_found l.start l.from l.to ((lists l.start).1 l.is_start) l.stands h.1 (get_or found c None) (found_for c l.to l.there))

    pub found_led : (n : ℕ) (reached : List Bool) → n ≡ length t.connectors → MarkedBelow (IsFound t starts found) n reached → AreLedTo t shapes (IsMarked starts) reached
    found_led n reached whole m = record {
      len = m.len ∙ whole;
      each = λ c l. (λ h. is_led c l ((m.each c (omega (arith, l, whole))).0 h), λ h. (m.each c (omega (arith, l, whole))).1 (is_found c h));
    }

  -- what leads up from marked connectors does from those of which this is so
  pub started_as : (IsStart IsSo : ℕ → Type 0) (c : ℕ) → ((s : ℕ) → s < length t.connectors → IsStart s → IsSo s) → IsLedTo t shapes IsStart c → IsLedTo t shapes IsSo c
  started_as IsStart IsSo c turns l = record {
    start = l.start;
    from = l.from;
    to = l.to;
    is_start = turns l.start (point_within t shapes l.start l.from l.stands) l.is_start;
    stands = l.stands;
    there = l.there;
    leads = l.leads;
  }

  pub led_as : (IsSo : ℕ → Type 0) (starts reached : List Bool) → AreMarked t IsSo starts → AreLedTo t shapes (IsMarked starts) reached → AreLedTo t shapes IsSo reached
  led_as IsSo starts reached m l = record {
    len = l.len;
    each = λ c w. (λ h. started_as (IsMarked starts) IsSo c (λ s b. (m.each s b).0) ((l.each c w).0 h), λ h. (l.each c w).1 (started_as IsSo (IsMarked starts) c (λ s b. (m.each s b).1) h));
  }

  -- ---- marks that the connectors of one point share

  named_shared : (R : Variable → Type 0) (c d : ℕ) (p : Point) → point_of t shapes c ≡ Some p → point_of t shapes d ≡ Some p → NamesOutput R t shapes c → NamesOutput R t shapes d
  named_shared R c d p e h names = let Q = λ (o : Option Variable). IsSomeAnd o (λ (x : Variable). (x.causality ≡ Output) × R x) in subst Q (one_variable t shapes points sound are c d p e h) names

  shared_by : (IsSo : ℕ → Type 0) (marks : List Bool) → ((c d : ℕ) (p : Point) → point_of t shapes c ≡ Some p → point_of t shapes d ≡ Some p → IsSo c → IsSo d) → AreMarked t IsSo marks → AreShared t shapes marks
  shared_by IsSo marks kept m = λ c d p e h marked.
      (m.each d (point_within t shapes d p h)).1 (kept c d p e h ((m.each c (point_within t shapes c p e)).0 marked))

  pub names_shared : (R : Variable → Type 0) (marks : List Bool) → AreMarked t (NamesOutput R t shapes) marks → AreShared t shapes marks
  names_shared R marks = shared_by (NamesOutput R t shapes) marks (named_shared R)

  pub class_shared : (class : Option Class) (marks : List Bool) → AreMarked t (IsOfClass t shapes class) marks → AreShared t shapes marks
  class_shared class marks = shared_by (IsOfClass t shapes class) marks kept
    where
      kept : (c d : ℕ) (p : Point) → point_of t shapes c ≡ Some p → point_of t shapes d ≡ Some p → IsOfClass t shapes class c → IsOfClass t shapes class d
      kept c d p e h (inl names) = inl (named_shared (λ x. class_at x ≡ class) c d p e h names)
      kept c d p e h (inr passes) =
          let here : p ≡ Itself c = itself_there t shapes points sound are c p e passes.1.0 in
          let there : p ≡ Itself d = system_itself t shapes points sound are d p h (subst (IsOfSystem t) (sym here) passes.1.0) in
          let one : Itself c ≡ Itself d = sym here ∙ there in
          let same : c ≡ d = cc in
          subst (IsOfClass t shapes class) same (inr passes)

  pub beside_shared : (class : Class) (marks : List Bool) → AreMarked t (IsInputBeside class t shapes) marks → AreShared t shapes marks
  beside_shared class marks = shared_by (IsInputBeside class t shapes) marks kept
    where
      kept : (c d : ℕ) (p : Point) → point_of t shapes c ≡ Some p → point_of t shapes d ≡ Some p → IsInputBeside class t shapes c → IsInputBeside class t shapes d
      kept c d p e h names =
          let Q = λ (o : Option Variable). IsSomeAnd o (λ (x : Variable). (x.causality ≡ Input) × (class_at x ≢ Some class)) in
          subst Q (one_variable t shapes points sound are c d p e h) names
