-- What elements see, by the tables of names and paths.
use Rattle.std.proofs.Common.{◌≡◌, ◌⊎◌, ◌↔◌, ◌<◌, ◌≤◌, ◌+◌, ℕ, List, [], ◌∷◌, ◌++◌, length, take, get_or, Some, refl, sym, ap, ◌∙◌, subst, inl, inr, arith, append_assoc, map, Bor}
use Rattle.std.specs.List.{slice_get, Contains}
use Rattle.std.proofs.lemmas.List.{append_cancel_left, length-map, length_push, map-append, take_all, take_more}
use Rattle.std.proofs.lemmas.List.Elements.{Contains-append_left, Contains-get_or, Contains-push, Contains-push_cases}
use Rattle.std.proofs.lemmas.Option.{get_or_from_slice_get, same_Some, slice_get-get_or, slice_get-map, slice_get_within}
use Rattle.std.specs.Option.{option_map}
use Rattle.name_prefixes.specs.Prefixes.{ArePrefixes, texts}
use Rattle.value_types.specs.declared.shape.Shape.{Shape}
use Rattle.value_types.specs.declared.shape.Variable.{Variable}
use Rattle.ssd_tree.specs.declared.tree.Owner.TheVariants.{System, Component}
use Rattle.ssd_tree.specs.declared.tree.SystemTree.{SystemTree}
use Rattle.parameter_targets.specs.declared.paths.Path.{Path}
use Rattle.parameter_targets.specs.declared.paths.Paths.{Paths}
use Rattle.parameter_targets.specs.declared.target.Target.{Target}
use Rattle.parameter_targets.specs.declared.targets.Targets.{Targets}
use Rattle.ssd_tree.specs.Named.{IsNamedTree}
use Rattle.parameter_targets.specs.Scopes.{IsTarget, Sees}
use Rattle.parameter_targets.specs.Tables.{AreAllPrefixes, AreNear, AreTargets, IsNamed, IsNamedAt, IsNamedIn, IsSeenBelow, row_texts, path_text}
use Rattle.parameter_targets.proofs.ListLemmas.{contains_at, element_at, place_of, push_cases, read_at}
use Rattle.parameter_targets.proofs.PathLemmas.{scope_once}
use Rattle.parameter_targets.proofs.RowLemmas.{begins_around}

-- ---- parameters of a component, one more after another

-- these variables of the component, and those seen before
abbrev pub PutsTargets : List Target → List Target → ℕ → (ℕ → Type 0) → Type 0
PutsTargets start now component P = (t : Target) → Contains now t ↔ (Contains start t ⊎ ((t.component ≡ component) × P t.variable))

abbrev pub target_of : ℕ → ℕ → Target
target_of component variable = record { component = component; variable = variable }

pub puts_nothing : (start : List Target) (component : ℕ) → PutsTargets start start component (λ v. Contains (take 0 (let x : List ℕ = [] in x)) v)
puts_nothing start component t = (λ c. inl c, by)
  where
    by : Contains start t ⊎ ((t.component ≡ component) × Contains (take 0 (let x : List ℕ = [] in x)) t.variable) → Contains start t
    by (inl c) = c
    by (inr h) = absurd (let c = h.1 in omega (arith, c.1))

pub puts_place : (start old now : List Target) (component : ℕ) (places : List ℕ) (i d : ℕ) → i < length places → now ≡ old ++ target_of component (get_or places i d) ∷ [] → PutsTargets start old component (Contains (take i places)) → PutsTargets start now component (Contains (take (i + 1) places))
puts_place start old now component places i d less pushed was t = (
  λ c. there (Contains-push_cases old (target_of component place) t (subst (λ (z : List Target). Contains z t) pushed c)),
  λ h. subst (λ (z : List Target). Contains z t) (sym pushed) (back h),
)
  where
    place : ℕ
    place = get_or places i d

    more : take (i + 1) places ≡ take i places ++ place ∷ []
    more = take_more places i d less

    kept : Contains start t ⊎ ((t.component ≡ component) × Contains (take i places) t.variable) → Contains start t ⊎ ((t.component ≡ component) × Contains (take (i + 1) places) t.variable)
    kept (inl c) = inl c
    kept (inr h) = inr (h.0, subst (λ z. Contains z t.variable) (sym more) (Contains-append_left (take i places) (place ∷ []) t.variable h.1))

    there : Contains old t ⊎ (target_of component place ≡ t) → Contains start t ⊎ ((t.component ≡ component) × Contains (take (i + 1) places) t.variable)
    there (inl c) = kept ((was t).0 c)
    there (inr e) = inr (ap (λ (z : Target). z.component) (sym e), subst (λ z. Contains z t.variable) (sym more) (subst (Contains (take i places ++ place ∷ [])) (ap (λ (z : Target). z.variable) e) (Contains-push (take i places) place)))

    last : t.component ≡ component → Contains (take i places) t.variable ⊎ (place ≡ t.variable) → Contains (old ++ target_of component place ∷ []) t
    last same (inl c) = Contains-append_left old (target_of component place ∷ []) t ((was t).1 (inr (same, c)))
    last same (inr e) = subst (Contains (old ++ target_of component place ∷ [])) (ap (λ v. target_of component v) e ∙ ap (λ k. target_of k t.variable) (sym same)) (Contains-push old (target_of component place))

    back : Contains start t ⊎ ((t.component ≡ component) × Contains (take (i + 1) places) t.variable) → Contains (old ++ target_of component place ∷ []) t
    back (inl c) = Contains-append_left old (target_of component place ∷ []) t ((was t).1 (inl c))
    back (inr h) = last h.0 (Contains-push_cases (take i places) place t.variable (subst (λ z. Contains z t.variable) more h.1))

pub puts_as : (start now : List Target) (component : ℕ) (P Q : ℕ → Type 0) → ((v : ℕ) → P v ↔ Q v) → PutsTargets start now component P → PutsTargets start now component Q
puts_as start now component P Q each was t = (λ c. there ((was t).0 c), λ h. (was t).1 (back h))
  where
    there : Contains start t ⊎ ((t.component ≡ component) × P t.variable) → Contains start t ⊎ ((t.component ≡ component) × Q t.variable)
    there (inl c) = inl c
    there (inr h) = inr (h.0, (each t.variable).0 h.1)

    back : Contains start t ⊎ ((t.component ≡ component) × Q t.variable) → Contains start t ⊎ ((t.component ≡ component) × P t.variable)
    back (inl c) = inl c
    back (inr h) = inr (h.0, (each t.variable).1 h.1)

pub named_in : (shapes : List Shape) (component : ℕ) (s : Shape) (name : List ℕ) (v : ℕ) → slice_get shapes component ≡ Some s → IsNamedAt s.variables name v ↔ IsNamedIn shapes component name v
named_in shapes component s name v is = (λ h. record { shape = s; is = is; named = h }, λ h. subst (λ (z : Shape). IsNamedAt z.variables name v) (same_Some h.shape s (sym h.is ∙ is)) h.named)

-- ---- what a component sees

pub target_is : (shapes : List Shape) (target : Target) (name : List ℕ) → IsNamedIn shapes target.component name target.variable → (v : Variable) × (IsTarget shapes target v × IsNamed v name)
target_is shapes target name h = (h.named.0, (record { shape = h.shape; of = h.is; at = h.named.1; parameter = h.named.2.parameter; known = h.named.2.known }, h.named.2))

pub named_target : (shapes : List Shape) (target : Target) (name : List ℕ) (v : Variable) → IsTarget shapes target v → (called : IsNamed v name) → IsNamedIn shapes target.component name target.variable
named_target shapes target name v is called = record { shape = is.shape; is = is.of; named = (v, is.at, called) }

pub sees_own : (t : SystemTree) (shapes : List Shape) (i : ℕ) (name : List ℕ) (target : Target) → ((target.component ≡ i) × IsNamedIn shapes i name target.variable) ↔ Sees t shapes (Component i) name target
sees_own t shapes i name target = (there, back)
  where
    there : (target.component ≡ i) × IsNamedIn shapes i name target.variable → Sees t shapes (Component i) name target
    there h =
        let is = target_is shapes target name (subst (λ z. IsNamedIn shapes z name target.variable) (sym h.0) h.1) in
        record { variable = is.0; is = is.1.0; own = name; called = is.1.1.called; seen = (h.0, refl) }

    back : Sees t shapes (Component i) name target → (target.component ≡ i) × IsNamedIn shapes i name target.variable
    back s =
        let named = named_target shapes target s.own s.variable s.is (record { parameter = s.is.parameter; known = s.is.known; called = s.called }) in
        (s.seen.0, subst (λ z. IsNamedIn shapes i z target.variable) (sym s.seen.1) (subst (λ z. IsNamedIn shapes z s.own target.variable) s.seen.0 named))

-- ---- what a System sees

pub sees_below : (targets : Targets) (s : ℕ) (name : List ℕ) (target : Target) → IsNamedTree targets.tree.now → IsSeenBelow targets s name target ↔ Sees targets.tree.now targets.shapes.now (System s) name target
sees_below targets s name target named = (there, back)
  where
    t : SystemTree
    t = targets.tree.now

    shapes : List Shape
    shapes = targets.shapes.now

    there : IsSeenBelow targets s name target → Sees targets.tree.now targets.shapes.now (System s) name target
    there h =
        let is = target_is shapes target h.own h.named in
        let p = h.path in
        record {
          variable = is.0;
          is = is.1.0;
          own = h.own;
          called = is.1.1.called;
          seen = record {
            part = p.part;
            is = p.is;
            within = p.within;
            scope = p.path.scope;
            scope_is = p.path.scope_is;
            full = ap (λ z. p.path.scope ++ z) h.is ∙ sym (append_assoc p.path.scope h.text (46 ∷ h.own)) ∙ ap (λ z. z ++ 46 ∷ h.own) p.path.is;
          };
        }

    back : Sees targets.tree.now targets.shapes.now (System s) name target → IsSeenBelow targets s name target
    back sees =
        let b = sees.seen in
        let begins = begins_around t target.component b.part s named b.is b.within in
        let scopes : begins.scope ≡ b.scope = scope_once t s begins.scope b.scope begins.scope_is b.scope_is in
        let name_is : b.part.name ≡ b.scope ++ begins.own = begins.is ∙ ap (λ z. z ++ begins.own) scopes in
        record {
          text = begins.own;
          path = record { part = b.part; is = b.is; within = b.within; path = record { scope = b.scope; scope_is = b.scope_is; is = sym name_is } };
          own = sees.own;
          is = append_cancel_left b.scope name (begins.own ++ 46 ∷ sees.own) (b.full ∙ ap (λ z. z ++ 46 ∷ sees.own) name_is ∙ append_assoc b.scope begins.own (46 ∷ sees.own));
          named = named_target shapes target sees.own sees.variable sees.is (record { parameter = sees.is.parameter; known = sees.is.known; called = sees.called });
        }

-- ---- the walk over the paths of a System

-- seen by one of these paths
pub record IsSeenBy (targets : Targets) (name : List ℕ) (ats : List ℕ) (target : Target) : Type 0 where
  pub at : ℕ
  pub in_row : Contains ats at
  pub path : Path
  pub is : slice_get targets.paths.all.items at ≡ Some path
  pub component_is : path.component ≡ target.component
  pub own : List ℕ
  pub name_is : name ≡ path.text.now ++ 46 ∷ own
  pub named : IsNamedIn targets.shapes.now target.component own target.variable

abbrev pub SeesBy : Targets → List ℕ → List ℕ → List Target → Type 0
SeesBy targets name ats seen = (target : Target) → Contains seen target ↔ IsSeenBy targets name ats target

pub sees_by_none : (targets : Targets) (name ats : List ℕ) → SeesBy targets name (take 0 ats) []
sees_by_none targets name ats target = (λ c. absurd (omega (arith, c.1)), λ h. absurd (let c = h.in_row in omega (arith, c.1)))

by_more : (targets : Targets) (name ats : List ℕ) (i d : ℕ) (target : Target) → i < length ats → IsSeenBy targets name (take i ats) target → IsSeenBy targets name (take (i + 1) ats) target
by_more targets name ats i d target less h = record {
  at = h.at;
  in_row = subst (λ z. Contains z h.at) (sym (take_more ats i d less)) (Contains-append_left (take i ats) (get_or ats i d ∷ []) h.at h.in_row);
  path = h.path;
  is = h.is;
  component_is = h.component_is;
  own = h.own;
  name_is = h.name_is;
  named = h.named;
}

by_last : (targets : Targets) (name ats : List ℕ) (i d : ℕ) (target : Target) (path : Path) → i < length ats → slice_get targets.paths.all.items (get_or ats i d) ≡ Some path → IsSeenBy targets name (take (i + 1) ats) target
    → IsSeenBy targets name (take i ats) target ⊎ ((path.component ≡ target.component) × ((own : List ℕ) × (name ≡ path.text.now ++ 46 ∷ own) × IsNamedIn targets.shapes.now target.component own target.variable))
by_last targets name ats i d target path less is h = by (Contains-push_cases (take i ats) (get_or ats i d) h.at (subst (λ z. Contains z h.at) (take_more ats i d less) h.in_row))
  where
    by : Contains (take i ats) h.at ⊎ (get_or ats i d ≡ h.at) → IsSeenBy targets name (take i ats) target ⊎ ((path.component ≡ target.component) × ((own : List ℕ) × (name ≡ path.text.now ++ 46 ∷ own) × IsNamedIn targets.shapes.now target.component own target.variable))
    by (inl c) = inl (record { at = h.at; in_row = c; path = h.path; is = h.is; component_is = h.component_is; own = h.own; name_is = h.name_is; named = h.named })
    by (inr e) =
        let same : h.path ≡ path = same_Some h.path path (sym h.is ∙ ap (slice_get targets.paths.all.items) (sym e) ∙ is) in
        inr (ap (λ (z : Path). z.component) (sym same) ∙ h.component_is, (h.own, h.name_is ∙ ap (λ (z : Path). z.text.now ++ 46 ∷ h.own) same, h.named))

-- the next path doesn't begin the name
pub sees_by_other : (targets : Targets) (name ats : List ℕ) (i d : ℕ) (seen : List Target) (path : Path) → i < length ats → slice_get targets.paths.all.items (get_or ats i d) ≡ Some path → ((own : List ℕ) → name ≡ path.text.now ++ 46 ∷ own → ⊥)
    → SeesBy targets name (take i ats) seen → SeesBy targets name (take (i + 1) ats) seen
sees_by_other targets name ats i d seen path less is none was target = (λ c. by_more targets name ats i d target less ((was target).0 c), λ h. by (by_last targets name ats i d target path less is h))
  where
    by : IsSeenBy targets name (take i ats) target ⊎ ((path.component ≡ target.component) × ((own : List ℕ) × (name ≡ path.text.now ++ 46 ∷ own) × IsNamedIn targets.shapes.now target.component own target.variable)) → Contains seen target
    by (inl h) = (was target).1 h
    by (inr h) = absurd (none h.1.0 h.1.1)

-- it begins the name
pub sees_by_next : (targets : Targets) (name ats : List ℕ) (i d : ℕ) (old new : List Target) (path : Path) (own : List ℕ) → i < length ats → slice_get targets.paths.all.items (get_or ats i d) ≡ Some path → name ≡ path.text.now ++ 46 ∷ own
    → PutsTargets old new path.component (IsNamedIn targets.shapes.now path.component own) → SeesBy targets name (take i ats) old → SeesBy targets name (take (i + 1) ats) new
sees_by_next targets name ats i d old new path own less is begins puts was target = (λ c. there ((puts target).0 c), λ h. (puts target).1 (back (by_last targets name ats i d target path less is h)))
  where
    there : Contains old target ⊎ ((target.component ≡ path.component) × IsNamedIn targets.shapes.now path.component own target.variable) → IsSeenBy targets name (take (i + 1) ats) target
    there (inl c) = by_more targets name ats i d target less ((was target).0 c)
    there (inr h) = record {
      at = get_or ats i d;
      in_row = subst (λ z. Contains z (get_or ats i d)) (sym (take_more ats i d less)) (Contains-push (take i ats) (get_or ats i d));
      path = path;
      is = is;
      component_is = sym h.0;
      own = own;
      name_is = begins;
      named = subst (λ z. IsNamedIn targets.shapes.now z own target.variable) (sym h.0) h.1;
    }

    back : IsSeenBy targets name (take i ats) target ⊎ ((path.component ≡ target.component) × ((o : List ℕ) × (name ≡ path.text.now ++ 46 ∷ o) × IsNamedIn targets.shapes.now target.component o target.variable))
        → Contains old target ⊎ ((target.component ≡ path.component) × IsNamedIn targets.shapes.now path.component own target.variable)
    back (inl h) = inl ((was target).1 h)
    back (inr h) =
        let cut : 46 ∷ h.1.0 ≡ 46 ∷ own = append_cancel_left path.text.now (46 ∷ h.1.0) (46 ∷ own) (sym h.1.1 ∙ begins) in
        let same : h.1.0 ≡ own = cc in
        inr (sym h.0, subst (λ z. IsNamedIn targets.shapes.now z own target.variable) (sym h.0) (subst (λ z. IsNamedIn targets.shapes.now target.component z target.variable) same h.1.2))

pub sees_by_all : (targets : Targets) (s : ℕ) (name ats : List ℕ) (n : ℕ) (seen : List Target) → AreTargets targets → AreNear targets.paths s name ats → length ats ≤ n → SeesBy targets name (take n ats) seen → (target : Target) → Contains seen target ↔ IsSeenBelow targets s name target
sees_by_all targets s name ats n seen are near past was target = (λ c. there ((was target).0 c), λ h. (was target).1 (back h))
  where
    whole : take n ats ≡ ats
    whole = take_all n ats past

    there : IsSeenBy targets name (take n ats) target → IsSeenBelow targets s name target
    there h = record {
      text = h.path.text.now;
      path = (are.paths.each s target.component h.path.text.now).0 (record { at = h.at; in_row = near.only h.at (subst (λ z. Contains z h.at) whole h.in_row); path = h.path; is = h.is; component_is = h.component_is; text_is = refl });
      own = h.own;
      is = h.name_is;
      named = h.named;
    }

    back : IsSeenBelow targets s name target → IsSeenBy targets name (take n ats) target
    back h =
        let told = (are.paths.each s target.component h.text).1 h.path in
        let begins : name ≡ told.path.text.now ++ 46 ∷ h.own = h.is ∙ ap (λ z. z ++ 46 ∷ h.own) (sym told.text_is) in
        record {
          at = told.at;
          in_row = subst (λ z. Contains z told.at) (sym whole) (near.each told.at told.path (46 ∷ h.own) told.in_row told.is begins);
          path = told.path;
          is = told.is;
          component_is = told.component_is;
          own = h.own;
          name_is = begins;
          named = h.named;
        }

-- a path is that of a component
pub path_component : (targets : Targets) (s at : ℕ) (path : Path) → AreTargets targets → Contains (get_or targets.paths.below s []) at → path ≡ get_or targets.paths.all.items at path → path.component < length targets.shapes.now
path_component targets s at path are in_row is =
    let there = read_at targets.paths.all.items targets.paths.all.items at path refl (are.paths.rows.within s at in_row) is in
    let h = (are.paths.each s path.component path.text.now).0 (record { at = at; in_row = in_row; path = path; is = there; component_is = refl; text_is = refl }) in
    let w = slice_get_within targets.tree.now.components path.component h.part h.is in
    let l = are.shapes in
    omega (arith, w, l)

-- ---- the paths that begin a name

pub prefixes_none : (paths : Paths) (prefixes : List (List (List ℕ))) → prefixes ≡ [] → AreAllPrefixes paths 0 prefixes
prefixes_none paths prefixes e = record { prefixes_len = ap length e; each = λ s f is. absurd (let w = slice_get_within prefixes s f is in let l = ap length e in omega (arith, w, l)) }

pub prefixes_more : (paths : Paths) (n : ℕ) (old new : List (List (List ℕ))) (prefix : List (List ℕ)) → prefix ≡ row_texts paths n → new ≡ old ++ prefix ∷ [] → AreAllPrefixes paths n old → AreAllPrefixes paths (n + 1) new
prefixes_more paths n old new prefix is pushed was = record {
  prefixes_len = ap length pushed ∙ length_push old prefix ∙ ap (λ k. k + 1) was.prefixes_len;
  each = λ s f e. each s f (push_cases old prefix s f (subst (λ z. slice_get z s ≡ Some f) pushed e));
}
  where
    each : (s : ℕ) (f : List (List ℕ)) → (slice_get old s ≡ Some f) ⊎ ((s ≡ length old) × (prefix ≡ f)) → f ≡ row_texts paths s
    each s f (inl e) = was.each s f e
    each s f (inr h) = sym h.1 ∙ is ∙ ap (row_texts paths) (sym (h.0 ∙ was.prefixes_len))

-- the places of the prefixes lead to those of the row
pub near_of : (paths : Paths) (s : ℕ) (name : List ℕ) (places ats : List ℕ) → ArePrefixes (row_texts paths s) name places → ((at : ℕ) → Contains ats at ↔ ((k : ℕ) × (Contains places k × (slice_get (get_or paths.below s []) k ≡ Some at)))) → AreNear paths s name ats
near_of paths s name places ats prefixes led = record {
  only = λ at c. let h = (led at).0 c in contains_at (get_or paths.below s []) h.0 at h.1.1;
  each = λ at path rest in_row is begins.
      let k = place_of (get_or paths.below s []) at in_row in
      let there : slice_get (row_texts paths s) k.0 ≡ Some path.text.now = slice_get-map (λ a. path_text (slice_get paths.all.items a)) (get_or paths.below s []) k.0 ∙ ap (option_map (λ a. path_text (slice_get paths.all.items a))) k.1 ∙ ap (λ o. Some (path_text o)) is in
      (led at).1 (k.0, (prefixes.each k.0 (record { path = path.text.now; at = there; prefix = (rest, begins) }), k.1));
}

-- a place of a prefix is one of the row
pub prefix_within : (paths : Paths) (s k : ℕ) (name : List ℕ) (places : List ℕ) → ArePrefixes (row_texts paths s) name places → Contains places k → k < length (get_or paths.below s [])
prefix_within paths s k name places prefixes c =
    let h = prefixes.only k c in
    let w = slice_get_within (row_texts paths s) k h.path h.at in
    let l = length-map (get_or paths.below s []) (λ at. path_text (slice_get paths.all.items at)) in
    omega (arith, w, l)

-- the places that the prefixes of a System answer are those of its row
pub prefixes_in_row : {targets : Targets} (s : ℕ) {texts : List (List ℕ)} {bytes name places : List ℕ} → AreTargets targets → s < length targets.tree.now.systems → texts ≡ get_or targets.prefixes.items s texts → bytes ≡ name → ArePrefixes texts bytes places → ArePrefixes (row_texts targets.paths s) name places
prefixes_in_row {targets} s {texts} {bytes} {name} {places} are within read same prefixes =
    let rows_len = are.paths.rows.rows_len in
    let prefixes_len = are.prefixes.prefixes_len in
    let row = are.prefixes.each s texts (read_at targets.prefixes.items targets.prefixes.items s texts refl (omega (arith, within, rows_len, prefixes_len)) read) in
    subst (λ n. ArePrefixes (row_texts targets.paths s) n places) same (subst (λ t. ArePrefixes t bytes places) row prefixes)

-- each of them stands in the row
pub place_in_row : (paths : Paths) (s i : ℕ) {name places items row : List ℕ} → ArePrefixes (row_texts paths s) name places → items ≡ places → i < length items → row ≡ get_or paths.below s [] → get_or items i 0 < length row
place_in_row paths s i {name} {places} {items} {row} prefixes same less is =
    let inside = subst (λ z. Contains z (get_or items i 0)) same (Contains-get_or items i 0 less) in
    subst (λ (z : List ℕ). get_or items i 0 < length z) (sym is) (prefix_within paths s (get_or items i 0) name places prefixes inside)

-- the elements of a row at some places
pub led_all : (row : List ℕ) (places ats : List ℕ) (i : ℕ) → length places ≤ i → ats ≡ map (λ k. get_or row k 0) (take i places) → ((k : ℕ) → Contains places k → k < length row) → (at : ℕ) → Contains ats at ↔ ((k : ℕ) × (Contains places k × (slice_get row k ≡ Some at)))
led_all row places ats i past is within at = (λ c. there (subst (λ z. Contains z at) whole c), λ h. subst (λ z. Contains z at) (sym whole) (back h))
  where
    whole : ats ≡ map (λ k. get_or row k 0) places
    whole = is ∙ ap (map (λ k. get_or row k 0)) (take_all i places past)

    there : Contains (map (λ k. get_or row k 0) places) at → (k : ℕ) × (Contains places k × (slice_get row k ≡ Some at))
    there c =
        let p = place_of (map (λ k. get_or row k 0) places) at c in
        let j = element_at places p.0 (let w = slice_get_within (map (λ k. get_or row k 0) places) p.0 at p.1 in let l = length-map places (λ k. get_or row k 0) in omega (arith, w, l)) in
        let inside = contains_at places p.0 j.0 j.1 in
        let value : get_or row j.0 0 ≡ at = same_Some (get_or row j.0 0) at (sym (slice_get-map (λ k. get_or row k 0) places p.0 ∙ ap (option_map (λ k. get_or row k 0)) j.1) ∙ p.1) in
        (j.0, (inside, slice_get-get_or row j.0 0 (within j.0 inside) ∙ ap Some value))

    back : (k : ℕ) × (Contains places k × (slice_get row k ≡ Some at)) → Contains (map (λ k. get_or row k 0) places) at
    back h =
        let p = place_of places h.0 h.1.0 in
        let value : get_or row h.0 0 ≡ at = get_or_from_slice_get row h.0 at 0 h.1.1 in
        contains_at (map (λ k. get_or row k 0) places) p.0 at (slice_get-map (λ k. get_or row k 0) places p.0 ∙ ap (option_map (λ k. get_or row k 0)) p.1 ∙ ap Some value)

pub texts_more : (paths : Paths) (row : List ℕ) (i : ℕ) (old new : List (Bor (List ℕ))) (b : Bor (List ℕ)) (p : Path) → i < length row → new ≡ old ++ b ∷ [] → b.now ≡ p.text.now → slice_get paths.all.items (get_or row i 0) ≡ Some p
    → texts old ≡ map (λ at. path_text (slice_get paths.all.items at)) (take i row) → texts new ≡ map (λ at. path_text (slice_get paths.all.items at)) (take (i + 1) row)
texts_more paths row i old new b p less pushed text is was =
    let f : ℕ → List ℕ = λ at. path_text (slice_get paths.all.items at) in
    let here : b.now ≡ f (get_or row i 0) = text ∙ ap path_text (sym is) in
    ap texts pushed ∙ map-append (λ (x : Bor (List ℕ)). x.now) old (b ∷ []) ∙ ap (λ z. z ++ b.now ∷ []) was ∙ ap (λ z. map f (take i row) ++ z ∷ []) here ∙ sym (map-append f (take i row) (get_or row i 0 ∷ [])) ∙ ap (map f) (sym (take_more row i 0 less))
