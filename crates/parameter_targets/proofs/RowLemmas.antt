-- The paths of components, one more after another.
use Rattle.std.proofs.Common.{◌≡◌, ◌⊎◌, ◌↔◌, ◌<◌, ◌≤◌, ◌+◌, ℕ, zero, suc, List, [], ◌∷◌, ◌++◌, length, set, map, take, get_or, replicate, Option, Some, None, refl, sym, ap, ◌∙◌, subst, inl, inr, arith}
use Rattle.std.specs.List.{slice_get, Contains}
use Rattle.std.proofs.lemmas.Bool.{cases_lt}
use Rattle.std.specs.Option.{option_map}
use Rattle.std.proofs.lemmas.List.{length-map, length-set, length_push, get_or-set_same, map-append, take_all, take_more}
use Rattle.std.proofs.lemmas.List.Elements.{All-contains, Contains-push}
use Rattle.std.proofs.lemmas.Option.{same_Some, slice_get-map, slice_get_within}
use Rattle.ssd_tree.specs.declared.tree.SystemPart.{SystemPart}
use Rattle.ssd_tree.specs.declared.tree.ComponentPart.{ComponentPart}
use Rattle.ssd_tree.specs.declared.tree.SystemTree.{SystemTree}
use Rattle.dependency_order.proofs.CallerLemmas.{in_pushed, in_pushed_back}
use Rattle.name_prefixes.proofs.CallerLemmas.{pushed_before, pushed_last}
use Rattle.parameter_targets.specs.declared.paths.Path.{Path}
use Rattle.parameter_targets.specs.declared.paths.Paths.{Paths}
use Rattle.ssd_tree.specs.Named.{BeginsWithScope, IsInScope, IsNamedTree}
use Rattle.parameter_targets.specs.Scopes.{IsWithin, Same, Deeper}
use Rattle.parameter_targets.specs.Tables.{AreFullNames, AreRows, ArePaths, ArePathsBelow, IsPath, IsPathText, TellsPath}
use Rattle.parameter_targets.proofs.ListLemmas.{contains_at, push_cases}
use Rattle.parameter_targets.proofs.PathLemmas.{begins_within, path_once}

-- ---- one path more

module _ (old new : Paths) (system : ℕ) (p : Path) (all : new.all.items ≡ old.all.items ++ p ∷ []) (below : new.below ≡ set old.below system (get_or old.below system [] ++ length old.all.items ∷ [])) (within : system < length old.below) (systems : ℕ)
    (rows : AreRows systems old) where
  len : ℕ
  len = length old.all.items

  pushed : length new.all.items ≡ length old.all.items + 1
  pushed = ap length all ∙ length_push old.all.items p

  back : (s at : ℕ) → Contains (get_or new.below s []) at → Contains (get_or old.below s []) at ⊎ ((s ≡ system) × (length old.all.items ≡ at))
  back s at c = in_pushed_back old.below system (length old.all.items) s at within (subst (λ z. Contains (get_or z s []) at) below c)

  pub rows_more : AreRows systems new
  rows_more = record {
    rows_len = ap length below ∙ length-set old.below system (get_or old.below system [] ++ length old.all.items ∷ []) ∙ rows.rows_len;
    within = λ s at c. by s at (back s at c);
  }
    where
      by : (s at : ℕ) → Contains (get_or old.below s []) at ⊎ ((s ≡ system) × (length old.all.items ≡ at)) → at < length new.all.items
      by s at (inl c) = let l = rows.within s at c in omega (arith, l, pushed)
      by s at (inr h) = let e = h.1 in omega (arith, e, pushed)

  pub tells_more : (s c : ℕ) (text : List ℕ) → TellsPath new s c text ↔ (TellsPath old s c text ⊎ ((s ≡ system) × (c ≡ p.component) × (text ≡ p.text.now)))
  tells_more s c text = (λ t. there t (back s t.at t.in_row) (push_cases old.all.items p t.at t.path (subst (λ (z : List Path). slice_get z t.at ≡ Some t.path) all t.is)), kept)
    where
      there : (t : TellsPath new s c text) → Contains (get_or old.below s []) t.at ⊎ ((s ≡ system) × (length old.all.items ≡ t.at)) → (slice_get old.all.items t.at ≡ Some t.path) ⊎ ((t.at ≡ length old.all.items) × (p ≡ t.path))
          → TellsPath old s c text ⊎ ((s ≡ system) × (c ≡ p.component) × (text ≡ p.text.now))
      there t (inl r) (inl e) = inl (record { at = t.at; in_row = r; path = t.path; is = e; component_is = t.component_is; text_is = t.text_is })
      there t (inl r) (inr h) = let l = rows.within s t.at r in let e = h.0 in absurd (omega (arith, l, e))
      there t (inr h) (inl e) = let l = slice_get_within old.all.items t.at t.path e in let same = h.1 in absurd (omega (arith, l, same))
      there t (inr h) (inr e) = inr (h.0, sym t.component_is ∙ ap (λ (z : Path). z.component) (sym e.1), sym t.text_is ∙ ap (λ (z : Path). z.text.now) (sym e.1))

      kept : TellsPath old s c text ⊎ ((s ≡ system) × (c ≡ p.component) × (text ≡ p.text.now)) → TellsPath new s c text
      kept (inl t) = record {
        at = t.at;
        in_row = subst (λ z. Contains (get_or z s []) t.at) (sym below) (in_pushed old.below system (length old.all.items) s t.at within t.in_row);
        path = t.path;
        is = subst (λ (z : List Path). slice_get z t.at ≡ Some t.path) (sym all) (pushed_before old.all.items p t.at t.path t.is);
        component_is = t.component_is;
        text_is = t.text_is;
      }
      kept (inr h) = record {
        at = length old.all.items;
        in_row = subst (λ z. Contains (get_or z s []) (length old.all.items)) (sym below)
            (subst (λ z. Contains (get_or (set old.below system (get_or old.below system [] ++ length old.all.items ∷ [])) z []) (length old.all.items)) (sym h.0)
            (subst (λ z. Contains z (length old.all.items)) (sym (get_or-set_same old.below system (get_or old.below system [] ++ length old.all.items ∷ []) [] within)) (Contains-push (get_or old.below system []) (length old.all.items))));
        path = p;
        is = subst (λ (z : List Path). slice_get z (length old.all.items) ≡ Some p) (sym all) (pushed_last old.all.items p);
        component_is = sym h.1;
        text_is = sym h.2;
      }

-- ---- one component more

-- not yet come to: the System stands around that at which the walk is
abbrev pub IsAhead : SystemTree → Option ℕ → ℕ → Type 0
IsAhead t None s = ⊥
IsAhead t (Some u) s = IsWithin t s u

abbrev pub IsAround : SystemTree → ℕ → Option ℕ → Type 0
IsAround t system None = Unit {0}
IsAround t system (Some u) = IsWithin t u system × (u < length t.systems)

pub record IsPutting (t : SystemTree) (start now : Paths) (component : ℕ) (part : ComponentPart) (current : Option ℕ) : Type 0 where
  pub rows : AreRows (length t.systems) now
  pub around : IsAround t part.system current
  pub only : (s c : ℕ) (text : List ℕ) → TellsPath now s c text → TellsPath start s c text ⊎ ((c ≡ component) × IsPath t s c text)
  pub kept : (s c : ℕ) (text : List ℕ) → TellsPath start s c text → TellsPath now s c text
  pub each : (s : ℕ) (text : List ℕ) → IsPath t s component text → TellsPath now s component text ⊎ IsAhead t current s

pub putting_none : (t : SystemTree) (start : Paths) (component : ℕ) (part : ComponentPart) → IsNamedTree t → slice_get t.components component ≡ Some part → AreRows (length t.systems) start → IsPutting t start start component part (Some part.system)
putting_none t start component part named is rows = record {
  rows = rows;
  around = (Same part.system refl, All-contains (λ (c : ComponentPart). c.system < length t.systems) t.components part named.within (contains_at t.components component part is));
  only = λ s c text h. inl h;
  kept = λ s c text h. h;
  each = λ s text h. inr (subst (λ (z : ComponentPart). IsWithin t s z.system) (same_Some h.part part (sym h.is ∙ is)) h.within);
}

pub around_above : (t : SystemTree) (u above system : ℕ) (part : SystemPart) → slice_get t.systems u ≡ Some part → part.parent ≡ Some above → IsWithin t u system → IsWithin t above system
around_above t u above system part is parent (Same _ e) = Deeper system above part (ap (slice_get t.systems) e ∙ is) parent (Same above refl)
around_above t u above system part is parent (Deeper _ outer p i n rest) = Deeper system outer p i n (around_above t u above outer part is parent rest)

pub putting_more : (t : SystemTree) (start old new : Paths) (component : ℕ) (part : ComponentPart) (u : ℕ) (at : SystemPart) (text : List ℕ) → IsNamedTree t → slice_get t.components component ≡ Some part → slice_get t.systems u ≡ Some at
    → IsPathText t u part.name text → AreRows (length old.below) new → ((s c : ℕ) (path : List ℕ) → TellsPath new s c path ↔ (TellsPath old s c path ⊎ ((s ≡ u) × (c ≡ component) × (path ≡ text))))
    → IsPutting t start old component part (Some u) → IsPutting t start new component part at.parent
putting_more t start old new component part u at text named is here path rows told was = record {
  rows = subst (λ n. AreRows n new) was.rows.rows_len rows;
  around = around at.parent refl;
  only = λ s c x h. only s c x ((told s c x).0 h);
  kept = λ s c x h. (told s c x).1 (inl (was.kept s c x h));
  each = λ s x h. each s x h (was.each s x h);
}
  where
    around : (o : Option ℕ) → at.parent ≡ o → IsAround t part.system o
    around None e = tt
    around (Some above) e =
        let less = named.outer u above at here e in
        let within = was.around.1 in
        (around_above t u above part.system at here e was.around.0, omega (arith, less, within))

    own : (s c : ℕ) (x : List ℕ) → (s ≡ u) × (c ≡ component) × (x ≡ text) → IsPath t s c x
    own s c x h = record {
      part = part;
      is = ap (slice_get t.components) h.1 ∙ is;
      within = subst (λ z. IsWithin t z part.system) (sym h.0) was.around.0;
      path = subst (λ z. IsPathText t z part.name x) (sym h.0) (subst (IsPathText t u part.name) (sym h.2) path);
    }

    only : (s c : ℕ) (x : List ℕ) → TellsPath old s c x ⊎ ((s ≡ u) × (c ≡ component) × (x ≡ text)) → TellsPath start s c x ⊎ ((c ≡ component) × IsPath t s c x)
    only s c x (inl h) = was.only s c x h
    only s c x (inr h) = inr (h.1, own s c x h)

    each : (s : ℕ) (x : List ℕ) → IsPath t s component x → TellsPath old s component x ⊎ IsWithin t s u → TellsPath new s component x ⊎ IsAhead t at.parent s
    each s x h (inl told_already) = inl ((told s component x).1 (inl told_already))
    each s x h (inr (Same _ e)) =
        let named_same : part.name ≡ h.part.name = ap (λ (z : ComponentPart). z.name) (same_Some part h.part (sym is ∙ h.is)) in
        let mine : IsPathText t u part.name x = subst (λ z. IsPathText t u z x) (sym named_same) (subst (λ z. IsPathText t z h.part.name x) (sym e) h.path) in
        inl ((told s component x).1 (inr (sym e, refl, path_once t u part.name x text mine path)))
    each s x h (inr (Deeper _ above p i n rest)) =
        let same : at.parent ≡ Some above = ap (λ (z : SystemPart). z.parent) (same_Some at p (sym here ∙ i)) ∙ n in
        inr (subst (λ o. IsAhead t o s) (sym same) rest)

pub putting_all : (t : SystemTree) (start now : Paths) (component : ℕ) (part : ComponentPart) → IsPutting t start now component part None → (s c : ℕ) (text : List ℕ) → TellsPath now s c text ↔ (TellsPath start s c text ⊎ ((c ≡ component) × IsPath t s c text))
putting_all t start now component part w s c text = (w.only s c text, by)
  where
    told : TellsPath now s component text ⊎ ⊥ → TellsPath now s component text
    told (inl h) = h
    told (inr h) = absurd h

    by : TellsPath start s c text ⊎ ((c ≡ component) × IsPath t s c text) → TellsPath now s c text
    by (inl h) = w.kept s c text h
    by (inr h) = subst (λ z. TellsPath now s z text) (sym h.0) (told (w.each s text (subst (λ z. IsPath t s z text) h.0 h.1)))

-- ---- one component after another

pub paths_more : (t : SystemTree) (n : ℕ) (old new : Paths) → AreRows (length t.systems) new → ((s c : ℕ) (text : List ℕ) → TellsPath new s c text ↔ (TellsPath old s c text ⊎ ((c ≡ n) × IsPath t s c text)))
    → ArePathsBelow t n old → ArePathsBelow t (n + 1) new
paths_more t n old new rows told was = record {
  rows = rows;
  each = λ s c text. (λ h. there s c text ((told s c text).0 h), λ h. (told s c text).1 (back s c text h (cases_lt c n)));
}
  where
    there : (s c : ℕ) (text : List ℕ) → TellsPath old s c text ⊎ ((c ≡ n) × IsPath t s c text) → (c < n + 1) × IsPath t s c text
    there s c text (inl h) = let w = (was.each s c text).0 h in (let l = w.0 in omega (arith, l), w.1)
    there s c text (inr h) = (let e = h.0 in omega (arith, e), h.1)

    back : (s c : ℕ) (text : List ℕ) → (c < n + 1) × IsPath t s c text → (c < n) ⊎ (n ≤ c) → TellsPath old s c text ⊎ ((c ≡ n) × IsPath t s c text)
    back s c text h (inl less) = inl ((was.each s c text).1 (less, h.1))
    back s c text h (inr more) = let l = h.0 in inr (omega (arith, l, more), h.1)

empty_row_at : (n s : ℕ) (at : ℕ) → Contains (get_or (replicate n (let x : List ℕ = [] in x)) s []) at → ⊥
empty_row_at zero s at c = absurd (omega (arith, c.1))
empty_row_at (suc n) zero at c = absurd (omega (arith, c.1))
empty_row_at (suc n) (suc s) at c = empty_row_at n s at c

empty_row : (n s : ℕ) (rows : List (List ℕ)) (at : ℕ) → rows ≡ replicate n [] → Contains (get_or rows s []) at → ⊥
empty_row n s rows at e c = empty_row_at n s at (subst (λ z. Contains (get_or z s []) at) e c)

length_rows : (n : ℕ) → length (replicate n (let x : List ℕ = [] in x)) ≡ n
length_rows zero = refl
length_rows (suc n) = ap suc (length_rows n)

pub paths_none : (t : SystemTree) (paths : Paths) → paths.all.items ≡ [] → paths.below ≡ replicate (length t.systems) [] → ArePathsBelow t 0 paths
paths_none t paths all below = record {
  rows = record { rows_len = ap length below ∙ length_rows (length t.systems); within = λ s at c. absurd (empty_row (length t.systems) s paths.below at below c) };
  each = λ s c text. (λ h. absurd (empty_row (length t.systems) s paths.below h.at below h.in_row), λ h. let l = h.0 in absurd (omega (arith, l)));
}

pub paths_all : (t : SystemTree) (n : ℕ) (paths : Paths) → length t.components ≤ n → ArePathsBelow t n paths → ArePaths t paths
paths_all t n paths past below = record {
  rows = below.rows;
  each = λ s c text. (λ h. ((below.each s c text).0 h).1, λ h. (below.each s c text).1 (let w = slice_get_within t.components c h.part h.is in omega (arith, w, past), h));
}

-- what is asked of a System around a component
pub begins_around : (t : SystemTree) (component : ℕ) (part : ComponentPart) (u : ℕ) → IsNamedTree t → slice_get t.components component ≡ Some part → IsWithin t u part.system → BeginsWithScope t u part.name
begins_around t component part u named is within = begins_within t u part.system part.name within (All-contains (IsInScope t) t.components part named.scopes (contains_at t.components component part is))

-- the walk up ends
abbrev pub ahead : Option ℕ → ℕ
ahead None = 0
ahead (Some u) = u + 1

pub ahead_smaller : (t : SystemTree) (u : ℕ) (part : SystemPart) (o : Option ℕ) → IsNamedTree t → slice_get t.systems u ≡ Some part → o ≡ part.parent → ahead o < u + 1
ahead_smaller t u part None named is e = omega arith
ahead_smaller t u part (Some above) named is e = let l = named.outer u above part is (sym e) in omega (arith, l)

-- ---- full names

pub name_at : (t : SystemTree) (names : List (List ℕ)) (component : ℕ) (part : ComponentPart) (name : List ℕ) → AreFullNames t names → slice_get t.components component ≡ Some part → slice_get names component ≡ Some name → name ≡ part.name
name_at t names component part name are is at =
    let mapped : slice_get names component ≡ option_map name_of (slice_get t.components component) = ap (λ (z : List (List ℕ)). slice_get z component) are ∙ slice_get-map name_of t.components component in
    same_Some name part.name (sym at ∙ mapped ∙ ap (option_map name_of) is)
  where
    name_of : ComponentPart → List ℕ
    name_of c = c.name

pub names_long : (t : SystemTree) (names : List (List ℕ)) → AreFullNames t names → length names ≡ length t.components
names_long t names are = ap length are ∙ length-map t.components (λ (c : ComponentPart). c.name)

pub names_more : (xs ys : List ComponentPart) (i : ℕ) (part : ComponentPart) (old new : List (List ℕ)) (name : List ℕ) → ys ≡ xs → i < length ys → part ≡ get_or ys i part → name ≡ part.name
    → old ≡ map (λ (c : ComponentPart). c.name) (take i xs) → new ≡ old ++ name ∷ [] → new ≡ map (λ (c : ComponentPart). c.name) (take (i + 1) xs)
names_more xs ys i part old new name same within is named was grown =
    let inside : i < length xs = omega (arith, within, ap length same) in
    let here : get_or xs i part ≡ part = ap (λ (z : List ComponentPart). get_or z i part) (sym same) ∙ sym is in
    let step : take (i + 1) xs ≡ take i xs ++ part ∷ [] = take_more xs i part inside ∙ ap (λ z. take i xs ++ z ∷ []) here in
    grown ∙ ap (λ z. z ++ name ∷ []) was ∙ ap (λ z. map (λ (c : ComponentPart). c.name) (take i xs) ++ z ∷ []) named
    ∙ sym (map-append (λ (c : ComponentPart). c.name) (take i xs) (part ∷ [])) ∙ ap (map (λ (c : ComponentPart). c.name)) (sym step)

pub names_all : (xs : List ComponentPart) (i : ℕ) (names : List (List ℕ)) → length xs ≤ i → names ≡ map (λ (c : ComponentPart). c.name) (take i xs) → names ≡ map (λ (c : ComponentPart). c.name) xs
names_all xs i names past was = was ∙ ap (map (λ (c : ComponentPart). c.name)) (take_all i xs past)
