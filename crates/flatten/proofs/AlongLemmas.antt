-- What the changes of a path's connections are: each stands on the path, and a path without any is one of the plain tree.
use Rattle.std.proofs.Common.{◌≡◌, ◌⊎◌, ◌<◌, zero, suc, ℕ, Bool, true, false, cond, not, is_some, List, [], ◌∷◌, Option, Some, None, get_or, refl, sym, ◌∙◌, ap, subst, inl, inr, arith, All, Contains, filter}
use Rattle.std.specs.List.{cons_option}
use Rattle.std.proofs.lemmas.Bool.{false≢true}
use Rattle.std.proofs.lemmas.List.Elements.{All-nil, All-cons, Contains-append_right, Contains-append_cases}
use Rattle.value_types.specs.declared.shape.Causality.TheVariants.{Input, Output}
use Rattle.value_types.specs.declared.shape.Variable.{Variable}
use Rattle.value_types.specs.declared.shape.Shape.{Shape}
use Rattle.parameter_values.specs.declared.change.Change.{Change}
use Rattle.ssd_tree.specs.declared.tree.Connection.{Connection}
use Rattle.ssd_tree.specs.declared.tree.SystemTree.{SystemTree}
use Rattle.flatten.specs.Points.{Point, OfComponent, Itself, IsOfSystem, IsVariable}
use Rattle.flatten.specs.Paths.{JoinsBy, LeadsBy, LeadsUpTo, LeadsOnTo, Feeds, IsBefore, changes_along, plain}
use Rattle.flatten.proofs.LastLemmas.{reaches_by}
use Rattle.flatten.proofs.PathLemmas.{leads_by_last}

-- ---- what a filter keeps

module _ {A : Type 0} where
  held_one : (y x : A) → Contains (y ∷ []) x → y ≡ x
  held_one y x h = at h.0 h.1 h.2
    where
      at : (k : ℕ) → k < 1 → get_or (y ∷ []) k x ≡ x → y ≡ x
      at zero l e = e
      at (suc k) l e = absurd (omega (arith, l))

  held_none : (x : A) → Contains {X = A} [] x → ⊥
  held_none x h = absurd (omega (arith, h.1))

  pub kept : (f : A → Bool) (xs : List A) (q : A) → Contains xs q → f q ≡ true → Contains (filter f xs) q
  kept f [] q h passes = absurd (held_none q h)
  kept f (x ∷ xs) q h passes = by (Contains-append_cases (x ∷ []) xs q h) (f x) refl (λ c. kept f xs q c passes)
    where
      by : Contains (x ∷ []) q ⊎ Contains xs q → (b : Bool) → f x ≡ b → (Contains xs q → Contains (filter f xs) q) → Contains (cond (f x) (x ∷ filter f xs) (filter f xs)) q
      by (inl c) true e more = subst (λ b. Contains (cond b (x ∷ filter f xs) (filter f xs)) q) (sym e) (subst (Contains (x ∷ filter f xs)) (held_one x q c) (0, omega arith, refl))
      by (inl c) false e more = absurd (false≢true (sym e ∙ ap f (held_one x q c) ∙ passes))
      by (inr c) true e more = subst (λ b. Contains (cond b (x ∷ filter f xs) (filter f xs)) q) (sym e) (Contains-append_right (x ∷ []) (filter f xs) q (more c))
      by (inr c) false e more = subst (λ b. Contains (cond b (x ∷ filter f xs) (filter f xs)) q) (sym e) (more c)

  pub kept_back : (f : A → Bool) (xs : List A) (q : A) → Contains (filter f xs) q → Contains xs q × (f q ≡ true)
  kept_back f [] q h = absurd (held_none q h)
  kept_back f (x ∷ xs) q h = by (λ c. kept_back f xs q c) (f x) refl h
    where
      onto : (Contains (filter f xs) q → Contains xs q × (f q ≡ true)) → f x ≡ true → Contains (x ∷ []) q ⊎ Contains (filter f xs) q → Contains (x ∷ xs) q × (f q ≡ true)
      onto rest e (inl c) = let same : x ≡ q = held_one x q c in (subst (Contains (x ∷ xs)) same (0, omega arith, refl), ap f (sym same) ∙ e)
      onto rest e (inr c) = let more = rest c in (Contains-append_right (x ∷ []) xs q more.0, more.1)

      by : (Contains (filter f xs) q → Contains xs q × (f q ≡ true)) → (b : Bool) → f x ≡ b → Contains (cond (f x) (x ∷ filter f xs) (filter f xs)) q → Contains (x ∷ xs) q × (f q ≡ true)
      by rest true e c = onto rest e (Contains-append_cases (x ∷ []) (filter f xs) q (subst (λ b. Contains (cond b (x ∷ filter f xs) (filter f xs)) q) e c))
      by rest false e c = let more = rest (subst (λ b. Contains (cond b (x ∷ filter f xs) (filter f xs)) q) e c) in (Contains-append_right (x ∷ []) xs q more.0, more.1)

-- ---- paths without changes

-- where the rest with this change is nothing, there is no change, and the rest is nothing
none_first : (o : Option Change) (rest : List Change) → cons_option o rest ≡ [] → (o ≡ None) × (rest ≡ [])
none_first None rest e = (refl, e)
none_first (Some change) rest e = absurd (let f : change ∷ rest ≡ [] = e in cc)

same_system : (t : SystemTree) (s : Point) → IsOfSystem t s → IsOfSystem (plain t) s
same_system t (OfComponent component reference) h = h
same_system t (Itself c) h = h

plain_joins : (t : SystemTree) (shapes : List Shape) (k : Connection) (p q : Point) → k.change ≡ None → JoinsBy t shapes k p q → JoinsBy (plain t) shapes k p q
plain_joins t shapes k p q none joins = record {
  is = kept (λ (c : Connection). not (is_some c.change)) t.connections k joins.is (ap (λ o. not (is_some o)) none);
  start = joins.start;
  end = joins.end;
}

pub plain_leads : (t : SystemTree) (shapes : List Shape) (p : Point) (ks : List Connection) (q : Point) → LeadsBy t shapes p ks q → changes_along ks ≡ [] → LeadsBy (plain t) shapes p ks q
plain_leads t shapes p [] q h none = h
plain_leads t shapes p (k ∷ []) q h none = plain_joins t shapes k p q (none_first k.change [] none).0 h
plain_leads t shapes p (k ∷ (l ∷ ks)) q h none =
    let both = none_first k.change (changes_along (l ∷ ks)) none in
    (h.0, plain_joins t shapes k p h.0 both.0 h.1, same_system t h.0 h.2, plain_leads t shapes h.0 (l ∷ ks) q h.3 both.1)

pub plain_feeds : (t : SystemTree) (shapes : List Shape) (p : Point) (changes : List Change) (q : Point) → Feeds t shapes p changes q → changes ≡ [] → Feeds (plain t) shapes p changes q
plain_feeds t shapes p changes q feeds none = record {
  output = feeds.output;
  input = feeds.input;
  from = feeds.from;
  to = feeds.to;
  path = feeds.path;
  leads = plain_leads t shapes p feeds.path q feeds.leads (sym feeds.makes ∙ none);
  makes = feeds.makes;
}

pub plain_output : (t : SystemTree) (shapes : List Shape) (p : Point) (changes : List Change) (q : Point) (feeds : Feeds t shapes p changes q) (none : changes ≡ []) → (plain_feeds t shapes p changes q feeds none).output ≡ feeds.output
unfolding plain_feeds
plain_output t shapes p changes q feeds none = refl

pub plain_input : (t : SystemTree) (shapes : List Shape) (p : Point) (changes : List Change) (q : Point) (feeds : Feeds t shapes p changes q) (none : changes ≡ []) → (plain_feeds t shapes p changes q feeds none).input ≡ feeds.input
unfolding plain_feeds
plain_input t shapes p changes q feeds none = refl

-- ---- the changes of a path

cons_all : (P : Change → Type 0) (o : Option Change) (rest : List Change) → ((change : Change) → o ≡ Some change → P change) → All P rest → All P (cons_option o rest)
cons_all P None rest here more = more
cons_all P (Some change) rest here more = All-cons P change rest (here change refl) more

module _ (t : SystemTree) (shapes : List Shape) (P : Change → Type 0) (p : Point) (output input : Variable) (q : Point)
    (from : IsVariable shapes Output p output) (to : IsVariable shapes Input q input)
    (each : (k : Connection) (change : Change) → k.change ≡ Some change → Contains t.connections k → IsBefore t shapes k input → P change) where
  before : (k : Connection) (s e : Point) → LeadsUpTo t shapes p s → JoinsBy t shapes k s e → LeadsOnTo t shapes e q → IsBefore t shapes k input
  before k s e up_to is on = record { output = output; p = p; s = s; e = e; q = q; from = from; up_to = up_to; is = is; on = on; to = to }

  -- all changes from here on
  all_from : (s : Point) → LeadsUpTo t shapes p s → (ks : List Connection) → LeadsBy t shapes s ks q → All P (changes_along ks)
  all_from s up_to [] h = absurd h
  all_from s up_to (k ∷ []) h = cons_all P k.change [] (λ change is. each k change is h.is (before k s q up_to h (inl refl))) (All-nil P)
  all_from s up_to (k ∷ (l ∷ ks)) h =
      cons_all P k.change (changes_along (l ∷ ks))
      (λ change is. each k change is h.1.is (before k s h.0 up_to h.1 (inr (h.2, reaches_by t shapes h.0 (l ∷ ks) q h.3))))
      (all_from h.0 (inr (h.2, leads_by_last t shapes p s h.0 up_to (k, h.1))) (l ∷ ks) h.3)

-- what holds of the change of each connection before this input holds of those of its path
pub along : (t : SystemTree) (shapes : List Shape) (P : Change → Type 0) (p : Point) (changes : List Change) (q : Point) (feeds : Feeds t shapes p changes q)
    → ((k : Connection) (change : Change) → k.change ≡ Some change → Contains t.connections k → IsBefore t shapes k feeds.input → P change) → All P changes
along t shapes P p changes q feeds each =
    subst (All P) (sym feeds.makes) (all_from t shapes P p feeds.output feeds.input q feeds.from feeds.to each p (inl refl) feeds.path feeds.leads)
