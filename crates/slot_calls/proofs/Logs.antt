-- Logs of several instances.
use Rattle.std.proofs.Common.{◌≡◌, ◌≢◌, ℕ, ◌<◌, ◌==◌, ◌⊎◌, inl, inr, Bool, true, false, List, [], ◌∷◌, ◌++◌, refl, sym, ap, ◌∙◌, subst, arith, length, get_or, set, length-set, get_or-set_same, get_or-set_other}
use Rattle.std.specs.Prelude.{◌||◌, if◌then◌else◌}
use Rattle.std.proofs.lemmas.List.{map-append, get_or_default}
use Rattle.std.proofs.lemmas.List.Folds.{list_any-append}
use Rattle.fmu_peer.specs.declared.peer.Exchange.{Exchange}
use Rattle.fmu_peer.specs.Close.{any_fatal, is_fatal_answer}
use Rattle.fmu_peer.specs.CloseAll.{Instance}
use Rattle.fmu_peer.specs.View.{View, Fixed}
use Rattle.slot_calls.specs.Log.{Talks, Has, Sent, Told, part, component_calls, component_call}
use Rattle.slot_calls.specs.SavedStates.{saved_after}
use Rattle.slot_calls.proofs.States.{saved_on}

-- ---- one instance

pub talks_fixed : (a : View) (es : List Exchange) (b : View) → Talks a es b → b.fixed ≡ a.fixed
talks_fixed a [] b t = ap (λ (v : View). v.fixed) t
talks_fixed a (e ∷ es) b (mid, may, asked, rest) = talks_fixed mid es b rest ∙ asked.fixed

pub talks_on : (a : View) (es : List Exchange) (b : View) (fs : List Exchange) (c : View) → Talks a es b → Talks b fs c → Talks a (es ++ fs) c
talks_on a [] b fs c t u = subst (λ (v : View). Talks v fs c) t u
talks_on a (e ∷ es) b fs c (mid, may, asked, rest) u = (mid, may, asked, talks_on mid es b fs c rest u)

or_assoc : (a b c : Bool) → ((a || b) || c) ≡ (a || (b || c))
or_assoc true b c = refl
or_assoc false b c = refl

or_none : (a : Bool) → a ≡ (a || false)
or_none true = refl
or_none false = refl

pub has_none : (a : Instance) → Has a [] a
has_none a = record { talks = refl; source = refl; saved = refl; fatal = or_none a.is_fatal }

pub has_on : (a : Instance) (es : List Exchange) (b : Instance) (fs : List Exchange) (c : Instance) → Has a es b → Has b fs c → Has a (es ++ fs) c
has_on a es b fs c h k = record {
  talks = talks_on a.view es b.view fs c.view h.talks k.talks;
  source = k.source ∙ h.source;
  saved = k.saved ∙ ap (λ (f : Fixed). saved_after f.shape b.has_saved fs) (talks_fixed a.view es b.view h.talks)
      ∙ ap (λ (x : Bool). saved_after a.view.fixed.shape x fs) h.saved ∙ sym (saved_on a.view.fixed.shape a.has_saved es fs);
  fatal = k.fatal ∙ ap (λ (x : Bool). x || any_fatal b.view.fixed.shape fs) h.fatal
      ∙ ap (λ (f : Fixed). (a.is_fatal || any_fatal a.view.fixed.shape es) || any_fatal f.shape fs) (talks_fixed a.view es b.view h.talks)
      ∙ or_assoc a.is_fatal (any_fatal a.view.fixed.shape es) (any_fatal a.view.fixed.shape fs)
      ∙ ap (λ (x : Bool). a.is_fatal || x) (sym (list_any-append (λ (e : Exchange). is_fatal_answer a.view.fixed.shape e.call e.result) es fs));
}

-- ---- their parts of a log

pub if_on : {A : Type 0} (b : Bool) (x : A) (xs ys : List A) → (if b then x ∷ (xs ++ ys) else xs ++ ys) ≡ (if b then x ∷ xs else xs) ++ ys
if_on true x xs ys = refl
if_on false x xs ys = refl

pub part_append : (i : ℕ) (a b : List Sent) → part i (a ++ b) ≡ part i a ++ part i b
part_append i [] b = refl
part_append i (s ∷ a) b =
    ap (λ (es : List Exchange). if s.component == i then s.exchange ∷ es else es) (part_append i a b)
    ∙ if_on (s.component == i) s.exchange (part i a) (part i b)

pub part_own : (i : ℕ) (e : Exchange) → part i (record { component = i; exchange = e } ∷ []) ≡ e ∷ []
part_own i e = ap (λ (b : Bool). if b then e ∷ [] else []) (same i) where
  same : (i : ℕ) → (i == i) ≡ true
  same i = grind (arith)

pub part_other : (i k : ℕ) (e : Exchange) → k ≢ i → part i (record { component = k; exchange = e } ∷ []) ≡ []
part_other i k e h = ap (λ (b : Bool). if b then e ∷ [] else []) (other i k h) where
  other : (i k : ℕ) → k ≢ i → (k == i) ≡ false
  other i k h = grind (arith)

pub told_none : (xs : List Instance) → Told [] xs xs
told_none xs = record { len = refl; each = λ i d h. has_none (get_or xs i d) }

module _ (olds mids news : List Instance) (log more : List Sent) (h : Told log olds mids) (k : Told more mids news) where
  pub told_on : Told (log ++ more) olds news
  told_on = record {
    len = k.len ∙ h.len;
    each = λ i d w. subst (λ (es : List Exchange). Has (get_or olds i d) es (get_or news i d)) (sym (part_append i log more))
        (has_on _ (part i log) (get_or mids i d) (part i more) _ (h.each i d w) (k.each i d (omega (arith, h.len, w))));
  }

split_at : (i k : ℕ) → (i ≡ k) ⊎ (k ≢ i)
split_at i k = grind (arith)

-- one exchange with one of them
module _ (xs : List Instance) (k : ℕ) (x y : Instance) (e : Exchange) (within : k < length xs) (is : x ≡ get_or xs k x) (h : Has x (e ∷ []) y) where
  one_each : (i : ℕ) (d : Instance) → i < length xs → (i ≡ k) ⊎ (k ≢ i) → Has (get_or xs i d) (part i (record { component = k; exchange = e } ∷ [])) (get_or (set xs k y) i d)
  one_each i d w (inl same) =
      let old : x ≡ get_or xs i d = is ∙ get_or_default xs k x d within ∙ ap (λ (n : ℕ). get_or xs n d) (sym same) in
      let new : y ≡ get_or (set xs k y) i d = sym (get_or-set_same xs k y d within) ∙ ap (λ (n : ℕ). get_or (set xs k y) n d) (sym same) in
      let es : e ∷ [] ≡ part i (record { component = k; exchange = e } ∷ []) = sym (part_own k e) ∙ ap (λ (n : ℕ). part n (record { component = k; exchange = e } ∷ [])) (sym same) in
      subst (λ (a : Instance). Has a (part i (record { component = k; exchange = e } ∷ [])) (get_or (set xs k y) i d)) old
      (subst (λ (b : Instance). Has x (part i (record { component = k; exchange = e } ∷ [])) b) new
      (subst (λ (l : List Exchange). Has x l y) es h))
  one_each i d w (inr other) =
      let new : get_or xs i d ≡ get_or (set xs k y) i d = sym (get_or-set_other xs k i y d (λ q. other (sym q))) in
      let es : [] ≡ part i (record { component = k; exchange = e } ∷ []) = sym (part_other i k e other) in
      subst (λ (b : Instance). Has (get_or xs i d) (part i (record { component = k; exchange = e } ∷ [])) b) new
      (subst (λ (l : List Exchange). Has (get_or xs i d) l (get_or xs i d)) es (has_none (get_or xs i d)))

  pub told_one : Told (record { component = k; exchange = e } ∷ []) xs (set xs k y)
  told_one = record { len = length-set xs k y; each = λ i d w. one_each i d w (split_at i k) }

pub askings_append : (a b : List Sent) → component_calls (a ++ b) ≡ component_calls a ++ component_calls b
askings_append a b = map-append component_call a b
