-- What marking elements does, one after another, and that nothing is left where the work is done.
use Rattle.std.proofs.Common.{◌≡◌, ◌⊎◌, ◌↔◌, ℕ, zero, suc, ◌+◌, ◌<◌, ◌≤◌, Bool, IsTrue, true, false, not, cond, nat_lt, ◌==◌, List, [], ◌∷◌, ◌++◌, length, take, get_or, set, replicate, Option, Some, None, refl, sym, ap, ◌∙◌, subst, inl, inr, arith}
use Rattle.std.specs.List.{Contains, count_by}
use Rattle.std.proofs.lemmas.List.{get_or-set_same, get_or-set_other, length-set, take_more, append-nil, length-append, length-replicate}
use Rattle.std.proofs.lemmas.List.Elements.{Contains-append_left, Contains-append_right, Contains-append_cases, Contains-push, Contains-push_cases}
use Rattle.std.proofs.lemmas.List.Sums.{sum_by-set}
use Rattle.std.specs.BTreeMap.{BTreeMap, UpdatesBy}
use Rattle.std.specs.Option.{option_map_or}
use Rattle.std.specs.Ordering.{is_eq, nat_cmp}
use Rattle.std.specs.declared.alloc.Global.{Global}
use Rattle.std.specs.declared.cmp.Ordering.TheVariants.{Less, Equal, Greater}
use Rattle.std.specs.declared.vec.Vec.{Vec}
use Rattle.std.proofs.lemmas.Bool.{cases_eq, eqb-true}
use Rattle.doc_grammar.specs.Nodes.{Node}
use Rattle.fmu_description.specs.Elements.{clock_key}
use Rattle.fmu_description.specs.Clocks.{IsIgnored}
use Rattle.fmu_description.specs.Clocks.IsIgnored.{OfItself, ByClock}
use Rattle.fmu_description.specs.Marks.{IsSource, Follows, Marks, ListsFollowers, is_marked, listed_at}
use Rattle.fmu_description.proofs.TableLemmas.{is_variable_within}

-- ---- steps

pub contains_none : {A : Type 0} (x : A) → Contains {X = A} [] x → ⊥
contains_none x h = absurd (omega (arith, h.1))

pub contains_one : (y x : ℕ) → Contains (y ∷ []) x → y ≡ x
contains_one y x h = at h.0 h.1 h.2
  where
    at : (k : ℕ) → k < 1 → get_or (y ∷ []) k x ≡ x → y ≡ x
    at zero l e = e
    at (suc k) l e = absurd (omega (arith, l))

-- nothing is done
pub marks_none : (t : List Node) (old : List Bool) (left : List ℕ) → Marks t [] old old left left
marks_none t old left = record {
  same_length = refl;
  marked = λ k c. absurd (contains_none k c);
  kept = λ k m. m;
  no_other = λ k m. inl m;
  told = λ k r m e. inl m;
  left_kept = λ r c. c;
  left_only = λ r c. inl c;
  less = omega arith;
}

-- the element is marked already, or isn't there
pub marks_skip : (t : List Node) (node : ℕ) (old : List Bool) (left : List ℕ) → (node < length old → IsTrue (is_marked old node)) → Marks t (node ∷ []) old old left left
marks_skip t node old left is = record {
  same_length = refl;
  marked = λ k c within. subst (λ z. IsTrue (is_marked old z)) (contains_one node k c) (is (subst (λ z. z < length old) (sym (contains_one node k c)) within));
  kept = λ k m. m;
  no_other = λ k m. inl m;
  told = λ k r m e. inl m;
  left_kept = λ r c. c;
  left_only = λ r c. inl c;
  less = omega arith;
}

set_marked : (old : List Bool) (node : ℕ) → node < length old → IsTrue (is_marked (set old node true) node)
set_marked old node within = get_or-set_same old node true false within

set_cases : (old : List Bool) (node k : ℕ) → IsTrue (is_marked (set old node true) k) → IsTrue (is_marked old k) ⊎ (node ≡ k)
set_cases old node k m = at (cases_eq k node)
  where
    at : (k ≡ node) ⊎ (k ≡ node → ⊥) → IsTrue (is_marked old k) ⊎ (node ≡ k)
    at (inl e) = inr (sym e)
    at (inr ne) = inl (sym (get_or-set_other old node k true false ne) ∙ m)

set_kept : (old : List Bool) (node k : ℕ) → node < length old → IsTrue (is_marked old k) → IsTrue (is_marked (set old node true) k)
set_kept old node k within m = at (cases_eq k node)
  where
    at : (k ≡ node) ⊎ (k ≡ node → ⊥) → IsTrue (is_marked (set old node true) k)
    at (inl e) = subst (λ z. IsTrue (is_marked (set old node true) z)) (sym e) (set_marked old node within)
    at (inr ne) = get_or-set_other old node k true false ne ∙ m

abbrev weight : Bool → ℕ
weight b = cond (not b) 1 0

-- one mark more is one element fewer that isn't marked
fewer : (old : List Bool) (node : ℕ) → node < length old → get_or old node false ≡ false → count_by not (set old node true) + 1 ≡ count_by not old
fewer old node within free =
    let s = sum_by-set weight old node true false within in
    let f : weight (get_or old node false) ≡ weight false = ap weight free in
    omega (arith, s, f)

-- the element is marked newly, and the references are those that it has as a Clock
marks_newly : (t : List Node) (node : ℕ) (old : List Bool) (left references : List ℕ) → node < length old → get_or old node false ≡ false → length references ≤ 1
    → ((r : ℕ) → clock_key t node ≡ Some r → Contains references r) → ((r : ℕ) → Contains references r → clock_key t node ≡ Some r)
    → Marks t (node ∷ []) old (set old node true) left (left ++ references)
marks_newly t node old left references within free few all only = record {
  same_length = length-set old node true;
  marked = λ k c b. subst (λ z. IsTrue (is_marked (set old node true) z)) (contains_one node k c) (set_marked old node within);
  kept = λ k m. set_kept old node k within m;
  no_other = λ k m. at_other k (set_cases old node k m);
  told = λ k r m e. at_told k r e (set_cases old node k m);
  left_kept = λ r c. Contains-append_left left references r c;
  left_only = λ r c. at_left r (Contains-append_cases left references r c);
  less =
      let f = fewer old node within free in
      let l = length-append left references in
      omega (arith, f, l, few);
}
  where
    at_other : (k : ℕ) → IsTrue (is_marked old k) ⊎ (node ≡ k) → IsTrue (is_marked old k) ⊎ Contains (node ∷ []) k
    at_other k (inl m) = inl m
    at_other k (inr e) = inr (0, omega arith, e)

    at_told : (k r : ℕ) → clock_key t k ≡ Some r → IsTrue (is_marked old k) ⊎ (node ≡ k) → IsTrue (is_marked old k) ⊎ Contains (left ++ references) r
    at_told k r e (inl m) = inl m
    at_told k r e (inr same) = inr (Contains-append_right left references r (all r (ap (clock_key t) same ∙ e)))

    at_left : (r : ℕ) → Contains left r ⊎ Contains references r → Contains left r ⊎ ((k : ℕ) × Contains (node ∷ []) k × (clock_key t k ≡ Some r))
    at_left r (inl c) = inl c
    at_left r (inr c) = inr (node, (0, omega arith, refl), only r c)

-- it is a Clock with a reference
pub marks_clock : (t : List Node) (node : ℕ) (old new : List Bool) (left more : List ℕ) (reference : ℕ) → node < length old → get_or old node false ≡ false → new ≡ set old node true
    → Some reference ≡ clock_key t node → more ≡ left ++ reference ∷ [] → Marks t (node ∷ []) old new left more
marks_clock t node old new left more reference within free is key pushed =
    subst (λ z. Marks t (node ∷ []) old z left more) (sym is)
    (subst (λ z. Marks t (node ∷ []) old (set old node true) left z) (sym pushed)
    (marks_newly t node old left (reference ∷ []) within free (omega arith)
    (λ r e. let same : reference ≡ r = cc in (0, omega arith, same))
    (λ r c. sym key ∙ ap Some (contains_one reference r c))))

-- it is none
pub marks_other : (t : List Node) (node : ℕ) (old new : List Bool) (left : List ℕ) → node < length old → get_or old node false ≡ false → new ≡ set old node true
    → None ≡ clock_key t node → Marks t (node ∷ []) old new left left
marks_other t node old new left within free is key =
    subst (λ z. Marks t (node ∷ []) old z left left) (sym is)
    (subst (λ z. Marks t (node ∷ []) old (set old node true) left z) (append-nil left)
    (marks_newly t node old left [] within free (omega arith)
    (λ r e. cc)
    (λ r c. absurd (contains_none r c))))

-- one after another
pub marks_more : (t : List Node) (xs ys : List ℕ) (a b c : List Bool) (u v w : List ℕ) → Marks t xs a b u v → Marks t ys b c v w → Marks t (xs ++ ys) a c u w
marks_more t xs ys a b c u v w p q = record {
  same_length = q.same_length ∙ p.same_length;
  marked = λ k h within. at_marked k within (Contains-append_cases xs ys k h);
  kept = λ k m. q.kept k (p.kept k m);
  no_other = λ k m. at_other k (q.no_other k m);
  told = λ k r m e. at_told k r e (q.told k r m e);
  left_kept = λ r h. q.left_kept r (p.left_kept r h);
  left_only = λ r h. at_left r (q.left_only r h);
  less = omega (arith, p.less, q.less);
}
  where
    at_marked : (k : ℕ) → k < length a → Contains xs k ⊎ Contains ys k → IsTrue (is_marked c k)
    at_marked k within (inl h) = q.kept k (p.marked k h within)
    at_marked k within (inr h) = q.marked k h (subst (λ n. k < n) (sym p.same_length) within)

    at_first : (k : ℕ) → IsTrue (is_marked a k) ⊎ Contains xs k → IsTrue (is_marked a k) ⊎ Contains (xs ++ ys) k
    at_first k (inl m) = inl m
    at_first k (inr h) = inr (Contains-append_left xs ys k h)

    at_other : (k : ℕ) → IsTrue (is_marked b k) ⊎ Contains ys k → IsTrue (is_marked a k) ⊎ Contains (xs ++ ys) k
    at_other k (inl m) = at_first k (p.no_other k m)
    at_other k (inr h) = inr (Contains-append_right xs ys k h)

    at_kept : (k r : ℕ) → IsTrue (is_marked a k) ⊎ Contains v r → IsTrue (is_marked a k) ⊎ Contains w r
    at_kept k r (inl m) = inl m
    at_kept k r (inr h) = inr (q.left_kept r h)

    at_told : (k r : ℕ) → clock_key t k ≡ Some r → IsTrue (is_marked b k) ⊎ Contains w r → IsTrue (is_marked a k) ⊎ Contains w r
    at_told k r e (inl m) = at_kept k r (p.told k r m e)
    at_told k r e (inr h) = inr h

    at_before : (r : ℕ) → Contains u r ⊎ ((k : ℕ) × Contains xs k × (clock_key t k ≡ Some r)) → Contains u r ⊎ ((k : ℕ) × Contains (xs ++ ys) k × (clock_key t k ≡ Some r))
    at_before r (inl h) = inl h
    at_before r (inr h) = inr (h.0, Contains-append_left xs ys h.0 h.1, h.2)

    at_left : (r : ℕ) → Contains v r ⊎ ((k : ℕ) × Contains ys k × (clock_key t k ≡ Some r)) → Contains u r ⊎ ((k : ℕ) × Contains (xs ++ ys) k × (clock_key t k ≡ Some r))
    at_left r (inl h) = at_before r (p.left_only r h)
    at_left r (inr h) = inr (h.0, Contains-append_right xs ys h.0 h.1, h.2)

-- the same of the elements of a list, up to the next
pub marks_next : (t : List Node) (nodes : List ℕ) (i : ℕ) (a b c : List Bool) (u v w : List ℕ) → i < length nodes
    → Marks t (take i nodes) a b u v → Marks t (get_or nodes i 0 ∷ []) b c v w → Marks t (take (i + 1) nodes) a c u w
marks_next t nodes i a b c u v w within p q = subst (λ z. Marks t z a c u w) (sym (take_more nodes i 0 within)) (marks_more t (take i nodes) (get_or nodes i 0 ∷ []) a b c u v w p q)

-- ---- the whole

-- what is kept from turn to turn: what is marked is ignored; what follows a marked Clock is marked or is told of; what isn't marked still stands in the table
pub record IsSpreading (t : List Node) (marks : List Bool) (left : List ℕ) (listed : ℕ → List ℕ) : Type 0 where
  pub whole : length marks ≡ length t
  pub sound : (k : ℕ) → IsTrue (is_marked marks k) → IsIgnored t k
  pub told_of : (r : ℕ) → Contains left r → (clock : ℕ) × (clock_key t clock ≡ Some r) × IsIgnored t clock
  pub starts : (k : ℕ) → IsSource t k → IsTrue (is_marked marks k)
  pub spreads : (k clock r : ℕ) → Follows t k r → clock_key t clock ≡ Some r → IsTrue (is_marked marks clock) → IsTrue (is_marked marks k) ⊎ Contains left r
  pub waits : (k r : ℕ) → Follows t k r → IsTrue (is_marked marks k) ⊎ Contains (listed r) k
  pub lists : (k r : ℕ) → Contains (listed r) k → Follows t k r

not_marked : (n k : ℕ) → IsTrue (is_marked (replicate n false) k) → ⊥
not_marked zero zero m = cc
not_marked zero (suc k) m = cc
not_marked (suc n) zero m = cc
not_marked (suc n) (suc k) m = not_marked n k m

-- what is ignored by itself is marked first
pub spread_first : (t : List Node) (marks : List Bool) (left all : List ℕ) (listed : ℕ → List ℕ) → ((k : ℕ) → Contains all k ↔ IsSource t k) → ListsFollowers t listed
    → Marks t all (replicate (length t) false) marks [] left → IsSpreading t marks left listed
spread_first t marks left all listed are lists m = record {
  whole = m.same_length ∙ length-replicate (length t) false;
  sound = sound;
  told_of = λ r h. at_told r (m.left_only r h);
  starts = λ k s. m.marked k ((are k).1 s) (subst (λ n. k < n) (sym (length-replicate (length t) false)) (is_variable_within t k s.0));
  spreads = λ k clock r f e h. at_spread k clock r (m.told clock r h e);
  waits = λ k r f. inr ((lists k r).1 f);
  lists = λ k r h. (lists k r).0 h;
}
  where
    at_sound : (k : ℕ) → IsTrue (is_marked (replicate (length t) false) k) ⊎ Contains all k → IsIgnored t k
    at_sound k (inl n) = absurd (not_marked (length t) k n)
    at_sound k (inr h) = let s : IsSource t k = (are k).0 h in OfItself k s.0 s.1

    sound : (k : ℕ) → IsTrue (is_marked marks k) → IsIgnored t k
    sound k h = at_sound k (m.no_other k h)

    at_told : (r : ℕ) → Contains [] r ⊎ ((k : ℕ) × Contains all k × (clock_key t k ≡ Some r)) → (clock : ℕ) × (clock_key t clock ≡ Some r) × IsIgnored t clock
    at_told r (inl h) = absurd (contains_none r h)
    at_told r (inr h) = (h.0, h.2, at_sound h.0 (inr h.1))

    at_spread : (k clock r : ℕ) → IsTrue (is_marked (replicate (length t) false) clock) ⊎ Contains left r → IsTrue (is_marked marks k) ⊎ Contains left r
    at_spread k clock r (inl n) = absurd (not_marked (length t) clock n)
    at_spread k clock r (inr h) = inr h

-- the table without what it had for a reference
abbrev pub TakesOut : ℕ → (ℕ → List ℕ) → (ℕ → List ℕ) → Type 0
TakesOut r old new = (q : ℕ) → ((q ≡ r) × (new q ≡ [])) ⊎ ((q ≡ r → ⊥) × (new q ≡ old q))

-- the elements that name the reference of an ignored Clock are marked
pub spread_more : (t : List Node) (old new : List Bool) (left rest more : List ℕ) (r : ℕ) (had has : ℕ → List ℕ) → IsSpreading t old left had → left ≡ rest ++ r ∷ []
    → TakesOut r had has → Marks t (had r) old new rest more → IsSpreading t new more has
spread_more t old new left rest more r had has s split takes m = record {
  whole = m.same_length ∙ s.whole;
  sound = sound;
  told_of = λ q h. at_told q (m.left_only q h);
  starts = λ k h. m.kept k (s.starts k h);
  spreads = λ k clock q f e h. at_spread k clock q f e (m.told clock q h e);
  waits = λ k q f. at_waits k q f (takes q) (s.waits k q f);
  lists = λ k q h. at_lists k q h (takes q);
}
  where
    source : (clock : ℕ) × (clock_key t clock ≡ Some r) × IsIgnored t clock
    source = s.told_of r (subst (λ z. Contains z r) (sym split) (Contains-push rest r))

    at_sound : (k : ℕ) → IsTrue (is_marked old k) ⊎ Contains (had r) k → IsIgnored t k
    at_sound k (inl h) = s.sound k h
    at_sound k (inr h) = let f : Follows t k r = s.lists k r h in ByClock k source.0 r f.0 f.1 source.1 source.2

    sound : (k : ℕ) → IsTrue (is_marked new k) → IsIgnored t k
    sound k h = at_sound k (m.no_other k h)

    at_told : (q : ℕ) → Contains rest q ⊎ ((k : ℕ) × Contains (had r) k × (clock_key t k ≡ Some q)) → (clock : ℕ) × (clock_key t clock ≡ Some q) × IsIgnored t clock
    at_told q (inl h) = s.told_of q (subst (λ z. Contains z q) (sym split) (Contains-append_left rest (r ∷ []) q h))
    at_told q (inr h) = (h.0, h.2, at_sound h.0 (inr h.1))

    here : (k : ℕ) → Follows t k r → IsTrue (is_marked old k) ⊎ Contains (had r) k → IsTrue (is_marked new k)
    here k f (inl h) = m.kept k h
    here k f (inr h) = m.marked k h (subst (λ n. k < n) (sym s.whole) (is_variable_within t k f.0))

    at_left : (k q : ℕ) → Follows t k q → Contains rest q ⊎ (r ≡ q) → IsTrue (is_marked new k) ⊎ Contains more q
    at_left k q f (inl h) = inr (m.left_kept q h)
    at_left k q f (inr e) = let g : Follows t k r = subst (λ z. Follows t k z) (sym e) f in inl (here k g (s.waits k r g))

    at_before : (k q : ℕ) → Follows t k q → IsTrue (is_marked old k) ⊎ Contains left q → IsTrue (is_marked new k) ⊎ Contains more q
    at_before k q f (inl h) = inl (m.kept k h)
    at_before k q f (inr h) = at_left k q f (Contains-push_cases rest r q (subst (λ z. Contains z q) split h))

    at_spread : (k clock q : ℕ) → Follows t k q → clock_key t clock ≡ Some q → IsTrue (is_marked old clock) ⊎ Contains more q → IsTrue (is_marked new k) ⊎ Contains more q
    at_spread k clock q f e (inl h) = at_before k q f (s.spreads k clock q f e h)
    at_spread k clock q f e (inr h) = inr h

    at_waits : (k q : ℕ) → Follows t k q → ((q ≡ r) × (has q ≡ [])) ⊎ ((q ≡ r → ⊥) × (has q ≡ had q)) → IsTrue (is_marked old k) ⊎ Contains (had q) k → IsTrue (is_marked new k) ⊎ Contains (has q) k
    at_waits k q f (inl e) w = let g : Follows t k r = subst (λ z. Follows t k z) e.0 f in inl (here k g (s.waits k r g))
    at_waits k q f (inr e) (inl h) = inl (m.kept k h)
    at_waits k q f (inr e) (inr h) = inr (subst (λ z. Contains z k) (sym e.1) h)

    at_lists : (k q : ℕ) → Contains (has q) k → ((q ≡ r) × (has q ≡ [])) ⊎ ((q ≡ r → ⊥) × (has q ≡ had q)) → Follows t k q
    at_lists k q h (inl e) = absurd (contains_none k (subst (λ z. Contains z k) e.1 h))
    at_lists k q h (inr e) = s.lists k q (subst (λ z. Contains z k) e.1 h)

-- nothing is left
pub spread_all : (t : List Node) (marks : List Bool) (listed : ℕ → List ℕ) → IsSpreading t marks [] listed → (k : ℕ) → IsTrue (is_marked marks k) ↔ IsIgnored t k
spread_all t marks listed s k = (s.sound k, complete k)
  where
    at : (k r : ℕ) → IsTrue (is_marked marks k) ⊎ Contains [] r → IsTrue (is_marked marks k)
    at k r (inl h) = h
    at k r (inr h) = absurd (contains_none r h)

    complete : (k : ℕ) → IsIgnored t k → IsTrue (is_marked marks k)
    complete _ (OfItself k v i) = s.starts k (v, i)
    complete _ (ByClock k clock r v c e f) = at k r (s.spreads k clock r (v, c) e (complete clock f))

-- ---- the same as the calls say it

pub spread_begin : (t : List Node) (marks fresh : List Bool) (left none all nodes : List ℕ) (listed : ℕ → List ℕ) → ((k : ℕ) → Contains all k ↔ IsSource t k) → ListsFollowers t listed
    → nodes ≡ all → fresh ≡ replicate (length t) false → none ≡ [] → Marks t nodes fresh marks none left → IsSpreading t marks left listed
spread_begin t marks fresh left none all nodes listed are lists e f g m =
    spread_first t marks left all listed are lists
    (subst (λ z. Marks t z (replicate (length t) false) marks [] left) e (subst (λ z. Marks t nodes z marks [] left) f (subst (λ z. Marks t nodes fresh marks z left) g m)))

apart : (r q : ℕ) → (q ≡ r → ⊥) → is_eq (nat_cmp r q) ≡ false
apart r q ne = at (nat_lt r q) (r == q) refl
  where
    at : (b c : Bool) → (r == q) ≡ c → is_eq (cond b Less (cond c Equal Greater)) ≡ false
    at true c e = refl
    at false true e = absurd (ne (sym (eqb-true r q e)))
    at false false e = refl

pub takes_out : (r : ℕ) (old new : BTreeMap ℕ (Vec ℕ Global)) → UpdatesBy nat_cmp (nat_cmp r) old new None → TakesOut r (listed_at old) (listed_at new)
takes_out r old new u q = at (cases_eq q r)
  where
    at : (q ≡ r) ⊎ (q ≡ r → ⊥) → ((q ≡ r) × (listed_at new q ≡ [])) ⊎ ((q ≡ r → ⊥) × (listed_at new q ≡ listed_at old q))
    at (inl e) = inl (e, ap (listed_at new) e ∙ ap (λ (o : Option (Vec ℕ Global)). option_map_or (λ (v : Vec ℕ Global). v.items) o []) u.1)
    at (inr ne) = inr (ne, ap (λ (o : Option (Vec ℕ Global)). option_map_or (λ (v : Vec ℕ Global). v.items) o []) (u.2 q (apart r q ne)))
