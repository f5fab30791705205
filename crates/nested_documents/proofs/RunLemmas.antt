-- Runs of elements, taken apart.
use Rattle.std.proofs.Common.{◌≡◌, ◌∙◌, ℕ, zero, suc, ◌+◌, ◌-◌, ◌<◌, ◌≤◌, min, List, [], ◌∷◌, ◌++◌, length, take, drop, get_or, Option, Some, refl, sym, ap, subst, arith, slice_get, append_assoc, add-one, drop-cons}
use Rattle.std.proofs.lemmas.List.{append-nil}
use Rattle.nested_documents.specs.declared.numbers.Place.{Place}
use Rattle.nested_documents.specs.declared.run.Run.{Run}
use Rattle.nested_documents.specs.Numbers.{elements_in, run, with_elements}

abbrev element : ℕ → ℕ → Place
element document node = record { document = document; node = node }

get_within : (d n c k : ℕ) (rest : List Place) → k < c → slice_get (run d n c ++ rest) k ≡ Some (element d (n + k))
unfolding run
get_within d n zero k rest less = absurd (omega arith)
get_within d n (suc c) zero rest less = let e : n ≡ n + 0 = omega arith in ap (λ m. Some (element d m)) e
get_within d n (suc c) (suc k) rest less =
    let e : suc n + k ≡ n + suc k = omega arith in
    get_within d (suc n) c k rest (omega arith) ∙ ap (λ m. Some (element d m)) e

get_past : (d n c k : ℕ) (rest : List Place) → c ≤ k → slice_get (run d n c ++ rest) k ≡ slice_get rest (k - c)
unfolding run
get_past d n zero k rest le = let e : k ≡ k - 0 = omega arith in ap (slice_get rest) e
get_past d n (suc c) zero rest le = absurd (omega arith)
get_past d n (suc c) (suc k) rest le =
    let e : k - c ≡ suc k - suc c = omega arith in
    get_past d (suc n) c k rest (omega arith) ∙ ap (slice_get rest) e

take_run : (d n c k : ℕ) (rest : List Place) → take k (run d n c ++ rest) ≡ run d n (min c k) ++ take (k - c) rest
unfolding run
take_run d n zero k rest =
    let e : min 0 k ≡ 0 = omega arith in
    let f : k ≡ k - 0 = omega arith in
    subst (λ m. take k rest ≡ run d n m ++ take (k - 0) rest) (sym e) (ap (λ m. take m rest) f)
take_run d n (suc c) zero rest =
    let e : min (suc c) 0 ≡ 0 = omega arith in
    let f : 0 ≡ 0 - suc c = omega arith in
    subst (λ m. [] ≡ run d n m ++ take (0 - suc c) rest) (sym e) (ap (λ m. take m rest) f)
take_run d n (suc c) (suc k) rest =
    let e : min (suc c) (suc k) ≡ suc (min c k) = omega arith in
    let f : k - c ≡ suc k - suc c = omega arith in
    subst (λ m. take (suc k) (run d n (suc c) ++ rest) ≡ run d n m ++ take (suc k - suc c) rest) (sym e)
    (subst (λ m. take (suc k) (run d n (suc c) ++ rest) ≡ run d n (suc (min c k)) ++ take m rest) f (ap (λ (xs : List Place). element d n ∷ xs) (take_run d (suc n) c k rest)))

drop_run : (d n c k : ℕ) (rest : List Place) → drop k (run d n c ++ rest) ≡ run d (n + k) (c - k) ++ drop (k - c) rest
unfolding run
drop_run d n zero k rest =
    let e : 0 - k ≡ 0 = omega arith in
    let f : k ≡ k - 0 = omega arith in
    subst (λ m. drop k rest ≡ run d (n + k) m ++ drop (k - 0) rest) (sym e) (ap (λ m. drop m rest) f)
drop_run d n (suc c) zero rest =
    let e : n ≡ n + 0 = omega arith in
    let f : suc c - 0 ≡ suc c = omega arith in
    let g : 0 - suc c ≡ 0 = omega arith in
    subst (λ m. run d n (suc c) ++ rest ≡ run d m (suc c - 0) ++ drop (0 - suc c) rest) e
    (subst (λ m. run d n (suc c) ++ rest ≡ run d n m ++ drop (0 - suc c) rest) (sym f) (subst (λ m. run d n (suc c) ++ rest ≡ run d n (suc c) ++ drop m rest) (sym g) refl))
drop_run d n (suc c) (suc k) rest =
    let e : suc n + k ≡ n + suc k = omega arith in
    let f : c - k ≡ suc c - suc k = omega arith in
    let g : k - c ≡ suc k - suc c = omega arith in
    drop_run d (suc n) c k rest ∙ (ap (λ m. run d m (c - k) ++ drop (k - c) rest) e ∙ (ap (λ m. run d (n + suc k) m ++ drop (k - c) rest) f ∙ ap (λ m. run d (n + suc k) (suc c - suc k) ++ drop m rest) g))

pub places_append : (rs ss : List Run) → elements_in (rs ++ ss) ≡ elements_in rs ++ elements_in ss
places_append [] ss = refl
places_append (r ∷ rs) ss = ap (λ xs. run r.document r.node r.count ++ xs) (places_append rs ss) ∙ sym (append_assoc (run r.document r.node r.count) (elements_in rs) (elements_in ss))

pub none_first : (rs : List Run) (d n c most : ℕ) → most ≡ 0 → elements_in rs ≡ elements_in rs ++ run d n (min c most)
unfolding run
none_first rs d n c most e =
    let f : min c most ≡ 0 = omega (arith, e) in
    rw (f, append-nil) refl

pub none_after : (rs : List Run) (d n c less : ℕ) → c ≤ less → elements_in rs ≡ elements_in rs ++ run d (n + less) (c - less)
unfolding run
none_after rs d n c less le =
    let f : c - less ≡ 0 = omega (arith, le) in
    rw (f, append-nil) refl

one_more : (rs ss : List Run) (r : Run) → ss ≡ rs ++ r ∷ [] → elements_in ss ≡ elements_in rs ++ run r.document r.node r.count
one_more rs ss r e =
    ap elements_in e ∙ (places_append rs (r ∷ []) ∙ ap (λ (xs : List Place). elements_in rs ++ xs) (append-nil (run r.document r.node r.count)))

pub part_more : (rs ss : List Run) (r : Run) (document node count : ℕ) → ss ≡ rs ++ r ∷ [] → r.document ≡ document → r.node ≡ node → r.count ≡ count → elements_in ss ≡ elements_in rs ++ run document node count
part_more rs ss r document node count e d n c = one_more rs ss r e ∙ ap (λ (xs : List Place). elements_in rs ++ xs) (rw (d, n, c) refl)

-- the prefix, a whole document and the rest
pub put_run : (prefix back joined all : List Run) (whole : Run) (document count at : ℕ) (elements : List Place) → joined ≡ prefix ++ whole ∷ [] → all ≡ joined ++ back → whole.document ≡ document → whole.node ≡ 0 → whole.count ≡ count → elements_in prefix ≡ take at elements → elements_in back ≡ drop at elements → elements_in all ≡ with_elements at document count elements
put_run prefix back joined all whole document count at elements e f d n c g h =
    let j : elements_in joined ≡ take at elements ++ run document 0 count = part_more prefix joined whole document 0 count e d n c ∙ ap (λ (xs : List Place). xs ++ run document 0 count) g in
    ap elements_in f ∙ (places_append joined back
    ∙ (ap (λ (xs : List Place). xs ++ elements_in back) j ∙ (ap (λ (xs : List Place). (take at elements ++ run document 0 count) ++ xs) h ∙ append_assoc (take at elements) (run document 0 count) (drop at elements))))

-- the runs from one on: that one and those after it
from_one : (rs : List Run) (i : ℕ) (r : Run) → i < length rs → r ≡ get_or rs i r → elements_in (drop i rs) ≡ run r.document r.node r.count ++ elements_in (drop (i + 1) rs)
from_one rs i r less is =
    let e : drop i rs ≡ r ∷ drop (i + 1) rs = rw (add-one, drop-cons rs i r, ← is) refl in
    ap elements_in e

pub get_here : (rs : List Run) (i : ℕ) (r : Run) (k : ℕ) (found : Option Place) → i < length rs → r ≡ get_or rs i r → k < r.count → slice_get (elements_in (drop i rs)) k ≡ found → Some (element r.document (r.node + k)) ≡ found
get_here rs i r k found less is below e =
    sym (get_within r.document r.node r.count k (elements_in (drop (i + 1) rs)) below) ∙ (sym (ap (λ xs. slice_get xs k) (from_one rs i r less is)) ∙ e)

pub get_after : (rs : List Run) (i : ℕ) (r : Run) (k : ℕ) (found : Option Place) → i < length rs → r ≡ get_or rs i r → r.count ≤ k → slice_get (elements_in (drop i rs)) k ≡ found → slice_get (elements_in (drop (i + 1) rs)) (k - r.count) ≡ found
get_after rs i r k found less is past e =
    sym (get_past r.document r.node r.count k (elements_in (drop (i + 1) rs)) past) ∙ (sym (ap (λ xs. slice_get xs k) (from_one rs i r less is)) ∙ e)

pub prefix_more : (rs prefix more : List Run) (i : ℕ) (r : Run) (k : ℕ) (all : List Place) → i < length rs → r ≡ get_or rs i r → elements_in prefix ++ take k (elements_in (drop i rs)) ≡ all → elements_in more ≡ elements_in prefix ++ run r.document r.node (min r.count k) → elements_in more ++ take (k - r.count) (elements_in (drop (i + 1) rs)) ≡ all
prefix_more rs prefix more i r k all less is e f =
    let rest = elements_in (drop (i + 1) rs) in
    let g : take k (elements_in (drop i rs)) ≡ run r.document r.node (min r.count k) ++ take (k - r.count) rest = ap (take k) (from_one rs i r less is) ∙ take_run r.document r.node r.count k rest in
    ap (λ xs. xs ++ take (k - r.count) rest) f ∙ (append_assoc (elements_in prefix) (run r.document r.node (min r.count k)) (take (k - r.count) rest) ∙ (sym (ap (λ xs. elements_in prefix ++ xs) g) ∙ e))

pub back_more : (rs back more : List Run) (i : ℕ) (r : Run) (k : ℕ) (all : List Place) → i < length rs → r ≡ get_or rs i r → elements_in back ++ drop k (elements_in (drop i rs)) ≡ all → elements_in more ≡ elements_in back ++ run r.document (r.node + k) (r.count - k) → elements_in more ++ drop (k - r.count) (elements_in (drop (i + 1) rs)) ≡ all
back_more rs back more i r k all less is e f =
    let rest = elements_in (drop (i + 1) rs) in
    let g : drop k (elements_in (drop i rs)) ≡ run r.document (r.node + k) (r.count - k) ++ drop (k - r.count) rest = ap (drop k) (from_one rs i r less is) ∙ drop_run r.document r.node r.count k rest in
    ap (λ xs. xs ++ drop (k - r.count) rest) f ∙ (append_assoc (elements_in back) (run r.document (r.node + k) (r.count - k)) (drop (k - r.count) rest) ∙ (sym (ap (λ xs. elements_in back ++ xs) g) ∙ e))
