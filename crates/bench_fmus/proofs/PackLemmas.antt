-- How many bytes a state has, and those of some of its values.
use Rattle.std.proofs.Common.{◌≡◌, ℕ, zero, suc, ◌+◌, ◌*◌, ◌<◌, ◌≤◌, List, [], ◌∷◌, ◌++◌, length, take, Option, Some, None, ℤ, is_some, refl, sym, ap, ap₂, ◌∙◌, arith, append_assoc}
use Rattle.std.specs.List.{flat_map, slice_get, sum_by}
use Rattle.std.specs.Option.{option_and_then}
use Rattle.std.specs.Prelude.{cond, count_by}
use Rattle.std.proofs.lemmas.List.{length-append, flat_map_more}
use Rattle.std.proofs.lemmas.List.Concat.{length-flat_map}
use Rattle.std.proofs.lemmas.List.Sums.{sum_by-cons}
use Rattle.value_types.specs.declared.values.PortType.{PortType}
use Rattle.value_types.specs.declared.shape.Variable.{Variable}
use Rattle.fmu_peer.specs.Machine.{SavedMachine}
use Rattle.bench_fmus.specs.Packed.{entry_bytes, entry_size, kind_at, numbers_bytes, ordered, packed, packed_size, value_bytes}
use Rattle.bench_fmus.specs.State.{Numbers, numbers_in}
use Rattle.bench_fmus.proofs.OrderLemmas.{ordered_sum}

-- ---- lengths

pub value_len : (kind : Option PortType) (reference : ℕ) (value : ℤ) → length (value_bytes kind reference value) ≡ entry_size kind
value_len None reference value = refl
value_len (Some kind) reference value = refl

pub numbers_len : (n : Numbers) → length (numbers_bytes n) ≡ 32
numbers_len n = refl

size_of_kind : (kind : Option PortType) → entry_size kind ≡ 12 * cond (is_some kind) 1 0
size_of_kind None = refl
size_of_kind (Some kind) = refl

typed_sum : (vs : List Variable) → sum_by (λ (v : Variable). entry_size v.kind) vs ≡ 12 * count_by (λ (v : Variable). is_some v.kind) vs
typed_sum [] = refl
typed_sum (v ∷ vs) =
    let one = sum_by-cons (λ (w : Variable). entry_size w.kind) v vs in
    let two = sum_by-cons (λ (w : Variable). cond (is_some w.kind) 1 0) v vs in
    let here = size_of_kind v.kind in
    let rest = typed_sum vs in
    omega arith

entry_len : (variables : List Variable) (values : List ℤ) (e : ℕ × ℕ) (v : Variable) → slice_get variables e.1 ≡ Some v → length (entry_bytes variables values e) ≡ entry_size v.kind
entry_len variables values e v at =
    value_len (kind_at variables e.1) e.0 _ ∙ ap (λ (o : Option Variable). entry_size (option_and_then (λ (w : Variable). w.kind) o)) at

pub entries_len : (variables : List Variable) (values : List ℤ) → length (flat_map (entry_bytes variables values) (ordered variables)) ≡ 12 * count_by (λ (v : Variable). is_some v.kind) variables
entries_len variables values =
    length-flat_map (entry_bytes variables values) (ordered variables)
    ∙ ordered_sum variables (λ (e : ℕ × ℕ). length (entry_bytes variables values e)) (λ (v : Variable). entry_size v.kind) (entry_len variables values)
    ∙ typed_sum variables

-- each state of a machine has as many bytes
pub packed_len : (variables : List Variable) (kept : SavedMachine) → length (packed variables kept) ≡ packed_size variables
packed_len variables kept =
    length-append (numbers_bytes (numbers_in kept.numbers)) (flat_map (entry_bytes variables kept.values) (ordered variables))
    ∙ ap₂ (λ (a b : ℕ). a + b) (numbers_len (numbers_in kept.numbers)) (entries_len variables kept.values)

-- ---- the bytes of the first values

flat_take : {X A : Type 0} (f : X → List A) (xs : List X) (k : ℕ) → length (flat_map f (take k xs)) ≤ length (flat_map f xs)
flat_take f [] zero = omega arith
flat_take f [] (suc k) = omega arith
flat_take f (x ∷ xs) zero = omega arith
flat_take f (x ∷ xs) (suc k) =
    let rest = flat_take f xs k in
    let one = length-append (f x) (flat_map f (take k xs)) in
    let two = length-append (f x) (flat_map f xs) in
    omega arith

-- after so many there is room for one more
pub fits_more : {X A : Type 0} (f : X → List A) (xs : List X) (k : ℕ) (x : X) (before : ℕ) → k < length xs → take (k + 1) xs ≡ take k xs ++ x ∷ [] →
    before + length (flat_map f (take k xs)) + length (f x) ≤ before + length (flat_map f xs)
fits_more f xs k x before within next =
    let all = flat_take f xs (k + 1) in
    let more = ap length (flat_map_more f [] (take k xs) x) in
    let sum = length-append (flat_map f (take k xs)) (f x) in
    let is = ap (λ ys. length (flat_map f ys)) next in
    omega arith

-- one part is put, and others after it
pub put_after : {A : Type 0} (old mid new x y : List A) → mid ≡ old ++ x → new ≡ mid ++ y → new ≡ old ++ (x ++ y)
put_after old mid new x y e f = f ∙ ap (λ t. t ++ y) e ∙ append_assoc old x y

-- one value more is put
pub put_more : {X : Type 0} (f : X → List ℕ) (xs : List X) (i : ℕ) (x : X) (old prefix mid new one : List ℕ) → take (i + 1) xs ≡ take i xs ++ x ∷ [] → mid ≡ old ++ (prefix ++ flat_map f (take i xs)) → one ≡ f x → new ≡ mid ++ one →
    new ≡ old ++ (prefix ++ flat_map f (take (i + 1) xs))
put_more f xs i x old prefix mid new one next so_far is put =
    put ∙ ap₂ (λ (a b : List ℕ). a ++ b) so_far is
    ∙ append_assoc old (prefix ++ flat_map f (take i xs)) (f x)
    ∙ ap (λ (a : List ℕ). old ++ a) (flat_map_more f prefix (take i xs) x)
    ∙ ap (λ ys. old ++ (prefix ++ flat_map f ys)) (sym next)
