-- The numbers of ports, one variable after another, and whose a number is.
use Rattle.std.proofs.Common.{◌≡◌, ◌⊎◌, ℕ, ◌+◌, ◌<◌, ◌≤◌, Bool, true, false, cond, List, [], ◌∷◌, ◌++◌, length, map, take, get_or, count_by, Option, Some, None, refl, sym, ap, ◌∙◌, inl, inr, arith, Bor}
use Rattle.std.specs.List.{slice_get}
use Rattle.std.specs.Option.{option_map}
use Rattle.std.proofs.lemmas.Bool.{cases_lt, cases_order}
use Rattle.std.proofs.lemmas.List.{length_push, take-take}
use Rattle.std.proofs.lemmas.List.Sums.{count_by_more_no, count_by_more_yes, sum_by-take-le}
use Rattle.std.proofs.lemmas.Option.{slice_get_within, slice_get-map, get_or_from_slice_get, same_Some}
use Rattle.sim_base.specs.declared.numbers.PortId.{PortId}
use Rattle.value_types.specs.Shape.{is_port}
use Rattle.value_types.specs.declared.shape.Variable.{Variable}
use Rattle.value_types.specs.declared.shape.Shape.{Shape}
use Rattle.flatten.specs.declared.connectors.Variables.{Variables}
use Rattle.flatten.specs.Indexed.{AreVariables, all_variables}
use Rattle.flatten.specs.Ports.{ArePortNumbers, port_number}
use Rattle.flatten.proofs.PieceLemmas.{element_at, get_left, get_right, read_at}

-- ---- one variable after another

pub variable_read : (shapes : List Shape) (v : Variables) (items : List (Bor Variable)) (i : ℕ) (x : Bor Variable) → AreVariables shapes v → items ≡ v.all.items → i < length items → x ≡ get_or items i x → slice_get (all_variables shapes) i ≡ Some x.now
variable_read shapes v items i x are same within read =
    let there : slice_get items i ≡ Some x = read_at items (length items) i x x refl within read refl in
    ap (λ xs. slice_get xs i) (sym are.all ∙ ap (map (λ (y : Bor Variable). y.now)) (sym same)) ∙ slice_get-map (λ (y : Bor Variable). y.now) items i ∙ ap (option_map (λ (y : Bor Variable). y.now)) there

-- the numbers of the variables so far
pub record AreNumbersBelow (shapes : List Shape) (i count : ℕ) (numbers : List (Option PortId)) : Type 0 where
  pub counts : count ≡ count_by is_port (take i (all_variables shapes))
  pub len : length numbers ≡ i
  pub each : (n : ℕ) (x : Variable) → n < i → slice_get (all_variables shapes) n ≡ Some x → slice_get numbers n ≡ Some (port_number shapes n x)

number_more : (shapes : List Shape) (i count count' : ℕ) (x : Variable) (o : Option PortId) (numbers : List (Option PortId)) → slice_get (all_variables shapes) i ≡ Some x → o ≡ port_number shapes i x → count' ≡ count_by is_port (take (i + 1) (all_variables shapes))
    → AreNumbersBelow shapes i count numbers → AreNumbersBelow shapes (i + 1) count' (numbers ++ o ∷ [])
number_more shapes i count count' x o numbers there is counted below = record {
  counts = counted;
  len = length_push numbers o ∙ ap (λ n. n + 1) below.len;
  each = λ n y less at. by n y at (cases_lt n i) less;
}
  where
    by : (n : ℕ) (y : Variable) → slice_get (all_variables shapes) n ≡ Some y → (n < i) ⊎ (i ≤ n) → n < i + 1 → slice_get (numbers ++ o ∷ []) n ≡ Some (port_number shapes n y)
    by n y at (inl h) less = get_left numbers (o ∷ []) n (port_number shapes n y) (below.each n y h at)
    by n y at (inr h) less =
        let len = below.len in
        let here : n ≡ i = omega arith in
        let at_end : length numbers + 0 ≡ n = omega arith in
        let same : x ≡ y = same_Some x y (sym there ∙ ap (slice_get (all_variables shapes)) (sym here) ∙ at) in
        ap (slice_get (numbers ++ o ∷ [])) (sym at_end) ∙ get_right numbers (o ∷ []) 0 ∙ ap Some is ∙ ap (λ z. Some (port_number shapes z x)) (sym here) ∙ ap (λ z. Some (port_number shapes n z)) same

pub number_port : (shapes : List Shape) (i count : ℕ) (x : Variable) (numbers : List (Option PortId)) → slice_get (all_variables shapes) i ≡ Some x → is_port x ≡ true → AreNumbersBelow shapes i count numbers → AreNumbersBelow shapes (i + 1) (count + 1) (numbers ++ Some (record { 0 = count }) ∷ [])
number_port shapes i count x numbers there is below =
    let within = slice_get_within (all_variables shapes) i x there in
    let more = count_by_more_yes is_port (all_variables shapes) i x within (ap is_port (get_or_from_slice_get (all_variables shapes) i x x there) ∙ is) in
    let number : Some (record { 0 = count }) ≡ port_number shapes i x = ap (λ n. Some (record { 0 = n })) below.counts ∙ sym (ap (λ b. cond b (Some (record { 0 = count_by is_port (take i (all_variables shapes)) })) None) is) in
    number_more shapes i count (count + 1) x (Some (record { 0 = count })) numbers there number (ap (λ n. n + 1) below.counts ∙ sym more) below

pub number_other : (shapes : List Shape) (i count : ℕ) (x : Variable) (numbers : List (Option PortId)) → slice_get (all_variables shapes) i ≡ Some x → is_port x ≡ false → AreNumbersBelow shapes i count numbers → AreNumbersBelow shapes (i + 1) count (numbers ++ None ∷ [])
number_other shapes i count x numbers there is below =
    let within = slice_get_within (all_variables shapes) i x there in
    let more = count_by_more_no is_port (all_variables shapes) i x within (ap is_port (get_or_from_slice_get (all_variables shapes) i x x there) ∙ is) in
    let number : None ≡ port_number shapes i x = sym (ap (λ b. cond b (Some (record { 0 = count_by is_port (take i (all_variables shapes)) })) None) is) in
    number_more shapes i count count x None numbers there number (below.counts ∙ sym more) below

pub numbers_whole : (shapes : List Shape) (i count : ℕ) (numbers : List (Option PortId)) → i ≡ length (all_variables shapes) → AreNumbersBelow shapes i count numbers → ArePortNumbers shapes numbers
numbers_whole shapes i count numbers whole below = record {
  len = below.len ∙ whole;
  each = λ n x at. let w = slice_get_within (all_variables shapes) n x at in below.each n x (omega arith) at;
}

-- ---- whose a number is

count_later : (xs : List Variable) (i k : ℕ) (x : Variable) → slice_get xs i ≡ Some x → is_port x ≡ true → i < k → count_by is_port (take i xs) < count_by is_port (take k xs)
count_later xs i k x at is less =
    let within = slice_get_within xs i x at in
    let one = count_by_more_yes is_port xs i x within (ap is_port (get_or_from_slice_get xs i x x at) ∙ is) in
    let more = sum_by-take-le (λ (v : Variable). cond (is_port v) 1 0) (take k xs) (i + 1) in
    let same = ap (count_by is_port) (take-take (i + 1) k xs (omega arith)) in
    omega arith

-- the variable that has a port, and the port's number
pub record IsPortWith (shapes : List Shape) (n : ℕ) (port : PortId) : Type 0 where
  pub variable : Variable
  pub at : slice_get (all_variables shapes) n ≡ Some variable
  pub is : is_port variable ≡ true
  pub number : port.0 ≡ count_by is_port (take n (all_variables shapes))

pub port_with : (shapes : List Shape) (numbers : List (Option PortId)) (n : ℕ) (port : PortId) → ArePortNumbers shapes numbers → slice_get numbers n ≡ Some (Some port) → IsPortWith shapes n port
port_with shapes numbers n port are there =
    let len = are.len in
    let within = slice_get_within numbers n (Some port) there in
    let x = element_at (all_variables shapes) n (omega arith) in
    by x.0 x.1 (is_port x.0) refl (same_Some (port_number shapes n x.0) (Some port) (sym (are.each n x.0 x.1) ∙ there))
  where
    by : (x : Variable) → slice_get (all_variables shapes) n ≡ Some x → (b : Bool) → is_port x ≡ b → port_number shapes n x ≡ Some port → IsPortWith shapes n port
    by x at true e is =
        let told : Some (record { 0 = count_by is_port (take n (all_variables shapes)) }) ≡ Some port = sym (ap (λ z. cond z (Some (record { 0 = count_by is_port (take n (all_variables shapes)) })) None) e) ∙ is in
        record { variable = x; at = at; is = e; number = sym (ap (λ (p : PortId). p.0) (same_Some _ port told)) }
    by x at false e is =
        let told : None ≡ Some port = sym (ap (λ z. cond z (Some (record { 0 = count_by is_port (take n (all_variables shapes)) })) None) e) ∙ is in
        cc

-- one port is that of one variable
pub port_alone : (shapes : List Shape) (numbers : List (Option PortId)) (m n : ℕ) (port : PortId) → ArePortNumbers shapes numbers → slice_get numbers m ≡ Some (Some port) → slice_get numbers n ≡ Some (Some port) → m ≡ n
port_alone shapes numbers m n port are here there =
    let p = port_with shapes numbers m port are here in
    let q = port_with shapes numbers n port are there in
    by p q (cases_order m n)
  where
    by : IsPortWith shapes m port → IsPortWith shapes n port → (m ≡ n) ⊎ ((m < n) ⊎ (n < m)) → m ≡ n
    by p q (inl e) = e
    by p q (inr (inl l)) = let more = count_later (all_variables shapes) m n p.variable p.at p.is l in let a = p.number in let b = q.number in absurd (omega arith)
    by p q (inr (inr l)) = let more = count_later (all_variables shapes) n m q.variable q.at q.is l in let a = p.number in let b = q.number in absurd (omega arith)
