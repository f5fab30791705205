-- A value after a number on which it may depend.
use Rattle.std.proofs.Common.{◌≡◌, ℕ, ◌+◌, ◌<◌, ◌≤◌, List, [], ◌++◌, length, take, drop, refl, sym, ap, subst, ◌∙◌, append_assoc, arith, inl, inr}
use Rattle.std.proofs.lemmas.Bool.{cases_lt}
use Rattle.std.proofs.lemmas.List.{take-append-drop, take-take, take_at, drop_at, take-append-le, length-append, length-take, length-drop, append-nil, nil_from_length}
use Rattle.exact_parts.specs.declared.taken.Taken.{Taken}
use Rattle.exact_parts.specs.declared.taken.Taken.TheVariants.{Got, NeedMore, Bad}
use Rattle.exact_parts.specs.Taking.{AreSingle, Begins, IsPrefix, Gets, Breaks, Takes, After, moved}
use Rattle.exact_parts.proofs.ListLemmas.{cut}
use Rattle.exact_parts.proofs.TakingLemmas.{not_within}

-- each number is followed by something
pub record Followed {N V : Type 0} (next : N → V → List ℕ → Type 0) : Type 0 where
  pub value : N → V
  pub bytes : N → List ℕ
  pub spelled : (n : N) → next n (value n) (bytes n)

regroup : (m : ℕ) (bytes more : List ℕ) → bytes ++ more ≡ take m bytes ++ (drop m bytes ++ more)
regroup m bytes more = ap (λ (xs : List ℕ). xs ++ more) (sym (take-append-drop m bytes)) ∙ append_assoc (take m bytes) (drop m bytes) more

next_got : {N V : Type 0} (first : N → List ℕ → Type 0) (next : N → V → List ℕ → Type 0) (bytes : List ℕ) (n : N) (v : V) (m k : ℕ)
    → Gets first bytes n m → Gets (next n) (drop m bytes) v k → Gets (After first next) bytes v (m + k)
next_got first next bytes n v m k g h = record {
  within = omega (arith, g.within, h.within, length-drop m bytes);
  spelled = record { number = n; prefix = take m bytes; rest = take k (drop m bytes); is_first = g.spelled; is_next = h.spelled; both = cut m k bytes };
}

next_more : {N V : Type 0} (first : N → List ℕ → Type 0) (next : N → V → List ℕ → Type 0) (bytes : List ℕ) (n : N) (m : ℕ)
    → Gets first bytes n m → IsPrefix (next n) (drop m bytes) → IsPrefix (After first next) bytes
next_more first next bytes n m g f = record {
  value = f.value;
  more = f.more;
  spelled = record { number = n; prefix = take m bytes; rest = drop m bytes ++ f.more; is_first = g.spelled; is_next = f.spelled; both = regroup m bytes f.more };
  goes_on = f.goes_on;
}

-- the bytes end in the first
pub first_more : {N V : Type 0} (first : N → List ℕ → Type 0) (next : N → V → List ℕ → Type 0) (followed : Followed next) (bytes : List ℕ) → IsPrefix first bytes → IsPrefix (After first next) bytes
first_more first next followed bytes f = record {
  value = followed.value f.value;
  more = f.more ++ followed.bytes f.value;
  spelled = record { number = f.value; prefix = bytes ++ f.more; rest = followed.bytes f.value; is_first = f.spelled; is_next = followed.spelled f.value; both = sym (append_assoc bytes f.more (followed.bytes f.value)) };
  goes_on = omega (arith, f.goes_on, length-append f.more (followed.bytes f.value));
}

-- a list that begins with two others
longer_is : (xs a ys b : List ℕ) → xs ++ a ≡ ys ++ b → length xs ≤ length ys → ys ≡ xs ++ drop (length xs) ys
longer_is xs a ys b e le =
    let h : take (length xs) ys ≡ xs = sym (take-append-le (length xs) ys b le) ∙ ap (λ (t : List ℕ). take (length xs) t) (sym e) ∙ take_at xs a (length xs) refl in
    sym (take-append-drop (length xs) ys) ∙ ap (λ (t : List ℕ). t ++ drop (length xs) ys) h

record Same {N : Type 0} (n k : N) (xs ys : List ℕ) : Type 0 where
  value : n ≡ k
  text : xs ≡ ys

shorter_same : {N : Type 0} (first : N → List ℕ → Type 0) (single : AreSingle first) (n k : N) (xs a ys b : List ℕ) → first n xs → first k ys → xs ++ a ≡ ys ++ b → length xs ≤ length ys → Same n k xs ys
shorter_same first single n k xs a ys b p q e le =
    let more = drop (length xs) ys in
    let is : ys ≡ xs ++ more = longer_is xs a ys b e le in
    let s = single n k xs more p (subst (first k) is q) in
    let none : more ≡ [] = nil_from_length more s.1 in
    let text : ys ≡ xs = is ∙ ap (λ (t : List ℕ). xs ++ t) none ∙ append-nil xs in
    record { value = s.0; text = sym text }

two_same : {N : Type 0} (first : N → List ℕ → Type 0) (single : AreSingle first) (n k : N) (xs a ys b : List ℕ) → first n xs → first k ys → xs ++ a ≡ ys ++ b → Same n k xs ys
two_same first single n k xs a ys b p q e =
    elim (cases_lt (length xs) (length ys)) [
      | inl lt ↦ shorter_same first single n k xs a ys b p q e (omega arith)
      | inr le ↦ let s = shorter_same first single k n ys b xs a q p (sym e) le in record { value = sym s.value; text = sym s.text }
    ]

after : (xs a b : List ℕ) → xs ++ a ≡ xs ++ b → a ≡ b
after xs a b e = sym (drop_at xs a (length xs) refl) ∙ ap (λ (t : List ℕ). drop (length xs) t) e ∙ drop_at xs b (length xs) refl

next_begins : {N V : Type 0} (first : N → List ℕ → Type 0) (next : N → V → List ℕ → Type 0) (single : AreSingle first) (bytes : List ℕ) (n : N) (m k : ℕ)
    → Gets first bytes n m → Begins (After first next) (take (m + k) bytes) → Begins (next n) (take k (drop m bytes))
next_begins {N = N} first next single bytes n m k g b =
    let s = b.spelled in
    let e : take m bytes ++ (take k (drop m bytes) ++ b.more) ≡ s.prefix ++ s.rest = sym (append_assoc (take m bytes) (take k (drop m bytes)) b.more) ∙ ap (λ (t : List ℕ). t ++ b.more) (sym (cut m k bytes)) ∙ s.both in
    let same = two_same first single n s.number (take m bytes) (take k (drop m bytes) ++ b.more) s.prefix s.rest g.spelled s.is_first e in
    let rest : take k (drop m bytes) ++ b.more ≡ s.rest = after (take m bytes) (take k (drop m bytes) ++ b.more) s.rest (e ∙ ap (λ (t : List ℕ). t ++ s.rest) (sym same.text)) in
    let at_n : next n b.value s.rest = subst (λ (x : N). next x b.value s.rest) (sym same.value) s.is_next in
    record { value = b.value; more = b.more; spelled = subst (next n b.value) (sym rest) at_n }

next_bad : {N V : Type 0} (first : N → List ℕ → Type 0) (next : N → V → List ℕ → Type 0) (single : AreSingle first) (bytes : List ℕ) (n : N) (m at : ℕ)
    → Gets first bytes n m → Breaks (next n) (drop m bytes) at → Breaks (After first next) bytes (m + at)
next_bad first next single bytes n m at g h =
    let f = h.prefix in
    record {
      within = omega (arith, h.within, length-drop m bytes);
      prefix = record {
        value = f.value;
        more = f.more;
        spelled = record { number = n; prefix = take m bytes; rest = take at (drop m bytes) ++ f.more; is_first = g.spelled; is_next = f.spelled; both = ap (λ (t : List ℕ). t ++ f.more) (cut m at bytes) ∙ append_assoc (take m bytes) (take at (drop m bytes)) f.more };
        goes_on = f.goes_on;
      };
      none = λ b. h.none (next_begins first next single bytes n m (at + 1) g (subst (λ (k : ℕ). Begins (After first next) (take k bytes)) (omega arith) b));
    }

-- the first is there, and what was taken after it decides
pub next_takes : {N V : Type 0} (first : N → List ℕ → Type 0) (next : N → V → List ℕ → Type 0) (single : AreSingle first) (bytes : List ℕ) (n : N) (m : ℕ) (taken : Taken V)
    → Gets first bytes n m → Takes (next n) (drop m bytes) taken → Takes (After first next) bytes (moved m taken)
next_takes first next single bytes n m (Got v k) g h = next_got first next bytes n v m k g h
next_takes first next single bytes n m NeedMore g h = next_more first next bytes n m g h
next_takes first next single bytes n m (Bad at) g h = next_bad first next single bytes n m at g h

-- what begins with the first at + 1 bytes has a first part that does, where no shorter one can stand
pub first_begins : {N V : Type 0} (first : N → List ℕ → Type 0) (next : N → V → List ℕ → Type 0) (single : AreSingle first) (bytes : List ℕ) (at : ℕ)
    → at < length bytes → IsPrefix first (take at bytes) → Begins (After first next) (take (at + 1) bytes) → Begins first (take (at + 1) bytes)
first_begins first next single bytes at lt prefix b =
    let s = b.spelled in
    let len : length (take (at + 1) bytes) ≡ at + 1 = omega (arith, length-take (at + 1) bytes) in
    elim (cases_lt at (length s.prefix)) [
      | inl long ↦ record {
        value = s.number;
        more = drop (length (take (at + 1) bytes)) s.prefix;
        spelled = subst (first s.number) (longer_is (take (at + 1) bytes) b.more s.prefix s.rest s.both (omega (arith, len, long))) s.is_first;
      }
      | inr short ↦
          let is : s.prefix ≡ take (length s.prefix) bytes = sym (take_at s.prefix s.rest (length s.prefix) refl) ∙ ap (λ (t : List ℕ). take (length s.prefix) t) (sym s.both) ∙ take-append-le (length s.prefix) (take (at + 1) bytes) b.more (omega (arith, len, short)) ∙ take-take (length s.prefix) (at + 1) bytes (omega (arith, short)) in
          absurd (not_within first single (length s.prefix) at bytes s.number short (subst (first s.number) is s.is_first) prefix)
    ]

-- the bytes break in the first
pub first_bad : {N V : Type 0} (first : N → List ℕ → Type 0) (next : N → V → List ℕ → Type 0) (single : AreSingle first) (followed : Followed next) (bytes : List ℕ) (at : ℕ)
    → Breaks first bytes at → Breaks (After first next) bytes at
first_bad first next single followed bytes at h = record {
  within = h.within;
  prefix = first_more first next followed (take at bytes) h.prefix;
  none = λ b. h.none (first_begins first next single bytes at h.within h.prefix b);
}

pub after_single : {N V : Type 0} (first : N → List ℕ → Type 0) (next : N → V → List ℕ → Type 0) → AreSingle first → ((n : N) → AreSingle (next n)) → AreSingle (After first next)
after_single {N = N} first next single each v w xs more p q =
    let e : p.prefix ++ (p.rest ++ more) ≡ q.prefix ++ q.rest = sym (append_assoc p.prefix p.rest more) ∙ ap (λ (t : List ℕ). t ++ more) (sym p.both) ∙ q.both in
    let same = two_same first single p.number q.number p.prefix (p.rest ++ more) q.prefix q.rest p.is_first q.is_first e in
    let rest : p.rest ++ more ≡ q.rest = after p.prefix (p.rest ++ more) q.rest (e ∙ ap (λ (t : List ℕ). t ++ q.rest) (sym same.text)) in
    let at_v : next p.number w q.rest = subst (λ (x : N). next x w q.rest) (sym same.value) q.is_next in
    each p.number v w p.rest more p.is_next (subst (next p.number w) (sym rest) at_v)
