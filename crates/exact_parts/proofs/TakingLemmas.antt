-- Only one answer is right, where no frame is a proper prefix of another and a frame is of one value.
use Rattle.std.proofs.Common.{◌≡◌, ℕ, ◌+◌, ◌<◌, ◌≤◌, List, [], ◌++◌, length, take, drop, refl, sym, ap, subst, ◌∙◌, append_assoc, arith, inl, inr}
use Rattle.std.proofs.lemmas.Bool.{cases_lt}
use Rattle.std.proofs.lemmas.List.{take-append-drop, take-take, length-append, append-nil, length-take}
use Rattle.exact_parts.specs.declared.taken.Taken.{Taken}
use Rattle.exact_parts.specs.declared.taken.Taken.TheVariants.{Got, NeedMore, Bad}
use Rattle.exact_parts.specs.Taking.{AreSingle, Begins, IsPrefix, Gets, Breaks, Takes}

-- a prefix of a prefix
rest_of : (m n : ℕ) (bytes more : List ℕ) → m ≤ n → take n bytes ++ more ≡ take m bytes ++ (drop m (take n bytes) ++ more)
rest_of m n bytes more le =
    let cut : take m bytes ++ drop m (take n bytes) ≡ take n bytes = rw (← take-take m n bytes le) (take-append-drop m (take n bytes)) in
    ap (λ (xs : List ℕ). xs ++ more) (sym cut) ∙ append_assoc (take m bytes) (drop m (take n bytes)) more

begins_prefix : {V : Type 0} (frame : V → List ℕ → Type 0) (m n : ℕ) (bytes : List ℕ) → m ≤ n → Begins frame (take n bytes) → Begins frame (take m bytes)
begins_prefix frame m n bytes le b = record {
  value = b.value;
  more = drop m (take n bytes) ++ b.more;
  spelled = subst (frame b.value) (rest_of m n bytes b.more le) b.spelled;
}

pub begins_cut : {V : Type 0} (frame : V → List ℕ → Type 0) (m : ℕ) (bytes : List ℕ) → Begins frame bytes → Begins frame (take m bytes)
begins_cut frame m bytes b = record {
  value = b.value;
  more = drop m bytes ++ b.more;
  spelled = subst (frame b.value) (ap (λ (xs : List ℕ). xs ++ b.more) (sym (take-append-drop m bytes)) ∙ append_assoc (take m bytes) (drop m bytes) b.more) b.spelled;
}

pub begins : {V : Type 0} (frame : V → List ℕ → Type 0) (bytes : List ℕ) → IsPrefix frame bytes → Begins frame bytes
begins frame bytes f = record { value = f.value; more = f.more; spelled = f.spelled }

-- a frame that ends within a prefix of another
pub not_within : {V : Type 0} (frame : V → List ℕ → Type 0) (single : AreSingle frame) (m n : ℕ) (bytes : List ℕ) (v : V) → m ≤ n → frame v (take m bytes) → IsPrefix frame (take n bytes) → ⊥
not_within frame single m n bytes v le spelled f =
    let s = single v f.value (take m bytes) (drop m (take n bytes) ++ f.more) spelled (subst (frame f.value) (rest_of m n bytes f.more le) f.spelled) in
    omega (arith, s.1, length-append (drop m (take n bytes)) f.more, f.goes_on)

pub not_within_all : {V : Type 0} (frame : V → List ℕ → Type 0) (single : AreSingle frame) (m : ℕ) (bytes : List ℕ) (v : V) → frame v (take m bytes) → IsPrefix frame bytes → ⊥
not_within_all frame single m bytes v spelled f =
    let e : bytes ++ f.more ≡ take m bytes ++ (drop m bytes ++ f.more) = ap (λ (xs : List ℕ). xs ++ f.more) (sym (take-append-drop m bytes)) ∙ append_assoc (take m bytes) (drop m bytes) f.more in
    let s = single v f.value (take m bytes) (drop m bytes ++ f.more) spelled (subst (frame f.value) e f.spelled) in
    omega (arith, s.1, length-append (drop m bytes) f.more, f.goes_on)

whole : {V : Type 0} (frame : V → List ℕ → Type 0) (n : ℕ) (bytes : List ℕ) (v : V) → frame v (take n bytes) → Begins frame (take n bytes)
whole frame n bytes v spelled = record { value = v; more = []; spelled = subst (frame v) (sym (append-nil (take n bytes))) spelled }

pub got_breaks : {V : Type 0} (frame : V → List ℕ → Type 0) (single : AreSingle frame) (bytes : List ℕ) (v : V) (size at : ℕ) → Gets frame bytes v size → Breaks frame bytes at → ⊥
got_breaks frame single bytes v size at g b =
    elim (cases_lt at size) [
      | inl lt ↦ b.none (begins_prefix frame (at + 1) size bytes (omega arith) (whole frame size bytes v g.spelled))
      | inr le ↦ not_within frame single size at bytes v le g.spelled b.prefix
    ]

more_breaks : {V : Type 0} (frame : V → List ℕ → Type 0) (bytes : List ℕ) (at : ℕ) → IsPrefix frame bytes → Breaks frame bytes at → ⊥
more_breaks frame bytes at f b = b.none (begins_cut frame (at + 1) bytes (begins frame bytes f))

earlier : {V : Type 0} (frame : V → List ℕ → Type 0) (bytes : List ℕ) (a b : ℕ) → a < b → Breaks frame bytes a → Breaks frame bytes b → ⊥
earlier frame bytes a b lt p q = p.none (begins_prefix frame (a + 1) b bytes (omega arith) (begins frame (take b bytes) q.prefix))

same_place : {V : Type 0} (frame : V → List ℕ → Type 0) (bytes : List ℕ) (a b : ℕ) → Breaks frame bytes a → Breaks frame bytes b → a ≡ b
same_place frame bytes a b p q =
    elim (cases_lt a b) [
      | inl lt ↦ absurd (earlier frame bytes a b lt p q)
      | inr le ↦ elim (cases_lt b a) [
        | inl lt ↦ absurd (earlier frame bytes b a lt q p)
        | inr ge ↦ omega arith
      ]
    ]

-- the longer of two frames at the beginning is the shorter
longer : {V : Type 0} (frame : V → List ℕ → Type 0) (single : AreSingle frame) (bytes : List ℕ) (v w : V) (m n : ℕ) → m ≤ n → Gets frame bytes v m → Gets frame bytes w n → (v ≡ w) × (m ≡ n)
longer frame single bytes v w m n le g h =
    let cut : take n bytes ≡ take m bytes ++ drop m (take n bytes) = rw (← take-take m n bytes le) (sym (take-append-drop m (take n bytes))) in
    let s = single v w (take m bytes) (drop m (take n bytes)) g.spelled (subst (frame w) cut h.spelled) in
    let len : length (take n bytes) ≡ length (take m bytes) + length (drop m (take n bytes)) = ap length cut ∙ length-append (take m bytes) (drop m (take n bytes)) in
    (s.0, omega (arith, len, s.1, length-take m bytes, length-take n bytes, g.within, h.within))

same_got : {V : Type 0} (frame : V → List ℕ → Type 0) (single : AreSingle frame) (bytes : List ℕ) (v w : V) (m n : ℕ) → Gets frame bytes v m → Gets frame bytes w n → (v ≡ w) × (m ≡ n)
same_got frame single bytes v w m n g h =
    elim (cases_lt m n) [
      | inl lt ↦ longer frame single bytes v w m n (omega arith) g h
      | inr le ↦ let s = longer frame single bytes w v n m le h g in (sym s.0, sym s.1)
    ]

pub only_one : {V : Type 0} (frame : V → List ℕ → Type 0) (single : AreSingle frame) (bytes : List ℕ) (x y : Taken V) → Takes frame bytes x → Takes frame bytes y → x ≡ y
only_one frame single bytes (Got v m) (Got w n) p q = let s = same_got frame single bytes v w m n p q in rw (s.0, s.1) refl
only_one frame single bytes (Got v m) NeedMore p q = absurd (not_within_all frame single m bytes v p.spelled q)
only_one frame single bytes (Got v m) (Bad at) p q = absurd (got_breaks frame single bytes v m at p q)
only_one frame single bytes NeedMore (Got w n) p q = absurd (not_within_all frame single n bytes w q.spelled p)
only_one frame single bytes NeedMore NeedMore p q = refl
only_one frame single bytes NeedMore (Bad at) p q = absurd (more_breaks frame bytes at p q)
only_one frame single bytes (Bad at) (Got w n) p q = absurd (got_breaks frame single bytes w n at q p)
only_one frame single bytes (Bad at) NeedMore p q = absurd (more_breaks frame bytes at q p)
only_one frame single bytes (Bad at) (Bad to) p q = rw (same_place frame bytes at to p q) refl
