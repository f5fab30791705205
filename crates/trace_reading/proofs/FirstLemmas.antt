-- A text has one first line that is out of form.
use Rattle.std.proofs.Common.{◌≡◌, refl, sym, ap, subst, ◌∙◌, ℕ, ◌+◌, List, [], ◌∷◌, ◌++◌, length}
use Rattle.std.specs.List.{AllByRecursion}
use Rattle.std.proofs.lemmas.List.{append_assoc}
use Rattle.trace_reading.specs.Lines.{Lacks}
use Rattle.system_model.specs.Text.{lines_text}
use Rattle.trace_reading.specs.Faults.{Begins, IsFirstFault, Wrong}
use Rattle.trace_reading.specs.Faults.Wrong.{NoText, Unended}
use Rattle.trace_reading.proofs.LineLemmas.{one_cut}
use Rattle.trace_reading.proofs.TraceLemmas.{begins_free}

-- the lines go on with this one, with which the bytes after them begin
record Onward (before : List (List ℕ)) (after : List ℕ) (longer : List (List ℕ)) : Type 0 where
  line : List ℕ
  more : List (List ℕ)
  rest : List ℕ
  lines : longer ≡ before ++ (line ∷ more)
  cut : after ≡ line ++ (10 ∷ rest)
  free : Lacks 10 line

-- of two prefixes of a text by whole lines one is the other, or goes on after it
data Prefixes (a : List (List ℕ)) (x : List ℕ) (b : List (List ℕ)) (y : List ℕ) : Type 0 where
  Same : a ≡ b → Prefixes a x b y
  Before : Onward a x b → Prefixes a x b y
  After : Onward b y a → Prefixes a x b y

text_after : (b : List ℕ) (bs : List (List ℕ)) (y : List ℕ) → lines_text (b ∷ bs) ++ y ≡ b ++ (10 ∷ (lines_text bs ++ y))
text_after b bs y = append_assoc b (10 ∷ lines_text bs) y

with_line : (c : List ℕ) (a : List (List ℕ)) (x : List ℕ) (b : List (List ℕ)) → Onward a x b → Onward (c ∷ a) x (c ∷ b)
with_line c a x b o = record { line = o.line; more = o.more; rest = o.rest; lines = ap (λ (ls : List (List ℕ)). c ∷ ls) o.lines; cut = o.cut; free = o.free }

one_more : (a b : List ℕ) (ms : List (List ℕ)) (x : List ℕ) (bs : List (List ℕ)) (y : List ℕ) → a ≡ b → Prefixes ms x bs y → Prefixes (a ∷ ms) x (b ∷ bs) y
one_more a b ms x bs y e (Same s) = Same (cc (e, s))
one_more a b ms x bs y e (Before o) = Before (subst (λ (c : List ℕ). Onward (a ∷ ms) x (c ∷ bs)) e (with_line a ms x bs o))
one_more a b ms x bs y e (After o) = After (subst (λ (c : List ℕ). Onward (b ∷ bs) y (c ∷ ms)) (sym e) (with_line b bs y ms o))

prefixes : (ms : List (List ℕ)) (x : List ℕ) (bs : List (List ℕ)) (y : List ℕ) → AllByRecursion (Lacks 10) ms → AllByRecursion (Lacks 10) bs → lines_text ms ++ x ≡ lines_text bs ++ y → Prefixes ms x bs y
prefixes [] x [] y fa fb e = Same refl
prefixes [] x (b ∷ bs) y fa fb e = Before (record { line = b; more = bs; rest = lines_text bs ++ y; lines = refl; cut = e ∙ text_after b bs y; free = fb.0 })
prefixes (a ∷ ms) x [] y fa fb e = After (record { line = a; more = ms; rest = lines_text ms ++ x; lines = refl; cut = sym e ∙ text_after a ms x; free = fa.0 })
prefixes (a ∷ ms) x (b ∷ bs) y fa fb e =
    let same = one_cut 10 a b (lines_text ms ++ x) (lines_text bs ++ y) fa.0 fb.0 (sym (text_after a ms x) ∙ e ∙ text_after b bs y) in
    one_more a b ms x bs y same.0 (prefixes ms x bs y fa.1 fb.1 same.1)

has_it : (xs ys : List ℕ) → Lacks 10 (xs ++ (10 ∷ ys)) → ⊥
has_it [] ys free = free.0 refl
has_it (x ∷ xs) ys free = has_it xs ys free.1

begins_too : (before : List (List ℕ)) (line : List ℕ) (more longer : List (List ℕ)) → longer ≡ before ++ (line ∷ more) → Begins longer → Begins (before ++ (line ∷ []))
begins_too before line more longer e b = record {
  trace = b.trace;
  form = b.form;
  more = more ++ b.more;
  parts = b.parts ∙ ap (λ (ls : List (List ℕ)). ls ++ b.more) e ∙ append_assoc before (line ∷ more) b.more ∙ sym (append_assoc before (line ∷ []) (more ++ b.more));
}

-- what is wrong after some lines is wrong in each text that goes on after them
no_longer : (before : List (List ℕ)) (after : List ℕ) (longer : List (List ℕ)) → Wrong before after → Begins longer → Onward before after longer → ⊥
no_longer before after longer (NoText line rest cut free none) b o =
    let same = one_cut 10 o.line line o.rest rest o.free free (sym o.cut ∙ cut) in
    none (subst (λ (l : List ℕ). Begins (before ++ (l ∷ []))) same.0 (begins_too before o.line o.more longer o.lines b))
no_longer before after longer (Unended free none) b o = has_it o.line o.rest (subst (Lacks 10) o.cut free)

same_length : (n m : ℕ) (a b : List (List ℕ)) → n ≡ length a + 1 → m ≡ length b + 1 → a ≡ b → n ≡ m
same_length n m a b x y e = x ∙ ap (λ (ls : List (List ℕ)). length ls + 1) e ∙ sym y

pub one_fault : (bytes : List ℕ) (n m : ℕ) → IsFirstFault bytes n → IsFirstFault bytes m → n ≡ m
one_fault bytes n m f g = by (prefixes f.before f.after g.before g.after (begins_free f.before f.good) (begins_free g.before g.good) (sym f.parts ∙ g.parts))
  where
    by : Prefixes f.before f.after g.before g.after → n ≡ m
    by (Same s) = same_length n m f.before g.before f.number g.number s
    by (Before o) = absurd (no_longer f.before f.after g.before f.wrong g.good o)
    by (After o) = absurd (no_longer g.before g.after f.before g.wrong f.good o)
