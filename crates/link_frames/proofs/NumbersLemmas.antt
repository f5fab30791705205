-- The numbers that a frame begins with, read one after another.
use Rattle.std.proofs.Common.{◌≡◌, ℕ, zero, suc, ◌+◌, ◌-◌, ◌<◌, List, [], ◌∷◌, ◌++◌, length, take, drop, set, refl, sym, ap, subst, ◌∙◌, arith}
use Rattle.std.proofs.lemmas.List.{length-append, length-take, take_more_set}
use Rattle.exact_parts.specs.declared.field.Spans.{Spans}
use Rattle.link_frames.specs.declared.layout.Form.{Form}
use Rattle.exact_parts.specs.declared.taken.Taken.{Taken}
use Rattle.exact_parts.specs.Field.{Field, IsSane}
use Rattle.link_frames.specs.Layout.{size_at, spans_at}
use Rattle.link_frames.specs.Numbers.{Reads}
use Rattle.exact_parts.specs.Taking.{After, AreSingle, Breaks, Gets, IsPrefix, Takes, moved}
use Rattle.exact_parts.proofs.CallerLemmas.{Followed, after_single, field_filled, field_single, first_bad, first_more, next_takes}
use Rattle.link_frames.proofs.RowLemmas.{spans_sane}

none_single : (before : List ℕ) → AreSingle (λ (all bytes : List ℕ). (all ≡ before) × (bytes ≡ []))
none_single before v w xs more p q =
    let lens : length xs + length more ≡ 0 = sym (length-append xs more) ∙ ap length q.1 in
    (p.0 ∙ sym q.0, omega (arith, lens))

pub reads_single : (form : Form) (left : ℕ) (before : List ℕ) → AreSingle (Reads form left before)
reads_single form zero before = none_single before
reads_single form (suc left) before =
    after_single (Field (size_at (length before)) (spans_at form before)) (λ (n : ℕ). Reads form left (before ++ (n ∷ []))) (field_single (size_at (length before)) (spans_at form before)) (λ n. reads_single form left (before ++ (n ∷ [])))

pub record Filled (form : Form) (left : ℕ) (before : List ℕ) : Type 0 where
  pub all : List ℕ
  pub bytes : List ℕ
  pub reads : Reads form left before all bytes

filled : (form : Form) (left : ℕ) (before : List ℕ) → length before + left ≡ 7 → Filled form left before
filled form zero before e = record { all = before; bytes = []; reads = (refl, refl) }
filled form (suc left) before e =
    let spans = spans_at form before in
    let size = size_at (length before) in
    let f = field_filled size spans (spans_sane form before (omega arith)) in
    let n = spans.one.low in
    let r = filled form left (before ++ (n ∷ [])) (omega (arith, length-append before (n ∷ []))) in
    record { all = r.all; bytes = f.0 ++ r.bytes; reads = record { number = n; prefix = f.0; rest = r.bytes; is_first = f.1; is_next = r.reads; both = refl } }

pub filled_7 : (form : Form) → Filled form 7 []
filled_7 form = filled form 7 [] refl

pub followed : (form : Form) (left : ℕ) (before : List ℕ) → length before + suc left ≡ 7 → Followed (λ (n : ℕ). Reads form left (before ++ (n ∷ [])))
followed form left before e =
    let each : (n : ℕ) → Filled form left (before ++ (n ∷ [])) = λ n. filled form left (before ++ (n ∷ [])) (omega (arith, length-append before (n ∷ []))) in
    record { value = λ n. (each n).all; bytes = λ n. (each n).bytes; spelled = λ n. (each n).reads }

-- ---- the walk over the numbers

abbrev One : Form → List ℕ → ℕ → List ℕ → Type 0
One form before = Field (size_at (length before)) (spans_at form before)

abbrev Others : Form → ℕ → List ℕ → ℕ → List ℕ → List ℕ → Type 0
Others form left before n = Reads form left (before ++ (n ∷ []))

-- with the place in the seven numbers
abbrev ReadsFrom : Form → ℕ → List ℕ → List ℕ → List ℕ → Type 0
ReadsFrom form place numbers = Reads form (7 - place) (take place numbers)

len_before : (place : ℕ) (numbers : List ℕ) → place < 7 → length numbers ≡ 7 → length (take place numbers) ≡ place
len_before place numbers lt len = omega (arith, length-take place numbers)

pub sane_at : (form : Form) (place : ℕ) (numbers : List ℕ) (size : ℕ) (spans : Spans) → place < 7 → length numbers ≡ 7
    → size ≡ size_at place → spans ≡ spans_at form (take place numbers) → IsSane size spans
sane_at form place numbers size spans lt len size_is spans_is =
    let before = take place numbers in
    let there : length before ≡ place = len_before place numbers lt len in
    let size_so : size ≡ size_at (length before) = size_is ∙ ap size_at (sym there) in
    rw (size_so, spans_is) (spans_sane form before (omega (arith, there)))

one_is : (form : Form) (place : ℕ) (numbers : List ℕ) (size : ℕ) (spans : Spans) → place < 7 → length numbers ≡ 7
    → size ≡ size_at place → spans ≡ spans_at form (take place numbers) → Field size spans ≡ One form (take place numbers)
one_is form place numbers size spans lt len size_is spans_is =
    let size_so : size ≡ size_at (length (take place numbers)) = size_is ∙ ap size_at (sym (len_before place numbers lt len)) in
    rw (size_so, spans_is) refl

from_is : (form : Form) (place : ℕ) (numbers : List ℕ) → place < 7 → ReadsFrom form place numbers ≡ After (One form (take place numbers)) (Others form (7 - (place + 1)) (take place numbers))
from_is form place numbers lt =
    let left : 7 - place ≡ suc (7 - (place + 1)) = omega arith in
    ap (λ (n : ℕ). Reads form n (take place numbers)) left

next_is : (form : Form) (place : ℕ) (numbers : List ℕ) (value : ℕ) → place < 7 → length numbers ≡ 7
    → ReadsFrom form (place + 1) (set numbers place value) ≡ Others form (7 - (place + 1)) (take place numbers) value
next_is form place numbers value lt len =
    ap (λ (before : List ℕ). Reads form (7 - (place + 1)) before) (take_more_set numbers place value (omega (arith, len)))

pub from_next : (form : Form) (place : ℕ) (numbers : List ℕ) (size : ℕ) (spans : Spans) (bytes tail : List ℕ) (value m : ℕ) (rest result : Taken (List ℕ)) → place < 7 → length numbers ≡ 7
    → size ≡ size_at place → spans ≡ spans_at form (take place numbers) → Gets (Field size spans) bytes value m
    → tail ≡ drop m bytes → Takes (ReadsFrom form (place + 1) (set numbers place value)) tail rest → result ≡ moved m rest → Takes (ReadsFrom form place numbers) bytes result
from_next form place numbers size spans bytes tail value m rest result lt len size_is spans_is got tail_is taken result_is =
    let before = take place numbers in
    let first : Gets (One form before) bytes value m = subst (λ (p : ℕ → List ℕ → Type 0). Gets p bytes value m) (one_is form place numbers size spans lt len size_is spans_is) got in
    let after : Takes (Others form (7 - (place + 1)) before value) tail rest = subst (λ (p : List ℕ → List ℕ → Type 0). Takes p tail rest) (next_is form place numbers value lt len) taken in
    let there : Takes (Others form (7 - (place + 1)) before value) (drop m bytes) rest = subst (λ (t : List ℕ). Takes (Others form (7 - (place + 1)) before value) t rest) tail_is after in
    let all = next_takes (One form before) (Others form (7 - (place + 1)) before) (field_single (size_at (length before)) (spans_at form before)) bytes value m rest first there in
    let moved_all : Takes (ReadsFrom form place numbers) bytes (moved m rest) = subst (λ (p : List ℕ → List ℕ → Type 0). Takes p bytes (moved m rest)) (sym (from_is form place numbers lt)) all in
    subst (λ (t : Taken (List ℕ)). Takes (ReadsFrom form place numbers) bytes t) (sym result_is) moved_all

pub from_more : (form : Form) (place : ℕ) (numbers : List ℕ) (size : ℕ) (spans : Spans) (bytes : List ℕ) → place < 7 → length numbers ≡ 7
    → size ≡ size_at place → spans ≡ spans_at form (take place numbers) → IsPrefix (Field size spans) bytes → IsPrefix (ReadsFrom form place numbers) bytes
from_more form place numbers size spans bytes lt len size_is spans_is prefix =
    let before = take place numbers in
    let first : IsPrefix (One form before) bytes = subst (λ (p : ℕ → List ℕ → Type 0). IsPrefix p bytes) (one_is form place numbers size spans lt len size_is spans_is) prefix in
    subst (λ (p : List ℕ → List ℕ → Type 0). IsPrefix p bytes) (sym (from_is form place numbers lt))
    (first_more (One form before) (Others form (7 - (place + 1)) before) (followed form (7 - (place + 1)) before (omega (arith, len_before place numbers lt len))) bytes first)

pub from_bad : (form : Form) (place : ℕ) (numbers : List ℕ) (size : ℕ) (spans : Spans) (bytes : List ℕ) (at : ℕ) → place < 7 → length numbers ≡ 7
    → size ≡ size_at place → spans ≡ spans_at form (take place numbers) → Breaks (Field size spans) bytes at → Breaks (ReadsFrom form place numbers) bytes at
from_bad form place numbers size spans bytes at lt len size_is spans_is breaks =
    let before = take place numbers in
    let first : Breaks (One form before) bytes at = subst (λ (p : ℕ → List ℕ → Type 0). Breaks p bytes at) (one_is form place numbers size spans lt len size_is spans_is) breaks in
    subst (λ (p : List ℕ → List ℕ → Type 0). Breaks p bytes at) (sym (from_is form place numbers lt))
    (first_bad (One form before) (Others form (7 - (place + 1)) before) (field_single (size_at (length before)) (spans_at form before)) (followed form (7 - (place + 1)) before (omega (arith, len_before place numbers lt len))) bytes at first)
