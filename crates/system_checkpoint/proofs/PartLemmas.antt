-- Parts of a checkpoint: each is of one value and no proper prefix of another, and each can stand.
use Rattle.std.proofs.Common.{◌≡◌, ℕ, zero, suc, ◌+◌, ◌-◌, ◌<◌, ◌≤◌, ◌^◌, Bool, true, false, List, [], ◌∷◌, ◌++◌, length, take, drop, get_or, refl, sym, ap, subst, ◌∙◌, arith, inl, inr}
use Rattle.std.specs.Prelude.{◌==◌, if◌then◌else◌}
use Rattle.std.proofs.lemmas.Bool.{cases_lt}
use Rattle.std.proofs.lemmas.List.{length-append, length-take, length-drop, append-nil, nil_from_length, take_all, take_more, take-append-drop}
use Rattle.value_types.specs.declared.values.PortType.{PortType}
use Rattle.value_types.specs.declared.values.PortType.TheVariants.{Int8, UInt8, Int16, UInt16, Int32, UInt32, Int64, UInt64, Boolean, Enumeration, Clock}
use Rattle.exact_parts.specs.declared.field.Spans.{Spans}
use Rattle.exact_parts.specs.declared.taken.Taken.{Taken}
use Rattle.exact_parts.specs.declared.taken.Taken.TheVariants.{Got, NeedMore, Bad}
use Rattle.exact_parts.specs.Taking.{After, AreSingle, Breaks, Gets, IsPrefix, Takes, end_of, moved}
use Rattle.exact_parts.specs.Field.{AreBytes, Field, InSpans, IsSane}
use Rattle.exact_parts.specs.Each.{Block, IsText, Made}
use Rattle.exact_parts.proofs.CallerLemmas.{HasSome, LeadsTo, after_single, are_bytes, field_filled, field_single, kept_single, led_some, next_takes, taken_bytes}
use Rattle.system_checkpoint.specs.Parts.{Known, Low, Nothing, Optional, Shift, State, Times, Wide, Word, between, clock_times, joined, low_span, option_of, spans_after, words}

-- ---- in general

tail_of : (bytes : List ℕ) (n : ℕ) → take (length bytes - n) (drop n bytes) ≡ drop n bytes
tail_of bytes n = take_all _ _ (omega (arith, length-drop n bytes))

-- what is told of lies within the bytes
pub ends_within : {V : Type 0} (frame : V → List ℕ → Type 0) (bytes : List ℕ) (taken : Taken V) → Takes frame bytes taken → end_of taken ≤ length bytes
ends_within frame bytes (Got v n) h = h.within
ends_within frame bytes NeedMore h = omega arith
ends_within frame bytes (Bad at) h = (let w = h.within in omega (arith, w))

-- what was taken of the bytes after some
pub taken_after : {V : Type 0} (frame : V → List ℕ → Type 0) (bytes after : List ℕ) (n : ℕ) (taken : Taken V) → after ≡ drop n bytes → Takes frame after taken → Takes frame (take (length bytes - n) (drop n bytes)) taken
taken_after frame bytes after n taken is h = subst (λ xs. Takes frame xs taken) (is ∙ sym (tail_of bytes n)) h

-- the first is there, and what was taken after it is what is answered
pub then_takes : {N V : Type 0} (first : N → List ℕ → Type 0) (next : N → V → List ℕ → Type 0) → AreSingle first → (bytes : List ℕ) (n : N) (m : ℕ) (rest answer : Taken V) →
    Gets first bytes n m → Takes (next n) (take (length bytes - m) (drop m bytes)) rest → answer ≡ moved m rest → Takes (After first next) bytes answer
then_takes first next single bytes n m rest answer got h is =
    subst (λ t. Takes (After first next) bytes t) (sym is)
    (next_takes first next single bytes n m rest got (subst (λ xs. Takes (next n) xs rest) (tail_of bytes m) h))

pub field_some : (size : ℕ) (spans : Spans) → IsSane size spans → HasSome (Field size spans)
field_some size spans sane =
    let f = field_filled size spans sane in
    record { value = spans.one.low; bytes = f.0; spelled = f.1 }

pub made_some : {V W : Type 0} (part : V → List ℕ → Type 0) (make : V → W) → HasSome part → HasSome (Made part make)
made_some part make some = record { value = make some.value; bytes = some.bytes; spelled = record { value = some.value; is = refl; spelled = some.spelled } }

-- ---- spans

pub record IsWithin (low high n : ℕ) : Type 0 where
  pub from : low ≤ n
  pub up_to : n ≤ high

pub within : (low high n : ℕ) → InSpans (between low high) n → IsWithin low high n
within low high n (inl s) = record { from = s.from; up_to = s.up_to }
within low high n (inr s) = record { from = s.from; up_to = s.up_to }

pub in_between : (low high n : ℕ) → low ≤ n → n ≤ high → InSpans (between low high) n
in_between low high n le ge = inl (record { from = le; up_to = ge })

pub sane_8 : (low high : ℕ) → low ≤ high → low < 2 ^ 64 → IsSane 8 (between low high)
sane_8 low high le lt = record { one = le; other = le; fits = omega (arith, lt) }

pub flags_sane : (most : ℕ) → IsSane 1 (between 0 most)
flags_sane most = record { one = omega arith; other = omega arith; fits = omega arith }

pub length_sane : (n : ℕ) → n < 2 ^ 32 → IsSane 4 (between n n)
length_sane n h = record { one = omega arith; other = omega arith; fits = omega (arith, h) }

pub states_sane : IsSane 4 (between 0 (2 ^ 20))
states_sane = record { one = omega arith; other = omega arith; fits = omega arith }

none_sane : IsSane 8 (between 0 0)
none_sane = sane_8 0 0 (omega arith) (omega arith)

if_sane : (b : Bool) (spans : Spans) → IsSane 8 spans → IsSane 8 (if b then spans else between 0 0)
if_sane true spans h = h
if_sane false spans h = none_sane

pub after_sane : (spans : Spans) (flag : ℕ) → IsSane 8 spans → IsSane 8 (spans_after spans flag)
after_sane spans flag h = if_sane (flag == 1) spans h

pub words_sane : (kind : PortType) → IsSane 8 (words kind)
words_sane Int8 = record { one = omega arith; other = omega arith; fits = omega arith }
words_sane UInt8 = record { one = omega arith; other = omega arith; fits = omega arith }
words_sane Int16 = record { one = omega arith; other = omega arith; fits = omega arith }
words_sane UInt16 = record { one = omega arith; other = omega arith; fits = omega arith }
words_sane Int32 = record { one = omega arith; other = omega arith; fits = omega arith }
words_sane UInt32 = record { one = omega arith; other = omega arith; fits = omega arith }
words_sane Int64 = record { one = omega arith; other = omega arith; fits = omega arith }
words_sane UInt64 = record { one = omega arith; other = omega arith; fits = omega arith }
words_sane Boolean = record { one = omega arith; other = omega arith; fits = omega arith }
words_sane Enumeration = record { one = omega arith; other = omega arith; fits = omega arith }
words_sane Clock = record { one = omega arith; other = omega arith; fits = omega arith }

least_sane : (b : Bool) (least : ℕ) → least ≤ 1 → IsSane 8 (between (if b then least else 0) (2 ^ 64 - 1))
least_sane true least le = sane_8 least (2 ^ 64 - 1) (omega (arith, le)) (omega (arith, le))
least_sane false least le = sane_8 0 (2 ^ 64 - 1) (omega arith) (omega arith)

pub low_sane : (least high : ℕ) → least ≤ 1 → IsSane 8 (low_span least high)
low_sane least high le = (elim (high == 2 ^ 62) as (λ b. IsSane 8 (if b then between 0 0 else between (if high == 0 then least else 0) (2 ^ 64 - 1))) [
  | true ↦ none_sane
  | false ↦ least_sane (high == 0) least le
])

-- ---- a number or none

word_single : (spans : Spans) (flag : ℕ) → AreSingle (Word spans flag)
word_single spans flag = kept_single (Field 8 (spans_after spans flag)) (option_of flag) (field_single 8 (spans_after spans flag))

pub optional_single : (most : ℕ) (spans : Spans) → AreSingle (Optional most spans)
optional_single most spans = after_single (Field 1 (between 0 most)) (Word spans) (field_single 1 (between 0 most)) (word_single spans)

pub flag_leads : (most : ℕ) (spans : Spans) → IsSane 8 spans → LeadsTo (Field 1 (between 0 most)) (Word spans)
flag_leads most spans sane = λ flag bytes h. made_some (Field 8 (spans_after spans flag)) (option_of flag) (field_some 8 (spans_after spans flag) (after_sane spans flag sane))

pub optional_some : (most : ℕ) (spans : Spans) → IsSane 8 spans → HasSome (Optional most spans)
optional_some most spans sane = led_some (Field 1 (between 0 most)) (Word spans) (field_some 1 (between 0 most) (flags_sane most)) (flag_leads most spans sane)

-- ---- nothing

pub text_single : (text : List ℕ) → AreSingle (IsText text)
text_single text v w xs more p q =
    let lens : length xs + length more ≡ length text = sym (length-append xs more) ∙ ap length q in
    let len : length xs ≡ length text = ap length p in
    (refl, omega (arith, lens, len))

pub text_some : (text : List ℕ) → HasSome (IsText text)
text_some text = record { value = tt; bytes = text; spelled = refl }

pub nothing_single : {V : Type 0} (value : V) → AreSingle (Nothing value)
nothing_single {V} value = kept_single (IsText []) (λ (nothing : Unit {0}). value) (text_single [])

pub nothing_some : {V : Type 0} (value : V) → HasSome (Nothing value)
nothing_some {V} value = made_some (IsText []) (λ (nothing : Unit {0}). value) (text_some [])

pub nothing_got : {V : Type 0} (value : V) (bytes : List ℕ) → Takes (Nothing value) bytes (Got value 0)
nothing_got value bytes = record { within = omega arith; spelled = record { value = tt; is = refl; spelled = refl } }

-- ---- texts that are known

-- the bytes so far are the text's
pub text_more : (text bytes : List ℕ) (place : ℕ) → place < length text → place < length bytes → take place bytes ≡ take place text → get_or bytes place 0 ≡ get_or text place 0 → take (place + 1) bytes ≡ take (place + 1) text
text_more text bytes place lt lt2 same here =
    take_more bytes place 0 lt2 ∙ ap (λ xs. xs ++ get_or bytes place 0 ∷ []) same ∙ ap (λ x. take place text ++ x ∷ []) here ∙ sym (take_more text place 0 lt)

pub text_prefix : (text bytes : List ℕ) (place : ℕ) → place < length text → place ≡ length bytes → take place bytes ≡ take place text → IsPrefix (IsText text) bytes
text_prefix text bytes place lt e same =
    let whole : take place bytes ≡ bytes = take_all place bytes (omega (arith, e)) in
    record { value = tt; more = drop place text; spelled = ap (λ xs. xs ++ drop place text) (sym whole ∙ same) ∙ take-append-drop place text; goes_on = omega (arith, length-drop place text) }

get_left : (xs ys : List ℕ) (n : ℕ) → n < length xs → get_or (take (n + 1) xs ++ ys) n 0 ≡ get_or xs n 0
get_left [] ys n lt = absurd (omega (arith, lt))
get_left (x ∷ xs) ys zero lt = refl
get_left (x ∷ xs) ys (suc n) lt =
    let one : suc n + 1 ≡ suc (n + 1) = omega arith in
    ap (λ k. get_or (take k (x ∷ xs) ++ ys) (suc n) 0) one ∙ get_left xs ys n (omega (arith, lt))

text_breaks : (text bytes : List ℕ) (place : ℕ) → place < length text → place < length bytes → take place bytes ≡ take place text → (get_or bytes place 0 ≡ get_or text place 0 → ⊥) → Breaks (IsText text) bytes place
text_breaks text bytes place lt lt2 same other = record {
  within = lt2;
  prefix = text_prefix text (take place bytes) place lt (omega (arith, length-take place bytes)) (take_all place (take place bytes) (omega (arith, length-take place bytes)) ∙ same);
  none = λ b.
      let there : get_or (take (place + 1) bytes ++ b.more) place 0 ≡ get_or text place 0 = ap (λ xs. get_or xs place 0) b.spelled in
      let left : get_or (take (place + 1) bytes ++ b.more) place 0 ≡ get_or bytes place 0 = get_left bytes b.more place lt2 in
      other (sym left ∙ there);
}

less : (m n : ℕ) → m ≤ n → (m ≡ n → ⊥) → m < n
less m n le ne =
    elim (cases_lt m n) [
      | inl lt ↦ lt
      | inr ge ↦ absurd (ne (omega (arith, le, ge)))
    ]

pub text_bad : (text bytes : List ℕ) (place : ℕ) → place < length text → place ≤ length bytes → (place ≡ length bytes → ⊥) → take place bytes ≡ take place text → (get_or bytes place 0 ≡ get_or text place 0 → ⊥) → Breaks (IsText text) bytes place
text_bad text bytes place lt le other same here = text_breaks text bytes place lt (less place (length bytes) le other) same here

pub known_single : (text : List ℕ) → AreSingle (Known text)
known_single text = after_single (Field 4 (between (length text) (length text))) (λ (n : ℕ). IsText text) (field_single 4 (between (length text) (length text))) (λ n. text_single text)

pub size_leads : (text : List ℕ) → LeadsTo (Field 4 (between (length text) (length text))) (λ (n : ℕ). IsText text)
size_leads text = λ n bytes h. text_some text

pub known_some : (text : List ℕ) → length text < 2 ^ 32 → HasSome (Known text)
known_some text short = led_some (Field 4 (between (length text) (length text))) (λ (n : ℕ). IsText text) (field_some 4 (between (length text) (length text)) (length_sane (length text) short)) (size_leads text)

-- ---- a state

abbrev zeros : ℕ → List ℕ
zeros zero = []
zeros (suc n) = 0 ∷ zeros n

bytes_zeros : (n : ℕ) → AreBytes (zeros n)
bytes_zeros zero = tt
bytes_zeros (suc n) = (omega arith, bytes_zeros n)

length_zeros : (n : ℕ) → length (zeros n) ≡ n
length_zeros zero = refl
length_zeros (suc n) = ap suc (length_zeros n)

bytes_append : (xs ys : List ℕ) → AreBytes xs → AreBytes ys → AreBytes (xs ++ ys)
bytes_append [] ys h k = k
bytes_append (x ∷ xs) ys h k = (h.0, bytes_append xs ys h.1 k)

block_single : (size : ℕ) → AreSingle (Block size)
block_single size v w xs more p q =
    let len : length more ≡ 0 = omega (arith, p.size_is, q.size_is, length-append xs more) in
    let none : more ≡ [] = nil_from_length more len in
    (p.is ∙ sym (append-nil xs) ∙ ap (λ t. xs ++ t) (sym none) ∙ sym q.is, len)

block_some : (size : ℕ) → HasSome (Block size)
block_some size = record { value = zeros size; bytes = zeros size; spelled = record { is = refl; size_is = length_zeros size; are_bytes = bytes_zeros size } }

pub block_got : (size : ℕ) (bytes : List ℕ) → size ≤ length bytes → AreBytes bytes → Gets (Block size) bytes (take size bytes) size
block_got size bytes le are = record { within = le; spelled = record { is = refl; size_is = omega (arith, length-take size bytes, le); are_bytes = taken_bytes size bytes are } }

pub block_prefix : (size : ℕ) (bytes : List ℕ) → length bytes < size → AreBytes bytes → IsPrefix (Block size) bytes
block_prefix size bytes lt are =
    let left = size - length bytes in
    record {
      value = bytes ++ zeros left;
      more = zeros left;
      spelled = record { is = refl; size_is = omega (arith, length-append bytes (zeros left), length_zeros left, lt); are_bytes = bytes_append bytes (zeros left) are (bytes_zeros left) };
      goes_on = omega (arith, length_zeros left, lt);
    }

pub state_single : AreSingle State
state_single = after_single (Field 4 (between 0 (2 ^ 20))) Block (field_single 4 (between 0 (2 ^ 20))) block_single

pub state_leads : LeadsTo (Field 4 (between 0 (2 ^ 20))) Block
state_leads = λ n bytes h. block_some n

pub state_some : HasSome State
state_some = led_some (Field 4 (between 0 (2 ^ 20))) Block (field_some 4 (between 0 (2 ^ 20)) states_sane) state_leads

-- ---- the timing of a Clock

low_single : (least high : ℕ) → AreSingle (Low least high)
low_single least high = kept_single (Field 8 (low_span least high)) (joined high) (field_single 8 (low_span least high))

pub high_leads : (least : ℕ) → least ≤ 1 → LeadsTo (Field 8 (between 0 (2 ^ 62))) (Low least)
high_leads least le = λ high bytes h. made_some (Field 8 (low_span least high)) (joined high) (field_some 8 (low_span least high) (low_sane least high le))

pub wide_single : (least : ℕ) → AreSingle (Wide least)
wide_single least = after_single (Field 8 (between 0 (2 ^ 62))) (Low least) (field_single 8 (between 0 (2 ^ 62))) (low_single least)

wide_some : (least : ℕ) → least ≤ 1 → HasSome (Wide least)
wide_some least le = led_some (Field 8 (between 0 (2 ^ 62))) (Low least) (field_some 8 (between 0 (2 ^ 62)) (sane_8 0 (2 ^ 62) (omega arith) (omega arith))) (high_leads least le)

shift_single : (interval : ℕ) → AreSingle (Shift interval)
shift_single interval = kept_single (Wide 0) (clock_times interval) (wide_single 0)

pub interval_leads : LeadsTo (Wide 1) Shift
interval_leads = λ interval bytes h. made_some (Wide 0) (clock_times interval) (wide_some 0 (omega arith))

pub times_single : AreSingle Times
times_single = after_single (Wide 1) Shift (wide_single 1) shift_single

pub times_some : HasSome Times
times_some = led_some (Wide 1) Shift (wide_some 1 (omega arith)) interval_leads
