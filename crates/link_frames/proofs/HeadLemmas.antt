-- The head of a frame and the numbers that are read from it.
use Rattle.std.proofs.Common.{◌≡◌, ℕ, zero, suc, ◌-◌, ◌<◌, ◌≤◌, ◌^◌, inl, inr, List, [], ◌∷◌, ◌++◌, length, refl, sym, ap, ◌∙◌, append-nil, arith}
use Rattle.std.proofs.lemmas.Bool.{cases_lt}
use Rattle.std.specs.Int.{w32, w64, to_be_bytes}
use Rattle.fmi_calls.specs.KindFacts.{facts_of}
use Rattle.fmi_calls.specs.declared.call.Kind.{Kind}
use Rattle.fmi_calls.specs.declared.call.Kind.TheVariants as K
use Rattle.link_frames.specs.declared.head.Head.{Head}
use Rattle.link_frames.specs.declared.layout.Form.{Form}
use Rattle.exact_parts.specs.Field.{InSpans}
use Rattle.exact_parts.proofs.CallerLemmas.{field_1, field_4, field_8, only_1, only_4, only_8}
use Rattle.link_frames.specs.Head.{InRange, head, numbers_of, spelling}
use Rattle.link_frames.specs.Layout.{any, between, kind_at, kind_numbers, kinds_of, row_by, zero_only}
use Rattle.link_frames.specs.Numbers.{Reads}

-- ---- numbers of kinds

pub number_again : (kind : Kind) → kind_at (facts_of kind).number ≡ kind
number_again K.Instantiate = refl
number_again K.EnterInitialization = refl
number_again K.ExitInitialization = refl
number_again K.EnterEvent = refl
number_again K.EnterStep = refl
number_again K.DoStep = refl
number_again K.Update = refl
number_again K.Get = refl
number_again K.Set = refl
number_again K.GetClock = refl
number_again K.SetClock = refl
number_again K.GetInterval = refl
number_again K.GetShift = refl
number_again K.Save = refl
number_again K.Restore = refl
number_again K.Free = refl
number_again K.Terminate = refl
number_again K.FreeInstance = refl
number_again K.Serialize = refl
number_again K.Deserialize = refl

pub record IsKindNumber (n : ℕ) : Type 0 where
  pub from : 1 ≤ n
  pub up_to : n ≤ 21
  pub named : n ≡ 19 → ⊥

pub number_in : (kind : Kind) → IsKindNumber (facts_of kind).number
number_in K.Instantiate = record { from = omega arith; up_to = omega arith; named = λ e. absurd (omega (arith, e)) }
number_in K.EnterInitialization = record { from = omega arith; up_to = omega arith; named = λ e. absurd (omega (arith, e)) }
number_in K.ExitInitialization = record { from = omega arith; up_to = omega arith; named = λ e. absurd (omega (arith, e)) }
number_in K.EnterEvent = record { from = omega arith; up_to = omega arith; named = λ e. absurd (omega (arith, e)) }
number_in K.EnterStep = record { from = omega arith; up_to = omega arith; named = λ e. absurd (omega (arith, e)) }
number_in K.DoStep = record { from = omega arith; up_to = omega arith; named = λ e. absurd (omega (arith, e)) }
number_in K.Update = record { from = omega arith; up_to = omega arith; named = λ e. absurd (omega (arith, e)) }
number_in K.Get = record { from = omega arith; up_to = omega arith; named = λ e. absurd (omega (arith, e)) }
number_in K.Set = record { from = omega arith; up_to = omega arith; named = λ e. absurd (omega (arith, e)) }
number_in K.GetClock = record { from = omega arith; up_to = omega arith; named = λ e. absurd (omega (arith, e)) }
number_in K.SetClock = record { from = omega arith; up_to = omega arith; named = λ e. absurd (omega (arith, e)) }
number_in K.GetInterval = record { from = omega arith; up_to = omega arith; named = λ e. absurd (omega (arith, e)) }
number_in K.GetShift = record { from = omega arith; up_to = omega arith; named = λ e. absurd (omega (arith, e)) }
number_in K.Save = record { from = omega arith; up_to = omega arith; named = λ e. absurd (omega (arith, e)) }
number_in K.Restore = record { from = omega arith; up_to = omega arith; named = λ e. absurd (omega (arith, e)) }
number_in K.Free = record { from = omega arith; up_to = omega arith; named = λ e. absurd (omega (arith, e)) }
number_in K.Terminate = record { from = omega arith; up_to = omega arith; named = λ e. absurd (omega (arith, e)) }
number_in K.FreeInstance = record { from = omega arith; up_to = omega arith; named = λ e. absurd (omega (arith, e)) }
number_in K.Serialize = record { from = omega arith; up_to = omega arith; named = λ e. absurd (omega (arith, e)) }
number_in K.Deserialize = record { from = omega arith; up_to = omega arith; named = λ e. absurd (omega (arith, e)) }

pub kind_again : (n : ℕ) → IsKindNumber n → (facts_of (kind_at n)).number ≡ n
kind_again zero h = absurd (omega (arith, h.from))
kind_again (suc zero) h = refl
kind_again (suc (suc zero)) h = refl
kind_again (suc (suc (suc zero))) h = refl
kind_again (suc (suc (suc (suc zero)))) h = refl
kind_again (suc (suc (suc (suc (suc zero))))) h = refl
kind_again (suc (suc (suc (suc (suc (suc zero)))))) h = refl
kind_again (suc (suc (suc (suc (suc (suc (suc zero))))))) h = refl
kind_again (suc (suc (suc (suc (suc (suc (suc (suc zero)))))))) h = refl
kind_again (suc (suc (suc (suc (suc (suc (suc (suc (suc zero))))))))) h = refl
kind_again (suc (suc (suc (suc (suc (suc (suc (suc (suc (suc zero)))))))))) h = refl
kind_again (suc (suc (suc (suc (suc (suc (suc (suc (suc (suc (suc zero))))))))))) h = refl
kind_again (suc (suc (suc (suc (suc (suc (suc (suc (suc (suc (suc (suc zero)))))))))))) h = refl
kind_again (suc (suc (suc (suc (suc (suc (suc (suc (suc (suc (suc (suc (suc zero))))))))))))) h = refl
kind_again (suc (suc (suc (suc (suc (suc (suc (suc (suc (suc (suc (suc (suc (suc zero)))))))))))))) h = refl
kind_again (suc (suc (suc (suc (suc (suc (suc (suc (suc (suc (suc (suc (suc (suc (suc zero))))))))))))))) h = refl
kind_again (suc (suc (suc (suc (suc (suc (suc (suc (suc (suc (suc (suc (suc (suc (suc (suc zero)))))))))))))))) h = refl
kind_again (suc (suc (suc (suc (suc (suc (suc (suc (suc (suc (suc (suc (suc (suc (suc (suc (suc zero))))))))))))))))) h = refl
kind_again (suc (suc (suc (suc (suc (suc (suc (suc (suc (suc (suc (suc (suc (suc (suc (suc (suc (suc zero)))))))))))))))))) h = refl
kind_again (suc (suc (suc (suc (suc (suc (suc (suc (suc (suc (suc (suc (suc (suc (suc (suc (suc (suc (suc zero))))))))))))))))))) h = absurd (h.named refl)
kind_again (suc (suc (suc (suc (suc (suc (suc (suc (suc (suc (suc (suc (suc (suc (suc (suc (suc (suc (suc (suc zero)))))))))))))))))))) h = refl
kind_again (suc (suc (suc (suc (suc (suc (suc (suc (suc (suc (suc (suc (suc (suc (suc (suc (suc (suc (suc (suc (suc zero))))))))))))))))))))) h = refl
kind_again (suc (suc (suc (suc (suc (suc (suc (suc (suc (suc (suc (suc (suc (suc (suc (suc (suc (suc (suc (suc (suc (suc n)))))))))))))))))))))) h = absurd (omega (arith, h.up_to))

-- ---- numbers in spans

pub in_between : (low high n : ℕ) → low ≤ n → n ≤ high → InSpans (between low high) n
in_between low high n le ge = inl (record { from = le; up_to = ge })

pub record IsBetween (low high n : ℕ) : Type 0 where
  pub from : low ≤ n
  pub up_to : n ≤ high

pub is_between : (low high n : ℕ) → InSpans (between low high) n → IsBetween low high n
is_between low high n h =
    elim h [
      | inl s ↦ record { from = s.from; up_to = s.up_to }
      | inr s ↦ record { from = s.from; up_to = s.up_to }
    ]

-- after 18 comes 20
twenty : (n : ℕ) → 18 < n → (n ≡ 19 → ⊥) → 20 ≤ n
twenty n late other = (elim (cases_lt n 20) [
  | inl below ↦ absurd (other (omega (arith, late, below)))
  | inr from ↦ from
])

-- a kind's number lies in the spans, and what lies in them is one
pub in_kinds : (n : ℕ) → IsKindNumber n → InSpans kind_numbers n
in_kinds n h = (elim (cases_lt 18 n) [
  | inl late ↦ inr (record { from = twenty n late h.named; up_to = h.up_to })
  | inr early ↦ inl (record { from = h.from; up_to = early })
])

pub kinds_in : (n : ℕ) → InSpans kind_numbers n → IsKindNumber n
kinds_in n h =
    elim h [
      | inl s ↦ let up_to = s.up_to in record { from = s.from; up_to = omega (arith, up_to); named = λ e. absurd (omega (arith, e, up_to)) }
      | inr s ↦ let from = s.from in record { from = omega (arith, from); up_to = s.up_to; named = λ e. absurd (omega (arith, e, from)) }
    ]

pub kind_small : (kind : Kind) → (facts_of kind).number < 256
kind_small kind = let k = number_in kind in omega (arith, k.up_to)

pub is_zero : (n : ℕ) → InSpans zero_only n → n ≡ 0
is_zero n h = omega (arith, (is_between 0 0 n h).up_to)

pub in_zero : InSpans zero_only 0
in_zero = in_between 0 0 0 (omega arith) (omega arith)

pub in_any : (n : ℕ) → n < 2 ^ 64 → InSpans any n
in_any n lt = in_between 0 (2 ^ 64 - 1) n (omega arith) (omega (arith, lt))

-- ---- the head

pub head_same : (k d f r a b k' d' f' r' a' b' : ℕ) → k ≡ k' → d ≡ d' → f ≡ f' → r ≡ r' → a ≡ a' → b ≡ b' → head k d f r a b ≡ head k' d' f' r' a' b'
head_same k d f r a b k' d' f' r' a' b' e1 e2 e3 e4 e5 e6 = rw (e1, e2, e3, e4, e5, e6) refl

pub head_length : (h : Head) → length (spelling h) ≡ 24
unfolding spelling
head_length h = refl

-- each number lies in its spans
pub record Allowed (form : Form) (kind : Kind) (h : Head) : Type 0 where
  pub detail : InSpans (row_by form kind 0 0 0).detail h.detail
  pub flags : InSpans (row_by form kind h.detail 0 0).flags h.flags
  pub reference : InSpans (row_by form kind h.detail h.flags 0).reference h.reference
  pub first : InSpans (row_by form kind h.detail h.flags h.reference).first h.first
  pub last : InSpans (row_by form kind h.detail h.flags h.reference).last h.last

pub record IsHead (form : Form) (h : Head) : Type 0 where
  pub kind : InSpans (kinds_of form) h.kind
  pub small : h.kind < 256
  pub detail : h.detail < 256
  pub flags : h.flags < 256
  pub in_range : InRange h
  pub allowed : Allowed form (kind_at h.kind) h

pub head_reads : (form : Form) (h : Head) → IsHead form h → Reads form 7 [] (numbers_of h) (spelling h)
unfolding spelling
head_reads form h is =
    let a = is.allowed in
    record {
      number = h.kind;
      prefix = h.kind ∷ [];
      rest = _;
      both = refl;
      is_first = field_1 (kinds_of form) h.kind is.small is.kind;
      is_next = record {
        number = h.detail;
        prefix = h.detail ∷ [];
        rest = _;
        both = refl;
        is_first = field_1 _ h.detail is.detail a.detail;
        is_next = record {
          number = h.flags;
          prefix = h.flags ∷ [];
          rest = _;
          both = refl;
          is_first = field_1 _ h.flags is.flags a.flags;
          is_next = record {
            number = 0;
            prefix = 0 ∷ [];
            rest = _;
            both = refl;
            is_first = field_1 zero_only 0 (omega arith) in_zero;
            is_next = record {
              number = h.reference;
              prefix = to_be_bytes w32 h.reference;
              rest = _;
              both = refl;
              is_first = field_4 _ h.reference is.in_range.reference a.reference;
              is_next = record {
                number = h.first;
                prefix = to_be_bytes w64 h.first;
                rest = _;
                both = refl;
                is_first = field_8 _ h.first is.in_range.first a.first;
                is_next = record {
                  number = h.last;
                  prefix = to_be_bytes w64 h.last;
                  rest = [];
                  both = sym (append-nil (to_be_bytes w64 h.last));
                  is_first = field_8 _ h.last is.in_range.last a.last;
                  is_next = (refl, refl);
                };
              };
            };
          };
        };
      };
    }

pub record HeadRead (form : Form) (all bytes : List ℕ) : Type 0 where
  pub head : Head
  pub is : IsHead form head
  pub all_is : all ≡ numbers_of head
  pub spelled : bytes ≡ spelling head

joined : (bytes f1 r1 f2 r2 f3 r3 f4 r4 f5 r5 f6 r6 f7 r7 w a b : List ℕ) (k d f z : ℕ) → bytes ≡ f1 ++ r1 → r1 ≡ f2 ++ r2 → r2 ≡ f3 ++ r3 → r3 ≡ f4 ++ r4 → r4 ≡ f5 ++ r5 → r5 ≡ f6 ++ r6 → r6 ≡ f7 ++ r7 → r7 ≡ []
    → f1 ≡ k ∷ [] → f2 ≡ d ∷ [] → f3 ≡ f ∷ [] → f4 ≡ z ∷ [] → z ≡ 0 → f5 ≡ w → f6 ≡ a → f7 ≡ b → bytes ≡ (k ∷ d ∷ f ∷ 0 ∷ []) ++ (w ++ (a ++ b))
joined bytes f1 r1 f2 r2 f3 r3 f4 r4 f5 r5 f6 r6 f7 r7 w a b k d f z e1 e2 e3 e4 e5 e6 e7 e8 g1 g2 g3 g4 zero_is g5 g6 g7 =
    rw (e1, e2, e3, e4, e5, e6, e7, e8, g1, g2, g3, g4, zero_is, g5, g6, g7, append-nil b) refl

pub read_head : (form : Form) (all bytes : List ℕ) → Reads form 7 [] all bytes → HeadRead form all bytes
unfolding spelling
read_head form all bytes p1 =
    let p2 = p1.is_next in
    let p3 = p2.is_next in
    let p4 = p3.is_next in
    let p5 = p4.is_next in
    let p6 = p5.is_next in
    let p7 = p6.is_next in
    let end = p7.is_next in
    let zero_is : p4.number ≡ 0 = is_zero p4.number p4.is_first.span in
    let o1 = only_1 _ p1.number p1.prefix p1.is_first in
    let o2 = only_1 _ p2.number p2.prefix p2.is_first in
    let o3 = only_1 _ p3.number p3.prefix p3.is_first in
    let o4 = only_1 _ p4.number p4.prefix p4.is_first in
    let o5 = only_4 _ p5.number p5.prefix p5.is_first in
    let o6 = only_8 _ p6.number p6.prefix p6.is_first in
    let o7 = only_8 _ p7.number p7.prefix p7.is_first in
    record {
      head = head p1.number p2.number p3.number p5.number p6.number p7.number;
      is = record {
        kind = p1.is_first.span;
        small = o1.below;
        detail = o2.below;
        flags = o3.below;
        in_range = record { reference = o5.below; first = o6.below; last = o7.below };
        allowed = record { detail = p2.is_first.span; flags = p3.is_first.span; reference = p5.is_first.span; first = p6.is_first.span; last = p7.is_first.span };
      };
      all_is = end.0 ∙ ap (λ (z : ℕ). p1.number ∷ p2.number ∷ p3.number ∷ z ∷ p5.number ∷ p6.number ∷ p7.number ∷ []) zero_is;
      spelled = joined bytes p1.prefix p1.rest p2.prefix p2.rest p3.prefix p3.rest p4.prefix p4.rest p5.prefix p5.rest p6.prefix p6.rest p7.prefix p7.rest _ _ _ p1.number p2.number p3.number p4.number
          p1.both p2.both p3.both p4.both p5.both p6.both p7.both end.1 o1.is o2.is o3.is o4.is zero_is o5.is o6.is o7.is;
    }
