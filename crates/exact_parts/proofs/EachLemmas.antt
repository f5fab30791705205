-- Parts one after another, and the walk over them.
use Rattle.std.proofs.Common.{◌≡◌, ℕ, ◌+◌, List, [], ◌∷◌, ◌++◌, length, take, drop, refl, sym, ap, subst, ◌∙◌, append_assoc, arith}
use Rattle.std.proofs.lemmas.List.{length-append}
use Rattle.exact_parts.specs.declared.taken.Taken.{Taken}
use Rattle.exact_parts.specs.declared.taken.Taken.TheVariants.{Got, NeedMore, Bad}
use Rattle.exact_parts.specs.Taking.{After, AreSingle, Breaks, Gets, IsPrefix, Takes, moved}
use Rattle.exact_parts.specs.Each.{EachFrom}
use Rattle.exact_parts.proofs.AfterLemmas.{Followed, after_single, first_bad, first_begins, first_more, next_takes}

-- ---- a part for each

none_single : {V : Type 0} (before : List V) → AreSingle (λ (all : List V) (bytes : List ℕ). (all ≡ before) × (bytes ≡ []))
none_single before v w xs more p q =
    let lens : length xs + length more ≡ 0 = sym (length-append xs more) ∙ ap length q.1 in
    (p.0 ∙ sym q.0, omega (arith, lens))

pub each_single : {A V : Type 0} (part : A → V → List ℕ → Type 0) → ((a : A) → AreSingle (part a)) → (things : List A) (before : List V) → AreSingle (EachFrom part things before)
each_single part single [] before = none_single before
each_single part single (a ∷ more) before = after_single (part a) (λ v. EachFrom part more (before ++ v ∷ [])) (single a) (λ v. each_single part single more (before ++ v ∷ []))

-- each thing has some value
pub record HasSome {V : Type 0} (frame : V → List ℕ → Type 0) : Type 0 where
  pub value : V
  pub bytes : List ℕ
  pub spelled : frame value bytes

pub each_some : {A V : Type 0} (part : A → V → List ℕ → Type 0) → ((a : A) → HasSome (part a)) → (things : List A) (before : List V) → HasSome (EachFrom part things before)
each_some part some [] before = record { value = before; bytes = []; spelled = (refl, refl) }
each_some part some (a ∷ more) before =
    let one = some a in
    let rest = each_some part some more (before ++ one.value ∷ []) in
    record { value = rest.value; bytes = one.bytes ++ rest.bytes; spelled = record { number = one.value; prefix = one.bytes; rest = rest.bytes; is_first = one.spelled; is_next = rest.spelled; both = refl } }

pub each_followed : {A V : Type 0} (part : A → V → List ℕ → Type 0) → ((a : A) → HasSome (part a)) → (things : List A) (before : List V) → Followed (λ (v : V). EachFrom part things (before ++ v ∷ []))
each_followed {V = V} part some things before =
    let each : (v : V) → HasSome (EachFrom part things (before ++ v ∷ [])) = λ v. each_some part some things (before ++ v ∷ []) in
    record { value = λ v. (each v).value; bytes = λ v. (each v).bytes; spelled = λ v. (each v).spelled }

-- ---- the walk

-- what is answered for the rest is answered for all
abbrev pub Goes : {A V : Type 0} → (A → V → List ℕ → Type 0) → List A → List V → List A → List ℕ → List V → ℕ → List ℕ → Type 0
Goes {V = V} part things before left bytes values n rest =
    (x : Taken (List V)) → Takes (EachFrom part left values) rest x → Takes (EachFrom part things before) bytes (moved n x)

moved_none : {V : Type 0} (x : Taken V) → moved 0 x ≡ x
moved_none (Got v size) = ap (Got v) (let same : 0 + size ≡ size = omega arith in same)
moved_none NeedMore = refl
moved_none (Bad at) = ap Bad (let same : 0 + at ≡ at = omega arith in same)

moved_on : {V : Type 0} (n m : ℕ) (x : Taken V) → moved n (moved m x) ≡ moved (n + m) x
moved_on n m (Got v size) = ap (Got v) (let same : n + (m + size) ≡ n + m + size = omega arith in same)
moved_on n m NeedMore = refl
moved_on n m (Bad at) = ap Bad (let same : n + (m + at) ≡ n + m + at = omega arith in same)

pub goes_at_first : {A V : Type 0} (part : A → V → List ℕ → Type 0) (things : List A) (before : List V) (bytes : List ℕ) → Goes part things before things bytes before 0 bytes
goes_at_first part things before bytes x h = subst (λ y. Takes (EachFrom part things before) bytes y) (sym (moved_none x)) h

pub goes_on : {A V : Type 0} (part : A → V → List ℕ → Type 0) → ((a : A) → AreSingle (part a)) → (things : List A) (before : List V) (a : A) (left : List A) (bytes : List ℕ) (values : List V) (n : ℕ) (rest : List ℕ) (v : V) (m : ℕ) →
    Goes part things before (a ∷ left) bytes values n rest → Gets (part a) rest v m → Goes part things before left bytes (values ++ v ∷ []) (n + m) (drop m rest)
goes_on part single things before a left bytes values n rest v m goes got x h =
    subst (λ y. Takes (EachFrom part things before) bytes y) (moved_on n m x)
    (goes (moved m x) (next_takes (part a) (λ w. EachFrom part left (values ++ w ∷ [])) (single a) rest v m x got h))

pub goes_end : {A V : Type 0} (part : A → V → List ℕ → Type 0) (things : List A) (before : List V) (bytes : List ℕ) (values : List V) (n : ℕ) (rest : List ℕ) →
    Goes part things before [] bytes values n rest → Takes (EachFrom part things before) bytes (Got values n)
goes_end part things before bytes values n rest goes =
    let same : n + 0 ≡ n = omega arith in
    subst (λ k. Takes (EachFrom part things before) bytes (Got values k)) same (goes (Got values 0) (record { within = omega arith; spelled = (refl, refl) }))

pub goes_more : {A V : Type 0} (part : A → V → List ℕ → Type 0) → ((a : A) → HasSome (part a)) → (things : List A) (before : List V) (a : A) (left : List A) (bytes : List ℕ) (values : List V) (n : ℕ) (rest : List ℕ) →
    Goes part things before (a ∷ left) bytes values n rest → IsPrefix (part a) rest → Takes (EachFrom part things before) bytes NeedMore
goes_more part some things before a left bytes values n rest goes prefix =
    goes NeedMore (first_more (part a) (λ w. EachFrom part left (values ++ w ∷ [])) (each_followed part some left values) rest prefix)

pub goes_bad : {A V : Type 0} (part : A → V → List ℕ → Type 0) → ((a : A) → AreSingle (part a)) → ((a : A) → HasSome (part a)) → (things : List A) (before : List V) (a : A) (left : List A) (bytes : List ℕ) (values : List V) (n : ℕ) (rest : List ℕ) (at : ℕ) →
    Goes part things before (a ∷ left) bytes values n rest → Breaks (part a) rest at → Takes (EachFrom part things before) bytes (Bad (n + at))
goes_bad part single some things before a left bytes values n rest at goes breaks =
    goes (Bad at) (first_bad (part a) (λ w. EachFrom part left (values ++ w ∷ [])) (single a) (each_followed part some left values) rest at breaks)

-- ---- what a first part leads to

-- where the first tells this, something follows
abbrev pub LeadsTo : {N V : Type 0} → (N → List ℕ → Type 0) → (N → V → List ℕ → Type 0) → Type 0
LeadsTo {N = N} first next = (n : N) (bytes : List ℕ) → first n bytes → HasSome (next n)

pub led_more : {N V : Type 0} (first : N → List ℕ → Type 0) (next : N → V → List ℕ → Type 0) → LeadsTo first next → (bytes : List ℕ) → IsPrefix first bytes → IsPrefix (After first next) bytes
led_more first next leads bytes f =
    let s = leads f.value (bytes ++ f.more) f.spelled in
    record {
      value = s.value;
      more = f.more ++ s.bytes;
      spelled = record { number = f.value; prefix = bytes ++ f.more; rest = s.bytes; is_first = f.spelled; is_next = s.spelled; both = sym (append_assoc bytes f.more s.bytes) };
      goes_on = omega (arith, f.goes_on, length-append f.more s.bytes);
    }

pub led_bad : {N V : Type 0} (first : N → List ℕ → Type 0) (next : N → V → List ℕ → Type 0) → AreSingle first → LeadsTo first next → (bytes : List ℕ) (at : ℕ) → Breaks first bytes at → Breaks (After first next) bytes at
led_bad first next single leads bytes at h = record {
  within = h.within;
  prefix = led_more first next leads (take at bytes) h.prefix;
  none = λ b. h.none (first_begins first next single bytes at h.within h.prefix b);
}

pub led_some : {N V : Type 0} (first : N → List ℕ → Type 0) (next : N → V → List ℕ → Type 0) → HasSome first → LeadsTo first next → HasSome (After first next)
led_some first next some leads =
    let s = leads some.value some.bytes some.spelled in
    record { value = s.value; bytes = some.bytes ++ s.bytes; spelled = record { number = some.value; prefix = some.bytes; rest = s.bytes; is_first = some.spelled; is_next = s.spelled; both = refl } }
