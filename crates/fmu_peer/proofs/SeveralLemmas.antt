-- Several calls with the worth of their answers: how many replies came, and which call got the fault.
use Rattle.std.proofs.Common.{◌≡◌, ℕ, zero, suc, ◌+◌, ◌-◌, Result, replicate, ◌<◌, ◌≤◌, ℤ, Bool, true, false, List, [], ◌∷◌, ◌++◌, length, take, drop, refl, sym, ap, subst, ◌∙◌, append_assoc, arith, ◌⊎◌, inl, inr, Ok, Err}
use Rattle.std.specs.Prelude.{All, IfErr, IfOk, if◌then◌else◌, get_or}
use Rattle.std.proofs.lemmas.List.{get_or_default, length-append, length-drop, length-replicate, map-append, take_all}
use Rattle.std.proofs.lemmas.List.Elements.{All-head, All-nil, All-push, All-replicate, All-tail}
use Rattle.value_types.specs.declared.shape.Shape.{Shape}
use Rattle.value_types.specs.declared.values.PortType.{PortType}
use Rattle.fmi_calls.specs.KindFacts.{same_kind}
use Rattle.fmi_calls.specs.Kinds.{bad_status_of, kind_of, kind_of_content, kind_of_reply}
use Rattle.fmi_calls.specs.Worth.{grade_of, is_valid}
use Rattle.fmi_calls.specs.declared.call.Call.{Call}
use Rattle.fmi_calls.specs.declared.call.Call.TheVariants as C
use Rattle.fmi_calls.specs.declared.call.Content.{Content}
use Rattle.fmi_calls.specs.declared.call.Content.TheVariants as A
use Rattle.fmi_calls.specs.declared.call.Grade.{Grade}
use Rattle.fmi_calls.specs.declared.call.Grade.TheVariants as G
use Rattle.fmi_calls.specs.declared.call.Kind.{Kind}
use Rattle.fmi_calls.specs.declared.call.Kind.TheVariants as K
use Rattle.fmi_calls.specs.declared.call.Reply.{Reply}
use Rattle.fmi_calls.specs.declared.call.Reply.TheVariants as R
use Rattle.fmu_peer.specs.declared.peer.Exchange.{Exchange}
use Rattle.fmu_peer.specs.declared.peer.PeerFault.{PeerFault}
use Rattle.fmu_peer.specs.declared.ended.Why.{Why}
use Rattle.fmu_peer.specs.declared.ended.Why.TheVariants.{Link, Misreply, Refused}
use Rattle.fmu_peer.specs.Answer.{IsWhy}
use Rattle.fmu_peer.specs.Many.{AnsweredAll, AnsweredFirst, FailedAfter, FaultsAfter, IsToCome, IsWorthOf, Talks, answer_at, count_came, exchanges, to_come}
use Rattle.fmu_peer.specs.Talk.{AllGood, IsGood, calls_in}
use Rattle.fmu_peer.specs.View.{Fixed, View}
use Rattle.fmu_peer.proofs.ManyLemmas.{a_reply, all_prefix, exchanges_more, of}

-- ---- a good reply to a call that reads or sets is of its kind

valid_get : (shape : Shape) (kind : PortType) (reference : ℕ) (content : Content) → is_valid shape (C.Get kind reference) content ≡ true → kind_of_content content ≡ K.Get
valid_get shape kind reference (A.Get word) h = refl
valid_get shape kind reference content h = absurd (cc)

valid_set : (shape : Shape) (kind : PortType) (reference : ℕ) (value : ℤ) (content : Content) → is_valid shape (C.Set kind reference value) content ≡ true → kind_of_content content ≡ K.Set
valid_set shape kind reference value A.Set h = refl
valid_set shape kind reference value content h = absurd (cc)

-- the call reads or sets a variable
abbrev pub ReadsOrSets : Call → Type 0
ReadsOrSets call = (kind_of call ≡ K.Get) ⊎ (kind_of call ≡ K.Set)

-- such a call
pub data Sort (call : Call) : Type 0 where
  Reads : (kind : PortType) (reference : ℕ) → call ≡ C.Get kind reference → Sort call
  Writes : (kind : PortType) (reference : ℕ) (value : ℤ) → call ≡ C.Set kind reference value → Sort call

pub sort_of : (call : Call) → ReadsOrSets call → Sort call
sort_of (C.Get kind reference) is = Reads kind reference refl
sort_of (C.Set kind reference value) is = Writes kind reference value refl
sort_of call (inl is) = absurd (cc)
sort_of call (inr is) = absurd (cc)

done_valid : (shape : Shape) (call : Call) (w : Bool) (content : Content) → grade_of shape call (R.Done w content) ≡ G.Good → is_valid shape call content ≡ true
done_valid shape call w content good = by (is_valid shape call content) refl where
  by : (b : Bool) → is_valid shape call content ≡ b → is_valid shape call content ≡ true
  by true is = is
  by false is = absurd (let e : G.Misreply ≡ G.Good = sym (ap (λ (b : Bool). if b then G.Good else G.Misreply) is) ∙ good in cc)

good_came : (shape : Shape) (call : Call) (reply : Reply) → ReadsOrSets call → grade_of shape call reply ≡ G.Good → same_kind (kind_of_reply reply) K.FreeInstance ≡ false
good_came shape call (R.Done w content) sort good = by (sort_of call sort) where
  by : Sort call → same_kind (kind_of_content content) K.FreeInstance ≡ false
  by (Reads kind reference is) = ap (λ (k : Kind). same_kind k K.FreeInstance) (valid_get shape kind reference content (subst (λ (c : Call). is_valid shape c content ≡ true) is (done_valid shape call w content good)))
  by (Writes kind reference value is) = ap (λ (k : Kind). same_kind k K.FreeInstance) (valid_set shape kind reference value content (subst (λ (c : Call). is_valid shape c content ≡ true) is (done_valid shape call w content good)))
good_came shape call (R.Refused kind status) sort good = absurd (never (same_kind kind (kind_of call)) good) where
  never : (b : Bool) → (if b then G.Refused else G.Misreply) ≡ G.Good → ⊥
  never true e = cc
  never false e = cc

-- ---- how many came

abbrev pub AreSorts : List Call → Type 0
AreSorts calls = All ReadsOrSets calls

pub came_is : (shape : Shape) (calls : List Call) (replies left : List Reply) (d : Reply) → length replies ≡ length calls → AreSorts calls → AllGood shape (exchanges calls replies) →
    0 < length left → All IsToCome left → count_came (replies ++ left) ≡ length replies
came_is shape [] [] [] d len sorts good some none = absurd (omega (arith, some))
came_is shape [] [] (r ∷ left) d len sorts good some none = ap (λ (k : Kind). if same_kind k K.FreeInstance then 0 else suc (count_came left)) (All-head IsToCome r left none)
came_is shape [] (r ∷ replies) left d len sorts good some none = absurd (omega (arith, len))
came_is shape (c ∷ calls) [] left d len sorts good some none = absurd (omega (arith, len))
came_is shape (c ∷ calls) (r ∷ replies) left d len sorts good some none =
    ap (λ (b : Bool). if b then 0 else suc (count_came (replies ++ left))) (good_came shape c r (All-head ReadsOrSets c calls sorts) (All-head (IsGood shape) (of c r) (exchanges calls replies) good))
    ∙ ap suc (came_is shape calls replies left d (omega (arith, len)) (All-tail ReadsOrSets c calls sorts) (All-tail (IsGood shape) (of c r) (exchanges calls replies) good) some none)

-- ---- what a caller makes of it

-- the calls of exchanges side by side
pub calls_beside : (calls : List Call) (replies : List Reply) → length replies ≡ length calls → calls_in (exchanges calls replies) ≡ calls
calls_beside [] replies len = refl
calls_beside (c ∷ calls) [] len = absurd (omega (arith, len))
calls_beside (c ∷ calls) (r ∷ replies) len = ap (λ (cs : List Call). c ∷ cs) (calls_beside calls replies (omega (arith, len)))

-- after a fault
pub failed_by_fault : (old : View) (calls : List Call) (before after : List Reply) (fault : PeerFault) (new : View) → (f : FaultsAfter old calls before after fault new) → FailedAfter old calls (Link f.call fault) new
failed_by_fault old calls before after fault new f = record {
  prefix = exchanges f.prefix f.replies;
  last = record { call = f.call; result = Err fault };
  left = f.left;
  calls_are = f.calls_are ∙ ap (λ (cs : List Call). cs ++ f.call ∷ f.left) (sym (calls_beside f.prefix f.replies f.len))
      ∙ sym (append_assoc (calls_in (exchanges f.prefix f.replies)) (f.call ∷ []) f.left)
      ∙ ap (λ (cs : List Call). cs ++ f.left) (sym (map-append (λ (e : Exchange). e.call) (exchanges f.prefix f.replies) (record { call = f.call; result = Err fault } ∷ [])));
  good = f.good;
  bad = (refl, refl);
  talks = f.talks;
}

-- after a last answer that isn't good
pub failed_by_last : (old : View) (calls : List Call) (replies : List Reply) (count : ℕ) (new : View) (why : Why) (a : AnsweredFirst old calls replies count new) → length replies ≡ length calls →
    IsWhy old.fixed.shape why a.last → FailedAfter old calls why new
failed_by_last old calls replies count new why a len bad = record {
  prefix = a.prefix;
  last = a.last;
  left = drop count calls;
  calls_are = sym (take_drop count calls) ∙ ap (λ (cs : List Call). cs ++ drop count calls) (sym (calls_beside (take count calls) (take count replies) (even count replies calls len)) ∙ ap calls_in a.is);
  good = a.good;
  bad = bad;
  talks = subst (λ (es : List Exchange). Talks old es new) a.is a.talks;
}
  where
    take_drop : (n : ℕ) (cs : List Call) → take n cs ++ drop n cs ≡ cs
    take_drop zero cs = refl
    take_drop (suc n) [] = refl
    take_drop (suc n) (c ∷ cs) = ap (λ (xs : List Call). c ∷ xs) (take_drop n cs)

    even : (n : ℕ) (rs : List Reply) (cs : List Call) → length rs ≡ length cs → length (take n rs) ≡ length (take n cs)
    even zero rs cs e = refl
    even (suc n) [] [] e = refl
    even (suc n) [] (c ∷ cs) e = absurd (omega (arith, e))
    even (suc n) (r ∷ rs) [] e = absurd (omega (arith, e))
    even (suc n) (r ∷ rs) (c ∷ cs) e = ap suc (even n rs cs (omega (arith, e)))

-- ---- the last of them

-- what is put after two equal lists is equal
push_last : {X : Type 0} (xs ys : List X) (x y : X) → xs ++ x ∷ [] ≡ ys ++ y ∷ [] → x ≡ y
push_last [] [] x y e = ap (λ l. get_or l 0 x) e
push_last [] (z ∷ ys) x y e = absurd (omega (arith, ap length e, length-append ys (y ∷ [])))
push_last (w ∷ xs) [] x y e = absurd (omega (arith, ap length e, length-append xs (x ∷ [])))
push_last (w ∷ xs) (z ∷ ys) x y e = push_last xs ys x y (ap (λ l. drop 1 l) e)

-- at least one came
pub counted_some : (old : View) (calls : List Call) (replies : List Reply) (count : ℕ) (new : View) → AnsweredFirst old calls replies count new → 1 ≤ count
counted_some old calls replies zero new a = absurd (omega (arith, ap length a.is, length-append a.prefix (a.last ∷ [])))
counted_some old calls replies (suc n) new a = omega arith

last_is : (old : View) (calls : List Call) (replies : List Reply) (count : ℕ) (new : View) (a : AnsweredFirst old calls replies count new) → length replies ≡ length calls → (c : Call) (r : Reply) → answer_at calls replies (count - 1) c r ≡ a.last
last_is old calls replies count new a len c r =
    let some = counted_some old calls replies count new a in
    let next : count - 1 + 1 ≡ count = omega (arith, some) in
    let within : count - 1 < length calls = omega (arith, some, a.within) in
    let split : exchanges (take count calls) (take count replies) ≡ exchanges (take (count - 1) calls) (take (count - 1) replies) ++ answer_at calls replies (count - 1) c r ∷ [] =
    subst (λ (n : ℕ). exchanges (take n calls) (take n replies) ≡ exchanges (take (count - 1) calls) (take (count - 1) replies) ++ answer_at calls replies (count - 1) c r ∷ []) next (more (count - 1) within) in
    push_last (exchanges (take (count - 1) calls) (take (count - 1) replies)) a.prefix (answer_at calls replies (count - 1) c r) a.last (sym split ∙ a.is)
  where
    more : (i : ℕ) → i < length calls → exchanges (take (i + 1) calls) (take (i + 1) replies) ≡ exchanges (take i calls) (take i replies) ++ answer_at calls replies i c r ∷ []
    more i lt = exchanges_more calls replies i c r len lt

-- the default of a place within a list doesn't matter
pub grade_any : (shape : Shape) (calls : List Call) (replies : List Reply) (i : ℕ) (c d : Call) (p q : Reply) (g : Grade) → i < length calls → i < length replies → grade_of shape (get_or calls i c) (get_or replies i p) ≡ g →
    grade_of shape (get_or calls i d) (get_or replies i q) ≡ g
grade_any shape calls replies i c d p q g lt le h =
    ap (λ (x : Call). grade_of shape x (get_or replies i q)) (get_or_default calls i d c lt) ∙ ap (λ (r : Reply). grade_of shape (get_or calls i c) r) (get_or_default replies i q p le) ∙ h

pub refused_any : (shape : Shape) (calls : List Call) (replies : List Reply) (i : ℕ) (c d : Call) (p q : Reply) (why : Why) → i < length calls → i < length replies → grade_of shape (get_or calls i c) (get_or replies i p) ≡ G.Refused →
    why ≡ Refused (get_or calls i c) (bad_status_of (get_or replies i p)) → IsWhy shape why (answer_at calls replies i d q)
refused_any shape calls replies i c d p q why lt le grade is =
    subst (λ (w : Why). IsWhy shape w (answer_at calls replies i d q)) (sym is)
    (get_or replies i p, get_or_default calls i d c lt, ap (λ (r : Reply). Ok r) (get_or_default replies i q p le), refl, grade)

pub misreply_any : (shape : Shape) (calls : List Call) (replies : List Reply) (i : ℕ) (c d : Call) (p q : Reply) (why : Why) → i < length calls → i < length replies → grade_of shape (get_or calls i c) (get_or replies i p) ≡ G.Misreply →
    why ≡ Misreply (get_or calls i c) (get_or replies i p) → IsWhy shape why (answer_at calls replies i d q)
misreply_any shape calls replies i c d p q why lt le grade is =
    subst (λ (w : Why). IsWhy shape w (answer_at calls replies i d q)) (sym is)
    (get_or_default calls i d c lt, ap (λ (r : Reply). Ok r) (get_or_default replies i q p le), grade)

-- ---- several calls by the worth of the last answer

fixed_along : (old new : View) (es : List Exchange) → Talks old es new → new.fixed ≡ old.fixed
fixed_along old new [] same = ap (λ (v : View). v.fixed) same
fixed_along old new (e ∷ es) (mid, may, asked, rest) = fixed_along mid new es rest ∙ asked.fixed

module _ (old : View) (calls : List Call) (replies : List Reply) (count : ℕ) (new : View) (a : AnsweredFirst old calls replies count new) (len : length replies ≡ length calls) where
  worth_before : (r : Result ℕ Why) → IsWorthOf new.fixed.shape calls replies count r → IsWorthOf old.fixed.shape calls replies count r
  worth_before r worth = subst (λ (f : Fixed). IsWorthOf f.shape calls replies count r) (fixed_along old new (exchanges (take count calls) (take count replies)) a.talks) worth

  all_told : (told : ℕ) → told ≡ count → ((c : Call) (r : Reply) → IsGood old.fixed.shape (answer_at calls replies (count - 1) c r)) → told ≡ length calls
  all_told told is good = elim a.ends [
    | inl all ↦ is ∙ all
    | inr not ↦ absurd (not (subst (IsGood old.fixed.shape) (last_is old calls replies count new a len C.FreeInstance a_reply) (good C.FreeInstance a_reply)))
  ]

  pub all_by_worth : (r : Result ℕ Why) → IsWorthOf new.fixed.shape calls replies count r → IfOk r (λ n. n ≡ length calls)
  all_by_worth (Ok told) worth = let w = worth_before (Ok told) worth in all_told told w.0 w.1
  all_by_worth (Err why) worth = tt

  pub ok_by_worth : (r : Result ℕ Why) → IsWorthOf new.fixed.shape calls replies count r → IfOk r (λ n. AnsweredAll old calls replies new)
  ok_by_worth (Ok told) worth =
      let w = worth_before (Ok told) worth in
      let all : count ≡ length calls = sym w.0 ∙ all_told told w.0 w.1 in
      let calls_are : take count calls ≡ calls = take_all count calls (omega (arith, all)) in
      let replies_are : take count replies ≡ replies = take_all count replies (omega (arith, all, len)) in
      let whole : exchanges (take count calls) (take count replies) ≡ exchanges calls replies = rw (calls_are, replies_are) refl in
      let last = subst (IsGood old.fixed.shape) (last_is old calls replies count new a len C.FreeInstance a_reply) (w.1 C.FreeInstance a_reply) in
      record {
        talks = subst (λ (es : List Exchange). Talks old es new) whole a.talks;
        good = subst (AllGood old.fixed.shape) (sym a.is ∙ whole) (All-push (IsGood old.fixed.shape) a.prefix a.last a.good last);
      }
  ok_by_worth (Err why) worth = tt

  pub err_by_worth : (r : Result ℕ Why) → IsWorthOf new.fixed.shape calls replies count r → IfErr r (λ why. FailedAfter old calls why new)
  err_by_worth (Ok told) worth = tt
  err_by_worth (Err why) worth =
      failed_by_last old calls replies count new why a len
      (subst (IsWhy old.fixed.shape why) (last_is old calls replies count new a len C.FreeInstance a_reply) (worth_before (Err why) worth C.FreeInstance a_reply))

-- ---- the call that got a fault

all_dropped : (n k : ℕ) → All IsToCome (drop k (replicate n to_come))
all_dropped n zero = All-replicate IsToCome n to_come refl
all_dropped zero (suc k) = All-nil IsToCome
all_dropped (suc n) (suc k) = all_dropped n k

at_prefix : (xs : List Call) (x : Call) (ys : List Call) (d : Call) → get_or (xs ++ x ∷ ys) (length xs) d ≡ x
at_prefix [] x ys d = refl
at_prefix (z ∷ xs) x ys d = at_prefix xs x ys d

module _ (old : View) (calls : List Call) (before after : List Reply) (fault : PeerFault) (new : View) (f : FaultsAfter old calls before after fault new) (sorts : AreSorts calls) (none : before ≡ replicate (length calls) to_come) where
  size : length calls ≡ length f.prefix + suc (length f.left)
  size = ap length f.calls_are ∙ length-append f.prefix (f.call ∷ f.left)

  came_prefix : count_came after ≡ length f.prefix
  came_prefix =
      let k = length f.prefix in
      let room : length (drop k before) ≡ length before - k = length-drop k before in
      let many : length before ≡ length calls = ap length none ∙ length-replicate (length calls) to_come in
      let left : 0 < length (drop k before) = omega (arith, room, many, size) in
      let empty : All IsToCome (drop k before) = subst (λ (rs : List Reply). All IsToCome (drop k rs)) (sym none) (all_dropped (length calls) k) in
      ap count_came f.after_is ∙ came_is old.fixed.shape f.prefix f.replies (drop k before) a_reply f.len
      (all_prefix ReadsOrSets f.prefix (f.call ∷ f.left) (subst AreSorts f.calls_are sorts)) f.good left empty ∙ f.len

  pub came_within : (n : ℕ) → n ≡ count_came after → n < length calls
  came_within n is = omega (arith, is, came_prefix, size)

  pub failed_at : (n : ℕ) (why : Why) → n ≡ count_came after → ((d : Call) → why ≡ Link (get_or calls n d) fault) → FailedAfter old calls why new
  failed_at n why is link =
      let call : get_or calls n C.FreeInstance ≡ f.call = ap (λ (k : ℕ). get_or calls k C.FreeInstance) (is ∙ came_prefix) ∙ ap (λ (cs : List Call). get_or cs (length f.prefix) C.FreeInstance) f.calls_are ∙ at_prefix f.prefix f.call f.left C.FreeInstance in
      subst (λ (w : Why). FailedAfter old calls w new) (sym (link C.FreeInstance ∙ ap (λ (c : Call). Link c fault) call)) (failed_by_fault old calls before after fault new f)
