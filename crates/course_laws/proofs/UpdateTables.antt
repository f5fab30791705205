-- The Updates of several talks: one more instant gives each FMU with event mode one more, and each other none.
use Rattle.std.proofs.Common.{◌≡◌, ◌⊎◌, inl, inr, ℕ, zero, suc, ◌<◌, ◌≤◌, Bool, true, false, List, [], ◌∷◌, ◌++◌, Option, Some, None, refl, sym, ap, ◌∙◌, append-nil, arith, length}
use Rattle.std.specs.Prelude.{◌||◌, if◌then◌else◌}
use Rattle.std.specs.List.{slice_get}
use Rattle.std.specs.Option.{option_map_or}
use Rattle.std.proofs.lemmas.List.Folds.{Any-from_list_any, list_any_at}
use Rattle.std.proofs.lemmas.Option.{same_Some, slice_get_within}
use Rattle.fmu_peer.specs.declared.peer.Exchange.{Exchange}
use Rattle.fmu_peer.specs.Updates.{AreUpdatesNeeded, UpdateMark, any_mark, updates_in}
use Rattle.slot_calls.specs.Log.{Sent, part}
use Rattle.course_laws.specs.Laws.{AreTalks}

-- ---- what stands at a place of two lists in a row

got_left : {A : Type 0} (xs ys : List A) (k : ℕ) → k < length xs → slice_get (xs ++ ys) k ≡ slice_get xs k
got_left [] ys k w = absurd (omega (arith, w))
got_left (x ∷ xs) ys zero w = refl
got_left (x ∷ xs) ys (suc k) w = got_left xs ys k (omega (arith, w))

-- of a list and one more
got_last : {A : Type 0} (xs : List A) (y : A) (k : ℕ) (x : A) → slice_get (xs ++ y ∷ []) k ≡ Some x → ((k < length xs) × (slice_get xs k ≡ Some x)) ⊎ ((k ≡ length xs) × (y ≡ x))
got_last [] y zero x is = inr (refl, same_Some y x is)
got_last [] y (suc k) x is = absurd (cc)
got_last (z ∷ xs) y zero x is = inl (omega arith, is)
got_last (z ∷ xs) y (suc k) x is = by (got_last xs y k x is) where
  by : ((k < length xs) × (slice_get xs k ≡ Some x)) ⊎ ((k ≡ length xs) × (y ≡ x)) → ((suc k < suc (length xs)) × (slice_get xs k ≡ Some x)) ⊎ ((suc k ≡ suc (length xs)) × (y ≡ x))
  by (inl (w, at)) = inl (omega (arith, w), at)
  by (inr (e, same)) = inr (omega (arith, e), same)

last_got : {A : Type 0} (xs : List A) (y : A) (k : ℕ) → k ≡ length xs → slice_get (xs ++ y ∷ []) k ≡ Some y
last_got [] y zero e = refl
last_got [] y (suc k) e = absurd (omega (arith, e))
last_got (z ∷ xs) y zero e = absurd (omega (arith, e))
last_got (z ∷ xs) y (suc k) e = last_got xs y k (omega (arith, e))

-- ---- tables: the marks of each of n talks

abbrev pub Marks : Type 0
Marks = ℕ → List UpdateMark

-- the k-th mark of each
abbrev pub column : Marks → ℕ → ℕ → Option UpdateMark
column marks k i = slice_get (marks i) k

module _ (n : ℕ) where
  -- that of one of them passes the test
  abbrev pub SomeMark : (UpdateMark → Bool) → (ℕ → Option UpdateMark) → Type 0
  SomeMark test marks = (i : ℕ) × (mark : UpdateMark) × (i < n) × (marks i ≡ Some mark) × (test mark ≡ true)

  -- one asks for another, or a Clock was armed for its point, and none asks for the end
  pub record Ask (marks : ℕ → Option UpdateMark) : Type 0 where
    pub again : SomeMark (λ (m : UpdateMark). m.again || m.arms) marks
    pub goes_on : SomeMark (λ (m : UpdateMark). m.ends) marks → ⊥

  some_same : (test : UpdateMark → Bool) (a b : ℕ → Option UpdateMark) → ((i : ℕ) → a i ≡ b i) → SomeMark test a → SomeMark test b
  some_same test a b same (i, mark, within, at, passes) = (i, mark, within, sym (same i) ∙ at, passes)

  pub ask_same : (a b : ℕ → Option UpdateMark) → ((i : ℕ) → a i ≡ b i) → Ask a → Ask b
  ask_same a b same asks = record {
    again = some_same (λ (m : UpdateMark). m.again || m.arms) a b same asks.again;
    goes_on = λ some. asks.goes_on (some_same (λ (m : UpdateMark). m.ends) b a (λ i. sym (same i)) some);
  }

  -- where they follow others, those that they follow ask for them
  abbrev pub AreAskedFor : Marks → Type 0
  AreAskedFor marks = (k i : ℕ) (mark : UpdateMark) → i < n → slice_get (marks i) (suc k) ≡ Some mark → mark.follows ≡ true → Ask (column marks k)

  module _ (event : ℕ → Bool) where
    -- m of each that has event mode, and none of each other
    pub record Table (marks : Marks) (m : ℕ) : Type 0 where
      pub rows : (i : ℕ) → length (marks i) ≡ (if event i then m else 0)
      pub needed : AreAskedFor marks

    -- what comes to one of them: none, or one where it has event mode
    pub data Comes (follows : Bool) (i : ℕ) (more : List UpdateMark) : Type 0 where
      NoMark : more ≡ [] → Comes follows i more
      OneMark : event i ≡ true → (mark : UpdateMark) → more ≡ mark ∷ [] → mark.follows ≡ follows → Comes follows i more

    module _ (follows : Bool) (olds more news : Marks) (m : ℕ) (table : Table olds m) (is : (i : ℕ) → news i ≡ olds i ++ more i) (comes : (i : ℕ) → Comes follows i (more i)) where
      row_full : (i : ℕ) → event i ≡ true → length (olds i) ≡ m
      row_full i event_is = table.rows i ∙ ap (λ (b : Bool). if b then m else 0) event_is

      -- those of earlier instants stay
      pub kept : (k : ℕ) → k < m → (i : ℕ) → column news k i ≡ column olds k i
      kept k before i = ap (λ (l : List UpdateMark). slice_get l k) (is i) ∙ by (comes i) where
        by : Comes follows i (more i) → slice_get (olds i ++ more i) k ≡ slice_get (olds i) k
        by (NoMark none) = ap (λ (l : List UpdateMark). slice_get l k) (ap (λ (l : List UpdateMark). olds i ++ l) none ∙ append-nil (olds i))
        by (OneMark event_is mark one follow) = got_left (olds i) (more i) k (let full = row_full i event_is in omega (arith, before, full))

      -- and that of the last is what came
      pub newest : (i : ℕ) (mark : UpdateMark) → event i ≡ true → more i ≡ mark ∷ [] → column news m i ≡ Some mark
      newest i mark event_is one =
          ap (λ (l : List UpdateMark). slice_get l m) (is i ∙ ap (λ (l : List UpdateMark). olds i ++ l) one) ∙ last_got (olds i) mark m (sym (row_full i event_is))

      short_row : (i : ℕ) (b : Bool) → event i ≡ b → length (olds i) ≤ m
      short_row i true e = let full = row_full i e in omega (arith, full)
      short_row i false e = let none : length (olds i) ≡ 0 = table.rows i ∙ ap (λ (b : Bool). if b then m else 0) e in omega (arith, none)

      -- one that stood before, or the one that came
      abbrev pub OldOrNew : ℕ → ℕ → UpdateMark → Type 0
      OldOrNew k i mark = ((k < m) × (column olds k i ≡ Some mark)) ⊎ ((k ≡ m) × (event i ≡ true) × (more i ≡ mark ∷ []) × (mark.follows ≡ follows))

      pub old_or_new : (k i : ℕ) (mark : UpdateMark) → column news k i ≡ Some mark → OldOrNew k i mark
      old_or_new k i mark at = by (comes i) (ap (λ (l : List UpdateMark). slice_get l k) (sym (is i)) ∙ at) where
        of_last : (new : UpdateMark) → event i ≡ true → more i ≡ new ∷ [] → new.follows ≡ follows → ((k < length (olds i)) × (slice_get (olds i) k ≡ Some mark)) ⊎ ((k ≡ length (olds i)) × (new ≡ mark)) → OldOrNew k i mark
        of_last new event_is one follow (inl (w, old)) = inl ((let full = row_full i event_is in omega (arith, w, full)), old)
        of_last new event_is one follow (inr (e, same)) =
            inr (e ∙ row_full i event_is, event_is, one ∙ ap (λ (x : UpdateMark). x ∷ []) same, ap (λ (x : UpdateMark). x.follows) (sym same) ∙ follow)

        by : Comes follows i (more i) → slice_get (olds i ++ more i) k ≡ Some mark → OldOrNew k i mark
        by (NoMark none) here =
            let old = ap (λ (l : List UpdateMark). slice_get l k) (sym (ap (λ (l : List UpdateMark). olds i ++ l) none ∙ append-nil (olds i))) ∙ here in
            inl ((let w = slice_get_within (olds i) k mark old in let s = short_row i (event i) refl in omega (arith, w, s)), old)
        by (OneMark event_is new one follow) here =
            of_last new event_is one follow (got_last (olds i) new k mark (ap (λ (l : List UpdateMark). slice_get l k) (sym (ap (λ (l : List UpdateMark). olds i ++ l) one)) ∙ here))

      -- where they follow others, those that they follow ask for them
      pub grown : (follows ≡ true → (k : ℕ) → suc k ≡ m → Ask (column olds k)) → AreAskedFor news
      grown asked k i mark within at follow = by (old_or_new (suc k) i mark at) where
        by : ((suc k < m) × (column olds (suc k) i ≡ Some mark)) ⊎ ((suc k ≡ m) × (event i ≡ true) × (more i ≡ mark ∷ []) × (mark.follows ≡ follows)) → Ask (column news k)
        by (inl (before, old)) = ask_same (column olds k) (column news k) (λ j. sym (kept k (omega (arith, before)) j)) (table.needed k i mark within old follow)
        by (inr (same, event_is, one, says)) = ask_same (column olds k) (column news k) (λ j. sym (kept k (omega (arith, same)) j)) (asked (sym says ∙ follow) k same)

-- ---- the talks of a log

-- the marks of the components
abbrev pub marks_in : List Sent → Marks
marks_in log i = updates_in (part i log)

module _ (n : ℕ) (log : List Sent) (talks : List (List Exchange)) (are : AreTalks n log talks) where
  some_any : (test : UpdateMark → Bool) (k : ℕ) → SomeMark n test (column (marks_in log) k) → any_mark test k talks ≡ true
  some_any test k (i, mark, within, here, passes) =
      list_any_at (λ (talk : List Exchange). option_map_or test (slice_get (updates_in talk) k) false) talks i [] (let len = are.len in omega (arith, len, within))
      (ap (λ (talk : List Exchange). option_map_or test (slice_get (updates_in talk) k) false) (are.each i [] within) ∙ ap (λ (o : Option UpdateMark). option_map_or test o false) here ∙ passes)

  passing : (test : UpdateMark → Bool) (o : Option UpdateMark) → option_map_or test o false ≡ true → (mark : UpdateMark) × (o ≡ Some mark) × (test mark ≡ true)
  passing test None h = absurd (cc)
  passing test (Some mark) h = (mark, refl, h)

  any_some : (test : UpdateMark → Bool) (k : ℕ) → any_mark test k talks ≡ true → SomeMark n test (column (marks_in log) k)
  any_some test k h =
      let a = Any-from_list_any (λ (talk : List Exchange). option_map_or test (slice_get (updates_in talk) k) false) talks h in
      let within : a.0 < n = (let len = are.len in let w = a.2 in omega (arith, len, w)) in
      let p = passing test (slice_get (updates_in a.1) k) a.4 in
      let same : part a.0 log ≡ a.1 = sym (are.each a.0 a.1 within) ∙ a.3 in
      (a.0, p.0, within, ap (λ (l : List Exchange). slice_get (updates_in l) k) same ∙ p.1, p.2)

  not_any : (b : Bool) → (b ≡ true → ⊥) → b ≡ false
  not_any true h = absurd (h refl)
  not_any false h = refl

  pub talks_needed : AreAskedFor n (marks_in log) → AreUpdatesNeeded talks
  talks_needed needed k talk mark (i, w, is) here follows =
      let within : i < n = (let len = are.len in omega (arith, len, w)) in
      let same : talk ≡ part i log = sym is ∙ are.each i talk within in
      let asks = needed k i mark within (ap (λ (l : List Exchange). slice_get (updates_in l) (suc k)) (sym same) ∙ here) follows in (
        some_any (λ (m : UpdateMark). m.again || m.arms) k asks.again,
        not_any (any_mark (λ (m : UpdateMark). m.ends) k talks) (λ h. asks.goes_on (any_some (λ (m : UpdateMark). m.ends) k h)),
      )
