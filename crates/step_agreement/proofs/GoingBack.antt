-- Who is put back in an agreed step where all are asked first: none but those beside which another might return early. The bounds fall.
use Rattle.std.proofs.Common.{◌≡◌, ◌≢◌, ◌⊎◌, inl, inr, ℕ, suc, ◌-◌, ◌<◌, ◌≤◌, ◌==◌, Bool, true, false, not, nat_lt, List, [], ◌∷◌, Some, refl, sym, ap, ◌∙◌, subst, ap₂, arith}
use Rattle.std.specs.Prelude.{if◌then◌else◌}
use Rattle.std.specs.List.{slice_get}
use Rattle.std.specs.Option.{option_map}
use Rattle.std.proofs.lemmas.Bool.Decides.{nat_tests}
use Rattle.std.proofs.lemmas.Option.{none-some as none_some, same_Some, slice_get-map}
use Rattle.value_types.specs.declared.shape.Shape.{Shape}
use Rattle.system_model.specs.EarlyReturn.{early_count}
use Rattle.system_model.proofs.CallerLemmas.{counts_one, counts_two}
use Rattle.slot_calls.specs.Log.{Sent, part}
use Rattle.step_agreement.specs.Agreement.{Asks, Stand, are_at, comes_first, end_at, ends_elsewhere, everyone, is_elsewhere, reached, shapes_in, stand_by, stands_by, stands_from}
use Rattle.step_agreement.specs.Saving.{is_saved}
use Rattle.step_agreement.proofs.Falling.{own_stays, stood}
use Rattle.step_agreement.proofs.Lists.{Holds, least_is, least_low, not_all}
use Rattle.step_agreement.proofs.Moves.{IsEnd, other_number, own, own_is_end}
use Rattle.step_agreement.proofs.Tracks.{shape_kept}

equal : (a b : ℕ) → (a == b) ≡ true → a ≡ b
equal a b q = grind (arith, nat_tests)

unequal : (a b : ℕ) → (a == b) ≡ false → a ≢ b
unequal a b q = grind (arith, nat_tests)

unnot : (x : Bool) → not x ≡ true → x ≡ false
unnot true h = absurd (cc)
unnot false h = refl

is_less : (a b : ℕ) → a < b → nat_lt a b ≡ true
is_less a b h = grind (arith, nat_tests)

-- where two might return early, all are saved
pub saved_beside_two : (early : ℕ) (shape : Shape) → 1 < early → is_saved early shape ≡ true
saved_beside_two early shape h = is_less 1 early h

abbrev pub all_first : Shape → Bool
all_first shape = true

module _ (t step : ℕ) where
  same_shapes_from : (k : ℕ) (stands : List Stand) (log : List Sent) → shapes_in (stands_from t k stands log) ≡ shapes_in stands
  same_shapes_from k [] log = refl
  same_shapes_from k (s ∷ ss) log = ap₂ ◌∷◌ (shape_kept t s (part k log)) (same_shapes_from (suc k) ss log)

  -- the shapes stay
  pub same_shapes : (stands : List Stand) (log : List Sent) → shapes_in (stands_by t stands log) ≡ shapes_in stands
  same_shapes stands log = same_shapes_from 0 stands log

  module _ (b : ℕ) (later : t < b) (stands : List Stand) (prefix : List Sent) (asks : Asks t step everyone (comes_first (λ (shape : Shape). true)) b stands prefix) where
    abbrev pub mids : List Stand
    mids = stands_by t stands prefix

    abbrev pub m : ℕ
    m = reached t b mids

    was : (j : ℕ) (y : Stand) → slice_get mids j ≡ Some y → (s : Stand) × (slice_get stands j ≡ Some s) × (y ≡ stand_by t s (part j prefix))
    was j y at = stood t step all_first j stands prefix j y at

    -- where each ended
    pub first_end : (j : ℕ) (y : Stand) → slice_get mids j ≡ Some y → IsEnd y.shape t (b - t) y.point
    first_end j y at =
        let w = was j y at in
        let e = own_is_end t b true w.0 (part j prefix) (own t step everyone (comes_first (λ (shape : Shape). true)) b stands prefix asks j w.0 w.1) refl in
        subst (λ (z : Stand). IsEnd z.shape t (b - t) z.point) (sym w.2) (subst (λ (z : Shape). IsEnd z t (b - t) (stand_by t w.0 (part j prefix)).point) (sym (shape_kept t w.0 (part j prefix))) e)

    pub counts_as : (j : ℕ) (y : Stand) → slice_get mids j ≡ Some y → end_at t b y ≡ y.point
    counts_as j y at = let e = (first_end j y at).later in ap (λ (z : Bool). if z then b else y.point) (other_number y.point t (omega (arith, e)))

    pub m_low : (j : ℕ) (y : Stand) → slice_get mids j ≡ Some y → m ≤ y.point
    m_low j y at = let l = least_low (end_at t b) b mids j y at in let d = counts_as j y at in omega (arith, l, d)

    abbrev pub Least : Type 0
    Least = ((m ≡ b) × (mids ≡ [])) ⊎ ((x : Stand) × Holds mids x × (m ≡ end_at t b x))

    pub least : Least
    least = least_is (end_at t b) b mids

    pub m_later : t < m
    m_later = by least where
      by : Least → t < m
      by (inl none) = let e = none.0 in omega (arith, e, later)
      by (inr one) = let l = (first_end one.1.0 one.0 one.1.1).later in let d = counts_as one.1.0 one.0 one.1.1 in let e = one.2 in omega (arith, e, d, l)

    pub m_within : m ≤ b
    m_within = by least where
      by : Least → m ≤ b
      by (inl none) = let e = none.0 in omega (arith, e)
      by (inr one) = let l = (first_end one.1.0 one.0 one.1.1).within in let d = counts_as one.1.0 one.0 one.1.1 in let e = one.2 in omega (arith, e, d, l, later)

    -- where none might return early, all end at the bound
    module _ (none : early_count (shapes_in mids) ≡ 0) where
      ends_whole : (j : ℕ) (y : Stand) → slice_get mids j ≡ Some y → y.point ≡ b
      ends_whole j y at = by y.shape.might_return_early refl where
        by : (x : Bool) → y.shape.might_return_early ≡ x → y.point ≡ b
        by true h =
            absurd (let some = counts_one (shapes_in mids) j y.shape (slice_get-map (λ (s : Stand). s.shape) mids j ∙ ap (option_map (λ (s : Stand). s.shape)) at) h in omega (arith, some, none))
        by false h = let w = (first_end j y at).whole h in omega (arith, w, later)

      pub m_whole : m ≡ b
      m_whole = by least where
        by : Least → m ≡ b
        by (inl empty) = empty.0
        by (inr one) = one.2 ∙ counts_as one.1.0 one.0 one.1.1 ∙ ends_whole one.1.0 one.0 one.1.1

      pub all_whole : are_at b mids ≡ true
      all_whole = by (are_at b mids) refl where
        by : (x : Bool) → are_at b mids ≡ x → are_at b mids ≡ true
        by true h = h
        by false h = let one = not_all (λ (s : Stand). s.point == b) mids h in absurd (unequal one.1.point b one.3 (ends_whole one.0 one.1 one.2))

    -- where one doesn't end there, that is before the bound, and one that might return early is there
    module _ (j : ℕ) (y : Stand) (at : slice_get mids j ≡ Some y) (ne : y.point ≢ m) where
      pub m_before : m < b
      m_before = let l = m_low j y at in let w = (first_end j y at).within in omega (arith, l, w, ne, later)

      early_there : (x : Stand) × (k : ℕ) × (slice_get mids k ≡ Some x) × (x.point ≡ m) × (x.shape.might_return_early ≡ true)
      early_there = by least where
        early_one : (k : ℕ) (x : Stand) → slice_get mids k ≡ Some x → x.point ≡ m → (z : Bool) → x.shape.might_return_early ≡ z → x.shape.might_return_early ≡ true
        early_one k x here is true h = h
        early_one k x here is false h = let w = (first_end k x here).whole h in let l = m_before in absurd (omega (arith, w, is, l, later))

        by : Least → (x : Stand) × (k : ℕ) × (slice_get mids k ≡ Some x) × (x.point ≡ m) × (x.shape.might_return_early ≡ true)
        by (inl none) = absurd (none_some y (ap (λ (ss : List Stand). slice_get ss j) (sym none.1) ∙ at))
        by (inr one) =
            let is : one.0.point ≡ m = sym (one.2 ∙ counts_as one.1.0 one.0 one.1.1) in
            (one.0, one.1.0, one.1.1, is, early_one one.1.0 one.0 one.1.1 is one.0.shape.might_return_early refl)

      shape_there : (k : ℕ) (x : Stand) → slice_get mids k ≡ Some x → slice_get (shapes_in mids) k ≡ Some x.shape
      shape_there k x here = slice_get-map (λ (s : Stand). s.shape) mids k ∙ ap (option_map (λ (s : Stand). s.shape)) here

      pub one_early : 0 < early_count (shapes_in mids)
      one_early = let x = early_there in counts_one (shapes_in mids) x.1 x.0.shape (shape_there x.1 x.0 x.2) x.4

      -- and where it might return early itself, these are two
      pub two_early : y.shape.might_return_early ≡ true → 1 < early_count (shapes_in mids)
      two_early h =
          let x = early_there in
          counts_two (shapes_in mids) x.1 j x.0.shape y.shape (λ e. ne (ap (λ (s : Stand). s.point) (same_Some y x.0 (sym at ∙ ap (slice_get mids) (sym e) ∙ x.2)) ∙ x.3))
          (shape_there x.1 x.0 x.2) (shape_there j y at) x.4 h

      -- so its state was saved, where not one alone might
      pub elsewhere_saved : early_count (shapes_in mids) ≢ 1 → is_saved (early_count (shapes_in mids)) y.shape ≡ true
      elsewhere_saved many = let some = one_early in saved_beside_two (early_count (shapes_in mids)) y.shape (omega (arith, some, many))

      -- and it is tested for the size of the next step
      pub counts_elsewhere : ends_elsewhere t b m y ≡ true
      counts_elsewhere = ap not (other_number (end_at t b y) m (λ e. ne (sym (counts_as j y at) ∙ e)))

    -- ---- the second asking

    module _ (back : List Sent) (asks2 : Asks t step (ends_elsewhere t b m) (is_elsewhere m) m mids back) where
      abbrev pub lasts : List Stand
      lasts = stands_by t mids back

      -- one that isn't there at last was elsewhere before, ended early, and after t
      record Missed (z : Stand) : Type 0 where
        y : Stand
        j : ℕ
        at : slice_get mids j ≡ Some y
        ne : y.point ≢ m
        end : IsEnd y.shape t (m - t) z.point
        early : y.shape.might_return_early ≡ true

      missed_early : (y z : Stand) → IsEnd y.shape t (m - t) z.point → z.point ≢ m → (x : Bool) → y.shape.might_return_early ≡ x → y.shape.might_return_early ≡ true
      missed_early y z e ne true h = h
      missed_early y z e ne false h = let w = e.whole h in let l = m_later in absurd (ne (omega (arith, w, l)))

      missed_by : (j : ℕ) (z y : Stand) → slice_get mids j ≡ Some y → z ≡ stand_by t y (part j back) → z.point ≢ m → (x : Bool) → is_elsewhere m y ≡ x → Missed z
      missed_by j z y at is ne true h =
          let end : IsEnd y.shape t (m - t) z.point = subst (λ (s : Stand). IsEnd y.shape t (m - t) s.point) (sym is)
          (own_is_end t m (is_elsewhere m y) y (part j back) (own t step (ends_elsewhere t b m) (is_elsewhere m) m mids back asks2 j y at) h) in
          record { y = y; j = j; at = at; ne = unequal y.point m (unnot (y.point == m) h); end = end; early = missed_early y z end ne y.shape.might_return_early refl }
      missed_by j z y at is ne false h =
          absurd (ne (ap (λ (s : Stand). s.point) (is ∙ own_stays t step all_first j m (is_elsewhere m y) y (part j back) (own t step (ends_elsewhere t b m) (is_elsewhere m) m mids back asks2 j y at) h) ∙ equal y.point m (unflip (y.point == m) h))) where
            unflip : (x : Bool) → not x ≡ false → x ≡ true
            unflip true k = refl
            unflip false k = absurd (cc)

      missed : (j : ℕ) (z : Stand) → slice_get lasts j ≡ Some z → z.point ≢ m → Missed z
      missed j z at ne = let w = stood t step all_first j mids back j z at in missed_by j z w.0 w.1 w.2 ne (is_elsewhere m w.0) refl

      -- where not all are there at last, two might return early
      pub two_at_last : are_at m lasts ≡ false → 1 < early_count (shapes_in mids)
      two_at_last apart =
          let one = not_all (λ (s : Stand). s.point == m) lasts apart in
          let x = missed one.0 one.1 one.2 (unequal one.1.point m one.3) in
          two_early x.j x.y x.at x.ne x.early

      -- each is past t, and at m at most
      pub last_later : (j : ℕ) (z : Stand) → slice_get lasts j ≡ Some z → t < z.point
      last_later j z at = by (z.point == m) refl where
        by : (x : Bool) → (z.point == m) ≡ x → t < z.point
        by true h = let e = equal z.point m h in let l = m_later in omega (arith, e, l)
        by false h = (missed j z at (unequal z.point m h)).end.later

      abbrev c : ℕ
      c = reached t m lasts

      last_counts : (j : ℕ) (z : Stand) → slice_get lasts j ≡ Some z → end_at t m z ≡ z.point
      last_counts j z at = let l = last_later j z at in ap (λ (x : Bool). if x then m else z.point) (other_number z.point t (omega (arith, l)))

      abbrev Last : Type 0
      Last = ((c ≡ m) × (lasts ≡ [])) ⊎ ((x : Stand) × Holds lasts x × (c ≡ end_at t m x))

      last_least : Last
      last_least = least_is (end_at t m) m lasts

      pub c_later : t < c
      c_later = by last_least where
        by : Last → t < c
        by (inl none) = let e = none.0 in let l = m_later in omega (arith, e, l)
        by (inr one) = let l = last_later one.1.0 one.0 one.1.1 in let d = last_counts one.1.0 one.0 one.1.1 in let e = one.2 in omega (arith, e, d, l)

      -- the bound falls
      pub c_before : are_at m lasts ≡ false → c < m
      c_before apart =
          let one = not_all (λ (s : Stand). s.point == m) lasts apart in
          let ne = unequal one.1.point m one.3 in
          let x = missed one.0 one.1 one.2 ne in
          let w = x.end.within in
          let l = m_later in
          let low = least_low (end_at t m) m lasts one.0 one.1 one.2 in
          let d = last_counts one.0 one.1 one.2 in
          omega (arith, w, l, low, d, ne)
